-- Lemmas on specs/Status.antt and specs/Run.antt: what a fault says, its status says.
use Rattle.std.proofs.Common.{◌≡◌, ℕ, false, List, Option, IfSome, refl, sym, ◌∙◌, inr}
use Rattle.ferry_piece.specs.Fault.{random_failed as carried_random, shelf_failed as carried_source, target_failed as carried_target}
use Rattle.ferry_piece.specs.declared.fault.CarryFault.{CarryFault}
use Rattle.ferry_piece.specs.declared.fault.CarryFault.TheVariants as Carry
use Rattle.ferry_disk.specs.Files.{Files}
use Rattle.ferry_disk.specs.Device.{Told, told_files, WritesSome, RoseWhere}
use Rattle.ferry_log.specs.Fault.{log_failed}
use Rattle.ferry_log.specs.declared.fault.LogFault.{LogFault}
use Rattle.ferry_log.specs.declared.fault.LogFault.TheVariants as Log
use Rattle.ferry_repo.specs.Fault.{repo_failed}
use Rattle.ferry_repo.specs.declared.fault.RepoFault.{RepoFault}
use Rattle.ferry_repo.specs.declared.fault.RepoFault.TheVariants as Repo
use Rattle.ferry_view.specs.Output.{shelf_failed, view_failed}
use Rattle.ferry_view.specs.declared.fault.ViewFault.{ViewFault}
use Rattle.ferry_view.specs.declared.fault.ViewFault.TheVariants as View
use Rattle.ferry_status.specs.Devices.{Written}
use Rattle.ferry_status.specs.Output.{Prints}
use Rattle.ferry_nonce.specs.declared.fault.NonceFault.TheVariants as Nonces
use Rattle.ferry_store.specs.Fault.{depot_failed, source_failed as drawing_failed}
use Rattle.ferry_store.specs.declared.fault.StoreRefusal.{StoreRefusal}
use Rattle.ferry_store.specs.declared.fault.StoreRefusal.TheVariants as Store
use Rattle.ferry_status.specs.Status.{carry_status, log_status, output_status, repo_status, store_status, target_status, view_status}
use Rattle.ferry_status.specs.Status.{source_failed, target_failed, entropy_failed, output_failed}
use Rattle.ferry_status.specs.declared.status.Limit.{Limit}
use Rattle.ferry_status.specs.declared.status.Refusal.{Refusal}
use Rattle.ferry_status.specs.declared.status.Status.{Status}
use Rattle.ferry_status.specs.declared.status.Status.TheVariants as TheStatus
use Rattle.ferry_write.specs.declared.fault.WriteFault.TheVariants as Writes

-- ---- which device failed

pub failed_of_log : (fault : LogFault) → source_failed (log_status fault) ≡ log_failed fault
failed_of_log Log.NoCommit = refl
failed_of_log (Log.Damaged segment at) = refl
failed_of_log Log.Device = refl
failed_of_log Log.Memory = refl

pub failed_of_repo : (fault : RepoFault) → source_failed (repo_status fault) ≡ repo_failed fault
failed_of_repo Repo.NoCommit = refl
failed_of_repo (Repo.Damaged segment at) = refl
failed_of_repo (Repo.Config fault) = refl
failed_of_repo (Repo.Key fault) = refl
failed_of_repo (Repo.Missing id) = refl
failed_of_repo (Repo.Blob id fault) = refl
failed_of_repo (Repo.Manifest fault) = refl
failed_of_repo (Repo.Archive id fault) = refl
failed_of_repo (Repo.Item id fault) = refl
failed_of_repo (Repo.Size id) = refl
failed_of_repo (Repo.KeyFile fault) = refl
failed_of_repo (Repo.Other file config) = refl
failed_of_repo Repo.NoKey = refl
failed_of_repo Repo.Device = refl
failed_of_repo Repo.Memory = refl

pub failed_of_output : (fault : ViewFault) → source_failed (output_status fault) ≡ false
failed_of_output (View.Repo fault) = refl
failed_of_output View.NotFound = refl
failed_of_output View.Output = refl
failed_of_output View.Memory = refl

pub failed_of_view : (fault : ViewFault) (missing : List ℕ) → source_failed (view_status fault missing) ≡ shelf_failed fault
failed_of_view (View.Repo fault) missing = failed_of_repo fault
failed_of_view View.NotFound missing = refl
failed_of_view View.Output missing = refl
failed_of_view View.Memory missing = refl

-- of a store

target_of_repo : (fault : RepoFault) → target_failed (target_status fault) ≡ repo_failed fault
target_of_repo Repo.NoCommit = refl
target_of_repo (Repo.Damaged segment at) = refl
target_of_repo (Repo.Config fault) = refl
target_of_repo (Repo.Key fault) = refl
target_of_repo (Repo.Missing id) = refl
target_of_repo (Repo.Blob id fault) = refl
target_of_repo (Repo.Manifest fault) = refl
target_of_repo (Repo.Archive id fault) = refl
target_of_repo (Repo.Item id fault) = refl
target_of_repo (Repo.Size id) = refl
target_of_repo (Repo.KeyFile fault) = refl
target_of_repo (Repo.Other file config) = refl
target_of_repo Repo.NoKey = refl
target_of_repo Repo.Device = refl
target_of_repo Repo.Memory = refl

depot_of_repo : (fault : RepoFault) → depot_failed (Store.Repo fault) ≡ repo_failed fault
depot_of_repo Repo.NoCommit = refl
depot_of_repo (Repo.Damaged segment at) = refl
depot_of_repo (Repo.Config fault) = refl
depot_of_repo (Repo.Key fault) = refl
depot_of_repo (Repo.Missing id) = refl
depot_of_repo (Repo.Blob id fault) = refl
depot_of_repo (Repo.Manifest fault) = refl
depot_of_repo (Repo.Archive id fault) = refl
depot_of_repo (Repo.Item id fault) = refl
depot_of_repo (Repo.Size id) = refl
depot_of_repo (Repo.KeyFile fault) = refl
depot_of_repo (Repo.Other file config) = refl
depot_of_repo Repo.NoKey = refl
depot_of_repo Repo.Device = refl
depot_of_repo Repo.Memory = refl

pub target_of_store : (refusal : StoreRefusal) → target_failed (store_status refusal) ≡ depot_failed refusal
target_of_store (Store.Repo fault) = target_of_repo fault ∙ sym (depot_of_repo fault)
target_of_store (Store.Write Writes.Device) = refl
target_of_store (Store.Write Writes.Memory) = refl
target_of_store (Store.Write Writes.Numbers) = refl
target_of_store (Store.Nonce Nonces.Missing) = refl
target_of_store (Store.Nonce Nonces.Text) = refl
target_of_store (Store.Nonce Nonces.Exhausted) = refl
target_of_store (Store.Nonce Nonces.Device) = refl
target_of_store (Store.Nonce Nonces.Memory) = refl
target_of_store Store.Committed = refl
target_of_store Store.TooLarge = refl
target_of_store Store.Entropy = refl
target_of_store Store.Memory = refl

-- what the status of a refusal isn't
pub record IsOfStore (status : Status) : Type 0 where
  pub source : source_failed status ≡ false
  pub output : output_failed status ≡ false
  pub used : (n : ℕ) → status ≡ TheStatus.Usage n → ⊥
  pub done : status ≡ TheStatus.Done → ⊥

device_is : IsOfStore TheStatus.TargetDevice
device_is = record { source = refl; output = refl; used = λ n e. let no : ⊥ = cc in no; done = λ e. let no : ⊥ = cc in no }

memory_is : IsOfStore TheStatus.Memory
memory_is = record { source = refl; output = refl; used = λ n e. let no : ⊥ = cc in no; done = λ e. let no : ⊥ = cc in no }

entropy_is : IsOfStore TheStatus.EntropyDevice
entropy_is = record { source = refl; output = refl; used = λ n e. let no : ⊥ = cc in no; done = λ e. let no : ⊥ = cc in no }

refused_is : (refusal : Refusal) → IsOfStore (TheStatus.TargetRefused refusal)
refused_is refusal = record { source = refl; output = refl; used = λ n e. let no : ⊥ = cc in no; done = λ e. let no : ⊥ = cc in no }

limit_is : (limit : Limit) → IsOfStore (TheStatus.Limit limit)
limit_is limit = record { source = refl; output = refl; used = λ n e. let no : ⊥ = cc in no; done = λ e. let no : ⊥ = cc in no }

of_target : (fault : RepoFault) → IsOfStore (target_status fault)
of_target Repo.NoCommit = refused_is _
of_target (Repo.Damaged segment at) = refused_is _
of_target (Repo.Config fault) = refused_is _
of_target (Repo.Key fault) = refused_is _
of_target (Repo.Missing id) = refused_is _
of_target (Repo.Blob id fault) = refused_is _
of_target (Repo.Manifest fault) = refused_is _
of_target (Repo.Archive id fault) = refused_is _
of_target (Repo.Item id fault) = refused_is _
of_target (Repo.Size id) = refused_is _
of_target (Repo.KeyFile fault) = refused_is _
of_target (Repo.Other file config) = refused_is _
of_target Repo.NoKey = refused_is _
of_target Repo.Device = device_is
of_target Repo.Memory = memory_is

pub of_store : (refusal : StoreRefusal) → IsOfStore (store_status refusal)
of_store (Store.Repo fault) = of_target fault
of_store (Store.Write Writes.Device) = device_is
of_store (Store.Write Writes.Memory) = memory_is
of_store (Store.Write Writes.Numbers) = limit_is _
of_store (Store.Nonce Nonces.Missing) = refused_is _
of_store (Store.Nonce Nonces.Text) = refused_is _
of_store (Store.Nonce Nonces.Exhausted) = limit_is _
of_store (Store.Nonce Nonces.Device) = device_is
of_store (Store.Nonce Nonces.Memory) = memory_is
of_store Store.Committed = refused_is _
of_store Store.TooLarge = limit_is _
of_store Store.Entropy = entropy_is
of_store Store.Memory = memory_is

entropy_of_target : (fault : RepoFault) → entropy_failed (target_status fault) ≡ false
entropy_of_target Repo.NoCommit = refl
entropy_of_target (Repo.Damaged segment at) = refl
entropy_of_target (Repo.Config fault) = refl
entropy_of_target (Repo.Key fault) = refl
entropy_of_target (Repo.Missing id) = refl
entropy_of_target (Repo.Blob id fault) = refl
entropy_of_target (Repo.Manifest fault) = refl
entropy_of_target (Repo.Archive id fault) = refl
entropy_of_target (Repo.Item id fault) = refl
entropy_of_target (Repo.Size id) = refl
entropy_of_target (Repo.KeyFile fault) = refl
entropy_of_target (Repo.Other file config) = refl
entropy_of_target Repo.NoKey = refl
entropy_of_target Repo.Device = refl
entropy_of_target Repo.Memory = refl

pub entropy_of_store : (refusal : StoreRefusal) → entropy_failed (store_status refusal) ≡ drawing_failed refusal
entropy_of_store (Store.Repo fault) = entropy_of_target fault
entropy_of_store (Store.Write Writes.Device) = refl
entropy_of_store (Store.Write Writes.Memory) = refl
entropy_of_store (Store.Write Writes.Numbers) = refl
entropy_of_store (Store.Nonce Nonces.Missing) = refl
entropy_of_store (Store.Nonce Nonces.Text) = refl
entropy_of_store (Store.Nonce Nonces.Exhausted) = refl
entropy_of_store (Store.Nonce Nonces.Device) = refl
entropy_of_store (Store.Nonce Nonces.Memory) = refl
entropy_of_store Store.Committed = refl
entropy_of_store Store.TooLarge = refl
entropy_of_store Store.Entropy = refl
entropy_of_store Store.Memory = refl

pub entropy_of_output : (fault : ViewFault) → entropy_failed (output_status fault) ≡ false
entropy_of_output (View.Repo fault) = refl
entropy_of_output View.NotFound = refl
entropy_of_output View.Output = refl
entropy_of_output View.Memory = refl

-- of a transfer

quiet_of_repo : (fault : RepoFault) → output_failed (repo_status fault) ≡ false
quiet_of_repo Repo.NoCommit = refl
quiet_of_repo (Repo.Damaged segment at) = refl
quiet_of_repo (Repo.Config fault) = refl
quiet_of_repo (Repo.Key fault) = refl
quiet_of_repo (Repo.Missing id) = refl
quiet_of_repo (Repo.Blob id fault) = refl
quiet_of_repo (Repo.Manifest fault) = refl
quiet_of_repo (Repo.Archive id fault) = refl
quiet_of_repo (Repo.Item id fault) = refl
quiet_of_repo (Repo.Size id) = refl
quiet_of_repo (Repo.KeyFile fault) = refl
quiet_of_repo (Repo.Other file config) = refl
quiet_of_repo Repo.NoKey = refl
quiet_of_repo Repo.Device = refl
quiet_of_repo Repo.Memory = refl

target_of_source : (fault : RepoFault) → target_failed (repo_status fault) ≡ false
target_of_source Repo.NoCommit = refl
target_of_source (Repo.Damaged segment at) = refl
target_of_source (Repo.Config fault) = refl
target_of_source (Repo.Key fault) = refl
target_of_source (Repo.Missing id) = refl
target_of_source (Repo.Blob id fault) = refl
target_of_source (Repo.Manifest fault) = refl
target_of_source (Repo.Archive id fault) = refl
target_of_source (Repo.Item id fault) = refl
target_of_source (Repo.Size id) = refl
target_of_source (Repo.KeyFile fault) = refl
target_of_source (Repo.Other file config) = refl
target_of_source Repo.NoKey = refl
target_of_source Repo.Device = refl
target_of_source Repo.Memory = refl

entropy_of_source : (fault : RepoFault) → entropy_failed (repo_status fault) ≡ false
entropy_of_source Repo.NoCommit = refl
entropy_of_source (Repo.Damaged segment at) = refl
entropy_of_source (Repo.Config fault) = refl
entropy_of_source (Repo.Key fault) = refl
entropy_of_source (Repo.Missing id) = refl
entropy_of_source (Repo.Blob id fault) = refl
entropy_of_source (Repo.Manifest fault) = refl
entropy_of_source (Repo.Archive id fault) = refl
entropy_of_source (Repo.Item id fault) = refl
entropy_of_source (Repo.Size id) = refl
entropy_of_source (Repo.KeyFile fault) = refl
entropy_of_source (Repo.Other file config) = refl
entropy_of_source Repo.NoKey = refl
entropy_of_source Repo.Device = refl
entropy_of_source Repo.Memory = refl

used_of_repo : (fault : RepoFault) (n : ℕ) → repo_status fault ≡ TheStatus.Usage n → ⊥
used_of_repo Repo.NoCommit n e = let no : ⊥ = cc in no
used_of_repo (Repo.Damaged segment at) n e = let no : ⊥ = cc in no
used_of_repo (Repo.Config fault) n e = let no : ⊥ = cc in no
used_of_repo (Repo.Key fault) n e = let no : ⊥ = cc in no
used_of_repo (Repo.Missing id) n e = let no : ⊥ = cc in no
used_of_repo (Repo.Blob id fault) n e = let no : ⊥ = cc in no
used_of_repo (Repo.Manifest fault) n e = let no : ⊥ = cc in no
used_of_repo (Repo.Archive id fault) n e = let no : ⊥ = cc in no
used_of_repo (Repo.Item id fault) n e = let no : ⊥ = cc in no
used_of_repo (Repo.Size id) n e = let no : ⊥ = cc in no
used_of_repo (Repo.KeyFile fault) n e = let no : ⊥ = cc in no
used_of_repo (Repo.Other file config) n e = let no : ⊥ = cc in no
used_of_repo Repo.NoKey n e = let no : ⊥ = cc in no
used_of_repo Repo.Device n e = let no : ⊥ = cc in no
used_of_repo Repo.Memory n e = let no : ⊥ = cc in no

pub source_of_carry : (fault : CarryFault) → source_failed (carry_status fault) ≡ carried_source fault
source_of_carry (Carry.Source fault) = failed_of_repo fault
source_of_carry (Carry.Target refusal) = (of_store refusal).source
source_of_carry (Carry.Taken name) = refl
source_of_carry (Carry.NotFound name) = refl
source_of_carry Carry.Pieces = refl
source_of_carry Carry.Memory = refl
source_of_carry Carry.Record = refl

pub target_of_carry : (fault : CarryFault) → target_failed (carry_status fault) ≡ carried_target fault
target_of_carry (Carry.Source fault) = target_of_source fault
target_of_carry (Carry.Target refusal) = target_of_store refusal
target_of_carry (Carry.Taken name) = refl
target_of_carry (Carry.NotFound name) = refl
target_of_carry Carry.Pieces = refl
target_of_carry Carry.Memory = refl
target_of_carry Carry.Record = refl

pub entropy_of_carry : (fault : CarryFault) → entropy_failed (carry_status fault) ≡ carried_random fault
entropy_of_carry (Carry.Source fault) = entropy_of_source fault
entropy_of_carry (Carry.Target refusal) = entropy_of_store refusal
entropy_of_carry (Carry.Taken name) = refl
entropy_of_carry (Carry.NotFound name) = refl
entropy_of_carry Carry.Pieces = refl
entropy_of_carry Carry.Memory = refl
entropy_of_carry Carry.Record = refl

pub quiet_of_carry : (fault : CarryFault) → output_failed (carry_status fault) ≡ false
quiet_of_carry (Carry.Source fault) = quiet_of_repo fault
quiet_of_carry (Carry.Target refusal) = (of_store refusal).output
quiet_of_carry (Carry.Taken name) = refl
quiet_of_carry (Carry.NotFound name) = refl
quiet_of_carry Carry.Pieces = refl
quiet_of_carry Carry.Memory = refl
quiet_of_carry Carry.Record = refl

pub used_of_carry : (fault : CarryFault) (n : ℕ) → carry_status fault ≡ TheStatus.Usage n → ⊥
used_of_carry (Carry.Source fault) n e = used_of_repo fault n e
used_of_carry (Carry.Target refusal) n e = (of_store refusal).used n e
used_of_carry (Carry.Taken name) n e = let no : ⊥ = cc in no
used_of_carry (Carry.NotFound name) n e = let no : ⊥ = cc in no
used_of_carry Carry.Pieces n e = let no : ⊥ = cc in no
used_of_carry Carry.Memory n e = let no : ⊥ = cc in no
used_of_carry Carry.Record n e = let no : ⊥ = cc in no

pub ruleset carried = (source_of_carry, target_of_carry, entropy_of_carry, quiet_of_carry, used_of_carry)

pub ruleset causes = (failed_of_log, failed_of_repo, failed_of_output, failed_of_view, target_of_store, entropy_of_store, entropy_of_output)

-- ---- what was written

-- a text that isn't out whole
pub cut_text : (IsText : Files → List ℕ → Type 0) (Refuses : Files → Refusal → Type 0) (source : Option Told) (before after : Written) (text : List ℕ)
    (fault : ViewFault)
    → IfSome source (λ t. IsText (told_files t) text) → WritesSome before.bytes text after.bytes → RoseWhere (view_failed fault) before.faults after.faults
    → Prints IsText Refuses source before (output_status fault) after
cut_text IsText Refuses source before after text View.Output is some cause = (text, is, some, cause)
cut_text IsText Refuses source before after text (View.Repo fault) is some cause = inr (text, is, some, cause)
cut_text IsText Refuses source before after text View.NotFound is some cause = inr (text, is, some, cause)
cut_text IsText Refuses source before after text View.Memory is some cause = inr (text, is, some, cause)
