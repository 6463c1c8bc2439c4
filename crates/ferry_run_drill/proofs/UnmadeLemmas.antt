-- Lemmas on specs/Complete.antt: a repository is made where nothing is in the way.
use Rattle.std.proofs.Common.{◌≡◌, inl, ℕ, false, List, Option, Some, None, IfSome, subst, true}
use Rattle.ferry_disk.specs.Device.{Told, told_files}
use Rattle.ferry_disk.specs.Files.{Files}
use Rattle.ferry_gen.specs.Source.{source_secret}
use Rattle.ferry_nonce.specs.declared.fault.NonceFault.TheVariants as Nonces
use Rattle.ferry_piece.specs.Fault.{source_fault, target_fault}
use Rattle.ferry_piece.specs.declared.fault.CarryFault.{CarryFault}
use Rattle.ferry_piece.specs.declared.fault.CarryFault.TheVariants as Carry
use Rattle.ferry_repo.proofs.LawLemmas.{repo_apart}
use Rattle.ferry_repo.specs.Fault.{IsOfFiles, repo_failed}
use Rattle.ferry_repo.specs.Opening.{OpensFilesTo, RefusesRepo, RepoState}
use Rattle.ferry_repo.specs.declared.fault.RepoFault.{RepoFault}
use Rattle.ferry_repo.specs.declared.fault.RepoFault.TheVariants as Repos
use Rattle.ferry_repo.specs.declared.secret.Secret.{Secret}
use Rattle.ferry_status.specs.Status.{carry_status, output_failed}
use Rattle.ferry_status.specs.Opened.{IsDoneUnless}
use Rattle.ferry_store.specs.Key.{FitsGiven}
use Rattle.ferry_store.specs.Store.{RefusesFiles, RefusesInit}
use Rattle.ferry_store.specs.declared.fault.StoreRefusal.{StoreRefusal}
use Rattle.ferry_store.specs.declared.fault.StoreRefusal.TheVariants as Stores
use Rattle.ferry_write.specs.declared.fault.WriteFault.TheVariants as Writes
use Rattle.ferry_run_drill.proofs.SmallLemmas.{first_small}
use Rattle.ferry_run_drill.specs.Complete.{EndsCopy, EndsFrom, MeetsLimit}
use Rattle.ferry_run_drill.specs.Drill.{IsFree, drill_time}

-- a repository that isn't made
pub init_ends : (secret : Secret) (start image : Files) → FitsGiven secret → IsFree start → (refusal : StoreRefusal)
    → RefusesFiles secret drill_time start refusal
    → IsDoneUnless (MeetsLimit start image) (λ other. output_failed other ≡ true) (carry_status (target_fault refusal))
init_ends secret start image unkeyed free (Stores.Repo Repos.NoCommit) refused = absurd (unkeyed Repos.NoCommit refused.1)
init_ends secret start image unkeyed free (Stores.Repo (Repos.Damaged segment at)) refused = absurd (unkeyed (Repos.Damaged segment at) refused.1)
init_ends secret start image unkeyed free (Stores.Repo (Repos.Config cause)) refused = absurd (unkeyed (Repos.Config cause) refused.1)
init_ends secret start image unkeyed free (Stores.Repo (Repos.Key cause)) refused = absurd (unkeyed (Repos.Key cause) refused.1)
init_ends secret start image unkeyed free (Stores.Repo (Repos.Missing id)) refused = absurd (unkeyed (Repos.Missing id) refused.1)
init_ends secret start image unkeyed free (Stores.Repo (Repos.Blob id cause)) refused = absurd (unkeyed (Repos.Blob id cause) refused.1)
init_ends secret start image unkeyed free (Stores.Repo (Repos.Manifest cause)) refused = absurd (unkeyed (Repos.Manifest cause) refused.1)
init_ends secret start image unkeyed free (Stores.Repo (Repos.Archive id cause)) refused = absurd (unkeyed (Repos.Archive id cause) refused.1)
init_ends secret start image unkeyed free (Stores.Repo (Repos.Item id cause)) refused = absurd (unkeyed (Repos.Item id cause) refused.1)
init_ends secret start image unkeyed free (Stores.Repo (Repos.Size id)) refused = absurd (unkeyed (Repos.Size id) refused.1)
init_ends secret start image unkeyed free (Stores.Repo (Repos.KeyFile cause)) refused = absurd (unkeyed (Repos.KeyFile cause) refused.1)
init_ends secret start image unkeyed free (Stores.Repo (Repos.Other file config)) refused = absurd (unkeyed (Repos.Other file config) refused.1)
init_ends secret start image unkeyed free (Stores.Repo Repos.NoKey) refused = absurd (unkeyed Repos.NoKey refused.1)
init_ends secret start image unkeyed free (Stores.Repo Repos.Device) refused = tt
init_ends secret start image unkeyed free (Stores.Repo Repos.Memory) refused = tt
init_ends secret start image unkeyed free (Stores.Write Writes.Device) refused = tt
init_ends secret start image unkeyed free (Stores.Write Writes.Memory) refused = tt
init_ends secret start image unkeyed free (Stores.Write Writes.Numbers) refused = absurd refused
init_ends secret start image unkeyed free (Stores.Nonce Nonces.Missing) refused = absurd refused.1.1
init_ends secret start image unkeyed free (Stores.Nonce Nonces.Text) refused = absurd (refused.1.1 free.number free.counted)
init_ends secret start image unkeyed free (Stores.Nonce Nonces.Exhausted) refused = inl refused.1.1
init_ends secret start image unkeyed free (Stores.Nonce Nonces.Device) refused = tt
init_ends secret start image unkeyed free (Stores.Nonce Nonces.Memory) refused = tt
init_ends secret start image unkeyed free Stores.Committed refused = absurd (refused free.uncommitted)
init_ends secret start image unkeyed free Stores.TooLarge refused = absurd (first_small refused.1.1)
init_ends secret start image unkeyed free Stores.Entropy refused = tt
init_ends secret start image unkeyed free Stores.Memory refused = tt

-- the same, where the target tells its files
pub unmade_ends : (secret : Secret) (timestamp : List ℕ) (a b : Option Told) → FitsGiven secret → timestamp ≡ drill_time
    → (refusal : StoreRefusal) → IfSome a (λ t. RefusesInit secret timestamp t.history refusal) → EndsCopy a b (target_fault refusal)
unmade_ends secret timestamp None b unkeyed time refusal refused = tt
unmade_ends secret timestamp (Some s) None unkeyed time refusal refused = tt
unmade_ends secret timestamp (Some s) (Some t) unkeyed time refusal refused = λ begun free.
    init_ends secret (told_files s) (told_files t) unkeyed free refusal
    (subst (λ (l : List ℕ). RefusesFiles secret l (told_files s) refusal) time (refused begun))

-- a fault that may come at any time
pub ends_anyway : (a b : Option Told) (fault : CarryFault)
    → ((start image : Files) → IsDoneUnless (MeetsLimit start image) (λ other. output_failed other ≡ true) (carry_status fault)) → EndsCopy a b fault
ends_anyway None b fault any = tt
ends_anyway (Some s) None fault any = tt
ends_anyway (Some s) (Some t) fault any = λ begun free. any (told_files s) (told_files t)

pub ends_from_anyway : (source : Files) (a b : Option Told) (fault : CarryFault)
    → ((start image : Files) → IsDoneUnless (MeetsLimit start image) (λ other. output_failed other ≡ true) (carry_status fault)) → EndsFrom source a b fault
ends_from_anyway source a b fault any = λ count most is plain apart. ends_anyway a b fault any

-- a source that was made opens
pub opened_ends : (source : Files) (a b : Option Told) (repo : RepoState) (fault : RepoFault) → OpensFilesTo source source_secret repo
    → repo_failed fault ≡ false → (IsOfFiles fault → RefusesRepo source source_secret fault) → EndsFrom source a b (source_fault fault)
opened_ends source a b repo Repos.NoCommit opens still refused = absurd (repo_apart source source_secret repo Repos.NoCommit opens tt (refused tt))
opened_ends source a b repo (Repos.Damaged segment at) opens still refused =
    absurd (repo_apart source source_secret repo (Repos.Damaged segment at) opens tt (refused tt))
opened_ends source a b repo (Repos.Config cause) opens still refused = absurd (repo_apart source source_secret repo (Repos.Config cause) opens tt (refused tt))
opened_ends source a b repo (Repos.Key cause) opens still refused = absurd (repo_apart source source_secret repo (Repos.Key cause) opens tt (refused tt))
opened_ends source a b repo (Repos.Missing id) opens still refused = absurd (repo_apart source source_secret repo (Repos.Missing id) opens tt (refused tt))
opened_ends source a b repo (Repos.Blob id cause) opens still refused =
    absurd (repo_apart source source_secret repo (Repos.Blob id cause) opens tt (refused tt))
opened_ends source a b repo (Repos.Manifest cause) opens still refused =
    absurd (repo_apart source source_secret repo (Repos.Manifest cause) opens tt (refused tt))
opened_ends source a b repo (Repos.Archive id cause) opens still refused =
    absurd (repo_apart source source_secret repo (Repos.Archive id cause) opens tt (refused tt))
opened_ends source a b repo (Repos.Item id cause) opens still refused =
    absurd (repo_apart source source_secret repo (Repos.Item id cause) opens tt (refused tt))
opened_ends source a b repo (Repos.Size id) opens still refused = absurd (repo_apart source source_secret repo (Repos.Size id) opens tt (refused tt))
opened_ends source a b repo (Repos.KeyFile cause) opens still refused =
    absurd (repo_apart source source_secret repo (Repos.KeyFile cause) opens tt (refused tt))
opened_ends source a b repo (Repos.Other file config) opens still refused =
    absurd (repo_apart source source_secret repo (Repos.Other file config) opens tt (refused tt))
opened_ends source a b repo Repos.NoKey opens still refused = absurd (repo_apart source source_secret repo Repos.NoKey opens tt (refused tt))
opened_ends source a b repo Repos.Device opens still refused = absurd (let no : ⊥ = cc in no)
opened_ends source a b repo Repos.Memory opens still refused = ends_from_anyway source a b Carry.Memory (λ start image. tt)
