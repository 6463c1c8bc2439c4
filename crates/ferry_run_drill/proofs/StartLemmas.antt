-- Lemmas on specs/Drill.antt: what a refusal says of the files that the target had.
use Rattle.std.proofs.Common.{inl, inr, ℕ, List, Option, Some}
use Rattle.ferry_carry.specs.Carrying.{Origin}
use Rattle.ferry_carry.specs.Refusals.{RefusesNames}
use Rattle.ferry_disk.specs.Device.{Told, told_files}
use Rattle.ferry_disk.specs.Files.{Files}
use Rattle.ferry_mac.specs.declared.keys.Keys.{Keys}
use Rattle.ferry_nonce.specs.declared.fault.NonceFault.TheVariants as Nonces
use Rattle.ferry_piece.specs.Fault.{target_fault}
use Rattle.ferry_piece.specs.Stops.{StopsTarget}
use Rattle.ferry_piece.specs.declared.fault.CarryFault.{CarryFault}
use Rattle.ferry_piece.specs.declared.fault.CarryFault.TheVariants as Carry
use Rattle.ferry_repo.specs.Opening.{repo_view}
use Rattle.ferry_repo.specs.declared.fault.RepoFault.{RepoFault}
use Rattle.ferry_repo.specs.declared.fault.RepoFault.TheVariants as Repos
use Rattle.ferry_repo.specs.declared.secret.Secret.{Secret}
use Rattle.ferry_status.specs.Status.{carry_status, repo_status, store_status, target_status}
use Rattle.ferry_store.specs.Causes.{StopsAt}
use Rattle.ferry_store.specs.Store.{RefusesFiles}
use Rattle.ferry_store.specs.declared.fault.StoreRefusal.{StoreRefusal}
use Rattle.ferry_store.specs.declared.fault.StoreRefusal.TheVariants as Stores
use Rattle.ferry_store.specs.declared.store.Store.{Store}
use Rattle.ferry_write.specs.declared.fault.WriteFault.TheVariants as Writes
use Rattle.ferry_run_drill.proofs.SmallLemmas.{first_small}
use Rattle.ferry_store.specs.Key.{FitsGiven}
use Rattle.ferry_run_drill.specs.Drill.{IsFree, TellsStart, drill_time}

-- ---- where the target was free

pub source_tells : (start : Files) (fault : RepoFault) → IsFree start → TellsStart start (repo_status fault)
source_tells start Repos.NoCommit free = free
source_tells start (Repos.Damaged segment at) free = free
source_tells start (Repos.Config cause) free = free
source_tells start (Repos.Key cause) free = free
source_tells start (Repos.Missing id) free = free
source_tells start (Repos.Blob id cause) free = free
source_tells start (Repos.Manifest cause) free = free
source_tells start (Repos.Archive id cause) free = free
source_tells start (Repos.Item id cause) free = free
source_tells start (Repos.Size id) free = free
source_tells start (Repos.KeyFile cause) free = free
source_tells start (Repos.Other file config) free = free
source_tells start Repos.NoKey free = free
source_tells start Repos.Device free = free
source_tells start Repos.Memory free = tt

pub target_tells : (start : Files) (fault : RepoFault) → IsFree start → TellsStart start (target_status fault)
target_tells start Repos.NoCommit free = free
target_tells start (Repos.Damaged segment at) free = free
target_tells start (Repos.Config cause) free = free
target_tells start (Repos.Key cause) free = free
target_tells start (Repos.Missing id) free = free
target_tells start (Repos.Blob id cause) free = free
target_tells start (Repos.Manifest cause) free = free
target_tells start (Repos.Archive id cause) free = free
target_tells start (Repos.Item id cause) free = free
target_tells start (Repos.Size id) free = free
target_tells start (Repos.KeyFile cause) free = free
target_tells start (Repos.Other file config) free = free
target_tells start Repos.NoKey free = free
target_tells start Repos.Device free = tt
target_tells start Repos.Memory free = tt

-- a target that was made and can't be written on
stopped_tells : (start files image : Files) (keys : Keys) (refusal : StoreRefusal) → IsFree start → StopsAt files image keys refusal
    → TellsStart start (store_status refusal)
stopped_tells start files image keys (Stores.Repo fault) free stops = target_tells start fault free
stopped_tells start files image keys (Stores.Write Writes.Device) free stops = tt
stopped_tells start files image keys (Stores.Write Writes.Memory) free stops = tt
stopped_tells start files image keys (Stores.Write Writes.Numbers) free stops = free
stopped_tells start files image keys (Stores.Nonce Nonces.Missing) free stops = absurd stops
stopped_tells start files image keys (Stores.Nonce Nonces.Text) free stops = absurd stops
stopped_tells start files image keys (Stores.Nonce Nonces.Exhausted) free stops = free
stopped_tells start files image keys (Stores.Nonce Nonces.Device) free stops = tt
stopped_tells start files image keys (Stores.Nonce Nonces.Memory) free stops = tt
stopped_tells start files image keys Stores.Committed free stops = absurd stops
stopped_tells start files image keys Stores.TooLarge free stops = free
stopped_tells start files image keys Stores.Entropy free stops = tt
stopped_tells start files image keys Stores.Memory free stops = tt

-- the refusal of a target that stops names that are carried
target_stops : (from : Origin) (heard now : Option Told) (store store_now : Store) (names : List (List ℕ)) (refusal : StoreRefusal)
    → RefusesNames from heard store now store_now names (Carry.Target refusal) → StopsTarget now (repo_view store.repo).keys (Carry.Target refusal)
target_stops from heard now store store_now names refusal (inl behind) = behind.refused
target_stops from heard now store store_now names refusal (inr telling) = telling.1

pub names_tell : (from : Origin) (heard : Option Told) (now : Told) (store store_now : Store) (names : List (List ℕ)) (start : Files) (fault : CarryFault)
    → IsFree start → RefusesNames from heard store (Some now) store_now names fault → TellsStart start (carry_status fault)
names_tell from heard now store store_now names start (Carry.Source fault) free refused = source_tells start fault free
names_tell from heard now store store_now names start (Carry.Target refusal) free refused =
    stopped_tells start now.history.start (told_files now) (repo_view store.repo).keys refusal free
    (target_stops from heard (Some now) store store_now names refusal refused)
names_tell from heard now store store_now names start (Carry.Taken name) free refused = free
names_tell from heard now store store_now names start (Carry.NotFound name) free refused = free
names_tell from heard now store store_now names start Carry.Pieces free refused = free
names_tell from heard now store store_now names start Carry.Memory free refused = tt
names_tell from heard now store store_now names start Carry.Record free refused = free

-- ---- a repository that isn't made

pub init_tells : (secret : Secret) (start : Files) → FitsGiven secret → (refusal : StoreRefusal) → RefusesFiles secret drill_time start refusal
    → TellsStart start (carry_status (target_fault refusal))
init_tells secret start unkeyed (Stores.Repo Repos.NoCommit) refused = absurd (unkeyed Repos.NoCommit refused.1)
init_tells secret start unkeyed (Stores.Repo (Repos.Damaged segment at)) refused = absurd (unkeyed (Repos.Damaged segment at) refused.1)
init_tells secret start unkeyed (Stores.Repo (Repos.Config cause)) refused = absurd (unkeyed (Repos.Config cause) refused.1)
init_tells secret start unkeyed (Stores.Repo (Repos.Key cause)) refused = absurd (unkeyed (Repos.Key cause) refused.1)
init_tells secret start unkeyed (Stores.Repo (Repos.Missing id)) refused = absurd (unkeyed (Repos.Missing id) refused.1)
init_tells secret start unkeyed (Stores.Repo (Repos.Blob id cause)) refused = absurd (unkeyed (Repos.Blob id cause) refused.1)
init_tells secret start unkeyed (Stores.Repo (Repos.Manifest cause)) refused = absurd (unkeyed (Repos.Manifest cause) refused.1)
init_tells secret start unkeyed (Stores.Repo (Repos.Archive id cause)) refused = absurd (unkeyed (Repos.Archive id cause) refused.1)
init_tells secret start unkeyed (Stores.Repo (Repos.Item id cause)) refused = absurd (unkeyed (Repos.Item id cause) refused.1)
init_tells secret start unkeyed (Stores.Repo (Repos.Size id)) refused = absurd (unkeyed (Repos.Size id) refused.1)
init_tells secret start unkeyed (Stores.Repo (Repos.KeyFile cause)) refused = absurd (unkeyed (Repos.KeyFile cause) refused.1)
init_tells secret start unkeyed (Stores.Repo (Repos.Other file config)) refused = absurd (unkeyed (Repos.Other file config) refused.1)
init_tells secret start unkeyed (Stores.Repo Repos.NoKey) refused = absurd (unkeyed Repos.NoKey refused.1)
init_tells secret start unkeyed (Stores.Repo Repos.Device) refused = tt
init_tells secret start unkeyed (Stores.Repo Repos.Memory) refused = tt
init_tells secret start unkeyed (Stores.Write Writes.Device) refused = tt
init_tells secret start unkeyed (Stores.Write Writes.Memory) refused = tt
init_tells secret start unkeyed (Stores.Write Writes.Numbers) refused = absurd refused
init_tells secret start unkeyed (Stores.Nonce Nonces.Missing) refused = absurd refused.1.1
init_tells secret start unkeyed (Stores.Nonce Nonces.Text) refused = (refused.0, refused.1.1)
init_tells secret start unkeyed (Stores.Nonce Nonces.Exhausted) refused =
    record { uncommitted = refused.0; number = refused.1.1.free; counted = refused.1.1.number }
init_tells secret start unkeyed (Stores.Nonce Nonces.Device) refused = tt
init_tells secret start unkeyed (Stores.Nonce Nonces.Memory) refused = tt
init_tells secret start unkeyed Stores.Committed refused = refused
init_tells secret start unkeyed Stores.TooLarge refused = absurd (first_small refused.1.1)
init_tells secret start unkeyed Stores.Entropy refused = tt
init_tells secret start unkeyed Stores.Memory refused = tt
