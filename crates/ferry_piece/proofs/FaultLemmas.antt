-- Lemmas on specs/Fault.antt: whose device a fault is, and what it says of the target's files.
use Rattle.std.proofs.Common.{◌≡◌, ◌≢◌, ℕ, Bool, true, false, List, Option, Some, None, IfSome, refl, subst}
use Rattle.std.proofs.lemmas.Option.{IfSome_then}
use Rattle.ferry_disk.specs.Device.{Told, told_files}
use Rattle.ferry_disk.specs.Faults.{FailedWhere}
use Rattle.ferry_disk.specs.Files.{Files}
use Rattle.ferry_mac.specs.declared.keys.Keys.{Keys}
use Rattle.ferry_repo.specs.Fault.{repo_failed}
use Rattle.ferry_repo.specs.declared.fault.RepoFault.{RepoFault}
use Rattle.ferry_repo.specs.declared.fault.RepoFault.TheVariants as Repos
use Rattle.ferry_store.specs.Fault.{depot_failed, source_failed}
use Rattle.ferry_store.specs.declared.fault.StoreRefusal.{StoreRefusal}
use Rattle.ferry_store.specs.declared.fault.StoreRefusal.TheVariants as Stores
use Rattle.ferry_store.specs.Adding.{RefusesAdd}
use Rattle.ferry_store.specs.Causes.{StopsAt}
use Rattle.ferry_store.specs.State.{RefusesCommit}
use Rattle.ferry_store.specs.declared.store.Store.{Store}
use Rattle.ferry_write.specs.declared.session.Session.{Session}
use Rattle.ferry_piece.specs.Stops.{StopsPieces, StopsTarget, is_target}
use Rattle.ferry_piece.specs.declared.fault.CarryFault.{CarryFault}
use Rattle.ferry_piece.specs.declared.fault.CarryFault.TheVariants as Carry
use Rattle.ferry_piece.specs.Fault.{random_failed, shelf_failed, source_fault, target_failed, target_fault}

pub failed_source : (fault : RepoFault) → shelf_failed (source_fault fault) ≡ repo_failed fault
failed_source Repos.NoCommit = refl
failed_source (Repos.Damaged segment at) = refl
failed_source (Repos.Config f) = refl
failed_source (Repos.Key f) = refl
failed_source (Repos.Missing id) = refl
failed_source (Repos.Blob id f) = refl
failed_source (Repos.Manifest f) = refl
failed_source (Repos.Archive id f) = refl
failed_source (Repos.Item id f) = refl
failed_source (Repos.Size id) = refl
failed_source (Repos.KeyFile f) = refl
failed_source (Repos.Other file config) = refl
failed_source Repos.NoKey = refl
failed_source Repos.Device = refl
failed_source Repos.Memory = refl

pub source_still : (fault : RepoFault) → target_failed (source_fault fault) ≡ false
source_still Repos.NoCommit = refl
source_still (Repos.Damaged segment at) = refl
source_still (Repos.Config f) = refl
source_still (Repos.Key f) = refl
source_still (Repos.Missing id) = refl
source_still (Repos.Blob id f) = refl
source_still (Repos.Manifest f) = refl
source_still (Repos.Archive id f) = refl
source_still (Repos.Item id f) = refl
source_still (Repos.Size id) = refl
source_still (Repos.KeyFile f) = refl
source_still (Repos.Other file config) = refl
source_still Repos.NoKey = refl
source_still Repos.Device = refl
source_still Repos.Memory = refl

pub source_undrawn : (fault : RepoFault) → random_failed (source_fault fault) ≡ false
source_undrawn Repos.NoCommit = refl
source_undrawn (Repos.Damaged segment at) = refl
source_undrawn (Repos.Config f) = refl
source_undrawn (Repos.Key f) = refl
source_undrawn (Repos.Missing id) = refl
source_undrawn (Repos.Blob id f) = refl
source_undrawn (Repos.Manifest f) = refl
source_undrawn (Repos.Archive id f) = refl
source_undrawn (Repos.Item id f) = refl
source_undrawn (Repos.Size id) = refl
source_undrawn (Repos.KeyFile f) = refl
source_undrawn (Repos.Other file config) = refl
source_undrawn Repos.NoKey = refl
source_undrawn Repos.Device = refl
source_undrawn Repos.Memory = refl

pub failed_target : (refusal : StoreRefusal) → target_failed (target_fault refusal) ≡ depot_failed refusal
failed_target (Stores.Repo fault) = refl
failed_target (Stores.Write fault) = refl
failed_target (Stores.Nonce fault) = refl
failed_target Stores.Committed = refl
failed_target Stores.TooLarge = refl
failed_target Stores.Entropy = refl
failed_target Stores.Memory = refl

pub target_still : (refusal : StoreRefusal) → shelf_failed (target_fault refusal) ≡ false
target_still (Stores.Repo fault) = refl
target_still (Stores.Write fault) = refl
target_still (Stores.Nonce fault) = refl
target_still Stores.Committed = refl
target_still Stores.TooLarge = refl
target_still Stores.Entropy = refl
target_still Stores.Memory = refl

pub failed_random : (refusal : StoreRefusal) → random_failed (target_fault refusal) ≡ source_failed refusal
failed_random (Stores.Repo fault) = refl
failed_random (Stores.Write fault) = refl
failed_random (Stores.Nonce fault) = refl
failed_random Stores.Committed = refl
failed_random Stores.TooLarge = refl
failed_random Stores.Entropy = refl
failed_random Stores.Memory = refl

pub target_is : (refusal : StoreRefusal) → is_target (target_fault refusal) ≡ true
target_is (Stores.Repo fault) = refl
target_is (Stores.Write fault) = refl
target_is (Stores.Nonce fault) = refl
target_is Stores.Committed = refl
target_is Stores.TooLarge = refl
target_is Stores.Entropy = refl
target_is Stores.Memory = refl

-- what a call of the store says of the files is said of the fault that is handed up
pub target_stops : (now : Option Told) (keys : Keys) (refusal : StoreRefusal) → IfSome now (λ t. StopsAt t.history.start (told_files t) keys refusal)
    → StopsTarget now keys (target_fault refusal)
target_stops now keys (Stores.Repo fault) stops = stops
target_stops now keys (Stores.Write fault) stops = stops
target_stops now keys (Stores.Nonce fault) stops = stops
target_stops now keys Stores.Committed stops = stops
target_stops now keys Stores.TooLarge stops = stops
target_stops now keys Stores.Entropy stops = stops
target_stops now keys Stores.Memory stops = tt

-- where it isn't that a manifest is too large
pub pieces_stop : (now : Option Told) (keys : Keys) (refusal : StoreRefusal) → IfSome now (λ t. refusal ≢ Stores.TooLarge)
    → IfSome now (λ t. StopsAt t.history.start (told_files t) keys refusal) → StopsPieces now keys (target_fault refusal)
pieces_stop now keys refusal small stops = by refusal (both now small stops) where
  both : (o : Option Told) → IfSome o (λ t. refusal ≢ Stores.TooLarge) → IfSome o (λ t. StopsAt t.history.start (told_files t) keys refusal)
      → IfSome o (λ t. (refusal ≢ Stores.TooLarge) × StopsAt t.history.start (told_files t) keys refusal)
  both None p q = tt
  both (Some t) p q = (p, q)

  by : (r : StoreRefusal) → IfSome now (λ t. (r ≢ Stores.TooLarge) × StopsAt t.history.start (told_files t) keys r) → StopsPieces now keys (target_fault r)
  by (Stores.Repo fault) s = s
  by (Stores.Write fault) s = s
  by (Stores.Nonce fault) s = s
  by Stores.Committed s = s
  by Stores.TooLarge s = s
  by Stores.Entropy s = s
  by Stores.Memory s = tt

pub stops_of_pieces : (now : Option Told) (keys : Keys) (fault : CarryFault) → StopsPieces now keys fault → StopsTarget now keys fault
stops_of_pieces now keys (Carry.Source fault) stops = tt
stops_of_pieces now keys (Carry.Target refusal) stops = IfSome_then now stops (λ t s. s.1)
stops_of_pieces now keys (Carry.Taken name) stops = tt
stops_of_pieces now keys (Carry.NotFound name) stops = tt
stops_of_pieces now keys Carry.Pieces stops = tt
stops_of_pieces now keys Carry.Memory stops = tt
stops_of_pieces now keys Carry.Record stops = tt

-- a content that isn't added, or pieces that aren't committed, are no manifest
pub adds_small : (store : Store) (content : List ℕ) (files : Files) (refusal : StoreRefusal) → RefusesAdd store content files refusal
    → refusal ≢ Stores.TooLarge
adds_small store content files refusal refused is =
    let at : RefusesAdd store content files Stores.TooLarge = subst (RefusesAdd store content files) is refused in at.1

pub commits_small : (session : Session) (refusal : StoreRefusal) → RefusesCommit session refusal → refusal ≢ Stores.TooLarge
commits_small session refusal refused is = subst (RefusesCommit session) is refused

-- what is so where a device told its acts before is so where it tells them behind
pub told_behind : (X : Type 0) (failed : Bool) (a b : Option Told) → FailedWhere failed a b → IfSome a (λ _. X) → IfSome b (λ _. X)
told_behind X failed a None ends known = tt
told_behind X false None (Some now) ends known = absurd (let no : ⊥ = cc in no)
told_behind X true None (Some now) ends known = absurd (let no : ⊥ = cc in no)
told_behind X failed (Some told) (Some now) ends known = known

pub ruleset conversions = (failed_source, source_still, source_undrawn, failed_target, target_still, failed_random, target_is)
