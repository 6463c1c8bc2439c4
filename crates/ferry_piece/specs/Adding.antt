-- What a body did that adds contents, which of them stopped it, and what a refusal left of them in the store.
use Rattle.std.specs.Prelude.{◌≡◌, ◌++◌, ◌*◌, ℕ, Bool, true, false, List, [], ◌∷◌, length, Option, Result, IfErr, IfSome, IsErrOf, OnOk}
use Rattle.ferry_blob.specs.Blob.{content_id}
use Rattle.ferry_disk.specs.Act.{History}
use Rattle.ferry_disk.specs.Device.{Told}
use Rattle.ferry_disk.specs.Moments.{Between}
use Rattle.ferry_mac.specs.declared.keys.Keys.{Keys}
use Rattle.ferry_repo.specs.Opening.{repo_view}
use Rattle.ferry_repo.specs.declared.fault.RepoFault.TheVariants as Repos
use Rattle.ferry_store.specs.Fault.{spends}
use Rattle.ferry_store.specs.Limits.{BeginsFew}
use Rattle.ferry_store.specs.Standing.{entries_of}
use Rattle.ferry_store.specs.State.{IsUnderWay, Written}
use Rattle.ferry_store.specs.Store.{IsUnspent, StoreFits}
use Rattle.ferry_store.specs.declared.fault.StoreRefusal.TheVariants as Stores
use Rattle.ferry_store.specs.declared.store.Store.{Store}
use Rattle.ferry_write.specs.declared.fault.WriteFault.TheVariants as Writes
use Rattle.ferry_piece.specs.Gather.{Gathers, KeepsStanding}
use Rattle.ferry_piece.specs.Puts.{Addition, AddsAll, AddsFirst, Border, Within}
use Rattle.ferry_piece.specs.Stops.{is_target}
use Rattle.ferry_piece.specs.Work.{Works}
use Rattle.ferry_piece.specs.declared.fault.CarryFault.{CarryFault}
use Rattle.ferry_piece.specs.declared.fault.CarryFault.TheVariants.{Memory, Target}

-- A live chunk that breaks a rule is that of the last of these.
abbrev pub IsOfLast : Keys → List Addition → CarryFault → Type 0
IsOfLast keys added (Target (Stores.Repo (Repos.Blob id fault))) = (front : List Addition) × ((one : Addition)
    × ((added ≡ front ++ one ∷ []) × (id ≡ content_id keys one.content)))
IsOfLast keys added fault = Unit {0}

-- A fault is none of a chunk.
abbrev pub IsNoChunk : CarryFault → Type 0
IsNoChunk (Target (Stores.Repo (Repos.Blob id fault))) = ⊥
IsNoChunk fault = Unit {0}

-- The same where the target tells its files.
abbrev pub StopsLast : {T : Type 0} → Option Told → Keys → List Addition → Result T CarryFault → Type 0
StopsLast before keys added result = IfErr result (λ fault. IfSome before (λ _. IsOfLast keys added fault))

-- ---- segments

-- The numbers of segments are used up.
abbrev pub IsUsedUp : {T : Type 0} → Result T CarryFault → Type 0
IsUsedUp result = IsErrOf result (Target (Stores.Write Writes.Numbers))

-- A body began so many segments of the target at most.
abbrev pub BeginsSegments : {T : Type 0} → ℕ → Store → Store → Result T CarryFault → Type 0
BeginsSegments count store store_now result = BeginsFew count store.session.last store_now.session.last (IsUsedUp result)

-- ---- what a refusal left

-- A refusal doesn't spend a store: no call that writes the target failed, memory wasn't refused, and the numbers of segments aren't used up.
abbrev pub SparesStore : CarryFault → Type 0
SparesStore (Target refusal) = spends refusal ≡ false
SparesStore Memory = ⊥
SparesStore fault = Unit {0}

-- Behind all that was written before, up to the last commit and behind it, all of these were added, and nothing else, and the store fits. Where the target
-- refused, the first of them were, and what is written is known of the store's session and its counter.
abbrev pub HoldsUntil : Bool → Border → ℕ → Store → List Addition → Store → History → History → Type 0
HoldsUntil true at most store added store_now before now = (counts : Bool) (fits : StoreFits counts store before) → (written : Written)
    × (IsUnderWay counts store_now.session store_now.counter written now
    × AddsFirst at (repo_view store.repo).keys most (entries_of fits.written) added (entries_of written))
HoldsUntil false at most store added store_now before now = (counts : Bool) (fits : StoreFits counts store before) → (fits_now : StoreFits counts store_now now)
    × AddsAll at (repo_view store.repo).keys most (entries_of fits.written) added (entries_of fits_now.written)

-- So it is behind each refusal that doesn't spend the store, and it isn't spent where it wasn't.
abbrev pub HoldsRefused : {T : Type 0} → Border → ℕ → Store → List Addition → Store → Option Told → Option Told → Result T CarryFault → Type 0
HoldsRefused at most store added store_now before now result =
    IfErr result (λ fault. SparesStore fault
    → (IsUnspent store → IsUnspent store_now) × Between before now (HoldsUntil (is_target fault) at most store added store_now))

-- What a body did that added these, or was refused with the last of them: at each moment, at its end, and what stopped it. For each of them it began two
-- segments at most: one for a checkpoint, and one for what is put.
pub record AddsOn {T : Type 0} (most : ℕ) (store : Store) (more : List Addition) (store_now : Store) (before now : Option Told) (count after : ℕ)
    (result : Result T CarryFault) : Type 0 where
  pub works : Works (KeepsStanding most store more) (λ (_ : T). Gathers most store more store_now) before now count after result
  pub unspent : OnOk result (IsUnspent store → IsUnspent store_now)
  pub last : StopsLast before (repo_view store.repo).keys more result
  pub held : HoldsRefused Within most store more store_now before now result
  pub few : BeginsSegments (2 * length more) store store_now result
