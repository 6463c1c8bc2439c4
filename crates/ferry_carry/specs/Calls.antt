-- What calls ask of a source, of a target and of a source of random bytes, and what they leave of them.
use Rattle.std.specs.Prelude.{◌≡◌, ◌≤◌, ◌<◌, ℕ, Bool, false, true, [], Option, Result, Ok, IfErr, IfOk, IfSome, OnOk, Vec, length}
use Rattle.std.specs.declared.alloc.Global.{Global}
use Rattle.ferry_base.specs.Limits.{content_limit}
use Rattle.ferry_disk.specs.Device.{HasCause, KeepsTold, Told, told_files}
use Rattle.ferry_disk.specs.Moments.{Between}
use Rattle.ferry_mac.specs.declared.keys.Keys.{Keys}
use Rattle.ferry_manifest.specs.Manifest.Text.{ManifestText}
use Rattle.ferry_manifest.specs.Manifest.Writing.{IsPackable}
use Rattle.ferry_manifest.specs.Record.Text.{ArchiveText, archive_of, as_tagged}
use Rattle.ferry_piece.specs.Adding.{BeginsSegments, HoldsRefused, IsNoChunk, IsUsedUp}
use Rattle.ferry_piece.specs.Fault.{IsOfWork, random_failed, shelf_failed, target_failed}
use Rattle.ferry_piece.specs.Gather.{KeepsRest, KeepsStandingAt}
use Rattle.ferry_piece.specs.Puts.{AtEnd, Border, IsCheckpoint}
use Rattle.ferry_piece.specs.Stops.{StopsPieces, StopsTarget, is_target}
use Rattle.ferry_piece.specs.declared.fault.CarryFault.{CarryFault}
use Rattle.ferry_piece.specs.declared.piece.PieceWriter.{PieceWriter}
use Rattle.ferry_repo.specs.Opening.{FitsRepo, cached_in, repo_view}
use Rattle.ferry_repo.specs.declared.repo.Repo.{Repo}
use Rattle.ferry_store.specs.Commit.{accepted_in, IsSettled, ReadsStore}
use Rattle.ferry_store.specs.Standing.{with_manifest}
use Rattle.ferry_store.specs.Store.{IsUnspent, StoreFits}
use Rattle.ferry_store.specs.declared.store.Store.{Store}
use Rattle.ferry_carry.specs.Grow.{AcceptsMore, KeepsMost}
use Rattle.ferry_carry.specs.States.{SourceState, TargetState}
use Rattle.ferry_carry.specs.Refusals.{Leaves, LimitsManifest, RefusesRecordText, is_of_telling}

-- ---- whose a refusal is

-- A refusal is the target's, or want of memory.
pub record IsOfTarget {T : Type 0} (result : Result T CarryFault) : Type 0 where
  pub target : IfErr result (λ fault. is_target fault ≡ true)
  pub shelf : IfErr result (λ fault. shelf_failed fault ≡ false)
  pub drawn : IfErr result (λ fault. random_failed fault ≡ false)

-- No refusal is of a target's device, or of a source of random bytes.
pub record SparesTarget {T : Type 0} (result : Result T CarryFault) : Type 0 where
  pub still : IfErr result (λ fault. target_failed fault ≡ false)
  pub drawn : IfErr result (λ fault. random_failed fault ≡ false)

-- A refusal is the target's, want of memory, or one of the source of random bytes where that failed; none is of a chunk.
pub record IsOfCommit {T : Type 0} (count after : ℕ) (result : Result T CarryFault) : Type 0 where
  pub entropy : HasCause random_failed count after result
  pub target : IfErr result (λ fault. is_target fault ≡ true)
  pub shelf : IfErr result (λ fault. shelf_failed fault ≡ false)
  pub unbroken : IfErr result (IsNoChunk)

-- A source of random bytes that failed counted a fault, and no refusal is of the source's device.
pub record DrawsRandom {T : Type 0} (count after : ℕ) (result : Result T CarryFault) : Type 0 where
  pub entropy : HasCause random_failed count after result
  pub shelf : IfErr result (λ fault. shelf_failed fault ≡ false)

-- A refusal is want of memory or one of what is asked for, and none of a device, a chunk or the numbers of segments; it says nothing of a target.
pub record WritesNothing {T : Type 0} (result : Result T CarryFault) : Type 0 where
  pub stops : IfErr result (λ fault. (now : Option Told) (secrets : Keys) → StopsPieces now secrets fault)
  pub unbroken : IfErr result (IsNoChunk)
  pub unwritten : IsUsedUp result → ⊥
  pub shelf : IfErr result (λ fault. shelf_failed fault ≡ false)
  pub still : IfErr result (λ fault. target_failed fault ≡ false)

-- The text of a record is read as the record, tagged, and is no larger than a content may be; or there is none, and the record says why.
pub record IsTextOf (keys : Keys) (archive : ArchiveText) (result : Result (Vec ℕ Global) CarryFault) : Type 0 where
  pub reads : IfOk result (λ text. archive_of keys text.items ≡ Ok (as_tagged archive))
  pub small : IfOk result (λ text. length text.items ≤ content_limit)
  pub refused : IfErr result (RefusesRecordText keys archive)
  pub nothing : WritesNothing result

-- ---- a source

-- A source's repository fits its device.
abbrev pub FitsShelf : Option Told → Repo → Type 0
FitsShelf told source = IfSome told (λ t. FitsRepo (told_files t) (repo_view source) (cached_in source))

-- A call that reads a source leaves the repository with its log, its secrets and its manifest, and fitting. The device tells what it told, and one that
-- failed counted a fault.
pub record ReadsSource {T F : Type 0} (failed : F → Bool) (source source_now : SourceState) (result : Result T F) : Type 0 where
  pub fits : FitsShelf source_now.told source_now.repo
  pub kept : repo_view source_now.repo ≡ repo_view source.repo
  pub same : KeepsTold failed source.told source_now.told result
  pub cause : HasCause failed source.faults source_now.faults result

-- ---- a target

-- A store fits its device.
abbrev pub FitsDepot : Option Told → Store → Type 0
FitsDepot told store = IfSome told (λ t. StoreFits false store t.history)

-- A store can be written: it fits its device, and isn't spent.
pub record CanWrite (told : Option Told) (store : Store) : Type 0 where
  pub unspent : IsUnspent store
  pub fits : FitsDepot told store

-- The same, and no more is pending than may be.
pub record CanAdd (most : ℕ) (told : Option Told) (store : Store) : Type 0 where
  pub pending : store.pending ≤ most
  pub unspent : IsUnspent store
  pub fits : FitsDepot told store

-- A store can be committed: it can be written, what it accepted can be packed, and has each archive that it committed.
pub record CanCommit (told : Option Told) (store : Store) : Type 0 where
  pub unspent : IsUnspent store
  pub fits : FitsDepot told store
  pub packable : IsPackable (accepted_in store)
  pub accepts : AcceptsMore store

-- The same, and no more is pending than may be: an archive can be copied into it.
pub record CanTake (most : ℕ) (told : Option Told) (store : Store) : Type 0 where
  pub pending : store.pending ≤ most
  pub unspent : IsUnspent store
  pub fits : FitsDepot told store
  pub packable : IsPackable (accepted_in store)
  pub accepts : AcceptsMore store

-- The same of one that has committed all that it accepted.
pub record CanCarry (most : ℕ) (told : Option Told) (store : Store) : Type 0 where
  pub pending : store.pending ≤ most
  pub unspent : IsUnspent store
  pub fits : FitsDepot told store
  pub packable : IsPackable (accepted_in store)
  pub settled : IsSettled store

-- A call that reads a target through its store leaves the store fitting, as it was but for what is kept in memory.
pub record ReadsTarget {T : Type 0} (store : Store) (now : Option Told) (store_now : Store) (result : Result T CarryFault) : Type 0 where
  pub read : ReadsStore store store_now
  pub fits : FitsDepot now store_now
  pub stops : IfErr result (StopsPieces now (repo_view store.repo).keys)

-- A call that adds to a target, and names nothing: the store fits and can be written, with the settings, the secrets and the manifests that it had; or the
-- target's files say why it isn't.
pub record AddsTo {T : Type 0} (store : Store) (now : Option Told) (store_now : Store) (result : Result T CarryFault) : Type 0 where
  pub rest : OnOk result (KeepsRest store store_now)
  pub fits : OnOk result (FitsDepot now store_now)
  pub unspent : OnOk result (IsUnspent store_now)
  pub stops : IfErr result (StopsPieces now (repo_view store.repo).keys)

-- The same of one that no refusal of but the target's stops.
pub record OnlyAdds {T : Type 0} (store : Store) (now : Option Told) (store_now : Store) (result : Result T CarryFault) : Type 0 where
  pub adds : AddsTo store now store_now result
  pub open adds use *
  pub refusal : IsOfTarget result

-- The same of one that adds pieces: no more is pending than may be.
pub record AddsPieces {T : Type 0} (most : ℕ) (store : Store) (now : Option Told) (store_now : Store) (result : Result T CarryFault) : Type 0 where
  pub adds : AddsTo store now store_now result
  pub open adds use *
  pub pending : OnOk result (store_now.pending ≤ most)

-- The same of one that reads a source too: behind a refusal that isn't the target's the store can be used on.
pub record CopiesPieces {T : Type 0} (most : ℕ) (store : Store) (now : Option Told) (store_now : Store) (result : Result T CarryFault) : Type 0 where
  pub pieces : AddsPieces most store now store_now result
  pub open pieces use *
  pub left : IfErr result (Leaves most store now store_now)

-- A call that carries archives into a target: where it is done the store can be used on, and has committed all that it accepted.
pub record CarriesTo {T : Type 0} (most : ℕ) (store : Store) (now : Option Told) (store_now : Store) (result : Result T CarryFault) : Type 0 where
  pub pending : OnOk result (store_now.pending ≤ most)
  pub settled : OnOk result (IsSettled store_now)
  pub packable : OnOk result (IsPackable (accepted_in store_now))
  pub unspent : OnOk result (IsUnspent store_now)
  pub most_kept : OnOk result (KeepsMost store store_now)
  pub fits : OnOk result (FitsDepot now store_now)
  pub ended : OnOk result (store.pending ≡ 0 → store_now.pending ≡ 0)

-- A store has committed what it accepted, and nothing is pending.
pub record HasCommitted (store : Store) (now : Option Told) (store_now : Store) : Type 0 where
  pub most : KeepsMost store store_now
  pub accepted : accepted_in store_now ≡ (repo_view store_now.repo).manifest
  pub pending : store_now.pending ≡ 0
  pub packable : IsPackable (accepted_in store_now)
  pub fits : FitsDepot now store_now
  pub unspent : IsUnspent store_now

-- The same, and that is this manifest.
pub record CommitsThis (manifest : ManifestText) (store : Store) (now : Option Told) (store_now : Store) : Type 0 where
  pub all : HasCommitted store now store_now
  pub open all use *
  pub named : repo_view store_now.repo ≡ with_manifest (repo_view store.repo) manifest

-- Why this manifest isn't committed. But for a device that failed and want of memory nothing is named then, and a refusal that doesn't spend the store leaves
-- what is written as it was. Two segments are begun at most.
pub record LeavesUnnamed {T : Type 0} (manifest : ManifestText) (store : Store) (before now : Option Told) (store_now : Store) (result : Result T CarryFault)
    : Type 0 where
  pub stands : IfErr result (λ fault. IsOfWork fault → (most : ℕ) → Between before now (KeepsStandingAt AtEnd most store []))
  pub held : (at : Border) (most : ℕ) → HoldsRefused at most store [] store_now before now result
  pub stops : IfErr result (StopsTarget now (repo_view store.repo).keys)
  pub limit : IfErr result (LimitsManifest (repo_view store.repo).keys manifest)
  pub few : BeginsSegments 2 store store_now result

-- A call that tells a line leaves the store as it is, fitting; a refusal is one of a line that isn't told, and the target's.
pub record OnlyTells {T : Type 0} (store : Store) (now : Option Told) (result : Result T CarryFault) : Type 0 where
  pub fits : OnOk result (FitsDepot now store)
  pub stops : IfErr result (StopsTarget now (repo_view store.repo).keys)
  pub telling : IfErr result (λ fault. is_of_telling fault ≡ true)
  pub refusal : IsOfTarget result

-- ---- a writer of pieces

-- A writer takes bytes: its pieces aren't too long, there is room in the one that it has, and the number after which it commits is in its range.
pub record TakesBytes (writer : PieceWriter) : Type 0 where
  pub most : writer.cutter.block ≤ 8388608
  pub room : length writer.cutter.piece < writer.cutter.block
  pub checkpoint : IsCheckpoint writer.checkpoint

-- A writer of a stream can end it.
pub record CanEnd (writer : PieceWriter) : Type 0 where
  pub least : 1 ≤ writer.cutter.block
  pub most : writer.cutter.block ≤ 8388608
  pub within : length writer.cutter.piece ≤ writer.cutter.block
  pub checkpoint : IsCheckpoint writer.checkpoint

-- ---- both

-- A call that copies asks for a source and a target.
pub record CanCopy (most : ℕ) (from : SourceState) (to : TargetState) : Type 0 where
  pub source : FitsShelf from.told from.repo
  pub target : CanAdd most to.told to.store

-- It leaves both so, and draws no random bytes.
pub record Copies {T : Type 0} (most : ℕ) (from from_now : SourceState) (to to_now : TargetState) (result : Result T CarryFault) : Type 0 where
  pub source : ReadsSource shelf_failed from from_now result
  pub target : CopiesPieces most to.store to_now.told to_now.store result
  pub drawn : IfErr result (λ fault. random_failed fault ≡ false)

-- A call that compares asks for a source and a target that fit.
pub record CanCompare (from : SourceState) (to : TargetState) : Type 0 where
  pub source : FitsShelf from.told from.repo
  pub target : FitsDepot to.told to.store

-- It reads both.
pub record Compares {T : Type 0} (from from_now : SourceState) (to to_now : TargetState) (result : Result T CarryFault) : Type 0 where
  pub source : ReadsSource shelf_failed from from_now result
  pub target : ReadsTarget to.store to_now.told to_now.store result

-- A call that carries archives asks for a source, and for a target that has committed all that it accepted.
pub record CanCarryFrom (most : ℕ) (from : SourceState) (to : TargetState) : Type 0 where
  pub source : FitsShelf from.told from.repo
  pub target : CanCarry most to.told to.store

-- It leaves both so; a source of random bytes that failed counted a fault.
pub record CarriesFrom {T : Type 0} (most : ℕ) (from from_now : SourceState) (to to_now : TargetState) (count after : ℕ) (result : Result T CarryFault)
    : Type 0 where
  pub source : ReadsSource shelf_failed from from_now result
  pub target : CarriesTo most to.store to_now.told to_now.store result
  pub entropy : HasCause random_failed count after result
