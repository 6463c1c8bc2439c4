-- Why archives aren't carried: what a refusal says of the source's archive, of the target's archive of the same name, and of what would be written.
use Rattle.std.specs.Prelude.{◌≡◌, ◌⊎◌, ◌<◌, ◌≤◌, ◌*◌, ℕ, Bool, true, false, List, [], ◌∷◌, ◌++◌, length, map, sum_by, slice_get, Option, Some, None}
use Rattle.std.specs.Prelude.{IfSome, IsSome}
use Rattle.ferry_base.specs.Limits.{content_limit}
use Rattle.ferry_blob.specs.Blob.{content_id}
use Rattle.ferry_blob.specs.declared.fault.BlobFault.{BlobFault}
use Rattle.ferry_compare.specs.Compare.{Seen, seen}
use Rattle.ferry_disk.specs.Device.{Told, told_files}
use Rattle.ferry_disk.specs.Files.{Files}
use Rattle.ferry_item.specs.Item.{ItemText}
use Rattle.ferry_item.specs.declared.item.ChunkRef.{ChunkRef}
use Rattle.ferry_mac.specs.declared.keys.Keys.{Keys}
use Rattle.ferry_manifest.specs.Manifest.Text.{ManifestText}
use Rattle.ferry_manifest.specs.Manifest.Writing.{IsPackable, manifest_text}
use Rattle.ferry_manifest.specs.Record.Text.{ArchiveText}
use Rattle.ferry_manifest.specs.Record.Writing.{archive_text}
use Rattle.ferry_manifest.specs.declared.manifest.ArchiveRef.{ArchiveRef}
use Rattle.ferry_repo.specs.Archives.{HoldsRecord, IsNoRecord, RefusesContent, RefusesRecord, archive_named, RefusesJoined}
use Rattle.ferry_repo.specs.Fault.{IsOfFiles}
use Rattle.ferry_repo.specs.Opening.{RepoState, repo_view}
use Rattle.ferry_repo.specs.Walk.{Comes, IsToCome, WalkState}
use Rattle.ferry_repo.specs.Whole.{RefusesWhole, WholeArchive, WholeItem, WholesCome}
use Rattle.ferry_repo.specs.declared.fault.RepoFault.{RepoFault}
use Rattle.ferry_store.specs.Commit.{accepted_in}
use Rattle.ferry_store.specs.Store.{IsUnspent, StoreFits}
use Rattle.ferry_repo.specs.declared.fault.RepoFault.TheVariants.{Blob}
use Rattle.ferry_store.specs.declared.fault.StoreRefusal.TheVariants.{Repo, TooLarge, Write}
use Rattle.ferry_store.specs.declared.store.Store.{Store}
use Rattle.ferry_write.specs.declared.fault.WriteFault.TheVariants as Writes
use Rattle.ferry_carry.specs.Accepting.{named_next}
use Rattle.ferry_carry.specs.Carrying.{Origin, SaysIn}
use Rattle.ferry_carry.specs.Chosen.{IsMissingName}
use Rattle.ferry_carry.specs.Copied.{stream_pieces}
use Rattle.ferry_carry.specs.Grow.{AcceptsMore, KeepsMost}
use Rattle.ferry_carry.specs.Listing.{BeginsName, ListsNames}
use Rattle.ferry_carry.specs.Naming.{DrawsSalts, TaggedRecord, TagsDrawn, copied_archive}
use Rattle.ferry_carry.specs.Telling.{TellsNames}
use Rattle.ferry_piece.specs.declared.fault.CarryFault.{CarryFault}
use Rattle.ferry_piece.specs.declared.fault.CarryFault.TheVariants.{Source, Target, Taken, NotFound, Pieces, Memory, Record}
use Rattle.ferry_piece.specs.Gather.{KeepsRest}
use Rattle.ferry_piece.specs.Puts.{Addition}
use Rattle.ferry_piece.specs.Stops.{is_target, StopsTarget}

-- ---- the target

-- whether a fault can be that of a line that isn't told
abbrev pub is_of_telling : CarryFault → Bool
is_of_telling (Target (Write Writes.Device)) = true
is_of_telling Memory = true
is_of_telling fault = false

-- ---- the contents of an item

-- the sum of the sizes that chunks state
abbrev pub total_size : List ChunkRef → ℕ
total_size chunks = sum_by (λ (chunk : ChunkRef). chunk.size) chunks

-- The chunks of an item state more bytes than as many pieces as an item may have are.
abbrev pub IsTooLong : ℕ → Option (List ChunkRef) → Type 0
IsTooLong block None = ⊥
IsTooLong block (Some chunks) = 4294967295 * block < total_size chunks

-- Why the content of a chunk isn't written.
abbrev pub RefusesWriting : Option Told → RepoState → ChunkRef → CarryFault → Type 0
RefusesWriting told source chunk (Source fault) =
    IsOfFiles fault → IfSome told (λ t. RefusesContent (told_files t) source.log source.keys chunk fault)
RefusesWriting told source chunk (Target refusal) = Unit {0}
RefusesWriting told source chunk Memory = Unit {0}
RefusesWriting told source chunk fault = ⊥

-- Why those of an item's chunks aren't written: the first of them that is refused.
abbrev pub RefusesContents : Option Told → RepoState → List ChunkRef → CarryFault → Type 0
RefusesContents told source chunks (Source fault) =
    IsOfFiles fault → IfSome told (λ t. RefusesJoined (told_files t) source.log source.keys (Some chunks) fault)
RefusesContents told source chunks (Target refusal) = Unit {0}
RefusesContents told source chunks Memory = Unit {0}
RefusesContents told source chunks fault = ⊥

-- Why the content of an item isn't copied: one of its chunks is refused, or they are too long together.
abbrev pub RefusesCopying : Option Told → RepoState → ℕ → Option (List ChunkRef) → CarryFault → Type 0
RefusesCopying told source block chunks (Source fault) =
    IsOfFiles fault → IfSome told (λ t. RefusesJoined (told_files t) source.log source.keys chunks fault)
RefusesCopying told source block chunks Pieces = IsTooLong block chunks
RefusesCopying told source block chunks (Target refusal) = Unit {0}
RefusesCopying told source block chunks Memory = Unit {0}
RefusesCopying told source block chunks fault = ⊥

-- ---- the record and the items of an archive

-- Why a content isn't read as the record of this id.
abbrev pub RefusesText : Keys → List ℕ → List ℕ → CarryFault → Type 0
RefusesText keys id content (Source fault) = IsNoRecord keys id content fault
RefusesText keys id content Memory = Unit {0}
RefusesText keys id content fault = ⊥

-- Why the record of this id isn't read.
abbrev pub RefusesBegin : Option Told → RepoState → List ℕ → CarryFault → Type 0
RefusesBegin told source id (Source fault) = IsOfFiles fault → IfSome told (λ t. RefusesRecord (told_files t) source.log source.keys id fault)
RefusesBegin told source id Memory = Unit {0}
RefusesBegin told source id fault = ⊥

-- Why the next item isn't taken: where the walk stands, its stream ends so.
abbrev pub RefusesNext : Option Told → RepoState → WalkState → CarryFault → Type 0
RefusesNext told source walk (Source fault) = IsOfFiles fault → IfSome told (λ t. IsToCome (told_files t) source.log source.keys walk [] (Some fault))
RefusesNext told source walk Memory = Unit {0}
RefusesNext told source walk fault = ⊥

-- ---- an archive of a source

-- The archive of a name has an item that is too long, behind items whose contents are there.
pub record HasLongItem (there : Files) (from : Origin) (name : List ℕ) : Type 0 where
  pub named : ArchiveRef
  pub named_is : archive_named name from.repo.manifest.archives ≡ Some named
  pub archive : ArchiveText
  pub record_is : HoldsRecord there from.repo.log from.repo.keys named.id archive
  pub items : List ItemText
  pub item : ItemText
  pub behind : List ItemText
  pub end : Option RepoFault
  pub comes : Comes there from.repo.log from.repo.keys named.id [] archive.items (items ++ (item ∷ behind)) end
  pub wholes : List WholeItem
  pub contents : WholesCome there from.repo.log from.repo.keys items None wholes None
  pub long : IsTooLong from.block item.chunks

-- The archive of a name is whole in a source, and its record in a target with these secrets would be larger than the content of an object may be, whatever
-- salt of 64 bytes it is tagged with.
pub record HasLargeRecord (there : Files) (from : Origin) (keys : Keys) (name : List ℕ) : Type 0 where
  pub whole : WholeArchive
  pub source : SaysIn there from.repo name whole
  pub archive : ArchiveText
  pub fields : archive.fields ≡ whole.fields
  pub large : (salt : List ℕ) → length salt ≡ 64 → content_limit < length (archive_text keys salt
      (copied_archive archive from.block (map (content_id keys) (stream_pieces keys from.block whole.items))))

-- What holds of the files of a source, where it and the target tell theirs.
abbrev pub WhereTold : Origin → Option Told → (Files → Type 0) → Type 0
WhereTold from heard P = IfSome heard (λ _. IfSome from.files P)

-- Why the archive of a name isn't copied: it isn't whole in the source, or one of its items is too long.
abbrev pub RefusesStep : Origin → Option Told → List ℕ → CarryFault → Type 0
RefusesStep from heard name (Source fault) = IsOfFiles fault
    → WhereTold from heard (λ there. RefusesWhole there from.repo.log from.repo.keys from.repo.manifest.archives name fault)
RefusesStep from heard name Pieces = WhereTold from heard (λ there. HasLongItem there from name)
RefusesStep from heard name (Target refusal) = Unit {0}
RefusesStep from heard name Memory = Unit {0}
RefusesStep from heard name fault = ⊥

-- Why the record of an archive isn't put: it would be larger than the content of an object may be, whatever salt of 64 bytes it is tagged with.
abbrev pub RefusesRecordText : Keys → ArchiveText → CarryFault → Type 0
RefusesRecordText keys archive Record = (salt : List ℕ) → length salt ≡ 64 → content_limit < length (archive_text keys salt archive)
RefusesRecordText keys archive fault = is_target fault ≡ true

-- Why an archive all of whose items were copied isn't named: its record is too large.
abbrev pub RefusesEnd : Origin → Option Told → Keys → List ℕ → CarryFault → Type 0
RefusesEnd from heard keys name Record = WhereTold from heard (λ there. HasLargeRecord there from keys name)
RefusesEnd from heard keys name fault = is_target fault ≡ true

-- ---- the manifest of a target

-- Why a manifest isn't committed: where it is too large, with some salt of 64 bytes it is larger than the content of an object may be.
abbrev pub LimitsManifest : Keys → ManifestText → CarryFault → Type 0
LimitsManifest keys manifest fault = fault ≡ Target TooLarge
    → (salt : List ℕ) × ((length salt ≡ 64) × (content_limit < length (manifest_text keys salt manifest)))

-- With an archive of the source that wasn't accepted the manifest is larger than the content of an object may be, whatever the text of its record, and
-- whatever salt of 64 bytes it is tagged with.
pub record HasLargeManifest (given : Option (List ℕ)) (source : RepoState) (store : Store) (named : ArchiveRef) : Type 0 where
  pub lacks : archive_named named.name (accepted_in store).archives ≡ None
  pub large : (text salt : List ℕ) → length salt ≡ 64 → content_limit < length (manifest_text (repo_view store.repo).keys salt
      (named_next given source store named (content_id (repo_view store.repo).keys text)))

-- Where the target tells its acts, a manifest is too large only with this archive.
abbrev pub IsLimited : Option Told → Option (List ℕ) → RepoState → Store → ArchiveRef → CarryFault → Type 0
IsLimited now given source store named fault = IfSome now (λ _. fault ≡ Target TooLarge → HasLargeManifest given source store named)

-- ---- a chunk that was live in a target

-- A fault is that of a live chunk of this id, which breaks a rule.
abbrev pub IsChunk : List ℕ → CarryFault → Type 0
IsChunk id fault = (cause : BlobFault) × (fault ≡ Target (Repo (Blob id cause)))

-- What is added for a name behind others, as far as it came, ends with a content of this id. Its record, where it is among them, is tagged from what was
-- drawn.
pub record EndsAt (from : Origin) (keys : Keys) (accepted : ManifestText) (before : List (List ℕ)) (name : List ℕ) (drawn drawn_now : Option (List ℕ))
    (id : List ℕ) : Type 0 where
  pub front : List Addition
  pub one : Addition
  pub begins : BeginsName from keys accepted before name (front ++ one ∷ [])
  pub tags : TagsDrawn keys (front ++ one ∷ []) drawn drawn_now
  pub id_is : id ≡ content_id keys one.content

-- Behind a front of these names, of which this holds, a content of this id was to be added for the next. All that is added for the front was, and its salts
-- were drawn.
pub record StopsAtChunk (from : Origin) (keys : Keys) (accepted : ManifestText) (names : List (List ℕ)) (Told : List (List ℕ) → Type 0)
    (drawn drawn_now : Option (List ℕ)) (id : List ℕ) : Type 0 where
  pub done : List (List ℕ)
  pub name : List ℕ
  pub rest : List (List ℕ)
  pub split : names ≡ done ++ name ∷ rest
  pub told : Told done
  pub records : List TaggedRecord
  pub added : List Addition
  pub lists : ListsNames from keys accepted [] done records added
  pub middle : Option (List ℕ)
  pub drew : DrawsSalts records drawn middle
  pub ends : EndsAt from keys accepted done name middle drawn_now id

-- ---- the archive of the same name in a target

-- The archive of a name is whole in the source, and the target's isn't, or says something else.
pub record DiffersThere (from : Origin) (heard : Option Told) (target : RepoState) (name : List ℕ) : Type 0 where
  pub whole : WholeArchive
  pub source : IfSome from.files (λ there. SaysIn there from.repo name whole)
  pub target_is : IfSome heard (λ d. SaysIn (told_files d) target name whole → ⊥)

-- Why the archives of a name aren't compared: that of the source isn't whole.
abbrev pub RefusesComparing : Option Told → RepoState → List ℕ → CarryFault → Type 0
RefusesComparing told source name (Source fault) = IsOfFiles fault
    → IfSome told (λ t. RefusesWhole (told_files t) source.log source.keys source.manifest.archives name fault)
RefusesComparing told source name (Target refusal) = Unit {0}
RefusesComparing told source name Memory = Unit {0}
RefusesComparing told source name fault = ⊥

-- A store that keeps what another has can be used on: it fits, isn't spent, no more is pending than may be, and what it accepted can be packed, and has each
-- archive that it committed.
pub record UsableAt (most : ℕ) (store : Store) (now : Option Told) (store_now : Store) : Type 0 where
  pub fits : IfSome now (λ t. StoreFits false store_now t.history)
  pub most_kept : KeepsMost store store_now
  pub unspent : IsUnspent store_now
  pub pending : store_now.pending ≤ most
  pub packable : IsPackable (accepted_in store_now)
  pub accepts : AcceptsMore store_now

-- The same of one that has an archive of this name.
pub record TakenAt (most : ℕ) (store : Store) (now : Option Told) (store_now : Store) (name : List ℕ) : Type 0 where
  pub usable : UsableAt most store now store_now
  pub open usable use *
  pub there : IsSome (archive_named name (repo_view store_now.repo).manifest.archives)

-- A store is left that fits and isn't spent, with no more pending than may be; its repository has the settings, the secrets and the manifest that it had, and
-- what it accepted is the same.
pub record IsLeft (most : ℕ) (store : Store) (now : Option Told) (store_now : Store) : Type 0 where
  pub fits : IfSome now (λ t. StoreFits false store_now t.history)
  pub unspent : IsUnspent store_now
  pub pending : store_now.pending ≤ most
  pub rest : KeepsRest store store_now

-- Such a store is left by a refusal that isn't the target's.
abbrev pub Leaves : ℕ → Store → Option Told → Store → CarryFault → Type 0
Leaves most store now store_now fault = is_target fault ≡ false → IsLeft most store now store_now

-- The target has no archive of this name.
abbrev pub LacksName : Store → List ℕ → Type 0
LacksName store name = archive_named name (repo_view store.repo).manifest.archives ≡ None

-- ---- archives of names

-- Why the archive of a name isn't carried. The source's archive isn't whole, or has an item that is too long. The target in which a difference was met has
-- another archive of this name. The source has none. Or the record that the target would have is too large. An item that is too long and a record that
-- is too large are causes only where the target has no archive of this name. What a refusal of the target says, it says of its files at the end.
-- Behind each of these but one of the target the store can be used on.
abbrev pub RefusesMet : Origin → Option Told → Store → Option Told → Store → Seen → List ℕ → CarryFault → Type 0
RefusesMet from heard store now store_now met name (Source fault) =
    RefusesStep from heard name (Source fault) × UsableAt from.most store now store_now
RefusesMet from heard store now store_now met name (Target refusal) = StopsTarget now (repo_view store.repo).keys (Target refusal)
RefusesMet from heard store now store_now met name (Taken taken) =
    (taken ≡ name) × (DiffersThere from met.told met.repo name × TakenAt from.most store now store_now name)
RefusesMet from heard store now store_now met name (NotFound missing) = (missing ≡ name) × (archive_named name from.repo.manifest.archives ≡ None)
RefusesMet from heard store now store_now met name Pieces =
    LacksName store name × (RefusesStep from heard name Pieces × UsableAt from.most store now store_now)
RefusesMet from heard store now store_now met name Memory = Unit {0}
RefusesMet from heard store now store_now met name Record =
    LacksName store name × (RefusesEnd from heard (repo_view store.repo).keys name Record × UsableAt from.most store now store_now)

-- The same where a difference is one of the target as it is at the end.
abbrev pub RefusesName : Origin → Option Told → Store → Option Told → Store → List ℕ → CarryFault → Type 0
RefusesName from heard store now store_now name fault = RefusesMet from heard store now store_now (seen now (repo_view store_now.repo)) name fault

-- Behind a front of these names, which were told, and nothing else, the archive of the next isn't carried, so.
pub record RefusesBehind (from : Origin) (heard : Option Told) (store : Store) (now : Option Told) (store_now : Store) (names : List (List ℕ))
    (fault : CarryFault) : Type 0 where
  pub done : List (List ℕ)
  pub name : List ℕ
  pub rest : List (List ℕ)
  pub split : names ≡ done ++ name ∷ rest
  pub told : IfSome heard (λ b. IfSome now (λ t. TellsNames (accepted_in store) done b.history t.history))
  pub refused : RefusesName from heard store now store_now name fault

-- The archive of one of these names isn't carried, so; or a line isn't told.
abbrev pub RefusesOne : Origin → Option Told → Store → Option Told → Store → List (List ℕ) → CarryFault → Type 0
RefusesOne from heard store now store_now names fault = RefusesBehind from heard store now store_now names fault
    ⊎ ((is_of_telling fault ≡ true) × StopsTarget now (repo_view store.repo).keys fault)

-- Why archives of names aren't carried: that of one of them isn't; or the source lacks one, and this is the first.
abbrev pub RefusesNames : Origin → Option Told → Store → Option Told → Store → List (List ℕ) → CarryFault → Type 0
RefusesNames from heard store now store_now names (NotFound missing) =
    (place : ℕ) × (IsMissingName from.repo.manifest names place × (slice_get names place ≡ Some missing))
RefusesNames from heard store now store_now names fault = RefusesOne from heard store now store_now names fault
