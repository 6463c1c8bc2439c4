-- What tagging the archives of a repository writes: for each record without an authentication tag the same record with one, under the same name, and no old
-- record that nothing uses any more (BorgBackup 1.2, Internals, "Data structures and file formats", Archives).
use Rattle.std.specs.Prelude.{◌≡◌, ◌≢◌, ◌⊎◌, ◌↔◌, ◌<◌, ◌++◌, ℕ, Bool, true, false, if◌then◌else◌, List, [], ◌∷◌, length, map}
use Rattle.std.specs.Prelude.{option_map, Option, Some, Ok, IfSome}
use Rattle.std.specs.List.{AllByRecursion, flat_map}
use Rattle.std.specs.List.Sorted.{IsStrictlySortedBy}
use Rattle.ferry_base.specs.Limits.{content_limit, zero_id}
use Rattle.ferry_blob.specs.Blob.{OpensTo, content_id}
use Rattle.ferry_check.specs.Report.{ArchiveRead, AreRead, ids_of, ids_used, is_among, untagged}
use Rattle.ferry_disk.specs.Act.{History, files_now}
use Rattle.ferry_disk.specs.Device.{Told, told_files}
use Rattle.ferry_disk.specs.Files.{Files}
use Rattle.ferry_disk.specs.Moments.{Moments}
use Rattle.ferry_log.specs.Live.{key_cmp}
use Rattle.ferry_mac.specs.declared.keys.Keys.{Keys}
use Rattle.ferry_manifest.specs.Manifest.Text.{ManifestText}
use Rattle.ferry_manifest.specs.Manifest.Writing.{manifest_text}
use Rattle.ferry_manifest.specs.Record.Text.{ArchiveText, archive_of, as_tagged}
use Rattle.ferry_manifest.specs.Record.Writing.{archive_text}
use Rattle.ferry_manifest.specs.declared.manifest.ArchiveRef.{ArchiveRef}
use Rattle.ferry_next.specs.Next.{next_manifest, without_entry, written_at}
use Rattle.ferry_piece.specs.Gather.{HoldsWithin, IsAmong, NoCollision}
use Rattle.ferry_piece.specs.declared.fault.CarryFault.{CarryFault}
use Rattle.ferry_piece.specs.declared.fault.CarryFault.TheVariants.{Target, Memory, Record}
use Rattle.ferry_refs.specs.Deleting.{with_deleted}
use Rattle.ferry_refs.specs.Refs.{RefusesRefs, occurrences}
use Rattle.ferry_repo.specs.Archives.{archive_named, HoldsRecord}
use Rattle.ferry_repo.specs.Fault.{IsOfFiles}
use Rattle.ferry_repo.specs.Objects.{HasBlob}
use Rattle.ferry_repo.specs.Opening.{OpensFilesTo, RepoState, repo_view}
use Rattle.ferry_repo.specs.Whole.{HasWhole, WholeArchive}
use Rattle.ferry_repo.specs.declared.fault.RepoFault.TheVariants as Repos
use Rattle.ferry_repo.specs.declared.secret.Secret.{Secret}
use Rattle.ferry_segment.specs.Entry.{LogEntry}
use Rattle.ferry_store.specs.Causes.{BreaksLive, StopsAt}
use Rattle.ferry_store.specs.Dropping.{FitsWithout}
use Rattle.ferry_store.specs.Standing.{CommitsManifest, Keeps, entries_of, live_in, with_manifest}
use Rattle.ferry_store.specs.State.{IsSound, ShowsStanding, Written}
use Rattle.ferry_store.specs.Store.{StoreFits}
use Rattle.ferry_store.specs.declared.fault.StoreRefusal.TheVariants.{Repo, TooLarge}
use Rattle.ferry_store.specs.declared.store.Store.{Store}

-- ---- records without a tag

-- an archive whose record has no tag, and what the record says
pub record OldRecord : Type 0 where
  pub named : ArchiveRef
  pub archive : ArchiveText

abbrev pub old_record : ArchiveRef → ArchiveText → OldRecord
old_record named archive = record { named = named; archive = archive }

-- The record of an archive of the manifest reads, and says this.
pub record ReadsRecord (files : Files) (repo : RepoState) (named : ArchiveRef) (archive : ArchiveText) : Type 0 where
  pub named_is : archive_named named.name repo.manifest.archives ≡ Some named
  pub record_is : HoldsRecord files repo.log repo.keys named.id archive

-- The record of each of these archives reads; these are, in their order, the ones whose record has no tag.
pub data AreOld (files : Files) (repo : RepoState) : List ArchiveRef → List OldRecord → Type 0 where
  none_old : AreOld files repo [] []
  has_tag : (named : ArchiveRef) (archive : ArchiveText) (archives : List ArchiveRef) (olds : List OldRecord) → ReadsRecord files repo named archive
      → archive.tagged ≡ true → AreOld files repo archives olds → AreOld files repo (named ∷ archives) olds
  is_old : (named : ArchiveRef) (archive : ArchiveText) (archives : List ArchiveRef) (olds : List OldRecord) → ReadsRecord files repo named archive
      → archive.tagged ≡ false → AreOld files repo archives olds → AreOld files repo (named ∷ archives) (old_record named archive ∷ olds)

-- An archive of this name has a record without a tag.
pub record IsUntagged (files : Files) (repo : RepoState) (name : List ℕ) : Type 0 where
  pub named : ArchiveRef
  pub named_is : archive_named name repo.manifest.archives ≡ Some named
  pub archive : ArchiveText
  pub record_is : HoldsRecord files repo.log repo.keys named.id archive
  pub untagged : archive.tagged ≡ false

-- ---- records that are written anew

-- A text is that of the record with a tag, whose salt has 64 bytes.
pub record IsRenewal (keys : Keys) (archive : ArchiveText) (text : List ℕ) : Type 0 where
  pub salt : List ℕ
  pub sized : length salt ≡ 64
  pub text_is : text ≡ archive_text keys salt archive
  pub reads : archive_of keys text ≡ Ok (as_tagged archive)

-- These are the texts of these records with their tags, one each.
abbrev pub AreRenewals : Keys → List OldRecord → List (List ℕ) → Type 0
AreRenewals keys [] [] = Unit {0}
AreRenewals keys [] (text ∷ texts) = ⊥
AreRenewals keys (old ∷ olds) [] = ⊥
AreRenewals keys (old ∷ olds) (text ∷ texts) = IsRenewal keys old.archive text × AreRenewals keys olds texts

-- the salts of these texts, one behind the other
abbrev pub salts_in : (keys : Keys) (olds : List OldRecord) (texts : List (List ℕ)) → AreRenewals keys olds texts → List ℕ
salts_in keys [] [] all = []
salts_in keys [] (text ∷ texts) all = []
salts_in keys (old ∷ olds) [] all = []
salts_in keys (old ∷ olds) (text ∷ texts) all = all.0.salt ++ salts_in keys olds texts all.1

-- A text is that of the record with a tag, whose salt was drawn from a source of random bytes.
abbrev pub DrawsRenewal : Keys → ArchiveText → List ℕ → Option (List ℕ) → Option (List ℕ) → Type 0
DrawsRenewal keys archive text drawn drawn_now =
    (renewal : IsRenewal keys archive text) × (drawn_now ≡ option_map (λ (bytes : List ℕ). bytes ++ renewal.salt) drawn)

-- These are the texts of these records with their tags, whose salts were drawn, one behind the other.
abbrev pub DrawsRenewals : Keys → List OldRecord → List (List ℕ) → Option (List ℕ) → Option (List ℕ) → Type 0
DrawsRenewals keys olds texts drawn drawn_now = (renewals : AreRenewals keys olds texts)
    × (drawn_now ≡ option_map (λ (bytes : List ℕ). bytes ++ salts_in keys olds texts renewals) drawn)

-- The salts of these texts were drawn, and 64 bytes behind them for the manifest, and nothing else; where there are no texts, nothing was drawn.
abbrev pub DrawsTags : (keys : Keys) (olds : List OldRecord) (texts : List (List ℕ)) → AreRenewals keys olds texts → Option (List ℕ) → Option (List ℕ) → Type 0
DrawsTags keys [] texts all drawn drawn_now = drawn_now ≡ drawn
DrawsTags keys (old ∷ olds) texts all drawn drawn_now = (salt : List ℕ) × ((length salt ≡ 64)
    × (drawn_now ≡ option_map (λ (bytes : List ℕ). bytes ++ (salts_in keys (old ∷ olds) texts all ++ salt)) drawn))

-- an archive with another record
abbrev pub renewed_entry : ArchiveRef → List ℕ → ArchiveRef
renewed_entry named id = record { name = named.name; id = id; time = named.time }

-- these archives with the records of these ids
abbrev pub renewed_entries : List ArchiveRef → List (List ℕ) → List ArchiveRef
renewed_entries [] ids = []
renewed_entries (named ∷ archives) [] = []
renewed_entries (named ∷ archives) (id ∷ ids) = renewed_entry named id ∷ renewed_entries archives ids

-- the manifest with this archive in the place of the one of its name
abbrev pub with_renewed : ManifestText → ArchiveRef → ManifestText
with_renewed manifest entry = next_manifest (without_entry manifest entry.name) entry []

-- the same of several, one after another
abbrev pub renewed : ManifestText → List ArchiveRef → ManifestText
renewed manifest [] = manifest
renewed manifest (entry ∷ entries) = renewed (with_renewed manifest entry) entries

-- the archives of these records
abbrev pub archives_in : List OldRecord → List ArchiveRef
archives_in olds = map (λ (old : OldRecord). old.named) olds

-- the ids of these texts
abbrev pub ids_under : Keys → List (List ℕ) → List (List ℕ)
ids_under keys texts = map (content_id keys) texts

-- the manifest in which each of these archives has its record of these texts, written at a time
abbrev pub next_tagged : Keys → ManifestText → List OldRecord → List (List ℕ) → List ℕ → ManifestText
next_tagged keys manifest olds texts time = written_at (renewed manifest (renewed_entries (archives_in olds) (ids_under keys texts))) time

-- the same where there are such archives, and else the manifest as it is
abbrev pub tagged_manifest : Keys → ManifestText → List OldRecord → List (List ℕ) → List ℕ → ManifestText
tagged_manifest keys manifest [] texts time = manifest
tagged_manifest keys manifest (old ∷ olds) texts time = next_tagged keys manifest (old ∷ olds) texts time

-- These are the records that have got a tag: all that had none, or none yet.
abbrev pub AreTagged : Files → RepoState → Bool → List OldRecord → Type 0
AreTagged files repo true olds = AreOld files repo repo.manifest.archives olds
AreTagged files repo false olds = olds ≡ []

-- ---- records that nothing uses any more

-- the ids that an archive goes on using when its record has got a tag: of an untagged record not its own
abbrev pub ids_kept : ArchiveRead → List (List ℕ)
ids_kept read = if read.archive.tagged then ids_used read else read.archive.items ++ flat_map ids_of read.items

-- the ids of records without a tag
abbrev pub old_ids : List ArchiveRead → List (List ℕ)
old_ids reads = map (λ (read : ArchiveRead). read.id) (untagged reads)

-- An id is that of a record without a tag, and no archive goes on using it.
pub record IsFreed (files : Files) (repo : RepoState) (id : List ℕ) : Type 0 where
  pub reads : List ArchiveRead
  pub are_read : AreRead files repo repo.manifest.archives reads
  pub old : 0 < occurrences id (old_ids reads)
  pub unused : occurrences id (flat_map ids_kept reads) ≡ 0

-- Each archive reads, and these are all such ids, in byte order, each once.
pub record AreFreed (files : Files) (repo : RepoState) (ids : List (List ℕ)) : Type 0 where
  pub reads : List ArchiveRead
  pub are_read : AreRead files repo repo.manifest.archives reads
  pub sorted : IsStrictlySortedBy key_cmp ids
  pub each : (id : List ℕ) → (is_among id ids ≡ true) ↔ IsFreed files repo id

-- ---- what is written

-- what is written with these entries behind it
abbrev pub with_puts : Written → List LogEntry → Written
with_puts written puts = record written { pending = written.pending ++ puts }

-- A blob under an id opens to one of these texts.
pub record IsOfText (keys : Keys) (texts : List (List ℕ)) (id blob : List ℕ) : Type 0 where
  pub text : List ℕ
  pub among : IsAmong texts text
  pub id_is : id ≡ content_id keys text
  pub chunk : id ≢ zero_id
  pub opens : OpensTo keys id blob text

-- By these entries the id of a text is live, and its blob opens.
pub record IsLiveText (keys : Keys) (entries : List LogEntry) (text : List ℕ) : Type 0 where
  pub blob : List ℕ
  pub live : live_in (content_id keys text) entries ≡ Some blob
  pub content : List ℕ
  pub opens : OpensTo keys (content_id keys text) blob content

-- By what is written now the ids of these texts are live and open, all stays that was live by what was written, and nothing else came.
pub record BringsTexts (keys : Keys) (texts : List (List ℕ)) (written written_now : Written) : Type 0 where
  pub keeps : Keeps (entries_of written) (entries_of written_now)
  pub only : (id blob : List ℕ) → live_in id (entries_of written_now) ≡ Some blob
      → (live_in id (entries_of written) ≡ Some blob) ⊎ IsOfText keys texts id blob
  pub each : AllByRecursion (λ (text : List ℕ). content_id keys text ≢ zero_id → IsLiveText keys (entries_of written_now) text) texts

-- Files show that the records without a tag, of which there are some, have got one, each archive its own, and that those are deleted that nothing uses any
-- more.
pub record ShowsTagged (files : Files) (repo : RepoState) (time : List ℕ) (written : Written) (image : Files) : Type 0 where
  pub olds : List OldRecord
  pub are_old : AreOld files repo repo.manifest.archives olds
  pub some : olds ≢ []
  pub texts : List (List ℕ)
  pub renewals : AreRenewals repo.keys olds texts
  pub puts : List LogEntry
  pub brings : BringsTexts repo.keys texts written (with_puts written puts)
  pub ids : List (List ℕ)
  pub freed : AreFreed files repo ids
  pub blob : List ℕ
  pub shows : ShowsStanding (with_deleted (with_puts written puts) ids blob) image
  pub manifest : CommitsManifest (with_manifest repo (next_tagged repo.keys repo.manifest olds texts time))
      (with_deleted (with_puts written puts) ids blob).committed

-- Files show what was committed, or that.
abbrev pub ShowsRenewed : Files → RepoState → List ℕ → Written → Files → Type 0
ShowsRenewed files repo time written image = ShowsStanding written image ⊎ ShowsTagged files repo time written image

-- At each moment each stop shows what was committed, or the same with tagged records.
abbrev pub TagsSound : List ℕ → Store → History → History → Type 0
TagsSound time store before now = (counts : Bool) (fits : StoreFits counts store before)
    → Moments (IsSound (ShowsRenewed (files_now before) (repo_view store.repo) time fits.written) counts) before now

-- So many records have got their tags, at least one, with salts that were drawn, and a manifest with them is committed, where a repository was read from
-- these files.
pub record HasTagged (counts : Bool) (time : List ℕ) (drawn drawn_now : Option (List ℕ)) (files : Files) (repo : RepoState) (written : Written)
    (store_now : Store) (count : ℕ) (now : History) : Type 0 where
  pub olds : List OldRecord
  pub are_old : AreOld files repo repo.manifest.archives olds
  pub some : olds ≢ []
  pub count_is : count ≡ length olds
  pub texts : List (List ℕ)
  pub renewals : AreRenewals repo.keys olds texts
  pub drew : DrawsTags repo.keys olds texts renewals drawn drawn_now
  pub puts : List LogEntry
  pub brings : BringsTexts repo.keys texts written (with_puts written puts)
  pub ids : List (List ℕ)
  pub freed : AreFreed files repo ids
  pub fits : FitsWithout counts ids store_now now
  pub blob : List ℕ
  pub written_is : fits.written ≡ with_deleted (with_puts written puts) ids blob
  pub keys : (repo_view store_now.repo).keys ≡ repo.keys
  pub manifest : (repo_view store_now.repo).manifest ≡ next_tagged repo.keys repo.manifest olds texts time

-- Every record has a tag, and nothing was done or drawn.
pub record NeedsNoTag (drawn drawn_now : Option (List ℕ)) (repo : RepoState) (count : ℕ) (before now : History) : Type 0 where
  pub none : AreOld (files_now before) repo repo.manifest.archives []
  pub reads : List ArchiveRead
  pub are_read : AreRead (files_now before) repo repo.manifest.archives reads
  pub count_is : count ≡ 0
  pub undrawn : drawn_now ≡ drawn
  pub same : now ≡ before

abbrev pub Tags : List ℕ → Option (List ℕ) → Option (List ℕ) → Store → Store → ℕ → History → History → Type 0
Tags time drawn drawn_now store store_now count before now = (counts : Bool) (fits : StoreFits counts store before)
    → NeedsNoTag drawn drawn_now (repo_view store.repo) count before now
    ⊎ HasTagged counts time drawn drawn_now (files_now before) (repo_view store.repo) fits.written store_now count now

-- ---- what is left

-- The names of a manifest are those of another, with the same times.
abbrev pub KeepsNamesAndTimes : ManifestText → ManifestText → Type 0
KeepsNamesAndTimes before after = (name : List ℕ) → option_map (λ (a : ArchiveRef). a.time) (archive_named name after.archives)
    ≡ option_map (λ (a : ArchiveRef). a.time) (archive_named name before.archives)

-- Files open under a secret, with the settings that these had, and the same names. Where their records have been tagged none is untagged, and else the ones
-- that were. The manifest is that of before, or has the new record of each archive whose record had no tag, and is written at a time. Each archive that was
-- whole is whole and says the same, where no contents collide among the new records and what was live. The chunks are those of before, but for old records
-- that nothing uses any more, and the new records.
pub record KeepsArchives (secret : Secret) (start : Files) (before : RepoState) (time : List ℕ) (tagged : Bool) (image : Files) : Type 0 where
  pub repo : RepoState
  pub opens : OpensFilesTo image secret repo
  pub config : image.config ≡ start.config
  pub names : KeepsNamesAndTimes before.manifest repo.manifest
  pub olds : List OldRecord
  pub are_tagged : AreTagged start before tagged olds
  pub texts : List (List ℕ)
  pub renewals : AreRenewals before.keys olds texts
  pub manifest : repo.manifest ≡ tagged_manifest before.keys before.manifest olds texts time
  pub wholes : (scope : List (List ℕ)) → NoCollision before.keys scope → AllByRecursion (IsAmong scope) texts → HoldsWithin scope start before
      → (name : List ℕ) (whole : WholeArchive) → HasWhole start secret name whole → HasWhole image secret name whole
  pub untagged : (scope : List (List ℕ)) → NoCollision before.keys scope → AllByRecursion (IsAmong scope) texts → HoldsWithin scope start before
      → (name : List ℕ) → IsUntagged image repo name ↔ (IsUntagged start before name × (tagged ≡ false))
  pub kept : (id blob : List ℕ) → id ≢ zero_id → HasBlob start before.log id blob → (tagged ≡ true → IsFreed start before id → ⊥)
      → HasBlob image repo.log id blob
  pub gone : (id blob : List ℕ) → id ≢ zero_id → tagged ≡ true → IsFreed start before id → HasBlob image repo.log id blob → ⊥
  pub only : (id blob : List ℕ) → id ≢ zero_id → HasBlob image repo.log id blob
      → HasBlob start before.log id blob ⊎ ((tagged ≡ true) × IsOfText before.keys texts id blob)

-- ---- refusals

-- With some salt of 64 bytes the record of an archive that has no tag is larger with one than the content of an object may be.
abbrev pub HasLargeRecord : Files → RepoState → Type 0
HasLargeRecord files repo = (named : ArchiveRef) × ((archive : ArchiveText) × (ReadsRecord files repo named archive × ((archive.tagged ≡ false)
    × ((salt : List ℕ) × ((length salt ≡ 64) × (content_limit < length (archive_text repo.keys salt archive)))))))

-- With some tags and some salt of 64 bytes the manifest with the tagged records is larger than that.
abbrev pub HasLargeTagged : Files → RepoState → List ℕ → Type 0
HasLargeTagged files repo time = (olds : List OldRecord) × (AreOld files repo repo.manifest.archives olds × ((texts : List (List ℕ))
    × (AreRenewals repo.keys olds texts × ((salt : List ℕ) × ((length salt ≡ 64)
    × (content_limit < length (manifest_text repo.keys salt (next_tagged repo.keys repo.manifest olds texts time))))))))

-- An id is that of the record with a tag, of an archive whose record has none. Its salt was drawn last, behind those of the records before it.
pub record IsNewId (files : Files) (repo : RepoState) (drawn drawn_now : Option (List ℕ)) (id : List ℕ) : Type 0 where
  pub done : List OldRecord
  pub old : OldRecord
  pub rest : List OldRecord
  pub are_old : AreOld files repo repo.manifest.archives (done ++ old ∷ rest)
  pub texts : List (List ℕ)
  pub middle : Option (List ℕ)
  pub drew : DrawsRenewals repo.keys done texts drawn middle
  pub text : List ℕ
  pub draws : DrawsRenewal repo.keys old.archive text middle drawn_now
  pub id_is : id ≡ content_id repo.keys text

-- A fault is one of a chunk that is live under the id of the new record of an archive, and breaks a rule.
abbrev pub IsOfNewRecord : Files → RepoState → Option (List ℕ) → Option (List ℕ) → Option Told → CarryFault → Type 0
IsOfNewRecord files repo drawn drawn_now now (Target (Repo (Repos.Blob id fault))) =
    IsNewId files repo drawn drawn_now id × IfSome now (λ t. BreaksLive (told_files t) repo.keys id fault)
IsOfNewRecord files repo drawn drawn_now now fault = ⊥

-- Why archives aren't tagged: an archive's record or stream doesn't read; or a chunk is live under the id of a new record, and its blob breaks a rule; or a new
-- record is too large, or the manifest with them; or what a refusal of the target says holds of its files as they are then.
abbrev pub RefusesTagging : Files → RepoState → List ℕ → Option (List ℕ) → Option (List ℕ) → Option Told → CarryFault → Type 0
RefusesTagging files repo time drawn drawn_now now (Target (Repo Repos.Device)) = Unit {0}
RefusesTagging files repo time drawn drawn_now now (Target (Repo (Repos.Blob id fault))) = RefusesRefs files repo (Repos.Blob id fault)
    ⊎ IsOfNewRecord files repo drawn drawn_now now (Target (Repo (Repos.Blob id fault)))
RefusesTagging files repo time drawn drawn_now now (Target (Repo fault)) = IsOfFiles fault × RefusesRefs files repo fault
RefusesTagging files repo time drawn drawn_now now (Target TooLarge) = HasLargeTagged files repo time
RefusesTagging files repo time drawn drawn_now now (Target refusal) = IfSome now (λ t. StopsAt t.history.start (told_files t) repo.keys refusal)
RefusesTagging files repo time drawn drawn_now now Record = HasLargeRecord files repo
RefusesTagging files repo time drawn drawn_now now Memory = Unit {0}
RefusesTagging files repo time drawn drawn_now now fault = ⊥
