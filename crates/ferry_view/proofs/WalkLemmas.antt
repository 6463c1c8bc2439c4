-- Lemmas on specs/Steps.antt and specs/Items.antt: a walk over the archive of a name, and the lines of its items.
use Rattle.std.proofs.Common.{◌≡◌, ◌⊎◌, inl, inr, ℕ, List, [], ◌++◌, Option, Some, None, option_map, refl, sym, ap, subst}
use Rattle.std.proofs.lemmas.List.{append_assoc}
use Rattle.ferry_disk.specs.Files.{Files}
use Rattle.ferry_item.specs.Item.{ItemText}
use Rattle.ferry_log.specs.State.{LogState, FitsFiles}
use Rattle.ferry_mac.specs.declared.keys.Keys.{Keys}
use Rattle.ferry_manifest.specs.Record.Text.{ArchiveText}
use Rattle.ferry_manifest.specs.declared.manifest.ArchiveRef.{ArchiveRef}
use Rattle.ferry_repo.specs.Archives.{archive_named, RefusesRecord, HoldsNamed, RefusesNamed}
use Rattle.ferry_repo.specs.Fault.{IsOfFiles}
use Rattle.ferry_repo.specs.Opening.{RepoState}
use Rattle.ferry_repo.specs.Walk.{WalkState, begin_walk, IsToCome, LeadsOn, FitsWalk, Comes}
use Rattle.ferry_repo.specs.Whole.{Reading, ReadsArchive, no_item}
use Rattle.ferry_repo.specs.declared.fault.RepoFault.{RepoFault}
use Rattle.ferry_repo.specs.declared.fault.RepoFault.TheVariants as Fault
use Rattle.ferry_repo.proofs.WalkLawLemmas.{some_to_come}
use Rattle.ferry_repo.proofs.WalkLemmas.{fits_begin}
use Rattle.ferry_repo.proofs.WholeLemmas.{some_archive}
use Rattle.ferry_view.specs.Items.{ReadsUpTo, no_archive, no_record, items_shown, IsItemListing, IsItemText, RefusesReading, RefusesItems}
use Rattle.ferry_view.specs.Lines.{item_lines}
use Rattle.ferry_view.specs.Output.{repo_fault}
use Rattle.ferry_view.specs.Steps.{Begins, RefusesBegin, AllLines, SomeLines, EndsWalk, Answers}
use Rattle.ferry_view.specs.declared.fault.ViewFault.{ViewFault}
use Rattle.ferry_view.specs.declared.fault.ViewFault.TheVariants as View
use Rattle.ferry_view.proofs.LinesLemmas.{item_lines-append}

-- ---- where a walk begins

found_begins : (files : Files) (repo : RepoState) (name : List ℕ) (found : Option ArchiveRef) (archive : ArchiveText)
    → archive_named name repo.manifest.archives ≡ found → HoldsNamed files repo.log repo.keys found (Some archive) → (id : List ℕ)
    → Some id ≡ option_map (λ a. a.id) found → Begins files repo name (begin_walk id archive.items)
found_begins files repo name None archive is holds id same = absurd holds
found_begins files repo name (Some named) archive is holds id same =
    let ids : id ≡ named.id = cc in
    record {
      named = named;
      named_is = is;
      archive = archive;
      record_is = holds;
      walk_is = ap (λ (i : List ℕ). begin_walk i archive.items) ids;
    }

-- the walk over a record that was found
pub begins : (files : Files) (repo : RepoState) (name : List ℕ) (archive : ArchiveText) (id : List ℕ)
    → HoldsNamed files repo.log repo.keys (archive_named name repo.manifest.archives) (Some archive)
    → Some id ≡ option_map (λ a. a.id) (archive_named name repo.manifest.archives) → Begins files repo name (begin_walk id archive.items)
begins files repo name archive id holds same =
    found_begins files repo name (archive_named name repo.manifest.archives) archive refl holds id same

not_found : (files : Files) (log : LogState) (keys : Keys) (found : Option ArchiveRef) → HoldsNamed files log keys found None → found ≡ None
not_found files log keys None holds = refl
not_found files log keys (Some named) holds = absurd holds

-- no archive was found
pub begins_none : (files : Files) (repo : RepoState) (name : List ℕ)
    → HoldsNamed files repo.log repo.keys (archive_named name repo.manifest.archives) None → RefusesBegin files repo name View.NotFound
begins_none files repo name holds = not_found files repo.log repo.keys (archive_named name repo.manifest.archives) holds

pub named_none : (o : Option ArchiveRef) → None ≡ option_map (λ a. a.id) o → o ≡ None
named_none None e = refl
named_none (Some named) e = absurd (let no : ⊥ = cc in no)

refused_found : (files : Files) (repo : RepoState) (name : List ℕ) (found : Option ArchiveRef) (fault : RepoFault)
    → archive_named name repo.manifest.archives ≡ found → RefusesNamed files repo.log repo.keys found fault
    → (named : ArchiveRef) × (archive_named name repo.manifest.archives ≡ Some named) × RefusesRecord files repo.log repo.keys named.id fault
refused_found files repo name None fault is refuses = absurd refuses
refused_found files repo name (Some named) fault is refuses = (named, is, refuses)

pub begin_refused : (files : Files) (repo : RepoState) (name : List ℕ) (fault : RepoFault)
    → RefusesNamed files repo.log repo.keys (archive_named name repo.manifest.archives) fault → RefusesBegin files repo name (repo_fault fault)
begin_refused files repo name Fault.NoCommit refuses =
    refused_found files repo name (archive_named name repo.manifest.archives) Fault.NoCommit refl refuses
begin_refused files repo name (Fault.Damaged segment at) refuses =
    refused_found files repo name (archive_named name repo.manifest.archives) (Fault.Damaged segment at) refl refuses
begin_refused files repo name (Fault.Config f) refuses =
    refused_found files repo name (archive_named name repo.manifest.archives) (Fault.Config f) refl refuses
begin_refused files repo name (Fault.Key f) refuses =
    refused_found files repo name (archive_named name repo.manifest.archives) (Fault.Key f) refl refuses
begin_refused files repo name (Fault.Missing id) refuses =
    refused_found files repo name (archive_named name repo.manifest.archives) (Fault.Missing id) refl refuses
begin_refused files repo name (Fault.Blob id f) refuses =
    refused_found files repo name (archive_named name repo.manifest.archives) (Fault.Blob id f) refl refuses
begin_refused files repo name (Fault.Manifest f) refuses =
    refused_found files repo name (archive_named name repo.manifest.archives) (Fault.Manifest f) refl refuses
begin_refused files repo name (Fault.Archive id f) refuses =
    refused_found files repo name (archive_named name repo.manifest.archives) (Fault.Archive id f) refl refuses
begin_refused files repo name (Fault.Item id f) refuses =
    refused_found files repo name (archive_named name repo.manifest.archives) (Fault.Item id f) refl refuses
begin_refused files repo name (Fault.Size id) refuses =
    refused_found files repo name (archive_named name repo.manifest.archives) (Fault.Size id) refl refuses
begin_refused files repo name (Fault.KeyFile fault) refuses =
    refused_found files repo name (archive_named name repo.manifest.archives) (Fault.KeyFile fault) refl refuses
begin_refused files repo name (Fault.Other file config) refuses =
    refused_found files repo name (archive_named name repo.manifest.archives) (Fault.Other file config) refl refuses
begin_refused files repo name Fault.NoKey refuses =
    refused_found files repo name (archive_named name repo.manifest.archives) Fault.NoKey refl refuses
begin_refused files repo name Fault.Device refuses =
    refused_found files repo name (archive_named name repo.manifest.archives) Fault.Device refl refuses
begin_refused files repo name Fault.Memory refuses = tt

pub begin_fits : (files : Files) (repo : RepoState) (name : List ℕ) (walk : WalkState) → Begins files repo name walk
    → FitsWalk files repo.log repo.keys walk
begin_fits files repo name walk b =
    subst (λ (w : WalkState). FitsWalk files repo.log repo.keys w) (sym b.walk_is) (fits_begin files repo.log repo.keys b.named.id b.archive.items)

front_comes : (files : Files) (log : LogState) (keys : Keys) (id : List ℕ) (ids : List (List ℕ)) (items : List ItemText) (end : Option RepoFault)
    → IsToCome files log keys (begin_walk id ids) items end → Comes files log keys id [] ids items end
unfolding IsToCome
front_comes files log keys id ids items end h = h

-- what comes from where a walk begins is what the archive reads
pub begin_comes : (files : Files) (repo : RepoState) (name : List ℕ) (walk : WalkState) (b : Begins files repo name walk) (items : List ItemText)
    (end : Option RepoFault) → IsToCome files repo.log repo.keys walk items end
    → Comes files repo.log repo.keys b.named.id [] b.archive.items items end
begin_comes files repo name walk b items end h =
    front_comes files repo.log repo.keys b.named.id b.archive.items items end
    (subst (λ (w : WalkState). IsToCome files repo.log repo.keys w items end) b.walk_is h)

-- ---- what a walk has answered

pub answers_none : (files : Files) (repo : RepoState) (walk : WalkState) → FitsWalk files repo.log repo.keys walk → Answers files repo walk [] walk
answers_none files repo walk fits = record { leads = λ items end h. h; fits = fits }

pub answers_more : (files : Files) (repo : RepoState) (from now after : WalkState) (done more : List ItemText) → Answers files repo from done now
    → LeadsOn files repo.log repo.keys now more after → FitsWalk files repo.log repo.keys after → Answers files repo from (done ++ more) after
answers_more files repo from now after done more answers leads fits = record {
  leads = λ items end h. subst (λ (is : List ItemText). IsToCome files repo.log repo.keys from is end) (sym (append_assoc done more items))
      (answers.leads (more ++ items) end (leads items end h));
  fits = fits;
}

-- more is to come behind what was answered
pub lines_more : (files : Files) (repo : RepoState) (from now : WalkState) (done : List ItemText) → FitsFiles files repo.log
    → Answers files repo from done now → (more : List ℕ) × SomeLines files repo from (item_lines done ++ more)
lines_more files repo from now done fits answers =
    let m = some_to_come files repo.log repo.keys now fits in (
      item_lines m.0,
      (m.1.0, record { items = done ++ m.0; come = answers.leads m.0 m.1.0 m.1.1; lines = sym (item_lines-append done m.0) }),
    )

-- ---- what a refusal says

-- a fault says something of the files, or says nothing of a record
free_or : (fault : RepoFault) → IsOfFiles fault ⊎ ((files : Files) (log : LogState) (keys : Keys) (id : List ℕ) → RefusesRecord files log keys id fault)
free_or Fault.NoCommit = inl tt
free_or (Fault.Damaged segment at) = inl tt
free_or (Fault.Config f) = inl tt
free_or (Fault.Key f) = inl tt
free_or (Fault.Missing id) = inl tt
free_or (Fault.Blob id f) = inl tt
free_or (Fault.Manifest f) = inl tt
free_or (Fault.Archive id f) = inl tt
free_or (Fault.Item id f) = inl tt
free_or (Fault.Size id) = inl tt
free_or (Fault.KeyFile fault) = inl tt
free_or (Fault.Other file config) = inl tt
free_or Fault.NoKey = inl tt
free_or Fault.Device = inr (λ files log keys id. tt)
free_or Fault.Memory = inr (λ files log keys id. tt)

free_by : (wanted : List ItemText → List ItemText) (files : Files) (repo : RepoState) (name : List ℕ) (fault : RepoFault) (named : ArchiveRef)
    → archive_named name repo.manifest.archives ≡ Some named
    → (IsOfFiles fault → (reading : Reading) × ReadsArchive wanted files repo.log repo.keys named.id reading × (reading.end ≡ Some fault))
    → IsOfFiles fault ⊎ ((files : Files) (log : LogState) (keys : Keys) (id : List ℕ) → RefusesRecord files log keys id fault)
    → RefusesReading wanted files repo name fault
free_by wanted files repo name fault named is refuses (inl of_files) = (named, is, inr (refuses of_files))
free_by wanted files repo name fault named is refuses (inr free) = (named, is, inl (free files repo.log repo.keys named.id))

-- a refusal of an archive that was found, where a fault that says something of the files ends the reading
pub free_refuses : (wanted : List ItemText → List ItemText) (files : Files) (repo : RepoState) (name : List ℕ) (fault : RepoFault) (named : ArchiveRef)
    → archive_named name repo.manifest.archives ≡ Some named
    → (IsOfFiles fault → (reading : Reading) × ReadsArchive wanted files repo.log repo.keys named.id reading × (reading.end ≡ Some fault))
    → RefusesReading wanted files repo name fault
free_refuses wanted files repo name fault named is refuses = free_by wanted files repo name fault named is refuses (free_or fault)

-- a refusal to begin is one to read
pub begin_refuses : (wanted : List ItemText → List ItemText) (files : Files) (repo : RepoState) (name : List ℕ) (fault : RepoFault)
    → RefusesBegin files repo name (View.Repo fault) → RefusesReading wanted files repo name fault
begin_refuses wanted files repo name fault refuses = (refuses.0, refuses.1, inl refuses.2)

-- ---- the listing

-- the reading of an archive whose contents aren't wanted
items_reading : (files : Files) (repo : RepoState) (name : List ℕ) (walk : WalkState) (b : Begins files repo name walk) (items : List ItemText)
    (end : Option RepoFault) → IsToCome files repo.log repo.keys walk items end
    → ReadsArchive no_item files repo.log repo.keys b.named.id (record { archive = b.archive; items = items; wholes = []; end = end })
items_reading files repo name walk b items end come =
    record { record_is = b.record_is; ends = end; comes = begin_comes files repo name walk b items end come; contents = refl }

pub listing_of : (files : Files) (repo : RepoState) (name : List ℕ) (walk : WalkState) (text : List ℕ) → Begins files repo name walk
    → AllLines files repo walk text → IsItemListing files repo name text
listing_of files repo name walk text b lines = record {
  reading = record { archive = b.archive; items = lines.items; wholes = []; end = None };
  reads = record { named = b.named; named_is = b.named_is; reads = items_reading files repo name walk b lines.items None lines.come };
  whole = refl;
  lines = lines.lines;
}

pub text_of : (files : Files) (repo : RepoState) (name : List ℕ) (walk : WalkState) (text : List ℕ) → Begins files repo name walk
    → SomeLines files repo walk text → IsItemText files repo name text
text_of files repo name walk text b lines =
    let end = lines.0 in
    let come = lines.1 in
    items_shown (record { archive = b.archive; items = come.items; wholes = []; end = end }) text
    (record { named = b.named; named_is = b.named_is; reads = items_reading files repo name walk b come.items end come.come }) come.lines

pub items_refused : (files : Files) (repo : RepoState) (name : List ℕ) (walk : WalkState) (fault : ViewFault) → Begins files repo name walk
    → EndsWalk files repo walk fault → RefusesItems files repo name fault
items_refused files repo name walk (View.Repo fault) b ends =
    free_refuses no_item files repo name fault b.named b.named_is
    (λ of_files. let e = ends of_files in (
      record { archive = b.archive; items = e.0; wholes = []; end = Some fault },
      items_reading files repo name walk b e.0 (Some fault) e.1,
      refl,
    ))
items_refused files repo name walk View.NotFound b ends = absurd ends
items_refused files repo name walk View.Output b ends = tt
items_refused files repo name walk View.Memory b ends = tt

pub begin_refuses_items : (files : Files) (repo : RepoState) (name : List ℕ) (fault : ViewFault) → RefusesBegin files repo name fault
    → RefusesItems files repo name fault
begin_refuses_items files repo name (View.Repo fault) refuses = begin_refuses no_item files repo name fault refuses
begin_refuses_items files repo name View.NotFound refuses = refuses
begin_refuses_items files repo name View.Output refuses = absurd refuses
begin_refuses_items files repo name View.Memory refuses = tt

-- ---- some text is shown

text_by : (wanted : List ItemText → List ItemText) (IsShown : List ItemText → List ℕ → Type 0) (files : Files) (repo : RepoState) (name : List ℕ)
    (named : ArchiveRef) → archive_named name repo.manifest.archives ≡ Some named → ((items : List ItemText) → (text : List ℕ) × IsShown items text)
    → ((reading : Reading) × ReadsArchive wanted files repo.log repo.keys named.id reading)
    ⊎ ((fault : RepoFault) × IsOfFiles fault × RefusesRecord files repo.log repo.keys named.id fault)
    → (text : List ℕ) × ReadsUpTo wanted IsShown files repo name text
text_by wanted IsShown files repo name named is shown (inl read) =
    let s = shown read.0.items in
    (s.0, items_shown read.0 s.0 (record { named = named; named_is = is; reads = read.1 }) s.1)
text_by wanted IsShown files repo name named is shown (inr refuses) = ([], no_record named refuses.0 is refuses.1 refuses.2)

text_found : (wanted : List ItemText → List ItemText) (IsShown : List ItemText → List ℕ → Type 0) (files : Files) (repo : RepoState) (name : List ℕ)
    (found : Option ArchiveRef) → archive_named name repo.manifest.archives ≡ found → ((items : List ItemText) → (text : List ℕ) × IsShown items text)
    → FitsFiles files repo.log → (text : List ℕ) × ReadsUpTo wanted IsShown files repo name text
text_found wanted IsShown files repo name None is shown fits = ([], no_archive is)
text_found wanted IsShown files repo name (Some named) is shown fits =
    text_by wanted IsShown files repo name named is shown (some_archive wanted files repo.log repo.keys named.id fits)

-- something is shown of the archive of a name, nothing maybe
pub some_text : (wanted : List ItemText → List ItemText) (IsShown : List ItemText → List ℕ → Type 0) (files : Files) (repo : RepoState) (name : List ℕ)
    → ((items : List ItemText) → (text : List ℕ) × IsShown items text) → FitsFiles files repo.log
    → (text : List ℕ) × ReadsUpTo wanted IsShown files repo name text
some_text wanted IsShown files repo name shown fits =
    text_found wanted IsShown files repo name (archive_named name repo.manifest.archives) refl shown fits

pub some_item_text : (files : Files) (repo : RepoState) (name : List ℕ) → FitsFiles files repo.log → (text : List ℕ) × IsItemText files repo name text
some_item_text files repo name fits =
    some_text no_item (λ items shown. shown ≡ item_lines items) files repo name (λ items. (item_lines items, refl)) fits
