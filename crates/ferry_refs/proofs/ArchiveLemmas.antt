-- Lemmas on specs/Steps.antt: an archive that is counted or refused, and several archives.
use Rattle.std.proofs.Common.{◌≡◌, inr, ℕ, ◌+◌, ◌<◌, List, [], ◌∷◌, ◌++◌, length, take, drop, get_or}
use Rattle.std.proofs.Common.{Option, Some, None, IfSome, option_map, refl, sym, ◌∙◌, ap, subst, arith}
use Rattle.std.specs.List.{flat_map}
use Rattle.std.proofs.lemmas.List.{append_assoc, append-nil, take_more}
use Rattle.ferry_check.specs.Report.{ArchiveRead, IsRead, AreRead, ids_of, ids_used}
use Rattle.ferry_check.proofs.MarkLemmas.{parted}
use Rattle.ferry_disk.specs.Device.{Told, told_files, heard}
use Rattle.ferry_disk.specs.Files.{Files}
use Rattle.ferry_disk.proofs.DeviceLemmas.{told_any, told_then, told_with}
use Rattle.ferry_item.specs.Item.{ItemText}
use Rattle.ferry_manifest.specs.Record.Text.{ArchiveText}
use Rattle.ferry_manifest.specs.declared.manifest.ArchiveRef.{ArchiveRef}
use Rattle.ferry_repo.specs.Archives.{archive_named, HoldsNamed}
use Rattle.ferry_repo.specs.Opening.{RepoState}
use Rattle.ferry_repo.specs.Walk.{begin_walk, WalkState, IsToCome, Comes}
use Rattle.ferry_repo.specs.declared.fault.RepoFault.{RepoFault}
use Rattle.ferry_repo.proofs.ComesLemmas.{whole_comes}
use Rattle.ferry_refs.specs.Refs.{Refs, EndsStream, RefusesRead, RefusesRefs, occurrences}
use Rattle.ferry_refs.specs.Steps.{Tally, no_tally, Adds, CountsItems, CountsArchive, CountsArchives, StreamEnds}
use Rattle.ferry_refs.proofs.CountLemmas.{adds_none, adds_then}

-- ---- one archive

front_comes : (files : Files) (repo : RepoState) (id : List ℕ) (ids : List (List ℕ)) (items : List ItemText) (end : Option RepoFault)
    → IsToCome files repo.log repo.keys (begin_walk id ids) items end → Comes files repo.log repo.keys id [] ids items end
unfolding IsToCome
front_comes files repo id ids items end h = h

-- what is to come of a walk in front of the stream comes of the stream, under the id that the manifest has
comes_named : (files : Files) (repo : RepoState) (named : ArchiveRef) (archive : ArchiveText) (id : List ℕ) (walk : WalkState) (items : List ItemText)
    (end : Option RepoFault) → named.id ≡ id → walk ≡ begin_walk id archive.items → IsToCome files repo.log repo.keys walk items end
    → Comes files repo.log repo.keys named.id [] archive.items items end
comes_named files repo named archive id walk items end ids begins come =
    let start : walk ≡ begin_walk named.id archive.items = begins ∙ ap (λ i. begin_walk i archive.items) (sym ids) in
    front_comes files repo named.id archive.items items end (subst (λ (w : WalkState). IsToCome files repo.log repo.keys w items end) start come)

read_by : (files : Files) (repo : RepoState) (name : List ℕ) (found : Option ArchiveRef) (archive : ArchiveText) (id : List ℕ)
    (walk : WalkState) (items : List ItemText) → archive_named name repo.manifest.archives ≡ found
    → HoldsNamed files repo.log repo.keys found (Some archive) → Some id ≡ option_map (λ a. a.id) found → walk ≡ begin_walk id archive.items
    → IsToCome files repo.log repo.keys walk items None → IsRead files repo name (record { id = id; archive = archive; items = items })
read_by files repo name None archive id walk items is holds same begins come = absurd holds
read_by files repo name (Some named) archive id walk items is holds same begins come =
    let ids : named.id ≡ id = cc in
    record {
      named = named;
      named_is = is;
      id = sym ids;
      record_is = holds;
      stream = (whole_comes files repo.log repo.keys named.id archive.items items).0
          (comes_named files repo named archive id walk items None ids begins come);
    }

-- the archive is counted
pub archive_counted : (told later : Option Told) (repo : RepoState) (name : List ℕ) (old tally next : Tally) (archive : ArchiveText) (id : List ℕ)
    (walk : WalkState) → heard later ≡ heard told
    → IfSome told (λ t. HoldsNamed (told_files t) repo.log repo.keys (archive_named name repo.manifest.archives) (Some archive))
    → Some id ≡ option_map (λ a. a.id) (archive_named name repo.manifest.archives) → walk ≡ begin_walk id archive.items
    → Adds (id ∷ archive.items) old tally → CountsItems later repo walk tally next → CountsArchive told repo name old next
archive_counted told later repo name old tally next archive id walk same holds named begins adds counts = record {
  read = record { id = id; archive = archive; items = counts.items };
  is = told_with told later (λ f. HoldsNamed f repo.log repo.keys (archive_named name repo.manifest.archives) (Some archive))
      (λ f. IsToCome f repo.log repo.keys walk counts.items None)
      (λ f. IsRead f repo name (record { id = id; archive = archive; items = counts.items })) same
      (λ f h come. read_by f repo name (archive_named name repo.manifest.archives) archive id walk counts.items refl h named begins come)
      holds counts.come;
  adds = adds_then old tally next (id ∷ archive.items) (flat_map ids_of counts.items) adds counts.adds;
}

ends_by : (files : Files) (repo : RepoState) (name : List ℕ) (found : Option ArchiveRef) (archive : ArchiveText) (id : List ℕ)
    (walk : WalkState) (fault : RepoFault) → archive_named name repo.manifest.archives ≡ found
    → HoldsNamed files repo.log repo.keys found (Some archive) → Some id ≡ option_map (λ a. a.id) found → walk ≡ begin_walk id archive.items
    → StreamEnds files repo walk fault → EndsStream files repo name fault
ends_by files repo name None archive id walk fault is holds same begins ends = absurd holds
ends_by files repo name (Some named) archive id walk fault is holds same begins ends =
    let ids : named.id ≡ id = cc in
    record {
      named = named;
      named_is = is;
      archive = archive;
      record_is = holds;
      items = ends.0;
      come = comes_named files repo named archive id walk ends.0 (Some fault) ids begins ends.1;
    }

-- the stream of the archive is refused
pub archive_refused : (told later : Option Told) (repo : RepoState) (name : List ℕ) (archive : ArchiveText) (id : List ℕ)
    (walk : WalkState) (fault : RepoFault) → heard later ≡ heard told
    → IfSome told (λ t. HoldsNamed (told_files t) repo.log repo.keys (archive_named name repo.manifest.archives) (Some archive))
    → Some id ≡ option_map (λ a. a.id) (archive_named name repo.manifest.archives) → walk ≡ begin_walk id archive.items
    → IfSome later (λ t. StreamEnds (told_files t) repo walk fault) → IfSome told (λ t. RefusesRead (told_files t) repo name fault)
archive_refused told later repo name archive id walk fault same holds named begins ends =
    told_with told later (λ f. HoldsNamed f repo.log repo.keys (archive_named name repo.manifest.archives) (Some archive))
    (λ f. StreamEnds f repo walk fault) (λ f. RefusesRead f repo name fault) same
    (λ f h end. inr (ends_by f repo name (archive_named name repo.manifest.archives) archive id walk fault refl h named begins end))
    holds ends

-- ---- several archives

pub reads-append : (files : Files) (repo : RepoState) (xs ys : List ArchiveRef) (rs ss : List ArchiveRead) → AreRead files repo xs rs
    → AreRead files repo ys ss → AreRead files repo (xs ++ ys) (rs ++ ss)
reads-append files repo [] ys [] ss h g = g
reads-append files repo [] ys (r ∷ rs) ss h g = absurd h
reads-append files repo (x ∷ xs) ys [] ss h g = absurd h
reads-append files repo (x ∷ xs) ys (r ∷ rs) ss h g = (h.0, reads-append files repo xs ys rs ss h.1 g)

pub used-append : (xs ys : List ArchiveRead) → flat_map ids_used (xs ++ ys) ≡ flat_map ids_used xs ++ flat_map ids_used ys
used-append [] ys = refl
used-append (x ∷ xs) ys =
    ap (λ k. ids_used x ++ k) (used-append xs ys) ∙ sym (append_assoc (ids_used x) (flat_map ids_used xs) (flat_map ids_used ys))

used-more : (xs : List ArchiveRead) (x : ArchiveRead) → flat_map ids_used (xs ++ (x ∷ [])) ≡ flat_map ids_used xs ++ ids_used x
used-more xs x = used-append xs (x ∷ []) ∙ ap (λ k. flat_map ids_used xs ++ k) (append-nil (ids_used x))

-- of no archive nothing is counted
pub archives_begin : (told : Option Told) (repo : RepoState) (tally : Tally) → ((id : List ℕ) → tally id ≡ 0)
    → CountsArchives told repo [] no_tally tally
archives_begin told repo tally none = record {
  reads = [];
  are = told_any told (λ f. AreRead f repo [] []) (λ f. tt);
  adds = λ id. none id ∙ adds_none no_tally id;
}

-- one archive more is counted
pub archives_next : (told later : Option Told) (repo after_repo : RepoState) (archives : List ArchiveRef) (place : ℕ) (d : ArchiveRef)
    (old tally next : Tally) → heard later ≡ heard told → after_repo ≡ repo → place < length archives
    → CountsArchives told repo (take place archives) old tally
    → CountsArchive later after_repo (get_or archives place d).name tally next
    → CountsArchives told repo (take (place + 1) archives) old next
archives_next told later repo after_repo archives place d old tally next same same_repo lt counts one =
    let name = (get_or archives place d).name in
    let front = take place archives in
    record {
      reads = counts.reads ++ (one.read ∷ []);
      are = told_with told later (λ f. AreRead f repo front counts.reads) (λ f. IsRead f after_repo name one.read)
          (λ f. AreRead f repo (take (place + 1) archives) (counts.reads ++ (one.read ∷ []))) same
          (λ f so more.
          subst (λ (others : List ArchiveRef). AreRead f repo others (counts.reads ++ (one.read ∷ []))) (sym (take_more archives place d lt))
          (reads-append f repo front (get_or archives place d ∷ []) counts.reads (one.read ∷ []) so
          (subst (λ (r : RepoState). IsRead f r name one.read) same_repo more, tt)))
          counts.are one.is;
      adds = subst (λ (ids : List (List ℕ)). Adds ids old next) (sym (used-more counts.reads one.read))
          (adds_then old tally next (flat_map ids_used counts.reads) (ids_used one.read) counts.adds one.adds);
    }

-- an archive is refused
pub archives_refused : (told later : Option Told) (repo after_repo : RepoState) (archives : List ArchiveRef) (place : ℕ) (d : ArchiveRef)
    (old tally : Tally) (fault : RepoFault) → heard later ≡ heard told → after_repo ≡ repo → archives ≡ repo.manifest.archives
    → place < length archives → CountsArchives told repo (take place archives) old tally
    → IfSome later (λ t. RefusesRead (told_files t) after_repo (get_or archives place d).name fault)
    → IfSome told (λ t. RefusesRefs (told_files t) repo fault)
archives_refused told later repo after_repo archives place d old tally fault same same_repo all lt counts refused =
    let name = (get_or archives place d).name in
    let front = take place archives in
    told_with told later (λ f. AreRead f repo front counts.reads) (λ f. RefusesRead f after_repo name fault) (λ f. RefusesRefs f repo fault) same
    (λ f so r. record {
      before = front;
      named = get_or archives place d;
      behind = drop (place + 1) archives;
      archives = sym all ∙ parted archives place d lt;
      reads = counts.reads;
      are_read = so;
      refused = subst (λ (s : RepoState). RefusesRead f s name fault) same_repo r;
    })
    counts.are refused

-- all archives are counted
pub archives_all : (told : Option Told) (repo : RepoState) (front : List ArchiveRef) (tally : Tally) → front ≡ repo.manifest.archives
    → CountsArchives told repo front no_tally tally
    → IfSome told (λ t. (id : List ℕ) → Refs (told_files t) repo id (tally id))
archives_all told repo front tally whole counts =
    told_then told (λ f. AreRead f repo front counts.reads) (λ f. (id : List ℕ) → Refs f repo id (tally id))
    (λ f so id. record {
      reads = counts.reads;
      are_read = subst (λ (others : List ArchiveRef). AreRead f repo others counts.reads) whole so;
      count_is = let adds : tally id ≡ 0 + occurrences id (flat_map ids_used counts.reads) = counts.adds id in omega (arith, adds);
    })
    counts.are
