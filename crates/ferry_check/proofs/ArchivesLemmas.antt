-- Lemmas on specs/Steps.antt: the archives that are checked so far, one more, and one that isn't whole.
use Rattle.std.proofs.Common.{◌≡◌, ◌⊎◌, ℕ, ◌+◌, ◌<◌, Bool, true, false, not, cond, List, [], ◌∷◌, ◌++◌, length, take, drop, get_or}
use Rattle.std.proofs.Common.{Option, Some, None, IfSome, option_map, refl, sym, ◌∙◌, ap, subst}
use Rattle.std.specs.List.{AllByRecursion, flat_map}
use Rattle.std.proofs.lemmas.List.{append_assoc, append-nil, take_more, length-append}
use Rattle.ferry_disk.specs.Device.{Told, told_files, heard}
use Rattle.ferry_disk.specs.Files.{Files}
use Rattle.ferry_disk.proofs.DeviceLemmas.{told_any, told_same, told_then, told_with}
use Rattle.ferry_item.specs.Item.{ItemText}
use Rattle.ferry_manifest.specs.Record.Text.{ArchiveText}
use Rattle.ferry_manifest.specs.declared.manifest.ArchiveRef.{ArchiveRef}
use Rattle.ferry_repo.specs.Archives.{archive_named, HoldsNamed, RefusesNamed}
use Rattle.ferry_repo.specs.Fault.{IsOfFiles}
use Rattle.ferry_repo.specs.Opening.{RepoState}
use Rattle.ferry_repo.specs.Walk.{begin_walk, WalkState, IsToCome}
use Rattle.ferry_repo.specs.Whole.{RefusesWhole}
use Rattle.ferry_repo.specs.declared.fault.RepoFault.{RepoFault}
use Rattle.ferry_check.specs.Report.{ArchiveRead, AreRead, ids_of, ids_used, untagged}
use Rattle.ferry_check.specs.Steps.{Known, KnowsSizes, Marks, ItemsRight, StreamEnds, ItemEnds}
use Rattle.ferry_check.specs.Steps.{Checked, ChecksItems, ChecksArchive, ChecksArchives, one_untagged}
use Rattle.ferry_check.specs.Verify.{ReadsWhole, BadArchive}
use Rattle.ferry_check.proofs.ArchiveLemmas.{checked_whole, checked_refused, named_refused}
use Rattle.ferry_check.proofs.ItemLemmas.{told_both}
use Rattle.ferry_check.proofs.MarkLemmas.{marks_none, marks_then, sizes_kept, all_more, parted}

-- ---- one archive

-- lengths stay, of what a shelf tells
pub told_sizes : (told : Option Told) (repo : RepoState) (a b : Known) (ids : List (List ℕ)) → Marks ids a b
    → IfSome told (λ t. KnowsSizes (told_files t) repo a) → IfSome told (λ t. KnowsSizes (told_files t) repo b)
told_sizes told repo a b ids marks sizes =
    told_then told (λ f. KnowsSizes f repo a) (λ f. KnowsSizes f repo b) (λ f. sizes_kept f repo a b ids marks) sizes

checked_by : (files : Files) (repo : RepoState) (name : List ℕ) (known : Known) (found : Option ArchiveRef) (archive : ArchiveText) (id : List ℕ)
    (walk : WalkState) (items : List ItemText) → archive_named name repo.manifest.archives ≡ found
    → HoldsNamed files repo.log repo.keys found (Some archive) → Some id ≡ option_map (λ a. a.id) found → walk ≡ begin_walk id archive.items
    → KnowsSizes files repo known → IsToCome files repo.log repo.keys walk items None → ItemsRight known items
    → Checked files repo name (record { id = id; archive = archive; items = items })
checked_by files repo name known None archive id walk items is holds same begins sizes come right = absurd holds
checked_by files repo name known (Some named) archive id walk items is holds same begins sizes come right =
    let ids : named.id ≡ id = cc in
    let start : walk ≡ begin_walk named.id archive.items = begins ∙ ap (λ i. begin_walk i archive.items) (sym ids) in
    subst (λ (i : List ℕ). Checked files repo name (record { id = i; archive = archive; items = items })) ids
    (checked_whole files repo known name named is archive holds sizes items
    (subst (λ (w : WalkState). IsToCome files repo.log repo.keys w items None) start come) right)

-- the archive is whole
pub archive_checked : (told later : Option Told) (repo : RepoState) (name : List ℕ) (old known next : Known) (archive : ArchiveText) (id : List ℕ)
    (walk : WalkState) → heard later ≡ heard told
    → IfSome told (λ t. HoldsNamed (told_files t) repo.log repo.keys (archive_named name repo.manifest.archives) (Some archive))
    → Some id ≡ option_map (λ a. a.id) (archive_named name repo.manifest.archives) → walk ≡ begin_walk id archive.items
    → IfSome told (λ t. KnowsSizes (told_files t) repo old) → Marks (id ∷ archive.items) old known
    → ChecksItems later repo walk known next → ChecksArchive told repo name old next archive.tagged
archive_checked told later repo name old known next archive id walk same holds named begins sizes marks checks = record {
  read = record { id = id; archive = archive; items = checks.items };
  is = told_with told later
      (λ f. HoldsNamed f repo.log repo.keys (archive_named name repo.manifest.archives) (Some archive) × KnowsSizes f repo known)
      (λ f. IsToCome f repo.log repo.keys walk checks.items None)
      (λ f. Checked f repo name (record { id = id; archive = archive; items = checks.items })) same
      (λ f both come. checked_by f repo name known (archive_named name repo.manifest.archives) archive id walk checks.items refl both.0 named begins both.1
      come checks.right)
      (told_both told (λ f. HoldsNamed f repo.log repo.keys (archive_named name repo.manifest.archives) (Some archive)) (λ f. KnowsSizes f repo known) holds
      (told_sizes told repo old known (id ∷ archive.items) marks sizes))
      checks.come;
  marks = marks_then old known next (id ∷ archive.items) (flat_map ids_of checks.items) marks checks.marks;
  tagged_is = refl;
}

refused_by : (files : Files) (repo : RepoState) (name : List ℕ) (known : Known) (found : Option ArchiveRef) (archive : ArchiveText) (id : List ℕ)
    (walk : WalkState) (fault : RepoFault) → archive_named name repo.manifest.archives ≡ found
    → HoldsNamed files repo.log repo.keys found (Some archive) → Some id ≡ option_map (λ a. a.id) found → walk ≡ begin_walk id archive.items
    → KnowsSizes files repo known → StreamEnds files repo walk known fault ⊎ ItemEnds files repo walk known fault
    → RefusesWhole files repo.log repo.keys repo.manifest.archives name fault
refused_by files repo name known None archive id walk fault is holds same begins sizes ends = absurd holds
refused_by files repo name known (Some named) archive id walk fault is holds same begins sizes ends =
    let ids : named.id ≡ id = cc in
    let start : walk ≡ begin_walk named.id archive.items = begins ∙ ap (λ i. begin_walk i archive.items) (sym ids) in
    checked_refused files repo known name named is archive holds sizes fault
    (subst (λ (w : WalkState). StreamEnds files repo w known fault ⊎ ItemEnds files repo w known fault) start ends)

-- the archive isn't whole
pub archive_refused : (told later : Option Told) (repo : RepoState) (name : List ℕ) (old known : Known) (archive : ArchiveText) (id : List ℕ)
    (walk : WalkState) (fault : RepoFault) → heard later ≡ heard told
    → IfSome told (λ t. HoldsNamed (told_files t) repo.log repo.keys (archive_named name repo.manifest.archives) (Some archive))
    → Some id ≡ option_map (λ a. a.id) (archive_named name repo.manifest.archives) → walk ≡ begin_walk id archive.items
    → IfSome told (λ t. KnowsSizes (told_files t) repo old) → Marks (id ∷ archive.items) old known
    → IfSome later (λ t. StreamEnds (told_files t) repo walk known fault ⊎ ItemEnds (told_files t) repo walk known fault)
    → IfSome told (λ t. RefusesWhole (told_files t) repo.log repo.keys repo.manifest.archives name fault)
archive_refused told later repo name old known archive id walk fault same holds named begins sizes marks ends =
    told_with told later
    (λ f. HoldsNamed f repo.log repo.keys (archive_named name repo.manifest.archives) (Some archive) × KnowsSizes f repo known)
    (λ f. StreamEnds f repo walk known fault ⊎ ItemEnds f repo walk known fault)
    (λ f. RefusesWhole f repo.log repo.keys repo.manifest.archives name fault) same
    (λ f both end. refused_by f repo name known (archive_named name repo.manifest.archives) archive id walk fault refl both.0 named begins both.1 end)
    (told_both told (λ f. HoldsNamed f repo.log repo.keys (archive_named name repo.manifest.archives) (Some archive)) (λ f. KnowsSizes f repo known) holds
    (told_sizes told repo old known (id ∷ archive.items) marks sizes))
    ends

-- the record is refused
pub record_refused : (told : Option Told) (repo : RepoState) (name : List ℕ) (fault : RepoFault) → IsOfFiles fault
    → IfSome told (λ t. RefusesNamed (told_files t) repo.log repo.keys (archive_named name repo.manifest.archives) fault)
    → IfSome told (λ t. RefusesWhole (told_files t) repo.log repo.keys repo.manifest.archives name fault)
record_refused told repo name fault of_files refused =
    told_then told (λ f. RefusesNamed f repo.log repo.keys (archive_named name repo.manifest.archives) fault)
    (λ f. RefusesWhole f repo.log repo.keys repo.manifest.archives name fault)
    (λ f r. named_refused f repo name fault (archive_named name repo.manifest.archives) refl r of_files) refused

none_by : (files : Files) (repo : RepoState) (name : List ℕ) (fault : RepoFault) (found : Option ArchiveRef) (id : List ℕ)
    → HoldsNamed files repo.log repo.keys found None → Some id ≡ option_map (λ a. a.id) found
    → RefusesWhole files repo.log repo.keys repo.manifest.archives name fault
none_by files repo name fault None id holds same = absurd (let no : ⊥ = cc in no)
none_by files repo name fault (Some named) id holds same = absurd holds

-- a name that is there isn't read as none
pub record_none : (told : Option Told) (repo : RepoState) (name id : List ℕ) (fault : RepoFault)
    → IfSome told (λ t. HoldsNamed (told_files t) repo.log repo.keys (archive_named name repo.manifest.archives) None)
    → Some id ≡ option_map (λ a. a.id) (archive_named name repo.manifest.archives)
    → IfSome told (λ t. RefusesWhole (told_files t) repo.log repo.keys repo.manifest.archives name fault)
record_none told repo name id fault holds same =
    told_then told (λ f. HoldsNamed f repo.log repo.keys (archive_named name repo.manifest.archives) None)
    (λ f. RefusesWhole f repo.log repo.keys repo.manifest.archives name fault)
    (λ f h. none_by f repo name fault (archive_named name repo.manifest.archives) id h same) holds

-- ---- several archives

reads-append : (files : Files) (repo : RepoState) (xs ys : List ArchiveRef) (rs ss : List ArchiveRead) → AreRead files repo xs rs
    → AreRead files repo ys ss → AreRead files repo (xs ++ ys) (rs ++ ss)
reads-append files repo [] ys [] ss h g = g
reads-append files repo [] ys (r ∷ rs) ss h g = absurd h
reads-append files repo (x ∷ xs) ys [] ss h g = absurd h
reads-append files repo (x ∷ xs) ys (r ∷ rs) ss h g = (h.0, reads-append files repo xs ys rs ss h.1 g)

used-append : (xs ys : List ArchiveRead) → flat_map ids_used (xs ++ ys) ≡ flat_map ids_used xs ++ flat_map ids_used ys
used-append [] ys = refl
used-append (x ∷ xs) ys =
    ap (λ k. ids_used x ++ k) (used-append xs ys) ∙ sym (append_assoc (ids_used x) (flat_map ids_used xs) (flat_map ids_used ys))

used-more : (xs : List ArchiveRead) (x : ArchiveRead) → flat_map ids_used (xs ++ (x ∷ [])) ≡ flat_map ids_used xs ++ ids_used x
used-more xs x = used-append xs (x ∷ []) ∙ ap (λ k. flat_map ids_used xs ++ k) (append-nil (ids_used x))

tagged_on : (b : Bool) (x : ArchiveRead) (rest more : List ArchiveRead) (both : List ArchiveRead) → both ≡ rest ++ more
    → cond b (x ∷ both) both ≡ cond b (x ∷ rest) rest ++ more
tagged_on true x rest more both e = ap (λ k. x ∷ k) e
tagged_on false x rest more both e = e

untagged-append : (xs ys : List ArchiveRead) → untagged (xs ++ ys) ≡ untagged xs ++ untagged ys
untagged-append [] ys = refl
untagged-append (x ∷ xs) ys = tagged_on (not x.archive.tagged) x (untagged xs) (untagged ys) (untagged (xs ++ ys)) (untagged-append xs ys)

one_counted : (b : Bool) (read : ArchiveRead) → length (cond (not b) (read ∷ []) []) ≡ one_untagged b
one_counted true read = refl
one_counted false read = refl

untagged-more : (xs : List ArchiveRead) (x : ArchiveRead) → length (untagged (xs ++ (x ∷ []))) ≡ length (untagged xs) + one_untagged x.archive.tagged
untagged-more xs x =
    ap length (untagged-append xs (x ∷ []))
    ∙ (length-append (untagged xs) (untagged (x ∷ [])) ∙ ap (λ n. length (untagged xs) + n) (one_counted x.archive.tagged x))

-- what stands for an archive that isn't there
abbrev pub no_archive : ArchiveRef
no_archive = record { name = []; id = []; time = [] }

pub archives_begin : (told : Option Told) (repo : RepoState) (known : Known) → ChecksArchives told repo [] known known 0
archives_begin told repo known = record {
  reads = [];
  are = told_any told (λ f. AreRead f repo [] [] × AllByRecursion (λ (a : ArchiveRef). ReadsWhole f repo a.name) []) (λ f. (tt, tt));
  marks = marks_none known;
  count_is = refl;
}

-- one archive more is whole
pub archives_next : (told later : Option Told) (repo after_repo : RepoState) (archives : List ArchiveRef) (place : ℕ) (d : ArchiveRef)
    (old known next : Known) (count : ℕ) (tagged : Bool) → heard later ≡ heard told → after_repo ≡ repo → place < length archives
    → ChecksArchives told repo (take place archives) old known count
    → ChecksArchive later after_repo (get_or archives place d).name known next tagged
    → ChecksArchives told repo (take (place + 1) archives) old next (count + one_untagged tagged)
archives_next told later repo after_repo archives place d old known next count tagged same same_repo lt checks one =
    let name = (get_or archives place d).name in
    let front = take place archives in
    record {
      reads = checks.reads ++ (one.read ∷ []);
      are = told_with told later (λ f. AreRead f repo front checks.reads × AllByRecursion (λ (a : ArchiveRef). ReadsWhole f repo a.name) front)
          (λ f. Checked f after_repo name one.read)
          (λ f. AreRead f repo (take (place + 1) archives) (checks.reads ++ (one.read ∷ []))
          × AllByRecursion (λ (a : ArchiveRef). ReadsWhole f repo a.name) (take (place + 1) archives)) same
          (λ f so more.
          let checked : Checked f repo name one.read = subst (λ (r : RepoState). Checked f r name one.read) same_repo more in (
            subst (λ (others : List ArchiveRef). AreRead f repo others (checks.reads ++ (one.read ∷ []))) (sym (take_more archives place d lt))
                (reads-append f repo front (get_or archives place d ∷ []) checks.reads (one.read ∷ []) so.0 (checked.0, tt)),
            all_more (λ (a : ArchiveRef). ReadsWhole f repo a.name) archives place d lt so.1 checked.1,
          ))
          checks.are one.is;
      marks = subst (λ (ids : List (List ℕ)). Marks ids old next) (sym (used-more checks.reads one.read))
          (marks_then old known next (flat_map ids_used checks.reads) (ids_used one.read) checks.marks one.marks);
      count_is = ap (λ n. n + one_untagged tagged) checks.count_is
          ∙ (ap (λ t. length (untagged checks.reads) + one_untagged t) one.tagged_is ∙ sym (untagged-more checks.reads one.read));
    }

-- an archive isn't whole
pub archives_refused : (told later : Option Told) (repo after_repo : RepoState) (archives : List ArchiveRef) (place : ℕ) (d : ArchiveRef)
    (old known : Known) (count : ℕ) (fault : RepoFault) → heard later ≡ heard told → after_repo ≡ repo → archives ≡ repo.manifest.archives
    → place < length archives → ChecksArchives told repo (take place archives) old known count
    → IfSome later (λ t. RefusesWhole (told_files t) after_repo.log after_repo.keys after_repo.manifest.archives (get_or archives place d).name fault)
    → IfSome told (λ t. BadArchive (told_files t) repo fault)
archives_refused told later repo after_repo archives place d old known count fault same same_repo all lt checks refused =
    let name = (get_or archives place d).name in
    let front = take place archives in
    told_with told later (λ f. AreRead f repo front checks.reads × AllByRecursion (λ (a : ArchiveRef). ReadsWhole f repo a.name) front)
    (λ f. RefusesWhole f after_repo.log after_repo.keys after_repo.manifest.archives name fault) (λ f. BadArchive f repo fault) same
    (λ f so r. record {
      before = front;
      named = get_or archives place d;
      behind = drop (place + 1) archives;
      archives = sym all ∙ parted archives place d lt;
      whole = so.1;
      refused = subst (λ (s : RepoState). RefusesWhole f s.log s.keys s.manifest.archives name fault) same_repo r;
    })
    checks.are refused

-- lengths are known still
pub sizes_now : (told later : Option Told) (repo after_repo : RepoState) (archives : List ArchiveRef) (old known : Known) (count : ℕ)
    → heard later ≡ heard told → after_repo ≡ repo → ChecksArchives told repo archives old known count
    → IfSome told (λ t. KnowsSizes (told_files t) repo old) → IfSome later (λ t. KnowsSizes (told_files t) after_repo known)
sizes_now told later repo after_repo archives old known count same same_repo checks sizes =
    subst (λ (r : RepoState). IfSome later (λ t. KnowsSizes (told_files t) r known)) (sym same_repo)
    (told_same told later (λ f. KnowsSizes f repo known) same (told_sizes told repo old known (flat_map ids_used checks.reads) checks.marks sizes))

-- all archives are whole
pub archives_all : (told : Option Told) (repo : RepoState) (archives front : List ArchiveRef) (old known : Known) (count : ℕ) → front ≡ archives
    → ChecksArchives told repo front old known count → ChecksArchives told repo archives old known count
archives_all told repo archives front old known count whole checks =
    subst (λ (others : List ArchiveRef). ChecksArchives told repo others old known count) whole checks
