-- Lemmas on specs/Report.antt: what a check has found makes its report.
use Rattle.std.proofs.Common.{◌≡◌, inl, inr, ℕ, Bool, true, false, cond, not, List, [], ◌∷◌}
use Rattle.std.proofs.Common.{◌++◌, length, filter, Option, Some, None, MatchOption, IfSome}
use Rattle.std.proofs.Common.{Result, Ok, Err, IfOk, IsSome, refl, sym, ◌∙◌, ap, subst}
use Rattle.std.specs.List.{AllByRecursion, flat_map}
use Rattle.std.specs.List.Sorted.{IsStrictlySortedBy}
use Rattle.std.specs.Ordering.{eq_by_cmp}
use Rattle.std.specs.Str.{bytes_eq}
use Rattle.std.specs.declared.cmp.Ordering.TheVariants.{Less}
use Rattle.std.proofs.lemmas.List.{append_assoc}
use Rattle.std.proofs.lemmas.Slice.Eq.{bytes_eq-Decides}
use Rattle.ferry_disk.specs.Device.{Told, told_files, heard}
use Rattle.ferry_disk.specs.Files.{Files}
use Rattle.ferry_disk.proofs.DeviceLemmas.{told_same, told_then, told_with}
use Rattle.ferry_log.specs.Live.{key_cmp}
use Rattle.ferry_manifest.specs.declared.manifest.ArchiveRef.{ArchiveRef}
use Rattle.ferry_repo.specs.Archives.{archive_named}
use Rattle.ferry_repo.specs.Fault.{IsOfFiles}
use Rattle.ferry_repo.specs.Opening.{RepoState}
use Rattle.ferry_repo.specs.declared.fault.RepoFault.{RepoFault}
use Rattle.ferry_check.specs.Report.{ArchiveRead, AreRead, is_among, ids_used, AreChunks, orphans, IsGood, IsBad, IsReport}
use Rattle.ferry_check.specs.Steps.{Known, KnowsOpened, KnowsSizes, HasLength, HasMarks, RefusesFirst, is_used, unused, ChecksArchives, CountsRest}
use Rattle.ferry_check.specs.Verify.{IsChunk, Opens, AllOpen, ReadsWhole, BadChunk, BadArchive, FirstBad}
use Rattle.ferry_check.specs.declared.chunks.Chunk.{Chunk}
use Rattle.ferry_check.specs.declared.report.Report.{Report}
use Rattle.ferry_check.specs.declared.report.Tally.{Tally}
use Rattle.ferry_check.proofs.ChunkLemmas.{not_itself, not_both, all_at, or_true, among_behind, true_or}
use Rattle.ferry_check.proofs.MarkLemmas.{same_key, key_itself, has_marks, sizes_kept}

-- ---- all chunks are opened

module _ (files : Files) (repo : RepoState) (ids : List (List ℕ)) (all : AreChunks repo.log ids) where
  sizes_at : (id : List ℕ) (o : Option Chunk) → MatchOption o (is_among id ids ≡ false) (λ c. (is_among id ids ≡ true) × HasLength files repo id c.size)
      → MatchOption o (IsChunk repo.log id → ⊥) (λ c. HasLength files repo id c.size)
  sizes_at id None h = λ chunk. let there = (all.each id).1 chunk in let both : true ≡ false = sym there ∙ h in let no : ⊥ = cc in no
  sizes_at id (Some c) h = h.1

  pub opened_sizes : (known : Known) → KnowsOpened files repo ids known → KnowsSizes files repo known
  opened_sizes known h id = sizes_at id (known id) (h id)

-- ---- the first chunk that is refused

above_all : (id other : List ℕ) (ids : List (List ℕ)) → AllByRecursion (λ j. key_cmp id j ≡ Less) ids → is_among other ids ≡ true → key_cmp id other ≡ Less
above_all id other ids h there = all_at (λ j. key_cmp id j ≡ Less) ids other h there

in_front : (before : List (List ℕ)) (id other : List ℕ) (behind : List (List ℕ)) → IsStrictlySortedBy key_cmp (before ++ (id ∷ behind))
    → is_among other (before ++ (id ∷ behind)) ≡ true → key_cmp other id ≡ Less → is_among other before ≡ true
unfolding IsStrictlySortedBy
in_front [] id other behind s there less = elim (or_true (eq_by_cmp key_cmp id other) (is_among other behind) there) [
  | inl same ↦ absurd (not_itself id (subst (λ j. key_cmp j id ≡ Less) (sym (same_key id other same)) less))
  | inr later ↦ absurd (not_both other id less (above_all id other behind s.0 later))
]
in_front (b ∷ bs) id other behind s there less =
    elim (or_true (eq_by_cmp key_cmp b other) (is_among other (bs ++ (id ∷ behind))) there) [
      | inl same ↦ true_or (eq_by_cmp key_cmp b other) (is_among other bs) (inl same)
      | inr later ↦ true_or (eq_by_cmp key_cmp b other) (is_among other bs) (inr (in_front bs id other behind s.1 later less))
    ]

pub first_chunk : (files : Files) (repo : RepoState) (ids : List (List ℕ)) (fault : RepoFault) → AreChunks repo.log ids
    → RefusesFirst files repo ids fault → BadChunk files repo fault
first_chunk files repo ids fault all r =
    let split : ids ≡ r.before ++ (r.id ∷ r.behind) = r.ids_are in
    let sorted : IsStrictlySortedBy key_cmp (r.before ++ (r.id ∷ r.behind)) = subst (IsStrictlySortedBy key_cmp) split all.sorted in
    let there : is_among r.id ids ≡ true = ap (is_among r.id) split
    ∙ among_behind r.id r.before (r.id ∷ r.behind) (true_or (eq_by_cmp key_cmp r.id r.id) (is_among r.id r.behind) (inl (key_itself r.id))) in
    record {
      id = r.id;
      live = (all.each r.id).0 there;
      refused = r.refused;
      before = λ other chunk less. all_at (λ i. Opens files repo i) r.before other r.opened
          (in_front r.before r.id other r.behind sorted (sym (ap (is_among other) split) ∙ (all.each other).1 chunk) less);
    }

-- ---- every archive is whole

name_by : (files : Files) (repo : RepoState) (a : ArchiveRef) (archives : List ArchiveRef) (name : List ℕ) (b : Bool) → bytes_eq a.name name ≡ b
    → ReadsWhole files repo a.name → (IsSome (archive_named name archives) → ReadsWhole files repo name)
    → IsSome (cond b (Some a) (archive_named name archives)) → ReadsWhole files repo name
name_by files repo a archives name true e whole rest some = subst (λ n. ReadsWhole files repo n) ((bytes_eq-Decides a.name name).0 e) whole
name_by files repo a archives name false e whole rest some = rest some

pub names_whole : (files : Files) (repo : RepoState) (archives : List ArchiveRef) → AllByRecursion (λ (a : ArchiveRef). ReadsWhole files repo a.name) archives
    → (name : List ℕ) → IsSome (archive_named name archives) → ReadsWhole files repo name
unfolding archive_named
names_whole files repo [] all name some = absurd (let no : ⊥ = cc in no)
names_whole files repo (a ∷ others) all name some =
    name_by files repo a others name (bytes_eq a.name name) refl all.0 (names_whole files repo others all.1 name) some

-- ---- what no archive uses

used_at : (o : Option Chunk) (t : Bool) → IsSome o → IfSome o (λ c. c.used ≡ t) → is_used o ≡ t
used_at None t some h = absurd (let no : ⊥ = cc in no)
used_at (Some c) t some h = h

some_at : (files : Files) (repo : RepoState) (id : List ℕ) (o : Option Chunk)
    → MatchOption o (IsChunk repo.log id → ⊥) (λ c. HasLength files repo id c.size) → IsChunk repo.log id → IsSome o
some_at files repo id None h chunk = absurd (h chunk)
some_at files repo id (Some c) h chunk = refl

all_among : (front rest : List (List ℕ)) → AllByRecursion (λ i. is_among i (front ++ rest) ≡ true) rest
all_among front [] = tt
all_among front (x ∷ xs) = (
  among_behind x front (x ∷ xs) (true_or (eq_by_cmp key_cmp x x) (is_among x xs) (inl (key_itself x))),
  subst (λ (l : List (List ℕ)). AllByRecursion (λ i. is_among i l ≡ true) xs) (append_assoc front (x ∷ []) xs) (all_among (front ++ (x ∷ [])) xs),
)

unused_by : (known : Known) (used ids : List (List ℕ)) → AllByRecursion (λ i. is_used (known i) ≡ is_among i used) ids
    → unused known ids ≡ filter (λ i. not (is_among i used)) ids
unused_by known used [] all = refl
unused_by known used (x ∷ xs) all =
    ap (λ b. cond (not b) (x ∷ unused known xs) (unused known xs)) all.0
    ∙ ap (λ k. cond (not (is_among x used)) (x ∷ k) k) (unused_by known used xs all.1)

all_used : (files : Files) (repo : RepoState) (ids used front : List (List ℕ)) (known : Known) → AreChunks repo.log ids → KnowsSizes files repo known
    → HasMarks used known → AllByRecursion (λ i. is_among i ids ≡ true) front → AllByRecursion (λ i. is_used (known i) ≡ is_among i used) front
all_used files repo ids used [] known all sizes marks there = tt
all_used files repo ids used (x ∷ xs) known all sizes marks there = (
  used_at (known x) (is_among x used) (some_at files repo x (known x) (sizes x) ((all.each x).0 there.0)) (marks x),
  all_used files repo ids used xs known all sizes marks there.1,
)

pub unused_orphans : (files : Files) (repo : RepoState) (ids : List (List ℕ)) (reads : List ArchiveRead) (known : Known) → AreChunks repo.log ids
    → KnowsSizes files repo known → HasMarks (flat_map ids_used reads) known → unused known ids ≡ orphans ids reads
unused_orphans files repo ids reads known all sizes marks =
    unused_by known (flat_map ids_used reads) ids (all_used files repo ids (flat_map ids_used reads) ids known all sizes marks (all_among [] ids))

-- ---- what is found

pub told_opened : (told : Option Told) (repo : RepoState) (ids : List (List ℕ)) (known : Known) → AreChunks repo.log ids
    → IfSome told (λ t. KnowsOpened (told_files t) repo ids known) → IfSome told (λ t. KnowsSizes (told_files t) repo known)
told_opened told repo ids known all h =
    told_then told (λ f. KnowsOpened f repo ids known) (λ f. KnowsSizes f repo known) (λ f. opened_sizes f repo ids all known) h

open_at : (files : Files) (repo : RepoState) (ids : List (List ℕ)) (id : List ℕ) → (is_among id ids ≡ true) → (o : Option Chunk)
    → MatchOption o (is_among id ids ≡ false) (λ c. (is_among id ids ≡ true) × HasLength files repo id c.size) → Opens files repo id
open_at files repo ids id there None h = absurd (let both : true ≡ false = sym there ∙ h in let no : ⊥ = cc in no)
open_at files repo ids id there (Some c) h = (h.1.content, h.1.holds)

open_by : (files : Files) (repo : RepoState) (ids : List (List ℕ)) (known : Known) → AreChunks repo.log ids → KnowsOpened files repo ids known
    → AllOpen files repo
open_by files repo ids known all h id chunk = open_at files repo ids id ((all.each id).1 chunk) (known id) (h id)

-- these archives are whole
abbrev AreWhole : Files → RepoState → List ArchiveRef → Type 0
AreWhole files repo archives = AllByRecursion (λ (a : ArchiveRef). ReadsWhole files repo a.name) archives

pub counts_rest : (told later : Option Told) (repo after_repo : RepoState) (ids : List (List ℕ)) (known next : Known) (count : ℕ) (tally : Tally)
    → AreChunks repo.log ids → heard later ≡ heard told → after_repo ≡ repo → IfSome told (λ t. KnowsOpened (told_files t) repo ids known)
    → HasMarks [] known → ChecksArchives later after_repo after_repo.manifest.archives known next count
    → tally.orphans ≡ length (unused next ids) → tally.untagged ≡ count → IfSome told (λ t. CountsRest (told_files t) repo ids tally)
counts_rest told later repo after_repo ids known next count tally all same same_repo opened none checks orphaned tagged =
    told_with told later (λ f. KnowsOpened f repo ids known)
    (λ f. AreRead f after_repo after_repo.manifest.archives checks.reads × AreWhole f after_repo after_repo.manifest.archives)
    (λ f. CountsRest f repo ids tally) same
    (λ f h more.
    let both = subst (λ (r : RepoState). AreRead f r r.manifest.archives checks.reads × AreWhole f r r.manifest.archives)
    same_repo more in
    let sizes = opened_sizes f repo ids all known h in
    let marks = has_marks known next (flat_map ids_used checks.reads) checks.marks none in
    let later_sizes = sizes_kept f repo known next (flat_map ids_used checks.reads) checks.marks sizes in
    record {
      verifies = record { chunks = open_by f repo ids known all h; archives = names_whole f repo repo.manifest.archives both.1 };
      reads = checks.reads;
      are_read = both.0;
      orphans = orphaned ∙ ap length (unused_orphans f repo ids checks.reads next all later_sizes marks);
      untagged = tagged ∙ checks.count_is;
    })
    opened checks.are

-- the first chunk that is refused is the first fault
pub bad_chunk : (told : Option Told) (repo : RepoState) (ids : List (List ℕ)) (fault : RepoFault) → AreChunks repo.log ids → IsOfFiles fault
    → IfSome told (λ t. RefusesFirst (told_files t) repo ids fault) → IfSome told (λ t. FirstBad (told_files t) repo fault)
bad_chunk told repo ids fault all of_files h =
    told_then told (λ f. RefusesFirst f repo ids fault) (λ f. FirstBad f repo fault) (λ f r. (of_files, inl (first_chunk f repo ids fault all r))) h

-- so is the first archive that isn't whole, where every chunk opens
pub bad_archive : (told later : Option Told) (repo after_repo : RepoState) (ids : List (List ℕ)) (known : Known) (fault : RepoFault)
    → AreChunks repo.log ids → IsOfFiles fault → heard later ≡ heard told → after_repo ≡ repo
    → IfSome told (λ t. KnowsOpened (told_files t) repo ids known) → IfSome later (λ t. BadArchive (told_files t) after_repo fault)
    → IfSome told (λ t. FirstBad (told_files t) repo fault)
bad_archive told later repo after_repo ids known fault all of_files same same_repo opened bad =
    told_with told later (λ f. KnowsOpened f repo ids known) (λ f. BadArchive f after_repo fault) (λ f. FirstBad f repo fault) same
    (λ f h b. (
      of_files,
      inr (open_by f repo ids known all h, subst (λ (r : RepoState). BadArchive f r fault) same_repo b),
    ))
    opened bad

-- ---- reports

pub good_report : (told : Option Told) (repo : RepoState) (ids : List (List ℕ)) (tally : Tally) (report : Report) → AreChunks repo.log ids
    → report.bad ≡ None → report.orphans ≡ tally.orphans → report.untagged ≡ tally.untagged → IfSome told (λ t. CountsRest (told_files t) repo ids tally)
    → IfSome told (λ t. IsReport (told_files t) repo report)
good_report told repo ids tally report all none orphaned tagged h =
    told_then told (λ f. CountsRest f repo ids tally) (λ f. IsReport f repo report)
    (λ f r. subst (λ o. MatchOption o (IsGood f repo report) (λ fault. IsBad f repo report fault)) (sym none) (record {
      verifies = r.verifies;
      ids = ids;
      chunks_are = all;
      reads = r.reads;
      are_read = r.are_read;
      orphans = orphaned ∙ r.orphans;
      untagged = tagged ∙ r.untagged;
    })) h

pub bad_report : (told : Option Told) (repo : RepoState) (fault : RepoFault) (report : Report) → report.bad ≡ Some fault → report.orphans ≡ 0
    → report.untagged ≡ 0 → IfSome told (λ t. FirstBad (told_files t) repo fault) → IfSome told (λ t. IsReport (told_files t) repo report)
bad_report told repo fault report bad none nothing h =
    told_then told (λ f. FirstBad f repo fault) (λ f. IsReport f repo report)
    (λ f first. subst (λ o. MatchOption o (IsGood f repo report) (λ g. IsBad f repo report g)) (sym bad)
    (record { first = first; orphans = none; untagged = nothing })) h

-- lengths are known still after the chunks are opened
pub sizes_later : (told later : Option Told) (repo after_repo : RepoState) (ids : List (List ℕ)) (known : Known) → AreChunks repo.log ids
    → heard later ≡ heard told → after_repo ≡ repo → IfSome told (λ t. KnowsOpened (told_files t) repo ids known)
    → IfSome later (λ t. KnowsSizes (told_files t) after_repo known)
sizes_later told later repo after_repo ids known all same same_repo opened =
    subst (λ (r : RepoState). IfSome later (λ t. KnowsSizes (told_files t) r known)) (sym same_repo)
    (told_same told later (λ f. KnowsSizes f repo known) same (told_opened told repo ids known all opened))

pub ok_with : {T E : Type 0} (r : Result T E) (P Q R : T → Type 0) → IfOk r P → IfOk r Q → ((x : T) → P x → Q x → R x) → IfOk r R
ok_with (Ok x) P Q R p q step = step x p q
ok_with (Err e) P Q R p q step = tt
