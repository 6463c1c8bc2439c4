-- Lemmas on specs/Deleting.antt: the archives without one of them, how often the others use an id, and the chunks that go with it.
use Rattle.std.proofs.Common.{◌≡◌, ◌≢◌, ◌⊎◌, ◌↔◌, inl, inr, ℕ, suc, ◌+◌, ◌-◌, ◌<◌, Bool, true, false, not, cond, ◌&&◌, ◌||◌, eqb, ltb}
use Rattle.std.proofs.Common.{ltb-true, lt-ltb, eqb-true, eq-eqb, List, [], ◌∷◌, ◌++◌, Option, Some, None, IfSome, IsSome, is_some, filter}
use Rattle.std.proofs.Common.{unwrap_or, refl, sym, ◌∙◌, ap, subst, arith}
use Rattle.std.specs.BTreeMap.{IsOrdered, is_at, keys, get}
use Rattle.std.specs.List.{AllByRecursion, flat_map, list_any}
use Rattle.std.specs.Ordering.{eq_by_cmp}
use Rattle.std.specs.Str.{bytes_eq}
use Rattle.std.proofs.lemmas.List.Kept.{IsStrictlySortedBy-filter}
use Rattle.std.proofs.lemmas.Map.Made.{is_some-lookup}
use Rattle.std.proofs.lemmas.Slice.Eq.{bytes_eq-Decides}
use Rattle.ferry_base.specs.Limits.{zero_id}
use Rattle.ferry_check.proofs.ChunkLemmas.{or_true, true_or}
use Rattle.ferry_check.proofs.MarkLemmas.{same_key}
use Rattle.ferry_check.specs.Report.{ArchiveRead, IsRead, AreRead, ids_used, is_among}
use Rattle.ferry_check.specs.Verify.{IsChunk, IsNamed}
use Rattle.ferry_disk.specs.Device.{Told, told_files, heard}
use Rattle.ferry_disk.specs.Files.{Files}
use Rattle.ferry_disk.proofs.DeviceLemmas.{told_with}
use Rattle.ferry_log.specs.Live.{key_cmp}
use Rattle.ferry_log.specs.State.{LogState, place_in}
use Rattle.ferry_manifest.specs.Manifest.Writing.{AreIncreasing, archive_names}
use Rattle.ferry_manifest.specs.declared.manifest.ArchiveRef.{ArchiveRef}
use Rattle.ferry_next.proofs.OrderLemmas.{apart, below_next, bytes_eq_turned}
use Rattle.ferry_next.proofs.PlaceLemmas.{without_named}
use Rattle.ferry_next.specs.Next.{without_archive}
use Rattle.ferry_repo.specs.Archives.{archive_named}
use Rattle.ferry_repo.specs.Opening.{RepoState}
use Rattle.ferry_repo.specs.declared.fault.RepoFault.{RepoFault}
use Rattle.ferry_refs.specs.Deleting.{AreGoing, FallsAway, without_name}
use Rattle.ferry_refs.specs.Refs.{CountsRefs, Refs, RefusesRead, RefusesRefs, count_in, occurrences}
use Rattle.ferry_refs.specs.Steps.{Adds, CountsArchive, Tally, goes_by, no_tally}
use Rattle.ferry_refs.specs.declared.counts.Counts.{Counts}
use Rattle.ferry_refs.proofs.ArchiveLemmas.{reads-append, used-append}
use Rattle.ferry_refs.proofs.CountLemmas.{occurrences-append, same_tests}
use Rattle.ferry_refs.proofs.LawLemmas.{one_number, one_read}

-- ---- the archives without one of them

-- where a name is below all of these, they are those without it
without_none : (name : List ℕ) (archives : List ArchiveRef) → AreIncreasing (name ∷ archive_names archives) → without_archive archives name ≡ archives
unfolding without_archive
without_none name [] inc = refl
without_none name (a ∷ archives) inc =
    let differs : bytes_eq a.name name ≡ false = bytes_eq_turned name a.name ∙ apart name a.name inc.0 in
    let rest = without_none name archives (below_next name a.name (archive_names archives) inc.0 inc.1) in
    rw differs (ap (λ (l : List ArchiveRef). a ∷ l) rest)

-- the archives in front of the one of a name, and behind it
pub record IsParted (archives : List ArchiveRef) (name : List ℕ) (named : ArchiveRef) : Type 0 where
  pub before : List ArchiveRef
  pub behind : List ArchiveRef
  pub all : archives ≡ before ++ named ∷ behind
  pub rest : without_archive archives name ≡ before ++ behind
  pub same : named.name ≡ name

parted_by : (name : List ℕ) (a : ArchiveRef) (archives : List ArchiveRef) (named : ArchiveRef) (b : Bool) → bytes_eq a.name name ≡ b
    → AreIncreasing (a.name ∷ archive_names archives) → cond b (Some a) (archive_named name archives) ≡ Some named
    → (archive_named name archives ≡ Some named → IsParted archives name named) → IsParted (a ∷ archives) name named
unfolding without_archive
parted_by name a archives named true e inc is later =
    let here : a ≡ named = cc in
    let same : a.name ≡ name = (bytes_eq-Decides a.name name).0 e in
    record {
      before = [];
      behind = archives;
      all = ap (λ (n : ArchiveRef). n ∷ archives) here;
      rest = rw e (without_none name archives (subst (λ (n : List ℕ). AreIncreasing (n ∷ archive_names archives)) same inc));
      same = ap (λ (n : ArchiveRef). n.name) (sym here) ∙ same;
    }
parted_by name a archives named false e inc is later =
    let parts = later is in
    record {
      before = a ∷ parts.before;
      behind = parts.behind;
      all = ap (λ (l : List ArchiveRef). a ∷ l) parts.all;
      rest = rw e (ap (λ (l : List ArchiveRef). a ∷ l) parts.rest);
      same = parts.same;
    }

pub is_parted : (name : List ℕ) (archives : List ArchiveRef) (named : ArchiveRef) → AreIncreasing (archive_names archives)
    → archive_named name archives ≡ Some named → IsParted archives name named
unfolding archive_named
is_parted name [] named inc is = absurd (let no : ⊥ = cc in no)
is_parted name (a ∷ archives) named inc is =
    parted_by name a archives named (bytes_eq a.name name) refl inc is (is_parted name archives named (tail_increasing a.name (archive_names archives) inc))
  where
    tail_increasing : (n : List ℕ) (names : List (List ℕ)) → AreIncreasing (n ∷ names) → AreIncreasing names
    tail_increasing n names inc = inc.1

-- Each of these archives has another name.
abbrev AreApart : List ℕ → List ArchiveRef → Type 0
AreApart name archives = AllByRecursion (λ (a : ArchiveRef). bytes_eq a.name name ≡ false) archives

apart_by : (name : List ℕ) (a : ArchiveRef) (kept : List ArchiveRef) (b : Bool) → bytes_eq a.name name ≡ b → AreApart name kept
    → AreApart name (cond (not b) (a ∷ kept) kept)
apart_by name a kept true e rest = rest
apart_by name a kept false e rest = (e, rest)

without_apart : (name : List ℕ) (archives : List ArchiveRef) → AreApart name (without_archive archives name)
unfolding without_archive
without_apart name [] = tt
without_apart name (a ∷ archives) =
    apart_by name a (without_archive archives name) (bytes_eq a.name name) refl (without_apart name archives)

-- ---- what is read of them

-- What is read of joined archives, parted where they are.
record AreParted (files : Files) (repo : RepoState) (before behind : List ArchiveRef) (reads : List ArchiveRead) : Type 0 where
  first : List ArchiveRead
  last : List ArchiveRead
  all : reads ≡ first ++ last
  first_are : AreRead files repo before first
  last_are : AreRead files repo behind last

reads_parted : (files : Files) (repo : RepoState) (before behind : List ArchiveRef) (reads : List ArchiveRead)
    → AreRead files repo (before ++ behind) reads → AreParted files repo before behind reads
reads_parted files repo [] behind reads are = record { first = []; last = reads; all = refl; first_are = tt; last_are = are }
reads_parted files repo (a ∷ before) behind [] are = absurd are
reads_parted files repo (a ∷ before) behind (r ∷ reads) are =
    let parts = reads_parted files repo before behind reads are.1 in
    record {
      first = r ∷ parts.first;
      last = parts.last;
      all = ap (λ (l : List ArchiveRead). r ∷ l) parts.all;
      first_are = (are.0, parts.first_are);
      last_are = parts.last_are;
    }

-- another archive reads as it did
read_without : (files : Files) (repo : RepoState) (name other : List ℕ) (read : ArchiveRead) → bytes_eq other name ≡ false
    → IsRead files repo other read → IsRead files (without_name repo name) other read
read_without files repo name other read differs is =
    let turned : bytes_eq name other ≡ false = bytes_eq_turned other name ∙ differs in
    record {
      named = is.named;
      named_is = without_named name other repo.manifest.archives
          ∙ (ap (λ (b : Bool). cond b None (archive_named other repo.manifest.archives)) turned ∙ is.named_is);
      id = is.id;
      record_is = is.record_is;
      stream = is.stream;
    }

reads_without : (files : Files) (repo : RepoState) (name : List ℕ) (archives : List ArchiveRef) (reads : List ArchiveRead) → AreApart name archives
    → AreRead files repo archives reads → AreRead files (without_name repo name) archives reads
reads_without files repo name [] [] differ are = tt
reads_without files repo name [] (r ∷ reads) differ are = absurd are
reads_without files repo name (a ∷ archives) [] differ are = absurd are
reads_without files repo name (a ∷ archives) (r ∷ reads) differ are =
    (read_without files repo name a.name r differ.0 are.0, reads_without files repo name archives reads differ.1 are.1)

-- ---- how often the others use an id

-- How often the archives without one of them use each id, and all together with it.
pub record AreOthers (files : Files) (repo : RepoState) (name : List ℕ) (read : ArchiveRead) : Type 0 where
  pub others : Tally
  pub without : (id : List ℕ) → Refs files (without_name repo name) id (others id)
  pub with : (id : List ℕ) → Refs files repo id (occurrences id (ids_used read) + others id)

module _ (files : Files) (repo : RepoState) (name : List ℕ) (increasing : AreIncreasing (archive_names repo.manifest.archives)) where
  used_of : (id : List ℕ) (first : List ArchiveRead) (read : ArchiveRead) (last : List ArchiveRead)
      → occurrences id (flat_map ids_used (first ++ read ∷ last))
      ≡ occurrences id (ids_used read) + occurrences id (flat_map ids_used (first ++ last))
  used_of id first read last =
      let all = ap (occurrences id) (used-append first (read ∷ last)) in
      let both = occurrences-append id (flat_map ids_used first) (flat_map ids_used (read ∷ last)) in
      let one = occurrences-append id (ids_used read) (flat_map ids_used last) in
      let rest = ap (occurrences id) (used-append first last) in
      let others = occurrences-append id (flat_map ids_used first) (flat_map ids_used last) in
      omega (arith, all, both, one, rest, others)

  others_by : (named : ArchiveRef) (parts : IsParted repo.manifest.archives name named) (read own : ArchiveRead) (first last : List ArchiveRead)
      → IsRead files repo name read → AreRead files repo parts.before first → AreRead files repo (named ∷ parts.behind) (own ∷ last)
      → AreOthers files repo name read
  others_by named parts read own first last is first_are last_are =
      let same : own ≡ read = one_read files repo name own read (subst (λ (n : List ℕ). IsRead files repo n own) parts.same last_are.0) is in
      let both = reads-append files repo parts.before parts.behind first last first_are last_are.1 in
      let differ = subst (AreApart name) parts.rest (without_apart name repo.manifest.archives) in
      let kept = reads_without files repo name (parts.before ++ parts.behind) (first ++ last) differ both in
      record {
        others = λ id. occurrences id (flat_map ids_used (first ++ last));
        without = λ id. record {
          reads = first ++ last;
          are_read = subst (λ (l : List ArchiveRef). AreRead files (without_name repo name) l (first ++ last)) (sym parts.rest) kept;
          count_is = refl;
        };
        with = λ id. record {
          reads = first ++ own ∷ last;
          are_read = subst (λ (l : List ArchiveRef). AreRead files repo l (first ++ own ∷ last)) (sym parts.all)
              (reads-append files repo parts.before (named ∷ parts.behind) first (own ∷ last) first_are last_are);
          count_is = ap (λ (r : ArchiveRead). occurrences id (ids_used r) + occurrences id (flat_map ids_used (first ++ last))) (sym same)
              ∙ sym (used_of id first own last);
        };
      }

  others_at : (named : ArchiveRef) (parts : IsParted repo.manifest.archives name named) (read : ArchiveRead) (first last : List ArchiveRead)
      → IsRead files repo name read → AreRead files repo parts.before first → AreRead files repo (named ∷ parts.behind) last
      → AreOthers files repo name read
  others_at named parts read first [] is first_are last_are = absurd last_are
  others_at named parts read first (own ∷ last) is first_are last_are = others_by named parts read own first last is first_are last_are

  are_others : (read : ArchiveRead) (reads : List ArchiveRead) → IsRead files repo name read → AreRead files repo repo.manifest.archives reads
      → AreOthers files repo name read
  are_others read reads is are =
      let parts = is_parted name repo.manifest.archives is.named increasing is.named_is in
      let both = reads_parted files repo parts.before (is.named ∷ parts.behind) reads
      (subst (λ (l : List ArchiveRef). AreRead files repo l reads) parts.all are) in
      others_at is.named parts read both.first both.last is both.first_are both.last_are

  -- ---- the chunks that go

  -- where the archive of the name uses an id, and as often as all do, the id falls away with it, and only there
  falls_by : (read : ArchiveRead) (own all : Tally) → AreOthers files repo name read → ((id : List ℕ) → own id ≡ 0 + occurrences id (ids_used read))
      → ((id : List ℕ) → Refs files repo id (all id)) → (id : List ℕ)
      → ((0 < own id) × (own id ≡ all id)) ↔ FallsAway files repo name id
  falls_by read own all rest adds counts id =
      let sum : all id ≡ occurrences id (ids_used read) + rest.others id = one_number files repo id _ _ (counts id) (rest.with id) in
      let count = adds id in (
        λ h.
            let none : rest.others id ≡ 0 = (let less = h.0 in let same = h.1 in omega (arith, sum, count, same)) in
            let some : all id ≡ suc (all id - 1) = (let less = h.0 in let same = h.1 in omega (arith, less, same)) in
            record {
              count = all id - 1;
              used = subst (Refs files repo id) some (counts id);
              unused = subst (Refs files (without_name repo name) id) none (rest.without id);
            },
        λ falls.
            let none : 0 ≡ rest.others id = one_number files (without_name repo name) id _ _ falls.unused (rest.without id) in
            let some : suc falls.count ≡ all id = one_number files repo id _ _ falls.used (counts id) in
            (omega (arith, sum, count, none, some), omega (arith, sum, count, none, some)),
      )

-- ---- the ids that are kept of those that an archive uses

and_both : (a b : Bool) → (a && b) ≡ true → (a ≡ true) × (b ≡ true)
and_both true b e = (refl, e)
and_both false b e = absurd (let no : ⊥ = cc in no)

both_and : (a b : Bool) → a ≡ true → b ≡ true → (a && b) ≡ true
both_and true b e f = f
both_and false b e f = absurd (let no : ⊥ = cc in no)

-- What the test of an id says.
pub record IsKept (log : LogState) (all own : Tally) (id : List ℕ) : Type 0 where
  pub some : 0 < own id
  pub alone : own id ≡ all id
  pub chunk : IsChunk log id

pub is_kept : (log : LogState) (all own : Tally) (id : List ℕ) → goes_by log all own id ≡ true → IsKept log all own id
is_kept log all own id e =
    let first = and_both (ltb 0 (own id)) (eqb (own id) (all id) && (not (bytes_eq id zero_id) && is_some (place_in log id))) e in
    let second = and_both (eqb (own id) (all id)) (not (bytes_eq id zero_id) && is_some (place_in log id)) first.1 in
    let third = and_both (not (bytes_eq id zero_id)) (is_some (place_in log id)) second.1 in
    record {
      some = ltb-true 0 (own id) first.0;
      alone = eqb-true (own id) (all id) second.0;
      chunk = record {
        chunk = λ zero.
            let both : not (bytes_eq id zero_id) ≡ false = ap not ((bytes_eq-Decides id zero_id).1 zero) in
            let no : true ≡ false = sym third.0 ∙ both in
            cc;
        live = third.1;
      };
    }

not_zero : (id : List ℕ) → id ≢ zero_id → not (bytes_eq id zero_id) ≡ true
not_zero id chunk = by (bytes_eq id zero_id) refl where
  by : (b : Bool) → bytes_eq id zero_id ≡ b → not b ≡ true
  by true e = absurd (chunk ((bytes_eq-Decides id zero_id).0 e))
  by false e = refl

pub kept_is : (log : LogState) (all own : Tally) (id : List ℕ) → IsKept log all own id → goes_by log all own id ≡ true
kept_is log all own id kept =
    both_and (ltb 0 (own id)) (eqb (own id) (all id) && (not (bytes_eq id zero_id) && is_some (place_in log id))) (lt-ltb 0 (own id) kept.some)
    (both_and (eqb (own id) (all id)) (not (bytes_eq id zero_id) && is_some (place_in log id)) (eq-eqb (own id) (all id) kept.alone)
    (both_and (not (bytes_eq id zero_id)) (is_some (place_in log id)) (not_zero id kept.chunk.chunk) kept.chunk.live))

-- ---- ids among those that pass a test

-- one of those that pass is one of all, and passes
passes_by : (test : List ℕ → Bool) (id x : List ℕ) (kept ids : List (List ℕ)) (c : Bool) → test x ≡ c
    → (is_among id kept ≡ true → (is_among id ids ≡ true) × (test id ≡ true)) → is_among id (cond c (x ∷ kept) kept) ≡ true
    → (is_among id (x ∷ ids) ≡ true) × (test id ≡ true)
passes_by test id x kept ids true is rest e = elim (or_true (eq_by_cmp key_cmp x id) (is_among id kept) e) [
  | inl here ↦ (true_or (eq_by_cmp key_cmp x id) (is_among id ids) (inl here), ap test (sym (same_key x id here)) ∙ is)
  | inr later ↦ let both = rest later in (true_or (eq_by_cmp key_cmp x id) (is_among id ids) (inr both.0), both.1)
]
passes_by test id x kept ids false is rest e = let both = rest e in (true_or (eq_by_cmp key_cmp x id) (is_among id ids) (inr both.0), both.1)

pub among_passes : (test : List ℕ → Bool) (id : List ℕ) (ids : List (List ℕ)) → is_among id (filter test ids) ≡ true
    → (is_among id ids ≡ true) × (test id ≡ true)
among_passes test id [] e = absurd (let no : ⊥ = cc in no)
among_passes test id (x ∷ ids) e = passes_by test id x (filter test ids) ids (test x) refl (among_passes test id ids) e

-- and the other way
kept_by : (test : List ℕ → Bool) (id x : List ℕ) (kept : List (List ℕ)) (c : Bool) → test x ≡ c → test id ≡ true
    → (eq_by_cmp key_cmp x id ≡ true) ⊎ (is_among id kept ≡ true) → is_among id (cond c (x ∷ kept) kept) ≡ true
kept_by test id x kept true is passes h = true_or (eq_by_cmp key_cmp x id) (is_among id kept) h
kept_by test id x kept false is passes (inl here) =
    let no : true ≡ false = sym passes ∙ (ap test (sym (same_key x id here)) ∙ is) in
    absurd (let l : ⊥ = cc in l)
kept_by test id x kept false is passes (inr later) = later

pub passes_among : (test : List ℕ → Bool) (id : List ℕ) (ids : List (List ℕ)) → test id ≡ true → is_among id ids ≡ true
    → is_among id (filter test ids) ≡ true
passes_among test id [] passes e = absurd (let no : ⊥ = cc in no)
passes_among test id (x ∷ ids) passes e =
    kept_by test id x (filter test ids) (test x) refl passes (elim (or_true (eq_by_cmp key_cmp x id) (is_among id ids) e) [
      | inl here ↦ inl here
      | inr later ↦ inr (passes_among test id ids passes later)
    ])

-- what holds of each id that passes a test holds of each of those that pass
all_by : (P : List ℕ → Type 0) (x : List ℕ) (kept : List (List ℕ)) (c : Bool) → (c ≡ true → P x) → AllByRecursion P kept
    → AllByRecursion P (cond c (x ∷ kept) kept)
all_by P x kept true here rest = (here refl, rest)
all_by P x kept false here rest = rest

all_pass : (test : List ℕ → Bool) (P : List ℕ → Type 0) (ids : List (List ℕ)) → ((id : List ℕ) → test id ≡ true → P id)
    → AllByRecursion P (filter test ids)
all_pass test P [] step = tt
all_pass test P (x ∷ ids) step = all_by P x (filter test ids) (test x) (step x) (all_pass test P ids step)

-- an id that was counted is among the keys
pub turned_among : (id : List ℕ) (ids : List (List ℕ)) → list_any (eq_by_cmp key_cmp id) ids ≡ is_among id ids
turned_among id [] = refl
turned_among id (x ∷ ids) =
    ap (λ (b : Bool). b || list_any (eq_by_cmp key_cmp id) ids) (same_tests id x ∙ (bytes_eq_turned x id ∙ sym (same_tests x id)))
    ∙ ap (λ (b : Bool). eq_by_cmp key_cmp x id || b) (turned_among id ids)

pub counted_among : (own : Counts) (id : List ℕ) → 0 < count_in own id → is_among id (keys own.counts) ≡ true
counted_among own id some =
    sym (turned_among id (keys own.counts)) ∙ (sym (is_some-lookup (is_at (key_cmp id)) own.counts.entries) ∙ there (get key_cmp own.counts id) some)
  where
    there : (found : Option ℕ) → 0 < unwrap_or found 0 → is_some found ≡ true
    there None less = absurd (omega arith)
    there (Some count) less = refl

-- ---- the chunks that go

-- those of the keys that pass the test are those that go
pub are_going : (files : Files) (repo : RepoState) (name : List ℕ) (all own : Counts) (read : ArchiveRead)
    → AreIncreasing (archive_names repo.manifest.archives) → CountsRefs files repo all → IsRead files repo name read
    → Adds (ids_used read) no_tally (count_in own) → IsOrdered key_cmp own.counts
    → AreGoing files repo name (filter (goes_by repo.log (count_in all) (count_in own)) (keys own.counts))
are_going files repo name all own read increasing counts is adds ordered =
    let test = goes_by repo.log (count_in all) (count_in own) in
    let first = counts [] in
    let rest = are_others files repo name increasing read first.reads is first.are_read in
    record {
      reads = first.reads;
      are_read = first.are_read;
      sorted = IsStrictlySortedBy-filter key_cmp test (keys own.counts) ordered;
      each = λ id.
          let falls = falls_by files repo name increasing read (count_in own) (count_in all) rest adds counts id in (
            λ e.
                let kept = is_kept repo.log (count_in all) (count_in own) id (among_passes test id (keys own.counts) e).1 in
                record { chunk = kept.chunk; falls = falls.0 (kept.some, kept.alone) },
            λ goes.
                let both = falls.1 goes.falls in
                passes_among test id (keys own.counts)
                (kept_is repo.log (count_in all) (count_in own) id (record { some = both.0; alone = both.1; chunk = goes.chunk }))
                (counted_among own id both.0),
          );
    }

-- what a shelf tells of them
pub told_going : (told later : Option Told) (repo after_repo : RepoState) (name : List ℕ) (all own : Counts) (ids : List (List ℕ))
    → heard later ≡ heard told → after_repo ≡ repo → AreIncreasing (archive_names repo.manifest.archives)
    → IfSome told (λ t. CountsRefs (told_files t) repo all) → CountsArchive later after_repo name no_tally (count_in own)
    → IsOrdered key_cmp own.counts → ids ≡ filter (goes_by after_repo.log (count_in all) (count_in own)) (keys own.counts)
    → IfSome told (λ t. AreGoing (told_files t) repo name ids)
told_going told later repo after_repo name all own ids same same_repo increasing counts archive ordered is =
    let here : ids ≡ filter (goes_by repo.log (count_in all) (count_in own)) (keys own.counts) =
    is ∙ ap (λ (r : RepoState). filter (goes_by r.log (count_in all) (count_in own)) (keys own.counts)) same_repo in
    told_with told later (λ f. CountsRefs f repo all) (λ f. IsRead f after_repo name archive.read) (λ f. AreGoing f repo name ids) same
    (λ f all_counted read.
    subst (AreGoing f repo name) (sym here)
    (are_going f repo name all own archive.read increasing all_counted
    (subst (λ (r : RepoState). IsRead f r name archive.read) same_repo read) archive.adds ordered))
    counts archive.is

-- each of them is the id of a live chunk
pub all_chunks : (log : LogState) (all own : Tally) (ids some : List (List ℕ)) → some ≡ filter (goes_by log all own) ids
    → AllByRecursion (IsChunk log) some
all_chunks log all own ids some is =
    subst (AllByRecursion (IsChunk log)) (sym is)
    (all_pass (goes_by log all own) (IsChunk log) ids (λ id e. let kept = is_kept log all own id e in kept.chunk))

-- where all archives read, one that is refused is so behind those in front of it
refused_behind : (files : Files) (repo : RepoState) (name : List ℕ) (count : ℕ) (fault : RepoFault) (found : Option ArchiveRef)
    → archive_named name repo.manifest.archives ≡ found → IsSome found → AreIncreasing (archive_names repo.manifest.archives)
    → Refs files repo [] count → RefusesRead files repo name fault → RefusesRefs files repo fault
refused_behind files repo name count fault None is some increasing refs refused = absurd (let no : ⊥ = cc in no)
refused_behind files repo name count fault (Some named) is some increasing refs refused =
    let parts = is_parted name repo.manifest.archives named increasing is in
    let both = reads_parted files repo parts.before (named ∷ parts.behind) refs.reads
    (subst (λ (l : List ArchiveRef). AreRead files repo l refs.reads) parts.all refs.are_read) in
    record {
      before = parts.before;
      named = named;
      behind = parts.behind;
      archives = parts.all;
      reads = both.first;
      are_read = both.first_are;
      refused = subst (λ (n : List ℕ). RefusesRead files repo n fault) (sym parts.same) refused;
    }

pub told_refused : (told later : Option Told) (repo after_repo : RepoState) (name : List ℕ) (all : Counts) (fault : RepoFault)
    → heard later ≡ heard told → after_repo ≡ repo → IsNamed repo name → AreIncreasing (archive_names repo.manifest.archives)
    → IfSome told (λ t. CountsRefs (told_files t) repo all) → IfSome later (λ t. RefusesRead (told_files t) after_repo name fault)
    → IfSome told (λ t. RefusesRefs (told_files t) repo fault)
told_refused told later repo after_repo name all fault same same_repo named increasing counts refused =
    told_with told later (λ f. CountsRefs f repo all) (λ f. RefusesRead f after_repo name fault) (λ f. RefusesRefs f repo fault) same
    (λ f all_counted r.
    refused_behind f repo name (count_in all []) fault (archive_named name repo.manifest.archives) refl named increasing (all_counted [])
    (subst (λ (s : RepoState). RefusesRead f s name fault) same_repo r))
    counts refused
