-- Lemmas on specs/Verify.antt: a repository that fits files verifies, or has a first fault.
use Rattle.std.proofs.Common.{◌≡◌, ◌⊎◌, inl, inr, ℕ, Bool, true, false, cond, ◌&&◌, ◌||◌, T, List, [], ◌∷◌}
use Rattle.std.proofs.Common.{◌++◌, map, Option, Some, None, IsSome, is_some, refl, sym}
use Rattle.std.proofs.Common.{◌∙◌, ap, subst}
use Rattle.std.specs.Cmp.{eq_by_cmp_equiv}
use Rattle.std.specs.Cmp.Lexicographic.{nat_list_cmp_total}
use Rattle.std.specs.FinMap.{get, insert, remove, entries, entries_sorted, keys, get-insert, get-remove, get-entries, contains_key-keys}
use Rattle.std.specs.FinMap.Entries.{find, is_sorted, below_all}
use Rattle.std.specs.List.{AllByRecursion, list_any}
use Rattle.std.specs.List.Sorted.{IsStrictlySortedBy}
use Rattle.std.specs.Ordering.{is_lt, eq_by_cmp}
use Rattle.std.specs.declared.cmp.Ordering.{Ordering}
use Rattle.std.specs.declared.cmp.Ordering.TheVariants.{Less, Equal, Greater}
use Rattle.std.specs.Str.{bytes_eq}
use Rattle.std.proofs.lemmas.List.{append_assoc}
use Rattle.std.proofs.lemmas.Slice.Eq.{bytes_eq-Decides}
use Rattle.ferry_base.specs.Limits.{zero_id}
use Rattle.ferry_disk.specs.Files.{Files}
use Rattle.ferry_log.specs.Live.{key_cmp}
use Rattle.ferry_log.specs.State.{LogState, Places, FitsFiles, first_place, place_in}
use Rattle.ferry_log.specs.declared.place.Place.{Place}
use Rattle.ferry_manifest.specs.declared.manifest.ArchiveRef.{ArchiveRef}
use Rattle.ferry_repo.specs.Archives.{archive_named}
use Rattle.ferry_repo.specs.Fault.{IsOfFiles}
use Rattle.ferry_repo.specs.Opening.{RepoState}
use Rattle.ferry_repo.specs.Whole.{RefusesWhole}
use Rattle.ferry_repo.specs.declared.fault.RepoFault.{RepoFault}
use Rattle.ferry_repo.proofs.LawLemmas.{some_chunk}
use Rattle.ferry_repo.proofs.WholeLemmas.{some_whole}
use Rattle.ferry_check.specs.Report.{AreChunks, is_among}
use Rattle.ferry_check.specs.Steps.{RefusesFirst}
use Rattle.ferry_check.specs.Verify.{IsChunk, Opens, AllOpen, ReadsWhole, Verifies, BadArchive, FirstBad}
use Rattle.ferry_check.proofs.ChunkLemmas.{all_at}
use Rattle.ferry_check.proofs.MarkLemmas.{same_key, key_itself}
use Rattle.ferry_check.proofs.ReportLemmas.{first_chunk, names_whole}

-- ---- the live ids of a log

-- places with these entries put in front of them
abbrev with_entries : List (List ℕ × Place) → Places → Places
with_entries [] places = places
with_entries (e ∷ es) places = insert (with_entries es places) e.0 e.1

first_by : (b : Bool) (place : Place) (o p : Option Place) → cond b (Some place) (first_place o p) ≡ first_place (cond b (Some place) o) p
first_by true place o p = refl
first_by false place o p = refl

with_entries-get : (es : List (List ℕ × Place)) (places : Places) (id : List ℕ)
    → get (with_entries es places) id ≡ first_place (find key_cmp id es) (get places id)
with_entries-get [] places id = refl
with_entries-get (e ∷ es) places id =
    get-insert nat_list_cmp_total (with_entries es places) e.0 e.1 id
    ∙ ap (λ (o : Option Place). cond (eq_by_cmp key_cmp id e.0) (Some e.1) o) (with_entries-get es places id)
    ∙ first_by (eq_by_cmp key_cmp id e.0) e.1 (find key_cmp id es) (get places id)

-- the places of all live ids, and those of the chunks
abbrev all_places : LogState → Places
all_places log = with_entries (entries log.learnt) log.opened

all_places-get : (log : LogState) (id : List ℕ) → get (all_places log) id ≡ place_in log id
all_places-get log id =
    with_entries-get (entries log.learnt) log.opened id
    ∙ ap (λ (o : Option Place). first_place o (get log.opened id)) (sym (get-entries log.learnt id))

abbrev chunk_places : LogState → Places
chunk_places log = remove (all_places log) zero_id

chunk_places-get : (log : LogState) (id : List ℕ) → get (chunk_places log) id ≡ cond (eq_by_cmp key_cmp id zero_id) None (place_in log id)
chunk_places-get log id =
    get-remove nat_list_cmp_total (all_places log) zero_id id
    ∙ ap (λ (o : Option Place). cond (eq_by_cmp key_cmp id zero_id) None o) (all_places-get log id)

-- ---- they are the chunks

and_first : (a b : Bool) → T (a && b) → T a
and_first true b h = tt
and_first false b h = absurd h

and_second : (a b : Bool) → T (a && b) → T b
and_second true b h = h
and_second false b h = absurd h

less_of : (o : Ordering) → T (is_lt o) → o ≡ Less
less_of Less h = refl
less_of Equal h = absurd h
less_of Greater h = absurd h

keys_below : (k : List ℕ) (es : List (List ℕ × Place)) → T (below_all key_cmp k es) → AllByRecursion (λ y. key_cmp k y ≡ Less) (map (λ e. e.0) es)
keys_below k [] h = tt
keys_below k (e ∷ es) h = (
  less_of (key_cmp k e.0) (and_first (is_lt (key_cmp k e.0)) (below_all key_cmp k es) h),
  keys_below k es (and_second (is_lt (key_cmp k e.0)) (below_all key_cmp k es) h),
)

keys_sorted : (es : List (List ℕ × Place)) → T (is_sorted key_cmp es) → IsStrictlySortedBy key_cmp (map (λ e. e.0) es)
unfolding IsStrictlySortedBy
keys_sorted [] h = tt
keys_sorted (e ∷ es) h = (
  keys_below e.0 es (and_first (below_all key_cmp e.0 es) (is_sorted key_cmp es) h),
  keys_sorted es (and_second (below_all key_cmp e.0 es) (is_sorted key_cmp es) h),
)

among_turned : (id : List ℕ) (ids : List (List ℕ)) → is_among id ids ≡ list_any (eq_by_cmp key_cmp id) ids
among_turned id [] = refl
among_turned id (x ∷ xs) =
    ap (λ b. b || is_among id xs) ((eq_by_cmp_equiv nat_list_cmp_total).symm x id) ∙ ap (λ b. eq_by_cmp key_cmp id x || b) (among_turned id xs)

among_placed : (log : LogState) (id : List ℕ)
    → is_among id (keys (chunk_places log)) ≡ is_some (cond (eq_by_cmp key_cmp id zero_id) None (place_in log id))
among_placed log id =
    among_turned id (keys (chunk_places log)) ∙ sym (contains_key-keys (chunk_places log) id) ∙ ap is_some (chunk_places-get log id)

chunk_of : (log : LogState) (id : List ℕ) (b : Bool) → eq_by_cmp key_cmp id zero_id ≡ b → is_some (cond b None (place_in log id)) ≡ true → IsChunk log id
chunk_of log id true e some = absurd (let no : ⊥ = cc in no)
chunk_of log id false e some = record {
  chunk = λ (same : id ≡ zero_id). let tied : true ≡ false = sym (key_itself id) ∙ ap (eq_by_cmp key_cmp id) same ∙ e in let no : ⊥ = cc in no;
  live = some;
}

placed_of : (log : LogState) (id : List ℕ) (b : Bool) → eq_by_cmp key_cmp id zero_id ≡ b → IsChunk log id → is_some (cond b None (place_in log id)) ≡ true
placed_of log id true e chunk = absurd (chunk.chunk (same_key id zero_id e))
placed_of log id false e chunk = chunk.live

pub some_chunks : (log : LogState) → (ids : List (List ℕ)) × AreChunks log ids
some_chunks log = (
  keys (chunk_places log),
  record {
    sorted = keys_sorted (entries (chunk_places log)) (entries_sorted (chunk_places log));
    each = λ id. (
      λ among. chunk_of log id (eq_by_cmp key_cmp id zero_id) refl (sym (among_placed log id) ∙ among),
      λ chunk. among_placed log id ∙ placed_of log id (eq_by_cmp key_cmp id zero_id) refl chunk,
    );
  },
)

-- ---- all open, or one is refused first

open_or : (files : Files) (repo : RepoState) → FitsFiles files repo.log → (ids : List (List ℕ))
    → AllByRecursion (λ i. Opens files repo i) ids ⊎ ((fault : RepoFault) × IsOfFiles fault × RefusesFirst files repo ids fault)
open_or files repo fits [] = inl tt
open_or files repo fits (id ∷ ids) = elim (some_chunk files repo.log repo.keys id fits) [
  | inl opens ↦
      elim (open_or files repo fits ids) [
        | inl all ↦ inl (opens, all)
        | inr x ↦
            inr (
              x.0,
              x.1,
              record {
                before = id ∷ x.2.before;
                id = x.2.id;
                behind = x.2.behind;
                ids_are = ap (λ (l : List (List ℕ)). id ∷ l) x.2.ids_are;
                opened = (opens, x.2.opened);
                refused = x.2.refused;
              },
            )
      ]
  | inr x ↦ inr (x.0, x.1, record { before = []; id = id; behind = ids; ids_are = refl; opened = tt; refused = x.2 })
]

all_open : (files : Files) (repo : RepoState) (ids : List (List ℕ)) → AreChunks repo.log ids → AllByRecursion (λ i. Opens files repo i) ids → AllOpen files repo
all_open files repo ids are all id chunk = all_at (λ i. Opens files repo i) ids id all ((are.each id).1 chunk)

-- ---- all archives are whole, or one is refused first

first_or : (b : Bool) (x : ArchiveRef) (o : Option ArchiveRef) → IsSome o → IsSome (cond b (Some x) o)
first_or true x o some = refl
first_or false x o some = some

named_by : (front : List ArchiveRef) (a : ArchiveRef) (behind : List ArchiveRef) → IsSome (archive_named a.name (front ++ (a ∷ behind)))
unfolding archive_named
named_by [] a behind = ap (λ b. is_some (cond b (Some a) (archive_named a.name behind))) ((bytes_eq-Decides a.name a.name).1 refl)
named_by (x ∷ xs) a behind = first_or (bytes_eq x.name a.name) x (archive_named a.name (xs ++ (a ∷ behind))) (named_by xs a behind)

whole_at : (files : Files) (repo : RepoState) → FitsFiles files repo.log → (name : List ℕ) (found : Option ArchiveRef)
    → archive_named name repo.manifest.archives ≡ found → IsSome found
    → ReadsWhole files repo name ⊎ ((fault : RepoFault) × IsOfFiles fault × RefusesWhole files repo.log repo.keys repo.manifest.archives name fault)
whole_at files repo fits name None e some = absurd (let no : ⊥ = cc in no)
whole_at files repo fits name (Some named) e some = some_whole files repo.log repo.keys repo.manifest.archives name named fits e

whole_or : (files : Files) (repo : RepoState) → FitsFiles files repo.log → (front behind : List ArchiveRef) → repo.manifest.archives ≡ front ++ behind
    → AllByRecursion (λ (a : ArchiveRef). ReadsWhole files repo a.name) behind
    ⊎ ((fault : RepoFault) × IsOfFiles fault × ((more : List ArchiveRef) × (named : ArchiveRef) × (rest : List ArchiveRef) × (behind ≡ more ++ (named ∷ rest))
    × AllByRecursion (λ (a : ArchiveRef). ReadsWhole files repo a.name) more
    × RefusesWhole files repo.log repo.keys repo.manifest.archives named.name fault))
whole_or files repo fits front [] split = inl tt
whole_or files repo fits front (a ∷ behind) split =
    let there : IsSome (archive_named a.name repo.manifest.archives) =
    subst (λ (l : List ArchiveRef). IsSome (archive_named a.name l)) (sym split) (named_by front a behind) in
    elim (whole_at files repo fits a.name (archive_named a.name repo.manifest.archives) refl there) [
      | inl whole ↦
          elim (whole_or files repo fits (front ++ (a ∷ [])) behind (split ∙ sym (append_assoc front (a ∷ []) behind))) [
            | inl all ↦ inl (whole, all)
            | inr x ↦
                inr (x.0, x.1, (a ∷ x.2.0, x.2.1, x.2.2, ap (λ (l : List ArchiveRef). a ∷ l) x.2.3, (whole, x.2.4), x.2.5))
          ]
      | inr x ↦ inr (x.0, x.1, ([], a, behind, refl, tt, x.2))
    ]

-- ---- what verifies

archives_or : (files : Files) (repo : RepoState) → FitsFiles files repo.log → AllOpen files repo
    → Verifies files repo ⊎ ((fault : RepoFault) × FirstBad files repo fault)
archives_or files repo fits opens = elim (whole_or files repo fits [] repo.manifest.archives refl) [
  | inl all ↦ inl (record { chunks = opens; archives = names_whole files repo repo.manifest.archives all })
  | inr x ↦
      let bad : BadArchive files repo x.0 = record {
        before = x.2.0;
        named = x.2.1;
        behind = x.2.2;
        archives = x.2.3;
        whole = x.2.4;
        refused = x.2.5;
      } in
      inr (x.0, (x.1, inr (opens, bad)))
]

pub some_first : (files : Files) (repo : RepoState) → FitsFiles files repo.log → Verifies files repo ⊎ ((fault : RepoFault) × FirstBad files repo fault)
some_first files repo fits =
    let chunks = some_chunks repo.log in
    elim (open_or files repo fits chunks.0) [
      | inl all ↦ archives_or files repo fits (all_open files repo chunks.0 chunks.1 all)
      | inr x ↦ inr (x.0, (x.1, inl (first_chunk files repo chunks.0 x.0 chunks.1 x.2)))
    ]
