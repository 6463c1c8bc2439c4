-- Lemmas on specs/State.antt: what fits a log, and what keeps it.
use Rattle.std.proofs.Common.{◌≡◌, ◌≢◌, ℕ, ◌+◌, ◌<◌, ◌≤◌, Bool, true, false, cond, nat_le, List, [], ◌∷◌, ◌++◌, length, take, drop, map, filter, Option}
use Rattle.std.proofs.Common.{Some, None, unwrap_or, refl, sym, ◌∙◌, ap, subst, arith}
use Rattle.std.proofs.lemmas.List.{length-append}
use Rattle.std.specs.Ordering.{nat_cmp, eq_by_cmp, is_eq}
use Rattle.std.specs.declared.cmp.Ordering.{Ordering}
use Rattle.std.specs.declared.cmp.Ordering.TheVariants.{Less, Equal, Greater}
use borrow.Author.Tests.{leb-true}
use Rattle.std.specs.Cmp.{nat_cmp_total, eq_by_cmp_equiv}
use Rattle.std.specs.Cmp.Lexicographic.{nat_list_cmp_total}
use Rattle.std.specs.FinMap.{FinMap, get, entries, entries_sorted, empty, get-empty, get-entries, get-insert, get-remove}
use Rattle.std.specs.FinMap.{nat_cmp-IsAntisymmetric, slice_cmp-IsAntisymmetric}
use Rattle.std.specs.FinMap.Entries.{find, where_key, is_sorted-where_key, find-where_key, same_entries}
use Rattle.std.specs.List.{AllByRecursion}
use Rattle.ferry_segment.specs.Segment.{Splits}
use Rattle.ferry_disk.specs.Act.{replaced}
use Rattle.ferry_disk.specs.Files.{Files, segment_numbers, segment_bytes, with_file, without_segment}
use Rattle.ferry_disk.specs.declared.name.Name.{Name}
use Rattle.ferry_disk.specs.declared.name.Name.TheVariants.{Config, Nonce, Readme, Segment}
use Rattle.ferry_log.specs.Log.{Located, numbers_up_to, Joins}
use Rattle.ferry_log.specs.Live.{key_cmp, live_blob}
use Rattle.ferry_log.specs.State.{LogState, Places, IsStateOf, FitsFiles, IsBlobAt, place_in, first_place, with_learnt, extents_of, live_size}
use Rattle.ferry_log.specs.declared.place.Place.{Place}
use Rattle.ferry_log.proofs.PlaceLemmas.{place_lies, place_none}

-- ---- files that were opened

no_learnt : (state : LogState) (key : List ℕ) → state.learnt ≡ empty → get state.learnt key ≡ None
no_learnt state key e = ap (λ m. get m key) e ∙ get-empty _ key

-- where nothing was learnt, the place of a key is that at opening
pub place_opened : (state : LogState) (key : List ℕ) → state.learnt ≡ empty → place_in state key ≡ get state.opened key
place_opened state key e = ap (λ p. first_place p (get state.opened key)) (no_learnt state key e)

pub opened_fits : (files : Files) (state : LogState) → IsStateOf files state → FitsFiles files state
opened_fits files state is = record {
  log = is.log;
  joined = is.is.joined;
  places = is.places;
  learnt = λ key place at. absurd (let none : Some place ≡ None = sym at ∙ no_learnt state key is.learnt in cc);
}

pub place_of_blob : (files : Files) (state : LogState) (is : IsStateOf files state) (key : List ℕ) (place : Place) → place_in state key ≡ Some place
    → (blob : List ℕ) × (live_blob key is.log ≡ Some blob) × IsBlobAt (segment_bytes files place.segment) place.at place.size blob
place_of_blob files state is key place at =
    place_lies files (numbers_up_to files state.transaction) is.log key place is.is.joined (sym (is.places.live key)
    ∙ (sym (place_opened state key is.learnt) ∙ at))

pub no_place : (files : Files) (state : LogState) (is : IsStateOf files state) (key : List ℕ) → place_in state key ≡ None → live_blob key is.log ≡ None
no_place files state is key none = place_none key is.log (sym (is.places.live key) ∙ (sym (place_opened state key is.learnt) ∙ none))

-- ---- a blob lies at each place

lies_first : (files : Files) (state : LogState) (key : List ℕ) (place : Place) (learnt : Option Place) → FitsFiles files state
    → get state.learnt key ≡ learnt
    → first_place learnt (get state.opened key) ≡ Some place → (blob : List ℕ) × IsBlobAt (segment_bytes files place.segment) place.at place.size blob
lies_first files state key place (Some p) fits is at =
    let same : p ≡ place = cc in
    (take place.size (drop place.at (segment_bytes files place.segment)), record { holds = refl; within = fits.learnt key place (is ∙ ap Some same) })
lies_first files state key place None fits is at =
    let lies = place_lies files (numbers_up_to files state.transaction) fits.log key place fits.joined (sym (fits.places.live key) ∙ at) in
    (lies.0, lies.2)

pub place_holds : (files : Files) (state : LogState) (key : List ℕ) (place : Place) → FitsFiles files state → place_in state key ≡ Some place
    → (blob : List ℕ) × IsBlobAt (segment_bytes files place.segment) place.at place.size blob
place_holds files state key place fits at = lies_first files state key place (get state.learnt key) fits refl at

-- ---- files that agree up to a transaction

-- whether a number is at most the transaction
abbrev up_to : ℕ → ℕ → Bool
up_to t n = nat_le n t

-- files that have the same segments up to a transaction
abbrev Agree : Files → Files → ℕ → Type 0
Agree f g t = (n : ℕ) → n ≤ t → get f.segments n ≡ get g.segments n

found_same : (o p : Option (List ℕ)) (b : Bool) → (b ≡ true → o ≡ p) → cond b o None ≡ cond b p None
found_same o p true e = e refl
found_same o p false e = refl

-- the test answers alike at numbers that tie
alike : (t q x : ℕ) → nat_cmp q x ≡ Equal → up_to t x ≡ up_to t q
alike t q x e = ap (up_to t) (sym (nat_cmp-IsAntisymmetric q x e))

found_at : (t : ℕ) (m : FinMap nat_cmp (List ℕ)) (q : ℕ) → find nat_cmp q (where_key nat_cmp (up_to t) (entries m)) ≡ cond (up_to t q) (get m q) None
found_at t m q = find-where_key nat_cmp (up_to t) q (alike t q) (entries m) ∙ ap (λ o. cond (up_to t q) o None) (sym (get-entries m q))

cut_same : (f g : Files) (t : ℕ) → Agree f g t → where_key nat_cmp (up_to t) (entries f.segments) ≡ where_key nat_cmp (up_to t) (entries g.segments)
cut_same f g t same =
    same_entries nat_cmp nat_cmp_total nat_cmp-IsAntisymmetric _ _
    (is_sorted-where_key nat_cmp (up_to t) (entries f.segments) (entries_sorted f.segments))
    (is_sorted-where_key nat_cmp (up_to t) (entries g.segments) (entries_sorted g.segments))
    (λ q. found_at t f.segments q
    ∙ (found_same (get f.segments q) (get g.segments q) (up_to t q) (λ e. same q (leb-true q t e)) ∙ sym (found_at t g.segments q)))

keys_step : (p : ℕ → Bool) (e : ℕ × List ℕ) (ks : List ℕ) (es : List (ℕ × List ℕ)) (b : Bool) → ks ≡ map (λ e. e.0) es
    → cond b (e.0 ∷ ks) ks ≡ map (λ e. e.0) (cond b (e ∷ es) es)
keys_step p e ks es true h = ap (λ k. e.0 ∷ k) h
keys_step p e ks es false h = h

keys_where : (p : ℕ → Bool) (es : List (ℕ × List ℕ)) → filter p (map (λ e. e.0) es) ≡ map (λ e. e.0) (where_key nat_cmp p es)
keys_where p [] = refl
keys_where p (e ∷ es) = keys_step p e (filter p (map (λ e. e.0) es)) (where_key nat_cmp p es) (p e.0) (keys_where p es)

numbers_same : (f g : Files) (t : ℕ) → Agree f g t → numbers_up_to f t ≡ numbers_up_to g t
numbers_same f g t same =
    keys_where (up_to t) (entries f.segments) ∙ (ap (map (λ e. e.0)) (cut_same f g t same) ∙ sym (keys_where (up_to t) (entries g.segments)))

where_step : (p : ℕ → Bool) (P : ℕ → Type 0) (n : ℕ) (ns : List ℕ) (b : Bool) → p n ≡ b → ((n : ℕ) → p n ≡ true → P n) → AllByRecursion P (filter p ns)
    → AllByRecursion P (cond b (n ∷ filter p ns) (filter p ns))
where_step p P n ns true e h rest = (h n e, rest)
where_step p P n ns false e h rest = rest

-- what the numbers that pass a test have
all_where : (p : ℕ → Bool) (P : ℕ → Type 0) (ns : List ℕ) → ((n : ℕ) → p n ≡ true → P n) → AllByRecursion P (filter p ns)
all_where p P [] h = tt
all_where p P (n ∷ ns) h = where_step p P n ns (p n) refl h (all_where p P ns h)

joins_same : (f g : Files) (ns : List ℕ) (log : List Located) → AllByRecursion (λ n. segment_bytes f n ≡ segment_bytes g n) ns → Joins f ns log
    → Joins g ns log
joins_same f g [] log same j = j
joins_same f g (n ∷ ns) log same j = (j.0, j.1, subst (λ (b : List ℕ). Splits b j.0) same.0 j.2, joins_same f g ns j.1 same.1 j.3, j.4)

extents_same : (f g : Files) (live : Places) (ns : List ℕ) → AllByRecursion (λ n. segment_bytes f n ≡ segment_bytes g n) ns
    → extents_of f live ns ≡ extents_of g live ns
extents_same f g live [] same = refl
extents_same f g live (n ∷ ns) same =
    ap (λ (b : List ℕ). record { segment = n; size = length b; live = live_size n live } ∷ extents_of f live ns) same.0
    ∙ ap (λ k. record { segment = n; size = length (segment_bytes g n); live = live_size n live } ∷ k) (extents_same f g live ns same.1)

-- files that agree up to the transaction, and in which no learnt place is cut, fit too
pub fits_same : (f g : Files) (state : LogState) → ((n : ℕ) → n ≤ state.transaction → get f.segments n ≡ get g.segments n)
    → ((key : List ℕ) (place : Place) → get state.learnt key ≡ Some place → length (segment_bytes f place.segment) ≤ length (segment_bytes g place.segment))
    → FitsFiles f state → FitsFiles g state
fits_same f g state same longer fits =
    let t = state.transaction in
    let numbers = numbers_same f g t same in
    let bytes : AllByRecursion (λ n. segment_bytes f n ≡ segment_bytes g n) (numbers_up_to f t) =
    all_where (up_to t) _ (segment_numbers f) (λ n e. ap (λ o. unwrap_or o []) (same n (leb-true n t e))) in
    record {
      log = fits.log;
      joined = subst (λ ns. Joins g ns fits.log) numbers (joins_same f g (numbers_up_to f t) fits.log bytes fits.joined);
      places = record {
        live = fits.places.live;
        extents_are = fits.places.extents_are ∙ (extents_same f g state.opened (numbers_up_to f t) bytes ∙ ap (extents_of g state.opened) numbers);
      };
      learnt = λ key place at. let within = fits.learnt key place at in let more = longer key place at in omega arith;
    }

-- ---- what others do

pub fits_replaced : (files : Files) (state : LogState) (name : Name) (bytes : List ℕ) → FitsFiles files state → FitsFiles (replaced files name bytes) state
fits_replaced files state Config bytes fits = fits_same files (replaced files Config bytes) state (λ n small. refl) (λ key place at. omega arith) fits
fits_replaced files state Nonce bytes fits = fits_same files (replaced files Nonce bytes) state (λ n small. refl) (λ key place at. omega arith) fits
fits_replaced files state Readme bytes fits = fits_same files (replaced files Readme bytes) state (λ n small. refl) (λ key place at. omega arith) fits
fits_replaced files state (Segment number) bytes fits = fits

-- numbers that differ don't tie
tied : (q n : ℕ) (o : Ordering) → nat_cmp q n ≡ o → is_eq o ≡ true → q ≡ n
tied q n Equal e h = nat_cmp-IsAntisymmetric q n e
tied q n Less e h = absurd (let no : ⊥ = cc in no)
tied q n Greater e h = absurd (let no : ⊥ = cc in no)

apart_at : (q n : ℕ) (b : Bool) → eq_by_cmp nat_cmp q n ≡ b → (q ≡ n → ⊥) → b ≡ false
apart_at q n true e differ = absurd (differ (tied q n (nat_cmp q n) refl e))
apart_at q n false e differ = refl

apart : (q n : ℕ) → (q ≡ n → ⊥) → eq_by_cmp nat_cmp q n ≡ false
apart q n differ = apart_at q n (eq_by_cmp nat_cmp q n) refl differ

removed_at : (files : Files) (n q : ℕ) → (q ≡ n → ⊥) → get (without_segment files n).segments q ≡ get files.segments q
removed_at files n q differ = get-remove nat_cmp_total files.segments n q ∙ ap (λ b. cond b None (get files.segments q)) (apart q n differ)

longer_or : (files : Files) (n : ℕ) (bytes : List ℕ) (q : ℕ) (b : Bool) → eq_by_cmp nat_cmp q n ≡ b → (b ≡ true → q ≡ n)
    → length (segment_bytes files q) ≤ length (unwrap_or (cond b (Some (segment_bytes files n ++ bytes)) (get files.segments q)) [])
longer_or files n bytes q true e same = rw (same refl) (omega (arith, length-append (segment_bytes files n) bytes))
longer_or files n bytes q false e same = omega arith

-- an append makes no segment shorter
longer_at : (files : Files) (n : ℕ) (bytes : List ℕ) (q : ℕ)
    → length (segment_bytes files q) ≤ length (segment_bytes (with_file files (Segment n) (segment_bytes files n ++ bytes)) q)
longer_at files n bytes q =
    let found = get-insert nat_cmp_total files.segments n (segment_bytes files n ++ bytes) q in
    subst (λ (o : Option (List ℕ)). length (segment_bytes files q) ≤ length (unwrap_or o [])) (sym found)
    (longer_or files n bytes q (eq_by_cmp nat_cmp q n) refl (λ e. tied q n (nat_cmp q n) refl e))

pub fits_appended : (files : Files) (state : LogState) (n : ℕ) (bytes : List ℕ) → state.transaction < n → FitsFiles files state
    → FitsFiles (with_file files (Segment n) (segment_bytes files n ++ bytes)) state
fits_appended files state n bytes above fits =
    fits_same files (with_file files (Segment n) (segment_bytes files n ++ bytes)) state
    (λ q small. sym (get-insert nat_cmp_total files.segments n (segment_bytes files n ++ bytes) q
    ∙ ap (λ b. cond b (Some (segment_bytes files n ++ bytes)) (get files.segments q)) (apart q n (omega arith))))
    (λ key place at. longer_at files n bytes place.segment)
    fits

pub fits_removed : (files : Files) (state : LogState) (n : ℕ) → state.transaction < n
    → ((key : List ℕ) (place : Place) → get state.learnt key ≡ Some place → place.segment ≡ n → ⊥) → FitsFiles files state
    → FitsFiles (without_segment files n) state
fits_removed files state n above free fits =
    fits_same files (without_segment files n) state
    (λ q small. sym (removed_at files n q (omega arith)))
    (λ key place at. let same = removed_at files n place.segment (free key place at) in let bytes = ap (λ o. length (unwrap_or o [])) same in omega arith)
    fits

-- ---- a key that is learnt

learnt_at : (state : LogState) (key : List ℕ) (place : Place) (q : List ℕ)
    → get (with_learnt state key place).learnt q ≡ cond (eq_by_cmp key_cmp q key) (Some place) (get state.learnt q)
learnt_at state key place q = get-insert nat_list_cmp_total state.learnt key place q

within_one : (files : Files) (place p : Place) (old : Option Place) (b : Bool) → place.at + place.size ≤ length (segment_bytes files place.segment)
    → (old ≡ Some p → p.at + p.size ≤ length (segment_bytes files p.segment)) → cond b (Some place) old ≡ Some p
    → p.at + p.size ≤ length (segment_bytes files p.segment)
within_one files place p old true within rest at =
    let same : place ≡ p = cc in
    subst (λ (q : Place). q.at + q.size ≤ length (segment_bytes files q.segment)) same within
within_one files place p old false within rest at = rest at

pub fits_learnt : (files : Files) (state : LogState) (key : List ℕ) (place : Place) → place.at + place.size ≤ length (segment_bytes files place.segment)
    → FitsFiles files state → FitsFiles files (with_learnt state key place)
fits_learnt files state key place within fits = record {
  log = fits.log;
  joined = fits.joined;
  places = record { live = fits.places.live; extents_are = fits.places.extents_are };
  learnt = λ q p at.
      within_one files place p (get state.learnt q) (eq_by_cmp key_cmp q key) within (fits.learnt q p) (sym (learnt_at state key place q) ∙ at);
}

pub place_learnt : (state : LogState) (key : List ℕ) (place : Place) → place_in (with_learnt state key place) key ≡ Some place
place_learnt state key place =
    ap (λ p. first_place p (get state.opened key)) (learnt_at state key place key
    ∙ ap (λ b. cond b (Some place) (get state.learnt key)) ((eq_by_cmp_equiv nat_list_cmp_total).refl key))

keys_apart : (q key : List ℕ) (o : Ordering) → key_cmp q key ≡ o → q ≢ key → is_eq o ≡ false
keys_apart q key Equal e differ = absurd (differ (slice_cmp-IsAntisymmetric nat_cmp-IsAntisymmetric q key e))
keys_apart q key Less e differ = refl
keys_apart q key Greater e differ = refl

pub place_other : (state : LogState) (key other : List ℕ) (place : Place) → other ≢ key
    → place_in (with_learnt state key place) other ≡ place_in state other
place_other state key other place differ =
    ap (λ p. first_place p (get state.opened other)) (learnt_at state key place other
    ∙ ap (λ b. cond b (Some place) (get state.learnt other)) (keys_apart other key (key_cmp other key) refl differ))
