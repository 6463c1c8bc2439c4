-- Lemmas on the last entry of a log that names a key, and on what a key has after entries.
use Rattle.std.proofs.Common.{◌≡◌, ◌⊎◌, inl, inr, ℕ, ◌-◌, ◌<◌, Bool, true, false, cond, List, [], ◌∷◌, ◌++◌}
use Rattle.std.proofs.Common.{length, map, filter, slice_get, Option, Some, None, option_and_then, refl, sym, ◌∙◌, ap, subst, arith}
use Rattle.std.proofs.lemmas.List.{length_push}
use Rattle.std.proofs.lemmas.List.Elements.{filter-append}
use Rattle.std.specs.Cmp.{eq_by_cmp_equiv}
use Rattle.std.specs.Cmp.Lexicographic.{nat_list_cmp_total}
use Rattle.std.specs.FinMap.{nat_cmp-IsAntisymmetric, slice_cmp-IsAntisymmetric}
use Rattle.std.specs.List.{AllByRecursion}
use Rattle.std.specs.Ordering.{eq_by_cmp, is_eq}
use Rattle.std.specs.declared.cmp.Ordering.{Ordering}
use Rattle.std.specs.declared.cmp.Ordering.TheVariants.{Less, Equal, Greater}
use Rattle.ferry_compact.proofs.ListLemmas.{all-append, filter_none}
use Rattle.ferry_compact.proofs.ListLemmas.{map-append}
use Rattle.ferry_log.specs.Live.{key_cmp, live_blob, live_place, names_key, naming, put_blob, put_place}
use Rattle.ferry_log.specs.Log.{Located}
use Rattle.ferry_segment.specs.Entry.{LogEntry}

-- ---- keys

tied_keys : (a b : List ℕ) (o : Ordering) → key_cmp a b ≡ o → is_eq o ≡ true → a ≡ b
tied_keys a b Equal e h = slice_cmp-IsAntisymmetric nat_cmp-IsAntisymmetric a b e
tied_keys a b Less e h = absurd (let no : ⊥ = cc in no)
tied_keys a b Greater e h = absurd (let no : ⊥ = cc in no)

pub same_key : (a b : List ℕ) → eq_by_cmp key_cmp a b ≡ true → a ≡ b
same_key a b e = tied_keys a b (key_cmp a b) refl e

pub own_key : (a : List ℕ) → eq_by_cmp key_cmp a a ≡ true
own_key a = (eq_by_cmp_equiv nat_list_cmp_total).refl a

-- ---- the last entry that names a key

-- no entry of these names a key
abbrev pub NoneNames : List ℕ → List Located → Type 0
NoneNames key log = AllByRecursion (λ e. names_key key e.entry ≡ false) log

-- The last entry that names a key, with those before it and behind it.
pub record LastNaming (key : List ℕ) (log : List Located) : Type 0 where
  pub before : List Located
  pub last : Located
  pub after : List Located
  pub parts : log ≡ before ++ last ∷ after
  pub names : names_key key last.entry ≡ true
  pub none : NoneNames key after

last_by : (key : List ℕ) (e : Located) (log : List Located) (b : Bool) → names_key key e.entry ≡ b → NoneNames key log ⊎ LastNaming key log
    → NoneNames key (e ∷ log) ⊎ LastNaming key (e ∷ log)
last_by key e log b is (inr l) =
    inr (record {
      before = e ∷ l.before;
      last = l.last;
      after = l.after;
      parts = ap (λ (k : List Located). e ∷ k) l.parts;
      names = l.names;
      none = l.none;
    })
last_by key e log true is (inl none) = inr (record { before = []; last = e; after = log; parts = refl; names = is; none = none })
last_by key e log false is (inl none) = inl (is, none)

pub last_or : (key : List ℕ) (log : List Located) → NoneNames key log ⊎ LastNaming key log
last_or key [] = inl tt
last_or key (e ∷ log) = last_by key e log (names_key key e.entry) refl (last_or key log)

-- what the last one gives
abbrev given_by : {X : Type 0} → (Located → Option X) → List Located → Option X
given_by f named = option_and_then f (slice_get named (length named - 1))

get_push : (xs : List Located) (x : Located) → slice_get (xs ++ x ∷ []) (length xs) ≡ Some x
get_push [] x = refl
get_push (y ∷ xs) x = get_push xs x

last_push : {X : Type 0} (f : Located → Option X) (xs : List Located) (x : Located) → given_by f (xs ++ x ∷ []) ≡ f x
last_push f xs x =
    let e : length (xs ++ x ∷ []) - 1 ≡ length xs = omega (arith, length_push xs x) in
    ap (option_and_then f) (ap (slice_get (xs ++ x ∷ [])) e ∙ get_push xs x)

naming_last : (key : List ℕ) (log : List Located) (l : LastNaming key log) → naming key log ≡ naming key l.before ++ l.last ∷ []
naming_last key log l =
    let p : Located → Bool = λ e. names_key key e.entry in
    ap (filter p) l.parts
    ∙ (filter-append p l.before (l.last ∷ l.after)
    ∙ (ap (λ (b : Bool). filter p l.before ++ cond b (l.last ∷ filter p l.after) (filter p l.after)) l.names
    ∙ ap (λ (k : List Located). filter p l.before ++ l.last ∷ k) (filter_none p l.after l.none)))

given_last : {X : Type 0} (f : Located → Option X) (key : List ℕ) (log : List Located) (l : LastNaming key log) → given_by f (naming key log) ≡ f l.last
given_last f key log l = ap (given_by f) (naming_last key log l) ∙ last_push f (naming key l.before) l.last

given_none : {X : Type 0} (f : Located → Option X) (key : List ℕ) (log : List Located) → NoneNames key log → given_by f (naming key log) ≡ None
given_none f key log none = ap (given_by f) (filter_none (λ (e : Located). names_key key e.entry) log none)

pub blob_last : (key : List ℕ) (log : List Located) (l : LastNaming key log) → live_blob key log ≡ put_blob l.last.entry
unfolding live_blob
blob_last key log l = given_last (λ (e : Located). put_blob e.entry) key log l

pub blob_none : (key : List ℕ) (log : List Located) → NoneNames key log → live_blob key log ≡ None
unfolding live_blob
blob_none key log none = given_none (λ (e : Located). put_blob e.entry) key log none

pub place_last : (key : List ℕ) (log : List Located) (l : LastNaming key log) → live_place key log ≡ put_place l.last.segment l.last.at l.last.entry
unfolding live_place
place_last key log l = given_last (λ (e : Located). put_place e.segment e.at e.entry) key log l

-- ---- what a key has after entries

abbrev pub live_step : List ℕ → Option (List ℕ) → LogEntry → Option (List ℕ)
live_step key old e = cond (names_key key e) (put_blob e) old

abbrev pub live_after : List ℕ → Option (List ℕ) → List LogEntry → Option (List ℕ)
live_after key old [] = old
live_after key old (e ∷ es) = live_after key (live_step key old e) es

pub after-append : (key : List ℕ) (old : Option (List ℕ)) (xs ys : List LogEntry) → live_after key old (xs ++ ys) ≡ live_after key (live_after key old xs) ys
after-append key old [] ys = refl
after-append key old (x ∷ xs) ys = after-append key (live_step key old x) xs ys

abbrev pub NoEntryNames : List ℕ → List LogEntry → Type 0
NoEntryNames key es = AllByRecursion (λ e. names_key key e ≡ false) es

pub after_none : (key : List ℕ) (old : Option (List ℕ)) (es : List LogEntry) → NoEntryNames key es → live_after key old es ≡ old
after_none key old [] none = refl
after_none key old (e ∷ es) none =
    ap (λ (b : Bool). live_after key (cond b (put_blob e) old) es) none.0 ∙ after_none key old es none.1

pub after_last : (key : List ℕ) (old : Option (List ℕ)) (before : List LogEntry) (e : LogEntry) (after : List LogEntry) → names_key key e ≡ true
    → NoEntryNames key after → live_after key old (before ++ e ∷ after) ≡ put_blob e
after_last key old before e after names none =
    after-append key old before (e ∷ after)
    ∙ (ap (λ (b : Bool). live_after key (cond b (put_blob e) (live_after key old before)) after) names ∙ after_none key (put_blob e) after none)

-- where each entry that names the key gives the same, the last gives that; or none names it
alike_by : (key : List ℕ) (x old : Option (List ℕ)) (e : LogEntry) (es : List LogEntry) (b : Bool) → names_key key e ≡ b → (b ≡ true → put_blob e ≡ x)
    → ((o : Option (List ℕ)) → (live_after key o es ≡ x) ⊎ ((live_after key o es ≡ o) × NoEntryNames key es))
    → (live_after key (cond b (put_blob e) old) es ≡ x) ⊎ ((live_after key (cond b (put_blob e) old) es ≡ old) × NoEntryNames key (e ∷ es))
alike_by key x old e es true is gives rest = elim (rest (put_blob e)) [
  | inl same ↦ inl same
  | inr none ↦ inl (none.0 ∙ gives refl)
]
alike_by key x old e es false is gives rest = elim (rest old) [
  | inl same ↦ inl same
  | inr none ↦ inr (none.0, (is, none.1))
]

pub after_alike : (key : List ℕ) (x : Option (List ℕ)) (es : List LogEntry) → AllByRecursion (λ e. names_key key e ≡ true → put_blob e ≡ x) es
    → (old : Option (List ℕ)) → (live_after key old es ≡ x) ⊎ ((live_after key old es ≡ old) × NoEntryNames key es)
after_alike key x [] all old = inr (refl, tt)
after_alike key x (e ∷ es) all old = alike_by key x old e es (names_key key e) refl all.0 (after_alike key x es all.1)

-- what is live by a log
none_entries : (key : List ℕ) (log : List Located) → NoneNames key log → NoEntryNames key (map (λ (e : Located). e.entry) log)
none_entries key [] none = tt
none_entries key (e ∷ log) none = (none.0, none_entries key log none.1)

pub blob_after : (key : List ℕ) (log : List Located) → live_blob key log ≡ live_after key None (map (λ (e : Located). e.entry) log)
blob_after key log = elim (last_or key log) [
  | inl none ↦ blob_none key log none ∙ sym (after_none key None (map (λ (e : Located). e.entry) log) (none_entries key log none))
  | inr l ↦
      (let f : Located → LogEntry = λ e. e.entry in
      blob_last key log l
      ∙ sym (ap (λ (k : List Located). live_after key None (map f k)) l.parts
      ∙ (ap (live_after key None) (map-append f l.before (l.last ∷ l.after))
      ∙ after_last key None (map f l.before) l.last.entry (map f l.after) l.names (none_entries key l.after l.none))))
]

-- ---- logs in order

-- an entry lies before another
abbrev pub Before : Located → Located → Type 0
Before e f = (e.segment < f.segment) ⊎ ((e.segment ≡ f.segment) × (e.at < f.at))

abbrev pub Ordered : List Located → Type 0
Ordered [] = Unit {0}
Ordered (e ∷ es) = AllByRecursion (Before e) es × Ordered es

pub all_there : {X : Type 0} (P : X → Type 0) (before : List X) (x : X) (after : List X) → AllByRecursion P (before ++ x ∷ after) → P x
all_there P [] x after h = h.0
all_there P (y ∷ before) x after h = all_there P before x after h.1

pub ordered_front : (before : List Located) (l : Located) (after : List Located) → Ordered (before ++ l ∷ after) → AllByRecursion (λ e. Before e l) before
ordered_front [] l after o = tt
ordered_front (e ∷ before) l after o = (all_there (Before e) before l after o.0, ordered_front before l after o.1)

-- what holds of those before the last one, of it and of those behind it
pub all_parts : (P : Located → Type 0) (key : List ℕ) (log : List Located) (l : LastNaming key log) → AllByRecursion P l.before → P l.last
    → AllByRecursion P l.after → AllByRecursion P log
all_parts P key log l before last after =
    subst (AllByRecursion P) (sym l.parts) (all-append P l.before (l.last ∷ l.after) before (last, after))
