-- Lemmas on specs/Stays.antt: what is taken by the notes of both passes is what is to be put again.
use Rattle.std.proofs.Common.{◌≡◌, inl, inr, ℕ, ◌+◌, ◌≤◌, Bool, true, false, cond, ◌&&◌, ◌||◌, not, nat_lt, List, [], ◌∷◌, ◌++◌, map}
use Rattle.std.proofs.Common.{Option, Some, None, is_none, refl, sym, ◌∙◌, ap, arith}
use Rattle.std.proofs.lemmas.Bool.{ltb-false, ltb-true}
use Rattle.std.proofs.lemmas.List.Elements.{filter-append}
use Rattle.std.specs.List.{AllByRecursion, filter, list_any}
use Rattle.std.specs.Ordering.{eq_by_cmp}
use Rattle.ferry_compact.proofs.ListLemmas.{all_map, true_or_false}
use Rattle.ferry_compact.proofs.LastLemmas.{Before, Ordered, own_key}
use Rattle.ferry_compact.proofs.StaysLemmas.{note_all-append, unnoted_stays}
use Rattle.ferry_compact.specs.Moving.{is_among, lies_at, moved_in, moves_entry, puts_key, stays_below}
use Rattle.ferry_compact.specs.Stays.{HasNotes, Notes, entries_of, is_below, note_all, note_entry, noted_at}
use Rattle.ferry_compact.specs.Steps.{takes_entry, taken_from}
use Rattle.ferry_log.specs.Live.{key_cmp, live_place}
use Rattle.ferry_log.specs.Log.{Located}
use Rattle.ferry_log.specs.State.{LogState, place_in}
use Rattle.ferry_log.specs.declared.place.Place.{Place}
use Rattle.ferry_segment.specs.Entry.{LogEntry, PutEntry, DeleteEntry, CommitEntry}

-- ---- lists

-- what holds of each member, in its place
pub all_members : {X : Type 0} (P : X → Type 0) (xs : List X) → ((before : List X) (x : X) (after : List X) → xs ≡ before ++ x ∷ after → P x)
    → AllByRecursion P xs
all_members P [] each = tt
all_members P (x ∷ xs) each = (
  each [] x xs refl,
  all_members P xs (λ before y after is. each (x ∷ before) y after (ap (λ (l : List _). x ∷ l) is)),
)

filter_by : {X : Type 0} (P : X → Type 0) (x : X) (xs : List X) (b : Bool) → P x → AllByRecursion P xs → AllByRecursion P (cond b (x ∷ xs) xs)
filter_by P x xs true here rest = (here, rest)
filter_by P x xs false here rest = rest

pub all_filter : {X : Type 0} (P : X → Type 0) (p : X → Bool) (xs : List X) → AllByRecursion P xs → AllByRecursion P (filter p xs)
all_filter P p [] all = tt
all_filter P p (x ∷ xs) all = filter_by P x (filter p xs) (p x) all.0 (all_filter P p xs all.1)

ordered_by : (e : Located) (es : List Located) (b : Bool) → AllByRecursion (Before e) es → Ordered es → Ordered (cond b (e ∷ es) es)
ordered_by e es true before rest = (before, rest)
ordered_by e es false before rest = rest

pub ordered_filter : (p : Located → Bool) (log : List Located) → Ordered log → Ordered (filter p log)
ordered_filter p [] o = tt
ordered_filter p (e ∷ es) o = ordered_by e (filter p es) (p e) (all_filter (Before e) p es o.0) (ordered_filter p es o.1)

twice_by : {X : Type 0} (P : X → Bool) (x : X) (xs : List X) (rest : List X) (b d : Bool) → (b ≡ true → P x ≡ d) → filter P xs ≡ rest
    → filter P (cond b (x ∷ xs) xs) ≡ cond (b && d) (x ∷ rest) rest
twice_by P x xs rest true d same e =
    ap (λ (t : Bool). cond t (x ∷ filter P xs) (filter P xs)) (same refl) ∙ ap (λ (l : List _). cond d (x ∷ l) l) e
twice_by P x xs rest false d same e = e

-- two tests one after another
pub filter_twice : {X : Type 0} (P Q M : X → Bool) (xs : List X) → AllByRecursion (λ x. Q x ≡ true → P x ≡ M x) xs
    → filter P (filter Q xs) ≡ filter (λ x. Q x && M x) xs
filter_twice P Q M [] all = refl
filter_twice P Q M (x ∷ xs) all = twice_by P x (filter Q xs) (filter (λ y. Q y && M y) xs) (Q x) (M x) all.0 (filter_twice P Q M xs all.1)

and_true : (b : Bool) → (b && true) ≡ b
and_true true = refl
and_true false = refl

and_false : (b : Bool) → (b && false) ≡ false
and_false true = refl
and_false false = refl

any_where : {X : Type 0} (P : X → Bool) (x : X) (xs : List X) (p q r rest : Bool) → P x ≡ (p && q) → list_any P xs ≡ rest
    → list_any P (cond (not r) (x ∷ xs) xs) ≡ ((p && (q && not r)) || rest)
any_where P x xs p q false rest is e =
    ap (λ (t : Bool). t || list_any P xs) is ∙ (ap (λ (t : Bool). (p && q) || t) e ∙ ap (λ (t : Bool). (p && t) || rest) (sym (and_true q)))
any_where P x xs p q true rest is e =
    e ∙ sym (ap (λ (t : Bool). (p && t) || rest) (and_false q) ∙ ap (λ (t : Bool). t || rest) (and_false p))

-- one test on those that pass another
pub any_filter : {X : Type 0} (P Q R : X → Bool) (xs : List X)
    → list_any (λ x. P x && (Q x && not (R x))) xs ≡ list_any (λ x. P x && Q x) (filter (λ x. not (R x)) xs)
any_filter P Q R [] = refl
any_filter P Q R (x ∷ xs) =
    sym (any_where (λ y. P y && Q y) x (filter (λ y. not (R y)) xs) (P x) (Q x) (R x) (list_any (λ y. P y && (Q y && not (R y))) xs) refl
    (sym (any_filter P Q R xs)))

-- ---- the notes of one key

-- a key that is live isn't noted
live_by : (state : LogState) (key : List ℕ) (segment : ℕ) (entry : LogEntry) → is_none (place_in state key) ≡ false
    → note_entry state true key segment entry None ≡ None
live_by state key segment (PutEntry k blob) live = refl
live_by state key segment (DeleteEntry k) live =
    ap (λ (b : Bool). cond b (Some None) None) (ap (λ (b : Bool). eq_by_cmp key_cmp key k && b) live ∙ and_false (eq_by_cmp key_cmp key k))
live_by state key segment CommitEntry live = refl

noted_live : (state : LogState) (key : List ℕ) (es : List Located) → is_none (place_in state key) ≡ false → note_all state true key es None ≡ None
noted_live state key [] live = refl
noted_live state key (e ∷ es) live =
    ap (note_all state true key es) (live_by state key e.segment e.entry live) ∙ noted_live state key es live

kept_by : {X : Type 0} (b : Bool) (x : X) → cond b x x ≡ x
kept_by true x = refl
kept_by false x = refl

noted_kept : (state : LogState) (key : List ℕ) (es : List Located) → note_all state true key es (Some None) ≡ Some None
noted_kept state key [] = refl
noted_kept state key (e ∷ es) = ap (note_all state true key es) (by_entry e.entry) ∙ noted_kept state key es where
  by_entry : (entry : LogEntry) → note_entry state true key e.segment entry (Some None) ≡ Some None
  by_entry (PutEntry k blob) = refl
  by_entry (DeleteEntry k) = kept_by (eq_by_cmp key_cmp key k && is_none (place_in state key)) (Some None)
  by_entry CommitEntry = refl

-- one that isn't live, and is deleted among these, is noted
noted_deleted : (state : LogState) (key : List ℕ) (before : List Located) (e : Located) (after : List Located) (old : Option (Option ℕ))
    → e.entry ≡ DeleteEntry key → is_none (place_in state key) ≡ true → note_all state true key (before ++ e ∷ after) old ≡ Some None
noted_deleted state key before e after old is dead =
    let was = note_all state true key before old in
    let now : note_entry state true key e.segment e.entry was ≡ Some None =
    ap (λ (x : LogEntry). note_entry state true key e.segment x was) is
    ∙ ap (λ (b : Bool). cond b (Some None) was) (ap (λ (b : Bool). b && is_none (place_in state key)) (own_key key) ∙ dead) in
    note_all-append state true key before (e ∷ after) old ∙ (ap (note_all state true key after) now ∙ noted_kept state key after)

-- a PUT that was found stays the first one
found_by : (state : LogState) (key : List ℕ) (segment low : ℕ) (entry : LogEntry)
    → note_entry state false key segment entry (Some (Some low)) ≡ Some (Some low)
found_by state key segment low (PutEntry k blob) =
    ap (λ (b : Bool). cond b (Some (Some segment)) (Some (Some low))) (and_false (eq_by_cmp key_cmp key k))
found_by state key segment low (DeleteEntry k) = refl
found_by state key segment low CommitEntry = refl

found_kept : (state : LogState) (key : List ℕ) (low : ℕ) (es : List Located) → note_all state false key es (Some (Some low)) ≡ Some (Some low)
found_kept state key low [] = refl
found_kept state key low (e ∷ es) = ap (note_all state false key es) (found_by state key e.segment low e.entry) ∙ found_kept state key low es

-- whether an entry is a PUT of a key in a segment below one
abbrev below_by : List ℕ → ℕ → Located → Bool
below_by key segment e = puts_key key e.entry && nat_lt e.segment segment

none_below : (key : List ℕ) (segment low : ℕ) (es : List Located) → AllByRecursion (λ e. low ≤ e.segment) es → segment ≤ low
    → list_any (below_by key segment) es ≡ false
none_below key segment low [] all le = refl
none_below key segment low (e ∷ es) all le =
    let far : segment ≤ e.segment = (let here = all.0 in omega (arith, here, le)) in
    ap (λ (b : Bool). (puts_key key e.entry && b) || list_any (below_by key segment) es) (not_less e.segment segment far)
    ∙ (ap (λ (b : Bool). b || list_any (below_by key segment) es) (and_false (puts_key key e.entry)) ∙ none_below key segment low es all.1 le) where
      not_less : (n m : ℕ) → m ≤ n → nat_lt n m ≡ false
      not_less n m le = elim (true_or_false (nat_lt n m)) [
        | inl is ↦ absurd (let lt = ltb-true n m is in omega (arith, lt, le))
        | inr not ↦ not
      ]

less_by : (key : List ℕ) (segment low : ℕ) (es : List Located) (b : Bool) → nat_lt low segment ≡ b → AllByRecursion (λ e. low ≤ e.segment) es
    → nat_lt low segment ≡ (b || list_any (below_by key segment) es)
less_by key segment low es true is all = is
less_by key segment low es false is all = is ∙ sym (none_below key segment low es all (ltb-false low segment is))

segments_rise : (e : Located) (es : List Located) → AllByRecursion (Before e) es → AllByRecursion (λ f. e.segment ≤ f.segment) es
segments_rise e es before =
    all_map (Before e) (λ f. e.segment ≤ f.segment)
    (λ f b. elim b [
      | inl lt ↦ omega (arith, lt)
      | inr same ↦ (let is = same.0 in omega (arith, is))
    ]) es before

found_one : (state : LogState) (key : List ℕ) (segment at : ℕ) (es : List Located) (k : List ℕ) (b : Bool) → eq_by_cmp key_cmp key k ≡ b
    → AllByRecursion (λ f. at ≤ f.segment) es
    → is_below (note_all state false key es (Some None)) segment ≡ list_any (below_by key segment) es
    → is_below (note_all state false key es (cond (b && true) (Some (Some at)) (Some None))) segment
    ≡ ((b && nat_lt at segment) || list_any (below_by key segment) es)
found_one state key segment at es k true is far rest =
    ap (λ (found : Option (Option ℕ)). is_below found segment) (found_kept state key at es)
    ∙ less_by key segment at es (nat_lt at segment) refl far
found_one state key segment at es k false is far rest = rest

found_entry : (state : LogState) (key : List ℕ) (segment at : ℕ) (es : List Located) (entry : LogEntry) → AllByRecursion (λ f. at ≤ f.segment) es
    → is_below (note_all state false key es (Some None)) segment ≡ list_any (below_by key segment) es
    → is_below (note_all state false key es (note_entry state false key at entry (Some None))) segment
    ≡ ((puts_key key entry && nat_lt at segment) || list_any (below_by key segment) es)
found_entry state key segment at es (PutEntry k blob) far rest = found_one state key segment at es k (eq_by_cmp key_cmp key k) refl far rest
found_entry state key segment at es (DeleteEntry k) far rest = rest
found_entry state key segment at es CommitEntry far rest = rest

-- what the second pass finds is the lowest PUT
pub found_below : (state : LogState) (key : List ℕ) (segment : ℕ) (es : List Located) → Ordered es
    → is_below (note_all state false key es (Some None)) segment ≡ list_any (below_by key segment) es
found_below state key segment [] o = refl
found_below state key segment (e ∷ es) o =
    found_entry state key segment e.segment es e.entry (segments_rise e es o.0) (found_below state key segment es o.1)

-- ---- what is put again

-- whether a key is noted of which a PUT lies below a segment, for a key that a chosen segment deletes
notes_delete : (state : LogState) (chosen : List ℕ) (log : List Located) (notes : Notes) (key : List ℕ) (before : List Located) (e : Located)
    (after : List Located) → Ordered log → HasNotes state chosen log notes → place_in state key ≡ live_place key log → log ≡ before ++ e ∷ after
    → is_among chosen e.segment ≡ true → e.entry ≡ DeleteEntry key → (live : Bool) → is_none (place_in state key) ≡ live
    → is_below (noted_at key notes) e.segment ≡ (is_none (live_place key log) && list_any (stays_below chosen key e.segment) log)
notes_delete state chosen log notes key before e after o has places is among delete true dead =
    let P : Located → Bool = λ x. is_among chosen x.segment in
    let there : entries_of chosen true log ≡ filter P before ++ e ∷ filter P after =
    ap (filter P) is ∙ (filter-append P before (e ∷ after)
    ∙ ap (λ (b : Bool). filter P before ++ cond b (e ∷ filter P after) (filter P after)) among) in
    let noted : noted_at key notes ≡ note_all state false key (entries_of chosen false log) (Some None) =
    has key ∙ ap (note_all state false key (entries_of chosen false log))
    (ap (λ (l : List Located). note_all state true key l None) there ∙ noted_deleted state key (filter P before) e (filter P after) None delete dead) in
    ap (λ (n : Option (Option ℕ)). is_below n e.segment) noted
    ∙ (found_below state key e.segment (entries_of chosen false log) (ordered_filter (λ x. not (is_among chosen x.segment)) log o)
    ∙ (sym (any_filter (λ x. puts_key key x.entry) (λ x. nat_lt x.segment e.segment) P log)
    ∙ ap (λ (b : Bool). b && list_any (stays_below chosen key e.segment) log) (sym dead ∙ ap is_none places)))
notes_delete state chosen log notes key before e after o has places is among delete false live =
    let none : noted_at key notes ≡ None =
    has key ∙ (ap (note_all state false key (entries_of chosen false log)) (noted_live state key (entries_of chosen true log) live)
    ∙ unnoted_stays state key (entries_of chosen false log)) in
    ap (λ (n : Option (Option ℕ)). is_below n e.segment) none
    ∙ ap (λ (b : Bool). b && list_any (stays_below chosen key e.segment) log) (sym live ∙ ap is_none places)

takes_moved : (state : LogState) (chosen : List ℕ) (log : List Located) (notes : Notes) (before : List Located) (e : Located) (after : List Located)
    (entry : LogEntry) → Ordered log → HasNotes state chosen log notes → ((key : List ℕ) → place_in state key ≡ live_place key log)
    → log ≡ before ++ e ∷ after → e.entry ≡ entry → is_among chosen e.segment ≡ true
    → takes_entry state notes e.segment e.at entry ≡ moves_entry log chosen e.segment e.at entry
takes_moved state chosen log notes before e after (PutEntry key blob) o has places is entry_is among =
    ap (λ (p : Option Place). lies_at p e.segment (e.at + 41)) (places key)
takes_moved state chosen log notes before e after (DeleteEntry key) o has places is entry_is among =
    notes_delete state chosen log notes key before e after o has (places key) is among entry_is (is_none (place_in state key)) refl
takes_moved state chosen log notes before e after CommitEntry o has places is entry_is among = refl

pub taken_moved : (state : LogState) (chosen : List ℕ) (log : List Located) (notes : Notes) → Ordered log → HasNotes state chosen log notes
    → ((key : List ℕ) → place_in state key ≡ live_place key log)
    → taken_from state notes (filter (λ e. is_among chosen e.segment) log) ≡ moved_in log chosen
unfolding moved_in
taken_moved state chosen log notes o has places =
    ap (map (λ (e : Located). e.entry))
    (filter_twice (λ e. takes_entry state notes e.segment e.at e.entry) (λ e. is_among chosen e.segment)
    (λ e. moves_entry log chosen e.segment e.at e.entry) log
    (all_members
    (λ (e : Located). is_among chosen e.segment ≡ true
    → takes_entry state notes e.segment e.at e.entry ≡ moves_entry log chosen e.segment e.at e.entry) log
    (λ before e after is among. takes_moved state chosen log notes before e after e.entry o has places is refl among)))
