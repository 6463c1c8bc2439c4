-- Lemmas on specs/Keys.antt: the keys that are written so far, and those that are left.
use Rattle.std.proofs.Common.{◌≡◌, ◌⊎◌, ℕ, ◌<◌, Bool, true, false, cond, ◌&&◌, T, List, [], ◌∷◌, ◌++◌, length, filter, Option, Some, None}
use Rattle.std.proofs.Common.{IsSome, IfSome, option_map, refl, sym, ◌∙◌, ap, subst, inl, inr, arith}
use Rattle.std.specs.Ordering.{is_lt, is_eq, eq_by_cmp}
use Rattle.std.specs.declared.cmp.Ordering.{Ordering}
use Rattle.std.specs.declared.cmp.Ordering.TheVariants.{Less, Equal, Greater}
use Rattle.std.specs.Cmp.{tied_itself}
use Rattle.std.specs.Cmp.Lexicographic.{nat_list_cmp_total}
use Rattle.std.specs.List.{AllByRecursion}
use Rattle.std.specs.FinMap.{entries, entries_sorted, get, get-entries, find, is_sorted, empty, slice_cmp-IsAntisymmetric, nat_cmp-IsAntisymmetric}
use Rattle.std.specs.FinMap.Entries.{below_all}
use Rattle.std.proofs.lemmas.List.{append_assoc, append-nil}
use Rattle.ferry_disk.specs.Device.{Told, WritesSome, told_files}
use Rattle.ferry_disk.proofs.DeviceLemmas.{told_then}
use Rattle.ferry_log.specs.declared.place.Place.{Place}
use Rattle.ferry_log.specs.Live.{key_cmp}
use Rattle.ferry_log.specs.State.{LogState, Places, IsStateOf, IsAbove, IsLeastAbove, IsLeastWhere}
use Rattle.ferry_log.proofs.FitsLemmas.{place_opened}
use Rattle.ferry_log.proofs.LeastLemmas.{least_same}
use Rattle.ferry_view.specs.Output.{Sends}
use Rattle.ferry_view.proofs.OutputLemmas.{sends_none, sends_more, sends_then, sent_all, sent_some, sent_still}
use Rattle.ferry_top.specs.Keys.{key_line, key_lines, IsListing}

-- pairs of keys and places
abbrev pub Pairs : Type 0
Pairs = List (List ℕ × Place)

-- whether a key is above the one that was given
abbrev pub is_above : Option (List ℕ) → List ℕ → Bool
is_above None key = true
is_above (Some after) key = is_lt (key_cmp after key)

-- ---- orders

is_tied : (o : Ordering) → is_eq o ≡ true → o ≡ Equal
is_tied Equal e = refl
is_tied Less e = cc
is_tied Greater e = cc

same_key : (a b : List ℕ) → eq_by_cmp key_cmp a b ≡ true → a ≡ b
same_key a b e = slice_cmp-IsAntisymmetric nat_cmp-IsAntisymmetric a b (is_tied (key_cmp a b) e)

key_itself : (a : List ℕ) → eq_by_cmp key_cmp a a ≡ true
key_itself a = ap is_eq (tied_itself nat_list_cmp_total a)

-- a test of two keys, either way
key_cases : (a b : List ℕ) → (eq_by_cmp key_cmp a b ≡ true) ⊎ (eq_by_cmp key_cmp a b ≡ false)
key_cases a b = elim (eq_by_cmp key_cmp a b) as (λ t. (t ≡ true) ⊎ (t ≡ false)) [ true ↦ inl refl | false ↦ inr refl ]

is_less : (o : Ordering) → is_lt o ≡ true → o ≡ Less
is_less Less e = refl
is_less Equal e = cc
is_less Greater e = cc

less_is : (o : Ordering) → o ≡ Less → is_lt o ≡ true
less_is o e = ap is_lt e

truth : (b : Bool) → T b → b ≡ true
truth true h = refl
truth false h = absurd h

first : (a b : Bool) → T (a && b) → T a
first true b h = tt
first false b h = h

second : (a b : Bool) → T (a && b) → T b
second true b h = h
second false b h = absurd h

above_is : (last : Option (List ℕ)) (key : List ℕ) → is_above last key ≡ true → IsAbove last key
above_is None key e = tt
above_is (Some a) key e = is_less (key_cmp a key) e

itself_not_above : (key : List ℕ) → is_above (Some key) key ≡ false
itself_not_above key = ap is_lt (tied_itself nat_list_cmp_total key)

-- a key that isn't above the last is not above one that is
stays_below : (last : Option (List ℕ)) (p k : List ℕ) → is_above last p ≡ false → is_above last k ≡ true → (b : Bool) → is_above (Some k) p ≡ b → b ≡ false
stays_below last p k off on false e = refl
stays_below None p k off on true e = absurd (let none : ⊥ = cc in none)
stays_below (Some a) p k off on true e =
    let above : is_lt (key_cmp a p) ≡ true = less_is (key_cmp a p) (nat_list_cmp_total.trans a k p (is_less (key_cmp a k) on) (is_less (key_cmp k p) e)) in
    absurd (let none : ⊥ = cc in none)

-- ---- lists of pairs

abbrev IsOff : Option (List ℕ) → Pairs → Type 0
IsOff last ps = AllByRecursion (λ e. is_above last e.0 ≡ false) ps

abbrev IsOn : Option (List ℕ) → Pairs → Type 0
IsOn last ps = AllByRecursion (λ e. is_above last e.0 ≡ true) ps

off_push : (last : Option (List ℕ)) (ps : Pairs) (k : List ℕ) (v : Place) → IsOff last ps → is_above last k ≡ true → IsOff (Some k) (ps ++ (k, v) ∷ [])
off_push last [] k v off on = (itself_not_above k, tt)
off_push last (p ∷ ps) k v off on = (stays_below last p.0 k off.0 on (is_above (Some k) p.0) refl, off_push last ps k v off.1 on)

on_sorted : (k : List ℕ) (ps : Pairs) → T (below_all key_cmp k ps) → IsOn (Some k) ps
on_sorted k [] h = tt
on_sorted k (p ∷ ps) h = (truth _ (first _ _ h), on_sorted k ps (second (is_lt (key_cmp k p.0)) _ h))

sorted_behind : (before after : Pairs) → T (is_sorted key_cmp (before ++ after)) → T (is_sorted key_cmp after)
sorted_behind [] after h = h
sorted_behind (p ∷ ps) after h = sorted_behind ps after (second (below_all key_cmp p.0 (ps ++ after)) _ h)

-- a key that is found in pairs that are all above another is above it
found_above : (k q : List ℕ) (ps : Pairs) → IsOn (Some k) ps → IsSome (find key_cmp q ps) → is_above (Some k) q ≡ true
found_above k q [] on some = absurd (let none : ⊥ = cc in none)
found_above k q (p ∷ ps) on some =
    elim (key_cases q p.0) [
      | inl same ↦ subst (λ x. is_above (Some k) x ≡ true) (sym (same_key q p.0 same)) on.0
      | inr apart ↦ found_above k q ps on.1 (subst IsSome (ap (λ t. cond t (Some p.1) (find key_cmp q ps)) apart) some)
    ]

-- a key above the last isn't found among those that aren't
found_behind : (last : Option (List ℕ)) (k : List ℕ) (before after : Pairs) → IsOff last before → is_above last k ≡ true
    → find key_cmp k (before ++ after) ≡ find key_cmp k after
found_behind last k [] after off on = refl
found_behind last k (p ∷ ps) after off on =
    elim (key_cases k p.0) [
      | inl same ↦
          let above : is_above last p.0 ≡ true = subst (λ x. is_above last x ≡ true) (same_key k p.0 same) on in
          absurd (let off_here : is_above last p.0 ≡ false = off.0 in let none : ⊥ = cc in none)
      | inr apart ↦ ap (λ t. cond t (Some p.1) (find key_cmp k (ps ++ after))) apart ∙ found_behind last k ps after off.1 on
    ]

-- ---- the pairs above the last key

abbrev pub above : Option (List ℕ) → Pairs → Pairs
above last ps = filter (λ e. is_above last e.0) ps

all_above : (last : Option (List ℕ)) (ps : Pairs) → IsOn last ps → above last ps ≡ ps
all_above last [] on = refl
all_above last (p ∷ ps) on = ap (λ t. cond t (p ∷ above last ps) (above last ps)) on.0 ∙ ap (λ k. p ∷ k) (all_above last ps on.1)

above_split : (last : Option (List ℕ)) (before after : Pairs) → IsOff last before → IsOn last after → above last (before ++ after) ≡ after
above_split last [] after off on = all_above last after on
above_split last (p ∷ ps) after off on = ap (λ t. cond t (p ∷ above last (ps ++ after)) (above last (ps ++ after))) off.0 ∙ above_split last ps after off.1 on

-- ---- key_lines

lines-append : (a b : Pairs) → key_lines (a ++ b) ≡ key_lines a ++ key_lines b
lines-append [] b = refl
lines-append (p ∷ a) b = ap (λ k. key_line p.0 p.1.size ++ k) (lines-append a b) ∙ sym (append_assoc (key_line p.0 p.1.size) (key_lines a) (key_lines b))

-- ---- what is written

-- The text has the lines of the live keys up to the last.
pub record Lists (live : Places) (last : Option (List ℕ)) (text : List ℕ) : Type 0 where
  pub before : Pairs
  pub after : Pairs
  pub all : entries live ≡ before ++ after
  pub off : IsOff last before
  pub on : IsOn last after
  pub text_is : text ≡ key_lines before

-- The lines of the live keys up to the last are out, but for those that are gathered.
pub record Writes (live : Places) (old now : Option (List ℕ)) (last : Option (List ℕ)) (lines : List ℕ) : Type 0 where
  pub text : List ℕ
  pub lists : Lists live last text
  pub sends : Sends old now lines text

all_on : (ps : Pairs) → IsOn None ps
all_on [] = tt
all_on (p ∷ ps) = (refl, all_on ps)

found_least : (live : Places) (last : Option (List ℕ)) (least : List ℕ × Place) (before after : Pairs) → IsLeastWhere (get live) last (Some least)
    → entries live ≡ before ++ after → IsOff last before → is_above last least.0 ≡ true → find key_cmp least.0 after ≡ Some least.1
found_least live last least before after h all off on =
    sym (found_behind last least.0 before after off on) ∙ (ap (find key_cmp least.0) (sym all) ∙ (sym (get-entries live least.0) ∙ h.0))

above_true : (last : Option (List ℕ)) (key : List ℕ) → IsAbove last key → is_above last key ≡ true
above_true None key h = refl
above_true (Some a) key h = less_is (key_cmp a key) h

-- the first of the pairs above the last is live
head_live : (live : Places) (last : Option (List ℕ)) (before es : Pairs) (e : List ℕ × Place) → entries live ≡ before ++ e ∷ es → IsOff last before
    → is_above last e.0 ≡ true → IsSome (get live e.0)
head_live live last before es e all off on =
    let found : get live e.0 ≡ Some e.1 = get-entries live e.0
    ∙ (ap (find key_cmp e.0) all ∙ (found_behind last e.0 before (e ∷ es) off on ∙ ap (λ t. cond t (Some e.1) (find key_cmp e.0 es)) (key_itself e.0))) in
    subst IsSome (sym found) refl

some_place : (p q : Place) → Some p ≡ Some q → p ≡ q
some_place p q e = cc

-- the least pair is the first of those above the last
is_head : (live : Places) (last : Option (List ℕ)) (least e : List ℕ × Place) (before es : Pairs) → IsLeastWhere (get live) last (Some least)
    → entries live ≡ before ++ e ∷ es → IsOff last before → is_above last e.0 ≡ true → IsOn (Some e.0) es → e ≡ least
is_head live last least e before es h all off on behind =
    let found = found_least live last least before (e ∷ es) h all off (above_true last least.0 h.1) in
    elim (key_cases least.0 e.0) [
      | inl same ↦
          let place : Some e.1 ≡ Some least.1 = sym (ap (λ t. cond t (Some e.1) (find key_cmp least.0 es)) same) ∙ found in
          ap (λ k. (k, e.1)) (sym (same_key least.0 e.0 same)) ∙ ap (λ p. (least.0, p)) (some_place e.1 least.1 place)
      | inr apart ↦
          let later : find key_cmp least.0 es ≡ Some least.1 = sym (ap (λ t. cond t (Some e.1) (find key_cmp least.0 es)) apart) ∙ found in
          let above_e : is_above (Some e.0) least.0 ≡ true = found_above e.0 least.0 es behind (subst IsSome (sym later) refl) in
          absurd (h.2 e.0 (head_live live last before es e all off on) (above_is last e.0 on) (is_less (key_cmp e.0 least.0) above_e))
    ]

-- the text with the line of the least key behind it, and fewer keys are left
lists_on : (live : Places) (last : Option (List ℕ)) (least : List ℕ × Place) (text : List ℕ) (before after : Pairs) → IsLeastWhere (get live) last (Some least)
    → entries live ≡ before ++ after → IsOff last before → IsOn last after → text ≡ key_lines before
    → Lists live (Some least.0) (text ++ key_line least.0 least.1.size) × (length (above (Some least.0) (entries live)) < length (above last (entries live)))
lists_on live last least text before [] h all off on is =
    absurd (let found : None ≡ Some least.1 = found_least live last least before [] h all off (above_true last least.0 h.1) in let none : ⊥ = cc in none)
lists_on live last least text before (e ∷ es) h all off on is =
    let sorted : T (is_sorted key_cmp (e ∷ es)) = sorted_behind before (e ∷ es) (subst (λ k. T (is_sorted key_cmp k)) all (entries_sorted live)) in
    let behind : IsOn (Some e.0) es = on_sorted e.0 es (first _ _ sorted) in
    let same = is_head live last least e before es h all off on.0 behind in
    let off_now : IsOff (Some least.0) (before ++ least ∷ []) = off_push last before least.0 least.1 off (above_true last least.0 h.1) in
    let on_now : IsOn (Some least.0) es = subst (λ k. IsOn (Some k.0) es) same behind in
    let split : entries live ≡ (before ++ least ∷ []) ++ es = all ∙ (ap (λ k. before ++ k ∷ es) same ∙ sym (append_assoc before (least ∷ []) es)) in
    let shorter : length (above (Some least.0) (entries live)) ≡ length es =
    ap (λ k. length (above (Some least.0) k)) split ∙ ap length (above_split (Some least.0) (before ++ least ∷ []) es off_now on_now) in
    let longer : length (above last (entries live)) ≡ length (e ∷ es) = ap (λ k. length (above last k)) all
    ∙ ap length (above_split last before (e ∷ es) off on) in (
      record {
        before = before ++ least ∷ [];
        after = es;
        all = split;
        off = off_now;
        on = on_now;
        text_is = ap (λ k. k ++ key_line least.0 least.1.size) is
            ∙ (ap (λ k. key_lines before ++ k) (sym (append-nil (key_line least.0 least.1.size))) ∙ sym (lines-append before (least ∷ [])));
      },
      omega (arith, shorter, longer),
    )

pub writes_none : (live : Places) (old : Option (List ℕ)) → Writes live old old None []
writes_none live old = record {
  text = [];
  lists = record { before = []; after = entries live; all = refl; off = tt; on = all_on (entries live); text_is = refl };
  sends = sends_none old;
}

-- the line of the least key is gathered
pub writes_more : (live : Places) (old now last : Option (List ℕ)) (least : List ℕ × Place) (lines new : List ℕ) → IsLeastWhere (get live) last (Some least)
    → Writes live old now last lines → new ≡ lines ++ key_line least.0 least.1.size → Writes live old now (Some least.0) new
writes_more live old now last least lines new h w is =
    let l = w.lists in
    let line = key_line least.0 least.1.size in
    record {
      text = w.text ++ line;
      lists = (lists_on live last least w.text l.before l.after h l.all l.off l.on l.text_is).0;
      sends = subst (λ k. Sends old now k (w.text ++ line)) (sym is) (sends_more old now lines w.text line w.sends);
    }

pub fewer_left : (live : Places) (old now last : Option (List ℕ)) (least : List ℕ × Place) (lines : List ℕ)
    → IsLeastWhere (get live) last (Some least) → Writes live old now last lines
    → length (above (Some least.0) (entries live)) < length (above last (entries live))
fewer_left live old now last least lines h w = let l = w.lists in (lists_on live last least w.text l.before l.after h l.all l.off l.on l.text_is).1

-- a part of what is gathered goes out
pub writes_out : (live : Places) (old now after last : Option (List ℕ)) (lines left : List ℕ) → Writes live old now last lines
    → Sends now after left lines → Writes live old after last left
writes_out live old now after last lines left w sends = record
    { text = w.text; lists = w.lists; sends = sends_then old now after lines left w.text w.sends sends }

none_left : (live : Places) (last : Option (List ℕ)) (before after : Pairs) → IsLeastWhere (get live) last None → entries live ≡ before ++ after
    → IsOff last before → IsOn last after → after ≡ []
none_left live last before [] h all off on = refl
none_left live last before (e ∷ es) h all off on = absurd (h e.0 (head_live live last before es e all off on.0) (above_is last e.0 on.0))

-- all lines are out
pub written_all : (live : Places) (old now after last : Option (List ℕ)) (lines : List ℕ) → IsLeastWhere (get live) last None → Writes live old now last lines
    → after ≡ option_map (λ w. w ++ lines) now → after ≡ option_map (λ w. w ++ key_lines (entries live)) old
written_all live old now after last lines h w is =
    let l = w.lists in
    let none = none_left live last l.before l.after h l.all l.off l.on in
    let whole : entries live ≡ l.before = l.all ∙ (ap (λ k. l.before ++ k) none ∙ append-nil l.before) in
    sent_all old now after lines w.text w.sends is ∙ ap (λ t. option_map (λ k. k ++ t) old) (l.text_is ∙ ap key_lines (sym whole))

-- the text and the lines of the keys behind it are all lines
all_lines : (live : Places) (last : Option (List ℕ)) (text : List ℕ) (l : Lists live last text) → text ++ key_lines l.after ≡ key_lines (entries live)
all_lines live last text l = ap (λ k. k ++ key_lines l.after) l.text_is ∙ (sym (lines-append l.before l.after) ∙ ap key_lines (sym l.all))

pub written_some : (live : Places) (old now after last : Option (List ℕ)) (lines : List ℕ) → Writes live old now last lines → WritesSome now lines after
    → WritesSome old (key_lines (entries live)) after
written_some live old now after last lines w some =
    subst (λ t. WritesSome old t after) (all_lines live last w.text w.lists) (sent_some old now after lines w.text (key_lines w.lists.after) w.sends some)

-- nothing more is out
pub written_still : (live : Places) (old now last : Option (List ℕ)) (lines : List ℕ) → Writes live old now last lines
    → WritesSome old (key_lines (entries live)) now
written_still live old now last lines w =
    subst (λ t. WritesSome old t now) (all_lines live last w.text w.lists) (sent_still old now lines w.text (key_lines w.lists.after) w.sends)

-- the least live key of a log that has learnt none is the least that was live at opening
pub least_opened : (log : LogState) (last : Option (List ℕ)) (found : Option (List ℕ × Place)) → log.learnt ≡ empty → IsLeastAbove log last found
    → IsLeastWhere (get log.opened) last found
least_opened log last found none least = least_same _ (get log.opened) last found (λ key. place_opened log key none) least

-- the lines of a state's keys are the listing of the files whose state it is
pub listing_of : (source : Option Told) (state : LogState) → IfSome source (λ t. IsStateOf (told_files t) state)
    → IfSome source (λ t. IsListing (told_files t) (key_lines (entries state.opened)))
listing_of source state h =
    told_then source (λ files. IsStateOf files state) (λ files. IsListing files (key_lines (entries state.opened)))
    (λ files is. record { state = state; is = is; lines = refl }) h
