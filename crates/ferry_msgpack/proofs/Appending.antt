-- Writing values and pairs one after the other, as a loop does.
use Rattle.std.proofs.Common.{◌≡◌, ℕ, zero, suc, ◌+◌, ◌^◌, ◌≤◌, ◌<◌, List, [], ◌∷◌, ◌++◌, length, get_or, take, refl, sym, ap, subst, ◌∙◌, append_assoc}
use Rattle.std.proofs.Common.{add-one, arith}
use Rattle.std.proofs.lemmas.List.{append-nil, take_more, take_all}
use Rattle.ferry_msgpack.specs.declared.value.Value.{Value}
use Rattle.ferry_msgpack.specs.Tree.{array, table, items_count, pairs_count}
use Rattle.ferry_msgpack.specs.View.{value_view, items_view, pairs_view}
use Rattle.ferry_msgpack.specs.Shortest.{shortest, shortest_raw, shortest_items, shortest_pairs, array_head, map_head}
use Rattle.ferry_msgpack.specs.Writable.{depth, items_depth, pairs_depth, Fits, ItemsFit, PairsFit}
use Rattle.ferry_msgpack.specs.Calls.Write.{Begins}
use Rattle.ferry_msgpack.proofs.ViewLemmas.{Entry}

pub items_count-items_view : (vs : List Value) → items_count (items_view vs) ≡ length vs
items_count-items_view [] = refl
items_count-items_view (v ∷ vs) = add-one (items_count (items_view vs)) ∙ ap suc (items_count-items_view vs)

pub pairs_count-pairs_view : (es : List Entry) → pairs_count (pairs_view es) ≡ length es
pairs_count-pairs_view [] = refl
pairs_count-pairs_view (e ∷ es) = add-one (pairs_count (pairs_view es)) ∙ ap suc (pairs_count-pairs_view es)

pub items_len : (vs : List Value) → Fits (array (items_view vs)) → length vs < 2 ^ 32
items_len vs fits = subst (λ (n : ℕ). n < 2 ^ 32) (items_count-items_view vs) fits.0

pub pairs_len : (es : List Entry) → Fits (table (pairs_view es)) → length es < 2 ^ 32
pairs_len es fits = subst (λ (n : ℕ). n < 2 ^ 32) (pairs_count-pairs_view es) fits.0

-- ---- each value and each pair fits

pub ItemsFit-at : (vs : List Value) (i : ℕ) (v : Value) → ItemsFit (items_view vs) → i < length vs → Fits (value_view (get_or vs i v))
ItemsFit-at [] i v fits lt = absurd (omega arith)
ItemsFit-at (u ∷ vs) zero v fits lt = fits.0
ItemsFit-at (u ∷ vs) (suc i) v fits lt = ItemsFit-at vs i v fits.1 (omega arith)

pub PairsFit-at : (es : List Entry) (i : ℕ) (e : Entry) → PairsFit (pairs_view es) → i < length es
    → (length (get_or es i e).0.items < 2 ^ 32) × Fits (value_view (get_or es i e).1)
PairsFit-at [] i e fits lt = absurd (omega arith)
PairsFit-at (f ∷ es) zero e fits lt = (fits.0, fits.1)
PairsFit-at (f ∷ es) (suc i) e fits lt = PairsFit-at es i e fits.2 (omega arith)

-- the same of the item that a loop reads
pub item_fits : (vs us : List Value) (i : ℕ) (v : Value) → us ≡ vs → Fits (array (items_view vs)) → i < length us → v ≡ get_or us i v → Fits (value_view v)
item_fits vs us i v same fits lt is =
    subst (λ (u : Value). Fits (value_view u)) (sym is) (ItemsFit-at us i v (subst (λ (ws : List Value). ItemsFit (items_view ws)) (sym same) fits.1) lt)

pub pair_fits : (es fs : List Entry) (i : ℕ) (e : Entry) → fs ≡ es → Fits (table (pairs_view es)) → i < length fs → e ≡ get_or fs i e
    → (length e.0.items < 2 ^ 32) × Fits (value_view e.1)
pair_fits es fs i e same fits lt is =
    subst (λ (f : Entry). (length f.0.items < 2 ^ 32) × Fits (value_view f.1)) (sym is)
    (PairsFit-at fs i e (subst (λ (gs : List Entry). PairsFit (pairs_view gs)) (sym same) fits.2) lt)

-- ---- each value is no deeper than all of them

depth-at : (vs : List Value) (i : ℕ) (v : Value) → i < length vs → depth (value_view (get_or vs i v)) ≤ items_depth (items_view vs)
depth-at [] i v lt = absurd (omega arith)
depth-at (u ∷ vs) zero v lt = omega arith
depth-at (u ∷ vs) (suc i) v lt = let h = depth-at vs i v (omega arith) in omega arith

pair_depth-at : (es : List Entry) (i : ℕ) (e : Entry) → i < length es → depth (value_view (get_or es i e).1) ≤ pairs_depth (pairs_view es)
pair_depth-at [] i e lt = absurd (omega arith)
pair_depth-at (f ∷ es) zero e lt = omega arith
pair_depth-at (f ∷ es) (suc i) e lt = let h = pair_depth-at es i e (omega arith) in omega arith

pub item_depth : (vs us : List Value) (i : ℕ) (v : Value) → us ≡ vs → i < length us → v ≡ get_or us i v → depth (value_view v) ≤ items_depth (items_view vs)
item_depth vs us i v same lt is =
    subst (λ (u : Value). depth (value_view u) ≤ items_depth (items_view vs)) (sym is)
    (subst (λ (ws : List Value). depth (value_view (get_or us i v)) ≤ items_depth (items_view ws)) same (depth-at us i v lt))

pub pair_depth : (es fs : List Entry) (i : ℕ) (e : Entry) → fs ≡ es → i < length fs → e ≡ get_or fs i e → depth (value_view e.1) ≤ pairs_depth (pairs_view es)
pair_depth es fs i e same lt is =
    subst (λ (f : Entry). depth (value_view f.1) ≤ pairs_depth (pairs_view es)) (sym is)
    (subst (λ (gs : List Entry). depth (value_view (get_or fs i e).1) ≤ pairs_depth (pairs_view gs)) same (pair_depth-at fs i e lt))

-- ---- one more value, and one more pair

shortest_items-push : (vs : List Value) (v : Value) → shortest_items (items_view (vs ++ v ∷ [])) ≡ shortest_items (items_view vs) ++ shortest (value_view v)
shortest_items-push [] v = append-nil (shortest (value_view v))
shortest_items-push (u ∷ vs) v =
    ap (λ (s : List ℕ). shortest (value_view u) ++ s) (shortest_items-push vs v)
    ∙ sym (append_assoc (shortest (value_view u)) (shortest_items (items_view vs)) (shortest (value_view v)))

shortest_pairs-push : (es : List Entry) (e : Entry) → shortest_pairs (pairs_view (es ++ e ∷ [])) ≡ shortest_pairs (pairs_view es) ++ (shortest_raw e.0.items
    ++ shortest (value_view e.1))
shortest_pairs-push [] e = ap (λ (s : List ℕ). shortest_raw e.0.items ++ s) (append-nil (shortest (value_view e.1)))
shortest_pairs-push (f ∷ es) e =
    ap (λ (s : List ℕ). shortest_raw f.0.items ++ (shortest (value_view f.1) ++ s)) (shortest_pairs-push es e)
    ∙ ap (λ (s : List ℕ). shortest_raw f.0.items ++ s) (sym (append_assoc (shortest (value_view f.1)) (shortest_pairs (pairs_view es))
    (shortest_raw e.0.items ++ shortest (value_view e.1))))
    ∙ sym (append_assoc (shortest_raw f.0.items) (shortest (value_view f.1) ++ shortest_pairs (pairs_view es))
    (shortest_raw e.0.items ++ shortest (value_view e.1)))

-- what stands after i values: what stood there, the head, and those values
abbrev pub with_items : List ℕ → List Value → ℕ → List ℕ
with_items old vs i = old ++ (array_head (length vs) ++ shortest_items (items_view (take i vs)))

abbrev pub with_pairs : List ℕ → List Entry → ℕ → List ℕ
with_pairs old es i = old ++ (map_head (length es) ++ shortest_pairs (pairs_view (take i es)))

pub with_items-more : (old now : List ℕ) (vs us : List Value) (i : ℕ) (v : Value) → us ≡ vs → i < length us → v ≡ get_or us i v → now ≡ with_items old vs i
    → now ++ shortest (value_view v) ≡ with_items old vs (i + 1)
with_items-more old now vs us i v same below found e =
    let lt : i < length vs = omega (arith, ap length same) in
    let is : v ≡ get_or vs i v = found ∙ ap (λ ws. get_or ws i v) same in
    let h = array_head (length vs) in
    let done = shortest_items (items_view (take i vs)) in
    let last : take (i + 1) vs ≡ take i vs ++ v ∷ [] = take_more vs i v lt ∙ ap (λ u. take i vs ++ u ∷ []) (sym is) in
    ap (λ (s : List ℕ). s ++ shortest (value_view v)) e ∙ append_assoc old (h ++ done) (shortest (value_view v))
    ∙ ap (λ (s : List ℕ). old ++ s) (append_assoc h done (shortest (value_view v)))
    ∙ ap (λ (s : List ℕ). old ++ (h ++ s)) (sym (shortest_items-push (take i vs) v))
    ∙ ap (λ us. old ++ (h ++ shortest_items (items_view us))) (sym last)

pub with_pairs-more : (old now : List ℕ) (es fs : List Entry) (i : ℕ) (e : Entry) → fs ≡ es → i < length fs → e ≡ get_or fs i e → now ≡ with_pairs old es i
    → (now ++ shortest_raw e.0.items) ++ shortest (value_view e.1) ≡ with_pairs old es (i + 1)
with_pairs-more old now es fs i e same below found eq =
    let lt : i < length es = omega (arith, ap length same) in
    let is : e ≡ get_or es i e = found ∙ ap (λ gs. get_or gs i e) same in
    let h = map_head (length es) in
    let done = shortest_pairs (pairs_view (take i es)) in
    let key = shortest_raw e.0.items in
    let value = shortest (value_view e.1) in
    let last : take (i + 1) es ≡ take i es ++ e ∷ [] = take_more es i e lt ∙ ap (λ f. take i es ++ f ∷ []) (sym is) in
    append_assoc now key value ∙ ap (λ (s : List ℕ). s ++ (key ++ value)) eq ∙ append_assoc old (h ++ done) (key ++ value)
    ∙ ap (λ (s : List ℕ). old ++ s) (append_assoc h done (key ++ value))
    ∙ ap (λ (s : List ℕ). old ++ (h ++ s)) (sym (shortest_pairs-push (take i es) e))
    ∙ ap (λ fs. old ++ (h ++ shortest_pairs (pairs_view fs))) (sym last)

-- the same where the key and the value were written one after the other
pub pair_written : (old now keyed new key : List ℕ) (es fs : List Entry) (i : ℕ) (e : Entry) → fs ≡ es → i < length fs → e ≡ get_or fs i e
    → now ≡ with_pairs old es i → key ≡ e.0.items
    → keyed ≡ now ++ shortest_raw key → new ≡ keyed ++ shortest (value_view e.1) → new ≡ with_pairs old es (i + 1)
pair_written old now keyed new key es fs i e same below found eq named put_key put_value =
    put_value ∙ ap (λ (s : List ℕ). s ++ shortest (value_view e.1)) (put_key ∙ ap (λ (k : List ℕ). now ++ shortest_raw k) named)
    ∙ with_pairs-more old now es fs i e same below found eq

pub with_items-all : (old now : List ℕ) (vs us : List Value) (i : ℕ) → us ≡ vs → length us ≤ i → now ≡ with_items old vs i
    → now ≡ old ++ shortest (array (items_view vs))
with_items-all old now vs us i same past e =
    let le : length vs ≤ i = omega (arith, ap length same) in
    e ∙ ap (λ us. old ++ (array_head (length vs) ++ shortest_items (items_view us))) (take_all i vs le)
    ∙ ap (λ n. old ++ (array_head n ++ shortest_items (items_view vs))) (sym (items_count-items_view vs))

pub with_pairs-all : (old now : List ℕ) (es fs : List Entry) (i : ℕ) → fs ≡ es → length fs ≤ i → now ≡ with_pairs old es i
    → now ≡ old ++ shortest (table (pairs_view es))
with_pairs-all old now es fs i same past e =
    let le : length es ≤ i = omega (arith, ap length same) in
    e ∙ ap (λ fs. old ++ (map_head (length es) ++ shortest_pairs (pairs_view fs))) (take_all i es le)
    ∙ ap (λ n. old ++ (map_head n ++ shortest_pairs (pairs_view es))) (sym (pairs_count-pairs_view es))

-- what begins with these bytes and some more begins with these bytes
pub Begins-more : (old now new more : List ℕ) → now ≡ old ++ more → Begins now new → Begins old new
Begins-more old now new more e begins = (more ++ begins.0, begins.1 ∙ ap (λ (s : List ℕ). s ++ begins.0) e ∙ append_assoc old more begins.0)

-- the same where a key was written before its value failed
pub Begins-key : (old now new more key : List ℕ) → now ≡ old ++ more → Begins (now ++ key) new → Begins old new
Begins-key old now new more key e begins = Begins-more old (now ++ key) new (more ++ key) (ap (λ (s : List ℕ). s ++ key) e ∙ append_assoc old more key) begins
