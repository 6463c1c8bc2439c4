-- Lemmas on specs/Memory.antt: what is found among nodes, and what is written to the last of them.
use Rattle.std.proofs.Common.{◌≡◌, ◌<◌, ◌≤◌, ◌+◌, ◌-◌, ℕ, zero, suc, Bool, true, false, List, [], ◌∷◌, ◌++◌, length, take, get_or, refl, sym, ◌∙◌, ap}
use Rattle.std.proofs.Common.{slice_set, arith}
use Rattle.std.proofs.Common.{Some, None, Result, Ok, Err, IfOk, IfErr, OnOk, OnErr, if◌then◌else◌}
use Rattle.std.proofs.lemmas.List.{take_more, map-append}
use Rattle.std.specs.Str.{bytes_eq}
use Rattle.ferry_tree.specs.Memory.{placed, placed_in}
use Rattle.ferry_tree.specs.Nodes.{Placed, Planted, later_node, node_at, longer, node_view, write_last, with_bytes, Appends, LeavesHole}
use Rattle.ferry_tree.specs.declared.memory.Entry.{Entry}
use Rattle.ferry_tree.proofs.NodeLemmas.{node_at-last, write_last-none}

-- ---- answers

pub on_ok : {T E : Type 0} (r : Result T E) (P Q : Type 0) → (P → Q) → OnOk r P → OnOk r Q
on_ok (Ok v) P Q step p = step p
on_ok (Err e) P Q step p = p

pub on_err : {T E : Type 0} (r : Result T E) (P Q : Type 0) → (P → Q) → OnErr r P → OnErr r Q
on_err (Ok v) P Q step p = p
on_err (Err e) P Q step p = step p

pub if_ok : {T E : Type 0} (r : Result T E) (P Q : T → Type 0) → ((v : T) → P v → Q v) → IfOk r P → IfOk r Q
if_ok (Ok v) P Q step p = step v p
if_ok (Err e) P Q step p = tt

pub if_err : {T E : Type 0} (r : Result T E) (P Q : E → Type 0) → ((e : E) → P e → Q e) → IfErr r P → IfErr r Q
if_err (Ok v) P Q step p = tt
if_err (Err e) P Q step p = step e p

pub always_err : {T E : Type 0} (r : Result T E) (P : Type 0) → P → OnErr r P
always_err (Ok v) P p = tt
always_err (Err e) P p = p

-- ---- what is found

found_at : (path : List ℕ) (nodes : List Entry) (n m : ℕ) (e : Entry) → m ≡ n + 1 → n < length nodes → e ≡ get_or nodes n e
    → node_at path (placed_in (take m nodes))
    ≡ later_node (node_at path (placed_in (take n nodes))) (if bytes_eq e.path.items path then Some (node_view e.node) else None)
found_at path nodes n m e next lt is =
    let more : take m nodes ≡ take n nodes ++ (e ∷ []) =
    ap (λ k. take k nodes) next ∙ take_more nodes n e lt ∙ ap (λ x. take n nodes ++ (x ∷ [])) (sym is)
    in
    ap (λ es. node_at path (placed_in es)) more ∙ ap (node_at path) (map-append placed (take n nodes) (e ∷ []))
    ∙ node_at-last path (placed_in (take n nodes)) (placed e)

pub found_here : (path : List ℕ) (nodes : List Entry) (n m : ℕ) (e : Entry) → m ≡ n + 1 → n < length nodes → e ≡ get_or nodes n e
    → bytes_eq e.path.items path ≡ true → node_at path (placed_in (take m nodes)) ≡ Some (node_view e.node)
found_here path nodes n m e next lt is same =
    found_at path nodes n m e next lt is
    ∙ ap (λ (b : Bool). later_node (node_at path (placed_in (take n nodes))) (if b then Some (node_view e.node) else None)) same

pub found_other : (path : List ℕ) (nodes : List Entry) (n m : ℕ) (e : Entry) → m ≡ n + 1 → n < length nodes → e ≡ get_or nodes n e
    → bytes_eq e.path.items path ≡ false → node_at path (placed_in (take m nodes)) ≡ node_at path (placed_in (take n nodes))
found_other path nodes n m e next lt is other =
    found_at path nodes n m e next lt is
    ∙ ap (λ (b : Bool). later_node (node_at path (placed_in (take n nodes))) (if b then Some (node_view e.node) else None)) other

-- ---- what is written

last_set : (bytes : List ℕ) (nodes : List Entry) (new d : Entry) (n : ℕ) → length nodes ≡ suc n
    → placed new ≡ record { path = (get_or nodes n d).path.items; node = longer bytes (node_view (get_or nodes n d).node) }
    → placed_in (slice_set nodes n new) ≡ write_last bytes (placed_in nodes)
unfolding write_last
last_set bytes [] new d n has is = absurd (let no : ⊥ = omega arith in no)
last_set bytes (e ∷ []) new d zero has is = ap (λ (p : Placed). p ∷ []) is
last_set bytes (e ∷ []) new d (suc n) has is = absurd (let no : ⊥ = omega arith in no)
last_set bytes (e ∷ f ∷ es) new d zero has is = absurd (let no : ⊥ = omega arith in no)
last_set bytes (e ∷ f ∷ es) new d (suc n) has is =
    ap (λ (ps : List Placed). placed e ∷ ps) (last_set bytes (f ∷ es) new d n (omega arith) is)

-- the node that is set in the place of the last is the last with more bytes
pub last_written : (bytes : List ℕ) (nodes : List Entry) (last new : Entry) → 0 < length nodes → last ≡ get_or nodes (length nodes - 1) last
    → placed new ≡ record { path = last.path.items; node = longer bytes (node_view last.node) }
    → placed_in (slice_set nodes (length nodes - 1) new) ≡ write_last bytes (placed_in nodes)
last_written bytes nodes last new some is new_is =
    last_set bytes nodes new last (length nodes - 1) (omega arith)
    (new_is ∙ ap (λ (e : Entry). record { path = e.path.items; node = longer bytes (node_view e.node) }) is)

pub none_written : (bytes : List ℕ) (nodes : List Entry) → length nodes ≤ 0 → placed_in nodes ≡ write_last bytes (placed_in nodes)
unfolding write_last
none_written bytes [] none = refl
none_written bytes (e ∷ es) none = absurd (let no : ⊥ = omega arith in no)

-- ---- where nothing was written

bare_write : (tree : Planted) → with_bytes [] tree ≡ tree
bare_write tree = ap (λ ps. record { nodes = ps; holes = tree.holes }) (write_last-none tree.nodes)

pub appends_none : (bytes : List ℕ) (before after : Planted) → after ≡ before → Appends bytes (Some before) (Some after)
appends_none bytes before after same = record { front = 0; after_is = ap Some (same ∙ sym (bare_write before)) }

no_more : (n : ℕ) → n ≡ n + 0
no_more n = omega arith

pub leaves_none : (zeros : ℕ) (before after : Planted) → after ≡ before → LeavesHole zeros (Some before) (Some after)
leaves_none most before after same = record {
  count = 0;
  within = omega arith;
  after_is = ap Some (same ∙ sym (bare_write before) ∙ ap (λ h. record { nodes = write_last [] before.nodes; holes = h }) (no_more before.holes));
}
