-- Lemmas on specs/Nodes.antt.
use Rattle.std.proofs.Common.{◌≡◌, ℕ, List, [], ◌∷◌, ◌++◌, Option, Some, None, if◌then◌else◌, refl, sym, ◌∙◌, ap}
use Rattle.std.proofs.lemmas.List.{append-nil}
use Rattle.std.specs.Str.{bytes_eq}
use Rattle.ferry_tree.specs.Nodes.{NodeText, folder_node, file_node, link_node, same_node, Placed, later_node, node_at, longer, write_last}

-- ---- node_at

pub node_at-none : (path : List ℕ) → node_at path [] ≡ None
unfolding node_at
node_at-none path = refl

pub node_at-first : (path : List ℕ) (p : Placed) (ps : List Placed)
    → node_at path (p ∷ ps) ≡ later_node (if bytes_eq p.path path then Some p.node else None) (node_at path ps)
unfolding node_at
node_at-first path p ps = refl

later_last : (a b c : Option NodeText) → later_node a (later_node b c) ≡ later_node (later_node a b) c
later_last a b None = refl
later_last a b (Some n) = refl

later_none : (a : Option NodeText) → later_node None a ≡ a
later_none None = refl
later_none (Some n) = refl

-- behind one node more its path has that, and each other path has what it had
pub node_at-last : (path : List ℕ) (ps : List Placed) (p : Placed)
    → node_at path (ps ++ (p ∷ [])) ≡ later_node (node_at path ps) (if bytes_eq p.path path then Some p.node else None)
node_at-last path [] p =
    node_at-first path p [] ∙ ap (later_node (if bytes_eq p.path path then Some p.node else None)) (node_at-none path)
    ∙ sym (ap (λ a. later_node a (if bytes_eq p.path path then Some p.node else None)) (node_at-none path) ∙ later_none _)
node_at-last path (q ∷ ps) p =
    node_at-first path q (ps ++ (p ∷ [])) ∙ ap (later_node (if bytes_eq q.path path then Some q.node else None)) (node_at-last path ps p)
    ∙ later_last (if bytes_eq q.path path then Some q.node else None) (node_at path ps) (if bytes_eq p.path path then Some p.node else None)
    ∙ ap (λ a. later_node a (if bytes_eq p.path path then Some p.node else None)) (sym (node_at-first path q ps))

-- ---- write_last

longer_none : (node : NodeText) → longer [] node ≡ node
longer_none folder_node = refl
longer_none (file_node content) = ap file_node (append-nil content)
longer_none (link_node target) = refl
longer_none (same_node first) = refl

same_placed : (p : Placed) (node : NodeText) → node ≡ p.node → record { path = p.path; node = node } ≡ p
same_placed p node e = ap (λ n. record { path = p.path; node = n }) e

pub write_last-none : (ps : List Placed) → write_last [] ps ≡ ps
unfolding write_last
write_last-none [] = refl
write_last-none (p ∷ []) = ap (λ q. q ∷ []) (same_placed p (longer [] p.node) (longer_none p.node))
write_last-none (p ∷ q ∷ ps) = ap (λ rest. p ∷ rest) (write_last-none (q ∷ ps))
