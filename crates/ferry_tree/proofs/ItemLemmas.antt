-- Lemmas on specs/Restoring.antt: one item, from its place to its content.
use Rattle.std.proofs.Common.{◌≡◌, inr, ℕ, Bool, true, false, List, [], ◌∷◌, Option, Some, None, IfSome, option_map, refl, sym, ◌∙◌, ap, subst, if◌then◌else◌}
use Rattle.std.specs.Str.{bytes_eq}
use Rattle.ferry_disk.specs.Device.{Told}
use Rattle.ferry_disk.specs.Files.{Files}
use Rattle.ferry_item.specs.Item.{ItemText}
use Rattle.ferry_repo.specs.Opening.{RepoState}
use Rattle.ferry_tree.specs.Faults.{stop_fault}
use Rattle.ferry_tree.specs.Filling.{appended, FillsAll, FillsPart, RefusesFilling}
use Rattle.ferry_tree.specs.Growth.{Grown, Holds, IsPlaced, counted_as, filled, outcome_in, placed_at, takes_content, with_content, with_contents}
use Rattle.ferry_tree.specs.Nodes.{NodeText, folder_node, file_node, link_node, same_node, Placed as Node, Planted, later_node, longer, node_at, write_last}
use Rattle.ferry_tree.specs.Placing.{IsStopped, Placed}
use Rattle.ferry_tree.specs.Planning.{known, mark_of}
use Rattle.ferry_tree.specs.Restoring.{RestoresItem, PartOfItem, RefusesItem}
use Rattle.ferry_tree.specs.Shapes.{chunks_of, shape_of}
use Rattle.ferry_tree.specs.declared.fault.RestoreFault.{RestoreFault}
use Rattle.ferry_tree.specs.declared.fault.RestoreFault.TheVariants as Faults
use Rattle.ferry_tree.specs.declared.known.Index.{Index}
use Rattle.ferry_tree.specs.declared.placing.Counts.{Counts}
use Rattle.ferry_tree.specs.declared.placing.Stop.{Stop}
use Rattle.ferry_tree.specs.declared.placing.Stop.TheVariants as Stops
use Rattle.ferry_tree.proofs.NodeLemmas.{node_at-first, node_at-none}

-- ---- more bytes leave what is known

same_mark : (bytes : List ℕ) (node : NodeText) → mark_of (longer bytes node) ≡ mark_of node
same_mark bytes folder_node = refl
same_mark bytes (file_node content) = refl
same_mark bytes (link_node target) = refl
same_mark bytes (same_node first) = refl

later_same : (a b c : Option NodeText) → option_map mark_of b ≡ option_map mark_of c → option_map mark_of (later_node a b) ≡ option_map mark_of (later_node a c)
later_same a None None e = refl
later_same a None (Some c) e = absurd (let no : ⊥ = cc in no)
later_same a (Some b) None e = absurd (let no : ⊥ = cc in no)
later_same a (Some b) (Some c) e = e

first_same : (bytes : List ℕ) (node : NodeText) (b : Bool)
    → option_map mark_of (later_node (if b then Some (longer bytes node) else None) None) ≡ option_map mark_of (later_node (if b then Some node else None) None)
first_same bytes node true = ap Some (same_mark bytes node)
first_same bytes node false = refl

last_known : (bytes : List ℕ) (p : Node) (q : List ℕ)
    → known (record { path = p.path; node = longer bytes p.node } ∷ []) q ≡ known (p ∷ []) q
last_known bytes p q =
    ap (option_map mark_of) (node_at-first q (record { path = p.path; node = longer bytes p.node }) []
    ∙ ap (later_node (if bytes_eq p.path q then Some (longer bytes p.node) else None)) (node_at-none q))
    ∙ first_same bytes p.node (bytes_eq p.path q)
    ∙ sym (ap (option_map mark_of) (node_at-first q p [] ∙ ap (later_node (if bytes_eq p.path q then Some p.node else None)) (node_at-none q)))

more_known : (p : Node) (ps qs : List Node) (q : List ℕ) → known ps q ≡ known qs q → known (p ∷ ps) q ≡ known (p ∷ qs) q
more_known p ps qs q e =
    ap (option_map mark_of) (node_at-first q p ps)
    ∙ later_same (if bytes_eq p.path q then Some p.node else None) (node_at q ps) (node_at q qs) e
    ∙ sym (ap (option_map mark_of) (node_at-first q p qs))

pub written_known : (bytes : List ℕ) (ps : List Node) (q : List ℕ) → known (write_last bytes ps) q ≡ known ps q
unfolding write_last
written_known bytes [] q = refl
written_known bytes (p ∷ []) q = last_known bytes p q
written_known bytes (p ∷ r ∷ ps) q = more_known p (write_last bytes (r ∷ ps)) (r ∷ ps) q (written_known bytes (r ∷ ps) q)

contents_known : (contents : List (List ℕ)) (tree : Planted) (q : List ℕ) → known (with_contents contents tree).nodes q ≡ known tree.nodes q
contents_known [] tree q = refl
contents_known (c ∷ cs) tree q = contents_known cs (with_content c tree) q ∙ written_known c tree.nodes q

filled_known : (takes : Bool) (contents : List (List ℕ)) (tree : Planted) (q : List ℕ) → known (filled takes contents tree).nodes q ≡ known tree.nodes q
filled_known true contents tree q = contents_known contents tree q
filled_known false contents tree q = refl

-- ---- an item

tells_filled : (middle after : Option Planted) (takes : Bool) (contents : List (List ℕ)) (placed : Planted)
    → after ≡ option_map (λ t. filled takes contents t) middle → IfSome middle (λ t. t ≡ placed) → IfSome after (λ t. t ≡ filled takes contents placed)
tells_filled None after takes contents placed e tells = subst (λ (o : Option Planted). IfSome o (λ t. t ≡ filled takes contents placed)) (sym e) tt
tells_filled (Some t) after takes contents placed e tells =
    subst (λ (o : Option Planted). IfSome o (λ u. u ≡ filled takes contents placed)) (sym e) (ap (filled takes contents) tells)

holds_filled : (middle after : Option Planted) (index : Index) (takes is : Bool) (contents : List (List ℕ)) (placed : Planted) → takes ≡ is
    → after ≡ option_map (λ t. filled takes contents t) middle → Holds middle index placed → Holds after index (filled is contents placed)
holds_filled middle after index takes is contents placed same e holds = subst (λ (b : Bool). Holds after index (filled b contents placed)) same (record {
  tells = tells_filled middle after takes contents placed e holds.tells;
  knows = λ q. holds.knows q ∙ sym (filled_known takes contents placed q);
})

-- an item that has its place and all its contents
pub item_restored : (told : Option Told) (repo : RepoState) (item : ItemText) (before : Grown) (counts after_counts : Counts) (takes : Bool)
    (middle after : Option Planted) (index : Index) → counts ≡ before.counts
    → Placed (outcome_in before (shape_of item)) (shape_of item).path before.tree counts takes middle index after_counts
    → FillsAll told repo (chunks_of item) takes middle after → RestoresItem told repo item before after index after_counts
item_restored told repo item before counts after_counts takes middle after index counts_are placed fills = record {
  contents = fills.contents;
  come = fills.come;
  place = placed.place;
  stands = record {
    holds = holds_filled middle after index takes (takes_content (outcome_in before (shape_of item))) fills.contents
        (placed_at (shape_of item).path (outcome_in before (shape_of item)) before.tree) placed.takes_is fills.after_is placed.holds;
    counts_are = placed.counts_are ∙ ap (counted_as (outcome_in before (shape_of item))) counts_are;
  };
}

some_same : (a b : List Node) → Some a ≡ Some b → a ≡ b
some_same a b e = cc

part_nodes : (middle after : Option Planted) (takes is : Bool) (front : List ℕ) (placed : Planted) → takes ≡ is
    → option_map (λ t. t.nodes) after ≡ option_map (λ t. appended takes front t.nodes) middle → IfSome middle (λ t. t ≡ placed)
    → IfSome after (λ t. t.nodes ≡ appended is front placed.nodes)
part_nodes middle None takes is front placed same e tells = tt
part_nodes None (Some a) takes is front placed same e tells = absurd (let no : ⊥ = cc in no)
part_nodes (Some m) (Some a) takes is front placed same e tells =
    let here : a.nodes ≡ appended takes front m.nodes = some_same a.nodes (appended takes front m.nodes) e in
    here ∙ ap (λ (t : Planted). appended takes front t.nodes) tells ∙ ap (λ (b : Bool). appended b front placed.nodes) same

-- an item that has its place and some of its contents
pub item_part : (told : Option Told) (repo : RepoState) (item : ItemText) (before : Grown) (counts after_counts : Counts) (takes : Bool)
    (middle after : Option Planted) (index : Index)
    → Placed (outcome_in before (shape_of item)) (shape_of item).path before.tree counts takes middle index after_counts
    → FillsPart told repo (chunks_of item) takes middle after → PartOfItem told repo item before after
item_part told repo item before counts after_counts takes middle after index placed fills = inr (record {
  count = fills.count;
  contents = fills.contents;
  come = fills.come;
  front = fills.part.front;
  rest = fills.part.rest;
  split = fills.part.split;
  nodes = part_nodes middle after takes (takes_content (outcome_in before (shape_of item))) fills.part.front
      (placed_at (shape_of item).path (outcome_in before (shape_of item)) before.tree) placed.takes_is fills.part.nodes placed.holds.tells;
})

-- an item that got no place
pub stop_refuses : (files : Files) (repo : RepoState) (item : ItemText) (before : Grown) (path : List ℕ) (stop : Stop) → path ≡ (shape_of item).path
    → IsStopped stop (outcome_in before (shape_of item)) → RefusesItem files repo item before (stop_fault path stop)
stop_refuses files repo item before path (Stops.Place fault) same stopped = (same, stopped)
stop_refuses files repo item before path Stops.Tree same stopped = tt
stop_refuses files repo item before path Stops.Memory same stopped = tt

-- an item whose contents don't all come
pub filling_refuses : (files : Files) (repo : RepoState) (item : ItemText) (before : Grown) (fault : RestoreFault)
    → IsPlaced (outcome_in before (shape_of item)) → RefusesFilling files repo (chunks_of item) fault → RefusesItem files repo item before fault
filling_refuses files repo item before (Faults.Source fault) place refuses = λ of_files. (place, refuses of_files)
filling_refuses files repo item before (Faults.Place path fault) place refuses = absurd refuses
filling_refuses files repo item before Faults.NotFound place refuses = absurd refuses
filling_refuses files repo item before Faults.NotEmpty place refuses = absurd refuses
filling_refuses files repo item before Faults.Tree place refuses = tt
filling_refuses files repo item before Faults.Memory place refuses = tt
