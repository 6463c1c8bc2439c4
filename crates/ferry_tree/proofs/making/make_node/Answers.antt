use Rattle.std.proofs.Common.{◌≡◌, [], option_map, refl, sym, ◌∙◌, ap, subst}
use Rattle.ferry_tree.specs.Growth.{Holds}
use Rattle.ferry_tree.specs.Making.{Refers}
use Rattle.ferry_tree.specs.Nodes.{NodeText, node_view, folder_node, file_node, link_node, same_node, with_node}
use Rattle.ferry_tree.specs.declared.known.Mark.TheVariants as Marks
use Rattle.ferry_tree.proofs.GrowthLemmas.{holds_more}
use Rattle.ferry_tree.proofs.MemoryLemmas.{on_ok}
use Rattle.ferry_tree.proofs.making.make_node.Goals as goal

pub returns-in_ok-put-in-Folder-clause-made : goal.returns-in_ok-put-in-Folder-clause-made
returns-in_ok-put-in-Folder-clause-made g c before holds =
    let path = c.args.path.now in
    let told = g.T.Tree.told c.args.tree.now in
    let now = g.T.Tree.told c.folder.new.self in
    let is : node_view c.args.node.now ≡ folder_node = ap node_view c.in-Folder.is in
    on_ok c.folder.result (now ≡ option_map (λ t. with_node path folder_node t) told)
    (Holds now c.put.new.self (with_node path (node_view c.args.node.now) before))
    (λ e. subst (λ (n : NodeText). Holds now c.put.new.self (with_node path n before)) (sym is)
    (holds_more told now c.args.known.now c.put.new.self before path folder_node Marks.Folder holds refl c.in_ok-put-in-Folder.ensures.put e))
    c.folder.ensures.ok

pub returns-in_ok-put-in-File-clause-made : goal.returns-in_ok-put-in-File-clause-made
returns-in_ok-put-in-File-clause-made g c before holds =
    let path = c.args.path.now in
    let told = g.T.Tree.told c.args.tree.now in
    let now = g.T.Tree.told c.file.new.self in
    let empty : c.in-File.field-0.items ≡ [] =
    subst (λ (n : NodeText). Refers c.requires.holds.0 n) (ap node_view c.in-File.is) c.requires.holds.1.1.refers
    in
    let is : node_view c.args.node.now ≡ file_node [] = ap node_view c.in-File.is ∙ ap file_node empty in
    on_ok c.file.result (now ≡ option_map (λ t. with_node path (file_node []) t) told)
    (Holds now c.put-in-File.new.self (with_node path (node_view c.args.node.now) before))
    (λ e. subst (λ (n : NodeText). Holds now c.put-in-File.new.self (with_node path n before)) (sym is)
    (holds_more told now c.args.known.now c.put-in-File.new.self before path (file_node []) Marks.File holds refl c.in_ok-put-in-File.ensures.put e))
    c.file.ensures.ok

pub returns-in_ok-put-in-Link-clause-made : goal.returns-in_ok-put-in-Link-clause-made
returns-in_ok-put-in-Link-clause-made g c before holds =
    let path = c.args.path.now in
    let told = g.T.Tree.told c.args.tree.now in
    let now = g.T.Tree.told c.symlink.new.self in
    let target = c.deref.result.now in
    let is : node_view c.args.node.now ≡ link_node target = ap node_view c.in-Link.is ∙ ap link_node (sym c.deref.ensures.value) in
    on_ok c.symlink.result (now ≡ option_map (λ t. with_node path (link_node target) t) told)
    (Holds now c.put-in-Link.new.self (with_node path (node_view c.args.node.now) before))
    (λ e. subst (λ (n : NodeText). Holds now c.put-in-Link.new.self (with_node path n before)) (sym is)
    (holds_more told now c.args.known.now c.put-in-Link.new.self before path (link_node target) Marks.Link holds refl c.in_ok-put-in-Link.ensures.put e))
    c.symlink.ensures.ok

pub returns-in_ok-put-in-Same-clause-made : goal.returns-in_ok-put-in-Same-clause-made
returns-in_ok-put-in-Same-clause-made g c before holds =
    let path = c.args.path.now in
    let told = g.T.Tree.told c.args.tree.now in
    let now = g.T.Tree.told c.same.new.self in
    let first = c.deref-in-Same-2.result.now in
    let is : node_view c.args.node.now ≡ same_node first = ap node_view c.in-Same.is ∙ ap same_node (sym c.deref-in-Same-2.ensures.value) in
    let mark : Marks.Same c.new-copy.result ≡ Marks.Same first =
    ap Marks.Same (c.new-copy.ensures ∙ c.in_ok-from_slice-in-Same.ensures.items ∙ c.deref-in-Same.ensures.value ∙ sym c.deref-in-Same-2.ensures.value)
    in
    on_ok c.same.result (now ≡ option_map (λ t. with_node path (same_node first) t) told)
    (Holds now c.put-in-Same.new.self (with_node path (node_view c.args.node.now) before))
    (λ e. subst (λ (n : NodeText). Holds now c.put-in-Same.new.self (with_node path n before)) (sym is)
    (holds_more told now c.args.known.now c.put-in-Same.new.self before path (same_node first) (Marks.Same c.new-copy.result) holds mark
    c.in_ok-put-in-Same.ensures.put e))
    c.same.ensures.ok
