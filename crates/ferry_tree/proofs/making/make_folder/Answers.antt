use Rattle.std.proofs.Common.{◌≡◌, is_some, option_map, false, refl, sym, ◌∙◌, subst}
use Rattle.ferry_tree.specs.Growth.{Holds, with_folder}
use Rattle.ferry_tree.specs.Index.{known_in}
use Rattle.ferry_tree.specs.Nodes.{Planted, folder_node, with_node}
use Rattle.ferry_tree.specs.declared.known.Mark.TheVariants as Marks
use Rattle.ferry_tree.proofs.GrowthLemmas.{holds_more, folder_new, known_is}
use Rattle.ferry_tree.proofs.MemoryLemmas.{on_ok}
use Rattle.ferry_tree.proofs.making.make_folder.Goals as goal

pub returns-clause-made : goal.returns-clause-made
returns-clause-made g c before holds =
    let path = c.args.path.now in
    let index = c.args.known.now in
    let told = g.T.Tree.told c.args.tree.now in
    let now = g.T.Tree.told c.folder.new.self in
    let new : is_some (known_in index path) ≡ false =
    known_is (λ m. m.now) c.at.result (known_in index path) false c.at.ensures.mark (sym c.is_some.ensures ∙ c.if-is_some.false)
    in
    on_ok c.folder.result (now ≡ option_map (λ t. with_node path folder_node t) told) (Holds now c.put.new.self (with_folder path before))
    (λ e. subst (λ (t : Planted). Holds now c.put.new.self t) (sym (folder_new index before path holds.knows new))
    (holds_more told now index c.put.new.self before path folder_node Marks.Folder holds refl c.in_ok-put.ensures.put e)) c.folder.ensures.ok
