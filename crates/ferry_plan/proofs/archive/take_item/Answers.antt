use Rattle.std.proofs.Common.{◌≤◌, ◌++◌, subst, arith}
use Rattle.ferry_carry.proofs.CopyLemmas.{copied_packable}
use Rattle.ferry_carry.specs.Listing.{FillsOn}
use Rattle.ferry_piece.specs.Puts.{contents_in}
use Rattle.ferry_item.specs.Item.{item_view}
use Rattle.ferry_item.specs.Writing.{item_text}
use Rattle.ferry_plan.proofs.StepLemmas.{item_takes}
use Rattle.ferry_plan.proofs.TallyLemmas.{tallies_then}
use Rattle.ferry_plan.proofs.archive.take_item.Goals as goal
use Rattle.ferry_plan.specs.declared.pieces.Pieces.{Pieces}
use Rattle.ferry_repo.specs.Opening.{repo_view}

pub take_spelling-requires-clause-packable : goal.take_spelling-requires-clause-packable
take_spelling-requires-clause-packable g c =
    let took = c.in_ok-copied.ensures.taken in
    let ready = c.requires.ready in
    let least : 1 ≤ c.args.tally.now.block = omega (arith, ready.least) in
    copied_packable (g.S.Shelf.told c.args.shelf.now) (repo_view c.args.source.now) c.args.tally.now.block (repo_view c.args.target.now).keys
    (item_view c.args.item) c.in_ok-copied.copied (contents_in took.0) least ready.most c.requires.packable took.1.1.1

pub returns-clause-taken : goal.returns-clause-taken
returns-clause-taken g c =
    let took = c.in_ok-copied.ensures.taken in
    let spelled = c.in_ok-take_spelling.ensures.taken in
    let target = repo_view c.args.target.now in
    let tally = c.args.tally.now in
    let middle = c.take_chunks.new.tally in
    let now = c.take_spelling.new.tally in
    let item = item_view c.args.item in
    let copied = c.in_ok-copied.copied in (
      took.0 ++ spelled.0,
      (
        tallies_then target.keys target.log tally middle now took.0 spelled.0 took.1.0 spelled.1.0,
        item_takes (g.S.Shelf.told c.args.shelf.now) (repo_view c.args.source.now) tally.block target.keys item copied took.0 spelled.0
            tally.stream.cutter.piece now.stream.cutter.piece c.in_ok-copied.ensures.short took.1.1.0 took.1.1.1
            (subst (λ (stream : Pieces). FillsOn stream.cutter.piece (item_text (record { fields = item.fields; chunks = copied })) spelled.0
            now.stream.cutter.piece) c.in_ok-copied.ensures.stream spelled.1.1),
      ),
    )
