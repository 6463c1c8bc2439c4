use Rattle.std.proofs.Common.{[], List, Option, None, refl, sym, subst}
use Rattle.ferry_carry.specs.Copying.{CopiesContent}
use Rattle.ferry_item.specs.declared.item.ChunkRef.{ChunkRef}
use Rattle.ferry_plan.proofs.TallyLemmas.{tallies_none}
use Rattle.ferry_plan.proofs.contents.take_chunks.Goals as goal
use Rattle.ferry_repo.specs.Opening.{repo_view}

pub returns-in-None-clause-taken : goal.returns-in-None-clause-taken
returns-in-None-clause-taken g c =
    let target = repo_view c.args.target.now in
    let tally = c.args.tally.now in
    let told = g.S.Shelf.told c.args.shelf.now in
    let source = repo_view c.args.source.now in (
      [],
      (
        tallies_none target.keys target.log tally,
        (
          tt,
          subst (λ (chunks : Option (List ChunkRef)). CopiesContent told source tally.block target.keys chunks [] None) (sym c.in-None.is) refl,
        ),
      ),
    )
