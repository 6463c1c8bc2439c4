use Rattle.std.proofs.Common.{◌≡◌, ℕ, IfSome, arith, subst}
use Rattle.ferry_gen.proofs.source.make_archives.Goals as goal
use Rattle.ferry_gen.specs.Steps.{HasMade}

pub returns-clause-made : goal.returns-clause-made
returns-clause-made g c =
    let e : c.loop-archive.archive ≡ c.args.count = omega (arith, c.loop-archive-test.false, c.loop-archive.auto.archive-end) in
    subst (λ (n : ℕ). IfSome (g.D.Shelf.told c.loop-archive.depot) (λ t. HasMade n c.loop-archive.store t.history)) e c.loop-archive.invariant.made
