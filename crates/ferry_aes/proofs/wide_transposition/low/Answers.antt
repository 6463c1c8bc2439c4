use Rattle.std.proofs.Common.{ap, ◌∙◌, ◌==◌, if◌then◌else◌}
use Rattle.std.specs.Int.{bit_at}
use Rattle.ferry_aes.specs.Planes.{wire}
use Rattle.ferry_aes.proofs.wide_transposition.low.Goals as goal

pub returns : goal.returns
returns c j i lane bit =
    c.chosen.ensures j i lane bit ∙ ap (λ x. if bit_at c.args.mask i == 1 then wire c.args.a j i else x) (c.raised-others.ensures j i lane bit)
