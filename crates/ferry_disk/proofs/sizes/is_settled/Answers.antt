use Rattle.std.proofs.Common.{sym, ◌∙◌, ap, ◌-◌, length}
use Rattle.ferry_disk.specs.Acts.{acts_of}
use Rattle.ferry_disk.specs.Image.{settled}
use Rattle.ferry_disk.specs.Sizes.{cut_acts}
use Rattle.ferry_disk.proofs.SizesLemmas.{settled_cut, not_empty}
use Rattle.ferry_disk.proofs.sizes.is_settled.Goals as goal

pub returns : goal.returns
returns c =
    let acts = c.args.acts.now in
    c.any_settle-2.ensures
    ∙ (settled_cut acts (length acts - 1) (not_empty (length acts) c.if-is_empty.ensures)
    ∙ ap (λ b. settled (cut_acts b (acts_of acts))) (sym c.if-not-cut.false))
