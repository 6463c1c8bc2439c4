use Rattle.std.proofs.Common.{sym, refl, subst, arith, None}
use Rattle.ferry_disk.specs.Acts.{acts_of}
use Rattle.ferry_disk.specs.Memory.{files_of}
use Rattle.ferry_disk.specs.Sizes.{cut_acts, AllowsAt}
use Rattle.ferry_disk.proofs.SizesLemmas.{found_at}
use Rattle.ferry_disk.proofs.sizes.allows_tails.Goals as goal

pub returns : goal.returns
returns c =
    let start = files_of c.args.start.now in
    let moment = cut_acts c.args.cut (acts_of c.args.acts.now) in
    let tails = c.args.tails.now in (
      (λ t segment tail e.
          let at = found_at tails segment tail (0, None) e in
          subst (AllowsAt start moment tails) (sym at.2) (c.loop-i.invariant at.0 (omega (arith, at.1))) tail e),
      (λ all. refl),
    )
