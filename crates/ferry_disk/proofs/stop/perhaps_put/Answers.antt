use Rattle.std.proofs.Common.{refl, sym, ◌∙◌, ap, take}
use Rattle.ferry_disk.specs.Acts.{step_of, acts_of}
use Rattle.ferry_disk.specs.Image.{plain_of, plain_stepped}
use Rattle.ferry_disk.proofs.StopLemmas.{plain_more}
use Rattle.ferry_disk.proofs.stop.perhaps_put.Goals as goal

pub loop-i-init : goal.loop-i-init
unfolding plain_of
loop-i-init c = λ file. refl

pub loop-i-preserved : goal.loop-i-preserved
loop-i-preserved c = λ file.
    let acts = c.args.moment.now in
    let name = c.args.name in
    let act = c.index-moment-i.result in
    let fate = plain_of file (acts_of (take c.loop-i.i acts)) name in
    c.perhaps_after-perhaps.ensures fate.read
    ∙ (ap (λ o. (plain_stepped name (step_of act.kind) act.done (record { read = fate.read; perhaps = o })).perhaps) (c.loop-i.invariant file)
    ∙ ap (λ f. f.perhaps) (sym (plain_more file acts name c.loop-i.i act c.loop-i-test.true c.index-moment-i.is)))
