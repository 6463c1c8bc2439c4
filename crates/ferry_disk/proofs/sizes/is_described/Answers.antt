use Rattle.std.proofs.Common.{sym, ◌∙◌, subst, take, ◌↔◌, IsTrue}
use Rattle.ferry_disk.specs.Acts.{acts_of}
use Rattle.ferry_disk.specs.Memory.{files_of}
use Rattle.ferry_disk.specs.Sizes.{cut_acts, AllowsTails}
use Rattle.ferry_disk.proofs.AllowLemmas.{unsettled_described, allowed_described}
use Rattle.ferry_disk.proofs.sizes.is_described.Goals as goal

pub returns-then-not-is_settled : goal.returns-then-not-is_settled
returns-then-not-is_settled c = λ past.
    unsettled_described c.args.choice.now (files_of c.args.start.now) past c.args.acts.now c.if-choice-acts.false
    (sym c.is_settled.ensures ∙ c.if-not-is_settled.true)

pub returns : goal.returns
returns c = λ past.
    let choice = c.args.choice.now in
    let start = files_of c.args.start.now in
    let kept = cut_acts choice.cut (acts_of (take choice.acts c.args.acts.now)) in
    allowed_described choice start past c.args.acts.now c.allows_tails.result c.if-choice-acts.false (sym c.is_settled.ensures ∙ c.if-not-is_settled.false)
    (subst (λ tails. IsTrue c.allows_tails.result ↔ AllowsTails start kept tails) c.deref.ensures.value c.allows_tails.ensures)
