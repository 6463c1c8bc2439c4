use Rattle.std.proofs.Common.{rules, ◌≡◌, ◌≤◌, ◌+◌, ◌/◌, ◌^◌, length, min, slice_index, ap, ◌∙◌, arith}
use Rattle.sha2.specs.Sha256.{hash_after}
use Rattle.ferry_mac.specs.Lanes.{behind_key}
use Rattle.ferry_mac.specs.Many.{text_of}
use Rattle.ferry_mac.proofs.many.finished.Goals as goal

pub returns : goal.returns
returns g c start l inside held =
    let lanes = c.args.lanes.now in
    let text = text_of c.args.texts.now lanes l in
    let all : slice_index lanes.done l + min c.most.result (slice_index lanes.lefts l) ≡ length (behind_key text) / 64 =
    omega (arith, c.most.ensures.each l inside, (c.requires.lanes l inside).count) in
    c.run_out.ensures start l inside held ∙ ap (hash_after start (behind_key text)) all

pub run_out-requires : goal.run_out-requires
run_out-requires g c =
    let few : c.most.result ≤ 2 ^ 60 = c.most.ensures.least (2 ^ 60) (λ l inside. omega (arith, (c.requires.lanes l inside).fits)) in
    search (rules, few)
