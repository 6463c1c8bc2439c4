use Rattle.std.proofs.Common.{◌≡◌, ◌*◌, [], drop, take, refl, ◌∙◌, arith}
use Rattle.std.proofs.lemmas.List.{append-nil, drop_all, take_all}
use Rattle.ferry_aes.specs.CounterMode.{ctr}
use Rattle.ferry_blob.proofs.StreamLemmas.{piece_more}
use Rattle.ferry_blob.proofs.stream.add_key_stream.Goals as goal

pub loop-number-init : goal.loop-number-init
unfolding ctr
loop-number-init c = refl

pub loop-number-preserved : goal.loop-number-preserved
unfolding ctr
loop-number-preserved c =
    piece_more c.args.key.now c.args.nonce c.loop-number.number _ c.args.text.now c.loop-number.text c.add_to_piece.new.piece (omega arith)
    (omega arith) c.loop-number.invariant
    (rw (c.new-schedule.ensures.words, c.from.ensures) at c.add_to_piece.ensures.sum)

pub returns : goal.returns
returns c =
    let at = 16384 * c.loop-number.number in
    let text = c.args.text.now in
    let all : take at text ≡ text = take_all at text (omega arith) in
    let none : drop at text ≡ [] = drop_all at text (omega arith) in
    record { text = c.loop-number.invariant ∙ rw (all, none, append-nil) refl }
