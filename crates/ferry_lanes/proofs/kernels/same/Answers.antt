use Rattle.std.proofs.Common.{rules, arith, length, eq-eqb, eqb-true}
use Rattle.std.proofs.lemmas.List.{length_push}
use Rattle.std.proofs.lemmas.Slice.Zip.{zip_turn, zip_end}
use Rattle.ferry_lanes.proofs.BytesLemmas.{tells_more, equal_at_end}
use Rattle.ferry_lanes.proofs.kernels.same.Goals as goal

pub loop-a-preserved : goal.loop-a-preserved
loop-a-preserved c =
    let turn = zip_turn c.args.left.now c.args.right.now c.loop-a.yielded c.into_iter-a-iterator.result c.loop-a.a-iterator c.next.new.self c.next.result
    (search rules) (search rules) c.loop-a.yielded_by (c.in-Some.a, c.in-Some.b) c.in-Some.is c.next.ensures.steps in
    rw (length_push c.loop-a.yielded (c.in-Some.a, c.in-Some.b))
    (tells_more c.args.left.now c.args.right.now (length c.loop-a.yielded) c.loop-a.difference c.in-Some.a.now c.in-Some.b.now c.loop-a.invariant (turn.2 0)
    (turn.3 0))

pub returns : goal.returns
returns c =
    let end = zip_end c.args.left.now c.args.right.now c.loop-a.yielded c.into_iter-a-iterator.result c.loop-a.a-iterator c.next.new.self c.next.result
    (search rules) (search rules) c.loop-a.yielded_by c.in-None.is c.next.ensures.steps in
    let told = equal_at_end c.args.left.now c.args.right.now (length c.loop-a.yielded) c.loop-a.difference (omega arith) (omega arith) c.loop-a.invariant in
    record { equal = (λ yes. told.0 (eqb-true c.loop-a.difference 0 yes), λ equal. eq-eqb c.loop-a.difference 0 (told.1 equal)) }
