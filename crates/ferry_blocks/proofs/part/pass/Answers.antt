use Rattle.std.proofs.Common.{◌≡◌, ◌+◌, ap, drop, subst, arith}
use Rattle.ferry_blocks.specs.Blocks.{StatesNoSize}
use Rattle.ferry_blocks.proofs.EntryLemmas.{front_rest, rest_left, rest_length}
use Rattle.ferry_blocks.proofs.PassLemmas.{passes_step}
use Rattle.ferry_blocks.proofs.part.pass.Goals as goal

pub returns-in_default-clause-stops : goal.returns-in_default-clause-stops
returns-in_default-clause-stops c bytes from left is long none =
    let size = c.loop-size.size in
    let place : from + size ≡ from = omega (arith, none) in
    let rest = rest_left bytes from c.args.left size left in
    let stops = c.in_default.ensures.stated (drop (from + size) bytes) rest (front_rest size from c.args.part.now bytes (omega arith) is) in
    subst (λ n. StatesNoSize (drop n bytes)) place (stops (omega (arith, none, rest_length size c.args.part.now)))

pub loop-size-preserved : goal.loop-size-preserved
loop-size-preserved c = record {
  within = omega (arith, c.in-Some.ensures.within.1, c.from-size.ensures, c.loop-size.invariant.within);
  passed = λ bytes from left is.
      let size = c.loop-size.size in
      let rest = rest_left bytes from c.args.left size left in
      let front = front_rest size from c.args.part.now bytes (omega arith) is in
      let stated = c.in-Some.ensures.stated (drop (from + size) bytes) rest front in
      passes_step bytes from size c.in-Some.stated (size + c.from-size.result) c.loop-size.end c.put_end.result c.greater-end.result
      (c.loop-size.invariant.passed bytes from left is) stated (c.put_end.ensures (drop (from + size) bytes) stated front)
      (ap (λ n. size + n) c.from-size.ensures) c.greater-end.ensures;
}
