use Rattle.std.proofs.Common.{◌≡◌, ◌<◌, ◌+◌, ◌-◌, length, take, true, false, ap, sym, ◌∙◌, arith}
use Rattle.std.specs.Str.{bytes_eq}
use Rattle.ferry_tree.specs.Memory.{placed_in}
use Rattle.ferry_tree.specs.Nodes.{node_at}
use Rattle.ferry_tree.proofs.MemoryLemmas.{found_here, found_other}
use Rattle.ferry_tree.proofs.NodeLemmas.{node_at-none}
use Rattle.ferry_tree.proofs.memory.find.Goals as goal

pub returns-then-eq : goal.returns-then-eq
returns-then-eq c =
    let nodes = c.args.nodes.now in
    let path = c.args.path.now in
    let back = c.loop-back.back in
    let n = length nodes - 1 - back in
    let e = c.index-nodes-nodes.result in
    let same : bytes_eq e.path.items path ≡ true = ap (λ p. bytes_eq p path) (sym c.as_slice.ensures.value) ∙ sym c.eq.ensures ∙ c.if-eq.true in
    let next : length nodes - back ≡ n + 1 = omega arith in
    let lt : n < length nodes = omega arith in
    record { node = sym (c.loop-back.invariant ∙ found_here path nodes n (length nodes - back) e next lt c.index-nodes-nodes.is same) }

pub loop-back-preserved : goal.loop-back-preserved
loop-back-preserved c =
    let nodes = c.args.nodes.now in
    let path = c.args.path.now in
    let back = c.loop-back.back in
    let n = length nodes - 1 - back in
    let e = c.index-nodes-nodes.result in
    let other : bytes_eq e.path.items path ≡ false = ap (λ p. bytes_eq p path) (sym c.as_slice.ensures.value) ∙ sym c.eq.ensures ∙ c.if-eq.false in
    let next : length nodes - back ≡ n + 1 = omega arith in
    let lt : n < length nodes = omega arith in
    let left : n ≡ length nodes - (back + 1) = omega arith in
    c.loop-back.invariant ∙ found_other path nodes n (length nodes - back) e next lt c.index-nodes-nodes.is other
    ∙ ap (λ k. node_at path (placed_in (take k nodes))) left

pub returns : goal.returns
returns c =
    let nodes = c.args.nodes.now in
    let path = c.args.path.now in
    let none : length nodes - c.loop-back.back ≡ 0 = omega arith in
    record { node = sym (c.loop-back.invariant ∙ ap (λ k. node_at path (placed_in (take k nodes))) none ∙ node_at-none path) }
