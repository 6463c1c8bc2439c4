use Rattle.std.proofs.Common.{◌≡◌, ◌-◌, length, slice_set, ap, ◌∙◌}
use Rattle.std.proofs.Math.Seq.{map-set_same}
use Rattle.ferry_tree.specs.Memory.{placed, placed_in}
use Rattle.ferry_tree.specs.Nodes.{longer, node_view, write_last}
use Rattle.ferry_tree.proofs.MemoryLemmas.{on_ok, on_err, last_written, none_written}
use Rattle.ferry_tree.proofs.memory.append.Goals as goal

pub returns-in-Some-clause-ok : goal.returns-in-Some-clause-ok
returns-in-Some-clause-ok c =
    let nodes = c.args.nodes.now in
    let last = c.in-Some.last.now in
    let new = c.append.new.self in
    on_ok c.append.result (placed new ≡ record { path = last.path.items; node = longer c.args.bytes.now (node_view last.node) })
    (placed_in (slice_set nodes (length nodes - 1) new) ≡ write_last c.args.bytes.now (placed_in nodes))
    (λ is. last_written c.args.bytes.now nodes last new c.in-Some.ensures.item.3.0 c.in-Some.ensures.item.1 is) c.append.ensures.ok

pub returns-in-Some-clause-err : goal.returns-in-Some-clause-err
returns-in-Some-clause-err c =
    let nodes = c.args.nodes.now in
    let last = c.in-Some.last.now in
    let new = c.append.new.self in
    on_err c.append.result (placed new ≡ placed last) (placed_in (slice_set nodes (length nodes - 1) new) ≡ placed_in nodes)
    (λ is. map-set_same placed nodes (length nodes - 1) new last (is ∙ ap placed c.in-Some.ensures.item.1)) c.append.ensures.err

pub returns-in-None-clause-ok : goal.returns-in-None-clause-ok
returns-in-None-clause-ok c = none_written c.args.bytes.now c.args.nodes.now c.in-None.ensures.item.3
