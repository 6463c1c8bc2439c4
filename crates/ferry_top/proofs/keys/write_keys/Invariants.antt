use Rattle.std.proofs.Common.{◌≡◌, length}
use Rattle.std.specs.FinMap.{entries}
use Rattle.ferry_top.proofs.KeysLemmas.{above, Writes}
use Rattle.ferry_top.proofs.keys.write_keys.Given as goal

-- the keys up to the last have their lines
abbrev pub invariant-loop-found : goal.invariant-loop-found
invariant-loop-found g l = record {
  writes : Writes l.log.opened (g.K.Sink.written l.fn.out) (g.K.Sink.written l.out) l.last l.lines.items;
  faults : g.K.Sink.faults l.out ≡ g.K.Sink.faults l.fn.out;
}

abbrev pub decreases-loop-found : goal.decreases-loop-found
decreases-loop-found g l = length (above l.last (entries l.log.opened))
