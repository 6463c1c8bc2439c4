use Rattle.std.proofs.Common.{◌≡◌, take}
use Rattle.ferry_view.specs.Lines.{archive_lines}
use Rattle.ferry_view.specs.Output.{Sends}
use Rattle.ferry_view.proofs.archives.write_archives.Given as goal

-- the lines of the archives so far are gathered or out
abbrev pub invariant-loop-place : goal.invariant-loop-place
invariant-loop-place g l = record {
  sends : Sends (g.K.Sink.written l.fn.out) (g.K.Sink.written l.out) l.text.items (archive_lines (take l.place l.archives));
  faults : g.K.Sink.faults l.out ≡ g.K.Sink.faults l.fn.out;
}
