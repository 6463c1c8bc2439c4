use Rattle.std.proofs.Common.{map, string_bytes}
use Rattle.ferry_top.proofs.RunLemmas.{runs_reported}
use Rattle.ferry_top.proofs.top.run.Goals as goal
use Rattle.ferry_status.specs.Devices.{devices, store, drawn, written}
use Rattle.ferry_words.specs.Words.{command_of}

pub returns-clause-runs : goal.returns-clause-runs
returns-clause-runs g c =
    runs_reported (command_of (map string_bytes c.args.words.now)) c.args.secrets.now
    (devices (store (g.S.Shelf.told c.args.source.now) (g.S.Shelf.faults c.args.source.now)) (store (g.D.Shelf.told c.args.target.now)
    (g.D.Shelf.faults c.args.target.now))
    (drawn (g.E.Entropy.drawn c.args.entropy.now) (g.E.Entropy.faults c.args.entropy.now)) (written (g.K.Sink.written c.args.out.now)
    (g.K.Sink.faults c.args.out.now)))
    (devices (store (g.S.Shelf.told c.answer-status.new.source) (g.S.Shelf.faults c.answer-status.new.source)) (store
    (g.D.Shelf.told c.answer-status.new.target) (g.D.Shelf.faults c.answer-status.new.target))
    (drawn (g.E.Entropy.drawn c.answer-status.new.entropy) (g.E.Entropy.faults c.answer-status.new.entropy)) (written (g.K.Sink.written c.report.new.out)
    (g.K.Sink.faults c.report.new.out)))
    (written (g.K.Sink.written c.answer-status.new.out) (g.K.Sink.faults c.answer-status.new.out)) c.answer-status.result c.answer-status.ensures.does
    c.answer-status.ensures.causes c.report.ensures
