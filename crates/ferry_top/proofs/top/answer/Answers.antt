use Rattle.std.proofs.Common.{map, string_bytes}
use Rattle.ferry_top.proofs.RunLemmas.{does_nothing}
use Rattle.ferry_top.proofs.top.answer.Goals as goal
use Rattle.ferry_status.specs.Devices.{devices, store, drawn, written}
use Rattle.ferry_words.specs.Words.{command_of}

pub returns-in-Err-Memory-clause-does : goal.returns-in-Err-Memory-clause-does
returns-in-Err-Memory-clause-does g c =
    does_nothing (command_of (map string_bytes c.args.words.now)) c.args.secrets.now
    (devices (store (g.S.Shelf.told c.args.source.now) (g.S.Shelf.faults c.args.source.now)) (store (g.D.Shelf.told c.args.target.now)
    (g.D.Shelf.faults c.args.target.now))
    (drawn (g.E.Entropy.drawn c.args.entropy.now) (g.E.Entropy.faults c.args.entropy.now)) (written (g.K.Sink.written c.args.out.now)
    (g.K.Sink.faults c.args.out.now)))
