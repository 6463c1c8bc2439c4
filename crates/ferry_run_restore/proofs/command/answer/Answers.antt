use Rattle.std.proofs.Common.{map, string_bytes}
use Rattle.ferry_run_restore.proofs.StatusLemmas.{named_does}
use Rattle.ferry_run_restore.proofs.command.answer.Goals as goal
use Rattle.ferry_status.specs.Devices.{written}
use Rattle.ferry_words.specs.Restore.{restored_of}

pub returns-in-Ok-clause-does : goal.returns-in-Ok-clause-does
returns-in-Ok-clause-does g c =
    named_does (restored_of (map string_bytes c.args.words.now)) _ _ (g.S.Shelf.told c.args.source.now) c.args.secret.now (g.T.Tree.told c.args.tree.now)
    (g.T.Tree.told c.restore_named.new.tree) (written (g.K.Sink.written c.args.out.now) (g.K.Sink.faults c.args.out.now))
    (written (g.K.Sink.written c.restore_named.new.out) (g.K.Sink.faults c.restore_named.new.out)) c.restore_named.result c.in-Ok.ensures.name
    c.as_slice.ensures c.restore_named.ensures.answers
