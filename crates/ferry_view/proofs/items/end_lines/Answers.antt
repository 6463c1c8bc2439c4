use Rattle.std.proofs.Common.{sym, subst}
use Rattle.ferry_disk.specs.Device.{WritesSome}
use Rattle.ferry_view.proofs.OutputLemmas.{writes_all, writes_none}
use Rattle.ferry_view.proofs.items.end_lines.Goals as goal
use Rattle.ferry_view.proofs.items.end_lines.Goals.{in-Device, in_default+in_ok-send-in_default}

pub returns-clause-err : goal.returns-clause-err
returns-clause-err g c =
    let old = g.K.Sink.written c.args.out.now in
    let text = c.args.text.now in
    elim c.match-fault.branch [
      | in-Device w ↦ subst (λ o. WritesSome old text (g.K.Sink.written o)) (sym w.out-is) (writes_none old text)
      | in_default+in_ok-send-in_default w ↦
          subst (λ o. WritesSome old text (g.K.Sink.written o)) (sym w.out-is)
          (writes_all old (g.K.Sink.written w.send.new.out) text w.in_ok-send-in_default.ensures.ok)
    ]
