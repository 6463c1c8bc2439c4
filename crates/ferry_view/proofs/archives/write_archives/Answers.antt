use Rattle.std.proofs.Common.{◌≡◌, ◌+◌, [], ◌++◌, take, drop, refl, sym, subst, ap, ◌∙◌, arith}
use Rattle.ferry_disk.specs.Device.{WritesSome}
use Rattle.ferry_view.specs.Lines.{archive_line, archive_lines}
use Rattle.ferry_view.specs.Output.{Sends}
use Rattle.ferry_view.proofs.LinesLemmas.{lines-none, lines-more, lines-rest}
use Rattle.ferry_view.proofs.OutputLemmas.{sends_none, sends_more, sends_then, sent_some, sent_still, on_err, err_holds}
use Rattle.ferry_view.proofs.archives.write_archives.Goals as goal

pub loop-place-init : goal.loop-place-init
loop-place-init g c =
    let old = g.K.Sink.written c.args.out.now in
    record {
      sends = subst (λ s. Sends old old s (archive_lines [])) (sym c.new-text.ensures.items)
          (subst (λ t. Sends old old [] t) (sym lines-none) (sends_none old));
      faults = refl;
    }

pub returns-in_err-push_archive-clause-err : goal.returns-in_err-push_archive-clause-err
returns-in_err-push_archive-clause-err g c =
    let old = g.K.Sink.written c.args.out.now in
    let all = c.args.archives.now in
    let place = c.loop-place.place in
    err_holds _ _ (subst (λ t. WritesSome old t (g.K.Sink.written c.loop-place.out)) (sym (lines-rest all place))
    (sent_still old (g.K.Sink.written c.loop-place.out) c.loop-place.text.items (archive_lines (take place all)) (archive_lines (drop place all))
    c.loop-place.invariant.sends))

pub returns-in_err-send_full-clause-err : goal.returns-in_err-send_full-clause-err
returns-in_err-send_full-clause-err g c =
    let old = g.K.Sink.written c.args.out.now in
    let now = g.K.Sink.written c.loop-place.out in
    let after = g.K.Sink.written c.send_full.new.out in
    let all = c.args.archives.now in
    let place = c.loop-place.place in
    let a = c.index-archives-place.result in
    let line = archive_line a in
    let next : archive_lines (take (place + 1) all) ≡ archive_lines (take place all) ++ line = lines-more all place a (omega arith)
    ∙ ap (λ b. archive_lines (take place all) ++ archive_line b) (sym c.index-archives-place.is) in
    let more = sends_more old now c.loop-place.text.items (archive_lines (take place all)) line c.loop-place.invariant.sends in
    let some = subst (λ s. WritesSome now s after) c.in_ok-push_archive.ensures.ok c.in_err-send_full.ensures.err in
    let front = sent_some old now after (c.loop-place.text.items ++ line) (archive_lines (take place all) ++ line)
    (archive_lines (drop (place + 1) all)) more some in
    err_holds _ _ (subst (λ t. WritesSome old t after)
    (ap (λ t. t ++ archive_lines (drop (place + 1) all)) (sym next) ∙ sym (lines-rest all (place + 1))) front)

pub loop-place-preserved : goal.loop-place-preserved
loop-place-preserved g c =
    let old = g.K.Sink.written c.args.out.now in
    let now = g.K.Sink.written c.loop-place.out in
    let after = g.K.Sink.written c.send_full.new.out in
    let all = c.args.archives.now in
    let place = c.loop-place.place in
    let a = c.index-archives-place.result in
    let line = archive_line a in
    let next : archive_lines (take (place + 1) all) ≡ archive_lines (take place all) ++ line = lines-more all place a (omega arith)
    ∙ ap (λ b. archive_lines (take place all) ++ archive_line b) (sym c.index-archives-place.is) in
    let more = sends_more old now c.loop-place.text.items (archive_lines (take place all)) line c.loop-place.invariant.sends in
    let left = c.send_full.new.text.items in
    let gone = subst (λ s. Sends now after left s) c.in_ok-push_archive.ensures.ok c.in_ok-send_full.ensures.ok in
    record {
      sends = subst (λ t. Sends old after left t) (sym next)
          (sends_then old now after (c.loop-place.text.items ++ line) left (archive_lines (take place all) ++ line) more gone);
      faults = c.in_ok-send_full.ensures.cause ∙ c.loop-place.invariant.faults;
    }

pub returns-clause-err : goal.returns-clause-err
returns-clause-err g c =
    let old = g.K.Sink.written c.args.out.now in
    let now = g.K.Sink.written c.loop-place.out in
    let after = g.K.Sink.written c.send.new.out in
    let all = c.args.archives.now in
    let place = c.loop-place.place in
    on_err c.send.result _ _ (λ front.
    let some = subst (λ s. WritesSome now s after) c.deref.ensures.value front in
    subst (λ t. WritesSome old t after) (sym (lines-rest all place))
    (sent_some old now after c.loop-place.text.items (archive_lines (take place all)) (archive_lines (drop place all)) c.loop-place.invariant.sends
    some)) c.send.ensures.err
