use Rattle.std.proofs.Common.{◌≡◌, ◌++◌, ◌∙◌, Some, None, option_map, refl, sym, subst}
use Rattle.ferry_disk.specs.Device.{WritesSome}
use Rattle.ferry_log.specs.State.{IsLeastAbove}
use Rattle.ferry_view.proofs.OutputLemmas.{on_ok, on_err, err_holds}
use Rattle.ferry_top.proofs.KeysLemmas.{Writes, writes_none, writes_more, writes_out, written_all, written_some, written_still, fewer_left, least_opened}
use Rattle.ferry_top.proofs.keys.write_keys.Goals as goal

pub loop-found-init : goal.loop-found-init
loop-found-init g c =
    let old = g.K.Sink.written c.args.out.now in
    record { writes = subst (Writes c.args.log.now.opened old old None) (sym c.new-lines.ensures.items) (writes_none c.args.log.now.opened old); faults = refl }

pub returns-in_err-push_line-clause-err : goal.returns-in_err-push_line-clause-err
returns-in_err-push_line-clause-err g c =
    err_holds _ _ (written_still c.args.log.now.opened (g.K.Sink.written c.args.out.now) (g.K.Sink.written c.loop-found.out) c.loop-found.last
    c.loop-found.lines.items
    c.loop-found.invariant.writes)

pub returns-in_err-send_full-clause-err : goal.returns-in_err-send_full-clause-err
returns-in_err-send_full-clause-err g c =
    let log = c.args.log.now in
    let old = g.K.Sink.written c.args.out.now in
    let now = g.K.Sink.written c.loop-found.out in
    let last = c.loop-found.last in
    let found = c.in-Some.found in
    let lines = c.push_line.new.lines.items in
    let least = least_opened log last (Some found) c.requires (subst (λ k. IsLeastAbove log k (Some found)) c.as_ref.ensures.value c.in-Some.ensures) in
    let more = writes_more log.opened old now last found c.loop-found.lines.items lines least c.loop-found.invariant.writes c.in_ok-push_line.ensures in
    err_holds _ _ (written_some log.opened old now (g.K.Sink.written c.send_full.new.out) (Some found.0) lines more c.in_err-send_full.ensures.err)

pub loop-found-smaller : goal.loop-found-smaller
loop-found-smaller g c =
    let log = c.args.log.now in
    let last = c.loop-found.last in
    let found = c.in-Some.found in
    let least = least_opened log last (Some found) c.requires (subst (λ k. IsLeastAbove log k (Some found)) c.as_ref.ensures.value c.in-Some.ensures) in
    fewer_left log.opened (g.K.Sink.written c.args.out.now) (g.K.Sink.written c.loop-found.out) last found c.loop-found.lines.items least
    c.loop-found.invariant.writes

pub loop-found-preserved : goal.loop-found-preserved
loop-found-preserved g c =
    let log = c.args.log.now in
    let old = g.K.Sink.written c.args.out.now in
    let now = g.K.Sink.written c.loop-found.out in
    let last = c.loop-found.last in
    let found = c.in-Some.found in
    let lines = c.push_line.new.lines.items in
    let least = least_opened log last (Some found) c.requires (subst (λ k. IsLeastAbove log k (Some found)) c.as_ref.ensures.value c.in-Some.ensures) in
    let more = writes_more log.opened old now last found c.loop-found.lines.items lines least c.loop-found.invariant.writes c.in_ok-push_line.ensures in
    record {
      writes = writes_out log.opened old now (g.K.Sink.written c.send_full.new.out) (Some found.0) lines c.send_full.new.text.items more
          c.in_ok-send_full.ensures.ok;
      faults = c.in_ok-send_full.ensures.cause ∙ c.loop-found.invariant.faults;
    }

pub returns-clause-ok : goal.returns-clause-ok
returns-clause-ok g c =
    let log = c.args.log.now in
    let now = g.K.Sink.written c.loop-found.out in
    let after = g.K.Sink.written c.send.new.out in
    let last = c.loop-found.last in
    let none = least_opened log last None c.requires (subst (λ k. IsLeastAbove log k None) c.as_ref.ensures.value c.in_default.ensures) in
    on_ok c.send.result _ _ (λ is.
    written_all log.opened (g.K.Sink.written c.args.out.now) now after last c.loop-found.lines.items none c.loop-found.invariant.writes
    (subst (λ k. after ≡ option_map (λ w. w ++ k) now) c.deref.ensures.value is)) c.send.ensures.ok

pub returns-clause-err : goal.returns-clause-err
returns-clause-err g c =
    let now = g.K.Sink.written c.loop-found.out in
    let after = g.K.Sink.written c.send.new.out in
    on_err c.send.result _ _ (λ some.
    written_some c.args.log.now.opened (g.K.Sink.written c.args.out.now) now after c.loop-found.last c.loop-found.lines.items c.loop-found.invariant.writes
    (subst (λ k. WritesSome now k after) c.deref.ensures.value some)) c.send.ensures.err
