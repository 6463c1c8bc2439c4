use Rattle.std.proofs.Common.{ℕ, List, ◌++◌, option_map, sym, ◌∙◌, ap, subst}
use Rattle.ferry_disk.specs.Device.{WritesSome}
use Rattle.ferry_repo.specs.Opening.{repo_view, cached_in}
use Rattle.ferry_top.specs.Check.{Checks}
use Rattle.ferry_status.specs.Devices.{written}
use Rattle.ferry_status.specs.declared.status.Status.{Status}
use Rattle.ferry_top.proofs.CheckLemmas.{is_checked, cut_line, none_there, some_there}
use Rattle.ferry_top.proofs.ItemsLemmas.{fits_later}
use Rattle.ferry_top.proofs.check.check.Goals as goal

pub check-requires : goal.check-requires
check-requires g c =
    let told = g.S.Shelf.told in
    record {
      fits = fits_later (told c.args.source.now) (told c.open.new.shelf) c.args.secret.now (repo_view c.in-Ok.repo) (cached_in c.in-Ok.repo)
          c.in-Ok.ensures.same c.in-Ok.ensures.cached c.in-Ok.ensures.repository;
    }

pub returns-in-Ok-send-clause-out : goal.returns-in-Ok-send-clause-out
returns-in-Ok-send-clause-out g c =
    let told = g.S.Shelf.told in
    let report = c.in-Ok-check.report in
    let line = c.deref.ensures.value ∙ c.in-Ok-report_line.ensures.line in (
      report,
      is_checked (told c.args.source.now) (told c.open.new.shelf) c.args.secret.now (repo_view c.in-Ok.repo) report c.in-Ok.ensures.same
          c.in-Ok.ensures.repository c.in-Ok-check.ensures.report c.in-Ok-check.ensures.counts,
      c.in-Ok-check.ensures.of_files,
      (
        none_there report.bad c.is_none.result c.is_none.ensures c.if-is_none.true,
        (
          c.in-Ok-send.ensures.ok
              ∙ ap (λ (l : List ℕ). option_map (λ w. w ++ l) (g.K.Sink.written c.args.out.now)) line,
          c.in-Ok-send.ensures.cause,
        ),
      ),
    )

pub returns-in-Ok-2-clause-out : goal.returns-in-Ok-2-clause-out
returns-in-Ok-2-clause-out g c =
    let told = g.S.Shelf.told in
    let report = c.in-Ok-check.report in
    let line = c.deref.ensures.value ∙ c.in-Ok-report_line.ensures.line in (
      report,
      is_checked (told c.args.source.now) (told c.open.new.shelf) c.args.secret.now (repo_view c.in-Ok.repo) report c.in-Ok.ensures.same
          c.in-Ok.ensures.repository c.in-Ok-check.ensures.report c.in-Ok-check.ensures.counts,
      c.in-Ok-check.ensures.of_files,
      (
        some_there report.bad c.is_none.result c.is_none.ensures c.if-is_none.false,
        (
          c.in-Ok-2.ensures.ok
              ∙ ap (λ (l : List ℕ). option_map (λ w. w ++ l) (g.K.Sink.written c.args.out.now)) line,
          c.in-Ok-2.ensures.cause,
        ),
      ),
    )

pub returns-clause-out : goal.returns-clause-out
returns-clause-out g c =
    let told = g.S.Shelf.told in
    let secret = c.args.secret.now in
    let source = told c.args.source.now in
    let report = c.in-Ok-check.report in
    let before = written (g.K.Sink.written c.args.out.now) (g.K.Sink.faults c.args.out.now) in
    let after = written (g.K.Sink.written c.send.new.out) (g.K.Sink.faults c.send.new.out) in
    let line = c.deref.ensures.value ∙ c.in-Ok-report_line.ensures.line in
    let fault = c.in-Err-send.fault in
    subst (λ (s : Status). Checks secret source before s after) (sym c.of_output.ensures)
    (cut_line secret source before after report fault
    (is_checked source (told c.open.new.shelf) secret (repo_view c.in-Ok.repo) report c.in-Ok.ensures.same c.in-Ok.ensures.repository
    c.in-Ok-check.ensures.report c.in-Ok-check.ensures.counts)
    c.in-Ok-check.ensures.of_files
    (subst (λ (l : List ℕ). WritesSome before.bytes l after.bytes) line c.in-Err-send.ensures.err) c.in-Err-send.ensures.cause)
