use Rattle.std.proofs.Common.{◌≡◌, ℕ, List, Some, None, IfSome, refl, sym, subst}
use Rattle.ferry_disk.specs.Device.{told_files}
use Rattle.ferry_log.specs.State.{LogState}
use Rattle.ferry_repo.specs.Fault.{IsOfFiles}
use Rattle.ferry_repo.specs.Opening.{repo_view}
use Rattle.ferry_check.specs.Report.{AreChunks, IsReport}
use Rattle.ferry_check.specs.declared.report.Report.{Report}
use Rattle.ferry_check.proofs.ReportLemmas.{good_report, bad_report, ok_with}
use Rattle.ferry_check.proofs.report.check.Goals as goal

pub returns-in-Ok-clause-report : goal.returns-in-Ok-clause-report
returns-in-Ok-clause-report g c =
    let repo = repo_view c.args.repo.now in
    let tally = c.in-Ok.tally in
    let report : Report = record
    { archives = c.archive_count-archives.result; chunks = c.len-chunks.result; orphans = tally.orphans; untagged = tally.untagged; bad = None } in
    let all = subst (λ (is : List (List ℕ)). AreChunks repo.log is) (sym c.deref.ensures.value)
    (subst (λ (l : LogState). AreChunks l c.in_ok-ids.ids.items) c.log.ensures.log c.in_ok-ids.ensures.chunks) in
    good_report (g.S.Shelf.told c.args.shelf.now) repo c.deref.result.now tally report all refl refl refl c.in-Ok.ensures.rest

pub returns-clause-report : goal.returns-clause-report
returns-clause-report g c =
    let told = g.S.Shelf.told c.args.shelf.now in
    let repo = repo_view c.args.repo.now in
    let fault = c.in-Err.fault in
    let report : Report = record
    { archives = c.archive_count-archives.result; chunks = c.len-chunks.result; orphans = 0; untagged = 0; bad = Some fault } in
    ok_with c.bad_report.result (λ r. r ≡ report) (λ r. IsOfFiles fault) _ c.bad_report.ensures.report c.bad_report.ensures.of_files (λ r is files.
    subst (λ (s : Report). IfSome told (λ t. IsReport (told_files t) repo s)) (sym is)
    (bad_report told repo fault report refl refl refl (c.in-Err.ensures.refused files)))
