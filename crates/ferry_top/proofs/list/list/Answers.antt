use Rattle.std.proofs.Common.{sym, subst}
use Rattle.ferry_repo.specs.Opening.{RefusesRepo, repo_view}
use Rattle.ferry_view.specs.Lines.{archive_lines}
use Rattle.ferry_status.specs.Devices.{written}
use Rattle.ferry_top.specs.List.{IsArchiveListing, RefusesBy}
use Rattle.ferry_status.specs.Output.{Prints}
use Rattle.ferry_status.specs.declared.status.Status.{Status}
use Rattle.ferry_top.proofs.ListLemmas.{archives_of}
use Rattle.ferry_status.proofs.StatusLemmas.{cut_text}
use Rattle.ferry_top.proofs.list.list.Goals as goal

pub returns-in-Ok-list-clause-out : goal.returns-in-Ok-list-clause-out
returns-in-Ok-list-clause-out g c =
    let repo = repo_view c.in-Ok.repo in (
      archive_lines repo.manifest.archives,
      archives_of (g.S.Shelf.told c.args.source.now) c.args.secret.now repo c.in-Ok.ensures.repository,
      c.in-Ok-list.ensures.ok,
      c.in-Ok-list.ensures.cause,
    )

pub returns-clause-out : goal.returns-clause-out
returns-clause-out g c =
    let source = g.S.Shelf.told c.args.source.now in
    let pass = c.args.secret.now in
    let before = written (g.K.Sink.written c.args.out.now) (g.K.Sink.faults c.args.out.now) in
    let after = written (g.K.Sink.written c.list.new.out) (g.K.Sink.faults c.list.new.out) in
    let repo = repo_view c.in-Ok.repo in
    let fault = c.in-Err-list.fault in
    subst (λ (s : Status). Prints (IsArchiveListing pass) (λ files. RefusesBy (RefusesRepo files pass)) source before s after) (sym c.of_output.ensures)
    (cut_text (IsArchiveListing pass) (λ files. RefusesBy (RefusesRepo files pass)) source before after (archive_lines repo.manifest.archives) fault
    (archives_of source pass repo c.in-Ok.ensures.repository)
    c.in-Err-list.ensures.err c.in-Err-list.ensures.cause)
