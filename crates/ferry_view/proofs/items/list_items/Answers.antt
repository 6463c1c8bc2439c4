use Rattle.std.proofs.Common.{refl}
use Rattle.std.proofs.lemmas.Result.{IfErr-weaker}
use Rattle.ferry_repo.specs.Opening.{repo_view}
use Rattle.ferry_repo.specs.Walk.{walk_view}
use Rattle.ferry_view.proofs.OutputLemmas.{on_ok, on_err}
use Rattle.ferry_view.proofs.ShownLemmas.{log_fits, begun_fits, listing_at, text_all_at, text_at, items_refused_at, no_lines, no_lines_all}
use Rattle.ferry_view.proofs.items.list_items.Goals as goal

pub write_items-requires-clause-walk_fits : goal.write_items-requires-clause-walk_fits
write_items-requires-clause-walk_fits g c =
    begun_fits (g.S.Shelf.told c.args.shelf.now) (g.S.Shelf.told c.begin.new.shelf) (repo_view c.args.repo.now) (repo_view c.begin.new.repo)
    c.args.name.now (walk_view c.in-Ok.walk) c.in-Ok.ensures.same c.in-Ok.ensures.kept c.in-Ok.ensures.begins

pub returns-in-Ok-clause-ok : goal.returns-in-Ok-clause-ok
returns-in-Ok-clause-ok g c =
    on_ok c.write_items.result _ _ (λ all.
    listing_at (g.S.Shelf.told c.args.shelf.now) (g.S.Shelf.told c.begin.new.shelf) (repo_view c.args.repo.now) (repo_view c.begin.new.repo)
    c.args.name.now (walk_view c.in-Ok.walk) (g.K.Sink.written c.args.out.now) (g.K.Sink.written c.write_items.new.out)
    c.in-Ok.ensures.same c.in-Ok.ensures.kept c.in-Ok.ensures.begins all) c.write_items.ensures.ok

pub returns-in-Ok-clause-err : goal.returns-in-Ok-clause-err
returns-in-Ok-clause-err g c =
    on_err c.write_items.result _ _ (λ some.
    text_at (g.S.Shelf.told c.args.shelf.now) (g.S.Shelf.told c.begin.new.shelf) (repo_view c.args.repo.now) (repo_view c.begin.new.repo)
    c.args.name.now (walk_view c.in-Ok.walk) (g.K.Sink.written c.args.out.now) (g.K.Sink.written c.write_items.new.out)
    c.in-Ok.ensures.same c.in-Ok.ensures.kept c.in-Ok.ensures.begins some) c.write_items.ensures.err

pub returns-in-Ok-clause-refused : goal.returns-in-Ok-clause-refused
returns-in-Ok-clause-refused g c =
    IfErr-weaker c.write_items.result _ _ (λ fault ends.
    items_refused_at (g.S.Shelf.told c.args.shelf.now) (g.S.Shelf.told c.begin.new.shelf) (repo_view c.args.repo.now) (repo_view c.begin.new.repo)
    c.args.name.now (walk_view c.in-Ok.walk) fault c.in-Ok.ensures.same c.in-Ok.ensures.kept c.in-Ok.ensures.begins ends) c.write_items.ensures.refused

pub returns-in-Err-clause-err : goal.returns-in-Err-clause-err
returns-in-Err-clause-err g c =
    no_lines (g.S.Shelf.told c.args.shelf.now) (repo_view c.args.repo.now) c.args.name.now (g.K.Sink.written c.args.out.now)
    (g.K.Sink.written c.args.out.now) (log_fits _ _ _ c.requires.fits) refl

pub returns-in-Ok-clause-all : goal.returns-in-Ok-clause-all
returns-in-Ok-clause-all g c =
    IfErr-weaker c.write_items.result _ _ (λ fault shows of.
    text_all_at (g.S.Shelf.told c.args.shelf.now) (g.S.Shelf.told c.begin.new.shelf) (repo_view c.args.repo.now) (repo_view c.begin.new.repo)
    c.args.name.now (walk_view c.in-Ok.walk) (g.K.Sink.written c.args.out.now) (g.K.Sink.written c.write_items.new.out)
    c.in-Ok.ensures.same c.in-Ok.ensures.kept c.in-Ok.ensures.begins (shows of)) c.write_items.ensures.all

pub returns-in-Err-clause-all : goal.returns-in-Err-clause-all
returns-in-Err-clause-all g c = λ of.
    no_lines_all (g.S.Shelf.told c.args.shelf.now) (repo_view c.args.repo.now) c.args.name.now (g.K.Sink.written c.args.out.now) c.in-Err.fault of
    c.in-Err.ensures.refused
