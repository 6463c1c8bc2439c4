use Rattle.std.proofs.Common.{Ok, IfSome, refl, ◌∙◌, ap, subst}
use Rattle.std.proofs.lemmas.Result.{IfErr-weaker}
use Rattle.ferry_disk.specs.Device.{told_files}
use Rattle.ferry_repo.specs.Opening.{repo_view}
use Rattle.ferry_repo.specs.Walk.{walk_view}
use Rattle.ferry_view.specs.Steps.{FindsFile}
use Rattle.ferry_view.proofs.OutputLemmas.{on_ok, on_err}
use Rattle.ferry_view.proofs.ShownLemmas.{log_fits, begun_fits, no_content, no_content_all, file_unbegun, file_before, file_before_all}
use Rattle.ferry_view.proofs.ShownLemmas.{file_missing, file_missing_all, found_at, found_fits, file_at_end, file_some, file_all, file_refused_at}
use Rattle.ferry_view.proofs.extraction.extract.Goals as goal

pub returns-in-Err-clause-err : goal.returns-in-Err-clause-err
returns-in-Err-clause-err g c =
    no_content (g.S.Shelf.told c.args.shelf.now) (repo_view c.args.repo.now) c.args.name.now c.args.path.now (g.K.Sink.written c.args.out.now)
    (g.K.Sink.written c.args.out.now) (log_fits _ _ _ c.requires.fits) refl

pub returns-in-Err-clause-refused : goal.returns-in-Err-clause-refused
returns-in-Err-clause-refused g c =
    file_unbegun (g.S.Shelf.told c.args.shelf.now) (repo_view c.args.repo.now) c.args.name.now c.args.path.now c.in-Err.fault c.in-Err.ensures.refused

pub returns-in-Err-clause-all : goal.returns-in-Err-clause-all
returns-in-Err-clause-all g c = λ of.
    no_content_all (g.S.Shelf.told c.args.shelf.now) (repo_view c.args.repo.now) c.args.name.now c.args.path.now (g.K.Sink.written c.args.out.now)
    c.in-Err.fault of c.in-Err.ensures.refused

pub find_file-requires-clause-walk_fits : goal.find_file-requires-clause-walk_fits
find_file-requires-clause-walk_fits g c =
    begun_fits (g.S.Shelf.told c.args.shelf.now) (g.S.Shelf.told c.begin.new.shelf) (repo_view c.args.repo.now) (repo_view c.begin.new.repo)
    c.args.name.now (walk_view c.in-Ok.walk) c.in-Ok.ensures.same c.in-Ok.ensures.kept c.in-Ok.ensures.begins

pub write_file-done-requires-clause-walk_fits : goal.write_file-done-requires-clause-walk_fits
write_file-done-requires-clause-walk_fits g c =
    let told = g.S.Shelf.told c.args.shelf.now in
    let mid = g.S.Shelf.told c.begin.new.shelf in
    let later = g.S.Shelf.told c.find_file.new.shelf in
    let repo = repo_view c.args.repo.now in
    let mid_repo = repo_view c.begin.new.repo in
    let walk = walk_view c.in-Ok.walk in
    let now = walk_view c.find_file.new.walk in
    let chunks = c.in-Ok-Some.chunks in
    let name = c.args.name.now in
    let path = c.args.path.now in
    let finds = subst (λ o. IfSome o (λ cs. IfSome mid (λ t. FindsFile (told_files t) mid_repo walk path cs now))) c.in-Ok-Some.field-0-is
    c.in-Ok-Some.ensures.found in
    let found = found_at told mid repo mid_repo name path walk now chunks c.in-Ok.ensures.same c.in-Ok.ensures.kept (log_fits _ _ _ c.requires.fits)
    c.in-Ok.ensures.begins finds in
    found_fits told later repo (repo_view c.find_file.new.repo) name path walk now chunks (c.in-Ok-Some.ensures.same ∙ c.in-Ok.ensures.same)
    (c.in-Ok-Some.ensures.kept ∙ c.in-Ok.ensures.kept) found

pub returns-in-Ok-Some-clause-ok : goal.returns-in-Ok-Some-clause-ok
returns-in-Ok-Some-clause-ok g c =
    let told = g.S.Shelf.told c.args.shelf.now in
    let mid = g.S.Shelf.told c.begin.new.shelf in
    let later = g.S.Shelf.told c.find_file.new.shelf in
    let repo = repo_view c.args.repo.now in
    let mid_repo = repo_view c.begin.new.repo in
    let walk = walk_view c.in-Ok.walk in
    let now = walk_view c.find_file.new.walk in
    let chunks = c.in-Ok-Some.chunks in
    let name = c.args.name.now in
    let path = c.args.path.now in
    let finds = subst (λ o. IfSome o (λ cs. IfSome mid (λ t. FindsFile (told_files t) mid_repo walk path cs now))) c.in-Ok-Some.field-0-is
    c.in-Ok-Some.ensures.found in
    let found = found_at told mid repo mid_repo name path walk now chunks c.in-Ok.ensures.same c.in-Ok.ensures.kept (log_fits _ _ _ c.requires.fits)
    c.in-Ok.ensures.begins finds in
    let same = c.in-Ok-Some.ensures.same ∙ c.in-Ok.ensures.same in
    let kept = c.in-Ok-Some.ensures.kept ∙ c.in-Ok.ensures.kept in
    on_ok c.write_file-done.result _ _ (λ all.
    file_at_end told later repo (repo_view c.find_file.new.repo) name path walk now chunks (g.K.Sink.written c.args.out.now)
    (g.K.Sink.written c.write_file-done.new.out) same kept found all) c.write_file-done.ensures.ok

pub returns-in-Ok-Some-clause-err : goal.returns-in-Ok-Some-clause-err
returns-in-Ok-Some-clause-err g c =
    let told = g.S.Shelf.told c.args.shelf.now in
    let mid = g.S.Shelf.told c.begin.new.shelf in
    let later = g.S.Shelf.told c.find_file.new.shelf in
    let repo = repo_view c.args.repo.now in
    let mid_repo = repo_view c.begin.new.repo in
    let walk = walk_view c.in-Ok.walk in
    let now = walk_view c.find_file.new.walk in
    let chunks = c.in-Ok-Some.chunks in
    let name = c.args.name.now in
    let path = c.args.path.now in
    let finds = subst (λ o. IfSome o (λ cs. IfSome mid (λ t. FindsFile (told_files t) mid_repo walk path cs now))) c.in-Ok-Some.field-0-is
    c.in-Ok-Some.ensures.found in
    let found = found_at told mid repo mid_repo name path walk now chunks c.in-Ok.ensures.same c.in-Ok.ensures.kept (log_fits _ _ _ c.requires.fits)
    c.in-Ok.ensures.begins finds in
    let same = c.in-Ok-Some.ensures.same ∙ c.in-Ok.ensures.same in
    let kept = c.in-Ok-Some.ensures.kept ∙ c.in-Ok.ensures.kept in
    on_err c.write_file-done.result _ _ (λ some.
    file_some told later repo (repo_view c.find_file.new.repo) name path walk now chunks (g.K.Sink.written c.args.out.now)
    (g.K.Sink.written c.write_file-done.new.out) same kept found some) c.write_file-done.ensures.err

pub returns-in-Ok-Some-clause-all : goal.returns-in-Ok-Some-clause-all
returns-in-Ok-Some-clause-all g c =
    let told = g.S.Shelf.told c.args.shelf.now in
    let mid = g.S.Shelf.told c.begin.new.shelf in
    let later = g.S.Shelf.told c.find_file.new.shelf in
    let repo = repo_view c.args.repo.now in
    let mid_repo = repo_view c.begin.new.repo in
    let walk = walk_view c.in-Ok.walk in
    let now = walk_view c.find_file.new.walk in
    let chunks = c.in-Ok-Some.chunks in
    let name = c.args.name.now in
    let path = c.args.path.now in
    let finds = subst (λ o. IfSome o (λ cs. IfSome mid (λ t. FindsFile (told_files t) mid_repo walk path cs now))) c.in-Ok-Some.field-0-is
    c.in-Ok-Some.ensures.found in
    let found = found_at told mid repo mid_repo name path walk now chunks c.in-Ok.ensures.same c.in-Ok.ensures.kept (log_fits _ _ _ c.requires.fits)
    c.in-Ok.ensures.begins finds in
    let same = c.in-Ok-Some.ensures.same ∙ c.in-Ok.ensures.same in
    let kept = c.in-Ok-Some.ensures.kept ∙ c.in-Ok.ensures.kept in
    IfErr-weaker c.write_file-done.result _ _ (λ fault all of.
    file_all told later repo (repo_view c.find_file.new.repo) name path walk now chunks (g.K.Sink.written c.args.out.now)
    (g.K.Sink.written c.write_file-done.new.out) same kept found (all of)) c.write_file-done.ensures.all

pub returns-in-Ok-Some-clause-refused : goal.returns-in-Ok-Some-clause-refused
returns-in-Ok-Some-clause-refused g c =
    let told = g.S.Shelf.told c.args.shelf.now in
    let mid = g.S.Shelf.told c.begin.new.shelf in
    let later = g.S.Shelf.told c.find_file.new.shelf in
    let repo = repo_view c.args.repo.now in
    let mid_repo = repo_view c.begin.new.repo in
    let walk = walk_view c.in-Ok.walk in
    let now = walk_view c.find_file.new.walk in
    let chunks = c.in-Ok-Some.chunks in
    let name = c.args.name.now in
    let path = c.args.path.now in
    let finds = subst (λ o. IfSome o (λ cs. IfSome mid (λ t. FindsFile (told_files t) mid_repo walk path cs now))) c.in-Ok-Some.field-0-is
    c.in-Ok-Some.ensures.found in
    let found = found_at told mid repo mid_repo name path walk now chunks c.in-Ok.ensures.same c.in-Ok.ensures.kept (log_fits _ _ _ c.requires.fits)
    c.in-Ok.ensures.begins finds in
    let same = c.in-Ok-Some.ensures.same ∙ c.in-Ok.ensures.same in
    let kept = c.in-Ok-Some.ensures.kept ∙ c.in-Ok.ensures.kept in
    IfErr-weaker c.write_file-done.result _ _ (λ fault ends.
    file_refused_at told later repo (repo_view c.find_file.new.repo) name path walk now chunks fault same kept found ends) c.write_file-done.ensures.refused

pub returns-in-Ok-None-clause-err : goal.returns-in-Ok-None-clause-err
returns-in-Ok-None-clause-err g c =
    no_content (g.S.Shelf.told c.args.shelf.now) (repo_view c.args.repo.now) c.args.name.now c.args.path.now (g.K.Sink.written c.args.out.now)
    (g.K.Sink.written c.args.out.now) (log_fits _ _ _ c.requires.fits) refl

pub returns-in-Ok-None-clause-all : goal.returns-in-Ok-None-clause-all
returns-in-Ok-None-clause-all g c = λ of.
    file_missing_all (g.S.Shelf.told c.args.shelf.now) (g.S.Shelf.told c.begin.new.shelf) (repo_view c.args.repo.now) (repo_view c.begin.new.repo)
    c.args.name.now c.args.path.now (walk_view c.in-Ok.walk) (g.K.Sink.written c.args.out.now) c.in-Ok.ensures.same c.in-Ok.ensures.kept
    c.in-Ok.ensures.begins (c.in-Ok-None.ensures.none (ap Ok c.in-Ok-None.field-0-is))

pub returns-in-Ok-None-clause-refused : goal.returns-in-Ok-None-clause-refused
returns-in-Ok-None-clause-refused g c =
    file_missing (g.S.Shelf.told c.args.shelf.now) (g.S.Shelf.told c.begin.new.shelf) (repo_view c.args.repo.now) (repo_view c.begin.new.repo)
    c.args.name.now c.args.path.now (walk_view c.in-Ok.walk) c.in-Ok.ensures.same c.in-Ok.ensures.kept c.in-Ok.ensures.begins
    (c.in-Ok-None.ensures.none (ap Ok c.in-Ok-None.field-0-is))

pub returns-in-Err-find_file-clause-err : goal.returns-in-Err-find_file-clause-err
returns-in-Err-find_file-clause-err g c =
    no_content (g.S.Shelf.told c.args.shelf.now) (repo_view c.args.repo.now) c.args.name.now c.args.path.now (g.K.Sink.written c.args.out.now)
    (g.K.Sink.written c.args.out.now) (log_fits _ _ _ c.requires.fits) refl

pub returns-in-Err-find_file-clause-all : goal.returns-in-Err-find_file-clause-all
returns-in-Err-find_file-clause-all g c = λ of.
    file_before_all (g.S.Shelf.told c.args.shelf.now) (g.S.Shelf.told c.begin.new.shelf) (repo_view c.args.repo.now) (repo_view c.begin.new.repo)
    c.args.name.now c.args.path.now (walk_view c.in-Ok.walk) (g.K.Sink.written c.args.out.now) c.in-Err-find_file.fault of c.in-Ok.ensures.same
    c.in-Ok.ensures.kept c.in-Ok.ensures.begins c.in-Err-find_file.ensures.refused

pub returns-in-Err-find_file-clause-refused : goal.returns-in-Err-find_file-clause-refused
returns-in-Err-find_file-clause-refused g c =
    file_before (g.S.Shelf.told c.args.shelf.now) (g.S.Shelf.told c.begin.new.shelf) (repo_view c.args.repo.now) (repo_view c.begin.new.repo)
    c.args.name.now c.args.path.now (walk_view c.in-Ok.walk) c.in-Err-find_file.fault c.in-Ok.ensures.same c.in-Ok.ensures.kept c.in-Ok.ensures.begins
    c.in-Err-find_file.ensures.refused
