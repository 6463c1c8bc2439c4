use Rattle.std.proofs.Common.{Ok, ◌∷◌, [], IfSome, option_map, refl, sym, ap, ◌∙◌, subst}
use Rattle.ferry_disk.specs.Device.{told_files}
use Rattle.ferry_item.specs.Item.{item_view}
use Rattle.ferry_repo.specs.Opening.{repo_view}
use Rattle.ferry_repo.specs.Walk.{walk_view, LeadsOn}
use Rattle.ferry_repo.proofs.FaultLemmas.{gives_err}
use Rattle.ferry_compare.specs.Compare.{comparison_view}
use Rattle.ferry_compare.specs.Steps.{RefusesSource}
use Rattle.ferry_compare.specs.declared.fault.CompareFault.{CompareFault}
use Rattle.ferry_compare.proofs.StepLemmas.{some_holds, log_fits, goes_of, goes_one, source_ends, source_lacks, item_at_first}
use Rattle.ferry_compare.proofs.StepLemmas.{on_ok, keeps_ok, matched_later, takes_first, both_go, fits_later, both_end, one_ends}
use Rattle.ferry_compare.proofs.comparison.Comparison.step.Goals as goal

pub returns-in_err-item-clause-refused_source : goal.returns-in_err-item-clause-refused_source
returns-in_err-item-clause-refused_source g c =
    let told = g.S.Shelf.told c.args.shelf.now in
    let repo = repo_view c.args.source.now in
    let state = comparison_view c.args.self.now in
    gives_err c.from_residual.result _ _ c.from_residual.ensures.1 (λ y is. subst (λ (f : CompareFault). RefusesSource told repo state.name f) (sym is)
    (source_ends told repo state.name state.walk c.requires.fits.1.front c.in_err-item.field-0.0 c.requires.fits.1.read c.in_err-item.ensures.refused))

pub returns-in_err-take-in-Some-clause-refused_source : goal.returns-in_err-take-in-Some-clause-refused_source
returns-in_err-take-in-Some-clause-refused_source g c =
    let told = g.S.Shelf.told c.args.shelf.now in
    let repo = repo_view c.args.source.now in
    let state = comparison_view c.args.self.now in
    let now = walk_view c.step_ahead.new.walk in
    let item = item_view c.in-Some.item in
    let leads = some_holds c.in_ok-item.field-0 c.in-Some.item
    (λ i. IfSome told (λ t. LeadsOn (told_files t) repo.log repo.keys state.walk (item_view i ∷ []) now)) c.in-Some.is c.in_ok-item.ensures.item in
    let goes = goes_of told repo state.walk now item leads c.in_ok-item.ensures.walk_fits c.in_ok-item.ensures.archive in
    gives_err c.from_residual-in_err-take-in-Some.result _ _ c.from_residual-in_err-take-in-Some.ensures.1 (λ y is.
    subst (λ (f : CompareFault). RefusesSource told repo state.name f) (sym is)
    (source_lacks told repo state.name state.walk now c.requires.fits.1.front item c.in_err-take-in-Some.field-0.0
    (log_fits told repo _ c.requires.source_fits) c.requires.fits.1.read goes
    (item_at_first told (g.S.Shelf.told c.step_ahead.new.shelf) repo (repo_view c.step_ahead.new.repo) item.chunks c.in_err-take-in-Some.field-0.0
    c.in_ok-item.ensures.same c.in_ok-item.ensures.kept c.in_err-take-in-Some.ensures.refused)))

pub returns-in_ok-take-in-Some-clause-fits : goal.returns-in_ok-take-in-Some-clause-fits
returns-in_ok-take-in-Some-clause-fits g c = λ met old e.
    let told = g.S.Shelf.told c.args.shelf.now in
    let mid = g.S.Shelf.told c.step_ahead.new.shelf in
    let repo = repo_view c.args.source.now in
    let mid_repo = repo_view c.step_ahead.new.repo in
    let heard = g.T.Shelf.told c.args.other.now in
    let target = repo_view c.args.target.now in
    let state = comparison_view c.args.self.now in
    let now = walk_view c.step_ahead.new.walk in
    let after = option_map walk_view c.take.new.walk in
    let item = item_view c.in-Some.item in
    let leads = some_holds c.in_ok-item.field-0 c.in-Some.item
    (λ i. IfSome told (λ t. LeadsOn (told_files t) repo.log repo.keys state.walk (item_view i ∷ []) now)) c.in-Some.is c.in_ok-item.ensures.item in
    let goes = goes_of told repo state.walk now item leads c.in_ok-item.ensures.walk_fits c.in_ok-item.ensures.archive in
    let takes = takes_first told mid repo mid_repo heard target item state.other after c.in_ok-item.ensures.same c.in_ok-item.ensures.kept
    c.in_ok-take-in-Some.ensures.takes in
    let last = g.S.Shelf.told c.take.new.shelf in
    let last_repo = repo_view c.take.new.source in
    let last_heard = g.T.Shelf.told c.take.new.other in
    let last_target = repo_view c.take.new.target in
    let same = c.in_ok-take-in-Some.ensures.same ∙ c.in_ok-item.ensures.same in
    let kept = c.in_ok-take-in-Some.ensures.kept ∙ c.in_ok-item.ensures.kept in
    let matched = c.take.new.matches in
    let are_matched = matched_later last told last_repo repo last_heard heard last_target target (sym same) (sym kept)
    (sym c.in_ok-take-in-Some.ensures.target_same) (sym c.in_ok-take-in-Some.ensures.target_kept) matched c.in_ok-take-in-Some.ensures.matched in
    let fits = both_go told repo heard target met state.name state.walk now state.other after old.front item matched
    (log_fits told repo _ c.requires.source_fits) (log_fits heard target _ c.requires.target_fits) old.read old.beside
    (λ none. (c.in_ok-take-in-Some.ensures.unread none).1) goes takes are_matched in
    fits_later told last repo last_repo heard last_heard target last_target met state.other
    (record { name = state.name; walk = now; other = after; matched = matched }) same kept
    c.in_ok-take-in-Some.ensures.target_same c.in_ok-take-in-Some.ensures.target_kept fits

pub returns-in_ok-take-in-Some-clause-more : goal.returns-in_ok-take-in-Some-clause-more
returns-in_ok-take-in-Some-clause-more g c = λ e.
    let told = g.S.Shelf.told c.args.shelf.now in
    let repo = repo_view c.args.source.now in
    let state = comparison_view c.args.self.now in
    let now = walk_view c.step_ahead.new.walk in
    let item = item_view c.in-Some.item in
    let leads = some_holds c.in_ok-item.field-0 c.in-Some.item
    (λ i. IfSome told (λ t. LeadsOn (told_files t) repo.log repo.keys state.walk (item_view i ∷ []) now)) c.in-Some.is c.in_ok-item.ensures.item in
    goes_one told repo state.walk now item
    (goes_of told repo state.walk now item leads c.in_ok-item.ensures.walk_fits c.in_ok-item.ensures.archive)

pub returns-in-None-clause-equal : goal.returns-in-None-clause-equal
returns-in-None-clause-equal g c = λ e.
    let state = comparison_view c.args.self.now in
    both_end (g.S.Shelf.told c.args.shelf.now) (repo_view c.args.source.now) (g.T.Shelf.told c.args.other.now) (repo_view c.args.target.now) state.name
    state.walk state.other c.requires.fits.1.front c.requires.fits.0 c.requires.fits.1.read (c.in_ok-item.ensures.none (ap (λ x. Ok x) c.in-None.is))
    c.requires.fits.1.beside (c.finish.ensures.equal e)

pub returns-in-None-clause-differs : goal.returns-in-None-clause-differs
returns-in-None-clause-differs g c = λ met old e.
    let heard = g.T.Shelf.told c.args.other.now in
    let target = repo_view c.args.target.now in
    let state = comparison_view c.args.self.now in
    one_ends (g.S.Shelf.told c.args.shelf.now) (repo_view c.args.source.now) heard target state.name state.walk state.other old.front
    met old.read (c.in_ok-item.ensures.none (ap (λ x. Ok x) c.in-None.is)) (log_fits heard target _ c.requires.target_fits)
    old.beside (c.finish.ensures.differs e)

pub take-requires-clause-matched : goal.take-requires-clause-matched
take-requires-clause-matched g c =
    let heard = g.T.Shelf.told c.args.other.now in
    let target = repo_view c.args.target.now in
    matched_later (g.S.Shelf.told c.args.shelf.now) (g.S.Shelf.told c.step_ahead.new.shelf) (repo_view c.args.source.now) (repo_view c.step_ahead.new.repo)
    heard heard target target c.in_ok-item.ensures.same c.in_ok-item.ensures.kept refl refl (comparison_view c.args.self.now).matched
    c.requires.fits.1.matched

pub returns-in-None-clause-matched : goal.returns-in-None-clause-matched
returns-in-None-clause-matched g c =
    let heard = g.T.Shelf.told c.args.other.now in
    let last = g.T.Shelf.told c.finish.new.other in
    on_ok c.finish.result _ _ (λ same. matched_later (g.S.Shelf.told c.args.shelf.now) (g.S.Shelf.told c.step_ahead.new.shelf) (repo_view c.args.source.now)
    (repo_view c.step_ahead.new.repo) heard last (repo_view c.args.target.now) (repo_view c.finish.new.target) c.in_ok-item.ensures.same
    c.in_ok-item.ensures.kept same c.finish.ensures.kept (comparison_view c.args.self.now).matched c.requires.fits.1.matched)
    (keeps_ok _ heard last c.finish.result c.finish.ensures.same)
