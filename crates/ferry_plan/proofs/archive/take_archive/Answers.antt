use Rattle.std.proofs.Common.{◌++◌, IfSome, option_map, sym, subst}
use Rattle.ferry_disk.specs.Device.{told_files}
use Rattle.ferry_manifest.specs.Record.Text.{archive_view}
use Rattle.ferry_plan.proofs.ArchiveLemmas.{archive_begins, archive_listed, archive_stops, record_stops}
use Rattle.ferry_plan.proofs.TallyLemmas.{tallies_then}
use Rattle.ferry_plan.proofs.archive.take_archive.Goals as goal
use Rattle.ferry_plan.specs.Steps.{ReachesLong, RefusesBy, RefusesFirst}
use Rattle.ferry_repo.proofs.FaultLemmas.{gives_err}
use Rattle.ferry_repo.specs.Archives.{HoldsNamed, archive_named}
use Rattle.ferry_repo.specs.Opening.{cached_in, repo_view}
use Rattle.ferry_repo.specs.Walk.{walk_view}

pub returns-in_err-archive-clause-refused : goal.returns-in_err-archive-clause-refused
returns-in_err-archive-clause-refused g c =
    let told = g.S.Shelf.told c.args.shelf.now in
    let source = repo_view c.args.source.now in
    let name = c.args.name.now in
    let block = c.args.tally.now.block in
    gives_err c.from_residual.result _ _ c.from_residual.ensures.1
    (λ fault is. subst (RefusesBy told (RefusesFirst source block name) (ReachesLong source block name)) (sym is)
    (record_stops told source block name c.in_err-archive.field-0.0 c.in_err-archive.ensures.refused))

pub returns-in_err-take_items-clause-refused : goal.returns-in_err-take_items-clause-refused
returns-in_err-take_items-clause-refused g c =
    let told = g.S.Shelf.told c.args.shelf.now in
    let later = g.S.Shelf.told c.archive.new.shelf in
    let source = repo_view c.args.source.now in
    let name = c.args.name.now in
    let block = c.args.tally.now.block in
    let archive = archive_view c.in-Some-2.archive in
    let walk = walk_view c.in_ok-walk.walk in
    let holds = subst
    (λ o. IfSome told (λ t. HoldsNamed (told_files t) source.log source.keys (archive_named name source.manifest.archives) (option_map archive_view o)))
    c.in-Some-2.is c.in_ok-archive.ensures.archive in
    let begins = archive_begins told source name archive c.in-Some.id walk holds c.in-Some.ensures.id c.in_ok-walk.ensures.walk in
    gives_err c.from_residual-in_err-take_items.result _ _ c.from_residual-in_err-take_items.ensures.1
    (λ fault is. subst (RefusesBy told (RefusesFirst source block name) (ReachesLong source block name)) (sym is)
    (archive_stops told later source (repo_view c.archive.new.self) (cached_in c.args.source.now) block name archive walk c.in_err-take_items.field-0.0
    c.in_ok-archive.ensures.same c.in_ok-archive.ensures.kept c.requires.source_fits begins c.in_err-take_items.ensures.refused))

pub returns-clause-taken : goal.returns-clause-taken
returns-clause-taken g c =
    let told = g.S.Shelf.told c.args.shelf.now in
    let later = g.S.Shelf.told c.archive.new.shelf in
    let source = repo_view c.args.source.now in
    let target = repo_view c.args.target.now in
    let name = c.args.name.now in
    let tally = c.args.tally.now in
    let archive = archive_view c.in-Some-2.archive in
    let walk = walk_view c.in_ok-walk.walk in
    let took = c.in_ok-take_items.ensures.taken in
    let last = c.in_ok-end_stream.ensures.taken in
    let holds = subst
    (λ o. IfSome told (λ t. HoldsNamed (told_files t) source.log source.keys (archive_named name source.manifest.archives) (option_map archive_view o)))
    c.in-Some-2.is c.in_ok-archive.ensures.archive in
    let begins = archive_begins told source name archive c.in-Some.id walk holds c.in-Some.ensures.id c.in_ok-walk.ensures.walk in (
      took.0 ++ last.0,
      (
        tallies_then target.keys target.log tally c.take_items.new.tally c.end_stream.new.tally took.0 last.0 took.1.0 last.1.0,
        archive_listed told later source (repo_view c.archive.new.self) target.keys tally.block name archive walk took.0 last.0 tally.stream.cutter.piece
            c.take_items.new.tally.stream.cutter.piece c.in_ok-archive.ensures.same c.in_ok-archive.ensures.kept c.requires.begun begins took.1.1 last.1.1,
      ),
    )
