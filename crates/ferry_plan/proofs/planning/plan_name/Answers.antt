use Rattle.std.proofs.Common.{[], refl}
use Rattle.std.proofs.lemmas.Result.{IfErr-weaker, on_ok_weaker}
use Rattle.ferry_compare.proofs.StepLemmas.{keeps_ok, matched_later}
use Rattle.ferry_plan.proofs.NamesLemmas.{again_planned, archive_told, listed_planned, present_planned}
use Rattle.ferry_plan.proofs.PresentLemmas.{apart_from, lacking, none_some}
use Rattle.ferry_plan.proofs.TallyLemmas.{tallies_none}
use Rattle.ferry_plan.proofs.planning.plan_name.Goals as goal
use Rattle.ferry_plan.specs.Fault.{shelf_failed}
use Rattle.ferry_repo.specs.Archives.{archive_named}
use Rattle.ferry_repo.specs.Opening.{repo_view}

pub returns-then-has_archive-clause-planned : goal.returns-then-has_archive-clause-planned
returns-then-has_archive-clause-planned g c =
    let target = repo_view c.args.target.now in
    let tally = c.args.tally.now in
    let named = c.has_archive.ensures.has.0 c.if-has_archive.true in
    on_ok_weaker c.compare_archive.result
    (λ equal. (
      [],
      (
        tallies_none target.keys target.log tally,
        present_planned (g.S.Shelf.told c.args.shelf.now) (repo_view c.args.source.now) tally.block (g.T.Shelf.told c.args.other.now) target
            c.args.before.now c.args.name.now named equal,
      ),
    )) c.compare_archive.ensures.equal

pub returns-then-has_archive-clause-refused : goal.returns-then-has_archive-clause-refused
returns-then-has_archive-clause-refused g c =
    IfErr-weaker c.compare_archive.result _ _ (λ fault r. r c.args.tally.now.block) c.compare_archive.ensures.refused

pub returns-then-has_archive-clause-unread : goal.returns-then-has_archive-clause-unread
returns-then-has_archive-clause-unread g c lacks =
    absurd (none_some (archive_named c.args.name.now (repo_view c.args.target.now).manifest.archives) lacks
    (c.has_archive.ensures.has.0 c.if-has_archive.true))

pub returns-then-is_among-clause-planned : goal.returns-then-is_among-clause-planned
returns-then-is_among-clause-planned g c =
    let target = repo_view c.args.target.now in
    let tally = c.args.tally.now in
    let name = c.args.name.now in
    let lacks = lacking (archive_named name target.manifest.archives) c.has_archive.result c.has_archive.ensures.has c.if-has_archive.false in (
      [],
      (
        tallies_none target.keys target.log tally,
        again_planned (g.S.Shelf.told c.args.shelf.now) (repo_view c.args.source.now) tally.block (g.T.Shelf.told c.args.other.now) target
            c.args.before.now name lacks (c.is_among.ensures.among.0 c.if-is_among.true),
      ),
    )

pub returns-clause-planned : goal.returns-clause-planned
returns-clause-planned g c =
    let target = repo_view c.args.target.now in
    let tally = c.args.tally.now in
    let name = c.args.name.now in
    let before = c.args.before.now in
    let lacks = lacking (archive_named name target.manifest.archives) c.has_archive.result c.has_archive.ensures.has c.if-has_archive.false in
    let apart = apart_from before name c.is_among.result c.is_among.ensures.among c.if-is_among.false in
    on_ok_weaker c.take_archive.result
    (λ taken. (
      taken.0,
      (
        taken.1.0,
        listed_planned (g.S.Shelf.told c.args.shelf.now) (repo_view c.args.source.now) tally.block (g.T.Shelf.told c.args.other.now) target before name
            taken.0 lacks apart taken.1.1,
      ),
    )) c.take_archive.ensures.taken

pub returns-clause-refused : goal.returns-clause-refused
returns-clause-refused g c =
    let target = repo_view c.args.target.now in
    let name = c.args.name.now in
    let lacks = lacking (archive_named name target.manifest.archives) c.has_archive.result c.has_archive.ensures.has c.if-has_archive.false in
    IfErr-weaker c.take_archive.result _ _
    (λ fault refuses. archive_told (g.S.Shelf.told c.args.shelf.now) (repo_view c.args.source.now) c.args.tally.now.block (g.T.Shelf.told c.args.other.now)
    target name fault lacks refuses) c.take_archive.ensures.refused

pub returns-clause-matched : goal.returns-clause-matched
returns-clause-matched g c =
    let told = g.S.Shelf.told c.args.shelf.now in
    let later = g.S.Shelf.told c.take_archive.new.shelf in
    let heard = g.T.Shelf.told c.args.other.now in
    let target = repo_view c.args.target.now in
    on_ok_weaker c.take_archive.result
    (λ same. matched_later told later (repo_view c.args.source.now) (repo_view c.take_archive.new.source) heard heard target target same
    c.take_archive.ensures.kept refl refl c.args.matches.now c.requires.matched)
    (keeps_ok shelf_failed told later c.take_archive.result c.take_archive.ensures.same)
