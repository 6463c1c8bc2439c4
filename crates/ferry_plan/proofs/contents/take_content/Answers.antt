use Rattle.std.proofs.Common.{Some, refl, subst, sym}
use Rattle.ferry_carry.proofs.KnownLemmas.{cut_noted, unput, unput_contents, unput_of}
use Rattle.ferry_disk.proofs.DeviceLemmas.{told_same, told_with}
use Rattle.ferry_disk.specs.Files.{Files}
use Rattle.ferry_plan.proofs.HeldLemmas.{held_tallied}
use Rattle.ferry_plan.proofs.contents.take_content.Goals as goal
use Rattle.ferry_rechunk.specs.Cut.{cut}
use Rattle.ferry_repo.specs.Archives.{HoldsJoined}
use Rattle.ferry_repo.specs.Opening.{FitsRepo, RepoState, cached_in, repo_view}

pub returns-in-Some-clause-taken : goal.returns-in-Some-clause-taken
returns-in-Some-clause-taken g c =
    let tally = c.args.tally.now in
    let target = repo_view c.args.target.now in
    let held = c.in-Some.ensures.held (g.S.Shelf.told c.args.shelf.now) c.requires.source_fits in
    let pieces = cut tally.block held.content in (
      unput pieces,
      (
        held_tallied target.keys target.log tally pieces held.held,
        (unput_of pieces, (held.content, (unput_contents pieces, (held.copied_are, (held.few, held.holds))))),
      ),
    )

pub note-requires : goal.note-requires
note-requires g c =
    let copies = c.in-Ok.ensures.taken.1.1.1 in record {
      cut = (
        copies.0,
        cut_noted (repo_view c.args.target.now).keys c.keys.result.now c.args.tally.now.block c.cut_content.new.tally.block copies.0 c.in-Ok.copied
            c.as_slice.result.now c.keys.ensures.keys c.in-Ok.ensures.block c.as_slice.ensures.chunks copies.1.1.0,
      );
    }

pub returns-in-Ok-clause-source_fits : goal.returns-in-Ok-clause-source_fits
returns-in-Ok-clause-source_fits g c =
    let later = g.S.Shelf.told c.cut_content.new.shelf in
    let source = repo_view c.args.source.now in
    let middle = c.cut_content.new.source in
    let now = c.note.new.self in
    let copies = c.in-Ok.ensures.taken.1.1.1 in
    let Holds : Files → RepoState → Type 0 = λ f repo. HoldsJoined f repo.log repo.keys (Some c.args.chunks.now) (Some copies.0) in
    told_with later later (λ f. FitsRepo f (repo_view middle) (cached_in middle)) (λ f. Holds f source)
    (λ f. FitsRepo f (repo_view now) (cached_in now)) refl
    (λ f fit holds. c.note.ensures.fits f fit (
      copies.0,
      (
        cut_noted (repo_view c.args.target.now).keys c.keys.result.now c.args.tally.now.block c.cut_content.new.tally.block copies.0 c.in-Ok.copied
            c.as_slice.result.now c.keys.ensures.keys c.in-Ok.ensures.block c.as_slice.ensures.chunks copies.1.1.0,
        subst (Holds f) (sym c.in-Ok.ensures.kept) holds,
      ),
    )) c.in-Ok.ensures.source_fits
    (told_same (g.S.Shelf.told c.args.shelf.now) later (λ f. Holds f source) c.in-Ok.ensures.same copies.1.1.1.1)
