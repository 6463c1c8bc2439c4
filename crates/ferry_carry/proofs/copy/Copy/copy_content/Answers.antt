use Rattle.std.proofs.Common.{◌∙◌, Some, ap, refl, subst, sym}
use Rattle.ferry_carry.proofs.KnownLemmas.{answered_adds, cut_noted, known_begun, known_copied, unput, unput_counts, unput_of}
use Rattle.ferry_carry.proofs.copy.Copy.copy_content.Goals as goal
use Rattle.ferry_disk.proofs.DeviceLemmas.{told_same, told_with}
use Rattle.ferry_disk.specs.Files.{Files}
use Rattle.ferry_item.specs.declared.item.ChunkRefs.{ChunkRefs}
use Rattle.ferry_carry.specs.declared.copy.Copy.{Copy}
use Rattle.ferry_piece.specs.Puts.{Content}
use Rattle.ferry_rechunk.specs.Cut.{cut}
use Rattle.ferry_repo.specs.Archives.{HoldsJoined}
use Rattle.ferry_repo.specs.Opening.{FitsRepo, RepoState, cached_in, repo_view}

pub returns-in-Some-clause-copied : goal.returns-in-Some-clause-copied
returns-in-Some-clause-copied g c =
    let told = g.S.Shelf.told c.args.shelf.now in
    let source = repo_view c.args.source.now in
    let store = c.args.store.now in
    let block = c.args.self.now.block in
    let refs = c.args.chunks.now in
    let copied = c.in-Some.copied in
    let contents = c.args.self.now.contents in
    let known = c.in-Some.ensures.known told c.requires.both.source in
    let pieces = cut block known.content in (
      unput pieces,
      (
        answered_adds {T = ChunkRefs} contents.checkpoint store pieces (g.D.Shelf.told c.args.depot.now) (g.D.Shelf.faults c.args.depot.now) copied
            c.requires.ready.checkpoint known.answered,
        (
          unput_of pieces,
          (
            known_begun told source store block refs copied known,
            (tt, (known_copied told source store block refs copied known, unput_counts Content contents pieces)),
          ),
        ),
      ),
    )

pub note-requires : goal.note-requires
note-requires g c =
    let store = c.args.store.now in
    let copies = c.in-Ok.ensures.copied.1.1.1.1.1.0 in record {
      cut = (
        copies.0,
        cut_noted (repo_view store.repo).keys c.keys.result.now c.args.self.now.block c.cut_content.new.self.block copies.0 c.in-Ok.copied
            c.as_slice.result.now (c.keys.ensures.keys ∙ c.in-Ok.ensures.both.target.rest.keys)
            (ap (λ (x : Copy). x.block) c.in-Ok.ensures.contents.others) c.as_slice.ensures.chunks copies.1.1.0,
      );
    }

pub returns-in-Ok-clause-both : goal.returns-in-Ok-clause-both
returns-in-Ok-clause-both g c =
    let both = c.in-Ok.ensures.both in
    let store = c.args.store.now in
    let told = g.S.Shelf.told c.args.shelf.now in
    let later = g.S.Shelf.told c.cut_content.new.shelf in
    let source = repo_view c.args.source.now in
    let middle = c.cut_content.new.source in
    let now = c.note.new.self in
    let refs = c.args.chunks.now in
    let copies = c.in-Ok.ensures.copied.1.1.1.1.1.0 in
    let Holds : Files → RepoState → Type 0 = λ f repo. HoldsJoined f repo.log repo.keys (Some refs) (Some copies.0) in record {
      source = record {
        fits = told_with later later (λ f. FitsRepo f (repo_view middle) (cached_in middle)) (λ f. Holds f source)
            (λ f. FitsRepo f (repo_view now) (cached_in now)) refl
            (λ f fit holds. c.note.ensures.fits f fit (
              copies.0,
              (
                cut_noted (repo_view store.repo).keys c.keys.result.now c.args.self.now.block c.cut_content.new.self.block copies.0 c.in-Ok.copied
                    c.as_slice.result.now (c.keys.ensures.keys ∙ both.target.rest.keys)
                    (ap (λ (x : Copy). x.block) c.in-Ok.ensures.contents.others) c.as_slice.ensures.chunks copies.1.1.0,
                subst (Holds f) (sym both.source.kept) holds,
              ),
            )) both.source.fits (told_same told later (λ f. Holds f source) both.source.same copies.1.1.1.1);
        kept = c.note.ensures.kept ∙ both.source.kept;
        same = both.source.same;
        cause = both.source.cause;
      };
      target = both.target;
      drawn = both.drawn;
    }
