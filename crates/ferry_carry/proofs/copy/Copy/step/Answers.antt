use Rattle.std.proofs.Common.{◌≡◌, ◌≤◌, ◌++◌, Bool, true, false, [], inl, Option, Result, Ok, Err, IfErr, refl, ◌∙◌, ap, arith, rules}
use Rattle.ferry_carry.proofs.CopyLemmas.{copied_packable}
use Rattle.ferry_carry.proofs.FillingLemmas.{item_filled, next_filled, where_target}
use Rattle.ferry_piece.proofs.GatherLemmas.{rest_here, rest_then}
use Rattle.ferry_piece.proofs.PieceLemmas.{pieces_at, pieces_then}
use Rattle.ferry_carry.proofs.RefusalLemmas.{item_refused, next_refused, next_unbroken, next_unused}
use Rattle.ferry_carry.proofs.StepLemmas.{StepIs, content_begun, copied_behind, copied_refused, most_added, most_taken, spelling_begun, step_copies}
use Rattle.ferry_carry.proofs.StepLemmas.{step_counts}
use Rattle.ferry_piece.proofs.WorkLemmas.{err_is, gathered_as, gathered_err, gathered_none, gathered_nothing}
use Rattle.ferry_carry.proofs.copy.Copy.step.Goals as goal
use Rattle.ferry_carry.specs.Carrying.{origin}
use Rattle.ferry_carry.specs.Filling.{FillsCopy}
use Rattle.ferry_piece.specs.Puts.{contents_in}
use Rattle.ferry_carry.specs.Refusals.{RefusesStep}
use Rattle.ferry_carry.specs.declared.copy.Copy.{Copy}
use Rattle.ferry_piece.specs.declared.fault.CarryFault.{CarryFault}
use Rattle.ferry_compare.proofs.StepLemmas.{some_holds}
use Rattle.ferry_item.specs.Item.{item_view}
use Rattle.ferry_item.specs.Writing.{IsPackable}
use Rattle.ferry_item.specs.declared.item.ChunkRefs.{ChunkRefs}
use Rattle.ferry_item.specs.declared.item.Item.{Item}
use Rattle.ferry_repo.specs.Walk.{walk_view}
use Rattle.ferry_repo.specs.Opening.{cached_in, repo_view}

pub write_item-requires-clause-packable : goal.write_item-requires-clause-packable
write_item-requires-clause-packable g c =
    let copied = c.in_ok-chunks.ensures.copied in
    let block : c.next.new.self.block ≡ c.args.self.now.block = ap (λ (copy : Copy). copy.block) c.in_ok-item.ensures.others in
    let least : 1 ≤ c.next.new.self.block = omega (arith, block, c.requires.copy.ready.least) in
    let most : c.next.new.self.block ≤ 8388608 = omega (arith, block, c.requires.copy.ready.most) in
    let packable : IsPackable (item_view c.in-Some.item) =
    some_holds c.in_ok-item.field-0 c.in-Some.item (λ (item : Item). IsPackable (item_view item)) c.in-Some.is c.in_ok-item.ensures.packable in
    copied_packable (g.S.Shelf.told c.next.new.shelf) (repo_view c.next.new.source) c.next.new.self.block (repo_view c.args.store.now.repo).keys
    (item_view c.in-Some.item) c.in_ok-chunks.chunks (contents_in copied.0) least most packable copied.1.1.1.1.1.0

pub returns-in_err-item-clause-steps : goal.returns-in_err-item-clause-steps
returns-in_err-item-clause-steps g c =
    let told = g.S.Shelf.told c.args.shelf.now in
    let source = repo_view c.args.source.now in
    let store = c.args.store.now in
    let copy = c.args.self.now in
    let a = g.D.Shelf.told c.args.depot.now in
    let n = g.D.Shelf.faults c.args.depot.now in
    let fault = c.in_err-item.field-0.0 in (
      [],
      err_is c.from_residual.result fault (StepIs told source copy c.next.new.self store store [] a a n n) c.from_residual.ensures.1 (
        gathered_nothing {T = Bool} copy.contents.checkpoint store a n fault c.in_err-item.ensures.spares.still
            (next_unbroken told source (walk_view copy.walk) fault c.in_err-item.ensures.refused)
            (next_unused told source (walk_view copy.walk) fault c.in_err-item.ensures.refused),
        ((inl refl, next_filled told source copy fault c.in_err-item.ensures.refused), tt),
      ),
    )

pub returns-in_default-clause-steps : goal.returns-in_default-clause-steps
returns-in_default-clause-steps g c =
    let ok : Option Item → Result (Option Item) CarryFault = λ found. Ok found in (
      [],
      (
        gathered_none {T = Bool} c.args.self.now.contents.checkpoint c.args.store.now (g.D.Shelf.told c.args.depot.now) (g.D.Shelf.faults c.args.depot.now)
            false,
        (
          tt,
          record {
            none = refl;
            end = c.in_ok-item.ensures.none (ap ok c.in_default.is);
            contents = ap (λ (copy : Copy). copy.contents) c.in_ok-item.ensures.others;
            stream = ap (λ (copy : Copy). copy.stream) c.in_ok-item.ensures.others;
          },
        ),
      ),
    )

pub returns-in_err-chunks-clause-steps : goal.returns-in_err-chunks-clause-steps
returns-in_err-chunks-clause-steps g c =
    let told = g.S.Shelf.told c.args.shelf.now in
    let source = repo_view c.args.source.now in
    let copy = c.args.self.now in
    let next = c.next.new.self in
    let came = c.in_err-chunks.ensures.copied in
    let store = c.args.store.now in
    let now = c.copy_chunks.new.store in
    let a = g.D.Shelf.told c.args.depot.now in
    let b = g.D.Shelf.told c.copy_chunks.new.depot in
    let n = g.D.Shelf.faults c.args.depot.now in
    let m = g.D.Shelf.faults c.copy_chunks.new.depot in
    let most = copy.contents.checkpoint in
    let fault = c.in_err-chunks.field-0.0 in
    let taken = some_holds c.in_ok-item.field-0 c.in-Some.item _ c.in-Some.is c.in_ok-item.ensures.item in (
      came.0,
      err_is c.from_residual-in_err-chunks.result fault (StepIs told source copy c.copy_chunks.new.self store now came.0 a b n m)
          c.from_residual-in_err-chunks.ensures.1 (
            gathered_err {T = Option ChunkRefs} {U = Bool} most store now came.0 a b n m fault
                (pieces_at {T = Option ChunkRefs} most next.contents.checkpoint store now came.0 a b n m (Err fault)
                (most_taken copy next c.in_ok-item.ensures.others) came.1.0),
            (
              (
                content_begun told (g.S.Shelf.told c.next.new.shelf) source (repo_view c.next.new.source) (repo_view store.repo).keys copy next
                    (item_view c.in-Some.item) came.0 c.in_ok-item.ensures.source.same c.in_ok-item.ensures.source.kept c.in_ok-item.ensures.others taken
                    came.1.1.0
                    came.1.1.1.0,
                item_filled told (g.S.Shelf.told c.next.new.shelf) source (repo_view c.next.new.source) (cached_in c.args.source.now) copy next
                    (item_view c.in-Some.item) came.0 fault c.in_ok-item.ensures.source.same c.in_ok-item.ensures.source.kept
                    (ap (λ (x : Copy). x.block) c.in_ok-item.ensures.others) c.requires.both.source taken came.1.1.0 came.1.1.1.1.0,
              ),
              tt,
            ),
          ),
    )

pub returns-in_err-write_item-clause-steps : goal.returns-in_err-write_item-clause-steps
returns-in_err-write_item-clause-steps g c =
    let told = g.S.Shelf.told c.args.shelf.now in
    let source = repo_view c.args.source.now in
    let copy = c.args.self.now in
    let next = c.next.new.self in
    let middle = c.copy_chunks.new.self in
    let came = c.in_ok-chunks.ensures.copied in
    let begun = most_taken copy next c.in_ok-item.ensures.others in
    let held = most_added copy next middle c.in_ok-item.ensures.others c.in_ok-chunks.ensures.contents.others c.requires.copy.ready.same in
    let wrote = c.in_err-write_item.ensures.written in
    let store = c.args.store.now in
    let now = c.write_item.new.store in
    let more = came.0 ++ wrote.0 in
    let a = g.D.Shelf.told c.args.depot.now in
    let b = g.D.Shelf.told c.write_item.new.depot in
    let n = g.D.Shelf.faults c.args.depot.now in
    let m = g.D.Shelf.faults c.write_item.new.depot in
    let fault = c.in_err-write_item.field-0.0 in
    let taken = some_holds c.in_ok-item.field-0 c.in-Some.item _ c.in-Some.is c.in_ok-item.ensures.item in (
      more,
      err_is c.from_residual-in_err-write_item.result fault (StepIs told source copy c.write_item.new.self store now more a b n m)
          c.from_residual-in_err-write_item.ensures.1 (
            gathered_err {T = Unit {0}} {U = Bool} copy.contents.checkpoint store now more a b n m fault
                (pieces_then {T = Option ChunkRefs} {U = Unit {0}} copy.contents.checkpoint next.contents.checkpoint
                middle.stream.checkpoint store c.copy_chunks.new.store now came.0 wrote.0 a
                (g.D.Shelf.told c.copy_chunks.new.depot) b n (g.D.Shelf.faults c.copy_chunks.new.depot) m c.in_ok-chunks.chunks (Err fault)
                begun held c.in_ok-chunks.ensures.both.target.rest tt came.1.0 wrote.1.0),
            (
              (
                spelling_begun told (g.S.Shelf.told c.next.new.shelf) source (repo_view c.next.new.source) (repo_view store.repo).keys copy next middle
                    (item_view c.in-Some.item) c.in_ok-chunks.chunks came.0 wrote.0 c.in_ok-item.ensures.source.same c.in_ok-item.ensures.source.kept
                    c.in_ok-item.ensures.others c.in_ok-chunks.ensures.contents.others taken came.1.1.0 came.1.1.1.1.1.0 wrote.1.1.0 wrote.1.1.1.0,
                where_target told fault (λ there refusal. FillsCopy there source copy refusal more)
                    c.in_err-write_item.ensures.refusal.target,
              ),
              tt,
            ),
          ),
    )

pub returns-clause-steps : goal.returns-clause-steps
returns-clause-steps g c =
    let told = g.S.Shelf.told c.args.shelf.now in
    let source = repo_view c.args.source.now in
    let copy = c.args.self.now in
    let next = c.next.new.self in
    let middle = c.copy_chunks.new.self in
    let copy_now = c.write_item.new.self in
    let came = c.in_ok-chunks.ensures.copied in
    let begun = most_taken copy next c.in_ok-item.ensures.others in
    let held = most_added copy next middle c.in_ok-item.ensures.others c.in_ok-chunks.ensures.contents.others c.requires.copy.ready.same in
    let wrote = c.in_ok-write_item.ensures.written in
    let store = c.args.store.now in
    let now = c.write_item.new.store in
    let more = came.0 ++ wrote.0 in
    let a = g.D.Shelf.told c.args.depot.now in
    let b = g.D.Shelf.told c.write_item.new.depot in
    let n = g.D.Shelf.faults c.args.depot.now in
    let m = g.D.Shelf.faults c.write_item.new.depot in
    let taken = some_holds c.in_ok-item.field-0 c.in-Some.item _ c.in-Some.is c.in_ok-item.ensures.item in (
      more,
      (
        gathered_as {T = Unit {0}} {U = Bool} copy.contents.checkpoint store now more a b n m tt true
            (pieces_then {T = Option ChunkRefs} {U = Unit {0}} copy.contents.checkpoint next.contents.checkpoint
            middle.stream.checkpoint store c.copy_chunks.new.store now came.0 wrote.0 a
            (g.D.Shelf.told c.copy_chunks.new.depot) b n (g.D.Shelf.faults c.copy_chunks.new.depot) m c.in_ok-chunks.chunks (Ok tt)
            begun held c.in_ok-chunks.ensures.both.target.rest c.in_ok-write_item.ensures.target.rest came.1.0 wrote.1.0),
        (
          tt,
          (
            step_copies told (g.S.Shelf.told c.next.new.shelf) source (repo_view c.next.new.source) (repo_view store.repo).keys
                (repo_view c.copy_chunks.new.store.repo).keys copy next middle copy_now (item_view c.in-Some.item)
                c.in_ok-chunks.chunks came.0 wrote.0 c.in_ok-item.ensures.source.same c.in_ok-item.ensures.source.kept
                c.in_ok-chunks.ensures.both.target.rest.keys
                c.in_ok-item.ensures.others c.in_ok-chunks.ensures.contents.others c.in_ok-write_item.ensures.others taken came.1.1.0 came.1.1.1.1.1.0
                wrote.1.1.0
                wrote.1.1.1.1.0 c.in_ok-write_item.ensures.again,
            step_counts copy next middle copy_now came.0 wrote.0 c.in_ok-item.ensures.others c.in_ok-chunks.ensures.contents.others
                c.in_ok-write_item.ensures.others came.1.1.0 wrote.1.1.0 came.1.1.1.1.1.1 wrote.1.1.1.1.1,
          ),
        ),
      ),
    )

pub returns-in_err-item-clause-copied : goal.returns-in_err-item-clause-copied
returns-in_err-item-clause-copied g c =
    λ time named added so.
    let store = c.args.store.now in
    let copy = c.args.self.now in
    let a = g.D.Shelf.told c.args.depot.now in
    let n = g.D.Shelf.faults c.args.depot.now in
    let steps = returns-in_err-item-clause-steps g c in (
      steps.0,
      copied_refused time (g.S.Shelf.told c.args.shelf.now) a a (repo_view c.args.source.now) named store store copy c.next.new.self added steps.0 n n
          c.requires.copy.ready so (cached_in c.args.source.now) c.from_residual.result c.in_err-item.field-0.0 c.requires.both.source
          c.from_residual.ensures.1 steps.1,
    )

pub returns-in_default-clause-copied : goal.returns-in_default-clause-copied
returns-in_default-clause-copied g c =
    λ time named added so.
    let store = c.args.store.now in
    let a = g.D.Shelf.told c.args.depot.now in
    let n = g.D.Shelf.faults c.args.depot.now in
    let copy = c.args.self.now in
    let copy_now = c.next.new.self in
    let steps = returns-in_default-clause-steps g c in
    let archive : copy_now.archive ≡ copy.archive = ap (λ (x : Copy). x.archive) c.in_ok-item.ensures.others in
    let block : copy_now.block ≡ copy.block = ap (λ (x : Copy). x.block) c.in_ok-item.ensures.others in (
      steps.0,
      copied_behind time (g.S.Shelf.told c.args.shelf.now) a a (repo_view c.args.source.now) named store store copy copy_now added steps.0 n n
          c.requires.copy.ready
          so (cached_in c.args.source.now) false c.requires.both.source c.requires.both.target.fits (rest_here store) archive block
          (most_taken copy copy_now c.in_ok-item.ensures.others) steps.1,
    )

pub returns-in_err-chunks-clause-copied : goal.returns-in_err-chunks-clause-copied
returns-in_err-chunks-clause-copied g c =
    λ time named added so.
    let steps = returns-in_err-chunks-clause-steps g c in (
      steps.0,
      copied_refused time (g.S.Shelf.told c.args.shelf.now) (g.D.Shelf.told c.args.depot.now) (g.D.Shelf.told c.copy_chunks.new.depot)
          (repo_view c.args.source.now) named c.args.store.now c.copy_chunks.new.store c.args.self.now c.copy_chunks.new.self added steps.0
          (g.D.Shelf.faults c.args.depot.now) (g.D.Shelf.faults c.copy_chunks.new.depot) c.requires.copy.ready so (cached_in c.args.source.now)
          c.from_residual-in_err-chunks.result c.in_err-chunks.field-0.0 c.requires.both.source c.from_residual-in_err-chunks.ensures.1 steps.1,
    )

pub returns-in_err-write_item-clause-copied : goal.returns-in_err-write_item-clause-copied
returns-in_err-write_item-clause-copied g c =
    λ time named added so.
    let steps = returns-in_err-write_item-clause-steps g c in (
      steps.0,
      copied_refused time (g.S.Shelf.told c.args.shelf.now) (g.D.Shelf.told c.args.depot.now) (g.D.Shelf.told c.write_item.new.depot)
          (repo_view c.args.source.now) named c.args.store.now c.write_item.new.store c.args.self.now c.write_item.new.self added steps.0
          (g.D.Shelf.faults c.args.depot.now) (g.D.Shelf.faults c.write_item.new.depot) c.requires.copy.ready so (cached_in c.args.source.now)
          c.from_residual-in_err-write_item.result c.in_err-write_item.field-0.0 c.requires.both.source c.from_residual-in_err-write_item.ensures.1
          steps.1,
    )

pub returns-clause-copied : goal.returns-clause-copied
returns-clause-copied g c =
    λ time named added so.
    let store = c.args.store.now in
    let middle = c.copy_chunks.new.store in
    let now = c.write_item.new.store in
    let copy = c.args.self.now in
    let copy_now = c.write_item.new.self in
    let steps = returns-clause-steps g c in
    let archive : copy_now.archive ≡ copy.archive =
    ap (λ (x : Copy). x.archive) c.in_ok-write_item.ensures.others
    ∙ (ap (λ (x : Copy). x.archive) c.in_ok-chunks.ensures.contents.others ∙ ap (λ (x : Copy). x.archive) c.in_ok-item.ensures.others) in
    let block : copy_now.block ≡ copy.block =
    ap (λ (x : Copy). x.block) c.in_ok-write_item.ensures.others
    ∙ (ap (λ (x : Copy). x.block) c.in_ok-chunks.ensures.contents.others ∙ ap (λ (x : Copy). x.block) c.in_ok-item.ensures.others) in
    let most : copy_now.contents.checkpoint ≡ copy.contents.checkpoint =
    ap (λ (x : Copy). x.contents.checkpoint) c.in_ok-write_item.ensures.others
    ∙ (c.in_ok-chunks.ensures.contents.checkpoint ∙ ap (λ (x : Copy). x.contents.checkpoint) c.in_ok-item.ensures.others) in (
      steps.0,
      copied_behind time (g.S.Shelf.told c.args.shelf.now) (g.D.Shelf.told c.args.depot.now) (g.D.Shelf.told c.write_item.new.depot)
          (repo_view c.args.source.now) named store now copy copy_now added steps.0 (g.D.Shelf.faults c.args.depot.now)
          (g.D.Shelf.faults c.write_item.new.depot) c.requires.copy.ready so (cached_in c.args.source.now) true c.requires.both.source
          c.requires.both.target.fits
          (rest_then store middle now c.in_ok-chunks.ensures.both.target.rest c.in_ok-write_item.ensures.target.rest) archive block most steps.1,
    )

pub returns-in_err-item-clause-refused : goal.returns-in_err-item-clause-refused
returns-in_err-item-clause-refused g c =
    λ time named added named_is so.
    let told = g.S.Shelf.told c.args.shelf.now in
    let source = repo_view c.args.source.now in
    let copy = c.args.self.now in
    let heard = g.D.Shelf.told c.args.depot.now in
    let fault = c.in_err-item.field-0.0 in
    err_is c.from_residual.result fault
    (λ (r : Result Bool CarryFault). IfErr r (RefusesStep (origin told source copy.block copy.contents.checkpoint time) heard named.name))
    c.from_residual.ensures.1
    (next_refused told heard source copy.block copy.contents.checkpoint time named c.args.store.now copy added fault named_is so
    c.in_err-item.ensures.refused)

pub returns-in_err-chunks-clause-refused : goal.returns-in_err-chunks-clause-refused
returns-in_err-chunks-clause-refused g c =
    λ time named added named_is so.
    let told = g.S.Shelf.told c.args.shelf.now in
    let source = repo_view c.args.source.now in
    let copy = c.args.self.now in
    let heard = g.D.Shelf.told c.args.depot.now in
    let fault = c.in_err-chunks.field-0.0 in
    let block : c.next.new.self.block ≡ copy.block = ap (λ (x : Copy). x.block) c.in_ok-item.ensures.others in
    let taken = some_holds c.in_ok-item.field-0 c.in-Some.item _ c.in-Some.is c.in_ok-item.ensures.item in
    err_is c.from_residual-in_err-chunks.result fault
    (λ (r : Result Bool CarryFault). IfErr r (RefusesStep (origin told source copy.block copy.contents.checkpoint time) heard named.name))
    c.from_residual-in_err-chunks.ensures.1
    (item_refused told (g.S.Shelf.told c.next.new.shelf) heard source (repo_view c.next.new.source) (cached_in c.args.source.now) copy.block
    c.next.new.self.block copy.contents.checkpoint time named c.args.store.now copy added (item_view c.in-Some.item) (walk_view c.next.new.self.walk) fault
    c.in_ok-item.ensures.source.same
    c.in_ok-item.ensures.source.kept block c.requires.both.source taken named_is so c.in_err-chunks.ensures.refused)

pub returns-clause-copy : goal.returns-clause-copy
returns-clause-copy g c = record {
  archive = search rules;
  checkpoint = search rules;
  block = search rules;
  ready = record {
    least = search rules;
    most = search rules;
    contents_block = search rules;
    contents_piece = search rules;
    contents_chunks = search rules;
    stream_block_is = search rules;
    stream_room = search rules;
    checkpoint = search rules;
    same = search rules;
    packable = search rules;
  };
  walk_fits = search rules;
}
