use Rattle.std.proofs.Common.{◌≡◌, ◌≤◌, ◌++◌, ℕ, List, Some, length, refl, sym, ◌∙◌, ap, subst, arith}
use Rattle.std.proofs.lemmas.Option.{IfSome_then}
use Rattle.ferry_carry.proofs.CopyLemmas.{content_copied}
use Rattle.ferry_piece.proofs.PutsLemmas.{contents_append, of_append}
use Rattle.ferry_carry.specs.Copying.{CopiesContent}
use Rattle.ferry_piece.specs.Puts.{Content, contents_in}
use Rattle.ferry_carry.specs.Refusals.{IsTooLong}
use Rattle.ferry_disk.specs.Files.{Files}
use Rattle.ferry_item.specs.declared.item.ChunkRef.{ChunkRef}
use Rattle.ferry_plan.proofs.StepLemmas.{source_refused}
use Rattle.ferry_plan.proofs.TallyLemmas.{contents_ready, contents_tallied, takes_then}
use Rattle.ferry_plan.proofs.contents.cut_content.Goals as goal
use Rattle.ferry_plan.specs.Steps.{RefusesBy}
use Rattle.ferry_rechunk.specs.Cut.{cut}
use Rattle.ferry_repo.proofs.FaultLemmas.{gives_err}
use Rattle.ferry_repo.specs.Opening.{repo_view}
use Rattle.ferry_repo.specs.Archives.{RefusesJoined}
use Rattle.ferry_repo.specs.declared.fault.RepoFault.{RepoFault}

pub returns-in_err-write_parts-clause-refused : goal.returns-in_err-write_parts-clause-refused
returns-in_err-write_parts-clause-refused g c =
    let told = g.S.Shelf.told c.args.shelf.now in
    let source = repo_view c.args.source.now in
    let chunks = c.args.chunks.now in
    let Short : Type 0 = IsTooLong c.args.tally.now.block (Some chunks) → ⊥ in
    let Refused : Files → RepoFault → Type 0 = λ there fault. RefusesJoined there source.log source.keys (Some chunks) fault × Short in
    let Long : Files → Type 0 = λ there. IsTooLong c.args.tally.now.block (Some chunks) in
    gives_err c.from_residual.result _ _ c.from_residual.ensures.1
    (λ fault is. subst (RefusesBy told Refused Long) (sym is)
    (source_refused told Refused Long c.in_err-write_parts.field-0.0
    (λ of_files. IfSome_then told (c.in_err-write_parts.ensures.refused of_files) (λ t r. (r, c.requires.short)))))

pub returns-clause-taken : goal.returns-clause-taken
returns-clause-taken g c =
    let wrote = c.in_ok-write_parts.ensures.written in
    let last = c.in_ok-copied.ensures.taken Content in
    let more = wrote.0 ++ last.0 in
    let ready = c.requires.ready in
    let tally = c.args.tally.now in
    let contents = tally.contents in
    let left = c.write_parts.new.pieces in
    let target = repo_view c.args.target.now in
    let keys = target.keys in
    let told = g.S.Shelf.told c.args.shelf.now in
    let source = repo_view c.args.source.now in
    let refs = c.args.chunks.now in
    let least : 1 ≤ tally.block = omega (arith, ready.least) in
    let few : length c.in_ok-copied.copied.items ≤ 4294967295 = omega arith in
    let pieces : contents_in more ≡ contents_in wrote.0 ++ cut left.cutter.block left.cutter.piece =
    contents_append wrote.0 last.0 ∙ ap (λ (ps : List (List ℕ)). contents_in wrote.0 ++ ps) last.1.1 in (
      more,
      (
        contents_tallied keys target.log tally c.finish.new.known c.finish.new.self more
            (takes_then Content keys target.log tally.known c.write_parts.new.known c.finish.new.known contents left c.finish.new.self wrote.0 last.0
            wrote.1.0 last.1.0),
        (
          of_append Content wrote.0 last.0 wrote.1.0.of last.1.0.of,
          subst (λ (ps : List (List ℕ)). CopiesContent told source tally.block keys (Some refs) ps (Some c.new.result)) (sym pieces)
              (subst (λ (copied : List ChunkRef). CopiesContent told source tally.block keys (Some refs)
              (contents_in wrote.0 ++ cut left.cutter.block left.cutter.piece) (Some copied)) (sym c.new.ensures.chunks)
              (content_copied told source tally.block keys keys refs contents.cutter left.cutter contents.chunks.items left.chunks.items
              c.in_ok-copied.copied.items (contents_in wrote.0) least ready.contents_block ready.contents_piece ready.contents_chunks refl wrote.1.1
              c.in_ok-copied.ensures.chunks few)),
        ),
      ),
    )

pub returns-clause-ready : goal.returns-clause-ready
returns-clause-ready g c =
    let ready = c.requires.ready in
    contents_ready c.args.tally.now c.finish.new.known c.finish.new.self
    (c.in_ok-copied.ensures.block ∙ (c.in_ok-write_parts.ensures.written.1.1.writes.block ∙ ready.contents_block)) c.in_ok-copied.ensures.begun.0
    c.in_ok-copied.ensures.begun.1 ready
