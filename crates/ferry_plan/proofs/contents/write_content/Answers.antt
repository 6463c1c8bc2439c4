use Rattle.std.proofs.Common.{ℕ, List, IfSome, sym, subst}
use Rattle.ferry_piece.specs.Puts.{Content}
use Rattle.ferry_disk.specs.Device.{told_files}
use Rattle.ferry_plan.proofs.contents.write_content.Goals as goal
use Rattle.ferry_repo.specs.Archives.{HoldsContent}
use Rattle.ferry_repo.specs.Opening.{repo_view}

pub returns-clause-written : goal.returns-clause-written
returns-clause-written g c =
    let wrote = c.in_ok-write.ensures.written Content in
    let told = g.S.Shelf.told c.args.shelf.now in
    let source = repo_view c.args.source.now in
    let content = c.deref.result.now in
    let comes : IfSome told (λ t. HoldsContent (told_files t) source.log source.keys c.args.chunk.now content) =
    subst (λ (bytes : List ℕ). IfSome told (λ t. HoldsContent (told_files t) source.log source.keys c.args.chunk.now bytes)) (sym c.deref.ensures.value)
    c.in_ok-content.ensures.content in
    (wrote.0, (wrote.1.0, record { content = content; comes = comes; writes = wrote.1.1 }))
