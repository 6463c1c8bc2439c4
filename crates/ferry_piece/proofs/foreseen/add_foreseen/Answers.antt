use Rattle.std.proofs.Common.{ℕ, List, [], ◌∷◌, ◌∙◌, ap, subst}
use Rattle.ferry_piece.proofs.foreseen.add_foreseen.Goals as goal
use Rattle.ferry_piece.specs.Adding.{AddsOn}
use Rattle.ferry_piece.specs.Puts.{addition}
use Rattle.ferry_repo.specs.Opening.{repo_view}
use Rattle.ferry_store.specs.Piece.{content_in}
use Rattle.ferry_store.specs.declared.content.Added.{Added}

pub returns-in-Some-clause-works : goal.returns-in-Some-clause-works
returns-in-Some-clause-works g c kind put piece is =
    let ready = c.in-Some.ready in
    subst (λ (content : List ℕ). AddsOn {T = Added} c.args.checkpoint c.args.store.now (addition kind content put ∷ []) c.add_buffer.new.store
    (g.D.Shelf.told c.args.depot.now) (g.D.Shelf.told c.add_buffer.new.depot) (g.D.Shelf.faults c.args.depot.now)
    (g.D.Shelf.faults c.add_buffer.new.depot) c.add_buffer.result)
    (ap (content_in (repo_view c.args.store.now.repo).keys ready.is_blob) c.deref_mut.ensures.value ∙ c.in-Some.ensures.ready.content)
    (c.add_buffer.ensures.works kind put piece is)
