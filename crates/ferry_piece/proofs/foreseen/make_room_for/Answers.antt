use Rattle.std.proofs.Common.{◌≡◌, ◌∷◌, [], List, ℕ, arith, subst}
use Rattle.ferry_piece.proofs.FewLemmas.{begun_none}
use Rattle.ferry_piece.proofs.CheckpointLemmas.{room_here}
use Rattle.ferry_piece.proofs.GatherLemmas.{stands_here}
use Rattle.ferry_piece.proofs.PieceLemmas.{room_works}
use Rattle.ferry_piece.proofs.WorkLemmas.{works_none}
use Rattle.ferry_piece.proofs.foreseen.make_room_for.Goals as goal
use Rattle.ferry_piece.specs.Gather.{KeepsStanding, MakesRoom}
use Rattle.ferry_repo.specs.Opening.{repo_view}
use Rattle.ferry_store.specs.Content.{IsNew}

pub returns-then-pending-checkpoint-clause-works : goal.returns-then-pending-checkpoint-clause-works
returns-then-pending-checkpoint-clause-works g c one is piece =
    let most = c.args.checkpoint in
    let store = c.args.store.now in
    works_none {T = Unit {0}} (KeepsStanding most store (one ∷ [])) (λ _. MakesRoom most store one store) (g.D.Shelf.told c.args.depot.now)
    (g.D.Shelf.faults c.args.depot.now) tt (λ h. stands_here most store (one ∷ []) h) (λ h. room_here most store one h)

pub returns-clause-works : goal.returns-clause-works
returns-clause-works g c one is piece =
    let most = c.args.checkpoint in
    let store = c.args.store.now in
    let full : store.pending ≡ most = omega (arith, c.requires.pending) in
    let new : IsNew (repo_view store.repo) c.args.id.now = c.would_put_id.ensures.new.0 c.if-not-would_put_id.false in
    room_works {T = Unit {0}} most store c.commit_pieces.new.store one (g.D.Shelf.told c.args.depot.now) (g.D.Shelf.told c.commit_pieces.new.depot)
    (g.D.Shelf.faults c.args.depot.now) (g.D.Shelf.faults c.commit_pieces.new.depot) c.commit_pieces.result c.requires.checkpoint piece full
    (subst (λ (id : List ℕ). IsNew (repo_view store.repo) id) is new) c.commit_pieces.ensures.repo
    c.commit_pieces.ensures.works

pub returns-then-pending-checkpoint-clause-few : goal.returns-then-pending-checkpoint-clause-few
returns-then-pending-checkpoint-clause-few g c = begun_none {T = Unit {0}} 1 c.args.store.now tt
