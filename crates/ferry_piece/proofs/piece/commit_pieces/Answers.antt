use Rattle.std.proofs.Common.{◌≢◌, Result, Ok, Err, IfErr, arith}
use Rattle.ferry_piece.specs.Front.{CommitsPieces}
use Rattle.ferry_store.specs.Writing.{WritesCommit}
use Rattle.ferry_disk.proofs.DeviceLemmas.{told_any}
use Rattle.ferry_store.specs.declared.fault.StoreRefusal.TheVariants.{TooLarge}
use Rattle.ferry_piece.proofs.AddingLemmas.{commits_spent}
use Rattle.ferry_piece.proofs.FaultLemmas.{commits_small, pieces_stop}
use Rattle.ferry_piece.proofs.FewLemmas.{begun_err, begun_ok}
use Rattle.ferry_piece.proofs.CheckpointLemmas.{checkpoint_fits}
use Rattle.ferry_piece.proofs.WorkLemmas.{did_both, err_is, works_err, works_ok}
use Rattle.ferry_piece.proofs.piece.commit_pieces.Goals as goal
use Rattle.ferry_piece.specs.Adding.{SparesStore, BeginsSegments}
use Rattle.ferry_piece.specs.Fault.{target_fault}
use Rattle.ferry_piece.specs.Stops.{StopsPieces}
use Rattle.ferry_piece.specs.Work.{Works}
use Rattle.ferry_piece.specs.declared.fault.CarryFault.{CarryFault}
use Rattle.ferry_disk.specs.Act.{History}
use Rattle.ferry_repo.specs.Opening.{repo_view}
use Rattle.ferry_store.specs.Adding.{Checkpoints}
use Rattle.ferry_store.specs.State.{CommitsSound}
use Rattle.ferry_store.specs.declared.store.Store.{Store}

-- what holds at each moment of a checkpoint, beside that no line is told
abbrev commits : Store → History → History → Type 0
commits store before now = CommitsSound store.session store.counter before now × WritesCommit store.session store.counter before now

pub returns-in_err-checkpoint-clause-works : goal.returns-in_err-checkpoint-clause-works
returns-in_err-checkpoint-clause-works g c =
    let a = g.D.Shelf.told c.args.depot.now in
    let b = g.D.Shelf.told c.checkpoint.new.depot in
    let n = g.D.Shelf.faults c.args.depot.now in
    let m = g.D.Shelf.faults c.checkpoint.new.depot in
    let store = c.args.store.now in
    let now = c.checkpoint.new.self in
    let refusal = c.in_err-checkpoint.field-0.0 in
    err_is c.from_residual.result (target_fault refusal)
    (λ (r : Result (Unit {0}) CarryFault). Works (CommitsPieces store) (λ _. Checkpoints store now) a b n m r)
    c.from_residual.ensures.1
    (works_err {T = Unit {0}} (commits store) (λ _. Checkpoints store now) (CommitsPieces store) (λ _. Checkpoints store now) a b n m
    refusal (λ h k untold e. (untold, e)) c.checkpoint.ensures.untold
    (did_both {T = Unit {0}} (CommitsSound store.session store.counter) (WritesCommit store.session store.counter) (λ _. Checkpoints store now) a b n m
    (Err refusal)
    c.checkpoint.ensures.writes c.in_err-checkpoint.ensures.did))

pub returns-clause-works : goal.returns-clause-works
returns-clause-works g c =
    let store = c.args.store.now in
    let now = c.checkpoint.new.self in
    let a = g.D.Shelf.told c.args.depot.now in
    let b = g.D.Shelf.told c.checkpoint.new.depot in
    let n = g.D.Shelf.faults c.args.depot.now in
    let m = g.D.Shelf.faults c.checkpoint.new.depot in
    works_ok {T = Unit {0}} {U = Unit {0}} (commits store) (λ _. Checkpoints store now) (CommitsPieces store) (λ _. Checkpoints store now) a b n m tt tt
    (λ h k untold e. (untold, e)) (λ h k takes. takes) c.checkpoint.ensures.untold
    (did_both {T = Unit {0}} (CommitsSound store.session store.counter) (WritesCommit store.session store.counter) (λ _. Checkpoints store now) a b n m (Ok tt)
    c.checkpoint.ensures.writes c.in_ok-checkpoint.ensures.did)

pub returns-in_err-checkpoint-clause-spent : goal.returns-in_err-checkpoint-clause-spent
returns-in_err-checkpoint-clause-spent g c =
    let refusal = c.in_err-checkpoint.field-0.0 in
    err_is c.from_residual.result (target_fault refusal) (λ (r : Result (Unit {0}) CarryFault). IfErr r (λ (fault : CarryFault). SparesStore fault → ⊥))
    c.from_residual.ensures.1 (commits_spent c.args.store.now.session refusal c.in_err-checkpoint.ensures.refused)

pub returns-clause-fits : goal.returns-clause-fits
returns-clause-fits g c =
    checkpoint_fits c.args.store.now c.checkpoint.new.self (g.D.Shelf.told c.args.depot.now) (g.D.Shelf.told c.checkpoint.new.depot)
    (g.D.Shelf.faults c.args.depot.now) (g.D.Shelf.faults c.checkpoint.new.depot) c.requires.fits c.in_ok-checkpoint.ensures.did

pub returns-in_err-checkpoint-clause-stops : goal.returns-in_err-checkpoint-clause-stops
returns-in_err-checkpoint-clause-stops g c =
    let b = g.D.Shelf.told c.checkpoint.new.depot in
    let keys = (repo_view c.args.store.now.repo).keys in
    let refusal = c.in_err-checkpoint.field-0.0 in
    err_is c.from_residual.result (target_fault refusal) (λ (r : Result (Unit {0}) CarryFault). IfErr r (StopsPieces b keys)) c.from_residual.ensures.1
    (pieces_stop b keys refusal
    (told_any b (λ _. refusal ≢ TooLarge) (λ _. commits_small c.args.store.now.session refusal c.in_err-checkpoint.ensures.refused))
    (c.in_err-checkpoint.ensures.stops c.requires.fits))

pub returns-in_err-checkpoint-clause-few : goal.returns-in_err-checkpoint-clause-few
returns-in_err-checkpoint-clause-few g c =
    let store = c.args.store.now in
    let now = c.checkpoint.new.self in
    let refusal = c.in_err-checkpoint.field-0.0 in
    err_is c.from_residual.result (target_fault refusal) (λ (r : Result (Unit {0}) CarryFault). BeginsSegments 1 store now r) c.from_residual.ensures.1
    (begun_err {T = Unit {0}} {U = Unit {0}} 1 1 store now refusal (omega arith) c.in_err-checkpoint.ensures.few)

pub returns-clause-few : goal.returns-clause-few
returns-clause-few g c =
    begun_ok {T = Unit {0}} {U = Unit {0}} 1 1 c.args.store.now c.checkpoint.new.self tt tt (omega arith) c.in_ok-checkpoint.ensures.few
