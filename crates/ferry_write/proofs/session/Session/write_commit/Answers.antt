use Rattle.std.proofs.Common.{[], ◌∷◌, ◌++◌, ℕ, List, Result, Ok, Err, subst}
use Rattle.ferry_disk.specs.Act.{Step, AppendTo, SyncOf}
use Rattle.ferry_segment.specs.Entry.{CommitEntry, spelling}
use Rattle.ferry_segment.specs.Segment.{magic}
use Rattle.ferry_write.specs.Room.{behind, sync_steps, commit_steps}
use Rattle.ferry_write.specs.Script.{Ran}
use Rattle.ferry_write.specs.declared.fault.WriteFault.{WriteFault}
use Rattle.ferry_write.proofs.RoomLemmas.{no_step_ran}
use Rattle.ferry_write.proofs.ScriptLemmas.{err_is, ran_front, ran_then, ran_as, ran_fault}
use Rattle.ferry_write.proofs.session.Session.write_commit.Goals as goal

pub returns-in_err-number-clause-ran : goal.returns-in_err-number-clause-ran
returns-in_err-number-clause-ran g c =
    let s = c.args.self.now in
    let a = g.D.Shelf.told c.args.depot.now in
    let n = g.D.Shelf.faults c.args.depot.now in
    err_is c.from_residual.result c.in_err-number.field-0.0 (λ (r : Result ℕ WriteFault). Ran (commit_steps s.last s.size) a a n n r)
    c.from_residual.ensures.1 (no_step_ran {U = ℕ} (commit_steps s.last s.size) a n c.in_err-number.field-0.0 c.in_err-number.ensures.device)

pub returns-in_err-sync_current-clause-ran : goal.returns-in_err-sync_current-clause-ran
returns-in_err-sync_current-clause-ran g c =
    let s = c.args.self.now in
    let m = behind s.last in
    let t = (AppendTo m (magic ++ spelling CommitEntry) ∷ []) ++ (SyncOf m ∷ []) in
    let a = g.D.Shelf.told c.args.depot.now in
    let b = g.D.Shelf.told c.sync_current.new.depot in
    let n = g.D.Shelf.faults c.args.depot.now in
    let k = g.D.Shelf.faults c.sync_current.new.depot in
    err_is c.from_residual-in_err-sync_current.result c.in_err-sync_current.field-0.0
    (λ (r : Result ℕ WriteFault). Ran (sync_steps s.last s.size ++ t) a b n k r) c.from_residual-in_err-sync_current.ensures.1
    (ran_front (sync_steps s.last s.size) t a b n k c.in_err-sync_current.field-0.0 c.in_err-sync_current.ensures.ran)

pub returns-in_err-append_commit-clause-ran : goal.returns-in_err-append_commit-clause-ran
returns-in_err-append_commit-clause-ran g c =
    let s = c.args.self.now in
    let t : ℕ → List Step = (λ m. (AppendTo m (magic ++ spelling CommitEntry) ∷ []) ++ (SyncOf m ∷ [])) in
    let a = g.D.Shelf.told c.args.depot.now in
    let b = g.D.Shelf.told c.sync_current.new.depot in
    let d = g.D.Shelf.told c.append_commit.new.depot in
    let n = g.D.Shelf.faults c.args.depot.now in
    let k = g.D.Shelf.faults c.sync_current.new.depot in
    let j = g.D.Shelf.faults c.append_commit.new.depot in
    let fault = c.in_err-append_commit.field-0.0 in
    err_is c.from_residual-in_err-append_commit.result fault
    (λ (r : Result ℕ WriteFault). Ran (sync_steps s.last s.size ++ t (behind s.last)) a d n j r) c.from_residual-in_err-append_commit.ensures.1
    (ran_fault (sync_steps s.last s.size ++ t (behind s.last)) a d n j fault
    (ran_then {T = Unit {0}} {U = Unit {0}} (sync_steps s.last s.size) (t (behind s.last)) a b d n k j c.in_ok-sync_current.field-0 (Err fault)
    c.in_ok-sync_current.ensures.ran
    (subst (λ (x : ℕ). Ran {T = Unit {0}} (t x) b d k j (Err fault)) c.in_ok-number.ensures.number c.in_err-append_commit.ensures.ran)))

pub returns-clause-ran : goal.returns-clause-ran
returns-clause-ran g c =
    let s = c.args.self.now in
    let t : ℕ → List Step = (λ m. (AppendTo m (magic ++ spelling CommitEntry) ∷ []) ++ (SyncOf m ∷ [])) in
    let a = g.D.Shelf.told c.args.depot.now in
    let b = g.D.Shelf.told c.sync_current.new.depot in
    let d = g.D.Shelf.told c.append_commit.new.depot in
    let n = g.D.Shelf.faults c.args.depot.now in
    let k = g.D.Shelf.faults c.sync_current.new.depot in
    let j = g.D.Shelf.faults c.append_commit.new.depot in
    let done = c.in_ok-append_commit.field-0 in
    ran_as (sync_steps s.last s.size ++ t (behind s.last)) a d n j done c.in_ok-number.number
    (ran_then {T = Unit {0}} {U = Unit {0}} (sync_steps s.last s.size) (t (behind s.last)) a b d n k j c.in_ok-sync_current.field-0 (Ok done)
    c.in_ok-sync_current.ensures.ran
    (subst (λ (x : ℕ). Ran {T = Unit {0}} (t x) b d k j (Ok done)) c.in_ok-number.ensures.number c.in_ok-append_commit.ensures.ran))
