use Rattle.std.proofs.Common.{[], ◌∷◌, ◌++◌, ℕ, List, Result, Ok, Err, subst}
use Rattle.ferry_disk.specs.Act.{AppendTo, SyncOf}
use Rattle.ferry_segment.specs.Entry.{CommitEntry, spelling}
use Rattle.ferry_segment.specs.Segment.{magic}
use Rattle.ferry_write.specs.Script.{Ran}
use Rattle.ferry_write.specs.declared.fault.WriteFault.{WriteFault}
use Rattle.ferry_write.proofs.ScriptLemmas.{ran_then, ran_front, err_is, commit_spelled}
use Rattle.ferry_write.proofs.script.append_commit.Goals as goal

pub returns-in_err-append_to-clause-ran : goal.returns-in_err-append_to-clause-ran
returns-in_err-append_to-clause-ran g c =
    let s = AppendTo c.args.number (magic ++ spelling CommitEntry) ∷ [] in
    let t = SyncOf c.args.number ∷ [] in
    let a = g.D.Shelf.told c.args.depot.now in
    let b = g.D.Shelf.told c.append_to.new.depot in
    let n = g.D.Shelf.faults c.args.depot.now in
    let m = g.D.Shelf.faults c.append_to.new.depot in
    err_is c.from_residual.result c.in_err-append_to.field-0.0
    (λ (r : Result (Unit {0}) WriteFault). Ran (s ++ t) a b n m r) c.from_residual.ensures.1
    (ran_front s t a b n m c.in_err-append_to.field-0.0
    (subst (λ (l : List ℕ). Ran {T = Unit {0}} (AppendTo c.args.number (magic ++ l) ∷ []) a b n m (Err c.in_err-append_to.field-0.0)) commit_spelled
    c.in_err-append_to.ensures.ran))

pub returns-clause-ran : goal.returns-clause-ran
returns-clause-ran g c =
    ran_then (AppendTo c.args.number (magic ++ spelling CommitEntry) ∷ []) (SyncOf c.args.number ∷ [])
    (g.D.Shelf.told c.args.depot.now) (g.D.Shelf.told c.append_to.new.depot) (g.D.Shelf.told c.sync_segment.new.depot)
    (g.D.Shelf.faults c.args.depot.now) (g.D.Shelf.faults c.append_to.new.depot) (g.D.Shelf.faults c.sync_segment.new.depot)
    c.in_ok-append_to.field-0 c.sync_segment.result
    (subst (λ (l : List ℕ). Ran {T = Unit {0}} (AppendTo c.args.number (magic ++ l) ∷ []) (g.D.Shelf.told c.args.depot.now)
    (g.D.Shelf.told c.append_to.new.depot) (g.D.Shelf.faults c.args.depot.now) (g.D.Shelf.faults c.append_to.new.depot) (Ok c.in_ok-append_to.field-0))
    commit_spelled c.in_ok-append_to.ensures.ran) c.sync_segment.ensures.ran
