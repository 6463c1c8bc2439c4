use Rattle.std.proofs.Common.{◌≡◌, Result, Ok, Err, sym, subst, []}
use Rattle.ferry_compact.specs.Choice.{chosen_in}
use Rattle.ferry_disk.proofs.FaultLemmas.{keeps_end}
use Rattle.ferry_repo.specs.Fault.{repo_failed}
use Rattle.ferry_store.proofs.StepLemmas.{after_same, err_is, same_told}
use Rattle.ferry_store.specs.Fault.{repo_refusal}
use Rattle.ferry_store.specs.State.{Did}
use Rattle.ferry_store.specs.declared.fault.StoreRefusal.{StoreRefusal}
use Rattle.ferry_run_compact.proofs.ToldLemmas.{did_compact, did_read, did_stop, line_removes, shut_read, shut_same, stop_removes, told_removes, went_all}
use Rattle.ferry_status.proofs.TellLemmas.{repo_is}
use Rattle.ferry_run_compact.proofs.command.compact_target.Goals as goal
use Rattle.ferry_run_compact.specs.Compact.{CompactEach, HasCompacted, compacted_line}
use Rattle.ferry_write.specs.Session.{SettlesFirst}

pub returns-in_err-log-clause-did : goal.returns-in_err-log-clause-did
returns-in_err-log-clause-did g c =
    let a = g.D.Shelf.told c.args.target.now in
    let b = g.D.Shelf.told c.read_target.new.target in
    let n = g.D.Shelf.faults c.args.target.now in
    let m = g.D.Shelf.faults c.read_target.new.target in
    let fault = c.in_err-log.field-0.0 in
    let same = c.in_err-log.ensures.same in
    err_is c.from_residual.result (repo_refusal fault)
    (λ (r : Result (Unit {0}) StoreRefusal). Did CompactEach (λ _ h g. h.acts ≡ [] → HasCompacted c.args.threshold h g) a b n m r) c.from_residual.ensures.1
    (did_read (λ _ h g. h.acts ≡ [] → HasCompacted c.args.threshold h g) (repo_refusal fault) (repo_failed fault) a b n m (repo_is fault)
    (same_told {T = Unit {0}} repo_failed a b (Err fault) same) (keeps_end {T = Unit {0}} repo_failed a b (Err fault) same)
    c.in_err-log.ensures.cause)

pub returns-in_err-log-clause-removed : goal.returns-in_err-log-clause-removed
returns-in_err-log-clause-removed g c =
    let a = g.D.Shelf.told c.args.target.now in
    let b = g.D.Shelf.told c.read_target.new.target in
    told_removes c.args.threshold a b (same_told {T = Unit {0}} repo_failed a b (Err c.in_err-log.field-0.0) c.in_err-log.ensures.same)

pub returns-in-Err-clause-did : goal.returns-in-Err-clause-did
returns-in-Err-clause-did g c =
    let a = g.D.Shelf.told c.args.target.now in
    let b = g.D.Shelf.told c.read_target.new.target in
    let d = g.D.Shelf.told c.compact.new.depot in
    let n = g.D.Shelf.faults c.args.target.now in
    let m = g.D.Shelf.faults c.read_target.new.target in
    let k = g.D.Shelf.faults c.compact.new.depot in
    let state = c.in_ok-log.log in
    let chosen = chosen_in c.args.threshold state.extents in
    let same = c.in_ok-log.ensures.same in
    let h = c.in-Err.ensures in
    subst (λ (r : StoreRefusal). Did CompactEach (λ _ h g. h.acts ≡ [] → HasCompacted c.args.threshold h g) a d n k (Err r)) (sym c.of_compacting.ensures)
    (did_stop state chosen (λ _ h g. h.acts ≡ [] → HasCompacted c.args.threshold h g) c.in-Err.fault a b d n m k
    (went_all state chosen a b d (same_told {T = Unit {0}} repo_failed a b (Ok tt) same) c.in_ok-log.ensures.log h.live h.kept h.numbers h.first
    h.removes h.plain) (keeps_end {T = Unit {0}} repo_failed a b (Ok tt) same) h.ends c.in_ok-log.ensures.cause h.cause)

pub returns-in-Err-clause-removed : goal.returns-in-Err-clause-removed
returns-in-Err-clause-removed g c =
    let a = g.D.Shelf.told c.args.target.now in
    let b = g.D.Shelf.told c.read_target.new.target in
    let d = g.D.Shelf.told c.compact.new.depot in
    let state = c.in_ok-log.log in
    let h = c.in-Err.ensures in
    stop_removes state c.args.threshold a d
    (went_all state (chosen_in c.args.threshold state.extents) a b d (same_told {T = Unit {0}} repo_failed a b (Ok tt) c.in_ok-log.ensures.same)
    c.in_ok-log.ensures.log h.live h.kept h.numbers h.first h.removes h.plain)

pub returns-clause-did : goal.returns-clause-did
returns-clause-did g c =
    let a = g.D.Shelf.told c.args.target.now in
    let b = g.D.Shelf.told c.read_target.new.target in
    let d = g.D.Shelf.told c.compact.new.depot in
    let state = c.in_ok-log.log in
    let chosen = chosen_in c.args.threshold state.extents in
    let read = c.in_ok-log.ensures in
    let same = same_told {T = Unit {0}} repo_failed a b (Ok tt) read.same in
    let h = c.in-Ok.ensures in
    did_compact c.in_ok-log.limit state c.args.threshold c.in-Ok.count a b d (g.D.Shelf.told c.tell_compacted.new.target) (g.D.Shelf.faults c.args.target.now)
    (g.D.Shelf.faults c.read_target.new.target) (g.D.Shelf.faults c.compact.new.depot) (g.D.Shelf.faults c.tell_compacted.new.target)
    c.tell_compacted.result same read.log read.settings
    (went_all state chosen a b d same read.log h.live h.kept h.numbers h.first h.removes h.plain) h.compacted
    (keeps_end {T = Unit {0}} repo_failed a b (Ok tt) read.same) h.ends read.cause h.cause c.tell_compacted.ensures.did

pub returns-clause-removed : goal.returns-clause-removed
returns-clause-removed g c =
    let a = g.D.Shelf.told c.args.target.now in
    let b = g.D.Shelf.told c.read_target.new.target in
    let d = g.D.Shelf.told c.compact.new.depot in
    let state = c.in_ok-log.log in
    let h = c.in-Ok.ensures in
    line_removes state c.args.threshold (compacted_line c.in-Ok.count) a d (g.D.Shelf.told c.tell_compacted.new.target)
    (went_all state (chosen_in c.args.threshold state.extents) a b d (same_told {T = Unit {0}} repo_failed a b (Ok tt) c.in_ok-log.ensures.same)
    c.in_ok-log.ensures.log h.live h.kept h.numbers h.first h.removes h.plain) c.tell_compacted.ensures.did.each

pub returns-in_err-log-clause-shut : goal.returns-in_err-log-clause-shut
returns-in_err-log-clause-shut g c =
    let a = g.D.Shelf.told c.args.target.now in
    let b = g.D.Shelf.told c.read_target.new.target in
    shut_same a b (same_told repo_failed a b c.read_target.result c.read_target.ensures.same)

pub returns-in-Err-clause-shut : goal.returns-in-Err-clause-shut
returns-in-Err-clause-shut g c =
    let a = g.D.Shelf.told c.args.target.now in
    let b = g.D.Shelf.told c.read_target.new.target in
    let d = g.D.Shelf.told c.compact.new.depot in
    shut_read c.in_ok-log.limit c.in_ok-log.log a b d (λ h k. k ≡ h) SettlesFirst c.in_ok-log.ensures.log c.in_ok-log.ensures.settings
    (same_told repo_failed a b c.read_target.result c.read_target.ensures.same) c.in-Err.ensures.first

pub returns-clause-shut : goal.returns-clause-shut
returns-clause-shut g c =
    let a = g.D.Shelf.told c.args.target.now in
    let b = g.D.Shelf.told c.read_target.new.target in
    let d = g.D.Shelf.told c.compact.new.depot in
    let e = g.D.Shelf.told c.tell_compacted.new.target in
    let same = same_told repo_failed a b c.read_target.result c.read_target.ensures.same in
    shut_read c.in_ok-log.limit c.in_ok-log.log a d e SettlesFirst _ c.in_ok-log.ensures.log c.in_ok-log.ensures.settings
    (after_same SettlesFirst a b d same c.in-Ok.ensures.first) c.tell_compacted.ensures.did.each
