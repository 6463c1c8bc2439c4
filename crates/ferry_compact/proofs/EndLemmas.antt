-- Lemmas on the contract of `compact`: what is known of a run is all that its clauses say.
use Rattle.std.proofs.Common.{◌≡◌, ℕ, Bool, true, false, List, length, Option, Some, None, Ok, Err, IfSome, refl, sym, subst}
use Rattle.ferry_compact.proofs.KeptLemmas.{run_kept, run_numbers}
use Rattle.ferry_compact.proofs.ListLemmas.{never}
use Rattle.ferry_compact.proofs.OpensLemmas.{opens_as}
use Rattle.ferry_compact.specs.Choice.{chosen_in, is_idle}
use Rattle.ferry_compact.specs.Compact.{Compacts, KeepsBlocks, KeepsLive, NumbersStay, RemovesFront}
use Rattle.ferry_compact.specs.Fault.{RefusesCompact, compact_failed}
use Rattle.ferry_compact.specs.Runs.{Begun, Clauses, EachRun, IsOpened, MovedAll, RefusesRun, Run}
use Rattle.ferry_compact.specs.Steps.{Did}
use Rattle.ferry_compact.specs.declared.fault.CompactFault.{CompactFault}
use Rattle.ferry_disk.specs.Act.{History, files_now}
use Rattle.ferry_disk.specs.Device.{Told, told_files}
use Rattle.ferry_disk.specs.Faults.{FailedWhere, failed_told}
use Rattle.ferry_disk.specs.Moments.{Between}
use Rattle.ferry_log.specs.Log.{Located}
use Rattle.ferry_log.specs.State.{IsStateOf, LogState}
use Rattle.ferry_stops.specs.Tells.{TellsNothing}
use Rattle.ferry_write.specs.Script.{AllDone}
use Rattle.ferry_write.specs.Session.{KeepsPlain, SettlesFirst}
use Rattle.ferry_write.specs.declared.session.Session.{Session}

opened_map : (state : LogState) (a b : Option Told) (P Q : History → History → Type 0) → IsOpened state a
    → ((h g : History) → IsStateOf (files_now h) state → P h g → Q h g) → Between a b P → Between a b Q
opened_map state None b P Q opened step p = tt
opened_map state (Some a) b P Q opened step p = (p.0, p.1, step a.history p.0.history opened p.2)

-- where a device that told nothing tells something, a call failed, or none did
untold_still : (failed : Bool) (now : Told) → FailedWhere failed None (Some now) → ⊥
untold_still false now e = let no : ⊥ = cc in no
untold_still true now e = let no : ⊥ = cc in no

refused_told : (state : LogState) (fault : CompactFault) (a b : Option Told) → IsOpened state a → FailedWhere (compact_failed fault) a b
    → Between a b (RefusesRun state fault) → IfSome b (λ t. RefusesCompact (told_files t) fault)
refused_told state fault None None opened ends refuses = tt
refused_told state fault None (Some now) opened ends refuses = absurd (untold_still (compact_failed fault) now ends)
refused_told state fault (Some a) b opened ends refuses =
    subst (λ (told : Option Told). IfSome told (λ t. RefusesCompact (told_files t) fault)) (sym refuses.1)
    (refuses.2 opened.log (record { is = opened.is; places = opened.places; learnt = opened.learnt }))

-- what is known of a run over the log of the state
log_run : (state : LogState) (chosen : List ℕ) (h g : History) (of : IsStateOf (files_now h) state) → EachRun state chosen h g
    → Run state.transaction chosen of.log h g
log_run state chosen h g of each = each of.log (record { is = of.is; places = of.places; learnt = of.learnt })

module _ (limit : ℕ) (state : LogState) (threshold : ℕ) (a b : Option Told) (n m : ℕ) (opened : IsOpened state a)
    (each : Between a b (EachRun state (chosen_in threshold state.extents))) where
  abbrev chosen : List ℕ
  chosen = chosen_in threshold state.extents

  of_run : (Q : History → History → Type 0) → ((log : List Located) (h g : History) → Run state.transaction chosen log h g → Q h g) → Between a b Q
  of_run Q step =
      opened_map state a b (EachRun state chosen) Q opened (λ h g of run. step of.log h g (log_run state chosen h g of run)) each

  live_clause : Between a b (KeepsLive state.transaction)
  live_clause =
      opened_map state a b (EachRun state chosen) (KeepsLive state.transaction) opened
      (λ h g of run log e is. (run log (opens_as state log h of is)).live e) each

  pub clauses_err : (Q : History → History → Type 0) (fault : CompactFault) → Did (EachRun state chosen) Q (RefusesRun state) a b n m (Err fault)
      → Clauses limit state threshold a b n m (Err fault)
  clauses_err Q fault did = record {
    compacted = tt;
    live = live_clause;
    kept = of_run KeepsBlocks (λ log h g run. run_kept state.transaction chosen log h g run);
    numbers = of_run NumbersStay (λ log h g run. run_numbers state.transaction chosen log h g run);
    first = of_run SettlesFirst (λ log h g run. run.first);
    removes = of_run (RemovesFront state.transaction chosen) (λ log h g run. run.removes);
    plain = of_run KeepsPlain (λ log h g run. run.plain);
    untold = of_run TellsNothing (λ log h g run. run.untold);
    refused = refused_told state fault a b opened did.ends did.refuses;
    cause = did.cause;
    ends = did.ends;
  }

  pub clauses_ok : (count : ℕ) → Between a b (Compacts limit state threshold count) → m ≡ n → failed_told b ≡ failed_told a
      → Clauses limit state threshold a b n m (Ok count)
  clauses_ok count compacted caused ends = record {
    compacted = compacted;
    live = live_clause;
    kept = of_run KeepsBlocks (λ log h g run. run_kept state.transaction chosen log h g run);
    numbers = of_run NumbersStay (λ log h g run. run_numbers state.transaction chosen log h g run);
    first = of_run SettlesFirst (λ log h g run. run.first);
    removes = of_run (RemovesFront state.transaction chosen) (λ log h g run. run.removes);
    plain = of_run KeepsPlain (λ log h g run. run.plain);
    untold = of_run TellsNothing (λ log h g run. run.untold);
    refused = tt;
    cause = caused;
    ends = ends;
  }

-- a run that a fault ended
pub run_refused : (limit : ℕ) (state : LogState) (threshold : ℕ) (Q : History → History → Type 0) (fault : CompactFault) (a b : Option Told) (n m : ℕ)
    → IsOpened state a → Did (EachRun state (chosen_in threshold state.extents)) Q (RefusesRun state) a b n m (Err fault)
    → Clauses limit state threshold a b n m (Err fault)
run_refused limit state threshold Q fault a b n m opened did = clauses_err limit state threshold a b n m opened did.each Q fault did

-- one in which nothing was to be gained
pub run_idle : (limit : ℕ) (state : LogState) (threshold : ℕ) (session : Session) (a b : Option Told) (n m : ℕ) → IsOpened state a
    → is_idle state.transaction (chosen_in threshold state.extents) ≡ true
    → Did (EachRun state (chosen_in threshold state.extents)) (Begun limit state session) (RefusesRun state) a b n m (Ok tt)
    → Clauses limit state threshold a b n m (Ok 0)
run_idle limit state threshold session a b n m opened idle did =
    let chosen = chosen_in threshold state.extents in
    clauses_ok limit state threshold a b n m opened did.each 0
    (opened_map state a b (λ h g. AllDone h g × Begun limit state session h g) (Compacts limit state threshold 0) opened
    (λ h g of end log is. record {
      idle = λ e. (refl, (end.1 log (opens_as state log h of is)).1);
      moved = λ e. never (is_idle state.transaction chosen) idle e;
    }) did.end)
    did.cause did.ends

-- one that moved all
pub run_moved : (limit : ℕ) (state : LogState) (threshold count : ℕ) (a b : Option Told) (n m : ℕ) → IsOpened state a
    → is_idle state.transaction (chosen_in threshold state.extents) ≡ false → count ≡ length (chosen_in threshold state.extents)
    → Did (EachRun state (chosen_in threshold state.extents)) (MovedAll limit state (chosen_in threshold state.extents)) (RefusesRun state) a b n m (Ok tt)
    → Clauses limit state threshold a b n m (Ok count)
run_moved limit state threshold count a b n m opened idle counted did =
    let chosen = chosen_in threshold state.extents in
    clauses_ok limit state threshold a b n m opened did.each count
    (opened_map state a b (λ h g. AllDone h g × MovedAll limit state chosen h g) (Compacts limit state threshold count) opened
    (λ h g of end log is. record {
      idle = λ e. never (is_idle state.transaction chosen) e idle;
      moved = λ e. (counted, end.1 log (opens_as state log h of is));
    }) did.end)
    did.cause did.ends
