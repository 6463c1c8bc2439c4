use Rattle.ferry_status.specs.Opened.{NeedsNumber}
use Rattle.std.proofs.Common.{rules, ◌≡◌, true, Result, Ok, IfErr, refl, ◌∙◌}
use Rattle.ferry_piece.proofs.WorkLemmas.{err_is}
use Rattle.ferry_piece.specs.Fault.{IsOfWork, random_failed, shelf_failed, target_fault}
use Rattle.ferry_piece.specs.Work.{Works}
use Rattle.ferry_piece.specs.declared.fault.CarryFault.{CarryFault}
use Rattle.ferry_piece.specs.declared.fault.CarryFault.TheVariants.{Memory}
use Rattle.ferry_disk.specs.Device.{HasCause, KeepsTold}
use Rattle.ferry_disk.specs.Moments.{Between}
use Rattle.ferry_repo.specs.Opening.{repo_view}
use Rattle.ferry_store.proofs.UseLemmas.{fits_opened}
use Rattle.ferry_store.specs.Store.{OpenEach, OpenFits}
use Rattle.ferry_status.proofs.OpenedLemmas.{opened_then, shut_here, before_number, has_number, unopened_number}
use Rattle.ferry_run_transfer.proofs.PuttingLemmas.{carried_puts, stopped_first, unopened_first, unopened_puts, untouched_first, untouched_puts}
use Rattle.ferry_run_transfer.proofs.ToldLemmas.{stopped_told, unopened_told, untouched_told}
use Rattle.ferry_run_transfer.specs.Putting.{LeavesFirst, is_spared}
use Rattle.ferry_status.specs.Status.{carry_status}
use Rattle.ferry_run_transfer.proofs.TransferLemmas.{copied_all, copied_some}
use Rattle.ferry_run_transfer.proofs.UntouchedLemmas.{unopened, untouched}
use Rattle.ferry_run_transfer.proofs.command.copy_into.Goals as goal
use Rattle.ferry_carry.specs.States.{drawn_from}
use Rattle.ferry_run_transfer.specs.Transfer.{LeavesTold, TransferEach, TransferEnds, asked}
use Rattle.ferry_run_transfer.proofs.RefusedLemmas.{found_apart, memory_refused, missing_refused, names_found, unopened_refused, unused, missing_before}
use Rattle.ferry_run_transfer.proofs.CauseLemmas.{names_refused}
use Rattle.ferry_run_transfer.specs.TransferCauses.{RefusesAsked, IsBeforeTarget}

pub returns-in_err-chosen-clause-works : goal.returns-in_err-chosen-clause-works
returns-in_err-chosen-clause-works g c =
    let a = g.D.Shelf.told c.args.target.now in
    let n = g.D.Shelf.faults c.args.target.now in
    let request = asked c.args.secrets.now c.args.options.now c.args.names.now (g.S.Shelf.told c.args.source.now) in
    err_is c.from_residual.result Memory
    (λ (r : Result (Unit {0}) CarryFault). Works (TransferEach request) (λ _. TransferEnds request (g.E.Entropy.drawn c.args.entropy.now) (g.E.Entropy.drawn
    c.args.entropy.now)) a a n n r)
    c.from_residual.ensures.1 (untouched {T = Unit {0}} request (g.E.Entropy.drawn c.args.entropy.now) (g.E.Entropy.drawn c.args.entropy.now) a n Memory refl)

pub returns-in_err-find_names-clause-works : goal.returns-in_err-find_names-clause-works
returns-in_err-find_names-clause-works g c =
    let a = g.D.Shelf.told c.args.target.now in
    let n = g.D.Shelf.faults c.args.target.now in
    let request = asked c.args.secrets.now c.args.options.now c.args.names.now (g.S.Shelf.told c.args.source.now) in
    let fault = c.in_err-find_names.field-0.0 in
    err_is c.from_residual-in_err-find_names.result fault
    (λ (r : Result (Unit {0}) CarryFault). Works (TransferEach request) (λ _. TransferEnds request (g.E.Entropy.drawn c.args.entropy.now) (g.E.Entropy.drawn
    c.args.entropy.now)) a a n n r)
    c.from_residual-in_err-find_names.ensures.1 (untouched {T = Unit {0}} request (g.E.Entropy.drawn c.args.entropy.now) (g.E.Entropy.drawn
    c.args.entropy.now)
    a n fault c.in_err-find_names.ensures.still)

pub returns-in_err-store-clause-works : goal.returns-in_err-store-clause-works
returns-in_err-store-clause-works g c =
    let a = g.D.Shelf.told c.args.target.now in
    let b = g.D.Shelf.told c.open.new.depot in
    let n = g.D.Shelf.faults c.args.target.now in
    let m = g.D.Shelf.faults c.open.new.depot in
    let request = asked c.args.secrets.now c.args.options.now c.args.names.now (g.S.Shelf.told c.args.source.now) in
    let refusal = c.in_err-store.field-0.0 in
    err_is c.from_residual-in_err-store.result (target_fault refusal)
    (λ (r : Result (Unit {0}) CarryFault). Works (TransferEach request) (λ _. TransferEnds request (g.E.Entropy.drawn c.args.entropy.now) (g.E.Entropy.drawn
    c.args.entropy.now)) a b n m r) c.from_residual-in_err-store.ensures.1
    (unopened {T = Unit {0}} request (g.E.Entropy.drawn c.args.entropy.now) (g.E.Entropy.drawn c.args.entropy.now) OpenFits a b n m refusal
    c.open.ensures.untold c.in_err-store.ensures.did)

pub carry-requires-clause-both : goal.carry-requires-clause-both
carry-requires-clause-both g c = record {
  source = search rules;
  target = record {
    pending = search rules;
    unspent = search rules;
    fits =
        fits_opened OpenEach c.in_ok-store.store (g.D.Shelf.told c.args.target.now) (g.D.Shelf.told c.open.new.depot) (g.D.Shelf.faults c.args.target.now)
        (g.D.Shelf.faults c.open.new.depot) c.requires.begun c.in_ok-store.ensures.did;
    packable = search rules;
    settled = search rules;
  };
}

pub returns-in_err-carry-clause-works : goal.returns-in_err-carry-clause-works
returns-in_err-carry-clause-works g c =
    let a = g.D.Shelf.told c.args.target.now in
    let b = g.D.Shelf.told c.open.new.depot in
    let d = g.D.Shelf.told c.carry.new.depot in
    let n = g.D.Shelf.faults c.args.target.now in
    let m = g.D.Shelf.faults c.open.new.depot in
    let k = g.D.Shelf.faults c.carry.new.depot in
    let told = g.S.Shelf.told c.args.source.now in
    let request = asked c.args.secrets.now c.args.options.now c.args.names.now told in
    let store = c.in_ok-store.store in
    let fault = c.in_err-carry.field-0.0 in
    err_is c.from_residual-in_err-carry.result fault
    (λ (r : Result (Unit {0}) CarryFault). Works (TransferEach request) (λ _. TransferEnds request (g.E.Entropy.drawn c.args.entropy.now) (g.E.Entropy.drawn
    c.carry.new.entropy)) a d n k r)
    c.from_residual-in_err-carry.ensures.1
    (copied_some c.args.secrets.now c.args.options.now c.args.names.now (repo_view c.args.repo.now) told c.deref-2.result.now
    c.requires.source_opens (c.deref-2.ensures.value ∙ c.in_ok-chosen.ensures.chosen) {U = Unit {0}} store c.carry.new.store a b d n m k
    (g.E.Entropy.drawn c.args.entropy.now) (g.E.Entropy.drawn c.carry.new.entropy) fault
    c.in_ok-store.ensures.accepted c.in_ok-store.ensures.opened c.open.ensures.untold
    c.in_ok-store.ensures.did c.in_err-carry.ensures.works)

pub returns-clause-works : goal.returns-clause-works
returns-clause-works g c =
    let store = c.in_ok-store.store in
    copied_all c.args.secrets.now c.args.options.now c.args.names.now (repo_view c.args.repo.now) (g.S.Shelf.told c.args.source.now)
    c.deref-2.result.now c.requires.source_opens (c.deref-2.ensures.value ∙ c.in_ok-chosen.ensures.chosen) {U = Unit {0}} store
    c.carry.new.store (g.D.Shelf.told c.args.target.now) (g.D.Shelf.told c.open.new.depot) (g.D.Shelf.told c.carry.new.depot)
    (g.D.Shelf.faults c.args.target.now) (g.D.Shelf.faults c.open.new.depot) (g.D.Shelf.faults c.carry.new.depot) c.in_ok-carry.field-0 tt
    (g.E.Entropy.drawn c.args.entropy.now) (g.E.Entropy.drawn c.carry.new.entropy)
    c.in_ok-store.ensures.accepted c.in_ok-carry.ensures.both.target.settled
    (c.in_ok-carry.ensures.both.target.ended c.in_ok-store.ensures.fresh.1) c.in_ok-store.ensures.opened c.open.ensures.untold c.in_ok-store.ensures.did
    c.in_ok-carry.ensures.works

pub returns-in_err-chosen-clause-refused : goal.returns-in_err-chosen-clause-refused
returns-in_err-chosen-clause-refused g c =
    let a = g.D.Shelf.told c.args.target.now in
    let drawn = drawn_from (g.E.Entropy.drawn c.args.entropy.now) (g.E.Entropy.drawn c.args.entropy.now) in
    let request = asked c.args.secrets.now c.args.options.now c.args.names.now (g.S.Shelf.told c.args.source.now) in
    err_is c.from_residual.result Memory (λ (r : Result (Unit {0}) CarryFault). IfErr r (RefusesAsked request drawn a a)) c.from_residual.ensures.1
    (memory_refused request drawn a a)

pub returns-in_err-find_names-clause-refused : goal.returns-in_err-find_names-clause-refused
returns-in_err-find_names-clause-refused g c =
    let a = g.D.Shelf.told c.args.target.now in
    let told = g.S.Shelf.told c.args.source.now in
    let drawn = drawn_from (g.E.Entropy.drawn c.args.entropy.now) (g.E.Entropy.drawn c.args.entropy.now) in
    let request = asked c.args.secrets.now c.args.options.now c.args.names.now told in
    let fault = c.in_err-find_names.field-0.0 in
    err_is c.from_residual-in_err-find_names.result fault (λ (r : Result (Unit {0}) CarryFault). IfErr r (RefusesAsked request drawn a a))
    c.from_residual-in_err-find_names.ensures.1
    (missing_refused drawn c.args.secrets.now c.args.options.now c.args.names.now (repo_view c.args.repo.now) told a a c.deref.result.now
    c.requires.source_opens (c.deref.ensures.value ∙ c.in_ok-chosen.ensures.chosen) fault c.in_err-find_names.ensures.refused)

pub returns-in_err-store-clause-refused : goal.returns-in_err-store-clause-refused
returns-in_err-store-clause-refused g c =
    let a = g.D.Shelf.told c.args.target.now in
    let b = g.D.Shelf.told c.open.new.depot in
    let drawn = drawn_from (g.E.Entropy.drawn c.args.entropy.now) (g.E.Entropy.drawn c.args.entropy.now) in
    let request = asked c.args.secrets.now c.args.options.now c.args.names.now (g.S.Shelf.told c.args.source.now) in
    let refusal = c.in_err-store.field-0.0 in
    err_is c.from_residual-in_err-store.result (target_fault refusal) (λ (r : Result (Unit {0}) CarryFault). IfErr r (RefusesAsked request drawn a b))
    c.from_residual-in_err-store.ensures.1
    (unopened_refused request drawn a b refusal (names_found c.args.secrets.now c.args.options.now c.args.names.now (repo_view
    c.args.repo.now)
    (g.S.Shelf.told c.args.source.now) c.deref.result.now c.requires.source_opens (c.deref.ensures.value ∙ c.in_ok-chosen.ensures.chosen)
    c.in_ok-find_names.ensures.found) c.in_err-store.ensures.refused)

pub returns-in_err-carry-clause-refused : goal.returns-in_err-carry-clause-refused
returns-in_err-carry-clause-refused g c =
    let a = g.D.Shelf.told c.args.target.now in
    let b = g.D.Shelf.told c.open.new.depot in
    let d = g.D.Shelf.told c.carry.new.depot in
    let n = g.D.Shelf.faults c.args.target.now in
    let m = g.D.Shelf.faults c.open.new.depot in
    let k = g.D.Shelf.faults c.carry.new.depot in
    let told = g.S.Shelf.told c.args.source.now in
    let drawn = drawn_from (g.E.Entropy.drawn c.args.entropy.now) (g.E.Entropy.drawn c.carry.new.entropy) in
    let request = asked c.args.secrets.now c.args.options.now c.args.names.now told in
    let store = c.in_ok-store.store in
    let fault = c.in_err-carry.field-0.0 in
    let chosen_is = c.deref-2.ensures.value ∙ c.in_ok-chosen.ensures.chosen in
    let accepts = c.in_ok-store.ensures.accepted in
    let works = copied_some c.args.secrets.now c.args.options.now c.args.names.now (repo_view c.args.repo.now) told c.deref-2.result.now
    c.requires.source_opens chosen_is {U = Unit {0}} store c.carry.new.store a b d n m k
    (g.E.Entropy.drawn c.args.entropy.now) (g.E.Entropy.drawn c.carry.new.entropy) fault accepts
    c.in_ok-store.ensures.opened c.open.ensures.untold c.in_ok-store.ensures.did c.in_err-carry.ensures.works in
    err_is c.from_residual-in_err-carry.result fault (λ (r : Result (Unit {0}) CarryFault). IfErr r (RefusesAsked request drawn a d))
    c.from_residual-in_err-carry.ensures.1
    (names_refused drawn c.args.secrets.now c.args.options.now c.args.names.now (repo_view c.args.repo.now) told a b d c.deref-2.result.now store
    c.carry.new.store c.requires.source_opens chosen_is c.in_ok-store.ensures.opened accepts c.open.ensures.untold works.each fault
    c.in_err-carry.ensures.stops.limit c.in_err-carry.ensures.stops.chunk c.in_err-carry.ensures.refused)

pub returns-in_err-chosen-clause-only_told : goal.returns-in_err-chosen-clause-only_told
returns-in_err-chosen-clause-only_told g c =
    let a = g.D.Shelf.told c.args.target.now in
    let request = asked c.args.secrets.now c.args.options.now c.args.names.now (g.S.Shelf.told c.args.source.now) in
    err_is c.from_residual.result Memory
    (λ (r : Result (Unit {0}) CarryFault). IfErr r (λ (f : CarryFault). IsOfWork f → Between a a (LeavesTold request)))
    c.from_residual.ensures.1 (λ w. untouched_told request a)

pub returns-in_err-find_names-clause-only_told : goal.returns-in_err-find_names-clause-only_told
returns-in_err-find_names-clause-only_told g c =
    let a = g.D.Shelf.told c.args.target.now in
    let request = asked c.args.secrets.now c.args.options.now c.args.names.now (g.S.Shelf.told c.args.source.now) in
    let fault = c.in_err-find_names.field-0.0 in
    err_is c.from_residual-in_err-find_names.result fault
    (λ (r : Result (Unit {0}) CarryFault). IfErr r (λ (f : CarryFault). IsOfWork f → Between a a (LeavesTold request)))
    c.from_residual-in_err-find_names.ensures.1 (λ w. untouched_told request a)

pub returns-in_err-store-clause-only_told : goal.returns-in_err-store-clause-only_told
returns-in_err-store-clause-only_told g c =
    let a = g.D.Shelf.told c.args.target.now in
    let b = g.D.Shelf.told c.open.new.depot in
    let n = g.D.Shelf.faults c.args.target.now in
    let m = g.D.Shelf.faults c.open.new.depot in
    let request = asked c.args.secrets.now c.args.options.now c.args.names.now (g.S.Shelf.told c.args.source.now) in
    let refusal = c.in_err-store.field-0.0 in
    err_is c.from_residual-in_err-store.result (target_fault refusal)
    (λ (r : Result (Unit {0}) CarryFault). IfErr r (λ (f : CarryFault). IsOfWork f → Between a b (LeavesTold request)))
    c.from_residual-in_err-store.ensures.1
    (λ w. unopened_told request OpenFits a b n m refusal c.open.ensures.untold c.in_err-store.ensures.did)

pub returns-in_err-carry-clause-only_told : goal.returns-in_err-carry-clause-only_told
returns-in_err-carry-clause-only_told g c =
    let a = g.D.Shelf.told c.args.target.now in
    let b = g.D.Shelf.told c.open.new.depot in
    let d = g.D.Shelf.told c.carry.new.depot in
    let n = g.D.Shelf.faults c.args.target.now in
    let m = g.D.Shelf.faults c.open.new.depot in
    let k = g.D.Shelf.faults c.carry.new.depot in
    let told = g.S.Shelf.told c.args.source.now in
    let request = asked c.args.secrets.now c.args.options.now c.args.names.now told in
    let store = c.in_ok-store.store in
    let fault = c.in_err-carry.field-0.0 in
    let chosen_is = c.deref-2.ensures.value ∙ c.in_ok-chosen.ensures.chosen in
    let accepts = c.in_ok-store.ensures.accepted in
    let works = copied_some c.args.secrets.now c.args.options.now c.args.names.now (repo_view c.args.repo.now) told c.deref-2.result.now
    c.requires.source_opens chosen_is {U = Unit {0}} store c.carry.new.store a b d n m k
    (g.E.Entropy.drawn c.args.entropy.now) (g.E.Entropy.drawn c.carry.new.entropy) fault accepts
    c.in_ok-store.ensures.opened c.open.ensures.untold c.in_ok-store.ensures.did c.in_err-carry.ensures.works in
    err_is c.from_residual-in_err-carry.result fault
    (λ (r : Result (Unit {0}) CarryFault). IfErr r (λ (f : CarryFault). IsOfWork f → Between a d (LeavesTold request)))
    c.from_residual-in_err-carry.ensures.1
    (λ w.
    stopped_told c.args.secrets.now c.args.options.now c.args.names.now (repo_view c.args.repo.now) told c.deref-2.result.now
    c.requires.source_opens chosen_is store a b d n m accepts c.in_ok-store.ensures.opened c.open.ensures.untold c.in_ok-store.ensures.did
    works.each (c.in_err-carry.ensures.stops.stands w))

pub returns-in_err-chosen-clause-put : goal.returns-in_err-chosen-clause-put
returns-in_err-chosen-clause-put g c =
    let a = g.D.Shelf.told c.args.target.now in
    let request = asked c.args.secrets.now c.args.options.now c.args.names.now (g.S.Shelf.told c.args.source.now) in
    err_is c.from_residual.result Memory
    (λ (r : Result (Unit {0}) CarryFault). IfErr r (λ (f : CarryFault). is_spared (carry_status f) ≡ true → Between a a (LeavesFirst request)))
    c.from_residual.ensures.1 (λ e. untouched_first request a)

pub returns-in_err-find_names-clause-put : goal.returns-in_err-find_names-clause-put
returns-in_err-find_names-clause-put g c =
    let a = g.D.Shelf.told c.args.target.now in
    let request = asked c.args.secrets.now c.args.options.now c.args.names.now (g.S.Shelf.told c.args.source.now) in
    let fault = c.in_err-find_names.field-0.0 in
    err_is c.from_residual-in_err-find_names.result fault
    (λ (r : Result (Unit {0}) CarryFault). IfErr r (λ (f : CarryFault). is_spared (carry_status f) ≡ true → Between a a (LeavesFirst request)))
    c.from_residual-in_err-find_names.ensures.1 (λ e. untouched_first request a)

pub returns-in_err-store-clause-put : goal.returns-in_err-store-clause-put
returns-in_err-store-clause-put g c =
    let a = g.D.Shelf.told c.args.target.now in
    let b = g.D.Shelf.told c.open.new.depot in
    let n = g.D.Shelf.faults c.args.target.now in
    let m = g.D.Shelf.faults c.open.new.depot in
    let request = asked c.args.secrets.now c.args.options.now c.args.names.now (g.S.Shelf.told c.args.source.now) in
    let refusal = c.in_err-store.field-0.0 in
    err_is c.from_residual-in_err-store.result (target_fault refusal)
    (λ (r : Result (Unit {0}) CarryFault). IfErr r (λ (f : CarryFault). is_spared (carry_status f) ≡ true → Between a b (LeavesFirst request)))
    c.from_residual-in_err-store.ensures.1
    (λ e. unopened_first request OpenFits a b n m refusal c.in_err-store.ensures.did c.in_err-store.ensures.refused e)

pub returns-in_err-carry-clause-put : goal.returns-in_err-carry-clause-put
returns-in_err-carry-clause-put g c =
    let a = g.D.Shelf.told c.args.target.now in
    let b = g.D.Shelf.told c.open.new.depot in
    let d = g.D.Shelf.told c.carry.new.depot in
    let n = g.D.Shelf.faults c.args.target.now in
    let m = g.D.Shelf.faults c.open.new.depot in
    let k = g.D.Shelf.faults c.carry.new.depot in
    let told = g.S.Shelf.told c.args.source.now in
    let request = asked c.args.secrets.now c.args.options.now c.args.names.now told in
    let fault = c.in_err-carry.field-0.0 in
    err_is c.from_residual-in_err-carry.result fault
    (λ (r : Result (Unit {0}) CarryFault). IfErr r (λ (f : CarryFault). is_spared (carry_status f) ≡ true → Between a d (LeavesFirst request)))
    c.from_residual-in_err-carry.ensures.1
    (λ e.
    stopped_first c.args.secrets.now c.args.options.now c.args.names.now (repo_view c.args.repo.now) told c.deref-2.result.now
    c.requires.source_opens (c.deref-2.ensures.value ∙ c.in_ok-chosen.ensures.chosen) c.in_ok-store.store c.carry.new.store a b d n m k
    (g.E.Entropy.drawn c.args.entropy.now) (g.E.Entropy.drawn c.carry.new.entropy) fault c.in_ok-store.ensures.accepted
    c.in_ok-store.ensures.opened c.in_ok-store.ensures.did c.in_err-carry.ensures.works e)

pub returns-in_err-chosen-clause-untouched : goal.returns-in_err-chosen-clause-untouched
returns-in_err-chosen-clause-untouched g c =
    let request = asked c.args.secrets.now c.args.options.now c.args.names.now (g.S.Shelf.told c.args.source.now) in
    unused request _ (refl, refl)

pub returns-in_err-find_names-clause-untouched : goal.returns-in_err-find_names-clause-untouched
returns-in_err-find_names-clause-untouched g c =
    let request = asked c.args.secrets.now c.args.options.now c.args.names.now (g.S.Shelf.told c.args.source.now) in
    unused request _ (refl, refl)

pub returns-in_err-store-clause-untouched : goal.returns-in_err-store-clause-untouched
returns-in_err-store-clause-untouched g c =
    let request = asked c.args.secrets.now c.args.options.now c.args.names.now (g.S.Shelf.told c.args.source.now) in
    found_apart request _
    (names_found c.args.secrets.now c.args.options.now c.args.names.now (repo_view c.args.repo.now) (g.S.Shelf.told c.args.source.now)
    c.deref.result.now c.requires.source_opens (c.deref.ensures.value ∙ c.in_ok-chosen.ensures.chosen) c.in_ok-find_names.ensures.found)

pub returns-in_err-carry-clause-untouched : goal.returns-in_err-carry-clause-untouched
returns-in_err-carry-clause-untouched g c =
    let request = asked c.args.secrets.now c.args.options.now c.args.names.now (g.S.Shelf.told c.args.source.now) in
    found_apart request _
    (names_found c.args.secrets.now c.args.options.now c.args.names.now (repo_view c.args.repo.now) (g.S.Shelf.told c.args.source.now)
    c.deref.result.now c.requires.source_opens (c.deref.ensures.value ∙ c.in_ok-chosen.ensures.chosen) c.in_ok-find_names.ensures.found)

pub returns-clause-untouched : goal.returns-clause-untouched
returns-clause-untouched g c =
    let request = asked c.args.secrets.now c.args.options.now c.args.names.now (g.S.Shelf.told c.args.source.now) in
    found_apart request _
    (names_found c.args.secrets.now c.args.options.now c.args.names.now (repo_view c.args.repo.now) (g.S.Shelf.told c.args.source.now)
    c.deref.result.now c.requires.source_opens (c.deref.ensures.value ∙ c.in_ok-chosen.ensures.chosen) c.in_ok-find_names.ensures.found)

pub returns-in_err-chosen-clause-shut : goal.returns-in_err-chosen-clause-shut
returns-in_err-chosen-clause-shut g c = shut_here c.args.secrets.now.target (g.D.Shelf.told c.args.target.now)

pub returns-in_err-find_names-clause-shut : goal.returns-in_err-find_names-clause-shut
returns-in_err-find_names-clause-shut g c = shut_here c.args.secrets.now.target (g.D.Shelf.told c.args.target.now)

pub returns-in_err-store-clause-shut : goal.returns-in_err-store-clause-shut
returns-in_err-store-clause-shut g c = c.open.ensures.kept

pub returns-in_err-carry-clause-shut : goal.returns-in_err-carry-clause-shut
returns-in_err-carry-clause-shut g c =
    opened_then c.args.secrets.now.target (repo_view c.in_ok-store.store.repo) (g.D.Shelf.told c.args.target.now) (g.D.Shelf.told c.open.new.depot)
    (g.D.Shelf.told c.carry.new.depot) _ _ c.in_ok-store.ensures.opened c.in_ok-store.ensures.numbered c.in_ok-store.ensures.did.each
    c.carry.ensures.works.works.each

pub returns-clause-shut : goal.returns-clause-shut
returns-clause-shut g c =
    opened_then c.args.secrets.now.target (repo_view c.in_ok-store.store.repo) (g.D.Shelf.told c.args.target.now) (g.D.Shelf.told c.open.new.depot)
    (g.D.Shelf.told c.carry.new.depot) _ _ c.in_ok-store.ensures.opened c.in_ok-store.ensures.numbered c.in_ok-store.ensures.did.each
    c.carry.ensures.works.works.each

pub returns-in_err-chosen-clause-puts : goal.returns-in_err-chosen-clause-puts
returns-in_err-chosen-clause-puts g c =
    untouched_puts (asked c.args.secrets.now c.args.options.now c.args.names.now (g.S.Shelf.told c.args.source.now)) (g.D.Shelf.told c.args.target.now)

pub returns-in_err-find_names-clause-puts : goal.returns-in_err-find_names-clause-puts
returns-in_err-find_names-clause-puts g c =
    untouched_puts (asked c.args.secrets.now c.args.options.now c.args.names.now (g.S.Shelf.told c.args.source.now)) (g.D.Shelf.told c.args.target.now)

pub returns-in_err-store-clause-puts : goal.returns-in_err-store-clause-puts
returns-in_err-store-clause-puts g c =
    unopened_puts (asked c.args.secrets.now c.args.options.now c.args.names.now (g.S.Shelf.told c.args.source.now)) (g.D.Shelf.told c.args.target.now)
    (g.D.Shelf.told c.open.new.depot) c.open.ensures.removes

pub returns-in_err-carry-clause-puts : goal.returns-in_err-carry-clause-puts
returns-in_err-carry-clause-puts g c =
    let works = c.in_err-carry.ensures.works in
    carried_puts c.args.secrets.now c.args.options.now c.args.names.now (repo_view c.args.repo.now) (g.S.Shelf.told c.args.source.now) c.deref-2.result.now
    c.requires.source_opens (c.deref-2.ensures.value ∙ c.in_ok-chosen.ensures.chosen) c.in_ok-store.store (g.D.Shelf.told c.args.target.now)
    (g.D.Shelf.told c.open.new.depot) (g.D.Shelf.told c.carry.new.depot) (g.D.Shelf.faults c.args.target.now) (g.D.Shelf.faults c.open.new.depot)
    c.in_ok-store.ensures.accepted c.in_ok-store.ensures.opened c.open.ensures.removes c.in_ok-store.ensures.did works.added works.begins works.works.each

pub returns-clause-puts : goal.returns-clause-puts
returns-clause-puts g c =
    let works = c.in_ok-carry.ensures.works in
    carried_puts c.args.secrets.now c.args.options.now c.args.names.now (repo_view c.args.repo.now) (g.S.Shelf.told c.args.source.now) c.deref-2.result.now
    c.requires.source_opens (c.deref-2.ensures.value ∙ c.in_ok-chosen.ensures.chosen) c.in_ok-store.store (g.D.Shelf.told c.args.target.now)
    (g.D.Shelf.told c.open.new.depot) (g.D.Shelf.told c.carry.new.depot) (g.D.Shelf.faults c.args.target.now) (g.D.Shelf.faults c.open.new.depot)
    c.in_ok-store.ensures.accepted c.in_ok-store.ensures.opened c.open.ensures.removes c.in_ok-store.ensures.did works.added works.begins works.works.each

pub returns-in_err-carry-clause-same : goal.returns-in_err-carry-clause-same
returns-in_err-carry-clause-same g c =
    err_is c.from_residual-in_err-carry.result c.in_err-carry.field-0.0
    (λ (r : Result (Unit {0}) CarryFault). KeepsTold shelf_failed (g.S.Shelf.told c.args.source.now) (g.S.Shelf.told c.carry.new.shelf) r)
    c.from_residual-in_err-carry.ensures.1 c.in_err-carry.ensures.both.source.same

pub returns-in_err-carry-clause-cause : goal.returns-in_err-carry-clause-cause
returns-in_err-carry-clause-cause g c =
    err_is c.from_residual-in_err-carry.result c.in_err-carry.field-0.0
    (λ (r : Result (Unit {0}) CarryFault). HasCause shelf_failed (g.S.Shelf.faults c.args.source.now) (g.S.Shelf.faults c.carry.new.shelf) r)
    c.from_residual-in_err-carry.ensures.1 c.in_err-carry.ensures.both.source.cause

pub returns-in_err-carry-clause-entropy : goal.returns-in_err-carry-clause-entropy
returns-in_err-carry-clause-entropy g c =
    err_is c.from_residual-in_err-carry.result c.in_err-carry.field-0.0
    (λ (r : Result (Unit {0}) CarryFault). HasCause random_failed (g.E.Entropy.faults c.args.entropy.now) (g.E.Entropy.faults c.carry.new.entropy) r)
    c.from_residual-in_err-carry.ensures.1 c.in_err-carry.ensures.both.entropy

pub returns-in_err-chosen-clause-number : goal.returns-in_err-chosen-clause-number
returns-in_err-chosen-clause-number g c =
    let a = g.D.Shelf.told c.args.target.now in
    let request = asked c.args.secrets.now c.args.options.now c.args.names.now (g.S.Shelf.told c.args.source.now) in
    err_is c.from_residual.result Memory (λ (r : Result (Unit {0}) CarryFault). NeedsNumber (IsBeforeTarget request) c.args.secrets.now.target a r)
    c.from_residual.ensures.1 (before_number (Unit {0}) (IsBeforeTarget request) c.args.secrets.now.target a Memory tt)

pub returns-in_err-find_names-clause-number : goal.returns-in_err-find_names-clause-number
returns-in_err-find_names-clause-number g c =
    let a = g.D.Shelf.told c.args.target.now in
    let request = asked c.args.secrets.now c.args.options.now c.args.names.now (g.S.Shelf.told c.args.source.now) in
    let fault = c.in_err-find_names.field-0.0 in
    err_is c.from_residual-in_err-find_names.result fault
    (λ (r : Result (Unit {0}) CarryFault). NeedsNumber (IsBeforeTarget request) c.args.secrets.now.target a r)
    c.from_residual-in_err-find_names.ensures.1
    (before_number (Unit {0}) (IsBeforeTarget request) c.args.secrets.now.target a fault
    (missing_before request (repo_view c.args.repo.now).manifest c.deref.result.now fault c.in_err-find_names.ensures.refused))

pub returns-in_err-store-clause-number : goal.returns-in_err-store-clause-number
returns-in_err-store-clause-number g c =
    let a = g.D.Shelf.told c.args.target.now in
    let request = asked c.args.secrets.now c.args.options.now c.args.names.now (g.S.Shelf.told c.args.source.now) in
    let refusal = c.in_err-store.field-0.0 in
    err_is c.from_residual-in_err-store.result (target_fault refusal)
    (λ (r : Result (Unit {0}) CarryFault). NeedsNumber (IsBeforeTarget request) c.args.secrets.now.target a r)
    c.from_residual-in_err-store.ensures.1
    (unopened_number (Unit {0}) (IsBeforeTarget request) c.args.secrets.now.target a refusal c.in_err-store.ensures.refused)

pub returns-in_err-carry-clause-number : goal.returns-in_err-carry-clause-number
returns-in_err-carry-clause-number g c =
    let a = g.D.Shelf.told c.args.target.now in
    let request = asked c.args.secrets.now c.args.options.now c.args.names.now (g.S.Shelf.told c.args.source.now) in
    has_number {T = Unit {0}} (IsBeforeTarget request) c.args.secrets.now.target a _ c.in_ok-store.ensures.numbered

pub returns-clause-number : goal.returns-clause-number
returns-clause-number g c =
    let a = g.D.Shelf.told c.args.target.now in
    let request = asked c.args.secrets.now c.args.options.now c.args.names.now (g.S.Shelf.told c.args.source.now) in
    has_number {T = Unit {0}} (IsBeforeTarget request) c.args.secrets.now.target a (Ok tt) c.in_ok-store.ensures.numbered
