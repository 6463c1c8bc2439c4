use Rattle.ferry_status.specs.Opened.{NeedsNumber}
use Rattle.std.proofs.Common.{◌≡◌, true, Result, refl, subst, IfSome}
use Rattle.ferry_piece.proofs.FaultLemmas.{source_still}
use Rattle.ferry_piece.proofs.WorkLemmas.{err_is}
use Rattle.ferry_piece.specs.Fault.{IsOfWork, source_fault}
use Rattle.ferry_piece.specs.Work.{Works}
use Rattle.ferry_piece.specs.declared.fault.CarryFault.{CarryFault}
use Rattle.ferry_disk.specs.Moments.{Between}
use Rattle.ferry_repo.specs.Fault.{repo_failed}
use Rattle.ferry_repo.specs.declared.fault.RepoFault.{RepoFault}
use Rattle.ferry_repo.specs.declared.repo.Repo.{Repo}
use Rattle.ferry_status.proofs.OpenedLemmas.{shut_here, before_number}
use Rattle.ferry_run_transfer.proofs.PuttingLemmas.{untouched_first, untouched_puts}
use Rattle.ferry_run_transfer.proofs.ToldLemmas.{untouched_told}
use Rattle.ferry_run_transfer.specs.Putting.{LeavesFirst, TransferPuts, is_spared}
use Rattle.ferry_status.specs.Status.{carry_status}
use Rattle.ferry_run_transfer.proofs.SourceLemmas.{asked_kept, source_fits, source_opens}
use Rattle.ferry_run_transfer.proofs.UntouchedLemmas.{untouched}
use Rattle.ferry_run_transfer.proofs.command.copy.Goals as goal
use Rattle.ferry_carry.specs.States.{drawn_from}
use Rattle.ferry_run_transfer.specs.Transfer.{LeavesTold, Request, TransferEach, TransferEnds, asked}
use Rattle.std.proofs.Common.{IfErr}
use Rattle.ferry_run_transfer.proofs.RefusedLemmas.{asked_source, unread_refused, unused, unread_before}
use Rattle.ferry_run_transfer.specs.TransferCauses.{IsFound, RefusesAsked, IsBeforeTarget}
use Rattle.ferry_status.specs.Devices.{drawn as drawn_of, store}

pub returns-in_err-repo-clause-works : goal.returns-in_err-repo-clause-works
returns-in_err-repo-clause-works g c =
    let a = g.D.Shelf.told c.args.target.now in
    let n = g.D.Shelf.faults c.args.target.now in
    let request = asked c.args.secrets.now c.args.options.now c.args.names.now (g.S.Shelf.told c.args.source.now) in
    let fault = source_fault c.in_err-repo.field-0.0 in
    err_is c.from_residual.result fault
    (λ (r : Result (Unit {0}) CarryFault). Works (TransferEach request) (λ _. TransferEnds request (g.E.Entropy.drawn c.args.entropy.now) (g.E.Entropy.drawn
    c.args.entropy.now)) a a n n r) c.from_residual.ensures.1
    (untouched {T = Unit {0}} request (g.E.Entropy.drawn c.args.entropy.now) (g.E.Entropy.drawn c.args.entropy.now) a n fault (source_still
    c.in_err-repo.field-0.0))

pub copy_into-requires-clause-source_opens : goal.copy_into-requires-clause-source_opens
copy_into-requires-clause-source_opens g c =
    source_opens (g.S.Shelf.told c.args.source.now) (g.S.Shelf.told c.open.new.shelf) c.in_ok-repo.repo c.args.secrets.now.source
    c.in_ok-repo.ensures.repository c.in_ok-repo.ensures.same

pub copy_into-requires-clause-source_fits : goal.copy_into-requires-clause-source_fits
copy_into-requires-clause-source_fits g c =
    source_fits (g.S.Shelf.told c.open.new.shelf) c.in_ok-repo.repo c.args.secrets.now.source
    (source_opens (g.S.Shelf.told c.args.source.now) (g.S.Shelf.told c.open.new.shelf) c.in_ok-repo.repo c.args.secrets.now.source
    c.in_ok-repo.ensures.repository c.in_ok-repo.ensures.same) c.in_ok-repo.ensures.cached

pub returns-clause-works : goal.returns-clause-works
returns-clause-works g c =
    subst (λ (request : Request). Works (TransferEach request) (λ _. TransferEnds request (g.E.Entropy.drawn c.args.entropy.now) (g.E.Entropy.drawn
    c.copy_into.new.entropy)) (g.D.Shelf.told c.args.target.now)
    (g.D.Shelf.told c.copy_into.new.target) (g.D.Shelf.faults c.args.target.now) (g.D.Shelf.faults c.copy_into.new.target) c.copy_into.result)
    (asked_kept {T = Repo} {F = RepoFault} c.args.secrets.now c.args.options.now c.args.names.now repo_failed (g.S.Shelf.told c.args.source.now)
    (g.S.Shelf.told c.open.new.shelf) c.in_ok-repo.repo c.in_ok-repo.ensures.same) c.copy_into.ensures.works

pub returns-in_err-repo-clause-refused : goal.returns-in_err-repo-clause-refused
returns-in_err-repo-clause-refused g c =
    let a = g.D.Shelf.told c.args.target.now in
    let told = g.S.Shelf.told c.args.source.now in
    let request = asked c.args.secrets.now c.args.options.now c.args.names.now told in
    let drawn = drawn_from (g.E.Entropy.drawn c.args.entropy.now) (g.E.Entropy.drawn c.args.entropy.now) in
    let fault = c.in_err-repo.field-0.0 in
    err_is c.from_residual.result (source_fault fault) (λ (r : Result (Unit {0}) CarryFault). IfErr r (RefusesAsked request drawn a a))
    c.from_residual.ensures.1
    (unread_refused request drawn a a fault (asked_source c.args.secrets.now c.args.options.now c.args.names.now told fault c.in_err-repo.ensures.refused))

pub returns-clause-refused : goal.returns-clause-refused
returns-clause-refused g c =
    subst (λ (request : Request). IfErr c.copy_into.result (RefusesAsked request
    (drawn_from (g.E.Entropy.drawn c.args.entropy.now) (g.E.Entropy.drawn c.copy_into.new.entropy)) (g.D.Shelf.told c.args.target.now)
    (g.D.Shelf.told c.copy_into.new.target)))
    (asked_kept {T = Repo} {F = RepoFault} c.args.secrets.now c.args.options.now c.args.names.now repo_failed (g.S.Shelf.told c.args.source.now)
    (g.S.Shelf.told c.open.new.shelf) c.in_ok-repo.repo c.in_ok-repo.ensures.same) c.copy_into.ensures.refused

pub returns-in_err-repo-clause-only_told : goal.returns-in_err-repo-clause-only_told
returns-in_err-repo-clause-only_told g c =
    let a = g.D.Shelf.told c.args.target.now in
    let request = asked c.args.secrets.now c.args.options.now c.args.names.now (g.S.Shelf.told c.args.source.now) in
    err_is c.from_residual.result (source_fault c.in_err-repo.field-0.0)
    (λ (r : Result (Unit {0}) CarryFault). IfErr r (λ (f : CarryFault). IsOfWork f → Between a a (LeavesTold request))) c.from_residual.ensures.1
    (λ w. untouched_told request a)

pub returns-clause-only_told : goal.returns-clause-only_told
returns-clause-only_told g c =
    subst (λ (request : Request). IfErr c.copy_into.result (λ (f : CarryFault). IsOfWork f
    → Between (g.D.Shelf.told c.args.target.now) (g.D.Shelf.told c.copy_into.new.target) (LeavesTold request)))
    (asked_kept {T = Repo} {F = RepoFault} c.args.secrets.now c.args.options.now c.args.names.now repo_failed (g.S.Shelf.told c.args.source.now)
    (g.S.Shelf.told c.open.new.shelf) c.in_ok-repo.repo c.in_ok-repo.ensures.same) c.copy_into.ensures.only_told

pub returns-in_err-repo-clause-put : goal.returns-in_err-repo-clause-put
returns-in_err-repo-clause-put g c =
    let a = g.D.Shelf.told c.args.target.now in
    let request = asked c.args.secrets.now c.args.options.now c.args.names.now (g.S.Shelf.told c.args.source.now) in
    err_is c.from_residual.result (source_fault c.in_err-repo.field-0.0)
    (λ (r : Result (Unit {0}) CarryFault). IfErr r (λ (f : CarryFault). is_spared (carry_status f) ≡ true → Between a a (LeavesFirst request)))
    c.from_residual.ensures.1 (λ e. untouched_first request a)

pub returns-clause-put : goal.returns-clause-put
returns-clause-put g c =
    subst (λ (request : Request). IfErr c.copy_into.result (λ (f : CarryFault). is_spared (carry_status f) ≡ true
    → Between (g.D.Shelf.told c.args.target.now) (g.D.Shelf.told c.copy_into.new.target) (LeavesFirst request)))
    (asked_kept {T = Repo} {F = RepoFault} c.args.secrets.now c.args.options.now c.args.names.now repo_failed (g.S.Shelf.told c.args.source.now)
    (g.S.Shelf.told c.open.new.shelf) c.in_ok-repo.repo c.in_ok-repo.ensures.same) c.copy_into.ensures.put

pub returns-in_err-repo-clause-untouched : goal.returns-in_err-repo-clause-untouched
returns-in_err-repo-clause-untouched g c =
    unused (asked c.args.secrets.now c.args.options.now c.args.names.now (g.S.Shelf.told c.args.source.now)) _ (refl, refl)

pub returns-clause-untouched : goal.returns-clause-untouched
returns-clause-untouched g c =
    subst (λ (request : Request). IfSome request.source (λ files. (IsFound request files → ⊥)
    → (store (g.D.Shelf.told c.copy_into.new.target) (g.D.Shelf.faults c.copy_into.new.target)
    ≡ store (g.D.Shelf.told c.args.target.now) (g.D.Shelf.faults c.args.target.now))
    × (drawn_of (g.E.Entropy.drawn c.copy_into.new.entropy) (g.E.Entropy.faults c.copy_into.new.entropy)
    ≡ drawn_of (g.E.Entropy.drawn c.args.entropy.now) (g.E.Entropy.faults c.args.entropy.now))))
    (asked_kept {T = Repo} {F = RepoFault} c.args.secrets.now c.args.options.now c.args.names.now repo_failed (g.S.Shelf.told c.args.source.now)
    (g.S.Shelf.told c.open.new.shelf) c.in_ok-repo.repo c.in_ok-repo.ensures.same) c.copy_into.ensures.untouched

pub returns-in_err-repo-clause-shut : goal.returns-in_err-repo-clause-shut
returns-in_err-repo-clause-shut g c = shut_here c.args.secrets.now.target (g.D.Shelf.told c.args.target.now)

pub returns-in_err-repo-clause-puts : goal.returns-in_err-repo-clause-puts
returns-in_err-repo-clause-puts g c =
    untouched_puts (asked c.args.secrets.now c.args.options.now c.args.names.now (g.S.Shelf.told c.args.source.now)) (g.D.Shelf.told c.args.target.now)

pub returns-clause-puts : goal.returns-clause-puts
returns-clause-puts g c =
    subst (λ (request : Request). Between (g.D.Shelf.told c.args.target.now) (g.D.Shelf.told c.copy_into.new.target) (TransferPuts request))
    (asked_kept {T = Repo} {F = RepoFault} c.args.secrets.now c.args.options.now c.args.names.now repo_failed (g.S.Shelf.told c.args.source.now)
    (g.S.Shelf.told c.open.new.shelf) c.in_ok-repo.repo c.in_ok-repo.ensures.same) c.copy_into.ensures.puts

pub returns-in_err-repo-clause-number : goal.returns-in_err-repo-clause-number
returns-in_err-repo-clause-number g c =
    let a = g.D.Shelf.told c.args.target.now in
    let told = g.S.Shelf.told c.args.source.now in
    let request = asked c.args.secrets.now c.args.options.now c.args.names.now told in
    let fault = c.in_err-repo.field-0.0 in
    err_is c.from_residual.result (source_fault fault)
    (λ (r : Result (Unit {0}) CarryFault). NeedsNumber (IsBeforeTarget request) c.args.secrets.now.target a r)
    c.from_residual.ensures.1
    (before_number (Unit {0}) (IsBeforeTarget request) c.args.secrets.now.target a (source_fault fault)
    (unread_before request fault (asked_source c.args.secrets.now c.args.options.now c.args.names.now told fault c.in_err-repo.ensures.refused)))

pub returns-clause-number : goal.returns-clause-number
returns-clause-number g c =
    subst (λ (request : Request). NeedsNumber (IsBeforeTarget request) c.args.secrets.now.target (g.D.Shelf.told c.args.target.now) c.copy_into.result)
    (asked_kept {T = Repo} {F = RepoFault} c.args.secrets.now c.args.options.now c.args.names.now repo_failed (g.S.Shelf.told c.args.source.now)
    (g.S.Shelf.told c.open.new.shelf) c.in_ok-repo.repo c.in_ok-repo.ensures.same) c.copy_into.ensures.number
