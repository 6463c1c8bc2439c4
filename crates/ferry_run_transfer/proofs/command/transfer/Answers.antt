use Rattle.ferry_run_transfer.specs.TransferCauses.{IsBeforeTarget}
use Rattle.ferry_status.proofs.OpenedLemmas.{done_number, refused_number}
use Rattle.ferry_run_transfer.proofs.ToldLemmas.{of_work}
use Rattle.ferry_run_transfer.proofs.UntouchedLemmas.{transfer_ended}
use Rattle.ferry_run_transfer.proofs.command.transfer.Goals as goal
use Rattle.ferry_run_transfer.specs.Putting.{is_spared}
use Rattle.ferry_status.specs.Status.{is_of_work}
use Rattle.ferry_carry.specs.States.{drawn_from}
use Rattle.ferry_run_transfer.specs.Transfer.{asked}
use Rattle.std.proofs.Common.{◌≡◌, false, true, inl, inr, refl, subst}
use Rattle.ferry_disk.proofs.MomentLemmas.{between_map}
use Rattle.ferry_run_transfer.proofs.DoneLemmas.{ends_done}
use Rattle.ferry_run_transfer.proofs.TransferLemmas.{left_of}
use Rattle.ferry_run_transfer.specs.Transfer.{TransferEach, TransferLeaves}
use Rattle.ferry_status.specs.declared.status.Status.{Status}

pub returns-in-Ok-clause-ended : goal.returns-in-Ok-clause-ended
returns-in-Ok-clause-ended g c done =
    transfer_ended {T = Unit {0}} (asked c.args.secrets.now c.args.options.now c.args.names.now (g.S.Shelf.told c.args.source.now))
    (g.E.Entropy.drawn c.args.entropy.now) (g.E.Entropy.drawn c.copy.new.entropy) (g.D.Shelf.told c.args.target.now) (g.D.Shelf.told c.copy.new.target)
    (g.D.Shelf.faults c.args.target.now) (g.D.Shelf.faults c.copy.new.target) tt
    c.in-Ok.ensures.works

pub returns-in-Ok-clause-left : goal.returns-in-Ok-clause-left
returns-in-Ok-clause-left g c =
    let request = asked c.args.secrets.now c.args.options.now c.args.names.now (g.S.Shelf.told c.args.source.now) in
    between_map (g.D.Shelf.told c.args.target.now) (g.D.Shelf.told c.copy.new.target) (TransferEach request) (TransferLeaves request) (left_of request)
    c.in-Ok.ensures.works.each

pub returns-in-Ok-clause-completes : goal.returns-in-Ok-clause-completes
returns-in-Ok-clause-completes g c =
    ends_done (asked c.args.secrets.now c.args.options.now c.args.names.now (g.S.Shelf.told c.args.source.now))
    (drawn_from (g.E.Entropy.drawn c.args.entropy.now) (g.E.Entropy.drawn c.copy.new.entropy)) (g.D.Shelf.told c.args.target.now)
    (g.D.Shelf.told c.copy.new.target) _ (inl refl)

pub returns-in-Err-clause-left : goal.returns-in-Err-clause-left
returns-in-Err-clause-left g c =
    let request = asked c.args.secrets.now c.args.options.now c.args.names.now (g.S.Shelf.told c.args.source.now) in
    between_map (g.D.Shelf.told c.args.target.now) (g.D.Shelf.told c.copy.new.target) (TransferEach request) (TransferLeaves request) (left_of request)
    c.in-Err.ensures.works.each

pub returns-in-Err-clause-refused : goal.returns-in-Err-clause-refused
returns-in-Err-clause-refused g c = inr (record { fault = c.in-Err.fault; status_is = c.of_carry.ensures; refuses = c.in-Err.ensures.refused })

pub returns-in-Err-clause-completes : goal.returns-in-Err-clause-completes
returns-in-Err-clause-completes g c =
    ends_done (asked c.args.secrets.now c.args.options.now c.args.names.now (g.S.Shelf.told c.args.source.now))
    (drawn_from (g.E.Entropy.drawn c.args.entropy.now) (g.E.Entropy.drawn c.copy.new.entropy)) (g.D.Shelf.told c.args.target.now)
    (g.D.Shelf.told c.copy.new.target) _
    (inr (record { fault = c.in-Err.fault; status_is = c.of_carry.ensures; refuses = c.in-Err.ensures.refused }))

pub returns-in-Ok-clause-only_told : goal.returns-in-Ok-clause-only_told
returns-in-Ok-clause-only_told g c refused = absurd (let e : false ≡ true = refused in let no : ⊥ = cc in no)

pub returns-in-Err-clause-only_told : goal.returns-in-Err-clause-only_told
returns-in-Err-clause-only_told g c refused =
    c.in-Err.ensures.only_told (of_work c.in-Err.fault (subst (λ (status : Status). is_of_work status ≡ true) c.of_carry.ensures refused))

pub returns-in-Ok-clause-put : goal.returns-in-Ok-clause-put
returns-in-Ok-clause-put g c refused = absurd (let e : false ≡ true = refused in let no : ⊥ = cc in no)

pub returns-in-Err-clause-put : goal.returns-in-Err-clause-put
returns-in-Err-clause-put g c refused =
    c.in-Err.ensures.put (subst (λ (status : Status). is_spared status ≡ true) c.of_carry.ensures refused)

pub returns-in-Ok-clause-number : goal.returns-in-Ok-clause-number
returns-in-Ok-clause-number g c =
    done_number {T = Unit {0}} (IsBeforeTarget (asked c.args.secrets.now c.args.options.now c.args.names.now (g.S.Shelf.told c.args.source.now)))
    c.args.secrets.now.target (g.D.Shelf.told c.args.target.now) tt c.in-Ok.ensures.number

pub returns-in-Err-clause-number : goal.returns-in-Err-clause-number
returns-in-Err-clause-number g c =
    refused_number (Unit {0}) (IsBeforeTarget (asked c.args.secrets.now c.args.options.now c.args.names.now (g.S.Shelf.told c.args.source.now)))
    c.args.secrets.now.target (g.D.Shelf.told c.args.target.now) c.in-Err.fault _ c.of_carry.ensures c.in-Err.ensures.number
