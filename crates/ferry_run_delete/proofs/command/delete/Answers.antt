use Rattle.ferry_status.proofs.OpenedLemmas.{done_number, refused_number}
use Rattle.ferry_status.proofs.UnreadLemmas.{unread_reading}
use Rattle.ferry_status.specs.Status.{is_unread}
use Rattle.std.proofs.Common.{rules, ◌≡◌, inr, ℕ, List, subst, [], sym, ap, ◌∙◌}
use Rattle.ferry_disk.proofs.MomentLemmas.{between_map}
use Rattle.ferry_disk.specs.Moments.{Between}
use Rattle.ferry_run_delete.proofs.CauseLemmas.{deletes_done}
use Rattle.ferry_run_delete.proofs.EndLemmas.{deleted_ended}
use Rattle.ferry_run_delete.proofs.ShowLemmas.{DeleteEach, deletion, some_left}
use Rattle.ferry_run_delete.proofs.command.delete.Goals as goal
use Rattle.ferry_run_delete.specs.Delete.{HasDeleted, LeavesOthers, RefusesDeletion}
use Rattle.ferry_status.specs.Opened.{ChangesLeave, RefusesChange}

pub returns-in-Ok-clause-ended : goal.returns-in-Ok-clause-ended
returns-in-Ok-clause-ended g c done =
    let a = g.D.Shelf.told c.args.target.now in
    let b = g.D.Shelf.told c.delete_and_tell.new.target in
    let same : c.as_slice.result.now ≡ c.args.name = search rules in
    subst (λ (name : List ℕ). Between a b (λ h g. h.acts ≡ [] → HasDeleted c.args.secret.now name c.args.timestamp h g)) same
    (deleted_ended (deletion c.args.secret.now c.as_slice.result.now c.args.timestamp) a b (g.D.Shelf.faults c.args.target.now)
    (g.D.Shelf.faults c.delete_and_tell.new.target) c.in-Ok.ensures.works)

pub returns-in-Ok-clause-left : goal.returns-in-Ok-clause-left
returns-in-Ok-clause-left g c =
    let a = g.D.Shelf.told c.args.target.now in
    let b = g.D.Shelf.told c.delete_and_tell.new.target in
    let asked = deletion c.args.secret.now c.as_slice.result.now c.args.timestamp in
    let same : c.as_slice.result.now ≡ c.args.name = search rules in
    subst (λ (name : List ℕ). Between a b (ChangesLeave c.args.secret.now (LeavesOthers c.args.secret.now name c.args.timestamp))) same
    (between_map a b (DeleteEach asked) (ChangesLeave asked.secret (LeavesOthers asked.secret asked.name asked.timestamp)) (some_left asked)
    c.in-Ok.ensures.works.each)

pub returns-clause-left : goal.returns-clause-left
returns-clause-left g c =
    let a = g.D.Shelf.told c.args.target.now in
    let b = g.D.Shelf.told c.delete_and_tell.new.target in
    let asked = deletion c.args.secret.now c.as_slice.result.now c.args.timestamp in
    let same : c.as_slice.result.now ≡ c.args.name = search rules in
    subst (λ (name : List ℕ). Between a b (ChangesLeave c.args.secret.now (LeavesOthers c.args.secret.now name c.args.timestamp))) same
    (between_map a b (DeleteEach asked) (ChangesLeave asked.secret (LeavesOthers asked.secret asked.name asked.timestamp)) (some_left asked)
    c.in-Err.ensures.works.each)

pub returns-clause-completes : goal.returns-clause-completes
returns-clause-completes g c =
    let a = g.D.Shelf.told c.args.target.now in
    let b = g.D.Shelf.told c.delete_and_tell.new.target in
    let same : c.as_slice.result.now ≡ c.args.name = search rules in
    deletes_done (deletion c.args.secret.now c.args.name c.args.timestamp) a b _
    (inr (record {
      fault = c.in-Err.fault;
      status_is = c.of_carry.ensures;
      refuses =
          subst (λ (name : List ℕ). RefusesChange c.args.secret.now (RefusesDeletion name c.args.timestamp b) a c.in-Err.fault)
          same
          c.in-Err.ensures.refused;
    }))

pub returns-in-Ok-clause-number : goal.returns-in-Ok-clause-number
returns-in-Ok-clause-number g c =
    done_number {T = Unit {0}} (λ fault. ⊥) c.args.secret.now (g.D.Shelf.told c.args.target.now) tt c.in-Ok.ensures.number

pub returns-clause-number : goal.returns-clause-number
returns-clause-number g c =
    refused_number (Unit {0}) (λ fault. ⊥) c.args.secret.now (g.D.Shelf.told c.args.target.now) c.in-Err.fault _ c.of_carry.ensures
    c.in-Err.ensures.number

pub returns-clause-unwritten : goal.returns-clause-unwritten
returns-clause-unwritten g c unread =
    c.in-Err.ensures.unwritten (unread_reading c.in-Err.fault (sym (ap is_unread c.of_carry.ensures) ∙ unread))
