use Rattle.std.proofs.Common.{IfSome, OnOk, Result, Err, refl, sym, subst, IfErr, ap}
use Rattle.std.proofs.Common.{◌≡◌, true, false, [], ◌∷◌}
use Rattle.std.specs.BTreeSet.{Updates}
use Rattle.ferry_disk.proofs.FaultLemmas.{keeps_end}
use Rattle.ferry_disk.specs.Device.{HasCause, KeepsTold, told_files}
use Rattle.ferry_log.specs.Live.{key_cmp}
use Rattle.ferry_repo.specs.Opening.{repo_view}
use Rattle.ferry_stops.proofs.TellLemmas.{told_kept}
use Rattle.ferry_store.proofs.AddLemmas.{opened_did}
use Rattle.ferry_store.proofs.CallLemmas.{read_refused}
use Rattle.ferry_store.proofs.CauseLemmas.{opened_stops}
use Rattle.ferry_store.proofs.LimitLemmas.{unopened_kept}
use Rattle.ferry_store.proofs.PutLemmas.{keeps_here}
use Rattle.ferry_store.proofs.StepLemmas.{same_told}
use Rattle.ferry_store.proofs.store.Store.add_old.Goals as goal
use Rattle.ferry_store.specs.Adding.{Adds, entry_of}
use Rattle.ferry_store.specs.Causes.{StopsAt}
use Rattle.ferry_store.specs.Commit.{IsUnspentBy}
use Rattle.ferry_store.specs.Content.{IsThere, RefusesOld}
use Rattle.ferry_store.specs.Fault.{depot_failed, spends}
use Rattle.ferry_store.specs.State.{Did, KeepsSound}
use Rattle.ferry_store.specs.declared.content.Added.{Added}
use Rattle.ferry_store.specs.declared.fault.StoreRefusal.{StoreRefusal}
use Rattle.ferry_store.proofs.FewLemmas.{few_none, few_unwritten}
use Rattle.ferry_store.specs.declared.store.Store.{Store}
use Rattle.ferry_store.proofs.WritingLemmas.{same_writes}
use Rattle.ferry_store.specs.Writing.{CanPut}

pub returns-in-Ok-clause-did : goal.returns-in-Ok-clause-did
returns-in-Ok-clause-did g c = λ content.
    let a = g.D.Shelf.told c.args.depot.now in
    let b = g.D.Shelf.told c.open_content.new.depot in
    let n = g.D.Shelf.faults c.args.depot.now in
    let m = g.D.Shelf.faults c.open_content.new.depot in
    let store = c.args.self.now in
    let repo = c.open_content.new.repo in
    let opened = c.open_content.new.opened in
    let id = c.args.id in
    opened_did store repo opened content id a b n m c.open_content.ensures.kept
    (subst (λ (r : Result (Unit {0}) StoreRefusal). OnOk r (Updates key_cmp store.opened opened id true)) c.in-Ok.is c.open_content.ensures.noted)
    (subst (λ (r : Result (Unit {0}) StoreRefusal). OnOk r (IfSome a (λ t. IsThere (told_files t) (repo_view store.repo) id))) c.in-Ok.is
    c.open_content.ensures.there)
    c.open_content.ensures.fits
    (subst (λ (r : Result (Unit {0}) StoreRefusal). KeepsTold depot_failed a b r) c.in-Ok.is c.open_content.ensures.same)
    (subst (λ (r : Result (Unit {0}) StoreRefusal). HasCause depot_failed n m r) c.in-Ok.is c.open_content.ensures.cause)

pub returns-in-Err-clause-did : goal.returns-in-Err-clause-did
returns-in-Err-clause-did g c = λ content.
    let a = g.D.Shelf.told c.args.depot.now in
    let b = g.D.Shelf.told c.open_content.new.depot in
    let n = g.D.Shelf.faults c.args.depot.now in
    let m = g.D.Shelf.faults c.open_content.new.depot in
    let store = c.args.self.now in
    let refusal = c.in-Err.refusal in
    let E = KeepsSound store.session store.counter in
    subst (λ (r : StoreRefusal). Did {T = Added} E (Adds store content c.spend.new.self) a b n m (Err r)) (sym c.spend.ensures.same)
    (read_refused {T = Added} depot_failed refusal refusal E (Adds store content c.spend.new.self) a b n m refl (keeps_here store.session store.counter)
    (subst (λ (r : Result (Unit {0}) StoreRefusal). KeepsTold depot_failed a b r) c.in-Err.is c.open_content.ensures.same)
    (subst (λ (r : Result (Unit {0}) StoreRefusal). HasCause depot_failed n m r) c.in-Err.is c.open_content.ensures.cause))

pub returns-in-Ok-clause-untold : goal.returns-in-Ok-clause-untold
returns-in-Ok-clause-untold g c =
    told_kept depot_failed (g.D.Shelf.told c.args.depot.now) (g.D.Shelf.told c.open_content.new.depot) c.open_content.result c.open_content.ensures.same

pub returns-in-Err-clause-untold : goal.returns-in-Err-clause-untold
returns-in-Err-clause-untold g c =
    told_kept depot_failed (g.D.Shelf.told c.args.depot.now) (g.D.Shelf.told c.open_content.new.depot) c.open_content.result c.open_content.ensures.same

pub returns-in-Err-clause-stops : goal.returns-in-Err-clause-stops
returns-in-Err-clause-stops g c =
    let a = g.D.Shelf.told c.args.depot.now in
    let b = g.D.Shelf.told c.open_content.new.depot in
    let store = c.args.self.now in
    let id = c.args.id in
    let refusal = c.in-Err.refusal in
    let same = subst (λ (r : Result (Unit {0}) StoreRefusal). KeepsTold depot_failed a b r) c.in-Err.is c.open_content.ensures.same in
    let refused = subst (λ (r : Result (Unit {0}) StoreRefusal). IfErr r (λ f. IfSome a (λ t. RefusesOld (told_files t) (repo_view store.repo) id f)))
    c.in-Err.is c.open_content.ensures.refused in
    subst (λ (f : StoreRefusal). IfSome b (λ t. StopsAt t.history.start (told_files t) (repo_view store.repo).keys f)) (sym c.spend.ensures.same)
    (opened_stops store id refusal a b c.requires.fits c.requires.chunk c.requires.unknown refused
    (keeps_end {T = Unit {0}} depot_failed a b (Err refusal) same) (same_told {T = Unit {0}} depot_failed a b (Err refusal) same))

pub returns-in-Err-clause-kept : goal.returns-in-Err-clause-kept
returns-in-Err-clause-kept g c =
    let a = g.D.Shelf.told c.args.depot.now in
    let b = g.D.Shelf.told c.open_content.new.depot in
    let store = c.args.self.now in
    let repo = c.open_content.new.repo in
    let opened = c.open_content.new.opened in
    let refusal = c.in-Err.refusal in
    let same = subst (λ (r : Result (Unit {0}) StoreRefusal). KeepsTold depot_failed a b r) c.in-Err.is c.open_content.ensures.same in
    let untouched = subst (λ (r : Result (Unit {0}) StoreRefusal). IfErr r (λ f. spends f ≡ false → opened ≡ store.opened)) c.in-Err.is
    c.open_content.ensures.untouched in
    subst (IsUnspentBy store c.spend.new.self a b) (sym c.spend.ensures.same)
    (unopened_kept store c.spend.new.self repo opened refusal a b c.requires.unspent.itself c.open_content.ensures.kept untouched c.spend.ensures.spent
    (same_told {T = Unit {0}} depot_failed a b (Err refusal) same))

pub returns-in-Ok-clause-few : goal.returns-in-Ok-clause-few
returns-in-Ok-clause-few g c = few_none 0 c.args.self.now.session.last _ (λ e. let no : ⊥ = cc in no)

pub returns-in-Err-clause-few : goal.returns-in-Err-clause-few
returns-in-Err-clause-few g c =
    few_unwritten {T = Unit {0}} {U = Added} 0 c.args.self.now.session.last c.spend.new.self.session.last c.open_content.result c.in-Err.refusal
    c.spend.result c.in-Err.is c.spend.ensures.same (ap (λ (s : Store). s.session.last) c.spend.ensures.spent) c.open_content.ensures.unwritten

pub returns-in-Ok-clause-writes : goal.returns-in-Ok-clause-writes
returns-in-Ok-clause-writes g c content =
    let a = g.D.Shelf.told c.args.depot.now in
    let b = g.D.Shelf.told c.open_content.new.depot in
    let store = c.args.self.now in
    same_writes (CanPut store content) (entry_of store content ∷ []) store.session store.counter a b
    (same_told depot_failed a b c.open_content.result c.open_content.ensures.same)

pub returns-in-Err-clause-writes : goal.returns-in-Err-clause-writes
returns-in-Err-clause-writes g c content =
    let a = g.D.Shelf.told c.args.depot.now in
    let b = g.D.Shelf.told c.open_content.new.depot in
    let store = c.args.self.now in
    same_writes (CanPut store content) (entry_of store content ∷ []) store.session store.counter a b
    (same_told depot_failed a b c.open_content.result c.open_content.ensures.same)
