use Rattle.std.proofs.Common.{◌≡◌, ◌++◌, ℕ, List, [], None, Ok, Err, Result, IfErr, IfSome, OnOk, option_map, sym, ◌∙◌, ap}
use Rattle.ferry_disk.specs.Device.{HasCause, told_files}
use Rattle.ferry_nonce.specs.declared.counter.Counter.{Counter}
use Rattle.ferry_store.proofs.CallLemmas.{makes_begun, makes_front, makes_refused}
use Rattle.ferry_store.proofs.InitLemmas.{basis_refused, begin_refused, first_refused, free_still, makes_ok, still_cause}
use Rattle.ferry_store.proofs.StepLemmas.{did_also, err_is}
use Rattle.ferry_store.proofs.init.make_repository.Goals as goal
use Rattle.ferry_store.specs.Fault.{source_failed}
use Rattle.ferry_store.specs.Init.{MakesOf, RefusesMaking}
use Rattle.ferry_store.specs.New.{MakesSound, manifest_blob}
use Rattle.ferry_store.specs.State.{Begins, BeginsSound, Did}
use Rattle.ferry_store.specs.declared.fault.StoreRefusal.{StoreRefusal}
use Rattle.ferry_write.specs.Session.{SettlesFirst}
use Rattle.ferry_write.specs.declared.session.Session.{Session}
use Rattle.ferry_stops.proofs.TellLemmas.{told_both}

pub returns-in_err-counter-clause-made : goal.returns-in_err-counter-clause-made
returns-in_err-counter-clause-made g c =
    let a = g.D.Shelf.told c.args.depot.now in
    let b = g.D.Shelf.told c.begin_at.new.depot in
    let n = g.D.Shelf.faults c.args.depot.now in
    let m = g.D.Shelf.faults c.begin_at.new.depot in
    let refusal = c.in_err-counter.field-0.0 in
    let secret = c.args.secret.now in (
      [],
      (
        err_is c.from_residual.result refusal
            (λ (r : Result (Counter × Session) StoreRefusal). OnOk r
            (g.E.Entropy.drawn c.args.entropy.now ≡ option_map (λ (d : List ℕ). d ++ []) (g.E.Entropy.drawn c.args.entropy.now))) c.from_residual.ensures.1 tt,
        err_is c.from_residual.result refusal
            (λ (r : Result (Counter × Session) StoreRefusal). Did (MakesSound secret) (λ x. MakesOf secret c.args.iterations c.args.timestamp.now [] x.0 x.1)
            a b n m r)
            c.from_residual.ensures.1
            (makes_front {T = Counter × Session} secret (λ x. MakesOf secret c.args.iterations c.args.timestamp.now [] x.0 x.1) a b n m refusal
            (did_also {T = Counter × Session} (BeginsSound None) SettlesFirst (λ x. Begins None x.0 x.1) a b n m (Err refusal) c.in_err-counter.ensures.first
            c.in_err-counter.ensures.did)),
      ),
    )

pub returns-in_err-counter-clause-cause : goal.returns-in_err-counter-clause-cause
returns-in_err-counter-clause-cause g c =
    let n = g.E.Entropy.faults c.args.entropy.now in
    let refusal = c.in_err-counter.field-0.0 in
    err_is c.from_residual.result refusal (λ (r : Result (Counter × Session) StoreRefusal). HasCause source_failed n n r) c.from_residual.ensures.1
    (still_cause refusal n c.in_err-counter.ensures.still)

pub returns-in_err-counter-clause-refused : goal.returns-in_err-counter-clause-refused
returns-in_err-counter-clause-refused g c =
    let a = g.D.Shelf.told c.args.depot.now in
    let refusal = c.in_err-counter.field-0.0 in
    err_is c.from_residual.result refusal
    (λ (r : Result (Counter × Session) StoreRefusal). IfErr r (λ x. IfSome a (λ t. RefusesMaking c.args.timestamp.now (told_files t) x)))
    c.from_residual.ensures.1 (begin_refused c.args.timestamp.now a refusal c.in_err-counter.ensures.refused)

pub returns-in_err-basis-clause-made : goal.returns-in_err-basis-clause-made
returns-in_err-basis-clause-made g c =
    let a = g.D.Shelf.told c.args.depot.now in
    let b = g.D.Shelf.told c.begin_at.new.depot in
    let n = g.D.Shelf.faults c.args.depot.now in
    let m = g.D.Shelf.faults c.begin_at.new.depot in
    let refusal = c.in_err-basis.field-0.0 in
    let secret = c.args.secret.now in
    let begun : Counter × Session = (c.in_ok-counter.counter, c.in_ok-counter.session) in (
      [],
      (
        err_is c.from_residual-in_err-basis.result refusal
            (λ (r : Result (Counter × Session) StoreRefusal). OnOk r
            (g.E.Entropy.drawn c.basis_of.new.entropy ≡ option_map (λ (d : List ℕ). d ++ []) (g.E.Entropy.drawn c.args.entropy.now)))
            c.from_residual-in_err-basis.ensures.1 tt,
        err_is c.from_residual-in_err-basis.result refusal
            (λ (r : Result (Counter × Session) StoreRefusal). Did (MakesSound secret) (λ x. MakesOf secret c.args.iterations c.args.timestamp.now [] x.0 x.1)
            a b n m r)
            c.from_residual-in_err-basis.ensures.1
            (makes_begun {T = Counter × Session} secret (λ x. MakesOf secret c.args.iterations c.args.timestamp.now [] x.0 x.1) begun a b n m refusal
            (free_still refusal c.in_err-basis.ensures.refused)
            (did_also {T = Counter × Session} (BeginsSound None) SettlesFirst (λ x. Begins None x.0 x.1) a b n m (Ok begun) c.in_ok-counter.ensures.first
            c.in_ok-counter.ensures.did)),
      ),
    )

pub returns-in_err-basis-clause-refused : goal.returns-in_err-basis-clause-refused
returns-in_err-basis-clause-refused g c =
    let a = g.D.Shelf.told c.args.depot.now in
    let refusal = c.in_err-basis.field-0.0 in
    err_is c.from_residual-in_err-basis.result refusal
    (λ (r : Result (Counter × Session) StoreRefusal). IfErr r (λ x. IfSome a (λ t. RefusesMaking c.args.timestamp.now (told_files t) x)))
    c.from_residual-in_err-basis.ensures.1 (basis_refused c.args.timestamp.now a refusal c.in_err-basis.ensures.refused)

pub returns-in_err-write_first-clause-made : goal.returns-in_err-write_first-clause-made
returns-in_err-write_first-clause-made g c =
    let a = g.D.Shelf.told c.args.depot.now in
    let b = g.D.Shelf.told c.begin_at.new.depot in
    let d = g.D.Shelf.told c.write_first.new.depot in
    let n = g.D.Shelf.faults c.args.depot.now in
    let m = g.D.Shelf.faults c.begin_at.new.depot in
    let k = g.D.Shelf.faults c.write_first.new.depot in
    let refusal = c.in_err-write_first.field-0.0 in
    let secret = c.args.secret.now in
    let counter = c.in_ok-counter.counter in
    let session = c.in_ok-counter.session in
    let basis = c.in_ok-basis.basis in
    let made = c.in_err-write_first.ensures.made in (
      [],
      (
        err_is c.from_residual-in_err-write_first.result refusal
            (λ (r : Result (Counter × Session) StoreRefusal). OnOk r
            (g.E.Entropy.drawn c.write_first.new.entropy ≡ option_map (λ (x : List ℕ). x ++ []) (g.E.Entropy.drawn c.args.entropy.now)))
            c.from_residual-in_err-write_first.ensures.1 tt,
        err_is c.from_residual-in_err-write_first.result refusal
            (λ (r : Result (Counter × Session) StoreRefusal). Did (MakesSound secret) (λ x. MakesOf secret c.args.iterations c.args.timestamp.now [] x.0 x.1)
            a d n k r)
            c.from_residual-in_err-write_first.ensures.1
            (makes_refused {T = Counter × Session} secret basis.config (manifest_blob basis c.args.timestamp.now made.0 counter.free) counter session
            c.write_first.new.counter c.write_first.new.session (λ x. MakesOf secret c.args.iterations c.args.timestamp.now [] x.0 x.1) a b d n m k refusal
            (did_also {T = Counter × Session} (BeginsSound None) SettlesFirst (λ x. Begins None x.0 x.1) a b n m (Ok (counter, session))
            c.in_ok-counter.ensures.first
            c.in_ok-counter.ensures.did)
            (made.1.2.did secret c.in_ok-basis.ensures.opens)),
      ),
    )

pub returns-in_err-write_first-clause-refused : goal.returns-in_err-write_first-clause-refused
returns-in_err-write_first-clause-refused g c =
    let a = g.D.Shelf.told c.args.depot.now in
    let refusal = c.in_err-write_first.field-0.0 in
    let made = c.in_err-write_first.ensures.made in
    err_is c.from_residual-in_err-write_first.result refusal
    (λ (r : Result (Counter × Session) StoreRefusal). IfErr r (λ x. IfSome a (λ t. RefusesMaking c.args.timestamp.now (told_files t) x)))
    c.from_residual-in_err-write_first.ensures.1
    (first_refused c.in_ok-basis.basis c.args.timestamp.now made.0 c.in_ok-counter.session c.in_ok-counter.counter a refusal made.1.0
    c.in_ok-counter.ensures.fresh c.in_ok-counter.ensures.number made.1.2.refused)

pub returns-clause-made : goal.returns-clause-made
returns-clause-made g c =
    let a = g.D.Shelf.told c.args.depot.now in
    let b = g.D.Shelf.told c.begin_at.new.depot in
    let d = g.D.Shelf.told c.write_first.new.depot in
    let n = g.D.Shelf.faults c.args.depot.now in
    let m = g.D.Shelf.faults c.begin_at.new.depot in
    let k = g.D.Shelf.faults c.write_first.new.depot in
    let counter = c.in_ok-counter.counter in
    let session = c.in_ok-counter.session in
    makes_ok c.args.secret.now c.args.iterations c.args.timestamp.now c.in_ok-basis.basis counter session c.write_first.new.counter
    c.write_first.new.session (g.E.Entropy.drawn c.args.entropy.now) (g.E.Entropy.drawn c.basis_of.new.entropy)
    (g.E.Entropy.drawn c.write_first.new.entropy) a b d n m k c.in_ok-basis.ensures.opens
    (c.in_ok-write_first.ensures.limit ∙ (ap (λ (s : Session). s.limit) c.in_ok-counter.ensures.fresh.session_is ∙ sym c.in_ok-basis.ensures.limits.1))
    c.in_ok-basis.ensures.made c.in_ok-counter.ensures.number
    (did_also {T = Counter × Session} (BeginsSound None) SettlesFirst (λ x. Begins None x.0 x.1) a b n m (Ok (counter, session)) c.in_ok-counter.ensures.first
    c.in_ok-counter.ensures.did) c.in_ok-write_first.ensures.made

pub returns-in_err-write_first-clause-untold : goal.returns-in_err-write_first-clause-untold
returns-in_err-write_first-clause-untold g c =
    told_both (g.D.Shelf.told c.args.depot.now) (g.D.Shelf.told c.begin_at.new.depot) (g.D.Shelf.told c.write_first.new.depot) c.in_ok-counter.ensures.untold
    c.in_err-write_first.ensures.untold

pub returns-clause-untold : goal.returns-clause-untold
returns-clause-untold g c =
    told_both (g.D.Shelf.told c.args.depot.now) (g.D.Shelf.told c.begin_at.new.depot) (g.D.Shelf.told c.write_first.new.depot) c.in_ok-counter.ensures.untold
    c.in_ok-write_first.ensures.untold
