use Rattle.ferry_store.specs.Types.{FitsMode}
use Rattle.std.proofs.Common.{rules, ◌≡◌, ◌+◌, ◌++◌, ℕ, List, Ok, Err, Result, drop, length, OnOk, option_map, subst, IfSome, sym}
use Rattle.ferry_base.specs.Limits.{zero_id}
use Rattle.ferry_blob.specs.Blob.{sealed}
use Rattle.ferry_blob.specs.declared.mode.Mode.{Mode}
use Rattle.ferry_log.specs.declared.place.Place.{Place}
use Rattle.ferry_nonce.specs.declared.fault.NonceFault.TheVariants as Nonces
use Rattle.ferry_segment.specs.Entry.{PutEntry}
use Rattle.ferry_store.specs.State.{Did, KeepsSound, TakesEntry}
use Rattle.ferry_store.proofs.PutLemmas.{did_untold, exactly_untold, manifest_put, manifest_unput}
use Rattle.ferry_store.proofs.StepLemmas.{err_is}
use Rattle.ferry_store.proofs.put.put_manifest.Goals as goal
use Rattle.ferry_store.specs.New.{PutsManifest, manifest_bytes}
use Rattle.ferry_store.specs.declared.fault.StoreRefusal.{StoreRefusal}
use Rattle.ferry_store.specs.declared.fault.StoreRefusal.TheVariants.{Nonce}
use Rattle.ferry_stops.proofs.TellLemmas.{told_none}

pub returns-in_err-buffer-clause-put : goal.returns-in_err-buffer-clause-put
returns-in_err-buffer-clause-put g c =
    let a = g.D.Shelf.told c.args.depot.now in
    let n = g.D.Shelf.faults c.args.depot.now in
    let made = c.in_err-buffer.ensures.made in
    let salt = made.0 in
    let refusal = c.in_err-buffer.field-0.0 in
    let basis = c.args.basis.now in
    let session = c.args.session.now in
    let counter = c.args.counter.now in (
      salt,
      (
        made.1.0,
        err_is c.from_residual.result refusal
            (λ (r : Result (Unit {0}) StoreRefusal). OnOk r
            (g.E.Entropy.drawn c.first_manifest.new.entropy ≡ option_map (λ (d : List ℕ). d ++ salt) (g.E.Entropy.drawn c.args.entropy.now)))
            c.from_residual.ensures.1 tt,
        err_is c.from_residual.result refusal
            (λ (r : Result (Unit {0}) StoreRefusal). PutsManifest basis c.args.timestamp.now salt session counter session counter a a n n r)
            c.from_residual.ensures.1
            (manifest_unput basis c.args.timestamp.now salt session counter a n refusal made.1.3),
      ),
    )

pub returns-in_err-put_object-clause-put : goal.returns-in_err-put_object-clause-put
returns-in_err-put_object-clause-put g c =
    let made = c.in_ok-buffer.ensures.made in
    let salt = made.0 in
    let basis = c.args.basis.now in
    let a = g.D.Shelf.told c.args.depot.now in
    let b = g.D.Shelf.told c.put_object.new.depot in
    let n = g.D.Shelf.faults c.args.depot.now in
    let m = g.D.Shelf.faults c.put_object.new.depot in
    let session = c.args.session.now in
    let counter = c.args.counter.now in
    let now = c.put_object.new.session in
    let drawn = c.put_object.new.counter in
    let refusal = c.in_err-put_object.field-0.0 in
    let buffer = c.deref_mut.result.now in
    let is : drop 43 buffer ≡ manifest_bytes basis c.args.timestamp.now salt = search rules in
    let size : length buffer ≡ 43 + length (manifest_bytes basis c.args.timestamp.now salt) = search rules in
    let did = subst (λ (k : Mode). Did {T = Place} (KeepsSound session counter)
    (λ _. TakesEntry session counter (PutEntry zero_id (sealed basis.keys k counter.free (drop 43 buffer))) now drawn) a b n m (Err refusal))
    c.mode_of-mode.ensures.mode c.in_err-put_object.ensures.did in (
      salt,
      (
        made.1.0,
        err_is c.from_residual-in_err-put_object.result refusal
            (λ (r : Result (Unit {0}) StoreRefusal). OnOk r
            (g.E.Entropy.drawn c.first_manifest.new.entropy ≡ option_map (λ (d : List ℕ). d ++ salt) (g.E.Entropy.drawn c.args.entropy.now)))
            c.from_residual-in_err-put_object.ensures.1 tt,
        err_is c.from_residual-in_err-put_object.result refusal
            (λ (r : Result (Unit {0}) StoreRefusal). PutsManifest basis c.args.timestamp.now salt session counter now drawn a b n m r)
            c.from_residual-in_err-put_object.ensures.1
            (manifest_put basis c.args.timestamp.now salt buffer session now counter drawn a b n m (Err refusal) is size made.1.2.2 made.1.2.3
            (did_untold {T = Place} _ _ a b n m (Err refusal) did) tt c.in_err-put_object.ensures.refused
            (exactly_untold {T = Place} (Nonce Nonces.Exhausted) _ (Err refusal) c.in_err-put_object.ensures.exhausted)),
      ),
    )

pub returns-clause-put : goal.returns-clause-put
returns-clause-put g c =
    let made = c.in_ok-buffer.ensures.made in
    let salt = made.0 in
    let basis = c.args.basis.now in
    let a = g.D.Shelf.told c.args.depot.now in
    let b = g.D.Shelf.told c.put_object.new.depot in
    let n = g.D.Shelf.faults c.args.depot.now in
    let m = g.D.Shelf.faults c.put_object.new.depot in
    let session = c.args.session.now in
    let counter = c.args.counter.now in
    let now = c.put_object.new.session in
    let drawn = c.put_object.new.counter in
    let place = c.in_ok-put_object.field-0 in
    let buffer = c.deref_mut.result.now in
    let is : drop 43 buffer ≡ manifest_bytes basis c.args.timestamp.now salt = search rules in
    let size : length buffer ≡ 43 + length (manifest_bytes basis c.args.timestamp.now salt) = search rules in
    let did = subst (λ (k : Mode). Did {T = Place} (KeepsSound session counter)
    (λ _. TakesEntry session counter (PutEntry zero_id (sealed basis.keys k counter.free (drop 43 buffer))) now drawn) a b n m (Ok place))
    c.mode_of-mode.ensures.mode c.in_ok-put_object.ensures.did in (
      salt,
      (
        made.1.0,
        made.1.1,
        manifest_put basis c.args.timestamp.now salt buffer session now counter drawn a b n m (Ok tt) is size made.1.2.2 made.1.2.3
            (did_untold {T = Place} _ _ a b n m (Ok place) did) c.in_ok-put_object.ensures.session tt
            (exactly_untold {T = Place} (Nonce Nonces.Exhausted) _ (Ok place) c.in_ok-put_object.ensures.exhausted),
      ),
    )

pub returns-in_err-buffer-clause-untold : goal.returns-in_err-buffer-clause-untold
returns-in_err-buffer-clause-untold g c = told_none (g.D.Shelf.told c.args.depot.now)

pub put_object-requires-clause-mode : goal.put_object-requires-clause-mode
put_object-requires-clause-mode g c =
    subst (λ (k : Mode). IfSome (g.D.Shelf.told c.args.depot.now) (λ t. FitsMode t.history k)) (sym c.mode_of-mode.ensures.mode) c.requires.mode
