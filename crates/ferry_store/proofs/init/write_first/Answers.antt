use Rattle.std.proofs.Common.{◌≡◌, ◌++◌, ℕ, List, Result, replicate, OnOk, option_map, refl}
use Rattle.ferry_store.proofs.InitLemmas.{first_committed, first_settings, first_unput}
use Rattle.ferry_store.proofs.PutLemmas.{always}
use Rattle.ferry_store.proofs.StepLemmas.{err_is, settled_on}
use Rattle.ferry_store.proofs.init.write_first.Goals as goal
use Rattle.ferry_store.specs.Init.{MakesFirst}
use Rattle.ferry_store.specs.State.{SettingsSound, TakesSettings}
use Rattle.ferry_store.specs.declared.fault.StoreRefusal.{StoreRefusal}
use Rattle.ferry_stops.proofs.TellLemmas.{told_both}

pub returns-in_err-replace_settings-clause-made : goal.returns-in_err-replace_settings-clause-made
returns-in_err-replace_settings-clause-made g c =
    let a = g.D.Shelf.told c.args.depot.now in
    let b = g.D.Shelf.told c.replace_settings.new.depot in
    let n = g.D.Shelf.faults c.args.depot.now in
    let m = g.D.Shelf.faults c.replace_settings.new.depot in
    let salt = replicate 64 0 in
    let refusal = c.in_err-replace_settings.field-0.0 in
    let session = c.args.session.now in
    let counter = c.args.counter.now in (
      salt,
      (
        refl,
        err_is c.from_residual.result refusal
            (λ (r : Result (Unit {0}) StoreRefusal). OnOk r
            (g.E.Entropy.drawn c.args.entropy.now ≡ option_map (λ (d : List ℕ). d ++ salt) (g.E.Entropy.drawn c.args.entropy.now))) c.from_residual.ensures.1
            tt,
        err_is c.from_residual.result refusal
            (λ (r : Result (Unit {0}) StoreRefusal). MakesFirst c.args.basis.now c.args.timestamp.now salt session counter session counter a b n m r)
            c.from_residual.ensures.1
            (first_settings c.args.basis.now c.args.timestamp.now salt session counter a b n m refusal c.in_err-replace_settings.ensures.refused
            c.in_err-replace_settings.ensures.did),
      ),
    )

pub put_manifest-requires-clause-settled : goal.put_manifest-requires-clause-settled
put_manifest-requires-clause-settled g c =
    settled_on {T = Unit {0}} SettingsSound (λ _. TakesSettings c.args.basis.now.config) (g.D.Shelf.told c.args.depot.now)
    (g.D.Shelf.told c.replace_settings.new.depot) (g.D.Shelf.faults c.args.depot.now) (g.D.Shelf.faults c.replace_settings.new.depot) tt c.requires.settled
    c.in_ok-replace_settings.ensures.did

pub returns-in_err-put_manifest-clause-made : goal.returns-in_err-put_manifest-clause-made
returns-in_err-put_manifest-clause-made g c =
    let a = g.D.Shelf.told c.args.depot.now in
    let b = g.D.Shelf.told c.replace_settings.new.depot in
    let d = g.D.Shelf.told c.put_manifest.new.depot in
    let n = g.D.Shelf.faults c.args.depot.now in
    let m = g.D.Shelf.faults c.replace_settings.new.depot in
    let k = g.D.Shelf.faults c.put_manifest.new.depot in
    let puts = c.in_err-put_manifest.ensures.put in
    let salt = puts.0 in
    let refusal = c.in_err-put_manifest.field-0.0 in
    let session = c.args.session.now in
    let counter = c.args.counter.now in
    let now = c.put_manifest.new.session in
    let drawn = c.put_manifest.new.counter in (
      salt,
      (
        puts.1.0,
        err_is c.from_residual-in_err-put_manifest.result refusal
            (λ (r : Result (Unit {0}) StoreRefusal). OnOk r
            (g.E.Entropy.drawn c.put_manifest.new.entropy ≡ option_map (λ (x : List ℕ). x ++ salt) (g.E.Entropy.drawn c.args.entropy.now)))
            c.from_residual-in_err-put_manifest.ensures.1 tt,
        err_is c.from_residual-in_err-put_manifest.result refusal
            (λ (r : Result (Unit {0}) StoreRefusal). MakesFirst c.args.basis.now c.args.timestamp.now salt session counter now drawn a d n k r)
            c.from_residual-in_err-put_manifest.ensures.1
            (first_unput c.args.basis.now c.args.timestamp.now salt session now counter drawn a b d n m k refusal c.in_ok-replace_settings.ensures.did
            puts.1.2),
      ),
    )

pub returns-clause-made : goal.returns-clause-made
returns-clause-made g c =
    let puts = c.in_ok-put_manifest.ensures.put in
    let salt = puts.0 in
    let r = c.commit_first.result in (
      salt,
      (
        puts.1.0,
        always (g.E.Entropy.drawn c.put_manifest.new.entropy ≡ option_map (λ (x : List ℕ). x ++ salt) (g.E.Entropy.drawn c.args.entropy.now)) r puts.1.1,
        first_committed c.args.basis.now c.args.timestamp.now salt c.args.session.now c.put_manifest.new.session c.commit_first.new.session c.args.counter.now
            c.put_manifest.new.counter (g.D.Shelf.told c.args.depot.now) (g.D.Shelf.told c.replace_settings.new.depot) (g.D.Shelf.told c.put_manifest.new.depot)
            (g.D.Shelf.told c.commit_first.new.depot) (g.D.Shelf.faults c.args.depot.now) (g.D.Shelf.faults c.replace_settings.new.depot)
            (g.D.Shelf.faults c.put_manifest.new.depot) (g.D.Shelf.faults c.commit_first.new.depot) r c.requires.first.reserved
            c.in_ok-replace_settings.ensures.read_again c.in_ok-replace_settings.ensures.did puts.1.2 (c.commit_first.ensures.did c.put_manifest.new.counter)
            c.commit_first.ensures.refused,
      ),
    )

pub returns-in_err-put_manifest-clause-untold : goal.returns-in_err-put_manifest-clause-untold
returns-in_err-put_manifest-clause-untold g c =
    told_both (g.D.Shelf.told c.args.depot.now) (g.D.Shelf.told c.replace_settings.new.depot) (g.D.Shelf.told c.put_manifest.new.depot)
    c.in_ok-replace_settings.ensures.untold c.in_err-put_manifest.ensures.untold

pub returns-clause-untold : goal.returns-clause-untold
returns-clause-untold g c =
    let a = g.D.Shelf.told c.args.depot.now in
    let d = g.D.Shelf.told c.put_manifest.new.depot in
    told_both a d (g.D.Shelf.told c.commit_first.new.depot)
    (told_both a (g.D.Shelf.told c.replace_settings.new.depot) d c.in_ok-replace_settings.ensures.untold c.in_ok-put_manifest.ensures.untold)
    c.commit_first.ensures.untold
