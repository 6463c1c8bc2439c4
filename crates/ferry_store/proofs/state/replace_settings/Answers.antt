use Rattle.std.proofs.Common.{rules, ◌≡◌, ℕ, List, Ok, Result, refl, subst}
use Rattle.ferry_config.specs.Config.{config_of}
use Rattle.ferry_config.specs.Text.{config_text}
use Rattle.ferry_store.proofs.CallLemmas.{settings_both, settings_front, settings_here}
use Rattle.ferry_store.proofs.StepLemmas.{did_nothing, err_is}
use Rattle.ferry_store.proofs.state.replace_settings.Goals as goal
use Rattle.ferry_disk.specs.Act.{ReplaceBy}
use Rattle.ferry_disk.specs.declared.name.Name.TheVariants.{Config as ConfigFile}
use Rattle.ferry_store.proofs.TypeLemmas.{mode_told}
use Rattle.ferry_store.specs.State.{Did, IsStep, SettingsSound, TakesSettings}
use Rattle.ferry_store.specs.declared.fault.StoreRefusal.{StoreRefusal}
use Rattle.ferry_store.specs.declared.fault.StoreRefusal.TheVariants.{Memory}
use Rattle.ferry_stops.proofs.TellLemmas.{told_both, told_none}

pub returns-in_err-text-clause-did : goal.returns-in_err-text-clause-did
returns-in_err-text-clause-did g c =
    let a = g.D.Shelf.told c.args.depot.now in
    let n = g.D.Shelf.faults c.args.depot.now in
    err_is c.from_residual.result Memory
    (λ (r : Result (Unit {0}) StoreRefusal). Did SettingsSound (λ _. TakesSettings c.args.config.now) a a n n r) c.from_residual.ensures.1
    (did_nothing {T = Unit {0}} SettingsSound (λ _. TakesSettings c.args.config.now) a n Memory refl settings_here)

pub returns-in_err-replace-clause-did : goal.returns-in_err-replace-clause-did
returns-in_err-replace-clause-did g c =
    let a = g.D.Shelf.told c.args.depot.now in
    let b = g.D.Shelf.told c.replace.new.depot in
    let n = g.D.Shelf.faults c.args.depot.now in
    let m = g.D.Shelf.faults c.replace.new.depot in
    let refusal = c.in_err-replace.field-0.0 in
    err_is c.from_residual-in_err-replace.result refusal
    (λ (r : Result (Unit {0}) StoreRefusal). Did SettingsSound (λ _. TakesSettings c.args.config.now) a b n m r) c.from_residual-in_err-replace.ensures.1
    (settings_front c.args.config.now a b n m refusal c.in_err-replace.ensures.did)

pub returns-clause-did : goal.returns-clause-did
returns-clause-did g c =
    let is : c.deref.result.now ≡ config_text c.args.config.now = search rules in
    settings_both c.args.config.now c.deref.result.now (g.D.Shelf.told c.args.depot.now) (g.D.Shelf.told c.replace.new.depot)
    (g.D.Shelf.told c.replace-2.new.depot) (g.D.Shelf.faults c.args.depot.now) (g.D.Shelf.faults c.replace.new.depot)
    (g.D.Shelf.faults c.replace-2.new.depot) c.replace-2.result is c.in_ok-replace.ensures.did c.replace-2.ensures.did

pub returns-in_err-text-clause-untold : goal.returns-in_err-text-clause-untold
returns-in_err-text-clause-untold g c = told_none (g.D.Shelf.told c.args.depot.now)

pub returns-in_err-replace-clause-untold : goal.returns-in_err-replace-clause-untold
returns-in_err-replace-clause-untold g c = c.in_err-replace.ensures.untold

pub returns-clause-untold : goal.returns-clause-untold
returns-clause-untold g c =
    told_both (g.D.Shelf.told c.args.depot.now) (g.D.Shelf.told c.replace.new.depot) (g.D.Shelf.told c.replace-2.new.depot) c.in_ok-replace.ensures.untold
    c.replace-2.ensures.untold

pub returns-clause-mode : goal.returns-clause-mode
returns-clause-mode g c =
    let is : c.deref.result.now ≡ config_text c.args.config.now = search rules in
    mode_told c.args.config.now c.deref.result.now (IsStep (ReplaceBy ConfigFile c.deref.result.now)) (g.D.Shelf.told c.replace.new.depot)
    (g.D.Shelf.told c.replace-2.new.depot) (g.D.Shelf.faults c.replace.new.depot) (g.D.Shelf.faults c.replace-2.new.depot) c.replace-2.result is
    (subst (λ (x : List ℕ). config_of x ≡ Ok c.args.config.now) c.in_ok-text.ensures.text c.in_ok-text.ensures.read_again) c.replace-2.ensures.did
