use Rattle.std.proofs.Common.{◌≡◌, ◌≢◌, ℕ, List, Err, IfSome, sym, subst}
use Rattle.ferry_config.specs.Config.{config_of}
use Rattle.ferry_config.specs.declared.fault.ConfigFault.TheVariants as Configs
use Rattle.ferry_disk.specs.Device.{told_files}
use Rattle.ferry_repo.proofs.FaultLemmas.{gives_err}
use Rattle.ferry_repo.specs.declared.fault.RepoFault.{RepoFault}
use Rattle.ferry_run_compact.proofs.CompactCauseLemmas.{settings_unread}
use Rattle.ferry_run_compact.proofs.command.read_target.Goals as goal
use Rattle.ferry_run_compact.specs.Compact.{RefusesSettings}

pub returns-in_err-config-clause-refused : goal.returns-in_err-config-clause-refused
returns-in_err-config-clause-refused g c =
    let a = g.D.Shelf.told c.args.target.now in
    gives_err c.from_residual-in_err-config.result _ _ c.from_residual-in_err-config.ensures.1 (λ y is.
    subst (λ (f : RepoFault). IfSome a (λ t. RefusesSettings (told_files t) f)) (sym is)
    (settings_unread a (g.D.Shelf.told c.open_log.new.shelf) c.in_ok-log.log c.read_whole.new.bytes.items c.in_err-config.field-0.0
    c.in_ok-log.ensures.same c.in_ok-log.ensures.log c.in_ok-read_whole.ensures.bytes
    (subst (λ (x : List ℕ). c.in_err-config.field-0.0 ≢ Configs.Memory → config_of x ≡ Err c.in_err-config.field-0.0) c.deref.ensures.value
    c.in_err-config.ensures.fault)))
