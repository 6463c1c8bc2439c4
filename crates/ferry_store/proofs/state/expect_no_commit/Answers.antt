use Rattle.std.proofs.Common.{rules, IfSome}
use Rattle.ferry_disk.specs.Device.{told_files}
use Rattle.ferry_log.specs.Log.{IsDamaged}
use Rattle.ferry_repo.specs.declared.fault.RepoFault.TheVariants as Repos
use Rattle.ferry_store.proofs.CallLemmas.{log_ok, log_damaged, log_free, log_none}
use Rattle.ferry_store.proofs.state.expect_no_commit.Goals as goal
use Rattle.ferry_store.proofs.state.expect_no_commit.Goals.{in-Ok, in-Err-Damaged, in-Err-NoCommit, in-Err-Device, in-Err-Memory}
use Rattle.ferry_store.specs.declared.fault.StoreRefusal.TheVariants.{Repo, Memory}

pub returns-clause-refused : goal.returns-clause-refused
returns-clause-refused g c =
    let told = g.D.Shelf.told c.args.depot.now in
    let r = c.match-open_log.result in
    elim c.match-open_log.branch [
      | in-Ok w ↦ log_ok r w.in-Ok.field-0 told w.result-is w.in-Ok.ensures.log
      | in-Err-Damaged w ↦
          let is : IfSome told (λ t. IsDamaged (told_files t) w.in-Err-Damaged.field-0-0 w.in-Err-Damaged.field-0-1) = search rules in
          log_damaged r w.in-Err-Damaged.field-0-0 w.in-Err-Damaged.field-0-1 told w.result-is is
      | in-Err-NoCommit w ↦ log_none r told w.result-is
      | in-Err-Device w ↦ log_free r (Repo Repos.Device) told w.result-is (λ files. tt)
      | in-Err-Memory w ↦ log_free r Memory told w.result-is (λ files. tt)
    ]
