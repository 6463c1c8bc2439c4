use Rattle.std.proofs.Common.{[], IfSome, subst, sym, ◌∙◌, ◌≡◌, ◌⊎◌}
use Rattle.ferry_disk.specs.Act.{files_now}
use Rattle.ferry_disk.specs.Device.{told_files}
use Rattle.ferry_disk.specs.Files.{Files}
use Rattle.ferry_run_transfer.specs.Transfer.{chosen_of}
use Rattle.ferry_status.proofs.StatusLemmas.{used_of_carry}
use Rattle.ferry_status.specs.Devices.{written}
use Rattle.ferry_status.specs.Status.{target_failed}
use Rattle.ferry_status.specs.declared.status.Status.{Status}
use Rattle.ferry_store.proofs.CallLemmas.{first_here}
use Rattle.ferry_store.proofs.StepLemmas.{failed_then, here_each}
use Rattle.ferry_store.specs.Store.{InitLeaves}
use Rattle.ferry_write.specs.Session.{SettlesFirst}
use Rattle.ferry_run_drill.proofs.CompleteLemmas.{finished_completes, refused_completes}
use Rattle.ferry_run_drill.proofs.DropLemmas.{finished_drops, refused_drops}
use Rattle.ferry_run_drill.proofs.PrintLemmas.{of_fault}
use Rattle.ferry_run_drill.proofs.WorkLemmas.{copied_drill, copied_start, each_read, leaves_here}
use Rattle.ferry_run_drill.proofs.command.drill.Goals as goal
use Rattle.ferry_run_drill.specs.Drill.{DropsWhere, PrintsDrill, TellsStart}
use Rattle.ferry_run_drill.specs.Complete.{EndsDone}
use Rattle.ferry_status.specs.declared.status.Status.TheVariants as Statuses

pub returns-in_default-clause-first : goal.returns-in_default-clause-first
returns-in_default-clause-first g c = here_each SettlesFirst (g.D.Shelf.told c.args.target.now) first_here

pub finish-requires : goal.finish-requires
finish-requires g c =
    let works = c.in-Ok.ensures.works in
    record {
      copied = copied_drill c.args.count (files_now c.in-Some.source.history) c.in-Some.ensures.source works.0 works.1.0 c.requires.most c.in-Ok.carried
          (g.D.Shelf.told c.args.target.now) (g.D.Shelf.told c.copy_source.new.target) (g.D.Shelf.faults c.args.target.now)
          (g.D.Shelf.faults c.copy_source.new.target) c.requires.least c.in-Some.ensures.plain works.1.1;
    }

pub returns-in-Ok-clause-start : goal.returns-in-Ok-clause-start
returns-in-Ok-clause-start g c =
    let works = c.in-Ok.ensures.works in
    copied_start (files_now c.in-Some.source.history) works.0 (chosen_of [] works.0.manifest) c.in-Ok.carried (g.D.Shelf.told c.args.target.now)
    (g.D.Shelf.told c.copy_source.new.target) (g.D.Shelf.faults c.args.target.now) (g.D.Shelf.faults c.copy_source.new.target)
    (λ (start : Files). TellsStart start c.finish.result) works.1.1 c.finish.ensures.start

pub returns-in-Ok-clause-first : goal.returns-in-Ok-clause-first
returns-in-Ok-clause-first g c =
    each_read SettlesFirst (g.D.Shelf.told c.args.target.now) (g.D.Shelf.told c.copy_source.new.target) (g.D.Shelf.told c.finish.new.target)
    c.in-Ok.ensures.works.1.1.each c.finish.ensures.read

pub returns-in_default-clause-kept : goal.returns-in_default-clause-kept
returns-in_default-clause-kept g c = here_each InitLeaves (g.D.Shelf.told c.args.target.now) leaves_here

pub returns-in-Ok-clause-kept : goal.returns-in-Ok-clause-kept
returns-in-Ok-clause-kept g c =
    each_read InitLeaves (g.D.Shelf.told c.args.target.now) (g.D.Shelf.told c.copy_source.new.target) (g.D.Shelf.told c.finish.new.target)
    c.copy_source.ensures.kept c.finish.ensures.read

pub returns-in-Ok-clause-ends : goal.returns-in-Ok-clause-ends
returns-in-Ok-clause-ends g c =
    failed_then (target_failed c.finish.result) (g.D.Shelf.told c.args.target.now) (g.D.Shelf.told c.copy_source.new.target)
    (g.D.Shelf.told c.finish.new.target) c.in-Ok.ensures.works.1.1.ends c.finish.ensures.ends

pub returns-clause-prints : goal.returns-clause-prints
returns-clause-prints g c =
    let now = g.D.Shelf.told c.copy_source.new.target in
    let out = written (g.K.Sink.written c.args.out.now) (g.K.Sink.faults c.args.out.now) in
    subst (λ (s : Status). PrintsDrill c.args.count now out s out) (sym c.of_carry.ensures) (of_fault c.args.count now out c.in-Err.fault)

pub returns-clause-start : goal.returns-clause-start
returns-clause-start g c =
    subst (λ (s : Status). IfSome (g.D.Shelf.told c.args.target.now) (λ t. TellsStart (told_files t) s)) (sym c.of_carry.ensures) c.in-Err.ensures.start

pub returns-in-Ok-clause-drops : goal.returns-in-Ok-clause-drops
returns-in-Ok-clause-drops g c =
    finished_drops (g.D.Shelf.told c.args.target.now) (g.D.Shelf.told c.copy_source.new.target) (g.D.Shelf.told c.finish.new.target)
    (g.E.Entropy.drawn c.args.entropy.now) (g.E.Entropy.drawn c.copy_source.new.entropy) SettlesFirst c.finish.result
    c.in-Ok.ensures.works.1.1.each c.finish.ensures.read c.in-Ok.ensures.drops

pub returns-clause-drops : goal.returns-clause-drops
returns-clause-drops g c =
    let a = g.D.Shelf.told c.args.target.now in
    let d = g.D.Shelf.told c.copy_source.new.target in
    let x = g.E.Entropy.drawn c.args.entropy.now in
    let z = g.E.Entropy.drawn c.copy_source.new.entropy in
    subst (DropsWhere a d x z) (sym c.of_carry.ensures) (refused_drops a d x z c.in-Err.fault)

pub returns-in-Ok-clause-completes : goal.returns-in-Ok-clause-completes
returns-in-Ok-clause-completes g c =
    let a = g.D.Shelf.told c.args.target.now in
    let b = g.D.Shelf.told c.copy_source.new.target in
    finished_completes c.args.count c.in-Ok.carried (files_now c.in-Some.source.history) a b (g.D.Shelf.told c.finish.new.target) SettlesFirst c.finish.result
    c.in-Some.ensures.source c.in-Ok.ensures.works.1.1.each
    (copied_drill c.args.count (files_now c.in-Some.source.history) c.in-Some.ensures.source c.in-Ok.ensures.works.0 c.in-Ok.ensures.works.1.0 c.requires.most
    c.in-Ok.carried a b (g.D.Shelf.faults c.args.target.now) (g.D.Shelf.faults c.copy_source.new.target) c.requires.least c.in-Some.ensures.plain
    c.in-Ok.ensures.works.1.1)
    c.finish.ensures.read c.finish.ensures.completes

pub returns-clause-completes : goal.returns-clause-completes
returns-clause-completes g c =
    let a = g.D.Shelf.told c.args.target.now in
    let d = g.D.Shelf.told c.copy_source.new.target in
    subst (λ (s : Status). (s ≡ Statuses.Memory) ⊎ EndsDone c.args.count a d s) (sym c.of_carry.ensures)
    (refused_completes c.args.count (files_now c.in-Some.source.history) a d c.in-Err.fault c.requires.most c.in-Some.ensures.source c.in-Some.ensures.plain
    c.in-Err.ensures.completes)

pub returns-clause-used : goal.returns-clause-used
returns-clause-used g c n is = used_of_carry c.in-Err.fault n (sym c.of_carry.ensures ∙ is)
