use Rattle.std.proofs.Common.{subst, ◌↔◌, IsTrue, List}
use Rattle.ferry_disk.specs.Acts.{acts_of}
use Rattle.ferry_disk.specs.Choice.{Describes}
use Rattle.ferry_disk.specs.Disk.{Disk}
use Rattle.ferry_disk.specs.Files.{Files}
use Rattle.ferry_disk.specs.Memory.{files_of}
use Rattle.ferry_disk.specs.declared.act.Act.{Act as ActGiven}
use Rattle.ferry_disk.proofs.AllowLemmas.{run_of}
use Rattle.ferry_disk.proofs.depot.MemoryDepot.allows.Goals as goal

pub returns : goal.returns
returns c =
    let choice = c.args.choice.now in
    let inside = c.self.inside in
    let past = acts_of inside.past.items in
    subst (λ (d : Disk). IsTrue c.is_described.result ↔ ((image : Files) × Describes choice d.history image)) c.self.view_is
    (subst (λ (acts : List ActGiven). IsTrue c.is_described.result ↔ ((image : Files) × Describes choice (run_of (files_of inside.start) past acts) image))
    c.deref.ensures.value (c.is_described.ensures past))
