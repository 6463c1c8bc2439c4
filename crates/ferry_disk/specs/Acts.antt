-- The acts of the program as those of the contracts.
use Rattle.std.specs.Prelude.{List, map}
use Rattle.ferry_disk.specs.Act.{Step, AppendTo, SyncOf, RemoveOf, ReplaceBy, SettleAll, TellOf, Act}
use Rattle.ferry_disk.specs.declared.act.Act.{Act as ActGiven}
use Rattle.ferry_disk.specs.declared.act.Kind.{Kind}
use Rattle.ferry_disk.specs.declared.act.Kind.TheVariants as Given

-- what an act does where it is done
abbrev pub step_of : Kind → Step
step_of (Given.Append segment bytes) = AppendTo segment bytes.items
step_of (Given.Sync segment) = SyncOf segment
step_of (Given.Remove segment) = RemoveOf segment
step_of (Given.Replace name bytes) = ReplaceBy name bytes.items
step_of Given.Settle = SettleAll
step_of (Given.Tell line) = TellOf line.items

-- an act
abbrev pub act_of : ActGiven → Act
act_of act = record { step = step_of act.kind; done = act.done }

-- a list of acts
abbrev pub acts_of : List ActGiven → List Act
acts_of acts = map act_of acts
