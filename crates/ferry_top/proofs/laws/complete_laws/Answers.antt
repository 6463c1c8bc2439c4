use Rattle.ferry_top.proofs.ReadyTargetLemmas.{completes}
use Rattle.ferry_top.proofs.laws.complete_laws.Goals as goal

pub returns : goal.returns
returns c = record {
  complete = λ command secrets before after status begun ready runs.
      completes command secrets before (record after { output = runs.between }) status begun ready runs.command;
}
