use Rattle.ferry_refs.proofs.OldLemmas.{same_count}
use Rattle.ferry_refs.proofs.SparedLemmas.{one_freed}
use Rattle.ferry_refs.proofs.TaggedLemmas.{renewed_left, tagged_left}
use Rattle.ferry_refs.proofs.laws.tag_laws.Goals as goal

pub returns : goal.returns
returns c = record {
  kept = renewed_left;
  tagged = tagged_left;
  count = λ files repo olds reads old are. same_count files repo repo.manifest.archives olds reads old are;
  ids = one_freed;
}
