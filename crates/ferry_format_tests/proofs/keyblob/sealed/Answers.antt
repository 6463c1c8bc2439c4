use Rattle.ferry_keyblob.proofs.SampleLemmas.{sample_with_two}
use Rattle.ferry_format_tests.proofs.keyblob.sealed.Goals as goal

pub seal_key-requires-clause-key : goal.seal_key-requires-clause-key
seal_key-requires-clause-key c = sample_with_two _ c.in_ok-other_names.ensures.names
