use Rattle.std.proofs.Common.{ap, sym, subst, ◌∙◌}
use Rattle.ferry_msgpack.specs.View.{pairs_view}
use Rattle.ferry_msgpack.specs.Writable.{IsIncreasing}
use Rattle.ferry_fields.proofs.KeptLemmas.{IsIncreasing-without}
use Rattle.ferry_format_tests.proofs.fields.kept_of.Goals as goal

pub copied-requires : goal.copied-requires
copied-requires c =
    let same = ap pairs_view c.as_slice.ensures.value ∙ c.in_ok-kept.ensures.others in
    subst IsIncreasing (sym same) (IsIncreasing-without _ _ c.in_ok-pairs.ensures.writable.fits.1)
