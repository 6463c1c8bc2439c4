use Rattle.ferry_rechunk.proofs.CutLemmas.{cut_count, cut_nothing, cut_short, cut_whole, cut_sizes, cut_joined, is_both, one_cut}
use Rattle.ferry_rechunk.proofs.CuttingLemmas.{fed_cut, fed_more, fed_nothing, fed_taken, loan_kept}
use Rattle.ferry_rechunk.proofs.laws.cut_laws.Goals as goal

pub returns : goal.returns
returns c = record {
  is = is_both;
  one = one_cut;
  joined = cut_joined;
  sizes = cut_sizes;
  count = cut_count;
  nothing = cut_nothing;
  whole = cut_whole;
  last = cut_short;
  begun = fed_nothing;
  fed = fed_more;
  taken = fed_taken;
  ended = fed_cut;
  lent = loan_kept;
}
