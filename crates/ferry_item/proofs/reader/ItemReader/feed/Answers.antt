use Rattle.std.proofs.Common.{◌≡◌, ◌++◌, length, drop, ap, ◌∙◌, arith}
use Rattle.std.proofs.lemmas.List.{drop-append-le, length-append}
use Rattle.ferry_item.proofs.StepLemmas.{kept_more}
use Rattle.ferry_item.proofs.reader.ItemReader.feed.Goals as goal

pub invariant_of-self-2 : goal.invariant_of-self-2
invariant_of-self-2 c =
    let at = c.self.inside.at in
    let old = c.self.inside.bytes.items in
    let piece = c.args.piece.now in
    let grown = c.in_ok-extend_from_slice.ensures.items in
    let all : drop at c.extend_from_slice.new.self.items ≡ drop at old ++ piece = ap (drop at) grown ∙ drop-append-le at old piece c.self.invariant.0 in (
      omega (arith, c.self.invariant.0, ap length grown, length-append old piece),
      kept_more c.self.inside.progress (drop at old) piece (drop at c.extend_from_slice.new.self.items) c.self.invariant.1 all,
    )
