use Rattle.std.proofs.Common.{◌≡◌, ◌++◌, ◌∷◌, [], length, ap, refl, ◌∙◌, arith}
use Rattle.std.proofs.lemmas.List.{take_rest}
use Rattle.ferry_rechunk.proofs.FeedLemmas.{next_round}
use Rattle.ferry_format_tests.proofs.rechunk.feed_part.Goals as goal

pub loop-piece-preserved : goal.loop-piece-preserved
loop-piece-preserved c =
    let grown = c.feed-taken.new.self in
    let block : grown.block ≡ c.args.cutter.now.block = c.feed-taken.ensures.block ∙ c.loop-piece.invariant.1 in
    let whole : length grown.piece ≡ grown.block = c.in-Some.ensures.full.0 refl in
    let put : c.new.result ≡ grown.piece = c.new.ensures ∙ c.in_ok-from_slice.ensures.items ∙ c.in-Some.ensures.piece in
    let kept : c.clear.new.self.block ≡ grown.block = c.clear.ensures.block in
    let cleared : c.clear.new.self.piece ≡ [] = c.clear.ensures.piece in
    let none : length c.clear.new.self.piece ≡ 0 = ap length cleared in
    let full : length grown.piece ≡ c.args.cutter.now.block = whole ∙ block in
    let pushed : c.push.new.self.items ≡ c.loop-piece.pieces.items ++ grown.piece ∷ [] =
    c.in_ok-push.ensures.items ∙ ap (λ one. c.loop-piece.pieces.items ++ one ∷ []) put in (
      omega (arith, c.loop-piece.invariant.0, c.feed-taken.ensures.block),
      kept ∙ block,
      next_round c.args.cutter.now.block c.args.part.now c.loop-piece.rest.now c.args.pieces.now.items c.args.cutter.now.piece
          c.loop-piece.pieces.items c.loop-piece.cutter.piece c.feed-taken.result grown.piece _ c.push.new.self.items c.clear.new.self.piece
          c.loop-piece.invariant.2 c.feed-taken.ensures.piece full (take_rest c.loop-piece.rest.now c.feed-taken.result) pushed cleared,
    )
