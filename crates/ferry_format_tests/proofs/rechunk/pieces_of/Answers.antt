use Rattle.std.proofs.Common.{◌≡◌, ◌+◌, ◌++◌, ◌∷◌, [], take, get_or, ap, refl, sym, ◌∙◌, arith}
use Rattle.std.specs.List.{concat}
use Rattle.std.proofs.lemmas.List.{take_all}
use Rattle.ferry_rechunk.specs.Cutting.{IsFed}
use Rattle.ferry_rechunk.proofs.FeedLemmas.{one_part_more, ends_with, ends_without}
use Rattle.ferry_format_tests.proofs.rechunk.pieces_of.Goals as goal
use Rattle.ferry_format_tests.proofs.rechunk.pieces_of.Goals.{in-Some+in_ok-from_slice+in_ok-push, in_default}

pub loop-part-preserved : goal.loop-part-preserved
loop-part-preserved c =
    let parts = c.args.parts.now in
    let i = c.loop-part.part-index in
    let block : c.loop-part.cutter.block ≡ c.args.block = c.loop-part.invariant.1 in
    let part : c.as_slice.result.now ≡ get_or parts i c.part-item.result = c.as_slice.ensures ∙ c.part-item.is in
    let before : IsFed c.loop-part.cutter.block (concat (take i parts)) c.loop-part.pieces.items c.loop-part.cutter.piece =
    rw block c.loop-part.invariant.2 in
    let after = c.in_ok-feed_part.ensures.fed (concat (take i parts)) before in
    let all : concat (take i parts) ++ c.as_slice.result.now ≡ concat (take (i + 1) parts) =
    ap (λ bytes. concat (take i parts) ++ bytes) part ∙ sym (one_part_more parts i c.part-item.result c.loop-part-test.true) in
    (c.in_ok-feed_part.ensures.room, c.feed_part.ensures.block ∙ block, rw (← all, ← block) after)

pub returns : goal.returns
returns c =
    let parts = c.args.parts.now in
    let all : take c.loop-part.part-index parts ≡ parts = take_all c.loop-part.part-index parts (omega (arith, c.loop-part-test.false)) in
    let fed : IsFed c.args.block (concat parts) c.loop-part.pieces.items c.loop-part.cutter.piece = rw all at c.loop-part.invariant.2 in
    record {
      cut = elim c.match-last.branch [
        | in-Some+in_ok-from_slice+in_ok-push w ↦ ends_with c.args.block (concat parts) c.loop-part.cutter.piece c.loop-part.pieces.items
            c.match-last.pieces.items (omega (arith, c.requires.least)) fed (w.in-Some.ensures.last.0 refl)
            (ap (λ v. v.items) w.pieces-is ∙ w.in_ok-push.ensures.items
            ∙ ap (λ one. c.loop-part.pieces.items ++ one ∷ []) (w.new-in-Some.ensures ∙ w.in_ok-from_slice.ensures.items ∙ w.in-Some.ensures.piece))
        | in_default w ↦ ap (λ v. v.items) w.pieces-is ∙ ends_without c.args.block (concat parts) c.loop-part.cutter.piece c.loop-part.pieces.items
            (omega (arith, c.requires.least)) fed (λ some. let no = w.in_default.ensures.last.1 some in cc)
      ];
    }
