use Rattle.std.proofs.Common.{rules, ◌≡◌, ◌<◌, ◌-◌, ◌∙◌, Bool, Vec, ℕ, Global, drop, length, get_or, take, sym, ap, subst, arith}
use Rattle.std.proofs.lemmas.List.{length-drop, take_all}
use Rattle.std.proofs.lemmas.Slice.Eq.{bytes_eq-Decides}
use Rattle.ferry_blob.proofs.BatchLemmas.{bytes_at-read}
use Rattle.ferry_blob.specs.Batch.{bytes_at}
use Rattle.ferry_piece.proofs.foreseen.is_piece.Goals as goal
use Rattle.ferry_piece.specs.Foreseen.{piece_of}

pub returns-then-place-pieces : goal.returns-then-place-pieces
returns-then-place-pieces c = record {
  piece = λ same.
      let pieces = c.args.pieces.now in
      let place = c.args.place in
      let piece = c.args.piece.now in
      let copy = c.index-pieces-place.result in
      let low : place < length pieces = omega arith in
      let at : copy ≡ get_or pieces place copy = search rules in
      let is = (bytes_eq-Decides c.as_slice.result.now piece).0 (sym c.eq.ensures ∙ same) in
      subst (λ (b : Bool). piece_of b (bytes_at pieces place) (bytes_at c.args.buffers.now place) ≡ piece) (sym c.if-is_blob.true)
      (sym (bytes_at-read pieces place copy low) ∙ (sym (ap (λ (v : Vec ℕ Global). v.items) at) ∙ (sym c.as_slice.ensures.value ∙ is)));
}

pub returns : goal.returns
returns c = record {
  piece = λ same.
      let buffers = c.args.buffers.now in
      let place = c.args.place in
      let piece = c.args.piece.now in
      let buffer = c.index-buffers-place.result in
      let whole = c.as_slice-2.result.now in
      let at : buffer ≡ get_or buffers place buffer = search rules in
      let here : buffer.items ≡ bytes_at buffers place =
      ap (λ (v : Vec ℕ Global). v.items) at ∙ bytes_at-read buffers place buffer c.requires.there in
      let all = take_all (length whole - 43) (drop 43 whole) (omega (arith, length-drop 43 whole)) in
      let is = (bytes_eq-Decides (take (length whole - 43) (drop 43 whole)) piece).0 (sym c.eq-2.ensures ∙ same) in
      subst (λ (b : Bool). piece_of b (bytes_at c.args.pieces.now place) (bytes_at buffers place) ≡ piece) (sym c.if-is_blob.false)
      (ap (drop 43) (sym here ∙ sym c.as_slice-2.ensures.value) ∙ (sym all ∙ is));
}
