use Rattle.std.proofs.Common.{rules, ◌≡◌, ◌<◌, ◌-◌, ◌++◌, ◌∙◌, ℕ, List, [], ◌∷◌, Vec, Global, drop, length, get_or, take, map, sym, ap, arith}
use Rattle.std.proofs.lemmas.List.{length-drop, map-append, take_all, take_more}
use Rattle.ferry_blob.proofs.BatchLemmas.{bytes_at-read}
use Rattle.ferry_piece.proofs.foreseen.copies.Goals as goal
use Rattle.ferry_piece.specs.Foreseen.{pieces_in}

pub slice_bounds-from_slice-count : goal.slice_bounds-from_slice-count
slice_bounds-from_slice-count c =
    let low : c.loop-place.place < length c.args.buffers.now = omega arith in
    let buffer = c.index-buffers-place.result in
    let at : buffer ≡ get_or c.args.buffers.now c.loop-place.place buffer = search rules in
    let is : c.as_slice.result.now ≡ buffer.items = search rules in
    omega (
      arith,
      (c.requires.sizes c.loop-place.place low).head,
      ap length (bytes_at-read c.args.buffers.now c.loop-place.place buffer low),
      ap (λ (b : Vec ℕ Global). length b.items) at,
      ap length is,
    )

pub slice_bounds-from_slice-start : goal.slice_bounds-from_slice-start
slice_bounds-from_slice-start c =
    let low : c.loop-place.place < length c.args.buffers.now = omega arith in
    let buffer = c.index-buffers-place.result in
    let at : buffer ≡ get_or c.args.buffers.now c.loop-place.place buffer = search rules in
    let is : c.as_slice.result.now ≡ buffer.items = search rules in
    omega (
      arith,
      (c.requires.sizes c.loop-place.place low).head,
      ap length (bytes_at-read c.args.buffers.now c.loop-place.place buffer low),
      ap (λ (b : Vec ℕ Global). length b.items) at,
      ap length is,
    )

pub loop-place-preserved : goal.loop-place-preserved
loop-place-preserved c =
    let buffers = c.args.buffers.now in
    let place = c.loop-place.place in
    let low : place < length buffers = omega arith in
    let buffer = c.index-buffers-place.result in
    let copy = c.in_ok-from_slice.field-0 in
    let at : buffer ≡ get_or buffers place buffer = search rules in
    let whole : c.as_slice.result.now ≡ buffer.items = search rules in
    let is : copy.items ≡ drop 43 buffer.items =
    c.in_ok-from_slice.ensures.items
    ∙ (take_all (length c.as_slice.result.now - 43) (drop 43 c.as_slice.result.now) (omega (arith, length-drop 43 c.as_slice.result.now))
    ∙ ap (drop 43) whole) in
    let more : c.push.new.self.items ≡ c.loop-place.pieces.items ++ copy ∷ [] = search rules in
    let items = λ (piece : Vec ℕ Global). piece.items in
    let pieces = λ (b : Vec ℕ Global). drop 43 b.items in
    ap (map items) more
    ∙ (map-append items c.loop-place.pieces.items (copy ∷ [])
    ∙ (ap (λ (ps : List (List ℕ)). ps ++ copy.items ∷ []) c.loop-place.invariant
    ∙ (ap (λ (p : List ℕ). pieces_in (take place buffers) ++ p ∷ []) (is ∙ ap pieces at)
    ∙ sym (ap pieces_in (take_more buffers place buffer low) ∙ map-append pieces (take place buffers) (get_or buffers place buffer ∷ [])))))
