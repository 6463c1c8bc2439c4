use Rattle.std.proofs.Common.{◌≡◌, ◌+◌, ◌<◌, ℕ, length, take, sym, subst, arith}
use Rattle.std.specs.BTreeMap.{get}
use Rattle.ferry_log.specs.Live.{key_cmp}
use Rattle.ferry_check.specs.Steps.{OpensSoFar}
use Rattle.ferry_check.proofs.ChunkLemmas.{length_there, opens_length}
use Rattle.ferry_check.proofs.chunks.keep_all.Goals as goal

pub loop-place-init : goal.loop-place-init
loop-place-init c = record {
  opens = λ told repo so lengths.
      let same : c.args.from + 0 ≡ c.args.from = omega arith in
      subst (λ (m : ℕ). OpensSoFar told repo (take m c.args.ids.now) (get key_cmp c.args.chunks.now)) (sym same) so;
}

pub loop-place-preserved : goal.loop-place-preserved
loop-place-preserved c =
    let ids = c.args.ids.now in
    let sizes = c.args.sizes.now in
    let from = c.args.from in
    let place = c.loop-place.place in
    let here : place < length sizes = omega arith in
    let lt : from + place < length ids = omega (arith, c.requires.within) in
    let more : from + place + 1 ≡ from + (place + 1) = omega arith in
    record {
      opens = λ told repo so lengths.
          subst (λ (m : ℕ). OpensSoFar told repo (take m ids) (get key_cmp c.keep.new.chunks)) more
          (opens_length told repo ids (from + place) _ _ (get key_cmp c.loop-place.chunks) (get key_cmp c.keep.new.chunks) lt
          (c.loop-place.invariant.opens told repo so lengths) (length_there told repo ids from place _ sizes _ lt here lengths)
          c.in_ok-keep.ensures.kept);
    }

pub returns-clause-opens : goal.returns-clause-opens
returns-clause-opens c = λ told repo so lengths.
    let all : c.loop-place.place ≡ length c.args.sizes.now = omega arith in
    subst (λ (m : ℕ). OpensSoFar told repo (take (c.args.from + m) c.args.ids.now) (get key_cmp c.loop-place.chunks)) all
    (c.loop-place.invariant.opens told repo so lengths)
