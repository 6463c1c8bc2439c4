use Rattle.std.proofs.Common.{◌≡◌, ◌++◌, ◌-◌, ℕ, List, [], ◌∷◌, length, take, drop, refl, sym, ◌∙◌, ap, subst, arith}
use Rattle.std.proofs.lemmas.List.{take_rest}
use Rattle.ferry_piece.proofs.PieceLemmas.{WritesSoFar, all_written, none_there, none_written, one_written}
use Rattle.ferry_piece.proofs.PutsLemmas.{contents_append}
use Rattle.ferry_piece.specs.Puts.{contents_in}
use Rattle.ferry_plan.proofs.TallyLemmas.{takes_by, takes_none, takes_then}
use Rattle.ferry_plan.proofs.pieces.Pieces.write.Goals as goal
use Rattle.ferry_repo.specs.Opening.{repo_view}

pub loop-rest-init : goal.loop-rest-init
loop-rest-init c = record {
  room = c.requires.room;
  block = refl;
  written = λ kind.
      let target = repo_view c.args.target.now in (
        [],
        (
          takes_none kind target.keys target.log c.args.known.now c.args.self.now c.args.self.now refl refl,
          none_written target.keys c.args.self.now.cutter c.args.self.now.chunks.items c.args.bytes.now,
        ),
      );
}

pub returns-then-is_none : goal.returns-then-is_none
returns-then-is_none c =
    let invariant = c.loop-rest.invariant in
    let grown = c.feed-taken.new.self in
    let target = repo_view c.args.target.now in
    let pieces = c.loop-rest.self in
    record {
      written = λ kind.
          let so = invariant.written kind in (
            so.0,
            (
              takes_by kind target.keys target.log c.args.known.now c.loop-rest.known c.args.self.now c.args.self.now pieces
                  (record pieces { cutter = grown }) so.0 refl refl refl refl so.1.0,
              all_written target.keys c.args.self.now.cutter c.args.self.now.chunks.items c.args.bytes.now c.loop-rest.rest.now (contents_in so.0)
                  pieces.cutter grown pieces.chunks.items c.feed-taken.result so.1.1 invariant.block invariant.room c.feed-taken.ensures.taken
                  c.feed-taken.ensures.piece c.feed-taken.ensures.block c.feed-taken.ensures.fits
                  (λ whole. none_there c.full.result c.if-is_none.ensures (c.full.ensures.full.1 whole)),
            ),
          );
    }

pub loop-rest-preserved : goal.loop-rest-preserved
loop-rest-preserved c =
    let invariant = c.loop-rest.invariant in
    let middle = c.loop-rest.self in
    let now = c.add.new.self in
    let grown = c.feed-taken.new.self in
    let target = repo_view c.args.target.now in
    let keys = target.keys in
    let cleared : now.cutter.piece ≡ [] = c.in_ok-add.ensures.cleared in
    let none : length now.cutter.piece ≡ 0 = ap length cleared in
    let kept : now.cutter.block ≡ middle.cutter.block = c.in_ok-add.ensures.block ∙ c.feed-taken.ensures.block in
    let whole : length grown.piece ≡ grown.block = c.full.ensures.full.0 c.if-is_none.ensures in
    record {
      room = omega (arith, none, kept, invariant.room);
      block = kept ∙ invariant.block;
      written = λ kind.
          let so = invariant.written kind in
          let next = c.in_ok-add.ensures.taken kind in
          let behind = take (length c.loop-rest.rest.now - c.feed-taken.result) (drop c.feed-taken.result c.loop-rest.rest.now) in
          let pieces : contents_in (so.0 ++ next.0) ≡ contents_in so.0 ++ grown.piece ∷ [] =
          contents_append so.0 next.0 ∙ ap (λ (last : List (List ℕ)). contents_in so.0 ++ last) next.1.1 in (
            so.0 ++ next.0,
            (
              takes_then kind keys target.log c.args.known.now c.loop-rest.known c.add.new.known c.args.self.now middle now so.0 next.0 so.1.0
                  (takes_by kind keys target.log c.loop-rest.known c.add.new.known (record middle { cutter = grown }) middle now now next.0 refl refl refl
                  refl next.1.0),
              subst (λ (contents : List (List ℕ)). WritesSoFar keys c.args.self.now.cutter c.args.self.now.chunks.items c.args.bytes.now behind contents
                  now.cutter now.chunks.items) (sym pieces)
                  (one_written keys keys c.args.self.now.cutter c.args.self.now.chunks.items c.args.bytes.now c.loop-rest.rest.now behind (contents_in so.0)
                  middle.cutter grown now.cutter middle.chunks.items now.chunks.items c.feed-taken.result so.1.1 refl invariant.block
                  c.feed-taken.ensures.block c.feed-taken.ensures.piece whole (take_rest c.loop-rest.rest.now c.feed-taken.result)
                  c.in_ok-add.ensures.chunks cleared),
            ),
          );
    }
