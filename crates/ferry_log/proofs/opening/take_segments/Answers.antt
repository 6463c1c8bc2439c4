use Rattle.std.proofs.Common.{refl, ap, map, take, subst, sym, ◌∙◌, get_or, [], ◌∷◌, ◌++◌}
use Rattle.std.proofs.lemmas.List.{take_more}
use Rattle.ferry_disk.specs.Files.{segment_bytes}
use Rattle.ferry_log.specs.Opening.{HasTaken, IsStopped}
use Rattle.ferry_log.proofs.OpeningLemmas.{has_none, has_more, stopped_at, err_matches}
use Rattle.ferry_log.proofs.WindowLemmas.{tells_on}
use Rattle.ferry_log.proofs.opening.take_segments.Goals as goal

pub loop-number-init : goal.loop-number-init
loop-number-init g c = record {
  segments = ap (map (λ e. e.segment)) c.requires.no_extents;
  taken = λ files tells. has_none files c.args.live.now.entries c.args.extents.now.items c.requires.no_places c.requires.no_extents;
  same = refl;
  faults = refl;
}

pub returns-in_err-take_segment-clause-taken : goal.returns-in_err-take_segment-clause-taken
returns-in_err-take_segment-clause-taken g c files tells =
    let old = c.loop-number.invariant in
    let fault = c.in_err-take_segment.field-0.0 in
    let read =
    c.in_err-take_segment.ensures.taken files (tells_on (g.S.Shelf.told c.args.shelf.now) (g.S.Shelf.told c.loop-number.shelf) files old.same tells) in
    err_matches c.from_residual.result c.in_err-take_segment.field-0.0
    (λ x. HasTaken files c.args.numbers.now c.take_segment.new.live.entries c.take_segment.new.extents.items) (IsStopped files c.args.numbers.now)
    c.from_residual.ensures.1
    (stopped_at files c.args.numbers.now c.loop-number.number-index 0 c.loop-number.live.entries c.loop-number.extents.items fault c.loop-number-test.true
    (old.taken files tells) read)

pub loop-number-preserved : goal.loop-number-preserved
loop-number-preserved g c =
    let old = c.loop-number.invariant in
    let new = c.in_ok-take_segment.ensures in
    let numbers = c.args.numbers.now in
    let i = c.loop-number.number-index in
    let n = get_or numbers i 0 in
    record {
      segments = new.extent ∙ (ap (λ xs. xs ++ n ∷ []) old.segments ∙ sym (take_more numbers i 0 c.loop-number-test.true));
      taken = λ files tells.
          let read = new.taken files (tells_on (g.S.Shelf.told c.args.shelf.now) (g.S.Shelf.told c.loop-number.shelf) files old.same tells) in
          subst (λ ns. HasTaken files ns c.take_segment.new.live.entries c.take_segment.new.extents.items)
          (sym (take_more numbers i 0 c.loop-number-test.true))
          (has_more files (take i numbers) c.loop-number.live.entries c.take_segment.new.live.entries c.loop-number.extents.items
          c.take_segment.new.extents.items n (segment_bytes files n)
          (old.taken files tells) refl read.0 read.2 read.1);
      same = new.same ∙ old.same;
      faults = new.cause ∙ old.faults;
    }
