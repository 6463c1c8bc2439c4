use Rattle.std.proofs.Common.{◌<◌, length, arith}
use Rattle.ferry_refs.specs.Refs.{count_in}
use Rattle.ferry_refs.proofs.CountLemmas.{adds_none, refs_more}
use Rattle.ferry_refs.proofs.archive.count_chunks.Goals as goal

pub loop-place-init : goal.loop-place-init
loop-place-init c = record { adds = adds_none (count_in c.args.counts.now) }

pub loop-place-preserved : goal.loop-place-preserved
loop-place-preserved c =
    let lt : c.loop-place.place < length c.args.chunks.now = omega arith in
    record {
      adds = refs_more (count_in c.args.counts.now) (count_in c.loop-place.counts) (count_in c.add.new.self) c.args.chunks.now c.loop-place.place _ lt
          c.loop-place.invariant.adds c.in_ok-add.ensures.added;
    }
