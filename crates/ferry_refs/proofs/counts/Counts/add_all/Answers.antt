use Rattle.std.proofs.Common.{◌<◌, length, arith}
use Rattle.ferry_refs.specs.Refs.{count_in}
use Rattle.ferry_refs.proofs.CountLemmas.{adds_none, adds_more}
use Rattle.ferry_refs.proofs.counts.Counts.add_all.Goals as goal

pub loop-place-init : goal.loop-place-init
loop-place-init c = record { adds = adds_none (count_in c.args.self.now) }

pub loop-place-preserved : goal.loop-place-preserved
loop-place-preserved c =
    let lt : c.loop-place.place < length c.args.ids.now = omega arith in
    record {
      adds = adds_more (count_in c.args.self.now) (count_in c.loop-place.self) (count_in c.add.new.self) c.args.ids.now c.loop-place.place _ lt
          c.loop-place.invariant.adds c.in_ok-add.ensures.added;
    }
