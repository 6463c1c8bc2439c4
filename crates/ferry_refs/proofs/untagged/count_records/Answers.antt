use Rattle.std.proofs.Common.{◌<◌, length, ap, arith, unwrap_or}
use Rattle.std.specs.BTreeMap.{is_at}
use Rattle.std.specs.Map.{lookup}
use Rattle.ferry_log.specs.Live.{key_cmp}
use Rattle.ferry_refs.specs.Refs.{count_in}
use Rattle.ferry_refs.specs.Steps.{no_tally}
use Rattle.ferry_refs.proofs.OldLemmas.{records_more, records_none}
use Rattle.ferry_refs.proofs.untagged.count_records.Goals as goal

pub loop-place-init : goal.loop-place-init
loop-place-init c =
    record { adds = records_none _ (λ id. ap (λ entries. unwrap_or (lookup (is_at (key_cmp id)) entries) 0) c.new.ensures.empty) }

pub loop-place-preserved : goal.loop-place-preserved
loop-place-preserved c =
    let lt : c.loop-place.place < length c.args.untagged.now = omega arith in
    record {
      adds = records_more no_tally (count_in c.loop-place.counts) (count_in c.add.new.self) c.args.untagged.now c.loop-place.place _ lt
          c.loop-place.invariant.adds c.in_ok-add.ensures.added;
    }
