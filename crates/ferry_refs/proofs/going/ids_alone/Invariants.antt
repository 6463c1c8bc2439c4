use Rattle.std.proofs.Common.{◌≡◌, ◌++◌, filter}
use Rattle.std.specs.BTreeMap.{IsOrdered, keys}
use Rattle.ferry_log.specs.Live.{key_cmp}
use Rattle.ferry_refs.specs.Refs.{count_in}
use Rattle.ferry_refs.specs.Steps.{goes_by}
use Rattle.ferry_refs.proofs.going.ids_alone.Given as goal

-- those that go of the keys so far, and of the keys that are left, are those of all
abbrev pub invariant-loop-id : goal.invariant-loop-id
invariant-loop-id l = record {
  ids : l.ids.items ++ filter (goes_by l.log (count_in l.all) (count_in l.own)) l.id-iterator
      ≡ filter (goes_by l.log (count_in l.all) (count_in l.own)) (keys l.own.counts);
  ordered : IsOrdered key_cmp l.own.counts;
}
