use Rattle.std.proofs.Common.{rules, of_calls}
use Rattle.std.proofs.lemmas.List.Sorted.{IsPartitionPoint-from_clause}
use Rattle.ferry_manifest.specs.declared.manifest.ArchiveRef.{ArchiveRef}
use Rattle.ferry_next.specs.Next.{is_below}
use Rattle.ferry_next.proofs.OrderLemmas.{lesser_first}
use Rattle.ferry_next.proofs.PlaceLemmas.{passed, failed}
use Rattle.ferry_next.proofs.archives.place_of.Goals as goal

pub returns : goal.returns
returns c =
    let archives = c.args.archives.now in
    let place = c.partition_point.result in
    let within = c.partition_point.ensures.bound in
    let lesser = λ (a : ArchiveRef). is_below a.name c.args.name.now in
    let point = IsPartitionPoint-from_clause lesser archives place c.partition_point.ensures.partitioned
    (lesser_first c.args.name.now archives c.requires.increasing) (λ a r f k. search (rules, of_calls)) in
    record {
      within = within;
      lesser = passed lesser archives place within point.0 point.1;
      others = failed lesser archives place within point.0 point.1;
    }
