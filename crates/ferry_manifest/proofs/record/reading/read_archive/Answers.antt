use Rattle.std.proofs.Common.{arith}
use Rattle.ferry_msgpack.specs.Apart.{apart_view}
use Rattle.ferry_manifest.proofs.Records.LawLemmas.{packable_where_read}
use Rattle.ferry_manifest.proofs.Records.ReadLemmas.{archive_parts}
use Rattle.ferry_manifest.proofs.record.reading.read_archive.Goals as goal

pub returns-clause-archive : goal.returns-clause-archive
returns-clause-archive c =
    rw (archive_parts c.args.keys.now c.args.bytes.now (apart_view c.in_ok-apart.apart) c.in_ok-apart.ensures.map) c.record_from.ensures.archive

pub returns-clause-fault : goal.returns-clause-fault
returns-clause-fault c =
    rw (archive_parts c.args.keys.now c.args.bytes.now (apart_view c.in_ok-apart.apart) c.in_ok-apart.ensures.map) c.record_from.ensures.fault

pub returns-clause-packable : goal.returns-clause-packable
returns-clause-packable c =
    packable_where_read c.args.keys.now c.args.bytes.now c.record_from.result (λ i. omega (arith, c.type_inv.bytes i)) (returns-clause-archive c)
