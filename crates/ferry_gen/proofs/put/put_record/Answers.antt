use Rattle.std.proofs.Common.{ℕ, [], ◌++◌, ◌∙◌, subst, arith}
use Rattle.std.proofs.lemmas.List.{append-nil}
use Rattle.ferry_gen.proofs.PutLemmas.{record_behind, record_puts}
use Rattle.ferry_gen.proofs.put.put_record.Goals as goal
use Rattle.ferry_gen.specs.Steps.{most_pending}
use Rattle.ferry_carry.specs.Naming.{PutsRecord}
use Rattle.ferry_disk.specs.Device.{HasCause}
use Rattle.ferry_piece.specs.Fault.{target_failed}
use Rattle.ferry_manifest.specs.Record.Text.{ArchiveText, archive_view}
use Rattle.ferry_piece.specs.Gather.{chunks_of}
use Rattle.ferry_rechunk.specs.Cut.{cut}
use Rattle.ferry_repo.specs.Opening.{repo_view}

pub returns-clause-puts : goal.returns-clause-puts
returns-clause-puts g c =
    let put = c.put_record.ensures.put in
    let stream = c.args.stream.now in
    let store = c.args.store.now in
    let middle = c.finish_pieces.new.store in
    let now = c.put_record.new.store in
    let keys = (repo_view store.repo).keys in
    let other = (repo_view middle.repo).keys in
    let left = cut stream.cutter.block stream.cutter.piece in
    let b = g.D.Shelf.told c.finish_pieces.new.depot in
    let z = g.D.Shelf.told c.put_record.new.depot in
    let before = g.E.Entropy.drawn c.args.entropy.now in
    let after = g.E.Entropy.drawn c.put_record.new.entropy in
    record_behind c.put_record.result c.args.archive keys other c.deref.result.now (stream.chunks.items ++ chunks_of keys left) left [] left
    store middle now (g.D.Shelf.told c.args.depot.now) b z c.in_ok-pieces.ensures.rest c.put_record.ensures.target.rest c.in_ok-pieces.ensures.rest.keys
    (c.deref.ensures.value ∙ c.in_ok-pieces.ensures.chunks) (append-nil left) c.in_ok-pieces.ensures.puts
    (record_puts c.put_record.result put.0 c.args.archive other (archive_view c.in_ok-made.made) c.deref.result.now middle now b z
    (g.D.Shelf.faults c.finish_pieces.new.depot) (g.D.Shelf.faults c.put_record.new.depot) before after c.in_ok-made.ensures.made
    (put.1.0 most_pending (record { some = omega arith; limit = omega arith }) c.in_ok-pieces.ensures.pending)
    (subst (λ (archive : ArchiveText). PutsRecord other archive put.0 before after c.put_record.result) c.in_ok-copied_archive.ensures.archive put.1.1.1))

pub returns-clause-cause : goal.returns-clause-cause
returns-clause-cause g c =
    let cause = (c.put_record.ensures.put.1.0 most_pending (record { some = omega arith; limit = omega arith }) c.in_ok-pieces.ensures.pending).works.cause in
    subst (λ (n : ℕ). HasCause target_failed n (g.D.Shelf.faults c.put_record.new.depot) c.put_record.result) c.in_ok-pieces.ensures.cause cause
