use Rattle.std.proofs.Common.{ℕ, ◌++◌, ◌∙◌, ap, arith}
use Rattle.ferry_carry.specs.Copied.{stream_block}
use Rattle.ferry_gen.proofs.PutLemmas.{record_behind, written_chunks}
use Rattle.ferry_gen.proofs.put.put_stream.Goals as goal
use Rattle.ferry_piece.specs.Gather.{chunks_of}
use Rattle.ferry_rechunk.specs.Cut.{cut}
use Rattle.ferry_repo.specs.Opening.{repo_view}

pub put_record-requires-clause-least : goal.put_record-requires-clause-least
put_record-requires-clause-least g c = omega (arith, c.in_ok-write_pieces.ensures.written.block_is, c.in_ok-writer.ensures.block)

pub put_record-requires-clause-most : goal.put_record-requires-clause-most
put_record-requires-clause-most g c = omega (arith, c.in_ok-write_pieces.ensures.written.block_is, c.in_ok-writer.ensures.block)

pub put_record-requires-clause-within : goal.put_record-requires-clause-within
put_record-requires-clause-within g c = c.in_ok-write_pieces.ensures.written.within

pub returns-clause-puts : goal.returns-clause-puts
returns-clause-puts g c =
    let wrote = c.in_ok-write_pieces.ensures.written in
    let writer = c.write_pieces.new.writer in
    let left = cut writer.cutter.block writer.cutter.piece in
    let store = c.args.store.now in
    let middle = c.write_pieces.new.store in
    let keys = (repo_view store.repo).keys in
    let other = (repo_view middle.repo).keys in
    let stream = c.args.stream.now in
    let a = g.D.Shelf.told c.args.depot.now in
    let b = g.D.Shelf.told c.write_pieces.new.depot in
    let block = c.in_ok-writer.ensures.block in
    record_behind c.put_record.result c.args.archive keys other (writer.chunks.items ++ chunks_of other left) (chunks_of keys (cut stream_block stream))
    wrote.full
    left (cut stream_block stream) store middle c.put_record.new.store a b (g.D.Shelf.told c.put_record.new.depot) c.in_ok-write_pieces.ensures.rest
    c.put_record.ensures.rest c.in_ok-write_pieces.ensures.rest.keys
    (written_chunks keys other c.in_ok-writer.writer.cutter.block stream store middle a b writer c.in_ok-write_pieces.ensures.rest.keys wrote
    ∙ ap (λ (n : ℕ). chunks_of keys (cut n stream)) block)
    (wrote.whole ∙ ap (λ (n : ℕ). cut n stream) block) wrote.puts c.put_record.ensures.puts
