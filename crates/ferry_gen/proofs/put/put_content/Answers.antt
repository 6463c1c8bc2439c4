use Rattle.std.proofs.Common.{ℕ, ◌++◌, ◌∙◌, ap, arith}
use Rattle.ferry_gen.proofs.PutLemmas.{puts_as, puts_then, written_chunks}
use Rattle.ferry_gen.proofs.put.put_content.Goals as goal
use Rattle.ferry_gen.specs.Source.{source_block}
use Rattle.ferry_piece.specs.Gather.{chunks_of}
use Rattle.ferry_rechunk.specs.Cut.{cut}
use Rattle.ferry_repo.specs.Opening.{repo_view}

pub finish_pieces-requires-clause-least : goal.finish_pieces-requires-clause-least
finish_pieces-requires-clause-least g c = omega (arith, c.in_ok-write_pieces.ensures.written.block_is, c.in_ok-writer.ensures.block)

pub finish_pieces-requires-clause-most : goal.finish_pieces-requires-clause-most
finish_pieces-requires-clause-most g c = omega (arith, c.in_ok-write_pieces.ensures.written.block_is, c.in_ok-writer.ensures.block)

pub finish_pieces-requires-clause-within : goal.finish_pieces-requires-clause-within
finish_pieces-requires-clause-within g c = c.in_ok-write_pieces.ensures.written.within

pub returns-clause-puts : goal.returns-clause-puts
returns-clause-puts g c =
    let wrote = c.in_ok-write_pieces.ensures.written in
    let writer = c.write_pieces.new.writer in
    let left = cut writer.cutter.block writer.cutter.piece in
    let store = c.args.store.now in
    let middle = c.write_pieces.new.store in
    let now = c.finish_pieces.new.store in
    let a = g.D.Shelf.told c.args.depot.now in
    let b = g.D.Shelf.told c.write_pieces.new.depot in
    let d = g.D.Shelf.told c.finish_pieces.new.depot in
    puts_as (wrote.full ++ left) (cut source_block c.args.content.now) store now a d
    (wrote.whole ∙ ap (λ (n : ℕ). cut n c.args.content.now) c.in_ok-writer.ensures.block)
    (puts_then wrote.full left store middle now a b d c.in_ok-write_pieces.ensures.rest c.in_ok-chunks.ensures.rest wrote.puts c.in_ok-chunks.ensures.puts)

pub returns-clause-chunks : goal.returns-clause-chunks
returns-clause-chunks g c =
    let writer = c.write_pieces.new.writer in
    let keys = (repo_view c.args.store.now.repo).keys in
    let content = c.args.content.now in
    c.new-2.ensures.chunks ∙ (c.in_ok-chunks.ensures.chunks
    ∙ (written_chunks keys (repo_view c.write_pieces.new.store.repo).keys c.in_ok-writer.writer.cutter.block content c.args.store.now c.write_pieces.new.store
    (g.D.Shelf.told c.args.depot.now) (g.D.Shelf.told c.write_pieces.new.depot) writer c.in_ok-write_pieces.ensures.rest.keys
    c.in_ok-write_pieces.ensures.written
    ∙ ap (λ (n : ℕ). chunks_of keys (cut n content)) c.in_ok-writer.ensures.block))
