use Rattle.std.proofs.Common.{Vec, Global, refl, arith}
use Rattle.ferry_gen.proofs.PutLemmas.{puts_adds}
use Rattle.ferry_gen.proofs.put.finish_pieces.Goals as goal
use Rattle.ferry_item.specs.declared.item.ChunkRef.{ChunkRef}
use Rattle.ferry_piece.specs.Puts.{Content}
use Rattle.ferry_rechunk.specs.Cut.{cut}

pub finish-requires-clause-checkpoint : goal.finish-requires-clause-checkpoint
finish-requires-clause-checkpoint g c = record { some = omega (arith, c.requires.checkpoint); limit = omega (arith, c.requires.checkpoint) }

pub returns-clause-puts : goal.returns-clause-puts
returns-clause-puts g c =
    let came = c.finish.ensures.works Content refl in
    let writer = c.args.writer.now in
    puts_adds {T = Vec ChunkRef Global} c.finish.result writer.checkpoint came.0 (cut writer.cutter.block writer.cutter.piece) c.args.store.now
    c.finish.new.store
    (g.D.Shelf.told c.args.depot.now) (g.D.Shelf.told c.finish.new.depot) (g.D.Shelf.faults c.args.depot.now) (g.D.Shelf.faults c.finish.new.depot)
    c.requires.checkpoint came.1.1.0.0 came.1.0

pub returns-clause-cause : goal.returns-clause-cause
returns-clause-cause g c = (c.finish.ensures.works Content refl).1.0.works.cause
