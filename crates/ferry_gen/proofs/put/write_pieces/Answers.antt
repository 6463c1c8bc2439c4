use Rattle.std.proofs.Common.{◌<◌, length, ℕ, List, refl, sym, subst, arith}
use Rattle.ferry_gen.proofs.PutLemmas.{written_so}
use Rattle.ferry_gen.proofs.put.write_pieces.Goals as goal
use Rattle.ferry_piece.specs.Puts.{Content}
use Rattle.ferry_repo.specs.Opening.{repo_view}

pub write-requires-clause-checkpoint : goal.write-requires-clause-checkpoint
write-requires-clause-checkpoint g c = record { some = omega (arith, c.requires.checkpoint); limit = omega (arith, c.requires.checkpoint) }

pub write-requires-clause-room : goal.write-requires-clause-room
write-requires-clause-room g c = subst (λ (piece : List ℕ). length piece < c.args.writer.now.cutter.block) (sym c.requires.empty) (omega (
  arith,
  c.requires.least,
))

pub returns-clause-written : goal.returns-clause-written
returns-clause-written g c =
    let came = c.write.ensures.written Content refl in
    written_so c.write.result (repo_view c.args.store.now.repo).keys c.args.writer.now c.write.new.self c.args.bytes.now came.0 c.args.store.now
    c.write.new.store
    (g.D.Shelf.told c.args.depot.now) (g.D.Shelf.told c.write.new.depot) (g.D.Shelf.faults c.args.depot.now) (g.D.Shelf.faults c.write.new.depot)
    c.requires.least c.requires.empty c.requires.none c.requires.checkpoint came.1.0 came.1.1.1.1

pub returns-clause-cause : goal.returns-clause-cause
returns-clause-cause g c = (c.write.ensures.written Content refl).1.0.works.cause
