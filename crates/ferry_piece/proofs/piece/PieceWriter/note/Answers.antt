use Rattle.ferry_piece.proofs.PieceLemmas.{counts_one}
use Rattle.ferry_piece.proofs.piece.PieceWriter.note.Goals as goal

pub returns-clause-counted : goal.returns-clause-counted
returns-clause-counted c kind content is =
    counts_one kind c.args.self.now c.count.new.self content c.args.added.new c.args.size is c.count.ensures.put c.count.ensures.bytes
