use Rattle.std.proofs.Common.{◌≡◌, ◌∙◌, ap, drop}
use Rattle.std.proofs.lemmas.List.{take_rest}
use Rattle.ferry_rechunk.proofs.CutterLemmas.{piece_fits, piece_seen}
use Rattle.ferry_rechunk.proofs.cutter.Cutter.piece.Goals as goal

pub returns-clause-piece : goal.returns-clause-piece
returns-clause-piece c =
    let bytes = c.self.inside.bytes.items in
    let same : c.deref.result.now ≡ bytes = c.deref.ensures.value in
    take_rest c.deref.result.now 43 ∙ ap (drop 43) same ∙ piece_seen c.self.inside.block bytes c.args.self.now c.self.view_is

pub returns-clause-fits : goal.returns-clause-fits
returns-clause-fits c =
    piece_fits c.self.inside.block c.self.inside.bytes.items c.args.self.now c.self.view_is c.self.invariant.3
