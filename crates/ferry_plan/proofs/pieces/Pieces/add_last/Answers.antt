use Rattle.std.proofs.Common.{◌≡◌, ◌++◌, ℕ, List, [], OnOk, refl, sym, subst}
use Rattle.ferry_piece.proofs.PieceLemmas.{cut_none, none_more, none_there}
use Rattle.ferry_piece.specs.Gather.{chunks_of}
use Rattle.ferry_piece.specs.Puts.{Addition, Kind, contents_in}
use Rattle.ferry_plan.proofs.TallyLemmas.{takes_none}
use Rattle.ferry_plan.proofs.pieces.Pieces.add_last.Goals as goal
use Rattle.ferry_plan.specs.Tally.{Takes}
use Rattle.ferry_rechunk.proofs.CutLemmas.{cut_short}
use Rattle.ferry_rechunk.specs.Cut.{cut}
use Rattle.ferry_repo.specs.Opening.{repo_view}

pub returns-then-is_none-clause-taken : goal.returns-then-is_none-clause-taken
returns-then-is_none-clause-taken c kind =
    let cutter = c.args.self.now.cutter in
    let target = repo_view c.args.target.now in
    let none : cut cutter.block cutter.piece ≡ [] =
    cut_none cutter.block cutter.piece c.requires.least
    (λ some. none_there c.last.result c.if-is_none.ensures (c.last.ensures.last.1 some)) in
    ([], (takes_none kind target.keys target.log c.args.known.now c.args.self.now c.args.self.now refl refl, sym none))

pub returns-then-is_none-clause-chunks : goal.returns-then-is_none-clause-chunks
returns-then-is_none-clause-chunks c =
    let cutter = c.args.self.now.cutter in
    let none : cut cutter.block cutter.piece ≡ [] =
    cut_none cutter.block cutter.piece c.requires.least
    (λ some. none_there c.last.result c.if-is_none.ensures (c.last.ensures.last.1 some)) in
    none_more (repo_view c.args.target.now).keys c.args.self.now.chunks.items (cut cutter.block cutter.piece) none

pub returns-clause-taken : goal.returns-clause-taken
returns-clause-taken c =
    let cutter = c.args.self.now.cutter in
    let target = repo_view c.args.target.now in
    subst (λ (contents : List (List ℕ)). OnOk c.add.result ((kind : Kind) → (more : List Addition)
    × (Takes kind target.keys target.log c.args.known.now c.args.self.now more c.add.new.known c.add.new.self × (contents_in more ≡ contents))))
    (sym (cut_short cutter.block cutter.piece (c.last.ensures.last.0 c.if-is_none.ensures) c.requires.within)) c.add.ensures.taken

pub returns-clause-chunks : goal.returns-clause-chunks
returns-clause-chunks c =
    let cutter = c.args.self.now.cutter in
    let keys = (repo_view c.args.target.now).keys in
    subst (λ (contents : List (List ℕ)). OnOk c.add.result (c.add.new.self.chunks.items ≡ c.args.self.now.chunks.items ++ chunks_of keys contents))
    (sym (cut_short cutter.block cutter.piece (c.last.ensures.last.0 c.if-is_none.ensures) c.requires.within)) c.add.ensures.chunks
