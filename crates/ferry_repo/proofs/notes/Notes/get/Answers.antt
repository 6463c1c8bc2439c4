use Rattle.std.proofs.Common.{sym, subst}
use Rattle.std.specs.List.{AllByRecursion}
use Rattle.ferry_repo.specs.Cached.{Noted}
use Rattle.ferry_repo.specs.Noted.{IsCut, IsNoted}
use Rattle.ferry_repo.proofs.NotedLemmas.{all_found, noted_as}
use Rattle.ferry_repo.proofs.notes.Notes.get.Goals as goal

pub returns-clause-noted : goal.returns-clause-noted
returns-clause-noted c = λ files log keys all.
    noted_as (IsNoted files log keys) c.in_ok-note.note.now c.args.key.now c.args.block c.args.chunks.now c.as_slice.result.now
    (c.is_of.ensures c.if-not-is_of.false) c.as_slice.ensures.chunks
    (all_found (IsNoted files log keys) _ c.self.inside.notes.entries c.in_ok-note.note.now
    (subst (λ (notes : Noted). AllByRecursion (λ n. IsNoted files log keys n.1) notes) (sym c.self.view_is) all) (sym c.in_ok-note.ensures.value))

pub returns-clause-cut : goal.returns-clause-cut
returns-clause-cut c =
    noted_as IsCut c.in_ok-note.note.now c.args.key.now c.args.block c.args.chunks.now c.as_slice.result.now (c.is_of.ensures c.if-not-is_of.false)
    c.as_slice.ensures.chunks (all_found IsCut _ c.self.inside.notes.entries c.in_ok-note.note.now c.self.invariant (sym c.in_ok-note.ensures.value))
