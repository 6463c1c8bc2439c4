use Rattle.std.proofs.Common.{sym, subst}
use Rattle.std.specs.List.{AllByRecursion}
use Rattle.ferry_repo.specs.Cached.{Noted}
use Rattle.ferry_repo.specs.Noted.{IsCut, IsNoted}
use Rattle.ferry_repo.proofs.NotedLemmas.{all_found}
use Rattle.ferry_repo.proofs.notes.Notes.like.Goals as goal

pub returns-clause-noted : goal.returns-clause-noted
returns-clause-noted c = λ files log keys all.
    all_found (IsNoted files log keys) _ c.self.inside.notes.entries c.in_ok-note.note.now
    (subst (λ (notes : Noted). AllByRecursion (λ n. IsNoted files log keys n.1) notes) (sym c.self.view_is) all) (sym c.in_ok-note.ensures.value)

pub returns-clause-cut : goal.returns-clause-cut
returns-clause-cut c =
    all_found IsCut _ c.self.inside.notes.entries c.in_ok-note.note.now c.self.invariant (sym c.in_ok-note.ensures.value)
