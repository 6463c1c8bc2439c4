use Rattle.std.proofs.Common.{sym, subst}
use Rattle.std.specs.List.{AllByRecursion}
use Rattle.ferry_repo.specs.Cached.{Noted}
use Rattle.ferry_repo.specs.Noted.{IsCut, IsNoted}
use Rattle.ferry_repo.proofs.NotedLemmas.{all_inserted}
use Rattle.ferry_repo.proofs.notes.Notes.put.Goals as goal

pub invariant_of-self-2 : goal.invariant_of-self-2
invariant_of-self-2 c =
    subst (λ (notes : Noted). AllByRecursion (λ n. IsCut n.1) notes) (sym c.in-Ok.ensures.entries)
    (all_inserted IsCut _ c.self.inside.notes.entries c.in-Some.first c.args.note c.self.invariant c.requires.cut)

pub returns : goal.returns
returns c = record {
  kept = λ files log keys all is.
      subst (λ (notes : Noted). AllByRecursion (λ n. IsNoted files log keys n.1) notes) (sym c.in-Ok.ensures.entries)
      (all_inserted (IsNoted files log keys) _ c.self.inside.notes.entries c.in-Some.first c.args.note
      (subst (λ (notes : Noted). AllByRecursion (λ n. IsNoted files log keys n.1) notes) (sym c.self.view_is) all) is);
}
