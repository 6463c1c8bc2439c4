use Rattle.std.proofs.Common.{◌≡◌, ◌∷◌, [], true, Some, None, IsSome, refl, sym, subst}
use Rattle.std.specs.BTreeMap.{get}
use Rattle.ferry_log.specs.Live.{key_cmp}
use Rattle.ferry_check.specs.Steps.{Marks}
use Rattle.ferry_check.specs.declared.chunks.Chunk.{Chunk}
use Rattle.ferry_check.proofs.MarkLemmas.{mark_known, mark_unknown}
use Rattle.ferry_check.proofs.marks.mark.Goals as goal

pub returns-in-Some : goal.returns-in-Some
returns-in-Some c =
    let known = get key_cmp c.args.chunks.now in
    let w : Chunk = record { size = c.in-Some.chunk.now.size; used = true } in
    let is : known c.args.id.now ≡ Some c.in-Some.chunk.now = sym c.in-Some.ensures.value in
    record {
      marks = mark_known known (get key_cmp (c.get_mut.follows.lender w)) c.args.id.now c.in-Some.chunk.now is
          ((c.get_mut.follows.holds w).3 (subst IsSome (sym is) refl)).0;
    }

pub returns-in-None : goal.returns-in-None
returns-in-None c =
    let known = get key_cmp c.args.chunks.now in
    let is : known c.args.id.now ≡ None = sym c.in-None.ensures.value in
    record {
      marks = subst (λ m. Marks (c.args.id.now ∷ []) known (get key_cmp m)) (sym c.get_mut.follows.holds-at-none) (mark_unknown known c.args.id.now is);
    }
