use Rattle.std.proofs.Common.{◌≡◌, ℕ, Vec, Global, get_or, ap, ◌∙◌, arith}
use Rattle.ferry_next.proofs.UnionLemmas.{inserted}
use Rattle.ferry_manifest.proofs.Manifests.ReadLemmas.{names_view}
use Rattle.ferry_next.proofs.item_keys.insert_names.Goals as goal

pub loop-name-preserved : goal.loop-name-preserved
loop-name-preserved c =
    let names = c.args.names.now in
    let i = c.loop-name.name-index in
    let d = c.name-item.result in
    let copy = c.in_ok-copy.copy in
    let is : copy.items ≡ (get_or names i d).items =
    c.in_ok-copy.ensures.items ∙ (c.as_slice.ensures.value ∙ ap (λ (n : Vec ℕ Global). n.items) c.name-item.is) in
    rw c.in_ok-insert.ensures.keys (inserted (names_view c.args.set.now.keys) c.loop-name.set.keys names copy i d (omega arith) is c.loop-name.invariant)
