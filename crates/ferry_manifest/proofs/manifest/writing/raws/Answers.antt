use Rattle.std.proofs.Common.{◌≡◌, get_or, Vec, Global, ℕ, ap, ◌∙◌, arith}
use Rattle.ferry_msgpack.specs.declared.value.Value.TheVariants.{Raw}
use Rattle.ferry_msgpack.specs.Tree.{raw}
use Rattle.ferry_msgpack.specs.View.{value_view}
use Rattle.ferry_msgpack.proofs.ViewLemmas.{view_raw}
use Rattle.ferry_manifest.proofs.Manifests.WriteLemmas.{raws_none, raws_more}
use Rattle.ferry_manifest.proofs.manifest.writing.raws.Goals as goal

pub loop-place-init : goal.loop-place-init
loop-place-init c = rw c.new-values.ensures.items raws_none

pub loop-place-preserved : goal.loop-place-preserved
loop-place-preserved c =
    let names = c.args.contents.now in
    let place = c.loop-place.place in
    let name = c.index-contents-place.result in
    let is : value_view (Raw c.in_ok-content.content) ≡ raw (get_or names place name).items =
    view_raw c.in_ok-content.content ∙ ap raw (c.in_ok-content.ensures.items ∙ c.as_slice.ensures.value
    ∙ ap (λ (n : Vec ℕ Global). n.items) c.index-contents-place.is) in
    rw c.in_ok-push.ensures.items (raws_more c.loop-place.values.items (Raw c.in_ok-content.content) names place name (omega arith) c.loop-place.invariant is)
