use Rattle.std.proofs.Common.{◌≡◌, get_or, take, ap, ◌∙◌, arith, rules}
use Rattle.ferry_msgpack.specs.Tree.{put}
use Rattle.ferry_msgpack.specs.View.{value_view, pairs_view}
use Rattle.ferry_fields.proofs.FieldLemmas.{same_get}
use Rattle.ferry_fields.proofs.PutLemmas.{put_more}
use Rattle.ferry_fields.proofs.building.copied.Goals as goal

pub loop-place-preserved : goal.loop-place-preserved
loop-place-preserved c =
    let es = c.args.pairs.now in
    let place = c.loop-place.place in
    let e = c.index-pairs-place.result in
    let named : c.as_slice.result.now ≡ (get_or es place e).0.items = c.as_slice.ensures.value ∙ ap (λ x. x.0.items) (same_get es place _ e (omega arith)) in
    let copied : value_view c.in_ok-value.value ≡ value_view e.1 = search rules in
    let valued : value_view c.in_ok-value.value ≡ value_view (get_or es place e).1 = copied ∙ ap (λ x. value_view x.1) c.index-pairs-place.is in
    c.in_ok-put.ensures.pairs ∙ ap (put c.as_slice.result.now (value_view c.in_ok-value.value)) c.loop-place.invariant
    ∙ ap (λ k. put k (value_view c.in_ok-value.value) (pairs_view (take place es))) named
    ∙ ap (λ t. put (get_or es place e).0.items t (pairs_view (take place es))) valued
    ∙ put_more es place e c.requires (omega arith)
