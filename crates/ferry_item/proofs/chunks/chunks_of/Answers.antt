use Rattle.std.proofs.Common.{◌≡◌, None, Some, get_or, refl, sym, ◌∙◌, arith, rules}
use Rattle.ferry_msgpack.specs.View.{value_view}
use Rattle.ferry_msgpack.specs.Writable.{Fits}
use Rattle.ferry_item.specs.Item.{chunk_of}
use Rattle.ferry_item.proofs.ReadLemmas.{chunks_start, chunks_more, chunks_lost, chunks_done, fits_at}
use Rattle.ferry_item.proofs.chunks.chunks_of.Goals as goal

pub loop-place-init : goal.loop-place-init
loop-place-init c = rw c.new-chunks.ensures.items (chunks_start c.args.items.now)

pub chunk_of-requires : goal.chunk_of-requires
chunk_of-requires c =
    let vs = c.args.items.now in
    let place = c.loop-place.place in
    let v = c.index-items-place.result in
    let fits : Fits (value_view (get_or vs place v)) = fits_at vs place v c.requires (omega arith) in
    rw c.index-items-place.is fits

pub returns-in_default-clause-fault : goal.returns-in_default-clause-fault
returns-in_default-clause-fault c h =
    let vs = c.args.items.now in
    let place = c.loop-place.place in
    let none : chunk_of (value_view (get_or vs place c.index-items-place.result)) ≡ None = search rules in
    (refl, chunks_lost c.loop-place.chunks.items vs place c.index-items-place.result (omega arith) none c.loop-place.invariant)

pub loop-place-preserved : goal.loop-place-preserved
loop-place-preserved c =
    let vs = c.args.items.now in
    let place = c.loop-place.place in
    let some : chunk_of (value_view (get_or vs place c.index-items-place.result)) ≡ Some c.in-Some.chunk = search rules in
    rw c.in_ok-push.ensures.items (chunks_more c.loop-place.chunks.items c.in-Some.chunk vs place c.index-items-place.result (omega arith) some
    ∙ c.loop-place.invariant)

pub returns-clause-chunks : goal.returns-clause-chunks
returns-clause-chunks c =
    rw c.new.ensures.chunks (sym c.loop-place.invariant ∙ chunks_done c.loop-place.chunks.items c.args.items.now c.loop-place.place (omega arith))
