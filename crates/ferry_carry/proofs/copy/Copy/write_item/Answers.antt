use Rattle.std.proofs.Common.{◌≡◌, ◌++◌, ℕ, List, [], Result, OnOk, refl, ◌∙◌, ap, subst}
use Rattle.std.proofs.lemmas.Result.{on_ok_weaker}
use Rattle.ferry_piece.proofs.PieceLemmas.{begins_nothing}
use Rattle.ferry_piece.proofs.WorkLemmas.{err_is, gathered_nothing}
use Rattle.ferry_carry.proofs.copy.Copy.write_item.Goals as goal
use Rattle.ferry_piece.specs.Adding.{AddsOn}
use Rattle.ferry_carry.specs.Copying.{WritesItem}
use Rattle.ferry_piece.specs.Piece.{BeginsOn, CountsOn, WritesOn}
use Rattle.ferry_piece.specs.Puts.{AreOf, Stream, contents_in}
use Rattle.ferry_piece.specs.declared.fault.CarryFault.{CarryFault}
use Rattle.ferry_piece.specs.declared.fault.CarryFault.TheVariants.{Memory}
use Rattle.ferry_item.specs.Item.{item_view}
use Rattle.ferry_item.specs.Writing.{item_text}
use Rattle.ferry_repo.specs.Opening.{repo_view}
use Rattle.ferry_piece.proofs.FewLemmas.{memory_unused}

pub returns-in_err-write_item-clause-written : goal.returns-in_err-write_item-clause-written
returns-in_err-write_item-clause-written g c =
    let store = c.args.store.now in
    let a = g.D.Shelf.told c.args.depot.now in
    let n = g.D.Shelf.faults c.args.depot.now in
    let stream = c.args.self.now.stream in
    let item = item_view c.args.item.now in (
      [],
      err_is c.from_residual.result Memory
          (λ (r : Result (Unit {0}) CarryFault). AddsOn stream.checkpoint store [] store a a n n r
          × (AreOf Stream [] × (BeginsOn stream.cutter (item_text item) []
          × OnOk r (WritesItem (repo_view store.repo).keys stream.cutter stream.chunks.items item [] stream.cutter stream.chunks.items
          × CountsOn Stream stream [] stream)))) c.from_residual.ensures.1 (
            gathered_nothing {T = Unit {0}} stream.checkpoint store a n Memory refl tt memory_unused,
            (tt, (begins_nothing stream.cutter (item_text item), tt)),
          ),
    )

pub returns-clause-written : goal.returns-clause-written
returns-clause-written g c =
    let wrote = c.write.ensures.written Stream refl in
    let more = wrote.0 in
    let stream = c.args.self.now.stream in
    let stream_now = c.write.new.self in
    let keys = (repo_view c.args.store.now.repo).keys in
    let item = item_view c.args.item.now in
    let text = item_text item in
    let written : c.write_item.new.into.items ≡ text =
    ◌∙◌ {A = List ℕ} c.in_ok-write_item.ensures.ok (ap (λ (bytes : List ℕ). bytes ++ text) c.new-spelling.ensures.items) in
    let spelled : c.deref.result.now ≡ text = ◌∙◌ {A = List ℕ} c.deref.ensures.value written in (
      more,
      (
        wrote.1.0,
        (
          wrote.1.1.0,
          (
            subst (λ (bytes : List ℕ). BeginsOn stream.cutter bytes (contents_in more)) spelled wrote.1.1.1.0,
            on_ok_weaker {P = WritesOn keys stream.cutter stream.chunks.items c.deref.result.now (contents_in more) stream_now.cutter
                stream_now.chunks.items × CountsOn Stream stream more stream_now}
                {Q = WritesItem keys stream.cutter stream.chunks.items item (contents_in more) stream_now.cutter stream_now.chunks.items
                × CountsOn Stream stream more stream_now} c.write.result
                (λ writes. (
                  record {
                    writes = subst (λ (bytes : List ℕ). WritesOn keys stream.cutter stream.chunks.items bytes (contents_in more) stream_now.cutter
                        stream_now.chunks.items) spelled writes.0;
                  },
                  writes.1,
                )) wrote.1.1.1.1,
          ),
        ),
      ),
    )
