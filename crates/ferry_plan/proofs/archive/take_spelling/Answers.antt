use Rattle.std.proofs.Common.{◌≡◌, ◌≤◌, ◌++◌, ℕ, List, length, ◌∙◌, ap, subst, arith}
use Rattle.std.proofs.lemmas.Result.{on_ok_weaker}
use Rattle.ferry_carry.proofs.ListingLemmas.{fills_on}
use Rattle.ferry_piece.specs.Piece.{WritesOn}
use Rattle.ferry_piece.specs.Puts.{Stream, contents_in}
use Rattle.ferry_item.specs.Item.{item_view}
use Rattle.ferry_item.specs.Writing.{item_text}
use Rattle.ferry_plan.proofs.TallyLemmas.{stream_ready, stream_tallied}
use Rattle.ferry_plan.proofs.archive.take_spelling.Goals as goal
use Rattle.ferry_repo.specs.Opening.{repo_view}

pub returns-clause-taken : goal.returns-clause-taken
returns-clause-taken c =
    let target = repo_view c.args.target.now in
    let tally = c.args.tally.now in
    let stream = tally.stream in
    let stream_now = c.write.new.self in
    let ready = c.requires.ready in
    let text = item_text (item_view c.args.item.now) in
    let written : c.write_item.new.into.items ≡ text =
    ◌∙◌ {A = List ℕ} c.in_ok-write_item.ensures.ok (ap (λ (bytes : List ℕ). bytes ++ text) c.new-spelling.ensures.items) in
    let spelled : c.deref.result.now ≡ text = ◌∙◌ {A = List ℕ} c.deref.ensures.value written in
    let within : length stream.cutter.piece ≤ stream.cutter.block = omega (arith, ready.stream_room) in
    on_ok_weaker c.write.result
    (λ wrote.
    let all = wrote Stream in (
      all.0,
      (
        stream_tallied target.keys target.log tally c.write.new.known stream_now all.0 all.1.0,
        fills_on target.keys stream.cutter stream_now.cutter stream.chunks.items stream_now.chunks.items text all.0 ready.stream_block_is within all.1.0.of
            (subst (λ (bytes : List ℕ). WritesOn target.keys stream.cutter stream.chunks.items bytes (contents_in all.0) stream_now.cutter
            stream_now.chunks.items) spelled all.1.1),
      ),
    )) c.write.ensures.written

pub returns-clause-ready : goal.returns-clause-ready
returns-clause-ready c =
    on_ok_weaker c.write.result
    (λ wrote.
    let all = wrote Stream in
    stream_ready c.args.tally.now c.write.new.known c.write.new.self (all.1.1.block ∙ c.requires.ready.stream_block_is) all.1.1.room c.requires.ready)
    c.write.ensures.written
