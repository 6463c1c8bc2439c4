use Rattle.std.proofs.Common.{rules, ◌≡◌, ◌<◌, ◌∙◌, ℕ, List, [], Vec, Global, length, nat_lt, get_or, slice_index_or, sym, ap, subst, arith, length-set}
use Rattle.std.proofs.lemmas.List.{get_or_default}
use Rattle.ferry_base.specs.Limits.{zero_id}
use Rattle.ferry_blob.proofs.BatchLemmas.{bytes_at-other, bytes_at-read}
use Rattle.ferry_blob.specs.Batch.{bytes_at, id_at}
use Rattle.ferry_blob.specs.declared.mode.Mode.{Mode}
use Rattle.ferry_mac.specs.declared.keys.Keys.{Keys}
use Rattle.ferry_piece.proofs.foreseen.Foreseen.take.Goals as goal
use Rattle.ferry_piece.specs.Foreseen.{IsForeseen, piece_of}
use Rattle.ferry_repo.specs.Opening.{mode_of, repo_view}

pub invariant_of-self : goal.invariant_of-self
invariant_of-self c = λ k past low.
    let inside = c.self.inside in
    subst (λ (buffer : List ℕ). IsForeseen inside.keys inside.mode (piece_of (nat_lt k inside.blobs) (bytes_at inside.pieces.items k) buffer)
    (id_at inside.ids k) (nat_lt k inside.blobs) buffer)
    (sym (bytes_at-other inside.buffers.items inside.next k c.replace-buffer.new.dest (omega (arith, past))))
    (c.self.invariant k (omega (arith, past)) (omega (arith, low, length-set inside.buffers.items inside.next c.replace-buffer.new.dest)))

pub returns : goal.returns
returns c =
    let inside = c.self.inside in
    let place = inside.next in
    let repo = repo_view c.args.store.now.repo in
    let low : place < length inside.buffers.items = omega arith in
    let few : place < length inside.ids = omega arith in
    let keys : inside.keys ≡ repo.keys = search rules in
    let mode : inside.mode ≡ mode_of repo.config = search rules in
    let copy = bytes_at inside.pieces.items place in
    let is_blob = nat_lt place inside.blobs in
    let piece : piece_of is_blob copy (bytes_at inside.buffers.items place) ≡ c.args.piece.now =
    subst (λ (bs : List (Vec ℕ Global)). piece_of is_blob copy (bytes_at bs place) ≡ c.args.piece.now) c.deref-else-ne-2.ensures.value
    (subst (λ (ps : List (Vec ℕ Global)). piece_of is_blob (bytes_at ps place) (bytes_at c.deref-else-ne-2.result.now place) ≡ c.args.piece.now)
    c.deref.ensures.value (c.is_piece.ensures.piece (search rules))) in
    let id : id_at inside.ids place ≡ slice_index_or inside.ids place [] = get_or_default inside.ids place zero_id [] few in
    let old = c.replace-buffer.result in
    let old_at : old ≡ get_or inside.buffers.items place old = search rules in
    let buffer : bytes_at inside.buffers.items place ≡ c.replace-buffer.result.items =
    sym (bytes_at-read inside.buffers.items place old low) ∙ sym (ap (λ (v : Vec ℕ Global). v.items) old_at) in
    let here = c.self.invariant place (omega arith) low in
    record {
      ready = subst (λ (k : Keys). IsForeseen k (mode_of repo.config) c.args.piece.now (slice_index_or inside.ids place []) is_blob old.items) keys
          (subst (λ (m : Mode). IsForeseen inside.keys m c.args.piece.now (slice_index_or inside.ids place []) is_blob c.replace-buffer.result.items) mode
          (subst (λ (p : List ℕ). IsForeseen inside.keys inside.mode p (slice_index_or inside.ids place []) is_blob c.replace-buffer.result.items) piece
          (subst (λ (i : List ℕ). IsForeseen inside.keys inside.mode (piece_of is_blob copy (bytes_at inside.buffers.items place)) i is_blob
          c.replace-buffer.result.items) id
          (subst (IsForeseen inside.keys inside.mode (piece_of is_blob copy (bytes_at inside.buffers.items place)) (id_at inside.ids place) is_blob) buffer
          here))));
    }

pub is_piece-requires-clause-head : goal.is_piece-requires-clause-head
is_piece-requires-clause-head c =
    let inside = c.self.inside in
    let place = inside.next in
    let buffers = c.deref-else-ne-2.result.now in
    let same : buffers ≡ inside.buffers.items = c.deref-else-ne-2.ensures.value in
    let low : place < length inside.buffers.items = omega arith in
    let whole = (c.self.invariant place (omega arith) low).whole in
    omega (arith, whole, ap (λ (bs : List (Vec ℕ Global)). length (bytes_at bs place)) same)
