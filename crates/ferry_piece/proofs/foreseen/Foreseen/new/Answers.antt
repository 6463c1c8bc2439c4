use Rattle.std.proofs.Common.{rules, ◌≡◌, ◌<◌, ◌∙◌, ℕ, List, Vec, Global, length, map, nat_lt, take, sym, ap, subst, arith}
use Rattle.std.proofs.lemmas.List.{with_items_is}
use Rattle.ferry_blob.specs.Batch.{bytes_at, id_at}
use Rattle.ferry_blob.specs.declared.mode.Mode.{Mode}
use Rattle.ferry_mac.specs.declared.keys.Keys.{Keys}
use Rattle.ferry_piece.proofs.ForeseenLemmas.{foreseen_at, foreseen_kept}
use Rattle.ferry_piece.proofs.foreseen.Foreseen.new.Goals as goal
use Rattle.ferry_piece.specs.Foreseen.{IsForeseen, piece_of, pieces_in}
use Rattle.ferry_repo.specs.Opening.{mode_of, repo_view}
use Rattle.ferry_store.specs.Piece.{Prepares}

pub invariant_of-result : goal.invariant_of-result
invariant_of-result c = λ k past low.
    let repo = repo_view c.args.store.now.repo in
    let before = c.args.buffers in
    let now = c.prepare_all-blobs.new.buffers in
    let ids = c.prepare_all-blobs.result.0 in
    let is_blob = nat_lt k c.prepare_all-blobs.result.1 in
    let pieces = c.in_ok-pieces.pieces.items in
    let size : length now ≡ length before.items = c.prepare_all-blobs.auto.buffers ∙ ap length c.deref_mut.ensures.value in
    let is = with_items_is before now (omega (arith, size, before.ok.0)) in
    let there : k < length c.deref_mut.result.now = omega (arith, low, ap length is, size, ap length c.deref_mut.ensures.value) in
    let prepared : Prepares repo (bytes_at before.items k) (id_at ids k) is_blob (bytes_at now k) =
    subst (λ (bs : List (Vec ℕ Global)). Prepares repo (bytes_at bs k) (id_at ids k) is_blob (bytes_at now k)) c.deref_mut.ensures.value
    (c.prepare_all-blobs.ensures.prepared k there) in
    let copies : map (λ (piece : Vec ℕ Global). piece.items) pieces ≡ pieces_in before.items =
    c.in_ok-pieces.ensures.pieces ∙ ap pieces_in c.deref.ensures.value in
    let blobs = c.prepare_all-blobs.result.1 in
    let kept = c.truncate.new.self.items in
    let cut : kept ≡ take blobs pieces = search rules in
    subst (λ (bs : List (Vec ℕ Global)). IsForeseen c.keys.result.now c.mode.result (piece_of is_blob (bytes_at kept k) (bytes_at bs k)) (id_at ids k) is_blob
    (bytes_at bs k)) (sym is)
    (subst (λ (ps : List (Vec ℕ Global)). IsForeseen c.keys.result.now c.mode.result (piece_of is_blob (bytes_at ps k) (bytes_at now k)) (id_at ids k) is_blob
    (bytes_at now k)) (sym cut)
    (subst (λ (keys : Keys). IsForeseen keys c.mode.result (piece_of is_blob (bytes_at (take blobs pieces) k) (bytes_at now k)) (id_at ids k) is_blob
    (bytes_at now k)) (sym c.keys.ensures.keys)
    (subst (λ (mode : Mode). IsForeseen repo.keys mode (piece_of is_blob (bytes_at (take blobs pieces) k) (bytes_at now k)) (id_at ids k) is_blob
    (bytes_at now k)) (sym c.mode.ensures.mode)
    (foreseen_kept repo.keys (mode_of repo.config) pieces blobs k (id_at ids k) (bytes_at now k)
    (foreseen_at repo before.items pieces k (id_at ids k) is_blob (bytes_at now k) copies prepared)))))
