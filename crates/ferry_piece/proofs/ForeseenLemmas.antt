-- Pieces that were prepared before they came.
use Rattle.std.proofs.Common.{◌≡◌, ◌+◌, ◌<◌, ℕ, zero, suc, Bool, true, false, List, [], ◌∷◌, Vec, Global, drop, length, map, nat_lt, take}
use Rattle.std.proofs.Common.{get_or, slice_index_or, refl, sym, ◌∙◌, ap, subst}
use Rattle.std.proofs.lemmas.Bool.{ltb-true}
use Rattle.std.proofs.lemmas.List.{get_or-take, take-map}
use Rattle.ferry_blob.specs.Batch.{bytes_at}
use Rattle.ferry_blob.specs.Blob.{content_id}
use Rattle.ferry_blob.specs.declared.mode.Mode.{Mode}
use Rattle.ferry_mac.specs.declared.keys.Keys.{Keys}
use Rattle.ferry_piece.specs.Foreseen.{IsForeseen, piece_of, pieces_in}
use Rattle.ferry_repo.specs.Opening.{RepoState, mode_of}
use Rattle.ferry_store.specs.Piece.{IsPrepared, Prepares}

-- a piece by its place
piece_at : (buffers : List (Vec ℕ Global)) (k : ℕ) → slice_index_or (pieces_in buffers) k [] ≡ drop 43 (bytes_at buffers k)
piece_at [] k = refl
piece_at (buffer ∷ buffers) zero = refl
piece_at (buffer ∷ buffers) (suc k) = piece_at buffers k

-- what was prepared of the pieces of buffers
pub foreseen_at : (repo : RepoState) (before pieces : List (Vec ℕ Global)) (k : ℕ) (id : List ℕ) (is_blob : Bool) (after : List ℕ)
    → map (λ (piece : Vec ℕ Global). piece.items) pieces ≡ pieces_in before → Prepares repo (bytes_at before k) id is_blob after
    → IsForeseen repo.keys (mode_of repo.config) (bytes_at pieces k) id is_blob after
foreseen_at repo before pieces k id is_blob after copies p =
    let content = p.content ∙ sym (ap (λ (ps : List (List ℕ)). slice_index_or ps k []) copies ∙ piece_at before k) in
    record {
      named = p.prepared.named ∙ ap (content_id repo.keys) content;
      content = content;
      whole = p.prepared.whole ∙ ap (λ (c : List ℕ). 43 + length c) content;
      limit = p.prepared.limit;
      ready = p.prepared.ready;
    }

-- and what a store asks of it
pub foreseen_prepared : (repo : RepoState) (piece id : List ℕ) (is_blob : Bool) (buffer : List ℕ)
    → IsForeseen repo.keys (mode_of repo.config) piece id is_blob buffer → IsPrepared repo id is_blob buffer
foreseen_prepared repo piece id is_blob buffer p = record {
  named = p.named ∙ ap (content_id repo.keys) (sym p.content);
  whole = p.whole ∙ ap (λ (c : List ℕ). 43 + length c) (sym p.content);
  limit = p.limit;
  ready = p.ready;
}

-- what was foreseen, where the copies of blobs alone are kept
pub foreseen_kept : (keys : Keys) (mode : Mode) (pieces : List (Vec ℕ Global)) (blobs k : ℕ) (id buffer : List ℕ)
    → IsForeseen keys mode (bytes_at pieces k) id (nat_lt k blobs) buffer
    → IsForeseen keys mode (piece_of (nat_lt k blobs) (bytes_at (take blobs pieces) k) buffer) id (nat_lt k blobs) buffer
foreseen_kept keys mode pieces blobs k id buffer p = by (nat_lt k blobs) refl p where
  items : Vec ℕ Global → List ℕ
  items v = v.items

  same : k < blobs → bytes_at (take blobs pieces) k ≡ bytes_at pieces k
  same lt = ap (λ (ps : List (List ℕ)). get_or ps k []) (sym (take-map items blobs pieces)) ∙ get_or-take blobs (map items pieces) k [] lt

  by : (is_blob : Bool) → nat_lt k blobs ≡ is_blob → IsForeseen keys mode (bytes_at pieces k) id is_blob buffer
      → IsForeseen keys mode (piece_of is_blob (bytes_at (take blobs pieces) k) buffer) id is_blob buffer
  by true lt p = subst (λ (piece : List ℕ). IsForeseen keys mode piece id true buffer) (sym (same (ltb-true k blobs lt))) p
  by false lt p = subst (λ (piece : List ℕ). IsForeseen keys mode piece id false buffer) (sym p.content) p
