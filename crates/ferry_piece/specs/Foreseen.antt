-- Pieces that were prepared before they came.
use Rattle.std.specs.Prelude.{◌≡◌, ◌+◌, ◌≤◌, ℕ, Bool, true, false, List, Vec, drop, length, map}
use Rattle.std.specs.declared.alloc.Global.{Global}
use Rattle.ferry_base.specs.Limits.{blob_limit}
use Rattle.ferry_blob.specs.Blob.{content_id}
use Rattle.ferry_blob.specs.declared.mode.Mode.{Mode}
use Rattle.ferry_mac.specs.declared.keys.Keys.{Keys}
use Rattle.ferry_store.specs.Piece.{IsReady, content_in}

-- the pieces of buffers, each behind byte 43
abbrev pub pieces_in : List (Vec ℕ Global) → List (List ℕ)
pieces_in buffers = map (λ (buffer : Vec ℕ Global). drop 43 buffer.items) buffers

-- what a piece is: a copy of it where its buffer is a blob, and else what stands behind byte 43
abbrev pub piece_of : Bool → List ℕ → List ℕ → List ℕ
piece_of true copy buffer = copy
piece_of false copy buffer = drop 43 buffer

-- A piece has this id, and this buffer is a blob of it, or has it behind byte 43.
pub record IsForeseen (keys : Keys) (mode : Mode) (piece id : List ℕ) (is_blob : Bool) (buffer : List ℕ) : Type 0 where
  pub named : id ≡ content_id keys piece
  pub content : content_in keys is_blob buffer ≡ piece
  pub whole : length buffer ≡ 43 + length piece
  pub limit : length buffer ≤ blob_limit
  pub ready : IsReady keys mode is_blob buffer
