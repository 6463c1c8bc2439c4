-- Lemmas on the memory of a cutter: a head of 43 bytes, and the piece in hand.
use Rattle.std.proofs.Common.{◌≡◌, ◌≤◌, ◌+◌, ◌-◌, ℕ, List, ◌++◌, length, take, drop, ap, subst, ◌∙◌, sym, arith}
use Rattle.std.proofs.lemmas.List.{drop-append-le, length-drop}
use Rattle.ferry_rechunk.specs.Cutting.{Cutting, written_over, after_loan}

-- what contracts see of these fields
abbrev pub seen : ℕ → List ℕ → Cutting
seen block bytes = record { block = block; piece = drop 43 bytes }

pub piece_seen : (block : ℕ) (bytes : List ℕ) (cutting : Cutting) → seen block bytes ≡ cutting → drop 43 bytes ≡ cutting.piece
piece_seen block bytes cutting is = ap (λ c. c.piece) is

-- what is in hand is a block at most
pub piece_fits : (block : ℕ) (bytes : List ℕ) (cutting : Cutting) → seen block bytes ≡ cutting → length bytes ≤ 43 + block
    → length cutting.piece ≤ cutting.block
piece_fits block bytes cutting is fits =
    let P : Cutting → Type 0 = λ c. length c.piece ≤ c.block in subst P is (omega (arith, length-drop 43 bytes))

-- bytes behind the memory are bytes behind the piece
pub piece_grows : (block : ℕ) (bytes more : List ℕ) (cutting : Cutting) → seen block bytes ≡ cutting → 43 ≤ length bytes
    → drop 43 (bytes ++ more) ≡ cutting.piece ++ more
piece_grows block bytes more cutting is head =
    drop-append-le 43 bytes more head ∙ ap (λ piece. piece ++ more) (piece_seen block bytes cutting is)

-- as many bytes as there is room for behind the piece have room behind the memory
pub room_is_left : (block : ℕ) (bytes piece : List ℕ) (more : ℕ) (cutting : Cutting) → seen block bytes ≡ cutting → piece ≡ cutting.piece
    → 43 ≤ length bytes → length bytes ≤ 43 + block → more ≤ block - length piece → length bytes + more ≤ 43 + block
room_is_left block bytes piece more cutting is in_hand head fits few =
    let long : length piece ≡ length bytes - 43 = ap length (in_hand ∙ sym (piece_seen block bytes cutting is)) ∙ length-drop 43 bytes in
    omega arith

-- what is seen once bytes were written where the memory was lent
pub seen_after_loan : (block len : ℕ) (bytes lent written : List ℕ) (cutting : Cutting) → seen block bytes ≡ cutting → lent ≡ bytes → len ≡ length bytes
    → seen block (take len (written ++ drop (length written) bytes)) ≡ after_loan cutting lent written
seen_after_loan block len bytes lent written cutting is same long =
    rw (long, same) (ap (λ (c : Cutting). record c { piece = drop 43 (written_over bytes written) }) is)

-- the memory is 43 bytes longer than the piece
pub memory_length : (block : ℕ) (bytes : List ℕ) (cutting : Cutting) → seen block bytes ≡ cutting → 43 ≤ length bytes → length bytes ≡ 43 + length cutting.piece
memory_length block bytes cutting is head =
    let P : Cutting → Type 0 = λ c. length bytes ≡ 43 + length c.piece in subst P is (omega (arith, length-drop 43 bytes))
