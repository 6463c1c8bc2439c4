-- The blocks of the drill's files: pieces of 512 bytes, each of which begins with its number.
use Rattle.std.proofs.Common.{◌≡◌, ◌≤◌, ◌<◌, ◌+◌, ◌*◌, ◌/◌, ◌%◌, ◌^◌, inl, inr, ℕ, zero, suc, Bool, if◌then◌else◌, List, [], ◌∷◌, ◌++◌, length, get_or, All}
use Rattle.std.proofs.Common.{ltb, refl, sym, ◌∙◌, ap, arith}
use Rattle.std.proofs.lemmas.Bool.{cases_lt, lt-ltb}
use Rattle.std.proofs.lemmas.List.{append-nil, append_assoc, get_or_append_left, get_or_push, length-append}
use Rattle.std.proofs.lemmas.List.Elements.{All-nil, All-cons}
use Rattle.std.specs.List.{concat}
use Rattle.ferry_rechunk.proofs.CutLemmas.{cut_nothing}
use Rattle.ferry_rechunk.proofs.CuttingLemmas.{fed_cut}
use Rattle.ferry_rechunk.specs.Cut.{cut}
use Rattle.ferry_rechunk.specs.Cutting.{IsFed}
use Rattle.ferry_gen.specs.Content.{block_number, file_byte, file_content, file_front, number_byte}

-- ---- bytes of a file

-- so many bytes of a file, from a place on
unfoldable pub span : ℕ → ℕ → ℕ → ℕ → List ℕ
span archive file start zero = []
span archive file start (suc count) = span archive file start count ++ file_byte archive file (start + count) ∷ []

pub span_size : (archive file start count : ℕ) → length (span archive file start count) ≡ count
unfolding span
span_size archive file start zero = refl
span_size archive file start (suc count) =
    omega (arith, length-append (span archive file start count) (file_byte archive file (start + count) ∷ []), span_size archive file start count)

-- behind the first bytes they are first bytes
front_span : (archive file start count : ℕ) → file_front archive file start ++ span archive file start count ≡ file_front archive file (start + count)
unfolding file_front span
front_span archive file start zero =
    append-nil (file_front archive file start) ∙ ap (file_front archive file) (let e : start ≡ start + 0 = omega arith in e)
front_span archive file start (suc count) =
    let last = file_byte archive file (start + count) ∷ [] in
    let e : suc (start + count) ≡ start + suc count = omega arith in
    sym (append_assoc (file_front archive file start) (span archive file start count) last)
    ∙ (ap (λ (l : List ℕ). l ++ last) (front_span archive file start count) ∙ ap (file_front archive file) e)

span_at : (archive file start count place : ℕ) → place < count → get_or (span archive file start count) place 0 ≡ file_byte archive file (start + place)
unfolding span
span_at archive file start zero place low = absurd (omega (arith, low))
span_at archive file start (suc count) place low =
    let some = span archive file start count in
    let last = file_byte archive file (start + count) in
    let size = span_size archive file start count in
    elim (cases_lt place count) [
      | inl less ↦ get_or_append_left some (last ∷ []) 0 place (omega (arith, size, less)) ∙ span_at archive file start count place less
      | inr more ↦
          let here : place ≡ count = omega (arith, low, more) in
          get_or_push some last 0 place (omega (arith, size, here)) ∙ ap (λ (n : ℕ). file_byte archive file (start + n)) (sym here)
    ]

-- ---- blocks

-- a block of a file
abbrev pub block : ℕ → ℕ → ℕ → List ℕ
block archive file number = span archive file (number * 512) 512

-- so many of them, from one on
unfoldable pub blocks_from : ℕ → ℕ → ℕ → ℕ → List (List ℕ)
blocks_from archive file first zero = []
blocks_from archive file first (suc count) = block archive file first ∷ blocks_from archive file (suc first) count

blocks_whole : (archive file first count : ℕ) → All (λ one. length one ≡ 512) (blocks_from archive file first count)
unfolding blocks_from
blocks_whole archive file first zero = All-nil (λ one. length one ≡ 512)
blocks_whole archive file first (suc count) =
    All-cons (λ one. length one ≡ 512) (block archive file first) (blocks_from archive file (suc first) count) (span_size archive file (first * 512) 512)
    (blocks_whole archive file (suc first) count)

front_blocks : (archive file first count : ℕ)
    → file_front archive file (first * 512) ++ concat (blocks_from archive file first count) ≡ file_front archive file ((first + count) * 512)
unfolding blocks_from
front_blocks archive file first zero =
    append-nil (file_front archive file (first * 512))
    ∙ ap (file_front archive file) (let e : first * 512 ≡ (first + 0) * 512 = omega arith in e)
front_blocks archive file first (suc count) =
    let front = file_front archive file (first * 512) in
    let later = concat (blocks_from archive file (suc first) count) in
    let e : first * 512 + 512 ≡ suc first * 512 = omega arith in
    let d : (suc first + count) * 512 ≡ (first + suc count) * 512 = omega arith in
    sym (append_assoc front (block archive file first) later)
    ∙ (ap (λ (l : List ℕ). l ++ later) (front_span archive file (first * 512) 512 ∙ ap (file_front archive file) e)
    ∙ (front_blocks archive file (suc first) count ∙ ap (file_front archive file) d))

front_none : (archive file : ℕ) → file_front archive file (0 * 512) ≡ []
unfolding file_front
front_none archive file = refl

front_cut : (archive file count : ℕ) → cut 512 (file_front archive file (count * 512)) ≡ blocks_from archive file 0 count
front_cut archive file count =
    let blocks = blocks_from archive file 0 count in
    let whole = file_front archive file (count * 512) in
    let e : (0 + count) * 512 ≡ count * 512 = omega arith in
    let joined : concat blocks ≡ whole =
    ap (λ (l : List ℕ). l ++ concat blocks) (sym (front_none archive file)) ∙ (front_blocks archive file 0 count ∙ ap (file_front archive file) e) in
    let fed : IsFed 512 whole blocks [] =
    record { joined = append-nil (concat blocks) ∙ joined; whole = blocks_whole archive file 0 count; fits = omega arith } in
    fed_cut 512 whole [] blocks (omega arith) fed
    ∙ (ap (λ (l : List (List ℕ)). blocks ++ l) (cut_nothing 512 (omega arith)) ∙ append-nil blocks)

-- a file is cut into its blocks
pub file_cut : (archive file : ℕ) → cut 512 (file_content archive file) ≡ blocks_from archive file 0 (8 * (file + 1))
file_cut archive file =
    let e : 4096 * (file + 1) ≡ 8 * (file + 1) * 512 = omega arith in
    ap (λ (n : ℕ). cut 512 (file_front archive file n)) e ∙ front_cut archive file (8 * (file + 1))

-- the first file is the same in all archives
first_span : (archive start count : ℕ) → span archive 0 start count ≡ span 0 0 start count
unfolding span
first_span archive start zero = refl
first_span archive start (suc count) = ap (λ (l : List ℕ). l ++ file_byte 0 0 (start + count) ∷ []) (first_span archive start count)

pub first_same : (archive first count : ℕ) → blocks_from archive 0 first count ≡ blocks_from 0 0 first count
unfolding blocks_from
first_same archive first zero = refl
first_same archive first (suc count) =
    ap (λ (l : List ℕ). l ∷ blocks_from archive 0 (suc first) count) (first_span archive (first * 512) 512)
    ∙ ap (λ (l : List (List ℕ)). block 0 0 first ∷ l) (first_same archive (suc first) count)

-- ---- numbers

-- the number that the first eight bytes of a content spell, the highest first
abbrev pub lead : List ℕ → ℕ
lead content =
    256 * (256 * (256 * (256 * (256 * (256 * (256 * get_or content 0 0 + get_or content 1 0) + get_or content 2 0) + get_or content 3 0) + get_or content 4 0)
    + get_or content 5 0) + get_or content 6 0) + get_or content 7 0

-- a content that begins with a high byte spells a high number
pub lead_high : (content : List ℕ) → 128 ≤ get_or content 0 0 → 2 ^ 63 ≤ lead content
lead_high content high = omega (arith, high)

byte_at : (archive file number place : ℕ) → place < 8 → get_or (block archive file number) place 0 ≡ number_byte (block_number archive file number) place
byte_at archive file number place low =
    let at = number * 512 + place in
    let rest : at % 512 ≡ place = omega (arith, low) in
    let part : at / 512 ≡ number = omega (arith, low) in
    span_at archive file (number * 512) 512 place (omega (arith, low))
    ∙ (ap (λ (r : ℕ). if ltb r 8 then number_byte (block_number archive file (at / 512)) r else at % 251) rest
    ∙ (ap (λ (b : Bool). if b then number_byte (block_number archive file (at / 512)) place else at % 251) (lt-ltb place 8 low)
    ∙ ap (λ (n : ℕ). number_byte (block_number archive file n) place) part))

number_lead : (n : ℕ) → n < 2 ^ 63
    → 256 * (256 * (256 * (256 * (256 * (256 * (256 * number_byte n 0 + number_byte n 1) + number_byte n 2) + number_byte n 3) + number_byte n 4)
    + number_byte n 5) + number_byte n 6) + number_byte n 7 ≡ n
number_lead n low =
    let a : n / 2 ^ 56 % 256 ≡ n / 2 ^ 56 = omega (arith, low) in
    let b : 256 * (n / 2 ^ 56) + n / 2 ^ 48 % 256 ≡ n / 2 ^ 48 = omega arith in
    let c : 256 * (n / 2 ^ 48) + n / 2 ^ 40 % 256 ≡ n / 2 ^ 40 = omega arith in
    let d : 256 * (n / 2 ^ 40) + n / 2 ^ 32 % 256 ≡ n / 2 ^ 32 = omega arith in
    let e : 256 * (n / 2 ^ 32) + n / 2 ^ 24 % 256 ≡ n / 2 ^ 24 = omega arith in
    let f : 256 * (n / 2 ^ 24) + n / 2 ^ 16 % 256 ≡ n / 2 ^ 16 = omega arith in
    let g : 256 * (n / 2 ^ 16) + n / 2 ^ 8 % 256 ≡ n / 2 ^ 8 = omega arith in
    let h : 256 * (n / 2 ^ 8) + n / 2 ^ 0 % 256 ≡ n = omega arith in
    omega (arith, a, b, c, d, e, f, g, h)

-- a block spells its number
pub block_lead : (archive file number : ℕ) → block_number archive file number < 2 ^ 63
    → lead (block archive file number) ≡ block_number archive file number
block_lead archive file number low =
    let n = block_number archive file number in
    let a = byte_at archive file number 0 (omega arith) in
    let b = byte_at archive file number 1 (omega arith) in
    let c = byte_at archive file number 2 (omega arith) in
    let d = byte_at archive file number 3 (omega arith) in
    let e = byte_at archive file number 4 (omega arith) in
    let f = byte_at archive file number 5 (omega arith) in
    let g = byte_at archive file number 6 (omega arith) in
    let h = byte_at archive file number 7 (omega arith) in
    omega (arith, a, b, c, d, e, f, g, h, number_lead n low)

-- the number of the first block of a file
abbrev pub first_number : ℕ → ℕ → ℕ
first_number archive zero = 0
first_number archive (suc file) = archive * 2 ^ 40 + suc file * 2 ^ 32

pub number_is : (archive file number : ℕ) → block_number archive file number ≡ first_number archive file + number
number_is archive zero number = omega arith
number_is archive (suc file) number = omega arith
