-- The hash values of messages of a block and a text, and HMAC by them.
use Rattle.std.proofs.Common.{◌≡◌, Bor, ℕ, zero, suc, ◌<◌, ◌≤◌, ◌+◌, ◌-◌, ◌*◌, ◌/◌, List, [], ◌∷◌, ◌++◌, length, take, drop}
use Rattle.std.proofs.Common.{map, min, cond, get_or, eqb, leb, ltb, bit_xor, replicate}
use Rattle.std.proofs.Common.{refl, sym, ap, ◌∙◌, arith, inl, inr, add-one, length-append, append_assoc}
use Rattle.std.proofs.lemmas.Bool.{cases_lt, cond_both, leb-true, lt-ltb, le-ltb}
use Rattle.std.proofs.lemmas.List.{drop-drop, drop_at, length-map, take_at}
use Rattle.std.proofs.lemmas.Simd.{length-replicate}
use Rattle.sha2.specs.Sha256.{compress, digest_bytes, final_hash, hash_after, initial_hash_256, padded_message, padding, sha256}
use Rattle.sha2.proofs.Absorbing256.{hash_after_next}
use Rattle.sha2.proofs.Facts256.{length-sha256}
use Rattle.ferry_mac.specs.Hmac.{block_key, filled, hmac256, inner_pad, outer_pad, xored_with}
use Rattle.ferry_mac.specs.Lanes.{behind_key, hashed_behind}

-- text k of an array of texts
abbrev pub text_at : List (Bor (List ℕ)) → ℕ → List ℕ
text_at texts k = (get_or texts k (record { ref_ptr = (0, 0); now = [] })).now

-- the same, as clauses say it
pub text_at-map : (texts : List (Bor (List ℕ))) (k : ℕ) → get_or (map (λ text. text.now) texts) k [] ≡ text_at texts k
text_at-map [] k = refl
text_at-map (text ∷ texts) zero = refl
text_at-map (text ∷ texts) (suc k) = text_at-map texts k

-- a message that goes on takes its next block, and one that has ended stays
pub hashed_more : (start text state next chosen block : List ℕ) (n count counted going : ℕ) → counted ≡ count
    → state ≡ hash_after start (behind_key text) (min n count) → next ≡ compress state block
    → (n < count → block ≡ take 64 (drop (n * 64) (behind_key text)))
    → going ≡ cond (ltb n counted) 1 0 → chosen ≡ cond (eqb going 1) next state
    → chosen ≡ hash_after start (behind_key text) (min (n + 1) count)
hashed_more start text state next chosen block n count counted going same before compressed read test choice = elim (cases_lt n count) [
  | inl lt ↦
      let one : going ≡ 1 = test ∙ rw (same, lt-ltb n count lt) refl in
      let here : min n count ≡ n = omega arith in
      let on : min (n + 1) count ≡ n + 1 = omega arith in
      choice ∙ rw (one, compressed, before, read lt, here, on) (sym (hash_after_next start (behind_key text) n))
  | inr ge ↦
      let none : going ≡ 0 = test ∙ rw (same, le-ltb n count ge) refl in
      let stays : min (n + 1) count ≡ min n count = omega arith in
      choice ∙ rw (none, stays) before
]

-- a first block, and then the others
pub hash_after_first : (start block rest : List ℕ) (n : ℕ) → length block ≡ 64
    → hash_after start (block ++ rest) (n + 1) ≡ hash_after (compress start block) rest n
unfolding hash_after
hash_after_first start block rest zero long =
    rw (hash_after_next start (block ++ rest) 0) (ap (compress start) (take_at block rest 64 long))
hash_after_first start block rest (suc n) long =
    let place : suc n * 64 ≡ 64 + n * 64 = omega arith in
    let behind : drop (suc n * 64) (block ++ rest) ≡ drop (n * 64) rest =
    rw (place, ← drop-drop (n * 64) 64 (block ++ rest)) (ap (drop (n * 64)) (drop_at block rest 64 long)) in
    let before : hash_after start (block ++ rest) (suc n) ≡ hash_after (compress start block) rest n =
    rw add-one at (hash_after_first start block rest n long) in
    rw (hash_after_next start (block ++ rest) (suc n), behind) (ap (λ h. compress h (take 64 (drop (n * 64) rest))) before)

-- the digest of a block and a text
pub digest_by_first : (block text start state out : List ℕ) → length block ≡ 64 → start ≡ compress initial_hash_256 block
    → state ≡ hashed_behind start text → out ≡ digest_bytes state 8 → out ≡ sha256 (block ++ text)
unfolding sha256
digest_by_first block text start state out long first others made =
    let whole = length (behind_key text) / 64 in
    let padded : padded_message (block ++ text) ≡ block ++ behind_key text =
    rw (length-append block text, long) (append_assoc block text (padding (64 + length text))) in
    let count : length (block ++ behind_key text) / 64 ≡ whole + 1 = omega (arith, length-append block (behind_key text)) in
    let hash : final_hash initial_hash_256 (block ++ text) ≡ state =
    rw (padded, count) (hash_after_first initial_hash_256 block (behind_key text) whole long ∙ rw (others, first) refl) in
    made ∙ ap (λ h. digest_bytes h 8) (sym hash)

-- the key's block xored with a pad
length-filled : (key : List ℕ) → length key ≤ 64 → length (filled 64 key) ≡ 64
length-filled key short =
    let none : length {A = ℕ} (replicate (64 - length key) 0) ≡ 64 - length key = length-replicate _ 0 in
    omega (arith, length-append key (replicate (64 - length key) 0), none)

pub length-pad : (key : List ℕ) (pad : ℕ) → length (xored_with pad (block_key sha256 64 key)) ≡ 64
unfolding block_key
length-pad key pad =
    length-map _ (λ byte. bit_xor byte pad)
    ∙ cond_both (leb (length key) 64) key (sha256 key) (λ key. length (filled 64 key) ≡ 64)
    (λ yes. length-filled key (leb-true _ _ yes))
    (λ no. length-filled (sha256 key) (omega (arith, length-sha256 key)))

-- HMAC by two digests
pub hmac_by_digests : (key text inner outer digest mac : List ℕ) → inner ≡ xored_with inner_pad (block_key sha256 64 key)
    → outer ≡ xored_with outer_pad (block_key sha256 64 key) → digest ≡ sha256 (inner ++ text) → mac ≡ sha256 (outer ++ digest)
    → mac ≡ hmac256 key text
unfolding hmac256
hmac_by_digests key text inner outer digest mac ei eo ed em = em ∙ rw (ed, ei, eo) refl

-- four texts, one by one
pub map_of_four : (f : List ℕ → List ℕ) (texts : List (Bor (List ℕ))) → length texts ≡ 4
    → map (λ text. f text.now) texts ≡ f (text_at texts 0) ∷ f (text_at texts 1) ∷ f (text_at texts 2) ∷ f (text_at texts 3) ∷ []
map_of_four f (a ∷ b ∷ c ∷ d ∷ []) e = refl
map_of_four f [] e = absurd (omega arith)
map_of_four f (a ∷ []) e = absurd (omega arith)
map_of_four f (a ∷ b ∷ []) e = absurd (omega arith)
map_of_four f (a ∷ b ∷ c ∷ []) e = absurd (omega arith)
map_of_four f (a ∷ b ∷ c ∷ d ∷ x ∷ xs) e = absurd (omega arith)

-- HMAC by the hash values after the key's two blocks
pub hmac_by_behind : (key text start last digest mac : List ℕ) → start ≡ compress initial_hash_256 (xored_with inner_pad (block_key sha256 64 key))
    → last ≡ compress initial_hash_256 (xored_with outer_pad (block_key sha256 64 key)) → digest ≡ digest_bytes (hashed_behind start text) 8
    → mac ≡ digest_bytes (hashed_behind last digest) 8 → mac ≡ hmac256 key text
hmac_by_behind key text start last digest mac es el ed em =
    let inner = xored_with inner_pad (block_key sha256 64 key) in
    let outer = xored_with outer_pad (block_key sha256 64 key) in
    hmac_by_digests key text inner outer digest mac refl refl
    (digest_by_first inner text start (hashed_behind start text) digest (length-pad key inner_pad) es refl ed)
    (digest_by_first outer digest last (hashed_behind last digest) mac (length-pad key outer_pad) el refl em)
