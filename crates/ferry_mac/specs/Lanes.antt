-- Messages side by side: each word is a vector with a lane for each message.
use Rattle.std.specs.Prelude.{ℕ, ◌≡◌, ◌<◌, ◌+◌, ◌*◌, ◌/◌, List, [], ◌∷◌, ◌++◌, length, map, take, drop, slice_index, slice_index_or}
use Rattle.std.specs.Borrow.{Bor}
use Rattle.sha2.specs.Sha256.{hash_after, padding, schedule, word_at}

-- word i of message l
abbrev pub lane_at : List (List ℕ) → ℕ → ℕ → ℕ
lane_at vectors i l = slice_index (slice_index_or vectors i []) l

-- the hash value of message l, or its working variables, which have 8 words
abbrev pub lane : List (List ℕ) → ℕ → List ℕ
lane state l =
    lane_at state 0 l ∷ lane_at state 1 l ∷ lane_at state 2 l ∷ lane_at state 3 l
    ∷ lane_at state 4 l ∷ lane_at state 5 l ∷ lane_at state 6 l ∷ lane_at state 7 l ∷ []

-- the words of message l are those of the block (FIPS 180-4, 5.2.1)
abbrev pub HasWords : List (List ℕ) → ℕ → List ℕ → Type 0
HasWords words l block = (i : ℕ) → i < 16 → lane_at words i l ≡ word_at block (4 * i)

-- the words of message l before word t are those of the block's schedule (FIPS 180-4, 6.2.2, step 1)
abbrev pub IsScheduled : List (List ℕ) → ℕ → ℕ → List ℕ → Type 0
IsScheduled words t l block = (i : ℕ) → i < t → lane_at words i l ≡ slice_index (schedule block 48) i

-- a text with the padding of a message that has one block before the text (FIPS 180-4, 5.1.1)
abbrev pub behind_key : List ℕ → List ℕ
behind_key text = text ++ padding (64 + length text)

-- the hash value of that, from the hash value after the block before it
abbrev pub hashed_behind : List ℕ → List ℕ → List ℕ
hashed_behind start text = hash_after start (behind_key text) (length (behind_key text) / 64)

-- the bytes begin with what is behind the last whole block of a text, its padding with it
abbrev pub IsEnding : List ℕ → List ℕ → Type 0
IsEnding end text =
    take (length (drop (length text / 64 * 64) (behind_key text))) end ≡ drop (length text / 64 * 64) (behind_key text)

-- the text in a place, and no bytes behind the last one
abbrev pub nth_text : List (Bor (List ℕ)) → ℕ → List ℕ
nth_text texts k = slice_index_or (map (λ text. text.now) texts) k []

-- each of the 64 rows of words has one of each of n messages
abbrev pub HasRows : List (List ℕ) → ℕ → Type 0
HasRows words n = (i : ℕ) → i < 64 → length (slice_index_or words i []) ≡ n
