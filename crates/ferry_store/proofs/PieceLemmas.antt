-- Contents that are prepared in buffers.
use Rattle.std.proofs.Common.{◌≡◌, ◌⊎◌, ◌≤◌, ◌<◌, ◌+◌, ◌-◌, ◌≢◌, ℕ, zero, suc, Bool, true, false, List, [], ◌∷◌, ◌++◌, Vec, Global}
use Rattle.std.proofs.Common.{drop, take, length, map, slice_index, inl, inr, refl, sym, ap, subst, ◌∙◌, arith}
use Rattle.std.proofs.Common.{set, get_or, below_more, get_or-set_same, get_or-set_other}
use Rattle.std.proofs.lemmas.Bool.{cases_lt, lt-ltb, le-ltb}
use Rattle.std.proofs.lemmas.List.{map-set, length-map, length-drop, length-take, take-append-drop}
use Rattle.std.specs.Borrow.{Bor}
use Rattle.std.specs.Prelude.{nat_lt}
use Rattle.ferry_mac.specs.Lanes.{nth_text}
use Rattle.ferry_base.specs.Limits.{zero_id}
use Rattle.ferry_blob.proofs.BlobLemmas.{content-decrypted, length-decrypted}
use Rattle.ferry_blob.proofs.CallerLemmas.{length-opened}
use Rattle.ferry_blob.specs.Batch.{IsSealable, IsSealed, bytes_at, id_at}
use Rattle.ferry_blob.specs.Blob.{OpensTo, blocks, content_id, decrypted, nonce_of, sealed}
use Rattle.ferry_blob.specs.declared.mode.Mode.{Mode}
use Rattle.ferry_mac.specs.declared.keys.Keys.{Keys}
use Rattle.ferry_config.specs.declared.config.Config.{Config}
use Rattle.ferry_repo.specs.Opening.{RepoState, mode_of}
use Rattle.ferry_store.specs.Content.{Learns}
use Rattle.ferry_store.specs.Piece.{HasSize, IsPrepared, IsReady, Prepares, content_in, opened_in}

-- what stands in a buffer is as long as it
pub length-opened_in : (keys : Keys) (is_blob : Bool) (buffer : List ℕ) → 43 ≤ length buffer → length (opened_in keys is_blob buffer) ≡ length buffer
length-opened_in keys false buffer room = refl
length-opened_in keys true buffer room = length-decrypted keys buffer (omega arith)

pub opened_blocks : (keys : Keys) (is_blob : Bool) (buffer : List ℕ) (n : ℕ) → 43 ≤ length buffer → n ≡ blocks (length buffer - 43)
    → n ≡ blocks (length (opened_in keys is_blob buffer) - 43)
opened_blocks keys is_blob buffer n room is = is ∙ ap (λ (size : ℕ). blocks (size - 43)) (sym (length-opened_in keys is_blob buffer room))

-- ---- what is a blob

-- what was sealed is decrypted to the content that it was sealed of
pub content_again : (keys : Keys) (mode : Mode) (nonce : ℕ) (before after : List ℕ) → IsSealed keys mode nonce before after
    → drop 43 (decrypted keys after) ≡ drop 43 before
content_again keys mode nonce before after h =
    let opens = h.opens zero_id (inl refl) in
    let room = opens.size in
    content-decrypted keys after (omega (arith, room)) ∙ ap (drop 2) opens.plain

pub ready_again : (keys : Keys) (mode : Mode) (nonce : ℕ) (before after : List ℕ) → IsSealed keys mode nonce before after
    → IsSealed keys mode (nonce_of after) (decrypted keys after) after
ready_again keys mode nonce before after h =
    let same = sym (content_again keys mode nonce before after h) in
    record {
      blob = h.blob ∙ (ap (λ (n : ℕ). sealed keys mode n (drop 43 before)) (sym h.nonce) ∙ ap (sealed keys mode (nonce_of after)) same);
      opens = subst (λ (content : List ℕ). (id : List ℕ) → (id ≡ zero_id) ⊎ (id ≡ content_id keys content) → OpensTo keys id after content) same h.opens;
      kind = h.kind;
      nonce = refl;
    }

pub prepares_blob : (repo : RepoState) (nonce : ℕ) (before id after : List ℕ) → HasSize before → id ≡ content_id repo.keys (drop 43 before)
    → IsSealed repo.keys (mode_of repo.config) nonce before after → Prepares repo before id true after
prepares_blob repo nonce before id after size named h =
    let same = content_again repo.keys (mode_of repo.config) nonce before after h in
    let whole = length-opened repo.keys zero_id after (drop 43 before) (h.opens zero_id (inl refl)) in
    let head = size.head in
    let limit = size.limit in
    let cut = length-drop 43 before in
    record {
      prepared = record {
        named = named ∙ ap (content_id repo.keys) (sym same);
        whole = whole ∙ ap (λ (content : List ℕ). 43 + length content) (sym same);
        limit = omega (arith, whole, cut, head, limit);
        ready = λ _. ready_again repo.keys (mode_of repo.config) nonce before after h;
      };
      content = same;
    }

-- ---- what isn't one

pub prepared_plain : (repo : RepoState) (id buffer : List ℕ) → HasSize buffer → id ≡ content_id repo.keys (drop 43 buffer)
    → IsPrepared repo id false buffer
prepared_plain repo id buffer size named =
    let head = size.head in
    let cut = length-drop 43 buffer in
    record { named = named; whole = omega (arith, cut, head); limit = size.limit; ready = λ of. absurd (let no : false ≡ true = of in cc) }

-- ---- what stays prepared

-- where the secrets and the settings stay
pub prepared_kept : (repo now : RepoState) (id : List ℕ) (is_blob : Bool) (buffer : List ℕ) → now.keys ≡ repo.keys → now.config ≡ repo.config
    → IsPrepared repo id is_blob buffer → IsPrepared now id is_blob buffer
prepared_kept repo now id is_blob buffer keys config h = record {
  named = subst (λ (k : Keys). id ≡ content_id k (content_in k is_blob buffer)) (sym keys) h.named;
  whole = subst (λ (k : Keys). length buffer ≡ 43 + length (content_in k is_blob buffer)) (sym keys) h.whole;
  limit = h.limit;
  ready = subst (λ (k : Keys). IsReady k (mode_of now.config) is_blob buffer) (sym keys)
      (subst (λ (s : Config). IsReady repo.keys (mode_of s) is_blob buffer) (sym config) h.ready);
}

-- where another content was added
pub prepared_behind : (repo now : RepoState) (other : List ℕ) (new : Bool) (id : List ℕ) (is_blob : Bool) (buffer : List ℕ) → Learns repo other new now
    → IsPrepared repo id is_blob buffer → IsPrepared now id is_blob buffer
prepared_behind repo now other false id is_blob buffer learns h =
    prepared_kept repo now id is_blob buffer (ap (λ (r : RepoState). r.keys) learns) (ap (λ (r : RepoState). r.config) learns) h
prepared_behind repo now other true id is_blob buffer learns h =
    prepared_kept repo now id is_blob buffer (ap (λ (r : RepoState). r.keys) learns.1) (ap (λ (r : RepoState). r.config) learns.1) h

-- ---- sealed again

-- a blob of the counter blocks that are wanted is as it is to be
pub blob_kept : (keys : Keys) (mode : Mode) (first : ℕ) (is_blob : Bool) (buffer : List ℕ) → is_blob ≡ true → nonce_of buffer ≡ first
    → IsReady keys mode is_blob buffer → IsSealed keys mode first (opened_in keys is_blob buffer) buffer
blob_kept keys mode first false buffer is same ready = absurd (let no : false ≡ true = is in cc)
blob_kept keys mode first true buffer is same ready =
    let h = ready is in
    subst (λ (n : ℕ). IsSealed keys mode n (decrypted keys buffer) buffer) same h

pub opened_blob : (keys : Keys) (is_blob : Bool) (buffer now : List ℕ) → is_blob ≡ true → now ≡ decrypted keys buffer
    → drop 43 now ≡ content_in keys is_blob buffer
opened_blob keys false buffer now is same = absurd (let no : false ≡ true = is in cc)
opened_blob keys true buffer now is same = ap (drop 43) same

pub opened_plain : (keys : Keys) (is_blob : Bool) (buffer now : List ℕ) → is_blob ≡ false → now ≡ buffer → drop 43 now ≡ content_in keys is_blob buffer
opened_plain keys false buffer now is same = ap (drop 43) same
opened_plain keys true buffer now is same = absurd (let no : true ≡ false = is in cc)

-- ---- buffers in a row

bytes_front : (some more : List (Vec ℕ Global)) (k : ℕ) → k < length some → bytes_at (some ++ more) k ≡ bytes_at some k
bytes_front [] more k low = absurd (omega arith)
bytes_front (one ∷ some) more zero low = refl
bytes_front (one ∷ some) more (suc k) low = bytes_front some more k (omega arith)

bytes_behind : (some other more : List (Vec ℕ Global)) (k : ℕ) → length some ≡ length other → length some ≤ k
    → bytes_at (some ++ more) k ≡ bytes_at (other ++ more) k
bytes_behind [] [] more k same behind = refl
bytes_behind [] (two ∷ other) more k same behind = absurd (omega (arith, same))
bytes_behind (one ∷ some) [] more k same behind = absurd (omega (arith, same))
bytes_behind (one ∷ some) (two ∷ other) more zero same behind = absurd (omega arith)
bytes_behind (one ∷ some) (two ∷ other) more (suc k) same behind = bytes_behind some other more k (omega (arith, same)) (omega arith)

-- the first of these buffers were sealed, and the others are as they were
pub prepares_each : (repo : RepoState) (nonces : List ℕ) (buffers front : List (Vec ℕ Global)) (ids : List (List ℕ)) (count k : ℕ)
    → count ≤ length buffers → length front ≡ length (take count buffers)
    → ((j : ℕ) → j < length (take count buffers) → IsSealed repo.keys (mode_of repo.config) (slice_index nonces j) (bytes_at (take count buffers) j)
    (bytes_at front j))
    → k < length buffers → HasSize (bytes_at buffers k) → id_at ids k ≡ content_id repo.keys (drop 43 (bytes_at buffers k))
    → Prepares repo (bytes_at buffers k) (id_at ids k) (nat_lt k count) (bytes_at (front ++ drop count buffers) k)
prepares_each repo nonces buffers front ids count k few same each low size named =
    let whole : take count buffers ++ drop count buffers ≡ buffers = take-append-drop count buffers in
    elim (cases_lt k count) [
      | inl below ↦
          let low_front : k < length (take count buffers) = omega (arith, length-take count buffers) in
          let was : bytes_at (take count buffers) k ≡ bytes_at buffers k =
          sym (bytes_front (take count buffers) (drop count buffers) k low_front) ∙ ap (λ (bs : List (Vec ℕ Global)). bytes_at bs k) whole in
          let now : bytes_at front k ≡ bytes_at (front ++ drop count buffers) k =
          sym (bytes_front front (drop count buffers) k (omega (arith, same, low_front))) in
          let sealed = subst (λ (before : List ℕ). IsSealed repo.keys (mode_of repo.config) (slice_index nonces k) before (bytes_at front k)) was (each k
          low_front) in
          subst (λ (is : Bool). Prepares repo (bytes_at buffers k) (id_at ids k) is (bytes_at (front ++ drop count buffers) k)) (sym (lt-ltb k count below))
          (subst (λ (after : List ℕ). Prepares repo (bytes_at buffers k) (id_at ids k) true after) now
          (prepares_blob repo (slice_index nonces k) (bytes_at buffers k) (id_at ids k) (bytes_at front k) size named sealed))
      | inr behind ↦
          let same_there : bytes_at (front ++ drop count buffers) k ≡ bytes_at buffers k =
          bytes_behind front (take count buffers) (drop count buffers) k same (omega (arith, same, length-take count buffers))
          ∙ ap (λ (bs : List (Vec ℕ Global)). bytes_at bs k) whole in
          subst (λ (is : Bool). Prepares repo (bytes_at buffers k) (id_at ids k) is (bytes_at (front ++ drop count buffers) k)) (sym (le-ltb k count behind))
          (subst (λ (after : List ℕ). Prepares repo (bytes_at buffers k) (id_at ids k) false after) (sym same_there)
          (record { prepared = prepared_plain repo (id_at ids k) (bytes_at buffers k) size named; content = refl }))
    ]

-- the ids of the first texts
pub ids_made : (keys : Keys) (texts : List (Bor (List ℕ))) (count k : ℕ) → count ≤ length texts → k < count
    → id_at (map (λ text. content_id keys text.now) (take count texts)) k ≡ content_id keys (nth_text texts k)
ids_made keys texts zero k fits low = absurd (omega arith)
ids_made keys [] (suc count) k fits low = absurd (omega arith)
ids_made keys (text ∷ texts) (suc count) zero fits low = refl
ids_made keys (text ∷ texts) (suc count) (suc k) fits low = ids_made keys texts count k (omega arith) (omega arith)

-- what holds of the number in each place before one, and of the number that is noted there
pub noted_more : (numbers : List ℕ) (place number : ℕ) (P : ℕ → ℕ → Type 0) → place < length numbers
    → ((k : ℕ) → k < place → P k (slice_index numbers k)) → P place number
    → (k : ℕ) → k < place + 1 → P k (slice_index (set numbers place number) k)
noted_more numbers place number P low below here =
    below_more (λ k. P k (slice_index (set numbers place number) k)) place
    (λ k h. subst (P k) (sym (get_or-set_other numbers place k number 0 (omega arith))) (below k h))
    (subst (P place) (sym (get_or-set_same numbers place number 0 low)) here)

pub sealable_from : (free behind : ℕ) (buffer : List ℕ) → HasSize buffer → behind ≡ free + blocks (length buffer - 43) → behind ≤ 18446744073709551615
    → IsSealable free buffer
sealable_from free behind buffer size is most = record { head = size.head; limit = size.limit; blocks = omega (arith, is, most) }

-- ---- texts in a row

nth_text-here : (texts : List (Bor (List ℕ))) (k : ℕ) (text : Bor (List ℕ)) → k < length texts → nth_text (set texts k text) k ≡ text.now
nth_text-here texts k text low =
    let now = λ (x : Bor (List ℕ)). x.now in
    ap (λ (xs : List (List ℕ)). get_or xs k []) (map-set now texts k text)
    ∙ get_or-set_same (map now texts) k text.now [] (omega (arith, length-map texts now))

nth_text-other : (texts : List (Bor (List ℕ))) (k j : ℕ) (text : Bor (List ℕ)) → j ≢ k → nth_text (set texts k text) j ≡ nth_text texts j
nth_text-other texts k j text other =
    let now = λ (x : Bor (List ℕ)). x.now in
    ap (λ (xs : List (List ℕ)). get_or xs j []) (map-set now texts k text) ∙ get_or-set_other (map now texts) k j text.now [] other

-- what holds of the text in each place before one, and of the text that is put there
pub put_more : (texts : List (Bor (List ℕ))) (place : ℕ) (text : Bor (List ℕ)) (P : ℕ → List ℕ → Type 0) → place < length texts
    → ((k : ℕ) → k < place → P k (nth_text texts k)) → P place text.now
    → (k : ℕ) → k < place + 1 → P k (nth_text (set texts place text) k)
put_more texts place text P low below here =
    below_more (λ k. P k (nth_text (set texts place text) k)) place
    (λ k h. subst (P k) (sym (nth_text-other texts place k text (omega arith))) (below k h))
    (subst (P place) (sym (nth_text-here texts place text low)) here)

-- ---- the first of some

taken_number : (numbers : List ℕ) (count k : ℕ) → k < count → slice_index (take count numbers) k ≡ slice_index numbers k
taken_number numbers zero k low = absurd (omega arith)
taken_number [] (suc count) k low = refl
taken_number (one ∷ rest) (suc count) zero low = refl
taken_number (one ∷ rest) (suc count) (suc k) low = taken_number rest count k (omega arith)

taken_bytes : (buffers : List (Vec ℕ Global)) (count k : ℕ) → k < count → bytes_at (take count buffers) k ≡ bytes_at buffers k
taken_bytes buffers zero k low = absurd (omega arith)
taken_bytes [] (suc count) k low = refl
taken_bytes (one ∷ rest) (suc count) zero low = refl
taken_bytes (one ∷ rest) (suc count) (suc k) low = taken_bytes rest count k (omega arith)

pub sealable_first : (numbers : List ℕ) (buffers : List (Vec ℕ Global)) (count : ℕ)
    → ((k : ℕ) → k < count → IsSealable (slice_index numbers k) (bytes_at buffers k))
    → (k : ℕ) → k < length (take count buffers) → IsSealable (slice_index (take count numbers) k) (bytes_at (take count buffers) k)
sealable_first numbers buffers count all k low =
    let below : k < count = omega (arith, low, length-take count buffers) in
    subst (λ (n : ℕ). IsSealable n (bytes_at (take count buffers) k)) (sym (taken_number numbers count k below))
    (subst (IsSealable (slice_index numbers k)) (sym (taken_bytes buffers count k below)) (all k below))
