-- What a crate above cites of blobs, beside `blob_laws` and `block_laws`.
use Rattle.std.proofs.Common.{◌≡◌, ◌≢◌, ℕ, zero, suc, ◌+◌, ◌-◌, ◌^◌, ◌<◌, ◌≤◌, true, List, ◌++◌, length, Some, Result, Ok, Err, ap, ◌∙◌, inl, inr, refl}
use Rattle.std.proofs.Common.{arith, length-append}
use Rattle.std.proofs.lemmas.Bool.{cases_Bool, ltb-false}
use Rattle.ferry_mac.specs.declared.keys.Keys.{Keys}
use Rattle.ferry_base.specs.Limits.{blob_limit, content_limit, zero_id}
use Rattle.ferry_blob.specs.Batch.{IsOpened, IsSealable}
use Rattle.ferry_blob.specs.Blob.{OpensTo, blob_fault, blocks, content_id, is_decrypted, no_compression, plaintext}
use Rattle.ferry_blob.specs.declared.fault.BlobFault.{BlobFault}
use Rattle.ferry_blob.specs.declared.fault.BlobFault.TheVariants.{Kind, Short, Mac, Compressed, Id}
use Rattle.ferry_blob.proofs.BatchLemmas.{room_of}
use Rattle.ferry_blob.proofs.BlobLemmas.{length-decrypted, length-plaintext, told_by}
use Rattle.ferry_mac.proofs.CallerLemmas.{length-hmac256}

-- ---- content_id

pub length-content_id : (keys : Keys) (content : List ℕ) → length (content_id keys content) ≡ 32
unfolding content_id
length-content_id keys content = length-hmac256 keys.id_key content

-- ---- OpensTo

-- a content has 43 bytes fewer than its blob
pub length-opened : (keys : Keys) (id blob content : List ℕ) → OpensTo keys id blob content → length blob ≡ 43 + length content
length-opened keys id blob content h =
    let text : length (plaintext keys blob) ≡ length (no_compression ++ content) = ap length h.plain in
    let joined = length-append no_compression content in
    let size = h.size in
    omega (arith, length-plaintext keys blob)

-- under another id than the zero id stands the content of that id
pub opened_id : (keys : Keys) (id blob content : List ℕ) → OpensTo keys id blob content → id ≢ zero_id → id ≡ content_id keys content
opened_id keys id blob content h other =
    elim h.named [
      | inl manifest ↦ absurd (other manifest)
      | inr own ↦ own
    ]

-- what opens under any id opens under that of its content
pub opens_own : (keys : Keys) (id blob content : List ℕ) → OpensTo keys id blob content → OpensTo keys (content_id keys content) blob content
opens_own keys id blob content h = record { size = h.size; kind = h.kind; mac = h.mac; plain = h.plain; named = inr refl }

-- ---- blocks

-- each blob takes a counter block
pub blocks_from : (content : ℕ) → 1 ≤ blocks content
unfolding blocks
blocks_from content = omega arith

-- a longer content takes no fewer
pub blocks_grow : (small large : ℕ) → small ≤ large → blocks small ≤ blocks large
unfolding blocks
blocks_grow small large less = omega arith

-- the most that a blob in one entry of a segment takes
pub blocks_most : (content : ℕ) → content ≤ content_limit → blocks content ≤ 1310715
unfolding blocks
blocks_most content less = omega arith

-- ---- up to four blobs

-- what is refused behind the decryption has room for each field
decrypted_room : (keys : Keys) (id before : List ℕ) (fault : BlobFault) → is_decrypted fault ≡ true → blob_fault keys id before ≡ Some fault
    → 41 ≤ length before
decrypted_room keys id before Short late is = absurd (cc)
decrypted_room keys id before Kind late is = absurd (cc)
decrypted_room keys id before Mac late is = absurd (cc)
decrypted_room keys id before Compressed late is =
    let room = ltb-false (length before) 43 (told_by keys id before (Some Compressed) is).0 in
    omega arith
decrypted_room keys id before Id late is =
    let room = ltb-false (length before) 43 (told_by keys id before (Some Id) is).0 in
    omega arith

-- opening leaves as many bytes
pub length-left : (keys : Keys) (id before after : List ℕ) (answer : Result (Unit {0}) BlobFault) → IsOpened keys id before answer after
    → length after ≡ length before
length-left keys id before after (Ok done) h =
    ap length h.decrypted ∙ length-decrypted keys before (let room = room_of keys id before h.ok in omega arith)
length-left keys id before after (Err fault) h =
    elim (cases_Bool (is_decrypted fault)) [
      | inl late ↦ ap length (h.refused late) ∙ length-decrypted keys before (decrypted_room keys id before fault late h.fault)
      | inr early ↦ ap length (h.kept early)
    ]

-- what holds of each of four places
pub four_places : (P : ℕ → Type 0) → P 0 → P 1 → P 2 → P 3 → (k : ℕ) → k < 4 → P k
four_places P a b c d zero few = a
four_places P a b c d (suc zero) few = b
four_places P a b c d (suc (suc zero)) few = c
four_places P a b c d (suc (suc (suc zero))) few = d
four_places P a b c d (suc (suc (suc (suc k)))) few = absurd (omega arith)

-- a buffer with room for each field may be sealed from a nonce that is not near the end of 64 bits
pub sealable_by : (nonce : ℕ) (buffer : List ℕ) → 43 ≤ length buffer → length buffer ≤ blob_limit → nonce + 1310715 ≤ 2 ^ 64 - 1 → IsSealable nonce buffer
sealable_by nonce buffer room limit far =
    let most = blocks_most (length buffer - 43) (omega arith) in
    record { head = room; limit = limit; blocks = omega (arith, most) }
