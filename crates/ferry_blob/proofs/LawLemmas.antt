-- When each fault comes, and which counter blocks a blob takes.
use Rattle.std.proofs.Common.{◌≡◌, ◌≢◌, ◌⊎◌, ◌↔◌, ℕ, ◌+◌, ◌-◌, ◌/◌, ◌%◌, ◌^◌, ◌<◌, ◌≤◌, Bool, true, false, List, ◌++◌, length, take, drop, replicate}
use Rattle.std.proofs.Common.{slice_index, Some, None, refl, sym, ◌∙◌, inl, inr, arith}
use Rattle.std.specs.Bool.{Decides}
use Rattle.std.specs.Int.{w64, to_be_bytes}
use Rattle.std.proofs.lemmas.Bool.{le-ltb, lt-ltb, ltb-false, ltb-true}
use Rattle.std.proofs.lemmas.List.{length-drop}
use Rattle.ferry_aes.specs.KeyExpansion.{key_expansion}
use Rattle.ferry_aes.specs.CounterMode.{counter_block, ctr, key_stream, output_blocks, xor_lists}
use Rattle.ferry_mac.specs.Hmac.{hmac256}
use Rattle.ferry_mac.specs.declared.keys.Keys.{Keys}
use Rattle.ferry_base.specs.Limits.{zero_id}
use Rattle.ferry_blob.specs.Blob.{IsAuthentic, IsBlockOf, IsType, OpensTo, blob_fault, block_count, blocks, content_id, has_mac, has_type, is_named, is_plain}
use Rattle.ferry_blob.specs.Blob.{no_compression, nonce_of, plaintext, sealed}
use Rattle.ferry_blob.specs.declared.fault.BlobFault.TheVariants.{Kind, Short, Mac, Compressed, Id}
use Rattle.ferry_blob.specs.declared.mode.Mode.{Mode}
use Rattle.ferry_blob.proofs.BlobLemmas.{content_is, fault_by_name, fault_compressed, fault_kind, fault_mac, has_mac-Decides, has_type-Decides, opens_no_fault}
use Rattle.ferry_blob.proofs.BlobLemmas.{is_named-Decides, is_plain-Decides, opened_at, told_by}
use Rattle.ferry_blob.proofs.SealLemmas.{length-sealed, sealed-nonce}

-- ---- a test that fails, and a fact that doesn't hold

refuted : (P : Type 0) (b : Bool) → Decides b P → b ≡ false → P → ⊥
refuted P true told off p = absurd cc
refuted P false told off p = absurd (let e : false ≡ true = told.1 p in cc)

off_by : (P : Type 0) (b : Bool) → Decides b P → (P → ⊥) → b ≡ false
off_by P true told other = absurd (other (told.0 refl))
off_by P false told other = refl

neither : {P Q : Type 0} → (P → ⊥) → (Q → ⊥) → P ⊎ Q → ⊥
neither p q (inl x) = p x
neither p q (inr y) = q y

-- ---- OpensTo

pub one_content : (keys : Keys) (id blob a b : List ℕ) → OpensTo keys id blob a → OpensTo keys id blob b → a ≡ b
one_content keys id blob a b h k = content_is keys id blob a h ∙ sym (content_is keys id blob b k)

pub opens_zero : (keys : Keys) (id blob content : List ℕ) → OpensTo keys id blob content → OpensTo keys zero_id blob content
opens_zero keys id blob content h = record { size = h.size; kind = h.kind; mac = h.mac; plain = h.plain; named = inl refl }

-- ---- when each fault comes

pub short_is : (keys : Keys) (id blob : List ℕ) → blob_fault keys id blob ≡ Some Short → length blob < 43
short_is keys id blob e = ltb-true (length blob) 43 (told_by keys id blob (Some Short) e)

pub kind_is : (keys : Keys) (id blob : List ℕ) → blob_fault keys id blob ≡ Some Kind → (43 ≤ length blob) × (slice_index blob 0 ≢ 3) × (slice_index blob 0 ≢ 0)
kind_is keys id blob e =
    let told = told_by keys id blob (Some Kind) e in
    let other = refuted _ (has_type (slice_index blob 0)) (has_type-Decides (slice_index blob 0)) told.1 in
    (ltb-false (length blob) 43 told.0, λ repokey. other (inl repokey), λ keyfile. other (inr keyfile))

pub is_kind : (keys : Keys) (id blob : List ℕ) → 43 ≤ length blob → slice_index blob 0 ≢ 3 → slice_index blob 0 ≢ 0 → blob_fault keys id blob ≡ Some Kind
is_kind keys id blob room repokey keyfile =
    fault_kind keys id blob room (off_by _ (has_type (slice_index blob 0)) (has_type-Decides (slice_index blob 0)) (neither repokey keyfile))

pub mac_is : (keys : Keys) (id blob : List ℕ) → blob_fault keys id blob ≡ Some Mac
    → (43 ≤ length blob) × IsType (slice_index blob 0) × (take 32 (drop 1 blob) ≢ hmac256 keys.enc_hmac_key (drop 33 blob))
mac_is keys id blob e =
    let told = told_by keys id blob (Some Mac) e in
    (ltb-false (length blob) 43 told.0, (has_type-Decides (slice_index blob 0)).0 told.1, refuted _ (has_mac keys blob) (has_mac-Decides keys blob) told.2)

pub is_mac : (keys : Keys) (id blob : List ℕ) → 43 ≤ length blob → IsType (slice_index blob 0)
    → take 32 (drop 1 blob) ≢ hmac256 keys.enc_hmac_key (drop 33 blob)
    → blob_fault keys id blob ≡ Some Mac
is_mac keys id blob room kind other =
    fault_mac keys id blob room ((has_type-Decides (slice_index blob 0)).1 kind) (off_by _ (has_mac keys blob) (has_mac-Decides keys blob) other)

authentic_by : (keys : Keys) (blob : List ℕ) → 43 ≤ length blob → IsType (slice_index blob 0) → has_mac keys blob ≡ true → IsAuthentic keys blob
authentic_by keys blob room kind mac = record { size = room; kind = kind; mac = (has_mac-Decides keys blob).0 mac }

pub compressed_is : (keys : Keys) (id blob : List ℕ) → blob_fault keys id blob ≡ Some Compressed
    → IsAuthentic keys blob × (take 2 (plaintext keys blob) ≢ no_compression)
compressed_is keys id blob e =
    let told = told_by keys id blob (Some Compressed) e in (
      authentic_by keys blob (ltb-false (length blob) 43 told.0) ((has_type-Decides (slice_index blob 0)).0 told.1) told.2,
      refuted _ (is_plain keys blob) (is_plain-Decides keys blob) told.3,
    )

pub is_compressed : (keys : Keys) (id blob : List ℕ) → IsAuthentic keys blob → take 2 (plaintext keys blob) ≢ no_compression
    → blob_fault keys id blob ≡ Some Compressed
is_compressed keys id blob right other =
    fault_compressed keys id blob right.size ((has_type-Decides (slice_index blob 0)).1 right.kind) ((has_mac-Decides keys blob).1 right.mac)
    (off_by _ (is_plain keys blob) (is_plain-Decides keys blob) other)

-- the zero id names each content
pub zero_named : (keys : Keys) (content : List ℕ) → is_named keys zero_id content ≡ true
zero_named keys content = (is_named-Decides keys zero_id content).1 (inl refl)

pub zero_unrefused : (keys : Keys) (blob : List ℕ) → blob_fault keys zero_id blob ≡ Some Id → ⊥
zero_unrefused keys blob e =
    let content = drop 2 (plaintext keys blob) in
    refuted _ (is_named keys zero_id content) (is_named-Decides keys zero_id content) (told_by keys zero_id blob (Some Id) e).4 (inl refl)

pub id_is : (keys : Keys) (id blob : List ℕ) → blob_fault keys id blob ≡ Some Id
    → OpensTo keys zero_id blob (drop 2 (plaintext keys blob)) × (id ≢ zero_id) × (id ≢ content_id keys (drop 2 (plaintext keys blob)))
id_is keys id blob e =
    let content = drop 2 (plaintext keys blob) in
    let told = told_by keys id blob (Some Id) e in
    let other = refuted _ (is_named keys id content) (is_named-Decides keys id content) told.4 in
    let none =
    fault_by_name keys zero_id blob true (ltb-false (length blob) 43 told.0) told.1 told.2 told.3
    (zero_named keys content) in
    (opened_at keys zero_id blob content none refl, λ zero. other (inl zero), λ own. other (inr own))

pub is_id : (keys : Keys) (id blob : List ℕ) → OpensTo keys zero_id blob (drop 2 (plaintext keys blob)) → id ≢ zero_id
    → id ≢ content_id keys (drop 2 (plaintext keys blob))
    → blob_fault keys id blob ≡ Some Id
is_id keys id blob h zero own =
    let content = drop 2 (plaintext keys blob) in
    let told = told_by keys zero_id blob None (opens_no_fault keys zero_id blob content h) in
    fault_by_name keys id blob false h.size told.1 told.2 told.3 (off_by _ (is_named keys id content) (is_named-Decides keys id content) (neither zero own))

-- ---- counter blocks

pub first_block : (nonce : ℕ) → nonce < 2 ^ 64 → counter_block nonce ≡ replicate 8 0 ++ to_be_bytes w64 nonce
unfolding counter_block
first_block nonce small =
    let whole : nonce % 2 ^ 128 ≡ nonce = omega arith in
    let byte8 : nonce / 256 ^ 8 % 256 ≡ 0 = omega arith in
    let byte9 : nonce / 256 ^ 9 % 256 ≡ 0 = omega arith in
    let byte10 : nonce / 256 ^ 10 % 256 ≡ 0 = omega arith in
    let byte11 : nonce / 256 ^ 11 % 256 ≡ 0 = omega arith in
    let byte12 : nonce / 256 ^ 12 % 256 ≡ 0 = omega arith in
    let byte13 : nonce / 256 ^ 13 % 256 ≡ 0 = omega arith in
    let byte14 : nonce / 256 ^ 14 % 256 ≡ 0 = omega arith in
    let byte15 : nonce / 256 ^ 15 % 256 ≡ 0 = omega arith in
    rw (whole, byte8, byte9, byte10, byte11, byte12, byte13, byte14, byte15) refl

pub block_outputs : (keys : Keys) (blob : List ℕ) → 43 ≤ length blob
    → plaintext keys blob
    ≡ xor_lists (drop 41 blob) (take (length blob - 41) (output_blocks (key_expansion keys.enc_key) (nonce_of blob) (block_count blob)))
unfolding plaintext ctr key_stream block_count
block_outputs keys blob room =
    let many = le-ltb (length blob) 43 room in
    let e : length (drop 41 blob) ≡ length blob - 41 = length-drop 41 blob in
    rw (many, e) refl

pub no_blocks : (blob : List ℕ) (number : ℕ) → length blob < 43 → IsBlockOf blob number → ⊥
unfolding block_count
no_blocks blob number few h =
    let none : block_count blob ≡ 0 = rw (lt-ltb (length blob) 43 few) refl in
    omega (arith, h.first, h.below)

pub counted : (blob : List ℕ) (content : ℕ) → length blob ≡ 43 + content → block_count blob ≡ blocks content
unfolding block_count blocks
counted blob content long =
    let many = le-ltb (length blob) 43 (omega arith) in
    rw many (omega arith)

pub sealed_count : (keys : Keys) (mode : Mode) (nonce : ℕ) (content : List ℕ) → block_count (sealed keys mode nonce content) ≡ blocks (length content)
sealed_count keys mode nonce content = counted (sealed keys mode nonce content) (length content) (length-sealed keys mode nonce content)

pub block_of_sealed : (keys : Keys) (mode : Mode) (nonce number : ℕ) (content : List ℕ) → nonce < 2 ^ 64
    → (IsBlockOf (sealed keys mode nonce content) number) ↔ ((nonce ≤ number) × (number < nonce + blocks (length content)))
block_of_sealed keys mode nonce number content small =
    let n = sealed-nonce keys mode nonce content small in
    let m = sealed_count keys mode nonce content in
    (λ h. (omega (arith, h.first), omega (arith, h.below)), λ h. record { first = omega (arith, h.0); below = omega (arith, h.1) })
