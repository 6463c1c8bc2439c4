-- What is sealed opens, and has the nonce that was given.
use Rattle.std.proofs.Common.{◌≡◌, ◌⊎◌, ℕ, ◌+◌, ◌^◌, ◌<◌, ◌≤◌, List, ◌∷◌, ◌++◌, length, take, drop, slice_index, refl, sym, ap, subst, ◌∙◌}
use Rattle.std.proofs.Common.{inl, inr, arith, length-append}
use Rattle.std.specs.Int.{w64, to_be_bytes, from_be_bytes}
use Rattle.std.proofs.lemmas.List.{take_at, drop_at, drop-drop, length-drop}
use Rattle.std.proofs.lemmas.Nat.{from_be_bytes-to_be_bytes_8}
use Rattle.ferry_aes.specs.CounterMode.{ctr}
use Rattle.ferry_aes.proofs.CallerLemmas.{length-ctr, ctr-ctr}
use Rattle.ferry_mac.specs.Hmac.{hmac256}
use Rattle.ferry_mac.proofs.CallerLemmas.{length-hmac256}
use Rattle.ferry_mac.specs.declared.keys.Keys.{Keys}
use Rattle.ferry_base.specs.Limits.{zero_id}
use Rattle.ferry_blob.specs.Batch.{IsSealed}
use Rattle.ferry_blob.specs.Blob.{IsType, OpensTo, authenticated, content_id, no_compression, nonce_of, plaintext, sealed, type_of}
use Rattle.ferry_blob.specs.declared.mode.Mode.{Mode}
use Rattle.ferry_blob.specs.declared.mode.Mode.TheVariants.{Repokey, Keyfile}

-- ---- authenticated

-- the nonce has 8 bytes
nonce_bytes : (nonce : ℕ) → length (to_be_bytes w64 nonce) ≡ 8
nonce_bytes nonce = refl

pub length-authenticated : (key : List ℕ) (nonce : ℕ) (content : List ℕ) → length (authenticated key nonce content) ≡ 10 + length content
unfolding authenticated
length-authenticated key nonce content =
    let text = no_compression ++ content in
    let joined = length-append (to_be_bytes w64 nonce) (ctr key nonce text) in
    let part = length-append no_compression content in
    omega (arith, length-ctr key nonce text)

-- what has such a part behind its first 33 bytes has room for each field
pub room_behind : (key : List ℕ) (nonce : ℕ) (content blob : List ℕ) → drop 33 blob ≡ authenticated key nonce content → 43 ≤ length blob
room_behind key nonce content blob is =
    let same = ap length is in
    omega (arith, length-authenticated key nonce content, length-drop 33 blob)

drop-authenticated : (key : List ℕ) (nonce : ℕ) (content : List ℕ) → drop 8 (authenticated key nonce content) ≡ ctr key nonce (no_compression ++ content)
unfolding authenticated
drop-authenticated key nonce content = drop_at (to_be_bytes w64 nonce) (ctr key nonce (no_compression ++ content)) 8 refl

take-authenticated : (key : List ℕ) (nonce : ℕ) (content : List ℕ) → take 8 (authenticated key nonce content) ≡ to_be_bytes w64 nonce
unfolding authenticated
take-authenticated key nonce content = take_at (to_be_bytes w64 nonce) (ctr key nonce (no_compression ++ content)) 8 refl

-- ---- sealed

pub length-sealed : (keys : Keys) (mode : Mode) (nonce : ℕ) (content : List ℕ) → length (sealed keys mode nonce content) ≡ 43 + length content
unfolding sealed
length-sealed keys mode nonce content =
    let part = authenticated keys.enc_key nonce content in
    let mac = hmac256 keys.enc_hmac_key part in
    let joined = length-append mac part in
    omega (arith, length-hmac256 keys.enc_hmac_key part, length-authenticated keys.enc_key nonce content)

sealed-part : (keys : Keys) (mode : Mode) (nonce : ℕ) (content : List ℕ) → drop 33 (sealed keys mode nonce content) ≡ authenticated keys.enc_key nonce content
unfolding sealed
sealed-part keys mode nonce content =
    let part = authenticated keys.enc_key nonce content in
    drop_at (hmac256 keys.enc_hmac_key part) part 32 (length-hmac256 keys.enc_hmac_key part)

sealed-mac : (keys : Keys) (mode : Mode) (nonce : ℕ) (content : List ℕ)
    → take 32 (drop 1 (sealed keys mode nonce content)) ≡ hmac256 keys.enc_hmac_key (authenticated keys.enc_key nonce content)
unfolding sealed
sealed-mac keys mode nonce content =
    let part = authenticated keys.enc_key nonce content in
    take_at (hmac256 keys.enc_hmac_key part) part 32 (length-hmac256 keys.enc_hmac_key part)

pub sealed-kind : (keys : Keys) (mode : Mode) (nonce : ℕ) (content : List ℕ) → slice_index (sealed keys mode nonce content) 0 ≡ type_of mode
unfolding sealed
sealed-kind keys mode nonce content = refl

type_of-IsType : (mode : Mode) → IsType (type_of mode)
type_of-IsType Repokey = inl refl
type_of-IsType Keyfile = inr refl

pub sealed-nonce : (keys : Keys) (mode : Mode) (nonce : ℕ) (content : List ℕ) → nonce < 2 ^ 64 → nonce_of (sealed keys mode nonce content) ≡ nonce
unfolding nonce_of
sealed-nonce keys mode nonce content small =
    ap (λ part. from_be_bytes w64 (take 8 part)) (sealed-part keys mode nonce content) ∙ ap (from_be_bytes w64) (take-authenticated keys.enc_key nonce content)
    ∙ from_be_bytes-to_be_bytes_8 nonce small

pub sealed-plaintext : (keys : Keys) (mode : Mode) (nonce : ℕ) (content : List ℕ) → nonce < 2 ^ 64
    → plaintext keys (sealed keys mode nonce content) ≡ no_compression ++ content
unfolding plaintext
sealed-plaintext keys mode nonce content small =
    let blob = sealed keys mode nonce content in
    let text : drop 41 blob ≡ ctr keys.enc_key nonce (no_compression ++ content) =
    sym (drop-drop 8 33 blob) ∙ ap (drop 8) (sealed-part keys mode nonce content) ∙ drop-authenticated keys.enc_key nonce content in
    rw (sealed-nonce keys mode nonce content small, text) (ctr-ctr keys.enc_key nonce (no_compression ++ content))

-- what is sealed opens to its content, under the zero id and its own
pub sealed-opens : (keys : Keys) (mode : Mode) (nonce : ℕ) (id content : List ℕ) → nonce < 2 ^ 64 → (id ≡ zero_id) ⊎ (id ≡ content_id keys content)
    → OpensTo keys id (sealed keys mode nonce content) content
sealed-opens keys mode nonce id content small named = record {
  size = omega (arith, length-sealed keys mode nonce content);
  kind = subst IsType (sym (sealed-kind keys mode nonce content)) (type_of-IsType mode);
  mac = sealed-mac keys mode nonce content ∙ ap (hmac256 keys.enc_hmac_key) (sym (sealed-part keys mode nonce content));
  plain = sealed-plaintext keys mode nonce content small;
  named = named;
}

-- ---- what the code puts together

-- a content's nonce and ciphertext, with the type and the MAC in front
pub sealed_whole : (keys : Keys) (mode : Mode) (nonce : ℕ) (before part blob : List ℕ) → nonce < 2 ^ 64
    → drop 33 part ≡ authenticated keys.enc_key nonce (drop 43 before)
    → blob ≡ type_of mode ∷ (hmac256 keys.enc_hmac_key (drop 33 part) ++ drop 33 part)
    → IsSealed keys mode nonce before blob
unfolding sealed
sealed_whole keys mode nonce before part blob small is put =
    let content = drop 43 before in
    let whole : blob ≡ sealed keys mode nonce content =
    put ∙ ap (λ rest. type_of mode ∷ (hmac256 keys.enc_hmac_key rest ++ rest)) is in
    record {
      blob = whole;
      opens = λ id named. subst (λ (text : List ℕ). OpensTo keys id text content) (sym whole) (sealed-opens keys mode nonce id content small named);
      kind = ap (λ (text : List ℕ). slice_index text 0) whole ∙ sealed-kind keys mode nonce content;
      nonce = ap nonce_of whole ∙ sealed-nonce keys mode nonce content small;
    }
