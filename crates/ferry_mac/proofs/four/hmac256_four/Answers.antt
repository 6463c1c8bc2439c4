use Rattle.std.proofs.Common.{◌≡◌, ℕ, ◌<◌, List, [], ◌∷◌, ◌++◌, length, slice_index_or, refl, sym, ap, ◌∙◌, arith}
use Rattle.sha2.specs.Sha256.{digest_bytes, sha256}
use Rattle.ferry_mac.specs.Hmac.{block_key, hmac256, inner_pad, outer_pad, xored_with}
use Rattle.ferry_mac.specs.Lanes.{hashed_behind, lane}
use Rattle.ferry_mac.proofs.FourLemmas.{digest_by_first, hmac_by_digests, length-pad, map_of_four, text_at, text_at-map}
use Rattle.ferry_mac.proofs.four.hmac256_four.Goals as goal

abbrev digests_of : List (List ℕ) → List (List ℕ)
digests_of state =
    digest_bytes (lane state 0) 8 ∷ digest_bytes (lane state 1) 8 ∷ digest_bytes (lane state 2) 8 ∷ digest_bytes (lane state 3) 8 ∷ []

pub returns : goal.returns
returns c =
    let key = c.args.key.now in
    let texts = c.args.texts in
    let block = block_key sha256 64 key in
    let inner = c.padded-inner_block.result in
    let outer = c.padded-outer_block.result in
    let inner_is : inner ≡ xored_with inner_pad block = c.padded-inner_block.ensures.padded ∙ ap (xored_with inner_pad) c.block_of-block.ensures.block in
    let outer_is : outer ≡ xored_with outer_pad block = c.padded-outer_block.ensures.padded ∙ ap (xored_with outer_pad) c.block_of-block.ensures.block in
    let digest : (k : ℕ) → k < 4 → digest_bytes (lane c.hashed-inner.result k) 8 ≡ sha256 (inner ++ text_at texts k) = λ k inside.
    digest_by_first inner (text_at texts k) (lane c.keyed.result k) (lane c.hashed-inner.result k) _
    (ap length inner_is ∙ length-pad key inner_pad) (c.keyed.ensures k inside)
    (c.hashed-inner.ensures k inside ∙ ap (hashed_behind (lane c.keyed.result k)) (text_at-map texts k)) refl in
    let mac : (k : ℕ) → k < 4 → (text : List ℕ) → text ≡ digest_bytes (lane c.hashed-inner.result k) 8
    → lane c.hashed-outer.result k ≡ hashed_behind (lane c.keyed-2.result k) text
    → digest_bytes (lane c.hashed-outer.result k) 8 ≡ hmac256 key (text_at texts k) = λ k inside text taken hashed.
    hmac_by_digests key (text_at texts k) inner outer text _ inner_is outer_is (taken ∙ digest k inside)
    (digest_by_first outer text (lane c.keyed-2.result k) (lane c.hashed-outer.result k) _
    (ap length outer_is ∙ length-pad key outer_pad) (c.keyed-2.ensures k inside) hashed refl) in
    let from : (k : ℕ) → slice_index_or c.digests.result k [] ≡ slice_index_or (digests_of c.hashed-inner.result) k [] =
    λ k. ap (λ ds. slice_index_or ds k []) c.digests.ensures in
    let a = mac 0 (omega arith) _ (from 0) (c.hashed-outer.ensures 0 (omega arith)) in
    let b = mac 1 (omega arith) _ (from 1) (c.hashed-outer.ensures 1 (omega arith)) in
    let d = mac 2 (omega arith) _ (from 2) (c.hashed-outer.ensures 2 (omega arith)) in
    let e = mac 3 (omega arith) _ (from 3) (c.hashed-outer.ensures 3 (omega arith)) in
    record { macs = c.digests-2.ensures ∙ rw (a, b, d, e) (sym (map_of_four (hmac256 key) texts (omega arith))) }
