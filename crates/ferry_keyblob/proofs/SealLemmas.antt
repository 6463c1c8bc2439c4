-- What is sealed can be written.
use Rattle.std.proofs.Common.{◌≡◌, ℕ, ◌≤◌, List, length, codes, pos, subst, arith}
use Rattle.ferry_base.specs.Limits.{content_limit}
use Rattle.ferry_aes.specs.CounterMode.{ctr}
use Rattle.ferry_aes.proofs.CallerLemmas.{length-ctr}
use Rattle.ferry_mac.specs.Hmac.{hmac256}
use Rattle.ferry_msgpack.specs.Tree.{number, raw, table, no_pairs}
use Rattle.ferry_msgpack.specs.Writable.{IsWritable}
use Rattle.ferry_fields.proofs.SizeLemmas.{AreOrdered, no_pairs_good, good_writable, ordered_writable, put_good, put_ordered, small_number}
use Rattle.ferry_fields.proofs.SizeLemmas.{writable_pairs_ordered}
use Rattle.ferry_keyblob.specs.Opening.{Opened}
use Rattle.ferry_keyblob.specs.Sealing.{IsSealable, envelope_pairs, more_of, packed, packed_pairs}

pub packed_writable : (key : Opened) → IsSealable key → IsWritable (table (packed_pairs key))
unfolding packed packed_pairs
packed_writable key sealable =
    let more = more_of key in
    let good : AreOrdered 63 more = writable_pairs_ordered more (subst IsWritable sealable.more sealable.writable) in
    let g1 = put_ordered 63 (codes "chunk_seed") (number key.chunk_seed) more (omega arith) sealable.seed good in
    let g2 = put_ordered 63 (codes "id_key") (raw key.keys.id_key) _ (omega arith) tt g1 in
    let g3 = put_ordered 63 (codes "enc_hmac_key") (raw key.keys.enc_hmac_key) _ (omega arith) tt g2 in
    let g4 = put_ordered 63 (codes "enc_key") (raw key.keys.enc_key) _ (omega arith) tt g3 in
    let g5 = put_ordered 63 (codes "repository_id") (raw key.repository_id) _ (omega arith) tt g4 in
    let g6 = put_ordered 63 (codes "version") (number (pos 1)) _ (omega arith) (small_number 1 (omega arith)) g5 in
    let size = sealable.size in
    ordered_writable _ g6 (omega (arith, size))

pub envelope_writable : (kek salt : List ℕ) (iterations : ℕ) (text : List ℕ) → length salt ≡ 32 → length (hmac256 kek text) ≡ 32 → iterations ≤ 10000000
    → length text ≤ content_limit → IsWritable (table (envelope_pairs kek salt iterations text))
unfolding envelope_pairs
envelope_writable kek salt iterations text salted hashed most size =
    let sealed : length (ctr kek 0 text) ≡ length text = length-ctr kek 0 text in
    let g1 = put_good (codes "data") (raw (ctr kek 0 text)) no_pairs (omega arith) (omega arith) (omega (arith, sealed, size)) no_pairs_good in
    let g2 = put_good (codes "hash") (raw (hmac256 kek text)) _ (omega arith) (omega arith) (omega (arith, hashed)) g1 in
    let g3 = put_good (codes "salt") (raw salt) _ (omega arith) (omega arith) (omega (arith, salted)) g2 in
    let g4 = put_good (codes "iterations") (number (pos iterations)) _ (omega arith) (omega arith) (small_number iterations (omega arith)) g3 in
    let g5 = put_good (codes "algorithm") (raw (codes "sha256")) _ (omega arith) (omega arith) (omega arith) g4 in
    let g6 = put_good (codes "version") (number (pos 1)) _ (omega arith) (omega arith) (small_number 1 (omega arith)) g5 in
    good_writable _ g6 (omega arith)
