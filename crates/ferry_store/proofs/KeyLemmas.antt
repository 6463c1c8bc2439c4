-- The key of a new repository can be sealed.
use Rattle.std.proofs.Common.{◌≡◌, ◌≢◌, ℕ, ◌+◌, ◌≤◌, ◌^◌, cond, ltb, neg_ℤ, Bool, true, false, List, [], ◌++◌, length, codes, ℤ, pos, int_lt, Result}
use Rattle.std.proofs.Common.{Ok, Err, IfOk, Vec, Global}
use Rattle.std.proofs.Common.{refl, sym, ◌∙◌, ap, subst, arith}
use Rattle.std.proofs.lemmas.Int.{ints}
use Rattle.std.proofs.lemmas.List.{length-append}
use Rattle.std.specs.Int.{w32, cast_signed, from_be_bytes}
use Rattle.ferry_base.specs.Limits.{content_limit}
use Rattle.ferry_fields.specs.Others.{has_among}
use Rattle.ferry_keyblob.specs.Envelope.{envelope_of}
use Rattle.ferry_keyblob.specs.Opening.{Opened, key_of, key_inside}
use Rattle.ferry_keyblob.specs.Sealing.{IsSealable, envelope_pairs, envelope_text, key_text, more_of, packed, packed_pairs}
use Rattle.ferry_fields.proofs.SizeLemmas.{some_byte}
use Rattle.ferry_keyblob.specs.declared.envelope.Envelope.{Envelope}
use Rattle.ferry_keyblob.specs.declared.fault.KeyFault.{KeyFault}
use Rattle.ferry_mac.specs.Pbkdf2.{pbkdf2}
use Rattle.ferry_msgpack.specs.Shortest.{shortest, shortest_count, shortest_number, shortest_raw, shortest_pairs, raw_head, map_head}
use Rattle.ferry_msgpack.specs.Tree.{Tree, Pairs, flag, number, raw, table, pair, pairs_count, no_pairs}
use Rattle.ferry_msgpack.specs.Writable.{IsNumber}
use Rattle.ferry_store.specs.Key.{IsDrawn, new_key}
use Rattle.ferry_store.specs.declared.key.NewBytes.{NewBytes}

-- ---- its size

below_by : (b : Bool) (x y : List ℕ) (n : ℕ) → length x ≤ n → length y ≤ n → length (cond b x y) ≤ n
below_by true x y n first second = first
below_by false x y n first second = second

count_size : (first small two four n : ℕ) → length (shortest_count first small two four n) ≤ 5
unfolding shortest_count
count_size first small two four n = below_by (ltb n small) _ _ 5 (omega arith) (below_by (ltb n (2 ^ 16)) _ _ 5 (omega arith) (omega arith))

number_size : (z : ℤ) → length (shortest_number z) ≤ 9
unfolding shortest_number
number_size z =
    below_by (int_lt z (neg_ℤ (pos 0x80000000))) _ _ 9 (omega arith) (below_by (int_lt z (neg_ℤ (pos 0x8000))) _ _ 9 (omega arith)
    (below_by (int_lt z (neg_ℤ (pos 0x80))) _ _ 9 (omega arith) (below_by (int_lt z (neg_ℤ (pos 0x20))) _ _ 9 (omega arith)
    (below_by (int_lt z (pos 0x80)) _ _ 9 (omega arith) (below_by (int_lt z (pos 0x100)) _ _ 9 (omega arith)
    (below_by (int_lt z (pos 0x10000)) _ _ 9 (omega arith) (below_by (int_lt z (pos 0x100000000)) _ _ 9 (omega arith) (omega arith))))))))

raw_size : (content : List ℕ) → length (shortest_raw content) ≤ 5 + length content
raw_size content = omega (arith, count_size 0xa0 0x20 0xda 0xdb (length content), length-append (raw_head (length content)) content)

raw_pair : (k content : List ℕ) (ps : Pairs) (n : ℕ) → length (shortest_pairs ps) ≤ n
    → length (shortest_pairs (pair k (raw content) ps)) ≤ 10 + length k + length content + n
raw_pair k content ps n rest =
    omega (
      arith,
      rest,
      raw_size k,
      raw_size content,
      length-append (shortest_raw k) (shortest_raw content ++ shortest_pairs ps),
      length-append (shortest_raw content) (shortest_pairs ps),
    )

number_pair : (k : List ℕ) (z : ℤ) (ps : Pairs) (n : ℕ) → length (shortest_pairs ps) ≤ n → length (shortest_pairs (pair k (number z) ps)) ≤ 14 + length k + n
number_pair k z ps n rest =
    omega (
      arith,
      rest,
      raw_size k,
      number_size z,
      length-append (shortest_raw k) (shortest_number z ++ shortest_pairs ps),
      length-append (shortest_number z) (shortest_pairs ps),
    )

flag_pair : (k : List ℕ) (ps : Pairs) (n : ℕ) → length (shortest_pairs ps) ≤ n → length (shortest_pairs (pair k (flag true) ps)) ≤ 6 + length k + n
flag_pair k ps n rest =
    omega (arith, rest, raw_size k, length-append (shortest_raw k) (shortest (flag true) ++ shortest_pairs ps))

-- the pairs of a new key, in order
abbrev key_pairs : (id enc mac ids : List ℕ) (seed : ℤ) → Pairs
key_pairs id enc mac ids seed =
    pair (codes "chunk_seed") (number seed) (pair (codes "enc_hmac_key") (raw mac) (pair (codes "enc_key") (raw enc)
    (pair (codes "id_key") (raw ids) (pair (codes "repository_id") (raw id) (pair (codes "tam_required") (flag true)
    (pair (codes "version") (number (pos 1)) no_pairs))))))

abbrev new_opened : (id enc mac ids : List ℕ) (seed : ℤ) → Opened
new_opened id enc mac ids seed = record {
  keys = record { enc_key = enc; enc_hmac_key = mac; id_key = ids };
  repository_id = id;
  chunk_seed = seed;
  more = table (pair (codes "tam_required") (flag true) no_pairs);
}

pairs_are : (id enc mac ids : List ℕ) (seed : ℤ) → packed_pairs (new_opened id enc mac ids seed) ≡ key_pairs id enc mac ids seed
unfolding packed_pairs more_of
pairs_are id enc mac ids seed = refl

pairs_size : (id enc mac ids : List ℕ) (seed : ℤ) → length id ≡ 32 → length enc ≡ 32 → length mac ≡ 32 → length ids ≡ 32
    → length (shortest_pairs (key_pairs id enc mac ids seed)) ≤ 1000
pairs_size id enc mac ids seed a b c d =
    let q1 = pair (codes "version") (number (pos 1)) no_pairs in
    let q2 = pair (codes "tam_required") (flag true) q1 in
    let q3 = pair (codes "repository_id") (raw id) q2 in
    let q4 = pair (codes "id_key") (raw ids) q3 in
    let q5 = pair (codes "enc_key") (raw enc) q4 in
    let q6 = pair (codes "enc_hmac_key") (raw mac) q5 in
    let p1 = number_pair (codes "version") (pos 1) no_pairs 0 (omega arith) in
    let p2 = flag_pair (codes "tam_required") q1 30 (omega (arith, p1)) in
    let p3 = raw_pair (codes "repository_id") id q2 60 (omega (arith, p2)) in
    let p4 = raw_pair (codes "id_key") ids q3 160 (omega (arith, p3, a)) in
    let p5 = raw_pair (codes "enc_key") enc q4 260 (omega (arith, p4, d)) in
    let p6 = raw_pair (codes "enc_hmac_key") mac q5 360 (omega (arith, p5, b)) in
    let p7 = number_pair (codes "chunk_seed") seed q6 460 (omega (arith, p6, c)) in
    omega (arith, p7)

table_size : (ps : Pairs) → length (shortest_pairs ps) ≤ 1000 → length (shortest (table ps)) ≤ 20971436
table_size ps small = omega (arith, small, count_size 0x80 0x10 0xde 0xdf (pairs_count ps), length-append (map_head (pairs_count ps)) (shortest_pairs ps))

packed_size : (id enc mac ids : List ℕ) (seed : ℤ) → length id ≡ 32 → length enc ≡ 32 → length mac ≡ 32 → length ids ≡ 32
    → length (packed (new_opened id enc mac ids seed)) ≤ content_limit
unfolding packed
packed_size id enc mac ids seed a b c d =
    subst (λ (ps : Pairs). length (shortest (table ps)) ≤ 20971436) (sym (pairs_are id enc mac ids seed))
    (table_size (key_pairs id enc mac ids seed) (pairs_size id enc mac ids seed a b c d))

-- ---- it can be sealed

seed_fits : (n : ℕ) → IsNumber (cast_signed w32 n)
seed_fits n = (grind (arith, ints), grind (arith, ints))

sealable_by : (id enc mac ids : List ℕ) (seed : ℤ) → IsNumber seed → length (packed (new_opened id enc mac ids seed)) ≤ content_limit
    → IsSealable (new_opened id enc mac ids seed)
unfolding more_of has_among
sealable_by id enc mac ids seed fits size = record {
  more = refl;
  apart = refl;
  writable = record { depth_fits = omega arith; fits = (omega arith, (tt, tt), (omega arith, tt, tt)) };
  seed = fits;
  size = size;
}

pub sealable : (new : NewBytes) (bytes : List ℕ) → IsDrawn new bytes → IsSealable (new_key new)
sealable new bytes d =
    sealable_by new.id new.enc_key new.enc_hmac_key new.id_key (cast_signed w32 (from_be_bytes w32 new.seed)) (seed_fits (from_be_bytes w32 new.seed))
    (packed_size new.id new.enc_key new.enc_hmac_key new.id_key (cast_signed w32 (from_be_bytes w32 new.seed)) d.id d.enc_key d.enc_hmac_key d.id_key)

-- ---- its text

-- a key text has a byte
has_byte : (t : Tree) → shortest t ≢ []
has_byte t e =
    let some : 1 ≤ length (shortest t) = some_byte t in
    let none : length (shortest t) ≡ 0 = ap length e in let no : ⊥ = omega (arith, some, none) in no

pub text_there : (key : Opened) (passphrase salt : List ℕ) (iterations : ℕ) → key_text key passphrase salt iterations ≢ []
unfolding key_text envelope_text
text_there key passphrase salt iterations =
    has_byte (table (envelope_pairs (pbkdf2 passphrase salt iterations) salt iterations (packed key)))

pub text_there_in : {F : Type 0} (result : Result (Vec ℕ Global) F) (key : Opened) (passphrase salt : List ℕ) (iterations : ℕ)
    → IfOk result (λ text. text.items ≡ key_text key passphrase salt iterations) → IfOk result (λ text. text.items ≢ [])
text_there_in (Ok text) key passphrase salt iterations is = λ none. text_there key passphrase salt iterations (sym is ∙ none)
text_there_in (Err fault) key passphrase salt iterations is = tt

-- a key text that opens has an envelope
envelope_by : (passphrase : List ℕ) (envelope : Result Envelope KeyFault) (key : Opened) → key_inside passphrase envelope ≡ Ok key
    → (e : Envelope) × (envelope ≡ Ok e)
envelope_by passphrase (Ok e) key opens = (e, refl)
envelope_by passphrase (Err fault) key opens = absurd (let no : ⊥ = cc in no)

pub envelope_there : (passphrase text : List ℕ) (key : Opened) → key_of passphrase text ≡ Ok key → (e : Envelope) × (envelope_of text ≡ Ok e)
unfolding key_of
envelope_there passphrase text key opens = envelope_by passphrase (envelope_of text) key opens
