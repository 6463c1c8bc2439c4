-- What is sealed opens.
use Rattle.std.proofs.Common.{◌≡◌, ℕ, ◌≤◌, true, List, codes, length, pos, Some, Ok, refl, sym, ap, ◌∙◌}
use Rattle.std.proofs.lemmas.Bool.{le-leb}
use Rattle.ferry_aes.specs.CounterMode.{ctr}
use Rattle.ferry_aes.proofs.CallerLemmas.{ctr-ctr}
use Rattle.ferry_mac.specs.Hmac.{hmac256}
use Rattle.ferry_mac.specs.Pbkdf2.{pbkdf2}
use Rattle.ferry_msgpack.specs.Tree.{number, raw, table, Pairs, no_pairs, put}
use Rattle.ferry_msgpack.specs.Writable.{IsWritable}
use Rattle.ferry_fields.specs.Fields.{map_of, value_of, number_in, raw_in, raw32_in, has_version_1}
use Rattle.ferry_fields.proofs.FieldLemmas.{number_is, raw_is, raw32_is, version_is}
use Rattle.ferry_fields.proofs.MapLemmas.{map_of-shortest}
use Rattle.ferry_fields.proofs.OtherLemmas.{without-apart}
use Rattle.ferry_fields.proofs.PutLemmas.{bytes_eq-self, value_of-put, value_of-put_other, without-put}
use Rattle.ferry_keyblob.specs.Envelope.{envelope_of, envelope_fault, envelope_in, fault_or, envelope_from}
use Rattle.ferry_keyblob.specs.Opening.{Opened, key_in, key_from, key_of, key_inside, field_names, has_hash, others, opened}
use Rattle.ferry_keyblob.specs.Opening.{packed_key_of, unsealed}
use Rattle.ferry_keyblob.specs.Sealing.{HasLengths, IsSealable, envelope_pairs, envelope_text, key_text, more_of, packed, packed_pairs}
use Rattle.ferry_keyblob.specs.declared.envelope.Envelope.{Envelope}
use Rattle.ferry_keyblob.proofs.KeyLemmas.{no_key_fault}
use Rattle.ferry_keyblob.proofs.SealLemmas.{packed_writable, envelope_writable}

-- ---- the envelope

abbrev envelope_with : ℕ → List ℕ → List ℕ → List ℕ → Envelope
envelope_with iterations salt hash sealed = record { iterations = iterations; salt = salt; hash = hash; sealed = sealed }

pub said_envelope : (pairs : Pairs) (n : ℕ) (salt hash sealed : List ℕ) → has_version_1 pairs ≡ true → raw_in (codes "algorithm") pairs ≡ Some (codes "sha256")
    → number_in (codes "iterations") pairs ≡ Some (pos n) → raw32_in (codes "salt") pairs ≡ Some salt → raw32_in (codes "hash") pairs ≡ Some hash
    → raw_in (codes "data") pairs ≡ Some sealed
    → 1 ≤ n → n ≤ 10000000 → fault_or (envelope_fault pairs) (envelope_in pairs) ≡ Ok (envelope_with n salt hash sealed)
said_envelope pairs n salt hash sealed e0 e1 e2 e3 e4 e5 least most = rw (e0, e1, e2, e3, e4, e5, le-leb 1 n least, le-leb n 10000000 most) refl

module _ (kek salt : List ℕ) (iterations : ℕ) (text : List ℕ) where
  sealed_data : value_of (codes "data") (envelope_pairs kek salt iterations text) ≡ Some (raw (ctr kek 0 text))
  unfolding envelope_pairs
  sealed_data =
      let p1 : Pairs = put (codes "data") (raw (ctr kek 0 text)) no_pairs in
      let p2 : Pairs = put (codes "hash") (raw (hmac256 kek text)) p1 in
      let p3 : Pairs = put (codes "salt") (raw salt) p2 in
      let p4 : Pairs = put (codes "iterations") (number (pos iterations)) p3 in
      let p5 : Pairs = put (codes "algorithm") (raw (codes "sha256")) p4 in
      value_of-put_other (codes "data") (codes "version") (number (pos 1)) p5 refl
      ∙ value_of-put_other (codes "data") (codes "algorithm") (raw (codes "sha256")) p4 refl
      ∙ value_of-put_other (codes "data") (codes "iterations") (number (pos iterations)) p3 refl
      ∙ value_of-put_other (codes "data") (codes "salt") (raw salt) p2 refl
      ∙ value_of-put_other (codes "data") (codes "hash") (raw (hmac256 kek text)) p1 refl
      ∙ value_of-put (codes "data") (raw (ctr kek 0 text)) no_pairs

  sealed_hash : value_of (codes "hash") (envelope_pairs kek salt iterations text) ≡ Some (raw (hmac256 kek text))
  unfolding envelope_pairs
  sealed_hash =
      let p1 : Pairs = put (codes "data") (raw (ctr kek 0 text)) no_pairs in
      let p2 : Pairs = put (codes "hash") (raw (hmac256 kek text)) p1 in
      let p3 : Pairs = put (codes "salt") (raw salt) p2 in
      let p4 : Pairs = put (codes "iterations") (number (pos iterations)) p3 in
      let p5 : Pairs = put (codes "algorithm") (raw (codes "sha256")) p4 in
      value_of-put_other (codes "hash") (codes "version") (number (pos 1)) p5 refl
      ∙ value_of-put_other (codes "hash") (codes "algorithm") (raw (codes "sha256")) p4 refl
      ∙ value_of-put_other (codes "hash") (codes "iterations") (number (pos iterations)) p3 refl
      ∙ value_of-put_other (codes "hash") (codes "salt") (raw salt) p2 refl
      ∙ value_of-put (codes "hash") (raw (hmac256 kek text)) p1

  sealed_salt : value_of (codes "salt") (envelope_pairs kek salt iterations text) ≡ Some (raw salt)
  unfolding envelope_pairs
  sealed_salt =
      let p1 : Pairs = put (codes "data") (raw (ctr kek 0 text)) no_pairs in
      let p2 : Pairs = put (codes "hash") (raw (hmac256 kek text)) p1 in
      let p3 : Pairs = put (codes "salt") (raw salt) p2 in
      let p4 : Pairs = put (codes "iterations") (number (pos iterations)) p3 in
      let p5 : Pairs = put (codes "algorithm") (raw (codes "sha256")) p4 in
      value_of-put_other (codes "salt") (codes "version") (number (pos 1)) p5 refl
      ∙ value_of-put_other (codes "salt") (codes "algorithm") (raw (codes "sha256")) p4 refl
      ∙ value_of-put_other (codes "salt") (codes "iterations") (number (pos iterations)) p3 refl
      ∙ value_of-put (codes "salt") (raw salt) p2

  sealed_iterations : value_of (codes "iterations") (envelope_pairs kek salt iterations text) ≡ Some (number (pos iterations))
  unfolding envelope_pairs
  sealed_iterations =
      let p1 : Pairs = put (codes "data") (raw (ctr kek 0 text)) no_pairs in
      let p2 : Pairs = put (codes "hash") (raw (hmac256 kek text)) p1 in
      let p3 : Pairs = put (codes "salt") (raw salt) p2 in
      let p4 : Pairs = put (codes "iterations") (number (pos iterations)) p3 in
      let p5 : Pairs = put (codes "algorithm") (raw (codes "sha256")) p4 in
      value_of-put_other (codes "iterations") (codes "version") (number (pos 1)) p5 refl
      ∙ value_of-put_other (codes "iterations") (codes "algorithm") (raw (codes "sha256")) p4 refl
      ∙ value_of-put (codes "iterations") (number (pos iterations)) p3

  sealed_algorithm : value_of (codes "algorithm") (envelope_pairs kek salt iterations text) ≡ Some (raw (codes "sha256"))
  unfolding envelope_pairs
  sealed_algorithm =
      let p1 : Pairs = put (codes "data") (raw (ctr kek 0 text)) no_pairs in
      let p2 : Pairs = put (codes "hash") (raw (hmac256 kek text)) p1 in
      let p3 : Pairs = put (codes "salt") (raw salt) p2 in
      let p4 : Pairs = put (codes "iterations") (number (pos iterations)) p3 in
      let p5 : Pairs = put (codes "algorithm") (raw (codes "sha256")) p4 in
      value_of-put_other (codes "algorithm") (codes "version") (number (pos 1)) p5 refl
      ∙ value_of-put (codes "algorithm") (raw (codes "sha256")) p4

  sealed_version : value_of (codes "version") (envelope_pairs kek salt iterations text) ≡ Some (number (pos 1))
  unfolding envelope_pairs
  sealed_version =
      let p1 : Pairs = put (codes "data") (raw (ctr kek 0 text)) no_pairs in
      let p2 : Pairs = put (codes "hash") (raw (hmac256 kek text)) p1 in
      let p3 : Pairs = put (codes "salt") (raw salt) p2 in
      let p4 : Pairs = put (codes "iterations") (number (pos iterations)) p3 in
      let p5 : Pairs = put (codes "algorithm") (raw (codes "sha256")) p4 in
      value_of-put (codes "version") (number (pos 1)) p5

envelope_again : (kek salt : List ℕ) (iterations : ℕ) (text : List ℕ) → length salt ≡ 32 → length (hmac256 kek text) ≡ 32 → 1 ≤ iterations
    → iterations ≤ 10000000
    → IsWritable (table (envelope_pairs kek salt iterations text))
    → envelope_of (envelope_text kek salt iterations text) ≡ Ok (envelope_with iterations salt (hmac256 kek text) (ctr kek 0 text))
unfolding envelope_of envelope_text
envelope_again kek salt iterations text salted hashed least most writable =
    let pairs = envelope_pairs kek salt iterations text in
    ap envelope_from (map_of-shortest pairs writable)
    ∙ said_envelope pairs iterations salt (hmac256 kek text) (ctr kek 0 text) (version_is pairs (sealed_version kek salt iterations text))
    (raw_is (codes "algorithm") pairs (codes "sha256") (sealed_algorithm kek salt iterations text))
    (number_is (codes "iterations") pairs (pos iterations) (sealed_iterations kek salt iterations text))
    (raw32_is (codes "salt") pairs salt (sealed_salt kek salt iterations text) salted)
    (raw32_is (codes "hash") pairs (hmac256 kek text) (sealed_hash kek salt iterations text) hashed)
    (raw_is (codes "data") pairs (ctr kek 0 text) (sealed_data kek salt iterations text)) least most

-- ---- the key

module _ (key : Opened) where
  packed_seed : value_of (codes "chunk_seed") (packed_pairs key) ≡ Some (number key.chunk_seed)
  unfolding packed_pairs
  packed_seed =
      let p1 : Pairs = put (codes "chunk_seed") (number key.chunk_seed) (more_of key) in
      let p2 : Pairs = put (codes "id_key") (raw key.keys.id_key) p1 in
      let p3 : Pairs = put (codes "enc_hmac_key") (raw key.keys.enc_hmac_key) p2 in
      let p4 : Pairs = put (codes "enc_key") (raw key.keys.enc_key) p3 in
      let p5 : Pairs = put (codes "repository_id") (raw key.repository_id) p4 in
      value_of-put_other (codes "chunk_seed") (codes "version") (number (pos 1)) p5 refl
      ∙ value_of-put_other (codes "chunk_seed") (codes "repository_id") (raw key.repository_id) p4 refl
      ∙ value_of-put_other (codes "chunk_seed") (codes "enc_key") (raw key.keys.enc_key) p3 refl
      ∙ value_of-put_other (codes "chunk_seed") (codes "enc_hmac_key") (raw key.keys.enc_hmac_key) p2 refl
      ∙ value_of-put_other (codes "chunk_seed") (codes "id_key") (raw key.keys.id_key) p1 refl
      ∙ value_of-put (codes "chunk_seed") (number key.chunk_seed) (more_of key)

  packed_ids : value_of (codes "id_key") (packed_pairs key) ≡ Some (raw key.keys.id_key)
  unfolding packed_pairs
  packed_ids =
      let p1 : Pairs = put (codes "chunk_seed") (number key.chunk_seed) (more_of key) in
      let p2 : Pairs = put (codes "id_key") (raw key.keys.id_key) p1 in
      let p3 : Pairs = put (codes "enc_hmac_key") (raw key.keys.enc_hmac_key) p2 in
      let p4 : Pairs = put (codes "enc_key") (raw key.keys.enc_key) p3 in
      let p5 : Pairs = put (codes "repository_id") (raw key.repository_id) p4 in
      value_of-put_other (codes "id_key") (codes "version") (number (pos 1)) p5 refl
      ∙ value_of-put_other (codes "id_key") (codes "repository_id") (raw key.repository_id) p4 refl
      ∙ value_of-put_other (codes "id_key") (codes "enc_key") (raw key.keys.enc_key) p3 refl
      ∙ value_of-put_other (codes "id_key") (codes "enc_hmac_key") (raw key.keys.enc_hmac_key) p2 refl
      ∙ value_of-put (codes "id_key") (raw key.keys.id_key) p1

  packed_mac : value_of (codes "enc_hmac_key") (packed_pairs key) ≡ Some (raw key.keys.enc_hmac_key)
  unfolding packed_pairs
  packed_mac =
      let p1 : Pairs = put (codes "chunk_seed") (number key.chunk_seed) (more_of key) in
      let p2 : Pairs = put (codes "id_key") (raw key.keys.id_key) p1 in
      let p3 : Pairs = put (codes "enc_hmac_key") (raw key.keys.enc_hmac_key) p2 in
      let p4 : Pairs = put (codes "enc_key") (raw key.keys.enc_key) p3 in
      let p5 : Pairs = put (codes "repository_id") (raw key.repository_id) p4 in
      value_of-put_other (codes "enc_hmac_key") (codes "version") (number (pos 1)) p5 refl
      ∙ value_of-put_other (codes "enc_hmac_key") (codes "repository_id") (raw key.repository_id) p4 refl
      ∙ value_of-put_other (codes "enc_hmac_key") (codes "enc_key") (raw key.keys.enc_key) p3 refl
      ∙ value_of-put (codes "enc_hmac_key") (raw key.keys.enc_hmac_key) p2

  packed_enc : value_of (codes "enc_key") (packed_pairs key) ≡ Some (raw key.keys.enc_key)
  unfolding packed_pairs
  packed_enc =
      let p1 : Pairs = put (codes "chunk_seed") (number key.chunk_seed) (more_of key) in
      let p2 : Pairs = put (codes "id_key") (raw key.keys.id_key) p1 in
      let p3 : Pairs = put (codes "enc_hmac_key") (raw key.keys.enc_hmac_key) p2 in
      let p4 : Pairs = put (codes "enc_key") (raw key.keys.enc_key) p3 in
      let p5 : Pairs = put (codes "repository_id") (raw key.repository_id) p4 in
      value_of-put_other (codes "enc_key") (codes "version") (number (pos 1)) p5 refl
      ∙ value_of-put_other (codes "enc_key") (codes "repository_id") (raw key.repository_id) p4 refl
      ∙ value_of-put (codes "enc_key") (raw key.keys.enc_key) p3

  packed_id : value_of (codes "repository_id") (packed_pairs key) ≡ Some (raw key.repository_id)
  unfolding packed_pairs
  packed_id =
      let p1 : Pairs = put (codes "chunk_seed") (number key.chunk_seed) (more_of key) in
      let p2 : Pairs = put (codes "id_key") (raw key.keys.id_key) p1 in
      let p3 : Pairs = put (codes "enc_hmac_key") (raw key.keys.enc_hmac_key) p2 in
      let p4 : Pairs = put (codes "enc_key") (raw key.keys.enc_key) p3 in
      let p5 : Pairs = put (codes "repository_id") (raw key.repository_id) p4 in
      value_of-put_other (codes "repository_id") (codes "version") (number (pos 1)) p5 refl
      ∙ value_of-put (codes "repository_id") (raw key.repository_id) p4

  packed_version : value_of (codes "version") (packed_pairs key) ≡ Some (number (pos 1))
  unfolding packed_pairs
  packed_version =
      let p1 : Pairs = put (codes "chunk_seed") (number key.chunk_seed) (more_of key) in
      let p2 : Pairs = put (codes "id_key") (raw key.keys.id_key) p1 in
      let p3 : Pairs = put (codes "enc_hmac_key") (raw key.keys.enc_hmac_key) p2 in
      let p4 : Pairs = put (codes "enc_key") (raw key.keys.enc_key) p3 in
      let p5 : Pairs = put (codes "repository_id") (raw key.repository_id) p4 in
      value_of-put (codes "version") (number (pos 1)) p5

  packed_others : others (packed_pairs key) ≡ others (more_of key)
  unfolding packed_pairs
  packed_others =
      let p1 : Pairs = put (codes "chunk_seed") (number key.chunk_seed) (more_of key) in
      let p2 : Pairs = put (codes "id_key") (raw key.keys.id_key) p1 in
      let p3 : Pairs = put (codes "enc_hmac_key") (raw key.keys.enc_hmac_key) p2 in
      let p4 : Pairs = put (codes "enc_key") (raw key.keys.enc_key) p3 in
      let p5 : Pairs = put (codes "repository_id") (raw key.repository_id) p4 in
      without-put field_names (codes "version") (number (pos 1)) p5 refl
      ∙ without-put field_names (codes "repository_id") (raw key.repository_id) p4 refl
      ∙ without-put field_names (codes "enc_key") (raw key.keys.enc_key) p3 refl
      ∙ without-put field_names (codes "enc_hmac_key") (raw key.keys.enc_hmac_key) p2 refl
      ∙ without-put field_names (codes "id_key") (raw key.keys.id_key) p1 refl
      ∙ without-put field_names (codes "chunk_seed") (number key.chunk_seed) (more_of key) refl

said_key : (pairs : Pairs) (key : Opened) → raw32_in (codes "repository_id") pairs ≡ Some key.repository_id
    → raw32_in (codes "enc_key") pairs ≡ Some key.keys.enc_key
    → raw32_in (codes "enc_hmac_key") pairs ≡ Some key.keys.enc_hmac_key → raw32_in (codes "id_key") pairs ≡ Some key.keys.id_key
    → number_in (codes "chunk_seed") pairs ≡ Some key.chunk_seed
    → key.more ≡ table (others pairs) → key_in pairs ≡ key
said_key pairs key e1 e2 e3 e4 e5 e6 = rw (e1, e2, e3, e4, e5, sym e6) refl

packed_read : (key : Opened) → IsWritable (table (packed_pairs key)) → map_of (packed key) ≡ Some (packed_pairs key)
unfolding packed
packed_read key writable = map_of-shortest (packed_pairs key) writable

key_again : (key : Opened) → HasLengths key → IsSealable key → packed_key_of (packed key) ≡ Ok key
unfolding packed_key_of
key_again key lengths sealable =
    let pairs = packed_pairs key in
    let id = raw32_is (codes "repository_id") pairs key.repository_id (packed_id key) lengths.id in
    let enc = raw32_is (codes "enc_key") pairs key.keys.enc_key (packed_enc key) lengths.enc in
    let mac = raw32_is (codes "enc_hmac_key") pairs key.keys.enc_hmac_key (packed_mac key) lengths.mac in
    let ids = raw32_is (codes "id_key") pairs key.keys.id_key (packed_ids key) lengths.ids in
    let seed = number_is (codes "chunk_seed") pairs key.chunk_seed (packed_seed key) in
    let more : key.more ≡ table (others pairs) =
    sealable.more ∙ ap table (sym (packed_others key ∙ without-apart field_names (more_of key) sealable.apart)) in
    let none = no_key_fault pairs _ _ _ _ _ (version_is pairs (packed_version key)) id enc mac ids seed in
    let read : map_of (packed key) ≡ Some pairs = packed_read key (packed_writable key sealable) in
    ap key_from read ∙ ap (λ fault. fault_or fault (key_in pairs)) none ∙ ap Ok (said_key pairs key id enc mac ids seed more)

-- ---- both

opens_again : (key : Opened) (passphrase salt : List ℕ) (iterations : ℕ) (text : List ℕ) → packed_key_of text ≡ Ok key
    → opened passphrase (envelope_with iterations salt (hmac256 (pbkdf2 passphrase salt iterations) text) (ctr (pbkdf2 passphrase salt iterations) 0 text))
    ≡ Ok key
unfolding opened has_hash unsealed
opens_again key passphrase salt iterations text read =
    let kek = pbkdf2 passphrase salt iterations in
    rw (ctr-ctr kek 0 text, bytes_eq-self (hmac256 kek text)) read

pub key_text-opens : (key : Opened) (passphrase salt : List ℕ) (iterations : ℕ) → HasLengths key → IsSealable key → length salt ≡ 32
    → length (hmac256 (pbkdf2 passphrase salt iterations) (packed key)) ≡ 32
    → 1 ≤ iterations → iterations ≤ 10000000 → key_of passphrase (key_text key passphrase salt iterations) ≡ Ok key
unfolding key_of key_text
key_text-opens key passphrase salt iterations lengths sealable salted hashed least most =
    let kek = pbkdf2 passphrase salt iterations in
    ap (key_inside passphrase)
    (envelope_again kek salt iterations (packed key) salted hashed least most
    (envelope_writable kek salt iterations (packed key) salted hashed most sealable.size))
    ∙ opens_again key passphrase salt iterations (packed key) (key_again key lengths sealable)

pub key_text-parts : (key : Opened) (passphrase salt : List ℕ) (iterations : ℕ)
    → envelope_text (pbkdf2 passphrase salt iterations) salt iterations (packed key) ≡ key_text key passphrase salt iterations
unfolding key_text
key_text-parts key passphrase salt iterations = refl
