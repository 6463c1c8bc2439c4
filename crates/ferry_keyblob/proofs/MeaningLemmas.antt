-- Lemmas on specs/Meaning.antt: each answer of a key text comes exactly where its condition holds.
use Rattle.std.proofs.Common.{◌≡◌, ◌≢◌, ◌⊎◌, inl, inr, ℕ, ◌≤◌, ◌==◌, ◌&&◌, ◌||◌, not, Bool, true, false, if◌then◌else◌, cond, List, [], codes, ℤ, pos, negsuc}
use Rattle.std.proofs.Common.{Option, Some, None, is_none, unwrap_or, option_and_then, Result, Ok, Err, refl, sym, ◌∙◌, ap, subst, leb}
use Rattle.std.proofs.lemmas.Bool.{cases_Bool, eqb-true, le-leb, leb-true}
use Rattle.std.proofs.lemmas.Slice.Eq.{bytes_eq-Decides}
use Rattle.std.specs.Option.{option_map_or}
use Rattle.std.specs.Prelude.{nat_le}
use Rattle.std.specs.Str.{bytes_eq}
use Rattle.ferry_mac.specs.Hmac.{hmac256}
use Rattle.ferry_msgpack.specs.Spelling.{Spells}
use Rattle.ferry_msgpack.specs.Tree.{Pairs, table}
use Rattle.ferry_fields.specs.Fields.{has_version_1, is_1, map_of, number_in, raw_in, raw32_in}
use Rattle.ferry_fields.proofs.MapLemmas.{map_of-spelled, spelled-map_of}
use Rattle.ferry_keyblob.specs.Envelope.{envelope_of, envelope_fault, envelope_from, envelope_in, fault_or, has_sha256}
use Rattle.ferry_keyblob.specs.Envelope.{iterations_from, iterations_in, lacks_field}
use Rattle.ferry_keyblob.specs.Meaning.{IsNoMap, EnvelopeFields, LacksField, IsInRange, IsEnvelope, HasOtherAlgorithm, HasOtherIterations, HasNoEnvelope}
use Rattle.ferry_keyblob.specs.Meaning.{Unlocks, KeyFields, LacksKeyField, OpensTo, HasNoMap, HasNoKey}
use Rattle.ferry_keyblob.specs.Opening.{Opened, has_hash, key_encryption_key, key_fault, key_from, key_in, key_inside, key_of, lacks_key_field, opened}
use Rattle.ferry_keyblob.specs.Opening.{others, packed_key_of, unsealed}
use Rattle.ferry_keyblob.specs.declared.envelope.Envelope.{Envelope}
use Rattle.ferry_keyblob.specs.declared.fault.KeyFault.{KeyFault}
use Rattle.ferry_keyblob.specs.declared.fault.KeyFault.TheVariants.{Pack, Field, Algorithm, Iterations, Passphrase, Memory}
use Rattle.ferry_keyblob.proofs.OpensLemmas.{said_envelope}

-- ---- fields

is_one : (z : ℤ) → is_1 z ≡ true → z ≡ pos 1
is_one (pos n) e = ap pos (eqb-true n 1 e)
is_one (negsuc n) e = absurd cc

version_one : (o : Option ℤ) → option_map_or is_1 o false ≡ true → o ≡ Some (pos 1)
version_one None e = absurd cc
version_one (Some z) e = ap Some (is_one z e)

one_version : (pairs : Pairs) → number_in (codes "version") pairs ≡ Some (pos 1) → has_version_1 pairs ≡ true
one_version pairs e = rw e refl

-- what is there is what is taken of it
taken : {A : Type 0} → (o : Option A) (or : A) → is_none o ≡ false → o ≡ Some (unwrap_or o or)
taken None or e = absurd cc
taken (Some x) or e = refl

is_taken : {A : Type 0} → (o : Option A) (x or : A) → o ≡ Some x → unwrap_or o or ≡ x
is_taken o x or e = rw e refl

-- five values that are there, behind a test that holds
record AreThere (v a b c d e : Bool) : Type 0 where
  pub test : v ≡ true
  pub first : a ≡ false
  pub second : b ≡ false
  pub third : c ≡ false
  pub fourth : d ≡ false
  pub fifth : e ≡ false

are_there : (v a b c d e : Bool) → (not v || a || b || c || d || e) ≡ false → AreThere v a b c d e
are_there false a b c d e none = absurd cc
are_there true true b c d e none = absurd cc
are_there true false true c d e none = absurd cc
are_there true false false true d e none = absurd cc
are_there true false false false true e none = absurd cc
are_there true false false false false true none = absurd cc
are_there true false false false false false none =
    record { test = refl; first = refl; second = refl; third = refl; fourth = refl; fifth = refl }

-- ---- the fields of an envelope

fields_there : (pairs : Pairs) → lacks_field pairs ≡ false
    → EnvelopeFields pairs (unwrap_or (raw_in (codes "algorithm") pairs) []) (unwrap_or (number_in (codes "iterations") pairs) (pos 0))
    (unwrap_or (raw32_in (codes "salt") pairs) []) (unwrap_or (raw32_in (codes "hash") pairs) []) (unwrap_or (raw_in (codes "data") pairs) [])
fields_there pairs whole =
    let all = are_there (has_version_1 pairs) (is_none (raw_in (codes "algorithm") pairs)) (is_none (number_in (codes "iterations") pairs))
    (is_none (raw32_in (codes "salt") pairs)) (is_none (raw32_in (codes "hash") pairs)) (is_none (raw_in (codes "data") pairs)) whole in
    record {
      version = version_one (number_in (codes "version") pairs) all.test;
      algorithm_is = taken (raw_in (codes "algorithm") pairs) [] all.first;
      iterations_are = taken (number_in (codes "iterations") pairs) (pos 0) all.second;
      salt_is = taken (raw32_in (codes "salt") pairs) [] all.third;
      hash_is = taken (raw32_in (codes "hash") pairs) [] all.fourth;
      sealed_is = taken (raw_in (codes "data") pairs) [] all.fifth;
    }

there_fields : (pairs : Pairs) (algorithm : List ℕ) (iterations : ℤ) (salt hash sealed : List ℕ)
    → EnvelopeFields pairs algorithm iterations salt hash sealed → lacks_field pairs ≡ false
there_fields pairs algorithm iterations salt hash sealed fields =
    rw (one_version pairs fields.version, fields.algorithm_is, fields.iterations_are, fields.salt_is, fields.hash_is, fields.sealed_is) refl

-- ---- the iterations

range_by : (n m : ℕ) (a b : Bool) → nat_le 1 n ≡ a → nat_le n 10000000 ≡ b → (if a && b then Some n else None) ≡ Some m
    → (n ≡ m) × (1 ≤ n) × (n ≤ 10000000)
range_by n m true true least most e = let same : n ≡ m = cc in (same, leb-true 1 n least, leb-true n 10000000 most)
range_by n m true false least most e = absurd cc
range_by n m false b least most e = absurd cc

in_range : (z : ℤ) (m : ℕ) → iterations_from z ≡ Some m → (z ≡ pos m) × (1 ≤ m) × (m ≤ 10000000)
in_range (pos n) m e =
    let all = range_by n m (nat_le 1 n) (nat_le n 10000000) refl refl e in
    (ap pos all.0, subst (λ (k : ℕ). 1 ≤ k) all.0 all.1, subst (λ (k : ℕ). k ≤ 10000000) all.0 all.2)
in_range (negsuc n) m e = absurd cc

range_is : (n : ℕ) → 1 ≤ n → n ≤ 10000000 → iterations_from (pos n) ≡ Some n
range_is n least most = rw (le-leb 1 n least, le-leb n 10000000 most) refl

none_outside : (o : Option ℕ) (z : ℤ) → iterations_from z ≡ o → (IsInRange z → ⊥) → is_none o ≡ true
none_outside None z e outside = refl
none_outside (Some m) z e outside = let all = in_range z m e in absurd (outside (m, all.0, all.1, all.2))

outside_none : (z : ℤ) → iterations_from z ≡ None → IsInRange z → ⊥
outside_none z none range =
    let some : iterations_from z ≡ Some range.0 = ap iterations_from range.1 ∙ range_is range.0 range.2 range.3 in
    let both : Some range.0 ≡ None = sym some ∙ none in
    cc

-- the iterations of a number that is there
iterations_there : (pairs : Pairs) (z : ℤ) → number_in (codes "iterations") pairs ≡ Some z → iterations_in pairs ≡ iterations_from z
iterations_there pairs z e = rw e refl

algorithm_there : (pairs : Pairs) (algorithm : List ℕ) → raw_in (codes "algorithm") pairs ≡ Some algorithm
    → has_sha256 pairs ≡ bytes_eq algorithm (codes "sha256")
algorithm_there pairs algorithm e = rw e refl

-- ---- what an envelope's answers say

abbrev Answer : List ℕ → Result Envelope KeyFault → Type 0
Answer blob (Ok envelope) = IsEnvelope blob envelope
Answer blob (Err Pack) = IsNoMap blob
Answer blob (Err Field) = HasNoEnvelope blob
Answer blob (Err Algorithm) = HasOtherAlgorithm blob
Answer blob (Err Iterations) = HasOtherIterations blob
Answer blob (Err Passphrase) = ⊥
Answer blob (Err Memory) = ⊥

classified : (blob : List ℕ) (pairs : Pairs) → Spells (table pairs) blob → (lacks sha : Bool) (count : Option ℕ) → lacks_field pairs ≡ lacks
    → has_sha256 pairs ≡ sha → iterations_in pairs ≡ count
    → Answer blob (fault_or (if lacks then Some Field else if not sha then Some Algorithm else if is_none count then Some Iterations else None)
    (envelope_in pairs))
classified blob pairs spells true sha count l s c = record {
  pairs = pairs;
  spells = spells;
  lacks = λ algorithm iterations salt hash sealed fields.
      let both : true ≡ false = sym l ∙ there_fields pairs algorithm iterations salt hash sealed fields in cc;
}
classified blob pairs spells false false count l s c =
    let fields = fields_there pairs l in
    let algorithm = unwrap_or (raw_in (codes "algorithm") pairs) [] in
    record {
      pairs = pairs;
      spells = spells;
      algorithm = algorithm;
      iterations = unwrap_or (number_in (codes "iterations") pairs) (pos 0);
      salt = unwrap_or (raw32_in (codes "salt") pairs) [];
      hash = unwrap_or (raw32_in (codes "hash") pairs) [];
      sealed = unwrap_or (raw_in (codes "data") pairs) [];
      fields = fields;
      other = λ same. let both : true ≡ false = sym ((bytes_eq-Decides algorithm (codes "sha256")).1 same) ∙ s in cc;
    }
classified blob pairs spells false true None l s c =
    let fields = fields_there pairs l in
    let z = unwrap_or (number_in (codes "iterations") pairs) (pos 0) in
    let salt = unwrap_or (raw32_in (codes "salt") pairs) [] in
    let hash = unwrap_or (raw32_in (codes "hash") pairs) [] in
    let sealed = unwrap_or (raw_in (codes "data") pairs) [] in
    record {
      pairs = pairs;
      spells = spells;
      iterations = z;
      salt = salt;
      hash = hash;
      sealed = sealed;
      fields = subst (λ (a : List ℕ). EnvelopeFields pairs a z salt hash sealed)
          ((bytes_eq-Decides (unwrap_or (raw_in (codes "algorithm") pairs) []) (codes "sha256")).0 s) fields;
      outside = outside_none z (sym (iterations_there pairs z fields.iterations_are) ∙ c);
    }
classified blob pairs spells false true (Some n) l s c =
    let fields = fields_there pairs l in
    let z = unwrap_or (number_in (codes "iterations") pairs) (pos 0) in
    let salt = unwrap_or (raw32_in (codes "salt") pairs) [] in
    let hash = unwrap_or (raw32_in (codes "hash") pairs) [] in
    let sealed = unwrap_or (raw_in (codes "data") pairs) [] in
    let range = in_range z n (sym (iterations_there pairs z fields.iterations_are) ∙ c) in
    let count : n ≡ unwrap_or (iterations_in pairs) 0 = sym (is_taken (iterations_in pairs) n 0 c) in
    record {
      pairs = pairs;
      spells = spells;
      fields = subst (λ (k : ℤ). EnvelopeFields pairs (codes "sha256") k salt hash sealed) (range.0 ∙ ap pos count)
          (subst (λ (a : List ℕ). EnvelopeFields pairs a z salt hash sealed)
          ((bytes_eq-Decides (unwrap_or (raw_in (codes "algorithm") pairs) []) (codes "sha256")).0 s) fields);
      some = subst (λ (k : ℕ). 1 ≤ k) count range.1;
      few = subst (λ (k : ℕ). k ≤ 10000000) count range.2;
    }

answered_by : (blob : List ℕ) (found : Option Pairs) → map_of blob ≡ found → Answer blob (envelope_from found)
answered_by blob None is = λ pairs spells. let both : Some pairs ≡ None = sym (map_of-spelled blob (table pairs) spells) ∙ is in cc
answered_by blob (Some pairs) is =
    classified blob pairs (spelled-map_of blob pairs is) (lacks_field pairs) (has_sha256 pairs) (iterations_in pairs) refl refl refl

answered : (blob : List ℕ) → Answer blob (envelope_of blob)
unfolding envelope_of
answered blob = answered_by blob (map_of blob) refl

pub envelope_says : (blob : List ℕ) (envelope : Envelope) → envelope_of blob ≡ Ok envelope → IsEnvelope blob envelope
envelope_says blob envelope e = subst (Answer blob) e (answered blob)

pub says_envelope : (blob : List ℕ) (envelope : Envelope) → IsEnvelope blob envelope → envelope_of blob ≡ Ok envelope
unfolding envelope_of
says_envelope blob envelope is =
    let fields = is.fields in
    ap envelope_from (map_of-spelled blob (table is.pairs) is.spells)
    ∙ said_envelope is.pairs envelope.iterations envelope.salt envelope.hash envelope.sealed (one_version is.pairs fields.version) fields.algorithm_is
    fields.iterations_are fields.salt_is fields.hash_is fields.sealed_is is.some is.few

no_map : (bytes : List ℕ) (found : Option Pairs) → map_of bytes ≡ found → IsNoMap bytes → found ≡ None
no_map bytes None is none = refl
no_map bytes (Some pairs) is none = absurd (none pairs (spelled-map_of bytes pairs is))

says_pack : (blob : List ℕ) → IsNoMap blob → envelope_of blob ≡ Err Pack
unfolding envelope_of
says_pack blob none = ap envelope_from (no_map blob (map_of blob) refl none)

lacking : (pairs : Pairs) (b : Bool) → lacks_field pairs ≡ b → LacksField pairs → b ≡ true
lacking pairs true e lacks = refl
lacking pairs false e lacks = absurd (lacks _ _ _ _ _ (fields_there pairs e))

field_of : (pairs : Pairs) → lacks_field pairs ≡ true → envelope_from (Some pairs) ≡ Err Field
field_of pairs lacks = rw lacks refl

says_field : (blob : List ℕ) → HasNoEnvelope blob → envelope_of blob ≡ Err Field
unfolding envelope_of
says_field blob none =
    ap envelope_from (map_of-spelled blob (table none.pairs) none.spells)
    ∙ field_of none.pairs (lacking none.pairs (lacks_field none.pairs) refl none.lacks)

algorithm_of : (pairs : Pairs) → lacks_field pairs ≡ false → has_sha256 pairs ≡ false → envelope_from (Some pairs) ≡ Err Algorithm
algorithm_of pairs whole other = rw (whole, other) refl

unequal : (a b : List ℕ) (e : Bool) → bytes_eq a b ≡ e → a ≢ b → e ≡ false
unequal a b true is differ = absurd (differ ((bytes_eq-Decides a b).0 is))
unequal a b false is differ = refl

says_algorithm : (blob : List ℕ) → HasOtherAlgorithm blob → envelope_of blob ≡ Err Algorithm
unfolding envelope_of
says_algorithm blob has =
    ap envelope_from (map_of-spelled blob (table has.pairs) has.spells)
    ∙ algorithm_of has.pairs (there_fields has.pairs has.algorithm has.iterations has.salt has.hash has.sealed has.fields)
    (algorithm_there has.pairs has.algorithm has.fields.algorithm_is
    ∙ unequal has.algorithm (codes "sha256") (bytes_eq has.algorithm (codes "sha256")) refl has.other)

iterations_of : (pairs : Pairs) → lacks_field pairs ≡ false → has_sha256 pairs ≡ true → is_none (iterations_in pairs) ≡ true
    → envelope_from (Some pairs) ≡ Err Iterations
iterations_of pairs whole sha none = rw (whole, sha, none) refl

says_iterations : (blob : List ℕ) → HasOtherIterations blob → envelope_of blob ≡ Err Iterations
unfolding envelope_of
says_iterations blob has =
    ap envelope_from (map_of-spelled blob (table has.pairs) has.spells)
    ∙ iterations_of has.pairs (there_fields has.pairs (codes "sha256") has.iterations has.salt has.hash has.sealed has.fields)
    (algorithm_there has.pairs (codes "sha256") has.fields.algorithm_is ∙ (bytes_eq-Decides (codes "sha256") (codes "sha256")).1 refl)
    (none_outside (iterations_in has.pairs) has.iterations (sym (iterations_there has.pairs has.iterations has.fields.iterations_are)) has.outside)

-- ---- the fields of a key

key_there : (pairs : Pairs) → lacks_key_field pairs ≡ false → KeyFields pairs (key_in pairs)
key_there pairs whole =
    let all = are_there (has_version_1 pairs) (is_none (raw32_in (codes "repository_id") pairs)) (is_none (raw32_in (codes "enc_key") pairs))
    (is_none (raw32_in (codes "enc_hmac_key") pairs)) (is_none (raw32_in (codes "id_key") pairs)) (is_none (number_in (codes "chunk_seed") pairs)) whole in
    record {
      version = version_one (number_in (codes "version") pairs) all.test;
      id = taken (raw32_in (codes "repository_id") pairs) [] all.first;
      enc = taken (raw32_in (codes "enc_key") pairs) [] all.second;
      mac = taken (raw32_in (codes "enc_hmac_key") pairs) [] all.third;
      ids = taken (raw32_in (codes "id_key") pairs) [] all.fourth;
      seed = taken (number_in (codes "chunk_seed") pairs) (pos 0) all.fifth;
      more = refl;
    }

there_key : (pairs : Pairs) (key : Opened) → KeyFields pairs key → lacks_key_field pairs ≡ false
there_key pairs key fields = rw (one_version pairs fields.version, fields.id, fields.enc, fields.mac, fields.ids, fields.seed) refl

said_key : (pairs : Pairs) (key : Opened) → KeyFields pairs key → key_from (Some pairs) ≡ Ok key
said_key pairs key fields =
    rw (one_version pairs fields.version, fields.id, fields.enc, fields.mac, fields.ids, fields.seed, sym fields.more) refl

-- ---- what a key text's answers say

abbrev KeyAnswer : List ℕ → List ℕ → Result Opened KeyFault → Type 0
KeyAnswer passphrase blob (Ok key) = OpensTo passphrase blob key
KeyAnswer passphrase blob (Err Pack) = IsNoMap blob ⊎ HasNoMap passphrase blob
KeyAnswer passphrase blob (Err Field) = HasNoEnvelope blob ⊎ HasNoKey passphrase blob
KeyAnswer passphrase blob (Err Algorithm) = HasOtherAlgorithm blob
KeyAnswer passphrase blob (Err Iterations) = HasOtherIterations blob
KeyAnswer passphrase blob (Err Passphrase) = Unit {0}
KeyAnswer passphrase blob (Err Memory) = Unit {0}

key_classified : (passphrase blob : List ℕ) (envelope : Envelope) (pairs : Pairs) → Unlocks passphrase blob envelope
    → Spells (table pairs) (unsealed passphrase envelope) → (lacks : Bool) → lacks_key_field pairs ≡ lacks
    → KeyAnswer passphrase blob (fault_or (if lacks then Some Field else None) (key_in pairs))
key_classified passphrase blob envelope pairs unlocks spells true l = inr (record {
  envelope = envelope;
  unlocks = unlocks;
  pairs = pairs;
  spells = spells;
  lacks = λ key fields. let both : true ≡ false = sym l ∙ there_key pairs key fields in cc;
})
key_classified passphrase blob envelope pairs unlocks spells false l =
    record { envelope = envelope; unlocks = unlocks; pairs = pairs; spells = spells; fields = key_there pairs l }

packed_by : (passphrase blob : List ℕ) (envelope : Envelope) → Unlocks passphrase blob envelope → (found : Option Pairs)
    → map_of (unsealed passphrase envelope) ≡ found → KeyAnswer passphrase blob (key_from found)
packed_by passphrase blob envelope unlocks None is = inr (record {
  envelope = envelope;
  unlocks = unlocks;
  none = λ pairs spells. let both : Some pairs ≡ None = sym (map_of-spelled (unsealed passphrase envelope) (table pairs) spells) ∙ is in cc;
})
packed_by passphrase blob envelope unlocks (Some pairs) is =
    key_classified passphrase blob envelope pairs unlocks (spelled-map_of (unsealed passphrase envelope) pairs is) (lacks_key_field pairs) refl

packed_answer : (passphrase blob : List ℕ) (envelope : Envelope) → Unlocks passphrase blob envelope
    → KeyAnswer passphrase blob (packed_key_of (unsealed passphrase envelope))
unfolding packed_key_of
packed_answer passphrase blob envelope unlocks = packed_by passphrase blob envelope unlocks (map_of (unsealed passphrase envelope)) refl

hash_is : (passphrase : List ℕ) (envelope : Envelope) → has_hash passphrase envelope ≡ true
    → hmac256 (key_encryption_key passphrase envelope) (unsealed passphrase envelope) ≡ envelope.hash
unfolding has_hash
hash_is passphrase envelope e = (bytes_eq-Decides (hmac256 (key_encryption_key passphrase envelope) (unsealed passphrase envelope)) envelope.hash).0 e

is_hash : (passphrase : List ℕ) (envelope : Envelope)
    → hmac256 (key_encryption_key passphrase envelope) (unsealed passphrase envelope) ≡ envelope.hash → has_hash passphrase envelope ≡ true
unfolding has_hash
is_hash passphrase envelope e = (bytes_eq-Decides (hmac256 (key_encryption_key passphrase envelope) (unsealed passphrase envelope)) envelope.hash).1 e

hashed : (passphrase blob : List ℕ) (envelope : Envelope) → IsEnvelope blob envelope → (b : Bool) → has_hash passphrase envelope ≡ b
    → KeyAnswer passphrase blob (if b then packed_key_of (unsealed passphrase envelope) else Err Passphrase)
hashed passphrase blob envelope is true e = packed_answer passphrase blob envelope (record { is = is; hash = hash_is passphrase envelope e })
hashed passphrase blob envelope is false e = tt

opened_answer : (passphrase blob : List ℕ) (envelope : Envelope) → IsEnvelope blob envelope → KeyAnswer passphrase blob (opened passphrase envelope)
unfolding opened
opened_answer passphrase blob envelope is = hashed passphrase blob envelope is (has_hash passphrase envelope) refl

inside_answer : (passphrase blob : List ℕ) (r : Result Envelope KeyFault) → Answer blob r → KeyAnswer passphrase blob (key_inside passphrase r)
inside_answer passphrase blob (Ok envelope) is = opened_answer passphrase blob envelope is
inside_answer passphrase blob (Err Pack) none = inl none
inside_answer passphrase blob (Err Field) none = inl none
inside_answer passphrase blob (Err Algorithm) other = other
inside_answer passphrase blob (Err Iterations) other = other
inside_answer passphrase blob (Err Passphrase) never = absurd never
inside_answer passphrase blob (Err Memory) never = absurd never

pub key_says : (passphrase blob : List ℕ) (answer : Result Opened KeyFault) → key_of passphrase blob ≡ answer → KeyAnswer passphrase blob answer
unfolding key_of
key_says passphrase blob answer e = subst (KeyAnswer passphrase blob) e (inside_answer passphrase blob (envelope_of blob) (answered blob))

-- what an envelope that the passphrase unlocks has inside
inside_is : (passphrase blob : List ℕ) (envelope : Envelope) → Unlocks passphrase blob envelope
    → key_of passphrase blob ≡ packed_key_of (unsealed passphrase envelope)
unfolding key_of opened
inside_is passphrase blob envelope unlocks =
    rw (says_envelope blob envelope unlocks.is, is_hash passphrase envelope unlocks.hash) refl

fault_is : (passphrase blob : List ℕ) (fault : KeyFault) → envelope_of blob ≡ Err fault → key_of passphrase blob ≡ Err fault
unfolding key_of
fault_is passphrase blob fault e = rw e refl

packed_is : (bytes : List ℕ) (pairs : Pairs) → Spells (table pairs) bytes → packed_key_of bytes ≡ key_from (Some pairs)
unfolding packed_key_of
packed_is bytes pairs spells = ap key_from (map_of-spelled bytes (table pairs) spells)

pub says_key : (passphrase blob : List ℕ) (key : Opened) → OpensTo passphrase blob key → key_of passphrase blob ≡ Ok key
says_key passphrase blob key opens =
    inside_is passphrase blob opens.envelope opens.unlocks ∙ packed_is (unsealed passphrase opens.envelope) opens.pairs opens.spells
    ∙ said_key opens.pairs key opens.fields

packed_none : (bytes : List ℕ) → IsNoMap bytes → packed_key_of bytes ≡ Err Pack
unfolding packed_key_of
packed_none bytes none = ap key_from (no_map bytes (map_of bytes) refl none)

pub says_no_map : (passphrase blob : List ℕ) → IsNoMap blob ⊎ HasNoMap passphrase blob → key_of passphrase blob ≡ Err Pack
says_no_map passphrase blob (inl none) = fault_is passphrase blob Pack (says_pack blob none)
says_no_map passphrase blob (inr none) =
    inside_is passphrase blob none.envelope none.unlocks ∙ packed_none (unsealed passphrase none.envelope) none.none

key_lacking : (pairs : Pairs) (b : Bool) → lacks_key_field pairs ≡ b → LacksKeyField pairs → b ≡ true
key_lacking pairs true e lacks = refl
key_lacking pairs false e lacks = absurd (lacks (key_in pairs) (key_there pairs e))

key_field_of : (pairs : Pairs) → lacks_key_field pairs ≡ true → key_from (Some pairs) ≡ Err Field
key_field_of pairs lacks = rw lacks refl

pub says_no_field : (passphrase blob : List ℕ) → HasNoEnvelope blob ⊎ HasNoKey passphrase blob → key_of passphrase blob ≡ Err Field
says_no_field passphrase blob (inl none) = fault_is passphrase blob Field (says_field blob none)
says_no_field passphrase blob (inr none) =
    inside_is passphrase blob none.envelope none.unlocks ∙ packed_is (unsealed passphrase none.envelope) none.pairs none.spells
    ∙ key_field_of none.pairs (key_lacking none.pairs (lacks_key_field none.pairs) refl none.lacks)

pub says_other_algorithm : (passphrase blob : List ℕ) → HasOtherAlgorithm blob → key_of passphrase blob ≡ Err Algorithm
says_other_algorithm passphrase blob has = fault_is passphrase blob Algorithm (says_algorithm blob has)

pub says_other_iterations : (passphrase blob : List ℕ) → HasOtherIterations blob → key_of passphrase blob ≡ Err Iterations
says_other_iterations passphrase blob has = fault_is passphrase blob Iterations (says_iterations blob has)
