-- What key texts mean, by the conditions of each answer.
use Rattle.std.proofs.Common.{◌≡◌, ℕ, Bool, true, false, cond, List, Option, Some, None, is_none, Result, Ok, Err, not, if◌then◌else◌, refl, subst}
use Rattle.ferry_msgpack.specs.Tree.{Pairs}
use Rattle.ferry_fields.specs.Fields.{map_of}
use Rattle.ferry_keyblob.specs.Envelope.{envelope_of, envelope_from, envelope_in, fault_or, has_sha256, iterations_in, lacks_field}
use Rattle.ferry_keyblob.specs.Opening.{Opened, has_hash, lacks_key_field, key_from, key_in, key_inside, key_of, opened, packed_key_of, unsealed}
use Rattle.ferry_keyblob.specs.declared.envelope.Envelope.{Envelope}
use Rattle.ferry_keyblob.specs.declared.fault.KeyFault.{KeyFault}
use Rattle.ferry_keyblob.specs.declared.fault.KeyFault.TheVariants.{Field, Algorithm, Iterations, Passphrase, Memory}

-- neither a wrong passphrase nor want of memory
abbrev IsOfBytes : KeyFault → Type 0
IsOfBytes Passphrase = ⊥
IsOfBytes Memory = ⊥
IsOfBytes _ = Unit {0}

abbrev AreOfBytes : {A : Type 0} → Result A KeyFault → Type 0
AreOfBytes (Ok x) = Unit {0}
AreOfBytes (Err fault) = IsOfBytes fault

envelope_among : (lacks sha : Bool) (count : Option ℕ) (e : Envelope)
    → AreOfBytes (fault_or (if lacks then Some Field else if not sha then Some Algorithm else if is_none count then Some Iterations else None) e)
envelope_among true sha count e = tt
envelope_among false false count e = tt
envelope_among false true None e = tt
envelope_among false true (Some n) e = tt

key_among : (lacks : Bool) (key : Opened) → AreOfBytes (fault_or (if lacks then Some Field else None) key)
key_among true key = tt
key_among false key = tt

of_envelope : (pairs : Option Pairs) → AreOfBytes (envelope_from pairs)
of_envelope None = tt
of_envelope (Some pairs) = envelope_among (lacks_field pairs) (has_sha256 pairs) (iterations_in pairs) (envelope_in pairs)

of_key_pairs : (pairs : Option Pairs) → AreOfBytes (key_from pairs)
of_key_pairs None = tt
of_key_pairs (Some pairs) = key_among (lacks_key_field pairs) (key_in pairs)

envelope_rule : (blob : List ℕ) → AreOfBytes (envelope_of blob)
unfolding envelope_of
envelope_rule blob = of_envelope (map_of blob)

packed_rule : (bytes : List ℕ) → AreOfBytes (packed_key_of bytes)
unfolding packed_key_of
packed_rule bytes = of_key_pairs (map_of bytes)

-- no envelope means a wrong passphrase
pub no_passphrase : (blob : List ℕ) → envelope_of blob ≡ Err Passphrase → ⊥
no_passphrase blob e = subst AreOfBytes e (envelope_rule blob)

-- ---- a wrong passphrase

test_failed : (b : Bool) (r : Result Opened KeyFault) → AreOfBytes r → cond b r (Err Passphrase) ≡ Err Passphrase → b ≡ false
test_failed true r told e = absurd (subst AreOfBytes e told)
test_failed false r told e = refl

hash_failed : (passphrase : List ℕ) (envelope : Envelope) → opened passphrase envelope ≡ Err Passphrase → has_hash passphrase envelope ≡ false
unfolding opened
hash_failed passphrase envelope e =
    test_failed (has_hash passphrase envelope) (packed_key_of (unsealed passphrase envelope)) (packed_rule (unsealed passphrase envelope)) e

inside_wrong : (passphrase blob : List ℕ) (r : Result Envelope KeyFault) → envelope_of blob ≡ r → AreOfBytes r → key_inside passphrase r ≡ Err Passphrase
    → (envelope : Envelope) × (envelope_of blob ≡ Ok envelope) × (has_hash passphrase envelope ≡ false)
inside_wrong passphrase blob (Err fault) is told e = absurd (subst AreOfBytes e told)
inside_wrong passphrase blob (Ok envelope) is told e = (envelope, is, hash_failed passphrase envelope e)

pub passphrase_wrong : (passphrase blob : List ℕ) → key_of passphrase blob ≡ Err Passphrase
    → (envelope : Envelope) × (envelope_of blob ≡ Ok envelope) × (has_hash passphrase envelope ≡ false)
unfolding key_of
passphrase_wrong passphrase blob e = inside_wrong passphrase blob (envelope_of blob) refl (envelope_rule blob) e

pub wrong_passphrase : (passphrase blob : List ℕ) (envelope : Envelope) → envelope_of blob ≡ Ok envelope → has_hash passphrase envelope ≡ false
    → key_of passphrase blob ≡ Err Passphrase
unfolding key_of opened
wrong_passphrase passphrase blob envelope is wrong = rw (is, wrong) refl

-- ---- want of memory

test_memory : (b : Bool) (r : Result Opened KeyFault) → AreOfBytes r → cond b r (Err Passphrase) ≡ Err Memory → ⊥
test_memory true r told e = subst AreOfBytes e told
test_memory false r told e = cc

opened_memory : (passphrase : List ℕ) (envelope : Envelope) → opened passphrase envelope ≡ Err Memory → ⊥
unfolding opened
opened_memory passphrase envelope e =
    test_memory (has_hash passphrase envelope) (packed_key_of (unsealed passphrase envelope)) (packed_rule (unsealed passphrase envelope)) e

inside_memory : (passphrase : List ℕ) (r : Result Envelope KeyFault) → AreOfBytes r → key_inside passphrase r ≡ Err Memory → ⊥
inside_memory passphrase (Err fault) told e = subst AreOfBytes e told
inside_memory passphrase (Ok envelope) told e = opened_memory passphrase envelope e

-- no bytes mean that memory ran out
pub no_memory : (passphrase blob : List ℕ) → key_of passphrase blob ≡ Err Memory → ⊥
unfolding key_of
no_memory passphrase blob e = inside_memory passphrase (envelope_of blob) (envelope_rule blob) e
