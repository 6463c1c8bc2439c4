-- The fields of a key.
use Rattle.std.proofs.Common.{◌≡◌, ℕ, true, List, codes, ℤ, Some, None, refl}
use Rattle.ferry_msgpack.specs.Tree.{Pairs}
use Rattle.ferry_fields.specs.Fields.{has_version_1, number_in, raw32_in}
use Rattle.ferry_keyblob.specs.Opening.{key_fault}

-- fields that are all there have no fault
pub no_key_fault : (pairs : Pairs) (id enc mac ids : List ℕ) (seed : ℤ) → has_version_1 pairs ≡ true
    → raw32_in (codes "repository_id") pairs ≡ Some id → raw32_in (codes "enc_key") pairs ≡ Some enc → raw32_in (codes "enc_hmac_key") pairs ≡ Some mac
    → raw32_in (codes "id_key") pairs ≡ Some ids → number_in (codes "chunk_seed") pairs ≡ Some seed → key_fault pairs ≡ None
no_key_fault pairs id enc mac ids seed e0 e1 e2 e3 e4 e5 = rw (e0, e1, e2, e3, e4, e5) refl
