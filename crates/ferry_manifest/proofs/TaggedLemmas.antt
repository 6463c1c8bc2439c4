-- A map that is packed with a tag can be written, where its bytes are few enough, and is read again with its tag, which is right.
use Rattle.std.proofs.Common.{◌≡◌, ℕ, suc, ◌≤◌, ◌<◌, true, List, length, replicate, codes, inl, inr, Some, refl, sym, ap, subst, ◌∙◌, arith}
use Rattle.std.proofs.lemmas.Bool.{cases_lt}
use Rattle.sha2.proofs.Facts512.{length-sha512}
use Rattle.ferry_base.specs.Limits.{content_limit}
use Rattle.ferry_mac.specs.Hmac.{hmac512}
use Rattle.ferry_mac.specs.declared.keys.Keys.{Keys}
use Rattle.ferry_msgpack.specs.Tree.{Tree, raw, table, Pairs, no_pairs, put}
use Rattle.ferry_msgpack.specs.Writable.{depth, IsWritable}
use Rattle.ferry_fields.specs.Fields.{map_of, value_of, raw_in, raw64_in}
use Rattle.ferry_fields.specs.Sizes.{IsOrdered}
use Rattle.ferry_fields.proofs.MapLemmas.{map_of-shortest}
use Rattle.ferry_fields.proofs.PutLemmas.{bytes_eq-self, value_of-put, value_of-put_other}
use Rattle.ferry_fields.proofs.SizeLemmas.{AreOrdered, no_pairs_ordered, put_ordered, ordered_writable}
use Rattle.ferry_manifest.specs.Stated.{is_right, tag_in}
use Rattle.ferry_manifest.specs.Tag.{tag_key, tag_of}
use Rattle.ferry_manifest.specs.Tagged.{IsTaggable, packed, packed_tag, tag_pairs, tagged_pairs, tagged_text}
use Rattle.ferry_manifest.specs.Values.{pairs_of_table}
use Rattle.ferry_manifest.specs.Walk.{zeroed}
use Rattle.ferry_manifest.proofs.PartsLemmas.{packed_parts, packed_size}
use Rattle.ferry_manifest.proofs.PlaceLemmas.{zeroed-is}

-- ---- what can be written

-- pairs as the value of a name
pub table_deep : (d : ℕ) (ps : Pairs) → AreOrdered d ps → depth (table ps) ≤ suc d
table_deep d ps ordered = let deep = ordered.deep in omega arith

pub table_ordered : (d : ℕ) (ps : Pairs) → AreOrdered d ps → IsOrdered (table ps)
table_ordered d ps ordered = (ordered.increase, ordered.ordered)

tag_ordered : (hmac salt : List ℕ) → AreOrdered 0 (tag_pairs hmac salt)
unfolding tag_pairs
tag_ordered hmac salt =
    put_ordered 0 (codes "hmac") (raw hmac) _ (omega arith) tt
    (put_ordered 0 (codes "salt") (raw salt) _ (omega arith) tt
    (put_ordered 0 (codes "type") (raw (codes "HKDF_HMAC_SHA512")) no_pairs (omega arith) tt (no_pairs_ordered 0)))

pub ordered_taggable : (ps : Pairs) → AreOrdered 63 ps → IsTaggable (table ps)
ordered_taggable ps ordered =
    let deep = ordered.deep in
    record { is_table = refl; deep = omega arith; ordered = table_ordered 63 ps ordered }

taggable_ordered : (t : Tree) → IsTaggable t → AreOrdered 63 (pairs_of_table t)
taggable_ordered t taggable =
    let ps = pairs_of_table t in
    let ordered : IsOrdered (table ps) = subst IsOrdered taggable.is_table taggable.ordered in
    let deep : depth (table ps) ≤ 64 = subst (λ (u : Tree). depth u ≤ 64) taggable.is_table taggable.deep in
    record { deep = omega arith; increase = ordered.0; ordered = ordered.1 }

tagged_ordered : (ps : Pairs) (hmac salt : List ℕ) → AreOrdered 63 ps → AreOrdered 63 (tagged_pairs ps hmac salt)
unfolding tagged_pairs
tagged_ordered ps hmac salt ordered =
    let deep = table_deep 0 (tag_pairs hmac salt) (tag_ordered hmac salt) in
    put_ordered 63 (codes "tam") (table (tag_pairs hmac salt)) ps (omega arith) (table_ordered 0 (tag_pairs hmac salt) (tag_ordered hmac salt)) ordered

short_writable : (ps : Pairs) (hmac salt : List ℕ) → AreOrdered 63 ps → length (packed ps hmac salt) ≤ content_limit
    → IsWritable (table (tagged_pairs ps hmac salt))
unfolding packed
short_writable ps hmac salt ordered short = ordered_writable (tagged_pairs ps hmac salt) (tagged_ordered ps hmac salt ordered) (omega arith)

either_size : (n : ℕ) (P : Type 0) → (n ≤ content_limit → P) → (P → ⊥) → content_limit < n
either_size n P short not_so =
    elim (cases_lt content_limit n) [
      | inl more ↦ more
      | inr few ↦ absurd (not_so (short few))
    ]

-- what can't be written is too large
pub packed_large : (t : Tree) (hmac salt : List ℕ) → IsTaggable t → (IsWritable (table (tagged_pairs (pairs_of_table t) hmac salt)) → ⊥)
    → content_limit < length (packed (pairs_of_table t) hmac salt)
packed_large t hmac salt taggable not_so =
    either_size (length (packed (pairs_of_table t) hmac salt)) (IsWritable (table (tagged_pairs (pairs_of_table t) hmac salt)))
    (short_writable (pairs_of_table t) hmac salt (taggable_ordered t taggable)) not_so

-- ---- the tag that is stated

pub raw_said : (name : List ℕ) (fields : Pairs) (content : List ℕ) → value_of name fields ≡ Some (raw content) → raw_in name fields ≡ Some content
raw_said name fields content is = rw is refl

raw64_said : (name : List ℕ) (fields : Pairs) (content : List ℕ) → value_of name fields ≡ Some (raw content) → length content ≡ 64
    → raw64_in name fields ≡ Some content
raw64_said name fields content is size = rw (is, size) refl

-- the values in the map of a tag: its type, the tag and the salt
tag_fields : (hmac salt : List ℕ) → (value_of (codes "type") (tag_pairs hmac salt) ≡ Some (raw (codes "HKDF_HMAC_SHA512")))
    × (value_of (codes "hmac") (tag_pairs hmac salt) ≡ Some (raw hmac)) × (value_of (codes "salt") (tag_pairs hmac salt) ≡ Some (raw salt))
unfolding tag_pairs
tag_fields hmac salt =
    let typed = put (codes "type") (raw (codes "HKDF_HMAC_SHA512")) no_pairs in
    let salted = put (codes "salt") (raw salt) typed in (
      value_of-put_other (codes "type") (codes "hmac") (raw hmac) salted refl ∙ value_of-put_other (codes "type") (codes "salt") (raw salt) typed refl
          ∙ value_of-put (codes "type") (raw (codes "HKDF_HMAC_SHA512")) no_pairs,
      value_of-put (codes "hmac") (raw hmac) salted,
      value_of-put_other (codes "salt") (codes "hmac") (raw hmac) salted refl ∙ value_of-put (codes "salt") (raw salt) typed,
    )

pub tag_said : (ps : Pairs) (hmac salt : List ℕ) → length hmac ≡ 64 → length salt ≡ 64
    → tag_in (tagged_pairs ps hmac salt) ≡ Some (Some (record { hmac = hmac; salt = salt }))
unfolding tagged_pairs
tag_said ps hmac salt hmac_size salt_size =
    let fields = tag_pairs hmac salt in
    let parts = tag_fields hmac salt in
    rw (
      value_of-put (codes "tam") (table fields) ps,
      raw_said (codes "type") fields (codes "HKDF_HMAC_SHA512") parts.0,
      raw64_said (codes "hmac") fields hmac parts.1 hmac_size,
      raw64_said
          (codes "salt") fields salt parts.2 salt_size,
    ) refl

-- ---- it is right

-- the tag of packed bytes is made of the same with 64 zero bytes
packed_zeroed : (ps : Pairs) (hmac salt : List ℕ) → IsWritable (table (tagged_pairs ps hmac salt)) → length hmac ≡ 64
    → zeroed (packed ps hmac salt) ≡ packed ps (replicate 64 0) salt
packed_zeroed ps hmac salt writable size =
    let parts = packed_parts ps hmac salt writable in
    zeroed-is (packed ps hmac salt) parts.front hmac parts.back (parts.stands hmac size) ∙ sym (parts.parts (replicate 64 0) refl)

length-hmac512 : (key text : List ℕ) → length (hmac512 key text) ≡ 64
unfolding hmac512
length-hmac512 key text = length-sha512 _

pub length-packed_tag : (info : List ℕ) (keys : Keys) (salt : List ℕ) (ps : Pairs) → length (packed_tag info keys salt ps) ≡ 64
unfolding packed_tag
length-packed_tag info keys salt ps = length-hmac512 (tag_key info keys salt) (packed ps (replicate 64 0) salt)

tag_is : (info : List ℕ) (keys : Keys) (salt : List ℕ) (ps : Pairs) → IsWritable (table (tagged_pairs ps (packed_tag info keys salt ps) salt))
    → tag_of info keys salt (tagged_text info keys salt ps) ≡ packed_tag info keys salt ps
unfolding tag_of tagged_text packed_tag
tag_is info keys salt ps writable =
    ap (hmac512 (tag_key info keys salt)) (packed_zeroed ps (packed_tag info keys salt ps) salt writable (length-packed_tag info keys salt ps))

pub tag_right : (info : List ℕ) (keys : Keys) (salt : List ℕ) (ps : Pairs) → IsWritable (table (tagged_pairs ps (packed_tag info keys salt ps) salt))
    → is_right info keys (tagged_text info keys salt ps) (record { hmac = packed_tag info keys salt ps; salt = salt }) ≡ true
tag_right info keys salt ps writable = rw (tag_is info keys salt ps writable) (bytes_eq-self (packed_tag info keys salt ps))

pub tagged_map : (info : List ℕ) (keys : Keys) (salt : List ℕ) (ps : Pairs) → IsWritable (table (tagged_pairs ps (packed_tag info keys salt ps) salt))
    → map_of (tagged_text info keys salt ps) ≡ Some (tagged_pairs ps (packed_tag info keys salt ps) salt)
unfolding tagged_text packed
tagged_map info keys salt ps writable = map_of-shortest (tagged_pairs ps (packed_tag info keys salt ps) salt) writable

-- where the blank bytes are too many, those with the tag are
pub blank_large : (info : List ℕ) (keys : Keys) (salt : List ℕ) (ps : Pairs) → content_limit < length (packed ps (replicate 64 0) salt)
    → content_limit < length (tagged_text info keys salt ps)
unfolding tagged_text
blank_large info keys salt ps large =
    let zeros : List ℕ = replicate 64 0 in
    let sizes : length zeros ≡ length (packed_tag info keys salt ps) = sym (length-packed_tag info keys salt ps) in
    subst (λ (n : ℕ). content_limit < n) (packed_size ps zeros (packed_tag info keys salt ps) salt sizes) large
