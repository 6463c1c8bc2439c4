-- Lemmas on specs/Blob.antt.
use Rattle.std.proofs.Common.{◌≡◌, ◌⊎◌, ◌↔◌, ℕ, ◌+◌, ◌-◌, ◌<◌, ◌≤◌, Bool, true, false, List, [], ◌++◌, length, take, drop, slice_index, Option, Some}
use Rattle.std.proofs.Common.{None, refl, sym, ap, subst, ◌∙◌, inl, inr, arith, eqb-true, length-append, rules}
use Rattle.std.specs.Prelude.{◌==◌, nat_lt, not, ◌||◌, if◌then◌else◌}
use Rattle.std.specs.Bool.{Decides}
use Rattle.std.specs.Str.{bytes_eq}
use Rattle.std.proofs.lemmas.Bool.{ltb-false, lt-ltb, le-ltb, or_cases}
use borrow.Rule.Slice.PartMut.{put_mid}
use Rattle.std.proofs.lemmas.List.{append-nil, drop_all, take-append-drop, take_at, drop_at, drop-drop, length-take-le, length-drop}
use Rattle.std.proofs.lemmas.Slice.Eq.{bytes_eq-Decides}
use Rattle.ferry_mac.specs.Hmac.{hmac256}
use Rattle.ferry_mac.specs.declared.keys.Keys.{Keys}
use Rattle.ferry_aes.proofs.CallerLemmas.{length-ctr}
use Rattle.ferry_base.specs.Limits.{zero_id}
use Rattle.ferry_blob.specs.Blob.{IsType, OpensTo, blob_fault, content_id, decrypted, has_mac, has_type, is_named, is_plain, no_compression}
use Rattle.ferry_blob.specs.Blob.{nonce_of, plaintext}
use Rattle.ferry_blob.specs.declared.fault.BlobFault.{BlobFault}
use Rattle.ferry_blob.specs.declared.fault.BlobFault.TheVariants.{Kind, Short, Mac, Compressed, Id}

-- ---- a part up to the end

pub put_rest : (at : ℕ) (xs ys : List ℕ) → at ≤ length xs → put_mid at (length xs - at) xs ys ≡ take at xs ++ ys
put_rest at xs ys within =
    let none : drop (length xs - at) (drop at xs) ≡ [] = drop-drop (length xs - at) at xs ∙ drop_all (at + (length xs - at)) xs (omega arith) in
    rw (none, append-nil) refl

-- ---- tests and facts

-- what `same` tells, as a test
pub tested : (xs ys : List ℕ) (r : Bool) → (r ≡ true) ↔ (xs ≡ ys) → r ≡ bytes_eq xs ys
tested xs ys r h = search (rules, bytes_eq-Decides)

-- ---- is_named

pub named_zero : (keys : Keys) (id content : List ℕ) → bytes_eq id zero_id ≡ true → is_named keys id content ≡ true
unfolding is_named
named_zero keys id content zero = rw zero refl

pub named_other : (keys : Keys) (id content : List ℕ) → bytes_eq id zero_id ≡ false → is_named keys id content ≡ bytes_eq id (content_id keys content)
unfolding is_named
named_other keys id content other = rw other refl

-- ---- plaintext

pub length-plaintext : (keys : Keys) (blob : List ℕ) → length (plaintext keys blob) ≡ length blob - 41
unfolding plaintext
length-plaintext keys blob = length-ctr keys.enc_key (nonce_of blob) (drop 41 blob) ∙ length-drop 41 blob

-- ---- decrypted

pub drop-decrypted : (keys : Keys) (blob : List ℕ) → 41 ≤ length blob → drop 41 (decrypted keys blob) ≡ plaintext keys blob
unfolding decrypted
drop-decrypted keys blob room = drop_at (take 41 blob) (plaintext keys blob) 41 (length-take-le 41 blob room)

pub content-decrypted : (keys : Keys) (blob : List ℕ) → 41 ≤ length blob → drop 43 (decrypted keys blob) ≡ drop 2 (plaintext keys blob)
content-decrypted keys blob room = sym (drop-drop 2 41 (decrypted keys blob)) ∙ ap (drop 2) (drop-decrypted keys blob room)

pub length-decrypted : (keys : Keys) (blob : List ℕ) → 41 ≤ length blob → length (decrypted keys blob) ≡ length blob
unfolding decrypted
length-decrypted keys blob room =
    let joined = length-append (take 41 blob) (plaintext keys blob) in
    omega (arith, length-take-le 41 blob room, length-plaintext keys blob)

-- ---- has_type

typed_by : (kind : ℕ) → has_type kind ≡ true → IsType kind
unfolding has_type
typed_by kind e =
    elim (or_cases (kind == 3) (kind == 0) e) [
      | inl repokey ↦ inl (eqb-true kind 3 repokey)
      | inr keyfile ↦ inr (eqb-true kind 0 keyfile)
    ]

by_type : (kind : ℕ) → IsType kind → has_type kind ≡ true
unfolding has_type
by_type kind (inl repokey) = rw repokey refl
by_type kind (inr keyfile) = rw keyfile refl

pub has_type-Decides : (kind : ℕ) → Decides (has_type kind) (IsType kind)
has_type-Decides kind = (typed_by kind, by_type kind)

-- ---- blob_fault

-- the first of the five tests that fails
abbrev pub chain : Bool → Bool → Bool → Bool → Bool → Option BlobFault
chain short kind mac plain named =
    if short then Some Short
    else if not kind then Some Kind
    else if not mac then Some Mac
    else if not plain then Some Compressed
    else if not named then Some Id
    else None

-- what an answer tells of the five tests
abbrev pub Told : Option BlobFault → Bool → Bool → Bool → Bool → Bool → Type 0
Told (Some Short) short kind mac plain named = short ≡ true
Told (Some Kind) short kind mac plain named = (short ≡ false) × (kind ≡ false)
Told (Some Mac) short kind mac plain named = (short ≡ false) × (kind ≡ true) × (mac ≡ false)
Told (Some Compressed) short kind mac plain named = (short ≡ false) × (kind ≡ true) × (mac ≡ true) × (plain ≡ false)
Told (Some Id) short kind mac plain named = (short ≡ false) × (kind ≡ true) × (mac ≡ true) × (plain ≡ true) × (named ≡ false)
Told None short kind mac plain named = (short ≡ false) × (kind ≡ true) × (mac ≡ true) × (plain ≡ true) × (named ≡ true)

told_by_chain : (short kind mac plain named : Bool) → Told (chain short kind mac plain named) short kind mac plain named
told_by_chain true kind mac plain named = refl
told_by_chain false false mac plain named = (refl, refl)
told_by_chain false true false plain named = (refl, refl, refl)
told_by_chain false true true false named = (refl, refl, refl, refl)
told_by_chain false true true true false = (refl, refl, refl, refl, refl)
told_by_chain false true true true true = (refl, refl, refl, refl, refl)

-- the five tests of a blob
abbrev pub ToldOf : Keys → List ℕ → List ℕ → Option BlobFault → Type 0
ToldOf keys id blob r =
    Told r (nat_lt (length blob) 43) (has_type (slice_index blob 0)) (has_mac keys blob) (is_plain keys blob) (is_named keys id (drop 2 (plaintext keys blob)))

pub told_by : (keys : Keys) (id blob : List ℕ) (r : Option BlobFault) → blob_fault keys id blob ≡ r → ToldOf keys id blob r
unfolding blob_fault
told_by keys id blob r e =
    subst (ToldOf keys id blob) e
    (told_by_chain (nat_lt (length blob) 43) (has_type (slice_index blob 0)) (has_mac keys blob) (is_plain keys blob)
    (is_named keys id (drop 2 (plaintext keys blob))))

pub fault_short : (keys : Keys) (id blob : List ℕ) → length blob < 43 → blob_fault keys id blob ≡ Some Short
unfolding blob_fault
fault_short keys id blob few = rw (lt-ltb (length blob) 43 few) refl

pub fault_kind : (keys : Keys) (id blob : List ℕ) → 43 ≤ length blob → has_type (slice_index blob 0) ≡ false → blob_fault keys id blob ≡ Some Kind
unfolding blob_fault
fault_kind keys id blob room other = rw (le-ltb (length blob) 43 room, other) refl

pub fault_mac : (keys : Keys) (id blob : List ℕ) → 43 ≤ length blob → has_type (slice_index blob 0) ≡ true → has_mac keys blob ≡ false
    → blob_fault keys id blob ≡ Some Mac
unfolding blob_fault
fault_mac keys id blob room kind mac = rw (le-ltb (length blob) 43 room, kind, mac) refl

pub fault_compressed : (keys : Keys) (id blob : List ℕ) → 43 ≤ length blob → has_type (slice_index blob 0) ≡ true → has_mac keys blob ≡ true
    → is_plain keys blob ≡ false
    → blob_fault keys id blob ≡ Some Compressed
unfolding blob_fault
fault_compressed keys id blob room kind mac plain = rw (le-ltb (length blob) 43 room, kind, mac, plain) refl

pub fault_by_name : (keys : Keys) (id blob : List ℕ) (named : Bool) → 43 ≤ length blob → has_type (slice_index blob 0) ≡ true → has_mac keys blob ≡ true
    → is_plain keys blob ≡ true
    → is_named keys id (drop 2 (plaintext keys blob)) ≡ named → blob_fault keys id blob ≡ (if named then None else Some Id)
unfolding blob_fault
fault_by_name keys id blob true room kind mac plain named = rw (le-ltb (length blob) 43 room, kind, mac, plain, named) refl
fault_by_name keys id blob false room kind mac plain named = rw (le-ltb (length blob) 43 room, kind, mac, plain, named) refl

-- what the two bytes behind byte 41 tell once a blob is decrypted
pub plain_read : (keys : Keys) (blob now : List ℕ) (r : Bool) → 43 ≤ length blob → now ≡ decrypted keys blob
    → (r ≡ true) ↔ (take 2 (drop 41 now) ≡ no_compression) → is_plain keys blob ≡ r
unfolding is_plain
plain_read keys blob now r room is told =
    let e : drop 41 now ≡ plaintext keys blob = ap (drop 41) is ∙ drop-decrypted keys blob (omega arith) in
    ap (λ text. bytes_eq (take 2 text) no_compression) (sym e) ∙ sym (tested (take 2 (drop 41 now)) no_compression r told)

-- what the bytes from byte 43 on tell then
pub name_read : (keys : Keys) (id blob now : List ℕ) (r : Bool) → 43 ≤ length blob → now ≡ decrypted keys blob → r ≡ is_named keys id (drop 43 now)
    → is_named keys id (drop 2 (plaintext keys blob)) ≡ r
name_read keys id blob now r room is told =
    let e : drop 43 now ≡ drop 2 (plaintext keys blob) = ap (drop 43) is ∙ content-decrypted keys blob (omega arith) in
    ap (is_named keys id) (sym e) ∙ sym told

-- ---- OpensTo

pub has_mac-Decides : (keys : Keys) (blob : List ℕ) → Decides (has_mac keys blob) (take 32 (drop 1 blob) ≡ hmac256 keys.enc_hmac_key (drop 33 blob))
unfolding has_mac
has_mac-Decides keys blob = bytes_eq-Decides (take 32 (drop 1 blob)) (hmac256 keys.enc_hmac_key (drop 33 blob))

pub is_plain-Decides : (keys : Keys) (blob : List ℕ) → Decides (is_plain keys blob) (take 2 (plaintext keys blob) ≡ no_compression)
unfolding is_plain
is_plain-Decides keys blob = bytes_eq-Decides (take 2 (plaintext keys blob)) no_compression

or_true : (b : Bool) → (b || true) ≡ true
or_true true = refl
or_true false = refl

named_by : (keys : Keys) (id content : List ℕ) → is_named keys id content ≡ true → (id ≡ zero_id) ⊎ (id ≡ content_id keys content)
unfolding is_named
named_by keys id content e =
    elim (or_cases (bytes_eq id zero_id) (bytes_eq id (content_id keys content)) e) [
      | inl zero ↦ inl ((bytes_eq-Decides id zero_id).0 zero)
      | inr own ↦ inr ((bytes_eq-Decides id (content_id keys content)).0 own)
    ]

by_name : (keys : Keys) (id content : List ℕ) → (id ≡ zero_id) ⊎ (id ≡ content_id keys content) → is_named keys id content ≡ true
unfolding is_named
by_name keys id content (inl zero) = rw ((bytes_eq-Decides id zero_id).1 zero) refl
by_name keys id content (inr own) = rw ((bytes_eq-Decides id (content_id keys content)).1 own) (or_true (bytes_eq id zero_id))

pub is_named-Decides : (keys : Keys) (id content : List ℕ) → Decides (is_named keys id content) ((id ≡ zero_id) ⊎ (id ≡ content_id keys content))
is_named-Decides keys id content = (named_by keys id content, by_name keys id content)

pub no_fault_opens : (keys : Keys) (id blob : List ℕ) → blob_fault keys id blob ≡ None → OpensTo keys id blob (drop 2 (plaintext keys blob))
no_fault_opens keys id blob e =
    let text = plaintext keys blob in
    let told = told_by keys id blob None e in
    record {
      size = ltb-false (length blob) 43 told.0;
      kind = (has_type-Decides (slice_index blob 0)).0 told.1;
      mac = (has_mac-Decides keys blob).0 told.2;
      plain = sym (take-append-drop 2 text) ∙ ap (λ front. front ++ drop 2 text) ((is_plain-Decides keys blob).0 told.3);
      named = (is_named-Decides keys id (drop 2 text)).0 told.4;
    }

pub content_is : (keys : Keys) (id blob content : List ℕ) → OpensTo keys id blob content → content ≡ drop 2 (plaintext keys blob)
content_is keys id blob content h = sym (ap (drop 2) h.plain ∙ drop_at no_compression content 2 refl)

pub opens_no_fault : (keys : Keys) (id blob content : List ℕ) → OpensTo keys id blob content → blob_fault keys id blob ≡ None
opens_no_fault keys id blob content h =
    let plain = (is_plain-Decides keys blob).1 (ap (take 2) h.plain ∙ take_at no_compression content 2 refl) in
    let named = ap (is_named keys id) (sym (content_is keys id blob content h)) ∙ (is_named-Decides keys id content).1 h.named in
    fault_by_name keys id blob true h.size ((has_type-Decides (slice_index blob 0)).1 h.kind) ((has_mac-Decides keys blob).1 h.mac) plain named

-- a content that is what stands behind the header, where no rule is broken
pub opened_at : (keys : Keys) (id blob content : List ℕ) → blob_fault keys id blob ≡ None → content ≡ drop 2 (plaintext keys blob)
    → OpensTo keys id blob content
opened_at keys id blob content none is = subst (OpensTo keys id blob) (sym is) (no_fault_opens keys id blob none)
