-- The tag that a map states: what it is made of, and where it stands.
use Rattle.std.proofs.Common.{◌≡◌, ◌≢◌, ℕ, Bool, true, false, cond, ◌==◌, eqb→eq, List, length, codes, Option, Some, None, is_none, unwrap_or, option_map}
use Rattle.std.proofs.Common.{option_and_then, if◌then◌else◌, refl, sym, ap, ◌∙◌}
use Rattle.std.specs.Str.{bytes_eq}
use Rattle.std.proofs.lemmas.Slice.Eq.{bytes_eq-Decides}
use Rattle.ferry_mac.specs.Hmac.{hmac512}
use Rattle.ferry_mac.specs.declared.keys.Keys.{Keys}
use Rattle.ferry_msgpack.specs.Tree.{Tree, nil, flag, number, raw, array, table, Pairs}
use Rattle.ferry_fields.specs.Fields.{map_of, value_of, raw_of, of_64, raw_in, raw64_in, pairs_in}
use Rattle.ferry_fields.proofs.MapLemmas.{spelled-map_of}
use Rattle.ferry_manifest.specs.Stated.{IsTagged, StatesTag, has_known_type, is_right, tag_from, tag_in}
use Rattle.ferry_manifest.specs.Tag.{tag_key, tag_of}
use Rattle.ferry_manifest.specs.Values.{where_absent}
use Rattle.ferry_manifest.specs.declared.stated.StatedTag.{StatedTag}
use Rattle.ferry_manifest.proofs.PlaceLemmas.{zeroed-is}
use Rattle.ferry_manifest.proofs.TagLemmas.{tag_stands}

-- ---- the tag that is stated

known_tag : (b : Bool) (hmac salt : Option (List ℕ)) (tag : StatedTag)
    → (if b then option_and_then (λ h. option_map (λ s. record { hmac = h; salt = s }) salt) hmac else None) ≡ Some tag
    → (hmac ≡ Some tag.hmac) × (salt ≡ Some tag.salt)
known_tag false hmac salt tag e = absurd cc
known_tag true None salt tag e = absurd cc
known_tag true (Some h) None tag e = absurd cc
known_tag true (Some h) (Some s) tag e =
    let same : record { hmac = h; salt = s } ≡ tag = cc in (ap (λ (t : StatedTag). Some t.hmac) same, ap (λ (t : StatedTag). Some t.salt) same)

known_again : (b : Bool) (h s : List ℕ) (tag : Option StatedTag) → (if b then Some (record { hmac = h; salt = s }) else None) ≡ tag → is_none tag ≡ false
    → tag ≡ Some (record { hmac = h; salt = s })
known_again true h s tag e some = sym e
known_again false h s None e some = absurd cc
known_again false h s (Some t) e some = absurd cc

abbrev stated_by : Tree → Option StatedTag
stated_by t = option_and_then tag_from (pairs_in t)

tree_states : (all : Pairs) (t : Tree) (tag : StatedTag) → value_of (codes "tam") all ≡ Some t → stated_by t ≡ Some tag → StatesTag all tag.hmac tag.salt
tree_states all nil tag is e = absurd cc
tree_states all (flag b) tag is e = absurd cc
tree_states all (number z) tag is e = absurd cc
tree_states all (raw content) tag is e = absurd cc
tree_states all (array items) tag is e = absurd cc
tree_states all (table tam) tag is e =
    let both = known_tag (has_known_type tam) (raw64_in (codes "hmac") tam) (raw64_in (codes "salt") tam) tag e in (tam, is, both.0, both.1)

some_stated : (o : Option StatedTag) (tag : StatedTag) → option_map Some o ≡ Some (Some tag) → o ≡ Some tag
some_stated None tag e = absurd cc
some_stated (Some t) tag e = cc

option_states : (all : Pairs) (o : Option Tree) (tag : StatedTag) → value_of (codes "tam") all ≡ o
    → where_absent None (λ t. option_map Some (stated_by t)) o ≡ Some (Some tag) → StatesTag all tag.hmac tag.salt
option_states all None tag is e = absurd cc
option_states all (Some t) tag is e = tree_states all t tag is (some_stated (stated_by t) tag e)

pub states : (all : Pairs) (tag : StatedTag) → tag_in all ≡ Some (Some tag) → StatesTag all tag.hmac tag.salt
states all tag e = option_states all (value_of (codes "tam") all) tag refl e

none_stated : (o : Option StatedTag) → option_map Some o ≡ Some None → ⊥
none_stated None e = cc
none_stated (Some t) e = cc

pub option_absent : (o : Option Tree) → where_absent None (λ t. option_map Some (stated_by t)) o ≡ Some None → o ≡ None
option_absent None e = refl
option_absent (Some t) e = absurd (none_stated (stated_by t) e)

pub is_some_tag : (o : Option (Option StatedTag)) (tag : Option StatedTag) → is_none o ≡ false → unwrap_or o None ≡ tag → o ≡ Some tag
is_some_tag None tag some e = absurd cc
is_some_tag (Some t) tag some e = ap (λ x. Some x) e

mapped_some : (o : Option StatedTag) → is_none (option_map Some o) ≡ false → is_none o ≡ false
mapped_some None some = some
mapped_some (Some t) some = refl

pub stated : (all : Pairs) (hmac salt : List ℕ) → StatesTag all hmac salt → is_none (tag_in all) ≡ false
    → tag_in all ≡ Some (Some (record { hmac = hmac; salt = salt }))
stated all hmac salt (tam, is, hmac_is, salt_is) read =
    let here : tag_in all ≡ option_map Some (tag_from tam) = rw is refl in
    let some : is_none (tag_from tam) ≡ false = mapped_some (tag_from tam) (sym (ap (λ o. is_none o) here) ∙ read) in
    let tag : (if has_known_type tam then Some (record { hmac = hmac; salt = salt }) else None) ≡ tag_from tam = rw (hmac_is, salt_is) refl in
    here ∙ ap (λ o. option_map Some o) (known_again (has_known_type tam) hmac salt (tag_from tam) tag some)

-- ---- the tag and its bytes

pub unequal : (a b : List ℕ) → bytes_eq a b ≡ false → a ≢ b
unequal a b e same = let both : true ≡ false = sym ((bytes_eq-Decides a b).1 same) ∙ e in cc

-- the value of a name that has 64 bytes

pub raw_value : (t : Tree) (content : List ℕ) → raw_of t ≡ Some content → t ≡ raw content
raw_value nil content e = absurd cc
raw_value (flag b) content e = absurd cc
raw_value (number z) content e = absurd cc
raw_value (raw c) content e = cc
raw_value (array items) content e = absurd cc
raw_value (table pairs) content e = absurd cc

option_raw : (o : Option Tree) (content : List ℕ) → option_and_then raw_of o ≡ Some content → o ≡ Some (raw content)
option_raw None content e = absurd cc
option_raw (Some t) content e = ap (λ (u : Tree). Some u) (raw_value t content e)

sized_64 : (b : Bool) (c content : List ℕ) → (length c == 64) ≡ b → cond b (Some c) None ≡ Some content → (Some c ≡ Some content) × (length content ≡ 64)
sized_64 true c content is e =
    let same : c ≡ content = cc in
    let size : length c ≡ 64 = eqb→eq (length c) 64 (rw is tt) in
    (e, ap length (sym same) ∙ size)
sized_64 false c content is e = absurd cc

option_64 : (o : Option (List ℕ)) (content : List ℕ) → option_and_then of_64 o ≡ Some content → (o ≡ Some content) × (length content ≡ 64)
option_64 None content e = absurd cc
option_64 (Some c) content e = sized_64 (length c == 64) c content refl e

value_64 : (name : List ℕ) (tam : Pairs) (content : List ℕ) → raw64_in name tam ≡ Some content
    → (value_of name tam ≡ Some (raw content)) × (length content ≡ 64)
value_64 name tam content e =
    let both = option_64 (raw_in name tam) content e in
    (option_raw (value_of name tam) content both.0, both.1)

-- a stated tag that is right has its place
pub right_tagged : (info : List ℕ) (keys : Keys) (bytes : List ℕ) (all : Pairs) (tag : StatedTag) → map_of bytes ≡ Some all
    → tag_in all ≡ Some (Some tag) → is_right info keys bytes tag ≡ true → IsTagged info keys bytes all
unfolding tag_of
right_tagged info keys bytes all tag is read right =
    let said = states all tag read in
    let value = value_64 (codes "hmac") said.0 tag.hmac said.2 in
    let place = tag_stands bytes tag.hmac all said.0 (spelled-map_of bytes all is) said.1 value.0 value.1 in
    let same : tag_of info keys tag.salt bytes ≡ tag.hmac = (bytes_eq-Decides (tag_of info keys tag.salt bytes) tag.hmac).0 right in
    record {
      hmac = tag.hmac;
      salt = tag.salt;
      front = place.0;
      back = place.1.0;
      states = said;
      stands = place.1.1;
      tag = sym same ∙ ap (hmac512 (tag_key info keys tag.salt)) (zeroed-is bytes place.0 tag.hmac place.1.0 place.1.1);
    }
