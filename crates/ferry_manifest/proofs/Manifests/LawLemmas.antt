-- What packed bytes mean, by the conditions of each answer.
use Rattle.std.proofs.Common.{◌≡◌, ◌≢◌, ◌⊎◌, inl, inr, sym, ℕ, ◌<◌, ◌^◌, [], get_or, Bool, true, false, cond}
use Rattle.std.proofs.Common.{◌||◌, List, codes, Option, Some, None, is_none, unwrap_or}
use Rattle.std.proofs.Common.{Result, Ok, Err, refl, ap, subst, ◌∙◌}
use Rattle.std.specs.Str.{bytes_eq}
use Rattle.std.proofs.lemmas.Slice.Eq.{bytes_eq-Decides}
use Rattle.ferry_mac.specs.declared.keys.Keys.{Keys}
use Rattle.ferry_msgpack.specs.Tree.{table, Pairs, no_pairs}
use Rattle.ferry_msgpack.specs.Writable.{IsWritable}
use Rattle.ferry_msgpack.proofs.WritableLemmas.{AreBytes-from, spelled_writable}
use Rattle.ferry_fields.specs.Fields.{map_of, value_of}
use Rattle.ferry_fields.proofs.MapLemmas.{spelled-map_of}
use Rattle.ferry_manifest.specs.Manifest.Text.{ManifestText, archives_in, config_in, item_keys_in, lacks_field, manifest_from, manifest_of, text_in}
use Rattle.ferry_manifest.specs.Manifest.Text.{timestamp_in, with_tag}
use Rattle.ferry_manifest.specs.Manifest.Laws.{IsRead}
use Rattle.ferry_manifest.specs.Manifest.Writing.{IsPackable}
use Rattle.ferry_manifest.specs.Stated.{IsTagged, StatesTag, is_right, tag_in}
use Rattle.ferry_manifest.specs.Tag.{manifest_info, tag_of}
use Rattle.ferry_manifest.specs.declared.stated.StatedTag.{StatedTag}
use Rattle.ferry_manifest.specs.declared.fault.MetaFault.{MetaFault}
use Rattle.ferry_manifest.specs.declared.fault.MetaFault.TheVariants.{Pack, Field, TagMissing, Tag, TooLarge, Memory}
use Rattle.ferry_manifest.proofs.PlaceLemmas.{bytes_differ}
use Rattle.ferry_manifest.proofs.StatedLemmas.{is_some_tag, option_absent, right_tagged, stated, states, unequal}
use Rattle.ferry_manifest.proofs.Manifests.PackableLemmas.{text_packable}

-- ---- the tag that is stated

pub or_right : (a b : Bool) → (a || b) ≡ false → b ≡ false
or_right false b e = e
or_right true b e = cc

tag_read : (all : Pairs) → lacks_field all ≡ false → is_none (tag_in all) ≡ false
tag_read all whole = or_right _ (is_none (tag_in all)) whole

-- ---- no map, and a wrong field

tested_pack : (b : Bool) (text : ManifestText) → cond b (Ok text) (Err Tag) ≡ Err Pack → ⊥
tested_pack true text e = cc
tested_pack false text e = cc

pack_at : (b : Bool) (keys : Keys) (bytes : List ℕ) (text : ManifestText) (tag : Option StatedTag)
    → cond b (Err Field) (with_tag keys bytes text tag) ≡ Err Pack → ⊥
pack_at true keys bytes text tag e = cc
pack_at false keys bytes text None e = cc
pack_at false keys bytes text (Some t) e = tested_pack (is_right manifest_info keys bytes t) text e

pack_from : (keys : Keys) (bytes : List ℕ) (found : Option Pairs) → manifest_from keys bytes found ≡ Err Pack → found ≡ None
pack_from keys bytes None e = refl
pack_from keys bytes (Some all) e = absurd (pack_at (lacks_field all) keys bytes (text_in all) (unwrap_or (tag_in all) None) e)

pub pack_says : (keys : Keys) (bytes : List ℕ) → manifest_of keys bytes ≡ Err Pack → map_of bytes ≡ None
unfolding manifest_of
pack_says keys bytes e = pack_from keys bytes (map_of bytes) e

pub says_pack : (keys : Keys) (bytes : List ℕ) → map_of bytes ≡ None → manifest_of keys bytes ≡ Err Pack
unfolding manifest_of
says_pack keys bytes is = rw is refl

tested_field : (b : Bool) (text : ManifestText) → cond b (Ok text) (Err Tag) ≡ Err Field → ⊥
tested_field true text e = cc
tested_field false text e = cc

field_at : (b : Bool) (keys : Keys) (bytes : List ℕ) (text : ManifestText) (tag : Option StatedTag)
    → cond b (Err Field) (with_tag keys bytes text tag) ≡ Err Field → b ≡ true
field_at true keys bytes text tag e = refl
field_at false keys bytes text None e = absurd cc
field_at false keys bytes text (Some t) e = absurd (tested_field (is_right manifest_info keys bytes t) text e)

field_from : (keys : Keys) (bytes : List ℕ) (found : Option Pairs) → map_of bytes ≡ found → manifest_from keys bytes found ≡ Err Field
    → (pairs : Pairs) × (map_of bytes ≡ Some pairs) × (lacks_field pairs ≡ true)
field_from keys bytes None is e = absurd cc
field_from keys bytes (Some all) is e = (all, is, field_at (lacks_field all) keys bytes (text_in all) (unwrap_or (tag_in all) None) e)

pub field_says : (keys : Keys) (bytes : List ℕ) → manifest_of keys bytes ≡ Err Field
    → (pairs : Pairs) × (map_of bytes ≡ Some pairs) × (lacks_field pairs ≡ true)
unfolding manifest_of
field_says keys bytes e = field_from keys bytes (map_of bytes) refl e

field_pairs : (keys : Keys) (bytes : List ℕ) (all : Pairs) → lacks_field all ≡ true → manifest_from keys bytes (Some all) ≡ Err Field
field_pairs keys bytes all lacks = rw lacks refl

pub says_field : (keys : Keys) (bytes : List ℕ) (all : Pairs) → map_of bytes ≡ Some all → lacks_field all ≡ true → manifest_of keys bytes ≡ Err Field
unfolding manifest_of
says_field keys bytes all is lacks = ap (manifest_from keys bytes) is ∙ field_pairs keys bytes all lacks

-- ---- no tag

tested_missing : (b : Bool) (text : ManifestText) → cond b (Ok text) (Err Tag) ≡ Err TagMissing → ⊥
tested_missing true text e = cc
tested_missing false text e = cc

missing_at : (b : Bool) (keys : Keys) (bytes : List ℕ) (text : ManifestText) (tag : Option StatedTag)
    → cond b (Err Field) (with_tag keys bytes text tag) ≡ Err TagMissing → (b ≡ false) × (tag ≡ None)
missing_at true keys bytes text tag e = absurd cc
missing_at false keys bytes text None e = (refl, refl)
missing_at false keys bytes text (Some t) e = absurd (tested_missing (is_right manifest_info keys bytes t) text e)

missing_from : (keys : Keys) (bytes : List ℕ) (found : Option Pairs) → map_of bytes ≡ found → manifest_from keys bytes found ≡ Err TagMissing
    → (pairs : Pairs) × (map_of bytes ≡ Some pairs) × (lacks_field pairs ≡ false) × (value_of (codes "tam") pairs ≡ None)
missing_from keys bytes None is e = absurd cc
missing_from keys bytes (Some all) is e =
    let both = missing_at (lacks_field all) keys bytes (text_in all) (unwrap_or (tag_in all) None) e in
    (all, is, both.0, option_absent (value_of (codes "tam") all) (is_some_tag (tag_in all) None (tag_read all both.0) both.1))

pub missing_says : (keys : Keys) (bytes : List ℕ) → manifest_of keys bytes ≡ Err TagMissing
    → (pairs : Pairs) × (map_of bytes ≡ Some pairs) × (lacks_field pairs ≡ false) × (value_of (codes "tam") pairs ≡ None)
unfolding manifest_of
missing_says keys bytes e = missing_from keys bytes (map_of bytes) refl e

missing_pairs : (keys : Keys) (bytes : List ℕ) (all : Pairs) → lacks_field all ≡ false → tag_in all ≡ Some None
    → manifest_from keys bytes (Some all) ≡ Err TagMissing
missing_pairs keys bytes all whole none = rw (whole, none) refl

pub says_missing : (keys : Keys) (bytes : List ℕ) (all : Pairs) → map_of bytes ≡ Some all → lacks_field all ≡ false → value_of (codes "tam") all ≡ None
    → manifest_of keys bytes ≡ Err TagMissing
unfolding manifest_of
says_missing keys bytes all is whole none =
    let no_tag : tag_in all ≡ Some None = rw none refl in
    ap (manifest_from keys bytes) is ∙ missing_pairs keys bytes all whole no_tag

-- ---- another tag

tested_other : (b : Bool) (text : ManifestText) → cond b (Ok text) (Err Tag) ≡ Err Tag → b ≡ false
tested_other true text e = absurd cc
tested_other false text e = refl

other_at : (b : Bool) (keys : Keys) (bytes : List ℕ) (text : ManifestText) (tag : Option StatedTag)
    → cond b (Err Field) (with_tag keys bytes text tag) ≡ Err Tag
    → (b ≡ false) × ((t : StatedTag) × (tag ≡ Some t) × (is_right manifest_info keys bytes t ≡ false))
other_at true keys bytes text tag e = absurd cc
other_at false keys bytes text None e = absurd cc
other_at false keys bytes text (Some t) e = (refl, (t, refl, tested_other (is_right manifest_info keys bytes t) text e))

other_from : (keys : Keys) (bytes : List ℕ) (found : Option Pairs) → map_of bytes ≡ found → manifest_from keys bytes found ≡ Err Tag
    → (pairs : Pairs) × (hmac : List ℕ) × (salt : List ℕ) × (map_of bytes ≡ Some pairs) × (lacks_field pairs ≡ false) × StatesTag pairs hmac salt
    × (tag_of manifest_info keys salt bytes ≢ hmac)
other_from keys bytes None is e = absurd cc
other_from keys bytes (Some all) is e =
    let both = other_at (lacks_field all) keys bytes (text_in all) (unwrap_or (tag_in all) None) e in
    let tag = both.1.0 in (
      all,
      tag.hmac,
      tag.salt,
      is,
      both.0,
      states all tag (is_some_tag (tag_in all) (Some tag) (tag_read all both.0) both.1.1),
      unequal
          (tag_of manifest_info keys tag.salt bytes) tag.hmac both.1.2,
    )

pub other_says : (keys : Keys) (bytes : List ℕ) → manifest_of keys bytes ≡ Err Tag
    → (pairs : Pairs) × (hmac : List ℕ) × (salt : List ℕ) × (map_of bytes ≡ Some pairs) × (lacks_field pairs ≡ false) × StatesTag pairs hmac salt
    × (tag_of manifest_info keys salt bytes ≢ hmac)
unfolding manifest_of
other_says keys bytes e = other_from keys bytes (map_of bytes) refl e

other_pairs : (keys : Keys) (bytes : List ℕ) (all : Pairs) (hmac salt : List ℕ) → lacks_field all ≡ false
    → tag_in all ≡ Some (Some (record { hmac = hmac; salt = salt })) → bytes_eq (tag_of manifest_info keys salt bytes) hmac ≡ false
    → manifest_from keys bytes (Some all) ≡ Err Tag
other_pairs keys bytes all hmac salt whole tag differs = rw (whole, tag, differs) refl

pub says_other : (keys : Keys) (bytes : List ℕ) (all : Pairs) (hmac salt : List ℕ) → map_of bytes ≡ Some all → lacks_field all ≡ false
    → StatesTag all hmac salt → tag_of manifest_info keys salt bytes ≢ hmac → manifest_of keys bytes ≡ Err Tag
unfolding manifest_of
says_other keys bytes all hmac salt is whole tag differs =
    ap (manifest_from keys bytes) is ∙ other_pairs keys bytes all hmac salt whole (stated all hmac salt tag (tag_read all whole))
    (bytes_differ (tag_of manifest_info keys salt bytes) hmac differs)

-- ---- the tag of what is read

tested_read : (b : Bool) (text manifest : ManifestText) → cond b (Ok text) (Err Tag) ≡ Ok manifest → b ≡ true
tested_read true text manifest e = refl
tested_read false text manifest e = absurd cc

read_at : (b : Bool) (keys : Keys) (bytes : List ℕ) (text manifest : ManifestText) (tag : Option StatedTag)
    → cond b (Err Field) (with_tag keys bytes text tag) ≡ Ok manifest
    → (b ≡ false) × ((t : StatedTag) × (tag ≡ Some t) × (is_right manifest_info keys bytes t ≡ true))
read_at true keys bytes text manifest tag e = absurd cc
read_at false keys bytes text manifest None e = absurd cc
read_at false keys bytes text manifest (Some t) e = (refl, (t, refl, tested_read (is_right manifest_info keys bytes t) text manifest e))

tagged_from : (keys : Keys) (bytes : List ℕ) (manifest : ManifestText) (found : Option Pairs) → map_of bytes ≡ found
    → manifest_from keys bytes found ≡ Ok manifest
    → (pairs : Pairs) × (map_of bytes ≡ Some pairs) × IsTagged manifest_info keys bytes pairs
tagged_from keys bytes manifest None is e = absurd cc
tagged_from keys bytes manifest (Some all) is e =
    let both = read_at (lacks_field all) keys bytes (text_in all) manifest (unwrap_or (tag_in all) None) e in
    let tag = both.1.0 in
    let read = is_some_tag (tag_in all) (Some tag) (tag_read all both.0) both.1.1 in
    (all, is, right_tagged manifest_info keys bytes all tag is read both.1.2)

-- what is read has its tag
pub tagged : (keys : Keys) (bytes : List ℕ) (manifest : ManifestText) → manifest_of keys bytes ≡ Ok manifest
    → (pairs : Pairs) × (map_of bytes ≡ Some pairs) × IsTagged manifest_info keys bytes pairs
unfolding manifest_of
tagged keys bytes manifest e = tagged_from keys bytes manifest (map_of bytes) refl e

-- ---- faults that never come

-- neither too many bytes nor want of memory
abbrev IsOfBytes : MetaFault → Type 0
IsOfBytes TooLarge = ⊥
IsOfBytes Memory = ⊥
IsOfBytes _ = Unit {0}

abbrev AreOfBytes : Result ManifestText MetaFault → Type 0
AreOfBytes (Ok x) = Unit {0}
AreOfBytes (Err fault) = IsOfBytes fault

tested_among : (b : Bool) (text : ManifestText) → AreOfBytes (cond b (Ok text) (Err Tag))
tested_among true text = tt
tested_among false text = tt

among_at : (b : Bool) (keys : Keys) (bytes : List ℕ) (text : ManifestText) (tag : Option StatedTag)
    → AreOfBytes (cond b (Err Field) (with_tag keys bytes text tag))
among_at true keys bytes text tag = tt
among_at false keys bytes text None = tt
among_at false keys bytes text (Some t) = tested_among (is_right manifest_info keys bytes t) text

among_from : (keys : Keys) (bytes : List ℕ) (found : Option Pairs) → AreOfBytes (manifest_from keys bytes found)
among_from keys bytes None = tt
among_from keys bytes (Some all) = among_at (lacks_field all) keys bytes (text_in all) (unwrap_or (tag_in all) None)

among : (keys : Keys) (bytes : List ℕ) → AreOfBytes (manifest_of keys bytes)
unfolding manifest_of
among keys bytes = among_from keys bytes (map_of bytes)

pub no_large : (keys : Keys) (bytes : List ℕ) → manifest_of keys bytes ≡ Err TooLarge → ⊥
no_large keys bytes e = subst AreOfBytes e (among keys bytes)

pub no_memory : (keys : Keys) (bytes : List ℕ) → manifest_of keys bytes ≡ Err Memory → ⊥
no_memory keys bytes e = subst AreOfBytes e (among keys bytes)

-- ---- what is read can be written

same_text : (b : Bool) (text manifest : ManifestText) → cond b (Ok text) (Err Tag) ≡ Ok manifest → text ≡ manifest
same_text true text manifest e = cc
same_text false text manifest e = absurd cc

text_at : (b : Bool) (keys : Keys) (bytes : List ℕ) (text manifest : ManifestText) (tag : Option StatedTag)
    → cond b (Err Field) (with_tag keys bytes text tag) ≡ Ok manifest → text ≡ manifest
text_at true keys bytes text manifest tag e = absurd cc
text_at false keys bytes text manifest None e = absurd cc
text_at false keys bytes text manifest (Some t) e = same_text (is_right manifest_info keys bytes t) text manifest e

-- ---- when a text is read

read_from : (keys : Keys) (bytes : List ℕ) (manifest : ManifestText) (found : Option Pairs) → map_of bytes ≡ found
    → manifest_from keys bytes found ≡ Ok manifest → IsRead keys bytes manifest
read_from keys bytes manifest None is e = absurd cc
read_from keys bytes manifest (Some all) is e =
    let both = read_at (lacks_field all) keys bytes (text_in all) manifest (unwrap_or (tag_in all) None) e in
    let tag = both.1.0 in
    record {
      pairs = all;
      hmac = tag.hmac;
      salt = tag.salt;
      map_is = is;
      whole = both.0;
      states = states all tag (is_some_tag (tag_in all) (Some tag) (tag_read all both.0) both.1.1);
      tag = (bytes_eq-Decides (tag_of manifest_info keys tag.salt bytes) tag.hmac).0 both.1.2;
      text = sym (text_at (lacks_field all) keys bytes (text_in all) manifest (unwrap_or (tag_in all) None) e);
    }

pub read_says : (keys : Keys) (bytes : List ℕ) (manifest : ManifestText) → manifest_of keys bytes ≡ Ok manifest → IsRead keys bytes manifest
unfolding manifest_of
read_says keys bytes manifest e = read_from keys bytes manifest (map_of bytes) refl e

read_pairs : (keys : Keys) (bytes : List ℕ) (all : Pairs) (hmac salt : List ℕ) → lacks_field all ≡ false
    → tag_in all ≡ Some (Some (record { hmac = hmac; salt = salt })) → bytes_eq (tag_of manifest_info keys salt bytes) hmac ≡ true
    → manifest_from keys bytes (Some all) ≡ Ok (text_in all)
read_pairs keys bytes all hmac salt whole tag same = rw (whole, tag, same) refl

pub says_read : (keys : Keys) (bytes : List ℕ) (manifest : ManifestText) → IsRead keys bytes manifest → manifest_of keys bytes ≡ Ok manifest
unfolding manifest_of
says_read keys bytes manifest read =
    ap (manifest_from keys bytes) read.map_is
    ∙ read_pairs keys bytes read.pairs read.hmac read.salt read.whole
    (stated read.pairs read.hmac read.salt read.states (tag_read read.pairs read.whole))
    ((bytes_eq-Decides (tag_of manifest_info keys read.salt bytes) read.hmac).1 read.tag)
    ∙ ap Ok (sym read.text)

answer_either : (answer : Result ManifestText MetaFault) → ((manifest : ManifestText) × (answer ≡ Ok manifest)) ⊎ ((fault : MetaFault) × (answer ≡ Err fault))
answer_either (Ok manifest) = inl (manifest, refl)
answer_either (Err fault) = inr (fault, refl)

pub either : (keys : Keys) (bytes : List ℕ)
    → ((manifest : ManifestText) × (manifest_of keys bytes ≡ Ok manifest)) ⊎ ((fault : MetaFault) × (manifest_of keys bytes ≡ Err fault))
either keys bytes = answer_either (manifest_of keys bytes)

pub apart : (keys : Keys) (bytes : List ℕ) (manifest : ManifestText) (fault : MetaFault) → manifest_of keys bytes ≡ Ok manifest
    → manifest_of keys bytes ≡ Err fault → ⊥
apart keys bytes manifest fault read refused = let both : Ok manifest ≡ Err fault = sym read ∙ refused in cc

-- a part that isn't missing is there
pub there : {A : Type 0} → (o : Option A) (or : A) → is_none o ≡ false → o ≡ Some (unwrap_or o or)
there None or e = absurd cc
there (Some x) or e = refl

pub or_left : (a b : Bool) → a || b ≡ false → a ≡ false
or_left true b e = absurd cc
or_left false b e = refl

record HasParts (all : Pairs) : Type 0 where
  config : is_none (config_in all) ≡ false
  item_keys : is_none (item_keys_in all) ≡ false
  archives : is_none (archives_in all) ≡ false

whole_parts : (all : Pairs) → lacks_field all ≡ false → HasParts all
whole_parts all whole =
    let tagless = or_left _ (is_none (tag_in all)) whole in
    let before_archives = or_left _ (is_none (archives_in all)) tagless in
    let before_keys = or_left _ (is_none (item_keys_in all)) before_archives in
    record {
      config = or_right _ (is_none (config_in all)) before_keys;
      item_keys = or_right _ (is_none (item_keys_in all)) before_archives;
      archives = or_right _ (is_none (archives_in all)) tagless;
    }

-- the map that bytes spell can be written
pub map_writable : (bytes : List ℕ) (all : Pairs) → ((i : ℕ) → get_or bytes i 0 < 2 ^ 8) → map_of bytes ≡ Some all → IsWritable (table all)
map_writable bytes all small is = spelled_writable (table all) bytes (spelled-map_of bytes all is) (AreBytes-from bytes small)

packable_from : (keys : Keys) (bytes : List ℕ) (manifest : ManifestText) (found : Option Pairs)
    → ((pairs : Pairs) → found ≡ Some pairs → IsWritable (table pairs)) → manifest_from keys bytes found ≡ Ok manifest → IsPackable manifest
packable_from keys bytes manifest None writable e = absurd cc
packable_from keys bytes manifest (Some all) writable e =
    let whole = (read_at (lacks_field all) keys bytes (text_in all) manifest (unwrap_or (tag_in all) None) e).0 in
    let same = text_at (lacks_field all) keys bytes (text_in all) manifest (unwrap_or (tag_in all) None) e in
    let parts = whole_parts all whole in
    subst IsPackable same
    (text_packable all (unwrap_or (timestamp_in all) None) (unwrap_or (config_in all) (table no_pairs)) (unwrap_or (item_keys_in all) [])
    (unwrap_or (archives_in all) []) (writable all refl) (there (config_in all) (table no_pairs) parts.config)
    (there (item_keys_in all) [] parts.item_keys) (there (archives_in all) [] parts.archives))

pub read_packable : (keys : Keys) (bytes : List ℕ) (manifest : ManifestText) → ((i : ℕ) → get_or bytes i 0 < 2 ^ 8)
    → manifest_of keys bytes ≡ Ok manifest → IsPackable manifest
unfolding manifest_of
read_packable keys bytes manifest small e =
    packable_from keys bytes manifest (map_of bytes) (λ all is. map_writable bytes all small is) e
