-- What the packed bytes of a record mean, by the conditions of each answer.
use Rattle.std.proofs.Common.{◌≡◌, ◌≢◌, ℕ, ◌<◌, ◌^◌, not, get_or, codes, is_none, is_some, unwrap_or, Bool, true, false, cond, ◌==◌, eqb→eq, List, []}
use Rattle.std.proofs.Common.{◌∷◌, length, Option, Some, None, option_map, option_and_then, Result, Ok, Err, IfOk, ◌⊎◌, inl, inr, refl, sym, ap, subst, ◌∙◌}
use Rattle.std.specs.Str.{bytes_eq}
use Rattle.std.proofs.lemmas.Slice.Eq.{bytes_eq-Decides}
use Rattle.ferry_mac.specs.declared.keys.Keys.{Keys}
use Rattle.ferry_msgpack.specs.Tree.{Tree, nil, flag, number, raw, array, table, Items, no_items, item, Pairs}
use Rattle.ferry_msgpack.specs.Writable.{IsWritable}
use Rattle.ferry_fields.specs.Fields.{map_of, value_of, raw_in, has_version_1}
use Rattle.ferry_fields.specs.Others.{is_among, without}
use Rattle.ferry_fields.proofs.KeptLemmas.{has_among-without}
use Rattle.ferry_manifest.specs.Record.Text.{ArchiveText, IsRecordFault, apart_names, archive_of, id_of, ids_in, items_at, lacks_record_field, record_from}
use Rattle.ferry_manifest.specs.Record.Text.{record_text, unless_tag_differs, archive_view}
use Rattle.ferry_manifest.specs.Record.Writing.{AreIds, IsPackableArchive}
use Rattle.ferry_manifest.specs.Stated.{IsTagged, StatesTag, is_right, tag_in}
use Rattle.ferry_manifest.specs.Tag.{archive_info, tag_of}
use Rattle.ferry_manifest.specs.Values.{raws}
use Rattle.ferry_manifest.specs.declared.record.Archive.{Archive}
use Rattle.ferry_manifest.specs.declared.fault.MetaFault.{MetaFault}
use Rattle.ferry_manifest.specs.declared.fault.MetaFault.TheVariants.{Pack, Field, TagMissing, Tag, TooLarge, Memory}
use Rattle.ferry_manifest.specs.declared.stated.StatedTag.{StatedTag}
use Rattle.ferry_manifest.proofs.PlaceLemmas.{bytes_differ}
use Rattle.ferry_manifest.proofs.StatedLemmas.{is_some_tag, option_absent, right_tagged, stated, states, unequal}
use Rattle.ferry_manifest.proofs.Manifests.AgainLemmas.{absent}
use Rattle.ferry_manifest.proofs.Manifests.LawLemmas.{map_writable, or_left, or_right, there}
use Rattle.ferry_manifest.proofs.Records.AgainLemmas.{ids_said}
use Rattle.ferry_manifest.proofs.Records.ReadLemmas.{record_packable}

-- ---- the tag

tag_read : (all : Pairs) → lacks_record_field all ≡ false → is_none (tag_in all) ≡ false
tag_read all whole = or_right _ (is_none (tag_in all)) whole

-- no tag is stated, or the right one
abbrev IsRightOrNone : Keys → List ℕ → Option StatedTag → Type 0
IsRightOrNone keys bytes None = Unit {0}
IsRightOrNone keys bytes (Some t) = is_right archive_info keys bytes t ≡ true

-- a tag that is stated is right
abbrev StatesRight : Keys → List ℕ → Pairs → Type 0
StatesRight keys bytes all = (hmac salt : List ℕ) → StatesTag all hmac salt → tag_of archive_info keys salt bytes ≡ hmac

right_stated : (keys : Keys) (bytes : List ℕ) (all : Pairs) → is_none (tag_in all) ≡ false
    → IsRightOrNone keys bytes (unwrap_or (tag_in all) None) → StatesRight keys bytes all
right_stated keys bytes all read right hmac salt states_it =
    let is = stated all hmac salt states_it read in
    let here = subst (λ (o : Option (Option StatedTag)). IsRightOrNone keys bytes (unwrap_or o None)) is right in
    (bytes_eq-Decides (tag_of archive_info keys salt bytes) hmac).0 here

stated_right : (keys : Keys) (bytes : List ℕ) (all : Pairs) (o : Option StatedTag) → tag_in all ≡ Some o → StatesRight keys bytes all
    → IsRightOrNone keys bytes o
stated_right keys bytes all None is right = tt
stated_right keys bytes all (Some t) is right = (bytes_eq-Decides (tag_of archive_info keys t.salt bytes) t.hmac).1 (right t.hmac t.salt (states all t is))

right_checked : (keys : Keys) (bytes : List ℕ) (text : ArchiveText) (o : Option StatedTag) → IsRightOrNone keys bytes o
    → unless_tag_differs keys bytes text o ≡ Ok text
right_checked keys bytes text None right = refl
right_checked keys bytes text (Some t) right = rw right refl

-- ---- what is read

tested_read : (b : Bool) (text archive : ArchiveText) → cond b (Ok text) (Err Tag) ≡ Ok archive → (b ≡ true) × (text ≡ archive)
tested_read true text archive e = (refl, cc)
tested_read false text archive e = absurd cc

read_at : (b : Bool) (keys : Keys) (bytes : List ℕ) (text archive : ArchiveText) (o : Option StatedTag)
    → cond b (Err Field) (unless_tag_differs keys bytes text o) ≡ Ok archive → (b ≡ false) × IsRightOrNone keys bytes o × (text ≡ archive)
read_at true keys bytes text archive o e = absurd cc
read_at false keys bytes text archive None e = (refl, tt, cc)
read_at false keys bytes text archive (Some t) e =
    let both = tested_read (is_right archive_info keys bytes t) text archive e in (refl, both.0, both.1)

read_from : (keys : Keys) (bytes : List ℕ) (found : Option Pairs) (archive : ArchiveText) → map_of bytes ≡ found → record_from keys bytes found ≡ Ok archive
    → (pairs : Pairs) × (map_of bytes ≡ Some pairs) × (lacks_record_field pairs ≡ false)
    × IsRightOrNone keys bytes (unwrap_or (tag_in pairs) None) × (record_text pairs ≡ archive)
read_from keys bytes None archive is e = absurd cc
read_from keys bytes (Some all) archive is e =
    let parts = read_at (lacks_record_field all) keys bytes (record_text all) archive (unwrap_or (tag_in all) None) e in
    (all, is, parts.0, parts.1, parts.2)

record_read : (keys : Keys) (bytes : List ℕ) (archive : ArchiveText) → archive_of keys bytes ≡ Ok archive
    → (pairs : Pairs) × (map_of bytes ≡ Some pairs) × (lacks_record_field pairs ≡ false)
    × IsRightOrNone keys bytes (unwrap_or (tag_in pairs) None) × (record_text pairs ≡ archive)
unfolding archive_of
record_read keys bytes archive e = read_from keys bytes (map_of bytes) archive refl e

pub record_says : (keys : Keys) (bytes : List ℕ) (archive : ArchiveText) → archive_of keys bytes ≡ Ok archive
    → (pairs : Pairs) × (map_of bytes ≡ Some pairs) × (lacks_record_field pairs ≡ false)
    × ((hmac salt : List ℕ) → StatesTag pairs hmac salt → tag_of archive_info keys salt bytes ≡ hmac) × (record_text pairs ≡ archive)
record_says keys bytes archive e =
    let (all, is, whole, right, text) = record_read keys bytes archive e in
    (all, is, whole, right_stated keys bytes all (tag_read all whole) right, text)

whole_pairs : (keys : Keys) (bytes : List ℕ) (all : Pairs) → lacks_record_field all ≡ false → IsRightOrNone keys bytes (unwrap_or (tag_in all) None)
    → record_from keys bytes (Some all) ≡ Ok (record_text all)
whole_pairs keys bytes all whole right = rw whole (right_checked keys bytes (record_text all) (unwrap_or (tag_in all) None) right)

pub says_record : (keys : Keys) (bytes : List ℕ) (archive : ArchiveText) (all : Pairs) → map_of bytes ≡ Some all → lacks_record_field all ≡ false
    → ((hmac salt : List ℕ) → StatesTag all hmac salt → tag_of archive_info keys salt bytes ≡ hmac)
    → record_text all ≡ archive → archive_of keys bytes ≡ Ok archive
unfolding archive_of
says_record keys bytes archive all is whole right text =
    let said : Ok (record_text all) ≡ Ok archive = ap (λ (x : ArchiveText). Ok x) text in
    let checked = stated_right keys bytes all (unwrap_or (tag_in all) None) (there (tag_in all) None (tag_read all whole)) right in
    ap (record_from keys bytes) is ∙ whole_pairs keys bytes all whole checked ∙ said

-- ---- no map

tested_pack : (b : Bool) (text : ArchiveText) → cond b (Ok text) (Err Tag) ≡ Err Pack → ⊥
tested_pack true text e = cc
tested_pack false text e = cc

pack_at : (b : Bool) (keys : Keys) (bytes : List ℕ) (text : ArchiveText) (o : Option StatedTag)
    → cond b (Err Field) (unless_tag_differs keys bytes text o) ≡ Err Pack → ⊥
pack_at true keys bytes text o e = cc
pack_at false keys bytes text None e = cc
pack_at false keys bytes text (Some t) e = tested_pack (is_right archive_info keys bytes t) text e

pack_from : (keys : Keys) (bytes : List ℕ) (found : Option Pairs) → record_from keys bytes found ≡ Err Pack → found ≡ None
pack_from keys bytes None e = refl
pack_from keys bytes (Some all) e = absurd (pack_at (lacks_record_field all) keys bytes (record_text all) (unwrap_or (tag_in all) None) e)

pub pack_says : (keys : Keys) (bytes : List ℕ) → archive_of keys bytes ≡ Err Pack → map_of bytes ≡ None
unfolding archive_of
pack_says keys bytes e = pack_from keys bytes (map_of bytes) e

pub says_pack : (keys : Keys) (bytes : List ℕ) → map_of bytes ≡ None → archive_of keys bytes ≡ Err Pack
unfolding archive_of
says_pack keys bytes is = ap (record_from keys bytes) is

-- ---- a field that isn't right

tested_field : (b : Bool) (text : ArchiveText) → cond b (Ok text) (Err Tag) ≡ Err Field → ⊥
tested_field true text e = cc
tested_field false text e = cc

field_at : (b : Bool) (keys : Keys) (bytes : List ℕ) (text : ArchiveText) (o : Option StatedTag)
    → cond b (Err Field) (unless_tag_differs keys bytes text o) ≡ Err Field → b ≡ true
field_at true keys bytes text o e = refl
field_at false keys bytes text None e = absurd cc
field_at false keys bytes text (Some t) e = absurd (tested_field (is_right archive_info keys bytes t) text e)

field_from : (keys : Keys) (bytes : List ℕ) (found : Option Pairs) → map_of bytes ≡ found → record_from keys bytes found ≡ Err Field
    → (pairs : Pairs) × (map_of bytes ≡ Some pairs) × (lacks_record_field pairs ≡ true)
field_from keys bytes None is e = absurd cc
field_from keys bytes (Some all) is e =
    (all, is, field_at (lacks_record_field all) keys bytes (record_text all) (unwrap_or (tag_in all) None) e)

pub field_says : (keys : Keys) (bytes : List ℕ) → archive_of keys bytes ≡ Err Field
    → (pairs : Pairs) × (map_of bytes ≡ Some pairs) × (lacks_record_field pairs ≡ true)
unfolding archive_of
field_says keys bytes e = field_from keys bytes (map_of bytes) refl e

field_pairs : (keys : Keys) (bytes : List ℕ) (all : Pairs) → lacks_record_field all ≡ true → record_from keys bytes (Some all) ≡ Err Field
field_pairs keys bytes all lacks = rw lacks refl

pub says_field : (keys : Keys) (bytes : List ℕ) (all : Pairs) → map_of bytes ≡ Some all → lacks_record_field all ≡ true → archive_of keys bytes ≡ Err Field
unfolding archive_of
says_field keys bytes all is lacks = ap (record_from keys bytes) is ∙ field_pairs keys bytes all lacks

-- ---- another tag

tested_other : (b : Bool) (text : ArchiveText) → cond b (Ok text) (Err Tag) ≡ Err Tag → b ≡ false
tested_other true text e = absurd cc
tested_other false text e = refl

other_at : (b : Bool) (keys : Keys) (bytes : List ℕ) (text : ArchiveText) (o : Option StatedTag)
    → cond b (Err Field) (unless_tag_differs keys bytes text o) ≡ Err Tag
    → (b ≡ false) × ((t : StatedTag) × (o ≡ Some t) × (is_right archive_info keys bytes t ≡ false))
other_at true keys bytes text o e = absurd cc
other_at false keys bytes text None e = absurd cc
other_at false keys bytes text (Some t) e = (refl, (t, refl, tested_other (is_right archive_info keys bytes t) text e))

other_from : (keys : Keys) (bytes : List ℕ) (found : Option Pairs) → map_of bytes ≡ found → record_from keys bytes found ≡ Err Tag
    → (pairs : Pairs) × (hmac : List ℕ) × (salt : List ℕ) × (map_of bytes ≡ Some pairs) × (lacks_record_field pairs ≡ false) × StatesTag pairs hmac salt
    × (tag_of archive_info keys salt bytes ≢ hmac)
other_from keys bytes None is e = absurd cc
other_from keys bytes (Some all) is e =
    let both = other_at (lacks_record_field all) keys bytes (record_text all) (unwrap_or (tag_in all) None) e in
    let tag = both.1.0 in (
      all,
      tag.hmac,
      tag.salt,
      is,
      both.0,
      states all tag (is_some_tag (tag_in all) (Some tag) (tag_read all both.0) both.1.1),
      unequal (tag_of archive_info keys tag.salt bytes) tag.hmac both.1.2,
    )

pub other_says : (keys : Keys) (bytes : List ℕ) → archive_of keys bytes ≡ Err Tag
    → (pairs : Pairs) × (hmac : List ℕ) × (salt : List ℕ) × (map_of bytes ≡ Some pairs) × (lacks_record_field pairs ≡ false) × StatesTag pairs hmac salt
    × (tag_of archive_info keys salt bytes ≢ hmac)
unfolding archive_of
other_says keys bytes e = other_from keys bytes (map_of bytes) refl e

other_pairs : (keys : Keys) (bytes : List ℕ) (all : Pairs) (hmac salt : List ℕ) → lacks_record_field all ≡ false
    → tag_in all ≡ Some (Some (record { hmac = hmac; salt = salt })) → bytes_eq (tag_of archive_info keys salt bytes) hmac ≡ false
    → record_from keys bytes (Some all) ≡ Err Tag
other_pairs keys bytes all hmac salt whole tag differs = rw (whole, tag, differs) refl

pub says_other : (keys : Keys) (bytes : List ℕ) (all : Pairs) (hmac salt : List ℕ) → map_of bytes ≡ Some all → lacks_record_field all ≡ false
    → StatesTag all hmac salt → tag_of archive_info keys salt bytes ≢ hmac → archive_of keys bytes ≡ Err Tag
unfolding archive_of
says_other keys bytes all hmac salt is whole tag differs =
    ap (record_from keys bytes) is ∙ other_pairs keys bytes all hmac salt whole (stated all hmac salt tag (tag_read all whole))
    (bytes_differ (tag_of archive_info keys salt bytes) hmac differs)

-- ---- the tag of what is read

not_there : (o : Option Tree) → o ≡ None → is_some o ≡ true → ⊥
not_there o none some = cc

tagged_at : (keys : Keys) (bytes : List ℕ) (all : Pairs) (o : Option StatedTag) → map_of bytes ≡ Some all → tag_in all ≡ Some o
    → IsRightOrNone keys bytes o → is_some (value_of (codes "tam") all) ≡ true → IsTagged archive_info keys bytes all
tagged_at keys bytes all None is read right some =
    absurd (not_there (value_of (codes "tam") all) (option_absent (value_of (codes "tam") all) read) some)
tagged_at keys bytes all (Some t) is read right some = right_tagged archive_info keys bytes all t is read right

-- what is read as tagged has its tag
pub tagged : (keys : Keys) (bytes : List ℕ) (archive : ArchiveText) → archive_of keys bytes ≡ Ok archive → archive.tagged ≡ true
    → (pairs : Pairs) × (map_of bytes ≡ Some pairs) × IsTagged archive_info keys bytes pairs
tagged keys bytes archive e is_tagged =
    let (all, is, whole, right, text) = record_read keys bytes archive e in
    let some : is_some (value_of (codes "tam") all) ≡ true = ap (λ (x : ArchiveText). x.tagged) text ∙ is_tagged in
    (all, is, tagged_at keys bytes all (unwrap_or (tag_in all) None) is (there (tag_in all) None (tag_read all whole)) right some)

none_there : (o : Option Tree) → is_some o ≡ false → o ≡ None
none_there None e = refl
none_there (Some t) e = absurd cc

-- what is read as untagged has none
pub untagged : (keys : Keys) (bytes : List ℕ) (archive : ArchiveText) → archive_of keys bytes ≡ Ok archive → archive.tagged ≡ false
    → (pairs : Pairs) × (map_of bytes ≡ Some pairs) × (value_of (codes "tam") pairs ≡ None)
untagged keys bytes archive e is_untagged =
    let (all, is, whole, right, text) = record_read keys bytes archive e in
    let none : is_some (value_of (codes "tam") all) ≡ false = ap (λ (x : ArchiveText). x.tagged) text ∙ is_untagged in
    (all, is, none_there (value_of (codes "tam") all) none)

-- ---- faults that never come

-- neither a missing tag, nor too many bytes, nor want of memory
abbrev AreOfRecord : Result ArchiveText MetaFault → Type 0
AreOfRecord (Ok x) = Unit {0}
AreOfRecord (Err Memory) = ⊥
AreOfRecord (Err fault) = IsRecordFault fault

among_tested : (b : Bool) (text : ArchiveText) → AreOfRecord (cond b (Ok text) (Err Tag))
among_tested true text = tt
among_tested false text = tt

among_at : (b : Bool) (keys : Keys) (bytes : List ℕ) (text : ArchiveText) (o : Option StatedTag)
    → AreOfRecord (cond b (Err Field) (unless_tag_differs keys bytes text o))
among_at true keys bytes text o = tt
among_at false keys bytes text None = tt
among_at false keys bytes text (Some t) = among_tested (is_right archive_info keys bytes t) text

among_from : (keys : Keys) (bytes : List ℕ) (found : Option Pairs) → AreOfRecord (record_from keys bytes found)
among_from keys bytes None = tt
among_from keys bytes (Some all) = among_at (lacks_record_field all) keys bytes (record_text all) (unwrap_or (tag_in all) None)

-- one of four answers
abbrev OneOf : Result ArchiveText MetaFault → Type 0
OneOf r = ((archive : ArchiveText) × (r ≡ Ok archive)) ⊎ ((r ≡ Err Pack) ⊎ ((r ≡ Err Field) ⊎ (r ≡ Err Tag)))

one_of : (r : Result ArchiveText MetaFault) → AreOfRecord r → OneOf r
one_of (Ok x) among = inl (x, refl)
one_of (Err Pack) among = inr (inl refl)
one_of (Err Field) among = inr (inr (inl refl))
one_of (Err TagMissing) among = absurd among
one_of (Err Tag) among = inr (inr (inr refl))
one_of (Err TooLarge) among = absurd among
one_of (Err Memory) among = absurd among

pub record_either : (keys : Keys) (bytes : List ℕ) → OneOf (archive_of keys bytes)
unfolding archive_of
record_either keys bytes = one_of (record_from keys bytes (map_of bytes)) (among_from keys bytes (map_of bytes))

pub record_among : (keys : Keys) (bytes : List ℕ) (fault : MetaFault) → archive_of keys bytes ≡ Err fault → AreOfRecord (Err fault)
unfolding archive_of
record_among keys bytes fault e = subst AreOfRecord e (among_from keys bytes (map_of bytes))

-- ---- ids

sized_32 : (b : Bool) (content id : List ℕ) → (length content == 32) ≡ b → cond b (Some content) None ≡ Some id → (raw content ≡ raw id) × (length id ≡ 32)
sized_32 true content id is e =
    let same : content ≡ id = cc in
    let size : length content ≡ 32 = eqb→eq (length content) 32 (rw is tt) in
    (ap raw same, ap length (sym same) ∙ size)
sized_32 false content id is e = absurd cc

id_is : (t : Tree) (id : List ℕ) → id_of t ≡ Some id → (t ≡ raw id) × (length id ≡ 32)
id_is nil id e = absurd cc
id_is (flag b) id e = absurd cc
id_is (number z) id e = absurd cc
id_is (raw content) id e = sized_32 (length content == 32) content id refl e
id_is (array items) id e = absurd cc
id_is (table pairs) id e = absurd cc

ids_at : (t : Tree) (ts : Items) (ids : List (List ℕ)) (id : Option (List ℕ)) (rest : Option (List (List ℕ))) → id_of t ≡ id
    → ((others : List (List ℕ)) → rest ≡ Some others → (ts ≡ raws others) × AreIds others)
    → option_and_then (λ i. option_map (λ others. i ∷ others) rest) id ≡ Some ids → (item t ts ≡ raws ids) × AreIds ids
unfolding raws
ids_at t ts ids None rest is there e = absurd cc
ids_at t ts ids (Some id) None is there e = absurd cc
ids_at t ts ids (Some id) (Some others) is there e =
    let same : id ∷ others ≡ ids = cc in
    let first = id_is t id is in
    let behind = there others refl in
    subst (λ (all : List (List ℕ)). (item t ts ≡ raws all) × AreIds all) same (rw (first.0, behind.0) refl, (first.1, behind.1))

pub ids_are : (items : Items) (ids : List (List ℕ)) → ids_in items ≡ Some ids → (items ≡ raws ids) × AreIds ids
unfolding ids_in raws
ids_are no_items ids e = let same : [] ≡ ids = cc in subst (λ (all : List (List ℕ)). (no_items ≡ raws all) × AreIds all) same (refl, tt)
ids_are (item t ts) ids e = ids_at t ts ids (id_of t) (ids_in ts) refl (ids_are ts) e

pub are_ids : (items : Items) (ids : List (List ℕ)) → items ≡ raws ids → AreIds ids → ids_in items ≡ Some ids
are_ids items ids is sized = ap ids_in is ∙ ids_said ids sized

-- ---- names that aren't among the fields

pub fields_apart : (pairs : Pairs) (name : List ℕ) → is_among apart_names name ≡ true → value_of name (without apart_names pairs) ≡ None
fields_apart pairs name among = absent apart_names name (without apart_names pairs) among (has_among-without apart_names pairs)

-- ---- what is read can be written

not_false : (b : Bool) → not b ≡ false → b ≡ true
not_false true e = refl
not_false false e = absurd cc

text_packable : (all : Pairs) → IsWritable (table all) → lacks_record_field all ≡ false → IsPackableArchive (record_text all)
text_packable all writable whole =
    let listed = or_left _ (is_none (tag_in all)) whole in
    let named = or_left _ (is_none (items_at all)) listed in
    let version = not_false (has_version_1 all) (or_left _ (is_none (raw_in (codes "name") all)) named) in
    let name = there (raw_in (codes "name") all) [] (or_right _ (is_none (raw_in (codes "name") all)) named) in
    record_packable all _ (unwrap_or (items_at all) []) _ _ (is_some (value_of (codes "tam") all)) writable version name refl refl

pub read_packable : (keys : Keys) (bytes : List ℕ) (archive : ArchiveText) → ((i : ℕ) → get_or bytes i 0 < 2 ^ 8) → archive_of keys bytes ≡ Ok archive
    → IsPackableArchive archive
read_packable keys bytes archive small e =
    let (all, is, whole, right, text) = record_read keys bytes archive e in
    subst IsPackableArchive text (text_packable all (map_writable bytes all small is) whole)

-- what a call read can be packed
pub packable_where_read : (keys : Keys) (bytes : List ℕ) (r : Result Archive MetaFault) → ((i : ℕ) → get_or bytes i 0 < 2 ^ 8)
    → IfOk r (λ archive. archive_of keys bytes ≡ Ok (archive_view archive)) → IfOk r (λ archive. IsPackableArchive (archive_view archive))
packable_where_read keys bytes (Ok archive) small read = read_packable keys bytes (archive_view archive) small read
packable_where_read keys bytes (Err fault) small read = tt
