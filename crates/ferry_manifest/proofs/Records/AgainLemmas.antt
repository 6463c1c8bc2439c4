-- A record that is packable can be packed with a tag, and what is written is read again.
use Rattle.std.proofs.Common.{◌≡◌, ℕ, true, false, ◌+◌, ◌≤◌, ◌<◌, List, [], ◌∷◌, ◌++◌, length, get_or, take, codes, Option, Some, None, Result, Ok, Err, IfOk}
use Rattle.std.proofs.Common.{Vec, Global, refl, sym, ap, subst, ◌∙◌, arith}
use Rattle.std.proofs.lemmas.List.{take_more, take_all}
use Rattle.ferry_mac.specs.declared.keys.Keys.{Keys}
use Rattle.ferry_msgpack.specs.declared.value.Value.{Value}
use Rattle.ferry_msgpack.specs.Tree.{Tree, raw, array, table, Pairs, put}
use Rattle.ferry_msgpack.specs.View.{value_view, items_view}
use Rattle.ferry_msgpack.specs.Writable.{IsWritable}
use Rattle.ferry_fields.specs.Fields.{value_of, raw_in, has_version_1}
use Rattle.ferry_fields.specs.Others.{without, has_among}
use Rattle.ferry_fields.proofs.OtherLemmas.{without-apart}
use Rattle.ferry_fields.proofs.PutLemmas.{value_of-put, value_of-put_other, without-put}
use Rattle.ferry_fields.proofs.SizeLemmas.{AreOrdered, put_ordered, writable_ordered, writable_pairs_ordered}
use Rattle.ferry_manifest.specs.Record.Text.{ArchiveText, apart_names, archive_of, as_tagged, id_of, ids_in, items_at, record_from}
use Rattle.ferry_manifest.specs.Record.Writing.{AreIds, AreParams, IsPackableArchive, record_pairs, with_params}
use Rattle.ferry_manifest.specs.Stated.{is_right, tag_in}
use Rattle.ferry_manifest.specs.Tag.{archive_info}
use Rattle.ferry_manifest.specs.Tagged.{IsTaggable, packed_tag, tag_pairs, tagged_pairs, tagged_text}
use Rattle.ferry_manifest.specs.Values.{pairs_of_table, raws}
use Rattle.ferry_manifest.specs.declared.fault.MetaFault.{MetaFault}
use Rattle.ferry_manifest.specs.declared.stated.StatedTag.{StatedTag}
use Rattle.ferry_manifest.proofs.TaggedLemmas.{length-packed_tag, ordered_taggable, tag_right, tag_said, tagged_map}
use Rattle.ferry_manifest.proofs.Manifests.AgainLemmas.{absent}
use Rattle.ferry_manifest.proofs.Manifests.OrderedLemmas.{raws_deep, raws_ordered}
use Rattle.ferry_manifest.proofs.Manifests.WriteLemmas.{raws_push}

-- ---- ids as values

pub ids_written : (vs : List Value) (v : Value) (ids : List (List ℕ)) (place : ℕ) (id : List ℕ) → place < length ids → items_view vs ≡ raws (take place ids)
    → value_view v ≡ raw (get_or ids place id) → items_view (vs ++ v ∷ []) ≡ raws (take (place + 1) ids)
ids_written vs v ids place id lt done is = raws_push vs v (take place ids) (get_or ids place id) done is ∙ ap raws (sym (take_more ids place id lt))

sized_push : (ids : List (List ℕ)) (id : List ℕ) → AreIds ids → length id ≡ 32 → AreIds (ids ++ id ∷ [])
sized_push [] id sized size = (size, tt)
sized_push (i ∷ ids) id sized size = (sized.0, sized_push ids id sized.1 size)

pub sized_more : (ids : List (List ℕ)) (place : ℕ) (id : List ℕ) → place < length ids → AreIds (take place ids) → length (get_or ids place id) ≡ 32
    → AreIds (take (place + 1) ids)
sized_more ids place id lt sized size = subst AreIds (sym (take_more ids place id lt)) (sized_push (take place ids) (get_or ids place id) sized size)

pub sized_all : (ids : List (List ℕ)) (place : ℕ) → length ids ≤ place → AreIds (take place ids) → AreIds ids
sized_all ids place le sized = subst AreIds (take_all place ids le) sized

-- ---- what can be written

params_ordered : (params : Option Tree) (ps : Pairs) → AreParams params → AreOrdered 63 ps → AreOrdered 63 (with_params params ps)
params_ordered None ps are ordered = ordered
params_ordered (Some t) ps are ordered = put_ordered 63 (codes "chunker_params") t ps are.1 (writable_ordered t are.0) ordered

record_ordered : (archive : ArchiveText) → IsPackableArchive archive → AreOrdered 63 (record_pairs archive)
unfolding record_pairs
record_ordered archive packable =
    let fields : AreOrdered 63 (pairs_of_table archive.fields) =
    writable_pairs_ordered (pairs_of_table archive.fields) (subst IsWritable packable.fields packable.fields_writable) in
    let deep = raws_deep archive.items in
    put_ordered 63 (codes "items") (array (raws archive.items)) _ (omega arith) (raws_ordered archive.items)
    (params_ordered archive.params (pairs_of_table archive.fields) packable.params fields)

-- a table of the pairs can be packed with a tag
pub record_taggable : (archive : ArchiveText) (t : Tree) → IsPackableArchive archive → t ≡ table (record_pairs archive) → IsTaggable t
record_taggable archive t packable is = subst IsTaggable (sym is) (ordered_taggable (record_pairs archive) (record_ordered archive packable))

-- ---- what is written is read again

id_said : (id : List ℕ) → length id ≡ 32 → id_of (raw id) ≡ Some id
id_said id size = rw size refl

pub ids_said : (ids : List (List ℕ)) → AreIds ids → ids_in (raws ids) ≡ Some ids
unfolding ids_in raws
ids_said [] sized = refl
ids_said (id ∷ ids) sized = rw (id_said id sized.0, ids_said ids sized.1) refl

items_said : (all : Pairs) (ids : List (List ℕ)) → value_of (codes "items") all ≡ Some (array (raws ids)) → AreIds ids → items_at all ≡ Some ids
items_said all ids is sized = rw is (ids_said ids sized)

record_said : (keys : Keys) (bytes : List ℕ) (all : Pairs) (archive : ArchiveText) (tam : Tree) (tag : StatedTag) → has_version_1 all ≡ true
    → raw_in (codes "name") all ≡ Some archive.name → items_at all ≡ Some archive.items → value_of (codes "chunker_params") all ≡ archive.params
    → table (without apart_names all) ≡ archive.fields → value_of (codes "tam") all ≡ Some tam → tag_in all ≡ Some (Some tag)
    → is_right archive_info keys bytes tag ≡ true → record_from keys bytes (Some all) ≡ Ok (as_tagged archive)
record_said keys bytes all archive tam tag version name items params fields there tagged right =
    rw (version, name, items, params, fields, tagged, right, there) refl

params_are : (params : Option Tree) (fields : Pairs) → has_among apart_names fields ≡ false
    → value_of (codes "chunker_params") (with_params params fields) ≡ params
params_are None fields apart = absent apart_names (codes "chunker_params") fields refl apart
params_are (Some t) fields apart = value_of-put (codes "chunker_params") t fields

params_fields : (params : Option Tree) (fields : Pairs) → has_among apart_names fields ≡ false → without apart_names (with_params params fields) ≡ fields
params_fields None fields apart = without-apart apart_names fields apart
params_fields (Some t) fields apart = without-put apart_names (codes "chunker_params") t fields refl ∙ without-apart apart_names fields apart

params_name : (params : Option Tree) (fields : Pairs) → value_of (codes "name") (with_params params fields) ≡ value_of (codes "name") fields
params_name None fields = refl
params_name (Some t) fields = value_of-put_other (codes "name") (codes "chunker_params") t fields refl

params_version : (params : Option Tree) (fields : Pairs) → value_of (codes "version") (with_params params fields) ≡ value_of (codes "version") fields
params_version None fields = refl
params_version (Some t) fields = value_of-put_other (codes "version") (codes "chunker_params") t fields refl

pairs_again : (keys : Keys) (bytes : List ℕ) (archive : ArchiveText) (hmac salt : List ℕ) → IsPackableArchive archive → AreIds archive.items
    → length hmac ≡ 64 → length salt ≡ 64 → is_right archive_info keys bytes (record { hmac = hmac; salt = salt }) ≡ true
    → record_from keys bytes (Some (tagged_pairs (record_pairs archive) hmac salt)) ≡ Ok (as_tagged archive)
unfolding tagged_pairs record_pairs
pairs_again keys bytes archive hmac salt packable sized hmac_size salt_size right =
    let tag = table (tag_pairs hmac salt) in
    let items = array (raws archive.items) in
    let fields = pairs_of_table archive.fields in
    let rest = with_params archive.params fields in
    let pairs = put (codes "items") items rest in
    let all = put (codes "tam") tag pairs in
    let version_is : value_of (codes "version") all ≡ value_of (codes "version") fields =
    value_of-put_other (codes "version") (codes "tam") tag pairs refl ∙ value_of-put_other (codes "version") (codes "items") items rest refl
    ∙ params_version archive.params fields in
    let name_is : value_of (codes "name") all ≡ value_of (codes "name") fields =
    value_of-put_other (codes "name") (codes "tam") tag pairs refl ∙ value_of-put_other (codes "name") (codes "items") items rest refl
    ∙ params_name archive.params fields in
    let items_are : value_of (codes "items") all ≡ Some items =
    value_of-put_other (codes "items") (codes "tam") tag pairs refl ∙ value_of-put (codes "items") items rest in
    let params_is : value_of (codes "chunker_params") all ≡ archive.params =
    value_of-put_other (codes "chunker_params") (codes "tam") tag pairs refl ∙ value_of-put_other (codes "chunker_params") (codes "items") items rest refl
    ∙ params_are archive.params fields packable.apart in
    let fields_are : without apart_names all ≡ fields =
    without-put apart_names (codes "tam") tag pairs refl ∙ without-put apart_names (codes "items") items rest refl
    ∙ params_fields archive.params fields packable.apart in
    let version : has_version_1 all ≡ true = rw version_is packable.version in
    let name : raw_in (codes "name") all ≡ Some archive.name = rw name_is packable.name in
    record_said keys bytes all archive tag (record { hmac = hmac; salt = salt }) version name (items_said all archive.items items_are sized) params_is
    (ap table fields_are ∙ sym packable.fields) (value_of-put (codes "tam") tag pairs) (tag_said pairs hmac salt hmac_size salt_size) right

text_again : (keys : Keys) (archive : ArchiveText) (salt : List ℕ) → IsPackableArchive archive → AreIds archive.items → length salt ≡ 64
    → IsWritable (table (tagged_pairs (record_pairs archive) (packed_tag archive_info keys salt (record_pairs archive)) salt))
    → archive_of keys (tagged_text archive_info keys salt (record_pairs archive)) ≡ Ok (as_tagged archive)
unfolding archive_of
text_again keys archive salt packable sized salt_size writable =
    let ps = record_pairs archive in
    let bytes = tagged_text archive_info keys salt ps in
    ap (record_from keys bytes) (tagged_map archive_info keys salt ps writable)
    ∙ pairs_again keys bytes archive (packed_tag archive_info keys salt ps) salt packable sized (length-packed_tag archive_info keys salt ps) salt_size
    (tag_right archive_info keys salt ps writable)

-- the same of what a call returned for a table
pub written_again : (keys : Keys) (archive : ArchiveText) (salt : List ℕ) (ps : Pairs) (result : Result (Vec ℕ Global) MetaFault)
    → IsPackableArchive archive → AreIds archive.items → length salt ≡ 64 → ps ≡ record_pairs archive
    → IfOk result (λ text. text.items ≡ tagged_text archive_info keys salt ps)
    → IfOk result (λ _. IsWritable (table (tagged_pairs ps (packed_tag archive_info keys salt ps) salt)))
    → IfOk result (λ text. archive_of keys text.items ≡ Ok (as_tagged archive))
written_again keys archive salt ps (Ok text) packable sized salt_size is text_is writable =
    ap (archive_of keys) (text_is ∙ ap (tagged_text archive_info keys salt) is)
    ∙ text_again keys archive salt packable sized salt_size
    (subst (λ (qs : Pairs). IsWritable (table (tagged_pairs qs (packed_tag archive_info keys salt qs) salt))) is writable)
written_again keys archive salt ps (Err fault) packable sized salt_size is text_is writable = tt
