-- A record from its parts; what is read of a record can be packed.
use Rattle.std.proofs.Common.{◌≡◌, ℕ, ◌≤◌, Bool, true, false, cond, List, ◌∷◌, codes, Option, Some, None, option_map, option_and_then, refl, sym, ap}
use Rattle.std.proofs.Common.{◌∙◌, arith}
use Rattle.std.specs.Str.{bytes_eq}
use Rattle.ferry_mac.specs.declared.keys.Keys.{Keys}
use Rattle.ferry_msgpack.specs.Tree.{Tree, nil, flag, number, raw, array, table, Items, no_items, item, Pairs, no_pairs, pair}
use Rattle.ferry_msgpack.specs.Apart.{Parts, contents_in, contents_of, contents_under, parted, raw32_of}
use Rattle.ferry_msgpack.specs.Writable.{pairs_depth, PairsFit, IsWritable}
use Rattle.ferry_fields.specs.Fields.{map_of, value_of, raw_in, has_version_1}
use Rattle.ferry_fields.specs.Others.{without}
use Rattle.ferry_fields.proofs.ApartLemmas.{value_of-blanked, without-blanked}
use Rattle.ferry_fields.proofs.FieldLemmas.{value_of-here, value_of-other, value_of-none}
use Rattle.ferry_fields.proofs.KeptLemmas.{value_of-without, without_writable, has_among-without}
use Rattle.ferry_manifest.specs.Record.Apart.{record_apart}
use Rattle.ferry_manifest.specs.Record.Writing.{AreParams, IsPackableArchive}
use Rattle.ferry_manifest.specs.Record.Text.{apart_names, archive_of, id_of, ids_in, ids_of, record_from}
use Rattle.ferry_manifest.proofs.Manifests.PackableLemmas.{IsInside, inside}

-- ---- a record with the value of `items` apart

one_id : (t : Tree) (o : Option (List (List ℕ)))
    → option_and_then (λ id. option_map (λ ids. id ∷ ids) o) (raw32_of t) ≡ option_and_then (λ id. option_map (λ ids. id ∷ ids) o) (id_of t)
one_id nil o = refl
one_id (flag b) o = refl
one_id (number z) o = refl
one_id (raw content) o = refl
one_id (array items) o = refl
one_id (table pairs) o = refl

contents_ids : (items : Items) → contents_in items ≡ ids_in items
unfolding contents_in ids_in
contents_ids no_items = refl
contents_ids (item t ts) =
    ap (λ (o : Option (List (List ℕ))). option_and_then (λ id. option_map (λ ids. id ∷ ids) o) (raw32_of t)) (contents_ids ts) ∙ one_id t (ids_in ts)

contents_of_ids : (t : Tree) → contents_of t ≡ ids_of t
contents_of_ids nil = refl
contents_of_ids (flag b) = refl
contents_of_ids (number z) = refl
contents_of_ids (raw content) = refl
contents_of_ids (array items) = contents_ids items
contents_of_ids (table pairs) = refl

at_name : (name l : List ℕ) (t : Tree) (ps : Pairs) (b : Bool) → bytes_eq l name ≡ b → contents_under name ps ≡ option_and_then ids_of (value_of name ps)
    → cond b (contents_of t) (contents_under name ps) ≡ option_and_then ids_of (value_of name (pair l t ps))
at_name name l t ps true is rest = contents_of_ids t ∙ sym (ap (option_and_then ids_of) (value_of-here name l t ps is))
at_name name l t ps false is rest = rest ∙ sym (ap (option_and_then ids_of) (value_of-other name l t ps is))

contents_under_ids : (name : List ℕ) (ps : Pairs) → contents_under name ps ≡ option_and_then ids_of (value_of name ps)
unfolding contents_under
contents_under_ids name no_pairs = sym (ap (option_and_then ids_of) (value_of-none name))
contents_under_ids name (pair l t ps) = at_name name l t ps (bytes_eq l name) refl (contents_under_ids name ps)

abbrev some_parts : Parts → Option Parts
some_parts x = Some x

some_same : (x y : Parts) → some_parts x ≡ some_parts y → x ≡ y
some_same x y e = cc

same_record : (keys : Keys) (bytes : List ℕ) (all : Pairs) → record_apart keys bytes (parted (codes "items") all) ≡ record_from keys bytes (Some all)
same_record keys bytes all =
    rw (
      value_of-blanked (codes "items") (codes "version") all refl,
      value_of-blanked (codes "items") (codes "name") all refl,
      value_of-blanked (codes "items") (codes "tam") all refl,
      value_of-blanked (codes "items") (codes "chunker_params") all refl,
      without-blanked apart_names (codes "items") all refl,
      contents_under_ids (codes "items") all,
    ) refl

-- a record of bytes, from its parts
from_parts : (keys : Keys) (bytes : List ℕ) (o : Option Pairs) (parts : Parts) → option_map (parted (codes "items")) o ≡ Some parts
    → record_from keys bytes o ≡ record_apart keys bytes parts
from_parts keys bytes None parts e = cc
from_parts keys bytes (Some all) parts e =
    let same : parted (codes "items") all ≡ parts = some_same (parted (codes "items") all) parts e in
    sym (same_record keys bytes all) ∙ ap (record_apart keys bytes) same

pub archive_parts : (keys : Keys) (bytes : List ℕ) (parts : Parts) → option_map (parted (codes "items")) (map_of bytes) ≡ Some parts
    → archive_of keys bytes ≡ record_apart keys bytes parts
unfolding archive_of
archive_parts keys bytes parts e = from_parts keys bytes (map_of bytes) parts e

-- ---- what is read can be packed

params_from : (o : Option Tree) → ((t : Tree) → o ≡ Some t → IsInside 63 t) → AreParams o
params_from None is = tt
params_from (Some t) is =
    let here = is t refl in
    let deep = here.deep in
    (record { depth_fits = omega arith; fits = here.fits }, deep)

-- what is said of a map is packable
pub record_packable : (all : Pairs) (name : List ℕ) (items : List (List ℕ)) (params : Option Tree) (fields : Tree) (tagged : Bool)
    → IsWritable (table all)
    → has_version_1 all ≡ true → raw_in (codes "name") all ≡ Some name → params ≡ value_of (codes "chunker_params") all
    → fields ≡ table (without apart_names all)
    → IsPackableArchive (record { name = name; items = items; params = params; fields = fields; tagged = tagged })
record_packable all name items params fields tagged writable version name_is params_are fields_are =
    let whole = writable.depth_fits in
    let deep : pairs_depth all ≤ 63 = omega arith in
    let fits : PairsFit all = writable.fits.2 in
    let kept_name : raw_in (codes "name") (without apart_names all) ≡ raw_in (codes "name") all =
    rw (value_of-without apart_names (codes "name") all refl) refl in
    let kept_version : has_version_1 (without apart_names all) ≡ has_version_1 all = rw (value_of-without apart_names (codes "version") all refl) refl in
    rw (fields_are, params_are) (record {
      fields = refl;
      fields_writable = without_writable apart_names all writable;
      apart = has_among-without apart_names all;
      version = kept_version ∙ version;
      name = kept_name ∙ name_is;
      params = params_from (value_of (codes "chunker_params") all) (λ t found. inside 63 (codes "chunker_params") t all deep fits found);
    })
