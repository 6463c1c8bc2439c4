-- What is read can be packed.
use Rattle.std.proofs.Common.{◌≡◌, ℕ, ◌≤◌, Bool, true, false, List, [], ◌∷◌, codes, Option, Some, None, option_map, option_and_then, refl, sym, ap, subst, ◌∙◌}
use Rattle.std.proofs.Common.{arith}
use Rattle.std.specs.Str.{bytes_eq}
use Rattle.ferry_msgpack.specs.Tree.{Tree, nil, flag, number, raw, array, table, Pairs, no_pairs, pair}
use Rattle.ferry_msgpack.specs.Writable.{depth, pairs_depth, IsBelow, IsIncreasing, Fits, PairsFit, IsWritable}
use Rattle.ferry_fields.specs.Fields.{value_of, pairs_in, raw_in, raw32_in}
use Rattle.ferry_fields.specs.Others.{without}
use Rattle.ferry_fields.proofs.FieldLemmas.{value_of-here, value_of-other, value_of-none}
use Rattle.ferry_fields.proofs.KeptLemmas.{without_writable, has_among-without}
use Rattle.ferry_manifest.specs.Manifest.Text.{archive_from, archives_in, archives_of, config_in, field_names, in_order, item_keys_in, map_tree, raws_of}
use Rattle.ferry_manifest.specs.Manifest.Writing.{IsBelowNames, AreIncreasing, IsPackable, archive_names}
use Rattle.ferry_manifest.specs.Values.{pairs_of_table, where_absent}
use Rattle.ferry_manifest.specs.declared.manifest.ArchiveRef.{ArchiveRef}
use Rattle.ferry_manifest.proofs.Manifests.OrderLemmas.{in_order-increasing}

-- ---- the value of a name is no deeper than all, and fits

-- what holds of each value of pairs that can be written
pub record IsInside (d : ℕ) (t : Tree) : Type 0 where
  pub deep : depth t ≤ d
  pub fits : Fits t

some_tree : (t u : Tree) → Some t ≡ Some u → t ≡ u
some_tree t u e = cc

inside_at : (d : ℕ) (name key : List ℕ) (t u : Tree) (ps : Pairs) (b : Bool) → bytes_eq key name ≡ b → depth u ≤ d → Fits u
    → value_of name (pair key u ps) ≡ Some t → (value_of name ps ≡ Some t → IsInside d t) → IsInside d t
inside_at d name key t u ps true is deep fits found rest =
    let same : u ≡ t = some_tree u t (sym (value_of-here name key u ps is) ∙ found) in
    subst (IsInside d) same (record { deep = deep; fits = fits })
inside_at d name key t u ps false is deep fits found rest = rest (sym (value_of-other name key u ps is) ∙ found)

no_tree : (t : Tree) (o : Option Tree) → o ≡ None → o ≡ Some t → ⊥
no_tree t o none some = cc

pub inside : (d : ℕ) (name : List ℕ) (t : Tree) (ps : Pairs) → pairs_depth ps ≤ d → PairsFit ps → value_of name ps ≡ Some t → IsInside d t
inside d name t no_pairs deep fits found = absurd (no_tree t (value_of name no_pairs) (value_of-none name) found)
inside d name t (pair key u ps) deep fits found =
    inside_at d name key t u ps (bytes_eq key name) refl (omega arith) fits.1 found (inside d name t ps (omega arith) fits.2)

-- ---- config

record IsConfig (config : Tree) : Type 0 where
  table_is : config ≡ table (pairs_of_table config)
  deep : depth config ≤ 63
  fits : Fits config

config_of_tree : (t config : Tree) → IsInside 63 t → map_tree t ≡ Some config → IsConfig config
config_of_tree nil config is e = absurd cc
config_of_tree (flag b) config is e = absurd cc
config_of_tree (number z) config is e = absurd cc
config_of_tree (raw content) config is e = absurd cc
config_of_tree (array items) config is e = absurd cc
config_of_tree (table ps) config is e = subst IsConfig (some_tree (table ps) config e) (record { table_is = refl; deep = is.deep; fits = is.fits })

empty_fits : Fits (table no_pairs)
empty_fits = (omega arith, tt, tt)

config_of_option : (o : Option Tree) (config : Tree) → ((t : Tree) → o ≡ Some t → IsInside 63 t) → where_absent (table no_pairs) map_tree o ≡ Some config
    → IsConfig config
config_of_option None config is e = subst IsConfig (some_tree (table no_pairs) config e) (record { table_is = refl; deep = omega arith; fits = empty_fits })
config_of_option (Some t) config is e = config_of_tree t config (is t refl) e

-- ---- archives

-- the names of pairs
abbrev names_of : Pairs → List (List ℕ)
names_of no_pairs = []
names_of (pair name t ps) = name ∷ names_of ps

below_names : (name : List ℕ) (ps : Pairs) → IsBelow name ps → IsBelowNames name (names_of ps)
below_names name no_pairs below = tt
below_names name (pair key t ps) below = below

names_increase : (ps : Pairs) → IsIncreasing ps → AreIncreasing (names_of ps)
names_increase no_pairs increase = tt
names_increase (pair name t ps) increase = (below_names name ps increase.0, names_increase ps increase.1)

archive_named : (name : List ℕ) (id time : Option (List ℕ)) (archive : ArchiveRef)
    → option_and_then (λ i. option_map (λ t. record { name = name; id = i; time = t }) time) id ≡ Some archive → archive.name ≡ name
archive_named name None time archive e = absurd cc
archive_named name (Some id) None archive e = absurd cc
archive_named name (Some id) (Some time) archive e = cc

archive_name_is : (name : List ℕ) (fields : Option Pairs) (archive : ArchiveRef) → option_and_then (archive_from name) fields ≡ Some archive
    → archive.name ≡ name
archive_name_is name None archive e = absurd cc
archive_name_is name (Some fields) archive e = archive_named name (raw32_in (codes "id") fields) (raw_in (codes "time") fields) archive e

archives_named_at : (name : List ℕ) (names : List (List ℕ)) (first : Option ArchiveRef) (rest : Option (List ArchiveRef)) (archives : List ArchiveRef)
    → ((archive : ArchiveRef) → first ≡ Some archive → archive.name ≡ name)
    → ((others : List ArchiveRef) → rest ≡ Some others → archive_names others ≡ names)
    → option_and_then (λ archive. option_map (λ others. archive ∷ others) rest) first ≡ Some archives → archive_names archives ≡ name ∷ names
archives_named_at name names None rest archives here there e = absurd cc
archives_named_at name names (Some archive) None archives here there e = absurd cc
archives_named_at name names (Some archive) (Some others) archives here there e =
    let same : archive ∷ others ≡ archives = cc in
    ap archive_names (sym same) ∙ rw (here archive refl, there others refl) refl

archives_named : (ps : Pairs) (archives : List ArchiveRef) → archives_of ps ≡ Some archives → archive_names archives ≡ names_of ps
unfolding archives_of
archives_named no_pairs archives e = let same : [] ≡ archives = cc in ap archive_names (sym same)
archives_named (pair name t ps) archives e =
    archives_named_at name (names_of ps) (option_and_then (archive_from name) (pairs_in t)) (archives_of ps) archives (archive_name_is name (pairs_in t))
    (archives_named ps) e

archives_of_tree : (t : Tree) (archives : List ArchiveRef) → Fits t → option_and_then archives_of (pairs_in t) ≡ Some archives
    → AreIncreasing (archive_names archives)
archives_of_tree nil archives fits e = absurd cc
archives_of_tree (flag b) archives fits e = absurd cc
archives_of_tree (number z) archives fits e = absurd cc
archives_of_tree (raw content) archives fits e = absurd cc
archives_of_tree (array items) archives fits e = absurd cc
archives_of_tree (table ps) archives fits e = subst AreIncreasing (sym (archives_named ps archives e)) (names_increase ps fits.1)

archives_of_option : (o : Option Tree) (archives : List ArchiveRef) → ((t : Tree) → o ≡ Some t → IsInside 63 t)
    → option_and_then archives_of (option_and_then pairs_in o) ≡ Some archives → AreIncreasing (archive_names archives)
archives_of_option None archives is e = absurd cc
archives_of_option (Some t) archives is e = archives_of_tree t archives (is t refl).fits e

-- ---- item keys

item_keys_of_names : (o : Option (List (List ℕ))) (names : List (List ℕ)) → option_map in_order o ≡ Some names → AreIncreasing names
item_keys_of_names None names e = absurd cc
item_keys_of_names (Some all) names e = let same : in_order all ≡ names = cc in subst AreIncreasing same (in_order-increasing all)

item_keys_of_option : (o : Option Tree) (names : List (List ℕ)) → where_absent [] (λ t. option_map in_order (raws_of t)) o ≡ Some names → AreIncreasing names
item_keys_of_option None names e = let same : [] ≡ names = cc in subst AreIncreasing same tt
item_keys_of_option (Some t) names e = item_keys_of_names (raws_of t) names e

-- ---- all of it

-- what is said is packable
pub text_packable : (all : Pairs) (timestamp : Option (List ℕ)) (config : Tree) (names : List (List ℕ)) (archives : List ArchiveRef) → IsWritable (table all)
    → config_in all ≡ Some config → item_keys_in all ≡ Some names → archives_in all ≡ Some archives
    → IsPackable (record { timestamp = timestamp; config = config; item_keys = names; archives = archives; more = table (without field_names all) })
text_packable all timestamp config names archives writable config_is names_are archives_are =
    let whole = writable.depth_fits in
    let deep : pairs_depth all ≤ 63 = omega arith in
    let fits : PairsFit all = writable.fits.2 in
    let is_config = config_of_option (value_of (codes "config") all) config (λ t found. inside 63 (codes "config") t all deep fits found) config_is in
    let config_deep = is_config.deep in
    record {
      archives = archives_of_option (value_of (codes "archives") all) archives (λ t found. inside 63 (codes "archives") t all deep fits found) archives_are;
      item_keys = item_keys_of_option (value_of (codes "item_keys") all) names names_are;
      config = is_config.table_is;
      config_writable = record { depth_fits = omega arith; fits = is_config.fits };
      config_depth = config_deep;
      more = refl;
      more_writable = without_writable field_names all writable;
      apart = has_among-without field_names all;
    }
