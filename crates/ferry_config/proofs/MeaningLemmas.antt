-- What a text means, by the conditions of each answer.
use Rattle.std.proofs.Common.{◌≡◌, ◌≢◌, ℕ, ◌||◌, Bool, true, false, not, List, [], codes, if◌then◌else◌, Option, Some, None, is_none, unwrap_or, Ok, Err}
use Rattle.std.proofs.Common.{refl, ap, ◌∙◌}
use Rattle.std.proofs.lemmas.Slice.Eq.{bytes_eq-Decides}
use Rattle.std.specs.Option.{option_map_or}
use Rattle.ferry_config.specs.Config.{SaysConfig, assignments_of, config_in, config_of, fault_of_section, fault_or, first_fault, has_version_1, id_in}
use Rattle.ferry_config.specs.Config.{key_in, limit_in, per_dir_in, repeats_known_name}
use Rattle.ferry_config.specs.Section.{Assignment, value_of}
use Rattle.ferry_config.specs.Value.{is_version_1}
use Rattle.ferry_config.specs.declared.config.Config.{Config}
use Rattle.ferry_config.specs.declared.fault.ConfigFault.{ConfigFault}
use Rattle.ferry_config.specs.declared.fault.ConfigFault.TheVariants.{Version, Id, Key, Number, Repeat, Memory}

-- the order of the tests, over what they found
abbrev fault_among : Bool → Bool → Option (List ℕ) → Option (List ℕ) → Option ℕ → Option ℕ → Option ConfigFault
fault_among repeats version id key per_dir limit =
    if repeats then Some Repeat
    else if not version then Some Version
    else if is_none id then Some Id
    else if is_none key then Some Key
    else if is_none per_dir || is_none limit then Some Number
    else None

abbrev config_among : Option (List ℕ) → Option (List ℕ) → Option ℕ → Option ℕ → Config
config_among id key per_dir limit = record { id = unwrap_or id []; key = unwrap_or key []; per_dir = unwrap_or per_dir 0; limit = unwrap_or limit 0 }

record Found (repeats version : Bool) (id key : Option (List ℕ)) (per_dir limit : Option ℕ) (config : Config) : Type 0 where
  once : repeats ≡ false
  right : version ≡ true
  says_id : id ≡ Some config.id
  says_key : key ≡ Some config.key
  says_per_dir : per_dir ≡ Some config.per_dir
  says_limit : limit ≡ Some config.limit

found_of : (repeats version : Bool) (id key : Option (List ℕ)) (per_dir limit : Option ℕ) (config : Config)
    → fault_or (fault_among repeats version id key per_dir limit) (config_among id key per_dir limit) ≡ Ok config
    → Found repeats version id key per_dir limit config
found_of true version id key per_dir limit config read = cc
found_of false false id key per_dir limit config read = cc
found_of false true None key per_dir limit config read = cc
found_of false true (Some id) None per_dir limit config read = cc
found_of false true (Some id) (Some key) None limit config read = cc
found_of false true (Some id) (Some key) (Some per_dir) None config read = cc
found_of false true (Some id) (Some key) (Some per_dir) (Some limit) config read =
    let same : config_among (Some id) (Some key) (Some per_dir) (Some limit) ≡ config = cc in
    record {
      once = refl;
      right = refl;
      says_id = ap (λ (c : Config). Some c.id) same;
      says_key = ap (λ (c : Config). Some c.key) same;
      says_per_dir = ap (λ (c : Config). Some c.per_dir) same;
      says_limit = ap (λ (c : Config). Some c.limit) same;
    }

no_memory : (repeats version : Bool) (id key : Option (List ℕ)) (per_dir limit : Option ℕ) → fault_among repeats version id key per_dir limit ≡ Some Memory
    → ⊥
no_memory true version id key per_dir limit e = cc
no_memory false false id key per_dir limit e = cc
no_memory false true None key per_dir limit e = cc
no_memory false true (Some id) None per_dir limit e = cc
no_memory false true (Some id) (Some key) None limit e = cc
no_memory false true (Some id) (Some key) (Some per_dir) None e = cc
no_memory false true (Some id) (Some key) (Some per_dir) (Some limit) e = cc

-- ---- the version

version_of : (value : Option (List ℕ)) → option_map_or is_version_1 value false ≡ true → value ≡ Some (codes "1")
version_of None e = cc
version_of (Some text) e = ap Some ((bytes_eq-Decides text (codes "1")).0 e)

-- ---- a fault

fault_ok : (fault : Option ConfigFault) (config : Config) (other : ConfigFault) → fault_or fault config ≡ Err other → fault ≡ Some other
fault_ok None config other e = cc
fault_ok (Some fault) config other e = ap Some cc

pub err_is_first : (text : List ℕ) (fault : ConfigFault) → config_of text ≡ Err fault → first_fault text ≡ Some fault
unfolding config_of
err_is_first text fault e = fault_ok (first_fault text) _ fault e

pub first_is_err : (text : List ℕ) (fault : ConfigFault) → first_fault text ≡ Some fault → config_of text ≡ Err fault
unfolding config_of
first_is_err text fault e = rw e refl

-- ---- a config

says_from : (text : List ℕ) (config : Config) (found : Option (List Assignment)) → assignments_of text ≡ found
    → fault_or (fault_of_section found) (config_in (unwrap_or found [])) ≡ Ok config → SaysConfig text config
says_from text config None e read = cc
says_from text config (Some all) e read =
    let facts = found_of (repeats_known_name all) (has_version_1 all) (id_in all) (key_in all) (per_dir_in all) (limit_in all) config read in
    record {
      all = all;
      section = e;
      once = facts.once;
      version = version_of (value_of (codes "version") all) facts.right;
      id = facts.says_id;
      key = facts.says_key;
      per_dir = facts.says_per_dir;
      limit = facts.says_limit;
    }

pub read_says : (text : List ℕ) (config : Config) → config_of text ≡ Ok config → SaysConfig text config
unfolding config_of first_fault
read_says text config read = says_from text config (assignments_of text) refl read

among_ok : (repeats version : Bool) (id key : Option (List ℕ)) (per_dir limit : Option ℕ) (config : Config)
    → Found repeats version id key per_dir limit config
    → fault_or (fault_among repeats version id key per_dir limit) (config_among id key per_dir limit) ≡ Ok config
among_ok repeats version id key per_dir limit config found =
    rw (found.once, found.right, found.says_id, found.says_key, found.says_per_dir, found.says_limit) refl

pub says_read : (text : List ℕ) (config : Config) → SaysConfig text config → config_of text ≡ Ok config
unfolding config_of first_fault
says_read text config says =
    let all = says.all in
    let right : has_version_1 all ≡ true = rw says.version refl in
    ap (λ found. fault_or (fault_of_section found) (config_in (unwrap_or found []))) says.section
    ∙ among_ok (repeats_known_name all) (has_version_1 all) (id_in all) (key_in all) (per_dir_in all) (limit_in all) config
    record { once = says.once; right = right; says_id = says.id; says_key = says.key; says_per_dir = says.per_dir; says_limit = says.limit }

-- ---- memory

memory_from : (found : Option (List Assignment)) → fault_of_section found ≡ Some Memory → ⊥
memory_from None e = cc
memory_from (Some all) e = no_memory (repeats_known_name all) (has_version_1 all) (id_in all) (key_in all) (per_dir_in all) (limit_in all) e

pub never_memory : (text : List ℕ) → config_of text ≢ Err Memory
unfolding first_fault
never_memory text e = memory_from (assignments_of text) (err_is_first text Memory e)
