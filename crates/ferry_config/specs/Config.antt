-- What a `config` means: its first fault, or what it says.
use Rattle.std.specs.Prelude.{◌≡◌, ℕ, ◌||◌, not, Bool, false, if◌then◌else◌, List, [], ◌∷◌, codes, map, Option, Some, None, is_none, unwrap_or}
use Rattle.std.specs.Prelude.{option_and_then, Result, Ok, Err}
use Rattle.std.specs.List.{list_any}
use Rattle.std.specs.Option.{option_map, option_map_or}
use Rattle.std.specs.Str.Lines.{lines}
use Rattle.ferry_config.specs.Line.{Line, line_of}
use Rattle.ferry_config.specs.Section.{Assignment, assignments, has_forms, repository_lines, stands_twice, value_of}
use Rattle.ferry_config.specs.Value.{is_version_1, id_of, key_of, number_of}
use Rattle.ferry_config.specs.declared.config.Config.{Config}
use Rattle.ferry_config.specs.declared.fault.ConfigFault.{ConfigFault}
use Rattle.ferry_config.specs.declared.fault.ConfigFault.TheVariants.{Section, Version, Id, Key, Number, Repeat}

-- the lines of the section `repository` where there is one and its lines have their forms
abbrev pub formed_lines : Option (List Line) → Option (List Line)
formed_lines None = None
formed_lines (Some all) = if has_forms all then Some all else None

-- the assignments of the section `repository`, where there is one and its lines have their forms.
-- A line ends with LF or CR LF, the last one perhaps without
unfoldable pub assignments_of : List ℕ → Option (List Assignment)
assignments_of text =
    option_map assignments (formed_lines (repository_lines (map line_of (lines text))))

-- the names that mean something, others are ignored
abbrev pub known_names : List (List ℕ)
known_names =
    codes "version" ∷ codes "id" ∷ codes "key"
    ∷ codes "segments_per_dir" ∷ codes "max_segment_size" ∷ []

-- whether a known name stands twice
abbrev pub repeats_known_name : List Assignment → Bool
repeats_known_name all = list_any (λ name. stands_twice name all) known_names

-- whether `version` is there and is 1
abbrev pub has_version_1 : List Assignment → Bool
has_version_1 all = option_map_or is_version_1 (value_of (codes "version") all) false

-- what `id` says
abbrev pub id_in : List Assignment → Option (List ℕ)
id_in all = option_and_then id_of (value_of (codes "id") all)

-- what `key` says: no bytes where it is absent, as in a repository whose key lies in a file of its own
abbrev pub key_in : List Assignment → Option (List ℕ)
key_in all = option_map_or key_of (value_of (codes "key") all) (Some [])

-- what a number's name says: its default where it is absent
abbrev pub number_in : List ℕ → ℕ → List Assignment → Option ℕ
number_in name default all = option_map_or number_of (value_of name all) (Some default)

-- what `segments_per_dir` says
abbrev pub per_dir_in : List Assignment → Option ℕ
per_dir_in all = number_in (codes "segments_per_dir") 1000 all

-- what `max_segment_size` says
abbrev pub limit_in : List Assignment → Option ℕ
limit_in all = number_in (codes "max_segment_size") 524288000 all

-- the first fault of the section's assignments, in the order in which faults are looked for
abbrev pub fault_in : List Assignment → Option ConfigFault
fault_in all =
    if repeats_known_name all then Some Repeat
    else if not (has_version_1 all) then Some Version
    else if is_none (id_in all) then Some Id
    else if is_none (key_in all) then Some Key
    else if is_none (per_dir_in all) || is_none (limit_in all) then Some Number
    else None

-- the first fault where the section has these assignments, or no assignments can be told
abbrev pub fault_of_section : Option (List Assignment) → Option ConfigFault
fault_of_section None = Some Section
fault_of_section (Some all) = fault_in all

-- the first fault of a text
unfoldable pub first_fault : List ℕ → Option ConfigFault
first_fault text = fault_of_section (assignments_of text)

-- what the values of the names say
abbrev pub config_in : List Assignment → Config
config_in all = record {
  id = unwrap_or (id_in all) [];
  key = unwrap_or (key_in all) [];
  per_dir = unwrap_or (per_dir_in all) 0;
  limit = unwrap_or (limit_in all) 0;
}

-- the fault, or else what is said
abbrev pub fault_or : Option ConfigFault → Config → Result Config ConfigFault
fault_or None config = Ok config
fault_or (Some fault) config = Err fault

-- what a text means: its first fault, or what the values of its names say
unfoldable pub config_of : List ℕ → Result Config ConfigFault
config_of text = fault_or (first_fault text) (config_in (unwrap_or (assignments_of text) []))

-- the text has no fault and says this: one section `repository` whose lines have their forms, with
-- these assignments, no known name twice, version 1, and the four values
pub record SaysConfig (text : List ℕ) (config : Config) : Type 0 where
  pub all : List Assignment
  pub section : assignments_of text ≡ Some all
  pub once : repeats_known_name all ≡ false
  pub version : value_of (codes "version") all ≡ Some (codes "1")
  pub id : id_in all ≡ Some config.id
  pub key : key_in all ≡ Some config.key
  pub per_dir : per_dir_in all ≡ Some config.per_dir
  pub limit : limit_in all ≡ Some config.limit
