-- A text that is printed is read as its config.
use Rattle.std.proofs.Common.{◌≡◌, ◌≢◌, ℕ, ◌-◌, ◌/◌, ◌<◌, ◌≤◌, true, false, List, [], ◌∷◌, ◌++◌, length, map, codes, Some, Ok, unwrap_or, refl, ap, sym, ◌∙◌}
use Rattle.std.proofs.Common.{arith, append-nil}
use Rattle.std.specs.Fmt.{decimal}
use Rattle.std.specs.List.{before_first, concat, flat_map, list_all, list_any}
use Rattle.std.specs.Option.{option_map}
use Rattle.std.specs.Result.{result_ok}
use Rattle.hex.proofs.HexLemmas.{decode_sized-encode_lower}
use Rattle.hex.specs.Hex.{IsBytes, encode_lower}
use Rattle.base64.specs.Engines.{standard}
use Rattle.base64.specs.GeneralPurpose.{decode_of, encode_of}
use Rattle.base64.specs.Rfc4648.{encode_symbols}
use Rattle.ferry_config.proofs.BoolLemmas.{or_left, or_right}
use Rattle.ferry_config.proofs.PrintedLemmas.{concat-pieces, is_line, line_of-additional_free_space, line_of-append_only, line_of-id, line_of-key}
use Rattle.ferry_config.proofs.PrintedLemmas.{line_of-limit, line_of-per_dir, line_of-repository, line_of-storage_quota, line_of-version, lines-flat_map}
use Rattle.ferry_config.proofs.PrintedLemmas.{lines-further, lines_inner-further}
use Rattle.ferry_config.proofs.SectionLemmas.{before_first-fails, continuation-assigned, continuation-nil, continuation-other, repository_sections-named}
use Rattle.ferry_config.proofs.SectionLemmas.{repository_sections-nil, repository_sections-other}
use Rattle.ferry_config.proofs.SolidLemmas.{is_solid_text, solid-base64, solid-digits, solid-hex, solid-inner, solid-take}
use Rattle.ferry_config.proofs.ValueLemmas.{digits-decimal, number_of-decimal}
use Rattle.ferry_config.specs.Config.{assignments_of, config_in, config_of, fault_in, fault_of_section, fault_or, first_fault, formed_lines}
use Rattle.ferry_config.specs.Line.{Line, assigned, continued, header, line_of}
use Rattle.ferry_config.specs.Section.{Assignment, assignments, continuation, has_forms, is_formless, is_header, only_one, repository_lines}
use Rattle.ferry_config.specs.Section.{repository_sections, values_to}
use Rattle.ferry_config.specs.Text.{config_text, ended, further_pieces, head_lines, key_lines, piece, wrapped_lines}
use Rattle.ferry_config.specs.Value.{greatest, id_of, key_of}
use Rattle.ferry_config.specs.declared.config.Config.{Config}

-- ---- lines that continue a value

none_header : (pieces : List (List ℕ)) → list_any is_header (map continued pieces) ≡ false
none_header [] = refl
none_header (piece ∷ rest) = none_header rest

none_formless : (pieces : List (List ℕ)) → list_any is_formless (map continued pieces) ≡ false
none_formless [] = refl
none_formless (piece ∷ rest) = none_formless rest

no_assignments : (pieces : List (List ℕ)) → assignments (map continued pieces) ≡ []
unfolding assignments
no_assignments [] = refl
no_assignments (piece ∷ rest) = no_assignments rest

continuation-pieces : (pieces : List (List ℕ)) → continuation (map continued pieces) ≡ concat pieces
continuation-pieces [] = continuation-nil
continuation-pieces (piece ∷ rest) =
    continuation-other (continued piece) (map continued rest) refl ∙ ap (λ others. piece ++ others) (continuation-pieces rest)

-- ---- a section to the end of the text

before_first-none : (all : List Line) → list_any is_header all ≡ false → before_first is_header all ≡ all
before_first-none [] none = refl
before_first-none (line ∷ rest) none =
    before_first-fails is_header line rest (or_left (is_header line) (list_any is_header rest) none)
    ∙ ap (λ others. line ∷ others) (before_first-none rest (or_right (is_header line) (list_any is_header rest) none))

repository_sections-none : (all : List Line) → list_any is_header all ≡ false → repository_sections all ≡ []
repository_sections-none [] none = repository_sections-nil
repository_sections-none (line ∷ rest) none =
    repository_sections-other line rest (or_left (is_header line) (list_any is_header rest) none)
    ∙ repository_sections-none rest (or_right (is_header line) (list_any is_header rest) none)

-- ---- what is printed

-- the lines of the section before those of the key, and these behind them
abbrev section_of : Config → List Line → List Line
section_of config behind =
    assigned (codes "version") (codes "1")
    ∷ assigned (codes "segments_per_dir") (decimal config.per_dir)
    ∷ assigned (codes "max_segment_size") (decimal config.limit)
    ∷ assigned (codes "append_only") (codes "0")
    ∷ assigned (codes "storage_quota") (codes "0")
    ∷ assigned (codes "additional_free_space") (codes "0")
    ∷ assigned (codes "id") (encode_lower config.id)
    ∷ behind

-- the lines of a key text, by its pieces
abbrev key_section : List ℕ → List (List ℕ) → List Line
key_section first further = assigned (codes "key") first ∷ map continued further

-- the assignments of the section before that of the key, and these behind them
abbrev assigned_of : Config → List Assignment → List Assignment
assigned_of config behind =
    record { name = codes "version"; value = codes "1" }
    ∷ record { name = codes "segments_per_dir"; value = decimal config.per_dir }
    ∷ record { name = codes "max_segment_size"; value = decimal config.limit }
    ∷ record { name = codes "append_only"; value = codes "0" }
    ∷ record { name = codes "storage_quota"; value = codes "0" }
    ∷ record { name = codes "additional_free_space"; value = codes "0" }
    ∷ record { name = codes "id"; value = encode_lower config.id }
    ∷ behind

-- the assignment of a key text, none where it is empty
abbrev assigned_key : List ℕ → List Assignment
assigned_key [] = []
assigned_key (first ∷ rest) = record { name = codes "key"; value = first ∷ rest } ∷ []

section_lines : (config : Config) (behind : List Line) → list_any is_header behind ≡ false
    → repository_lines (header (codes "repository") ∷ section_of config behind) ≡ Some (section_of config behind)
section_lines config behind none =
    let all = section_of config behind in
    ap only_one (repository_sections-named (codes "repository") all refl
    ∙ ap (λ rest. before_first is_header all ∷ rest) (repository_sections-none all none))
    ∙ ap Some (before_first-none all none)

section_forms : (config : Config) (behind : List Line) → list_any is_formless behind ≡ false → has_forms (section_of config behind) ≡ true
unfolding has_forms
section_forms config behind none = rw none refl

section_assignments : (config : Config) (first : List ℕ) (further : List (List ℕ))
    → assignments (section_of config (key_section first further))
    ≡ assigned_of config (record { name = codes "key"; value = first ++ concat further } ∷ [])
unfolding assignments
section_assignments config first further = simp (continuation-assigned, append-nil) (rw (continuation-pieces further, no_assignments further) refl)

section_assignments-none : (config : Config) → assignments (section_of config []) ≡ assigned_of config []
unfolding assignments
section_assignments-none config = simp (continuation-assigned, continuation-nil, append-nil)

-- ---- the lines of the text

-- the forms of the lines before those of the key
head_forms : (config : Config) → config.per_dir ≤ greatest → config.limit ≤ greatest → (behind : List (List ℕ))
    → map line_of (head_lines config ++ behind) ≡ header (codes "repository") ∷ section_of config (map line_of behind)
head_forms config small_dir small_limit behind =
    let per_dir = line_of-per_dir (decimal config.per_dir) (solid-digits (decimal config.per_dir) (digits-decimal config.per_dir small_dir)) in
    let limit = line_of-limit (decimal config.limit) (solid-digits (decimal config.limit) (digits-decimal config.limit small_limit)) in
    let id = line_of-id (encode_lower config.id) (solid-hex config.id) in
    rw (line_of-repository, line_of-version, per_dir, limit, line_of-append_only, line_of-storage_quota, line_of-additional_free_space, id)
    refl

-- the forms of the lines of a key text
key_forms : (key : List ℕ) → 0 < length key → is_solid_text key ≡ true
    → map line_of (wrapped_lines (codes "key = ") (9 ∷ []) key) ≡ key_section (piece key 0) (further_pieces key ((length key - 1) / 70))
key_forms key some solid =
    let first = line_of-key (piece key 0) (solid-take 70 key solid) in
    let further = lines-further key ((length key - 1) / 70) solid (omega arith) in
    rw (first, further) refl

-- no line has an end in it
head_inner : (config : Config) → config.per_dir ≤ greatest → config.limit ≤ greatest → (behind : List (List ℕ)) → list_all is_line behind ≡ true
    → list_all is_line (head_lines config ++ behind) ≡ true
head_inner config small_dir small_limit behind inner =
    let per_dir = solid-inner (decimal config.per_dir) (solid-digits (decimal config.per_dir) (digits-decimal config.per_dir small_dir)) in
    let limit = solid-inner (decimal config.limit) (solid-digits (decimal config.limit) (digits-decimal config.limit small_limit)) in
    let id = solid-inner (encode_lower config.id) (solid-hex config.id) in
    rw (per_dir, limit, id, inner) refl

key_inner : (key : List ℕ) → is_solid_text key ≡ true → list_all is_line (wrapped_lines (codes "key = ") (9 ∷ []) key) ≡ true
key_inner key solid =
    let first = solid-inner (piece key 0) (solid-take 70 key solid) in
    let further = lines_inner-further key ((length key - 1) / 70) solid in
    rw (first, further) refl

-- the assignments of a text whose lines behind the head have these forms
assignments_behind : (config : Config) → config.per_dir ≤ greatest → config.limit ≤ greatest → (behind : List (List ℕ)) (forms : List Line)
    → list_all is_line behind ≡ true → map line_of behind ≡ forms → list_any is_header forms ≡ false → list_any is_formless forms ≡ false
    → assignments_of (flat_map ended (head_lines config ++ behind)) ≡ Some (assignments (section_of config forms))
unfolding assignments_of
assignments_behind config small_dir small_limit behind forms inner here no_header no_formless =
    let all = section_of config forms in
    let split = lines-flat_map (head_lines config ++ behind) (head_inner config small_dir small_limit behind inner) in
    let lines_forms = ap (map line_of) split ∙ head_forms config small_dir small_limit behind
    ∙ ap (λ tail. header (codes "repository") ∷ section_of config tail) here in
    let section = ap repository_lines lines_forms ∙ section_lines config forms no_header in
    let formed : formed_lines (Some all) ≡ Some all = rw (section_forms config forms no_formless) refl in
    ap (λ found. option_map assignments (formed_lines found)) section
    ∙ ap (option_map assignments) formed

-- the assignments of the text
config_assignments : (config : Config) → config.per_dir ≤ greatest → config.limit ≤ greatest → (key : List ℕ) → is_solid_text key ≡ true
    → assignments_of (flat_map ended (head_lines config ++ key_lines key)) ≡ Some (assigned_of config (assigned_key key))
config_assignments config small_dir small_limit [] solid =
    assignments_behind config small_dir small_limit [] [] refl refl refl refl ∙ ap Some (section_assignments-none config)
config_assignments config small_dir small_limit (first ∷ rest) solid =
    let key = first ∷ rest in
    let further = further_pieces key ((length key - 1) / 70) in
    assignments_behind config small_dir small_limit (wrapped_lines (codes "key = ") (9 ∷ []) key) (key_section (piece key 0) further)
    (key_inner key solid) (key_forms key (omega arith) solid) (none_header further) (none_formless further)
    ∙ ap Some (section_assignments config (piece key 0) further)
    ∙ ap (λ value. Some (assigned_of config (record { name = codes "key"; value = value } ∷ []))) (concat-pieces key (omega arith))

-- ---- what is read

pub id_of-hex : (id : List ℕ) → length id ≡ 32 → IsBytes id → id_of (encode_lower id) ≡ Some id
unfolding id_of
id_of-hex id long bytes = ap result_ok (decode_sized-encode_lower id 32 long bytes)

key_of-text : (key text : List ℕ) → decode_of standard text ≡ Ok key → key_of text ≡ Some key
unfolding key_of
key_of-text key text decoded = ap result_ok decoded

-- an encoding of no characters is that of no bytes
empty_encoding : (bytes : List ℕ) → encode_of standard bytes ≡ [] → bytes ≡ []
unfolding encode_symbols
empty_encoding [] e = refl
empty_encoding (a ∷ []) e = cc
empty_encoding (a ∷ b ∷ []) e = cc
empty_encoding (a ∷ b ∷ c ∷ rest) e = cc

-- what a config needs to be printed
pub record IsPrintable (config : Config) : Type 0 where
  pub dir_least : 1 ≤ config.per_dir
  pub dir_most : config.per_dir ≤ greatest
  pub limit_least : 1 ≤ config.limit
  pub limit_most : config.limit ≤ greatest
  pub id : id_of (encode_lower config.id) ≡ Some config.id

read_assigned : (config : Config) (key : List ℕ) → IsPrintable config → decode_of standard key ≡ Ok config.key → (key ≡ [] → config.key ≡ [])
    → fault_or (fault_in (assigned_of config (assigned_key key))) (config_in (assigned_of config (assigned_key key))) ≡ Ok config
unfolding values_to
read_assigned config [] printable decoded empty =
    let per_dir = number_of-decimal config.per_dir printable.dir_least printable.dir_most in
    let limit = number_of-decimal config.limit printable.limit_least printable.limit_most in
    let id = printable.id in
    rw (per_dir, limit, id) (ap (λ key. Ok record { id = config.id; key = key; per_dir = config.per_dir; limit = config.limit }) (sym (empty refl)))
read_assigned config (first ∷ rest) printable decoded empty =
    let per_dir = number_of-decimal config.per_dir printable.dir_least printable.dir_most in
    let limit = number_of-decimal config.limit printable.limit_least printable.limit_most in
    let id = printable.id in
    let bytes = key_of-text config.key (first ∷ rest) decoded in
    rw (per_dir, limit, id, bytes) refl

-- a printed config is read as itself
pub config_of-config_text : (config : Config) → IsPrintable config → decode_of standard (encode_of standard config.key) ≡ Ok config.key
    → config_of (config_text config) ≡ Ok config
unfolding config_of config_text first_fault
config_of-config_text config printable decoded =
    let key = encode_of standard config.key in
    ap (λ all. fault_or (fault_of_section all) (config_in (unwrap_or all [])))
    (config_assignments config printable.dir_most printable.limit_most key (solid-base64 config.key))
    ∙ read_assigned config key printable decoded (empty_encoding config.key)
