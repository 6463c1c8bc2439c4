-- The one text of a config.
use Rattle.std.specs.Prelude.{ℕ, zero, suc, ◌-◌, ◌*◌, ◌/◌, List, [], ◌∷◌, ◌++◌, length, take, drop, codes, map}
use Rattle.std.specs.Fmt.{decimal}
use Rattle.std.specs.List.{flat_map}
use Rattle.hex.specs.Hex.{encode_lower}
use Rattle.base64.specs.Engines.{standard}
use Rattle.base64.specs.GeneralPurpose.{encode_of}
use Rattle.ferry_config.specs.declared.config.Config.{Config}

-- a line with its end
abbrev pub ended : List ℕ → List ℕ
ended line = line ++ 10 ∷ []

-- the piece of number n of a text: its 70 characters from 70 * n on, or fewer at its end
abbrev pub piece : List ℕ → ℕ → List ℕ
piece text n = take 70 (drop (70 * n) text)

-- the first n pieces behind the piece of number 0
unfoldable pub further_pieces : List ℕ → ℕ → List (List ℕ)
further_pieces text zero = []
further_pieces text (suc n) = further_pieces text n ++ piece text (suc n) ∷ []

-- the lines of a text that isn't empty: its first piece behind some bytes, and each further one behind others
abbrev pub wrapped_lines : List ℕ → List ℕ → List ℕ → List (List ℕ)
wrapped_lines front before text = (front ++ piece text 0)
    ∷ map (λ further. before ++ further) (further_pieces text ((length text - 1) / 70))

-- the lines of a key text: the first piece behind the name, and each further one behind a tab; none where it is empty
abbrev pub key_lines : List ℕ → List (List ℕ)
key_lines [] = []
key_lines (first ∷ rest) = wrapped_lines (codes "key = ") (9 ∷ []) (first ∷ rest)

-- the lines before those of the key
abbrev pub head_lines : Config → List (List ℕ)
head_lines config =
    codes "[repository]" ∷ codes "version = 1"
    ∷ (codes "segments_per_dir = " ++ decimal config.per_dir)
    ∷ (codes "max_segment_size = " ++ decimal config.limit)
    ∷ codes "append_only = 0" ∷ codes "storage_quota = 0" ∷ codes "additional_free_space = 0"
    ∷ (codes "id = " ++ encode_lower config.id) ∷ []

-- the lines of a config
abbrev pub config_lines : Config → List (List ℕ)
config_lines config = head_lines config ++ key_lines (encode_of standard config.key)

-- the text of a config
unfoldable pub config_text : Config → List ℕ
config_text config = flat_map ended (config_lines config)
