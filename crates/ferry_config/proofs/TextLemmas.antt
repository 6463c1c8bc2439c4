-- Lemmas on the text of a config, for the printer.
use Rattle.std.proofs.Common.{◌≡◌, ℕ, ◌+◌, ◌<◌, length, arith, List, [], ◌∷◌, ◌++◌, map, codes, refl, ap, sym, ◌∙◌, add-one, append_assoc, append-nil}
use Rattle.std.specs.List.{flat_map}
use Rattle.base64.specs.Engines.{standard}
use Rattle.base64.specs.GeneralPurpose.{encode_of}
use Rattle.ferry_config.specs.declared.config.Config.{Config}
use Rattle.ferry_config.specs.Text.{config_text, ended, further_pieces, head_lines, key_lines, piece, wrapped_lines}

-- the lines of a text with its first n further pieces
abbrev pub wrapped_to : List ℕ → List ℕ → List ℕ → ℕ → List (List ℕ)
wrapped_to front before text n = (front ++ piece text 0) ∷ map (λ further. before ++ further) (further_pieces text n)

pub wrapped_to-zero : (front before text : List ℕ) → flat_map ended (wrapped_to front before text 0) ≡ ended (front ++ piece text 0)
unfolding further_pieces
wrapped_to-zero front before text = append-nil (ended (front ++ piece text 0))

pub flat_map-append : (xs ys : List (List ℕ)) → flat_map ended (xs ++ ys) ≡ flat_map ended xs ++ flat_map ended ys
flat_map-append [] ys = refl
flat_map-append (x ∷ xs) ys = ap (λ rest. ended x ++ rest) (flat_map-append xs ys) ∙ sym (append_assoc (ended x) (flat_map ended xs) (flat_map ended ys))

map-append_one : (before : List ℕ) (xs : List (List ℕ)) (y : List ℕ)
    → map (λ further. before ++ further) (xs ++ y ∷ []) ≡ map (λ further. before ++ further) xs ++ (before ++ y) ∷ []
map-append_one before [] y = refl
map-append_one before (x ∷ xs) y = ap (λ rest. (before ++ x) ∷ rest) (map-append_one before xs y)

-- one more piece
pub wrapped_to-next : (front before text : List ℕ) (n : ℕ)
    → flat_map ended (wrapped_to front before text (n + 1)) ≡ flat_map ended (wrapped_to front before text n) ++ ended (before ++ piece text (n + 1))
unfolding further_pieces
wrapped_to-next front before text n =
    let first = ended (front ++ piece text 0) in
    let next = piece text (n + 1) in
    let lines = map (λ (further : List ℕ). before ++ further) (further_pieces text n) in
    let more : further_pieces text (n + 1) ≡ further_pieces text n ++ next ∷ [] = rw (add-one n) refl in
    ap (λ pieces. first ++ flat_map ended (map (λ further. before ++ further) pieces)) more
    ∙ ap (λ all. first ++ flat_map ended all) (map-append_one before (further_pieces text n) next)
    ∙ ap (λ rest. first ++ rest) (flat_map-append lines ((before ++ next) ∷ []))
    ∙ ap (λ rest. first ++ (flat_map ended lines ++ rest)) (append-nil (ended (before ++ next)))
    ∙ sym (append_assoc first (flat_map ended lines) (ended (before ++ next)))

-- a key text that isn't empty
pub key_lines-some : (key : List ℕ) → 0 < length key → key_lines key ≡ wrapped_lines (codes "key = ") (9 ∷ []) key
key_lines-some [] some = absurd (omega arith)
key_lines-some (first ∷ rest) some = refl

-- three lines at the end of a text
pub three_lines : (text a b c d e f : List ℕ)
    → ((text ++ ended (a ++ b)) ++ ended (c ++ d)) ++ ended (e ++ f) ≡ text ++ (a ++ (ended b ++ (c ++ (ended d ++ (e ++ (ended f ++ []))))))
three_lines text a b c d e f = simp (append_assoc, append-nil)

-- what stands in front of the two numbers and of the id
abbrev pub before_per_dir : List ℕ
before_per_dir = ended (codes "[repository]") ++ (ended (codes "version = 1") ++ codes "segments_per_dir = ")

abbrev pub before_limit : List ℕ
before_limit = codes "max_segment_size = "

abbrev pub before_id : List ℕ
before_id = ended (codes "append_only = 0") ++ (ended (codes "storage_quota = 0") ++ (ended (codes "additional_free_space = 0") ++ codes "id = "))

-- the text has these lines
pub config_text-lines : (config : Config) → config_text config ≡ flat_map ended (head_lines config ++ key_lines (encode_of standard config.key))
unfolding config_text
config_text-lines config = refl
