-- A printed key file is read as itself.
use Rattle.std.proofs.Common.{◌≡◌, ◌≢◌, ℕ, zero, suc, ◌+◌, ◌-◌, ◌*◌, ◌/◌, ◌<◌, ◌==◌, ◌&&◌, Bool, true}
use Rattle.std.proofs.Common.{false, not, List, [], ◌∷◌, ◌++◌, length, drop, map, filter, Ok}
use Rattle.std.proofs.Common.{refl, ap, sym, ◌∙◌, inl, arith, append_assoc, append-nil}
use Rattle.std.proofs.lemmas.List.Elements.{filter-append}
use Rattle.std.proofs.lemmas.List.Folds.{list_all-append}
use Rattle.std.specs.List.{concat, flat_map, list_all}
use Rattle.hex.specs.Hex.{decode_sized, encode_lower}
use Rattle.base64.specs.Engines.{standard}
use Rattle.base64.specs.GeneralPurpose.{decode_of, encode_of}
use Rattle.base64.specs.Rfc4648.{encode_symbols}
use Rattle.ferry_config.proofs.BoolLemmas.{and_left, and_right, not_true}
use Rattle.ferry_config.proofs.PrintedLemmas.{concat-pieces}
use Rattle.ferry_config.proofs.SolidLemmas.{is_solid, is_solid_text, solid-base64, solid-drop, solid-head, solid-tail, solid-take}
use Rattle.ferry_config.specs.Text.{ended, further_pieces, piece, wrapped_lines}
use Rattle.ferry_keyfile.proofs.KeyFileLemmas.{read_of}
use Rattle.ferry_keyfile.specs.KeyFile.{is_blank, key_file_of, mark, solid}
use Rattle.ferry_keyfile.specs.Text.{key_file_text}
use Rattle.ferry_keyfile.specs.declared.file.KeyFile.{KeyFile}

-- ---- a text without blanks

solid_byte : (byte : ℕ) → is_solid byte ≡ true → is_blank byte ≡ false
solid_byte byte solid =
    let tab = not_true _ (and_left (not (byte == 9)) _ solid) in
    let others = and_right (not (byte == 9)) _ solid in
    let feed = not_true _ (and_left (not (byte == 10)) _ others) in
    let last = and_right (not (byte == 10)) _ others in
    let return = not_true _ (and_left (not (byte == 13)) _ last) in
    let space = not_true _ (and_right (not (byte == 13)) _ last) in
    rw (space, tab, return, feed) refl

-- nothing is left out of it
solid_text : (text : List ℕ) → is_solid_text text ≡ true → filter (λ byte. not (is_blank byte)) text ≡ text
solid_text [] here = refl
solid_text (byte ∷ rest) here =
    rw (solid_byte byte (solid-head byte rest here)) (ap (λ others. byte ∷ others) (solid_text rest (solid-tail byte rest here)))

-- ---- lines of such texts

solid_lines : (lines : List (List ℕ)) → list_all is_solid_text lines ≡ true
    → filter (λ byte. not (is_blank byte)) (flat_map ended lines) ≡ concat lines
solid_lines [] here = refl
solid_lines (line ∷ rest) here =
    let keep : ℕ → Bool = λ byte. not (is_blank byte) in
    let first = and_left (is_solid_text line) _ here in
    let others = and_right (is_solid_text line) _ here in
    filter-append keep (ended line) (flat_map ended rest)
    ∙ ap (λ front. front ++ filter keep (flat_map ended rest)) (filter-append keep line (10 ∷ []) ∙ append-nil (filter keep line) ∙ solid_text line first)
    ∙ ap (λ behind. line ++ behind) (solid_lines rest others)

solid_pieces : (text : List ℕ) (n : ℕ) → is_solid_text text ≡ true → list_all is_solid_text (further_pieces text n) ≡ true
unfolding further_pieces
solid_pieces text zero here = refl
solid_pieces text (suc n) here =
    let next = solid-take 70 (drop (70 * suc n) text) (solid-drop (70 * suc n) text here) in
    rw (list_all-append is_solid_text (further_pieces text n) (piece text (suc n) ∷ []), solid_pieces text n here, next) refl

behind_nothing : (lines : List (List ℕ)) → map (λ line. [] ++ line) lines ≡ lines
behind_nothing [] = refl
behind_nothing (line ∷ rest) = ap (λ others. line ∷ others) (behind_nothing rest)

-- the text comes back from its lines
solid_wrapped : (text : List ℕ) → 0 < length text → is_solid_text text ≡ true → solid (flat_map ended (wrapped_lines [] [] text)) ≡ text
unfolding solid
solid_wrapped text some here =
    let pieces = further_pieces text ((length text - 1) / 70) in
    let each : list_all is_solid_text (piece text 0 ∷ pieces) ≡ true = rw (solid-take 70 text here, solid_pieces text ((length text - 1) / 70) here) refl in
    ap (λ further. filter (λ byte. not (is_blank byte)) (flat_map ended (piece text 0 ∷ further))) (behind_nothing pieces)
    ∙ solid_lines (piece text 0 ∷ pieces) each ∙ concat-pieces text some

-- ---- the file

pub length-encode_of : (bytes : List ℕ) → bytes ≢ [] → 0 < length (encode_of standard bytes)
unfolding encode_symbols
length-encode_of [] some = absurd (some refl)
length-encode_of (a ∷ []) some = omega arith
length-encode_of (a ∷ b ∷ []) some = omega arith
length-encode_of (a ∷ b ∷ c ∷ rest) some = omega arith

pub text_joined : (id key : List ℕ) → ((mark ++ id) ++ 10 ∷ []) ++ key ≡ mark ++ (id ++ ((10 ∷ []) ++ key))
text_joined id key = simp (append_assoc)

pub key_file_text-lines : (file : KeyFile)
    → key_file_text file ≡ ((mark ++ encode_lower file.id) ++ 10 ∷ []) ++ flat_map ended (wrapped_lines [] [] (encode_of standard file.key))
unfolding key_file_text
key_file_text-lines file = refl

pub read_again : (file : KeyFile) → file.key ≢ [] → decode_sized (encode_lower file.id) 32 ≡ Ok file.id
    → decode_of standard (encode_of standard file.key) ≡ Ok file.key → key_file_of (key_file_text file) ≡ Ok file
read_again file some id decoded =
    let text = encode_of standard file.key in
    let body = flat_map ended (wrapped_lines [] [] text) in
    read_of (key_file_text file) file record {
      body = body;
      parts = record {
        digits = encode_lower file.id;
        end = 10 ∷ [];
        parts = key_file_text-lines file ∙ text_joined (encode_lower file.id) body;
        says = id;
        ends = inl refl;
      };
      decodes = ap (decode_of standard) (solid_wrapped text (length-encode_of file.key some) (solid-base64 file.key)) ∙ decoded;
      some = some;
    }
