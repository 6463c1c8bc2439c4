use Rattle.std.proofs.Common.{◌≡◌, ◌++◌, [], ◌∷◌, List, ℕ, Ok, refl, ap, sym, ◌∙◌}
use Rattle.std.specs.List.{flat_map}
use Rattle.hex.specs.Hex.{encode_lower}
use Rattle.base64.specs.Engines.{standard}
use Rattle.base64.specs.GeneralPurpose.{decode_of, encode_of}
use Rattle.ferry_config.specs.Text.{ended, wrapped_lines}
use Rattle.ferry_keyfile.proofs.TextLemmas.{key_file_text-lines, length-encode_of, read_again}
use Rattle.ferry_keyfile.specs.KeyFile.{key_file_of, mark}
use Rattle.ferry_keyfile.specs.Text.{key_file_text}
use Rattle.ferry_keyfile.proofs.printing.print_key_file.Goals as goal

pub append_wrapped-requires : goal.append_wrapped-requires
append_wrapped-requires c =
    let key : c.as_bytes-2.result.now ≡ encode_of standard c.args.file.now.key =
    c.as_bytes-2.ensures.value ∙ c.in_ok-key.ensures.text ∙ ap (encode_of standard) c.as_slice.ensures in
    rw key (length-encode_of c.args.file.now.key c.requires)

pub returns : goal.returns
returns c =
    let file = c.args.file.now in
    let id : c.as_bytes.result.now ≡ encode_lower file.id = c.as_bytes.ensures.value ∙ c.in_ok-id.ensures.text in
    let key : c.as_bytes-2.result.now ≡ encode_of standard file.key =
    c.as_bytes-2.ensures.value ∙ c.in_ok-key.ensures.text ∙ ap (encode_of standard) c.as_slice.ensures in
    let marked : c.extend_from_slice.new.self.items ≡ mark ++ encode_lower file.id =
    c.in_ok-extend_from_slice.ensures.items ∙ ap (λ front. front ++ c.as_bytes.result.now) c.in_ok-text.ensures.items ∙ ap (λ digits. mark ++ digits) id in
    let line : c.push.new.self.items ≡ (mark ++ encode_lower file.id) ++ 10 ∷ [] =
    c.in_ok-push.ensures.items ∙ ap (λ (front : List ℕ). front ++ 10 ∷ []) marked in
    let whole : c.append_wrapped.new.text.items
    ≡ ((mark ++ encode_lower file.id) ++ 10 ∷ []) ++ flat_map ended (wrapped_lines [] [] (encode_of standard file.key)) =
    c.in_ok-append_wrapped.ensures.lines
    ∙ ap (λ (front : List ℕ). front ++ flat_map ended (wrapped_lines [] [] c.as_bytes-2.result.now)) line
    ∙ ap (λ text. ((mark ++ encode_lower file.id) ++ 10 ∷ []) ++ flat_map ended (wrapped_lines [] [] text)) key in
    let text : c.append_wrapped.new.text.items ≡ key_file_text file = whole ∙ sym (key_file_text-lines file) in
    let decoded : decode_of standard (encode_of standard file.key) ≡ Ok file.key =
    ap (decode_of standard) (sym (c.in_ok-key.ensures.text ∙ ap (encode_of standard) c.as_slice.ensures))
    ∙ c.in_ok-key.ensures.round_trip refl ∙ ap Ok c.as_slice.ensures in
    record {
      text = text;
      read_again = ap key_file_of text ∙ read_again file c.requires c.in_ok-id.ensures.read_again decoded;
    }
