use Rattle.std.proofs.Common.{◌≡◌, ◌++◌, List, ℕ, Ok, refl, ap, sym, ◌∙◌}
use Rattle.std.specs.List.{flat_map}
use Rattle.base64.specs.Engines.{standard}
use Rattle.base64.specs.GeneralPurpose.{decode_of, encode_of}
use Rattle.ferry_config.proofs.RoundTripLemmas.{IsPrintable, config_of-config_text}
use Rattle.ferry_config.proofs.TextLemmas.{config_text-lines, flat_map-append}
use Rattle.ferry_config.specs.Config.{config_of}
use Rattle.ferry_config.specs.Text.{config_text, ended, head_lines, key_lines}
use Rattle.ferry_config.proofs.printing.print_config.Goals as goal

pub returns : goal.returns
returns c =
    let config = c.args.config.now in
    let key : c.as_bytes-2.result.now ≡ encode_of standard config.key =
    c.as_bytes-2.ensures.value ∙ c.in_ok-key.ensures.text ∙ ap (encode_of standard) c.as_slice.ensures in
    let head : c.append_head.new.text.items ≡ flat_map ended (head_lines config) =
    c.in_ok-append_head.ensures.ok ∙ ap (λ front. front ++ flat_map ended (head_lines config)) c.new-text.ensures.items in
    let whole : c.append_key.new.text.items ≡ flat_map ended (head_lines config ++ key_lines (encode_of standard config.key)) =
    c.in_ok-append_key.ensures.ok
    ∙ ap (λ (front : List ℕ). front ++ flat_map ended (key_lines c.as_bytes-2.result.now)) head
    ∙ ap (λ text. flat_map ended (head_lines config) ++ flat_map ended (key_lines text)) key
    ∙ sym (flat_map-append (head_lines config) (key_lines (encode_of standard config.key))) in
    let text : c.append_key.new.text.items ≡ config_text config = whole ∙ sym (config_text-lines config) in
    let decoded : decode_of standard (encode_of standard config.key) ≡ Ok config.key =
    ap (decode_of standard) (sym (c.in_ok-key.ensures.text ∙ ap (encode_of standard) c.as_slice.ensures))
    ∙ c.in_ok-key.ensures.round_trip refl ∙ ap Ok c.as_slice.ensures in
    let printable : IsPrintable config = record {
      dir_least = c.requires.per_dir.0;
      dir_most = c.requires.per_dir.1;
      limit_least = c.requires.limit.0;
      limit_most = c.requires.limit.1;
      id = c.in_ok-id.ensures.read_again;
    } in
    record {
      text = text;
      read_again = ap config_of text ∙ config_of-config_text config printable decoded;
    }
