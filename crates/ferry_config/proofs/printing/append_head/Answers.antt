use Rattle.std.proofs.Common.{◌≡◌, ◌++◌, List, ℕ, ap, ◌∙◌}
use Rattle.std.specs.Fmt.{decimal}
use Rattle.hex.specs.Hex.{encode_lower}
use Rattle.ferry_config.specs.Text.{ended}
use Rattle.ferry_config.proofs.TextLemmas.{before_id, before_limit, before_per_dir, three_lines}
use Rattle.ferry_config.proofs.printing.append_head.Goals as goal

pub returns : goal.returns
returns c =
    let text = c.args.text.now.items in
    let per_dir : c.as_bytes.result.now ≡ decimal c.args.config.now.per_dir = c.as_bytes.ensures.value ∙ c.in_ok-per_dir.ensures.ok in
    let limit : c.as_bytes-2.result.now ≡ decimal c.args.config.now.limit = c.as_bytes-2.ensures.value ∙ c.in_ok-limit.ensures.ok in
    let first : c.append_line.new.text.items ≡ text ++ ended (before_per_dir ++ decimal c.args.config.now.per_dir) =
    c.in_ok-append_line.ensures.ok ∙ ap (λ n. text ++ ended (before_per_dir ++ n)) per_dir in
    let second : c.append_line-2.new.text.items ≡ c.append_line.new.text.items ++ ended (before_limit ++ decimal c.args.config.now.limit) =
    c.in_ok-append_line-2.ensures.ok ∙ ap (λ n. c.append_line.new.text.items ++ ended (before_limit ++ n)) limit in
    let third : c.append_line-3.new.text.items ≡ c.append_line-2.new.text.items ++ ended (before_id ++ encode_lower c.args.config.now.id) =
    c.in_ok-append_line-3.ensures.ok ∙ ap (λ n. c.append_line-2.new.text.items ++ ended (before_id ++ n)) c.requires in
    record {
      ok = third
          ∙ ap (λ (front : List ℕ). front ++ ended (before_id ++ encode_lower c.args.config.now.id)) (second
          ∙ ap (λ (front : List ℕ). front ++ ended (before_limit ++ decimal c.args.config.now.limit)) first)
          ∙ three_lines text before_per_dir (decimal c.args.config.now.per_dir) before_limit (decimal c.args.config.now.limit) before_id
          (encode_lower c.args.config.now.id);
    }
