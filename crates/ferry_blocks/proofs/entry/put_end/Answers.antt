use Rattle.std.proofs.Common.{◌≡◌, ◌+◌, ◌-◌, ◌/◌, ◌∙◌, ap, take, drop, arith}
use Rattle.std.specs.Int.{w64, from_be_bytes}
use Rattle.ferry_blocks.proofs.EntryLemmas.{put_counted}
use Rattle.ferry_blocks.proofs.entry.put_end.Goals as goal

pub returns : goal.returns
returns c bytes own is =
    let count = (c.args.size - 82 + 15) / 16 in
    let nonce : c.from.result + count ≡ from_be_bytes w64 (take 8 (drop 74 c.args.front.now)) + count =
    ap (λ n. n + count) (c.from.ensures ∙ c.nonce_of.ensures) in
    put_counted c.args.front.now bytes c.args.size own is (c.from.result + count) c.if-front-ne-PUT.false (omega arith) (omega arith)
    (c.is_counter_type.ensures.0 c.if-not-is_counter_type.false) nonce
