use Rattle.std.proofs.Common.{◌≡◌, ℕ, List, false, is_gt}
use Rattle.ferry_log.specs.Live.{key_cmp}
use Rattle.ferry_log.specs.declared.place.Place.{Place}
use Rattle.ferry_log.proofs.LeastLemmas.{first_of, not_less}
use Rattle.ferry_log.proofs.least.least_above.Goals as goal

pub returns-in-Some : goal.returns-in-Some
returns-in-Some c =
    let range = c.range.ensures.in_range tt in
    let pair : List ℕ × Place = (c.in-Some.pair.0.now, c.in-Some.pair.1.now) in
    let steps = c.in-Some.ensures.steps in
    let there = first_of c.range.result c.next-above.new.self pair _ steps range.1 in (
      there.1,
      there.0.0,
      λ key some above less. not_less pair.0 key
          (first_of c.range.result c.next-above.new.self pair (λ e. is_gt (key_cmp e.0 key) ≡ false) steps (range.2 key (above, tt) some)) less,
    )
