use Rattle.std.proofs.Common.{List, ℕ, ◌++◌, option_map, sym, ◌∙◌, ap}
use Rattle.std.proofs.lemmas.Result.{IfOk-weaker}
use Rattle.ferry_refs.proofs.renewing.tagged_text.Goals as goal

pub returns-clause-renewal : goal.returns-clause-renewal
returns-clause-renewal g c =
    IfOk-weaker c.salted_text.result _ _
    (λ text made. (
      made.0,
      c.in_ok-fill.ensures.drawn
          ∙ ap (λ (s : List ℕ). option_map (λ (bytes : List ℕ). bytes ++ s) (g.E.Entropy.drawn c.args.entropy.now)) (sym made.1),
    ))
    c.salted_text.ensures.renewal
