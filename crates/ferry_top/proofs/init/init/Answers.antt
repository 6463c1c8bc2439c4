use Rattle.std.proofs.Common.{inr, ℕ, List, IfSome, subst, [], ◌≡◌}
use Rattle.ferry_disk.proofs.MomentLemmas.{between_map}
use Rattle.ferry_disk.specs.Moments.{Between}
use Rattle.ferry_top.proofs.init.init.Goals as goal
use Rattle.ferry_top.specs.Init.{MakesAndTells}
use Rattle.ferry_store.specs.Store.{RefusesInit}
use Rattle.ferry_write.specs.Script.{AllDone}

pub returns-in-Ok-clause-made : goal.returns-in-Ok-clause-made
returns-in-Ok-clause-made g c e =
    let made = c.in-Ok.ensures.made in
    let a = g.D.Shelf.told c.args.target.now in
    let b = g.D.Shelf.told c.make.new.target in
    let secret = c.args.secret.now in (
      made.0,
      made.1.0,
      subst (λ (time : List ℕ). Between a b (λ h g. h.acts ≡ [] → MakesAndTells secret c.args.iterations time made.0 h g)) c.time_of-time.ensures
          (between_map a b (λ h g. AllDone h g × (h.acts ≡ [] → MakesAndTells secret c.args.iterations c.time_of-time.result.now made.0 h g))
          (λ h g. h.acts ≡ [] → MakesAndTells secret c.args.iterations c.time_of-time.result.now made.0 h g) (λ h g x. x.1) made.1.1.end),
    )

pub returns-clause-refused : goal.returns-clause-refused
returns-clause-refused g c = inr (record {
  fault = c.in-Err.refusal;
  status_is = c.of_store.ensures;
  refuses = subst (λ (time : List ℕ). IfSome (g.D.Shelf.told c.args.target.now)
      (λ t. RefusesInit c.args.secret.now time t.history c.in-Err.refusal)) c.time_of-time.ensures
      c.in-Err.ensures.refused;
})
