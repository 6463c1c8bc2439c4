use Rattle.std.proofs.Common.{◌≡◌, ℕ, List, Option, sym, ◌∙◌, ap, subst}
use Rattle.std.specs.BTreeMap.{get}
use Rattle.std.specs.Option.{option_copied}
use Rattle.ferry_log.specs.Live.{key_cmp}
use Rattle.ferry_log.specs.State.{LogState, IsLeastWhere, place_in, first_place}
use Rattle.ferry_log.specs.declared.place.Place.{Place}
use Rattle.ferry_log.proofs.LeastLemmas.{either, least_of_two, least_same, get-entries_of}
use Rattle.ferry_log.proofs.log.Log.next_key.Goals as goal

pub returns : goal.returns
returns c =
    let inside = c.self.inside in
    let f : List ℕ → Option Place = get key_cmp inside.learnt in
    let g : List ℕ → Option Place = get key_cmp inside.opened in
    let after = option_copied c.args.after in
    let state = c.args.self.now in
    let two = least_of_two f g after c.least_in-learnt.result c.least_in-opened.result c.least_in-learnt.ensures c.least_in-opened.ensures in
    let same : (key : List ℕ) → either f g after key ≡ place_in state key =
    λ key. ap (λ p. first_place p (g key)) (sym (get-entries_of inside.learnt.entries key))
    ∙ (ap (first_place _) (sym (get-entries_of inside.opened.entries key)) ∙ ap (λ (s : LogState). place_in s key) c.self.view_is) in
    least_same (either f g after) (place_in state) after c.lesser.result same (subst (IsLeastWhere (either f g after) after) (sym c.lesser.ensures) two)
