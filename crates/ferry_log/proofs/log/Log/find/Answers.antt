use Rattle.std.proofs.Common.{sym, ◌∙◌, ap}
use Rattle.std.specs.BTreeMap.{get}
use Rattle.std.specs.FinMap.{from_entries}
use Rattle.std.specs.FinMap as map
use Rattle.ferry_log.specs.Live.{key_cmp}
use Rattle.ferry_log.specs.State.{LogState, place_in, first_place}
use Rattle.ferry_log.proofs.LeastLemmas.{get-entries_of}
use Rattle.ferry_log.proofs.log.Log.find.Goals as goal

pub returns-in-Some : goal.returns-in-Some
returns-in-Some c =
    let inside = c.self.inside in
    let key = c.args.key.now in
    ap (λ p. first_place p (get key_cmp inside.opened key)) (sym c.in-Some.is ∙ (c.place_at.ensures ∙ sym (get-entries_of inside.learnt.entries key)))
    ∙ (ap (first_place _) (sym (get-entries_of inside.opened.entries key)) ∙ ap (λ (s : LogState). place_in s key) c.self.view_is)

pub returns-in-None : goal.returns-in-None
returns-in-None c =
    let inside = c.self.inside in
    let key = c.args.key.now in
    c.place_at-in-None.ensures
    ∙ (sym (get-entries_of inside.opened.entries key)
    ∙ (ap (λ p. first_place p (map.get (from_entries {R = key_cmp} inside.opened.entries) key)) (sym c.in-None.is
    ∙ (c.place_at.ensures ∙ sym (get-entries_of inside.learnt.entries key)))
    ∙ ap (λ (s : LogState). place_in s key) c.self.view_is))
