use Rattle.std.proofs.Common.{sym, ◌∙◌, ap, is_some}
use Rattle.std.specs.FinMap.{get}
use Rattle.ferry_log.specs.State.{LogState}
use Rattle.ferry_log.proofs.LeastLemmas.{get-entries_of}
use Rattle.ferry_log.proofs.log.Log.has_learnt.Goals as goal

pub returns : goal.returns
returns c =
    let key = c.args.key.now in
    c.is_some.ensures
    ∙ (ap is_some (c.place_at.ensures ∙ sym (get-entries_of c.self.inside.learnt.entries key))
    ∙ ap (λ (s : LogState). is_some (get s.learnt key)) c.self.view_is)
