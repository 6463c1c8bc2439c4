use Rattle.std.proofs.Common.{◌+◌, refl, ◌∙◌, ap, arith}
use Rattle.ferry_disk.specs.Act.{ReplaceBy}
use Rattle.ferry_disk.specs.declared.name.Name.TheVariants.{Nonce}
use Rattle.ferry_nonce.specs.Counter.{reservation}
use Rattle.ferry_nonce.specs.Text.{number_text}
use Rattle.ferry_nonce.proofs.MomentLemmas.{same_told, replace_told, reserved_told, stays_settled}
use Rattle.ferry_nonce.proofs.counter.Counter.reserve.Goals as goal
use Rattle.ferry_stops.proofs.TellLemmas.{told_act, told_none}

pub returns-in_default-clause-moments : goal.returns-in_default-clause-moments
returns-in_default-clause-moments g c =
    same_told c.args.self.now.free (g.D.Shelf.told c.args.depot.now) (g.D.Shelf.told c.args.depot.now) c.requires.settled refl

pub returns-in-Ok-clause-fits : goal.returns-in-Ok-clause-fits
returns-in-Ok-clause-fits g c =
    reserved_told (c.args.behind + reservation) c.spell_number.result (g.D.Shelf.told c.args.depot.now) (g.D.Shelf.told c.replace.new.self)
    (c.spell_number.ensures.text ∙ ap number_text c.in-Some.ensures.1) c.in-Some.ensures.0 c.in-Ok.ensures.act

pub returns-in-Ok-clause-moments : goal.returns-in-Ok-clause-moments
returns-in-Ok-clause-moments g c =
    replace_told c.args.self.now.free (c.args.behind + reservation) c.spell_number.result (g.D.Shelf.told c.args.depot.now)
    (g.D.Shelf.told c.replace.new.self) c.replace.result (c.spell_number.ensures.text ∙ ap number_text c.in-Some.ensures.1) c.in-Some.ensures.0
    (omega (arith, c.requires.above)) c.requires.settled c.replace.ensures.act

pub returns-in-Err-clause-moments : goal.returns-in-Err-clause-moments
returns-in-Err-clause-moments g c =
    replace_told c.args.self.now.free (c.args.behind + reservation) c.spell_number.result (g.D.Shelf.told c.args.depot.now)
    (g.D.Shelf.told c.replace.new.self) c.replace.result (c.spell_number.ensures.text ∙ ap number_text c.in-Some.ensures.1) c.in-Some.ensures.0
    (omega (arith, c.requires.above)) c.requires.settled c.replace.ensures.act

pub returns-in-Ok-clause-stays_settled : goal.returns-in-Ok-clause-stays_settled
returns-in-Ok-clause-stays_settled g c =
    stays_settled (ReplaceBy Nonce c.spell_number.result) (g.D.Shelf.told c.args.depot.now) (g.D.Shelf.told c.replace.new.self) c.replace.result
    c.requires.settled c.replace.ensures.act

pub returns-in-Err-clause-stays_settled : goal.returns-in-Err-clause-stays_settled
returns-in-Err-clause-stays_settled g c =
    stays_settled (ReplaceBy Nonce c.spell_number.result) (g.D.Shelf.told c.args.depot.now) (g.D.Shelf.told c.replace.new.self) c.replace.result
    c.requires.settled c.replace.ensures.act

pub returns-in_default-clause-untold : goal.returns-in_default-clause-untold
returns-in_default-clause-untold g c = told_none (g.D.Shelf.told c.args.depot.now)

pub returns-in-Ok-clause-untold : goal.returns-in-Ok-clause-untold
returns-in-Ok-clause-untold g c =
    told_act (ReplaceBy Nonce c.spell_number.result) (g.D.Shelf.told c.args.depot.now) (g.D.Shelf.told c.replace.new.self) c.replace.result tt
    c.replace.ensures.act

pub returns-in-Err-clause-untold : goal.returns-in-Err-clause-untold
returns-in-Err-clause-untold g c =
    told_act (ReplaceBy Nonce c.spell_number.result) (g.D.Shelf.told c.args.depot.now) (g.D.Shelf.told c.replace.new.self) c.replace.result tt
    c.replace.ensures.act
