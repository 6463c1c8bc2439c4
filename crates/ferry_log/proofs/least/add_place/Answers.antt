use Rattle.ferry_log.proofs.LiveLemmas.{inserted_map}
use Rattle.ferry_log.proofs.least.add_place.Goals as goal

pub returns-clause-added : goal.returns-clause-added
returns-clause-added c =
    inserted_map c.args.places.now.entries c.insert.new.self.entries c.args.key.now c.args.place c.in_ok-insert.ensures.updates.0
