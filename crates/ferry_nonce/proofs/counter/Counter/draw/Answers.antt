use Rattle.std.proofs.Common.{◌+◌, refl, ap, arith}
use Rattle.ferry_nonce.specs.Counter.{reservation}
use Rattle.ferry_nonce.specs.declared.counter.Counter.{Counter}
use Rattle.ferry_nonce.proofs.MomentLemmas.{same_told, fits_more, fits_same}
use Rattle.ferry_nonce.proofs.counter.Counter.draw.Goals as goal
use Rattle.ferry_stops.proofs.TellLemmas.{told_none}

pub returns-in_default-clause-moments : goal.returns-in_default-clause-moments
returns-in_default-clause-moments g c =
    same_told c.args.self.now.free (g.D.Shelf.told c.args.depot.now) (g.D.Shelf.told c.args.depot.now) c.requires.settled refl

pub returns-then-behind-reserved-clause-fits : goal.returns-then-behind-reserved-clause-fits
returns-then-behind-reserved-clause-fits g c =
    fits_same c.args.self.now c.in-Some.behind (g.D.Shelf.told c.args.depot.now) c.if-behind-reserved.true

pub returns-then-behind-reserved-clause-moments : goal.returns-then-behind-reserved-clause-moments
returns-then-behind-reserved-clause-moments g c =
    same_told c.args.self.now.free (g.D.Shelf.told c.args.depot.now) (g.D.Shelf.told c.args.depot.now) c.requires.settled refl

pub returns-clause-fits : goal.returns-clause-fits
returns-clause-fits g c =
    fits_more c.args.self.now c.in-Some.behind c.reserve.new.self.reserved (c.in-Some.behind + reservation) c.reserve.new.self.spent
    (g.D.Shelf.told c.args.depot.now) (g.D.Shelf.told c.reserve.new.depot) (ap (λ (s : Counter). s.reserved) c.in_ok-reserve.ensures.reserved)
    (omega arith) c.in_ok-reserve.ensures.fits

pub returns-in_default-clause-untold : goal.returns-in_default-clause-untold
returns-in_default-clause-untold g c = told_none (g.D.Shelf.told c.args.depot.now)

pub returns-then-behind-reserved-clause-untold : goal.returns-then-behind-reserved-clause-untold
returns-then-behind-reserved-clause-untold g c = told_none (g.D.Shelf.told c.args.depot.now)
