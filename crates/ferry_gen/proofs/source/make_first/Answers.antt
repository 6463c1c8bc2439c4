use Rattle.std.proofs.Common.{refl}
use Rattle.ferry_gen.proofs.MadeFilesLemmas.{first_fits, first_has, told_first}
use Rattle.ferry_gen.proofs.source.make_first.Goals as goal

pub returns-clause-made : goal.returns-clause-made
returns-clause-made g c =
    first_has c.in_ok-secret.secret c.in_ok-store.store _ c.in_ok-store.ensures.made.0 (g.D.Shelf.told c.args.depot.now) (g.D.Shelf.told c.init.new.depot)
    c.in_ok-secret.ensures.secret refl c.requires.empty c.in_ok-store.ensures.did.end c.in_ok-store.ensures.made.1.1 c.in_ok-store.ensures.opened
    c.in_ok-store.ensures.accepted c.in_ok-store.ensures.fresh.1

pub returns-clause-fits : goal.returns-clause-fits
returns-clause-fits g c =
    first_fits c.in_ok-secret.secret c.in_ok-store.store _ c.in_ok-store.ensures.made.0 (g.D.Shelf.told c.args.depot.now) (g.D.Shelf.told c.init.new.depot)
    c.in_ok-secret.ensures.secret refl c.requires.empty c.in_ok-store.ensures.did.end c.in_ok-store.ensures.made.1.1 c.in_ok-store.ensures.opened
    c.in_ok-store.ensures.accepted c.in_ok-store.ensures.fresh.1

pub returns-clause-told : goal.returns-clause-told
returns-clause-told g c =
    told_first _ (g.D.Shelf.told c.args.depot.now) (g.D.Shelf.told c.init.new.depot) c.requires.empty c.in_ok-store.ensures.did.end
