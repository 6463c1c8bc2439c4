use Rattle.ferry_gen.proofs.MadeFilesLemmas.{plain_made, source_made}
use Rattle.ferry_gen.proofs.source.make.Goals as goal

pub returns-clause-made : goal.returns-clause-made
returns-clause-made g c =
    source_made c.make_archives.result c.args.count c.make_archives.new.store (g.D.Shelf.told c.make_archives.new.depot) c.requires.most
    c.make_archives.ensures.fits
    c.make_archives.ensures.settled c.make_archives.ensures.pending c.make_archives.ensures.made

pub returns-clause-plain : goal.returns-clause-plain
returns-clause-plain g c =
    plain_made c.make_archives.result c.args.count c.make_archives.new.store (g.D.Shelf.told c.make_archives.new.depot) c.requires.least c.requires.most
    c.make_archives.ensures.fits
    c.make_archives.ensures.settled c.make_archives.ensures.pending c.make_archives.ensures.made
