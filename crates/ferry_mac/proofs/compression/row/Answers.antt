use Rattle.ferry_mac.proofs.compression.row.Goals as goal

pub returns-clause-length : goal.returns-clause-length
returns-clause-length g c = c.fits-vector.0
