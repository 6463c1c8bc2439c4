use Rattle.std.proofs.Common.{sym, subst}
use Rattle.ferry_manifest.specs.Manifest.Writing.{IsPackable}
use Rattle.ferry_repo.proofs.OpeningLemmas.{no_packable}
use Rattle.ferry_repo.proofs.opening.root_or_none.Goals as goal

pub returns-then-is_of_manifest-clause-packable : goal.returns-then-is_of_manifest-clause-packable
returns-then-is_of_manifest-clause-packable g c = subst IsPackable (sym c.no_manifest.ensures.manifest) no_packable
