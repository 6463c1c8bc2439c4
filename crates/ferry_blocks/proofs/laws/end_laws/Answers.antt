use Rattle.ferry_blocks.specs.Blocks.{IsCountedBlob}
use Rattle.ferry_blocks.proofs.PassLemmas.{end_least, end_one}
use Rattle.ferry_blocks.proofs.laws.end_laws.Goals as goal

pub returns-clause-one : goal.returns-clause-one
returns-clause-one c = λ files a b p q. end_one (IsCountedBlob files) a b p q

pub returns-clause-least : goal.returns-clause-least
returns-clause-least c = λ files end value is below. end_least (IsCountedBlob files) end value is below
