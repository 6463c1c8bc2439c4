use Rattle.ferry_blob.proofs.LawLemmas.{block_of_sealed, block_outputs, counted, first_block, no_blocks}
use Rattle.ferry_blob.proofs.laws.block_laws.Goals as goal

pub returns-clause-first : goal.returns-clause-first
returns-clause-first c = first_block

pub returns-clause-stream : goal.returns-clause-stream
returns-clause-stream c = block_outputs

pub returns-clause-none : goal.returns-clause-none
returns-clause-none c = no_blocks

pub returns-clause-count : goal.returns-clause-count
returns-clause-count c = counted

pub returns-clause-sealed : goal.returns-clause-sealed
returns-clause-sealed c = block_of_sealed
