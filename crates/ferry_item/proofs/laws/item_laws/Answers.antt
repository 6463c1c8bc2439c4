use Rattle.ferry_item.proofs.FrontLemmas.{front_both, item_more, fault_more, front_kind}
use Rattle.ferry_item.proofs.StreamLemmas.{nothing_stands, some_reading, one_reading, any_cut, whole_stream, first_item, streams_joined}
use Rattle.ferry_item.proofs.laws.item_laws.Goals as goal

pub returns-clause-front : goal.returns-clause-front
returns-clause-front c = front_both

pub returns-clause-item : goal.returns-clause-item
returns-clause-item c = item_more

pub returns-clause-fault : goal.returns-clause-fault
returns-clause-fault c = fault_more

pub returns-clause-kinds : goal.returns-clause-kinds
returns-clause-kinds c = front_kind

pub returns-clause-nothing : goal.returns-clause-nothing
returns-clause-nothing c = nothing_stands

pub returns-clause-some : goal.returns-clause-some
returns-clause-some c = some_reading

pub returns-clause-one : goal.returns-clause-one
returns-clause-one c = one_reading

pub returns-clause-cut : goal.returns-clause-cut
returns-clause-cut c = any_cut

pub returns-clause-whole : goal.returns-clause-whole
returns-clause-whole c = whole_stream

pub returns-clause-first : goal.returns-clause-first
returns-clause-first c = first_item

pub returns-clause-joined : goal.returns-clause-joined
returns-clause-joined c = streams_joined
