use Rattle.ferry_stops.proofs.BlobLemmas.{begin_traced, image_blob, stop_blob}
use Rattle.ferry_stops.proofs.laws.blob_laws.Goals as goal

pub returns-clause-begin : goal.returns-clause-begin
returns-clause-begin c = begin_traced

pub returns-clause-image : goal.returns-clause-image
returns-clause-image c = image_blob

pub returns-clause-stop : goal.returns-clause-stop
returns-clause-stop c = stop_blob
