use Rattle.ferry_fields.proofs.MapLemmas.{map_of-spelled, spelled-map_of}
use Rattle.ferry_msgpack.specs.Tree.{table}
use Rattle.ferry_keyblob.proofs.LawLemmas.{wrong_passphrase, passphrase_wrong, no_passphrase, no_memory}
use Rattle.ferry_keyblob.specs.declared.fault.KeyFault.TheVariants.{Pack, Field, Algorithm, Iterations}
use Rattle.std.proofs.Common.{Ok, Err}
use Rattle.ferry_keyblob.proofs.MeaningLemmas.{envelope_says, says_envelope, key_says, says_key, says_no_map}
use Rattle.ferry_keyblob.proofs.MeaningLemmas.{says_no_field, says_other_algorithm, says_other_iterations}
use Rattle.ferry_keyblob.proofs.laws.key_laws.Goals as goal

pub returns-clause-map : goal.returns-clause-map
returns-clause-map c bytes pairs = (spelled-map_of bytes pairs, map_of-spelled bytes (table pairs))

pub returns-clause-passphrase : goal.returns-clause-passphrase
returns-clause-passphrase c passphrase blob = (passphrase_wrong passphrase blob, λ h. wrong_passphrase passphrase blob h.0 h.1 h.2)

pub returns-clause-envelope : goal.returns-clause-envelope
returns-clause-envelope c blob = no_passphrase blob

pub returns-clause-memory : goal.returns-clause-memory
returns-clause-memory c passphrase blob = no_memory passphrase blob

pub returns-clause-key : goal.returns-clause-key
returns-clause-key c passphrase blob key = (key_says passphrase blob (Ok key), says_key passphrase blob key)

pub returns-clause-opens : goal.returns-clause-opens
returns-clause-opens c blob envelope = (envelope_says blob envelope, says_envelope blob envelope)

pub returns-clause-pack : goal.returns-clause-pack
returns-clause-pack c passphrase blob = (key_says passphrase blob (Err Pack), says_no_map passphrase blob)

pub returns-clause-field : goal.returns-clause-field
returns-clause-field c passphrase blob = (key_says passphrase blob (Err Field), says_no_field passphrase blob)

pub returns-clause-algorithm : goal.returns-clause-algorithm
returns-clause-algorithm c passphrase blob = (key_says passphrase blob (Err Algorithm), says_other_algorithm passphrase blob)

pub returns-clause-iterations : goal.returns-clause-iterations
returns-clause-iterations c passphrase blob = (key_says passphrase blob (Err Iterations), says_other_iterations passphrase blob)
