use Rattle.std.proofs.Common.{sym, subst}
use Rattle.ferry_keyblob.specs.Opening.{key_view}
use Rattle.ferry_keyblob.specs.Sealing.{IsSealable}
use Rattle.ferry_store.proofs.KeyLemmas.{sealable, text_there_in}
use Rattle.ferry_store.proofs.key.new_text.Goals as goal

pub seal_key-requires-clause-key : goal.seal_key-requires-clause-key
seal_key-requires-clause-key c =
    subst IsSealable (sym c.in_ok-key.ensures.key) (sealable c.args.new.now c.requires.drawn.0 c.requires.drawn.1)

pub returns-clause-there : goal.returns-clause-there
returns-clause-there c = text_there_in c.seal_key.result (key_view c.in_ok-key.key) c.args.passphrase.now c.args.new.now.salt c.args.iterations
    c.seal_key.ensures.text
