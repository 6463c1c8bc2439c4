use Rattle.std.proofs.Common.{rules, ◌≡◌, ◌≢◌, [], Ok}
use Rattle.ferry_keyblob.specs.Opening.{key_of}
use Rattle.ferry_store.proofs.BasisLemmas.{new_opens}
use Rattle.ferry_store.proofs.key.new_basis.Goals as goal
use Rattle.ferry_store.specs.Key.{new_key}

pub returns-clause-opens : goal.returns-clause-opens
returns-clause-opens g c =
    let there : c.new.result ≢ [] = search rules in
    let opens : key_of c.args.secret.now.passphrase c.new.result ≡ Ok (new_key c.in_ok-new.new) = search rules in
    new_opens c.args.secret.now c.in_ok-new.new c.args.iterations c.new.result there opens
