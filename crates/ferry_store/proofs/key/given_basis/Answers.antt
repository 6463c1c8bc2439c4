use Rattle.std.proofs.Common.{rules, ◌≡◌, ◌==◌, false, length, [], Ok, refl}
use Rattle.ferry_keyblob.specs.Opening.{key_of, key_view}
use Rattle.ferry_keyfile.specs.KeyFile.{key_file_of}
use Rattle.ferry_store.proofs.BasisLemmas.{given_opens}
use Rattle.ferry_store.proofs.key.given_basis.Goals as goal

pub returns-clause-given : goal.returns-clause-given
returns-clause-given c =
    let there : (length c.args.secret.now.key_file == 0) ≡ false = search rules in
    let reads : key_file_of c.args.secret.now.key_file ≡ Ok c.in_ok-file.file = search rules in
    record {
      there = there;
      file = c.in_ok-file.file;
      reads = reads;
      key = key_view c.in_ok-key.key;
      opens = search rules;
      config_is = search rules;
      keys_are = refl;
    }

pub returns-clause-opens : goal.returns-clause-opens
returns-clause-opens c =
    let there : (length c.args.secret.now.key_file == 0) ≡ false = search rules in
    let reads : key_file_of c.args.secret.now.key_file ≡ Ok c.in_ok-file.file = search rules in
    let opens : key_of c.args.secret.now.passphrase c.in_ok-file.file.key ≡ Ok (key_view c.in_ok-key.key) = search rules in
    let empty : c.new-2.result ≡ [] = search rules in
    given_opens c.args.secret.now c.in_ok-file.file (key_view c.in_ok-key.key) c.new-2.result empty there reads opens
