-- The secret opens the key of a new repository.
use Rattle.std.proofs.Common.{◌≡◌, ◌≢◌, ℕ, ◌==◌, if◌then◌else◌, arith, Bool, true, false, List, [], ◌∷◌, length, Result, Ok, Err}
use Rattle.std.proofs.Common.{refl, ◌∙◌, ap}
use Rattle.std.proofs.lemmas.Slice.Eq.{bytes_eq-Decides}
use Rattle.std.specs.Str.{bytes_eq}
use Rattle.ferry_blob.specs.declared.mode.Mode.{Mode}
use Rattle.ferry_blob.specs.declared.mode.Mode.TheVariants.{Repokey, Keyfile}
use Rattle.ferry_config.specs.declared.config.Config.{Config}
use Rattle.ferry_keyblob.specs.Opening.{Opened, key_of}
use Rattle.ferry_keyblob.specs.declared.fault.KeyFault.{KeyFault}
use Rattle.ferry_keyfile.specs.KeyFile.{key_file_of}
use Rattle.ferry_keyfile.specs.declared.file.KeyFile.{KeyFile}
use Rattle.ferry_repo.specs.Opening.{key_text, mode_of, opened_by, opened_key, opened_text, opened_where, text_by, text_in, text_of}
use Rattle.ferry_keyblob.specs.declared.envelope.Envelope.{Envelope}
use Rattle.ferry_repo.specs.declared.fault.RepoFault.TheVariants as Repos
use Rattle.ferry_repo.specs.declared.secret.Secret.{Secret}
use Rattle.ferry_store.proofs.KeyLemmas.{envelope_there}
use Rattle.ferry_store.specs.Key.{BasisOpens, new_config, new_key}
use Rattle.ferry_store.specs.declared.key.NewBytes.{NewBytes}

-- a key text that opens says its iterations
text_opens : (passphrase text : List ℕ) (key : Opened) → key_of passphrase text ≡ Ok key
    → (n : ℕ) × (opened_text passphrase text ≡ Ok (record { iterations = n; key = key }))
unfolding opened_text
text_opens passphrase text key opens =
    let there = envelope_there passphrase text key opens in (
      there.0.iterations,
      ap (λ (e : Result Envelope KeyFault). opened_by e (key_of passphrase text)) there.1
          ∙ ap (opened_by (Ok there.0)) opens,
    )

-- of a list that isn't empty
not_empty : (text : List ℕ) → text ≢ [] → (length text == 0) ≡ false
not_empty [] there = absurd (there refl)
not_empty (byte ∷ text) there = grind (arith)

mode_by : (config : Config) (b : Bool) → (length config.key == 0) ≡ b → mode_of config ≡ (if b then Keyfile else Repokey)
mode_by config b e = ap (λ (x : Bool). if x then Keyfile else Repokey) e

own_text : (config : Config) (secret : Secret) → (length config.key == 0) ≡ false → key_text config secret ≡ Ok config.key
unfolding key_text
own_text config secret e = ap (λ (m : Mode). text_by m config secret) (mode_by config false e)

own_key : (config : Config) (secret : Secret) (text : List ℕ) → key_text config secret ≡ Ok text → opened_key config secret ≡ opened_text secret.passphrase text
unfolding opened_key
own_key config secret text e = ap (opened_where secret.passphrase) e

pub new_opens : (secret : Secret) (new : NewBytes) (iterations : ℕ) (text : List ℕ) → text ≢ [] → key_of secret.passphrase text ≡ Ok (new_key new)
    → BasisOpens secret (record { config = new_config new.id text; keys = (new_key new).keys })
new_opens secret new iterations text there opens =
    let config = new_config new.id text in
    let read = text_opens secret.passphrase text (new_key new) opens in
    record {
      iterations = read.0;
      key = new_key new;
      key_opens = own_key config secret text (own_text config secret (not_empty text there)) ∙ read.1;
      keys_are = refl;
    }

file_text : (id bytes : List ℕ) (file : KeyFile) → (length bytes == 0) ≡ false → key_file_of bytes ≡ Ok file → file.id ≡ id → text_in id bytes ≡ Ok file.key
unfolding text_in
file_text id bytes file there reads same =
    let own : bytes_eq file.id id ≡ true = (bytes_eq-Decides file.id id).1 same in
    ap (λ (b : Bool). if b then Err Repos.NoKey else text_of id (key_file_of bytes)) there
    ∙ (ap (text_of id) reads ∙ ap (λ (b : Bool). if b then Ok file.key else Err (Repos.Other file.id id)) own)

given_text : (config : Config) (secret : Secret) (text : List ℕ) → config.key ≡ [] → text_in config.id secret.key_file ≡ Ok text
    → key_text config secret ≡ Ok text
unfolding key_text
given_text config secret text none is =
    ap (λ (m : Mode). text_by m config secret) (mode_by config true (ap (λ (k : List ℕ). length k == 0) none)) ∙ is

pub given_opens : (secret : Secret) (file : KeyFile) (key : Opened) (none : List ℕ) → none ≡ [] → (length secret.key_file == 0) ≡ false
    → key_file_of secret.key_file ≡ Ok file → key_of secret.passphrase file.key ≡ Ok key
    → BasisOpens secret (record { config = new_config file.id none; keys = key.keys })
given_opens secret file key none empty there reads opens =
    let config = new_config file.id none in
    let read = text_opens secret.passphrase file.key key opens in
    record {
      iterations = read.0;
      key = key;
      key_opens = own_key config secret file.key (given_text config secret file.key empty (file_text file.id secret.key_file file there reads refl)) ∙ read.1;
      keys_are = refl;
    }
