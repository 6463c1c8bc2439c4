-- What the command that makes a key writes.
use Rattle.std.specs.Prelude.{◌≡◌, ℕ, List, ◌++◌, Option, option_map}
use Rattle.ferry_repo.specs.declared.secret.Secret.{Secret}
use Rattle.ferry_store.specs.Key.{IsNewKeyFile}
use Rattle.ferry_status.specs.Devices.{Devices, Written}
use Rattle.ferry_status.specs.declared.status.Status.{Status}
use Rattle.ferry_status.specs.declared.status.Status.TheVariants.{EntropyDevice}
use Rattle.ferry_status.specs.Output.{PrintsText}

-- The text is that of a key file, made of the bytes that the source of random bytes has handed out meanwhile.
pub record IsDrawnKey (passphrase : List ℕ) (iterations : ℕ) (before after : Option (List ℕ)) (text : List ℕ) : Type 0 where
  pub bytes : List ℕ
  pub key : IsNewKeyFile passphrase iterations bytes text
  pub drawn : after ≡ option_map (λ d. d ++ bytes) before

-- What is written when the command ends with a status, where it prints such a text: nothing where the source of random bytes failed.
abbrev pub PrintsKey : (List ℕ → Type 0) → Written → Status → Written → Type 0
PrintsKey IsText before EntropyDevice after = after ≡ before
PrintsKey IsText before status after = PrintsText IsText before status after

-- The text of a new key file is printed, sealed with the passphrase. Source and target are not used.
pub record MakesKey (secret : Secret) (iterations : ℕ) (before : Devices) (status : Status) (after : Devices) : Type 0 where
  pub source : after.source ≡ before.source
  pub target : after.target ≡ before.target
  pub prints : PrintsKey (IsDrawnKey secret.passphrase iterations before.entropy.bytes after.entropy.bytes) before.output status after.output
