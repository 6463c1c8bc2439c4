-- The settings and the key of a new repository. BorgBackup 1.2 Internals, "Data structures and file formats", Key files.
use Rattle.std.specs.Prelude.{◌≡◌, ◌≢◌, ◌==◌, ℕ, true, false, List, [], ◌++◌, length, codes, Option, Some, None, Ok, Err}
use Rattle.std.specs.Int.{w32, cast_signed, from_be_bytes}
use Rattle.ferry_config.specs.declared.config.Config.{Config}
use Rattle.ferry_keyblob.specs.Opening.{Opened, key_of}
use Rattle.ferry_keyblob.specs.Sealing.{key_text}
use Rattle.ferry_keyfile.specs.KeyFile.{key_file_of}
use Rattle.ferry_keyfile.specs.Text.{key_file_text}
use Rattle.ferry_keyfile.specs.declared.file.KeyFile.{KeyFile}
use Rattle.ferry_mac.specs.declared.keys.Keys.{Keys}
use Rattle.ferry_msgpack.specs.Tree.{flag, table, pair, no_pairs}
use Rattle.ferry_repo.specs.Opening.{opened_key}
use Rattle.ferry_repo.specs.declared.fault.RepoFault.{RepoFault}
use Rattle.ferry_repo.specs.declared.fault.RepoFault.TheVariants as Repos
use Rattle.ferry_repo.specs.declared.secret.Secret.{Secret}
use Rattle.ferry_store.specs.declared.fault.StoreRefusal.{StoreRefusal}
use Rattle.ferry_store.specs.declared.fault.StoreRefusal.TheVariants.{Repo, Entropy, Memory}
use Rattle.ferry_store.specs.declared.key.Basis.{Basis}
use Rattle.ferry_store.specs.declared.key.NewBytes.{NewBytes}

-- ---- the random bytes

-- Bytes are those of a new repository: 32 for its id, 32 each for the three secrets, 4 for the seed of the chunker and 32 for the salt of its key.
pub record IsDrawn (new : NewBytes) (bytes : List ℕ) : Type 0 where
  pub bytes_are : bytes ≡ new.id ++ (new.enc_key ++ (new.enc_hmac_key ++ (new.id_key ++ (new.seed ++ new.salt))))
  pub id : length new.id ≡ 32
  pub enc_key : length new.enc_key ≡ 32
  pub enc_hmac_key : length new.enc_hmac_key ≡ 32
  pub id_key : length new.id_key ≡ 32
  pub seed : length new.seed ≡ 4
  pub salt : length new.salt ≡ 32

-- ---- the key of these bytes

abbrev pub new_keys : NewBytes → Keys
new_keys new = record { enc_key = new.enc_key; enc_hmac_key = new.enc_hmac_key; id_key = new.id_key }

-- the seed is a number of 32 bits with a sign, and the manifest is to have its tag
abbrev pub new_key : NewBytes → Opened
new_key new = record {
  keys = new_keys new;
  repository_id = new.id;
  chunk_seed = cast_signed w32 (from_be_bytes w32 new.seed);
  more = table (pair (codes "tam_required") (flag true) no_pairs);
}

-- its text, sealed with a passphrase
abbrev pub new_text : NewBytes → List ℕ → ℕ → List ℕ
new_text new passphrase iterations = key_text (new_key new) passphrase new.salt iterations

-- ---- the settings

-- the settings of a new repository of this id, with this key text, or with none where a key file has it: 1000 segments in a folder, and
-- segments of 500 MiB
abbrev pub new_config : List ℕ → List ℕ → Config
new_config id key = record { id = id; key = key; per_dir = 1000; limit = 524288000 }

-- A new repository is made of drawn bytes, with a key of its own.
pub record IsNewBasis (passphrase : List ℕ) (iterations : ℕ) (bytes : List ℕ) (basis : Basis) : Type 0 where
  pub new : NewBytes
  pub drawn : IsDrawn new bytes
  pub config_is : basis.config ≡ new_config new.id (new_text new passphrase iterations)
  pub keys_are : basis.keys ≡ new_keys new

-- A new repository has the id of a key file, and the key that the passphrase opens of it.
pub record IsGivenBasis (secret : Secret) (basis : Basis) : Type 0 where
  pub there : length secret.key_file == 0 ≡ false
  pub file : KeyFile
  pub reads : key_file_of secret.key_file ≡ Ok file
  pub key : Opened
  pub opens : key_of secret.passphrase file.key ≡ Ok key
  pub config_is : basis.config ≡ new_config file.id []
  pub keys_are : basis.keys ≡ key.keys

-- What is made of a key file: nothing where there is none.
abbrev pub IsGiven : Secret → Option Basis → Type 0
IsGiven secret None = secret.key_file ≡ []
IsGiven secret (Some basis) = IsGivenBasis secret basis

-- The settings have the limits of a new repository.
abbrev pub HasNewLimits : Config → Type 0
HasNewLimits config = (config.per_dir ≡ 1000) × (config.limit ≡ 524288000)

-- The secret opens the key of these settings, to these secrets.
pub record BasisOpens (secret : Secret) (basis : Basis) : Type 0 where
  pub iterations : ℕ
  pub key : Opened
  pub key_opens : opened_key basis.config secret ≡ Ok (record { iterations = iterations; key = key })
  pub keys_are : key.keys ≡ basis.keys

-- the same, where something is made of a key file
abbrev pub GivenOpens : Secret → Option Basis → Type 0
GivenOpens secret None = Unit {0}
GivenOpens secret (Some basis) = BasisOpens secret basis

-- ---- refusals

-- The text of a key file that is handed in: it is there, and doesn't read or doesn't open.
abbrev pub RefusesGiven : Secret → StoreRefusal → Type 0
RefusesGiven secret (Repo (Repos.KeyFile fault)) = (secret.key_file ≢ []) × (key_file_of secret.key_file ≡ Err fault)
RefusesGiven secret (Repo (Repos.Key fault)) =
    (secret.key_file ≢ []) × ((file : KeyFile) × (key_file_of secret.key_file ≡ Ok file) × (key_of secret.passphrase file.key ≡ Err fault))
RefusesGiven secret Memory = Unit {0}
RefusesGiven secret refusal = ⊥

-- There is none, or it reads and opens.
abbrev pub FitsGiven : Secret → Type 0
FitsGiven secret = (fault : RepoFault) → RefusesGiven secret (Repo fault) → ⊥

-- the source of random bytes failed, or memory was refused
abbrev pub IsFree : StoreRefusal → Type 0
IsFree Entropy = Unit {0}
IsFree Memory = Unit {0}
IsFree refusal = ⊥

-- ---- a key file

-- The text of a key file is made of drawn bytes.
pub record IsNewKeyFile (passphrase : List ℕ) (iterations : ℕ) (bytes text : List ℕ) : Type 0 where
  pub new : NewBytes
  pub drawn : IsDrawn new bytes
  pub text_is : text ≡ key_file_text (record { id = new.id; key = new_text new passphrase iterations })
