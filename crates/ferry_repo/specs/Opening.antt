-- How a repository opens under a secret: its log reads, its `config` reads, its key opens, and the object under the zero id is
-- a manifest, in this order (BorgBackup 1.2, Internals, "Data structures and file formats").
use Rattle.std.specs.Prelude.{◌≡◌, ◌⊎◌, ℕ, ◌==◌, if◌then◌else◌, List, [], length, Option, Some, None, Result, Ok, Err}
use Rattle.std.specs.List.{AllByRecursion}
use Rattle.std.specs.Str.{bytes_eq}
use Rattle.ferry_base.specs.Limits.{zero_id}
use Rattle.ferry_blob.specs.declared.mode.Mode.{Mode}
use Rattle.ferry_blob.specs.declared.mode.Mode.TheVariants.{Repokey, Keyfile}
use Rattle.ferry_config.specs.Config.{config_of}
use Rattle.ferry_config.specs.declared.config.Config.{Config}
use Rattle.ferry_config.specs.declared.fault.ConfigFault.{ConfigFault}
use Rattle.ferry_disk.specs.Files.{Files, contents_at}
use Rattle.ferry_disk.specs.declared.name.Name.TheVariants as Name
use Rattle.ferry_keyblob.specs.Envelope.{envelope_of}
use Rattle.ferry_keyblob.specs.Opening.{Opened, key_of}
use Rattle.ferry_keyblob.specs.declared.envelope.Envelope.{Envelope}
use Rattle.ferry_keyblob.specs.declared.fault.KeyFault.{KeyFault}
use Rattle.ferry_keyfile.specs.KeyFile.{key_file_of}
use Rattle.ferry_keyfile.specs.declared.fault.KeyFileFault.{KeyFileFault}
use Rattle.ferry_keyfile.specs.declared.file.KeyFile.{KeyFile}
use Rattle.ferry_log.specs.Log.{IsUncommitted, IsDamaged}
use Rattle.ferry_log.specs.State.{LogState, IsStateOf, FitsFiles}
use Rattle.ferry_mac.specs.declared.keys.Keys.{Keys}
use Rattle.ferry_manifest.specs.Manifest.Text.{ManifestText, manifest_of, manifest_view}
use Rattle.ferry_msgpack.specs.Tree.{table, no_pairs}
use Rattle.ferry_repo.specs.Cached.{Contents}
use Rattle.ferry_repo.specs.Fault.{IsOfFiles}
use Rattle.ferry_repo.specs.Noted.{IsNoted}
use Rattle.ferry_repo.specs.Objects.{HoldsObject, RefusesObject, HoldsChunk}
use Rattle.ferry_repo.specs.declared.fault.RepoFault.{RepoFault}
use Rattle.ferry_repo.specs.declared.fault.RepoFault.TheVariants as Fault
use Rattle.ferry_repo.specs.declared.repo.Repo.{Repo}
use Rattle.ferry_repo.specs.declared.secret.Secret.{Secret}

-- ---- the key

-- where a config says that the key lies: in a key file where the config has none
abbrev pub mode_of : Config → Mode
mode_of config = if length config.key == 0 then Keyfile else Repokey

-- the key text of a key file, which has to be of this repository
abbrev pub text_of : List ℕ → Result KeyFile KeyFileFault → Result (List ℕ) RepoFault
text_of id (Err fault) = Err (Fault.KeyFile fault)
text_of id (Ok file) = if bytes_eq file.id id then Ok file.key else Err (Fault.Other file.id id)

-- the key text that the bytes of a key file have for this repository, where no bytes are no file
unfoldable pub text_in : List ℕ → List ℕ → Result (List ℕ) RepoFault
text_in id bytes = if length bytes == 0 then Err Fault.NoKey else text_of id (key_file_of bytes)

-- the key text by where it lies
abbrev pub text_by : Mode → Config → Secret → Result (List ℕ) RepoFault
text_by Repokey config secret = Ok config.key
text_by Keyfile config secret = text_in config.id secret.key_file

-- the key text that a config and a secret have: the config's where it has one, and else that of the key file, whose id is the config's
unfoldable pub key_text : Config → Secret → Result (List ℕ) RepoFault
key_text config secret = text_by (mode_of config) config secret

-- a key and the iterations of PBKDF2 with which it is sealed
pub record OpenedText : Type 0 where
  pub iterations : ℕ
  pub key : Opened

-- A key opens to this, sealed with these iterations.
abbrev pub OpensKeyTo : Result OpenedText RepoFault → ℕ → Opened → Type 0
OpensKeyTo answer iterations key = answer ≡ Ok record { iterations = iterations; key = key }

-- what a key text opens to, by its envelope and its key
abbrev pub opened_by : Result Envelope KeyFault → Result Opened KeyFault → Result OpenedText RepoFault
opened_by (Err fault) key = Err (Fault.Key fault)
opened_by (Ok envelope) (Err fault) = Err (Fault.Key fault)
opened_by (Ok envelope) (Ok key) = Ok record { iterations = envelope.iterations; key = key }

-- what a passphrase opens of a key text
unfoldable pub opened_text : List ℕ → List ℕ → Result OpenedText RepoFault
opened_text passphrase text = opened_by (envelope_of text) (key_of passphrase text)

-- what a passphrase opens where there is a key text
abbrev pub opened_where : List ℕ → Result (List ℕ) RepoFault → Result OpenedText RepoFault
opened_where passphrase (Err fault) = Err fault
opened_where passphrase (Ok text) = opened_text passphrase text

-- what a secret opens of a config's key
unfoldable pub opened_key : Config → Secret → Result OpenedText RepoFault
opened_key config secret = opened_where secret.passphrase (key_text config secret)

-- a config with its key opened
pub record UnlockedText : Type 0 where
  pub config : Config
  pub text : OpenedText

-- a config with its key, where that opens
abbrev pub unlocked_with : Config → Result OpenedText RepoFault → Result UnlockedText RepoFault
unlocked_with config (Err fault) = Err fault
unlocked_with config (Ok text) = Ok record { config = config; text = text }

-- what a secret unlocks where the config reads
abbrev pub unlocked_where : Secret → Result Config ConfigFault → Result UnlockedText RepoFault
unlocked_where secret (Err fault) = Err (Fault.Config fault)
unlocked_where secret (Ok config) = unlocked_with config (opened_key config secret)

-- what a file `config` and a secret unlock, or the fault that refuses them
unfoldable pub unlocked : List ℕ → Secret → Result UnlockedText RepoFault
unlocked bytes secret = unlocked_where secret (config_of bytes)

-- A file `config` reads, and the secret opens its key.
abbrev pub UnlocksTo : List ℕ → Secret → Config → ℕ → Opened → Type 0
UnlocksTo bytes secret config iterations key =
    unlocked bytes secret ≡ Ok record { config = config; text = record { iterations = iterations; key = key } }

-- What a refusal says of an answer: that it is this refusal, where it is one of files.
abbrev pub IsRefusal : {T : Type 0} → Result T RepoFault → RepoFault → Type 0
IsRefusal answer fault = IsOfFiles fault → answer ≡ Err fault

-- What a refusal says of a file `config` and a secret.
abbrev pub RefusesKey : List ℕ → Secret → RepoFault → Type 0
RefusesKey bytes secret fault = IsRefusal (unlocked bytes secret) fault

-- ---- the repository

-- what an opened repository says, apart from where its parts lie in memory and from the contents that it keeps
pub record RepoState : Type 0 where
  pub log : LogState
  pub config : Config
  pub keys : Keys
  pub manifest : ManifestText

abbrev pub repo_view : Repo → RepoState
repo_view repo = record {
  log = repo.log;
  config = repo.config;
  keys = repo.keys;
  manifest = manifest_view repo.manifest;
}

-- what a repository keeps in memory
abbrev pub cached_in : Repo → Contents
cached_in repo = record { opened = repo.cache; noted = repo.notes }

-- The log of the files reads, and this is its state.
abbrev pub ReadsLog : Files → Type 0
ReadsLog files = (log : LogState) × IsStateOf files log

-- The log and the `config` read, and the key opens to these secrets.
pub record UnlocksFiles (files : Files) (secret : Secret) (log : LogState) (config : Config) (keys : Keys) : Type 0 where
  pub reads : IsStateOf files log
  pub iterations : ℕ
  pub key : Opened
  pub unlocks : UnlocksTo (contents_at files Name.Config) secret config iterations key
  pub keys_are : keys ≡ key.keys

-- The repository opens: its log reads, its key opens, and the object under the zero id is a manifest.
pub record OpensRepo (files : Files) (secret : Secret) (log : LogState) (config : Config) (keys : Keys) (manifest : ManifestText) : Type 0 where
  pub unlocks : UnlocksFiles files secret log config keys
  pub content : List ℕ
  pub object : HoldsObject files log keys zero_id content
  pub manifest_is : manifest_of keys content ≡ Ok manifest

-- What an opened repository says is what the files say: the log's state, the config, the secrets and the manifest.
pub record OpensFilesTo (files : Files) (secret : Secret) (repo : RepoState) : Type 0 where
  pub opens : OpensRepo files secret repo.log repo.config repo.keys repo.manifest

-- The object under the zero id is refused.
pub record RefusesRoot (files : Files) (secret : Secret) (fault : RepoFault) : Type 0 where
  pub log : LogState
  pub config : Config
  pub keys : Keys
  pub unlocks : UnlocksFiles files secret log config keys
  pub object : RefusesObject files log keys zero_id fault

-- why a content is no manifest
abbrev pub IsNoManifest : Keys → List ℕ → RepoFault → Type 0
IsNoManifest keys content (Fault.Manifest fault) = manifest_of keys content ≡ Err fault
IsNoManifest keys content Fault.Memory = Unit {0}
IsNoManifest keys content fault = ⊥

-- The content under the zero id is no manifest.
pub record RefusesManifest (files : Files) (secret : Secret) (fault : RepoFault) : Type 0 where
  pub log : LogState
  pub config : Config
  pub keys : Keys
  pub content : List ℕ
  pub unlocks : UnlocksFiles files secret log config keys
  pub object : HoldsObject files log keys zero_id content
  pub refused : IsNoManifest keys content fault

-- What a refusal says of the files and the secret. Each says as well that all before it in the order is right.
abbrev pub RefusesRepo : Files → Secret → RepoFault → Type 0
RefusesRepo files secret Fault.NoCommit = IsUncommitted files
RefusesRepo files secret (Fault.Damaged segment at) = IsDamaged files segment at
RefusesRepo files secret (Fault.Config fault) = ReadsLog files × RefusesKey (contents_at files Name.Config) secret (Fault.Config fault)
RefusesRepo files secret (Fault.Key fault) = ReadsLog files × RefusesKey (contents_at files Name.Config) secret (Fault.Key fault)
RefusesRepo files secret (Fault.Missing id) = RefusesRoot files secret (Fault.Missing id)
RefusesRepo files secret (Fault.Blob id fault) = RefusesRoot files secret (Fault.Blob id fault)
RefusesRepo files secret (Fault.Manifest fault) = RefusesManifest files secret (Fault.Manifest fault)
RefusesRepo files secret (Fault.Archive id fault) = ⊥
RefusesRepo files secret (Fault.Item id fault) = ⊥
RefusesRepo files secret (Fault.Size id) = ⊥
RefusesRepo files secret (Fault.KeyFile fault) = ReadsLog files × RefusesKey (contents_at files Name.Config) secret (Fault.KeyFile fault)
RefusesRepo files secret (Fault.Other file config) = ReadsLog files × RefusesKey (contents_at files Name.Config) secret (Fault.Other file config)
RefusesRepo files secret Fault.NoKey = ReadsLog files × RefusesKey (contents_at files Name.Config) secret Fault.NoKey
RefusesRepo files secret Fault.Device = Unit {0}
RefusesRepo files secret Fault.Memory = Unit {0}

-- ---- opened without its manifest

-- the manifest of a repository whose own isn't read: of no archives and no further names, and not dated
abbrev pub no_manifest : ManifestText
no_manifest = record { timestamp = None; config = table no_pairs; item_keys = []; archives = []; more = table no_pairs }

-- A fault of the object under the zero id, or of the manifest in it.
abbrev pub IsOfManifest : RepoFault → Type 0
IsOfManifest (Fault.Missing id) = Unit {0}
IsOfManifest (Fault.Blob id fault) = Unit {0}
IsOfManifest (Fault.Manifest fault) = Unit {0}
IsOfManifest fault = ⊥

-- All of a repository but its manifest opens, and that is refused so.
pub record OpensWithout (files : Files) (secret : Secret) (repo : RepoState) (fault : RepoFault) : Type 0 where
  pub unlocks : UnlocksFiles files secret repo.log repo.config repo.keys
  pub manifest : repo.manifest ≡ no_manifest
  pub refused : RefusesRepo files secret fault

-- The repository opens where there is no fault, and else all but its manifest does.
abbrev pub OpensBare : Files → Secret → RepoState → Option RepoFault → Type 0
OpensBare files secret repo None = OpensFilesTo files secret repo
OpensBare files secret repo (Some fault) = OpensWithout files secret repo fault

-- What a refusal says of files that don't even open without their manifest.
abbrev pub RefusesBare : Files → Secret → RepoFault → Type 0
RefusesBare files secret fault = RefusesRepo files secret fault × (IsOfManifest fault → ⊥)

-- The object under the zero id is this manifest.
pub record HoldsRoot (files : Files) (log : LogState) (keys : Keys) (manifest : ManifestText) : Type 0 where
  pub content : List ℕ
  pub object : HoldsObject files log keys zero_id content
  pub manifest_is : manifest_of keys content ≡ Ok manifest

-- It isn't live or doesn't open, or what it holds is no manifest.
abbrev pub LacksRoot : Files → LogState → Keys → RepoFault → Type 0
LacksRoot files log keys fault = RefusesObject files log keys zero_id fault
    ⊎ ((content : List ℕ) × (HoldsObject files log keys zero_id content × IsNoManifest keys content fault))

-- The manifest under the zero id, where there is no fault; else no manifest, since it is refused so.
abbrev pub RootOrNone : Files → LogState → Keys → ManifestText → Option RepoFault → Type 0
RootOrNone files log keys manifest None = HoldsRoot files log keys manifest
RootOrNone files log keys manifest (Some fault) = (manifest ≡ no_manifest) × LacksRoot files log keys fault

-- ---- what fits

-- A repository fits files: its log does, each content that it keeps is what opens under its id there, and its notes are of contents that are there.
pub record FitsRepo (files : Files) (repo : RepoState) (contents : Contents) : Type 0 where
  pub log : FitsFiles files repo.log
  pub cached : AllByRecursion (λ c. HoldsChunk files repo.log repo.keys c.0 c.1) contents.opened
  pub noted : AllByRecursion (λ n. IsNoted files repo.log repo.keys n.1) contents.noted
