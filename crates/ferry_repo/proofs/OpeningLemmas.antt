-- Lemmas on specs/Opening.antt: what the parts of a repository say of the whole.
use Rattle.std.proofs.Common.{◌≡◌, ◌≢◌, ℕ, ◌==◌, Bool, true, false, List, length, Option, Some, None, Result, Ok, Err, IfErr, refl, ap, subst, ◌∙◌, arith}
use Rattle.std.proofs.Common.{inl, inr}
use Rattle.std.specs.Prelude.{if◌then◌else◌}
use Rattle.std.specs.Str.{bytes_eq}
use Rattle.ferry_base.specs.Limits.{zero_id}
use Rattle.ferry_blob.specs.declared.mode.Mode.{Mode}
use Rattle.ferry_blob.specs.declared.mode.Mode.TheVariants.{Repokey, Keyfile}
use Rattle.ferry_config.specs.Config.{config_of}
use Rattle.ferry_config.specs.declared.config.Config.{Config}
use Rattle.ferry_config.specs.declared.fault.ConfigFault.{ConfigFault}
use Rattle.ferry_disk.specs.Files.{Files, contents_at}
use Rattle.ferry_disk.specs.declared.name.Name.TheVariants as Name
use Rattle.ferry_keyblob.specs.Envelope.{envelope_of}
use Rattle.ferry_keyblob.specs.Opening.{Opened, key_of, key_inside, opened}
use Rattle.ferry_keyblob.specs.declared.envelope.Envelope.{Envelope}
use Rattle.ferry_keyblob.specs.declared.fault.KeyFault.{KeyFault}
use Rattle.ferry_keyblob.specs.declared.fault.KeyFault.TheVariants as Key
use Rattle.ferry_keyfile.specs.KeyFile.{key_file_of}
use Rattle.ferry_keyfile.specs.declared.fault.KeyFileFault.{KeyFileFault}
use Rattle.ferry_keyfile.specs.declared.file.KeyFile.{KeyFile}
use Rattle.ferry_log.specs.Fault.{IsRefused}
use Rattle.ferry_log.specs.State.{LogState, IsStateOf}
use Rattle.ferry_log.specs.declared.fault.LogFault.{LogFault}
use Rattle.ferry_log.specs.declared.fault.LogFault.TheVariants as Log
use Rattle.ferry_mac.specs.declared.keys.Keys.{Keys}
use Rattle.ferry_repo.specs.Fault.{log_fault, key_fault, IsOfFiles}
use Rattle.ferry_repo.specs.declared.fault.RepoFault.{RepoFault}
use Rattle.ferry_repo.specs.declared.secret.Secret.{Secret}
use Rattle.ferry_repo.specs.declared.fault.RepoFault.TheVariants as Fault
use Rattle.ferry_repo.specs.Objects.{HoldsObject, RefusesObject}
use Rattle.ferry_fields.specs.Others.{has_among}
use Rattle.ferry_manifest.specs.Manifest.Text.{ManifestText}
use Rattle.ferry_manifest.specs.Manifest.Writing.{IsPackable}
use Rattle.ferry_repo.specs.Opening.{IsOfManifest, LacksRoot, OpensBare, RefusesBare, RootOrNone, no_manifest}
use Rattle.ferry_repo.specs.Opening.{UnlocksTo, UnlocksFiles, RefusesKey, IsRefusal, IsNoManifest, RefusesRepo, OpenedText}
use Rattle.ferry_repo.specs.Opening.{key_text, mode_of, opened_by, opened_key, opened_text, opened_where, text_by, text_in}
use Rattle.ferry_repo.specs.Opening.{text_of, unlocked, unlocked_where, unlocked_with}

-- ---- what unlocking is refused for

-- a fault of `config`, of a key file or of a key
abbrev IsOfKey : RepoFault → Type 0
IsOfKey (Fault.Config fault) = Unit {0}
IsOfKey (Fault.Key fault) = Unit {0}
IsOfKey (Fault.KeyFile fault) = Unit {0}
IsOfKey (Fault.Other a b) = Unit {0}
IsOfKey Fault.NoKey = Unit {0}
IsOfKey fault = ⊥

either_kind : {T : Type 0} (b : Bool) (x y : Result T RepoFault) → IfErr x IsOfKey → IfErr y IsOfKey → IfErr (if b then x else y) IsOfKey
either_kind true x y hx hy = hx
either_kind false x y hx hy = hy

text_of_kind : (id : List ℕ) (r : Result KeyFile KeyFileFault) → IfErr (text_of id r) IsOfKey
text_of_kind id (Err fault) = tt
text_of_kind id (Ok file) = either_kind (bytes_eq file.id id) (Ok file.key) (Err (Fault.Other file.id id)) tt tt

text_in_kind : (id bytes : List ℕ) → IfErr (text_in id bytes) IsOfKey
unfolding text_in
text_in_kind id bytes = either_kind (length bytes == 0) (Err Fault.NoKey) (text_of id (key_file_of bytes)) tt (text_of_kind id (key_file_of bytes))

text_by_kind : (mode : Mode) (config : Config) (secret : Secret) → IfErr (text_by mode config secret) IsOfKey
text_by_kind Repokey config secret = tt
text_by_kind Keyfile config secret = text_in_kind config.id secret.key_file

opened_by_kind : (e : Result Envelope KeyFault) (k : Result Opened KeyFault) → IfErr (opened_by e k) IsOfKey
opened_by_kind (Err fault) k = tt
opened_by_kind (Ok envelope) (Err fault) = tt
opened_by_kind (Ok envelope) (Ok key) = tt

opened_where_kind : (passphrase : List ℕ) (r : Result (List ℕ) RepoFault) → IfErr r IsOfKey → IfErr (opened_where passphrase r) IsOfKey
unfolding opened_text
opened_where_kind passphrase (Err fault) h = h
opened_where_kind passphrase (Ok text) h = opened_by_kind (envelope_of text) (key_of passphrase text)

unlocked_with_kind : (config : Config) (r : Result OpenedText RepoFault) → IfErr r IsOfKey → IfErr (unlocked_with config r) IsOfKey
unlocked_with_kind config (Err fault) h = h
unlocked_with_kind config (Ok text) h = tt

unlocked_where_kind : (secret : Secret) (r : Result Config ConfigFault) → IfErr (unlocked_where secret r) IsOfKey
unfolding opened_key key_text
unlocked_where_kind secret (Err fault) = tt
unlocked_where_kind secret (Ok config) =
    unlocked_with_kind config (opened_key config secret)
    (opened_where_kind secret.passphrase (key_text config secret) (text_by_kind (mode_of config) config secret))

pub kind_of_files : (fault : RepoFault) → IsOfKey fault → IsOfFiles fault
kind_of_files (Fault.Config fault) kind = tt
kind_of_files (Fault.Key fault) kind = tt
kind_of_files (Fault.KeyFile fault) kind = tt
kind_of_files (Fault.Other a b) kind = tt
kind_of_files Fault.NoKey kind = tt
kind_of_files Fault.NoCommit kind = tt
kind_of_files (Fault.Damaged segment at) kind = tt
kind_of_files (Fault.Missing id) kind = tt
kind_of_files (Fault.Blob id fault) kind = tt
kind_of_files (Fault.Manifest fault) kind = tt
kind_of_files (Fault.Archive id fault) kind = tt
kind_of_files (Fault.Item id fault) kind = tt
kind_of_files (Fault.Size id) kind = tt
kind_of_files Fault.Device kind = kind
kind_of_files Fault.Memory kind = kind

pub unlocked_kind : (bytes : List ℕ) (secret : Secret) (fault : RepoFault) → unlocked bytes secret ≡ Err fault → IsOfKey fault
unfolding unlocked
unlocked_kind bytes secret fault is = subst (λ r. IfErr r IsOfKey) is (unlocked_where_kind secret (config_of bytes))

-- ---- what a repository is refused for

pub log_refused : (files : Files) (secret : Secret) (fault : LogFault) → IsRefused files fault → RefusesRepo files secret (log_fault fault)
log_refused files secret Log.NoCommit refused = refused
log_refused files secret (Log.Damaged segment at) refused = refused
log_refused files secret Log.Device refused = tt
log_refused files secret Log.Memory refused = tt

pub key_refused : (files : Files) (secret : Secret) (log : LogState) (fault : RepoFault) → IsStateOf files log
    → RefusesKey (contents_at files Name.Config) secret fault → RefusesRepo files secret fault
key_refused files secret log (Fault.Config fault) is refused = ((log, is), refused)
key_refused files secret log (Fault.Key fault) is refused = ((log, is), refused)
key_refused files secret log Fault.Memory is refused = tt
key_refused files secret log Fault.Device is refused = tt
key_refused files secret log Fault.NoCommit is refused = absurd (unlocked_kind (contents_at files Name.Config) secret _ (refused tt))
key_refused files secret log (Fault.Damaged segment at) is refused = absurd (unlocked_kind (contents_at files Name.Config) secret _ (refused tt))
key_refused files secret log (Fault.Missing id) is refused = absurd (unlocked_kind (contents_at files Name.Config) secret _ (refused tt))
key_refused files secret log (Fault.Blob id fault) is refused = absurd (unlocked_kind (contents_at files Name.Config) secret _ (refused tt))
key_refused files secret log (Fault.Manifest fault) is refused = absurd (unlocked_kind (contents_at files Name.Config) secret _ (refused tt))
key_refused files secret log (Fault.Archive id fault) is refused = absurd (unlocked_kind (contents_at files Name.Config) secret _ (refused tt))
key_refused files secret log (Fault.Item id fault) is refused = absurd (unlocked_kind (contents_at files Name.Config) secret _ (refused tt))
key_refused files secret log (Fault.Size id) is refused = absurd (unlocked_kind (contents_at files Name.Config) secret _ (refused tt))
key_refused files secret log (Fault.KeyFile fault) is refused = ((log, is), refused)
key_refused files secret log (Fault.Other a b) is refused = ((log, is), refused)
key_refused files secret log Fault.NoKey is refused = ((log, is), refused)

pub unlocks_files : (files : Files) (secret : Secret) (log : LogState) (config : Config) (iterations : ℕ) (key : Opened) → IsStateOf files log
    → UnlocksTo (contents_at files Name.Config) secret config iterations key → UnlocksFiles files secret log config key.keys
unlocks_files files secret log config iterations key is unlocks = record
    { reads = is; iterations = iterations; key = key; unlocks = unlocks; keys_are = refl }

pub object_refused : (files : Files) (secret : Secret) (log : LogState) (config : Config) (keys : Keys) (fault : RepoFault)
    → UnlocksFiles files secret log config keys
    → RefusesObject files log keys zero_id fault → RefusesRepo files secret fault
object_refused files secret log config keys (Fault.Missing id) unlocks refused = record
    { log = log; config = config; keys = keys; unlocks = unlocks; object = refused }
object_refused files secret log config keys (Fault.Blob id fault) unlocks refused = record
    { log = log; config = config; keys = keys; unlocks = unlocks; object = refused }
object_refused files secret log config keys Fault.Device unlocks refused = tt
object_refused files secret log config keys Fault.Memory unlocks refused = tt
object_refused files secret log config keys Fault.NoCommit unlocks refused = absurd refused
object_refused files secret log config keys (Fault.Damaged segment at) unlocks refused = absurd refused
object_refused files secret log config keys (Fault.Config fault) unlocks refused = absurd refused
object_refused files secret log config keys (Fault.Key fault) unlocks refused = absurd refused
object_refused files secret log config keys (Fault.Manifest fault) unlocks refused = absurd refused
object_refused files secret log config keys (Fault.Archive id fault) unlocks refused = absurd refused
object_refused files secret log config keys (Fault.Item id fault) unlocks refused = absurd refused
object_refused files secret log config keys (Fault.Size id) unlocks refused = absurd refused
object_refused files secret log config keys (Fault.KeyFile fault) unlocks refused = absurd refused
object_refused files secret log config keys (Fault.Other a b) unlocks refused = absurd refused
object_refused files secret log config keys Fault.NoKey unlocks refused = absurd refused

pub manifest_refused : (files : Files) (secret : Secret) (log : LogState) (config : Config) (keys : Keys) (content : List ℕ) (fault : RepoFault)
    → UnlocksFiles files secret log config keys → HoldsObject files log keys zero_id content → IsNoManifest keys content fault
    → RefusesRepo files secret fault
manifest_refused files secret log config keys content (Fault.Manifest fault) unlocks holds refused =
    record { log = log; config = config; keys = keys; content = content; unlocks = unlocks; object = holds; refused = refused }
manifest_refused files secret log config keys content Fault.Memory unlocks holds refused = tt
manifest_refused files secret log config keys content Fault.Device unlocks holds refused = tt
manifest_refused files secret log config keys content Fault.NoCommit unlocks holds refused = absurd refused
manifest_refused files secret log config keys content (Fault.Damaged segment at) unlocks holds refused = absurd refused
manifest_refused files secret log config keys content (Fault.Config fault) unlocks holds refused = absurd refused
manifest_refused files secret log config keys content (Fault.Key fault) unlocks holds refused = absurd refused
manifest_refused files secret log config keys content (Fault.Missing id) unlocks holds refused = absurd refused
manifest_refused files secret log config keys content (Fault.Blob id fault) unlocks holds refused = absurd refused
manifest_refused files secret log config keys content (Fault.Archive id fault) unlocks holds refused = absurd refused
manifest_refused files secret log config keys content (Fault.Item id fault) unlocks holds refused = absurd refused
manifest_refused files secret log config keys content (Fault.Size id) unlocks holds refused = absurd refused
manifest_refused files secret log config keys content (Fault.KeyFile fault) unlocks holds refused = absurd refused
manifest_refused files secret log config keys content (Fault.Other a b) unlocks holds refused = absurd refused
manifest_refused files secret log config keys content Fault.NoKey unlocks holds refused = absurd refused

-- ---- without its manifest

pub no_packable : IsPackable no_manifest
unfolding has_among
no_packable = record {
  archives = tt;
  item_keys = tt;
  config = refl;
  config_writable = record { depth_fits = omega arith; fits = (omega arith, tt, tt) };
  config_depth = omega arith;
  more = refl;
  more_writable = record { depth_fits = omega arith; fits = (omega arith, tt, tt) };
  apart = refl;
}

log_apart : (fault : LogFault) → IsOfManifest (log_fault fault) → ⊥
log_apart Log.NoCommit is = is
log_apart (Log.Damaged segment at) is = is
log_apart Log.Device is = is
log_apart Log.Memory is = is

key_apart : (bytes : List ℕ) (secret : Secret) (fault : RepoFault) → RefusesKey bytes secret fault → IsOfManifest fault → ⊥
key_apart bytes secret Fault.NoCommit refused is = is
key_apart bytes secret (Fault.Damaged segment at) refused is = is
key_apart bytes secret (Fault.Config fault) refused is = is
key_apart bytes secret (Fault.Key fault) refused is = is
key_apart bytes secret (Fault.Missing id) refused is = unlocked_kind bytes secret _ (refused tt)
key_apart bytes secret (Fault.Blob id fault) refused is = unlocked_kind bytes secret _ (refused tt)
key_apart bytes secret (Fault.Manifest fault) refused is = unlocked_kind bytes secret _ (refused tt)
key_apart bytes secret (Fault.Archive id fault) refused is = is
key_apart bytes secret (Fault.Item id fault) refused is = is
key_apart bytes secret (Fault.Size id) refused is = is
key_apart bytes secret (Fault.KeyFile fault) refused is = is
key_apart bytes secret (Fault.Other a b) refused is = is
key_apart bytes secret Fault.NoKey refused is = is
key_apart bytes secret Fault.Device refused is = is
key_apart bytes secret Fault.Memory refused is = is

pub log_bare : (files : Files) (secret : Secret) (fault : LogFault) → IsRefused files fault → RefusesBare files secret (log_fault fault)
log_bare files secret fault refused = (log_refused files secret fault refused, log_apart fault)

pub key_bare : (files : Files) (secret : Secret) (log : LogState) (fault : RepoFault) → IsStateOf files log
    → RefusesKey (contents_at files Name.Config) secret fault → RefusesBare files secret fault
key_bare files secret log fault is refused =
    (key_refused files secret log fault is refused, key_apart (contents_at files Name.Config) secret fault refused)

pub root_refused : (files : Files) (secret : Secret) (log : LogState) (config : Config) (keys : Keys) (fault : RepoFault)
    → UnlocksFiles files secret log config keys → LacksRoot files log keys fault → RefusesRepo files secret fault
root_refused files secret log config keys fault unlocks (inl object) = object_refused files secret log config keys fault unlocks object
root_refused files secret log config keys fault unlocks (inr content) =
    manifest_refused files secret log config keys content.0 fault unlocks content.1.0 content.1.1

pub root_opens : (files : Files) (secret : Secret) (log : LogState) (config : Config) (keys : Keys) (manifest : ManifestText) (fault : Option RepoFault)
    → UnlocksFiles files secret log config keys → RootOrNone files log keys manifest fault
    → OpensBare files secret (record { log = log; config = config; keys = keys; manifest = manifest }) fault
root_opens files secret log config keys manifest None unlocks root = record {
  opens = record { unlocks = unlocks; content = root.content; object = root.object; manifest_is = root.manifest_is };
}
root_opens files secret log config keys manifest (Some fault) unlocks root = record {
  unlocks = unlocks;
  manifest = root.0;
  refused = root_refused files secret log config keys fault unlocks root.1;
}

-- ---- keys

-- an envelope that doesn't read is a key that doesn't
pub key_of-envelope : (passphrase text : List ℕ) (fault : KeyFault) → envelope_of text ≡ Err fault → key_of passphrase text ≡ Err fault
unfolding key_of
key_of-envelope passphrase text fault is = ap (key_inside passphrase) is

-- a key is what its envelope holds
pub key_of-opened : (passphrase text : List ℕ) (envelope : Envelope) (answer : Result Opened KeyFault) → envelope_of text ≡ Ok envelope
    → opened passphrase envelope ≡ answer
    → key_of passphrase text ≡ answer
unfolding key_of
key_of-opened passphrase text envelope answer is inside = ap (key_inside passphrase) is ∙ inside

-- a key text opens to what its envelope holds
pub text_opens : (passphrase text : List ℕ) (envelope : Envelope) (answer : Result Opened KeyFault) → envelope_of text ≡ Ok envelope
    → opened passphrase envelope ≡ answer → opened_text passphrase text ≡ opened_by (Ok envelope) answer
unfolding opened_text
text_opens passphrase text envelope answer is inside = rw (is, key_of-opened passphrase text envelope answer is inside) refl

pub text_refuses : (passphrase text : List ℕ) (envelope : Envelope) (fault : KeyFault) → envelope_of text ≡ Ok envelope
    → (fault ≢ Key.Memory → opened passphrase envelope ≡ Err fault) → IsRefusal (opened_text passphrase text) (key_fault fault)
text_refuses passphrase text envelope Key.Pack is err of_files = text_opens passphrase text envelope _ is (err (λ e. let no : ⊥ = cc in no))
text_refuses passphrase text envelope Key.Field is err of_files = text_opens passphrase text envelope _ is (err (λ e. let no : ⊥ = cc in no))
text_refuses passphrase text envelope Key.Algorithm is err of_files = text_opens passphrase text envelope _ is (err (λ e. let no : ⊥ = cc in no))
text_refuses passphrase text envelope Key.Iterations is err of_files = text_opens passphrase text envelope _ is (err (λ e. let no : ⊥ = cc in no))
text_refuses passphrase text envelope Key.Passphrase is err of_files = text_opens passphrase text envelope _ is (err (λ e. let no : ⊥ = cc in no))
text_refuses passphrase text envelope Key.Memory is err of_files = absurd of_files
