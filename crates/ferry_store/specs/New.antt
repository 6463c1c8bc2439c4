-- What a new repository is: its settings, its key and one object, a manifest without archives.
use Rattle.std.specs.Prelude.{◌≡◌, ◌⊎◌, ℕ, Bool, List, [], ◌∷◌, ◌++◌, ◌+◌, ◌<◌, ◌≤◌, drop, length, Option, Some, None, Result, Ok, OnOk, IfErr}
use Rattle.ferry_base.specs.Limits.{content_limit, zero_id}
use Rattle.ferry_blob.specs.Blob.{OpensTo, blocks, sealed}
use Rattle.ferry_config.specs.Config.{config_of}
use Rattle.ferry_config.specs.Text.{config_text}
use Rattle.ferry_config.specs.declared.config.Config.{Config}
use Rattle.ferry_disk.specs.Act.{History}
use Rattle.ferry_disk.specs.Device.{Told}
use Rattle.ferry_disk.specs.Files.{Files}
use Rattle.ferry_disk.specs.Moments.{Moments}
use Rattle.ferry_keyblob.specs.Opening.{Opened}
use Rattle.ferry_log.specs.Log.{IsUncommitted}
use Rattle.ferry_log.specs.State.{place_in}
use Rattle.ferry_log.specs.declared.place.Place.{Place}
use Rattle.ferry_mac.specs.declared.keys.Keys.{Keys}
use Rattle.ferry_manifest.specs.Manifest.Text.{ManifestText, manifest_of}
use Rattle.ferry_manifest.specs.Manifest.Writing.{manifest_text}
use Rattle.ferry_msgpack.specs.Tree.{table, no_pairs}
use Rattle.ferry_nonce.specs.Counter.{IsExhausted}
use Rattle.ferry_nonce.specs.declared.counter.Counter.{Counter}
use Rattle.ferry_repo.specs.Opening.{RepoState, OpensFilesTo, opened_key, mode_of}
use Rattle.ferry_repo.specs.declared.secret.Secret.{Secret}
use Rattle.ferry_segment.specs.Entry.{LogEntry, PutEntry, CommitEntry}
use Rattle.ferry_stops.specs.Entries.{Shows, ShowsSomething}
use Rattle.ferry_store.specs.Key.{IsNewBasis, IsGivenBasis}
use Rattle.ferry_nonce.specs.declared.fault.NonceFault.TheVariants as Nonces
use Rattle.ferry_write.specs.Room.{after_entry}
use Rattle.ferry_store.specs.declared.fault.StoreRefusal.{StoreRefusal}
use Rattle.ferry_store.specs.declared.fault.StoreRefusal.TheVariants.{Nonce, TooLarge, Entropy}
use Rattle.ferry_store.specs.State.{Did, KeepsSound, TakesEntry, RefusesPut, IsBegun, IsSound, IsUnderWay, Written, readme_text}
use Rattle.ferry_store.specs.declared.key.Basis.{Basis}
use Rattle.ferry_write.specs.Session.{BeginBySettle}
use Rattle.ferry_write.specs.declared.session.Session.{Session}

-- ---- the manifest

-- what the first manifest says: a time, and no archive
abbrev pub first_manifest : List ℕ → ManifestText
first_manifest timestamp = record {
  timestamp = Some timestamp;
  config = table no_pairs;
  item_keys = [];
  archives = [];
  more = table no_pairs;
}

-- A buffer has the packed bytes of a manifest, whose tag has this salt, behind room for the head of a blob; they read as that manifest, and
-- aren't longer than a content may be.
abbrev pub IsPacked : Keys → List ℕ → ManifestText → List ℕ → Type 0
IsPacked keys salt manifest buffer = (drop 43 buffer ≡ manifest_text keys salt manifest)
    × (length buffer ≡ 43 + length (manifest_text keys salt manifest)) × (manifest_of keys (manifest_text keys salt manifest) ≡ Ok manifest)
    × (length (manifest_text keys salt manifest) ≤ content_limit)

-- the entries of a new repository, committed
abbrev pub new_entries : List ℕ → List LogEntry
new_entries blob = PutEntry zero_id blob ∷ CommitEntry ∷ []

-- ---- opening

-- A text is that of a file `config`, whose key the secret opens, and a blob opens under this key to the first manifest.
pub record IsOpenable (secret : Secret) (timestamp text blob : List ℕ) : Type 0 where
  pub config : Config
  pub reads : config_of text ≡ Ok config
  pub iterations : ℕ
  pub key : Opened
  pub key_opens : opened_key config secret ≡ Ok (record { iterations = iterations; key = key })
  pub content : List ℕ
  pub blob_opens : OpensTo key.keys zero_id blob content
  pub manifest_is : manifest_of key.keys content ≡ Ok (first_manifest timestamp)

-- The files open under the secret to a repository without archives, in which nothing is live but the manifest.
pub record OpensNew (secret : Secret) (files : Files) : Type 0 where
  pub repo : RepoState
  pub opens : OpensFilesTo files secret repo
  pub no_archives : repo.manifest.archives ≡ []
  pub alone : (id : List ℕ) (place : Place) → place_in repo.log id ≡ Some place → id ≡ zero_id

-- Nothing is committed, or the files open as a new repository.
abbrev pub IsNothingOrNew : Secret → Files → Type 0
IsNothingOrNew secret files = IsUncommitted files ⊎ OpensNew secret files

-- The same, as each stop shows it while a repository is made.
abbrev pub ShowsNew : Secret → Files → Type 0
ShowsNew secret image = Shows image None ⊎ (OpensNew secret image × ShowsSomething image)

-- ---- what stands while a repository is made

-- nothing is committed and nothing was put
abbrev pub nothing_written : Option (List ℕ) → Option (List ℕ) → Written
nothing_written config readme = record { committed = None; pending = []; config = config; readme = readme }

-- a new repository of these settings and this manifest's blob
abbrev pub first_written : Config → List ℕ → Written
first_written config blob = record { committed = Some (new_entries blob); pending = []; config = Some (config_text config); readme = Some readme_text }

-- At each moment each stop shows nothing, or a new repository.
abbrev pub FirstSound : Secret → Session → Counter → History → History → Type 0
FirstSound secret session counter before now = (counts : Bool) (config readme : Option (List ℕ))
    → IsUnderWay counts session counter (nothing_written config readme) before → Moments (IsSound (ShowsNew secret) counts) before now

abbrev pub TakesFirst : Config → List ℕ → Session → Counter → Session → Counter → History → History → Type 0
TakesFirst settings blob session counter session_now counter_now before now = (counts : Bool) (config readme : Option (List ℕ))
    → IsUnderWay counts session counter (nothing_written config readme) before
    → IsUnderWay counts session_now counter_now (first_written settings blob) now

-- The same from the begin of a run, whose first act is a Settle.
abbrev pub MakesSound : Secret → History → History → Type 0
MakesSound secret before now = (counts : Bool) → IsBegun counts None None before
    → Moments (IsSound (ShowsNew secret) counts) before now × BeginBySettle now.acts

abbrev pub Makes : Config → List ℕ → Counter → Session → History → History → Type 0
Makes settings blob counter session before now = (counts : Bool) → IsBegun counts None None before
    → IsUnderWay counts session counter (first_written settings blob) now

-- ---- the first manifest

-- the bytes of the first manifest, under these secrets and this salt
abbrev pub manifest_bytes : Basis → List ℕ → List ℕ → List ℕ
manifest_bytes basis timestamp salt = manifest_text basis.keys salt (first_manifest timestamp)

-- its blob, with counter blocks from this number on
abbrev pub manifest_blob : Basis → List ℕ → List ℕ → ℕ → List ℕ
manifest_blob basis timestamp salt free = sealed basis.keys (mode_of basis.config) free (manifest_bytes basis timestamp salt)

-- Why the first manifest isn't put.
abbrev pub RefusesFirst : Session → Counter → ℕ → StoreRefusal → Type 0
RefusesFirst session counter size TooLarge = content_limit < size
RefusesFirst session counter size (Nonce Nonces.Exhausted) = IsExhausted counter (blocks size)
RefusesFirst session counter size Entropy = Unit {0}
RefusesFirst session counter size refusal = RefusesPut session (84 + size) refusal

-- The first manifest is put, or refused.
pub record PutsManifest (basis : Basis) (timestamp salt : List ℕ) (session : Session) (counter : Counter) (session_now : Session) (counter_now : Counter)
    (before now : Option Told) (count after : ℕ) (result : Result (Unit {0}) StoreRefusal) : Type 0 where
  pub did : Did (KeepsSound session counter)
      (λ _. TakesEntry session counter (PutEntry zero_id (manifest_blob basis timestamp salt counter.free)) session_now counter_now) before now count after
      result
  pub reads : OnOk result (manifest_of basis.keys (manifest_bytes basis timestamp salt) ≡ Ok (first_manifest timestamp))
  pub session_is : OnOk result (session_now ≡ after_entry session (84 + length (manifest_bytes basis timestamp salt)))
  pub fits : OnOk result ((length (manifest_bytes basis timestamp salt) ≤ content_limit)
      × (IsExhausted counter (blocks (length (manifest_bytes basis timestamp salt))) → ⊥))
  pub refused : IfErr result (RefusesFirst session counter (length (manifest_bytes basis timestamp salt)))

-- ---- what `init` makes

-- The settings and secrets of a new repository: of a key file, where there is one, without random bytes; and else of random bytes.
abbrev pub IsBasis : Secret → ℕ → List ℕ → Basis → Type 0
IsBasis secret iterations bytes basis = (IsGivenBasis secret basis × (bytes ≡ []))
    ⊎ ((secret.key_file ≡ []) × IsNewBasis secret.passphrase iterations bytes basis)

-- The files are those of a new repository: made of random bytes, of the timestamp, and of counter blocks from this number on. The last 64
-- bytes are the salt of the manifest's tag.
pub record IsMade (secret : Secret) (iterations : ℕ) (timestamp : List ℕ) (free : ℕ) (bytes : List ℕ) (files : Files) : Type 0 where
  pub basis : Basis
  pub basis_bytes : List ℕ
  pub basis_is : IsBasis secret iterations basis_bytes basis
  pub salt : List ℕ
  pub salt_size : length salt ≡ 64
  pub bytes_are : bytes ≡ basis_bytes ++ salt
  pub config : files.config ≡ Some (config_text basis.config)
  pub readme : files.readme ≡ Some readme_text
  pub entries : Shows files (Some (new_entries (manifest_blob basis timestamp salt free)))
