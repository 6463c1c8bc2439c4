-- What the steps of `init` make of a place where nothing is committed.
use Rattle.std.specs.Prelude.{◌≡◌, ◌≤◌, ◌<◌, ℕ, false, List, ◌++◌, length, Option, Result, Ok, OnOk, IfErr}
use Rattle.ferry_base.specs.Limits.{content_limit}
use Rattle.ferry_blob.specs.Blob.{blocks}
use Rattle.ferry_config.specs.Config.{config_of}
use Rattle.ferry_config.specs.Text.{config_text}
use Rattle.ferry_disk.specs.Act.{History, files_now}
use Rattle.ferry_disk.specs.Device.{Told}
use Rattle.ferry_disk.specs.Files.{Files, file_at}
use Rattle.ferry_disk.specs.declared.name.Name.TheVariants.{Nonce as NonceFile}
use Rattle.ferry_nonce.specs.Counter.{HasNoNumber, IsExhausted}
use Rattle.ferry_nonce.specs.declared.counter.Counter.{Counter}
use Rattle.ferry_nonce.specs.declared.fault.NonceFault.TheVariants as Nonces
use Rattle.ferry_repo.specs.declared.secret.Secret.{Secret}
use Rattle.ferry_stops.specs.Counters.{IsNonce}
use Rattle.ferry_store.specs.Key.{BasisOpens}
use Rattle.ferry_store.specs.New.{FirstSound, TakesFirst, Makes, IsBasis, IsOpenable, RefusesFirst, manifest_blob, manifest_bytes}
use Rattle.ferry_store.specs.State.{Did}
use Rattle.ferry_store.specs.declared.fault.StoreRefusal.{StoreRefusal}
use Rattle.ferry_store.specs.declared.fault.StoreRefusal.TheVariants.{Write, Nonce, TooLarge, Entropy, Memory}
use Rattle.ferry_store.specs.declared.key.Basis.{Basis}
use Rattle.ferry_write.specs.declared.fault.WriteFault.TheVariants as Writes
use Rattle.ferry_write.specs.declared.session.Session.{Session}

-- The settings and the manifest of a new repository are written and committed, or that is refused.
pub record MakesFirst (basis : Basis) (timestamp salt : List ℕ) (session : Session) (counter : Counter) (session_now : Session) (counter_now : Counter)
    (before now : Option Told) (count after : ℕ) (result : Result (Unit {0}) StoreRefusal) : Type 0 where
  pub did : (secret : Secret) → BasisOpens secret basis → Did (FirstSound secret session counter)
      (λ _. TakesFirst basis.config (manifest_blob basis timestamp salt counter.free) session counter session_now counter_now) before now count after result
  pub reads : OnOk result (config_of (config_text basis.config) ≡ Ok basis.config)
  pub openable : (secret : Secret) → BasisOpens secret basis
      → OnOk result (IsOpenable secret timestamp (config_text basis.config) (manifest_blob basis timestamp salt counter.free))
  pub fits : OnOk result ((length (manifest_bytes basis timestamp salt) ≤ content_limit)
      × (IsExhausted counter (blocks (length (manifest_bytes basis timestamp salt))) → ⊥))
  pub refused : IfErr result (RefusesFirst session counter (length (manifest_bytes basis timestamp salt)))

-- ---- all of it

-- A repository is made of random bytes: its settings and its first manifest, with counter blocks from the number of the file `nonce` on.
pub record IsMadeBy (secret : Secret) (iterations : ℕ) (timestamp : List ℕ) (bytes : List ℕ) (counter : Counter) (session : Session)
    (before now : History) : Type 0 where
  pub basis : Basis
  pub basis_bytes : List ℕ
  pub basis_is : IsBasis secret iterations basis_bytes basis
  pub salt : List ℕ
  pub salt_size : length salt ≡ 64
  pub bytes_are : bytes ≡ basis_bytes ++ salt
  pub free : ℕ
  pub number : IsNonce (file_at (files_now before) NonceFile) free
  pub openable : IsOpenable secret timestamp (config_text basis.config) (manifest_blob basis timestamp salt free)
  pub makes : Makes basis.config (manifest_blob basis timestamp salt free) counter session before now
  pub reads : config_of (config_text basis.config) ≡ Ok basis.config
  pub limit : session.limit ≡ basis.config.limit

abbrev pub MakesOf : Secret → ℕ → List ℕ → List ℕ → Counter → Session → History → History → Type 0
MakesOf secret iterations timestamp bytes counter session before now = IsMadeBy secret iterations timestamp bytes counter session before now

-- The blocks of a first manifest aren't left behind the number of the file `nonce`.
pub record HasNoBlocks (timestamp : List ℕ) (files : Files) : Type 0 where
  pub free : ℕ
  pub number : IsNonce (file_at files NonceFile) free
  pub basis : Basis
  pub salt : List ℕ
  pub salt_size : length salt ≡ 64
  pub exhausted : IsExhausted (record { free = free; reserved = free; spent = false }) (blocks (length (manifest_bytes basis timestamp salt)))

-- A first manifest is longer than a content may be.
pub record IsTooLarge (timestamp : List ℕ) : Type 0 where
  pub basis : Basis
  pub salt : List ℕ
  pub salt_size : length salt ≡ 64
  pub long : content_limit < length (manifest_bytes basis timestamp salt)

-- Why a repository isn't made where nothing is committed.
abbrev pub RefusesMaking : List ℕ → Files → StoreRefusal → Type 0
RefusesMaking timestamp files (Nonce Nonces.Text) = HasNoNumber (file_at files NonceFile)
RefusesMaking timestamp files (Nonce Nonces.Exhausted) = HasNoBlocks timestamp files
RefusesMaking timestamp files (Nonce Nonces.Device) = Unit {0}
RefusesMaking timestamp files (Write Writes.Device) = Unit {0}
RefusesMaking timestamp files TooLarge = IsTooLarge timestamp
RefusesMaking timestamp files Entropy = Unit {0}
RefusesMaking timestamp files Memory = Unit {0}
RefusesMaking timestamp files refusal = ⊥
