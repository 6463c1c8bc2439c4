-- Contents that are added to a repository: put where they are new, and opened where they are live.
use Rattle.std.specs.Prelude.{◌≡◌, ◌≢◌, ℕ, ◌+◌, Bool, true, false, List, length}
use Rattle.ferry_base.specs.Limits.{zero_id}
use Rattle.ferry_blob.specs.Blob.{OpensTo, blocks, sealed}
use Rattle.ferry_disk.specs.Act.{History}
use Rattle.ferry_disk.specs.Files.{Files}
use Rattle.ferry_log.specs.State.{with_learnt}
use Rattle.ferry_log.specs.declared.place.Place.{Place}
use Rattle.ferry_nonce.specs.Counter.{IsExhausted}
use Rattle.ferry_nonce.specs.declared.counter.Counter.{Counter}
use Rattle.ferry_nonce.specs.declared.fault.NonceFault.TheVariants as Nonces
use Rattle.ferry_repo.specs.Objects.{BreaksObject, HoldsChunk, IsMissing}
use Rattle.ferry_repo.specs.Opening.{RepoState, mode_of}
use Rattle.ferry_repo.specs.declared.fault.RepoFault.TheVariants as Repos
use Rattle.ferry_segment.specs.Entry.{LogEntry, PutEntry}
use Rattle.ferry_store.specs.State.{IsPlaced, RefusesPut, TakesEntry, Written, with_entry}
use Rattle.ferry_store.specs.declared.fault.StoreRefusal.{StoreRefusal}
use Rattle.ferry_store.specs.declared.fault.StoreRefusal.TheVariants.{Repo, Write, Nonce, Memory}
use Rattle.ferry_write.specs.declared.session.Session.{Session}

-- A chunk is live, and its blob opens.
abbrev pub IsThere : Files → RepoState → List ℕ → Type 0
IsThere files repo id = (content : List ℕ) × HoldsChunk files repo.log repo.keys id content

-- A content would be put: its id isn't the manifest's, and isn't live.
abbrev pub IsNew : RepoState → List ℕ → Type 0
IsNew repo id = (id ≢ zero_id) × IsMissing repo.log id

-- ---- what is put

-- the blob of a content that is put, sealed with the next counter blocks
abbrev pub blob_for : RepoState → Counter → List ℕ → List ℕ
blob_for repo counter content = sealed repo.keys (mode_of repo.config) counter.free content

-- the repository with the place of one more id's blob learnt
abbrev pub with_place : RepoState → List ℕ → Place → RepoState
with_place repo id place = record repo { log = with_learnt repo.log id place }

-- A content was put: one more entry is under way, its blob opens to the content, and the repository has learnt where it lies.
pub record HasPut (repo : RepoState) (session : Session) (counter : Counter) (id content : List ℕ) (repo_now : RepoState) (session_now : Session)
    (counter_now : Counter) (before now : History) : Type 0 where
  pub takes : TakesEntry session counter (PutEntry id (blob_for repo counter content)) session_now counter_now before now
  pub opens : OpensTo repo.keys id (blob_for repo counter content) content
  pub place : Place
  pub learnt : repo_now ≡ with_place repo id place
  pub placed : IsPlaced session counter (blob_for repo counter content) place before now

-- what is written with a content added: one more entry where it was put
abbrev pub with_added : Bool → Written → LogEntry → Written
with_added true written entry = with_entry written entry
with_added false written entry = written

-- The repository is the same, but that it has learnt an id whose content was put.
abbrev pub Learns : RepoState → List ℕ → Bool → RepoState → Type 0
Learns repo id false now = now ≡ repo
Learns repo id true now = (place : Place) × (now ≡ with_place repo id place)

-- ---- refusals

-- Why a content that is new isn't put: no blocks are left, or the numbers of segments are used up; or the device failed or memory was refused.
abbrev pub RefusesNew : Session → Counter → List ℕ → StoreRefusal → Type 0
RefusesNew session counter content (Nonce Nonces.Exhausted) = IsExhausted counter (blocks (length content))
RefusesNew session counter content (Nonce Nonces.Device) = Unit {0}
RefusesNew session counter content (Write fault) = RefusesPut session (84 + length content) (Write fault)
RefusesNew session counter content Memory = Unit {0}
RefusesNew session counter content refusal = ⊥

-- Why a content that is live isn't opened: its blob breaks a rule; or the device failed or memory was refused.
abbrev pub RefusesOld : Files → RepoState → List ℕ → StoreRefusal → Type 0
RefusesOld files repo id (Repo (Repos.Blob named fault)) = (named ≡ id) × BreaksObject files repo.log repo.keys id fault
RefusesOld files repo id (Repo Repos.Device) = Unit {0}
RefusesOld files repo id Memory = Unit {0}
RefusesOld files repo id refusal = ⊥
