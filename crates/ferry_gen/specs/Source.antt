-- The drill's source, and why it isn't made.
use Rattle.std.specs.Prelude.{◌≡◌, ℕ, codes, [], ◌∷◌, List, Option, Some, None}
use Rattle.ferry_disk.specs.Act.{History}
use Rattle.ferry_disk.specs.Device.{Told}
use Rattle.ferry_disk.specs.Files.{Files, file_at}
use Rattle.ferry_disk.specs.declared.name.Name.{Name}
use Rattle.ferry_manifest.specs.Manifest.Text.{ManifestText}
use Rattle.ferry_nonce.specs.declared.fault.NonceFault.TheVariants as Nonces
use Rattle.ferry_repo.specs.declared.fault.RepoFault.TheVariants as Repos
use Rattle.ferry_repo.specs.Opening.{OpensFilesTo, RepoState}
use Rattle.ferry_repo.specs.declared.secret.Secret.{Secret}
use Rattle.ferry_store.specs.declared.fault.StoreRefusal.{StoreRefusal}
use Rattle.ferry_store.specs.declared.fault.StoreRefusal.TheVariants.{Memory, Nonce, Repo, Write}
use Rattle.ferry_write.specs.declared.fault.WriteFault.TheVariants as Writes
use Rattle.ferry_gen.specs.Archives.{HasArchives}

-- the length of the pieces into which the source's files are cut
abbrev pub source_block : ℕ
source_block = 1024

-- what opens the source
abbrev pub source_secret : Secret
source_secret = record { passphrase = codes "source"; key_file = [] }

-- Files are the drill's source of so many archives.
abbrev pub IsSource : ℕ → Files → Type 0
IsSource count files = HasArchives source_secret source_block count files

-- the timestamp of a new repository, which each commit keeps
abbrev pub new_time : List ℕ
new_time = codes "1970-01-01T00:00:00.000000"

-- the names of the items' fields
abbrev pub item_names : List (List ℕ)
item_names = codes "chunks" ∷ codes "mode" ∷ codes "path" ∷ []

-- A manifest has that timestamp, and these names of items' fields.
abbrev pub IsPlain : List (List ℕ) → ManifestText → Type 0
IsPlain names manifest = (manifest.timestamp ≡ Some new_time) × (manifest.item_keys ≡ names)

-- The manifest that opens under the source's secret has that timestamp, and the names of the items' fields.
abbrev pub HasPlain : Files → Type 0
HasPlain files = (repo : RepoState) → OpensFilesTo files source_secret repo → IsPlain item_names repo.manifest

-- A depot has no file and has made no act.
pub record IsEmpty (history : History) : Type 0 where
  pub no_acts : history.acts ≡ []
  pub no_files : (name : Name) → file_at history.start name ≡ None

-- It tells its files, and is so.
abbrev pub TellsEmpty : Option Told → Type 0
TellsEmpty told = (t : Told) × ((told ≡ Some t) × IsEmpty t.history)

-- Memory was refused, or the device failed.
abbrev pub IsOfDepot : StoreRefusal → Type 0
IsOfDepot (Repo Repos.Device) = Unit {0}
IsOfDepot (Write Writes.Device) = Unit {0}
IsOfDepot (Nonce Nonces.Device) = Unit {0}
IsOfDepot Memory = Unit {0}
IsOfDepot refusal = ⊥
