-- What adding a content, and committing what was added, makes of a store.
use Rattle.std.specs.Prelude.{◌≡◌, ℕ, ◌+◌, ◌^◌, ◌-◌, min, Bool, true, false, List}
use Rattle.ferry_blob.specs.Blob.{content_id}
use Rattle.ferry_disk.specs.Act.{History}
use Rattle.ferry_disk.specs.Files.{Files}
use Rattle.ferry_repo.specs.Opening.{repo_view}
use Rattle.ferry_repo.specs.declared.fault.RepoFault.TheVariants as Repos
use Rattle.ferry_segment.specs.Entry.{LogEntry, PutEntry}
use Rattle.ferry_store.specs.Content.{IsNew, RefusesNew, RefusesOld, blob_for, with_added}
use Rattle.ferry_store.specs.State.{all_committed}
use Rattle.ferry_store.specs.Store.{IsKnown, StoreFits}
use Rattle.ferry_store.specs.declared.content.Added.{Added}
use Rattle.ferry_store.specs.declared.fault.StoreRefusal.{StoreRefusal}
use Rattle.ferry_store.specs.declared.fault.StoreRefusal.TheVariants.{Repo, Memory}
use Rattle.ferry_store.specs.declared.store.Store.{Store}

-- the id of a content under the keys of a store
abbrev pub id_under : Store → List ℕ → List ℕ
id_under store content = content_id (repo_view store.repo).keys content

-- the entry of a content that is put
abbrev pub entry_of : Store → List ℕ → LogEntry
entry_of store content = PutEntry (id_under store content) (blob_for (repo_view store.repo) store.counter content)

-- The store fits with the content added.
abbrev pub Adds : Store → List ℕ → Store → Added → History → History → Type 0
Adds store content store_now added before now = (counts : Bool) (fits : StoreFits counts store before)
    → (fits_now : StoreFits counts store_now now) × (fits_now.written ≡ with_added added.new fits.written (entry_of store content))

-- how many entries were put since the last commit, with one more where this one was
abbrev pub pending_after : ℕ → Bool → ℕ
pending_after pending true = min (pending + 1) (2 ^ 64 - 1)
pending_after pending false = pending

-- The store fits with all committed that was put.
abbrev pub Checkpoints : Store → Store → History → History → Type 0
Checkpoints store store_now before now = (counts : Bool) (fits : StoreFits counts store before)
    → (fits_now : StoreFits counts store_now now) × (fits_now.written ≡ all_committed fits.written)

-- A content of this id is there, by what was put or opened, and is answered without a call of the depot.
abbrev pub IsAnswered : Store → List ℕ → Type 0
IsAnswered store id = IsKnown store id × (IsNew (repo_view store.repo) id → ⊥)

-- Why a content isn't added: where it is new, it isn't put; where it was live at opening, it doesn't open.
abbrev pub RefusesAdd : Store → List ℕ → Files → StoreRefusal → Type 0
RefusesAdd store content files (Repo Repos.Device) = Unit {0}
RefusesAdd store content files (Repo fault) = (IsKnown store (id_under store content) → ⊥)
    × RefusesOld files (repo_view store.repo) (id_under store content) (Repo fault)
RefusesAdd store content files Memory = Unit {0}
RefusesAdd store content files refusal =
    IsNew (repo_view store.repo) (id_under store content) × RefusesNew store.session store.counter content refusal
