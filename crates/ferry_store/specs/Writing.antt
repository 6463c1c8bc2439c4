-- What the segments of a repository have at each moment while entries are written into it.
use Rattle.std.specs.Prelude.{◌⊎◌, ◌++◌, Bool, List, [], ◌∷◌, ℕ}
use Rattle.ferry_base.specs.Limits.{zero_id}
use Rattle.ferry_blob.specs.Blob.{OpensTo}
use Rattle.ferry_disk.specs.Act.{History, files_now}
use Rattle.ferry_disk.specs.Files.{Files}
use Rattle.ferry_disk.specs.Moments.{Moments}
use Rattle.ferry_nonce.specs.declared.counter.Counter.{Counter}
use Rattle.ferry_repo.specs.Opening.{repo_view}
use Rattle.ferry_segment.specs.Entry.{LogEntry, PutEntry, CommitEntry}
use Rattle.ferry_store.specs.Adding.{entry_of, id_under}
use Rattle.ferry_store.specs.Content.{IsNew, blob_for}
use Rattle.ferry_store.specs.Standing.{entries_of}
use Rattle.ferry_store.specs.State.{IsUnderWay, Written}
use Rattle.ferry_store.specs.declared.store.Store.{Store}
use Rattle.ferry_write.specs.Front.{HasFront}
use Rattle.ferry_write.specs.declared.session.Session.{Session}

-- Files have a front of these entries; or of them and of more behind them, and then this holds.
abbrev pub IsOnTheWay : Type 0 → List LogEntry → List LogEntry → Files → Type 0
IsOnTheWay Holds entries more files = HasFront files entries ⊎ (Holds × HasFront files (entries ++ more))

-- So it is at each moment with all that was written before, and with what is put.
abbrev pub WritesMore : Type 0 → List LogEntry → Session → Counter → History → History → Type 0
WritesMore Holds more session counter before now = (counts : Bool) (written : Written) → IsUnderWay counts session counter written before
    → Moments (λ h. IsOnTheWay Holds (entries_of written) more (files_now h)) before now

-- The same with a COMMIT, and with the PUT of a manifest and its COMMIT.
abbrev pub WritesCommit : Session → Counter → History → History → Type 0
WritesCommit session counter before now = WritesMore (Unit {0}) (CommitEntry ∷ []) session counter before now

abbrev pub WritesManifest : List ℕ → Session → Counter → History → History → Type 0
WritesManifest blob session counter before now = WritesMore (Unit {0}) (PutEntry zero_id blob ∷ (CommitEntry ∷ [])) session counter before now

-- A content is new in a store, and its blob opens to it.
abbrev pub CanPut : Store → List ℕ → Type 0
CanPut store content = IsNew (repo_view store.repo) (id_under store content)
    × OpensTo (repo_view store.repo).keys (id_under store content) (blob_for (repo_view store.repo) store.counter content) content

-- The same with the PUT of a content that is added.
abbrev pub WritesContent : Store → List ℕ → History → History → Type 0
WritesContent store content before now =
    WritesMore (CanPut store content) (entry_of store content ∷ []) store.session store.counter before now
