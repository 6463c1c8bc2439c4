-- The blobs that a run and those before it have put: those of the segments of the start, and those that were appended since, whether the
-- appends are done or not.
use Rattle.std.specs.Prelude.{◌≡◌, ℕ, nat_eq, if◌then◌else◌, ◌⊎◌, List, [], ◌∷◌, ◌++◌, Option, Some, None}
use Rattle.std.specs.FinMap.{get}
use Rattle.ferry_disk.specs.Act.{Step, AppendTo, SyncOf, RemoveOf, ReplaceBy, SettleAll, TellOf, Act, History}
use Rattle.ferry_disk.specs.Files.{Files}
use Rattle.ferry_disk.specs.Image.{fate_in}
use Rattle.ferry_segment.specs.Entry.{LogEntry, PutEntry}
use Rattle.ferry_stops.specs.Chance.{ReadsThen, stable_bytes, all_bytes}

-- A PUT of this blob reads in these bytes: entries are read one after another from byte 8 on, as far as they read, whatever the first 8 bytes are.
pub record HasBlob (bytes blob : List ℕ) : Type 0 where
  pub before : List LogEntry
  pub key : List ℕ
  pub reads : ReadsThen bytes before (PutEntry key blob)

-- the same of a file that is there
abbrev pub FileHasBlob : Option (List ℕ) → List ℕ → Type 0
FileHasBlob None blob = ⊥
FileHasBlob (Some bytes) blob = HasBlob bytes blob

-- ---- rows of a segment: what was appended to it between two borders, which are Settles, its Removes and the two ends

-- the row so far, after one more act, done or not
abbrev pub row_after : ℕ → List ℕ → Step → List ℕ
row_after segment row (AppendTo number bytes) = if nat_eq segment number then row ++ bytes else row
row_after segment row (SyncOf number) = row
row_after segment row (RemoveOf number) = if nat_eq segment number then [] else row
row_after segment row (ReplaceBy name bytes) = row
row_after segment row SettleAll = []
row_after segment row (TellOf line) = row

-- A row of a segment, or the front of one up to some act, where this is the row so far.
abbrev pub IsRow : ℕ → List ℕ → List Act → List ℕ → Type 0
IsRow segment row [] found = found ≡ row
IsRow segment row (act ∷ acts) found = (found ≡ row) ⊎ IsRow segment (row_after segment row act.step) acts found

-- the row of a segment that is open at the end of these acts
abbrev pub open_row : ℕ → List ℕ → List Act → List ℕ
open_row segment row [] = row
open_row segment row (act ∷ acts) = open_row segment (row_after segment row act.step) acts

-- A blob of these files, or of a row of these acts.
abbrev pub IsBlob : Files → List Act → List ℕ → Type 0
IsBlob start acts blob = (segment : ℕ) × (FileHasBlob (get start.segments segment) blob ⊎ ((row : List ℕ) × IsRow segment [] acts row × HasBlob row blob))

-- a blob of a history: the acts of earlier runs stand before those of this one
abbrev pub BlobOf : History → List ℕ → Type 0
BlobOf history blob = IsBlob history.start (history.past ++ history.acts) blob

abbrev pub row_in : History → ℕ → List ℕ
row_in history segment = open_row segment [] (history.past ++ history.acts)

-- ---- what a device holds of them

-- Each blob that a segment had or got is one of the history, and its stable bytes are a front of all.
pub record IsTraced (history : History) (segment : ℕ) : Type 0 where
  pub rest : List ℕ
  pub begins : all_bytes (fate_in history segment) ≡ stable_bytes (fate_in history segment) ++ rest
  pub known : (blob : List ℕ) → HasBlob (all_bytes (fate_in history segment)) blob → BlobOf history blob

abbrev pub AllTraced : History → Type 0
AllTraced history = (segment : ℕ) → IsTraced history segment

-- A history has the blobs of another, and beside those new ones alone.
pub record Gains (base : History) (IsNew : List ℕ → Type 0) (history : History) : Type 0 where
  pub traced : AllTraced history
  pub gained : (blob : List ℕ) → BlobOf history blob → BlobOf base blob ⊎ IsNew blob
