-- What a session knows of the appends to its segments, so that its calls bring the blobs that are put and no others.
use Rattle.std.specs.Prelude.{◌≡◌, ℕ, ◌≤◌, List, [], Option, Some}
use Rattle.ferry_disk.specs.Act.{History}
use Rattle.ferry_disk.specs.Image.{fate_in}
use Rattle.ferry_disk.specs.Moments.{Moments}
use Rattle.ferry_segment.specs.Entry.{LogEntry, PutEntry}
use Rattle.ferry_stops.specs.Blobs.{row_in, AllTraced, Gains}
use Rattle.ferry_stops.specs.Chance.{all_bytes}
use Rattle.ferry_write.specs.Room.{behind}
use Rattle.ferry_write.specs.Session.{SessionFits}
use Rattle.ferry_write.specs.declared.session.Session.{Session}

-- the open row of the segment that is written is all its bytes
abbrev pub RowIs : History → Option ℕ → Option ℕ → Type 0
RowIs history (Some number) (Some size) = row_in history number ≡ all_bytes (fate_in history number)
RowIs history last size = Unit {0}

-- Nothing was appended above the last segment since the last Settle or Remove, and the open row of the one that is written is all its bytes.
pub record RowsStand (last size : Option ℕ) (history : History) : Type 0 where
  pub above : (n : ℕ) → behind last ≤ n → row_in history n ≡ []
  pub current : RowIs history last size

-- the same of a session, and each blob of the device's segments is one of its history
pub record SessionRows (session : Session) (history : History) : Type 0 where
  pub traced : AllTraced history
  pub rows : RowsStand session.last session.size history

-- the blob of an entry, where it is a PUT
abbrev pub IsPutOf : LogEntry → List ℕ → Type 0
IsPutOf entry blob = (key : List ℕ) × (entry ≡ PutEntry key blob)

-- At each moment the history has the blobs from before, and beside them that of this entry alone.
abbrev pub Brings : Session → LogEntry → History → History → Type 0
Brings session entry before now = (committed : Option (List LogEntry)) (pending : List LogEntry) → SessionFits session committed pending before
    → SessionRows session before → Moments (Gains before (IsPutOf entry)) before now

-- The rows stand afterwards.
abbrev pub KeepsRows : Session → Session → History → History → Type 0
KeepsRows old new before now = (committed : Option (List LogEntry)) (pending : List LogEntry) → SessionFits old committed pending before
    → SessionRows old before → SessionRows new now

-- ---- a session that begins

-- Where no act of this run was made before, the rows stand.
abbrev pub BeginsRows : Session → History → History → Type 0
BeginsRows session before now = before.acts ≡ [] → SessionRows session now

-- And at each moment the history has the blobs from before, and no other.
abbrev pub BeginBrings : History → History → Type 0
BeginBrings before now = before.acts ≡ [] → Moments (Gains before (λ _. ⊥)) before now

-- ---- a commit

-- At each moment the history has the blobs from before, and no other.
abbrev pub BringsNone : Session → History → History → Type 0
BringsNone session before now = (committed : Option (List LogEntry)) (pending : List LogEntry) → SessionFits session committed pending before
    → SessionRows session before → Moments (Gains before (λ _. ⊥)) before now
