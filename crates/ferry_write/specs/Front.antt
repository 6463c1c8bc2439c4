-- What the segments of files have while entries are written: a front of the bytes of those that they are to have.
use Rattle.std.specs.Prelude.{◌≡◌, ◌⊎◌, ◌<◌, ◌≤◌, ℕ, List, [], ◌∷◌, ◌++◌, Option, None, unwrap_or}
use Rattle.std.specs.FinMap.{get}
use Rattle.ferry_disk.specs.Act.{AppendTo, History, files_now, stepped}
use Rattle.ferry_disk.specs.Files.{Files}
use Rattle.ferry_disk.specs.Moments.{Moments}
use Rattle.ferry_segment.specs.Entry.{LogEntry}
use Rattle.ferry_stops.specs.Entries.{HaveBelow}
use Rattle.ferry_write.specs.Session.{SessionFits}
use Rattle.ferry_write.specs.declared.session.Session.{Session}

-- The segments of files have these entries, up to the last commit and behind it, in the order of their numbers.
pub record HasEntries (files : Files) (entries : List LogEntry) : Type 0 where
  pub end : ℕ
  pub none : (n : ℕ) → end ≤ n → get files.segments n ≡ None
  pub have : HaveBelow files end entries

-- bytes that are appended to a segment
pub record Append : Type 0 where
  pub segment : ℕ
  pub bytes : List ℕ

-- the files with these appended, one after another
abbrev pub appended : Files → List Append → Files
appended files [] = files
appended files (one ∷ more) = appended (stepped files (AppendTo one.segment one.bytes)) more

-- Each of these is appended to the last segment, or to one behind it.
abbrev pub AreAtEnd : Files → List Append → Type 0
AreAtEnd files [] = Unit {0}
AreAtEnd files (one ∷ more) =
    ((n : ℕ) → one.segment < n → get files.segments n ≡ None) × AreAtEnd (stepped files (AppendTo one.segment one.bytes)) more

-- The segments of files have the first of these entries, the last of them perhaps not wholly: with some more bytes appended at the end
-- they have them all.
pub record HasFront (files : Files) (entries : List LogEntry) : Type 0 where
  pub more : List Append
  pub at_end : AreAtEnd files more
  pub has : HasEntries (appended files more) entries

-- At each moment of a call of a session that fits, the files have a front of all that was written before and of these entries behind it.
abbrev pub Writes : Session → List LogEntry → History → History → Type 0
Writes session more before now = (committed : Option (List LogEntry)) (pending : List LogEntry) → SessionFits session committed pending before
    → Moments (λ h. HasFront (files_now h) ((unwrap_or committed [] ++ pending) ++ more)) before now

-- ---- before a session begins

-- Each segment of the first files is in the second as it was, or is gone.
abbrev pub LeavesSegments : Files → Files → Type 0
LeavesSegments before now = (n : ℕ) → (get now.segments n ≡ get before.segments n) ⊎ (get now.segments n ≡ None)

-- That holds at each moment of what was there at the first.
abbrev pub OnlyRemoves : History → History → Type 0
OnlyRemoves before now = Moments (λ h. LeavesSegments (files_now before) (files_now h)) before now
