-- How full the segments are into which entries are put.
use Rattle.std.specs.Prelude.{◌≡◌, ◌⊎◌, ℕ, suc, ◌+◌, ◌<◌, ◌≤◌, List, [], ◌++◌, length, Some}
use Rattle.ferry_disk.specs.Act.{History, files_now}
use Rattle.ferry_disk.specs.Files.{Files, segment_bytes}
use Rattle.ferry_segment.specs.Entry.{LogEntry, size_of, spelling}
use Rattle.ferry_segment.specs.Segment.{magic}
use Rattle.ferry_write.specs.Room.{behind}
use Rattle.ferry_write.specs.declared.session.Session.{Session}

-- A segment begins with an entry, and has no other, or so many bytes at most. Where the segment before it is among these too, that had no room for this entry.
pub record IsFilled (limit first : ℕ) (files : Files) (number : ℕ) : Type 0 where
  pub entry : LogEntry
  pub rest : List ℕ
  pub begins : segment_bytes files number ≡ magic ++ (spelling entry ++ rest)
  pub within : (rest ≡ []) ⊎ (length (segment_bytes files number) ≤ limit)
  pub full : (before : ℕ) → first ≤ before → number ≡ suc before → limit < length (segment_bytes files before) + size_of entry

-- The segments from one number up to another are so.
abbrev pub AreFilled : ℕ → ℕ → ℕ → Files → Type 0
AreFilled limit first end files = (number : ℕ) → first ≤ number → number < end → IsFilled limit first files number

-- A session of this limit has put entries into segments behind the last commit.
pub record Fills (limit transaction : ℕ) (session : Session) (history : History) : Type 0 where
  pub limit_is : session.limit ≡ limit
  pub filled : AreFilled limit (suc transaction) (behind session.last) (files_now history)
  pub some : (size : ℕ) → session.size ≡ Some size → 8 < size
