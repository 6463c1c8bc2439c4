-- What a writer stands on: the segments up to the last commit are at rest, and a stop leaves no other commit.
use Rattle.std.specs.Prelude.{◌≡◌, ℕ, ◌<◌, ◌≤◌, true, List, ◌++◌, Option}
use Rattle.std.specs.FinMap.{get}
use Rattle.std.specs.List.{AllByRecursion}
use Rattle.ferry_disk.specs.Act.{History, files_now}
use Rattle.ferry_disk.specs.Image.{Fate, fate_in, at_rest, MayLeave, settled}
use Rattle.ferry_segment.specs.Entry.{LogEntry, Fits}
use Rattle.ferry_segment.specs.Segment.{magic, spellings, IsData}
use Rattle.ferry_stops.specs.Chance.{FileByNoChance, stable_bytes, all_bytes}
use Rattle.ferry_stops.specs.Entries.{IsOpen, CommittedBelow}

-- whatever a stop leaves of the segment by no chance isn't committed
pub record IsHarmless (fate : Fate) : Type 0 where
  pub stays_open : (left : Option (List ℕ)) → MayLeave fate left → FileByNoChance fate left → IsOpen left

-- The bytes begin a segment of entries of which none is a COMMIT, and end anywhere in it.
pub record IsDataFront (bytes : List ℕ) : Type 0 where
  pub more : List ℕ
  pub entries : List LogEntry
  pub fit : AllByRecursion Fits entries
  pub data_only : AllByRecursion IsData entries
  pub whole : bytes ++ more ≡ magic ++ spellings entries

-- A segment of such bytes that is being written: its stable bytes are a front of all.
pub record IsDraft (fate : Fate) : Type 0 where
  pub stable_first : (rest : List ℕ) × (all_bytes fate ≡ stable_bytes fate ++ rest)
  pub data_front : IsDataFront (all_bytes fate)

-- Nothing of this run is in doubt but what is written from an end on: a Settle is done, each segment below the end is at rest, and what a
-- stop leaves of one above isn't committed.
pub record IsSafe (history : History) (end : ℕ) : Type 0 where
  pub settled_is : settled history.acts ≡ true
  pub below : (n : ℕ) → n < end → fate_in history n ≡ at_rest (get (files_now history).segments n)
  pub above : (n : ℕ) → end ≤ n → IsHarmless (fate_in history n)

-- The same, and these entries are committed below the end.
pub record IsOwn (end : ℕ) (committed : Option (List LogEntry)) (history : History) : Type 0 where
  pub safe : IsSafe history end
  pub commits : CommittedBelow (files_now history) end committed
