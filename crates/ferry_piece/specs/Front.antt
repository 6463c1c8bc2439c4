-- What the segments of a target have at each moment while contents are added: a front of what was written, and of what is added behind it.
use Rattle.std.specs.Prelude.{ℕ, Bool, List}
use Rattle.ferry_disk.specs.Act.{History, files_now}
use Rattle.ferry_disk.specs.Files.{Files}
use Rattle.ferry_mac.specs.declared.keys.Keys.{Keys}
use Rattle.ferry_segment.specs.Entry.{LogEntry}
use Rattle.ferry_stops.specs.Tells.{TellsNothing}
use Rattle.ferry_store.specs.State.{CommitsSound, IsSound}
use Rattle.ferry_store.specs.Writing.{WritesCommit}
use Rattle.ferry_store.specs.declared.store.Store.{Store}
use Rattle.ferry_write.specs.Front.{HasFront}
use Rattle.ferry_piece.specs.Puts.{Addition, AddsFirst, Border}

-- The segments of files have a front of entries that go on from these with the first of what is added, and nothing else: the last entry is perhaps there in
-- part.
unfoldable pub HoldsFront : Border → Keys → ℕ → List LogEntry → List Addition → Files → Type 0
HoldsFront at keys most before within files = (after : List LogEntry) × (HasFront files after × AddsFirst at keys most before within after)

-- A moment is sound, each stop shows this, and that is what is read.
pub record IsSoundWith (Show Read : Files → Type 0) (counts : Bool) (history : History) : Type 0 where
  pub sound : IsSound Show counts history
  pub open sound use *
  pub read : Read (files_now history)

-- What holds at each moment of a checkpoint.
abbrev pub CommitsPieces : Store → History → History → Type 0
CommitsPieces store before now = TellsNothing before now
    × (CommitsSound store.session store.counter before now × WritesCommit store.session store.counter before now)
