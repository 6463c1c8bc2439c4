-- What compacting leaves, at its end and wherever a stop comes.
use Rattle.std.specs.Prelude.{◌≡◌, ℕ, suc, ◌≤◌, true, false, List, [], ◌∷◌, ◌++◌, map, length, Some}
use Rattle.std.specs.FinMap.{get}
use Rattle.ferry_compact.specs.Choice.{chosen_in, is_idle}
use Rattle.ferry_compact.specs.Filling.{AreFilled}
use Rattle.ferry_compact.specs.Moving.{left_in, moved_in}
use Rattle.ferry_disk.specs.Act.{History, RemoveOf, files_now}
use Rattle.ferry_disk.specs.Files.{Files}
use Rattle.ferry_disk.specs.Moments.{Moments}
use Rattle.ferry_log.specs.Live.{live_blob}
use Rattle.ferry_log.specs.Log.{IsLog, Located}
use Rattle.ferry_log.specs.State.{LogState}
use Rattle.ferry_nonce.specs.Counter.{KeepsNumbers}
use Rattle.ferry_segment.specs.Entry.{CommitEntry}
use Rattle.ferry_stops.specs.Blobs.{AllTraced}
use Rattle.ferry_stops.specs.Chance.{EachStop}
use Rattle.ferry_stops.specs.Counters.{IsKept}
use Rattle.ferry_stops.specs.Entries.{ShowsAt}
use Rattle.ferry_write.specs.Script.{DoesAll, StopsIn, clear_steps}

-- ---- what is live

-- Files have a log by which each key has the blob that it has by this one, or none where it has none.
pub record ShowsLive (log : List Located) (files : Files) : Type 0 where
  pub transaction : ℕ
  pub now : List Located
  pub is : IsLog files transaction now
  pub live : (key : List ℕ) → live_blob key now ≡ live_blob key log

-- At each moment of a run that had made no act, each stop leaves what was live, and nothing else is live.
abbrev pub KeepsLive : ℕ → History → History → Type 0
KeepsLive transaction before now = (log : List Located) → before.acts ≡ [] → IsLog (files_now before) transaction log
    → Moments (EachStop (ShowsLive log)) before now

-- ---- counter blocks

-- What is kept is kept at each moment.
abbrev pub KeepsBlocks : History → History → Type 0
KeepsBlocks before now = before.acts ≡ [] → IsKept before → Moments (λ h. IsKept h × AllTraced h) before now

-- At each moment each blob was there before, and no number that a stop leaves in the file `nonce` is below the one that was there.
abbrev pub NumbersStay : History → History → Type 0
NumbersStay before now = before.acts ≡ [] → Moments KeepsNumbers before now

-- ---- the end

-- The segments up to a number are as they were.
abbrev pub StayUpTo : ℕ → History → History → Type 0
StayUpTo transaction before now = (n : ℕ) → n ≤ transaction → get (files_now now).segments n ≡ get (files_now before).segments n

-- What is to be moved was put behind the log, in segments that are filled up to a limit, and committed behind them, and then the chosen segments were removed,
-- one after another, each before the next.
pub record MovesAll (limit : ℕ) (log : List Located) (transaction : ℕ) (chosen : List ℕ) (before now : History) : Type 0 where
  pub written : History
  pub end : ℕ
  pub last : ℕ
  pub end_is : end ≡ suc last
  pub filled : AreFilled limit (suc transaction) last (files_now written)
  pub shown : ShowsAt (files_now written) end (Some (map (λ e. e.entry) log ++ (moved_in log chosen ++ CommitEntry ∷ [])))
  pub stay : StayUpTo transaction before written
  pub removes : DoesAll (map RemoveOf chosen) written now
  pub left : ShowsAt (files_now now) end (Some (left_in log chosen ++ (moved_in log chosen ++ CommitEntry ∷ [])))
  pub live : ShowsLive log (files_now now)

-- Where nothing is to be gained, a session was begun and nothing else done; and else all was moved. The count is that of the removed segments.
pub record CompactsTo (limit : ℕ) (log : List Located) (transaction : ℕ) (chosen : List ℕ) (count : ℕ) (before now : History) : Type 0 where
  pub idle : is_idle transaction chosen ≡ true → (count ≡ 0) × DoesAll (clear_steps (suc transaction) (files_now before)) before now
  pub moved : is_idle transaction chosen ≡ false → (count ≡ length chosen) × MovesAll limit log transaction chosen before now

abbrev pub Compacts : ℕ → LogState → ℕ → ℕ → History → History → Type 0
Compacts limit state threshold count before now = (log : List Located) → IsLog (files_now before) state.transaction log
    → CompactsTo limit log state.transaction (chosen_in threshold state.extents) count before now

-- ---- wherever it ends

-- While the segments up to the transaction were as they had been, something was written; and then a front of the chosen ones was removed, one after
-- another, and perhaps the next one.
pub record RemovesFront (transaction : ℕ) (chosen : List ℕ) (before now : History) : Type 0 where
  pub written : History
  pub stay : StayUpTo transaction before written
  pub removes : StopsIn (map RemoveOf chosen) written now
