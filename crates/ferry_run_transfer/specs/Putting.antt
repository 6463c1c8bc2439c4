-- What a transfer puts into its target, up to the last commit and behind it: at each moment, and where it is refused.
use Rattle.std.specs.Prelude.{◌≡◌, ◌⊎◌, Bool, false, List, [], Some}
use Rattle.ferry_disk.specs.Act.{History, files_now}
use Rattle.ferry_disk.specs.Files.{Files}
use Rattle.ferry_disk.specs.Moments.{Moments}
use Rattle.ferry_piece.specs.Puts.{Addition, AddsFirst, Within}
use Rattle.ferry_repo.specs.Opening.{OpensFilesTo, RepoState}
use Rattle.ferry_segment.specs.Entry.{LogEntry}
use Rattle.ferry_stops.specs.Entries.{Shows}
use Rattle.ferry_write.specs.Front.{HasEntries, HasFront, LeavesSegments}
use Rattle.ferry_store.specs.State.{HasNumber}
use Rattle.ferry_run_transfer.specs.Transfer.{IsBegun, Request}
use Rattle.ferry_status.specs.Status.{is_of_work}
use Rattle.ferry_status.specs.declared.status.Limit.TheVariants.{Segment}
use Rattle.ferry_status.specs.declared.status.Status.{Status}
use Rattle.ferry_status.specs.declared.status.Status.TheVariants.{Limit}

-- What files have now is, by this, the entries that they showed at the begin, and behind them the first of what is added for the chosen names, put one after
-- another, with the commits that may come between, and nothing else.
pub record PutsFirst (request : Request) (start : Files) (Has : List LogEntry → Type 0) : Type 0 where
  pub begun : List Addition
  pub begins : IsBegun request start begun
  pub puts : (before : RepoState) → OpensFilesTo start request.secrets.target before → (entries : List LogEntry) → Shows start (Some entries)
      → (after : List LogEntry) × (Has after × AddsFirst Within before.keys request.checkpoint entries begun after)

-- In a run that had made no act, over a target that opens, with a number in the file `nonce`: nothing was done, or all that the segments have, also behind the
-- last commit, is that.
abbrev pub LeavesFirst : Request → History → History → Type 0
LeavesFirst request before now = before.acts ≡ [] → (repo : RepoState) → OpensFilesTo (files_now before) request.secrets.target repo
    → HasNumber (files_now before) → (now ≡ before) ⊎ PutsFirst request (files_now before) (HasEntries (files_now now))

-- Nothing was put yet, and each segment is as it was at the begin, or is gone; or the segments have a front of such entries, the last of them perhaps in part.
abbrev pub HasPart : Request → Files → Files → Type 0
HasPart request start now = LeavesSegments start now ⊎ PutsFirst request start (HasFront now)

-- In a run that had made no act, over a target that opens, it is so at each moment, whatever ended it.
abbrev pub TransferPuts : Request → History → History → Type 0
TransferPuts request before now = before.acts ≡ [] → (repo : RepoState) → OpensFilesTo (files_now before) request.secrets.target repo
    → Moments (λ moment. HasPart request (files_now before) (files_now moment)) before now

-- whether a status is that of such a refusal, but for the numbers of segments that are used up
abbrev pub is_spared : Status → Bool
is_spared (Limit Segment) = false
is_spared status = is_of_work status
