-- What a refusal says of the files of a store's depot as they are read behind it.
use Rattle.std.specs.Prelude.{◌≡◌, ◌≢◌, ◌≤◌, ℕ, Bool, List, Some, IsSome}
use Rattle.std.specs.FinMap.{get}
use Rattle.ferry_base.specs.Limits.{zero_id}
use Rattle.ferry_blob.specs.Blob.{blob_fault}
use Rattle.ferry_blob.specs.declared.fault.BlobFault.{BlobFault}
use Rattle.ferry_disk.specs.Act.{History, files_now}
use Rattle.ferry_disk.specs.Files.{Files}
use Rattle.ferry_mac.specs.declared.keys.Keys.{Keys}
use Rattle.ferry_nonce.specs.declared.counter.Counter.{Counter}
use Rattle.ferry_nonce.specs.declared.fault.NonceFault.TheVariants as Nonces
use Rattle.ferry_repo.specs.declared.fault.RepoFault.TheVariants as Repos
use Rattle.ferry_segment.specs.Entry.{LogEntry}
use Rattle.ferry_stops.specs.Entries.{Shows}
use Rattle.ferry_store.specs.Counting.{LacksBlocks}
use Rattle.ferry_store.specs.Standing.{live_in}
use Rattle.ferry_store.specs.State.{IsUnderWay, Written}
use Rattle.ferry_store.specs.declared.fault.StoreRefusal.{StoreRefusal}
use Rattle.ferry_store.specs.declared.fault.StoreRefusal.TheVariants.{Repo, Write, Nonce, Committed, TooLarge, Entropy, Memory}
use Rattle.ferry_write.specs.declared.fault.WriteFault.TheVariants as Writes
use Rattle.ferry_write.specs.declared.session.Session.{Session}

-- By what is committed in these files a chunk is live, and its blob breaks a rule so.
pub record BreaksLive (files : Files) (keys : Keys) (id : List ℕ) (fault : BlobFault) : Type 0 where
  pub entries : List LogEntry
  pub shown : Shows files (Some entries)
  pub chunk : id ≢ zero_id
  pub blob : List ℕ
  pub live : live_in id entries ≡ Some blob
  pub breaks : blob_fault keys id blob ≡ Some fault

-- the most counter blocks that a blob has: 2^21
abbrev pub most_blocks : ℕ
most_blocks = 2097152

-- The blocks of some blob aren't left in these files, where the run began with those at its start.
abbrev pub HasFewBlocks : Files → Files → Type 0
HasFewBlocks start files = (count : ℕ) × ((count ≤ most_blocks) × LacksBlocks start files count)

-- A segment has the greatest number that one may have.
abbrev pub HasLastSegment : Files → Type 0
HasLastSegment files = (number : ℕ) × ((4294967295 ≤ number) × IsSome (get files.segments number))

-- A live chunk breaks a rule, the counter blocks of a blob aren't left, or the numbers of segments are used up; or a manifest is too large, a device
-- failed, or memory was refused. The run began with the files at its start.
abbrev pub StopsAt : Files → Files → Keys → StoreRefusal → Type 0
StopsAt start files keys (Repo (Repos.Blob id fault)) = BreaksLive files keys id fault
StopsAt start files keys (Repo Repos.Device) = Unit {0}
StopsAt start files keys (Repo fault) = ⊥
StopsAt start files keys (Write Writes.Numbers) = HasLastSegment files
StopsAt start files keys (Write fault) = Unit {0}
StopsAt start files keys (Nonce Nonces.Exhausted) = HasFewBlocks start files
StopsAt start files keys (Nonce Nonces.Device) = Unit {0}
StopsAt start files keys (Nonce fault) = ⊥
StopsAt start files keys Committed = ⊥
StopsAt start files keys TooLarge = Unit {0}
StopsAt start files keys Entropy = Unit {0}
StopsAt start files keys Memory = Unit {0}

-- The same of the files behind a call that is refused, under whatever keys, where a session and a counter fitted before it.
abbrev pub Stops : Session → Counter → StoreRefusal → History → History → Type 0
Stops session counter refusal before now = (keys : Keys) (counts : Bool) (written : Written) → IsUnderWay counts session counter written before
    → StopsAt now.start (files_now now) keys refusal
