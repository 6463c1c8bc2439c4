-- A transfer beside a plan: whether one of its pieces is a record, and whether it put what was planned.
use Rattle.std.specs.Prelude.{◌≡◌, ◌≢◌, ℕ, List, Option, Some, filter}
use Rattle.ferry_blob.specs.Blob.{content_id}
use Rattle.ferry_carry.specs.Carrying.{Origin}
use Rattle.ferry_carry.specs.declared.options.Carried.{Carried}
use Rattle.ferry_disk.specs.Files.{Files}
use Rattle.ferry_mac.specs.declared.keys.Keys.{Keys}
use Rattle.ferry_piece.specs.Gather.{IsAmong}
use Rattle.ferry_piece.specs.Puts.{Addition, Record, contents_in, is_piece, same_kind}
use Rattle.ferry_plan.specs.declared.planning.Planned.{Planned}
use Rattle.ferry_repo.specs.Opening.{RepoState}

-- the same source for a transfer, of which so many pieces may be pending, and whose manifests have this time, where it is given
abbrev pub transfer_from : Files → RepoState → ℕ → ℕ → Option (List ℕ) → Origin
transfer_from there source block most time = record { files = Some there; repo = source; block = block; most = most; time = time }

-- those of these that are pieces of contents and of item streams
abbrev pub pieces_in : List Addition → List Addition
pieces_in added = filter (λ (one : Addition). is_piece one.kind) added

-- those of these that are records of archives
abbrev pub records_in : List Addition → List Addition
records_in added = filter (λ (one : Addition). same_kind Record one.kind) added

-- No piece of these has the id of a record of these.
abbrev pub HaveOtherIds : Keys → List Addition → Type 0
HaveOtherIds keys added = (piece text : List ℕ) → IsAmong (contents_in (pieces_in added)) piece → IsAmong (contents_in (records_in added)) text
    → content_id keys piece ≢ content_id keys text

-- No piece of these is a record of these.
abbrev pub AreNoRecords : List Addition → Type 0
AreNoRecords added = (piece text : List ℕ) → IsAmong (contents_in (pieces_in added)) piece → IsAmong (contents_in (records_in added)) text → piece ≢ text

-- The numbers of a transfer are those of a plan.
pub record PutsPlanned (planned : Planned) (carried : Carried) : Type 0 where
  pub chunks : carried.chunks ≡ planned.chunks
  pub bytes : carried.bytes ≡ planned.bytes
  pub meta : carried.meta ≡ planned.meta
