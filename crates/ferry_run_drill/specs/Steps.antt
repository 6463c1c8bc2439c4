-- What the steps of the drill leave.
use Rattle.std.specs.Prelude.{false, ◌≡◌, ◌⊎◌, ◌++◌, ℕ, List, [], None, Option, Some, option_map, ◌≤◌}
use Rattle.ferry_carry.specs.Accepting.{AreNextOf}
use Rattle.ferry_carry.specs.Carrying.{Origin}
use Rattle.ferry_carry.specs.Naming.{TaggedRecord, record_ids}
use Rattle.ferry_carry.specs.Telling.{CarriesNames, TellsWhole}
use Rattle.ferry_carry.specs.declared.options.Carried.{Carried}
use Rattle.ferry_disk.specs.Act.{History, files_now}
use Rattle.ferry_disk.specs.Device.{Rose, WritesSome}
use Rattle.ferry_disk.specs.Files.{Files}
use Rattle.ferry_piece.specs.Puts.{Addition}
use Rattle.ferry_repo.specs.Opening.{OpensFilesTo, RepoState, repo_view}
use Rattle.ferry_repo.specs.declared.fault.RepoFault.{RepoFault}
use Rattle.ferry_status.specs.Devices.{Written}
use Rattle.ferry_status.specs.Output.{HasBegun}
use Rattle.ferry_status.specs.declared.status.Status.{Status}
use Rattle.ferry_status.specs.declared.status.Status.TheVariants as Statuses
use Rattle.ferry_status.specs.Status.{bad_line}
use Rattle.ferry_stops.specs.Tells.{lines_of}
use Rattle.ferry_store.specs.Commit.{IsSettled, accepted_in}
use Rattle.ferry_store.specs.New.{OpensNew, first_manifest}
use Rattle.ferry_store.specs.Store.{StoreFits}
use Rattle.ferry_store.specs.declared.fault.StoreRefusal.{StoreRefusal}
use Rattle.ferry_store.specs.declared.fault.StoreRefusal.TheVariants as Stores
use Rattle.ferry_store.specs.declared.store.Store.{Store}
use Rattle.ferry_run_drill.specs.Drill.{IsFree, done_line, drill_time, target_block, target_secret}
use Rattle.ferry_write.specs.Room.{behind}

-- how many pieces are put before what is done is committed
abbrev pub drill_checkpoint : ℕ
drill_checkpoint = 1024

-- the source that archives are copied from
abbrev pub drill_origin : Files → RepoState → Origin
drill_origin source repo = record { files = Some source; repo = repo; block = target_block; most = drill_checkpoint; time = None }

-- A store was made in a target that was free, and which had told no line: it fits, has no archive, nothing is pending, and it has two
-- segments at most.
pub record IsMadeNew (store : Store) (before begun : History) : Type 0 where
  pub free : IsFree (files_now before)
  pub untold : lines_of begun.acts ≡ []
  pub new : OpensNew target_secret (files_now begun)
  pub first : new.repo.manifest ≡ first_manifest drill_time
  pub opens : OpensFilesTo (files_now begun) target_secret (repo_view store.repo)
  pub fits : StoreFits false store begun
  pub settled : IsSettled store
  pub none : store.pending ≡ 0
  pub few : behind store.session.last ≤ 2

-- The archives of these names were copied from a source into a new target.
pub record CopiesNames (source : Files) (repo : RepoState) (names : List (List ℕ)) (carried : Carried) (before now : History) : Type 0 where
  pub store : Store
  pub begun : History
  pub made : IsMadeNew store before begun
  pub store_now : Store
  pub settled_now : IsSettled store_now
  pub none_now : store_now.pending ≡ 0
  pub records : List TaggedRecord
  pub added : List Addition
  pub carries : CarriesNames (drill_origin source repo) names records added store store_now begun now
  pub tells : TellsWhole (accepted_in store) names added carried begun now
  pub accepts : AreNextOf None repo.manifest (accepted_in store) names (record_ids (repo_view store.repo).keys records) (accepted_in store_now)

-- ---- the check

-- A target isn't read: it is refused as it opens or is checked, or memory was refused.
abbrev pub IsUnread : StoreRefusal → Type 0
IsUnread (Stores.Repo fault) = Unit {0}
IsUnread Stores.Memory = Unit {0}
IsUnread refusal = ⊥

-- ---- lines

-- A line was written, all of it at this status, or so much as the output or memory allowed at others.
abbrev pub SendsLine : List ℕ → Status → Written → Status → Written → Type 0
SendsLine text whole before status after =
    ((status ≡ whole) × ((after.bytes ≡ option_map (λ w. w ++ text) before.bytes) × (after.faults ≡ before.faults)))
    ⊎ (((status ≡ Statuses.OutputDevice) × (WritesSome before.bytes text after.bytes × Rose before.faults after.faults))
    ⊎ ((status ≡ Statuses.Memory) × HasBegun (λ sent. sent ≡ text) before after))

-- The line of a drill was written: that of one that is done, or that of a target with this fault.
abbrev pub PrintsLine : ℕ → Carried → Option RepoFault → Written → Status → Written → Type 0
PrintsLine count carried None before status after = SendsLine (done_line count carried) Statuses.Done before status after
PrintsLine count carried (Some fault) before status after = SendsLine (bad_line fault) Statuses.No before status after
