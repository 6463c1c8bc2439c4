-- A transfer whose target wasn't opened, or wasn't touched, and what is known at its end.
use Rattle.std.proofs.Common.{◌≡◌, ℕ, suc, map, false, List, Option, Some, Ok}
use Rattle.std.proofs.Common.{Err, refl}
use Rattle.ferry_piece.proofs.WorkLemmas.{works_err, works_nothing}
use Rattle.ferry_piece.specs.Work.{Works}
use Rattle.ferry_piece.specs.declared.fault.CarryFault.{CarryFault}
use Rattle.ferry_piece.specs.Fault.{target_failed as depot_failed, target_fault}
use Rattle.ferry_disk.proofs.MomentLemmas.{between_map}
use Rattle.ferry_disk.specs.Act.{History, files_now}
use Rattle.ferry_disk.specs.Device.{Told}
use Rattle.ferry_disk.specs.Files.{Files}
use Rattle.ferry_disk.specs.Moments.{Between}
use Rattle.ferry_log.specs.Log.{Located}
use Rattle.ferry_repo.specs.Opening.{OpensFilesTo, RepoState}
use Rattle.ferry_repo.specs.declared.secret.Secret.{Secret}
use Rattle.ferry_segment.specs.Entry.{LogEntry}
use Rattle.ferry_stops.proofs.EntryLemmas.{log_shown}
use Rattle.ferry_stops.specs.Entries.{Shows}
use Rattle.ferry_stops.specs.Tells.{TellsNothing}
use Rattle.ferry_store.proofs.OpenLemmas.{each_here}
use Rattle.ferry_store.specs.State.{Did}
use Rattle.ferry_store.specs.Store.{OpenEach}
use Rattle.ferry_store.specs.declared.fault.StoreRefusal.{StoreRefusal}
use Rattle.ferry_store.specs.declared.store.Store.{Store}
use Rattle.ferry_run_transfer.specs.Transfer.{Request, TransferEach, TransferEnds}
use Rattle.ferry_write.specs.Script.{AllDone}
use Rattle.ferry_run_transfer.proofs.TransferLemmas.{shows_opened}

-- the entries that files show which open
pub entries_of_files : (files : Files) (secret : Secret) (repo : RepoState) → OpensFilesTo files secret repo
    → (entries : List LogEntry) × Shows files (Some entries)
entries_of_files files secret repo opens =
    let reads = opens.opens.unlocks.reads in
    (map (λ (e : Located). e.entry) reads.log, (suc repo.log.transaction, log_shown files repo.log.transaction reads.log reads.is))

-- an opening that was refused
pub each_unopened : (request : Request) (h g : History) → TellsNothing h g → OpenEach h g → TransferEach request h g
each_unopened request h g untold each = (
  λ begun repo opens.
      let shown = entries_of_files (files_now h) request.secrets.target repo opens in shows_opened request h g shown.0 shown.1 untold each begun repo
      opens,
  each.1,
)

pub unopened : {T : Type 0} (request : Request) (x y : Option (List ℕ)) (Q : Store → History → History → Type 0) (a b : Option Told) (n m : ℕ) (refusal :
    StoreRefusal)
    → Between a b TellsNothing → Did OpenEach Q a b n m (Err refusal)
    → Works (TransferEach request) (λ (_ : T). TransferEnds request x y) a b n m (Err (target_fault refusal))
unopened {T} request x y Q a b n m refusal untold opened =
    works_err OpenEach Q (TransferEach request) (λ (_ : T). TransferEnds request x y) a b n m refusal
    (λ h g none each. each_unopened request h g none each) untold opened

-- where the target wasn't touched
pub each_untouched : (request : Request) (h : History) → TransferEach request h h
each_untouched request h = each_unopened request h h refl (each_here h)

pub untouched : {T : Type 0} (request : Request) (x y : Option (List ℕ)) (a : Option Told) (n : ℕ) (fault : CarryFault) → depot_failed fault ≡ false
    → Works (TransferEach request) (λ (_ : T). TransferEnds request x y) a a n n (Err fault)
untouched {T} request x y a n fault still =
    works_nothing (TransferEach request) (λ (_ : T). TransferEnds request x y) a n fault still (each_untouched request)

-- what is known at the end
pub transfer_ended : {T : Type 0} (request : Request) (x y : Option (List ℕ)) (a b : Option Told) (n m : ℕ) (value : T)
    → Works (TransferEach request) (λ (_ : T). TransferEnds request x y) a b n m (Ok value) → Between a b (TransferEnds request x y)
transfer_ended {T} request x y a b n m value works =
    between_map a b (λ h g. AllDone h g × TransferEnds request x y h g) (TransferEnds request x y) (λ h g e. e.1) works.end
