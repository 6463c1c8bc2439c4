-- Lemmas on specs/Delete.antt: why an archive isn't deleted, and that it is where nothing refuses.
use Rattle.std.proofs.Common.{◌≡◌, ◌⊎◌, inl, inr, ℕ, true, false, List, [], Option, Some, None, IfSome, IsSome, refl, sym, ◌∙◌, subst}
use Rattle.ferry_check.specs.Verify.{IsNamed}
use Rattle.ferry_check.specs.Report.{ArchiveRead, AreRead}
use Rattle.ferry_disk.specs.Act.{files_now}
use Rattle.ferry_disk.specs.Device.{Told, told_files}
use Rattle.ferry_disk.specs.Files.{Files}
use Rattle.ferry_disk.specs.Moments.{Between}
use Rattle.ferry_manifest.specs.declared.manifest.ArchiveRef.{ArchiveRef}
use Rattle.ferry_nonce.specs.declared.fault.NonceFault.TheVariants as Nonces
use Rattle.ferry_piece.specs.Fault.{IsOfWork, target_fault}
use Rattle.ferry_piece.specs.declared.fault.CarryFault.{CarryFault}
use Rattle.ferry_piece.specs.declared.fault.CarryFault.TheVariants as Carry
use Rattle.ferry_refs.proofs.LawLemmas.{refs_apart}
use Rattle.ferry_refs.proofs.SameLemmas.{delete_refused_same}
use Rattle.ferry_refs.specs.Deleting.{RefusesDelete, time_of}
use Rattle.ferry_refs.specs.Refs.{AllRead, RefusesRefs}
use Rattle.ferry_repo.proofs.LawLemmas.{one_repo, repo_apart}
use Rattle.ferry_repo.specs.Fault.{IsOfFiles}
use Rattle.ferry_repo.specs.Opening.{OpensFilesTo, RefusesRepo, RepoState, repo_view}
use Rattle.ferry_repo.specs.declared.fault.RepoFault.{RepoFault}
use Rattle.ferry_repo.specs.declared.fault.RepoFault.TheVariants as Repos
use Rattle.ferry_run_delete.proofs.ShowLemmas.{Deletion, lie_before}
use Rattle.ferry_run_delete.specs.Delete.{DeletesDone, LimitsDeletion, RefusesDeletion}
use Rattle.ferry_run_delete.specs.Steps.{GoesAway}
use Rattle.ferry_status.specs.Status.{carry_status, target_status}
use Rattle.ferry_status.specs.Telling.{RefusesTelling}
use Rattle.ferry_status.specs.declared.status.Status.{Status}
use Rattle.ferry_status.specs.declared.status.Status.TheVariants as Statuses
use Rattle.ferry_status.specs.Opened.{IsDoneUnless, OpensNumbered, OpensWith, RefusesChange}
use Rattle.ferry_status.specs.Devices.{IsRefusedBy}
use Rattle.ferry_stops.specs.Counters.{IsNonce}
use Rattle.ferry_store.specs.Causes.{StopsAt}
use Rattle.ferry_store.specs.Store.{OpenFits, OpensFound, RefusesOpen}
use Rattle.ferry_store.specs.declared.fault.StoreRefusal.{StoreRefusal}
use Rattle.ferry_store.specs.declared.fault.StoreRefusal.TheVariants as Stores
use Rattle.ferry_store.specs.declared.store.Store.{Store}
use Rattle.ferry_write.specs.Script.{AllDone}
use Rattle.ferry_write.specs.declared.fault.WriteFault.TheVariants as Writes

-- ---- why an archive isn't deleted

pub unopened_refused : (asked : Deletion) (before now : Option Told) (refusal : StoreRefusal)
    → IfSome before (λ t. RefusesOpen asked.secret (told_files t) refusal)
    → RefusesChange asked.secret (RefusesDeletion asked.name asked.timestamp now) before (target_fault refusal)
unopened_refused asked None now refusal refused = tt
unopened_refused asked (Some t) now refusal refused = λ begun. inl (refusal, (refl, refused))

-- a deletion that was refused behind the opening was so over the files as they were before
pub undeleted_refused : (asked : Deletion) (store : Store) (a b c : Option Told) (fault : CarryFault)
    → IfSome a (λ t. OpensFilesTo (told_files t) asked.secret (repo_view store.repo)) → Between a b (λ h g. AllDone h g × OpenFits store h g)
    → IfSome b (λ t. RefusesDelete (told_files t) (repo_view store.repo) asked.name (time_of asked.timestamp (repo_view store.repo).manifest) c fault)
    → RefusesChange asked.secret (RefusesDeletion asked.name asked.timestamp c) a fault
undeleted_refused asked store None b c fault opens opened refused = tt
undeleted_refused asked store (Some t) b c fault opens opened refused = λ begun.
    let repo = repo_view store.repo in
    let time = time_of asked.timestamp repo.manifest in
    let o : OpensFound false store t.history opened.0.history = opened.2.1 false begun (λ e. absurd (let no : ⊥ = cc in no)) in
    let refused_there : RefusesDelete (files_now opened.0.history) repo asked.name time c fault =
    subst (λ (x : Option Told). IfSome x (λ u. RefusesDelete (told_files u) repo asked.name time c fault)) opened.1 refused in
    inr (record {
      repo = repo;
      opens = opens;
      holds = delete_refused_same (files_now opened.0.history) (told_files t) repo asked.name time c fault
          (lie_before asked store t.history opened.0.history opens false o) refused_there;
    })

-- it was deleted, and that isn't told
told_stops : (now : Option Told) (repo : RepoState) → IfSome now (λ t. StopsAt t.history.start (told_files t) repo.keys (Stores.Write Writes.Device))
told_stops None repo = tt
told_stops (Some t) repo = tt

telling_refuses : (asked : Deletion) (start : Files) (now : Option Told) (repo : RepoState) (refusal : StoreRefusal) → IsNamed repo asked.name
    → AllRead start repo → RefusesTelling refusal → RefusesDelete start repo asked.name (time_of asked.timestamp repo.manifest) now (target_fault refusal)
telling_refuses asked start now repo (Stores.Write Writes.Device) there read refused = (there, (read, told_stops now repo))
telling_refuses asked start now repo (Stores.Write Writes.Memory) there read refused = absurd refused
telling_refuses asked start now repo (Stores.Write Writes.Numbers) there read refused = absurd refused
telling_refuses asked start now repo Stores.Memory there read refused = tt
telling_refuses asked start now repo (Stores.Repo fault) there read refused = absurd refused
telling_refuses asked start now repo (Stores.Nonce fault) there read refused = absurd refused
telling_refuses asked start now repo Stores.Committed there read refused = absurd refused
telling_refuses asked start now repo Stores.TooLarge there read refused = absurd refused
telling_refuses asked start now repo Stores.Entropy there read refused = absurd refused

pub untold_refused : (asked : Deletion) (count : ℕ) (a b c : Option Told) (refusal : StoreRefusal)
    → Between a b (λ h g. AllDone h g × GoesAway asked.secret asked.name asked.timestamp count h g) → RefusesTelling refusal
    → RefusesChange asked.secret (RefusesDeletion asked.name asked.timestamp c) a (target_fault refusal)
untold_refused asked count None b c refusal deleted refused = tt
untold_refused asked count (Some t) b c refusal deleted refused = λ begun.
    let gone = deleted.2.1 begun in
    inr (record {
      repo = gone.repo;
      opens = gone.opens;
      holds = telling_refuses asked (told_files t) c gone.repo refusal gone.there (gone.going.reads, gone.going.are_read) refused;
    })

-- a line that isn't told is no refusal of what was asked for
pub untold_kept : (refusal : StoreRefusal) → RefusesTelling refusal → IsOfWork (target_fault refusal) → ⊥
untold_kept (Stores.Write Writes.Device) refused work = let e : true ≡ false = work.target in let no : ⊥ = cc in no
untold_kept (Stores.Write Writes.Memory) refused work = refused
untold_kept (Stores.Write Writes.Numbers) refused work = refused
untold_kept Stores.Memory refused work = work.memory refl
untold_kept (Stores.Repo fault) refused work = refused
untold_kept (Stores.Nonce fault) refused work = refused
untold_kept Stores.Committed refused work = refused
untold_kept Stores.TooLarge refused work = refused
untold_kept Stores.Entropy refused work = refused

-- ---- where nothing refuses

-- what is asked is there
module _ (asked : Deletion) (start : Files) (now : Told) (ready : OpensNumbered asked.secret start)
    (there : IsNamed ready.repo asked.name) (reads : List ArchiveRead) (are_read : AreRead start ready.repo ready.repo.manifest.archives reads) where
  opened_ends : (fault : RepoFault) → RefusesRepo start asked.secret fault
      → IsDoneUnless (LimitsDeletion asked.name asked.timestamp ready.repo now.history.start (told_files now)) (λ _. ⊥) (target_status fault)
  opened_ends Repos.NoCommit refused = absurd (repo_apart start asked.secret ready.repo Repos.NoCommit ready.opens tt refused)
  opened_ends (Repos.Damaged segment at) refused = absurd (repo_apart start asked.secret ready.repo (Repos.Damaged segment at) ready.opens tt refused)
  opened_ends (Repos.Config cause) refused = absurd (repo_apart start asked.secret ready.repo (Repos.Config cause) ready.opens tt refused)
  opened_ends (Repos.Key cause) refused = absurd (repo_apart start asked.secret ready.repo (Repos.Key cause) ready.opens tt refused)
  opened_ends (Repos.Missing id) refused = absurd (repo_apart start asked.secret ready.repo (Repos.Missing id) ready.opens tt refused)
  opened_ends (Repos.Blob id cause) refused = absurd (repo_apart start asked.secret ready.repo (Repos.Blob id cause) ready.opens tt refused)
  opened_ends (Repos.Manifest cause) refused = absurd (repo_apart start asked.secret ready.repo (Repos.Manifest cause) ready.opens tt refused)
  opened_ends (Repos.Archive id cause) refused = absurd (repo_apart start asked.secret ready.repo (Repos.Archive id cause) ready.opens tt refused)
  opened_ends (Repos.Item id cause) refused = absurd (repo_apart start asked.secret ready.repo (Repos.Item id cause) ready.opens tt refused)
  opened_ends (Repos.Size id) refused = absurd (repo_apart start asked.secret ready.repo (Repos.Size id) ready.opens tt refused)
  opened_ends (Repos.KeyFile cause) refused = absurd (repo_apart start asked.secret ready.repo (Repos.KeyFile cause) ready.opens tt refused)
  opened_ends (Repos.Other file config) refused = absurd (repo_apart start asked.secret ready.repo (Repos.Other file config) ready.opens tt refused)
  opened_ends Repos.NoKey refused = absurd (repo_apart start asked.secret ready.repo Repos.NoKey ready.opens tt refused)
  opened_ends Repos.Device refused = tt
  opened_ends Repos.Memory refused = tt

  begun_ends : (refusal : StoreRefusal) → RefusesOpen asked.secret start refusal
      → IsDoneUnless (LimitsDeletion asked.name asked.timestamp ready.repo now.history.start (told_files now)) (λ _. ⊥) (carry_status (target_fault refusal))
  begun_ends (Stores.Repo fault) refused = opened_ends fault refused
  begun_ends (Stores.Write Writes.Device) refused = tt
  begun_ends (Stores.Write Writes.Memory) refused = tt
  begun_ends (Stores.Write Writes.Numbers) refused = absurd refused
  begun_ends (Stores.Nonce Nonces.Missing) refused =
      absurd (let e : None ≡ Some ready.nonce.text = sym refused.1.0 ∙ ready.nonce.nonce in let no : ⊥ = cc in no)
  begun_ends (Stores.Nonce Nonces.Text) refused =
      absurd (refused.1 ready.nonce.number (subst (λ (o : Option (List ℕ)). IsNonce o ready.nonce.number) (sym ready.nonce.nonce) ready.nonce.spelled))
  begun_ends (Stores.Nonce Nonces.Exhausted) refused = absurd refused.1
  begun_ends (Stores.Nonce Nonces.Device) refused = tt
  begun_ends (Stores.Nonce Nonces.Memory) refused = tt
  begun_ends Stores.Committed refused = absurd refused
  begun_ends Stores.TooLarge refused = absurd refused
  begun_ends Stores.Entropy refused = tt
  begun_ends Stores.Memory refused = tt

  -- the record and the stream of each archive read
  all_read : (fault : RepoFault) → IsOfFiles fault → RefusesRefs start ready.repo fault → ⊥
  all_read fault of refused =
      refs_apart start ready.repo [] _ fault (record { reads = reads; are_read = are_read; count_is = refl }) of refused

  abbrev Refuses : CarryFault → Type 0
  Refuses fault = RefusesDelete start ready.repo asked.name (time_of asked.timestamp ready.repo.manifest) (Some now) fault

  deleting_read : (fault : RepoFault) → IsNamed ready.repo asked.name × (IsOfFiles fault × RefusesRefs start ready.repo fault) → ⊥
  deleting_read fault refused = all_read fault refused.1.0 refused.1.1

  deleting_ends : (fault : CarryFault) → Refuses fault
      → IsDoneUnless (LimitsDeletion asked.name asked.timestamp ready.repo now.history.start (told_files now)) (λ _. ⊥) (carry_status fault)
  deleting_ends (Carry.NotFound missing) refused =
      absurd (let e : false ≡ true = subst (λ (o : Option ArchiveRef). IsSome o) refused.1 there in let no : ⊥ = cc in no)
  deleting_ends (Carry.Target (Stores.Repo Repos.NoCommit)) refused = absurd (deleting_read Repos.NoCommit refused)
  deleting_ends (Carry.Target (Stores.Repo (Repos.Damaged segment at))) refused = absurd (deleting_read (Repos.Damaged segment at) refused)
  deleting_ends (Carry.Target (Stores.Repo (Repos.Config cause))) refused = absurd (deleting_read (Repos.Config cause) refused)
  deleting_ends (Carry.Target (Stores.Repo (Repos.Key cause))) refused = absurd (deleting_read (Repos.Key cause) refused)
  deleting_ends (Carry.Target (Stores.Repo (Repos.Missing id))) refused = absurd (deleting_read (Repos.Missing id) refused)
  deleting_ends (Carry.Target (Stores.Repo (Repos.Blob id cause))) refused = absurd (deleting_read (Repos.Blob id cause) refused)
  deleting_ends (Carry.Target (Stores.Repo (Repos.Manifest cause))) refused = absurd (deleting_read (Repos.Manifest cause) refused)
  deleting_ends (Carry.Target (Stores.Repo (Repos.Archive id cause))) refused = absurd (deleting_read (Repos.Archive id cause) refused)
  deleting_ends (Carry.Target (Stores.Repo (Repos.Item id cause))) refused = absurd (deleting_read (Repos.Item id cause) refused)
  deleting_ends (Carry.Target (Stores.Repo (Repos.Size id))) refused = absurd (deleting_read (Repos.Size id) refused)
  deleting_ends (Carry.Target (Stores.Repo (Repos.KeyFile cause))) refused = absurd (deleting_read (Repos.KeyFile cause) refused)
  deleting_ends (Carry.Target (Stores.Repo (Repos.Other file config))) refused = absurd (deleting_read (Repos.Other file config) refused)
  deleting_ends (Carry.Target (Stores.Repo Repos.NoKey)) refused = absurd (deleting_read Repos.NoKey refused)
  deleting_ends (Carry.Target (Stores.Repo Repos.Device)) refused = tt
  deleting_ends (Carry.Target (Stores.Repo Repos.Memory)) refused = tt
  deleting_ends (Carry.Target (Stores.Write Writes.Device)) refused = tt
  deleting_ends (Carry.Target (Stores.Write Writes.Memory)) refused = tt
  deleting_ends (Carry.Target (Stores.Write Writes.Numbers)) refused = refused.1.1
  deleting_ends (Carry.Target (Stores.Nonce Nonces.Missing)) refused = absurd refused.1.1
  deleting_ends (Carry.Target (Stores.Nonce Nonces.Text)) refused = absurd refused.1.1
  deleting_ends (Carry.Target (Stores.Nonce Nonces.Exhausted)) refused = refused.1.1
  deleting_ends (Carry.Target (Stores.Nonce Nonces.Device)) refused = tt
  deleting_ends (Carry.Target (Stores.Nonce Nonces.Memory)) refused = tt
  deleting_ends (Carry.Target Stores.Committed) refused = absurd refused.1.1
  deleting_ends (Carry.Target Stores.TooLarge) refused = refused.1.1
  deleting_ends (Carry.Target Stores.Entropy) refused = tt
  deleting_ends (Carry.Target Stores.Memory) refused = tt
  deleting_ends Carry.Memory refused = tt
  deleting_ends (Carry.Source fault) refused = absurd refused
  deleting_ends (Carry.Taken name) refused = absurd refused
  deleting_ends Carry.Pieces refused = absurd refused
  deleting_ends Carry.Record refused = absurd refused

  refused_ends : (fault : CarryFault)
      → ((refusal : StoreRefusal) × ((fault ≡ target_fault refusal) × RefusesOpen asked.secret start refusal)) ⊎ OpensWith asked.secret
      (λ files repo. RefusesDeletion asked.name asked.timestamp (Some now) files repo fault) start
      → IsDoneUnless (LimitsDeletion asked.name asked.timestamp ready.repo now.history.start (told_files now)) (λ _. ⊥) (carry_status fault)
  refused_ends fault (inl refused) =
      subst (λ (f : CarryFault). IsDoneUnless (LimitsDeletion asked.name asked.timestamp ready.repo now.history.start (told_files now)) (λ _. ⊥)
      (carry_status f)) (sym refused.1.0)
      (begun_ends refused.0 refused.1.1)
  refused_ends fault (inr refused) =
      deleting_ends fault
      (subst (λ (r : RepoState). RefusesDelete start r asked.name (time_of asked.timestamp r.manifest) (Some now) fault)
      (one_repo start asked.secret refused.repo ready.repo refused.opens ready.opens) refused.holds)

pub deletes_done : (asked : Deletion) (before now : Option Told) (status : Status)
    → (status ≡ Statuses.Done) ⊎ IsRefusedBy carry_status (RefusesChange asked.secret (RefusesDeletion asked.name asked.timestamp now) before) status
    → DeletesDone asked.secret asked.name asked.timestamp before now status
deletes_done asked None now status end = tt
deletes_done asked (Some b) None status end = tt
deletes_done asked (Some b) (Some t) status (inl done) = λ begun ready there reads are_read.
    subst (IsDoneUnless (LimitsDeletion asked.name asked.timestamp ready.repo t.history.start (told_files t)) (λ _. ⊥)) (sym done) tt
deletes_done asked (Some b) (Some t) status (inr refused) = λ begun ready there reads are_read.
    subst (IsDoneUnless (LimitsDeletion asked.name asked.timestamp ready.repo t.history.start (told_files t)) (λ _. ⊥)) (sym refused.status_is)
    (refused_ends asked (told_files b) t ready there reads are_read refused.fault (refused.refuses begun))
