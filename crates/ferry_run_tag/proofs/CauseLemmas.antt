-- Lemmas on specs/Tag.antt: why archives aren't tagged, and that they are where nothing refuses.
use Rattle.std.proofs.Common.{◌≡◌, ◌⊎◌, inl, inr, ℕ, true, false, List, [], Option, Some, None, IfSome, refl, sym, ◌∙◌, subst}
use Rattle.ferry_disk.specs.Act.{files_now}
use Rattle.ferry_disk.specs.Device.{Told, told_files}
use Rattle.ferry_disk.specs.Files.{Files}
use Rattle.ferry_disk.specs.Moments.{Between}
use Rattle.ferry_nonce.specs.declared.fault.NonceFault.TheVariants as Nonces
use Rattle.ferry_piece.specs.Fault.{IsOfWork, target_fault}
use Rattle.ferry_piece.specs.declared.fault.CarryFault.{CarryFault}
use Rattle.ferry_piece.specs.declared.fault.CarryFault.TheVariants as Carry
use Rattle.ferry_refs.proofs.LawLemmas.{refs_apart}
use Rattle.ferry_refs.proofs.TagSameLemmas.{new_record_same, tag_refused_same}
use Rattle.ferry_refs.specs.Deleting.{time_of}
use Rattle.ferry_refs.specs.Tagging.{IsOfNewRecord, RefusesTagging}
use Rattle.ferry_refs.specs.Refs.{RefusesRefs}
use Rattle.ferry_repo.proofs.LawLemmas.{one_repo, repo_apart}
use Rattle.ferry_repo.specs.Fault.{IsOfFiles}
use Rattle.ferry_repo.specs.Opening.{OpensFilesTo, RefusesRepo, RepoState, repo_view}
use Rattle.ferry_repo.specs.declared.fault.RepoFault.{RepoFault}
use Rattle.ferry_repo.specs.declared.fault.RepoFault.TheVariants as Repos
use Rattle.ferry_run_tag.proofs.ShowLemmas.{Tagging, lie_before}
use Rattle.ferry_run_tag.specs.Tag.{BreaksNew, BreaksRecord, LimitsTagging, RefusesTags, TagsDone}
use Rattle.ferry_run_tag.specs.Steps.{GetsTags}
use Rattle.ferry_status.specs.Status.{carry_status, target_status}
use Rattle.ferry_status.specs.Telling.{RefusesTelling}
use Rattle.ferry_status.specs.declared.status.Status.{Status}
use Rattle.ferry_status.specs.declared.status.Status.TheVariants as Statuses
use Rattle.ferry_status.specs.Opened.{IsDoneUnless, OpensNumbered, OpensWith, RefusesChange}
use Rattle.ferry_status.specs.Devices.{IsRefusedBy}
use Rattle.ferry_stops.specs.Counters.{IsNonce}
use Rattle.ferry_store.specs.Causes.{StopsAt}
use Rattle.ferry_store.specs.Store.{OpenFits, OpensFound, RefusesOpen}
use Rattle.ferry_store.specs.declared.fault.StoreRefusal.{StoreRefusal}
use Rattle.ferry_store.specs.declared.fault.StoreRefusal.TheVariants as Stores
use Rattle.ferry_store.specs.declared.store.Store.{Store}
use Rattle.ferry_store.proofs.StepLemmas.{before_same}
use Rattle.ferry_write.specs.Front.{OnlyRemoves}
use Rattle.ferry_write.specs.Script.{AllDone}
use Rattle.ferry_write.specs.declared.fault.WriteFault.TheVariants as Writes
use Rattle.ferry_check.specs.Report.{ArchiveRead, AreRead}

-- ---- why archives aren't tagged

pub unopened_refused : (asked : Tagging) (before now : Option Told) (refusal : StoreRefusal)
    → IfSome before (λ t. RefusesOpen asked.secret (told_files t) refusal)
    → RefusesChange asked.secret (RefusesTags asked.timestamp asked.drawn asked.drawn_now now) before (target_fault refusal)
unopened_refused asked None now refusal refused = tt
unopened_refused asked (Some t) now refusal refused = λ begun. inl (refusal, (refl, refused))

-- a tagging that was refused behind the opening was so over the files as they were before
pub untagged_refused : (asked : Tagging) (store : Store) (a b c : Option Told) (fault : CarryFault)
    → IfSome a (λ t. OpensFilesTo (told_files t) asked.secret (repo_view store.repo)) → Between a b (λ h g. AllDone h g × OpenFits store h g)
    → IfSome b (λ t. RefusesTagging (told_files t) (repo_view store.repo) (time_of asked.timestamp
    (repo_view store.repo).manifest) asked.drawn asked.drawn_now c fault)
    → RefusesChange asked.secret (RefusesTags asked.timestamp asked.drawn asked.drawn_now c) a fault
untagged_refused asked store None b c fault opens opened refused = tt
untagged_refused asked store (Some t) b c fault opens opened refused = λ begun.
    let repo = repo_view store.repo in
    let time = time_of asked.timestamp repo.manifest in
    let o : OpensFound false store t.history opened.0.history = opened.2.1 false begun (λ e. absurd (let no : ⊥ = cc in no)) in
    let refused_there : RefusesTagging (files_now opened.0.history) repo time asked.drawn asked.drawn_now c fault =
    subst (λ (x : Option Told). IfSome x (λ u. RefusesTagging (told_files u) repo time asked.drawn asked.drawn_now c fault)) opened.1 refused in
    inr (record {
      repo = repo;
      opens = opens;
      holds = tag_refused_same (files_now opened.0.history) (told_files t) repo time asked.drawn asked.drawn_now c fault
          (lie_before asked store t.history opened.0.history opens false o) refused_there;
    })

-- a tagging that was refused for what it read appended nothing, but where a chunk is live under the id of a new record
pub unwritten_then : (asked : Tagging) (store : Store) (a b c : Option Told) (fault : CarryFault) → IfSome a (λ t. t.history.acts ≡ [])
    → IfSome a (λ t. OpensFilesTo (told_files t) asked.secret (repo_view store.repo)) → Between a b (λ h g. AllDone h g × OpenFits store h g)
    → Between a b OnlyRemoves
    → (Between b c (λ h g. g ≡ h) ⊎ IfSome b (λ t. IsOfNewRecord (told_files t) (repo_view store.repo) asked.drawn asked.drawn_now c fault))
    → Between a c OnlyRemoves ⊎ BreaksRecord asked.secret asked.drawn asked.drawn_now a c fault
unwritten_then asked store a b c fault begun opens opened removes (inl same) = inl (before_same OnlyRemoves a b c removes same)
unwritten_then asked store None b c fault begun opens opened removes (inr new) = inr tt
unwritten_then asked store (Some t) b c fault begun opens opened removes (inr new) =
    let repo = repo_view store.repo in
    let o : OpensFound false store t.history opened.0.history = opened.2.1 false begun (λ e. absurd (let no : ⊥ = cc in no)) in
    let there : IsOfNewRecord (files_now opened.0.history) repo asked.drawn asked.drawn_now c fault =
    subst (λ (x : Option Told). IfSome x (λ u. IsOfNewRecord (told_files u) repo asked.drawn asked.drawn_now c fault)) opened.1 new in
    inr (record {
      repo = repo;
      opens = opens;
      holds = new_record_same (files_now opened.0.history) (told_files t) repo asked.drawn asked.drawn_now c fault
          (lie_before asked store t.history opened.0.history opens false o) there;
    })

pub refused_unwritten : (asked : Tagging) (a c : Option Told) (fault : CarryFault) (status : Status) → status ≡ carry_status fault
    → (Between a c OnlyRemoves ⊎ BreaksRecord asked.secret asked.drawn asked.drawn_now a c fault)
    → Between a c OnlyRemoves ⊎ IsRefusedBy carry_status (BreaksRecord asked.secret asked.drawn asked.drawn_now a c) status
refused_unwritten asked a c fault status is (inl removes) = inl removes
refused_unwritten asked a c fault status is (inr breaks) = inr (record { fault = fault; status_is = is; refuses = breaks })

-- they were tagged, and that isn't told
told_stops : (now : Option Told) (repo : RepoState) → IfSome now (λ t. StopsAt t.history.start (told_files t) repo.keys (Stores.Write Writes.Device))
told_stops None repo = tt
told_stops (Some t) repo = tt

telling_refuses : (asked : Tagging) (start : Files) (now : Option Told) (repo : RepoState) (refusal : StoreRefusal) → RefusesTelling refusal
    → RefusesTagging start repo (time_of asked.timestamp repo.manifest) asked.drawn asked.drawn_now now (target_fault refusal)
telling_refuses asked start now repo (Stores.Write Writes.Device) refused = told_stops now repo
telling_refuses asked start now repo (Stores.Write Writes.Memory) refused = absurd refused
telling_refuses asked start now repo (Stores.Write Writes.Numbers) refused = absurd refused
telling_refuses asked start now repo Stores.Memory refused = tt
telling_refuses asked start now repo (Stores.Repo fault) refused = absurd refused
telling_refuses asked start now repo (Stores.Nonce fault) refused = absurd refused
telling_refuses asked start now repo Stores.Committed refused = absurd refused
telling_refuses asked start now repo Stores.TooLarge refused = absurd refused
telling_refuses asked start now repo Stores.Entropy refused = absurd refused

pub untold_refused : (asked : Tagging) (count : ℕ) (a b c : Option Told) (refusal : StoreRefusal)
    → Between a b (λ h g. AllDone h g × GetsTags asked.secret asked.timestamp asked.drawn asked.drawn_now count h g) → RefusesTelling refusal
    → RefusesChange asked.secret (RefusesTags asked.timestamp asked.drawn asked.drawn_now c) a (target_fault refusal)
untold_refused asked count None b c refusal tagged refused = tt
untold_refused asked count (Some t) b c refusal tagged refused = λ begun.
    let tags = tagged.2.1 begun in
    inr (record {
      repo = tags.repo;
      opens = tags.opens;
      holds = telling_refuses asked (told_files t) c tags.repo refusal refused;
    })

-- a line that isn't told is no refusal of what was asked for
pub untold_kept : (refusal : StoreRefusal) → RefusesTelling refusal → IsOfWork (target_fault refusal) → ⊥
untold_kept (Stores.Write Writes.Device) refused work = let e : true ≡ false = work.target in let no : ⊥ = cc in no
untold_kept (Stores.Write Writes.Memory) refused work = refused
untold_kept (Stores.Write Writes.Numbers) refused work = refused
untold_kept Stores.Memory refused work = work.memory refl
untold_kept (Stores.Repo fault) refused work = refused
untold_kept (Stores.Nonce fault) refused work = refused
untold_kept Stores.Committed refused work = refused
untold_kept Stores.TooLarge refused work = refused
untold_kept Stores.Entropy refused work = refused

-- ---- where nothing refuses

-- what is asked is there
module _ (asked : Tagging) (start : Files) (now : Told) (ready : OpensNumbered asked.secret start)
    (reads : List ArchiveRead) (are_read : AreRead start ready.repo ready.repo.manifest.archives reads) where
  opened_ends : (fault : RepoFault) → RefusesRepo start asked.secret fault
      → IsDoneUnless (LimitsTagging asked.timestamp ready.repo start now.history.start (told_files now))
      (BreaksNew start ready.repo asked.drawn asked.drawn_now (told_files now))
      (target_status fault)
  opened_ends Repos.NoCommit refused = absurd (repo_apart start asked.secret ready.repo Repos.NoCommit ready.opens tt refused)
  opened_ends (Repos.Damaged segment at) refused = absurd (repo_apart start asked.secret ready.repo (Repos.Damaged segment at) ready.opens tt refused)
  opened_ends (Repos.Config cause) refused = absurd (repo_apart start asked.secret ready.repo (Repos.Config cause) ready.opens tt refused)
  opened_ends (Repos.Key cause) refused = absurd (repo_apart start asked.secret ready.repo (Repos.Key cause) ready.opens tt refused)
  opened_ends (Repos.Missing id) refused = absurd (repo_apart start asked.secret ready.repo (Repos.Missing id) ready.opens tt refused)
  opened_ends (Repos.Blob id cause) refused = absurd (repo_apart start asked.secret ready.repo (Repos.Blob id cause) ready.opens tt refused)
  opened_ends (Repos.Manifest cause) refused = absurd (repo_apart start asked.secret ready.repo (Repos.Manifest cause) ready.opens tt refused)
  opened_ends (Repos.Archive id cause) refused = absurd (repo_apart start asked.secret ready.repo (Repos.Archive id cause) ready.opens tt refused)
  opened_ends (Repos.Item id cause) refused = absurd (repo_apart start asked.secret ready.repo (Repos.Item id cause) ready.opens tt refused)
  opened_ends (Repos.Size id) refused = absurd (repo_apart start asked.secret ready.repo (Repos.Size id) ready.opens tt refused)
  opened_ends (Repos.KeyFile cause) refused = absurd (repo_apart start asked.secret ready.repo (Repos.KeyFile cause) ready.opens tt refused)
  opened_ends (Repos.Other file config) refused = absurd (repo_apart start asked.secret ready.repo (Repos.Other file config) ready.opens tt refused)
  opened_ends Repos.NoKey refused = absurd (repo_apart start asked.secret ready.repo Repos.NoKey ready.opens tt refused)
  opened_ends Repos.Device refused = tt
  opened_ends Repos.Memory refused = tt

  begun_ends : (refusal : StoreRefusal) → RefusesOpen asked.secret start refusal
      → IsDoneUnless (LimitsTagging asked.timestamp ready.repo start now.history.start (told_files now))
      (BreaksNew start ready.repo asked.drawn asked.drawn_now (told_files now))
      (carry_status (target_fault refusal))
  begun_ends (Stores.Repo fault) refused = opened_ends fault refused
  begun_ends (Stores.Write Writes.Device) refused = tt
  begun_ends (Stores.Write Writes.Memory) refused = tt
  begun_ends (Stores.Write Writes.Numbers) refused = absurd refused
  begun_ends (Stores.Nonce Nonces.Missing) refused =
      absurd (let e : None ≡ Some ready.nonce.text = sym refused.1.0 ∙ ready.nonce.nonce in let no : ⊥ = cc in no)
  begun_ends (Stores.Nonce Nonces.Text) refused =
      absurd (refused.1 ready.nonce.number (subst (λ (o : Option (List ℕ)). IsNonce o ready.nonce.number) (sym ready.nonce.nonce) ready.nonce.spelled))
  begun_ends (Stores.Nonce Nonces.Exhausted) refused = absurd refused.1
  begun_ends (Stores.Nonce Nonces.Device) refused = tt
  begun_ends (Stores.Nonce Nonces.Memory) refused = tt
  begun_ends Stores.Committed refused = absurd refused
  begun_ends Stores.TooLarge refused = absurd refused
  begun_ends Stores.Entropy refused = tt
  begun_ends Stores.Memory refused = tt

  -- the record and the stream of each archive read
  all_read : (fault : RepoFault) → IsOfFiles fault → RefusesRefs start ready.repo fault → ⊥
  all_read fault of refused =
      refs_apart start ready.repo [] _ fault (record { reads = reads; are_read = are_read; count_is = refl }) of refused

  abbrev Refuses : CarryFault → Type 0
  Refuses fault = RefusesTagging start ready.repo (time_of asked.timestamp ready.repo.manifest) asked.drawn asked.drawn_now (Some now) fault

  abbrev Ends : CarryFault → Type 0
  Ends fault =
      IsDoneUnless (LimitsTagging asked.timestamp ready.repo start now.history.start (told_files now))
      (BreaksNew start ready.repo asked.drawn asked.drawn_now (told_files now))
      (carry_status fault)

  tagging_read : (fault : RepoFault) → IsOfFiles fault × RefusesRefs start ready.repo fault → ⊥
  tagging_read fault refused = all_read fault refused.0 refused.1

  tagging_ends : (fault : CarryFault) → Refuses fault → Ends fault
  tagging_ends (Carry.Target (Stores.Repo (Repos.Blob id cause))) (inl refused) = absurd (all_read (Repos.Blob id cause) tt refused)
  tagging_ends (Carry.Target (Stores.Repo (Repos.Blob id cause))) (inr refused) = refused
  tagging_ends (Carry.Target (Stores.Repo Repos.NoCommit)) refused = absurd (tagging_read Repos.NoCommit refused)
  tagging_ends (Carry.Target (Stores.Repo (Repos.Damaged segment at))) refused = absurd (tagging_read (Repos.Damaged segment at) refused)
  tagging_ends (Carry.Target (Stores.Repo (Repos.Config cause))) refused = absurd (tagging_read (Repos.Config cause) refused)
  tagging_ends (Carry.Target (Stores.Repo (Repos.Key cause))) refused = absurd (tagging_read (Repos.Key cause) refused)
  tagging_ends (Carry.Target (Stores.Repo (Repos.Missing id))) refused = absurd (tagging_read (Repos.Missing id) refused)
  tagging_ends (Carry.Target (Stores.Repo (Repos.Manifest cause))) refused = absurd (tagging_read (Repos.Manifest cause) refused)
  tagging_ends (Carry.Target (Stores.Repo (Repos.Archive id cause))) refused = absurd (tagging_read (Repos.Archive id cause) refused)
  tagging_ends (Carry.Target (Stores.Repo (Repos.Item id cause))) refused = absurd (tagging_read (Repos.Item id cause) refused)
  tagging_ends (Carry.Target (Stores.Repo (Repos.Size id))) refused = absurd (tagging_read (Repos.Size id) refused)
  tagging_ends (Carry.Target (Stores.Repo (Repos.KeyFile cause))) refused = absurd (tagging_read (Repos.KeyFile cause) refused)
  tagging_ends (Carry.Target (Stores.Repo (Repos.Other file config))) refused = absurd (tagging_read (Repos.Other file config) refused)
  tagging_ends (Carry.Target (Stores.Repo Repos.NoKey)) refused = absurd (tagging_read Repos.NoKey refused)
  tagging_ends (Carry.Target (Stores.Repo Repos.Memory)) refused = absurd (tagging_read Repos.Memory refused)
  tagging_ends (Carry.Target (Stores.Repo Repos.Device)) refused = tt
  tagging_ends (Carry.Target (Stores.Write Writes.Device)) refused = tt
  tagging_ends (Carry.Target (Stores.Write Writes.Memory)) refused = tt
  tagging_ends (Carry.Target (Stores.Write Writes.Numbers)) refused = refused
  tagging_ends (Carry.Target (Stores.Nonce Nonces.Missing)) refused = absurd refused
  tagging_ends (Carry.Target (Stores.Nonce Nonces.Text)) refused = absurd refused
  tagging_ends (Carry.Target (Stores.Nonce Nonces.Exhausted)) refused = refused
  tagging_ends (Carry.Target (Stores.Nonce Nonces.Device)) refused = tt
  tagging_ends (Carry.Target (Stores.Nonce Nonces.Memory)) refused = absurd refused
  tagging_ends (Carry.Target Stores.Committed) refused = absurd refused
  tagging_ends (Carry.Target Stores.TooLarge) refused = refused
  tagging_ends (Carry.Target Stores.Entropy) refused = tt
  tagging_ends (Carry.Target Stores.Memory) refused = tt
  tagging_ends Carry.Record refused = refused
  tagging_ends Carry.Memory refused = tt
  tagging_ends (Carry.Source fault) refused = absurd refused
  tagging_ends (Carry.Taken name) refused = absurd refused
  tagging_ends (Carry.NotFound name) refused = absurd refused
  tagging_ends Carry.Pieces refused = absurd refused

  refused_ends : (fault : CarryFault)
      → ((refusal : StoreRefusal) × ((fault ≡ target_fault refusal) × RefusesOpen asked.secret start refusal)) ⊎ OpensWith asked.secret
      (λ files repo. RefusesTags asked.timestamp asked.drawn asked.drawn_now (Some now) files repo fault) start
      → IsDoneUnless (LimitsTagging asked.timestamp ready.repo start now.history.start (told_files now))
      (BreaksNew start ready.repo asked.drawn asked.drawn_now (told_files now))
      (carry_status fault)
  refused_ends fault (inl refused) =
      subst (λ (f : CarryFault). IsDoneUnless (LimitsTagging asked.timestamp ready.repo start now.history.start (told_files now))
      (BreaksNew start ready.repo asked.drawn asked.drawn_now (told_files now)) (carry_status f)) (sym refused.1.0)
      (begun_ends refused.0 refused.1.1)
  refused_ends fault (inr refused) =
      tagging_ends fault
      (subst (λ (r : RepoState). RefusesTagging start r (time_of asked.timestamp r.manifest) asked.drawn asked.drawn_now (Some now) fault)
      (one_repo start asked.secret refused.repo ready.repo refused.opens ready.opens) refused.holds)

pub tags_done : (asked : Tagging) (before now : Option Told) (status : Status)
    → (status ≡ Statuses.Done) ⊎ IsRefusedBy carry_status (RefusesChange asked.secret
    (RefusesTags asked.timestamp asked.drawn asked.drawn_now now) before) status
    → TagsDone asked.secret asked.timestamp asked.drawn asked.drawn_now before now status
tags_done asked None now status end = tt
tags_done asked (Some b) None status end = tt
tags_done asked (Some b) (Some t) status (inl done) = λ begun ready reads are_read.
    subst (IsDoneUnless (LimitsTagging asked.timestamp ready.repo (told_files b) t.history.start (told_files t))
    (BreaksNew (told_files b) ready.repo asked.drawn asked.drawn_now (told_files t)))
    (sym done) tt
tags_done asked (Some b) (Some t) status (inr refused) = λ begun ready reads are_read.
    subst (IsDoneUnless (LimitsTagging asked.timestamp ready.repo (told_files b) t.history.start (told_files t))
    (BreaksNew (told_files b) ready.repo asked.drawn asked.drawn_now (told_files t)))
    (sym refused.status_is)
    (refused_ends asked (told_files b) t ready reads are_read refused.fault (refused.refuses begun))
