-- Lemmas on specs/TransferCauses.antt: a transfer is done where what is asked for is there.
use Rattle.std.proofs.Common.{◌≡◌, ◌⊎◌, inl, inr, ℕ, true, false, List, [], Option, Some, None}
use Rattle.std.proofs.Common.{refl, sym, ◌∙◌, ap, subst, IfSome, IsSome}
use Rattle.ferry_blob.proofs.BlobLemmas.{opens_no_fault}
use Rattle.ferry_blob.specs.declared.fault.BlobFault.{BlobFault}
use Rattle.ferry_piece.proofs.AmongLemmas.{among_next}
use Rattle.ferry_piece.specs.Gather.{IsAmong}
use Rattle.ferry_piece.specs.declared.fault.CarryFault.{CarryFault}
use Rattle.ferry_piece.specs.declared.fault.CarryFault.TheVariants as Carry
use Rattle.ferry_disk.specs.Device.{Told, told_files}
use Rattle.ferry_disk.specs.Files.{Files}
use Rattle.ferry_disk.specs.Moments.{Between}
use Rattle.ferry_nonce.specs.declared.fault.NonceFault.TheVariants as Nonces
use Rattle.ferry_repo.proofs.LawLemmas.{one_repo, repo_apart}
use Rattle.ferry_repo.proofs.WholeLemmas.{one_whole, whole_apart}
use Rattle.ferry_repo.specs.Archives.{archive_named}
use Rattle.ferry_repo.specs.Fault.{IsOfFiles}
use Rattle.ferry_repo.specs.Objects.{BreaksObject}
use Rattle.ferry_repo.specs.Opening.{OpensFilesTo, RefusesRepo, RepoState}
use Rattle.ferry_repo.specs.Whole.{HasWhole, IsWhole}
use Rattle.ferry_repo.specs.declared.fault.RepoFault.{RepoFault}
use Rattle.ferry_repo.specs.declared.fault.RepoFault.TheVariants as Repos
use Rattle.ferry_stops.specs.Counters.{IsNonce}
use Rattle.ferry_stops.specs.Tells.{lines_of}
use Rattle.ferry_store.specs.Store.{RefusesOpen}
use Rattle.ferry_store.specs.declared.fault.StoreRefusal.{StoreRefusal}
use Rattle.ferry_store.specs.declared.fault.StoreRefusal.TheVariants as Store
use Rattle.ferry_status.proofs.OpenedLemmas.{shut_here, memory_number}
use Rattle.ferry_run_transfer.proofs.PuttingLemmas.{untouched_puts}
use Rattle.ferry_run_transfer.proofs.RerunLemmas.{chosen_again}
use Rattle.ferry_run_transfer.specs.Rerun.{EachChosen, IsAbsentOrEqual}
use Rattle.ferry_status.specs.Status.{carry_status, repo_status, store_status, target_status}
use Rattle.ferry_carry.specs.States.{Drawn, drawn_from}
use Rattle.ferry_run_transfer.specs.Transfer.{KeepsArchives, NoneCollide, Request, TransferEach, TransferLeaves, asked, chosen_of}
use Rattle.ferry_run_transfer.specs.TransferCauses.{EndsDone, IsDoneUnless, IsFirstMissing, IsReadyFor, IsRefusedSo, IsTaken, IsBeforeTarget}
use Rattle.ferry_run_transfer.specs.TransferCauses.{RefusesAsked, RefusesSource, RefusesTransfer, StopsWriting}
use Rattle.ferry_status.specs.declared.status.Status.{Status}
use Rattle.ferry_status.specs.declared.status.Status.TheVariants as Statuses
use Rattle.ferry_write.specs.declared.fault.WriteFault.TheVariants as Writes
use Rattle.ferry_disk.proofs.MomentLemmas.{between_map}
use Rattle.ferry_status.specs.Devices.{Devices}
use Rattle.ferry_run_transfer.specs.Transferring.{Transfers}
use Rattle.ferry_run_transfer.proofs.RefusedLemmas.{memory_refused}
use Rattle.ferry_run_transfer.proofs.SaltLemmas.{next_added}
use Rattle.ferry_run_transfer.proofs.TransferLemmas.{left_of}
use Rattle.ferry_run_transfer.proofs.UntouchedLemmas.{each_untouched}

-- ---- where a transfer is done

-- what is asked for is there
module _ (request : Request) (drawn : Drawn) (source start image : Files) (lines : List (List ℕ)) (ready : IsReadyFor request drawn source start) where
  -- the source isn't refused
  source_ready : (fault : RepoFault) → IsOfFiles fault → RefusesSource request source start lines fault → ⊥
  source_ready fault of_files (inl refuses) = repo_apart source request.secrets.source ready.from fault ready.source_opens of_files refuses
  source_ready fault of_files (inr one) =
      let same = one_repo source request.secrets.source one.repo ready.from one.opens ready.source_opens in
      let had = ready.whole one.name (subst (λ (r : RepoState). IsAmong (chosen_of request.names r.manifest) one.name) same
      (among_next (chosen_of request.names one.repo.manifest) one.done one.rest one.name one.split)) in
      let there = had.1 in
      let is : IsWhole source one.repo.log one.repo.keys one.repo.manifest.archives one.name had.0 =
      subst (λ (r : RepoState). IsWhole source r.log r.keys r.manifest.archives one.name had.0)
      (one_repo source request.secrets.source there.repo one.repo there.opens one.opens) there.is in
      whole_apart source one.repo.log one.repo.keys one.repo.manifest.archives one.name had.0 fault is of_files one.holds

  source_ends : (fault : RepoFault) → (IsOfFiles fault → RefusesSource request source start lines fault)
      → IsDoneUnless request source start lines image (repo_status fault)
  source_ends Repos.NoCommit refused = absurd (source_ready Repos.NoCommit tt (refused tt))
  source_ends (Repos.Damaged segment at) refused = absurd (source_ready (Repos.Damaged segment at) tt (refused tt))
  source_ends (Repos.Config cause) refused = absurd (source_ready (Repos.Config cause) tt (refused tt))
  source_ends (Repos.Key cause) refused = absurd (source_ready (Repos.Key cause) tt (refused tt))
  source_ends (Repos.Missing id) refused = absurd (source_ready (Repos.Missing id) tt (refused tt))
  source_ends (Repos.Blob id cause) refused = absurd (source_ready (Repos.Blob id cause) tt (refused tt))
  source_ends (Repos.Manifest cause) refused = absurd (source_ready (Repos.Manifest cause) tt (refused tt))
  source_ends (Repos.Archive id cause) refused = absurd (source_ready (Repos.Archive id cause) tt (refused tt))
  source_ends (Repos.Item id cause) refused = absurd (source_ready (Repos.Item id cause) tt (refused tt))
  source_ends (Repos.Size id) refused = absurd (source_ready (Repos.Size id) tt (refused tt))
  source_ends (Repos.KeyFile cause) refused = absurd (source_ready (Repos.KeyFile cause) tt (refused tt))
  source_ends (Repos.Other file config) refused = absurd (source_ready (Repos.Other file config) tt (refused tt))
  source_ends Repos.NoKey refused = absurd (source_ready Repos.NoKey tt (refused tt))
  source_ends Repos.Device refused = tt
  source_ends Repos.Memory refused = tt

  -- the target opens
  opened_ends : (fault : RepoFault) → RefusesRepo start request.secrets.target fault → IsDoneUnless request source start lines image (target_status fault)
  opened_ends Repos.NoCommit refused = absurd (repo_apart start request.secrets.target ready.repo Repos.NoCommit ready.opens tt refused)
  opened_ends (Repos.Damaged segment at) refused = absurd (repo_apart start request.secrets.target ready.repo (Repos.Damaged segment at) ready.opens tt
      refused)
  opened_ends (Repos.Config cause) refused = absurd (repo_apart start request.secrets.target ready.repo (Repos.Config cause) ready.opens tt refused)
  opened_ends (Repos.Key cause) refused = absurd (repo_apart start request.secrets.target ready.repo (Repos.Key cause) ready.opens tt refused)
  opened_ends (Repos.Missing id) refused = absurd (repo_apart start request.secrets.target ready.repo (Repos.Missing id) ready.opens tt refused)
  opened_ends (Repos.Blob id cause) refused = absurd (repo_apart start request.secrets.target ready.repo (Repos.Blob id cause) ready.opens tt refused)
  opened_ends (Repos.Manifest cause) refused = absurd (repo_apart start request.secrets.target ready.repo (Repos.Manifest cause) ready.opens tt refused)
  opened_ends (Repos.Archive id cause) refused = absurd (repo_apart start request.secrets.target ready.repo (Repos.Archive id cause) ready.opens tt refused)
  opened_ends (Repos.Item id cause) refused = absurd (repo_apart start request.secrets.target ready.repo (Repos.Item id cause) ready.opens tt refused)
  opened_ends (Repos.Size id) refused = absurd (repo_apart start request.secrets.target ready.repo (Repos.Size id) ready.opens tt refused)
  opened_ends (Repos.KeyFile cause) refused = absurd (repo_apart start request.secrets.target ready.repo (Repos.KeyFile cause) ready.opens tt refused)
  opened_ends (Repos.Other file config) refused = absurd (repo_apart start request.secrets.target ready.repo (Repos.Other file config) ready.opens tt refused)
  opened_ends Repos.NoKey refused = absurd (repo_apart start request.secrets.target ready.repo Repos.NoKey ready.opens tt refused)
  opened_ends Repos.Device refused = tt
  opened_ends Repos.Memory refused = tt

  begun_ends : (refusal : StoreRefusal) → RefusesOpen request.secrets.target start refusal
      → IsDoneUnless request source start lines image (store_status refusal)
  begun_ends (Store.Repo fault) refused = opened_ends fault refused
  begun_ends (Store.Write Writes.Device) refused = tt
  begun_ends (Store.Write Writes.Memory) refused = tt
  begun_ends (Store.Write Writes.Numbers) refused = absurd refused
  begun_ends (Store.Nonce Nonces.Missing) refused = absurd (let e : None ≡ Some ready.text = sym refused.1.0 ∙ ready.nonce in let no : ⊥ = cc in no)
  begun_ends (Store.Nonce Nonces.Text) refused =
      absurd (refused.1 ready.number (subst (λ (o : Option (List ℕ)). IsNonce o ready.number) (sym ready.nonce) ready.spelled))
  begun_ends (Store.Nonce Nonces.Exhausted) refused = absurd refused.1
  begun_ends (Store.Nonce Nonces.Device) refused = tt
  begun_ends (Store.Nonce Nonces.Memory) refused = tt
  begun_ends Store.Committed refused = absurd refused
  begun_ends Store.TooLarge refused = absurd refused
  begun_ends Store.Entropy refused = tt
  begun_ends Store.Memory refused = tt

  -- what is live in it under the id of a content that is added opens
  live_ready : (id : List ℕ) (fault : BlobFault) → StopsWriting request drawn source start lines image (Store.Repo (Repos.Blob id fault)) → ⊥
  live_ready id fault stops =
      let same = one_repo start request.secrets.target stops.0.repo ready.repo stops.0.opens ready.opens in
      let breaks = subst (λ (r : RepoState). BreaksObject start r.log r.keys id fault) same stops.0.holds.1 in
      let opens_to = ready.live id breaks.blob stops.0.holds.0 (next_added request drawn source start lines id stops.1) breaks.has in
      let e : None ≡ Some fault = sym (opens_no_fault ready.repo.keys id breaks.blob opens_to.0 opens_to.1) ∙ breaks.breaks in
      let no : ⊥ = cc in no

  stopped_ends : (refusal : StoreRefusal) → StopsWriting request drawn source start lines image refusal
      → IsDoneUnless request source start lines image (store_status refusal)
  stopped_ends (Store.Repo (Repos.Blob id fault)) stops = absurd (live_ready id fault stops)
  stopped_ends (Store.Repo Repos.NoCommit) stops = absurd stops
  stopped_ends (Store.Repo (Repos.Damaged segment at)) stops = absurd stops
  stopped_ends (Store.Repo (Repos.Config cause)) stops = absurd stops
  stopped_ends (Store.Repo (Repos.Key cause)) stops = absurd stops
  stopped_ends (Store.Repo (Repos.Missing id)) stops = absurd stops
  stopped_ends (Store.Repo (Repos.Manifest cause)) stops = absurd stops
  stopped_ends (Store.Repo (Repos.Archive id cause)) stops = absurd stops
  stopped_ends (Store.Repo (Repos.Item id cause)) stops = absurd stops
  stopped_ends (Store.Repo (Repos.Size id)) stops = absurd stops
  stopped_ends (Store.Repo (Repos.KeyFile cause)) stops = absurd stops
  stopped_ends (Store.Repo (Repos.Other file config)) stops = absurd stops
  stopped_ends (Store.Repo Repos.NoKey) stops = absurd stops
  stopped_ends (Store.Repo Repos.Device) stops = tt
  stopped_ends (Store.Repo Repos.Memory) stops = tt
  stopped_ends (Store.Write Writes.Device) stops = tt
  stopped_ends (Store.Write Writes.Memory) stops = tt
  stopped_ends (Store.Write Writes.Numbers) stops = stops
  stopped_ends (Store.Nonce Nonces.Missing) stops = absurd stops
  stopped_ends (Store.Nonce Nonces.Text) stops = absurd stops
  stopped_ends (Store.Nonce Nonces.Exhausted) stops = stops
  stopped_ends (Store.Nonce Nonces.Device) stops = tt
  stopped_ends (Store.Nonce Nonces.Memory) stops = tt
  stopped_ends Store.Committed stops = absurd stops
  stopped_ends Store.TooLarge stops = stops
  stopped_ends Store.Entropy stops = tt
  stopped_ends Store.Memory stops = tt

  -- no chosen name is missing
  none_missing : (name : List ℕ) → IsFirstMissing request source name → ⊥
  none_missing name first =
      let same = one_repo source request.secrets.source first.repo ready.from first.opens ready.source_opens in
      let missing = first.missing in
      let among : IsAmong (chosen_of request.names ready.from.manifest) missing.name =
      subst (λ (r : RepoState). IsAmong (chosen_of request.names r.manifest) missing.name) same (first.place, missing.name_is) in
      let had = (ready.whole missing.name among).1 in
      let named : archive_named missing.name first.repo.manifest.archives ≡ Some had.is.named =
      ap (λ (r : RepoState). archive_named missing.name r.manifest.archives)
      (one_repo source request.secrets.source first.repo had.repo first.opens had.opens) ∙ had.is.named_is in
      let no : ⊥ = cc in no

  -- what a transfer asks of the chosen names in its target
  chosen_ready : request.source ≡ Some source
      → EachChosen request request.source (λ files name. IsAbsentOrEqual request files start ready.repo name)
  chosen_ready told =
      subst (λ (o : Option Files). EachChosen request o (λ files name. IsAbsentOrEqual request files start ready.repo name)) (sym told)
      (λ from opens name among.
      ready.chosen name
      (subst (λ (r : RepoState). IsAmong (chosen_of request.names r.manifest) name)
      (one_repo source request.secrets.source from ready.from opens ready.source_opens) among))

  -- it finds again in what is left
  pub chosen_left : request.source ≡ Some source → (keeps : KeepsArchives request start ready.repo.manifest lines image)
      → NoneCollide request start keeps.begun
      → EachChosen request (Some source) (λ files name. IsAbsentOrEqual request files image keeps.repo name)
  chosen_left told keeps apart =
      subst (λ (o : Option Files). EachChosen request o (λ files name. IsAbsentOrEqual request files image keeps.repo name)) told
      (chosen_again request start image ready.repo keeps.repo keeps.begun keeps.done keeps.wholes keeps.only request.source keeps.arrived apart
      (chosen_ready told))

  equal_there : (name : List ℕ) → IsTaken request source start lines image name → (repo : RepoState) → OpensFilesTo image request.secrets.target repo
      → EachChosen request (Some source) (λ files other. IsAbsentOrEqual request files image repo other) → ⊥
  equal_there name taken repo opens chosen =
      so (chosen taken.from taken.source_opens name
      (among_next (chosen_of request.names taken.from.manifest) taken.done taken.rest name taken.split))
    where
      so : IsAbsentOrEqual request source image repo name → ⊥
      so (inl lacks) =
          let same = one_repo image request.secrets.target taken.repo repo taken.opens opens in
          let e : archive_named name taken.repo.manifest.archives ≡ None = ap (λ (r : RepoState). archive_named name r.manifest.archives) same ∙ lacks in
          let some : false ≡ true = subst IsSome e taken.there in
          let no : ⊥ = cc in
          no
      so (inr is) =
          let a = is.1.0 in
          let b = taken.whole_there in
          let one : is.0 ≡ taken.whole =
          one_whole source a.repo.log a.repo.keys a.repo.manifest.archives name is.0 taken.whole a.is
          (subst (λ (r : RepoState). IsWhole source r.log r.keys r.manifest.archives name taken.whole)
          (one_repo source request.secrets.source b.repo a.repo b.opens a.opens) b.is) in
          taken.differs (subst (HasWhole image request.secrets.target name) one is.1.1)

  refused_ends : (keeps : KeepsArchives request start ready.repo.manifest lines image)
      → NoneCollide request start keeps.begun → request.source ≡ Some source → (fault : CarryFault)
      → RefusesTransfer request drawn source start lines image fault → IsDoneUnless request source start lines image (carry_status fault)
  refused_ends keeps apart told (Carry.Source fault) refused = source_ends fault refused
  refused_ends keeps apart told (Carry.Target refusal) (inl refused) = begun_ends refusal refused.1
  refused_ends keeps apart told (Carry.Target refusal) (inr stops) = stopped_ends refusal stops.0
  refused_ends keeps apart told (Carry.Taken name) taken =
      absurd (equal_there name taken keeps.repo keeps.opens (chosen_left told keeps apart))
  refused_ends keeps apart told (Carry.NotFound name) missing = absurd (none_missing name missing)
  refused_ends keeps apart told Carry.Pieces long = long
  refused_ends keeps apart told Carry.Memory refused = tt
  refused_ends keeps apart told Carry.Record large = large

if_some : {A : Type 0} (o : Option A) (P : A → Type 0) → ((x : A) → o ≡ Some x → P x) → IfSome o P
if_some None P step = tt
if_some (Some x) P step = step x refl

-- a transfer is done where what is asked for is there, or a limit was met
pub ends_done : (request : Request) (drawn : Drawn) (before now : Option Told) (status : Status)
    → (status ≡ Statuses.Done) ⊎ IsRefusedSo request drawn before now status → EndsDone request drawn before now status
ends_done request drawn before now status (inl done) =
    if_some request.source _
    (λ source told.
    if_some before _
    (λ b is.
    if_some now _
    (λ t at begun ready keeps apart.
    subst (IsDoneUnless request source (told_files b) (lines_of t.history.acts) (told_files t)) (sym done) tt)))
ends_done request drawn before now status (inr refused) =
    if_some request.source _
    (λ source told.
    if_some before _
    (λ b is.
    if_some now _
    (λ t at begun ready keeps apart.
    let causes : RefusesTransfer request drawn source (told_files b) (lines_of t.history.acts) (told_files t) refused.fault =
    all_three source b t told is at refused.refuses begun in
    subst (IsDoneUnless request source (told_files b) (lines_of t.history.acts) (told_files t)) (sym refused.status_is)
    (refused_ends request drawn source (told_files b) (told_files t) (lines_of t.history.acts) ready keeps apart told refused.fault causes))))
  where
    all_three : (source : Files) (b t : Told) → request.source ≡ Some source → before ≡ Some b → now ≡ Some t
        → RefusesAsked request drawn before now refused.fault → b.history.acts ≡ []
        → RefusesTransfer request drawn source (told_files b) (lines_of t.history.acts) (told_files t) refused.fault
    all_three source b t told is at asked begun =
        subst (λ (o : Option Told). IfSome o (λ y. b.history.acts ≡ []
        → RefusesTransfer request drawn source (told_files b) (lines_of y.history.acts) (told_files y) refused.fault)) at
        (subst (λ (o : Option Told). IfSome o (λ x. IfSome now
        (λ y. x.history.acts ≡ [] → RefusesTransfer request drawn source (told_files x) (lines_of y.history.acts) (told_files y) refused.fault))) is
        (subst (λ (o : Option Files). IfSome o (λ f. IfSome before (λ x. IfSome now
        (λ y. x.history.acts ≡ [] → RefusesTransfer request drawn f (told_files x) (lines_of y.history.acts) (told_files y) refused.fault)))) told asked))
        begun

-- ---- a run that memory refused before its command

each_told : (request : Request) (told : Option Told) → Between told told (TransferEach request)
each_told request None = tt
each_told request (Some t) = (t, refl, each_untouched request t.history)

pub transfers_nothing : (request : Request) (all : Devices) → Transfers request all Statuses.Memory all
transfers_nothing request all =
    let told = all.target.told in
    let drawn = drawn_from all.entropy.bytes all.entropy.bytes in
    let refused : IsRefusedSo request drawn told told Statuses.Memory =
    record { fault = Carry.Memory; status_is = refl; refuses = memory_refused request drawn told told } in
    record {
      output = refl;
      completes = ends_done request drawn told told Statuses.Memory (inr refused);
      refused = inr refused;
      ended = λ e. absurd (let no : ⊥ = cc in no);
      untouched = if_some request.source _ (λ source told none. (refl, refl));
      left = between_map told told (TransferEach request) (TransferLeaves request) (left_of request) (each_told request told);
      shut = shut_here request.secrets.target told;
      number = memory_number (IsBeforeTarget request) request.secrets.target told;
      only_told = λ e. absurd (let no : ⊥ = cc in no);
      puts = untouched_puts request told;
      put = λ e. absurd (let no : ⊥ = cc in no);
      each = each_told request told;
    }
