-- Lemmas on specs/Planning.antt: what is said at a later call holds at an earlier one, and where nothing refuses, a plan is made.
use Rattle.std.proofs.Common.{◌≡◌, ◌⊎◌, inl, inr, ℕ, List, Option, Some, None, Result, Ok, Err, IfOk, IfErr, IsSome, refl, sym, ◌∙◌, subst, IfSome}
use Rattle.ferry_disk.specs.Device.{Told, heard, told_files}
use Rattle.ferry_disk.specs.Files.{Files}
use Rattle.ferry_piece.proofs.AmongLemmas.{among_next}
use Rattle.ferry_piece.specs.Gather.{IsAmong}
use Rattle.ferry_plan.proofs.PresentLemmas.{none_some}
use Rattle.ferry_plan.specs.Fault.{IsOfWork}
use Rattle.ferry_plan.specs.Plan.{Differs, RefusesName, RefusesPlan, WhereBoth}
use Rattle.ferry_plan.specs.declared.fault.PlanFault.{PlanFault}
use Rattle.ferry_plan.specs.declared.fault.PlanFault.TheVariants as Faults
use Rattle.ferry_plan.specs.declared.planning.Planned.{Planned}
use Rattle.ferry_repo.proofs.LawLemmas.{one_repo, repo_apart}
use Rattle.ferry_repo.proofs.WholeLemmas.{one_whole, whole_apart}
use Rattle.ferry_repo.specs.Archives.{archive_named}
use Rattle.ferry_repo.specs.Fault.{IsOfFiles}
use Rattle.ferry_repo.specs.Opening.{OpensFilesTo, RefusesRepo, RepoState}
use Rattle.ferry_repo.specs.Whole.{IsWhole, WholeArchive}
use Rattle.ferry_repo.specs.declared.fault.RepoFault.{RepoFault}
use Rattle.ferry_status.specs.declared.status.Limit.TheVariants as Limits
use Rattle.ferry_status.specs.declared.status.Refusal.TheVariants as Refusals
use Rattle.ferry_status.specs.declared.status.Secrets.{Secrets}
use Rattle.ferry_status.specs.declared.status.Status.{Status}
use Rattle.ferry_status.specs.declared.status.Status.TheVariants as Statuses
use Rattle.ferry_run_plan.proofs.PlanLemmas.{files_same, refuses_same, request_same}
use Rattle.ferry_run_plan.specs.Planning.{CanBePlanned, IsPlan, IsPlannedUnless, RefusesChosen, RefusesPlanning, plan_line, planned_for}
use Rattle.ferry_run_transfer.specs.Rerun.{IsAbsentOrEqual}
use Rattle.ferry_run_transfer.specs.Transfer.{Request, chosen_of}
use Rattle.ferry_run_transfer.specs.TransferCauses.{IsFirstMissing, IsFound}

-- ---- a later call

module _ (request : Request) (s s_now t : Told) (same : told_files s_now ≡ told_files s) where
  chosen_before : (fault : PlanFault) → RefusesChosen request s_now t fault → RefusesChosen request s t fault
  chosen_before fault r = record {
    repo = r.repo;
    opens = subst (λ (f : Files). OpensFilesTo f request.secrets.source r.repo) same r.opens;
    target = r.target;
    target_opens = r.target_opens;
    holds = refuses_same s s_now t t r.repo request.block r.target same refl (chosen_of request.names r.repo.manifest) fault r.holds;
  }

  source_before : (fault : RepoFault) → RefusesRepo (told_files s_now) request.secrets.source fault ⊎ RefusesChosen request s_now t (Faults.Source fault)
      → RefusesRepo (told_files s) request.secrets.source fault ⊎ RefusesChosen request s t (Faults.Source fault)
  source_before fault (inl refuses) = inl (subst (λ (f : Files). RefusesRepo f request.secrets.source fault) same refuses)
  source_before fault (inr chosen) = inr (chosen_before (Faults.Source fault) chosen)

  status_before : (status : Status) → RefusesPlanning request s_now t status → RefusesPlanning request s t status
  status_before Statuses.Done r = r
  status_before Statuses.No r = r
  status_before (Statuses.Usage n) r = r
  status_before Statuses.Memory r = tt
  status_before Statuses.SourceDevice r = tt
  status_before Statuses.TargetDevice r = tt
  status_before Statuses.EntropyDevice r = r
  status_before Statuses.OutputDevice r = r
  status_before (Statuses.SourceRefused (Refusals.Repo fault)) r = (r.0, source_before fault r.1)
  status_before (Statuses.SourceRefused (Refusals.Nonce fault)) r = r
  status_before (Statuses.SourceRefused Refusals.Committed) r = r
  status_before (Statuses.TargetRefused (Refusals.Repo fault)) r = (r.0, (subst (λ (f : Files). IsFound request f) same r.1.0, r.1.1))
  status_before (Statuses.TargetRefused (Refusals.Nonce fault)) r = r
  status_before (Statuses.TargetRefused Refusals.Committed) r = r
  status_before (Statuses.Taken name) r = chosen_before (Faults.Taken name) r
  status_before (Statuses.NotFound name) r = subst (λ (f : Files). IsFirstMissing request f name) same r
  status_before (Statuses.Limit Limits.Nonce) r = r
  status_before (Statuses.Limit Limits.Manifest) r = r
  status_before (Statuses.Limit Limits.Archive) r = r
  status_before (Statuses.Limit Limits.Segment) r = r
  status_before (Statuses.Limit Limits.Item) r = chosen_before Faults.Pieces r

refused_over : (request : Request) (told now target : Option Told) (status : Status) → heard now ≡ heard told
    → IfSome now (λ s. IfSome target (λ t. RefusesPlanning request s t status)) → IfSome told (λ s. IfSome target (λ t. RefusesPlanning request s t status))
refused_over request None now target status same r = tt
refused_over request (Some s) None target status same r = absurd (let no : ⊥ = cc in no)
refused_over request (Some s) (Some n) None status same r = tt
refused_over request (Some s) (Some n) (Some t) status same r = status_before request s n t (files_same s n same) status r

pub refused_before : (secrets : Secrets) (block : ℕ) (names : List (List ℕ)) (told now target : Option Told) (result : Result Planned Status)
    → heard now ≡ heard told → IfErr result (λ status. IfSome now (λ s. IfSome target (λ t. RefusesPlanning (planned_for secrets block names now) s t status)))
    → IfErr result (λ status. IfSome told (λ s. IfSome target (λ t. RefusesPlanning (planned_for secrets block names told) s t status)))
refused_before secrets block names told now target (Ok planned) same r = tt
refused_before secrets block names told now target (Err status) same r =
    refused_over (planned_for secrets block names told) told now target status same
    (subst (λ (request : Request). IfSome now (λ s. IfSome target (λ t. RefusesPlanning request s t status))) (request_same secrets block names told now same)
    r)

both_over : (told now target : Option Told) (P : Files → Files → Type 0) → heard now ≡ heard told → WhereBoth now target P → WhereBoth told target P
both_over None now target P same p = tt
both_over (Some s) None target P same p = absurd (let no : ⊥ = cc in no)
both_over (Some s) (Some n) None P same p = tt
both_over (Some s) (Some n) (Some t) P same p = subst (λ (f : Files). P f (told_files t)) (files_same s n same) p

pub made_before : (secrets : Secrets) (block : ℕ) (names : List (List ℕ)) (told now target : Option Told) (result : Result Planned Status)
    → heard now ≡ heard told
    → IfOk result (λ planned. WhereBoth now target (λ s t. IsPlan (planned_for secrets block names now) s t (plan_line planned)))
    → IfOk result (λ planned. WhereBoth told target (λ s t. IsPlan (planned_for secrets block names told) s t (plan_line planned)))
made_before secrets block names told now target (Err status) same p = tt
made_before secrets block names told now target (Ok planned) same p =
    both_over told now target (λ s t. IsPlan (planned_for secrets block names told) s t (plan_line planned)) same
    (subst (λ (request : Request). WhereBoth now target (λ s t. IsPlan request s t (plan_line planned))) (request_same secrets block names told now same) p)

-- ---- where nothing refuses

module _ (request : Request) (s t : Told) (can : CanBePlanned request (told_files s) (told_files t)) where
  abbrev there : Files
  there = told_files s

  abbrev files : Files
  files = told_files t

  -- the archive of a chosen name is whole in the repository that opened
  chosen_whole : (name : List ℕ) → IsAmong (chosen_of request.names can.from.manifest) name
      → (whole : WholeArchive) × IsWhole there can.from.log can.from.keys can.from.manifest.archives name whole
  chosen_whole name among =
      let has = can.whole name among in
      let same = one_repo there request.secrets.source has.1.repo can.from has.1.opens can.source_opens in
      (has.0, subst (λ (r : RepoState). IsWhole there r.log r.keys r.manifest.archives name has.0) same has.1.is)

  -- it isn't another one in the target
  taken_apart : (name : List ℕ) → IsAmong (chosen_of request.names can.from.manifest) name → IsSome (archive_named name can.repo.manifest.archives)
      → Differs there can.from files can.repo name → ⊥
  taken_apart name among some differs = by (can.chosen name among) where
    by : IsAbsentOrEqual request there files can.repo name → ⊥
    by (inl lacks) = none_some (archive_named name can.repo.manifest.archives) lacks some
    by (inr equal) =
        let from = one_repo there request.secrets.source equal.1.0.repo can.from equal.1.0.opens can.source_opens in
        let into = one_repo files request.secrets.target equal.1.1.repo can.repo equal.1.1.opens can.opens in
        let whole = subst (λ (r : RepoState). IsWhole there r.log r.keys r.manifest.archives name equal.0) from equal.1.0.is in
        let other = subst (λ (r : RepoState). IsWhole files r.log r.keys r.manifest.archives name equal.0) into equal.1.1.is in
        let same = one_whole there can.from.log can.from.keys can.from.manifest.archives name equal.0 differs.whole whole differs.says in
        differs.differs
        (subst (λ (w : WholeArchive). IsWhole files can.repo.log can.repo.keys can.repo.manifest.archives name w) same other)

  name_apart : (name : List ℕ) (fault : PlanFault) → IsAmong (chosen_of request.names can.from.manifest) name
      → IsOfWork fault → RefusesName (Some s) can.from request.block (Some t) can.repo name fault → ⊥
  name_apart name (Faults.Source cause) among of r =
      let whole = chosen_whole name among in
      whole_apart there can.from.log can.from.keys can.from.manifest.archives name whole.0 cause whole.1 of (r.1 of).0
  name_apart name (Faults.Target cause) among of r = of
  name_apart name (Faults.Taken taken) among of r = taken_apart name among r.1.0 r.1.1
  name_apart name (Faults.NotFound missing) among of r = r
  name_apart name Faults.Pieces among of r = can.short name among r.0 r.1
  name_apart name Faults.Memory among of r = of

  missing_apart : (name : List ℕ) → IsAmong (chosen_of request.names can.from.manifest) name → archive_named name can.from.manifest.archives ≡ None → ⊥
  missing_apart name among none =
      let whole = chosen_whole name among in let both : None ≡ Some whole.1.named = sym none ∙ whole.1.named_is in let no : ⊥ = cc in no

  plan_apart : (fault : PlanFault) → IsOfWork fault
      → RefusesPlan (Some s) can.from request.block (Some t) can.repo (chosen_of request.names can.from.manifest) fault → ⊥
  plan_apart (Faults.Source cause) of r =
      name_apart r.name (Faults.Source cause) (among_next (chosen_of request.names can.from.manifest) r.done r.rest r.name r.split) of r.refused
  plan_apart (Faults.Target cause) of r = of
  plan_apart (Faults.Taken taken) of r =
      name_apart r.name (Faults.Taken taken) (among_next (chosen_of request.names can.from.manifest) r.done r.rest r.name r.split) of r.refused
  plan_apart (Faults.NotFound missing) of r = missing_apart r.1.0.name (r.0, r.1.0.name_is) r.1.0.missing
  plan_apart Faults.Pieces of r =
      name_apart r.name Faults.Pieces (among_next (chosen_of request.names can.from.manifest) r.done r.rest r.name r.split) of r.refused
  plan_apart Faults.Memory of r = of

  chosen_apart : (fault : PlanFault) → IsOfWork fault → RefusesChosen request s t fault → ⊥
  chosen_apart fault of r =
      let from = one_repo there request.secrets.source r.repo can.from r.opens can.source_opens in
      let into = one_repo files request.secrets.target r.target can.repo r.target_opens can.opens in
      plan_apart fault of
      (subst (λ (x : RepoState). RefusesPlan (Some s) x request.block (Some t) can.repo (chosen_of request.names x.manifest) fault) from
      (subst (λ (x : RepoState). RefusesPlan (Some s) r.repo request.block (Some t) x (chosen_of request.names r.repo.manifest) fault) into r.holds))

  source_apart : (fault : RepoFault) → IsOfFiles fault
      → RefusesRepo there request.secrets.source fault ⊎ RefusesChosen request s t (Faults.Source fault) → ⊥
  source_apart fault of (inl refuses) = repo_apart there request.secrets.source can.from fault can.source_opens of refuses
  source_apart fault of (inr chosen) = chosen_apart (Faults.Source fault) of chosen

  first_apart : (name : List ℕ) → IsFirstMissing request there name → ⊥
  first_apart name r =
      let from = one_repo there request.secrets.source r.repo can.from r.opens can.source_opens in
      missing_apart r.missing.name
      (subst (λ (x : RepoState). IsAmong (chosen_of request.names x.manifest) r.missing.name) from (r.place, r.missing.name_is))
      (subst (λ (x : RepoState). archive_named r.missing.name x.manifest.archives ≡ None) from r.missing.missing)

  completes : (status : Status) → RefusesPlanning request s t status → IsPlannedUnless status
  completes Statuses.Done r = tt
  completes Statuses.No r = r
  completes (Statuses.Usage n) r = r
  completes Statuses.Memory r = tt
  completes Statuses.SourceDevice r = tt
  completes Statuses.TargetDevice r = tt
  completes Statuses.EntropyDevice r = r
  completes Statuses.OutputDevice r = tt
  completes (Statuses.SourceRefused (Refusals.Repo fault)) r = source_apart fault r.0 r.1
  completes (Statuses.SourceRefused (Refusals.Nonce fault)) r = r
  completes (Statuses.SourceRefused Refusals.Committed) r = r
  completes (Statuses.TargetRefused (Refusals.Repo fault)) r = repo_apart files request.secrets.target can.repo fault can.opens r.0 r.1.1
  completes (Statuses.TargetRefused (Refusals.Nonce fault)) r = r
  completes (Statuses.TargetRefused Refusals.Committed) r = r
  completes (Statuses.Taken name) r = chosen_apart (Faults.Taken name) tt r
  completes (Statuses.NotFound name) r = first_apart name r
  completes (Statuses.Limit Limits.Nonce) r = r
  completes (Statuses.Limit Limits.Manifest) r = r
  completes (Statuses.Limit Limits.Archive) r = r
  completes (Statuses.Limit Limits.Segment) r = r
  completes (Statuses.Limit Limits.Item) r = chosen_apart Faults.Pieces tt r

pub plan_completes : (request : Request) (source target : Told) (status : Status) → CanBePlanned request (told_files source) (told_files target)
    → RefusesPlanning request source target status → IsPlannedUnless status
plan_completes request source target status can r = completes request source target can status r
