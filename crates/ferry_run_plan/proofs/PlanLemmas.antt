-- Lemmas on specs/Planning.antt: which statuses a plan has, and what they say of the files that were told.
use Rattle.std.proofs.Common.{◌≡◌, ◌⊎◌, inl, inr, ℕ, false, List, Option, Some, None, IfSome, IsSome, refl, sym, ap, subst, slice_get}
use Rattle.ferry_carry.specs.Chosen.{IsMissingName}
use Rattle.ferry_carry.specs.Refusals.{HasLongItem}
use Rattle.ferry_disk.specs.Act.{files_now}
use Rattle.ferry_disk.specs.Device.{Heard, Told, heard, heard_of, told_files}
use Rattle.ferry_disk.specs.Files.{Files}
use Rattle.ferry_piece.specs.Puts.{Addition}
use Rattle.ferry_piece.specs.declared.fault.CarryFault.{CarryFault}
use Rattle.ferry_piece.specs.declared.fault.CarryFault.TheVariants as Carry
use Rattle.ferry_plan.specs.Fault.{shelf_failed as plan_source}
use Rattle.ferry_plan.specs.Plan.{Differs, HasNoLong, Plans, PlansAll, RefusesBehind, RefusesName, RefusesPlan, WhereBoth, source_of}
use Rattle.ferry_plan.specs.declared.fault.PlanFault.{PlanFault}
use Rattle.ferry_plan.specs.declared.fault.PlanFault.TheVariants as Faults
use Rattle.ferry_plan.specs.declared.planning.Planned.{Planned}
use Rattle.ferry_repo.specs.Archives.{archive_named}
use Rattle.ferry_repo.specs.Fault.{IsOfFiles}
use Rattle.ferry_repo.specs.Opening.{OpensFilesTo, RefusesRepo, RepoState}
use Rattle.ferry_repo.specs.Whole.{RefusesWhole}
use Rattle.ferry_repo.specs.declared.fault.RepoFault.{RepoFault}
use Rattle.ferry_repo.specs.declared.fault.RepoFault.TheVariants as Repos
use Rattle.ferry_repo.specs.declared.secret.Secret.{Secret}
use Rattle.ferry_status.proofs.StatusLemmas.{failed_of_repo}
use Rattle.ferry_status.specs.Devices.{Devices}
use Rattle.ferry_status.specs.Status.{carry_status, repo_status, source_failed, target_status}
use Rattle.ferry_status.specs.declared.status.Refusal.TheVariants as Refusals
use Rattle.ferry_status.specs.declared.status.Secrets.{Secrets}
use Rattle.ferry_status.specs.declared.status.Status.{Status}
use Rattle.ferry_status.specs.declared.status.Status.TheVariants as Statuses
use Rattle.ferry_run_plan.specs.Planning.{IsPlan, PlansTransfer, RefusesChosen, RefusesPlanning}
use Rattle.ferry_run_plan.specs.Planning.{plan_line, plan_status, planned_for}
use Rattle.ferry_run_transfer.proofs.RefusedLemmas.{names_found}
use Rattle.ferry_run_transfer.specs.Transfer.{Request, chosen_of}
use Rattle.ferry_run_transfer.specs.TransferCauses.{IsFound}

-- ---- which statuses faults have

-- what holds of a refused source, of a failed one, and where memory was refused, holds where the source doesn't open
by_repo : (X : Status → Type 0) (fault : RepoFault) → (IsOfFiles fault → X (Statuses.SourceRefused (Refusals.Repo fault))) → X Statuses.SourceDevice
    → X Statuses.Memory → X (repo_status fault)
by_repo X Repos.NoCommit files device memory = files tt
by_repo X (Repos.Damaged segment at) files device memory = files tt
by_repo X (Repos.Config cause) files device memory = files tt
by_repo X (Repos.Key cause) files device memory = files tt
by_repo X (Repos.Missing id) files device memory = files tt
by_repo X (Repos.Blob id cause) files device memory = files tt
by_repo X (Repos.Manifest cause) files device memory = files tt
by_repo X (Repos.Archive id cause) files device memory = files tt
by_repo X (Repos.Item id cause) files device memory = files tt
by_repo X (Repos.Size id) files device memory = files tt
by_repo X (Repos.KeyFile cause) files device memory = files tt
by_repo X (Repos.Other file config) files device memory = files tt
by_repo X Repos.NoKey files device memory = files tt
by_repo X Repos.Device files device memory = device
by_repo X Repos.Memory files device memory = memory

-- the same of the target
by_target : (X : Status → Type 0) (fault : RepoFault) → (IsOfFiles fault → X (Statuses.TargetRefused (Refusals.Repo fault))) → X Statuses.TargetDevice
    → X Statuses.Memory → X (target_status fault)
by_target X Repos.NoCommit files device memory = files tt
by_target X (Repos.Damaged segment at) files device memory = files tt
by_target X (Repos.Config cause) files device memory = files tt
by_target X (Repos.Key cause) files device memory = files tt
by_target X (Repos.Missing id) files device memory = files tt
by_target X (Repos.Blob id cause) files device memory = files tt
by_target X (Repos.Manifest cause) files device memory = files tt
by_target X (Repos.Archive id cause) files device memory = files tt
by_target X (Repos.Item id cause) files device memory = files tt
by_target X (Repos.Size id) files device memory = files tt
by_target X (Repos.KeyFile cause) files device memory = files tt
by_target X (Repos.Other file config) files device memory = files tt
by_target X Repos.NoKey files device memory = files tt
by_target X Repos.Device files device memory = device
by_target X Repos.Memory files device memory = memory

still_of_target : (fault : RepoFault) → source_failed (target_status fault) ≡ false
still_of_target fault = by_target (λ (s : Status). source_failed s ≡ false) fault (λ files. refl) refl refl

pub source_of_plan : (fault : PlanFault) → source_failed (plan_status fault) ≡ plan_source fault
source_of_plan (Faults.Source fault) = failed_of_repo fault
source_of_plan (Faults.Target fault) = still_of_target fault
source_of_plan (Faults.Taken name) = refl
source_of_plan (Faults.NotFound name) = refl
source_of_plan Faults.Pieces = refl
source_of_plan Faults.Memory = refl

-- Names weren't looked up: memory was refused, or of these names this is the first that a manifest lacks.
abbrev pub IsUnfound : RepoState → List (List ℕ) → CarryFault → Type 0
IsUnfound repo names fault = (fault ≡ Carry.Memory) ⊎ ((place : ℕ) × ((name : List ℕ)
    × (IsMissingName repo.manifest names place × ((slice_get names place ≡ Some name) × (fault ≡ Carry.NotFound name)))))

pub unplanned_memory : (request : Request) (source target : Option Told) → IfSome source (λ s. IfSome target (λ t. RefusesPlanning request s t Statuses.Memory))
unplanned_memory request None target = tt
unplanned_memory request (Some s) None = tt
unplanned_memory request (Some s) (Some t) = tt

-- nothing is planned where memory is refused at once
pub plans_nothing : (request : Request) (all : Devices) → PlansTransfer request all Statuses.Memory all
plans_nothing request all =
    record { entropy = refl; target = refl; prints = inr (refl, (tt, unplanned_memory request all.source.told all.target.told)) }

-- ---- the same files

-- The files of a device under a secret, where it tells them, open to a repository.
abbrev pub Opens : Option Told → Secret → RepoState → Type 0
Opens told secret repo = IfSome told (λ t. OpensFilesTo (told_files t) secret repo)

pub files_same : (a b : Told) → heard (Some b) ≡ heard (Some a) → told_files b ≡ told_files a
files_same a b e = let same : heard_of b ≡ heard_of a = cc in ap (λ (h : Heard). files_now h.history) same

pub request_same : (secrets : Secrets) (block : ℕ) (names : List (List ℕ)) (a b : Option Told) → heard b ≡ heard a
    → planned_for secrets block names b ≡ planned_for secrets block names a
request_same secrets block names None None e = refl
request_same secrets block names None (Some b) e = absurd (let no : ⊥ = cc in no)
request_same secrets block names (Some a) None e = absurd (let no : ⊥ = cc in no)
request_same secrets block names (Some a) (Some b) e =
    ap (λ (f : Files). record (planned_for secrets block names (Some a)) { source = Some f }) (files_same a b e)

module _ (s s_now t t_now : Told) (source : RepoState) (block : ℕ) (target : RepoState) (s_is : told_files s_now ≡ told_files s)
    (t_is : told_files t_now ≡ told_files t) where
  -- what holds of the files of both
  both_same : (P : Files → Files → Type 0) → P (told_files s_now) (told_files t_now) → P (told_files s) (told_files t)
  both_same P p = subst (λ (f : Files). P f (told_files t)) s_is (subst (λ (f : Files). P (told_files s_now) f) t_is p)

  name_same : (name : List ℕ) (fault : PlanFault) → RefusesName (Some s_now) source block (Some t_now) target name fault
      → RefusesName (Some s) source block (Some t) target name fault
  name_same name (Faults.Source cause) r = (
    r.0,
    λ files.
        subst (λ (f : Files). RefusesWhole f source.log source.keys source.manifest.archives name cause
        × (archive_named name target.manifest.archives ≡ None → HasNoLong f source block name)) s_is (r.1 files),
  )
  name_same name (Faults.Target cause) r = r
  name_same name (Faults.Taken taken) r = (r.0, (r.1.0, both_same (λ there files. Differs there source files target name) r.1.1))
  name_same name (Faults.NotFound missing) r = r
  name_same name Faults.Pieces r = (r.0, subst (λ (f : Files). HasLongItem f (source_of f source block) name) s_is r.1)
  name_same name Faults.Memory r = tt

  behind_same : (names : List (List ℕ)) (fault : PlanFault) → RefusesBehind (Some s_now) source block (Some t_now) target names fault
      → RefusesBehind (Some s) source block (Some t) target names fault
  behind_same names fault r = record {
    found = r.found;
    done = r.done;
    name = r.name;
    rest = r.rest;
    split = r.split;
    planned = both_same (λ there files. (added : List Addition) × PlansAll there source block files target r.done added) r.planned;
    refused = name_same r.name fault r.refused;
  }

  pub refuses_same : (names : List (List ℕ)) (fault : PlanFault) → RefusesPlan (Some s_now) source block (Some t_now) target names fault
      → RefusesPlan (Some s) source block (Some t) target names fault
  refuses_same names (Faults.Source cause) r = behind_same names (Faults.Source cause) r
  refuses_same names (Faults.Target cause) r = behind_same names (Faults.Target cause) r
  refuses_same names (Faults.Taken name) r = behind_same names (Faults.Taken name) r
  refuses_same names (Faults.NotFound name) r = r
  refuses_same names Faults.Pieces r = behind_same names Faults.Pieces r
  refuses_same names Faults.Memory r = tt

-- ---- a plan of the names that were chosen

pub chosen_made : (secrets : Secrets) (block : ℕ) (names : List (List ℕ)) (source target : RepoState) (told a b : Option Told) (chosen : List (List ℕ))
    (planned : Planned) → Opens told secrets.source source → Opens a secrets.target target → heard b ≡ heard a
    → WhereBoth told b (λ there files. Plans there source block files target chosen planned) → chosen ≡ chosen_of names source.manifest
    → WhereBoth told a (λ s t. IsPlan (planned_for secrets block names told) s t (plan_line planned))
chosen_made secrets block names source target None a b chosen planned opens target_opens same plans is = tt
chosen_made secrets block names source target (Some s) None b chosen planned opens target_opens same plans is = tt
chosen_made secrets block names source target (Some s) (Some t) None chosen planned opens target_opens same plans is = absurd (let no : ⊥ = cc in no)
chosen_made secrets block names source target (Some s) (Some t) (Some u) chosen planned opens target_opens same plans is = (
  planned,
  (
    refl,
    record {
      repo = source;
      opens = opens;
      target = target;
      target_opens = target_opens;
      holds = subst (λ (all : List (List ℕ)). Plans (told_files s) source block (told_files t) target all planned) is
          (subst (λ (f : Files). Plans (told_files s) source block f target chosen planned) (files_same t u same) plans);
    },
  ),
)

module _ (request : Request) (s t : Told) (source target : RepoState) (opens : OpensFilesTo (told_files s) request.secrets.source source)
    (target_opens : OpensFilesTo (told_files t) request.secrets.target target) where
  chosen_is : (fault : PlanFault) → RefusesPlan (Some s) source request.block (Some t) target (chosen_of request.names source.manifest) fault
      → RefusesChosen request s t fault
  chosen_is fault r = record { repo = source; opens = opens; target = target; target_opens = target_opens; holds = r }

  plan_refuses : (fault : PlanFault) → RefusesPlan (Some s) source request.block (Some t) target (chosen_of request.names source.manifest) fault
      → RefusesPlanning request s t (plan_status fault)
  plan_refuses (Faults.Source cause) r =
      by_repo (RefusesPlanning request s t) cause (λ files. (files, inr (chosen_is (Faults.Source cause) r))) tt tt
  plan_refuses (Faults.Target cause) r = subst (λ (c : RepoFault). RefusesPlanning request s t (target_status c)) (sym r.refused) tt
  plan_refuses (Faults.Taken name) r = chosen_is (Faults.Taken name) r
  plan_refuses (Faults.NotFound name) r = record { repo = source; opens = opens; place = r.0; missing = r.1.0; name_is = r.1.1 }
  plan_refuses Faults.Pieces r = chosen_is Faults.Pieces r
  plan_refuses Faults.Memory r = tt

pub chosen_refused : (secrets : Secrets) (block : ℕ) (names : List (List ℕ)) (source target : RepoState) (told a b : Option Told)
    (chosen : List (List ℕ)) (fault : PlanFault) → Opens told secrets.source source → Opens a secrets.target target → heard b ≡ heard a
    → RefusesPlan told source block b target chosen fault → chosen ≡ chosen_of names source.manifest
    → IfSome told (λ s. IfSome a (λ t. RefusesPlanning (planned_for secrets block names told) s t (plan_status fault)))
chosen_refused secrets block names source target None a b chosen fault opens target_opens same r is = tt
chosen_refused secrets block names source target (Some s) None b chosen fault opens target_opens same r is = tt
chosen_refused secrets block names source target (Some s) (Some t) None chosen fault opens target_opens same r is = absurd (let no : ⊥ = cc in no)
chosen_refused secrets block names source target (Some s) (Some t) (Some u) chosen fault opens target_opens same r is =
    plan_refuses (planned_for secrets block names (Some s)) s t source target opens target_opens fault
    (refuses_same s s t u source block target refl (files_same t u same) (chosen_of names source.manifest) fault
    (subst (λ (all : List (List ℕ)). RefusesPlan (Some s) source block (Some u) target all fault) is r))

-- each name was found in the source that opened
pub plan_found : (secrets : Secrets) (block : ℕ) (names : List (List ℕ)) (source : RepoState) (told : Option Told) (chosen : List (List ℕ))
    → IfSome told (λ t. OpensFilesTo (told_files t) secrets.source source) → chosen ≡ chosen_of names source.manifest
    → ((place : ℕ) (name : List ℕ) → slice_get chosen place ≡ Some name → IsSome (archive_named name source.manifest.archives))
    → IfSome told (λ s. IsFound (planned_for secrets block names told) (told_files s))
plan_found secrets block names source None chosen opens is found = tt
plan_found secrets block names source (Some t) chosen opens is found =
    names_found secrets (record { block = block; checkpoint = 1; timestamp = None }) names source (Some t) chosen opens is found

pub unopened_target : (request : Request) (source target : Option Told) (fault : RepoFault) → IfSome source (λ s. IsFound request (told_files s))
    → IfSome target (λ t. RefusesRepo (told_files t) request.secrets.target fault)
    → IfSome source (λ s. IfSome target (λ t. RefusesPlanning request s t (target_status fault)))
unopened_target request None target fault found r = tt
unopened_target request (Some s) None fault found r = tt
unopened_target request (Some s) (Some t) fault found r = by_target (RefusesPlanning request s t) fault (λ files. (files, (found, r))) tt tt

pub unopened_source : (request : Request) (source target : Option Told) (fault : RepoFault)
    → IfSome source (λ s. RefusesRepo (told_files s) request.secrets.source fault)
    → IfSome source (λ s. IfSome target (λ t. RefusesPlanning request s t (repo_status fault)))
unopened_source request None target fault r = tt
unopened_source request (Some s) None fault r = tt
unopened_source request (Some s) (Some t) fault r = by_repo (RefusesPlanning request s t) fault (λ files. (files, inl r)) tt tt

pub unfound_refused : (secrets : Secrets) (block : ℕ) (names : List (List ℕ)) (source : RepoState) (told target : Option Told)
    (chosen : List (List ℕ)) (fault : CarryFault) → Opens told secrets.source source → IsUnfound source chosen fault
    → chosen ≡ chosen_of names source.manifest
    → IfSome told (λ s. IfSome target (λ t. RefusesPlanning (planned_for secrets block names told) s t (carry_status fault)))
unfound_refused secrets block names source None target chosen fault opens r is = tt
unfound_refused secrets block names source (Some s) None chosen fault opens r is = tt
unfound_refused secrets block names source (Some s) (Some t) chosen fault opens (inl memory) is =
    subst (λ (f : CarryFault). RefusesPlanning (planned_for secrets block names (Some s)) s t (carry_status f)) (sym memory) tt
unfound_refused secrets block names source (Some s) (Some t) chosen fault opens (inr found) is =
    subst (λ (f : CarryFault). RefusesPlanning (planned_for secrets block names (Some s)) s t (carry_status f)) (sym found.1.1.1.1) (record {
      repo = source;
      opens = opens;
      place = found.0;
      missing = subst (λ (all : List (List ℕ)). IsMissingName source.manifest all found.0) is found.1.1.0;
      name_is = subst (λ (all : List (List ℕ)). slice_get all found.0 ≡ Some found.1.0) is found.1.1.1.0;
    })
