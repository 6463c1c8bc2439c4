-- Lemmas on specs/Run.antt: which statuses a command ends with, and what they say of devices that it doesn't use.
use Rattle.std.proofs.Common.{◌≡◌, ◌⊎◌, inl, inr, ℕ, Bool, true, false, List, Option, Some, None, Result, Ok, Err, IfSome, refl, sym, ap, subst}
use Rattle.ferry_disk.proofs.MomentLemmas.{between_map}
use Rattle.ferry_disk.specs.Device.{Told, Rose}
use Rattle.ferry_disk.specs.Files.{Files}
use Rattle.ferry_disk.specs.Moments.{Between}
use Rattle.ferry_repo.specs.declared.secret.Secret.{Secret}
use Rattle.ferry_run_compact.proofs.CompactLemmas.{compacts_nothing}
use Rattle.ferry_run_delete.proofs.DoneLemmas.{deletes_nothing}
use Rattle.ferry_run_delete.proofs.ShowLemmas.{deletion}
use Rattle.ferry_run_tag.proofs.DoneLemmas.{tags_nothing}
use Rattle.ferry_top.proofs.InitLemmas.{each_command}
use Rattle.ferry_status.proofs.StatusLemmas.{IsOfStore, of_store}
use Rattle.ferry_run_plan.proofs.PlanLemmas.{plans_nothing}
use Rattle.ferry_run_transfer.proofs.DoneLemmas.{transfers_nothing}
use Rattle.ferry_top.specs.Check.{Checks}
use Rattle.ferry_status.specs.Devices.{Devices, HasCauses, IsRefusedBy, Store as Target, Written}
use Rattle.ferry_store.proofs.CallLemmas.{first_here, read_first}
use Rattle.ferry_store.proofs.StepLemmas.{here_each}
use Rattle.ferry_store.proofs.StoreLemmas.{each_here}
use Rattle.ferry_store.specs.Store.{RefusesInit}
use Rattle.ferry_store.specs.declared.fault.StoreRefusal.TheVariants as Store
use Rattle.ferry_top.specs.Init.{CommandEach, time_or}
use Rattle.ferry_top.specs.MakeKey.{PrintsKey}
use Rattle.ferry_run_drill.proofs.NothingLemmas.{drills_nothing}
use Rattle.ferry_run_plan.specs.Planning.{planned_for}
use Rattle.ferry_top.specs.Run.{DoesCommand, Runs}
use Rattle.ferry_status.specs.Output.{Prints, PrintsAsRead, Reports}
use Rattle.ferry_status.specs.Status.{entropy_failed, output_failed, source_failed, store_status, target_failed}
use Rattle.ferry_run_transfer.specs.Transfer.{asked}
use Rattle.ferry_status.specs.declared.status.Refusal.{Refusal}
use Rattle.ferry_status.specs.declared.status.Secrets.{Secrets}
use Rattle.ferry_status.specs.declared.status.Status.{Status}
use Rattle.ferry_status.specs.declared.status.Status.TheVariants.{Done, No, Usage, Memory, SourceDevice, TargetDevice, EntropyDevice, OutputDevice}
use Rattle.ferry_status.specs.declared.status.Status.TheVariants.{SourceRefused, TargetRefused, Taken, NotFound, Limit}
use Rattle.ferry_write.specs.Session.{SettlesFirst}
use Rattle.ferry_words.specs.declared.command.Command.{Command}
use Rattle.ferry_words.specs.declared.command.Command.TheVariants.{Keys, Key, List as ListArchives, ListItems, Extract, Check}
use Rattle.ferry_words.specs.declared.command.Command.TheVariants.{Init, MakeKey, Transfer, Plan, Delete, Compact, TagArchives, Drill}

-- ---- a command of the source

-- what a status of such a command says
pub record IsOfSource (before after : Written) (status : Status) : Type 0 where
  pub target : target_failed status ≡ false
  pub entropy : entropy_failed status ≡ false
  pub output : output_failed status ≡ true → Rose before.faults after.faults
  pub used : (n : ℕ) → status ≡ Usage n → ⊥

-- the statuses that such a command ends with
abbrev Ends : Written → Status → Written → Type 0
Ends before (Usage n) after = ⊥
Ends before TargetDevice after = ⊥
Ends before EntropyDevice after = ⊥
Ends before (TargetRefused refusal) after = ⊥
Ends before (Taken name) after = ⊥
Ends before (Limit limit) after = ⊥
Ends before OutputDevice after = Rose before.faults after.faults
Ends before status after = Unit {0}

of_ends : (before after : Written) (status : Status) → Ends before status after → IsOfSource before after status
of_ends before after Done e = record { target = refl; entropy = refl; output = λ o. absurd (let no : ⊥ = cc in no); used = λ n o. let no : ⊥ = cc in no }
of_ends before after No e = record { target = refl; entropy = refl; output = λ o. absurd (let no : ⊥ = cc in no); used = λ n o. let no : ⊥ = cc in no }
of_ends before after (Usage n) e = absurd e
of_ends before after Memory e = record { target = refl; entropy = refl; output = λ o. absurd (let no : ⊥ = cc in no); used = λ n o. let no : ⊥ = cc in no }
of_ends before after SourceDevice e = record {
  target = refl;
  entropy = refl;
  output = λ o. absurd
      (let no : ⊥ = cc in no);
  used = λ n o. let no : ⊥ = cc in no;
}
of_ends before after TargetDevice e = absurd e
of_ends before after EntropyDevice e = absurd e
of_ends before after OutputDevice e = record { target = refl; entropy = refl; output = λ o. e; used = λ n o. let no : ⊥ = cc in no }
of_ends before after (SourceRefused r) e = record {
  target = refl;
  entropy = refl;
  output = λ o. absurd
      (let no : ⊥ = cc in no);
  used = λ n o. let no : ⊥ = cc in no;
}
of_ends before after (TargetRefused r) e = absurd e
of_ends before after (NotFound what) e = record {
  target = refl;
  entropy = refl;
  output = λ o. absurd
      (let no : ⊥ = cc in no);
  used = λ n o. let no : ⊥ = cc in no;
}
of_ends before after (Taken name) e = absurd e
of_ends before after (Limit limit) e = absurd e

prints_ends : (IsText : Files → List ℕ → Type 0) (Refuses : Files → Refusal → Type 0) (source : Option Told) (before after : Written) (status : Status)
    → Prints IsText Refuses source before status after → Ends before status after
prints_ends IsText Refuses source before after Done p = tt
prints_ends IsText Refuses source before after No p = tt
prints_ends IsText Refuses source before after (Usage n) p = absurd p
prints_ends IsText Refuses source before after Memory p = tt
prints_ends IsText Refuses source before after SourceDevice p = tt
prints_ends IsText Refuses source before after TargetDevice p = absurd p
prints_ends IsText Refuses source before after EntropyDevice p = absurd p
prints_ends IsText Refuses source before after OutputDevice p = p.3
prints_ends IsText Refuses source before after (SourceRefused r) p = tt
prints_ends IsText Refuses source before after (TargetRefused r) p = absurd p
prints_ends IsText Refuses source before after (NotFound what) p = tt
prints_ends IsText Refuses source before after (Taken name) p = absurd p
prints_ends IsText Refuses source before after (Limit limit) p = absurd p

shows_ends : (IsText IsFront : Files → List ℕ → Type 0) (Refuses : Files → Refusal → Type 0) (Lacks : Files → List ℕ → Type 0) (source : Option Told)
    (before after : Written) (status : Status) → PrintsAsRead IsText IsFront Refuses Lacks source before status after → Ends before status after
shows_ends IsText IsFront Refuses Lacks source before after Done p = tt
shows_ends IsText IsFront Refuses Lacks source before after No p = tt
shows_ends IsText IsFront Refuses Lacks source before after (Usage n) p = absurd p
shows_ends IsText IsFront Refuses Lacks source before after Memory p = tt
shows_ends IsText IsFront Refuses Lacks source before after SourceDevice p = tt
shows_ends IsText IsFront Refuses Lacks source before after TargetDevice p = absurd p
shows_ends IsText IsFront Refuses Lacks source before after EntropyDevice p = absurd p
shows_ends IsText IsFront Refuses Lacks source before after OutputDevice p = p.3
shows_ends IsText IsFront Refuses Lacks source before after (SourceRefused r) p = tt
shows_ends IsText IsFront Refuses Lacks source before after (TargetRefused r) p = absurd p
shows_ends IsText IsFront Refuses Lacks source before after (NotFound what) p = tt
shows_ends IsText IsFront Refuses Lacks source before after (Taken name) p = absurd p
shows_ends IsText IsFront Refuses Lacks source before after (Limit limit) p = absurd p

checks_ends : (secret : Secret) (source : Option Told) (before after : Written) (status : Status) → Checks secret source before status after
    → Ends before status after
checks_ends secret source before after Done p = tt
checks_ends secret source before after No p = tt
checks_ends secret source before after (Usage n) p = absurd p
checks_ends secret source before after Memory p = tt
checks_ends secret source before after SourceDevice p = tt
checks_ends secret source before after TargetDevice p = absurd p
checks_ends secret source before after EntropyDevice p = absurd p
checks_ends secret source before after OutputDevice p = p.3.1
checks_ends secret source before after (SourceRefused r) p = tt
checks_ends secret source before after (TargetRefused r) p = absurd p
checks_ends secret source before after (NotFound what) p = tt
checks_ends secret source before after (Taken name) p = absurd p
checks_ends secret source before after (Limit limit) p = absurd p

pub of_prints : (IsText : Files → List ℕ → Type 0) (Refuses : Files → Refusal → Type 0) (source : Option Told) (before after : Written) (status : Status)
    → Prints IsText Refuses source before status after → IsOfSource before after status
of_prints IsText Refuses source before after status p = of_ends before after status (prints_ends IsText Refuses source before after status p)

pub of_shows : (IsText IsFront : Files → List ℕ → Type 0) (Refuses : Files → Refusal → Type 0) (Lacks : Files → List ℕ → Type 0) (source : Option Told)
    (before after : Written) (status : Status) → PrintsAsRead IsText IsFront Refuses Lacks source before status after → IsOfSource before after status
of_shows IsText IsFront Refuses Lacks source before after status p =
    of_ends before after status (shows_ends IsText IsFront Refuses Lacks source before after status p)

pub of_checks : (secret : Secret) (source : Option Told) (before after : Written) (status : Status) → Checks secret source before status after
    → IsOfSource before after status
of_checks secret source before after status p = of_ends before after status (checks_ends secret source before after status p)

-- ---- `make-key`

-- what a status of it says
pub record IsOfKey (before after : Written) (status : Status) : Type 0 where
  pub source : source_failed status ≡ false
  pub target : target_failed status ≡ false
  pub output : output_failed status ≡ true → Rose before.faults after.faults
  pub used : (n : ℕ) → status ≡ Usage n → ⊥

pub of_key : (IsText : List ℕ → Type 0) (before after : Written) (status : Status) → PrintsKey IsText before status after → IsOfKey before after status
of_key IsText before after Done p = record { source = refl; target = refl; output = λ o. absurd (let no : ⊥ = cc in no); used = λ n o. let no : ⊥ = cc in no }
of_key IsText before after No p = absurd p
of_key IsText before after (Usage n) p = absurd p
of_key IsText before after Memory p = record { source = refl; target = refl; output = λ o. absurd (let no : ⊥ = cc in no); used = λ n o. let no : ⊥ = cc in no }
of_key IsText before after SourceDevice p = absurd p
of_key IsText before after TargetDevice p = absurd p
of_key IsText before after EntropyDevice p = record {
  source = refl;
  target = refl;
  output = λ o. absurd
      (let no : ⊥ = cc in no);
  used = λ n o. let no : ⊥ = cc in no;
}
of_key IsText before after OutputDevice p = record { source = refl; target = refl; output = λ o. p.3; used = λ n o. let no : ⊥ = cc in no }
of_key IsText before after (SourceRefused r) p = absurd p
of_key IsText before after (TargetRefused r) p = absurd p
of_key IsText before after (NotFound what) p = absurd p
of_key IsText before after (Taken name) p = absurd p
of_key IsText before after (Limit limit) p = absurd p

-- ---- `init`

-- what a status of it says
pub record IsOfInit (status : Status) : Type 0 where
  pub source : source_failed status ≡ false
  pub output : output_failed status ≡ false
  pub used : (n : ℕ) → status ≡ Usage n → ⊥

done_is : IsOfInit Done
done_is = record { source = refl; output = refl; used = λ n o. let no : ⊥ = cc in no }

of_refusal : (status : Status) → IsOfStore status → IsOfInit status
of_refusal status is = record { source = is.source; output = is.output; used = is.used }

pub of_init : (secret : Secret) (timestamp : List ℕ) (target : Option Told) (status : Status)
    → (status ≡ Done) ⊎ IsRefusedBy store_status (λ refusal. IfSome target (λ t. RefusesInit secret timestamp t.history refusal)) status
    → IsOfInit status
of_init secret timestamp target status (inl e) = subst IsOfInit (sym e) done_is
of_init secret timestamp target status (inr r) = subst IsOfInit (sym r.status_is) (of_refusal _ (of_store r.fault))

-- ---- the fault line

reported : (status : Status) (n : ℕ) (between after : Written) → (output_failed status ≡ true → Rose n between.faults) → Reports status between after
    → output_failed status ≡ true → Rose n after.faults
reported Done n between after rose r e = absurd (let no : ⊥ = cc in no)
reported No n between after rose r e = absurd (let no : ⊥ = cc in no)
reported (Usage word) n between after rose r e = absurd (let no : ⊥ = cc in no)
reported Memory n between after rose r e = absurd (let no : ⊥ = cc in no)
reported SourceDevice n between after rose r e = absurd (let no : ⊥ = cc in no)
reported TargetDevice n between after rose r e = absurd (let no : ⊥ = cc in no)
reported EntropyDevice n between after rose r e = absurd (let no : ⊥ = cc in no)
reported OutputDevice n between after rose r e = subst (λ (w : Written). Rose n w.faults) (sym r) (rose e)
reported (SourceRefused refusal) n between after rose r e = absurd (let no : ⊥ = cc in no)
reported (TargetRefused refusal) n between after rose r e = absurd (let no : ⊥ = cc in no)
reported (NotFound what) n between after rose r e = absurd (let no : ⊥ = cc in no)
reported (Taken name) n between after rose r e = absurd (let no : ⊥ = cc in no)
reported (Limit limit) n between after rose r e = absurd (let no : ⊥ = cc in no)

-- ---- the first act

-- a target that isn't used
unused_first : (before after : Devices) → after.target ≡ before.target → Between before.target.told after.target.told SettlesFirst
unused_first before after same =
    subst (λ (s : Target). Between before.target.told s.told SettlesFirst) (sym same) (here_each SettlesFirst before.target.told first_here)

first_of : (words : Result Command ℕ) (secrets : Secrets) (before after : Devices) (status : Status) → DoesCommand words secrets before status after
    → Between before.target.told after.target.told SettlesFirst
first_of (Ok Keys) secrets before after status does = unused_first before after does.target
first_of (Ok Key) secrets before after status does = unused_first before after does.target
first_of (Ok ListArchives) secrets before after status does = unused_first before after does.target
first_of (Ok (ListItems name)) secrets before after status does = unused_first before after does.target
first_of (Ok (Extract name path)) secrets before after status does = unused_first before after does.target
first_of (Ok Check) secrets before after status does = unused_first before after does.target
first_of (Ok (MakeKey iterations)) secrets before after status does = unused_first before after does.target
first_of (Ok (Init iterations timestamp)) secrets before after status does =
    between_map before.target.told after.target.told _ SettlesFirst (λ h g each. each.1.1.1) does.each
first_of (Ok (Transfer block checkpoint timestamp names)) secrets before after status does =
    between_map before.target.told after.target.told _ SettlesFirst (λ h g each. each.1.1.1) does.each
first_of (Ok (Delete timestamp name)) secrets before after status does =
    between_map before.target.told after.target.told _ SettlesFirst (λ h g each. each.1.1.1) does.changes.each
first_of (Ok (Compact threshold)) secrets before after status does =
    between_map before.target.told after.target.told _ SettlesFirst (λ h g each. each.1.1.1) does.each
first_of (Ok (TagArchives timestamp)) secrets before after status does =
    between_map before.target.told after.target.told _ SettlesFirst (λ h g each. each.1.1.1) does.changes.each
first_of (Ok (Plan block names)) secrets before after status does =
    read_first {T = Unit {0}} {F = Bool} (λ failed. failed) before.target.told after.target.told (Err (target_failed status)) does.target
first_of (Ok (Drill count)) secrets before after status does = does.first
first_of (Err word) secrets before after status does = unused_first before after (ap (λ (d : Devices). d.target) does)

pub runs_reported : (words : Result Command ℕ) (secrets : Secrets) (before after : Devices) (between : Written) (status : Status)
    → DoesCommand words secrets before status (record after { output = between }) → HasCauses status before (record after { output = between })
    → Reports status between after.output → Runs words secrets before status after
runs_reported words secrets before after between status does causes reports = record {
  between = between;
  command = does;
  report = reports;
  first = first_of words secrets before (record after { output = between }) status does;
  causes = record {
    source = causes.source;
    kept = causes.kept;
    target = causes.target;
    target_ends = causes.target_ends;
    entropy = causes.entropy;
    output = reported status before.output.faults between after.output causes.output reports;
  };
}

-- ---- a run that memory refused before its command

each_told : (secret : Secret) (told : Option Told) → Between told told (CommandEach secret)
each_told secret None = tt
each_told secret (Some t) = (t, refl, each_command secret t.history t.history refl (each_here secret t.history))

memory_told : (secret : Secret) (timestamp : List ℕ) (told : Option Told) → IfSome told (λ t. RefusesInit secret timestamp t.history Store.Memory)
memory_told secret timestamp None = tt
memory_told secret timestamp (Some t) = λ e. tt

pub does_nothing : (words : Result Command ℕ) (secrets : Secrets) (all : Devices) → DoesCommand words secrets all Memory all
does_nothing (Ok Keys) secrets all = record { shows = inl refl; target = refl; entropy = refl }
does_nothing (Ok Key) secrets all = record { shows = inl refl; target = refl; entropy = refl }
does_nothing (Ok ListArchives) secrets all = record { shows = inl refl; target = refl; entropy = refl }
does_nothing (Ok (ListItems name)) secrets all = record { shows = inl refl; target = refl; entropy = refl }
does_nothing (Ok (Extract name path)) secrets all = record { shows = inl refl; target = refl; entropy = refl }
does_nothing (Ok Check) secrets all = record { shows = inl refl; target = refl; entropy = refl }
does_nothing (Ok (Init iterations timestamp)) secrets all = record {
  source = refl;
  output = refl;
  made = λ e. absurd (let no : ⊥ = cc in no);
  each = each_told secrets.target all.target.told;
  refused = inr (record { fault = Store.Memory; status_is = refl; refuses = memory_told secrets.target (time_or timestamp) all.target.told });
}
does_nothing (Ok (MakeKey iterations)) secrets all = record { source = refl; target = refl; prints = inl refl }
does_nothing (Ok (Transfer block checkpoint timestamp names)) secrets all =
    transfers_nothing (asked secrets (record { block = block; checkpoint = checkpoint; timestamp = timestamp }) names all.source.told) all
does_nothing (Ok (Plan block names)) secrets all = plans_nothing (planned_for secrets block names all.source.told) all
does_nothing (Ok (Delete timestamp name)) secrets all = deletes_nothing (deletion secrets.target name timestamp) all
does_nothing (Ok (Compact threshold)) secrets all = compacts_nothing threshold all
does_nothing (Ok (TagArchives timestamp)) secrets all = tags_nothing secrets.target timestamp all
does_nothing (Ok (Drill count)) secrets all = drills_nothing count all
does_nothing (Err word) secrets all = refl
