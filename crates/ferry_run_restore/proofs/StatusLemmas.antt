-- Lemmas on the statuses of specs/Restored.antt: which fault has which.
use Rattle.std.proofs.Common.{◌≡◌, inl, inr, ℕ, List, [], ◌++◌, Option, Some, None, option_map, IfSome, Result, Ok, Err, true, false, refl, sym, subst}
use Rattle.std.proofs.Common.{ap, ◌∙◌}
use Rattle.std.proofs.lemmas.List.{append-nil}
use Rattle.ferry_disk.specs.Device.{Rose, Told, told_files}
use Rattle.ferry_disk.specs.Files.{Files}
use Rattle.ferry_disk.specs.declared.sink.SinkFault.TheVariants as Sinks
use Rattle.ferry_repo.specs.Fault.{IsOfFiles, repo_failed}
use Rattle.ferry_repo.specs.Opening.{RefusesRepo, RepoState}
use Rattle.ferry_repo.specs.declared.fault.RepoFault.{RepoFault}
use Rattle.ferry_repo.specs.declared.fault.RepoFault.TheVariants as Repos
use Rattle.ferry_repo.specs.declared.secret.Secret.{Secret}
use Rattle.ferry_status.specs.Devices.{Written}
use Rattle.ferry_status.specs.Output.{IsSent}
use Rattle.ferry_tree.specs.Faults.{source_failed as archive_failed, tree_lost}
use Rattle.ferry_tree.specs.Nodes.{Planted}
use Rattle.ferry_tree.specs.Restoring.{RefusesArchive}
use Rattle.ferry_tree.specs.declared.fault.RestoreFault.{RestoreFault}
use Rattle.ferry_tree.specs.declared.fault.RestoreFault.TheVariants as Faults
use Rattle.ferry_run_restore.specs.Restored.{output_failed, source_failed, source_status, tree_failed}
use Rattle.ferry_run_restore.specs.Restoring.{Answers, DoesWords, IsStatusOf, RefusesOpened, RefusesOpening, Reports, Sends}
use Rattle.ferry_run_restore.specs.declared.restored.Restored.{Restored}
use Rattle.ferry_run_restore.specs.declared.restored.Restored.TheVariants as Ends

-- what holds of a refused source, of a failed one, and where memory was refused, holds where the source doesn't read
by_source : (X : Restored → Type 0) (fault : RepoFault) → (IsOfFiles fault → X (Ends.Source fault)) → X Ends.SourceDevice → X Ends.Memory
    → X (source_status fault)
by_source X Repos.NoCommit files device memory = files tt
by_source X (Repos.Damaged segment at) files device memory = files tt
by_source X (Repos.Config cause) files device memory = files tt
by_source X (Repos.Key cause) files device memory = files tt
by_source X (Repos.Missing id) files device memory = files tt
by_source X (Repos.Blob id cause) files device memory = files tt
by_source X (Repos.Manifest cause) files device memory = files tt
by_source X (Repos.Archive id cause) files device memory = files tt
by_source X (Repos.Item id cause) files device memory = files tt
by_source X (Repos.Size id) files device memory = files tt
by_source X (Repos.KeyFile cause) files device memory = files tt
by_source X (Repos.Other file config) files device memory = files tt
by_source X Repos.NoKey files device memory = files tt
by_source X Repos.Device files device memory = device
by_source X Repos.Memory files device memory = memory

-- ---- whose device failed

pub failed_of_source : (fault : RepoFault) → source_failed (source_status fault) ≡ repo_failed fault
failed_of_source Repos.NoCommit = refl
failed_of_source (Repos.Damaged segment at) = refl
failed_of_source (Repos.Config cause) = refl
failed_of_source (Repos.Key cause) = refl
failed_of_source (Repos.Missing id) = refl
failed_of_source (Repos.Blob id cause) = refl
failed_of_source (Repos.Manifest cause) = refl
failed_of_source (Repos.Archive id cause) = refl
failed_of_source (Repos.Item id cause) = refl
failed_of_source (Repos.Size id) = refl
failed_of_source (Repos.KeyFile cause) = refl
failed_of_source (Repos.Other file config) = refl
failed_of_source Repos.NoKey = refl
failed_of_source Repos.Device = refl
failed_of_source Repos.Memory = refl

pub still_of_source : (fault : RepoFault) → tree_failed (source_status fault) ≡ false
still_of_source fault = by_source (λ (e : Restored). tree_failed e ≡ false) fault (λ files. refl) refl refl

pub status_source : (fault : RestoreFault) (name : List ℕ) (ended : Restored) → IsStatusOf fault name ended → source_failed ended ≡ archive_failed fault
status_source (Faults.Source fault) name ended is = ap source_failed is ∙ failed_of_source fault
status_source (Faults.Place path fault) name ended is = ap source_failed is
status_source Faults.NotFound name ended (inl is) = ap source_failed is
status_source Faults.NotFound name ended (inr is) = ap source_failed is
status_source Faults.NotEmpty name ended is = ap source_failed is
status_source Faults.Tree name ended is = ap source_failed is
status_source Faults.Memory name ended is = ap source_failed is

pub status_tree : (fault : RestoreFault) (name : List ℕ) (ended : Restored) → IsStatusOf fault name ended → tree_failed ended ≡ tree_lost fault
status_tree (Faults.Source fault) name ended is = ap tree_failed is ∙ still_of_source fault
status_tree (Faults.Place path fault) name ended is = ap tree_failed is
status_tree Faults.NotFound name ended (inl is) = ap tree_failed is
status_tree Faults.NotFound name ended (inr is) = ap tree_failed is
status_tree Faults.NotEmpty name ended is = ap tree_failed is
status_tree Faults.Tree name ended is = ap tree_failed is
status_tree Faults.Memory name ended is = ap tree_failed is

-- ---- what a status says

status_refuses : (files : Files) (repo : RepoState) (name : List ℕ) (before : Option Planted) (fault : RestoreFault) (ended : Restored)
    → IsStatusOf fault name ended → RefusesArchive files repo name before fault → RefusesOpened files repo name before ended
status_refuses files repo name before (Faults.Source fault) ended is r =
    subst (λ (e : Restored). RefusesOpened files repo name before e) (sym is)
    (by_source (RefusesOpened files repo name before) fault (λ of_files. (of_files, r)) tt tt)
status_refuses files repo name before (Faults.Place path fault) ended is r = subst (λ (e : Restored). RefusesOpened files repo name before e) (sym is) r
status_refuses files repo name before Faults.NotFound ended (inl is) r =
    subst (λ (e : Restored). RefusesOpened files repo name before e) (sym is) (refl, r)
status_refuses files repo name before Faults.NotFound ended (inr is) r = subst (λ (e : Restored). RefusesOpened files repo name before e) (sym is) tt
status_refuses files repo name before Faults.NotEmpty ended is r = subst (λ (e : Restored). RefusesOpened files repo name before e) (sym is) r
status_refuses files repo name before Faults.Tree ended is r = subst (λ (e : Restored). RefusesOpened files repo name before e) (sym is) tt
status_refuses files repo name before Faults.Memory ended is r = subst (λ (e : Restored). RefusesOpened files repo name before e) (sym is) tt

pub refused_so : (told : Option Told) (repo : RepoState) (name : List ℕ) (before : Option Planted) (fault : RestoreFault) (ended : Restored)
    → IsStatusOf fault name ended → IfSome told (λ t. RefusesArchive (told_files t) repo name before fault)
    → IfSome told (λ t. RefusesOpened (told_files t) repo name before ended)
refused_so None repo name before fault ended is r = tt
refused_so (Some t) repo name before fault ended is r = status_refuses (told_files t) repo name before fault ended is r

pub unopened : (told : Option Told) (secret : Secret) (fault : RepoFault) → IfSome told (λ t. RefusesRepo (told_files t) secret fault)
    → IfSome told (λ t. RefusesOpening (told_files t) secret (source_status fault))
unopened None secret fault r = tt
unopened (Some t) secret fault r = by_source (RefusesOpening (told_files t) secret) fault (λ of_files. (of_files, r)) tt tt

-- ---- what the words say

pub named_does : (words : Result (List ℕ) ℕ) (name shown : List ℕ) (told : Option Told) (secret : Secret) (before after : Option Planted)
    (output printed : Written) (ended : Restored) → words ≡ Ok name → shown ≡ name
    → Answers told secret shown before output ended after printed → DoesWords words told secret before output ended after printed
named_does words name shown told secret before after output printed ended is same answers =
    subst (λ (w : Result (List ℕ) ℕ). DoesWords w told secret before output ended after printed) (sym is)
    (subst (λ (n : List ℕ). Answers told secret n before output ended after printed) same answers)

-- ---- fault lines

nothing_more : (before : Option (List ℕ)) → before ≡ option_map (λ w. w ++ []) before
nothing_more None = refl
nothing_more (Some bytes) = ap Some (sym (append-nil bytes))

-- where a text was sent and the output failed, its count of faults rose
pub sends_cause : (text : List ℕ) (before : Written) (ended : Restored) (after : Written) → Sends text before ended after → output_failed ended ≡ true
    → Rose before.faults after.faults
sends_cause text before Ends.OutputDevice after sent is = sent.1
sends_cause text before Ends.Done after sent is = absurd (let no : ⊥ = cc in no)
sends_cause text before Ends.Memory after sent is = absurd (let no : ⊥ = cc in no)
sends_cause text before (Ends.Usage word) after sent is = absurd sent
sends_cause text before Ends.SourceDevice after sent is = absurd sent
sends_cause text before (Ends.Source fault) after sent is = absurd sent
sends_cause text before (Ends.Place path fault) after sent is = absurd sent
sends_cause text before (Ends.NotFound name) after sent is = absurd sent
sends_cause text before Ends.TreeDevice after sent is = absurd sent
sends_cause text before Ends.NotEmpty after sent is = absurd sent

-- where the output failed, no fault line is written, so its count of faults stays
pub sent_cause : (ended : Restored) (faults : ℕ) (between after : Written) → (output_failed ended ≡ true → Rose faults between.faults)
    → Reports ended between after → output_failed ended ≡ true → Rose faults after.faults
sent_cause Ends.OutputDevice faults between after rose same is = subst (λ (w : Written). Rose faults w.faults) (sym same) (rose is)
sent_cause Ends.Done faults between after rose same is = absurd (let no : ⊥ = cc in no)
sent_cause (Ends.Usage word) faults between after rose same is = absurd (let no : ⊥ = cc in no)
sent_cause Ends.Memory faults between after rose same is = absurd (let no : ⊥ = cc in no)
sent_cause Ends.SourceDevice faults between after rose same is = absurd (let no : ⊥ = cc in no)
sent_cause (Ends.Source fault) faults between after rose same is = absurd (let no : ⊥ = cc in no)
sent_cause (Ends.Place path fault) faults between after rose same is = absurd (let no : ⊥ = cc in no)
sent_cause (Ends.NotFound name) faults between after rose same is = absurd (let no : ⊥ = cc in no)
sent_cause Ends.TreeDevice faults between after rose same is = absurd (let no : ⊥ = cc in no)
sent_cause Ends.NotEmpty faults between after rose same is = absurd (let no : ⊥ = cc in no)

-- a line for which there was no memory
pub unsent : (line : List ℕ) (output : Written) → IsSent line output output
unsent line output = record { answer = Err Sinks.Memory; ok = tt; err = record { front = 0; written = nothing_more output.bytes }; cause = refl }
