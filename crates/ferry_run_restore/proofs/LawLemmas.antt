-- Lemmas on specs/Restoring.antt: what is restored where nothing is in the way, and what is refused where the tree isn't empty.
use Rattle.std.proofs.Common.{◌≡◌, ◌⊎◌, inl, inr, ℕ, true, false, List, Option, Some, None, Ok, refl, sym, ◌∙◌, subst}
use Rattle.ferry_disk.specs.Device.{Told, told_files}
use Rattle.ferry_disk.specs.Files.{Files}
use Rattle.ferry_manifest.specs.declared.manifest.ArchiveRef.{ArchiveRef}
use Rattle.ferry_repo.proofs.ContentLemmas.{one_record, record_apart}
use Rattle.ferry_repo.proofs.LawLemmas.{one_repo, repo_apart}
use Rattle.ferry_repo.specs.Archives.{archive_named, HoldsRecord, RefusesRecord}
use Rattle.ferry_repo.specs.Fault.{IsOfFiles}
use Rattle.ferry_repo.specs.Opening.{OpensFilesTo, RepoState}
use Rattle.ferry_repo.specs.Walk.{WalkState, begin_walk}
use Rattle.ferry_repo.specs.declared.fault.RepoFault.{RepoFault}
use Rattle.ferry_repo.specs.declared.secret.Secret.{Secret}
use Rattle.ferry_status.specs.Devices.{Written}
use Rattle.ferry_tree.proofs.LawLemmas.{never_both}
use Rattle.ferry_tree.proofs.WholeLemmas.{reads_whole}
use Rattle.ferry_tree.specs.Nodes.{Planted, is_bare}
use Rattle.ferry_tree.specs.Restoring.{IsNamed, RefusesItems, RefusesNamedItems, RefusesNamedRecord, SaysSomething}
use Rattle.ferry_tree.specs.Wholes.{ReadsWhole}
use Rattle.ferry_tree.specs.declared.fault.RestoreFault.{RestoreFault}
use Rattle.ferry_tree.specs.declared.fault.RestoreFault.TheVariants as Faults
use Rattle.ferry_view.specs.Steps.{Begins}
use Rattle.ferry_run_restore.specs.Restored.{counts_line}
use Rattle.ferry_run_restore.specs.Restoring.{CanBeRestored, DoesWords, HasArchive, IsRefusedFull, IsRestoredUnless, RefusesOpened, RefusesOpening, Sends}
use Rattle.ferry_run_restore.specs.declared.restored.Restored.{Restored}
use Rattle.ferry_run_restore.specs.declared.restored.Restored.TheVariants as Ends

-- ---- one archive of a name

same_named : (repo : RepoState) (name : List ℕ) (a b : ArchiveRef) → archive_named name repo.manifest.archives ≡ Some a
    → archive_named name repo.manifest.archives ≡ Some b → a ≡ b
same_named repo name a b ha hb = let both : Some a ≡ Some b = sym ha ∙ hb in cc

named_apart : (repo : RepoState) (name : List ℕ) (a : ArchiveRef) → archive_named name repo.manifest.archives ≡ None
    → archive_named name repo.manifest.archives ≡ Some a → ⊥
named_apart repo name a none some = let no : None ≡ Some a = sym none ∙ some in cc

-- a walk begins in one way
one_begin : (files : Files) (repo : RepoState) (name : List ℕ) (a b : WalkState) → Begins files repo name a → Begins files repo name b → a ≡ b
one_begin files repo name a b ha hb =
    let named : hb.named ≡ ha.named = same_named repo name hb.named ha.named hb.named_is ha.named_is in
    let archive : ha.archive ≡ hb.archive =
    one_record files repo.log repo.keys ha.named.id ha.archive hb.archive ha.record_is
    (subst (λ (n : ArchiveRef). HoldsRecord files repo.log repo.keys n.id hb.archive) named hb.record_is) in
    let walk : begin_walk ha.named.id ha.archive.items ≡ begin_walk hb.named.id hb.archive.items = rw (named, archive) refl in
    ha.walk_is ∙ walk ∙ sym hb.walk_is

-- ---- where nothing is in the way

module _ (files : Files) (secret : Secret) (name : List ℕ) (can : CanBeRestored files secret name) where
  reads : ReadsWhole files can.repo name can.whole
  reads = reads_whole files can.repo name can.whole can.is_whole

  items_never : (fault : RestoreFault) → SaysSomething fault → RefusesNamedItems files can.repo name fault → ⊥
  items_never fault says refuses =
      let tree = can.placed reads.reads reads.are_of in
      let walk = one_begin files can.repo name refuses.0 reads.walk refuses.1.0 reads.begins in
      never_both files can.repo name reads.walk reads.items reads.reads tree.0 fault reads.begins reads.come reads.are tree.1 says
      (subst (λ (w : WalkState). RefusesItems files can.repo w fault) walk refuses.1.1)

  record_never : (fault : RepoFault) → IsOfFiles fault → RefusesNamedRecord files can.repo name fault → ⊥
  record_never fault of_files refuses =
      let named = same_named can.repo name refuses.0 reads.begins.named refuses.1.0 reads.begins.named_is in
      record_apart files can.repo.log can.repo.keys reads.begins.named.id reads.begins.archive fault reads.begins.record_is of_files
      (subst (λ (n : ArchiveRef). RefusesRecord files can.repo.log can.repo.keys n.id fault) named refuses.1.1)

  either_never : (fault : RepoFault) → IsOfFiles fault
      → RefusesNamedRecord files can.repo name fault ⊎ RefusesNamedItems files can.repo name (Faults.Source fault) → ⊥
  either_never fault of_files (inl refuses) = record_never fault of_files refuses
  either_never fault of_files (inr refuses) = items_never (Faults.Source fault) of_files refuses

  opened_unless : (before : Planted) → is_bare before ≡ true → (ended : Restored) → RefusesOpened files can.repo name (Some before) ended
      → IsRestoredUnless ended
  opened_unless before empty Ends.Done r = tt
  opened_unless before empty (Ends.Usage word) r = absurd r
  opened_unless before empty Ends.Memory r = tt
  opened_unless before empty Ends.SourceDevice r = tt
  opened_unless before empty Ends.OutputDevice r = tt
  opened_unless before empty (Ends.Source fault) r = absurd (either_never fault r.0 (r.1 r.0).1)
  opened_unless before empty (Ends.Place path fault) r = absurd (items_never (Faults.Place path fault) tt r.1)
  opened_unless before empty (Ends.NotFound what) r = absurd (named_apart can.repo name reads.begins.named r.1 reads.begins.named_is)
  opened_unless before empty Ends.TreeDevice r = tt
  opened_unless before empty Ends.NotEmpty r = absurd (let no : true ≡ false = sym empty ∙ r.1 in let never : ⊥ = cc in never)

-- ---- where the tree isn't empty

opened_full : (files : Files) (repo : RepoState) (name : List ℕ) (before : Planted) → IsNamed repo name → is_bare before ≡ false
    → (ended : Restored) → RefusesOpened files repo name (Some before) ended → IsRefusedFull ended
opened_full files repo name before named full Ends.Done r = absurd r
opened_full files repo name before named full (Ends.Usage word) r = absurd r
opened_full files repo name before named full Ends.Memory r = tt
opened_full files repo name before named full Ends.SourceDevice r = tt
opened_full files repo name before named full Ends.OutputDevice r = absurd r
opened_full files repo name before named full (Ends.Source fault) r =
    absurd (let no : true ≡ false = sym (r.1 r.0).0 ∙ full in let never : ⊥ = cc in never)
opened_full files repo name before named full (Ends.Place path fault) r =
    absurd (let no : true ≡ false = sym r.0 ∙ full in let never : ⊥ = cc in never)
opened_full files repo name before named full (Ends.NotFound what) r = absurd (named_apart repo name named.0 r.1 named.1)
opened_full files repo name before named full Ends.TreeDevice r = tt
opened_full files repo name before named full Ends.NotEmpty r = tt

-- ---- a source that opens

opening_unless : (files : Files) (secret : Secret)
    → ((fault : RepoFault) → IsOfFiles fault → RefusesOpening files secret (Ends.Source fault) → ⊥)
    → (X : Restored → Type 0) → X Ends.Memory → X Ends.SourceDevice
    → (ended : Restored) → RefusesOpening files secret ended → X ended
opening_unless files secret never X memory device Ends.Done r = absurd r
opening_unless files secret never X memory device (Ends.Usage word) r = absurd r
opening_unless files secret never X memory device Ends.Memory r = memory
opening_unless files secret never X memory device Ends.SourceDevice r = device
opening_unless files secret never X memory device Ends.OutputDevice r = absurd r
opening_unless files secret never X memory device (Ends.Source fault) r = absurd (never fault r.0 r)
opening_unless files secret never X memory device (Ends.Place path fault) r = absurd r
opening_unless files secret never X memory device (Ends.NotFound what) r = absurd r
opening_unless files secret never X memory device Ends.TreeDevice r = absurd r
opening_unless files secret never X memory device Ends.NotEmpty r = absurd r

sends_unless : (text : List ℕ) (before after : Written) (ended : Restored) → Sends text before ended after → IsRestoredUnless ended
sends_unless text before after Ends.Done s = tt
sends_unless text before after (Ends.Usage word) s = absurd s
sends_unless text before after Ends.Memory s = tt
sends_unless text before after Ends.SourceDevice s = absurd s
sends_unless text before after Ends.OutputDevice s = tt
sends_unless text before after (Ends.Source fault) s = absurd s
sends_unless text before after (Ends.Place path fault) s = absurd s
sends_unless text before after (Ends.NotFound what) s = absurd s
sends_unless text before after Ends.TreeDevice s = absurd s
sends_unless text before after Ends.NotEmpty s = absurd s

source_never : (files : Files) (secret : Secret) (repo : RepoState) → OpensFilesTo files secret repo → (fault : RepoFault) → IsOfFiles fault
    → RefusesOpening files secret (Ends.Source fault) → ⊥
source_never files secret repo opens fault of_files r = repo_apart files secret repo fault opens r.0 r.1

pub completes : (source : Told) (secret : Secret) (name : List ℕ) (before : Planted) (after : Option Planted) (output printed : Written) (ended : Restored)
    → CanBeRestored (told_files source) secret name → is_bare before ≡ true
    → DoesWords (Ok name) (Some source) secret (Some before) output ended after printed → IsRestoredUnless ended
completes source secret name before after output printed ended can empty (inl done) = sends_unless (counts_line done.0) output printed ended done.1.1
completes source secret name before after output printed ended can empty (inr (same, (leaves, inl r))) =
    opening_unless (told_files source) secret (source_never (told_files source) secret can.repo can.opens) IsRestoredUnless tt tt ended r
completes source secret name before after output printed ended can empty (inr (same, (leaves, inr (repo, (opens, r))))) =
    let one = one_repo (told_files source) secret repo can.repo opens can.opens in
    opened_unless (told_files source) secret name can before empty ended
    (subst (λ (p : RepoState). RefusesOpened (told_files source) p name (Some before) ended) one r)

pub refuses_full : (source : Told) (secret : Secret) (name : List ℕ) (before : Planted) (after : Option Planted) (output printed : Written) (ended : Restored)
    → HasArchive (told_files source) secret name → is_bare before ≡ false
    → DoesWords (Ok name) (Some source) secret (Some before) output ended after printed → IsRefusedFull ended
refuses_full source secret name before after output printed ended has full (inl done) =
    absurd (let no : true ≡ false = sym done.1.0.1.1.empty ∙ full in let never : ⊥ = cc in never)
refuses_full source secret name before after output printed ended has full (inr (same, (leaves, inl r))) =
    opening_unless (told_files source) secret (source_never (told_files source) secret has.repo has.opens) IsRefusedFull tt tt ended r
refuses_full source secret name before after output printed ended has full (inr (same, (leaves, inr (repo, (opens, r))))) =
    let one = one_repo (told_files source) secret repo has.repo opens has.opens in
    opened_full (told_files source) has.repo name before has.named full ended
    (subst (λ (p : RepoState). RefusesOpened (told_files source) p name (Some before) ended) one r)
