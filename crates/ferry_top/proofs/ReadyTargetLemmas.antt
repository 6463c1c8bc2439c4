-- Lemmas on the commands that write a target, and on all: that they end as they should where what they ask is there.
use Rattle.std.proofs.Common.{◌≡◌, ◌⊎◌, inl, inr, ℕ, false, List, [], Option, Some, None, Ok, IfSome, refl, sym, ◌∙◌, subst}
use Rattle.ferry_disk.specs.Device.{Told, told_files}
use Rattle.ferry_disk.specs.Files.{Files, contents_at}
use Rattle.ferry_disk.specs.declared.name.Name.TheVariants.{Config}
use Rattle.ferry_repo.specs.Opening.{RefusesKey, RefusesRepo, RepoState}
use Rattle.ferry_repo.specs.declared.fault.RepoFault.TheVariants as Repos
use Rattle.ferry_repo.specs.declared.secret.Secret.{Secret}
use Rattle.ferry_run_compact.proofs.CompactCauseLemmas.{compact_completes}
use Rattle.ferry_run_compact.specs.Compact.{IsCompactedUnless, ReadsTarget, RefusesCompacting}
use Rattle.ferry_run_delete.specs.Delete.{DeletesDone, LimitsDeletion}
use Rattle.ferry_run_delete.proofs.ShowLemmas.{Deletion, deletion}
use Rattle.ferry_run_plan.proofs.PlanCauseLemmas.{plan_completes}
use Rattle.ferry_run_plan.specs.Planning.{CanBePlanned, IsPlannedUnless, PrintsPlan, planned_for}
use Rattle.ferry_run_tag.specs.Tag.{BreaksNew, LimitsTagging, OpensNew, TagsDone}
use Rattle.ferry_run_tag.proofs.ShowLemmas.{Tagging, tagging}
use Rattle.ferry_carry.specs.States.{Drawn, drawn_from}
use Rattle.ferry_run_transfer.specs.Transfer.{Request, asked}
use Rattle.ferry_run_transfer.specs.TransferCauses.{EndsDone, IsDoneUnless as IsCopiedUnless, MeetsLimit}
use Rattle.ferry_status.specs.Devices.{Devices, IsRefusedBy, Written}
use Rattle.ferry_status.specs.Status.{entropy_failed, store_status, target_failed}
use Rattle.ferry_status.specs.declared.status.Limit.{Limit as LimitKind}
use Rattle.ferry_status.specs.declared.status.Refusal.TheVariants.{Repo, Nonce, Committed}
use Rattle.ferry_status.specs.declared.status.Secrets.{Secrets}
use Rattle.ferry_status.specs.declared.status.Status.{Status}
use Rattle.ferry_status.specs.declared.status.Status.TheVariants.{Done, No, Usage, Memory, SourceDevice, TargetDevice, EntropyDevice, OutputDevice}
use Rattle.ferry_status.specs.declared.status.Status.TheVariants.{SourceRefused, TargetRefused, Taken, NotFound, Limit}
use Rattle.ferry_status.specs.Opened.{IsDoneUnless}
use Rattle.ferry_status.specs.Output.{PrintsText}
use Rattle.ferry_stops.specs.Tells.{lines_of}
use Rattle.ferry_top.proofs.InitLemmas.{init_completes}
use Rattle.ferry_top.specs.Init.{IsFault, IsReady, time_or}
use Rattle.ferry_top.specs.Items.{LacksArchive, LacksPath, RefusesShowing, ShowsAsRead, ShowsWhole}
use Rattle.ferry_top.specs.Key.{IsIdLine}
use Rattle.ferry_top.specs.Keys.{IsListing, RefusesKeys}
use Rattle.ferry_top.specs.List.{IsArchiveListing, RefusesBy}
use Rattle.ferry_top.specs.MakeKey.{IsDrawnKey, PrintsKey}
use Rattle.ferry_top.specs.Ready.{HasShown, IsDoneOr, IsReadyTo, Meets, Tells}
use Rattle.ferry_top.specs.Run.{DoesCommand, Shows}
use Rattle.ferry_view.specs.Items.{IsFile, IsFileText, IsItemListing, IsItemText, RefusesFile, RefusesItems}
use Rattle.ferry_view.specs.declared.fault.ViewFault.TheVariants as View
use Rattle.ferry_words.specs.declared.command.Command.{Command}
use Rattle.ferry_words.specs.declared.command.Command.TheVariants.{Keys, Key, List as ListArchives, ListItems, Extract, Check}
use Rattle.ferry_words.specs.declared.command.Command.TheVariants.{Init, MakeKey, Transfer, Plan, Delete, Compact, TagArchives, Drill}
use Rattle.ferry_top.proofs.ReadyLemmas.{prints_done, reads_done, keys_never, key_never, opening_never, items_never, archive_there, file_never}
use Rattle.ferry_top.proofs.ReadyLemmas.{path_there, checks_done}
use Rattle.ferry_store.specs.Store.{RefusesInit}

-- ---- the commands of the target

key_done : (IsText : List ℕ → Type 0) (before after : Written) (status : Status) (IsMet : LimitKind → Type 0) → PrintsKey IsText before status after
    → IsDoneOr IsMet status
key_done IsText before after Done IsMet p = tt
key_done IsText before after Memory IsMet p = tt
key_done IsText before after EntropyDevice IsMet p = tt
key_done IsText before after OutputDevice IsMet p = tt
key_done IsText before after SourceDevice IsMet p = absurd p
key_done IsText before after TargetDevice IsMet p = absurd p
key_done IsText before after No IsMet p = absurd p
key_done IsText before after (Usage word) IsMet p = absurd p
key_done IsText before after (SourceRefused refusal) IsMet p = absurd p
key_done IsText before after (TargetRefused refusal) IsMet p = absurd p
key_done IsText before after (Taken name) IsMet p = absurd p
key_done IsText before after (NotFound name) IsMet p = absurd p
key_done IsText before after (Limit limit) IsMet p = absurd p

no_fault : (status : Status) → target_failed status ≡ false → entropy_failed status ≡ false → (status ≡ Memory → ⊥) → IsFault status → ⊥
no_fault status target entropy memory (inl e) = memory e
no_fault status target entropy memory (inr (inl e)) = let both = sym target ∙ e in let no : ⊥ = cc in no
no_fault status target entropy memory (inr (inr e)) = let both = sym entropy ∙ e in let no : ⊥ = cc in no

-- a status of want of memory, or of a device
fault_done : (status : Status) (IsMet : LimitKind → Type 0) → IsFault status → IsDoneOr IsMet status
fault_done Done IsMet f = tt
fault_done Memory IsMet f = tt
fault_done SourceDevice IsMet f = tt
fault_done TargetDevice IsMet f = tt
fault_done EntropyDevice IsMet f = tt
fault_done OutputDevice IsMet f = tt
fault_done No IsMet f = absurd (no_fault No refl refl (λ e. let no : ⊥ = cc in no) f)
fault_done (Usage word) IsMet f = absurd (no_fault (Usage word) refl refl (λ e. let no : ⊥ = cc in no) f)
fault_done (SourceRefused refusal) IsMet f = absurd (no_fault (SourceRefused refusal) refl refl (λ e. let no : ⊥ = cc in no) f)
fault_done (TargetRefused refusal) IsMet f = absurd (no_fault (TargetRefused refusal) refl refl (λ e. let no : ⊥ = cc in no) f)
fault_done (Taken name) IsMet f = absurd (no_fault (Taken name) refl refl (λ e. let no : ⊥ = cc in no) f)
fault_done (NotFound name) IsMet f = absurd (no_fault (NotFound name) refl refl (λ e. let no : ⊥ = cc in no) f)
fault_done (Limit limit) IsMet f = absurd (no_fault (Limit limit) refl refl (λ e. let no : ⊥ = cc in no) f)

init_done : (secret : Secret) (timestamp : List ℕ) (t : Told) (status : Status) (IsMet : LimitKind → Type 0) → t.history.acts ≡ []
    → IsReady secret timestamp (told_files t) → (status ≡ Done) ⊎ IsRefusedBy store_status (λ refusal. RefusesInit secret timestamp t.history refusal) status
    → IsDoneOr IsMet status
init_done secret timestamp t status IsMet begun ready (inl done) = subst (IsDoneOr IsMet) (sym done) tt
init_done secret timestamp t status IsMet begun ready (inr refused) =
    fault_done status IsMet (init_completes secret timestamp t status begun ready refused)

module _ (request : Request) (source start : Files) (lines : List (List ℕ)) (image : Files) (IsMet : LimitKind → Type 0)
    (met : (limit : LimitKind) → MeetsLimit request source start lines image limit → IsMet limit) where
  transfer_done : (status : Status) → IsCopiedUnless request source start lines image status → IsDoneOr IsMet status
  transfer_done Done d = tt
  transfer_done Memory d = tt
  transfer_done SourceDevice d = tt
  transfer_done TargetDevice d = tt
  transfer_done EntropyDevice d = tt
  transfer_done OutputDevice d = tt
  transfer_done (Limit limit) d = met limit d
  transfer_done No d = absurd d
  transfer_done (Usage word) d = absurd d
  transfer_done (SourceRefused refusal) d = absurd d
  transfer_done (TargetRefused refusal) d = absurd d
  transfer_done (Taken name) d = absurd d
  transfer_done (NotFound name) d = absurd d

module _ (asked_for : Deletion) (repo : RepoState) (start image : Files) (IsMet : LimitKind → Type 0)
    (met : (limit : LimitKind) → LimitsDeletion asked_for.name asked_for.timestamp repo start image limit → IsMet limit) where
  delete_done : (status : Status) → IsDoneUnless (LimitsDeletion asked_for.name asked_for.timestamp repo start image) (λ _. ⊥) status → IsDoneOr IsMet status
  delete_done Done d = tt
  delete_done Memory d = tt
  delete_done SourceDevice d = tt
  delete_done TargetDevice d = tt
  delete_done EntropyDevice d = tt
  delete_done OutputDevice d = tt
  delete_done (Limit limit) d = met limit d
  delete_done No d = absurd d
  delete_done (Usage word) d = absurd d
  delete_done (SourceRefused refusal) d = absurd d
  delete_done (TargetRefused refusal) d = absurd d
  delete_done (Taken name) d = absurd d
  delete_done (NotFound name) d = absurd d

module _ (asked_for : Tagging) (repo : RepoState) (files start image : Files) (opens : OpensNew files repo asked_for.drawn asked_for.drawn_now image)
    (IsMet : LimitKind → Type 0)
    (met : (limit : LimitKind) → LimitsTagging asked_for.timestamp repo files start image limit → IsMet limit) where
  tag_done : (status : Status) → IsDoneUnless (LimitsTagging asked_for.timestamp repo files start image)
      (BreaksNew files repo asked_for.drawn asked_for.drawn_now image) status
      → IsDoneOr IsMet status
  tag_done Done d = tt
  tag_done Memory d = tt
  tag_done SourceDevice d = tt
  tag_done TargetDevice d = tt
  tag_done EntropyDevice d = tt
  tag_done OutputDevice d = tt
  tag_done (Limit limit) d = met limit d
  tag_done No d = absurd d
  tag_done (Usage word) d = absurd d
  tag_done (SourceRefused refusal) d = absurd d
  tag_done (TargetRefused (Repo (Repos.Blob id fault))) d = absurd (opens id fault d.0 d.1)
  tag_done (TargetRefused (Repo Repos.NoCommit)) d = absurd d
  tag_done (TargetRefused (Repo (Repos.Damaged segment at))) d = absurd d
  tag_done (TargetRefused (Repo (Repos.Config cause))) d = absurd d
  tag_done (TargetRefused (Repo (Repos.Key cause))) d = absurd d
  tag_done (TargetRefused (Repo (Repos.Missing id))) d = absurd d
  tag_done (TargetRefused (Repo (Repos.Manifest cause))) d = absurd d
  tag_done (TargetRefused (Repo (Repos.Archive id cause))) d = absurd d
  tag_done (TargetRefused (Repo (Repos.Item id cause))) d = absurd d
  tag_done (TargetRefused (Repo (Repos.Size id))) d = absurd d
  tag_done (TargetRefused (Repo (Repos.KeyFile cause))) d = absurd d
  tag_done (TargetRefused (Repo (Repos.Other file config))) d = absurd d
  tag_done (TargetRefused (Repo Repos.NoKey)) d = absurd d
  tag_done (TargetRefused (Repo Repos.Device)) d = absurd d
  tag_done (TargetRefused (Repo Repos.Memory)) d = absurd d
  tag_done (TargetRefused (Nonce fault)) d = absurd d
  tag_done (TargetRefused Committed) d = absurd d
  tag_done (Taken name) d = absurd d
  tag_done (NotFound name) d = absurd d

module _ (image : Files) (IsMet : LimitKind → Type 0) (met : (limit : LimitKind) → IsCompactedUnless image (Limit limit) → IsMet limit) where
  compact_done : (status : Status) → IsCompactedUnless image status → IsDoneOr IsMet status
  compact_done Done d = tt
  compact_done Memory d = tt
  compact_done SourceDevice d = tt
  compact_done TargetDevice d = tt
  compact_done EntropyDevice d = tt
  compact_done OutputDevice d = tt
  compact_done (Limit limit) d = met limit d
  compact_done No d = absurd d
  compact_done (Usage word) d = absurd d
  compact_done (SourceRefused refusal) d = absurd d
  compact_done (TargetRefused refusal) d = absurd d
  compact_done (Taken name) d = absurd d
  compact_done (NotFound name) d = absurd d

plan_done : (status : Status) (IsMet : LimitKind → Type 0) → IsPlannedUnless status → IsDoneOr IsMet status
plan_done Done IsMet d = tt
plan_done Memory IsMet d = tt
plan_done SourceDevice IsMet d = tt
plan_done TargetDevice IsMet d = tt
plan_done EntropyDevice IsMet d = tt
plan_done OutputDevice IsMet d = tt
plan_done (Limit limit) IsMet d = absurd d
plan_done No IsMet d = absurd d
plan_done (Usage word) IsMet d = absurd d
plan_done (SourceRefused refusal) IsMet d = absurd d
plan_done (TargetRefused refusal) IsMet d = absurd d
plan_done (Taken name) IsMet d = absurd d
plan_done (NotFound name) IsMet d = absurd d

sent_done : (text : List ℕ) (before after : Written) (status : Status) (IsMet : LimitKind → Type 0) → PrintsText (λ sent. sent ≡ text) before status after
    → IsDoneOr IsMet status
sent_done text before after Done IsMet s = tt
sent_done text before after OutputDevice IsMet s = tt
sent_done text before after Memory IsMet s = tt
sent_done text before after SourceDevice IsMet s = absurd s
sent_done text before after TargetDevice IsMet s = absurd s
sent_done text before after EntropyDevice IsMet s = absurd s
sent_done text before after No IsMet s = absurd s
sent_done text before after (Usage word) IsMet s = absurd s
sent_done text before after (SourceRefused refusal) IsMet s = absurd s
sent_done text before after (TargetRefused refusal) IsMet s = absurd s
sent_done text before after (Taken name) IsMet s = absurd s
sent_done text before after (NotFound name) IsMet s = absurd s
sent_done text before after (Limit limit) IsMet s = absurd s

planned_done : (request : Request) (source target : Told) (before after : Written) (status : Status) (IsMet : LimitKind → Type 0)
    → CanBePlanned request (told_files source) (told_files target) → PrintsPlan request (Some source) (Some target) before status after
    → IsDoneOr IsMet status
planned_done request source target before after status IsMet can (inl p) = sent_done p.0 before after status IsMet p.1.1
planned_done request source target before after status IsMet can (inr p) = plan_done status IsMet (plan_completes request source target status can p.1.1)

compacted_done : (b t : Told) (status : Status) (IsMet : LimitKind → Type 0)
    → ((limit : LimitKind) → IsCompactedUnless (told_files t) (Limit limit) → IsMet limit)
    → ReadsTarget (told_files b) → (status ≡ Done) ⊎ RefusesCompacting (told_files b) (told_files t) status → IsDoneOr IsMet status
compacted_done b t status IsMet met ready (inl done) = subst (IsDoneOr IsMet) (sym done) tt
compacted_done b t status IsMet met ready (inr refused) =
    compact_done (told_files t) IsMet met status
    (compact_completes (told_files b) (told_files t) ready.0.0 ready.1.0 status ready.0.1 ready.1.1 refused)

-- ---- all commands

module _ (secrets : Secrets) (drawn : Drawn) (output output_now : Written) (status : Status) where
  -- a command of the source
  shown : (command : Command) (source : Option Told) (IsMet : LimitKind → Type 0) → Tells source (λ s. HasShown command secrets.source (told_files s))
      → Shows command secrets.source source output status output_now → IsDoneOr IsMet status
  shown command None IsMet ready shows = absurd ready
  shown Keys (Some s) IsMet ready shows =
      prints_done IsListing RefusesKeys s output output_now status IsMet (keys_never (told_files s) ready.0 ready.1) shows
  shown Key (Some s) IsMet ready shows =
      prints_done (λ files text. IsIdLine secrets.source (contents_at files Config) text)
      (λ files. RefusesBy (RefusesKey (contents_at files Config) secrets.source)) s output output_now status IsMet
      (key_never secrets.source (contents_at (told_files s) Config) ready.0 ready.1) shows
  shown ListArchives (Some s) IsMet ready shows =
      prints_done (IsArchiveListing secrets.source) (λ files. RefusesBy (RefusesRepo files secrets.source)) s output output_now status IsMet
      (opening_never {P = λ files repo. Unit {0}} secrets.source (told_files s) (record { repo = ready.1.repo; opens = ready.1.opens; holds = tt })) shows
  shown (ListItems name) (Some s) IsMet ready shows =
      reads_done (ShowsWhole secrets.source (λ f r. IsItemListing f r name)) (ShowsAsRead secrets.source (λ f r. IsItemText f r name))
      (RefusesShowing secrets.source (λ files repo. RefusesItems files repo name)) (LacksArchive secrets.source name) s output output_now status IsMet
      (items_never secrets.source name (told_files s) ready.0 ready.1)
      (archive_there secrets.source name (told_files s) ready.0 ready.1) shows
  shown (Extract name path) (Some s) IsMet ready shows =
      reads_done (ShowsWhole secrets.source (λ f r. IsFile f r name path)) (ShowsAsRead secrets.source (λ f r. IsFileText f r name path))
      (RefusesShowing secrets.source (λ files repo. RefusesFile files repo name path)) (LacksPath secrets.source name path) s output output_now status IsMet
      (file_never secrets.source name path (told_files s) ready.0 ready.1)
      (path_there secrets.source name path (told_files s) ready.0 ready.1) shows
  shown Check (Some s) IsMet ready shows = checks_done secrets.source s output output_now status IsMet ready shows
  shown (Init iterations timestamp) (Some s) IsMet ready shows = absurd ready
  shown (MakeKey iterations) (Some s) IsMet ready shows = absurd ready
  shown (Transfer block checkpoint timestamp names) (Some s) IsMet ready shows = absurd ready
  shown (Plan block names) (Some s) IsMet ready shows = absurd ready
  shown (Delete timestamp name) (Some s) IsMet ready shows = absurd ready
  shown (Compact threshold) (Some s) IsMet ready shows = absurd ready
  shown (TagArchives timestamp) (Some s) IsMet ready shows = absurd ready
  shown (Drill count) (Some s) IsMet ready shows = absurd ready

  nothing_shown : (source : Option Told) (P : Type 0) → Tells source (λ s. ⊥) → P
  nothing_shown None P ready = absurd ready
  nothing_shown (Some s) P ready = absurd ready

  made : (iterations : ℕ) (timestamp : Option (List ℕ)) (source before now : Option Told) → IfSome before (λ b. b.history.acts ≡ [])
      → IsReadyTo (Init iterations timestamp) secrets drawn source before now
      → (status ≡ Done) ⊎ IsRefusedBy store_status (λ refusal. IfSome before (λ t. RefusesInit secrets.target (time_or timestamp) t.history refusal)) status
      → IsDoneOr (Meets (Init iterations timestamp) secrets source before now) status
  made iterations timestamp source None now begun ready refused = absurd ready
  made iterations timestamp source (Some b) now begun ready refused =
      init_done secrets.target (time_or timestamp) b status (Meets (Init iterations timestamp) secrets source (Some b) now) begun ready refused

  copied : (block checkpoint : ℕ) (timestamp : Option (List ℕ)) (names : List (List ℕ)) (source before now : Option Told)
      → IfSome before (λ b. b.history.acts ≡ []) → IsReadyTo (Transfer block checkpoint timestamp names) secrets drawn source before now
      → EndsDone (asked secrets (record { block = block; checkpoint = checkpoint; timestamp = timestamp }) names source) drawn before now status
      → IsDoneOr (Meets (Transfer block checkpoint timestamp names) secrets source before now) status
  copied block checkpoint timestamp names None before now begun ready ends = absurd ready
  copied block checkpoint timestamp names (Some s) None now begun ready ends = absurd ready
  copied block checkpoint timestamp names (Some s) (Some b) None begun ready ends = absurd ready
  copied block checkpoint timestamp names (Some s) (Some b) (Some t) begun ready ends =
      transfer_done (asked secrets (record { block = block; checkpoint = checkpoint; timestamp = timestamp }) names (Some s)) (told_files s) (told_files b)
      (lines_of t.history.acts) (told_files t) (Meets (Transfer block checkpoint timestamp names) secrets (Some s) (Some b) (Some t)) (λ limit m. m) status
      (ends begun ready.0 ready.1.0 ready.1.1)

  planned : (block : ℕ) (names : List (List ℕ)) (source before now : Option Told) → IsReadyTo (Plan block names) secrets drawn source before now
      → PrintsPlan (planned_for secrets block names source) source before output status output_now
      → IsDoneOr (Meets (Plan block names) secrets source before now) status
  planned block names None before now ready prints = absurd ready
  planned block names (Some s) None now ready prints = absurd ready
  planned block names (Some s) (Some b) now ready prints =
      planned_done (planned_for secrets block names (Some s)) s b output output_now status (Meets (Plan block names) secrets (Some s) (Some b) now) ready prints

  deleted : (timestamp : Option (List ℕ)) (name : List ℕ) (source before now : Option Told) → IfSome before (λ b. b.history.acts ≡ [])
      → IsReadyTo (Delete timestamp name) secrets drawn source before now → DeletesDone secrets.target name timestamp before now status
      → IsDoneOr (Meets (Delete timestamp name) secrets source before now) status
  deleted timestamp name source None now begun ready done = absurd ready
  deleted timestamp name source (Some b) None begun ready done = absurd ready
  deleted timestamp name source (Some b) (Some t) begun ready done =
      delete_done (deletion secrets.target name timestamp) ready.0.repo t.history.start (told_files t)
      (Meets (Delete timestamp name) secrets source (Some b) (Some t)) (λ limit m. (ready.0.repo, (ready.0.opens, m))) status
      (done begun ready.0 ready.1.0 ready.1.1.0 ready.1.1.1)

  compacted : (threshold : ℕ) (source before now : Option Told) → IsReadyTo (Compact threshold) secrets drawn source before now
      → (status ≡ Done) ⊎ IfSome before (λ b. IfSome now (λ t. RefusesCompacting (told_files b) (told_files t) status))
      → IsDoneOr (Meets (Compact threshold) secrets source before now) status
  compacted threshold source None now ready refused = absurd ready
  compacted threshold source (Some b) None ready refused = absurd ready
  compacted threshold source (Some b) (Some t) ready refused =
      compacted_done b t status (Meets (Compact threshold) secrets source (Some b) (Some t)) (λ limit m. m) ready refused

  tagged : (timestamp : Option (List ℕ)) (source before now : Option Told) → IfSome before (λ b. b.history.acts ≡ [])
      → IsReadyTo (TagArchives timestamp) secrets drawn source before now → TagsDone secrets.target timestamp drawn.before drawn.now before now status
      → IsDoneOr (Meets (TagArchives timestamp) secrets source before now) status
  tagged timestamp source None now begun ready done = absurd ready
  tagged timestamp source (Some b) None begun ready done = absurd ready
  tagged timestamp source (Some b) (Some t) begun ready done =
      tag_done (tagging secrets.target timestamp drawn.before drawn.now) ready.0.repo (told_files b) t.history.start (told_files t) ready.1.1
      (Meets (TagArchives timestamp) secrets source (Some b) (Some t)) (λ limit m. (ready.0.repo, (ready.0.opens, m))) status
      (done begun ready.0 ready.1.0.0 ready.1.0.1)

abbrev drawn_in : Devices → Devices → Drawn
drawn_in before after = drawn_from before.entropy.bytes after.entropy.bytes

pub completes : (command : Command) (secrets : Secrets) (before after : Devices) (status : Status)
    → IfSome before.target.told (λ b. b.history.acts ≡ [])
    → IsReadyTo command secrets (drawn_in before after) before.source.told before.target.told after.target.told
    → DoesCommand (Ok command) secrets before status after
    → IsDoneOr (Meets command secrets before.source.told before.target.told after.target.told) status
completes Keys secrets before after status begun ready does =
    shown secrets (drawn_in before after) before.output after.output status Keys before.source.told _ ready does.shows
completes Key secrets before after status begun ready does =
    shown secrets (drawn_in before after) before.output after.output status Key before.source.told _ ready does.shows
completes ListArchives secrets before after status begun ready does =
    shown secrets (drawn_in before after) before.output after.output status ListArchives before.source.told _ ready does.shows
completes (ListItems name) secrets before after status begun ready does =
    shown secrets (drawn_in before after) before.output after.output status (ListItems name) before.source.told _ ready does.shows
completes (Extract name path) secrets before after status begun ready does =
    shown secrets (drawn_in before after) before.output after.output status (Extract name path) before.source.told _ ready does.shows
completes Check secrets before after status begun ready does =
    shown secrets (drawn_in before after) before.output after.output status Check before.source.told _ ready does.shows
completes (Init iterations timestamp) secrets before after status begun ready does =
    made secrets (drawn_in before after) before.output after.output status iterations timestamp
    before.source.told before.target.told after.target.told begun ready does.refused
completes (MakeKey iterations) secrets before after status begun ready does =
    key_done (IsDrawnKey secrets.target.passphrase iterations before.entropy.bytes after.entropy.bytes) before.output after.output status _ does.prints
completes (Transfer block checkpoint timestamp names) secrets before after status begun ready does =
    copied secrets (drawn_in before after) before.output after.output status block checkpoint timestamp names
    before.source.told before.target.told after.target.told begun ready
    does.completes
completes (Plan block names) secrets before after status begun ready does =
    planned secrets (drawn_in before after) before.output after.output status block names
    before.source.told before.target.told after.target.told ready does.prints
completes (Delete timestamp name) secrets before after status begun ready does =
    deleted secrets (drawn_in before after) before.output after.output status timestamp name
    before.source.told before.target.told after.target.told begun ready does.completes
completes (Compact threshold) secrets before after status begun ready does =
    compacted secrets (drawn_in before after) before.output after.output status threshold
    before.source.told before.target.told after.target.told ready does.refused
completes (TagArchives timestamp) secrets before after status begun ready does =
    tagged secrets (drawn_in before after) before.output after.output status timestamp
    before.source.told before.target.told after.target.told begun ready does.completes
completes (Drill count) secrets before after status begun ready does =
    nothing_shown secrets (drawn_in before after) before.output after.output status before.source.told _ ready
