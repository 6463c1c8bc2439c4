-- Lemmas on specs/Items.antt: what a repository shows of an archive is what the source's files say, and so is what it refuses.
use Rattle.std.proofs.Common.{◌≡◌, ℕ, true, false, List, [], Option, Some, None, is_some, option_map, IfSome, refl, sym, subst, inr}
use Rattle.ferry_disk.specs.Files.{Files}
use Rattle.ferry_manifest.specs.declared.manifest.ArchiveRef.{ArchiveRef}
use Rattle.ferry_disk.specs.Device.{Told, RoseWhere, told_files, heard}
use Rattle.ferry_disk.proofs.DeviceLemmas.{told_same, told_then, told_with}
use Rattle.ferry_repo.proofs.LawLemmas.{opens_fits}
use Rattle.ferry_repo.specs.Fault.{IsOfFiles}
use Rattle.ferry_repo.specs.Cached.{Contents, no_contents}
use Rattle.ferry_repo.specs.Opening.{RepoState, OpensFilesTo, FitsRepo}
use Rattle.ferry_repo.specs.declared.fault.RepoFault.{RepoFault}
use Rattle.ferry_repo.specs.declared.fault.RepoFault.TheVariants as Repo
use Rattle.ferry_repo.specs.declared.secret.Secret.{Secret}
use Rattle.ferry_view.specs.Output.{IsOfArchive, ShowsAll, ShowsSome, view_failed}
use Rattle.ferry_view.specs.declared.fault.ViewFault.{ViewFault}
use Rattle.ferry_view.specs.declared.fault.ViewFault.TheVariants as View
use Rattle.ferry_status.specs.Devices.{Written}
use Rattle.ferry_status.specs.Opened.{OpensWith}
use Rattle.ferry_top.specs.Items.{ShowsAsRead, RefusesShowing}
use Rattle.ferry_status.specs.Output.{HasBegun, HasPrinted, PrintsAsRead}
use Rattle.ferry_status.specs.Status.{view_status}
use Rattle.ferry_status.specs.declared.status.Refusal.{Refusal}
use Rattle.ferry_status.specs.declared.status.Refusal.TheVariants as TheRefusal
use Rattle.ferry_status.specs.declared.status.Status.TheVariants as TheStatus

-- what is true of the files and of the repository that they opened to, where a later call told it
pub opens_with : (source later : Option Told) (secret : Secret) (repo : RepoState) (Holds : Files → RepoState → Type 0)
    → heard later ≡ heard source → IfSome source (λ t. OpensFilesTo (told_files t) secret repo) → IfSome later (λ t. Holds (told_files t) repo)
    → IfSome source (λ t. OpensWith secret Holds (told_files t))
opens_with source later secret repo Holds same opens holds =
    told_with source later (λ f. OpensFilesTo f secret repo) (λ f. Holds f repo) (OpensWith secret Holds) same
    (λ f o h. record { repo = repo; opens = o; holds = h }) opens holds

-- an opened repository fits what a later call tells
pub fits_later : (source later : Option Told) (secret : Secret) (repo : RepoState) (cached : Contents) → heard later ≡ heard source → cached ≡ no_contents
    → IfSome source (λ t. OpensFilesTo (told_files t) secret repo) → IfSome later (λ t. FitsRepo (told_files t) repo cached)
fits_later source later secret repo cached same none opens =
    told_same source later (λ f. FitsRepo f repo cached) same
    (told_then source (λ f. OpensFilesTo f secret repo) (λ f. FitsRepo f repo cached)
    (λ f o. subst (λ (cs : Contents). FitsRepo f repo cs) (sym none) (opens_fits f secret repo o)) opens)

-- ---- a repository that shows all

-- what a repository has shown, by what the shelf told after opening and by the output before and after
pub record HasShown (source later : Option Told) (secret : Secret) (repo : RepoState) : Type 0 where
  pub same : heard later ≡ heard source
  pub opens : IfSome source (λ t. OpensFilesTo (told_files t) secret repo)

pub all_shown : (IsView : Files → RepoState → List ℕ → Type 0) (IsRead : Files → List ℕ → Type 0) (Refuses : Files → Refusal → Type 0)
    (Lacks : Files → List ℕ → Type 0) (source later : Option Told) (secret : Secret) (repo : RepoState) (before after : Written)
    → HasShown source later secret repo → ShowsAll (λ f text. IsView f repo text) later before.bytes after.bytes → after.faults ≡ before.faults
    → PrintsAsRead (λ f text. OpensWith secret (λ g r. IsView g r text) f) IsRead Refuses Lacks source before TheStatus.Done after
all_shown IsView IsRead Refuses Lacks source later secret repo before after shown all faults = (
  all.text,
  opens_with source later secret repo (λ g r. IsView g r all.text) shown.same shown.opens all.is,
  all.written,
  faults,
)

-- ---- a repository that doesn't show all

refused_later : (Refuses : Files → RepoState → ViewFault → Type 0) (source later : Option Told) (secret : Secret) (repo : RepoState) (fault : RepoFault)
    → HasShown source later secret repo → IsOfFiles fault → IfSome later (λ t. Refuses (told_files t) repo (View.Repo fault))
    → IfSome source (λ t. RefusesShowing secret Refuses (told_files t) (TheRefusal.Repo fault))
refused_later Refuses source later secret repo fault shown of_files refused =
    told_then source (OpensWith secret (λ g r. Refuses g r (View.Repo fault))) (λ f. RefusesShowing secret Refuses f (TheRefusal.Repo fault))
    (λ f h. (of_files, inr h))
    (opens_with source later secret repo (λ g r. Refuses g r (View.Repo fault)) shown.same shown.opens refused)

-- what is shown of the repository that the files opened to is shown of the files
read_of : (Shown : Files → RepoState → List ℕ → Type 0) (source later : Option Told) (secret : Secret) (repo : RepoState) (text : List ℕ)
    → HasShown source later secret repo → IfSome later (λ t. Shown (told_files t) repo text)
    → IfSome source (λ t. ShowsAsRead secret Shown (told_files t) text)
read_of Shown source later secret repo text shown is =
    told_with source later (λ f. OpensFilesTo f secret repo) (λ f. Shown f repo text) (λ f. ShowsAsRead secret Shown f text) shown.same
    (λ f o h. inr (record { repo = repo; opens = o; holds = h })) shown.opens is

begun : (Shown : Files → RepoState → List ℕ → Type 0) (source later : Option Told) (secret : Secret) (repo : RepoState) (before after : Written)
    → HasShown source later secret repo → ShowsSome (λ f text. Shown f repo text) later before.bytes after.bytes → after.faults ≡ before.faults
    → HasBegun (λ text. IfSome source (λ t. ShowsAsRead secret Shown (told_files t) text)) before after
begun Shown source later secret repo before after shown some faults =
    inr (some.text, read_of Shown source later secret repo some.text shown some.is, some.written, faults)

printed : (Shown : Files → RepoState → List ℕ → Type 0) (source later : Option Told) (secret : Secret) (repo : RepoState) (before after : Written)
    → HasShown source later secret repo → ShowsAll (λ f text. Shown f repo text) later before.bytes after.bytes → after.faults ≡ before.faults
    → HasPrinted (λ text. IfSome source (λ t. ShowsAsRead secret Shown (told_files t) text)) before after
printed Shown source later secret repo before after shown all faults =
    (all.text, read_of Shown source later secret repo all.text shown all.is, all.written, faults)

stopped : (Shown : Files → RepoState → List ℕ → Type 0) (Refuses : Files → RepoState → ViewFault → Type 0) (source later : Option Told)
    (secret : Secret) (repo : RepoState) (before after : Written) (fault : RepoFault) → HasShown source later secret repo → IsOfFiles fault
    → ShowsAll (λ f text. Shown f repo text) later before.bytes after.bytes → IfSome later (λ t. Refuses (told_files t) repo (View.Repo fault))
    → after.faults ≡ before.faults
    → IfSome source (λ t. RefusesShowing secret Refuses (told_files t) (TheRefusal.Repo fault))
    × HasPrinted (λ text. IfSome source (λ t. ShowsAsRead secret Shown (told_files t) text)) before after
stopped Shown Refuses source later secret repo before after fault shown of_files all refused faults = (
  refused_later Refuses source later secret repo fault shown of_files refused,
  printed Shown source later secret repo before after shown all faults,
)

-- a front was written of what is shown as far as it reads, and all of it where the fault says something of the archive
pub not_shown : (Text : Files → List ℕ → Type 0) (Shown : Files → RepoState → List ℕ → Type 0) (Refuses : Files → RepoState → ViewFault → Type 0)
    (Lacks : Files → List ℕ → Type 0) (source later : Option Told) (pass : Secret) (repo : RepoState) (before after : Written) (fault : ViewFault)
    (missing : List ℕ)
    → HasShown source later pass repo → ShowsSome (λ f text. Shown f repo text) later before.bytes after.bytes
    → (IsOfArchive fault → ShowsAll (λ f text. Shown f repo text) later before.bytes after.bytes)
    → IfSome later (λ t. Refuses (told_files t) repo fault) → RoseWhere (view_failed fault) before.faults after.faults
    → (fault ≡ View.NotFound → IfSome source (λ t. Lacks (told_files t) missing))
    → PrintsAsRead Text (ShowsAsRead pass Shown) (RefusesShowing pass Refuses) Lacks source before (view_status fault missing) after
not_shown Text Shown Refuses Lacks source later pass repo before after View.Output missing shown some all refused cause lacks =
    (some.text, read_of Shown source later pass repo some.text shown some.is, some.written, cause)
not_shown Text Shown Refuses Lacks source later pass repo before after View.Memory missing shown some all refused cause lacks =
    begun Shown source later pass repo before after shown some cause
not_shown Text Shown Refuses Lacks source later pass repo before after View.NotFound missing shown some all refused cause lacks =
    (lacks refl, printed Shown source later pass repo before after shown (all tt) cause)
not_shown Text Shown Refuses Lacks source later pass repo before after (View.Repo Repo.Device) missing shown some all refused cause lacks =
    begun Shown source later pass repo before after shown some cause
not_shown Text Shown Refuses Lacks source later pass repo before after (View.Repo Repo.Memory) missing shown some all refused cause lacks =
    begun Shown source later pass repo before after shown some cause
not_shown Text Shown Refuses Lacks source later pass repo before after (View.Repo Repo.NoCommit) missing shown some all refused cause lacks =
    stopped Shown Refuses source later pass repo before after Repo.NoCommit shown tt (all tt) refused cause
not_shown Text Shown Refuses Lacks source later pass repo before after (View.Repo (Repo.Damaged segment at)) missing shown some all refused cause lacks =
    stopped Shown Refuses source later pass repo before after (Repo.Damaged segment at) shown tt (all tt) refused cause
not_shown Text Shown Refuses Lacks source later pass repo before after (View.Repo (Repo.Config fault)) missing shown some all refused cause lacks =
    stopped Shown Refuses source later pass repo before after (Repo.Config fault) shown tt (all tt) refused cause
not_shown Text Shown Refuses Lacks source later pass repo before after (View.Repo (Repo.Key fault)) missing shown some all refused cause lacks =
    stopped Shown Refuses source later pass repo before after (Repo.Key fault) shown tt (all tt) refused cause
not_shown Text Shown Refuses Lacks source later pass repo before after (View.Repo (Repo.Missing id)) missing shown some all refused cause lacks =
    stopped Shown Refuses source later pass repo before after (Repo.Missing id) shown tt (all tt) refused cause
not_shown Text Shown Refuses Lacks source later pass repo before after (View.Repo (Repo.Blob id fault)) missing shown some all refused cause lacks =
    stopped Shown Refuses source later pass repo before after (Repo.Blob id fault) shown tt (all tt) refused cause
not_shown Text Shown Refuses Lacks source later pass repo before after (View.Repo (Repo.Manifest fault)) missing shown some all refused cause lacks =
    stopped Shown Refuses source later pass repo before after (Repo.Manifest fault) shown tt (all tt) refused cause
not_shown Text Shown Refuses Lacks source later pass repo before after (View.Repo (Repo.Archive id fault)) missing shown some all refused cause lacks =
    stopped Shown Refuses source later pass repo before after (Repo.Archive id fault) shown tt (all tt) refused cause
not_shown Text Shown Refuses Lacks source later pass repo before after (View.Repo (Repo.Item id fault)) missing shown some all refused cause lacks =
    stopped Shown Refuses source later pass repo before after (Repo.Item id fault) shown tt (all tt) refused cause
not_shown Text Shown Refuses Lacks source later pass repo before after (View.Repo (Repo.Size id)) missing shown some all refused cause lacks =
    stopped Shown Refuses source later pass repo before after (Repo.Size id) shown tt (all tt) refused cause
not_shown Text Shown Refuses Lacks source later pass repo before after (View.Repo (Repo.KeyFile fault)) missing shown some all refused cause lacks =
    stopped Shown Refuses source later pass repo before after (Repo.KeyFile fault) shown tt (all tt) refused cause
not_shown Text Shown Refuses Lacks source later pass repo before after (View.Repo (Repo.Other file config)) missing shown some all refused cause lacks =
    stopped Shown Refuses source later pass repo before after (Repo.Other file config) shown tt (all tt) refused cause
not_shown Text Shown Refuses Lacks source later pass repo before after (View.Repo Repo.NoKey) missing shown some all refused cause lacks =
    stopped Shown Refuses source later pass repo before after Repo.NoKey shown tt (all tt) refused cause

-- ---- a name

-- an archive that has no id isn't there
pub not_named : (named : Option ArchiveRef) (id : Option (List ℕ)) → id ≡ option_map (λ a. a.id) named → is_some id ≡ false → named ≡ None
not_named None id e none = refl
not_named (Some archive) id e none = cc

pub named_there : (named : Option ArchiveRef) (id : Option (List ℕ)) → id ≡ option_map (λ a. a.id) named → is_some id ≡ true → named ≡ None → ⊥
named_there None id e some none = cc
named_there (Some archive) id e some none = cc
