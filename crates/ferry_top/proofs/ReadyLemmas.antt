-- Lemmas on specs/Ready.antt: where what a command asks is there, it is done, unless memory was refused, a device failed, or a limit was met.
use Rattle.std.proofs.Common.{◌≡◌, inl, inr, ℕ, List, Option, Some, MatchOption, sym, ◌∙◌, subst}
use Rattle.ferry_check.proofs.LawLemmas.{verifies_apart}
use Rattle.ferry_check.specs.Report.{IsBad, IsGood, IsReport}
use Rattle.ferry_check.specs.declared.report.Report.{Report}
use Rattle.ferry_check.specs.Verify.{FirstBad, Verifies}
use Rattle.ferry_disk.specs.Device.{Told, told_files}
use Rattle.ferry_disk.specs.Files.{Files}
use Rattle.ferry_log.proofs.LawLemmas.{damaged_apart, uncommitted_apart}
use Rattle.ferry_repo.proofs.LawLemmas.{one_repo, repo_apart}
use Rattle.ferry_repo.specs.Opening.{RefusesKey, RefusesRepo, RepoState}
use Rattle.ferry_repo.specs.declared.fault.RepoFault.{RepoFault}
use Rattle.ferry_repo.specs.declared.fault.RepoFault.TheVariants as Repos
use Rattle.ferry_repo.specs.declared.secret.Secret.{Secret}
use Rattle.ferry_status.specs.Devices.{Written}
use Rattle.ferry_status.specs.Output.{Prints, PrintsAsRead}
use Rattle.ferry_status.specs.declared.status.Limit.{Limit as LimitKind}
use Rattle.ferry_status.specs.declared.status.Refusal.{Refusal}
use Rattle.ferry_status.specs.declared.status.Refusal.TheVariants.{Repo, Nonce, Committed}
use Rattle.ferry_status.specs.declared.status.Status.{Status}
use Rattle.ferry_status.specs.declared.status.Status.TheVariants.{Done, No, Usage, Memory, SourceDevice, TargetDevice, EntropyDevice, OutputDevice}
use Rattle.ferry_status.specs.declared.status.Status.TheVariants.{SourceRefused, TargetRefused, Taken, NotFound, Limit}
use Rattle.ferry_status.specs.Opened.{OpensWith}
use Rattle.ferry_top.specs.Check.{Checks}
use Rattle.ferry_top.specs.Items.{LacksArchive, LacksPath, RefusesShowing, ShowsWhole}
use Rattle.ferry_top.specs.Key.{IsIdLine}
use Rattle.ferry_top.specs.Keys.{IsListing, RefusesKeys}
use Rattle.ferry_top.specs.Ready.{IsDoneOr}
use Rattle.ferry_top.specs.List.{RefusesBy}
use Rattle.ferry_view.proofs.LawLemmas.{file_apart, listing_apart}
use Rattle.ferry_view.specs.Items.{IsFile, IsItemListing, RefusesFile, RefusesItems}
use Rattle.ferry_view.specs.declared.fault.ViewFault.TheVariants as View

-- ---- by what a command prints

pub prints_done : (IsText : Files → List ℕ → Type 0) (Refuses : Files → Refusal → Type 0) (t : Told) (before after : Written) (status : Status)
    (IsMet : LimitKind → Type 0) → ((refusal : Refusal) → Refuses (told_files t) refusal → ⊥)
    → Prints IsText Refuses (Some t) before status after → IsDoneOr IsMet status
prints_done IsText Refuses t before after Done IsMet never p = tt
prints_done IsText Refuses t before after Memory IsMet never p = tt
prints_done IsText Refuses t before after SourceDevice IsMet never p = tt
prints_done IsText Refuses t before after OutputDevice IsMet never p = tt
prints_done IsText Refuses t before after (SourceRefused refusal) IsMet never p = absurd (never refusal p.0)
prints_done IsText Refuses t before after TargetDevice IsMet never p = absurd p
prints_done IsText Refuses t before after EntropyDevice IsMet never p = absurd p
prints_done IsText Refuses t before after No IsMet never p = absurd p
prints_done IsText Refuses t before after (Usage word) IsMet never p = absurd p
prints_done IsText Refuses t before after (TargetRefused refusal) IsMet never p = absurd p
prints_done IsText Refuses t before after (Taken name) IsMet never p = absurd p
prints_done IsText Refuses t before after (NotFound name) IsMet never p = absurd p
prints_done IsText Refuses t before after (Limit limit) IsMet never p = absurd p

pub reads_done : (IsText IsRead : Files → List ℕ → Type 0) (Refuses : Files → Refusal → Type 0) (Lacks : Files → List ℕ → Type 0) (t : Told)
    (before after : Written) (status : Status) (IsMet : LimitKind → Type 0) → ((refusal : Refusal) → Refuses (told_files t) refusal → ⊥)
    → ((what : List ℕ) → Lacks (told_files t) what → ⊥) → PrintsAsRead IsText IsRead Refuses Lacks (Some t) before status after → IsDoneOr IsMet status
reads_done IsText IsRead Refuses Lacks t before after Done IsMet never there p = tt
reads_done IsText IsRead Refuses Lacks t before after Memory IsMet never there p = tt
reads_done IsText IsRead Refuses Lacks t before after SourceDevice IsMet never there p = tt
reads_done IsText IsRead Refuses Lacks t before after OutputDevice IsMet never there p = tt
reads_done IsText IsRead Refuses Lacks t before after (SourceRefused refusal) IsMet never there p = absurd (never refusal p.0)
reads_done IsText IsRead Refuses Lacks t before after (NotFound what) IsMet never there p = absurd (there what p.0)
reads_done IsText IsRead Refuses Lacks t before after TargetDevice IsMet never there p = absurd p
reads_done IsText IsRead Refuses Lacks t before after EntropyDevice IsMet never there p = absurd p
reads_done IsText IsRead Refuses Lacks t before after No IsMet never there p = absurd p
reads_done IsText IsRead Refuses Lacks t before after (Usage word) IsMet never there p = absurd p
reads_done IsText IsRead Refuses Lacks t before after (TargetRefused refusal) IsMet never there p = absurd p
reads_done IsText IsRead Refuses Lacks t before after (Taken name) IsMet never there p = absurd p
reads_done IsText IsRead Refuses Lacks t before after (Limit limit) IsMet never there p = absurd p

-- ---- the commands of the source

pub keys_never : (files : Files) (text : List ℕ) → IsListing files text → (refusal : Refusal) → RefusesKeys files refusal → ⊥
keys_never files text is (Repo Repos.NoCommit) r = uncommitted_apart files is.state.transaction r is.is.is.is
keys_never files text is (Repo (Repos.Damaged segment at)) r = damaged_apart files segment at is.state.transaction is.is.log r is.is.is
keys_never files text is (Repo (Repos.Config fault)) r = r
keys_never files text is (Repo (Repos.Key fault)) r = r
keys_never files text is (Repo (Repos.Missing id)) r = r
keys_never files text is (Repo (Repos.Blob id fault)) r = r
keys_never files text is (Repo (Repos.Manifest fault)) r = r
keys_never files text is (Repo (Repos.Archive id fault)) r = r
keys_never files text is (Repo (Repos.Item id fault)) r = r
keys_never files text is (Repo (Repos.Size id)) r = r
keys_never files text is (Repo (Repos.KeyFile fault)) r = r
keys_never files text is (Repo (Repos.Other file config)) r = r
keys_never files text is (Repo Repos.NoKey) r = r
keys_never files text is (Repo Repos.Device) r = r
keys_never files text is (Repo Repos.Memory) r = r
keys_never files text is (Nonce fault) r = r
keys_never files text is Committed r = r

pub key_never : (secret : Secret) (bytes text : List ℕ) → IsIdLine secret bytes text → (refusal : Refusal) → RefusesBy (RefusesKey bytes secret) refusal → ⊥
key_never secret bytes text is (Repo fault) r = let both = sym is.unlocks ∙ r.1 r.0 in let no : ⊥ = cc in no
key_never secret bytes text is (Nonce fault) r = r
key_never secret bytes text is Committed r = r

pub opening_never : {P : Files → RepoState → Type 0} (secret : Secret) (files : Files) → OpensWith secret P files → (refusal : Refusal)
    → RefusesBy (RefusesRepo files secret) refusal → ⊥
opening_never secret files opens (Repo fault) r = repo_apart files secret opens.repo fault opens.opens r.0 r.1
opening_never secret files opens (Nonce fault) r = r
opening_never secret files opens Committed r = r

-- what holds of the repository to which files open holds of the one that was asked for
there_too : (secret : Secret) (P Q : Files → RepoState → Type 0) (files : Files) (a : OpensWith secret P files) → OpensWith secret Q files → Q files a.repo
there_too secret P Q files a b = subst (Q files) (one_repo files secret b.repo a.repo b.opens a.opens) b.holds

pub items_never : (secret : Secret) (name : List ℕ) (files : Files) (text : List ℕ) → ShowsWhole secret (λ f r. IsItemListing f r name) files text
    → (refusal : Refusal)
    → RefusesShowing secret (λ f repo. RefusesItems f repo name) files refusal → ⊥
items_never secret name files text is (Repo fault) (of, inl r) = repo_apart files secret is.repo fault is.opens of r
items_never secret name files text is (Repo fault) (of, inr w) =
    listing_apart files is.repo name text (View.Repo fault) is.holds of
    (there_too secret _ (λ f repo. RefusesItems f repo name (View.Repo fault)) files is w)
items_never secret name files text is (Nonce fault) r = r
items_never secret name files text is Committed r = r

pub archive_there : (secret : Secret) (name : List ℕ) (files : Files) (text : List ℕ) → ShowsWhole secret (λ f r. IsItemListing f r name) files text
    → (what : List ℕ)
    → LacksArchive secret name files what → ⊥
archive_there secret name files text is what (same, w) =
    listing_apart files is.repo name text View.NotFound is.holds tt (there_too secret _ (λ f repo. RefusesItems f repo name View.NotFound) files is w)

pub file_never : (secret : Secret) (name path : List ℕ) (files : Files) (text : List ℕ) → ShowsWhole secret (λ f r. IsFile f r name path) files text
    → (refusal : Refusal)
    → RefusesShowing secret (λ f repo. RefusesFile f repo name path) files refusal → ⊥
file_never secret name path files text is (Repo fault) (of, inl r) = repo_apart files secret is.repo fault is.opens of r
file_never secret name path files text is (Repo fault) (of, inr w) =
    file_apart files is.repo name path text (View.Repo fault) is.holds of
    (there_too secret _ (λ f repo. RefusesFile f repo name path (View.Repo fault)) files is w)
file_never secret name path files text is (Nonce fault) r = r
file_never secret name path files text is Committed r = r

pub path_there : (secret : Secret) (name path : List ℕ) (files : Files) (text : List ℕ) → ShowsWhole secret (λ f r. IsFile f r name path) files text
    → (what : List ℕ)
    → LacksPath secret name path files what → ⊥
path_there secret name path files text is what (inl (same, w)) =
    file_apart files is.repo name path text View.NotFound is.holds tt
    (inl (there_too secret _ (λ f repo. RefusesItems f repo name View.NotFound) files is w))
path_there secret name path files text is what (inr (same, w)) =
    file_apart files is.repo name path text View.NotFound is.holds tt
    (inr (there_too secret _ _ files is w))

report_bad : (files : Files) (repo : RepoState) (report : Report) (fault : RepoFault) → report.bad ≡ Some fault → IsReport files repo report
    → IsBad files repo report fault
report_bad files repo report fault is made =
    subst (λ (o : Option RepoFault). MatchOption o (IsGood files repo report) (λ f. IsBad files repo report f)) is made

pub checks_done : (secret : Secret) (t : Told) (before after : Written) (status : Status) (IsMet : LimitKind → Type 0)
    → OpensWith secret Verifies (told_files t) → Checks secret (Some t) before status after → IsDoneOr IsMet status
checks_done secret t before after Done IsMet opens p = tt
checks_done secret t before after Memory IsMet opens p = tt
checks_done secret t before after SourceDevice IsMet opens p = tt
checks_done secret t before after OutputDevice IsMet opens p = tt
checks_done secret t before after (SourceRefused refusal) IsMet opens p = absurd (opening_never secret (told_files t) opens refusal p.0)
checks_done secret t before after No IsMet opens p =
    let checked = p.1 in
    let bad = report_bad (told_files t) checked.repo p.0 p.3.0.0 p.3.0.1 checked.report_is in
    absurd (verifies_apart (told_files t) opens.repo p.3.0.0 opens.holds
    (subst (λ (r : RepoState). FirstBad (told_files t) r p.3.0.0) (one_repo (told_files t) secret checked.repo opens.repo checked.opens opens.opens)
    bad.first))
checks_done secret t before after TargetDevice IsMet opens p = absurd p
checks_done secret t before after EntropyDevice IsMet opens p = absurd p
checks_done secret t before after (Usage word) IsMet opens p = absurd p
checks_done secret t before after (TargetRefused refusal) IsMet opens p = absurd p
checks_done secret t before after (Taken name) IsMet opens p = absurd p
checks_done secret t before after (NotFound name) IsMet opens p = absurd p
checks_done secret t before after (Limit limit) IsMet opens p = absurd p
