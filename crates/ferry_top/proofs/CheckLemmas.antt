-- Lemmas on specs/Check.antt: the report of a repository that opened is that of the files that it was opened on.
use Rattle.std.proofs.Common.{◌≡◌, inr, Bool, true, false, Option, Some, None, is_some, not, IfSome, refl}
use Rattle.ferry_check.specs.Report.{Counts, IsReport}
use Rattle.ferry_check.specs.declared.report.Report.{Report}
use Rattle.ferry_disk.specs.Device.{Told, told_files, heard, WritesSome, RoseWhere}
use Rattle.ferry_disk.proofs.DeviceLemmas.{told_with}
use Rattle.ferry_repo.specs.Fault.{IsOfFiles}
use Rattle.ferry_repo.specs.Opening.{RepoState, OpensFilesTo}
use Rattle.ferry_repo.specs.declared.fault.RepoFault.{RepoFault}
use Rattle.ferry_repo.specs.declared.secret.Secret.{Secret}
use Rattle.ferry_view.specs.Output.{view_failed}
use Rattle.ferry_view.specs.declared.fault.ViewFault.{ViewFault}
use Rattle.ferry_view.specs.declared.fault.ViewFault.TheVariants as View
use Rattle.ferry_top.specs.Check.{IsChecked, Checks, report_line}
use Rattle.ferry_status.specs.Devices.{Written}
use Rattle.ferry_status.specs.Status.{output_status}

pub is_checked : (source later : Option Told) (secret : Secret) (repo : RepoState) (report : Report) → heard later ≡ heard source
    → IfSome source (λ t. OpensFilesTo (told_files t) secret repo) → IfSome later (λ t. IsReport (told_files t) repo report) → Counts repo report
    → IfSome source (λ t. IsChecked secret (told_files t) report)
is_checked source later secret repo report same opens reports counts =
    told_with source later (λ f. OpensFilesTo f secret repo) (λ f. IsReport f repo report) (λ f. IsChecked secret f report) same
    (λ f o r. record { repo = repo; opens = o; report_is = r; counts = counts }) opens reports

-- a line that isn't out whole
pub cut_line : (secret : Secret) (source : Option Told) (before after : Written) (report : Report) (fault : ViewFault)
    → IfSome source (λ t. IsChecked secret (told_files t) report) → IfSome report.bad IsOfFiles → WritesSome before.bytes (report_line report) after.bytes
    → RoseWhere (view_failed fault) before.faults after.faults → Checks secret source before (output_status fault) after
cut_line secret source before after report View.Output is of_files some cause = (report, is, of_files, (some, cause))
cut_line secret source before after report (View.Repo fault) is of_files some cause = inr (report, is, of_files, (some, cause))
cut_line secret source before after report View.NotFound is of_files some cause = inr (report, is, of_files, (some, cause))
cut_line secret source before after report View.Memory is of_files some cause = inr (report, is, of_files, (some, cause))

-- a report without a fault, and one with
pub none_there : (bad : Option RepoFault) (b : Bool) → is_some bad ≡ not b → b ≡ true → bad ≡ None
none_there None b e h = refl
none_there (Some fault) true e h = absurd (let no : ⊥ = cc in no)
none_there (Some fault) false e h = absurd (let no : ⊥ = cc in no)

pub some_there : (bad : Option RepoFault) (b : Bool) → is_some bad ≡ not b → b ≡ false → (fault : RepoFault) × (bad ≡ Some fault)
some_there None true e h = absurd (let no : ⊥ = cc in no)
some_there None false e h = absurd (let no : ⊥ = cc in no)
some_there (Some fault) b e h = (fault, refl)
