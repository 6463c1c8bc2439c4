-- What the command that verifies a repository writes.
use Rattle.std.specs.Prelude.{◌≡◌, ◌⊎◌, ℕ, List, [], ◌∷◌, ◌++◌, codes, decimal, IfSome, Option, Some, None, option_map}
use Rattle.ferry_check.specs.Report.{Counts, IsReport}
use Rattle.ferry_check.specs.declared.report.Report.{Report}
use Rattle.ferry_disk.specs.Device.{Told, told_files, Rose, WritesSome}
use Rattle.ferry_disk.specs.Files.{Files}
use Rattle.ferry_repo.specs.Fault.{IsOfFiles}
use Rattle.ferry_repo.specs.Opening.{OpensFilesTo, RefusesRepo, RepoState}
use Rattle.ferry_repo.specs.declared.fault.RepoFault.{RepoFault}
use Rattle.ferry_repo.specs.declared.secret.Secret.{Secret}
use Rattle.ferry_status.specs.Devices.{Written}
use Rattle.ferry_status.specs.declared.status.Status.{Status}
use Rattle.ferry_status.specs.declared.status.Status.TheVariants.{Done, No, Memory, SourceDevice, OutputDevice, SourceRefused}
use Rattle.ferry_status.specs.Status.{bad_line}
use Rattle.ferry_top.specs.List.{RefusesBy}

-- the line of a repository that verifies: how many archives and live chunks it has, how many of these no archive uses, and how many
-- archives have an untagged record
abbrev pub good_line : Report → List ℕ
good_line report =
    codes "ok archives " ++ (decimal report.archives ++ (codes " chunks " ++ (decimal report.chunks
    ++ (codes " orphans " ++ (decimal report.orphans ++ (codes " untagged " ++ (decimal report.untagged ++ (10 ∷ []))))))))

-- the line by the first fault, none where there is none
abbrev pub line_by : Report → Option RepoFault → List ℕ
line_by report None = good_line report
line_by report (Some fault) = bad_line fault

-- the line of a report
abbrev pub report_line : Report → List ℕ
report_line report = line_by report report.bad

-- The files open under the secret, and this is the report of the repository that they open to.
pub record IsChecked (secret : Secret) (files : Files) (report : Report) : Type 0 where
  pub repo : RepoState
  pub opens : OpensFilesTo files secret repo
  pub report_is : IsReport files repo report
  pub counts : Counts repo report

-- There is a report of the source, of which this holds too.
abbrev pub Reported : Secret → Option Told → (Report → Type 0) → Type 0
Reported secret source Holds = (report : Report) × IfSome source (λ t. IsChecked secret (told_files t) report) × IfSome report.bad IsOfFiles × Holds report

-- A line of such a report is out whole.
abbrev pub LineOut : Written → Written → Report → Type 0
LineOut before after report = (after.bytes ≡ option_map (λ w. w ++ report_line report) before.bytes) × (after.faults ≡ before.faults)

-- What the check has written when it ends with a status. All is read before the line is written.
abbrev pub Checks : Secret → Option Told → Written → Status → Written → Type 0
Checks secret source before Done after = Reported secret source (λ report. (report.bad ≡ None) × LineOut before after report)
Checks secret source before No after =
    Reported secret source (λ report. ((fault : RepoFault) × (report.bad ≡ Some fault)) × LineOut before after report)
Checks secret source before Memory after = (after ≡ before)
    ⊎ Reported secret source (λ report. WritesSome before.bytes (report_line report) after.bytes × (after.faults ≡ before.faults))
Checks secret source before SourceDevice after = after ≡ before
Checks secret source before OutputDevice after =
    Reported secret source (λ report. WritesSome before.bytes (report_line report) after.bytes × Rose before.faults after.faults)
Checks secret source before (SourceRefused refusal) after = IfSome source (λ t. RefusesBy (RefusesRepo (told_files t) secret) refusal) × (after ≡ before)
Checks secret source before status after = ⊥
