-- Lemmas on specs/Drill.antt: what the check of the target says.
use Rattle.std.proofs.Common.{◌≡◌, Option, Some, None, IfSome, MatchOption, subst}
use Rattle.ferry_check.specs.Report.{IsBad, IsGood, IsReport}
use Rattle.ferry_check.specs.Verify.{FilesVerify}
use Rattle.ferry_check.specs.declared.report.Report.{Report}
use Rattle.ferry_disk.proofs.DeviceLemmas.{told_with}
use Rattle.ferry_disk.specs.Device.{Told, heard, told_files}
use Rattle.ferry_disk.specs.Files.{Files}
use Rattle.ferry_repo.specs.Opening.{OpensFilesTo, RepoState}
use Rattle.ferry_repo.specs.declared.fault.RepoFault.{RepoFault}
use Rattle.ferry_repo.specs.declared.secret.Secret.{Secret}
use Rattle.ferry_run_drill.specs.Drill.{HasBad, target_secret}

report_says : (files : Files) (repo : RepoState) (report : Report) (bad : Option RepoFault) → OpensFilesTo files target_secret repo
    → MatchOption bad (IsGood files repo report) (λ fault. IsBad files repo report fault)
    → MatchOption bad (FilesVerify files target_secret) (HasBad files)
report_says files repo report None opens good = record { repo = repo; opens = opens; verifies = good.verifies }
report_says files repo report (Some fault) opens bad = (repo, (opens, bad.first))

pub verified : (a b : Option Told) (secret : Secret) (repo : RepoState) (report : Report) → secret ≡ target_secret → heard b ≡ heard a
    → IfSome a (λ t. OpensFilesTo (told_files t) secret repo) → IfSome b (λ t. IsReport (told_files t) repo report)
    → IfSome a (λ t. MatchOption report.bad (FilesVerify (told_files t) target_secret) (HasBad (told_files t)))
verified a b secret repo report is same opens reports =
    told_with a b (λ f. OpensFilesTo f secret repo) (λ f. IsReport f repo report)
    (λ f. MatchOption report.bad (FilesVerify f target_secret) (HasBad f)) same
    (λ f o r. report_says f repo report report.bad (subst (λ (k : Secret). OpensFilesTo f k repo) is o) r) opens reports
