-- Lemmas on specs/Fault.antt: whose device a fault is.
use Rattle.std.proofs.Common.{◌≡◌, false, refl}
use Rattle.ferry_compare.specs.Fault.{source_failed, target_failed as other_failed}
use Rattle.ferry_compare.specs.declared.fault.CompareFault.{CompareFault}
use Rattle.ferry_compare.specs.declared.fault.CompareFault.TheVariants as Compares
use Rattle.ferry_repo.specs.Fault.{repo_failed}
use Rattle.ferry_repo.specs.declared.fault.RepoFault.{RepoFault}
use Rattle.ferry_repo.specs.declared.fault.RepoFault.TheVariants as Repos
use Rattle.ferry_plan.specs.Fault.{compare_fault, shelf_failed, source_fault, target_failed}

pub failed_source : (fault : RepoFault) → shelf_failed (source_fault fault) ≡ repo_failed fault
failed_source Repos.NoCommit = refl
failed_source (Repos.Damaged segment at) = refl
failed_source (Repos.Config f) = refl
failed_source (Repos.Key f) = refl
failed_source (Repos.Missing id) = refl
failed_source (Repos.Blob id f) = refl
failed_source (Repos.Manifest f) = refl
failed_source (Repos.Archive id f) = refl
failed_source (Repos.Item id f) = refl
failed_source (Repos.Size id) = refl
failed_source (Repos.KeyFile f) = refl
failed_source (Repos.Other file config) = refl
failed_source Repos.NoKey = refl
failed_source Repos.Device = refl
failed_source Repos.Memory = refl

pub source_still : (fault : RepoFault) → target_failed (source_fault fault) ≡ false
source_still Repos.NoCommit = refl
source_still (Repos.Damaged segment at) = refl
source_still (Repos.Config f) = refl
source_still (Repos.Key f) = refl
source_still (Repos.Missing id) = refl
source_still (Repos.Blob id f) = refl
source_still (Repos.Manifest f) = refl
source_still (Repos.Archive id f) = refl
source_still (Repos.Item id f) = refl
source_still (Repos.Size id) = refl
source_still (Repos.KeyFile f) = refl
source_still (Repos.Other file config) = refl
source_still Repos.NoKey = refl
source_still Repos.Device = refl
source_still Repos.Memory = refl

pub compare_source : (fault : CompareFault) → shelf_failed (compare_fault fault) ≡ source_failed fault
compare_source (Compares.Source fault) = failed_source fault
compare_source (Compares.Target fault) = refl
compare_source Compares.Memory = refl

pub compare_target : (fault : CompareFault) → target_failed (compare_fault fault) ≡ other_failed fault
compare_target (Compares.Source fault) = source_still fault
compare_target (Compares.Target fault) = refl
compare_target Compares.Memory = refl

pub ruleset conversions = (failed_source, source_still, compare_source, compare_target)
