-- Lemmas on specs/Fault.antt: whose device a fault is.
use Rattle.std.proofs.Common.{◌≡◌, false, List, ℕ, Option, None, IfSome, refl}
use Rattle.ferry_disk.specs.Device.{Told, told_files}
use Rattle.ferry_item.specs.declared.item.ChunkRef.{ChunkRef}
use Rattle.ferry_repo.specs.Fault.{repo_failed, IsOfFiles}
use Rattle.ferry_repo.specs.Opening.{RepoState}
use Rattle.ferry_repo.specs.Archives.{RefusesJoined}
use Rattle.ferry_repo.specs.Whole.{RefusesWhole}
use Rattle.ferry_repo.specs.declared.fault.RepoFault.{RepoFault}
use Rattle.ferry_repo.specs.declared.fault.RepoFault.TheVariants as Fault
use Rattle.ferry_compare.specs.declared.fault.CompareFault.{CompareFault}
use Rattle.ferry_compare.specs.declared.fault.CompareFault.TheVariants.{Source, Memory}
use Rattle.ferry_compare.specs.Fault.{source_fault, target_fault, source_failed, target_failed}
use Rattle.ferry_compare.specs.Steps.{RefusesSource, RefusesItem}

-- a fault of the source's repository is its device's where it was so
pub failed_source : (fault : RepoFault) → source_failed (source_fault fault) ≡ repo_failed fault
failed_source Fault.NoCommit = refl
failed_source (Fault.Damaged segment at) = refl
failed_source (Fault.Config f) = refl
failed_source (Fault.Key f) = refl
failed_source (Fault.Missing id) = refl
failed_source (Fault.Blob id f) = refl
failed_source (Fault.Manifest f) = refl
failed_source (Fault.Archive id f) = refl
failed_source (Fault.Item id f) = refl
failed_source (Fault.Size id) = refl
failed_source (Fault.KeyFile fault) = refl
failed_source (Fault.Other file config) = refl
failed_source Fault.NoKey = refl
failed_source Fault.Device = refl
failed_source Fault.Memory = refl

-- and not one of the target's
pub source_apart : (fault : RepoFault) → target_failed (source_fault fault) ≡ false
source_apart Fault.NoCommit = refl
source_apart (Fault.Damaged segment at) = refl
source_apart (Fault.Config f) = refl
source_apart (Fault.Key f) = refl
source_apart (Fault.Missing id) = refl
source_apart (Fault.Blob id f) = refl
source_apart (Fault.Manifest f) = refl
source_apart (Fault.Archive id f) = refl
source_apart (Fault.Item id f) = refl
source_apart (Fault.Size id) = refl
source_apart (Fault.KeyFile fault) = refl
source_apart (Fault.Other file config) = refl
source_apart Fault.NoKey = refl
source_apart Fault.Device = refl
source_apart Fault.Memory = refl

pub ruleset conversions = (failed_source, source_apart)

-- ---- faults of the source

-- what holds of want of memory and of a fault of the source holds of what its repository's is
pub by_source : (P : CompareFault → Type 0) (fault : RepoFault) → P Memory → P (Source fault) → P (source_fault fault)
by_source P Fault.NoCommit memory here = here
by_source P (Fault.Damaged segment at) memory here = here
by_source P (Fault.Config f) memory here = here
by_source P (Fault.Key f) memory here = here
by_source P (Fault.Missing id) memory here = here
by_source P (Fault.Blob id f) memory here = here
by_source P (Fault.Manifest f) memory here = here
by_source P (Fault.Archive id f) memory here = here
by_source P (Fault.Item id f) memory here = here
by_source P (Fault.Size id) memory here = here
by_source P (Fault.KeyFile f) memory here = here
by_source P (Fault.Other file config) memory here = here
by_source P Fault.NoKey memory here = here
by_source P Fault.Device memory here = here
by_source P Fault.Memory memory here = memory

pub refuses_source : (told : Option Told) (repo : RepoState) (name : List ℕ) (fault : RepoFault)
    → (IsOfFiles fault → IfSome told (λ t. RefusesWhole (told_files t) repo.log repo.keys repo.manifest.archives name fault))
    → RefusesSource told repo name (source_fault fault)
refuses_source told repo name fault here = by_source (λ f. RefusesSource told repo name f) fault tt here

pub refuses_item : (told : Option Told) (repo : RepoState) (chunks : Option (List ChunkRef)) (fault : RepoFault)
    → (IsOfFiles fault → IfSome told (λ t. RefusesJoined (told_files t) repo.log repo.keys chunks fault))
    → RefusesItem told repo chunks (source_fault fault)
refuses_item told repo chunks fault here = by_source (λ f. RefusesItem told repo chunks f) fault tt here

-- ---- faults of the target

-- a fault of the target's repository that isn't handed on says something of the files, and is not the device's
pub refused_files : (fault : RepoFault) → target_fault fault ≡ None → IsOfFiles fault
refused_files Fault.NoCommit e = tt
refused_files (Fault.Damaged segment at) e = tt
refused_files (Fault.Config f) e = tt
refused_files (Fault.Key f) e = tt
refused_files (Fault.Missing id) e = tt
refused_files (Fault.Blob id f) e = tt
refused_files (Fault.Manifest f) e = tt
refused_files (Fault.Archive id f) e = tt
refused_files (Fault.Item id f) e = tt
refused_files (Fault.Size id) e = tt
refused_files (Fault.KeyFile f) e = tt
refused_files (Fault.Other file config) e = tt
refused_files Fault.NoKey e = tt
refused_files Fault.Device e = let no : ⊥ = cc in no
refused_files Fault.Memory e = let no : ⊥ = cc in no
