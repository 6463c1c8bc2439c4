-- Lemmas on specs/List.antt: an opened repository's archives are the listing of the files that it was opened on.
use Rattle.std.proofs.Common.{Option, IfSome, refl}
use Rattle.ferry_disk.specs.Device.{Told, told_files}
use Rattle.ferry_disk.proofs.DeviceLemmas.{told_then}
use Rattle.ferry_repo.specs.Opening.{RepoState, OpensFilesTo}
use Rattle.ferry_repo.specs.declared.secret.Secret.{Secret}
use Rattle.ferry_view.specs.Lines.{archive_lines}
use Rattle.ferry_top.specs.List.{IsArchiveListing}

-- the lines of an opened repository's archives are the listing of its files
pub archives_of : (source : Option Told) (secret : Secret) (repo : RepoState) → IfSome source (λ t. OpensFilesTo (told_files t) secret repo)
    → IfSome source (λ t. IsArchiveListing secret (told_files t) (archive_lines repo.manifest.archives))
archives_of source secret repo h =
    told_then source (λ files. OpensFilesTo files secret repo) (λ files. IsArchiveListing secret files (archive_lines repo.manifest.archives))
    (λ files opens. record { repo = repo; opens = opens; lines = refl }) h
