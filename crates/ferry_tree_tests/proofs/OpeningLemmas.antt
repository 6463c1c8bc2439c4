-- A repository that was opened fits the files that its shelf tells then.
use Rattle.std.proofs.Common.{◌≡◌, [], Option, Some, None, IfSome, sym, subst}
use Rattle.ferry_disk.proofs.DeviceLemmas.{told_same}
use Rattle.ferry_disk.specs.Device.{Told, heard, told_files}
use Rattle.ferry_disk.specs.Files.{Files}
use Rattle.ferry_repo.proofs.LawLemmas.{opens_fits}
use Rattle.ferry_repo.specs.Cached.{no_contents}
use Rattle.ferry_repo.specs.Opening.{FitsRepo, OpensFilesTo, cached_in, repo_view}
use Rattle.ferry_repo.specs.declared.repo.Repo.{Repo}
use Rattle.ferry_repo.specs.declared.secret.Secret.{Secret}

fits_first : (told : Option Told) (repo : Repo) (secret : Secret) → IfSome told (λ t. OpensFilesTo (told_files t) secret (repo_view repo))
    → cached_in repo ≡ no_contents → IfSome told (λ t. FitsRepo (told_files t) (repo_view repo) (cached_in repo))
fits_first None repo secret opens cached = tt
fits_first (Some t) repo secret opens cached =
    subst (FitsRepo (told_files t) (repo_view repo)) (sym cached) (opens_fits (told_files t) secret (repo_view repo) opens)

pub opened_fits : (before now : Option Told) (repo : Repo) (secret : Secret) → IfSome before (λ t. OpensFilesTo (told_files t) secret (repo_view repo))
    → heard now ≡ heard before → cached_in repo ≡ no_contents → IfSome now (λ t. FitsRepo (told_files t) (repo_view repo) (cached_in repo))
opened_fits before now repo secret opens same cached =
    told_same before now (λ (f : Files). FitsRepo f (repo_view repo) (cached_in repo)) same (fits_first before repo secret opens cached)
