-- The source of a transfer: a repository that was opened is that of the files that are told behind the opening.
use Rattle.std.proofs.Common.{◌≡◌, ℕ, Bool, List, [], Option, Some, None, Ok}
use Rattle.std.proofs.Common.{option_map, refl, sym, ap, subst, IfSome}
use Rattle.ferry_carry.specs.declared.options.Options.{Options}
use Rattle.ferry_disk.specs.Act.{files_now}
use Rattle.ferry_disk.specs.Device.{Heard, KeepsTold, Told, heard_of, told_files}
use Rattle.ferry_disk.specs.Files.{Files}
use Rattle.ferry_repo.proofs.LawLemmas.{opens_fits}
use Rattle.ferry_repo.specs.Cached.{no_contents}
use Rattle.ferry_repo.specs.Fault.{repo_failed}
use Rattle.ferry_repo.specs.Opening.{FitsRepo, OpensFilesTo, cached_in, repo_view}
use Rattle.ferry_repo.specs.declared.repo.Repo.{Repo}
use Rattle.ferry_repo.specs.declared.secret.Secret.{Secret}
use Rattle.ferry_run_transfer.specs.Transfer.{asked}
use Rattle.ferry_status.specs.declared.status.Secrets.{Secrets}

-- what a source tells that was read
pub files_kept : {T F : Type 0} (is_device : F → Bool) (a b : Option Told) (x : T) → KeepsTold {F = F} is_device a b (Ok x)
    → option_map (λ (t : Told). told_files t) b ≡ option_map (λ (t : Told). told_files t) a
files_kept is_device None None x same = refl
files_kept is_device None (Some now) x same = absurd (let no : ⊥ = cc in no)
files_kept is_device (Some told) None x same = absurd (let no : ⊥ = cc in no)
files_kept is_device (Some told) (Some now) x same =
    let heard_same : heard_of now ≡ heard_of told = cc in ap (λ (h : Heard). Some (files_now h.history)) heard_same

pub asked_kept : {T F : Type 0} (secrets : Secrets) (options : Options) (names : List (List ℕ)) (is_device : F → Bool) (a b : Option Told) (x : T)
    → KeepsTold {F = F} is_device a b (Ok x) → asked secrets options names b ≡ asked secrets options names a
asked_kept {T} {F} secrets options names is_device a b x same =
    ap (λ (files : Option Files). record {
      secrets = secrets;
      block = options.block;
      checkpoint = options.checkpoint;
      timestamp = options.timestamp;
      names = names;
      source = files;
    }) (files_kept {T = T} {F = F} is_device a b x same)

-- the repository that was opened, over what is told then
pub source_opens : (a b : Option Told) (repo : Repo) (secret : Secret) → IfSome a (λ t. OpensFilesTo (told_files t) secret (repo_view repo))
    → KeepsTold {T = Repo} repo_failed a b (Ok repo) → IfSome b (λ t. OpensFilesTo (told_files t) secret (repo_view repo))
source_opens None None repo secret opens same = tt
source_opens None (Some now) repo secret opens same = absurd (let no : ⊥ = cc in no)
source_opens (Some told) None repo secret opens same = tt
source_opens (Some told) (Some now) repo secret opens same =
    let files : told_files told ≡ told_files now = (let e : heard_of now ≡ heard_of told = cc in ap (λ (h : Heard). files_now h.history) (sym e)) in
    subst (λ (f : Files). OpensFilesTo f secret (repo_view repo)) files opens

-- it fits the files
pub source_fits : (told : Option Told) (repo : Repo) (secret : Secret) → IfSome told (λ t. OpensFilesTo (told_files t) secret (repo_view repo))
    → cached_in repo ≡ no_contents → IfSome told (λ t. FitsRepo (told_files t) (repo_view repo) (cached_in repo))
source_fits None repo secret opens cached = tt
source_fits (Some told) repo secret opens cached =
    subst (FitsRepo (told_files told) (repo_view repo)) (sym cached) (opens_fits (told_files told) secret (repo_view repo) opens)
