-- Why files don't open to be written, from what their parts say.
use Rattle.std.proofs.Common.{◌≡◌, Option, Some, None, IfSome, IsSome, refl, ap, subst, ◌∙◌, true}
use Rattle.ferry_disk.proofs.DeviceLemmas.{told_then}
use Rattle.ferry_disk.specs.Act.{files_now}
use Rattle.ferry_disk.specs.Device.{Told, told_files}
use Rattle.ferry_disk.specs.Files.{Files, file_at}
use Rattle.ferry_disk.specs.Moments.{Between}
use Rattle.ferry_disk.specs.declared.name.Name.TheVariants.{Nonce as NonceFile}
use Rattle.ferry_nonce.specs.declared.fault.NonceFault.TheVariants as Nonces
use Rattle.ferry_repo.specs.Opening.{OpensBare, OpensFilesTo, RefusesBare, RefusesRepo, RepoState}
use Rattle.ferry_repo.specs.declared.fault.RepoFault.{RepoFault}
use Rattle.ferry_repo.specs.declared.fault.RepoFault.TheVariants as Repos
use Rattle.ferry_repo.specs.declared.secret.Secret.{Secret}
use Rattle.ferry_store.proofs.StepLemmas.{Reads}
use Rattle.ferry_store.specs.Fault.{repo_refusal}
use Rattle.ferry_store.specs.State.{HasNumber, RefusesBegin}
use Rattle.ferry_store.specs.Store.{OpensSome, OpensSomeBare, RefusesOpen, RefusesOpenBare, RefusesOpenBy}
use Rattle.ferry_store.specs.declared.fault.StoreRefusal.{StoreRefusal}
use Rattle.ferry_store.specs.declared.fault.StoreRefusal.TheVariants.{Repo as RepoRefusal, Write, Nonce, Committed, TooLarge, Entropy, Memory}
use Rattle.ferry_write.specs.declared.fault.WriteFault.TheVariants as Writes

repo_refused : (Refuses : RepoFault → Type 0) (Opens : Type 0) (files : Files) (fault : RepoFault) → Refuses fault
    → RefusesOpenBy Refuses Opens files (repo_refusal fault)
repo_refused R O files Repos.Memory is = tt
repo_refused R O files Repos.Device is = is
repo_refused R O files Repos.NoCommit is = is
repo_refused R O files (Repos.Damaged s at) is = is
repo_refused R O files (Repos.Config f) is = is
repo_refused R O files (Repos.Key f) is = is
repo_refused R O files (Repos.Missing id) is = is
repo_refused R O files (Repos.Blob id f) is = is
repo_refused R O files (Repos.Manifest f) is = is
repo_refused R O files (Repos.Archive id f) is = is
repo_refused R O files (Repos.Item id f) is = is
repo_refused R O files (Repos.Size id) is = is
repo_refused R O files (Repos.KeyFile f) is = is
repo_refused R O files (Repos.Other x y) is = is
repo_refused R O files Repos.NoKey is = is

begin_refused : (Refuses : RepoFault → Type 0) (Opens : Type 0) (files : Files) (refusal : StoreRefusal) → Opens → RefusesBegin true files refusal
    → RefusesOpenBy Refuses Opens files refusal
begin_refused R O files (Nonce Nonces.Text) opens is = (opens, is)
begin_refused R O files (Nonce Nonces.Missing) opens is = (opens, is)
begin_refused R O files (Nonce Nonces.Device) opens is = tt
begin_refused R O files (Nonce Nonces.Exhausted) opens is = absurd is
begin_refused R O files (Nonce Nonces.Memory) opens is = absurd is
begin_refused R O files (Write Writes.Device) opens is = tt
begin_refused R O files (Write Writes.Memory) opens is = absurd is
begin_refused R O files (Write Writes.Numbers) opens is = absurd is
begin_refused R O files Memory opens is = tt
begin_refused R O files (RepoRefusal fault) opens is = absurd is
begin_refused R O files Committed opens is = absurd is
begin_refused R O files TooLarge opens is = absurd is
begin_refused R O files Entropy opens is = absurd is

pub repo_told : (secret : Secret) (told : Option Told) (fault : RepoFault) → IfSome told (λ t. RefusesRepo (told_files t) secret fault)
    → IfSome told (λ t. RefusesOpen secret (told_files t) (repo_refusal fault))
repo_told secret None fault is = tt
repo_told secret (Some t) fault is = repo_refused (RefusesRepo (told_files t) secret) (OpensSome (told_files t) secret) (told_files t) fault is

pub bare_told : (secret : Secret) (told : Option Told) (fault : RepoFault) → IfSome told (λ t. RefusesBare (told_files t) secret fault)
    → IfSome told (λ t. RefusesOpenBare secret (told_files t) (repo_refusal fault))
bare_told secret None fault is = tt
bare_told secret (Some t) fault is = repo_refused (RefusesBare (told_files t) secret) (OpensSomeBare (told_files t) secret) (told_files t) fault is

-- over what was told before and behind the opening
begin_known : (Refuses : Files → RepoFault → Type 0) (Opens : Files → Type 0) (refusal : StoreRefusal) (a b : Option Told) → Between a b Reads
    → IfSome a (λ t. Opens (told_files t)) → IfSome b (λ t. RefusesBegin true (told_files t) refusal)
    → IfSome a (λ t. RefusesOpenBy (Refuses (told_files t)) (Opens (told_files t)) (told_files t) refusal)
begin_known R O refusal None b same opens is = tt
begin_known R O refusal (Some t) None same opens is = absurd (let e = same.1 in let no : ⊥ = cc in no)
begin_known R O refusal (Some t) (Some u) same opens is =
    let told : u ≡ same.0 = (let f = same.1 in cc) in
    let files : told_files u ≡ told_files t = ap told_files told ∙ ap files_now same.2 in
    begin_refused (R (told_files t)) (O (told_files t)) (told_files t) refusal opens (subst (λ (f : Files). RefusesBegin true f refusal) files is)

pub begin_told : (secret : Secret) (repo : RepoState) (refusal : StoreRefusal) (a b : Option Told) → Between a b Reads
    → IfSome a (λ t. OpensFilesTo (told_files t) secret repo) → IfSome b (λ t. RefusesBegin true (told_files t) refusal)
    → IfSome a (λ t. RefusesOpen secret (told_files t) refusal)
begin_told secret repo refusal a b same opens is =
    begin_known (λ f. RefusesRepo f secret) (λ f. OpensSome f secret) refusal a b same
    (told_then a (λ f. OpensFilesTo f secret repo) (λ f. OpensSome f secret) (λ f o. (repo, o)) opens) is

pub bare_begin_told : (secret : Secret) (repo : RepoState) (fault : Option RepoFault) (refusal : StoreRefusal) (a b : Option Told) → Between a b Reads
    → IfSome a (λ t. OpensBare (told_files t) secret repo fault) → IfSome b (λ t. RefusesBegin true (told_files t) refusal)
    → IfSome a (λ t. RefusesOpenBare secret (told_files t) refusal)
bare_begin_told secret repo fault refusal a b same opens is =
    begin_known (λ f. RefusesBare f secret) (λ f. OpensSomeBare f secret) refusal a b same
    (told_then a (λ f. OpensBare f secret repo fault) (λ f. OpensSomeBare f secret) (λ f o. (repo, (fault, o))) opens) is

-- ---- the counter's file

pub there_told : (a b : Option Told) → Between a b Reads → IfSome b (λ t. true ≡ true → HasNumber (told_files t))
    → IfSome a (λ t. HasNumber (told_files t))
there_told None b same is = tt
there_told (Some t) None same is = absurd (let e = same.1 in let no : ⊥ = cc in no)
there_told (Some t) (Some u) same is =
    let told : u ≡ same.0 = (let f = same.1 in cc) in
    let files : told_files u ≡ told_files t = ap told_files told ∙ ap files_now same.2 in
    subst HasNumber files (is refl)
