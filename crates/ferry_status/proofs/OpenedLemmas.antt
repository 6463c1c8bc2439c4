-- A target that opened with a number, whatever was done to it then, isn't one that didn't open.
use Rattle.std.proofs.Common.{◌≡◌, ◌⊎◌, inl, inr, [], Option, Some, None, Result, Ok, Err, IfSome, IsErrAnd, refl}
use Rattle.ferry_disk.proofs.MomentLemmas.{between_then}
use Rattle.ferry_disk.specs.Act.{History, files_now}
use Rattle.ferry_disk.specs.Device.{Told, told_files}
use Rattle.ferry_disk.specs.Files.{Files}
use Rattle.ferry_disk.specs.Moments.{Between}
use Rattle.ferry_piece.specs.Fault.{target_fault}
use Rattle.ferry_piece.specs.declared.fault.CarryFault.{CarryFault}
use Rattle.ferry_repo.specs.Opening.{OpensFilesTo, RepoState}
use Rattle.ferry_repo.specs.declared.secret.Secret.{Secret}
use Rattle.ferry_status.specs.Opened.{ComesBefore, EndsNumbered, NeedsNumber}
use Rattle.ferry_status.specs.Status.{carry_status}
use Rattle.ferry_status.specs.declared.status.Status.{Status}
use Rattle.ferry_status.specs.declared.status.Status.TheVariants.{Done, Memory}
use Rattle.ferry_store.proofs.OpenLemmas.{opened_leaves}
use Rattle.ferry_store.proofs.StepLemmas.{here_each}
use Rattle.ferry_store.specs.State.{HasNumber}
use Rattle.ferry_store.specs.Store.{OpenLeaves, RefusesOpen}
use Rattle.ferry_store.specs.declared.fault.StoreRefusal.{StoreRefusal}
use Rattle.ferry_store.specs.declared.fault.StoreRefusal.TheVariants as Stores

-- ---- where it doesn't open, or has no number

-- nothing was done
pub shut_here : (secret : Secret) (a : Option Told) → Between a a (OpenLeaves secret)
shut_here secret a = here_each (OpenLeaves secret) a (λ h shut. refl)

-- it opened before, with a number
pub opened_then : (secret : Secret) (repo : RepoState) (a b d : Option Told) (E F : History → History → Type 0)
    → IfSome a (λ t. OpensFilesTo (told_files t) secret repo) → IfSome a (λ t. HasNumber (told_files t)) → Between a b E → Between b d F
    → Between a d (OpenLeaves secret)
opened_then secret repo a b d E F opens numbered p q =
    opened_leaves secret repo a d (λ h g. Unit {0}) opens numbered (between_then a b d E F (λ h g. Unit {0}) (λ h g i e f. tt) p q)

-- and that is known of what was done
pub known_then : (secret : Secret) (a b d : Option Told) (E F : History → History → Type 0) → IfSome a (λ t. t.history.acts ≡ [])
    → IfSome a (λ t. HasNumber (told_files t))
    → ((h g : History) → h.acts ≡ [] → E h g → (repo : RepoState) × OpensFilesTo (files_now h) secret repo) → Between a b E → Between b d F
    → Between a d (OpenLeaves secret)
known_then secret None b d E F begun numbered opens p q = tt
known_then secret (Some s) b d E F begun numbered opens p q =
    let Opened : History → History → Type 0 = λ h g. h.acts ≡ [] → (repo : RepoState) × OpensFilesTo (files_now h) secret repo in
    let each = between_then (Some s) b d E F Opened (λ h g i e f acts. opens h g acts e) p q in
    (each.0, each.1, λ shut. let it = each.2 begun in absurd (shut it.0 it.1 numbered))

-- ---- the number

pub has_number : {T : Type 0} (Before : CarryFault → Type 0) (secret : Secret) (a : Option Told) (r : Result T CarryFault)
    → IfSome a (λ t. HasNumber (told_files t)) → NeedsNumber Before secret a r
has_number Before secret None r numbered = tt
has_number Before secret (Some t) r numbered = inl numbered

-- what a result that isn't a fault says
pub number_of : {T : Type 0} (Before : CarryFault → Type 0) (secret : Secret) (a : Option Told) (x : T) → NeedsNumber {T = T} Before secret a (Ok x)
    → IfSome a (λ t. HasNumber (told_files t))
number_of Before secret None x needs = tt
number_of {T} Before secret (Some t) x needs = by_sum needs where
  by_sum : HasNumber (told_files t) ⊎ IsErrAnd {T = T} (Ok x) (ComesBefore Before secret (told_files t)) → HasNumber (told_files t)
  by_sum (inl numbered) = numbered
  by_sum (inr never) = absurd never

-- it didn't open
pub unopened_number : (T : Type 0) (Before : CarryFault → Type 0) (secret : Secret) (a : Option Told) (refusal : StoreRefusal)
    → IfSome a (λ t. RefusesOpen secret (told_files t) refusal) → NeedsNumber {T = T} Before secret a (Err (target_fault refusal))
unopened_number T Before secret None refusal refused = tt
unopened_number T Before secret (Some t) refusal refused = inr (inr (refusal, (refl, refused)))

-- it wasn't opened
pub before_number : (T : Type 0) (Before : CarryFault → Type 0) (secret : Secret) (a : Option Told) (fault : CarryFault) → Before fault
    → NeedsNumber {T = T} Before secret a (Err fault)
before_number T Before secret None fault before = tt
before_number T Before secret (Some t) fault before = inr (inl before)

-- a fault that was handed on
pub fault_number : (T U : Type 0) (Before : CarryFault → Type 0) (secret : Secret) (a : Option Told) (fault : CarryFault)
    → NeedsNumber {T = T} Before secret a (Err fault) → NeedsNumber {T = U} Before secret a (Err fault)
fault_number T U Before secret None fault needs = tt
fault_number T U Before secret (Some t) fault needs = needs

-- ---- the status

pub done_number : {T : Type 0} (Before : CarryFault → Type 0) (secret : Secret) (a : Option Told) (x : T) → NeedsNumber {T = T} Before secret a (Ok x)
    → EndsNumbered Before secret a Done
done_number Before secret None x needs = tt
done_number {T} Before secret (Some t) x needs = inl (number_of {T = T} Before secret (Some t) x needs)

pub refused_number : (T : Type 0) (Before : CarryFault → Type 0) (secret : Secret) (a : Option Told) (fault : CarryFault) (status : Status)
    → status ≡ carry_status fault → NeedsNumber {T = T} Before secret a (Err fault) → EndsNumbered Before secret a status
refused_number T Before secret None fault status is needs = tt
refused_number T Before secret (Some t) fault status is needs = elim needs [
  | inl numbered ↦ inl numbered
  | inr comes ↦ inr (record { fault = fault; status_is = is; refuses = comes })
]

-- want of memory is refused so
pub memory_number : (Before : CarryFault → Type 0) (secret : Secret) (a : Option Told) → EndsNumbered Before secret a Memory
memory_number Before secret None = tt
memory_number Before secret (Some t) =
    inr (record { fault = target_fault Stores.Memory; status_is = refl; refuses = inr (Stores.Memory, (refl, tt)) })
