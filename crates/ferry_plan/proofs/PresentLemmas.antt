-- Lemmas on archives that the target has: what is known of the files of both, and what a comparison says.
use Rattle.std.proofs.Common.{◌≡◌, ◌<◌, ◌+◌, inl, inr, ◌⊎◌, ◌↔◌, ℕ, Bool, true, false, IsTrue, List, [], ◌∷◌, length, take, get_or}
use Rattle.std.proofs.Common.{Option, Some, None, IfSome, IsSome, refl, sym, ◌∙◌, subst}
use Rattle.std.proofs.lemmas.List.{take_more}
use Rattle.std.proofs.lemmas.Option.{IfSome_then}
use Rattle.ferry_carry.proofs.CutLemmas.{among_either, among_one}
use Rattle.ferry_carry.specs.Carrying.{SaysIn}
use Rattle.ferry_compare.proofs.StepLemmas.{at_first}
use Rattle.ferry_compare.specs.Compare.{AreEqual, Differ, met_behind, seen}
use Rattle.ferry_compare.specs.Fault.{RefusesTarget}
use Rattle.ferry_compare.specs.Steps.{RefusesSource}
use Rattle.ferry_compare.specs.declared.fault.CompareFault.{CompareFault}
use Rattle.ferry_compare.specs.declared.fault.CompareFault.TheVariants as Compares
use Rattle.ferry_disk.specs.Device.{Told, heard, told_files}
use Rattle.ferry_disk.specs.Files.{Files}
use Rattle.ferry_piece.specs.Gather.{IsAmong}
use Rattle.ferry_plan.specs.Fault.{compare_fault, source_fault}
use Rattle.ferry_plan.specs.Plan.{Differs, HasNoLong, IsEqual, RefusesName, WhereBoth}
use Rattle.ferry_plan.specs.declared.fault.PlanFault.{PlanFault}
use Rattle.ferry_plan.specs.declared.fault.PlanFault.TheVariants.{Taken, Memory}
use Rattle.ferry_repo.specs.Archives.{archive_named}
use Rattle.ferry_repo.specs.Fault.{IsOfFiles, repo_failed}
use Rattle.ferry_repo.specs.Opening.{RepoState}
use Rattle.ferry_repo.specs.Walk.{WalkState}
use Rattle.ferry_repo.specs.Whole.{RefusesWhole}
use Rattle.ferry_repo.specs.declared.fault.RepoFault.{RepoFault}
use Rattle.ferry_repo.specs.declared.fault.RepoFault.TheVariants as Repos

-- ---- names

-- a name that is none of the first ones and isn't the next one is none of them all
pub among_not : (names : List (List ℕ)) (place : ℕ) (at name : List ℕ) → place < length names → at ≡ get_or names place at
    → (IsAmong (take place names) name → ⊥) → (at ≡ name → ⊥) → IsAmong (take (place + 1) names) name → ⊥
among_not names place at name lt at_is none apart among =
    by (among_either (take place names) (get_or names place at ∷ []) name
    (subst (λ (some : List (List ℕ)). IsAmong some name) (take_more names place at lt) among)) where
      by : IsAmong (take place names) name ⊎ IsAmong (get_or names place at ∷ []) name → ⊥
      by (inl some) = none some
      by (inr last) = apart (at_is ∙ among_one (get_or names place at) name last)

-- what isn't said to be there isn't
pub lacking : {T : Type 0} (o : Option T) (has : Bool) → IsTrue has ↔ IsSome o → has ≡ false → o ≡ None
lacking None has is isnt = refl
lacking (Some x) has is isnt = absurd (let yes : has ≡ true = is.1 refl in let never : ⊥ = cc in never)

pub apart_from : (names : List (List ℕ)) (name : List ℕ) (has : Bool) → IsTrue has ↔ IsAmong names name → has ≡ false → IsAmong names name → ⊥
apart_from names name has is isnt among = let yes : has ≡ true = is.1 among in let never : ⊥ = cc in never

pub none_some : {T : Type 0} (o : Option T) → o ≡ None → IsSome o → ⊥
none_some None e some = let never : ⊥ = cc in never
none_some (Some x) e some = let never : ⊥ = cc in never

-- ---- what two devices tell

-- what holds of the files of both at a later call holds of those at an earlier one
pub both_first : (told later : Option Told) (source after : RepoState) (other later_of : Option Told) (target target_after : RepoState)
    (P : RepoState → Files → RepoState → Files → Type 0) → heard later ≡ heard told → after ≡ source → heard later_of ≡ heard other
    → target_after ≡ target → WhereBoth later later_of (λ f g. P after f target_after g) → WhereBoth told other (λ f g. P source f target g)
both_first told later source after other later_of target target_after P alike kept alike_of kept_of p =
    at_first told later source after (λ r f. IfSome other (λ t. P r f target (told_files t))) alike kept
    (IfSome_then later p (λ s q. at_first other later_of target target_after (λ r f. P after (told_files s) r f) alike_of kept_of q))

-- two facts of the files of both, and one that follows
pub both_then : (told other : Option Told) (P Q R : Files → Files → Type 0) → ((f g : Files) → P f g → Q f g → R f g) → WhereBoth told other P
    → WhereBoth told other Q → WhereBoth told other R
both_then None other P Q R step p q = tt
both_then (Some s) None P Q R step p q = tt
both_then (Some s) (Some t) P Q R step p q = step (told_files s) (told_files t) p q

pub both_map : (told other : Option Told) (P R : Files → Files → Type 0) → ((f g : Files) → P f g → R f g) → WhereBoth told other P
    → WhereBoth told other R
both_map told other P R step p = both_then told other P P R (λ f g x y. step f g x) p p

pub both_any : (told other : Option Told) (R : Files → Files → Type 0) → ((f g : Files) → R f g) → WhereBoth told other R
both_any None other R r = tt
both_any (Some s) None R r = tt
both_any (Some s) (Some t) R r = r (told_files s) (told_files t)

-- ---- an archive that is there

pub source_first : (told later : Option Told) (repo after : RepoState) (name name_now : List ℕ) (fault : CompareFault) → heard later ≡ heard told
    → after ≡ repo → name_now ≡ name → RefusesSource later after name_now fault → RefusesSource told repo name fault
source_first told later repo after name name_now (Compares.Source fault) alike kept same refuses = λ of_files.
    at_first told later repo after (λ r f. RefusesWhole f r.log r.keys r.manifest.archives name fault) alike kept
    (subst (λ (n : List ℕ). IfSome later (λ t. RefusesWhole (told_files t) after.log after.keys after.manifest.archives n fault)) same (refuses of_files))
source_first told later repo after name name_now (Compares.Target fault) alike kept same refuses = tt
source_first told later repo after name name_now Compares.Memory alike kept same refuses = tt

pub equal_first : (told later : Option Told) (repo after : RepoState) (told_of later_of : Option Told) (target target_after : RepoState)
    (name name_now : List ℕ) → heard later ≡ heard told → after ≡ repo → heard later_of ≡ heard told_of → target_after ≡ target → name_now ≡ name
    → AreEqual later after later_of target_after name_now → AreEqual told repo told_of target name
equal_first told later repo after told_of later_of target target_after name name_now alike kept alike_of kept_of same equal =
    let e = subst (AreEqual later after later_of target_after) same equal in
    record {
      whole = e.whole;
      first = at_first told later repo after (λ r f. SaysIn f r name e.whole) alike kept e.first;
      second = at_first told_of later_of target target_after (λ r f. SaysIn f r name e.whole) alike_of kept_of e.second;
    }

pub differ_first : (told later : Option Told) (repo after : RepoState) (told_of later_of : Option Told) (target target_after : RepoState)
    (name name_now : List ℕ) → heard later ≡ heard told → after ≡ repo → heard later_of ≡ heard told_of → target_after ≡ target → name_now ≡ name
    → Differ later after later_of target_after name_now → Differ told repo told_of target name
differ_first told later repo after told_of later_of target target_after name name_now alike kept alike_of kept_of same differ =
    let d = subst (Differ later after later_of target_after) same differ in
    record {
      whole = d.whole;
      first = at_first told later repo after (λ r f. SaysIn f r name d.whole) alike kept d.first;
      second = at_first told_of later_of target target_after (λ r f. SaysIn f r name d.whole → ⊥) alike_of kept_of d.second;
    }

-- a difference that was met in the target as it is
pub differ_now : (told : Option Told) (repo : RepoState) (other : Option Told) (target : RepoState) (name : List ℕ) (walk : Option WalkState)
    → Differ told repo (met_behind walk (seen other target) (seen other target)).told (met_behind walk (seen other target) (seen other target)).repo name
    → Differ told repo other target name
differ_now told repo other target name None differ = differ
differ_now told repo other target name (Some walk) differ = differ

pub equal_told : (told : Option Told) (source : RepoState) (other : Option Told) (target : RepoState) (name : List ℕ)
    → AreEqual told source other target name → WhereBoth told other (λ f g. IsEqual f source g target name)
equal_told None source other target name equal = tt
equal_told (Some s) source None target name equal = tt
equal_told (Some s) source (Some t) target name equal = (equal.whole, (equal.first, equal.second))

differs_told : (told : Option Told) (source : RepoState) (other : Option Told) (target : RepoState) (name : List ℕ)
    → Differ told source other target name → WhereBoth told other (λ f g. Differs f source g target name)
differs_told None source other target name differ = tt
differs_told (Some s) source None target name differ = tt
differs_told (Some s) source (Some t) target name differ = record { whole = differ.whole; says = differ.first; differs = differ.second }

-- another archive of the name is there, or memory was refused
pub taken_told : (told : Option Told) (source : RepoState) (block : ℕ) (other : Option Told) (target : RepoState) (name : List ℕ) (fault : PlanFault)
    → IsSome (archive_named name target.manifest.archives) → Differ told source other target name → (fault ≡ Taken name) ⊎ (fault ≡ Memory)
    → RefusesName told source block other target name fault
taken_told told source block other target name fault named differ (inl is) =
    subst (RefusesName told source block other target name) (sym is) (refl, (named, differs_told told source other target name differ))
taken_told told source block other target name fault named differ (inr is) = subst (RefusesName told source block other target name) (sym is) tt

-- a fault of a device that failed
device_of : (fault : RepoFault) → repo_failed fault ≡ true → fault ≡ Repos.Device
device_of Repos.NoCommit e = absurd (let never : ⊥ = cc in never)
device_of (Repos.Damaged segment at) e = absurd (let never : ⊥ = cc in never)
device_of (Repos.Config f) e = absurd (let never : ⊥ = cc in never)
device_of (Repos.Key f) e = absurd (let never : ⊥ = cc in never)
device_of (Repos.Missing id) e = absurd (let never : ⊥ = cc in never)
device_of (Repos.Blob id f) e = absurd (let never : ⊥ = cc in never)
device_of (Repos.Manifest f) e = absurd (let never : ⊥ = cc in never)
device_of (Repos.Archive id f) e = absurd (let never : ⊥ = cc in never)
device_of (Repos.Item id f) e = absurd (let never : ⊥ = cc in never)
device_of (Repos.Size id) e = absurd (let never : ⊥ = cc in never)
device_of (Repos.KeyFile f) e = absurd (let never : ⊥ = cc in never)
device_of (Repos.Other file config) e = absurd (let never : ⊥ = cc in never)
device_of Repos.NoKey e = absurd (let never : ⊥ = cc in never)
device_of Repos.Device e = refl
device_of Repos.Memory e = absurd (let never : ⊥ = cc in never)

-- What a fault of the source says of the archive of a name.
abbrev SaysRefused : Option Told → RepoState → ℕ → RepoState → List ℕ → RepoFault → Type 0
SaysRefused told source block target name fault = IsOfFiles fault → IfSome told (λ s.
    RefusesWhole (told_files s) source.log source.keys source.manifest.archives name fault
    × (archive_named name target.manifest.archives ≡ None → HasNoLong (told_files s) source block name))

-- a fault of the source is that, or want of memory
pub source_names : (told : Option Told) (source : RepoState) (block : ℕ) (other : Option Told) (target : RepoState) (name : List ℕ) (fault : RepoFault)
    → SaysRefused told source block target name fault → RefusesName told source block other target name (source_fault fault)
source_names told source block other target name Repos.NoCommit r = (λ is. cc, r)
source_names told source block other target name (Repos.Damaged segment at) r = (λ is. cc, r)
source_names told source block other target name (Repos.Config f) r = (λ is. cc, r)
source_names told source block other target name (Repos.Key f) r = (λ is. cc, r)
source_names told source block other target name (Repos.Missing id) r = (λ is. cc, r)
source_names told source block other target name (Repos.Blob id f) r = (λ is. cc, r)
source_names told source block other target name (Repos.Manifest f) r = (λ is. cc, r)
source_names told source block other target name (Repos.Archive id f) r = (λ is. cc, r)
source_names told source block other target name (Repos.Item id f) r = (λ is. cc, r)
source_names told source block other target name (Repos.Size id) r = (λ is. cc, r)
source_names told source block other target name (Repos.KeyFile f) r = (λ is. cc, r)
source_names told source block other target name (Repos.Other file config) r = (λ is. cc, r)
source_names told source block other target name Repos.NoKey r = (λ is. cc, r)
source_names told source block other target name Repos.Device r = (λ is. cc, r)
source_names told source block other target name Repos.Memory r = tt

-- a comparison is refused
pub compare_told : (told : Option Told) (source : RepoState) (block : ℕ) (other : Option Told) (target : RepoState) (name : List ℕ)
    (fault : CompareFault) → IsSome (archive_named name target.manifest.archives) → RefusesSource told source name fault → RefusesTarget fault
    → RefusesName told source block other target name (compare_fault fault)
compare_told told source block other target name (Compares.Source fault) named refuses target_is =
    source_names told source block other target name fault
    (λ of_files. IfSome_then told (refuses of_files)
    (λ s refused. (refused, λ lacks. absurd (none_some (archive_named name target.manifest.archives) lacks named))))
compare_told told source block other target name (Compares.Target fault) named refuses target_is = device_of fault target_is
compare_told told source block other target name Compares.Memory named refuses target_is = tt
