-- Lemmas on specs/Plan.antt: a name behind others, what is planned for names, and which of them is refused.
use Rattle.std.proofs.Common.{◌≡◌, ◌<◌, ◌≤◌, ◌+◌, inl, inr, ◌⊎◌, ℕ, List, [], ◌∷◌, ◌++◌, length, take, drop, get_or, slice_get}
use Rattle.std.proofs.Common.{Option, Some, None, IfSome, IsSome, Result, Ok, Err, IsErrAnd, refl, sym, ◌∙◌, ap, subst}
use Rattle.std.proofs.lemmas.List.{append-nil, append_assoc, take_all, take_more}
use Rattle.std.proofs.lemmas.Option.{IfSome_then}
use Rattle.ferry_carry.proofs.CauseLemmas.{split_at}
use Rattle.ferry_carry.proofs.CutLemmas.{among_either, among_none, among_one}
use Rattle.ferry_carry.specs.Chosen.{IsMissingName}
use Rattle.ferry_carry.specs.Listing.{IsThere}
use Rattle.ferry_carry.specs.Refusals.{HasLongItem}
use Rattle.ferry_compare.proofs.StepLemmas.{at_first}
use Rattle.ferry_disk.specs.Device.{Told, heard, told_files}
use Rattle.ferry_disk.specs.Files.{Files}
use Rattle.ferry_mac.specs.declared.keys.Keys.{Keys}
use Rattle.ferry_manifest.specs.Manifest.Text.{ManifestText}
use Rattle.ferry_piece.specs.Gather.{IsAmong}
use Rattle.ferry_piece.specs.Puts.{Addition}
use Rattle.ferry_plan.proofs.PresentLemmas.{both_any, both_first, both_map, both_then, none_some}
use Rattle.ferry_plan.specs.Plan.{CountsOf, Differs, HasNoLong, IsEqual, Plans, PlansAll, PlansArchive, PlansName, PlansNames, PutsFresh}
use Rattle.ferry_plan.specs.Plan.{RefusesBehind, RefusesName, RefusesPlan, WhereBoth, source_of}
use Rattle.ferry_plan.specs.Steps.{PlansOne, ReachesLong, RefusesBy, RefusesFirst}
use Rattle.ferry_plan.specs.declared.fault.PlanFault.{PlanFault}
use Rattle.ferry_plan.specs.declared.fault.PlanFault.TheVariants.{Source, Target, Taken, NotFound, Pieces, Memory}
use Rattle.ferry_plan.specs.declared.planning.Planned.{Planned}
use Rattle.ferry_repo.specs.Archives.{archive_named}
use Rattle.ferry_repo.specs.Opening.{RepoState}
use Rattle.ferry_repo.specs.Whole.{RefusesWhole}

-- ---- a name

-- an archive that is there isn't added
pub present_planned : (told : Option Told) (source : RepoState) (block : ℕ) (other : Option Told) (target : RepoState) (before : List (List ℕ))
    (name : List ℕ) → IsSome (archive_named name target.manifest.archives) → WhereBoth told other (λ f g. IsEqual f source g target name)
    → WhereBoth told other (λ f g. PlansOne f source block g target before name [])
present_planned told source block other target before name named equal =
    both_map told other (λ f g. IsEqual f source g target name) (λ f g. PlansOne f source block g target before name [])
    (λ f g e. record { present = λ some. e; plans = inl (inl named, refl) }) equal

-- nor is one of a name that stood before
pub again_planned : (told : Option Told) (source : RepoState) (block : ℕ) (other : Option Told) (target : RepoState) (before : List (List ℕ))
    (name : List ℕ) → archive_named name target.manifest.archives ≡ None → IsAmong before name
    → WhereBoth told other (λ f g. PlansOne f source block g target before name [])
again_planned told source block other target before name lacks among =
    both_any told other (λ f g. PlansOne f source block g target before name [])
    (λ f g. record {
      present = λ some. absurd (none_some (archive_named name target.manifest.archives) lacks some);
      plans = inl (inr among, refl);
    })

none_there : (accepted : ManifestText) (before : List (List ℕ)) (name : List ℕ) → archive_named name accepted.archives ≡ None
    → (IsAmong before name → ⊥) → IsThere accepted before name → ⊥
none_there accepted before name lacks apart (inl has) = none_some (archive_named name accepted.archives) lacks has
none_there accepted before name lacks apart (inr among) = apart among

-- another one is added
pub listed_planned : (told : Option Told) (source : RepoState) (block : ℕ) (other : Option Told) (target : RepoState) (before : List (List ℕ))
    (name : List ℕ) (more : List Addition) → archive_named name target.manifest.archives ≡ None → (IsAmong before name → ⊥)
    → IfSome told (λ s. PlansArchive (told_files s) source block target.keys name more)
    → WhereBoth told other (λ f g. PlansOne f source block g target before name more)
listed_planned None source block other target before name more lacks apart lists = tt
listed_planned (Some s) source block None target before name more lacks apart lists = tt
listed_planned (Some s) source block (Some t) target before name more lacks apart lists = record {
  present = λ some. absurd (none_some (archive_named name target.manifest.archives) lacks some);
  plans = inr (none_there target.manifest before name lacks apart, lists);
}

-- or is refused
pub archive_told : (told : Option Told) (source : RepoState) (block : ℕ) (other : Option Told) (target : RepoState) (name : List ℕ)
    (fault : PlanFault) → archive_named name target.manifest.archives ≡ None
    → RefusesBy told (RefusesFirst source block name) (ReachesLong source block name) fault → RefusesName told source block other target name fault
archive_told told source block other target name (Source fault) lacks refuses =
    (refuses.0, λ of_files. IfSome_then told (refuses.1 of_files) (λ s r. (r.0, λ none. r.1)))
archive_told told source block other target name (Target fault) lacks refuses = absurd refuses
archive_told told source block other target name (Taken taken) lacks refuses = absurd refuses
archive_told told source block other target name (NotFound missing) lacks refuses = absurd refuses
archive_told told source block other target name Pieces lacks refuses = (lacks, refuses)
archive_told told source block other target name Memory lacks refuses = tt

-- ---- names behind names

plans_then : (there : Files) (source : RepoState) (block : ℕ) (keys : Keys) (accepted : ManifestText) (before names : List (List ℕ)) (name : List ℕ)
    (added one : List Addition) → PlansNames there source block keys accepted before names added
    → PlansName there source block keys accepted (before ++ names) name one
    → PlansNames there source block keys accepted before (names ++ name ∷ []) (added ++ one)
plans_then there source block keys accepted before [] name added one plans last = (
  one,
  (
    [],
    (
      ap (λ (front : List Addition). front ++ one) plans ∙ sym (append-nil one),
      (subst (λ (front : List (List ℕ)). PlansName there source block keys accepted front name one) (append-nil before) last, refl),
    ),
  ),
)
plans_then there source block keys accepted before (first ∷ names) name added one plans last = (
  plans.0,
  (
    plans.1.0 ++ one,
    (
      ap (λ (front : List Addition). front ++ one) plans.1.1.0 ∙ append_assoc plans.0 plans.1.0 one,
      (
        plans.1.1.1.0,
        plans_then there source block keys accepted (before ++ first ∷ []) names name plans.1.0 one plans.1.1.1.1
            (subst (λ (front : List (List ℕ)). PlansName there source block keys accepted front name one) (sym (append_assoc before (first ∷ []) names))
            last),
      ),
    ),
  ),
)

plans_one : (there : Files) (source : RepoState) (block : ℕ) (files : Files) (target : RepoState) (names : List (List ℕ)) (name : List ℕ)
    (added one : List Addition) → PlansAll there source block files target names added → PlansOne there source block files target names name one
    → PlansAll there source block files target (names ++ name ∷ []) (added ++ one)
plans_one there source block files target names name added one plans last = record {
  present = λ other among has. by other has (among_either names (name ∷ []) other among);
  lists = plans_then there source block target.keys target.manifest [] names name added one plans.lists last.plans;
} where
  by : (other : List ℕ) → IsSome (archive_named other target.manifest.archives) → IsAmong names other ⊎ IsAmong (name ∷ []) other
      → IsEqual there source files target other
  by other has (inl some) = plans.present other some has
  by other has (inr is) =
      let same : name ≡ other = among_one name other is in
      subst (IsEqual there source files target) same
      (last.present (subst (λ (n : List ℕ). IsSome (archive_named n target.manifest.archives)) (sym same) has))

-- for no names nothing is planned
pub none_planned : (told : Option Told) (source : RepoState) (block : ℕ) (other : Option Told) (target : RepoState)
    → WhereBoth told other (λ f g. PlansAll f source block g target [] [])
none_planned told source block other target =
    both_any told other (λ f g. PlansAll f source block g target [] [])
    (λ f g. record { present = λ name among has. absurd (among_none name among); lists = refl })

-- one name more
pub next_planned : (told later : Option Told) (source after : RepoState) (block block_now : ℕ) (other later_of : Option Told)
    (target target_after : RepoState) (names : List (List ℕ)) (place : ℕ) (name : List ℕ) (added one : List Addition) → heard later ≡ heard told
    → after ≡ source → heard later_of ≡ heard other → target_after ≡ target → block_now ≡ block → place < length names → name ≡ get_or names place name
    → WhereBoth told other (λ f g. PlansAll f source block g target (take place names) added)
    → WhereBoth later later_of (λ f g. PlansOne f after block_now g target_after (take place names) name one)
    → WhereBoth told other (λ f g. PlansAll f source block g target (take (place + 1) names) (added ++ one))
next_planned told later source after block block_now other later_of target target_after names place name added one alike kept alike_of kept_of same lt is
    plans last =
    let front = take place names in
    let last_now = subst (λ (b : ℕ). WhereBoth later later_of (λ f g. PlansOne f after b g target_after front name one)) same last in
    let more : front ++ name ∷ [] ≡ take (place + 1) names =
    ap (λ (n : List ℕ). front ++ n ∷ []) is ∙ sym (take_more names place name lt) in
    both_then told other (λ f g. PlansAll f source block g target front added) (λ f g. PlansOne f source block g target front name one)
    (λ f g. PlansAll f source block g target (take (place + 1) names) (added ++ one))
    (λ f g p q. subst (λ (some : List (List ℕ)). PlansAll f source block g target some (added ++ one)) more
    (plans_one f source block g target front name added one p q)) plans
    (both_first told later source after other later_of target target_after (λ r f o g. PlansOne f r block g o front name one) alike kept alike_of kept_of
    last_now)

pub all_planned : (told : Option Told) (source : RepoState) (block : ℕ) (other : Option Told) (target : RepoState) (names : List (List ℕ)) (place : ℕ)
    (added : List Addition) → length names ≤ place → WhereBoth told other (λ f g. PlansAll f source block g target (take place names) added)
    → WhereBoth told other (λ f g. PlansAll f source block g target names added)
all_planned told source block other target names place added le plans =
    subst (λ (some : List (List ℕ)). WhereBoth told other (λ f g. PlansAll f source block g target some added)) (take_all place names le) plans

-- what a refusal says of the archive of a name, at an earlier call
pub refused_first : (told later : Option Told) (source after : RepoState) (block : ℕ) (other later_of : Option Told) (target target_after : RepoState)
    (name : List ℕ) (fault : PlanFault) → heard later ≡ heard told → after ≡ source → heard later_of ≡ heard other → target_after ≡ target
    → RefusesName later after block later_of target_after name fault → RefusesName told source block other target name fault
refused_first told later source after block other later_of target target_after name (Source fault) alike kept alike_of kept_of r = (
  r.0,
  λ of_files. at_first told later source after (λ o f. RefusesWhole f o.log o.keys o.manifest.archives name fault
      × (archive_named name target.manifest.archives ≡ None → HasNoLong f o block name)) alike kept
      (subst (λ (o : RepoState). IfSome later (λ t. RefusesWhole (told_files t) after.log after.keys after.manifest.archives name fault
      × (archive_named name o.manifest.archives ≡ None → HasNoLong (told_files t) after block name))) kept_of (r.1 of_files)),
)
refused_first told later source after block other later_of target target_after name (Target fault) alike kept alike_of kept_of r = r
refused_first told later source after block other later_of target target_after name (Taken taken) alike kept alike_of kept_of r = (
  r.0,
  (
    subst (λ (o : RepoState). IsSome (archive_named name o.manifest.archives)) kept_of r.1.0,
    both_first told later source after other later_of target target_after (λ o f p g. Differs f o g p name) alike kept alike_of kept_of r.1.1,
  ),
)
refused_first told later source after block other later_of target target_after name (NotFound missing) alike kept alike_of kept_of r = r
refused_first told later source after block other later_of target target_after name Pieces alike kept alike_of kept_of r = (
  subst (λ (o : RepoState). archive_named name o.manifest.archives ≡ None) kept_of r.0,
  at_first told later source after (λ o f. HasLongItem f (source_of f o block) name) alike kept r.1,
)
refused_first told later source after block other later_of target target_after name Memory alike kept alike_of kept_of r = tt

-- the archive at a place is refused behind those in front of it
pub name_stops : (told later : Option Told) (source after : RepoState) (block block_now : ℕ) (other later_of : Option Told)
    (target target_after : RepoState) (names : List (List ℕ)) (place : ℕ) (name : List ℕ) (added : List Addition) (fault : PlanFault)
    → heard later ≡ heard told → after ≡ source → heard later_of ≡ heard other → target_after ≡ target → block_now ≡ block → place < length names
    → name ≡ get_or names place name
    → ((some : List ℕ) → IsAmong names some → IsSome (archive_named some source.manifest.archives))
    → WhereBoth told other (λ f g. PlansAll f source block g target (take place names) added)
    → RefusesName later after block_now later_of target_after name fault → RefusesBehind told source block other target names fault
name_stops told later source after block block_now other later_of target target_after names place name added fault alike kept alike_of kept_of same lt is
    found plans refuses = record {
      found = found;
      done = take place names;
      name = name;
      rest = drop (place + 1) names;
      split = split_at names place name name lt is;
      planned = both_map told other (λ f g. PlansAll f source block g target (take place names) added)
          (λ f g. (some : List Addition) × PlansAll f source block g target (take place names) some) (λ f g p. (added, p)) plans;
      refused = refused_first told later source after block other later_of target target_after name fault alike kept alike_of kept_of
          (subst (λ (b : ℕ). RefusesName later after b later_of target_after name fault) same refuses);
    }

-- ---- a plan

-- what was added is planned
pub plan_made : (told : Option Told) (source : RepoState) (block : ℕ) (other : Option Told) (target : RepoState) (names : List (List ℕ))
    (added : List Addition) (planned : Planned) → PutsFresh target.keys target.log [] added → CountsOf added planned
    → WhereBoth told other (λ f g. PlansAll f source block g target names added)
    → WhereBoth told other (λ f g. Plans f source block g target names planned)
plan_made told source block other target names added planned fresh counts plans =
    both_map told other (λ f g. PlansAll f source block g target names added) (λ f g. Plans f source block g target names planned)
    (λ f g p. record { added = added; all = p; fresh = fresh; counts = counts }) plans

-- an archive isn't planned
pub plan_refused : (told : Option Told) (source : RepoState) (block : ℕ) (other : Option Told) (target : RepoState) (names : List (List ℕ))
    (fault : PlanFault) → RefusesBehind told source block other target names fault → RefusesPlan told source block other target names fault
plan_refused told source block other target names (Source fault) r = r
plan_refused told source block other target names (Target fault) r = r
plan_refused told source block other target names (Taken taken) r = r
plan_refused told source block other target names (NotFound missing) r = absurd r.refused
plan_refused told source block other target names Pieces r = r
plan_refused told source block other target names Memory r = tt

-- a name is missing, or memory was refused
pub plan_missing : (told : Option Told) (source : RepoState) (block : ℕ) (other : Option Told) (target : RepoState) (names : List (List ℕ))
    (fault : PlanFault)
    → (fault ≡ Memory) ⊎ ((missing : List ℕ) × ((fault ≡ NotFound missing) × ((place : ℕ)
    × (IsMissingName source.manifest names place × (slice_get names place ≡ Some missing)))))
    → RefusesPlan told source block other target names fault
plan_missing told source block other target names fault (inl is) = subst (RefusesPlan told source block other target names) (sym is) tt
plan_missing told source block other target names fault (inr found) =
    subst (RefusesPlan told source block other target names) (sym found.1.0) found.1.1

-- where each name is that of an archive none is missing
pub not_missing : (manifest : ManifestText) (names : List (List ℕ))
    → ((name : List ℕ) → IsAmong names name → IsSome (archive_named name manifest.archives)) → (place : ℕ) → IsMissingName manifest names place → ⊥
not_missing manifest names found place missing =
    none_some (archive_named missing.name manifest.archives) missing.missing (found missing.name (place, missing.name_is))

-- what is handed on is that fault
pub err_of : {T : Type 0} (result : Result T PlanFault) (fault : PlanFault) → IsErrAnd result (λ f. f ≡ fault) → result ≡ Err fault
err_of (Ok x) fault is = absurd is
err_of (Err f) fault is = ap (λ (r : PlanFault). Err r) is

-- wherever a name is missing that is answered, or memory was refused
pub missing_answered : {T : Type 0} (manifest : ManifestText) (names : List (List ℕ)) (result : Result T PlanFault) (fault : PlanFault) → result ≡ Err fault
    → (fault ≡ Memory) ⊎ ((missing : List ℕ) × ((fault ≡ NotFound missing) × ((place : ℕ)
    × (IsMissingName manifest names place × (slice_get names place ≡ Some missing)))))
    → ((name : List ℕ) × (result ≡ Err (NotFound name))) ⊎ (result ≡ Err Memory)
missing_answered manifest names result fault is (inl memory) = inr (is ∙ ap (λ (r : PlanFault). Err r) memory)
missing_answered manifest names result fault is (inr found) = inl (found.0, is ∙ ap (λ (r : PlanFault). Err r) found.1.0)
