-- Lemmas on the answers of a plan: each excludes the others.
use Rattle.std.proofs.Common.{◌≡◌, ◌<◌, ◌⊎◌, inl, inr, ℕ, zero, suc, List, [], ◌∷◌, ◌++◌, Some, None, IsSome, slice_get, refl, sym, ◌∙◌, ap, subst, arith, ◌≤◌}
use Rattle.std.proofs.lemmas.Bool.{cases_lt}
use Rattle.ferry_carry.proofs.CutLemmas.{among_either, among_none, among_one}
use Rattle.ferry_carry.specs.Carrying.{SaysIn}
use Rattle.ferry_carry.specs.Chosen.{IsMissingName}
use Rattle.ferry_carry.specs.Listing.{IsThere}
use Rattle.ferry_carry.specs.Refusals.{HasLongItem}
use Rattle.ferry_disk.specs.Device.{Told, told_files}
use Rattle.ferry_disk.specs.Files.{Files}
use Rattle.ferry_mac.specs.declared.keys.Keys.{Keys}
use Rattle.ferry_manifest.specs.Manifest.Text.{ManifestText}
use Rattle.ferry_piece.proofs.AmongLemmas.{among_next}
use Rattle.ferry_piece.specs.Gather.{IsAmong}
use Rattle.ferry_piece.specs.Puts.{Addition}
use Rattle.ferry_plan.proofs.PresentLemmas.{none_some}
use Rattle.ferry_plan.specs.Fault.{IsOfWork}
use Rattle.ferry_plan.specs.Plan.{Differs, HasNoLong, IsEqual, Plans, PlansAll, PlansArchive, PlansName, PlansNames, RefusesBehind, RefusesName}
use Rattle.ferry_plan.specs.Plan.{RefusesPlan, source_of}
use Rattle.ferry_plan.specs.declared.fault.PlanFault.{PlanFault}
use Rattle.ferry_plan.specs.declared.fault.PlanFault.TheVariants.{Source, Target, Taken, NotFound, Pieces, Memory}
use Rattle.ferry_plan.specs.declared.planning.Planned.{Planned}
use Rattle.ferry_repo.proofs.WholeLemmas.{one_whole, one_whole_fault, whole_apart}
use Rattle.ferry_repo.specs.Archives.{archive_named}
use Rattle.ferry_repo.specs.Fault.{IsOfFiles}
use Rattle.ferry_repo.specs.Opening.{RepoState}
use Rattle.ferry_repo.specs.Whole.{RefusesWhole, WholeArchive}
use Rattle.ferry_repo.specs.declared.fault.RepoFault.{RepoFault}

-- ---- a name that is planned

-- A target lacks a name, and its archive is planned.
abbrev IsNew : Files → RepoState → ℕ → Keys → ManifestText → List ℕ → Type 0
IsNew there source block keys accepted name =
    (IsSome (archive_named name accepted.archives) → ⊥) × ((more : List Addition) × PlansArchive there source block keys name more)

-- A name is there behind others, or is new.
abbrev IsThereOrNew : Files → RepoState → ℕ → Keys → ManifestText → List (List ℕ) → List ℕ → Type 0
IsThereOrNew there source block keys accepted before name = IsThere accepted before name ⊎ IsNew there source block keys accepted name

first_planned : (there : Files) (source : RepoState) (block : ℕ) (keys : Keys) (accepted : ManifestText) (before : List (List ℕ)) (first name : List ℕ)
    (one : List Addition) → first ≡ name → PlansName there source block keys accepted before first one
    → IsThereOrNew there source block keys accepted before name
first_planned there source block keys accepted before first name one same (inl p) = inl (subst (IsThere accepted before) same p.0)
first_planned there source block keys accepted before first name one same (inr p) =
    inr (subst (IsNew there source block keys accepted) same (λ some. p.0 (inl some), (one, p.1)))

later_planned : (there : Files) (source : RepoState) (block : ℕ) (keys : Keys) (accepted : ManifestText) (before : List (List ℕ)) (first name : List ℕ)
    (one : List Addition) → PlansName there source block keys accepted before first one
    → IsThereOrNew there source block keys accepted (before ++ first ∷ []) name → IsThereOrNew there source block keys accepted before name
later_planned there source block keys accepted before first name one plans (inl (inl some)) = inl (inl some)
later_planned there source block keys accepted before first name one plans (inl (inr here)) =
    behind (among_either before (first ∷ []) name here) where
      behind : IsAmong before name ⊎ IsAmong (first ∷ []) name → IsThereOrNew there source block keys accepted before name
      behind (inl some) = inl (inr some)
      behind (inr last) = first_planned there source block keys accepted before first name one (among_one first name last) plans
later_planned there source block keys accepted before first name one plans (inr new) = inr new

-- of names that are planned each is there, or is new
planned_at : (there : Files) (source : RepoState) (block : ℕ) (keys : Keys) (accepted : ManifestText) (before names : List (List ℕ))
    (added : List Addition) (name : List ℕ) → PlansNames there source block keys accepted before names added → IsAmong names name
    → IsThereOrNew there source block keys accepted before name
planned_at there source block keys accepted before [] added name plans among = absurd (among_none name among)
planned_at there source block keys accepted before (first ∷ names) added name plans (zero, is) =
    let same : first ≡ name = cc in first_planned there source block keys accepted before first name plans.0 same plans.1.1.1.0
planned_at there source block keys accepted before (first ∷ names) added name plans (suc place, is) =
    later_planned there source block keys accepted before first name plans.0 plans.1.1.1.0
    (planned_at there source block keys accepted (before ++ first ∷ []) names plans.1.0 name plans.1.1.1.1 (place, is))

module _ (s t : Told) (source : RepoState) (block : ℕ) (target : RepoState) where
  abbrev pub there : Files
  there = told_files s

  abbrev pub files : Files
  files = told_files t

  -- ---- what a refusal of a name says, by its kind

  -- The archive of a name isn't whole in the source, so, and no item that is too long is reached, where that counts.
  abbrev IsSource : List ℕ → PlanFault → Type 0
  IsSource name fault = (cause : RepoFault) × ((fault ≡ Source cause) × (IsOfFiles cause
      × (RefusesWhole there source.log source.keys source.manifest.archives name cause
      × (archive_named name target.manifest.archives ≡ None → HasNoLong there source block name))))

  abbrev IsTaken : List ℕ → PlanFault → Type 0
  IsTaken name fault = (fault ≡ Taken name) × (IsSome (archive_named name target.manifest.archives) × Differs there source files target name)

  abbrev IsLong : List ℕ → PlanFault → Type 0
  IsLong name fault =
      (fault ≡ Pieces) × ((archive_named name target.manifest.archives ≡ None) × HasLongItem there (source_of there source block) name)

  name_cases : (name : List ℕ) (fault : PlanFault) → IsOfWork fault → RefusesName (Some s) source block (Some t) target name fault
      → IsSource name fault ⊎ (IsTaken name fault ⊎ IsLong name fault)
  name_cases name (Source cause) work r = let so = r.1 work in inl (cause, (refl, (work, so)))
  name_cases name (Target cause) work r = absurd work
  name_cases name (Taken taken) work r = inr (inl (ap (λ (n : List ℕ). Taken n) r.0, r.1))
  name_cases name (NotFound missing) work r = absurd r
  name_cases name Pieces work r = inr (inr (refl, r))
  name_cases name Memory work r = absurd work

  one_by : (name : List ℕ) (f g : PlanFault) → IsSource name f ⊎ (IsTaken name f ⊎ IsLong name f) → IsSource name g ⊎ (IsTaken name g ⊎ IsLong name g)
      → f ≡ g
  one_by name f g (inl a) (inl b) =
      a.1.0
      ∙ (ap (λ (r : RepoFault). Source r) (one_whole_fault there source.log source.keys source.manifest.archives name a.0 b.0 a.1.1.0 b.1.1.0
      a.1.1.1.0 b.1.1.1.0)
      ∙ sym b.1.0)
  one_by name f g (inl a) (inr (inl b)) =
      absurd (whole_apart there source.log source.keys source.manifest.archives name b.1.1.whole a.0 b.1.1.says a.1.1.0 a.1.1.1.0)
  one_by name f g (inl a) (inr (inr b)) = absurd (a.1.1.1.1 b.1.0 b.1.1)
  one_by name f g (inr (inl a)) (inl b) =
      absurd (whole_apart there source.log source.keys source.manifest.archives name a.1.1.whole b.0 a.1.1.says b.1.1.0 b.1.1.1.0)
  one_by name f g (inr (inl a)) (inr (inl b)) = a.0 ∙ sym b.0
  one_by name f g (inr (inl a)) (inr (inr b)) = absurd (none_some (archive_named name target.manifest.archives) b.1.0 a.1.0)
  one_by name f g (inr (inr a)) (inl b) = absurd (b.1.1.1.1 a.1.0 a.1.1)
  one_by name f g (inr (inr a)) (inr (inl b)) = absurd (none_some (archive_named name target.manifest.archives) a.1.0 b.1.0)
  one_by name f g (inr (inr a)) (inr (inr b)) = a.0 ∙ sym b.0

  -- ---- a name that is planned isn't refused

  equal_apart : (name : List ℕ) (fault : PlanFault) → IsSome (archive_named name target.manifest.archives) → IsEqual there source files target name
      → IsSource name fault ⊎ (IsTaken name fault ⊎ IsLong name fault) → ⊥
  equal_apart name fault has equal (inl a) =
      whole_apart there source.log source.keys source.manifest.archives name equal.0 a.0 equal.1.0 a.1.1.0 a.1.1.1.0
  equal_apart name fault has equal (inr (inl a)) =
      let same : equal.0 ≡ a.1.1.whole =
      one_whole there source.log source.keys source.manifest.archives name equal.0 a.1.1.whole equal.1.0 a.1.1.says in
      a.1.1.differs (subst (λ (w : WholeArchive). SaysIn files target name w) same equal.1.1)
  equal_apart name fault has equal (inr (inr a)) = none_some (archive_named name target.manifest.archives) a.1.0 has

  new_apart : (name : List ℕ) (fault : PlanFault) → IsNew there source block target.keys target.manifest name
      → IsSource name fault ⊎ (IsTaken name fault ⊎ IsLong name fault) → ⊥
  new_apart name fault new (inl a) =
      let lists = new.1.1.0 in
      whole_apart there source.log source.keys source.manifest.archives name lists.whole a.0 lists.source a.1.1.0 a.1.1.1.0
  new_apart name fault new (inr (inl a)) = new.0 a.1.0
  new_apart name fault new (inr (inr a)) = new.1.1.1 a.1.1

  -- what holds of a name that is planned
  planned_by : (X : Type 0) (names : List (List ℕ)) (added : List Addition) (name : List ℕ) → PlansAll there source block files target names added
      → IsAmong names name → (IsSome (archive_named name target.manifest.archives) → IsEqual there source files target name → X)
      → (IsNew there source block target.keys target.manifest name → X) → X
  planned_by X names added name plans among equal new =
      by (planned_at there source block target.keys target.manifest [] names added name plans.lists among) where
        by : IsThere target.manifest [] name ⊎ IsNew there source block target.keys target.manifest name → X
        by (inl (inl has)) = equal has (plans.present name among has)
        by (inl (inr none)) = absurd (among_none name none)
        by (inr is) = new is

  name_apart : (names : List (List ℕ)) (added : List Addition) (name : List ℕ) (fault : PlanFault) → PlansAll there source block files target names added
      → IsAmong names name → IsOfWork fault → RefusesName (Some s) source block (Some t) target name fault → ⊥
  name_apart names added name fault plans among work r =
      planned_by ⊥ names added name plans among (λ has equal. equal_apart name fault has equal (name_cases name fault work r))
      (λ new. new_apart name fault new (name_cases name fault work r))

  -- and is that of an archive of the source
  name_found : (names : List (List ℕ)) (added : List Addition) (name : List ℕ) → PlansAll there source block files target names added
      → IsAmong names name → archive_named name source.manifest.archives ≡ None → ⊥
  name_found names added name plans among none =
      planned_by ⊥ names added name plans among (λ has equal. let both : None ≡ Some equal.1.0.named = sym none ∙ equal.1.0.named_is in cc)
      (λ new. let both : None ≡ Some new.1.1.0.source.named = sym none ∙ new.1.1.0.source.named_is in cc)

  -- ---- a plan that is made isn't refused

  behind_apart : (names : List (List ℕ)) (added : List Addition) (fault : PlanFault) → PlansAll there source block files target names added
      → IsOfWork fault → RefusesBehind (Some s) source block (Some t) target names fault → ⊥
  behind_apart names added fault plans work r =
      name_apart names added r.name fault plans (among_next names r.done r.rest r.name r.split) work r.refused

  pub made_apart : (names : List (List ℕ)) (planned : Planned) (fault : PlanFault) → Plans there source block files target names planned
      → IsOfWork fault → RefusesPlan (Some s) source block (Some t) target names fault → ⊥
  made_apart names planned (Source cause) plans work r = behind_apart names plans.added (Source cause) plans.all work r
  made_apart names planned (Target cause) plans work r = absurd work
  made_apart names planned (Taken taken) plans work r = behind_apart names plans.added (Taken taken) plans.all work r
  made_apart names planned (NotFound missing) plans work r =
      name_found names plans.added r.1.0.name plans.all (r.0, r.1.0.name_is) r.1.0.missing
  made_apart names planned Pieces plans work r = behind_apart names plans.added Pieces plans.all work r
  made_apart names planned Memory plans work r = absurd work

  -- ---- one refusal alone

  -- of two names in a list one stands in front of the other, or they are the same
  split_or : (a b c d : List (List ℕ)) (x y : List ℕ) → a ++ (x ∷ c) ≡ b ++ (y ∷ d) → (x ≡ y) ⊎ (IsAmong b x ⊎ IsAmong a y)
  split_or [] [] c d x y same = inl (let is : x ≡ y = cc in is)
  split_or [] (j ∷ b) c d x y same = let is : j ≡ x = cc in inr (inl (0, ap (λ (n : List ℕ). Some n) is))
  split_or (i ∷ a) [] c d x y same = let is : i ≡ y = cc in inr (inr (0, ap (λ (n : List ℕ). Some n) is))
  split_or (i ∷ a) (j ∷ b) c d x y same = later (let rest : a ++ (x ∷ c) ≡ b ++ (y ∷ d) = cc in split_or a b c d x y rest) where
    later : (x ≡ y) ⊎ (IsAmong b x ⊎ IsAmong a y) → (x ≡ y) ⊎ (IsAmong (j ∷ b) x ⊎ IsAmong (i ∷ a) y)
    later (inl is) = inl is
    later (inr (inl among)) = inr (inl (suc among.0, among.1))
    later (inr (inr among)) = inr (inr (suc among.0, among.1))

  one_behind : (names : List (List ℕ)) (f g : PlanFault) → IsOfWork f → IsOfWork g → RefusesBehind (Some s) source block (Some t) target names f
      → RefusesBehind (Some s) source block (Some t) target names g → f ≡ g
  one_behind names f g work_f work_g a b = by (split_or a.done b.done a.rest b.rest a.name b.name (sym a.split ∙ b.split)) where
    by : (a.name ≡ b.name) ⊎ (IsAmong b.done a.name ⊎ IsAmong a.done b.name) → f ≡ g
    by (inl same) =
        one_by b.name f g (name_cases b.name f work_f (subst (λ (n : List ℕ). RefusesName (Some s) source block (Some t) target n f) same a.refused))
        (name_cases b.name g work_g b.refused)
    by (inr (inl among)) = absurd (name_apart b.done b.planned.0 a.name f b.planned.1 among work_f a.refused)
    by (inr (inr among)) = absurd (name_apart a.done a.planned.0 b.name g a.planned.1 among work_g b.refused)

  found_apart : {X : Type 0} (names : List (List ℕ)) (fault : PlanFault) (place : ℕ) → IsMissingName source.manifest names place
      → RefusesBehind (Some s) source block (Some t) target names fault → X
  found_apart names fault place missing r =
      absurd (none_some (archive_named missing.name source.manifest.archives) missing.missing (r.found missing.name (place, missing.name_is)))

  -- the first name that is missing is one
  first_missing : (names : List (List ℕ)) (p q : ℕ) → IsMissingName source.manifest names p → IsMissingName source.manifest names q → p < q → ⊥
  first_missing names p q a b lt =
      none_some (archive_named a.name source.manifest.archives) a.missing (b.before p a.name lt a.name_is)

  one_missing : (names : List (List ℕ)) (p q : ℕ) (x y : List ℕ) → IsMissingName source.manifest names p → slice_get names p ≡ Some x
      → IsMissingName source.manifest names q → slice_get names q ≡ Some y → x ≡ y
  one_missing names p q x y a at_x b at_y = by (cases_lt p q) (cases_lt q p) where
    by : (p < q) ⊎ (q ≤ p) → (q < p) ⊎ (p ≤ q) → x ≡ y
    by (inl lt) other = absurd (first_missing names p q a b lt)
    by (inr le) (inl lt) = absurd (first_missing names q p b a lt)
    by (inr le) (inr other) =
        let same : p ≡ q = omega arith in
        let both : Some x ≡ Some y = sym at_x ∙ (ap (slice_get names) same ∙ at_y) in cc

  pub one_refused : (names : List (List ℕ)) (f g : PlanFault) → IsOfWork f → IsOfWork g → RefusesPlan (Some s) source block (Some t) target names f
      → RefusesPlan (Some s) source block (Some t) target names g → f ≡ g
  one_refused names (NotFound x) (NotFound y) work_f work_g a b =
      ap (λ (n : List ℕ). NotFound n) (one_missing names a.0 b.0 x y a.1.0 a.1.1 b.1.0 b.1.1)
  one_refused names (NotFound x) (Source c) work_f work_g a b = found_apart names (Source c) a.0 a.1.0 b
  one_refused names (NotFound x) (Taken y) work_f work_g a b = found_apart names (Taken y) a.0 a.1.0 b
  one_refused names (NotFound x) Pieces work_f work_g a b = found_apart names Pieces a.0 a.1.0 b
  one_refused names (NotFound x) (Target c) work_f work_g a b = absurd work_g
  one_refused names (NotFound x) Memory work_f work_g a b = absurd work_g
  one_refused names (Source c) (NotFound y) work_f work_g a b = found_apart names (Source c) b.0 b.1.0 a
  one_refused names (Source c) (Source d) work_f work_g a b = one_behind names (Source c) (Source d) work_f work_g a b
  one_refused names (Source c) (Taken y) work_f work_g a b = one_behind names (Source c) (Taken y) work_f work_g a b
  one_refused names (Source c) Pieces work_f work_g a b = one_behind names (Source c) Pieces work_f work_g a b
  one_refused names (Source c) (Target d) work_f work_g a b = absurd work_g
  one_refused names (Source c) Memory work_f work_g a b = absurd work_g
  one_refused names (Taken x) (NotFound y) work_f work_g a b = found_apart names (Taken x) b.0 b.1.0 a
  one_refused names (Taken x) (Source d) work_f work_g a b = one_behind names (Taken x) (Source d) work_f work_g a b
  one_refused names (Taken x) (Taken y) work_f work_g a b = one_behind names (Taken x) (Taken y) work_f work_g a b
  one_refused names (Taken x) Pieces work_f work_g a b = one_behind names (Taken x) Pieces work_f work_g a b
  one_refused names (Taken x) (Target d) work_f work_g a b = absurd work_g
  one_refused names (Taken x) Memory work_f work_g a b = absurd work_g
  one_refused names Pieces (NotFound y) work_f work_g a b = found_apart names Pieces b.0 b.1.0 a
  one_refused names Pieces (Source d) work_f work_g a b = one_behind names Pieces (Source d) work_f work_g a b
  one_refused names Pieces (Taken y) work_f work_g a b = one_behind names Pieces (Taken y) work_f work_g a b
  one_refused names Pieces Pieces work_f work_g a b = refl
  one_refused names Pieces (Target d) work_f work_g a b = absurd work_g
  one_refused names Pieces Memory work_f work_g a b = absurd work_g
  one_refused names (Target c) g work_f work_g a b = absurd work_f
  one_refused names Memory g work_f work_g a b = absurd work_f
