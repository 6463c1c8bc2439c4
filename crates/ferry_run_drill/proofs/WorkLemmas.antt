-- What the steps of a drill did, from what their calls say.
use Rattle.std.proofs.Common.{◌≡◌, ◌≤◌, ℕ, Bool, true, false, List, [], Option, Some, None, Result, Ok, Err, IfErr, IfSome, OnOk, refl, sym, subst, arith}
use Rattle.ferry_carry.specs.Carrying.{Origin}
use Rattle.ferry_carry.specs.Refusals.{RefusesNames}
use Rattle.ferry_carry.specs.Telling.{KeepsReported, ReportsWhole}
use Rattle.ferry_carry.specs.declared.options.Carried.{Carried}
use Rattle.ferry_disk.proofs.MomentLemmas.{between_map, between_then}
use Rattle.ferry_disk.specs.Act.{History}
use Rattle.ferry_disk.specs.Device.{HasCause, Heard, RoseWhere, Told, heard, heard_of, told_files}
use Rattle.ferry_disk.specs.Files.{Files}
use Rattle.ferry_disk.specs.Moments.{Between}
use Rattle.ferry_gen.specs.Source.{HasPlain, IsSource, source_secret}
use Rattle.ferry_piece.specs.Fault.{shelf_failed, source_fault, target_fault}
use Rattle.ferry_piece.specs.Work.{Works}
use Rattle.ferry_piece.specs.declared.fault.CarryFault.{CarryFault}
use Rattle.ferry_repo.proofs.LawLemmas.{repo_apart}
use Rattle.ferry_repo.specs.Fault.{IsOfFiles, repo_failed}
use Rattle.ferry_repo.specs.Opening.{OpensFilesTo, RefusesRepo, RepoState}
use Rattle.ferry_repo.specs.declared.fault.RepoFault.{RepoFault}
use Rattle.ferry_repo.specs.declared.fault.RepoFault.TheVariants as Repos
use Rattle.ferry_repo.specs.declared.secret.Secret.{Secret}
use Rattle.ferry_run_transfer.specs.Transfer.{chosen_of}
use Rattle.ferry_status.specs.Status.{carry_status}
use Rattle.ferry_store.proofs.StepLemmas.{known_end}
use Rattle.ferry_store.specs.Store.{InitEach, InitLeaves, RefusesFiles, RefusesInit, StoreFits}
use Rattle.ferry_store.specs.declared.fault.StoreRefusal.{StoreRefusal}
use Rattle.ferry_store.specs.declared.store.Store.{Store}
use Rattle.ferry_write.specs.Script.{AllDone}
use Rattle.ferry_write.specs.Session.{SettlesFirst}
use Rattle.ferry_run_drill.proofs.CopyLemmas.{chosen_names, has_copied}
use Rattle.ferry_run_drill.proofs.StartLemmas.{init_tells, names_tell}
use Rattle.ferry_store.specs.Key.{FitsGiven}
use Rattle.ferry_run_drill.specs.Drill.{HasCopied, IsFree, TellsStart, drill_time}
use Rattle.ferry_run_drill.specs.Steps.{CopiesNames, IsMadeNew, drill_origin}
use Rattle.ferry_carry.specs.States.{target_state, drawn_from}

-- what any history says
pub says_all : (told : Option Told) (P : Told → Type 0) → ((t : Told) → P t) → IfSome told P
says_all None P all = tt
says_all (Some t) P all = all t

-- ---- a source that counts no fault

pub still : (failed : Bool) → RoseWhere failed 0 0 → failed ≡ false
still false rose = refl
still true rose = absurd (let no : ⊥ = omega (arith, rose) in no)

pub never_failed : {T : Type 0} (r : Result T CarryFault) → HasCause shelf_failed 0 0 r → IfErr r (λ fault. shelf_failed fault ≡ false)
never_failed (Ok x) cause = tt
never_failed (Err fault) cause = still (shelf_failed fault) cause

-- what holds whatever is answered holds where that is `Ok`
pub ok_all : {T F : Type 0} (r : Result T F) (P : Type 0) → P → OnOk r P
ok_all (Ok x) P holds = holds
ok_all (Err fault) P holds = tt

-- ---- a source that opens

-- it is refused for want of memory alone
pub opened_tells : (a : Option Told) (fault : RepoFault) → (IsOfFiles fault → ⊥) → RoseWhere (repo_failed fault) 0 0
    → IfSome a (λ t. TellsStart (told_files t) (carry_status (source_fault fault)))
opened_tells a Repos.NoCommit apart rose = absurd (apart tt)
opened_tells a (Repos.Damaged segment at) apart rose = absurd (apart tt)
opened_tells a (Repos.Config cause) apart rose = absurd (apart tt)
opened_tells a (Repos.Key cause) apart rose = absurd (apart tt)
opened_tells a (Repos.Missing id) apart rose = absurd (apart tt)
opened_tells a (Repos.Blob id cause) apart rose = absurd (apart tt)
opened_tells a (Repos.Manifest cause) apart rose = absurd (apart tt)
opened_tells a (Repos.Archive id cause) apart rose = absurd (apart tt)
opened_tells a (Repos.Item id cause) apart rose = absurd (apart tt)
opened_tells a (Repos.Size id) apart rose = absurd (apart tt)
opened_tells a (Repos.KeyFile cause) apart rose = absurd (apart tt)
opened_tells a (Repos.Other file config) apart rose = absurd (apart tt)
opened_tells a Repos.NoKey apart rose = absurd (apart tt)
opened_tells a Repos.Device apart rose = absurd (let e = still true rose in let no : ⊥ = cc in no)
opened_tells a Repos.Memory apart rose = says_all a (λ t. TellsStart (told_files t) (carry_status (source_fault Repos.Memory))) (λ t. tt)

-- a source of the drill, with the secret that is handed in
pub opens_apart : (source : Files) (secret : Secret) (repo : RepoState) (fault : RepoFault) → secret ≡ source_secret
    → OpensFilesTo source source_secret repo → RefusesRepo source secret fault → IsOfFiles fault → ⊥
opens_apart source secret repo fault is opens refused of_files =
    repo_apart source source_secret repo fault opens of_files (subst (λ (s : Secret). RefusesRepo source s fault) is refused)

-- ---- a target that is read

-- what holds of its history holds still
pub history_kept : (a b : Option Told) (P : History → Type 0) → heard b ≡ heard a → IfSome a (λ t. P t.history) → IfSome b (λ t. P t.history)
history_kept None None P same holds = tt
history_kept None (Some now) P same holds = absurd (let no : ⊥ = cc in no)
history_kept (Some told) None P same holds = tt
history_kept (Some told) (Some now) P same holds =
    let e : heard_of now ≡ heard_of told = cc in subst (λ (h : Heard). P h.history) (sym e) holds

-- ---- the files that the target had

-- a repository that isn't made
pub unmade_tells : (secret : Secret) (timestamp : List ℕ) (a : Option Told) → FitsGiven secret → timestamp ≡ drill_time → (refusal : StoreRefusal)
    → IfSome a (λ t. t.history.acts ≡ []) → IfSome a (λ t. RefusesInit secret timestamp t.history refusal)
    → IfSome a (λ t. TellsStart (told_files t) (carry_status (target_fault refusal)))
unmade_tells secret timestamp None unkeyed time refusal begun refused = tt
unmade_tells secret timestamp (Some t) unkeyed time refusal begun refused =
    init_tells secret (told_files t) unkeyed refusal (subst (λ (l : List ℕ). RefusesFiles secret l (told_files t) refusal) time (refused begun))

-- what was told before is told behind it
not_untold : (t : Told) (b : Option Told) (E : History → History → Type 0) → b ≡ Some t → Between b None E → ⊥
not_untold t b E is q =
    let r : Between (Some t) None E = subst (λ (o : Option Told). Between o None E) is q in
    let e = r.1 in
    let no : ⊥ = cc in
    no

-- a repository that was made, into which the archives aren't copied
pub uncopied_tells : (from : Origin) (names : List (List ℕ)) (store store_now : Store) (a b d : Option Told) (n m : ℕ) (E : History → History → Type 0)
    (fault : CarryFault) → Works SettlesFirst IsMadeNew a b n m (Ok store) → Between b d E → RefusesNames from b store d store_now names fault
    → IfSome a (λ t. TellsStart (told_files t) (carry_status fault))
uncopied_tells from names store store_now None b d n m E fault made each refused = tt
uncopied_tells from names store store_now (Some s) b None n m E fault made each refused =
    absurd (not_untold made.end.0 b E made.end.1 each)
uncopied_tells from names store store_now (Some s) b (Some u) n m E fault made each refused =
    names_tell from b u store store_now names (told_files s) fault made.end.2.1.free refused

-- the same of what the copy says
pub copied_tells : (source : Files) (repo : RepoState) (names : List (List ℕ)) (store store_now : Store) (a b d : Option Told) (n m k : ℕ)
    (x y : Option (List ℕ)) (r : Result Carried CarryFault) → Works SettlesFirst IsMadeNew a b n m (Ok store)
    → ReportsWhole (drill_origin source repo) names (target_state b m store) (target_state d k store_now) (drawn_from x y) r
    → IfErr r (RefusesNames (drill_origin source repo) b store d store_now names)
    → IfErr r (λ fault. IfSome a (λ t. TellsStart (told_files t) (carry_status fault)))
copied_tells source repo names store store_now a b d n m k x y (Ok carried) made reports refused = tt
copied_tells source repo names store store_now a b d n m k x y (Err fault) made reports refused =
    let from = drill_origin source repo in
    uncopied_tells from names store store_now a b d n m (KeepsReported from names store reports.added) fault made reports.works.each refused

-- ---- the target

-- where no store is made nothing is copied
pub unmade_works : (source : Files) (repo : RepoState) (names : List (List ℕ)) (a b : Option Told) (n m : ℕ) (fault : CarryFault)
    → Works {T = Store} SettlesFirst IsMadeNew a b n m (Err fault) → Works SettlesFirst (CopiesNames source repo names) a b n m (Err fault)
unmade_works source repo names a b n m fault p = record { each = p.each; end = tt; ends = p.ends; cause = p.cause }

-- a store that was made fits
pub made_fits : (store : Store) (a b : Option Told) (n m : ℕ) → Works SettlesFirst IsMadeNew a b n m (Ok store)
    → IfSome b (λ t. StoreFits false store t.history)
made_fits store a b n m made =
    known_end (λ h. StoreFits false store h) (λ h g. AllDone h g × IsMadeNew store h g) a b made.ends (λ h g e. e.1.fits) made.end

-- all archives of the drill's source were copied
pub copied_drill : (count : ℕ) (source : Files) (is : IsSource count source) (repo : RepoState) (opens : OpensFilesTo source source_secret repo)
    (most : count ≤ 64) (carried : Carried) (a b : Option Told) (n m : ℕ) → 1 ≤ count → HasPlain source
    → Works SettlesFirst (λ carried. CopiesNames source repo (chosen_of [] repo.manifest) carried) a b n m (Ok carried)
    → IfSome b (λ t. HasCopied count carried t.history)
copied_drill count source is repo opens most carried a b n m least plain works =
    known_end (λ h. HasCopied count carried h) (λ h g. AllDone h g × CopiesNames source repo (chosen_of [] repo.manifest) carried h g) a b works.ends
    (λ h g e. has_copied count source is repo opens most carried h g
    (subst (λ (names : List (List ℕ)). CopiesNames source repo names carried h g) (chosen_names count source is repo opens most) e.1) least plain) works.end

-- nothing was committed in a target into which they were
pub copied_start : (source : Files) (repo : RepoState) (names : List (List ℕ)) (carried : Carried) (a b : Option Told) (n m : ℕ)
    (P : Files → Type 0) → Works SettlesFirst (λ carried. CopiesNames source repo names carried) a b n m (Ok carried)
    → ((files : Files) → IsFree files → P files) → IfSome a (λ t. P (told_files t))
copied_start source repo names carried None b n m P works says = tt
copied_start source repo names carried (Some s) b n m P works says = says (told_files s) works.end.2.1.made.free

-- what holds stays so where nothing is done behind
pub each_read : (P : History → History → Type 0) (a b c : Option Told) → Between a b P → Between b c (λ before now. now ≡ before) → Between a c P
each_read P a b c each read = between_then a b c P (λ before now. now ≡ before) P (λ h g i e same. subst (P h) (sym same) e) each read

-- ---- a target that was committed

pub leaves_here : (h : History) → InitLeaves h h
leaves_here h committed = refl

pub init_leaves : (secret : Secret) (a b : Option Told) → Between a b (InitEach secret) → Between a b InitLeaves
init_leaves secret a b each = between_map a b (InitEach secret) InitLeaves (λ h g e. e.0.1) each

-- none was where a store was made
pub made_leaves : (store : Store) (a b c : Option Told) (n m : ℕ) (P : History → History → Type 0) → Works SettlesFirst IsMadeNew a b n m (Ok store)
    → Between b c P → Between a c InitLeaves
made_leaves store a b c n m P made each =
    between_then a b c (λ h g. AllDone h g × IsMadeNew store h g) P InitLeaves (λ h g i e p committed. absurd (committed e.1.free.uncommitted)) made.end each
