-- Lemmas on specs/DeleteSteps.antt: what goes with an archive, read from the repository of a store.
use Rattle.std.proofs.Common.{◌≡◌, ◌⊎◌, ◌<◌, inl, inr, ℕ, Bool, false, List, Option, Some, None, Result, Ok, Err, IfSome, IsSome, refl, sym, subst}
use Rattle.std.specs.FinMap.{get}
use Rattle.ferry_disk.proofs.FaultLemmas.{keeps_end}
use Rattle.ferry_disk.proofs.MomentLemmas.{between_map}
use Rattle.ferry_disk.specs.Act.{History, files_now}
use Rattle.ferry_disk.specs.Device.{KeepsTold, RoseWhere, Told, told_files}
use Rattle.ferry_disk.specs.Moments.{Between}
use Rattle.ferry_repo.specs.Fault.{IsOfFiles, repo_failed}
use Rattle.ferry_repo.specs.Opening.{FitsRepo, RepoState, cached_in, repo_view}
use Rattle.ferry_repo.specs.declared.fault.RepoFault.{RepoFault}
use Rattle.ferry_repo.specs.declared.fault.RepoFault.TheVariants as Repos
use Rattle.ferry_repo.specs.declared.repo.Repo.{Repo}
use Rattle.ferry_refs.specs.DeleteSteps.{ReadsGoing, RefusesGoing}
use Rattle.ferry_refs.specs.Deleting.{AreGoing, LeavesCommitted}
use Rattle.ferry_refs.specs.Refs.{RefusesRefs}
use Rattle.ferry_stops.specs.Tells.{TellsNothing}
use Rattle.ferry_store.proofs.CallLemmas.{read_refused}
use Rattle.ferry_store.proofs.ReadLemmas.{between_end, known_read, with_repo}
use Rattle.ferry_store.proofs.StepLemmas.{done_here, known_then, same_told}
use Rattle.ferry_store.proofs.StoreLemmas.{repo_is}
use Rattle.ferry_store.specs.Content.{IsThere}
use Rattle.ferry_store.specs.Fault.{repo_refusal}
use Rattle.ferry_store.specs.Standing.{CommitsManifest, HoldsLive, committed_of, entries_of, live_in}
use Rattle.ferry_store.specs.State.{Did}
use Rattle.ferry_store.specs.Store.{IsKnown, StoreFits}
use Rattle.ferry_store.specs.Types.{ReadsSettings}
use Rattle.ferry_store.specs.declared.store.Store.{Store}
use Rattle.ferry_write.specs.Room.{behind}
use Rattle.ferry_write.specs.Script.{AllDone}
use Rattle.ferry_refs.proofs.DropLemmas.{leaves_here}

-- ---- a store whose repository was read

known_with : (store : Store) (repo : Repo) (id : List ℕ) → repo_view repo ≡ repo_view store.repo → IsKnown (with_repo store repo) id → IsKnown store id
known_with store repo id same (inl zero) = inl zero
known_with store repo id same (inr (inl put)) = inr (inl (subst (λ (r : RepoState). IsSome (get r.log.learnt id)) same put))
known_with store repo id same (inr (inr has)) = inr (inr has)

-- it fits with what was written
pub fits_with : (counts : Bool) (store : Store) (repo : Repo) (h : History) → repo_view repo ≡ repo_view store.repo
    → FitsRepo (files_now h) (repo_view repo) (cached_in repo) → (fits : StoreFits counts store h)
    → (fits_now : StoreFits counts (with_repo store repo) h) × (fits_now.written ≡ fits.written)
fits_with counts store repo h same repo_fits fits = (
  record {
    written = fits.written;
    under_way = fits.under_way;
    settings = subst (λ (r : RepoState). ReadsSettings fits.written.config r.config) (sym same) fits.settings;
    repo = repo_fits;
    below = subst (λ (r : RepoState). r.log.transaction < behind store.session.after) (sym same) fits.below;
    there = λ id apart known.
        subst (λ (r : RepoState). IsThere (files_now h) r id) (sym same) (fits.there id apart (known_with store repo id same known));
    holds = subst (λ (r : RepoState). HoldsLive (files_now h) r.log (entries_of fits.written)) (sym same) fits.holds;
    manifest = subst (λ (r : RepoState). CommitsManifest r fits.written.committed) (sym same) fits.manifest;
    keeps = fits.keeps;
    pending = fits.pending;
    chunks = fits.chunks;
    learnt = λ id blob apart live.
        subst (λ (r : RepoState). (live_in id (committed_of fits.written) ≡ Some blob) ⊎ IsSome (get r.log.learnt id)) (sym same)
        (fits.learnt id blob apart live);
  },
  refl,
)

-- ---- what goes was read

reads_by : (name : List ℕ) (ids : List (List ℕ)) (store : Store) (repo : Repo) (h g : History) → repo_view repo ≡ repo_view store.repo → g ≡ h
    → AreGoing (files_now h) (repo_view store.repo) name ids → FitsRepo (files_now g) (repo_view repo) (cached_in repo)
    → ReadsGoing name ids store (with_repo store repo) h g
reads_by name ids store repo h g same_repo same going repo_fits =
    subst (λ (k : History). FitsRepo (files_now k) (repo_view repo) (cached_in repo) → ReadsGoing name ids store (with_repo store repo) h k) (sym same)
    (λ fits_here. record { same = refl; going = going; fits = λ counts fits. fits_with counts store repo h same_repo fits_here fits }) repo_fits

pub did_read : {T : Type 0} (name : List ℕ) (items : T → List (List ℕ)) (store : Store) (repo : Repo) (a b : Option Told) (n m : ℕ) (x : T)
    → repo_view repo ≡ repo_view store.repo → KeepsTold {T = T} repo_failed a b (Ok x) → m ≡ n
    → IfSome b (λ t. FitsRepo (told_files t) (repo_view repo) (cached_in repo))
    → IfSome a (λ t. AreGoing (told_files t) (repo_view store.repo) name (items x))
    → Did {T = T} (LeavesCommitted store) (λ y. ReadsGoing name (items y) store (with_repo store repo)) a b n m (Ok x)
did_read {T} name items store repo a b n m x same_repo same caused repo_fits going =
    let now = with_repo store repo in
    let reads : Between a b (λ h g. g ≡ h) = same_told {T = T} repo_failed a b (Ok x) same in
    record {
      each = between_map a b (λ h g. g ≡ h) (LeavesCommitted store)
          (λ h g e. subst (LeavesCommitted store h) (sym e) (leaves_here store h)) reads;
      end = between_map a b
          (λ h g. (AreGoing (files_now h) (repo_view store.repo) name (items x) × (g ≡ h)) × FitsRepo (files_now g) (repo_view repo) (cached_in repo))
          (λ h g. AllDone h g × ReadsGoing name (items x) store now h g)
          (λ h g e. (subst (AllDone h) (sym e.0.1) (done_here h), reads_by name (items x) store repo h g same_repo e.0.1 e.0.0 e.1))
          (between_end (λ h. FitsRepo (files_now h) (repo_view repo) (cached_in repo))
          (λ h g. AreGoing (files_now h) (repo_view store.repo) name (items x) × (g ≡ h)) a b repo_fits
          (known_then (λ h. AreGoing (files_now h) (repo_view store.repo) name (items x)) (λ h g. g ≡ h) a b going reads));
      ends = keeps_end {T = T} repo_failed a b (Ok x) same;
      cause = caused;
    }

-- or it wasn't
pub did_unread : {U : Type 0} (T : Type 0) (Q : U → History → History → Type 0) (store : Store) (a b : Option Told) (n m : ℕ) (fault : RepoFault)
    → KeepsTold {T = T} repo_failed a b (Err fault) → RoseWhere (repo_failed fault) n m
    → Did {T = U} (LeavesCommitted store) Q a b n m (Err (repo_refusal fault))
did_unread {U} T Q store a b n m fault same caused =
    read_refused {T = U} repo_failed fault (repo_refusal fault) (LeavesCommitted store) Q a b n m (repo_is fault) (leaves_here store) same caused

-- no line was told
pub untold_read : {T : Type 0} (a b : Option Told) (result : Result T RepoFault) → KeepsTold repo_failed a b result → Between a b TellsNothing
untold_read a b result same =
    between_map a b (λ h g. g ≡ h) TellsNothing (λ h g e. subst (TellsNothing h) (sym e) refl) (same_told repo_failed a b result same)

-- the store fits then
pub fits_then : {T : Type 0} (store : Store) (repo : Repo) (a b : Option Told) (result : Result T RepoFault) → repo_view repo ≡ repo_view store.repo
    → KeepsTold repo_failed a b result → IfSome b (λ t. FitsRepo (told_files t) (repo_view repo) (cached_in repo))
    → IfSome a (λ t. StoreFits false store t.history) → IfSome b (λ t. StoreFits false (with_repo store repo) t.history)
fits_then store repo a b result same_repo same repo_fits fits = by b repo_fits (known_read (StoreFits false store) repo_failed a b result same fits) where
  by : (b : Option Told) → IfSome b (λ t. FitsRepo (told_files t) (repo_view repo) (cached_in repo)) → IfSome b (λ t. StoreFits false store t.history)
      → IfSome b (λ t. StoreFits false (with_repo store repo) t.history)
  by None r f = tt
  by (Some told) r f = (fits_with false store repo told.history same_repo r f).0

-- ---- why it wasn't

both_known : (told : Option Told) (repo : RepoState) (fault : RepoFault) → IsOfFiles fault → IfSome told (λ t. RefusesRefs (told_files t) repo fault)
    → IfSome told (λ t. IsOfFiles fault × RefusesRefs (told_files t) repo fault)
both_known None repo fault of refused = tt
both_known (Some t) repo fault of refused = (of, refused)

pub refuses_going : (told : Option Told) (repo : RepoState) (fault : RepoFault)
    → (IsOfFiles fault → IfSome told (λ t. RefusesRefs (told_files t) repo fault)) → RefusesGoing told repo (repo_refusal fault)
refuses_going told repo Repos.NoCommit refused = both_known told repo Repos.NoCommit tt (refused tt)
refuses_going told repo (Repos.Damaged segment at) refused = both_known told repo (Repos.Damaged segment at) tt (refused tt)
refuses_going told repo (Repos.Config f) refused = both_known told repo (Repos.Config f) tt (refused tt)
refuses_going told repo (Repos.Key f) refused = both_known told repo (Repos.Key f) tt (refused tt)
refuses_going told repo (Repos.Missing id) refused = both_known told repo (Repos.Missing id) tt (refused tt)
refuses_going told repo (Repos.Blob id f) refused = both_known told repo (Repos.Blob id f) tt (refused tt)
refuses_going told repo (Repos.Manifest f) refused = both_known told repo (Repos.Manifest f) tt (refused tt)
refuses_going told repo (Repos.Archive id f) refused = both_known told repo (Repos.Archive id f) tt (refused tt)
refuses_going told repo (Repos.Item id f) refused = both_known told repo (Repos.Item id f) tt (refused tt)
refuses_going told repo (Repos.Size id) refused = both_known told repo (Repos.Size id) tt (refused tt)
refuses_going told repo (Repos.KeyFile f) refused = both_known told repo (Repos.KeyFile f) tt (refused tt)
refuses_going told repo (Repos.Other file config) refused = both_known told repo (Repos.Other file config) tt (refused tt)
refuses_going told repo Repos.NoKey refused = both_known told repo Repos.NoKey tt (refused tt)
refuses_going told repo Repos.Device refused = tt
refuses_going told repo Repos.Memory refused = tt
