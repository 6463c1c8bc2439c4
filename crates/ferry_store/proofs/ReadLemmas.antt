-- A store whose repository is read: what a device told stands, and the store fits as it did.
use Rattle.std.proofs.Common.{◌≡◌, ◌⊎◌, ◌<◌, inl, inr, ℕ, Bool, true, false, List, Option, Some, Result, Ok, Err, None, IfSome, IsSome, sym, ap, subst}
use Rattle.std.specs.FinMap.{get}
use Rattle.ferry_disk.specs.Act.{History, files_now}
use Rattle.ferry_disk.specs.Device.{Told, Heard, KeepsTold, KeptWhere, failed_at, heard, heard_of}
use Rattle.ferry_disk.specs.Moments.{Between}
use Rattle.ferry_repo.specs.Opening.{FitsRepo, RepoState, cached_in, repo_view}
use Rattle.ferry_repo.specs.declared.repo.Repo.{Repo}
use Rattle.ferry_store.specs.Content.{IsThere}
use Rattle.ferry_store.specs.Standing.{CommitsManifest, HoldsLive, committed_of, entries_of, live_in}
use Rattle.ferry_store.specs.Store.{IsKnown, StoreFits}
use Rattle.ferry_store.specs.Types.{ReadsSettings}
use Rattle.ferry_store.specs.declared.store.Store.{Store}
use Rattle.ferry_write.specs.Room.{behind}

-- ---- what a device told that is only read

known_where : (P : History → Type 0) (failed : Bool) (a b : Option Told) → KeptWhere failed (heard a) b → IfSome a (λ t. P t.history)
    → IfSome b (λ t. P t.history)
known_where P failed a None kept known = tt
known_where P false None (Some now) kept known = absurd (let no : ⊥ = cc in no)
known_where P true None (Some now) kept known = absurd (let no : ⊥ = cc in no)
known_where P false (Some told) (Some now) kept known =
    let same : heard_of now ≡ heard_of told = cc in subst P (sym (ap (λ (h : Heard). h.history) same)) known
known_where P true (Some told) (Some now) kept known =
    let same : heard_of now ≡ failed_at now.calls (heard_of told) = cc in subst P (sym (ap (λ (h : Heard). h.history) same)) known

-- what was known is known still
pub known_read : {T F : Type 0} (P : History → Type 0) (is_device : F → Bool) (a b : Option Told) (result : Result T F) → KeepsTold is_device a b result
    → IfSome a (λ t. P t.history) → IfSome b (λ t. P t.history)
known_read P is_device a b (Ok x) kept known = known_where P false a b kept known
known_read P is_device a b (Err fault) kept known = known_where P (is_device fault) a b kept known

-- what is known at the end of what was done
pub between_end : (P : History → Type 0) (E : History → History → Type 0) (a b : Option Told) → IfSome b (λ t. P t.history) → Between a b E
    → Between a b (λ h g. E h g × P g)
between_end P E None b known p = tt
between_end P E (Some told) b known p =
    let at : IfSome (Some p.0) (λ t. P t.history) = subst (λ (o : Option Told). IfSome o (λ t. P t.history)) p.1 known in (p.0, p.1, (p.2, at))

-- ---- a store whose repository was read

-- a store whose repository has kept another content
abbrev pub with_repo : Store → Repo → Store
with_repo store repo = record store { repo = repo }

known_with : (store : Store) (repo : Repo) (id : List ℕ) → repo_view repo ≡ repo_view store.repo → IsKnown (with_repo store repo) id → IsKnown store id
known_with store repo id same (inl zero) = inl zero
known_with store repo id same (inr (inl put)) = inr (inl (subst (λ (r : RepoState). IsSome (get r.log.learnt id)) same put))
known_with store repo id same (inr (inr has)) = inr (inr has)

-- it fits as it did
pub read_fits : (counts : Bool) (store : Store) (repo : Repo) (h : History) → repo_view repo ≡ repo_view store.repo
    → FitsRepo (files_now h) (repo_view repo) (cached_in repo) → StoreFits counts store h → StoreFits counts (with_repo store repo) h
read_fits counts store repo h same repo_fits fits = record {
  written = fits.written;
  under_way = fits.under_way;
  settings = subst (λ (r : RepoState). ReadsSettings fits.written.config r.config) (sym same) fits.settings;
  repo = repo_fits;
  below = subst (λ (r : RepoState). r.log.transaction < behind store.session.after) (sym same) fits.below;
  there = λ id apart known.
      subst (λ (r : RepoState). IsThere (files_now h) r id) (sym same) (fits.there id apart (known_with store repo id same known));
  holds = subst (λ (r : RepoState). HoldsLive (files_now h) r.log (entries_of fits.written)) (sym same) fits.holds;
  manifest = subst (λ (r : RepoState). CommitsManifest r fits.written.committed) (sym same) fits.manifest;
  keeps = fits.keeps;
  pending = fits.pending;
  chunks = fits.chunks;
  learnt = λ id blob apart live.
      subst (λ (r : RepoState). (live_in id (committed_of fits.written) ≡ Some blob) ⊎ IsSome (get r.log.learnt id)) (sym same)
      (fits.learnt id blob apart live);
}
