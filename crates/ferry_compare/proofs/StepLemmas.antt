-- Lemmas on specs/Compare.antt and specs/Steps.antt: a step of a comparison, over what the shelves of both repositories tell.
use Rattle.std.proofs.Common.{◌≡◌, ℕ, Bool, true, false, List, [], ◌∷◌, Option, Some, None, Result, Ok, Err, OnOk, IfOk, IfSome, option_map, refl, sym, subst}
use Rattle.ferry_disk.specs.Device.{KeepsTold, Told, told_files, heard}
use Rattle.ferry_disk.specs.Files.{Files}
use Rattle.ferry_disk.proofs.DeviceLemmas.{told_same, told_then, told_with}
use Rattle.ferry_item.specs.Item.{ItemText, item_view}
use Rattle.ferry_item.specs.declared.item.Item.{Item}
use Rattle.ferry_item.specs.declared.item.ChunkRef.{ChunkRef}
use Rattle.ferry_log.specs.State.{FitsFiles}
use Rattle.ferry_repo.specs.Cached.{Contents}
use Rattle.ferry_repo.specs.Fault.{IsOfFiles}
use Rattle.ferry_repo.specs.Opening.{RepoState, FitsRepo}
use Rattle.ferry_repo.specs.Walk.{WalkState, IsToCome, LeadsOn, FitsWalk}
use Rattle.ferry_repo.specs.Archives.{HoldsJoined, RefusesJoined}
use Rattle.ferry_repo.specs.Whole.{WholeItem, HoldsItem, WholeArchive, RefusesWhole}
use Rattle.ferry_repo.specs.declared.fault.RepoFault.{RepoFault}
use Rattle.ferry_compare.specs.Compare.{Says, Apart, ReadsSoFar, Seen, seen, StandsBeside, met_behind, ComparisonState, FitsTold, AreEqual, Differ}
use Rattle.ferry_compare.specs.Fault.{source_fault}
use Rattle.ferry_compare.specs.Matched.{AreMatched, Matched}
use Rattle.ferry_compare.specs.Steps.{Goes, GoesOn, FindsAt, FindsBeside, WalksBeside, MovesBeside, EndsBeside, TakesItem, ComparesItems, HoldsSome, HoldsWhere}
use Rattle.ferry_compare.specs.Steps.{RefusesSource, RefusesItem, kept_where}
use Rattle.ferry_compare.specs.declared.fault.CompareFault.{CompareFault}
use Rattle.ferry_compare.specs.declared.fault.CompareFault.TheVariants.{Source, Target, Memory}
use Rattle.ferry_compare.proofs.FaultLemmas.{refuses_source}
use Rattle.ferry_compare.proofs.WalkLemmas.{one_next, next_or_end, end_or_next, end_or_refused}
use Rattle.ferry_compare.proofs.ReadLemmas.{StandsIn, with_item, goes_on, apart_on, moves_beside, ends_whole, apart_says, goes_beyond}
use Rattle.ferry_compare.proofs.ReadLemmas.{stream_refused, content_refused}

-- ---- answers

pub on_ok : {A E : Type 0} (r : Result A E) (P Q : Type 0) → (P → Q) → OnOk r P → OnOk r Q
on_ok (Ok v) P Q f p = f p
on_ok (Err e) P Q f p = tt

pub if_ok : {A E : Type 0} (r : Result A E) (P Q : A → Type 0) → ((v : A) → P v → Q v) → IfOk r P → IfOk r Q
if_ok (Ok v) P Q f p = f v p
if_ok (Err e) P Q f p = tt

-- what a shelf tells behind an answer is what it told
pub keeps_ok : {A E : Type 0} (is_device : E → Bool) (before now : Option Told) (r : Result A E) → KeepsTold is_device before now r
    → OnOk r (heard now ≡ heard before)
keeps_ok is_device before now (Ok v) same = same
keeps_ok is_device before now (Err e) same = tt

pub some_holds : {A : Type 0} (o : Option A) (x : A) (P : A → Type 0) → o ≡ Some x → IfSome o P → P x
some_holds None x P e p = absurd (let no : ⊥ = cc in no)
some_holds (Some y) x P e p = let same : y ≡ x = cc in subst P same p

-- ---- facts of the files that a shelf tells

pub log_fits : (told : Option Told) (repo : RepoState) (cached : Contents) → IfSome told (λ t. FitsRepo (told_files t) repo cached)
    → IfSome told (λ t. FitsFiles (told_files t) repo.log)
log_fits told repo cached fits = told_then told (λ f. FitsRepo f repo cached) (λ f. FitsFiles f repo.log) (λ f x. x.log) fits

pub told_both : (a : Option Told) (P Q : Files → Type 0) → IfSome a (λ t. P (told_files t)) → IfSome a (λ t. Q (told_files t))
    → IfSome a (λ t. P (told_files t) × Q (told_files t))
told_both a P Q p q = told_with a a P Q (λ f. P f × Q f) refl (λ f x y. (x, y)) p q

-- what holds of the files and the repository at a later call holds of those at an earlier one
pub at_first : (told later : Option Told) (repo after : RepoState) (P : RepoState → Files → Type 0) → heard later ≡ heard told → after ≡ repo
    → IfSome later (λ t. P after (told_files t)) → IfSome told (λ t. P repo (told_files t))
at_first told later repo after P same kept p =
    subst (λ (r : RepoState). IfSome told (λ t. P r (told_files t))) kept (told_same later told (λ f. P after f) (sym same) p)

pub at_last : (told later : Option Told) (repo after : RepoState) (P : RepoState → Files → Type 0) → heard later ≡ heard told → after ≡ repo
    → IfSome told (λ t. P repo (told_files t)) → IfSome later (λ t. P after (told_files t))
at_last told later repo after P same kept p =
    subst (λ (r : RepoState). IfSome later (λ t. P r (told_files t))) (sym kept) (told_same told later (λ f. P repo f) same p)

-- ---- contents that were found to be the same

-- what holds at one time holds at another, of the same files and the same repositories
module _ (told later : Option Told) (source after : RepoState) (other last : Option Told) (target renewed : RepoState) (same : heard later ≡ heard told)
    (kept : after ≡ source) (other_same : heard last ≡ heard other) (other_kept : renewed ≡ target) where
  pub matched_later : (matched : Matched) → AreMatched told source other target matched → AreMatched later after last renewed matched
  matched_later [] all = tt
  matched_later (m ∷ matched) all = (
    record {
      content = all.0.content;
      first = at_last told later source after (λ r f. HoldsJoined f r.log r.keys (Some m.1.chunks) (Some all.0.content)) same kept all.0.first;
      second = at_last other last target renewed (λ r f. HoldsJoined f r.log r.keys (Some m.1.others) (Some all.0.content)) other_same other_kept all.0.second;
    },
    matched_later matched all.1,
  )

-- ---- the source

pub goes_of : (told : Option Told) (repo : RepoState) (from now : WalkState) (item : ItemText)
    → IfSome told (λ t. LeadsOn (told_files t) repo.log repo.keys from (item ∷ []) now)
    → IfSome told (λ t. FitsWalk (told_files t) repo.log repo.keys now) → (now.id ≡ from.id) × (now.ids ≡ from.ids)
    → IfSome told (λ t. Goes (told_files t) repo from item now)
goes_of told repo from now item leads fits same =
    told_with told told (λ f. LeadsOn f repo.log repo.keys from (item ∷ []) now) (λ f. FitsWalk f repo.log repo.keys now) (λ f. Goes f repo from item now)
    refl (λ f l w. record { leads = l; fits = w; id = same.0; ids = same.1 }) leads fits

pub goes_one : (told : Option Told) (repo : RepoState) (from now : WalkState) (item : ItemText)
    → IfSome told (λ t. Goes (told_files t) repo from item now) → IfSome told (λ t. GoesOn (told_files t) repo from now)
goes_one told repo from now item goes = told_then told (λ f. Goes f repo from item now) (λ f. GoesOn f repo from now) (λ f h. (item, h)) goes

pub source_goes : (told : Option Told) (repo : RepoState) (name : List ℕ) (from now : WalkState) (front : WholeArchive) (item : ItemText)
    (whole : WholeItem) → IfSome told (λ t. FitsFiles (told_files t) repo.log) → IfSome told (λ t. ReadsSoFar (told_files t) repo name from front)
    → IfSome told (λ t. Goes (told_files t) repo from item now) → IfSome told (λ t. HoldsItem (told_files t) repo.log repo.keys item whole)
    → IfSome told (λ t. ReadsSoFar (told_files t) repo name now (with_item front whole))
source_goes told repo name from now front item whole fits reads goes holds =
    told_with told told (λ f. FitsFiles f repo.log × ReadsSoFar f repo name from front)
    (λ f. Goes f repo from item now × HoldsItem f repo.log repo.keys item whole) (λ f. ReadsSoFar f repo name now (with_item front whole)) refl
    (λ f x y. goes_on f repo name from now front item whole x.0 x.1 y.0 y.1)
    (told_both told (λ f. FitsFiles f repo.log) (λ f. ReadsSoFar f repo name from front) fits reads)
    (told_both told (λ f. Goes f repo from item now) (λ f. HoldsItem f repo.log repo.keys item whole) goes holds)

-- the next item of the source is refused
pub source_ends : (told : Option Told) (repo : RepoState) (name : List ℕ) (walk : WalkState) (front : WholeArchive) (fault : RepoFault)
    → IfSome told (λ t. ReadsSoFar (told_files t) repo name walk front)
    → (IsOfFiles fault → IfSome told (λ t. IsToCome (told_files t) repo.log repo.keys walk [] (Some fault)))
    → RefusesSource told repo name (source_fault fault)
source_ends told repo name walk front fault reads come =
    refuses_source told repo name fault (λ of_files. told_with told told (λ f. ReadsSoFar f repo name walk front)
    (λ f. IsToCome f repo.log repo.keys walk [] (Some fault)) (λ f. RefusesWhole f repo.log repo.keys repo.manifest.archives name fault) refl
    (λ f r c. stream_refused f repo name walk front fault r c) reads (come of_files))

-- the content of the next item of the source is refused
pub source_lacks : (told : Option Told) (repo : RepoState) (name : List ℕ) (from now : WalkState) (front : WholeArchive) (item : ItemText)
    (fault : CompareFault) → IfSome told (λ t. FitsFiles (told_files t) repo.log) → IfSome told (λ t. ReadsSoFar (told_files t) repo name from front)
    → IfSome told (λ t. Goes (told_files t) repo from item now) → RefusesItem told repo item.chunks fault → RefusesSource told repo name fault
source_lacks told repo name from now front item (Source fault) fits reads goes refuses = λ of_files.
    told_with told told (λ f. FitsFiles f repo.log × ReadsSoFar f repo name from front)
    (λ f. Goes f repo from item now × RefusesJoined f repo.log repo.keys item.chunks fault)
    (λ f. RefusesWhole f repo.log repo.keys repo.manifest.archives name fault) refl
    (λ f x y. content_refused f repo name from now front item fault x.0 x.1 y.0 y.1)
    (told_both told (λ f. FitsFiles f repo.log) (λ f. ReadsSoFar f repo name from front) fits reads)
    (told_both told (λ f. Goes f repo from item now) (λ f. RefusesJoined f repo.log repo.keys item.chunks fault) goes (refuses of_files))
source_lacks told repo name from now front item (Target fault) fits reads goes refuses = tt
source_lacks told repo name from now front item Memory fits reads goes refuses = tt

pub item_at_first : (told later : Option Told) (repo after : RepoState) (chunks : Option (List ChunkRef)) (fault : CompareFault)
    → heard later ≡ heard told → after ≡ repo → RefusesItem later after chunks fault → RefusesItem told repo chunks fault
item_at_first told later repo after chunks (Source fault) same kept refuses = λ of_files.
    at_first told later repo after (λ r f. RefusesJoined f r.log r.keys chunks fault) same kept (refuses of_files)
item_at_first told later repo after chunks (Target fault) same kept refuses = tt
item_at_first told later repo after chunks Memory same kept refuses = tt

-- ---- the target

-- a difference that is met in the target as it is
pub stands_now : (told : Option Told) (repo : RepoState) (name : List ℕ) (walk : Option WalkState) (front : WholeArchive)
    → IfSome told (λ t. StandsIn (told_files t) repo name walk front) → StandsBeside told repo (seen told repo) name walk front
stands_now told repo name None front stands = stands
stands_now told repo name (Some walk) front stands = stands

pub target_moves : (told : Option Told) (repo : RepoState) (met : Seen) (name : List ℕ) (from now : Option WalkState) (front : WholeArchive)
    (item : WholeItem) → IfSome told (λ t. FitsFiles (told_files t) repo.log) → (from ≡ None → now ≡ None)
    → StandsBeside told repo met name from front → IfSome told (λ t. MovesBeside (told_files t) repo from item now)
    → StandsBeside told repo (met_behind from met (seen told repo)) name now (with_item front item)
target_moves told repo met name None now front item fits none stands moves =
    subst (λ (w : Option WalkState). StandsBeside told repo met name w (with_item front item)) (sym (none refl))
    (told_then met.told (λ f. Apart f met.repo name front) (λ f. Apart f met.repo name (with_item front item))
    (λ f a. apart_on f met.repo name front item a) stands)
target_moves told repo met name (Some from) now front item fits none stands moves =
    stands_now told repo name now (with_item front item)
    (told_with told told (λ f. FitsFiles f repo.log × ReadsSoFar f repo name from front) (λ f. MovesBeside f repo (Some from) item now)
    (λ f. StandsIn f repo name now (with_item front item)) refl (λ f x y. moves_beside f repo name from now front item x.0 x.1 y)
    (told_both told (λ f. FitsFiles f repo.log) (λ f. ReadsSoFar f repo name from front) fits stands) moves)

-- ---- one item more of both

module _ (told : Option Told) (source : RepoState) (heard_of : Option Told) (target : RepoState) (met : Seen) (name : List ℕ) (from now : WalkState)
    (walk after : Option WalkState) (front : WholeArchive) (item : ItemText) (matched : Matched) where
  pub both_go : IfSome told (λ t. FitsFiles (told_files t) source.log) → IfSome heard_of (λ t. FitsFiles (told_files t) target.log)
      → IfSome told (λ t. ReadsSoFar (told_files t) source name from front)
      → StandsBeside heard_of target met name walk front → (walk ≡ None → after ≡ None)
      → IfSome told (λ t. Goes (told_files t) source from item now) → TakesItem told source heard_of target item walk after
      → AreMatched told source heard_of target matched
      → FitsTold told source heard_of target (met_behind walk met (seen heard_of target))
      (record { name = name; walk = now; other = after; matched = matched })
  both_go fits other_fits reads stands none goes takes are_matched = record {
    front = with_item front takes.whole;
    read = source_goes told source name from now front item takes.whole fits reads goes takes.holds;
    beside = target_moves heard_of target met name walk after front takes.whole other_fits none stands takes.moves;
    matched = are_matched;
  }

stands_later : (told later : Option Told) (repo after : RepoState) (met : Seen) (name : List ℕ) (from walk : Option WalkState) (front : WholeArchive)
    → heard later ≡ heard told → after ≡ repo → StandsBeside told repo (met_behind from met (seen told repo)) name walk front
    → StandsBeside later after (met_behind from met (seen later after)) name walk front
stands_later told later repo after met name None None front same kept stands = stands
stands_later told later repo after met name (Some from) None front same kept stands =
    at_last told later repo after (λ r f. Apart f r name front) same kept stands
stands_later told later repo after met name from (Some walk) front same kept stands =
    at_last told later repo after (λ r f. ReadsSoFar f r name walk front) same kept stands

pub fits_later : (told later : Option Told) (source after : RepoState) (other last : Option Told) (target renewed : RepoState) (met : Seen)
    (from : Option WalkState) (state : ComparisonState) → heard later ≡ heard told → after ≡ source → heard last ≡ heard other → renewed ≡ target
    → FitsTold told source other target (met_behind from met (seen other target)) state
    → FitsTold later after last renewed (met_behind from met (seen last renewed)) state
fits_later told later source after other last target renewed met from state same kept same_other kept_other fits = record {
  front = fits.front;
  read = at_last told later source after (λ r f. ReadsSoFar f r state.name state.walk fits.front) same kept fits.read;
  beside = stands_later other last target renewed met state.name from state.other fits.front same_other kept_other fits.beside;
  matched = matched_later told later source after other last target renewed same kept same_other kept_other state.matched fits.matched;
}

pub takes_first : (told later : Option Told) (source after : RepoState) (other : Option Told) (target : RepoState) (item : ItemText)
    (walk now : Option WalkState) → heard later ≡ heard told → after ≡ source → TakesItem later after other target item walk now
    → TakesItem told source other target item walk now
takes_first told later source after other target item walk now same kept takes = record {
  whole = takes.whole;
  holds = at_first told later source after (λ r f. HoldsItem f r.log r.keys item takes.whole) same kept takes.holds;
  moves = takes.moves;
}

-- ---- the end

target_whole : (told : Option Told) (repo : RepoState) (met : Seen) (name : List ℕ) (walk : Option WalkState) (front : WholeArchive)
    → StandsBeside told repo met name walk front → IfSome told (λ t. EndsBeside (told_files t) repo walk)
    → IfSome told (λ t. Says (told_files t) repo name front)
target_whole told repo met name None front stands ends =
    told_then told (λ f. EndsBeside f repo None) (λ f. Says f repo name front) (λ f e. absurd e) ends
target_whole told repo met name (Some walk) front stands ends =
    told_with told told (λ f. ReadsSoFar f repo name walk front) (λ f. EndsBeside f repo (Some walk)) (λ f. Says f repo name front) refl
    (λ f r e. ends_whole f repo name walk front r e) stands ends

target_apart : (told : Option Told) (repo : RepoState) (met : Seen) (name : List ℕ) (walk : Option WalkState) (front : WholeArchive)
    → IfSome told (λ t. FitsFiles (told_files t) repo.log) → StandsBeside told repo met name walk front
    → IfSome told (λ t. EndsBeside (told_files t) repo walk → ⊥)
    → IfSome (met_behind walk met (seen told repo)).told (λ t. Says (told_files t) (met_behind walk met (seen told repo)).repo name front → ⊥)
target_apart told repo met name None front fits stands on =
    told_then met.told (λ f. Apart f met.repo name front) (λ f. Says f met.repo name front → ⊥) (λ f a. apart_says f met.repo name front a) stands
target_apart told repo met name (Some walk) front fits stands on =
    told_with told told (λ f. FitsFiles f repo.log × ReadsSoFar f repo name walk front) (λ f. EndsBeside f repo (Some walk) → ⊥)
    (λ f. Says f repo name front → ⊥) refl (λ f x e. goes_beyond f repo name walk front x.0 x.1 e)
    (told_both told (λ f. FitsFiles f repo.log) (λ f. ReadsSoFar f repo name walk front) fits stands) on

module _ (told : Option Told) (source : RepoState) (other : Option Told) (target : RepoState) (name : List ℕ) (walk : WalkState)
    (beside : Option WalkState) (front : WholeArchive) where
  source_whole : IfSome told (λ t. ReadsSoFar (told_files t) source name walk front)
      → IfSome told (λ t. IsToCome (told_files t) source.log source.keys walk [] None) → IfSome told (λ t. Says (told_files t) source name front)
  source_whole reads come =
      told_with told told (λ f. ReadsSoFar f source name walk front) (λ f. IsToCome f source.log source.keys walk [] None) (λ f. Says f source name front)
      refl (λ f r c. ends_whole f source name walk front r c) reads come

  pub both_end : (met : Seen) → IfSome told (λ t. ReadsSoFar (told_files t) source name walk front)
      → IfSome told (λ t. IsToCome (told_files t) source.log source.keys walk [] None)
      → StandsBeside other target met name beside front → IfSome other (λ t. EndsBeside (told_files t) target beside)
      → AreEqual told source other target name
  both_end met reads come stands ends = record {
    whole = front;
    first = source_whole reads come;
    second = target_whole other target met name beside front stands ends;
  }

  pub one_ends : (met : Seen) → IfSome told (λ t. ReadsSoFar (told_files t) source name walk front)
      → IfSome told (λ t. IsToCome (told_files t) source.log source.keys walk [] None)
      → IfSome other (λ t. FitsFiles (told_files t) target.log)
      → StandsBeside other target met name beside front → IfSome other (λ t. EndsBeside (told_files t) target beside → ⊥)
      → Differ told source (met_behind beside met (seen other target)).told (met_behind beside met (seen other target)).repo name
  one_ends met reads come fits stands on = record {
    whole = front;
    first = source_whole reads come;
    second = target_apart other target met name beside front fits stands on;
  }

-- ---- an item beside

-- the walk of the target was moved, or is not kept
found_moves : (files : Files) (repo : RepoState) (from now : Option WalkState) (other : ItemText) (whole : WholeItem) (same : Bool)
    → FitsFiles files repo.log → WalksBeside files repo from → FindsBeside files repo from (Some other) now
    → HoldsWhere same (HoldsItem files repo.log repo.keys other whole) → MovesBeside files repo from whole (kept_where same now)
found_moves files repo None now other whole same fits walks finds holds = absurd finds
found_moves files repo (Some from) None other whole same fits walks finds holds = absurd finds
found_moves files repo (Some from) (Some now) other whole true fits walks finds holds = (other, finds, holds)
found_moves files repo (Some from) (Some now) other whole false fits walks finds holds =
    λ item items come held. holds (subst (λ (i : ItemText). HoldsItem files repo.log repo.keys i whole)
    (sym (one_next files repo from now other item items None walks fits finds come)) held)

none_moves : (files : Files) (repo : RepoState) (from now : Option WalkState) (whole : WholeItem) → FindsBeside files repo from None now
    → MovesBeside files repo from whole None
none_moves files repo None now whole finds = tt
none_moves files repo (Some from) None whole finds = absurd finds
none_moves files repo (Some from) (Some now) whole finds = λ item items come held. finds item items come

-- the item of the target was compared
pub takes_found : (told : Option Told) (source : RepoState) (heard_first heard_then : Option Told) (target renewed : RepoState) (item other : ItemText)
    (from now : Option WalkState) (same : Bool) → heard heard_then ≡ heard heard_first → renewed ≡ target
    → IfSome heard_first (λ t. FitsFiles (told_files t) target.log) → IfSome heard_first (λ t. WalksBeside (told_files t) target from)
    → IfSome heard_first (λ t. FindsBeside (told_files t) target from (Some other) now)
    → ComparesItems told source heard_then renewed item other same → TakesItem told source heard_first target item from (kept_where same now)
takes_found told source heard_first heard_then target renewed item other from now same alike kept fits walks finds compares = record {
  whole = compares.whole;
  holds = compares.holds;
  moves = told_with heard_first heard_first (λ f. FitsFiles f target.log × WalksBeside f target from)
      (λ f. FindsBeside f target from (Some other) now × HoldsWhere same (HoldsItem f target.log target.keys other compares.whole))
      (λ f. MovesBeside f target from compares.whole (kept_where same now)) refl
      (λ f x y. found_moves f target from now other compares.whole same x.0 x.1 y.0 y.1)
      (told_both heard_first (λ f. FitsFiles f target.log) (λ f. WalksBeside f target from) fits walks)
      (told_both heard_first (λ f. FindsBeside f target from (Some other) now)
      (λ f. HoldsWhere same (HoldsItem f target.log target.keys other compares.whole)) finds
      (at_first heard_first heard_then target renewed (λ r f. HoldsWhere same (HoldsItem f r.log r.keys other compares.whole)) alike kept compares.beside));
}

-- the content of the source's item was read, and the target has none beside it
pub takes_none : (told : Option Told) (source : RepoState) (other : Option Told) (target : RepoState) (item : ItemText) (from now : Option WalkState)
    → IfSome other (λ t. FindsBeside (told_files t) target from None now) → HoldsSome told source item.chunks
    → TakesItem told source other target item from None
takes_none told source other target item from now finds holds =
    let whole : WholeItem = record { fields = item.fields; content = holds.content } in
    record {
      whole = whole;
      holds = told_then told (λ f. HoldsJoined f source.log source.keys item.chunks holds.content) (λ f. HoldsItem f source.log source.keys item whole)
          (λ f h. record { fields = refl; content = h }) holds.holds;
      moves = told_then other (λ f. FindsBeside f target from None now) (λ f. MovesBeside f target from whole None)
          (λ f h. none_moves f target from now whole h) finds;
    }

-- ---- the next item of the target, and its end

pub finds_some : (told : Option Told) (repo : RepoState) (from now : WalkState) (item : ItemText)
    → IfSome told (λ t. LeadsOn (told_files t) repo.log repo.keys from (item ∷ []) now)
    → IfSome told (λ t. FitsWalk (told_files t) repo.log repo.keys now) → (now.id ≡ from.id) × (now.ids ≡ from.ids)
    → IfSome told (λ t. FindsAt (told_files t) repo from (Some item) now)
finds_some told repo from now item leads fits same = goes_of told repo from now item leads fits same

pub finds_none : (told : Option Told) (repo : RepoState) (from now : WalkState) (end : Option RepoFault)
    → IfSome told (λ t. FitsWalk (told_files t) repo.log repo.keys from)
    → IfSome told (λ t. IsToCome (told_files t) repo.log repo.keys from [] end) → IfSome told (λ t. FindsAt (told_files t) repo from None now)
finds_none told repo from now end fits come =
    told_with told told (λ f. FitsWalk f repo.log repo.keys from) (λ f. IsToCome f repo.log repo.keys from [] end) (λ f. FindsAt f repo from None now) refl
    (λ f w c. end_or_next f repo from w end c) fits come

-- what a step of a walk answers
pub finds_found : (told : Option Told) (repo : RepoState) (from now : WalkState) (found : Option Item)
    → IfSome told (λ t. FitsWalk (told_files t) repo.log repo.keys from)
    → IfSome found (λ item. IfSome told (λ t. LeadsOn (told_files t) repo.log repo.keys from (item_view item ∷ []) now))
    → (found ≡ None → IfSome told (λ t. IsToCome (told_files t) repo.log repo.keys from [] None))
    → IfSome told (λ t. FitsWalk (told_files t) repo.log repo.keys now) → (now.id ≡ from.id) × (now.ids ≡ from.ids)
    → IfSome told (λ t. FindsAt (told_files t) repo from (option_map item_view found) now)
finds_found told repo from now None walks leads ends fits same = finds_none told repo from now None walks (ends refl)
finds_found told repo from now (Some item) walks leads ends fits same = finds_some told repo from now (item_view item) leads fits same

pub goes_past : (told : Option Told) (repo : RepoState) (from now : WalkState) (item : ItemText)
    → IfSome told (λ t. FitsFiles (told_files t) repo.log) → IfSome told (λ t. FitsWalk (told_files t) repo.log repo.keys from)
    → IfSome told (λ t. LeadsOn (told_files t) repo.log repo.keys from (item ∷ []) now)
    → IfSome told (λ t. FitsWalk (told_files t) repo.log repo.keys now) → (now.id ≡ from.id) × (now.ids ≡ from.ids)
    → IfSome told (λ t. EndsBeside (told_files t) repo (Some from) → ⊥)
goes_past told repo from now item log walks leads fits same =
    told_with told told (λ f. FitsFiles f repo.log × FitsWalk f repo.log repo.keys from) (λ f. Goes f repo from item now)
    (λ f. EndsBeside f repo (Some from) → ⊥) refl (λ f x g. next_or_end f repo from now item None x.1 x.0 g)
    (told_both told (λ f. FitsFiles f repo.log) (λ f. FitsWalk f repo.log repo.keys from) log walks) (goes_of told repo from now item leads fits same)

pub refused_past : (told : Option Told) (repo : RepoState) (from : WalkState) (fault : RepoFault)
    → IfSome told (λ t. FitsWalk (told_files t) repo.log repo.keys from)
    → IfSome told (λ t. IsToCome (told_files t) repo.log repo.keys from [] (Some fault))
    → IfSome told (λ t. EndsBeside (told_files t) repo (Some from) → ⊥)
refused_past told repo from fault walks come =
    told_with told told (λ f. FitsWalk f repo.log repo.keys from) (λ f. IsToCome f repo.log repo.keys from [] (Some fault))
    (λ f. EndsBeside f repo (Some from) → ⊥) refl (λ f w c. end_or_refused f repo from w fault c) walks come
