-- What `open` leaves, from what its parts did.
use Rattle.std.proofs.Common.{◌≡◌, ◌≤◌, ◌<◌, ℕ, suc, ltb, ltb-false, nat_lt, not, cond, Bool, true, false, List, [], ◌∷◌, map, Option, Some, None, Ok}
use Rattle.std.proofs.Common.{Err, IfSome}
use Rattle.std.proofs.Common.{refl, sym, ◌∙◌, ap, subst, arith}
use Rattle.std.specs.FinMap.{get, empty, get-empty}
use Rattle.std.specs.List.{AllByRecursion, filter}
use Rattle.ferry_disk.proofs.FaultLemmas.{keeps_end}
use Rattle.ferry_disk.proofs.ImageLemmas.{applied-push}
use Rattle.ferry_disk.proofs.MomentLemmas.{between_both, between_map, between_then}
use Rattle.ferry_disk.specs.Act.{RemoveOf, SettleAll, History, files_now, with_act}
use Rattle.ferry_disk.specs.Device.{Told, KeepsTold, RoseWhere, told_files}
use Rattle.ferry_disk.specs.Faults.{FailedWhere}
use Rattle.ferry_disk.specs.Files.{Files, segment_numbers, without_segment}
use Rattle.ferry_disk.specs.Moments.{Between, Moments, with_steps}
use Rattle.ferry_log.proofs.FitsLemmas.{fits_removed, opened_fits}
use Rattle.ferry_log.specs.Log.{Located}
use Rattle.ferry_log.specs.State.{LogState, FitsFiles, IsStateOf}
use Rattle.ferry_log.specs.declared.place.Place.{Place}
use Rattle.ferry_nonce.specs.declared.counter.Counter.{Counter}
use Rattle.ferry_repo.proofs.LawLemmas.{opens_fits}
use Rattle.ferry_repo.specs.Cached.{no_contents}
use Rattle.ferry_repo.specs.Fault.{repo_failed}
use Rattle.ferry_repo.specs.Opening.{FitsRepo, OpensBare, OpensFilesTo, RepoState, cached_in, repo_view}
use Rattle.ferry_repo.specs.declared.fault.RepoFault.{RepoFault}
use Rattle.ferry_repo.specs.declared.repo.Repo.{Repo}
use Rattle.ferry_repo.specs.declared.secret.Secret.{Secret}
use Rattle.ferry_segment.specs.Entry.{LogEntry}
use Rattle.ferry_stops.proofs.EntryLemmas.{log_shown, one_shown}
use Rattle.ferry_stops.specs.Chance.{EachStop}
use Rattle.ferry_stops.specs.Counters.{IsKept}
use Rattle.ferry_stops.specs.Blobs.{AllTraced}
use Rattle.ferry_stops.specs.Entries.{ShowsAt}
use Rattle.ferry_store.proofs.CallLemmas.{first_here, read_refused}
use Rattle.ferry_store.proofs.KnownLemmas.{nothing_known}
use Rattle.ferry_store.proofs.LearntLemmas.{learnt_nil}
use Rattle.ferry_store.proofs.LiveLemmas.{keeps_nil}
use Rattle.ferry_store.proofs.SoundLemmas.{stands_begun}
use Rattle.ferry_store.proofs.StandingLemmas.{fits_state, holds_opened, opened_manifest}
use Rattle.ferry_store.proofs.StepLemmas.{Reads, did_also, did_as, did_front, did_known, did_then, known_then, moments_here, moments_map, read_did, same_told}
use Rattle.ferry_store.proofs.StoreLemmas.{keeps_here, numbers_here, repo_is}
use Rattle.ferry_store.specs.Dropping.{BareFits, FitsBare, OpenBareFits}
use Rattle.ferry_store.specs.Fault.{depot_failed, repo_refusal}
use Rattle.ferry_store.specs.State.{BeginLeaves, Begins, BeginsSound, Did, HasNumber, IsBegun, IsSound, ShowsStanding, found}
use Rattle.ferry_store.proofs.TypeLemmas.{unlocked_settings}
use Rattle.ferry_store.specs.Types.{ReadsSettings}
use Rattle.ferry_store.specs.Store.{InitKeeps, KeepsRun, NumbersOn, OpenEach, OpenFits, OpenLeaves, OpenShows}
use Rattle.ferry_store.specs.declared.fault.StoreRefusal.{StoreRefusal}
use Rattle.ferry_store.specs.declared.store.Store.{Store}
use Rattle.ferry_write.proofs.LawLemmas.{fits_now}
use Rattle.ferry_write.specs.Room.{behind}
use Rattle.ferry_write.specs.Script.{AllDone, numbers_from}
use Rattle.ferry_write.specs.Session.{ClearsAll, SettlesFirst}
use Rattle.ferry_write.specs.declared.session.Session.{Session}

-- ---- what is committed

entries_shown : (files : Files) (log : LogState) → IsStateOf files log → List LogEntry
entries_shown files log reads = map (λ (e : Located). e.entry) reads.log

shown_of : (files : Files) (log : LogState) (reads : IsStateOf files log) → ShowsAt files (suc log.transaction) (Some (entries_shown files log reads))
unfolding entries_shown
shown_of files log reads = log_shown files log.transaction reads.log reads.is

begun_of : (counts : Bool) (h : History) (log : LogState) (reads : IsStateOf (files_now h) log) → h.acts ≡ []
    → (counts ≡ true → IsKept h) → IsBegun counts (Some log.transaction) (Some (entries_shown (files_now h) log reads)) h
begun_of counts h log reads e kept = record { no_acts = e; shown = shown_of (files_now h) log reads; kept = kept }

-- ---- each moment

shows_of : (log : LogState) (h g : History) → IsStateOf (files_now h) log → BeginsSound (Some log.transaction) h g → OpenShows h g
shows_of log h g reads sound committed e shown =
    let entries = entries_shown (files_now h) log reads in
    let same : Some entries ≡ Some committed =
    one_shown (files_now h) (Some entries) (Some committed) (suc log.transaction, shown_of (files_now h) log reads) shown in
    let written = found (Some entries) (files_now h) in
    subst (λ (c : Option (List LogEntry)). Moments (EachStop (ShowsStanding (found c (files_now h)))) h g) same
    (moments_map (IsSound (ShowsStanding written) false) (EachStop (ShowsStanding written)) h g (λ k s. s.shows)
    (sound false (Some entries) (begun_of false h log reads e (λ c. absurd (let no : ⊥ = cc in no)))))

keeps_of : (log : LogState) (h g : History) → IsStateOf (files_now h) log → BeginsSound (Some log.transaction) h g → InitKeeps h g
keeps_of log h g reads sound e kept =
    let entries = entries_shown (files_now h) log reads in
    moments_map (IsSound (ShowsStanding (found (Some entries) (files_now h))) true) (λ k. IsKept k × AllTraced k) h g
    (λ k s. (record { fresh = s.fresh refl; shows = λ image left. (Some entries, (s.shows image left).0) }, s.traced))
    (sound true (Some entries) (begun_of true h log reads e (λ c. kept)))

-- no number is below the one that the run began with, and each blob has the type of the settings
numbers_of : (log : LogState) (h g : History) → IsStateOf (files_now h) log → BeginsSound (Some log.transaction) h g → NumbersOn h g
numbers_of log h g reads sound e =
    let entries = entries_shown (files_now h) log reads in
    moments_map (IsSound (ShowsStanding (found (Some entries) (files_now h))) false) KeepsRun h g (λ k s. (s.numbers, s.types))
    (sound false (Some entries) (begun_of false h log reads e (λ c. absurd (let no : ⊥ = cc in no))))

opens_here : (h : History) → OpenShows h h
opens_here h committed e shown =
    moments_here (EachStop (ShowsStanding (found (Some committed) (files_now h)))) h (stands_begun (Some committed) h e shown)

pub each_here : (h : History) → OpenEach h h
each_here h = (opens_here h, (keeps_here h, (numbers_here h, first_here h)))

-- ---- the repository fits once segments behind its commit are removed

-- the learnt keys of an opened log
no_learnt : (state : LogState) (n : ℕ) → state.learnt ≡ empty → (key : List ℕ) (place : Place) → get state.learnt key ≡ Some place → place.segment ≡ n → ⊥
no_learnt state n e key place is at =
    let none : None ≡ Some place = sym (get-empty _ key) ∙ (sym (ap (λ m. get m key) e) ∙ is) in let no : ⊥ = cc in no

files_removed : (h : History) (n : ℕ) → files_now (with_act (RemoveOf n) true h) ≡ without_segment (files_now h) n
files_removed h n = applied-push h.start h.acts (record { step = RemoveOf n; done = true })

files_settled : (h : History) → files_now (with_act SettleAll true h) ≡ files_now h
files_settled h = applied-push h.start h.acts (record { step = SettleAll; done = true })

removed_fit : (state : LogState) (ns : List ℕ) (h : History) → state.learnt ≡ empty → AllByRecursion (λ n. state.transaction < n) ns
    → FitsFiles (files_now h) state → FitsFiles (files_now (with_steps (map RemoveOf ns) h)) state
removed_fit state [] h e above fits = fits
removed_fit state (n ∷ ns) h e above fits =
    removed_fit state ns (with_act (RemoveOf n) true h) e above.1
    (subst (λ (f : Files). FitsFiles f state) (sym (files_removed h n)) (fits_removed (files_now h) state n above.0 (no_learnt state n e) fits))

above_by : (end n : ℕ) (b : Bool) (rest : List ℕ) → ltb n end ≡ b → AllByRecursion (λ k. end ≤ k) rest
    → AllByRecursion (λ k. end ≤ k) (cond (not b) (n ∷ rest) rest)
above_by end n true rest e all = all
above_by end n false rest e all = (let within = ltb-false n end e in omega (arith, within), all)

above_all : (end : ℕ) (ns : List ℕ) → AllByRecursion (λ k. end ≤ k) (filter (λ n. not (nat_lt n end)) ns)
above_all end [] = tt
above_all end (n ∷ ns) = above_by end n (ltb n end) (filter (λ k. not (nat_lt k end)) ns) refl (above_all end ns)

cleared_fit : (state : LogState) (h g : History) → state.learnt ≡ empty → ClearsAll (Some state.transaction) h g → FitsFiles (files_now h) state
    → FitsFiles (files_now g) state
cleared_fit state h g e clears fits =
    subst (λ (k : History). FitsFiles (files_now k) state) (sym clears)
    (removed_fit state (numbers_from (suc state.transaction) (files_now h)) (with_act SettleAll true h) e
    (above_all (suc state.transaction) (segment_numbers (files_now h)))
    (subst (λ (f : Files). FitsFiles f state) (sym (files_settled h)) fits))

-- ---- the end

-- a store that was opened, whatever its manifest is
store_found : (counts : Bool) (store : Store) (h g : History) (reads : IsStateOf (files_now h) (repo_view store.repo).log) → cached_in store.repo ≡ no_contents
    → Begins (Some (repo_view store.repo).log.transaction) store.counter store.session h g
    → ClearsAll (Some (repo_view store.repo).log.transaction) h g → store.session.after ≡ Some (repo_view store.repo).log.transaction
    → ReadsSettings (files_now h).config (repo_view store.repo).config → h.acts ≡ [] → (counts ≡ true → IsKept h)
    → (fits : FitsBare counts [] store g) × (fits.written ≡ found (Some (entries_shown (files_now h) (repo_view store.repo).log reads)) (files_now h))
store_found counts store h g reads empty begins clears after settings e kept =
    let log = (repo_view store.repo).log in
    let files = files_now g in
    let entries = entries_shown (files_now h) log reads in
    let fits = cleared_fit log h g reads.learnt clears (opened_fits (files_now h) log reads) in
    let u = begins counts (Some entries) (begun_of counts h log reads e kept) in
    let now = fits_now store.session (Some entries) [] g u.fits in
    let at : ShowsAt files (suc log.transaction) (Some entries) = subst (λ (end : ℕ). ShowsAt files end (Some entries)) (ap behind after) now in
    let holds = holds_opened files log entries (fits_state files log entries fits reads.learnt at) (suc log.transaction, at) in (
      record {
        written = found (Some entries) (files_now h);
        under_way = u;
        settings = settings;
        repo = subst (FitsRepo files (repo_view store.repo)) (sym empty) (record { log = fits; cached = tt; noted = tt });
        below = omega (arith, ap behind after);
        holds = λ id blob apart. (λ live. ((holds id blob apart).1 live, refl), λ has. (holds id blob apart).0 has.0);
        manifest = λ no. absurd (let false_is : ⊥ = cc in false_is);
        chunks = tt;
      },
      refl,
    )

store_bare : (store : Store) (h g : History) → IsStateOf (files_now h) (repo_view store.repo).log → cached_in store.repo ≡ no_contents
    → Begins (Some (repo_view store.repo).log.transaction) store.counter store.session h g
    → ClearsAll (Some (repo_view store.repo).log.transaction) h g → store.session.after ≡ Some (repo_view store.repo).log.transaction
    → ReadsSettings (files_now h).config (repo_view store.repo).config → BareFits store h g
store_bare store h g reads empty begins clears after settings counts e kept =
    let log = (repo_view store.repo).log in
    let both = store_found counts store h g reads empty begins clears after settings e kept in
    record {
      committed = entries_shown (files_now h) log reads;
      shown = (suc log.transaction, shown_of (files_now h) log reads);
      fits = both.0;
      found_is = both.1;
    }

store_opened : (secret : Secret) (store : Store) (h g : History) → OpensFilesTo (files_now h) secret (repo_view store.repo) → cached_in store.repo ≡ no_contents
    → Begins (Some (repo_view store.repo).log.transaction) store.counter store.session h g
    → ClearsAll (Some (repo_view store.repo).log.transaction) h g → store.session.after ≡ Some (repo_view store.repo).log.transaction
    → store.opened.keys ≡ [] → store.pending ≡ 0 → OpenFits store h g
store_opened secret store h g opens empty begins clears after none uncounted counts e kept =
    let repo = repo_view store.repo in
    let files = files_now g in
    let reads = opens.opens.unlocks.reads in
    let entries = entries_shown (files_now h) repo.log reads in
    let before = shown_of (files_now h) repo.log reads in
    let none_learnt = reads.learnt in
    let fits = cleared_fit repo.log h g none_learnt clears (opens_fits (files_now h) secret repo opens).log in
    let u = begins counts (Some entries) (begun_of counts h repo.log reads e kept) in
    let now = fits_now store.session (Some entries) [] g u.fits in
    let at : ShowsAt files (suc repo.log.transaction) (Some entries) =
    subst (λ (end : ℕ). ShowsAt files end (Some entries)) (ap behind after) now in
    record {
      committed = entries;
      shown = (suc repo.log.transaction, before);
      fits = record {
        written = found (Some entries) (files_now h);
        under_way = u;
        settings = unlocked_settings (files_now h) secret repo.log repo.config repo.keys opens.opens.unlocks;
        repo = subst (FitsRepo files repo) (sym empty) (record { log = fits; cached = tt; noted = tt });
        below = omega (arith, ap behind after);
        there = λ id apart known. absurd (nothing_known store id none_learnt none apart known);
        holds = holds_opened files repo.log entries (fits_state files repo.log entries fits none_learnt at) (suc repo.log.transaction, at);
        manifest = record {
          entries = entries;
          is = refl;
          holds = opened_manifest (files_now h) secret repo entries opens (suc repo.log.transaction, before);
        };
        keeps = keeps_nil entries;
        pending = uncounted;
        chunks = tt;
        learnt = learnt_nil (found (Some entries) (files_now h)) repo.log refl;
      };
      found_is = refl;
    }

-- ---- the steps

pub open_unread : (R : Type 0) {T : Type 0} (End : T → History → History → Type 0) (fault : RepoFault) (a b : Option Told) (n m : ℕ)
    → KeepsTold {T = R} repo_failed a b (Err fault) → RoseWhere (repo_failed fault) n m → Did {T = T} OpenEach End a b n m (Err (repo_refusal fault))
open_unread R {T} End fault a b n m same caused =
    read_refused {T = T} repo_failed fault (repo_refusal fault) OpenEach End a b n m (repo_is fault) each_here same caused

-- the repository opens, and no call of the depot follows
pub open_uncopied : {R T : Type 0} (End : T → History → History → Type 0) (read : R) (refusal : StoreRefusal) (a b : Option Told) (n m : ℕ)
    → depot_failed refusal ≡ false → KeepsTold {F = RepoFault} repo_failed a b (Ok read) → m ≡ n → Did {T = T} OpenEach End a b n m (Err refusal)
open_uncopied {R} {T} End read refusal a b n m still same caused = record {
  each = between_map a b Reads OpenEach (λ h g e. subst (OpenEach h) (sym e) (each_here h)) (same_told {F = RepoFault} repo_failed a b (Ok read) same);
  end = tt;
  ends = subst (λ (f : Bool). FailedWhere f a b) (sym still) (keeps_end {F = RepoFault} repo_failed a b (Ok read) same);
  cause = subst (λ (f : Bool). RoseWhere f n m) (sym still) caused;
}

open_step : (log : LogState) (h g i : History) → IsStateOf (files_now h) log → Reads h g → BeginsSound (Some log.transaction) g i × SettlesFirst g i
    → OpenEach h i
open_step log h g i reads same f =
    let sound = subst (λ (x : History). BeginsSound (Some log.transaction) x i) same f.0 in
    let first = subst (λ (x : History). SettlesFirst x i) same f.1 in
    (shows_of log h i reads sound, (keeps_of log h i reads sound, (numbers_of log h i reads sound, first)))

-- what the files open to is known behind the opening
opened_read : {R : Type 0} (P : Files → Type 0) (read : R) (a b : Option Told) (n m : ℕ) → KeepsTold {F = RepoFault} repo_failed a b (Ok read) → m ≡ n
    → IfSome a (λ t. P (told_files t)) → Did {T = R} Reads (λ _ h g. P (files_now h) × Reads h g) a b n m (Ok read)
opened_read {R} P read a b n m same caused opens =
    did_known {T = R} (λ h. P (files_now h)) Reads (λ _. Reads) a b n m read opens (read_did {T = R} repo_failed a b n m read same caused)

pub open_unbegun : {R T : Type 0} (P : Files → Type 0) (End : T → History → History → Type 0) (read : R) (log : LogState) (refusal : StoreRefusal)
    (a b c : Option Told) (n m k : ℕ) → ((f : Files) → P f → IsStateOf f log)
    → KeepsTold {F = RepoFault} repo_failed a b (Ok read) → m ≡ n → IfSome a (λ t. P (told_files t))
    → Between b c SettlesFirst
    → Did {T = Counter × Session} (BeginsSound (Some log.transaction)) (λ x. Begins (Some log.transaction) x.0 x.1) b c m k (Err refusal)
    → Did {T = T} OpenEach End a c n k (Err refusal)
open_unbegun {R} {T} P End read log refusal a b c n m k state same caused opens first p =
    let after = Some log.transaction in
    did_front OpenEach (λ (y : Counter × Session) h g. Unit {0}) OpenEach End a c n k refusal (λ h g e. e)
    (did_then {T = R} {U = Counter × Session} Reads (λ _ h g. P (files_now h) × Reads h g)
    (λ h g. BeginsSound after h g × SettlesFirst h g) (λ x. Begins after x.0 x.1) OpenEach (λ y h g. Unit {0}) a b c n m k read (Err refusal)
    (λ h g i e d q f. open_step log h g i (state (files_now h) q.0) q.1 f) (λ y h g i q f. tt)
    (opened_read P read a b n m same caused opens)
    (did_also {T = Counter × Session} (BeginsSound after) SettlesFirst (λ x. Begins after x.0 x.1) b c m k (Err refusal) first p))

with_clear : (after : Option ℕ) (x : Counter × Session) (b c : Option Told) (m k : ℕ) → Between b c (ClearsAll after)
    → Did {T = Counter × Session} (λ h g. BeginsSound after h g × SettlesFirst h g) (λ y. Begins after y.0 y.1) b c m k (Ok x)
    → Did {T = Counter × Session} (λ h g. BeginsSound after h g × SettlesFirst h g) (λ _ h g. ClearsAll after h g × Begins after x.0 x.1 h g) b c m k (Ok x)
with_clear after x b c m k clears p = record {
  each = p.each;
  end = between_map b c (λ h g. (AllDone h g × Begins after x.0 x.1 h g) × ClearsAll after h g)
      (λ h g. AllDone h g × (ClearsAll after h g × Begins after x.0 x.1 h g))
      (λ h g e. (e.0.0, (e.1, e.0.1))) (between_both b c (λ h g. AllDone h g × Begins after x.0 x.1 h g) (ClearsAll after) p.end clears);
  ends = p.ends;
  cause = p.cause;
}

-- the session and the counter are begun: what holds at the end, by what the files open to
begun_end : {R T : Type 0} (P : Files → Type 0) (End : T → History → History → Type 0) (read : R) (x : T) (store : Store) (a b c : Option Told) (n m k : ℕ)
    → ((f : Files) → P f → IsStateOf f (repo_view store.repo).log)
    → ((h g : History) → P (files_now h) → Begins (Some (repo_view store.repo).log.transaction) store.counter store.session h g
    → ClearsAll (Some (repo_view store.repo).log.transaction) h g → End x h g)
    → KeepsTold {F = RepoFault} repo_failed a b (Ok read) → m ≡ n → IfSome a (λ t. P (told_files t)) → Between b c SettlesFirst
    → Between b c (ClearsAll (Some (repo_view store.repo).log.transaction))
    → Did {T = Counter × Session} (BeginsSound (Some (repo_view store.repo).log.transaction))
    (λ x. Begins (Some (repo_view store.repo).log.transaction) x.0 x.1) b c m k (Ok (store.counter, store.session))
    → Did {T = T} OpenEach End a c n k (Ok x)
begun_end {R} {T} P End read x store a b c n m k state ends same caused opens first clears p =
    let log = (repo_view store.repo).log in
    let after = Some log.transaction in
    let both : Counter × Session = (store.counter, store.session) in
    did_as OpenEach (λ (y : Counter × Session) h g. End x h g) OpenEach End a c n k both x (λ h g e. e) (λ h g e. e)
    (did_then {T = R} {U = Counter × Session} Reads (λ _ h g. P (files_now h) × Reads h g)
    (λ h g. BeginsSound after h g × SettlesFirst h g) (λ _ h g. ClearsAll after h g × Begins after store.counter store.session h g) OpenEach
    (λ y h g. End x h g) a b c n m k read (Ok both)
    (λ h g i e d q f. open_step log h g i (state (files_now h) q.0) q.1 f)
    (λ y h g i q f. ends h i q.0 (subst (λ (x : History). Begins after store.counter store.session x i) q.1 f.1)
    (subst (λ (x : History). ClearsAll after x i) q.1 f.0))
    (opened_read P read a b n m same caused opens)
    (with_clear after both b c m k clears
    (did_also {T = Counter × Session} (BeginsSound after) SettlesFirst (λ x. Begins after x.0 x.1) b c m k (Ok both) first p)))

pub open_begun : (secret : Secret) (store : Store) (a b c : Option Told) (n m k : ℕ) → KeepsTold {F = RepoFault} repo_failed a b (Ok store.repo) → m ≡ n
    → IfSome a (λ t. OpensFilesTo (told_files t) secret (repo_view store.repo)) → cached_in store.repo ≡ no_contents
    → store.session.after ≡ Some (repo_view store.repo).log.transaction → store.opened.keys ≡ [] → store.pending ≡ 0 → Between b c SettlesFirst
    → Between b c (ClearsAll (Some (repo_view store.repo).log.transaction))
    → Did {T = Counter × Session} (BeginsSound (Some (repo_view store.repo).log.transaction))
    (λ x. Begins (Some (repo_view store.repo).log.transaction) x.0 x.1) b c m k (Ok (store.counter, store.session))
    → Did {T = Store} OpenEach OpenFits a c n k (Ok store)
open_begun secret store a b c n m k same caused opens empty behind_log none uncounted first clears p =
    begun_end (λ f. OpensFilesTo f secret (repo_view store.repo)) OpenFits store.repo store store a b c n m k (λ f o. o.opens.unlocks.reads)
    (λ h g o begins cleared. store_opened secret store h g o empty begins cleared behind_log none uncounted)
    same caused opens first clears p

-- what opens without its manifest has a log that reads
pub bare_reads : (files : Files) (secret : Secret) (repo : RepoState) (fault : Option RepoFault) → OpensBare files secret repo fault → IsStateOf files repo.log
bare_reads files secret repo None opens = opens.opens.unlocks.reads
bare_reads files secret repo (Some fault) opens = opens.unlocks.reads

bare_ends : (secret : Secret) (store : Store) (fault : Option RepoFault) (h g : History) → OpensBare (files_now h) secret (repo_view store.repo) fault
    → cached_in store.repo ≡ no_contents → Begins (Some (repo_view store.repo).log.transaction) store.counter store.session h g
    → ClearsAll (Some (repo_view store.repo).log.transaction) h g → store.session.after ≡ Some (repo_view store.repo).log.transaction
    → store.opened.keys ≡ [] → store.pending ≡ 0 → OpenBareFits (store, fault) h g
bare_ends secret store None h g opens empty begins clears after none uncounted =
    store_opened secret store h g opens empty begins clears after none uncounted
bare_ends secret store (Some fault) h g opens empty begins clears after none uncounted =
    let repo = repo_view store.repo in
    store_bare store h g opens.unlocks.reads empty begins clears after
    (unlocked_settings (files_now h) secret repo.log repo.config repo.keys opens.unlocks)

pub bare_begun : (secret : Secret) (store : Store) (fault : Option RepoFault) (a b c : Option Told) (n m k : ℕ)
    → KeepsTold {T = Repo × Option RepoFault} {F = RepoFault} repo_failed a b (Ok (store.repo, fault)) → m ≡ n
    → IfSome a (λ t. OpensBare (told_files t) secret (repo_view store.repo) fault) → cached_in store.repo ≡ no_contents
    → store.session.after ≡ Some (repo_view store.repo).log.transaction → store.opened.keys ≡ [] → store.pending ≡ 0 → Between b c SettlesFirst
    → Between b c (ClearsAll (Some (repo_view store.repo).log.transaction))
    → Did {T = Counter × Session} (BeginsSound (Some (repo_view store.repo).log.transaction))
    (λ x. Begins (Some (repo_view store.repo).log.transaction) x.0 x.1) b c m k (Ok (store.counter, store.session))
    → Did {T = Store × Option RepoFault} OpenEach OpenBareFits a c n k (Ok (store, fault))
bare_begun secret store fault a b c n m k same caused opens empty behind_log none uncounted first clears p =
    begun_end {R = Repo × Option RepoFault} {T = Store × Option RepoFault} (λ f. OpensBare f secret (repo_view store.repo) fault) OpenBareFits
    (store.repo, fault) (store, fault) store a b c n m k
    (λ f o. bare_reads f secret (repo_view store.repo) fault o)
    (λ h g o begins cleared. bare_ends secret store fault h g o empty begins cleared behind_log none uncounted)
    same caused opens first clears p

-- ---- files that don't open

pub same_leaves : (secret : Secret) (a b : Option Told) → Between a b (λ h g. g ≡ h) → Between a b (OpenLeaves secret)
same_leaves secret a b same = between_map a b (λ h g. g ≡ h) (OpenLeaves secret) (λ h g e shut. e) same

-- where they open, and a begin leaves them that have no number
pub begin_leaves : (secret : Secret) (repo : RepoState) (a b d : Option Told) → IfSome a (λ t. OpensFilesTo (told_files t) secret repo)
    → Between a b (λ h g. g ≡ h) → Between b d (BeginLeaves true) → Between a d (OpenLeaves secret)
begin_leaves secret repo a b d opens same leaves =
    between_then a b d (λ h g. OpensFilesTo (files_now h) secret repo × (g ≡ h)) (BeginLeaves true) (OpenLeaves secret)
    (λ h g i e f shut.
    let none : HasNumber (files_now g) → ⊥ = λ has. shut repo e.0 (subst (λ (k : History). HasNumber (files_now k)) e.1 has) in f refl none ∙ e.1)
    (known_then (λ h. OpensFilesTo (files_now h) secret repo) (λ h g. g ≡ h) a b opens same) leaves

-- where they open, and have a number
pub opened_leaves : (secret : Secret) (repo : RepoState) (a d : Option Told) (E : History → History → Type 0)
    → IfSome a (λ t. OpensFilesTo (told_files t) secret repo) → IfSome a (λ t. HasNumber (told_files t)) → Between a d E → Between a d (OpenLeaves secret)
opened_leaves secret repo None d E opens numbered each = tt
opened_leaves secret repo (Some s) d E opens numbered each = (each.0, each.1, λ shut. absurd (shut repo opens numbered))
