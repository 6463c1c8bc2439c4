-- What `init` leaves, from what its parts did.
use Rattle.std.proofs.Common.{◌≡◌, inl, inr, ℕ, Bool, true, false, List, [], Option, Some, None, unwrap_or, Result, Ok, Err, IfSome}
use Rattle.std.proofs.Common.{refl, sym, ◌∙◌, ap, subst}
use Rattle.ferry_config.specs.Config.{config_of}
use Rattle.ferry_config.specs.Text.{config_text}
use Rattle.ferry_config.specs.declared.config.Config.{Config}
use Rattle.ferry_config.specs.declared.fault.ConfigFault.{ConfigFault}
use Rattle.ferry_disk.proofs.ImageLemmas.{plain_read, config_plain, readme_plain}
use Rattle.ferry_disk.proofs.FaultLemmas.{keeps_end}
use Rattle.ferry_disk.proofs.MomentLemmas.{between_map}
use Rattle.ferry_disk.specs.Act.{History, files_now}
use Rattle.ferry_disk.specs.Device.{Told, KeepsTold, RoseWhere, told_files}
use Rattle.ferry_disk.specs.Faults.{FailedWhere}
use Rattle.ferry_disk.specs.Files.{Files}
use Rattle.ferry_disk.specs.Image.{PlainFate, plain_in}
use Rattle.ferry_disk.specs.Moments.{Between}
use Rattle.ferry_disk.specs.declared.name.Name.TheVariants.{Config as ConfigFile, Readme}
use Rattle.ferry_log.specs.Log.{IsUncommitted}
use Rattle.ferry_nonce.proofs.MomentLemmas.{numbers_begun}
use Rattle.ferry_nonce.specs.declared.counter.Counter.{Counter}
use Rattle.ferry_repo.proofs.LawLemmas.{opens_fits, repo_apart}
use Rattle.ferry_repo.specs.Cached.{no_contents}
use Rattle.ferry_repo.specs.Fault.{IsOfFiles, repo_failed}
use Rattle.ferry_repo.specs.declared.fault.RepoFault.{RepoFault}
use Rattle.ferry_repo.specs.declared.fault.RepoFault.TheVariants as Repos
use Rattle.ferry_repo.specs.Opening.{FitsRepo, OpenedText, OpensFilesTo, RefusesRepo, RepoState, UnlockedText, cached_in, opened_key, repo_view}
use Rattle.ferry_repo.specs.Opening.{unlocked, unlocked_where, unlocked_with}
use Rattle.ferry_repo.specs.declared.repo.Repo.{Repo}
use Rattle.ferry_repo.specs.declared.secret.Secret.{Secret}
use Rattle.ferry_stops.proofs.EntryLemmas.{uncommitted_shown, unshown_uncommitted}
use Rattle.ferry_stops.specs.Blobs.{AllTraced}
use Rattle.ferry_stops.specs.Chance.{EachStop}
use Rattle.ferry_stops.specs.Counters.{IsKept}
use Rattle.ferry_stops.specs.Entries.{Shows, ShowsSomething}
use Rattle.ferry_store.proofs.CallLemmas.{first_here, read_refused}
use Rattle.ferry_store.proofs.KnownLemmas.{below_commit, nothing_known}
use Rattle.ferry_store.proofs.LearntLemmas.{learnt_nil}
use Rattle.ferry_store.proofs.LiveLemmas.{keeps_nil}
use Rattle.ferry_store.proofs.NewLemmas.{opens_new}
use Rattle.ferry_store.proofs.SoundLemmas.{traced_begun, image_begun}
use Rattle.ferry_store.proofs.StandingLemmas.{holds_opened, opened_manifest}
use Rattle.ferry_store.proofs.StepLemmas.{Reads, before_same, did_as, did_front, did_known, did_then, moments_here, moments_map, read_did, same_told}
use Rattle.ferry_store.specs.Init.{IsMadeBy, MakesOf, RefusesMaking}
use Rattle.ferry_store.specs.Fault.{depot_failed, repo_refusal}
use Rattle.ferry_keyblob.specs.Opening.{key_of}
use Rattle.ferry_keyfile.specs.declared.file.KeyFile.{KeyFile}
use Rattle.ferry_nonce.specs.declared.fault.NonceFault.TheVariants as Nonces
use Rattle.ferry_store.specs.Key.{FitsGiven, IsGiven, RefusesGiven}
use Rattle.ferry_store.specs.declared.key.Basis.{Basis}
use Rattle.ferry_store.specs.declared.fault.StoreRefusal.{StoreRefusal}
use Rattle.ferry_store.specs.declared.fault.StoreRefusal.TheVariants.{Repo as RepoRefusal, Write, Nonce, Committed, TooLarge, Entropy, Memory}
use Rattle.ferry_store.specs.New.{IsNothingOrNew, MakesSound, OpensNew, ShowsNew, first_written, manifest_blob, new_entries}
use Rattle.ferry_store.specs.State.{Did, IsBegun, IsSound}
use Rattle.ferry_store.proofs.TypeLemmas.{one_settings, types_begun, unlocked_settings}
use Rattle.ferry_store.specs.Types.{ReadsSettings}
use Rattle.ferry_store.specs.Store.{HasLimit, InitEach, InitFits, InitKeeps, InitMakes, InitShows, KeepsRun, NumbersOn, RefusesFiles, RefusesInit}
use Rattle.ferry_store.specs.declared.store.Store.{Store}
use Rattle.ferry_write.proofs.LawLemmas.{fits_now}
use Rattle.ferry_write.specs.Room.{behind}
use Rattle.ferry_write.specs.Script.{AllDone}
use Rattle.ferry_write.specs.Session.{SettlesFirst, rests_at}
use Rattle.ferry_write.specs.declared.session.Session.{Session}

-- ---- each moment

nothing_or_new : (secret : Secret) (image : Files) → ShowsNew secret image → IsNothingOrNew secret image
nothing_or_new secret image (inl none) = inl (unshown_uncommitted image none)
nothing_or_new secret image (inr new) = inr new.0

shows_something : (secret : Secret) (image : Files) → ShowsNew secret image → ShowsSomething image
shows_something secret image (inl none) = (None, none)
shows_something secret image (inr new) = new.1

begun_by : (counts : Bool) (h : History) → h.acts ≡ [] → IsUncommitted (files_now h) → (counts ≡ true → IsKept h) → IsBegun counts None None h
begun_by counts h e none kept = record { no_acts = e; shown = uncommitted_shown (files_now h) none; kept = kept }

shows_of : (secret : Secret) (h g : History) → MakesSound secret h g → InitShows secret h g
shows_of secret h g made e none =
    moments_map (IsSound (ShowsNew secret) false) (EachStop (IsNothingOrNew secret)) h g
    (λ k s image left. nothing_or_new secret image (s.shows image left))
    (made false (begun_by false h e none (λ c. absurd (let no : ⊥ = cc in no)))).0

keeps_of : (secret : Secret) (h g : History) → IsUncommitted (files_now h) → MakesSound secret h g → InitKeeps h g
keeps_of secret h g none made e kept =
    moments_map (IsSound (ShowsNew secret) true) (λ k. IsKept k × AllTraced k) h g
    (λ k s. (record { fresh = s.fresh refl; shows = λ image left. shows_something secret image (s.shows image left) }, s.traced))
    (made true (begun_by true h e none (λ c. kept))).0

-- no number is below the one that the run began with, and each blob has the type of the settings
numbers_of : (secret : Secret) (h g : History) → IsUncommitted (files_now h) → MakesSound secret h g → NumbersOn h g
numbers_of secret h g none made e =
    moments_map (IsSound (ShowsNew secret) false) KeepsRun h g (λ k s. (s.numbers, s.types))
    (made false (begun_by false h e none (λ c. absurd (let no : ⊥ = cc in no)))).0

first_of : (secret : Secret) (h g : History) → IsUncommitted (files_now h) → MakesSound secret h g → SettlesFirst h g
first_of secret h g none made e = (made false (begun_by false h e none (λ c. absurd (let no : ⊥ = cc in no)))).1

-- where nothing was done
shows_here : (secret : Secret) (h : History) → InitShows secret h h
shows_here secret h e none =
    moments_here (EachStop (IsNothingOrNew secret)) h
    (λ image left. inl (subst IsUncommitted (sym (image_begun h image e left.image_is)) none))

pub keeps_here : (h : History) → InitKeeps h h
keeps_here h e kept = moments_here (λ k. IsKept k × AllTraced k) h (kept, traced_begun h e)

pub numbers_here : (h : History) → NumbersOn h h
numbers_here h e = moments_here KeepsRun h (numbers_begun h e, types_begun h h e refl (λ blob known. known))

pub each_here : (secret : Secret) (h : History) → InitEach secret h h
each_here secret h = ((shows_here secret h, λ committed. refl), (keeps_here h, (numbers_here h, first_here h)))

pub each_of : (secret : Secret) (h g : History) → IsUncommitted (files_now h) → MakesSound secret h g → InitEach secret h g
each_of secret h g none made = (
  (shows_of secret h g made, λ committed. absurd (committed none)),
  (keeps_of secret h g none made, (numbers_of secret h g none made, first_of secret h g none made)),
)

-- ---- the end

config_now : (h : History) (file : Option (List ℕ)) → plain_in h ConfigFile ≡ rests_at file → (files_now h).config ≡ file
config_now h file rest = plain_read h.start h.acts ConfigFile config_plain ∙ ap (λ (f : PlainFate). f.read) rest

readme_now : (h : History) (file : Option (List ℕ)) → plain_in h Readme ≡ rests_at file → (files_now h).readme ≡ file
readme_now h file rest = plain_read h.start h.acts Readme readme_plain ∙ ap (λ (f : PlainFate). f.read) rest

pub makes_files : (secret : Secret) (iterations : ℕ) (timestamp bytes : List ℕ) (counter : Counter) (session : Session) (h g : History)
    → IsUncommitted (files_now h) → IsMadeBy secret iterations timestamp bytes counter session h g → InitMakes secret iterations timestamp bytes h g
makes_files secret iterations timestamp bytes counter session h g none made e =
    let u = made.makes false (begun_by false h e none (λ c. absurd (let no : ⊥ = cc in no))) in
    let shows = fits_now session _ [] g u.fits in
    let config = config_now g _ u.config in
    let new = opens_new secret (files_now g) timestamp _ _ made.openable config (_, shows) in
    record {
      uncommitted = none;
      free = made.free;
      number = made.number;
      made = record {
        basis = made.basis;
        basis_bytes = made.basis_bytes;
        basis_is = made.basis_is;
        salt = made.salt;
        salt_size = made.salt_size;
        bytes_are = made.bytes_are;
        config = config;
        readme = readme_now g _ u.readme;
        entries = (_, shows);
      };
      opens = new.0;
      first = new.1;
    }

pub store_fits : (secret : Secret) (iterations : ℕ) (timestamp bytes : List ℕ) (store : Store) (h g : History) → IsUncommitted (files_now h)
    → IsMadeBy secret iterations timestamp bytes store.counter store.session h g → OpensFilesTo (files_now g) secret (repo_view store.repo)
    → cached_in store.repo ≡ no_contents → store.opened.keys ≡ [] → store.pending ≡ 0 → InitFits store h g
store_fits secret iterations timestamp bytes store h g none made opens empty unopened uncounted counts e kept =
    let repo = repo_view store.repo in
    let files = files_now g in
    let blob = manifest_blob made.basis timestamp made.salt made.free in
    let entries = new_entries blob in
    let u = made.makes counts (begun_by counts h e none kept) in
    let shows : Shows files (Some entries) = (behind store.session.after, fits_now store.session (Some entries) [] g u.fits) in
    record {
      written = first_written made.basis.config blob;
      under_way = u;
      settings = subst (λ (o : Option (List ℕ)). ReadsSettings o repo.config) (config_now g _ u.config)
          (unlocked_settings files secret repo.log repo.config repo.keys opens.opens.unlocks);
      repo = subst (FitsRepo files repo) (sym empty) (opens_fits files secret repo opens);
      below = below_commit store.session entries [] g repo.log u.fits opens.opens.unlocks.reads;
      there = λ id apart known. absurd (nothing_known store id opens.opens.unlocks.reads.learnt unopened apart known);
      holds = holds_opened files repo.log entries opens.opens.unlocks.reads shows;
      manifest = record { entries = entries; is = refl; holds = opened_manifest files secret repo entries opens shows };
      keeps = keeps_nil entries;
      pending = uncounted;
      chunks = tt;
      learnt = learnt_nil (first_written made.basis.config blob) repo.log refl;
    }

-- ---- the steps of `init`

pub repo_is : (fault : RepoFault) → depot_failed (repo_refusal fault) ≡ repo_failed fault
repo_is Repos.Device = refl
repo_is Repos.Memory = refl
repo_is Repos.NoCommit = refl
repo_is (Repos.Damaged segment at) = refl
repo_is (Repos.Config fault) = refl
repo_is (Repos.Key fault) = refl
repo_is (Repos.Missing id) = refl
repo_is (Repos.Blob id fault) = refl
repo_is (Repos.Manifest fault) = refl
repo_is (Repos.Archive id fault) = refl
repo_is (Repos.Item id fault) = refl
repo_is (Repos.Size id) = refl
repo_is (Repos.KeyFile fault) = refl
repo_is (Repos.Other file config) = refl
repo_is Repos.NoKey = refl

pub given_still : (secret : Secret) (refusal : StoreRefusal) → RefusesGiven secret refusal → depot_failed refusal ≡ false
given_still secret (RepoRefusal (Repos.KeyFile fault)) is = refl
given_still secret (RepoRefusal (Repos.Key fault)) is = refl
given_still secret (RepoRefusal Repos.Device) is = absurd is
given_still secret (RepoRefusal Repos.Memory) is = absurd is
given_still secret (RepoRefusal Repos.NoCommit) is = absurd is
given_still secret (RepoRefusal (Repos.Damaged segment at)) is = absurd is
given_still secret (RepoRefusal (Repos.Config fault)) is = absurd is
given_still secret (RepoRefusal (Repos.Missing id)) is = absurd is
given_still secret (RepoRefusal (Repos.Blob id fault)) is = absurd is
given_still secret (RepoRefusal (Repos.Manifest fault)) is = absurd is
given_still secret (RepoRefusal (Repos.Archive id fault)) is = absurd is
given_still secret (RepoRefusal (Repos.Item id fault)) is = absurd is
given_still secret (RepoRefusal (Repos.Size id)) is = absurd is
given_still secret (RepoRefusal (Repos.Other file config)) is = absurd is
given_still secret (RepoRefusal Repos.NoKey) is = absurd is
given_still secret Memory is = refl
given_still secret (Write fault) is = absurd is
given_still secret (Nonce fault) is = absurd is
given_still secret Committed is = absurd is
given_still secret TooLarge is = absurd is
given_still secret Entropy is = absurd is

-- refused before anything was made
pub init_unread : (secret : Secret) (refusal : StoreRefusal) (a b : Option Told) (n m : ℕ) → KeepsTold {T = Unit {0}} depot_failed a b (Err refusal)
    → RoseWhere (depot_failed refusal) n m → Did {T = Store} (InitEach secret) InitFits a b n m (Err refusal)
init_unread secret refusal a b n m same caused = record {
  each = between_map a b Reads (InitEach secret) (λ h g e. subst (InitEach secret h) (sym e) (each_here secret h))
      (same_told {T = Unit {0}} depot_failed a b (Err refusal) same);
  end = tt;
  ends = keeps_end {T = Unit {0}} depot_failed a b (Err refusal) same;
  cause = caused;
}

pub init_ungiven : (secret : Secret) (refusal : StoreRefusal) (a b : Option Told) (n m : ℕ) → depot_failed refusal ≡ false
    → KeepsTold {T = Unit {0}} depot_failed a b (Ok tt) → m ≡ n → Did {T = Store} (InitEach secret) InitFits a b n m (Err refusal)
init_ungiven secret refusal a b n m still same caused = record {
  each = between_map a b Reads (InitEach secret) (λ h g e. subst (InitEach secret h) (sym e) (each_here secret h))
      (same_told {T = Unit {0}} depot_failed a b (Ok tt) same);
  end = tt;
  ends = subst (λ (d : Bool). FailedWhere d a b) (sym still) (keeps_end {T = Unit {0}} depot_failed a b (Ok tt) same);
  cause = subst (λ (d : Bool). RoseWhere d n m) (sym still) caused;
}

-- where nothing is committed
abbrev pub MadeOf : Secret → ℕ → List ℕ → List ℕ → Counter × Session → History → History → Type 0
MadeOf secret iterations timestamp bytes x h g = IsUncommitted (files_now h) × IsMadeBy secret iterations timestamp bytes x.0 x.1 h g

pub init_made : (secret : Secret) (iterations : ℕ) (timestamp bytes : List ℕ) (a b c : Option Told) (n m k : ℕ) (r : Result (Counter × Session) StoreRefusal)
    → IfSome a (λ t. IsUncommitted (told_files t)) → KeepsTold {T = Unit {0}} depot_failed a b (Ok tt) → m ≡ n
    → Did (MakesSound secret) (λ x. MakesOf secret iterations timestamp bytes x.0 x.1) b c m k r
    → Did (InitEach secret) (MadeOf secret iterations timestamp bytes) a c n k r
init_made secret iterations timestamp bytes a b c n m k r none same caused p =
    did_then {T = Unit {0}} Reads (λ _ h g. IsUncommitted (files_now h) × Reads h g) (MakesSound secret)
    (λ x. MakesOf secret iterations timestamp bytes x.0 x.1)
    (InitEach secret) (MadeOf secret iterations timestamp bytes) a b c n m k tt r
    (λ h g i e d q f. each_of secret h i q.0 (subst (λ (x : History). MakesSound secret x i) q.1 f))
    (λ y h g i q f. (q.0, subst (λ (x : History). MakesOf secret iterations timestamp bytes y.0 y.1 x i) q.1 f))
    (did_known {T = Unit {0}} (λ h. IsUncommitted (files_now h)) Reads (λ _. Reads) a b n m tt none
    (read_did {T = Unit {0}} depot_failed a b n m tt same caused))
    p

pub init_front : (secret : Secret) (iterations : ℕ) (timestamp bytes : List ℕ) (a c : Option Told) (n k : ℕ) (refusal : StoreRefusal)
    → Did (InitEach secret) (MadeOf secret iterations timestamp bytes) a c n k (Err refusal) → Did {T = Store} (InitEach secret) InitFits a c n k (Err refusal)
init_front secret iterations timestamp bytes a c n k refusal p =
    did_front (InitEach secret) (MadeOf secret iterations timestamp bytes) (InitEach secret) InitFits a c n k refusal (λ h g e. e) p

each_read : (secret : Secret) (h g i : History) → InitEach secret h g → Reads g i → InitEach secret h i
each_read secret h g i e same = subst (InitEach secret h) (sym same) e

pub init_unopened : (secret : Secret) (iterations : ℕ) (timestamp bytes : List ℕ) (x : Counter × Session) (fault : RepoFault) (a c d : Option Told) (n k j : ℕ)
    → Did (InitEach secret) (MadeOf secret iterations timestamp bytes) a c n k (Ok x) → KeepsTold {T = Repo} repo_failed c d (Err fault)
    → RoseWhere (repo_failed fault) k j → Did {T = Store} (InitEach secret) InitFits a d n j (Err (repo_refusal fault))
init_unopened secret iterations timestamp bytes x fault a c d n k j p same caused =
    did_front (InitEach secret) (λ (y : Store) h g. Unit {0}) (InitEach secret) InitFits a d n j (repo_refusal fault) (λ h g e. e)
    (did_then {U = Store} (InitEach secret) (MadeOf secret iterations timestamp bytes) Reads (λ _. Reads) (InitEach secret) (λ y h g. Unit {0}) a c d n k j x
    (Err (repo_refusal fault)) (λ h g i e q m f. each_read secret h g i e f) (λ y h g i q f. tt) p
    (read_refused {T = Store} repo_failed fault (repo_refusal fault) Reads (λ _. Reads) c d k j (repo_is fault) (λ h. refl) same caused))

pub init_opened : (secret : Secret) (iterations : ℕ) (timestamp bytes : List ℕ) (store : Store) (a c d : Option Told) (n k j : ℕ)
    → Did (InitEach secret) (MadeOf secret iterations timestamp bytes) a c n k (Ok (store.counter, store.session))
    → KeepsTold {F = RepoFault} repo_failed c d (Ok store.repo) → j ≡ k → IfSome c (λ t. OpensFilesTo (told_files t) secret (repo_view store.repo))
    → cached_in store.repo ≡ no_contents → store.opened.keys ≡ [] → store.pending ≡ 0 → Did (InitEach secret) InitFits a d n j (Ok store)
init_opened secret iterations timestamp bytes store a c d n k j p same caused opens empty unopened uncounted =
    did_then (InitEach secret) (MadeOf secret iterations timestamp bytes) Reads
    (λ (s : Store) h g. OpensFilesTo (files_now h) secret (repo_view store.repo) × ((s ≡ store) × Reads h g)) (InitEach secret) InitFits a c d n k j
    (store.counter, store.session) (Ok store)
    (λ h g i e q m f. each_read secret h g i e f)
    (λ y h g i made f. subst (λ (s : Store). InitFits s h i) (sym f.1.0)
    (subst (InitFits store h) (sym f.1.1) (store_fits secret iterations timestamp bytes store h g made.0 made.1 f.0 empty unopened uncounted)))
    p (did_known {T = Store} (λ h. OpensFilesTo (files_now h) secret (repo_view store.repo)) Reads (λ s h g. (s ≡ store) × Reads h g) c d k j store opens
    (did_as Reads (λ _. Reads) Reads (λ s h g. (s ≡ store) × Reads h g) c d k j store.repo store (λ h g e. e) (λ h g e. (refl, e))
    (read_did {T = Repo} repo_failed c d k j store.repo same caused)))

-- refused behind the opening, by no call of the depot
pub init_uncopied : (secret : Secret) (iterations : ℕ) (timestamp bytes : List ℕ) (x : Counter × Session) (repo : Repo) (refusal : StoreRefusal)
    (a c d : Option Told) (n k j : ℕ) → depot_failed refusal ≡ false → Did (InitEach secret) (MadeOf secret iterations timestamp bytes) a c n k (Ok x)
    → KeepsTold {F = RepoFault} repo_failed c d (Ok repo) → j ≡ k → Did {T = Store} (InitEach secret) InitFits a d n j (Err refusal)
init_uncopied secret iterations timestamp bytes x repo refusal a c d n k j still p same caused = record {
  each = before_same (InitEach secret) a c d p.each (same_told {F = RepoFault} repo_failed c d (Ok repo) same);
  end = tt;
  ends = subst (λ (f : Bool). FailedWhere f a d) (sym still) (keeps_end {F = RepoFault} repo_failed c d (Ok repo) same ∙ p.ends);
  cause = subst (λ (f : Bool). RoseWhere f n j) (sym still) (caused ∙ p.cause);
}

pub init_makes : (secret : Secret) (iterations : ℕ) (timestamp bytes : List ℕ) (x : Counter × Session) (a c d : Option Told) (n k : ℕ)
    → Did (InitEach secret) (MadeOf secret iterations timestamp bytes) a c n k (Ok x) → Between c d Reads
    → Between a d (InitMakes secret iterations timestamp bytes)
init_makes secret iterations timestamp bytes x a c d n k p same =
    before_same (InitMakes secret iterations timestamp bytes) a c d
    (between_map a c (λ h g. AllDone h g × MadeOf secret iterations timestamp bytes x h g) (InitMakes secret iterations timestamp bytes)
    (λ h g e. makes_files secret iterations timestamp bytes x.0 x.1 h g e.1.0 e.1.1) p.end) same

-- ---- the settings of a repository that was made

-- they are those that the file `config` has
config_is : (secret : Secret) (files : Files) (config : Config) (repo : RepoState) → files.config ≡ Some (config_text config)
    → config_of (config_text config) ≡ Ok config → OpensFilesTo files secret repo → repo.config ≡ config
config_is secret files config repo at reads opens =
    one_settings repo.config config files.config (unlocked_settings files secret repo.log repo.config repo.keys opens.opens.unlocks)
    (subst (λ (o : Option (List ℕ)). ReadsSettings o config) (sym at) reads)

limit_by : (secret : Secret) (iterations : ℕ) (timestamp bytes : List ℕ) (store : Store) (h g : History) → h.acts ≡ []
    → MadeOf secret iterations timestamp bytes (store.counter, store.session) h g → OpensFilesTo (files_now g) secret (repo_view store.repo) → HasLimit store
limit_by secret iterations timestamp bytes store h g e made opens =
    let u = made.1.makes false (begun_by false h e made.0 (λ c. absurd (let no : ⊥ = cc in no))) in
    let at = config_now g _ u.config in
    made.1.limit ∙ ap (λ (config : Config). config.limit)
    (sym (config_is secret (files_now g) made.1.basis.config (repo_view store.repo) at made.1.reads opens))

pub init_limit : (secret : Secret) (iterations : ℕ) (timestamp bytes : List ℕ) (store : Store) (a c : Option Told) (n k : ℕ)
    → Did (InitEach secret) (MadeOf secret iterations timestamp bytes) a c n k (Ok (store.counter, store.session))
    → IfSome c (λ t. OpensFilesTo (told_files t) secret (repo_view store.repo)) → IfSome a (λ t. t.history.acts ≡ [] → HasLimit store)
init_limit secret iterations timestamp bytes store None c n k p opens = tt
init_limit secret iterations timestamp bytes store (Some t) c n k p opens = λ e.
    limit_by secret iterations timestamp bytes store t.history p.end.0.history e p.end.2.1
    (subst (λ (o : Option Told). IfSome o (λ x. OpensFilesTo (told_files x) secret (repo_view store.repo))) p.end.1 opens)

-- ---- a repository that was made isn't refused

opened_by_fault : (secret : Secret) (files : Files) (fault : RepoFault) → OpensNew secret files → RefusesRepo files secret fault → IsOfFiles fault → ⊥
opened_by_fault secret files fault new refused of = repo_apart files secret new.repo fault new.opens of refused

not_refused : (secret : Secret) (timestamp : List ℕ) (start files : Files) (fault : RepoFault) → OpensNew secret files → RefusesRepo files secret fault
    → RefusesFiles secret timestamp start (repo_refusal fault)
not_refused secret timestamp start files Repos.Device new refused = tt
not_refused secret timestamp start files Repos.Memory new refused = tt
not_refused secret timestamp start files Repos.NoCommit new refused = absurd (opened_by_fault secret files Repos.NoCommit new refused tt)
not_refused secret timestamp start files (Repos.Damaged s at) new refused = absurd (opened_by_fault secret files (Repos.Damaged s at) new refused tt)
not_refused secret timestamp start files (Repos.Config f) new refused = absurd (opened_by_fault secret files (Repos.Config f) new refused tt)
not_refused secret timestamp start files (Repos.Key f) new refused = absurd (opened_by_fault secret files (Repos.Key f) new refused tt)
not_refused secret timestamp start files (Repos.Missing id) new refused = absurd (opened_by_fault secret files (Repos.Missing id) new refused tt)
not_refused secret timestamp start files (Repos.Blob id f) new refused = absurd (opened_by_fault secret files (Repos.Blob id f) new refused tt)
not_refused secret timestamp start files (Repos.Manifest f) new refused = absurd (opened_by_fault secret files (Repos.Manifest f) new refused tt)
not_refused secret timestamp start files (Repos.Archive id f) new refused = absurd (opened_by_fault secret files (Repos.Archive id f) new refused tt)
not_refused secret timestamp start files (Repos.Item id f) new refused = absurd (opened_by_fault secret files (Repos.Item id f) new refused tt)
not_refused secret timestamp start files (Repos.Size id) new refused = absurd (opened_by_fault secret files (Repos.Size id) new refused tt)
not_refused secret timestamp start files (Repos.KeyFile f) new refused = absurd (opened_by_fault secret files (Repos.KeyFile f) new refused tt)
not_refused secret timestamp start files (Repos.Other x y) new refused = absurd (opened_by_fault secret files (Repos.Other x y) new refused tt)
not_refused secret timestamp start files Repos.NoKey new refused = absurd (opened_by_fault secret files Repos.NoKey new refused tt)

-- memory may be refused at any point
pub memory_refused : (secret : Secret) (timestamp : List ℕ) (a : Option Told) → IfSome a (λ t. RefusesInit secret timestamp t.history Memory)
memory_refused secret timestamp None = tt
memory_refused secret timestamp (Some t) = λ e. tt

pub open_refused : (secret : Secret) (iterations : ℕ) (timestamp bytes : List ℕ) (x : Counter × Session) (fault : RepoFault) (a c : Option Told) (n k : ℕ)
    → Did (InitEach secret) (MadeOf secret iterations timestamp bytes) a c n k (Ok x) → IfSome c (λ t. RefusesRepo (told_files t) secret fault)
    → IfSome a (λ t. RefusesInit secret timestamp t.history (repo_refusal fault))
open_refused secret iterations timestamp bytes x fault None c n k p refused = tt
open_refused secret iterations timestamp bytes x fault (Some t) None n k p refused = absurd (let e = p.end.1 in let no : ⊥ = cc in no)
open_refused secret iterations timestamp bytes x fault (Some t) (Some u) n k p refused = λ e.
    let same : u ≡ p.end.0 = (let f = p.end.1 in cc) in
    let made = makes_files secret iterations timestamp bytes x.0 x.1 t.history p.end.0.history p.end.2.1.0 p.end.2.1.1 e in
    not_refused secret timestamp (told_files t) (told_files u) fault (subst (λ (v : Told). OpensNew secret (told_files v)) (sym same) made.opens) refused

-- ---- what is made of a key file comes before the rest

given_fits : (secret : Secret) (given : Option Basis) → IsGiven secret given → FitsGiven secret
given_fits secret None none (Repos.KeyFile f) refused = refused.0 none
given_fits secret None none (Repos.Key f) refused = refused.0 none
given_fits secret (Some basis) is (Repos.KeyFile f) refused = let e : Ok is.file ≡ Err f = sym is.reads ∙ refused.1 in let no : ⊥ = cc in no
given_fits secret (Some basis) is (Repos.Key f) refused =
    let file = refused.1.0 in
    let same : file ≡ is.file = (let e : Ok file ≡ Ok is.file = sym refused.1.1 ∙ is.reads in cc) in
    let e : Err f ≡ Ok is.key = sym refused.1.2 ∙ (ap (λ (x : KeyFile). key_of secret.passphrase x.key) same ∙ is.opens) in
    let no : ⊥ = cc in
    no
given_fits secret given is Repos.NoCommit refused = refused
given_fits secret given is (Repos.Damaged segment at) refused = refused
given_fits secret given is (Repos.Config f) refused = refused
given_fits secret given is (Repos.Missing id) refused = refused
given_fits secret given is (Repos.Blob id f) refused = refused
given_fits secret given is (Repos.Manifest f) refused = refused
given_fits secret given is (Repos.Archive id f) refused = refused
given_fits secret given is (Repos.Item id f) refused = refused
given_fits secret given is (Repos.Size id) refused = refused
given_fits secret given is (Repos.Other file config) refused = refused
given_fits secret given is Repos.NoKey refused = refused
given_fits secret given is Repos.Device refused = refused
given_fits secret given is Repos.Memory refused = refused

making_files : (secret : Secret) (timestamp : List ℕ) (files : Files) (refusal : StoreRefusal) → FitsGiven secret → IsUncommitted files
    → RefusesMaking timestamp files refusal → RefusesFiles secret timestamp files refusal
making_files secret timestamp files (RepoRefusal fault) fits none r = absurd r
making_files secret timestamp files (Write fault) fits none r = r
making_files secret timestamp files (Nonce Nonces.Missing) fits none r = absurd r
making_files secret timestamp files (Nonce Nonces.Text) fits none r = (none, (fits, r))
making_files secret timestamp files (Nonce Nonces.Exhausted) fits none r = (none, (fits, r))
making_files secret timestamp files (Nonce Nonces.Device) fits none r = tt
making_files secret timestamp files (Nonce Nonces.Memory) fits none r = absurd r
making_files secret timestamp files Committed fits none r = absurd r
making_files secret timestamp files TooLarge fits none r = (none, (fits, r))
making_files secret timestamp files Entropy fits none r = tt
making_files secret timestamp files Memory fits none r = tt

pub making_refused : (secret : Secret) (timestamp : List ℕ) (given : Option Basis) (a b : Option Told) (refusal : StoreRefusal) → IsGiven secret given
    → IfSome a (λ t. IsUncommitted (told_files t)) → KeepsTold {T = Unit {0}} depot_failed a b (Ok tt)
    → IfSome b (λ t. RefusesMaking timestamp (told_files t) refusal) → IfSome a (λ t. RefusesInit secret timestamp t.history refusal)
making_refused secret timestamp given None b refusal is none same refused = tt
making_refused secret timestamp given (Some t) b refusal is none same refused = λ e.
    let each = same_told {T = Unit {0}} depot_failed (Some t) b (Ok tt) same in
    let there : RefusesMaking timestamp (files_now each.0.history) refusal =
    subst (λ (o : Option Told). IfSome o (λ u. RefusesMaking timestamp (told_files u) refusal)) each.1 refused in
    making_files secret timestamp (told_files t) refusal (given_fits secret given is) none
    (subst (λ (h : History). RefusesMaking timestamp (files_now h) refusal) each.2 there)
