-- Lemmas on specs/Init.antt: a line that is told behind a store that was made, and what stands then.
use Rattle.std.proofs.Common.{◌≡◌, ◌⊎◌, inl, inr, ℕ, Bool, true, false, List, [], ◌∷◌, ◌++◌, Option, Some}
use Rattle.std.proofs.Common.{None, unwrap_or, Result, Ok, Err, IfErr, IfSome, OnOk}
use Rattle.std.proofs.Common.{refl, sym, ◌∙◌, ap, subst}
use Rattle.ferry_config.specs.declared.config.Config.{Config}
use Rattle.ferry_disk.proofs.MomentLemmas.{between_map, between_both}
use Rattle.ferry_disk.specs.Act.{Step, TellOf, History, files_now, with_act}
use Rattle.ferry_disk.specs.Device.{Told, RoseWhere, told_files}
use Rattle.ferry_disk.specs.Faults.{FailedWhere, failed_told}
use Rattle.ferry_disk.specs.Files.{Files, contents_at}
use Rattle.ferry_disk.specs.Image.{settled}
use Rattle.ferry_disk.specs.Moments.{Between, EachMoment, Moments, with_steps}
use Rattle.ferry_disk.specs.declared.name.Name.TheVariants.{Config as ConfigFile}
use Rattle.ferry_keyblob.specs.Opening.{Opened}
use Rattle.ferry_nonce.specs.declared.fault.NonceFault.TheVariants as Nonces
use Rattle.ferry_repo.specs.Fault.{IsOfFiles, repo_failed}
use Rattle.ferry_repo.specs.Opening.{RefusesKey, UnlockedText, UnlocksTo}
use Rattle.ferry_repo.specs.declared.fault.RepoFault.{RepoFault}
use Rattle.ferry_repo.specs.declared.fault.RepoFault.TheVariants as Repo
use Rattle.ferry_repo.specs.declared.secret.Secret.{Secret}
use Rattle.ferry_log.specs.Log.{IsUncommitted}
use Rattle.ferry_stops.proofs.EntryLemmas.{one_shown, uncommitted_shown}
use Rattle.ferry_stops.proofs.TellLemmas.{line_told, lines-push}
use Rattle.ferry_stops.specs.Chance.{EachStop, IsLeft}
use Rattle.ferry_stops.specs.Tells.{TellsNothing, line_of, lines_of}
use Rattle.ferry_store.proofs.SoundLemmas.{stands_now}
use Rattle.ferry_store.proofs.StepLemmas.{before_same, did_then, moments_map, moments_then, step_moments}
use Rattle.ferry_store.specs.Fault.{depot_failed, repo_refusal}
use Rattle.ferry_store.specs.New.{IsMade, IsNothingOrNew, OpensNew, first_manifest}
use Rattle.ferry_store.specs.State.{Did, IsStep}
use Rattle.ferry_store.specs.Store.{InitEach, InitFits, InitMakes, InitShows, RefusesFiles, RefusesInit}
use Rattle.ferry_store.specs.declared.fault.StoreRefusal.{StoreRefusal}
use Rattle.ferry_store.specs.declared.fault.StoreRefusal.TheVariants as Store
use Rattle.ferry_store.specs.declared.store.Store.{Store as StoreValue}
use Rattle.ferry_status.proofs.LeftLemmas.{now_left}
use Rattle.ferry_status.proofs.TellLemmas.{end_known, fail_as, first_then, keeps_then, numbers_then, repo_is, rose_as, settled_some, tell_left, tells_same}
use Rattle.ferry_top.specs.Init.{CommandEach, CommandShows, IsFault, IsReady, IsToldOf, MakesAndTells, initialized_line}
use Rattle.ferry_status.specs.Telling.{RefusesTelling}
use Rattle.ferry_status.specs.Status.{store_status, target_status}
use Rattle.ferry_status.specs.declared.status.Status.{Status}
use Rattle.ferry_status.specs.Devices.{IsRefusedBy}
use Rattle.ferry_write.specs.Script.{AllDone}
use Rattle.ferry_write.specs.declared.fault.WriteFault.TheVariants as Writes

-- ---- what is known once the store is made

-- a config is the only one that a file and a secret give
abbrev config_in : Config → Result UnlockedText RepoFault → Config
config_in other (Ok text) = text.config
config_in other (Err fault) = other

one_config : (bytes : List ℕ) (secret : Secret) (a b : Config) (m n : ℕ) (k l : Opened) → UnlocksTo bytes secret a m k → UnlocksTo bytes secret b n l → a ≡ b
one_config bytes secret a b m n k l x y = ap (config_in a) (sym x ∙ y)

-- A file `config` unlocks with this id.
pub record HasId (secret : Secret) (id : List ℕ) (files : Files) : Type 0 where
  pub config : Config
  pub iterations : ℕ
  pub key : Opened
  pub unlocks : UnlocksTo (contents_at files ConfigFile) secret config iterations key
  pub id_is : id ≡ config.id

-- What is known when the store is made and its `config` was read.
record Made (secret : Secret) (iterations : ℕ) (timestamp bytes id : List ℕ) (store : StoreValue) (before now : History) : Type 0 where
  pub fits : InitFits store before now
  pub makes : InitMakes secret iterations timestamp bytes before now
  pub untold : TellsNothing before now
  pub has : HasId secret id (files_now now)

-- ---- each moment of `init` and of the Tell behind it

-- lists of which nothing is made have nothing
both_none : {X : Type 0} (xs ys : List X) → xs ++ ys ≡ [] → xs ≡ []
both_none [] ys e = refl
both_none (x ∷ xs) ys e = let no : ⊥ = cc in absurd no

-- no line was told before an act where none is told behind it
none_before : (h : History) (step : Step) (done : Bool) → lines_of (with_act step done h).acts ≡ [] → lines_of h.acts ≡ []
none_before h step done e = both_none (lines_of h.acts) (line_of step) (sym (lines-push h.acts (record { step = step; done = done })) ∙ e)

none_at : (h : History) (step : Step) (done other : Bool) → lines_of (with_act step done h).acts ≡ [] → lines_of (with_act step other h).acts ≡ []
none_at h step done other e =
    lines-push h.acts (record { step = step; done = other }) ∙ (sym (lines-push h.acts (record { step = step; done = done })) ∙ e)

none_begun : (h : History) (steps : List Step) → lines_of (with_steps steps h).acts ≡ [] → lines_of h.acts ≡ []
none_begun h [] e = e
none_begun h (step ∷ steps) e = none_before h step true (none_begun (with_act step true h) steps e)

-- at each moment of steps that tell none, none was told
untold_moments : (P : History → Type 0) (h : History) (steps : List Step) → lines_of (with_steps steps h).acts ≡ [] → EachMoment P h steps
    → EachMoment (λ k. (lines_of k.acts ≡ []) × P k) h steps
untold_moments P h [] e each = (e, each)
untold_moments P h (step ∷ steps) e each =
    let next = none_begun (with_act step true h) steps e in (
      (none_before h step true next, each.0),
      (none_at h step true false next, each.1),
      untold_moments P (with_act step true h) steps e each.2,
    )

untold_all : (P : History → Type 0) (h g : History) → lines_of g.acts ≡ [] → Moments P h g → Moments (λ k. (lines_of k.acts ≡ []) × P k) h g
untold_all P h g e m = record {
  steps = m.steps;
  each = untold_moments P h m.steps (at_steps m.now_is) m.each;
  now_is = m.now_is;
  last = (e, m.last);
} where
  at_steps : (g ≡ with_steps m.steps h) ⊎ ((step : Step) × (g ≡ with_act step false (with_steps m.steps h))) → lines_of (with_steps m.steps h).acts ≡ []
  at_steps (inl is) = ap (λ (k : History). lines_of k.acts) (sym is) ∙ e
  at_steps (inr p) = none_before (with_steps m.steps h) p.0 false (ap (λ (k : History). lines_of k.acts) (sym p.1) ∙ e)

none_told : (h : History) → h.acts ≡ [] → lines_of h.acts ≡ []
unfolding lines_of
none_told h e = ap lines_of e

-- where no line was told, each stop leaves nothing or the new repository
quiet_shows : (secret : Secret) (h g : History) → TellsNothing h g → InitShows secret h g → CommandShows secret h g
quiet_shows secret h g untold shows e none =
    moments_map (λ k. (lines_of k.acts ≡ []) × EachStop (IsNothingOrNew secret) k) (λ k. EachStop (IsToldOf secret (lines_of k.acts)) k) h g
    (λ k both image left. inl (both.0, both.1 image left))
    (untold_all (EachStop (IsNothingOrNew secret)) h g (untold ∙ none_told h e) (shows e none))

-- what each stop leaves once the repository is made, and its line is told or isn't
made_shows : (secret : Secret) (id : List ℕ) (store : StoreValue) (h g : History) → h.acts ≡ [] → InitEach secret h g
    → IsUncommitted (files_now h) → InitFits store h g → HasId secret id (files_now g) → (image : Files) → IsLeft g image
    → (new : OpensNew secret image) × (id ≡ new.repo.config.id)
made_shows secret id store h g e each none fits has image left =
    let shown = each.0.0 e none in
    let under = (fits false e (λ c. absurd (let no : ⊥ = cc in no))) in
    let stands = (stands_now false store.session store.counter under.written g under.under_way).shows in
    let now = stands (files_now g) (now_left (EachStop (IsNothingOrNew secret)) h g e each.1.1.1 shown) in
    let then = stands image left in
    let same : contents_at (files_now g) ConfigFile ≡ contents_at image ConfigFile =
    ap (λ (file : Option (List ℕ)). unwrap_or file []) (now.1 ∙ sym then.1) in
    elim (shown.last image left) [
      | inl uncommitted ↦ (
          let both : Some under.manifest.entries ≡ None =
          sym under.manifest.is ∙ one_shown image under.written.committed None then.0 (0, uncommitted_shown image uncommitted) in
          absurd (let no : ⊥ = cc in no)
          )
      | inr new ↦ (
          let unlocks = new.opens.opens.unlocks in (
            new,
            has.id_is ∙ ap (λ (c : Config). c.id) (one_config (contents_at image ConfigFile) secret has.config new.repo.config has.iterations unlocks.iterations
                has.key unlocks.key (subst (λ (bytes : List ℕ). UnlocksTo bytes secret has.config has.iterations has.key) same has.unlocks) unlocks.unlocks),
          )
          )
    ]

shows_then : (secret : Secret) (id : List ℕ) (store : StoreValue) (h g i : History) → InitEach secret h g → TellsNothing h g → InitFits store h g
    → HasId secret id (files_now g) → AllDone h g → IsStep (TellOf (initialized_line id)) g i → CommandShows secret h i
shows_then secret id store h g i each untold fits has done is e none =
    let line = initialized_line id in
    let first = quiet_shows secret h g untold each.0.0 e none in
    moments_then (λ k. EachStop (IsToldOf secret (lines_of k.acts)) k) h g i first done
    (step_moments (λ k. EachStop (IsToldOf secret (lines_of k.acts)) k) (TellOf line) g i first.last
    (λ d image left.
    let new = made_shows secret id store h g e each none fits has image (tell_left line d g image left) in
    inr (
      new.0,
      line_told g line d
          ∙ (ap (λ (lines : List (List ℕ)). lines ++ line ∷ []) (untold ∙ none_told h e) ∙ ap (λ (n : List ℕ). initialized_line n ∷ []) new.1),
    )) is)

fits_settled : (store : StoreValue) (h g : History) → InitFits store h g → h.acts ≡ [] → settled g.acts ≡ true
fits_settled store h g fits e = (fits false e (λ c. absurd (let no : ⊥ = cc in no))).under_way.fits.own.safe.settled_is

pub each_command : (secret : Secret) (h g : History) → TellsNothing h g → InitEach secret h g → CommandEach secret h g
each_command secret h g untold each = ((quiet_shows secret h g untold each.0.0, λ e. each.0.1), (each.1.0, (each.1.1.0, each.1.1.1)))

each_untold : (secret : Secret) (a b : Option Told) → Between a b TellsNothing → Between a b (InitEach secret) → Between a b (CommandEach secret)
each_untold secret a b untold each =
    between_map a b (λ h g. TellsNothing h g × InitEach secret h g) (CommandEach secret) (λ h g both. each_command secret h g both.0 both.1)
    (between_both a b TellsNothing (InitEach secret) untold each)

-- `init` of the store has failed
pub did_failed : {T : Type 0} (secret : Secret) (Q : T → History → History → Type 0) (R : Unit {0} → History → History → Type 0) (a b : Option Told)
    (n m : ℕ) (refusal : StoreRefusal) → Between a b TellsNothing → Did (InitEach secret) Q a b n m (Err refusal)
    → Did (CommandEach secret) R a b n m (Err refusal)
did_failed secret Q R a b n m refusal untold did = record {
  each = each_untold secret a b untold did.each;
  end = tt;
  ends = did.ends;
  cause = did.cause;
}

each_then : (secret : Secret) (iterations : ℕ) (timestamp bytes id : List ℕ) (store : StoreValue) (h g i : History) → InitEach secret h g
    → AllDone h g → Made secret iterations timestamp bytes id store h g → IsStep (TellOf (initialized_line id)) g i → CommandEach secret h i
each_then secret iterations timestamp bytes id store h g i each done made is = let line = initialized_line id in (
  (
    shows_then secret id store h g i each made.untold made.fits made.has done is,
    λ e no. absurd (no (made.makes e).uncommitted),
  ),
  (
    keeps_then line h g i each.1.0 done is,
    (
      numbers_then line h g i each.1.1.0 done is,
      first_then (TellOf line) h g i each.1.1.1 (λ e. settled_some g.acts (fits_settled store h g made.fits e)) is,
    ),
  ),
)

-- ---- the end

-- what a line says of a new repository
abbrev Tells : Secret → ℕ → List ℕ → ℕ → List ℕ → History → History → Files → Type 0
Tells secret iterations timestamp free bytes made now files = IsMade secret iterations timestamp free bytes files
    × ((opens : OpensNew secret files) × ((opens.repo.manifest ≡ first_manifest timestamp)
    × (now ≡ with_act (TellOf (initialized_line opens.repo.config.id)) true made)))

pub tells_then : (secret : Secret) (iterations : ℕ) (timestamp bytes id : List ℕ) (h g i : History) → InitMakes secret iterations timestamp bytes h g
    → TellsNothing h g → HasId secret id (files_now g) → i ≡ with_act (TellOf (initialized_line id)) true g
    → (h.acts ≡ [] → MakesAndTells secret iterations timestamp bytes h i)
tells_then secret iterations timestamp bytes id h g i makes untold has is e =
    let m = makes e in
    let unlocks = m.opens.opens.opens.unlocks in
    let same : id ≡ m.opens.repo.config.id =
    has.id_is ∙ ap (λ (c : Config). c.id) (one_config (contents_at (files_now g) ConfigFile) secret has.config m.opens.repo.config has.iterations
    unlocks.iterations has.key unlocks.key has.unlocks unlocks.unlocks) in
    let told : i ≡ with_act (TellOf (initialized_line m.opens.repo.config.id)) true g =
    is ∙ ap (λ (d : List ℕ). with_act (TellOf (initialized_line d)) true g) same in
    let files : files_now i ≡ files_now g = ap files_now is ∙ tells_same (initialized_line id) g in
    let all : Tells secret iterations timestamp m.free bytes g i (files_now i) =
    subst (Tells secret iterations timestamp m.free bytes g i) (sym files) (m.made, (m.opens, (m.first, told))) in
    record {
      makes = record { uncommitted = m.uncommitted; free = m.free; number = m.number; made = all.0; opens = all.1.0; first = all.1.1.0 };
      made = g;
      untold = untold ∙ none_told h e;
      tells = all.1.1.1;
    }

-- ---- all of it

pub on_ok : (P : Type 0) (result : Result (Unit {0}) StoreRefusal) → P → OnOk result P
on_ok P (Ok x) p = p
on_ok P (Err refusal) p = tt

pub has_id : (told : Option Told) (secret : Secret) (config : Config) (iterations : ℕ) (key : Opened)
    → IfSome told (λ t. UnlocksTo (contents_at (told_files t) ConfigFile) secret config iterations key)
    → IfSome told (λ t. HasId secret config.id (told_files t))
has_id None secret config iterations key u = tt
has_id (Some t) secret config iterations key u = record { config = config; iterations = iterations; key = key; unlocks = u; id_is = refl }

did_read : (secret : Secret) (iterations : ℕ) (timestamp bytes id : List ℕ) (store : StoreValue) (a b c : Option Told) (n m k : ℕ)
    → Did (InitEach secret) InitFits a b n m (Ok store) → Between a b (InitMakes secret iterations timestamp bytes) → Between a b TellsNothing
    → IfSome b (λ t. HasId secret id (told_files t))
    → Between b c (λ h g. g ≡ h) → failed_told c ≡ failed_told b → k ≡ m
    → Did (InitEach secret) (Made secret iterations timestamp bytes id) a c n k (Ok store)
did_read secret iterations timestamp bytes id store a b c n m k did makes untold has same ends cause = record {
  each = before_same (InitEach secret) a b c did.each same;
  end = before_same (λ h g. AllDone h g × Made secret iterations timestamp bytes id store h g) a b c
      (between_map a b _ (λ h g. AllDone h g × Made secret iterations timestamp bytes id store h g)
      (λ h g x. (x.0.0.0.0, record { fits = x.0.0.0.1; makes = x.0.0.1; untold = x.0.1; has = x.1 }))
      (end_known (λ k. HasId secret id (files_now k)) _ a b (between_both a b (λ h g. (AllDone h g
      × InitFits store h g) × InitMakes secret iterations timestamp bytes h g) TellsNothing (between_both a b (λ h g. AllDone h g
      × InitFits store h g) (InitMakes secret iterations timestamp bytes) did.end makes) untold) has)) same;
  ends = ends ∙ did.ends;
  cause = cause ∙ did.cause;
}

-- `config` is read, and the line is told or isn't
pub did_tell : (secret : Secret) (iterations : ℕ) (timestamp bytes id : List ℕ) (store : StoreValue) (a b c d : Option Told) (n m k l : ℕ)
    (result : Result (Unit {0}) StoreRefusal) → Did (InitEach secret) InitFits a b n m (Ok store) → Between a b (InitMakes secret iterations timestamp bytes)
    → Between a b TellsNothing → IfSome b (λ t. HasId secret id (told_files t)) → Between b c (λ h g. g ≡ h) → failed_told c ≡ failed_told b → k ≡ m
    → Did (IsStep (TellOf (initialized_line id))) (λ _ h g. g ≡ with_act (TellOf (initialized_line id)) true h) c d k l result
    → Did (CommandEach secret) (λ _ h g. h.acts ≡ [] → MakesAndTells secret iterations timestamp bytes h g) a d n l result
did_tell secret iterations timestamp bytes id store a b c d n m k l result did makes untold has same ends cause tells =
    let line = initialized_line id in
    did_then (InitEach secret) (Made secret iterations timestamp bytes id) (IsStep (TellOf line)) (λ _ h g. g ≡ with_act (TellOf line) true h)
    (CommandEach secret)
    (λ _ h g. h.acts ≡ [] → MakesAndTells secret iterations timestamp bytes h g) a c d n k l store result
    (λ h g i each done made is. each_then secret iterations timestamp bytes id store h g i each done made is)
    (λ y h g i made is. tells_then secret iterations timestamp bytes id h g i made.makes made.untold made.has is)
    (did_read secret iterations timestamp bytes id store a b c n m k did makes untold has same ends cause) tells

-- `config` isn't read
pub did_unread : (secret : Secret) (Q : Unit {0} → History → History → Type 0) (store : StoreValue) (a b c : Option Told) (n m k : ℕ) (fault : RepoFault)
    → Between a b TellsNothing → Did (InitEach secret) InitFits a b n m (Ok store) → Between b c (λ h g. g ≡ h) → FailedWhere (repo_failed fault) b c
    → RoseWhere (repo_failed fault) m k
    → Did (CommandEach secret) Q a c n k (Err (repo_refusal fault))
did_unread secret Q store a b c n m k fault untold did same ends cause =
    did_then (CommandEach secret) InitFits (λ h g. g ≡ h) (λ y h g. ⊥) (CommandEach secret) Q a b c n m k store (Err (repo_refusal fault))
    (λ h g i each done fits e. subst (CommandEach secret h) (sym e) each) (λ y h g i fits q. absurd q)
    (record { each = each_untold secret a b untold did.each; end = did.end; ends = did.ends; cause = did.cause }) (record {
      each = same;
      end = tt;
      ends = fail_as (depot_failed (repo_refusal fault)) (repo_failed fault) b c (repo_is fault) ends;
      cause = rose_as (depot_failed (repo_refusal fault)) (repo_failed fault) m k (repo_is fault) cause;
    })

-- ---- refusals

telling_init : (secret : Secret) (timestamp : List ℕ) (files : Files) (refusal : StoreRefusal) → RefusesTelling refusal
    → RefusesFiles secret timestamp files refusal
telling_init secret timestamp files (Store.Write Writes.Device) r = tt
telling_init secret timestamp files (Store.Write Writes.Memory) r = absurd r
telling_init secret timestamp files (Store.Write Writes.Numbers) r = absurd r
telling_init secret timestamp files (Store.Repo fault) r = absurd r
telling_init secret timestamp files (Store.Nonce fault) r = absurd r
telling_init secret timestamp files Store.Committed r = absurd r
telling_init secret timestamp files Store.TooLarge r = absurd r
telling_init secret timestamp files Store.Entropy r = absurd r
telling_init secret timestamp files Store.Memory r = tt

pub refuses_line : (secret : Secret) (timestamp : List ℕ) (told : Option Told) (refusal : StoreRefusal) → RefusesTelling refusal
    → IfSome told (λ t. RefusesInit secret timestamp t.history refusal)
refuses_line secret timestamp None refusal r = tt
refuses_line secret timestamp (Some t) refusal r = λ e. telling_init secret timestamp (told_files t) refusal r

pub line_refused : (secret : Secret) (timestamp : List ℕ) (told : Option Told) (r : Result (Unit {0}) StoreRefusal) → IfErr r RefusesTelling
    → IfErr r (λ refusal. IfSome told (λ t. RefusesInit secret timestamp t.history refusal))
line_refused secret timestamp told (Ok done) is = tt
line_refused secret timestamp told (Err refusal) is = refuses_line secret timestamp told refusal is

-- a new repository unlocks, so only a device and memory refuse that
unread_init : (secret : Secret) (timestamp : List ℕ) (files : Files) (fault : RepoFault) → (IsOfFiles fault → ⊥)
    → RefusesFiles secret timestamp files (repo_refusal fault)
unread_init secret timestamp files Repo.NoCommit not_of = absurd (not_of tt)
unread_init secret timestamp files (Repo.Damaged segment at) not_of = absurd (not_of tt)
unread_init secret timestamp files (Repo.Config fault) not_of = absurd (not_of tt)
unread_init secret timestamp files (Repo.Key fault) not_of = absurd (not_of tt)
unread_init secret timestamp files (Repo.Missing id) not_of = absurd (not_of tt)
unread_init secret timestamp files (Repo.Blob id fault) not_of = absurd (not_of tt)
unread_init secret timestamp files (Repo.Manifest fault) not_of = absurd (not_of tt)
unread_init secret timestamp files (Repo.Archive id fault) not_of = absurd (not_of tt)
unread_init secret timestamp files (Repo.Item id fault) not_of = absurd (not_of tt)
unread_init secret timestamp files (Repo.Size id) not_of = absurd (not_of tt)
unread_init secret timestamp files (Repo.KeyFile fault) not_of = absurd (not_of tt)
unread_init secret timestamp files (Repo.Other file config) not_of = absurd (not_of tt)
unread_init secret timestamp files Repo.NoKey not_of = absurd (not_of tt)
unread_init secret timestamp files Repo.Device not_of = tt
unread_init secret timestamp files Repo.Memory not_of = tt

unlocks_new : (secret : Secret) (files : Files) (fault : RepoFault) → OpensNew secret files → RefusesKey (contents_at files ConfigFile) secret fault
    → IsOfFiles fault → ⊥
unlocks_new secret files fault new refuses of =
    let is = refuses of in let good = new.opens.opens.unlocks.unlocks in let both = sym is ∙ good in let no : ⊥ = cc in no

pub refuses_reading : (secret : Secret) (iterations : ℕ) (timestamp bytes : List ℕ) (a b : Option Told) (fault : RepoFault)
    → Between a b (InitMakes secret iterations timestamp bytes)
    → IfSome b (λ t. RefusesKey (contents_at (told_files t) ConfigFile) secret fault)
    → IfSome a (λ t. RefusesInit secret timestamp t.history (repo_refusal fault))
refuses_reading secret iterations timestamp bytes None b fault makes refuses = tt
refuses_reading secret iterations timestamp bytes (Some a) b fault makes refuses = λ e.
    let key : RefusesKey (contents_at (files_now makes.0.history) ConfigFile) secret fault =
    subst (λ (x : Option Told). IfSome x (λ t. RefusesKey (contents_at (told_files t) ConfigFile) secret fault)) makes.1 refuses in
    unread_init secret timestamp (told_files a) fault (unlocks_new secret (files_now makes.0.history) fault (makes.2 e).opens key)

-- ---- where nothing refuses

ready_given : (secret : Secret) (timestamp : List ℕ) (files : Files) (fault : RepoFault) → IsReady secret timestamp files
    → RefusesFiles secret timestamp files (Store.Repo fault) → IsFault (target_status fault)
ready_given secret timestamp files Repo.NoCommit ready r = absurd (ready.key Repo.NoCommit r.1)
ready_given secret timestamp files (Repo.Damaged segment at) ready r = absurd (ready.key (Repo.Damaged segment at) r.1)
ready_given secret timestamp files (Repo.Config fault) ready r = absurd (ready.key (Repo.Config fault) r.1)
ready_given secret timestamp files (Repo.Key fault) ready r = absurd (ready.key (Repo.Key fault) r.1)
ready_given secret timestamp files (Repo.Missing id) ready r = absurd (ready.key (Repo.Missing id) r.1)
ready_given secret timestamp files (Repo.Blob id fault) ready r = absurd (ready.key (Repo.Blob id fault) r.1)
ready_given secret timestamp files (Repo.Manifest fault) ready r = absurd (ready.key (Repo.Manifest fault) r.1)
ready_given secret timestamp files (Repo.Archive id fault) ready r = absurd (ready.key (Repo.Archive id fault) r.1)
ready_given secret timestamp files (Repo.Item id fault) ready r = absurd (ready.key (Repo.Item id fault) r.1)
ready_given secret timestamp files (Repo.Size id) ready r = absurd (ready.key (Repo.Size id) r.1)
ready_given secret timestamp files (Repo.KeyFile fault) ready r = absurd (ready.key (Repo.KeyFile fault) r.1)
ready_given secret timestamp files (Repo.Other file config) ready r = absurd (ready.key (Repo.Other file config) r.1)
ready_given secret timestamp files Repo.NoKey ready r = absurd (ready.key Repo.NoKey r.1)
ready_given secret timestamp files Repo.Device ready r = inr (inl refl)
ready_given secret timestamp files Repo.Memory ready r = inl refl

ready_refused : (secret : Secret) (timestamp : List ℕ) (files : Files) (refusal : StoreRefusal) → IsReady secret timestamp files
    → RefusesFiles secret timestamp files refusal → IsFault (store_status refusal)
ready_refused secret timestamp files (Store.Repo fault) ready r = ready_given secret timestamp files fault ready r
ready_refused secret timestamp files (Store.Write Writes.Device) ready r = inr (inl refl)
ready_refused secret timestamp files (Store.Write Writes.Memory) ready r = inl refl
ready_refused secret timestamp files (Store.Write Writes.Numbers) ready r = absurd r
ready_refused secret timestamp files (Store.Nonce Nonces.Missing) ready r = absurd r.1.1
ready_refused secret timestamp files (Store.Nonce Nonces.Text) ready r = absurd (ready.nonce r.1.1)
ready_refused secret timestamp files (Store.Nonce Nonces.Exhausted) ready r = absurd (ready.blocks r.1.1)
ready_refused secret timestamp files (Store.Nonce Nonces.Device) ready r = inr (inl refl)
ready_refused secret timestamp files (Store.Nonce Nonces.Memory) ready r = inl refl
ready_refused secret timestamp files Store.Committed ready r = absurd (r ready.uncommitted)
ready_refused secret timestamp files Store.TooLarge ready r = absurd (ready.fits r.1.1)
ready_refused secret timestamp files Store.Entropy ready r = inr (inr refl)
ready_refused secret timestamp files Store.Memory ready r = inl refl

pub init_completes : (secret : Secret) (timestamp : List ℕ) (told : Told) (status : Status) → told.history.acts ≡ []
    → IsReady secret timestamp (told_files told) → IsRefusedBy store_status (λ refusal. RefusesInit secret timestamp told.history refusal) status
    → IsFault status
init_completes secret timestamp told status e ready refused =
    subst IsFault (sym refused.status_is) (ready_refused secret timestamp (told_files told) refused.fault ready (refused.refuses e))
