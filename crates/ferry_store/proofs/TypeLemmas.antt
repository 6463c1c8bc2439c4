-- Lemmas on specs/Types.antt: each moment of a run keeps the types of the blobs that it put.
use Rattle.std.proofs.Common.{◌≡◌, ◌⊎◌, inl, inr, ℕ, Bool, true, false, List, [], ◌∷◌, ◌++◌, Option, Some, None, unwrap_or, Result, Ok, Err, IfSome, OnOk}
use Rattle.std.proofs.Common.{refl, sym, ◌∙◌, ap, subst, fold}
use Rattle.std.specs.List.{AllByRecursion}
use Rattle.std.specs.Prelude.{slice_index}
use Rattle.ferry_blob.specs.Blob.{sealed, type_of}
use Rattle.ferry_blob.specs.declared.mode.Mode.{Mode}
use Rattle.ferry_config.specs.Config.{config_of}
use Rattle.ferry_config.specs.Text.{config_text}
use Rattle.ferry_config.specs.declared.config.Config.{Config}
use Rattle.ferry_config.specs.declared.fault.ConfigFault.{ConfigFault}
use Rattle.ferry_disk.specs.Act.{Step, AppendTo, SyncOf, RemoveOf, ReplaceBy, SettleAll, TellOf, Act, History, did, with_act}
use Rattle.ferry_disk.specs.Device.{Told}
use Rattle.ferry_disk.specs.Files.{Files}
use Rattle.ferry_disk.specs.Image.{PlainFate, plain_in, plain_of, plain_after, plain_stepped}
use Rattle.ferry_disk.specs.Moments.{EachMoment, Moments, with_steps}
use Rattle.ferry_disk.specs.declared.name.Name.{Name}
use Rattle.ferry_disk.specs.declared.name.Name.TheVariants.{Config as ConfigFile, Nonce as NonceFile, Readme, Segment}
use Rattle.ferry_log.specs.State.{LogState}
use Rattle.ferry_mac.specs.declared.keys.Keys.{Keys}
use Rattle.ferry_nonce.specs.Counter.{begin_of, reserves}
use Rattle.ferry_repo.specs.Opening.{OpenedText, UnlockedText, UnlocksFiles, mode_of, opened_key, repo_view, unlocked, unlocked_where, unlocked_with}
use Rattle.ferry_repo.specs.declared.fault.RepoFault.{RepoFault}
use Rattle.ferry_repo.specs.declared.secret.Secret.{Secret}
use Rattle.ferry_segment.specs.Entry.{LogEntry, PutEntry, DeleteEntry}
use Rattle.ferry_stops.specs.Blobs.{BlobOf, Gains}
use Rattle.ferry_store.proofs.StepLemmas.{known_end}
use Rattle.ferry_store.specs.Dropping.{IsWriting}
use Rattle.ferry_store.specs.State.{Did}
use Rattle.ferry_store.specs.Store.{StoreFits}
use Rattle.ferry_store.specs.Types.{FitsMode, HasSettings, HasType, KeepsSettings, KeepsTypes, ReadsSettings}
use Rattle.ferry_write.specs.Rows.{IsPutOf}
use Rattle.ferry_store.specs.declared.fault.StoreRefusal.{StoreRefusal}
use Rattle.ferry_store.specs.declared.store.Store.{Store}
use Rattle.ferry_write.specs.Script.{AllDone}
use Rattle.ferry_write.specs.Session.{rests_at}

-- ---- the settings of a moment are those of each moment before it

first_all : {X : Type 0} (P : X → Type 0) (xs ys : List X) → AllByRecursion P (xs ++ ys) → AllByRecursion P xs
first_all P [] ys all = tt
first_all P (x ∷ xs) ys all = (all.0, first_all P xs ys all.1)

last_all : {X : Type 0} (P : X → Type 0) (xs : List X) (y : X) → AllByRecursion P (xs ++ y ∷ []) → P y
last_all P [] y all = all.0
last_all P (x ∷ xs) y all = last_all P xs y all.1

-- The settings of a moment are those of a moment before it.
abbrev pub SettingsBack : History → History → Type 0
SettingsBack before now = (config : Config) → HasSettings config now → HasSettings config before

pub settings_back : (h : History) (step : Step) (done : Bool) → SettingsBack h (with_act step done h)
settings_back h step done config has = record {
  begun = has.begun;
  kept = first_all (λ (act : Act). KeepsSettings config act.step) h.acts (record { step = step; done = done } ∷ []) has.kept;
}

each_back : (base h : History) (s : List Step) → SettingsBack base h → EachMoment (SettingsBack base) h s
each_back base h [] back = back
each_back base h (x ∷ s) back = (
  back,
  λ config has. back config (settings_back h x false config has),
  each_back base (with_act x true h) s (λ config has. back config (settings_back h x true config has)),
)

steps_back : (base h : History) (s : List Step) → SettingsBack base h → SettingsBack base (with_steps s h)
steps_back base h [] back = back
steps_back base h (x ∷ s) back = steps_back base (with_act x true h) s (λ config has. back config (settings_back h x true config has))

pub moments_settings : (P : History → Type 0) (a b : History) → Moments P a b → Moments (SettingsBack a) a b
moments_settings P a b m = record {
  steps = m.steps;
  each = each_back a a m.steps (λ config has. has);
  now_is = m.now_is;
  last = elim m.now_is [
    | inl e ↦ subst (SettingsBack a) (sym e) back
    | inr e ↦ subst (SettingsBack a) (sym e.1) (λ config has. back config (settings_back (with_steps m.steps a) e.0 false config has))
  ];
} where
  back : SettingsBack a (with_steps m.steps a)
  back = steps_back a a m.steps (λ config has. has)

-- ---- the types of a moment

-- of a moment behind which no blob was put
pub types_kept : (h g : History) → begin_of g ≡ begin_of h → SettingsBack h g → ((blob : List ℕ) → BlobOf g blob → BlobOf h blob) → KeepsTypes h → KeepsTypes g
types_kept h g begins back known types config has blob is =
    subst (λ (k : History). BlobOf k blob ⊎ HasType (mode_of config) blob) (sym begins) (types config (back config has) blob (known blob is))

-- of a run that had made no act
pub types_begun : (h g : History) → h.acts ≡ [] → begin_of g ≡ begin_of h → ((blob : List ℕ) → BlobOf g blob → BlobOf h blob) → KeepsTypes g
types_begun h g e begins known config has blob is =
    inl (subst (λ (k : History). BlobOf k blob) (ap (λ (acts : List Act). record h { acts = acts }) e ∙ sym begins) (known blob is))

-- The blob of an entry, if it puts one, has the type of the settings.
abbrev pub IsTyped : LogEntry → History → Type 0
IsTyped entry history = (config : Config) → HasSettings config history → (blob : List ℕ) → IsPutOf entry blob → HasType (mode_of config) blob

sealed_type : (keys : Keys) (mode : Mode) (first : ℕ) (content : List ℕ) → HasType mode (sealed keys mode first content)
unfolding sealed
sealed_type keys mode first content = refl

-- a content that is sealed in the mode of the settings
pub sealed_typed : (keys : Keys) (mode : Mode) (first : ℕ) (id content blob : List ℕ) (h : History) → blob ≡ sealed keys mode first content → FitsMode h mode
    → IsTyped (PutEntry id blob) h
sealed_typed keys mode first id content blob h is fits config has other put =
    let e : PutEntry id blob ≡ PutEntry put.0 other = put.1 in
    let same : other ≡ sealed keys mode first content = cc in
    subst (λ (m : Mode). HasType m other) (fits config has) (subst (HasType mode) (sym same) (sealed_type keys mode first content))

pub deleted_typed : (id : List ℕ) (h : History) → IsTyped (DeleteEntry id) h
deleted_typed id h config has blob put = absurd (let e = put.1 in let no : ⊥ = cc in no)

-- what a draw leaves of the settings
pub mode_drawn : (mode : Mode) (number : ℕ) (h g : History) → (g ≡ h) ⊎ (g ≡ with_act (reserves number) true h) → FitsMode h mode → FitsMode g mode
mode_drawn mode number h g (inl e) fits = subst (λ (k : History). FitsMode k mode) (sym e) fits
mode_drawn mode number h g (inr e) fits =
    subst (λ (k : History). FitsMode k mode) (sym e) (λ config has. fits config (settings_back h (reserves number) true config has))

-- of a moment behind which an entry of this type was put
pub types_put : (entry : LogEntry) (h g : History) → begin_of g ≡ begin_of h → SettingsBack h g → IsTyped entry h → Gains h (IsPutOf entry) g → KeepsTypes h
    → KeepsTypes g
types_put entry h g begins back typed gains types config has blob is =
    subst (λ (k : History). BlobOf k blob ⊎ HasType (mode_of config) blob) (sym begins) (by_sum (gains.gained blob is)) where
      by_sum : BlobOf h blob ⊎ IsPutOf entry blob → BlobOf (begin_of h) blob ⊎ HasType (mode_of config) blob
      by_sum (inl known) = types config (back config has) blob known
      by_sum (inr put) = inr (typed config (back config has) blob put)

-- ---- the mode of the settings

-- a file `config` that reads to the settings, and no act that replaces them by others
reads_stepped : (config : Config) (step : Step) (done : Bool) (fate : PlainFate) → KeepsSettings config step → ReadsSettings fate.read config
    → ReadsSettings (plain_stepped ConfigFile step done fate).read config
reads_stepped config (AppendTo segment bytes) done fate keeps reads = reads
reads_stepped config (SyncOf segment) done fate keeps reads = reads
reads_stepped config (RemoveOf segment) done fate keeps reads = reads
reads_stepped config (ReplaceBy ConfigFile bytes) true fate keeps reads = keeps
reads_stepped config (ReplaceBy ConfigFile bytes) false fate keeps reads = reads
reads_stepped config (ReplaceBy NonceFile bytes) done fate keeps reads = reads
reads_stepped config (ReplaceBy Readme bytes) done fate keeps reads = reads
reads_stepped config (ReplaceBy (Segment number) bytes) done fate keeps reads = reads
reads_stepped config SettleAll true fate keeps reads = reads
reads_stepped config SettleAll false fate keeps reads = reads
reads_stepped config (TellOf line) done fate keeps reads = reads

reads_after : (config : Config) (acts : List Act) (fate : PlainFate) → AllByRecursion (λ (act : Act). KeepsSettings config act.step) acts
    → ReadsSettings fate.read config → ReadsSettings (fold (plain_after ConfigFile) fate acts).read config
reads_after config [] fate all reads = reads
reads_after config (act ∷ acts) fate all reads =
    reads_after config acts (plain_after ConfigFile fate act) all.1 (reads_stepped config act.step act.done fate all.0 reads)

settings_now : (config : Config) (h : History) → HasSettings config h → ReadsSettings (plain_in h ConfigFile).read config
unfolding plain_of
settings_now config h has = reads_after config h.acts (record { read = h.start.config; perhaps = None }) has.kept has.begun

pub one_settings : (a b : Config) (file : Option (List ℕ)) → ReadsSettings file a → ReadsSettings file b → a ≡ b
one_settings a b file x y = let both : Ok a ≡ Ok b = sym x ∙ y in cc

abbrev config_in : Config → Result UnlockedText RepoFault → Config
config_in other (Ok text) = text.config
config_in other (Err fault) = other

with_config : (config : Config) (key : Result OpenedText RepoFault) → config_in config (unlocked_with config key) ≡ config
with_config config (Ok text) = refl
with_config config (Err fault) = refl

settings_by : (secret : Secret) (read : Result Config ConfigFault) (config : Config) (text : OpenedText)
    → unlocked_where secret read ≡ Ok (record { config = config; text = text }) → read ≡ Ok config
settings_by secret (Err fault) config text e = absurd (let no : ⊥ = cc in no)
settings_by secret (Ok other) config text e =
    let same : other ≡ config = sym (with_config other (opened_key other secret)) ∙ ap (config_in other) e in ap (λ (c : Config). Ok c) same

-- files that are unlocked have settings that read
pub unlocked_settings : (files : Files) (secret : Secret) (log : LogState) (config : Config) (keys : Keys) → UnlocksFiles files secret log config keys
    → ReadsSettings files.config config
unfolding unlocked
unlocked_settings files secret log config keys u =
    settings_by secret (config_of (unwrap_or files.config [])) config (record { iterations = u.iterations; key = u.key }) u.unlocks

-- where the file `config` reads to settings, a run's settings are these
mode_read : (config : Config) (file : Option (List ℕ)) (h : History) → plain_in h ConfigFile ≡ rests_at file → ReadsSettings file config
    → FitsMode h (mode_of config)
mode_read config file h rest reads other has =
    let now : ReadsSettings file other = subst (λ (f : PlainFate). ReadsSettings f.read other) rest (settings_now other h has) in
    ap mode_of (one_settings config other file reads now)

-- and where it was replaced by their text
mode_replaced : (config : Config) (h : History) → config_of (config_text config) ≡ Ok config
    → FitsMode (with_act (ReplaceBy ConfigFile (config_text config)) true h) (mode_of config)
mode_replaced config h reads other has =
    let now : ReadsSettings (Some (config_text config)) other =
    last_all (λ (act : Act). KeepsSettings other act.step) h.acts (did (ReplaceBy ConfigFile (config_text config))) has.kept in
    ap mode_of (one_settings config other (Some (config_text config)) reads now)

pub mode_told : (config : Config) (text : List ℕ) (E : History → History → Type 0) (a b : Option Told) (n m : ℕ) (r : Result (Unit {0}) StoreRefusal)
    → text ≡ config_text config → config_of (config_text config) ≡ Ok config
    → Did {T = Unit {0}} E (λ _ h g. g ≡ with_act (ReplaceBy ConfigFile text) true h) a b n m r → OnOk r (IfSome b (λ t. FitsMode t.history (mode_of config)))
mode_told config text E a b n m (Err refusal) is reads p = tt
mode_told config text E a b n m (Ok x) is reads p =
    known_end (λ h. FitsMode h (mode_of config)) (λ h g. AllDone h g × (g ≡ with_act (ReplaceBy ConfigFile text) true h)) a b p.ends
    (λ h g e. subst (λ (k : History). FitsMode k (mode_of config)) (sym (e.1 ∙ ap (λ (x : List ℕ). with_act (ReplaceBy ConfigFile x) true h) is))
    (mode_replaced config h reads)) p.end

-- ---- what a store fits

fits_mode : (counts : Bool) (store : Store) (h : History) → StoreFits counts store h → FitsMode h (mode_of (repo_view store.repo).config)
fits_mode counts store h fits = mode_read (repo_view store.repo).config fits.written.config h fits.under_way.config fits.settings

pub told_mode : (store : Store) (a : Option Told) → IfSome a (λ t. StoreFits false store t.history)
    → IfSome a (λ t. FitsMode t.history (mode_of (repo_view store.repo).config))
told_mode store None fits = tt
told_mode store (Some t) fits = fits_mode false store t.history fits

pub writing_mode : (store : Store) (a : Option Told) → IfSome a (λ t. IsWriting store t.history)
    → IfSome a (λ t. FitsMode t.history (mode_of (repo_view store.repo).config))
writing_mode store None writes = tt
writing_mode store (Some t) writes = mode_read (repo_view store.repo).config writes.written.config t.history writes.under_way.config writes.settings
