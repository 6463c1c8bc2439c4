-- What each step of `init` did, from what its calls say.
use Rattle.std.proofs.Common.{◌≡◌, ◌⊎◌, inl, inr, ℕ, ◌+◌, ◌<◌, ◌≤◌, ◌^◌, Bool, true, false, List, [], ◌∷◌, ◌++◌, length, Option, Some, None, Result}
use Rattle.std.proofs.Common.{Ok, Err, IfErr, IfSome, IsSome}
use Rattle.std.proofs.Common.{refl, sym, ◌∙◌, ap, subst, arith, ltb, ltb-true, ltb-false, map, drop, unwrap_or, ◌-◌}
use Rattle.std.proofs.lemmas.List.{length-drop}
use Rattle.ferry_disk.proofs.MomentLemmas.{between_map, between_both, between_then}
use Rattle.ferry_disk.proofs.FaultLemmas.{acts_end, keeps_end}
use Rattle.ferry_disk.proofs.ImageLemmas.{applied-push}
use Rattle.ferry_disk.specs.Act.{Step, RemoveOf, ReplaceBy, SettleAll, History, files_now, with_act}
use Rattle.ferry_disk.specs.Device.{Told, Acts, HasCause, RoseWhere, KeepsTold, store_failed, told_files}
use Rattle.ferry_disk.specs.Faults.{EndsAtFault, FailedWhere, failed_told}
use Rattle.ferry_disk.specs.Files.{Files, file_at}
use Rattle.ferry_disk.specs.Image.{plain_in, settled}
use Rattle.ferry_disk.specs.Moments.{Between, Moments}
use Rattle.ferry_disk.specs.declared.name.Name.TheVariants.{Config as ConfigFile, Nonce as NonceFile, Readme}
use Rattle.ferry_disk.specs.declared.shelf.StoreFault.{StoreFault}
use Rattle.ferry_disk.specs.declared.shelf.StoreFault.TheVariants as Store
use Rattle.std.specs.List.{AllByRecursion}
use Rattle.ferry_log.specs.Log as Log
use Rattle.ferry_log.specs.Log.{IsTransaction, IsUncommitted, IsDamaged}
use Rattle.ferry_log.specs.State.{LogState, IsStateOf}
use Rattle.ferry_log.specs.declared.place.Place.{Place}
use Rattle.std.specs.FinMap.{get}
use Rattle.ferry_store.specs.declared.fault.StoreRefusal.TheVariants.{Committed}
use Rattle.ferry_nonce.proofs.MomentLemmas.{numbers_begun}
use Rattle.ferry_nonce.specs.Counter.{CounterFits, IsExactly, FitIn, KeepsAbove, Reserves, drawn, reserves, reserved_for}
use Rattle.ferry_nonce.specs.Fault.{nonce_failed}
use Rattle.ferry_nonce.specs.declared.counter.Counter.{Counter}
use Rattle.ferry_nonce.specs.declared.fault.NonceFault.{NonceFault}
use Rattle.ferry_nonce.specs.declared.fault.NonceFault.TheVariants as Nonces
use Rattle.ferry_stops.specs.Counters.{IsNonce}
use Rattle.ferry_blob.proofs.LawLemmas.{block_of_sealed}
use Rattle.ferry_blob.proofs.SealLemmas.{length-sealed}
use Rattle.ferry_blob.specs.Blob.{IsBlockOf, blocks, sealed}
use Rattle.ferry_blob.specs.declared.mode.Mode.{Mode}
use Rattle.ferry_config.specs.Text.{config_text}
use Rattle.ferry_config.specs.declared.config.Config.{Config}
use Rattle.ferry_mac.specs.declared.keys.Keys.{Keys}
use Rattle.ferry_segment.specs.Entry.{LogEntry, PutEntry, DeleteEntry}
use Rattle.ferry_stops.specs.Entries.{Shows}
use Rattle.ferry_store.proofs.SoundLemmas.{begin_sound, begin_stands, stands_begun, traced_begun, sound_now, replace_moments, readme_stands, config_stands}
use Rattle.ferry_store.proofs.SoundLemmas.{HasDrawn, TakesBlocks, put_same, put_sound, put_stands, draw_sound, draw_stands, commit_sound, commit_stands}
use Rattle.ferry_store.proofs.SoundLemmas.{standing_shown}
use Rattle.ferry_store.proofs.StepLemmas.{after_same, known_then, same_told, acts_step, acts_done, acted_step, called_step, same_step, step_done}
use Rattle.ferry_store.proofs.StepLemmas.{did_then, did_front, did_as, did_known, known_end, first_kept, settle_settled, steps_settled, moments_map}
use Rattle.ferry_store.proofs.StepLemmas.{moments_then, moments_here}
use Rattle.ferry_base.specs.Limits.{zero_id}
use Rattle.ferry_repo.specs.declared.secret.Secret.{Secret}
use Rattle.ferry_store.proofs.NewLemmas.{opens_new}
use Rattle.ferry_store.specs.New.{FirstSound, IsOpenable, Makes, MakesSound, ShowsNew, TakesFirst, new_entries, nothing_written}
use Rattle.ferry_store.proofs.TypeLemmas.{IsTyped, deleted_typed, mode_drawn, types_begun}
use Rattle.ferry_store.specs.Types.{FitsMode}
use Rattle.ferry_store.specs.Fault.{depot_failed, nonce_refusal, write_refusal, store_refusal}
use Rattle.ferry_store.specs.State.{BeginLeaves, Begins, BeginsSound, CommitsSound, Did, HasNumber, IsSound, IsStep, IsUnderWay, KeepsSound, SettingsSound}
use Rattle.ferry_store.specs.State.{ShowsEither}
use Rattle.ferry_store.specs.State.{IsPlaced, ShowsStanding, TakesCommit, TakesEntry, TakesSettings, Written, found}
use Rattle.ferry_store.specs.State.{EndsAtCommit, RefusesLog, readme_text, with_settings}
use Rattle.ferry_store.specs.declared.fault.StoreRefusal.{StoreRefusal}
use Rattle.ferry_write.specs.Fault.{write_failed}
use Rattle.ferry_write.specs.Rows.{BeginBrings, BeginsRows, Brings, BringsNone, KeepsRows}
use Rattle.ferry_write.specs.Room.{after_commit, after_entry, behind, room_of}
use Rattle.ferry_write.specs.Script.{AllDone, clear_steps, numbers_from}
use Rattle.ferry_write.specs.Session.{BeginKeeps, Begins as SessionBegins, BeginBySettle, ClearsAbove, ClearsAll, Commits, Keeps, KeepsOrCommits}
use Rattle.ferry_write.specs.Session.{KeepsPlain, Lies, OnlyAppends, Puts, SettlesFirst, Stays}
use Rattle.ferry_write.specs.declared.fault.WriteFault.{WriteFault}
use Rattle.ferry_write.specs.declared.fault.WriteFault.TheVariants as Writes
use Rattle.ferry_write.specs.declared.session.Session.{Session}

-- ---- whether the depot failed

pub write_is : (fault : WriteFault) → depot_failed (write_refusal fault) ≡ write_failed fault
write_is Writes.Device = refl
write_is Writes.Memory = refl
write_is Writes.Numbers = refl

pub nonce_is : (fault : NonceFault) → depot_failed (nonce_refusal fault) ≡ nonce_failed fault
nonce_is Nonces.Missing = refl
nonce_is Nonces.Text = refl
nonce_is Nonces.Exhausted = refl
nonce_is Nonces.Device = refl
nonce_is Nonces.Memory = refl

pub store_is : (fault : StoreFault) → depot_failed (store_refusal fault) ≡ store_failed fault
store_is Store.Failed = refl
store_is Store.Memory = refl

-- ---- what is there

mid_of : (P : ℕ → Type 0) (xs ys : List ℕ) (y : ℕ) → AllByRecursion P (xs ++ y ∷ ys) → P y
mid_of P [] ys y all = all.0
mid_of P (x ∷ xs) ys y all = mid_of P xs ys y all.1

is_committed : (files : Files) (t : ℕ) → IsTransaction files t → IsUncommitted files → ⊥
is_committed files t is none = mid_of (Log.IsOpen files) is.below is.above t (subst (AllByRecursion (Log.IsOpen files)) is.numbers none) is.committed

told_step : (told : Option Told) (P Q : Files → Type 0) → ((files : Files) → P files → Q files) → IfSome told (λ t. P (told_files t))
    → IfSome told (λ t. Q (told_files t))
told_step None P Q step p = tt
told_step (Some t) P Q step p = step (told_files t) p

pub log_ok : (r : Result (Unit {0}) StoreRefusal) (log : LogState) (told : Option Told) → r ≡ Err Committed → IfSome told (λ t. IsStateOf (told_files t) log)
    → IfErr r (λ refusal. IfSome told (λ t. RefusesLog (told_files t) refusal))
log_ok r log told e is =
    subst (λ (x : Result (Unit {0}) StoreRefusal). IfErr x (λ refusal. IfSome told (λ t. RefusesLog (told_files t) refusal))) (sym e)
    (told_step told (λ files. IsStateOf files log) (λ files. IsUncommitted files → ⊥) (λ files s. is_committed files log.transaction s.is.is) is)

pub log_damaged : (r : Result (Unit {0}) StoreRefusal) (s at : ℕ) (told : Option Told) → r ≡ Err Committed → IfSome told (λ t. IsDamaged (told_files t) s at)
    → IfErr r (λ refusal. IfSome told (λ t. RefusesLog (told_files t) refusal))
log_damaged r s at told e is =
    subst (λ (x : Result (Unit {0}) StoreRefusal). IfErr x (λ refusal. IfSome told (λ t. RefusesLog (told_files t) refusal))) (sym e)
    (told_step told (λ files. IsDamaged files s at) (λ files. IsUncommitted files → ⊥) (λ files d. is_committed files d.transaction d.is) is)

told_free : (told : Option Told) (P : Files → Type 0) → ((files : Files) → P files) → IfSome told (λ t. P (told_files t))
told_free None P all = tt
told_free (Some t) P all = all (told_files t)

pub log_free : (r : Result (Unit {0}) StoreRefusal) (refusal : StoreRefusal) (told : Option Told) → r ≡ Err refusal
    → ((files : Files) → RefusesLog files refusal) → IfErr r (λ y. IfSome told (λ t. RefusesLog (told_files t) y))
log_free r refusal told e all =
    subst (λ (x : Result (Unit {0}) StoreRefusal). IfErr x (λ y. IfSome told (λ t. RefusesLog (told_files t) y))) (sym e)
    (told_free told (λ files. RefusesLog files refusal) all)

pub log_none : (r : Result (Unit {0}) StoreRefusal) (told : Option Told) → r ≡ Ok tt
    → IfErr r (λ refusal. IfSome told (λ t. RefusesLog (told_files t) refusal))
log_none r told e = subst (λ (x : Result (Unit {0}) StoreRefusal). IfErr x (λ refusal. IfSome told (λ t. RefusesLog (told_files t) refusal))) (sym e) tt

-- ---- the begin

begun_sound : (after : Option ℕ) (b c : Option Told) → Between b c (BeginKeeps after) → Between b c BeginBrings → Between b c KeepsPlain
    → Between b c (BeginsSound after)
begun_sound after b c keeps brings plain =
    between_map b c (λ h g. BeginKeeps after h g × (BeginBrings h g × KeepsPlain h g)) (BeginsSound after)
    (λ h g all. begin_sound after h g all.0 all.1.0 all.1.1)
    (between_both b c (BeginKeeps after) (λ h g. BeginBrings h g × KeepsPlain h g) keeps (between_both b c BeginBrings KeepsPlain brings plain))

pub begun_ok : (after : Option ℕ) (counter : Counter) (session : Session) (a b c : Option Told) (n m k : ℕ) → KeepsTold nonce_failed a b (Ok counter)
    → HasCause nonce_failed n m (Ok counter) → IfSome a (λ t. IsNonce (file_at (told_files t) NonceFile) counter.free)
    → IfSome a (λ t. (plain_in t.history NonceFile).perhaps ≡ None → CounterFits counter t.history)
    → Between b c (BeginKeeps after) → Between b c BeginBrings → Between b c KeepsPlain → Between b c (SessionBegins after session)
    → Between b c (BeginsRows session) → ClearsAbove after b c (Ok session) → HasCause write_failed m k (Ok session)
    → EndsAtFault write_failed b c (Ok session) → EndsAtCommit session
    → Did (BeginsSound after) (λ (x : Counter × Session). Begins after x.0 x.1) a c n k (Ok (counter, session))
begun_ok after counter session a b c n m k same opened number fits keeps brings plain begins rows acts caused ends at_commit =
    let here = same_told nonce_failed a b (Ok counter) same in
    let first = keeps_end nonce_failed a b (Ok counter) same in
    let Q : History → History → Type 0 = λ h g. AllDone h g × (SessionBegins after session h g
    × (BeginsRows session h g × (BeginBrings h g × KeepsPlain h g))) in
    let all : Between b c Q =
    between_both b c AllDone (λ h g. SessionBegins after session h g × (BeginsRows session h g × (BeginBrings h g × KeepsPlain h g)))
    (between_map b c (ClearsAll after) AllDone (λ h g d. (clear_steps (behind after) (files_now h), d)) acts)
    (between_both b c (SessionBegins after session) (λ h g. BeginsRows session h g × (BeginBrings h g × KeepsPlain h g)) begins
    (between_both b c (BeginsRows session) (λ h g. BeginBrings h g × KeepsPlain h g) rows (between_both b c BeginBrings KeepsPlain brings plain))) in
    record {
      each = after_same (BeginsSound after) a b c here (begun_sound after b c keeps brings plain);
      end = between_map a c _ (λ h g. AllDone h g × Begins after counter session h g)
          (λ h g x. (x.1.1.0, begin_stands after counter session h g x.0 x.1.0 x.1.1.1.0 x.1.1.1.1.0 x.1.1.1.1.1.0 x.1.1.1.1.1.1 at_commit))
          (known_then (λ h. IsNonce (file_at (files_now h) NonceFile) counter.free) _ a c number
          (known_then (λ h. (plain_in h NonceFile).perhaps ≡ None → CounterFits counter h) Q a c fits (after_same Q a b c here all)));
      ends = ends ∙ first;
      cause = caused ∙ opened;
    }

pub fail_where : (d e : Bool) (a b : Option Told) → d ≡ e → FailedWhere e a b → FailedWhere d a b
fail_where d e a b same f = subst (λ (x : Bool). FailedWhere x a b) (sym same) f

pub rose_where : (d e : Bool) (n m : ℕ) → d ≡ e → RoseWhere e n m → RoseWhere d n m
rose_where d e n m same r = subst (λ (x : Bool). RoseWhere x n m) (sym same) r

-- a session that doesn't begin
session_err : (after : Option ℕ) (fault : WriteFault) (b c : Option Told) (m k : ℕ) → Between b c (BeginKeeps after) → Between b c BeginBrings
    → Between b c KeepsPlain
    → RoseWhere (write_failed fault) m k → FailedWhere (write_failed fault) b c
    → Did {T = Counter × Session} (BeginsSound after) (λ x. Begins after x.0 x.1) b c m k (Err (write_refusal fault))
session_err after fault b c m k keeps brings plain caused ends = record {
  each = begun_sound after b c keeps brings plain;
  end = tt;
  ends = fail_where (depot_failed (write_refusal fault)) (write_failed fault) b c (write_is fault) ends;
  cause = rose_where (depot_failed (write_refusal fault)) (write_failed fault) m k (write_is fault) caused;
}

-- behind calls that only read
pub did_after : {U : Type 0} (E : History → History → Type 0) (Q : U → History → History → Type 0) (a b c : Option Told) (n m k : ℕ)
    (refusal : StoreRefusal) → Between a b (λ h g. g ≡ h) → failed_told b ≡ failed_told a → m ≡ n → Did E Q b c m k (Err refusal)
    → Did E Q a c n k (Err refusal)
did_after E Q a b c n m k refusal same ends caused p =
    did_then {T = Unit {0}} (λ h g. g ≡ h) (λ x h g. g ≡ h) E Q E Q a b c n m k tt (Err refusal)
    (λ h g i e d q f. subst (λ (x : History). E x i) e f) (λ y h g i q f. subst (λ (x : History). Q y x i) q f)
    (record {
      each = same;
      end = between_map a b (λ h g. g ≡ h) (λ h g. AllDone h g × (g ≡ h)) (λ h g e. (([], e), e)) same;
      ends = ends;
      cause = caused;
    }) p

pub begun_err : (after : Option ℕ) (counter : Counter) (fault : WriteFault) (a b c : Option Told) (n m k : ℕ) → KeepsTold nonce_failed a b (Ok counter)
    → HasCause nonce_failed n m (Ok counter) → Between b c (BeginKeeps after) → Between b c BeginBrings → Between b c KeepsPlain
    → RoseWhere (write_failed fault) m k → FailedWhere (write_failed fault) b c
    → Did {T = Counter × Session} (BeginsSound after) (λ x. Begins after x.0 x.1) a c n k (Err (write_refusal fault))
begun_err after counter fault a b c n m k same opened keeps brings plain caused ends =
    did_after {U = Counter × Session} (BeginsSound after) (λ x. Begins after x.0 x.1) a b c n m k (write_refusal fault)
    (same_told nonce_failed a b (Ok counter) same)
    (keeps_end nonce_failed a b (Ok counter) same) opened (session_err after fault b c m k keeps brings plain caused ends)

-- a call that reads and is refused
pub read_refused : {T F : Type 0} (is_device : F → Bool) (fault : F) (refusal : StoreRefusal) (E : History → History → Type 0)
    (Q : T → History → History → Type 0) (a b : Option Told) (n m : ℕ) → depot_failed refusal ≡ is_device fault → ((h : History) → E h h)
    → KeepsTold {T = T} is_device a b (Err fault) → RoseWhere (is_device fault) n m → Did {T = T} E Q a b n m (Err refusal)
read_refused {T} is_device fault refusal E Q a b n m is here same caused = record {
  each = between_map a b (λ h g. g ≡ h) E (λ h g e. subst (E h) (sym e) (here h)) (same_told {T = T} is_device a b (Err fault) same);
  end = tt;
  ends = fail_where (depot_failed refusal) (is_device fault) a b is (keeps_end {T = T} is_device a b (Err fault) same);
  cause = rose_where (depot_failed refusal) (is_device fault) n m is caused;
}

pub first_here : (h : History) → SettlesFirst h h
first_here h e = subst BeginBySettle (sym e) tt

pub read_first : {T F : Type 0} (is_device : F → Bool) (a b : Option Told) (result : Result T F) → KeepsTold is_device a b result
    → Between a b SettlesFirst
read_first is_device a b result same =
    between_map a b (λ h g. g ≡ h) SettlesFirst (λ h g e. subst (SettlesFirst h) (sym e) (first_here h)) (same_told is_device a b result same)

-- the clear of a session that begins leaves a Settle that is done
settled_clear : (after : Option ℕ) (h g : History) → ClearsAll after h g → settled g.acts ≡ true
settled_clear after h g e =
    subst (λ (x : History). settled x.acts ≡ true) (sym e) (steps_settled (with_act SettleAll true h)
    (map RemoveOf (numbers_from (behind after) (files_now h))) (settle_settled h))

-- a counter that was opened where something is committed has the number of its file
number_by : (files : Files) (free : ℕ) (file : Option (List ℕ)) → file_at files NonceFile ≡ file → IsNonce file free → (file ≡ None → ⊥) → HasNumber files
number_by files free (Some text) is nonce there = record { text = text; nonce = is; number = free; spelled = nonce }
number_by files free None is nonce there = absurd (there refl)

number_now : (committed : Bool) (counter : Counter) (files : Files) → IsNonce (file_at files NonceFile) counter.free
    → IsExactly (Ok counter) Nonces.Missing ((file_at files NonceFile ≡ None) × (committed ≡ true)) → committed ≡ true → HasNumber files
number_now committed counter files nonce missing e =
    number_by files counter.free (file_at files NonceFile) refl nonce (λ none. let found = (missing tt).1 (none, e) in let no : ⊥ = cc in no)

pub number_there : (committed : Bool) (counter : Counter) (told : Option Told)
    → IfSome told (λ t. IsNonce (file_at (told_files t) NonceFile) counter.free)
    → IfSome told (λ t. IsExactly (Ok counter) Nonces.Missing ((file_at (told_files t) NonceFile ≡ None) × (committed ≡ true)))
    → IfSome told (λ t. committed ≡ true → HasNumber (told_files t))
number_there committed counter None nonce missing = tt
number_there committed counter (Some t) nonce missing = λ e. number_now committed counter (told_files t) nonce missing e

-- where there is a number, whatever is done
pub numbered_leaves : (committed : Bool) (E F : History → History → Type 0) (a b d : Option Told)
    → IfSome a (λ t. committed ≡ true → HasNumber (told_files t)) → Between a b E → Between b d F → Between a d (BeginLeaves committed)
numbered_leaves committed E F a b d there p q =
    between_map a d (λ h g. (committed ≡ true → HasNumber (files_now h)) × Unit {0}) (BeginLeaves committed) (λ h g e on none. absurd (none (e.0 on)))
    (known_then (λ h. committed ≡ true → HasNumber (files_now h)) (λ h g. Unit {0}) a d there
    (between_then a b d E F (λ h g. Unit {0}) (λ h g i e f. tt) p q))

pub unread_leaves : (committed : Bool) (a b : Option Told) → Between a b (λ h g. g ≡ h) → Between a b (BeginLeaves committed)
unread_leaves committed a b same = between_map a b (λ h g. g ≡ h) (BeginLeaves committed) (λ h g e on none. e) same

pub begun_settled : (after : Option ℕ) (session : Session) (b c : Option Told) → ClearsAbove after b c (Ok session) → failed_told c ≡ failed_told b
    → IfSome c (λ t. settled t.history.acts ≡ true)
begun_settled after session b c acts ends = known_end (λ h. settled h.acts ≡ true) (ClearsAll after) b c ends (settled_clear after) acts

pub begins_here : (after : Option ℕ) (h : History) → BeginsSound after h h
begins_here after h counts committed begun = moments_here (IsSound (ShowsStanding (found committed (files_now h))) counts) h (record {
  shows = stands_begun committed h begun.no_acts (behind after, begun.shown);
  traced = traced_begun h begun.no_acts;
  numbers = numbers_begun h begun.no_acts;
  types = types_begun h h begun.no_acts refl (λ blob known. known);
  fresh = λ e. (begun.kept e).fresh;
})

-- ---- a file replaced

pub replace_ok : (step : Step) (a b : Option Told) (n m : ℕ) → Acts {T = Unit {0}} step a b (Ok tt) → HasCause {T = Unit {0}} store_failed n m (Ok tt)
    → Did {T = Unit {0}} (IsStep step) (λ _ h g. g ≡ with_act step true h) a b n m (Ok tt)
replace_ok step a b n m e c = record {
  each = acts_step {T = Unit {0}} step a b (Ok tt) e;
  end = between_map a b (λ h g. g ≡ with_act step true h) (λ h g. AllDone h g × (g ≡ with_act step true h)) (λ h g is. (step_done step h g is, is))
      (acts_done {T = Unit {0}} step a b tt e);
  ends = acts_end {T = Unit {0}} step a b (Ok tt) e;
  cause = c;
}

pub replace_err : (step : Step) (a b : Option Told) (n m : ℕ) (fault : StoreFault) → Acts {T = Unit {0}} step a b (Err fault)
    → RoseWhere (store_failed fault) n m → Did {T = Unit {0}} (IsStep step) (λ _ h g. g ≡ with_act step true h) a b n m (Err (store_refusal fault))
replace_err step a b n m fault e c = record {
  each = acts_step {T = Unit {0}} step a b (Err fault) e;
  end = tt;
  ends = fail_where (depot_failed (store_refusal fault)) (store_failed fault) a b (store_is fault) (acts_end {T = Unit {0}} step a b (Err fault) e);
  cause = rose_where (depot_failed (store_refusal fault)) (store_failed fault) n m (store_is fault) c;
}

-- ---- the settings

abbrev pub readme_step : Step
readme_step = ReplaceBy Readme readme_text

abbrev pub config_step : List ℕ → Step
config_step text = ReplaceBy ConfigFile text

readme_sound : (h g : History) → IsStep readme_step h g → SettingsSound h g
readme_sound h g e session counter counts written u = replace_moments counts session counter written readme_step h g tt tt u e

config_sound : (text : List ℕ) (h g : History) → IsStep (config_step text) h g → SettingsSound h g
config_sound text h g e session counter counts written u = replace_moments counts session counter written (config_step text) h g tt tt u e

readme_then : (counts : Bool) (session : Session) (counter : Counter) (written : Written) (h g : History) → g ≡ with_act readme_step true h
    → IsUnderWay counts session counter written h → IsUnderWay counts session counter (record written { readme = Some readme_text }) g
readme_then counts session counter written h g e u =
    subst (IsUnderWay counts session counter (record written { readme = Some readme_text })) (sym e)
    (readme_stands counts session counter written readme_text h u)

pub settings_here : (h : History) → SettingsSound h h
settings_here h session counter counts written u =
    moments_here (IsSound (λ image. Shows image written.committed) counts) h (sound_now counts session counter written h u)

pub settings_front : (config : Config) (a b : Option Told) (n m : ℕ) (refusal : StoreRefusal)
    → Did {T = Unit {0}} (IsStep readme_step) (λ _ h g. g ≡ with_act readme_step true h) a b n m (Err refusal)
    → Did {T = Unit {0}} SettingsSound (λ _. TakesSettings config) a b n m (Err refusal)
settings_front config a b n m refusal p =
    did_front (IsStep readme_step) (λ _ h g. g ≡ with_act readme_step true h) SettingsSound (λ _. TakesSettings config) a b n m refusal readme_sound p

pub settings_both : (config : Config) (text : List ℕ) (a b c : Option Told) (n m k : ℕ) (result : Result (Unit {0}) StoreRefusal) → text ≡ config_text config
    → Did {T = Unit {0}} (IsStep readme_step) (λ _ h g. g ≡ with_act readme_step true h) a b n m (Ok tt)
    → Did {T = Unit {0}} (IsStep (config_step text)) (λ _ h g. g ≡ with_act (config_step text) true h) b c m k result
    → Did {T = Unit {0}} SettingsSound (λ _. TakesSettings config) a c n k result
settings_both config text a b c n m k result is p q =
    did_then (IsStep readme_step) (λ _ h g. g ≡ with_act readme_step true h) (IsStep (config_step text)) (λ _ h g. g ≡ with_act (config_step text) true h)
    SettingsSound (λ _. TakesSettings config) a b c n m k tt result
    (λ h g i e d first f session counter counts written u.
    moments_then (IsSound (λ image. Shows image written.committed) counts) h g i (readme_sound h g e session counter counts written u) d
    (config_sound text g i f session counter counts (record written { readme = Some readme_text })
    (readme_then counts session counter written h g first u)))
    (λ y h g i first second session counter counts written u.
    subst (λ (t : List ℕ). IsUnderWay counts session counter (with_settings written t) i) is
    (subst (IsUnderWay counts session counter (with_settings written text)) (sym second)
    (config_stands counts session counter (record written { readme = Some readme_text }) text g (readme_then counts session counter written h g first u))))
    p q

-- ---- a session whose last segment is that of the commit, where it writes none

pub begin_ends : (session : Session) (after : Option ℕ) → session.last ≡ after → session.after ≡ after → EndsAtCommit session
begin_ends session after last is none = last ∙ sym is

pub commit_ends : (session now : Session) → now ≡ after_commit session → EndsAtCommit now
commit_ends session now is = begin_ends now (Some (behind session.last)) (ap (λ (s : Session). s.last) is) (ap (λ (s : Session). s.after) is)

pub entry_ends : (session now : Session) (more : ℕ) → now ≡ after_entry session more → EndsAtCommit now
entry_ends session now more is none =
    let both : None ≡ Some ((room_of session more).at + more) = sym none ∙ ap (λ (s : Session). s.size) is in absurd (let no : ⊥ = cc in no)

-- ---- an object

-- what a draw leaves, whether it replaces the file or not
abbrev pub Draws : Counter → ℕ → History → History → Type 0
Draws counter number h g = IsStep (reserves number) h g × KeepsAbove counter.free h g

abbrev pub HasNumbers : Counter → Counter → ℕ → History → History → Type 0
HasNumbers counter drawn number h g = ((g ≡ h) ⊎ (g ≡ with_act (reserves number) true h)) × (CounterFits counter h → CounterFits drawn g)

fit_or : (counter : Counter) (blocks : ℕ) → FitIn counter blocks ⊎ (FitIn counter blocks → ⊥)
fit_or counter blocks = by_bool (ltb counter.reserved (counter.free + blocks)) refl where
  by_bool : (b : Bool) → ltb counter.reserved (counter.free + blocks) ≡ b → FitIn counter blocks ⊎ (FitIn counter blocks → ⊥)
  by_bool false e = let within = ltb-false counter.reserved (counter.free + blocks) e in inl (omega (arith, within))
  by_bool true e = let above = ltb-true counter.reserved (counter.free + blocks) e in inr (λ f. let no : ⊥ = omega (arith, above, f) in no)

pub reserved_step : {T : Type 0} (number : ℕ) (a b : Option Told) (result : Result T NonceFault) → Reserves number a b result
    → Between a b (IsStep (reserves number))
reserved_step number a b (Ok x) e =
    between_map a b (λ h g. g ≡ with_act (reserves number) true h) (IsStep (reserves number)) (λ h g is. inr (true, is))
    (acted_step (reserves number) true a b e)
reserved_step number a b (Err Nonces.Device) e =
    between_map a b (λ h g. g ≡ with_act (reserves number) false h) (IsStep (reserves number)) (λ h g is. inr (false, is))
    (acted_step (reserves number) false a b e)
reserved_step number a b (Err Nonces.Memory) e = called_step (reserves number) a b e
reserved_step number a b (Err Nonces.Exhausted) e = same_step (reserves number) a b e
reserved_step number a b (Err Nonces.Missing) e = absurd e
reserved_step number a b (Err Nonces.Text) e = absurd e

-- in any case
pub draw_step : {T : Type 0} (counter : Counter) (blocks : ℕ) (a b : Option Told) (result : Result T NonceFault) → (FitIn counter blocks → b ≡ a)
    → ((FitIn counter blocks → ⊥) → Reserves (reserved_for counter blocks) a b result) → Between a b (IsStep (reserves (reserved_for counter blocks)))
draw_step counter blocks a b result kept replaced = by_fit (fit_or counter blocks) where
  by_fit : FitIn counter blocks ⊎ (FitIn counter blocks → ⊥) → Between a b (IsStep (reserves (reserved_for counter blocks)))
  by_fit (inl fit) = same_step (reserves (reserved_for counter blocks)) a b (kept fit)
  by_fit (inr off) = reserved_step (reserved_for counter blocks) a b result (replaced off)

same_either : (step : Step) (a b : Option Told) → b ≡ a → Between a b (λ h g. (g ≡ h) ⊎ (g ≡ with_act step true h))
same_either step None b e = tt
same_either step (Some told) b e = (told, e, inl refl)

draw_either : {T : Type 0} (counter : Counter) (blocks : ℕ) (a b : Option Told) (x : T) → (FitIn counter blocks → b ≡ a)
    → ((FitIn counter blocks → ⊥) → Reserves (reserved_for counter blocks) a b (Ok x))
    → Between a b (λ h g. (g ≡ h) ⊎ (g ≡ with_act (reserves (reserved_for counter blocks)) true h))
draw_either counter blocks a b x kept replaced = by_fit (fit_or counter blocks) where
  step : Step
  step = reserves (reserved_for counter blocks)

  by_fit : FitIn counter blocks ⊎ (FitIn counter blocks → ⊥) → Between a b (λ h g. (g ≡ h) ⊎ (g ≡ with_act step true h))
  by_fit (inl fit) = same_either step a b (kept fit)
  by_fit (inr off) =
      between_map a b (λ h g. g ≡ with_act step true h) (λ h g. (g ≡ h) ⊎ (g ≡ with_act step true h)) (λ h g e. inr e) (acted_step step true a b (replaced off))

either_done : (step : Step) (h g : History) → (g ≡ h) ⊎ (g ≡ with_act step true h) → AllDone h g
either_done step h g (inl e) = ([], e)
either_done step h g (inr e) = step_done step h g e

pub draw_ok : (counter drawn : Counter) (blocks first : ℕ) (a b : Option Told) (n m : ℕ) → (FitIn counter blocks → b ≡ a)
    → ((FitIn counter blocks → ⊥) → Reserves (reserved_for counter blocks) a b (Ok first)) → Between a b (KeepsAbove counter.free)
    → Between a b (λ h g. CounterFits counter h → CounterFits drawn g) → HasCause nonce_failed n m (Ok first) → EndsAtFault nonce_failed a b (Ok first)
    → Did {T = ℕ} (Draws counter (reserved_for counter blocks)) (λ _. HasNumbers counter drawn (reserved_for counter blocks)) a b n m (Ok first)
draw_ok counter drawn blocks first a b n m kept replaced above fits caused ends =
    let step = reserves (reserved_for counter blocks) in
    record {
      each = between_both a b (IsStep step) (KeepsAbove counter.free) (draw_step counter blocks a b (Ok first) kept replaced) above;
      end = between_map a b (λ h g. ((g ≡ h) ⊎ (g ≡ with_act step true h)) × (CounterFits counter h → CounterFits drawn g))
          (λ h g. AllDone h g × HasNumbers counter drawn (reserved_for counter blocks) h g) (λ h g x. (either_done step h g x.0, x))
          (between_both a b (λ h g. (g ≡ h) ⊎ (g ≡ with_act step true h)) (λ h g. CounterFits counter h → CounterFits drawn g)
          (draw_either counter blocks a b first kept replaced) fits);
      ends = ends;
      cause = caused;
    }

draw_keeps : (session : Session) (counter : Counter) (number : ℕ) (h g : History) → Draws counter number h g → KeepsSound session counter h g
draw_keeps session counter number h g d counts written u = draw_sound counts session counter written number h g u d.0 d.1

pub draw_err : {T : Type 0} (session : Session) (counter : Counter) (Q : T → History → History → Type 0) (blocks : ℕ) (fault : NonceFault) (a b : Option Told)
    (n m : ℕ) → (FitIn counter blocks → b ≡ a) → ((FitIn counter blocks → ⊥) → Reserves {T = ℕ} (reserved_for counter blocks) a b (Err fault))
    → Between a b (KeepsAbove counter.free) → RoseWhere (nonce_failed fault) n m → FailedWhere (nonce_failed fault) a b
    → Did {T = T} (KeepsSound session counter) Q a b n m (Err (nonce_refusal fault))
draw_err session counter Q blocks fault a b n m kept replaced above caused ends = record {
  each = between_map a b (Draws counter (reserved_for counter blocks)) (KeepsSound session counter) (draw_keeps session counter (reserved_for counter blocks))
      (between_both a b (IsStep (reserves (reserved_for counter blocks))) (KeepsAbove counter.free)
      (draw_step {T = ℕ} counter blocks a b (Err fault) kept replaced) above);
  end = tt;
  ends = fail_where (depot_failed (nonce_refusal fault)) (nonce_failed fault) a b (nonce_is fault) ends;
  cause = rose_where (depot_failed (nonce_refusal fault)) (nonce_failed fault) n m (nonce_is fault) caused;
}

-- what a put leaves
abbrev pub PutsAt : Session → LogEntry → History → History → Type 0
PutsAt session entry h g = Keeps session h g × (Brings session entry h g × KeepsPlain h g)

abbrev pub HasPut : Session → LogEntry → Session → History → History → Type 0
HasPut session entry now h g = EndsAtCommit now × (Puts session now entry h g × (KeepsRows session now h g × (Brings session entry h g × KeepsPlain h g)))

puts_at : (session : Session) (entry : LogEntry) (a b : Option Told) → Between a b (Keeps session) → Between a b (Brings session entry)
    → Between a b KeepsPlain → Between a b (PutsAt session entry)
puts_at session entry a b keeps brings plain =
    between_both a b (Keeps session) (λ h g. Brings session entry h g × KeepsPlain h g) keeps
    (between_both a b (Brings session entry) KeepsPlain brings plain)

pub put_ok : {T : Type 0} (session now : Session) (entry : LogEntry) (x : T) (a b : Option Told) (n m : ℕ) → Between a b (Keeps session)
    → Between a b (Puts session now entry) → Between a b (Brings session entry) → Between a b (KeepsRows session now) → Between a b KeepsPlain
    → Between a b AllDone → m ≡ n → failed_told b ≡ failed_told a → EndsAtCommit now
    → Did {T = T} (PutsAt session entry) (λ _. HasPut session entry now) a b n m (Ok x)
put_ok session now entry x a b n m keeps puts brings rows plain done caused ends at_commit = record {
  each = puts_at session entry a b keeps brings plain;
  end = between_both a b AllDone (HasPut session entry now) done
      (between_map a b (λ h g. Puts session now entry h g × (KeepsRows session now h g × (Brings session entry h g × KeepsPlain h g)))
      (HasPut session entry now) (λ h g e. (at_commit, e))
      (between_both a b (Puts session now entry) (λ h g. KeepsRows session now h g × (Brings session entry h g × KeepsPlain h g)) puts
      (between_both a b (KeepsRows session now) (λ h g. Brings session entry h g × KeepsPlain h g) rows
      (between_both a b (Brings session entry) KeepsPlain brings plain))));
  ends = ends;
  cause = caused;
}

pub put_err : {T : Type 0} (session : Session) (entry : LogEntry) (Q : T → History → History → Type 0) (fault : WriteFault) (a b : Option Told) (n m : ℕ)
    → Between a b (Keeps session) → Between a b (Brings session entry) → Between a b KeepsPlain → RoseWhere (write_failed fault) n m
    → FailedWhere (write_failed fault) a b → Did {T = T} (PutsAt session entry) Q a b n m (Err (write_refusal fault))
put_err session entry Q fault a b n m keeps brings plain caused ends = record {
  each = puts_at session entry a b keeps brings plain;
  end = tt;
  ends = fail_where (depot_failed (write_refusal fault)) (write_failed fault) a b (write_is fault) ends;
  cause = rose_where (depot_failed (write_refusal fault)) (write_failed fault) n m (write_is fault) caused;
}

-- a draw and a put
pub object_both : {T : Type 0} (session now : Session) (counter drawn : Counter) (mode : Mode) (entry : LogEntry) (number first : ℕ) (a b c : Option Told)
    (n m k : ℕ) (result : Result T StoreRefusal) → TakesBlocks entry counter.free drawn.free → counter.free ≤ drawn.free
    → IfSome a (λ t. FitsMode t.history mode) → ((h : History) → FitsMode h mode → IsTyped entry h)
    → Did {T = ℕ} (Draws counter number) (λ _. HasNumbers counter drawn number) a b n m (Ok first)
    → Did {T = T} (PutsAt session entry) (λ _. HasPut session entry now) b c m k result
    → Did {T = T} (KeepsSound session counter) (λ _. TakesEntry session counter entry now drawn) a c n k result
object_both session now counter drawn mode entry number first a b c n m k result blocks order known typed p q =
    did_then (Draws counter number) (λ _ h g. FitsMode h mode × HasNumbers counter drawn number h g) (PutsAt session entry) (λ _. HasPut session entry now)
    (KeepsSound session counter) (λ _. TakesEntry session counter entry now drawn) a b c n m k first result
    (λ h g i e d both f counts written u.
    let numbers = both.1 in
    moments_then (IsSound (ShowsStanding written) counts) h g i (draw_keeps session counter number h g e counts written u) d
    (put_sound counts session counter.free drawn written entry g i blocks (typed g (mode_drawn mode number h g numbers.0 both.0))
    (draw_stands counts session counter drawn written number h g u numbers.0 order numbers.1) f.0 f.1.0 f.1.1))
    (λ y h g i both f counts written u.
    let numbers = both.1 in
    put_stands counts session now counter.free drawn written entry g i blocks (typed g (mode_drawn mode number h g numbers.0 both.0))
    (draw_stands counts session counter drawn written number h g u numbers.0 order numbers.1) f.1.0 f.1.1.0 f.1.1.1.0 f.1.1.1.1 f.0)
    (did_known (λ h. FitsMode h mode) (Draws counter number) (λ _. HasNumbers counter drawn number) a b n m first known p) q

-- a DELETE takes no block
takes_none : (id : List ℕ) (first : ℕ) → TakesBlocks (DeleteEntry id) first first
takes_none id first = (λ blob number put. absurd (let e = put.1 in let no : ⊥ = cc in no), omega arith)

-- a counter that draws nothing
undrawn : (counts : Bool) (session : Session) (counter : Counter) (written : Written) (h : History) → IsUnderWay counts session counter written h
    → HasDrawn counts session counter.free counter written h
undrawn counts session counter written h u = draw_stands counts session counter counter written 0 h h u (inl refl) (omega arith) (λ fits. fits)

delete_keeps : (session : Session) (counter : Counter) (id : List ℕ) (h g : History) → PutsAt session (DeleteEntry id) h g → KeepsSound session counter h g
delete_keeps session counter id h g puts counts written u =
    put_sound counts session counter.free counter written (DeleteEntry id) h g (takes_none id counter.free) (deleted_typed id h)
    (undrawn counts session counter written h u) puts.0 puts.1.0 puts.1.1

pub delete_ok : (session now : Session) (counter : Counter) (id : List ℕ) (a b : Option Told) (n m : ℕ)
    → Did {T = Unit {0}} (PutsAt session (DeleteEntry id)) (λ _. HasPut session (DeleteEntry id) now) a b n m (Ok tt)
    → Did {T = Unit {0}} (KeepsSound session counter) (λ _. TakesEntry session counter (DeleteEntry id) now counter) a b n m (Ok tt)
delete_ok session now counter id a b n m p =
    did_as {T = Unit {0}} {U = Unit {0}} (PutsAt session (DeleteEntry id)) (λ _. HasPut session (DeleteEntry id) now) (KeepsSound session counter)
    (λ _. TakesEntry session counter (DeleteEntry id) now counter) a b n m tt tt (delete_keeps session counter id)
    (λ h g f counts written u.
    put_stands counts session now counter.free counter written (DeleteEntry id) h g (takes_none id counter.free) (deleted_typed id h)
    (undrawn counts session counter written h u) f.1.0 f.1.1.0 f.1.1.1.0 f.1.1.1.1 f.0)
    p

pub delete_err : (session : Session) (counter : Counter) (id : List ℕ) (Q R : Unit {0} → History → History → Type 0) (fault : StoreRefusal)
    (a b : Option Told) (n m : ℕ) → Did {T = Unit {0}} (PutsAt session (DeleteEntry id)) Q a b n m (Err fault)
    → Did {T = Unit {0}} (KeepsSound session counter) R a b n m (Err fault)
delete_err session counter id Q R fault a b n m p =
    did_front {T = Unit {0}} {U = Unit {0}} (PutsAt session (DeleteEntry id)) Q (KeepsSound session counter) R a b n m fault
    (delete_keeps session counter id) p

-- the file of the counter replaced, or not, leaves the segments
segments_drawn : (number : ℕ) (h g : History) → (g ≡ h) ⊎ (g ≡ with_act (reserves number) true h) → (files_now g).segments ≡ (files_now h).segments
segments_drawn number h g (inl e) = ap (λ (k : History). (files_now k).segments) e
segments_drawn number h g (inr e) =
    ap (λ (k : History). (files_now k).segments) e
    ∙ ap (λ (f : Files). f.segments) (applied-push h.start h.acts (record { step = reserves number; done = true }))

stays_drawn : (after : Option ℕ) (h g i : History) → (files_now g).segments ≡ (files_now h).segments → Stays after g i → Stays after h i
stays_drawn after h g i same stays = record {
  below = λ n less. stays.below n less ∙ ap (λ m. get m n) same;
  longer = λ n. let rest = stays.longer n in
      (rest.0, rest.1 ∙ ap (λ m. unwrap_or (get m n) [] ++ rest.0) same);
}

-- Each segment has what it had, and perhaps more behind it, where a session and a counter fitted before.
abbrev pub OnlyGrows : Session → Counter → History → History → Type 0
OnlyGrows session counter h g = (counts : Bool) (written : Written) → IsUnderWay counts session counter written h → Stays session.after h g

pub object_placed : (session : Session) (counter drawn : Counter) (number : ℕ) (blob : List ℕ) (place : Place) (first : ℕ) (a b c : Option Told) (n m : ℕ)
    → counter.free ≤ drawn.free → Did {T = ℕ} (Draws counter number) (λ _. HasNumbers counter drawn number) a b n m (Ok first)
    → Between b c (Lies session place blob) → Between b c (OnlyAppends session) → Between a c (IsPlaced session counter blob place)
object_placed session counter drawn number blob place first a b c n m order p lies stays =
    between_then a b c (λ h g. AllDone h g × HasNumbers counter drawn number h g) (λ h g. Lies session place blob h g × OnlyAppends session h g)
    (IsPlaced session counter blob place)
    (λ h g i e f counts written u.
    let drew = draw_stands counts session counter drawn written number h g u e.1.0 order e.1.1 in
    record {
      lies = f.0 written.committed written.pending drew.fits;
      stays = stays_drawn session.after h g i (segments_drawn number h g e.1.0) (f.1 written.committed written.pending drew.fits);
    })
    p.end (between_both b c (Lies session place blob) (OnlyAppends session) lies stays)

-- segments of which one is written have what they had, whether the draw replaced the file or not
pub object_grows : (session : Session) (counter drawn : Counter) (number first : ℕ) (a b c : Option Told) (n m : ℕ) → counter.free ≤ drawn.free
    → Did {T = ℕ} (Draws counter number) (λ _. HasNumbers counter drawn number) a b n m (Ok first) → Between b c (OnlyAppends session)
    → Between a c (OnlyGrows session counter)
object_grows session counter drawn number first a b c n m order p stays =
    between_then a b c (λ h g. AllDone h g × HasNumbers counter drawn number h g) (OnlyAppends session) (OnlyGrows session counter)
    (λ h g i e f counts written u.
    stays_drawn session.after h g i (segments_drawn number h g e.1.0)
    (f written.committed written.pending (draw_stands counts session counter drawn written number h g u e.1.0 order e.1.1).fits))
    p.end stays

-- the blocks of a sealed content
pub sealed_blocks : (keys : Keys) (mode : Mode) (first : ℕ) (id content : List ℕ) (behind : ℕ) → first < 2 ^ 64 → behind ≡ first + blocks (length content)
    → TakesBlocks (PutEntry id (sealed keys mode first content)) first behind
sealed_blocks keys mode first id content behind fits is = (
  λ blob number put block.
      let same : blob ≡ sealed keys mode first content = put_same id (sealed keys mode first content) blob put in
      let range = (block_of_sealed keys mode first number content fits).0 (subst (λ (x : List ℕ). IsBlockOf x number) same block) in
      (range.0, omega (arith, range.1, is)),
  (let size : length (sealed keys mode first content) - 43 ≡ length content = omega (arith, length-sealed keys mode first content) in
      ap (λ (n : ℕ). first + blocks n) size ∙ sym is),
)

pub object_blocks : (keys : Keys) (mode : Mode) (counter now : Counter) (n first : ℕ) (id buffer blob : List ℕ) → first ≡ counter.free → first < 2 ^ 64
    → blob ≡ sealed keys mode first (drop 43 buffer) → n ≡ blocks (length buffer - 43) → now ≡ drawn counter n
    → TakesBlocks (PutEntry id blob) counter.free now.free × (counter.free ≤ now.free)
object_blocks keys mode counter now n first id buffer blob e fits is count draws =
    let free : now.free ≡ counter.free + n = ap (λ (k : Counter). k.free) draws in
    let size : blocks (length (drop 43 buffer)) ≡ n = ap blocks (length-drop 43 buffer) ∙ sym count in
    let behind : now.free ≡ first + blocks (length (drop 43 buffer)) = free ∙ (ap (λ (k : ℕ). k + n) (sym e) ∙ ap (λ (k : ℕ). first + k) (sym size)) in (
      subst (λ (f : ℕ). TakesBlocks (PutEntry id blob) f now.free) e
          (subst (λ (x : List ℕ). TakesBlocks (PutEntry id x) first now.free) (sym is)
          (sealed_blocks keys mode first id (drop 43 buffer) now.free fits behind)),
      omega (arith, free),
    )

-- ---- a commit

pub committed_ok : {T : Type 0} (session now : Session) (counter : Counter) (x : T) (a b : Option Told) (n m : ℕ) → Between a b (KeepsOrCommits session)
    → Between a b (Commits session now) → Between a b (BringsNone session) → Between a b (KeepsRows session now) → Between a b KeepsPlain
    → Between a b AllDone → m ≡ n → failed_told b ≡ failed_told a → EndsAtCommit now
    → Did {T = T} (CommitsSound session counter) (λ _. TakesCommit session counter now) a b n m (Ok x)
committed_ok session now counter x a b n m keeps commits brings rows plain done caused ends at_commit = record {
  each = between_map a b (λ h g. KeepsOrCommits session h g × (BringsNone session h g × KeepsPlain h g)) (CommitsSound session counter)
      (λ h g all counts written u. commit_sound counts session counter written h g u all.0 all.1.0 all.1.1)
      (between_both a b (KeepsOrCommits session) (λ h g. BringsNone session h g × KeepsPlain h g) keeps
      (between_both a b (BringsNone session) KeepsPlain brings plain));
  end = between_both a b AllDone (TakesCommit session counter now) done
      (between_map a b (λ h g. Commits session now h g × (KeepsRows session now h g × (BringsNone session h g × KeepsPlain h g)))
      (TakesCommit session counter now)
      (λ h g all counts written u. commit_stands counts session now counter written h g u all.0 all.1.0 all.1.1.0 all.1.1.1 at_commit)
      (between_both a b (Commits session now) (λ h g. KeepsRows session now h g × (BringsNone session h g × KeepsPlain h g)) commits
      (between_both a b (KeepsRows session now) (λ h g. BringsNone session h g × KeepsPlain h g) rows
      (between_both a b (BringsNone session) KeepsPlain brings plain))));
  ends = ends;
  cause = caused;
}

pub committed_err : {T : Type 0} (session : Session) (counter : Counter) (Q : T → History → History → Type 0) (fault : WriteFault) (a b : Option Told)
    (n m : ℕ) → Between a b (KeepsOrCommits session) → Between a b (BringsNone session) → Between a b KeepsPlain → RoseWhere (write_failed fault) n m
    → FailedWhere (write_failed fault) a b → Did {T = T} (CommitsSound session counter) Q a b n m (Err (write_refusal fault))
committed_err session counter Q fault a b n m keeps brings plain caused ends = record {
  each = between_map a b (λ h g. KeepsOrCommits session h g × (BringsNone session h g × KeepsPlain h g)) (CommitsSound session counter)
      (λ h g all counts written u. commit_sound counts session counter written h g u all.0 all.1.0 all.1.1)
      (between_both a b (KeepsOrCommits session) (λ h g. BringsNone session h g × KeepsPlain h g) keeps
      (between_both a b (BringsNone session) KeepsPlain brings plain));
  end = tt;
  ends = fail_where (depot_failed (write_refusal fault)) (write_failed fault) a b (write_is fault) ends;
  cause = rose_where (depot_failed (write_refusal fault)) (write_failed fault) n m (write_is fault) caused;
}

-- ---- the first commit

-- where nothing is shown, that is what is shown
none_new_shown : (secret : Secret) (counts : Bool) (h g : History) → Moments (IsSound (λ image. Shows image None) counts) h g
    → Moments (IsSound (ShowsNew secret) counts) h g
none_new_shown secret counts h g m =
    moments_map (IsSound (λ image. Shows image None) counts) (IsSound (ShowsNew secret) counts) h g
    (λ k s. record { shows = λ image left. inl (s.shows image left); traced = s.traced; numbers = s.numbers; types = s.types; fresh = s.fresh }) m

settings_first : (secret : Secret) (session : Session) (counter : Counter) (h g : History) → SettingsSound h g → FirstSound secret session counter h g
settings_first secret session counter h g e counts config readme u =
    none_new_shown secret counts h g (e session counter counts (nothing_written config readme) u)

pub first_front : (secret : Secret) (session : Session) (counter : Counter) (config : Config) (Q : Unit {0} → History → History → Type 0) (a b : Option Told)
    (n m : ℕ) (refusal : StoreRefusal) → Did {T = Unit {0}} SettingsSound (λ _. TakesSettings config) a b n m (Err refusal)
    → Did {T = Unit {0}} (FirstSound secret session counter) Q a b n m (Err refusal)
first_front secret session counter config Q a b n m refusal p =
    did_front SettingsSound (λ _. TakesSettings config) (FirstSound secret session counter) Q a b n m refusal (settings_first secret session counter) p

-- the settings, and an entry put behind them
abbrev pub HasFirst : Config → Session → Counter → LogEntry → Session → Counter → History → History → Type 0
HasFirst settings session counter entry now drawn h g = (counts : Bool) (config readme : Option (List ℕ))
    → IsUnderWay counts session counter (nothing_written config readme) h
    → IsUnderWay counts now drawn
    (record { committed = None; pending = entry ∷ []; config = Some (config_text settings); readme = Some readme_text }) g

pub first_both : (secret : Secret) (settings : Config) (session now : Session) (counter drawn : Counter) (entry : LogEntry) (a b c : Option Told) (n m k : ℕ)
    (result : Result (Unit {0}) StoreRefusal) → Did {T = Unit {0}} SettingsSound (λ _. TakesSettings settings) a b n m (Ok tt)
    → Did {T = Unit {0}} (KeepsSound session counter) (λ _. TakesEntry session counter entry now drawn) b c m k result
    → Did {T = Unit {0}} (FirstSound secret session counter) (λ _. HasFirst settings session counter entry now drawn) a c n k result
first_both secret settings session now counter drawn entry a b c n m k result p q =
    did_then SettingsSound (λ _. TakesSettings settings) (KeepsSound session counter) (λ _. TakesEntry session counter entry now drawn)
    (FirstSound secret session counter) (λ _. HasFirst settings session counter entry now drawn) a b c n m k tt result
    (λ h g i e d takes f counts config readme u.
    none_new_shown secret counts h i (moments_then (IsSound (λ image. Shows image None) counts) h g i
    (e session counter counts (nothing_written config readme) u) d
    (standing_shown counts (with_settings (nothing_written config readme) (config_text settings)) g i
    (f counts (with_settings (nothing_written config readme) (config_text settings)) (takes session counter counts (nothing_written config readme) u)))))
    (λ y h g i takes f counts config readme u.
    f counts (with_settings (nothing_written config readme) (config_text settings)) (takes session counter counts (nothing_written config readme) u))
    p q

new_shown : (secret : Secret) (timestamp text blob : List ℕ) (image : Files) → IsOpenable secret timestamp text blob
    → (Shows image None × (image.config ≡ Some text)) ⊎ (Shows image (Some (new_entries blob)) × (image.config ≡ Some text)) → ShowsNew secret image
new_shown secret timestamp text blob image opens (inl none) = inl none.0
new_shown secret timestamp text blob image opens (inr new) = inr ((opens_new secret image timestamp text blob opens new.1 new.0).0, (_, new.0))

-- of a commit that ends, or is stopped, is shown nothing or the new repository
committed_shown : (secret : Secret) (timestamp text blob : List ℕ) (readme : Option (List ℕ)) (counts : Bool) (h g : History)
    → IsOpenable secret timestamp text blob
    → Moments (IsSound (ShowsEither (record { committed = None; pending = PutEntry zero_id blob ∷ []; config = Some text; readme = readme })) counts) h g
    → Moments (IsSound (ShowsNew secret) counts) h g
committed_shown secret timestamp text blob readme counts h g opens m =
    moments_map (IsSound (ShowsEither (record { committed = None; pending = PutEntry zero_id blob ∷ []; config = Some text; readme = readme })) counts)
    (IsSound (ShowsNew secret) counts) h g
    (λ k s. record {
      shows = λ image left. new_shown secret timestamp text blob image opens (s.shows image left);
      traced = s.traced;
      numbers = s.numbers;
      types = s.types;
      fresh = s.fresh;
    }) m

pub first_commit : (secret : Secret) (timestamp : List ℕ) (settings : Config) (blob : List ℕ) (session now done : Session) (counter drawn : Counter)
    (a b c : Option Told) (n m k : ℕ) (result : Result (Unit {0}) StoreRefusal) → IsOpenable secret timestamp (config_text settings) blob
    → Did {T = Unit {0}} (FirstSound secret session counter) (λ _. HasFirst settings session counter (PutEntry zero_id blob) now drawn) a b n m (Ok tt)
    → Did {T = Unit {0}} (CommitsSound now drawn) (λ _. TakesCommit now drawn done) b c m k result
    → Did {T = Unit {0}} (FirstSound secret session counter) (λ _. TakesFirst settings blob session counter done drawn) a c n k result
first_commit secret timestamp settings blob session now done counter drawn a b c n m k result opens p q =
    did_then (FirstSound secret session counter) (λ _. HasFirst settings session counter (PutEntry zero_id blob) now drawn)
    (CommitsSound now drawn) (λ _. TakesCommit now drawn done) (FirstSound secret session counter) (λ _. TakesFirst settings blob session counter done drawn)
    a b c n m k tt result
    (λ h g i e d has f counts config readme u.
    moments_then (IsSound (ShowsNew secret) counts) h g i (e counts config readme u) d
    (committed_shown secret timestamp (config_text settings) blob (Some readme_text) counts g i opens (f counts _ (has counts config readme u))))
    (λ y h g i has f counts config readme u. f counts _ (has counts config readme u))
    p q

-- ---- all of it

-- the begin of a run, whose first act is a Settle
abbrev pub BeginsFirst : History → History → Type 0
BeginsFirst h g = BeginsSound None h g × SettlesFirst h g

begins_new : (secret : Secret) (h g : History) → BeginsFirst h g → MakesSound secret h g
begins_new secret h g e counts begun =
    (none_new_shown secret counts h g (standing_shown counts (found None (files_now h)) h g (e.0 counts None begun)), e.1 begun.no_acts)

pub makes_front : {T : Type 0} (secret : Secret) (Q : T → History → History → Type 0) (a b : Option Told) (n m : ℕ) (refusal : StoreRefusal)
    → Did {T = Counter × Session} BeginsFirst (λ x. Begins None x.0 x.1) a b n m (Err refusal) → Did {T = T} (MakesSound secret) Q a b n m (Err refusal)
makes_front secret Q a b n m refusal p =
    did_front BeginsFirst (λ x. Begins None x.0 x.1) (MakesSound secret) Q a b n m refusal (begins_new secret) p

-- the begin alone, before another part is refused
pub makes_begun : {T : Type 0} (secret : Secret) (Q : T → History → History → Type 0) (begun : Counter × Session) (a b : Option Told) (n m : ℕ)
    (refusal : StoreRefusal) → depot_failed refusal ≡ false → Did {T = Counter × Session} BeginsFirst (λ x. Begins None x.0 x.1) a b n m (Ok begun)
    → Did {T = T} (MakesSound secret) Q a b n m (Err refusal)
makes_begun secret Q begun a b n m refusal still p = record {
  each = between_map a b BeginsFirst (MakesSound secret) (begins_new secret) p.each;
  end = tt;
  ends = fail_where (depot_failed refusal) false a b still p.ends;
  cause = rose_where (depot_failed refusal) false n m still p.cause;
}

makes_step : (secret : Secret) (counter : Counter) (session : Session) (h g i : History) → BeginsFirst h g → AllDone h g → Begins None counter session h g
    → FirstSound secret session counter g i → MakesSound secret h i
makes_step secret counter session h g i e d begins f counts begun =
    let u = begins counts None begun in
    let rest = f counts _ _ u in (
      moments_then (IsSound (ShowsNew secret) counts) h g i (begins_new secret h g e counts begun).0 d rest,
      first_kept (IsSound (ShowsNew secret) counts) g i u.fits.own.safe.settled_is (e.1 begun.no_acts) rest,
    )

both_made : (secret : Secret) (settings : Config) (blob : List ℕ) (counter : Counter) (session : Session) (counter_now : Counter)
    (session_now : Session) (a b c : Option Told) (n m k : ℕ) (r : Result (Unit {0}) StoreRefusal)
    → Did {T = Counter × Session} BeginsFirst (λ y. Begins None y.0 y.1) a b n m (Ok (counter, session))
    → Did {T = Unit {0}} (FirstSound secret session counter) (λ _. TakesFirst settings blob session counter session_now counter_now) b c m k r
    → Did {T = Unit {0}} (MakesSound secret) (λ _. Makes settings blob counter_now session_now) a c n k r
both_made secret settings blob counter session counter_now session_now a b c n m k r p q =
    did_then BeginsFirst (λ y. Begins None y.0 y.1) (FirstSound secret session counter)
    (λ _. TakesFirst settings blob session counter session_now counter_now) (MakesSound secret) (λ _. Makes settings blob counter_now session_now)
    a b c n m k (counter, session) r (makes_step secret counter session) (λ y h g i begins f counts begun. f counts _ _ (begins counts None begun)) p q

pub makes_both : {T : Type 0} (secret : Secret) (settings : Config) (blob : List ℕ) (counter : Counter) (session : Session) (counter_now : Counter)
    (session_now : Session) (x : T) (a b c : Option Told) (n m k : ℕ)
    → Did {T = Counter × Session} BeginsFirst (λ y. Begins None y.0 y.1) a b n m (Ok (counter, session))
    → Did {T = Unit {0}} (FirstSound secret session counter) (λ _. TakesFirst settings blob session counter session_now counter_now) b c m k (Ok tt)
    → Did {T = T} (MakesSound secret) (λ _. Makes settings blob counter_now session_now) a c n k (Ok x)
makes_both secret settings blob counter session counter_now session_now x a b c n m k p q =
    did_as (MakesSound secret) (λ _. Makes settings blob counter_now session_now) (MakesSound secret) (λ _. Makes settings blob counter_now session_now)
    a c n k tt x (λ h g e. e) (λ h g e. e)
    (both_made secret settings blob counter session counter_now session_now a b c n m k (Ok tt) p q)

pub makes_refused : {T : Type 0} (secret : Secret) (settings : Config) (blob : List ℕ) (counter : Counter) (session : Session) (counter_now : Counter)
    (session_now : Session) (Q : T → History → History → Type 0) (a b c : Option Told) (n m k : ℕ) (refusal : StoreRefusal)
    → Did {T = Counter × Session} BeginsFirst (λ y. Begins None y.0 y.1) a b n m (Ok (counter, session))
    → Did {T = Unit {0}} (FirstSound secret session counter) (λ _. TakesFirst settings blob session counter session_now counter_now) b c m k (Err refusal)
    → Did {T = T} (MakesSound secret) Q a c n k (Err refusal)
makes_refused secret settings blob counter session counter_now session_now Q a b c n m k refusal p q =
    did_front (MakesSound secret) (λ _. Makes settings blob counter_now session_now) (MakesSound secret) Q a c n k refusal (λ h g e. e)
    (both_made secret settings blob counter session counter_now session_now a b c n m k (Err refusal) p q)
