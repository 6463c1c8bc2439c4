-- Lemmas on specs/Session.antt: a session's calls leave the files alone that are no segments.
use Rattle.std.proofs.Common.{◌≡◌, ℕ, inl, inr, Bool, true, false, List, [], ◌∷◌, ◌++◌, length, Option, Some, None, Result, refl, sym, ◌∙◌, ap, subst, ◌+◌}
use Rattle.std.specs.List.{AllByRecursion}
use Rattle.std.proofs.lemmas.Bool.{cases_lt}
use Rattle.ferry_disk.specs.Act.{Step, AppendTo, SyncOf, RemoveOf, ReplaceBy, SettleAll, TellOf, History, with_act}
use Rattle.ferry_disk.specs.Device.{Told}
use Rattle.ferry_disk.specs.Files.{file_at}
use Rattle.ferry_disk.specs.Image.{plain_stepped, plain_in}
use Rattle.ferry_disk.specs.Moments.{Between, EachMoment}
use Rattle.ferry_disk.specs.declared.name.Name.{Name}
use Rattle.ferry_disk.proofs.ImageLemmas.{plain_of-push}
use Rattle.ferry_disk.proofs.MomentLemmas.{between_map}
use Rattle.ferry_write.specs.Room.{must_begin, sync_steps, room_steps, put_steps, delete_steps, commit_steps}
use Rattle.ferry_write.specs.Script.{StopsIn, Ran, Clears, removals}
use Rattle.ferry_write.specs.Session.{rests_at, KeepsPlain}
use Rattle.ferry_write.specs.declared.fault.WriteFault.{WriteFault}
use Rattle.ferry_write.specs.declared.session.Session.{Session}
use Rattle.ferry_write.proofs.ScriptLemmas.{stop_moments, ran_stops}
use Rattle.ferry_write.proofs.StandLemmas.{all-append}
use Rattle.ferry_write.proofs.BeginLemmas.{kept_first, removed_first}

-- A step replaces no file and tells no line.
abbrev pub LeavesFiles : Step → Type 0
LeavesFiles (ReplaceBy name bytes) = ⊥
LeavesFiles (TellOf line) = ⊥
LeavesFiles step = Unit {0}

-- ---- one step

rests_after : (name : Name) (file : Option (List ℕ)) (step : Step) (done : Bool) → LeavesFiles step
    → plain_stepped name step done (rests_at file) ≡ rests_at file
rests_after name file (AppendTo n bytes) done leaves = refl
rests_after name file (SyncOf n) done leaves = refl
rests_after name file (RemoveOf n) done leaves = refl
rests_after name file (ReplaceBy other bytes) done leaves = absurd leaves
rests_after name file SettleAll true leaves = refl
rests_after name file SettleAll false leaves = refl
rests_after name file (TellOf line) done leaves = absurd leaves

pub plain_next : (h : History) (step : Step) (done : Bool) (name : Name) → plain_in (with_act step done h) name ≡ plain_stepped name step done (plain_in h name)
plain_next h step done name = plain_of-push (file_at h.start name) h.acts (record { step = step; done = done }) name

rests_next : (h : History) (name : Name) (file : Option (List ℕ)) (step : Step) (done : Bool) → LeavesFiles step → plain_in h name ≡ rests_at file
    → plain_in (with_act step done h) name ≡ rests_at file
rests_next h name file step done leaves e =
    plain_next h step done name ∙ (ap (plain_stepped name step done) e ∙ rests_after name file step done leaves)

each_rests : (name : Name) (file : Option (List ℕ)) (h : History) (steps : List Step) → AllByRecursion LeavesFiles steps → plain_in h name ≡ rests_at file
    → EachMoment (λ g. plain_in g name ≡ rests_at file) h steps
each_rests name file h [] all e = e
each_rests name file h (x ∷ xs) all e = (
  e,
  rests_next h name file x false all.0 e,
  each_rests name file (with_act x true h) xs all.1 (rests_next h name file x true all.0 e),
)

keeps_plain : {T : Type 0} (steps : List Step) (a b : Option Told) (n m : ℕ) (result : Result T WriteFault) → AllByRecursion LeavesFiles steps
    → Ran steps a b n m result → Between a b KeepsPlain
keeps_plain steps a b n m result all ran =
    between_map a b (StopsIn steps) KeepsPlain
    (λ before now stop name file e. stop_moments (λ h. plain_in h name ≡ rests_at file) steps before now (each_rests name file before steps all e) stop)
    (ran_stops steps a b n m result ran)

-- ---- the steps of the calls

sync_leaves : (last size : Option ℕ) → AllByRecursion LeavesFiles (sync_steps last size)
sync_leaves None size = tt
sync_leaves (Some n) None = tt
sync_leaves (Some n) (Some s) = (tt, tt)

room_leaves : (last size : Option ℕ) (b : Bool) → AllByRecursion LeavesFiles (room_steps last size b)
room_leaves last size true = all-append LeavesFiles (sync_steps last size) _ (sync_leaves last size) (tt, tt)
room_leaves last size false = tt

removals_leave : (end : ℕ) (ns : List ℕ) → AllByRecursion LeavesFiles (removals end ns)
removals_leave end [] = tt
removals_leave end (n ∷ ns) = elim (cases_lt n end) [
  | inl lt ↦ subst (AllByRecursion LeavesFiles) (sym (kept_first end n ns lt)) (removals_leave end ns)
  | inr le ↦ subst (AllByRecursion LeavesFiles) (sym (removed_first end n ns le)) (tt, removals_leave end ns)
]

pub begin_leaves : (end : ℕ) (ns : List ℕ) → AllByRecursion LeavesFiles ((SettleAll ∷ []) ++ removals end ns)
begin_leaves end ns = (tt, removals_leave end ns)

pub put_leaves : (s : Session) (head blob : List ℕ) → AllByRecursion LeavesFiles (put_steps s head blob)
put_leaves s head blob =
    all-append LeavesFiles (room_steps s.last s.size (must_begin s.last s.size s.limit (length head + length blob))) _
    (room_leaves s.last s.size (must_begin s.last s.size s.limit (length head + length blob))) (tt, (tt, tt))

pub delete_leaves : (s : Session) (entry : List ℕ) → AllByRecursion LeavesFiles (delete_steps s entry)
delete_leaves s entry =
    all-append LeavesFiles (room_steps s.last s.size (must_begin s.last s.size s.limit (length entry))) _
    (room_leaves s.last s.size (must_begin s.last s.size s.limit (length entry))) (tt, tt)

pub commit_leaves : (s : Session) → AllByRecursion LeavesFiles (commit_steps s.last s.size)
commit_leaves s = all-append LeavesFiles (sync_steps s.last s.size) _ (sync_leaves s.last s.size) (tt, (tt, tt))

-- ---- the calls

pub begin_plain : {T : Type 0} (end : ℕ) (a b : Option Told) (n m : ℕ) (result : Result T WriteFault) → Clears end a b n m result → Between a b KeepsPlain
begin_plain end a b n m result clears =
    keeps_plain ((SettleAll ∷ []) ++ removals end clears.numbers) a b n m result (begin_leaves end clears.numbers) clears.ran

pub put_plain : {T : Type 0} (s : Session) (head blob : List ℕ) (a b : Option Told) (n m : ℕ) (result : Result T WriteFault)
    → Ran (put_steps s head blob) a b n m result → Between a b KeepsPlain
put_plain s head blob a b n m result ran =
    keeps_plain (put_steps s head blob) a b n m result (put_leaves s head blob) ran

pub delete_plain : {T : Type 0} (s : Session) (entry : List ℕ) (a b : Option Told) (n m : ℕ) (result : Result T WriteFault)
    → Ran (delete_steps s entry) a b n m result → Between a b KeepsPlain
delete_plain s entry a b n m result ran =
    keeps_plain (delete_steps s entry) a b n m result (delete_leaves s entry) ran

pub commit_plain : {T : Type 0} (s : Session) (a b : Option Told) (n m : ℕ) (result : Result T WriteFault) → Ran (commit_steps s.last s.size) a b n m result
    → Between a b KeepsPlain
commit_plain s a b n m result ran =
    keeps_plain (commit_steps s.last s.size) a b n m result (commit_leaves s) ran
