-- Lemmas on specs/Session.antt: a session that begins. All is made stable, and what isn't committed is removed.
use Rattle.std.proofs.Common.{◌≡◌, ◌⊎◌, inl, inr, ℕ, ◌<◌, ◌≤◌, Bool, true, false, ◌||◌, if◌then◌else◌, List, [], ◌∷◌, ◌++◌, is_some}
use Rattle.std.proofs.Common.{Option, Some, None, Result, Ok, Err, IfSome, unwrap_or, refl, sym, ◌∙◌, ap, subst, arith}
use Rattle.std.specs.FinMap.{get}
use Rattle.std.specs.List.{AllByRecursion}
use Rattle.std.proofs.lemmas.Bool.{cases_lt, lt-ltb, le-ltb}
use Rattle.std.proofs.lemmas.List.{append-nil}
use Rattle.ferry_disk.specs.Act.{Step, RemoveOf, SettleAll, History, files_now, with_act}
use Rattle.ferry_disk.specs.Device.{Told, told_files}
use Rattle.ferry_disk.specs.Files.{Files, segment_numbers}
use Rattle.ferry_disk.specs.Image.{Fate, at_rest, fate_removed, fate_in, MayLeave, settled}
use Rattle.ferry_disk.specs.Moments.{Between, with_steps, EachMoment}
use Rattle.ferry_disk.proofs.ImageLemmas.{settled-push, applied-push}
use Rattle.ferry_disk.proofs.ImageStepLemmas.{unsettled_settle_step}
use Rattle.ferry_segment.specs.Entry.{LogEntry}
use Rattle.ferry_stops.specs.Chance.{EachStop, FileByNoChance}
use Rattle.ferry_stops.specs.Entries.{HaveBelow, IsOpen, CommittedBelow, ShowsAt, Shows}
use Rattle.ferry_stops.specs.Ground.{IsHarmless, IsOwn}
use Rattle.ferry_stops.proofs.DraftLemmas.{rest_harmless}
use Rattle.ferry_stops.proofs.NumberLemmas.{there_all}
use Rattle.ferry_write.specs.Room.{behind}
use Rattle.ferry_write.specs.Script.{DoesAll, Ran, Clears, removals}
use Rattle.ferry_write.specs.Session.{LastIs, Stands}
use Rattle.ferry_write.specs.declared.fault.WriteFault.{WriteFault}
use Rattle.ferry_write.proofs.ScriptLemmas.{each_map, ran_then, ran_front}
use Rattle.ferry_write.proofs.StandLemmas.{either_number, fate_next, remove_here, remove_other, settled_next, read_is, own_changed, own_keeps}

-- ---- a Settle

or_true : (b : Bool) → (b || true) ≡ true
or_true true = refl
or_true false = refl

settle_files : (h : History) → files_now (with_act SettleAll true h) ≡ files_now h
settle_files h = applied-push h.start h.acts (record { step = SettleAll; done = true })

settle_rest : (h : History) (n : ℕ) → fate_in (with_act SettleAll true h) n ≡ at_rest (get (files_now h).segments n)
settle_rest h n = fate_next h SettleAll true n ∙ ap at_rest (read_is h n)

settle_own : (end : ℕ) (c : Option (List LogEntry)) (h : History) → ShowsAt (files_now h) end c → IsOwn end c (with_act SettleAll true h)
settle_own end c h shown = record {
  safe = record {
    settled_is = settled-push h.acts (record { step = SettleAll; done = true }) ∙ or_true (settled h.acts);
    below = λ n lt. settle_rest h n ∙ ap (λ (f : Files). at_rest (get f.segments n)) (sym (settle_files h));
    above = λ n le. subst IsHarmless (sym (settle_rest h n)) (rest_harmless (get (files_now h).segments n) (shown.open_above n le));
  };
  commits = subst (λ (f : Files). CommittedBelow f end c) (sym (settle_files h)) shown.below;
}

-- a Settle that isn't done leaves what was left before
settle_undone : (P : Files → Type 0) (h : History) → EachStop P h → EachStop P (with_act SettleAll false h)
settle_undone P h each image left =
    each image (record {
      image_is = (unsettled_settle_step h.start h.acts image).0 left.image_is;
      by_no_chance = λ n. subst (λ (f : Fate). FileByNoChance f (get image.segments n)) (fate_next h SettleAll false n) (left.by_no_chance n);
    })

-- ---- one removal

lost_open : (f : Fate) → IsHarmless f → (left : Option (List ℕ)) → MayLeave (fate_removed false f) left → FileByNoChance (fate_removed false f) left
    → IsOpen left
lost_open f harmless None may chance = tt
lost_open f harmless (Some bytes) may chance =
    harmless.stays_open (Some bytes)
    (record { tail = may.tail; stable_first = may.stable_first; all = may.all; made = may.made; within = may.within }) chance

removed_harmless : (f : Fate) (done : Bool) → IsHarmless f → IsHarmless (fate_removed done f)
removed_harmless f true harmless = rest_harmless None tt
removed_harmless f false harmless = record { stays_open = lost_open f harmless }

remove_own : (end : ℕ) (c : Option (List LogEntry)) (h : History) (k : ℕ) (done : Bool) → IsOwn end c h → end ≤ k
    → IsOwn end c (with_act (RemoveOf k) done h)
remove_own end c h k done own le =
    own_changed end c h (with_act (RemoveOf k) done h) k own le (settled_next h (RemoveOf k) done own.safe.settled_is) (remove_other h k done)
    (subst IsHarmless (sym (remove_here h k done)) (removed_harmless (fate_in h k) done (own.safe.above k le)))

-- ---- the removals of segments

pub kept_first : (end n : ℕ) (ns : List ℕ) → n < end → removals end (n ∷ ns) ≡ removals end ns
kept_first end n ns lt = ap (λ (b : Bool). if b then removals end ns else RemoveOf n ∷ removals end ns) (lt-ltb n end lt)

pub removed_first : (end n : ℕ) (ns : List ℕ) → end ≤ n → removals end (n ∷ ns) ≡ RemoveOf n ∷ removals end ns
removed_first end n ns le = ap (λ (b : Bool). if b then removals end ns else RemoveOf n ∷ removals end ns) (le-ltb n end le)

removals_own : (end : ℕ) (c : Option (List LogEntry)) (h : History) (ns : List ℕ) → IsOwn end c h → EachMoment (IsOwn end c) h (removals end ns)
removals_own end c h [] own = own
removals_own end c h (n ∷ ns) own = elim (cases_lt n end) [
  | inl lt ↦ subst (EachMoment (IsOwn end c) h) (sym (kept_first end n ns lt)) (removals_own end c h ns own)
  | inr le ↦
      subst (EachMoment (IsOwn end c) h) (sym (removed_first end n ns le))
      (own, remove_own end c h n false own le, removals_own end c (with_act (RemoveOf n) true h) ns (remove_own end c h n true own le))
]

pub each_last : (P : History → Type 0) (h : History) (steps : List Step) → EachMoment P h steps → P (with_steps steps h)
each_last P h [] e = e
each_last P h (x ∷ xs) e = each_last P (with_act x true h) xs e.2

-- what is kept by one removal is kept by all
pub kept_by_all : (Q : History → Type 0) (end : ℕ) → ((h : History) (n : ℕ) → end ≤ n → Q h → Q (with_act (RemoveOf n) true h)) → (ns : List ℕ) (h : History)
    → Q h → Q (with_steps (removals end ns) h)
kept_by_all Q end one [] h q = q
kept_by_all Q end one (n ∷ ns) h q = elim (cases_lt n end) [
  | inl lt ↦ subst (λ (s : List Step). Q (with_steps s h)) (sym (kept_first end n ns lt)) (kept_by_all Q end one ns h q)
  | inr le ↦
      subst (λ (s : List Step). Q (with_steps s h)) (sym (removed_first end n ns le))
      (kept_by_all Q end one ns (with_act (RemoveOf n) true h) (one h n le q))
]

none_by : (h : History) (n m : ℕ) → (m ≡ n) ⊎ (m ≡ n → ⊥) → fate_in h m ≡ at_rest None → fate_in (with_act (RemoveOf n) true h) m ≡ at_rest None
none_by h n m (inl e) none = subst (λ (k : ℕ). fate_in (with_act (RemoveOf n) true h) k ≡ at_rest None) (sym e) (remove_here h n true)
none_by h n m (inr off) none = remove_other h n true m off ∙ none

none_stays : (end : ℕ) (ns : List ℕ) (h : History) (m : ℕ) → fate_in h m ≡ at_rest None → fate_in (with_steps (removals end ns) h) m ≡ at_rest None
none_stays end ns h m none =
    kept_by_all (λ g. fate_in g m ≡ at_rest None) end (λ g n le q. none_by g n m (either_number m n) q) ns h none

-- each of them that is above is gone
all_gone : (end : ℕ) (ns : List ℕ) (h : History) → AllByRecursion (λ n. end ≤ n → fate_in (with_steps (removals end ns) h) n ≡ at_rest None) ns
all_gone end [] h = tt
all_gone end (n ∷ ns) h = elim (cases_lt n end) [
  | inl lt ↦
      subst (λ (s : List Step). AllByRecursion (λ (m : ℕ). end ≤ m → fate_in (with_steps s h) m ≡ at_rest None) (n ∷ ns)) (sym (kept_first end n ns lt))
      ((λ le. absurd (omega (arith, lt, le))), all_gone end ns h)
  | inr ge ↦
      subst (λ (s : List Step). AllByRecursion (λ (m : ℕ). end ≤ m → fate_in (with_steps s h) m ≡ at_rest None) (n ∷ ns)) (sym (removed_first end n ns ge))
      ((λ le. none_stays end ns (with_act (RemoveOf n) true h) n (remove_here h n true)), all_gone end ns (with_act (RemoveOf n) true h))
]

-- ---- a session that begins

none_above : (end : ℕ) (h : History) (m : ℕ) (file : Option (List ℕ)) → get (files_now h).segments m ≡ file → end ≤ m
    → fate_in (with_steps (removals end (segment_numbers (files_now h))) (with_act SettleAll true h)) m ≡ at_rest None
none_above end h m None e le =
    none_stays end (segment_numbers (files_now h)) (with_act SettleAll true h) m (settle_rest h m ∙ ap at_rest e)
none_above end h m (Some bytes) e le =
    there_all (λ n. end ≤ n → fate_in (with_steps (removals end (segment_numbers (files_now h))) (with_act SettleAll true h)) n ≡ at_rest None)
    (files_now h).segments m (all_gone end (segment_numbers (files_now h)) (with_act SettleAll true h)) (ap is_some e) le

committed_entries : (files : Files) (end : ℕ) (c : Option (List LogEntry)) → CommittedBelow files end c → HaveBelow files end (unwrap_or c [] ++ [])
unfolding HaveBelow
committed_entries files end None e = subst (λ (n : ℕ). HaveBelow files n []) (sym e) refl
committed_entries files end (Some es) e = subst (HaveBelow files end) (sym (append-nil es)) e.entries_are

last_rests : (after : Option ℕ) (c : Option (List LogEntry)) (h : History) → IsOwn (behind after) c h → LastIs h (behind after) after None
last_rests None c h own = refl
last_rests (Some n) c h own = own.safe.below n (omega arith)

pub begins_stands : (after : Option ℕ) (c : Option (List LogEntry)) (h : History) → ShowsAt (files_now h) (behind after) c
    → Stands after after None c [] (with_steps (removals (behind after) (segment_numbers (files_now h))) (with_act SettleAll true h))
begins_stands after c h shown =
    let end = behind after in
    let ns = segment_numbers (files_now h) in
    let g = with_act SettleAll true h in
    let own : IsOwn end c (with_steps (removals end ns) g) =
    each_last (IsOwn end c) g (removals end ns) (removals_own end c g ns (settle_own end c h shown)) in
    record {
      own = own;
      order = omega arith;
      none = λ m le. none_above end h m (get (files_now h).segments m) refl le;
      at_rest_below = λ m lt. own.safe.below m (omega (arith, lt));
      last_is = last_rests after c (with_steps (removals end ns) g) own;
      entries = committed_entries (files_now (with_steps (removals end ns) g)) end c own.commits;
    }

pub begins_each : (after : Option ℕ) (c : Option (List LogEntry)) (h : History) (ns : List ℕ) → ShowsAt (files_now h) (behind after) c
    → EachStop (λ image. Shows image c) h → EachMoment (EachStop (λ image. Shows image c)) h ((SettleAll ∷ []) ++ removals (behind after) ns)
begins_each after c h ns shown each =
    let end = behind after in
    let P = EachStop (λ image. Shows image c) in
    let g = with_act SettleAll true h in (
      each,
      settle_undone (λ image. Shows image c) h each,
      each_map (IsOwn end c) P (λ k own. own_keeps end c k own) g (removals end ns) (removals_own end c g ns (settle_own end c h shown)),
    )

-- ---- what was listed behind the Settle was there before

pub settled_listed : (a b : Option Told) (ns : List ℕ) → Between a b (DoesAll (SettleAll ∷ [])) → IfSome b (λ t. ns ≡ segment_numbers (told_files t))
    → IfSome a (λ t. ns ≡ segment_numbers (told_files t))
settled_listed None b ns d l = tt
settled_listed (Some t) None ns d l = absurd (let e = d.1 in let no : ⊥ = cc in no)
settled_listed (Some t) (Some u) ns d l =
    let same : u ≡ d.0 = (let e = d.1 in cc) in
    l ∙ ap segment_numbers (ap files_now (ap (λ (x : Told). x.history) same ∙ d.2) ∙ settle_files t.history)

pub clears_ok : (end : ℕ) (a b c d : Option Told) (n m k j : ℕ) (numbers : List ℕ) (result : Result (Unit {0}) WriteFault)
    → Ran {T = Unit {0}} (SettleAll ∷ []) a b n m (Ok tt) → Ran {T = Unit {0}} [] b c m k (Ok tt)
    → IfSome b (λ t. numbers ≡ segment_numbers (told_files t)) → Ran (removals end numbers) c d k j result → Clears end a d n j result
clears_ok end a b c d n m k j numbers result p q listed r = record {
  numbers = numbers;
  ran = ran_then (SettleAll ∷ []) (removals end numbers) a c d n k j tt result (ran_then (SettleAll ∷ []) [] a b c n m k tt (Ok tt) p q) r;
  listed = settled_listed a b numbers p.runs listed;
}

-- the numbers of the segments that a device tells
numbers_told : (a : Option Told) → (numbers : List ℕ) × IfSome a (λ t. numbers ≡ segment_numbers (told_files t))
numbers_told None = ([], tt)
numbers_told (Some t) = (segment_numbers (told_files t), refl)

pub clears_err : (end : ℕ) (a b c : Option Told) (n m k : ℕ) (fault : WriteFault) → Ran {T = Unit {0}} (SettleAll ∷ []) a b n m (Ok tt)
    → Ran {T = Unit {0}} [] b c m k (Err fault) → Clears {T = Unit {0}} end a c n k (Err fault)
clears_err end a b c n m k fault p q = record {
  numbers = (numbers_told a).0;
  ran = ran_then (SettleAll ∷ []) (removals end (numbers_told a).0) a b c n m k tt (Err fault) p
      (ran_front {T = Unit {0}} {U = Unit {0}} [] (removals end (numbers_told a).0) b c m k fault q);
  listed = (numbers_told a).1;
}

pub clears_none : (end : ℕ) (a b : Option Told) (n m : ℕ) (fault : WriteFault) → Ran {T = Unit {0}} (SettleAll ∷ []) a b n m (Err fault)
    → Clears {T = Unit {0}} end a b n m (Err fault)
clears_none end a b n m fault p = record {
  numbers = (numbers_told a).0;
  ran = ran_front {T = Unit {0}} {U = Unit {0}} (SettleAll ∷ []) (removals end (numbers_told a).0) a b n m fault p;
  listed = (numbers_told a).1;
}
