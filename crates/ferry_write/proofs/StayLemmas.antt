-- Lemmas on specs/Session.antt: `put`, `delete` and `commit` change no segment but by bytes behind it, and none up to the last commit.
use Rattle.std.proofs.Common.{◌≡◌, ◌⊎◌, inl, inr, ℕ, ◌+◌, ◌<◌, ◌≤◌, Bool, true, false, List, [], ◌∷◌, ◌++◌, length, Option, Some, None, unwrap_or}
use Rattle.std.proofs.Common.{Result, refl, sym, ◌∙◌, ap, subst, arith}
use Rattle.std.specs.FinMap.{get}
use Rattle.std.specs.List.{AllByRecursion}
use Rattle.std.proofs.lemmas.List.{append-nil, append_assoc}
use Rattle.ferry_disk.specs.Act.{Step, AppendTo, SyncOf, RemoveOf, ReplaceBy, SettleAll, TellOf, History, files_now, with_act}
use Rattle.ferry_disk.specs.Device.{Told}
use Rattle.ferry_disk.specs.Files.{segment_bytes}
use Rattle.ferry_disk.specs.Image.{Fate, fate_appended, fate_synced, fate_in}
use Rattle.ferry_disk.specs.Moments.{Between, with_steps}
use Rattle.ferry_disk.proofs.MomentLemmas.{between_map}
use Rattle.ferry_segment.specs.Entry.{LogEntry}
use Rattle.ferry_segment.specs.Segment.{magic}
use Rattle.ferry_write.specs.Room.{behind, is_full, must_begin, room_in, room_of, sync_steps, room_steps, put_steps, delete_steps, commit_steps}
use Rattle.ferry_write.specs.Script.{StopsIn, Ran}
use Rattle.ferry_write.specs.Session.{Stands, Stays, OnlyAppends}
use Rattle.ferry_write.specs.declared.fault.WriteFault.{WriteFault}
use Rattle.ferry_write.specs.declared.session.Session.{Session}
use Rattle.ferry_write.proofs.ScriptLemmas.{ran_stops}
use Rattle.ferry_write.proofs.StandLemmas.{either_number, all-append, append_here, append_other, sync_here, sync_other, read_is, files_same}

-- A step appends to a segment that isn't below an end, or syncs one.
abbrev pub AppendsFrom : ℕ → Step → Type 0
AppendsFrom end (AppendTo n bytes) = end ≤ n
AppendsFrom end (SyncOf n) = Unit {0}
AppendsFrom end step = ⊥

-- ---- one step

no_rest : (h g : History) (n : ℕ) → get (files_now g).segments n ≡ get (files_now h).segments n
    → (rest : List ℕ) × (segment_bytes (files_now g) n ≡ segment_bytes (files_now h) n ++ rest)
no_rest h g n e = ([], ap (λ (o : Option (List ℕ)). unwrap_or o []) e ∙ sym (append-nil (segment_bytes (files_now h) n)))

appended_read : (f : Fate) (x : List ℕ) (done : Bool) → (rest : List ℕ) × (unwrap_or (fate_appended x done f).read [] ≡ unwrap_or f.read [] ++ rest)
appended_read f x true = (x, refl)
appended_read f x false = ([], sym (append-nil (unwrap_or f.read [])))

appended_rest : (h : History) (k : ℕ) (x : List ℕ) (done : Bool) (n : ℕ) → (n ≡ k) ⊎ (n ≡ k → ⊥)
    → (rest : List ℕ) × (segment_bytes (files_now (with_act (AppendTo k x) done h)) n ≡ segment_bytes (files_now h) n ++ rest)
appended_rest h k x done n (inr off) =
    no_rest h (with_act (AppendTo k x) done h) n (files_same h (with_act (AppendTo k x) done h) n (append_other h k x done n off))
appended_rest h k x done n (inl e) =
    let g = with_act (AppendTo k x) done h in
    let grown = appended_read (fate_in h k) x done in
    let bytes : (m : History) → segment_bytes (files_now m) k ≡ unwrap_or (fate_in m k).read [] =
    (λ m. ap (λ (o : Option (List ℕ)). unwrap_or o []) (sym (read_is m k))) in
    subst (λ (j : ℕ). (rest : List ℕ) × (segment_bytes (files_now g) j ≡ segment_bytes (files_now h) j ++ rest)) (sym e) (
      grown.0,
      bytes g
          ∙ (ap (λ (f : Fate). unwrap_or f.read []) (append_here h k x done)
          ∙ (grown.1 ∙ ap (λ (l : List ℕ). l ++ grown.0) (sym (bytes h)))),
    )

synced_read : (f : Fate) (done : Bool) → (fate_synced done f).read ≡ f.read
synced_read f true = refl
synced_read f false = refl

synced_file : (h : History) (k : ℕ) (done : Bool) (n : ℕ) → (n ≡ k) ⊎ (n ≡ k → ⊥)
    → get (files_now (with_act (SyncOf k) done h)).segments n ≡ get (files_now h).segments n
synced_file h k done n (inr off) = files_same h (with_act (SyncOf k) done h) n (sync_other h k done n off)
synced_file h k done n (inl e) =
    subst (λ (j : ℕ). get (files_now (with_act (SyncOf k) done h)).segments j ≡ get (files_now h).segments j) (sym e)
    (sym (read_is (with_act (SyncOf k) done h) k)
    ∙ (ap (λ (f : Fate). f.read) (sync_here h k done) ∙ (synced_read (fate_in h k) done ∙ read_is h k)))

-- by the end alone, that a layer above knows as a session's
abbrev pub StaysFrom : ℕ → History → History → Type 0
StaysFrom end before now = ((n : ℕ) → n < end → get (files_now now).segments n ≡ get (files_now before).segments n)
    × ((n : ℕ) → (rest : List ℕ) × (segment_bytes (files_now now) n ≡ segment_bytes (files_now before) n ++ rest))

one_stays : (end : ℕ) (h : History) (step : Step) (done : Bool) → AppendsFrom end step → StaysFrom end h (with_act step done h)
one_stays end h (AppendTo k x) done from = (
  (λ n lt. files_same h (with_act (AppendTo k x) done h) n (append_other h k x done n (λ e. omega (arith, lt, from, e)))),
  (λ n. appended_rest h k x done n (either_number n k)),
)
one_stays end h (SyncOf k) done from = (
  (λ n lt. synced_file h k done n (either_number n k)),
  (λ n. no_rest h (with_act (SyncOf k) done h) n (synced_file h k done n (either_number n k))),
)
one_stays end h (RemoveOf k) done from = absurd from
one_stays end h (ReplaceBy name bytes) done from = absurd from
one_stays end h SettleAll done from = absurd from
one_stays end h (TellOf line) done from = absurd from

-- ---- several

none_stays : (end : ℕ) (h : History) → StaysFrom end h h
none_stays end h = ((λ n lt. refl), (λ n. no_rest h h n refl))

then_stays : (end : ℕ) (a b c : History) → StaysFrom end a b → StaysFrom end b c → StaysFrom end a c
then_stays end a b c p q = (
  (λ n lt. q.0 n lt ∙ p.0 n lt),
  (λ n.
      let one = p.1 n in
      let two = q.1 n in (
        one.0 ++ two.0,
        two.1 ∙ (ap (λ (l : List ℕ). l ++ two.0) one.1 ∙ append_assoc (segment_bytes (files_now a) n) one.0 two.0),
      )),
)

all_stay : (end : ℕ) (h : History) (steps more : List Step) → AllByRecursion (AppendsFrom end) (steps ++ more) → StaysFrom end h (with_steps steps h)
all_stay end h [] more all = none_stays end h
all_stay end h (x ∷ xs) more all =
    then_stays end h (with_act x true h) (with_steps xs (with_act x true h)) (one_stays end h x true all.0)
    (all_stay end (with_act x true h) xs more all.1)

all_behind : (P : Step → Type 0) (xs ys : List Step) → AllByRecursion P (xs ++ ys) → AllByRecursion P ys
all_behind P [] ys all = all
all_behind P (x ∷ xs) ys all = all_behind P xs ys all.1

stop_stays : (end : ℕ) (steps : List Step) (before now : History) → AllByRecursion (AppendsFrom end) steps → StopsIn steps before now
    → StaysFrom end before now
stop_stays end steps before now all stop = by_form stop.now_is where
  parts : AllByRecursion (AppendsFrom end) (stop.front ++ stop.rest)
  parts = subst (AllByRecursion (AppendsFrom end)) stop.parts all

  front : StaysFrom end before (with_steps stop.front before)
  front = all_stay end before stop.front stop.rest parts

  by_form : (now ≡ with_steps stop.front before)
      ⊎ ((step : Step) × (more : List Step) × (stop.rest ≡ step ∷ more) × (now ≡ with_act step false (with_steps stop.front before)))
      → StaysFrom end before now
  by_form (inl e) = subst (StaysFrom end before) (sym e) front
  by_form (inr q) =
      let rest : AllByRecursion (AppendsFrom end) (q.0 ∷ q.1) =
      subst (AllByRecursion (AppendsFrom end)) q.2 (all_behind (AppendsFrom end) stop.front stop.rest parts) in
      subst (StaysFrom end before) (sym q.3)
      (then_stays end before (with_steps stop.front before) (with_act q.0 false (with_steps stop.front before)) front
      (one_stays end (with_steps stop.front before) q.0 false rest.0))

-- ---- the steps of the calls

sync_from : (end : ℕ) (last size : Option ℕ) → AllByRecursion (AppendsFrom end) (sync_steps last size)
sync_from end None size = tt
sync_from end (Some n) None = tt
sync_from end (Some n) (Some s) = (tt, tt)

new_from : (end : ℕ) (last size : Option ℕ) → end ≤ behind last
    → AllByRecursion (AppendsFrom end) (sync_steps last size ++ (AppendTo (behind last) magic ∷ []))
new_from end last size le = all-append (AppendsFrom end) (sync_steps last size) (AppendTo (behind last) magic ∷ []) (sync_from end last size) (le, tt)

room_from : (end : ℕ) (last size : Option ℕ) (b : Bool) → end ≤ behind last → AllByRecursion (AppendsFrom end) (room_steps last size b)
room_from end last size true le = new_from end last size le
room_from end last size false le = tt

segment_by : (after : Option ℕ) (l s : ℕ) (b : Bool) (c : Option (List LogEntry)) (p : List LogEntry) (h : History) → Stands after (Some l) (Some s) c p h
    → behind after ≤ (room_in (Some l) (Some s) b).segment
segment_by after l s true c p h st = st.order
segment_by after l s false c p h st = st.last_is.above

segment_from : (after last size : Option ℕ) (limit more : ℕ) (c : Option (List LogEntry)) (p : List LogEntry) (h : History) → Stands after last size c p h
    → behind after ≤ (room_in last size (must_begin last size limit more)).segment
segment_from after None size limit more c p h st = st.order
segment_from after (Some l) None limit more c p h st = st.order
segment_from after (Some l) (Some s) limit more c p h st = segment_by after l s (is_full s limit more) c p h st

stays_as : (s : Session) (before now : History) → StaysFrom (behind s.after) before now → Stays s.after before now
stays_as s before now stays = record { below = stays.0; longer = stays.1 }

pub put_stays : {T : Type 0} (s : Session) (head blob : List ℕ) (a b : Option Told) (n m : ℕ) (result : Result T WriteFault)
    → Ran (put_steps s head blob) a b n m result → Between a b (OnlyAppends s)
put_stays s head blob a b n m result ran =
    let more = length head + length blob in
    let xs = room_steps s.last s.size (must_begin s.last s.size s.limit more) in
    between_map a b (StopsIn (put_steps s head blob)) (OnlyAppends s)
    (λ before now stop c p st.
    let le = segment_from s.after s.last s.size s.limit more c p before st in
    stays_as s before now (stop_stays (behind s.after) (put_steps s head blob) before now
    (all-append (AppendsFrom (behind s.after)) xs ((AppendTo (room_of s more).segment head ∷ []) ++ (AppendTo (room_of s more).segment blob ∷ []))
    (room_from (behind s.after) s.last s.size (must_begin s.last s.size s.limit more) st.order) (le, (le, tt))) stop))
    (ran_stops (put_steps s head blob) a b n m result ran)

pub delete_stays : {T : Type 0} (s : Session) (entry : List ℕ) (a b : Option Told) (n m : ℕ) (result : Result T WriteFault)
    → Ran (delete_steps s entry) a b n m result → Between a b (OnlyAppends s)
delete_stays s entry a b n m result ran =
    let more = length entry in
    let xs = room_steps s.last s.size (must_begin s.last s.size s.limit more) in
    between_map a b (StopsIn (delete_steps s entry)) (OnlyAppends s)
    (λ before now stop c p st.
    let le = segment_from s.after s.last s.size s.limit more c p before st in
    stays_as s before now (stop_stays (behind s.after) (delete_steps s entry) before now
    (all-append (AppendsFrom (behind s.after)) xs (AppendTo (room_of s more).segment entry ∷ [])
    (room_from (behind s.after) s.last s.size (must_begin s.last s.size s.limit more) st.order) (le, tt)) stop))
    (ran_stops (delete_steps s entry) a b n m result ran)

pub commit_stays : {T : Type 0} (s : Session) (a b : Option Told) (n m : ℕ) (result : Result T WriteFault) → Ran (commit_steps s.last s.size) a b n m result
    → Between a b (OnlyAppends s)
commit_stays s a b n m result ran =
    between_map a b (StopsIn (commit_steps s.last s.size)) (OnlyAppends s)
    (λ before now stop c p st. stays_as s before now (stop_stays (behind s.after) (commit_steps s.last s.size) before now
    (all-append (AppendsFrom (behind s.after)) (sync_steps s.last s.size) _ (sync_from (behind s.after) s.last s.size) (st.order, (tt, tt))) stop))
    (ran_stops (commit_steps s.last s.size) a b n m result ran)
