-- Lemmas on specs/Front.antt: at each moment of a session's calls the segments have a front of what is written.
use Rattle.std.proofs.Common.{◌≡◌, ◌⊎◌, inl, inr, ℕ, suc, ◌+◌, ◌<◌, ◌≤◌, nat_eq, Bool, true, false, if◌then◌else◌, List, [], ◌∷◌, ◌++◌, length}
use Rattle.std.proofs.Common.{Option, Some, None, unwrap_or, Result, refl, sym, ◌∙◌, ap, subst, arith}
use Rattle.std.specs.FinMap.{FinMap, get, insert}
use Rattle.std.specs.List.{AllByRecursion}
use Rattle.std.specs.Ordering.{nat_cmp}
use Rattle.std.proofs.lemmas.Bool.{cases_lt}
use Rattle.std.proofs.lemmas.List.{append-nil, append_assoc}
use Rattle.ferry_disk.specs.Act.{Step, AppendTo, SyncOf, RemoveOf, ReplaceBy, SettleAll, TellOf, History, files_now, stepped, with_act}
use Rattle.ferry_disk.specs.Device.{Told}
use Rattle.ferry_disk.specs.Files.{Files, segment_bytes, without_segment}
use Rattle.ferry_disk.specs.Image.{Fate}
use Rattle.ferry_disk.specs.Moments.{Between, with_steps, EachMoment}
use Rattle.ferry_disk.proofs.ImageLemmas.{applied-push, fate_read, get-cut, get-put}
use Rattle.ferry_disk.proofs.MomentLemmas.{between_map}
use Rattle.ferry_segment.specs.Entry.{LogEntry, PutEntry, CommitEntry, Fits, spelling}
use Rattle.ferry_segment.specs.Segment.{magic, Splits}
use Rattle.ferry_segment.proofs.SegmentLemmas.{spellings_more}
use Rattle.ferry_stops.specs.Entries.{SegmentHas, HaveBelow}
use Rattle.ferry_stops.proofs.GroundLemmas.{have_same}
use Rattle.ferry_write.specs.Front.{HasEntries, Append, appended, AreAtEnd, HasFront, Writes, LeavesSegments, OnlyRemoves}
use Rattle.ferry_write.specs.Room.{behind, must_begin, room_in, room_of, sync_steps, room_steps, put_steps, commit_steps}
use Rattle.ferry_write.specs.Script.{StopsIn, Ran, Clears, removals}
use Rattle.ferry_write.specs.Session.{Stands, SessionFits}
use Rattle.ferry_write.specs.declared.fault.WriteFault.{WriteFault}
use Rattle.ferry_write.specs.declared.session.Session.{Session}
use Rattle.ferry_write.proofs.BeginLemmas.{kept_first, removed_first}
use Rattle.ferry_write.proofs.CallLemmas.{put_goes}
use Rattle.ferry_write.proofs.CommitLemmas.{commits_goes}
use Rattle.ferry_write.proofs.ScriptLemmas.{ran_stops, stop_moments}
use Rattle.ferry_write.proofs.StandLemmas.{all-append, off_number, own_number}

-- ---- entries and fronts of them

-- where all entries are there, nothing is left to be appended
pub front_entries : (files : Files) (entries : List LogEntry) → HasEntries files entries → HasFront files entries
front_entries files entries has = record { more = []; at_end = tt; has = has }

-- no segment is behind the last one of a session that stands
none_behind : (after last size : Option ℕ) (committed : Option (List LogEntry)) (pending : List LogEntry) (h : History)
    → Stands after last size committed pending h → (n : ℕ) → behind last ≤ n → get (files_now h).segments n ≡ None
none_behind after last size committed pending h stands n high = sym (fate_read h.start h.acts n) ∙ ap (λ (f : Fate). f.read) (stands.none n high)

-- what a session that stands has put is in the segments
pub stands_entries : (after last size : Option ℕ) (committed : Option (List LogEntry)) (pending : List LogEntry) (h : History)
    → Stands after last size committed pending h → HasEntries (files_now h) (unwrap_or committed [] ++ pending)
stands_entries after last size committed pending h stands = record {
  end = behind last;
  none = none_behind after last size committed pending h stands;
  have = stands.entries;
}

-- what a session that fits has put is in the segments
pub session_entries : (session : Session) (committed : Option (List LogEntry)) (pending : List LogEntry) (h : History)
    → SessionFits session committed pending h → HasEntries (files_now h) (unwrap_or committed [] ++ pending)
session_entries session committed pending h fits = stands_entries session.after session.last session.size committed pending h fits

-- files with the same segments have the same entries
pub entries_same : (files other : Files) → other.segments ≡ files.segments → (entries : List LogEntry) → HasEntries files entries → HasEntries other entries
entries_same files other same entries has = record {
  end = has.end;
  none = λ n high. ap (λ (m : FinMap nat_cmp (List ℕ)). get m n) same ∙ has.none n high;
  have = have_same files other has.end entries (λ n lt. ap (λ (m : FinMap nat_cmp (List ℕ)). get m n) (sym same)) has.have;
}

-- what is appended to the same segments makes the same ones
appended_same : (files other : Files) (more : List Append) → other.segments ≡ files.segments
    → (appended other more).segments ≡ (appended files more).segments
appended_same files other [] same = same
appended_same files other (one ∷ more) same =
    appended_same (stepped files (AppendTo one.segment one.bytes)) (stepped other (AppendTo one.segment one.bytes)) more
    (ap (λ (m : FinMap nat_cmp (List ℕ)). insert m one.segment (unwrap_or (get m one.segment) [] ++ one.bytes)) same)

-- and what is at the end of the ones is so of the others
at_end_same : (files other : Files) (more : List Append) → other.segments ≡ files.segments → AreAtEnd files more → AreAtEnd other more
at_end_same files other [] same at_end = tt
at_end_same files other (one ∷ more) same at_end = (
  λ n high. ap (λ (m : FinMap nat_cmp (List ℕ)). get m n) same ∙ at_end.0 n high,
  at_end_same (stepped files (AppendTo one.segment one.bytes)) (stepped other (AppendTo one.segment one.bytes)) more
      (ap (λ (m : FinMap nat_cmp (List ℕ)). insert m one.segment (unwrap_or (get m one.segment) [] ++ one.bytes)) same) at_end.1,
)

-- files with the same segments have the same fronts
pub front_same : (files other : Files) → other.segments ≡ files.segments → (entries : List LogEntry) → HasFront files entries → HasFront other entries
front_same files other same entries front = record {
  more = front.more;
  at_end = at_end_same files other front.more same front.at_end;
  has = entries_same (appended files front.more) (appended other front.more) (appended_same files other front.more same) entries front.has;
}

-- ---- one entry more

-- an append behind others
appended_behind : (files : Files) (more : List Append) (one : Append)
    → appended files (more ++ one ∷ []) ≡ stepped (appended files more) (AppendTo one.segment one.bytes)
appended_behind files [] one = refl
appended_behind files (x ∷ more) one = appended_behind (stepped files (AppendTo x.segment x.bytes)) more one

at_end_behind : (files : Files) (more : List Append) (one : Append) → AreAtEnd files more
    → ((n : ℕ) → one.segment < n → get (appended files more).segments n ≡ None) → AreAtEnd files (more ++ one ∷ [])
at_end_behind files [] one at_end none = (none, tt)
at_end_behind files (x ∷ more) one at_end none =
    (at_end.0, at_end_behind (stepped files (AppendTo x.segment x.bytes)) more one at_end.1 none)

-- what a segment has after an append, and what another has
put_here : (files : Files) (k : ℕ) (bytes : List ℕ) → get (stepped files (AppendTo k bytes)).segments k ≡ Some (segment_bytes files k ++ bytes)
put_here files k bytes =
    get-put files.segments k (segment_bytes files k ++ bytes) k
    ∙ ap (λ (b : Bool). if b then Some (segment_bytes files k ++ bytes) else get files.segments k) (own_number k)

put_other : (files : Files) (k : ℕ) (bytes : List ℕ) (n : ℕ) → (n ≡ k → ⊥)
    → get (stepped files (AppendTo k bytes)).segments n ≡ get files.segments n
put_other files k bytes n off =
    get-put files.segments k (segment_bytes files k ++ bytes) n
    ∙ ap (λ (b : Bool). if b then Some (segment_bytes files k ++ bytes) else get files.segments n) (off_number n k off)

one_split : (entry : LogEntry) → Fits entry → Splits (magic ++ spelling entry) (entry ∷ [])
one_split entry fits = record { fit = (fits, tt); whole = ap (λ (l : List ℕ). magic ++ l) (sym (spellings_more [] entry)) }

-- with a segment of one entry behind them all, files have that entry too
have_next : (files : Files) (end : ℕ) (entries : List LogEntry) (entry : LogEntry) → Fits entry → get files.segments end ≡ None → HaveBelow files end entries
    → HaveBelow (stepped files (AppendTo end (magic ++ spelling entry))) (suc end) (entries ++ entry ∷ [])
unfolding HaveBelow
have_next files end entries entry fits absent have =
    let next = stepped files (AppendTo end (magic ++ spelling entry)) in
    let there : get next.segments end ≡ Some (magic ++ spelling entry) =
    put_here files end (magic ++ spelling entry) ∙ ap (λ (o : Option (List ℕ)). Some (unwrap_or o [] ++ (magic ++ spelling entry))) absent in (
      entries,
      entry ∷ [],
      have_same files next end entries (λ n lt. sym (put_other files end (magic ++ spelling entry) n (λ e. omega (arith, lt, e)))) have,
      subst (λ (o : Option (List ℕ)). SegmentHas o (entry ∷ [])) (sym there) (one_split entry fits),
      refl,
    )

entries_more : (files : Files) (entries : List LogEntry) (entry : LogEntry) → Fits entry → (has : HasEntries files entries)
    → HasEntries (stepped files (AppendTo has.end (magic ++ spelling entry))) (entries ++ entry ∷ [])
entries_more files entries entry fits has = record {
  end = suc has.end;
  none = λ n high. put_other files has.end (magic ++ spelling entry) n (λ e. omega (arith, high, e)) ∙ has.none n (omega (arith, high));
  have = have_next files has.end entries entry fits (has.none has.end (omega arith)) has.have;
}

-- a front of entries is one of these and of one more
pub front_more : (files : Files) (entries : List LogEntry) (entry : LogEntry) → Fits entry → HasFront files entries → HasFront files (entries ++ entry ∷ [])
front_more files entries entry fits front =
    let last : Append = record { segment = front.has.end; bytes = magic ++ spelling entry } in
    record {
      more = front.more ++ last ∷ [];
      at_end = at_end_behind files front.more last front.at_end (λ n high. front.has.none n (omega (arith, high)));
      has = subst (λ (f : Files). HasEntries f (entries ++ entry ∷ [])) (sym (appended_behind files front.more last))
          (entries_more (appended files front.more) entries entry fits front.has);
    }

-- ---- the moments of appends

-- A step appends to this segment, or syncs one.
abbrev pub IsAppending : ℕ → Step → Type 0
IsAppending k (AppendTo n bytes) = n ≡ k
IsAppending k (SyncOf n) = Unit {0}
IsAppending k step = ⊥

-- No segment is above this one.
abbrev pub NoneAbove : ℕ → Files → Type 0
NoneAbove k files = (n : ℕ) → k < n → get files.segments n ≡ None

-- what steps append
abbrev appends_of : List Step → List Append
appends_of [] = []
appends_of (AppendTo n bytes ∷ steps) = record { segment = n; bytes = bytes } ∷ appends_of steps
appends_of (SyncOf n ∷ steps) = appends_of steps
appends_of (RemoveOf n ∷ steps) = appends_of steps
appends_of (ReplaceBy name bytes ∷ steps) = appends_of steps
appends_of (SettleAll ∷ steps) = appends_of steps
appends_of (TellOf line ∷ steps) = appends_of steps

done_files : (h : History) (step : Step) → files_now (with_act step true h) ≡ stepped (files_now h) step
done_files h step = applied-push h.start h.acts (record { step = step; done = true })

undone_files : (h : History) (step : Step) → files_now (with_act step false h) ≡ files_now h
undone_files h step = applied-push h.start h.acts (record { step = step; done = false })

-- the files after such steps are those with what they append
appends_make : (k : ℕ) (h : History) (steps : List Step) → AllByRecursion (IsAppending k) steps
    → appended (files_now h) (appends_of steps) ≡ files_now (with_steps steps h)
appends_make k h [] all = refl
appends_make k h (AppendTo n bytes ∷ steps) all =
    ap (λ (f : Files). appended f (appends_of steps)) (sym (done_files h (AppendTo n bytes))) ∙ appends_make k (with_act (AppendTo n bytes) true h) steps all.1
appends_make k h (SyncOf n ∷ steps) all =
    ap (λ (f : Files). appended f (appends_of steps)) (sym (done_files h (SyncOf n))) ∙ appends_make k (with_act (SyncOf n) true h) steps all.1
appends_make k h (RemoveOf n ∷ steps) all = absurd all.0
appends_make k h (ReplaceBy name bytes ∷ steps) all = absurd all.0
appends_make k h (SettleAll ∷ steps) all = absurd all.0
appends_make k h (TellOf line ∷ steps) all = absurd all.0

-- none is above the segment after such a step where none was before
none_appended : (k : ℕ) (files : Files) (n : ℕ) (bytes : List ℕ) → n ≡ k → NoneAbove k files → NoneAbove k (stepped files (AppendTo n bytes))
none_appended k files n bytes same none m high = put_other files n bytes m (λ e. omega (arith, high, e, same)) ∙ none m high

none_next : (k : ℕ) (files : Files) (step : Step) → IsAppending k step → NoneAbove k files → NoneAbove k (stepped files step)
none_next k files (AppendTo n bytes) is none = none_appended k files n bytes is none
none_next k files (SyncOf n) is none = none
none_next k files (RemoveOf n) is none = absurd is
none_next k files (ReplaceBy name bytes) is none = absurd is
none_next k files SettleAll is none = absurd is
none_next k files (TellOf line) is none = absurd is

-- what such steps append is at the end where no segment is above theirs
appends_end : (k : ℕ) (files : Files) (steps : List Step) → AllByRecursion (IsAppending k) steps → NoneAbove k files → AreAtEnd files (appends_of steps)
appends_end k files [] all none = tt
appends_end k files (AppendTo n bytes ∷ steps) all none = (
  λ m high. none m (omega (arith, high, all.0)),
  appends_end k (stepped files (AppendTo n bytes)) steps all.1 (none_appended k files n bytes all.0 none),
)
appends_end k files (SyncOf n ∷ steps) all none = appends_end k files steps all.1 none
appends_end k files (RemoveOf n ∷ steps) all none = absurd all.0
appends_end k files (ReplaceBy name bytes ∷ steps) all none = absurd all.0
appends_end k files (SettleAll ∷ steps) all none = absurd all.0
appends_end k files (TellOf line ∷ steps) all none = absurd all.0

-- what such steps lead to has a front before them, and at each moment
front_before : (entries : List LogEntry) (k : ℕ) (h : History) (steps : List Step) → AllByRecursion (IsAppending k) steps → NoneAbove k (files_now h)
    → HasEntries (files_now (with_steps steps h)) entries → HasFront (files_now h) entries
front_before entries k h steps all none has = record {
  more = appends_of steps;
  at_end = appends_end k (files_now h) steps all none;
  has = subst (λ (f : Files). HasEntries f entries) (sym (appends_make k h steps all)) has;
}

pub each_front : (entries : List LogEntry) (k : ℕ) (h : History) (steps : List Step) → AllByRecursion (IsAppending k) steps → NoneAbove k (files_now h)
    → HasEntries (files_now (with_steps steps h)) entries → EachMoment (λ g. HasFront (files_now g) entries) h steps
each_front entries k h [] all none has = front_entries (files_now h) entries has
each_front entries k h (step ∷ steps) all none has =
    let front = front_before entries k h (step ∷ steps) all none has in (
      front,
      subst (λ (f : Files). HasFront f entries) (sym (undone_files h step)) front,
      each_front entries k (with_act step true h) steps all.1
          (subst (NoneAbove k) (sym (done_files h step)) (none_next k (files_now h) step all.0 none)) has,
    )

-- ---- the steps of the calls

sync_appends : (k : ℕ) (last size : Option ℕ) → AllByRecursion (IsAppending k) (sync_steps last size)
sync_appends k None size = tt
sync_appends k (Some n) None = tt
sync_appends k (Some n) (Some s) = (tt, tt)

begin_appends : (last size : Option ℕ) → AllByRecursion (IsAppending (behind last)) (room_steps last size true)
begin_appends last size = all-append (IsAppending (behind last)) (sync_steps last size) _ (sync_appends (behind last) last size) (refl, tt)

room_appends : (last size : Option ℕ) (b : Bool) → AllByRecursion (IsAppending (room_in last size b).segment) (room_steps last size b)
room_appends None size true = begin_appends None size
room_appends (Some n) None true = begin_appends (Some n) None
room_appends (Some n) (Some s) true = begin_appends (Some n) (Some s)
room_appends last size false = tt

put_appends : (s : Session) (head blob : List ℕ)
    → AllByRecursion (IsAppending (room_of s (length head + length blob)).segment) (put_steps s head blob)
put_appends s head blob =
    let begins = must_begin s.last s.size s.limit (length head + length blob) in
    all-append (IsAppending (room_of s (length head + length blob)).segment) (room_steps s.last s.size begins) _
    (room_appends s.last s.size begins) (refl, (refl, tt))

commit_appends : (s : Session) → AllByRecursion (IsAppending (behind s.last)) (commit_steps s.last s.size)
commit_appends s = all-append (IsAppending (behind s.last)) (sync_steps s.last s.size) _ (sync_appends (behind s.last) s.last s.size) (refl, (tt, tt))

-- an entry begins in the last segment or behind it
room_end : (last size : Option ℕ) (b : Bool) → behind last ≤ suc (room_in last size b).segment
room_end None size b = omega arith
room_end (Some n) None b = omega arith
room_end (Some n) (Some s) true = omega arith
room_end (Some n) (Some s) false = omega arith

-- ---- `put` and `commit`

pub put_writes : {T : Type 0} (s : Session) (head key blob : List ℕ) (a b : Option Told) (n m : ℕ) (result : Result T WriteFault)
    → head ++ blob ≡ spelling (PutEntry key blob) → Fits (PutEntry key blob) → Ran (put_steps s head blob) a b n m result
    → Between a b (Writes s (PutEntry key blob ∷ []))
put_writes s head key blob a b n m result eq fits ran =
    let steps = put_steps s head blob in
    let e = PutEntry key blob in
    between_map a b (StopsIn steps) (Writes s (e ∷ []))
    (λ before now stop c p st.
    let all = (unwrap_or c [] ++ p) ++ e ∷ [] in
    let end = stands_entries _ _ _ c (p ++ e ∷ []) (with_steps steps before) (put_goes s head key blob c p before eq fits st).stands in
    let has : HasEntries (files_now (with_steps steps before)) all =
    subst (HasEntries (files_now (with_steps steps before))) (sym (append_assoc (unwrap_or c []) p (e ∷ []))) end in
    let room = (room_of s (length head + length blob)).segment in
    let low : behind s.last ≤ suc room = room_end s.last s.size (must_begin s.last s.size s.limit (length head + length blob)) in
    let none : NoneAbove room (files_now before) = λ n high. none_behind s.after s.last s.size c p before st n (omega (arith, low, high)) in
    stop_moments (λ h. HasFront (files_now h) all) steps before now (each_front all room before steps (put_appends s head blob) none has) stop)
    (ran_stops steps a b n m result ran)

pub commit_writes : {T : Type 0} (s : Session) (a b : Option Told) (n m : ℕ) (result : Result T WriteFault)
    → Ran (commit_steps s.last s.size) a b n m result → Between a b (Writes s (CommitEntry ∷ []))
commit_writes s a b n m result ran =
    let steps = commit_steps s.last s.size in
    between_map a b (StopsIn steps) (Writes s (CommitEntry ∷ []))
    (λ before now stop c p st.
    let all = (unwrap_or c [] ++ p) ++ CommitEntry ∷ [] in
    let end = stands_entries _ _ _ (Some all) [] (with_steps steps before) (commits_goes s.after s.last s.size c p before st).stands in
    let has : HasEntries (files_now (with_steps steps before)) all =
    subst (HasEntries (files_now (with_steps steps before))) (append-nil all) end in
    let none : NoneAbove (behind s.last) (files_now before) = λ n high. none_behind s.after s.last s.size c p before st n (omega (arith, high)) in
    stop_moments (λ h. HasFront (files_now h) all) steps before now (each_front all (behind s.last) before steps (commit_appends s) none has) stop)
    (ran_stops steps a b n m result ran)

-- ---- a session that begins

-- A step makes all stable, or removes a segment.
abbrev pub IsClearing : Step → Type 0
IsClearing SettleAll = Unit {0}
IsClearing (RemoveOf n) = Unit {0}
IsClearing step = ⊥

removed_leaves : (o p : Option (List ℕ)) (b : Bool) → (p ≡ o) ⊎ (p ≡ None) → ((if b then None else p) ≡ o) ⊎ ((if b then None else p) ≡ None)
removed_leaves o p true leaves = inr refl
removed_leaves o p false leaves = leaves

-- with a segment removed the others are left
without_leaves : (files now : Files) (k : ℕ) → LeavesSegments files now → LeavesSegments files (without_segment now k)
without_leaves files now k leaves n =
    subst (λ (o : Option (List ℕ)). (o ≡ get files.segments n) ⊎ (o ≡ None)) (sym (get-cut now.segments k n))
    (removed_leaves (get files.segments n) (get now.segments n) (nat_eq n k) (leaves n))

clearing_leaves : (files now : Files) (step : Step) → IsClearing step → LeavesSegments files now → LeavesSegments files (stepped now step)
clearing_leaves files now (AppendTo n bytes) is leaves = absurd is
clearing_leaves files now (SyncOf n) is leaves = absurd is
clearing_leaves files now (RemoveOf n) is leaves = without_leaves files now n leaves
clearing_leaves files now (ReplaceBy name bytes) is leaves = absurd is
clearing_leaves files now SettleAll is leaves = leaves
clearing_leaves files now (TellOf line) is leaves = absurd is

each_leaves : (files : Files) (h : History) (steps : List Step) → AllByRecursion IsClearing steps → LeavesSegments files (files_now h)
    → EachMoment (λ g. LeavesSegments files (files_now g)) h steps
each_leaves files h [] all leaves = leaves
each_leaves files h (step ∷ steps) all leaves = (
  leaves,
  subst (LeavesSegments files) (sym (undone_files h step)) leaves,
  each_leaves files (with_act step true h) steps all.1
      (subst (LeavesSegments files) (sym (done_files h step)) (clearing_leaves files (files_now h) step all.0 leaves)),
)

removals_clear : (end : ℕ) (ns : List ℕ) → AllByRecursion IsClearing (removals end ns)
removals_clear end [] = tt
removals_clear end (n ∷ ns) = elim (cases_lt n end) [
  | inl lt ↦ subst (AllByRecursion IsClearing) (sym (kept_first end n ns lt)) (removals_clear end ns)
  | inr le ↦ subst (AllByRecursion IsClearing) (sym (removed_first end n ns le)) (tt, removals_clear end ns)
]

pub begin_removes : {T : Type 0} (end : ℕ) (a b : Option Told) (n m : ℕ) (result : Result T WriteFault) → Clears end a b n m result → Between a b OnlyRemoves
begin_removes end a b n m result clears =
    let steps = (SettleAll ∷ []) ++ removals end clears.numbers in
    between_map a b (StopsIn steps) OnlyRemoves
    (λ before now stop. stop_moments (λ h. LeavesSegments (files_now before) (files_now h)) steps before now
    (each_leaves (files_now before) before steps (tt, removals_clear end clears.numbers) (λ n. inl refl)) stop)
    (ran_stops steps a b n m result clears.ran)
