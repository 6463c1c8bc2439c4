-- Lemmas on specs/Steps.antt: what entries that are put again leave, one after another.
use Rattle.std.proofs.Common.{◌≡◌, inl, inr, ℕ, suc, ◌+◌, ◌<◌, ◌≤◌, List, [], ◌∷◌, ◌++◌, Option, Some, None, unwrap_or}
use Rattle.std.proofs.Common.{IsSome, Result, Ok, Err, refl, sym, ◌∙◌, ap, subst, append_assoc, arith}
use Rattle.std.proofs.lemmas.List.{append-nil}
use Rattle.std.specs.FinMap.{get}
use Rattle.ferry_compact.proofs.FillingLemmas.{fills_more}
use Rattle.ferry_compact.proofs.StepLemmas.{fail_where, moments_here, moments_map, moments_then, rose_where}
use Rattle.ferry_compact.specs.Compact.{StayUpTo}
use Rattle.ferry_compact.specs.Fault.{compact_failed, write_fault}
use Rattle.ferry_compact.specs.Steps.{Did, EachPut, IsPutAmong, IsWriting, Moved, PutsOne, RefusesMove, RefusesPut, Went}
use Rattle.ferry_compact.specs.declared.fault.CompactFault.{CompactFault}
use Rattle.ferry_disk.proofs.MomentLemmas.{between_both, between_map}
use Rattle.ferry_disk.specs.Act.{History, files_now}
use Rattle.ferry_disk.specs.Device.{RoseWhere, Told}
use Rattle.ferry_disk.specs.Faults.{FailedWhere, failed_told}
use Rattle.ferry_disk.specs.Files.{Files}
use Rattle.ferry_disk.specs.Moments.{Between, Moments}
use Rattle.ferry_segment.specs.Entry.{Fits, LogEntry, PutEntry, size_of}
use Rattle.ferry_segment.specs.Segment.{magic, spellings}
use Rattle.ferry_stops.proofs.TellLemmas.{untold_then}
use Rattle.ferry_stops.specs.Blobs.{Gains}
use Rattle.ferry_stops.specs.Chance.{EachStop}
use Rattle.ferry_stops.specs.Entries.{CommittedBelow, Shows}
use Rattle.ferry_stops.specs.Tells.{TellsNothing}
use Rattle.ferry_write.proofs.GainLemmas.{own_gains}
use Rattle.ferry_write.proofs.StandLemmas.{own_keeps, read_is}
use Rattle.ferry_write.specs.Room.{AreUsedUp, after_entry, behind, room_of}
use Rattle.ferry_write.specs.Rows.{Brings, IsPutOf, KeepsRows}
use Rattle.ferry_write.specs.Script.{AllDone}
use Rattle.ferry_write.specs.Session.{IsCurrent, Keeps, KeepsPlain, LastIs, OnlyAppends, Puts, Stands, Stays}
use Rattle.ferry_write.specs.declared.fault.WriteFault.{WriteFault}
use Rattle.ferry_write.specs.declared.fault.WriteFault.TheVariants as Writes
use Rattle.ferry_write.specs.Fault.{write_failed}
use Rattle.ferry_write.specs.declared.session.Session.{Session}

-- ---- the parts

pub stay_then : (t : ℕ) (h g i : History) → StayUpTo t h g → StayUpTo t g i → StayUpTo t h i
stay_then t h g i p q n le = q n le ∙ p n le

pub plain_then : (h g i : History) → KeepsPlain h g → AllDone h g → KeepsPlain g i → KeepsPlain h i
plain_then h g i p d q name file e = moments_then _ h g i (p name file e) d (q name file (p name file e).last)

pub plain_here : (h : History) → KeepsPlain h h
plain_here h name file e = moments_here _ h e

gains_on : (base mid : History) (IsNew Own All : List ℕ → Type 0) → ((blob : List ℕ) → IsNew blob → All blob) → ((blob : List ℕ) → Own blob → All blob)
    → Gains base IsNew mid → (h : History) → Gains mid Own h → Gains base All h
gains_on base mid IsNew Own All old new before h gains = record {
  traced = gains.traced;
  gained = λ blob is. elim (gains.gained blob is) [
    | inr own ↦ inr (new blob own)
    | inl there ↦ elim (before.gained blob there) [
      | inl known ↦ inl known
      | inr first ↦ inr (old blob first)
    ]
  ];
}

pub gains_wider : (base : History) (IsNew All : List ℕ → Type 0) → ((blob : List ℕ) → IsNew blob → All blob) → (h : History) → Gains base IsNew h
    → Gains base All h
gains_wider base IsNew All wider h gains = record {
  traced = gains.traced;
  gained = λ blob is. elim (gains.gained blob is) [
    | inl known ↦ inl known
    | inr new ↦ inr (wider blob new)
  ];
}

pub gains_then : (IsNew Own All : List ℕ → Type 0) (h g i : History) → ((blob : List ℕ) → IsNew blob → All blob) → ((blob : List ℕ) → Own blob → All blob)
    → Moments (Gains h IsNew) h g → AllDone h g → Moments (Gains g Own) g i → Moments (Gains h All) h i
gains_then IsNew Own All h g i old new m d n =
    moments_then (Gains h All) h g i (moments_map (Gains h IsNew) (Gains h All) h g (gains_wider h IsNew All old) m) d
    (moments_map (Gains g Own) (Gains h All) g i (gains_on h g IsNew Own All old new m.last) n)

-- ---- entries among others

pub among_one : (entry : LogEntry) (blob : List ℕ) → IsPutOf entry blob → IsPutAmong (entry ∷ []) blob
among_one entry blob put = (put.0, [], [], ap (λ (e : LogEntry). e ∷ []) put.1)

pub among_front : (xs ys : List LogEntry) (blob : List ℕ) → IsPutAmong xs blob → IsPutAmong (xs ++ ys) blob
among_front xs ys blob put = (
  put.0,
  put.1,
  put.2 ++ ys,
  ap (λ (l : List LogEntry). l ++ ys) put.3 ∙ append_assoc put.1 (PutEntry put.0 blob ∷ put.2) ys,
)

pub among_back : (xs ys : List LogEntry) (blob : List ℕ) → IsPutAmong ys blob → IsPutAmong (xs ++ ys) blob
among_back xs ys blob put = (
  put.0,
  xs ++ put.1,
  put.2,
  ap (λ (l : List LogEntry). xs ++ l) put.3 ∙ sym (append_assoc xs put.1 (PutEntry put.0 blob ∷ put.2)),
)

-- ---- one behind another

pub went_here : (t : ℕ) (session : Session) (entries : List LogEntry) (h : History) → Went t session entries h h
went_here t session entries h = record {
  shows = λ committed pending w. moments_here (EachStop (λ image. Shows image (Some committed))) h
      (own_keeps (behind session.after) (Some committed) h w.fits.own);
  gains = λ committed pending w rows. moments_here (Gains h (IsPutAmong entries)) h (own_gains h (IsPutAmong entries) rows.traced);
  stays = λ committed pending w n le. refl;
  plain = plain_here h;
  untold = refl;
}

pub went_as : (t : ℕ) (session : Session) (entries all : List LogEntry) (h g : History) → ((blob : List ℕ) → IsPutAmong entries blob → IsPutAmong all blob)
    → Went t session entries h g → Went t session all h g
went_as t session entries all h g wider went = record {
  shows = went.shows;
  gains = λ committed pending w rows.
      moments_map (Gains h (IsPutAmong entries)) (Gains h (IsPutAmong all)) h g (gains_wider h (IsPutAmong entries) (IsPutAmong all) wider)
      (went.gains committed pending w rows);
  stays = went.stays;
  plain = went.plain;
  untold = went.untold;
}

pub went_then : (t : ℕ) (old mid : Session) (first second all moved : List LogEntry) (h g i : History)
    → ((blob : List ℕ) → IsPutAmong first blob → IsPutAmong all blob) → ((blob : List ℕ) → IsPutAmong second blob → IsPutAmong all blob)
    → Went t old first h g → AllDone h g → Moved t old mid moved h g → Went t mid second g i → Went t old all h i
went_then t old mid first second all moved h g i front back went d m next = record {
  shows = λ committed pending w.
      moments_then (EachStop (λ image. Shows image (Some committed))) h g i (went.shows committed pending w) d
      (next.shows committed (pending ++ moved) (m.writing committed pending w));
  gains = λ committed pending w rows.
      gains_then (IsPutAmong first) (IsPutAmong second) (IsPutAmong all) h g i front back (went.gains committed pending w rows) d
      (next.gains committed (pending ++ moved) (m.writing committed pending w) (m.rows committed pending w rows));
  stays = λ committed pending w.
      stay_then t h g i (went.stays committed pending w) (next.stays committed (pending ++ moved) (m.writing committed pending w));
  plain = plain_then h g i went.plain d next.plain;
  untold = untold_then h g i went.untold next.untold;
}

pub moved_here : (t : ℕ) (session : Session) (h : History) → Moved t session session [] h h
moved_here t session h = record {
  writing = λ committed pending w.
      subst (λ (p : List LogEntry). IsWriting t committed p session h) (sym (append-nil pending)) w;
  rows = λ committed pending w rows. rows;
  fills = λ limit committed pending w fills. fills;
}

pub moved_then : (t : ℕ) (old mid new : Session) (xs ys : List LogEntry) (h g i : History) → Moved t old mid xs h g → Moved t mid new ys g i
    → Moved t old new (xs ++ ys) h i
moved_then t old mid new xs ys h g i m n = record {
  writing = λ committed pending w.
      subst (λ (p : List LogEntry). IsWriting t committed p new i) (append_assoc pending xs ys)
      (n.writing committed (pending ++ xs) (m.writing committed pending w));
  rows = λ committed pending w rows. n.rows committed (pending ++ xs) (m.writing committed pending w) (m.rows committed pending w rows);
  fills = λ limit committed pending w fills.
      n.fills limit committed (pending ++ xs) (m.writing committed pending w) (m.fills limit committed pending w fills);
}

pub refused_then : (t : ℕ) (old mid : Session) (moved : List LogEntry) (fault : CompactFault) (h g i : History) → Moved t old mid moved h g
    → RefusesMove t mid fault g i → RefusesMove t old fault h i
refused_then t old mid moved fault h g i m refuses committed pending w = refuses committed (pending ++ moved) (m.writing committed pending w)

-- ---- an entry that a session puts

-- what a call of a session leaves, wherever it ended
pub record CallWent (session : Session) (entry : LogEntry) (h g : History) : Type 0 where
  pub keeps : Keeps session h g
  pub brings : Brings session entry h g
  pub appends : OnlyAppends session h g
  pub plain : KeepsPlain h g
  pub untold : TellsNothing h g

call_went : (session : Session) (entry : LogEntry) (a b : Option Told) → Between a b (Keeps session) → Between a b (Brings session entry)
    → Between a b (OnlyAppends session) → Between a b KeepsPlain → Between a b TellsNothing → Between a b (CallWent session entry)
call_went session entry a b keeps brings appends plain untold =
    between_map a b
    (λ h g. Keeps session h g × (Brings session entry h g × (OnlyAppends session h g × (KeepsPlain h g × TellsNothing h g)))) (CallWent session entry)
    (λ h g all. record { keeps = all.0; brings = all.1.0; appends = all.1.1.0; plain = all.1.1.1.0; untold = all.1.1.1.1 })
    (between_both a b (Keeps session) (λ h g. Brings session entry h g × (OnlyAppends session h g × (KeepsPlain h g × TellsNothing h g))) keeps
    (between_both a b (Brings session entry) (λ h g. OnlyAppends session h g × (KeepsPlain h g × TellsNothing h g)) brings
    (between_both a b (OnlyAppends session) (λ h g. KeepsPlain h g × TellsNothing h g) appends (between_both a b KeepsPlain TellsNothing plain untold))))

stays_up : (t : ℕ) (committed pending : List LogEntry) (session : Session) (h g : History) → IsWriting t committed pending session h
    → OnlyAppends session h g → StayUpTo t h g
stays_up t committed pending session h g w appends n le =
    let stays = appends (Some committed) pending w.fits in
    stays.below n (subst (λ (a : Option ℕ). n < behind a) (sym w.after_is) (omega (arith, le)))

entry_went : (t : ℕ) (session : Session) (entry : LogEntry) (h g : History) → CallWent session entry h g → Went t session (entry ∷ []) h g
entry_went t session entry h g call = record {
  shows = λ committed pending w. call.keeps (Some committed) pending w.fits;
  gains = λ committed pending w rows.
      moments_map (Gains h (IsPutOf entry)) (Gains h (IsPutAmong (entry ∷ []))) h g
      (gains_wider h (IsPutOf entry) (IsPutAmong (entry ∷ [])) (among_one entry)) (call.brings (Some committed) pending w.fits rows);
  stays = λ committed pending w. stays_up t committed pending session h g w call.appends;
  plain = call.plain;
  untold = call.untold;
}

entry_moved : (t : ℕ) (session now : Session) (entry : LogEntry) (more : ℕ) (h g : History) → (Fits entry → size_of entry ≡ more)
    → now ≡ after_entry session more → Puts session now entry h g → KeepsRows session now h g → OnlyAppends session h g
    → Moved t session now (entry ∷ []) h g
entry_moved t session now entry more h g size is puts rows appends = record {
  writing = λ committed pending w. record {
    fits = puts (Some committed) pending w.fits;
    after_is = ap (λ (s : Session). s.after) is ∙ w.after_is;
    ends = λ none.
        let both : None ≡ Some ((room_of session more).at + more) = sym none ∙ ap (λ (s : Session). s.size) is in absurd (let no : ⊥ = cc in no);
  };
  rows = λ committed pending w known. rows (Some committed) pending w.fits known;
  fills = λ limit committed pending w fills.
      fills_more limit t more committed pending session now entry h g size is w (puts (Some committed) pending w.fits) appends fills;
}

-- ---- a call that is refused

-- the last of the segments of a commit is there
commit_there : (files : Files) (committed : Option (List LogEntry)) (n : ℕ) → CommittedBelow files (suc n) committed → IsSome (get files.segments n)
commit_there files None n none = absurd (let no : ⊥ = omega (arith, none) in no)
commit_there files (Some entries) n ends =
    let same : ends.last ≡ n = (let e = ends.end_is in omega (arith, e)) in
    subst (λ (k : ℕ). IsSome (get files.segments k)) same (subst IsSome (sym ends.there) refl)

-- a segment that has a byte is there
bytes_there : (file : Option (List ℕ)) (x : ℕ) (xs : List ℕ) → unwrap_or file [] ≡ x ∷ xs → IsSome file
bytes_there None x xs e = absurd (let no : ⊥ = cc in no)
bytes_there (Some bytes) x xs e = refl

-- the last segment of a session that fits is there, and stays there
last_there : (after last size : Option ℕ) (committed : Option (List LogEntry)) (pending : List LogEntry) (h g : History) (n : ℕ) → last ≡ Some n
    → (size ≡ None → last ≡ after) → Stands after last size committed pending h → Stays after h g → IsSome (get (files_now g).segments n)
last_there after last None committed pending h g n is ends stands stays =
    let at : after ≡ Some n = sym (ends refl) ∙ is in
    let there = commit_there (files_now h) committed n
    (subst (λ (a : Option ℕ). CommittedBelow (files_now h) (behind a) committed) at stands.own.commits) in
    subst IsSome (sym (stays.below n (subst (λ (a : Option ℕ). n < behind a) (sym at) (omega arith)))) there
last_there after last (Some size) committed pending h g n is ends stands stays =
    let current : IsCurrent h (behind after) n size = subst (λ (l : Option ℕ). LastIs h (behind after) l (Some size)) is stands.last_is in
    let had : get (files_now h).segments n ≡ Some (magic ++ spellings current.entries) = sym (read_is h n) ∙ current.written.read in
    let rest = stays.longer n in
    bytes_there (get (files_now g).segments n) _ _ (rest.1 ∙ ap (λ (file : Option (List ℕ)). unwrap_or file [] ++ rest.0) had)

used_last : (last : Option ℕ) → AreUsedUp last → (n : ℕ) × ((last ≡ Some n) × (4294967295 ≤ n))
used_last None used = absurd (let no : ⊥ = omega (arith, used) in no)
used_last (Some n) used = (n, (refl, omega (arith, used)))

pub write_refused : (t : ℕ) (session : Session) (fault : WriteFault) (h g : History) → (fault ≡ Writes.Numbers → AreUsedUp session.last)
    → OnlyAppends session h g → RefusesMove t session (write_fault fault) h g
write_refused t session Writes.Device h g used appends committed pending w = tt
write_refused t session Writes.Memory h g used appends committed pending w = tt
write_refused t session Writes.Numbers h g used appends committed pending w =
    let last = used_last session.last (used refl) in (
      last.0,
      (
        last.1.1,
        last_there session.after session.last session.size (Some committed) pending h g last.0 last.1.0 w.ends w.fits
            (appends (Some committed) pending w.fits),
      ),
    )

-- a fault of a session, as an answer
abbrev pub fault_of : {T : Type 0} → WriteFault → Result T WriteFault
fault_of fault = Err fault

pub write_is : (fault : WriteFault) → compact_failed (write_fault fault) ≡ write_failed fault
write_is Writes.Device = refl
write_is Writes.Memory = refl
write_is Writes.Numbers = refl

-- ---- the calls

pub put_did : (session now : Session) (entry : LogEntry) (more : ℕ) (a b : Option Told) (n m : ℕ) → (Fits entry → size_of entry ≡ more)
    → Between a b (Keeps session)
    → Between a b (Brings session entry) → Between a b (OnlyAppends session) → Between a b KeepsPlain → Between a b TellsNothing
    → Between a b (Puts session now entry) → Between a b (KeepsRows session now) → Between a b AllDone → now ≡ after_entry session more → m ≡ n
    → failed_told b ≡ failed_told a → Did (EachPut entry session) (PutsOne entry session now) (RefusesPut session) a b n m (Ok tt)
put_did session now entry more a b n m size keeps brings appends plain untold puts rows done is caused ends = record {
  each = between_map a b (CallWent session entry) (EachPut entry session) (λ h g call t. entry_went t session entry h g call)
      (call_went session entry a b keeps brings appends plain untold);
  end = between_both a b AllDone (PutsOne entry session now) done
      (between_map a b (λ h g. Puts session now entry h g × (KeepsRows session now h g × OnlyAppends session h g)) (PutsOne entry session now)
      (λ h g e t. entry_moved t session now entry more h g size is e.0 e.1.0 e.1.1)
      (between_both a b (Puts session now entry) (λ h g. KeepsRows session now h g × OnlyAppends session h g) puts
      (between_both a b (KeepsRows session now) (OnlyAppends session) rows appends)));
  refuses = tt;
  ends = ends;
  cause = caused;
}

pub put_refused : (session now : Session) (entry : LogEntry) (fault : WriteFault) (a b : Option Told) (n m : ℕ) → Between a b (Keeps session)
    → Between a b (Brings session entry) → Between a b (OnlyAppends session) → Between a b KeepsPlain → Between a b TellsNothing
    → (fault ≡ Writes.Numbers → AreUsedUp session.last) → RoseWhere (write_failed fault) n m → FailedWhere (write_failed fault) a b
    → Did (EachPut entry session) (PutsOne entry session now) (RefusesPut session) a b n m (Err (write_fault fault))
put_refused session now entry fault a b n m keeps brings appends plain untold used caused ends = record {
  each = between_map a b (CallWent session entry) (EachPut entry session) (λ h g call t. entry_went t session entry h g call)
      (call_went session entry a b keeps brings appends plain untold);
  end = tt;
  refuses = between_map a b (OnlyAppends session) (RefusesPut session (write_fault fault)) (λ h g e t. write_refused t session fault h g used e) appends;
  ends = fail_where (compact_failed (write_fault fault)) (write_failed fault) a b (write_is fault) ends;
  cause = rose_where (compact_failed (write_fault fault)) (write_failed fault) n m (write_is fault) caused;
}
