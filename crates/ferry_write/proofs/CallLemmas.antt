-- Lemmas on specs/Session.antt: the clauses of a session's calls, from the scripts of their bodies.
use Rattle.std.proofs.Common.{◌≡◌, ◌⊎◌, ℕ, ◌+◌, ◌≤◌, true, List, [], ◌∷◌, ◌++◌, length, take, Option, Some}
use Rattle.std.proofs.Common.{None, unwrap_or, Result, Ok, IfSome}
use Rattle.std.proofs.Common.{refl, sym, ◌∙◌, ap, subst, arith}
use Rattle.std.specs.FinMap.{get}
use Rattle.std.proofs.lemmas.List.{length-append, drop_at, take_all}
use Rattle.ferry_disk.specs.Act.{Step, AppendTo, SettleAll, History, files_now, with_act}
use Rattle.ferry_disk.specs.Device.{Told, told_files}
use Rattle.ferry_disk.specs.Files.{segment_bytes, segment_numbers}
use Rattle.ferry_disk.specs.Moments.{Between, with_steps, EachMoment, Moments}
use Rattle.ferry_disk.proofs.MomentLemmas.{between_map}
use Rattle.ferry_log.specs.State.{IsBlobAt}
use Rattle.ferry_segment.specs.Entry.{LogEntry, PutEntry, DeleteEntry, Fits, spelling, size_of}
use Rattle.ferry_segment.specs.Segment.{magic, spellings}
use Rattle.ferry_segment.proofs.EntryLemmas.{length-spelling}
use Rattle.ferry_stops.specs.Chance.{EachStop}
use Rattle.ferry_stops.specs.Entries.{Shows}
use Rattle.ferry_write.specs.Room.{behind, room_of, room_steps, must_begin, put_steps, delete_steps, commit_steps}
use Rattle.ferry_write.specs.Script.{DoesAll, StopsIn, Ran, Clears, removals}
use Rattle.ferry_write.specs.Session.{IsWritten, Stands, SessionFits, Begins, BeginKeeps, Keeps, Puts, Lies, with_commit, KeepsOrCommits, Commits}
use Rattle.ferry_write.specs.declared.fault.WriteFault.{WriteFault}
use Rattle.ferry_write.specs.declared.room.Room.{Room}
use Rattle.ferry_write.specs.declared.session.Session.{Session}
use Rattle.ferry_write.proofs.ScriptLemmas.{with_steps-append, each_map, stop_moments, ran_stops}
use Rattle.ferry_write.proofs.StandLemmas.{own_keeps, written_next, append_here, read_is}
use Rattle.ferry_write.proofs.SessionLemmas.{Own, Goes, roomed, goes_then, put_one, put_two}
use Rattle.ferry_write.proofs.CommitLemmas.{commits_goes}
use Rattle.ferry_write.proofs.BeginLemmas.{begins_stands, begins_each}

-- ---- the scripts of a PUT and of a DELETE

pub put_goes : (s : Session) (head key blob : List ℕ) (c : Option (List LogEntry)) (p : List LogEntry) (h : History)
    → head ++ blob ≡ spelling (PutEntry key blob) → Fits (PutEntry key blob) → SessionFits s c p h
    → Goes s.after (Some (room_of s (length head + length blob)).segment)
    (Some ((room_of s (length head + length blob)).at + size_of (PutEntry key blob))) c (p ++ PutEntry key blob ∷ []) h (put_steps s head blob)
put_goes s head key blob c p h eq fits st =
    let more = length head + length blob in
    let e = PutEntry key blob in
    let room = room_of s more in
    let xs = room_steps s.last s.size (must_begin s.last s.size s.limit more) in
    let first = roomed s.after s.last s.size s.limit more c p h st in
    goes_then s.after (Some room.segment) (Some room.at) (Some room.segment) (Some (room.at + size_of e)) c p (p ++ e ∷ []) h xs
    ((AppendTo room.segment head ∷ []) ++ (AppendTo room.segment blob ∷ [])) first
    (put_two s.after room.segment room.at c p (with_steps xs h) e head blob first.stands fits refl eq)

delete_goes : (s : Session) (entry key : List ℕ) (c : Option (List LogEntry)) (p : List LogEntry) (h : History)
    → entry ≡ spelling (DeleteEntry key) → Fits (DeleteEntry key) → SessionFits s c p h
    → Goes s.after (Some (room_of s (length entry)).segment) (Some ((room_of s (length entry)).at + size_of (DeleteEntry key))) c
    (p ++ DeleteEntry key ∷ []) h (delete_steps s entry)
delete_goes s entry key c p h eq fits st =
    let more = length entry in
    let e = DeleteEntry key in
    let room = room_of s more in
    let xs = room_steps s.last s.size (must_begin s.last s.size s.limit more) in
    let first = roomed s.after s.last s.size s.limit more c p h st in
    goes_then s.after (Some room.segment) (Some room.at) (Some room.segment) (Some (room.at + size_of e)) c p (p ++ e ∷ []) h xs
    (AppendTo room.segment entry ∷ []) first (put_one s.after room.segment room.at c p (with_steps xs h) e entry first.stands fits refl eq)

-- what is safe at each moment is kept wherever the script stops
own_moments : (after : Option ℕ) (c : Option (List LogEntry)) (steps : List Step) (before now : History) → EachMoment (Own after c) before steps
    → StopsIn steps before now → Moments (EachStop (λ image. Shows image c)) before now
own_moments after c steps before now each stop =
    stop_moments (EachStop (λ image. Shows image c)) steps before now
    (each_map (Own after c) (EachStop (λ image. Shows image c)) (λ h own. own_keeps (behind after) c h own) before steps each) stop

pub put_keeps : {T : Type 0} (s : Session) (head key blob : List ℕ) (a b : Option Told) (n m : ℕ) (result : Result T WriteFault)
    → head ++ blob ≡ spelling (PutEntry key blob) → Fits (PutEntry key blob) → Ran (put_steps s head blob) a b n m result → Between a b (Keeps s)
put_keeps s head key blob a b n m result eq fits ran =
    between_map a b (StopsIn (put_steps s head blob)) (Keeps s)
    (λ before now stop c p st. own_moments s.after c (put_steps s head blob) before now (put_goes s head key blob c p before eq fits st).each stop)
    (ran_stops (put_steps s head blob) a b n m result ran)

pub delete_keeps : {T : Type 0} (s : Session) (entry key : List ℕ) (a b : Option Told) (n m : ℕ) (result : Result T WriteFault)
    → entry ≡ spelling (DeleteEntry key) → Fits (DeleteEntry key) → Ran (delete_steps s entry) a b n m result → Between a b (Keeps s)
delete_keeps s entry key a b n m result eq fits ran =
    between_map a b (StopsIn (delete_steps s entry)) (Keeps s)
    (λ before now stop c p st. own_moments s.after c (delete_steps s entry) before now (delete_goes s entry key c p before eq fits st).each stop)
    (ran_stops (delete_steps s entry) a b n m result ran)

-- ---- the session afterwards

stands_as : (after last size next end count : Option ℕ) (c : Option (List LogEntry)) (p : List LogEntry) (h g : History) → next ≡ after → end ≡ last
    → count ≡ size → g ≡ h → Stands after last size c p h → Stands next end count c p g
stands_as after last size next end count c p h g e d f i st =
    subst (λ (x : Option ℕ). Stands x end count c p g) (sym e)
    (subst (λ (x : Option ℕ). Stands after x count c p g) (sym d)
    (subst (λ (x : Option ℕ). Stands after last x c p g) (sym f)
    (subst (λ (x : History). Stands after last size c p x) (sym i) st)))

pub put_fits : {T : Type 0} (old new : Session) (head key blob : List ℕ) (a b : Option Told) (n m : ℕ) (x : T)
    → head ++ blob ≡ spelling (PutEntry key blob) → Fits (PutEntry key blob) → new.after ≡ old.after
    → new.last ≡ Some (room_of old (length head + length blob)).segment
    → new.size ≡ Some ((room_of old (length head + length blob)).at + size_of (PutEntry key blob))
    → Ran (put_steps old head blob) a b n m (Ok x) → Between a b (Puts old new (PutEntry key blob))
put_fits old new head key blob a b n m x eq fits e d f ran =
    between_map a b (DoesAll (put_steps old head blob)) (Puts old new (PutEntry key blob))
    (λ before now i c p st. stands_as old.after (Some (room_of old (length head + length blob)).segment)
    (Some ((room_of old (length head + length blob)).at + size_of (PutEntry key blob))) new.after new.last new.size c (p ++ PutEntry key blob ∷ [])
    (with_steps (put_steps old head blob) before) now e d f i (put_goes old head key blob c p before eq fits st).stands) ran.runs

pub delete_fits : {T : Type 0} (old new : Session) (entry key : List ℕ) (a b : Option Told) (n m : ℕ) (x : T)
    → entry ≡ spelling (DeleteEntry key) → Fits (DeleteEntry key) → new.after ≡ old.after
    → new.last ≡ Some (room_of old (length entry)).segment → new.size ≡ Some ((room_of old (length entry)).at + size_of (DeleteEntry key))
    → Ran (delete_steps old entry) a b n m (Ok x) → Between a b (Puts old new (DeleteEntry key))
delete_fits old new entry key a b n m x eq fits e d f ran =
    between_map a b (DoesAll (delete_steps old entry)) (Puts old new (DeleteEntry key))
    (λ before now i c p st. stands_as old.after (Some (room_of old (length entry)).segment)
    (Some ((room_of old (length entry)).at + size_of (DeleteEntry key))) new.after new.last new.size c (p ++ DeleteEntry key ∷ [])
    (with_steps (delete_steps old entry) before) now e d f i (delete_goes old entry key c p before eq fits st).stands) ran.runs

-- ---- a commit

pub commit_keeps : {T : Type 0} (s : Session) (a b : Option Told) (n m : ℕ) (result : Result T WriteFault)
    → Ran (commit_steps s.last s.size) a b n m result → Between a b (KeepsOrCommits s)
commit_keeps s a b n m result ran =
    between_map a b (StopsIn (commit_steps s.last s.size)) (KeepsOrCommits s)
    (λ before now stop c p st. stop_moments (EachStop (λ image. Shows image c ⊎ Shows image (with_commit c p))) (commit_steps s.last s.size) before now
    (commits_goes s.after s.last s.size c p before st).each stop)
    (ran_stops (commit_steps s.last s.size) a b n m result ran)

pub commit_fits : {T : Type 0} (old new : Session) (a b : Option Told) (n m : ℕ) (x : T) → new.after ≡ Some (behind old.last)
    → new.last ≡ Some (behind old.last) → new.size ≡ None → Ran (commit_steps old.last old.size) a b n m (Ok x) → Between a b (Commits old new)
commit_fits old new a b n m x e d f ran =
    between_map a b (DoesAll (commit_steps old.last old.size)) (Commits old new)
    (λ before now i c p st. stands_as (Some (behind old.last)) (Some (behind old.last)) None new.after new.last new.size (with_commit c p) []
    (with_steps (commit_steps old.last old.size) before) now e d f i (commits_goes old.after old.last old.size c p before st).stands) ran.runs

-- ---- a session that begins

pub begin_keeps : {T : Type 0} (after : Option ℕ) (a b : Option Told) (n m : ℕ) (result : Result T WriteFault) → Clears (behind after) a b n m result
    → Between a b (BeginKeeps after)
begin_keeps after a b n m result clears =
    let steps = (SettleAll ∷ []) ++ removals (behind after) clears.numbers in
    between_map a b (StopsIn steps) (BeginKeeps after)
    (λ before now stop c shown each. stop_moments (EachStop (λ image. Shows image c)) steps before now
    (begins_each after c before clears.numbers shown each) stop)
    (ran_stops steps a b n m result clears.ran)

begins_by : (after : Option ℕ) (s : Session) (a b : Option Told) (ns : List ℕ) → s.after ≡ after → s.last ≡ after → s.size ≡ None
    → IfSome a (λ t. ns ≡ segment_numbers (told_files t)) → Between a b (DoesAll ((SettleAll ∷ []) ++ removals (behind after) ns))
    → Between a b (Begins after s)
begins_by after s None b ns e d f listed runs = tt
begins_by after s (Some t) b ns e d f listed runs = (
  runs.0,
  runs.1,
  λ c shown. stands_as after after None s.after s.last s.size c []
      (with_steps (removals (behind after) (segment_numbers (files_now t.history))) (with_act SettleAll true t.history)) runs.0.history e d f
      (runs.2 ∙ ap (λ (l : List ℕ). with_steps (removals (behind after) l) (with_act SettleAll true t.history)) listed)
      (begins_stands after c t.history shown),
)

pub begin_fits : {T : Type 0} (after : Option ℕ) (s : Session) (a b : Option Told) (n m : ℕ) (x : T) → s.after ≡ after → s.last ≡ after → s.size ≡ None
    → Clears (behind after) a b n m (Ok x) → Between a b (Begins after s)
begin_fits after s a b n m x e d f clears = begins_by after s a b clears.numbers e d f clears.listed clears.ran.runs

-- ---- what `put` and `delete` answer

key_of : (key blob head : List ℕ) → head ++ blob ≡ spelling (PutEntry key blob) → length head ≡ 41 → length key ≡ 32
key_of key blob head eq long = omega (
  arith,
  long,
  ap length eq,
  length-append head blob,
  length-spelling (PutEntry key blob),
  length-append key blob,
)

pub put_fit : (key blob head : List ℕ) → head ++ blob ≡ spelling (PutEntry key blob) → length head ≡ 41 → length blob ≤ 20971479
    → Fits (PutEntry key blob)
put_fit key blob head eq long small = (key_of key blob head eq long, omega (arith, small))

pub delete_fit : (key entry : List ℕ) → entry ≡ spelling (DeleteEntry key) → length entry ≡ 41 → Fits (DeleteEntry key)
delete_fit key entry eq long = omega (arith, long, ap length eq, length-spelling (DeleteEntry key))

pub put_takes : {T : Type 0} (old new : Session) (head key blob : List ℕ) (room : Room) (more : ℕ) (a b : Option Told) (n m : ℕ) (x : T)
    → head ++ blob ≡ spelling (PutEntry key blob) → length head ≡ 41 → length blob ≤ 20971479
    → new ≡ record old { last = Some room.segment; size = Some (room.at + more) } → more ≡ 41 + length blob
    → room ≡ room_of old (length head + length blob) → Ran (put_steps old head blob) a b n m (Ok x) → Between a b (Puts old new (PutEntry key blob))
put_takes old new head key blob room more a b n m x eq long small is more_is room_is ran =
    let fits = put_fit key blob head eq long small in
    let size_is : more ≡ size_of (PutEntry key blob) = omega (arith, more_is, key_of key blob head eq long, length-append key blob) in
    put_fits old new head key blob a b n m x eq fits (ap (λ (s : Session). s.after) is)
    (ap (λ (s : Session). s.last) is ∙ ap (λ (r : Room). Some r.segment) room_is)
    (ap (λ (s : Session). s.size) is
    ∙ (ap (λ (r : Room). Some (r.at + more)) room_is ∙ ap (λ (k : ℕ). Some ((room_of old (length head + length blob)).at + k)) size_is)) ran

pub delete_takes : {T : Type 0} (old new : Session) (entry key : List ℕ) (room : Room) (more : ℕ) (a b : Option Told) (n m : ℕ) (x : T)
    → entry ≡ spelling (DeleteEntry key) → length entry ≡ 41 → new ≡ record old { last = Some room.segment; size = Some (room.at + more) } → more ≡ 41
    → room ≡ room_of old (length entry) → Ran (delete_steps old entry) a b n m (Ok x) → Between a b (Puts old new (DeleteEntry key))
delete_takes old new entry key room more a b n m x eq long is more_is room_is ran =
    let fits = delete_fit key entry eq long in
    let size_is : more ≡ size_of (DeleteEntry key) = omega (arith, more_is, fits) in
    delete_fits old new entry key a b n m x eq fits (ap (λ (s : Session). s.after) is)
    (ap (λ (s : Session). s.last) is ∙ ap (λ (r : Room). Some r.segment) room_is)
    (ap (λ (s : Session). s.size) is
    ∙ (ap (λ (r : Room). Some (r.at + more)) room_is ∙ ap (λ (k : ℕ). Some ((room_of old (length entry)).at + k)) size_is)) ran

blob_at : (front head blob : List ℕ) (at : ℕ) → length front ≡ at → length head ≡ 41 → IsBlobAt ((front ++ head) ++ blob) (at + 41) (length blob) blob
blob_at front head blob at e d = record {
  holds = ap (take (length blob)) (drop_at (front ++ head) blob (at + 41) (omega (arith, e, d, length-append front head)))
      ∙ take_all (length blob) blob (omega arith);
  within = omega (arith, e, d, length-append (front ++ head) blob, length-append front head);
}

lies_in : (s : Session) (head blob : List ℕ) (c : Option (List LogEntry)) (p : List LogEntry) (before now : History) → length head ≡ 41
    → SessionFits s c p before → DoesAll (put_steps s head blob) before now
    → IsBlobAt (segment_bytes (files_now now) (room_of s (length head + length blob)).segment) ((room_of s (length head + length blob)).at + 41)
    (length blob) blob
lies_in s head blob c p before now long st i =
    let more = length head + length blob in
    let room = room_of s more in
    let k = room.segment in
    let xs = room_steps s.last s.size (must_begin s.last s.size s.limit more) in
    let mid = with_steps xs before in
    let first = roomed s.after s.last s.size s.limit more c p before st in
    let cur = first.stands.last_is in
    let bytes = magic ++ spellings cur.entries in
    let g = with_act (AppendTo k head) true mid in
    let f = with_act (AppendTo k blob) true g in
    let one : IsWritten g k (bytes ++ head) = written_next mid g k bytes head cur.written (append_here mid k head true) in
    let two : IsWritten f k ((bytes ++ head) ++ blob) = written_next g f k (bytes ++ head) blob one (append_here g k blob true) in
    let now_is : now ≡ f = i ∙ with_steps-append xs ((AppendTo k head ∷ []) ++ (AppendTo k blob ∷ [])) before in
    let got : get (files_now now).segments k ≡ Some ((bytes ++ head) ++ blob) =
    ap (λ (h : History). get (files_now h).segments k) now_is ∙ (sym (read_is f k) ∙ two.read) in
    let bytes_are : segment_bytes (files_now now) k ≡ (bytes ++ head) ++ blob = ap (λ (o : Option (List ℕ)). unwrap_or o []) got in
    subst (λ (l : List ℕ). IsBlobAt l (room.at + 41) (length blob) blob) (sym bytes_are)
    (blob_at bytes head blob room.at (omega (arith, cur.size_is, length-append magic (spellings cur.entries))) long)

pub put_lies : {T : Type 0} (s : Session) (head blob : List ℕ) (room : Room) (a b : Option Told) (n m : ℕ) (x : T) → length head ≡ 41
    → room ≡ room_of s (length head + length blob) → Ran (put_steps s head blob) a b n m (Ok x)
    → Between a b (Lies s (record { segment = room.segment; at = room.at + 41; size = length blob }) blob)
put_lies s head blob room a b n m x long room_is ran =
    between_map a b (DoesAll (put_steps s head blob)) (Lies s (record { segment = room.segment; at = room.at + 41; size = length blob }) blob)
    (λ before now i c p st. subst (λ (r : Room). IsBlobAt (segment_bytes (files_now now) r.segment) (r.at + 41) (length blob) blob) (sym room_is)
    (lies_in s head blob c p before now long st i)) ran.runs

pub put_size : (key blob head : List ℕ) → head ++ blob ≡ spelling (PutEntry key blob) → length head ≡ 41 → 41 + length blob ≡ size_of (PutEntry key blob)
put_size key blob head eq long = omega (arith, key_of key blob head eq long, length-append key blob)

pub delete_size : (key entry : List ℕ) → entry ≡ spelling (DeleteEntry key) → length entry ≡ 41 → 41 ≡ size_of (DeleteEntry key)
delete_size key entry eq long = let fits = delete_fit key entry eq long in omega (arith, fits)
