-- Lemmas on specs/Rows.antt: the scripts of a session's calls bring the blob of their entry and no other.
use Rattle.std.proofs.Common.{◌≡◌, ◌⊎◌, inl, inr, ℕ, ◌+◌, Bool, true, false, List, [], ◌∷◌, ◌++◌, length, Option, Some, None}
use Rattle.std.proofs.Common.{Result, Ok, refl, sym, ◌∙◌, ap, subst, arith}
use Rattle.std.proofs.lemmas.List.{append-nil, append_assoc}
use Rattle.ferry_disk.specs.Act.{Step, AppendTo, SyncOf, History, with_act}
use Rattle.ferry_disk.specs.Device.{Told}
use Rattle.ferry_disk.specs.Image.{fate_in}
use Rattle.ferry_disk.specs.Moments.{Between, with_steps, EachMoment}
use Rattle.ferry_disk.proofs.MomentLemmas.{between_map}
use Rattle.ferry_segment.specs.Entry.{LogEntry, PutEntry, DeleteEntry, Fits, spelling, size_of}
use Rattle.ferry_segment.specs.Segment.{magic, spellings}
use Rattle.ferry_stops.specs.Blobs.{HasBlob, BlobOf, row_in, AllTraced, Gains}
use Rattle.ferry_stops.specs.Chance.{all_bytes}
use Rattle.ferry_write.specs.Room.{behind, is_full, must_begin, room_in, room_of, sync_steps, room_steps, put_steps, delete_steps}
use Rattle.ferry_write.specs.Rows.{RowsStand, SessionRows, IsPutOf, Brings, KeepsRows}
use Rattle.ferry_write.specs.Script.{DoesAll, StopsIn, Ran}
use Rattle.ferry_write.specs.Session.{Stands, SessionFits}
use Rattle.ferry_write.specs.declared.fault.WriteFault.{WriteFault}
use Rattle.ferry_write.specs.declared.room.Room.{Room}
use Rattle.ferry_write.specs.declared.session.Session.{Session}
use Rattle.ferry_write.proofs.ScriptLemmas.{with_steps-append, each_append, stop_moments, ran_stops}
use Rattle.ferry_write.proofs.StandLemmas.{append_here, written_all}
use Rattle.ferry_write.proofs.SessionLemmas.{synced, roomed}
use Rattle.ferry_write.proofs.RowLemmas.{row_blob, blob_more, row_other, row_all, append_gains, sync_gains, row_synced, data_blob, short_none}

-- what holds of rows and blobs behind some steps, and at each moment of them
pub record Grows (base : History) (IsNew : List ℕ → Type 0) (last size : Option ℕ) (h : History) (steps : List Step) : Type 0 where
  pub rows : RowsStand last size (with_steps steps h)
  pub last_gains : Gains base IsNew (with_steps steps h)
  pub each : EachMoment (Gains base IsNew) h steps

pub grows_then : (base : History) (IsNew : List ℕ → Type 0) (l s k t : Option ℕ) (h : History) (xs ys : List Step) → Grows base IsNew l s h xs
    → Grows base IsNew k t (with_steps xs h) ys → Grows base IsNew k t h (xs ++ ys)
grows_then base IsNew l s k t h xs ys a b = record {
  rows = subst (RowsStand k t) (sym (with_steps-append xs ys h)) b.rows;
  last_gains = subst (Gains base IsNew) (sym (with_steps-append xs ys h)) b.last_gains;
  each = each_append (Gains base IsNew) h xs ys a.each b.each;
}

no_steps : (base : History) (IsNew : List ℕ → Type 0) (l s : Option ℕ) (h : History) → RowsStand l s h → Gains base IsNew h → Grows base IsNew l s h []
no_steps base IsNew l s h rows gains = record { rows = rows; last_gains = gains; each = gains }

-- ---- the Sync of the segment that is written

pub sync_grows : (base : History) (IsNew : List ℕ → Type 0) (after last size : Option ℕ) (c : Option (List LogEntry)) (p : List LogEntry) (h : History)
    → Stands after last size c p h → RowsStand last size h → Gains base IsNew h → Grows base IsNew last None h (sync_steps last size)
sync_grows base IsNew after None size c p h st rows gains = no_steps base IsNew None None h (record { above = rows.above; current = tt }) gains
sync_grows base IsNew after (Some n) None c p h st rows gains = no_steps base IsNew (Some n) None h rows gains
sync_grows base IsNew after (Some n) (Some s) c p h st rows gains =
    let w = st.last_is.written in
    let next : (done : Bool) → Gains base IsNew (with_act (SyncOf n) done h) = (λ done. sync_gains base h IsNew n done gains (w.read ∙ sym w.all)) in
    record {
      rows = record { above = λ m le. row_synced h n true m ∙ rows.above m le; current = tt };
      last_gains = next true;
      each = (gains, next false, next true);
    }

-- ---- a segment that begins

magic_none : (blob : List ℕ) → HasBlob magic blob → ⊥
magic_none blob has = short_none magic blob (omega arith) has

begin_grows : (base : History) (IsNew : List ℕ → Type 0) (after last : Option ℕ) (c : Option (List LogEntry)) (p : List LogEntry) (h : History)
    → Stands after last None c p h → RowsStand last None h → Gains base IsNew h
    → Grows base IsNew (Some (behind last)) (Some 8) h (AppendTo (behind last) magic ∷ [])
begin_grows base IsNew after last c p h st rows gains =
    let m = behind last in
    let none : all_bytes (fate_in h m) ≡ [] = ap all_bytes (st.none m (omega arith)) in
    let row : row_in h m ≡ all_bytes (fate_in h m) = rows.above m (omega arith) ∙ sym none in
    let next : (done : Bool) → Gains base IsNew (with_act (AppendTo m magic) done h) =
    (λ done. append_gains base h IsNew m magic done gains row
    (λ blob has. absurd (magic_none blob (subst (λ (l : List ℕ). HasBlob (l ++ magic) blob) none has)))) in
    record {
      rows = record {
        above = λ n le. row_other h m magic true n (λ q. omega (arith, le, q)) ∙ rows.above n (omega (arith, le));
        current = row_all h m magic true row;
      };
      last_gains = next true;
      each = (gains, next false, next true);
    }

new_grows : (base : History) (IsNew : List ℕ → Type 0) (after last size : Option ℕ) (c : Option (List LogEntry)) (p : List LogEntry) (h : History)
    → Stands after last size c p h → RowsStand last size h → Gains base IsNew h
    → Grows base IsNew (Some (behind last)) (Some 8) h (sync_steps last size ++ (AppendTo (behind last) magic ∷ []))
new_grows base IsNew after last size c p h st rows gains =
    let first = sync_grows base IsNew after last size c p h st rows gains in
    let mid = synced after last size c p h st in
    grows_then base IsNew last None (Some (behind last)) (Some 8) h (sync_steps last size) (AppendTo (behind last) magic ∷ []) first
    (begin_grows base IsNew after last c p (with_steps (sync_steps last size) h) mid.stands first.rows first.last_gains)

room_grows_by : (base : History) (IsNew : List ℕ → Type 0) (after : Option ℕ) (l s : ℕ) (b : Bool) (c : Option (List LogEntry)) (p : List LogEntry)
    (h : History) → Stands after (Some l) (Some s) c p h → RowsStand (Some l) (Some s) h → Gains base IsNew h
    → Grows base IsNew (Some (room_in (Some l) (Some s) b).segment) (Some (room_in (Some l) (Some s) b).at) h (room_steps (Some l) (Some s) b)
room_grows_by base IsNew after l s true c p h st rows gains = new_grows base IsNew after (Some l) (Some s) c p h st rows gains
room_grows_by base IsNew after l s false c p h st rows gains = no_steps base IsNew (Some l) (Some s) h rows gains

room_grows : (base : History) (IsNew : List ℕ → Type 0) (after last size : Option ℕ) (limit more : ℕ) (c : Option (List LogEntry)) (p : List LogEntry)
    (h : History) → Stands after last size c p h → RowsStand last size h → Gains base IsNew h
    → Grows base IsNew (Some (room_in last size (must_begin last size limit more)).segment)
    (Some (room_in last size (must_begin last size limit more)).at) h (room_steps last size (must_begin last size limit more))
room_grows base IsNew after None size limit more c p h st rows gains = new_grows base IsNew after None size c p h st rows gains
room_grows base IsNew after (Some l) None limit more c p h st rows gains = new_grows base IsNew after (Some l) None c p h st rows gains
room_grows base IsNew after (Some l) (Some s) limit more c p h st rows gains =
    room_grows_by base IsNew after l s (is_full s limit more) c p h st rows gains

-- ---- an entry in one append, and in two

-- what an append brings to a segment that has these bytes, of which none is new
claim_in : (h : History) (n : ℕ) (e : LogEntry) (bytes all : List ℕ) → row_in h n ≡ bytes → (blob : List ℕ)
    → HasBlob bytes blob ⊎ IsPutOf e blob → BlobOf h blob ⊎ IsPutOf e blob
claim_in h n e bytes all row blob (inl has) = inl (row_blob h n blob (subst (λ (l : List ℕ). HasBlob l blob) (sym row) has))
claim_in h n e bytes all row blob (inr p) = inr p

one_grows : (base : History) (after : Option ℕ) (n s : ℕ) (c : Option (List LogEntry)) (p : List LogEntry) (h : History) (e : LogEntry) (x : List ℕ)
    → Stands after (Some n) (Some s) c p h → RowsStand (Some n) (Some s) h → Gains base (IsPutOf e) h → Fits e → x ≡ spelling e
    → Grows base (IsPutOf e) (Some n) (Some (s + size_of e)) h (AppendTo n x ∷ [])
one_grows base after n s c p h e x st rows gains fits eq =
    let cur = st.last_is in
    let bytes = magic ++ spellings cur.entries in
    let all : all_bytes (fate_in h n) ≡ bytes = written_all h n bytes cur.written in
    let next : (done : Bool) → Gains base (IsPutOf e) (with_act (AppendTo n x) done h) =
    (λ done. append_gains base h (IsPutOf e) n x done gains rows.current
    (λ blob has. claim_in h n e bytes bytes (rows.current ∙ all) blob
    (data_blob cur.entries e x [] blob cur.fit fits (append-nil x ∙ eq) (subst (λ (l : List ℕ). HasBlob (l ++ x) blob) all has)))) in
    record {
      rows = record {
        above = λ m le. row_other h n x true m (λ q. omega (arith, le, q)) ∙ rows.above m le;
        current = row_all h n x true rows.current;
      };
      last_gains = next true;
      each = (gains, next false, next true);
    }

two_grows : (base : History) (after : Option ℕ) (n s : ℕ) (c : Option (List LogEntry)) (p : List LogEntry) (h : History) (e : LogEntry) (x y : List ℕ)
    → Stands after (Some n) (Some s) c p h → RowsStand (Some n) (Some s) h → Gains base (IsPutOf e) h → Fits e → x ++ y ≡ spelling e
    → Grows base (IsPutOf e) (Some n) (Some (s + size_of e)) h ((AppendTo n x ∷ []) ++ (AppendTo n y ∷ []))
two_grows base after n s c p h e x y st rows gains fits eq =
    let cur = st.last_is in
    let bytes = magic ++ spellings cur.entries in
    let mid = with_act (AppendTo n x) true h in
    let all : all_bytes (fate_in h n) ≡ bytes = written_all h n bytes cur.written in
    let next : (done : Bool) → Gains base (IsPutOf e) (with_act (AppendTo n x) done h) =
    (λ done. append_gains base h (IsPutOf e) n x done gains rows.current
    (λ blob has. claim_in h n e bytes bytes (rows.current ∙ all) blob
    (data_blob cur.entries e x y blob cur.fit fits eq (subst (λ (l : List ℕ). HasBlob (l ++ x) blob) all has)))) in
    let row : row_in mid n ≡ all_bytes (fate_in mid n) = row_all h n x true rows.current in
    let grown : all_bytes (fate_in mid n) ≡ bytes ++ x = ap all_bytes (append_here h n x true) ∙ ap (λ (l : List ℕ). l ++ x) all in
    let then_next : (done : Bool) → Gains base (IsPutOf e) (with_act (AppendTo n y) done mid) =
    (λ done. append_gains base mid (IsPutOf e) n y done (next true) row
    (λ blob has. later h mid n e bytes x blob (rows.current ∙ all)
    (data_blob cur.entries e (x ++ y) [] blob cur.fit fits (append-nil (x ++ y) ∙ eq)
    (subst (λ (l : List ℕ). HasBlob l blob) (append_assoc bytes x y) (subst (λ (l : List ℕ). HasBlob (l ++ y) blob) grown has))))) in
    record {
      rows = record {
        above = λ m le. row_other mid n y true m (λ q. omega (arith, le, q)) ∙ (row_other h n x true m (λ q. omega (arith, le, q)) ∙ rows.above m le);
        current = row_all mid n y true row;
      };
      last_gains = then_next true;
      each = (gains, next false, (next true, then_next false, then_next true));
    }
  where
    later : (h mid : History) (n : ℕ) (e : LogEntry) (bytes x blob : List ℕ) → row_in h n ≡ bytes → HasBlob bytes blob ⊎ IsPutOf e blob
        → BlobOf (with_act (AppendTo n x) true h) blob ⊎ IsPutOf e blob
    later h mid n e bytes x blob row (inl has) =
        inl (blob_more h (AppendTo n x) true blob (row_blob h n blob (subst (λ (l : List ℕ). HasBlob l blob) (sym row) has)))
    later h mid n e bytes x blob row (inr p) = inr p

-- ---- the calls

pub own_gains : (h : History) (IsNew : List ℕ → Type 0) → AllTraced h → Gains h IsNew h
own_gains h IsNew traced = record { traced = traced; gained = λ blob is. inl is }

put_grows : (s : Session) (head key blob : List ℕ) (c : Option (List LogEntry)) (p : List LogEntry) (h : History)
    → head ++ blob ≡ spelling (PutEntry key blob) → Fits (PutEntry key blob) → SessionFits s c p h → SessionRows s h
    → Grows h (IsPutOf (PutEntry key blob)) (Some (room_of s (length head + length blob)).segment)
    (Some ((room_of s (length head + length blob)).at + size_of (PutEntry key blob))) h (put_steps s head blob)
put_grows s head key blob c p h eq fits st rows =
    let more = length head + length blob in
    let e = PutEntry key blob in
    let room = room_of s more in
    let xs = room_steps s.last s.size (must_begin s.last s.size s.limit more) in
    let mid = roomed s.after s.last s.size s.limit more c p h st in
    let first = room_grows h (IsPutOf e) s.after s.last s.size s.limit more c p h st rows.rows (own_gains h (IsPutOf e) rows.traced) in
    grows_then h (IsPutOf e) (Some room.segment) (Some room.at) (Some room.segment) (Some (room.at + size_of e)) h xs
    ((AppendTo room.segment head ∷ []) ++ (AppendTo room.segment blob ∷ [])) first
    (two_grows h s.after room.segment room.at c p (with_steps xs h) e head blob mid.stands first.rows first.last_gains fits eq)

pub put_brings : {T : Type 0} (s : Session) (head key blob : List ℕ) (a b : Option Told) (n m : ℕ) (result : Result T WriteFault)
    → head ++ blob ≡ spelling (PutEntry key blob) → Fits (PutEntry key blob) → Ran (put_steps s head blob) a b n m result
    → Between a b (Brings s (PutEntry key blob))
put_brings s head key blob a b n m result eq fits ran =
    between_map a b (StopsIn (put_steps s head blob)) (Brings s (PutEntry key blob))
    (λ before now stop c p st rows. stop_moments (Gains before (IsPutOf (PutEntry key blob))) (put_steps s head blob) before now
    (put_grows s head key blob c p before eq fits st rows).each stop)
    (ran_stops (put_steps s head blob) a b n m result ran)

pub rows_as : (last size end count : Option ℕ) (h g : History) → end ≡ last → count ≡ size → g ≡ h → AllTraced h → RowsStand last size h
    → (s : Session) → s.last ≡ end → s.size ≡ count → SessionRows s g
rows_as last size end count h g e d i traced rows s f k = record {
  traced = subst AllTraced (sym i) traced;
  rows = subst (RowsStand s.last s.size) (sym i)
      (subst (λ (x : Option ℕ). RowsStand x s.size h) (sym (f ∙ e)) (subst (λ (x : Option ℕ). RowsStand last x h) (sym (k ∙ d)) rows));
}

pub put_rows : {T : Type 0} (old new : Session) (head key blob : List ℕ) (a b : Option Told) (n m : ℕ) (x : T)
    → head ++ blob ≡ spelling (PutEntry key blob) → Fits (PutEntry key blob)
    → new.last ≡ Some (room_of old (length head + length blob)).segment
    → new.size ≡ Some ((room_of old (length head + length blob)).at + size_of (PutEntry key blob))
    → Ran (put_steps old head blob) a b n m (Ok x) → Between a b (KeepsRows old new)
put_rows old new head key blob a b n m x eq fits e d ran =
    between_map a b (DoesAll (put_steps old head blob)) (KeepsRows old new)
    (λ before now i c p st rows.
    let g = put_grows old head key blob c p before eq fits st rows in
    rows_as (Some (room_of old (length head + length blob)).segment) (Some ((room_of old (length head + length blob)).at + size_of (PutEntry key blob)))
    (Some (room_of old (length head + length blob)).segment) (Some ((room_of old (length head + length blob)).at + size_of (PutEntry key blob)))
    (with_steps (put_steps old head blob) before) now refl refl i g.last_gains.traced g.rows new e d) ran.runs

delete_grows : (s : Session) (entry key : List ℕ) (c : Option (List LogEntry)) (p : List LogEntry) (h : History)
    → entry ≡ spelling (DeleteEntry key) → Fits (DeleteEntry key) → SessionFits s c p h → SessionRows s h
    → Grows h (IsPutOf (DeleteEntry key)) (Some (room_of s (length entry)).segment)
    (Some ((room_of s (length entry)).at + size_of (DeleteEntry key))) h (delete_steps s entry)
delete_grows s entry key c p h eq fits st rows =
    let more = length entry in
    let e = DeleteEntry key in
    let room = room_of s more in
    let xs = room_steps s.last s.size (must_begin s.last s.size s.limit more) in
    let mid = roomed s.after s.last s.size s.limit more c p h st in
    let first = room_grows h (IsPutOf e) s.after s.last s.size s.limit more c p h st rows.rows (own_gains h (IsPutOf e) rows.traced) in
    grows_then h (IsPutOf e) (Some room.segment) (Some room.at) (Some room.segment) (Some (room.at + size_of e)) h xs
    (AppendTo room.segment entry ∷ []) first
    (one_grows h s.after room.segment room.at c p (with_steps xs h) e entry mid.stands first.rows first.last_gains fits eq)

pub delete_brings : {T : Type 0} (s : Session) (entry key : List ℕ) (a b : Option Told) (n m : ℕ) (result : Result T WriteFault)
    → entry ≡ spelling (DeleteEntry key) → Fits (DeleteEntry key) → Ran (delete_steps s entry) a b n m result
    → Between a b (Brings s (DeleteEntry key))
delete_brings s entry key a b n m result eq fits ran =
    between_map a b (StopsIn (delete_steps s entry)) (Brings s (DeleteEntry key))
    (λ before now stop c p st rows. stop_moments (Gains before (IsPutOf (DeleteEntry key))) (delete_steps s entry) before now
    (delete_grows s entry key c p before eq fits st rows).each stop)
    (ran_stops (delete_steps s entry) a b n m result ran)

pub delete_rows : {T : Type 0} (old new : Session) (entry key : List ℕ) (a b : Option Told) (n m : ℕ) (x : T)
    → entry ≡ spelling (DeleteEntry key) → Fits (DeleteEntry key) → new.last ≡ Some (room_of old (length entry)).segment
    → new.size ≡ Some ((room_of old (length entry)).at + size_of (DeleteEntry key)) → Ran (delete_steps old entry) a b n m (Ok x)
    → Between a b (KeepsRows old new)
delete_rows old new entry key a b n m x eq fits e d ran =
    between_map a b (DoesAll (delete_steps old entry)) (KeepsRows old new)
    (λ before now i c p st rows.
    let g = delete_grows old entry key c p before eq fits st rows in
    rows_as (Some (room_of old (length entry)).segment) (Some ((room_of old (length entry)).at + size_of (DeleteEntry key)))
    (Some (room_of old (length entry)).segment) (Some ((room_of old (length entry)).at + size_of (DeleteEntry key)))
    (with_steps (delete_steps old entry) before) now refl refl i g.last_gains.traced g.rows new e d) ran.runs

-- ---- what `put` and `delete` answer

pub put_takes_rows : {T : Type 0} (old new : Session) (head key blob : List ℕ) (room : Room) (more : ℕ) (a b : Option Told) (n m : ℕ) (x : T)
    → head ++ blob ≡ spelling (PutEntry key blob) → Fits (PutEntry key blob)
    → new ≡ record old { last = Some room.segment; size = Some (room.at + more) } → more ≡ size_of (PutEntry key blob)
    → room ≡ room_of old (length head + length blob) → Ran (put_steps old head blob) a b n m (Ok x) → Between a b (KeepsRows old new)
put_takes_rows old new head key blob room more a b n m x eq fits is more_is room_is ran =
    put_rows old new head key blob a b n m x eq fits
    (ap (λ (s : Session). s.last) is ∙ ap (λ (r : Room). Some r.segment) room_is)
    (ap (λ (s : Session). s.size) is
    ∙ (ap (λ (r : Room). Some (r.at + more)) room_is ∙ ap (λ (k : ℕ). Some ((room_of old (length head + length blob)).at + k)) more_is)) ran

pub delete_takes_rows : {T : Type 0} (old new : Session) (entry key : List ℕ) (room : Room) (more : ℕ) (a b : Option Told) (n m : ℕ) (x : T)
    → entry ≡ spelling (DeleteEntry key) → Fits (DeleteEntry key)
    → new ≡ record old { last = Some room.segment; size = Some (room.at + more) } → more ≡ size_of (DeleteEntry key)
    → room ≡ room_of old (length entry) → Ran (delete_steps old entry) a b n m (Ok x) → Between a b (KeepsRows old new)
delete_takes_rows old new entry key room more a b n m x eq fits is more_is room_is ran =
    delete_rows old new entry key a b n m x eq fits
    (ap (λ (s : Session). s.last) is ∙ ap (λ (r : Room). Some r.segment) room_is)
    (ap (λ (s : Session). s.size) is
    ∙ (ap (λ (r : Room). Some (r.at + more)) room_is ∙ ap (λ (k : ℕ). Some ((room_of old (length entry)).at + k)) more_is)) ran
