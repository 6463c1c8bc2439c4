-- Lemmas on specs/Rows.antt: a commit brings no blob.
use Rattle.std.proofs.Common.{◌≡◌, ℕ, Bool, true, false, List, [], ◌∷◌, ◌++◌, Option, Some, None, Result, Ok}
use Rattle.std.proofs.Common.{refl, sym, ◌∙◌, ap, subst, arith}
use Rattle.ferry_disk.specs.Act.{AppendTo, SyncOf, History, with_act}
use Rattle.ferry_disk.specs.Device.{Told}
use Rattle.ferry_disk.specs.Image.{Fate, at_rest, fate_appended, fate_in}
use Rattle.ferry_disk.specs.Moments.{Between, with_steps}
use Rattle.ferry_disk.proofs.MomentLemmas.{between_map}
use Rattle.ferry_segment.specs.Crc.{crc, register_after, bits_of}
use Rattle.ferry_segment.specs.Entry.{LogEntry, spelling}
use Rattle.ferry_stops.specs.Blobs.{HasBlob, row_in, Gains}
use Rattle.ferry_stops.specs.Chance.{all_bytes}
use Rattle.ferry_write.specs.Room.{behind, sync_steps, commit_steps}
use Rattle.ferry_write.specs.Rows.{RowsStand, SessionRows, BringsNone, KeepsRows}
use Rattle.ferry_write.specs.Script.{DoesAll, StopsIn, Ran}
use Rattle.ferry_write.specs.Session.{Stands, SessionFits}
use Rattle.ferry_write.specs.declared.fault.WriteFault.{WriteFault}
use Rattle.ferry_write.specs.declared.session.Session.{Session}
use Rattle.ferry_write.proofs.ScriptLemmas.{stop_moments, ran_stops}
use Rattle.ferry_write.proofs.StandLemmas.{append_here}
use Rattle.ferry_write.proofs.SessionLemmas.{synced}
use Rattle.ferry_write.proofs.CommitLemmas.{commit_bytes}
use Rattle.ferry_write.proofs.RowLemmas.{row_other, append_gains, sync_gains, row_synced, short_none}
use Rattle.ferry_write.proofs.GainLemmas.{Grows, grows_then, sync_grows, own_gains, rows_as}

commit_none : (blob : List ℕ) → HasBlob commit_bytes blob → ⊥
unfolding spelling crc register_after bits_of
commit_none blob has = short_none commit_bytes blob (omega arith) has

append_grows : (base : History) (IsNew : List ℕ → Type 0) (after last : Option ℕ) (c : Option (List LogEntry)) (p : List LogEntry) (h : History)
    → Stands after last None c p h → RowsStand last None h → Gains base IsNew h
    → Grows base IsNew (Some (behind last)) None h ((AppendTo (behind last) commit_bytes ∷ []) ++ (SyncOf (behind last) ∷ []))
append_grows base IsNew after last c p h st rows gains =
    let m = behind last in
    let g = with_act (AppendTo m commit_bytes) true h in
    let absent : fate_in h m ≡ at_rest None = st.none m (omega arith) in
    let none : all_bytes (fate_in h m) ≡ [] = ap all_bytes absent in
    let row : row_in h m ≡ all_bytes (fate_in h m) = rows.above m (omega arith) ∙ sym none in
    let next : (done : Bool) → Gains base IsNew (with_act (AppendTo m commit_bytes) done h) =
    (λ done. append_gains base h IsNew m commit_bytes done gains row
    (λ blob has. absurd (commit_none blob (subst (λ (l : List ℕ). HasBlob (l ++ commit_bytes) blob) none has)))) in
    let here : fate_in g m ≡ fate_appended commit_bytes true (at_rest None) =
    append_here h m commit_bytes true ∙ ap (fate_appended commit_bytes true) absent in
    let same : (fate_in g m).read ≡ (fate_in g m).all = ap (λ (f : Fate). f.read) here ∙ sym (ap (λ (f : Fate). f.all) here) in
    let synced : (done : Bool) → Gains base IsNew (with_act (SyncOf m) done g) = (λ done. sync_gains base g IsNew m done (next true) same) in
    record {
      rows = record {
        above = λ n le. row_synced g m true n
            ∙ (row_other h m commit_bytes true n (λ q. omega (arith, le, q)) ∙ rows.above n (omega (arith, le)));
        current = tt;
      };
      last_gains = synced true;
      each = (gains, next false, (next true, synced false, synced true));
    }

commit_grows : (s : Session) (c : Option (List LogEntry)) (p : List LogEntry) (h : History) (IsNew : List ℕ → Type 0) → SessionFits s c p h
    → SessionRows s h → Grows h IsNew (Some (behind s.last)) None h (commit_steps s.last s.size)
commit_grows s c p h IsNew st rows =
    let first = sync_grows h IsNew s.after s.last s.size c p h st rows.rows (own_gains h IsNew rows.traced) in
    let mid = synced s.after s.last s.size c p h st in
    grows_then h IsNew s.last None (Some (behind s.last)) None h (sync_steps s.last s.size)
    ((AppendTo (behind s.last) commit_bytes ∷ []) ++ (SyncOf (behind s.last) ∷ [])) first
    (append_grows h IsNew s.after s.last c p (with_steps (sync_steps s.last s.size) h) mid.stands first.rows first.last_gains)

pub commit_brings : {T : Type 0} (s : Session) (a b : Option Told) (n m : ℕ) (result : Result T WriteFault)
    → Ran (commit_steps s.last s.size) a b n m result → Between a b (BringsNone s)
commit_brings s a b n m result ran =
    between_map a b (StopsIn (commit_steps s.last s.size)) (BringsNone s)
    (λ before now stop c p st rows. stop_moments (Gains before (λ _. ⊥)) (commit_steps s.last s.size) before now
    (commit_grows s c p before (λ _. ⊥) st rows).each stop)
    (ran_stops (commit_steps s.last s.size) a b n m result ran)

pub commit_rows : {T : Type 0} (old new : Session) (a b : Option Told) (n m : ℕ) (x : T) → new.last ≡ Some (behind old.last) → new.size ≡ None
    → Ran (commit_steps old.last old.size) a b n m (Ok x) → Between a b (KeepsRows old new)
commit_rows old new a b n m x e d ran =
    between_map a b (DoesAll (commit_steps old.last old.size)) (KeepsRows old new)
    (λ before now i c p st rows.
    let g = commit_grows old c p before (λ _. ⊥) st rows in
    rows_as (Some (behind old.last)) None (Some (behind old.last)) None (with_steps (commit_steps old.last old.size) before) now refl refl i
    g.last_gains.traced g.rows new e d) ran.runs
