-- Lemmas on specs/Steps.antt: an entry that is read and put again, the entries of a segment, and those of a log.
use Rattle.std.proofs.Common.{◌≡◌, ℕ, ◌+◌, Bool, true, false, if◌then◌else◌, List, [], ◌∷◌, ◌++◌, length, take, drop, map}
use Rattle.std.proofs.Common.{Bor, Option, Result, Ok, Err, refl, sym, ◌∙◌, ap, subst, arith}
use Rattle.std.proofs.lemmas.List.{append-nil, take_at}
use Rattle.ferry_compact.proofs.StepLemmas.{Reads, did_as, did_front, did_none, did_nothing, did_then, read_err}
use Rattle.ferry_compact.proofs.WentLemmas.{moved_here, went_here}
use Rattle.ferry_compact.specs.Fault.{RefusesCompact, compact_failed, store_fault}
use Rattle.ferry_compact.specs.Reading.{HasEntry, IsOutside}
use Rattle.ferry_compact.specs.Moving.{lies_at}
use Rattle.ferry_compact.specs.Stays.{Notes, is_below, noted_at}
use Rattle.ferry_compact.specs.Steps.{Did, EachOfEntry, EachPut, MovesEntry, Moved, PutsEntry, PutsOne, RefusesEntry, RefusesMove, RefusesPut, Went}
use Rattle.ferry_compact.specs.Steps.{takes_entry, taken_from}
use Rattle.ferry_compact.specs.declared.fault.CompactFault.{CompactFault}
use Rattle.ferry_compact.specs.declared.fault.CompactFault.TheVariants.{Damaged, Device, Memory, Numbers}
use Rattle.ferry_disk.specs.Act.{History, files_now}
use Rattle.ferry_disk.specs.Device.{KeptWhere, RoseWhere, Told, heard, store_failed}
use Rattle.ferry_disk.specs.Files.{Files, segment_bytes}
use Rattle.ferry_disk.specs.declared.shelf.StoreFault.{StoreFault}
use Rattle.ferry_disk.specs.declared.shelf.StoreFault.TheVariants as Store
use Rattle.ferry_log.specs.Log.{Located}
use Rattle.ferry_log.specs.State.{LogState, place_in}
use Rattle.ferry_segment.proofs.EntryLemmas.{length-spelling}
use Rattle.ferry_segment.proofs.HeadLemmas.{head_size}
use Rattle.ferry_segment.specs.Entry.{DeleteEntry, CommitEntry, LogEntry, PutEntry, entry_view, size_of, spelling}
use Rattle.ferry_segment.specs.declared.entry.Entry.{Entry}
use Rattle.ferry_segment.specs.declared.entry.Entry.TheVariants as Entries
use Rattle.ferry_segment.specs.Head.{head_of}
use Rattle.ferry_segment.specs.declared.head.Head.{Head}
use Rattle.ferry_write.specs.declared.session.Session.{Session}

-- ---- faults

pub store_is : (fault : StoreFault) → compact_failed (store_fault fault) ≡ store_failed fault
store_is Store.Failed = refl
store_is Store.Memory = refl

-- a fault of the device or of memory says nothing of the files
pub outside_refuses : (fault : CompactFault) (files : Files) → IsOutside fault → RefusesCompact files fault
outside_refuses (Damaged segment at) files out = out
outside_refuses Device files out = tt
outside_refuses Memory files out = tt
outside_refuses Numbers files out = absurd out

-- ---- an entry that is read whole

-- its bytes are its spelling
pub entry_read : (files : Files) (segment at : ℕ) (head : Head) (entry : LogEntry) (bytes : List ℕ) → HasEntry files segment at head entry
    → bytes ≡ take head.size (drop at (segment_bytes files segment)) → bytes ≡ spelling entry ++ []
entry_read files segment at head entry bytes has is =
    let size : length (spelling entry) ≡ head.size = length-spelling entry ∙ (sym (head_size entry) ∙ ap (λ (h : Head). h.size) (sym has.head_is)) in
    is ∙ (ap (take head.size) has.begins.spelled
    ∙ (take_at (spelling entry) (drop (at + size_of entry) (segment_bytes files segment)) head.size size ∙ sym (append-nil (spelling entry))))

-- a head with the tag of a PUT is that of one
pub put_by_tag : (head : Head) (entry : LogEntry) → head ≡ head_of entry → head.tag ≡ 0 → (key : List ℕ) × (blob : List ℕ) × (entry ≡ PutEntry key blob)
put_by_tag head (PutEntry key blob) is tag = (key, blob, refl)
put_by_tag head (DeleteEntry key) is tag = absurd (omega (arith, tag, ap (λ (h : Head). h.tag) is))
put_by_tag head CommitEntry is tag = absurd (omega (arith, tag, ap (λ (h : Head). h.tag) is))

pub went_read : (t : ℕ) (session : Session) (entries : List LogEntry) (h g : History) → g ≡ h → Went t session entries h g
went_read t session entries h g e = subst (Went t session entries h) (sym e) (went_here t session entries h)

pub each_read : (segment at : ℕ) (head : Head) (session : Session) (h g : History) → g ≡ h → EachOfEntry segment at head session h g
each_read segment at head session h g e t entry has = went_read t session (entry ∷ []) h g e

-- it was read, and then put again
pub put_read : (segment at : ℕ) (head : Head) (session now : Session) (key blob : List ℕ) (R : CompactFault → History → History → Type 0)
    (a b c : Option Told) (n m k : ℕ) (result : Result (Unit {0}) CompactFault)
    → Did Reads (λ h g. (g ≡ h) × ((entry : LogEntry) → HasEntry (files_now h) segment at head entry → entry ≡ PutEntry key blob)) R a b n m (Ok tt)
    → Did (EachPut (PutEntry key blob) session) (PutsOne (PutEntry key blob) session now) (RefusesPut session) b c m k result
    → Did (EachOfEntry segment at head session) (PutsEntry segment at head session now) (RefusesEntry segment at head session) a c n k result
put_read segment at head session now key blob R a b c n m k result p q =
    did_then Reads (λ h g. (g ≡ h) × ((entry : LogEntry) → HasEntry (files_now h) segment at head entry → entry ≡ PutEntry key blob)) R
    (EachPut (PutEntry key blob) session) (PutsOne (PutEntry key blob) session now) (RefusesPut session) (EachOfEntry segment at head session)
    (PutsEntry segment at head session now) (RefusesEntry segment at head session) a b c n m k result
    (λ h g i e d known f t entry has.
    subst (λ (x : History). Went t session (entry ∷ []) x i) e
    (subst (λ (x : LogEntry). Went t session (x ∷ []) g i) (sym (known.1 entry has)) (f t)))
    (λ h g i e d known f t entry has.
    subst (λ (x : History). Moved t session now (entry ∷ []) x i) e
    (subst (λ (x : LogEntry). Moved t session now (x ∷ []) g i) (sym (known.1 entry has)) (f t)))
    (λ fault h g i e known f t entry has. subst (λ (x : History). RefusesMove t session fault x i) e (f t))
    p q

-- it was read, and isn't right
pub damaged_read : (segment at : ℕ) (head : Head) (session now : Session) (R : CompactFault → History → History → Type 0) (fault : CompactFault)
    (a b : Option Told) (n m : ℕ) → compact_failed fault ≡ false
    → Did Reads (λ h g. (g ≡ h) × ((entry : LogEntry) → HasEntry (files_now h) segment at head entry → ⊥)) R a b n m (Ok tt)
    → Did (EachOfEntry segment at head session) (PutsEntry segment at head session now) (RefusesEntry segment at head session) a b n m (Err fault)
damaged_read segment at head session now R fault a b n m still p =
    did_then Reads (λ h g. (g ≡ h) × ((entry : LogEntry) → HasEntry (files_now h) segment at head entry → ⊥)) R
    Reads Reads (λ f h g. Unit {0}) (EachOfEntry segment at head session)
    (PutsEntry segment at head session now) (RefusesEntry segment at head session) a b b n m m (Err fault)
    (λ h g i e d known f t entry has. absurd (known.1 entry has))
    (λ h g i e d known f t entry has. absurd (known.1 entry has))
    (λ x h g i e known f t entry has. absurd (known.1 entry has))
    p (did_nothing Reads Reads (λ f h g. Unit {0}) b m fault still (λ h. refl) (λ h. tt))

store_outside : (fault : StoreFault) → IsOutside (store_fault fault)
store_outside Store.Failed = tt
store_outside Store.Memory = tt

-- it couldn't be read
pub unread_entry : (segment at : ℕ) (head : Head) (session now : Session) (fault : StoreFault) (a b : Option Told) (n m : ℕ)
    → KeptWhere (store_failed fault) (heard a) b → RoseWhere (store_failed fault) n m
    → Did (EachOfEntry segment at head session) (PutsEntry segment at head session now) (RefusesEntry segment at head session) a b n m
    (Err (store_fault fault))
unread_entry segment at head session now fault a b n m same caused =
    did_front Reads Reads (λ f h g. (g ≡ h) × Unit {0}) (EachOfEntry segment at head session) (PutsEntry segment at head session now)
    (RefusesEntry segment at head session) a b n m (store_fault fault) (each_read segment at head session)
    (λ h g e t entry has committed pending w. outside_refuses (store_fault fault) (files_now g) (store_outside fault))
    (read_err (Unit {0}) Reads (λ f files. Unit {0}) a b n m (store_fault fault)
    (subst (λ (d : Bool). KeptWhere d (heard a) b) (sym (store_is fault)) same)
    (subst (λ (d : Bool). RoseWhere d n m) (sym (store_is fault)) caused) (λ files tells. tt))

-- an entry of the program that is a PUT
pub not_put : (e : Entry) (key blob : List ℕ) → ((k : List ℕ) (b : Bor (List ℕ)) → e ≡ Entries.Put k b → ⊥) → entry_view e ≡ PutEntry key blob → ⊥
not_put (Entries.Put k b) key blob off is = off k b refl
not_put (Entries.Delete k) key blob off is = let no : ⊥ = cc in no
not_put Entries.Commit key blob off is = let no : ⊥ = cc in no

-- ---- whether an entry is put again, by its head

pub takes_put : (state : LogState) (notes : Notes) (segment at : ℕ) (head : Head) (entry : LogEntry) → head ≡ head_of entry → head.tag ≡ 0
    → takes_entry state notes segment at entry ≡ lies_at (place_in state head.key) segment (at + 41)
takes_put state notes segment at head (PutEntry key blob) is tag =
    ap (λ (h : Head). lies_at (place_in state h.key) segment (at + 41)) (sym is)
takes_put state notes segment at head (DeleteEntry key) is tag = absurd (omega (arith, tag, ap (λ (h : Head). h.tag) is))
takes_put state notes segment at head CommitEntry is tag = absurd (omega (arith, tag, ap (λ (h : Head). h.tag) is))

pub takes_delete : (state : LogState) (notes : Notes) (segment at : ℕ) (head : Head) (entry : LogEntry) → head ≡ head_of entry → head.tag ≡ 1
    → takes_entry state notes segment at entry ≡ is_below (noted_at head.key notes) segment
takes_delete state notes segment at head (PutEntry key blob) is tag = absurd (omega (arith, tag, ap (λ (h : Head). h.tag) is))
takes_delete state notes segment at head (DeleteEntry key) is tag = ap (λ (h : Head). is_below (noted_at h.key notes) segment) (sym is)
takes_delete state notes segment at head CommitEntry is tag = absurd (omega (arith, tag, ap (λ (h : Head). h.tag) is))

pub takes_none : (state : LogState) (notes : Notes) (segment at : ℕ) (head : Head) (entry : LogEntry) → head ≡ head_of entry
    → (head.tag ≡ 0 → lies_at (place_in state head.key) segment (at + 41) ≡ false) → (head.tag ≡ 1 → is_below (noted_at head.key notes) segment ≡ false)
    → takes_entry state notes segment at entry ≡ false
takes_none state notes segment at head (PutEntry key blob) is put delete =
    takes_put state notes segment at head (PutEntry key blob) is (ap (λ (h : Head). h.tag) is) ∙ put (ap (λ (h : Head). h.tag) is)
takes_none state notes segment at head (DeleteEntry key) is put delete =
    takes_delete state notes segment at head (DeleteEntry key) is (ap (λ (h : Head). h.tag) is) ∙ delete (ap (λ (h : Head). h.tag) is)
takes_none state notes segment at head CommitEntry is put delete = refl

taken_if : (b : Bool) (d : Bool) (e : Located) → b ≡ d → map (λ (x : Located). x.entry) (if b then e ∷ [] else []) ≡ (if d then e.entry ∷ [] else [])
taken_if true true e is = refl
taken_if false false e is = refl
taken_if true false e is = absurd (let no : ⊥ = cc in no)
taken_if false true e is = absurd (let no : ⊥ = cc in no)

-- what is taken of one entry
pub one_taken : (state : LogState) (notes : Notes) (d : Bool) (e : Located) → takes_entry state notes e.segment e.at e.entry ≡ d
    → taken_from state notes (e ∷ []) ≡ (if d then e.entry ∷ [] else [])
one_taken state notes d e is = taken_if (takes_entry state notes e.segment e.at e.entry) d e is

-- one that is put again was to be
pub entry_put : (state : LogState) (notes : Notes) (segment at : ℕ) (head : Head) (session now : Session) (a b : Option Told) (n m : ℕ)
    (result : Result (Unit {0}) CompactFault)
    → ((entry : LogEntry) → head ≡ head_of entry → takes_entry state notes segment at entry ≡ true)
    → Did (EachOfEntry segment at head session) (PutsEntry segment at head session now) (RefusesEntry segment at head session) a b n m result
    → Did (EachOfEntry segment at head session) (MovesEntry state notes segment at head session now) (RefusesEntry segment at head session) a b n m result
entry_put state notes segment at head session now a b n m result takes p =
    did_as (EachOfEntry segment at head session) (PutsEntry segment at head session now) (RefusesEntry segment at head session)
    (EachOfEntry segment at head session) (MovesEntry state notes segment at head session now) (RefusesEntry segment at head session) a b n m result
    (λ h g e. e)
    (λ h g moved t entry has.
    subst (λ (l : List LogEntry). Moved t session now l h g)
    (sym (one_taken state notes true (record { segment = segment; at = at; entry = entry }) (takes entry has.head_is))) (moved t entry has))
    (λ fault h g e. e) p

-- a DELETE that is put again was to be
pub delete_put : (state : LogState) (notes : Notes) (segment at : ℕ) (head : Head) (session now : Session) (a b : Option Told) (n m : ℕ)
    (result : Result (Unit {0}) CompactFault) → head.tag ≡ 1 → is_below (noted_at head.key notes) segment ≡ true
    → Did (EachPut (DeleteEntry head.key) session) (PutsOne (DeleteEntry head.key) session now) (RefusesPut session) a b n m result
    → Did (EachOfEntry segment at head session) (MovesEntry state notes segment at head session now) (RefusesEntry segment at head session) a b n m result
delete_put state notes segment at head session now a b n m result tag below p =
    did_as (EachPut (DeleteEntry head.key) session) (PutsOne (DeleteEntry head.key) session now) (RefusesPut session)
    (EachOfEntry segment at head session) (MovesEntry state notes segment at head session now) (RefusesEntry segment at head session) a b n m result
    (λ h g each t entry has.
    subst (λ (x : LogEntry). Went t session (x ∷ []) h g) (sym (delete_by_tag head entry has.head_is tag)) (each t))
    (λ h g moved t entry has.
    subst (λ (l : List LogEntry). Moved t session now l h g)
    (ap (λ (x : LogEntry). x ∷ []) (sym (delete_by_tag head entry has.head_is tag))
    ∙ sym (one_taken state notes true (record { segment = segment; at = at; entry = entry })
    (takes_delete state notes segment at head entry has.head_is tag ∙ below))) (moved t))
    (λ fault h g e t entry has. e t) p where
      delete_by_tag : (h : Head) (entry : LogEntry) → h ≡ head_of entry → h.tag ≡ 1 → entry ≡ DeleteEntry h.key
      delete_by_tag h (PutEntry key blob) is tag = absurd (omega (arith, tag, ap (λ (x : Head). x.tag) is))
      delete_by_tag h (DeleteEntry key) is tag = ap (λ (x : Head). DeleteEntry x.key) (sym is)
      delete_by_tag h CommitEntry is tag = absurd (omega (arith, tag, ap (λ (x : Head). x.tag) is))

-- one that isn't put again wasn't to be
pub entry_kept : (state : LogState) (notes : Notes) (segment at : ℕ) (head : Head) (session : Session) (a : Option Told) (n : ℕ)
    → ((entry : LogEntry) → head ≡ head_of entry → takes_entry state notes segment at entry ≡ false)
    → Did (EachOfEntry segment at head session) (MovesEntry state notes segment at head session session) (RefusesEntry segment at head session) a a n n (Ok tt)
entry_kept state notes segment at head session a n takes =
    did_none (EachOfEntry segment at head session) (MovesEntry state notes segment at head session session) (RefusesEntry segment at head session) a n
    (λ h t entry has. went_here t session (entry ∷ []) h)
    (λ h t entry has.
    subst (λ (l : List LogEntry). Moved t session session l h h)
    (sym (one_taken state notes false (record { segment = segment; at = at; entry = entry }) (takes entry has.head_is))) (moved_here t session h))
