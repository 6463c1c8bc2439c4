-- Lemmas on specs/Rows.antt: which blobs a step brings.
use Rattle.std.proofs.Common.{◌≡◌, ◌⊎◌, inl, inr, ℕ, ◌<◌, nat_eq, Bool, true, false, if◌then◌else◌, List, [], ◌∷◌, ◌++◌, length}
use Rattle.std.proofs.Common.{Option, unwrap_or, refl, sym, ◌∙◌, ap, subst, arith}
use Rattle.std.specs.FinMap.{get}
use Rattle.std.specs.List.{AllByRecursion}
use Rattle.std.proofs.lemmas.List.{append-nil, append_assoc, length-append, length-drop}
use Rattle.ferry_disk.specs.Act.{Step, AppendTo, SyncOf, RemoveOf, SettleAll, Act, History, with_act}
use Rattle.ferry_disk.specs.Image.{Fate, fate_synced, fate_removed, fate_settled, fate_in}
use Rattle.ferry_segment.specs.Entry.{LogEntry, PutEntry, Fits, spelling}
use Rattle.ferry_segment.specs.Segment.{magic, spellings}
use Rattle.ferry_segment.proofs.EntryLemmas.{length-spelling}
use Rattle.ferry_segment.proofs.SegmentLemmas.{front_of, spellings_more}
use Rattle.ferry_stops.specs.Blobs.{HasBlob, FileHasBlob, row_after, IsRow, open_row, BlobOf, row_in, IsTraced, Gains}
use Rattle.ferry_stops.specs.Chance.{stable_bytes, all_bytes}
use Rattle.ferry_stops.proofs.DraftLemmas.{spellings-append}
use Rattle.ferry_write.specs.Rows.{IsPutOf}
use Rattle.ferry_write.proofs.StandLemmas.{either_number, own_number, off_number, all-append, append_here, append_other, sync_here, sync_other}
use Rattle.ferry_write.proofs.StandLemmas.{fate_next, remove_here, remove_other}

-- ---- rows, one act later

row_more : (seg : ℕ) (row : List ℕ) (acts more : List Act) (found : List ℕ) → IsRow seg row acts found → IsRow seg row (acts ++ more) found
row_more seg row [] [] found e = e
row_more seg row [] (a ∷ more) found e = inl e
row_more seg row (a ∷ acts) more found (inl e) = inl e
row_more seg row (a ∷ acts) more found (inr r) = inr (row_more seg (row_after seg row a.step) acts more found r)

open_is : (seg : ℕ) (row : List ℕ) (acts : List Act) → IsRow seg row acts (open_row seg row acts)
open_is seg row [] = refl
open_is seg row (a ∷ acts) = inr (open_is seg (row_after seg row a.step) acts)

open_push : (seg : ℕ) (row : List ℕ) (acts : List Act) (act : Act)
    → open_row seg row (acts ++ act ∷ []) ≡ row_after seg (open_row seg row acts) act.step
open_push seg row [] act = refl
open_push seg row (a ∷ acts) act = open_push seg (row_after seg row a.step) acts act

row_one : (seg : ℕ) (row : List ℕ) (acts : List Act) (act : Act) (found : List ℕ) → IsRow seg row (acts ++ act ∷ []) found
    → IsRow seg row acts found ⊎ (found ≡ row_after seg (open_row seg row acts) act.step)
row_one seg row [] act found (inl e) = inl e
row_one seg row [] act found (inr e) = inr e
row_one seg row (a ∷ acts) act found (inl e) = inl (inl e)
row_one seg row (a ∷ acts) act found (inr r) = by_rest (row_one seg (row_after seg row a.step) acts act found r) where
  by_rest : IsRow seg (row_after seg row a.step) acts found ⊎ (found ≡ row_after seg (open_row seg (row_after seg row a.step) acts) act.step)
      → ((found ≡ row) ⊎ IsRow seg (row_after seg row a.step) acts found)
      ⊎ (found ≡ row_after seg (open_row seg (row_after seg row a.step) acts) act.step)
  by_rest (inl q) = inl (inr q)
  by_rest (inr q) = inr q

acts_next : (h : History) (step : Step) (done : Bool)
    → h.past ++ (h.acts ++ record { step = step; done = done } ∷ []) ≡ (h.past ++ h.acts) ++ record { step = step; done = done } ∷ []
acts_next h step done = sym (append_assoc h.past h.acts (record { step = step; done = done } ∷ []))

pub row_next : (h : History) (step : Step) (done : Bool) (seg : ℕ) → row_in (with_act step done h) seg ≡ row_after seg (row_in h seg) step
row_next h step done seg =
    ap (open_row seg []) (acts_next h step done) ∙ open_push seg [] (h.past ++ h.acts) (record { step = step; done = done })

more_by : (h : History) (step : Step) (done : Bool) (blob : List ℕ) (seg : ℕ) (start : Type 0)
    → start ⊎ ((row : List ℕ) × IsRow seg [] (h.past ++ h.acts) row × HasBlob row blob)
    → start ⊎ ((row : List ℕ) × IsRow seg [] (h.past ++ (h.acts ++ record { step = step; done = done } ∷ [])) row × HasBlob row blob)
more_by h step done blob seg start (inl f) = inl f
more_by h step done blob seg start (inr r) =
    inr (
      r.0,
      subst (λ (acts : List Act). IsRow seg [] acts r.0) (sym (acts_next h step done))
          (row_more seg [] (h.past ++ h.acts) (record { step = step; done = done } ∷ []) r.0 r.1),
      r.2,
    )

pub blob_more : (h : History) (step : Step) (done : Bool) (blob : List ℕ) → BlobOf h blob → BlobOf (with_act step done h) blob
blob_more h step done blob is = (is.0, more_by h step done blob is.0 (FileHasBlob (get h.start.segments is.0) blob) is.1)

pub row_blob : (h : History) (seg : ℕ) (blob : List ℕ) → HasBlob (row_in h seg) blob → BlobOf h blob
row_blob h seg blob has = (seg, inr (row_in h seg, open_is seg [] (h.past ++ h.acts), has))

one_by : (h : History) (step : Step) (done : Bool) (blob : List ℕ) (seg : ℕ) (row : List ℕ) → HasBlob row blob
    → IsRow seg [] (h.past ++ h.acts) row ⊎ (row ≡ row_after seg (row_in h seg) step)
    → BlobOf h blob ⊎ HasBlob (row_after seg (row_in h seg) step) blob
one_by h step done blob seg row has (inl r) = inl (seg, inr (row, r, has))
one_by h step done blob seg row has (inr e) = inr (subst (λ (l : List ℕ). HasBlob l blob) e has)

one_of : (h : History) (step : Step) (done : Bool) (blob : List ℕ) (seg : ℕ)
    → BlobOf h blob ⊎ ((row : List ℕ) × IsRow seg [] (h.past ++ (h.acts ++ record { step = step; done = done } ∷ [])) row × HasBlob row blob)
    → BlobOf h blob ⊎ HasBlob (row_after seg (row_in h seg) step) blob
one_of h step done blob seg (inl f) = inl f
one_of h step done blob seg (inr r) =
    one_by h step done blob seg r.0 r.2 (row_one seg [] (h.past ++ h.acts) (record { step = step; done = done }) r.0
    (subst (λ (acts : List Act). IsRow seg [] acts r.0) (acts_next h step done) r.1))

-- a blob behind one more act was there, or is in the row that grew
pub blob_one : (h : History) (step : Step) (done : Bool) (blob : List ℕ) → BlobOf (with_act step done h) blob
    → BlobOf h blob ⊎ ((seg : ℕ) × HasBlob (row_after seg (row_in h seg) step) blob)
blob_one h step done blob is = by_sum (one_of h step done blob is.0 (old_or is.1)) where
  old_or : FileHasBlob (get h.start.segments is.0) blob
      ⊎ ((row : List ℕ) × IsRow is.0 [] (h.past ++ (h.acts ++ record { step = step; done = done } ∷ [])) row × HasBlob row blob)
      → BlobOf h blob ⊎ ((row : List ℕ) × IsRow is.0 [] (h.past ++ (h.acts ++ record { step = step; done = done } ∷ [])) row × HasBlob row blob)
  old_or (inl f) = inl (is.0, inl f)
  old_or (inr r) = inr r

  by_sum : BlobOf h blob ⊎ HasBlob (row_after is.0 (row_in h is.0) step) blob → BlobOf h blob ⊎ ((seg : ℕ) × HasBlob (row_after seg (row_in h seg) step) blob)
  by_sum (inl q) = inl q
  by_sum (inr q) = inr (is.0, q)

-- ---- an Append

append_by : (h : History) (k : ℕ) (x : List ℕ) (blob : List ℕ) (seg : ℕ) → (seg ≡ k) ⊎ (seg ≡ k → ⊥)
    → HasBlob (row_after seg (row_in h seg) (AppendTo k x)) blob → BlobOf h blob ⊎ HasBlob (row_in h k ++ x) blob
append_by h k x blob seg (inl e) has =
    inr (subst (λ (b : Bool). HasBlob (if b then row_in h k ++ x else row_in h k) blob) (own_number k)
    (subst (λ (n : ℕ). HasBlob (if nat_eq n k then row_in h n ++ x else row_in h n) blob) e has))
append_by h k x blob seg (inr off) has =
    inl (row_blob h seg blob
    (subst (λ (b : Bool). HasBlob (if b then row_in h seg ++ x else row_in h seg) blob) (off_number seg k off) has))

pub append_blob : (h : History) (k : ℕ) (x : List ℕ) (done : Bool) (blob : List ℕ) → BlobOf (with_act (AppendTo k x) done h) blob
    → BlobOf h blob ⊎ HasBlob (row_in h k ++ x) blob
append_blob h k x done blob is = by_sum (blob_one h (AppendTo k x) done blob is) where
  by_sum : BlobOf h blob ⊎ ((seg : ℕ) × HasBlob (row_after seg (row_in h seg) (AppendTo k x)) blob) → BlobOf h blob ⊎ HasBlob (row_in h k ++ x) blob
  by_sum (inl q) = inl q
  by_sum (inr q) = append_by h k x blob q.0 (either_number q.0 k) q.1

pub row_here : (h : History) (k : ℕ) (x : List ℕ) (done : Bool) → row_in (with_act (AppendTo k x) done h) k ≡ row_in h k ++ x
row_here h k x done = row_next h (AppendTo k x) done k ∙ ap (λ (b : Bool). if b then row_in h k ++ x else row_in h k) (own_number k)

pub row_other : (h : History) (k : ℕ) (x : List ℕ) (done : Bool) (m : ℕ) → (m ≡ k → ⊥) → row_in (with_act (AppendTo k x) done h) m ≡ row_in h m
row_other h k x done m off =
    row_next h (AppendTo k x) done m ∙ ap (λ (b : Bool). if b then row_in h m ++ x else row_in h m) (off_number m k off)

-- the same of a segment whose fate is the same
pub traced_same : (h g : History) (m : ℕ) → fate_in g m ≡ fate_in h m → ((blob : List ℕ) → BlobOf h blob → BlobOf g blob) → IsTraced h m → IsTraced g m
traced_same h g m e more t = record {
  rest = t.rest;
  begins = subst (λ (f : Fate). all_bytes f ≡ stable_bytes f ++ t.rest) (sym e) t.begins;
  known = λ blob has. more blob (t.known blob (subst (λ (f : Fate). HasBlob (all_bytes f) blob) e has));
}

all_appended : (h : History) (k : ℕ) (x : List ℕ) (done : Bool) → all_bytes (fate_in (with_act (AppendTo k x) done h) k) ≡ all_bytes (fate_in h k) ++ x
all_appended h k x done = ap all_bytes (append_here h k x done)

-- the open row of the segment is all its bytes, and stays so
pub row_all : (h : History) (k : ℕ) (x : List ℕ) (done : Bool) → row_in h k ≡ all_bytes (fate_in h k)
    → row_in (with_act (AppendTo k x) done h) k ≡ all_bytes (fate_in (with_act (AppendTo k x) done h) k)
row_all h k x done row = row_here h k x done ∙ (ap (λ (l : List ℕ). l ++ x) row ∙ sym (all_appended h k x done))

append_traced : (h : History) (k : ℕ) (x : List ℕ) (done : Bool) → row_in h k ≡ all_bytes (fate_in h k) → IsTraced h k
    → IsTraced (with_act (AppendTo k x) done h) k
append_traced h k x done row t =
    let g = with_act (AppendTo k x) done h in
    record {
      rest = t.rest ++ x;
      begins = all_appended h k x done
          ∙ (ap (λ (l : List ℕ). l ++ x) t.begins
          ∙ (append_assoc (stable_bytes (fate_in h k)) t.rest x
          ∙ ap (λ (f : Fate). stable_bytes f ++ (t.rest ++ x)) (sym (append_here h k x done))));
      known = λ blob has. row_blob g k blob (subst (λ (l : List ℕ). HasBlob l blob) (sym (row_all h k x done row)) has);
    }

pub append_gains : (base h : History) (IsNew : List ℕ → Type 0) (k : ℕ) (x : List ℕ) (done : Bool) → Gains base IsNew h
    → row_in h k ≡ all_bytes (fate_in h k) → ((blob : List ℕ) → HasBlob (all_bytes (fate_in h k) ++ x) blob → BlobOf h blob ⊎ IsNew blob)
    → Gains base IsNew (with_act (AppendTo k x) done h)
append_gains base h IsNew k x done gains row claim = record {
  traced = λ m. traced_by m (either_number m k);
  gained = λ blob is. by_sum blob (append_blob h k x done blob is);
} where
  g : History
  g = with_act (AppendTo k x) done h

  traced_by : (m : ℕ) → (m ≡ k) ⊎ (m ≡ k → ⊥) → IsTraced (with_act (AppendTo k x) done h) m
  traced_by m (inl e) = subst (IsTraced (with_act (AppendTo k x) done h)) (sym e) (append_traced h k x done row (gains.traced k))
  traced_by m (inr off) =
      traced_same h (with_act (AppendTo k x) done h) m (append_other h k x done m off) (blob_more h (AppendTo k x) done) (gains.traced m)

  either : (blob : List ℕ) → BlobOf h blob ⊎ IsNew blob → BlobOf base blob ⊎ IsNew blob
  either blob (inl q) = gains.gained blob q
  either blob (inr q) = inr q

  by_sum : (blob : List ℕ) → BlobOf h blob ⊎ HasBlob (row_in h k ++ x) blob → BlobOf base blob ⊎ IsNew blob
  by_sum blob (inl q) = gains.gained blob q
  by_sum blob (inr q) = either blob (claim blob (subst (λ (l : List ℕ). HasBlob (l ++ x) blob) row q))

-- ---- a Sync

sync_blob : (h : History) (k : ℕ) (done : Bool) (blob : List ℕ) → BlobOf (with_act (SyncOf k) done h) blob → BlobOf h blob
sync_blob h k done blob is = by_sum (blob_one h (SyncOf k) done blob is) where
  by_sum : BlobOf h blob ⊎ ((seg : ℕ) × HasBlob (row_in h seg) blob) → BlobOf h blob
  by_sum (inl q) = q
  by_sum (inr q) = row_blob h q.0 blob q.1

synced_begins : (f : Fate) (done : Bool) (rest : List ℕ) → f.read ≡ f.all → all_bytes f ≡ stable_bytes f ++ rest
    → (more : List ℕ) × (all_bytes (fate_synced done f) ≡ stable_bytes (fate_synced done f) ++ more)
synced_begins f true rest e b = ([], ap (λ (o : Option (List ℕ)). unwrap_or o []) (sym e) ∙ sym (append-nil (unwrap_or f.read [])))
synced_begins f false rest e b = (rest, b)

synced_all : (f : Fate) (done : Bool) → all_bytes (fate_synced done f) ≡ all_bytes f
synced_all f true = refl
synced_all f false = refl

pub sync_gains : (base h : History) (IsNew : List ℕ → Type 0) (k : ℕ) (done : Bool) → Gains base IsNew h → (fate_in h k).read ≡ (fate_in h k).all
    → Gains base IsNew (with_act (SyncOf k) done h)
sync_gains base h IsNew k done gains e = record {
  traced = λ m. traced_by m (either_number m k);
  gained = λ blob is. gains.gained blob (sync_blob h k done blob is);
} where
  traced_by : (m : ℕ) → (m ≡ k) ⊎ (m ≡ k → ⊥) → IsTraced (with_act (SyncOf k) done h) m
  traced_by m (inl q) =
      let t = gains.traced k in
      let b = synced_begins (fate_in h k) done t.rest e t.begins in
      subst (IsTraced (with_act (SyncOf k) done h)) (sym q) (record {
        rest = b.0;
        begins = subst (λ (f : Fate). all_bytes f ≡ stable_bytes f ++ b.0) (sym (sync_here h k done)) b.1;
        known = λ blob has. blob_more h (SyncOf k) done blob
            (t.known blob (subst (λ (l : List ℕ). HasBlob l blob) (ap all_bytes (sync_here h k done) ∙ synced_all (fate_in h k) done) has));
      })
  traced_by m (inr off) =
      traced_same h (with_act (SyncOf k) done h) m (sync_other h k done m off) (blob_more h (SyncOf k) done) (gains.traced m)

pub row_synced : (h : History) (k : ℕ) (done : Bool) (m : ℕ) → row_in (with_act (SyncOf k) done h) m ≡ row_in h m
row_synced h k done m = row_next h (SyncOf k) done m

-- ---- bytes without a PUT

-- a PUT has a head of 41 bytes, behind the 8 of the magic
pub short_none : (bytes blob : List ℕ) → length bytes < 49 → HasBlob bytes blob → ⊥
short_none bytes blob short has =
    let entry = PutEntry has.key blob in
    omega (
      arith,
      short,
      has.reads.fits.0,
      ap length has.reads.spelled,
      length-drop 8 bytes,
      length-append (spellings has.before) (spelling entry ++ has.reads.rest),
      length-append (spelling entry) has.reads.rest,
      length-spelling entry,
      length-append has.key blob,
    )

pub none_has : (blob : List ℕ) → HasBlob [] blob → ⊥
none_has blob has = short_none [] blob (omega arith) has

-- ---- a Remove

remove_by : (h : History) (k : ℕ) (blob : List ℕ) (seg : ℕ) → (seg ≡ k) ⊎ (seg ≡ k → ⊥) → HasBlob (row_after seg (row_in h seg) (RemoveOf k)) blob
    → BlobOf h blob
remove_by h k blob seg (inl e) has =
    absurd (none_has blob
    (subst (λ (b : Bool). HasBlob (if b then [] else row_in h k) blob) (own_number k)
    (subst (λ (n : ℕ). HasBlob (if nat_eq n k then [] else row_in h n) blob) e has)))
remove_by h k blob seg (inr off) has =
    row_blob h seg blob (subst (λ (b : Bool). HasBlob (if b then [] else row_in h seg) blob) (off_number seg k off) has)

remove_blob : (h : History) (k : ℕ) (done : Bool) (blob : List ℕ) → BlobOf (with_act (RemoveOf k) done h) blob → BlobOf h blob
remove_blob h k done blob is = by_sum (blob_one h (RemoveOf k) done blob is) where
  by_sum : BlobOf h blob ⊎ ((seg : ℕ) × HasBlob (row_after seg (row_in h seg) (RemoveOf k)) blob) → BlobOf h blob
  by_sum (inl q) = q
  by_sum (inr q) = remove_by h k blob q.0 (either_number q.0 k) q.1

removed_traced : (h g : History) (k : ℕ) (done : Bool) → fate_in g k ≡ fate_removed done (fate_in h k) → ((blob : List ℕ) → BlobOf h blob → BlobOf g blob)
    → IsTraced h k → IsTraced g k
removed_traced h g k true e more t = record {
  rest = [];
  begins = subst (λ (f : Fate). all_bytes f ≡ stable_bytes f ++ []) (sym e) refl;
  known = λ blob has. absurd (none_has blob (subst (λ (f : Fate). HasBlob (all_bytes f) blob) e has));
}
removed_traced h g k false e more t = record {
  rest = t.rest;
  begins = subst (λ (f : Fate). all_bytes f ≡ stable_bytes f ++ t.rest) (sym e) t.begins;
  known = λ blob has. more blob (t.known blob (subst (λ (f : Fate). HasBlob (all_bytes f) blob) e has));
}

pub remove_gains : (base h : History) (IsNew : List ℕ → Type 0) (k : ℕ) (done : Bool) → Gains base IsNew h
    → Gains base IsNew (with_act (RemoveOf k) done h)
remove_gains base h IsNew k done gains = record {
  traced = λ m. traced_by m (either_number m k);
  gained = λ blob is. gains.gained blob (remove_blob h k done blob is);
} where
  traced_by : (m : ℕ) → (m ≡ k) ⊎ (m ≡ k → ⊥) → IsTraced (with_act (RemoveOf k) done h) m
  traced_by m (inl q) =
      subst (IsTraced (with_act (RemoveOf k) done h)) (sym q)
      (removed_traced h (with_act (RemoveOf k) done h) k done (remove_here h k done) (blob_more h (RemoveOf k) done) (gains.traced k))
  traced_by m (inr off) =
      traced_same h (with_act (RemoveOf k) done h) m (remove_other h k done m off) (blob_more h (RemoveOf k) done) (gains.traced m)

none_either : (b : Bool) → ◌≡◌ {A = List ℕ} (if b then [] else []) []
none_either true = refl
none_either false = refl

pub row_removed : (h : History) (k : ℕ) (m : ℕ) → row_in h m ≡ [] → row_in (with_act (RemoveOf k) true h) m ≡ []
row_removed h k m e =
    row_next h (RemoveOf k) true m ∙ (ap (λ (r : List ℕ). if nat_eq m k then [] else r) e ∙ none_either (nat_eq m k))

-- ---- a Settle

pub row_settled : (h : History) (done : Bool) (m : ℕ) → row_in (with_act SettleAll done h) m ≡ []
row_settled h done m = row_next h SettleAll done m

settle_blob : (h : History) (done : Bool) (blob : List ℕ) → BlobOf (with_act SettleAll done h) blob → BlobOf h blob
settle_blob h done blob is = by_sum (blob_one h SettleAll done blob is) where
  by_sum : BlobOf h blob ⊎ ((seg : ℕ) × HasBlob [] blob) → BlobOf h blob
  by_sum (inl q) = q
  by_sum (inr q) = absurd (none_has blob q.1)

settled_traced : (h g : History) (m : ℕ) (done : Bool) → fate_in g m ≡ fate_settled done (fate_in h m)
    → ((blob : List ℕ) → BlobOf h blob → BlobOf g blob) → ((blob : List ℕ) → HasBlob (unwrap_or (fate_in h m).read []) blob → BlobOf h blob)
    → IsTraced h m → IsTraced g m
settled_traced h g m true e more known t = record {
  rest = [];
  begins = subst (λ (f : Fate). all_bytes f ≡ stable_bytes f ++ []) (sym e) (sym (append-nil (unwrap_or (fate_in h m).read [])));
  known = λ blob has. more blob (known blob (subst (λ (f : Fate). HasBlob (all_bytes f) blob) e has));
}
settled_traced h g m false e more known t = traced_same h g m e more t

pub settle_gains : (base h : History) (IsNew : List ℕ → Type 0) (done : Bool) → Gains base IsNew h
    → ((m : ℕ) (blob : List ℕ) → HasBlob (unwrap_or (fate_in h m).read []) blob → BlobOf h blob) → Gains base IsNew (with_act SettleAll done h)
settle_gains base h IsNew done gains known = record {
  traced = λ m.
      settled_traced h (with_act SettleAll done h) m done (fate_next h SettleAll done m) (blob_more h SettleAll done) (known m) (gains.traced m);
  gained = λ blob is. gains.gained blob (settle_blob h done blob is);
}

-- ---- the blobs of a segment that is written

-- an entry at the end of a list, or before it
last_or : (es : List LogEntry) (e : LogEntry) (before : List LogEntry) (q : LogEntry) (gs : List LogEntry) → es ++ e ∷ [] ≡ before ++ (q ∷ gs)
    → (e ≡ q) ⊎ ((hs : List LogEntry) × (es ≡ before ++ (q ∷ hs)))
last_or [] e [] q gs eq = inl cc
last_or (y ∷ es) e [] q gs eq = inr (es, let same : y ≡ q = cc in ap (λ (z : LogEntry). z ∷ es) same)
last_or [] e (z ∷ bs) q gs eq =
    absurd (omega (arith, ap length eq, length-append bs (q ∷ gs)))
last_or (y ∷ es) e (z ∷ bs) q gs eq =
    let same : y ≡ z = cc in
    let rest : es ++ e ∷ [] ≡ bs ++ (q ∷ gs) = cc in
    by_sum same (last_or es e bs q gs rest)
  where
    by_sum : y ≡ z → (e ≡ q) ⊎ ((hs : List LogEntry) × (es ≡ bs ++ (q ∷ hs))) → (e ≡ q) ⊎ ((hs : List LogEntry) × (y ∷ es ≡ z ∷ (bs ++ (q ∷ hs))))
    by_sum same (inl r) = inl r
    by_sum same (inr r) = inr (r.0, ap (λ (z : LogEntry). z ∷ es) same ∙ ap (λ (l : List LogEntry). z ∷ l) r.1)

-- what reads in a front of a segment's bytes and of one more entry is in the segment, or is that entry
pub data_blob : (es : List LogEntry) (e : LogEntry) (x more blob : List ℕ) → AllByRecursion Fits es → Fits e → x ++ more ≡ spelling e
    → HasBlob ((magic ++ spellings es) ++ x) blob → HasBlob (magic ++ spellings es) blob ⊎ IsPutOf e blob
data_blob es e x more blob fit fits eq has =
    let q = PutEntry has.key blob in
    let r = has.reads in
    let whole : spellings (has.before ++ (q ∷ [])) ++ (r.rest ++ more) ≡ spellings (es ++ e ∷ []) =
    ap (λ (l : List ℕ). l ++ (r.rest ++ more)) (spellings_more has.before q)
    ∙ (append_assoc (spellings has.before) (spelling q) (r.rest ++ more)
    ∙ (ap (λ (l : List ℕ). spellings has.before ++ l) (sym (append_assoc (spelling q) r.rest more))
    ∙ (sym (append_assoc (spellings has.before) (spelling q ++ r.rest) more)
    ∙ (ap (λ (l : List ℕ). l ++ more) (sym r.spelled)
    ∙ (append_assoc (spellings es) x more ∙ (ap (λ (l : List ℕ). spellings es ++ l) eq ∙ sym (spellings_more es e))))))) in
    let found = front_of (has.before ++ (q ∷ [])) (es ++ e ∷ []) (r.rest ++ more)
    (all-append Fits has.before (q ∷ []) r.before_fit (r.fits, tt)) (all-append Fits es (e ∷ []) fit (fits, tt)) whole in
    by_sum (last_or es e has.before q found.0 (found.2 ∙ append_assoc has.before (q ∷ []) found.0))
  where
    by_sum : (e ≡ PutEntry has.key blob) ⊎ ((hs : List LogEntry) × (es ≡ has.before ++ (PutEntry has.key blob ∷ hs)))
        → HasBlob (magic ++ spellings es) blob ⊎ IsPutOf e blob
    by_sum (inl p) = inr (has.key, p)
    by_sum (inr p) = inl (record {
      before = has.before;
      key = has.key;
      reads = record {
        rest = spellings p.0;
        before_fit = has.reads.before_fit;
        fits = has.reads.fits;
        spelled = ap spellings p.1 ∙ spellings-append has.before (PutEntry has.key blob ∷ p.0);
      };
    })
