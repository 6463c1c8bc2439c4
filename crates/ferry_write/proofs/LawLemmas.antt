-- Lemmas on specs/Session.antt and specs/Rows.antt: what holds of a session that fits, and what steps beside it keep.
use Rattle.std.proofs.Common.{◌≡◌, ◌↔◌, ◌⊎◌, inl, inr, ℕ, suc, ◌<◌, ◌≤◌, Bool, true, false, List, [], ◌∷◌, ◌++◌, Option, Some, None, unwrap_or}
use Rattle.std.proofs.Common.{nat_lt, not, refl, sym, ◌∙◌, ap, subst, arith}
use Rattle.std.specs.Cmp.{nat_cmp_is}
use Rattle.std.specs.FinMap.{get}
use Rattle.std.specs.List.{AllByRecursion}
use Rattle.std.specs.List.Sorted.{IsStrictlySortedBy, IsStrictlyIncreasing}
use Rattle.std.specs.Ordering.{nat_cmp}
use Rattle.std.specs.declared.cmp.Ordering.TheVariants.{Less}
use Rattle.std.proofs.lemmas.Bool.{cases_lt}
use Rattle.std.proofs.lemmas.List.Kept.{IsStrictlyIncreasing-filter}
use Rattle.std.proofs.lemmas.Map.Keys.{IsStrictlyIncreasing-from_sorted}
use Rattle.ferry_disk.specs.Act.{Step, AppendTo, SyncOf, RemoveOf, ReplaceBy, SettleAll, TellOf, History, files_now, with_act}
use Rattle.ferry_disk.specs.Files.{Files, segment_numbers}
use Rattle.ferry_disk.specs.Image.{Fate, at_rest, fate_settled, fate_stepped, fate_in, settled}
use Rattle.ferry_disk.proofs.ImageLemmas.{sound_fate, read_may_be_left}
use Rattle.ferry_segment.specs.Entry.{LogEntry}
use Rattle.ferry_segment.specs.Segment.{magic, spellings}
use Rattle.ferry_stops.specs.Blobs.{HasBlob, BlobOf, row_after, row_in, AllTraced, Gains}
use Rattle.ferry_stops.specs.Chance.{ReadsThen, FileByNoChance, stable_bytes, all_bytes}
use Rattle.ferry_stops.specs.Entries.{IsOpen, ShowsAt}
use Rattle.ferry_stops.specs.Ground.{IsHarmless}
use Rattle.ferry_stops.proofs.GroundLemmas.{have_same}
use Rattle.ferry_stops.proofs.NumberLemmas.{Rising, keys_rising}
use Rattle.ferry_stops.proofs.ReadLemmas.{taken_there}
use Rattle.ferry_write.specs.Room.{behind, is_full, must_begin, room_in, after_entry}
use Rattle.ferry_write.specs.Rows.{RowIs, SessionRows}
use Rattle.ferry_write.specs.Script.{numbers_from}
use Rattle.ferry_write.specs.Session.{IsWritten, LastIs, Stands, SessionFits, IsBeside}
use Rattle.ferry_write.specs.declared.session.Session.{Session}
use Rattle.ferry_write.proofs.StandLemmas.{fate_next, settled_next, read_is, files_same, rest_same, own_changed}
use Rattle.ferry_write.proofs.SessionLemmas.{all_rest}
use Rattle.ferry_write.proofs.RowLemmas.{row_next, row_blob, blob_more, blob_one, traced_same, row_settled}
use Rattle.ferry_write.proofs.BeginGainLemmas.{unwritten_row}

-- ---- where each segment is as it was

written_same : (h g : History) (n : ℕ) (bytes : List ℕ) → fate_in g n ≡ fate_in h n → IsWritten h n bytes → IsWritten g n bytes
written_same h g n bytes e w = record {
  read = ap (λ (f : Fate). f.read) e ∙ w.read;
  all = ap (λ (f : Fate). f.all) e ∙ w.all;
  kept = ap (λ (f : Fate). f.lost) e ∙ w.kept;
  rest = w.rest;
  begins = w.begins ∙ ap (λ (f : Fate). stable_bytes f ++ w.rest) (sym e);
}

last_same : (end : ℕ) (last size : Option ℕ) (h g : History) → ((n : ℕ) → fate_in g n ≡ fate_in h n) → LastIs h end last size → LastIs g end last size
last_same end None size h g same l = l
last_same end (Some n) None h g same l = rest_same h g n (same n) l
last_same end (Some n) (Some s) h g same l = record {
  above = l.above;
  entries = l.entries;
  fit = l.fit;
  data_only = l.data_only;
  written = written_same h g n (magic ++ spellings l.entries) (same n) l.written;
  size_is = l.size_is;
}

stands_same : (after last size : Option ℕ) (c : Option (List LogEntry)) (p : List LogEntry) (h g : History) → settled g.acts ≡ true
    → ((n : ℕ) → fate_in g n ≡ fate_in h n) → Stands after last size c p h → Stands after last size c p g
stands_same after last size c p h g s same st =
    let end = behind after in
    record {
      own = own_changed end c h g end st.own (omega arith) s (λ n off. same n)
          (subst IsHarmless (sym (same end)) (st.own.safe.above end (omega arith)));
      order = st.order;
      none = λ n le. same n ∙ st.none n le;
      at_rest_below = λ n lt. rest_same h g n (same n) (st.at_rest_below n lt);
      last_is = last_same end last size h g same st.last_is;
      entries = have_same (files_now h) (files_now g) (behind last) (unwrap_or c [] ++ p) (λ n lt. sym (files_same h g n (same n))) st.entries;
    }

row_same : (last size : Option ℕ) (h g : History) → ((n : ℕ) → fate_in g n ≡ fate_in h n) → ((n : ℕ) → row_in g n ≡ row_in h n)
    → RowIs h last size → RowIs g last size
row_same None size h g same rows r = tt
row_same (Some n) None h g same rows r = tt
row_same (Some n) (Some s) h g same rows r = rows n ∙ (r ∙ ap all_bytes (sym (same n)))

-- ---- a step beside a session

beside_fate : (n : ℕ) (step : Step) (done : Bool) (f : Fate) → IsBeside step → fate_stepped n step done f ≡ f
beside_fate n (AppendTo k bytes) done f is = absurd is
beside_fate n (SyncOf k) done f is = absurd is
beside_fate n (RemoveOf k) done f is = absurd is
beside_fate n (ReplaceBy name bytes) done f is = refl
beside_fate n SettleAll done f is = absurd is
beside_fate n (TellOf line) done f is = refl

beside_same : (h : History) (step : Step) (done : Bool) → IsBeside step → (n : ℕ) → fate_in (with_act step done h) n ≡ fate_in h n
beside_same h step done is n = fate_next h step done n ∙ beside_fate n step done (fate_in h n) is

beside_row : (n : ℕ) (step : Step) (row : List ℕ) → IsBeside step → row_after n row step ≡ row
beside_row n (AppendTo k bytes) row is = absurd is
beside_row n (SyncOf k) row is = absurd is
beside_row n (RemoveOf k) row is = absurd is
beside_row n (ReplaceBy name bytes) row is = refl
beside_row n SettleAll row is = absurd is
beside_row n (TellOf line) row is = refl

beside_rows_same : (h : History) (step : Step) (done : Bool) → IsBeside step → (n : ℕ) → row_in (with_act step done h) n ≡ row_in h n
beside_rows_same h step done is n = row_next h step done n ∙ beside_row n step (row_in h n) is

pub beside_traced : (h : History) (step : Step) (done : Bool) → IsBeside step → AllTraced h → AllTraced (with_act step done h)
beside_traced h step done is traced n =
    traced_same h (with_act step done h) n (beside_same h step done is n) (blob_more h step done) (traced n)

beside_blob : (h : History) (step : Step) (done : Bool) (blob : List ℕ) → IsBeside step → BlobOf (with_act step done h) blob → BlobOf h blob
beside_blob h step done blob is has = by_sum (blob_one h step done blob has) where
  by_sum : BlobOf h blob ⊎ ((seg : ℕ) × HasBlob (row_after seg (row_in h seg) step) blob) → BlobOf h blob
  by_sum (inl q) = q
  by_sum (inr q) = row_blob h q.0 blob (subst (λ (l : List ℕ). HasBlob l blob) (beside_row q.0 step (row_in h q.0) is) q.1)

pub beside_blobs : (h : History) (step : Step) (done : Bool) (blob : List ℕ) → IsBeside step → BlobOf (with_act step done h) blob ↔ BlobOf h blob
beside_blobs h step done blob is = (beside_blob h step done blob is, blob_more h step done blob)

pub beside_fits : (s : Session) (c : Option (List LogEntry)) (p : List LogEntry) (h : History) (step : Step) (done : Bool) → IsBeside step
    → SessionFits s c p h → SessionFits s c p (with_act step done h)
beside_fits s c p h step done is st =
    stands_same s.after s.last s.size c p h (with_act step done h) (settled_next h step done st.own.safe.settled_is) (beside_same h step done is) st

pub beside_rows : (s : Session) (h : History) (step : Step) (done : Bool) → IsBeside step → SessionRows s h → SessionRows s (with_act step done h)
beside_rows s h step done is r = record {
  traced = beside_traced h step done is r.traced;
  rows = record {
    above = λ n le. beside_rows_same h step done is n ∙ r.rows.above n le;
    current = row_same s.last s.size h (with_act step done h) (beside_same h step done is) (beside_rows_same h step done is) r.rows.current;
  };
}

pub beside_gains : (base h : History) (IsNew : List ℕ → Type 0) (step : Step) (done : Bool) → IsBeside step → Gains base IsNew h
    → Gains base IsNew (with_act step done h)
beside_gains base h IsNew step done is gains = record {
  traced = beside_traced h step done is gains.traced;
  gained = λ blob has. gains.gained blob (beside_blob h step done blob is has);
}

-- ---- a Settle, where no segment is written

rest_settled : (file : Option (List ℕ)) (done : Bool) → fate_settled done (at_rest file) ≡ at_rest file
rest_settled file true = refl
rest_settled file false = refl

rest_each : (after last : Option ℕ) (c : Option (List LogEntry)) (p : List LogEntry) (h : History) → Stands after last None c p h → (n : ℕ)
    → (file : Option (List ℕ)) × (fate_in h n ≡ at_rest file)
rest_each after last c p h st n = elim (cases_lt n (behind last)) [
  | inl lt ↦ (get (files_now h).segments n, all_rest after last c p h st n lt)
  | inr le ↦ (None, st.none n le)
]

settle_same : (after last : Option ℕ) (c : Option (List LogEntry)) (p : List LogEntry) (h : History) (done : Bool) → Stands after last None c p h → (n : ℕ)
    → fate_in (with_act SettleAll done h) n ≡ fate_in h n
settle_same after last c p h done st n =
    let r = rest_each after last c p h st n in
    fate_next h SettleAll done n ∙ (ap (fate_settled done) r.1 ∙ (rest_settled r.0 done ∙ sym r.1))

unsized : (after last size : Option ℕ) (c : Option (List LogEntry)) (p : List LogEntry) (h : History) → size ≡ None → Stands after last size c p h
    → Stands after last None c p h
unsized after last size c p h e st = subst (λ (k : Option ℕ). Stands after last k c p h) e st

pub settle_fits : (s : Session) (c : Option (List LogEntry)) (p : List LogEntry) (h : History) (done : Bool) → s.size ≡ None → SessionFits s c p h
    → SessionFits s c p (with_act SettleAll done h)
settle_fits s c p h done e st =
    stands_same s.after s.last s.size c p h (with_act SettleAll done h) (settled_next h SettleAll done st.own.safe.settled_is)
    (settle_same s.after s.last c p h done (unsized s.after s.last s.size c p h e st)) st

pub settle_rows : (s : Session) (c : Option (List LogEntry)) (p : List LogEntry) (h : History) (done : Bool) → s.size ≡ None → SessionFits s c p h
    → SessionRows s h → SessionRows s (with_act SettleAll done h)
settle_rows s c p h done e st r =
    let g = with_act SettleAll done h in
    let same = settle_same s.after s.last c p h done (unsized s.after s.last s.size c p h e st) in
    record {
      traced = λ n. traced_same h g n (same n) (blob_more h SettleAll done) (r.traced n);
      rows = record {
        above = λ n le. row_settled h done n;
        current = subst (λ (k : Option ℕ). RowIs g s.last k) (sym e) (unwritten_row s.last g);
      };
    }

-- ---- the files that a read gives

-- what is read is left by no chance, where it is all that was appended
chance_read : (f : Fate) (file : Option (List ℕ)) → f.all ≡ file → FileByNoChance f file
chance_read f None e = tt
chance_read f (Some bytes) e =
    λ before entry reads outside. taken_there (all_bytes f) before entry
    (subst (λ (o : Option (List ℕ)). ReadsThen (unwrap_or o []) before entry) (sym e) reads)

last_read : (end : ℕ) (last size : Option ℕ) (h : History) (n : ℕ) → LastIs h end last size → behind last ≡ suc n → (fate_in h n).all ≡ (fate_in h n).read
last_read end None size h n l e = absurd (omega (arith, e))
last_read end (Some k) None h n l e =
    let same : k ≡ n = omega (arith, e) in
    subst (λ (m : ℕ). (fate_in h m).all ≡ (fate_in h m).read) same (ap (λ (f : Fate). f.all) l ∙ sym (ap (λ (f : Fate). f.read) l))
last_read end (Some k) (Some s) h n l e =
    let same : k ≡ n = omega (arith, e) in
    subst (λ (m : ℕ). (fate_in h m).all ≡ (fate_in h m).read) same (l.written.all ∙ sym l.written.read)

all_read : (after last size : Option ℕ) (c : Option (List LogEntry)) (p : List LogEntry) (h : History) → Stands after last size c p h → (n : ℕ)
    → (fate_in h n).all ≡ (fate_in h n).read
all_read after last size c p h st n = elim (cases_lt n (behind last)) [
  | inr le ↦ ap (λ (f : Fate). f.all) (st.none n le) ∙ sym (ap (λ (f : Fate). f.read) (st.none n le))
  | inl lt ↦ elim (cases_lt (suc n) (behind last)) [
    | inl below ↦
        let r = st.at_rest_below n below in ap (λ (f : Fate). f.all) r ∙ sym (ap (λ (f : Fate). f.read) r)
    | inr top ↦
        let e : behind last ≡ suc n = omega (arith, lt, top) in last_read (behind after) last size h n st.last_is e
  ]
]

pub fits_now : (s : Session) (c : Option (List LogEntry)) (p : List LogEntry) (h : History) → SessionFits s c p h → ShowsAt (files_now h) (behind s.after) c
fits_now s c p h st = record {
  below = st.own.commits;
  open_above = λ n le.
      subst IsOpen (read_is h n)
      ((st.own.safe.above n le).stays_open (fate_in h n).read (read_may_be_left (fate_in h n) (sound_fate h.start h.acts n))
      (chance_read (fate_in h n) (fate_in h n).read (all_read s.after s.last s.size c p h st n)));
}

-- ---- numbers

grows_by : (l s : ℕ) (b : Bool) → (suc l ≤ suc (room_in (Some l) (Some s) b).segment) × (suc (room_in (Some l) (Some s) b).segment ≤ suc (suc l))
grows_by l s true = (omega arith, omega arith)
grows_by l s false = (omega arith, omega arith)

grows_in : (last size : Option ℕ) (limit more : ℕ) → (behind last ≤ suc (room_in last size (must_begin last size limit more)).segment)
    × (suc (room_in last size (must_begin last size limit more)).segment ≤ suc (behind last))
grows_in None size limit more = (omega arith, omega arith)
grows_in (Some l) None limit more = (omega arith, omega arith)
grows_in (Some l) (Some s) limit more = grows_by l s (is_full s limit more)

pub entry_grows : (s : Session) (more : ℕ) → (behind s.last ≤ behind (after_entry s more).last) × (behind (after_entry s more).last ≤ suc (behind s.last))
entry_grows s more = grows_in s.last s.size s.limit more

all_less : (k : ℕ) (js : List ℕ) → AllByRecursion (λ j. k < j) js → AllByRecursion (λ j. nat_cmp k j ≡ Less) js
all_less k [] all = tt
all_less k (j ∷ js) all = (sym (nat_cmp_is k j Less all.0), all_less k js all.1)

sorted_of : (ks : List ℕ) → Rising ks → IsStrictlySortedBy nat_cmp ks
unfolding IsStrictlySortedBy
sorted_of [] rising = tt
sorted_of (k ∷ ks) rising = (all_less k ks rising.0, sorted_of ks rising.1)

pub numbers_rise : (end : ℕ) (files : Files) → IsStrictlyIncreasing (numbers_from end files)
numbers_rise end files =
    IsStrictlyIncreasing-filter (λ n. not (nat_lt n end)) (segment_numbers files)
    (IsStrictlyIncreasing-from_sorted (segment_numbers files) (sorted_of (segment_numbers files) (keys_rising files.segments)))
