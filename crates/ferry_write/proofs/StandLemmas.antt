-- Lemmas on specs/Session.antt: what one more step leaves of what a session stands on.
use Rattle.std.proofs.Common.{◌≡◌, ◌⊎◌, inl, inr, ℕ, ◌<◌, ◌≤◌, nat_eq, Bool, true, false, ◌&&◌, ◌||◌, if◌then◌else◌, List, [], ◌∷◌, ◌++◌}
use Rattle.std.proofs.Common.{Option, Some, None, unwrap_or, refl, sym, ◌∙◌, ap, subst, arith}
use Rattle.std.specs.FinMap.{get}
use Rattle.std.specs.List.{AllByRecursion}
use Rattle.std.specs.Cmp.{nat_eq_equiv}
use Rattle.std.proofs.lemmas.Bool.{cases_lt}
use Rattle.std.proofs.lemmas.List.{append-nil, append_assoc}
use Rattle.ferry_disk.specs.Act.{Step, AppendTo, SyncOf, RemoveOf, History, files_now, with_act}
use Rattle.ferry_disk.specs.Files.{Files}
use Rattle.ferry_disk.specs.Image.{Fate, at_rest, fate_appended, fate_synced, fate_removed, fate_stepped, fate_in, is_settle, settled}
use Rattle.ferry_disk.proofs.FilesLemmas.{same_number}
use Rattle.ferry_disk.proofs.ImageLemmas.{fate_of-push, settled-push, fate_read}
use Rattle.ferry_segment.specs.Entry.{LogEntry, Fits, spelling}
use Rattle.ferry_segment.specs.Segment.{magic, spellings, Splits, IsData}
use Rattle.ferry_segment.proofs.SegmentLemmas.{spellings_more}
use Rattle.ferry_stops.specs.Chance.{EachStop, stable_bytes, all_bytes}
use Rattle.ferry_stops.specs.Entries.{CommittedBelow, Shows}
use Rattle.ferry_stops.specs.Ground.{IsHarmless, IsDataFront, IsDraft, IsOwn}
use Rattle.ferry_stops.proofs.DraftLemmas.{draft_harmless}
use Rattle.ferry_stops.proofs.GroundLemmas.{have_same, own_shows}
use Rattle.ferry_write.specs.Session.{IsWritten}

-- ---- numbers and lists

pub either_number : (m k : ℕ) → (m ≡ k) ⊎ (m ≡ k → ⊥)
either_number m k = elim (cases_lt m k) [
  | inl lt ↦ inr (λ e. omega (arith, lt, e))
  | inr le ↦ elim (cases_lt k m) [
    | inl lt ↦ inr (λ e. omega (arith, lt, e))
    | inr ge ↦ inl (omega (arith, le, ge))
  ]
]

pub own_number : (k : ℕ) → nat_eq k k ≡ true
own_number k = nat_eq_equiv.refl k

off_by : (m k : ℕ) (b : Bool) → nat_eq m k ≡ b → (m ≡ k → ⊥) → nat_eq m k ≡ false
off_by m k true e off = absurd (off (same_number m k e))
off_by m k false e off = e

pub off_number : (m k : ℕ) → (m ≡ k → ⊥) → nat_eq m k ≡ false
off_number m k off = off_by m k (nat_eq m k) refl off

pub all-append : {X : Type 0} (P : X → Type 0) (xs ys : List X) → AllByRecursion P xs → AllByRecursion P ys → AllByRecursion P (xs ++ ys)
all-append P [] ys p q = q
all-append P (x ∷ xs) ys p q = (p.0, all-append P xs ys p.1 q)

-- ---- fates after one more step

pub fate_next : (h : History) (step : Step) (done : Bool) (m : ℕ) → fate_in (with_act step done h) m ≡ fate_stepped m step done (fate_in h m)
fate_next h step done m = fate_of-push h.start h.acts (record { step = step; done = done }) m

pub append_here : (h : History) (k : ℕ) (bytes : List ℕ) (done : Bool) → fate_in (with_act (AppendTo k bytes) done h) k ≡ fate_appended bytes done (fate_in h k)
append_here h k bytes done =
    fate_next h (AppendTo k bytes) done k
    ∙ ap (λ (b : Bool). if b then fate_appended bytes done (fate_in h k) else fate_in h k) (own_number k)

pub append_other : (h : History) (k : ℕ) (bytes : List ℕ) (done : Bool) (m : ℕ) → (m ≡ k → ⊥) → fate_in (with_act (AppendTo k bytes) done h) m ≡ fate_in h m
append_other h k bytes done m off =
    fate_next h (AppendTo k bytes) done m
    ∙ ap (λ (b : Bool). if b then fate_appended bytes done (fate_in h m) else fate_in h m) (off_number m k off)

pub sync_here : (h : History) (k : ℕ) (done : Bool) → fate_in (with_act (SyncOf k) done h) k ≡ fate_synced done (fate_in h k)
sync_here h k done =
    fate_next h (SyncOf k) done k ∙ ap (λ (b : Bool). if b then fate_synced done (fate_in h k) else fate_in h k) (own_number k)

pub sync_other : (h : History) (k : ℕ) (done : Bool) (m : ℕ) → (m ≡ k → ⊥) → fate_in (with_act (SyncOf k) done h) m ≡ fate_in h m
sync_other h k done m off =
    fate_next h (SyncOf k) done m ∙ ap (λ (b : Bool). if b then fate_synced done (fate_in h m) else fate_in h m) (off_number m k off)

pub remove_here : (h : History) (k : ℕ) (done : Bool) → fate_in (with_act (RemoveOf k) done h) k ≡ fate_removed done (fate_in h k)
remove_here h k done =
    fate_next h (RemoveOf k) done k ∙ ap (λ (b : Bool). if b then fate_removed done (fate_in h k) else fate_in h k) (own_number k)

pub remove_other : (h : History) (k : ℕ) (done : Bool) (m : ℕ) → (m ≡ k → ⊥) → fate_in (with_act (RemoveOf k) done h) m ≡ fate_in h m
remove_other h k done m off =
    fate_next h (RemoveOf k) done m ∙ ap (λ (b : Bool). if b then fate_removed done (fate_in h m) else fate_in h m) (off_number m k off)

pub settled_next : (h : History) (step : Step) (done : Bool) → settled h.acts ≡ true → settled (with_act step done h).acts ≡ true
settled_next h step done s =
    settled-push h.acts (record { step = step; done = done }) ∙ ap (λ (b : Bool). b || (done && is_settle step)) s

pub read_is : (h : History) (m : ℕ) → (fate_in h m).read ≡ get (files_now h).segments m
read_is h m = fate_read h.start h.acts m

pub files_same : (h g : History) (m : ℕ) → fate_in g m ≡ fate_in h m → get (files_now g).segments m ≡ get (files_now h).segments m
files_same h g m e = sym (read_is g m) ∙ (ap (λ (f : Fate). f.read) e ∙ read_is h m)

-- what is at rest stays so where its fate is the same
pub rest_same : (h g : History) (m : ℕ) → fate_in g m ≡ fate_in h m → fate_in h m ≡ at_rest (get (files_now h).segments m)
    → fate_in g m ≡ at_rest (get (files_now g).segments m)
rest_same h g m e r = e ∙ (r ∙ ap at_rest (sym (files_same h g m e)))

-- ---- a safe ground, where one segment above the end has changed

pub committed_same : (files others : Files) (end : ℕ) (committed : Option (List LogEntry))
    → ((n : ℕ) → n < end → get files.segments n ≡ get others.segments n) → CommittedBelow files end committed → CommittedBelow others end committed
committed_same files others end None same c = c
committed_same files others end (Some entries) same c = record {
  last = c.last;
  end_is = c.end_is;
  bytes = c.bytes;
  there = sym (same c.last (omega (arith, c.end_is))) ∙ c.there;
  committed = c.committed;
  entries_are = have_same files others end entries same c.entries_are;
}

pub own_changed : (end : ℕ) (committed : Option (List LogEntry)) (h g : History) (k : ℕ) → IsOwn end committed h → end ≤ k → settled g.acts ≡ true
    → ((m : ℕ) → (m ≡ k → ⊥) → fate_in g m ≡ fate_in h m) → IsHarmless (fate_in g k) → IsOwn end committed g
own_changed end committed h g k own le s others harmless = record {
  safe = record {
    settled_is = s;
    below = λ m lt. rest_same h g m (others m (λ e. omega (arith, lt, le, e))) (own.safe.below m lt);
    above = λ m above. above_by m above (either_number m k);
  };
  commits = committed_same (files_now h) (files_now g) end committed
      (λ m lt. sym (files_same h g m (others m (λ e. omega (arith, lt, le, e))))) own.commits;
} where
  above_by : (m : ℕ) → end ≤ m → (m ≡ k) ⊎ (m ≡ k → ⊥) → IsHarmless (fate_in g m)
  above_by m above (inl e) = subst (λ (n : ℕ). IsHarmless (fate_in g n)) (sym e) harmless
  above_by m above (inr off) = subst IsHarmless (sym (others m off)) (own.safe.above m above)

pub own_keeps : (end : ℕ) (committed : Option (List LogEntry)) (h : History) → IsOwn end committed h → EachStop (λ image. Shows image committed) h
own_keeps end committed h own image left = (end, own_shows end committed h own image left)

-- ---- a segment that is written

pub written_all : (h : History) (k : ℕ) (bytes : List ℕ) → IsWritten h k bytes → all_bytes (fate_in h k) ≡ bytes
written_all h k bytes w = ap (λ (o : Option (List ℕ)). unwrap_or o []) w.all

appended_draft : (h : History) (k : ℕ) (bytes x : List ℕ) (done : Bool) → IsWritten h k bytes → IsDataFront (bytes ++ x)
    → IsDraft (fate_appended x done (fate_in h k))
appended_draft h k bytes x done w front =
    let all_is : all_bytes (fate_in h k) ++ x ≡ bytes ++ x = ap (λ (l : List ℕ). l ++ x) (written_all h k bytes w) in
    record {
      stable_first = (
        w.rest ++ x,
        all_is ∙ (ap (λ (l : List ℕ). l ++ x) w.begins ∙ append_assoc (stable_bytes (fate_in h k)) w.rest x),
      );
      data_front = subst IsDataFront (sym all_is) front;
    }

pub append_own : (end : ℕ) (committed : Option (List LogEntry)) (h : History) (k : ℕ) (bytes x : List ℕ) (done : Bool) → IsOwn end committed h → end ≤ k
    → IsWritten h k bytes → IsDataFront (bytes ++ x) → IsOwn end committed (with_act (AppendTo k x) done h)
append_own end committed h k bytes x done own le w front =
    own_changed end committed h (with_act (AppendTo k x) done h) k own le (settled_next h (AppendTo k x) done own.safe.settled_is)
    (append_other h k x done)
    (subst IsHarmless (sym (append_here h k x done)) (draft_harmless (fate_appended x done (fate_in h k)) (appended_draft h k bytes x done w front)))

pub written_next : (h g : History) (k : ℕ) (bytes x : List ℕ) → IsWritten h k bytes → fate_in g k ≡ fate_appended x true (fate_in h k)
    → IsWritten g k (bytes ++ x)
written_next h g k bytes x w e = record {
  read = ap (λ (f : Fate). f.read) e ∙ ap (λ (o : Option (List ℕ)). Some (unwrap_or o [] ++ x)) w.read;
  all = ap (λ (f : Fate). f.all) e ∙ ap (λ (o : Option (List ℕ)). Some (unwrap_or o [] ++ x)) w.all;
  kept = ap (λ (f : Fate). f.lost) e ∙ w.kept;
  rest = w.rest ++ x;
  begins = ap (λ (l : List ℕ). l ++ x) w.begins
      ∙ (append_assoc (stable_bytes (fate_in h k)) w.rest x ∙ ap (λ (f : Fate). stable_bytes f ++ (w.rest ++ x)) (sym e));
}

synced_draft : (h : History) (k : ℕ) (bytes : List ℕ) (done : Bool) → IsWritten h k bytes → IsDataFront bytes → IsDraft (fate_synced done (fate_in h k))
synced_draft h k bytes true w front = record {
  stable_first = (
    [],
    written_all h k bytes w
        ∙ (sym (append-nil bytes) ∙ ap (λ (o : Option (List ℕ)). unwrap_or o [] ++ []) (sym w.read)),
  );
  data_front = subst IsDataFront (sym (written_all h k bytes w)) front;
}
synced_draft h k bytes false w front = record {
  stable_first = (w.rest, written_all h k bytes w ∙ w.begins);
  data_front = subst IsDataFront (sym (written_all h k bytes w)) front;
}

pub sync_own : (end : ℕ) (committed : Option (List LogEntry)) (h : History) (k : ℕ) (bytes : List ℕ) (done : Bool) → IsOwn end committed h → end ≤ k
    → IsWritten h k bytes → IsDataFront bytes → IsOwn end committed (with_act (SyncOf k) done h)
sync_own end committed h k bytes done own le w front =
    own_changed end committed h (with_act (SyncOf k) done h) k own le (settled_next h (SyncOf k) done own.safe.settled_is) (sync_other h k done)
    (subst IsHarmless (sym (sync_here h k done)) (draft_harmless (fate_synced done (fate_in h k)) (synced_draft h k bytes done w front)))

-- a written segment that is synced is at rest
pub synced_rest : (h : History) (k : ℕ) (bytes : List ℕ) → IsWritten h k bytes → fate_synced true (fate_in h k) ≡ at_rest (fate_in h k).read
synced_rest h k bytes w =
    let f = fate_in h k in
    let all : f.all ≡ f.read = w.all ∙ sym w.read in
    λ i. record { read = f.read; stable = f.read; all = all i; lost = w.kept i }

pub magic_front : IsDataFront magic
magic_front = record { more = []; entries = []; fit = tt; data_only = tt; whole = refl }

begun_draft : (f : Fate) (done : Bool) → f ≡ at_rest None → IsDraft (fate_appended magic done f)
begun_draft f true e = subst (λ (g : Fate). IsDraft (fate_appended magic true g)) (sym e) (record { stable_first = (magic, refl); data_front = magic_front })
begun_draft f false e = subst (λ (g : Fate). IsDraft (fate_appended magic false g)) (sym e) (record { stable_first = (magic, refl); data_front = magic_front })

pub begin_own : (end : ℕ) (committed : Option (List LogEntry)) (h : History) (k : ℕ) (done : Bool) → IsOwn end committed h → end ≤ k
    → fate_in h k ≡ at_rest None → IsOwn end committed (with_act (AppendTo k magic) done h)
begin_own end committed h k done own le e =
    own_changed end committed h (with_act (AppendTo k magic) done h) k own le (settled_next h (AppendTo k magic) done own.safe.settled_is)
    (append_other h k magic done)
    (subst IsHarmless (sym (append_here h k magic done))
    (draft_harmless (fate_appended magic done (fate_in h k)) (begun_draft (fate_in h k) done e)))

-- ---- data and entries

pub front_of_data : (es : List LogEntry) (e : LogEntry) (x more : List ℕ) → AllByRecursion Fits es → AllByRecursion IsData es → Fits e → IsData e
    → x ++ more ≡ spelling e → IsDataFront ((magic ++ spellings es) ++ x)
front_of_data es e x more fit data_only fits is_data eq = record {
  more = more;
  entries = es ++ e ∷ [];
  fit = all-append Fits es (e ∷ []) fit (fits, tt);
  data_only = all-append IsData es (e ∷ []) data_only (is_data, tt);
  whole = append_assoc (magic ++ spellings es) x more
      ∙ (ap (λ (l : List ℕ). (magic ++ spellings es) ++ l) eq
      ∙ (append_assoc magic (spellings es) (spelling e) ∙ ap (λ (l : List ℕ). magic ++ l) (sym (spellings_more es e))));
}

pub all_of_data : (es : List LogEntry) → AllByRecursion Fits es → AllByRecursion IsData es → IsDataFront (magic ++ spellings es)
all_of_data es fit data_only = record { more = []; entries = es; fit = fit; data_only = data_only; whole = append-nil (magic ++ spellings es) }

pub split_more : (bytes : List ℕ) (es : List LogEntry) (e : LogEntry) → Splits bytes es → Fits e → Splits (bytes ++ spelling e) (es ++ e ∷ [])
split_more bytes es e s fits = record {
  fit = all-append Fits es (e ∷ []) s.fit (fits, tt);
  whole = ap (λ (l : List ℕ). l ++ spelling e) s.whole
      ∙ (append_assoc magic (spellings es) (spelling e) ∙ ap (λ (l : List ℕ). magic ++ l) (sym (spellings_more es e)));
}

-- ---- several appends to one segment

-- All is as before but a segment, which got these bytes.
pub record Grew (k : ℕ) (x : List ℕ) (h g : History) : Type 0 where
  pub settled_is : settled g.acts ≡ true
  pub here : fate_in g k ≡ fate_appended x true (fate_in h k)
  pub others : (m : ℕ) → (m ≡ k → ⊥) → fate_in g m ≡ fate_in h m

pub grew_one : (k : ℕ) (x : List ℕ) (h : History) → settled h.acts ≡ true → Grew k x h (with_act (AppendTo k x) true h)
grew_one k x h s = record {
  settled_is = settled_next h (AppendTo k x) true s;
  here = append_here h k x true;
  others = append_other h k x true;
}

appended_twice : (f : Fate) (x y : List ℕ) → fate_appended y true (fate_appended x true f) ≡ fate_appended (x ++ y) true f
appended_twice f x y =
    let r : (unwrap_or f.read [] ++ x) ++ y ≡ unwrap_or f.read [] ++ (x ++ y) = append_assoc (unwrap_or f.read []) x y in
    let a : (unwrap_or f.all [] ++ x) ++ y ≡ unwrap_or f.all [] ++ (x ++ y) = append_assoc (unwrap_or f.all []) x y in
    λ i. record { read = Some (r i); stable = f.stable; all = Some (a i); lost = f.lost }

pub grew_then : (k : ℕ) (x y : List ℕ) (h g : History) → Grew k x h g → Grew k (x ++ y) h (with_act (AppendTo k y) true g)
grew_then k x y h g w = record {
  settled_is = settled_next g (AppendTo k y) true w.settled_is;
  here = append_here g k y true ∙ (ap (fate_appended y true) w.here ∙ appended_twice (fate_in h k) x y);
  others = λ m off. append_other g k y true m off ∙ w.others m off;
}
