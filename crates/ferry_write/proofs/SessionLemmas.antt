-- Lemmas on specs/Session.antt: what a session stands on, one call later.
use Rattle.std.proofs.Common.{◌≡◌, ◌⊎◌, inl, inr, ℕ, suc, ◌+◌, ◌<◌, Bool, true, false, List, [], ◌∷◌, ◌++◌}
use Rattle.std.proofs.Common.{length, Option, Some, None, unwrap_or, refl, sym, ◌∙◌, ap, subst, arith}
use Rattle.std.specs.FinMap.{get}
use Rattle.std.proofs.lemmas.Bool.{cases_lt}
use Rattle.std.proofs.lemmas.List.{append-nil, append_assoc, length-append}
use Rattle.ferry_disk.specs.Act.{Step, AppendTo, SyncOf, History, files_now, with_act}
use Rattle.ferry_disk.specs.Files.{Files}
use Rattle.ferry_disk.specs.Image.{Fate, at_rest, fate_appended, fate_in}
use Rattle.ferry_disk.specs.Moments.{with_steps, EachMoment}
use Rattle.ferry_segment.specs.Entry.{LogEntry, Fits, spelling, size_of}
use Rattle.ferry_segment.specs.Segment.{magic, spellings, IsData}
use Rattle.ferry_segment.proofs.EntryLemmas.{length-spelling}
use Rattle.ferry_segment.proofs.SegmentLemmas.{spellings_more}
use Rattle.ferry_stops.specs.Entries.{SegmentHas, HaveBelow}
use Rattle.ferry_stops.specs.Ground.{IsDataFront, IsOwn}
use Rattle.ferry_stops.proofs.GroundLemmas.{have_same}
use Rattle.ferry_write.specs.Room.{behind, is_full, must_begin, room_in, sync_steps, room_steps}
use Rattle.ferry_write.specs.Session.{IsWritten, Stands}
use Rattle.ferry_write.proofs.ScriptLemmas.{with_steps-append, each_append}
use Rattle.ferry_write.proofs.StandLemmas.{either_number, all-append, append_here, append_other, sync_here, sync_other, read_is, files_same}
use Rattle.ferry_write.proofs.StandLemmas.{rest_same, append_own, written_next, sync_own, synced_rest, begin_own, front_of_data, all_of_data}
use Rattle.ferry_write.proofs.StandLemmas.{split_more, Grew, grew_one, grew_then}

-- what is safe and committed below the session's end
abbrev pub Own : Option ℕ → Option (List LogEntry) → History → Type 0
Own after committed h = IsOwn (behind after) committed h

-- ---- an entry

-- the segment of a number has one entry more
have_more : (files others : Files) (n : ℕ) (entries : List LogEntry) (bytes : List ℕ) (e : LogEntry)
    → ((m : ℕ) → m < n → get files.segments m ≡ get others.segments m) → get files.segments n ≡ Some bytes
    → get others.segments n ≡ Some (bytes ++ spelling e) → Fits e → HaveBelow files (suc n) entries
    → HaveBelow others (suc n) (entries ++ e ∷ [])
unfolding HaveBelow
have_more files others n entries bytes e same was is fits h = (
  h.0,
  h.1 ++ e ∷ [],
  have_same files others n h.0 same h.2,
  subst (λ (o : Option (List ℕ)). SegmentHas o (h.1 ++ e ∷ [])) (sym is)
      (split_more bytes h.1 e (subst (λ (o : Option (List ℕ)). SegmentHas o h.1) was h.3) fits),
  ap (λ (l : List LogEntry). l ++ e ∷ []) h.4 ∙ append_assoc h.0 h.1 (e ∷ []),
)

pub entry_stands : (after : Option ℕ) (n s : ℕ) (c : Option (List LogEntry)) (p : List LogEntry) (h g : History) (e : LogEntry)
    → Stands after (Some n) (Some s) c p h → Fits e → IsData e → Grew n (spelling e) h g → Own after c g
    → Stands after (Some n) (Some (s + size_of e)) c (p ++ e ∷ []) g
entry_stands after n s c p h g e st fits is_data w own =
    let cur = st.last_is in
    let bytes = magic ++ spellings cur.entries in
    let next : IsWritten g n (bytes ++ spelling e) = written_next h g n bytes (spelling e) cur.written w.here in
    let spelled : bytes ++ spelling e ≡ magic ++ spellings (cur.entries ++ e ∷ []) =
    append_assoc magic (spellings cur.entries) (spelling e) ∙ ap (λ (l : List ℕ). magic ++ l) (sym (spellings_more cur.entries e)) in
    record {
      own = own;
      order = st.order;
      none = λ m le. w.others m (λ q. omega (arith, le, q)) ∙ st.none m le;
      at_rest_below = λ m lt. rest_same h g m (w.others m (λ q. omega (arith, lt, q))) (st.at_rest_below m lt);
      last_is = record {
        above = cur.above;
        entries = cur.entries ++ e ∷ [];
        fit = all-append Fits cur.entries (e ∷ []) cur.fit (fits, tt);
        data_only = all-append IsData cur.entries (e ∷ []) cur.data_only (is_data, tt);
        written = subst (IsWritten g n) spelled next;
        size_is = omega (
          arith,
          cur.size_is,
          ap length (spellings_more cur.entries e),
          length-append (spellings cur.entries) (spelling e),
          length-spelling e,
        );
      };
      entries = subst (HaveBelow (files_now g) (suc n)) (append_assoc (unwrap_or c []) p (e ∷ []))
          (have_more (files_now h) (files_now g) n (unwrap_or c [] ++ p) bytes e
          (λ m lt. sym (files_same h g m (w.others m (λ q. omega (arith, lt, q)))))
          (sym (read_is h n) ∙ cur.written.read) (sym (read_is g n) ∙ next.read) fits st.entries);
    }

-- ---- a Sync of the segment that is written

sync_stands : (after : Option ℕ) (n s : ℕ) (c : Option (List LogEntry)) (p : List LogEntry) (h : History) → Stands after (Some n) (Some s) c p h
    → Stands after (Some n) None c p (with_act (SyncOf n) true h)
sync_stands after n s c p h st =
    let cur = st.last_is in
    let bytes = magic ++ spellings cur.entries in
    let g = with_act (SyncOf n) true h in
    let here : fate_in g n ≡ at_rest (fate_in h n).read = sync_here h n true ∙ synced_rest h n bytes cur.written in
    let same_read : (fate_in g n).read ≡ (fate_in h n).read = ap (λ (f : Fate). f.read) here in
    record {
      own = sync_own (behind after) c h n bytes true st.own cur.above cur.written (all_of_data cur.entries cur.fit cur.data_only);
      order = st.order;
      none = λ m le. sync_other h n true m (λ q. omega (arith, le, q)) ∙ st.none m le;
      at_rest_below = λ m lt. rest_same h g m (sync_other h n true m (λ q. omega (arith, lt, q))) (st.at_rest_below m lt);
      last_is = here ∙ ap at_rest (sym same_read ∙ read_is g n);
      entries = have_same (files_now h) (files_now g) (suc n) (unwrap_or c [] ++ p)
          (λ m lt. same_file m (either_number m n)) st.entries;
    } where
      same_file : (m : ℕ) → (m ≡ n) ⊎ (m ≡ n → ⊥) → get (files_now h).segments m ≡ get (files_now (with_act (SyncOf n) true h)).segments m
      same_file m (inl q) =
          let g = with_act (SyncOf n) true h in
          let read : (fate_in g n).read ≡ (fate_in h n).read = ap (λ (f : Fate). f.read) (sync_here h n true) in
          ap (λ (k : ℕ). get (files_now h).segments k) q
          ∙ (sym (read_is h n) ∙ (sym read ∙ (read_is g n ∙ ap (λ (k : ℕ). get (files_now g).segments k) (sym q))))
      same_file m (inr off) = sym (files_same h (with_act (SyncOf n) true h) m (sync_other h n true m off))

-- what stands behind some steps, and is safe at each moment of them
pub record Goes (after last size : Option ℕ) (c : Option (List LogEntry)) (p : List LogEntry) (h : History) (steps : List Step) : Type 0 where
  pub stands : Stands after last size c p (with_steps steps h)
  pub each : EachMoment (Own after c) h steps

pub synced : (after last size : Option ℕ) (c : Option (List LogEntry)) (p : List LogEntry) (h : History) → Stands after last size c p h
    → Goes after last None c p h (sync_steps last size)
synced after None size c p h st = record {
  stands = record { own = st.own; order = st.order; none = st.none; at_rest_below = st.at_rest_below; last_is = refl; entries = st.entries };
  each = st.own;
}
synced after (Some n) None c p h st = record { stands = st; each = st.own }
synced after (Some n) (Some s) c p h st =
    let cur = st.last_is in
    let bytes = magic ++ spellings cur.entries in
    let own : (done : Bool) → Own after c (with_act (SyncOf n) done h) =
    (λ done. sync_own (behind after) c h n bytes done st.own cur.above cur.written (all_of_data cur.entries cur.fit cur.data_only)) in
    record { stands = sync_stands after n s c p h st; each = (st.own, own false, own true) }

-- ---- a segment that begins

-- where no segment is written, all up to the last are at rest
pub all_rest : (after last : Option ℕ) (c : Option (List LogEntry)) (p : List LogEntry) (h : History) → Stands after last None c p h
    → (n : ℕ) → n < behind last → fate_in h n ≡ at_rest (get (files_now h).segments n)
all_rest after None c p h st n lt = absurd (omega (arith, lt))
all_rest after (Some l) c p h st n lt = by_number (either_number n l) where
  by_number : (n ≡ l) ⊎ (n ≡ l → ⊥) → fate_in h n ≡ at_rest (get (files_now h).segments n)
  by_number (inl q) = subst (λ (k : ℕ). fate_in h k ≡ at_rest (get (files_now h).segments k)) (sym q) st.last_is
  by_number (inr off) = elim (cases_lt n l) [
    | inl q ↦ st.at_rest_below n (omega (arith, q))
    | inr q ↦ absurd (off (omega (arith, q, lt)))
  ]

have_empty : (files others : Files) (n : ℕ) (entries : List LogEntry) → ((m : ℕ) → m < n → get files.segments m ≡ get others.segments m)
    → get others.segments n ≡ Some magic → HaveBelow files n entries → HaveBelow others (suc n) entries
unfolding HaveBelow
have_empty files others n entries same is h = (
  entries,
  [],
  have_same files others n entries same h,
  subst (λ (o : Option (List ℕ)). SegmentHas o []) (sym is) (record { fit = tt; whole = refl }),
  sym (append-nil entries),
)

pub begun : (after last : Option ℕ) (c : Option (List LogEntry)) (p : List LogEntry) (h : History) → Stands after last None c p h
    → Goes after (Some (behind last)) (Some 8) c p h (AppendTo (behind last) magic ∷ [])
begun after last c p h st =
    let n = behind last in
    let g = with_act (AppendTo n magic) true h in
    let absent : fate_in h n ≡ at_rest None = st.none n (omega arith) in
    let here : fate_in g n ≡ fate_appended magic true (at_rest None) = append_here h n magic true ∙ ap (fate_appended magic true) absent in
    let own : (done : Bool) → Own after c (with_act (AppendTo n magic) done h) = (λ done. begin_own (behind after) c h n done st.own st.order absent) in
    let read : (fate_in g n).read ≡ Some magic = ap (λ (f : Fate). f.read) here in
    record {
      stands = record {
        own = own true;
        order = omega (arith, st.order);
        none = λ m le. append_other h n magic true m (λ q. omega (arith, le, q)) ∙ st.none m (omega (arith, le));
        at_rest_below = λ m lt. rest_same h g m (append_other h n magic true m (λ q. omega (arith, lt, q)))
            (all_rest after last c p h st m (omega (arith, lt)));
        last_is = record {
          above = st.order;
          entries = [];
          fit = tt;
          data_only = tt;
          written = record {
            read = read;
            all = ap (λ (f : Fate). f.all) here;
            kept = ap (λ (f : Fate). f.lost) here;
            rest = magic;
            begins = ap (λ (f : Fate). unwrap_or f.stable [] ++ magic) (sym here);
          };
          size_is = refl;
        };
        entries = have_empty (files_now h) (files_now g) n (unwrap_or c [] ++ p)
            (λ m lt. sym (files_same h g m (append_other h n magic true m (λ q. omega (arith, lt, q)))))
            (sym (read_is g n) ∙ read) st.entries;
      };
      each = (st.own, own false, own true);
    }

-- two scripts, one behind the other
pub goes_then : (after l s k t : Option ℕ) (c : Option (List LogEntry)) (p q : List LogEntry) (h : History) (xs ys : List Step)
    → Goes after l s c p h xs → Goes after k t c q (with_steps xs h) ys → Goes after k t c q h (xs ++ ys)
goes_then after l s k t c p q h xs ys a b = record {
  stands = subst (Stands after k t c q) (sym (with_steps-append xs ys h)) b.stands;
  each = each_append (Own after c) h xs ys a.each b.each;
}

pub new_room : (after last size : Option ℕ) (c : Option (List LogEntry)) (p : List LogEntry) (h : History) → Stands after last size c p h
    → Goes after (Some (behind last)) (Some 8) c p h (sync_steps last size ++ (AppendTo (behind last) magic ∷ []))
new_room after last size c p h st =
    let first = synced after last size c p h st in
    goes_then after last None (Some (behind last)) (Some 8) c p p h (sync_steps last size) (AppendTo (behind last) magic ∷ []) first
    (begun after last c p (with_steps (sync_steps last size) h) first.stands)

room_by : (after : Option ℕ) (l s : ℕ) (b : Bool) (c : Option (List LogEntry)) (p : List LogEntry) (h : History) → Stands after (Some l) (Some s) c p h
    → Goes after (Some (room_in (Some l) (Some s) b).segment) (Some (room_in (Some l) (Some s) b).at) c p h (room_steps (Some l) (Some s) b)
room_by after l s true c p h st = new_room after (Some l) (Some s) c p h st
room_by after l s false c p h st = record { stands = st; each = st.own }

-- room for an entry of a size
pub roomed : (after last size : Option ℕ) (limit more : ℕ) (c : Option (List LogEntry)) (p : List LogEntry) (h : History) → Stands after last size c p h
    → Goes after (Some (room_in last size (must_begin last size limit more)).segment) (Some (room_in last size (must_begin last size limit more)).at) c p h
    (room_steps last size (must_begin last size limit more))
roomed after None size limit more c p h st = new_room after None size c p h st
roomed after (Some l) None limit more c p h st = new_room after (Some l) None c p h st
roomed after (Some l) (Some s) limit more c p h st = room_by after l s (is_full s limit more) c p h st

-- ---- an entry in one append, and in two

pub put_one : (after : Option ℕ) (n s : ℕ) (c : Option (List LogEntry)) (p : List LogEntry) (h : History) (e : LogEntry) (x : List ℕ)
    → Stands after (Some n) (Some s) c p h → Fits e → IsData e → x ≡ spelling e
    → Goes after (Some n) (Some (s + size_of e)) c (p ++ e ∷ []) h (AppendTo n x ∷ [])
put_one after n s c p h e x st fits is_data eq =
    let cur = st.last_is in
    let bytes = magic ++ spellings cur.entries in
    let front : IsDataFront (bytes ++ x) = front_of_data cur.entries e x [] cur.fit cur.data_only fits is_data (append-nil x ∙ eq) in
    let own : (done : Bool) → Own after c (with_act (AppendTo n x) done h) =
    (λ done. append_own (behind after) c h n bytes x done st.own cur.above cur.written front) in
    record {
      stands = entry_stands after n s c p h (with_act (AppendTo n x) true h) e st fits is_data
          (subst (λ (y : List ℕ). Grew n y h (with_act (AppendTo n x) true h)) eq (grew_one n x h st.own.safe.settled_is)) (own true);
      each = (st.own, own false, own true);
    }

pub put_two : (after : Option ℕ) (n s : ℕ) (c : Option (List LogEntry)) (p : List LogEntry) (h : History) (e : LogEntry) (x y : List ℕ)
    → Stands after (Some n) (Some s) c p h → Fits e → IsData e → x ++ y ≡ spelling e
    → Goes after (Some n) (Some (s + size_of e)) c (p ++ e ∷ []) h ((AppendTo n x ∷ []) ++ (AppendTo n y ∷ []))
put_two after n s c p h e x y st fits is_data eq =
    let cur = st.last_is in
    let bytes = magic ++ spellings cur.entries in
    let mid = with_act (AppendTo n x) true h in
    let first : IsDataFront (bytes ++ x) = front_of_data cur.entries e x y cur.fit cur.data_only fits is_data eq in
    let own : (done : Bool) → Own after c (with_act (AppendTo n x) done h) =
    (λ done. append_own (behind after) c h n bytes x done st.own cur.above cur.written first) in
    let there : IsWritten mid n (bytes ++ x) = written_next h mid n bytes x cur.written (append_here h n x true) in
    let whole : IsDataFront (bytes ++ (x ++ y)) =
    front_of_data cur.entries e (x ++ y) [] cur.fit cur.data_only fits is_data (append-nil (x ++ y) ∙ eq) in
    let second : IsDataFront ((bytes ++ x) ++ y) = subst IsDataFront (sym (append_assoc bytes x y)) whole in
    let then_own : (done : Bool) → Own after c (with_act (AppendTo n y) done mid) =
    (λ done. append_own (behind after) c mid n (bytes ++ x) y done (own true) cur.above there second) in
    let grew : Grew n (x ++ y) h (with_act (AppendTo n y) true mid) = grew_then n x y h mid (grew_one n x h st.own.safe.settled_is) in
    record {
      stands = entry_stands after n s c p h (with_act (AppendTo n y) true mid) e st fits is_data
          (subst (λ (z : List ℕ). Grew n z h (with_act (AppendTo n y) true mid)) eq grew) (then_own true);
      each = (st.own, own false, (own true, then_own false, then_own true));
    }
