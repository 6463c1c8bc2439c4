-- Lemmas on specs/Filling.antt: what segments have once a session has begun, has put one more entry, or has committed.
use Rattle.std.proofs.Common.{◌≡◌, ◌⊎◌, inl, inr, ℕ, zero, suc, ◌+◌, ◌<◌, ◌≤◌, nat_lt, Bool, true, false, ◌&&◌, List, [], ◌∷◌, ◌++◌, length, replicate}
use Rattle.std.proofs.Common.{Option, Some, None, unwrap_or, refl, sym, ◌∙◌, ap, subst, arith}
use Rattle.std.proofs.lemmas.Bool.{cases_lt, lt-ltb, ltb-false, ltb-true}
use Rattle.std.proofs.lemmas.List.{append-nil, append_assoc, length-append}
use Rattle.std.specs.FinMap.{get}
use Rattle.std.specs.List.{AllByRecursion}
use Rattle.ferry_compact.proofs.ListLemmas.{all-append, all_back}
use Rattle.ferry_compact.specs.Filling.{AreFilled, Fills, IsFilled}
use Rattle.ferry_compact.specs.Steps.{IsWriting}
use Rattle.ferry_disk.specs.Act.{History, files_now}
use Rattle.ferry_disk.specs.Files.{Files, segment_bytes}
use Rattle.ferry_segment.proofs.EntryLemmas.{length-spelling, same_fronts, size_of-least}
use Rattle.ferry_segment.specs.Entry.{CommitEntry, Fits, LogEntry, size_of, spelling}
use Rattle.ferry_segment.specs.Segment.{Committed, Splits, magic, spellings}
use Rattle.ferry_stops.proofs.DraftLemmas.{spellings-append}
use Rattle.ferry_stops.specs.Entries.{EndsAt, HaveBelow, SegmentHas}
use Rattle.ferry_write.proofs.StandLemmas.{read_is}
use Rattle.ferry_write.specs.Room.{after_entry, behind, is_full, must_begin, room_in}
use Rattle.ferry_write.specs.Session.{IsCurrent, OnlyAppends, SessionFits, Stands, Stays}
use Rattle.ferry_write.specs.declared.session.Session.{Session}

-- ---- the bytes of entries

-- how many bytes entries have
abbrev sized : List LogEntry → ℕ
sized es = length (spellings es)

sized-append : (es fs : List LogEntry) → sized (es ++ fs) ≡ sized es + sized fs
sized-append es fs = ap length (spellings-append es fs) ∙ length-append (spellings es) (spellings fs)

sized_one : (e : LogEntry) → sized (e ∷ []) ≡ size_of e
sized_one e = ap length (append-nil (spelling e)) ∙ length-spelling e

sized_more : (es : List LogEntry) (e : LogEntry) → sized (es ++ e ∷ []) ≡ sized es + size_of e
sized_more es e = sized-append es (e ∷ []) ∙ ap (λ (n : ℕ). sized es + n) (sized_one e)

split_size : (bytes : List ℕ) (es : List LogEntry) → Splits bytes es → length bytes ≡ 8 + sized es
split_size bytes es split = ap length split.whole ∙ length-append magic (spellings es)

has_bytes : (file : Option (List ℕ)) (es : List LogEntry) → SegmentHas file es → 0 < length (unwrap_or file []) → unwrap_or file [] ≡ magic ++ spellings es
has_bytes None es has some = absurd (let no : ⊥ = omega (arith, some) in no)
has_bytes (Some bytes) es has some = has.whole

has_size : (file : Option (List ℕ)) (es : List LogEntry) → SegmentHas file es → 0 < length (unwrap_or file []) → length (unwrap_or file []) ≡ 8 + sized es
has_size None es has some = absurd (let no : ⊥ = omega (arith, some) in no)
has_size (Some bytes) es has some = split_size bytes es has

has_fit : (file : Option (List ℕ)) (es : List LogEntry) → SegmentHas file es → AllByRecursion Fits es
has_fit None es has = subst (AllByRecursion Fits) (sym has) tt
has_fit (Some bytes) es has = has.fit

have_fit : (files : Files) (n : ℕ) (es : List LogEntry) → HaveBelow files n es → AllByRecursion Fits es
unfolding HaveBelow
have_fit files zero es have = subst (AllByRecursion Fits) (sym have) tt
have_fit files (suc n) es have =
    subst (AllByRecursion Fits) (sym have.4)
    (all-append Fits have.0 have.1 (have_fit files n have.0 have.2) (has_fit (get files.segments n) have.1 have.3))

-- ---- segments that had more appended

-- each segment has what it had, and perhaps more behind it
abbrev pub Longer : Files → Files → Type 0
Longer files others = (n : ℕ) → (rest : List ℕ) × (segment_bytes others n ≡ segment_bytes files n ++ rest)

no_bytes : (rest : List ℕ) → length rest ≡ 0 → rest ≡ []
no_bytes [] e = refl
no_bytes (b ∷ bs) e = absurd (let no : ⊥ = omega (arith, e) in no)

has_longer : (file other : Option (List ℕ)) (es fs : List LogEntry) → SegmentHas file es → SegmentHas other fs → (rest : List ℕ)
    → unwrap_or other [] ≡ unwrap_or file [] ++ rest → sized es ≤ sized fs
has_longer None other es fs a b rest e = subst (λ (l : List LogEntry). sized l ≤ sized fs) (sym a) (omega arith)
has_longer (Some x) None es fs a b rest e = absurd (let no : ⊥ = omega (arith, ap length e, length-append x rest, split_size x es a) in no)
has_longer (Some x) (Some y) es fs a b rest e = omega (arith, ap length e, length-append x rest, split_size x es a, split_size y fs b)

have_longer : (files others : Files) (n : ℕ) (es fs : List LogEntry) → HaveBelow files n es → HaveBelow others n fs → Longer files others
    → sized es ≤ sized fs
unfolding HaveBelow
have_longer files others zero es fs a b longer = subst (λ (l : List LogEntry). sized l ≤ sized fs) (sym a) (omega arith)
have_longer files others (suc n) es fs a b longer =
    let front = have_longer files others n a.0 b.0 a.2 b.2 longer in
    let last = has_longer (get files.segments n) (get others.segments n) a.1 b.1 a.3 b.3 (longer n).0 (longer n).1 in
    let left = ap sized a.4 ∙ sized-append a.0 a.1 in
    let right = ap sized b.4 ∙ sized-append b.0 b.1 in
    omega (arith, front, last, left, right)

has_same : (file other : Option (List ℕ)) (es fs : List LogEntry) → SegmentHas file es → SegmentHas other fs → (rest : List ℕ)
    → unwrap_or other [] ≡ unwrap_or file [] ++ rest → 0 < length (unwrap_or file []) → sized fs ≤ sized es → unwrap_or other [] ≡ unwrap_or file []
has_same None other es fs a b rest e some le = absurd (let no : ⊥ = omega (arith, some) in no)
has_same (Some x) None es fs a b rest e some le = absurd (let no : ⊥ = omega (arith, ap length e, length-append x rest, split_size x es a) in no)
has_same (Some x) (Some y) es fs a b rest e some le =
    let none : length rest ≡ 0 = omega (arith, ap length e, length-append x rest, split_size x es a, split_size y fs b, le) in
    e ∙ (ap (λ (r : List ℕ). x ++ r) (no_bytes rest none) ∙ append-nil x)

-- where the entries aren't more, neither are the bytes
have_same : (files others : Files) (n : ℕ) (es fs : List LogEntry) → HaveBelow files n es → HaveBelow others n fs → Longer files others
    → sized fs ≤ sized es → (k : ℕ) → k < n → 0 < length (segment_bytes files k) → segment_bytes others k ≡ segment_bytes files k
unfolding HaveBelow
have_same files others zero es fs a b longer le k lt some = absurd (let no : ⊥ = omega (arith, lt) in no)
have_same files others (suc n) es fs a b longer le k lt some =
    let front = have_longer files others n a.0 b.0 a.2 b.2 longer in
    let last = has_longer (get files.segments n) (get others.segments n) a.1 b.1 a.3 b.3 (longer n).0 (longer n).1 in
    let left = ap sized a.4 ∙ sized-append a.0 a.1 in
    let right = ap sized b.4 ∙ sized-append b.0 b.1 in
    let fronts : sized b.0 ≤ sized a.0 = omega (arith, le, front, last, left, right) in
    let lasts : sized b.1 ≤ sized a.1 = omega (arith, le, front, last, left, right) in
    elim (cases_lt k n) [
      | inl below ↦ have_same files others n a.0 b.0 a.2 b.2 longer fronts k below some
      | inr above ↦ (
          let is : n ≡ k = omega (arith, lt, above) in
          subst (λ (m : ℕ). 0 < length (segment_bytes files m) → segment_bytes others m ≡ segment_bytes files m) is
          (λ more. has_same (get files.segments n) (get others.segments n) a.1 b.1 a.3 b.3 (longer n).0 (longer n).1 more lasts) some
          )
    ]

-- ---- filled segments

filled_some : (limit first : ℕ) (files : Files) (number : ℕ) → IsFilled limit first files number → 0 < length (segment_bytes files number)
filled_some limit first files number f =
    let size : length (segment_bytes files number) ≡ 8 + length (spelling f.entry ++ f.rest) =
    ap length f.begins ∙ length-append magic (spelling f.entry ++ f.rest) in omega (arith, size)

filled_as : (limit first : ℕ) (files others : Files) (number : ℕ) → IsFilled limit first files number
    → segment_bytes others number ≡ segment_bytes files number
    → ((before : ℕ) → first ≤ before → number ≡ suc before → segment_bytes others before ≡ segment_bytes files before)
    → IsFilled limit first others number
filled_as limit first files others number f same below = record {
  entry = f.entry;
  rest = f.rest;
  begins = same ∙ f.begins;
  within = subst (λ (bytes : List ℕ). (f.rest ≡ []) ⊎ (length bytes ≤ limit)) (sym same) f.within;
  full = λ before low is.
      subst (λ (bytes : List ℕ). limit < length bytes + size_of f.entry) (sym (below before low is)) (f.full before low is);
}

-- segments that stay as they were
filled_same : (limit first end : ℕ) (files others : Files) → AreFilled limit first end files
    → ((k : ℕ) → k < end → 0 < length (segment_bytes files k) → segment_bytes others k ≡ segment_bytes files k) → AreFilled limit first end others
filled_same limit first end files others filled same number low up =
    filled_as limit first files others number (filled number low up)
    (same number up (filled_some limit first files number (filled number low up)))
    (λ before le is.
    let lt : before < end = omega (arith, is, up) in same before lt (filled_some limit first files before (filled before le lt)))

-- the last of them is a new one, with one entry
begin_filled : (limit first l : ℕ) (files others : Files) (es : List LogEntry) (entry : LogEntry) → AreFilled limit first (suc l) files
    → HaveBelow files (suc l) es → HaveBelow others (suc (suc l)) (es ++ entry ∷ []) → Longer files others
    → length (segment_bytes others (suc l)) ≡ 8 + size_of entry → (first ≤ l → limit < length (segment_bytes files l) + size_of entry)
    → AreFilled limit first (suc (suc l)) others
unfolding HaveBelow
begin_filled limit first l files others es entry filled a b longer size full number low up =
    let some : 0 < length (segment_bytes others (suc l)) = omega (arith, size) in
    let own = has_size (get others.segments (suc l)) b.1 b.3 some in
    let whole = sized_more es entry in
    let parts = ap sized b.4 ∙ sized-append b.0 b.1 in
    let front : sized b.0 ≡ sized es = omega (arith, whole, parts, own, size) in
    let same = have_same files others (suc l) es b.0 a b.2 longer (omega (arith, front)) in
    let apart : spellings es ++ spellings (entry ∷ []) ≡ spellings b.0 ++ spellings b.1 =
    sym (spellings-append es (entry ∷ [])) ∙ (ap spellings b.4 ∙ spellings-append b.0 b.1) in
    let spelled : spellings (entry ∷ []) ≡ spellings b.1 =
    (same_fronts (spellings es) (spellings b.0) (spellings (entry ∷ [])) (spellings b.1) (sym front) apart).1 in
    elim (cases_lt number (suc l)) [
      | inl below ↦ filled_same limit first (suc l) files others filled same number low below
      | inr above ↦ (
          let is : suc l ≡ number = omega (arith, above, up) in
          subst (IsFilled limit first others) is (record {
            entry = entry;
            rest = [];
            begins = has_bytes (get others.segments (suc l)) b.1 b.3 some ∙ ap (λ (x : List ℕ). magic ++ x) (sym spelled);
            within = inl refl;
            full = λ before le next.
                let at : l ≡ before = omega (arith, next) in
                let lower : first ≤ l = omega (arith, at, le) in
                let lt : l < suc l = omega arith in
                let bytes = same l lt (filled_some limit first files l (filled l lower lt)) in
                subst (λ (n : ℕ). limit < length (segment_bytes others n) + size_of entry) at
                (subst (λ (x : List ℕ). limit < length x + size_of entry) (sym bytes) (full lower));
          })
          )
    ]

-- the last of them has one more entry
more_filled : (limit first l : ℕ) (files others : Files) (es : List LogEntry) (entry : LogEntry) → AreFilled limit first (suc l) files → first ≤ l
    → HaveBelow files (suc l) es → HaveBelow others (suc l) (es ++ entry ∷ []) → Longer files others
    → length (segment_bytes others l) ≡ length (segment_bytes files l) + size_of entry → length (segment_bytes others l) ≤ limit
    → AreFilled limit first (suc l) others
unfolding HaveBelow
more_filled limit first l files others es entry filled lower a b longer size within number low up =
    let old = filled l lower (omega arith) in
    let some = filled_some limit first files l old in
    let had = has_size (get files.segments l) a.1 a.3 some in
    let has = has_size (get others.segments l) b.1 b.3 (omega (arith, size, some)) in
    let whole = sized_more es entry in
    let left = ap sized a.4 ∙ sized-append a.0 a.1 in
    let right = ap sized b.4 ∙ sized-append b.0 b.1 in
    let front : sized b.0 ≤ sized a.0 = omega (arith, whole, left, right, had, has, size) in
    let same = have_same files others l a.0 b.0 a.2 b.2 longer front in
    elim (cases_lt number l) [
      | inl below ↦ filled_same limit first l files others (λ n le lt. filled n le (omega (arith, lt))) same number low below
      | inr above ↦ (
          let is : l ≡ number = omega (arith, above, up) in
          let more = (longer l).0 in
          subst (IsFilled limit first others) is (record {
            entry = old.entry;
            rest = old.rest ++ more;
            begins = (longer l).1
                ∙ (ap (λ (x : List ℕ). x ++ more) old.begins
                ∙ (append_assoc magic (spelling old.entry ++ old.rest) more
                ∙ ap (λ (x : List ℕ). magic ++ x) (append_assoc (spelling old.entry) old.rest more)));
            within = inr within;
            full = λ before le next.
                let lt : before < l = omega (arith, next) in
                subst (λ (x : List ℕ). limit < length x + size_of old.entry)
                (sym (same before lt (filled_some limit first files before (filled before le (omega (arith, lt)))))) (old.full before le next);
          })
          )
    ]

-- ---- a commit

committed_size : (bytes : List ℕ) → Committed bytes → 17 ≤ length bytes
committed_size bytes c =
    let more = replicate c.closed.commits CommitEntry in
    let parts = ap sized c.closed.then_commits ∙ sized-append c.closed.before (CommitEntry ∷ more) in
    let last : sized (CommitEntry ∷ more) ≡ 9 + sized more =
    length-append (spelling CommitEntry) (spellings more) ∙ ap (λ (n : ℕ). n + sized more) (length-spelling CommitEntry) in
    omega (arith, split_size bytes c.entries c.split, parts, last)

-- the commit stands in a segment of its own
pub commit_filled : (limit first end : ℕ) (files others : Files) (es : List LogEntry) (bytes : List ℕ) → AreFilled limit first end files
    → HaveBelow files end es → HaveBelow others (suc end) (es ++ CommitEntry ∷ []) → Longer files others → get others.segments end ≡ Some bytes
    → Committed bytes → AreFilled limit first end others
unfolding HaveBelow
commit_filled limit first end files others es bytes filled a b longer there committed =
    let size = committed_size bytes committed in
    let at : length (segment_bytes others end) ≡ length bytes = ap (λ (file : Option (List ℕ)). length (unwrap_or file [])) there in
    let own = has_size (get others.segments end) b.1 b.3 (omega (arith, size, at)) in
    let whole = sized_more es CommitEntry in
    let parts = ap sized b.4 ∙ sized-append b.0 b.1 in
    let last : size_of CommitEntry ≡ 9 = refl in
    let front : sized b.0 ≤ sized es = omega (arith, size, at, own, whole, parts, last) in
    filled_same limit first end files others filled (have_same files others end es b.0 a b.2 longer front)

-- ---- a session

current_size : (h : History) (end number size : ℕ) → IsCurrent h end number size → length (segment_bytes (files_now h) number) ≡ size
current_size h end number size c =
    let there : get (files_now h).segments number ≡ Some (magic ++ spellings c.entries) = sym (read_is h number) ∙ c.written.read in
    ap (λ (file : Option (List ℕ)). length (unwrap_or file [])) there ∙ (length-append magic (spellings c.entries) ∙ sym c.size_is)

both_true : (a b : Bool) → (a && b) ≡ true → b ≡ true
both_true true b e = e
both_true false b e = absurd (let no : ⊥ = cc in no)

first_true : (a b : Bool) → a ≡ true → (a && b) ≡ false → b ≡ false
first_true true b is e = e
first_true false b is e = absurd (let no : ⊥ = cc in no)

module _ (limit t : ℕ) (committed pending : List LogEntry) (entry : LogEntry) (h g : History) (longer : Longer (files_now h) (files_now g)) where
  -- what is written then
  abbrev IsNow : Option ℕ → Option ℕ → Option ℕ → Type 0
  IsNow after last size = Stands after last size (Some committed) (pending ++ entry ∷ []) g

  behind_all : (n : ℕ) → HaveBelow (files_now g) n (committed ++ (pending ++ entry ∷ [])) → HaveBelow (files_now g) n ((committed ++ pending) ++ entry ∷ [])
  behind_all n have = subst (HaveBelow (files_now g) n) (sym (append_assoc committed pending (entry ∷ []))) have

  begun : (after : Option ℕ) (l : ℕ) → HaveBelow (files_now h) (suc l) (committed ++ pending)
      → IsNow after (Some (suc l)) (Some (8 + size_of entry)) → (suc t ≤ l → limit < length (segment_bytes (files_now h) l) + size_of entry)
      → AreFilled limit (suc t) (suc l) (files_now h) → AreFilled limit (suc t) (suc (suc l)) (files_now g)
  begun after l have now full filled =
      begin_filled limit (suc t) l (files_now h) (files_now g) (committed ++ pending) entry filled have (behind_all (suc (suc l)) now.entries) longer
      (current_size g (behind after) (suc l) (8 + size_of entry) now.last_is) full

  roomed : (after : Option ℕ) (l s : ℕ) (b : Bool) → after ≡ Some t → 8 < s → is_full s limit (size_of entry) ≡ b
      → Stands after (Some l) (Some s) (Some committed) pending h
      → IsNow after (Some (room_in (Some l) (Some s) b).segment) (Some ((room_in (Some l) (Some s) b).at + size_of entry))
      → AreFilled limit (suc t) (suc l) (files_now h)
      → AreFilled limit (suc t) (suc (room_in (Some l) (Some s) b).segment) (files_now g)
  roomed after l s true at big is old now filled =
      let size = current_size h (behind after) l s old.last_is in
      let over : limit < s + size_of entry = ltb-true limit (s + size_of entry) (both_true (nat_lt 8 s) (nat_lt limit (s + size_of entry)) is) in
      begun after l old.entries now (λ low. omega (arith, size, over)) filled
  roomed after l s false at big is old now filled =
      let had = current_size h (behind after) l s old.last_is in
      let has = current_size g (behind after) l (s + size_of entry) now.last_is in
      let room : s + size_of entry ≤ limit =
      ltb-false limit (s + size_of entry) (first_true (nat_lt 8 s) (nat_lt limit (s + size_of entry)) (lt-ltb 8 s big) is) in
      let low : suc t ≤ l = subst (λ (a : Option ℕ). behind a ≤ l) at old.last_is.above in
      more_filled limit (suc t) l (files_now h) (files_now g) (committed ++ pending) entry filled low old.entries (behind_all (suc l) now.entries) longer
      (omega (arith, had, has)) (omega (arith, has, room))

  fills_by : (after last size : Option ℕ) → after ≡ Some t → (size ≡ None → last ≡ after) → ((s : ℕ) → size ≡ Some s → 8 < s)
      → Stands after last size (Some committed) pending h
      → IsNow after (Some (room_in last size (must_begin last size limit (size_of entry))).segment)
      (Some ((room_in last size (must_begin last size limit (size_of entry))).at + size_of entry))
      → AreFilled limit (suc t) (behind last) (files_now h)
      → AreFilled limit (suc t) (suc (room_in last size (must_begin last size limit (size_of entry))).segment) (files_now g)
  fills_by after None size at ends some old now filled =
      let order : suc t ≤ 0 = subst (λ (a : Option ℕ). behind a ≤ 0) at old.order in absurd (let no : ⊥ = omega (arith, order) in no)
  fills_by after (Some l) None at ends some old now filled =
      let same : Some l ≡ Some t = ends refl ∙ at in
      let is : l ≡ t = ap (λ (o : Option ℕ). unwrap_or o 0) same in
      begun after l old.entries now (λ low. absurd (let no : ⊥ = omega (arith, is, low) in no)) filled
  fills_by after (Some l) (Some s) at ends some old now filled =
      roomed after l s (is_full s limit (size_of entry)) at (some s refl) refl old now filled

some_size : (at : ℕ) (entry : LogEntry) (s : ℕ) → Some (at + size_of entry) ≡ Some s → 8 < s
some_size at entry s e =
    let is : at + size_of entry ≡ s = ap (λ (o : Option ℕ). unwrap_or o 0) e in
    let least = size_of-least entry in omega (arith, is, least)

-- nothing was put yet
pub fills_begun : (limit t : ℕ) (session : Session) (h : History)
    → session ≡ record { limit = limit; after = Some t; last = Some t; size = None; spent = false } → Fills limit t session h
fills_begun limit t session h is =
    subst (λ (s : Session). Fills limit t s h) (sym is) (record {
      limit_is = refl;
      filled = λ number low up. absurd (let no : ⊥ = omega (arith, low, up) in no);
      some = λ size e. absurd (let no : ⊥ = cc in no);
    })

-- one more entry was put
pub fills_more : (limit t more : ℕ) (committed pending : List LogEntry) (session now : Session) (entry : LogEntry) (h g : History)
    → (Fits entry → size_of entry ≡ more) → now ≡ after_entry session more → IsWriting t committed pending session h
    → SessionFits now (Some committed) (pending ++ entry ∷ []) g → OnlyAppends session h g → Fills limit t session h → Fills limit t now g
fills_more limit t more committed pending session now entry h g size is w fits appends f =
    let stays = appends (Some committed) pending w.fits in
    let all = have_fit (files_now g) (behind now.last) (committed ++ (pending ++ entry ∷ [])) fits.entries in
    let fit = (all_back Fits pending (entry ∷ []) (all_back Fits committed (pending ++ entry ∷ []) all)).0 in
    let next : now ≡ after_entry session (size_of entry) = is ∙ ap (after_entry session) (sym (size fit)) in
    let limited : after_entry session (size_of entry) ≡ after_entry (record session { limit = limit }) (size_of entry) =
    ap (λ (n : ℕ). after_entry (record session { limit = n }) (size_of entry)) f.limit_is in
    let stands = subst (λ (s : Session). SessionFits s (Some committed) (pending ++ entry ∷ []) g) (next ∙ limited) fits in
    let filled = fills_by limit t committed pending entry h g stays.longer session.after session.last session.size w.after_is w.ends f.some w.fits stands
    f.filled in
    subst (λ (s : Session). Fills limit t s g) (sym (next ∙ limited)) (record {
      limit_is = refl;
      filled = filled;
      some = some_size (room_in session.last session.size (must_begin session.last session.size limit (size_of entry))).at entry;
    })
