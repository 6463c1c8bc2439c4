-- Lemmas on specs/Steps.antt: the entries of a log that are put again, segment by segment.
use Rattle.std.proofs.Common.{◌≡◌, ℕ, ◌+◌, ◌≤◌, Bool, true, false, List, [], ◌∷◌, ◌++◌, length, map, Option, Result, Ok, Err}
use Rattle.std.proofs.Common.{refl, sym, ◌∙◌, ap, subst}
use Rattle.std.proofs.lemmas.List.{append-nil, append_assoc}
use Rattle.std.proofs.lemmas.List.Elements.{filter-append}
use Rattle.std.specs.List.{AllByRecursion, filter}
use Rattle.std.specs.List.Sorted.{IsStrictlyIncreasing}
use Rattle.ferry_compact.proofs.ListLemmas.{filter_all, filter_none, map-append}
use Rattle.ferry_compact.proofs.MovedLemmas.{bytes_stay, taken_both}
use Rattle.ferry_compact.proofs.ReadingLemmas.{first_covered, none_covered}
use Rattle.ferry_compact.proofs.StepLemmas.{did_as, did_front, did_none, did_then}
use Rattle.ferry_compact.proofs.WentLemmas.{among_back, among_front, moved_here, moved_then, refused_then, went_here, went_then}
use Rattle.ferry_compact.specs.Moving.{is_among}
use Rattle.ferry_compact.specs.Reading.{Covers, HasSegment}
use Rattle.ferry_compact.specs.Stays.{Notes}
use Rattle.ferry_compact.specs.Steps.{Did, EachOfLog, EachOfSegment, IsPutAmong, Moved, MovesLog, MovesSegment, MovesWhere}
use Rattle.ferry_compact.specs.Steps.{OverLog, OverSegment, RefusesLog, RefusesSegment, Went, taken_from}
use Rattle.ferry_compact.specs.declared.fault.CompactFault.{CompactFault}
use Rattle.ferry_disk.specs.Act.{History, files_now}
use Rattle.ferry_disk.specs.Device.{Told}
use Rattle.ferry_log.specs.Log.{Located, located}
use Rattle.ferry_log.specs.State.{LogState}
use Rattle.ferry_log.specs.declared.place.Extent.{Extent}
use Rattle.ferry_segment.specs.Entry.{LogEntry, size_of}
use Rattle.ferry_segment.specs.Segment.{Splits}
use Rattle.ferry_write.specs.Script.{AllDone}
use Rattle.ferry_write.specs.declared.session.Session.{Session}

-- ---- a segment where it is chosen

all_located : (P : ℕ → Type 0) (segment at : ℕ) (es : List LogEntry) → P segment → AllByRecursion (λ (e : Located). P e.segment) (located segment at es)
all_located P segment at [] p = tt
all_located P segment at (e ∷ es) p = (p, all_located P segment (at + size_of e) es p)

-- one that isn't chosen
pub where_passed : (state : LogState) (notes : Notes) (extent : Extent) (chosen : List ℕ) (session : Session) (a : Option Told) (n : ℕ)
    → (IsStrictlyIncreasing chosen → is_among chosen extent.segment ≡ false)
    → Did (EachOfSegment extent session) (MovesWhere state notes extent chosen session session) (RefusesSegment extent session) a a n n (Ok tt)
where_passed state notes extent chosen session a n off =
    did_none (EachOfSegment extent session) (MovesWhere state notes extent chosen session session) (RefusesSegment extent session) a n
    (λ h t entries over. went_here t session entries h)
    (λ h t entries over up.
    let none = filter_none (λ (e : Located). is_among chosen e.segment) (located extent.segment 8 entries)
    (all_located (λ k. is_among chosen k ≡ false) extent.segment 8 entries (off up)) in
    subst (λ (l : List LogEntry). Moved t session session l h h) (ap (taken_from state notes) (sym none)) (moved_here t session h))

pub where_moved : (state : LogState) (notes : Notes) (extent : Extent) (chosen : List ℕ) (old now : Session) (a b : Option Told) (n m : ℕ)
    (result : Result (Unit {0}) CompactFault) → (IsStrictlyIncreasing chosen → is_among chosen extent.segment ≡ true)
    → Did (EachOfSegment extent old) (MovesSegment state notes extent old now) (RefusesSegment extent old) a b n m result
    → Did (EachOfSegment extent old) (MovesWhere state notes extent chosen old now) (RefusesSegment extent old) a b n m result
where_moved state notes extent chosen old now a b n m result among p =
    did_as (EachOfSegment extent old) (MovesSegment state notes extent old now) (RefusesSegment extent old)
    (EachOfSegment extent old) (MovesWhere state notes extent chosen old now) (RefusesSegment extent old) a b n m result (λ h g e. e)
    (λ h g moved t entries over up.
    let all = filter_all (λ (e : Located). is_among chosen e.segment) (located extent.segment 8 entries)
    (all_located (λ k. is_among chosen k ≡ true) extent.segment 8 entries (among up)) in
    subst (λ (l : List LogEntry). Moved t old now l h g) (ap (taken_from state notes) (sym all)) (moved t entries over))
    (λ fault h g e. e) p

-- ---- segments one after another

-- The segments up to one are passed, and these are left.
pub record MovedFront (state : LogState) (notes : Notes) (transaction : ℕ) (chosen : List ℕ) (extents : List Extent) (log : List Located)
    (old new : Session) (before now : History) : Type 0 where
  pub done : List Located
  pub rest : List Located
  pub parts : log ≡ done ++ rest
  pub left : Covers (files_now before) extents rest
  pub low : AllByRecursion (λ e. e.segment ≤ transaction) extents
  pub moved : Moved transaction old new (taken_from state notes (filter (λ e. is_among chosen e.segment) done)) before now

abbrev pub FrontOfLog : LogState → Notes → List Extent → List ℕ → List Extent → Session → Session → History → History → Type 0
FrontOfLog state notes extents chosen left old new before now = (transaction : ℕ) (log : List Located)
    → OverLog transaction extents chosen old log before → MovedFront state notes transaction chosen left log old new before now

pub log_begun : (state : LogState) (notes : Notes) (extents : List Extent) (chosen : List ℕ) (session : Session) (a : Option Told) (n : ℕ)
    → Did (EachOfLog extents chosen session) (FrontOfLog state notes extents chosen extents session session) (RefusesLog extents chosen session) a a n n
    (Ok tt)
log_begun state notes extents chosen session a n =
    did_none (EachOfLog extents chosen session) (FrontOfLog state notes extents chosen extents session session) (RefusesLog extents chosen session) a n
    (λ h t log over. went_here t session (map (λ (e : Located). e.entry) log) h)
    (λ h t log over. record { done = []; rest = log; parts = refl; left = over.covers; low = over.low; moved = moved_here t session h })

-- a segment of a log, at a later moment
segment_later : (t : ℕ) (extents left more : List Extent) (extent : Extent) (chosen : List ℕ) (old mid : Session) (log rest : List Located)
    (moved : List LogEntry) (h g : History) → left ≡ extent ∷ more → OverLog t extents chosen old log h
    → Went t old (map (λ (e : Located). e.entry) log) h g → Moved t old mid moved h g → Covers (files_now h) left rest
    → AllByRecursion (λ e. e.segment ≤ t) left → (entries : List LogEntry) → HasSegment (files_now h) extent entries
    → OverSegment t extent mid entries g
segment_later t extents left more extent chosen old mid log rest moved h g is over went m covers low entries has =
    let here : extent.segment ≤ t = (subst (λ (l : List Extent). AllByRecursion (λ e. e.segment ≤ t) l) is low).0 in
    let same = bytes_stay t extent.segment h g here (went.stays over.committed over.pending over.writing) in
    record {
      committed = over.committed;
      pending = over.pending ++ moved;
      writing = m.writing over.committed over.pending over.writing;
      low = here;
      has = record {
        split = subst (λ (b : List ℕ). Splits b entries) (sym same) has.split;
        sized = has.sized ∙ ap length (sym same);
      };
    }

entries_located : (segment at : ℕ) (es : List LogEntry) → map (λ (e : Located). e.entry) (located segment at es) ≡ es
entries_located segment at [] = refl
entries_located segment at (e ∷ es) = ap (λ (l : List LogEntry). e ∷ l) (entries_located segment (at + size_of e) es)

-- the entries of a segment are among those of the log
among_log : (segment : ℕ) (log done rest left : List Located) (es : List LogEntry) → log ≡ done ++ rest → rest ≡ located segment 8 es ++ left
    → (blob : List ℕ) → IsPutAmong es blob → IsPutAmong (map (λ (e : Located). e.entry) log) blob
among_log segment log done rest left es is parts blob put =
    let of : List Located → List LogEntry = map (λ (e : Located). e.entry) in
    let back : of rest ≡ es ++ of left =
    ap of parts
    ∙ (map-append (λ (e : Located). e.entry) (located segment 8 es) left ∙ ap (λ (l : List LogEntry). l ++ of left) (entries_located segment 8 es)) in
    let whole : of log ≡ of done ++ (es ++ of left) =
    ap of is ∙ (map-append (λ (e : Located). e.entry) done rest ∙ ap (λ (l : List LogEntry). of done ++ l) back) in
    subst (λ (l : List LogEntry). IsPutAmong l blob) (sym whole) (among_back (of done) (es ++ of left) blob (among_front es (of left) blob put))

pub log_more : (state : LogState) (notes : Notes) (extents : List Extent) (chosen : List ℕ) (left more : List Extent) (extent : Extent)
    (old mid new : Session) (a b c : Option Told) (n m k : ℕ) (result : Result (Unit {0}) CompactFault) → left ≡ extent ∷ more
    → Did (EachOfLog extents chosen old) (FrontOfLog state notes extents chosen left old mid) (RefusesLog extents chosen old) a b n m (Ok tt)
    → Did (EachOfSegment extent mid) (MovesWhere state notes extent chosen mid new) (RefusesSegment extent mid) b c m k result
    → Did (EachOfLog extents chosen old) (FrontOfLog state notes extents chosen more old new) (RefusesLog extents chosen old) a c n k result
log_more state notes extents chosen left more extent old mid new a b c n m k result is p q =
    did_then (EachOfLog extents chosen old) (FrontOfLog state notes extents chosen left old mid) (RefusesLog extents chosen old) (EachOfSegment extent mid)
    (MovesWhere state notes extent chosen mid new) (RefusesSegment extent mid) (EachOfLog extents chosen old)
    (FrontOfLog state notes extents chosen more old new) (RefusesLog extents chosen old) a b c n m k result each last refuses p q where
      among : Located → Bool
      among e = is_among chosen e.segment

      taken : List Located → List LogEntry
      taken done = taken_from state notes (filter among done)

      each : (h g i : History) → EachOfLog extents chosen old h g → AllDone h g → FrontOfLog state notes extents chosen left old mid h g
          → EachOfSegment extent mid g i → EachOfLog extents chosen old h i
      each h g i went done front step t log over =
          let f = front t log over in
          let first = first_covered (files_now h) left more extent f.rest is f.left in
          let all = map (λ (e : Located). e.entry) log in
          went_then t old mid all first.0 all (taken f.done) h g i (λ blob put. put)
          (among_log extent.segment log f.done f.rest first.1 first.0 f.parts first.4) (went t log over) done f.moved
          (step t first.0 (segment_later t extents left more extent chosen old mid log f.rest (taken f.done) h g is over (went t log over) f.moved f.left f.low
          first.0 first.2))

      last : (h g i : History) → EachOfLog extents chosen old h g → AllDone h g → FrontOfLog state notes extents chosen left old mid h g
          → MovesWhere state notes extent chosen mid new g i → FrontOfLog state notes extents chosen more old new h i
      last h g i went done front step t log over =
          let f = front t log over in
          let first = first_covered (files_now h) left more extent f.rest is f.left in
          let here = located extent.segment 8 first.0 in
          let low = subst (λ (l : List Extent). AllByRecursion (λ e. e.segment ≤ t) l) is f.low in
          record {
            done = f.done ++ here;
            rest = first.1;
            parts = f.parts ∙ (ap (λ (l : List Located). f.done ++ l) first.4 ∙ sym (append_assoc f.done here first.1));
            left = first.3;
            low = low.1;
            moved = subst (λ (es : List LogEntry). Moved t old new es h i)
                (sym (ap (taken_from state notes) (filter-append among f.done here) ∙ taken_both state notes (filter among f.done) (filter among here)))
                (moved_then t old mid new (taken f.done) (taken here) h g i f.moved
                (step t first.0 (segment_later t extents left more extent chosen old mid log f.rest (taken f.done) h g is over (went t log over) f.moved f.left
                f.low first.0 first.2) over.increasing));
          }

      refuses : (fault : CompactFault) (h g i : History) → EachOfLog extents chosen old h g → FrontOfLog state notes extents chosen left old mid h g
          → RefusesSegment extent mid fault g i → RefusesLog extents chosen old fault h i
      refuses fault h g i went front no_more t log over =
          let f = front t log over in
          let first = first_covered (files_now h) left more extent f.rest is f.left in
          refused_then t old mid (taken f.done) fault h g i f.moved
          (no_more t first.0 (segment_later t extents left more extent chosen old mid log f.rest (taken f.done) h g is over (went t log over) f.moved f.left
          f.low first.0 first.2))

pub log_whole : (state : LogState) (notes : Notes) (extents : List Extent) (chosen : List ℕ) (left : List Extent) (old now : Session) (a b : Option Told)
    (n m : ℕ) → left ≡ []
    → Did (EachOfLog extents chosen old) (FrontOfLog state notes extents chosen left old now) (RefusesLog extents chosen old) a b n m (Ok tt)
    → Did (EachOfLog extents chosen old) (MovesLog state notes extents chosen old now) (RefusesLog extents chosen old) a b n m (Ok tt)
log_whole state notes extents chosen left old now a b n m none p =
    did_as (EachOfLog extents chosen old) (FrontOfLog state notes extents chosen left old now) (RefusesLog extents chosen old)
    (EachOfLog extents chosen old) (MovesLog state notes extents chosen old now) (RefusesLog extents chosen old) a b n m (Ok tt) (λ h g e. e)
    (λ h g front t log over.
    let f = front t log over in
    let whole : log ≡ f.done =
    f.parts ∙ (ap (λ (l : List Located). f.done ++ l) (none_covered (files_now h) left f.rest none f.left) ∙ append-nil f.done) in
    subst (λ (l : List Located). Moved t old now (taken_from state notes (filter (λ e. is_among chosen e.segment) l)) h g) (sym whole) f.moved)
    (λ fault h g e. e) p

pub log_stopped : (state : LogState) (notes : Notes) (extents : List Extent) (chosen : List ℕ) (left : List Extent) (old mid now : Session)
    (fault : CompactFault) (a b : Option Told) (n m : ℕ)
    → Did (EachOfLog extents chosen old) (FrontOfLog state notes extents chosen left old mid) (RefusesLog extents chosen old) a b n m (Err fault)
    → Did (EachOfLog extents chosen old) (MovesLog state notes extents chosen old now) (RefusesLog extents chosen old) a b n m (Err fault)
log_stopped state notes extents chosen left old mid now fault a b n m p =
    did_front (EachOfLog extents chosen old) (FrontOfLog state notes extents chosen left old mid) (RefusesLog extents chosen old)
    (EachOfLog extents chosen old) (MovesLog state notes extents chosen old now) (RefusesLog extents chosen old) a b n m fault (λ h g e. e) (λ h g e. e) p
