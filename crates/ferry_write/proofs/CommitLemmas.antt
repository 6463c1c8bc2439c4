-- Lemmas on specs/Session.antt: a commit. Until it is stable each stop shows what was committed before, or that and what was put.
use Rattle.std.proofs.Common.{◌≡◌, ◌⊎◌, inl, inr, ℕ, suc, ◌<◌, ◌≤◌, Bool, true, false, List, [], ◌∷◌, ◌++◌}
use Rattle.std.proofs.Common.{Option, Some, None, unwrap_or, refl, sym, ◌∙◌, ap, subst, arith}
use Rattle.std.specs.FinMap.{get}
use Rattle.std.proofs.lemmas.Bool.{cases_lt}
use Rattle.std.proofs.lemmas.List.{append-nil}
use Rattle.ferry_disk.specs.Act.{Step, AppendTo, SyncOf, History, files_now, with_act}
use Rattle.ferry_disk.specs.Files.{Files}
use Rattle.ferry_disk.specs.Image.{Fate, at_rest, fate_appended, fate_synced, fate_in, MayLeave, Leaves, settled}
use Rattle.ferry_disk.specs.Moments.{with_steps, EachMoment}
use Rattle.ferry_segment.specs.Entry.{LogEntry, CommitEntry, spelling}
use Rattle.ferry_segment.specs.Segment.{magic, Splits, Committed}
use Rattle.ferry_stops.specs.Chance.{EachStop, FileByNoChance}
use Rattle.ferry_stops.specs.Entries.{SegmentHas, HaveBelow, IsOpen, Shows}
use Rattle.ferry_stops.specs.Ground.{IsHarmless, IsOwn}
use Rattle.ferry_stops.proofs.DraftLemmas.{rest_harmless, torn_commit}
use Rattle.ferry_stops.proofs.GroundLemmas.{rest_left, have_same}
use Rattle.ferry_write.specs.Room.{behind, sync_steps, commit_steps}
use Rattle.ferry_write.specs.Session.{Stands, with_commit}
use Rattle.ferry_write.proofs.ScriptLemmas.{with_steps-append, each_append, each_map}
use Rattle.ferry_write.proofs.StandLemmas.{append_here, append_other, sync_here, sync_other, settled_next, read_is, files_same, rest_same}
use Rattle.ferry_write.proofs.StandLemmas.{committed_same, own_keeps}
use Rattle.ferry_write.proofs.SessionLemmas.{Own, synced, all_rest}

-- the bytes of a commit's segment
abbrev pub commit_bytes : List ℕ
commit_bytes = magic ++ spelling CommitEntry

commit_split : Splits commit_bytes (CommitEntry ∷ [])
commit_split = record { fit = (tt, tt); whole = ap (λ (l : List ℕ). magic ++ l) (sym (append-nil (spelling CommitEntry))) }

commit_committed : Committed commit_bytes
commit_committed = record {
  entries = CommitEntry ∷ [];
  split = commit_split;
  closed = record { before = []; commits = 0; data_before = tt; then_commits = refl };
}

have_commit : (files others : Files) (n : ℕ) (entries : List LogEntry) → ((m : ℕ) → m < n → get files.segments m ≡ get others.segments m)
    → get others.segments n ≡ Some commit_bytes → HaveBelow files n entries → HaveBelow others (suc n) (entries ++ CommitEntry ∷ [])
unfolding HaveBelow
have_commit files others n entries same is h = (
  entries,
  CommitEntry ∷ [],
  have_same files others n entries same h,
  subst (λ (o : Option (List ℕ)). SegmentHas o (CommitEntry ∷ [])) (sym is) commit_split,
  refl,
)

-- ---- a commit that is being written

-- All is as before but the segment behind the last one, to which a commit was appended, done or not.
pub record Torn (last : Option ℕ) (h g : History) : Type 0 where
  pub settled_is : settled g.acts ≡ true
  pub below : (n : ℕ) → n < behind last → fate_in g n ≡ fate_in h n
  pub here : (fate_in g (behind last)).all ≡ Some commit_bytes
  pub above : (n : ℕ) → suc (behind last) ≤ n → fate_in g n ≡ at_rest None

image_below : (after last : Option ℕ) (c : Option (List LogEntry)) (p : List LogEntry) (h g : History) → Stands after last None c p h → Torn last h g
    → (image : Files) → Leaves g.start g.acts image → (n : ℕ) → n < behind last → get image.segments n ≡ get (files_now h).segments n
image_below after last c p h g st torn image leaves n lt =
    rest_left (get (files_now h).segments n) (get image.segments n)
    (subst (λ (f : Fate). MayLeave f (get image.segments n)) (torn.below n lt ∙ all_rest after last c p h st n lt) (leaves.segments n))

image_above : (last : Option ℕ) (h g : History) → Torn last h g → (image : Files) → Leaves g.start g.acts image → (n : ℕ) → suc (behind last) ≤ n
    → get image.segments n ≡ None
image_above last h g torn image leaves n le =
    rest_left None (get image.segments n) (subst (λ (f : Fate). MayLeave f (get image.segments n)) (torn.above n le) (leaves.segments n))

pub torn_shows : (after last : Option ℕ) (c : Option (List LogEntry)) (p : List LogEntry) (h g : History) → Stands after last None c p h → Torn last h g
    → EachStop (λ image. Shows image c ⊎ Shows image (with_commit c p)) g
torn_shows after last c p h g st torn image left = by_here (torn_commit (fate_in g m) (get image.segments m) torn.here (leaves.segments m)) where
  m : ℕ
  m = behind last

  leaves : Leaves g.start g.acts image
  leaves = left.image_is.after torn.settled_is

  open_below : (n : ℕ) → behind after ≤ n → n < behind last → IsOpen (get image.segments n)
  open_below n le lt =
      (st.own.safe.above n le).stays_open (get image.segments n)
      (subst (λ (f : Fate). MayLeave f (get image.segments n)) (torn.below n lt) (leaves.segments n))
      (subst (λ (f : Fate). FileByNoChance f (get image.segments n)) (torn.below n lt) (left.by_no_chance n))

  open_above : (n : ℕ) → suc (behind last) ≤ n → IsOpen (get image.segments n)
  open_above n le = subst IsOpen (sym (image_above last h g torn image leaves n le)) tt

  open_all : IsOpen (get image.segments (behind last)) → (n : ℕ) → behind after ≤ n → IsOpen (get image.segments n)
  open_all here n le = elim (cases_lt n (behind last)) [
    | inl lt ↦ open_below n le lt
    | inr ge ↦ elim (cases_lt (behind last) n) [
      | inl gt ↦ open_above n (omega (arith, gt))
      | inr same ↦
          let e : behind last ≡ n = omega (arith, ge, same) in subst (λ (k : ℕ). IsOpen (get image.segments k)) e here
    ]
  ]

  by_here : IsOpen (get image.segments (behind last)) ⊎ (get image.segments (behind last) ≡ Some commit_bytes)
      → Shows image c ⊎ Shows image (with_commit c p)
  by_here (inl here) =
      inl (
        behind after,
        record {
          below = committed_same (files_now h) image (behind after) c
              (λ n lt. sym (image_below after last c p h g st torn image leaves n (omega (arith, lt, st.order)))) st.own.commits;
          open_above = open_all here;
        },
      )
  by_here (inr there) =
      inr (
        suc (behind last),
        record {
          below = record {
            last = behind last;
            end_is = refl;
            bytes = commit_bytes;
            there = there;
            committed = commit_committed;
            entries_are = have_commit (files_now h) image (behind last) (unwrap_or c [] ++ p)
                (λ n lt. sym (image_below after last c p h g st torn image leaves n lt)) there st.entries;
          };
          open_above = open_above;
        },
      )

torn_append : (after last : Option ℕ) (c : Option (List LogEntry)) (p : List LogEntry) (h : History) (done : Bool) → Stands after last None c p h
    → Torn last h (with_act (AppendTo (behind last) commit_bytes) done h)
torn_append after last c p h done st =
    let m = behind last in
    let absent : fate_in h m ≡ at_rest None = st.none m (omega arith) in
    record {
      settled_is = settled_next h (AppendTo m commit_bytes) done st.own.safe.settled_is;
      below = λ n lt. append_other h m commit_bytes done n (λ q. omega (arith, lt, q));
      here = ap (λ (f : Fate). f.all) (append_here h m commit_bytes done)
          ∙ ap (λ (f : Fate). Some (unwrap_or f.all [] ++ commit_bytes)) absent;
      above = λ n le. append_other h m commit_bytes done n (λ q. omega (arith, le, q)) ∙ st.none n (omega (arith, le));
    }

torn_sync : (last : Option ℕ) (h g : History) → Torn last h g → Torn last h (with_act (SyncOf (behind last)) false g)
torn_sync last h g torn =
    let m = behind last in
    record {
      settled_is = settled_next g (SyncOf m) false torn.settled_is;
      below = λ n lt. sync_other g m false n (λ q. omega (arith, lt, q)) ∙ torn.below n lt;
      here = ap (λ (f : Fate). f.all) (sync_here g m false) ∙ torn.here;
      above = λ n le. sync_other g m false n (λ q. omega (arith, le, q)) ∙ torn.above n le;
    }

-- ---- a commit that is stable

committed_stands : (after last : Option ℕ) (c : Option (List LogEntry)) (p : List LogEntry) (h : History) → Stands after last None c p h
    → Stands (Some (behind last)) (Some (behind last)) None (with_commit c p) []
    (with_act (SyncOf (behind last)) true (with_act (AppendTo (behind last) commit_bytes) true h))
committed_stands after last c p h st =
    let m = behind last in
    let g = with_act (AppendTo m commit_bytes) true h in
    let k = with_act (SyncOf m) true g in
    let absent : fate_in h m ≡ at_rest None = st.none m (omega arith) in
    let here : fate_in k m ≡ at_rest (Some commit_bytes) =
    sync_here g m true
    ∙ (ap (fate_synced true) (append_here h m commit_bytes true) ∙ ap (λ (f : Fate). fate_synced true (fate_appended commit_bytes true f)) absent) in
    let there : get (files_now k).segments m ≡ Some commit_bytes = sym (read_is k m) ∙ ap (λ (f : Fate). f.read) here in
    let others : (n : ℕ) → (n ≡ m → ⊥) → fate_in k n ≡ fate_in h n =
    (λ n off. sync_other g m true n off ∙ append_other h m commit_bytes true n off) in
    let same : (n : ℕ) → n < m → get (files_now h).segments n ≡ get (files_now k).segments n =
    (λ n lt. sym (files_same h k n (others n (λ q. omega (arith, lt, q))))) in
    let absent_above : (n : ℕ) → suc m ≤ n → fate_in k n ≡ at_rest None =
    (λ n le. others n (λ q. omega (arith, le, q)) ∙ st.none n (omega (arith, le))) in
    let at_last : fate_in k m ≡ at_rest (get (files_now k).segments m) = here ∙ ap at_rest (sym there) in
    let rest_below : (n : ℕ) → n < m → fate_in k n ≡ at_rest (get (files_now k).segments n) =
    (λ n lt. rest_same h k n (others n (λ q. omega (arith, lt, q))) (all_rest after last c p h st n lt)) in
    let all : HaveBelow (files_now k) (suc m) ((unwrap_or c [] ++ p) ++ CommitEntry ∷ []) =
    have_commit (files_now h) (files_now k) m (unwrap_or c [] ++ p) same there st.entries in
    record {
      own = record {
        safe = record {
          settled_is = settled_next g (SyncOf m) true (settled_next h (AppendTo m commit_bytes) true st.own.safe.settled_is);
          below = λ n lt. elim (cases_lt n m) [
            | inl q ↦ rest_below n q
            | inr q ↦
                let e : m ≡ n = omega (arith, q, lt) in
                subst (λ (j : ℕ). fate_in k j ≡ at_rest (get (files_now k).segments j)) e at_last
          ];
          above = λ n le. subst IsHarmless (sym (absent_above n le)) (rest_harmless None tt);
        };
        commits = record { last = m; end_is = refl; bytes = commit_bytes; there = there; committed = commit_committed; entries_are = all };
      };
      order = omega arith;
      none = absent_above;
      at_rest_below = λ n lt. rest_below n (omega (arith, lt));
      last_is = at_last;
      entries = subst (HaveBelow (files_now k) (suc m)) (sym (append-nil ((unwrap_or c [] ++ p) ++ CommitEntry ∷ []))) all;
    }

-- what a commit leaves, and what holds at each of its moments
pub record GoesToCommit (last : Option ℕ) (c : Option (List LogEntry)) (p : List LogEntry) (h : History) (steps : List Step) : Type 0 where
  pub stands : Stands (Some (behind last)) (Some (behind last)) None (with_commit c p) [] (with_steps steps h)
  pub each : EachMoment (EachStop (λ image. Shows image c ⊎ Shows image (with_commit c p))) h steps

own_either : (after : Option ℕ) (c d : Option (List LogEntry)) (h : History) → Own after c h → EachStop (λ image. Shows image c ⊎ Shows image d) h
own_either after c d h own image left = inl (own_keeps (behind after) c h own image left)

own_other : (end : ℕ) (c d : Option (List LogEntry)) (h : History) → IsOwn end d h → EachStop (λ image. Shows image c ⊎ Shows image d) h
own_other end c d h own image left = inr (own_keeps end d h own image left)

pub commits_goes : (after last size : Option ℕ) (c : Option (List LogEntry)) (p : List LogEntry) (h : History) → Stands after last size c p h
    → GoesToCommit last c p h (commit_steps last size)
commits_goes after last size c p h st =
    let m = behind last in
    let first = synced after last size c p h st in
    let mid = with_steps (sync_steps last size) h in
    let P = EachStop (λ image. Shows image c ⊎ Shows image (with_commit c p)) in
    let steps = (AppendTo m commit_bytes ∷ []) ++ (SyncOf m ∷ []) in
    let end = committed_stands after last c p mid first.stands in
    let torn : (done : Bool) → Torn last mid (with_act (AppendTo m commit_bytes) done mid) = (λ done. torn_append after last c p mid done first.stands) in
    let g = with_act (AppendTo m commit_bytes) true mid in
    record {
      stands = subst (Stands (Some m) (Some m) None (with_commit c p) []) (sym (with_steps-append (sync_steps last size) steps h)) end;
      each = each_append P h (sync_steps last size) steps
          (each_map (Own after c) P (own_either after c (with_commit c p)) h (sync_steps last size) first.each) (
            own_either after c (with_commit c p) mid first.stands.own,
            torn_shows after last c p mid (with_act (AppendTo m commit_bytes) false mid) first.stands (torn false),
            (
              torn_shows after last c p mid g first.stands (torn true),
              torn_shows after last c p mid (with_act (SyncOf m) false g) first.stands (torn_sync last mid g (torn true)),
              own_other (suc m) c (with_commit c p) (with_act (SyncOf m) true g) end.own,
            ),
          );
    }
