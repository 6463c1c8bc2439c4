-- Laws of what is put: entries that go on from entries, where a commit comes between them, what is pending behind them, and the contents of what is added.
use Rattle.std.proofs.Common.{◌≡◌, ◌≢◌, inl, inr, ◌+◌, ℕ, suc, Bool, true, if◌then◌else◌, List, [], ◌∷◌, ◌++◌}
use Rattle.std.proofs.Common.{refl, sym, ◌∙◌, ap, subst, arith}
use Rattle.std.proofs.lemmas.List.{append-nil, append_assoc}
use Rattle.std.specs.Str.{bytes_eq}
use Rattle.ferry_base.specs.Limits.{zero_id}
use Rattle.ferry_mac.specs.declared.keys.Keys.{Keys}
use Rattle.ferry_segment.specs.Entry.{LogEntry, PutEntry, DeleteEntry, CommitEntry}
use Rattle.ferry_store.specs.Standing.{entries_of}
use Rattle.ferry_store.specs.State.{Written}
use Rattle.ferry_write.proofs.StandLemmas.{all-append}
use Rattle.ferry_piece.specs.Puts.{Addition, AddsAll, AddsFirst, AreOf, ArePieces, AtBegin, AtEnd, Border, ComesBefore, ComesBeforeNext, Content, GoesOn}
use Rattle.ferry_piece.specs.Puts.{IsAddedBehind, IsCheckpoint, IsFront, Kind, MayCome, Record, Stream, Within, addition, border_behind, border_of}
use Rattle.ferry_piece.specs.Puts.{contents_in, manifests_committed, pending_from, pending_in, put_bytes, put_count, same_kind}

-- ---- contents

pub contents_append : (some more : List Addition) → contents_in (some ++ more) ≡ contents_in some ++ contents_in more
contents_append [] more = refl
contents_append (one ∷ some) more = ap (λ (rest : List (List ℕ)). one.content ∷ rest) (contents_append some more)

-- ---- fronts

pub front_all : (added : List Addition) → IsFront added added
front_all added = ([], sym (append-nil added))

pub front_none : (added : List Addition) → IsFront [] added
front_none added = (added, refl)

pub front_of : (some more : List Addition) → IsFront some (some ++ more)
front_of some more = (more, refl)

pub front_then : (a b c : List Addition) → IsFront a b → IsFront b c → IsFront a c
front_then a b c p q = (p.0 ++ q.0, q.1 ∙ (ap (λ (front : List Addition). front ++ q.0) p.1 ∙ append_assoc a p.0 q.0))

-- behind the same ones
pub front_behind : (some a b : List Addition) → IsFront a b → IsFront (some ++ a) (some ++ b)
front_behind some a b p = (p.0, ap (λ (rest : List Addition). some ++ rest) p.1 ∙ sym (append_assoc some a p.0))

-- ---- kinds

pub same_kind-self : (kind : Kind) → same_kind kind kind ≡ true
same_kind-self Content = refl
same_kind-self Stream = refl
same_kind-self Record = refl

pub pieces_none : (kind : Kind) → ArePieces kind [] []
pieces_none kind = (refl, tt)

pub pieces_one : (kind : Kind) (content : List ℕ) (put : Bool) → ArePieces kind (content ∷ []) (addition kind content put ∷ [])
pieces_one kind content put = (refl, (refl, tt))

pub of_append : (kind : Kind) (some more : List Addition) → AreOf kind some → AreOf kind more → AreOf kind (some ++ more)
of_append kind some more p q = all-append (λ (one : Addition). one.kind ≡ kind) some more p q

pub pieces_append : (kind : Kind) (contents others : List (List ℕ)) (some more : List Addition) → ArePieces kind contents some → ArePieces kind others more
    → ArePieces kind (contents ++ others) (some ++ more)
pieces_append kind contents others some more p q = (
  contents_append some more ∙ (ap (λ (cs : List (List ℕ)). cs ++ contents_in more) p.0 ∙ ap (λ (cs : List (List ℕ)). contents ++ cs) q.0),
  of_append kind some more p.1 q.1,
)

-- ---- how much is put

pub count_append : (kind : Kind) (some more : List Addition) → put_count kind (some ++ more) ≡ put_count kind some + put_count kind more
unfolding put_count
count_append kind [] more = omega arith
count_append kind (one ∷ some) more = omega (arith, count_append kind some more)

pub bytes_append : (kind : Kind) (some more : List Addition) → put_bytes kind (some ++ more) ≡ put_bytes kind some + put_bytes kind more
unfolding put_bytes
bytes_append kind [] more = omega arith
bytes_append kind (one ∷ some) more = omega (arith, bytes_append kind some more)

-- ---- what is pending behind entries

pub pending_from-append : (count : ℕ) (a b : List LogEntry) → pending_from count (a ++ b) ≡ pending_from (pending_from count a) b
unfolding pending_from
pending_from-append count [] b = refl
pending_from-append count (CommitEntry ∷ a) b = pending_from-append 0 a b
pending_from-append count (DeleteEntry id ∷ a) b = pending_from-append (suc count) a b
pending_from-append count (PutEntry id blob ∷ a) b = pending_from-append (if bytes_eq id zero_id then count else suc count) a b

-- ---- borders

pub border_append : (at : Border) (some more : List Addition) → border_behind at (some ++ more) ≡ border_behind (border_behind at some) more
unfolding border_behind
border_append at [] more = refl
border_append at (one ∷ some) more = border_append (border_of one.kind) some more

-- behind a record
pub border_record : (at : Border) (some : List Addition) (content : List ℕ) (put : Bool)
    → border_behind at (some ++ addition Record content put ∷ []) ≡ AtEnd
unfolding border_behind
border_record at some content put = border_append at some (addition Record content put ∷ [])

manifests_append : (a b : List (List ℕ)) → manifests_committed (a ++ b) ≡ manifests_committed a ++ manifests_committed b
manifests_append [] b = refl
manifests_append (blob ∷ a) b = ap (λ (rest : List LogEntry). PutEntry zero_id blob ∷ (CommitEntry ∷ rest)) (manifests_append a b)

pub may_none : (at : Border) (before : List LogEntry) → MayCome at before []
may_none Within before = refl
may_none AtEnd before = ([], refl)
may_none AtBegin before = inl refl

-- behind a commit nothing is pending
commit_none : (entries : List LogEntry) → pending_in (entries ++ CommitEntry ∷ []) ≡ 0
unfolding pending_from
commit_none entries = pending_from-append 0 entries (CommitEntry ∷ [])

may_append : (at : Border) (before others more : List LogEntry) → MayCome at before others → MayCome at (before ++ others) more
    → MayCome at before (others ++ more)
may_append Within before others more p q = ap (λ (l : List LogEntry). l ++ more) p ∙ q
may_append AtEnd before others more p q = (
  p.0 ++ q.0,
  ap (λ (l : List LogEntry). l ++ more) p.1 ∙ (ap (λ (l : List LogEntry). manifests_committed p.0 ++ l) q.1 ∙ sym (manifests_append p.0 q.0)),
)
may_append AtBegin before others more (inl none) (inl none_again) = inl (ap (λ (l : List LogEntry). l ++ more) none ∙ none_again)
may_append AtBegin before others more (inl none) (inr some) = inr (
  subst (λ (l : List LogEntry). pending_in l ≢ 0) (ap (λ (l : List LogEntry). before ++ l) none ∙ append-nil before) some.0,
  ap (λ (l : List LogEntry). l ++ more) none ∙ some.1,
)
may_append AtBegin before others more (inr some) (inl none) = inr (some.0, ap (λ (l : List LogEntry). others ++ l) none ∙ (append-nil others ∙ some.1))
may_append AtBegin before others more (inr some) (inr again) =
    absurd (again.0 (ap (λ (l : List LogEntry). pending_in (before ++ l)) some.1 ∙ commit_none before))

-- ---- AddsAll

pub adds_here : (at : Border) (keys : Keys) (most : ℕ) (entries : List LogEntry) → AddsAll at keys most entries [] entries
adds_here at keys most entries = ([], (may_none at entries, sym (append-nil entries)))

pub adds_behind : (at : Border) (keys : Keys) (most : ℕ) (before others : List LogEntry) (added : List Addition) (after : List LogEntry)
    → MayCome at before others → AddsAll at keys most (before ++ others) added after → AddsAll at keys most before added after
adds_behind at keys most before others [] after may p =
    (others ++ p.0, (may_append at before others p.0 may p.1.0, p.1.1 ∙ append_assoc before others p.0))
adds_behind at keys most before others (one ∷ rest) after may p = (
  others ++ p.0,
  (
    may_append at before others p.0 may p.1.0,
    (
      p.1.1.0,
      (
        subst (λ (entries : List LogEntry). ComesBefore keys most entries one p.1.1.0) (append_assoc before others p.0) p.1.1.1.0,
        p.1.1.1.1,
      ),
    ),
  ),
)

pub adds_then : (at : Border) (keys : Keys) (most : ℕ) (a b c : List LogEntry) (some more : List Addition) → AddsAll at keys most a some b
    → AddsAll (border_behind at some) keys most b more c → AddsAll at keys most a (some ++ more) c
unfolding border_behind
adds_then at keys most a b c [] more p q =
    adds_behind at keys most a p.0 more c p.1.0 (subst (λ (front : List LogEntry). AddsAll at keys most front more c) p.1.1 q)
adds_then at keys most a b c (one ∷ some) more p q = (
  p.0,
  (
    p.1.0,
    (
      p.1.1.0,
      (
        p.1.1.1.0,
        (
          p.1.1.1.1.0,
          (p.1.1.1.1.1.0, adds_then (border_of one.kind) keys most p.1.1.1.1.0 b c some more p.1.1.1.1.1.1 q),
        ),
      ),
    ),
  ),
)

-- a content, behind what came before it
pub adds_comes : (at : Border) (keys : Keys) (most : ℕ) (before front : List LogEntry) (one : Addition) (after : List LogEntry)
    → ComesBefore keys most before one front → IsAddedBehind keys most front one after → AddsAll at keys most before (one ∷ []) after
adds_comes at keys most before front one after comes added = (
  [],
  (
    may_none at before,
    (
      front,
      (
        subst (λ (entries : List LogEntry). ComesBefore keys most entries one front) (sym (append-nil before)) comes,
        (after, (added, adds_here (border_of one.kind) keys most after)),
      ),
    ),
  ),
)

pub adds_one : (at : Border) (keys : Keys) (most : ℕ) (front : List LogEntry) (one : Addition) (after : List LogEntry) → IsAddedBehind keys most front one after
    → AddsAll at keys most front (one ∷ []) after
adds_one at keys most front one after added = adds_comes at keys most front front one after (inl refl) added

-- a manifest that is committed, at the end of an archive
pub adds_manifest : (keys : Keys) (most : ℕ) (before : List LogEntry) (blob : List ℕ)
    → AddsAll AtEnd keys most before [] (before ++ (PutEntry zero_id blob ∷ CommitEntry ∷ []))
adds_manifest keys most before blob = (PutEntry zero_id blob ∷ CommitEntry ∷ [], ((blob ∷ [], refl), refl))

-- a commit at the begin, where something was pending
pub adds_commit : (keys : Keys) (most : ℕ) (before : List LogEntry) → pending_in before ≢ 0
    → AddsAll AtBegin keys most before [] (before ++ CommitEntry ∷ [])
adds_commit keys most before some = (CommitEntry ∷ [], (inr (some, refl), refl))

-- ---- from border to border

-- what may come at one border may come at another
abbrev pub Allows : Border → Border → List LogEntry → Type 0
Allows at other before = (others : List LogEntry) → MayCome at before others → MayCome other before others

pub allows_within : (at : Border) (before : List LogEntry) → Allows Within at before
allows_within at before others none = subst (MayCome at before) (sym none) (may_none at before)

pub allows_settled : (at : Border) (before : List LogEntry) → pending_in before ≡ 0 → Allows AtBegin at before
allows_settled at before settled others (inl none) = subst (MayCome at before) (sym none) (may_none at before)
allows_settled at before settled others (inr some) = absurd (some.0 settled)

pub adds_at : (at other : Border) (keys : Keys) (most : ℕ) (before : List LogEntry) (added : List Addition) (after : List LogEntry) → Allows at other before
    → AddsAll at keys most before added after → AddsAll other keys most before added after
adds_at at other keys most before [] after allows p = (p.0, (allows p.0 p.1.0, p.1.1))
adds_at at other keys most before (one ∷ rest) after allows p = (p.0, (allows p.0 p.1.0, p.1.1))

pub first_at : (at other : Border) (keys : Keys) (most : ℕ) (before : List LogEntry) (all : List Addition) (after : List LogEntry) → Allows at other before
    → AddsFirst at keys most before all after → AddsFirst other keys most before all after
first_at at other keys most before all after allows p = record {
  added = p.added;
  rest = p.rest;
  split = p.split;
  front = p.front;
  adds = adds_at at other keys most before p.added p.front allows p.adds;
  next = p.next;
}

pub goes_at : (at other : Border) (keys : Keys) (most : ℕ) (within : List Addition) (written : Written) (entries : List LogEntry)
    → Allows at other (entries_of written) → GoesOn at keys most within written entries → GoesOn other keys most within written entries
goes_at at other keys most within written entries allows (inl same) = inl same
goes_at at other keys most within written entries allows (inr first) = inr (first_at at other keys most (entries_of written) within entries allows first)

-- ---- before the next

pub next_none : (keys : Keys) (most : ℕ) (front : List LogEntry) (rest : List Addition) → ComesBeforeNext keys most front rest front
next_none keys most front [] = refl
next_none keys most front (one ∷ rest) = inl refl

-- the same where more may be added
pub next_wider : (keys : Keys) (most : ℕ) (front : List LogEntry) (rest more : List Addition) (after : List LogEntry)
    → ComesBeforeNext keys most front rest after → ComesBeforeNext keys most front (rest ++ more) after
next_wider keys most front [] more after is = subst (ComesBeforeNext keys most front more) (sym is) (next_none keys most front more)
next_wider keys most front (one ∷ rest) more after comes = comes

-- no checkpoint comes behind one
pub comes_once : (keys : Keys) (most : ℕ) (a b c : List LogEntry) (one : Addition) → IsCheckpoint most → ComesBefore keys most a one b
    → ComesBefore keys most b one c → ComesBefore keys most a one c
comes_once keys most a b c one checkpoint (inl same) q = subst (λ (l : List LogEntry). ComesBefore keys most l one c) same q
comes_once keys most a b c one checkpoint (inr full) (inl same) = inr (full.0, same ∙ full.1)
comes_once keys most a b c one checkpoint (inr full) (inr again) =
    let none : pending_in b ≡ 0 = ap pending_in full.1 ∙ commit_none a in
    absurd (let never : ⊥ = omega (arith, none, again.0.full, checkpoint.some) in never)

-- ---- AddsFirst

-- all of them
pub first_all : (at : Border) (keys : Keys) (most : ℕ) (before : List LogEntry) (added : List Addition) (after : List LogEntry)
    → AddsAll at keys most before added after → AddsFirst at keys most before added after
first_all at keys most before added after adds = record {
  added = added;
  rest = [];
  split = sym (append-nil added);
  front = after;
  adds = adds;
  next = refl;
}

-- none of them
pub first_none : (at : Border) (keys : Keys) (most : ℕ) (before : List LogEntry) (all : List Addition) → AddsFirst at keys most before all before
first_none at keys most before all = record {
  added = [];
  rest = all;
  split = refl;
  front = before;
  adds = adds_here at keys most before;
  next = next_none keys most before all;
}

-- with more that may be added
pub first_wider : (at : Border) (keys : Keys) (most : ℕ) (before : List LogEntry) (some more : List Addition) (after : List LogEntry)
    → AddsFirst at keys most before some after → AddsFirst at keys most before (some ++ more) after
first_wider at keys most before some more after p = record {
  added = p.added;
  rest = p.rest ++ more;
  split = ap (λ (l : List Addition). l ++ more) p.split ∙ append_assoc p.added p.rest more;
  front = p.front;
  adds = p.adds;
  next = next_wider keys most p.front p.rest more after p.next;
}

-- behind others that were all added
pub first_then : (at : Border) (keys : Keys) (most : ℕ) (a b c : List LogEntry) (some more : List Addition) → AddsAll at keys most a some b
    → AddsFirst (border_behind at some) keys most b more c → AddsFirst at keys most a (some ++ more) c
first_then at keys most a b c some more p q = record {
  added = some ++ q.added;
  rest = q.rest;
  split = ap (λ (l : List Addition). some ++ l) q.split ∙ sym (append_assoc some q.added q.rest);
  front = q.front;
  adds = adds_then at keys most a b q.front some q.added p q.adds;
  next = q.next;
}
