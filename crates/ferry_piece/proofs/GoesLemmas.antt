-- Lemmas on GoesOn of specs/Puts.antt, and on what comes behind a checkpoint.
use Rattle.std.proofs.Common.{◌≡◌, ◌≢◌, ◌⊎◌, inl, inr, ℕ, List, [], ◌∷◌, ◌++◌}
use Rattle.std.proofs.Common.{refl, sym, ◌∙◌, ap, subst}
use Rattle.std.proofs.lemmas.List.{append-nil}
use Rattle.ferry_mac.specs.declared.keys.Keys.{Keys}
use Rattle.ferry_segment.specs.Entry.{LogEntry}
use Rattle.ferry_store.specs.Standing.{committed_of, entries_committed, entries_of}
use Rattle.ferry_store.specs.State.{Written}
use Rattle.ferry_piece.specs.Puts.{Addition, AddsAll, AddsFirst, AtBegin, Border, ComesBefore, ComesBeforeNext, GoesOn}
use Rattle.ferry_piece.specs.Puts.{IsCheckpoint, IsFront, Within, border_behind}
use Rattle.ferry_piece.specs.Puts.{pending_in}
use Rattle.ferry_piece.proofs.PutsLemmas.{adds_commit, adds_here, comes_once, first_all, first_then, first_wider, front_of}

-- ---- GoesOn

pub goes_same : (at : Border) (keys : Keys) (most : ℕ) (within : List Addition) (written : Written)
    → GoesOn at keys most within written (committed_of written)
goes_same at keys most within written = inl refl

-- what was pending at the begin is committed
pub first_commit : (keys : Keys) (most : ℕ) (within : List Addition) (written : Written) → pending_in (entries_of written) ≢ 0
    → AddsFirst AtBegin keys most (entries_of written) within (entries_committed written)
first_commit keys most within written some = first_wider AtBegin keys most (entries_of written) [] within (entries_committed written)
    (first_all AtBegin keys most (entries_of written) [] (entries_committed written) (adds_commit keys most (entries_of written) some))

pub goes_commit : (keys : Keys) (most : ℕ) (within : List Addition) (written : Written) → pending_in (entries_of written) ≢ 0
    → GoesOn AtBegin keys most within written (entries_committed written)
goes_commit keys most within written some = inr (first_commit keys most within written some)

-- what comes before a content is committed
pub first_next : (at : Border) (keys : Keys) (most : ℕ) (one : Addition) (before after : List LogEntry) → ComesBefore keys most before one after
    → AddsFirst at keys most before (one ∷ []) after
first_next at keys most one before after comes =
    record { added = []; rest = one ∷ []; split = refl; front = before; adds = adds_here at keys most before; next = comes }

-- with more that may be added
pub goes_wider : (at : Border) (keys : Keys) (most : ℕ) (some all : List Addition) (written : Written) (entries : List LogEntry) → IsFront some all
    → GoesOn at keys most some written entries → GoesOn at keys most all written entries
goes_wider at keys most some all written entries front (inl same) = inl same
goes_wider at keys most some all written entries front (inr goes) =
    inr (subst (λ (l : List Addition). AddsFirst at keys most (entries_of written) l entries) (sym front.1)
    (first_wider at keys most (entries_of written) some front.0 entries goes))

-- what goes on from what was written later goes on from what was written before
pub goes_then : (at : Border) (keys : Keys) (most : ℕ) (written next : Written) (entries : List LogEntry) (added more : List Addition)
    → AddsAll at keys most (entries_of written) added (entries_of next) → GoesOn at keys most added written (committed_of next)
    → GoesOn (border_behind at added) keys most more next entries → GoesOn at keys most (added ++ more) written entries
goes_then at keys most written next entries added more adds goes (inl same) =
    goes_wider at keys most added (added ++ more) written entries (front_of added more) (subst (GoesOn at keys most added written) (sym same) goes)
goes_then at keys most written next entries added more adds goes (inr first) =
    inr (first_then at keys most (entries_of written) (entries_of next) entries added more adds first)

-- ---- behind a checkpoint

-- contents that are added behind what came before the first of them
pub adds_room : (keys : Keys) (most : ℕ) (before front : List LogEntry) (one : Addition) (rest : List Addition) (after : List LogEntry) → IsCheckpoint most
    → ComesBefore keys most before one front → AddsAll Within keys most front (one ∷ rest) after → AddsAll Within keys most before (one ∷ rest) after
adds_room keys most before front one rest after checkpoint comes p =
    let here : front ++ p.0 ≡ front = ap (λ (l : List LogEntry). front ++ l) p.1.0 ∙ append-nil front in
    let once : ComesBefore keys most before one p.1.1.0 =
    comes_once keys most before front p.1.1.0 one checkpoint comes
    (subst (λ (l : List LogEntry). ComesBefore keys most l one p.1.1.0) here p.1.1.1.0) in (
      [],
      (refl, (p.1.1.0, (subst (λ (l : List LogEntry). ComesBefore keys most l one p.1.1.0) (sym (append-nil before)) once, p.1.1.1.1))),
    )

-- the same of the first of them
pub first_room : (keys : Keys) (most : ℕ) (before front : List LogEntry) (one : Addition) (after : List LogEntry) → IsCheckpoint most
    → ComesBefore keys most before one front → AddsFirst Within keys most front (one ∷ []) after → AddsFirst Within keys most before (one ∷ []) after
first_room keys most before front one after checkpoint comes p = by p.added p.rest p.split p.adds p.next where
  by : (added rest : List Addition) → one ∷ [] ≡ added ++ rest → AddsAll Within keys most front added p.front
      → ComesBeforeNext keys most p.front rest after → AddsFirst Within keys most before (one ∷ []) after
  by [] rest split adds next =
      let here : p.front ≡ front = adds.1.1 ∙ (ap (λ (l : List LogEntry). front ++ l) adds.1.0 ∙ append-nil front) in
      let next_is : ComesBefore keys most p.front one after =
      subst (λ (l : List Addition). ComesBeforeNext keys most p.front l after) (sym split) next in
      record {
        added = [];
        rest = one ∷ [];
        split = refl;
        front = before;
        adds = adds_here Within keys most before;
        next = comes_once keys most before front after one checkpoint comes
            (subst (λ (l : List LogEntry). ComesBefore keys most l one after) here next_is);
      }
  by (first ∷ some) rest split adds next =
      let same : first ≡ one = cc in
      record {
        added = first ∷ some;
        rest = rest;
        split = split;
        front = p.front;
        adds = adds_room keys most before front first some p.front checkpoint
            (subst (λ (x : Addition). ComesBefore keys most before x front) (sym same) comes) adds;
        next = next;
      }

-- what goes on behind what came before a content goes on from before that
pub goes_behind : (keys : Keys) (most : ℕ) (one : Addition) (written next : Written) (entries : List LogEntry) → IsCheckpoint most
    → ComesBefore keys most (entries_of written) one (entries_of next)
    → (committed_of next ≡ committed_of written) ⊎ ComesBefore keys most (entries_of written) one (committed_of next)
    → GoesOn Within keys most (one ∷ []) next entries → GoesOn Within keys most (one ∷ []) written entries
goes_behind keys most one written next entries checkpoint comes (inl still) (inl same) = inl (same ∙ still)
goes_behind keys most one written next entries checkpoint comes (inr room) (inl same) =
    inr (first_next Within keys most one (entries_of written) entries (subst (ComesBefore keys most (entries_of written) one) (sym same) room))
goes_behind keys most one written next entries checkpoint comes committed (inr first) =
    inr (first_room keys most (entries_of written) (entries_of next) one entries checkpoint comes first)
