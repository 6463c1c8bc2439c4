-- Lemmas on specs/Head.antt: at a place one thing reads, or nothing does.
use Rattle.std.proofs.Common.{◌≡◌, ℕ, ◌+◌, ◌<◌, ◌≤◌, List, length, drop, Option, Some, None, refl, sym, ◌∙◌, ap, arith}
use Rattle.ferry_segment.specs.declared.entry.EntryFault.{EntryFault}
use Rattle.ferry_segment.specs.declared.head.Head.{Head}
use Rattle.ferry_segment.specs.Entry.{LogEntry, size_of, first_fault}
use Rattle.ferry_segment.specs.Head.{head_of, BeginsAt}
use Rattle.ferry_segment.proofs.EntryLemmas.{size_of-least, no_spelling, one_spelling}
use Rattle.ferry_log.specs.Head.{IsHeadAt, IsUnreadAt}

begins_size : (bytes : List ℕ) (at : ℕ) (e : LogEntry) → BeginsAt bytes at e → at + size_of e ≤ length bytes
begins_size bytes at e h = h.within

-- ---- IsUnreadAt

-- past the end nothing is read
pub unread_past : (bytes : List ℕ) (at : ℕ) → length bytes < at → IsUnreadAt bytes at
unread_past bytes at past = (λ e. absurd (omega arith), λ e h. absurd (omega (arith, begins_size bytes at e h)))

-- before the end nothing is read where a rule is broken
pub unread_broken : (bytes : List ℕ) (at : ℕ) (fault : EntryFault) → at < length bytes → first_fault (drop at bytes) ≡ Some fault → IsUnreadAt bytes at
unread_broken bytes at fault within broken = (λ e. absurd (omega arith), λ e h. no_spelling (drop at bytes) fault broken e _ h.fits h.spelled)

-- ---- IsHeadAt

pub one_head : (bytes : List ℕ) (at : ℕ) (a b : Option Head) → IsHeadAt bytes at a → IsHeadAt bytes at b → a ≡ b
one_head bytes at None None g h = refl
one_head bytes at None (Some b) g h = absurd (omega (arith, g, begins_size bytes at h.0 h.1, size_of-least h.0))
one_head bytes at (Some a) None g h = absurd (omega (arith, h, begins_size bytes at g.0 g.1, size_of-least g.0))
one_head bytes at (Some a) (Some b) g h =
    let one = one_spelling g.0 h.0 _ _ g.1.fits h.1.fits (sym g.1.spelled ∙ h.1.spelled) in
    ap Some (g.2 ∙ (ap head_of one.0 ∙ sym h.2))

pub head_apart : (bytes : List ℕ) (at : ℕ) (head : Option Head) → IsHeadAt bytes at head → IsUnreadAt bytes at → ⊥
head_apart bytes at None h u = u.0 h
head_apart bytes at (Some head) h u = u.1 h.0 h.1
