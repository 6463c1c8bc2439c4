-- Lemmas on specs/Passes.antt: ends of blocks, and what is gone over of a segment.
use Rattle.std.proofs.Common.{◌≡◌, ℕ, ◌+◌, ◌<◌, ◌≤◌, max, ◌⊎◌, inl, inr, List, [], ◌∷◌, ◌++◌, length, drop, refl, sym, ◌∙◌, subst, arith}
use Rattle.std.proofs.lemmas.Bool.{cases_lt}
use Rattle.ferry_blob.specs.Blob.{IsBlockOf}
use Rattle.ferry_blocks.specs.Blocks.{StatesSize, StatesNoSize, Lead, IsReached, StatesPut, IsStatedFrom, TakesBlocks, IsCountedPut, IsCountedFrom}
use Rattle.ferry_blocks.specs.Blocks.{IsBehind, IsEndOf}
use Rattle.ferry_blocks.specs.Passes.{Passes}
use Rattle.ferry_stops.specs.Counters.{AreBelow}

-- ---- IsEndOf

-- where there is no such blob
pub end_none : (Is : List ℕ → Type 0) → ((blob : List ℕ) → Is blob → ⊥) → IsEndOf Is 0
end_none Is none = record { above = λ blob number is block. absurd (none blob is); reached = inl refl }

-- blobs of one kind are of another
pub behind_wider : (P Q : List ℕ → Type 0) (end : ℕ) → ((blob : List ℕ) → P blob → Q blob) → (end ≡ 0) ⊎ IsBehind P end → (end ≡ 0) ⊎ IsBehind Q end
behind_wider P Q end wider (inl e) = inl e
behind_wider P Q end wider (inr b) = inr (record { blob = b.blob; is = wider b.blob b.is; number = b.number; block = b.block; next = b.next })

-- of two ends the greater one
pub behind_greater : (P : List ℕ → Type 0) (a b : ℕ) → (a ≡ 0) ⊎ IsBehind P a → (b ≡ 0) ⊎ IsBehind P b → (max a b ≡ 0) ⊎ IsBehind P (max a b)
behind_greater P a b p q =
    elim (cases_lt a b) [
      | inl below ↦ subst (λ n. (n ≡ 0) ⊎ IsBehind P n) (let e : b ≡ max a b = omega arith in e) q
      | inr past ↦ subst (λ n. (n ≡ 0) ⊎ IsBehind P n) (let e : a ≡ max a b = omega arith in e) p
    ]

-- an end isn't above a number that is above all blocks
pub end_least : (Is : List ℕ → Type 0) (end value : ℕ) → IsEndOf Is end → AreBelow Is value → end ≤ value
end_least Is end value is below = by_last is.reached
  where
    by_last : (end ≡ 0) ⊎ IsBehind Is end → end ≤ value
    by_last (inl e) = omega arith
    by_last (inr b) = omega (arith, below b.blob b.number b.is b.block, b.next)

pub end_one : (Is : List ℕ → Type 0) (a b : ℕ) → IsEndOf Is a → IsEndOf Is b → a ≡ b
end_one Is a b p q = omega (arith, end_least Is a b p q.above, end_least Is b a q p.above)

-- ---- IsReached

lead_on : (bytes : List ℕ) (sizes : List ℕ) (from mid to : ℕ) (more : List ℕ) → Lead bytes from sizes mid → Lead bytes mid more to
    → Lead bytes from (sizes ++ more) to
lead_on bytes [] from mid to more e lead = subst (λ n. Lead bytes n more to) (sym e) lead
lead_on bytes (size ∷ sizes) from mid to more first lead = (first.0, lead_on bytes sizes (from + size) mid to more first.1 lead)

reached_on : (bytes : List ℕ) (from mid to : ℕ) → IsReached bytes from mid → IsReached bytes mid to → IsReached bytes from to
reached_on bytes from mid to a b = (a.0 ++ b.0, lead_on bytes a.0 from mid to b.0 a.1 b.1)

stated_on : (bytes : List ℕ) (from mid : ℕ) (blob : List ℕ) → IsReached bytes from mid → IsStatedFrom bytes mid blob → IsStatedFrom bytes from blob
stated_on bytes from mid blob reached stated =
    record { at = stated.at; reached = reached_on bytes from mid stated.at reached stated.reached; put = stated.put }

-- bytes state one size
one_size : (bytes : List ℕ) (a b : ℕ) → StatesSize bytes a → StatesSize bytes b → a ≡ b
one_size bytes a b p q = p.stated ∙ sym q.stated

-- ---- Passes

pub passes_none : (bytes : List ℕ) (at : ℕ) → Passes bytes at at 0
passes_none bytes at = record { reached = ([], refl); above = λ blob number is block. inr is.0; last = inl refl }

-- the blobs that are stated from one place on are that of the entry there and those stated from the next place on
stated_first : (bytes : List ℕ) (at size end : ℕ) (blob : List ℕ) (number : ℕ) → StatesSize (drop at bytes) size → IsEndOf (IsCountedPut (drop at bytes)) end
    → TakesBlocks blob → IsBlockOf blob number → (sizes : List ℕ) (place : ℕ) → Lead bytes at sizes place → StatesPut (drop place bytes) blob
    → (number < end) ⊎ IsStatedFrom bytes (at + size) blob
stated_first bytes at size end blob number stated own takes block [] place lead put =
    inl (own.above blob number (subst (λ n. StatesPut (drop n bytes) blob) (sym lead) put, takes) block)
stated_first bytes at size end blob number stated own takes block (first ∷ sizes) place lead put =
    let same : first ≡ size = one_size (drop at bytes) first size lead.0 stated in
    inr (record { at = place; reached = (sizes, subst (λ n. Lead bytes (at + n) sizes place) same lead.1); put = put })

-- one entry
pub passes_one : (bytes : List ℕ) (at size end : ℕ) → StatesSize (drop at bytes) size → IsEndOf (IsCountedPut (drop at bytes)) end
    → Passes bytes at (at + size) end
passes_one bytes at size end stated own = record {
  reached = (size ∷ [], (stated, refl));
  above = λ blob number is block.
      stated_first bytes at size end blob number stated own is.1 block is.0.reached.0 is.0.at is.0.reached.1 is.0.put;
  last = behind_wider (IsCountedPut (drop at bytes)) (IsCountedFrom bytes at) end
      (λ blob is. (record { at = at; reached = ([], refl); put = is.0 }, is.1)) own.reached;
}

-- entries behind others
pub passes_more : (bytes : List ℕ) (from mid to a b : ℕ) → Passes bytes from mid a → Passes bytes mid to b → Passes bytes from to (max a b)
passes_more bytes from mid to a b p q = record {
  reached = reached_on bytes from mid to p.reached q.reached;
  above = λ blob number is block. by_first blob number is.1 block (p.above blob number is block);
  last = behind_greater (IsCountedFrom bytes from) a b p.last
      (behind_wider (IsCountedFrom bytes mid) (IsCountedFrom bytes from) b (λ blob is. (stated_on bytes from mid blob p.reached is.0, is.1)) q.last);
}
  where
    by_second : (blob : List ℕ) (number : ℕ) → (number < b) ⊎ IsStatedFrom bytes to blob → (number < max a b) ⊎ IsStatedFrom bytes to blob
    by_second blob number (inl below) = inl (omega arith)
    by_second blob number (inr stated) = inr stated

    by_first : (blob : List ℕ) (number : ℕ) → TakesBlocks blob → IsBlockOf blob number → (number < a) ⊎ IsStatedFrom bytes mid blob
        → (number < max a b) ⊎ IsStatedFrom bytes to blob
    by_first blob number takes block (inl below) = inl (omega arith)
    by_first blob number takes block (inr stated) = by_second blob number (q.above blob number (stated, takes) block)

unstated : (bytes : List ℕ) (at : ℕ) (blob : List ℕ) → StatesNoSize (drop at bytes) → (sizes : List ℕ) (place : ℕ) → Lead bytes at sizes place
    → StatesPut (drop place bytes) blob → ⊥
unstated bytes at blob none [] place lead put = subst (λ n. StatesPut (drop n bytes) blob → ⊥) lead (λ own. none own.size own.stated) put
unstated bytes at blob none (size ∷ sizes) place lead put = none size lead.0

-- where nothing is stated behind
pub passes_end : (bytes : List ℕ) (from to end : ℕ) → Passes bytes from to end → StatesNoSize (drop to bytes) → IsEndOf (IsCountedFrom bytes from) end
passes_end bytes from to end p none = record {
  above = λ blob number is block. by_place blob number (p.above blob number is block);
  reached = p.last;
}
  where
    by_place : (blob : List ℕ) (number : ℕ) → (number < end) ⊎ IsStatedFrom bytes to blob → number < end
    by_place blob number (inl below) = below
    by_place blob number (inr stated) = absurd (unstated bytes to blob none stated.reached.0 stated.at stated.reached.1 stated.put)

-- ---- the steps of a part

-- too few bytes for an entry
pub none_left : (bytes : List ℕ) → length bytes < 9 → StatesNoSize bytes
none_left bytes few size stated = omega (arith, stated.least, stated.within)

pub passes_begin : (bytes : List ℕ) (from : ℕ) → Passes bytes from (from + 0) 0
passes_begin bytes from = subst (λ n. Passes bytes from n 0) (let e : from ≡ from + 0 = omega arith in e) (passes_none bytes from)

-- one more entry
pub passes_step : (bytes : List ℕ) (from size stated next end own new : ℕ) → Passes bytes from (from + size) end
    → StatesSize (drop (from + size) bytes) stated → IsEndOf (IsCountedPut (drop (from + size) bytes)) own → next ≡ size + stated → new ≡ max end own
    → Passes bytes from (from + next) new
passes_step bytes from size stated next end own new before states is e f =
    let place : from + size + stated ≡ from + next = omega arith in
    let more = passes_more bytes from (from + size) (from + size + stated) end own before (passes_one bytes (from + size) stated own states is) in
    subst (λ n. Passes bytes from n new) place (subst (λ n. Passes bytes from (from + size + stated) n) (sym f) more)
