-- Lemmas on specs/Ground.antt: what a stop leaves of segments at rest, and of those that are written.
use Rattle.std.proofs.Common.{◌≡◌, inl, inr, ℕ, zero, suc, ◌<◌, ◌≤◌, List, [], ◌∷◌, ◌++◌, length, Option, Some, None, refl, sym}
use Rattle.std.proofs.Common.{◌∙◌, ap, subst, arith}
use Rattle.std.specs.FinMap.{get}
use Rattle.std.proofs.lemmas.List.{append-nil, length-append}
use Rattle.ferry_disk.specs.Act.{History, files_now}
use Rattle.ferry_disk.specs.Files.{Files}
use Rattle.ferry_disk.specs.Image.{Fate, at_rest, Continues, MayLeave, Leaves}
use Rattle.ferry_segment.specs.Entry.{LogEntry}
use Rattle.ferry_stops.specs.Chance.{EachStop}
use Rattle.ferry_stops.specs.Entries.{SegmentHas, HaveBelow, CommittedBelow, ShowsAt}
use Rattle.ferry_stops.specs.Ground.{IsSafe, IsOwn}

-- ---- segments at rest

pub some_is : {A : Type 0} (x y : A) → Some x ≡ Some y → x ≡ y
some_is x y e = cc

no_more : (front tail : List ℕ) → length (front ++ tail) ≤ length front → tail ≡ []
no_more front [] h = refl
no_more front (x ∷ tail) h = absurd (omega (arith, h, length-append front (x ∷ tail)))

rest_some : (b c : List ℕ) → Continues (at_rest (Some b)) c → c ≡ b
rest_some b c m =
    let all_is : b ≡ m.all = some_is b m.all m.made in
    let first : c ≡ b ++ m.tail = m.stable_first in
    let short : length (b ++ m.tail) ≤ length b =
    subst (λ (l : List ℕ). length l ≤ length b) first (subst (λ (a : List ℕ). length c ≤ length a) (sym all_is) m.within) in
    first ∙ (ap (λ (t : List ℕ). b ++ t) (no_more b m.tail short) ∙ append-nil b)

pub rest_left : (bytes left : Option (List ℕ)) → MayLeave (at_rest bytes) left → left ≡ bytes
rest_left None None h = refl
rest_left (Some b) None (inl e) = absurd (let no : ⊥ = cc in no)
rest_left (Some b) None (inr e) = absurd (let no : ⊥ = cc in no)
rest_left None (Some c) m = absurd (let e : ◌≡◌ {A = Option (List ℕ)} None (Some m.all) = m.made in let no : ⊥ = cc in no)
rest_left (Some b) (Some c) m = ap Some (rest_some b c m)

-- ---- the same segments below a number

pub have_same : (files others : Files) (end : ℕ) (entries : List LogEntry) → ((n : ℕ) → n < end → get files.segments n ≡ get others.segments n)
    → HaveBelow files end entries → HaveBelow others end entries
unfolding HaveBelow
have_same files others zero entries same h = h
have_same files others (suc n) entries same h = (
  h.0,
  h.1,
  have_same files others n h.0 (λ m below. same m (omega (arith, below))) h.2,
  subst (λ (o : Option (List ℕ)). SegmentHas o h.1) (same n (omega arith)) h.3,
  h.4,
)

committed_same : (files others : Files) (end : ℕ) (committed : Option (List LogEntry))
    → ((n : ℕ) → n < end → get files.segments n ≡ get others.segments n) → CommittedBelow files end committed → CommittedBelow others end committed
committed_same files others end None same c = c
committed_same files others end (Some entries) same c = record {
  last = c.last;
  end_is = c.end_is;
  bytes = c.bytes;
  there = sym (same c.last (omega (arith, c.end_is))) ∙ c.there;
  committed = c.committed;
  entries_are = have_same files others end entries same c.entries_are;
}

-- ---- a safe ground

same_below : (end : ℕ) (history : History) → IsSafe history end → (image : Files) → Leaves history.start history.acts image → (n : ℕ) → n < end
    → get image.segments n ≡ get (files_now history).segments n
same_below end history safe image leaves n below =
    rest_left (get (files_now history).segments n) (get image.segments n)
    (subst (λ (f : Fate). MayLeave f (get image.segments n)) (safe.below n below) (leaves.segments n))

pub own_shows : (end : ℕ) (committed : Option (List LogEntry)) (history : History) → IsOwn end committed history
    → EachStop (λ image. ShowsAt image end committed) history
own_shows end committed history own image left =
    let leaves = left.image_is.after own.safe.settled_is in
    record {
      below = committed_same (files_now history) image end committed (λ n below. sym (same_below end history own.safe image leaves n below)) own.commits;
      open_above = λ n above. (own.safe.above n above).stays_open (get image.segments n) (leaves.segments n) (left.by_no_chance n);
    }
