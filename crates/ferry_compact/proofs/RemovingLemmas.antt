-- Lemmas on segments that are removed behind a commit, and on what a stop leaves while they are.
use Rattle.std.proofs.Common.{◌≡◌, ◌⊎◌, inl, inr, ℕ, suc, ◌<◌, ◌≤◌, Bool, true, false, ◌&&◌, ◌||◌, not, List, [], ◌∷◌, ◌++◌}
use Rattle.std.proofs.Common.{map, filter, nat_eq, Option, Some, None, refl, sym, ◌∙◌, ap, subst, arith}
use Rattle.std.proofs.lemmas.List.{append-nil, append_assoc}
use Rattle.std.proofs.lemmas.List.Elements.{filter-append}
use Rattle.std.specs.FinMap.{get}
use Rattle.std.specs.List.{AllByRecursion}
use Rattle.ferry_compact.proofs.LiesLemmas.{LiesBelow, entries_in, lies_have, lies_without, not_in}
use Rattle.ferry_compact.proofs.ListLemmas.{all_each, all_map, among-append, filter_all, filter_same, map-append}
use Rattle.ferry_compact.proofs.LastLemmas.{Ordered, blob_after, live_after}
use Rattle.ferry_compact.proofs.LiveLemmas.{moved_live}
use Rattle.ferry_compact.proofs.NoteLemmas.{filter_twice}
use Rattle.ferry_compact.specs.Compact.{ShowsLive}
use Rattle.ferry_compact.specs.Moving.{is_among, left_in, moved_in}
use Rattle.ferry_disk.proofs.ImageLemmas.{applied-push, image_of}
use Rattle.ferry_disk.specs.Act.{History, RemoveOf, files_now, with_act}
use Rattle.ferry_disk.specs.Files.{Files, without_segment}
use Rattle.ferry_disk.specs.Image.{Fate, MayLeave, MayStand, PlainFate, at_rest, fate_in, fate_removed, plain_in, settled}
use Rattle.ferry_disk.specs.Moments.{EachMoment, with_steps}
use Rattle.ferry_disk.specs.declared.name.Name.{Name}
use Rattle.ferry_disk.specs.declared.name.Name.TheVariants.{Config, Nonce, Readme}
use Rattle.ferry_log.specs.Live.{live_blob}
use Rattle.ferry_log.specs.Log.{Located}
use Rattle.ferry_segment.specs.Entry.{CommitEntry, LogEntry}
use Rattle.ferry_segment.specs.Segment.{Committed}
use Rattle.ferry_stops.proofs.EntryLemmas.{shown_log}
use Rattle.ferry_stops.proofs.GroundLemmas.{own_shows}
use Rattle.ferry_stops.proofs.NumberLemmas.{Rising}
use Rattle.ferry_stops.specs.Blobs.{Gains}
use Rattle.ferry_stops.specs.Chance.{EachStop, FileByNoChance, IsLeft}
use Rattle.ferry_stops.specs.Entries.{HaveBelow, IsOpen, OpenFrom, ShowsAt}
use Rattle.ferry_stops.specs.Ground.{IsHarmless, IsOwn, IsSafe}
use Rattle.ferry_write.proofs.PlainLemmas.{LeavesFiles, plain_next}
use Rattle.ferry_write.proofs.RowLemmas.{remove_gains}
use Rattle.ferry_write.proofs.StandLemmas.{either_number, files_same, off_number, read_is, remove_here, remove_other, rest_same, settled_next}

-- ---- one Remove

pub removed_other : (h : History) (n m : ℕ) → (m ≡ n → ⊥) → get (files_now (with_act (RemoveOf n) true h)).segments m ≡ get (files_now h).segments m
removed_other h n m off = files_same h (with_act (RemoveOf n) true h) m (remove_other h n true m off)

removed_here : (h : History) (n : ℕ) → get (files_now (with_act (RemoveOf n) true h)).segments n ≡ None
removed_here h n =
    sym (read_is (with_act (RemoveOf n) true h) n) ∙ ap (λ (f : Fate). f.read) (remove_here h n true)

files_removed : (h : History) (n : ℕ) → files_now (with_act (RemoveOf n) true h) ≡ without_segment (files_now h) n
files_removed h n = applied-push h.start h.acts (record { step = RemoveOf n; done = true })

-- one that is done, of a segment below the last commit, keeps the ground safe
pub safe_removed : (h : History) (end n : ℕ) → n < end → IsSafe h end → IsSafe (with_act (RemoveOf n) true h) end
safe_removed h end n lt safe = record {
  settled_is = settled_next h (RemoveOf n) true safe.settled_is;
  below = λ m under. elim (either_number m n) [
    | inl same ↦
        subst (λ (k : ℕ). fate_in g k ≡ at_rest (get (files_now g).segments k)) (sym same)
        (remove_here h n true ∙ ap at_rest (sym (removed_here h n)))
    | inr off ↦ rest_same h g m (remove_other h n true m off) (safe.below m under)
  ];
  above = λ m over.
      subst IsHarmless (sym (remove_other h n true m (λ same. let no : ⊥ = omega (arith, same, over, lt) in no))) (safe.above m over);
} where
  g : History
  g = with_act (RemoveOf n) true h

-- ---- one that isn't done

-- what a stop may leave of a segment by no chance
abbrev MayBe : Fate → Option (List ℕ) → Type 0
MayBe fate left = MayLeave fate left × FileByNoChance fate left

perhaps_there : (fate : Fate) (left : Option (List ℕ)) → MayBe (fate_removed false fate) left → (left ≡ None) ⊎ MayBe fate left
perhaps_there fate None may = inl refl
perhaps_there fate (Some bytes) may =
    let c = may.0 in inr (record { tail = c.tail; stable_first = c.stable_first; all = c.all; made = c.made; within = c.within }, may.1)

-- a stop leaves what is left by one whose segments it leaves, and whose other files it leaves
left_as : (h g : History) (image : Files) → settled h.acts ≡ true → settled g.acts ≡ true → ((name : Name) → plain_in g name ≡ plain_in h name)
    → ((m : ℕ) → MayBe (fate_in h m) (get image.segments m) → MayBe (fate_in g m) (get image.segments m)) → IsLeft h image → IsLeft g image
left_as h g image before now plain step left =
    let leaves = left.image_is.after before in
    let all : (m : ℕ) → MayBe (fate_in g m) (get image.segments m) = λ m. step m (leaves.segments m, left.by_no_chance m) in
    record {
      image_is = image_of g.start g.acts image now (record {
        config = subst (λ (f : PlainFate). MayStand f image.config) (sym (plain Config)) leaves.config;
        nonce = subst (λ (f : PlainFate). MayStand f image.nonce) (sym (plain Nonce)) leaves.nonce;
        readme = subst (λ (f : PlainFate). MayStand f image.readme) (sym (plain Readme)) leaves.readme;
        segments = λ m. (all m).0;
      });
      by_no_chance = λ m. (all m).1;
    }

-- what it leaves is what is left before it, or behind it once it is done
pub undone_left : (h : History) (n : ℕ) (image : Files) → settled h.acts ≡ true → IsLeft (with_act (RemoveOf n) false h) image
    → IsLeft h image ⊎ IsLeft (with_act (RemoveOf n) true h) image
undone_left h n image is_settled left = by_file (perhaps_there (fate_in h n) (get image.segments n) here) where
  undone : History
  undone = with_act (RemoveOf n) false h

  done : History
  done = with_act (RemoveOf n) true h

  here : MayBe (fate_removed false (fate_in h n)) (get image.segments n)
  here = subst (λ (f : Fate). MayBe f (get image.segments n)) (remove_here h n false)
      ((left.image_is.after (settled_next h (RemoveOf n) false is_settled)).segments n, left.by_no_chance n)

  by_file : (get image.segments n ≡ None) ⊎ MayBe (fate_in h n) (get image.segments n) → IsLeft h image ⊎ IsLeft done image
  by_file (inr may) =
      inl (left_as undone h image (settled_next h (RemoveOf n) false is_settled) is_settled (λ name. sym (plain_next h (RemoveOf n) false name))
      (λ m all. elim (either_number m n) [
        | inl same ↦ subst (λ (k : ℕ). MayBe (fate_in h k) (get image.segments k)) (sym same) may
        | inr off ↦ subst (λ (f : Fate). MayBe f (get image.segments m)) (remove_other h n false m off) all
      ]) left)
  by_file (inl none) =
      inr (left_as undone done image (settled_next h (RemoveOf n) false is_settled) (settled_next h (RemoveOf n) true is_settled)
      (λ name. plain_next h (RemoveOf n) true name ∙ sym (plain_next h (RemoveOf n) false name))
      (λ m all. elim (either_number m n) [
        | inl same ↦
            subst (λ (k : ℕ). MayBe (fate_in done k) (get image.segments k)) (sym same)
            (subst (MayBe (fate_in done n)) (sym none)
            (subst (λ (f : Fate). MayBe f None) (sym (remove_here h n true)) (inl refl, tt)))
        | inr off ↦
            subst (λ (f : Fate). MayBe f (get image.segments m)) (remove_other h n false m off ∙ sym (remove_other h n true m off)) all
      ]) left)

-- ---- what is live

-- files that show entries which leave each key what a log leaves it
pub shows_live : (log : List Located) (image : Files) (end : ℕ) (entries : List LogEntry) → ShowsAt image end (Some entries)
    → ((key : List ℕ) → live_after key None entries ≡ live_blob key log) → ShowsLive log image
shows_live log image end entries shown same =
    let found = shown_log image end entries shown in
    record {
      transaction = found.0;
      now = found.1;
      is = found.3;
      live = λ key. blob_after key found.1 ∙ (ap (live_after key None) found.4 ∙ same key);
    }

-- ---- chosen segments one after another

abbrev pub kept_in : List ℕ → List Located → List Located
kept_in gone log = filter (λ e. not (is_among gone e.segment)) log

-- Behind a commit of a log and of what was put again these segments are gone, and no segment of the log is behind the log's own last commit.
pub record Removing (log back : List Located) (transaction end : ℕ) (gone : List ℕ) (history : History) : Type 0 where
  pub safe : IsSafe history end
  pub open_above : OpenFrom (files_now history) end
  pub last : ℕ
  pub end_is : end ≡ suc last
  pub order : transaction < last
  pub bytes : List ℕ
  pub there : get (files_now history).segments last ≡ Some bytes
  pub committed : Committed bytes
  pub lies : LiesBelow (files_now history) end (kept_in gone log ++ back)
  pub high : AllByRecursion (λ e. transaction < e.segment) back

pub removing_own : (log back : List Located) (t end : ℕ) (gone : List ℕ) (h : History) → Removing log back t end gone h
    → IsOwn end (Some (left_in log gone ++ entries_in back)) h
unfolding left_in
removing_own log back t end gone h r = record {
  safe = r.safe;
  commits = record {
    last = r.last;
    end_is = r.end_is;
    bytes = r.bytes;
    there = r.there;
    committed = r.committed;
    entries_are = subst (HaveBelow (files_now h) end) (map-append (λ (e : Located). e.entry) (kept_in gone log) back)
        (lies_have (files_now h) end (kept_in gone log ++ back) r.lies);
  };
}

pub removing_shown : (log back : List Located) (t end : ℕ) (gone : List ℕ) (h : History) → Removing log back t end gone h
    → ShowsAt (files_now h) end (Some (left_in log gone ++ entries_in back))
removing_shown log back t end gone h r = record { below = (removing_own log back t end gone h r).commits; open_above = r.open_above }

neither : (a b : Bool) → (not a && not b) ≡ not (a || (b || false))
neither true b = refl
neither false true = refl
neither false false = refl

kept_more : (log back : List Located) (t n : ℕ) (gone : List ℕ) → n ≤ t → AllByRecursion (λ e. t < e.segment) back
    → not_in n (kept_in gone log ++ back) ≡ kept_in (gone ++ n ∷ []) log ++ back
kept_more log back t n gone le high =
    let P : Located → Bool = λ e. not (nat_eq e.segment n) in
    let Q : Located → Bool = λ e. not (is_among gone e.segment) in
    let front : filter P (kept_in gone log) ≡ kept_in (gone ++ n ∷ []) log =
    filter_twice P Q P log (all_each (λ (e : Located). Q e ≡ true → P e ≡ P e) (λ e is. refl) log)
    ∙ filter_same (λ e. Q e && P e) (λ e. not (is_among (gone ++ n ∷ []) e.segment)) log
    (all_each (λ (e : Located). (Q e && P e) ≡ not (is_among (gone ++ n ∷ []) e.segment))
    (λ e. neither (is_among gone e.segment) (nat_eq e.segment n) ∙ ap not (sym (among-append gone (n ∷ []) e.segment))) log) in
    let behind : filter P back ≡ back =
    filter_all P back (all_map (λ (e : Located). t < e.segment) (λ (e : Located). P e ≡ true)
    (λ e lt. ap not (off_number e.segment n (λ same. let no : ⊥ = omega (arith, lt, le, same) in no))) back high) in
    filter-append P (kept_in gone log) back ∙ (ap (λ (l : List Located). l ++ filter P back) front
    ∙ ap (λ (l : List Located). kept_in (gone ++ n ∷ []) log ++ l) behind)

pub removing_next : (log back : List Located) (t end : ℕ) (gone : List ℕ) (n : ℕ) (h : History) → n ≤ t → Removing log back t end gone h
    → Removing log back t end (gone ++ n ∷ []) (with_act (RemoveOf n) true h)
removing_next log back t end gone n h le r =
    let g = with_act (RemoveOf n) true h in
    let order = r.order in
    let end_is = r.end_is in
    record {
      safe = safe_removed h end n (omega (arith, le, order, end_is)) r.safe;
      open_above = λ m above.
          subst IsOpen (sym (removed_other h n m (λ same. let no : ⊥ = omega (arith, same, above, le, order, end_is) in no))) (r.open_above m above);
      last = r.last;
      end_is = r.end_is;
      order = r.order;
      bytes = r.bytes;
      there = removed_other h n r.last (λ same. let no : ⊥ = omega (arith, same, le, order) in no) ∙ r.there;
      committed = r.committed;
      lies = subst (λ (files : Files). LiesBelow files end (kept_in (gone ++ n ∷ []) log ++ back)) (sym (files_removed h n))
          (subst (LiesBelow (without_segment (files_now h) n) end) (kept_more log back t n gone le r.high)
          (lies_without (files_now h) n end (kept_in gone log ++ back) r.lies));
      high = r.high;
    }

-- ---- what a stop leaves

stop_live : (log back : List Located) (t end : ℕ) (chosen gone rest : List ℕ) (h : History) → chosen ≡ gone ++ rest
    → entries_in back ≡ moved_in log chosen ++ CommitEntry ∷ [] → Rising chosen → Ordered log → Removing log back t end gone h → EachStop (ShowsLive log) h
stop_live log back t end chosen gone rest h parts tail rising ordered r image left =
    shows_live log image end (left_in log gone ++ entries_in back)
    (own_shows end (Some (left_in log gone ++ entries_in back)) h (removing_own log back t end gone h r) image left)
    (λ key.
    ap (λ (l : List LogEntry). live_after key None (left_in log gone ++ l))
    (tail ∙ ap (λ (c : List ℕ). moved_in log c ++ CommitEntry ∷ []) parts)
    ∙ moved_live key log gone rest (subst Rising parts rising) ordered)

pub removal_live : (log back : List Located) (t end : ℕ) (chosen rest gone : List ℕ) (h : History) → chosen ≡ gone ++ rest
    → entries_in back ≡ moved_in log chosen ++ CommitEntry ∷ [] → Rising chosen → Ordered log → AllByRecursion (λ n. n ≤ t) rest
    → Removing log back t end gone h → EachMoment (EachStop (ShowsLive log)) h (map RemoveOf rest)
removal_live log back t end chosen [] gone h parts tail rising ordered low r = stop_live log back t end chosen gone [] h parts tail rising ordered r
removal_live log back t end chosen (n ∷ rest) gone h parts tail rising ordered low r =
    let more = parts ∙ sym (append_assoc gone (n ∷ []) rest) in
    let next = removing_next log back t end gone n h low.0 r in
    let g = with_act (RemoveOf n) true h in
    let before = stop_live log back t end chosen gone (n ∷ rest) h parts tail rising ordered r in
    let behind = stop_live log back t end chosen (gone ++ n ∷ []) rest g more tail rising ordered next in (
      before,
      (λ image left. elim (undone_left h n image r.safe.settled_is left) [
        | inl first ↦ before image first
        | inr second ↦ behind image second
      ]),
      removal_live log back t end chosen rest (gone ++ n ∷ []) g more tail rising ordered low.1 next,
    )

pub removal_gains : (base : History) (IsNew : List ℕ → Type 0) (rest : List ℕ) (h : History) → Gains base IsNew h
    → EachMoment (Gains base IsNew) h (map RemoveOf rest)
removal_gains base IsNew [] h gains = gains
removal_gains base IsNew (n ∷ rest) h gains = (
  gains,
  remove_gains base h IsNew n false gains,
  removal_gains base IsNew rest (with_act (RemoveOf n) true h) (remove_gains base h IsNew n true gains),
)

-- once all are removed
pub removing_all : (log back : List Located) (t end : ℕ) (rest gone : List ℕ) (h : History) → AllByRecursion (λ n. n ≤ t) rest
    → Removing log back t end gone h → Removing log back t end (gone ++ rest) (with_steps (map RemoveOf rest) h)
removing_all log back t end [] gone h low r = subst (λ (g : List ℕ). Removing log back t end g h) (sym (append-nil gone)) r
removing_all log back t end (n ∷ rest) gone h low r =
    subst (λ (g : List ℕ). Removing log back t end g (with_steps (map RemoveOf rest) (with_act (RemoveOf n) true h))) (append_assoc gone (n ∷ []) rest)
    (removing_all log back t end rest (gone ++ n ∷ []) (with_act (RemoveOf n) true h) low.1 (removing_next log back t end gone n h low.0 r))

pub removal_leaves : (numbers : List ℕ) → AllByRecursion LeavesFiles (map RemoveOf numbers)
removal_leaves [] = tt
removal_leaves (n ∷ numbers) = (tt, removal_leaves numbers)
