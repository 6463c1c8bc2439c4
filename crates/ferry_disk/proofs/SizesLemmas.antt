-- Lemmas on specs/Sizes.antt: the sizes of a fate are counted act by act, and tell what may be left.
use Rattle.std.proofs.Common.{◌≡◌, ℕ, ◌+◌, ◌≤◌, Bool, true, false, inl, inr, if◌then◌else◌, nat_eq, List, [], ◌++◌, length}
use Rattle.std.proofs.Common.{Option, Some, None, option_map, unwrap_or, refl, sym, ◌∙◌, ap, arith, length-append}
use Rattle.std.proofs.lemmas.List.Folds.{fold_along}
use Rattle.std.specs.FinMap.{get}
use Rattle.ferry_disk.specs.Act.{Step, AppendTo, SyncOf, RemoveOf, ReplaceBy, SettleAll, TellOf, Act}
use Rattle.ferry_disk.specs.Files.{Files}
use Rattle.ferry_disk.specs.Image.{Fate, at_rest, fate_appended, fate_synced, fate_removed, fate_settled, fate_stepped, fate_after, fate_of}
use Rattle.ferry_disk.specs.Image.{Continues, MayLeave, is_settle, settled}
use Rattle.ferry_disk.specs.Choice.{segment_left}
use Rattle.ferry_disk.specs.Sizes.{sizes_of, size_rest, size_appended, size_synced, size_removed, size_settled, size_stepped, size_after}
use Rattle.ferry_disk.specs.Sizes.{sizes_after, SizesAllow}
use Rattle.ferry_disk.specs.declared.sizes.Sizes.{Sizes}
use Rattle.std.proofs.Common.{zero, suc, ◌<◌, ◌-◌, ◌^◌, ◌&&◌, ◌||◌, not, drop, ◌∷◌, take, get_or}
use Rattle.std.proofs.lemmas.List.{take_more, take_all, drop_more, map-append}
use Rattle.std.proofs.lemmas.List.Sums.{fold_push}
use Rattle.std.specs.Map.{lookup}
use Rattle.ferry_disk.specs.Acts.{step_of, act_of, acts_of}
use Rattle.ferry_disk.specs.Moments.{last_undone}
use Rattle.ferry_disk.specs.Sizes.{cut_acts, IsShort, IsWithin}
use Rattle.ferry_disk.specs.declared.act.Act.{Act as ActGiven}
use Rattle.ferry_disk.proofs.FilesLemmas.{same_number}

and_false : (b : Bool) → (b && false) ≡ false
and_false true = refl
and_false false = refl

and_true : (b : Bool) → (b && true) ≡ b
and_true true = refl
and_true false = refl

unwrap_length : (o : Option (List ℕ)) → length (unwrap_or o []) ≡ unwrap_or (option_map length o) 0
unwrap_length None = refl
unwrap_length (Some l) = refl

longer : (o : Option (List ℕ)) (bytes : List ℕ) → length (unwrap_or o [] ++ bytes) ≡ unwrap_or (option_map length o) 0 + length bytes
longer o bytes = length-append (unwrap_or o []) bytes ∙ ap (λ n. n + length bytes) (unwrap_length o)

read_size : (bytes : List ℕ) (done : Bool) (read : Option (List ℕ))
    → option_map length (if done then Some (unwrap_or read [] ++ bytes) else read)
    ≡ (if done then Some (unwrap_or (option_map length read) 0 + length bytes) else option_map length read)
read_size bytes true read = ap Some (longer read bytes)
read_size bytes false read = refl

appended_sizes : (bytes : List ℕ) (done : Bool) (f : Fate) → sizes_of (fate_appended bytes done f) ≡ size_appended (length bytes) done (sizes_of f)
appended_sizes bytes done f = λ i. record {
  read = read_size bytes done f.read i;
  stable = option_map length f.stable;
  all = Some (longer f.all bytes i);
  lost = f.lost;
}

synced_sizes : (done : Bool) (f : Fate) → sizes_of (fate_synced done f) ≡ size_synced done (sizes_of f)
synced_sizes true f = refl
synced_sizes false f = refl

removed_sizes : (done : Bool) (f : Fate) → sizes_of (fate_removed done f) ≡ size_removed done (sizes_of f)
removed_sizes true f = refl
removed_sizes false f = refl

settled_sizes : (done : Bool) (f : Fate) → sizes_of (fate_settled done f) ≡ size_settled done (sizes_of f)
settled_sizes true f = refl
settled_sizes false f = refl

either : (b : Bool) (changed f : Fate) (z : Sizes) → sizes_of changed ≡ z → sizes_of (if b then changed else f) ≡ (if b then z else sizes_of f)
either true changed f z e = e
either false changed f z e = refl

pub sizes_step : (n : ℕ) (step : Step) (done : Bool) (f : Fate) → sizes_of (fate_stepped n step done f) ≡ size_stepped n step done (sizes_of f)
sizes_step n (AppendTo k bytes) done f = either (nat_eq n k) _ f _ (appended_sizes bytes done f)
sizes_step n (SyncOf k) done f = either (nat_eq n k) _ f _ (synced_sizes done f)
sizes_step n (RemoveOf k) done f = either (nat_eq n k) _ f _ (removed_sizes done f)
sizes_step n (ReplaceBy name bytes) done f = refl
sizes_step n SettleAll done f = settled_sizes done f
sizes_step n (TellOf line) done f = refl

pub sizes_fold : (start : Files) (acts : List Act) (n : ℕ) → sizes_of (fate_of start acts n) ≡ sizes_after (option_map length (get start.segments n)) acts n
unfolding fate_of
sizes_fold start acts n =
    fold_along (fate_after n) (size_after n) (λ f z. sizes_of f ≡ z)
    (λ f z act e. sizes_step n act.step act.done f ∙ ap (size_stepped n act.step act.done) e) (at_rest (get start.segments n))
    (size_rest (option_map length (get start.segments n))) acts refl

-- ---- what may be left

none_back : (o : Option (List ℕ)) → option_map length o ≡ None → o ≡ None
none_back None e = refl
none_back (Some l) e = absurd (let no : ⊥ = cc in no)

tail_may : (f : Fate) (tail : List ℕ) (all : Option (List ℕ)) → f.all ≡ all → (n : ℕ) → option_map length all ≡ Some n
    → unwrap_or (option_map length f.stable) 0 + length tail ≤ n → Continues f (unwrap_or f.stable [] ++ tail)
tail_may f tail None e n m w = absurd (let no : ⊥ = cc in no)
tail_may f tail (Some all) e n m w = record {
  tail = tail;
  stable_first = refl;
  all = all;
  made = e;
  within = (let size : length all ≡ n = cc in omega (arith, w, longer f.stable tail, size));
}

pub allow_may : (took : Bool) (f : Fate) (tail : Option (List ℕ)) → SizesAllow (sizes_of f) tail → MayLeave f (segment_left took f (Some tail))
allow_may took f None (inl e) = inl (none_back f.stable e)
allow_may took f None (inr e) = inr e
allow_may took f (Some tail) p = tail_may f tail f.all refl p.0 p.1 p.2

pub may_allow : (took : Bool) (f : Fate) (tail : Option (List ℕ)) → MayLeave f (segment_left took f (Some tail)) → SizesAllow (sizes_of f) tail
may_allow took f None (inl e) = inl (ap (option_map length) e)
may_allow took f None (inr e) = inr e
may_allow took f (Some tail) m =
    (length m.all, ap (option_map length) m.made, omega (arith, m.within, longer f.stable tail))

-- ---- one more act of the program

pub acts_more : (acts : List ActGiven) (i : ℕ) (a : ActGiven) → i < length acts → a ≡ get_or acts i a
    → acts_of (take (i + 1) acts) ≡ acts_of (take i acts) ++ act_of a ∷ []
acts_more acts i a h is =
    ap acts_of (take_more acts i a h ∙ ap (λ x. take i acts ++ x ∷ []) (sym is)) ∙ map-append act_of (take i acts) (a ∷ [])

pub sizes_more : (size : Option ℕ) (acts : List ActGiven) (n i : ℕ) (a : ActGiven) → i < length acts → a ≡ get_or acts i a
    → sizes_after size (acts_of (take (i + 1) acts)) n ≡ size_stepped n (step_of a.kind) a.done (sizes_after size (acts_of (take i acts)) n)
sizes_more size acts n i a h is =
    ap (λ l. sizes_after size l n) (acts_more acts i a h is) ∙ fold_push (size_after n) (size_rest size) (acts_of (take i acts)) (act_of a)

-- all acts, the last apart
pub acts_last : (acts : List ActGiven) (n : ℕ) (a : ActGiven) → length acts ≡ n + 1 → a ≡ get_or acts n a
    → acts_of acts ≡ acts_of (take n acts) ++ act_of a ∷ []
acts_last acts n a e is = ap acts_of (sym (take_all (n + 1) acts (omega (arith, e)))) ∙ acts_more acts n a (omega (arith, e)) is

last_undone-push : (acts : List Act) (a : Act) → last_undone (acts ++ a ∷ []) ≡ acts ++ record a { done = false } ∷ []
last_undone-push [] a = refl
last_undone-push (x ∷ []) a = refl
last_undone-push (x ∷ (y ∷ acts)) a = ap (λ l. x ∷ l) (last_undone-push (y ∷ acts) a)

pub cut_push : (cut : Bool) (acts : List Act) (a : Act) → cut_acts cut (acts ++ a ∷ []) ≡ acts ++ record { step = a.step; done = a.done && not cut } ∷ []
cut_push true acts a = last_undone-push acts a ∙ ap (λ d. acts ++ record { step = a.step; done = d } ∷ []) (sym (and_false a.done))
cut_push false acts a = ap (λ d. acts ++ record { step = a.step; done = d } ∷ []) (sym (and_true a.done))

pub at_moment_is : (start : Files) (acts : List ActGiven) (n : ℕ) (a : ActGiven) (cut : Bool) (segment : ℕ) → length acts ≡ n + 1 → a ≡ get_or acts n a
    → size_stepped segment (step_of a.kind) (a.done && not cut) (sizes_after (option_map length (get start.segments segment)) (acts_of (take n acts)) segment)
    ≡ sizes_of (fate_of start (cut_acts cut (acts_of acts)) segment)
at_moment_is start acts n a cut segment e is =
    let size = option_map length (get start.segments segment) in
    let last : Act = record { step = step_of a.kind; done = a.done && not cut } in
    let whole : cut_acts cut (acts_of acts) ≡ acts_of (take n acts) ++ last ∷ [] =
    ap (cut_acts cut) (acts_last acts n a e is) ∙ cut_push cut (acts_of (take n acts)) (act_of a) in
    sym (sizes_fold start (cut_acts cut (acts_of acts)) segment ∙ (ap (λ l. sizes_after size l segment) whole
    ∙ fold_push (size_after segment) (size_rest size) (acts_of (take n acts)) last))

-- ---- sizes stay small

within_either : (b : Bool) (m : ℕ) (x z : Sizes) → IsWithin m x → IsWithin m z → IsWithin m (if b then x else z)
within_either true m x z p q = p
within_either false m x z p q = q

wider : (m k : ℕ) (z : Sizes) → m ≤ k → IsWithin m z → IsWithin k z
wider m k z h w = record { read = omega (arith, h, w.read); all = omega (arith, h, w.all) }

appended_within : (m count : ℕ) (done : Bool) (z : Sizes) → count ≤ 2 ^ 64 - 1 → IsWithin m z → IsWithin (m + (2 ^ 64 - 1)) (size_appended count done z)
appended_within m count true z h w = record { read = omega (arith, h, w.read); all = omega (arith, h, w.all) }
appended_within m count false z h w = record { read = omega (arith, w.read); all = omega (arith, h, w.all) }

removed_within : (m : ℕ) (done : Bool) (z : Sizes) → IsWithin m z → IsWithin m (size_removed done z)
removed_within m true z w = record { read = omega arith; all = omega arith }
removed_within m false z w = record { read = w.read; all = w.all }

settled_within : (m : ℕ) (done : Bool) (z : Sizes) → IsWithin m z → IsWithin m (size_settled done z)
settled_within m true z w = record { read = w.read; all = w.read }
settled_within m false z w = w

pub stepped_within : (n : ℕ) (step : Step) (done : Bool) (z : Sizes) (m : ℕ) → IsShort step → IsWithin m z
    → IsWithin (m + (2 ^ 64 - 1)) (size_stepped n step done z)
stepped_within n (AppendTo k bytes) done z m s w =
    within_either (nat_eq n k) _ _ z (appended_within m (length bytes) done z s w) (wider m _ z (omega arith) w)
stepped_within n (SyncOf k) done z m s w =
    wider m _ _ (omega arith) (within_either (nat_eq n k) m _ z (record { read = w.read; all = w.all }) w)
stepped_within n (RemoveOf k) done z m s w =
    wider m _ _ (omega arith) (within_either (nat_eq n k) m _ z (removed_within m done z w) w)
stepped_within n (ReplaceBy name bytes) done z m s w = wider m _ z (omega arith) w
stepped_within n SettleAll done z m s w = wider m _ _ (omega arith) (settled_within m done z w)
stepped_within n (TellOf line) done z m s w = wider m _ z (omega arith) w

-- ---- what is listed of each segment

found_first : {X : Type 0} (x : ℕ × X) (tails : List (ℕ × X)) (q : ℕ) (t : X) (d : ℕ × X) (b : Bool) → nat_eq q x.0 ≡ b
    → (if b then Some x.1 else lookup (nat_eq q) tails) ≡ Some t
    → (lookup (nat_eq q) tails ≡ Some t → (k : ℕ) × (k < length tails) × (q ≡ (get_or tails k d).0))
    → (k : ℕ) × (k < length (x ∷ tails)) × (q ≡ (get_or (x ∷ tails) k d).0)
found_first x tails q t d true is e later = (0, omega arith, same_number q x.0 is)
found_first x tails q t d false is e later = let p = later e in (suc p.0, omega (arith, p.1), p.2)

pub found_at : {X : Type 0} (tails : List (ℕ × X)) (q : ℕ) (t : X) (d : ℕ × X) → lookup (nat_eq q) tails ≡ Some t
    → (k : ℕ) × (k < length tails) × (q ≡ (get_or tails k d).0)
found_at [] q t d e = absurd (let no : ⊥ = cc in no)
found_at (x ∷ tails) q t d e = found_first x tails q t d (nat_eq q x.0) refl e (found_at tails q t d)

pub lookup_step : {X : Type 0} (tails : List (ℕ × X)) (i q : ℕ) (x : ℕ × X) → i < length tails → x ≡ get_or tails i x
    → lookup (nat_eq q) (drop i tails) ≡ (if nat_eq q x.0 then Some x.1 else lookup (nat_eq q) (drop (i + 1) tails))
lookup_step tails i q x h is = ap (lookup (nat_eq q)) (drop_more tails i x h ∙ ap (λ y. y ∷ drop (i + 1) tails) (sym is))

pub settled_step : (acts : List ActGiven) (i : ℕ) (a : ActGiven) → i < length acts → a ≡ get_or acts i a
    → settled (acts_of (drop i acts)) ≡ ((a.done && is_settle (step_of a.kind)) || settled (acts_of (drop (i + 1) acts)))
settled_step acts i a h is = ap (λ l. settled (acts_of l)) (drop_more acts i a h ∙ ap (λ y. y ∷ drop (i + 1) acts) (sym is))

-- with the last act taken as not done
pub settled_cut : (acts : List ActGiven) (n : ℕ) → length acts ≡ n + 1 → settled (acts_of (take n acts)) ≡ settled (cut_acts true (acts_of acts))
settled_cut [] n e = absurd (omega (arith, e))
settled_cut (x ∷ []) zero e = refl
settled_cut (x ∷ []) (suc n) e = absurd (omega (arith, e))
settled_cut (x ∷ (y ∷ acts)) zero e = absurd (omega (arith, e))
settled_cut (x ∷ (y ∷ acts)) (suc n) e =
    ap (λ b. (x.done && is_settle (step_of x.kind)) || b) (settled_cut (y ∷ acts) n (omega (arith, e)))

-- the moment with no act
pub empty_moment : (start : Files) (acts : List ActGiven) (cut : Bool) (n : ℕ) (size : Option ℕ) → length acts ≡ 0
    → size ≡ option_map length (get start.segments n) → size_rest size ≡ sizes_of (fate_of start (cut_acts cut (acts_of acts)) n)
empty_moment start [] true n size e is = ap size_rest is ∙ sym (sizes_fold start [] n)
empty_moment start [] false n size e is = ap size_rest is ∙ sym (sizes_fold start [] n)
empty_moment start (x ∷ acts) cut n size e is = absurd (omega (arith, e))

pub not_empty : (n : ℕ) → false ≡ nat_eq n 0 → n ≡ (n - 1) + 1
not_empty zero e = absurd (let no : ⊥ = cc in no)
not_empty (suc n) e = omega arith
