-- Lemmas for the call that leaves what a choice describes: the acts of its moment, and each file.
use Rattle.std.proofs.Common.{◌≡◌, ℕ, ◌+◌, ◌<◌, Bool, true, false, ◌&&◌, ◌||◌, if◌then◌else◌, nat_eq, List, [], ◌∷◌, ◌++◌, length, map, take}
use Rattle.std.proofs.Common.{Option, Some, None, option_map, get_or, slice_set, zero, suc, refl, sym, ◌∙◌, ap, arith}
use Rattle.std.proofs.Math.Seq.{take-append_seam}
use Rattle.std.proofs.lemmas.List.Folds.{list_any-append}
use Rattle.std.specs.List.{list_any}
use Rattle.std.specs.Ordering.{nat_cmp}
use Rattle.std.specs.FinMap.{FinMap, get, insert, keys, empty, get-empty}
use Rattle.ferry_disk.specs.Act.{Act, applied}
use Rattle.ferry_disk.specs.Acts.{step_of, act_of, acts_of}
use Rattle.ferry_disk.specs.Choice.{segment_left, ChoosesFiles, Chooses}
use Rattle.ferry_disk.specs.Files.{Files}
use Rattle.ferry_disk.specs.Image.{Fate, fate_of, plain_of, plain_stepped, settled}
use Rattle.ferry_disk.specs.Moments.{last_undone}
use Rattle.ferry_disk.specs.Stop.{front_of, fate_by, with_left}
use Rattle.ferry_disk.specs.declared.act.Act.{Act as ActGiven}
use Rattle.ferry_disk.specs.declared.choice.Choice.{Choice}
use Rattle.ferry_disk.specs.declared.name.Name.{Name}
use Rattle.ferry_disk.proofs.ChoiceLemmas.{left_at, neither, not_there, not_listed}
use Rattle.ferry_disk.proofs.FilesLemmas.{same_number}
use Rattle.ferry_disk.proofs.ImageLemmas.{Sound, sound_fate, fate_read, get-put, or_false, plain_of-push}
use Rattle.ferry_disk.proofs.SizesLemmas.{acts_more}

-- ---- the acts of the moment

pub last_set : (acts : List ActGiven) (n : ℕ) (a : ActGiven) → length acts ≡ n + 1 → a ≡ get_or acts n a
    → acts_of (slice_set acts n (record { kind = a.kind; done = false })) ≡ last_undone (acts_of acts)
last_set [] n a e is = absurd (omega (arith, e))
last_set (x ∷ []) zero a e is = ap (λ b. record { step = step_of b.kind; done = false } ∷ []) is
last_set (x ∷ []) (suc n) a e is = absurd (omega (arith, e))
last_set (x ∷ (y ∷ acts)) zero a e is = absurd (omega (arith, e))
last_set (x ∷ (y ∷ acts)) (suc n) a e is = ap (λ l. act_of x ∷ l) (last_set (y ∷ acts) n a (omega (arith, e)) is)

-- ---- `config`, `nonce` and `README`

pub plain_more : (file : Option (List ℕ)) (acts : List ActGiven) (name : Name) (i : ℕ) (a : ActGiven) → i < length acts → a ≡ get_or acts i a
    → plain_of file (acts_of (take (i + 1) acts)) name ≡ plain_stepped name (step_of a.kind) a.done (plain_of file (acts_of (take i acts)) name)
plain_more file acts name i a h is =
    ap (λ l. plain_of file l name) (acts_more acts i a h is) ∙ plain_of-push file (acts_of (take i acts)) (act_of a) name

-- ---- one segment

-- what is left of a segment goes by its stable bytes and whether it may be lost
pub left_by : (took : Bool) (fate : Fate) (listed : Option (Option (List ℕ)))
    → segment_left took (fate_by fate.stable fate.lost) listed ≡ segment_left took fate listed
left_by took fate None = refl
left_by took fate (Some None) = refl
left_by took fate (Some (Some tail)) = refl

stable_front : (read stable all : Option (List ℕ)) → Sound read stable all → front_of read (option_map length stable) ≡ stable
stable_front None None all s = refl
stable_front None (Some stable) all s = absurd s
stable_front (Some read) None all s = refl
stable_front (Some read) (Some stable) None s = absurd s
stable_front (Some read) (Some stable) (Some all) s = ap Some (ap (take (length stable)) s.0.1 ∙ take-append_seam stable s.0.0)

-- stable is a front of what a read gives
pub stable_is : (start : Files) (acts : List Act) (q : ℕ)
    → front_of (get (applied start acts).segments q) (option_map length (fate_of start acts q).stable) ≡ (fate_of start acts q).stable
stable_is start acts q =
    let fate = fate_of start acts q in
    ap (λ o. front_of o (option_map length fate.stable)) (sym (fate_read start acts q))
    ∙ stable_front fate.read fate.stable fate.all (sound_fate start acts q)

-- ---- all segments

-- one more number, of which something is left, and one of which nothing is
module _ (f : ℕ → Option (List ℕ)) (ks : List ℕ) (k : ℕ) where
  abbrev at : Bool → ℕ → Option (List ℕ)
  at b q = if b then f q else None

  one_more : (q : ℕ) → list_any (nat_eq q) (ks ++ k ∷ []) ≡ (list_any (nat_eq q) ks || nat_eq q k)
  one_more q = list_any-append (nat_eq q) ks (k ∷ []) ∙ ap (λ b. list_any (nat_eq q) ks || b) (or_false (nat_eq q k))

  put_case : (q : ℕ) (v : List ℕ) (b c : Bool) → nat_eq q k ≡ b → f k ≡ Some v → (if b then Some v else at c q) ≡ at (c || b) q
  put_case q v true true is e = sym (ap f (same_number q k is) ∙ e)
  put_case q v true false is e = sym (ap f (same_number q k is) ∙ e)
  put_case q v false true is e = refl
  put_case q v false false is e = refl

  put_more : (m : FinMap nat_cmp (List ℕ)) (v : List ℕ) → f k ≡ Some v → ((q : ℕ) → get m q ≡ (if list_any (nat_eq q) ks then f q else None))
      → (q : ℕ) → get (insert m k v) q ≡ (if list_any (nat_eq q) (ks ++ k ∷ []) then f q else None)
  put_more m v e so q =
      get-put m k v q ∙ (ap (λ o. if nat_eq q k then Some v else o) (so q)
      ∙ (put_case q v (nat_eq q k) (list_any (nat_eq q) ks) refl e ∙ ap (λ b. at b q) (sym (one_more q))))

  skip_case : (q : ℕ) (b c : Bool) → nat_eq q k ≡ b → f k ≡ None → at c q ≡ at (c || b) q
  skip_case q true true is e = refl
  skip_case q true false is e = sym (ap f (same_number q k is) ∙ e)
  skip_case q false true is e = refl
  skip_case q false false is e = refl

  skip_more : (m : FinMap nat_cmp (List ℕ)) → f k ≡ None → ((q : ℕ) → get m q ≡ (if list_any (nat_eq q) ks then f q else None))
      → (q : ℕ) → get m q ≡ (if list_any (nat_eq q) (ks ++ k ∷ []) then f q else None)
  skip_more m e so q = so q ∙ (skip_case q (nat_eq q k) (list_any (nat_eq q) ks) refl e ∙ ap (λ b. at b q) (sym (one_more q)))

pub left_more : (f : ℕ → Option (List ℕ)) (ks : List ℕ) (k : ℕ) (files : Files) (o : Option (List ℕ)) → o ≡ f k
    → ((q : ℕ) → get files.segments q ≡ (if list_any (nat_eq q) ks then f q else None))
    → (q : ℕ) → get (with_left files k o).segments q ≡ (if list_any (nat_eq q) (ks ++ k ∷ []) then f q else None)
left_more f ks k files None e so = skip_more f ks k files.segments (sym e) so
left_more f ks k files (Some v) e so = put_more f ks k files.segments v (sym e) so

unread : (read stable all : Option (List ℕ)) → Sound read stable all → read ≡ None → stable ≡ None
unread None None all s e = refl
unread None (Some stable) all s e = absurd s
unread (Some read) stable all s e = absurd (let no : ⊥ = cc in no)

none_left : (b : Bool) → ◌≡◌ {A = Option (List ℕ)} (if b then None else None) None
none_left true = refl
none_left false = refl

-- nothing is left of a segment that a read doesn't give and that isn't listed
outside_read : (choice : Choice) (start : Files) (acts : List Act) (q : ℕ)
    → list_any (nat_eq q) (keys (applied start acts).segments ++ map (λ t. t.0) choice.tails.items) ≡ false → left_at choice start acts q ≡ None
outside_read choice start acts q e =
    let fate = fate_of start acts q in
    let both : (list_any (nat_eq q) (keys (applied start acts).segments) ≡ false) × (list_any (nat_eq q) (map (λ t. t.0) choice.tails.items) ≡ false) =
    neither _ _ (sym (list_any-append (nat_eq q) (keys (applied start acts).segments) (map (λ t. t.0) choice.tails.items)) ∙ e) in
    let stable : fate.stable ≡ None =
    unread fate.read fate.stable fate.all (sound_fate start acts q) (fate_read start acts q ∙ not_there (applied start acts) q both.0) in
    ap (λ o. segment_left choice.took fate (option_map (λ tail. option_map (λ v. v.items) tail) o)) (not_listed q choice.tails.items both.1)
    ∙ (ap (λ o. if choice.took && fate.lost then None else o) stable ∙ none_left (choice.took && fate.lost))

by_number : (b : Bool) (o : Option (List ℕ)) → (b ≡ false → o ≡ None) → (if b then o else None) ≡ o
by_number true o none = refl
by_number false o none = sym (none refl)

pub none_yet : (m : FinMap nat_cmp (List ℕ)) → m ≡ empty → (q : ℕ) → get m q ≡ None
none_yet m e q = ap (λ m. get m q) e ∙ get-empty nat_cmp q

pub all_left : (choice : Choice) (start : Files) (acts : List Act) (numbers : List ℕ) (m : FinMap nat_cmp (List ℕ))
    → numbers ≡ keys (applied start acts).segments ++ map (λ t. t.0) choice.tails.items
    → ((q : ℕ) → get m q ≡ (if list_any (nat_eq q) numbers then left_at choice start acts q else None))
    → (q : ℕ) → get m q ≡ left_at choice start acts q
all_left choice start acts numbers m is so q =
    so q ∙ by_number (list_any (nat_eq q) numbers) (left_at choice start acts q)
    (λ e. outside_read choice start acts q (ap (list_any (nat_eq q)) (sym is) ∙ e))

-- ---- the files

pub before_settle : (choice : Choice) (start image : Files) (acts : List Act) → settled acts ≡ false → image ≡ start → Chooses choice start acts image
before_settle choice start image acts s e = record { before = λ z. e; after = λ z. absurd (let no : ⊥ = cc in no) }

pub after_settle : (choice : Choice) (start image : Files) (acts : List Act) → settled acts ≡ true → ChoosesFiles choice start acts image
    → Chooses choice start acts image
after_settle choice start image acts s c = record { before = λ z. absurd (let no : ⊥ = cc in no); after = λ z. c }
