-- Lemmas on specs/Image.antt: what a read gives is the fate's, what is read and what is stable may be left.
use Rattle.std.proofs.Common.{◌≡◌, ℕ, ◌≤◌, Bool, true, false, ◌&&◌, ◌||◌, ◌↔◌, inl, if◌then◌else◌, nat_eq, List, [], ◌∷◌, ◌++◌, length, fold}
use Rattle.std.proofs.Common.{Option, Some, None, unwrap_or, refl, sym, ◌∙◌, ap, subst, arith, length-append, append_assoc}
use Rattle.std.proofs.lemmas.List.{append-nil}
use Rattle.std.proofs.lemmas.List.Folds.{fold_along, list_any-append}
use Rattle.std.proofs.lemmas.List.Sums.{fold_push}
use Rattle.std.specs.Ordering.{nat_cmp}
use Rattle.std.specs.Cmp.{nat_cmp_total, unsigned_ties}
use Rattle.std.specs.FinMap.{FinMap, get, insert, remove, get-insert, get-remove}
use Rattle.ferry_disk.specs.Act.{Step, AppendTo, SyncOf, RemoveOf, ReplaceBy, SettleAll, TellOf, Act, replaced, stepped, after_act, applied}
use Rattle.ferry_disk.specs.Files.{Files, file_at, segment_bytes}
use Rattle.ferry_disk.specs.Image.{PlainFate, plain_of, plain_after, plain_stepped}
use Rattle.ferry_disk.specs.Image.{Fate, at_rest, fate_appended, fate_synced, fate_removed, fate_settled, fate_stepped, fate_after, fate_of}
use Rattle.ferry_disk.specs.Image.{MayLeave, is_settle, settled, Leaves, IsImage}
use Rattle.ferry_disk.specs.declared.name.Name.{Name}
use Rattle.ferry_disk.specs.declared.name.Name.TheVariants.{Config, Nonce, Readme, Segment}
use Rattle.ferry_disk.proofs.FilesLemmas.{same_number}

-- ---- one more act

pub fate_of-push : (start : Files) (acts : List Act) (act : Act) (n : ℕ) → fate_of start (acts ++ act ∷ []) n ≡ fate_after n (fate_of start acts n) act
unfolding fate_of
fate_of-push start acts act n = fold_push (fate_after n) (at_rest (get start.segments n)) acts act

pub plain_of-push : (file : Option (List ℕ)) (acts : List Act) (act : Act) (name : Name)
    → plain_of file (acts ++ act ∷ []) name ≡ plain_after name (plain_of file acts name) act
unfolding plain_of
plain_of-push file acts act name = fold_push (plain_after name) (record { read = file; perhaps = None }) acts act

pub or_false : (b : Bool) → (b || false) ≡ b
or_false true = refl
or_false false = refl

pub settled-push : (acts : List Act) (act : Act) → settled (acts ++ act ∷ []) ≡ (settled acts || (act.done && is_settle act.step))
settled-push acts act =
    list_any-append (λ act. act.done && is_settle act.step) acts (act ∷ [])
    ∙ ap (λ b. settled acts || b) (or_false (act.done && is_settle act.step))

pub applied-push : (start : Files) (acts : List Act) (act : Act) → applied start (acts ++ act ∷ []) ≡ after_act (applied start acts) act
applied-push start acts act = fold_push after_act start acts act

-- ---- maps, by the numbers of segments

pub get-put : {X : Type 0} (m : FinMap nat_cmp X) (k : ℕ) (v : X) (q : ℕ) → get (insert m k v) q ≡ (if nat_eq q k then Some v else get m q)
get-put m k v q = get-insert nat_cmp_total m k v q ∙ ap (λ b. if b then Some v else get m q) (sym (unsigned_ties q k))

pub get-cut : {X : Type 0} (m : FinMap nat_cmp X) (k q : ℕ) → get (remove m k) q ≡ (if nat_eq q k then None else get m q)
get-cut m k q = get-remove nat_cmp_total m k q ∙ ap (λ b. if b then None else get m q) (sym (unsigned_ties q k))

-- ---- what a read gives

read_appended : (files : Files) (fate : Fate) (n k : ℕ) (bytes : List ℕ) (b : Bool) → (b ≡ true → n ≡ k) → fate.read ≡ get files.segments n
    → (if b then fate_appended bytes true fate else fate).read ≡ (if b then Some (segment_bytes files k ++ bytes) else get files.segments n)
read_appended files fate n k bytes true same e = ap (λ o. Some (unwrap_or o [] ++ bytes)) (e ∙ ap (get files.segments) (same refl))
read_appended files fate n k bytes false same e = e

read_removed : (fate : Fate) (o : Option (List ℕ)) (b : Bool) → fate.read ≡ o → (if b then fate_removed true fate else fate).read ≡ (if b then None else o)
read_removed fate o true e = refl
read_removed fate o false e = e

read_kept : (fate changed : Fate) (b : Bool) → changed.read ≡ fate.read → (if b then changed else fate).read ≡ fate.read
read_kept fate changed true e = e
read_kept fate changed false e = refl

read_settled : (fate : Fate) (done : Bool) → (fate_settled done fate).read ≡ fate.read
read_settled fate true = refl
read_settled fate false = refl

read_replaced : (files : Files) (name : Name) (bytes : List ℕ) (n : ℕ) → get (replaced files name bytes).segments n ≡ get files.segments n
read_replaced files Config bytes n = refl
read_replaced files Nonce bytes n = refl
read_replaced files Readme bytes n = refl
read_replaced files (Segment k) bytes n = refl

read_stepped : (n : ℕ) (step : Step) (done : Bool) (fate : Fate) (files : Files) → fate.read ≡ get files.segments n
    → (fate_stepped n step done fate).read ≡ get (if done then stepped files step else files).segments n
read_stepped n (AppendTo k bytes) true fate files e =
    read_appended files fate n k bytes (nat_eq n k) (same_number n k) e ∙ sym (get-put files.segments k (segment_bytes files k ++ bytes) n)
read_stepped n (AppendTo k bytes) false fate files e = read_kept fate (fate_appended bytes false fate) (nat_eq n k) refl ∙ e
read_stepped n (SyncOf k) true fate files e = read_kept fate (fate_synced true fate) (nat_eq n k) refl ∙ e
read_stepped n (SyncOf k) false fate files e = read_kept fate (fate_synced false fate) (nat_eq n k) refl ∙ e
read_stepped n (RemoveOf k) true fate files e =
    read_removed fate (get files.segments n) (nat_eq n k) e ∙ sym (get-cut files.segments k n)
read_stepped n (RemoveOf k) false fate files e = read_kept fate (fate_removed false fate) (nat_eq n k) refl ∙ e
read_stepped n (ReplaceBy name bytes) true fate files e = e ∙ sym (read_replaced files name bytes n)
read_stepped n (ReplaceBy name bytes) false fate files e = e
read_stepped n SettleAll true fate files e = e
read_stepped n SettleAll false fate files e = e
read_stepped n (TellOf line) true fate files e = e
read_stepped n (TellOf line) false fate files e = e

-- what a read gives of a segment is the fate's
pub fate_read : (start : Files) (acts : List Act) (n : ℕ) → (fate_of start acts n).read ≡ get (applied start acts).segments n
unfolding fate_of
fate_read start acts n =
    fold_along (fate_after n) after_act (λ fate files. fate.read ≡ get files.segments n)
    (λ fate files act e. read_stepped n act.step act.done fate files e) (at_rest (get start.segments n)) start acts refl

plain_read_stepped : (name : Name) (step : Step) (done : Bool) (fate : PlainFate) (files : Files) → (file_at files name ≡ fate.read)
    → (number : (k : ℕ) → name ≡ Segment k → ⊥)
    → file_at (if done then stepped files step else files) name ≡ (plain_stepped name step done fate).read
plain_read_stepped (Segment k) step done fate files e number = absurd (number k refl)
plain_read_stepped Config (ReplaceBy Config bytes) true fate files e number = refl
plain_read_stepped Config (ReplaceBy Config bytes) false fate files e number = e
plain_read_stepped Config (ReplaceBy Nonce bytes) true fate files e number = e
plain_read_stepped Config (ReplaceBy Nonce bytes) false fate files e number = e
plain_read_stepped Config (ReplaceBy Readme bytes) true fate files e number = e
plain_read_stepped Config (ReplaceBy Readme bytes) false fate files e number = e
plain_read_stepped Nonce (ReplaceBy Config bytes) true fate files e number = e
plain_read_stepped Nonce (ReplaceBy Config bytes) false fate files e number = e
plain_read_stepped Nonce (ReplaceBy Nonce bytes) true fate files e number = refl
plain_read_stepped Nonce (ReplaceBy Nonce bytes) false fate files e number = e
plain_read_stepped Nonce (ReplaceBy Readme bytes) true fate files e number = e
plain_read_stepped Nonce (ReplaceBy Readme bytes) false fate files e number = e
plain_read_stepped Readme (ReplaceBy Config bytes) true fate files e number = e
plain_read_stepped Readme (ReplaceBy Config bytes) false fate files e number = e
plain_read_stepped Readme (ReplaceBy Nonce bytes) true fate files e number = e
plain_read_stepped Readme (ReplaceBy Nonce bytes) false fate files e number = e
plain_read_stepped Readme (ReplaceBy Readme bytes) true fate files e number = refl
plain_read_stepped Readme (ReplaceBy Readme bytes) false fate files e number = e
plain_read_stepped Config (ReplaceBy (Segment k) bytes) true fate files e number = e
plain_read_stepped Config (ReplaceBy (Segment k) bytes) false fate files e number = e
plain_read_stepped Nonce (ReplaceBy (Segment k) bytes) true fate files e number = e
plain_read_stepped Nonce (ReplaceBy (Segment k) bytes) false fate files e number = e
plain_read_stepped Readme (ReplaceBy (Segment k) bytes) true fate files e number = e
plain_read_stepped Readme (ReplaceBy (Segment k) bytes) false fate files e number = e
plain_read_stepped Config (AppendTo k bytes) true fate files e number = e
plain_read_stepped Config (AppendTo k bytes) false fate files e number = e
plain_read_stepped Nonce (AppendTo k bytes) true fate files e number = e
plain_read_stepped Nonce (AppendTo k bytes) false fate files e number = e
plain_read_stepped Readme (AppendTo k bytes) true fate files e number = e
plain_read_stepped Readme (AppendTo k bytes) false fate files e number = e
plain_read_stepped Config (RemoveOf k) true fate files e number = e
plain_read_stepped Config (RemoveOf k) false fate files e number = e
plain_read_stepped Nonce (RemoveOf k) true fate files e number = e
plain_read_stepped Nonce (RemoveOf k) false fate files e number = e
plain_read_stepped Readme (RemoveOf k) true fate files e number = e
plain_read_stepped Readme (RemoveOf k) false fate files e number = e
plain_read_stepped name (SyncOf k) true fate files e number = e
plain_read_stepped name (SyncOf k) false fate files e number = e
plain_read_stepped name SettleAll true fate files e number = e
plain_read_stepped name SettleAll false fate files e number = e
plain_read_stepped name (TellOf line) true fate files e number = e
plain_read_stepped name (TellOf line) false fate files e number = e

-- what a read gives of another file is that one's
pub plain_read : (start : Files) (acts : List Act) (name : Name) → ((k : ℕ) → name ≡ Segment k → ⊥)
    → file_at (applied start acts) name ≡ (plain_of (file_at start name) acts name).read
unfolding plain_of
plain_read start acts name number =
    fold_along after_act (plain_after name) (λ files fate. file_at files name ≡ fate.read)
    (λ files fate act e. plain_read_stepped name act.step act.done fate files e number) start (record { read = file_at start name; perhaps = None }) acts refl

-- ---- what is read, and what is stable, may be left

-- what a read gives begins with what is stable, and is no longer than all
abbrev pub Sound : Option (List ℕ) → Option (List ℕ) → Option (List ℕ) → Type 0
Sound None None all = Unit {0}
Sound None (Some stable) all = ⊥
Sound (Some read) stable None = ⊥
Sound (Some read) stable (Some all) = ((more : List ℕ) × (read ≡ unwrap_or stable [] ++ more)) × (length read ≤ length all)

abbrev pub IsSound : Fate → Type 0
IsSound fate = Sound fate.read fate.stable fate.all

sound_rest : (bytes : Option (List ℕ)) → IsSound (at_rest bytes)
sound_rest None = tt
sound_rest (Some bytes) = (([], sym (append-nil bytes)), omega arith)

sound_appended : (bytes : List ℕ) (done : Bool) (read stable all : Option (List ℕ)) → Sound read stable all
    → Sound (if done then Some (unwrap_or read [] ++ bytes) else read) stable (Some (unwrap_or all [] ++ bytes))
sound_appended bytes true None None all s = ((bytes, refl), omega (arith, length-append (unwrap_or all []) bytes))
sound_appended bytes true None (Some stable) all s = absurd s
sound_appended bytes true (Some read) stable None s = absurd s
sound_appended bytes true (Some read) stable (Some all) s = (
  (s.0.0 ++ bytes, ap (λ r. r ++ bytes) s.0.1 ∙ append_assoc (unwrap_or stable []) s.0.0 bytes),
  omega (arith, s.1, length-append read bytes, length-append all bytes),
)
sound_appended bytes false None None all s = tt
sound_appended bytes false None (Some stable) all s = absurd s
sound_appended bytes false (Some read) stable None s = absurd s
sound_appended bytes false (Some read) stable (Some all) s = (s.0, omega (arith, s.1, length-append all bytes))

sound_synced : (done : Bool) (read stable all : Option (List ℕ)) → Sound read stable all → Sound read (if done then read else stable) all
sound_synced true None stable all s = tt
sound_synced true (Some read) stable None s = absurd s
sound_synced true (Some read) stable (Some all) s = (([], sym (append-nil read)), s.1)
sound_synced false read stable all s = s

sound_removed : (done : Bool) (fate : Fate) → IsSound fate → IsSound (fate_removed done fate)
sound_removed true fate s = tt
sound_removed false fate s = s

sound_settled : (done : Bool) (fate : Fate) → IsSound fate → IsSound (fate_settled done fate)
sound_settled true fate s = sound_rest fate.read
sound_settled false fate s = s

sound_one : (b : Bool) (changed fate : Fate) → IsSound changed → IsSound fate → IsSound (if b then changed else fate)
sound_one true changed fate t s = t
sound_one false changed fate t s = s

sound_stepped : (n : ℕ) (step : Step) (done : Bool) (fate : Fate) → IsSound fate → IsSound (fate_stepped n step done fate)
sound_stepped n (AppendTo k bytes) done fate s = sound_one (nat_eq n k) _ fate (sound_appended bytes done fate.read fate.stable fate.all s) s
sound_stepped n (SyncOf k) done fate s = sound_one (nat_eq n k) _ fate (sound_synced done fate.read fate.stable fate.all s) s
sound_stepped n (RemoveOf k) done fate s = sound_one (nat_eq n k) _ fate (sound_removed done fate s) s
sound_stepped n (ReplaceBy name bytes) done fate s = s
sound_stepped n SettleAll done fate s = sound_settled done fate s
sound_stepped n (TellOf line) done fate s = s

pub sound_fate : (start : Files) (acts : List Act) (n : ℕ) → IsSound (fate_of start acts n)
unfolding fate_of
sound_fate start acts n = folded (at_rest (get start.segments n)) acts (sound_rest (get start.segments n)) where
  folded : (fate : Fate) (acts : List Act) → IsSound fate → IsSound (fold (fate_after n) fate acts)
  folded fate [] s = s
  folded fate (act ∷ acts) s = folded (fate_after n fate act) acts (sound_stepped n act.step act.done fate s)

may_read : (read stable all : Option (List ℕ)) (lost : Bool) → Sound read stable all
    → MayLeave (record { read = read; stable = stable; all = all; lost = lost }) read
may_read None None all lost s = inl refl
may_read None (Some stable) all lost s = absurd s
may_read (Some read) stable None lost s = absurd s
may_read (Some read) stable (Some all) lost s = record { tail = s.0.0; stable_first = s.0.1; all = all; made = refl; within = s.1 }

may_stable : (read stable all : Option (List ℕ)) (lost : Bool) → Sound read stable all
    → MayLeave (record { read = read; stable = stable; all = all; lost = lost }) stable
may_stable read None all lost s = inl refl
may_stable None (Some stable) all lost s = absurd s
may_stable (Some read) (Some stable) None lost s = absurd s
may_stable (Some read) (Some stable) (Some all) lost s = record {
  tail = [];
  stable_first = sym (append-nil stable);
  all = all;
  made = refl;
  within = omega (arith, s.1, length-append stable s.0.0, ap length s.0.1);
}

pub read_may_be_left : (fate : Fate) → IsSound fate → MayLeave fate fate.read
read_may_be_left fate s = may_read fate.read fate.stable fate.all fate.lost s

pub stable_may_be_left : (fate : Fate) → IsSound fate → MayLeave fate fate.stable
stable_may_be_left fate s = may_stable fate.read fate.stable fate.all fate.lost s

-- ---- what a read gives is an image, and images are there

pub config_plain : (k : ℕ) → Config ≡ Segment k → ⊥
config_plain k e = cc

pub nonce_plain : (k : ℕ) → Nonce ≡ Segment k → ⊥
nonce_plain k e = cc

pub readme_plain : (k : ℕ) → Readme ≡ Segment k → ⊥
readme_plain k e = cc

pub read_leaves : (start : Files) (acts : List Act) → Leaves start acts (applied start acts)
read_leaves start acts = record {
  config = inl (plain_read start acts Config config_plain);
  nonce = inl (plain_read start acts Nonce nonce_plain);
  readme = inl (plain_read start acts Readme readme_plain);
  segments = λ n. subst (MayLeave (fate_of start acts n)) (fate_read start acts n) (read_may_be_left (fate_of start acts n) (sound_fate start acts n));
}

pub image_of : (start : Files) (acts : List Act) (image : Files) → settled acts ≡ true → Leaves start acts image → IsImage start acts image
image_of start acts image s l = record { before = λ e. absurd (let no : ⊥ = cc in no); after = λ e. l }

pub read_is_image : (start : Files) (acts : List Act) → settled acts ≡ true → IsImage start acts (applied start acts)
read_is_image start acts s = image_of start acts (applied start acts) s (read_leaves start acts)

pub start_is_image : (start : Files) (acts : List Act) → settled acts ≡ false → IsImage start acts start
start_is_image start acts s = record { before = λ e. refl; after = λ e. absurd (let no : ⊥ = cc in no) }

pub unsettled_image : (start : Files) (acts : List Act) (image : Files) → settled acts ≡ false → IsImage start acts image ↔ (image ≡ start)
unsettled_image start acts image s =
    ((λ i. i.before s), (λ e. record { before = λ z. e; after = λ z. absurd (let no : ⊥ = cc in no) }))

pub some_image : (start : Files) (acts : List Act) → (image : Files) × IsImage start acts image
some_image start acts = by_settled (settled acts) refl where
  by_settled : (b : Bool) → settled acts ≡ b → (image : Files) × IsImage start acts image
  by_settled true s = (applied start acts, read_is_image start acts s)
  by_settled false s = (start, start_is_image start acts s)
