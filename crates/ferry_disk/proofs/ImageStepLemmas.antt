-- Lemmas on specs/ImageSteps.antt: the images of one more act.
use Rattle.std.proofs.Common.{◌≡◌, ℕ, ◌+◌, ◌-◌, ◌≤◌, Bool, true, false, ◌&&◌, ◌||◌, ◌⊎◌, ◌↔◌, inl, inr, if◌then◌else◌, nat_eq}
use Rattle.std.proofs.Common.{List, [], ◌∷◌, ◌++◌, length, take, drop}
use Rattle.std.proofs.Common.{Option, Some, None, unwrap_or, refl, sym, ◌∙◌, ap, subst, arith, length-append, append_assoc, length-drop}
use Rattle.std.proofs.lemmas.List.{append-nil, length-take, take-append-drop}
use Rattle.std.proofs.Math.Seq.{take-append-add}
use Rattle.std.specs.Cmp.{nat_cmp_total, nat_eq_equiv}
use Rattle.std.specs.FinMap.{get, same_map, nat_cmp-IsAntisymmetric}
use Rattle.ferry_disk.specs.Act.{AppendTo, SyncOf, RemoveOf, SettleAll, TellOf, Act, applied}
use Rattle.ferry_disk.specs.Files.{Files, with_file, without_segment, segment_bytes}
use Rattle.ferry_disk.specs.Image.{PlainFate, plain_of, plain_after, MayStand}
use Rattle.ferry_disk.specs.Image.{Fate, at_rest, fate_appended, fate_synced, fate_removed, fate_after, fate_of}
use Rattle.ferry_disk.specs.Image.{MayLeave, is_settle, settled, Leaves, IsImage}
use Rattle.ferry_disk.specs.ImageSteps.{IsLonger, Appends, HasRead, Syncs, Removes}
use Rattle.ferry_disk.specs.declared.name.Name.{Name}
use Rattle.ferry_disk.specs.declared.name.Name.TheVariants.{Config, Nonce, Readme, Segment}
use Rattle.ferry_disk.proofs.FilesLemmas.{same_number}
use Rattle.ferry_disk.proofs.ImageLemmas.{or_false, fate_of-push, plain_of-push, settled-push, applied-push, get-put, get-cut, fate_read, plain_read}
use Rattle.ferry_disk.proofs.ImageLemmas.{Sound, sound_fate, read_may_be_left, image_of, read_leaves, config_plain, nonce_plain, readme_plain}

-- ---- files with one segment changed

abbrev pub with_segment : Files → ℕ → Option (List ℕ) → Files
with_segment files n None = without_segment files n
with_segment files n (Some bytes) = with_file files (Segment n) bytes

pub get-with : (files : Files) (n : ℕ) (x : Option (List ℕ)) (q : ℕ)
    → get (with_segment files n x).segments q ≡ (if nat_eq q n then x else get files.segments q)
get-with files n None q = get-cut files.segments n q
get-with files n (Some bytes) q = get-put files.segments n bytes q

config-with : (files : Files) (n : ℕ) (x : Option (List ℕ)) → (with_segment files n x).config ≡ files.config
config-with files n None = refl
config-with files n (Some bytes) = refl

nonce-with : (files : Files) (n : ℕ) (x : Option (List ℕ)) → (with_segment files n x).nonce ≡ files.nonce
nonce-with files n None = refl
nonce-with files n (Some bytes) = refl

readme-with : (files : Files) (n : ℕ) (x : Option (List ℕ)) → (with_segment files n x).readme ≡ files.readme
readme-with files n None = refl
readme-with files n (Some bytes) = refl

-- files that are the same at each place
pub same_files : (a b : Files) → a.config ≡ b.config → a.nonce ≡ b.nonce → a.readme ≡ b.readme → ((q : ℕ) → get a.segments q ≡ get b.segments q) → a ≡ b
same_files a b c n r s =
    let segments : a.segments ≡ b.segments = same_map nat_cmp_total nat_cmp-IsAntisymmetric a.segments b.segments s in
    λ i. record { config = c i; nonce = n i; readme = r i; segments = segments i }

other : (b : Bool) (x y z w : Option (List ℕ)) → w ≡ (if b then x else z) → (if b then y else w) ≡ (if b then y else z)
other true x y z w e = refl
other false x y z w e = e

-- the later of two changes counts
pub with_twice : (files : Files) (n : ℕ) (x y : Option (List ℕ)) → with_segment (with_segment files n x) n y ≡ with_segment files n y
with_twice files n x y =
    let first = with_segment files n x in
    same_files (with_segment first n y) (with_segment files n y)
    (config-with first n y ∙ (config-with files n x ∙ sym (config-with files n y)))
    (nonce-with first n y ∙ (nonce-with files n x ∙ sym (nonce-with files n y)))
    (readme-with first n y ∙ (readme-with files n x ∙ sym (readme-with files n y)))
    (λ q. get-with first n y q ∙ (other (nat_eq q n) x y (get files.segments q) (get first.segments q) (get-with files n x q) ∙ sym (get-with files n y q)))

own : (files : Files) (n q : ℕ) (b : Bool) → nat_eq q n ≡ b → (if b then get files.segments n else get files.segments q) ≡ get files.segments q
own files n q true e = ap (get files.segments) (sym (same_number q n e))
own files n q false e = refl

-- a segment put where it is changes nothing
pub with_own : (files : Files) (n : ℕ) → with_segment files n (get files.segments n) ≡ files
with_own files n =
    let x = get files.segments n in
    same_files (with_segment files n x) files (config-with files n x) (nonce-with files n x) (readme-with files n x)
    (λ q. get-with files n x q ∙ own files n q (nat_eq q n) refl)

at_own : (files : Files) (n : ℕ) (x : Option (List ℕ)) → get (with_segment files n x).segments n ≡ x
at_own files n x = get-with files n x n ∙ ap (λ b. if b then x else get files.segments n) (nat_eq_equiv.refl n)

-- ---- fates of each file, and of one that changed

-- each file is what these fates may leave
pub record LeftBy (config nonce readme : PlainFate) (fates : ℕ → Fate) (image : Files) : Type 0 where
  pub config_stands : MayStand config image.config
  pub nonce_stands : MayStand nonce image.nonce
  pub readme_stands : MayStand readme image.readme
  pub each : (n : ℕ) → MayLeave (fates n) (get image.segments n)

-- the plain files after these acts, and these fates of segments
abbrev pub LeftIn : Files → List Act → (ℕ → Fate) → Files → Type 0
LeftIn start acts fates image =
    LeftBy (plain_of start.config acts Config) (plain_of start.nonce acts Nonce) (plain_of start.readme acts Readme) fates image

left_by : (start : Files) (acts : List Act) (image : Files) → Leaves start acts image
    → LeftIn start acts (fate_of start acts) image
left_by start acts image l = record { config_stands = l.config; nonce_stands = l.nonce; readme_stands = l.readme; each = l.segments }

-- the fates after one more act
abbrev pub LeftAfter : Files → List Act → Act → Files → Type 0
LeftAfter start acts act image =
    LeftBy (plain_after Config (plain_of start.config acts Config) act) (plain_after Nonce (plain_of start.nonce acts Nonce) act)
    (plain_after Readme (plain_of start.readme acts Readme) act) (λ n. fate_after n (fate_of start acts n) act) image

after_leaves : (start : Files) (acts : List Act) (act : Act) (image : Files) → Leaves start (acts ++ act ∷ []) image → LeftAfter start acts act image
after_leaves start acts act image l = record {
  config_stands = subst (λ f. MayStand f image.config) (plain_of-push start.config acts act Config) l.config;
  nonce_stands = subst (λ f. MayStand f image.nonce) (plain_of-push start.nonce acts act Nonce) l.nonce;
  readme_stands = subst (λ f. MayStand f image.readme) (plain_of-push start.readme acts act Readme) l.readme;
  each = λ n. subst (λ f. MayLeave f (get image.segments n)) (fate_of-push start acts act n) (l.segments n);
}

leaves_after : (start : Files) (acts : List Act) (act : Act) (image : Files) → LeftAfter start acts act image → Leaves start (acts ++ act ∷ []) image
leaves_after start acts act image l = record {
  config = subst (λ f. MayStand f image.config) (sym (plain_of-push start.config acts act Config)) l.config_stands;
  nonce = subst (λ f. MayStand f image.nonce) (sym (plain_of-push start.nonce acts act Nonce)) l.nonce_stands;
  readme = subst (λ f. MayStand f image.readme) (sym (plain_of-push start.readme acts act Readme)) l.readme_stands;
  segments = λ n. subst (λ f. MayLeave f (get image.segments n)) (sym (fate_of-push start acts act n)) (l.each n);
}

module _ (start : Files) (acts : List Act) (F G : ℕ → Fate) (k : ℕ) (same : (q : ℕ) → nat_eq q k ≡ false → G q ≡ F q) (image : Files) where
  at : (x : Option (List ℕ)) → ((q : ℕ) → MayLeave (F q) (get image.segments q)) → MayLeave (G k) x → (q : ℕ) (b : Bool) → nat_eq q k ≡ b
      → MayLeave (G q) (if b then x else get image.segments q)
  at x l m q true e = subst (λ p. MayLeave (G p) x) (sym (same_number q k e)) m
  at x l m q false e = subst (λ f. MayLeave f (get image.segments q)) (sym (same q e)) (l q)

  -- another fate of one segment, and what that may leave of it
  pub moved : (x : Option (List ℕ)) → LeftIn start acts F image → MayLeave (G k) x → LeftIn start acts G (with_segment image k x)
  moved x l m = record {
    config_stands = subst (MayStand (plain_of start.config acts Config)) (sym (config-with image k x)) l.config_stands;
    nonce_stands = subst (MayStand (plain_of start.nonce acts Nonce)) (sym (nonce-with image k x)) l.nonce_stands;
    readme_stands = subst (MayStand (plain_of start.readme acts Readme)) (sym (readme-with image k x)) l.readme_stands;
    each = λ q. subst (MayLeave (G q)) (sym (get-with image k x q)) (at x l.each m q (nat_eq q k) refl);
  }

  -- what the other fate may leave of it too
  pub moved_same : LeftIn start acts F image → MayLeave (G k) (get image.segments k) → LeftIn start acts G image
  moved_same l m = subst (LeftIn start acts G) (with_own image k) (moved (get image.segments k) l m)

-- ---- settled

settled_more : (acts : List Act) (act : Act) → settled acts ≡ true → settled (acts ++ act ∷ []) ≡ true
settled_more acts act s = settled-push acts act ∙ ap (λ b. b || (act.done && is_settle act.step)) s

module _ (start : Files) (acts : List Act) (s : settled acts ≡ true) (act : Act) where
  -- an image after the act, as its fates leave it
  pub image_after : (image : Files) → IsImage start (acts ++ act ∷ []) image → LeftAfter start acts act image
  image_after image i = after_leaves start acts act image (i.after (settled_more acts act s))

  pub after_image : (image : Files) → LeftAfter start acts act image → IsImage start (acts ++ act ∷ []) image
  after_image image l = image_of start (acts ++ act ∷ []) image (settled_more acts act s) (leaves_after start acts act image l)

-- an image before it
module _ (start : Files) (acts : List Act) (s : settled acts ≡ true) where
  pub now_left : (image : Files) → IsImage start acts image → LeftIn start acts (fate_of start acts) image
  now_left image i = left_by start acts image (i.after s)

  pub left_now : (image : Files) → LeftIn start acts (fate_of start acts) image → IsImage start acts image
  left_now image l = image_of start acts image s (record { config = l.config_stands; nonce = l.nonce_stands; readme = l.readme_stands; segments = l.each })

-- ---- acts that change no image

module _ (start : Files) (acts : List Act) (act : Act) (plain : (name : Name) (f : PlainFate) → plain_after name f act ≡ f)
    (fates : (n : ℕ) (f : Fate) → fate_after n f act ≡ f) (idle : (act.done && is_settle act.step) ≡ false) (image : Files) where
  same_settled : settled (acts ++ act ∷ []) ≡ settled acts
  same_settled = settled-push acts act ∙ (ap (λ b. settled acts || b) idle ∙ or_false (settled acts))

  same_plain : (file : Option (List ℕ)) (name : Name) → plain_of file (acts ++ act ∷ []) name ≡ plain_of file acts name
  same_plain file name = plain_of-push file acts act name ∙ plain name (plain_of file acts name)

  same_fate : (n : ℕ) → fate_of start (acts ++ act ∷ []) n ≡ fate_of start acts n
  same_fate n = fate_of-push start acts act n ∙ fates n (fate_of start acts n)

  fewer : Leaves start (acts ++ act ∷ []) image → Leaves start acts image
  fewer l = record {
    config = subst (λ f. MayStand f image.config) (same_plain start.config Config) l.config;
    nonce = subst (λ f. MayStand f image.nonce) (same_plain start.nonce Nonce) l.nonce;
    readme = subst (λ f. MayStand f image.readme) (same_plain start.readme Readme) l.readme;
    segments = λ n. subst (λ f. MayLeave f (get image.segments n)) (same_fate n) (l.segments n);
  }

  more : Leaves start acts image → Leaves start (acts ++ act ∷ []) image
  more l = record {
    config = subst (λ f. MayStand f image.config) (sym (same_plain start.config Config)) l.config;
    nonce = subst (λ f. MayStand f image.nonce) (sym (same_plain start.nonce Nonce)) l.nonce;
    readme = subst (λ f. MayStand f image.readme) (sym (same_plain start.readme Readme)) l.readme;
    segments = λ n. subst (λ f. MayLeave f (get image.segments n)) (sym (same_fate n)) (l.segments n);
  }

  pub idle_step : IsImage start (acts ++ act ∷ []) image ↔ IsImage start acts image
  idle_step = (
    (λ i. record { before = λ z. i.before (same_settled ∙ z); after = λ z. fewer (i.after (same_settled ∙ z)) }),
    (λ i. record { before = λ z. i.before (sym same_settled ∙ z); after = λ z. more (i.after (sym same_settled ∙ z)) }),
  )

and_false : (b : Bool) → (b && false) ≡ false
and_false true = refl
and_false false = refl

pub tell_step : (start : Files) (acts : List Act) (line : List ℕ) (done : Bool) (image : Files)
    → IsImage start (acts ++ record { step = TellOf line; done = done } ∷ []) image ↔ IsImage start acts image
tell_step start acts line done image =
    idle_step start acts (record { step = TellOf line; done = done }) (λ name f. refl) (λ n f. refl) (and_false done) image

pub unsettled_settle_step : (start : Files) (acts : List Act) (image : Files)
    → IsImage start (acts ++ record { step = SettleAll; done = false } ∷ []) image ↔ IsImage start acts image
unsettled_settle_step start acts image =
    idle_step start acts (record { step = SettleAll; done = false }) (λ name f. refl) (λ n f. refl) refl image

same_either : (b : Bool) (f : Fate) → (if b then f else f) ≡ f
same_either true f = refl
same_either false f = refl

pub undone_sync_step : (start : Files) (acts : List Act) (n : ℕ) (image : Files)
    → IsImage start (acts ++ record { step = SyncOf n; done = false } ∷ []) image ↔ IsImage start acts image
undone_sync_step start acts n image =
    idle_step start acts (record { step = SyncOf n; done = false }) (λ name f. refl) (λ q f. same_either (nat_eq q n) f) refl image

-- ---- a Settle that is done

rest_only : (read left : Option (List ℕ)) → MayLeave (at_rest read) left → left ≡ read
rest_only None None m = refl
rest_only None (Some bytes) m = absurd (let e = m.made in let no : ⊥ = cc in no)
rest_only (Some read) None (inl e) = absurd (let no : ⊥ = cc in no)
rest_only (Some read) None (inr e) = absurd (let no : ⊥ = cc in no)
rest_only (Some read) (Some bytes) m = ap Some (no_more m.tail m.all m.stable_first (let e = m.made in cc) m.within) where
  no_more : (tail all : List ℕ) → bytes ≡ read ++ tail → all ≡ read → length bytes ≤ length all → bytes ≡ read
  no_more [] all e a w = e ∙ append-nil read
  no_more (x ∷ tail) all e a w = absurd (omega (arith, ap length e, ap length a, w, length-append read (x ∷ tail)))

pub stands_only : (read file : Option (List ℕ)) → MayStand (record { read = read; perhaps = None }) file → file ≡ read
stands_only read file (inl e) = e
stands_only read file (inr p) = absurd (let e = p.1 in let no : ⊥ = cc in no)

or_true : (b : Bool) → (b || true) ≡ true
or_true true = refl
or_true false = refl

abbrev done_settle : Act
done_settle = record { step = SettleAll; done = true }

now_settled : (acts : List Act) → settled (acts ++ done_settle ∷ []) ≡ true
now_settled acts = settled-push acts done_settle ∙ or_true (settled acts)

pub settle_step : (start : Files) (acts : List Act) (image : Files)
    → IsImage start (acts ++ record { step = SettleAll; done = true } ∷ []) image ↔ (image ≡ applied start acts)
settle_step start acts image = (
  (λ i.
      let l = after_leaves start acts done_settle image (i.after (now_settled acts)) in
      same_files image (applied start acts)
      (stands_only (plain_of start.config acts Config).read image.config l.config_stands ∙ sym (plain_read start acts Config config_plain))
      (stands_only (plain_of start.nonce acts Nonce).read image.nonce l.nonce_stands ∙ sym (plain_read start acts Nonce nonce_plain))
      (stands_only (plain_of start.readme acts Readme).read image.readme l.readme_stands ∙ sym (plain_read start acts Readme readme_plain))
      (λ n. rest_only (fate_of start acts n).read (get image.segments n) (l.each n) ∙ fate_read start acts n)),
  (λ e.
      let later = acts ++ done_settle ∷ [] in
      subst (IsImage start later) (applied-push start acts done_settle ∙ sym e)
      (image_of start later (applied start later) (now_settled acts) (read_leaves start later))),
)

-- ---- an Append

more_allowed : (bytes : List ℕ) (done : Bool) (f : Fate) (x : Option (List ℕ)) → MayLeave f x → MayLeave (fate_appended bytes done f) x
more_allowed bytes done f None m = m
more_allowed bytes done f (Some b) m = record {
  tail = m.tail;
  stable_first = m.stable_first;
  all = m.all ++ bytes;
  made = ap (λ o. Some (unwrap_or o [] ++ bytes)) m.made;
  within = omega (arith, m.within, length-append m.all bytes);
}

longer_allowed : (bytes : List ℕ) (done : Bool) (f : Fate) (x : Option (List ℕ)) (tail : List ℕ) → length tail ≤ length bytes → MayLeave f x
    → (x ≡ None → f.stable ≡ None) → MayLeave (fate_appended bytes done f) (Some (unwrap_or x [] ++ tail))
longer_allowed bytes done f None tail w m none = record {
  tail = tail;
  stable_first = ap (λ o. unwrap_or o [] ++ tail) (sym (none refl));
  all = unwrap_or f.all [] ++ bytes;
  made = refl;
  within = omega (arith, w, length-append (unwrap_or f.all []) bytes);
}
longer_allowed bytes done f (Some b) tail w m none = record {
  tail = m.tail ++ tail;
  stable_first = ap (λ k. k ++ tail) m.stable_first ∙ append_assoc (unwrap_or f.stable []) m.tail tail;
  all = m.all ++ bytes;
  made = ap (λ o. Some (unwrap_or o [] ++ bytes)) m.made;
  within = omega (arith, w, m.within, length-append m.all bytes, length-append b tail);
}

-- what an Append may leave of a segment is what was left before, or that with a tail
pub record Before (f : Fate) (most : ℕ) (y : Option (List ℕ)) : Type 0 where
  pub left : Option (List ℕ)
  pub may : MayLeave f left
  pub how : (y ≡ left) ⊎ ((tail : List ℕ) × (length tail ≤ most) × (left ≡ None → f.stable ≡ None) × (y ≡ Some (unwrap_or left [] ++ tail)))

before_append : (bytes : List ℕ) (done : Bool) (read stable all : Option (List ℕ)) (lost : Bool) (y : Option (List ℕ)) → Sound read stable all
    → MayLeave (fate_appended bytes done (record { read = read; stable = stable; all = all; lost = lost })) y
    → Before (record { read = read; stable = stable; all = all; lost = lost }) (length bytes) y
before_append bytes done read stable all lost None s m = record { left = None; may = m; how = inl refl }
before_append bytes done (Some read) stable None lost (Some b) s m = absurd s
before_append bytes done None (Some stable) all lost (Some b) s m = absurd s
before_append bytes done None None None lost (Some b) s m =
    let all : m.all ≡ bytes = (let e = m.made in cc) in
    record { left = None; may = inl refl; how = inr (b, omega (arith, m.within, ap length all), (λ e. refl), refl) }
before_append bytes done None None (Some all) lost (Some b) s m =
    let same : m.all ≡ all ++ bytes = (let e = m.made in cc) in
    record {
      left = Some (take (length all) b);
      may = record { tail = take (length all) b; stable_first = refl; all = all; made = refl; within = omega (arith, length-take (length all) b) };
      how = inr (
        drop (length all) b,
        omega (arith, m.within, ap length same, length-append all bytes, length-drop (length all) b),
        (λ e. refl),
        ap Some (sym (take-append-drop (length all) b)),
      );
    }
before_append bytes done (Some read) stable (Some all) lost (Some b) s m =
    let same : m.all ≡ all ++ bytes = (let e = m.made in cc) in
    let front = unwrap_or stable [] in
    let fits : length front + (length all - length front) ≡ length all = omega (arith, s.1, ap length s.0.1, length-append front s.0.0) in
    record {
      left = Some (take (length all) b);
      may = record {
        tail = take (length all - length front) m.tail;
        stable_first =
            ap (take (length all)) m.stable_first
            ∙ (ap (λ k. take k (front ++ m.tail)) (sym fits) ∙ take-append-add front m.tail (length all - length front));
        all = all;
        made = refl;
        within = omega (arith, length-take (length all) b);
      };
      how = inr (
        drop (length all) b,
        omega (arith, m.within, ap length same, length-append all bytes, length-drop (length all) b),
        (λ e. absurd (let no : ⊥ = cc in no)),
        ap Some (sym (take-append-drop (length all) b)),
      );
    }

module _ (start : Files) (acts : List Act) (s : settled acts ≡ true) (n : ℕ) (bytes : List ℕ) (done : Bool) (image : Files) where
  abbrev append_act : Act
  append_act = record { step = AppendTo n bytes; done = done }

  abbrev append_now : ℕ → Fate
  append_now = fate_of start acts

  abbrev append_later : ℕ → Fate
  append_later q = fate_after q (append_now q) append_act

  others : (q : ℕ) → nat_eq q n ≡ false → append_later q ≡ append_now q
  others q e = ap (λ b. if b then fate_appended bytes done (append_now q) else append_now q) e

  here : append_later n ≡ fate_appended bytes done (append_now n)
  here = ap (λ b. if b then fate_appended bytes done (append_now n) else append_now n) (nat_eq_equiv.refl n)

  append_from : IsImage start (acts ++ append_act ∷ []) image → Appends start acts n bytes image
  append_from i =
      let l = image_after start acts s append_act image i in
      let f = append_now n in
      let y = get image.segments n in
      let b : Before f (length bytes) y =
      before_append bytes done f.read f.stable f.all f.lost y (sound_fate start acts n) (subst (λ g. MayLeave g y) here (l.each n)) in
      let old = with_segment image n b.left in
      record {
        old = old;
        is_image = left_now start acts s old (moved start acts append_later append_now n (λ q e. sym (others q e)) image b.left l b.may);
        then_longer = how b b.how;
      } where
        how : (b : Before (append_now n) (length bytes) (get image.segments n))
            → (get image.segments n ≡ b.left) ⊎ ((tail : List ℕ) × (length tail ≤ length bytes) × (b.left ≡ None → (append_now n).stable ≡ None)
            × (get image.segments n ≡ Some (unwrap_or b.left [] ++ tail)))
            → (image ≡ with_segment image n b.left) ⊎ IsLonger (append_now n) (with_segment image n b.left) n (length bytes) image
        how b (inl e) = inl (sym (with_own image n) ∙ ap (with_segment image n) e)
        how b (inr p) =
            let old = with_segment image n b.left in
            inr (record {
              tail = p.0;
              at_most = p.1;
              made = λ e. p.2 (sym (at_own image n b.left) ∙ e);
              image_is = sym (with_own image n) ∙ (ap (with_segment image n) p.3 ∙ (sym (with_twice image n b.left (Some (unwrap_or b.left [] ++ p.0)))
                  ∙ ap (λ o. with_segment old n (Some (unwrap_or o [] ++ p.0))) (sym (at_own image n b.left))));
            })

  append_to : Appends start acts n bytes image → IsImage start (acts ++ append_act ∷ []) image
  append_to a =
      let l = now_left start acts s a.old a.is_image in
      let m = l.each n in
      after_image start acts s append_act image (grown l m a.then_longer) where
        grown : LeftIn start acts append_now a.old → MayLeave (append_now n) (get a.old.segments n)
            → (image ≡ a.old) ⊎ IsLonger (append_now n) a.old n (length bytes) image → LeftIn start acts append_later image
        grown l m (inl e) =
            subst (LeftIn start acts append_later) (sym e) (moved_same start acts append_now append_later n others a.old l
            (subst (λ g. MayLeave g (get a.old.segments n)) (sym here) (more_allowed bytes done (append_now n) (get a.old.segments n) m)))
        grown l m (inr longer) =
            let x = Some (segment_bytes a.old n ++ longer.tail) in
            subst (LeftIn start acts append_later) (sym longer.image_is) (moved start acts append_now append_later n others a.old x l
            (subst (λ g. MayLeave g x) (sym here)
            (longer_allowed bytes done (append_now n) (get a.old.segments n) longer.tail longer.at_most m longer.made)))

  pub append_step : IsImage start (acts ++ append_act ∷ []) image ↔ Appends start acts n bytes image
  append_step = (append_from, append_to)

-- ---- a Sync that is done

synced_front : (read stable all : Option (List ℕ)) (lost : Bool) (y : Option (List ℕ)) → Sound read stable all
    → MayLeave (record { read = read; stable = read; all = all; lost = lost }) y
    → MayLeave (record { read = read; stable = stable; all = all; lost = lost }) y × HasRead (record { read = read; stable = stable; all = all; lost = lost }) y
synced_front None None all lost None s m = (inl refl, m)
synced_front None None all lost (Some b) s m =
    (record { tail = m.tail; stable_first = m.stable_first; all = m.all; made = m.made; within = m.within }, (m.tail, m.stable_first))
synced_front None (Some stable) all lost y s m = absurd s
synced_front (Some read) stable None lost y s m = absurd s
synced_front (Some read) stable (Some all) lost None s (inl e) = absurd (let no : ⊥ = cc in no)
synced_front (Some read) stable (Some all) lost None s (inr e) = (inr e, inr e)
synced_front (Some read) stable (Some all) lost (Some b) s m = (
  record {
    tail = s.0.0 ++ m.tail;
    stable_first = m.stable_first ∙ (ap (λ k. k ++ m.tail) s.0.1 ∙ append_assoc (unwrap_or stable []) s.0.0 m.tail);
    all = m.all;
    made = m.made;
    within = m.within;
  },
  (m.tail, m.stable_first),
)

synced_allowed : (f : Fate) (y : Option (List ℕ)) → MayLeave f y → HasRead f y → MayLeave (fate_synced true f) y
synced_allowed f None m h = h
synced_allowed f (Some b) m h = record { tail = h.0; stable_first = h.1; all = m.all; made = m.made; within = m.within }

module _ (start : Files) (acts : List Act) (s : settled acts ≡ true) (n : ℕ) (image : Files) where
  abbrev sync_act : Act
  sync_act = record { step = SyncOf n; done = true }

  abbrev sync_now : ℕ → Fate
  sync_now = fate_of start acts

  abbrev sync_later : ℕ → Fate
  sync_later q = fate_after q (sync_now q) sync_act

  sync_others : (q : ℕ) → nat_eq q n ≡ false → sync_later q ≡ sync_now q
  sync_others q e = ap (λ b. if b then fate_synced true (sync_now q) else sync_now q) e

  sync_here : sync_later n ≡ fate_synced true (sync_now n)
  sync_here = ap (λ b. if b then fate_synced true (sync_now n) else sync_now n) (nat_eq_equiv.refl n)

  sync_from : IsImage start (acts ++ sync_act ∷ []) image → Syncs start acts n image
  sync_from i =
      let l = image_after start acts s sync_act image i in
      let f = sync_now n in
      let y = get image.segments n in
      let p : MayLeave f y × HasRead f y =
      synced_front f.read f.stable f.all f.lost y (sound_fate start acts n) (subst (λ g. MayLeave g y) sync_here (l.each n)) in
      record {
        is_image = left_now start acts s image
            (moved_same start acts sync_later sync_now n (λ q e. sym (sync_others q e)) image l p.0);
        read = p.1;
      }

  sync_to : Syncs start acts n image → IsImage start (acts ++ sync_act ∷ []) image
  sync_to a =
      let l = now_left start acts s image a.is_image in
      let y = get image.segments n in
      after_image start acts s sync_act image (moved_same start acts sync_now sync_later n sync_others image l
      (subst (λ g. MayLeave g y) (sym sync_here) (synced_allowed (sync_now n) y (l.each n) a.read)))

  pub sync_step : IsImage start (acts ++ sync_act ∷ []) image ↔ Syncs start acts n image
  sync_step = (sync_from, sync_to)

-- ---- a Remove that is done

-- an image without a segment was an image that has what a read gives of it
without_read : (start : Files) (acts : List Act) (n : ℕ) (image : Files) → get image.segments n ≡ None
    → image ≡ without_segment (with_segment image n (fate_of start acts n).read) n
without_read start acts n image e =
    sym (with_own image n) ∙ (ap (with_segment image n) e ∙ sym (with_twice image n (fate_of start acts n).read None))

module _ (start : Files) (acts : List Act) (s : settled acts ≡ true) (n : ℕ) (image : Files) where
  abbrev remove_act : Act
  remove_act = record { step = RemoveOf n; done = true }

  abbrev remove_now : ℕ → Fate
  remove_now = fate_of start acts

  abbrev remove_later : ℕ → Fate
  remove_later q = fate_after q (remove_now q) remove_act

  remove_others : (q : ℕ) → nat_eq q n ≡ false → remove_later q ≡ remove_now q
  remove_others q e = ap (λ b. if b then fate_removed true (remove_now q) else remove_now q) e

  remove_here : remove_later n ≡ fate_removed true (remove_now n)
  remove_here = ap (λ b. if b then fate_removed true (remove_now n) else remove_now n) (nat_eq_equiv.refl n)

  remove_from : IsImage start (acts ++ remove_act ∷ []) image → Removes start acts n image
  remove_from i =
      let l = image_after start acts s remove_act image i in
      let f = remove_now n in
      let y = get image.segments n in
      let old = with_segment image n f.read in
      record {
        old = old;
        is_image = left_now start acts s old (moved start acts remove_later remove_now n (λ q e. sym (remove_others q e)) image f.read l
            (read_may_be_left f (sound_fate start acts n)));
        image_is = without_read start acts n image (rest_only None y (subst (λ g. MayLeave g y) remove_here (l.each n)));
      }

  remove_to : Removes start acts n image → IsImage start (acts ++ remove_act ∷ []) image
  remove_to a =
      subst (IsImage start (acts ++ remove_act ∷ [])) (sym a.image_is)
      (after_image start acts s remove_act (without_segment a.old n) (moved start acts remove_now remove_later n remove_others a.old None
      (now_left start acts s a.old a.is_image) (subst (λ g. MayLeave g None) (sym remove_here) (inl refl))))

  pub remove_step : IsImage start (acts ++ remove_act ∷ []) image ↔ Removes start acts n image
  remove_step = (remove_from, remove_to)

-- ---- a Remove that isn't done

lost_allowed : (f : Fate) (y : Option (List ℕ)) → MayLeave f y → MayLeave (fate_removed false f) y
lost_allowed f None m = inr refl
lost_allowed f (Some b) m = record { tail = m.tail; stable_first = m.stable_first; all = m.all; made = m.made; within = m.within }

lost_or_there : (f : Fate) (y : Option (List ℕ)) → MayLeave (fate_removed false f) y → MayLeave f y ⊎ (y ≡ None)
lost_or_there f None m = inr refl
lost_or_there f (Some b) m = inl (record { tail = m.tail; stable_first = m.stable_first; all = m.all; made = m.made; within = m.within })

module _ (start : Files) (acts : List Act) (s : settled acts ≡ true) (n : ℕ) (image : Files) where
  abbrev lose_act : Act
  lose_act = record { step = RemoveOf n; done = false }

  abbrev lose_now : ℕ → Fate
  lose_now = fate_of start acts

  abbrev lose_later : ℕ → Fate
  lose_later q = fate_after q (lose_now q) lose_act

  lose_others : (q : ℕ) → nat_eq q n ≡ false → lose_later q ≡ lose_now q
  lose_others q e = ap (λ b. if b then fate_removed false (lose_now q) else lose_now q) e

  lose_here : lose_later n ≡ fate_removed false (lose_now n)
  lose_here = ap (λ b. if b then fate_removed false (lose_now n) else lose_now n) (nat_eq_equiv.refl n)

  lose_from : IsImage start (acts ++ lose_act ∷ []) image → IsImage start acts image ⊎ Removes start acts n image
  lose_from i =
      let l = image_after start acts s lose_act image i in
      let y = get image.segments n in
      by_case l (lost_or_there (lose_now n) y (subst (λ g. MayLeave g y) lose_here (l.each n))) where
        by_case : LeftIn start acts lose_later image → MayLeave (lose_now n) (get image.segments n) ⊎ (get image.segments n ≡ None)
            → IsImage start acts image ⊎ Removes start acts n image
        by_case l (inl m) =
            inl (left_now start acts s image (moved_same start acts lose_later lose_now n (λ q e. sym (lose_others q e)) image l m))
        by_case l (inr e) =
            let f = lose_now n in
            let old = with_segment image n f.read in
            inr (record {
              old = old;
              is_image = left_now start acts s old (moved start acts lose_later lose_now n (λ q e. sym (lose_others q e)) image f.read l
                  (read_may_be_left f (sound_fate start acts n)));
              image_is = without_read start acts n image e;
            })

  lose_to : IsImage start acts image ⊎ Removes start acts n image → IsImage start (acts ++ lose_act ∷ []) image
  lose_to (inl i) =
      let l = now_left start acts s image i in
      let y = get image.segments n in
      after_image start acts s lose_act image (moved_same start acts lose_now lose_later n lose_others image l
      (subst (λ g. MayLeave g y) (sym lose_here) (lost_allowed (lose_now n) y (l.each n))))
  lose_to (inr a) =
      subst (IsImage start (acts ++ lose_act ∷ [])) (sym a.image_is)
      (after_image start acts s lose_act (without_segment a.old n) (moved start acts lose_now lose_later n lose_others a.old None
      (now_left start acts s a.old a.is_image) (subst (λ g. MayLeave g None) (sym lose_here) (inr refl))))

  pub undone_remove_step : IsImage start (acts ++ lose_act ∷ []) image ↔ (IsImage start acts image ⊎ Removes start acts n image)
  undone_remove_step = (lose_from, lose_to)
