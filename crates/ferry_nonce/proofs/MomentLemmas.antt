-- Lemmas on specs/Counter.antt: what a replaced file `nonce` leaves of a counter and of the blobs that were put, whatever a stop leaves.
use Rattle.std.proofs.Common.{◌≡◌, ◌⊎◌, inl, inr, ℕ, ◌^◌, ◌<◌, ◌≤◌, Bool, true}
use Rattle.std.proofs.Common.{false, ◌&&◌, ◌||◌, List, [], ◌∷◌, ◌++◌, Option, Some, None, option_map}
use Rattle.std.proofs.Common.{IfSome, IsSome, Result, Ok, Err, refl, sym, ◌∙◌, ap, subst, append_assoc, arith}
use Rattle.std.specs.FinMap.{get}
use Rattle.ferry_disk.specs.Act.{Step, AppendTo, SyncOf, RemoveOf, ReplaceBy, SettleAll, TellOf, Act, History, with_act}
use Rattle.ferry_disk.specs.Device.{Told, called, acted, Acts}
use Rattle.ferry_disk.specs.Files.{Files, file_at}
use Rattle.ferry_disk.specs.Image.{ImageOf, PlainFate, MayStand, plain_of, plain_in, plain_after, plain_stepped, settled, is_settle}
use Rattle.ferry_disk.specs.Moments.{Between}
use Rattle.ferry_disk.specs.declared.name.Name.TheVariants.{Config, Nonce, Readme, Segment}
use Rattle.ferry_disk.specs.declared.shelf.StoreFault.{StoreFault}
use Rattle.ferry_disk.specs.declared.shelf.StoreFault.TheVariants as Store
use Rattle.ferry_disk.proofs.ImageLemmas.{plain_of-push, settled-push}
use Rattle.ferry_disk.proofs.ImageStepLemmas.{stands_only}
use Rattle.ferry_disk.proofs.MomentLemmas.{between_map}
use Rattle.ferry_stops.specs.Blobs.{FileHasBlob, HasBlob, IsRow, BlobOf, row_after}
use Rattle.ferry_stops.specs.Counters.{IsNonce, IsAbove, Counts, TakenBelow}
use Rattle.ferry_nonce.specs.Counter.{CounterFits, HasAtLeast, IsDrawnSince, IsFrom, IsReserved, IsSafeBelow, KeepsAbove, KeepsNumbers, LeavesNonce, begin_of}
use Rattle.ferry_nonce.specs.Counter.{reserves}
use Rattle.ferry_nonce.specs.declared.counter.Counter.{Counter}
use Rattle.ferry_nonce.specs.Text.{number_text}
use Rattle.ferry_nonce.proofs.TextLemmas.{text_spells}

-- ---- the blobs of one more act that is a Replace

row_more : (segment : ℕ) (acts : List Act) (row : List ℕ) (number : ℕ) (done : Bool) (found : List ℕ)
    → IsRow segment row (acts ++ record { step = reserves number; done = done } ∷ []) found → IsRow segment row acts found
row_more segment [] row number done found (inl e) = e
row_more segment [] row number done found (inr e) = e
row_more segment (act ∷ acts) row number done found (inl e) = inl e
row_more segment (act ∷ acts) row number done found (inr is) =
    inr (row_more segment acts (row_after segment row act.step) number done found is)

blob_by : (history : History) (number : ℕ) (done : Bool) (blob : List ℕ) (segment : ℕ)
    → FileHasBlob (get history.start.segments segment) blob
    ⊎ ((row : List ℕ) × IsRow segment [] (history.past ++ (with_act (reserves number) done history).acts) row × HasBlob row blob)
    → BlobOf history blob
blob_by history number done blob segment (inl has) = (segment, inl has)
blob_by history number done blob segment (inr r) = (
  segment,
  inr (
    r.0,
    row_more segment (history.past ++ history.acts) [] number done r.0
        (subst (λ (acts : List Act). IsRow segment [] acts r.0)
        (sym (append_assoc history.past history.acts (record { step = reserves number; done = done } ∷ []))) r.1),
    r.2,
  ),
)

taken_more : (history : History) (number : ℕ) (done : Bool) (free : ℕ) → TakenBelow free history → TakenBelow free (with_act (reserves number) done history)
taken_more history number done free taken blob block is = taken blob block (blob_by history number done blob is.0 is.1)

-- ---- the number that a run began with

-- of a later moment of the run, whose blobs are those of before and such with blocks from the counter's next free number on
pub since_more : (first behind : ℕ) (h g : History) → begin_of g ≡ begin_of h → first ≤ behind
    → ((blob : List ℕ) → BlobOf g blob → BlobOf h blob ⊎ IsFrom first blob) → (IsSome (plain_in h Nonce).read → IsSome (plain_in g Nonce).read)
    → IsDrawnSince first h → IsDrawnSince behind g
since_more first behind h g begins order back stays since = record {
  least = λ number is. let lower = since.least number (start_of number is) in omega (arith, lower, order);
  blobs = λ number is blob known. by_back number is blob (back blob known);
  stays = λ some. stays (since.stays (subst (λ (k : History). IsSome k.start.nonce) begins some));
} where
  start_of : (number : ℕ) → IsNonce g.start.nonce number → IsNonce h.start.nonce number
  start_of number is = subst (λ (k : History). IsNonce k.start.nonce number) begins is

  by_since : (number : ℕ) (blob : List ℕ) → BlobOf (begin_of h) blob ⊎ IsFrom number blob → BlobOf (begin_of g) blob ⊎ IsFrom number blob
  by_since number blob (inl old) = inl (subst (λ (k : History). BlobOf k blob) (sym begins) old)
  by_since number blob (inr from) = inr from

  by_back : (number : ℕ) → IsNonce g.start.nonce number → (blob : List ℕ) → BlobOf h blob ⊎ IsFrom first blob
      → BlobOf (begin_of g) blob ⊎ IsFrom number blob
  by_back number is blob (inl known) = by_since number blob (since.blobs number (start_of number is) blob known)
  by_back number is blob (inr from) =
      inr (λ block of. let lower = since.least number (start_of number is) in let upper = from block of in omega (arith, lower, upper))

-- where a read gives a file, each stop leaves one
stands_some : (fate : PlainFate) (left : Option (List ℕ)) → MayStand fate left → IsSome fate.read → IsSome left
stands_some fate left (inl e) some = subst IsSome (sym e) some
stands_some fate left (inr p) some = subst IsSome (sym p.2) refl

at_least : (less more : ℕ) (file : Option (List ℕ)) → less ≤ more → HasAtLeast more file → HasAtLeast less file
at_least less more file order has = record { value = has.value; nonce = has.nonce; within = (let above = has.within in omega (arith, order, above)) }

-- of the images of a history whose file may stand so
numbers_by : (free : ℕ) (history : History) → settled history.acts ≡ true → IsDrawnSince free history
    → ((left : Option (List ℕ)) → MayStand (plain_in history Nonce) left → HasAtLeast free left) → KeepsNumbers history
numbers_by free history is_settled since file number is = record {
  blobs = since.blobs number is;
  nonce = λ image left. at_least number free image.nonce (since.least number is) (file image.nonce (left.after is_settled).nonce);
  stays = λ image left some. stands_some (plain_in history Nonce) image.nonce (left.after is_settled).nonce (since.stays some);
}

-- ---- the file

above_by : (free : ℕ) (history : History) (image : Files) → HasAtLeast free image.nonce → TakenBelow free history → IsAbove history image
above_by free history image has taken = record {
  value = has.value;
  nonce = has.nonce;
  above = λ blob number is block. let below : number < free = taken blob number is block in omega (arith, below, has.within);
}

counted_file : (free : ℕ) (history : History) → Counts free history → (left : Option (List ℕ)) → MayStand (plain_in history Nonce) left → HasAtLeast free left
counted_file free history counts left may =
    let same : left ≡ counts.file = stands_only counts.file left (subst (λ (f : PlainFate). MayStand f left) counts.at_rest may) in
    record { value = counts.value; nonce = subst (λ (o : Option (List ℕ)). IsNonce o counts.value) (sym same) counts.nonce; within = counts.within }

-- the images of a history whose file may stand so
safe_by : (free : ℕ) (history : History) → settled history.acts ≡ true → TakenBelow free history
    → ((left : Option (List ℕ)) → MayStand (plain_in history Nonce) left → HasAtLeast free left) → IsSafeBelow free history
safe_by free history is_settled taken file = record {
  taken = taken;
  above = λ image is. above_by free history image (file image.nonce (is.after is_settled).nonce) taken;
}

or_true : (b : Bool) → (b || true) ≡ true
or_true true = refl
or_true false = refl

settled_more : (acts : List Act) (act : Act) → settled acts ≡ true → settled (acts ++ act ∷ []) ≡ true
settled_more acts act s = settled-push acts act ∙ ap (λ b. b || (act.done && is_settle act.step)) s

-- what may be left of the file of one more Replace
plain_more : (history : History) (number : ℕ) (done : Bool)
    → plain_in (with_act (reserves number) done history) Nonce ≡ plain_after Nonce (plain_in history Nonce) (record { step = reserves number; done = done })
plain_more history number done = plain_of-push (file_at history.start Nonce) history.acts (record { step = reserves number; done = done }) Nonce

written : (number : ℕ) → number < 2 ^ 64 → (free : ℕ) → free ≤ number → HasAtLeast free (Some (number_text number))
written number fits free within = record { value = number; nonce = text_spells number fits; within = within }

undone_file : (free number : ℕ) (read left : Option (List ℕ)) → number < 2 ^ 64 → free ≤ number → HasAtLeast free read
    → MayStand (record { read = read; perhaps = Some (number_text number) }) left → HasAtLeast free left
undone_file free number read left fits within old (inl e) = subst (HasAtLeast free) (sym e) old
undone_file free number read left fits within old (inr p) =
    let same : number_text number ≡ p.0 = (let e = p.1 in cc) in
    subst (HasAtLeast free) (ap (λ (b : List ℕ). Some b) same ∙ sym p.2) (written number fits free within)

-- and a draw leaves its run so
some_drawn : (number : ℕ) (done : Bool) (fate : PlainFate) → IsSome fate.read
    → IsSome (plain_after Nonce fate (record { step = reserves number; done = done })).read
some_drawn number true fate some = refl
some_drawn number false fate some = some

pub since_drawn : (free number : ℕ) (done : Bool) (history : History) → IsDrawnSince free history
    → IsDrawnSince free (with_act (reserves number) done history)
since_drawn free number done history since =
    since_more free free history (with_act (reserves number) done history) refl (omega arith)
    (λ blob is. inl (blob_by history number done blob is.0 is.1))
    (λ some. subst (λ (f : PlainFate). IsSome f.read) (sym (plain_more history number done)) (some_drawn number done (plain_in history Nonce) some)) since

reserved_done : (number : ℕ) (history : History) → number < 2 ^ 64 → IsReserved number (with_act (reserves number) true history)
reserved_done number history fits = record {
  file = Some (number_text number);
  at_rest = plain_more history number true;
  nonce = text_spells number fits;
}

-- what stands at a moment at which nothing of the file is in doubt
pub numbers_now : (free : ℕ) (history : History) → settled history.acts ≡ true → Counts free history → IsDrawnSince free history → KeepsNumbers history
numbers_now free history is_settled counts since = numbers_by free history is_settled since (counted_file free history counts)

module _ (free number : ℕ) (history : History) (fits : number < 2 ^ 64) (within : free ≤ number) (is_settled : settled history.acts ≡ true) where
  abbrev after : Bool → History
  after done = with_act (reserves number) done history

  -- the file behind a Replace, done or not
  file_after : (done : Bool) → Counts free history → (left : Option (List ℕ)) → MayStand (plain_in (after done) Nonce) left → HasAtLeast free left
  file_after false counts left may =
      undone_file free number (plain_in history Nonce).read left fits within (counted_file free history counts (plain_in history Nonce).read (inl refl))
      (subst (λ (f : PlainFate). MayStand f left) (plain_more history number false) may)
  file_after true counts left may =
      let e : left ≡ Some (number_text number) = stands_only (Some (number_text number)) left
      (subst (λ (f : PlainFate). MayStand f left) (plain_more history number true) may) in
      subst (HasAtLeast free) (sym e) (written number fits free within)

  safe_now : Counts free history → TakenBelow free history → IsSafeBelow free history
  safe_now counts taken = safe_by free history is_settled taken (counted_file free history counts)

  safe_after : (done : Bool) → Counts free history → TakenBelow free history → IsSafeBelow free (after done)
  safe_after done counts taken =
      safe_by free (after done) (settled_more history.acts _ is_settled) (taken_more history number done free taken) (file_after done counts)

  numbers_after : (done : Bool) → Counts free history → IsDrawnSince free history → KeepsNumbers (after done)
  numbers_after done counts since =
      numbers_by free (after done) (settled_more history.acts _ is_settled) (since_drawn free number done history since) (file_after done counts)

  pub done_keeps : KeepsAbove free history (with_act (reserves number) true history)
  done_keeps counts = (
    λ taken. record {
      steps = reserves number ∷ [];
      each = (safe_now counts taken, safe_after false counts taken, safe_after true counts taken);
      now_is = inl refl;
      last = safe_after true counts taken;
    },
    λ since. record {
      steps = reserves number ∷ [];
      each = (numbers_now free history is_settled counts since, numbers_after false counts since, numbers_after true counts since);
      now_is = inl refl;
      last = numbers_after true counts since;
    },
  )

  pub undone_keeps : KeepsAbove free history (with_act (reserves number) false history)
  undone_keeps counts = (
    λ taken. record {
      steps = [];
      each = safe_now counts taken;
      now_is = inr (reserves number, refl);
      last = safe_after false counts taken;
    },
    λ since. record {
      steps = [];
      each = numbers_now free history is_settled counts since;
      now_is = inr (reserves number, refl);
      last = numbers_after false counts since;
    },
  )

pub same_keeps : (free : ℕ) (history : History) → settled history.acts ≡ true → KeepsAbove free history history
same_keeps free history is_settled counts = (
  λ taken.
      let safe = safe_by free history is_settled taken (counted_file free history counts) in
      record { steps = []; each = safe; now_is = inl refl; last = safe },
  λ since.
      let numbers = numbers_now free history is_settled counts since in
      record { steps = []; each = numbers; now_is = inl refl; last = numbers },
)

pub counts_reserved : (more less : ℕ) (history : History) → less ≤ more → IsReserved more history → Counts less history
counts_reserved more less history below reserved = record {
  file = reserved.file;
  at_rest = reserved.at_rest;
  value = more;
  nonce = reserved.nonce;
  within = below;
}

-- ---- acts that leave the file as it is

fate_left : (step : Step) (done : Bool) (fate : PlainFate) → LeavesNonce step → fate.perhaps ≡ None → plain_stepped Nonce step done fate ≡ fate
fate_left (ReplaceBy Nonce bytes) done fate leaves rest = absurd leaves
fate_left (ReplaceBy Config bytes) done fate leaves rest = refl
fate_left (ReplaceBy Readme bytes) done fate leaves rest = refl
fate_left (ReplaceBy (Segment number) bytes) done fate leaves rest = refl
fate_left SettleAll true fate leaves rest = ap (λ (p : Option (List ℕ)). record { read = fate.read; perhaps = p }) (sym rest)
fate_left SettleAll false fate leaves rest = refl
fate_left (AppendTo number bytes) done fate leaves rest = refl
fate_left (SyncOf number) done fate leaves rest = refl
fate_left (RemoveOf number) done fate leaves rest = refl
fate_left (TellOf line) done fate leaves rest = refl

pub file_left : (history : History) (step : Step) (done : Bool) → LeavesNonce step → (plain_in history Nonce).perhaps ≡ None
    → plain_in (with_act step done history) Nonce ≡ plain_in history Nonce
file_left history step done leaves rest =
    plain_of-push (file_at history.start Nonce) history.acts (record { step = step; done = done }) Nonce
    ∙ fate_left step done (plain_in history Nonce) leaves rest

counts_left : (free : ℕ) (history : History) (step : Step) (done : Bool) → LeavesNonce step → Counts free history → Counts free (with_act step done history)
counts_left free history step done leaves counts = record {
  file = counts.file;
  at_rest = file_left history step done leaves (ap (λ (f : PlainFate). f.perhaps) counts.at_rest) ∙ counts.at_rest;
  value = counts.value;
  nonce = counts.nonce;
  within = counts.within;
}

reserved_left : (number : ℕ) (history : History) (step : Step) (done : Bool) → LeavesNonce step → IsReserved number history
    → IsReserved number (with_act step done history)
reserved_left number history step done leaves reserved = record {
  file = reserved.file;
  at_rest = file_left history step done leaves (ap (λ (f : PlainFate). f.perhaps) reserved.at_rest) ∙ reserved.at_rest;
  nonce = reserved.nonce;
}

pub fits_left : (counter : Counter) (history : History) (step : Step) (done : Bool) → LeavesNonce step → CounterFits counter history
    → CounterFits counter (with_act step done history)
fits_left counter history step done leaves fits = record {
  reserved = reserved_left counter.reserved history step done leaves fits.reserved;
  free = counts_left counter.free history step done leaves fits.free;
}

pub begins_at_rest : (start : Files) (past : List Act) → (plain_in (record { start = start; past = past; acts = [] }) Nonce).perhaps ≡ None
unfolding plain_of
begins_at_rest start past = refl

-- a run that has made no act keeps the number that it begins with
pub numbers_begun : (history : History) → history.acts ≡ [] → KeepsNumbers history
numbers_begun history e number is = record {
  blobs = λ blob known. inl (subst (λ (h : History). BlobOf h blob) begins known);
  nonce = λ image left. record {
    value = number;
    nonce = subst (λ (f : Files). IsNonce f.nonce number) (sym (image_is image left)) is;
    within = omega arith;
  };
  stays = λ image left some. subst (λ (f : Files). IsSome f.nonce) (sym (image_is image left)) some;
} where
  begins : history ≡ begin_of history
  begins = ap (λ (acts : List Act). record history { acts = acts }) e

  image_is : (image : Files) → ImageOf history image → image ≡ history.start
  image_is image left = left.before (ap settled e)

pub settles_at_rest : (history : History) → (plain_in (with_act SettleAll true history) Nonce).perhaps ≡ None
settles_at_rest history =
    ap (λ (f : PlainFate). f.perhaps) (plain_of-push (file_at history.start Nonce) history.acts (record { step = SettleAll; done = true }) Nonce)

-- ---- over what devices tell

abbrev pub IsSettled : Option Told → Type 0
IsSettled before = IfSome before (λ t. settled t.history.acts ≡ true)

pub same_told : (free : ℕ) (before now : Option Told) → IsSettled before → now ≡ before → Between before now (KeepsAbove free)
same_told free None now s e = tt
same_told free (Some t) now s e = (t, e, same_keeps free t.history s)

replace_by : {T : Type 0} (free number : ℕ) (before now : Option Told) (result : Result T StoreFault) → number < 2 ^ 64 → free ≤ number → IsSettled before
    → Acts (reserves number) before now result → Between before now (KeepsAbove free)
replace_by free number None now result fits within s e = tt
replace_by free number (Some t) now (Ok x) fits within s e = (acted (reserves number) true t, e, done_keeps free number t.history fits within s)
replace_by free number (Some t) now (Err Store.Failed) fits within s e =
    (acted (reserves number) false t, e, undone_keeps free number t.history fits within s)
replace_by free number (Some t) now (Err Store.Memory) fits within s e = (called t, e, same_keeps free t.history s)

pub replace_told : {T : Type 0} (free number : ℕ) (text : List ℕ) (before now : Option Told) (result : Result T StoreFault) → text ≡ number_text number
    → number < 2 ^ 64 → free ≤ number → IsSettled before → Acts (ReplaceBy Nonce text) before now result → Between before now (KeepsAbove free)
replace_told free number text before now result is fits within s e =
    replace_by free number before now result fits within s (subst (λ (b : List ℕ). Acts (ReplaceBy Nonce b) before now result) is e)

reserved_by : (number : ℕ) (before now : Option Told) → number < 2 ^ 64 → now ≡ option_map (acted (reserves number) true) before
    → Between before now (λ b n. IsReserved number n)
reserved_by number None now fits e = tt
reserved_by number (Some t) now fits e = (acted (reserves number) true t, e, reserved_done number t.history fits)

pub reserved_told : (number : ℕ) (text : List ℕ) (before now : Option Told) → text ≡ number_text number → number < 2 ^ 64
    → now ≡ option_map (acted (ReplaceBy Nonce text) true) before → Between before now (λ b n. IsReserved number n)
reserved_told number text before now is fits e =
    reserved_by number before now fits (subst (λ (b : List ℕ). now ≡ option_map (acted (ReplaceBy Nonce b) true) before) is e)

-- ---- a counter after a draw

pub fits_more : (old : Counter) (free reserved more : ℕ) (spent : Bool) (before now : Option Told) → reserved ≡ more → free ≤ more
    → Between before now (λ b n. IsReserved more n)
    → Between before now (λ b n. CounterFits old b → CounterFits (record { free = free; reserved = reserved; spent = spent }) n)
fits_more old free reserved more spent before now is within counts =
    between_map before now (λ b n. IsReserved more n)
    (λ b n. CounterFits old b → CounterFits (record { free = free; reserved = reserved; spent = spent }) n)
    (λ b n counts fits. record { reserved = subst (λ (k : ℕ). IsReserved k n) (sym is) counts; free = counts_reserved more free n within counts }) counts

pub fits_same : (old : Counter) (free : ℕ) (before : Option Told) → free ≤ old.reserved
    → Between before before (λ b n. CounterFits old b → CounterFits (record old { free = free }) n)
fits_same old free None within = tt
fits_same old free (Some t) within =
    (t, refl, λ fits. record { reserved = fits.reserved; free = counts_reserved old.reserved free t.history within fits.reserved })

-- ---- a Settle stays done

pub settles : (before now : List Act) → now ≡ before ++ record { step = SettleAll; done = true } ∷ [] → settled now ≡ true
settles before now e = ap settled e ∙ (settled-push before (record { step = SettleAll; done = true }) ∙ or_true (settled before))

pub stays_settled : {T : Type 0} (step : Step) (before now : Option Told) (result : Result T StoreFault) → IsSettled before → Acts step before now result
    → IsSettled now
stays_settled step None now (Ok x) s e = subst IsSettled (sym e) tt
stays_settled step None now (Err Store.Failed) s e = subst IsSettled (sym e) tt
stays_settled step None now (Err Store.Memory) s e = subst IsSettled (sym e) tt
stays_settled step (Some t) now (Ok x) s e = subst IsSettled (sym e) (settled_more t.history.acts (record { step = step; done = true }) s)
stays_settled step (Some t) now (Err Store.Failed) s e = subst IsSettled (sym e) (settled_more t.history.acts (record { step = step; done = false }) s)
stays_settled step (Some t) now (Err Store.Memory) s e = subst IsSettled (sym e) s
