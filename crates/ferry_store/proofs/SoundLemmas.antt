-- Each moment of a repository that is written is sound.
use Rattle.std.proofs.Common.{◌≡◌, ◌⊎◌, inl, inr, ℕ, ◌+◌, ◌<◌, ◌≤◌, Bool, true, false, List, [], ◌++◌, Option, Some, None, IsSome, unwrap_or}
use Rattle.std.proofs.Common.{refl, sym, ◌∙◌, ap, subst, arith}
use Rattle.ferry_blob.specs.Blob.{IsBlockOf, blocks}
use Rattle.ferry_disk.specs.Act.{Step, ReplaceBy, SettleAll, Act, History, files_now, with_act}
use Rattle.ferry_disk.specs.Files.{Files, file_at}
use Rattle.ferry_disk.specs.Image.{PlainFate, MayStand, plain_in, plain_of, settled, ImageOf}
use Rattle.ferry_disk.specs.Moments.{Moments}
use Rattle.ferry_disk.specs.declared.name.Name.{Name}
use Rattle.ferry_disk.specs.declared.name.Name.TheVariants.{Config as ConfigFile, Nonce as NonceFile, Readme}
use Rattle.ferry_disk.proofs.ImageLemmas.{start_is_image, unsettled_image}
use Rattle.ferry_nonce.proofs.MomentLemmas.{same_keeps, file_left, fits_left, numbers_now, since_drawn, since_more}
use Rattle.ferry_nonce.proofs.TextLemmas.{one_number}
use Rattle.ferry_nonce.specs.Counter.{CounterFits, IsDrawnSince, IsFrom, IsReserved, KeepsAbove, KeepsNumbers, LeavesNonce, begin_of, reserves}
use Rattle.ferry_nonce.specs.declared.counter.Counter.{Counter}
use Rattle.ferry_segment.specs.Entry.{LogEntry, PutEntry}
use Rattle.ferry_stops.proofs.BlobLemmas.{begin_traced}
use Rattle.ferry_stops.proofs.GroundLemmas.{own_shows}
use Rattle.ferry_stops.specs.Blobs.{BlobOf, AllTraced, Gains}
use Rattle.ferry_stops.specs.Chance.{EachStop}
use Rattle.ferry_stops.specs.Counters.{IsNonce, AreApart, TakenBelow, IsAbove, IsFresh, IsKept, Counts}
use Rattle.ferry_stops.specs.Entries.{Shows}
use Rattle.ferry_store.proofs.CountingLemmas.{next_committed, next_none, next_put}
use Rattle.ferry_store.proofs.StepLemmas.{moments_map, moments_both, moments_begin, moments_settled, step_moments}
use Rattle.ferry_store.proofs.TypeLemmas.{IsTyped, moments_settings, settings_back, types_begun, types_kept, types_put}
use Rattle.ferry_store.specs.Counting.{IsNext, blocks_of}
use Rattle.ferry_store.specs.State.{AreTaken, IsUnderWay, IsSound, Written, BeginsSound, Begins, with_entry, all_committed, IsStep, ShowsEither}
use Rattle.ferry_store.specs.State.{EndsAtCommit, ShowsStanding, found}
use Rattle.ferry_store.specs.Types.{KeepsTypes}
use Rattle.ferry_write.proofs.LawLemmas.{beside_fits, beside_rows, beside_blobs}
use Rattle.ferry_write.specs.Room.{behind}
use Rattle.ferry_write.specs.Rows.{SessionRows, BeginBrings, BringsNone, BeginsRows, Brings, KeepsRows, IsPutOf}
use Rattle.ferry_write.proofs.PlainLemmas.{plain_next}
use Rattle.ferry_write.specs.Session.{CommittedUpTo, IsBeside, Commits, KeepsOrCommits, with_commit, SessionFits, BeginKeeps, Begins as SessionBegins}
use Rattle.ferry_write.specs.Session.{Keeps, Puts, KeepsPlain, rests_at}
use Rattle.ferry_write.specs.declared.session.Session.{Session}

-- ---- fresh

-- blobs of one history are those of another, so they are apart as well
apart_as : (h g : History) → ((blob : List ℕ) → BlobOf g blob → BlobOf h blob) → AreApart (BlobOf h) → AreApart (BlobOf g)
apart_as h g back apart a b x y = apart a b (back a x) (back b y)

below_as : (h g : History) (n : ℕ) → ((blob : List ℕ) → BlobOf g blob → BlobOf h blob) → TakenBelow n h → TakenBelow n g
below_as h g n back below blob number is block = below blob number (back blob is) block

-- a counter that fits is above all that were taken, whatever a stop leaves
pub fresh_by : (free : ℕ) (h : History) → settled h.acts ≡ true → Counts free h → AreTaken free h → IsFresh h
fresh_by free h is_settled counts taken = record {
  apart = taken.apart;
  above = λ image is. ((same_keeps free h is_settled counts).0 taken.below).last.above image is;
}

-- ---- the number that a run began with

-- of a later moment at which the counter's file is as it was
since_later : (first behind : ℕ) (h g : History) (file : Option (List ℕ)) → begin_of g ≡ begin_of h → first ≤ behind
    → ((blob : List ℕ) → BlobOf g blob → BlobOf h blob ⊎ IsFrom first blob) → plain_in h NonceFile ≡ rests_at file → plain_in g NonceFile ≡ rests_at file
    → IsDrawnSince first h → IsDrawnSince behind g
since_later first behind h g file begins order back before now since =
    since_more first behind h g begins order back (λ some. subst (λ (f : PlainFate). IsSome f.read) (before ∙ sym now) some) since

-- where no blob was put
since_kept : (free : ℕ) (h g : History) (file : Option (List ℕ)) → begin_of g ≡ begin_of h → ((blob : List ℕ) → BlobOf g blob → BlobOf h blob)
    → plain_in h NonceFile ≡ rests_at file → plain_in g NonceFile ≡ rests_at file → IsDrawnSince free h → IsDrawnSince free g
since_kept free h g file begins back before now since =
    since_later free free h g file begins (omega arith) (λ blob known. inl (back blob known)) before now since

-- a counter's file that is at rest with what it was
counts_rest : (free : ℕ) (h g : History) (counts : Counts free h) → plain_in g NonceFile ≡ rests_at counts.file → Counts free g
counts_rest free h g counts rest = record { file = counts.file; at_rest = rest; value = counts.value; nonce = counts.nonce; within = counts.within }

-- a step beside the session leaves the number
pub since_beside : (free : ℕ) (step : Step) (done : Bool) (h : History) → IsBeside step → LeavesNonce step → Counts free h → IsDrawnSince free h
    → IsDrawnSince free (with_act step done h)
since_beside free step done h beside leaves counts since =
    let rest = file_left h step done leaves (ap (λ (f : PlainFate). f.perhaps) counts.at_rest) ∙ counts.at_rest in
    since_kept free h (with_act step done h) counts.file refl (λ blob. (beside_blobs h step done blob beside).0) counts.at_rest rest since

-- and the types
pub types_beside : (step : Step) (done : Bool) (h : History) → IsBeside step → KeepsTypes h → KeepsTypes (with_act step done h)
types_beside step done h beside types =
    types_kept h (with_act step done h) refl (settings_back h step done) (λ blob. (beside_blobs h step done blob beside).0) types

-- ---- a moment as it stands

-- where nothing of a file is in doubt, a stop leaves what a read gives
rest_stands : (file image : Option (List ℕ)) (fate : PlainFate) → fate ≡ rests_at file → MayStand fate image → image ≡ file
rest_stands file image fate e (inl is) = is ∙ ap (λ (f : PlainFate). f.read) e
rest_stands file image fate e (inr is) =
    let none : fate.perhaps ≡ None = ap (λ (f : PlainFate). f.perhaps) e in
    let both : None ≡ Some is.0 = sym none ∙ is.1 in absurd (let no : ⊥ = cc in no)

config_left : (h : History) (config : Option (List ℕ)) (image : Files) → plain_in h ConfigFile ≡ rests_at config → settled h.acts ≡ true → ImageOf h image
    → image.config ≡ config
config_left h config image rest is_settled is = rest_stands config image.config (plain_in h ConfigFile) rest (is.after is_settled).config

pub sound_now : (counts : Bool) (session : Session) (counter : Counter) (written : Written) (h : History)
    → IsUnderWay counts session counter written h → IsSound (λ image. Shows image written.committed) counts h
sound_now counts session counter written h u = record {
  shows = λ image left. (_, own_shows _ written.committed h u.fits.own image left);
  traced = u.rows.traced;
  numbers = numbers_now counter.free h u.fits.own.safe.settled_is u.counter_fits.free u.numbers;
  types = u.types;
  fresh = λ e. fresh_by counter.free h u.fits.own.safe.settled_is u.counter_fits.free (u.taken e);
}

-- the same, with the settings
pub stands_now : (counts : Bool) (session : Session) (counter : Counter) (written : Written) (h : History)
    → IsUnderWay counts session counter written h → IsSound (ShowsStanding written) counts h
stands_now counts session counter written h u =
    let is_settled = u.fits.own.safe.settled_is in
    record {
      shows = λ image left. ((_, own_shows _ written.committed h u.fits.own image left), config_left h written.config image u.config is_settled left.image_is);
      traced = u.rows.traced;
      numbers = numbers_now counter.free h is_settled u.counter_fits.free u.numbers;
      types = u.types;
      fresh = λ e. fresh_by counter.free h is_settled u.counter_fits.free (u.taken e);
    }

-- what is committed is shown where it is shown with the settings
pub standing_shown : (counts : Bool) (written : Written) (h g : History) → Moments (IsSound (ShowsStanding written) counts) h g
    → Moments (IsSound (λ image. Shows image written.committed) counts) h g
standing_shown counts written h g m =
    moments_map (IsSound (ShowsStanding written) counts) (IsSound (λ image. Shows image written.committed) counts) h g
    (λ k s. record { shows = λ image left. (s.shows image left).0; traced = s.traced; numbers = s.numbers; types = s.types; fresh = s.fresh }) m

-- ---- the begin of a run

-- at the begin of a run nothing of a plain file is in doubt
plain_begun : (h : History) (name : Name) → h.acts ≡ [] → plain_in h name ≡ rests_at (file_at h.start name)
unfolding plain_of
plain_begun h name e = ap (λ (acts : List Act). plain_of (file_at h.start name) acts name) e

-- and what a read gives is the start
files_begun : (h : History) → h.acts ≡ [] → files_now h ≡ h.start
files_begun h e = ap (λ (acts : List Act). Rattle.ferry_disk.specs.Act.applied h.start acts) e

unsettled_begun : (h : History) → h.acts ≡ [] → settled h.acts ≡ false
unsettled_begun h e = ap settled e

pub image_begun : (h : History) (image : Files) → h.acts ≡ [] → ImageOf h image → image ≡ files_now h
image_begun h image e is = (unsettled_image h.start h.acts image (unsettled_begun h e)).0 is ∙ sym (files_begun h e)

shows_begun : (after : Option ℕ) (committed : Option (List LogEntry)) (h : History) → h.acts ≡ [] → CommittedUpTo after committed (files_now h)
    → EachStop (λ image. Shows image committed) h
shows_begun after committed h e shown image left =
    subst (λ (f : Files). Shows f committed) (sym (image_begun h image e left.image_is)) (behind after, shown)

-- with the settings that stand there
pub stands_begun : (committed : Option (List LogEntry)) (h : History) → h.acts ≡ [] → Shows (files_now h) committed
    → EachStop (ShowsStanding (found committed (files_now h))) h
stands_begun committed h e shown image left =
    subst (ShowsStanding (found committed (files_now h))) (sym (image_begun h image e left.image_is)) (shown, refl)

pub traced_begun : (h : History) → h.acts ≡ [] → AllTraced h
traced_begun h e = subst AllTraced (ap (λ (acts : List Act). record { start = h.start; past = h.past; acts = acts }) (sym e)) (begin_traced h.start h.past)

-- a file that a stop leaves, where nothing of it is in doubt and the run began with it
start_left : (file : Files → Option (List ℕ)) (fate : PlainFate) (h : History) (image : Files) → fate ≡ rests_at (file h.start)
    → (settled h.acts ≡ true → MayStand fate (file image)) → ImageOf h image → file image ≡ file h.start
start_left file fate h image rest stands is = by_settled (settled h.acts) refl where
  by_settled : (b : Bool) → settled h.acts ≡ b → file image ≡ file h.start
  by_settled true e = rest_stands (file h.start) (file image) fate rest (stands e)
  by_settled false e = ap file (is.before e)

nonce_left : (h : History) (image : Files) → plain_in h NonceFile ≡ rests_at h.start.nonce → ImageOf h image → image.nonce ≡ h.start.nonce
nonce_left h image rest is = start_left (λ (f : Files). f.nonce) (plain_in h NonceFile) h image rest (λ e. (is.after e).nonce) is

-- the settings that a stop leaves at a moment at which they are those of the begin
config_later : (h g : History) → h.acts ≡ [] → g.start ≡ h.start → plain_in g ConfigFile ≡ rests_at h.start.config → (image : Files) → ImageOf g image
    → image.config ≡ (files_now h).config
config_later h g e start rest image is =
    let same : g.start.config ≡ h.start.config = ap (λ (f : Files). f.config) start in
    let left : image.config ≡ g.start.config =
    start_left (λ (f : Files). f.config) (plain_in g ConfigFile) g image (rest ∙ ap rests_at (sym same)) (λ s. (is.after s).config) is in
    left ∙ (same ∙ ap (λ (f : Files). f.config) (sym (files_begun h e)))

-- a blob of a run that had made no act is one of its begin
begun_blob : (h g : History) → h.acts ≡ [] → begin_of g ≡ begin_of h → (blob : List ℕ) → BlobOf h blob → BlobOf (begin_of g) blob
begun_blob h g e begins blob known =
    subst (λ (k : History). BlobOf k blob) (ap (λ (acts : List Act). record h { acts = acts }) e ∙ sym begins) known

-- what was kept at the begin is above, at each moment at which the file is as it was
above_later : (h g : History) → h.acts ≡ [] → IsKept h → g.start ≡ h.start → plain_in g NonceFile ≡ rests_at h.start.nonce
    → ((blob : List ℕ) → BlobOf g blob → BlobOf h blob) → (image : Files) → ImageOf g image → IsAbove g image
above_later h g e kept start rest back image is =
    let above = kept.fresh.above h.start (start_is_image h.start h.acts (unsettled_begun h e)) in
    let same : h.start.nonce ≡ g.start.nonce = ap (λ (f : Files). f.nonce) (sym start) in
    let left : image.nonce ≡ h.start.nonce = nonce_left g image (rest ∙ ap rests_at same) is ∙ sym same in
    record {
      value = above.value;
      nonce = subst (λ (f : Option (List ℕ)). IsNonce f above.value) (sym left) above.nonce;
      above = λ blob number known block. above.above blob number (back blob known) block;
    }

-- and so is the number that the run began with
numbers_later : (h g : History) → h.acts ≡ [] → begin_of g ≡ begin_of h → plain_in g NonceFile ≡ rests_at h.start.nonce
    → ((blob : List ℕ) → BlobOf g blob → BlobOf h blob) → KeepsNumbers g
numbers_later h g e begins rest back number is = record {
  blobs = λ blob known. inl (begun_blob h g e begins blob (back blob known));
  nonce = λ image left. record { value = number; nonce = subst (λ (f : Option (List ℕ)). IsNonce f number) (sym (same image left)) is; within = omega arith };
  stays = λ image left some. subst IsSome (sym (same image left)) some;
} where
  same : (image : Files) → ImageOf g image → image.nonce ≡ g.start.nonce
  same image left = nonce_left g image (rest ∙ ap (λ (k : History). rests_at k.start.nonce) (sym begins)) left

none_new : (h g : History) → Gains h (λ _. ⊥) g → (blob : List ℕ) → BlobOf g blob → BlobOf h blob
none_new h g gains blob is = by_sum (gains.gained blob is) where
  by_sum : BlobOf h blob ⊎ ⊥ → BlobOf h blob
  by_sum (inl known) = known
  by_sum (inr none) = absurd none

-- at each moment of a session that begins
pub begin_sound : (after : Option ℕ) (h g : History) → BeginKeeps after h g → BeginBrings h g → KeepsPlain h g → BeginsSound after h g
begin_sound after h g keeps brings plain counts committed begun =
    let rest = plain_begun h NonceFile begun.no_acts in
    let nonce = plain NonceFile (file_at h.start NonceFile) rest in
    let config = plain ConfigFile (file_at h.start ConfigFile) (plain_begun h ConfigFile begun.no_acts) in
    let shows = keeps committed begun.shown (shows_begun after committed h begun.no_acts begun.shown) in
    let gains = brings begun.no_acts in
    let begins = moments_begin _ h g gains in
    moments_map _ (IsSound (ShowsStanding (found committed (files_now h))) counts) h g (λ m all. record {
      shows = λ image left. (
        all.0.0 image left,
        config_later h m begun.no_acts (ap (λ (k : History). k.start) all.1.1) all.1.0.1 image left.image_is,
      );
      traced = all.0.1.traced;
      numbers = numbers_later h m begun.no_acts all.1.1 all.1.0.0 (none_new h m all.0.1);
      types = types_begun h m begun.no_acts all.1.1 (none_new h m all.0.1);
      fresh = λ e. record {
        apart = apart_as h m (none_new h m all.0.1) (begun.kept e).fresh.apart;
        above = above_later h m begun.no_acts (begun.kept e) (ap (λ (k : History). k.start) all.1.1) all.1.0.0 (none_new h m all.0.1);
      };
    })
    (moments_both _ _ h g (moments_both _ _ h g shows gains) (moments_both _ _ h g (moments_both _ _ h g nonce config) begins))

-- a counter's file is as it was
counts_kept : (n : ℕ) (h g : History) → KeepsPlain h g → Counts n h → Counts n g
counts_kept n h g plain counts = record {
  file = counts.file;
  at_rest = (plain NonceFile counts.file counts.at_rest).last;
  value = counts.value;
  nonce = counts.nonce;
  within = counts.within;
}

reserved_kept : (n : ℕ) (h g : History) → KeepsPlain h g → IsReserved n h → IsReserved n g
reserved_kept n h g plain reserved =
    record { file = reserved.file; at_rest = (plain NonceFile reserved.file reserved.at_rest).last; nonce = reserved.nonce }

pub counter_kept : (counter : Counter) (h g : History) → KeepsPlain h g → CounterFits counter h → CounterFits counter g
counter_kept counter h g plain fits = record {
  reserved = reserved_kept counter.reserved h g plain fits.reserved;
  free = counts_kept counter.free h g plain fits.free;
}

-- at the begin of a run all blocks are below the number of the file
taken_begun : (free : ℕ) (h : History) → h.acts ≡ [] → IsKept h → IsNonce (file_at (files_now h) NonceFile) free → AreTaken free h
taken_begun free h e kept is =
    let above = kept.fresh.above h.start (start_is_image h.start h.acts (unsettled_begun h e)) in
    let same : free ≡ above.value =
    one_number h.start.nonce free above.value (subst (λ (f : Files). IsNonce f.nonce free) (files_begun h e) is) above.nonce in
    record { apart = kept.fresh.apart; below = λ blob number known block. subst (λ (n : ℕ). number < n) (sym same) (above.above blob number known block) }

taken_later : (free : ℕ) (h g : History) → ((blob : List ℕ) → BlobOf g blob → BlobOf h blob) → AreTaken free h → AreTaken free g
taken_later free h g back taken = record { apart = apart_as h g back taken.apart; below = below_as h g free back taken.below }

-- and the counter's next free number is the one that the run began with
since_begun : (free : ℕ) (h g : History) → h.acts ≡ [] → begin_of g ≡ begin_of h → plain_in g NonceFile ≡ rests_at h.start.nonce
    → ((blob : List ℕ) → BlobOf g blob → BlobOf h blob) → IsNonce (file_at (files_now h) NonceFile) free → IsDrawnSince free g
since_begun free h g e begins rest back number = record {
  least = λ least is.
      let begun = subst (λ (k : History). IsNonce k.start.nonce least) begins is in
      let same = one_number h.start.nonce least free begun (subst (λ (f : Files). IsNonce f.nonce free) (files_begun h e) number) in omega (arith, same);
  blobs = λ least is blob known. inl (begun_blob h g e begins blob (back blob known));
  stays = λ some. subst (λ (f : PlainFate). IsSome f.read) (sym rest) (subst (λ (k : History). IsSome k.start.nonce) begins some);
}

-- no entry was put
next_begun : (free : ℕ) (committed : Option (List LogEntry)) (after : Option ℕ) (h g : History) → h.acts ≡ [] → begin_of g ≡ begin_of h
    → IsNonce (file_at (files_now h) NonceFile) free → CommittedUpTo after committed (files_now h) → IsNext free (unwrap_or committed [] ++ []) g.start
next_begun free committed after h g e begins number shown =
    subst (IsNext free (unwrap_or committed [] ++ [])) (sym (ap (λ (k : History). k.start) begins)) (record {
      first = free;
      nonce = subst (λ (f : Files). IsNonce f.nonce free) (files_begun h e) number;
      found = committed;
      shown = (behind after, subst (CommittedUpTo after committed) (files_begun h e) shown);
      put = [];
      entries_are = refl;
      free_is = next_none free;
    })

pub begin_stands : (after : Option ℕ) (counter : Counter) (session : Session) (h g : History) → IsNonce (file_at (files_now h) NonceFile) counter.free
    → ((plain_in h NonceFile).perhaps ≡ None → CounterFits counter h) → SessionBegins after session h g → BeginsRows session h g → BeginBrings h g
    → KeepsPlain h g → EndsAtCommit session → Begins after counter session h g
begin_stands after counter session h g number opened begins rows brings plain ends counts committed begun =
    let e = begun.no_acts in
    let rest = plain_begun h NonceFile e in
    let same = files_begun h e in
    let back = none_new h g (brings e).last in
    let begins_is = (moments_begin _ h g (brings e)).last in
    record {
      fits = begins committed begun.shown;
      rows = rows e;
      ends = ends;
      counter_fits = counter_kept counter h g plain (opened (ap (λ (f : PlainFate). f.perhaps) rest));
      config = (plain ConfigFile (file_at h.start ConfigFile) (plain_begun h ConfigFile e)).last ∙ ap (λ (f : Files). rests_at f.config) (sym same);
      readme = (plain Readme (file_at h.start Readme) (plain_begun h Readme e)).last ∙ ap (λ (f : Files). rests_at f.readme) (sym same);
      next = next_begun counter.free committed after h g e begins_is number begun.shown;
      numbers = since_begun counter.free h g e begins_is (plain NonceFile (file_at h.start NonceFile) rest).last back number;
      types = types_begun h g e begins_is back;
      taken = λ c. taken_later counter.free h g back (taken_begun counter.free h e (begun.kept c) number);
    }

-- ---- an entry that is put

-- the blob of an entry that is put is new, with blocks from a number on, or is none
abbrev pub HasBlocks : LogEntry → ℕ → ℕ → Type 0
HasBlocks entry first behind = (blob : List ℕ) (number : ℕ) → IsPutOf entry blob → IsBlockOf blob number → (first ≤ number) × (number < behind)

-- the same with all of its blocks
abbrev pub TakesBlocks : LogEntry → ℕ → ℕ → Type 0
TakesBlocks entry first behind = HasBlocks entry first behind × (first + blocks_of entry ≡ behind)

pub put_same : (id blob other : List ℕ) → IsPutOf (PutEntry id blob) other → other ≡ blob
put_same id blob other put = let e = put.1 in cc

one_put : (entry : LogEntry) (a b : List ℕ) → IsPutOf entry a → IsPutOf entry b → a ≡ b
one_put entry a b x y = let both : PutEntry x.0 a ≡ PutEntry y.0 b = sym x.1 ∙ y.1 in cc

gained_taken : (first behind : ℕ) (entry : LogEntry) (h g : History) → first ≤ behind → HasBlocks entry first behind → Gains h (IsPutOf entry) g
    → AreTaken first h → AreTaken behind g
gained_taken first behind entry h g order blocks gains taken = record {
  apart = λ a b x y. by_sums a b (gains.gained a x) (gains.gained b y);
  below = λ blob number is block. below_by blob number block (gains.gained blob is);
} where
  below_by : (blob : List ℕ) (number : ℕ) → IsBlockOf blob number → BlobOf h blob ⊎ IsPutOf entry blob → number < behind
  below_by blob number block (inl old) = let lower = taken.below blob number old block in omega (arith, lower, order)
  below_by blob number block (inr put) = (blocks blob number put block).1

  by_sums : (a b : List ℕ) → BlobOf h a ⊎ IsPutOf entry a → BlobOf h b ⊎ IsPutOf entry b
      → (a ≡ b) ⊎ ((number : ℕ) → IsBlockOf a number → IsBlockOf b number → ⊥)
  by_sums a b (inl x) (inl y) = taken.apart a b x y
  by_sums a b (inr x) (inr y) = inl (one_put entry a b x y)
  by_sums a b (inl x) (inr y) = inr (λ number p q.
      let lower = taken.below a number x p in let upper = (blocks b number y q).0 in let no : ⊥ = omega (arith, lower, upper) in no)
  by_sums a b (inr x) (inl y) = inr (λ number p q.
      let lower = taken.below b number y q in let upper = (blocks a number x p).0 in let no : ⊥ = omega (arith, lower, upper) in no)

-- no block of a blob that is put is below the first that it takes
gained_from : (first behind : ℕ) (entry : LogEntry) (h g : History) → HasBlocks entry first behind → Gains h (IsPutOf entry) g → (blob : List ℕ)
    → BlobOf g blob → BlobOf h blob ⊎ IsFrom first blob
gained_from first behind entry h g blocks gains blob known = by_sum (gains.gained blob known) where
  by_sum : BlobOf h blob ⊎ IsPutOf entry blob → BlobOf h blob ⊎ IsFrom first blob
  by_sum (inl old) = inl old
  by_sum (inr put) = inr (λ block of. (blocks blob block put of).0)

-- a counter behind a draw: its file counts up to its next free number, and what was taken before the draw is below the first
pub record HasDrawn (counts : Bool) (session : Session) (first : ℕ) (counter : Counter) (written : Written) (history : History) : Type 0 where
  pub fits : SessionFits session written.committed written.pending history
  pub rows : SessionRows session history
  pub counter_fits : CounterFits counter history
  pub config : plain_in history ConfigFile ≡ rests_at written.config
  pub readme : plain_in history Readme ≡ rests_at written.readme
  pub order : first ≤ counter.free
  pub next : IsNext first (unwrap_or written.committed [] ++ written.pending) history.start
  pub numbers : IsDrawnSince first history
  pub types : KeepsTypes history
  pub taken : counts ≡ true → AreTaken first history

pub put_sound : (counts : Bool) (session : Session) (first : ℕ) (counter : Counter) (written : Written) (entry : LogEntry) (h g : History)
    → TakesBlocks entry first counter.free → IsTyped entry h → HasDrawn counts session first counter written h → Keeps session h g → Brings session entry h g
    → KeepsPlain h g → Moments (IsSound (ShowsStanding written) counts) h g
put_sound counts session first counter written entry h g blocks typed u keeps brings plain =
    let shows = keeps written.committed written.pending u.fits in
    let gains = brings written.committed written.pending u.fits u.rows in
    let nonce = plain NonceFile u.counter_fits.free.file u.counter_fits.free.at_rest in
    let config = plain ConfigFile written.config u.config in
    let is_settled = moments_settled _ h g u.fits.own.safe.settled_is gains in
    let begins = moments_both _ _ h g (moments_begin _ h g gains) (moments_settings _ h g gains) in
    moments_map _ (IsSound (ShowsStanding written) counts) h g (λ m all.
    let rest = counts_rest counter.free h m u.counter_fits.free all.1.0.0 in
    record {
      shows = λ image left. (all.0.0 image left, config_left m written.config image all.1.0.1 all.1.1.0 left.image_is);
      traced = all.0.1.traced;
      numbers = numbers_now counter.free m all.1.1.0 rest
          (since_later first counter.free h m u.counter_fits.free.file all.1.1.1.0 u.order (gained_from first counter.free entry h m blocks.0 all.0.1)
          u.counter_fits.free.at_rest all.1.0.0 u.numbers);
      types = types_put entry h m all.1.1.1.0 all.1.1.1.1 typed all.0.1 u.types;
      fresh = λ e. fresh_by counter.free m all.1.1.0 rest (gained_taken first counter.free entry h m u.order blocks.0 all.0.1 (u.taken e));
    })
    (moments_both _ _ h g (moments_both _ _ h g shows gains)
    (moments_both _ _ h g (moments_both _ _ h g nonce config) (moments_both _ _ h g is_settled begins)))

pub put_stands : (counts : Bool) (session now : Session) (first : ℕ) (counter : Counter) (written : Written) (entry : LogEntry) (h g : History)
    → TakesBlocks entry first counter.free → IsTyped entry h → HasDrawn counts session first counter written h
    → Puts session now entry h g → KeepsRows session now h g
    → Brings session entry h g → KeepsPlain h g → EndsAtCommit now → IsUnderWay counts now counter (with_entry written entry) g
put_stands counts session now first counter written entry h g blocks typed u puts rows brings plain ends = record {
  fits = puts written.committed written.pending u.fits;
  rows = rows written.committed written.pending u.fits u.rows;
  ends = ends;
  counter_fits = counter_kept counter h g plain u.counter_fits;
  config = (plain ConfigFile written.config u.config).last;
  readme = (plain Readme written.readme u.readme).last;
  next = next_put first counter.free written.committed written.pending entry h.start g.start
      (ap (λ (k : History). k.start) (moments_begin _ h g (brings written.committed written.pending u.fits u.rows)).last) blocks.1 u.next;
  numbers = since_later first counter.free h g u.counter_fits.free.file
      (moments_begin _ h g (brings written.committed written.pending u.fits u.rows)).last u.order
      (gained_from first counter.free entry h g blocks.0 (brings written.committed written.pending u.fits u.rows).last) u.counter_fits.free.at_rest
      (plain NonceFile u.counter_fits.free.file u.counter_fits.free.at_rest).last u.numbers;
  types = types_put entry h g (moments_begin _ h g (brings written.committed written.pending u.fits u.rows)).last
      (moments_settings _ h g (brings written.committed written.pending u.fits u.rows)).last typed
      (brings written.committed written.pending u.fits u.rows).last u.types;
  taken = λ e. gained_taken first counter.free entry h g u.order blocks.0 (brings written.committed written.pending u.fits u.rows).last (u.taken e);
}

-- ---- an act beside the session

pub beside_sound : (counts : Bool) (session : Session) (counter : Counter) (written : Written) (step : Step) (done : Bool) (h : History) → IsBeside step
    → LeavesNonce step → IsUnderWay counts session counter written h → IsSound (λ image. Shows image written.committed) counts (with_act step done h)
beside_sound counts session counter written step done h beside leaves u =
    let g = with_act step done h in
    let fits = beside_fits session written.committed written.pending h step done beside u.fits in
    let counted = (fits_left counter h step done leaves u.counter_fits).free in
    record {
      shows = λ image left. (_, own_shows _ written.committed g fits.own image left);
      traced = (beside_rows session h step done beside u.rows).traced;
      numbers = numbers_now counter.free g fits.own.safe.settled_is counted
          (since_beside counter.free step done h beside leaves u.counter_fits.free u.numbers);
      types = types_beside step done h beside u.types;
      fresh = λ e. fresh_by counter.free g fits.own.safe.settled_is counted
          (taken_later counter.free h g (λ blob. (beside_blobs h step done blob beside).0) (u.taken e));
    }

pub replace_moments : (counts : Bool) (session : Session) (counter : Counter) (written : Written) (step : Step) (h g : History) → IsBeside step
    → LeavesNonce step → IsUnderWay counts session counter written h → IsStep step h g → Moments (IsSound (λ image. Shows image written.committed) counts) h g
replace_moments counts session counter written step h g beside leaves u is =
    step_moments (IsSound (λ image. Shows image written.committed) counts) step h g (sound_now counts session counter written h u)
    (λ done. beside_sound counts session counter written step done h beside leaves u) is

pub readme_stands : (counts : Bool) (session : Session) (counter : Counter) (written : Written) (bytes : List ℕ) (h : History)
    → IsUnderWay counts session counter written h
    → IsUnderWay counts session counter (record written { readme = Some bytes }) (with_act (ReplaceBy Readme bytes) true h)
readme_stands counts session counter written bytes h u =
    let step = ReplaceBy Readme bytes in
    let g = with_act step true h in
    record {
      fits = beside_fits session written.committed written.pending h step true tt u.fits;
      rows = beside_rows session h step true tt u.rows;
      ends = u.ends;
      counter_fits = fits_left counter h step true tt u.counter_fits;
      config = plain_next h step true ConfigFile ∙ u.config;
      readme = plain_next h step true Readme;
      next = u.next;
      numbers = since_beside counter.free step true h tt tt u.counter_fits.free u.numbers;
      types = types_beside step true h tt u.types;
      taken = λ e. taken_later counter.free h g (λ blob. (beside_blobs h step true blob tt).0) (u.taken e);
    }

pub config_stands : (counts : Bool) (session : Session) (counter : Counter) (written : Written) (bytes : List ℕ) (h : History)
    → IsUnderWay counts session counter written h
    → IsUnderWay counts session counter (record written { config = Some bytes }) (with_act (ReplaceBy ConfigFile bytes) true h)
config_stands counts session counter written bytes h u =
    let step = ReplaceBy ConfigFile bytes in
    let g = with_act step true h in
    record {
      fits = beside_fits session written.committed written.pending h step true tt u.fits;
      rows = beside_rows session h step true tt u.rows;
      ends = u.ends;
      counter_fits = fits_left counter h step true tt u.counter_fits;
      config = plain_next h step true ConfigFile;
      readme = plain_next h step true Readme ∙ u.readme;
      next = u.next;
      numbers = since_beside counter.free step true h tt tt u.counter_fits.free u.numbers;
      types = types_beside step true h tt u.types;
      taken = λ e. taken_later counter.free h g (λ blob. (beside_blobs h step true blob tt).0) (u.taken e);
    }

-- ---- a draw

abbrev quiet : (session : Session) (counter : Counter) (written : Written) (h : History) → Type 0
quiet session counter written h = SessionFits session written.committed written.pending h
    × (SessionRows session h × (plain_in h ConfigFile ≡ rests_at written.config))

draw_base : (counts : Bool) (session : Session) (counter : Counter) (written : Written) (number : ℕ) (h g : History)
    → IsUnderWay counts session counter written h
    → IsStep (reserves number) h g
    → Moments (λ m. quiet session counter written m × (((blob : List ℕ) → BlobOf m blob → BlobOf h blob) × KeepsTypes m)) h g
draw_base counts session counter written number h g u is =
    step_moments (λ m. quiet session counter written m × (((blob : List ℕ) → BlobOf m blob → BlobOf h blob) × KeepsTypes m)) (reserves number) h g
    ((u.fits, (u.rows, u.config)), (λ blob x. x, u.types))
    (λ done. (
      (
        beside_fits session written.committed written.pending h (reserves number) done tt u.fits,
        (beside_rows session h (reserves number) done tt u.rows, plain_next h (reserves number) done ConfigFile ∙ u.config),
      ),
      (λ blob. (beside_blobs h (reserves number) done blob tt).0, types_beside (reserves number) done h tt u.types),
    )) is

quiet_sound : (counts : Bool) (session : Session) (counter : Counter) (written : Written) (m : History) → quiet session counter written m
    → KeepsNumbers m → KeepsTypes m → (counts ≡ true → IsFresh m) → IsSound (ShowsStanding written) counts m
quiet_sound counts session counter written m q numbers types fresh = record {
  shows = λ image left. (
    (_, own_shows _ written.committed m q.0.own image left),
    config_left m written.config image q.1.1 q.0.own.safe.settled_is left.image_is,
  );
  traced = q.1.0.traced;
  numbers = numbers;
  types = types;
  fresh = fresh;
}

pub draw_sound : (counts : Bool) (session : Session) (counter : Counter) (written : Written) (number : ℕ) (h g : History)
    → IsUnderWay counts session counter written h → IsStep (reserves number) h g → KeepsAbove counter.free h g
    → Moments (IsSound (ShowsStanding written) counts) h g
draw_sound false session counter written number h g u is keeps =
    moments_map _ (IsSound (ShowsStanding written) false) h g
    (λ m q. quiet_sound false session counter written m q.0.0 q.1 q.0.1.1 (λ e. absurd (let no : ⊥ = cc in no)))
    (moments_both _ _ h g (draw_base false session counter written number h g u is) ((keeps u.counter_fits.free).1 u.numbers))
draw_sound true session counter written number h g u is keeps =
    let taken = u.taken refl in
    let kept = keeps u.counter_fits.free in
    moments_map _ (IsSound (ShowsStanding written) true) h g
    (λ m q. quiet_sound true session counter written m q.0.0 q.1.1 q.0.1.1 (λ e. record { apart = apart_as h m q.0.1.0 taken.apart; above = q.1.0.above }))
    (moments_both _ _ h g (draw_base true session counter written number h g u is) (moments_both _ _ h g (kept.0 taken.below) (kept.1 u.numbers)))

pub draw_stands : (counts : Bool) (session : Session) (counter drawn : Counter) (written : Written) (number : ℕ) (h g : History)
    → IsUnderWay counts session counter written h → (g ≡ h) ⊎ (g ≡ with_act (reserves number) true h) → counter.free ≤ drawn.free
    → (CounterFits counter h → CounterFits drawn g) → HasDrawn counts session counter.free drawn written g
draw_stands counts session counter drawn written number h g u (inl e) order fits =
    subst (HasDrawn counts session counter.free drawn written) (sym e) (record {
      fits = u.fits;
      rows = u.rows;
      counter_fits = subst (CounterFits drawn) e (fits u.counter_fits);
      config = u.config;
      readme = u.readme;
      order = order;
      next = u.next;
      numbers = u.numbers;
      types = u.types;
      taken = u.taken;
    })
draw_stands counts session counter drawn written number h g u (inr e) order fits =
    let step = reserves number in
    let k = with_act step true h in
    subst (HasDrawn counts session counter.free drawn written) (sym e) (record {
      fits = beside_fits session written.committed written.pending h step true tt u.fits;
      rows = beside_rows session h step true tt u.rows;
      counter_fits = subst (CounterFits drawn) e (fits u.counter_fits);
      config = plain_next h step true ConfigFile ∙ u.config;
      readme = plain_next h step true Readme ∙ u.readme;
      order = order;
      next = u.next;
      numbers = since_drawn counter.free number true h u.numbers;
      types = types_beside step true h tt u.types;
      taken = λ c. taken_later counter.free h k (λ blob. (beside_blobs h step true blob tt).0) (u.taken c);
    })

-- ---- a commit

either_shown : (written : Written) (image : Files) → image.config ≡ written.config
    → Shows image written.committed ⊎ Shows image (with_commit written.committed written.pending) → ShowsEither written image
either_shown written image config (inl shown) = inl (shown, config)
either_shown written image config (inr shown) = inr (shown, config)

pub commit_sound : (counts : Bool) (session : Session) (counter : Counter) (written : Written) (h g : History) → IsUnderWay counts session counter written h
    → KeepsOrCommits session h g → BringsNone session h g → KeepsPlain h g → Moments (IsSound (ShowsEither written) counts) h g
commit_sound counts session counter written h g u keeps brings plain =
    let shows = keeps written.committed written.pending u.fits in
    let gains = brings written.committed written.pending u.fits u.rows in
    let nonce = plain NonceFile u.counter_fits.free.file u.counter_fits.free.at_rest in
    let config = plain ConfigFile written.config u.config in
    let is_settled = moments_settled _ h g u.fits.own.safe.settled_is gains in
    let begins = moments_both _ _ h g (moments_begin _ h g gains) (moments_settings _ h g gains) in
    moments_map _ (IsSound (ShowsEither written) counts) h g (λ m all.
    let rest = counts_rest counter.free h m u.counter_fits.free all.1.0.0 in
    record {
      shows = λ image left. either_shown written image (config_left m written.config image all.1.0.1 all.1.1.0 left.image_is) (all.0.0 image left);
      traced = all.0.1.traced;
      numbers = numbers_now counter.free m all.1.1.0 rest
          (since_kept counter.free h m u.counter_fits.free.file all.1.1.1.0 (none_new h m all.0.1) u.counter_fits.free.at_rest all.1.0.0 u.numbers);
      types = types_kept h m all.1.1.1.0 all.1.1.1.1 (none_new h m all.0.1) u.types;
      fresh = λ e. fresh_by counter.free m all.1.1.0 rest (taken_later counter.free h m (none_new h m all.0.1) (u.taken e));
    })
    (moments_both _ _ h g (moments_both _ _ h g shows gains)
    (moments_both _ _ h g (moments_both _ _ h g nonce config) (moments_both _ _ h g is_settled begins)))

pub commit_stands : (counts : Bool) (session now : Session) (counter : Counter) (written : Written) (h g : History)
    → IsUnderWay counts session counter written h → Commits session now h g → KeepsRows session now h g → BringsNone session h g → KeepsPlain h g
    → EndsAtCommit now → IsUnderWay counts now counter (all_committed written) g
commit_stands counts session now counter written h g u commits rows brings plain ends = record {
  fits = commits written.committed written.pending u.fits;
  rows = rows written.committed written.pending u.fits u.rows;
  ends = ends;
  counter_fits = counter_kept counter h g plain u.counter_fits;
  config = (plain ConfigFile written.config u.config).last;
  readme = (plain Readme written.readme u.readme).last;
  next = next_committed counter.free written.committed written.pending h.start g.start
      (ap (λ (k : History). k.start) (moments_begin _ h g (brings written.committed written.pending u.fits u.rows)).last) u.next;
  numbers = since_kept counter.free h g u.counter_fits.free.file
      (moments_begin _ h g (brings written.committed written.pending u.fits u.rows)).last
      (none_new h g (brings written.committed written.pending u.fits u.rows).last) u.counter_fits.free.at_rest
      (plain NonceFile u.counter_fits.free.file u.counter_fits.free.at_rest).last u.numbers;
  types = types_kept h g (moments_begin _ h g (brings written.committed written.pending u.fits u.rows)).last
      (moments_settings _ h g (brings written.committed written.pending u.fits u.rows)).last
      (none_new h g (brings written.committed written.pending u.fits u.rows).last) u.types;
  taken = λ e. taken_later counter.free h g (none_new h g (brings written.committed written.pending u.fits u.rows).last) (u.taken e);
}
