-- Lemmas on specs/Compact.antt: counter blocks and their file, over a run that puts no blob but those that it found.
use Rattle.std.proofs.Common.{◌≡◌, inl, inr, ℕ, suc, Bool, true, false, List, [], map, Option, Some, None, IsSome}
use Rattle.std.proofs.Common.{refl, sym, ◌∙◌, ap, subst, arith}
use Rattle.ferry_compact.proofs.RunLemmas.{files_begun}
use Rattle.ferry_compact.proofs.StepLemmas.{moments_begin, moments_both, moments_map}
use Rattle.ferry_compact.specs.Compact.{KeepsBlocks, NumbersStay, ShowsLive}
use Rattle.ferry_compact.specs.Runs.{Run}
use Rattle.ferry_disk.proofs.ImageLemmas.{start_is_image, unsettled_image}
use Rattle.ferry_disk.specs.Act.{Act, History, files_now}
use Rattle.ferry_disk.specs.Files.{Files, file_at}
use Rattle.ferry_disk.specs.Image.{ImageOf, MayStand, PlainFate, plain_in, plain_of, settled}
use Rattle.ferry_disk.specs.Moments.{Moments}
use Rattle.ferry_disk.specs.declared.name.Name.{Name}
use Rattle.ferry_disk.specs.declared.name.Name.TheVariants.{Nonce as NonceFile}
use Rattle.ferry_log.specs.Log.{Located}
use Rattle.ferry_nonce.specs.Counter.{KeepsNumbers, begin_of}
use Rattle.ferry_segment.specs.Entry.{LogEntry}
use Rattle.ferry_stops.proofs.EntryLemmas.{log_shown}
use Rattle.ferry_stops.specs.Blobs.{AllTraced, BlobOf, Gains}
use Rattle.ferry_stops.specs.Chance.{EachStop}
use Rattle.ferry_stops.specs.Counters.{AreApart, IsAbove, IsKept, IsNonce}
use Rattle.ferry_stops.specs.Entries.{Shows, ShowsAt, ShowsSomething}
use Rattle.ferry_write.specs.Session.{rests_at}

-- ---- the begin of a run

-- at the begin of a run nothing of a plain file is in doubt
plain_begun : (h : History) (name : Name) → h.acts ≡ [] → plain_in h name ≡ rests_at (file_at h.start name)
unfolding plain_of
plain_begun h name e = ap (λ (acts : List Act). plain_of (file_at h.start name) acts name) e

unsettled_begun : (h : History) → h.acts ≡ [] → settled h.acts ≡ false
unsettled_begun h e = ap settled e

-- and a stop leaves what a read gives
image_begun : (h : History) (image : Files) → h.acts ≡ [] → ImageOf h image → image ≡ files_now h
image_begun h image e is = (unsettled_image h.start h.acts image (unsettled_begun h e)).0 is ∙ sym (files_begun h e)

pub shows_begun : (end : ℕ) (committed : Option (List LogEntry)) (h : History) → h.acts ≡ [] → ShowsAt (files_now h) end committed
    → EachStop (λ image. Shows image committed) h
shows_begun end committed h e shown image left =
    subst (λ (f : Files). Shows f committed) (sym (image_begun h image e left.image_is)) (end, shown)

-- ---- a later moment

-- where nothing of a file is in doubt, a stop leaves what a read gives
rest_stands : (file image : Option (List ℕ)) (fate : PlainFate) → fate ≡ rests_at file → MayStand fate image → image ≡ file
rest_stands file image fate e (inl is) = is ∙ ap (λ (f : PlainFate). f.read) e
rest_stands file image fate e (inr is) =
    let none : fate.perhaps ≡ None = ap (λ (f : PlainFate). f.perhaps) e in
    let both : None ≡ Some is.0 = sym none ∙ is.1 in absurd (let no : ⊥ = cc in no)

nonce_by : (h : History) (image : Files) (b : Bool) → settled h.acts ≡ b → plain_in h NonceFile ≡ rests_at h.start.nonce → ImageOf h image
    → image.nonce ≡ h.start.nonce
nonce_by h image true e rest is = rest_stands h.start.nonce image.nonce (plain_in h NonceFile) rest (is.after e).nonce
nonce_by h image false e rest is = ap (λ (f : Files). f.nonce) (is.before e)

nonce_left : (h : History) (image : Files) → plain_in h NonceFile ≡ rests_at h.start.nonce → ImageOf h image → image.nonce ≡ h.start.nonce
nonce_left h image rest is = nonce_by h image (settled h.acts) refl rest is

none_new : (h g : History) → Gains h (λ _. ⊥) g → (blob : List ℕ) → BlobOf g blob → BlobOf h blob
none_new h g gains blob is = elim (gains.gained blob is) [
  | inl known ↦ known
  | inr new ↦ absurd new
]

apart_as : (h g : History) → ((blob : List ℕ) → BlobOf g blob → BlobOf h blob) → AreApart (BlobOf h) → AreApart (BlobOf g)
apart_as h g back apart a b x y = apart a b (back a x) (back b y)

-- a blob of a run that had made no act is one of its begin
begun_blob : (h g : History) → h.acts ≡ [] → begin_of g ≡ begin_of h → (blob : List ℕ) → BlobOf h blob → BlobOf (begin_of g) blob
begun_blob h g e begins blob known =
    subst (λ (k : History). BlobOf k blob) (ap (λ (acts : List Act). record h { acts = acts }) e ∙ sym begins) known

-- what was kept at the begin is above, where the file is as it was
above_later : (h g : History) → h.acts ≡ [] → IsKept h → g.start ≡ h.start → plain_in g NonceFile ≡ rests_at h.start.nonce
    → ((blob : List ℕ) → BlobOf g blob → BlobOf h blob) → (image : Files) → ImageOf g image → IsAbove g image
above_later h g e kept start rest back image is =
    let above = kept.fresh.above h.start (start_is_image h.start h.acts (unsettled_begun h e)) in
    let same : h.start.nonce ≡ g.start.nonce = ap (λ (f : Files). f.nonce) (sym start) in
    let left : image.nonce ≡ h.start.nonce = nonce_left g image (rest ∙ ap rests_at same) is ∙ sym same in
    record {
      value = above.value;
      nonce = subst (λ (f : Option (List ℕ)). IsNonce f above.value) (sym left) above.nonce;
      above = λ blob number known block. above.above blob number (back blob known) block;
    }

-- and so is the number that the run began with
numbers_later : (h g : History) → h.acts ≡ [] → begin_of g ≡ begin_of h → plain_in g NonceFile ≡ rests_at h.start.nonce
    → ((blob : List ℕ) → BlobOf g blob → BlobOf h blob) → KeepsNumbers g
numbers_later h g e begins rest back number is = record {
  blobs = λ blob known. inl (begun_blob h g e begins blob (back blob known));
  nonce = λ image left. record { value = number; nonce = subst (λ (f : Option (List ℕ)). IsNonce f number) (sym (same image left)) is; within = omega arith };
  stays = λ image left some. subst IsSome (sym (same image left)) some;
} where
  same : (image : Files) → ImageOf g image → image.nonce ≡ g.start.nonce
  same image left = nonce_left g image (rest ∙ ap (λ (k : History). rests_at k.start.nonce) (sym begins)) left

shows_something : (log : List Located) (image : Files) → ShowsLive log image → ShowsSomething image
shows_something log image shown =
    (Some (map (λ (e : Located). e.entry) shown.now), (suc shown.transaction, log_shown image shown.transaction shown.now shown.is))

-- ---- over a run

-- what is known at each moment
record Moment (log : List Located) (begin now : History) : Type 0 where
  pub live : EachStop (ShowsLive log) now
  pub gains : Gains begin (λ _. ⊥) now
  pub nonce : plain_in now NonceFile ≡ rests_at begin.start.nonce
  pub begins : begin_of now ≡ begin_of begin

moments_of : (t : ℕ) (chosen : List ℕ) (log : List Located) (h g : History) → h.acts ≡ [] → Run t chosen log h g → Moments (Moment log h) h g
moments_of t chosen log h g e run =
    let live = run.live e in
    let gains = run.gains e in
    let nonce = run.plain NonceFile h.start.nonce (plain_begun h NonceFile e) in
    let begins = moments_begin (EachStop (ShowsLive log)) h g live in
    moments_map (λ k. (EachStop (ShowsLive log) k × Gains h (λ _. ⊥) k) × ((plain_in k NonceFile ≡ rests_at h.start.nonce) × (begin_of k ≡ begin_of h)))
    (Moment log h) h g (λ k all. record { live = all.0.0; gains = all.0.1; nonce = all.1.0; begins = all.1.1 })
    (moments_both (λ k. EachStop (ShowsLive log) k × Gains h (λ _. ⊥) k)
    (λ k. (plain_in k NonceFile ≡ rests_at h.start.nonce) × (begin_of k ≡ begin_of h)) h g
    (moments_both (EachStop (ShowsLive log)) (Gains h (λ _. ⊥)) h g live gains)
    (moments_both (λ k. plain_in k NonceFile ≡ rests_at h.start.nonce) (λ k. begin_of k ≡ begin_of h) h g nonce begins))

pub run_kept : (t : ℕ) (chosen : List ℕ) (log : List Located) (h g : History) → Run t chosen log h g → KeepsBlocks h g
run_kept t chosen log h g run e kept =
    moments_map (Moment log h) (λ k. IsKept k × AllTraced k) h g
    (λ k m. (
      record {
        fresh = record {
          apart = apart_as h k (none_new h k m.gains) kept.fresh.apart;
          above = above_later h k e kept (ap (λ (x : History). x.start) m.begins) m.nonce (none_new h k m.gains);
        };
        shows = λ image left. shows_something log image (m.live image left);
      },
      m.gains.traced,
    ))
    (moments_of t chosen log h g e run)

pub run_numbers : (t : ℕ) (chosen : List ℕ) (log : List Located) (h g : History) → Run t chosen log h g → NumbersStay h g
run_numbers t chosen log h g run e =
    moments_map (Moment log h) KeepsNumbers h g (λ k m. numbers_later h k e m.begins m.nonce (none_new h k m.gains)) (moments_of t chosen log h g e run)
