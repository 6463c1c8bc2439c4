-- Lemmas on the command that compacts a repository: what its target keeps at each moment.
use Rattle.std.proofs.Common.{◌≡◌, inl, inr, ℕ, List, [], map, Option, Some, None, IfSome}
use Rattle.std.proofs.Common.{refl, sym, ap, subst}
use Rattle.ferry_compact.specs.Choice.{chosen_in}
use Rattle.ferry_compact.specs.Compact.{KeepsBlocks, KeepsLive, NumbersStay, RemovesFront, ShowsLive}
use Rattle.ferry_disk.proofs.MomentLemmas.{between_map}
use Rattle.ferry_disk.specs.Act.{History, RemoveOf, TellOf, files_now}
use Rattle.ferry_disk.specs.Device.{Told, told_files}
use Rattle.ferry_disk.specs.Image.{plain_in}
use Rattle.ferry_disk.specs.Moments.{Between, Moments}
use Rattle.ferry_disk.specs.declared.name.Name.TheVariants.{Config as ConfigFile}
use Rattle.ferry_log.proofs.LawLemmas.{one_log, one_state}
use Rattle.ferry_log.specs.Log.{IsLog, Located}
use Rattle.ferry_log.specs.State.{IsStateOf, LogState}
use Rattle.ferry_nonce.proofs.MomentLemmas.{numbers_begun}
use Rattle.ferry_nonce.specs.Counter.{KeepsNumbers, begin_of}
use Rattle.ferry_stops.specs.Blobs.{AllTraced}
use Rattle.ferry_stops.specs.Chance.{EachStop}
use Rattle.ferry_stops.specs.Counters.{IsKept}
use Rattle.ferry_store.proofs.SoundLemmas.{image_begun, traced_begun}
use Rattle.ferry_status.specs.Devices.{Devices}
use Rattle.ferry_status.specs.declared.status.Status.TheVariants as Statuses
use Rattle.ferry_store.proofs.StepLemmas.{moments_begin, moments_both, moments_here, moments_map}
use Rattle.ferry_store.specs.State.{IsStep}
use Rattle.ferry_status.proofs.LeftLemmas.{now_left}
use Rattle.ferry_run_compact.specs.Compact.{CompactRemoves, CompactsTarget, ReadsTarget, RefusesCompacting, RemovesThenTells}
use Rattle.ferry_run_compact.specs.Compact.{CompactEach, CompactLeaves, KeepsObjects}
use Rattle.ferry_write.specs.Session.{BeginBySettle, KeepsPlain, SettlesFirst, rests_at}
use Rattle.ferry_run_compact.proofs.PlainLemmas.{config_left, plain_begun}

-- ---- where nothing was done

here_shows : (h : History) → (h.acts ≡ [] → (transaction : ℕ) (log : List Located) → IsLog (files_now h) transaction log
    → Moments (EachStop (KeepsObjects log (files_now h))) h h)
here_shows h e transaction log is =
    moments_here (EachStop (KeepsObjects log (files_now h))) h
    (λ image left. subst (KeepsObjects log (files_now h)) (sym (image_begun h image e left.image_is)) (record {
      live = record { transaction = transaction; now = log; is = is; live = λ key. refl };
      config = refl;
    }))

pub here_each : (h : History) → CompactEach h h
here_each h = (
  here_shows h,
  (
    λ e kept. moments_here (λ k. IsKept k × AllTraced k) h (kept, traced_begun h e),
    (λ e. moments_here KeepsNumbers h (numbers_begun h e), λ e. subst BeginBySettle (sym e) tt),
  ),
)

-- nothing was removed
pub here_removes : (threshold : ℕ) (h : History) → CompactRemoves threshold h h
here_removes threshold h e state is = record {
  compacted = h;
  removes = record {
    written = h;
    stay = λ n le. refl;
    removes = record { front = []; rest = map RemoveOf (chosen_in threshold state.extents); parts = refl; now_is = inl refl };
  };
  line = [];
  tells = inl refl;
}

-- ---- where segments were compacted, or that was tried

-- What is known of that, wherever it ended.
pub record Went (state : LogState) (chosen : List ℕ) (before now : History) : Type 0 where
  pub is : IsStateOf (files_now before) state
  pub live : KeepsLive state.transaction before now
  pub kept : KeepsBlocks before now
  pub numbers : NumbersStay before now
  pub first : SettlesFirst before now
  pub removes : RemovesFront state.transaction chosen before now
  pub plain : KeepsPlain before now

went_shows : (state : LogState) (chosen : List ℕ) (h g : History) → Went state chosen h g
    → (h.acts ≡ [] → (transaction : ℕ) (log : List Located) → IsLog (files_now h) transaction log
    → Moments (EachStop (KeepsObjects log (files_now h))) h g)
went_shows state chosen h g went e transaction log is =
    let same = one_log (files_now h) transaction state.transaction log went.is.log is went.is.is in
    let Rests : History → Type 0 = λ k. plain_in k ConfigFile ≡ rests_at h.start.config in
    let Begins : History → Type 0 = λ k. begin_of k ≡ begin_of h in
    let live : Moments (EachStop (ShowsLive log)) h g = went.live log e (subst (λ (t : ℕ). IsLog (files_now h) t log) same.0 is) in
    let rests : Moments Rests h g = went.plain ConfigFile h.start.config (plain_begun h ConfigFile e) in
    moments_map (λ k. EachStop (ShowsLive log) k × (Rests k × Begins k)) (EachStop (KeepsObjects log (files_now h))) h g
    (λ k all image left. record {
      live = all.0 image left;
      config = config_left h k e (ap (λ (b : History). b.start) all.1.1) all.1.0 image left.image_is;
    })
    (moments_both (EachStop (ShowsLive log)) (λ k. Rests k × Begins k) h g live
    (moments_both Rests Begins h g rests (moments_begin Rests h g rests)))

pub went_each : (state : LogState) (chosen : List ℕ) (h g : History) → Went state chosen h g → CompactEach h g
went_each state chosen h g went = (went_shows state chosen h g went, (went.kept, (went.numbers, went.first)))

-- and a line that is told behind it
pub went_removes : (state : LogState) (threshold : ℕ) (line : List ℕ) (h g i : History) → Went state (chosen_in threshold state.extents) h g
    → IsStep (TellOf line) g i → CompactRemoves threshold h i
went_removes state threshold line h g i went tells e other is =
    subst (λ (s : LogState). RemovesThenTells s.transaction (chosen_in threshold s.extents) h i) (one_state (files_now h) state other went.is is)
    (record { compacted = g; removes = went.removes; line = line; tells = tells })

-- what a read gives at the end of a run is what a stop may leave then
pub each_leaves : (h g : History) → CompactEach h g → CompactLeaves h g
each_leaves h g each e transaction log is =
    let moments = each.0 e transaction log is in
    moments.last (files_now g) (now_left (EachStop (KeepsObjects log (files_now h))) h g e each.1.1.1 moments)

-- ---- a run that memory refused before its command

pub compacts_nothing : (threshold : ℕ) (before : Devices) → CompactsTarget threshold before Statuses.Memory before
compacts_nothing threshold before =
    let told = before.target.told in
    let each : Between told told CompactEach = here_told CompactEach told here_each in
    record {
      source = refl;
      output = refl;
      entropy = refl;
      refused = inr (refused_told told);
      ended = λ e. absurd (let no : ⊥ = cc in no);
      left = between_map told told CompactEach CompactLeaves each_leaves each;
      removed = here_told (CompactRemoves threshold) told (here_removes threshold);
      shut = here_told (λ h g. (ReadsTarget (files_now h) → ⊥) → g ≡ h) told (λ h shut. refl);
      each = each;
    } where
      here_told : (E : History → History → Type 0) (told : Option Told) → ((h : History) → E h h) → Between told told E
      here_told E None here = tt
      here_told E (Some told) here = (told, refl, here told.history)

      refused_told : (told : Option Told) → IfSome told (λ b. IfSome told (λ t. RefusesCompacting (told_files b) (told_files t) Statuses.Memory))
      refused_told None = tt
      refused_told (Some told) = tt
