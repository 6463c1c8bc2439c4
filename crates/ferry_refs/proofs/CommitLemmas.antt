-- Lemmas on specs/DeleteSteps.antt: chunks that were dropped are deleted with the name of their archive.
use Rattle.std.proofs.Common.{◌≡◌, ◌<◌, inl, inr, ℕ, Bool, true, false, List, length, Option, Some, None, Result, Ok, Err, IfSome, IfErr, OnOk}
use Rattle.std.proofs.Common.{refl, sym, ◌∙◌, ap, subst}
use Rattle.ferry_base.specs.Limits.{content_limit, zero_id}
use Rattle.ferry_blob.specs.Blob.{blocks}
use Rattle.ferry_disk.proofs.MomentLemmas.{between_both, between_map, between_then}
use Rattle.ferry_disk.specs.Act.{History, files_now}
use Rattle.ferry_disk.specs.Device.{Told, told_files}
use Rattle.ferry_disk.specs.Faults.{EndsAtFault, FailedWhere}
use Rattle.ferry_disk.specs.Files.{Files}
use Rattle.ferry_disk.specs.Moments.{Between, Moments}
use Rattle.ferry_manifest.specs.Manifest.Text.{ManifestText}
use Rattle.ferry_manifest.specs.Manifest.Writing.{manifest_text}
use Rattle.ferry_nonce.specs.Counter.{IsExhausted}
use Rattle.ferry_nonce.specs.declared.fault.NonceFault.TheVariants as Nonces
use Rattle.ferry_next.specs.Next.{without_entry, written_at}
use Rattle.ferry_repo.specs.Opening.{RepoState, repo_view}
use Rattle.ferry_refs.specs.DeleteSteps.{DeletesWith, DropsAll, RefusesDrops, RefusesWith, SoundWith, with_drops}
use Rattle.ferry_refs.specs.Deleting.{AreGoing, LacksManifestBlocks, LeavesCommitted, ShowsEither, next_without}
use Rattle.ferry_segment.specs.Entry.{PutEntry}
use Rattle.ferry_store.proofs.StepLemmas.{did_as, did_front, did_then, moments_then}
use Rattle.ferry_store.proofs.CauseLemmas.{lacks_blocks}
use Rattle.ferry_store.specs.Commit.{CommitsEntry, IsSettled, IsUnspentBy, RefusesManifestOf, ShowsManifest, accepted_in}
use Rattle.ferry_store.specs.Counting.{LacksBlocks}
use Rattle.ferry_store.specs.Dropping.{CommitsWithout, FitsWithout, IsWriting}
use Rattle.ferry_store.specs.Fault.{depot_failed}
use Rattle.ferry_store.specs.Standing.{HoldsManifest, entries_committed, with_manifest}
use Rattle.ferry_store.specs.State.{Did, IsSound, IsUnderWay, KeepsSound, ShowsStanding, Written, all_committed, with_entry}
use Rattle.ferry_store.specs.declared.fault.StoreRefusal.{StoreRefusal}
use Rattle.ferry_store.specs.declared.fault.StoreRefusal.TheVariants as Refusal
use Rattle.ferry_store.specs.declared.store.Store.{Store}
use Rattle.ferry_write.specs.Script.{AllDone}
use Rattle.ferry_piece.proofs.GatherLemmas.{sound_moments}
use Rattle.ferry_refs.proofs.DropLemmas.{DidDrop, leaves_then}

-- ---- what is sound

-- what leaves what was committed is sound
pub leaves_sound : (files : Files) (repo : RepoState) (name time : List ℕ) (counts : Bool) (written : Written) (h g : History)
    → Moments (IsSound (ShowsStanding written) counts) h g → Moments (IsSound (ShowsEither files repo name time written) counts) h g
leaves_sound files repo name time counts written h g m =
    sound_moments (ShowsStanding written) (ShowsEither files repo name time written) counts h g (λ image shown. inl shown) m

-- ---- the name is dropped

fits_accepted : (counts : Bool) (ids : List (List ℕ)) (middle now : Store) (g : History) → now ≡ record middle { accepted = now.accepted }
    → (fits : FitsWithout counts ids middle g) → (fits_now : FitsWithout counts ids now g) × (fits_now.written ≡ fits.written)
fits_accepted counts ids middle now g same fits =
    subst (λ (s : Store). (fits_now : FitsWithout counts ids s g) × (fits_now.written ≡ fits.written)) (sym same) (
      record {
        written = fits.written;
        under_way = fits.under_way;
        settings = fits.settings;
        repo = fits.repo;
        below = fits.below;
        holds = fits.holds;
        manifest = fits.manifest;
        chunks = fits.chunks;
      },
      refl,
    )

drops_named : (store middle now : Store) (ids : List (List ℕ)) (h g : History) → now ≡ record middle { accepted = now.accepted }
    → DropsAll store ids middle h g → DropsAll store ids now h g
drops_named store middle now ids h g same some counts fits =
    let first = some counts fits in
    let next = fits_accepted counts ids middle now g same first.0 in
    (next.0, next.1 ∙ first.1)

pub did_named : {T : Type 0} (store middle now : Store) (ids : List (List ℕ)) (a b : Option Told) (n m : ℕ) (x : T)
    → now ≡ record middle { accepted = now.accepted } → DidDrop store ids middle a b n m (Ok x) → DidDrop store ids now a b n m (Ok x)
did_named {T} store middle now ids a b n m x same p =
    did_as (LeavesCommitted store) (λ (_ : T). DropsAll store ids middle) (LeavesCommitted store) (λ (_ : T). DropsAll store ids now) a b n m x x
    (λ h g e. e) (λ h g q. drops_named store middle now ids h g same q) p

-- the manifest that is committed then
pub next_is : (store middle now : Store) (name time : List ℕ) → IsSettled store
    → middle ≡ record store { session = middle.session; spent = middle.spent } → now ≡ record middle { accepted = now.accepted }
    → accepted_in now ≡ without_entry (accepted_in middle) name
    → with_manifest (repo_view now.repo) (written_at (accepted_in now) time)
    ≡ with_manifest (repo_view store.repo) (next_without (repo_view store.repo).manifest name time)
next_is store middle now name time settled dropped named accepted =
    let repo : repo_view now.repo ≡ repo_view store.repo = ap (λ (s : Store). repo_view s.repo) named ∙ ap (λ (s : Store). repo_view s.repo) dropped in
    let manifest : accepted_in middle ≡ (repo_view store.repo).manifest = ap (λ (s : Store). accepted_in s) dropped ∙ settled in
    ap (λ (r : RepoState). with_manifest r (written_at (accepted_in now) time)) repo
    ∙ (ap (λ (m : ManifestText). with_manifest (repo_view store.repo) (written_at m time)) accepted
    ∙ ap (λ (m : ManifestText). with_manifest (repo_view store.repo) (next_without m name time)) manifest)

-- ---- all is committed

module _ (store now last : Store) (name time : List ℕ) (ids : List (List ℕ)) (blob : List ℕ) (next : RepoState)
    (next_same : next ≡ with_manifest (repo_view store.repo) (next_without (repo_view store.repo).manifest name time)) where
  -- what is shown while it is
  shows_with : (files : Files) (written : Written) (image : Files) → AreGoing files (repo_view store.repo) name ids
      → ShowsManifest next (with_entry (with_drops written ids) (PutEntry zero_id blob)) image
      → ShowsEither files (repo_view store.repo) name time written image
  shows_with files written image going (inl shown) = inl shown
  shows_with files written image going (inr shown) =
      inr (record {
        ids = ids;
        going = going;
        blob = blob;
        shows = shown.0;
        manifest = record {
          entries = entries_committed (with_entry (with_drops written ids) (PutEntry zero_id blob));
          is = refl;
          holds = subst (λ (r : RepoState). HoldsManifest r (entries_committed (with_entry (with_drops written ids) (PutEntry zero_id blob)))) next_same
              shown.1;
        };
      })

  sound_then : (h g i : History) → LeavesCommitted store h g → AllDone h g → DropsAll store ids now h g
      → CommitsEntry next now.session now.counter (PutEntry zero_id blob) g i → SoundWith name time ids store h i
  sound_then h g i each done some commits going counts fits =
      let first = some counts fits in
      let files = files_now h in
      let repo = repo_view store.repo in
      moments_then (IsSound (ShowsEither files repo name time fits.written) counts) h g i
      (leaves_sound files repo name time counts fits.written h g (each counts fits)) done
      (sound_moments (ShowsManifest next (with_entry (with_drops fits.written ids) (PutEntry zero_id blob)))
      (ShowsEither files repo name time fits.written) counts g i (λ image shown. shows_with files fits.written image going shown)
      (commits counts (with_drops fits.written ids)
      (subst (λ (w : Written). IsUnderWay counts now.session now.counter w g) first.1 first.0.under_way)))

  deletes_then : (h g i : History) → repo_view last.repo ≡ next → DropsAll store ids now h g → CommitsWithout now last g i
      → DeletesWith name time ids store last h i
  deletes_then h g i view some commits going counts fits =
      let first = some counts fits in
      let second = commits true counts ids first.0 in
      record {
        ids = ids;
        going = going;
        count_is = refl;
        fits = second.0;
        blob = second.1.0;
        written_is = second.1.1 ∙ ap (λ (w : Written). all_committed (with_entry w (PutEntry zero_id second.1.0))) first.1;
        repo_is = view ∙ next_same;
      }

  -- where all was committed
  with_all : {T U : Type 0} (E : Store → History → History → Type 0) (a b c : Option Told) (n m k : ℕ) (x : T) (y : U)
      → repo_view last.repo ≡ next → DidDrop store ids now a b n m (Ok x)
      → Did {T = U} (CommitsEntry next now.session now.counter (PutEntry zero_id blob)) (λ _. E last) b c m k (Ok y)
      → Between b c (CommitsWithout now last)
      → Did {T = U} (SoundWith name time ids store) (λ _. DeletesWith name time ids store last) a c n k (Ok y)
  with_all {T} {U} E a b c n m k x y view some commits without =
      let last_step : Did {T = U} (CommitsEntry next now.session now.counter (PutEntry zero_id blob)) (λ _. CommitsWithout now last) b c m k (Ok y) = record {
        each = commits.each;
        end = between_map b c (λ h g. (AllDone h g × E last h g) × CommitsWithout now last h g) (λ h g. AllDone h g × CommitsWithout now last h g)
            (λ h g e. (e.0.0, e.1)) (between_both b c (λ h g. AllDone h g × E last h g) (CommitsWithout now last) commits.end without);
        ends = commits.ends;
        cause = commits.cause;
      } in
      did_then (LeavesCommitted store) (λ (_ : T). DropsAll store ids now) (CommitsEntry next now.session now.counter (PutEntry zero_id blob))
      (λ (_ : U). CommitsWithout now last) (SoundWith name time ids store) (λ (_ : U). DeletesWith name time ids store last) a b c n m k x (Ok y)
      (λ h g i e done q f. sound_then h g i e done q f) (λ z h g i q f. deletes_then h g i view q f) some last_step

  -- where it wasn't
  with_front : {T U : Type 0} (E : Store → History → History → Type 0) (a b c : Option Told) (n m k : ℕ) (x : T) (refusal : StoreRefusal)
      → DidDrop store ids now a b n m (Ok x)
      → Did {T = U} (CommitsEntry next now.session now.counter (PutEntry zero_id blob)) (λ _. E last) b c m k (Err refusal)
      → Did {T = U} (SoundWith name time ids store) (λ _. DeletesWith name time ids store last) a c n k (Err refusal)
  with_front {T} {U} E a b c n m k x refusal some commits =
      let both = did_then (LeavesCommitted store) (λ (_ : T). DropsAll store ids now)
      (CommitsEntry next now.session now.counter (PutEntry zero_id blob)) (λ (_ : U). E last) (SoundWith name time ids store)
      (λ (_ : U) (h : History) (g : History). Unit {0}) a b c n m k x (Err refusal)
      (λ h g i e done q f. sound_then h g i e done q f) (λ z h g i q f. tt) some commits in
      record { each = both.each; end = tt; ends = both.ends; cause = both.cause }

  pub with_commit : {T U : Type 0} (E : Store → History → History → Type 0) (a b c : Option Told) (n m k : ℕ) (x : T) (result : Result U StoreRefusal)
      → OnOk result (repo_view last.repo ≡ next) → DidDrop store ids now a b n m (Ok x)
      → Did {T = U} (CommitsEntry next now.session now.counter (PutEntry zero_id blob)) (λ _. E last) b c m k result
      → OnOk result (Between b c (CommitsWithout now last))
      → Did {T = U} (SoundWith name time ids store) (λ _. DeletesWith name time ids store last) a c n k result
  with_commit {T} {U} E a b c n m k x (Ok y) view some commits without = with_all {T = T} {U = U} E a b c n m k x y view some commits without
  with_commit {T} {U} E a b c n m k x (Err refusal) view some commits without = with_front {T = T} {U = U} E a b c n m k x refusal some commits

-- where a chunk wasn't dropped
pub with_none : {T U : Type 0} (store now last : Store) (name time : List ℕ) (ids : List (List ℕ)) (a b : Option Told) (n m : ℕ) (refusal : StoreRefusal)
    → DidDrop {T = T} store ids now a b n m (Err refusal)
    → Did {T = U} (SoundWith name time ids store) (λ _. DeletesWith name time ids store last) a b n m (Err refusal)
with_none {T} {U} store now last name time ids a b n m refusal p =
    did_front (LeavesCommitted store) (λ (_ : T). DropsAll store ids now) (SoundWith name time ids store) (λ (_ : U). DeletesWith name time ids store last)
    a b n m refusal
    (λ h g each going counts fits. leaves_sound (files_now h) (repo_view store.repo) name time counts fits.written h g (each counts fits)) p

-- ---- nothing is committed

-- where chunks were dropped, and a commit leaves what was committed
pub leaves_both : (store now : Store) (ids : List (List ℕ)) {T : Type 0} (a b c : Option Told) (n m : ℕ) (x : T) → DidDrop store ids now a b n m (Ok x)
    → Between b c (KeepsSound now.session now.counter) → Between a c (LeavesCommitted store)
leaves_both store now ids {T} a b c n m x some keeps =
    between_then a b c (λ h g. LeavesCommitted store h g × (AllDone h g × DropsAll store ids now h g)) (KeepsSound now.session now.counter)
    (LeavesCommitted store) (λ h g i e f. leaves_then store now ids h g i e.0 e.1.0 e.1.1 f)
    (between_both a b (LeavesCommitted store) (λ h g. AllDone h g × DropsAll store ids now h g) some.each some.end) keeps

-- ---- refusals

-- no chunk was dropped
pub drops_refused : (repo : RepoState) (name time : List ℕ) (now : Option Told) (refusal : StoreRefusal) → RefusesDrops refusal
    → RefusesWith repo name time now refusal
drops_refused repo name time now (Refusal.Write fault) refused = tt
drops_refused repo name time now Refusal.Memory refused = tt
drops_refused repo name time now (Refusal.Repo fault) refused = absurd refused
drops_refused repo name time now (Refusal.Nonce fault) refused = absurd refused
drops_refused repo name time now Refusal.Committed refused = absurd refused
drops_refused repo name time now Refusal.TooLarge refused = absurd refused
drops_refused repo name time now Refusal.Entropy refused = absurd refused

-- the manifest wasn't committed, of which there are so many bytes
module _ (repo : RepoState) (name time : List ℕ) (store last : Store) (salt text : List ℕ) (sized : length salt ≡ 64)
    (same : text ≡ manifest_text repo.keys salt (next_without repo.manifest name time)) where
  -- the counter blocks of its blob aren't left
  lacks_then : (b e : Option Told) → IfSome b (λ t. IsWriting store t.history) → FailedWhere false b e → IsExhausted store.counter (blocks (length text))
      → Between b e (λ h g. g ≡ h) → IfSome e (λ t. LacksManifestBlocks repo name time t.history.start (told_files t))
  lacks_then b None writes ends exhausted kept = tt
  lacks_then None (Some now) writes ends exhausted kept = absurd (let no : ⊥ = cc in no)
  lacks_then (Some told) (Some now) writes ends exhausted kept =
      let first : now ≡ kept.0 = (let f = kept.1 in cc) in
      let is : now.history ≡ told.history = ap (λ (t : Told). t.history) first ∙ kept.2 in
      let lacks : LacksBlocks told.history.start (files_now told.history) (blocks (length text)) =
      lacks_blocks false store.session store.counter writes.written told.history (blocks (length text)) exhausted writes.under_way in (
        salt,
        (
          sized,
          subst (λ (x : List ℕ). LacksBlocks now.history.start (files_now now.history) (blocks (length x))) same
              (subst (λ (h : History). LacksBlocks h.start (files_now h) (blocks (length text))) (sym is) lacks),
        ),
      )

  pub commit_refused : (b e : Option Told) (r : Result (Unit {0}) StoreRefusal) → IfSome b (λ t. IsWriting store t.history)
      → EndsAtFault depot_failed b e r → IfErr r (RefusesManifestOf store.counter (length text)) → IfErr r (IsUnspentBy store last b e)
      → IfErr r (RefusesWith repo name time e)
  commit_refused b e (Ok x) writes ends refused kept = tt
  commit_refused b e (Err Refusal.TooLarge) writes ends refused kept =
      (salt, (sized, subst (λ (x : List ℕ). content_limit < length x) same refused))
  commit_refused b e (Err (Refusal.Nonce Nonces.Exhausted)) writes ends refused kept = lacks_then b e writes ends refused (kept refl).1
  commit_refused b e (Err (Refusal.Nonce Nonces.Missing)) writes ends refused kept = tt
  commit_refused b e (Err (Refusal.Nonce Nonces.Text)) writes ends refused kept = tt
  commit_refused b e (Err (Refusal.Nonce Nonces.Device)) writes ends refused kept = tt
  commit_refused b e (Err (Refusal.Nonce Nonces.Memory)) writes ends refused kept = tt
  commit_refused b e (Err (Refusal.Repo fault)) writes ends refused kept = absurd refused
  commit_refused b e (Err (Refusal.Write fault)) writes ends refused kept = tt
  commit_refused b e (Err Refusal.Committed) writes ends refused kept = tt
  commit_refused b e (Err Refusal.Entropy) writes ends refused kept = tt
  commit_refused b e (Err Refusal.Memory) writes ends refused kept = tt
