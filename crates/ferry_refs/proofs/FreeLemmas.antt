-- Lemmas on specs/TagSteps.antt: chunks that were dropped are deleted with the commit of the accepted manifest.
use Rattle.std.proofs.Common.{◌≡◌, ◌<◌, ◌++◌, inl, inr, ℕ, true, List, length, Option, option_map, Result, Ok, Err, IfErr, OnOk, refl, ◌∙◌, ap, subst}
use Rattle.ferry_base.specs.Limits.{content_limit, zero_id}
use Rattle.ferry_disk.proofs.MomentLemmas.{between_both, between_map}
use Rattle.ferry_disk.specs.Act.{History}
use Rattle.ferry_disk.specs.Device.{Told}
use Rattle.ferry_disk.specs.Files.{Files}
use Rattle.ferry_disk.specs.Moments.{Between}
use Rattle.ferry_mac.specs.declared.keys.Keys.{Keys}
use Rattle.ferry_manifest.specs.Manifest.Text.{ManifestText}
use Rattle.ferry_manifest.specs.Manifest.Writing.{manifest_text}
use Rattle.ferry_next.specs.Next.{written_at}
use Rattle.ferry_piece.proofs.GatherLemmas.{sound_moments}
use Rattle.ferry_repo.specs.Opening.{RepoState, repo_view}
use Rattle.ferry_segment.specs.Entry.{PutEntry}
use Rattle.ferry_store.proofs.StepLemmas.{did_front, did_then, moments_then}
use Rattle.ferry_store.specs.Commit.{CommitsEntry, RefusesManifestOf, ShowsManifest, accepted_in}
use Rattle.ferry_store.specs.Dropping.{CommitsWithout}
use Rattle.ferry_store.specs.Standing.{entries_committed, with_manifest}
use Rattle.ferry_store.specs.State.{Did, IsSound, IsUnderWay, ShowsStanding, Written, all_committed, with_entry}
use Rattle.ferry_store.specs.declared.fault.StoreRefusal.{StoreRefusal}
use Rattle.ferry_store.specs.declared.fault.StoreRefusal.TheVariants as Refusal
use Rattle.ferry_store.specs.declared.store.Store.{Store}
use Rattle.ferry_write.specs.Script.{AllDone}
use Rattle.ferry_refs.proofs.DropLemmas.{DidDrop}
use Rattle.ferry_refs.specs.DeleteSteps.{DropsAll, RefusesDrops, with_drops}
use Rattle.ferry_refs.specs.Deleting.{LeavesCommitted}
use Rattle.ferry_refs.specs.TagSteps.{EachWithout, Frees, FreesSound, RefusesFreeing, ShowsWithout}

-- ---- what is sound

-- what leaves what was committed shows it with or without the chunks
leaves_without : (next : RepoState) (ids : List (List ℕ)) (store : Store) (h g : History) → LeavesCommitted store h g → EachWithout next ids store h g
leaves_without next ids store h g leaves counts fits =
    sound_moments (ShowsStanding fits.written) (ShowsWithout next ids fits.written) counts h g (λ image shown. inl shown) (leaves counts fits)

-- the manifest that is committed then
pub freed_next : (store now : Store) (time : List ℕ) → now ≡ record store { session = now.session; spent = now.spent }
    → with_manifest (repo_view now.repo) (written_at (accepted_in now) time) ≡ with_manifest (repo_view store.repo) (written_at (accepted_in store) time)
freed_next store now time dropped =
    ap (λ (s : Store). with_manifest (repo_view s.repo) (written_at (accepted_in s) time)) dropped

-- ---- all is committed

module _ (store now last : Store) (time : List ℕ) (ids : List (List ℕ)) (blob : List ℕ) (next : RepoState)
    (next_same : next ≡ with_manifest (repo_view store.repo) (written_at (accepted_in store) time)) where
  -- what is shown while it is
  shows_without : (written : Written) (image : Files) → ShowsManifest next (with_entry (with_drops written ids) (PutEntry zero_id blob)) image
      → ShowsWithout next ids written image
  shows_without written image (inl shown) = inl shown
  shows_without written image (inr shown) =
      inr (
        blob,
        (
          shown.0,
          record {
            entries = entries_committed (with_entry (with_drops written ids) (PutEntry zero_id blob));
            is = refl;
            holds = shown.1;
          },
        ),
      )

  frees_sound : (h g i : History) → LeavesCommitted store h g → AllDone h g → DropsAll store ids now h g
      → CommitsEntry next now.session now.counter (PutEntry zero_id blob) g i → FreesSound time ids store h i
  frees_sound h g i each done some commits =
      subst (λ (r : RepoState). EachWithout r ids store h i) next_same (λ counts fits.
      let first = some counts fits in
      moments_then (IsSound (ShowsWithout next ids fits.written) counts) h g i (leaves_without next ids store h g each counts fits) done
      (sound_moments (ShowsManifest next (with_entry (with_drops fits.written ids) (PutEntry zero_id blob))) (ShowsWithout next ids fits.written) counts g i
      (λ image shown. shows_without fits.written image shown)
      (commits counts (with_drops fits.written ids)
      (subst (λ (w : Written). IsUnderWay counts now.session now.counter w g) first.1 first.0.under_way))))

  frees_then : (h g i : History) → DropsAll store ids now h g → CommitsWithout now last g i → Frees ids store last h i
  frees_then h g i some commits counts fits =
      let first = some counts fits in
      let second = commits true counts ids first.0 in
      record {
        fits = second.0;
        blob = second.1.0;
        written_is = second.1.1 ∙ ap (λ (w : Written). all_committed (with_entry w (PutEntry zero_id second.1.0))) first.1;
      }

  free_all : {T U : Type 0} (E : Store → History → History → Type 0) (a b c : Option Told) (n m k : ℕ) (x : T) (y : U)
      → DidDrop store ids now a b n m (Ok x)
      → Did {T = U} (CommitsEntry next now.session now.counter (PutEntry zero_id blob)) (λ _. E last) b c m k (Ok y)
      → Between b c (CommitsWithout now last) → Did {T = U} (FreesSound time ids store) (λ _. Frees ids store last) a c n k (Ok y)
  free_all {T} {U} E a b c n m k x y some commits without =
      let last_step : Did {T = U} (CommitsEntry next now.session now.counter (PutEntry zero_id blob)) (λ _. CommitsWithout now last) b c m k (Ok y) = record {
        each = commits.each;
        end = between_map b c (λ h g. (AllDone h g × E last h g) × CommitsWithout now last h g) (λ h g. AllDone h g × CommitsWithout now last h g)
            (λ h g e. (e.0.0, e.1)) (between_both b c (λ h g. AllDone h g × E last h g) (CommitsWithout now last) commits.end without);
        ends = commits.ends;
        cause = commits.cause;
      } in
      did_then (LeavesCommitted store) (λ (_ : T). DropsAll store ids now) (CommitsEntry next now.session now.counter (PutEntry zero_id blob))
      (λ (_ : U). CommitsWithout now last) (FreesSound time ids store) (λ (_ : U). Frees ids store last) a b c n m k x (Ok y)
      (λ h g i e done q f. frees_sound h g i e done q f) (λ z h g i q f. frees_then h g i q f) some last_step

  free_front : {T U : Type 0} (E : Store → History → History → Type 0) (a b c : Option Told) (n m k : ℕ) (x : T) (refusal : StoreRefusal)
      → DidDrop store ids now a b n m (Ok x)
      → Did {T = U} (CommitsEntry next now.session now.counter (PutEntry zero_id blob)) (λ _. E last) b c m k (Err refusal)
      → Did {T = U} (FreesSound time ids store) (λ _. Frees ids store last) a c n k (Err refusal)
  free_front {T} {U} E a b c n m k x refusal some commits =
      let both = did_then (LeavesCommitted store) (λ (_ : T). DropsAll store ids now)
      (CommitsEntry next now.session now.counter (PutEntry zero_id blob)) (λ (_ : U). E last) (FreesSound time ids store)
      (λ (_ : U) (h : History) (g : History). Unit {0}) a b c n m k x (Err refusal)
      (λ h g i e done q f. frees_sound h g i e done q f) (λ z h g i q f. tt) some commits in
      record { each = both.each; end = tt; ends = both.ends; cause = both.cause }

  pub free_commit : {T U : Type 0} (E : Store → History → History → Type 0) (a b c : Option Told) (n m k : ℕ) (x : T) (result : Result U StoreRefusal)
      → DidDrop store ids now a b n m (Ok x)
      → Did {T = U} (CommitsEntry next now.session now.counter (PutEntry zero_id blob)) (λ _. E last) b c m k result
      → OnOk result (Between b c (CommitsWithout now last))
      → Did {T = U} (FreesSound time ids store) (λ _. Frees ids store last) a c n k result
  free_commit {T} {U} E a b c n m k x (Ok y) some commits without = free_all {T = T} {U = U} E a b c n m k x y some commits without
  free_commit {T} {U} E a b c n m k x (Err refusal) some commits without = free_front {T = T} {U = U} E a b c n m k x refusal some commits

-- where a chunk wasn't dropped
pub free_none : {T U : Type 0} (store now last : Store) (time : List ℕ) (ids : List (List ℕ)) (a b : Option Told) (n m : ℕ) (refusal : StoreRefusal)
    → DidDrop {T = T} store ids now a b n m (Err refusal)
    → Did {T = U} (FreesSound time ids store) (λ _. Frees ids store last) a b n m (Err refusal)
free_none {T} {U} store now last time ids a b n m refusal p =
    did_front (LeavesCommitted store) (λ (_ : T). DropsAll store ids now) (FreesSound time ids store) (λ (_ : U). Frees ids store last)
    a b n m refusal
    (λ h g each. leaves_without (with_manifest (repo_view store.repo) (written_at (accepted_in store) time)) ids store h g each) p

-- ---- why it isn't

-- no chunk was dropped
pub free_drops : (keys : Keys) (manifest : ManifestText) (refusal : StoreRefusal) → RefusesDrops refusal → RefusesFreeing keys manifest refusal
free_drops keys manifest (Refusal.Write fault) refused = tt
free_drops keys manifest Refusal.Memory refused = tt
free_drops keys manifest (Refusal.Repo fault) refused = absurd refused
free_drops keys manifest (Refusal.Nonce fault) refused = absurd refused
free_drops keys manifest Refusal.Committed refused = absurd refused
free_drops keys manifest Refusal.TooLarge refused = absurd refused
free_drops keys manifest Refusal.Entropy refused = absurd refused

-- the manifest wasn't committed
pub free_refused : (store : Store) (keys : Keys) (manifest : ManifestText) (salt text : List ℕ) (r : Result (Unit {0}) StoreRefusal) → length salt ≡ 64
    → text ≡ manifest_text keys salt manifest → IfErr r (RefusesManifestOf store.counter (length text)) → IfErr r (RefusesFreeing keys manifest)
free_refused store keys manifest salt text (Ok x) sized same refused = tt
free_refused store keys manifest salt text (Err Refusal.TooLarge) sized same refused =
    (salt, (sized, subst (λ (t : List ℕ). content_limit < length t) same refused))
free_refused store keys manifest salt text (Err (Refusal.Repo fault)) sized same refused = absurd refused
free_refused store keys manifest salt text (Err (Refusal.Write fault)) sized same refused = tt
free_refused store keys manifest salt text (Err (Refusal.Nonce fault)) sized same refused = tt
free_refused store keys manifest salt text (Err Refusal.Committed) sized same refused = tt
free_refused store keys manifest salt text (Err Refusal.Entropy) sized same refused = tt
free_refused store keys manifest salt text (Err Refusal.Memory) sized same refused = tt

-- a salt of 64 bytes was drawn where it is committed
pub salt_drawn : (result : Result (Unit {0}) StoreRefusal) (salt : List ℕ) (drawn drawn_now : Option (List ℕ)) → length salt ≡ 64
    → OnOk result (drawn_now ≡ option_map (λ (bytes : List ℕ). bytes ++ salt) drawn)
    → OnOk result ((some : List ℕ) × ((length some ≡ 64) × (drawn_now ≡ option_map (λ (bytes : List ℕ). bytes ++ some) drawn)))
salt_drawn (Ok x) salt drawn drawn_now sized is = (salt, (sized, is))
salt_drawn (Err refusal) salt drawn drawn_now sized is = tt
