-- A new target, and what is live in it behind a copy.
use Rattle.std.proofs.Common.{◌≡◌, ◌≢◌, ◌⊎◌, inl, inr, ℕ, false, true, List, [], Option, Some, None, IsSome, refl, sym, ◌∙◌, ap, subst}
use Rattle.ferry_base.specs.Limits.{zero_id}
use Rattle.ferry_blob.specs.Blob.{OpensTo}
use Rattle.ferry_carry.specs.Grow.{Grown, job}
use Rattle.ferry_carry.specs.declared.options.Carried.{Carried}
use Rattle.ferry_check.specs.Verify.{AllOpen, IsChunk, Opens}
use Rattle.ferry_disk.specs.Act.{History, files_now}
use Rattle.ferry_disk.specs.Files.{Files}
use Rattle.ferry_gen.proofs.MadeFilesLemmas.{entries_are, shows}
use Rattle.ferry_gen.proofs.MadeLemmas.{settings_read}
use Rattle.ferry_log.proofs.FitsLemmas.{place_holds}
use Rattle.ferry_log.specs.State.{LogState, place_in}
use Rattle.ferry_log.specs.declared.place.Place.{Place}
use Rattle.ferry_mac.specs.declared.keys.Keys.{Keys}
use Rattle.ferry_manifest.specs.Manifest.Text.{ManifestText}
use Rattle.ferry_repo.proofs.LawLemmas.{one_repo, opens_fits}
use Rattle.ferry_repo.specs.Objects.{HasBlob}
use Rattle.ferry_repo.specs.Opening.{OpensFilesTo, RepoState, repo_view}
use Rattle.ferry_store.proofs.StandingLemmas.{opened_unlocks, opens_live, state_live}
use Rattle.ferry_store.specs.Commit.{accepted_in}
use Rattle.ferry_store.specs.New.{first_manifest}
use Rattle.ferry_store.specs.Standing.{OpensLive, UnlocksSettings, entries_of, live_in}
use Rattle.ferry_store.specs.declared.store.Store.{Store}
use Rattle.ferry_run_drill.specs.Drill.{drill_time, target_secret}
use Rattle.ferry_run_drill.specs.Steps.{CopiesNames, IsMadeNew, drill_origin}

module _ (store : Store) (before begun : History) (made : IsMadeNew store before begun) where
  -- what is accepted is its first manifest
  pub accepts_first : accepted_in store ≡ first_manifest drill_time
  accepts_first =
      made.settled
      ∙ (ap (λ (r : RepoState). r.manifest) (one_repo (files_now begun) target_secret (repo_view store.repo) made.new.repo made.opens made.new.opens)
      ∙ made.first)

  -- it has no archive
  pub new_archives : (accepted_in store).archives ≡ []
  new_archives = ap (λ (m : ManifestText). m.archives) accepts_first

  -- no chunk is live
  pub none_live : (id blob : List ℕ) → id ≢ zero_id → live_in id (entries_of made.fits.written) ≡ Some blob → ⊥
  none_live id blob apart live =
      let entries = made.fits.manifest.entries in
      let committed : live_in id entries ≡ Some blob = ap (live_in id) (sym (entries_are store begun made.fits made.none)) ∙ live in
      let has = (state_live (files_now begun) made.new.repo.log entries made.new.opens.opens.unlocks.reads (shows store begun made.fits made.none) id blob).1
      committed in
      apart (made.new.alone id has.place has.placed)

-- behind a copy each live chunk opens
module _ (source : Files) (repo : RepoState) (names : List (List ℕ)) (carried : Carried) (before now : History)
    (c : CopiesNames source repo names carried before now) where
  grown : Grown (job [] (accepted_in c.store) (drill_origin source repo) names) c.added false c.store c.store_now c.begun now c.made.fits
  grown = c.carries.0 false c.made.fits

  abbrev next : RepoState
  next = repo_view c.store_now.repo

  unlocks : UnlocksSettings target_secret (files_now now).config next.config next.keys
  unlocks =
      let old = repo_view c.store.repo in
      let config : (files_now now).config ≡ (files_now c.begun).config =
      settings_read c.store_now now grown.fits_now ∙ (grown.config ∙ sym (settings_read c.store c.begun c.made.fits)) in
      let unlocked : UnlocksSettings target_secret (files_now now).config old.config old.keys =
      subst (λ (o : Option (List ℕ)). UnlocksSettings target_secret o old.config old.keys) (sym config)
      (opened_unlocks (files_now c.begun) target_secret old c.made.opens) in
      subst (UnlocksSettings target_secret (files_now now).config next.config) (sym grown.most.keys)
      (subst (λ k. UnlocksSettings target_secret (files_now now).config k old.keys) (sym grown.most.config) unlocked)

  opens_to : (log : LogState) (id blob : List ℕ) → id ≢ zero_id → HasBlob (files_now now) log id blob
      → (live_in id (entries_of c.made.fits.written) ≡ Some blob) ⊎ ((content : List ℕ) × OpensTo (repo_view c.store.repo).keys id blob content)
      → Opens (files_now now) (record next { log = log }) id
  opens_to log id blob chunk has (inl old) = absurd (none_live c.store before c.begun c.made id blob chunk old)
  opens_to log id blob chunk has (inr one) = (
    one.0,
    record {
      chunk = chunk;
      object = record { blob = blob; has = has; opens = subst (λ (k : Keys). OpensTo k id blob one.0) (sym grown.most.keys) one.1 };
    },
  )

  pub all_open : (there : RepoState) × (OpensFilesTo (files_now now) target_secret there × AllOpen (files_now now) there)
  all_open = (record next { log = live.log }, (live.opens, λ id is. at id is (place_in live.log id) refl)) where
    live : OpensLive (files_now now) target_secret next grown.fits_now.manifest.entries
    live =
        opens_live target_secret (files_now now) next grown.fits_now.manifest.entries (shows c.store_now now grown.fits_now c.none_now)
        unlocks grown.fits_now.manifest.holds

    at : (id : List ℕ) → IsChunk live.log id → (place : Option Place) → place_in live.log id ≡ place
        → Opens (files_now now) (record next { log = live.log }) id
    at id is None none = absurd (let some : false ≡ true = subst IsSome none is.live in let no : ⊥ = cc in no)
    at id is (Some place) placed =
        let fits = (opens_fits (files_now now) target_secret (record next { log = live.log }) live.opens).log in
        let lies = place_holds (files_now now) live.log id place fits placed in
        let has : HasBlob (files_now now) live.log id lies.0 = record { place = place; placed = placed; lies = lies.1 } in
        let written : live_in id (entries_of grown.fits_now.written) ≡ Some lies.0 =
        ap (live_in id) (entries_are c.store_now now grown.fits_now c.none_now) ∙ (live.blobs id lies.0).0 has in
        opens_to live.log id lies.0 is.chunk has (grown.opening id lies.0 is.chunk written)

  -- and what opens has the manifest that was accepted
  pub open_manifest : (there : RepoState) → OpensFilesTo (files_now now) target_secret there → there.manifest ≡ accepted_in c.store_now
  unfolding all_open
  open_manifest there opens_there =
      ap (λ (r : RepoState). r.manifest) (sym (one_repo (files_now now) target_secret all_open.0 there all_open.1.0 opens_there)) ∙ sym c.settled_now
