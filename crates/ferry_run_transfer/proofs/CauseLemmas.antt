-- Lemmas on specs/TransferCauses.antt: why a transfer isn't done whose target was opened.
use Rattle.std.proofs.Common.{◌≡◌, ◌≢◌, ◌⊎◌, ◌++◌, inl, inr, ℕ, true, false, List, [], ◌∷◌, Option, Some, None}
use Rattle.std.proofs.Common.{unwrap_or, refl, sym, ◌∙◌, ap, subst, slice_get, IfSome, IsSome}
use Rattle.ferry_base.specs.Limits.{zero_id}
use Rattle.ferry_blob.proofs.BlobLemmas.{opens_no_fault}
use Rattle.ferry_blob.specs.Blob.{OpensTo}
use Rattle.ferry_blob.specs.declared.fault.BlobFault.{BlobFault}
use Rattle.ferry_carry.proofs.WholeLemmas.{whole_kept}
use Rattle.ferry_carry.specs.Accepting.{AreNextOf, LimitsNames}
use Rattle.ferry_carry.specs.Carrying.{SaysIn}
use Rattle.ferry_carry.specs.Flight.{origin_of}
use Rattle.ferry_carry.specs.Chosen.{IsMissingName}
use Rattle.ferry_carry.specs.Listing.{ListsNames}
use Rattle.ferry_carry.specs.Refusals.{EndsAt, HasLargeRecord, HasLongItem, IsChunk, RefusesBehind, RefusesName, RefusesNames, StopsAtChunk, is_of_telling}
use Rattle.ferry_carry.specs.Telling.{AreLines, TellsNames}
use Rattle.ferry_piece.specs.declared.fault.CarryFault.{CarryFault}
use Rattle.ferry_piece.specs.declared.fault.CarryFault.TheVariants as Carry
use Rattle.ferry_carry.specs.declared.options.Options.{Options}
use Rattle.ferry_disk.specs.Act.{Act, History, applied, files_now}
use Rattle.ferry_disk.specs.Device.{Told, told_files}
use Rattle.ferry_disk.specs.Files.{Files}
use Rattle.ferry_disk.specs.Moments.{Between}
use Rattle.ferry_manifest.specs.Manifest.Text.{ManifestText}
use Rattle.ferry_nonce.specs.declared.fault.NonceFault.TheVariants as Nonces
use Rattle.ferry_repo.proofs.LawLemmas.{one_repo}
use Rattle.ferry_repo.specs.Archives.{archive_named}
use Rattle.ferry_repo.specs.Objects.{HasBlob}
use Rattle.ferry_repo.specs.Opening.{OpensFilesTo, RepoState, repo_view}
use Rattle.ferry_repo.specs.Whole.{HasWhole, IsWhole, RefusesWhole, WholeArchive}
use Rattle.ferry_repo.specs.declared.fault.RepoFault.TheVariants as Repos
use Rattle.ferry_repo.specs.declared.secret.Secret.{Secret}
use Rattle.ferry_segment.specs.Entry.{LogEntry}
use Rattle.ferry_stops.specs.Entries.{Shows}
use Rattle.ferry_stops.specs.Tells.{TellsNothing, lines_of}
use Rattle.ferry_store.proofs.StepLemmas.{moments_begin}
use Rattle.ferry_store.proofs.StandingLemmas.{opened_unlocks, opens_live, state_live}
use Rattle.ferry_store.specs.Causes.{StopsAt}
use Rattle.ferry_store.specs.Commit.{accepted_in}
use Rattle.ferry_store.specs.Standing.{UnlocksSettings, committed_of, live_in}
use Rattle.ferry_store.specs.Store.{StoreFits}
use Rattle.ferry_store.specs.declared.fault.StoreRefusal.{StoreRefusal}
use Rattle.ferry_store.specs.declared.fault.StoreRefusal.TheVariants as Store
use Rattle.ferry_store.specs.declared.store.Store.{Store as TheStore}
use Rattle.ferry_run_transfer.proofs.TransferLemmas.{untold_yet}
use Rattle.ferry_run_transfer.specs.Rerun.{LacksName}
use Rattle.ferry_carry.specs.States.{Drawn}
use Rattle.ferry_run_transfer.specs.Transfer.{KeepsArchives, Request, TransferEach, asked, chosen_of, from_source}
use Rattle.ferry_run_transfer.specs.TransferCauses.{HasLargeTarget, IsOfChosen, IsOfNext, IsTaken}
use Rattle.ferry_run_transfer.specs.TransferCauses.{RefusesAsked, RefusesTransfer, StopsWriting}
use Rattle.ferry_status.specs.declared.status.Secrets.{Secrets}
use Rattle.ferry_write.proofs.LawLemmas.{fits_now}
use Rattle.ferry_write.specs.Room.{behind}
use Rattle.ferry_write.specs.declared.fault.WriteFault.TheVariants as Writes
use Rattle.ferry_run_transfer.proofs.TransferLemmas.{left_of}

-- ---- a store that fits over files that open

-- it has their manifest, and their chunks
module _ (secret : Secret) (now : TheStore) (h : History) (repo : RepoState) (fits : StoreFits false now h) (opens : OpensFilesTo (files_now h) secret repo)
    (unlocks : UnlocksSettings secret (files_now h).config (repo_view now.repo).config (repo_view now.repo).keys) where
  abbrev entries : List LogEntry
  entries = fits.manifest.entries

  shown : Shows (files_now h) (Some entries)
  shown =
      subst (λ (c : Option (List LogEntry)). Shows (files_now h) c) fits.manifest.is
      (behind now.session.after, fits_now now.session fits.written.committed fits.written.pending h fits.under_way.fits)

  same_rest : (manifest : repo.manifest ≡ (repo_view now.repo).manifest) × (repo.keys ≡ (repo_view now.repo).keys)
  same_rest =
      let live = opens_live secret (files_now h) (repo_view now.repo) entries shown unlocks fits.manifest.holds in
      let same = one_repo (files_now h) secret repo (record (repo_view now.repo) { log = live.log }) opens live.opens in
      (ap (λ (r : RepoState). r.manifest) same, ap (λ (r : RepoState). r.keys) same)

  blobs_held : (id blob : List ℕ) → id ≢ zero_id → HasBlob (files_now h) repo.log id blob → HasBlob (files_now h) (repo_view now.repo).log id blob
  blobs_held id blob apart has =
      let live = (state_live (files_now h) repo.log entries opens.opens.unlocks.reads shown id blob).0 has in
      let committed : committed_of fits.written ≡ entries = ap (λ (c : Option (List LogEntry)). unwrap_or c []) fits.manifest.is in
      (fits.holds id blob apart).1 (fits.keeps id blob (subst (λ (c : List LogEntry). live_in id c ≡ Some blob) (sym committed) live))

  -- what is whole in the files is so by the store
  says_held : (name : List ℕ) (whole : WholeArchive) → HasWhole (files_now h) secret name whole → SaysIn (files_now h) (repo_view now.repo) name whole
  says_held name whole had =
      let state = repo_view now.repo in
      let is : IsWhole (files_now h) repo.log repo.keys repo.manifest.archives name whole =
      subst (λ (r : RepoState). IsWhole (files_now h) r.log r.keys r.manifest.archives name whole) (one_repo (files_now h) secret had.repo repo had.opens
      opens)
      had.is in
      let kept : IsWhole (files_now h) state.log repo.keys state.manifest.archives name whole =
      whole_kept (files_now h) repo.log repo.keys (files_now h) state.log repo.manifest.archives state.manifest.archives name whole is
      (λ id content chunk.
      record {
        chunk = chunk.chunk;
        object = record {
          blob = chunk.object.blob;
          has = blobs_held id chunk.object.blob chunk.chunk chunk.object.has;
          opens = chunk.object.opens;
        };
      })
      (ap (λ (m : ManifestText). archive_named name m.archives) (sym same_rest.0)) in
      subst (λ k. IsWhole (files_now h) state.log k state.manifest.archives name whole) same_rest.1 kept

-- ---- the target

-- a live chunk that breaks a rule at the end was live at the begin, and its id is that of a content that was to be added
stops_writing : (request : Request) (drawn : Drawn) (source start image : Files) (before : RepoState) (lines : List (List ℕ))
    → OpensFilesTo start request.secrets.target before → KeepsArchives request start before.manifest lines image → (refusal : StoreRefusal)
    → (refusal ≡ Store.TooLarge → HasLargeTarget request source start lines)
    → ((id : List ℕ) (fault : BlobFault) → refusal ≡ Store.Repo (Repos.Blob id fault) → IsOfNext request drawn source start lines id)
    → StopsAt start image before.keys refusal → StopsWriting request drawn source start lines image refusal
stops_writing request drawn source start image before lines opens keeps (Store.Repo (Repos.Blob id fault)) large last breaks =
    so (keeps.opening before opens id breaks.blob breaks.chunk
    ((state_live image keeps.repo.log breaks.entries keeps.opens.opens.unlocks.reads breaks.shown id breaks.blob).1 breaks.live))
  where
    so : HasBlob start before.log id breaks.blob ⊎ ((content : List ℕ) × OpensTo before.keys id breaks.blob content)
        → StopsWriting request drawn source start lines image (Store.Repo (Repos.Blob id fault))
    so (inl has) = (
      record { repo = before; opens = opens; holds = (breaks.chunk, record { blob = breaks.blob; has = has; breaks = breaks.breaks }) },
      last id fault refl,
    )
    so (inr opens_to) =
        absurd (let e : None ≡ Some fault = sym (opens_no_fault before.keys id breaks.blob opens_to.0 opens_to.1) ∙ breaks.breaks in
        let no : ⊥ = cc in no)
stops_writing request drawn source start image before lines opens keeps (Store.Repo Repos.NoCommit) large last never = absurd never
stops_writing request drawn source start image before lines opens keeps (Store.Repo (Repos.Damaged segment at)) large last never = absurd never
stops_writing request drawn source start image before lines opens keeps (Store.Repo (Repos.Config fault)) large last never = absurd never
stops_writing request drawn source start image before lines opens keeps (Store.Repo (Repos.Key fault)) large last never = absurd never
stops_writing request drawn source start image before lines opens keeps (Store.Repo (Repos.Missing id)) large last never = absurd never
stops_writing request drawn source start image before lines opens keeps (Store.Repo (Repos.Manifest fault)) large last never = absurd never
stops_writing request drawn source start image before lines opens keeps (Store.Repo (Repos.Archive id fault)) large last never = absurd never
stops_writing request drawn source start image before lines opens keeps (Store.Repo (Repos.Item id fault)) large last never = absurd never
stops_writing request drawn source start image before lines opens keeps (Store.Repo (Repos.Size id)) large last never = absurd never
stops_writing request drawn source start image before lines opens keeps (Store.Repo (Repos.KeyFile fault)) large last never = absurd never
stops_writing request drawn source start image before lines opens keeps (Store.Repo (Repos.Other file config)) large last never = absurd never
stops_writing request drawn source start image before lines opens keeps (Store.Repo Repos.NoKey) large last never = absurd never
stops_writing request drawn source start image before lines opens keeps (Store.Repo Repos.Device) large last is = tt
stops_writing request drawn source start image before lines opens keeps (Store.Repo Repos.Memory) large last never = absurd never
stops_writing request drawn source start image before lines opens keeps (Store.Write Writes.Numbers) large last is = is
stops_writing request drawn source start image before lines opens keeps (Store.Write Writes.Device) large last is = tt
stops_writing request drawn source start image before lines opens keeps (Store.Write Writes.Memory) large last is = tt
stops_writing request drawn source start image before lines opens keeps (Store.Nonce Nonces.Exhausted) large last is = is
stops_writing request drawn source start image before lines opens keeps (Store.Nonce Nonces.Device) large last is = tt
stops_writing request drawn source start image before lines opens keeps (Store.Nonce Nonces.Missing) large last never = absurd never
stops_writing request drawn source start image before lines opens keeps (Store.Nonce Nonces.Text) large last never = absurd never
stops_writing request drawn source start image before lines opens keeps (Store.Nonce Nonces.Memory) large last never = absurd never
stops_writing request drawn source start image before lines opens keeps Store.Committed large last never = absurd never
stops_writing request drawn source start image before lines opens keeps Store.TooLarge large last is = large refl
stops_writing request drawn source start image before lines opens keeps Store.Entropy large last is = tt
stops_writing request drawn source start image before lines opens keeps Store.Memory large last is = tt

-- ---- causes

-- what was asked, over a source that opened, and a target that opened to the repository of a store
module _ (drawn : Drawn) (secrets : Secrets) (options : Options) (names : List (List ℕ)) (source : RepoState) (t a b d : Told) (chosen : List (List ℕ))
    (store now : TheStore)
    (source_opens : OpensFilesTo (told_files t) secrets.source source) (chosen_is : chosen ≡ chosen_of names source.manifest)
    (opens : OpensFilesTo (told_files a) secrets.target (repo_view store.repo)) (begun : a.history.acts ≡ []) (started : d.history.start ≡ told_files a)
    (untold : TellsNothing a.history b.history) (accepts : accepted_in store ≡ (repo_view store.repo).manifest) where
  abbrev asks : Request
  asks = asked secrets options names (Some t)

  abbrev Keeps : Type 0
  Keeps = KeepsArchives asks (told_files a) (repo_view store.repo).manifest (lines_of d.history.acts) (told_files d)

  abbrev Refused : CarryFault → Type 0
  Refused fault = RefusesBehind (origin_of (Some t) source options) (Some b) store (Some d) now chosen fault

  split_chosen : (done : List (List ℕ)) (name : List ℕ) (rest : List (List ℕ)) → chosen ≡ done ++ name ∷ rest
      → chosen_of names source.manifest ≡ done ++ name ∷ rest
  split_chosen done name rest split = sym chosen_is ∙ split

  -- the lines of the whole run are those of the names before the refused one
  all_lines : (done : List (List ℕ)) → TellsNames (accepted_in store) done b.history d.history
      → AreLines (repo_view store.repo).manifest [] (lines_of d.history.acts) done
  all_lines done told =
      let is : lines_of d.history.acts ≡ told.0 =
      told.1.0 ∙ ap (λ (l : List (List ℕ)). l ++ told.0) (untold ∙ untold_yet a.history begun) in
      subst (λ (m : ManifestText). AreLines m [] (lines_of d.history.acts) done) accepts
      (subst (λ (l : List (List ℕ)). AreLines (accepted_in store) [] l done) (sym is) told.1.1)

  -- what holds of a refused name
  of_chosen : (fault : CarryFault) (Holds : RepoState → RepoState → List ℕ → Type 0) → (one : Refused fault)
      → Holds source (repo_view store.repo) one.name → IsOfChosen asks (told_files t) (told_files a) (lines_of d.history.acts) Holds
  of_chosen fault Holds one holds = record {
    repo = source;
    opens = source_opens;
    target = repo_view store.repo;
    target_opens = opens;
    done = one.done;
    name = one.name;
    rest = one.rest;
    split = split_chosen one.done one.name one.rest one.split;
    told = all_lines one.done one.told;
    holds = holds;
  }

  -- a manifest that is too large with the next of the chosen names
  abbrev Limited : Type 0
  Limited = LimitsNames options.timestamp source.manifest (repo_view store.repo).keys (accepted_in store) chosen
      (λ done. TellsNames (accepted_in store) done b.history d.history)

  large_there : Limited → HasLargeTarget asks (told_files t) (told_files a) (lines_of d.history.acts)
  large_there limited = record {
    repo = source;
    opens = source_opens;
    target = repo_view store.repo;
    target_opens = opens;
    limits = record {
      done = limited.done;
      name = limited.name;
      rest = limited.rest;
      split = split_chosen limited.done limited.name limited.rest limited.split;
      told = all_lines limited.done limited.told;
      middle = limited.middle;
      ids = limited.ids;
      sizes = limited.sizes;
      behind = subst (λ (m : ManifestText). AreNextOf options.timestamp source.manifest m limited.done limited.ids limited.middle) accepts
          limited.behind;
      large = limited.large;
    };
  }

  -- which content was to be added
  abbrev Stopped : List ℕ → Type 0
  Stopped id = StopsAtChunk (origin_of (Some t) source options) (repo_view store.repo).keys (accepted_in store) chosen
      (λ done. TellsNames (accepted_in store) done b.history d.history) drawn.before drawn.now id

  next_there : (id : List ℕ) → Stopped id → IsOfNext asks drawn (told_files t) (told_files a) (lines_of d.history.acts) id
  next_there id stopped =
      let from = origin_of (Some t) source options in
      let keys = (repo_view store.repo).keys in
      record {
        repo = source;
        opens = source_opens;
        target = repo_view store.repo;
        target_opens = opens;
        stops = record {
          done = stopped.done;
          name = stopped.name;
          rest = stopped.rest;
          split = split_chosen stopped.done stopped.name stopped.rest stopped.split;
          told = all_lines stopped.done stopped.told;
          records = stopped.records;
          added = stopped.added;
          lists = subst (λ (m : ManifestText). ListsNames from keys m [] stopped.done stopped.records stopped.added) accepts stopped.lists;
          middle = stopped.middle;
          drew = stopped.drew;
          ends = subst (λ (m : ManifestText). EndsAt from keys m stopped.done stopped.name stopped.middle drawn.now id) accepts stopped.ends;
        };
      }

  -- the target isn't written
  target_told : Keeps → (refusal : StoreRefusal) → ((id : List ℕ) → IsChunk id (Carry.Target refusal) → Stopped id)
      → (Carry.Target refusal ≡ Carry.Target Store.TooLarge → Limited)
      → StopsAt d.history.start (told_files d) (repo_view store.repo).keys refusal
      → StopsWriting asks drawn (told_files t) (told_files a) (lines_of d.history.acts) (told_files d) refusal
  target_told keeps refusal last limit stops =
      stops_writing asks drawn (told_files t) (told_files a) (told_files d) (repo_view store.repo) (lines_of d.history.acts) opens keeps refusal
      (λ is. large_there (limit (ap Carry.Target is)))
      (λ id fault is. next_there id (last id (fault, ap Carry.Target is)))
      (subst (λ (f : Files). StopsAt f (told_files d) (repo_view store.repo).keys refusal) started stops)

  -- a fault that isn't that of a line
  told_line : (X : Type 0) (fault : CarryFault) → is_of_telling fault ≡ false → is_of_telling fault ≡ true → X
  told_line X fault still telling = absurd (let no : ⊥ = cc in no)

  taken_there : (name : List ℕ) → Keeps → (one : Refused (Carry.Taken name)) → one.name ≡ name
      → IsTaken asks (told_files t) (told_files a) (lines_of d.history.acts) (told_files d) name
  taken_there name keeps one is =
      let refused =
      subst (λ (n : List ℕ). RefusesName (origin_of (Some t) source options) (Some b) store (Some d) now n (Carry.Taken name)) is
      one.refused in
      let differs = refused.1.0 in
      let at = refused.1.1 in
      let settings : (files_now d.history).config ≡ (told_files a).config = keeps.config in
      let opened = opened_unlocks (told_files a) secrets.target (repo_view store.repo) opens in
      let unlocks : UnlocksSettings secrets.target (files_now d.history).config (repo_view now.repo).config (repo_view now.repo).keys =
      rw (settings, at.most_kept.config, at.most_kept.keys) opened in
      record {
        from = source;
        source_opens = source_opens;
        before = repo_view store.repo;
        target_opens = opens;
        done = one.done;
        rest = one.rest;
        split = subst (λ (n : List ℕ). chosen_of names source.manifest ≡ one.done ++ n ∷ one.rest) is
            (split_chosen one.done one.name one.rest one.split);
        told = all_lines one.done one.told;
        whole = differs.whole;
        whole_there = record { repo = source; opens = source_opens; is = differs.source };
        repo = keeps.repo;
        opens = keeps.opens;
        there = subst (λ (m : ManifestText). IsSome (archive_named name m.archives))
            (sym (same_rest secrets.target now d.history keeps.repo at.fits keeps.opens unlocks).0) at.there;
        differs = λ had. differs.target_is (says_held secrets.target now d.history keeps.repo at.fits keeps.opens unlocks name differs.whole had);
      }

  refused_told : Keeps → (fault : CarryFault) → ((id : List ℕ) → IsChunk id fault → Stopped id)
      → (fault ≡ Carry.Target Store.TooLarge → Limited)
      → RefusesNames (origin_of (Some t) source options) (Some b) store (Some d) now chosen fault
      → RefusesTransfer asks drawn (told_files t) (told_files a) (lines_of d.history.acts) (told_files d) fault
  refused_told keeps (Carry.Source fault) last limit (inl refused) = λ of_files.
      inr (of_chosen (Carry.Source fault) (λ repo target name. RefusesWhole (told_files t) repo.log repo.keys repo.manifest.archives name fault) refused
      (refused.refused.0 of_files))
  refused_told keeps (Carry.Source fault) last limit (inr untold) = told_line _ (Carry.Source fault) refl untold.0
  refused_told keeps (Carry.Target refusal) last limit (inl refused) =
      inr (
        target_told keeps refusal last limit refused.refused,
        λ still. of_chosen (Carry.Target refusal) (λ repo target name. Unit {0}) refused tt,
      )
  refused_told keeps (Carry.Target refusal) last limit (inr untold) =
      inr (target_told keeps refusal last limit untold.1, λ still. told_line _ (Carry.Target refusal) still untold.0)
  refused_told keeps (Carry.Taken name) last limit (inl refused) = taken_there name keeps refused (sym refused.refused.0)
  refused_told keeps (Carry.Taken name) last limit (inr untold) = told_line _ (Carry.Taken name) refl untold.0
  refused_told keeps (Carry.NotFound name) last limit refused = record {
    repo = source;
    opens = source_opens;
    place = refused.0;
    missing = subst (λ (l : List (List ℕ)). IsMissingName source.manifest l refused.0) chosen_is refused.1.0;
    name_is = subst (λ (l : List (List ℕ)). slice_get l refused.0 ≡ Some name) chosen_is refused.1.1;
  }
  refused_told keeps Carry.Pieces last limit (inl refused) =
      of_chosen Carry.Pieces (λ repo target name. LacksName target.manifest name × HasLongItem (told_files t) (from_source asks (told_files t) repo) name)
      refused (refused.refused.0, refused.refused.1.0)
  refused_told keeps Carry.Pieces last limit (inr untold) = told_line _ Carry.Pieces refl untold.0
  refused_told keeps Carry.Memory last limit refused = tt
  refused_told keeps Carry.Record last limit (inl refused) =
      of_chosen Carry.Record (λ repo target name. LacksName target.manifest name
      × HasLargeRecord (told_files t) (from_source asks (told_files t) repo) target.keys name) refused (refused.refused.0, refused.refused.1.0)
  refused_told keeps Carry.Record last limit (inr untold) = told_line _ Carry.Record refl untold.0

files_begun : (h : History) → h.acts ≡ [] → files_now h ≡ h.start
files_begun h e = ap (λ (acts : List Act). applied h.start acts) e

-- a transfer that was refused while archives came
pub names_refused : (drawn : Drawn) (secrets : Secrets) (options : Options) (names : List (List ℕ)) (source : RepoState) (told a b d : Option Told)
    (chosen : List (List ℕ))
    (store now : TheStore) → IfSome told (λ t. OpensFilesTo (told_files t) secrets.source source) → chosen ≡ chosen_of names source.manifest
    → IfSome a (λ t. OpensFilesTo (told_files t) secrets.target (repo_view store.repo)) → accepted_in store ≡ (repo_view store.repo).manifest
    → Between a b TellsNothing → Between a d (TransferEach (asked secrets options names told)) → (fault : CarryFault)
    → (fault ≡ Carry.Target Store.TooLarge → IfSome b (λ x. IfSome d (λ y. LimitsNames options.timestamp source.manifest (repo_view store.repo).keys
    (accepted_in store) chosen (λ done. TellsNames (accepted_in store) done x.history y.history))))
    → ((id : List ℕ) → IsChunk id fault → IfSome b (λ u. IfSome d (λ v. IfSome (origin_of told source options).files (λ _.
    StopsAtChunk (origin_of told source options) (repo_view store.repo).keys (accepted_in store) chosen (λ done. TellsNames (accepted_in store) done
    u.history v.history) drawn.before drawn.now id))))
    → RefusesNames (origin_of told source options) b store d now chosen fault → RefusesAsked (asked secrets options names told) drawn a d fault
names_refused drawn secrets options names source None a b d chosen store now from is opens accepts untold each fault limit last refused = tt
names_refused drawn secrets options names source (Some t) None b d chosen store now from is opens accepts untold each fault limit last refused = tt
names_refused drawn secrets options names source (Some t) (Some a) b None chosen store now from is opens accepts untold each fault limit last refused = tt
names_refused drawn secrets options names source (Some t) (Some a) None (Some d) chosen store now from is opens accepts untold each fault limit last refused =
    absurd (let e : None ≡ Some untold.0 = untold.1 in let no : ⊥ = cc in no)
names_refused drawn secrets options names source (Some t) (Some a) (Some b) (Some d) chosen store now from is opens accepts untold each fault limit last
    refused =
    λ begun.
    let same : each.0 ≡ d = (let e : Some d ≡ Some each.0 = each.1 in cc) in
    let first : untold.0 ≡ b = (let e : Some b ≡ Some untold.0 = untold.1 in cc) in
    let all = subst (λ (x : Told). TransferEach (asked secrets options names (Some t)) a.history x.history) same each.2 in
    let left = left_of (asked secrets options names (Some t)) a.history d.history all begun (repo_view store.repo) opens in
    let started = ap (λ (k : History). k.start) (moments_begin _ a.history d.history (all.1.1.0 begun)).last ∙ sym (files_begun a.history begun) in
    refused_told drawn secrets options names source t a b d chosen store now from is opens begun started
    (subst (λ (x : Told). TellsNothing a.history x.history) first untold.2) accepts left fault last limit refused
