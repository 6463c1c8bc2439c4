-- A transfer: what stands in its target keeps the archives that were there, and goes on from what was there.
use Rattle.std.proofs.Common.{◌≡◌, ◌⊎◌, inl, inr, ℕ, true, false, List, [], ◌∷◌, ◌++◌, Option, Some, None}
use Rattle.std.proofs.Common.{is_some, ◌-◌, ◌^◌, length, min, slice_get, refl, arith, sym, ◌∙◌, ap, subst, IfSome}
use Rattle.std.proofs.lemmas.List.{append-nil}
use Rattle.std.specs.List.{AllByRecursion}
use Rattle.ferry_blob.specs.Blob.{OpensTo as OpensBlob}
use Rattle.ferry_piece.proofs.PutsLemmas.{adds_at, allows_settled, first_at, first_none}
use Rattle.ferry_piece.proofs.PendingLemmas.{shown_none as none_pending_shown}
use Rattle.ferry_carry.proofs.LinesLemmas.{report_none}
use Rattle.ferry_carry.proofs.WholeLemmas.{whole_kept}
use Rattle.ferry_carry.specs.Listing.{BeginsName, BeginsNames, IsThere}
use Rattle.ferry_carry.specs.Carrying.{Origin}
use Rattle.ferry_piece.specs.Gather.{BringsOpening}
use Rattle.ferry_carry.specs.Grow.{KeepsChunks, KeepsNames}
use Rattle.ferry_piece.specs.Puts.{Addition, AddsAll, AddsFirst, AtBegin, GoesOn, Within, border_behind}
use Rattle.ferry_disk.specs.Act.{History}
use Rattle.ferry_disk.specs.Files.{Files}
use Rattle.ferry_log.specs.State.{LogState}
use Rattle.ferry_manifest.specs.Manifest.Text.{ManifestText}
use Rattle.ferry_manifest.specs.declared.manifest.ArchiveRef.{ArchiveRef}
use Rattle.ferry_repo.proofs.LawLemmas.{one_repo}
use Rattle.ferry_repo.specs.Archives.{archive_named}
use Rattle.ferry_repo.specs.Objects.{HasBlob, HoldsChunk}
use Rattle.ferry_repo.specs.Opening.{OpensFilesTo, RepoState}
use Rattle.ferry_repo.specs.Whole.{HasWhole, IsWhole, WholeArchive}
use Rattle.ferry_repo.specs.declared.secret.Secret.{Secret}
use Rattle.ferry_segment.specs.Entry.{LogEntry}
use Rattle.ferry_stops.proofs.EntryLemmas.{one_shown}
use Rattle.ferry_stops.specs.Entries.{Shows}
use Rattle.ferry_store.proofs.StandingLemmas.{opened_manifest, opened_unlocks, opens_live, state_live}
use Rattle.ferry_store.specs.Standing.{OpensLive, UnlocksSettings, committed_of, entries_of, live_in, with_manifest}
use Rattle.ferry_store.specs.State.{ShowsStanding, Written, found}
use Rattle.ferry_store.specs.Store.{StoreFits}
use Rattle.ferry_store.specs.declared.store.Store.{Store}
use Rattle.ferry_run_transfer.specs.Transfer.{AddsAllBehind, AddsBehind, AreCutThere, Arrives, BeginsChosen, BringsWhatOpens, IsBehindNames, IsChosenFront}
use Rattle.ferry_run_transfer.specs.Transfer.{KeepsArchives, Request, chosen_of}
use Rattle.ferry_run_transfer.specs.Transfer.{from_source}

-- ---- what stands keeps the archives

chunk_in : (start image : Files) (secret : Secret) (repo : RepoState) (committed entries : List LogEntry) (log : LogState) → OpensFilesTo start secret repo
    → Shows start (Some committed) → KeepsChunks committed entries
    → ((id blob : List ℕ) → live_in id entries ≡ Some blob → HasBlob image log id blob) → (id content : List ℕ)
    → HoldsChunk start repo.log repo.keys id content → HoldsChunk image log repo.keys id content
chunk_in start image secret repo committed entries log opens shown keeps blobs id content chunk =
    let object = chunk.object in
    let live = (state_live start repo.log committed opens.opens.unlocks.reads shown id object.blob).0 object.has in
    record {
      chunk = chunk.chunk;
      object = record { blob = object.blob; has = blobs id object.blob (keeps id object.blob chunk.chunk live); opens = object.opens };
    }

-- an archive that was whole is so in files that open with each chunk and each archive
pub whole_in : (start image : Files) (secret : Secret) (repo : RepoState) (committed entries : List LogEntry) (manifest : ManifestText)
    → OpensLive image secret (with_manifest repo manifest) entries → OpensFilesTo start secret repo → Shows start (Some committed)
    → KeepsChunks committed entries → KeepsNames repo.manifest manifest → (name : List ℕ) (whole : WholeArchive)
    → HasWhole start secret name whole → HasWhole image secret name whole
whole_in start image secret repo committed entries manifest live opens shown chunks names name whole had =
    let next = with_manifest repo manifest in
    let is : IsWhole start repo.log repo.keys repo.manifest.archives name whole =
    subst (λ (r : RepoState). IsWhole start r.log r.keys r.manifest.archives name whole) (one_repo start secret had.repo repo had.opens opens) had.is in
    record {
      repo = record next { log = live.log };
      opens = live.opens;
      is = whole_kept start repo.log repo.keys image live.log repo.manifest.archives manifest.archives name whole is
          (chunk_in start image secret repo committed entries live.log opens shown chunks (λ id blob e. (live.blobs id blob).1 e))
          (names name is.named is.named_is ∙ sym is.named_is);
    }

-- what chunks these files have, by entries whose chunks were live in the start or open
pub brings_opening : (request : Request) (start image : Files) (repo next : RepoState) (committed entries : List LogEntry) (log : LogState)
    → OpensFilesTo start request.secrets.target repo → Shows start (Some committed) → BringsOpening repo.keys committed entries
    → ((id blob : List ℕ) → HasBlob image log id blob → live_in id entries ≡ Some blob)
    → BringsWhatOpens request start image (record next { log = log })
brings_opening request start image repo next committed entries log opens shown opening blobs before other id blob apart has =
    so (opening id blob apart (blobs id blob has))
  where
    same : repo ≡ before
    same = one_repo start request.secrets.target repo before opens other

    so : (live_in id committed ≡ Some blob) ⊎ ((content : List ℕ) × OpensBlob repo.keys id blob content)
        → HasBlob start before.log id blob ⊎ ((content : List ℕ) × OpensBlob before.keys id blob content)
    so (inl live) = inl ((state_live start before.log committed other.opens.unlocks.reads shown id blob).1 live)
    so (inr opens_to) = inr (opens_to.0, subst (λ (r : RepoState). OpensBlob r.keys id blob opens_to.0) same opens_to.1)

-- ---- what is put

-- where nothing was added before, entries stand at the begin of a transfer
pub at_begin : border_behind AtBegin [] ≡ AtBegin
unfolding border_behind
at_begin = refl

-- what holds of the repository and the entries that files had holds of whatever they open to and show
behind_shown : (secret : Secret) (start image : Files) (repo : RepoState) (committed entries : List LogEntry)
    (Adds : RepoState → List LogEntry → List LogEntry → Type 0) → OpensFilesTo start secret repo → Shows start (Some committed)
    → Shows image (Some entries) → Adds repo committed entries → (before : RepoState) → OpensFilesTo start secret before → (others : List LogEntry)
    → Shows start (Some others) → (after : List LogEntry) × (Shows image (Some after) × Adds before others after)
behind_shown secret start image repo committed entries Adds opens shown shown_now adds before other others shown_then =
    let both : Some committed ≡ Some others = one_shown start (Some committed) (Some others) shown shown_then in
    let same : committed ≡ others = cc in (
      entries,
      (
        shown_now,
        subst (λ (front : List LogEntry). Adds before front entries) same
            (subst (λ (r : RepoState). Adds r committed entries) (one_repo start secret repo before opens other) adds),
      ),
    )

-- what stands goes on from what was there, where nothing is pending
adds_shown : (request : Request) (start image : Files) (repo : RepoState) (committed entries : List LogEntry) (all : List Addition)
    → OpensFilesTo start request.secrets.target repo → Shows start (Some committed) → Shows image (Some entries)
    → AddsFirst AtBegin repo.keys request.checkpoint committed all entries → AddsBehind request start image all
adds_shown request start image repo committed entries all opens shown shown_now first =
    behind_shown request.secrets.target start image repo committed entries
    (λ (r : RepoState) (front after : List LogEntry). AddsFirst Within r.keys request.checkpoint front all after) opens shown shown_now
    (first_at AtBegin Within repo.keys request.checkpoint committed all entries
    (allows_settled Within committed (none_pending_shown start committed shown)) first)

-- the same with all of them
pub all_shown : (request : Request) (start image : Files) (repo : RepoState) (committed entries : List LogEntry) (added : List Addition)
    → OpensFilesTo start request.secrets.target repo → Shows start (Some committed) → Shows image (Some entries)
    → AddsAll AtBegin repo.keys request.checkpoint committed added entries → AddsAllBehind request start image added
all_shown request start image repo committed entries added opens shown shown_now adds =
    behind_shown request.secrets.target start image repo committed entries
    (λ (r : RepoState) (front after : List LogEntry). AddsAll Within r.keys request.checkpoint front added after) opens shown shown_now
    (adds_at AtBegin Within repo.keys request.checkpoint committed added entries
    (allows_settled Within committed (none_pending_shown start committed shown)) adds)

-- entries that go on from what was written, where nothing was pending
pub adds_on : (request : Request) (start image : Files) (repo : RepoState) (within : List Addition) (written : Written) (committed entries : List LogEntry)
    → OpensFilesTo start request.secrets.target repo → Shows start (Some committed) → Shows image (Some entries) → committed_of written ≡ committed
    → entries_of written ≡ committed → GoesOn AtBegin repo.keys request.checkpoint within written entries → AddsBehind request start image within
adds_on request start image repo within written committed entries opens shown shown_now same all (inl is) =
    adds_shown request start image repo committed entries within opens shown shown_now
    (subst (AddsFirst AtBegin repo.keys request.checkpoint committed within) (sym (is ∙ same))
    (first_none AtBegin repo.keys request.checkpoint committed within))
adds_on request start image repo within written committed entries opens shown shown_now same all (inr first) =
    adds_shown request start image repo committed entries within opens shown shown_now
    (subst (λ (front : List LogEntry). AddsFirst AtBegin repo.keys request.checkpoint front within entries) all first)

-- nothing is the begin of what is added for names
names_begin : (from : Origin) (before : RepoState) (accepted : ManifestText) (names : List (List ℕ)) → BeginsNames from before.keys accepted [] names []
names_begin from before accepted [] = refl
names_begin from before accepted (name ∷ names) = inl (by_there (archive_named name accepted.archives) refl) where
  by_there : (found : Option ArchiveRef) → archive_named name accepted.archives ≡ found → BeginsName from before.keys accepted [] name []
  by_there (Some entry) is = inl (inl (ap is_some is), refl)
  by_there None is = inr (lacks, inl refl) where
    lacks : IsThere accepted [] name → ⊥
    lacks (inl there) = let never : true ≡ false = sym there ∙ ap is_some is in cc
    lacks (inr among) = let never : None ≡ Some name = among.1 in cc

none_begun : (request : Request) (before : RepoState) (source : Option Files) → IfSome source (BeginsChosen request before [])
none_begun request before None = tt
none_begun request before (Some files) = λ repo opens.
    names_begin (from_source request files repo) before before.manifest (chosen_of request.names repo.manifest)

-- where a store counts nothing as pending, what was written is committed
pub none_pending : (store : Store) (h : History) (fits : StoreFits false store h) → store.pending ≡ 0 → entries_of fits.written ≡ committed_of fits.written
none_pending store h fits none = by_pending fits.written.pending (sym fits.pending ∙ none) where
  by_pending : (pending : List LogEntry) → min (length pending) (2 ^ 64 - 1) ≡ 0
      → committed_of fits.written ++ pending ≡ committed_of fits.written
  by_pending [] is = append-nil (committed_of fits.written)
  by_pending (entry ∷ pending) is = absurd (let some : ⊥ = omega (arith, is) in some)

-- none of the chosen names
front_here : (request : Request) (source : Option Files) → IfSome source (IsChosenFront request [])
front_here request None = tt
front_here request (Some files) = λ repo opens. (chosen_of request.names repo.manifest, refl)

none_arrived : (request : Request) (start image : Files) (begun : List Addition) (repo : RepoState) (source : Option Files)
    → IfSome source (λ files. AllByRecursion (Arrives request files start image begun repo) [])
none_arrived request start image begun repo None = tt
none_arrived request start image begun repo (Some files) = tt

none_cut : (request : Request) (before : ManifestText) (repo : RepoState) (source : Option Files)
    → IfSome source (AreCutThere request before repo [])
none_cut request before repo None = tt
none_cut request before repo (Some files) = λ name among none.
    let got : slice_get [] among.0 ≡ Some name = among.1 in absurd (let no : ⊥ = cc in no)

none_behind : (request : Request) (manifest : ManifestText) (source : Option Files) → IfSome source (IsBehindNames request manifest [] manifest)
none_behind request manifest None = tt
none_behind request manifest (Some files) = λ repo opens. ([], (refl, refl))

pub shown_keeps : (request : Request) (start image : Files) (repo : RepoState) (committed : List LogEntry)
    → OpensFilesTo start request.secrets.target repo → Shows start (Some committed) → ShowsStanding (found (Some committed) start) image
    → KeepsArchives request start repo.manifest [] image
shown_keeps request start image repo committed opens shown standing =
    let secret = request.secrets.target in
    let unlocks : UnlocksSettings secret image.config repo.config repo.keys =
    subst (λ (c : Option (List ℕ)). UnlocksSettings secret c repo.config repo.keys) (sym standing.1) (opened_unlocks start secret repo opens) in
    let live = opens_live secret image repo committed standing.0 unlocks (opened_manifest start secret repo committed opens shown) in
    record {
      repo = record repo { log = live.log };
      opens = live.opens;
      config = standing.1;
      names = λ name entry is. is;
      wholes = whole_in start image secret repo committed committed repo.manifest live opens shown (λ id blob apart e. e) (λ name entry is. is);
      done = [];
      front = front_here request request.source;
      begun = [];
      adds = adds_shown request start image repo committed committed [] opens shown standing.0
          (first_none AtBegin repo.keys request.checkpoint committed []);
      begins = λ before other. none_begun request before request.source;
      next = none_behind request repo.manifest request.source;
      arrived = none_arrived request start image [] (record repo { log = live.log }) request.source;
      cut = none_cut request repo.manifest (record repo { log = live.log }) request.source;
      only = λ name entry is. inl is;
      opening = brings_opening request start image repo repo committed committed live.log opens shown (λ id blob apart e. inl e)
          (λ id blob has. (live.blobs id blob).0 has);
      told = report_none repo.manifest [];
    }

-- with none of the chosen names
pub shown_none : (request : Request) (start image : Files) (repo : RepoState) (committed : List LogEntry)
    → (opens : OpensFilesTo start request.secrets.target repo) (shown : Shows start (Some committed))
    → (standing : ShowsStanding (found (Some committed) start) image)
    → [] ≡ (shown_keeps request start image repo committed opens shown standing).done
unfolding shown_keeps
shown_none request start image repo committed opens shown standing = refl
