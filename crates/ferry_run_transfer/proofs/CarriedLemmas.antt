-- A transfer: what stands behind the names that were carried keeps the archives, and has those of these names.
use Rattle.std.proofs.Common.{◌≡◌, ◌↔◌, ℕ, List, [], ◌++◌, Option, Some, None}
use Rattle.std.proofs.Common.{refl, sym, ◌∙◌, ap, subst, IfSome}
use Rattle.std.specs.List.{AllByRecursion}
use Rattle.ferry_piece.proofs.AmongLemmas.{each_to}
use Rattle.ferry_carry.specs.Listing.{BeginsNames, ListsNames}
use Rattle.ferry_carry.specs.Naming.{TaggedRecord}
use Rattle.ferry_carry.specs.Carrying.{AreCut, CarriesOver, IsApart, IsCarried}
use Rattle.ferry_carry.specs.Accepting.{AreNamedNext, AreNextOf}
use Rattle.ferry_carry.specs.Flight.{origin_of}
use Rattle.ferry_piece.specs.Gather.{BringsOpening, HoldsWithin, NoCollision}
use Rattle.ferry_carry.specs.Grow.{IsBehind, IsNamedBy, KeepsChunks, StandsOn}
use Rattle.ferry_piece.specs.Puts.{Addition, Border, GoesOn}
use Rattle.ferry_carry.specs.Telling.{IsReport}
use Rattle.ferry_carry.specs.declared.options.Options.{Options}
use Rattle.ferry_disk.specs.Device.{Told, told_files}
use Rattle.ferry_disk.specs.Files.{Files}
use Rattle.ferry_log.specs.State.{LogState}
use Rattle.ferry_manifest.specs.Manifest.Text.{ManifestText}
use Rattle.ferry_repo.proofs.LawLemmas.{one_repo}
use Rattle.ferry_repo.specs.Archives.{archive_named}
use Rattle.ferry_repo.specs.Objects.{HasBlob}
use Rattle.ferry_repo.specs.Opening.{OpensFilesTo, RepoState}
use Rattle.ferry_segment.specs.Entry.{LogEntry}
use Rattle.ferry_stops.specs.Entries.{Shows}
use Rattle.ferry_store.proofs.StandingLemmas.{opened_unlocks, opens_live, state_live}
use Rattle.ferry_store.specs.Standing.{UnlocksSettings, committed_of, entries_of, live_in, with_manifest}
use Rattle.ferry_store.specs.State.{Written}
use Rattle.ferry_run_transfer.specs.Transfer.{AreCutThere, Arrives, IsBegun, IsBehindNames, IsChosen, IsChosenFront}
use Rattle.ferry_run_transfer.specs.Transfer.{KeepsArchives, ListsChosen, NoneCollide, Request, asked, chosen_of}
use Rattle.ferry_run_transfer.specs.Transfer.{from_source}
use Rattle.ferry_status.specs.declared.status.Secrets.{Secrets}
use Rattle.ferry_run_transfer.proofs.StandingLemmas.{adds_on, at_begin, brings_opening, whole_in}

-- ---- the names that were carried

-- By a log, files have the blobs of all that is live by these entries, and no others.
abbrev HasAll : Files → LogState → List LogEntry → Type 0
HasAll files log entries = (id blob : List ℕ) → HasBlob files log id blob ↔ (live_in id entries ≡ Some blob)

-- No contents collide among these and those that are live by these entries, where none do among these and those that were live at the start.
abbrev pub StaysApart : Request → Files → List Addition → RepoState → List LogEntry → Type 0
StaysApart request start added repo base = (none : NoneCollide request start added) → IsApart none.scope repo.keys base added

-- what is live by the entries that files show is live in the files
pub apart_shown : (request : Request) (start : Files) (repo : RepoState) (committed : List LogEntry) (added : List Addition)
    → OpensFilesTo start request.secrets.target repo → Shows start (Some committed) → StaysApart request start added repo committed
apart_shown request start repo committed added opens shown none =
    let same : none.repo ≡ repo = one_repo start request.secrets.target none.repo repo none.opens opens in
    let live : HoldsWithin none.scope start repo = subst (HoldsWithin none.scope start) same none.live in
    record {
      one = subst (λ (r : RepoState). NoCollision r.keys none.scope) same none.apart;
      added = none.among;
      live = λ id blob content chunk is_live opens_to.
          live id content (record {
            chunk = chunk;
            object = record {
              blob = blob;
              has = (state_live start repo.log committed opens.opens.unlocks.reads shown id blob).1 is_live;
              opens = opens_to;
            };
          });
    }

arrives : (request : Request) (there start image : Files) (source next : RepoState) (within : List Addition) (base entries : List LogEntry)
    (log : LogState) (name : List ℕ) → OpensFilesTo there request.secrets.source source
    → OpensFilesTo image request.secrets.target (record next { log = log }) → HasAll image log entries → StaysApart request start within next base
    → CarriesOver there (from_source request there source) within base next.keys entries next.manifest.archives name
    → Arrives request there start image within (record next { log = log }) name
arrives request there start image source next within base entries log name source_opens opens blobs apart c = record {
  whole = c.whole;
  whole_there = record { repo = source; opens = source_opens; is = c.source };
  entry = c.entry;
  entry_is = c.entry_is;
  text = c.text;
  id = c.id;
  record_is = c.record_is;
  there = λ none.
      record {
        repo = record next { log = log };
        opens = opens;
        is = c.target none.scope (apart none) image log (λ id blob chunk live. (blobs id blob).1 live);
      };
}

-- what was asked, over a source that opened to a repository
module _ (secrets : Secrets) (options : Options) (names : List (List ℕ)) (source : RepoState) where
  -- The source's files, where they are told, open to the repository.
  abbrev SourceOpens : Option Told → Type 0
  SourceOpens told = IfSome told (λ t. OpensFilesTo (told_files t) secrets.source source)

  front_of : (told : Option Told) (done rest : List (List ℕ)) → SourceOpens told → chosen_of names source.manifest ≡ done ++ rest
      → IfSome (asked secrets options names told).source (IsChosenFront (asked secrets options names told) done)
  front_of None done rest opens front = tt
  front_of (Some t) done rest opens front = λ repo other.
      (rest, ap (λ (r : RepoState). chosen_of names r.manifest) (one_repo (told_files t) secrets.source repo source other opens) ∙ front)

  pub all_of : (told : Option Told) (done : List (List ℕ)) → SourceOpens told → done ≡ chosen_of names source.manifest
      → IfSome (asked secrets options names told).source (IsChosen (asked secrets options names told) done)
  all_of None done opens all = tt
  all_of (Some t) done opens all = (source, (opens, all))

  pub all_listed : (told : Option Told) (chosen : List (List ℕ)) (accepted manifest : ManifestText) (repo : RepoState) (records : List TaggedRecord)
      (added : List Addition) → SourceOpens told → chosen ≡ chosen_of names source.manifest → accepted ≡ repo.manifest
      → ListsNames (origin_of told source options) repo.keys accepted [] chosen records added
      → AreNamedNext options.timestamp source.manifest repo.keys accepted chosen records manifest
      → IfSome (asked secrets options names told).source (ListsChosen (asked secrets options names told) repo manifest records added)
  all_listed None chosen accepted manifest repo records added opens chosen_is accepted_is lists next = tt
  all_listed (Some t) chosen accepted manifest repo records added opens chosen_is accepted_is lists next =
      let from = origin_of (Some t) source options in (
        source,
        (
          opens,
          (
            subst (λ (all : List (List ℕ)). ListsNames from repo.keys repo.manifest [] all records added) chosen_is
                (subst (λ (m : ManifestText). ListsNames from repo.keys m [] chosen records added) accepted_is lists),
            subst (λ (all : List (List ℕ)). AreNamedNext options.timestamp source.manifest repo.keys repo.manifest all records manifest) chosen_is
                (subst (λ (m : ManifestText). AreNamedNext options.timestamp source.manifest repo.keys m chosen records manifest) accepted_is next),
          ),
        ),
      )

  -- the manifest behind the names that came
  behind_of : (told : Option Told) (accepted before manifest : ManifestText) (done : List (List ℕ)) → SourceOpens told → accepted ≡ before
      → IsBehind (origin_of told source options) accepted before done manifest
      → IfSome (asked secrets options names told).source (IsBehindNames (asked secrets options names told) before done manifest)
  behind_of None accepted before manifest done opens same behind = tt
  behind_of (Some t) accepted before manifest done opens same behind = λ repo other.
      let next = behind same in (
        next.0,
        subst (λ (r : RepoState). AreNextOf options.timestamp r.manifest before done next.0 manifest)
            (one_repo (told_files t) secrets.source source repo opens other)
            (subst (λ (m : ManifestText). AreNextOf options.timestamp source.manifest m done next.0 manifest) same next.1),
      )

  -- what is added for the names that were chosen, as far as it came
  pub begun_of : (told : Option Told) (chosen : List (List ℕ)) (accepted : ManifestText) (start : Files) (repo : RepoState) (within : List Addition)
      → SourceOpens told → chosen ≡ chosen_of names source.manifest → accepted ≡ repo.manifest → OpensFilesTo start secrets.target repo
      → BeginsNames (origin_of told source options) repo.keys accepted [] chosen within
      → IsBegun (asked secrets options names told) start within
  begun_of None chosen accepted start repo within source_opens chosen_is accepted_is opens begins before other = tt
  begun_of (Some t) chosen accepted start repo within source_opens chosen_is accepted_is opens begins before other = λ next next_opens.
      let request = asked secrets options names (Some t) in
      let Begins : RepoState → RepoState → Type 0 = λ from_repo target.
      BeginsNames (from_source request (told_files t) from_repo) target.keys target.manifest [] (chosen_of names from_repo.manifest) within in
      let here : Begins source repo =
      subst (λ (all : List (List ℕ)). BeginsNames (from_source request (told_files t) source) repo.keys repo.manifest [] all within) chosen_is
      (subst (λ (m : ManifestText). BeginsNames (from_source request (told_files t) source) repo.keys m [] chosen within) accepted_is begins) in
      let there : Begins source before = subst (Begins source) (one_repo start secrets.target repo before opens other) here in
      subst (λ (r : RepoState). Begins r before) (one_repo (told_files t) secrets.source source next source_opens next_opens) there

  all_arrived : (told : Option Told) (start image : Files) (next : RepoState) (within : List Addition) (base entries : List LogEntry) (log : LogState)
      (done : List (List ℕ)) → SourceOpens told → OpensFilesTo image secrets.target (record next { log = log }) → HasAll image log entries
      → StaysApart (asked secrets options names told) start within next base
      → AllByRecursion (IsCarried (origin_of told source options) within base next.keys entries next.manifest.archives) done
      → IfSome (asked secrets options names told).source
      (λ files. AllByRecursion (Arrives (asked secrets options names told) files start image within (record next { log = log })) done)
  all_arrived None start image next within base entries log done source_opens opens blobs apart carried = tt
  all_arrived (Some t) start image next within base entries log done source_opens opens blobs apart carried =
      each_to (IsCarried (origin_of (Some t) source options) within base next.keys entries next.manifest.archives)
      (Arrives (asked secrets options names (Some t)) (told_files t) start image within (record next { log = log })) done
      (λ name c.
      arrives (asked secrets options names (Some t)) (told_files t) start image source next within base entries log name source_opens opens blobs apart c)
      carried

  all_cut : (told : Option Told) (accepted before : ManifestText) (next : RepoState) (log : LogState) (done : List (List ℕ)) → SourceOpens told
      → accepted ≡ before → AreCut accepted (origin_of told source options) next.keys next.manifest.archives done
      → IfSome (asked secrets options names told).source (AreCutThere (asked secrets options names told) before (record next { log = log }) done)
  all_cut None accepted before next log done source_opens same cut = tt
  all_cut (Some t) accepted before next log done source_opens same cut = λ name among none.
      let c = cut name among (ap (λ (m : ManifestText). archive_named name m.archives) same ∙ none) in
      record {
        whole = c.whole;
        whole_there = record { repo = source; opens = source_opens; is = c.source };
        entry = c.entry;
        entry_is = c.entry_is;
        text = c.text;
        id = c.id;
        salt = c.salt;
        copy = c.copy;
      }

  -- what stands keeps the archives, with those that were carried
  pub stands_keeps : (told : Option Told) (chosen : List (List ℕ)) (within : List Addition) (accepted : ManifestText) (start image : Files) (repo : RepoState)
      (written : Written) (committed : List LogEntry) → SourceOpens told → chosen ≡ chosen_of names source.manifest → accepted ≡ repo.manifest
      → OpensFilesTo start secrets.target repo → Shows start (Some committed) → committed_of written ≡ committed → entries_of written ≡ committed
      → written.config ≡ start.config → (lines : List (List ℕ))
      → BeginsNames (origin_of told source options) repo.keys accepted [] chosen within
      → (stands : StandsOn [] (origin_of told source options) chosen within accepted repo written image)
      → IsReport accepted lines stands.done
      → (keeps : KeepsArchives (asked secrets options names told) start repo.manifest lines image)
      × ((keeps.done ≡ stands.done) × ((keeps.begun ≡ within) × (keeps.repo.manifest ≡ stands.manifest)))
  stands_keeps told chosen within accepted start image repo written committed source_opens chosen_is accepted_is opens shown same all config lines begins
      stands report =
      let secret = secrets.target in
      let asks = asked secrets options names told in
      let next = with_manifest repo stands.manifest in
      let unlocks : UnlocksSettings secret image.config repo.config repo.keys =
      subst (λ (c : Option (List ℕ)). UnlocksSettings secret c repo.config repo.keys) (sym (stands.config ∙ config)) (opened_unlocks start secret repo opens)
      in
      let live = opens_live secret image next stands.entries stands.shown unlocks stands.holds in
      let chunks : KeepsChunks committed stands.entries = subst (λ (c : List LogEntry). KeepsChunks c stands.entries) same stands.chunks in (
        record {
          repo = record next { log = live.log };
          opens = live.opens;
          config = stands.config ∙ config;
          names = stands.names;
          wholes = whole_in start image secret repo committed stands.entries stands.manifest live opens shown chunks stands.names;
          done = stands.done;
          front = front_of told stands.done stands.rest source_opens (sym chosen_is ∙ stands.front);
          begun = within;
          adds = adds_on asks start image repo within written committed stands.entries opens shown stands.shown same all
              (subst (λ (b : Border). GoesOn b repo.keys options.checkpoint within written stands.entries) at_begin stands.puts);
          begins = begun_of told chosen accepted start repo within source_opens chosen_is accepted_is opens begins;
          next = behind_of told accepted repo.manifest stands.manifest stands.done source_opens accepted_is stands.next;
          arrived = all_arrived told start image next within (entries_of written) stands.entries live.log stands.done source_opens live.opens live.blobs
              (subst (StaysApart asks start within repo) (sym all) (apart_shown asks start repo committed within opens shown)) stands.carried;
          cut = all_cut told accepted repo.manifest next live.log stands.done source_opens accepted_is stands.cut;
          only = subst (λ (m : ManifestText). IsNamedBy m stands.done stands.manifest) accepted_is stands.only;
          opening = brings_opening asks start image repo next committed stands.entries live.log opens shown
              (subst (λ (c : List LogEntry). BringsOpening repo.keys c stands.entries) all stands.opening) (λ id blob has. (live.blobs id blob).0 has);
          told = subst (λ (m : ManifestText). IsReport m lines stands.done) accepted_is report;
        },
        (refl, (refl, refl)),
      )
