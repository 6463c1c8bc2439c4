-- A transfer: what each stop leaves opens, with each archive that was there and those of a front of the chosen names, and at the end with all of them.
use Rattle.std.proofs.Common.{◌≡◌, ℕ, true, false, List, [], ◌∷◌, ◌++◌, Option, Some, Ok}
use Rattle.std.proofs.Common.{Err, unwrap_or, refl, sym, ◌∙◌, ap, subst, IfSome}
use Rattle.std.proofs.lemmas.List.{append-nil}
use Rattle.std.specs.List.{AllByRecursion}
use Rattle.ferry_carry.proofs.LinesLemmas.{whole_report}
use Rattle.ferry_carry.proofs.MomentLemmas.{untold_moments}
use Rattle.ferry_piece.proofs.WorkLemmas.{between_known, works_both, works_ok, works_then}
use Rattle.ferry_carry.specs.Listing.{BeginsNames}
use Rattle.ferry_carry.specs.declared.options.Carried.{Carried}
use Rattle.ferry_carry.specs.Carrying.{AreCut, IsCarried, Origin}
use Rattle.ferry_carry.specs.Accepting.{AreNamedNext}
use Rattle.ferry_carry.specs.Flight.{origin_of}
use Rattle.ferry_carry.specs.Naming.{TaggedRecord}
use Rattle.ferry_carry.specs.Grow.{Grown, IsNamedBy, KeepsChunks, StandsOn, job}
use Rattle.ferry_piece.specs.Puts.{Addition, AddsAll, AtBegin, Border, GoesOn, border_behind}
use Rattle.ferry_carry.specs.Telling.{AcceptsNames, BeginsAll, CarriesNames, IsReport, IsReportedOf, KeepsReported, ReportsWhole, TellsWhole}
use Rattle.ferry_carry.specs.Lines.{total_line}
use Rattle.ferry_piece.specs.Work.{Works}
use Rattle.ferry_piece.specs.declared.fault.CarryFault.{CarryFault}
use Rattle.ferry_carry.specs.declared.options.Options.{Options}
use Rattle.ferry_disk.proofs.ImageLemmas.{plain_read}
use Rattle.ferry_disk.specs.Act.{History, files_now}
use Rattle.ferry_disk.specs.Device.{Told, told_files}
use Rattle.ferry_disk.specs.Files.{Files}
use Rattle.ferry_disk.specs.Image.{PlainFate}
use Rattle.ferry_disk.specs.Moments.{Between}
use Rattle.ferry_disk.specs.declared.name.Name.TheVariants.{Config as ConfigFile}
use Rattle.ferry_manifest.specs.Manifest.Text.{ManifestText}
use Rattle.ferry_repo.proofs.LawLemmas.{one_repo}
use Rattle.ferry_repo.specs.Opening.{OpensFilesTo, RepoState, repo_view}
use Rattle.ferry_segment.specs.Entry.{LogEntry}
use Rattle.ferry_stops.specs.Blobs.{AllTraced}
use Rattle.ferry_stops.specs.Chance.{EachStop}
use Rattle.ferry_stops.specs.Counters.{IsKept}
use Rattle.ferry_stops.specs.Entries.{Shows}
use Rattle.ferry_stops.specs.Tells.{TellsNothing, lines_of}
use Rattle.ferry_store.proofs.StandingLemmas.{manifest_learnt}
use Rattle.ferry_store.proofs.StepLemmas.{did_known, first_kept, moments_map, moments_then}
use Rattle.ferry_store.specs.Commit.{accepted_in, IsSettled}
use Rattle.ferry_store.specs.Standing.{committed_of, entries_of, live_in, with_manifest}
use Rattle.ferry_store.specs.State.{Did, ShowsStanding, Written, found}
use Rattle.ferry_store.specs.Store.{KeepsRun, OpenEach, OpenFits, OpensFound, StoreFits}
use Rattle.ferry_store.specs.declared.store.Store.{Store}
use Rattle.ferry_run_transfer.specs.Transfer.{AddsAllBehind, KeepsArchives, ListsChosen, Request, TransferEach, TransferEnds, TransferShows, asked, chosen_of}
use Rattle.ferry_status.specs.declared.status.Secrets.{Secrets}
use Rattle.ferry_write.proofs.LawLemmas.{fits_now}
use Rattle.ferry_write.specs.Room.{behind}
use Rattle.ferry_write.specs.Script.{AllDone}
use Rattle.ferry_status.proofs.LeftLemmas.{now_left}
use Rattle.ferry_run_transfer.specs.Transfer.{TransferLeaves}
use Rattle.ferry_run_transfer.proofs.StandingLemmas.{all_shown, at_begin, none_pending, shown_keeps}
use Rattle.ferry_run_transfer.proofs.CarriedLemmas.{all_listed, all_of, stands_keeps}
use Rattle.ferry_carry.specs.States.{target_state, drawn_from}

-- ---- the opening, and what follows

-- At this moment these lines were told, and each stop keeps the archives.
abbrev KeepsAt : Request → History → ManifestText → History → Type 0
KeepsAt request before manifest moment = EachStop (KeepsArchives request (files_now before) manifest (lines_of moment.acts)) moment

-- a run that had made no act told no line
pub untold_yet : (h : History) → h.acts ≡ [] → lines_of h.acts ≡ []
unfolding lines_of
untold_yet h begun = ap lines_of begun

pub shows_opened : (request : Request) (h g : History) (committed : List LogEntry) → Shows (files_now h) (Some committed) → TellsNothing h g → OpenEach h g
    → TransferShows request h g
shows_opened request h g committed shown untold each begun repo opens =
    let Stands : History → Type 0 = EachStop (ShowsStanding (found (Some committed) (files_now h))) in
    moments_map (λ k. Stands k × TellsNothing h k) (KeepsAt request h repo.manifest) h g
    (λ k stops image left.
    subst (λ (lines : List (List ℕ)). KeepsArchives request (files_now h) repo.manifest lines image) (sym (stops.1 ∙ untold_yet h begun))
    (shown_keeps request (files_now h) image repo committed opens shown (stops.0 image left)))
    (untold_moments Stands h g untold (each.0 committed begun shown))

sound_kept : (from : Origin) (chosen : List (List ℕ)) (within : List Addition) (store : Store) (h k : History) (written : Written)
    → IsReportedOf from chosen store within written true h k → IsKept k × AllTraced k
sound_kept from chosen within store h k written reported =
    let sound = reported.sound in (
      record { fresh = sound.fresh refl; shows = λ image left. let stands = (sound.shows image left).0 in (Some stands.entries, stands.shown) },
      sound.traced,
    )

-- ---- the end

-- what is committed in a store into which the archives came stands, with all of them
grown_stands : (from : Origin) (chosen : List (List ℕ)) (added : List Addition) (accepted : ManifestText) (store now : Store) (h g : History)
    (fits : StoreFits false store h) → accepted_in now ≡ (repo_view now.repo).manifest
    → (grown : Grown (job [] accepted from chosen) added false store now h g fits)
    → (stands : StandsOn [] from chosen added accepted (repo_view store.repo) fits.written (files_now g)) × ((stands.done ≡ chosen)
    × ((committed_of grown.fits_now.written ≡ stands.entries) × (stands.manifest ≡ (repo_view now.repo).manifest)))
grown_stands from chosen added accepted store now h g fits settled grown =
    let fits_then = grown.fits_now in
    let after = fits_then.written in
    let manifest = (repo_view now.repo).manifest in
    let commits = manifest_learnt (repo_view now.repo) (with_manifest (repo_view store.repo) manifest) after.committed (sym grown.most.keys) refl
    fits_then.manifest in
    let entries = commits.entries in
    let entries_are : committed_of after ≡ entries = ap (λ (c : Option (List LogEntry)). unwrap_or c []) commits.is in
    let shown : Shows (files_now g) after.committed =
    (behind now.session.after, fits_now now.session after.committed after.pending g fits_then.under_way.fits) in
    let config : (files_now g).config ≡ after.config =
    plain_read g.start g.acts ConfigFile (λ k e. let no : ⊥ = cc in no) ∙ ap (λ (f : PlainFate). f.read) fits_then.under_way.config in (
      record {
        entries = entries;
        manifest = manifest;
        shown = subst (λ (c : Option (List LogEntry)). Shows (files_now g) c) commits.is shown;
        chunks = subst (λ (c : List LogEntry). KeepsChunks (committed_of fits.written) c) entries_are grown.chunks;
        opening = λ id blob apart live. grown.opening id blob apart
            (fits_then.keeps id blob (subst (λ (c : List LogEntry). live_in id c ≡ Some blob) (sym entries_are) live));
        puts = subst (GoesOn (border_behind AtBegin []) (repo_view store.repo).keys from.most added fits.written) entries_are grown.committed;
        holds = commits.holds;
        names = grown.most.names;
        config = config ∙ grown.config;
        done = chosen;
        rest = [];
        front = sym (append-nil chosen);
        next = grown.next;
        carried = subst (λ (c : List LogEntry). AllByRecursion
            (IsCarried from added (entries_of fits.written) (repo_view store.repo).keys c manifest.archives) chosen) entries_are
            (subst (λ k. AllByRecursion (IsCarried from added (entries_of fits.written) k (committed_of after) manifest.archives) chosen)
            grown.most.keys grown.carried);
        cut = subst (λ k. AreCut accepted from k manifest.archives chosen) grown.most.keys grown.cut;
        only = subst (λ (m : ManifestText). IsNamedBy accepted chosen m) settled grown.only;
      },
      (refl, (entries_are, refl)),
    )

-- ---- the whole command

-- what was asked, over a source that opened to a repository, with the names that it chose
module _ (secrets : Secrets) (options : Options) (names : List (List ℕ)) (source : RepoState) (told : Option Told) (chosen : List (List ℕ))
    (source_opens : IfSome told (λ t. OpensFilesTo (told_files t) secrets.source source)) (chosen_is : chosen ≡ chosen_of names source.manifest) where
  abbrev request : Request
  request = asked secrets options names told

  abbrev from : Origin
  from = origin_of told source options

  -- What is added for the names that were chosen begins with these.
  abbrev pub IsBegin : Store → List Addition → Type 0
  IsBegin store within = BeginsNames from (repo_view store.repo).keys (accepted_in store) [] chosen within

  -- what stands behind the opening keeps the archives
  pub stands_opened : (store : Store) (within : List Addition) (h g : History) (lines : List (List ℕ)) (image : Files) → IsSettled store
      → OpensFilesTo (files_now h) secrets.target (repo_view store.repo) → IsBegin store within
      → (o : OpensFound false store h g) → (stands : StandsOn [] from chosen within (accepted_in store) (repo_view store.repo) o.fits.written image)
      → IsReport (accepted_in store) lines stands.done
      → (keeps : KeepsArchives request (files_now h) (repo_view store.repo).manifest lines image)
      × ((keeps.done ≡ stands.done) × ((keeps.begun ≡ within) × (keeps.repo.manifest ≡ stands.manifest)))
  stands_opened store within h g lines image settled opens begins o stands report =
      stands_keeps secrets options names source told chosen within (accepted_in store) (files_now h) image (repo_view store.repo) o.fits.written o.committed
      source_opens chosen_is settled opens o.shown (ap committed_of o.found_is) (ap entries_of o.found_is ∙ append-nil o.committed)
      (ap (λ (w : Written). w.config) o.found_is) lines begins stands report

  -- the same at a moment, by all lines that were told
  kept_at : (store : Store) (within : List Addition) (h g k : History) → h.acts ≡ [] → TellsNothing h g → IsSettled store
      → OpensFilesTo (files_now h) secrets.target (repo_view store.repo) → IsBegin store within → (o : OpensFound false store h g)
      → IsReportedOf from chosen store within o.fits.written false g k
      → KeepsAt request h (repo_view store.repo).manifest k
  kept_at store within h g k begun untold settled opens begins o reported image left =
      let is : lines_of k.acts ≡ reported.lines =
      reported.told ∙ ap (λ (l : List (List ℕ)). l ++ reported.lines) (untold ∙ untold_yet h begun) in
      let shows = reported.sound.shows image left in
      subst (λ (lines : List (List ℕ)). KeepsArchives request (files_now h) (repo_view store.repo).manifest lines image) (sym is)
      (stands_opened store within h g reported.lines image settled opens begins o shows.0 shows.1).0

  transfer_then : (store : Store) (within : List Addition) (h g i : History) → IsSettled store
      → OpensFilesTo (files_now h) secrets.target (repo_view store.repo) → TellsNothing h g → OpenEach h g → AllDone h g → OpenFits store h g
      → IsBegin store within → KeepsReported from chosen store within g i → TransferEach request h i
  transfer_then store within h g i settled opens untold each done fits begins reported = (
    λ begun repo opens_to.
        let o = fits false begun (λ c. absurd (let no : ⊥ = cc in no)) in
        let same = one_repo (files_now h) secrets.target (repo_view store.repo) repo opens opens_to in
        moments_then (KeepsAt request h repo.manifest) h g i
        (shows_opened request h g o.committed o.shown untold each begun repo opens_to) done
        (moments_map (IsReportedOf from chosen store within o.fits.written false g)
        (KeepsAt request h repo.manifest) g i
        (λ k sound. subst (λ (r : RepoState). KeepsAt request h r.manifest k) same (kept_at store within h g k begun untold settled opens begins o sound))
        (reported false o.fits)),
    (
      λ begun kept.
          let o = fits true begun (λ c. kept) in
          moments_then (λ k. IsKept k × AllTraced k) h g i (each.1.0 begun kept) done
          (moments_map (IsReportedOf from chosen store within o.fits.written true g)
          (λ k. IsKept k × AllTraced k) g i
          (λ k sound. sound_kept from chosen within store g k o.fits.written sound) (reported true o.fits)),
      (
        λ begun.
            let o = fits false begun (λ c. absurd (let no : ⊥ = cc in no)) in
            moments_then KeepsRun h g i (each.1.1.0 begun) done
            (moments_map (IsReportedOf from chosen store within o.fits.written false g) KeepsRun g i
            (λ k at. (at.sound.numbers, at.sound.types)) (reported false o.fits)),
        λ begun.
            let o = fits false begun (λ c. absurd (let no : ⊥ = cc in no)) in
            first_kept (IsReportedOf from chosen store within o.fits.written false g) g i
            o.fits.under_way.fits.own.safe.settled_is (each.1.1.1 begun) (reported false o.fits),
      ),
    ),
  )

  ends_then : (store now : Store) (records : List TaggedRecord) (added : List Addition) (carried : Carried) (x y : Option (List ℕ)) (h g i : History) →
      IsSettled store → IsSettled now → now.pending ≡ 0
      → OpensFilesTo (files_now h) secrets.target (repo_view store.repo) → TellsNothing h g → OpenFits store h g → IsBegin store added
      → AcceptsNames from chosen records store now x y → CarriesNames from chosen records added store now g i
      → TellsWhole (accepted_in store) chosen added carried g i → TransferEnds request x y h i
  ends_then store now records added carried x y h g i settled settled_now none opens untold fits begins accepts carries told_then begun =
      let o = fits false begun (λ c. absurd (let no : ⊥ = cc in no)) in
      let grown = carries.0 false o.fits in
      let stands = grown_stands from chosen added (accepted_in store) store now g i o.fits settled_now grown in
      let keys = (repo_view store.repo).keys in
      let written : entries_of o.fits.written ≡ o.committed = ap entries_of o.found_is ∙ append-nil o.committed in
      let entries : entries_of grown.fits_now.written ≡ stands.0.entries = none_pending now i grown.fits_now none ∙ stands.1.1.0 in
      let whole : TellsWhole (accepted_in store) chosen added carried h i = (
        told_then.0,
        (
          told_then.1.0,
          (
            told_then.1.1.0 ∙ ap (λ (l : List (List ℕ)). l ++ (told_then.1.0 ++ total_line carried ∷ [])) untold,
            told_then.1.1.1,
          ),
        ),
      ) in
      let report = subst (λ (l : List (List ℕ)). IsReport (accepted_in store) (lines_of i.acts) l) (sym stands.1.0)
      (whole_report (accepted_in store) chosen added carried h i (untold_yet h begun) whole) in
      let kept = stands_opened store added h g (lines_of i.acts) (files_now i) settled opens begins o stands.0 report in
      let manifest = (repo_view now.repo).manifest in
      let start = files_now h in
      let adds = all_shown request start (files_now i) (repo_view store.repo) o.committed stands.0.entries added opens o.shown stands.0.shown
      (subst (AddsAll AtBegin keys options.checkpoint o.committed added) entries
      (subst (λ (front : List LogEntry). AddsAll AtBegin keys options.checkpoint front added (entries_of grown.fits_now.written)) written
      (subst (λ (b : Border). AddsAll b keys options.checkpoint (entries_of o.fits.written) added (entries_of grown.fits_now.written)) at_begin
      grown.puts))) in
      let lists = all_listed secrets options names source told chosen (accepted_in store) manifest (repo_view store.repo) records added source_opens
      chosen_is settled carries.1
      (subst (AreNamedNext options.timestamp source.manifest keys (accepted_in store) chosen records) settled_now accepts.0) in
      let told_all = subst (λ (m : ManifestText). TellsWhole m kept.0.done added carried h i) settled
      (subst (λ (l : List (List ℕ)). TellsWhole (accepted_in store) l added carried h i) (sym (kept.1.0 ∙ stands.1.0)) whole) in
      let begun = sym kept.1.1.0 in
      let manifest_is : manifest ≡ kept.0.repo.manifest = sym (kept.1.1.1 ∙ stands.1.1.1) in
      record {
        repo = repo_view store.repo;
        opens = opens;
        keeps = kept.0;
        all = all_of secrets options names source told kept.0.done source_opens (kept.1.0 ∙ (stands.1.0 ∙ chosen_is));
        carried = carried;
        told_all = subst (λ (l : List Addition). TellsWhole (repo_view store.repo).manifest kept.0.done l carried h i) begun told_all;
        adds = subst (AddsAllBehind request start (files_now i)) begun adds;
        records = records;
        drew = accepts.1;
        lists = subst (λ (m : ManifestText). IfSome request.source (ListsChosen request (repo_view store.repo) m records kept.0.begun)) manifest_is
            (subst (λ (l : List Addition). IfSome request.source (ListsChosen request (repo_view store.repo) manifest records l)) begun lists);
      }

  -- the store that was opened, over the files that opened to its repository
  abbrev OpensTo : Store → History → History → Type 0
  OpensTo store before now = OpensFilesTo (files_now before) secrets.target (repo_view store.repo) × OpenFits store before now

  -- An opening tells nothing.
  abbrev OpensUntold : History → History → Type 0
  OpensUntold before now = TellsNothing before now × OpenEach before now

  abbrev OpensToUntold : Store → History → History → Type 0
  OpensToUntold store before now = OpensUntold before now × OpensTo store before now

  opened_works : (store : Store) (a b : Option Told) (n m : ℕ) → IfSome a (λ t. OpensFilesTo (files_now t.history) secrets.target (repo_view store.repo))
      → Between a b TellsNothing → Did OpenEach OpenFits a b n m (Ok store) → Works OpensUntold OpensToUntold a b n m (Ok store)
  opened_works store a b n m opens untold opened =
      let P : History → Type 0 = λ h. OpensFilesTo (files_now h) secrets.target (repo_view store.repo) in
      works_both OpensUntold OpensTo a b n m (Ok store)
      (works_ok OpenEach (λ (s : Store) h g. P h × OpenFits s h g) OpensUntold OpensTo a b n m store store (λ h g none e. (none, e)) (λ h g e. e) untold
      (did_known P OpenEach OpenFits a b n m store opens opened))

  -- what begins at an opened store is known at each moment behind it
  begun_each : (store : Store) (within : List Addition) (a b : Option Told) → BeginsAll a from store chosen within
      → Between a b (KeepsReported from chosen store within) → Between a b (λ h g. IsBegin store within × KeepsReported from chosen store within h g)
  begun_each store within a b begins each = between_known (λ _. IsBegin store within) (KeepsReported from chosen store within) a b begins each

  -- the archives of the chosen names were copied
  pub copied_all : {U : Type 0} (store now : Store) (a b c : Option Told) (n m k : ℕ) (x : Carried) (y : U) (drawn drawn_now : Option (List ℕ)) → IsSettled
      store → IsSettled now
      → now.pending ≡ 0 → IfSome a (λ t. OpensFilesTo (files_now t.history) secrets.target (repo_view store.repo)) → Between a b TellsNothing
      → Did OpenEach OpenFits a b n m (Ok store) → ReportsWhole from chosen (target_state b m store) (target_state c k now) (drawn_from drawn drawn_now)
      (Ok x)
      → Works (TransferEach request) (λ (_ : U). TransferEnds request drawn drawn_now) a c n k (Ok y)
  copied_all {U} store now a b c n m k x y drawn drawn_now settled settled_now none opens untold opened carried =
      let added = carried.added in
      let Each : History → History → Type 0 = λ h g. IsBegin store added × KeepsReported from chosen store added h g in
      let Ends : Carried → History → History → Type 0 =
      λ total h g. CarriesNames from chosen carried.records added store now h g × TellsWhole (accepted_in store) chosen added total h g in
      let begun : Works Each (λ total h g. Each h g × Ends total h g) b c m k (Ok x) =
      works_both Each Ends b c m k (Ok x)
      (record {
        each = begun_each store added b c carried.begins carried.works.each;
        end = carried.works.end;
        ends = carried.works.ends;
        cause = carried.works.cause;
      }) in
      let all = works_then OpensUntold OpensToUntold Each (λ total h g. Each h g × Ends total h g) (TransferEach request)
      (λ (_ : Carried). TransferEnds request drawn drawn_now) a b c n m k store (Ok x)
      (λ h g i each done fits reported. transfer_then store added h g i settled fits.1.0 each.0 each.1 done fits.1.1 reported.0 reported.1)
      (λ total h g i fits end.
      ends_then store now carried.records added total drawn drawn_now h g i settled settled_now none fits.1.0 fits.0.0 fits.1.1 end.0.0 carried.accepts
      end.1.0 end.1.1)
      (opened_works store a b n m opens untold opened) begun in
      record { each = all.each; end = all.end; ends = all.ends; cause = all.cause }

  -- they were not
  pub copied_some : {U : Type 0} (store now : Store) (a b c : Option Told) (n m k : ℕ) (drawn drawn_now : Option (List ℕ)) (fault : CarryFault) → IsSettled
      store
      → IfSome a (λ t. OpensFilesTo (files_now t.history) secrets.target (repo_view store.repo)) → Between a b TellsNothing
      → Did OpenEach OpenFits a b n m (Ok store) → ReportsWhole from chosen (target_state b m store) (target_state c k now) (drawn_from drawn drawn_now)
      (Err fault)
      → Works (TransferEach request) (λ (_ : U). TransferEnds request drawn drawn_now) a c n k (Err fault)
  copied_some {U} store now a b c n m k drawn drawn_now fault settled opens untold opened carried =
      let added = carried.added in
      let Each : History → History → Type 0 = λ h g. IsBegin store added × KeepsReported from chosen store added h g in
      let Ends : Carried → History → History → Type 0 = λ _ h g. Unit {0} in
      let begun : Works Each Ends b c m k (Err fault) =
      record { each = begun_each store added b c carried.begins carried.works.each; end = tt; ends = carried.works.ends; cause = carried.works.cause } in
      let all = works_then OpensUntold OpensToUntold Each Ends (TransferEach request)
      (λ (_ : Carried) (h : History) (g : History). Unit {0}) a b c n m k store (Err fault)
      (λ h g i each done fits reported. transfer_then store added h g i settled fits.1.0 each.0 each.1 done fits.1.1 reported.0 reported.1)
      (λ _ h g i e f. tt) (opened_works store a b n m opens untold opened) begun in
      record { each = all.each; end = tt; ends = all.ends; cause = all.cause }

-- ---- what is read at the end

pub left_of : (request : Request) (h g : History) → TransferEach request h g → TransferLeaves request h g
left_of request h g each begun repo opens =
    let moments = each.0 begun repo opens in
    moments.last (files_now g)
    (now_left (λ k. EachStop (KeepsArchives request (files_now h) repo.manifest (lines_of k.acts)) k) h g begun each.1.1.1 moments)
