-- Lemmas on specs/Drill.antt: what a copy of the drill's source leaves in a new target.
use Rattle.std.proofs.Common.{Result, Ok, Err, OnOk, IfSome, ◌≡◌, ◌≤◌, ◌<◌, ◌+◌, ◌*◌, ℕ, zero, false, List, [], ◌∷◌, ◌++◌, map, min, Option, Some, None}
use Rattle.std.proofs.Common.{unwrap_or, refl, sym, ◌∙◌, ap, subst, arith}
use Rattle.std.proofs.lemmas.List.{length-map}
use Rattle.ferry_carry.proofs.NextLemmas.{next_of}
use Rattle.ferry_carry.specs.Carrying.{Origin, IsApart, IsCarried, IsWholeBy, CarriesOver}
use Rattle.ferry_carry.specs.Grow.{Grown, job}
use Rattle.ferry_carry.specs.Lines.{total_line}
use Rattle.ferry_carry.specs.Naming.{record_ids}
use Rattle.ferry_carry.specs.Telling.{CarriesNames, IsReportedOf, KeepsReported, ReportsWhole, TellsWhole}
use Rattle.ferry_carry.specs.declared.options.Carried.{Carried}
use Rattle.ferry_disk.proofs.MomentLemmas.{between_map}
use Rattle.ferry_disk.specs.Device.{Told, told_files}
use Rattle.ferry_disk.specs.Moments.{Between}
use Rattle.ferry_piece.proofs.WorkLemmas.{works_then}
use Rattle.ferry_piece.specs.Work.{Works}
use Rattle.ferry_piece.specs.declared.fault.CarryFault.{CarryFault}
use Rattle.ferry_run_transfer.proofs.TransferLemmas.{untold_yet}
use Rattle.ferry_stops.specs.Tells.{TellsNothing}
use Rattle.ferry_store.proofs.StepLemmas.{first_kept}
use Rattle.ferry_store.specs.New.{OpensNew, first_manifest}
use Rattle.ferry_write.specs.Script.{AllDone}
use Rattle.ferry_write.specs.Session.{SettlesFirst}
use Rattle.ferry_disk.specs.Act.{History, files_now}
use Rattle.ferry_disk.specs.Files.{Files}
use Rattle.ferry_gen.proofs.ListLemmas.{entries_none}
use Rattle.ferry_gen.proofs.MadeLemmas.{settings_read}
use Rattle.ferry_gen.proofs.MadeFilesLemmas.{shows}
use Rattle.ferry_gen.specs.Archives.{AreRecordsOf, HasArchives, contents_from, drill_archive, entries_from}
use Rattle.ferry_gen.specs.Content.{archive_name}
use Rattle.ferry_gen.specs.Source.{HasPlain, IsSource, item_names, source_block, source_secret}
use Rattle.ferry_mac.specs.declared.keys.Keys.{Keys}
use Rattle.ferry_manifest.specs.Manifest.Text.{ManifestText}
use Rattle.ferry_manifest.specs.declared.manifest.ArchiveRef.{ArchiveRef}
use Rattle.ferry_piece.specs.Gather.{NoCollision}
use Rattle.ferry_piece.specs.Puts.{Addition, AtBegin, border_behind}
use Rattle.ferry_repo.proofs.LawLemmas.{one_repo}
use Rattle.ferry_repo.proofs.WholeLemmas.{one_whole}
use Rattle.ferry_repo.specs.Opening.{OpensFilesTo, RepoState, repo_view}
use Rattle.ferry_repo.specs.Whole.{IsWhole}
use Rattle.ferry_repo.specs.declared.secret.Secret.{Secret}
use Rattle.ferry_segment.specs.Entry.{LogEntry}
use Rattle.ferry_store.proofs.StandingLemmas.{opened_unlocks, opens_live}
use Rattle.ferry_store.specs.Commit.{IsSettled, accepted_in}
use Rattle.ferry_store.specs.Standing.{UnlocksSettings, committed_of, entries_of, live_in}
use Rattle.ferry_store.specs.State.{Did}
use Rattle.ferry_store.specs.Store.{InitEach, InitFits, InitMakes, StoreFits}
use Rattle.ferry_store.specs.declared.store.Store.{Store}
use Rattle.ferry_run_transfer.specs.Transfer.{chosen_of}
use Rattle.ferry_run_drill.proofs.NameLemmas.{AreListed, SaysAll, all_lines, all_listed, all_new, all_next, below_none, entry_names, name_of, names_from}
use Rattle.ferry_run_drill.proofs.ManifestLemmas.{names_come}
use Rattle.ferry_run_drill.proofs.NameLemmas.{names_size, texts_of}
use Rattle.ferry_run_drill.proofs.OpenLemmas.{accepts_first, all_open, new_archives, none_live, open_manifest}
use Rattle.ferry_run_drill.proofs.MetaLemmas.{meta_is, streams_all}
use Rattle.ferry_run_drill.proofs.NewLemmas.{PutsNew, puts_new}
use Rattle.ferry_run_drill.proofs.TotalLemmas.{counts_all, totals_are}
use Rattle.ferry_run_drill.specs.Drill.{HasCopied, NoneCollide, drill_time, target_block, target_secret}
use Rattle.ferry_run_drill.specs.Steps.{CopiesNames, IsMadeNew, drill_checkpoint, drill_origin}
use Rattle.ferry_write.specs.Room.{behind}
use Rattle.ferry_carry.specs.States.{target_state, drawn_from}

-- ---- a source that was made and opened

module _ (count : ℕ) (files : Files) (is : IsSource count files) (repo : RepoState) (opens : OpensFilesTo files source_secret repo) (most : count ≤ 64) where
  same_repo : is.repo ≡ repo
  same_repo = one_repo files source_secret is.repo repo is.opens opens

  source_archives : repo.manifest.archives ≡ entries_from repo.keys 0 is.texts
  source_archives = subst (λ (r : RepoState). r.manifest.archives ≡ entries_from r.keys 0 is.texts) same_repo is.archives

  -- all names are chosen
  pub chosen_names : chosen_of [] repo.manifest ≡ names_from 0 count
  chosen_names =
      ap (map (λ (entry : ArchiveRef). entry.name)) source_archives ∙ (entry_names repo.keys 0 is.texts ∙ ap (names_from 0) is.texts_size)

  -- and each archive is whole
  pub source_says : NoCollision is.repo.keys (contents_from is.repo.keys source_block zero is.texts) → SaysAll files repo count
  source_says apart archive less =
      subst (λ (r : RepoState). IsWhole files r.log r.keys r.manifest.archives (archive_name archive) (drill_archive archive)) same_repo
      (is.wholes apart archive less)

-- ---- the copy

module _ (count : ℕ) (source : Files) (is : IsSource count source) (repo : RepoState) (opens : OpensFilesTo source source_secret repo) (most : count ≤ 64)
    (carried : Carried) (before now : History) (c : CopiesNames source repo (names_from 0 count) carried before now) where
  abbrev keys : Keys
  keys = (repo_view c.store.repo).keys

  none : (accepted_in c.store).archives ≡ []
  none = new_archives c.store before c.begun c.made

  grown : Grown (job [] (accepted_in c.store) (drill_origin source repo) (names_from 0 count)) c.added false c.store c.store_now c.begun now c.made.fits
  grown = c.carries.0 false c.made.fits

  copied_keys : (repo_view c.store_now.repo).keys ≡ keys
  copied_keys = grown.most.keys

  -- where the source's archives are those of the drill
  module _ (says : SaysAll source repo count) where
    listed : AreListed keys 0 count c.records c.added
    listed =
        all_listed source repo keys (accepted_in c.store) [] 0 count c.records c.added none (below_none 0) (omega (arith, most))
        (λ n low. says n (omega (arith, low))) c.carries.1

    abbrev texts : List (List ℕ)
    texts = texts_of c.records

    archives : (repo_view c.store_now.repo).manifest.archives ≡ entries_from keys 0 texts
    archives =
        ap (λ (m : ManifestText). m.archives) (sym c.settled_now)
        ∙ all_next None repo.manifest (accepted_in c.store) (accepted_in c.store_now) repo.keys keys is.texts [] 0 count c.records (record_ids keys c.records)
        (source_archives count source is repo opens most) (none ∙ sym (entries_none keys)) refl (omega (arith, most)) (omega (arith, is.texts_size))
        (omega (arith, is.texts_size, most)) listed.size refl c.accepts

    -- an archive is whole wherever the blobs are that are live
    whole_by : (archive : ℕ) → archive < count → NoCollision keys (contents_from keys target_block 0 texts)
        → IsWholeBy (committed_of grown.fits_now.written) (repo_view c.store_now.repo).keys (repo_view c.store_now.repo).manifest.archives
        (archive_name archive)
        (drill_archive archive)
    whole_by archive less apart =
        let scope = contents_from keys target_block 0 texts in
        let one : CarriesOver source (drill_origin source repo) c.added (entries_of c.made.fits.written) (repo_view c.store_now.repo).keys
        (committed_of grown.fits_now.written) (repo_view c.store_now.repo).manifest.archives (archive_name archive) =
        name_of (IsCarried (drill_origin source repo) c.added (entries_of c.made.fits.written) (repo_view c.store_now.repo).keys
        (committed_of grown.fits_now.written) (repo_view c.store_now.repo).manifest.archives) count archive grown.carried less in
        let same : one.over.whole ≡ drill_archive archive =
        one_whole source repo.log repo.keys repo.manifest.archives (archive_name archive) one.over.whole (drill_archive archive) one.over.source
        (says archive less) in
        let stays : IsApart scope (repo_view c.store_now.repo).keys (entries_of c.made.fits.written) c.added =
        record {
          one = subst (λ (k : Keys). NoCollision k scope) (sym copied_keys) apart;
          added = listed.among;
          live = λ id blob content chunk live opens_to. absurd (none_live c.store before c.begun c.made id blob chunk live);
        } in
        subst (IsWholeBy (committed_of grown.fits_now.written) (repo_view c.store_now.repo).keys (repo_view c.store_now.repo).manifest.archives
        (archive_name archive)) same (one.target scope stays)

    pub has_archives : HasArchives target_secret target_block count (files_now now)
    has_archives =
        let files = files_now now in
        let fits = grown.fits_now in
        let next = repo_view c.store_now.repo in
        let entries = fits.manifest.entries in
        let config : files.config ≡ (files_now c.begun).config =
        settings_read c.store_now now fits ∙ (grown.config ∙ sym (settings_read c.store c.begun c.made.fits)) in
        let old = repo_view c.store.repo in
        let unlocked : UnlocksSettings target_secret files.config old.config old.keys =
        subst (λ (o : Option (List ℕ)). UnlocksSettings target_secret o old.config old.keys) (sym config)
        (opened_unlocks (files_now c.begun) target_secret old c.made.opens) in
        let unlocks : UnlocksSettings target_secret files.config next.config next.keys =
        subst (UnlocksSettings target_secret files.config next.config) (sym copied_keys)
        (subst (λ k. UnlocksSettings target_secret files.config k keys) (sym grown.most.config) unlocked) in
        let live = opens_live target_secret files next entries (shows c.store_now now fits c.none_now) unlocks fits.manifest.holds in
        let committed : committed_of fits.written ≡ entries = ap (λ (o : Option (List LogEntry)). unwrap_or o []) fits.manifest.is in
        record {
          repo = record next { log = live.log };
          opens = live.opens;
          texts = texts;
          texts_size = length-map c.records (λ one. one.text) ∙ listed.size;
          archives = archives ∙ ap (λ (k : Keys). entries_from k 0 texts) (sym copied_keys);
          records = subst (λ (k : Keys). AreRecordsOf k target_block 0 texts) (sym copied_keys) listed.are;
          wholes = λ apart archive less.
              whole_by archive less (subst (λ (k : Keys). NoCollision k (contents_from k target_block 0 texts)) copied_keys apart) files live.log
              (λ id blob chunk is_live. (live.blobs id blob).1 (ap (live_in id) (sym committed) ∙ is_live));
        }

    -- where no contents collide there, each content is put once
    put_total : 1 ≤ count → NoneCollide has_archives
        → (carried.chunks ≡ 280 * count + 8) × ((carried.bytes ≡ 512 * (280 * count + 8)) × (carried.meta ≡ count))
    unfolding has_archives
    put_total some apart =
        let scope = contents_from keys target_block 0 texts in
        let same : NoCollision keys scope = subst (λ (k : Keys). NoCollision k (contents_from k target_block 0 texts)) copied_keys apart in
        let puts : PutsNew [] c.added =
        puts_new (border_behind AtBegin []) keys drill_checkpoint scope (entries_of c.made.fits.written) c.added (entries_of grown.fits_now.written) same
        listed.among (none_live c.store before c.begun c.made) grown.puts in
        let totals = totals_are count c.added carried most c.tells.0.put
        (counts_all source repo keys (accepted_in c.store) count c.records c.added none some most says puts c.carries.1) in
        let streams = streams_all source repo keys (accepted_in c.store) scope count c.records c.added none most says same listed.among puts c.carries.1 in
        (totals.0, (totals.1, meta_is count c.added carried most c.tells.0.put streams))

  -- the names of its items' fields
  target_names : 1 ≤ count → HasPlain source → (there : RepoState) → OpensFilesTo (files_now now) target_secret there
      → there.manifest.item_keys ≡ item_names
  target_names some plain there opens_to =
      let empty : (accepted_in c.store).item_keys ≡ [] =
      ap (λ (m : ManifestText). m.item_keys) (accepts_first c.store before c.begun c.made) in
      let come = names_come repo.manifest (accepted_in c.store) (names_from 0 count) (record_ids keys c.records) (accepted_in c.store_now) (plain repo opens)
      none empty (omega (arith, some, names_size 0 count)) c.accepts in
      ap (λ (m : ManifestText). m.item_keys) (open_manifest source repo (names_from 0 count) carried before now c there opens_to) ∙ come

  pub has_copied : 1 ≤ count → HasPlain source → HasCopied count carried now
  has_copied some plain =
      let total = c.tells.0 in
      let new = all_new (accepted_in c.store) [] 0 count total.copied total.present none (below_none 0) (omega (arith, most)) total.names in
      record {
        source = source;
        source_is = is;
        plain = plain;
        opened = all_open source repo (names_from 0 count) carried before now c;
        names = target_names some plain;
        archives = λ apart. has_archives (source_says count source is repo opens most apart);
        chunks = λ apart target_apart. (put_total (source_says count source is repo opens most apart) some target_apart).0;
        bytes = λ apart target_apart. (put_total (source_says count source is repo opens most apart) some target_apart).1.0;
        meta = λ apart target_apart. (put_total (source_says count source is repo opens most apart) some target_apart).1.1;
        lines = c.tells.1.1.0
            ∙ (ap (λ (l : List (List ℕ)). l ++ (c.tells.1.0 ++ total_line carried ∷ [])) c.made.untold
            ∙ ap (λ (l : List (List ℕ)). l ++ total_line carried ∷ [])
            (all_lines (accepted_in c.store) [] 0 count c.tells.1.0 none (below_none 0) (omega (arith, most)) c.tells.1.1.1));
        transferred = total.transferred_is
            ∙ (ap (λ (n : ℕ). min (0 + n) 18446744073709551615) new.0 ∙ (let e : min (0 + count) 18446744073709551615 ≡ count = omega (arith, most) in e));
        present = total.present_is ∙ ap (λ (n : ℕ). min (0 + n) 18446744073709551615) new.1;
      }

-- ---- what is done

-- the first act stays the first
settles_on : (from : Origin) (names : List (List ℕ)) (store : Store) (added : List Addition) (h g i : History) → SettlesFirst h g → IsMadeNew store h g
    → KeepsReported from names store added g i → SettlesFirst h i
settles_on from names store added h g i first made reported begun =
    first_kept (IsReportedOf from names store added made.fits.written false g) g i
    made.fits.under_way.fits.own.safe.settled_is (first begun) (reported false made.fits)

-- a store that is made
pub made_works : (store : Store) (timestamp bytes : List ℕ) (secret : Secret) (a b : Option Told) (n m : ℕ) → secret ≡ target_secret
    → timestamp ≡ drill_time → IfSome a (λ t. t.history.acts ≡ []) → Did (InitEach secret) InitFits a b n m (Ok store)
    → Between a b (InitMakes secret 1 timestamp bytes) → Between a b TellsNothing
    → IfSome b (λ t. OpensFilesTo (told_files t) secret (repo_view store.repo)) → IsSettled store → store.pending ≡ 0
    → behind store.session.last ≤ 2 → Works SettlesFirst IsMadeNew a b n m (Ok store)
made_works store timestamp bytes secret a b n m is time begun did makes untold opens settled none few = record {
  each = between_map a b (InitEach secret) SettlesFirst (λ h g e. e.1.1.1) did.each;
  end = at_end a b begun did.end makes untold opens;
  ends = did.ends;
  cause = did.cause;
} where
  at_end : (a b : Option Told) → IfSome a (λ t. t.history.acts ≡ []) → Between a b (λ h g. AllDone h g × InitFits store h g)
      → Between a b (InitMakes secret 1 timestamp bytes) → Between a b TellsNothing
      → IfSome b (λ t. OpensFilesTo (told_files t) secret (repo_view store.repo))
      → Between a b (λ h g. AllDone h g × IsMadeNew store h g)
  at_end None b begun fits makes untold opens = tt
  at_end (Some s) None begun fits makes untold opens = absurd (let e = fits.1 in let no : ⊥ = cc in no)
  at_end (Some s) (Some t) begun fits makes untold opens =
      let one : fits.0 ≡ t = (let e = fits.1 in cc) in
      let two : makes.0 ≡ t = (let e = makes.1 in cc) in
      let three : untold.0 ≡ t = (let e = untold.1 in cc) in
      let stands : StoreFits false store t.history =
      subst (λ (x : Told). StoreFits false store x.history) one (fits.2.1 false begun (λ counted. absurd (let no : ⊥ = cc in no))) in
      let New : Secret → Told → Type 0 = λ k x. (new : OpensNew k (told_files x)) × (new.repo.manifest ≡ first_manifest timestamp) in
      let own : New secret t = subst (New secret) two ((makes.2 begun).opens, (makes.2 begun).first) in
      let new : New target_secret t = subst (λ (k : Secret). New k t) is own in
      let silent : TellsNothing s.history t.history = subst (λ (x : Told). TellsNothing s.history x.history) three untold.2 in (
        t,
        refl,
        (
          subst (λ (x : Told). AllDone s.history x.history) one fits.2.0,
          record {
            free = record {
              uncommitted = (makes.2 begun).uncommitted;
              number = (makes.2 begun).free;
              counted = (makes.2 begun).number;
            };
            untold = silent ∙ untold_yet s.history begun;
            new = new.0;
            first = new.1 ∙ ap first_manifest time;
            opens = subst (λ (k : Secret). OpensFilesTo (told_files t) k (repo_view store.repo)) is opens;
            fits = stands;
            settled = settled;
            none = none;
            few = few;
          },
        ),
      )

-- names that were copied behind that, or not
pub copied_works : (source : Files) (repo : RepoState) (names : List (List ℕ)) (store now : Store) (a b d : Option Told) (n m k : ℕ)
    (x y : Option (List ℕ)) (r : Result Carried CarryFault) → Works SettlesFirst IsMadeNew a b n m (Ok store)
    → ReportsWhole (drill_origin source repo) names (target_state b m store) (target_state d k now) (drawn_from x y) r → OnOk r (IsSettled now)
    → OnOk r (store.pending ≡ 0 → now.pending ≡ 0)
    → store.pending ≡ 0 → Works SettlesFirst (CopiesNames source repo names) a d n k r
copied_works source repo names store now a b d n m k x y (Ok total) made carried settled ended free =
    let from = drill_origin source repo in
    let Each : History → History → Type 0 = KeepsReported from names store carried.added in
    let Ends : Carried → History → History → Type 0 =
    λ t h g. CarriesNames from names carried.records carried.added store now h g × TellsWhole (accepted_in store) names carried.added t h g in
    works_then SettlesFirst IsMadeNew Each Ends SettlesFirst (CopiesNames source repo names) a b d n m k store (Ok total)
    (λ h g i first done is reported begun. settles_on from names store carried.added h g i first is reported begun)
    (λ t h g i is end. record {
      store = store;
      begun = g;
      made = is;
      store_now = now;
      settled_now = settled;
      none_now = ended free;
      records = carried.records;
      added = carried.added;
      carries = end.0;
      tells = end.1;
      accepts = next_of None repo.manifest (repo_view store.repo).keys (accepted_in store) names carried.records (accepted_in now) carried.accepts.0;
    }) made carried.works
copied_works source repo names store now a b d n m k x y (Err fault) made carried settled ended free =
    let from = drill_origin source repo in
    let Each : History → History → Type 0 = KeepsReported from names store carried.added in
    let Ends : Carried → History → History → Type 0 = λ t h g. ⊥ in
    let works : Works Each Ends b d m k (Err fault) =
    record { each = carried.works.each; end = tt; ends = carried.works.ends; cause = carried.works.cause } in
    works_then SettlesFirst IsMadeNew Each Ends SettlesFirst (CopiesNames source repo names) a b d n m k store (Err fault)
    (λ h g i first done is reported begun. settles_on from names store carried.added h g i first is reported begun)
    (λ t h g i is end. absurd end) made works
