-- Lemmas on specs/Tag.antt: what each stop leaves while archives are tagged, and while that is told.
use Rattle.std.proofs.Common.{◌≡◌, inl, inr, ℕ, suc, Bool, true, false, List, [], Some, map, refl, sym, ◌∙◌, ap, subst, Option}
use Rattle.std.proofs.lemmas.List.{append-nil}
use Rattle.ferry_run_tag.specs.Tag.{LeavesArchives}
use Rattle.ferry_disk.proofs.ImageLemmas.{plain_read}
use Rattle.ferry_disk.specs.Act.{TellOf, History, files_now}
use Rattle.ferry_disk.specs.Files.{Files}
use Rattle.ferry_disk.specs.Image.{PlainFate}
use Rattle.ferry_disk.specs.Moments.{Moments}
use Rattle.ferry_disk.specs.declared.name.Name.TheVariants.{Config as ConfigFile}
use Rattle.ferry_log.specs.Log.{Located}
use Rattle.ferry_refs.proofs.SameLemmas.{LieIn}
use Rattle.ferry_refs.proofs.TagSameLemmas.{freed_same, old_same}
use Rattle.ferry_refs.proofs.TaggedLemmas.{renewed_left, standing_left}
use Rattle.ferry_refs.specs.Deleting.{LeavesCommitted, time_of}
use Rattle.ferry_refs.specs.Tagging.{ShowsRenewed, ShowsTagged, TagsSound}
use Rattle.ferry_repo.proofs.LawLemmas.{one_repo}
use Rattle.ferry_repo.specs.Opening.{OpensFilesTo, RepoState, repo_view}
use Rattle.ferry_repo.specs.declared.secret.Secret.{Secret}
use Rattle.ferry_segment.specs.Entry.{LogEntry}
use Rattle.ferry_status.proofs.LeftLemmas.{now_left}
use Rattle.ferry_status.proofs.TellLemmas.{AreSome, first_then, keeps_then, numbers_then, stops_then}
use Rattle.ferry_status.specs.Opened.{ChangesEach, ChangesLeave, LeavesAll}
use Rattle.ferry_stops.proofs.EntryLemmas.{log_shown}
use Rattle.ferry_stops.specs.Blobs.{AllTraced}
use Rattle.ferry_stops.specs.Chance.{EachStop}
use Rattle.ferry_stops.specs.Counters.{IsKept}
use Rattle.ferry_stops.specs.Entries.{Shows}
use Rattle.ferry_stops.specs.Tells.{TellsNothing}
use Rattle.ferry_store.proofs.StandingLemmas.{state_live}
use Rattle.ferry_store.proofs.StepLemmas.{first_kept, moments_map, moments_then}
use Rattle.ferry_store.specs.Standing.{entries_of, live_in}
use Rattle.ferry_store.specs.State.{IsSound, IsStep, IsUnderWay, ShowsStanding, Written, found}
use Rattle.ferry_store.specs.Store.{KeepsRun, OpenEach, OpenFits, OpensFound}
use Rattle.ferry_store.specs.declared.store.Store.{Store}
use Rattle.ferry_write.proofs.LawLemmas.{fits_now}
use Rattle.ferry_write.specs.Room.{behind}
use Rattle.ferry_write.specs.Script.{AllDone}

-- what a tagging is asked for: the target's secret, and the time of the manifest, where it is given; and what a source of random bytes had handed out before
-- it and behind it
pub record Tagging : Type 0 where
  pub secret : Secret
  pub timestamp : Option (List ℕ)
  pub drawn : Option (List ℕ)
  pub drawn_now : Option (List ℕ)

abbrev pub tagging : Secret → Option (List ℕ) → Option (List ℕ) → Option (List ℕ) → Tagging
tagging secret timestamp drawn drawn_now = record { secret = secret; timestamp = timestamp; drawn = drawn; drawn_now = drawn_now }

-- Files have each archive that a repository had which opened from these, with the tags that they had, or with all.
abbrev pub KeepsEach : Tagging → Files → RepoState → Files → Type 0
KeepsEach asked start before image = (tagged : Bool) × LeavesArchives asked.secret asked.timestamp start before tagged image

-- At each moment of the command.
abbrev pub TagEach : Tagging → History → History → Type 0
TagEach asked = ChangesEach asked.secret (LeavesArchives asked.secret asked.timestamp)

-- what is shown of a store that is written, where its files are read
pub standing_now : (counts : Bool) (store : Store) (written : Written) (h : History) → IsUnderWay counts store.session store.counter written h
    → ShowsStanding written (files_now h)
standing_now counts store written h under_way = (
  (behind store.session.after, fits_now store.session written.committed written.pending h under_way.fits),
  plain_read h.start h.acts ConfigFile (λ k e. let no : ⊥ = cc in no) ∙ ap (λ (f : PlainFate). f.read) under_way.config,
)

-- ---- a store that was opened

module _ (asked : Tagging) (store : Store) (h g : History) (opens : OpensFilesTo (files_now h) asked.secret (repo_view store.repo)) where
  abbrev pub repo : RepoState
  repo = repo_view store.repo

  abbrev pub time : List ℕ
  time = time_of asked.timestamp repo.manifest

  module _ (counts : Bool) (o : OpensFound counts store h g) where
    entries_are : entries_of o.fits.written ≡ o.committed
    entries_are = ap entries_of o.found_is ∙ append-nil o.committed

    -- the same blobs lie in the files before and behind the opening
    pub lie_before : LieIn (files_now g) (files_now h) repo
    lie_before id blob apart has =
        (state_live (files_now h) repo.log o.committed opens.opens.unlocks.reads o.shown id blob).1
        (subst (λ (entries : List LogEntry). live_in id entries ≡ Some blob) entries_are ((o.fits.holds id blob apart).0 has))

    pub lie_behind : LieIn (files_now h) (files_now g) repo
    lie_behind id blob apart has =
        (o.fits.holds id blob apart).1
        (subst (λ (entries : List LogEntry). live_in id entries ≡ Some blob) (sym entries_are)
        ((state_live (files_now h) repo.log o.committed opens.opens.unlocks.reads o.shown id blob).0 has))

    pub tagged_over : (image : Files) → ShowsTagged (files_now g) repo time o.fits.written image
        → ShowsTagged (files_now h) repo time (found (Some o.committed) (files_now h)) image
    tagged_over image shows =
        subst (λ (written : Written). ShowsTagged (files_now h) repo time written image) o.found_is
        (record {
          olds = shows.olds;
          are_old = old_same (files_now g) (files_now h) repo lie_before repo.manifest.archives shows.olds shows.are_old;
          some = shows.some;
          texts = shows.texts;
          renewals = shows.renewals;
          puts = shows.puts;
          brings = shows.brings;
          ids = shows.ids;
          freed = freed_same (files_now g) (files_now h) repo shows.ids lie_before lie_behind shows.freed;
          blob = shows.blob;
          shows = shows.shows;
          manifest = shows.manifest;
        })

    -- what is shown leaves the archives
    pub standing_leaves : (image : Files) → ShowsStanding (found (Some o.committed) (files_now h)) image → KeepsEach asked (files_now h) repo image
    standing_leaves image shows = renewed_left asked.secret (files_now h) image repo time o.committed opens o.shown (inl shows)

    pub either_leaves : (image : Files) → ShowsRenewed (files_now g) repo time o.fits.written image → KeepsEach asked (files_now h) repo image
    either_leaves image (inl shows) =
        standing_leaves image (subst (λ (written : Written). ShowsStanding written image) o.found_is shows)
    either_leaves image (inr shows) =
        renewed_left asked.secret (files_now h) image repo time o.committed opens o.shown (inr (tagged_over image shows))

  -- the opening leaves all archives
  pub opened_leaves : (counts : Bool) → OpensFound counts store h g → OpenEach h g → h.acts ≡ [] → Moments (EachStop (KeepsEach asked (files_now h) repo)) h g
  opened_leaves counts o each begun =
      moments_map (EachStop (ShowsStanding (found (Some o.committed) (files_now h)))) (EachStop (KeepsEach asked (files_now h) repo)) h g
      (λ k stops image left. standing_leaves counts o image (stops image left)) (each.0 o.committed begun o.shown)

-- a moment at which counter blocks count is kept
sound_kept : (files : Files) (repo : RepoState) (time : List ℕ) (written : Written) (k : History)
    → IsSound (ShowsRenewed files repo time written) true k → IsKept k × AllTraced k
sound_kept files repo time written k sound = (
  record {
    fresh = sound.fresh refl;
    shows = λ image left. elim (sound.shows image left) [
      | inl shows ↦ (written.committed, shows.0)
      | inr shows ↦ (_, shows.shows.0)
    ];
  },
  sound.traced,
)

-- archives are tagged behind the opening
pub each_tagged : (asked : Tagging) (store : Store) (h g i : History) → OpensFilesTo (files_now h) asked.secret (repo_view store.repo) → OpenEach h g
    → AllDone h g → OpenFits store h g → TagsSound (time_of asked.timestamp (repo_view store.repo).manifest) store g i → TagEach asked h i
each_tagged asked store h g i opens each done fits sound =
    let repo = repo_view store.repo in
    let time = time_of asked.timestamp repo.manifest in
    let found_then : h.acts ≡ [] → OpensFound false store h g = λ begun. fits false begun (λ c. absurd (let no : ⊥ = cc in no)) in (
      λ begun other other_opens.
          let o = found_then begun in
          subst (λ (r : RepoState). Moments (EachStop (KeepsEach asked (files_now h) r)) h i)
          (one_repo (files_now h) asked.secret repo other opens other_opens)
          (moments_then (EachStop (KeepsEach asked (files_now h) repo)) h g i (opened_leaves asked store h g opens false o each begun) done
          (moments_map (IsSound (ShowsRenewed (files_now g) repo time o.fits.written) false) (EachStop (KeepsEach asked (files_now h) repo)) g i
          (λ k s image left. either_leaves asked store h g opens false o image (s.shows image left)) (sound false o.fits))),
      (
        λ begun kept.
            let o = fits true begun (λ c. kept) in
            moments_then (λ k. IsKept k × AllTraced k) h g i (each.1.0 begun kept) done
            (moments_map (IsSound (ShowsRenewed (files_now g) repo time o.fits.written) true) (λ k. IsKept k × AllTraced k) g i
            (λ k s. sound_kept (files_now g) repo time o.fits.written k s) (sound true o.fits)),
        (
          λ begun.
              let o = found_then begun in
              moments_then KeepsRun h g i (each.1.1.0 begun) done
              (moments_map (IsSound (ShowsRenewed (files_now g) repo time o.fits.written) false) KeepsRun g i (λ k s. (s.numbers, s.types))
              (sound false o.fits)),
          λ begun.
              let o = found_then begun in
              first_kept (IsSound (ShowsRenewed (files_now g) repo time o.fits.written) false) g i
              o.fits.under_way.fits.own.safe.settled_is (each.1.1.1 begun) (sound false o.fits),
        ),
      ),
    )

-- that is told
pub each_told : (asked : Tagging) (line : List ℕ) (h g i : History) → TagEach asked h g → AllDone h g → (h.acts ≡ [] → AreSome g.acts)
    → IsStep (TellOf line) g i → TagEach asked h i
each_told asked line h g i each done some is = (
  λ begun repo opens. stops_then (KeepsEach asked (files_now h) repo) line h g i (each.0 begun repo opens) done is,
  (
    keeps_then line h g i each.1.0 done is,
    (numbers_then line h g i each.1.1.0 done is, first_then (TellOf line) h g i each.1.1.1 some is),
  ),
)

-- ---- nothing is tagged

-- At each moment of a run that had made no act each stop leaves all archives.
abbrev pub LeavesEach : Tagging → History → History → Type 0
LeavesEach asked h i = h.acts ≡ [] → (repo : RepoState) → OpensFilesTo (files_now h) asked.secret repo
    → Moments (EachStop (LeavesArchives asked.secret asked.timestamp (files_now h) repo false)) h i

leaves_by : (asked : Tagging) (store : Store) (h g i : History) (opens : OpensFilesTo (files_now h) asked.secret (repo_view store.repo))
    → (o : OpensFound false store h g) → OpenEach h g → h.acts ≡ [] → AllDone h g
    → Moments (IsSound (ShowsStanding o.fits.written) false) g i
    → Moments (EachStop (LeavesArchives asked.secret asked.timestamp (files_now h) (repo_view store.repo) false)) h i
leaves_by asked store h g i opens o each begun done sound =
    let repo = repo_view store.repo in
    let time = time_of asked.timestamp repo.manifest in
    let Leaves : History → Type 0 = EachStop (LeavesArchives asked.secret asked.timestamp (files_now h) repo false) in
    let keeps : (image : Files) → ShowsStanding (found (Some o.committed) (files_now h)) image →
    LeavesArchives asked.secret asked.timestamp (files_now h) repo false image =
    λ image shows. standing_left asked.secret (files_now h) image repo time o.committed opens o.shown shows in
    moments_then Leaves h g i
    (moments_map (EachStop (ShowsStanding (found (Some o.committed) (files_now h)))) Leaves h g (λ k stops image left. keeps image (stops image left))
    (each.0 o.committed begun o.shown)) done
    (moments_map (IsSound (ShowsStanding o.fits.written) false) Leaves g i
    (λ k s image left. keeps image (subst (λ (written : Written). ShowsStanding written image) o.found_is (s.shows image left))) sound)

pub leaves_each : (asked : Tagging) (store : Store) (h g i : History) → OpensFilesTo (files_now h) asked.secret (repo_view store.repo) → OpenEach h g
    → AllDone h g → OpenFits store h g → LeavesCommitted store g i → LeavesEach asked h i
leaves_each asked store h g i opens each done fits leaves begun other other_opens =
    let o = fits false begun (λ c. absurd (let no : ⊥ = cc in no)) in
    subst (λ (r : RepoState). Moments (EachStop (LeavesArchives asked.secret asked.timestamp (files_now h) r false)) h i)
    (one_repo (files_now h) asked.secret (repo_view store.repo) other opens other_opens)
    (leaves_by asked store h g i opens o each begun done (leaves false o.fits))

-- an opening that was refused
pub each_opened : (asked : Tagging) (h g : History) → OpenEach h g → TagEach asked h g × LeavesEach asked h g
each_opened asked h g each =
    let leaves : LeavesEach asked h g = λ begun repo opens.
    let reads = opens.opens.unlocks.reads in
    let entries = map (λ (e : Located). e.entry) reads.log in
    let shown : Shows (files_now h) (Some entries) = (suc repo.log.transaction, log_shown (files_now h) repo.log.transaction reads.log reads.is) in
    moments_map (EachStop (ShowsStanding (found (Some entries) (files_now h))))
    (EachStop (LeavesArchives asked.secret asked.timestamp (files_now h) repo false)) h g
    (λ k stops image left.
    standing_left asked.secret (files_now h) image repo (time_of asked.timestamp repo.manifest) entries opens shown (stops image left))
    (each.0 entries begun shown) in (
      (
        λ begun repo opens.
            moments_map (EachStop (LeavesArchives asked.secret asked.timestamp (files_now h) repo false)) (EachStop (KeepsEach asked (files_now h) repo)) h g
            (λ k stops image left. (false, stops image left)) (leaves begun repo opens),
        each.1,
      ),
      leaves,
    )

-- ---- what is read then

pub some_left : (asked : Tagging) (h g : History) → TagEach asked h g → ChangesLeave asked.secret (LeavesArchives asked.secret asked.timestamp) h g
some_left asked h g each begun repo opens =
    let moments = each.0 begun repo opens in
    moments.last (files_now g) (now_left (EachStop (KeepsEach asked (files_now h) repo)) h g begun each.1.1.1 moments)

pub all_left : (asked : Tagging) (h g : History) → TagEach asked h g → LeavesEach asked h g → TellsNothing h g
    → LeavesAll asked.secret (LeavesArchives asked.secret asked.timestamp) h g
all_left asked h g each leaves untold begun repo opens =
    let moments = leaves begun repo opens in (
      moments.last (files_now g) (now_left (EachStop (LeavesArchives asked.secret asked.timestamp (files_now h) repo false)) h g begun each.1.1.1 moments),
      untold,
    )
