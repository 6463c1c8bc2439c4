-- Lemmas on the files of a new source: what they say, and what is told of them.
use Rattle.std.proofs.Common.{◌≡◌, inl, ◌≤◌, ◌<◌, ◌+◌, ◌-◌, ◌^◌, ℕ, zero, suc, false, List, [], ◌∷◌, ◌++◌}
use Rattle.std.proofs.Common.{length, min, Option, Some, None, Result, Ok, Err, OnOk, slice_get}
use Rattle.std.proofs.Common.{IfSome, IsSome, unwrap_or, refl, sym, ◌∙◌, ap, subst, arith}
use Rattle.std.proofs.lemmas.List.{append-nil}
use Rattle.std.proofs.lemmas.Option.{IfSome_then}
use Rattle.std.specs.List.{AllByRecursion}
use Rattle.ferry_base.specs.Limits.{zero_id}
use Rattle.ferry_blob.specs.Blob.{content_id}
use Rattle.ferry_carry.proofs.WholeLemmas.{HoldsPiece, copied_whole}
use Rattle.ferry_carry.specs.Copied.{adds_of}
use Rattle.ferry_disk.specs.Act.{History, files_now}
use Rattle.ferry_disk.specs.Device.{Told, told_files}
use Rattle.ferry_disk.specs.Files.{Files}
use Rattle.ferry_disk.specs.Moments.{Between}
use Rattle.ferry_log.specs.State.{LogState}
use Rattle.ferry_mac.specs.declared.keys.Keys.{Keys}
use Rattle.ferry_manifest.specs.Manifest.Text.{ManifestText}
use Rattle.ferry_manifest.specs.declared.manifest.ArchiveRef.{ArchiveRef}
use Rattle.ferry_next.specs.Next.{next_manifest, written_at}
use Rattle.ferry_piece.proofs.AmongLemmas.{all_among, all_front, each_to}
use Rattle.ferry_piece.specs.Gather.{HoldsContents, KeepsRest}
use Rattle.ferry_piece.specs.declared.fault.CarryFault.{CarryFault}
use Rattle.ferry_repo.proofs.LawLemmas.{one_repo}
use Rattle.ferry_repo.specs.Archives.{archive_named}
use Rattle.ferry_repo.specs.Opening.{OpensFilesTo, RepoState, repo_view}
use Rattle.ferry_repo.specs.Whole.{IsWhole}
use Rattle.ferry_repo.specs.declared.secret.Secret.{Secret}
use Rattle.ferry_segment.specs.Entry.{LogEntry, PutEntry}
use Rattle.ferry_stops.specs.Entries.{Shows}
use Rattle.ferry_store.proofs.StandingLemmas.{opened_unlocks, opens_live, state_live}
use Rattle.ferry_store.specs.Commit.{Commits, IsSettled, accepted_in}
use Rattle.ferry_store.specs.New.{OpensNew, first_manifest}
use Rattle.ferry_store.specs.Standing.{CommitsManifest, HoldsManifest, committed_of, entries_of, live_in, with_manifest}
use Rattle.ferry_store.specs.State.{Did}
use Rattle.ferry_store.specs.Store.{InitFits, InitMakes, StoreFits}
use Rattle.ferry_store.specs.declared.store.Store.{Store}
use Rattle.ferry_write.proofs.LawLemmas.{fits_now}
use Rattle.ferry_write.specs.Room.{behind}
use Rattle.ferry_write.specs.Script.{AllDone}
use Rattle.ferry_gen.proofs.ListLemmas.{contents_none, entries_none, entry_at}
use Rattle.ferry_gen.specs.Archives.{AreRecordsOf, IsRecordOf, contents_from, drill_archive, drill_items, entries_from, entry_of}
use Rattle.ferry_gen.specs.Content.{archive_name, archive_time}
use Rattle.ferry_gen.specs.Source.{HasPlain, IsPlain, IsSource, TellsEmpty, item_names, new_time, source_block, source_secret}
use Rattle.ferry_gen.specs.Steps.{HasMade, PutsArchive}
use Rattle.ferry_gen.proofs.MadeLemmas.{made_next}

-- ---- a new repository

-- nothing was put that isn't committed
nothing_pending : (pending : List LogEntry) → 0 ≡ min (length pending) (2 ^ 64 - 1) → pending ≡ []
nothing_pending [] none = refl
nothing_pending (e ∷ es) none = absurd (let no : ⊥ = omega (arith, none) in no)

module _ (store : Store) (h : History) (fits : StoreFits false store h) (none : store.pending ≡ 0) where
  -- what is committed holds the manifest
  abbrev pub commits : CommitsManifest (repo_view store.repo) fits.written.committed
  commits = fits.manifest

  -- what is written is what is committed
  pub entries_are : entries_of fits.written ≡ commits.entries
  entries_are =
      ap (λ (p : List LogEntry). committed_of fits.written ++ p) (nothing_pending fits.written.pending (sym none ∙ fits.pending))
      ∙ (append-nil (committed_of fits.written) ∙ ap (λ (c : Option (List LogEntry)). unwrap_or c []) commits.is)

  -- and that is shown
  pub shows : Shows (files_now h) (Some commits.entries)
  shows = subst (λ (c : Option (List LogEntry)). Shows (files_now h) c) commits.is
      (behind store.session.after, fits_now store.session fits.written.committed fits.written.pending h fits.under_way.fits)

  -- no archive is there
  pub made_none : IsSettled store → OpensFilesTo (files_now h) source_secret (repo_view store.repo) → (new : OpensNew source_secret (files_now h))
      → new.repo.manifest ≡ first_manifest new_time → HasMade 0 store h
  made_none settled opens new first =
      let repo = repo_view store.repo in
      let same = one_repo (files_now h) source_secret repo new.repo opens new.opens in
      let empty : (accepted_in store).archives ≡ [] =
      ap (λ (m : ManifestText). m.archives) settled ∙ (ap (λ (r : RepoState). r.manifest.archives) same ∙ new.no_archives) in
      record {
        texts = [];
        texts_size = refl;
        config = repo.config;
        unlocks = opened_unlocks (files_now h) source_secret repo opens;
        plain = subst (IsPlain []) (sym (settled ∙ (ap (λ (r : RepoState). r.manifest) same ∙ first))) (refl, refl);
        archives = empty ∙ sym (entries_none (repo_view store.repo).keys);
        records = tt;
        held = λ scope apart all. (
          λ id content chunk.
              let live = (fits.holds id chunk.object.blob chunk.chunk).0 chunk.object.has in
              let committed = ap (live_in id) (sym entries_are) ∙ live in
              let has = (state_live (files_now h) new.repo.log commits.entries new.opens.opens.unlocks.reads shows id chunk.object.blob).1 committed in
              absurd (chunk.chunk (new.alone id has.place has.placed)),
          subst (HoldsContents (files_now h) repo) (sym (contents_none repo.keys source_block)) tt,
        );
      }

-- ---- what the files say

-- Of texts of records the one at a place has its contents there.
record HasText (files : Files) (log : LogState) (keys : Keys) (block archive place : ℕ) (texts : List (List ℕ)) : Type 0 where
  text : List ℕ
  at : slice_get texts place ≡ Some text
  is : IsRecordOf keys block archive text
  there : AllByRecursion (HoldsPiece files log keys) (adds_of keys block (drill_items archive) text)

text_at : (files : Files) (log : LogState) (keys : Keys) (block first place : ℕ) (texts : List (List ℕ))
    → AllByRecursion (HoldsPiece files log keys) (contents_from keys block first texts) → AreRecordsOf keys block first texts → place < length texts
    → HasText files log keys block (first + place) place texts
unfolding contents_from
text_at files log keys block first place [] all records less = absurd (let no : ⊥ = omega (arith, less) in no)
text_at files log keys block first zero (t ∷ ts) all records less =
    let e : first ≡ first + 0 = omega arith in
    let parts = all_front (HoldsPiece files log keys) (adds_of keys block (drill_items first) t) (contents_from keys block (suc first) ts) all in
    subst (λ (n : ℕ). HasText files log keys block n zero (t ∷ ts)) e (record { text = t; at = refl; is = records.0; there = parts.0 })
text_at files log keys block first (suc place) (t ∷ ts) all records less =
    let e : suc first + place ≡ first + suc place = omega arith in
    let parts = all_front (HoldsPiece files log keys) (adds_of keys block (drill_items first) t) (contents_from keys block (suc first) ts) all in
    let later = text_at files log keys block (suc first) place ts parts.1 records.1 (omega (arith, less)) in
    subst (λ (n : ℕ). HasText files log keys block n (suc place) (t ∷ ts)) e
    (record { text = later.text; at = later.at; is = later.is; there = later.there })

-- an archive is whole where its contents are there
whole_at : (files : Files) (log : LogState) (keys : Keys) (archives : List ArchiveRef) (texts : List (List ℕ))
    → AllByRecursion (HoldsPiece files log keys) (contents_from keys source_block 0 texts) → archives ≡ entries_from keys 0 texts
    → AreRecordsOf keys source_block 0 texts → length texts ≤ 64 → (n : ℕ) → n < length texts
    → IsWhole files log keys archives (archive_name n) (drill_archive n)
whole_at files log keys archives texts all are records most n less =
    let e : 0 + n ≡ n = omega arith in
    let one = subst (λ (m : ℕ). HasText files log keys source_block m n texts) e (text_at files log keys source_block 0 n texts all records less) in
    let named : archive_named (archive_name n) archives ≡ Some (entry_of keys n one.text) =
    ap (archive_named (archive_name n)) are
    ∙ subst (λ (m : ℕ). archive_named (archive_name m) (entries_from keys 0 texts) ≡ Some (entry_of keys m one.text)) e
    (entry_at keys 0 n texts one.text (omega (arith, most)) one.at) in
    copied_whole files log keys source_block (drill_archive n) one.is.0 one.text archives
    (record { name = archive_name n; id = content_id keys one.text; time = archive_time }) refl
    (record { entry = entry_of keys n one.text; entry_is = named; time = refl; id = refl; copy = one.is.1; there = one.there })

-- the files are the source of so many archives
pub source_has : (count : ℕ) (store : Store) (h : History) → count ≤ 64 → StoreFits false store h → IsSettled store → store.pending ≡ 0
    → HasMade count store h → IsSource count (files_now h)
source_has count store h most fits settled none made =
    let repo = repo_view store.repo in
    let keys = repo.keys in
    let files = files_now h in
    let committed = fits.manifest in
    let texts = made.texts in
    let next : RepoState = record { log = repo.log; config = made.config; keys = keys; manifest = repo.manifest } in
    let holds : HoldsManifest next committed.entries =
    record {
      blob = committed.holds.blob;
      content = committed.holds.content;
      live = committed.holds.live;
      opens = committed.holds.opens;
      reads = committed.holds.reads;
    } in
    let live = opens_live source_secret files next committed.entries (shows store h fits none) made.unlocks holds in
    let archives = repo.manifest.archives in
    let are : archives ≡ entries_from keys 0 texts = ap (λ (m : ManifestText). m.archives) (sym settled) ∙ made.archives in
    record {
      repo = record next { log = live.log };
      opens = live.opens;
      texts = texts;
      texts_size = made.texts_size;
      archives = are;
      records = made.records;
      wholes = λ apart archive less.
          let scope = contents_from keys source_block 0 texts in
          let there = (made.held scope apart (all_among scope)).1 in
          let moved : AllByRecursion (HoldsPiece files live.log keys) scope =
          each_to _ _ scope (λ content chunk. record {
            chunk = chunk.chunk;
            object = record {
              blob = chunk.object.blob;
              has = (live.blobs (content_id keys content) chunk.object.blob).1
                  (ap (live_in (content_id keys content)) (sym (entries_are store h fits none))
                  ∙ (fits.holds (content_id keys content) chunk.object.blob chunk.chunk).0 chunk.object.has);
              opens = chunk.object.opens;
            };
          }) there in
          whole_at files live.log keys archives texts moved are made.records (omega (arith, made.texts_size, most)) archive (omega (
            arith,
            less,
            made.texts_size,
          ));
    }

-- their manifest is plain, where there is an archive
source_plain : (count : ℕ) (store : Store) (h : History) → 1 ≤ count → count ≤ 64 → StoreFits false store h → IsSettled store → store.pending ≡ 0
    → HasMade count store h → HasPlain (files_now h)
unfolding source_has
source_plain zero store h some most fits settled none made repo opens = absurd (let no : ⊥ = omega (arith, some) in no)
source_plain (suc count) store h some most fits settled none made repo opens =
    let is = source_has (suc count) store h most fits settled none made in
    subst (IsPlain item_names) (settled ∙ ap (λ (r : RepoState). r.manifest) (one_repo (files_now h) source_secret is.repo repo is.opens opens)) made.plain

-- ---- what is told

-- a store that was made fits, and has no archive
first_made : (secret : Secret) (store : Store) (timestamp bytes : List ℕ) (a b : Option Told) → secret ≡ source_secret → timestamp ≡ new_time → TellsEmpty a
    → Between a b (λ h g. AllDone h g × InitFits store h g) → Between a b (InitMakes secret 1 timestamp bytes)
    → IfSome b (λ t. OpensFilesTo (told_files t) secret (repo_view store.repo)) → IsSettled store → store.pending ≡ 0
    → IfSome b (λ t. HasMade 0 store t.history × StoreFits false store t.history)
first_made secret store timestamp bytes None b is at empty fits makes opened settled none = absurd (let e = empty.1.0 in let no : ⊥ = cc in no)
first_made secret store timestamp bytes (Some s) None is at empty fits makes opened settled none = tt
first_made secret store timestamp bytes (Some s) (Some t) is at empty fits makes opened settled none =
    let begun : s.history.acts ≡ [] = (let e : Some s ≡ Some empty.0 = empty.1.0 in let f : s ≡ empty.0 = cc in ap (λ (x : Told). x.history.acts) f
    ∙ empty.1.1.no_acts) in
    let one : fits.0 ≡ t = (let e = fits.1 in cc) in
    let two : makes.0 ≡ t = (let e = makes.1 in cc) in
    let stands : StoreFits false store t.history =
    subst (λ (x : Told). StoreFits false store x.history) one (fits.2.1 false begun (λ counted. absurd (let no : ⊥ = cc in no))) in
    let New : Secret → Told → Type 0 = λ k x. (new : OpensNew k (told_files x)) × (new.repo.manifest ≡ first_manifest timestamp) in
    let made : New secret t = subst (New secret) two ((makes.2 begun).opens, (makes.2 begun).first) in
    let new : New source_secret t = subst (λ (k : Secret). New k t) is made in
    let opens : OpensFilesTo (told_files t) source_secret (repo_view store.repo) =
    subst (λ (k : Secret). OpensFilesTo (told_files t) k (repo_view store.repo)) is opened in
    (made_none store t.history stands none settled opens new.0 (new.1 ∙ ap first_manifest at), stands)

-- the same over what the depot tells
pub source_told : (count : ℕ) (store : Store) (a : Option Told) → count ≤ 64 → IfSome a (λ t. StoreFits false store t.history) → IsSettled store
    → store.pending ≡ 0
    → IfSome a (λ t. HasMade count store t.history) → IfSome a (λ t. IsSource count (told_files t))
source_told count store None most fits settled none made = tt
source_told count store (Some t) most fits settled none made = source_has count store t.history most fits settled none made

pub plain_told : (count : ℕ) (store : Store) (a : Option Told) → 1 ≤ count → count ≤ 64 → IfSome a (λ t. StoreFits false store t.history) → IsSettled store
    → store.pending ≡ 0
    → IfSome a (λ t. HasMade count store t.history) → IfSome a (λ t. HasPlain (told_files t))
plain_told count store None some most fits settled none made = tt
plain_told count store (Some t) some most fits settled none made = source_plain count store t.history some most fits settled none made

-- the two parts of that
pub first_has : (secret : Secret) (store : Store) (timestamp bytes : List ℕ) (a b : Option Told) → secret ≡ source_secret → timestamp ≡ new_time → TellsEmpty a
    → Between a b (λ h g. AllDone h g × InitFits store h g) → Between a b (InitMakes secret 1 timestamp bytes)
    → IfSome b (λ t. OpensFilesTo (told_files t) secret (repo_view store.repo)) → IsSettled store → store.pending ≡ 0
    → IfSome b (λ t. HasMade 0 store t.history)
first_has secret store timestamp bytes a b is at empty fits makes opened settled none =
    IfSome_then b (first_made secret store timestamp bytes a b is at empty fits makes opened settled none) (λ t both. both.0)

pub first_fits : (secret : Secret) (store : Store) (timestamp bytes : List ℕ) (a b : Option Told) → secret ≡ source_secret → timestamp ≡ new_time → TellsEmpty a
    → Between a b (λ h g. AllDone h g × InitFits store h g) → Between a b (InitMakes secret 1 timestamp bytes)
    → IfSome b (λ t. OpensFilesTo (told_files t) secret (repo_view store.repo)) → IsSettled store → store.pending ≡ 0
    → IfSome b (λ t. StoreFits false store t.history)
first_fits secret store timestamp bytes a b is at empty fits makes opened settled none =
    IfSome_then b (first_made secret store timestamp bytes a b is at empty fits makes opened settled none) (λ t both. both.1)

-- where all archives were made
pub source_made : (r : Result (Unit {0}) CarryFault) (count : ℕ) (store : Store) (a : Option Told) → count ≤ 64
    → OnOk r (IfSome a (λ t. StoreFits false store t.history))
    → OnOk r (IsSettled store) → OnOk r (store.pending ≡ 0) → OnOk r (IfSome a (λ t. HasMade count store t.history))
    → OnOk r (IfSome a (λ t. IsSource count (told_files t)))
source_made (Err fault) count store a most fits settled none made = tt
source_made (Ok x) count store a most fits settled none made = source_told count store a most fits settled none made

pub plain_made : (r : Result (Unit {0}) CarryFault) (count : ℕ) (store : Store) (a : Option Told) → 1 ≤ count → count ≤ 64
    → OnOk r (IfSome a (λ t. StoreFits false store t.history))
    → OnOk r (IsSettled store) → OnOk r (store.pending ≡ 0) → OnOk r (IfSome a (λ t. HasMade count store t.history))
    → OnOk r (IfSome a (λ t. HasPlain (told_files t)))
plain_made (Err fault) count store a some most fits settled none made = tt
plain_made (Ok x) count store a some most fits settled none made = plain_told count store a some most fits settled none made

-- a device that told tells behind a body
pub told_on : (E : History → History → Type 0) (a d : Option Told) → IsSome a → Between a d E → IsSome d
told_on E None d is between = absurd (let no : ⊥ = cc in no)
told_on E (Some s) d is between = subst IsSome (sym between.1) refl

-- and what holds at its end is known of it
pub told_end : (P : History → Type 0) (a d : Option Told) → IsSome a → Between a d (λ h k. P k) → IfSome d (λ t. P t.history)
told_end P None d is between = absurd (let no : ⊥ = cc in no)
told_end P (Some s) d is between = subst (λ (o : Option Told). IfSome o (λ t. P t.history)) (sym between.1) between.2

-- the same where it told no file
pub told_first : (E : History → History → Type 0) (a d : Option Told) → TellsEmpty a → Between a d E → IsSome d
told_first E a d empty between = told_on E a d (subst IsSome (sym empty.1.0) refl) between

-- an archive that was named in the store
pub archive_made : (archive : ℕ) (store middle named now : Store) (entry : ArchiveRef) (time blob id : List ℕ) (a b d : Option Told) (n m : ℕ)
    (E : History → History → Type 0)
    → time ≡ new_time → archive < 64 → IfSome a (λ t. StoreFits false store t.history) → IfSome a (λ t. HasMade archive store t.history) → IsSettled store
    → KeepsRest store middle → PutsArchive archive (repo_view store.repo).keys store middle a b id
    → entry ≡ record { name = archive_name archive; id = id; time = archive_time } → named ≡ record middle { accepted = named.accepted }
    → accepted_in named ≡ next_manifest (accepted_in middle) entry item_names
    → Did {T = Unit {0}} E (λ _. Commits named (PutEntry zero_id blob) now) b d n m (Ok tt)
    → repo_view now.repo ≡ with_manifest (repo_view named.repo) (written_at (accepted_in named) time)
    → accepted_in now ≡ written_at (accepted_in named) time
    → Between a d (λ h k. HasMade (suc archive) now k × StoreFits false now k)
archive_made archive store middle named now entry time blob id a b d n m E time_is low fits made settled rest puts entry_is same named_is did repo_is
    accepted_is =
    let Facts : Store → Type 0 = λ s.
    (accepted_in s ≡ next_manifest (accepted_in middle) entry item_names)
    × (Between b d (λ g k. AllDone g k × Commits s (PutEntry zero_id blob) now g k)
    × ((repo_view now.repo ≡ with_manifest (repo_view s.repo) (written_at (accepted_in s) time)) × (accepted_in now ≡ written_at (accepted_in s) time))) in
    let facts : Facts (record middle { accepted = named.accepted }) = subst Facts same (named_is, (did.end, (repo_is, accepted_is))) in
    made_next archive store middle now named.accepted entry time blob id a b d time_is low fits made settled rest puts entry_is facts.0 facts.1.0 facts.1.1.0
    facts.1.1.1

-- the two parts of that
pub next_has : (count : ℕ) (now : Store) (a d : Option Told) → IsSome a → Between a d (λ h k. HasMade count now k × StoreFits false now k)
    → IfSome d (λ t. HasMade count now t.history)
next_has count now a d told between =
    IfSome_then d (told_end (λ k. HasMade count now k × StoreFits false now k) a d told between) (λ t both. both.0)

pub next_fits : (count : ℕ) (now : Store) (a d : Option Told) → IsSome a → Between a d (λ h k. HasMade count now k × StoreFits false now k)
    → IfSome d (λ t. StoreFits false now t.history)
next_fits count now a d told between =
    IfSome_then d (told_end (λ k. HasMade count now k × StoreFits false now k) a d told between) (λ t both. both.1)
