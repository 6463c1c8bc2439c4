-- Lemmas on specs/TagSteps.antt: records that were added come under the names of their archives, and all is committed.
use Rattle.std.proofs.Common.{◌≡◌, ◌≢◌, ◌<◌, arith, inl, inr, ℕ, suc, Bool, false, List, [], ◌∷◌, ◌++◌, length, map, Option, option_map, Ok, Err}
use Rattle.std.proofs.Common.{refl, sym, ◌∙◌, ap, subst}
use Rattle.std.specs.List.{AllByRecursion}
use Rattle.ferry_check.specs.Verify.{IsChunk}
use Rattle.ferry_log.specs.State.{LogState}
use Rattle.ferry_manifest.specs.Manifest.Text.{manifest_view}
use Rattle.ferry_manifest.specs.declared.manifest.Manifest.{Manifest}
use Rattle.ferry_refs.proofs.RenamedLemmas.{names_in}
use Rattle.ferry_disk.proofs.MomentLemmas.{between_both, between_map, between_then}
use Rattle.ferry_disk.specs.Act.{History, files_now}
use Rattle.ferry_disk.specs.Device.{Told}
use Rattle.ferry_disk.specs.Files.{Files}
use Rattle.ferry_disk.specs.Moments.{Between, Moments}
use Rattle.ferry_mac.specs.declared.keys.Keys.{Keys}
use Rattle.ferry_manifest.specs.Manifest.Text.{ManifestText}
use Rattle.ferry_manifest.specs.declared.manifest.ArchiveRef.{ArchiveRef}
use Rattle.ferry_next.specs.Next.{written_at}
use Rattle.ferry_piece.proofs.FaultLemmas.{failed_target}
use Rattle.ferry_piece.proofs.GatherLemmas.{sound_moments}
use Rattle.ferry_piece.proofs.WorkLemmas.{works_err, works_front, works_ok, works_then}
use Rattle.ferry_piece.specs.Fault.{IsOfWork, target_fault}
use Rattle.ferry_piece.specs.Work.{Works}
use Rattle.ferry_piece.specs.declared.fault.CarryFault.{CarryFault}
use Rattle.ferry_piece.specs.declared.fault.CarryFault.TheVariants as Carry
use Rattle.ferry_repo.specs.Opening.{RepoState, repo_view}
use Rattle.ferry_segment.specs.Entry.{LogEntry}
use Rattle.ferry_stops.specs.Tells.{TellsNothing}
use Rattle.ferry_store.proofs.StandingLemmas.{manifest_learnt}
use Rattle.ferry_store.proofs.StepLemmas.{moments_then}
use Rattle.ferry_store.specs.Commit.{accepted_in}
use Rattle.ferry_store.specs.Fault.{depot_failed}
use Rattle.ferry_store.specs.Standing.{with_manifest}
use Rattle.ferry_store.specs.State.{Did, IsSound, ShowsStanding, Written}
use Rattle.ferry_store.specs.Store.{IsUnspent, StoreFits}
use Rattle.ferry_store.specs.declared.fault.StoreRefusal.{StoreRefusal}
use Rattle.ferry_store.specs.declared.fault.StoreRefusal.TheVariants as Refusal
use Rattle.ferry_store.specs.declared.store.Store.{Store}
use Rattle.ferry_write.specs.Script.{AllDone}
use Rattle.ferry_refs.proofs.AddLemmas.{draws_joined, texts_leave}
use Rattle.ferry_refs.specs.Deleting.{LeavesCommitted, with_deleted}
use Rattle.ferry_refs.specs.TagSteps.{AddsTexts, Frees, FreesSound, KeepsRepo, ShowsWithout, SoundTagged, TagsWith, olds_view}
use Rattle.ferry_refs.specs.Tagging.{AreFreed, AreOld, AreRenewals, BringsTexts, DrawsRenewals, DrawsTags, OldRecord, ShowsRenewed, TagsSound}
use Rattle.ferry_refs.specs.Tagging.{archives_in, ids_under, next_tagged, renewed, renewed_entries, salts_in, with_puts}
use Rattle.ferry_refs.specs.declared.untagged.Untagged.{Untagged}

-- ---- a store that accepted names

-- it fits with what was written
accepted_fits : (counts : Bool) (store now : Store) (h : History) → now ≡ record store { accepted = now.accepted } → (fits : StoreFits counts store h)
    → (fits_now : StoreFits counts now h) × (fits_now.written ≡ fits.written)
accepted_fits counts store now h same fits =
    subst (λ (s : Store). (fits_now : StoreFits counts s h) × (fits_now.written ≡ fits.written)) (sym same) (
      record {
        written = fits.written;
        under_way = fits.under_way;
        settings = fits.settings;
        repo = fits.repo;
        below = fits.below;
        there = fits.there;
        holds = fits.holds;
        manifest = fits.manifest;
        keeps = fits.keeps;
        pending = fits.pending;
        chunks = fits.chunks;
        learnt = fits.learnt;
      },
      refl,
    )

pub viewed_archives : (untagged : List Untagged) → map (λ (u : Untagged). u.named) untagged ≡ archives_in (olds_view untagged)
viewed_archives [] = refl
viewed_archives (u ∷ us) = ap (λ (l : List ArchiveRef). u.named ∷ l) (viewed_archives us)

-- ---- what is written

module _ (time : List ℕ) (drawn drawn_now : Option (List ℕ)) (olds : List OldRecord) (texts : List (List ℕ)) (freed : List (List ℕ))
    (store added named last : Store)
    (same : KeepsRepo (repo_view store.repo) (repo_view added.repo)) (rest : named ≡ record added { accepted = named.accepted })
    (some : olds ≢ []) (renewals : AreRenewals (repo_view store.repo).keys olds texts)
    (accepted : accepted_in named
    ≡ renewed (repo_view store.repo).manifest (renewed_entries (archives_in olds) (ids_under (repo_view store.repo).keys texts))) where
  -- the manifest that is committed
  abbrev next : ManifestText
  next = next_tagged (repo_view store.repo).keys (repo_view store.repo).manifest olds texts time

  named_repo : repo_view named.repo ≡ repo_view added.repo
  named_repo = ap (λ (s : Store). repo_view s.repo) rest

  next_is : written_at (accepted_in named) time ≡ next
  next_is = ap (λ (m : ManifestText). written_at m time) accepted

  pub named_keys : (repo_view named.repo).keys ≡ (repo_view store.repo).keys
  named_keys = ap (λ (r : RepoState). r.keys) named_repo ∙ same.keys

  -- what is shown then
  tagged_shows : (files : Files) (written : Written) (puts : List LogEntry) (image : Files)
      → AreOld files (repo_view store.repo) (repo_view store.repo).manifest.archives olds → AreFreed files (repo_view store.repo) freed
      → BringsTexts (repo_view store.repo).keys texts written (with_puts written puts)
      → ShowsWithout (with_manifest (repo_view named.repo) (written_at (accepted_in named) time)) freed (with_puts written puts) image
      → ShowsRenewed files (repo_view store.repo) time written image
  tagged_shows files written puts image are_old are_freed brings (inl shown) = inl shown
  tagged_shows files written puts image are_old are_freed brings (inr shown) =
      inr (record {
        olds = olds;
        are_old = are_old;
        some = some;
        texts = texts;
        renewals = renewals;
        puts = puts;
        brings = brings;
        ids = freed;
        freed = are_freed;
        blob = shown.0;
        shows = shown.1.0;
        manifest = manifest_learnt (with_manifest (repo_view named.repo) (written_at (accepted_in named) time)) (with_manifest (repo_view store.repo) next)
            (with_deleted (with_puts written puts) freed shown.0).committed (sym named_keys) (sym next_is) shown.1.1;
      })

  write_sound : (h g i : History) → LeavesCommitted store h g → AllDone h g → AddsTexts texts store added h g → FreesSound time freed named g i
      → SoundTagged time olds freed store h i
  write_sound h g i leaves done adds frees are_old are_freed counts fits =
      let first = adds counts fits in
      let both = accepted_fits counts added named g rest first.fits in
      let written_is = both.1 ∙ first.written_is in
      let files = files_now h in
      let repo = repo_view store.repo in
      let without = with_manifest (repo_view named.repo) (written_at (accepted_in named) time) in
      moments_then (IsSound (ShowsRenewed files repo time fits.written) counts) h g i
      (sound_moments (ShowsStanding fits.written) (ShowsRenewed files repo time fits.written) counts h g (λ image shown. inl shown) (leaves counts fits)) done
      (sound_moments (ShowsWithout without freed (with_puts fits.written first.puts)) (ShowsRenewed files repo time fits.written) counts g i
      (λ image shown. tagged_shows files fits.written first.puts image are_old are_freed first.brings shown)
      (subst (λ (w : Written). Moments (IsSound (ShowsWithout without freed w) counts) g i) written_is (frees counts both.0)))

  write_tags : (h g i : History) → repo_view last.repo ≡ with_manifest (repo_view named.repo) (written_at (accepted_in named) time)
      → DrawsTags (repo_view store.repo).keys olds texts renewals drawn drawn_now → AddsTexts texts store added h g → Frees freed named last g i
      → TagsWith time drawn drawn_now olds freed store last h i
  write_tags h g i view drew adds frees are_old are_freed counts fits =
      let first = adds counts fits in
      let both = accepted_fits counts added named g rest first.fits in
      let end = frees counts both.0 in
      inr (record {
        olds = olds;
        are_old = are_old;
        some = some;
        count_is = refl;
        texts = texts;
        renewals = renewals;
        drew = drew;
        puts = first.puts;
        brings = first.brings;
        ids = freed;
        freed = are_freed;
        fits = end.fits;
        blob = end.blob;
        written_is = end.written_is ∙ ap (λ (w : Written). with_deleted w freed end.blob) (both.1 ∙ first.written_is);
        keys = ap (λ (r : RepoState). r.keys) view ∙ named_keys;
        manifest = ap (λ (r : RepoState). r.manifest) view ∙ next_is;
      })

  -- where all was committed
  pub works_written : {T U V : Type 0} (a b c : Option Told) (n m k : ℕ) (x : T) (y : U) (z : V)
      → repo_view last.repo ≡ with_manifest (repo_view named.repo) (written_at (accepted_in named) time)
      → DrawsTags (repo_view store.repo).keys olds texts renewals drawn drawn_now → Between b c TellsNothing
      → Works {T = T} (LeavesCommitted store) (λ _. AddsTexts texts store added) a b n m (Ok x)
      → Did {T = U} (FreesSound time freed named) (λ _. Frees freed named last) b c m k (Ok y)
      → Works {T = V} (SoundTagged time olds freed store) (λ _. TagsWith time drawn drawn_now olds freed store last) a c n k (Ok z)
  works_written {T} {U} {V} a b c n m k x y z view drew untold adds frees =
      works_then (LeavesCommitted store) (λ (_ : T). AddsTexts texts store added) (FreesSound time freed named) (λ (_ : V). Frees freed named last)
      (SoundTagged time olds freed store) (λ (_ : V). TagsWith time drawn drawn_now olds freed store last) a b c n m k x (Ok z)
      (λ h g i leaves done q f. write_sound h g i leaves done q f) (λ _ h g i q f. write_tags h g i view drew q f) adds
      (works_ok (FreesSound time freed named) (λ (_ : U). Frees freed named last) (FreesSound time freed named) (λ (_ : V). Frees freed named last) b c m k y z
      (λ h g _ e. e) (λ h g e. e) untold frees)

  -- where it wasn't
  pub works_unwritten : {T U V : Type 0} (a b c : Option Told) (n m k : ℕ) (x : T) (refusal : StoreRefusal) → Between b c TellsNothing
      → Works {T = T} (LeavesCommitted store) (λ _. AddsTexts texts store added) a b n m (Ok x)
      → Did {T = U} (FreesSound time freed named) (λ _. Frees freed named last) b c m k (Err refusal)
      → Works {T = V} (SoundTagged time olds freed store) (λ _. TagsWith time drawn drawn_now olds freed store last) a c n k (Err (target_fault refusal))
  works_unwritten {T} {U} {V} a b c n m k x refusal untold adds frees =
      let first = works_then (LeavesCommitted store) (λ (_ : T). AddsTexts texts store added) (FreesSound time freed named) (λ (_ : V). Frees freed named last)
      (SoundTagged time olds freed store) (λ (_ : V) (h : History) (g : History). Unit {0}) a b c n m k x (Err (target_fault refusal))
      (λ h g i leaves done q f. write_sound h g i leaves done q f) (λ _ h g i q f. tt) adds
      (works_err (FreesSound time freed named) (λ (_ : U). Frees freed named last) (FreesSound time freed named) (λ (_ : V). Frees freed named last) b c m k
      refusal (λ h g _ e. e) untold frees) in
      record { each = first.each; end = tt; ends = first.ends; cause = first.cause }

  -- nothing is committed then, where no device failed and memory wasn't refused
  pub unwritten_keeps : {T : Type 0} (a b c : Option Told) (n m : ℕ) (x : T) (refusal : StoreRefusal)
      → Works {T = T} (LeavesCommitted store) (λ _. AddsTexts texts store added) a b n m (Ok x)
      → (depot_failed refusal ≡ false → refusal ≢ Refusal.Memory → Between b c (LeavesCommitted named)) → IsOfWork (target_fault refusal)
      → Between a c (LeavesCommitted store)
  unwritten_keeps {T} a b c n m x refusal p keeps work =
      between_then a b c (λ h g. LeavesCommitted store h g × (AllDone h g × AddsTexts texts store added h g)) (LeavesCommitted named) (LeavesCommitted store)
      (λ h g i e f. texts_leave store added texts h g i e.0 e.1.0 e.1.1 (named_leaves g i f))
      (between_both a b (LeavesCommitted store) (λ h g. AllDone h g × AddsTexts texts store added h g) p.each p.end)
      (keeps (sym (failed_target refusal) ∙ work.target) (λ memory. work.memory (ap target_fault memory)))
    where
      named_leaves : (g i : History) → LeavesCommitted named g i → LeavesCommitted added g i
      named_leaves g i leaves counts fits =
          let both = accepted_fits counts added named g rest fits in
          subst (λ (w : Written). Moments (IsSound (ShowsStanding w) counts) g i) both.1 (leaves counts both.0)

-- ---- where nothing was committed

-- what leaves what was committed is sound
pub leaves_tagged : (time : List ℕ) (store : Store) (h g : History) → LeavesCommitted store h g → TagsSound time store h g
leaves_tagged time store h g leaves counts fits =
    sound_moments (ShowsStanding fits.written) (ShowsRenewed (files_now h) (repo_view store.repo) time fits.written) counts h g (λ image shown. inl shown)
    (leaves counts fits)

module _ (time : List ℕ) (olds : List OldRecord) (freed : List (List ℕ)) (store : Store) where
  -- where records weren't added
  pub works_unadded : {T V : Type 0} (Q1 : T → History → History → Type 0) (Q : V → History → History → Type 0) (a b : Option Told) (n m : ℕ)
      (fault : CarryFault) → Works {T = T} (LeavesCommitted store) Q1 a b n m (Err fault)
      → Works {T = V} (SoundTagged time olds freed store) Q a b n m (Err fault)
  works_unadded {T} {V} Q1 Q a b n m fault p =
      works_front (LeavesCommitted store) Q1 (SoundTagged time olds freed store) Q a b n m fault
      (λ h g leaves are_old are_freed. leaves_tagged time store h g leaves) p

  -- where they weren't named
  pub works_unnamed : {T V : Type 0} (Q1 : T → History → History → Type 0) (Q : V → History → History → Type 0) (a b : Option Told) (n m : ℕ) (x : T)
      → Works {T = T} (LeavesCommitted store) Q1 a b n m (Ok x) → Works {T = V} (SoundTagged time olds freed store) Q a b n m (Err Carry.Memory)
  works_unnamed {T} {V} Q1 Q a b n m x p = record {
    each = between_map a b (LeavesCommitted store) (SoundTagged time olds freed store)
        (λ h g leaves are_old are_freed. leaves_tagged time store h g leaves) p.each;
    end = tt;
    ends = p.ends;
    cause = p.cause;
  }

-- ---- the steps of a body

-- the salt of the manifest was drawn behind those of some texts
pub tags_drawn : (keys : Keys) (olds : List OldRecord) (texts : List (List ℕ)) (drawn middle drawn_now : Option (List ℕ)) → olds ≢ []
    → (drew : DrawsRenewals keys olds texts drawn middle)
    → (salt : List ℕ) × ((length salt ≡ 64) × (drawn_now ≡ option_map (λ (bytes : List ℕ). bytes ++ salt) middle))
    → DrawsTags keys olds texts drew.0 drawn drawn_now
tags_drawn keys [] texts drawn middle drawn_now some drew last = absurd (some refl)
tags_drawn keys (old ∷ olds) texts drawn middle drawn_now some drew last = (
  last.0,
  (last.1.0, draws_joined drawn middle drawn_now (salts_in keys (old ∷ olds) texts drew.0) last.0 _ drew.1 last.1.1 refl),
)

-- where some archives were found, there are some old records
pub some_olds : (untagged : List Untagged) → 0 < length untagged → olds_view untagged ≢ []
some_olds [] some none = absurd (omega (arith, some))
some_olds (u ∷ us) some none = let no : ⊥ = cc in no

-- there are as many texts as records
pub renewals_length : (keys : Keys) (untagged : List Untagged) (texts : List (List ℕ)) → AreRenewals keys (olds_view untagged) texts
    → length (ids_under keys texts) ≡ length untagged
renewals_length keys [] [] all = refl
renewals_length keys [] (text ∷ texts) all = absurd all
renewals_length keys (u ∷ us) [] all = absurd all
renewals_length keys (u ∷ us) (text ∷ texts) all = ap suc (renewals_length keys us texts all.1)

pub accepted_is : (store added named : Store) (untagged some : List Untagged) (texts ids : List (List ℕ))
    → accepted_in store ≡ (repo_view store.repo).manifest → added.accepted ≡ store.accepted → some ≡ untagged
    → ids ≡ ids_under (repo_view store.repo).keys texts
    → accepted_in named ≡ renewed (accepted_in added) (renewed_entries (names_in some) ids)
    → accepted_in named
    ≡ renewed (repo_view store.repo).manifest (renewed_entries (archives_in (olds_view untagged)) (ids_under (repo_view store.repo).keys texts))
accepted_is store added named untagged some texts ids settled same all ids_are renamed =
    let keys = (repo_view store.repo).keys in
    let manifest : accepted_in added ≡ (repo_view store.repo).manifest = ap (λ (m : Manifest). manifest_view m) same ∙ settled in
    renamed
    ∙ (ap (λ (m : ManifestText). renewed m (renewed_entries (names_in some) ids)) manifest
    ∙ (ap (λ (us : List Untagged). renewed (repo_view store.repo).manifest (renewed_entries (names_in us) ids)) all
    ∙ (ap (λ (l : List ArchiveRef). renewed (repo_view store.repo).manifest (renewed_entries l ids)) (viewed_archives untagged)
    ∙ ap (λ (l : List (List ℕ)). renewed (repo_view store.repo).manifest (renewed_entries (archives_in (olds_view untagged)) l)) ids_are)))

pub named_unspent : (added named : Store) → named ≡ record added { accepted = named.accepted } → IsUnspent added → IsUnspent named
named_unspent added named rest unspent =
    subst IsUnspent (sym rest) (record { session = unspent.session; counter = unspent.counter; itself = unspent.itself })

pub chunks_kept : (before after : LogState) (ids : List (List ℕ)) → ((id : List ℕ) → IsChunk before id → IsChunk after id)
    → AllByRecursion (IsChunk before) ids → AllByRecursion (IsChunk after) ids
chunks_kept before after [] keeps all = tt
chunks_kept before after (id ∷ ids) keeps all = (keeps id all.0, chunks_kept before after ids keeps all.1)
