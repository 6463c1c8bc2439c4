-- Lemmas on specs/Flight.antt: a target that is only read, and what holds of a store of which nothing was named.
use Rattle.std.proofs.Common.{◌≡◌, ◌≢◌, ◌⊎◌, inl, ℕ, Bool, true, false, List, [], ◌∷◌, Option, Some, None, Result, Ok, Err, IfSome, IsSome}
use Rattle.std.proofs.Common.{refl, sym, ◌∙◌, ap, subst, arith, ◌^◌, ◌-◌, ◌++◌, min, length}
use Rattle.std.proofs.lemmas.List.{append-nil}
use Rattle.std.proofs.lemmas.Option.{IfSome_then}
use Rattle.std.proofs.lemmas.Slice.Eq.{bytes_eq-Decides}
use Rattle.std.specs.FinMap.{get}
use Rattle.std.specs.Str.{bytes_eq}
use Rattle.ferry_base.specs.Limits.{zero_id}
use Rattle.ferry_compare.specs.Compare.{AreEqual, Says}
use Rattle.ferry_compare.specs.Fault.{RefusesTarget, target_failed as other_failed}
use Rattle.ferry_compare.specs.declared.fault.CompareFault.{CompareFault}
use Rattle.ferry_compare.specs.declared.fault.CompareFault.TheVariants as Compares
use Rattle.ferry_disk.proofs.FaultLemmas.{keeps_end}
use Rattle.ferry_disk.proofs.MomentLemmas.{between_map}
use Rattle.ferry_disk.specs.Act.{History, files_now}
use Rattle.ferry_disk.specs.Device.{Told, HasCause, KeepsTold, RoseWhere, told_files}
use Rattle.ferry_disk.specs.Faults.{FailedWhere}
use Rattle.ferry_disk.specs.Moments.{Between}
use Rattle.ferry_mac.specs.declared.keys.Keys.{Keys}
use Rattle.ferry_manifest.specs.Manifest.Text.{ManifestText}
use Rattle.ferry_manifest.specs.Manifest.Writing.{IsPackable}
use Rattle.ferry_manifest.specs.declared.manifest.ArchiveRef.{ArchiveRef}
use Rattle.ferry_repo.proofs.ArchiveLemmas.{archive_named-here, archive_named-none, archive_named-other}
use Rattle.ferry_repo.specs.Archives.{archive_named}
use Rattle.ferry_repo.specs.Objects.{HasBlob}
use Rattle.ferry_repo.specs.Fault.{repo_failed}
use Rattle.ferry_repo.specs.Opening.{FitsRepo, RepoState, cached_in, repo_view}
use Rattle.ferry_repo.specs.declared.fault.RepoFault.{RepoFault}
use Rattle.ferry_repo.specs.declared.fault.RepoFault.TheVariants as Repos
use Rattle.ferry_repo.specs.Whole.{WholeArchive}
use Rattle.ferry_repo.specs.declared.repo.Repo.{Repo}
use Rattle.ferry_segment.specs.Entry.{LogEntry}
use Rattle.ferry_store.proofs.ReadLemmas.{between_end, known_read, read_fits, with_repo}
use Rattle.ferry_store.proofs.StepLemmas.{done_here, same_told}
use Rattle.ferry_store.specs.Commit.{accepted_in, IsSettled, ReadsStore}
use Rattle.ferry_store.specs.Fault.{depot_failed}
use Rattle.ferry_store.specs.Standing.{CommitsManifest, HoldsLive, committed_of, entries_of, live_in}
use Rattle.ferry_store.specs.Store.{StoreFits}
use Rattle.ferry_store.specs.declared.fault.StoreRefusal.TheVariants as Stores
use Rattle.ferry_store.specs.Types.{ReadsSettings}
use Rattle.ferry_store.specs.declared.store.Store.{Store}
use Rattle.ferry_write.specs.Script.{AllDone}
use Rattle.ferry_piece.proofs.AddingLemmas.{HoldsAll, gathers_all, held_until, stops_unbroken}
use Rattle.ferry_carry.proofs.NextLemmas.{behind_present}
use Rattle.ferry_carry.proofs.CarryLemmas.{same_over}
use Rattle.ferry_carry.proofs.CutLemmas.{cut_same}
use Rattle.ferry_piece.proofs.GatherLemmas.{moved_here, stands_here}
use Rattle.ferry_carry.proofs.GrowLemmas.{growing_by, has_kept}
use Rattle.ferry_carry.proofs.GrowsLemmas.{most_from}
use Rattle.ferry_piece.proofs.PutsLemmas.{adds_here}
use Rattle.ferry_piece.proofs.GoesLemmas.{goes_same}
use Rattle.ferry_piece.specs.Adding.{AddsOn, IsNoChunk}
use Rattle.ferry_piece.specs.Stops.{is_target}
use Rattle.ferry_piece.specs.Fault.{compare_fault, target_failed}
use Rattle.ferry_carry.specs.Carrying.{IsCarried, Origin, SaysIn, origin}
use Rattle.ferry_carry.specs.Flight.{IsCommitted, IsSame}
use Rattle.ferry_piece.proofs.WorkLemmas.{between_known}
use Rattle.ferry_piece.specs.Gather.{Gathered, Gathers, GathersAt, HoldsWithin, KeepsRest, KeepsStanding, KeepsStandingAt}
use Rattle.ferry_carry.specs.Grow.{AcceptsMore, Grows, KeepsGrowing, KeepsNames}
use Rattle.ferry_piece.specs.Puts.{Addition, AtBegin, Within, border_behind}
use Rattle.ferry_piece.specs.Work.{Works}
use Rattle.ferry_piece.specs.declared.fault.CarryFault.TheVariants.{Target}
use Rattle.ferry_piece.proofs.FewLemmas.{begun_kept, begun_none, begun_nothing, used_up}

-- ---- faults of a comparison

depot_is : (fault : RepoFault) → depot_failed (Stores.Repo fault) ≡ repo_failed fault
depot_is Repos.NoCommit = refl
depot_is (Repos.Damaged segment at) = refl
depot_is (Repos.Config f) = refl
depot_is (Repos.Key f) = refl
depot_is (Repos.Missing id) = refl
depot_is (Repos.Blob id f) = refl
depot_is (Repos.Manifest f) = refl
depot_is (Repos.Archive id f) = refl
depot_is (Repos.Item id f) = refl
depot_is (Repos.Size id) = refl
depot_is (Repos.KeyFile f) = refl
depot_is (Repos.Other file config) = refl
depot_is Repos.NoKey = refl
depot_is Repos.Device = refl
depot_is Repos.Memory = refl

pub compared_target : (fault : CompareFault) → target_failed (compare_fault fault) ≡ other_failed fault
compared_target (Compares.Source fault) = refl
compared_target (Compares.Target fault) = depot_is fault
compared_target Compares.Memory = refl

repo_unbroken : (fault : RepoFault) → RefusesTarget (Compares.Target fault) → IsNoChunk (Target (Stores.Repo fault))
repo_unbroken Repos.NoCommit failed = tt
repo_unbroken (Repos.Damaged segment at) failed = tt
repo_unbroken (Repos.Config f) failed = tt
repo_unbroken (Repos.Key f) failed = tt
repo_unbroken (Repos.Missing id) failed = tt
repo_unbroken (Repos.Blob id f) failed = let never : ⊥ = cc in never
repo_unbroken (Repos.Manifest f) failed = tt
repo_unbroken (Repos.Archive id f) failed = tt
repo_unbroken (Repos.Item id f) failed = tt
repo_unbroken (Repos.Size id) failed = tt
repo_unbroken (Repos.KeyFile f) failed = tt
repo_unbroken (Repos.Other file config) failed = tt
repo_unbroken Repos.NoKey failed = tt
repo_unbroken Repos.Device failed = tt
repo_unbroken Repos.Memory failed = tt

-- no chunk of the target refuses a comparison
pub compared_unbroken : (fault : CompareFault) → RefusesTarget fault → IsNoChunk (compare_fault fault)
compared_unbroken (Compares.Source fault) refused = tt
compared_unbroken (Compares.Target fault) refused = repo_unbroken fault refused
compared_unbroken Compares.Memory refused = tt

-- ---- a target whose repository is read

-- it fits as it did, by what was written
read_as : (counts : Bool) (store : Store) (repo : Repo) (h : History) → repo_view repo ≡ repo_view store.repo
    → FitsRepo (files_now h) (repo_view repo) (cached_in repo) → StoreFits counts store h → StoreFits counts (with_repo store repo) h
read_as counts store repo h same repo_fits fits = let now = read_fits counts store repo h same repo_fits fits in record {
  written = fits.written;
  under_way = fits.under_way;
  settings = subst (λ (r : RepoState). ReadsSettings fits.written.config r.config) (sym same) fits.settings;
  repo = repo_fits;
  below = now.below;
  there = now.there;
  holds = subst (λ (r : RepoState). HoldsLive (files_now h) r.log (entries_of fits.written)) (sym same) fits.holds;
  manifest = subst (λ (r : RepoState). CommitsManifest r fits.written.committed) (sym same) fits.manifest;
  keeps = fits.keeps;
  pending = fits.pending;
  chunks = fits.chunks;
  learnt = λ id blob apart live.
      subst (λ (r : RepoState). (live_in id (committed_of fits.written) ≡ Some blob) ⊎ IsSome (get r.log.learnt id)) (sym same)
      (fits.learnt id blob apart live);
}

read_gathers : (most : ℕ) (store : Store) (repo : Repo) (h g : History) → repo_view repo ≡ repo_view store.repo
    → (g ≡ h) × FitsRepo (files_now g) (repo_view repo) (cached_in repo) → Gathers most store [] (with_repo store repo) h g
unfolding read_as
read_gathers most store repo h g same reads counts fits =
    subst (λ (k : History). FitsRepo (files_now k) (repo_view repo) (cached_in repo) → Gathered Within most counts store [] (with_repo store repo) h k fits)
    (sym reads.0) (λ repo_fits. record {
      fits_now = read_as counts store repo h same repo_fits fits;
      moved = moved_here (repo_view store.repo).keys fits.written;
      puts = adds_here Within (repo_view store.repo).keys most (entries_of fits.written);
      committed = goes_same Within (repo_view store.repo).keys most [] fits.written;
      brings = λ scope apart all within. (subst (λ (r : RepoState). HoldsWithin scope (files_now h) r) (sym same) within, tt);
    }) reads.1

-- a store fits after a call that read its repository
pub fits_read : {T : Type 0} (store : Store) (repo : Repo) (a b : Option Told) (result : Result T CompareFault) → repo_view repo ≡ repo_view store.repo
    → KeepsTold other_failed a b result → IfSome b (λ t. FitsRepo (told_files t) (repo_view repo) (cached_in repo))
    → IfSome a (λ t. StoreFits false store t.history) → IfSome b (λ t. StoreFits false (with_repo store repo) t.history)
fits_read {T} store repo a b result same kept repo_fits fits = by_end b repo_fits (known_read (StoreFits false store) other_failed a b result kept fits) where
  by_end : (b : Option Told) → IfSome b (λ t. FitsRepo (told_files t) (repo_view repo) (cached_in repo)) → IfSome b (λ t. StoreFits false store t.history)
      → IfSome b (λ t. StoreFits false (with_repo store repo) t.history)
  by_end None r f = tt
  by_end (Some told) r f = read_fits false store repo told.history same r f

-- a fault of a comparison isn't that of used up numbers
compared_unused : (fault : CompareFault) → compare_fault fault ≡ used_up → ⊥
compared_unused (Compares.Source f) e = let no : ⊥ = cc in no
compared_unused (Compares.Target f) e = let no : ⊥ = cc in no
compared_unused Compares.Memory e = let no : ⊥ = cc in no

-- such a call as a body of a flight
pub works_read : {T U : Type 0} (most : ℕ) (store : Store) (repo : Repo) (a b : Option Told) (n m : ℕ) (x : T) (y : U) → repo_view repo ≡ repo_view store.repo
    → KeepsTold {F = CompareFault} other_failed a b (Ok x) → m ≡ n → IfSome b (λ t. FitsRepo (told_files t) (repo_view repo) (cached_in repo))
    → AddsOn {T = U} most store [] (with_repo store repo) a b n m (Ok y)
works_read {T} {U} most store repo a b n m x y same kept caused repo_fits =
    let reads : Between a b (λ h g. g ≡ h) = same_told {T = T} {F = CompareFault} other_failed a b (Ok x) kept in
    record {
      works = record {
        each = between_map a b (λ h g. g ≡ h) (KeepsStanding most store [])
            (λ h g e. subst (KeepsStanding most store [] h) (sym e) (stands_here most store [] h)) reads;
        end = between_map a b (λ h g. (g ≡ h) × FitsRepo (files_now g) (repo_view repo) (cached_in repo))
            (λ h g. AllDone h g × Gathers most store [] (with_repo store repo) h g)
            (λ h g e. (subst (AllDone h) (sym e.0) (done_here h), read_gathers most store repo h g same e))
            (between_end (λ h. FitsRepo (files_now h) (repo_view repo) (cached_in repo)) (λ h g. g ≡ h) a b repo_fits reads);
        ends = keeps_end {T = T} {F = CompareFault} other_failed a b (Ok x) kept;
        cause = caused;
      };
      unspent = λ was. record { session = was.session; counter = was.counter; itself = was.itself };
      last = tt;
      held = tt;
      few = begun_kept {T = U} store store (with_repo store repo) 0 (Ok y) refl (begun_none {T = U} 0 store y);
    }

pub works_unread : {U : Type 0} (T : Type 0) (most : ℕ) (store : Store) (repo : Repo) (a b : Option Told) (n m : ℕ) (fault : CompareFault)
    → repo_view repo ≡ repo_view store.repo → KeepsTold {T = T} other_failed a b (Err fault) → HasCause {T = T} other_failed n m (Err fault)
    → RefusesTarget fault → IfSome b (λ t. FitsRepo (told_files t) (repo_view repo) (cached_in repo))
    → AddsOn {T = U} most store [] (with_repo store repo) a b n m (Err (compare_fault fault))
works_unread {U} T most store repo a b n m fault same kept caused refused repo_fits =
    let now = with_repo store repo in
    let reads : Between a b (λ h g. g ≡ h) = same_told {T = T} {F = CompareFault} other_failed a b (Err fault) kept in
    let ends = keeps_end {T = T} {F = CompareFault} other_failed a b (Err fault) kept in
    record {
      works = record {
        each = between_map a b (λ h g. g ≡ h) (KeepsStanding most store [])
            (λ h g e. subst (KeepsStanding most store [] h) (sym e) (stands_here most store [] h)) reads;
        end = tt;
        ends = subst (λ (d : Bool). FailedWhere d a b) (sym (compared_target fault)) ends;
        cause = subst (λ (d : Bool). RoseWhere d n m) (sym (compared_target fault)) caused;
      };
      last = stops_unbroken a (repo_view store.repo).keys [] (compare_fault fault) (compared_unbroken fault refused);
      unspent = tt;
      held = λ _. (
        λ was. record { session = was.session; counter = was.counter; itself = was.itself },
        held_until (is_target (compare_fault fault)) Within most store now [] a b
            (between_map a b (λ h g. (g ≡ h) × FitsRepo (files_now g) (repo_view repo) (cached_in repo)) (HoldsAll Within most store [] now)
            (λ h g e. gathers_all most store now [] h g (read_gathers most store repo h g same e))
            (between_end (λ h. FitsRepo (files_now h) (repo_view repo) (cached_in repo)) (λ h g. g ≡ h) a b repo_fits reads)),
      );
      few = begun_kept {T = U} store store now 0 (Err (compare_fault fault)) refl
          (begun_nothing {T = U} 0 store (compare_fault fault) (compared_unused fault));
    }

-- what was compared is the same still
pub same_read : {T : Type 0} (told a b : Option Told) (source : RepoState) (block most : ℕ) (time : Option (List ℕ)) (target now : RepoState) (name : List ℕ)
    (x : T) → now ≡ target
    → KeepsTold {F = CompareFault} other_failed a b (Ok x) → AreEqual told source a target name → IsSame (origin told source block most time) b now name
same_read {T} told a b source block most time target now name x same kept equal =
    subst (λ (r : RepoState). IsSame (origin told source block most time) b r name) (sym same)
    (by told b equal.first (known_read (λ h. Says (files_now h) target name equal.whole) other_failed a b (Ok x) kept equal.second)) where
      by : (told b : Option Told) → IfSome told (λ t. Says (told_files t) source name equal.whole)
          → IfSome b (λ t. Says (told_files t) target name equal.whole) → IsSame (origin told source block most time) b target name
      by None None first second = tt
      by None (Some d) first second = tt
      by (Some t) None first second = tt
      by (Some t) (Some d) first second = (equal.whole, (first, second))

-- ---- what a store keeps that nothing was named in

pub read_rest : (store now : Store) → ReadsStore store now → KeepsRest store now
read_rest store now reads = record {
  keys = ap (λ (r : RepoState). r.keys) reads.repo;
  config = ap (λ (r : RepoState). r.config) reads.repo;
  manifest = ap (λ (r : RepoState). r.manifest) reads.repo;
  accepted = ap (λ (s : Store). accepted_in s) reads.rest;
}

pub rest_packable : (store now : Store) → KeepsRest store now → IsPackable (accepted_in store) → IsPackable (accepted_in now)
rest_packable store now rest packable = subst IsPackable (sym rest.accepted) packable

pub rest_accepts : (store now : Store) → KeepsRest store now → AcceptsMore store → AcceptsMore now
rest_accepts store now rest accepts =
    subst (λ (m : ManifestText). KeepsNames m (accepted_in now)) (sym rest.manifest)
    (subst (KeepsNames (repo_view store.repo).manifest) (sym rest.accepted) accepts)

pub rest_there : (store now : Store) (name : List ℕ) → KeepsRest store now → IsSome (archive_named name (repo_view store.repo).manifest.archives)
    → IsSome (archive_named name (repo_view now.repo).manifest.archives)
rest_there store now name rest there = subst (λ (m : ManifestText). IsSome (archive_named name m.archives)) (sym rest.manifest) there

-- what was accepted has each name that the manifest has
pub there_accepted : (store : Store) (name : List ℕ) → AcceptsMore store → IsSome (archive_named name (repo_view store.repo).manifest.archives)
    → IsSome (archive_named name (accepted_in store).archives)
there_accepted store name accepts there = has_kept (repo_view store.repo).manifest (accepted_in store) name accepts there

-- ---- what a store is that has committed all that it accepted

pub settled_committed : (store : Store) (name : List ℕ) → IsSettled store → IsCommitted store name
settled_committed store name settled entry is = sym (ap (λ (m : ManifestText). archive_named name m.archives) settled) ∙ is

-- ---- bodies that end so

-- an archive that was there is carried once nothing is pending
none_pending : (n m : ℕ) → n ≡ 0 → n ≡ min m (2 ^ 64 - 1) → m ≡ 0
none_pending n m none is = omega (arith, none, is)

no_entries : (entries : List LogEntry) → length entries ≡ 0 → entries ≡ []
no_entries [] none = refl
no_entries (e ∷ es) none = absurd (omega (arith, none))

same_grows : (earlier : List Addition) (from : Origin) (name : List ℕ) (store now : Store) (h g : History) → AcceptsMore store → KeepsRest store now
    → now.pending ≡ 0
    → IsSome (archive_named name (repo_view store.repo).manifest.archives)
    → IfSome from.files (λ there. (whole : WholeArchive)
    × (SaysIn there from.repo name whole × SaysIn (files_now h) (repo_view store.repo) name whole))
    → GathersAt (border_behind AtBegin earlier) from.most store [] now h g → Grows earlier from (name ∷ []) [] store now h g
same_grows earlier from name store now h g accepts rest pending there same gathers counts fits =
    let end = gathers counts fits in
    let written = end.fits_now.written in
    let all_added = earlier ++ [] in
    let base = entries_of fits.written in
    let none : written.pending ≡ [] =
    no_entries written.pending (none_pending now.pending (length written.pending) pending end.fits_now.pending) in
    let all : entries_of written ≡ committed_of written =
    ap (λ (es : List LogEntry). committed_of written ++ es) none ∙ append-nil (committed_of written) in
    let lives : (id blob : List ℕ) → id ≢ zero_id → HasBlob (files_now h) (repo_view store.repo).log id blob
    → live_in id (committed_of written) ≡ Some blob =
    λ id blob apart has.
    ap (live_in id) (sym all) ∙ end.moved.entries id blob ((fits.holds id blob apart).0 has) in
    let carried : IsCarried from all_added base (repo_view store.repo).keys (committed_of written) (repo_view store.repo).manifest.archives name =
    IfSome_then from.files same (λ there s.
    same_over there from all_added base (files_now h) (repo_view store.repo) name s.0 (committed_of written) lives s.1.0 s.1.1) in
    record {
      fits_now = end.fits_now;
      chunks = λ id blob apart live. end.moved.committed id blob live;
      opening = end.moved.opening;
      puts = end.puts;
      committed = end.committed;
      config = end.moved.config;
      most = most_from store now rest;
      next = behind_present from (accepted_in store) (repo_view store.repo).manifest (repo_view now.repo).manifest name there rest.manifest;
      settled = λ same. rest.accepted ∙ (same ∙ sym rest.manifest);
      carried = (
        subst (λ (k : Keys). IsCarried from all_added base k (committed_of written) (repo_view now.repo).manifest.archives name) (sym rest.keys)
            (subst (λ (m : ManifestText). IsCarried from all_added base (repo_view store.repo).keys (committed_of written) m.archives name)
            (sym rest.manifest) carried),
        tt,
      );
      cut = cut_same (accepted_in store) from (files_now h) (repo_view store.repo) (repo_view now.repo).keys (repo_view now.repo).manifest.archives name
          accepts same;
      named = (rest_there store now name rest there, tt);
      only = λ other entry is. inl (ap (λ (m : ManifestText). archive_named other m.archives) (sym rest.accepted) ∙ is);
    }

pub same_carried : {T : Type 0} (earlier : List Addition) (from : Origin) (name : List ℕ) (store now : Store) (a b : Option Told) (n m : ℕ) (x : T)
    → AcceptsMore store → KeepsRest store now → now.pending ≡ 0 → IsSome (archive_named name (repo_view store.repo).manifest.archives)
    → IsSame from a (repo_view store.repo) name
    → Works (KeepsStandingAt (border_behind AtBegin earlier) from.most store [])
    (λ (_ : T). GathersAt (border_behind AtBegin earlier) from.most store [] now) a b n m (Ok x)
    → Works (KeepsGrowing earlier from (name ∷ []) store []) (λ (_ : T). Grows earlier from (name ∷ []) [] store now) a b n m (Ok x)
same_carried {T} earlier from name store now a b n m x accepts rest pending there same p = record {
  each = between_map a b (KeepsStandingAt (border_behind AtBegin earlier) from.most store []) (KeepsGrowing earlier from (name ∷ []) store [])
      (λ h g e. growing_by earlier from (name ∷ []) (accepted_in store) store [] h g accepts e) p.each;
  end = between_map a b
      (λ h g. IfSome from.files (λ there. (whole : WholeArchive)
      × (SaysIn there from.repo name whole × SaysIn (files_now h) (repo_view store.repo) name whole))
      × (AllDone h g × GathersAt (border_behind AtBegin earlier) from.most store [] now h g))
      (λ h g. AllDone h g × Grows earlier from (name ∷ []) [] store now h g)
      (λ h g e. (e.1.0, same_grows earlier from name store now h g accepts rest pending there e.0 e.1.1))
      (between_known (λ h. IfSome from.files (λ there. (whole : WholeArchive)
      × (SaysIn there from.repo name whole × SaysIn (files_now h) (repo_view store.repo) name whole)))
      (λ h g. AllDone h g × GathersAt (border_behind AtBegin earlier) from.most store [] now h g) a b same p.end);
  ends = p.ends;
  cause = p.cause;
}

-- ---- the archive of a name

pub named_so : (name : List ℕ) (archives : List ArchiveRef) (entry : ArchiveRef) → archive_named name archives ≡ Some entry → entry.name ≡ name
named_so name [] entry found = absurd (let e = sym (archive_named-none name) ∙ found in let no : ⊥ = cc in no)
named_so name (archive ∷ archives) entry found = by_name (bytes_eq archive.name name) refl (named_so name archives entry) where
  by_name : (b : Bool) → bytes_eq archive.name name ≡ b → (archive_named name archives ≡ Some entry → entry.name ≡ name) → entry.name ≡ name
  by_name true is rest =
      let e : Some archive ≡ Some entry = sym (archive_named-here name archive archives is) ∙ found in
      let same : archive ≡ entry = cc in
      ap (λ (a : ArchiveRef). a.name) (sym same) ∙ (bytes_eq-Decides archive.name name).0 is
  by_name false is rest = rest (sym (archive_named-other name archive archives is) ∙ found)
