-- A target into which archives come, one after another.
use Rattle.std.proofs.Common.{◌≡◌, ◌⊎◌, inl, inr, ℕ, Bool, List, [], ◌++◌, Option, Some, None, IsSome}
use Rattle.std.proofs.Common.{unwrap_or, refl, sym, ◌∙◌, ap, subst}
use Rattle.std.proofs.lemmas.List.{append-nil, append_assoc}
use Rattle.std.specs.List.{AllByRecursion}
use Rattle.ferry_base.specs.Limits.{zero_id}
use Rattle.ferry_blob.specs.Blob.{OpensTo}
use Rattle.ferry_disk.specs.Act.{History}
use Rattle.ferry_disk.specs.Files.{Files}
use Rattle.ferry_mac.specs.declared.keys.Keys.{Keys}
use Rattle.ferry_manifest.specs.Manifest.Text.{ManifestText, manifest_of}
use Rattle.ferry_manifest.specs.declared.manifest.ArchiveRef.{ArchiveRef}
use Rattle.ferry_repo.specs.Archives.{archive_named}
use Rattle.ferry_repo.specs.Opening.{RepoState, repo_view}
use Rattle.ferry_segment.specs.Entry.{LogEntry}
use Rattle.ferry_store.proofs.StandingLemmas.{manifest_kept}
use Rattle.ferry_store.specs.Commit.{accepted_in}
use Rattle.ferry_store.specs.Standing.{HoldsManifest, Keeps, committed_of, entries_of, with_manifest}
use Rattle.ferry_store.specs.State.{Written}
use Rattle.ferry_store.specs.Store.{StoreFits}
use Rattle.ferry_store.specs.declared.store.Store.{Store}
use Rattle.ferry_carry.proofs.CarryLemmas.{all_carried, apart_behind, apart_parts}
use Rattle.ferry_carry.proofs.CutLemmas.{cut_none, cut_then}
use Rattle.ferry_carry.proofs.NextLemmas.{behind_still, behind_then}
use Rattle.ferry_piece.proofs.FrontLemmas.{front_then, front_wider, with_moments}
use Rattle.ferry_piece.proofs.GatherLemmas.{keeps_at, opening_then}
use Rattle.ferry_piece.specs.Front.{HoldsFront}
use Rattle.ferry_piece.proofs.PutsLemmas.{border_append, front_all}
use Rattle.ferry_piece.proofs.GoesLemmas.{goes_then, goes_wider}
use Rattle.ferry_piece.proofs.AmongLemmas.{all_both, among_behind, among_front, each_to}
use Rattle.ferry_piece.specs.Gather.{BringsOpening, IsAmong, KeepsStanding, KeepsStandingAt, StandsFrom}
use Rattle.ferry_carry.specs.Grow.{AcceptsMore, IsBehind, IsNamedBy, KeepsChunks, KeepsGrowing, KeepsGrowingBy, KeepsNames}
use Rattle.ferry_carry.specs.Grow.{StandsOn}
use Rattle.ferry_carry.specs.Carrying.{AreCut, IsApart, IsCarried, Origin}
use Rattle.ferry_piece.specs.Puts.{Addition, AddsAll, AtBegin, Border, GoesOn, IsFront, border_behind}

-- ---- names and chunks

pub names_here : (manifest : ManifestText) → KeepsNames manifest manifest
names_here manifest name entry is = is

pub names_then : (a b c : ManifestText) → KeepsNames a b → KeepsNames b c → KeepsNames a c
names_then a b c p q name entry is = q name entry (p name entry is)

-- a name that a manifest has, a manifest has that keeps each archive
pub has_kept : (before after : ManifestText) (name : List ℕ) → KeepsNames before after → IsSome (archive_named name before.archives)
    → IsSome (archive_named name after.archives)
has_kept before after name keeps has = by (archive_named name before.archives) refl has where
  by : (o : Option ArchiveRef) → archive_named name before.archives ≡ o → IsSome o → IsSome (archive_named name after.archives)
  by None e is = absurd (let no : ⊥ = cc in no)
  by (Some entry) e is = subst IsSome (sym (keeps name entry e)) refl

pub all_kept : (before after : ManifestText) (names : List (List ℕ)) → KeepsNames before after
    → AllByRecursion (λ (name : List ℕ). IsSome (archive_named name before.archives)) names
    → AllByRecursion (λ (name : List ℕ). IsSome (archive_named name after.archives)) names
all_kept before after names keeps all =
    each_to (λ (name : List ℕ). IsSome (archive_named name before.archives)) (λ (name : List ℕ). IsSome (archive_named name after.archives)) names
    (λ name has. has_kept before after name keeps has) all

pub chunks_then : (a b c : List LogEntry) → KeepsChunks a b → KeepsChunks b c → KeepsChunks a c
chunks_then a b c p q id blob apart live = q id blob apart (p id blob apart live)

pub keeps_chunks : (a b : List LogEntry) → Keeps a b → KeepsChunks a b
keeps_chunks a b keeps id blob apart live = keeps id blob live

-- a manifest that is held under the same secrets
pub held_by : (repo other : RepoState) (manifest : ManifestText) (entries : List LogEntry) → other.keys ≡ repo.keys
    → HoldsManifest (with_manifest other manifest) entries → HoldsManifest (with_manifest repo manifest) entries
held_by repo other manifest entries keys holds = record {
  blob = holds.blob;
  content = holds.content;
  live = holds.live;
  opens = subst (λ (k : Keys). OpensTo k zero_id holds.blob holds.content) keys holds.opens;
  reads = ap (λ (k : Keys). manifest_of k holds.content) (sym keys) ∙ holds.reads;
}

-- ---- what stands

-- by entries that keep all that was committed the manifest is the one that was
pub on_from : (earlier : List Addition) (from : Origin) (chosen : List (List ℕ)) (within : List Addition) (accepted : ManifestText) (counts : Bool)
    (store : Store) (h : History) (fits : StoreFits counts store h) (image : Files) → KeepsNames (repo_view store.repo).manifest accepted
    → StandsFrom (border_behind AtBegin earlier) (repo_view store.repo).keys from.most within fits.written image
    → StandsOn earlier from chosen within accepted (repo_view store.repo) fits.written image
on_from earlier from chosen within accepted counts store h fits image accepts stands =
    let entries_are : committed_of fits.written ≡ fits.manifest.entries = ap (λ (c : Option (List LogEntry)). unwrap_or c []) fits.manifest.is in
    record {
      entries = stands.entries;
      manifest = (repo_view store.repo).manifest;
      shown = stands.shown;
      chunks = keeps_chunks (committed_of fits.written) stands.entries stands.keeps;
      opening = stands.opening;
      puts = stands.puts;
      holds = manifest_kept (repo_view store.repo) (committed_of fits.written) stands.entries stands.keeps
          (subst (HoldsManifest (repo_view store.repo)) (sym entries_are) fits.manifest.holds);
      names = names_here (repo_view store.repo).manifest;
      config = stands.config;
      done = [];
      rest = chosen;
      front = refl;
      next = behind_still from accepted (repo_view store.repo).manifest (repo_view store.repo).manifest refl;
      carried = tt;
      cut = cut_none accepted from (repo_view store.repo).keys (repo_view store.repo).manifest.archives;
      only = λ name entry is. inl (accepts name entry is);
    }

pub growing_by : (earlier : List Addition) (from : Origin) (chosen : List (List ℕ)) (accepted : ManifestText) (store : Store) (within : List Addition)
    (h g : History) → KeepsNames (repo_view store.repo).manifest accepted → KeepsStandingAt (border_behind AtBegin earlier) from.most store within h g
    → KeepsGrowingBy earlier accepted from chosen store within h g
growing_by earlier from chosen accepted store within h g accepts keeps = (
  keeps.0,
  λ counts fits.
      let Read : Files → Type 0 = HoldsFront (border_behind AtBegin earlier) (repo_view store.repo).keys from.most (entries_of fits.written) within in
      with_moments (StandsFrom (border_behind AtBegin earlier) (repo_view store.repo).keys from.most within fits.written)
      (StandsOn earlier from chosen within accepted (repo_view store.repo) fits.written) Read Read counts h g
      (λ image stands. on_from earlier from chosen within accepted counts store h fits image accepts stands) (λ files has. has) (keeps.1 counts fits),
)

-- what stands within an archive does so behind whatever was added
pub growing_within : (earlier : List Addition) (from : Origin) (chosen : List (List ℕ)) (store : Store) (within : List Addition) (h g : History)
    → AcceptsMore store → KeepsStanding from.most store within h g → KeepsGrowing earlier from chosen store within h g
growing_within earlier from chosen store within h g accepts keeps =
    growing_by earlier from chosen (accepted_in store) store within h g accepts (keeps_at (border_behind AtBegin earlier) from.most store within h g keeps)

-- names of both
pub named_then : (accepted middle manifest : ManifestText) (some more : List (List ℕ)) → IsNamedBy accepted some middle → IsNamedBy middle more manifest
    → IsNamedBy accepted (some ++ more) manifest
named_then accepted middle manifest some more p q name entry is = by (q name entry is) where
  first : (archive_named name accepted.archives ≡ Some entry) ⊎ IsAmong some name
      → (archive_named name accepted.archives ≡ Some entry) ⊎ IsAmong (some ++ more) name
  first (inl e) = inl e
  first (inr among) = inr (among_front some more name among)

  by : (archive_named name middle.archives ≡ Some entry) ⊎ IsAmong more name
      → (archive_named name accepted.archives ≡ Some entry) ⊎ IsAmong (some ++ more) name
  by (inl e) = first (p name entry e)
  by (inr among) = inr (among_behind some more name among)

-- archives that were carried behind others of a transfer are carried behind what was there when those began
module _ (earlier : List Addition) (from : Origin) (some more : List (List ℕ)) (added others : List Addition) (keys : Keys) (at : Border)
    (before behind a b : List LogEntry) (middle after : ManifestText) where
  pub carried_both : AddsAll at keys from.most before added behind → KeepsChunks a b → KeepsNames middle after
      → AllByRecursion (IsCarried from (earlier ++ added) before keys a middle.archives) some
      → AllByRecursion (IsCarried from ((earlier ++ added) ++ others) behind keys b after.archives) more
      → AllByRecursion (IsCarried from (earlier ++ (added ++ others)) before keys b after.archives) (some ++ more)
  carried_both adds chunks names first second =
      let all = earlier ++ (added ++ others) in
      all_both (IsCarried from all before keys b after.archives) some more
      (all_carried from keys (earlier ++ added) all before before a b middle after some
      (λ scope apart.
      (apart_parts scope keys before (earlier ++ added) others
      (subst (IsApart scope keys before) (sym (append_assoc earlier added others)) apart)).0) chunks names first)
      (all_carried from keys ((earlier ++ added) ++ others) all behind before b b after after more
      (λ scope apart. apart_behind scope keys at from.most before behind earlier added others adds apart) (λ id blob chunk live. live) (names_here after)
      second)

-- what goes on behind both
pub goes_both : (earlier added : List Addition) (keys : Keys) (most : ℕ) (others : List Addition) (written : Written) (entries : List LogEntry)
    → GoesOn (border_behind AtBegin (earlier ++ added)) keys most others written entries
    → GoesOn (border_behind (border_behind AtBegin earlier) added) keys most others written entries
goes_both earlier added keys most others written entries goes =
    subst (λ (at : Border). GoesOn at keys most others written entries) (border_append AtBegin earlier added) goes

-- and all that the segments have then
pub front_both : (earlier added : List Addition) (keys keys_now : Keys) (most : ℕ) (others : List Addition) (before middle : List LogEntry) (files : Files)
    → keys_now ≡ keys → AddsAll (border_behind AtBegin earlier) keys most before added middle
    → HoldsFront (border_behind AtBegin (earlier ++ added)) keys_now most middle others files
    → HoldsFront (border_behind AtBegin earlier) keys most before (added ++ others) files
front_both earlier added keys keys_now most others before middle files same adds read =
    front_then (border_behind AtBegin earlier) keys most before middle added others files adds
    (subst (λ (at : Border). HoldsFront at keys most middle others files) (border_append AtBegin earlier added)
    (subst (λ (k : Keys). HoldsFront (border_behind AtBegin (earlier ++ added)) k most middle others files) same read))

-- what stands from later on stands from before
unfoldable pub on_then : (earlier : List Addition) (from : Origin) (some more : List (List ℕ)) (added others : List Addition)
    (accepted middle : ManifestText) (repo next : RepoState) (written after : Written) (image : Files)
    → next.keys ≡ repo.keys → KeepsNames repo.manifest next.manifest → KeepsChunks (committed_of written) (committed_of after)
    → BringsOpening repo.keys (entries_of written) (entries_of after)
    → AddsAll (border_behind AtBegin earlier) repo.keys from.most (entries_of written) added (entries_of after)
    → GoesOn (border_behind AtBegin earlier) repo.keys from.most added written (committed_of after) → after.config ≡ written.config
    → AllByRecursion (IsCarried from (earlier ++ added) (entries_of written) next.keys (committed_of after) next.manifest.archives) some
    → AreCut accepted from next.keys next.manifest.archives some → IsNamedBy accepted some middle
    → (accepted ≡ repo.manifest → middle ≡ next.manifest) → IsBehind from accepted repo.manifest some next.manifest
    → StandsOn (earlier ++ added) from more others middle next after image
    → StandsOn earlier from (some ++ more) (added ++ others) accepted repo written image
on_then earlier from some more added others accepted middle repo next written after image keys names chunks opening puts goes config carried cut only settles
    behind stands =
    let at = border_behind AtBegin earlier in
    let done = some ++ stands.done in
    record {
      entries = stands.entries;
      manifest = stands.manifest;
      shown = stands.shown;
      chunks = chunks_then (committed_of written) (committed_of after) stands.entries chunks stands.chunks;
      opening = opening_then repo.keys (entries_of written) (entries_of after) stands.entries opening
          (subst (λ (k : Keys). BringsOpening k (entries_of after) stands.entries) keys stands.opening);
      puts = goes_then at repo.keys from.most written after stands.entries added others puts goes
          (goes_both earlier added repo.keys from.most others after stands.entries
          (subst (λ (k : Keys). GoesOn (border_behind AtBegin (earlier ++ added)) k from.most others after stands.entries) keys stands.puts));
      holds = held_by repo next stands.manifest stands.entries keys stands.holds;
      names = names_then repo.manifest next.manifest stands.manifest names stands.names;
      config = stands.config ∙ config;
      done = done;
      rest = stands.rest;
      front = ap (λ (l : List (List ℕ)). some ++ l) stands.front ∙ sym (append_assoc some stands.done stands.rest);
      next = behind_then from accepted repo.manifest middle next.manifest stands.manifest some stands.done behind settles stands.next;
      carried = subst (λ (k : Keys). AllByRecursion (IsCarried from (earlier ++ (added ++ others)) (entries_of written) k stands.entries
          stands.manifest.archives) done) keys
          (carried_both earlier from some stands.done added others next.keys at (entries_of written) (entries_of after) (committed_of after) stands.entries
          next.manifest stands.manifest
          (subst (λ (k : Keys). AddsAll at k from.most (entries_of written) added (entries_of after)) (sym keys) puts) stands.chunks stands.names carried
          stands.carried);
      cut = subst (λ (k : Keys). AreCut accepted from k stands.manifest.archives done) keys
          (cut_then accepted middle from next.keys next.manifest stands.manifest some stands.done only stands.names cut stands.cut);
      only = named_then accepted middle stands.manifest some stands.done only stands.only;
    }

-- of more chosen names a front was carried too, and of more that may be added the first were
unfoldable pub on_wider : (earlier : List Addition) (from : Origin) (some more : List (List ℕ)) (within all : List Addition) (accepted : ManifestText)
    (repo : RepoState) (written : Written) (image : Files) → IsFront within all → StandsOn earlier from some within accepted repo written image
    → StandsOn earlier from (some ++ more) all accepted repo written image
on_wider earlier from some more within all accepted repo written image first stands = record {
  entries = stands.entries;
  manifest = stands.manifest;
  shown = stands.shown;
  chunks = stands.chunks;
  opening = stands.opening;
  puts = goes_wider (border_behind AtBegin earlier) repo.keys from.most within all written stands.entries first stands.puts;
  holds = stands.holds;
  names = stands.names;
  config = stands.config;
  done = stands.done;
  rest = stands.rest ++ more;
  front = ap (λ (l : List (List ℕ)). l ++ more) stands.front ∙ append_assoc stands.done stands.rest more;
  next = stands.next;
  carried = all_carried from repo.keys (earlier ++ within) (earlier ++ all) (entries_of written) (entries_of written) stands.entries stands.entries
      stands.manifest stands.manifest stands.done
      (λ scope apart.
      (apart_parts scope repo.keys (entries_of written) (earlier ++ within) first.0
      (subst (IsApart scope repo.keys (entries_of written))
      (ap (λ (l : List Addition). earlier ++ l) first.1 ∙ sym (append_assoc earlier within first.0)) apart)).0) (λ id blob chunk live. live)
      (names_here stands.manifest) stands.carried;
  cut = stands.cut;
  only = stands.only;
}

growing_more : (earlier : List Addition) (from : Origin) (some more : List (List ℕ)) (store : Store) (within all : List Addition) (h g : History)
    → IsFront within all → KeepsGrowing earlier from some store within h g → KeepsGrowing earlier from (some ++ more) store all h g
growing_more earlier from some more store within all h g first growing = (
  growing.0,
  λ counts fits.
      let repo = repo_view store.repo in
      let at = border_behind AtBegin earlier in
      let before = entries_of fits.written in
      with_moments (StandsOn earlier from some within (accepted_in store) repo fits.written)
      (StandsOn earlier from (some ++ more) all (accepted_in store) repo fits.written) (HoldsFront at repo.keys from.most before within)
      (HoldsFront at repo.keys from.most before all) counts h g
      (λ image stands. on_wider earlier from some more within all (accepted_in store) repo fits.written image first stands)
      (λ files read. front_wider at repo.keys from.most before within all files first read) (growing.1 counts fits),
)

pub growing_wider : (earlier : List Addition) (from : Origin) (some more : List (List ℕ)) (store : Store) (within : List Addition) (h g : History)
    → KeepsGrowing earlier from some store within h g → KeepsGrowing earlier from (some ++ more) store within h g
growing_wider earlier from some more store within h g growing = growing_more earlier from some more store within within h g (front_all within) growing

pub growing_longer : (earlier : List Addition) (from : Origin) (chosen : List (List ℕ)) (store : Store) (within all : List Addition) (h g : History)
    → IsFront within all → KeepsGrowing earlier from chosen store within h g → KeepsGrowing earlier from chosen store all h g
growing_longer earlier from chosen store within all h g first growing =
    subst (λ (names : List (List ℕ)). KeepsGrowing earlier from names store all h g) (append-nil chosen)
    (growing_more earlier from chosen [] store within all h g first growing)
