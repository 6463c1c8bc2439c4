-- Lemmas on what a target is when a manifest is committed that accepts an archive.
use Rattle.std.proofs.Common.{◌≡◌, ◌⊎◌, inl, inr, ℕ, zero, Bool, true, false, cond, List, [], ◌∷◌, ◌++◌, Option, Some, None, Ok, IfSome, IsSome}
use Rattle.std.proofs.Common.{if◌then◌else◌, refl, sym, ◌∙◌, ap, subst}
use Rattle.std.proofs.lemmas.Slice.Eq.{bytes_eq-Decides}
use Rattle.std.proofs.lemmas.List.{append-nil, append_assoc}
use Rattle.std.specs.Str.{bytes_eq}
use Rattle.ferry_base.specs.Limits.{zero_id}
use Rattle.ferry_disk.specs.Act.{History, files_now}
use Rattle.ferry_disk.specs.Device.{Told}
use Rattle.ferry_disk.specs.Files.{Files}
use Rattle.ferry_mac.specs.declared.keys.Keys.{Keys}
use Rattle.ferry_manifest.specs.Manifest.Text.{ManifestText}
use Rattle.ferry_manifest.specs.declared.manifest.ArchiveRef.{ArchiveRef}
use Rattle.ferry_manifest.specs.declared.manifest.Manifest.{Manifest}
use Rattle.ferry_next.proofs.PlaceLemmas.{with_named}
use Rattle.ferry_next.specs.Next.{next_manifest}
use Rattle.ferry_repo.specs.Archives.{archive_named}
use Rattle.ferry_repo.specs.Opening.{repo_view}
use Rattle.ferry_segment.specs.Entry.{LogEntry, CommitEntry, PutEntry}
use Rattle.ferry_stops.specs.Tells.{TellsNothing}
use Rattle.ferry_store.proofs.StandingLemmas.{entries_put, live_manifest, live_renewed}
use Rattle.ferry_store.proofs.StepLemmas.{known_end, known_then}
use Rattle.ferry_store.specs.Commit.{Commits, CommitsEntry, ShowsManifest, accepted_in}
use Rattle.ferry_store.specs.Standing.{committed_of, entries_committed, entries_of, live_in, with_manifest}
use Rattle.ferry_store.specs.State.{Did, Written, with_entry}
use Rattle.ferry_store.specs.Store.{StoreFits}
use Rattle.ferry_store.specs.declared.store.Store.{Store}
use Rattle.ferry_write.specs.Script.{AllDone}
use Rattle.ferry_carry.proofs.CarryLemmas.{named_carried}
use Rattle.ferry_carry.proofs.CutLemmas.{cut_one}
use Rattle.ferry_piece.proofs.FrontLemmas.{manifest_way, with_moments, with_read}
use Rattle.ferry_piece.proofs.GatherLemmas.{standing_from}
use Rattle.ferry_piece.specs.Front.{HoldsFront}
use Rattle.ferry_store.specs.Writing.{WritesManifest}
use Rattle.ferry_piece.proofs.PutsLemmas.{adds_manifest, first_all}
use Rattle.ferry_piece.specs.Gather.{IsAmong, KeepsStandingAt}
use Rattle.ferry_carry.specs.Grow.{AcceptsMore, GrowsBy, IsBehind, KeepsGrowingBy, KeepsMost, KeepsNames, job}
use Rattle.ferry_carry.specs.Grow.{StandsOn}
use Rattle.ferry_carry.specs.Carrying.{AreCut, IsCarried, IsReadyToName, Origin}
use Rattle.ferry_carry.specs.Flight.{AcceptsOne}
use Rattle.ferry_piece.specs.Puts.{Addition, AddsAll, AtBegin, AtEnd, Border, GoesOn, border_behind}
use Rattle.ferry_carry.proofs.GrowLemmas.{names_here, on_from}

-- ---- a manifest is committed

-- what was added is committed
goes_adds : (at : Border) (keys : Keys) (most : ℕ) (written : Written) (entries : List LogEntry) → AddsAll at keys most (entries_of written) [] entries
    → GoesOn at keys most [] written entries
goes_adds at keys most written entries adds = inr (first_all at keys most (entries_of written) [] entries adds)

-- behind what was written stand a manifest and a commit then
commit_adds : (keys : Keys) (most : ℕ) (written : Written) (blob : List ℕ)
    → AddsAll AtEnd keys most (entries_of written) [] (entries_committed (with_entry written (PutEntry zero_id blob)))
commit_adds keys most written blob =
    let entry = PutEntry zero_id blob in
    let is : entries_committed (with_entry written entry) ≡ entries_of written ++ (entry ∷ CommitEntry ∷ []) =
    ap (λ (es : List LogEntry). es ++ CommitEntry ∷ []) (entries_put written entry) ∙ append_assoc (entries_of written) (entry ∷ []) (CommitEntry ∷ []) in
    subst (AddsAll AtEnd keys most (entries_of written) []) (sym is)
    (adds_manifest keys most (entries_of written) blob)

module _ (from : Origin) (earlier : List Addition) (at_end : border_behind AtBegin earlier ≡ AtEnd) (accepted : ManifestText) (entry : ArchiveRef)
    (store : Store) (manifest : ManifestText) (blob : List ℕ) where
  -- the same behind a record
  commit_behind : (written : Written)
      → AddsAll (border_behind AtBegin earlier) (repo_view store.repo).keys from.most (entries_of written) []
      (entries_committed (with_entry written (PutEntry zero_id blob)))
  commit_behind written =
      let keys = (repo_view store.repo).keys in
      let entries = entries_committed (with_entry written (PutEntry zero_id blob)) in
      subst (λ (at : Border). AddsAll at keys from.most (entries_of written) [] entries) (sym at_end) (commit_adds keys from.most written blob)

  commit_on : (counts : Bool) (h : History) (fits : StoreFits counts store h) (image : Files) → KeepsNames (repo_view store.repo).manifest manifest
      → manifest.archives ≡ (accepted_in store).archives → AcceptsOne accepted store entry
      → IsBehind from accepted (repo_view store.repo).manifest (entry.name ∷ []) manifest
      → IsReadyToName from earlier (files_now h) (repo_view store.repo) entry
      → ShowsManifest (with_manifest (repo_view store.repo) manifest) (with_entry fits.written (PutEntry zero_id blob)) image
      → StandsOn earlier from (entry.name ∷ []) [] accepted (repo_view store.repo) fits.written image
  commit_on counts h fits image names archives one behind ready (inl shown) =
      on_from earlier from (entry.name ∷ []) [] accepted counts store h fits image one.keeps
      (standing_from (border_behind AtBegin earlier) from.most [] counts store h fits image shown)
  commit_on counts h fits image names archives one behind ready (inr shown) =
      let named : (name : List ℕ) → archive_named name manifest.archives ≡ archive_named name (accepted_in store).archives =
      λ name. ap (archive_named name) archives in
      let entries = entries_committed (with_entry fits.written (PutEntry zero_id blob)) in
      record {
        entries = entries;
        manifest = manifest;
        shown = shown.0.0;
        chunks = λ id old apart live. live_manifest fits.written blob id apart ∙ fits.keeps id old live;
        opening = λ id old apart live. inl (sym (live_manifest fits.written blob id apart) ∙ live);
        puts = goes_adds (border_behind AtBegin earlier) (repo_view store.repo).keys from.most fits.written entries (commit_behind fits.written);
        holds = shown.1;
        names = names;
        config = shown.0.1;
        done = entry.name ∷ [];
        rest = [];
        front = refl;
        next = behind;
        carried = (named_carried counts store h fits blob from earlier manifest entry (named entry.name ∙ one.there) ready, tt);
        cut = cut_one accepted from earlier (files_now h) (repo_view store.repo) manifest entry (named entry.name ∙ one.there) ready;
        only = λ name other is. one.only name other (sym (named name) ∙ is);
      }

  pub commit_growing : (h g : History) → KeepsNames (repo_view store.repo).manifest manifest → manifest.archives ≡ (accepted_in store).archives
      → AcceptsOne accepted store entry → IsBehind from accepted (repo_view store.repo).manifest (entry.name ∷ []) manifest
      → IsReadyToName from earlier (files_now h) (repo_view store.repo) entry → TellsNothing h g
      → CommitsEntry (with_manifest (repo_view store.repo) manifest) store.session store.counter (PutEntry zero_id blob) h g
      → (other : List ℕ) → WritesManifest other store.session store.counter h g
      → KeepsGrowingBy earlier accepted from (entry.name ∷ []) store [] h g
  commit_growing h g names archives one behind ready untold commits other writes = (
    untold,
    λ counts fits.
        let at = border_behind AtBegin earlier in
        let Shows : Files → Type 0 = ShowsManifest (with_manifest (repo_view store.repo) manifest) (with_entry fits.written (PutEntry zero_id blob)) in
        let Read : Files → Type 0 = HoldsFront at (repo_view store.repo).keys from.most (entries_of fits.written) [] in
        with_moments Shows (StandsOn earlier from (entry.name ∷ []) [] accepted (repo_view store.repo) fits.written) Read Read counts h g
        (λ image shown. commit_on counts h fits image names archives one behind ready shown) (λ files has. has)
        (with_read Shows Read counts h g (commits counts fits.written fits.under_way)
        (manifest_way at from.most store other h g at_end writes counts fits)),
  )

  pub commit_grows : (now : Store) (h g : History) → KeepsMost store now → manifest.archives ≡ (accepted_in store).archives
      → (repo_view now.repo).manifest ≡ manifest → accepted_in now ≡ (repo_view now.repo).manifest → AcceptsOne accepted store entry
      → IsBehind from accepted (repo_view store.repo).manifest (entry.name ∷ []) manifest
      → IsReadyToName from earlier (files_now h) (repo_view store.repo) entry → Commits store (PutEntry zero_id blob) now h g
      → GrowsBy (job earlier accepted from (entry.name ∷ [])) [] store now h g
  commit_grows now h g most archives manifest_is accepted_is one behind ready commits counts fits =
      let end = commits counts fits in
      let entries = entries_committed (with_entry fits.written (PutEntry zero_id blob)) in
      let at = border_behind AtBegin earlier in
      let base = entries_of fits.written in
      let keys = (repo_view store.repo).keys in
      let committed : committed_of end.0.written ≡ entries = ap committed_of end.1 in
      let written_is : entries_of end.0.written ≡ entries = ap entries_of end.1 ∙ append-nil entries in
      let adds : AddsAll at keys from.most base [] entries = commit_behind fits.written in
      let named : (name : List ℕ) → archive_named name manifest.archives ≡ archive_named name (accepted_in store).archives =
      λ name. ap (archive_named name) archives in
      record {
        fits_now = end.0;
        chunks = λ id old apart live.
            ap (λ (w : Written). live_in id (committed_of w)) end.1 ∙ (live_manifest fits.written blob id apart ∙ fits.keeps id old live);
        opening = λ id old apart live.
            inl (sym (live_renewed fits.written blob id apart) ∙ (ap (λ (w : Written). live_in id (entries_of w)) (sym end.1) ∙ live));
        puts = subst (AddsAll at keys from.most base []) (sym written_is) adds;
        committed = subst (GoesOn at keys from.most [] fits.written) (sym committed) (goes_adds at keys from.most fits.written entries adds);
        config = ap (λ (w : Written). w.config) end.1;
        most = most;
        next = subst (IsBehind from accepted (repo_view store.repo).manifest (entry.name ∷ [])) (sym manifest_is) behind;
        settled = λ _. accepted_is;
        carried = (
          subst (λ (es : List LogEntry). IsCarried from (earlier ++ []) base (repo_view now.repo).keys es (repo_view now.repo).manifest.archives entry.name)
              (sym committed)
              (subst (λ (m : ManifestText). IsCarried from (earlier ++ []) base (repo_view now.repo).keys entries m.archives entry.name) (sym manifest_is)
              (subst (λ (k : Keys). IsCarried from (earlier ++ []) base k entries manifest.archives entry.name) (sym most.keys)
              (named_carried counts store h fits blob from earlier manifest entry (named entry.name ∙ one.there) ready))),
          tt,
        );
        cut = subst (λ (m : ManifestText). AreCut accepted from (repo_view now.repo).keys m.archives (entry.name ∷ [])) (sym manifest_is)
            (subst (λ (k : Keys). AreCut accepted from k manifest.archives (entry.name ∷ [])) (sym most.keys)
            (cut_one accepted from earlier (files_now h) (repo_view store.repo) manifest entry (named entry.name ∙ one.there) ready));
        named = (
          subst (λ (m : ManifestText). IsSome (archive_named entry.name m.archives)) (sym manifest_is)
              (subst IsSome (sym (named entry.name ∙ one.there)) refl),
          tt,
        );
        only = λ name other is.
            one.only name other
            (sym (named name) ∙ (ap (λ (m : ManifestText). archive_named name m.archives) (sym (accepted_is ∙ manifest_is)) ∙ is));
      }

-- what was accepted keeps each archive of the manifest, and so does what is written of it
pub accepts_on : (store now : Store) → accepted_in now ≡ (repo_view now.repo).manifest → AcceptsMore now
accepts_on store now is = subst (KeepsNames (repo_view now.repo).manifest) (sym is) (names_here (repo_view now.repo).manifest)

-- ---- an archive is accepted

-- a store with an archive accepted fits
abbrev pub accepted_as : (counts : Bool) (store : Store) (accepted : Manifest) (h : History) → StoreFits counts store h
    → StoreFits counts (record store { accepted = accepted }) h
accepted_as counts store accepted h fits = record {
  written = fits.written;
  under_way = fits.under_way;
  settings = fits.settings;
  repo = fits.repo;
  below = fits.below;
  there = fits.there;
  holds = fits.holds;
  manifest = fits.manifest;
  keeps = fits.keeps;
  pending = fits.pending;
  chunks = fits.chunks;
  learnt = fits.learnt;
}

-- what stands from a store with an archive accepted stands from the store before
pub standing_accepted : (at : Border) (most : ℕ) (store middle : Store) (within : List Addition) (h g : History)
    → middle ≡ record store { accepted = middle.accepted } → KeepsStandingAt at most middle within h g → KeepsStandingAt at most store within h g
standing_accepted at most store middle within h g same standing =
    (subst (λ (s : Store). KeepsStandingAt at most s within h g → KeepsStandingAt at most store within h g) (sym same)
    (λ after. (
      after.0,
      λ counts fits.
          after.1 counts (accepted_as counts store middle.accepted h fits),
    ))) standing

pub growing_accepted : (earlier : List Addition) (accepted : ManifestText) (from : Origin) (chosen : List (List ℕ)) (store middle : Store)
    (within : List Addition) (h g : History) → middle ≡ record store { accepted = middle.accepted }
    → KeepsGrowingBy earlier accepted from chosen middle within h g → KeepsGrowingBy earlier accepted from chosen store within h g
growing_accepted earlier accepted from chosen store middle within h g same growing =
    (subst (λ (s : Store). KeepsGrowingBy earlier accepted from chosen s within h g → KeepsGrowingBy earlier accepted from chosen store within h g) (sym same)
    (λ after. (
      after.0,
      λ counts fits.
          after.1 counts (accepted_as counts store middle.accepted h fits),
    ))) growing

pub grows_accepted : (earlier : List Addition) (accepted : ManifestText) (from : Origin) (chosen : List (List ℕ)) (added : List Addition)
    (store middle now : Store) (h g : History) → middle ≡ record store { accepted = middle.accepted }
    → GrowsBy (job earlier accepted from chosen) added middle now h g → GrowsBy (job earlier accepted from chosen) added store now h g
grows_accepted earlier accepted from chosen added store middle now h g same grows =
    (subst (λ (s : Store). GrowsBy (job earlier accepted from chosen) added s now h g
    → GrowsBy (job earlier accepted from chosen) added store now h g) (sym same)
    (λ after counts fits.
    let end = after counts (accepted_as counts store middle.accepted h fits) in
    record {
      fits_now = end.fits_now;
      chunks = end.chunks;
      opening = end.opening;
      puts = end.puts;
      committed = end.committed;
      config = end.config;
      most = record { keys = end.most.keys; config = end.most.config; names = end.most.names };
      next = end.next;
      settled = end.settled;
      carried = end.carried;
      cut = end.cut;
      named = end.named;
      only = end.only;
    })) grows

-- one more archive, whose name no other has, keeps each name
pub names_next : (manifest accepted : ManifestText) (entry : ArchiveRef) (item_keys : List (List ℕ)) → archive_named entry.name accepted.archives ≡ None
    → KeepsNames manifest accepted → KeepsNames manifest (next_manifest accepted entry item_keys)
names_next manifest accepted entry item_keys none keeps name old is =
    with_named name accepted.archives entry ∙ by_name (bytes_eq entry.name name) refl where
      there : archive_named name accepted.archives ≡ Some old
      there = keeps name old is

      by_name : (b : Bool) → bytes_eq entry.name name ≡ b → (if b then Some entry else archive_named name accepted.archives) ≡ Some old
      by_name false e = there
      by_name true e =
          let same : entry.name ≡ name = (bytes_eq-Decides entry.name name).0 e in
          let both : None ≡ Some old = sym none ∙ (ap (λ (n : List ℕ). archive_named n accepted.archives) same ∙ there) in
          absurd (let no : ⊥ = cc in no)

-- it is accepted then, and each other archive was before
pub accepts_one : (store now : Store) (entry : ArchiveRef) (item_keys : List (List ℕ)) → (repo_view now.repo).manifest ≡ (repo_view store.repo).manifest
    → accepted_in now ≡ next_manifest (accepted_in store) entry item_keys → AcceptsMore store → AcceptsOne (accepted_in store) now entry
accepts_one store now entry item_keys manifest named accepts = record {
  keeps = subst (λ (m : ManifestText). KeepsNames m (accepted_in store)) (sym manifest) accepts;
  only = λ name other is.
      by_name name other (bytes_eq entry.name name) refl
      (sym (with_named name (accepted_in store).archives entry) ∙ (ap (λ (m : ManifestText). archive_named name m.archives) (sym named) ∙ is));
  there = ap (λ (m : ManifestText). archive_named entry.name m.archives) named
      ∙ (with_named entry.name (accepted_in store).archives entry
      ∙ ap (λ (b : Bool). cond b (Some entry) (archive_named entry.name (accepted_in store).archives))
      ((bytes_eq-Decides entry.name entry.name).1 refl));
} where
  by_name : (name : List ℕ) (other : ArchiveRef) (b : Bool) → bytes_eq entry.name name ≡ b
      → cond (bytes_eq entry.name name) (Some entry) (archive_named name (accepted_in store).archives) ≡ Some other
      → (archive_named name (accepted_in store).archives ≡ Some other) ⊎ IsAmong (entry.name ∷ []) name
  by_name name other true e found = inr (zero, ap Some ((bytes_eq-Decides entry.name name).0 e))
  by_name name other false e found =
      inl (sym (ap (λ (b : Bool). cond b (Some entry) (archive_named name (accepted_in store).archives)) e) ∙ found)

pub commit_fits : (E : History → History → Type 0) (store now : Store) (blob : List ℕ) (a b : Option Told) (n m : ℕ)
    → IfSome a (λ t. StoreFits false store t.history)
    → Did {T = Unit {0}} E (λ _. Commits store (PutEntry zero_id blob) now) a b n m (Ok tt) → IfSome b (λ t. StoreFits false now t.history)
commit_fits E store now blob a b n m fits p =
    known_end (λ h. StoreFits false now h) (λ h g. StoreFits false store h × (AllDone h g × Commits store (PutEntry zero_id blob) now h g)) a b p.ends
    (λ h g e. (e.1.1 false e.0).0)
    (known_then (λ h. StoreFits false store h) (λ h g. AllDone h g × Commits store (PutEntry zero_id blob) now h g) a b fits p.end)
