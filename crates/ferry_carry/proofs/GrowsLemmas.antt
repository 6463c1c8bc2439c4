-- Lemmas on what a target is as archives come, behind what was added before and one after another.
use Rattle.std.proofs.Common.{◌≡◌, ◌⊎◌, inl, inr, ℕ, Bool, List, [], ◌++◌, IsSome}
use Rattle.std.proofs.Common.{refl, sym, ◌∙◌, ap, subst}
use Rattle.std.specs.List.{AllByRecursion}
use Rattle.ferry_disk.specs.Act.{History}
use Rattle.ferry_disk.specs.Files.{Files}
use Rattle.ferry_mac.specs.declared.keys.Keys.{Keys}
use Rattle.ferry_manifest.specs.Manifest.Text.{ManifestText}
use Rattle.ferry_repo.specs.Archives.{archive_named}
use Rattle.ferry_repo.specs.Opening.{RepoState, repo_view}
use Rattle.ferry_segment.specs.Entry.{LogEntry}
use Rattle.ferry_stops.proofs.TellLemmas.{untold_then}
use Rattle.ferry_store.proofs.StepLemmas.{moments_then}
use Rattle.ferry_store.specs.Commit.{accepted_in}
use Rattle.ferry_store.specs.Standing.{committed_of, entries_of}
use Rattle.ferry_store.specs.State.{Written}
use Rattle.ferry_store.specs.Store.{StoreFits}
use Rattle.ferry_store.specs.declared.store.Store.{Store}
use Rattle.ferry_write.specs.Script.{AllDone}
use Rattle.ferry_carry.proofs.CarryLemmas.{all_carried, apart_parts}
use Rattle.ferry_carry.proofs.CutLemmas.{cut_none, cut_then}
use Rattle.ferry_carry.proofs.NextLemmas.{behind_still, behind_then}
use Rattle.ferry_piece.proofs.GatherLemmas.{gathers_at, opening_same, opening_then, stands_still}
use Rattle.ferry_piece.proofs.FrontLemmas.{front_at, with_moments}
use Rattle.ferry_piece.specs.Front.{HoldsFront, IsSoundWith}
use Rattle.ferry_piece.proofs.PutsLemmas.{Allows, adds_at, adds_here, adds_then, allows_settled, border_append}
use Rattle.ferry_piece.proofs.PutsLemmas.{front_of, goes_at}
use Rattle.ferry_piece.proofs.GoesLemmas.{goes_same, goes_then}
use Rattle.ferry_piece.proofs.PendingLemmas.{none_of}
use Rattle.ferry_piece.proofs.AmongLemmas.{all_both}
use Rattle.ferry_piece.specs.Gather.{BringsOpening, Gathers, GathersAt, KeepsRest}
use Rattle.ferry_carry.specs.Grow.{AcceptsMore, Grows, KeepsGrowing, KeepsMost, KeepsNames}
use Rattle.ferry_carry.specs.Grow.{StandsOn}
use Rattle.ferry_carry.specs.Carrying.{AreCut, IsCarried, Origin}
use Rattle.ferry_piece.specs.Puts.{Addition, AddsAll, AtBegin, Border, GoesOn, border_behind}
use Rattle.ferry_carry.proofs.GrowLemmas.{front_both, names_here, names_then, all_kept, chunks_then, keeps_chunks, growing_by, named_then, goes_both, on_then}
use Rattle.ferry_carry.proofs.GrowLemmas.{growing_longer}
use Rattle.ferry_carry.proofs.GrowLemmas.{carried_both}

-- ---- behind what was added before

-- nothing was added before, or nothing is pending behind it
abbrev pub Follows : List Addition → Store → Type 0
Follows added store = (added ≡ []) ⊎ (store.pending ≡ 0)

pub follows_allows : (added : List Addition) (counts : Bool) (store : Store) (h : History) (fits : StoreFits counts store h) → Follows added store
    → Allows AtBegin (border_behind AtBegin added) (entries_of fits.written)
unfolding border_behind
follows_allows added counts store h fits (inl none) =
    subst (λ (l : List Addition). Allows AtBegin (border_behind AtBegin l) (entries_of fits.written)) (sym none) (λ others may. may)
follows_allows added counts store h fits (inr settled) =
    allows_settled (border_behind AtBegin added) (entries_of fits.written) (none_of counts store h fits settled)

pub goes_on : (earlier : List Addition) (keys : Keys) (most : ℕ) (within : List Addition) (written : Written) (entries : List LogEntry)
    → Allows AtBegin (border_behind AtBegin earlier) (entries_of written) → GoesOn (border_behind AtBegin []) keys most within written entries
    → GoesOn (border_behind AtBegin earlier) keys most within written entries
unfolding border_behind
goes_on earlier keys most within written entries allows goes =
    goes_at AtBegin (border_behind AtBegin earlier) keys most within written entries allows goes

adds_on : (earlier : List Addition) (keys : Keys) (most : ℕ) (before : List LogEntry) (added : List Addition) (after : List LogEntry)
    → Allows AtBegin (border_behind AtBegin earlier) before → AddsAll (border_behind AtBegin []) keys most before added after
    → AddsAll (border_behind AtBegin earlier) keys most before added after
unfolding border_behind
adds_on earlier keys most before added after allows adds = adds_at AtBegin (border_behind AtBegin earlier) keys most before added after allows adds

-- archives that were carried with what was added are so where more was added before
pub carried_behind : (earlier : List Addition) (from : Origin) (added : List Addition) (base : List LogEntry) (keys : Keys) (entries : List LogEntry)
    (manifest : ManifestText) (names : List (List ℕ)) → AllByRecursion (IsCarried from added base keys entries manifest.archives) names
    → AllByRecursion (IsCarried from (earlier ++ added) base keys entries manifest.archives) names
carried_behind earlier from added base keys entries manifest names all =
    all_carried from keys added (earlier ++ added) base base entries entries manifest manifest names
    (λ scope apart. (apart_parts scope keys base earlier added apart).1) (λ id blob chunk live. live) (names_here manifest) all

-- what stands on from the begin stands on behind what was added, with the same names that are done
unfoldable pub stands_on_at : (earlier : List Addition) (from : Origin) (chosen : List (List ℕ)) (within : List Addition) (accepted : ManifestText)
    (repo : RepoState) (written : Written) (image : Files) → Allows AtBegin (border_behind AtBegin earlier) (entries_of written)
    → StandsOn [] from chosen within accepted repo written image → StandsOn earlier from chosen within accepted repo written image
stands_on_at earlier from chosen within accepted repo written image allows stands = record {
  entries = stands.entries;
  manifest = stands.manifest;
  shown = stands.shown;
  chunks = stands.chunks;
  opening = stands.opening;
  puts = goes_on earlier repo.keys from.most within written stands.entries allows stands.puts;
  holds = stands.holds;
  names = stands.names;
  config = stands.config;
  done = stands.done;
  rest = stands.rest;
  front = stands.front;
  next = stands.next;
  carried = carried_behind earlier from within (entries_of written) repo.keys stands.entries stands.manifest stands.done stands.carried;
  cut = stands.cut;
  only = stands.only;
}

-- and all that the segments have
pub front_on : (earlier : List Addition) (keys : Keys) (most : ℕ) (before : List LogEntry) (within : List Addition) (files : Files)
    → Allows AtBegin (border_behind AtBegin earlier) before → HoldsFront (border_behind AtBegin []) keys most before within files
    → HoldsFront (border_behind AtBegin earlier) keys most before within files
unfolding border_behind
front_on earlier keys most before within files allows read = front_at AtBegin (border_behind AtBegin earlier) keys most before within files allows read

-- what goes on so from the begin goes on behind what was added
pub growing_follows : (earlier : List Addition) (from : Origin) (chosen : List (List ℕ)) (store : Store) (within : List Addition) (h g : History)
    → Follows earlier store → KeepsGrowing [] from chosen store within h g → KeepsGrowing earlier from chosen store within h g
growing_follows earlier from chosen store within h g follows growing = (
  growing.0,
  λ counts fits.
      let accepted = accepted_in store in
      let repo = repo_view store.repo in
      let before = entries_of fits.written in
      let allows = follows_allows earlier counts store h fits follows in
      with_moments (StandsOn [] from chosen within accepted repo fits.written) (StandsOn earlier from chosen within accepted repo fits.written)
      (HoldsFront (border_behind AtBegin []) repo.keys from.most before within) (HoldsFront (border_behind AtBegin earlier) repo.keys from.most before within)
      counts h g
      (λ image stands. stands_on_at earlier from chosen within accepted repo fits.written image allows stands)
      (λ files read. front_on earlier repo.keys from.most before within files allows read) (growing.1 counts fits),
)

pub grows_follows : (earlier : List Addition) (from : Origin) (chosen : List (List ℕ)) (added : List Addition) (store now : Store) (h g : History)
    → Follows earlier store → Grows [] from chosen added store now h g → Grows earlier from chosen added store now h g
grows_follows earlier from chosen added store now h g follows grows counts fits =
    let end = grows counts fits in
    let keys = (repo_view store.repo).keys in
    let allows = follows_allows earlier counts store h fits follows in
    record {
      fits_now = end.fits_now;
      chunks = end.chunks;
      opening = end.opening;
      puts = adds_on earlier keys from.most (entries_of fits.written) added (entries_of end.fits_now.written) allows end.puts;
      committed = goes_on earlier keys from.most added fits.written (committed_of end.fits_now.written) allows end.committed;
      config = end.config;
      most = end.most;
      next = end.next;
      settled = end.settled;
      carried = carried_behind earlier from added (entries_of fits.written) (repo_view now.repo).keys (committed_of end.fits_now.written)
          (repo_view now.repo).manifest chosen end.carried;
      cut = end.cut;
      named = end.named;
      only = end.only;
    }

-- ---- one after another

pub most_from : (store now : Store) → KeepsRest store now → KeepsMost store now
most_from store now rest = record {
  keys = rest.keys;
  config = rest.config;
  names = subst (KeepsNames (repo_view store.repo).manifest) (sym rest.manifest) (names_here (repo_view store.repo).manifest);
}

pub most_here : (store : Store) → KeepsMost store store
most_here store = record { keys = refl; config = refl; names = names_here (repo_view store.repo).manifest }

pub most_then : (a b c : Store) → KeepsMost a b → KeepsMost b c → KeepsMost a c
most_then a b c p q = record {
  keys = q.keys ∙ p.keys;
  config = q.config ∙ p.config;
  names = names_then (repo_view a.repo).manifest (repo_view b.repo).manifest (repo_view c.repo).manifest p.names q.names;
}

pub grows_from : (earlier : List Addition) (from : Origin) (store now : Store) (added : List Addition) (h g : History) → KeepsRest store now
    → GathersAt (border_behind AtBegin earlier) from.most store added now h g → Grows earlier from [] added store now h g
grows_from earlier from store now added h g rest gathers counts fits =
    let end = gathers counts fits in
    record {
      fits_now = end.fits_now;
      chunks = keeps_chunks (committed_of fits.written) (committed_of end.fits_now.written) end.moved.committed;
      opening = end.moved.opening;
      puts = end.puts;
      committed = end.committed;
      config = end.moved.config;
      most = most_from store now rest;
      next = behind_still from (accepted_in store) (repo_view store.repo).manifest (repo_view now.repo).manifest rest.manifest;
      settled = λ same. rest.accepted ∙ (same ∙ sym rest.manifest);
      carried = tt;
      cut = cut_none (accepted_in store) from (repo_view now.repo).keys (repo_view now.repo).manifest.archives;
      named = tt;
      only = λ name entry is. inl (ap (λ (m : ManifestText). archive_named name m.archives) (sym rest.accepted) ∙ is);
    }

-- contents that were added within an archive are so behind whatever was
pub grows_within : (earlier : List Addition) (from : Origin) (store now : Store) (added : List Addition) (h g : History) → KeepsRest store now
    → Gathers from.most store added now h g → Grows earlier from [] added store now h g
grows_within earlier from store now added h g rest gathers =
    grows_from earlier from store now added h g rest (gathers_at (border_behind AtBegin earlier) from.most store added now h g gathers)

pub grows_here : (earlier : List Addition) (from : Origin) (store : Store) (h : History) → Grows earlier from [] [] store store h h
grows_here earlier from store h counts fits = record {
  fits_now = fits;
  chunks = λ id blob apart live. live;
  opening = opening_same (repo_view store.repo).keys (entries_of fits.written);
  puts = adds_here (border_behind AtBegin earlier) (repo_view store.repo).keys from.most (entries_of fits.written);
  committed = goes_same (border_behind AtBegin earlier) (repo_view store.repo).keys from.most [] fits.written;
  config = refl;
  most = most_here store;
  next = behind_still from (accepted_in store) (repo_view store.repo).manifest (repo_view store.repo).manifest refl;
  settled = λ same. same;
  carried = tt;
  cut = cut_none (accepted_in store) from (repo_view store.repo).keys (repo_view store.repo).manifest.archives;
  named = tt;
  only = λ name entry is. inl is;
}

pub grows_then : (earlier : List Addition) (from : Origin) (some more : List (List ℕ)) (added others : List Addition) (store middle now : Store)
    (h g i : History) → Grows earlier from some added store middle h g → Grows (earlier ++ added) from more others middle now g i
    → Grows earlier from (some ++ more) (added ++ others) store now h i
grows_then earlier from some more added others store middle now h g i p q counts fits =
    let first = p counts fits in
    let second = q counts first.fits_now in
    let at = border_behind AtBegin earlier in
    let behind = border_behind at added in
    let before = (repo_view store.repo).keys in
    let keys = (repo_view now.repo).keys in
    let archives = (repo_view now.repo).manifest.archives in
    let committed = committed_of second.fits_now.written in
    let written = entries_of fits.written in
    let between = entries_of first.fits_now.written in
    record {
      fits_now = second.fits_now;
      chunks = chunks_then (committed_of fits.written) (committed_of first.fits_now.written) committed first.chunks second.chunks;
      opening = opening_then before written between (entries_of second.fits_now.written) first.opening
          (subst (λ (k : Keys). BringsOpening k between (entries_of second.fits_now.written)) first.most.keys second.opening);
      puts = adds_then at before from.most written between (entries_of second.fits_now.written) added others first.puts
          (subst (λ (k : Keys). AddsAll behind k from.most between others (entries_of second.fits_now.written)) first.most.keys
          (subst (λ (b : Border). AddsAll b (repo_view middle.repo).keys from.most between others (entries_of second.fits_now.written))
          (border_append AtBegin earlier added) second.puts));
      committed = goes_then at before from.most fits.written first.fits_now.written committed added others first.puts first.committed
          (goes_both earlier added before from.most others first.fits_now.written committed
          (subst (λ (k : Keys). GoesOn (border_behind AtBegin (earlier ++ added)) k from.most others first.fits_now.written committed) first.most.keys
          second.committed));
      config = second.config ∙ first.config;
      most = most_then store middle now first.most second.most;
      next = behind_then from (accepted_in store) (repo_view store.repo).manifest (accepted_in middle) (repo_view middle.repo).manifest
          (repo_view now.repo).manifest some more first.next first.settled second.next;
      settled = λ same. second.settled (first.settled same);
      carried = carried_both earlier from some more added others keys at written between (committed_of first.fits_now.written) committed
          (repo_view middle.repo).manifest (repo_view now.repo).manifest
          (subst (λ (k : Keys). AddsAll at k from.most written added between) (sym (second.most.keys ∙ first.most.keys)) first.puts) second.chunks
          second.most.names
          (subst (λ (k : Keys). AllByRecursion (IsCarried from (earlier ++ added) written k (committed_of first.fits_now.written)
          (repo_view middle.repo).manifest.archives) some) (sym second.most.keys) first.carried) second.carried;
      cut = cut_then (accepted_in store) (accepted_in middle) from keys (repo_view middle.repo).manifest (repo_view now.repo).manifest some more first.only
          second.most.names
          (subst (λ (k : Keys). AreCut (accepted_in store) from k (repo_view middle.repo).manifest.archives some) (sym second.most.keys) first.cut)
          second.cut;
      named = all_both (λ (name : List ℕ). IsSome (archive_named name archives)) some more
          (all_kept (repo_view middle.repo).manifest (repo_view now.repo).manifest some second.most.names first.named) second.named;
      only = named_then (accepted_in store) (accepted_in middle) (accepted_in now) some more first.only second.only;
    }

pub growing_then : (earlier : List Addition) (from : Origin) (some more : List (List ℕ)) (added others : List Addition) (store middle : Store)
    (h g i : History) → KeepsGrowing earlier from (some ++ more) store added h g → AllDone h g → Grows earlier from some added store middle h g
    → KeepsGrowing (earlier ++ added) from more middle others g i → KeepsGrowing earlier from (some ++ more) store (added ++ others) h i
growing_then earlier from some more added others store middle h g i before done grows after = (
  untold_then h g i before.0 after.0,
  λ counts fits.
      let first = grows counts fits in
      let repo = repo_view store.repo in
      let next = repo_view middle.repo in
      let all = added ++ others in
      let at = border_behind AtBegin earlier in
      let start = entries_of fits.written in
      let between = entries_of first.fits_now.written in
      moments_then (IsSoundWith (StandsOn earlier from (some ++ more) all (accepted_in store) repo fits.written) (HoldsFront at repo.keys from.most start all)
      counts) h g i
      ((growing_longer earlier from (some ++ more) store added all h g (front_of added others) before).1 counts fits) done
      (with_moments (StandsOn (earlier ++ added) from more others (accepted_in middle) next first.fits_now.written)
      (StandsOn earlier from (some ++ more) all (accepted_in store) repo fits.written)
      (HoldsFront (border_behind AtBegin (earlier ++ added)) next.keys from.most between others) (HoldsFront at repo.keys from.most start all) counts g i
      (λ image stands. on_then earlier from some more added others (accepted_in store) (accepted_in middle) repo next fits.written first.fits_now.written
      image
      first.most.keys first.most.names first.chunks first.opening first.puts first.committed first.config first.carried first.cut first.only first.settled
      first.next
      stands)
      (λ files read. front_both earlier added repo.keys next.keys from.most others start between files first.most.keys first.puts read)
      (after.1 counts first.fits_now)),
)

pub growing_here : (earlier : List Addition) (from : Origin) (chosen : List (List ℕ)) (store : Store) (within : List Addition) (h : History)
    → AcceptsMore store → KeepsGrowing earlier from chosen store within h h
growing_here earlier from chosen store within h accepts =
    growing_by earlier from chosen (accepted_in store) store within h h accepts (stands_still (border_behind AtBegin earlier) from.most store within h)
