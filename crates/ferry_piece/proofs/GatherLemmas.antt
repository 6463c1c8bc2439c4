-- A store with contents added, one after another.
use Rattle.std.proofs.Common.{◌≡◌, ◌≢◌, ◌⊎◌, inl, inr, ℕ, Bool, List, [], ◌∷◌, ◌++◌, Option, Some}
use Rattle.std.proofs.Common.{unwrap_or, refl, sym, ◌∙◌, ap, subst}
use Rattle.std.specs.List.{AllByRecursion}
use Rattle.ferry_blob.specs.Blob.{OpensTo, content_id}
use Rattle.ferry_disk.specs.Act.{History, files_now}
use Rattle.ferry_disk.specs.Files.{Files}
use Rattle.ferry_disk.specs.Moments.{Moments}
use Rattle.ferry_mac.specs.declared.keys.Keys.{Keys}
use Rattle.ferry_repo.specs.Objects.{HoldsChunk}
use Rattle.ferry_repo.specs.Opening.{repo_view}
use Rattle.ferry_segment.specs.Entry.{LogEntry, PutEntry}
use Rattle.ferry_stops.proofs.TellLemmas.{untold_then}
use Rattle.ferry_stops.specs.Entries.{Shows}
use Rattle.ferry_store.proofs.LiveLemmas.{keeps_same, keeps_then, live_other, live_put, same_or}
use Rattle.ferry_store.proofs.PutLemmas.{keeps_here}
use Rattle.ferry_store.proofs.StepLemmas.{moments_here, moments_map, moments_then}
use Rattle.ferry_store.specs.Standing.{Keeps, committed_of, entries_of, live_in}
use Rattle.ferry_store.specs.State.{IsSound, ShowsStanding, Written}
use Rattle.ferry_store.specs.Store.{StoreFits}
use Rattle.ferry_store.specs.declared.store.Store.{Store}
use Rattle.ferry_write.specs.Script.{AllDone}
use Rattle.ferry_piece.proofs.PutsLemmas.{Allows, adds_at, adds_here, adds_then, allows_within, contents_append}
use Rattle.ferry_piece.proofs.PutsLemmas.{front_of, goes_at}
use Rattle.ferry_piece.proofs.GoesLemmas.{goes_same, goes_then, goes_wider}
use Rattle.ferry_piece.proofs.FrontLemmas.{front_at, front_still, front_then, front_wider, with_moments, with_read}
use Rattle.ferry_piece.proofs.AmongLemmas.{all_both, all_front, each_to}
use Rattle.ferry_piece.specs.Front.{HoldsFront, IsSoundWith}
use Rattle.ferry_piece.specs.Gather.{BringsOpening, Gathered, Gathers, GathersAt, HoldsContents, IsAmong, KeepsRest, KeepsStanding}
use Rattle.ferry_piece.specs.Gather.{KeepsStandingAt, Moved, NoCollision, StandsFrom}
use Rattle.ferry_piece.specs.Puts.{Addition, AddsAll, Border, GoesOn, IsFront}
use Rattle.ferry_piece.specs.Puts.{Within, border_behind, contents_in}

-- ---- what opens

-- what keeps to the entries before brings nothing
pub opening_kept : (keys : Keys) (before after : List LogEntry) → Keeps after before → BringsOpening keys before after
opening_kept keys before after keeps id blob apart live = inl (keeps id blob live)

pub opening_same : (keys : Keys) (entries : List LogEntry) → BringsOpening keys entries entries
opening_same keys entries = opening_kept keys entries entries (keeps_same entries)

pub opening_then : (keys : Keys) (a b c : List LogEntry) → BringsOpening keys a b → BringsOpening keys b c → BringsOpening keys a c
opening_then keys a b c first second id blob apart live = by (second id blob apart live) where
  by : (live_in id b ≡ Some blob) ⊎ ((content : List ℕ) × OpensTo keys id blob content)
      → (live_in id a ≡ Some blob) ⊎ ((content : List ℕ) × OpensTo keys id blob content)
  by (inl was) = first id blob apart was
  by (inr opens) = inr opens

-- a blob that is put opens, and each other one is what it was
pub opening_put : (keys : Keys) (id blob content : List ℕ) (entries : List LogEntry) → OpensTo keys id blob content
    → BringsOpening keys entries (entries ++ PutEntry id blob ∷ [])
opening_put keys id blob content entries opens other found apart live = by_id (same_or id other) where
  by_id : (other ≡ id) ⊎ (other ≢ id) → (live_in other entries ≡ Some found) ⊎ ((text : List ℕ) × OpensTo keys other found text)
  by_id (inl is) =
      let both : Some blob ≡ Some found =
      sym (live_put id blob entries) ∙ (ap (λ (i : List ℕ). live_in i (entries ++ PutEntry id blob ∷ [])) (sym is) ∙ live) in
      let same : blob ≡ found = cc in
      inr (content, subst (λ (i : List ℕ). OpensTo keys i found content) (sym is) (subst (λ (b : List ℕ). OpensTo keys id b content) same opens))
  by_id (inr differ) = inl (sym (live_other id blob other entries differ) ∙ live)

-- ---- what stands

-- each stop shows something that is committed
committed_some : (counts : Bool) (store : Store) (h : History) (fits : StoreFits counts store h) → fits.written.committed ≡ Some (committed_of fits.written)
committed_some counts store h fits = fits.manifest.is ∙ ap Some (sym (ap (λ (c : Option (List LogEntry)). unwrap_or c []) fits.manifest.is))

pub standing_from : (at : Border) (most : ℕ) (within : List Addition) (counts : Bool) (store : Store) (h : History) (fits : StoreFits counts store h)
    (image : Files) → ShowsStanding fits.written image → StandsFrom at (repo_view store.repo).keys most within fits.written image
standing_from at most within counts store h fits image shown = record {
  entries = committed_of fits.written;
  shown = subst (Shows image) (committed_some counts store h fits) shown.0;
  keeps = keeps_same (committed_of fits.written);
  opening = opening_kept (repo_view store.repo).keys (entries_of fits.written) (committed_of fits.written) fits.keeps;
  puts = goes_same at (repo_view store.repo).keys most within fits.written;
  config = shown.1;
}

-- what stands with some that may be added stands with more
pub stands_wider : (at : Border) (keys : Keys) (most : ℕ) (some all : List Addition) (written : Written) (image : Files) → IsFront some all
    → StandsFrom at keys most some written image → StandsFrom at keys most all written image
stands_wider at keys most some all written image front stands = record {
  entries = stands.entries;
  shown = stands.shown;
  keeps = stands.keeps;
  opening = stands.opening;
  puts = goes_wider at keys most some all written stands.entries front stands.puts;
  config = stands.config;
}

-- what stands at one border stands at another where what may come at the one may come at the other
pub stands_at : (at other : Border) (keys : Keys) (most : ℕ) (within : List Addition) (written : Written) (image : Files)
    → Allows at other (entries_of written) → StandsFrom at keys most within written image → StandsFrom other keys most within written image
stands_at at other keys most within written image allows stands = record {
  entries = stands.entries;
  shown = stands.shown;
  keeps = stands.keeps;
  opening = stands.opening;
  puts = goes_at at other keys most within written stands.entries allows stands.puts;
  config = stands.config;
}

-- what stands from later on stands from before
pub stands_then : (at : Border) (keys : Keys) (most : ℕ) (written next : Written) (added more : List Addition) (image : Files) → Moved keys written next
    → AddsAll at keys most (entries_of written) added (entries_of next) → GoesOn at keys most added written (committed_of next)
    → StandsFrom (border_behind at added) keys most more next image → StandsFrom at keys most (added ++ more) written image
stands_then at keys most written next added more image moved adds goes stands = record {
  entries = stands.entries;
  shown = stands.shown;
  keeps = keeps_then (committed_of written) (committed_of next) stands.entries moved.committed stands.keeps;
  opening = opening_then keys (entries_of written) (entries_of next) stands.entries moved.opening stands.opening;
  puts = goes_then at keys most written next stands.entries added more adds goes stands.puts;
  config = stands.config ∙ moved.config;
}

pub moved_here : (keys : Keys) (written : Written) → Moved keys written written
moved_here keys written = record {
  committed = keeps_same (committed_of written);
  entries = keeps_same (entries_of written);
  opening = opening_same keys (entries_of written);
  config = refl;
}

pub moved_then : (keys : Keys) (a b c : Written) → Moved keys a b → Moved keys b c → Moved keys a c
moved_then keys a b c p q = record {
  committed = keeps_then (committed_of a) (committed_of b) (committed_of c) p.committed q.committed;
  entries = keeps_then (entries_of a) (entries_of b) (entries_of c) p.entries q.entries;
  opening = opening_then keys (entries_of a) (entries_of b) (entries_of c) p.opening q.opening;
  config = q.config ∙ p.config;
}

-- a moment under other words
pub sound_map : (P Q : Files → Type 0) (counts : Bool) (h : History) → ((image : Files) → P image → Q image) → IsSound P counts h → IsSound Q counts h
sound_map P Q counts h step s = record {
  shows = λ image left. step image (s.shows image left);
  traced = s.traced;
  numbers = s.numbers;
  types = s.types;
  fresh = s.fresh;
}

pub sound_moments : (P Q : Files → Type 0) (counts : Bool) (h g : History) → ((image : Files) → P image → Q image) → Moments (IsSound P counts) h g
    → Moments (IsSound Q counts) h g
sound_moments P Q counts h g step m = moments_map (IsSound P counts) (IsSound Q counts) h g (λ k s. sound_map P Q counts k step s) m

-- ---- chunks

-- a chunk is there as long as what is live stays
pub chunk_on : (counts : Bool) (store now : Store) (h g : History) (fits : StoreFits counts store h) (fits_now : StoreFits counts now g)
    → Keeps (entries_of fits.written) (entries_of fits_now.written) → (repo_view now.repo).keys ≡ (repo_view store.repo).keys → (id content : List ℕ)
    → HoldsChunk (files_now h) (repo_view store.repo).log (repo_view store.repo).keys id content
    → HoldsChunk (files_now g) (repo_view now.repo).log (repo_view now.repo).keys id content
chunk_on counts store now h g fits fits_now keeps keys id content chunk =
    let object = chunk.object in
    let live = keeps id object.blob ((fits.holds id object.blob chunk.chunk).0 object.has) in
    record {
      chunk = chunk.chunk;
      object = record {
        blob = object.blob;
        has = (fits_now.holds id object.blob chunk.chunk).1 live;
        opens = subst (λ (k : Keys). OpensTo k id object.blob content) (sym keys) object.opens;
      };
    }

-- ---- one after another

-- where nothing is done
pub gathered_here : (at : Border) (most : ℕ) (store : Store) (h : History) → GathersAt at most store [] store h h
gathered_here at most store h counts fits = record {
  fits_now = fits;
  moved = moved_here (repo_view store.repo).keys fits.written;
  puts = adds_here at (repo_view store.repo).keys most (entries_of fits.written);
  committed = goes_same at (repo_view store.repo).keys most [] fits.written;
  brings = λ scope apart all within. (within, tt);
}

-- the same within an archive
pub gathers_here : (most : ℕ) (store : Store) (h : History) → Gathers most store [] store h h
gathers_here most store h = gathered_here Within most store h

-- the same at another border, where what may come at the one may come at the other
pub gathered_at : (at other : Border) (most : ℕ) (counts : Bool) (store : Store) (added : List Addition) (store_now : Store) (before now : History)
    (fits : StoreFits counts store before) → Allows at other (entries_of fits.written)
    → Gathered at most counts store added store_now before now fits → Gathered other most counts store added store_now before now fits
gathered_at at other most counts store added store_now before now fits allows p =
    let keys = (repo_view store.repo).keys in
    record {
      fits_now = p.fits_now;
      moved = p.moved;
      puts = adds_at at other keys most (entries_of fits.written) added (entries_of p.fits_now.written) allows p.puts;
      committed = goes_at at other keys most added fits.written (committed_of p.fits_now.written) allows p.committed;
      brings = p.brings;
    }

-- what was added within an archive was added at each border
pub gathers_at : (at : Border) (most : ℕ) (store : Store) (added : List Addition) (store_now : Store) (before now : History)
    → Gathers most store added store_now before now → GathersAt at most store added store_now before now
gathers_at at most store added store_now before now p counts fits =
    gathered_at Within at most counts store added store_now before now fits (allows_within at (entries_of fits.written)) (p counts fits)

-- contents behind contents, from border to border
pub gathers_behind : (at : Border) (most : ℕ) (store middle now : Store) (some more : List Addition) → KeepsRest store middle → KeepsRest middle now
    → (h g i : History) → GathersAt at most store some middle h g → GathersAt (border_behind at some) most middle more now g i
    → GathersAt at most store (some ++ more) now h i
gathers_behind at most store middle now some more rest rest_now h g i p q counts fits =
    let first = p counts fits in
    let second = q counts first.fits_now in
    let keys = (repo_view store.repo).keys in
    let behind = border_behind at some in
    record {
      fits_now = second.fits_now;
      moved = moved_then (repo_view store.repo).keys fits.written first.fits_now.written second.fits_now.written first.moved
          (subst (λ (k : Keys). Moved k first.fits_now.written second.fits_now.written) rest.keys second.moved);
      puts = adds_then at keys most (entries_of fits.written) (entries_of first.fits_now.written) (entries_of second.fits_now.written) some more first.puts
          (subst (λ (k : Keys). AddsAll behind k most (entries_of first.fits_now.written) more (entries_of second.fits_now.written)) rest.keys second.puts);
      committed = goes_then at keys most fits.written first.fits_now.written (committed_of second.fits_now.written) some more first.puts first.committed
          (subst (λ (k : Keys). GoesOn behind k most more first.fits_now.written (committed_of second.fits_now.written)) rest.keys second.committed);
      brings = λ scope apart all within.
          let parts = all_front (IsAmong scope) (contents_in some) (contents_in more)
          (subst (AllByRecursion (IsAmong scope)) (contents_append some more) all) in
          let one = first.brings scope apart parts.0 within in
          let apart_then = subst (λ (k : Keys). NoCollision k scope) (sym rest.keys) apart in
          let two = second.brings scope apart_then parts.1 one.0 in (
            two.0,
            subst (HoldsContents (files_now i) (repo_view now.repo)) (sym (contents_append some more))
                (all_both _ (contents_in some) (contents_in more) (kept counts first.fits_now second.fits_now second.moved.entries one.1) two.1),
          );
    } where
      kept : (counts : Bool) (fits : StoreFits counts middle g) (fits_now : StoreFits counts now i)
          → Keeps (entries_of fits.written) (entries_of fits_now.written)
          → HoldsContents (files_now g) (repo_view middle.repo) (contents_in some) → HoldsContents (files_now i) (repo_view now.repo) (contents_in some)
      kept counts fits fits_now keeps all =
          each_to _ _ (contents_in some) (λ content chunk.
          subst (λ (k : Keys). HoldsChunk (files_now i) (repo_view now.repo).log (repo_view now.repo).keys (content_id k content) content) (sym rest_now.keys)
          (chunk_on counts middle now g i fits fits_now keeps rest_now.keys (content_id (repo_view middle.repo).keys content) content chunk)) all

-- contents behind contents within an archive, whichever the first are: nothing comes before the second
pub gathers_then : (most : ℕ) (store middle now : Store) (some more : List Addition) → KeepsRest store middle → KeepsRest middle now → (h g i : History)
    → Gathers most store some middle h g → Gathers most middle more now g i → Gathers most store (some ++ more) now h i
gathers_then most store middle now some more rest rest_now h g i p q =
    gathers_behind Within most store middle now some more rest rest_now h g i p (gathers_at (border_behind Within some) most middle more now g i q)

-- with more that may be added
pub keeps_wider : (at : Border) (most : ℕ) (store : Store) (some all : List Addition) (h g : History) → IsFront some all
    → KeepsStandingAt at most store some h g → KeepsStandingAt at most store all h g
keeps_wider at most store some all h g front keeps = (
  keeps.0,
  λ counts fits.
      let keys = (repo_view store.repo).keys in
      let before = entries_of fits.written in
      with_moments (StandsFrom at keys most some fits.written) (StandsFrom at keys most all fits.written) (HoldsFront at keys most before some)
      (HoldsFront at keys most before all) counts h g
      (λ image stands. stands_wider at keys most some all fits.written image front stands)
      (λ files read. front_wider at keys most before some all files front read) (keeps.1 counts fits),
)

-- the same within an archive
pub standing_wider : (most : ℕ) (store : Store) (some all : List Addition) (h g : History) → IsFront some all → KeepsStanding most store some h g
    → KeepsStanding most store all h g
standing_wider most store some all h g front keeps = keeps_wider Within most store some all h g front keeps

-- what keeps standing within an archive keeps standing at each border
pub keeps_at : (at : Border) (most : ℕ) (store : Store) (within : List Addition) (h g : History) → KeepsStanding most store within h g
    → KeepsStandingAt at most store within h g
keeps_at at most store within h g keeps = (
  keeps.0,
  λ counts fits.
      let keys = (repo_view store.repo).keys in
      let before = entries_of fits.written in
      let allows = allows_within at before in
      with_moments (StandsFrom Within keys most within fits.written) (StandsFrom at keys most within fits.written) (HoldsFront Within keys most before within)
      (HoldsFront at keys most before within) counts h g
      (λ image stands. stands_at Within at keys most within fits.written image allows stands)
      (λ files read. front_at Within at keys most before within files allows read) (keeps.1 counts fits),
)

-- a body behind contents that were added, from border to border
pub each_behind : (at : Border) (most : ℕ) (store middle : Store) (added more : List Addition) (h g i : History)
    → (repo_view middle.repo).keys ≡ (repo_view store.repo).keys → KeepsStandingAt at most store added h g → AllDone h g
    → GathersAt at most store added middle h g → KeepsStandingAt (border_behind at added) most middle more g i
    → KeepsStandingAt at most store (added ++ more) h i
each_behind at most store middle added more h g i same before done gathers after = (
  untold_then h g i before.0 after.0,
  λ counts fits.
      let first = gathers counts fits in
      let keys = (repo_view store.repo).keys in
      let behind = border_behind at added in
      let next = first.fits_now.written in
      let from = entries_of fits.written in
      let middle_from = entries_of next in
      moments_then (IsSoundWith (StandsFrom at keys most (added ++ more) fits.written) (HoldsFront at keys most from (added ++ more)) counts) h g i
      ((keeps_wider at most store added (added ++ more) h g (front_of added more) before).1 counts fits) done
      (with_moments (StandsFrom behind (repo_view middle.repo).keys most more next) (StandsFrom at keys most (added ++ more) fits.written)
      (HoldsFront behind (repo_view middle.repo).keys most middle_from more) (HoldsFront at keys most from (added ++ more)) counts g i
      (λ image stands.
      stands_then at keys most fits.written next added more image first.moved first.puts first.committed
      (subst (λ (k : Keys). StandsFrom behind k most more next image) same stands))
      (λ files read.
      front_then at keys most from middle_from added more files first.puts (subst (λ (k : Keys). HoldsFront behind k most middle_from more files) same read))
      (after.1 counts first.fits_now)),
)

-- a body within an archive behind contents that were added
pub each_then : (most : ℕ) (store middle : Store) (added more : List Addition) (h g i : History)
    → (repo_view middle.repo).keys ≡ (repo_view store.repo).keys → KeepsStanding most store added h g → AllDone h g → Gathers most store added middle h g
    → KeepsStanding most middle more g i → KeepsStanding most store (added ++ more) h i
each_then most store middle added more h g i same before done gathers after =
    each_behind Within most store middle added more h g i same before done gathers (keeps_at (border_behind Within added) most middle more g i after)

-- what stands is what a sound moment shows, with what is read of it
pub stood_with : (at : Border) (most : ℕ) (within : List Addition) (counts : Bool) (store : Store) (h g : History) (fits : StoreFits counts store h)
    → Moments (IsSound (ShowsStanding fits.written) counts) h g
    → Moments (λ k. HoldsFront at (repo_view store.repo).keys most (entries_of fits.written) within (files_now k)) h g
    → Moments (IsSoundWith (StandsFrom at (repo_view store.repo).keys most within fits.written)
    (HoldsFront at (repo_view store.repo).keys most (entries_of fits.written) within) counts) h g
stood_with at most within counts store h g fits sound read =
    let Read : Files → Type 0 = HoldsFront at (repo_view store.repo).keys most (entries_of fits.written) within in
    with_moments (ShowsStanding fits.written) (StandsFrom at (repo_view store.repo).keys most within fits.written) Read Read counts h g
    (λ image shown. standing_from at most within counts store h fits image shown) (λ files has. has)
    (with_read (ShowsStanding fits.written) Read counts h g sound read)

-- where nothing is done
pub stands_still : (at : Border) (most : ℕ) (store : Store) (within : List Addition) (h : History) → KeepsStandingAt at most store within h h
stands_still at most store within h = (
  refl,
  λ counts fits.
      stood_with at most within counts store h h fits (keeps_here store.session store.counter h counts fits.written fits.under_way)
      (moments_here (λ k. HoldsFront at (repo_view store.repo).keys most (entries_of fits.written) within (files_now k)) h
      (front_still at most counts store h fits within)),
)

-- the same within an archive
pub stands_here : (most : ℕ) (store : Store) (within : List Addition) (h : History) → KeepsStanding most store within h h
stands_here most store within h = stands_still Within most store within h

pub rest_here : (store : Store) → KeepsRest store store
rest_here store = record { keys = refl; config = refl; manifest = refl; accepted = refl }

pub rest_then : (a b c : Store) → KeepsRest a b → KeepsRest b c → KeepsRest a c
rest_then a b c p q = record { keys = q.keys ∙ p.keys; config = q.config ∙ p.config; manifest = q.manifest ∙ p.manifest; accepted = q.accepted ∙ p.accepted }
