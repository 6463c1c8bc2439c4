-- A commit of what is pending: at the begin, and before a piece.
use Rattle.std.proofs.Common.{◌≡◌, ◌≢◌, ◌⊎◌, inl, inr, ℕ, Bool, true, false, List, [], ◌∷◌, Option}
use Rattle.std.proofs.Common.{Ok, IfSome, refl, sym, ◌∙◌, ap, subst}
use Rattle.std.proofs.lemmas.List.{append-nil}
use Rattle.ferry_disk.specs.Act.{History, files_now}
use Rattle.ferry_disk.specs.Files.{Files}
use Rattle.ferry_disk.specs.Device.{Told}
use Rattle.ferry_mac.specs.declared.keys.Keys.{Keys}
use Rattle.ferry_repo.specs.Opening.{RepoState, repo_view}
use Rattle.ferry_repo.specs.declared.repo.Repo.{Repo}
use Rattle.ferry_segment.specs.Entry.{CommitEntry}
use Rattle.ferry_stops.proofs.TellLemmas.{untold_then}
use Rattle.ferry_store.proofs.LiveLemmas.{keeps_commit, keeps_then, live_commit}
use Rattle.ferry_store.proofs.StandingLemmas.{live_committed, missing_unlive}
use Rattle.ferry_store.proofs.StepLemmas.{known_end, known_then, moments_then}
use Rattle.ferry_store.proofs.UseLemmas.{fits_added}
use Rattle.ferry_store.specs.Adding.{Adds, Checkpoints, id_under}
use Rattle.ferry_store.specs.Content.{IsNew}
use Rattle.ferry_store.specs.Standing.{Keeps, committed_of, entries_committed, entries_of, live_in}
use Rattle.ferry_store.specs.State.{CommitsSound, Did, KeepsSound, ShowsEither, Written, all_committed}
use Rattle.ferry_store.specs.Store.{StoreFits}
use Rattle.ferry_store.specs.declared.content.Added.{Added}
use Rattle.ferry_store.specs.declared.store.Store.{Store}
use Rattle.ferry_write.specs.Script.{AllDone}
use Rattle.ferry_piece.proofs.PutsLemmas.{adds_commit}
use Rattle.ferry_piece.proofs.GoesLemmas.{adds_room}
use Rattle.ferry_piece.proofs.PendingLemmas.{full_of}
use Rattle.ferry_piece.proofs.GoesLemmas.{goes_behind, goes_commit}
use Rattle.ferry_piece.proofs.GoesLemmas.{first_commit, first_next}
use Rattle.ferry_piece.proofs.PendingLemmas.{some_of}
use Rattle.ferry_piece.proofs.FrontLemmas.{each_way, front_room, with_moments, with_read}
use Rattle.ferry_piece.specs.Front.{CommitsPieces, HoldsFront, IsSoundWith}
use Rattle.ferry_piece.specs.Gather.{Brings, Gathers, GathersAt, KeepsRest, KeepsStanding}
use Rattle.ferry_piece.specs.Gather.{KeepsStandingAt, MakesRoom, Moved, NoCollision, StandsFrom}
use Rattle.ferry_piece.specs.Puts.{Addition, AddsAll, AddsFirst, AtBegin, Border, ComesBefore, GoesOn, IsCheckpoint, IsFull}
use Rattle.ferry_piece.specs.Puts.{Within, is_piece}
use Rattle.ferry_piece.proofs.GatherLemmas.{chunk_on, moved_here, moved_then, opening_kept, opening_then, standing_from}
use Rattle.ferry_piece.proofs.AddedLemmas.{rest_by, unlive_new}

-- ---- a checkpoint

pub checkpoint_rest : (store now : Store) → now.repo ≡ store.repo → now.accepted ≡ store.accepted → KeepsRest store now
checkpoint_rest store now repo accepted =
    let view : repo_view now.repo ≡ repo_view store.repo = ap repo_view repo in
    rest_by store now (ap (λ (r : RepoState). r.keys) view) (ap (λ (r : RepoState). r.config) view) (ap (λ (r : RepoState). r.manifest) view) accepted

-- what is live behind a commit is what was live before it
commit_live : (written now : Written) → now ≡ all_committed written → (id : List ℕ) → live_in id (entries_of now) ≡ live_in id (entries_of written)
commit_live written now is id = ap (λ (x : Written). live_in id (entries_of x)) is ∙ live_committed written id

commit_entries : (written now : Written) → now ≡ all_committed written → entries_of now ≡ entries_committed written
commit_entries written now is = ap entries_of is ∙ append-nil (entries_committed written)

commit_moved : (counts : Bool) (store : Store) (h : History) (fits : StoreFits counts store h) (now : Written) → now ≡ all_committed fits.written
    → Moved (repo_view store.repo).keys fits.written now
commit_moved counts store h fits now is =
    let w = fits.written in
    record {
      committed = subst (λ (x : Written). Keeps (committed_of w) (committed_of x)) (sym is)
          (keeps_then (committed_of w) (entries_of w) (entries_committed w) fits.keeps (keeps_commit (entries_of w)));
      entries = λ id blob there. commit_live w now is id ∙ there;
      opening = opening_kept (repo_view store.repo).keys (entries_of w) (entries_of now) (λ id blob there. sym (commit_live w now is id) ∙ there);
      config = ap (λ (x : Written). x.config) is;
    }

commit_brings : (counts : Bool) (store now : Store) (h g : History) (fits : StoreFits counts store h) (fits_now : StoreFits counts now g)
    → now.repo ≡ store.repo → fits_now.written ≡ all_committed fits.written → Brings (repo_view store.repo) [] (repo_view now.repo) h g
commit_brings counts store now h g fits fits_now repo is scope apart all within =
    let keys : (repo_view now.repo).keys ≡ (repo_view store.repo).keys = ap (λ (r : Repo). (repo_view r).keys) repo in (
      λ id found holds. within id found
          (chunk_on counts now store g h fits_now fits (λ other blob there. sym (commit_live fits.written fits_now.written is other) ∙ there) (sym keys)
          id found holds),
      tt,
    )

-- at the begin what is pending is committed
pub checkpoint_gathers : (most : ℕ) (store now : Store) (h g : History) → now.repo ≡ store.repo → store.pending ≢ 0 → Checkpoints store now h g
    → GathersAt AtBegin most store [] now h g
checkpoint_gathers most store now h g repo some takes counts fits =
    let end = takes counts fits in
    let w = fits.written in
    let keys = (repo_view store.repo).keys in
    let pending = some_of counts store h fits some in
    record {
      fits_now = end.0;
      moved = commit_moved counts store h fits end.0.written end.1;
      puts = subst (AddsAll AtBegin keys most (entries_of w) []) (sym (commit_entries w end.0.written end.1)) (adds_commit keys most (entries_of w) pending);
      committed = subst (λ (x : Written). GoesOn AtBegin keys most [] w (committed_of x)) (sym end.1) (goes_commit keys most [] w pending);
      brings = commit_brings counts store now h g fits end.0 repo end.1;
    }

either_from : (at : Border) (most : ℕ) (within : List Addition) (counts : Bool) (store : Store) (h : History) (fits : StoreFits counts store h)
    (image : Files) → GoesOn at (repo_view store.repo).keys most within fits.written (entries_committed fits.written) → ShowsEither fits.written image
    → StandsFrom at (repo_view store.repo).keys most within fits.written image
either_from at most within counts store h fits image goes (inl shown) = standing_from at most within counts store h fits image shown
either_from at most within counts store h fits image goes (inr shown) =
    let w = fits.written in
    record {
      entries = entries_committed w;
      shown = shown.0;
      keeps = keeps_then (committed_of w) (entries_of w) (entries_committed w) fits.keeps (keeps_commit (entries_of w));
      opening = opening_kept (repo_view store.repo).keys (entries_of w) (entries_committed w) (λ id blob live. sym (live_commit id (entries_of w)) ∙ live);
      puts = goes;
      config = shown.1;
    }

-- a commit, where what is committed by it may come there
commit_stands : (at : Border) (most : ℕ) (store : Store) (within : List Addition) (h g : History) → CommitsPieces store h g
    → ((counts : Bool) (fits : StoreFits counts store h)
    → AddsFirst at (repo_view store.repo).keys most (entries_of fits.written) within (entries_committed fits.written))
    → KeepsStandingAt at most store within h g
commit_stands at most store within h g commits goes = (
  commits.0,
  λ counts fits.
      let Read : Files → Type 0 = HoldsFront at (repo_view store.repo).keys most (entries_of fits.written) within in
      with_moments (ShowsEither fits.written) (StandsFrom at (repo_view store.repo).keys most within fits.written) Read Read counts h g
      (λ image shown. either_from at most within counts store h fits image (inr (goes counts fits)) shown) (λ files has. has)
      (with_read (ShowsEither fits.written) Read counts h g (commits.1.0 counts fits.written fits.under_way)
      (each_way (Unit {0}) (CommitEntry ∷ []) at most store within h g (λ c f _. goes c f) commits.1.1 counts fits)),
)

-- and at each moment of it there stands what may
pub checkpoint_stands : (most : ℕ) (store : Store) (within : List Addition) (h g : History) → store.pending ≢ 0 → CommitsPieces store h g
    → KeepsStandingAt AtBegin most store within h g
checkpoint_stands most store within h g some commits =
    commit_stands AtBegin most store within h g commits
    (λ counts fits. first_commit (repo_view store.repo).keys most within fits.written (some_of counts store h fits some))

-- ---- a checkpoint before a piece

-- as many are pending as may be, and the piece is to be put
room_full : (most : ℕ) (counts : Bool) (store : Store) (one : Addition) (h : History) (fits : StoreFits counts store h) → IsCheckpoint most
    → is_piece one.kind ≡ true → store.pending ≡ most → IsNew (repo_view store.repo) (id_under store one.content)
    → IsFull (repo_view store.repo).keys most (entries_of fits.written) one
room_full most counts store one h fits checkpoint piece full new = record {
  piece = piece;
  full = full_of counts store h fits most checkpoint full;
  new = unlive_new (id_under store one.content) (entries_of fits.written) new.0
      (missing_unlive (files_now h) (repo_view store.repo).log (entries_of fits.written) (id_under store one.content) new.0 new.1 fits.holds);
}

-- a checkpoint makes room for a piece
pub room_makes : (most : ℕ) (store now : Store) (one : Addition) (h g : History) → IsCheckpoint most → now.repo ≡ store.repo
    → is_piece one.kind ≡ true → store.pending ≡ most → IsNew (repo_view store.repo) (id_under store one.content) → Checkpoints store now h g
    → MakesRoom most store one now h g
room_makes most store now one h g checkpoint repo piece full new takes counts fits =
    let end = takes counts fits in
    let w = fits.written in
    let so = room_full most counts store one h fits checkpoint piece full new in
    record {
      fits_now = end.0;
      moved = commit_moved counts store h fits end.0.written end.1;
      comes = inr (so, commit_entries w end.0.written end.1);
      committed = inr (inr (so, ap committed_of end.1));
      brings = commit_brings counts store now h g fits end.0 repo end.1;
    }

-- and so it is at each moment of it
pub room_stands : (most : ℕ) (store : Store) (one : Addition) (h g : History) → IsCheckpoint most → is_piece one.kind ≡ true → store.pending ≡ most
    → IsNew (repo_view store.repo) (id_under store one.content) → CommitsPieces store h g → KeepsStanding most store (one ∷ []) h g
room_stands most store one h g checkpoint piece full new commits =
    commit_stands Within most store (one ∷ []) h g commits
    (λ counts fits. first_next Within (repo_view store.repo).keys most one (entries_of fits.written) (entries_committed fits.written)
    (inr (room_full most counts store one h fits checkpoint piece full new, refl)))

-- where there is room
pub room_here : (most : ℕ) (store : Store) (one : Addition) (h : History) → MakesRoom most store one store h h
room_here most store one h counts fits = record {
  fits_now = fits;
  moved = moved_here (repo_view store.repo).keys fits.written;
  comes = inl refl;
  committed = inl refl;
  brings = λ scope apart all within. (within, tt);
}

-- a content that was added behind what came before it
pub room_then : (most : ℕ) (store middle now : Store) (one : Addition) (h k g : History) → IsCheckpoint most → KeepsRest store middle
    → MakesRoom most store one middle h k → Gathers most middle (one ∷ []) now k g → Gathers most store (one ∷ []) now h g
room_then most store middle now one h k g checkpoint rest p q counts fits =
    let first = p counts fits in
    let second = q counts first.fits_now in
    let keys = (repo_view store.repo).keys in
    let w = fits.written in
    let next = first.fits_now.written in
    let last = second.fits_now.written in
    record {
      fits_now = second.fits_now;
      moved = moved_then keys w next last first.moved (subst (λ (k : Keys). Moved k next last) rest.keys second.moved);
      puts = adds_room keys most (entries_of w) (entries_of next) one [] (entries_of last) checkpoint first.comes
          (subst (λ (k : Keys). AddsAll Within k most (entries_of next) (one ∷ []) (entries_of last)) rest.keys second.puts);
      committed = goes_behind keys most one w next (committed_of last) checkpoint first.comes first.committed
          (subst (λ (k : Keys). GoesOn Within k most (one ∷ []) next (committed_of last)) rest.keys second.committed);
      brings = λ scope apart all within.
          second.brings scope (subst (λ (k : Keys). NoCollision k scope) (sym rest.keys) apart) all (first.brings scope apart tt within).0;
    }

-- what stands while it is added stands from before
pub stands_room : (keys : Keys) (most : ℕ) (written next : Written) (one : Addition) (image : Files) → IsCheckpoint most → Moved keys written next
    → ComesBefore keys most (entries_of written) one (entries_of next)
    → (committed_of next ≡ committed_of written) ⊎ ComesBefore keys most (entries_of written) one (committed_of next)
    → StandsFrom Within keys most (one ∷ []) next image → StandsFrom Within keys most (one ∷ []) written image
stands_room keys most written next one image checkpoint moved comes committed stands = record {
  entries = stands.entries;
  shown = stands.shown;
  keeps = keeps_then (committed_of written) (committed_of next) stands.entries moved.committed stands.keeps;
  opening = opening_then keys (entries_of written) (entries_of next) stands.entries moved.opening stands.opening;
  puts = goes_behind keys most one written next stands.entries checkpoint comes committed stands.puts;
  config = stands.config ∙ moved.config;
}

-- a body behind what came before a content
pub each_room : (most : ℕ) (store middle : Store) (one : Addition) (h g i : History) → IsCheckpoint most
    → (repo_view middle.repo).keys ≡ (repo_view store.repo).keys → KeepsStanding most store (one ∷ []) h g → AllDone h g
    → MakesRoom most store one middle h g → KeepsStanding most middle (one ∷ []) g i → KeepsStanding most store (one ∷ []) h i
each_room most store middle one h g i checkpoint same before done makes after = (
  untold_then h g i before.0 after.0,
  λ counts fits.
      let first = makes counts fits in
      let keys = (repo_view store.repo).keys in
      let next = first.fits_now.written in
      let from = entries_of fits.written in
      let middle_from = entries_of next in
      moments_then (IsSoundWith (StandsFrom Within keys most (one ∷ []) fits.written) (HoldsFront Within keys most from (one ∷ [])) counts) h g i
      (before.1 counts fits) done
      (with_moments (StandsFrom Within (repo_view middle.repo).keys most (one ∷ []) next) (StandsFrom Within keys most (one ∷ []) fits.written)
      (HoldsFront Within (repo_view middle.repo).keys most middle_from (one ∷ [])) (HoldsFront Within keys most from (one ∷ [])) counts g i
      (λ image stands.
      stands_room keys most fits.written next one image checkpoint first.moved first.comes first.committed
      (subst (λ (k : Keys). StandsFrom Within k most (one ∷ []) next image) same stands))
      (λ files read.
      front_room keys most from middle_from one files checkpoint first.comes
      (subst (λ (k : Keys). HoldsFront Within k most middle_from (one ∷ []) files) same read)) (after.1 counts first.fits_now)),
)

-- ---- from call to call

pub added_fits : (store now : Store) (content : List ℕ) (added : Added) (a b : Option Told) (n m : ℕ) → IfSome a (λ t. StoreFits false store t.history)
    → Did {T = Added} (KeepsSound store.session store.counter) (Adds store content now) a b n m (Ok added) → IfSome b (λ t. StoreFits false now t.history)
added_fits store now content added a b n m fits p = fits_added store now content added a b n m fits p

pub checkpoint_fits : (store now : Store) (a b : Option Told) (n m : ℕ) → IfSome a (λ t. StoreFits false store t.history)
    → Did {T = Unit {0}} (CommitsSound store.session store.counter) (λ _. Checkpoints store now) a b n m (Ok tt) → IfSome b (λ t. StoreFits false now t.history)
checkpoint_fits store now a b n m fits p =
    known_end (λ h. StoreFits false now h) (λ h g. StoreFits false store h × (AllDone h g × Checkpoints store now h g)) a b p.ends
    (λ h g e. (e.1.1 false e.0).0)
    (known_then (λ h. StoreFits false store h) (λ h g. AllDone h g × Checkpoints store now h g) a b fits p.end)
