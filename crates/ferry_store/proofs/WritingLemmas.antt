-- Lemmas on specs/Writing.antt: what the segments have at each moment while a store writes, and that a store which fits writes.
use Rattle.std.proofs.Common.{◌≡◌, ◌⊎◌, inl, inr, ◌≤◌, Bool, true, false, List, [], ◌∷◌, ◌++◌, ℕ, Option, Some, None, IfSome, Ok, Err, refl, sym, ◌∙◌, ap}
use Rattle.std.proofs.Common.{subst}
use Rattle.std.proofs.Common.{append_assoc}
use Rattle.ferry_base.specs.Limits.{zero_id}
use Rattle.ferry_blob.specs.Blob.{OpensTo, content_id, sealed}
use Rattle.ferry_blob.specs.declared.mode.Mode.{Mode}
use Rattle.ferry_disk.proofs.ImageLemmas.{applied-push}
use Rattle.ferry_disk.proofs.MomentLemmas.{between_both, between_map, between_then}
use Rattle.ferry_disk.specs.Act.{History, files_now, with_act}
use Rattle.ferry_disk.specs.Device.{Told}
use Rattle.ferry_disk.specs.Files.{Files}
use Rattle.ferry_disk.specs.Moments.{Between}
use Rattle.ferry_mac.specs.declared.keys.Keys.{Keys}
use Rattle.ferry_nonce.specs.Counter.{FitIn, Reserves, reserved_for, reserves}
use Rattle.ferry_nonce.specs.declared.counter.Counter.{Counter}
use Rattle.ferry_nonce.specs.declared.fault.NonceFault.{NonceFault}
use Rattle.ferry_repo.specs.Opening.{RepoState, mode_of, repo_view}
use Rattle.ferry_segment.specs.Entry.{LogEntry, PutEntry, CommitEntry}
use Rattle.ferry_store.proofs.CallLemmas.{Draws, HasNumbers, draw_step}
use Rattle.ferry_store.proofs.SoundLemmas.{draw_stands}
use Rattle.ferry_store.proofs.StepLemmas.{here_each, moments_here, moments_map, moments_then, step_moments}
use Rattle.ferry_store.specs.Adding.{id_under}
use Rattle.ferry_store.specs.Content.{IsNew, blob_for}
use Rattle.ferry_store.specs.Dropping.{FitsLess, FitsWithout, IsWriting}
use Rattle.ferry_store.specs.Piece.{content_in}
use Rattle.ferry_store.specs.Standing.{committed_of, entries_of}
use Rattle.ferry_store.specs.State.{Did, IsStep, IsUnderWay, KeepsSound, TakesEntry, Written, with_entry}
use Rattle.ferry_store.specs.Store.{StoreFits}
use Rattle.ferry_store.specs.Writing.{IsOnTheWay, WritesCommit, WritesContent, WritesManifest, WritesMore}
use Rattle.ferry_store.specs.declared.store.Store.{Store}
use Rattle.ferry_write.proofs.FrontLemmas.{front_entries, front_more, front_same, session_entries}
use Rattle.ferry_write.specs.Front.{HasEntries, HasFront, LeavesSegments, OnlyRemoves, Writes}
use Rattle.ferry_write.specs.Script.{AllDone}
use Rattle.ferry_write.specs.declared.session.Session.{Session}

-- ---- a store that fits writes

-- what is under way is so where the blocks of the runs before don't count
uncounted : (counts : Bool) (session : Session) (counter : Counter) (written : Written) (h : History) → IsUnderWay counts session counter written h
    → IsUnderWay false session counter written h
uncounted counts session counter written h u = record {
  fits = u.fits;
  rows = u.rows;
  ends = u.ends;
  counter_fits = u.counter_fits;
  config = u.config;
  readme = u.readme;
  next = u.next;
  numbers = u.numbers;
  types = u.types;
  taken = λ c. absurd (let no : ⊥ = cc in no);
}

pub fits_writing : (counts : Bool) (store : Store) (h : History) → StoreFits counts store h → IsWriting store h
fits_writing counts store h fits =
    record { written = fits.written; under_way = uncounted counts store.session store.counter fits.written h fits.under_way; settings = fits.settings }

-- also where chunks were dropped
pub without_writing : (reads counts : Bool) (dropped : List (List ℕ)) (store : Store) (h : History) → FitsLess reads counts dropped store h
    → IsWriting store h
without_writing reads counts dropped store h fits =
    record { written = fits.written; under_way = uncounted counts store.session store.counter fits.written h fits.under_way; settings = fits.settings }

-- what a device tells, where a store fits it
pub told_writing : (store : Store) (a : Option Told) → IfSome a (λ t. StoreFits false store t.history) → IfSome a (λ t. IsWriting store t.history)
told_writing store None fits = tt
told_writing store (Some t) fits = fits_writing false store t.history fits

-- and where one fits it without some chunks
pub told_without : (counts : Bool) (dropped : List (List ℕ)) (store : Store) (a : Option Told)
    → IfSome a (λ t. FitsWithout counts dropped store t.history) → IfSome a (λ t. IsWriting store t.history)
told_without counts dropped store None fits = tt
told_without counts dropped store (Some t) fits = without_writing true counts dropped store t.history fits

-- ---- what is written

-- what is under way is in the segments
under_entries : (counts : Bool) (session : Session) (counter : Counter) (written : Written) (h : History) → IsUnderWay counts session counter written h
    → HasEntries (files_now h) (entries_of written)
under_entries counts session counter written h u = session_entries session written.committed written.pending h u.fits

under_front : (counts : Bool) (session : Session) (counter : Counter) (written : Written) (h : History) → IsUnderWay counts session counter written h
    → HasFront (files_now h) (entries_of written)
under_front counts session counter written h u = front_entries (files_now h) (entries_of written) (under_entries counts session counter written h u)

-- what a store that fits has written is in the segments
pub fits_entries : (counts : Bool) (store : Store) (h : History) (fits : StoreFits counts store h) → HasEntries (files_now h) (entries_of fits.written)
fits_entries counts store h fits = under_entries counts store.session store.counter fits.written h fits.under_way

pub fits_front : (counts : Bool) (store : Store) (h : History) (fits : StoreFits counts store h) → HasFront (files_now h) (entries_of fits.written)
fits_front counts store h fits = under_front counts store.session store.counter fits.written h fits.under_way

-- ---- nothing written

here_writes : (Holds : Type 0) (more : List LogEntry) (session : Session) (counter : Counter) (h : History) → WritesMore Holds more session counter h h
here_writes Holds more session counter h counts written u =
    moments_here (λ k. IsOnTheWay Holds (entries_of written) more (files_now k)) h (inl (under_front counts session counter written h u))

-- where no call was made
pub none_writes : (Holds : Type 0) (more : List LogEntry) (session : Session) (counter : Counter) (a : Option Told)
    → Between a a (WritesMore Holds more session counter)
none_writes Holds more session counter a = here_each (WritesMore Holds more session counter) a (here_writes Holds more session counter)

-- where calls only read
pub same_writes : (Holds : Type 0) (more : List LogEntry) (session : Session) (counter : Counter) (a b : Option Told) → Between a b (λ h g. g ≡ h)
    → Between a b (WritesMore Holds more session counter)
same_writes Holds more session counter a b same =
    between_map a b (λ h g. g ≡ h) (WritesMore Holds more session counter)
    (λ h g e. subst (WritesMore Holds more session counter h) (sym e) (here_writes Holds more session counter h)) same

here_removes : (h : History) → OnlyRemoves h h
here_removes h = moments_here (λ k. LeavesSegments (files_now h) (files_now k)) h (λ n. inl refl)

pub same_removes : (a b : Option Told) → Between a b (λ h g. g ≡ h) → Between a b OnlyRemoves
same_removes a b same = between_map a b (λ h g. g ≡ h) OnlyRemoves (λ h g e. subst (OnlyRemoves h) (sym e) (here_removes h)) same

-- ---- an object

-- the file of the counter replaced, or not, leaves the segments
drawn_segments : (number : ℕ) (done : Bool) (h : History) → (files_now (with_act (reserves number) done h)).segments ≡ (files_now h).segments
drawn_segments number true h = ap (λ (f : Files). f.segments) (applied-push h.start h.acts (record { step = reserves number; done = true }))
drawn_segments number false h = ap (λ (f : Files). f.segments) (applied-push h.start h.acts (record { step = reserves number; done = false }))

draw_writes : (Holds : Type 0) (more : List LogEntry) (session : Session) (counter : Counter) (number : ℕ) (h g : History) → IsStep (reserves number) h g
    → WritesMore Holds more session counter h g
draw_writes Holds more session counter number h g is counts written u =
    let front = under_front counts session counter written h u in
    step_moments (λ k. IsOnTheWay Holds (entries_of written) more (files_now k)) (reserves number) h g (inl front)
    (λ done. inl (front_same (files_now h) (files_now (with_act (reserves number) done h)) (drawn_segments number done h) (entries_of written) front)) is

-- where no blocks are drawn
pub undrawn_writes : (Holds : Type 0) (more : List LogEntry) (session : Session) (counter : Counter) (blocks : ℕ) (fault : NonceFault) (a b : Option Told)
    → (FitIn counter blocks → b ≡ a) → ((FitIn counter blocks → ⊥) → Reserves {T = ℕ} (reserved_for counter blocks) a b (Err fault))
    → Between a b (WritesMore Holds more session counter)
undrawn_writes Holds more session counter blocks fault a b kept replaced =
    between_map a b (IsStep (reserves (reserved_for counter blocks))) (WritesMore Holds more session counter)
    (draw_writes Holds more session counter (reserved_for counter blocks)) (draw_step {T = ℕ} counter blocks a b (Err fault) kept replaced)

-- a put behind a draw
pub object_writes : (Holds : Type 0) (more : List LogEntry) (session : Session) (counter drawn : Counter) (number first : ℕ) (a b c : Option Told) (n m : ℕ)
    → Holds → counter.free ≤ drawn.free → Did {T = ℕ} (Draws counter number) (λ _. HasNumbers counter drawn number) a b n m (Ok first)
    → Between b c (Writes session more) → Between a c (WritesMore Holds more session counter)
object_writes Holds more session counter drawn number first a b c n m holds order p writes =
    between_then a b c (λ h g. Draws counter number h g × (AllDone h g × HasNumbers counter drawn number h g)) (Writes session more)
    (WritesMore Holds more session counter)
    (λ h g i e f counts written u.
    let drew = draw_stands counts session counter drawn written number h g u e.1.1.0 order e.1.1.1 in
    let P : History → Type 0 = λ k. IsOnTheWay Holds (entries_of written) more (files_now k) in
    moments_then P h g i (draw_writes Holds more session counter number h g e.0.0 counts written u) e.1.0
    (moments_map (λ k. HasFront (files_now k) (entries_of written ++ more)) P g i (λ k front. inr (holds, front))
    (f written.committed written.pending drew.fits)))
    (between_both a b (Draws counter number) (λ h g. AllDone h g × HasNumbers counter drawn number h g) p.each p.end) writes

-- ---- a content

way_map : (Holds Gives : Type 0) (entries more : List LogEntry) (files : Files) → (Holds → Gives) → IsOnTheWay Holds entries more files
    → IsOnTheWay Gives entries more files
way_map Holds Gives entries more files step (inl front) = inl front
way_map Holds Gives entries more files step (inr both) = inr (step both.0, both.1)

writes_map : (Holds Gives : Type 0) (more : List LogEntry) (session : Session) (counter : Counter) (a b : Option Told) → (Holds → Gives)
    → Between a b (WritesMore Holds more session counter) → Between a b (WritesMore Gives more session counter)
writes_map Holds Gives more session counter a b step writes =
    between_map a b (WritesMore Holds more session counter) (WritesMore Gives more session counter)
    (λ h g f counts written u.
    moments_map (λ k. IsOnTheWay Holds (entries_of written) more (files_now k)) (λ k. IsOnTheWay Gives (entries_of written) more (files_now k)) h g
    (λ k way. way_map Holds Gives (entries_of written) more (files_now k) step way) (f counts written u)) writes

-- the blob of a content opens under the content's id
abbrev pub OpensNamed : Keys → List ℕ → List ℕ → Type 0
OpensNamed keys blob content = (name : List ℕ) → (name ≡ zero_id) ⊎ (name ≡ content_id keys content) → OpensTo keys name blob content

-- what an object writes, by the keys and the mode that seal it
abbrev pub WritesObject : List ℕ → Bool → List ℕ → Session → Counter → Option Told → Option Told → Keys → Mode → Type 0
WritesObject id is_blob buffer session counter a b keys mode = Between a b (WritesMore
    (OpensNamed keys (sealed keys mode counter.free (content_in keys is_blob buffer)) (content_in keys is_blob buffer))
    (PutEntry id (sealed keys mode counter.free (content_in keys is_blob buffer)) ∷ []) session counter)

-- under the keys and the mode of a repository it is what a content writes
pub content_writes : (repo : RepoState) (session : Session) (counter : Counter) (keys : Keys) (mode : Mode) (id buffer : List ℕ) (is_blob : Bool)
    (a b : Option Told) → keys ≡ repo.keys → mode ≡ mode_of repo.config → id ≡ content_id repo.keys (content_in repo.keys is_blob buffer)
    → WritesObject id is_blob buffer session counter a b keys mode
    → Between a b (WritesMore (OpensTo repo.keys id (blob_for repo counter (content_in repo.keys is_blob buffer)) (content_in repo.keys is_blob buffer))
    (PutEntry id (blob_for repo counter (content_in repo.keys is_blob buffer)) ∷ []) session counter)
content_writes repo session counter keys mode id buffer is_blob a b same_keys same_mode named writes =
    let content = content_in repo.keys is_blob buffer in
    let blob = blob_for repo counter content in
    writes_map (OpensNamed repo.keys blob content) (OpensTo repo.keys id blob content) (PutEntry id blob ∷ []) session counter a b
    (λ opens. opens id (inr named))
    (subst (WritesObject id is_blob buffer session counter a b repo.keys) same_mode
    (subst (λ (k : Keys). WritesObject id is_blob buffer session counter a b k mode) same_keys writes))

-- and a new content of a store
pub new_writes : (store : Store) (id content : List ℕ) (a b : Option Told) → id ≡ id_under store content → IsNew (repo_view store.repo) id
    → Between a b (WritesMore (OpensTo (repo_view store.repo).keys id (blob_for (repo_view store.repo) store.counter content) content)
    (PutEntry id (blob_for (repo_view store.repo) store.counter content) ∷ []) store.session store.counter)
    → Between a b (WritesContent store content)
new_writes store id content a b named new writes =
    let repo = repo_view store.repo in
    let blob = blob_for repo store.counter content in
    subst (λ (x : List ℕ). Between a b (WritesMore (IsNew repo x × OpensTo repo.keys x blob content) (PutEntry x blob ∷ []) store.session store.counter)) named
    (writes_map (OpensTo repo.keys id blob content) (IsNew repo id × OpensTo repo.keys id blob content) (PutEntry id blob ∷ []) store.session store.counter
    a b (λ opens. (new, opens)) writes)

-- ---- a commit

pub commit_writes : (session : Session) (counter : Counter) (a b : Option Told) → Between a b (Writes session (CommitEntry ∷ []))
    → Between a b (WritesCommit session counter)
commit_writes session counter a b writes =
    between_map a b (Writes session (CommitEntry ∷ [])) (WritesCommit session counter)
    (λ h g f counts written u.
    moments_map (λ k. HasFront (files_now k) (entries_of written ++ CommitEntry ∷ []))
    (λ k. IsOnTheWay (Unit {0}) (entries_of written) (CommitEntry ∷ []) (files_now k)) h g (λ k front. inr (tt, front))
    (f written.committed written.pending u.fits)) writes

-- ---- a manifest

-- what is on the way to an entry is so to that and a COMMIT
way_put : (Holds : Type 0) (entries : List LogEntry) (entry : LogEntry) (files : Files) → IsOnTheWay Holds entries (entry ∷ []) files
    → IsOnTheWay (Unit {0}) entries (entry ∷ (CommitEntry ∷ [])) files
way_put Holds entries entry files (inl front) = inl front
way_put Holds entries entry files (inr both) =
    inr (
      tt,
      subst (HasFront files) (append_assoc entries (entry ∷ []) (CommitEntry ∷ []))
          (front_more files (entries ++ entry ∷ []) CommitEntry tt both.1),
    )

-- and so is what is on the way to the COMMIT behind the entry
way_commit : (committed pending : List LogEntry) (entry : LogEntry) (files : Files)
    → IsOnTheWay (Unit {0}) (committed ++ (pending ++ entry ∷ [])) (CommitEntry ∷ []) files
    → IsOnTheWay (Unit {0}) (committed ++ pending) (entry ∷ (CommitEntry ∷ [])) files
way_commit committed pending entry files (inl front) =
    way_put (Unit {0}) (committed ++ pending) entry files
    (inr (tt, subst (HasFront files) (sym (append_assoc committed pending (entry ∷ []))) front))
way_commit committed pending entry files (inr both) =
    inr (
      tt,
      subst (HasFront files)
          (ap (λ (l : List LogEntry). l ++ CommitEntry ∷ []) (sym (append_assoc committed pending (entry ∷ [])))
          ∙ append_assoc (committed ++ pending) (entry ∷ []) (CommitEntry ∷ [])) both.1,
    )

put_writes : (Holds : Type 0) (blob : List ℕ) (session : Session) (counter : Counter) (h g : History)
    → WritesMore Holds (PutEntry zero_id blob ∷ []) session counter h g → WritesManifest blob session counter h g
put_writes Holds blob session counter h g writes counts written u =
    moments_map (λ k. IsOnTheWay Holds (entries_of written) (PutEntry zero_id blob ∷ []) (files_now k))
    (λ k. IsOnTheWay (Unit {0}) (entries_of written) (PutEntry zero_id blob ∷ (CommitEntry ∷ [])) (files_now k)) h g
    (λ k way. way_put Holds (entries_of written) (PutEntry zero_id blob) (files_now k) way) (writes counts written u)

-- a manifest that isn't committed
pub uncommitted_writes : (Holds : Type 0) (blob : List ℕ) (session : Session) (counter : Counter) (a b : Option Told)
    → Between a b (WritesMore Holds (PutEntry zero_id blob ∷ []) session counter) → Between a b (WritesManifest blob session counter)
uncommitted_writes Holds blob session counter a b writes =
    between_map a b (WritesMore Holds (PutEntry zero_id blob ∷ []) session counter) (WritesManifest blob session counter)
    (put_writes Holds blob session counter) writes

-- a manifest that was put, and its commit
pub manifest_writes : {T : Type 0} (Holds : Type 0) (blob : List ℕ) (session put : Session) (counter drawn : Counter) (place : T) (a b c : Option Told)
    (n m : ℕ) → Between a b (WritesMore Holds (PutEntry zero_id blob ∷ []) session counter)
    → Did {T = T} (KeepsSound session counter) (λ _. TakesEntry session counter (PutEntry zero_id blob) put drawn) a b n m (Ok place)
    → Between b c (WritesCommit put drawn) → Between a c (WritesManifest blob session counter)
manifest_writes Holds blob session put counter drawn place a b c n m writes did commits =
    let entry = PutEntry zero_id blob in
    between_then a b c (λ h g. WritesMore Holds (entry ∷ []) session counter h g × (AllDone h g × TakesEntry session counter entry put drawn h g))
    (WritesCommit put drawn) (WritesManifest blob session counter)
    (λ h g i e f counts written u.
    let P : History → Type 0 = λ k. IsOnTheWay (Unit {0}) (entries_of written) (entry ∷ (CommitEntry ∷ [])) (files_now k) in
    moments_then P h g i (put_writes Holds blob session counter h g e.0 counts written u) e.1.0
    (moments_map (λ k. IsOnTheWay (Unit {0}) (entries_of (with_entry written entry)) (CommitEntry ∷ []) (files_now k)) P g i
    (λ k way. way_commit (committed_of written) written.pending entry (files_now k) way)
    (f counts (with_entry written entry) (e.1.1 counts written u))))
    (between_both a b (WritesMore Holds (entry ∷ []) session counter) (λ h g. AllDone h g × TakesEntry session counter entry put drawn h g) writes did.end)
    commits
