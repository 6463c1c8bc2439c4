-- What a refusal says of the files as they are read behind it.
use Rattle.std.proofs.Common.{◌≡◌, ◌≢◌, ◌⊎◌, ◌↔◌, inl, inr, ◌<◌, ◌≤◌, ℕ, suc, Bool, true, false, List, [], ◌∷◌, ◌++◌, unwrap_or, Option, Some, None}
use Rattle.std.proofs.Common.{Result, Ok, Err, IfErr, IfSome, IsErrOf, IsSome, refl, sym, ◌∙◌, ap, subst, arith}
use Rattle.std.specs.FinMap.{get}
use Rattle.ferry_base.specs.Limits.{zero_id}
use Rattle.ferry_blob.specs.declared.fault.BlobFault.{BlobFault}
use Rattle.ferry_disk.proofs.ImageLemmas.{nonce_plain, plain_read}
use Rattle.ferry_disk.proofs.MomentLemmas.{between_map, between_then}
use Rattle.ferry_disk.specs.Act.{History, files_now}
use Rattle.ferry_disk.specs.Device.{Told, told_files}
use Rattle.ferry_disk.specs.Faults.{FailedWhere}
use Rattle.ferry_disk.specs.Files.{Files}
use Rattle.ferry_disk.specs.Image.{Fate, PlainFate}
use Rattle.ferry_disk.specs.Moments.{Between}
use Rattle.ferry_disk.specs.declared.name.Name.TheVariants.{Nonce as NonceFile}
use Rattle.ferry_nonce.specs.Counter.{IsExhausted, Reserves}
use Rattle.ferry_nonce.specs.declared.counter.Counter.{Counter}
use Rattle.ferry_nonce.specs.declared.fault.NonceFault.{NonceFault}
use Rattle.ferry_nonce.specs.declared.fault.NonceFault.TheVariants as Nonces
use Rattle.ferry_repo.specs.Objects.{BreaksObject}
use Rattle.ferry_repo.specs.Opening.{repo_view}
use Rattle.ferry_repo.specs.declared.fault.RepoFault.TheVariants as Repos
use Rattle.ferry_segment.specs.Entry.{LogEntry}
use Rattle.ferry_segment.specs.Segment.{magic, spellings}
use Rattle.ferry_stops.specs.Counters.{IsNonce}
use Rattle.ferry_stops.specs.Entries.{CommittedBelow, ShowsAt}
use Rattle.ferry_store.proofs.CallLemmas.{OnlyGrows, reserved_step}
use Rattle.ferry_store.proofs.StepLemmas.{Reads, here_each}
use Rattle.ferry_store.proofs.WritingLemmas.{told_writing}
use Rattle.ferry_store.specs.Counting.{HaveAll, LacksBlocks}
use Rattle.ferry_store.specs.Causes.{BreaksLive, HasLastSegment, Stops, StopsAt, most_blocks}
use Rattle.ferry_store.specs.Content.{RefusesOld}
use Rattle.ferry_store.specs.Dropping.{IsWriting}
use Rattle.ferry_store.specs.Fault.{depot_failed, nonce_refusal, write_refusal}
use Rattle.ferry_store.specs.Standing.{committed_of, live_in}
use Rattle.ferry_store.specs.State.{Did, IsUnderWay, KeepsSound, RefusesManifest, TakesEntry, Written, with_entry}
use Rattle.ferry_store.specs.Store.{IsKnown, StoreFits}
use Rattle.ferry_store.specs.declared.fault.StoreRefusal.{StoreRefusal}
use Rattle.ferry_store.specs.declared.fault.StoreRefusal.TheVariants.{Repo, Write, Nonce, Committed, TooLarge, Entropy, Memory}
use Rattle.ferry_store.specs.declared.store.Store.{Store}
use Rattle.ferry_write.proofs.LawLemmas.{fits_now}
use Rattle.ferry_write.proofs.StandLemmas.{read_is}
use Rattle.ferry_write.specs.Room.{AreUsedUp, behind}
use Rattle.ferry_write.specs.Script.{AllDone}
use Rattle.ferry_write.specs.Session.{IsCurrent, LastIs, OnlyAppends, SessionFits, Stands, Stays}
use Rattle.ferry_write.specs.declared.fault.WriteFault.{WriteFault}
use Rattle.ferry_write.specs.declared.fault.WriteFault.TheVariants as Writes
use Rattle.ferry_write.specs.declared.session.Session.{Session}

-- ---- a chunk that is live

-- an id that isn't learnt is live by what is committed
committed_live : (committed : List LogEntry) (id blob : List ℕ) (P : Type 0) → (P → ⊥)
    → (live_in id committed ≡ Some blob) ⊎ P → live_in id committed ≡ Some blob
committed_live committed id blob P none (inl live) = live
committed_live committed id blob P none (inr some) = absurd (none some)

-- its blob, where it breaks a rule, is that of a chunk that is live by what is committed
breaks_live : (store : Store) (h : History) (id : List ℕ) (fault : BlobFault) → StoreFits false store h → id ≢ zero_id → (IsKnown store id → ⊥)
    → BreaksObject (files_now h) (repo_view store.repo).log (repo_view store.repo).keys id fault
    → BreaksLive (files_now h) (repo_view store.repo).keys id fault
breaks_live store h id fault fits chunk unknown breaks =
    let written = fits.written in
    let live = (fits.holds id breaks.blob chunk).0 breaks.has in
    let entries = fits.manifest.entries in
    let is : committed_of written ≡ entries = ap (λ (c : Option (List LogEntry)). unwrap_or c []) fits.manifest.is in
    let committed = committed_live (committed_of written) id breaks.blob (IsSome (get (repo_view store.repo).log.learnt id)) (λ some. unknown (inr (inl some)))
    (fits.learnt id breaks.blob chunk live) in
    record {
      entries = entries;
      shown = (
        behind store.session.after,
        subst (ShowsAt (files_now h) (behind store.session.after)) fits.manifest.is
            (fits_now store.session written.committed written.pending h fits.under_way.fits),
      );
      chunk = chunk;
      blob = breaks.blob;
      live = subst (λ (c : List LogEntry). live_in id c ≡ Some breaks.blob) is committed;
      breaks = breaks.breaks;
    }

-- over the files that were read
old_stops : (store : Store) (h : History) (id : List ℕ) (refusal : StoreRefusal) → StoreFits false store h → id ≢ zero_id → (IsKnown store id → ⊥)
    → RefusesOld (files_now h) (repo_view store.repo) id refusal → StopsAt h.start (files_now h) (repo_view store.repo).keys refusal
old_stops store h id (Repo (Repos.Blob named fault)) fits chunk unknown is =
    subst (λ (i : List ℕ). BreaksLive (files_now h) (repo_view store.repo).keys i fault) (sym is.0) (breaks_live store h id fault fits chunk unknown is.1)
old_stops store h id (Repo Repos.Device) fits chunk unknown is = tt
old_stops store h id (Repo Repos.Memory) fits chunk unknown is = absurd is
old_stops store h id (Repo Repos.NoCommit) fits chunk unknown is = absurd is
old_stops store h id (Repo (Repos.Damaged segment at)) fits chunk unknown is = absurd is
old_stops store h id (Repo (Repos.Config fault)) fits chunk unknown is = absurd is
old_stops store h id (Repo (Repos.Key fault)) fits chunk unknown is = absurd is
old_stops store h id (Repo (Repos.Missing named)) fits chunk unknown is = absurd is
old_stops store h id (Repo (Repos.Manifest fault)) fits chunk unknown is = absurd is
old_stops store h id (Repo (Repos.Archive named fault)) fits chunk unknown is = absurd is
old_stops store h id (Repo (Repos.Item named fault)) fits chunk unknown is = absurd is
old_stops store h id (Repo (Repos.Size named)) fits chunk unknown is = absurd is
old_stops store h id (Repo (Repos.KeyFile fault)) fits chunk unknown is = absurd is
old_stops store h id (Repo (Repos.Other file config)) fits chunk unknown is = absurd is
old_stops store h id (Repo Repos.NoKey) fits chunk unknown is = absurd is
old_stops store h id Memory fits chunk unknown is = tt
old_stops store h id (Write fault) fits chunk unknown is = absurd is
old_stops store h id (Nonce fault) fits chunk unknown is = absurd is
old_stops store h id Committed fits chunk unknown is = absurd is
old_stops store h id TooLarge fits chunk unknown is = absurd is
old_stops store h id Entropy fits chunk unknown is = absurd is

-- ---- counter blocks

-- the segments that are there have all that was written
have_all : (session : Session) (committed : Option (List LogEntry)) (pending : List LogEntry) (h : History) → SessionFits session committed pending h
    → HaveAll (files_now h) (unwrap_or committed [] ++ pending)
have_all session committed pending h fits =
    (behind session.last, (fits.entries, λ n above. sym (read_is h n) ∙ ap (λ (f : Fate). f.read) (fits.none n above)))

-- the files of a counter for which these blocks aren't left
pub lacks_blocks : (counts : Bool) (session : Session) (counter : Counter) (written : Written) (h : History) (count : ℕ) → IsExhausted counter count
    → IsUnderWay counts session counter written h → LacksBlocks h.start (files_now h) count
lacks_blocks counts session counter written h count exhausted u =
    let at = u.counter_fits.reserved in
    let read : (files_now h).nonce ≡ at.file = plain_read h.start h.acts NonceFile nonce_plain ∙ ap (λ (f : PlainFate). f.read) at.at_rest in
    record {
      entries = unwrap_or written.committed [] ++ written.pending;
      all = have_all session written.committed written.pending h u.fits;
      free = counter.free;
      next = u.next;
      reserved = counter.reserved;
      nonce = subst (λ (file : Option (List ℕ)). IsNonce file counter.reserved) (sym read) at.nonce;
      unreserved = exhausted.0;
      none_left = exhausted.1;
    }

-- where no call of the depot was made
told_here : (E : History → History → Type 0) (a b : Option Told) → b ≡ a → ((h : History) → E h h) → Between a b E
told_here E a b same here = subst (λ (x : Option Told). Between a x E) (sym same) (here_each E a here)

-- a draw that is refused, where the blocks don't fit
pub draw_stops : (session : Session) (counter : Counter) (blocks number : ℕ) (fault : NonceFault) (a b : Option Told) → blocks ≤ most_blocks
    → Reserves {T = ℕ} number a b (Err fault) → (IsErrOf {T = ℕ} (Err fault) Nonces.Exhausted ↔ IsExhausted counter blocks)
    → Between a b (Stops session counter (nonce_refusal fault))
draw_stops session counter blocks number Nonces.Exhausted a b few left exhausted =
    told_here (Stops session counter (Nonce Nonces.Exhausted)) a b left
    (λ h keys counts written u. (blocks, (few, lacks_blocks counts session counter written h blocks (exhausted.0 refl) u)))
draw_stops session counter blocks number Nonces.Device a b few left exhausted =
    between_map a b _ (Stops session counter (Nonce Nonces.Device)) (λ h g e keys counts written u. tt)
    (reserved_step {T = ℕ} number a b (Err Nonces.Device) left)
draw_stops session counter blocks number Nonces.Memory a b few left exhausted =
    between_map a b _ (Stops session counter Memory) (λ h g e keys counts written u. tt) (reserved_step {T = ℕ} number a b (Err Nonces.Memory) left)
draw_stops session counter blocks number Nonces.Missing a b few left exhausted = absurd left
draw_stops session counter blocks number Nonces.Text a b few left exhausted = absurd left

-- ---- the numbers of segments

-- the last of the segments of a commit is there
commit_there : (files : Files) (committed : Option (List LogEntry)) (n : ℕ) → CommittedBelow files (suc n) committed → IsSome (get files.segments n)
commit_there files None n none = absurd (let no : ⊥ = omega (arith, none) in no)
commit_there files (Some entries) n ends =
    let same : ends.last ≡ n = (let e = ends.end_is in omega (arith, e)) in
    subst (λ (k : ℕ). IsSome (get files.segments k)) same (subst IsSome (sym ends.there) refl)

-- a segment that has a byte is there
bytes_there : (file : Option (List ℕ)) (x : ℕ) (xs : List ℕ) → unwrap_or file [] ≡ x ∷ xs → IsSome file
bytes_there None x xs e = absurd (let no : ⊥ = cc in no)
bytes_there (Some bytes) x xs e = refl

-- the last segment of a session that fits is there, and stays there
last_there : (after last size : Option ℕ) (committed : Option (List LogEntry)) (pending : List LogEntry) (h g : History) (n : ℕ) → last ≡ Some n
    → (size ≡ None → last ≡ after) → Stands after last size committed pending h → Stays after h g → IsSome (get (files_now g).segments n)
last_there after last None committed pending h g n is ends stands stays =
    let at : after ≡ Some n = sym (ends refl) ∙ is in
    let there = commit_there (files_now h) committed n
    (subst (λ (a : Option ℕ). CommittedBelow (files_now h) (behind a) committed) at stands.own.commits) in
    subst IsSome (sym (stays.below n (subst (λ (a : Option ℕ). n < behind a) (sym at) (omega arith)))) there
last_there after last (Some size) committed pending h g n is ends stands stays =
    let current : IsCurrent h (behind after) n size = subst (λ (l : Option ℕ). LastIs h (behind after) l (Some size)) is stands.last_is in
    let had : get (files_now h).segments n ≡ Some (magic ++ spellings current.entries) = sym (read_is h n) ∙ current.written.read in
    let rest = stays.longer n in
    bytes_there (get (files_now g).segments n) _ _ (rest.1 ∙ ap (λ (file : Option (List ℕ)). unwrap_or file [] ++ rest.0) had)

-- its number is the greatest, where the numbers are used up
used_last : (last : Option ℕ) → AreUsedUp last → (n : ℕ) × ((last ≡ Some n) × (4294967295 ≤ n))
used_last None used = absurd (let no : ⊥ = omega (arith, used) in no)
used_last (Some n) used = (n, (refl, omega (arith, used)))

-- of the files as they are read behind a call by which segments only grow
last_segment : (counts : Bool) (session : Session) (counter : Counter) (written : Written) (h g : History) → AreUsedUp session.last
    → IsUnderWay counts session counter written h → Stays session.after h g → HasLastSegment (files_now g)
last_segment counts session counter written h g used u stays =
    let last = used_last session.last used in (
      last.0,
      (
        last.1.1,
        last_there session.after session.last session.size written.committed written.pending h g last.0 last.1.0 u.ends u.fits stays,
      ),
    )

-- a call of a session alone
pub only_appends : (session : Session) (counter : Counter) (a b : Option Told) → Between a b (OnlyAppends session) → Between a b (OnlyGrows session counter)
only_appends session counter a b only =
    between_map a b (OnlyAppends session) (OnlyGrows session counter) (λ h g stays counts written u. stays written.committed written.pending u.fits) only

-- a refusal of a session, as an answer
abbrev pub fault_of : {T : Type 0} → WriteFault → Result T WriteFault
fault_of fault = Err fault

-- a call of a session that is refused
pub write_stops : (session : Session) (counter : Counter) (fault : WriteFault) (a b : Option Told) → (fault ≡ Writes.Numbers → AreUsedUp session.last)
    → Between a b (OnlyGrows session counter) → Between a b (Stops session counter (write_refusal fault))
write_stops session counter Writes.Device a b used grows =
    between_map a b (OnlyGrows session counter) (Stops session counter (Write Writes.Device)) (λ h g e keys counts written u. tt) grows
write_stops session counter Writes.Numbers a b used grows =
    between_map a b (OnlyGrows session counter) (Stops session counter (Write Writes.Numbers))
    (λ h g e keys counts written u. last_segment counts session counter written h g (used refl) u (e counts written u)) grows
write_stops session counter Writes.Memory a b used grows =
    between_map a b (OnlyGrows session counter) (Stops session counter Memory) (λ h g e keys counts written u. tt) grows

-- ---- refusals that say nothing of the files

-- want of memory, whatever was done before
pub memory_stops : (session : Session) (counter : Counter) (refusal : StoreRefusal) (E : History → History → Type 0) (a b : Option Told) → refusal ≡ Memory
    → Between a b E → Between a b (Stops session counter refusal)
memory_stops session counter refusal E a b is between =
    between_map a b E (Stops session counter refusal)
    (λ h g e keys counts written u. subst (λ (f : StoreRefusal). StopsAt g.start (files_now g) keys f) (sym is) tt) between

packed_by : (session : Session) (counter : Counter) (size : ℕ) (refusal : StoreRefusal) (h : History) → RefusesManifest size refusal
    → Stops session counter refusal h h
packed_by session counter size TooLarge h is = λ keys counts written u. tt
packed_by session counter size Entropy h is = λ keys counts written u. tt
packed_by session counter size Memory h is = λ keys counts written u. tt
packed_by session counter size (Repo fault) h is = absurd is
packed_by session counter size (Write fault) h is = absurd is
packed_by session counter size (Nonce fault) h is = absurd is
packed_by session counter size Committed h is = absurd is

-- a manifest of which there are no bytes
pub packed_stops : (session : Session) (counter : Counter) (size : ℕ) (refusal : StoreRefusal) (a : Option Told) → RefusesManifest size refusal
    → Between a a (Stops session counter refusal)
packed_stops session counter size refusal a is = here_each (Stops session counter refusal) a (λ h. packed_by session counter size refusal h is)

-- ---- from call to call

-- a refusal behind an entry that was put
pub put_stops : {T U : Type 0} (session put : Session) (counter drawn : Counter) (entry : LogEntry) (place : T) (a b c : Option Told) (n m : ℕ)
    (r : Result U StoreRefusal) → Did {T = T} (KeepsSound session counter) (λ _. TakesEntry session counter entry put drawn) a b n m (Ok place)
    → IfErr r (λ refusal. Between b c (Stops put drawn refusal)) → IfErr r (λ refusal. Between a c (Stops session counter refusal))
put_stops session put counter drawn entry place a b c n m (Ok x) p q = tt
put_stops session put counter drawn entry place a b c n m (Err refusal) p q =
    between_then a b c (λ h g. AllDone h g × TakesEntry session counter entry put drawn h g) (Stops put drawn refusal) (Stops session counter refusal)
    (λ h g i e stops keys counts written u. stops keys counts (with_entry written entry) (e.1 counts written u)) p.end q

-- a device that told nothing tells nothing
untold_still : (d : Bool) (now : Told) → FailedWhere d None (Some now) → ⊥
untold_still false now e = let no : ⊥ = cc in no
untold_still true now e = let no : ⊥ = cc in no

-- of the files as they are told behind a call on a store that writes
pub writing_stops : (store : Store) (refusal : StoreRefusal) (a b : Option Told) → IfSome a (λ t. IsWriting store t.history)
    → FailedWhere (depot_failed refusal) a b → Between a b (Stops store.session store.counter refusal)
    → IfSome b (λ t. StopsAt t.history.start (told_files t) (repo_view store.repo).keys refusal)
writing_stops store refusal a None writes ends stops = tt
writing_stops store refusal None (Some now) writes ends stops = absurd (untold_still (depot_failed refusal) now ends)
writing_stops store refusal (Some told) (Some now) writes ends stops =
    let same : now ≡ stops.0 = (let f = stops.1 in cc) in
    subst (λ (t : Told). StopsAt t.history.start (told_files t) (repo_view store.repo).keys refusal) (sym same)
    (stops.2 (repo_view store.repo).keys false writes.written writes.under_way)

-- on a store that fits
pub store_stops : (store : Store) (refusal : StoreRefusal) (a b : Option Told) → IfSome a (λ t. StoreFits false store t.history)
    → FailedWhere (depot_failed refusal) a b → Between a b (Stops store.session store.counter refusal)
    → IfSome b (λ t. StopsAt t.history.start (told_files t) (repo_view store.repo).keys refusal)
store_stops store refusal a b fits ends stops = writing_stops store refusal a b (told_writing store a fits) ends stops

-- a chunk that is live doesn't open, by calls that read
pub opened_stops : (store : Store) (id : List ℕ) (refusal : StoreRefusal) (a b : Option Told) → IfSome a (λ t. StoreFits false store t.history)
    → id ≢ zero_id → (IsKnown store id → ⊥) → IfSome a (λ t. RefusesOld (told_files t) (repo_view store.repo) id refusal)
    → FailedWhere (depot_failed refusal) a b → Between a b Reads → IfSome b (λ t. StopsAt t.history.start (told_files t) (repo_view store.repo).keys refusal)
opened_stops store id refusal a None fits chunk unknown refused ends reads = tt
opened_stops store id refusal None (Some now) fits chunk unknown refused ends reads = absurd (untold_still (depot_failed refusal) now ends)
opened_stops store id refusal (Some told) (Some now) fits chunk unknown refused ends reads =
    let same : now ≡ reads.0 = (let f = reads.1 in cc) in
    subst (λ (h : History). StopsAt h.start (files_now h) (repo_view store.repo).keys refusal) (sym (ap (λ (t : Told). t.history) same ∙ reads.2))
    (old_stops store told.history id refusal fits chunk unknown refused)
