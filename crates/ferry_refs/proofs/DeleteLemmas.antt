-- Lemmas on specs/Deleting.antt: what was read, dropped and committed is a deletion.
use Rattle.ferry_mac.specs.declared.keys.Keys.{Keys}
use Rattle.std.proofs.Common.{◌≡◌, ◌≢◌, ℕ, false, List, length, Option, Some, None, Result, Ok, Err, IfSome, sym, ◌∙◌, ap, subst}
use Rattle.std.proofs.lemmas.Option.{IfSome_then}
use Rattle.ferry_piece.proofs.FaultLemmas.{failed_target}
use Rattle.ferry_piece.proofs.WorkLemmas.{works_err, works_nothing, works_ok}
use Rattle.ferry_piece.specs.Fault.{IsOfReading, IsOfWork, target_failed, target_fault}
use Rattle.ferry_piece.specs.Work.{Works}
use Rattle.ferry_piece.specs.declared.fault.CarryFault.{CarryFault}
use Rattle.ferry_piece.specs.declared.fault.CarryFault.TheVariants as Carry
use Rattle.ferry_check.specs.Verify.{IsNamed}
use Rattle.ferry_disk.proofs.DeviceLemmas.{told_any}
use Rattle.ferry_disk.proofs.MomentLemmas.{between_both, between_map, between_then}
use Rattle.ferry_disk.specs.Act.{History, files_now}
use Rattle.ferry_disk.specs.Device.{Told, told_files}
use Rattle.ferry_disk.specs.Files.{Files}
use Rattle.ferry_disk.specs.Moments.{Between, Moments}
use Rattle.ferry_repo.specs.Opening.{RepoState, repo_view}
use Rattle.ferry_repo.specs.declared.fault.RepoFault.TheVariants as Repos
use Rattle.ferry_nonce.specs.declared.fault.NonceFault.TheVariants as Nonces
use Rattle.ferry_refs.specs.DeleteSteps.{DeletesWith, ReadsGoing, RefusesGoing, RefusesWith, SoundWith}
use Rattle.ferry_refs.specs.Deleting.{AreGoing, Deletes, DeletesSound, LeavesCommitted, RefusesDelete, ShowsEither, next_without, with_deleted}
use Rattle.ferry_refs.specs.Refs.{AllRead}
use Rattle.ferry_stops.specs.Tells.{TellsNothing}
use Rattle.ferry_store.proofs.StepLemmas.{did_then, moments_then}
use Rattle.ferry_store.specs.Causes.{StopsAt}
use Rattle.ferry_store.specs.Fault.{depot_failed}
use Rattle.ferry_store.specs.Standing.{with_manifest}
use Rattle.ferry_store.specs.State.{Did, IsSound, ShowsStanding, Written}
use Rattle.ferry_store.specs.declared.fault.StoreRefusal.{StoreRefusal}
use Rattle.ferry_store.specs.declared.fault.StoreRefusal.TheVariants as Refusal
use Rattle.ferry_store.specs.declared.store.Store.{Store}
use Rattle.ferry_write.specs.Script.{AllDone}
use Rattle.ferry_refs.proofs.CommitLemmas.{leaves_sound}
use Rattle.ferry_refs.proofs.DropLemmas.{leaves_here}

-- what was read, of the ids that were answered
pub did_at : {T : Type 0} (name : List ℕ) (items : T → List (List ℕ)) (ids : List (List ℕ)) (store read : Store) (a b : Option Told) (n m : ℕ) (x : T)
    → ids ≡ items x → Did (LeavesCommitted store) (λ y. ReadsGoing name (items y) store read) a b n m (Ok x)
    → Did {T = T} (LeavesCommitted store) (λ _. ReadsGoing name ids store read) a b n m (Ok x)
did_at {T} name items ids store read a b n m x is p =
    subst (λ (some : List (List ℕ)). Did {T = T} (LeavesCommitted store) (λ _. ReadsGoing name some store read) a b n m (Ok x)) (sym is)
    (record { each = p.each; end = p.end; ends = p.ends; cause = p.cause })

module _ (name time : List ℕ) (store : Store) where
  -- what leaves what was committed is a part of a deletion
  pub sound_of : (h g : History) → LeavesCommitted store h g → DeletesSound name time store h g
  sound_of h g leaves counts fits = leaves_sound (files_now h) (repo_view store.repo) name time counts fits.written h g (leaves counts fits)

  -- where nothing was done
  pub works_here : {T : Type 0} (Q : T → History → History → Type 0) (a : Option Told) (n : ℕ) (fault : CarryFault) → target_failed fault ≡ false
      → Works (DeletesSound name time store) Q a a n n (Err fault)
  works_here Q a n fault still = works_nothing (DeletesSound name time store) Q a n fault still (λ h. sound_of h h (leaves_here store h))

  -- where what goes wasn't read
  pub works_unread : {T U : Type 0} (Q1 : T → History → History → Type 0) (Q : U → History → History → Type 0) (a b : Option Told) (n m : ℕ)
      (refusal : StoreRefusal) → Between a b TellsNothing → Did {T = T} (LeavesCommitted store) Q1 a b n m (Err refusal)
      → Works (DeletesSound name time store) Q a b n m (Err (target_fault refusal))
  works_unread Q1 Q a b n m refusal untold p =
      works_err (LeavesCommitted store) Q1 (DeletesSound name time store) Q a b n m refusal (λ h g _ leaves. sound_of h g leaves) untold p

  -- where memory was refused behind it
  pub works_memory : {T U : Type 0} (Q1 : T → History → History → Type 0) (Q : U → History → History → Type 0) (a b : Option Told) (n m : ℕ) (x : T)
      → Did {T = T} (LeavesCommitted store) Q1 a b n m (Ok x) → Works (DeletesSound name time store) Q a b n m (Err Carry.Memory)
  works_memory Q1 Q a b n m x p = record {
    each = between_map a b (LeavesCommitted store) (DeletesSound name time store) (λ h g leaves. sound_of h g leaves) p.each;
    end = tt;
    ends = p.ends;
    cause = p.cause;
  }

  module _ (read last : Store) (ids : List (List ℕ)) (same : repo_view read.repo ≡ repo_view store.repo) where
    -- these are going for the store that was read, too
    going_behind : (h g : History) → ReadsGoing name ids store read h g → AreGoing (files_now g) (repo_view read.repo) name ids
    going_behind h g q =
        subst (λ (r : RepoState). AreGoing (files_now g) r name ids) (sym same)
        (subst (λ (f : Files). AreGoing f (repo_view store.repo) name ids) (ap files_now (sym q.same)) q.going)

    sound_behind : (h g i : History) → LeavesCommitted store h g → AllDone h g → ReadsGoing name ids store read h g → SoundWith name time ids read g i
        → DeletesSound name time store h i
    sound_behind h g i leaves done q sound counts fits =
        let first = q.fits counts fits in
        let later = sound (going_behind h g q) counts first.0 in
        moments_then (IsSound (ShowsEither (files_now h) (repo_view store.repo) name time fits.written) counts) h g i (sound_of h g leaves counts fits) done
        (subst (λ (w : Written). Moments (IsSound (ShowsEither (files_now h) (repo_view store.repo) name time w) counts) g i) first.1
        (subst (λ (r : RepoState). Moments (IsSound (ShowsEither (files_now h) r name time first.0.written) counts) g i) same
        (subst (λ (f : Files). Moments (IsSound (ShowsEither f (repo_view read.repo) name time first.0.written) counts) g i) (ap files_now q.same) later)))

    deletes_behind : (h g i : History) → ReadsGoing name ids store read h g → DeletesWith name time ids read last g i
        → Deletes name time store last (length ids) h i
    deletes_behind h g i q deletes counts fits =
        let first = q.fits counts fits in
        let later = deletes (going_behind h g q) counts first.0 in
        record {
          ids = later.ids;
          going = subst (λ (r : RepoState). AreGoing (files_now h) r name later.ids) same
              (subst (λ (f : Files). AreGoing f (repo_view read.repo) name later.ids) (ap files_now q.same) later.going);
          count_is = later.count_is;
          fits = later.fits;
          blob = later.blob;
          written_is = later.written_is ∙ ap (λ (w : Written). with_deleted w later.ids later.blob) first.1;
          repo_is = later.repo_is ∙ ap (λ (r : RepoState). with_manifest r (next_without r.manifest name time)) same;
        }

    -- a deletion behind what was read
    did_delete : {T U : Type 0} (a b c : Option Told) (n m k : ℕ) (x : T) (result : Result U StoreRefusal)
        → Did {T = T} (LeavesCommitted store) (λ _. ReadsGoing name ids store read) a b n m (Ok x)
        → Did {T = U} (SoundWith name time ids read) (λ _. DeletesWith name time ids read last) b c m k result
        → Did {T = U} (DeletesSound name time store) (λ _. Deletes name time store last (length ids)) a c n k result
    did_delete {T} {U} a b c n m k x result p q =
        did_then (LeavesCommitted store) (λ (_ : T). ReadsGoing name ids store read) (SoundWith name time ids read)
        (λ (_ : U). DeletesWith name time ids read last) (DeletesSound name time store) (λ (_ : U). Deletes name time store last (length ids)) a b c n m k x
        result (λ h g i leaves done r sound. sound_behind h g i leaves done r sound) (λ y h g i r deletes. deletes_behind h g i r deletes) p q

    pub works_done : {T U : Type 0} (a b c : Option Told) (n m k : ℕ) (x : T) (y : U) (count : ℕ) → count ≡ length ids → Between a c TellsNothing
        → Did {T = T} (LeavesCommitted store) (λ _. ReadsGoing name ids store read) a b n m (Ok x)
        → Did {T = U} (SoundWith name time ids read) (λ _. DeletesWith name time ids read last) b c m k (Ok y)
        → Works (DeletesSound name time store) (λ count. Deletes name time store last count) a c n k (Ok count)
    works_done {T} {U} a b c n m k x y count is untold p q =
        works_ok (DeletesSound name time store) (λ (_ : U). Deletes name time store last (length ids)) (DeletesSound name time store)
        (λ (some : ℕ). Deletes name time store last some) a c n k y count (λ h g _ sound. sound)
        (λ h g deletes. subst (λ (some : ℕ). Deletes name time store last some h g) (sym is) deletes) untold
        (did_delete {T = T} {U = U} a b c n m k x (Ok y) p q)

    pub works_undone : {T U : Type 0} (a b c : Option Told) (n m k : ℕ) (x : T) (refusal : StoreRefusal) → Between a c TellsNothing
        → Did {T = T} (LeavesCommitted store) (λ _. ReadsGoing name ids store read) a b n m (Ok x)
        → Did {T = U} (SoundWith name time ids read) (λ _. DeletesWith name time ids read last) b c m k (Err refusal)
        → Works (DeletesSound name time store) (λ count. Deletes name time store last count) a c n k (Err (target_fault refusal))
    works_undone {T} {U} a b c n m k x refusal untold p q =
        works_err (DeletesSound name time store) (λ (_ : U). Deletes name time store last (length ids)) (DeletesSound name time store)
        (λ (some : ℕ). Deletes name time store last some) a c n k refusal (λ h g _ sound. sound) untold
        (did_delete {T = T} {U = U} a b c n m k x (Err refusal) p q)

    -- nothing is committed behind what was read
    leaves_behind : (h g i : History) → LeavesCommitted store h g → AllDone h g → ReadsGoing name ids store read h g → LeavesCommitted read g i
        → LeavesCommitted store h i
    leaves_behind h g i leaves done q later counts fits =
        let first = q.fits counts fits in
        moments_then (IsSound (ShowsStanding fits.written) counts) h g i (leaves counts fits) done
        (subst (λ (w : Written). Moments (IsSound (ShowsStanding w) counts) g i) first.1 (later counts first.0))

    pub keeps_behind : {T : Type 0} (a b c : Option Told) (n m : ℕ) (x : T) (refusal : StoreRefusal)
        → Did {T = T} (LeavesCommitted store) (λ _. ReadsGoing name ids store read) a b n m (Ok x)
        → (depot_failed refusal ≡ false → refusal ≢ Refusal.Memory → Between b c (LeavesCommitted read)) → IsOfWork (target_fault refusal)
        → Between a c (LeavesCommitted store)
    keeps_behind {T} a b c n m x refusal p keeps work =
        between_then a b c (λ h g. LeavesCommitted store h g × (AllDone h g × ReadsGoing name ids store read h g)) (LeavesCommitted read)
        (LeavesCommitted store) (λ h g i e f. leaves_behind h g i e.0 e.1.0 e.1.1 f)
        (between_both a b (LeavesCommitted store) (λ h g. AllDone h g × ReadsGoing name ids store read h g) p.each p.end)
        (keeps (sym (failed_target refusal) ∙ work.target) (λ memory. work.memory (ap target_fault memory)))

-- ---- refusals

-- behind what was read all archives read
pub all_read : (store read : Store) (name : List ℕ) (ids : List (List ℕ)) (a b : Option Told)
    → Between a b (λ h g. AllDone h g × ReadsGoing name ids store read h g) → IfSome a (λ t. AllRead (told_files t) (repo_view store.repo))
all_read store read name ids None b done = tt
all_read store read name ids (Some t) b done = let going = done.2.1.going in (going.reads, going.are_read)

module _ (told now : Option Told) (repo : RepoState) (name time : List ℕ) (named : IsNamed repo name) where
  -- What a refusal says.
  abbrev Refuses : CarryFault → Type 0
  Refuses fault = IfSome told (λ t. RefusesDelete (told_files t) repo name time now fault)

  -- what goes wasn't read
  pub read_refused : (refusal : StoreRefusal) → RefusesGoing told repo refusal → Refuses (target_fault refusal)
  read_refused (Refusal.Repo Repos.NoCommit) refused = IfSome_then told refused (λ t r. (named, r))
  read_refused (Refusal.Repo (Repos.Damaged segment at)) refused = IfSome_then told refused (λ t r. (named, r))
  read_refused (Refusal.Repo (Repos.Config f)) refused = IfSome_then told refused (λ t r. (named, r))
  read_refused (Refusal.Repo (Repos.Key f)) refused = IfSome_then told refused (λ t r. (named, r))
  read_refused (Refusal.Repo (Repos.Missing id)) refused = IfSome_then told refused (λ t r. (named, r))
  read_refused (Refusal.Repo (Repos.Blob id f)) refused = IfSome_then told refused (λ t r. (named, r))
  read_refused (Refusal.Repo (Repos.Manifest f)) refused = IfSome_then told refused (λ t r. (named, r))
  read_refused (Refusal.Repo (Repos.Archive id f)) refused = IfSome_then told refused (λ t r. (named, r))
  read_refused (Refusal.Repo (Repos.Item id f)) refused = IfSome_then told refused (λ t r. (named, r))
  read_refused (Refusal.Repo (Repos.Size id)) refused = IfSome_then told refused (λ t r. (named, r))
  read_refused (Refusal.Repo (Repos.KeyFile f)) refused = IfSome_then told refused (λ t r. (named, r))
  read_refused (Refusal.Repo (Repos.Other file config)) refused = IfSome_then told refused (λ t r. (named, r))
  read_refused (Refusal.Repo Repos.NoKey) refused = IfSome_then told refused (λ t r. (named, r))
  read_refused (Refusal.Repo Repos.Memory) refused = IfSome_then told refused (λ t r. (named, r))
  read_refused (Refusal.Repo Repos.Device) refused = told_any told (λ f. Unit {0}) (λ f. tt)
  read_refused (Refusal.Write fault) refused = absurd refused
  read_refused (Refusal.Nonce fault) refused = absurd refused
  read_refused Refusal.Committed refused = absurd refused
  read_refused Refusal.TooLarge refused = absurd refused
  read_refused Refusal.Entropy refused = absurd refused
  read_refused Refusal.Memory refused = told_any told (λ f. Unit {0}) (λ f. tt)

  -- it wasn't deleted
  pub delete_refused : (refusal : StoreRefusal) → IfSome told (λ t. AllRead (told_files t) repo) → RefusesWith repo name time now refusal
      → IfSome now (λ t. StopsAt t.history.start (told_files t) repo.keys refusal) → Refuses (target_fault refusal)
  delete_refused (Refusal.Repo fault) read refused stops = absurd refused
  delete_refused (Refusal.Write fault) read refused stops = IfSome_then told read (λ t r. (named, (r, stops)))
  delete_refused (Refusal.Nonce Nonces.Exhausted) read refused stops = IfSome_then told read (λ t r. (named, (r, refused)))
  delete_refused (Refusal.Nonce Nonces.Missing) read refused stops = IfSome_then told read (λ t r. (named, (r, stops)))
  delete_refused (Refusal.Nonce Nonces.Text) read refused stops = IfSome_then told read (λ t r. (named, (r, stops)))
  delete_refused (Refusal.Nonce Nonces.Device) read refused stops = IfSome_then told read (λ t r. (named, (r, stops)))
  delete_refused (Refusal.Nonce Nonces.Memory) read refused stops = IfSome_then told read (λ t r. (named, (r, stops)))
  delete_refused Refusal.Committed read refused stops = IfSome_then told read (λ t r. (named, (r, stops)))
  delete_refused Refusal.TooLarge read refused stops = IfSome_then told read (λ t r. (named, (r, refused)))
  delete_refused Refusal.Entropy read refused stops = IfSome_then told read (λ t r. (named, (r, stops)))
  delete_refused Refusal.Memory read refused stops = told_any told (λ f. Unit {0}) (λ f. tt)

-- ---- a refusal of what is read comes before anything is written

-- no device tells this
pub told_never : (E P : History → History → Type 0) (a b d : Option Told) → Between a b E → Between b d E → IfSome d (λ t. ⊥) → Between a d P
told_never E P None b d p q never = tt
told_never E P (Some t) b d p q never =
    let each = between_then (Some t) b d E E (λ h g. Unit {0}) (λ h g i e f. tt) p q in
    absurd (subst (λ (o : Option Told). IfSome o (λ t. ⊥)) each.1 never)

-- of what is written behind it
pub writing_never : (repo : RepoState) (name time : List ℕ) (keys : Keys) (now : Option Told) (refusal : StoreRefusal)
    → RefusesWith repo name time now refusal → IfSome now (λ t. StopsAt t.history.start (told_files t) keys refusal) → IsOfReading (target_fault refusal)
    → IfSome now (λ t. ⊥)
writing_never repo name time keys now (Refusal.Repo fault) refused stops of = absurd refused
writing_never repo name time keys now (Refusal.Nonce Nonces.Missing) refused stops of = stops
writing_never repo name time keys now (Refusal.Nonce Nonces.Text) refused stops of = stops
writing_never repo name time keys now (Refusal.Nonce Nonces.Exhausted) refused stops of = absurd of
writing_never repo name time keys now (Refusal.Nonce Nonces.Device) refused stops of = absurd of
writing_never repo name time keys now (Refusal.Nonce Nonces.Memory) refused stops of = absurd of
writing_never repo name time keys now (Refusal.Write fault) refused stops of = absurd of
writing_never repo name time keys now Refusal.Committed refused stops of = stops
writing_never repo name time keys now Refusal.TooLarge refused stops of = absurd of
writing_never repo name time keys now Refusal.Entropy refused stops of = absurd of
writing_never repo name time keys now Refusal.Memory refused stops of = absurd of
