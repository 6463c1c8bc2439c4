-- Lemmas on specs/Tagging.antt: what was read and written is a tagging, and why archives aren't tagged.
use Rattle.std.proofs.Common.{◌≡◌, ◌⊎◌, inl, inr, ℕ, Bool, List, [], ◌∷◌, length, Option, Some, None, Ok, Err, IfSome}
use Rattle.std.proofs.Common.{refl, sym, ◌∙◌, ap, subst}
use Rattle.ferry_check.specs.Report.{AreRead}
use Rattle.ferry_disk.proofs.FaultLemmas.{keeps_end}
use Rattle.ferry_disk.proofs.MomentLemmas.{between_both, between_map, between_then}
use Rattle.ferry_disk.specs.Act.{History, files_now}
use Rattle.ferry_disk.specs.Device.{KeepsTold, Told, told_files}
use Rattle.ferry_disk.specs.Files.{Files}
use Rattle.ferry_disk.specs.Moments.{Between, Moments}
use Rattle.ferry_piece.proofs.WorkLemmas.{works_err, works_ok, works_then}
use Rattle.ferry_piece.specs.Fault.{target_fault}
use Rattle.ferry_piece.specs.Work.{Works}
use Rattle.ferry_piece.specs.declared.fault.CarryFault.{CarryFault}
use Rattle.ferry_piece.specs.declared.fault.CarryFault.TheVariants as Carry
use Rattle.ferry_repo.specs.Fault.{repo_failed}
use Rattle.ferry_repo.specs.Opening.{FitsRepo, RepoState, cached_in, repo_view}
use Rattle.ferry_repo.specs.declared.repo.Repo.{Repo}
use Rattle.ferry_stops.specs.Tells.{TellsNothing}
use Rattle.ferry_store.proofs.ReadLemmas.{between_end, with_repo}
use Rattle.ferry_store.proofs.StepLemmas.{done_here, known_then, moments_then, same_told}
use Rattle.ferry_store.specs.Commit.{ReadsStore, accepted_in}
use Rattle.ferry_store.specs.State.{Did, IsSound, ShowsStanding, Written}
use Rattle.ferry_store.specs.Store.{IsUnspent, StoreFits}
use Rattle.ferry_store.specs.declared.fault.StoreRefusal.{StoreRefusal}
use Rattle.ferry_store.specs.declared.store.Store.{Store}
use Rattle.ferry_write.specs.Script.{AllDone}
use Rattle.ferry_refs.proofs.DropLemmas.{leaves_here}
use Rattle.ferry_refs.proofs.ReadLemmas.{fits_with}
use Rattle.ferry_refs.proofs.TagLemmas.{leaves_tagged}
use Rattle.ferry_refs.specs.Deleting.{LeavesCommitted}
use Rattle.ferry_refs.specs.TagSteps.{olds_view, ReadsOld, SoundTagged, TagsWith}
use Rattle.ferry_refs.specs.Tagging.{AreFreed, AreOld, HasTagged, NeedsNoTag, OldRecord, ShowsRenewed, Tags, TagsSound}
use Rattle.ferry_refs.specs.declared.untagged.OldRecords.{OldRecords}

-- ---- what was read

old_by : (olds : List OldRecord) (ids : List (List ℕ)) (store : Store) (repo : Repo) (h g : History) → repo_view repo ≡ repo_view store.repo → g ≡ h
    → AreOld (files_now h) (repo_view store.repo) (repo_view store.repo).manifest.archives olds → AreFreed (files_now h) (repo_view store.repo) ids
    → FitsRepo (files_now g) (repo_view repo) (cached_in repo) → ReadsOld olds ids store (with_repo store repo) h g
old_by olds ids store repo h g same_repo same old freed repo_fits =
    subst (λ (k : History). FitsRepo (files_now k) (repo_view repo) (cached_in repo) → ReadsOld olds ids store (with_repo store repo) h k) (sym same)
    (λ fits_here. record { same = refl; are_old = old; freed = freed; fits = λ counts fits. fits_with counts store repo h same_repo fits_here fits }) repo_fits

both_told : (told : Option Told) (P Q : Files → Type 0) → IfSome told (λ t. P (told_files t)) → IfSome told (λ t. Q (told_files t))
    → IfSome told (λ t. P (told_files t) × Q (told_files t))
both_told None P Q p q = tt
both_told (Some t) P Q p q = (p, q)

pub did_old : {T : Type 0} (olds : T → List OldRecord) (ids : T → List (List ℕ)) (store : Store) (repo : Repo) (a b : Option Told) (n m : ℕ) (x : T)
    → repo_view repo ≡ repo_view store.repo → KeepsTold {T = T} repo_failed a b (Ok x) → m ≡ n
    → IfSome b (λ t. FitsRepo (told_files t) (repo_view repo) (cached_in repo))
    → IfSome a (λ t. AreOld (told_files t) (repo_view store.repo) (repo_view store.repo).manifest.archives (olds x))
    → IfSome a (λ t. AreFreed (told_files t) (repo_view store.repo) (ids x))
    → Did {T = T} (LeavesCommitted store) (λ y. ReadsOld (olds y) (ids y) store (with_repo store repo)) a b n m (Ok x)
did_old {T} olds ids store repo a b n m x same_repo same caused repo_fits old freed =
    let now = with_repo store repo in
    let reads : Between a b (λ h g. g ≡ h) = same_told {T = T} repo_failed a b (Ok x) same in
    let Old : Files → Type 0 = λ f. AreOld f (repo_view store.repo) (repo_view store.repo).manifest.archives (olds x) in
    let Freed : Files → Type 0 = λ f. AreFreed f (repo_view store.repo) (ids x) in
    record {
      each = between_map a b (λ h g. g ≡ h) (LeavesCommitted store)
          (λ h g e. subst (LeavesCommitted store h) (sym e) (leaves_here store h)) reads;
      end = between_map a b
          (λ h g. ((Old (files_now h) × Freed (files_now h)) × (g ≡ h)) × FitsRepo (files_now g) (repo_view repo) (cached_in repo))
          (λ h g. AllDone h g × ReadsOld (olds x) (ids x) store now h g)
          (λ h g e. (
            subst (AllDone h) (sym e.0.1) (done_here h),
            old_by (olds x) (ids x) store repo h g same_repo e.0.1 e.0.0.0 e.0.0.1 e.1,
          ))
          (between_end (λ h. FitsRepo (files_now h) (repo_view repo) (cached_in repo))
          (λ h g. (Old (files_now h) × Freed (files_now h)) × (g ≡ h)) a b repo_fits
          (known_then (λ h. Old (files_now h) × Freed (files_now h)) (λ h g. g ≡ h) a b (both_told a Old Freed old freed) reads));
      ends = keeps_end {T = T} repo_failed a b (Ok x) same;
      cause = caused;
    }

-- ---- what was written behind it

module _ (time : List ℕ) (drawn drawn_now : Option (List ℕ)) (store read last : Store) (olds : List OldRecord) (ids : List (List ℕ))
    (same : repo_view read.repo ≡ repo_view store.repo) where
  -- they are so for the store that was read, too
  old_behind : (h g : History) → ReadsOld olds ids store read h g
      → AreOld (files_now g) (repo_view read.repo) (repo_view read.repo).manifest.archives olds
  old_behind h g q =
      subst (λ (r : RepoState). AreOld (files_now g) r r.manifest.archives olds) (sym same)
      (subst (λ (f : Files). AreOld f (repo_view store.repo) (repo_view store.repo).manifest.archives olds) (ap files_now (sym q.same)) q.are_old)

  freed_behind : (h g : History) → ReadsOld olds ids store read h g → AreFreed (files_now g) (repo_view read.repo) ids
  freed_behind h g q =
      subst (λ (r : RepoState). AreFreed (files_now g) r ids) (sym same)
      (subst (λ (f : Files). AreFreed f (repo_view store.repo) ids) (ap files_now (sym q.same)) q.freed)

  sound_behind : (h g i : History) → LeavesCommitted store h g → AllDone h g → ReadsOld olds ids store read h g → SoundTagged time olds ids read g i
      → TagsSound time store h i
  sound_behind h g i leaves done q sound counts fits =
      let first = q.fits counts fits in
      let later = sound (old_behind h g q) (freed_behind h g q) counts first.0 in
      moments_then (IsSound (ShowsRenewed (files_now h) (repo_view store.repo) time fits.written) counts) h g i
      (leaves_tagged time store h g leaves counts fits)
      done
      (subst (λ (w : Written). Moments (IsSound (ShowsRenewed (files_now h) (repo_view store.repo) time w) counts) g i) first.1
      (subst (λ (r : RepoState). Moments (IsSound (ShowsRenewed (files_now h) r time first.0.written) counts) g i) same
      (subst (λ (f : Files). Moments (IsSound (ShowsRenewed f (repo_view read.repo) time first.0.written) counts) g i) (ap files_now q.same) later)))

  tags_by : (h g i : History) (counts : Bool) (fits : StoreFits counts store h) (q : ReadsOld olds ids store read h g)
      → NeedsNoTag drawn drawn_now (repo_view read.repo) (length olds) g i
      ⊎ HasTagged counts time drawn drawn_now (files_now g) (repo_view read.repo) (q.fits counts fits).0.written last (length olds) i
      → NeedsNoTag drawn drawn_now (repo_view store.repo) (length olds) h i
      ⊎ HasTagged counts time drawn drawn_now (files_now h) (repo_view store.repo) fits.written last (length olds) i
  tags_by h g i counts fits q (inl none) =
      inl (record {
        none = subst (λ (r : RepoState). AreOld (files_now h) r r.manifest.archives []) same
            (subst (λ (f : Files). AreOld f (repo_view read.repo) (repo_view read.repo).manifest.archives []) (ap files_now q.same) none.none);
        reads = none.reads;
        are_read = subst (λ (r : RepoState). AreRead (files_now h) r r.manifest.archives none.reads) same
            (subst (λ (f : Files). AreRead f (repo_view read.repo) (repo_view read.repo).manifest.archives none.reads) (ap files_now q.same) none.are_read);
        count_is = none.count_is;
        undrawn = none.undrawn;
        same = none.same ∙ q.same;
      })
  tags_by h g i counts fits q (inr tagged) =
      let first = q.fits counts fits in
      inr (subst (λ (w : Written). HasTagged counts time drawn drawn_now (files_now h) (repo_view store.repo) w last (length olds) i) first.1
      (subst (λ (r : RepoState). HasTagged counts time drawn drawn_now (files_now h) r first.0.written last (length olds) i) same
      (subst (λ (f : Files). HasTagged counts time drawn drawn_now f (repo_view read.repo) first.0.written last (length olds) i) (ap files_now q.same) tagged)))

  tags_behind : (h g i : History) → ReadsOld olds ids store read h g → TagsWith time drawn drawn_now olds ids read last g i
      → Tags time drawn drawn_now store last (length olds) h i
  tags_behind h g i q tags counts fits =
      tags_by h g i counts fits q (tags (old_behind h g q) (freed_behind h g q) counts (q.fits counts fits).0)

  -- the two bodies
  pub works_tagged : {T U : Type 0} (a b c : Option Told) (n m k : ℕ) (x : T) (y : U) (count : ℕ) → count ≡ length olds → Between a b TellsNothing
      → Did {T = T} (LeavesCommitted store) (λ _. ReadsOld olds ids store read) a b n m (Ok x)
      → Works {T = U} (SoundTagged time olds ids read) (λ _. TagsWith time drawn drawn_now olds ids read last) b c m k (Ok y)
      → Works {T = ℕ} (TagsSound time store) (λ some. Tags time drawn drawn_now store last some) a c n k (Ok count)
  works_tagged {T} {U} a b c n m k x y count is untold p q =
      let both = works_then (LeavesCommitted store) (λ (_ : T). ReadsOld olds ids store read) (SoundTagged time olds ids read)
      (λ (_ : U). TagsWith time drawn drawn_now olds ids read last) (TagsSound time store)
      (λ (_ : U). Tags time drawn drawn_now store last (length olds)) a b c n m k x (Ok y)
      (λ h g i leaves done r sound. sound_behind h g i leaves done r sound) (λ _ h g i r tags. tags_behind h g i r tags)
      (works_ok (LeavesCommitted store) (λ (_ : T). ReadsOld olds ids store read) (LeavesCommitted store) (λ (_ : T). ReadsOld olds ids store read) a b n m x x
      (λ h g _ e. e) (λ h g e. e) untold p) q in
      record {
        each = both.each;
        end = between_map a c (λ h g. AllDone h g × Tags time drawn drawn_now store last (length olds) h g)
            (λ h g. AllDone h g × Tags time drawn drawn_now store last count h g)
            (λ h g e. (e.0, subst (λ (some : ℕ). Tags time drawn drawn_now store last some h g) (sym is) e.1)) both.end;
        ends = both.ends;
        cause = both.cause;
      }

  pub works_untagged : {T U : Type 0} (a b c : Option Told) (n m k : ℕ) (x : T) (fault : CarryFault) → Between a b TellsNothing
      → Did {T = T} (LeavesCommitted store) (λ _. ReadsOld olds ids store read) a b n m (Ok x)
      → Works {T = U} (SoundTagged time olds ids read) (λ _. TagsWith time drawn drawn_now olds ids read last) b c m k (Err fault)
      → Works {T = ℕ} (TagsSound time store) (λ some. Tags time drawn drawn_now store last some) a c n k (Err fault)
  works_untagged {T} {U} a b c n m k x fault untold p q =
      let both = works_then (LeavesCommitted store) (λ (_ : T). ReadsOld olds ids store read) (SoundTagged time olds ids read)
      (λ (_ : U). TagsWith time drawn drawn_now olds ids read last) (TagsSound time store) (λ (_ : U) (h : History) (g : History). Unit {0}) a b c n m k x
      (Err fault)
      (λ h g i leaves done r sound. sound_behind h g i leaves done r sound) (λ _ h g i r tags. tt)
      (works_ok (LeavesCommitted store) (λ (_ : T). ReadsOld olds ids store read) (LeavesCommitted store) (λ (_ : T). ReadsOld olds ids store read) a b n m x x
      (λ h g _ e. e) (λ h g e. e) untold p) q in
      record { each = both.each; end = tt; ends = both.ends; cause = both.cause }

  -- nothing is committed behind what was read
  pub untagged_keeps : {T : Type 0} (a b c : Option Told) (n m : ℕ) (x : T)
      → Did {T = T} (LeavesCommitted store) (λ _. ReadsOld olds ids store read) a b n m (Ok x) → Between b c (LeavesCommitted read)
      → Between a c (LeavesCommitted store)
  untagged_keeps {T} a b c n m x p keeps =
      between_then a b c (λ h g. LeavesCommitted store h g × (AllDone h g × ReadsOld olds ids store read h g)) (LeavesCommitted read) (LeavesCommitted store)
      (λ h g i e f counts fits.
      let first = e.1.1.fits counts fits in
      moments_then (IsSound (ShowsStanding fits.written) counts) h g i (e.0 counts fits) e.1.0
      (subst (λ (w : Written). Moments (IsSound (ShowsStanding w) counts) g i) first.1 (f counts first.0)))
      (between_both a b (LeavesCommitted store) (λ h g. AllDone h g × ReadsOld olds ids store read h g) p.each p.end) keeps

-- where each record has a tag
pub works_needless : {T : Type 0} (time : List ℕ) (drawn drawn_now : Option (List ℕ)) (store read : Store) (olds : List OldRecord)
    (ids : List (List ℕ)) (a b : Option Told) (n m : ℕ) (x : T) → drawn_now ≡ drawn → olds ≡ [] → Between a b TellsNothing
    → Did {T = T} (LeavesCommitted store) (λ _. ReadsOld olds ids store read) a b n m (Ok x)
    → Works {T = ℕ} (TagsSound time store) (λ some. Tags time drawn drawn_now store read some) a b n m (Ok 0)
works_needless {T} time drawn drawn_now store read olds ids a b n m x undrawn none untold p =
    works_ok (LeavesCommitted store) (λ (_ : T). ReadsOld olds ids store read) (TagsSound time store)
    (λ (some : ℕ). Tags time drawn drawn_now store read some) a b n m x 0
    (λ h g _ leaves. leaves_tagged time store h g leaves)
    (λ h g q counts fits.
    inl (record {
      none = subst (AreOld (files_now h) (repo_view store.repo) (repo_view store.repo).manifest.archives) none q.are_old;
      reads = q.freed.reads;
      are_read = q.freed.are_read;
      count_is = refl;
      undrawn = undrawn;
      same = q.same;
    })) untold p

-- where they weren't read
pub works_unread : {T U : Type 0} (Q1 : T → History → History → Type 0) (Q : U → History → History → Type 0) (time : List ℕ) (store : Store)
    (a b : Option Told) (n m : ℕ) (refusal : StoreRefusal) → Between a b TellsNothing → Did {T = T} (LeavesCommitted store) Q1 a b n m (Err refusal)
    → Works {T = U} (TagsSound time store) Q a b n m (Err (target_fault refusal))
works_unread {T} {U} Q1 Q time store a b n m refusal untold p =
    works_err (LeavesCommitted store) Q1 (TagsSound time store) Q a b n m refusal (λ h g _ leaves. leaves_tagged time store h g leaves) untold p

-- where memory was refused behind it
pub works_untimed : {T U : Type 0} (Q1 : T → History → History → Type 0) (Q : U → History → History → Type 0) (time : List ℕ) (store : Store)
    (a b : Option Told) (n m : ℕ) (x : T) → Did {T = T} (LeavesCommitted store) Q1 a b n m (Ok x)
    → Works {T = U} (TagsSound time store) Q a b n m (Err Carry.Memory)
works_untimed {T} {U} Q1 Q time store a b n m x p = record {
  each = between_map a b (LeavesCommitted store) (TagsSound time store) (λ h g leaves. leaves_tagged time store h g leaves) p.each;
  end = tt;
  ends = p.ends;
  cause = p.cause;
}

-- ---- the steps of a body

-- a list without length
pub no_items : {X : Type 0} (xs : List X) → length xs ≡ 0 → xs ≡ []
no_items [] none = refl
no_items (x ∷ xs) none = absurd (let no : ⊥ = cc in no)

-- what was read, of what was answered
pub at_old : (store read : Store) (old : OldRecords) {a b : Option Told} {n m : ℕ}
    → Did {T = OldRecords} (LeavesCommitted store) (λ x. ReadsOld (olds_view x.untagged.items) x.freed.items store read) a b n m (Ok old)
    → Did {T = OldRecords} (LeavesCommitted store) (λ _. ReadsOld (olds_view old.untagged.items) old.freed.items store read) a b n m (Ok old)
at_old store read old p = record { each = p.each; end = p.end; ends = p.ends; cause = p.cause }

pub read_unspent : (store read : Store) → ReadsStore store read → IsUnspent store → IsUnspent read
read_unspent store read reads unspent =
    subst IsUnspent (sym reads.rest) (record { session = unspent.session; counter = unspent.counter; itself = unspent.itself })

pub read_accepted : (store read : Store) → ReadsStore store read → accepted_in read ≡ accepted_in store
read_accepted store read reads = ap (λ (s : Store). accepted_in s) reads.rest
