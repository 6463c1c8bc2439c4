-- Lemmas on specs/Putting.antt: what a transfer put is the first of what is added, at each moment and where it is refused.
use Rattle.std.proofs.Common.{◌≡◌, inl, inr, ℕ, Bool, true, false, List, [], Option, Some, None, Ok, Err, refl, sym, ◌∙◌, ap, subst, IfSome}
use Rattle.std.proofs.lemmas.List.{append-nil}
use Rattle.ferry_carry.specs.Carrying.{Origin}
use Rattle.ferry_carry.specs.Flight.{origin_of}
use Rattle.ferry_carry.specs.Listing.{BeginsNames}
use Rattle.ferry_carry.specs.Telling.{BeginsAll, IsReportedOf, KeepsReported, ReportsWhole}
use Rattle.ferry_carry.specs.declared.options.Options.{Options}
use Rattle.ferry_disk.proofs.MomentLemmas.{between_both, between_map, between_then}
use Rattle.ferry_disk.specs.Act.{History, files_now}
use Rattle.ferry_disk.specs.Device.{Told, told_files}
use Rattle.ferry_disk.specs.Files.{Files}
use Rattle.ferry_disk.specs.Moments.{Between}
use Rattle.ferry_nonce.specs.declared.fault.NonceFault.TheVariants as Nonces
use Rattle.ferry_piece.proofs.AddingLemmas.{holds_until}
use Rattle.ferry_piece.proofs.PutsLemmas.{allows_settled, first_at}
use Rattle.ferry_piece.proofs.PendingLemmas.{shown_none}
use Rattle.ferry_piece.proofs.WorkLemmas.{between_known}
use Rattle.ferry_piece.specs.Adding.{HoldsUntil, SparesStore}
use Rattle.ferry_piece.specs.Fault.{target_fault}
use Rattle.ferry_piece.specs.Front.{HoldsFront}
use Rattle.ferry_piece.specs.Puts.{Addition, AddsFirst, AtBegin, Border, Within, border_behind}
use Rattle.ferry_piece.specs.Stops.{is_target}
use Rattle.ferry_piece.specs.declared.fault.CarryFault.{CarryFault}
use Rattle.ferry_piece.specs.declared.fault.CarryFault.TheVariants as Carry
use Rattle.ferry_repo.proofs.LawLemmas.{one_repo, repo_apart}
use Rattle.ferry_repo.specs.Opening.{OpensFilesTo, RefusesRepo, RepoState, repo_view}
use Rattle.ferry_repo.specs.declared.fault.RepoFault.{RepoFault}
use Rattle.ferry_repo.specs.declared.fault.RepoFault.TheVariants as Repos
use Rattle.ferry_segment.specs.Entry.{LogEntry}
use Rattle.ferry_stops.proofs.EntryLemmas.{one_shown}
use Rattle.ferry_stops.specs.Counters.{IsNonce}
use Rattle.ferry_stops.specs.Entries.{Shows}
use Rattle.ferry_store.proofs.StepLemmas.{here_each, moments_here, moments_map, moments_then}
use Rattle.ferry_store.specs.Commit.{accepted_in, IsSettled}
use Rattle.ferry_store.specs.Standing.{entries_of}
use Rattle.ferry_store.specs.State.{HasNumber, Did}
use Rattle.ferry_store.specs.Store.{OpenEach, OpenFits, RefusesOpen}
use Rattle.ferry_store.specs.declared.fault.StoreRefusal.{StoreRefusal}
use Rattle.ferry_store.specs.declared.fault.StoreRefusal.TheVariants as Store
use Rattle.ferry_store.specs.declared.store.Store.{Store as StoreOf}
use Rattle.ferry_run_transfer.proofs.CarriedLemmas.{begun_of}
use Rattle.ferry_run_transfer.specs.Putting.{HasPart, LeavesFirst, PutsFirst, TransferPuts, is_spared}
use Rattle.ferry_run_transfer.specs.Transfer.{Request, asked, chosen_of}
use Rattle.ferry_status.specs.Status.{carry_status}
use Rattle.ferry_status.specs.declared.status.Secrets.{Secrets}
use Rattle.ferry_write.proofs.FrontLemmas.{session_entries}
use Rattle.ferry_write.specs.Front.{HasEntries, HasFront, LeavesSegments, OnlyRemoves}
use Rattle.ferry_write.specs.Script.{AllDone}
use Rattle.ferry_write.specs.declared.fault.WriteFault.TheVariants as Writes
use Rattle.ferry_carry.specs.States.{target_state, drawn_from}

-- ---- the status of a refusal

target_spared : (fault : RepoFault) → is_spared (carry_status (Carry.Target (Store.Repo fault))) ≡ true → SparesStore (Carry.Target (Store.Repo fault))
target_spared fault e = refl

-- such a refusal doesn't spend the store
pub spared_store : (fault : CarryFault) → is_spared (carry_status fault) ≡ true → SparesStore fault
spared_store (Carry.Source fault) e = tt
spared_store (Carry.Target (Store.Repo fault)) e = target_spared fault e
spared_store (Carry.Target (Store.Write Writes.Device)) e = absurd (let no : ⊥ = cc in no)
spared_store (Carry.Target (Store.Write Writes.Memory)) e = absurd (let no : ⊥ = cc in no)
spared_store (Carry.Target (Store.Write Writes.Numbers)) e = absurd (let no : ⊥ = cc in no)
spared_store (Carry.Target (Store.Nonce Nonces.Missing)) e = refl
spared_store (Carry.Target (Store.Nonce Nonces.Text)) e = refl
spared_store (Carry.Target (Store.Nonce Nonces.Exhausted)) e = refl
spared_store (Carry.Target (Store.Nonce Nonces.Device)) e = absurd (let no : ⊥ = cc in no)
spared_store (Carry.Target (Store.Nonce Nonces.Memory)) e = refl
spared_store (Carry.Target Store.Committed) e = refl
spared_store (Carry.Target Store.TooLarge) e = refl
spared_store (Carry.Target Store.Entropy) e = refl
spared_store (Carry.Target Store.Memory) e = absurd (let no : ⊥ = cc in no)
spared_store (Carry.Taken name) e = tt
spared_store (Carry.NotFound name) e = tt
spared_store Carry.Pieces e = tt
spared_store Carry.Memory e = absurd (let no : ⊥ = cc in no)
spared_store Carry.Record e = tt

-- ---- where the target wasn't opened

-- files that open aren't refused so
repo_spared : (files : Files) (request : Request) (repo : RepoState) (fault : RepoFault) → OpensFilesTo files request.secrets.target repo
    → RefusesRepo files request.secrets.target fault → is_spared (carry_status (Carry.Target (Store.Repo fault))) ≡ true → ⊥
repo_spared files request repo Repos.NoCommit opens refused e = repo_apart files request.secrets.target repo Repos.NoCommit opens tt refused
repo_spared files request repo (Repos.Damaged segment at) opens refused e =
    repo_apart files request.secrets.target repo (Repos.Damaged segment at) opens tt refused
repo_spared files request repo (Repos.Config f) opens refused e = repo_apart files request.secrets.target repo (Repos.Config f) opens tt refused
repo_spared files request repo (Repos.Key f) opens refused e = repo_apart files request.secrets.target repo (Repos.Key f) opens tt refused
repo_spared files request repo (Repos.Missing id) opens refused e = repo_apart files request.secrets.target repo (Repos.Missing id) opens tt refused
repo_spared files request repo (Repos.Blob id f) opens refused e = repo_apart files request.secrets.target repo (Repos.Blob id f) opens tt refused
repo_spared files request repo (Repos.Manifest f) opens refused e = repo_apart files request.secrets.target repo (Repos.Manifest f) opens tt refused
repo_spared files request repo (Repos.Archive id f) opens refused e = repo_apart files request.secrets.target repo (Repos.Archive id f) opens tt refused
repo_spared files request repo (Repos.Item id f) opens refused e = repo_apart files request.secrets.target repo (Repos.Item id f) opens tt refused
repo_spared files request repo (Repos.Size id) opens refused e = repo_apart files request.secrets.target repo (Repos.Size id) opens tt refused
repo_spared files request repo (Repos.KeyFile f) opens refused e = repo_apart files request.secrets.target repo (Repos.KeyFile f) opens tt refused
repo_spared files request repo (Repos.Other file config) opens refused e =
    repo_apart files request.secrets.target repo (Repos.Other file config) opens tt refused
repo_spared files request repo Repos.NoKey opens refused e = repo_apart files request.secrets.target repo Repos.NoKey opens tt refused
repo_spared files request repo Repos.Device opens refused e = let no : ⊥ = cc in no
repo_spared files request repo Repos.Memory opens refused e = let no : ⊥ = cc in no

-- neither are they where their file `nonce` has a number
open_spared : (files : Files) (request : Request) (repo : RepoState) (refusal : StoreRefusal) → OpensFilesTo files request.secrets.target repo
    → HasNumber files → RefusesOpen request.secrets.target files refusal → is_spared (carry_status (target_fault refusal)) ≡ true → ⊥
open_spared files request repo (Store.Repo fault) opens number refused e = repo_spared files request repo fault opens refused e
open_spared files request repo (Store.Write Writes.Device) opens number refused e = let no : ⊥ = cc in no
open_spared files request repo (Store.Write Writes.Memory) opens number refused e = let no : ⊥ = cc in no
open_spared files request repo (Store.Write Writes.Numbers) opens number refused e = refused
open_spared files request repo (Store.Nonce Nonces.Missing) opens number refused e =
    let never : None ≡ Some number.text = sym refused.1.0 ∙ number.nonce in
    let no : ⊥ = cc in
    no
open_spared files request repo (Store.Nonce Nonces.Text) opens number refused e =
    refused.1 number.number (subst (λ (o : Option (List ℕ)). IsNonce o number.number) (sym number.nonce) number.spelled)
open_spared files request repo (Store.Nonce Nonces.Exhausted) opens number refused e = refused.1
open_spared files request repo (Store.Nonce Nonces.Device) opens number refused e = let no : ⊥ = cc in no
open_spared files request repo (Store.Nonce Nonces.Memory) opens number refused e = let no : ⊥ = cc in no
open_spared files request repo Store.Committed opens number refused e = refused
open_spared files request repo Store.TooLarge opens number refused e = refused
open_spared files request repo Store.Entropy opens number refused e = let no : ⊥ = cc in no
open_spared files request repo Store.Memory opens number refused e = let no : ⊥ = cc in no

pub unopened_first : (request : Request) (Q : StoreOf → History → History → Type 0) (a b : Option Told) (n m : ℕ) (refusal : StoreRefusal)
    → Did OpenEach Q a b n m (Err refusal) → IfSome a (λ t. RefusesOpen request.secrets.target (told_files t) refusal)
    → is_spared (carry_status (target_fault refusal)) ≡ true → Between a b (LeavesFirst request)
unopened_first request Q a b n m refusal opened refused e =
    let Refuses : History → Type 0 = λ h. RefusesOpen request.secrets.target (files_now h) refusal in
    between_map a b (λ h g. Refuses h × OpenEach h g) (LeavesFirst request)
    (λ h g known begun repo opens number. absurd (open_spared (files_now h) request repo refusal opens number known.0 e))
    (between_known Refuses OpenEach a b refused opened.each)

-- at each moment of an opening that is refused nothing is put
pub unopened_puts : (request : Request) (a b : Option Told) → Between a b OnlyRemoves → Between a b (TransferPuts request)
unopened_puts request a b removes =
    between_map a b OnlyRemoves (TransferPuts request) (λ h g leaves begun repo opens.
    moments_map (λ k. LeavesSegments (files_now h) (files_now k)) (λ k. HasPart request (files_now h) (files_now k)) h g (λ k same. inl same) leaves) removes

pub untouched_puts : (request : Request) (a : Option Told) → Between a a (TransferPuts request)
untouched_puts request a =
    here_each (TransferPuts request) a
    (λ h begun repo opens. moments_here (λ k. HasPart request (files_now h) (files_now k)) h (inl (λ n. inl refl)))

-- where the target wasn't touched
pub untouched_first : (request : Request) (a : Option Told) → Between a a (LeavesFirst request)
untouched_first request a = here_each (LeavesFirst request) a (λ h begun repo opens number. inl refl)

-- ---- where it was

-- however it was refused, the first of what was added is written
until_first : (target : Bool) (at : Border) (most : ℕ) (store now : StoreOf) (added : List Addition) (h g : History)
    → HoldsUntil target at most store added now h g → HoldsUntil true at most store added now h g
until_first true at most store now added h g all = all
until_first false at most store now added h g all = holds_until true at most store now added h g all

-- what was asked, over a source that opened to a repository, with the names that it chose
module _ (secrets : Secrets) (options : Options) (names : List (List ℕ)) (source : RepoState) (told : Option Told) (chosen : List (List ℕ))
    (source_opens : IfSome told (λ t. OpensFilesTo (told_files t) secrets.source source)) (chosen_is : chosen ≡ chosen_of names source.manifest) where
  abbrev request : Request
  request = asked secrets options names told

  abbrev from : Origin
  from = origin_of told source options

  -- what goes on from what was committed, behind which nothing was pending, goes on within
  puts_first : (store : StoreOf) (Has : List LogEntry → Type 0) (added : List Addition) (entries : List LogEntry) (h : History) → IsSettled store
      → OpensFilesTo (files_now h) secrets.target (repo_view store.repo) → (committed : List LogEntry) → Shows (files_now h) (Some committed)
      → BeginsNames from (repo_view store.repo).keys (accepted_in store) [] chosen added → Has entries
      → AddsFirst AtBegin (repo_view store.repo).keys options.checkpoint committed added entries → PutsFirst request (files_now h) Has
  puts_first store Has added entries h settled opens committed shown_so begins has first =
      let state = repo_view store.repo in
      record {
        begun = added;
        begins = begun_of secrets options names source told chosen (accepted_in store) (files_now h) state added source_opens chosen_is settled opens begins;
        puts = λ before other others shown.
            let both : Some committed ≡ Some others = one_shown (files_now h) (Some committed) (Some others) shown_so shown in
            let same : committed ≡ others = cc in (
              entries,
              (
                has,
                subst (λ (front : List LogEntry). AddsFirst Within before.keys options.checkpoint front added entries) same
                    (subst (λ (r : RepoState). AddsFirst Within r.keys options.checkpoint committed added entries)
                    (one_repo (files_now h) secrets.target state before opens other)
                    (first_at AtBegin Within state.keys options.checkpoint committed added entries
                    (allows_settled Within committed (shown_none (files_now h) committed shown_so)) first)),
              ),
            );
      }

  -- a front of what goes on so
  puts_part : (store : StoreOf) (added : List Addition) (h : History) (files : Files) → IsSettled store
      → OpensFilesTo (files_now h) secrets.target (repo_view store.repo) → (committed : List LogEntry) → Shows (files_now h) (Some committed)
      → BeginsNames from (repo_view store.repo).keys (accepted_in store) [] chosen added
      → HoldsFront (border_behind AtBegin []) (repo_view store.repo).keys options.checkpoint committed added files → HasPart request (files_now h) files
  unfolding HoldsFront border_behind
  puts_part store added h files settled opens committed shown begins read =
      inr (puts_first store (HasFront files) added read.0 h settled opens committed shown begins read.1.0 read.1.1)

  -- the opening removes what stands behind the last commit, and then archives come
  puts_then : (store : StoreOf) (added : List Addition) (h g i : History) → IsSettled store → OpensFilesTo (files_now h) secrets.target (repo_view store.repo)
      → OnlyRemoves h g → AllDone h g → OpenFits store h g → BeginsNames from (repo_view store.repo).keys (accepted_in store) [] chosen added
      → KeepsReported from chosen store added g i → TransferPuts request h i
  puts_then store added h g i settled opens removes done fits begins reported begun repo opens_to =
      let o = fits false begun (λ c. absurd (let no : ⊥ = cc in no)) in
      let keys = (repo_view store.repo).keys in
      let all : entries_of o.fits.written ≡ o.committed = ap entries_of o.found_is ∙ append-nil o.committed in
      let Part : History → Type 0 = λ k. HasPart request (files_now h) (files_now k) in
      let Reported : History → Type 0 = IsReportedOf from chosen store added o.fits.written false g in
      moments_then Part h g i (moments_map (λ k. LeavesSegments (files_now h) (files_now k)) Part h g (λ k leaves. inl leaves) removes) done
      (moments_map Reported Part g i
      (λ k at.
      puts_part store added h (files_now k) settled opens o.committed o.shown begins
      (subst (λ (front : List LogEntry). HoldsFront (border_behind AtBegin []) keys options.checkpoint front added (files_now k)) all at.sound.read))
      (reported false o.fits))

  -- however the copying ended
  pub carried_puts : (store : StoreOf) (a b d : Option Told) (n m : ℕ) → IsSettled store
      → IfSome a (λ t. OpensFilesTo (files_now t.history) secrets.target (repo_view store.repo)) → Between a b OnlyRemoves
      → Did OpenEach OpenFits a b n m (Ok store) → (added : List Addition) → BeginsAll b from store chosen added
      → Between b d (KeepsReported from chosen store added) → Between a d (TransferPuts request)
  carried_puts store a b d n m settled opens removes opened added begins each =
      let Opens : History → Type 0 = λ h. OpensFilesTo (files_now h) secrets.target (repo_view store.repo) in
      let Ended : History → History → Type 0 = λ h g. OnlyRemoves h g × (AllDone h g × OpenFits store h g) in
      let Begun : History → Type 0 = λ _. BeginsNames from (repo_view store.repo).keys (accepted_in store) [] chosen added in
      between_then a b d (λ h g. Opens h × Ended h g) (λ g i. Begun g × KeepsReported from chosen store added g i) (TransferPuts request)
      (λ h g i p q. puts_then store added h g i settled p.0 p.1.0 p.1.1.0 p.1.1.1 q.0 q.1)
      (between_known Opens Ended a b opens (between_both a b OnlyRemoves (λ h g. AllDone h g × OpenFits store h g) removes opened.end))
      (between_known Begun (KeepsReported from chosen store added) b d begins each)

  stopped_at : (target : Bool) (store now : StoreOf) (added : List Addition) (h g i : History) → IsSettled store
      → OpensFilesTo (files_now h) secrets.target (repo_view store.repo) → OpenFits store h g
      → BeginsNames from (repo_view store.repo).keys (accepted_in store) [] chosen added
      → HoldsUntil target AtBegin options.checkpoint store added now g i → LeavesFirst request h i
  stopped_at target store now added h g i settled opens fits begins held begun repo opens_to number =
      let o = fits false begun (λ c. absurd (let no : ⊥ = cc in no)) in
      let state = repo_view store.repo in
      let end = until_first target AtBegin options.checkpoint store now added g i held false o.fits in
      let entries = entries_of end.0 in
      let all : entries_of o.fits.written ≡ o.committed = ap entries_of o.found_is ∙ append-nil o.committed in
      let first : AddsFirst AtBegin state.keys options.checkpoint o.committed added entries =
      subst (λ (front : List LogEntry). AddsFirst AtBegin state.keys options.checkpoint front added entries) all end.1.1 in
      inr (puts_first store (HasEntries (files_now i)) added entries h settled opens o.committed o.shown begins
      (session_entries now.session end.0.committed end.0.pending i end.1.0.fits) first)

  -- the copying was refused
  pub stopped_first : (store now : StoreOf) (a b d : Option Told) (n m k : ℕ) (x y : Option (List ℕ)) (fault : CarryFault) → IsSettled store
      → IfSome a (λ t. OpensFilesTo (files_now t.history) secrets.target (repo_view store.repo)) → Did OpenEach OpenFits a b n m (Ok store)
      → ReportsWhole from chosen (target_state b m store) (target_state d k now) (drawn_from x y) (Err fault) → is_spared (carry_status fault) ≡ true
      → Between a d (LeavesFirst request)
  stopped_first store now a b d n m k x y fault settled opens opened carried e =
      let added = carried.added in
      let target = is_target fault in
      let Opens : History → Type 0 = λ h. OpensFilesTo (files_now h) secrets.target (repo_view store.repo) in
      let Ended : History → History → Type 0 = λ h g. AllDone h g × OpenFits store h g in
      let Begun : History → Type 0 = λ _. BeginsNames from (repo_view store.repo).keys (accepted_in store) [] chosen added in
      let Held : History → History → Type 0 = HoldsUntil target AtBegin options.checkpoint store added now in
      between_then a b d (λ h g. Opens h × Ended h g) (λ g i. Begun g × Held g i) (LeavesFirst request)
      (λ h g i p q. stopped_at target store now added h g i settled p.0 p.1.1 q.0 q.1)
      (between_known Opens Ended a b opens opened.end) (between_known Begun Held b d carried.begins (carried.held (spared_store fault e)).1)
