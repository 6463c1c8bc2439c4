-- Lemmas on specs/Delete.antt: what is there where an archive was deleted, and that it was told.
use Rattle.std.proofs.Common.{◌≡◌, ◌⊎◌, inl, inr, ℕ, Bool, true, false, List, [], ◌∷◌, ◌++◌, Option, Some, None, is_some, Result, Ok, Err}
use Rattle.std.proofs.Common.{IfSome, OnOk, refl, sym, ◌∙◌, ap, subst}
use Rattle.ferry_check.specs.Verify.{IsNamed}
use Rattle.ferry_disk.proofs.MomentLemmas.{between_both, between_map, between_then}
use Rattle.ferry_disk.specs.Act.{TellOf, History, files_now, with_act}
use Rattle.ferry_disk.specs.Device.{RoseWhere, Told, told_files}
use Rattle.ferry_disk.specs.Faults.{FailedWhere}
use Rattle.ferry_disk.specs.Files.{Files}
use Rattle.ferry_disk.specs.Moments.{Between}
use Rattle.ferry_piece.proofs.FaultLemmas.{failed_target}
use Rattle.ferry_piece.proofs.WorkLemmas.{works_both, works_err, works_ok, works_then}
use Rattle.ferry_piece.specs.Fault.{target_fault}
use Rattle.ferry_piece.specs.Work.{Works}
use Rattle.ferry_piece.specs.declared.fault.CarryFault.{CarryFault}
use Rattle.ferry_piece.specs.declared.fault.CarryFault.TheVariants as Carry
use Rattle.ferry_refs.proofs.DeletedLemmas.{deleted_keeps}
use Rattle.ferry_refs.proofs.SameLemmas.{going_same}
use Rattle.ferry_refs.specs.Deleting.{Deletes, DeletesSound, LeavesCommitted, ShowsDeleted, next_without, time_of, with_deleted}
use Rattle.ferry_manifest.specs.declared.manifest.ArchiveRef.{ArchiveRef}
use Rattle.ferry_repo.specs.Archives.{archive_named}
use Rattle.ferry_repo.specs.Opening.{OpensFilesTo, RepoState, repo_view}
use Rattle.ferry_run_delete.proofs.ShowLemmas.{DeleteEach, LeavesEach, all_left, each_deleted, each_opened, each_told, leaves_each, lie_before, lie_behind}
use Rattle.ferry_run_delete.proofs.ShowLemmas.{Deletion, standing_now}
use Rattle.ferry_run_delete.specs.Delete.{HasDeleted, LeavesOthers, deleted_line}
use Rattle.ferry_run_delete.specs.Steps.{GoesAway}
use Rattle.ferry_status.proofs.TellLemmas.{settled_some, tells_same}
use Rattle.ferry_status.specs.Opened.{LeavesAll}
use Rattle.ferry_stops.proofs.TellLemmas.{line_told}
use Rattle.ferry_stops.specs.Tells.{TellsNothing, lines_of}
use Rattle.ferry_store.proofs.StepLemmas.{did_known}
use Rattle.ferry_store.specs.Standing.{CommitsManifest, with_manifest}
use Rattle.ferry_store.specs.State.{Did, IsStep, ShowsStanding, Written, found}
use Rattle.ferry_store.specs.Store.{OpenEach, OpenFits, OpensFound}
use Rattle.ferry_store.specs.declared.fault.StoreRefusal.{StoreRefusal}
use Rattle.ferry_store.specs.declared.store.Store.{Store}
use Rattle.ferry_write.specs.Script.{AllDone}

-- ---- the end of the deletion

goes_then : (asked : Deletion) (store now : Store) (count : ℕ) (h g i : History) → OpensFilesTo (files_now h) asked.secret (repo_view store.repo)
    → IsNamed (repo_view store.repo) asked.name → TellsNothing h g → OpenFits store h g → TellsNothing g i
    → Deletes asked.name (time_of asked.timestamp (repo_view store.repo).manifest) store now count g i
    → GoesAway asked.secret asked.name asked.timestamp count h i
goes_then asked store now count h g i opens there untold fits untold_then deletes begun =
    let repo = repo_view store.repo in
    let time = time_of asked.timestamp repo.manifest in
    let o : OpensFound false store h g = fits false begun (λ c. absurd (let no : ⊥ = cc in no)) in
    let d = deletes false o.fits in
    let going = going_same (files_now g) (files_now h) repo asked.name d.ids (lie_before asked store h g opens false o)
    (lie_behind asked store h g opens false o) d.going in
    let next = with_manifest repo (next_without repo.manifest asked.name time) in
    let written : d.fits.written ≡ with_deleted (found (Some o.committed) (files_now h)) d.ids d.blob =
    d.written_is ∙ ap (λ (w : Written). with_deleted w d.ids d.blob) o.found_is in
    let shows : ShowsStanding (with_deleted (found (Some o.committed) (files_now h)) d.ids d.blob) (files_now i) =
    subst (λ (w : Written). ShowsStanding w (files_now i)) written (standing_now false now d.fits.written i d.fits.under_way) in
    let manifest : CommitsManifest next (with_deleted (found (Some o.committed) (files_now h)) d.ids d.blob).committed =
    subst (λ (w : Written). CommitsManifest next w.committed) written
    (subst (λ (r : RepoState). CommitsManifest r d.fits.written.committed) d.repo_is (d.fits.manifest refl)) in
    let shown : ShowsDeleted (files_now h) repo asked.name time (found (Some o.committed) (files_now h)) (files_now i) =
    record { ids = d.ids; going = going; blob = d.blob; shows = shows; manifest = manifest } in
    record {
      repo = repo;
      opens = opens;
      there = there;
      left = deleted_keeps asked.secret (files_now h) (files_now i) repo asked.name time o.committed opens o.shown shown;
      ids = d.ids;
      going = going;
      count_is = d.count_is;
      untold = untold_then ∙ untold;
      settled_is = d.fits.under_way.fits.own.safe.settled_is;
    }

-- that is told
ends_then : (asked : Deletion) (count : ℕ) (h g i : History) → GoesAway asked.secret asked.name asked.timestamp count h g
    → i ≡ with_act (TellOf (deleted_line asked.name count)) true g
    → (h.acts ≡ [] → HasDeleted asked.secret asked.name asked.timestamp h i)
ends_then asked count h g i goes is begun =
    let gone = goes begun in
    let line = deleted_line asked.name count in
    let files : files_now i ≡ files_now g = ap files_now is ∙ tells_same line g in
    record {
      repo = gone.repo;
      opens = gone.opens;
      there = gone.there;
      left = subst (λ (f : Files). LeavesOthers asked.secret asked.name asked.timestamp (files_now h) gone.repo true f) (sym files) gone.left;
      ids = gone.ids;
      going = gone.going;
      told = ap (λ (k : History). lines_of k.acts) is
          ∙ (line_told g line true ∙ (ap (λ (l : List (List ℕ)). l ++ line ∷ []) gone.untold
          ∙ ap (λ (n : ℕ). lines_of h.acts ++ deleted_line asked.name n ∷ []) gone.count_is));
    }

-- ---- the calls

-- what an opening did
abbrev OpensUntold : History → History → Type 0
OpensUntold before now = TellsNothing before now × OpenEach before now

abbrev OpensStore : Deletion → Store → History → History → Type 0
OpensStore asked store before now = OpensUntold before now
    × (OpensFilesTo (files_now before) asked.secret (repo_view store.repo) × OpenFits store before now)

opened_works : (asked : Deletion) (store : Store) (a b : Option Told) (n m : ℕ)
    → IfSome a (λ t. OpensFilesTo (told_files t) asked.secret (repo_view store.repo)) → Between a b TellsNothing
    → Did OpenEach OpenFits a b n m (Ok store) → Works OpensUntold (OpensStore asked) a b n m (Ok store)
opened_works asked store a b n m opens untold opened =
    let P : History → Type 0 = λ h. OpensFilesTo (files_now h) asked.secret (repo_view store.repo) in
    let Q : Store → History → History → Type 0 =
    λ s h g. OpensFilesTo (files_now h) asked.secret (repo_view s.repo) × OpenFits s h g in
    works_both OpensUntold Q a b n m (Ok store)
    (works_ok OpenEach (λ (s : Store) h g. P h × OpenFits s h g) OpensUntold Q a b n m store store (λ h g none e. (none, e)) (λ h g e. e) untold
    (did_known P OpenEach OpenFits a b n m store opens opened))

-- a deletion tells no line
deletes_untold : {T : Type 0} (E : History → History → Type 0) (Q : T → History → History → Type 0) (a b : Option Told) (n m : ℕ) (result : Result T CarryFault)
    → Between a b TellsNothing → Works E Q a b n m result → Works E (λ x h g. TellsNothing h g × Q x h g) a b n m result
deletes_untold E Q a b n m (Ok x) untold p = record {
  each = p.each;
  end = between_map a b (λ h g. TellsNothing h g × (AllDone h g × Q x h g)) (λ h g. AllDone h g × (TellsNothing h g × Q x h g))
      (λ h g e. (e.1.0, (e.0, e.1.1))) (between_both a b TellsNothing (λ h g. AllDone h g × Q x h g) untold p.end);
  ends = p.ends;
  cause = p.cause;
}
deletes_untold E Q a b n m (Err fault) untold p = record { each = p.each; end = tt; ends = p.ends; cause = p.cause }

-- an archive was deleted behind the opening, or it wasn't
deleted_works : (asked : Deletion) (store now : Store) (a b c : Option Told) (n m k : ℕ) (result : Result ℕ CarryFault)
    → IfSome a (λ t. OpensFilesTo (told_files t) asked.secret (repo_view store.repo)) → Between a b TellsNothing → Did OpenEach OpenFits a b n m (Ok store)
    → IsNamed (repo_view store.repo) asked.name → Between b c TellsNothing
    → Works (DeletesSound asked.name (time_of asked.timestamp (repo_view store.repo).manifest) store)
    (Deletes asked.name (time_of asked.timestamp (repo_view store.repo).manifest) store now) b c m k result
    → Works (DeleteEach asked) (GoesAway asked.secret asked.name asked.timestamp) a c n k result
deleted_works asked store now a b c n m k result opens untold opened there untold_then deleted =
    let time = time_of asked.timestamp (repo_view store.repo).manifest in
    works_then OpensUntold (OpensStore asked) (DeletesSound asked.name time store)
    (λ (count : ℕ) h g. TellsNothing h g × Deletes asked.name time store now count h g) (DeleteEach asked) (GoesAway asked.secret asked.name asked.timestamp) a
    b c n m k store result
    (λ h g i each done q sound. each_deleted asked store h g i q.1.0 each.1 done q.1.1 sound)
    (λ count h g i q e. goes_then asked store now count h g i q.1.0 there q.0.0 q.1.1 e.0 e.1)
    (opened_works asked store a b n m opens untold opened)
    (deletes_untold (DeletesSound asked.name time store) (Deletes asked.name time store now) b c m k result untold_then deleted)

-- where it wasn't, the name may be missing
undeleted_works : (asked : Deletion) (store now : Store) (a b c : Option Told) (n m k : ℕ) (fault : CarryFault)
    → IfSome a (λ t. OpensFilesTo (told_files t) asked.secret (repo_view store.repo)) → Between a b TellsNothing → Did OpenEach OpenFits a b n m (Ok store)
    → Works (DeletesSound asked.name (time_of asked.timestamp (repo_view store.repo).manifest) store)
    (Deletes asked.name (time_of asked.timestamp (repo_view store.repo).manifest) store now) b c m k (Err fault)
    → Works (DeleteEach asked) (GoesAway asked.secret asked.name asked.timestamp) a c n k (Err fault)
undeleted_works asked store now a b c n m k fault opens untold opened deleted =
    let time = time_of asked.timestamp (repo_view store.repo).manifest in
    let all = works_then OpensUntold (OpensStore asked) (DeletesSound asked.name time store) (λ (_ : ℕ) (h : History) (g : History). Unit {0})
    (DeleteEach asked) (λ (_ : ℕ) (h : History) (g : History). Unit {0}) a b c n m k store (Err fault)
    (λ h g i each done q sound. each_deleted asked store h g i q.1.0 each.1 done q.1.1 sound) (λ _ h g i q e. tt)
    (opened_works asked store a b n m opens untold opened)
    (record { each = deleted.each; end = tt; ends = deleted.ends; cause = deleted.cause }) in
    record { each = all.each; end = tt; ends = all.ends; cause = all.cause }

-- the line is told, or it isn't
told_works : (asked : Deletion) (count : ℕ) (a b c : Option Told) (n m k : ℕ) (result : Result (Unit {0}) CarryFault)
    → Works (DeleteEach asked) (GoesAway asked.secret asked.name asked.timestamp) a b n m (Ok count)
    → Works (IsStep (TellOf (deleted_line asked.name count))) (λ _ h g. g ≡ with_act (TellOf (deleted_line asked.name count)) true h) b c m k result
    → Works (DeleteEach asked) (λ _ h g. h.acts ≡ [] → HasDeleted asked.secret asked.name asked.timestamp h g) a c n k result
told_works asked count a b c n m k result deleted told =
    let line = deleted_line asked.name count in
    works_then (DeleteEach asked) (GoesAway asked.secret asked.name asked.timestamp) (IsStep (TellOf line)) (λ _ h g. g ≡ with_act (TellOf line) true h)
    (DeleteEach asked)
    (λ (_ : Unit {0}) h g. h.acts ≡ [] → HasDeleted asked.secret asked.name asked.timestamp h g) a b c n m k count result
    (λ h g i each done goes is. each_told asked line h g i each done (λ begun. settled_some g.acts (goes begun).settled_is) is)
    (λ _ h g i goes is. ends_then asked count h g i goes is) deleted told

-- what a line that is told did, as a body of the command
did_works : {T : Type 0} (E : History → History → Type 0) (Q : T → History → History → Type 0) (a b : Option Told) (n m : ℕ) (x : T)
    → Did E Q a b n m (Ok x) → Works E Q a b n m (Ok x)
did_works E Q a b n m x p = record { each = p.each; end = p.end; ends = p.ends; cause = p.cause }

-- it isn't told
pub untold_works : (asked : Deletion) (count : ℕ) (a b c : Option Told) (n m k : ℕ) (refusal : StoreRefusal)
    → Works (DeleteEach asked) (GoesAway asked.secret asked.name asked.timestamp) a b n m (Ok count)
    → Did {T = Unit {0}} (IsStep (TellOf (deleted_line asked.name count))) (λ _ h g. g ≡ with_act (TellOf (deleted_line asked.name count)) true h) b c m k
    (Err refusal)
    → Works (DeleteEach asked) (λ (_ : Unit {0}) h g. h.acts ≡ [] → HasDeleted asked.secret asked.name asked.timestamp h g) a c n k (Err (target_fault refusal))
untold_works asked count a b c n m k refusal deleted told =
    told_works asked count a b c n m k (Err (target_fault refusal)) deleted
    (record {
      each = told.each;
      end = tt;
      ends = subst (λ (d : Bool). FailedWhere d b c) (sym (failed_target refusal)) told.ends;
      cause = subst (λ (d : Bool). RoseWhere d m k) (sym (failed_target refusal)) told.cause;
    })

-- it is told
pub all_works : (asked : Deletion) (count : ℕ) (a b c : Option Told) (n m k : ℕ)
    → Works (DeleteEach asked) (GoesAway asked.secret asked.name asked.timestamp) a b n m (Ok count)
    → Did {T = Unit {0}} (IsStep (TellOf (deleted_line asked.name count))) (λ _ h g. g ≡ with_act (TellOf (deleted_line asked.name count)) true h) b c m k
    (Ok tt)
    → Works (DeleteEach asked) (λ (_ : Unit {0}) h g. h.acts ≡ [] → HasDeleted asked.secret asked.name asked.timestamp h g) a c n k (Ok tt)
all_works asked count a b c n m k deleted told =
    told_works asked count a b c n m k (Ok tt) deleted
    (did_works {T = Unit {0}} (IsStep (TellOf (deleted_line asked.name count))) (λ _ h g. g ≡ with_act (TellOf (deleted_line asked.name count)) true h) b c m k
    tt told)

-- what a deletion that is done says of the name
pub named_then : {P : Type 0} (repo : RepoState) (name : List ℕ) (result : Result ℕ CarryFault)
    → (archive_named name repo.manifest.archives ≡ None → P × ((result ≡ Err (Carry.NotFound name)) ⊎ (result ≡ Err Carry.Memory)))
    → OnOk result (IsNamed repo name)
named_then {P} repo name (Err fault) nothing = tt
named_then {P} repo name (Ok count) nothing = by_found (archive_named name repo.manifest.archives) refl where
  by_found : (found : Option ArchiveRef) → archive_named name repo.manifest.archives ≡ found → IsNamed repo name
  by_found (Some entry) is = ap is_some is
  by_found None is = absurd (elim (nothing is).1 [
    | inl missing ↦ let no : ⊥ = cc in no
    | inr memory ↦ let no : ⊥ = cc in no
  ])

-- an archive of the name was deleted behind the opening, or it wasn't
pub archived_works : (asked : Deletion) (store now : Store) (a b c : Option Told) (n m k : ℕ) (result : Result ℕ CarryFault)
    → OnOk result (IsNamed (repo_view store.repo) asked.name)
    → IfSome a (λ t. OpensFilesTo (told_files t) asked.secret (repo_view store.repo)) → Between a b TellsNothing → Did OpenEach OpenFits a b n m (Ok store)
    → Between b c TellsNothing
    → Works (DeletesSound asked.name (time_of asked.timestamp (repo_view store.repo).manifest) store)
    (Deletes asked.name (time_of asked.timestamp (repo_view store.repo).manifest) store now) b c m k result
    → Works (DeleteEach asked) (GoesAway asked.secret asked.name asked.timestamp) a c n k result
archived_works asked store now a b c n m k (Ok count) named opens untold opened untold_then deleted =
    deleted_works asked store now a b c n m k (Ok count) opens untold opened named untold_then deleted
archived_works asked store now a b c n m k (Err fault) named opens untold opened untold_then deleted =
    undeleted_works asked store now a b c n m k fault opens untold opened deleted

-- ---- nothing is deleted

-- the target wasn't opened
pub unopened_works : (asked : Deletion) (Q : Store → History → History → Type 0) (a b : Option Told) (n m : ℕ) (refusal : StoreRefusal)
    → Between a b TellsNothing → Did OpenEach Q a b n m (Err refusal)
    → Works (DeleteEach asked) (GoesAway asked.secret asked.name asked.timestamp) a b n m (Err (target_fault refusal))
unopened_works asked Q a b n m refusal untold opened =
    works_err OpenEach Q (DeleteEach asked) (GoesAway asked.secret asked.name asked.timestamp) a b n m refusal
    (λ h g none each. (each_opened asked h g each).0) untold opened

pub unopened_left : (asked : Deletion) (a b : Option Told) → Between a b TellsNothing → Between a b OpenEach
    → Between a b (LeavesAll asked.secret (LeavesOthers asked.secret asked.name asked.timestamp))
unopened_left asked a b untold each =
    between_map a b (λ h g. TellsNothing h g × OpenEach h g) (LeavesAll asked.secret (LeavesOthers asked.secret asked.name asked.timestamp))
    (λ h g e. let both = each_opened asked h g e.1 in all_left asked h g both.0 both.1 e.0) (between_both a b TellsNothing OpenEach untold each)

-- nothing was committed behind the opening
pub undeleted_left : (asked : Deletion) (store : Store) (a b c : Option Told) (n m : ℕ)
    → IfSome a (λ t. OpensFilesTo (told_files t) asked.secret (repo_view store.repo)) → Between a b TellsNothing → Did OpenEach OpenFits a b n m (Ok store)
    → Between b c TellsNothing → Between b c (LeavesCommitted store) → Between a c (DeleteEach asked)
    → Between a c (LeavesAll asked.secret (LeavesOthers asked.secret asked.name asked.timestamp))
undeleted_left asked store a b c n m opens untold opened untold_then leaves each =
    let first = (opened_works asked store a b n m opens untold opened) in
    between_map a c (λ h i. DeleteEach asked h i × (LeavesEach asked h i × TellsNothing h i))
    (LeavesAll asked.secret (LeavesOthers asked.secret asked.name asked.timestamp))
    (λ h i e. all_left asked h i e.0 e.1.0 e.1.1)
    (between_both a c (DeleteEach asked) (λ h i. LeavesEach asked h i × TellsNothing h i) each
    (between_then a b c (λ h g. OpensUntold h g × (AllDone h g × OpensStore asked store h g)) (λ h g. TellsNothing h g × LeavesCommitted store h g)
    (λ h i. LeavesEach asked h i × TellsNothing h i)
    (λ h g i e f. (leaves_each asked store h g i e.1.1.1.0 e.0.1 e.1.0 e.1.1.1.1 f.1, f.0 ∙ e.0.0))
    (between_both a b OpensUntold (λ h g. AllDone h g × OpensStore asked store h g) first.each first.end)
    (between_both b c TellsNothing (LeavesCommitted store) untold_then leaves)))

-- what is known at the end
pub deleted_ended : (asked : Deletion) (a b : Option Told) (n m : ℕ)
    → Works (DeleteEach asked) (λ (_ : Unit {0}) h g. h.acts ≡ [] → HasDeleted asked.secret asked.name asked.timestamp h g) a b n m (Ok tt)
    → Between a b (λ h g. h.acts ≡ [] → HasDeleted asked.secret asked.name asked.timestamp h g)
deleted_ended asked a b n m works =
    between_map a b (λ h g. AllDone h g × (h.acts ≡ [] → HasDeleted asked.secret asked.name asked.timestamp h g))
    (λ h g. h.acts ≡ [] → HasDeleted asked.secret asked.name asked.timestamp h g) (λ h g e. e.1) works.end
