-- Lemmas on specs/Tag.antt: what is there where archives were tagged, and that it was told.
use Rattle.std.proofs.Common.{◌≡◌, inl, inr, ℕ, Bool, true, false, List, [], ◌∷◌, ◌++◌, length, Option, Some, Result, Ok, Err}
use Rattle.std.proofs.Common.{IfSome, refl, sym, ◌∙◌, ap, subst}
use Rattle.ferry_disk.proofs.MomentLemmas.{between_both, between_map, between_then}
use Rattle.ferry_disk.specs.Act.{TellOf, History, files_now, with_act}
use Rattle.ferry_disk.specs.Device.{RoseWhere, Told, told_files}
use Rattle.ferry_disk.specs.Faults.{FailedWhere}
use Rattle.ferry_disk.specs.Files.{Files}
use Rattle.ferry_disk.specs.Image.{settled}
use Rattle.ferry_disk.specs.Moments.{Between}
use Rattle.ferry_piece.proofs.FaultLemmas.{failed_target}
use Rattle.ferry_piece.proofs.WorkLemmas.{works_both, works_err, works_ok, works_then}
use Rattle.ferry_piece.specs.Fault.{target_fault}
use Rattle.ferry_piece.specs.Work.{Works}
use Rattle.ferry_piece.specs.declared.fault.CarryFault.{CarryFault}
use Rattle.ferry_refs.proofs.OldLemmas.{same_count}
use Rattle.ferry_refs.proofs.SameLemmas.{are_read_same}
use Rattle.ferry_refs.proofs.TagSameLemmas.{freed_same, old_same}
use Rattle.ferry_refs.proofs.TaggingLemmas.{no_items}
use Rattle.ferry_check.specs.Report.{ArchiveRead}
use Rattle.ferry_refs.proofs.NeedlessLemmas.{needless_left}
use Rattle.ferry_refs.proofs.TaggedLemmas.{standing_left, tagged_with}
use Rattle.ferry_refs.specs.Deleting.{LeavesCommitted, time_of, with_deleted}
use Rattle.ferry_refs.specs.Tagging.{BringsTexts, DrawsTags, HasTagged as HasWritten, NeedsNoTag, ShowsTagged, Tags, TagsSound, next_tagged, with_puts}
use Rattle.ferry_repo.specs.Opening.{OpensFilesTo, repo_view}
use Rattle.ferry_run_tag.proofs.ShowLemmas.{LeavesEach, TagEach, Tagging, all_left, each_opened, each_tagged, each_told, leaves_each, lie_before, lie_behind}
use Rattle.ferry_run_tag.proofs.ShowLemmas.{standing_now}
use Rattle.ferry_run_tag.specs.Tag.{HasTagged, LeavesArchives, tagged_line}
use Rattle.ferry_run_tag.specs.Steps.{GetsTags, HasTags}
use Rattle.ferry_status.proofs.TellLemmas.{settled_some, tells_same}
use Rattle.ferry_status.specs.Opened.{LeavesAll}
use Rattle.ferry_stops.proofs.TellLemmas.{line_told}
use Rattle.ferry_stops.specs.Tells.{TellsNothing, lines_of}
use Rattle.ferry_store.proofs.StandingLemmas.{manifest_learnt}
use Rattle.ferry_store.proofs.StepLemmas.{did_known}
use Rattle.ferry_store.specs.Standing.{CommitsManifest, with_manifest}
use Rattle.ferry_store.specs.State.{Did, IsStep, ShowsStanding, Written, found}
use Rattle.ferry_store.specs.Store.{OpenEach, OpenFits, OpensFound}
use Rattle.ferry_store.specs.declared.fault.StoreRefusal.{StoreRefusal}
use Rattle.ferry_store.specs.declared.store.Store.{Store}
use Rattle.ferry_write.specs.Front.{LeavesSegments, OnlyRemoves}
use Rattle.ferry_write.specs.Script.{AllDone}

-- ---- the end of the tagging

-- each record had a tag
needless_then : (asked : Tagging) (store : Store) (count : ℕ) (h g i : History) (opens : OpensFilesTo (files_now h) asked.secret (repo_view store.repo))
    (o : OpensFound false store h g) → TellsNothing h g → OnlyRemoves h g → TellsNothing g i
    → NeedsNoTag asked.drawn asked.drawn_now (repo_view store.repo) count g i
    → HasTags asked.secret asked.timestamp asked.drawn asked.drawn_now count h i
needless_then asked store count h g i opens o untold removes untold_then needs =
    let repo = repo_view store.repo in
    let time = time_of asked.timestamp repo.manifest in
    let lie = lie_before asked store h g opens false o in
    let none = old_same (files_now g) (files_now h) repo lie repo.manifest.archives [] needs.none in
    let are_read = are_read_same (files_now g) (files_now h) repo lie repo.manifest.archives needs.reads needs.are_read in
    let shows : ShowsStanding (found (Some o.committed) (files_now h)) (files_now g) =
    subst (λ (w : Written). ShowsStanding w (files_now g)) o.found_is (standing_now false store o.fits.written g o.fits.under_way) in
    let left : (keeps : LeavesArchives asked.secret asked.timestamp (files_now h) repo true (files_now g))
    × DrawsTags repo.keys keeps.olds keeps.texts keeps.renewals asked.drawn asked.drawn_now =
    needless_left asked.secret (files_now h) (files_now g) repo time asked.drawn asked.drawn_now none needs.undrawn
    (standing_left asked.secret (files_now h) (files_now g) repo time o.committed opens o.shown shows) in
    let both = subst (λ (k : History). (keeps : LeavesArchives asked.secret asked.timestamp (files_now h) repo true (files_now k))
    × DrawsTags repo.keys keeps.olds keeps.texts keeps.renewals asked.drawn asked.drawn_now) (sym needs.same) left in
    record {
      repo = repo;
      opens = opens;
      left = both.0;
      drew = both.1;
      reads = needs.reads;
      are_read = are_read;
      idle = λ none. subst (λ (k : History). LeavesSegments (files_now h) (files_now k)) (sym needs.same) removes.last;
      count_is = needs.count_is ∙ same_count (files_now h) repo repo.manifest.archives [] needs.reads none are_read;
      untold = untold_then ∙ untold;
      settled_is = subst (λ (k : History). settled k.acts ≡ true) (sym needs.same) o.fits.under_way.fits.own.safe.settled_is;
    }

-- some got one
tagged_then : (asked : Tagging) (store now : Store) (count : ℕ) (h g i : History) (opens : OpensFilesTo (files_now h) asked.secret (repo_view store.repo))
    (o : OpensFound false store h g) → TellsNothing h g → TellsNothing g i
    → HasWritten false (time_of asked.timestamp (repo_view store.repo).manifest) asked.drawn asked.drawn_now (files_now g)
    (repo_view store.repo) o.fits.written now count i
    → HasTags asked.secret asked.timestamp asked.drawn asked.drawn_now count h i
tagged_then asked store now count h g i opens o untold untold_then d =
    let repo = repo_view store.repo in
    let time = time_of asked.timestamp repo.manifest in
    let lie = lie_before asked store h g opens false o in
    let old = old_same (files_now g) (files_now h) repo lie repo.manifest.archives d.olds d.are_old in
    let freed = freed_same (files_now g) (files_now h) repo d.ids lie (lie_behind asked store h g opens false o) d.freed in
    let next = with_manifest repo (next_tagged repo.keys repo.manifest d.olds d.texts time) in
    let written : d.fits.written ≡ with_deleted (with_puts (found (Some o.committed) (files_now h)) d.puts) d.ids d.blob =
    d.written_is ∙ ap (λ (w : Written). with_deleted (with_puts w d.puts) d.ids d.blob) o.found_is in
    let shows : ShowsStanding (with_deleted (with_puts (found (Some o.committed) (files_now h)) d.puts) d.ids d.blob) (files_now i) =
    subst (λ (w : Written). ShowsStanding w (files_now i)) written (standing_now false now d.fits.written i d.fits.under_way) in
    let manifest : CommitsManifest next (with_deleted (with_puts (found (Some o.committed) (files_now h)) d.puts) d.ids d.blob).committed =
    subst (λ (w : Written). CommitsManifest next w.committed) written
    (manifest_learnt (repo_view now.repo) next d.fits.written.committed (sym d.keys) (sym d.manifest) (d.fits.manifest refl)) in
    let shown : ShowsTagged (files_now h) repo time (found (Some o.committed) (files_now h)) (files_now i) =
    record {
      olds = d.olds;
      are_old = old;
      some = d.some;
      texts = d.texts;
      renewals = d.renewals;
      puts = d.puts;
      brings = subst (λ (w : Written). BringsTexts repo.keys d.texts w (with_puts w d.puts)) o.found_is d.brings;
      ids = d.ids;
      freed = freed;
      blob = d.blob;
      shows = shows;
      manifest = manifest;
    } in
    let both : (keeps : LeavesArchives asked.secret asked.timestamp (files_now h) repo true (files_now i))
    × DrawsTags repo.keys keeps.olds keeps.texts keeps.renewals asked.drawn asked.drawn_now =
    tagged_with asked.secret (files_now h) (files_now i) repo time o.committed opens o.shown shown
    (λ olds texts renewals. DrawsTags repo.keys olds texts renewals asked.drawn asked.drawn_now) d.drew in
    record {
      repo = repo;
      opens = opens;
      left = both.0;
      drew = both.1;
      reads = freed.reads;
      are_read = freed.are_read;
      count_is = d.count_is ∙ same_count (files_now h) repo repo.manifest.archives d.olds freed.reads old freed.are_read;
      idle = λ none. absurd (d.some (no_items d.olds
          (same_count (files_now h) repo repo.manifest.archives d.olds freed.reads old freed.are_read
          ∙ ap (λ (l : List ArchiveRead). length l) none)));
      untold = untold_then ∙ untold;
      settled_is = d.fits.under_way.fits.own.safe.settled_is;
    }

gets_then : (asked : Tagging) (store now : Store) (count : ℕ) (h g i : History) → OpensFilesTo (files_now h) asked.secret (repo_view store.repo)
    → TellsNothing h g → OnlyRemoves h g → OpenFits store h g → TellsNothing g i
    → Tags (time_of asked.timestamp (repo_view store.repo).manifest) asked.drawn asked.drawn_now store now count g i
    → GetsTags asked.secret asked.timestamp asked.drawn asked.drawn_now count h i
gets_then asked store now count h g i opens untold removes fits untold_then tags begun =
    let o : OpensFound false store h g = fits false begun (λ c. absurd (let no : ⊥ = cc in no)) in
    elim (tags false o.fits) [
      | inl needs ↦ needless_then asked store count h g i opens o untold removes untold_then needs
      | inr tagged ↦ tagged_then asked store now count h g i opens o untold untold_then tagged
    ]

-- that is told
ends_then : (asked : Tagging) (count : ℕ) (h g i : History) → GetsTags asked.secret asked.timestamp asked.drawn asked.drawn_now count h g
    → i ≡ with_act (TellOf (tagged_line count)) true g
    → (h.acts ≡ [] → HasTagged asked.secret asked.timestamp asked.drawn asked.drawn_now h i)
ends_then asked count h g i gets is begun =
    let tags = gets begun in
    let line = tagged_line count in
    let files : files_now i ≡ files_now g = ap files_now is ∙ tells_same line g in
    let both = subst (λ (f : Files). (keeps : LeavesArchives asked.secret asked.timestamp (files_now h) tags.repo true f)
    × DrawsTags tags.repo.keys keeps.olds keeps.texts keeps.renewals asked.drawn asked.drawn_now) (sym files) (tags.left, tags.drew) in
    record {
      repo = tags.repo;
      opens = tags.opens;
      left = both.0;
      drew = both.1;
      reads = tags.reads;
      are_read = tags.are_read;
      idle = λ none. subst (λ (f : Files). LeavesSegments (files_now h) f) (sym files) (tags.idle none);
      told = ap (λ (k : History). lines_of k.acts) is
          ∙ (line_told g line true ∙ (ap (λ (l : List (List ℕ)). l ++ line ∷ []) tags.untold
          ∙ ap (λ (n : ℕ). lines_of h.acts ++ tagged_line n ∷ []) tags.count_is));
    }

-- ---- the calls

-- what an opening did
abbrev OpensUntold : History → History → Type 0
OpensUntold before now = TellsNothing before now × (OpenEach before now × OnlyRemoves before now)

abbrev OpensStore : Tagging → Store → History → History → Type 0
OpensStore asked store before now = OpensUntold before now
    × (OpensFilesTo (files_now before) asked.secret (repo_view store.repo) × OpenFits store before now)

opened_works : (asked : Tagging) (store : Store) (a b : Option Told) (n m : ℕ)
    → IfSome a (λ t. OpensFilesTo (told_files t) asked.secret (repo_view store.repo)) → Between a b TellsNothing → Between a b OnlyRemoves
    → Did OpenEach OpenFits a b n m (Ok store) → Works OpensUntold (OpensStore asked) a b n m (Ok store)
opened_works asked store a b n m opens untold removes opened =
    let P : History → Type 0 = λ h. OpensFilesTo (files_now h) asked.secret (repo_view store.repo) in
    let Q : Store → History → History → Type 0 =
    λ s h g. OpensFilesTo (files_now h) asked.secret (repo_view s.repo) × OpenFits s h g in
    let Each : History → History → Type 0 = λ h g. OpenEach h g × OnlyRemoves h g in
    let both : Did Each OpenFits a b n m (Ok store) = record {
      each = between_both a b OpenEach OnlyRemoves opened.each removes;
      end = opened.end;
      ends = opened.ends;
      cause = opened.cause;
    } in
    works_both OpensUntold Q a b n m (Ok store)
    (works_ok Each (λ (s : Store) h g. P h × OpenFits s h g) OpensUntold Q a b n m store store (λ h g none e. (none, e)) (λ h g e. e) untold
    (did_known P Each OpenFits a b n m store opens both))

-- a tagging tells no line
tags_untold : {T : Type 0} (E : History → History → Type 0) (Q : T → History → History → Type 0) (a b : Option Told) (n m : ℕ) (result : Result T CarryFault)
    → Between a b TellsNothing → Works E Q a b n m result → Works E (λ x h g. TellsNothing h g × Q x h g) a b n m result
tags_untold E Q a b n m (Ok x) untold p = record {
  each = p.each;
  end = between_map a b (λ h g. TellsNothing h g × (AllDone h g × Q x h g)) (λ h g. AllDone h g × (TellsNothing h g × Q x h g))
      (λ h g e. (e.1.0, (e.0, e.1.1))) (between_both a b TellsNothing (λ h g. AllDone h g × Q x h g) untold p.end);
  ends = p.ends;
  cause = p.cause;
}
tags_untold E Q a b n m (Err fault) untold p = record { each = p.each; end = tt; ends = p.ends; cause = p.cause }

-- archives were tagged behind the opening, or they weren't
pub tagged_works : (asked : Tagging) (store now : Store) (a b c : Option Told) (n m k : ℕ) (result : Result ℕ CarryFault)
    → IfSome a (λ t. OpensFilesTo (told_files t) asked.secret (repo_view store.repo)) → Between a b TellsNothing → Between a b OnlyRemoves
    → Did OpenEach OpenFits a b n m (Ok store) → Between b c TellsNothing
    → Works (TagsSound (time_of asked.timestamp (repo_view store.repo).manifest) store)
    (Tags (time_of asked.timestamp (repo_view store.repo).manifest) asked.drawn asked.drawn_now store now) b c m k result
    → Works (TagEach asked) (GetsTags asked.secret asked.timestamp asked.drawn asked.drawn_now) a c n k result
tagged_works asked store now a b c n m k result opens untold removes opened untold_then tagged =
    let time = time_of asked.timestamp (repo_view store.repo).manifest in
    works_then OpensUntold (OpensStore asked) (TagsSound time store)
    (λ (count : ℕ) h g. TellsNothing h g × Tags time asked.drawn asked.drawn_now store now count h g) (TagEach asked)
    (GetsTags asked.secret asked.timestamp asked.drawn asked.drawn_now) a b c n m k store result
    (λ h g i each done q sound. each_tagged asked store h g i q.1.0 each.1.0 done q.1.1 sound)
    (λ count h g i q e. gets_then asked store now count h g i q.1.0 q.0.0 q.0.1.1 q.1.1 e.0 e.1)
    (opened_works asked store a b n m opens untold removes opened)
    (tags_untold (TagsSound time store) (Tags time asked.drawn asked.drawn_now store now) b c m k result untold_then tagged)

-- the line is told, or it isn't
told_works : (asked : Tagging) (count : ℕ) (a b c : Option Told) (n m k : ℕ) (result : Result (Unit {0}) CarryFault)
    → Works (TagEach asked) (GetsTags asked.secret asked.timestamp asked.drawn asked.drawn_now) a b n m (Ok count)
    → Works (IsStep (TellOf (tagged_line count))) (λ _ h g. g ≡ with_act (TellOf (tagged_line count)) true h) b c m k result
    → Works (TagEach asked) (λ _ h g. h.acts ≡ [] → HasTagged asked.secret asked.timestamp asked.drawn asked.drawn_now h g) a c n k result
told_works asked count a b c n m k result tagged told =
    let line = tagged_line count in
    works_then (TagEach asked) (GetsTags asked.secret asked.timestamp asked.drawn asked.drawn_now) (IsStep (TellOf line))
    (λ _ h g. g ≡ with_act (TellOf line) true h) (TagEach asked)
    (λ (_ : Unit {0}) h g. h.acts ≡ [] → HasTagged asked.secret asked.timestamp asked.drawn asked.drawn_now h g) a b c n m k count result
    (λ h g i each done gets is. each_told asked line h g i each done (λ begun. settled_some g.acts (gets begun).settled_is) is)
    (λ _ h g i gets is. ends_then asked count h g i gets is) tagged told

-- what a line that is told did, as a body of the command
did_works : {T : Type 0} (E : History → History → Type 0) (Q : T → History → History → Type 0) (a b : Option Told) (n m : ℕ) (x : T)
    → Did E Q a b n m (Ok x) → Works E Q a b n m (Ok x)
did_works E Q a b n m x p = record { each = p.each; end = p.end; ends = p.ends; cause = p.cause }

-- it isn't told
pub untold_works : (asked : Tagging) (count : ℕ) (a b c : Option Told) (n m k : ℕ) (refusal : StoreRefusal)
    → Works (TagEach asked) (GetsTags asked.secret asked.timestamp asked.drawn asked.drawn_now) a b n m (Ok count)
    → Did {T = Unit {0}} (IsStep (TellOf (tagged_line count))) (λ _ h g. g ≡ with_act (TellOf (tagged_line count)) true h) b c m k
    (Err refusal)
    → Works (TagEach asked) (λ (_ : Unit {0}) h g. h.acts ≡ [] → HasTagged asked.secret asked.timestamp asked.drawn asked.drawn_now h g) a c n k
    (Err (target_fault refusal))
untold_works asked count a b c n m k refusal tagged told =
    told_works asked count a b c n m k (Err (target_fault refusal)) tagged
    (record {
      each = told.each;
      end = tt;
      ends = subst (λ (d : Bool). FailedWhere d b c) (sym (failed_target refusal)) told.ends;
      cause = subst (λ (d : Bool). RoseWhere d m k) (sym (failed_target refusal)) told.cause;
    })

-- it is told
pub all_works : (asked : Tagging) (count : ℕ) (a b c : Option Told) (n m k : ℕ)
    → Works (TagEach asked) (GetsTags asked.secret asked.timestamp asked.drawn asked.drawn_now) a b n m (Ok count)
    → Did {T = Unit {0}} (IsStep (TellOf (tagged_line count))) (λ _ h g. g ≡ with_act (TellOf (tagged_line count)) true h) b c m k
    (Ok tt)
    → Works (TagEach asked) (λ (_ : Unit {0}) h g. h.acts ≡ [] → HasTagged asked.secret asked.timestamp asked.drawn asked.drawn_now h g) a c n k (Ok tt)
all_works asked count a b c n m k tagged told =
    told_works asked count a b c n m k (Ok tt) tagged
    (did_works {T = Unit {0}} (IsStep (TellOf (tagged_line count))) (λ _ h g. g ≡ with_act (TellOf (tagged_line count)) true h) b c m k
    tt told)

-- ---- nothing is tagged

-- the target wasn't opened
pub unopened_works : (asked : Tagging) (Q : Store → History → History → Type 0) (a b : Option Told) (n m : ℕ) (refusal : StoreRefusal)
    → Between a b TellsNothing → Did OpenEach Q a b n m (Err refusal)
    → Works (TagEach asked) (GetsTags asked.secret asked.timestamp asked.drawn asked.drawn_now) a b n m (Err (target_fault refusal))
unopened_works asked Q a b n m refusal untold opened =
    works_err OpenEach Q (TagEach asked) (GetsTags asked.secret asked.timestamp asked.drawn asked.drawn_now) a b n m refusal
    (λ h g none each. (each_opened asked h g each).0) untold opened

pub unopened_left : (asked : Tagging) (a b : Option Told) → Between a b TellsNothing → Between a b OpenEach
    → Between a b (LeavesAll asked.secret (LeavesArchives asked.secret asked.timestamp))
unopened_left asked a b untold each =
    between_map a b (λ h g. TellsNothing h g × OpenEach h g) (LeavesAll asked.secret (LeavesArchives asked.secret asked.timestamp))
    (λ h g e. let both = each_opened asked h g e.1 in all_left asked h g both.0 both.1 e.0) (between_both a b TellsNothing OpenEach untold each)

-- nothing was committed behind the opening
pub untagged_left : (asked : Tagging) (store : Store) (a b c : Option Told) (n m : ℕ)
    → IfSome a (λ t. OpensFilesTo (told_files t) asked.secret (repo_view store.repo)) → Between a b TellsNothing → Between a b OnlyRemoves
    → Did OpenEach OpenFits a b n m (Ok store) → Between b c TellsNothing → Between b c (LeavesCommitted store) → Between a c (TagEach asked)
    → Between a c (LeavesAll asked.secret (LeavesArchives asked.secret asked.timestamp))
untagged_left asked store a b c n m opens untold removes opened untold_then leaves each =
    let first = (opened_works asked store a b n m opens untold removes opened) in
    between_map a c (λ h i. TagEach asked h i × (LeavesEach asked h i × TellsNothing h i))
    (LeavesAll asked.secret (LeavesArchives asked.secret asked.timestamp))
    (λ h i e. all_left asked h i e.0 e.1.0 e.1.1)
    (between_both a c (TagEach asked) (λ h i. LeavesEach asked h i × TellsNothing h i) each
    (between_then a b c (λ h g. OpensUntold h g × (AllDone h g × OpensStore asked store h g)) (λ h g. TellsNothing h g × LeavesCommitted store h g)
    (λ h i. LeavesEach asked h i × TellsNothing h i)
    (λ h g i e f. (leaves_each asked store h g i e.1.1.1.0 e.0.1.0 e.1.0 e.1.1.1.1 f.1, f.0 ∙ e.0.0))
    (between_both a b OpensUntold (λ h g. AllDone h g × OpensStore asked store h g) first.each first.end)
    (between_both b c TellsNothing (LeavesCommitted store) untold_then leaves)))

-- what is known at the end
pub tagged_ended : (asked : Tagging) (a b : Option Told) (n m : ℕ)
    → Works (TagEach asked) (λ (_ : Unit {0}) h g. h.acts ≡ [] → HasTagged asked.secret asked.timestamp asked.drawn asked.drawn_now h g) a b n m (Ok tt)
    → Between a b (λ h g. h.acts ≡ [] → HasTagged asked.secret asked.timestamp asked.drawn asked.drawn_now h g)
tagged_ended asked a b n m works =
    between_map a b (λ h g. AllDone h g × (h.acts ≡ [] → HasTagged asked.secret asked.timestamp asked.drawn asked.drawn_now h g))
    (λ h g. h.acts ≡ [] → HasTagged asked.secret asked.timestamp asked.drawn asked.drawn_now h g) (λ h g e. e.1) works.end
