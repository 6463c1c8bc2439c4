-- Lemmas on `LeavesTold` of specs/Transfer.antt: where a transfer is refused, no archive came that wasn't told.
use Rattle.std.proofs.Common.{◌≡◌, ℕ, suc, ◌+◌, Bool, true, false, List, [], ◌∷◌, ◌++◌, length, Option, Some, Ok, Err, refl, arith, sym, ◌∙◌}
use Rattle.std.proofs.Common.{ap, subst, append_assoc, IfSome}
use Rattle.std.proofs.lemmas.List.{append-nil, length-append, nil_from_length}
use Rattle.ferry_piece.proofs.WorkLemmas.{between_known}
use Rattle.ferry_carry.specs.Carrying.{Origin}
use Rattle.ferry_carry.specs.Flight.{origin_of}
use Rattle.ferry_piece.specs.Fault.{IsOfWork}
use Rattle.ferry_carry.specs.Grow.{StandsOn}
use Rattle.ferry_carry.specs.Listing.{BeginsNames}
use Rattle.ferry_piece.specs.Puts.{Addition}
use Rattle.ferry_carry.specs.Lines.{name_line, told_of, total_line}
use Rattle.ferry_carry.specs.Telling.{AreLines, IsReport, IsTotal, KeepsReported, StopsBehind, TellsNames}
use Rattle.ferry_piece.specs.declared.fault.CarryFault.{CarryFault}
use Rattle.ferry_carry.specs.declared.options.Carried.{Carried}
use Rattle.ferry_carry.specs.declared.options.Options.{Options}
use Rattle.ferry_disk.proofs.MomentLemmas.{between_both, between_map, between_then}
use Rattle.ferry_disk.specs.Act.{History, files_now}
use Rattle.ferry_disk.specs.Device.{Told, told_files}
use Rattle.ferry_disk.specs.Files.{Files}
use Rattle.ferry_disk.specs.Moments.{Between}
use Rattle.ferry_manifest.specs.Manifest.Text.{ManifestText}
use Rattle.ferry_repo.proofs.LawLemmas.{one_repo}
use Rattle.ferry_repo.specs.Opening.{OpensFilesTo, RepoState, repo_view}
use Rattle.ferry_stops.specs.Chance.{EachStop}
use Rattle.ferry_stops.specs.Tells.{TellsNothing, lines_of}
use Rattle.ferry_store.proofs.OpenLemmas.{each_here as opens_here}
use Rattle.ferry_store.proofs.StepLemmas.{here_each}
use Rattle.ferry_store.specs.Commit.{accepted_in, IsSettled}
use Rattle.ferry_store.specs.State.{Did, ShowsStanding, Written, found}
use Rattle.ferry_store.specs.Store.{OpenEach, OpenFits}
use Rattle.ferry_store.specs.declared.fault.StoreRefusal.{StoreRefusal}
use Rattle.ferry_store.specs.declared.store.Store.{Store}
use Rattle.ferry_status.proofs.LeftLemmas.{now_left}
use Rattle.ferry_status.proofs.StatusLemmas.{entropy_of_carry, source_of_carry, target_of_carry}
use Rattle.ferry_run_transfer.proofs.UntouchedLemmas.{entries_of_files}
use Rattle.ferry_run_transfer.proofs.StandingLemmas.{shown_keeps, shown_none}
use Rattle.ferry_run_transfer.proofs.TransferLemmas.{stands_opened, untold_yet}
use Rattle.ferry_status.specs.Status.{carry_status, entropy_failed, is_of_work, source_failed, target_failed}
use Rattle.ferry_run_transfer.specs.Transfer.{KeepsArchives, LeavesTold, Request, TransferEach, asked, chosen_of}
use Rattle.ferry_status.specs.declared.status.Secrets.{Secrets}
use Rattle.ferry_status.specs.declared.status.Status.{Status}
use Rattle.ferry_status.specs.declared.status.Status.TheVariants as Statuses
use Rattle.ferry_write.specs.Script.{AllDone}

-- ---- the status of a refusal

-- no device failed by it
no_device : (status : Status) → is_of_work status ≡ true
    → (source_failed status ≡ false) × ((target_failed status ≡ false) × (entropy_failed status ≡ false))
no_device Statuses.Done e = absurd (let no : ⊥ = cc in no)
no_device Statuses.No e = absurd (let no : ⊥ = cc in no)
no_device (Statuses.Usage word) e = absurd (let no : ⊥ = cc in no)
no_device Statuses.Memory e = absurd (let no : ⊥ = cc in no)
no_device Statuses.SourceDevice e = absurd (let no : ⊥ = cc in no)
no_device Statuses.TargetDevice e = absurd (let no : ⊥ = cc in no)
no_device Statuses.EntropyDevice e = absurd (let no : ⊥ = cc in no)
no_device Statuses.OutputDevice e = absurd (let no : ⊥ = cc in no)
no_device (Statuses.SourceRefused refusal) e = (refl, (refl, refl))
no_device (Statuses.TargetRefused refusal) e = (refl, (refl, refl))
no_device (Statuses.Taken name) e = (refl, (refl, refl))
no_device (Statuses.NotFound what) e = (refl, (refl, refl))
no_device (Statuses.Limit limit) e = (refl, (refl, refl))

-- it is that of a fault which is no failed device's, and not for want of memory
pub of_work : (fault : CarryFault) → is_of_work (carry_status fault) ≡ true → IsOfWork fault
of_work fault e =
    let none = no_device (carry_status fault) e in
    record {
      shelf = sym (source_of_carry fault) ∙ none.0;
      target = sym (target_of_carry fault) ∙ none.1.0;
      random = sym (entropy_of_carry fault) ∙ none.1.1;
      memory = λ is.
          let memory : false ≡ true = subst (λ (f : CarryFault). is_of_work (carry_status f) ≡ true) is e in
          let no : ⊥ = cc in
          no;
    }

-- ---- what lines tell

one_each : (accepted : ManifestText) (before lines names : List (List ℕ)) → AreLines accepted before lines names → length lines ≡ length names
one_each accepted before [] [] are = refl
one_each accepted before [] (name ∷ names) are = absurd are
one_each accepted before (line ∷ lines) [] are = absurd are
one_each accepted before (line ∷ lines) (name ∷ names) are = ap suc (one_each accepted (before ++ name ∷ []) lines names are.1)

-- the last line is that of a name
last_named : (accepted : ManifestText) (before lines : List (List ℕ)) (line : List ℕ) (names : List (List ℕ))
    → AreLines accepted before (lines ++ line ∷ []) names → (copied : Bool) × ((name : List ℕ) × (line ≡ name_line (told_of copied) name))
last_named accepted before [] line [] are = absurd are
last_named accepted before [] line (name ∷ names) are = (are.0.0, (name, are.0.1.0))
last_named accepted before (first ∷ lines) line [] are = absurd are
last_named accepted before (first ∷ lines) line (name ∷ names) are = last_named accepted (before ++ name ∷ []) lines line names are.1

-- the letters that a line begins with
abbrev first_of : List ℕ → ℕ
first_of [] = 0
first_of (letter ∷ letters) = letter

abbrev second_of : List ℕ → ℕ
second_of [] = 0
second_of (letter ∷ letters) = first_of letters

-- the line of a name isn't that of the whole
no_total : (copied : Bool) (name : List ℕ) (carried : Carried) → name_line (told_of copied) name ≡ total_line carried → ⊥
no_total true name carried e =
    let differs : 114 ≡ 111 = ap second_of e in
    let never : ⊥ = omega (arith, differs) in
    never
no_total false name carried e =
    let differs : 112 ≡ 116 = ap first_of e in
    let never : ⊥ = omega (arith, differs) in
    never

-- where lines tell names, and a front of these came of which lines are a report, all of them came
all_told : (accepted : ManifestText) (lines names done rest : List (List ℕ)) → AreLines accepted [] lines names → names ≡ done ++ rest
    → IsReport accepted lines done → AreLines accepted [] lines done
all_told accepted lines names done rest are split report = by_last report.last refl report.total where
  by_last : (last : List (List ℕ)) → report.last ≡ last → IsTotal last → AreLines accepted [] lines done
  by_last [] is total =
      let long : length lines ≡ length names = one_each accepted [] lines names are in
      let told : length report.reported ≡ length report.told = one_each accepted [] report.reported report.told report.are in
      let lines_are : lines ≡ report.reported =
      report.split ∙ (ap (λ (l : List (List ℕ)). report.reported ++ l) is ∙ append-nil report.reported) in
      let behind : length names ≡ length done + length rest = ap length split ∙ length-append done rest in
      let front : length done ≡ length report.told + length report.more = ap length report.front ∙ length-append report.told report.more in
      let none : rest ≡ [] = nil_from_length rest (omega (arith, long, told, ap length lines_are, behind, front)) in
      subst (AreLines accepted [] lines) (split ∙ (ap (λ (l : List (List ℕ)). done ++ l) none ∙ append-nil done)) are
  by_last (line ∷ []) is total =
      let lines_are : lines ≡ report.reported ++ line ∷ [] = report.split ∙ ap (λ (l : List (List ℕ)). report.reported ++ l) is in
      let named = last_named accepted [] report.reported line names (subst (λ (l : List (List ℕ)). AreLines accepted [] l names) lines_are are) in
      absurd (no_total named.0 named.1.0 total.0 (sym named.1.1 ∙ total.1))
  by_last (line ∷ (next ∷ lines)) is total = absurd total

-- ---- where no archive came

-- an opening that was refused
pub opening_told : (request : Request) (h g : History) → TellsNothing h g → OpenEach h g → LeavesTold request h g
opening_told request h g untold each begun repo opens =
    let shown = entries_of_files (files_now h) request.secrets.target repo opens in
    let Stands : History → Type 0 = EachStop (ShowsStanding (found (Some shown.0) (files_now h))) in
    let moments = each.0 shown.0 begun shown.1 in
    let standing = moments.last (files_now g) (now_left Stands h g begun each.1.1.1 moments) in
    subst (λ (lines : List (List ℕ)). (keeps : KeepsArchives request (files_now h) repo.manifest lines (files_now g))
    × AreLines repo.manifest [] lines keeps.done)
    (sym (untold ∙ untold_yet h begun)) (
      shown_keeps request (files_now h) (files_now g) repo shown.0 opens shown.1 standing,
      subst (AreLines repo.manifest [] []) (shown_none request (files_now h) (files_now g) repo shown.0 opens shown.1 standing) tt,
    )

pub unopened_told : (request : Request) (Q : Store → History → History → Type 0) (a b : Option Told) (n m : ℕ) (refusal : StoreRefusal)
    → Between a b TellsNothing → Did OpenEach Q a b n m (Err refusal) → Between a b (LeavesTold request)
unopened_told request Q a b n m refusal untold opened =
    between_map a b (λ h g. TellsNothing h g × OpenEach h g) (LeavesTold request) (λ h g e. opening_told request h g e.0 e.1)
    (between_both a b TellsNothing OpenEach untold opened.each)

-- where the target wasn't touched
pub untouched_told : (request : Request) (a : Option Told) → Between a a (LeavesTold request)
untouched_told request a = here_each (LeavesTold request) a (λ h. opening_told request h h refl (opens_here h))

-- ---- where archives came

-- what was asked, over a source that opened to a repository, with the names that it chose
module _ (secrets : Secrets) (options : Options) (names : List (List ℕ)) (source : RepoState) (told : Option Told) (chosen : List (List ℕ))
    (source_opens : IfSome told (λ t. OpensFilesTo (told_files t) secrets.source source)) (chosen_is : chosen ≡ chosen_of names source.manifest) where
  abbrev request : Request
  request = asked secrets options names told

  abbrev from : Origin
  from = origin_of told source options

  -- the archives are kept, and these lines tell those that came
  abbrev Leaves : History → History → ManifestText → List (List ℕ) → Type 0
  Leaves h i manifest lines = (keeps : KeepsArchives request (files_now h) manifest lines (files_now i)) × AreLines manifest [] lines keeps.done

  -- what stands of a front of the names stands of all of them
  abbrev wider : (some more : List (List ℕ)) (within : List Addition) (accepted : ManifestText) (repo : RepoState) (written : Written) (image : Files)
      → chosen ≡ some ++ more → StandsOn [] from some within accepted repo written image
      → StandsOn [] from chosen within accepted repo written image
  wider some more within accepted repo written image split stands = record {
    entries = stands.entries;
    manifest = stands.manifest;
    shown = stands.shown;
    chunks = stands.chunks;
    opening = stands.opening;
    puts = stands.puts;
    holds = stands.holds;
    names = stands.names;
    config = stands.config;
    done = stands.done;
    rest = stands.rest ++ more;
    front = split ∙ (ap (λ (l : List (List ℕ)). l ++ more) stands.front ∙ append_assoc stands.done stands.rest more);
    next = stands.next;
    carried = stands.carried;
    cut = stands.cut;
    only = stands.only;
  }

  -- behind the opening those of a front of the names were carried and told, and no other
  behind_told : (store : Store) (done rest : List (List ℕ)) (within : List Addition) (h g i : History) → IsSettled store → chosen ≡ done ++ rest
      → OpensFilesTo (files_now h) secrets.target (repo_view store.repo) → TellsNothing h g → OpenFits store h g
      → BeginsNames from (repo_view store.repo).keys (accepted_in store) [] chosen within
      → KeepsReported from done store within g i → TellsNames (accepted_in store) done g i → TransferEach request h i → LeavesTold request h i
  behind_told store done rest within h g i settled split opens untold fits begins reported told_names each begun repo opens_to =
      let o = fits false begun (λ c. absurd (let no : ⊥ = cc in no)) in
      let accepted = accepted_in store in
      let state = repo_view store.repo in
      let last = (reported false o.fits).last in
      let moments = each.0 begun repo opens_to in
      let left = now_left (λ k. EachStop (KeepsArchives request (files_now h) repo.manifest (lines_of k.acts)) k) h i begun each.1.1.1 moments in
      let shows = last.sound.shows (files_now i) left in
      let none : lines_of g.acts ≡ [] = untold ∙ untold_yet h begun in
      let lines_are : lines_of i.acts ≡ last.lines = last.told ∙ ap (λ (l : List (List ℕ)). l ++ last.lines) none in
      let names_are : lines_of i.acts ≡ told_names.0 = told_names.1.0 ∙ ap (λ (l : List (List ℕ)). l ++ told_names.0) none in
      let are : AreLines accepted [] last.lines shows.0.done =
      all_told accepted last.lines done shows.0.done shows.0.rest
      (subst (λ (l : List (List ℕ)). AreLines accepted [] l done) (sym names_are ∙ lines_are) told_names.1.1) shows.0.front shows.1 in
      let kept = stands_opened secrets options names source told chosen source_opens chosen_is store within h g last.lines (files_now i) settled opens begins o
      (wider done rest within accepted state o.fits.written (files_now i) split shows.0) shows.1 in
      subst (λ (r : RepoState). Leaves h i r.manifest (lines_of i.acts)) (one_repo (files_now h) secrets.target state repo opens opens_to)
      (subst (Leaves h i state.manifest) (sym lines_are)
      (kept.0, subst (AreLines state.manifest [] last.lines) (sym kept.1.0) (subst (λ (m : ManifestText). AreLines m [] last.lines shows.0.done) settled are)))

  -- the copying was refused, but for a failed device and want of memory
  pub stopped_told : (store : Store) (a b d : Option Told) (n m : ℕ) → IsSettled store
      → IfSome a (λ t. OpensFilesTo (files_now t.history) secrets.target (repo_view store.repo)) → Between a b TellsNothing
      → Did OpenEach OpenFits a b n m (Ok store) → Between a d (TransferEach request) → StopsBehind from chosen store b d
      → Between a d (LeavesTold request)
  stopped_told store a b d n m settled opens untold opened each stops =
      let Opens : History → Type 0 = λ h. OpensFilesTo (files_now h) secrets.target (repo_view store.repo) in
      let Ended : History → History → Type 0 = λ h g. AllDone h g × OpenFits store h g in
      let Known : History → History → Type 0 = λ h g. Opens h × Ended h g in
      let Goes : History → History → Type 0 = λ h i. TransferEach request h i → LeavesTold request h i in
      let Begun : History → Type 0 = λ _. BeginsNames from (repo_view store.repo).keys (accepted_in store) [] chosen stops.added in
      let Behind : History → History → Type 0 = λ g i.
      KeepsReported from stops.done store stops.added g i × TellsNames (accepted_in store) stops.done g i in
      let goes : Between a d Goes =
      between_then a b d (λ h g. TellsNothing h g × Known h g) (λ g i. Begun g × Behind g i) Goes
      (λ h g i e f before.
      behind_told store stops.done stops.rest stops.added h g i settled stops.split e.1.0 e.0 e.1.1.1 f.0 f.1.0 f.1.1 before)
      (between_both a b TellsNothing Known untold (between_known Opens Ended a b opens opened.end)) (between_known Begun Behind b d stops.begins stops.each) in
      between_map a d (λ h i. TransferEach request h i × Goes h i) (LeavesTold request) (λ h i e. e.1 e.0)
      (between_both a d (TransferEach request) Goes each goes)
