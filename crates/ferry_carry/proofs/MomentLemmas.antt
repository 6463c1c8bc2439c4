-- Lemmas on specs/Telling.antt: what was told at each moment of a body, and of bodies one after another.
use Rattle.std.proofs.Common.{◌≡◌, ◌⊎◌, inl, inr, ℕ, Bool, true, false, List, [], ◌∷◌, ◌++◌, Some, None, refl, sym, ◌∙◌, ap, subst, append_assoc}
use Rattle.std.proofs.lemmas.List.{append-nil, append_cancel_left}
use Rattle.ferry_disk.proofs.MomentLemmas.{all_moments, moments_all, steps_end, steps_end_undone}
use Rattle.ferry_disk.specs.Act.{Step, TellOf, Act, History, files_now, with_act}
use Rattle.ferry_disk.specs.Files.{Files}
use Rattle.ferry_disk.specs.Moments.{IsMoment, Moments, last_undone, with_steps}
use Rattle.ferry_manifest.specs.Manifest.Text.{ManifestText}
use Rattle.ferry_repo.specs.Opening.{RepoState, repo_view}
use Rattle.ferry_stops.proofs.TellLemmas.{line_told, lines-append}
use Rattle.ferry_stops.specs.Tells.{TellsNothing, line_of, lines_of}
use Rattle.ferry_store.proofs.SoundLemmas.{stands_now}
use Rattle.ferry_store.proofs.StepLemmas.{moments_map, moments_then, step_moments}
use Rattle.ferry_store.specs.Commit.{accepted_in, IsSettled}
use Rattle.ferry_store.specs.Standing.{entries_of}
use Rattle.ferry_store.specs.State.{IsStep, ShowsStanding, Written}
use Rattle.ferry_store.specs.Store.{StoreFits}
use Rattle.ferry_store.specs.declared.store.Store.{Store}
use Rattle.ferry_write.specs.Script.{AllDone}
use Rattle.ferry_piece.proofs.FrontLemmas.{front_still, front_wider, with_map}
use Rattle.ferry_piece.proofs.GatherLemmas.{rest_here, sound_map, standing_from}
use Rattle.ferry_piece.specs.Front.{HoldsFront, IsSoundWith}
use Rattle.ferry_carry.proofs.GrowsLemmas.{Follows, follows_allows, front_on, growing_here, grows_from, grows_then}
use Rattle.ferry_carry.proofs.GrowLemmas.{front_both, growing_longer, on_from, on_then, on_wider}
use Rattle.ferry_carry.proofs.GrowsLemmas.{stands_on_at}
use Rattle.ferry_piece.proofs.PutsLemmas.{front_of}
use Rattle.ferry_carry.proofs.TellLemmas.{told_gathers, told_same, told_stands}
use Rattle.ferry_carry.proofs.ThereLemmas.{Extends, extends_by}
use Rattle.ferry_carry.proofs.LinesLemmas.{lines_then, report_none, report_then, report_one, report_whole}
use Rattle.ferry_carry.specs.Naming.{TaggedRecord}
use Rattle.ferry_carry.specs.Carrying.{Origin}
use Rattle.ferry_carry.specs.Chosen.{TellsLine}
use Rattle.ferry_carry.specs.Counting.{IsTotalOf, TellsNew}
use Rattle.ferry_piece.specs.Gather.{StandsFrom}
use Rattle.ferry_carry.specs.Grow.{AcceptsMore, Grows, KeepsGrowing, StandsOn}
use Rattle.ferry_carry.specs.Lines.{name_line, told_of, total_line}
use Rattle.ferry_piece.specs.Puts.{Addition, AtBegin, Border, IsFront, border_behind}
use Rattle.ferry_carry.specs.Telling.{CarriesNames, IsReport, IsReported, KeepsReported, ShowsReport, TellsNames, TellsWhole}
use Rattle.ferry_carry.specs.declared.options.Carried.{Carried}

-- ---- what was told at a moment

front_none : (lines more : List (List ℕ)) → lines ++ more ≡ [] → lines ≡ []
front_none [] more e = refl
front_none (line ∷ lines) more e = absurd (let no : ⊥ = cc in no)

undone_lines : (acts : List Act) → lines_of (last_undone acts) ≡ lines_of acts
unfolding lines_of
undone_lines [] = refl
undone_lines (act ∷ []) = refl
undone_lines (act ∷ (next ∷ acts)) = ap (λ (lines : List (List ℕ)). line_of act.step ++ lines) (undone_lines (next ∷ acts))

-- where none was told between, none was told up to a moment between
untold_moment : (before now moment : History) → TellsNothing before now → IsMoment before now moment → TellsNothing before moment
untold_moment before now moment untold m = by_form m.moment_is where
  all : lines_of before.acts ++ (lines_of m.front ++ lines_of m.rest) ≡ lines_of before.acts ++ []
  all =
      ap (λ (l : List (List ℕ)). lines_of before.acts ++ l) (sym (lines-append m.front m.rest))
      ∙ (sym (lines-append before.acts (m.front ++ m.rest))
      ∙ (ap (λ (h : History). lines_of h.acts) (sym m.now_is) ∙ (untold ∙ sym (append-nil (lines_of before.acts)))))

  none : lines_of m.front ≡ []
  none =
      front_none (lines_of m.front) (lines_of m.rest)
      (append_cancel_left (lines_of before.acts) (lines_of m.front ++ lines_of m.rest) [] all)

  up_to : (acts : List Act) → lines_of acts ≡ [] → lines_of (before.acts ++ acts) ≡ lines_of before.acts
  up_to acts e =
      lines-append before.acts acts
      ∙ (ap (λ (l : List (List ℕ)). lines_of before.acts ++ l) e ∙ append-nil (lines_of before.acts))

  by_form : (moment ≡ record before { acts = before.acts ++ m.front }) ⊎ (moment ≡ record before { acts = before.acts ++ last_undone m.front })
      → TellsNothing before moment
  by_form (inl e) = ap (λ (h : History). lines_of h.acts) e ∙ up_to m.front none
  by_form (inr e) = ap (λ (h : History). lines_of h.acts) e ∙ up_to (last_undone m.front) (undone_lines m.front ∙ none)

pub untold_moments : (P : History → Type 0) (h g : History) → TellsNothing h g → Moments P h g → Moments (λ k. P k × TellsNothing h k) h g
untold_moments P h g untold m = by_end m.now_is where
  all : (moment : History) → IsMoment h g moment → P moment × TellsNothing h moment
  all moment is = (all_moments P h g m moment is, untold_moment h g moment untold is)

  by_end : (g ≡ with_steps m.steps h) ⊎ ((step : Step) × (g ≡ with_act step false (with_steps m.steps h))) → Moments (λ k. P k × TellsNothing h k) h g
  by_end (inl e) = moments_all (λ k. P k × TellsNothing h k) h g m.steps None (e ∙ steps_end h m.steps) all
  by_end (inr e) = moments_all (λ k. P k × TellsNothing h k) h g m.steps (Some e.0) (e.1 ∙ steps_end_undone h m.steps e.0) all

-- ---- moments at which something was told

-- where nothing was told
reported_none : (P : Files → Type 0) (Q : List (List ℕ) → Files → Type 0) (R : Files → Type 0) (counts : Bool) (h g : History)
    → ((image : Files) → P image → Q [] image) → TellsNothing h g → Moments (IsSoundWith P R counts) h g → Moments (IsReported Q R counts h) h g
reported_none P Q R counts h g step untold m =
    moments_map (λ k. IsSoundWith P R counts k × TellsNothing h k) (IsReported Q R counts h) h g
    (λ k s. record {
      lines = [];
      told = s.1 ∙ sym (append-nil (lines_of h.acts));
      sound = with_map P (Q []) R R counts k step (λ files has. has) s.0;
    })
    (untold_moments (IsSoundWith P R counts) h g untold m)

-- behind what was told
reported_behind : (P Q : List (List ℕ) → Files → Type 0) (R S : Files → Type 0) (counts : Bool) (h g i : History) (some : List (List ℕ))
    → lines_of g.acts ≡ lines_of h.acts ++ some → ((lines : List (List ℕ)) (image : Files) → P lines image → Q (some ++ lines) image)
    → ((files : Files) → R files → S files) → Moments (IsReported P R counts g) g i → Moments (IsReported Q S counts h) g i
reported_behind P Q R S counts h g i some is step read m =
    moments_map (IsReported P R counts g) (IsReported Q S counts h) g i
    (λ k s. record {
      lines = some ++ s.lines;
      told = s.told ∙ (ap (λ (l : List (List ℕ)). l ++ s.lines) is ∙ append_assoc (lines_of h.acts) some s.lines);
      sound = with_map (P s.lines) (Q (some ++ s.lines)) R S counts k (step s.lines) read s.sound;
    }) m

reported_map : (P Q : List (List ℕ) → Files → Type 0) (R S : Files → Type 0) (counts : Bool) (h g i : History)
    → ((lines : List (List ℕ)) (image : Files) → P lines image → Q lines image) → ((files : Files) → R files → S files)
    → Moments (IsReported P R counts h) g i → Moments (IsReported Q S counts h) g i
reported_map P Q R S counts h g i step read m =
    moments_map (IsReported P R counts h) (IsReported Q S counts h) g i
    (λ k s. record { lines = s.lines; told = s.told; sound = with_map (P s.lines) (Q s.lines) R S counts k (step s.lines) read s.sound }) m

-- a line is told, or isn't: what stands is what stood
told_moments : (at : Border) (most : ℕ) (store : Store) (line : List ℕ) (h g : History) (counts : Bool) (fits : StoreFits counts store h)
    → IsStep (TellOf line) h g
    → Moments (IsReported (λ lines image. ((lines ≡ []) ⊎ (lines ≡ line ∷ [])) × StandsFrom at (repo_view store.repo).keys most [] fits.written image)
    (HoldsFront at (repo_view store.repo).keys most (entries_of fits.written) []) counts h) h g
told_moments at most store line h g counts fits is =
    step_moments (IsReported Show Read counts h) (TellOf line) h g (record {
      lines = [];
      told = sym (append-nil (lines_of h.acts));
      sound = record {
        sound = sound_map (ShowsStanding fits.written) (Show []) counts h
            (λ image shown. (inl refl, standing_from at most [] counts store h fits image shown))
            (stands_now counts store.session store.counter fits.written h fits.under_way);
        read = still;
      };
    }) (λ done. record {
      lines = line ∷ [];
      told = line_told h line done;
      sound = record {
        sound = sound_map (ShowsStanding fits.written) (Show (line ∷ [])) counts (with_act (TellOf line) done h)
            (λ image shown. (inr refl, standing_from at most [] counts store h fits image shown))
            (stands_now counts store.session store.counter fits.written (with_act (TellOf line) done h)
            (told_stands counts store fits.written line done h fits.under_way));
        read = subst Read (sym (told_same line done h)) still;
      };
    }) is where
      Read : Files → Type 0
      Read = HoldsFront at (repo_view store.repo).keys most (entries_of fits.written) []

      still : Read (files_now h)
      still = front_still at most counts store h fits []

      Show : List (List ℕ) → Files → Type 0
      Show lines image = ((lines ≡ []) ⊎ (lines ≡ line ∷ [])) × StandsFrom at (repo_view store.repo).keys most [] fits.written image

-- ---- behind what was added earlier

-- what was reported of entries behind these
abbrev ShowsReportOn : List Addition → Origin → List (List ℕ) → List Addition → ManifestText → RepoState → Written → List (List ℕ) → Files → Type 0
ShowsReportOn earlier from chosen within accepted repo written lines image =
    (stands : StandsOn earlier from chosen within accepted repo written image) × IsReport accepted lines stands.done

abbrev KeepsReportedOn : List Addition → Origin → List (List ℕ) → Store → List Addition → History → History → Type 0
KeepsReportedOn earlier from chosen store within before now = (counts : Bool) (fits : StoreFits counts store before)
    → Moments (IsReported (ShowsReportOn earlier from chosen within (accepted_in store) (repo_view store.repo) fits.written)
    (HoldsFront (border_behind AtBegin earlier) (repo_view store.repo).keys from.most (entries_of fits.written) within) counts before) before now

-- what was reported behind nothing was reported behind these
reported_follows : (earlier : List Addition) (from : Origin) (chosen : List (List ℕ)) (store : Store) (within : List Addition) (h g : History)
    → Follows earlier store → KeepsReported from chosen store within h g → KeepsReportedOn earlier from chosen store within h g
unfolding stands_on_at
reported_follows earlier from chosen store within h g follows reported counts fits =
    let accepted = accepted_in store in
    let repo = repo_view store.repo in
    let before = entries_of fits.written in
    let allows = follows_allows earlier counts store h fits follows in
    reported_map (ShowsReport from chosen within accepted repo fits.written) (ShowsReportOn earlier from chosen within accepted repo fits.written)
    (HoldsFront (border_behind AtBegin []) repo.keys from.most before within) (HoldsFront (border_behind AtBegin earlier) repo.keys from.most before within)
    counts h h g
    (λ lines image s. (stands_on_at earlier from chosen within accepted repo fits.written image allows s.0, s.1))
    (λ files read. front_on earlier repo.keys from.most before within files allows read) (reported counts fits)

-- ---- bodies that told nothing

pub reported_growing : (from : Origin) (chosen : List (List ℕ)) (store : Store) (within : List Addition) (h g : History)
    → KeepsGrowing [] from chosen store within h g → KeepsReported from chosen store within h g
reported_growing from chosen store within h g growing counts fits =
    let accepted = accepted_in store in
    let repo = repo_view store.repo in
    reported_none (StandsOn [] from chosen within accepted repo fits.written) (ShowsReport from chosen within accepted repo fits.written)
    (HoldsFront (border_behind AtBegin []) repo.keys from.most (entries_of fits.written) within) counts h g
    (λ image stands. (stands, report_none accepted stands.done)) growing.0 (growing.1 counts fits)

pub reported_here : (from : Origin) (chosen : List (List ℕ)) (store : Store) (within : List Addition) (h : History) → AcceptsMore store
    → KeepsReported from chosen store within h h
reported_here from chosen store within h accepts =
    reported_growing from chosen store within h h (growing_here [] from chosen store within h accepts)

pub names_here : (accepted : ManifestText) (h : History) → TellsNames accepted [] h h
names_here accepted h = ([], (sym (append-nil (lines_of h.acts)), tt))

-- ---- one behind another

pub reported_wider : (from : Origin) (some more : List (List ℕ)) (store : Store) (within all : List Addition) (h g : History) → IsFront within all
    → KeepsReported from some store within h g → KeepsReported from (some ++ more) store all h g
unfolding on_wider
reported_wider from some more store within all h g first reported counts fits =
    let accepted = accepted_in store in
    let repo = repo_view store.repo in
    let at = border_behind AtBegin [] in
    let before = entries_of fits.written in
    reported_map (ShowsReport from some within accepted repo fits.written) (ShowsReport from (some ++ more) all accepted repo fits.written)
    (HoldsFront at repo.keys from.most before within) (HoldsFront at repo.keys from.most before all) counts h h g
    (λ lines image s. (on_wider [] from some more within all accepted repo fits.written image first s.0, s.1))
    (λ files read. front_wider at repo.keys from.most before within all files first read) (reported counts fits)

-- behind a body, from where it left them
reported_behind_at : (from : Origin) (some more : List (List ℕ)) (added others : List Addition) (store middle : Store) (h g i : History)
    → IsSettled store → AcceptsMore middle → KeepsReported from some store added h g → AllDone h g → Grows [] from some added store middle h g
    → TellsNames (accepted_in store) some h g → KeepsReportedOn added from more middle others g i
    → KeepsReported from (some ++ more) store (added ++ others) h i
unfolding on_then
reported_behind_at from some more added others store middle h g i settled accepts before done grows told after counts fits =
    let first = grows counts fits in
    let accepted = accepted_in store in
    let between = accepted_in middle in
    let repo = repo_view store.repo in
    let next = repo_view middle.repo in
    let all = added ++ others in
    let start = entries_of fits.written in
    let middle_start = entries_of first.fits_now.written in
    let Read : Files → Type 0 = HoldsFront (border_behind AtBegin []) repo.keys from.most start all in
    moments_then (IsReported (ShowsReport from (some ++ more) all accepted repo fits.written) Read counts h) h g i
    (reported_wider from some more store added all h g (front_of added others) before counts fits) done
    (reported_behind (ShowsReportOn added from more others between next first.fits_now.written)
    (ShowsReport from (some ++ more) all accepted repo fits.written) (HoldsFront (border_behind AtBegin added) next.keys from.most middle_start others) Read
    counts h g i told.0 told.1.0 (λ lines image s. (
      on_then [] from some more added others accepted between repo next fits.written first.fits_now.written image first.most.keys first.most.names
          first.chunks first.opening first.puts first.committed first.config first.carried first.cut first.only first.settled
          first.next s.0,
      report_then accepted between told.0 lines some s.0.done (extends_by store middle some settled accepts first.most first.named first.only) told.1.1
          s.1,
    )) (λ files read. front_both [] added repo.keys next.keys from.most others start middle_start files first.most.keys first.puts read)
    (after counts first.fits_now))

pub reported_then : (from : Origin) (some more : List (List ℕ)) (added others : List Addition) (store middle : Store) (h g i : History)
    → IsSettled store → AcceptsMore middle → Follows added middle → KeepsReported from some store added h g → AllDone h g
    → Grows [] from some added store middle h g → TellsNames (accepted_in store) some h g → KeepsReported from more middle others g i
    → KeepsReported from (some ++ more) store (added ++ others) h i
reported_then from some more added others store middle h g i settled accepts follows before done grows told after =
    reported_behind_at from some more added others store middle h g i settled accepts before done grows told
    (reported_follows added from more middle others g i follows after)

pub names_then : (accepted middle : ManifestText) (some more : List (List ℕ)) (h g i : History) → Extends accepted some middle → TellsNames accepted some h g
    → TellsNames middle more g i → TellsNames accepted (some ++ more) h i
names_then accepted middle some more h g i extends p q = (
  p.0 ++ q.0,
  (
    q.1.0 ∙ (ap (λ (l : List (List ℕ)). l ++ q.0) p.1.0 ∙ append_assoc (lines_of h.acts) p.0 q.0),
    lines_then accepted middle p.0 q.0 some more extends p.1.1 q.1.1,
  ),
)

-- ---- a name is told behind the body that carried its archive

pub reported_name : (from : Origin) (copied : Bool) (name : List ℕ) (added : List Addition) (store middle : Store) (h g i : History)
    → KeepsGrowing [] from (name ∷ []) store added h g → AllDone h g → Grows [] from (name ∷ []) added store middle h g → AcceptsMore middle
    → TellsNew (accepted_in store) [] name copied → IsStep (TellOf (name_line (told_of copied) name)) g i → KeepsReported from (name ∷ []) store added h i
unfolding on_then
reported_name from copied name added store middle h g i growing done grows accepts new is =
    subst (λ (l : List Addition). KeepsReported from (name ∷ []) store l h i) (append-nil added) all where
      all : KeepsReported from (name ∷ []) store (added ++ []) h i
      all counts fits =
          let line = name_line (told_of copied) name in
          let first = grows counts fits in
          let accepted = accepted_in store in
          let between = accepted_in middle in
          let repo = repo_view store.repo in
          let next = repo_view middle.repo in
          let now = first.fits_now.written in
          let at = border_behind AtBegin added in
          let none : lines_of g.acts ≡ lines_of h.acts ++ [] = growing.0 ∙ sym (append-nil (lines_of h.acts)) in
          let start = entries_of fits.written in
          let Read : Files → Type 0 = HoldsFront (border_behind AtBegin []) repo.keys from.most start (added ++ []) in
          moments_then (IsReported (ShowsReport from (name ∷ []) (added ++ []) accepted repo fits.written) Read counts h) h g i
          (reported_growing from (name ∷ []) store (added ++ []) h g
          (growing_longer [] from (name ∷ []) store added (added ++ []) h g (front_of added []) growing) counts fits) done
          (reported_behind (λ lines image. ((lines ≡ []) ⊎ (lines ≡ line ∷ [])) × StandsFrom at next.keys from.most [] now image)
          (ShowsReport from (name ∷ []) (added ++ []) accepted repo fits.written) (HoldsFront at next.keys from.most (entries_of now) []) Read
          counts h g i [] none (λ lines image s.
          let stands : StandsOn added from [] [] between next now image = on_from added from [] [] between counts middle g first.fits_now image accepts s.1 in (
            on_then [] from (name ∷ []) [] added [] accepted between repo next fits.written now image first.most.keys first.most.names first.chunks
                first.opening first.puts first.committed first.config first.carried first.cut first.only first.settled first.next stands,
            report_one accepted copied name lines stands.done new s.0,
          )) (λ files read. front_both [] added repo.keys next.keys from.most [] start (entries_of now) files first.most.keys first.puts read)
          (told_moments at from.most middle line g i counts first.fits_now is))

pub told_name : (accepted : ManifestText) (copied : Bool) (name : List ℕ) (h g i : History) → TellsNew accepted [] name copied → TellsNothing h g
    → TellsLine (name_line (told_of copied) name) g i → TellsNames accepted (name ∷ []) h i
told_name accepted copied name h g i new untold tells = (
  name_line (told_of copied) name ∷ [],
  (
    ap (λ (k : History). lines_of k.acts) tells
        ∙ (line_told g (name_line (told_of copied) name) true
        ∙ ap (λ (l : List (List ℕ)). l ++ name_line (told_of copied) name ∷ []) untold),
    ((copied, (refl, new)), tt),
  ),
)

-- a line that is told keeps what was carried
pub grows_told : (earlier : List Addition) (from : Origin) (some : List (List ℕ)) (added : List Addition) (store middle : Store) (line : List ℕ)
    (h g i : History) → Grows earlier from some added store middle h g → TellsLine line g i → Grows earlier from some added store middle h i
grows_told earlier from some added store middle line h g i grows tells =
    let behind = earlier ++ added in
    subst (λ (l : List (List ℕ)). Grows earlier from l added store middle h i) (append-nil some)
    (subst (λ (l : List Addition). Grows earlier from (some ++ []) l store middle h i) (append-nil added)
    (grows_then earlier from some [] added [] store middle middle h g i grows
    (grows_from behind from middle middle [] g i (rest_here middle) (told_gathers (border_behind AtBegin behind) from.most middle line g i tells))))

pub carries_told : (from : Origin) (some : List (List ℕ)) (records : List TaggedRecord) (added : List Addition) (store middle : Store) (line : List ℕ) (h g i :
    History)
    → CarriesNames from some records added store middle h g → TellsLine line g i → CarriesNames from some records added store middle h i
carries_told from some records added store middle line h g i carries tells =
    (grows_told [] from some added store middle line h g i carries.0 tells, carries.1)

-- ---- the whole is told behind all

pub reported_whole : (from : Origin) (carried : Carried) (names : List (List ℕ)) (added : List Addition) (store middle : Store) (h g i : History)
    → IsSettled store → AcceptsMore middle → KeepsReported from names store added h g → AllDone h g → Grows [] from names added store middle h g
    → TellsNames (accepted_in store) names h g → IsStep (TellOf (total_line carried)) g i → KeepsReported from names store added h i
reported_whole from carried names added store middle h g i settled accepts before done grows told is =
    subst (λ (l : List Addition). KeepsReported from names store l h i) (append-nil added)
    (subst (λ (l : List (List ℕ)). KeepsReported from l store (added ++ []) h i) (append-nil names)
    (reported_behind_at from names [] added [] store middle h g i settled accepts before done grows told last)) where
      line : List ℕ
      line = total_line carried

      at : Border
      at = border_behind AtBegin added

      last : KeepsReportedOn added from [] middle [] g i
      last counts fits =
          reported_map
          (λ lines image. ((lines ≡ []) ⊎ (lines ≡ line ∷ [])) × StandsFrom at (repo_view middle.repo).keys from.most [] fits.written image)
          (ShowsReportOn added from [] [] (accepted_in middle) (repo_view middle.repo) fits.written)
          (HoldsFront at (repo_view middle.repo).keys from.most (entries_of fits.written) [])
          (HoldsFront at (repo_view middle.repo).keys from.most (entries_of fits.written) []) counts g g i (λ lines image s.
          let stands : StandsOn added from [] [] (accepted_in middle) (repo_view middle.repo) fits.written image =
          on_from added from [] [] (accepted_in middle) counts middle g fits image accepts s.1 in
          (stands, report_whole (accepted_in middle) carried lines stands.done s.0)) (λ files has. has)
          (told_moments at from.most middle line g i counts fits is)

pub told_whole : (accepted : ManifestText) (names : List (List ℕ)) (added : List Addition) (carried : Carried) (h g i : History)
    → IsTotalOf accepted names added carried → TellsNames accepted names h g → TellsLine (total_line carried) g i
    → TellsWhole accepted names added carried h i
told_whole accepted names added carried h g i counted told tells = (
  counted,
  (
    told.0,
    (
      ap (λ (k : History). lines_of k.acts) tells
          ∙ (line_told g (total_line carried) true
          ∙ (ap (λ (l : List (List ℕ)). l ++ total_line carried ∷ []) told.1.0
          ∙ append_assoc (lines_of h.acts) told.0 (total_line carried ∷ []))),
      told.1.1,
    ),
  ),
)
