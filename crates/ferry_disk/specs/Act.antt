-- What is done to the files of a repository, act by act. Files are what the acts that were done make of those at the start, so
-- that a device tells its history and no files beside it.
use Rattle.std.specs.Prelude.{◌≡◌, ℕ, nat_eq, Bool, true, false, List, [], ◌∷◌, ◌++◌, fold, if◌then◌else◌, refl}
use Rattle.std.specs.Coded.{Coded, code_by, coded×, coded_ℕ, coded_bool, coded_list}
use Rattle.ferry_disk.specs.Files.{Files, segment_bytes, with_file, without_segment, coded_files}
use Rattle.ferry_disk.specs.declared.name.Name.{Name}
use Rattle.ferry_disk.specs.declared.name.Name.TheVariants.{Config, Nonce, Readme, Segment}

-- what an act does where it is done
pub data Step : Type 0 where
  AppendTo : (segment : ℕ) (bytes : List ℕ) → Step
  SyncOf : (segment : ℕ) → Step
  RemoveOf : (segment : ℕ) → Step
  ReplaceBy : (name : Name) (bytes : List ℕ) → Step
  SettleAll : Step
  TellOf : (line : List ℕ) → Step

-- a step, and whether it was done
pub record Act : Type 0 where
  pub step : Step
  pub done : Bool

-- an act that was done, and one that wasn't
abbrev pub did : Step → Act
did step = record { step = step; done = true }

abbrev pub undone : Step → Act
undone step = record { step = step; done = false }

-- the files with a plain file replaced; a segment isn't replaced
abbrev pub replaced : Files → Name → List ℕ → Files
replaced files (Segment number) bytes = files
replaced files name bytes = with_file files name bytes

-- the files after a step that was done
abbrev pub stepped : Files → Step → Files
stepped files (AppendTo segment bytes) = with_file files (Segment segment) (segment_bytes files segment ++ bytes)
stepped files (SyncOf segment) = files
stepped files (RemoveOf segment) = without_segment files segment
stepped files (ReplaceBy name bytes) = replaced files name bytes
stepped files SettleAll = files
stepped files (TellOf line) = files

-- the files after an act: one that wasn't done changes nothing that a read gives
abbrev pub after_act : Files → Act → Files
after_act files act = if act.done then stepped files act.step else files

-- the files after these acts
abbrev pub applied : Files → List Act → Files
applied start acts = fold after_act start acts

-- what a device tells of its files: those at this opening, the acts of earlier runs, and those of this run
pub record History : Type 0 where
  pub start : Files
  pub past : List Act
  pub acts : List Act

-- the files that a read gives
abbrev pub files_now : History → Files
files_now history = applied history.start history.acts

-- files to which nothing was done
abbrev pub untouched : Files → History
untouched files = record { start = files; past = []; acts = [] }

-- one more act of this run
abbrev pub with_act : Step → Bool → History → History
with_act step done history = record history { acts = history.acts ++ record { step = step; done = done } ∷ [] }

-- the next run, where no stop of the machine came between: it begins with what a read gives
abbrev pub after_run : History → History
after_run history = record { start = files_now history; past = history.past ++ history.acts; acts = [] }

-- the next run, where the machine stopped: it begins with what the stop left, of these acts of the run that was stopped
abbrev pub after_stop : Files → List Act → History → History
after_stop image acts history = record { start = image; past = history.past ++ acts; acts = [] }

-- The file is no segment.
abbrev pub IsPlain : Name → Type 0
IsPlain (Segment number) = ⊥
IsPlain name = Unit {0}

-- A step replaces no segment.
abbrev pub IsPlainStep : Step → Type 0
IsPlainStep (ReplaceBy name bytes) = IsPlain name
IsPlainStep step = Unit {0}

-- ---- the codes by which proofs tell values apart

-- a step as a number of its kind, a number and bytes
abbrev pub step_code : Step → ℕ × (ℕ × List ℕ)
step_code (AppendTo segment bytes) = (0, (segment, bytes))
step_code (SyncOf segment) = (1, (segment, []))
step_code (RemoveOf segment) = (2, (segment, []))
step_code (ReplaceBy Config bytes) = (3, (0, bytes))
step_code (ReplaceBy Nonce bytes) = (4, (0, bytes))
step_code (ReplaceBy Readme bytes) = (5, (0, bytes))
step_code (ReplaceBy (Segment number) bytes) = (6, (number, bytes))
step_code SettleAll = (7, (0, []))
step_code (TellOf line) = (8, (0, line))

abbrev pub step_back : ℕ × (ℕ × List ℕ) → Step
step_back p =
    if nat_eq p.0 0 then AppendTo p.1.0 p.1.1 else
    (if nat_eq p.0 1 then SyncOf p.1.0 else
    (if nat_eq p.0 2 then RemoveOf p.1.0 else
    (if nat_eq p.0 3 then ReplaceBy Config p.1.1 else
    (if nat_eq p.0 4 then ReplaceBy Nonce p.1.1 else
    (if nat_eq p.0 5 then ReplaceBy Readme p.1.1 else
    (if nat_eq p.0 6 then ReplaceBy (Segment p.1.0) p.1.1 else
    (if nat_eq p.0 7 then SettleAll else TellOf p.1.1)))))))

pub step_back_code : (step : Step) → step_back (step_code step) ≡ step
step_back_code (AppendTo segment bytes) = refl
step_back_code (SyncOf segment) = refl
step_back_code (RemoveOf segment) = refl
step_back_code (ReplaceBy Config bytes) = refl
step_back_code (ReplaceBy Nonce bytes) = refl
step_back_code (ReplaceBy Readme bytes) = refl
step_back_code (ReplaceBy (Segment number) bytes) = refl
step_back_code SettleAll = refl
step_back_code (TellOf line) = refl

abbrev pub coded_step : Coded Step
coded_step = code_by (ℕ × (ℕ × List ℕ)) (coded× coded_ℕ (coded× coded_ℕ (coded_list coded_ℕ))) step_code step_back step_back_code

abbrev pub coded_act : Coded Act
coded_act = code_by (Step × Bool) (coded× coded_step coded_bool) (λ a. (a.step, a.done)) (λ p. record { step = p.0; done = p.1 }) (λ _. refl)

abbrev pub coded_history : Coded History
coded_history = code_by (Files × (List Act × List Act)) (coded× coded_files (coded× (coded_list coded_act) (coded_list coded_act)))
    (λ h. (h.start, (h.past, h.acts))) (λ p. record { start = p.0; past = p.1.0; acts = p.1.1 }) (λ _. refl)
