-- Lemmas on specs/Steps.antt: what a loop over a walk has done so far, one item more, and its end.
use Rattle.std.proofs.Common.{◌≡◌, ◌⊎◌, inl, inr, ℕ, true, false, List, [], ◌∷◌, ◌++◌, Option, Some, None, Result, Ok, Err, IfErr, IfSome, option_map}
use Rattle.std.proofs.Common.{refl, sym, subst}
use Rattle.std.proofs.lemmas.List.{append-nil}
use Rattle.ferry_disk.specs.Device.{Told, told_files, heard, WritesSome}
use Rattle.ferry_disk.specs.Files.{Files}
use Rattle.ferry_disk.proofs.DeviceLemmas.{told_same, told_then, told_with}
use Rattle.ferry_item.specs.Item.{ItemText}
use Rattle.ferry_item.specs.declared.item.ChunkRef.{ChunkRef}
use Rattle.ferry_log.specs.State.{FitsFiles}
use Rattle.ferry_repo.specs.Fault.{IsOfFiles}
use Rattle.ferry_repo.specs.Opening.{RepoState}
use Rattle.ferry_repo.specs.Walk.{WalkState, IsToCome, LeadsOn, FitsWalk}
use Rattle.ferry_repo.specs.declared.fault.RepoFault.{RepoFault}
use Rattle.ferry_repo.specs.declared.fault.RepoFault.TheVariants as Fault
use Rattle.ferry_view.specs.Items.{is_file}
use Rattle.ferry_view.specs.Lines.{item_line, item_lines}
use Rattle.ferry_view.specs.Output.{IsOfArchive, IsOutputFault, Sends, ShowsAll, ShowsSome, repo_fault}
use Rattle.ferry_view.specs.declared.fault.ViewFault.{ViewFault}
use Rattle.ferry_view.specs.declared.fault.ViewFault.TheVariants.{Repo, NotFound, Output, Memory}
use Rattle.ferry_view.specs.Steps.{AllLines, SomeLines, ReachesEnd, EndsWalk, EndsBefore, FindsFile, FindsNone, Answers, GoesOn, ListsSoFar, SeeksFile}
use Rattle.ferry_view.proofs.LinesLemmas.{item_lines-none, item_lines-more}
use Rattle.ferry_view.proofs.OutputLemmas.{shows_more, sends_none, sends_more, sends_then, sent_all, sent_some, writes_none}
use Rattle.ferry_view.proofs.WalkLemmas.{answers_none, answers_more, lines_more}
use Rattle.ferry_view.proofs.FileLemmas.{file_none, file_not_yet}

-- ---- facts of the files that a shelf tells

pub told_both : (a : Option Told) (P Q : Files → Type 0) → IfSome a (λ t. P (told_files t)) → IfSome a (λ t. Q (told_files t))
    → IfSome a (λ t. P (told_files t) × Q (told_files t))
told_both a P Q p q = told_with a a P Q (λ f. P f × Q f) refl (λ f x y. (x, y)) p q

-- what follows where something more is known that a later call has told under a condition
pub told_if : (a b : Option Told) (C : Type 0) (P Q R : Files → Type 0) → heard b ≡ heard a → ((f : Files) → P f → (C → Q f) → R f)
    → IfSome a (λ t. P (told_files t)) → (C → IfSome b (λ t. Q (told_files t))) → IfSome a (λ t. R (told_files t))
told_if None b C P Q R e step p q = tt
told_if (Some a) None C P Q R e step p q = absurd (let none : ⊥ = cc in none)
told_if (Some a) (Some b) C P Q R e step p q = step (told_files a) p (λ c. told_same (Some b) (Some a) Q (sym e) (q c))

-- ---- one item more

step_over : (told later : Option Told) (repo after_repo : RepoState) (from now after : WalkState) (done more : List ItemText)
    → heard later ≡ heard told → after_repo ≡ repo → IfSome told (λ t. Answers (told_files t) repo from done now)
    → IfSome later (λ t. LeadsOn (told_files t) after_repo.log after_repo.keys now more after)
    → IfSome later (λ t. FitsWalk (told_files t) after_repo.log after_repo.keys after)
    → IfSome told (λ t. Answers (told_files t) repo from (done ++ more) after)
step_over told later repo after_repo from now after done more same same_repo answers leads fits =
    told_with told later (λ f. Answers f repo from done now)
    (λ f. LeadsOn f after_repo.log after_repo.keys now more after × FitsWalk f after_repo.log after_repo.keys after)
    (λ f. Answers f repo from (done ++ more) after) same
    (λ f a both. answers_more f repo from now after done more a
    (subst (λ (r : RepoState). LeadsOn f r.log r.keys now more after) same_repo both.0)
    (subst (λ (r : RepoState). FitsWalk f r.log r.keys after) same_repo both.1))
    answers
    (told_both later (λ f. LeadsOn f after_repo.log after_repo.keys now more after) (λ f. FitsWalk f after_repo.log after_repo.keys after) leads fits)

-- ---- the end

none_at : (files : Files) (repo : RepoState) (from now : WalkState) (done : List ItemText) (end : Option RepoFault) → Answers files repo from done now
    → IsToCome files repo.log repo.keys now [] end → IsToCome files repo.log repo.keys from done end
none_at files repo from now done end answers come =
    subst (λ (is : List ItemText). IsToCome files repo.log repo.keys from is end) (append-nil done) (answers.leads [] end come)

ends_of : (files : Files) (repo : RepoState) (walk : WalkState) (fault : RepoFault)
    → (IsOfFiles fault → (items : List ItemText) × IsToCome files repo.log repo.keys walk items (Some fault))
    → EndsWalk files repo walk (repo_fault fault)
ends_of files repo walk Fault.NoCommit h = h
ends_of files repo walk (Fault.Damaged segment at) h = h
ends_of files repo walk (Fault.Config f) h = h
ends_of files repo walk (Fault.Key f) h = h
ends_of files repo walk (Fault.Missing id) h = h
ends_of files repo walk (Fault.Blob id f) h = h
ends_of files repo walk (Fault.Manifest f) h = h
ends_of files repo walk (Fault.Archive id f) h = h
ends_of files repo walk (Fault.Item id f) h = h
ends_of files repo walk (Fault.Size id) h = h
ends_of files repo walk (Fault.KeyFile fault) h = h
ends_of files repo walk (Fault.Other file config) h = h
ends_of files repo walk Fault.NoKey h = h
ends_of files repo walk Fault.Device h = h
ends_of files repo walk Fault.Memory h = tt

before_of : (files : Files) (repo : RepoState) (walk : WalkState) (path : List ℕ) (fault : RepoFault)
    → (IsOfFiles fault → FindsNone files repo walk path (Some fault)) → EndsBefore files repo walk path (repo_fault fault)
before_of files repo walk path Fault.NoCommit h = h
before_of files repo walk path (Fault.Damaged segment at) h = h
before_of files repo walk path (Fault.Config f) h = h
before_of files repo walk path (Fault.Key f) h = h
before_of files repo walk path (Fault.Missing id) h = h
before_of files repo walk path (Fault.Blob id f) h = h
before_of files repo walk path (Fault.Manifest f) h = h
before_of files repo walk path (Fault.Archive id f) h = h
before_of files repo walk path (Fault.Item id f) h = h
before_of files repo walk path (Fault.Size id) h = h
before_of files repo walk path (Fault.KeyFile fault) h = h
before_of files repo walk path (Fault.Other file config) h = h
before_of files repo walk path Fault.NoKey h = h
before_of files repo walk path Fault.Device h = h
before_of files repo walk path Fault.Memory h = tt

-- a step that is refused ends the walk
pub ends_at : (told later : Option Told) (repo after_repo : RepoState) (from now : WalkState) (done : List ItemText) (fault : RepoFault)
    → heard later ≡ heard told → after_repo ≡ repo → IfSome told (λ t. Answers (told_files t) repo from done now)
    → (IsOfFiles fault → IfSome later (λ t. IsToCome (told_files t) after_repo.log after_repo.keys now [] (Some fault)))
    → IfSome told (λ t. EndsWalk (told_files t) repo from (repo_fault fault))
ends_at told later repo after_repo from now done fault same same_repo answers refused =
    told_if told later (IsOfFiles fault) (λ f. Answers f repo from done now)
    (λ f. IsToCome f after_repo.log after_repo.keys now [] (Some fault)) (λ f. EndsWalk f repo from (repo_fault fault)) same
    (λ f a come. ends_of f repo from fault (λ of_files. (
      done,
      none_at f repo from now done (Some fault) a
          (subst (λ (r : RepoState). IsToCome f r.log r.keys now [] (Some fault)) same_repo (come of_files)),
    )))
    answers refused

-- where the answer is that or one of the output, it says why
pub ends_answer : (told : Option Told) (repo : RepoState) (from : WalkState) (fault : RepoFault) (r : Result (Unit {0}) ViewFault)
    → IfErr r (λ answer. (answer ≡ repo_fault fault) ⊎ IsOutputFault answer) → IfSome told (λ t. EndsWalk (told_files t) repo from (repo_fault fault))
    → IfErr r (λ answer. IfSome told (λ t. EndsWalk (told_files t) repo from answer))
ends_answer told repo from fault (Ok v) is ends = tt
ends_answer told repo from fault (Err answer) (inl is) ends =
    subst (λ (f : ViewFault). IfSome told (λ t. EndsWalk (told_files t) repo from f)) (sym is) ends
ends_answer None repo from fault (Err answer) (inr is) ends = tt
ends_answer (Some t) repo from fault (Err (Repo f)) (inr is) ends = absurd is
ends_answer (Some t) repo from fault (Err NotFound) (inr is) ends = absurd is
ends_answer (Some t) repo from fault (Err Output) (inr is) ends = tt
ends_answer (Some t) repo from fault (Err Memory) (inr is) ends = tt

-- the stream ends whole
pub reaches_at : (told later : Option Told) (repo after_repo : RepoState) (from now : WalkState) (done : List ItemText)
    → heard later ≡ heard told → after_repo ≡ repo → IfSome told (λ t. Answers (told_files t) repo from done now)
    → IfSome later (λ t. IsToCome (told_files t) after_repo.log after_repo.keys now [] None)
    → IfSome told (λ t. IsToCome (told_files t) repo.log repo.keys from done None)
reaches_at told later repo after_repo from now done same same_repo answers none =
    told_with told later (λ f. Answers f repo from done now) (λ f. IsToCome f after_repo.log after_repo.keys now [] None)
    (λ f. IsToCome f repo.log repo.keys from done None) same
    (λ f a come. none_at f repo from now done None a (subst (λ (r : RepoState). IsToCome f r.log r.keys now [] None) same_repo come))
    answers none

-- ---- lines

pub lists_begin : (told : Option Told) (repo : RepoState) (walk : WalkState) (out : Option (List ℕ)) (gathered : List ℕ) → gathered ≡ []
    → IfSome told (λ t. FitsWalk (told_files t) repo.log repo.keys walk) → ListsSoFar told repo walk walk out out gathered
lists_begin told repo walk out gathered none fits = record {
  done = [];
  answers = told_then told (λ f. FitsWalk f repo.log repo.keys walk) (λ f. Answers f repo walk [] walk) (λ f. answers_none f repo walk) fits;
  sends = subst (λ (s : List ℕ). Sends out out s (item_lines [])) (sym none)
      (subst (λ (t : List ℕ). Sends out out [] t) (sym item_lines-none) (sends_none out));
}

-- one line more is gathered
pub lists_next : (told later : Option Told) (repo after_repo : RepoState) (from now after : WalkState) (old out : Option (List ℕ)) (gathered : List ℕ)
    (item : ItemText) → heard later ≡ heard told → after_repo ≡ repo → ListsSoFar told repo from now old out gathered
    → IfSome later (λ t. LeadsOn (told_files t) after_repo.log after_repo.keys now (item ∷ []) after)
    → IfSome later (λ t. FitsWalk (told_files t) after_repo.log after_repo.keys after)
    → ListsSoFar told repo from after old out (gathered ++ item_line item)
lists_next told later repo after_repo from now after old out gathered item same same_repo lists leads fits = record {
  done = lists.done ++ (item ∷ []);
  answers = step_over told later repo after_repo from now after lists.done (item ∷ []) same same_repo lists.answers leads fits;
  sends = subst (λ (t : List ℕ). Sends old out (gathered ++ item_line item) t) (sym (item_lines-more lists.done item))
      (sends_more old out gathered (item_lines lists.done) (item_line item) lists.sends);
}

-- a part of what is gathered goes out
pub lists_sent : (told : Option Told) (repo : RepoState) (from now : WalkState) (old out after : Option (List ℕ)) (gathered left : List ℕ)
    → ListsSoFar told repo from now old out gathered → Sends out after left gathered → ListsSoFar told repo from now old after left
lists_sent told repo from now old out after gathered left lists sends = record {
  done = lists.done;
  answers = lists.answers;
  sends = sends_then old out after gathered left (item_lines lists.done) lists.sends sends;
}

-- all is out, and the stream ends whole
pub lists_all : (told later : Option Told) (repo after_repo : RepoState) (from now : WalkState) (old out after : Option (List ℕ)) (gathered : List ℕ)
    → heard later ≡ heard told → after_repo ≡ repo → ListsSoFar told repo from now old out gathered
    → IfSome later (λ t. IsToCome (told_files t) after_repo.log after_repo.keys now [] None)
    → after ≡ option_map (λ w. w ++ gathered) out → ShowsAll (λ f text. AllLines f repo from text) told old after
lists_all told later repo after_repo from now old out after gathered same same_repo lists none went = record {
  text = item_lines lists.done;
  is = told_then told (λ f. IsToCome f repo.log repo.keys from lists.done None) (λ f. AllLines f repo from (item_lines lists.done))
      (λ f come. record { items = lists.done; come = come; lines = refl })
      (reaches_at told later repo after_repo from now lists.done same same_repo lists.answers none);
  written = sent_all old out after gathered (item_lines lists.done) lists.sends went;
}

-- the fault of an archive is one of the files
pub of_files : (fault : RepoFault) → IsOfArchive (repo_fault fault) → IsOfFiles fault
of_files Fault.NoCommit h = h
of_files (Fault.Damaged segment at) h = h
of_files (Fault.Config f) h = h
of_files (Fault.Key f) h = h
of_files (Fault.Missing id) h = h
of_files (Fault.Blob id f) h = h
of_files (Fault.Manifest f) h = h
of_files (Fault.Archive id f) h = h
of_files (Fault.Item id f) h = h
of_files (Fault.Size id) h = h
of_files (Fault.KeyFile fault) h = h
of_files (Fault.Other file config) h = h
of_files Fault.NoKey h = h
of_files Fault.Device h = h
of_files Fault.Memory h = absurd h

of_archive : (fault : RepoFault) (answer : ViewFault) → (answer ≡ repo_fault fault) ⊎ IsOutputFault answer → IsOfArchive answer → IsOfFiles fault
of_archive fault answer (inl is) of = of_files fault (subst IsOfArchive is of)
of_archive fault (Repo f) (inr is) of = absurd is
of_archive fault NotFound (inr is) of = absurd is
of_archive fault Output (inr is) of = absurd of
of_archive fault Memory (inr is) of = absurd of

-- all is out, and the stream ends with a fault of the files
lists_end : (told later : Option Told) (repo after_repo : RepoState) (from now : WalkState) (old out after : Option (List ℕ)) (gathered : List ℕ)
    (fault : RepoFault) → heard later ≡ heard told → after_repo ≡ repo → ListsSoFar told repo from now old out gathered
    → IfSome later (λ t. IsToCome (told_files t) after_repo.log after_repo.keys now [] (Some fault))
    → after ≡ option_map (λ w. w ++ gathered) out → ShowsAll (λ f text. SomeLines f repo from text) told old after
lists_end told later repo after_repo from now old out after gathered fault same same_repo lists ends went = record {
  text = item_lines lists.done;
  is = told_with told later (λ f. Answers f repo from lists.done now) (λ f. IsToCome f after_repo.log after_repo.keys now [] (Some fault))
      (λ f. SomeLines f repo from (item_lines lists.done)) same
      (λ f a come. (
        Some fault,
        record {
          items = lists.done;
          come = none_at f repo from now lists.done (Some fault) a
              (subst (λ (r : RepoState). IsToCome f r.log r.keys now [] (Some fault)) same_repo come);
          lines = refl;
        },
      ))
      lists.answers ends;
  written = sent_all old out after gathered (item_lines lists.done) lists.sends went;
}

pub lists_ended : (told later : Option Told) (repo after_repo : RepoState) (from now : WalkState) (old out after : Option (List ℕ)) (gathered : List ℕ)
    (fault : RepoFault) (r : Result (Unit {0}) ViewFault) → heard later ≡ heard told → after_repo ≡ repo → ListsSoFar told repo from now old out gathered
    → (IsOfFiles fault → IfSome later (λ t. IsToCome (told_files t) after_repo.log after_repo.keys now [] (Some fault)))
    → IfErr r (λ answer. (answer ≡ repo_fault fault) ⊎ IsOutputFault answer)
    → IfErr r (λ answer. IsOfArchive answer → after ≡ option_map (λ w. w ++ gathered) out)
    → IfErr r (λ answer. IsOfArchive answer → ShowsAll (λ f text. SomeLines f repo from text) told old after)
lists_ended told later repo after_repo from now old out after gathered fault (Ok v) same same_repo lists ends is went = tt
lists_ended told later repo after_repo from now old out after gathered fault (Err answer) same same_repo lists ends is went = λ of.
    lists_end told later repo after_repo from now old out after gathered fault same same_repo lists (ends (of_archive fault answer is of)) (went of)

pub sent_front : (old out after : Option (List ℕ)) (gathered text : List ℕ) → Sends old out gathered text → WritesSome out gathered after
    → WritesSome old text after
sent_front old out after gathered text sends some =
    subst (λ (t : List ℕ). WritesSome old t after) (append-nil text) (sent_some old out after gathered text [] sends some)

-- a front of the lines is out, and of what is gathered
pub lists_cut : (told : Option Told) (repo : RepoState) (from now : WalkState) (old out after : Option (List ℕ)) (gathered : List ℕ)
    → IfSome told (λ t. FitsFiles (told_files t) repo.log) → ListsSoFar told repo from now old out gathered → WritesSome out gathered after
    → ShowsSome (λ f text. SomeLines f repo from text) told old after
lists_cut told repo from now old out after gathered fits lists some =
    shows_more told (λ f. FitsFiles f repo.log × Answers f repo from lists.done now) (λ f text. SomeLines f repo from text) old after (item_lines lists.done)
    (λ f both. lines_more f repo from now lists.done both.0 both.1)
    (told_both told (λ f. FitsFiles f repo.log) (λ f. Answers f repo from lists.done now) fits lists.answers)
    (sent_front old out after gathered (item_lines lists.done) lists.sends some)

-- nothing more is out
pub lists_some : (told : Option Told) (repo : RepoState) (from now : WalkState) (old out : Option (List ℕ)) (gathered : List ℕ)
    → IfSome told (λ t. FitsFiles (told_files t) repo.log) → ListsSoFar told repo from now old out gathered
    → ShowsSome (λ f text. SomeLines f repo from text) told old out
lists_some told repo from now old out gathered fits lists =
    lists_cut told repo from now old out out gathered fits lists (writes_none out gathered)

-- ---- a walk to the end, or to a file

pub goes_begin : (told : Option Told) (repo : RepoState) (walk : WalkState)
    → IfSome told (λ t. FitsWalk (told_files t) repo.log repo.keys walk) → GoesOn told repo walk walk
goes_begin told repo walk fits = record {
  done = [];
  answers = told_then told (λ f. FitsWalk f repo.log repo.keys walk) (λ f. Answers f repo walk [] walk) (λ f. answers_none f repo walk) fits;
}

pub goes_next : (told later : Option Told) (repo after_repo : RepoState) (from now after : WalkState) (item : ItemText)
    → heard later ≡ heard told → after_repo ≡ repo → GoesOn told repo from now
    → IfSome later (λ t. LeadsOn (told_files t) after_repo.log after_repo.keys now (item ∷ []) after)
    → IfSome later (λ t. FitsWalk (told_files t) after_repo.log after_repo.keys after) → GoesOn told repo from after
goes_next told later repo after_repo from now after item same same_repo goes leads fits = record {
  done = goes.done ++ (item ∷ []);
  answers = step_over told later repo after_repo from now after goes.done (item ∷ []) same same_repo goes.answers leads fits;
}

pub goes_end : (told later : Option Told) (repo after_repo : RepoState) (from now : WalkState) → heard later ≡ heard told → after_repo ≡ repo
    → GoesOn told repo from now → IfSome later (λ t. IsToCome (told_files t) after_repo.log after_repo.keys now [] None)
    → IfSome told (λ t. ReachesEnd (told_files t) repo from)
goes_end told later repo after_repo from now same same_repo goes none =
    told_then told (λ f. IsToCome f repo.log repo.keys from goes.done None) (λ f. ReachesEnd f repo from) (λ f come. (goes.done, come))
    (reaches_at told later repo after_repo from now goes.done same same_repo goes.answers none)

pub seeks_begin : (told : Option Told) (repo : RepoState) (walk : WalkState) (path : List ℕ)
    → IfSome told (λ t. FitsWalk (told_files t) repo.log repo.keys walk) → SeeksFile told repo walk walk path
seeks_begin told repo walk path fits = record {
  done = [];
  answers = told_then told (λ f. FitsWalk f repo.log repo.keys walk) (λ f. Answers f repo walk [] walk) (λ f. answers_none f repo walk) fits;
  before = file_none path;
}

pub seeks_next : (told later : Option Told) (repo after_repo : RepoState) (from now after : WalkState) (path : List ℕ) (item : ItemText)
    → heard later ≡ heard told → after_repo ≡ repo → SeeksFile told repo from now path → is_file path item ≡ false
    → IfSome later (λ t. LeadsOn (told_files t) after_repo.log after_repo.keys now (item ∷ []) after)
    → IfSome later (λ t. FitsWalk (told_files t) after_repo.log after_repo.keys after) → SeeksFile told repo from after path
seeks_next told later repo after_repo from now after path item same same_repo seeks other leads fits = record {
  done = seeks.done ++ (item ∷ []);
  answers = step_over told later repo after_repo from now after seeks.done (item ∷ []) same same_repo seeks.answers leads fits;
  before = file_not_yet path seeks.done item seeks.before other;
}

-- the stream ends whole, and none of its items is the file
pub seeks_end : (told later : Option Told) (repo after_repo : RepoState) (from now : WalkState) (path : List ℕ) → heard later ≡ heard told
    → after_repo ≡ repo → SeeksFile told repo from now path → IfSome later (λ t. IsToCome (told_files t) after_repo.log after_repo.keys now [] None)
    → IfSome told (λ t. FindsNone (told_files t) repo from path None)
seeks_end told later repo after_repo from now path same same_repo seeks none =
    told_then told (λ f. IsToCome f repo.log repo.keys from seeks.done None) (λ f. FindsNone f repo from path None)
    (λ f come. record { items = seeks.done; come = come; none = seeks.before })
    (reaches_at told later repo after_repo from now seeks.done same same_repo seeks.answers none)

pub seeks_refused : (told later : Option Told) (repo after_repo : RepoState) (from now : WalkState) (path : List ℕ) (fault : RepoFault)
    → heard later ≡ heard told → after_repo ≡ repo → SeeksFile told repo from now path
    → (IsOfFiles fault → IfSome later (λ t. IsToCome (told_files t) after_repo.log after_repo.keys now [] (Some fault)))
    → IfSome told (λ t. EndsBefore (told_files t) repo from path (repo_fault fault))
seeks_refused told later repo after_repo from now path fault same same_repo seeks refused =
    told_if told later (IsOfFiles fault) (λ f. Answers f repo from seeks.done now)
    (λ f. IsToCome f after_repo.log after_repo.keys now [] (Some fault)) (λ f. EndsBefore f repo from path (repo_fault fault)) same
    (λ f a come. before_of f repo from path fault (λ of_files. record {
      items = seeks.done;
      come = none_at f repo from now seeks.done (Some fault) a
          (subst (λ (r : RepoState). IsToCome f r.log r.keys now [] (Some fault)) same_repo (come of_files));
      none = seeks.before;
    }))
    seeks.answers refused

-- the file is found
pub seeks_found : (told later : Option Told) (repo after_repo : RepoState) (from now after : WalkState) (path : List ℕ) (item : ItemText)
    (chunks : List ChunkRef) → heard later ≡ heard told → after_repo ≡ repo → SeeksFile told repo from now path → is_file path item ≡ true
    → item.chunks ≡ Some chunks → IfSome later (λ t. LeadsOn (told_files t) after_repo.log after_repo.keys now (item ∷ []) after)
    → IfSome later (λ t. FitsWalk (told_files t) after_repo.log after_repo.keys after)
    → IfSome told (λ t. FindsFile (told_files t) repo from path chunks after)
seeks_found told later repo after_repo from now after path item chunks same same_repo seeks is chunks_are leads fits =
    told_then told (λ f. Answers f repo from (seeks.done ++ (item ∷ [])) after) (λ f. FindsFile f repo from path chunks after)
    (λ f a. record { done = seeks.done; before = seeks.before; item = item; is = is; chunks_are = chunks_are; answers = a })
    (step_over told later repo after_repo from now after seeks.done (item ∷ []) same same_repo seeks.answers leads fits)
