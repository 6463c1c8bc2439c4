-- Lemmas on specs/Items.antt: what the calls show of the files that a shelf tells, and what they refuse.
use Rattle.std.proofs.Common.{◌≡◌, ℕ, List, [], Option, None, IfSome, sym, subst}
use Rattle.ferry_disk.specs.Device.{Told, told_files, heard}
use Rattle.ferry_disk.specs.Files.{Files}
use Rattle.ferry_disk.proofs.DeviceLemmas.{told_same, told_then, told_with}
use Rattle.ferry_item.specs.Item.{ItemText}
use Rattle.ferry_item.specs.declared.item.ChunkRef.{ChunkRef}
use Rattle.ferry_log.specs.State.{FitsFiles}
use Rattle.ferry_repo.specs.Cached.{Contents}
use Rattle.ferry_repo.specs.Opening.{RepoState, FitsRepo}
use Rattle.ferry_repo.specs.Walk.{WalkState, FitsWalk}
use Rattle.ferry_repo.specs.Whole.{no_item}
use Rattle.ferry_view.specs.Items.{ReadsUpTo, IsItemListing, IsItemText, RefusesItems, IsContentOf, IsFile, IsFileText, RefusesFile, file_at}
use Rattle.ferry_view.specs.Items.ReadsUpTo.{no_archive, no_record}
use Rattle.ferry_view.specs.Lines.{item_lines}
use Rattle.ferry_view.specs.Output.{IsOfArchive, ShowsAll, ShowsSome}
use Rattle.ferry_view.specs.Steps.{Begins, RefusesBegin, AllLines, SomeLines, ReachesEnd, EndsWalk, FindsFile, FindsNone, EndsBefore}
use Rattle.ferry_view.specs.Steps.{AllContents, SomeContents, EndsContents, WritesFile, EndsFile}
use Rattle.ferry_view.specs.declared.fault.ViewFault.{ViewFault}
use Rattle.ferry_view.specs.declared.fault.ViewFault.TheVariants as View
use Rattle.ferry_view.proofs.ContentLemmas.{contents_file, behind_file, all_contents}
use Rattle.ferry_view.proofs.FileLemmas.{file_text, file_of, none_text, before_text, begin_refuses_file, lacks_file, before_refuses, file_refused}
use Rattle.ferry_view.proofs.FileLemmas.{some_file_text}
use Rattle.ferry_view.proofs.OutputLemmas.{map_all, map_some, all_some, more_none, shows_none}
use Rattle.ferry_view.proofs.SoFarLemmas.{told_both}
use Rattle.ferry_view.proofs.WalkLemmas.{begin_fits, listing_of, text_of, items_refused, begin_refuses_items, some_item_text}

-- ---- where a walk begins

-- the walk fits what a later call is told
pub begun_fits : (told later : Option Told) (repo after_repo : RepoState) (name : List ℕ) (walk : WalkState) → heard later ≡ heard told
    → after_repo ≡ repo → IfSome told (λ t. Begins (told_files t) repo name walk)
    → IfSome later (λ t. FitsWalk (told_files t) after_repo.log after_repo.keys walk)
begun_fits told later repo after_repo name walk same same_repo begins =
    told_same told later (λ f. FitsWalk f after_repo.log after_repo.keys walk) same
    (told_then told (λ f. Begins f repo name walk) (λ f. FitsWalk f after_repo.log after_repo.keys walk)
    (λ f b. subst (λ (r : RepoState). FitsWalk f r.log r.keys walk) (sym same_repo) (begin_fits f repo name walk b))
    begins)

-- the files fit the log of a repository that they fit
pub log_fits : (told : Option Told) (repo : RepoState) (cached : Contents) → IfSome told (λ t. FitsRepo (told_files t) repo cached)
    → IfSome told (λ t. FitsFiles (told_files t) repo.log)
log_fits told repo cached fits = told_then told (λ f. FitsRepo f repo cached) (λ f. FitsFiles f repo.log) (λ f h. h.log) fits

-- ---- the listing of items

pub listing_at : (told later : Option Told) (repo after_repo : RepoState) (name : List ℕ) (walk : WalkState) (before after : Option (List ℕ))
    → heard later ≡ heard told → after_repo ≡ repo → IfSome told (λ t. Begins (told_files t) repo name walk)
    → ShowsAll (λ f text. AllLines f after_repo walk text) later before after → ShowsAll (λ f text. IsItemListing f repo name text) told before after
listing_at told later repo after_repo name walk before after same same_repo begins all =
    map_all told later (λ f. Begins f repo name walk) (λ f text. AllLines f after_repo walk text) (λ f text. IsItemListing f repo name text) before after same
    (λ f text b lines. listing_of f repo name walk text b (subst (λ (r : RepoState). AllLines f r walk text) same_repo lines)) begins all

pub text_at : (told later : Option Told) (repo after_repo : RepoState) (name : List ℕ) (walk : WalkState) (before after : Option (List ℕ))
    → heard later ≡ heard told → after_repo ≡ repo → IfSome told (λ t. Begins (told_files t) repo name walk)
    → ShowsSome (λ f text. SomeLines f after_repo walk text) later before after → ShowsSome (λ f text. IsItemText f repo name text) told before after
text_at told later repo after_repo name walk before after same same_repo begins some =
    map_some told later (λ f. Begins f repo name walk) (λ f text. SomeLines f after_repo walk text) (λ f text. IsItemText f repo name text) before after same
    (λ f text b lines. text_of f repo name walk text b (subst (λ (r : RepoState). SomeLines f r walk text) same_repo lines)) begins some

pub text_all_at : (told later : Option Told) (repo after_repo : RepoState) (name : List ℕ) (walk : WalkState) (before after : Option (List ℕ))
    → heard later ≡ heard told → after_repo ≡ repo → IfSome told (λ t. Begins (told_files t) repo name walk)
    → ShowsAll (λ f text. SomeLines f after_repo walk text) later before after → ShowsAll (λ f text. IsItemText f repo name text) told before after
text_all_at told later repo after_repo name walk before after same same_repo begins all =
    map_all told later (λ f. Begins f repo name walk) (λ f text. SomeLines f after_repo walk text) (λ f text. IsItemText f repo name text) before after same
    (λ f text b lines. text_of f repo name walk text b (subst (λ (r : RepoState). SomeLines f r walk text) same_repo lines)) begins all

-- where no walk begins nothing is shown
none_shown : (wanted : List ItemText → List ItemText) (IsShown : List ItemText → List ℕ → Type 0) (files : Files) (repo : RepoState) (name : List ℕ)
    (fault : ViewFault) → IsOfArchive fault → RefusesBegin files repo name fault → ReadsUpTo wanted IsShown files repo name []
none_shown wanted IsShown files repo name (View.Repo fault) of refuses = no_record refuses.0 fault refuses.1 of refuses.2
none_shown wanted IsShown files repo name View.NotFound of refuses = no_archive refuses
none_shown wanted IsShown files repo name View.Output of refuses = absurd of
none_shown wanted IsShown files repo name View.Memory of refuses = absurd of

pub no_lines_all : (told : Option Told) (repo : RepoState) (name : List ℕ) (before : Option (List ℕ)) (fault : ViewFault) → IsOfArchive fault
    → IfSome told (λ t. RefusesBegin (told_files t) repo name fault) → ShowsAll (λ f text. IsItemText f repo name text) told before before
no_lines_all told repo name before fault of refuses = record {
  text = [];
  is = told_then told (λ f. RefusesBegin f repo name fault) (λ f. IsItemText f repo name [])
      (λ f. none_shown no_item (λ items shown. shown ≡ item_lines items) f repo name fault of) refuses;
  written = more_none before;
}

pub items_refused_at : (told later : Option Told) (repo after_repo : RepoState) (name : List ℕ) (walk : WalkState) (fault : ViewFault)
    → heard later ≡ heard told → after_repo ≡ repo → IfSome told (λ t. Begins (told_files t) repo name walk)
    → IfSome later (λ t. EndsWalk (told_files t) after_repo walk fault) → IfSome told (λ t. RefusesItems (told_files t) repo name fault)
items_refused_at told later repo after_repo name walk fault same same_repo begins ends =
    told_with told later (λ f. Begins f repo name walk) (λ f. EndsWalk f after_repo walk fault) (λ f. RefusesItems f repo name fault) same
    (λ f b e. items_refused f repo name walk fault b (subst (λ (r : RepoState). EndsWalk f r walk fault) same_repo e)) begins ends

pub items_unbegun : (told : Option Told) (repo : RepoState) (name : List ℕ) (fault : ViewFault)
    → IfSome told (λ t. RefusesBegin (told_files t) repo name fault) → IfSome told (λ t. RefusesItems (told_files t) repo name fault)
items_unbegun told repo name fault refuses =
    told_then told (λ f. RefusesBegin f repo name fault) (λ f. RefusesItems f repo name fault) (λ f. begin_refuses_items f repo name fault) refuses

pub no_lines : (told : Option Told) (repo : RepoState) (name : List ℕ) (before after : Option (List ℕ))
    → IfSome told (λ t. FitsFiles (told_files t) repo.log) → after ≡ before → ShowsSome (λ f text. IsItemText f repo name text) told before after
no_lines told repo name before after fits same =
    shows_none told (λ f. FitsFiles f repo.log) (λ f text. IsItemText f repo name text) before after (λ f. some_item_text f repo name) fits same

-- ---- a file

-- all contents are out, and then the stream ends whole
pub writes_file : (told later : Option Told) (repo after_repo : RepoState) (walk : WalkState) (chunks : List ChunkRef) (before after : Option (List ℕ))
    → heard later ≡ heard told → after_repo ≡ repo → ShowsAll (λ f text. AllContents f repo chunks text) told before after
    → IfSome later (λ t. ReachesEnd (told_files t) after_repo walk) → ShowsAll (λ f text. WritesFile f repo walk chunks text) told before after
writes_file told later repo after_repo walk chunks before after same same_repo all reaches = record {
  text = all.text;
  is = told_with told later (λ f. AllContents f repo chunks all.text) (λ f. ReachesEnd f after_repo walk) (λ f. WritesFile f repo walk chunks all.text) same
      (λ f c r. record { contents = c; reaches = subst (λ (p : RepoState). ReachesEnd f p walk) same_repo r }) all.is reaches;
  written = all.written;
}

pub contents_some : (told : Option Told) (repo : RepoState) (chunks : List ChunkRef) (before after : Option (List ℕ))
    → ShowsAll (λ f text. AllContents f repo chunks text) told before after → ShowsSome (λ f text. SomeContents f repo chunks text) told before after
contents_some told repo chunks before after all =
    all_some (λ f text. SomeContents f repo chunks text) told before after (record {
      text = all.text;
      is = told_then told (λ f. AllContents f repo chunks all.text) (λ f. SomeContents f repo chunks all.text)
          (λ f. all_contents f repo chunks all.text) all.is;
      written = all.written;
    })

pub contents_end_at : (told : Option Told) (repo : RepoState) (walk : WalkState) (chunks : List ChunkRef) (fault : ViewFault)
    → IfSome told (λ t. EndsContents (told_files t) repo chunks fault) → IfSome told (λ t. EndsFile (told_files t) repo walk chunks fault)
contents_end_at told repo walk chunks fault ends =
    told_then told (λ f. EndsContents f repo chunks fault) (λ f. EndsFile f repo walk chunks fault) (λ f. contents_file f repo walk chunks fault) ends

pub behind_end_at : (told later : Option Told) (repo after_repo : RepoState) (walk : WalkState) (chunks : List ChunkRef) (fault : ViewFault)
    (before after : Option (List ℕ)) → heard later ≡ heard told → after_repo ≡ repo
    → ShowsAll (λ f text. AllContents f repo chunks text) told before after → IfSome later (λ t. EndsWalk (told_files t) after_repo walk fault)
    → IfSome told (λ t. EndsFile (told_files t) repo walk chunks fault)
behind_end_at told later repo after_repo walk chunks fault before after same same_repo all ends =
    told_with told later (λ f. AllContents f repo chunks all.text) (λ f. EndsWalk f after_repo walk fault) (λ f. EndsFile f repo walk chunks fault) same
    (λ f c e. behind_file f repo walk chunks all.text fault c (subst (λ (r : RepoState). EndsWalk f r walk fault) same_repo e)) all.is ends

-- ---- extraction

pub no_content : (told : Option Told) (repo : RepoState) (name path : List ℕ) (before after : Option (List ℕ))
    → IfSome told (λ t. FitsFiles (told_files t) repo.log) → after ≡ before → ShowsSome (λ f text. IsFileText f repo name path text) told before after
no_content told repo name path before after fits same =
    shows_none told (λ f. FitsFiles f repo.log) (λ f text. IsFileText f repo name path text) before after (λ f. some_file_text f repo name path) fits same

-- where no walk begins there is no content
pub no_content_all : (told : Option Told) (repo : RepoState) (name path : List ℕ) (before : Option (List ℕ)) (fault : ViewFault) → IsOfArchive fault
    → IfSome told (λ t. RefusesBegin (told_files t) repo name fault) → ShowsAll (λ f text. IsFileText f repo name path text) told before before
no_content_all told repo name path before fault of refuses = record {
  text = [];
  is = told_then told (λ f. RefusesBegin f repo name fault) (λ f. IsFileText f repo name path [])
      (λ f. none_shown (file_at path) (λ items shown. IsContentOf f repo (file_at path items) shown) f repo name fault of) refuses;
  written = more_none before;
}

pub file_unbegun : (told : Option Told) (repo : RepoState) (name path : List ℕ) (fault : ViewFault)
    → IfSome told (λ t. RefusesBegin (told_files t) repo name fault) → IfSome told (λ t. RefusesFile (told_files t) repo name path fault)
file_unbegun told repo name path fault refuses =
    told_then told (λ f. RefusesBegin f repo name fault) (λ f. RefusesFile f repo name path fault) (λ f. begin_refuses_file f repo name path fault) refuses

pub file_before : (told later : Option Told) (repo after_repo : RepoState) (name path : List ℕ) (walk : WalkState) (fault : ViewFault)
    → heard later ≡ heard told → after_repo ≡ repo → IfSome told (λ t. Begins (told_files t) repo name walk)
    → IfSome later (λ t. EndsBefore (told_files t) after_repo walk path fault) → IfSome told (λ t. RefusesFile (told_files t) repo name path fault)
file_before told later repo after_repo name path walk fault same same_repo begins ends =
    told_with told later (λ f. Begins f repo name walk) (λ f. EndsBefore f after_repo walk path fault) (λ f. RefusesFile f repo name path fault) same
    (λ f b e. before_refuses f repo name path walk fault b (subst (λ (r : RepoState). EndsBefore f r walk path fault) same_repo e)) begins ends

-- and there is none where it is refused before it comes to the file, or comes to none
pub file_before_all : (told later : Option Told) (repo after_repo : RepoState) (name path : List ℕ) (walk : WalkState) (before : Option (List ℕ))
    (fault : ViewFault) → IsOfArchive fault → heard later ≡ heard told → after_repo ≡ repo → IfSome told (λ t. Begins (told_files t) repo name walk)
    → IfSome later (λ t. EndsBefore (told_files t) after_repo walk path fault)
    → ShowsAll (λ f text. IsFileText f repo name path text) told before before
file_before_all told later repo after_repo name path walk before fault of same same_repo begins ends = record {
  text = [];
  is = told_with told later (λ f. Begins f repo name walk) (λ f. EndsBefore f after_repo walk path fault) (λ f. IsFileText f repo name path []) same
      (λ f b e. before_text f repo name path walk fault of b (subst (λ (r : RepoState). EndsBefore f r walk path fault) same_repo e)) begins ends;
  written = more_none before;
}

pub file_missing_all : (told later : Option Told) (repo after_repo : RepoState) (name path : List ℕ) (walk : WalkState) (before : Option (List ℕ))
    → heard later ≡ heard told → after_repo ≡ repo → IfSome told (λ t. Begins (told_files t) repo name walk)
    → IfSome later (λ t. FindsNone (told_files t) after_repo walk path None)
    → ShowsAll (λ f text. IsFileText f repo name path text) told before before
file_missing_all told later repo after_repo name path walk before same same_repo begins none = record {
  text = [];
  is = told_with told later (λ f. Begins f repo name walk) (λ f. FindsNone f after_repo walk path None) (λ f. IsFileText f repo name path []) same
      (λ f b n. none_text f repo name path walk None b (subst (λ (r : RepoState). FindsNone f r walk path None) same_repo n)) begins none;
  written = more_none before;
}

pub file_missing : (told later : Option Told) (repo after_repo : RepoState) (name path : List ℕ) (walk : WalkState)
    → heard later ≡ heard told → after_repo ≡ repo → IfSome told (λ t. Begins (told_files t) repo name walk)
    → IfSome later (λ t. FindsNone (told_files t) after_repo walk path None)
    → IfSome told (λ t. RefusesFile (told_files t) repo name path View.NotFound)
file_missing told later repo after_repo name path walk same same_repo begins none =
    told_with told later (λ f. Begins f repo name walk) (λ f. FindsNone f after_repo walk path None)
    (λ f. RefusesFile f repo name path View.NotFound) same
    (λ f b n. lacks_file f repo name path walk b (subst (λ (r : RepoState). FindsNone f r walk path None) same_repo n)) begins none

-- what is known where the file is found
abbrev pub FoundAt : Files → RepoState → List ℕ → List ℕ → WalkState → WalkState → List ChunkRef → Type 0
FoundAt files repo name path walk now chunks =
    FitsFiles files repo.log × Begins files repo name walk × FindsFile files repo walk path chunks now

pub found_at : (told later : Option Told) (repo after_repo : RepoState) (name path : List ℕ) (walk now : WalkState) (chunks : List ChunkRef)
    → heard later ≡ heard told → after_repo ≡ repo → IfSome told (λ t. FitsFiles (told_files t) repo.log)
    → IfSome told (λ t. Begins (told_files t) repo name walk) → IfSome later (λ t. FindsFile (told_files t) after_repo walk path chunks now)
    → IfSome told (λ t. FoundAt (told_files t) repo name path walk now chunks)
found_at told later repo after_repo name path walk now chunks same same_repo fits begins finds =
    told_with told later (λ f. FitsFiles f repo.log × Begins f repo name walk) (λ f. FindsFile f after_repo walk path chunks now)
    (λ f. FoundAt f repo name path walk now chunks) same
    (λ f both x. (both.0, both.1, subst (λ (r : RepoState). FindsFile f r walk path chunks now) same_repo x))
    (told_both told (λ f. FitsFiles f repo.log) (λ f. Begins f repo name walk) fits begins) finds

-- the walk that found the file fits what a later call is told
pub found_fits : (told later : Option Told) (repo after_repo : RepoState) (name path : List ℕ) (walk now : WalkState) (chunks : List ChunkRef)
    → heard later ≡ heard told → after_repo ≡ repo → IfSome told (λ t. FoundAt (told_files t) repo name path walk now chunks)
    → IfSome later (λ t. FitsWalk (told_files t) after_repo.log after_repo.keys now)
found_fits told later repo after_repo name path walk now chunks same same_repo found =
    told_same told later (λ f. FitsWalk f after_repo.log after_repo.keys now) same
    (told_then told (λ f. FoundAt f repo name path walk now chunks) (λ f. FitsWalk f after_repo.log after_repo.keys now)
    (λ f h. subst (λ (r : RepoState). FitsWalk f r.log r.keys now) (sym same_repo) h.2.answers.fits) found)

pub file_at_end : (told later : Option Told) (repo after_repo : RepoState) (name path : List ℕ) (walk now : WalkState) (chunks : List ChunkRef)
    (before after : Option (List ℕ)) → heard later ≡ heard told → after_repo ≡ repo
    → IfSome told (λ t. FoundAt (told_files t) repo name path walk now chunks)
    → ShowsAll (λ f text. WritesFile f after_repo now chunks text) later before after → ShowsAll (λ f text. IsFile f repo name path text) told before after
file_at_end told later repo after_repo name path walk now chunks before after same same_repo found all =
    map_all told later (λ f. FoundAt f repo name path walk now chunks) (λ f text. WritesFile f after_repo now chunks text)
    (λ f text. IsFile f repo name path text) before after same
    (λ f text h w. let x = subst (λ (r : RepoState). WritesFile f r now chunks text) same_repo w in
    file_of f repo name path walk now chunks text h.1 h.2 x.contents x.reaches) found all

pub file_some : (told later : Option Told) (repo after_repo : RepoState) (name path : List ℕ) (walk now : WalkState) (chunks : List ChunkRef)
    (before after : Option (List ℕ)) → heard later ≡ heard told → after_repo ≡ repo
    → IfSome told (λ t. FoundAt (told_files t) repo name path walk now chunks)
    → ShowsSome (λ f text. SomeContents f after_repo chunks text) later before after
    → ShowsSome (λ f text. IsFileText f repo name path text) told before after
file_some told later repo after_repo name path walk now chunks before after same same_repo found some =
    map_some told later (λ f. FoundAt f repo name path walk now chunks) (λ f text. SomeContents f after_repo chunks text)
    (λ f text. IsFileText f repo name path text) before after same
    (λ f text h s. file_text f repo name path walk now chunks text h.0 h.1 h.2 (subst (λ (r : RepoState). SomeContents f r chunks text) same_repo s))
    found some

pub file_all : (told later : Option Told) (repo after_repo : RepoState) (name path : List ℕ) (walk now : WalkState) (chunks : List ChunkRef)
    (before after : Option (List ℕ)) → heard later ≡ heard told → after_repo ≡ repo
    → IfSome told (λ t. FoundAt (told_files t) repo name path walk now chunks)
    → ShowsAll (λ f text. SomeContents f after_repo chunks text) later before after
    → ShowsAll (λ f text. IsFileText f repo name path text) told before after
file_all told later repo after_repo name path walk now chunks before after same same_repo found all =
    map_all told later (λ f. FoundAt f repo name path walk now chunks) (λ f text. SomeContents f after_repo chunks text)
    (λ f text. IsFileText f repo name path text) before after same
    (λ f text h s. file_text f repo name path walk now chunks text h.0 h.1 h.2 (subst (λ (r : RepoState). SomeContents f r chunks text) same_repo s))
    found all

pub file_refused_at : (told later : Option Told) (repo after_repo : RepoState) (name path : List ℕ) (walk now : WalkState) (chunks : List ChunkRef)
    (fault : ViewFault) → heard later ≡ heard told → after_repo ≡ repo → IfSome told (λ t. FoundAt (told_files t) repo name path walk now chunks)
    → IfSome later (λ t. EndsFile (told_files t) after_repo now chunks fault) → IfSome told (λ t. RefusesFile (told_files t) repo name path fault)
file_refused_at told later repo after_repo name path walk now chunks fault same same_repo found ends =
    told_with told later (λ f. FoundAt f repo name path walk now chunks) (λ f. EndsFile f after_repo now chunks fault)
    (λ f. RefusesFile f repo name path fault) same
    (λ f h e. file_refused f repo name path walk now chunks fault h.0 h.1 h.2 (subst (λ (r : RepoState). EndsFile f r now chunks fault) same_repo e))
    found ends
