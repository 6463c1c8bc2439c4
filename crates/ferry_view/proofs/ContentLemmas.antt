-- Lemmas on specs/Steps.antt: the contents of a file as they are written, and then the end of the stream.
use Rattle.std.proofs.Common.{◌≡◌, ℕ, ◌+◌, ◌<◌, List, [], ◌∷◌, ◌++◌, length, take, get_or, Option, Some, None, IfSome, option_map, inl, inr}
use Rattle.std.proofs.Common.{refl, sym, ◌∙◌, ap, subst}
use Rattle.ferry_disk.specs.Device.{Told, told_files, heard, WritesSome}
use Rattle.ferry_disk.specs.Files.{Files}
use Rattle.ferry_disk.proofs.DeviceLemmas.{told_any, told_then, told_with}
use Rattle.ferry_item.specs.Stream.{joined}
use Rattle.ferry_item.specs.declared.item.ChunkRef.{ChunkRef}
use Rattle.ferry_log.specs.State.{FitsFiles}
use Rattle.ferry_repo.specs.Archives.{HoldsContent, RefusesContent, ContentsCome}
use Rattle.ferry_repo.specs.Fault.{IsOfFiles}
use Rattle.ferry_repo.specs.Opening.{RepoState}
use Rattle.ferry_repo.specs.Walk.{WalkState}
use Rattle.ferry_repo.specs.declared.fault.RepoFault.{RepoFault}
use Rattle.ferry_repo.specs.declared.fault.RepoFault.TheVariants as Fault
use Rattle.ferry_view.specs.Output.{IsOfArchive, ShowsAll, ShowsSome, repo_fault}
use Rattle.ferry_view.specs.Steps.{ContentsShown, AllContents, SomeContents, EndsContents, EndsWalk, EndsFile, WritesSoFar}
use Rattle.ferry_view.specs.declared.fault.ViewFault.{ViewFault}
use Rattle.ferry_view.specs.declared.fault.ViewFault.TheVariants as View
use Rattle.ferry_view.proofs.FileLemmas.{joined_one, contents_next, contents_more, contents_refused}
use Rattle.ferry_view.proofs.OutputLemmas.{more_none, more_twice, writes_all, shows_more}
use Rattle.ferry_view.proofs.SoFarLemmas.{told_both, of_files, sent_front}

-- ---- the contents so far

pub writes_begin : (told : Option Told) (repo : RepoState) (out : Option (List ℕ)) → WritesSoFar told repo [] out out
writes_begin told repo out = record {
  contents = [];
  come = told_any told (λ f. ContentsCome f repo.log repo.keys [] [] None) (λ f. tt);
  written = more_none out;
}

come_next : (told later : Option Told) (repo after_repo : RepoState) (chunks : List ChunkRef) (place : ℕ) (d : ChunkRef) (contents : List (List ℕ))
    (content : List ℕ) → heard later ≡ heard told → after_repo ≡ repo → place < length chunks
    → IfSome told (λ t. ContentsCome (told_files t) repo.log repo.keys (take place chunks) contents None)
    → IfSome later (λ t. HoldsContent (told_files t) after_repo.log after_repo.keys (get_or chunks place d) content)
    → IfSome told (λ t. ContentsCome (told_files t) repo.log repo.keys (take (place + 1) chunks) (contents ++ (content ∷ [])) None)
come_next told later repo after_repo chunks place d contents content same same_repo lt come holds =
    told_with told later (λ f. ContentsCome f repo.log repo.keys (take place chunks) contents None)
    (λ f. HoldsContent f after_repo.log after_repo.keys (get_or chunks place d) content)
    (λ f. ContentsCome f repo.log repo.keys (take (place + 1) chunks) (contents ++ (content ∷ [])) None) same
    (λ f c h. contents_next f repo chunks place d contents content lt c
    (subst (λ (r : RepoState). HoldsContent f r.log r.keys (get_or chunks place d) content) same_repo h))
    come holds

-- one content more is out
pub writes_next : (told later : Option Told) (repo after_repo : RepoState) (chunks : List ChunkRef) (place : ℕ) (d : ChunkRef)
    (old out after : Option (List ℕ)) (content : List ℕ) → heard later ≡ heard told → after_repo ≡ repo → place < length chunks
    → WritesSoFar told repo (take place chunks) old out
    → IfSome later (λ t. HoldsContent (told_files t) after_repo.log after_repo.keys (get_or chunks place d) content)
    → after ≡ option_map (λ w. w ++ content) out → WritesSoFar told repo (take (place + 1) chunks) old after
writes_next told later repo after_repo chunks place d old out after content same same_repo lt writes holds went = record {
  contents = writes.contents ++ (content ∷ []);
  come = come_next told later repo after_repo chunks place d writes.contents content same same_repo lt writes.come holds;
  written = went
      ∙ (ap (option_map (λ w. w ++ content)) writes.written
      ∙ (more_twice old (joined writes.contents) content
      ∙ ap (λ (t : List ℕ). option_map (λ w. w ++ t) old) (sym (joined_one writes.contents content))));
}

some_of : (told : Option Told) (repo : RepoState) (chunks : List ChunkRef) (place : ℕ) (old after : Option (List ℕ)) (contents : List (List ℕ))
    → IfSome told (λ t. FitsFiles (told_files t) repo.log)
    → IfSome told (λ t. ContentsCome (told_files t) repo.log repo.keys (take place chunks) contents None) → WritesSome old (joined contents) after
    → ShowsSome (λ f text. SomeContents f repo chunks text) told old after
some_of told repo chunks place old after contents fits come some =
    shows_more told (λ f. FitsFiles f repo.log × ContentsCome f repo.log repo.keys (take place chunks) contents None)
    (λ f text. SomeContents f repo chunks text) old after (joined contents)
    (λ f both. contents_more f repo chunks place contents both.0 both.1)
    (told_both told (λ f. FitsFiles f repo.log) (λ f. ContentsCome f repo.log repo.keys (take place chunks) contents None) fits come)
    some

-- no more content is out
pub writes_some : (told : Option Told) (repo : RepoState) (chunks : List ChunkRef) (place : ℕ) (old out : Option (List ℕ))
    → IfSome told (λ t. FitsFiles (told_files t) repo.log) → WritesSoFar told repo (take place chunks) old out
    → ShowsSome (λ f text. SomeContents f repo chunks text) told old out
writes_some told repo chunks place old out fits writes =
    some_of told repo chunks place old out writes.contents fits writes.come (writes_all old out (joined writes.contents) writes.written)

-- a front of the next content is out
pub writes_cut : (told later : Option Told) (repo after_repo : RepoState) (chunks : List ChunkRef) (place : ℕ) (d : ChunkRef)
    (old out after : Option (List ℕ)) (content : List ℕ) → heard later ≡ heard told → after_repo ≡ repo → place < length chunks
    → IfSome told (λ t. FitsFiles (told_files t) repo.log) → WritesSoFar told repo (take place chunks) old out
    → IfSome later (λ t. HoldsContent (told_files t) after_repo.log after_repo.keys (get_or chunks place d) content)
    → WritesSome out content after → ShowsSome (λ f text. SomeContents f repo chunks text) told old after
writes_cut told later repo after_repo chunks place d old out after content same same_repo lt fits writes holds some =
    some_of told repo chunks (place + 1) old after (writes.contents ++ (content ∷ [])) fits
    (come_next told later repo after_repo chunks place d writes.contents content same same_repo lt writes.come holds)
    (sent_front old out after content (joined (writes.contents ++ (content ∷ [])))
    (record { sent = joined writes.contents; written = writes.written; whole = sym (joined_one writes.contents content) }) some)

-- all contents are out
pub writes_end : (told : Option Told) (repo : RepoState) (chunks front : List ChunkRef) (old out : Option (List ℕ)) → front ≡ chunks
    → WritesSoFar told repo front old out → ShowsAll (λ f text. AllContents f repo chunks text) told old out
writes_end told repo chunks front old out whole writes = record {
  text = joined writes.contents;
  is = told_then told (λ f. ContentsCome f repo.log repo.keys front writes.contents None) (λ f. AllContents f repo chunks (joined writes.contents))
      (λ f come. record {
        contents = writes.contents;
        come = subst (λ (cs : List ChunkRef). ContentsCome f repo.log repo.keys cs writes.contents None) whole come;
        joined_is = refl;
      })
      writes.come;
  written = writes.written;
}

contents_of : (files : Files) (repo : RepoState) (chunks : List ChunkRef) (fault : RepoFault)
    → (IsOfFiles fault → (text : List ℕ) × ContentsShown files repo chunks (Some fault) text) → EndsContents files repo chunks (repo_fault fault)
contents_of files repo chunks Fault.NoCommit h = h
contents_of files repo chunks (Fault.Damaged segment at) h = h
contents_of files repo chunks (Fault.Config f) h = h
contents_of files repo chunks (Fault.Key f) h = h
contents_of files repo chunks (Fault.Missing id) h = h
contents_of files repo chunks (Fault.Blob id f) h = h
contents_of files repo chunks (Fault.Manifest f) h = h
contents_of files repo chunks (Fault.Archive id f) h = h
contents_of files repo chunks (Fault.Item id f) h = h
contents_of files repo chunks (Fault.Size id) h = h
contents_of files repo chunks (Fault.KeyFile fault) h = h
contents_of files repo chunks (Fault.Other file config) h = h
contents_of files repo chunks Fault.NoKey h = h
contents_of files repo chunks Fault.Device h = h
contents_of files repo chunks Fault.Memory h = tt

-- the next content is refused
pub writes_refused : (told later : Option Told) (repo after_repo : RepoState) (chunks : List ChunkRef) (place : ℕ) (d : ChunkRef)
    (old out : Option (List ℕ)) (fault : RepoFault) → heard later ≡ heard told → after_repo ≡ repo → place < length chunks
    → WritesSoFar told repo (take place chunks) old out
    → IfSome later (λ t. RefusesContent (told_files t) after_repo.log after_repo.keys (get_or chunks place d) fault)
    → IfSome told (λ t. EndsContents (told_files t) repo chunks (repo_fault fault))
writes_refused told later repo after_repo chunks place d old out fault same same_repo lt writes refused =
    told_with told later (λ f. ContentsCome f repo.log repo.keys (take place chunks) writes.contents None)
    (λ f. RefusesContent f after_repo.log after_repo.keys (get_or chunks place d) fault) (λ f. EndsContents f repo chunks (repo_fault fault)) same
    (λ f come refuses. contents_of f repo chunks fault (λ of_files. (
      joined writes.contents,
      contents_refused f repo chunks place d writes.contents fault lt come
          (subst (λ (r : RepoState). RefusesContent f r.log r.keys (get_or chunks place d) fault) same_repo refuses) of_files,
    )))
    writes.come refused

-- the contents before the next are out, which is refused
pub writes_stopped : (told later : Option Told) (repo after_repo : RepoState) (chunks : List ChunkRef) (place : ℕ) (d : ChunkRef)
    (old out : Option (List ℕ)) (fault : RepoFault) → heard later ≡ heard told → after_repo ≡ repo → place < length chunks
    → WritesSoFar told repo (take place chunks) old out
    → IfSome later (λ t. RefusesContent (told_files t) after_repo.log after_repo.keys (get_or chunks place d) fault)
    → IsOfArchive (repo_fault fault) → ShowsAll (λ f text. SomeContents f repo chunks text) told old out
writes_stopped told later repo after_repo chunks place d old out fault same same_repo lt writes refused of = record {
  text = joined writes.contents;
  is = told_with told later (λ f. ContentsCome f repo.log repo.keys (take place chunks) writes.contents None)
      (λ f. RefusesContent f after_repo.log after_repo.keys (get_or chunks place d) fault) (λ f. SomeContents f repo chunks (joined writes.contents)) same
      (λ f come refuses. (
        Some fault,
        contents_refused f repo chunks place d writes.contents fault lt come
            (subst (λ (r : RepoState). RefusesContent f r.log r.keys (get_or chunks place d) fault) same_repo refuses) (of_files fault of),
      ))
      writes.come refused;
  written = writes.written;
}

-- ---- the file

pub contents_file : (files : Files) (repo : RepoState) (walk : WalkState) (chunks : List ChunkRef) (fault : ViewFault)
    → EndsContents files repo chunks fault → EndsFile files repo walk chunks fault
contents_file files repo walk chunks (View.Repo fault) ends = λ of_files. inl (ends of_files)
contents_file files repo walk chunks View.NotFound ends = ends
contents_file files repo walk chunks View.Output ends = tt
contents_file files repo walk chunks View.Memory ends = tt

pub behind_file : (files : Files) (repo : RepoState) (walk : WalkState) (chunks : List ChunkRef) (text : List ℕ) (fault : ViewFault)
    → AllContents files repo chunks text → EndsWalk files repo walk fault → EndsFile files repo walk chunks fault
behind_file files repo walk chunks text (View.Repo fault) contents ends = λ of_files.
    let e = ends of_files in
    inr (record { text = text; contents = contents; items = e.0; come = e.1 })
behind_file files repo walk chunks text View.NotFound contents ends = ends
behind_file files repo walk chunks text View.Output contents ends = tt
behind_file files repo walk chunks text View.Memory contents ends = tt

-- all contents, of which some are
pub all_contents : (files : Files) (repo : RepoState) (chunks : List ChunkRef) (text : List ℕ) → AllContents files repo chunks text
    → SomeContents files repo chunks text
all_contents files repo chunks text shown = (None, shown)
