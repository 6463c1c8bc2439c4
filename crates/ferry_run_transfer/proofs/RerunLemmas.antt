-- Lemmas on specs/Rerun.antt: what a stop of a transfer leaves meets the conditions of the transfer again.
use Rattle.std.proofs.Common.{◌≡◌, ◌≢◌, ◌⊎◌, ◌↔◌, inl, inr, ℕ, true, false, List, [], ◌∷◌, ◌++◌, Option, Some, None, refl, sym, ◌∙◌, subst, IfSome, IsSome}
use Rattle.std.specs.List.{AllByRecursion}
use Rattle.ferry_base.specs.Limits.{zero_id}
use Rattle.ferry_blob.specs.Blob.{content_id}
use Rattle.ferry_carry.proofs.CutLemmas.{among_one}
use Rattle.ferry_piece.proofs.AmongLemmas.{all_among, among_all, among_front, each_to}
use Rattle.ferry_piece.specs.Gather.{IsAmong, NoCollision}
use Rattle.ferry_carry.specs.Grow.{IsNamedBy, KeepsNames}
use Rattle.ferry_piece.specs.Puts.{Addition, contents_in}
use Rattle.ferry_disk.specs.Act.{History}
use Rattle.ferry_disk.specs.Files.{Files}
use Rattle.ferry_disk.specs.Image.{ImageOf}
use Rattle.ferry_manifest.specs.Manifest.Text.{ManifestText}
use Rattle.ferry_manifest.specs.declared.manifest.ArchiveRef.{ArchiveRef}
use Rattle.ferry_nonce.specs.Counter.{HasAtLeast, KeepsNumbers}
use Rattle.ferry_repo.proofs.LawLemmas.{one_repo}
use Rattle.ferry_repo.specs.Archives.{archive_named}
use Rattle.ferry_repo.specs.Opening.{RepoState, OpensFilesTo}
use Rattle.ferry_repo.specs.Whole.{HasWhole, WholeArchive}
use Rattle.ferry_stops.specs.Counters.{IsNonce}
use Rattle.ferry_store.specs.New.{OpensNew}
use Rattle.ferry_run_transfer.specs.Rerun.{AreLeftInTurn, EachChosen, IsAbsentOrEqual, IsEqualThere, IsNamedOrChosen, KeepsNonce, LacksName}
use Rattle.ferry_store.specs.State.{HasNumber}
use Rattle.ferry_run_transfer.specs.Rerun.{MeetsConditions}
use Rattle.ferry_run_transfer.specs.Transfer.{Arrives, IsChosenFront, KeepsArchives, NoneCollide, Request, chosen_of}

-- ---- what arrived is equal

pub each_equal : (request : Request) (source start image : Files) (begun : List Addition) (repo : RepoState) (done : List (List ℕ))
    → AllByRecursion (Arrives request source start image begun repo) done → NoneCollide request start begun
    → AllByRecursion (IsEqualThere request source image) done
each_equal request source start image begun repo done arrived apart =
    each_to (Arrives request source start image begun repo) (IsEqualThere request source image) done
    (λ name a. (a.whole, (a.whole_there, a.there apart))) arrived

-- ---- the chosen names

-- a name that was absent at the start is absent, or it arrived
absent_again : (request : Request) (source image : Files) (before repo : RepoState) (done : List (List ℕ)) (name : List ℕ)
    → IsNamedBy before.manifest done repo.manifest → AllByRecursion (IsEqualThere request source image) done → LacksName before.manifest name
    → (entry : Option ArchiveRef) → archive_named name repo.manifest.archives ≡ entry → IsAbsentOrEqual request source image repo name
absent_again request source image before repo done name only equal lacks None is = inl is
absent_again request source image before repo done name only equal lacks (Some entry) is = newly (only name entry is)
  where
    newly : (archive_named name before.manifest.archives ≡ Some entry) ⊎ IsAmong done name → IsAbsentOrEqual request source image repo name
    newly (inl had) = absurd (let no : None ≡ Some entry = sym lacks ∙ had in cc)
    newly (inr among) = inr (among_all (IsEqualThere request source image) done name equal among)

name_again : (request : Request) (source start image : Files) (before repo : RepoState) (done : List (List ℕ)) (name : List ℕ)
    → ((whole : WholeArchive) → HasWhole start request.secrets.target name whole → HasWhole image request.secrets.target name whole)
    → IsNamedBy before.manifest done repo.manifest → AllByRecursion (IsEqualThere request source image) done
    → IsAbsentOrEqual request source start before name → IsAbsentOrEqual request source image repo name
name_again request source start image before repo done name wholes only equal (inl lacks) =
    absent_again request source image before repo done name only equal lacks (archive_named name repo.manifest.archives) refl
name_again request source start image before repo done name wholes only equal (inr is) = inr (is.0, (is.1.0, wholes is.0 is.1.1))

-- and so is each chosen name, or equal
pub chosen_again : (request : Request) (start image : Files) (before repo : RepoState) (begun : List Addition) (done : List (List ℕ))
    → ((name : List ℕ) (whole : WholeArchive) → HasWhole start request.secrets.target name whole → HasWhole image request.secrets.target name whole)
    → IsNamedBy before.manifest done repo.manifest → (told : Option Files)
    → IfSome told (λ source. AllByRecursion (Arrives request source start image begun repo) done) → NoneCollide request start begun
    → EachChosen request told (λ source name. IsAbsentOrEqual request source start before name)
    → EachChosen request told (λ source name. IsAbsentOrEqual request source image repo name)
chosen_again request start image before repo begun done wholes only None arrived apart chosen = tt
chosen_again request start image before repo begun done wholes only (Some source) arrived apart chosen = λ from opens name among.
    name_again request source start image before repo done name (wholes name) only
    (each_equal request source start image begun repo done arrived apart) (chosen from opens name among)

-- ---- the number

-- each stop shows what a run keeps of the number that it began with
pub keeps_nonce : (moment : History) (image : Files) → KeepsNumbers moment → ImageOf moment image → KeepsNonce moment.start image
keeps_nonce moment image keeps left number is =
    let kept = keeps number is in (kept.nonce image left, kept.stays image left)

-- a file that has a number, and is there
number_in_file : (image : Files) (least : ℕ) (file : Option (List ℕ)) → image.nonce ≡ file → HasAtLeast least image.nonce → IsSome image.nonce
    → HasNumber image
number_in_file image least None e has some =
    let never : false ≡ true = subst IsSome e some in absurd (let no : ⊥ = cc in no)
number_in_file image least (Some text) e has some = record {
  text = text;
  nonce = e;
  number = has.value;
  spelled = subst (λ (f : Option (List ℕ)). IsNonce f has.value) e has.nonce;
}

-- where the start had one, so has what a stop leaves
pub number_again : (start image : Files) → KeepsNonce start image → HasNumber start → HasNumber image
number_again start image keeps has =
    let is : IsNonce start.nonce has.number = subst (λ (f : Option (List ℕ)). IsNonce f has.number) (sym has.nonce) has.spelled in
    let kept = keeps has.number is in
    number_in_file image has.number image.nonce refl kept.0 (kept.1 (subst IsSome (sym has.nonce) refl))

-- ---- a stop and a rerun

-- what a stop leaves of a transfer meets the conditions that its start met
pub meets_again : (request : Request) (start image : Files) (before : RepoState) (lines : List (List ℕ))
    → OpensFilesTo start request.secrets.target before → (keeps : KeepsArchives request start before.manifest lines image)
    → NoneCollide request start keeps.begun → KeepsNonce start image
    → MeetsConditions request start → MeetsConditions request image
meets_again request start image before lines opens keeps apart nonce meets =
    let same = one_repo start request.secrets.target meets.repo before meets.opens opens in
    let chosen : EachChosen request request.source (λ source name. IsAbsentOrEqual request source start before name) =
    subst (λ (r : RepoState). EachChosen request request.source (λ source name. IsAbsentOrEqual request source start r name)) same meets.chosen in
    record {
      repo = keeps.repo;
      opens = keeps.opens;
      nonce = number_again start image nonce meets.nonce;
      chosen = chosen_again request start image before keeps.repo keeps.begun keeps.done keeps.wholes keeps.only request.source keeps.arrived apart
          chosen;
    }

-- and so does each of those that stops and reruns leave in turn
pub meets_in_turn : (request : Request) (start : Files) (images : List Files) → AreLeftInTurn request start images → MeetsConditions request start
    → AllByRecursion (MeetsConditions request) images
meets_in_turn request start [] left meets = tt
meets_in_turn request start (image ∷ images) left meets =
    let by = left.0 in
    let again = meets_again request start image by.before by.lines by.opens by.keeps by.apart by.nonce meets in
    (again, meets_in_turn request image images left.1 again)

-- ---- an example

lacks_chosen : (request : Request) (start : Files) (repo : RepoState) (told : Option Files)
    → EachChosen request told (λ source name. LacksName repo.manifest name)
    → EachChosen request told (λ source name. IsAbsentOrEqual request source start repo name)
lacks_chosen request start repo None lacks = tt
lacks_chosen request start repo (Some source) lacks = λ from opens name among. inl (lacks from opens name among)

-- a target that has a number and lacks each chosen name meets the conditions
pub meets_first : (request : Request) (start : Files) (repo : RepoState) → OpensFilesTo start request.secrets.target repo → HasNumber start
    → EachChosen request request.source (λ source name. LacksName repo.manifest name) → MeetsConditions request start
meets_first request start repo opens nonce lacks =
    record { repo = repo; opens = opens; nonce = nonce; chosen = lacks_chosen request start repo request.source lacks }

-- ---- names

named_then : (request : Request) (from before after : ManifestText) (done rest : List (List ℕ)) (name : List ℕ)
    → IsNamedBy before done after → chosen_of request.names from ≡ done ++ rest → IsNamedOrChosen request from after name
    → IsNamedOrChosen request from before name
named_then request from before after done rest name only front (inr among) = inr among
named_then request from before after done rest name only front (inl is) = came (only name is.0 is.1)
  where
    came : (archive_named name before.archives ≡ Some is.0) ⊎ IsAmong done name → IsNamedOrChosen request from before name
    came (inl had) = inl (is.0, had)
    came (inr among) = inr (subst (λ (names : List (List ℕ)). IsAmong names name) (sym front) (among_front done rest name among))

named_now : (request : Request) (from before after : ManifestText) (name : List ℕ) → KeepsNames before after
    → IsNamedOrChosen request from before name → IsNamedOrChosen request from after name
named_now request from before after name names (inl is) = inl (is.0, names name is.0 is.1)
named_now request from before after name names (inr among) = inr among

-- the names of what a stop leaves with the chosen ones are those of the start with the chosen ones
pub same_names : (request : Request) (start image : Files) (before from : RepoState) (source : Files) (lines : List (List ℕ))
    → request.source ≡ Some source → OpensFilesTo source request.secrets.source from
    → (keeps : KeepsArchives request start before.manifest lines image) (name : List ℕ)
    → IsNamedOrChosen request from.manifest keeps.repo.manifest name ↔ IsNamedOrChosen request from.manifest before.manifest name
same_names request start image before from source lines told opens keeps name =
    let front : IsChosenFront request keeps.done source = subst (λ (t : Option Files). IfSome t (IsChosenFront request keeps.done)) told keeps.front in
    let chosen = front from opens in (
      named_then request from.manifest before.manifest keeps.repo.manifest keeps.done chosen.0 name keeps.only chosen.1,
      named_now request from.manifest before.manifest keeps.repo.manifest name keeps.names,
    )

-- ---- what may not collide

-- over a new repository no contents collide where none of those that are added do
pub new_apart : (request : Request) (start : Files) (new : OpensNew request.secrets.target start) (added : List Addition)
    → NoCollision new.repo.keys (contents_in added) → NoneCollide request start added
new_apart request start new added apart = record {
  repo = new.repo;
  opens = new.opens;
  scope = contents_in added;
  apart = apart;
  among = all_among (contents_in added);
  live = λ id content holds. absurd (holds.chunk (new.alone id holds.object.has.place holds.object.has.placed));
}

-- and of one content none, where its id isn't the manifest's
pub one_apart : (request : Request) (start : Files) (new : OpensNew request.secrets.target start) (added : Addition)
    → content_id new.repo.keys added.content ≢ zero_id → NoneCollide request start (added ∷ [])
one_apart request start new added apart = new_apart request start new (added ∷ []) record {
  one = λ a b first second _. sym (among_one added.content a first) ∙ among_one added.content b second;
  chunk = λ a among. subst (λ (content : List ℕ). content_id new.repo.keys content ≢ zero_id) (among_one added.content a among) apart;
}
