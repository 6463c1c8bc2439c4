-- Lemmas on specs/TransferCauses.antt: why a transfer isn't done that didn't come to open its target.
use Rattle.ferry_manifest.specs.Manifest.Text.{ManifestText}
use Rattle.std.proofs.Common.{◌≡◌, ◌⊎◌, inl, inr, ℕ, List, [], Option, Some, None}
use Rattle.std.proofs.Common.{refl, sym, subst, slice_get, IfSome, IsSome, ap, ◌∙◌}
use Rattle.ferry_carry.specs.Chosen.{IsMissingName}
use Rattle.ferry_piece.specs.Fault.{source_fault, target_fault}
use Rattle.ferry_piece.specs.declared.fault.CarryFault.{CarryFault}
use Rattle.ferry_piece.specs.declared.fault.CarryFault.TheVariants as Carry
use Rattle.ferry_carry.specs.declared.options.Options.{Options}
use Rattle.ferry_disk.specs.Device.{Told, told_files}
use Rattle.ferry_disk.specs.Files.{Files}
use Rattle.ferry_repo.specs.Archives.{archive_named}
use Rattle.ferry_repo.specs.Opening.{OpensFilesTo, RefusesRepo, RepoState}
use Rattle.ferry_repo.specs.declared.fault.RepoFault.{RepoFault}
use Rattle.ferry_repo.specs.declared.fault.RepoFault.TheVariants as Repos
use Rattle.ferry_stops.specs.Tells.{lines_of}
use Rattle.ferry_store.specs.Store.{RefusesOpen}
use Rattle.ferry_store.specs.declared.fault.StoreRefusal.{StoreRefusal}
use Rattle.ferry_store.specs.declared.fault.StoreRefusal.TheVariants as Store
use Rattle.ferry_carry.specs.States.{Drawn}
use Rattle.ferry_run_transfer.specs.Transfer.{Request, asked, chosen_of}
use Rattle.ferry_run_transfer.specs.TransferCauses.{IsFound, RefusesAsked, RefusesTransfer, WhereRead, IsBeforeTarget}
use Rattle.ferry_status.specs.declared.status.Secrets.{Secrets}

-- where files are read
where_read : (source : Option Files) (before now : Option Told) (P : Files → Files → List (List ℕ) → Files → Type 0)
    → ((files : Files) (b t : Told) → source ≡ Some files → before ≡ Some b → now ≡ Some t → b.history.acts ≡ []
    → P files (told_files b) (lines_of t.history.acts) (told_files t))
    → WhereRead source before now P
where_read None before now P step = tt
where_read (Some files) None now P step = tt
where_read (Some files) (Some b) None P step = tt
where_read (Some files) (Some b) (Some t) P step = λ begun. step files b t refl refl refl begun

-- why a transfer isn't done
asked_refused : (request : Request) (drawn : Drawn) (before now : Option Told) (fault : CarryFault)
    → ((files : Files) (b t : Told) → request.source ≡ Some files → before ≡ Some b → now ≡ Some t → b.history.acts ≡ []
    → RefusesTransfer request drawn files (told_files b) (lines_of t.history.acts) (told_files t) fault) → RefusesAsked request drawn before now fault
asked_refused request drawn before now fault step =
    where_read request.source before now (λ files start lines image. RefusesTransfer request drawn files start lines image fault) step

-- where memory was refused
pub memory_refused : (request : Request) (drawn : Drawn) (before now : Option Told) → RefusesAsked request drawn before now Carry.Memory
memory_refused request drawn before now = asked_refused request drawn before now Carry.Memory (λ files b t e is k begun. tt)

-- where the target wasn't opened
opened_not : (request : Request) (drawn : Drawn) (before now : Option Told) (refusal : StoreRefusal) → IfSome request.source (IsFound request)
    → IfSome before (λ t. RefusesOpen request.secrets.target (told_files t) refusal) → RefusesAsked request drawn before now (Carry.Target refusal)
opened_not request drawn before now refusal found refused =
    asked_refused request drawn before now (Carry.Target refusal)
    (λ files b t e is k begun. inl (
      subst (λ (o : Option Files). IfSome o (IsFound request)) e found,
      subst (λ (o : Option Told). IfSome o (λ x. RefusesOpen
          request.secrets.target (told_files x) refusal)) is refused,
    ))

pub unopened_refused : (request : Request) (drawn : Drawn) (before now : Option Told) (refusal : StoreRefusal) → IfSome request.source (IsFound request)
    → IfSome before (λ t. RefusesOpen request.secrets.target (told_files t) refusal) → RefusesAsked request drawn before now (target_fault refusal)
unopened_refused request drawn before now (Store.Repo fault) found refused = opened_not request drawn before now (Store.Repo fault) found refused
unopened_refused request drawn before now (Store.Write fault) found refused = opened_not request drawn before now (Store.Write fault) found refused
unopened_refused request drawn before now (Store.Nonce fault) found refused = opened_not request drawn before now (Store.Nonce fault) found refused
unopened_refused request drawn before now Store.Committed found refused = opened_not request drawn before now Store.Committed found refused
unopened_refused request drawn before now Store.TooLarge found refused = opened_not request drawn before now Store.TooLarge found refused
unopened_refused request drawn before now Store.Entropy found refused = opened_not request drawn before now Store.Entropy found refused
unopened_refused request drawn before now Store.Memory found refused = memory_refused request drawn before now

-- where the source wasn't opened
source_or : (P : CarryFault → Type 0) (fault : RepoFault) → P Carry.Memory → P (Carry.Source fault) → P (source_fault fault)
source_or P Repos.NoCommit memory other = other
source_or P (Repos.Damaged segment at) memory other = other
source_or P (Repos.Config cause) memory other = other
source_or P (Repos.Key cause) memory other = other
source_or P (Repos.Missing id) memory other = other
source_or P (Repos.Blob id cause) memory other = other
source_or P (Repos.Manifest cause) memory other = other
source_or P (Repos.Archive id cause) memory other = other
source_or P (Repos.Item id cause) memory other = other
source_or P (Repos.Size id) memory other = other
source_or P (Repos.KeyFile cause) memory other = other
source_or P (Repos.Other file config) memory other = other
source_or P Repos.NoKey memory other = other
source_or P Repos.Device memory other = other
source_or P Repos.Memory memory other = memory

pub unread_refused : (request : Request) (drawn : Drawn) (before now : Option Told) (fault : RepoFault)
    → IfSome request.source (λ files. RefusesRepo files request.secrets.source fault) → RefusesAsked request drawn before now (source_fault fault)
unread_refused request drawn before now fault refused =
    source_or (RefusesAsked request drawn before now) fault (memory_refused request drawn before now)
    (asked_refused request drawn before now (Carry.Source fault)
    (λ files b t e is k begun of_files.
    inl (subst (λ (o : Option Files). IfSome o (λ f. RefusesRepo f request.secrets.source fault)) e refused)))

pub asked_source : (secrets : Secrets) (options : Options) (names : List (List ℕ)) (told : Option Told) (fault : RepoFault)
    → IfSome told (λ t. RefusesRepo (told_files t) secrets.source fault)
    → IfSome (asked secrets options names told).source (λ files. RefusesRepo files secrets.source fault)
asked_source secrets options names None fault refused = tt
asked_source secrets options names (Some t) fault refused = refused

-- it comes before the target is opened
pub unread_before : (request : Request) (fault : RepoFault) → IfSome request.source (λ files. RefusesRepo files request.secrets.source fault)
    → IsBeforeTarget request (source_fault fault)
unread_before request fault refused = source_or (IsBeforeTarget request) fault tt refused

-- and so does a name that is missing
pub missing_before : (request : Request) (manifest : ManifestText) (chosen : List (List ℕ)) (fault : CarryFault)
    → (fault ≡ Carry.Memory) ⊎ ((place : ℕ) × ((name : List ℕ)
    × (IsMissingName manifest chosen place × ((slice_get chosen place ≡ Some name) × (fault ≡ Carry.NotFound name)))))
    → IsBeforeTarget request fault
missing_before request manifest chosen fault (inl memory) = subst (IsBeforeTarget request) (sym memory) tt
missing_before request manifest chosen fault (inr missing) = subst (IsBeforeTarget request) (sym missing.1.1.1.1) tt

-- where a name is missing
pub missing_refused : (drawn : Drawn) (secrets : Secrets) (options : Options) (names : List (List ℕ)) (source : RepoState) (told a b : Option Told)
    (chosen : List (List ℕ))
    → IfSome told (λ t. OpensFilesTo (told_files t) secrets.source source) → chosen ≡ chosen_of names source.manifest → (fault : CarryFault)
    → (fault ≡ Carry.Memory) ⊎ ((place : ℕ) × ((name : List ℕ)
    × (IsMissingName source.manifest chosen place × ((slice_get chosen place ≡ Some name) × (fault ≡ Carry.NotFound name)))))
    → RefusesAsked (asked secrets options names told) drawn a b fault
missing_refused drawn secrets options names source None a b chosen source_opens chosen_is fault refused = tt
missing_refused drawn secrets options names source (Some t) a b chosen source_opens chosen_is fault (inl memory) =
    subst (RefusesAsked (asked secrets options names (Some t)) drawn a b) (sym memory) (memory_refused (asked secrets options names (Some t)) drawn a b)
missing_refused drawn secrets options names source (Some t) a b chosen source_opens chosen_is fault (inr missing) =
    subst (RefusesAsked (asked secrets options names (Some t)) drawn a b) (sym missing.1.1.1.1)
    (asked_refused (asked secrets options names (Some t)) drawn a b (Carry.NotFound missing.1.0)
    (λ files x y e is k begun.
    let same : told_files t ≡ files = (let both : Some (told_files t) ≡ Some files = e in cc) in
    record {
      repo = source;
      opens = subst (λ (f : Files). OpensFilesTo f secrets.source source) same source_opens;
      place = missing.0;
      missing = subst (λ (l : List (List ℕ)). IsMissingName source.manifest l missing.0) chosen_is missing.1.1.0;
      name_is = subst (λ (l : List (List ℕ)). slice_get l missing.0 ≡ Some missing.1.0) chosen_is missing.1.1.1.0;
    }))

-- ---- where each name is found

-- each name was found in the source that opened
pub names_found : (secrets : Secrets) (options : Options) (names : List (List ℕ)) (source : RepoState) (told : Option Told) (chosen : List (List ℕ))
    → IfSome told (λ t. OpensFilesTo (told_files t) secrets.source source) → chosen ≡ chosen_of names source.manifest
    → ((place : ℕ) (name : List ℕ) → slice_get chosen place ≡ Some name → IsSome (archive_named name source.manifest.archives))
    → IfSome (asked secrets options names told).source (IsFound (asked secrets options names told))
names_found secrets options names source None chosen opens chosen_is found = tt
names_found secrets options names source (Some t) chosen opens chosen_is found = record {
  repo = source;
  opens = opens;
  found = λ place name is. found place name (ap (λ (l : List (List ℕ)). slice_get l place) chosen_is ∙ is);
}

-- and then nothing is said of where it isn't
pub found_apart : (request : Request) (X : Type 0) → IfSome request.source (IsFound request)
    → IfSome request.source (λ files. (IsFound request files → ⊥) → X)
found_apart request X found = by request.source found where
  by : (o : Option Files) → IfSome o (IsFound request) → IfSome o (λ files. (IsFound request files → ⊥) → X)
  by None is = tt
  by (Some files) is = λ none. absurd (none is)

-- nothing was used
pub unused : (request : Request) (X : Type 0) → X → IfSome request.source (λ files. (IsFound request files → ⊥) → X)
unused request X x = by request.source where
  by : (o : Option Files) → IfSome o (λ files. (IsFound request files → ⊥) → X)
  by None = tt
  by (Some files) = λ none. x
