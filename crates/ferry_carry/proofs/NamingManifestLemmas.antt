-- Lemmas on the manifest that names an archive: that it is committed, or is too large.
use Rattle.std.proofs.Common.{◌≡◌, ◌⊎◌, inl, inr, Bool, ℕ, List, [], ◌∷◌, Option, None, Result, Ok, Err, IfSome}
use Rattle.std.proofs.Common.{length, ◌<◌, ◌≤◌, sym, ◌∙◌, ap, subst, false}
use Rattle.std.proofs.lemmas.Bool.{cases_lt}
use Rattle.std.proofs.lemmas.Option.{IfSome_then}
use Rattle.ferry_base.specs.Limits.{content_limit, zero_id}
use Rattle.ferry_blob.proofs.CallerLemmas.{length-content_id}
use Rattle.ferry_blob.specs.Blob.{content_id}
use Rattle.ferry_disk.proofs.MomentLemmas.{between_both, between_map}
use Rattle.ferry_disk.specs.Act.{files_now}
use Rattle.ferry_disk.specs.Device.{RoseWhere, Told, told_files}
use Rattle.ferry_disk.specs.Faults.{FailedWhere}
use Rattle.ferry_disk.specs.Moments.{Between}
use Rattle.ferry_mac.specs.declared.keys.Keys.{Keys}
use Rattle.ferry_manifest.specs.Manifest.Text.{ManifestText}
use Rattle.ferry_manifest.specs.Manifest.Writing.{manifest_text}
use Rattle.ferry_manifest.specs.declared.manifest.ArchiveRef.{ArchiveRef}
use Rattle.ferry_next.specs.Next.{next_manifest, written_at}
use Rattle.ferry_repo.specs.Archives.{archive_named}
use Rattle.ferry_repo.specs.Opening.{RepoState, repo_view}
use Rattle.ferry_segment.specs.Entry.{PutEntry}
use Rattle.ferry_stops.specs.Tells.{TellsNothing}
use Rattle.ferry_store.specs.Commit.{Commits, CommitsEntry, RefusesManifestOf, accepted_in}
use Rattle.ferry_store.specs.Standing.{with_manifest}
use Rattle.ferry_store.specs.State.{Did}
use Rattle.ferry_store.specs.declared.fault.StoreRefusal.{StoreRefusal}
use Rattle.ferry_store.specs.declared.fault.StoreRefusal.TheVariants as Stores
use Rattle.ferry_store.specs.declared.store.Store.{Store}
use Rattle.ferry_write.specs.Script.{AllDone}
use Rattle.ferry_piece.proofs.FaultLemmas.{failed_target}
use Rattle.ferry_carry.proofs.GrowNamedLemmas.{commit_growing, commit_grows}
use Rattle.ferry_carry.proofs.GrowNamedLemmas.{growing_accepted, grows_accepted}
use Rattle.ferry_carry.proofs.ProgressLemmas.{any_told}
use Rattle.ferry_carry.proofs.LengthLemmas.{manifest_length}
use Rattle.ferry_carry.proofs.WorkLemmas.{carried_nothing}
use Rattle.ferry_piece.proofs.WorkLemmas.{between_known, works_as, works_front}
use Rattle.ferry_carry.specs.Accepting.{named_next}
use Rattle.ferry_carry.specs.Carrying.{IsReadyToName, Origin}
use Rattle.ferry_piece.specs.Fault.{target_failed, target_fault}
use Rattle.ferry_carry.specs.Flight.{AcceptsOne, NamesArchive}
use Rattle.ferry_piece.specs.Gather.{KeepsRest}
use Rattle.ferry_store.specs.Writing.{WritesManifest}
use Rattle.ferry_carry.specs.Grow.{AcceptsMore, GrowsBy, IsBehind, KeepsGrowingBy, KeepsMost, KeepsNames, job}
use Rattle.ferry_carry.specs.Naming.{entry_for}
use Rattle.ferry_piece.specs.Puts.{Addition, AtBegin, AtEnd, border_behind}
use Rattle.ferry_carry.specs.Refusals.{IsLimited, LimitsManifest, RefusesBegin}
use Rattle.ferry_piece.specs.Stops.{StopsPieces}
use Rattle.ferry_carry.specs.Time.{time_for}
use Rattle.ferry_piece.specs.declared.fault.CarryFault.{CarryFault}
use Rattle.ferry_piece.specs.declared.fault.CarryFault.TheVariants as Carry
use Rattle.ferry_carry.specs.States.{target_state}

-- ---- a manifest is committed

module _ (accepted : ManifestText) (entry : ArchiveRef) (store now : Store) (manifest : ManifestText) (blob : List ℕ) (a b : Option Told) (n m : ℕ) where
  -- at each moment of the commit
  commit_each : KeepsNames (repo_view store.repo).manifest manifest → manifest.archives ≡ (accepted_in store).archives → AcceptsOne accepted store entry
      → (from : Origin) (earlier : List Addition) → border_behind AtBegin earlier ≡ AtEnd
      → IfSome a (λ t. IsReadyToName from earlier (told_files t) (repo_view store.repo) entry)
      → IsBehind from accepted (repo_view store.repo).manifest (entry.name ∷ []) manifest → Between a b TellsNothing
      → Between a b (CommitsEntry (with_manifest (repo_view store.repo) manifest) store.session store.counter (PutEntry zero_id blob))
      → (other : List ℕ) → Between a b (WritesManifest other store.session store.counter)
      → Between a b (KeepsGrowingBy earlier accepted from (entry.name ∷ []) store [])
  commit_each names archives one from earlier at_end ready behind untold each other writes =
      let commits = CommitsEntry (with_manifest (repo_view store.repo) manifest) store.session store.counter (PutEntry zero_id blob) in
      let written = WritesManifest other store.session store.counter in
      between_map a b
      (λ h g. IsReadyToName from earlier (files_now h) (repo_view store.repo) entry × (TellsNothing h g × (commits h g × written h g)))
      (KeepsGrowingBy earlier accepted from (entry.name ∷ []) store [])
      (λ h g e. commit_growing from earlier at_end accepted entry store manifest blob h g names archives one behind e.0 e.1.0 e.1.1.0 other e.1.1.1)
      (between_known (λ h. IsReadyToName from earlier (files_now h) (repo_view store.repo) entry)
      (λ h g. TellsNothing h g × (commits h g × written h g)) a b ready
      (between_both a b TellsNothing (λ h g. commits h g × written h g) untold (between_both a b commits written each writes)))

  pub commit_works_err : (refusal : StoreRefusal) → KeepsNames (repo_view store.repo).manifest manifest
      → manifest.archives ≡ (accepted_in store).archives → AcceptsOne accepted store entry → Between a b TellsNothing
      → Did {T = Unit {0}} (CommitsEntry (with_manifest (repo_view store.repo) manifest) store.session store.counter (PutEntry zero_id blob))
      (λ _. Commits store (PutEntry zero_id blob) now) a b n m (Err refusal)
      → (other : List ℕ) → Between a b (WritesManifest other store.session store.counter)
      → NamesArchive accepted entry manifest (target_state a n store) (target_state b m now) (Err (target_fault refusal))
  commit_works_err refusal names archives one untold did other writes from earlier at_end ready behind = record {
    each = commit_each names archives one from earlier at_end ready behind untold did.each other writes;
    end = tt;
    ends = subst (λ (d : Bool). FailedWhere d a b) (sym (failed_target refusal)) did.ends;
    cause = subst (λ (d : Bool). RoseWhere d n m) (sym (failed_target refusal)) did.cause;
  }

  pub commit_works : KeepsNames (repo_view store.repo).manifest manifest → KeepsMost store now → manifest.archives ≡ (accepted_in store).archives
      → (repo_view now.repo).manifest ≡ manifest → accepted_in now ≡ (repo_view now.repo).manifest → AcceptsOne accepted store entry
      → Between a b TellsNothing
      → Did {T = Unit {0}} (CommitsEntry (with_manifest (repo_view store.repo) manifest) store.session store.counter (PutEntry zero_id blob))
      (λ _. Commits store (PutEntry zero_id blob) now) a b n m (Ok tt)
      → (other : List ℕ) → Between a b (WritesManifest other store.session store.counter)
      → NamesArchive accepted entry manifest (target_state a n store) (target_state b m now) (Ok tt)
  commit_works names most archives manifest_is accepted_is one untold did other writes from earlier at_end ready behind = record {
    each = commit_each names archives one from earlier at_end ready behind untold did.each other writes;
    end = between_map a b
        (λ h g. IsReadyToName from earlier (files_now h) (repo_view store.repo) entry × (AllDone h g × Commits store (PutEntry zero_id blob) now h g))
        (λ h g. AllDone h g × GrowsBy (job earlier accepted from (entry.name ∷ [])) [] store now h g)
        (λ h g e. (
          e.1.0,
          commit_grows from earlier at_end accepted entry store manifest blob now h g most archives manifest_is accepted_is one behind e.0 e.1.1,
        ))
        (between_known (λ h. IsReadyToName from earlier (files_now h) (repo_view store.repo) entry)
        (λ h g. AllDone h g × Commits store (PutEntry zero_id blob) now h g) a b ready did.end);
    ends = did.ends;
    cause = did.cause;
  }

-- what a commit keeps
pub commit_most : (store now : Store) (manifest : ManifestText) → repo_view now.repo ≡ with_manifest (repo_view store.repo) manifest
    → KeepsNames (repo_view store.repo).manifest manifest → KeepsMost store now
commit_most store now manifest is names = record {
  keys = ap (λ (r : RepoState). r.keys) is;
  config = ap (λ (r : RepoState). r.config) is;
  names = subst (λ (r : RepoState). KeepsNames (repo_view store.repo).manifest r.manifest) (sym is) names;
}

-- a manifest that is committed behind an archive that was accepted
pub named_behind : (accepted : ManifestText) (entry : ArchiveRef) (manifest : ManifestText) (store middle now : Store) (a b : Option Told) (n m : ℕ)
    (result : Result (Unit {0}) CarryFault) → middle ≡ record store { accepted = middle.accepted }
    → NamesArchive accepted entry manifest (target_state a n middle) (target_state b m now) result
    → NamesArchive accepted entry manifest (target_state a n store) (target_state b m now) result
named_behind accepted entry manifest store middle now a b n m (Ok x) same p from earlier at_end ready behind =
    let works = p from earlier at_end
    (subst (λ (r : RepoState). IfSome a (λ t. IsReadyToName from earlier (told_files t) r entry)) (sym (ap (λ (s : Store). repo_view s.repo) same)) ready)
    (subst (λ (r : RepoState). IsBehind from accepted r.manifest (entry.name ∷ []) manifest) (sym (ap (λ (s : Store). repo_view s.repo) same)) behind) in
    works_as (KeepsGrowingBy earlier accepted from (entry.name ∷ []) middle [])
    (λ (_ : Unit {0}). GrowsBy (job earlier accepted from (entry.name ∷ [])) [] middle now)
    (KeepsGrowingBy earlier accepted from (entry.name ∷ []) store []) (λ (_ : Unit {0}). GrowsBy (job earlier accepted from (entry.name ∷ [])) [] store now)
    a b n m x x
    (λ h g e. growing_accepted earlier accepted from (entry.name ∷ []) store middle [] h g same e)
    (λ h g e. grows_accepted earlier accepted from (entry.name ∷ []) [] store middle now h g same e) works
named_behind accepted entry manifest store middle now a b n m (Err fault) same p from earlier at_end ready behind =
    let works = p from earlier at_end
    (subst (λ (r : RepoState). IfSome a (λ t. IsReadyToName from earlier (told_files t) r entry)) (sym (ap (λ (s : Store). repo_view s.repo) same)) ready)
    (subst (λ (r : RepoState). IsBehind from accepted r.manifest (entry.name ∷ []) manifest) (sym (ap (λ (s : Store). repo_view s.repo) same)) behind) in
    works_front (KeepsGrowingBy earlier accepted from (entry.name ∷ []) middle [])
    (λ (_ : Unit {0}). GrowsBy (job earlier accepted from (entry.name ∷ [])) [] middle now)
    (KeepsGrowingBy earlier accepted from (entry.name ∷ []) store []) (λ (_ : Unit {0}). GrowsBy (job earlier accepted from (entry.name ∷ [])) [] store now)
    a b n m fault
    (λ h g e. growing_accepted earlier accepted from (entry.name ∷ []) store middle [] h g same e) works

-- where no call was made
pub names_nothing : (entry : ArchiveRef) (manifest : ManifestText) (store now : Store) (a : Option Told) (n : ℕ) (fault : CarryFault) → AcceptsMore store
    → target_failed fault ≡ false → NamesArchive (accepted_in store) entry manifest (target_state a n store) (target_state a n now) (Err fault)
names_nothing entry manifest store now a n fault accepts still from earlier at_end ready behind =
    carried_nothing {T = Unit {0}} earlier from (entry.name ∷ []) (entry.name ∷ []) [] store now a n fault accepts still

-- ---- a manifest that is too large

-- what isn't larger than the content of an object may be
pub no_larger : (size : ℕ) → (content_limit < size → ⊥) → size ≤ content_limit
no_larger size none = elim (cases_lt content_limit size) [
  | inl large ↦ absurd (none large)
  | inr small ↦ small
]

-- what the store says of the manifest of a commit
pub commit_limit : (store : Store) (keys : Keys) (manifest : ManifestText) (salt : List ℕ) (refusal : StoreRefusal) → length salt ≡ 64
    → RefusesManifestOf store.counter (length (manifest_text keys salt manifest)) refusal → LimitsManifest keys manifest (target_fault refusal)
commit_limit store keys manifest salt (Stores.Repo fault) size refused is = absurd (let no : ⊥ = cc in no)
commit_limit store keys manifest salt (Stores.Write fault) size refused is = absurd (let no : ⊥ = cc in no)
commit_limit store keys manifest salt (Stores.Nonce fault) size refused is = absurd (let no : ⊥ = cc in no)
commit_limit store keys manifest salt Stores.Committed size refused is = absurd (let no : ⊥ = cc in no)
commit_limit store keys manifest salt Stores.TooLarge size refused is = (salt, (size, refused))
commit_limit store keys manifest salt Stores.Entropy size refused is = absurd (let no : ⊥ = cc in no)
commit_limit store keys manifest salt Stores.Memory size refused is = absurd (let no : ⊥ = cc in no)

-- of a body that puts no manifest
pub pieces_limit : (now : Option Told) (keys : Keys) (given : Option (List ℕ)) (source : RepoState) (store : Store) (named : ArchiveRef) (fault : CarryFault)
    → StopsPieces now keys fault → IsLimited now given source store named fault
pieces_limit now keys given source store named (Carry.Source fault) stops = any_told now _ (λ t is. absurd (let no : ⊥ = cc in no))
pieces_limit now keys given source store named (Carry.Target refusal) stops =
    IfSome_then now stops (λ t s is. absurd (s.0 (let e : Carry.Target refusal ≡ Carry.Target Stores.TooLarge = is in cc)))
pieces_limit now keys given source store named (Carry.Taken name) stops = any_told now _ (λ t is. absurd (let no : ⊥ = cc in no))
pieces_limit now keys given source store named (Carry.NotFound name) stops = any_told now _ (λ t is. absurd (let no : ⊥ = cc in no))
pieces_limit now keys given source store named Carry.Pieces stops = any_told now _ (λ t is. absurd (let no : ⊥ = cc in no))
pieces_limit now keys given source store named Carry.Memory stops = any_told now _ (λ t is. absurd (let no : ⊥ = cc in no))
pieces_limit now keys given source store named Carry.Record stops = any_told now _ (λ t is. absurd (let no : ⊥ = cc in no))

-- of a record that was put before, with pieces that keep what was accepted
pub record_limit : (now : Option Told) (given : Option (List ℕ)) (source : RepoState) (store middle : Store) (named : ArchiveRef) (id text : List ℕ)
    (fault : CarryFault) → KeepsRest store middle → id ≡ content_id (repo_view store.repo).keys text
    → archive_named named.name (accepted_in store).archives ≡ None
    → LimitsManifest (repo_view middle.repo).keys (named_next given source middle named id) fault → IsLimited now given source store named fault
record_limit now given source store middle named id text fault rest id_is lacks limits =
    any_told now _ (λ t is.
    let large = limits is in
    record {
      lacks = lacks;
      large = λ other salt size.
          let here : Large large.0 (repo_view store.repo).keys (accepted_in store) (repo_view store.repo).manifest id =
          subst (λ (m : ManifestText). Large large.0 (repo_view store.repo).keys (accepted_in store) m id) rest.manifest
          (subst (λ (m : ManifestText). Large large.0 (repo_view store.repo).keys m (repo_view middle.repo).manifest id) rest.accepted
          (subst (λ (k : Keys). Large large.0 k (accepted_in middle) (repo_view middle.repo).manifest id) rest.keys large.1.1)) in
          let ids : length id ≡ length (content_id (repo_view store.repo).keys other) =
          ap (λ (i : List ℕ). length i) id_is ∙ (length-content_id (repo_view store.repo).keys text
          ∙ sym (length-content_id (repo_view store.repo).keys other)) in
          subst (λ (n : ℕ). content_limit < n)
          (manifest_length (repo_view store.repo).keys large.0 salt (accepted_in store) named source.manifest.item_keys
          (time_for given source.manifest.timestamp (repo_view store.repo).manifest.timestamp) id (content_id (repo_view store.repo).keys other)
          (large.1.0 ∙ sym size) ids) here;
    }) where
      Large : List ℕ → Keys → ManifestText → ManifestText → List ℕ → Type 0
      Large salt keys accepted manifest id = content_limit < length (manifest_text keys salt
          (written_at (next_manifest accepted (entry_for named id) source.manifest.item_keys) (time_for given source.manifest.timestamp manifest.timestamp)))

-- of an archive that is named behind pieces
pub rest_limit : (now : Option Told) (given : Option (List ℕ)) (source after : RepoState) (store middle : Store) (named : ArchiveRef) (fault : CarryFault)
    → KeepsRest store middle → after ≡ source → IsLimited now given after middle named fault → IsLimited now given source store named fault
rest_limit now given source after store middle named fault rest same limited =
    IfSome_then now (subst (λ (r : RepoState). IsLimited now given r middle named fault) same limited)
    (λ t large is.
    let l = large is in
    record {
      lacks = subst (λ (m : ManifestText). archive_named named.name m.archives ≡ None) rest.accepted l.lacks;
      large = λ text salt size.
          subst (λ (m : ManifestText). Large text salt (repo_view store.repo).keys (accepted_in store) m) rest.manifest
          (subst (λ (m : ManifestText). Large text salt (repo_view store.repo).keys m (repo_view middle.repo).manifest) rest.accepted
          (subst (λ (k : Keys). Large text salt k (accepted_in middle) (repo_view middle.repo).manifest) rest.keys (l.large text salt size)));
    }) where
      Large : List ℕ → List ℕ → Keys → ManifestText → ManifestText → Type 0
      Large text salt keys accepted manifest = content_limit < length (manifest_text keys salt
          (written_at (next_manifest accepted (entry_for named (content_id keys text)) source.manifest.item_keys)
          (time_for given source.manifest.timestamp manifest.timestamp)))

-- where a record isn't read, and where the target has another archive
pub begin_limit : (told now : Option Told) (given : Option (List ℕ)) (source : RepoState) (store : Store) (named : ArchiveRef) (id : List ℕ)
    (fault : CarryFault) → RefusesBegin told source id fault → IsLimited now given source store named fault
begin_limit told now given source store named id (Carry.Source fault) refused = any_told now _ (λ t is. absurd (let no : ⊥ = cc in no))
begin_limit told now given source store named id (Carry.Target refusal) refused = absurd refused
begin_limit told now given source store named id (Carry.Taken name) refused = absurd refused
begin_limit told now given source store named id (Carry.NotFound name) refused = absurd refused
begin_limit told now given source store named id Carry.Pieces refused = absurd refused
begin_limit told now given source store named id Carry.Memory refused = any_told now _ (λ t is. absurd (let no : ⊥ = cc in no))
begin_limit told now given source store named id Carry.Record refused = absurd refused

pub taken_limit : (now : Option Told) (given : Option (List ℕ)) (source : RepoState) (store : Store) (named : ArchiveRef) (name : List ℕ)
    (fault : CarryFault) → (fault ≡ Carry.Taken name) ⊎ (fault ≡ Carry.Memory) → IsLimited now given source store named fault
taken_limit now given source store named name fault (inl taken) = any_told now _ (λ t is. absurd (let no : ⊥ = cc in no))
taken_limit now given source store named name fault (inr memory) = any_told now _ (λ t is. absurd (let no : ⊥ = cc in no))
