-- Lemmas on specs/Tagging.antt: why archives aren't tagged.
use Rattle.ferry_piece.specs.Fault.{IsOfReading}
use Rattle.ferry_nonce.specs.declared.fault.NonceFault.TheVariants as Nonces
use Rattle.ferry_stops.specs.Tells.{TellsNothing}
use Rattle.ferry_refs.proofs.DeleteLemmas.{told_never}
use Rattle.std.proofs.Common.{◌≡◌, inl, inr, false, List, [], ◌∷◌, ◌++◌, ℕ, Option, Some, None, Result, Ok, Err, IsErrAnd, IfSome, refl, sym, ◌∙◌, ap, subst}
use Rattle.std.proofs.Common.{◌⊎◌}
use Rattle.std.proofs.lemmas.Option.{IfSome_then}
use Rattle.ferry_disk.proofs.DeviceLemmas.{told_any}
use Rattle.ferry_disk.specs.Device.{Told, told_files}
use Rattle.ferry_disk.specs.Files.{Files}
use Rattle.ferry_mac.specs.declared.keys.Keys.{Keys}
use Rattle.ferry_manifest.specs.declared.manifest.ArchiveRef.{ArchiveRef}
use Rattle.ferry_piece.specs.Fault.{target_fault}
use Rattle.ferry_piece.specs.declared.fault.CarryFault.{CarryFault}
use Rattle.ferry_piece.specs.declared.fault.CarryFault.TheVariants as Carry
use Rattle.ferry_repo.specs.Opening.{RepoState, repo_view}
use Rattle.ferry_disk.specs.Moments.{Between}
use Rattle.ferry_store.specs.declared.store.Store.{Store}
use Rattle.ferry_write.specs.Script.{AllDone}
use Rattle.ferry_repo.specs.declared.fault.RepoFault.TheVariants as Repos
use Rattle.ferry_store.specs.Causes.{StopsAt}
use Rattle.ferry_store.specs.declared.fault.StoreRefusal.{StoreRefusal}
use Rattle.ferry_store.specs.declared.fault.StoreRefusal.TheVariants as Refusal
use Rattle.ferry_refs.specs.DeleteSteps.{RefusesGoing}
use Rattle.ferry_refs.specs.TagSteps.{ReadsOld, RefusesFreeing, RefusesNewRecord, RefusesOneOf, RefusesSome, RefusesWriting}
use Rattle.ferry_refs.specs.Tagging.{AreOld, AreRenewals, DrawsRenewals, OldRecord, ReadsRecord, RefusesTagging, has_tag, is_old, next_tagged, none_old}
use Rattle.ferry_refs.specs.Tagging.{IsOfNewRecord}
use Rattle.ferry_refs.specs.Tagging.{old_record}

-- ---- what wasn't read

module _ (told now : Option Told) (repo : RepoState) (time : List ℕ) (drawn drawn_now : Option (List ℕ)) where
  -- What a refusal says.
  abbrev Refuses : CarryFault → Type 0
  Refuses fault = IfSome told (λ t. RefusesTagging (told_files t) repo time drawn drawn_now now fault)

  pub reading_refused : (refusal : StoreRefusal) → RefusesGoing told repo refusal → Refuses (target_fault refusal)
  reading_refused (Refusal.Repo (Repos.Blob id f)) refused = IfSome_then told refused (λ t r. inl r.1)
  reading_refused (Refusal.Repo Repos.NoCommit) refused = refused
  reading_refused (Refusal.Repo (Repos.Damaged segment at)) refused = refused
  reading_refused (Refusal.Repo (Repos.Config f)) refused = refused
  reading_refused (Refusal.Repo (Repos.Key f)) refused = refused
  reading_refused (Refusal.Repo (Repos.Missing id)) refused = refused
  reading_refused (Refusal.Repo (Repos.Manifest f)) refused = refused
  reading_refused (Refusal.Repo (Repos.Archive id f)) refused = refused
  reading_refused (Refusal.Repo (Repos.Item id f)) refused = refused
  reading_refused (Refusal.Repo (Repos.Size id)) refused = refused
  reading_refused (Refusal.Repo (Repos.KeyFile f)) refused = refused
  reading_refused (Refusal.Repo (Repos.Other file config)) refused = refused
  reading_refused (Refusal.Repo Repos.NoKey) refused = refused
  reading_refused (Refusal.Repo Repos.Memory) refused = refused
  reading_refused (Refusal.Repo Repos.Device) refused = told_any told (λ f. Unit {0}) (λ f. tt)
  reading_refused (Refusal.Write fault) refused = absurd refused
  reading_refused (Refusal.Nonce fault) refused = absurd refused
  reading_refused Refusal.Committed refused = absurd refused
  reading_refused Refusal.TooLarge refused = absurd refused
  reading_refused Refusal.Entropy refused = absurd refused
  reading_refused Refusal.Memory refused = told_any told (λ f. Unit {0}) (λ f. tt)

-- ---- what wasn't added

-- the record at a place of those without a tag
old_parted : (files : Files) (repo : RepoState) (archives : List ArchiveRef) (olds done rest : List OldRecord) (old : OldRecord) → olds ≡ done ++ old ∷ rest
    → AreOld files repo archives olds → ReadsRecord files repo old.named old.archive × (old.archive.tagged ≡ false)
old_parted files repo _ _ [] rest old is none_old = absurd (let no : ⊥ = cc in no)
old_parted files repo _ _ (d ∷ done) rest old is none_old = absurd (let no : ⊥ = cc in no)
old_parted files repo _ olds done rest old is (has_tag named archive more _ r t all) = old_parted files repo more olds done rest old is all
old_parted files repo _ _ [] rest old is (is_old named archive more olds r t all) =
    let same : old_record named archive ≡ old = cc in
    subst (λ (o : OldRecord). ReadsRecord files repo o.named o.archive × (o.archive.tagged ≡ false)) same (r, t)
old_parted files repo _ _ (d ∷ done) rest old is (is_old named archive more olds r t all) =
    let same : olds ≡ done ++ old ∷ rest = cc in
    old_parted files repo more olds done rest old same all

module _ (files : Files) (repo : RepoState) (time : List ℕ) (drawn drawn_now : Option (List ℕ)) (now : Option Told) where
  -- an archive of those whose record has no tag, which isn't added so, behind those before it
  pub record OneRefused (fault : CarryFault) : Type 0 where
    pub done : List OldRecord
    pub old : OldRecord
    pub rest : List OldRecord
    pub are_old : AreOld files repo repo.manifest.archives (done ++ old ∷ rest)
    pub texts : List (List ℕ)
    pub middle : Option (List ℕ)
    pub drew : DrawsRenewals repo.keys done texts drawn middle
    pub refused : RefusesNewRecord repo.keys old.archive middle drawn_now now fault

  one_refused : (olds : List OldRecord) (fault : CarryFault) → AreOld files repo repo.manifest.archives olds
      → RefusesOneOf repo.keys olds drawn drawn_now now fault → OneRefused fault
  one_refused olds fault old refused = record {
    done = refused.done;
    old = refused.old;
    rest = refused.rest;
    are_old = subst (AreOld files repo repo.manifest.archives) refused.split old;
    texts = refused.texts;
    middle = refused.middle;
    drew = refused.drew;
    refused = refused.refused;
  }

  says_one : (fault : CarryFault) → OneRefused fault → RefusesTagging files repo time drawn drawn_now now fault
  says_one Carry.Record one =
      let reads = old_parted files repo repo.manifest.archives _ one.done one.rest one.old refl one.are_old in
      (one.old.named, (one.old.archive, (reads.0, (reads.1, one.refused))))
  says_one Carry.Memory one = tt
  says_one (Carry.Target (Refusal.Repo (Repos.Blob id f))) one =
      inr (
        record {
          done = one.done;
          old = one.old;
          rest = one.rest;
          are_old = one.are_old;
          texts = one.texts;
          middle = one.middle;
          drew = one.drew;
          text = one.refused.0.0;
          draws = one.refused.0.1.0;
          id_is = one.refused.0.1.1;
        },
        one.refused.1,
      )
  says_one (Carry.Target (Refusal.Repo Repos.Device)) one = tt
  says_one (Carry.Target (Refusal.Repo Repos.NoCommit)) one = absurd one.refused
  says_one (Carry.Target (Refusal.Repo (Repos.Damaged segment at))) one = absurd one.refused
  says_one (Carry.Target (Refusal.Repo (Repos.Config f))) one = absurd one.refused
  says_one (Carry.Target (Refusal.Repo (Repos.Key f))) one = absurd one.refused
  says_one (Carry.Target (Refusal.Repo (Repos.Missing id))) one = absurd one.refused
  says_one (Carry.Target (Refusal.Repo (Repos.Manifest f))) one = absurd one.refused
  says_one (Carry.Target (Refusal.Repo (Repos.Archive id f))) one = absurd one.refused
  says_one (Carry.Target (Refusal.Repo (Repos.Item id f))) one = absurd one.refused
  says_one (Carry.Target (Refusal.Repo (Repos.Size id))) one = absurd one.refused
  says_one (Carry.Target (Refusal.Repo (Repos.KeyFile f))) one = absurd one.refused
  says_one (Carry.Target (Refusal.Repo (Repos.Other file config))) one = absurd one.refused
  says_one (Carry.Target (Refusal.Repo Repos.NoKey)) one = absurd one.refused
  says_one (Carry.Target (Refusal.Repo Repos.Memory)) one = absurd one.refused
  says_one (Carry.Target (Refusal.Write fault)) one = one.refused
  says_one (Carry.Target (Refusal.Nonce fault)) one = one.refused
  says_one (Carry.Target Refusal.Committed) one = one.refused
  says_one (Carry.Target Refusal.TooLarge) one = absurd one.refused
  says_one (Carry.Target Refusal.Entropy) one = one.refused
  says_one (Carry.Target Refusal.Memory) one = one.refused
  says_one (Carry.Source fault) one = absurd one.refused
  says_one (Carry.Taken name) one = absurd one.refused
  says_one (Carry.NotFound name) one = absurd one.refused
  says_one Carry.Pieces one = absurd one.refused

  -- what is read of it is refused for a chunk under its id alone
  new_one : (fault : CarryFault) → IsOfReading fault → OneRefused fault
      → IsOfNewRecord files repo drawn drawn_now now fault ⊎ IfSome now (λ t. ⊥)
  new_one (Carry.Target (Refusal.Repo (Repos.Blob id f))) of one = inl (
    record {
      done = one.done;
      old = one.old;
      rest = one.rest;
      are_old = one.are_old;
      texts = one.texts;
      middle = one.middle;
      drew = one.drew;
      text = one.refused.0.0;
      draws = one.refused.0.1.0;
      id_is = one.refused.0.1.1;
    },
    one.refused.1,
  )
  new_one (Carry.Target (Refusal.Repo Repos.Device)) of one = absurd of
  new_one (Carry.Target (Refusal.Repo Repos.Memory)) of one = absurd of
  new_one (Carry.Target (Refusal.Repo Repos.NoCommit)) of one = absurd one.refused
  new_one (Carry.Target (Refusal.Repo (Repos.Damaged segment at))) of one = absurd one.refused
  new_one (Carry.Target (Refusal.Repo (Repos.Config f))) of one = absurd one.refused
  new_one (Carry.Target (Refusal.Repo (Repos.Key f))) of one = absurd one.refused
  new_one (Carry.Target (Refusal.Repo (Repos.Missing id))) of one = absurd one.refused
  new_one (Carry.Target (Refusal.Repo (Repos.Manifest f))) of one = absurd one.refused
  new_one (Carry.Target (Refusal.Repo (Repos.Archive id f))) of one = absurd one.refused
  new_one (Carry.Target (Refusal.Repo (Repos.Item id f))) of one = absurd one.refused
  new_one (Carry.Target (Refusal.Repo (Repos.Size id))) of one = absurd one.refused
  new_one (Carry.Target (Refusal.Repo (Repos.KeyFile f))) of one = absurd one.refused
  new_one (Carry.Target (Refusal.Repo (Repos.Other file config))) of one = absurd one.refused
  new_one (Carry.Target (Refusal.Repo Repos.NoKey)) of one = absurd one.refused
  new_one (Carry.Target (Refusal.Nonce Nonces.Missing)) of one = inr one.refused
  new_one (Carry.Target (Refusal.Nonce Nonces.Text)) of one = inr one.refused
  new_one (Carry.Target (Refusal.Nonce Nonces.Exhausted)) of one = absurd of
  new_one (Carry.Target (Refusal.Nonce Nonces.Device)) of one = absurd of
  new_one (Carry.Target (Refusal.Nonce Nonces.Memory)) of one = absurd of
  new_one (Carry.Target Refusal.Committed) of one = inr one.refused
  new_one (Carry.Target (Refusal.Write fault)) of one = absurd of
  new_one (Carry.Target Refusal.TooLarge) of one = absurd of
  new_one (Carry.Target Refusal.Entropy) of one = absurd of
  new_one (Carry.Target Refusal.Memory) of one = absurd of
  new_one (Carry.NotFound name) of one = absurd one.refused
  new_one (Carry.Source fault) of one = absurd of
  new_one (Carry.Taken name) of one = absurd of
  new_one Carry.Pieces of one = absurd of
  new_one Carry.Memory of one = absurd of
  new_one Carry.Record of one = absurd of

  new_some : (olds : List OldRecord) (fault : CarryFault) → AreOld files repo repo.manifest.archives olds → IsOfReading fault
      → RefusesSome repo.keys olds drawn drawn_now now fault → IsOfNewRecord files repo drawn drawn_now now fault ⊎ IfSome now (λ t. ⊥)
  new_some olds fault old of (inl memory) = absurd (subst IsOfReading memory of)
  new_some olds fault old of (inr one) = new_one fault of (one_refused olds fault old one)

  pub writing_new : (olds : List OldRecord) (fault : CarryFault) → AreOld files repo repo.manifest.archives olds → IsOfReading fault
      → RefusesWriting repo time olds drawn drawn_now now fault → IsOfNewRecord files repo drawn drawn_now now fault ⊎ IfSome now (λ t. ⊥)
  writing_new olds (Carry.Target (Refusal.Repo f)) old of refused = new_some olds (Carry.Target (Refusal.Repo f)) old of refused
  writing_new olds (Carry.Target (Refusal.Nonce Nonces.Missing)) old of refused = inr refused
  writing_new olds (Carry.Target (Refusal.Nonce Nonces.Text)) old of refused = inr refused
  writing_new olds (Carry.Target (Refusal.Nonce Nonces.Exhausted)) old of refused = absurd of
  writing_new olds (Carry.Target (Refusal.Nonce Nonces.Device)) old of refused = absurd of
  writing_new olds (Carry.Target (Refusal.Nonce Nonces.Memory)) old of refused = absurd of
  writing_new olds (Carry.Target Refusal.Committed) old of refused = inr refused
  writing_new olds (Carry.Target (Refusal.Write fault)) old of refused = absurd of
  writing_new olds (Carry.Target Refusal.TooLarge) old of refused = absurd of
  writing_new olds (Carry.Target Refusal.Entropy) old of refused = absurd of
  writing_new olds (Carry.Target Refusal.Memory) old of refused = absurd of
  writing_new olds (Carry.NotFound name) old of refused = new_some olds (Carry.NotFound name) old of refused
  writing_new olds (Carry.Source fault) old of refused = absurd of
  writing_new olds (Carry.Taken name) old of refused = absurd of
  writing_new olds Carry.Pieces old of refused = absurd of
  writing_new olds Carry.Memory old of refused = absurd of
  writing_new olds Carry.Record old of refused = absurd of

  says_some : (olds : List OldRecord) (fault : CarryFault) → AreOld files repo repo.manifest.archives olds
      → RefusesSome repo.keys olds drawn drawn_now now fault → RefusesTagging files repo time drawn drawn_now now fault
  says_some olds fault old (inl memory) = subst (RefusesTagging files repo time drawn drawn_now now) (sym memory) tt
  says_some olds fault old (inr one) = says_one fault (one_refused olds fault old one)

  -- it isn't tagged, where these are its records without a tag
  pub writing_refused : (olds : List OldRecord) (fault : CarryFault) → AreOld files repo repo.manifest.archives olds
      → RefusesWriting repo time olds drawn drawn_now now fault → RefusesTagging files repo time drawn drawn_now now fault
  writing_refused olds (Carry.Target Refusal.TooLarge) old refused = (olds, (old, refused))
  writing_refused olds (Carry.Target (Refusal.Repo f)) old refused = says_some olds (Carry.Target (Refusal.Repo f)) old refused
  writing_refused olds (Carry.Target (Refusal.Write f)) old refused = refused
  writing_refused olds (Carry.Target (Refusal.Nonce f)) old refused = refused
  writing_refused olds (Carry.Target Refusal.Committed) old refused = refused
  writing_refused olds (Carry.Target Refusal.Entropy) old refused = refused
  writing_refused olds (Carry.Target Refusal.Memory) old refused = refused
  writing_refused olds Carry.Record old refused = says_some olds Carry.Record old refused
  writing_refused olds Carry.Memory old refused = tt
  writing_refused olds (Carry.Source f) old refused = says_some olds (Carry.Source f) old refused
  writing_refused olds (Carry.Taken name) old refused = says_some olds (Carry.Taken name) old refused
  writing_refused olds (Carry.NotFound name) old refused = says_some olds (Carry.NotFound name) old refused
  writing_refused olds Carry.Pieces old refused = says_some olds Carry.Pieces old refused

-- ---- of what is written

module _ (keys : Keys) (drawn drawn_now : Option (List ℕ)) (now : Option Told) where
  -- a refusal of the target, but a fault of its blobs
  one_stops : (olds : List OldRecord) (refusal : StoreRefusal)
      → ((old : OldRecord) (middle : Option (List ℕ)) → RefusesNewRecord keys old.archive middle drawn_now now (Carry.Target refusal)
      → IfSome now (λ t. StopsAt t.history.start (told_files t) keys refusal))
      → RefusesSome keys olds drawn drawn_now now (Carry.Target refusal) → IfSome now (λ t. StopsAt t.history.start (told_files t) keys refusal)
  one_stops olds refusal step (inl memory) = absurd (let no : ⊥ = cc in no)
  one_stops olds refusal step (inr one) = step one.old one.middle one.refused

  no_large : (olds : List OldRecord) → RefusesSome keys olds drawn drawn_now now (Carry.Target Refusal.TooLarge) → ⊥
  no_large olds (inl memory) = let no : ⊥ = cc in no
  no_large olds (inr one) = one.refused

-- a record isn't added
pub adding_refused : (repo : RepoState) (time : List ℕ) (olds : List OldRecord) (drawn drawn_now : Option (List ℕ)) (now : Option Told) (fault : CarryFault)
    → RefusesSome repo.keys olds drawn drawn_now now fault → RefusesWriting repo time olds drawn drawn_now now fault
adding_refused repo time olds drawn drawn_now now (Carry.Target Refusal.TooLarge) refused = absurd (no_large repo.keys drawn drawn_now now olds refused)
adding_refused repo time olds drawn drawn_now now (Carry.Target (Refusal.Repo f)) refused = refused
adding_refused repo time olds drawn drawn_now now (Carry.Target (Refusal.Write f)) refused =
    one_stops repo.keys drawn drawn_now now olds (Refusal.Write f) (λ old middle r. r) refused
adding_refused repo time olds drawn drawn_now now (Carry.Target (Refusal.Nonce f)) refused =
    one_stops repo.keys drawn drawn_now now olds (Refusal.Nonce f) (λ old middle r. r) refused
adding_refused repo time olds drawn drawn_now now (Carry.Target Refusal.Committed) refused =
    one_stops repo.keys drawn drawn_now now olds Refusal.Committed (λ old middle r. r) refused
adding_refused repo time olds drawn drawn_now now (Carry.Target Refusal.Entropy) refused =
    one_stops repo.keys drawn drawn_now now olds Refusal.Entropy (λ old middle r. r) refused
adding_refused repo time olds drawn drawn_now now (Carry.Target Refusal.Memory) refused =
    one_stops repo.keys drawn drawn_now now olds Refusal.Memory (λ old middle r. r) refused
adding_refused repo time olds drawn drawn_now now Carry.Record refused = refused
adding_refused repo time olds drawn drawn_now now Carry.Memory refused = refused
adding_refused repo time olds drawn drawn_now now (Carry.Source f) refused = refused
adding_refused repo time olds drawn drawn_now now (Carry.Taken name) refused = refused
adding_refused repo time olds drawn drawn_now now (Carry.NotFound name) refused = refused
adding_refused repo time olds drawn drawn_now now Carry.Pieces refused = refused

-- all isn't committed
pub freeing_refused : (repo : RepoState) (time : List ℕ) (olds : List OldRecord) (drawn drawn_now : Option (List ℕ)) (texts : List (List ℕ))
    (now : Option Told) (refusal : StoreRefusal) → AreRenewals repo.keys olds texts
    → RefusesFreeing repo.keys (next_tagged repo.keys repo.manifest olds texts time) refusal
    → IfSome now (λ t. StopsAt t.history.start (told_files t) repo.keys refusal) → RefusesWriting repo time olds drawn drawn_now now (target_fault refusal)
freeing_refused repo time olds drawn drawn_now texts now (Refusal.Repo fault) renewals refused stops = absurd refused
freeing_refused repo time olds drawn drawn_now texts now Refusal.TooLarge renewals refused stops = (texts, (renewals, refused))
freeing_refused repo time olds drawn drawn_now texts now (Refusal.Write fault) renewals refused stops = stops
freeing_refused repo time olds drawn drawn_now texts now (Refusal.Nonce fault) renewals refused stops = stops
freeing_refused repo time olds drawn drawn_now texts now Refusal.Committed renewals refused stops = stops
freeing_refused repo time olds drawn drawn_now texts now Refusal.Entropy renewals refused stops = stops
freeing_refused repo time olds drawn drawn_now texts now Refusal.Memory renewals refused stops = inl refl

-- a refusal for want of memory that was handed on
pub memory_is : {T : Type 0} (r : Result T CarryFault) (refusal : StoreRefusal) → refusal ≡ Refusal.Memory → IsErrAnd r (λ f. f ≡ target_fault refusal)
    → IsErrAnd r (λ f. f ≡ Carry.Memory)
memory_is (Ok x) refusal memory is = absurd is
memory_is (Err f) refusal memory is = is ∙ ap target_fault memory

-- where these were read before it
pub told_writing_refused : (store read : Store) (olds : List OldRecord) (ids : List (List ℕ)) (a b : Option Told)
    (drawn drawn_now : Option (List ℕ)) (now : Option Told) (time : List ℕ) (fault : CarryFault)
    → Between a b (λ h g. AllDone h g × ReadsOld olds ids store read h g)
    → IfSome b (λ _. RefusesWriting (repo_view store.repo) time olds drawn drawn_now now fault)
    → IfSome a (λ t. RefusesTagging (told_files t) (repo_view store.repo) time drawn drawn_now now fault)
told_writing_refused store read olds ids None b drawn drawn_now now time fault reads refused = tt
told_writing_refused store read olds ids (Some told) b drawn drawn_now now time fault reads refused =
    writing_refused (told_files told) (repo_view store.repo) time drawn drawn_now now olds fault reads.2.1.are_old
    (subst (λ (o : Option Told). IfSome o (λ _. RefusesWriting (repo_view store.repo) time olds drawn drawn_now now fault)) reads.1 refused)

-- and that nothing was done, or a chunk under the id of a new record is refused
pub told_writing_new : (store read : Store) (olds : List OldRecord) (ids : List (List ℕ)) (a b : Option Told) (drawn drawn_now : Option (List ℕ))
    (now : Option Told) (time : List ℕ) (fault : CarryFault) → Between a b (λ h g. AllDone h g × ReadsOld olds ids store read h g)
    → Between a b TellsNothing → Between b now TellsNothing
    → IfSome b (λ _. RefusesWriting (repo_view store.repo) time olds drawn drawn_now now fault) → IsOfReading fault
    → Between a now (λ h g. g ≡ h) ⊎ IfSome a (λ t. IsOfNewRecord (told_files t) (repo_view store.repo) drawn drawn_now now fault)
told_writing_new store read olds ids None b drawn drawn_now now time fault reads p q refused of = inl tt
told_writing_new store read olds ids (Some told) b drawn drawn_now now time fault reads p q refused of =
    by_sum (writing_new (told_files told) (repo_view store.repo) time drawn drawn_now now olds fault reads.2.1.are_old of
    (subst (λ (o : Option Told). IfSome o (λ _. RefusesWriting (repo_view store.repo) time olds drawn drawn_now now fault)) reads.1 refused)) where
      by_sum : IsOfNewRecord (told_files told) (repo_view store.repo) drawn drawn_now now fault ⊎ IfSome now (λ t. ⊥)
          → Between (Some told) now (λ h g. g ≡ h) ⊎ IsOfNewRecord (told_files told) (repo_view store.repo) drawn drawn_now now fault
      by_sum (inl new) = inr new
      by_sum (inr never) = inl (told_never TellsNothing (λ h g. g ≡ h) (Some told) b now p q never)
