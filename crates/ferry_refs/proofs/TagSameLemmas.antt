-- Lemmas on specs/Tagging.antt: what is read of records without a tag over other files in which the same blobs lie.
use Rattle.std.proofs.Common.{inl, inr, ℕ, List, ◌∷◌, ◌++◌, Option}
use Rattle.ferry_disk.specs.Device.{Told}
use Rattle.ferry_disk.specs.Files.{Files}
use Rattle.ferry_manifest.specs.Record.Text.{ArchiveText}
use Rattle.ferry_manifest.specs.declared.manifest.ArchiveRef.{ArchiveRef}
use Rattle.ferry_piece.specs.declared.fault.CarryFault.{CarryFault}
use Rattle.ferry_piece.specs.declared.fault.CarryFault.TheVariants as Carry
use Rattle.ferry_repo.specs.Opening.{RepoState}
use Rattle.ferry_repo.specs.declared.fault.RepoFault.TheVariants as Repos
use Rattle.ferry_store.specs.declared.fault.StoreRefusal.TheVariants as Stores
use Rattle.ferry_refs.proofs.SameLemmas.{LieIn, are_read_same, record_same, refs_refused_same}
use Rattle.ferry_refs.specs.Tagging.{AreFreed, AreOld, IsFreed, IsNewId, IsOfNewRecord, OldRecord, ReadsRecord, RefusesTagging, has_tag, is_old, none_old}

module _ (files other : Files) (repo : RepoState) (lie : LieIn files other repo) where
  record_read_same : (named : ArchiveRef) (archive : ArchiveText) → ReadsRecord files repo named archive → ReadsRecord other repo named archive
  record_read_same named archive reads =
      record { named_is = reads.named_is; record_is = record_same files other repo lie named.id archive reads.record_is }

  pub old_same : (archives : List ArchiveRef) (olds : List OldRecord) → AreOld files repo archives olds → AreOld other repo archives olds
  old_same _ _ none_old = none_old
  old_same _ olds (has_tag named archive rest _ reads tagged old) =
      has_tag named archive rest olds (record_read_same named archive reads) tagged (old_same rest olds old)
  old_same _ _ (is_old named archive rest olds reads off old) =
      is_old named archive rest olds (record_read_same named archive reads) off (old_same rest olds old)

  freed_id_same : (id : List ℕ) → IsFreed files repo id → IsFreed other repo id
  freed_id_same id freed = record {
    reads = freed.reads;
    are_read = are_read_same files other repo lie repo.manifest.archives freed.reads freed.are_read;
    old = freed.old;
    unused = freed.unused;
  }

-- records that nothing uses any more
pub freed_same : (files other : Files) (repo : RepoState) (ids : List (List ℕ)) → LieIn files other repo → LieIn other files repo → AreFreed files repo ids
    → AreFreed other repo ids
freed_same files other repo ids lie back freed = record {
  reads = freed.reads;
  are_read = are_read_same files other repo lie repo.manifest.archives freed.reads freed.are_read;
  sorted = freed.sorted;
  each = λ id. (
    λ among. freed_id_same files other repo lie id ((freed.each id).0 among),
    λ is. (freed.each id).1 (freed_id_same other files repo back id is),
  );
}

-- an id of a new record
new_id_same : (files other : Files) (repo : RepoState) (drawn drawn_now : Option (List ℕ)) (id : List ℕ) → LieIn files other repo
    → IsNewId files repo drawn drawn_now id → IsNewId other repo drawn drawn_now id
new_id_same files other repo drawn drawn_now id lie new = record {
  done = new.done;
  old = new.old;
  rest = new.rest;
  are_old = old_same files other repo lie repo.manifest.archives (new.done ++ new.old ∷ new.rest) new.are_old;
  texts = new.texts;
  middle = new.middle;
  drew = new.drew;
  text = new.text;
  draws = new.draws;
  id_is = new.id_is;
}

pub new_record_same : (files other : Files) (repo : RepoState) (drawn drawn_now : Option (List ℕ)) (now : Option Told) (fault : CarryFault)
    → LieIn files other repo → IsOfNewRecord files repo drawn drawn_now now fault → IsOfNewRecord other repo drawn drawn_now now fault
new_record_same files other repo drawn drawn_now now (Carry.Target (Stores.Repo (Repos.Blob id f))) lie new =
    (new_id_same files other repo drawn drawn_now id lie new.0, new.1)
new_record_same files other repo drawn drawn_now now (Carry.Target (Stores.Repo Repos.NoCommit)) lie new = absurd new
new_record_same files other repo drawn drawn_now now (Carry.Target (Stores.Repo (Repos.Damaged segment at))) lie new = absurd new
new_record_same files other repo drawn drawn_now now (Carry.Target (Stores.Repo (Repos.Config f))) lie new = absurd new
new_record_same files other repo drawn drawn_now now (Carry.Target (Stores.Repo (Repos.Key f))) lie new = absurd new
new_record_same files other repo drawn drawn_now now (Carry.Target (Stores.Repo (Repos.Missing id))) lie new = absurd new
new_record_same files other repo drawn drawn_now now (Carry.Target (Stores.Repo (Repos.Manifest f))) lie new = absurd new
new_record_same files other repo drawn drawn_now now (Carry.Target (Stores.Repo (Repos.Archive id f))) lie new = absurd new
new_record_same files other repo drawn drawn_now now (Carry.Target (Stores.Repo (Repos.Item id f))) lie new = absurd new
new_record_same files other repo drawn drawn_now now (Carry.Target (Stores.Repo (Repos.Size id))) lie new = absurd new
new_record_same files other repo drawn drawn_now now (Carry.Target (Stores.Repo (Repos.KeyFile f))) lie new = absurd new
new_record_same files other repo drawn drawn_now now (Carry.Target (Stores.Repo (Repos.Other file config))) lie new = absurd new
new_record_same files other repo drawn drawn_now now (Carry.Target (Stores.Repo Repos.NoKey)) lie new = absurd new
new_record_same files other repo drawn drawn_now now (Carry.Target (Stores.Repo Repos.Device)) lie new = absurd new
new_record_same files other repo drawn drawn_now now (Carry.Target (Stores.Repo Repos.Memory)) lie new = absurd new
new_record_same files other repo drawn drawn_now now (Carry.Target (Stores.Nonce f)) lie new = absurd new
new_record_same files other repo drawn drawn_now now (Carry.Target (Stores.Write f)) lie new = absurd new
new_record_same files other repo drawn drawn_now now (Carry.Target Stores.Committed) lie new = absurd new
new_record_same files other repo drawn drawn_now now (Carry.Target Stores.TooLarge) lie new = absurd new
new_record_same files other repo drawn drawn_now now (Carry.Target Stores.Entropy) lie new = absurd new
new_record_same files other repo drawn drawn_now now (Carry.Target Stores.Memory) lie new = absurd new
new_record_same files other repo drawn drawn_now now (Carry.Source f) lie new = absurd new
new_record_same files other repo drawn drawn_now now (Carry.Taken name) lie new = absurd new
new_record_same files other repo drawn drawn_now now (Carry.NotFound name) lie new = absurd new
new_record_same files other repo drawn drawn_now now Carry.Pieces lie new = absurd new
new_record_same files other repo drawn drawn_now now Carry.Memory lie new = absurd new
new_record_same files other repo drawn drawn_now now Carry.Record lie new = absurd new

-- why archives aren't tagged
pub tag_refused_same : (files other : Files) (repo : RepoState) (time : List ℕ) (drawn drawn_now : Option (List ℕ)) (now : Option Told) (fault : CarryFault)
    → LieIn files other repo → RefusesTagging files repo time drawn drawn_now now fault → RefusesTagging other repo time drawn drawn_now now fault
tag_refused_same files other repo time drawn drawn_now now (Carry.Target (Stores.Repo Repos.Device)) lie refused = tt
tag_refused_same files other repo time drawn drawn_now now (Carry.Target (Stores.Repo (Repos.Blob id f))) lie (inl refused) =
    inl (refs_refused_same files other repo lie (Repos.Blob id f) refused)
tag_refused_same files other repo time drawn drawn_now now (Carry.Target (Stores.Repo (Repos.Blob id f))) lie (inr refused) =
    inr (new_id_same files other repo drawn drawn_now id lie refused.0, refused.1)
tag_refused_same files other repo time drawn drawn_now now (Carry.Target (Stores.Repo Repos.NoCommit)) lie refused =
    (refused.0, refs_refused_same files other repo lie Repos.NoCommit refused.1)
tag_refused_same files other repo time drawn drawn_now now (Carry.Target (Stores.Repo (Repos.Damaged segment at))) lie refused =
    (refused.0, refs_refused_same files other repo lie (Repos.Damaged segment at) refused.1)
tag_refused_same files other repo time drawn drawn_now now (Carry.Target (Stores.Repo (Repos.Config f))) lie refused =
    (refused.0, refs_refused_same files other repo lie (Repos.Config f) refused.1)
tag_refused_same files other repo time drawn drawn_now now (Carry.Target (Stores.Repo (Repos.Key f))) lie refused =
    (refused.0, refs_refused_same files other repo lie (Repos.Key f) refused.1)
tag_refused_same files other repo time drawn drawn_now now (Carry.Target (Stores.Repo (Repos.Missing id))) lie refused =
    (refused.0, refs_refused_same files other repo lie (Repos.Missing id) refused.1)
tag_refused_same files other repo time drawn drawn_now now (Carry.Target (Stores.Repo (Repos.Manifest f))) lie refused =
    (refused.0, refs_refused_same files other repo lie (Repos.Manifest f) refused.1)
tag_refused_same files other repo time drawn drawn_now now (Carry.Target (Stores.Repo (Repos.Archive id f))) lie refused =
    (refused.0, refs_refused_same files other repo lie (Repos.Archive id f) refused.1)
tag_refused_same files other repo time drawn drawn_now now (Carry.Target (Stores.Repo (Repos.Item id f))) lie refused =
    (refused.0, refs_refused_same files other repo lie (Repos.Item id f) refused.1)
tag_refused_same files other repo time drawn drawn_now now (Carry.Target (Stores.Repo (Repos.Size id))) lie refused =
    (refused.0, refs_refused_same files other repo lie (Repos.Size id) refused.1)
tag_refused_same files other repo time drawn drawn_now now (Carry.Target (Stores.Repo (Repos.KeyFile f))) lie refused =
    (refused.0, refs_refused_same files other repo lie (Repos.KeyFile f) refused.1)
tag_refused_same files other repo time drawn drawn_now now (Carry.Target (Stores.Repo (Repos.Other file config))) lie refused =
    (refused.0, refs_refused_same files other repo lie (Repos.Other file config) refused.1)
tag_refused_same files other repo time drawn drawn_now now (Carry.Target (Stores.Repo Repos.NoKey)) lie refused =
    (refused.0, refs_refused_same files other repo lie Repos.NoKey refused.1)
tag_refused_same files other repo time drawn drawn_now now (Carry.Target (Stores.Repo Repos.Memory)) lie refused =
    (refused.0, refs_refused_same files other repo lie Repos.Memory refused.1)
tag_refused_same files other repo time drawn drawn_now now (Carry.Target (Stores.Write f)) lie refused = refused
tag_refused_same files other repo time drawn drawn_now now (Carry.Target (Stores.Nonce f)) lie refused = refused
tag_refused_same files other repo time drawn drawn_now now (Carry.Target Stores.Committed) lie refused = refused
tag_refused_same files other repo time drawn drawn_now now (Carry.Target Stores.Entropy) lie refused = refused
tag_refused_same files other repo time drawn drawn_now now (Carry.Target Stores.Memory) lie refused = refused
tag_refused_same files other repo time drawn drawn_now now (Carry.Target Stores.TooLarge) lie refused =
    (refused.0, (old_same files other repo lie repo.manifest.archives refused.0 refused.1.0, refused.1.1))
tag_refused_same files other repo time drawn drawn_now now Carry.Record lie refused =
    (refused.0, (refused.1.0, (record_read_same files other repo lie refused.0 refused.1.0 refused.1.1.0, refused.1.1.1)))
tag_refused_same files other repo time drawn drawn_now now Carry.Memory lie refused = tt
tag_refused_same files other repo time drawn drawn_now now (Carry.Source f) lie refused = absurd refused
tag_refused_same files other repo time drawn drawn_now now (Carry.Taken taken) lie refused = absurd refused
tag_refused_same files other repo time drawn drawn_now now (Carry.NotFound missing) lie refused = absurd refused
tag_refused_same files other repo time drawn drawn_now now Carry.Pieces lie refused = absurd refused
