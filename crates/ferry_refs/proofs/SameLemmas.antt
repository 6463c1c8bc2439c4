-- Lemmas on specs/Refs.antt and specs/Deleting.antt: what is read over other files in which the same blobs lie.
use Rattle.std.proofs.Common.{◌≢◌, inl, inr, ℕ, List, [], ◌∷◌, Option, Some, None}
use Rattle.ferry_base.specs.Limits.{zero_id}
use Rattle.ferry_check.specs.Report.{ArchiveRead, AreRead, IsRead}
use Rattle.ferry_check.specs.Verify.{IsNamed}
use Rattle.ferry_disk.specs.Device.{Told}
use Rattle.ferry_disk.specs.Files.{Files}
use Rattle.ferry_item.specs.Item.{ItemText}
use Rattle.ferry_manifest.specs.Record.Text.{ArchiveText}
use Rattle.ferry_manifest.specs.declared.manifest.ArchiveRef.{ArchiveRef}
use Rattle.ferry_piece.specs.declared.fault.CarryFault.{CarryFault}
use Rattle.ferry_piece.specs.declared.fault.CarryFault.TheVariants as Carry
use Rattle.ferry_nonce.specs.declared.fault.NonceFault.TheVariants as Nonces
use Rattle.ferry_refs.specs.Deleting.{AreGoing, Goes, RefusesDelete, without_name}
use Rattle.ferry_refs.specs.Refs.{AllRead, EndsStream, Refs, RefusesRead, RefusesRefs}
use Rattle.ferry_repo.specs.Archives.{HoldsRecord, RefusesNamed, RefusesRecord, archive_named}
use Rattle.ferry_repo.specs.Fault.{IsOfFiles}
use Rattle.ferry_repo.specs.Objects.{HasBlob, HoldsChunk, RefusesChunk}
use Rattle.ferry_repo.specs.Opening.{RepoState}
use Rattle.ferry_repo.specs.Walk.{Comes, HoldChunks, IsStream, chunk_comes, chunk_refused, item_comes, item_faulty, stream_cut, stream_whole}
use Rattle.ferry_repo.specs.declared.fault.RepoFault.{RepoFault}
use Rattle.ferry_repo.specs.declared.fault.RepoFault.TheVariants as Repos
use Rattle.ferry_store.specs.declared.fault.StoreRefusal.TheVariants as Stores

-- Each blob of a chunk that lies in these files, by a repository's log, lies in those.
abbrev pub LieIn : Files → Files → RepoState → Type 0
LieIn files other repo = (id blob : List ℕ) → id ≢ zero_id → HasBlob files repo.log id blob → HasBlob other repo.log id blob

module _ (files other : Files) (repo : RepoState) (lie : LieIn files other repo) where
  -- ---- what is read

  chunk_same : (id content : List ℕ) → HoldsChunk files repo.log repo.keys id content → HoldsChunk other repo.log repo.keys id content
  chunk_same id content held = record {
    chunk = held.chunk;
    object = record {
      blob = held.object.blob;
      has = lie id held.object.blob held.chunk held.object.has;
      opens = held.object.opens;
    };
  }

  chunks_same : (ids contents : List (List ℕ)) → HoldChunks files repo.log repo.keys ids contents → HoldChunks other repo.log repo.keys ids contents
  chunks_same [] [] hold = tt
  chunks_same [] (content ∷ contents) hold = absurd hold
  chunks_same (id ∷ ids) [] hold = absurd hold
  chunks_same (id ∷ ids) (content ∷ contents) hold = (chunk_same id content hold.0, chunks_same ids contents hold.1)

  pub record_same : (id : List ℕ) (archive : ArchiveText) → HoldsRecord files repo.log repo.keys id archive → HoldsRecord other repo.log repo.keys id archive
  record_same id archive held = record { content = held.content; chunk = chunk_same id held.content held.chunk; record_is = held.record_is }

  stream_same : (ids : List (List ℕ)) (items : List ItemText) → IsStream files repo.log repo.keys ids items → IsStream other repo.log repo.keys ids items
  stream_same ids items stream =
      record { contents = stream.contents; hold = chunks_same ids stream.contents stream.hold; spelled = stream.spelled }

  read_same : (name : List ℕ) (read : ArchiveRead) → IsRead files repo name read → IsRead other repo name read
  read_same name read is = record {
    named = is.named;
    named_is = is.named_is;
    id = is.id;
    record_is = record_same is.named.id read.archive is.record_is;
    stream = stream_same read.archive.items read.items is.stream;
  }

  pub are_read_same : (archives : List ArchiveRef) (reads : List ArchiveRead) → AreRead files repo archives reads → AreRead other repo archives reads
  are_read_same [] [] are = tt
  are_read_same [] (read ∷ reads) are = absurd are
  are_read_same (named ∷ archives) [] are = absurd are
  are_read_same (named ∷ archives) (read ∷ reads) are = (read_same named.name read are.0, are_read_same archives reads are.1)

  pub refs_same : (id : List ℕ) (count : ℕ) → Refs files repo id count → Refs other repo id count
  refs_same id count refs =
      record { reads = refs.reads; are_read = are_read_same repo.manifest.archives refs.reads refs.are_read; count_is = refs.count_is }

  -- ---- what isn't

  chunk_refused_same : (id : List ℕ) (fault : RepoFault) → RefusesChunk files repo.log repo.keys id fault → RefusesChunk other repo.log repo.keys id fault
  chunk_refused_same id (Repos.Missing named) refused = refused
  chunk_refused_same id (Repos.Blob named fault) refused = (
    refused.0,
    refused.1,
    record {
      blob = refused.2.blob;
      has = lie id refused.2.blob refused.0 refused.2.has;
      breaks = refused.2.breaks;
    },
  )
  chunk_refused_same id Repos.NoCommit refused = absurd refused
  chunk_refused_same id (Repos.Damaged segment at) refused = absurd refused
  chunk_refused_same id (Repos.Config fault) refused = absurd refused
  chunk_refused_same id (Repos.Key fault) refused = absurd refused
  chunk_refused_same id (Repos.Manifest fault) refused = absurd refused
  chunk_refused_same id (Repos.Archive named fault) refused = absurd refused
  chunk_refused_same id (Repos.Item named fault) refused = absurd refused
  chunk_refused_same id (Repos.Size named) refused = absurd refused
  chunk_refused_same id (Repos.KeyFile fault) refused = absurd refused
  chunk_refused_same id (Repos.Other file config) refused = absurd refused
  chunk_refused_same id Repos.NoKey refused = absurd refused
  chunk_refused_same id Repos.Device refused = tt
  chunk_refused_same id Repos.Memory refused = tt

  record_refused_same : (id : List ℕ) (fault : RepoFault) → RefusesRecord files repo.log repo.keys id fault
      → RefusesRecord other repo.log repo.keys id fault
  record_refused_same id (Repos.Archive named fault) refused = (
    refused.0,
    record {
      content = refused.1.content;
      chunk = chunk_same id refused.1.content refused.1.chunk;
      record_is = refused.1.record_is;
    },
  )
  record_refused_same id (Repos.Missing named) refused = chunk_refused_same id (Repos.Missing named) refused
  record_refused_same id (Repos.Blob named fault) refused = chunk_refused_same id (Repos.Blob named fault) refused
  record_refused_same id Repos.NoCommit refused = absurd refused
  record_refused_same id (Repos.Damaged segment at) refused = absurd refused
  record_refused_same id (Repos.Config fault) refused = absurd refused
  record_refused_same id (Repos.Key fault) refused = absurd refused
  record_refused_same id (Repos.Manifest fault) refused = absurd refused
  record_refused_same id (Repos.Item named fault) refused = absurd refused
  record_refused_same id (Repos.Size named) refused = absurd refused
  record_refused_same id (Repos.KeyFile fault) refused = absurd refused
  record_refused_same id (Repos.Other file config) refused = absurd refused
  record_refused_same id Repos.NoKey refused = absurd refused
  record_refused_same id Repos.Device refused = tt
  record_refused_same id Repos.Memory refused = tt

  named_refused_same : (named : Option ArchiveRef) (fault : RepoFault) → RefusesNamed files repo.log repo.keys named fault
      → RefusesNamed other repo.log repo.keys named fault
  named_refused_same None fault refused = absurd refused
  named_refused_same (Some named) fault refused = record_refused_same named.id fault refused

  comes_same : (id bytes : List ℕ) (ids : List (List ℕ)) (items : List ItemText) (end : Option RepoFault)
      → Comes files repo.log repo.keys id bytes ids items end → Comes other repo.log repo.keys id bytes ids items end
  comes_same id bytes ids _ end (item_comes _ rest _ item items _ front comes) =
      item_comes bytes rest ids item items end front (comes_same id rest ids items end comes)
  comes_same id bytes _ items end (chunk_comes _ chunk content ids _ _ front holds comes) =
      chunk_comes bytes chunk content ids items end front (chunk_same chunk content holds) (comes_same id _ ids items end comes)
  comes_same id bytes _ _ _ (chunk_refused _ chunk ids fault front of refused) =
      chunk_refused bytes chunk ids fault front of (chunk_refused_same chunk fault refused)
  comes_same id bytes ids _ _ (item_faulty _ _ fault front) = item_faulty bytes ids fault front
  comes_same id _ _ _ _ stream_whole = stream_whole
  comes_same id bytes _ _ _ (stream_cut _ front some) = stream_cut bytes front some

  ends_same : (name : List ℕ) (fault : RepoFault) → EndsStream files repo name fault → EndsStream other repo name fault
  ends_same name fault ends = record {
    named = ends.named;
    named_is = ends.named_is;
    archive = ends.archive;
    record_is = record_same ends.named.id ends.archive ends.record_is;
    items = ends.items;
    come = comes_same ends.named.id [] ends.archive.items ends.items (Some fault) ends.come;
  }

  read_refused_same : (name : List ℕ) (fault : RepoFault) → RefusesRead files repo name fault → RefusesRead other repo name fault
  read_refused_same name fault (inl refused) = inl (named_refused_same (archive_named name repo.manifest.archives) fault refused)
  read_refused_same name fault (inr ends) = inr (ends_same name fault ends)

  pub refs_refused_same : (fault : RepoFault) → RefusesRefs files repo fault → RefusesRefs other repo fault
  refs_refused_same fault refused = record {
    before = refused.before;
    named = refused.named;
    behind = refused.behind;
    archives = refused.archives;
    reads = refused.reads;
    are_read = are_read_same refused.before refused.reads refused.are_read;
    refused = read_refused_same refused.named.name fault refused.refused;
  }

-- ---- what goes

goes_same : (files other : Files) (repo : RepoState) (name id : List ℕ) → LieIn files other repo → Goes files repo name id → Goes other repo name id
goes_same files other repo name id lie goes = record {
  chunk = goes.chunk;
  falls = record {
    count = goes.falls.count;
    used = refs_same files other repo lie id _ goes.falls.used;
    unused = refs_same files other (without_name repo name) lie id 0 goes.falls.unused;
  };
}

pub going_same : (files other : Files) (repo : RepoState) (name : List ℕ) (ids : List (List ℕ)) → LieIn files other repo → LieIn other files repo
    → AreGoing files repo name ids → AreGoing other repo name ids
going_same files other repo name ids lie back going = record {
  reads = going.reads;
  are_read = are_read_same files other repo lie repo.manifest.archives going.reads going.are_read;
  sorted = going.sorted;
  each = λ id. (
    λ among. goes_same files other repo name id lie ((going.each id).0 among),
    λ goes. (going.each id).1 (goes_same other files repo name id back goes),
  );
}

-- ---- why an archive isn't deleted

of_files_same : (files other : Files) (repo : RepoState) (name : List ℕ) (fault : RepoFault) → LieIn files other repo
    → IsNamed repo name × (IsOfFiles fault × RefusesRefs files repo fault) → IsNamed repo name × (IsOfFiles fault × RefusesRefs other repo fault)
of_files_same files other repo name fault lie refused = (refused.0, (refused.1.0, refs_refused_same files other repo lie fault refused.1.1))

-- what holds where all archives read
all_read_same : {Says : Type 0} (files other : Files) (repo : RepoState) (name : List ℕ) → LieIn files other repo
    → IsNamed repo name × (AllRead files repo × Says) → IsNamed repo name × (AllRead other repo × Says)
all_read_same files other repo name lie refused =
    let read = refused.1.0 in
    (refused.0, ((read.0, are_read_same files other repo lie repo.manifest.archives read.0 read.1), refused.1.1))

pub delete_refused_same : (files other : Files) (repo : RepoState) (name time : List ℕ) (now : Option Told) (fault : CarryFault) → LieIn files other repo
    → RefusesDelete files repo name time now fault → RefusesDelete other repo name time now fault
delete_refused_same files other repo name time now (Carry.NotFound missing) lie refused = refused
delete_refused_same files other repo name time now (Carry.Target (Stores.Repo Repos.Device)) lie refused = tt
delete_refused_same files other repo name time now (Carry.Target (Stores.Repo Repos.NoCommit)) lie refused =
    of_files_same files other repo name Repos.NoCommit lie refused
delete_refused_same files other repo name time now (Carry.Target (Stores.Repo (Repos.Damaged segment at))) lie refused =
    of_files_same files other repo name (Repos.Damaged segment at) lie refused
delete_refused_same files other repo name time now (Carry.Target (Stores.Repo (Repos.Config f))) lie refused =
    of_files_same files other repo name (Repos.Config f) lie refused
delete_refused_same files other repo name time now (Carry.Target (Stores.Repo (Repos.Key f))) lie refused =
    of_files_same files other repo name (Repos.Key f) lie refused
delete_refused_same files other repo name time now (Carry.Target (Stores.Repo (Repos.Missing id))) lie refused =
    of_files_same files other repo name (Repos.Missing id) lie refused
delete_refused_same files other repo name time now (Carry.Target (Stores.Repo (Repos.Blob id f))) lie refused =
    of_files_same files other repo name (Repos.Blob id f) lie refused
delete_refused_same files other repo name time now (Carry.Target (Stores.Repo (Repos.Manifest f))) lie refused =
    of_files_same files other repo name (Repos.Manifest f) lie refused
delete_refused_same files other repo name time now (Carry.Target (Stores.Repo (Repos.Archive id f))) lie refused =
    of_files_same files other repo name (Repos.Archive id f) lie refused
delete_refused_same files other repo name time now (Carry.Target (Stores.Repo (Repos.Item id f))) lie refused =
    of_files_same files other repo name (Repos.Item id f) lie refused
delete_refused_same files other repo name time now (Carry.Target (Stores.Repo (Repos.Size id))) lie refused =
    of_files_same files other repo name (Repos.Size id) lie refused
delete_refused_same files other repo name time now (Carry.Target (Stores.Repo (Repos.KeyFile f))) lie refused =
    of_files_same files other repo name (Repos.KeyFile f) lie refused
delete_refused_same files other repo name time now (Carry.Target (Stores.Repo (Repos.Other file config))) lie refused =
    of_files_same files other repo name (Repos.Other file config) lie refused
delete_refused_same files other repo name time now (Carry.Target (Stores.Repo Repos.NoKey)) lie refused =
    of_files_same files other repo name Repos.NoKey lie refused
delete_refused_same files other repo name time now (Carry.Target (Stores.Repo Repos.Memory)) lie refused =
    of_files_same files other repo name Repos.Memory lie refused
delete_refused_same files other repo name time now (Carry.Target (Stores.Write f)) lie refused = all_read_same files other repo name lie refused
delete_refused_same files other repo name time now (Carry.Target (Stores.Nonce Nonces.Missing)) lie refused = all_read_same files other repo name lie refused
delete_refused_same files other repo name time now (Carry.Target (Stores.Nonce Nonces.Text)) lie refused = all_read_same files other repo name lie refused
delete_refused_same files other repo name time now (Carry.Target (Stores.Nonce Nonces.Exhausted)) lie refused = all_read_same files other repo name lie refused
delete_refused_same files other repo name time now (Carry.Target (Stores.Nonce Nonces.Device)) lie refused = all_read_same files other repo name lie refused
delete_refused_same files other repo name time now (Carry.Target (Stores.Nonce Nonces.Memory)) lie refused = all_read_same files other repo name lie refused
delete_refused_same files other repo name time now (Carry.Target Stores.Committed) lie refused = all_read_same files other repo name lie refused
delete_refused_same files other repo name time now (Carry.Target Stores.TooLarge) lie refused = all_read_same files other repo name lie refused
delete_refused_same files other repo name time now (Carry.Target Stores.Entropy) lie refused = all_read_same files other repo name lie refused
delete_refused_same files other repo name time now (Carry.Target Stores.Memory) lie refused = all_read_same files other repo name lie refused
delete_refused_same files other repo name time now Carry.Memory lie refused = tt
delete_refused_same files other repo name time now (Carry.Source f) lie refused = absurd refused
delete_refused_same files other repo name time now (Carry.Taken taken) lie refused = absurd refused
delete_refused_same files other repo name time now Carry.Pieces lie refused = absurd refused
delete_refused_same files other repo name time now Carry.Record lie refused = absurd refused
