-- Lemmas on specs/Compare.antt: what was read of an archive stays so where each blob that was there is there still.
use Rattle.std.proofs.Common.{◌≡◌, ℕ, List, [], ◌∷◌, take, Option, Some, None, ◌∙◌}
use Rattle.ferry_disk.specs.Device.{Told, told_files}
use Rattle.ferry_disk.specs.Files.{Files}
use Rattle.ferry_item.specs.Item.{ItemText}
use Rattle.ferry_item.specs.declared.item.ChunkRef.{ChunkRef}
use Rattle.ferry_log.specs.State.{LogState}
use Rattle.ferry_mac.specs.declared.keys.Keys.{Keys}
use Rattle.ferry_manifest.specs.Manifest.Text.{ManifestText}
use Rattle.ferry_manifest.specs.Record.Text.{ArchiveText}
use Rattle.ferry_repo.specs.Archives.{archive_named, HoldsRecord, ContentsCome, HoldsJoined}
use Rattle.ferry_repo.specs.Objects.{KeepsBlobs}
use Rattle.ferry_repo.specs.Opening.{RepoState}
use Rattle.ferry_repo.specs.Walk.{HoldChunks, WalkState, FitsWalk}
use Rattle.ferry_repo.specs.Whole.{WholeItem, WholesCome, WholeArchive}
use Rattle.ferry_repo.proofs.KeptLemmas.{chunk_kept}
use Rattle.ferry_compare.specs.Compare.{ReadsSoFar, Seen, StandsBeside}

module _ (f g : Files) (a b : LogState) (keys : Keys) (keeps : KeepsBlobs f a g b) where
  chunks_kept : (ids contents : List (List ℕ)) → HoldChunks f a keys ids contents → HoldChunks g b keys ids contents
  chunks_kept [] [] hold = tt
  chunks_kept [] (c ∷ cs) hold = hold
  chunks_kept (i ∷ is) [] hold = hold
  chunks_kept (i ∷ is) (c ∷ cs) hold = (chunk_kept f g a b keys i c keeps hold.0, chunks_kept is cs hold.1)

  record_kept : (id : List ℕ) (archive : ArchiveText) → HoldsRecord f a keys id archive → HoldsRecord g b keys id archive
  record_kept id archive holds =
      record { content = holds.content; chunk = chunk_kept f g a b keys id holds.content keeps holds.chunk; record_is = holds.record_is }

  walk_kept : (walk : WalkState) → FitsWalk f a keys walk → FitsWalk g b keys walk
  walk_kept walk fits = record {
    contents = fits.contents;
    hold = chunks_kept (take walk.read walk.ids) fits.contents fits.hold;
    items = fits.items;
    front = fits.front;
    answered = fits.answered;
    left = fits.left;
    split = fits.split;
    left_is = fits.left_is;
    met = fits.met;
  }

  contents_kept : (chunks : List ChunkRef) (contents : List (List ℕ)) → ContentsCome f a keys chunks contents None
      → ContentsCome g b keys chunks contents None
  contents_kept [] [] come = tt
  contents_kept [] (c ∷ cs) come = come
  contents_kept (c ∷ cs) [] come = come
  contents_kept (c ∷ cs) (x ∷ xs) come =
      (record { holds = chunk_kept f g a b keys c.id x keeps come.0.holds; size = come.0.size }, contents_kept cs xs come.1)

  pub joined_kept : (chunks : Option (List ChunkRef)) (content : Option (List ℕ)) → HoldsJoined f a keys chunks content → HoldsJoined g b keys chunks content
  joined_kept None None holds = tt
  joined_kept None (Some c) holds = holds
  joined_kept (Some chunks) None holds = holds
  joined_kept (Some chunks) (Some c) holds = (holds.0, contents_kept chunks holds.0 holds.1, holds.2)

  wholes_kept : (items : List ItemText) (wholes : List WholeItem) → WholesCome f a keys items None wholes None → WholesCome g b keys items None wholes None
  wholes_kept [] [] come = come
  wholes_kept [] (w ∷ ws) come = come
  wholes_kept (i ∷ is) [] come = come
  wholes_kept (i ∷ is) (w ∷ ws) come =
      (record { fields = come.0.fields; content = joined_kept i.chunks w.content come.0.content }, wholes_kept is ws come.1)

-- ---- the target, after other work on it

-- the same repository with another log and another manifest
abbrev pub moved : RepoState → LogState → ManifestText → RepoState
moved repo log manifest = record repo { log = log; manifest = manifest }

pub reads_kept : (files others : Files) (repo : RepoState) (log : LogState) (manifest : ManifestText) (name : List ℕ) (walk : WalkState)
    (front : WholeArchive) → KeepsBlobs files repo.log others log
    → archive_named name manifest.archives ≡ archive_named name repo.manifest.archives → ReadsSoFar files repo name walk front
    → ReadsSoFar others (moved repo log manifest) name walk front
unfolding walk_kept
reads_kept files others repo log manifest name walk front keeps same reads = record {
  named = reads.named;
  named_is = same ∙ reads.named_is;
  archive = reads.archive;
  record_is = record_kept files others repo.log log repo.keys keeps reads.named.id reads.archive reads.record_is;
  time = reads.time;
  fields = reads.fields;
  id = reads.id;
  ids = reads.ids;
  fits = walk_kept files others repo.log log repo.keys keeps walk reads.fits;
  contents = wholes_kept files others repo.log log repo.keys keeps reads.fits.items front.items reads.contents;
}

pub beside_kept : (before after : Told) (repo : RepoState) (log : LogState) (manifest : ManifestText) (met : Seen) (name : List ℕ)
    (walk : Option WalkState) (front : WholeArchive) → KeepsBlobs (told_files before) repo.log (told_files after) log
    → archive_named name manifest.archives ≡ archive_named name repo.manifest.archives → StandsBeside (Some before) repo met name walk front
    → StandsBeside (Some after) (moved repo log manifest) met name walk front
beside_kept before after repo log manifest met name None front keeps same stands = stands
beside_kept before after repo log manifest met name (Some walk) front keeps same stands =
    reads_kept (told_files before) (told_files after) repo log manifest name walk front keeps same stands
