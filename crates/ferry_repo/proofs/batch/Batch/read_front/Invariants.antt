use Rattle.std.proofs.Common.{◌≡◌, IfSome, length, take}
use Rattle.ferry_disk.specs.Device.{told_files, heard}
use Rattle.ferry_log.specs.State.{FitsFiles}
use Rattle.ferry_repo.specs.Batch.{IsBatch, HasBlobs}
use Rattle.ferry_repo.proofs.batch.Batch.read_front.Given as goal

-- the batch has the blobs of the chunks before the place, and nothing that the shelf tells has changed
abbrev pub invariant-loop-place : goal.invariant-loop-place
invariant-loop-place g l = record {
  batch : IsBatch l.batch.ids.items l.batch.blobs.items;
  count : length l.batch.blobs.items ≡ l.place;
  front : l.batch.ids.items ≡ take l.place l.ids;
  blobs : IfSome (g.S.Shelf.told l.shelf) (λ t. HasBlobs (told_files t) l.log l.batch.ids.items l.batch.blobs.items);
  fits : IfSome (g.S.Shelf.told l.shelf) (λ t. FitsFiles (told_files t) l.log);
  same : heard (g.S.Shelf.told l.shelf) ≡ heard (g.S.Shelf.told l.fn.shelf);
  faults : g.S.Shelf.faults l.shelf ≡ g.S.Shelf.faults l.fn.shelf;
}
