use Rattle.std.proofs.Common.{◌≡◌, ℕ, List, IsSome, take}
use Rattle.ferry_manifest.specs.Manifest.Writing.{IsPackable}
use Rattle.ferry_refs.proofs.RenamedLemmas.{names_in}
use Rattle.ferry_refs.proofs.renewing.rename_archives.Given as goal
use Rattle.ferry_refs.specs.Tagging.{renewed, renewed_entries}
use Rattle.ferry_repo.specs.Archives.{archive_named}
use Rattle.ferry_store.specs.Commit.{accepted_in}

-- the archives so far have their new records
abbrev pub invariant-loop-place : goal.invariant-loop-place
invariant-loop-place l = record {
  renamed : accepted_in l.store ≡ renewed (accepted_in l.fn.store) (renewed_entries (names_in (take l.place l.untagged)) (take l.place l.ids));
  rest : l.store ≡ record l.fn.store { accepted = l.store.accepted };
  packable : IsPackable (accepted_in l.store);
  still : (name : List ℕ) → IsSome (archive_named name (accepted_in l.fn.store).archives) → IsSome (archive_named name (accepted_in l.store).archives);
}
