use Rattle.std.specs.List.{AllByRecursion}
use Rattle.ferry_repo.specs.Shared.{IsAt, IsShared}
use Rattle.ferry_repo.proofs.notes.Note.shared.Given as goal

-- all that were found are shared, and the next chunk of the content that was cut is at its byte
abbrev pub invariant-loop : goal.invariant-loop
invariant-loop l = record {
  at : IsAt l.self.chunks l.cursor;
  shared : AllByRecursion (IsShared l.self l.chunks) l.found.items;
}
