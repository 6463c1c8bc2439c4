use Rattle.std.proofs.Common.{◌≤◌, length, take, arith}
use Rattle.std.proofs.lemmas.List.{drop_all, length-take}
use Rattle.ferry_rechunk.proofs.cutter.Cutter.clear.Goals as goal

pub returns-clause-piece : goal.returns-clause-piece
returns-clause-piece c =
    let bytes = c.self.inside.bytes.items in
    let head : length (take 43 bytes) ≤ 43 = omega (arith, length-take 43 bytes) in
    rw c.truncate.ensures.items (drop_all 43 (take 43 bytes) head)
