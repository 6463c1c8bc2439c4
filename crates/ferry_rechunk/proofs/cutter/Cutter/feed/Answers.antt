use Rattle.std.proofs.Common.{◌+◌, ◌-◌, ◌≤◌, length, arith}
use Rattle.std.proofs.lemmas.List.{length-append, length-drop, length-take}
use Rattle.ferry_rechunk.proofs.CutterLemmas.{piece_grows, room_is_left}
use Rattle.ferry_rechunk.proofs.cutter.Cutter.feed.Goals as goal

pub append-requires : goal.append-requires
append-requires c =
    let few : c.min-taken.result ≤ c.self.inside.block - length c.piece.result.now = omega (arith, c.min-taken.ensures) in
    let left = room_is_left c.self.inside.block c.self.inside.bytes.items c.piece.result.now c.min-taken.result c.args.self.now
    c.self.view_is c.piece.ensures.piece c.self.invariant.2 c.self.invariant.3 few in
    grind (arith, length-take, length-drop, left, c.self.invariant.4)

pub invariant_of-self : goal.invariant_of-self
invariant_of-self c =
    let few : c.min-taken.result ≤ c.self.inside.block - length c.piece.result.now = omega (arith, c.min-taken.ensures) in
    let left = room_is_left c.self.inside.block c.self.inside.bytes.items c.piece.result.now c.min-taken.result c.args.self.now
    c.self.view_is c.piece.ensures.piece c.self.invariant.2 c.self.invariant.3 few in (
      c.self.invariant.0,
      c.self.invariant.1,
      grind (arith, length-append, c.append.ensures.items, c.self.invariant.2),
      grind (arith, length-append, length-take, length-drop, c.append.ensures.items, left),
      omega (arith, c.append.ensures.capacity, c.self.invariant.4),
    )

pub returns-clause-piece : goal.returns-clause-piece
returns-clause-piece c =
    rw c.append.ensures.items (piece_grows c.self.inside.block c.self.inside.bytes.items _ c.args.self.now c.self.view_is c.self.invariant.2)

pub returns-clause-fits : goal.returns-clause-fits
returns-clause-fits c =
    let few : c.min-taken.result ≤ c.self.inside.block - length c.piece.result.now = omega (arith, c.min-taken.ensures) in
    let left = room_is_left c.self.inside.block c.self.inside.bytes.items c.piece.result.now c.min-taken.result c.args.self.now
    c.self.view_is c.piece.ensures.piece c.self.invariant.2 c.self.invariant.3 few in
    let memory = c.append.new.memory.items in
    let within : length memory ≤ 43 + c.self.inside.block = grind (arith, length-append, length-take, length-drop, c.append.ensures.items, left) in
    omega (arith, length-drop 43 memory, within)
