use Rattle.std.proofs.Common.{[], ◌∷◌, ◌++◌, ℕ, List, length, Result, Ok, Err}
use Rattle.ferry_disk.specs.Act.{Step, AppendTo}
use Rattle.ferry_write.specs.Room.{must_begin, room_of, room_steps}
use Rattle.ferry_write.specs.Script.{Ran}
use Rattle.ferry_write.specs.declared.fault.WriteFault.{WriteFault}
use Rattle.ferry_write.specs.declared.room.Room.{Room}
use Rattle.ferry_write.proofs.RoomLemmas.{in_room}
use Rattle.ferry_write.proofs.ScriptLemmas.{err_is, ran_front, ran_as, ran_fault}
use Rattle.ferry_write.proofs.session.Session.write_delete.Goals as goal

pub returns-in_err-room-clause-ran : goal.returns-in_err-room-clause-ran
returns-in_err-room-clause-ran g c =
    let s = c.args.self.now in
    let more = length c.args.entry.now in
    let xs = room_steps s.last s.size (must_begin s.last s.size s.limit more) in
    let f : ℕ → List Step = (λ k. AppendTo k c.args.entry.now ∷ []) in
    let a = g.D.Shelf.told c.args.depot.now in
    let b = g.D.Shelf.told c.make_room.new.depot in
    let n = g.D.Shelf.faults c.args.depot.now in
    let m = g.D.Shelf.faults c.make_room.new.depot in
    err_is c.from_residual.result c.in_err-room.field-0.0 (λ (r : Result Room WriteFault). Ran (xs ++ f (room_of s more).segment) a b n m r)
    c.from_residual.ensures.1 (ran_front xs (f (room_of s more).segment) a b n m c.in_err-room.field-0.0 c.in_err-room.ensures.ran)

pub returns-in_err-append_to-clause-ran : goal.returns-in_err-append_to-clause-ran
returns-in_err-append_to-clause-ran g c =
    let s = c.args.self.now in
    let more = length c.args.entry.now in
    let xs = room_steps s.last s.size (must_begin s.last s.size s.limit more) in
    let f : ℕ → List Step = (λ k. AppendTo k c.args.entry.now ∷ []) in
    let a = g.D.Shelf.told c.args.depot.now in
    let b = g.D.Shelf.told c.make_room.new.depot in
    let d = g.D.Shelf.told c.append_to.new.depot in
    let n = g.D.Shelf.faults c.args.depot.now in
    let m = g.D.Shelf.faults c.make_room.new.depot in
    let k = g.D.Shelf.faults c.append_to.new.depot in
    let fault = c.in_err-append_to.field-0.0 in
    let room = c.in_ok-room.room in
    err_is c.from_residual-in_err-append_to.result fault
    (λ (r : Result Room WriteFault). Ran (xs ++ f (room_of s more).segment) a d n k r) c.from_residual-in_err-append_to.ensures.1
    (ran_fault (xs ++ f (room_of s more).segment) a d n k fault
    (in_room {U = Unit {0}} xs f room (room_of s more) a b d n m k (Err fault) c.in_ok-room.ensures.room c.in_ok-room.ensures.ran
    c.in_err-append_to.ensures.ran))

pub returns-clause-ran : goal.returns-clause-ran
returns-clause-ran g c =
    let s = c.args.self.now in
    let more = length c.args.entry.now in
    let xs = room_steps s.last s.size (must_begin s.last s.size s.limit more) in
    let f : ℕ → List Step = (λ k. AppendTo k c.args.entry.now ∷ []) in
    let a = g.D.Shelf.told c.args.depot.now in
    let b = g.D.Shelf.told c.make_room.new.depot in
    let d = g.D.Shelf.told c.append_to.new.depot in
    let n = g.D.Shelf.faults c.args.depot.now in
    let m = g.D.Shelf.faults c.make_room.new.depot in
    let k = g.D.Shelf.faults c.append_to.new.depot in
    let room = c.in_ok-room.room in
    ran_as (xs ++ f (room_of s more).segment) a d n k c.in_ok-append_to.field-0 room
    (in_room {U = Unit {0}} xs f room (room_of s more) a b d n m k (Ok c.in_ok-append_to.field-0) c.in_ok-room.ensures.room c.in_ok-room.ensures.ran
    c.in_ok-append_to.ensures.ran)
