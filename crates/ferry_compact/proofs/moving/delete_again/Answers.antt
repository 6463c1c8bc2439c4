use Rattle.std.proofs.Common.{Result, ap, arith}
use Rattle.ferry_compact.proofs.ReadingLemmas.{err_is}
use Rattle.ferry_compact.proofs.WentLemmas.{fault_of, put_did, put_refused}
use Rattle.ferry_compact.specs.Fault.{write_fault}
use Rattle.ferry_compact.specs.Steps.{Did, EachPut, PutsOne, RefusesPut}
use Rattle.ferry_compact.specs.declared.fault.CompactFault.{CompactFault}
use Rattle.ferry_segment.specs.Entry.{DeleteEntry}
use Rattle.ferry_compact.proofs.moving.delete_again.Goals as goal

pub returns-in_err-delete-clause-did : goal.returns-in_err-delete-clause-did
returns-in_err-delete-clause-did g c =
    let a = g.D.Shelf.told c.args.depot.now in
    let b = g.D.Shelf.told c.delete.new.depot in
    let n = g.D.Shelf.faults c.args.depot.now in
    let m = g.D.Shelf.faults c.delete.new.depot in
    let session = c.args.session.now in
    let entry = DeleteEntry c.args.key.now in
    let fault = c.in_err-delete.field-0.0 in
    let said = c.in_err-delete.ensures in
    err_is c.from_residual.result (write_fault fault)
    (λ (r : Result (Unit {0}) CompactFault). Did (EachPut entry session) (PutsOne entry session c.delete.new.self) (RefusesPut session) a b n m r)
    c.from_residual.ensures.1
    (put_refused session c.delete.new.self entry fault a b n m said.moments said.gains said.stays said.beside said.untold
    (λ is. (said.numbers.0 (ap (fault_of {T = Unit {0}}) is)).1) said.cause said.ends)

pub returns-clause-did : goal.returns-clause-did
returns-clause-did g c =
    let a = g.D.Shelf.told c.args.depot.now in
    let b = g.D.Shelf.told c.delete.new.depot in
    let n = g.D.Shelf.faults c.args.depot.now in
    let m = g.D.Shelf.faults c.delete.new.depot in
    let session = c.args.session.now in
    let entry = DeleteEntry c.args.key.now in
    let said = c.in_ok-delete.ensures in
    put_did session c.delete.new.self entry 41 a b n m (λ fit. omega (arith, fit)) said.moments said.gains said.stays said.beside said.untold said.put
    said.rows said.done said.ok
    said.cause said.ends
