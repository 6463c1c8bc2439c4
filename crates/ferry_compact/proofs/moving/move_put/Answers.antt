use Rattle.std.proofs.Common.{◌≡◌, [], Result, take, drop, refl, sym, ◌∙◌, ap}
use Rattle.ferry_compact.proofs.MovingLemmas.{damaged_read, entry_read, not_put, put_by_tag, put_read, unread_entry}
use Rattle.ferry_compact.proofs.ReadingLemmas.{err_is, of_told}
use Rattle.ferry_compact.proofs.StepLemmas.{read_ok}
use Rattle.ferry_compact.specs.Fault.{store_fault}
use Rattle.ferry_compact.specs.Reading.{HasEntry}
use Rattle.ferry_compact.specs.Steps.{Did, EachOfEntry, PutsEntry, RefusesEntry}
use Rattle.ferry_compact.specs.declared.fault.CompactFault.{CompactFault}
use Rattle.ferry_compact.specs.declared.fault.CompactFault.TheVariants.{Damaged}
use Rattle.ferry_disk.specs.Files.{Files, segment_bytes}
use Rattle.ferry_segment.specs.Entry.{LogEntry, PutEntry, entry_view}
use Rattle.ferry_compact.proofs.moving.move_put.Goals as goal

pub returns-in_err-read_part-clause-did : goal.returns-in_err-read_part-clause-did
returns-in_err-read_part-clause-did g c =
    let a = g.D.Shelf.told c.args.depot.now in
    let b = g.D.Shelf.told c.read_part.new.shelf in
    let n = g.D.Shelf.faults c.args.depot.now in
    let m = g.D.Shelf.faults c.read_part.new.shelf in
    let session = c.args.session.now in
    let head = c.args.head.now in
    let fault = c.in_err-read_part.field-0.0 in
    err_is c.from_residual.result (store_fault fault)
    (λ (r : Result (Unit {0}) CompactFault). Did (EachOfEntry c.args.segment c.args.at head session)
    (PutsEntry c.args.segment c.args.at head session session) (RefusesEntry c.args.segment c.args.at head session) a b n m r) c.from_residual.ensures.1
    (unread_entry c.args.segment c.args.at head session session fault a b n m c.in_err-read_part.ensures.same c.in_err-read_part.ensures.cause)

pub returns-in_default-clause-did : goal.returns-in_default-clause-did
returns-in_default-clause-did g c =
    let a = g.D.Shelf.told c.args.depot.now in
    let b = g.D.Shelf.told c.read_part.new.shelf in
    let n = g.D.Shelf.faults c.args.depot.now in
    let m = g.D.Shelf.faults c.read_part.new.shelf in
    let session = c.args.session.now in
    let head = c.args.head.now in
    let bytes = c.read_part.new.bytes.items in
    damaged_read c.args.segment c.args.at head session session (λ f h i. Unit {0}) (Damaged c.args.segment c.args.at) a b n m refl
    (read_ok (λ files. (entry : LogEntry) → HasEntry files c.args.segment c.args.at head entry → ⊥) (λ f h i. Unit {0}) a b n m
    c.in_ok-read_part.field-0 c.in_ok-read_part.ensures.same c.in_ok-read_part.ensures.cause
    (λ files tells entry has.
    let read : bytes ≡ take head.size (drop c.args.at (segment_bytes files c.args.segment)) =
    of_told a (λ (f : Files). bytes ≡ take head.size (drop c.args.at (segment_bytes f c.args.segment))) files tells c.in_ok-read_part.ensures.bytes in
    c.in_default.ensures.only entry [] has.begins.fits
    (c.deref.ensures.value ∙ entry_read files c.args.segment c.args.at head entry bytes has read)))

pub returns-in-Put-clause-did : goal.returns-in-Put-clause-did
returns-in-Put-clause-did g c =
    let a = g.D.Shelf.told c.args.depot.now in
    let b = g.D.Shelf.told c.read_part.new.shelf in
    let d = g.D.Shelf.told c.put_again.new.depot in
    let n = g.D.Shelf.faults c.args.depot.now in
    let m = g.D.Shelf.faults c.read_part.new.shelf in
    let k = g.D.Shelf.faults c.put_again.new.depot in
    let session = c.args.session.now in
    let head = c.args.head.now in
    let bytes = c.read_part.new.bytes.items in
    put_read c.args.segment c.args.at head session c.put_again.new.session c.in-Put.key c.in-Put.blob.now (λ f h i. Unit {0}) a b d n m k
    c.put_again.result
    (read_ok (λ files. (entry : LogEntry) → HasEntry files c.args.segment c.args.at head entry → entry ≡ PutEntry c.in-Put.key c.in-Put.blob.now)
    (λ f h i. Unit {0}) a b n m c.in_ok-read_part.field-0 c.in_ok-read_part.ensures.same c.in_ok-read_part.ensures.cause
    (λ files tells entry has.
    let read : bytes ≡ take head.size (drop c.args.at (segment_bytes files c.args.segment)) =
    of_told a (λ (f : Files). bytes ≡ take head.size (drop c.args.at (segment_bytes f c.args.segment))) files tells c.in_ok-read_part.ensures.bytes in
    let found = c.in-Ok.ensures.only entry [] has.begins.fits
    (c.deref.ensures.value ∙ entry_read files c.args.segment c.args.at head entry bytes has read) in
    sym found.0 ∙ ap entry_view c.in-Put.is))
    c.put_again.ensures.did

pub returns-in_default-0₀ : goal.returns-in_default-0₀
returns-in_default-0₀ g c =
    let a = g.D.Shelf.told c.args.depot.now in
    let b = g.D.Shelf.told c.read_part.new.shelf in
    let n = g.D.Shelf.faults c.args.depot.now in
    let m = g.D.Shelf.faults c.read_part.new.shelf in
    let session = c.args.session.now in
    let head = c.args.head.now in
    let bytes = c.read_part.new.bytes.items in
    record {
      did = damaged_read c.args.segment c.args.at head session session (λ f h i. Unit {0}) (Damaged c.args.segment c.args.at) a b n m refl
          (read_ok (λ files. (entry : LogEntry) → HasEntry files c.args.segment c.args.at head entry → ⊥) (λ f h i. Unit {0}) a b n m
          c.in_ok-read_part.field-0 c.in_ok-read_part.ensures.same c.in_ok-read_part.ensures.cause
          (λ files tells entry has.
          let read : bytes ≡ take head.size (drop c.args.at (segment_bytes files c.args.segment)) =
          of_told a (λ (f : Files). bytes ≡ take head.size (drop c.args.at (segment_bytes f c.args.segment))) files tells
          c.in_ok-read_part.ensures.bytes in
          let found = c.in-Ok.ensures.only entry [] has.begins.fits
          (c.deref.ensures.value ∙ entry_read files c.args.segment c.args.at head entry bytes has read) in
          let put = put_by_tag head entry has.head_is c.requires.put in
          not_put c.in-Ok.read.0 put.0 put.1 c.in_default-0₀.not-Put (found.0 ∙ put.2)));
      unspent = tt;
    }
