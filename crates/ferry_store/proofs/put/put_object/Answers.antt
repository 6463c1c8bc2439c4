use Rattle.std.proofs.Common.{rules, List, ◌≡◌, ◌+◌, ◌-◌, ◌≤◌, ◌<◌, ◌^◌, ℕ, Ok, Err, Result, length, sym, ap, ◌∙◌, subst, arith, IfErr, [], ◌∷◌}
use Rattle.ferry_blob.proofs.CallerLemmas.{blocks_from, blocks_most}
use Rattle.ferry_blob.specs.Blob.{OpensTo, sealed}
use Rattle.ferry_disk.specs.Moments.{Between}
use Rattle.ferry_log.specs.declared.place.Place.{Place}
use Rattle.ferry_nonce.specs.Counter.{reserved_for, FitIn}
use Rattle.ferry_segment.specs.Entry.{PutEntry}
use Rattle.ferry_stops.proofs.TellLemmas.{told_both}
use Rattle.ferry_store.proofs.CallLemmas.{HasPut, draw_err, draw_ok, entry_ends, object_blocks, object_both, object_grows, object_placed, put_err, put_ok}
use Rattle.ferry_store.proofs.CauseLemmas.{draw_stops, fault_of, write_stops}
use Rattle.ferry_store.proofs.PieceLemmas.{opened_blocks}
use Rattle.ferry_store.proofs.StepLemmas.{err_is}
use Rattle.ferry_store.proofs.TypeLemmas.{sealed_typed}
use Rattle.ferry_store.proofs.put.put_object.Goals as goal
use Rattle.ferry_store.specs.Causes.{Stops}
use Rattle.ferry_store.specs.Fault.{nonce_refusal, write_refusal}
use Rattle.ferry_store.specs.Piece.{content_in, opened_in}
use Rattle.ferry_store.specs.State.{Did, IsPlaced, KeepsSound, TakesEntry}
use Rattle.ferry_store.specs.declared.fault.StoreRefusal.{StoreRefusal}
use Rattle.ferry_store.proofs.LimitLemmas.{undrawn_leaves}
use Rattle.ferry_store.specs.Limits.{LeavesBoth, BeginsFew}
use Rattle.ferry_store.proofs.FewLemmas.{IsUsedUp, few_entry, few_spent, few_undrawn}
use Rattle.ferry_store.proofs.WritingLemmas.{OpensNamed, object_writes, undrawn_writes}
use Rattle.ferry_store.specs.Writing.{WritesMore}
use Rattle.ferry_nonce.specs.declared.counter.Counter.{Counter}

pub draw-requires-clause-some : goal.draw-requires-clause-some
draw-requires-clause-some g c =
    subst (λ (n : ℕ). 1 ≤ n) (sym c.blocks_of-blocks.ensures.blocks) (blocks_from (length c.args.buffer.now - 43))

pub draw-requires-clause-most : goal.draw-requires-clause-most
draw-requires-clause-most g c =
    let most = blocks_most (length c.args.buffer.now - 43) (let small = c.requires.size in omega (arith, small)) in
    subst (λ (n : ℕ). n ≤ 2097152) (sym c.blocks_of-blocks.ensures.blocks) (omega (arith, most))

pub returns-in_err-first-clause-did : goal.returns-in_err-first-clause-did
returns-in_err-first-clause-did g c =
    let a = g.D.Shelf.told c.args.depot.now in
    let b = g.D.Shelf.told c.draw.new.depot in
    let n = g.D.Shelf.faults c.args.depot.now in
    let m = g.D.Shelf.faults c.draw.new.depot in
    let fault = c.in_err-first.field-0.0 in
    let session = c.args.session.now in
    let counter = c.args.counter.now in
    let entry = PutEntry c.args.id.now (sealed c.args.keys.now c.args.mode counter.free (content_in c.args.keys.now c.args.is_blob c.args.buffer.now)) in
    err_is c.from_residual.result (nonce_refusal fault)
    (λ (r : Result Place StoreRefusal). Did (KeepsSound session counter) (λ _. TakesEntry session counter entry session c.draw.new.self) a b n m r)
    c.from_residual.ensures.1
    (draw_err {T = Place} session counter (λ _. TakesEntry session counter entry session c.draw.new.self) c.blocks_of-blocks.result fault a b n m
    (λ fit. ap g.D.Shelf.told (c.in_err-first.ensures.kept fit).1) c.in_err-first.ensures.replaced c.in_err-first.ensures.moments
    c.in_err-first.ensures.cause c.in_err-first.ensures.ends)

pub seal_again-requires-clause-blocks : goal.seal_again-requires-clause-blocks
seal_again-requires-clause-blocks g c =
    subst (λ (n : ℕ). c.in_ok-first.first + n ≤ 18446744073709551615) c.blocks_of-blocks.ensures.blocks c.in_ok-first.ensures.within

pub returns-in_err-place-clause-did : goal.returns-in_err-place-clause-did
returns-in_err-place-clause-did g c =
    let a = g.D.Shelf.told c.args.depot.now in
    let b = g.D.Shelf.told c.draw.new.depot in
    let d = g.D.Shelf.told c.put.new.depot in
    let n = g.D.Shelf.faults c.args.depot.now in
    let m = g.D.Shelf.faults c.draw.new.depot in
    let k = g.D.Shelf.faults c.put.new.depot in
    let session = c.args.session.now in
    let counter = c.args.counter.now in
    let first = c.in_ok-first.first in
    let id = c.args.id.now in
    let now = c.put.new.self in
    let drawn = c.draw.new.self in
    let blob = c.seal_again.new.buffer in
    let blocks = c.blocks_of-blocks.result in
    let whole = sealed c.args.keys.now c.args.mode counter.free (content_in c.args.keys.now c.args.is_blob c.args.buffer.now) in
    let same : blob ≡ whole =
    c.seal_again.ensures.blob ∙ ap (λ (f : ℕ). sealed c.args.keys.now c.args.mode f (content_in c.args.keys.now c.args.is_blob c.args.buffer.now))
    c.in_ok-first.ensures.drawn.0 in
    let fits : first < 2 ^ 64 = search rules in
    let taken = object_blocks c.args.keys.now c.args.mode counter drawn blocks first id (opened_in c.args.keys.now c.args.is_blob c.args.buffer.now) blob
    c.in_ok-first.ensures.drawn.0 fits
    c.seal_again.ensures.blob
    (opened_blocks c.args.keys.now c.args.is_blob c.args.buffer.now c.blocks_of-blocks.result c.requires.head c.blocks_of-blocks.ensures.blocks)
    c.in_ok-first.ensures.drawn.1 in
    let fault = c.in_err-place.field-0.0 in
    err_is c.from_residual-in_err-place.result (write_refusal fault)
    (λ (r : Result Place StoreRefusal). Did (KeepsSound session counter) (λ _. TakesEntry session counter (PutEntry id whole) now drawn) a d n k r)
    c.from_residual-in_err-place.ensures.1
    (subst (λ (x : List ℕ). Did {T = Place} (KeepsSound session counter) (λ _. TakesEntry session counter (PutEntry id x) now drawn) a d n k
    (Err (write_refusal fault))) same
    (object_both session now counter drawn c.args.mode (PutEntry id blob) (reserved_for counter blocks) first
    a b d n m k (Err (write_refusal fault)) taken.0 taken.1
    c.requires.mode (λ h. sealed_typed c.args.keys.now c.args.mode first id _ blob h c.seal_again.ensures.blob)
    (draw_ok counter drawn blocks first a b n m (λ fit. ap g.D.Shelf.told (c.in_ok-first.ensures.kept fit).1) c.in_ok-first.ensures.replaced
    c.in_ok-first.ensures.moments c.in_ok-first.ensures.fits c.in_ok-first.ensures.cause c.in_ok-first.ensures.ends)
    (put_err {T = Place} session (PutEntry id blob) (λ _. HasPut session (PutEntry id blob) now) fault b d m k c.in_err-place.ensures.moments
    c.in_err-place.ensures.gains c.in_err-place.ensures.beside c.in_err-place.ensures.cause c.in_err-place.ensures.ends)))

pub returns-clause-did : goal.returns-clause-did
returns-clause-did g c =
    let a = g.D.Shelf.told c.args.depot.now in
    let b = g.D.Shelf.told c.draw.new.depot in
    let d = g.D.Shelf.told c.put.new.depot in
    let n = g.D.Shelf.faults c.args.depot.now in
    let m = g.D.Shelf.faults c.draw.new.depot in
    let k = g.D.Shelf.faults c.put.new.depot in
    let session = c.args.session.now in
    let counter = c.args.counter.now in
    let first = c.in_ok-first.first in
    let id = c.args.id.now in
    let place = c.in_ok-place.place in
    let now = c.put.new.self in
    let drawn = c.draw.new.self in
    let blob = c.seal_again.new.buffer in
    let blocks = c.blocks_of-blocks.result in
    let whole = sealed c.args.keys.now c.args.mode counter.free (content_in c.args.keys.now c.args.is_blob c.args.buffer.now) in
    let same : blob ≡ whole =
    c.seal_again.ensures.blob ∙ ap (λ (f : ℕ). sealed c.args.keys.now c.args.mode f (content_in c.args.keys.now c.args.is_blob c.args.buffer.now))
    c.in_ok-first.ensures.drawn.0 in
    let fits : first < 2 ^ 64 = search rules in
    let taken = object_blocks c.args.keys.now c.args.mode counter drawn blocks first id (opened_in c.args.keys.now c.args.is_blob c.args.buffer.now) blob
    c.in_ok-first.ensures.drawn.0 fits
    c.seal_again.ensures.blob
    (opened_blocks c.args.keys.now c.args.is_blob c.args.buffer.now c.blocks_of-blocks.result c.requires.head c.blocks_of-blocks.ensures.blocks)
    c.in_ok-first.ensures.drawn.1 in
    subst (λ (x : List ℕ). Did {T = Place} (KeepsSound session counter) (λ _. TakesEntry session counter (PutEntry id x) now drawn) a d n k (Ok place)) same
    (object_both session now counter drawn c.args.mode (PutEntry id blob) (reserved_for counter blocks) first a b d n m k (Ok place) taken.0 taken.1
    c.requires.mode (λ h. sealed_typed c.args.keys.now c.args.mode first id _ blob h c.seal_again.ensures.blob)
    (draw_ok counter drawn blocks first a b n m (λ fit. ap g.D.Shelf.told (c.in_ok-first.ensures.kept fit).1) c.in_ok-first.ensures.replaced
    c.in_ok-first.ensures.moments c.in_ok-first.ensures.fits c.in_ok-first.ensures.cause c.in_ok-first.ensures.ends)
    (put_ok {T = Place} session now (PutEntry id blob) place b d m k c.in_ok-place.ensures.moments c.in_ok-place.ensures.put c.in_ok-place.ensures.gains
    c.in_ok-place.ensures.rows c.in_ok-place.ensures.beside c.in_ok-place.ensures.done c.in_ok-place.ensures.cause c.in_ok-place.ensures.ends
    (entry_ends session now _ c.in_ok-place.ensures.ok)))

pub returns-clause-placed : goal.returns-clause-placed
returns-clause-placed g c =
    let a = g.D.Shelf.told c.args.depot.now in
    let b = g.D.Shelf.told c.draw.new.depot in
    let d = g.D.Shelf.told c.put.new.depot in
    let n = g.D.Shelf.faults c.args.depot.now in
    let m = g.D.Shelf.faults c.draw.new.depot in
    let session = c.args.session.now in
    let counter = c.args.counter.now in
    let drawn = c.draw.new.self in
    let first = c.in_ok-first.first in
    let place = c.in_ok-place.place in
    let blob = c.seal_again.new.buffer in
    let blocks = c.blocks_of-blocks.result in
    let whole = sealed c.args.keys.now c.args.mode counter.free (content_in c.args.keys.now c.args.is_blob c.args.buffer.now) in
    let same : blob ≡ whole =
    c.seal_again.ensures.blob ∙ ap (λ (f : ℕ). sealed c.args.keys.now c.args.mode f (content_in c.args.keys.now c.args.is_blob c.args.buffer.now))
    c.in_ok-first.ensures.drawn.0 in
    let fits : first < 2 ^ 64 = search rules in
    let taken = object_blocks c.args.keys.now c.args.mode counter drawn blocks first c.args.id.now (opened_in c.args.keys.now c.args.is_blob
    c.args.buffer.now) blob c.in_ok-first.ensures.drawn.0 fits
    c.seal_again.ensures.blob
    (opened_blocks c.args.keys.now c.args.is_blob c.args.buffer.now c.blocks_of-blocks.result c.requires.head c.blocks_of-blocks.ensures.blocks)
    c.in_ok-first.ensures.drawn.1 in
    subst (λ (x : List ℕ). Between a d (IsPlaced session counter x place)) same
    (object_placed session counter drawn (reserved_for counter blocks) blob place first a b d n m taken.1
    (draw_ok counter drawn blocks first a b n m (λ fit. ap g.D.Shelf.told (c.in_ok-first.ensures.kept fit).1) c.in_ok-first.ensures.replaced
    c.in_ok-first.ensures.moments c.in_ok-first.ensures.fits c.in_ok-first.ensures.cause c.in_ok-first.ensures.ends)
    c.in_ok-place.ensures.place c.in_ok-place.ensures.stays)

pub returns-clause-opens : goal.returns-clause-opens
returns-clause-opens g c = λ name named.
    let content = content_in c.args.keys.now c.args.is_blob c.args.buffer.now in
    let same : c.seal_again.new.buffer ≡ sealed c.args.keys.now c.args.mode c.args.counter.now.free content =
    c.seal_again.ensures.blob ∙ ap (λ (f : ℕ). sealed c.args.keys.now c.args.mode f content) c.in_ok-first.ensures.drawn.0 in
    subst (λ (x : List ℕ). OpensTo c.args.keys.now name x content) same (c.seal_again.ensures.opens name named)

pub returns-in_err-place-clause-untold : goal.returns-in_err-place-clause-untold
returns-in_err-place-clause-untold g c =
    told_both (g.D.Shelf.told c.args.depot.now) (g.D.Shelf.told c.draw.new.depot) (g.D.Shelf.told c.put.new.depot) c.in_ok-first.ensures.untold
    c.in_err-place.ensures.untold

pub returns-clause-untold : goal.returns-clause-untold
returns-clause-untold g c =
    told_both (g.D.Shelf.told c.args.depot.now) (g.D.Shelf.told c.draw.new.depot) (g.D.Shelf.told c.put.new.depot) c.in_ok-first.ensures.untold
    c.in_ok-place.ensures.untold

pub returns-in_err-first-clause-leaves : goal.returns-in_err-first-clause-leaves
returns-in_err-first-clause-leaves g c =
    let a = g.D.Shelf.told c.args.depot.now in
    let b = g.D.Shelf.told c.draw.new.depot in
    let session = c.args.session.now in
    let counter = c.args.counter.now in
    let fault = c.in_err-first.field-0.0 in
    let number = c.blocks_of-blocks.result in
    let unfit : FitIn counter number → ⊥ = λ fit. let kept = (c.in_err-first.ensures.kept fit).0 in let no : ⊥ = cc in no in
    err_is c.from_residual.result (nonce_refusal fault)
    (λ (r : Result Place StoreRefusal). IfErr r (LeavesBoth session counter session c.draw.new.self a b)) c.from_residual.ensures.1
    (undrawn_leaves session counter c.draw.new.self (reserved_for counter number) fault a b c.requires.counter c.in_err-first.ensures.refused
    (c.in_err-first.ensures.replaced unfit))

pub returns-in_err-first-clause-stops : goal.returns-in_err-first-clause-stops
returns-in_err-first-clause-stops g c =
    let a = g.D.Shelf.told c.args.depot.now in
    let b = g.D.Shelf.told c.draw.new.depot in
    let session = c.args.session.now in
    let counter = c.args.counter.now in
    let fault = c.in_err-first.field-0.0 in
    let number = c.blocks_of-blocks.result in
    let most = blocks_most (length c.args.buffer.now - 43) (let small = c.requires.size in omega (arith, small)) in
    let few : number ≤ 2097152 = subst (λ (n : ℕ). n ≤ 2097152) (sym c.blocks_of-blocks.ensures.blocks) (omega (arith, most)) in
    let unfit : FitIn counter number → ⊥ = λ fit. let kept = (c.in_err-first.ensures.kept fit).0 in let no : ⊥ = cc in no in
    err_is c.from_residual.result (nonce_refusal fault) (λ (r : Result Place StoreRefusal). IfErr r (λ f. Between a b (Stops session counter f)))
    c.from_residual.ensures.1
    (draw_stops session counter number (reserved_for counter number) fault a b few (c.in_err-first.ensures.replaced unfit) c.in_err-first.ensures.exhausted)

pub returns-in_err-place-clause-stops : goal.returns-in_err-place-clause-stops
returns-in_err-place-clause-stops g c =
    let a = g.D.Shelf.told c.args.depot.now in
    let b = g.D.Shelf.told c.draw.new.depot in
    let d = g.D.Shelf.told c.put.new.depot in
    let n = g.D.Shelf.faults c.args.depot.now in
    let m = g.D.Shelf.faults c.draw.new.depot in
    let session = c.args.session.now in
    let counter = c.args.counter.now in
    let drawn = c.draw.new.self in
    let first = c.in_ok-first.first in
    let blocks = c.blocks_of-blocks.result in
    let fits : first < 2 ^ 64 = search rules in
    let taken = object_blocks c.args.keys.now c.args.mode counter drawn blocks first c.args.id.now (opened_in c.args.keys.now c.args.is_blob
    c.args.buffer.now) c.seal_again.new.buffer
    c.in_ok-first.ensures.drawn.0 fits c.seal_again.ensures.blob
    (opened_blocks c.args.keys.now c.args.is_blob c.args.buffer.now c.blocks_of-blocks.result c.requires.head c.blocks_of-blocks.ensures.blocks)
    c.in_ok-first.ensures.drawn.1 in
    let fault = c.in_err-place.field-0.0 in
    err_is c.from_residual-in_err-place.result (write_refusal fault)
    (λ (r : Result Place StoreRefusal). IfErr r (λ f. Between a d (Stops session counter f))) c.from_residual-in_err-place.ensures.1
    (write_stops session counter fault a d (λ is. (c.in_err-place.ensures.numbers.0 (ap (fault_of {T = Place}) is)).1)
    (object_grows session counter drawn (reserved_for counter blocks) first a b d n m taken.1
    (draw_ok counter drawn blocks first a b n m (λ fit. ap g.D.Shelf.told (c.in_ok-first.ensures.kept fit).1) c.in_ok-first.ensures.replaced
    c.in_ok-first.ensures.moments c.in_ok-first.ensures.fits c.in_ok-first.ensures.cause c.in_ok-first.ensures.ends)
    c.in_err-place.ensures.stays))

pub returns-in_err-first-clause-few : goal.returns-in_err-first-clause-few
returns-in_err-first-clause-few g c =
    let last = c.args.session.now.last in
    let fault = c.in_err-first.field-0.0 in
    err_is c.from_residual.result (nonce_refusal fault) (λ (r : Result Place StoreRefusal). BeginsFew 1 last last (IsUsedUp {T = Place} r))
    c.from_residual.ensures.1 (few_undrawn {T = Place} 1 last fault)

pub returns-in_err-place-clause-few : goal.returns-in_err-place-clause-few
returns-in_err-place-clause-few g c =
    let session = c.args.session.now in
    let now = c.put.new.self in
    let fault = c.in_err-place.field-0.0 in
    err_is c.from_residual-in_err-place.result (write_refusal fault)
    (λ (r : Result Place StoreRefusal). BeginsFew 1 session.last now.last (IsUsedUp {T = Place} r)) c.from_residual-in_err-place.ensures.1
    (few_spent {T = Place} session now fault c.in_err-place.ensures.err (λ is. (c.in_err-place.ensures.numbers.0 (ap (fault_of {T = Place}) is)).1))

pub returns-clause-few : goal.returns-clause-few
returns-clause-few g c = few_entry {T = Place} c.args.session.now c.put.new.self _ c.in_ok-place.place c.in_ok-place.ensures.ok

pub returns-in_err-first-clause-writes : goal.returns-in_err-first-clause-writes
returns-in_err-first-clause-writes g c =
    let keys = c.args.keys.now in
    let counter = c.args.counter.now in
    let content = content_in keys c.args.is_blob c.args.buffer.now in
    let whole = sealed keys c.args.mode counter.free content in
    undrawn_writes (OpensNamed keys whole content) (PutEntry c.args.id.now whole ∷ []) c.args.session.now counter c.blocks_of-blocks.result
    c.in_err-first.field-0.0 (g.D.Shelf.told c.args.depot.now) (g.D.Shelf.told c.draw.new.depot)
    (λ fit. ap g.D.Shelf.told (c.in_err-first.ensures.kept fit).1) c.in_err-first.ensures.replaced

pub returns-in_err-place-clause-writes : goal.returns-in_err-place-clause-writes
returns-in_err-place-clause-writes g c =
    let a = g.D.Shelf.told c.args.depot.now in
    let b = g.D.Shelf.told c.draw.new.depot in
    let d = g.D.Shelf.told c.put.new.depot in
    let n = g.D.Shelf.faults c.args.depot.now in
    let m = g.D.Shelf.faults c.draw.new.depot in
    let keys = c.args.keys.now in
    let session = c.args.session.now in
    let counter = c.args.counter.now in
    let drawn = c.draw.new.self in
    let first = c.in_ok-first.first in
    let blocks = c.blocks_of-blocks.result in
    let id = c.args.id.now in
    let blob = c.seal_again.new.buffer in
    let content = content_in keys c.args.is_blob c.args.buffer.now in
    let same : blob ≡ sealed keys c.args.mode counter.free content =
    c.seal_again.ensures.blob ∙ ap (λ (f : ℕ). sealed keys c.args.mode f content) c.in_ok-first.ensures.drawn.0 in
    let order : counter.free ≤ drawn.free = omega (arith, ap (λ (k : Counter). k.free) c.in_ok-first.ensures.drawn.1) in
    subst (λ (x : List ℕ). Between a d (WritesMore (OpensNamed keys x content) (PutEntry id x ∷ []) session counter)) same
    (object_writes (OpensNamed keys blob content) (PutEntry id blob ∷ []) session counter drawn (reserved_for counter blocks) first a b d n m
    c.seal_again.ensures.opens order
    (draw_ok counter drawn blocks first a b n m (λ fit. ap g.D.Shelf.told (c.in_ok-first.ensures.kept fit).1) c.in_ok-first.ensures.replaced
    c.in_ok-first.ensures.moments c.in_ok-first.ensures.fits c.in_ok-first.ensures.cause c.in_ok-first.ensures.ends) c.in_err-place.ensures.writes)

pub returns-clause-writes : goal.returns-clause-writes
returns-clause-writes g c =
    let a = g.D.Shelf.told c.args.depot.now in
    let b = g.D.Shelf.told c.draw.new.depot in
    let d = g.D.Shelf.told c.put.new.depot in
    let n = g.D.Shelf.faults c.args.depot.now in
    let m = g.D.Shelf.faults c.draw.new.depot in
    let keys = c.args.keys.now in
    let session = c.args.session.now in
    let counter = c.args.counter.now in
    let drawn = c.draw.new.self in
    let first = c.in_ok-first.first in
    let blocks = c.blocks_of-blocks.result in
    let id = c.args.id.now in
    let blob = c.seal_again.new.buffer in
    let content = content_in keys c.args.is_blob c.args.buffer.now in
    let same : blob ≡ sealed keys c.args.mode counter.free content =
    c.seal_again.ensures.blob ∙ ap (λ (f : ℕ). sealed keys c.args.mode f content) c.in_ok-first.ensures.drawn.0 in
    let order : counter.free ≤ drawn.free = omega (arith, ap (λ (k : Counter). k.free) c.in_ok-first.ensures.drawn.1) in
    subst (λ (x : List ℕ). Between a d (WritesMore (OpensNamed keys x content) (PutEntry id x ∷ []) session counter)) same
    (object_writes (OpensNamed keys blob content) (PutEntry id blob ∷ []) session counter drawn (reserved_for counter blocks) first a b d n m
    c.seal_again.ensures.opens order
    (draw_ok counter drawn blocks first a b n m (λ fit. ap g.D.Shelf.told (c.in_ok-first.ensures.kept fit).1) c.in_ok-first.ensures.replaced
    c.in_ok-first.ensures.moments c.in_ok-first.ensures.fits c.in_ok-first.ensures.cause c.in_ok-first.ensures.ends) c.in_ok-place.ensures.writes)
