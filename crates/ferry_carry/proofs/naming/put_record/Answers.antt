use Rattle.std.proofs.Common.{ℕ, inl, List, [], ◌∷◌, Result, IfErr, refl, Err, ap}
use Rattle.ferry_carry.proofs.LeftLemmas.{left_here, targets_leave}
use Rattle.ferry_carry.proofs.NamingLemmas.{record_put}
use Rattle.ferry_piece.proofs.WorkLemmas.{err_is, gathered_nothing}
use Rattle.ferry_carry.proofs.naming.put_record.Goals as goal
use Rattle.ferry_piece.specs.Adding.{AddsOn}
use Rattle.ferry_carry.specs.Naming.{PutsRecord}
use Rattle.ferry_carry.specs.Refusals.{Leaves}
use Rattle.ferry_piece.specs.Puts.{Record, addition}
use Rattle.ferry_carry.specs.Calls.{AddsTo}
use Rattle.ferry_piece.specs.declared.fault.CarryFault.{CarryFault}
use Rattle.ferry_manifest.specs.Record.Text.{archive_view}
use Rattle.ferry_repo.specs.Opening.{repo_view}

pub returns-in_err-text-clause-put : goal.returns-in_err-text-clause-put
returns-in_err-text-clause-put g c =
    let store = c.args.store.now in
    let keys = (repo_view store.repo).keys in
    let a = g.D.Shelf.told c.args.depot.now in
    let n = g.D.Shelf.faults c.args.depot.now in
    let fault = c.in_err-text.field-0.0 in (
      [],
      (
        λ most checkpoint pending.
            err_is c.from_residual.result fault (λ (r : Result (List ℕ) CarryFault). AddsOn most store [] store a a n n r) c.from_residual.ensures.1
            (gathered_nothing {T = List ℕ} most store a n fault c.in_err-text.ensures.refused.nothing.still c.in_err-text.ensures.refused.nothing.unbroken
            (λ e. c.in_err-text.ensures.refused.nothing.unwritten (ap (λ (f : CarryFault). Err f) e))),
        (
          inl refl,
          err_is c.from_residual.result fault (PutsRecord keys (archive_view c.args.archive.now) [] (g.E.Entropy.drawn c.args.entropy.now)
              (g.E.Entropy.drawn c.tagged_record.new.entropy)) c.from_residual.ensures.1 (inl c.in_err-text.ensures.refused.nothing.unbroken),
        ),
      ),
    )

pub returns-clause-put : goal.returns-clause-put
returns-clause-put g c =
    let keys = (repo_view c.args.store.now.repo).keys in
    let archive = archive_view c.args.archive.now in
    let text = c.deref.result.now in
    let works = c.add_record.ensures.works in
    let made = c.in_ok-text.ensures.text in
    let more = addition Record text works.0 ∷ [] in (
      more,
      (
        works.1,
        record_put c.add_record.result keys c.keys.result.now made.0 text c.in_ok-text.text.items works.0 archive (g.E.Entropy.drawn c.args.entropy.now)
            (g.E.Entropy.drawn c.tagged_record.new.entropy) c.keys.ensures.keys c.deref.ensures.value made.1.0 made.1.1 c.in_ok-text.ensures.refused.reads
            c.in_ok-text.ensures.refused.small c.add_record.ensures.id,
      ),
    )

pub returns-in_err-text-clause-target : goal.returns-in_err-text-clause-target
returns-in_err-text-clause-target g c =
    let a = g.D.Shelf.told c.args.depot.now in
    let store = c.args.store.now in
    err_is c.from_residual.result c.in_err-text.field-0.0 (λ (r : Result (List ℕ) CarryFault). AddsTo store a store r) c.from_residual.ensures.1 (record {
      rest = tt;
      fits = tt;
      unspent = tt;
      stops = c.in_err-text.ensures.refused.nothing.stops a (repo_view store.repo).keys;
    })

pub returns-in_err-text-clause-left : goal.returns-in_err-text-clause-left
returns-in_err-text-clause-left g c =
    λ most pending.
    let store = c.args.store.now in
    let a = g.D.Shelf.told c.args.depot.now in
    err_is c.from_residual.result c.in_err-text.field-0.0 (λ (r : Result (List ℕ) CarryFault). IfErr r (Leaves most store a store)) c.from_residual.ensures.1
    (λ _. left_here most store a c.requires.target.fits c.requires.target.unspent pending)

pub returns-clause-left : goal.returns-clause-left
returns-clause-left g c =
    λ most pending.
    targets_leave {T = List ℕ} most c.args.store.now (g.D.Shelf.told c.add_record.new.depot) c.add_record.new.store c.add_record.result
    c.add_record.ensures.target.refusal.target
