use Rattle.std.proofs.Common.{rules, ◌≡◌, [], Result, IfErr}
use Rattle.ferry_carry.specs.Telling.{KeepsReported}
use Rattle.ferry_carry.specs.declared.options.Carried.{Carried}
use Rattle.ferry_disk.specs.Act.{files_now}
use Rattle.ferry_piece.proofs.WorkLemmas.{err_is}
use Rattle.ferry_piece.specs.Work.{Works}
use Rattle.ferry_piece.specs.declared.fault.CarryFault.{CarryFault}
use Rattle.ferry_repo.specs.Opening.{repo_view, OpensFilesTo}
use Rattle.ferry_write.specs.Session.{SettlesFirst}
use Rattle.ferry_run_drill.proofs.CopyLemmas.{copied_works}
use Rattle.ferry_run_drill.proofs.DropLemmas.{carried_drops}
use Rattle.ferry_run_drill.proofs.WorkLemmas.{copied_tells, made_fits, made_leaves, never_failed, unmade_works}
use Rattle.ferry_run_drill.specs.Steps.{CopiesNames, drill_origin}
use Rattle.ferry_gen.specs.Source.{source_secret}
use Rattle.ferry_run_transfer.specs.Transfer.{chosen_of}
use Rattle.ferry_run_drill.proofs.DoneLemmas.{carried_ends}
use Rattle.ferry_run_drill.specs.Complete.{EndsFrom}
use Rattle.ferry_run_drill.proofs.fill.copy_names.Goals as goal

pub carry-requires-clause-both : goal.carry-requires-clause-both
carry-requires-clause-both g c = record {
  source = search rules;
  target = record {
    pending = search rules;
    unspent = search rules;
    fits =
        made_fits c.in_ok-store.store (g.D.Shelf.told c.args.target.now) (g.D.Shelf.told c.make_target.new.target) (g.D.Shelf.faults c.args.target.now)
        (g.D.Shelf.faults c.make_target.new.target) c.in_ok-store.ensures.works;
    packable = search rules;
    settled = search rules;
  };
}

pub returns-in_err-store-clause-works : goal.returns-in_err-store-clause-works
returns-in_err-store-clause-works g c =
    let source = files_now c.args.source.now.history in
    let repo = repo_view c.args.repo.now in
    let fault = c.in_err-store.field-0.0 in
    err_is c.from_residual.result fault
    (λ (r : Result Carried CarryFault). Works SettlesFirst (λ carried. CopiesNames source repo c.args.names.now carried) (g.D.Shelf.told c.args.target.now)
    (g.D.Shelf.told c.make_target.new.target) (g.D.Shelf.faults c.args.target.now) (g.D.Shelf.faults c.make_target.new.target) r) c.from_residual.ensures.1
    (unmade_works source repo c.args.names.now (g.D.Shelf.told c.args.target.now) (g.D.Shelf.told c.make_target.new.target)
    (g.D.Shelf.faults c.args.target.now) (g.D.Shelf.faults c.make_target.new.target) fault c.in_err-store.ensures.works)

pub returns-clause-works : goal.returns-clause-works
returns-clause-works g c =
    copied_works (files_now c.args.source.now.history) (repo_view c.args.repo.now) c.args.names.now c.in_ok-store.store c.carry.new.store
    (g.D.Shelf.told c.args.target.now) (g.D.Shelf.told c.make_target.new.target) (g.D.Shelf.told c.carry.new.depot)
    (g.D.Shelf.faults c.args.target.now) (g.D.Shelf.faults c.make_target.new.target) (g.D.Shelf.faults c.carry.new.depot)
    (g.E.Entropy.drawn c.make_target.new.entropy) (g.E.Entropy.drawn c.carry.new.entropy) c.carry.result c.in_ok-store.ensures.works c.carry.ensures.works
    c.carry.ensures.both.target.settled c.carry.ensures.both.target.ended c.in_ok-store.ensures.pending

pub returns-clause-start : goal.returns-clause-start
returns-clause-start g c =
    copied_tells (files_now c.args.source.now.history) (repo_view c.args.repo.now) c.args.names.now c.in_ok-store.store c.carry.new.store
    (g.D.Shelf.told c.args.target.now) (g.D.Shelf.told c.make_target.new.target) (g.D.Shelf.told c.carry.new.depot)
    (g.D.Shelf.faults c.args.target.now) (g.D.Shelf.faults c.make_target.new.target) (g.D.Shelf.faults c.carry.new.depot)
    (g.E.Entropy.drawn c.make_target.new.entropy) (g.E.Entropy.drawn c.carry.new.entropy) c.carry.result c.in_ok-store.ensures.works c.carry.ensures.works
    c.carry.ensures.refused

pub returns-clause-kept : goal.returns-clause-kept
returns-clause-kept g c =
    made_leaves c.in_ok-store.store (g.D.Shelf.told c.args.target.now) (g.D.Shelf.told c.make_target.new.target) (g.D.Shelf.told c.carry.new.depot)
    (g.D.Shelf.faults c.args.target.now) (g.D.Shelf.faults c.make_target.new.target)
    (KeepsReported (drill_origin (files_now c.args.source.now.history) (repo_view c.args.repo.now)) c.args.names.now c.in_ok-store.store
    c.carry.ensures.works.added) c.in_ok-store.ensures.works c.carry.ensures.works.works.each

pub returns-clause-drops : goal.returns-clause-drops
returns-clause-drops g c =
    carried_drops (files_now c.args.source.now.history) (repo_view c.args.repo.now) c.args.names.now c.in_ok-store.store c.carry.new.store
    (g.D.Shelf.told c.args.target.now) (g.D.Shelf.told c.make_target.new.target) (g.D.Shelf.told c.carry.new.depot)
    (g.D.Shelf.faults c.args.target.now) (g.D.Shelf.faults c.make_target.new.target) (g.D.Shelf.faults c.carry.new.depot)
    (g.E.Entropy.drawn c.args.entropy.now) (g.E.Entropy.drawn c.make_target.new.entropy) (g.E.Entropy.drawn c.carry.new.entropy) c.carry.result
    c.in_ok-store.ensures.works c.carry.ensures.works c.in_ok-store.ensures.drops

pub returns-clause-own : goal.returns-clause-own
returns-clause-own g c = never_failed c.carry.result c.carry.ensures.both.source.cause

pub returns-in_err-store-clause-completes : goal.returns-in_err-store-clause-completes
returns-in_err-store-clause-completes g c =
    let a = g.D.Shelf.told c.args.target.now in
    let b = g.D.Shelf.told c.make_target.new.target in
    let files = files_now c.args.source.now.history in
    let repo = repo_view c.args.repo.now in
    err_is c.from_residual.result c.in_err-store.field-0.0
    (λ (r : Result Carried CarryFault). IfErr r (λ (f : CarryFault). OpensFilesTo files source_secret repo → c.args.names.now ≡ chosen_of [] repo.manifest
    → EndsFrom files a b f)) c.from_residual.ensures.1 (λ opens chosen count most is plain apart. c.in_err-store.ensures.completes)

pub returns-clause-completes : goal.returns-clause-completes
returns-clause-completes g c =
    carried_ends (files_now c.args.source.now.history) (repo_view c.args.repo.now) c.args.names.now c.in_ok-store.store c.carry.new.store
    (g.D.Shelf.told c.args.target.now) (g.D.Shelf.told c.make_target.new.target) (g.D.Shelf.told c.carry.new.depot)
    (g.D.Shelf.faults c.args.target.now) (g.D.Shelf.faults c.make_target.new.target) (g.D.Shelf.faults c.carry.new.depot) _ _ c.carry.result
    c.in_ok-store.ensures.works c.carry.ensures.works (never_failed c.carry.result c.carry.ensures.both.source.cause) c.carry.ensures.stops
    c.carry.ensures.refused
