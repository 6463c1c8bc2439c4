use Rattle.std.proofs.Common.{rules, ◌≡◌, None, Ok, Result, IfErr, refl, subst}
use Rattle.ferry_carry.proofs.CauseLemmas.{line_refused, names_refused, none_missing, not_there}
use Rattle.ferry_carry.proofs.GrowNamedLemmas.{accepts_on}
use Rattle.ferry_piece.proofs.AddingLemmas.{target_apart}
use Rattle.ferry_carry.proofs.HeldLemmas.{telling_spent}
use Rattle.ferry_carry.proofs.ReportLemmas.{reports_whole, whole_err, whole_nothing, whole_untold, whole_unwritten}
use Rattle.ferry_piece.proofs.WorkLemmas.{err_is}
use Rattle.ferry_carry.proofs.chosen.carry.Goals as goal
use Rattle.ferry_carry.specs.Flight.{origin_of}
use Rattle.ferry_carry.specs.Lines.{total_line}
use Rattle.ferry_carry.specs.Refusals.{RefusesNames}
use Rattle.ferry_carry.specs.Counting.{nothing_carried}
use Rattle.ferry_carry.specs.Telling.{Reports, ReportsWhole}
use Rattle.ferry_piece.specs.declared.fault.CarryFault.{CarryFault}
use Rattle.ferry_piece.specs.declared.fault.CarryFault.TheVariants.{NotFound, Memory}
use Rattle.ferry_carry.specs.declared.options.Carried.{Carried}
use Rattle.ferry_repo.specs.Opening.{repo_view}
use Rattle.ferry_carry.proofs.StandLemmas.{stops_here}
use Rattle.ferry_piece.proofs.FewLemmas.{memory_unused}
use Rattle.ferry_carry.specs.States.{target_state, drawn_from}

pub returns-in_err-name-clause-works : goal.returns-in_err-name-clause-works
returns-in_err-name-clause-works g c =
    let x = g.E.Entropy.drawn c.args.entropy.now in
    let store = c.args.store.now in
    let names = c.args.names.now in
    let a = g.D.Shelf.told c.args.depot.now in
    let n = g.D.Shelf.faults c.args.depot.now in
    let from = origin_of (g.S.Shelf.told c.args.shelf.now) (repo_view c.args.source.now) c.args.options.now in
    err_is c.from_residual.result Memory (λ (r : Result Carried CarryFault). ReportsWhole from names (target_state a n store) (target_state a n store)
    (drawn_from x x) r) c.from_residual.ensures.1
    (whole_nothing from names store a n x x Memory (accepts_on store store c.requires.both.target.settled) refl tt (λ source. source) memory_unused)

pub returns-in-Some-clause-works : goal.returns-in-Some-clause-works
returns-in-Some-clause-works g c =
    let store = c.args.store.now in
    let names = c.args.names.now in
    whole_nothing
    (origin_of (g.S.Shelf.told c.args.shelf.now) (repo_view c.args.source.now) c.args.options.now) names store
    (g.D.Shelf.told c.args.depot.now) (g.D.Shelf.faults c.args.depot.now) (g.E.Entropy.drawn c.args.entropy.now) (g.E.Entropy.drawn c.args.entropy.now)
    (NotFound c.new.result) (accepts_on store store c.requires.both.target.settled) refl
    tt (λ source. source) (λ e. let no : ⊥ = cc in no)

pub returns-in_err-carry_all-clause-works : goal.returns-in_err-carry_all-clause-works
returns-in_err-carry_all-clause-works g c =
    let store = c.args.store.now in
    let now = c.carry_all.new.store in
    let names = c.args.names.now in
    let a = g.D.Shelf.told c.args.depot.now in
    let b = g.D.Shelf.told c.carry_all.new.depot in
    let n = g.D.Shelf.faults c.args.depot.now in
    let m = g.D.Shelf.faults c.carry_all.new.depot in
    let fault = c.in_err-carry_all.field-0.0 in
    let from = origin_of (g.S.Shelf.told c.args.shelf.now) (repo_view c.args.source.now) c.args.options.now in
    err_is c.from_residual-in_err-carry_all.result fault (λ (r : Result Carried CarryFault). ReportsWhole from names (target_state a n store) (target_state
    b m now) (drawn_from (g.E.Entropy.drawn c.args.entropy.now) (g.E.Entropy.drawn c.carry_all.new.entropy)) r)
    c.from_residual-in_err-carry_all.ensures.1
    (whole_err from names store now _ _ a b n m (g.E.Entropy.drawn c.args.entropy.now) (g.E.Entropy.drawn c.carry_all.new.entropy) fault
    c.in_err-carry_all.ensures.works)

pub returns-in_err-line-clause-works : goal.returns-in_err-line-clause-works
returns-in_err-line-clause-works g c =
    let store = c.args.store.now in
    let now = c.carry_all.new.store in
    let names = c.args.names.now in
    let a = g.D.Shelf.told c.args.depot.now in
    let b = g.D.Shelf.told c.carry_all.new.depot in
    let n = g.D.Shelf.faults c.args.depot.now in
    let m = g.D.Shelf.faults c.carry_all.new.depot in
    let from = origin_of (g.S.Shelf.told c.args.shelf.now) (repo_view c.args.source.now) c.args.options.now in
    err_is c.from_residual-in_err-line.result Memory (λ (r : Result Carried CarryFault). ReportsWhole from names (target_state a n store) (target_state b m
    now) (drawn_from (g.E.Entropy.drawn c.args.entropy.now) (g.E.Entropy.drawn c.carry_all.new.entropy)) r)
    c.from_residual-in_err-line.ensures.1
    (whole_unwritten from c.nothing-carried.result c.carry_all.new.carried names store now a b n m (g.E.Entropy.drawn c.args.entropy.now)
    (g.E.Entropy.drawn c.carry_all.new.entropy) c.in_ok-carry_all.ensures.works)

pub returns-in_err-tell-clause-works : goal.returns-in_err-tell-clause-works
returns-in_err-tell-clause-works g c =
    let store = c.args.store.now in
    let now = c.carry_all.new.store in
    let names = c.args.names.now in
    let a = g.D.Shelf.told c.args.depot.now in
    let b = g.D.Shelf.told c.carry_all.new.depot in
    let d = g.D.Shelf.told c.tell.new.depot in
    let n = g.D.Shelf.faults c.args.depot.now in
    let m = g.D.Shelf.faults c.carry_all.new.depot in
    let k = g.D.Shelf.faults c.tell.new.depot in
    let carried = c.carry_all.new.carried in
    let line = c.deref.result.now in
    let is : line ≡ total_line carried = search rules in
    let fault = c.in_err-tell.field-0.0 in
    let ensures = c.in_ok-carry_all.ensures in
    let from = origin_of (g.S.Shelf.told c.args.shelf.now) (repo_view c.args.source.now) c.args.options.now in
    err_is c.from_residual-in_err-tell.result fault (λ (r : Result Carried CarryFault). ReportsWhole from names (target_state a n store) (target_state d k
    now) (drawn_from (g.E.Entropy.drawn c.args.entropy.now) (g.E.Entropy.drawn c.carry_all.new.entropy)) r)
    c.from_residual-in_err-tell.ensures.1
    (whole_untold from c.nothing-carried.result carried names line store now a b d n m k (g.E.Entropy.drawn c.args.entropy.now) (g.E.Entropy.drawn
    c.carry_all.new.entropy)
    (g.E.Entropy.drawn c.carry_all.new.entropy) fault is c.requires.both.target.settled (accepts_on now now ensures.both.target.settled)
    ensures.works (telling_spent fault c.in_err-tell.ensures.target.telling) (target_apart fault c.in_err-tell.ensures.target.refusal.target)
    c.in_err-tell.ensures.target.telling
    c.in_err-tell.ensures.works)

pub returns-clause-works : goal.returns-clause-works
returns-clause-works g c =
    let store = c.args.store.now in
    let now = c.carry_all.new.store in
    let names = c.args.names.now in
    let a = g.D.Shelf.told c.args.depot.now in
    let b = g.D.Shelf.told c.carry_all.new.depot in
    let d = g.D.Shelf.told c.tell.new.depot in
    let n = g.D.Shelf.faults c.args.depot.now in
    let m = g.D.Shelf.faults c.carry_all.new.depot in
    let k = g.D.Shelf.faults c.tell.new.depot in
    let carried = c.carry_all.new.carried in
    let line = c.deref.result.now in
    let is : line ≡ total_line carried = search rules in
    let ensures = c.in_ok-carry_all.ensures in
    let from = origin_of (g.S.Shelf.told c.args.shelf.now) (repo_view c.args.source.now) c.args.options.now in
    let nothing : c.nothing-carried.result ≡ nothing_carried = c.nothing-carried.ensures in
    reports_whole from carried names line store now a b d n m k (g.E.Entropy.drawn c.args.entropy.now) (g.E.Entropy.drawn c.carry_all.new.entropy) is
    c.requires.both.target.settled (accepts_on now now ensures.both.target.settled)
    (subst (λ (before : Carried). Reports from names (target_state a n store) (target_state b m now) before carried (drawn_from (g.E.Entropy.drawn
    c.args.entropy.now) (g.E.Entropy.drawn c.carry_all.new.entropy)) (Ok tt)) nothing ensures.works) c.in_ok-tell.ensures.works

pub returns-in_err-carry_all-clause-refused : goal.returns-in_err-carry_all-clause-refused
returns-in_err-carry_all-clause-refused g c =
    let none : c.missing_name.result ≡ None = search rules in
    let a = g.D.Shelf.told c.args.depot.now in
    let b = g.D.Shelf.told c.carry_all.new.depot in
    let store = c.args.store.now in
    let now = c.carry_all.new.store in
    let names = c.args.names.now in
    let fault = c.in_err-carry_all.field-0.0 in
    let from = origin_of (g.S.Shelf.told c.args.shelf.now) (repo_view c.args.source.now) c.args.options.now in
    err_is c.from_residual-in_err-carry_all.result fault (λ (r : Result Carried CarryFault). IfErr r (RefusesNames from a store b now names))
    c.from_residual-in_err-carry_all.ensures.1
    (names_refused from a b store now names fault (c.missing_name.ensures.found none) c.in_err-carry_all.ensures.refused)

pub returns-in_err-carry_all-clause-missing : goal.returns-in_err-carry_all-clause-missing
returns-in_err-carry_all-clause-missing g c = (
  λ place name there lacks.
      let none : c.missing_name.result ≡ None = search rules in absurd (not_there lacks (c.missing_name.ensures.found none place name there)),
  λ missing is.
      let none : c.missing_name.result ≡ None = search rules in
      let from = origin_of (g.S.Shelf.told c.args.shelf.now) (repo_view c.args.source.now) c.args.options.now in
      absurd (none_missing {T = Carried} from (g.D.Shelf.told c.args.depot.now) (g.D.Shelf.told c.carry_all.new.depot) c.args.store.now
      c.carry_all.new.store c.args.names.now c.from_residual-in_err-carry_all.result c.in_err-carry_all.field-0.0 missing
      (c.missing_name.ensures.found none) c.in_err-carry_all.ensures.refused c.from_residual-in_err-carry_all.ensures.1 is),
)

pub returns-in_err-tell-clause-missing : goal.returns-in_err-tell-clause-missing
returns-in_err-tell-clause-missing g c = (
  λ place name there lacks.
      let none : c.missing_name.result ≡ None = search rules in absurd (not_there lacks (c.missing_name.ensures.found none place name there)),
  search rules,
)

pub returns-clause-missing : goal.returns-clause-missing
returns-clause-missing g c = (
  λ place name there lacks.
      let none : c.missing_name.result ≡ None = search rules in absurd (not_there lacks (c.missing_name.ensures.found none place name there)),
  search rules,
)

pub returns-in_err-line-clause-refused : goal.returns-in_err-line-clause-refused
returns-in_err-line-clause-refused g c =
    let a = g.D.Shelf.told c.args.depot.now in
    let b = g.D.Shelf.told c.carry_all.new.depot in
    let from = origin_of (g.S.Shelf.told c.args.shelf.now) (repo_view c.args.source.now) c.args.options.now in
    line_refused {T = Carried} from a b c.args.store.now c.carry_all.new.store c.args.names.now (repo_view c.args.store.now.repo).keys
    c.from_residual-in_err-line.result Memory c.from_residual-in_err-line.ensures.1 refl refl tt

pub returns-in_err-tell-clause-refused : goal.returns-in_err-tell-clause-refused
returns-in_err-tell-clause-refused g c =
    let a = g.D.Shelf.told c.args.depot.now in
    let d = g.D.Shelf.told c.tell.new.depot in
    let from = origin_of (g.S.Shelf.told c.args.shelf.now) (repo_view c.args.source.now) c.args.options.now in
    line_refused {T = Carried} from a d c.args.store.now c.carry_all.new.store c.args.names.now (repo_view c.carry_all.new.store.repo).keys
    c.from_residual-in_err-tell.result c.in_err-tell.field-0.0 c.from_residual-in_err-tell.ensures.1 c.in_ok-carry_all.ensures.both.target.most_kept.keys
    c.in_err-tell.ensures.target.telling c.in_err-tell.ensures.target.stops

pub returns-in-Some-clause-stops : goal.returns-in-Some-clause-stops
returns-in-Some-clause-stops g c = record {
  limit = search rules;
  chunk = search rules;
  stands =
      λ _.
      let store = c.args.store.now in
      let from = origin_of (g.S.Shelf.told c.args.shelf.now) (repo_view c.args.source.now) c.args.options.now in
      stops_here from c.args.names.now store (g.D.Shelf.told c.args.depot.now) (accepts_on store store c.requires.both.target.settled);
}
