use Rattle.std.proofs.Common.{◌≡◌, ◌≤◌, ◌-◌, Ok, true, length, take, drop, ap, ◌∙◌, arith}
use Rattle.std.proofs.lemmas.List.{length-drop, take_all}
use Rattle.ferry_repo.specs.Opening.{repo_view}
use Rattle.ferry_compare.specs.Steps.{PassesOn, cursor_view}
use Rattle.ferry_compare.proofs.PassLemmas.{taken_passes, taken_strays}
use Rattle.ferry_compare.proofs.StepLemmas.{some_holds}
use Rattle.ferry_compare.proofs.cursor.Cursor.pass.Goals as goal

pub returns-in-None-clause-passes : goal.returns-in-None-clause-passes
returns-in-None-clause-passes g c =
    let bytes = c.args.bytes.now in
    let taken = c.loop.taken in
    let rest = take (length bytes - taken) (drop taken bytes) in
    let is : rest ≡ drop taken bytes = take_all (length bytes - taken) (drop taken bytes) (omega (arith, length-drop taken bytes)) in
    taken_strays (g.T.Shelf.told c.args.other.now) (repo_view c.args.target.now) c.args.others.now (g.T.Shelf.told c.loop.other)
    (repo_view c.loop.target) (cursor_view c.args.self.now) (cursor_view c.loop.self) (cursor_view c.loop.self) bytes rest taken
    c.loop.invariant.same c.loop.invariant.repo is c.loop.invariant.passes (c.in_ok-count.ensures.strays (ap (λ x. Ok x) c.in-None.is))

pub loop-preserved : goal.loop-preserved
loop-preserved g c =
    let later = g.T.Shelf.told c.loop.other in
    let after = repo_view c.loop.target in
    let others = c.args.others.now in
    let mid = cursor_view c.loop.self in
    let last = cursor_view c.go_on.new.self in
    let bytes = c.args.bytes.now in
    let taken = c.loop.taken in
    let rest = take (length bytes - taken) (drop taken bytes) in
    let is : rest ≡ drop taken bytes = take_all (length bytes - taken) (drop taken bytes) (omega (arith, length-drop taken bytes)) in
    let count : c.in-Some.count ≤ length rest =
    some_holds c.in_ok-count.field-0 c.in-Some.count (λ n. n ≤ length rest) c.in-Some.is c.in_ok-count.ensures.count in
    let passes : PassesOn later after others mid (take c.in-Some.count rest) true last =
    some_holds c.in_ok-count.field-0 c.in-Some.count (λ n. PassesOn later after others mid (take n rest) true last) c.in-Some.is
    c.in_ok-count.ensures.passes in
    record {
      passes = taken_passes (g.T.Shelf.told c.args.other.now) (repo_view c.args.target.now) others later after (cursor_view c.args.self.now) mid last
          bytes rest taken c.in-Some.count c.loop.invariant.same c.loop.invariant.repo is c.loop.invariant.passes passes;
      taken = omega (arith, count, ap length is, length-drop taken bytes, c.loop.invariant.taken);
      within = c.in_ok-count.ensures.within;
      fits = c.in_ok-count.ensures.fits;
      repo = c.in_ok-count.ensures.kept ∙ c.loop.invariant.repo;
      same = c.in_ok-count.ensures.same ∙ c.loop.invariant.same;
      faults = c.in_ok-count.ensures.cause ∙ c.loop.invariant.faults;
    }
