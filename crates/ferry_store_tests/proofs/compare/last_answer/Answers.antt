use Rattle.std.proofs.Common.{List, [], ◌∷◌, ℕ, Option, Some, None}
use Rattle.ferry_compare.specs.Compare.{StandsBeside, comparison_view, seen}
use Rattle.ferry_compare.specs.Matched.{AreMatched, Matched}
use Rattle.ferry_msgpack.specs.Tree.{nil}
use Rattle.ferry_repo.specs.Opening.{RepoState, repo_view}
use Rattle.ferry_repo.specs.Walk.{WalkState}
use Rattle.ferry_repo.specs.Whole.{WholeArchive}
use Rattle.ferry_store_tests.proofs.compare.last_answer.Goals as goal

-- of shelves that tell nothing nothing is said
untold : (target : RepoState) (name : List ℕ) (walk : Option WalkState) (front : WholeArchive)
    → StandsBeside None target (seen None target) name walk front
untold target name None front = tt
untold target name (Some walk) front = tt

known : (source target : RepoState) (matched : Matched) → AreMatched None source None target matched
known source target [] = tt
known source target (m ∷ matched) = (record { content = []; first = tt; second = tt }, known source target matched)

pub step-requires-clause-fits : goal.step-requires-clause-fits
step-requires-clause-fits c =
    let target = repo_view c.loop-steps.target in
    let state = comparison_view c.loop-steps.comparison in
    let front : WholeArchive = record { time = []; fields = nil; items = [] } in (
      seen None target,
      record {
        front = front;
        read = tt;
        beside = untold target state.name state.other front;
        matched = known (repo_view c.loop-steps.source) target state.matched;
      },
    )
