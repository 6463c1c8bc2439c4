use Rattle.std.proofs.Common.{◌≡◌, true, not, ◌∙◌, ap, sym, subst, ℕ, List}
use Rattle.std.specs.BTreeSet.{Updates, contains}
use Rattle.ferry_blob.specs.Blob.{content_id}
use Rattle.ferry_log.specs.Live.{key_cmp}
use Rattle.ferry_mac.specs.declared.keys.Keys.{Keys}
use Rattle.ferry_plan.proofs.TallyLemmas.{knows_live, knows_noted}
use Rattle.ferry_plan.proofs.pieces.note.Goals as goal
use Rattle.ferry_plan.specs.Tally.{Lacks}
use Rattle.ferry_repo.specs.Opening.{repo_view}

pub returns-then-not-is_lacking-clause-knows : goal.returns-then-not-is_lacking-clause-knows
returns-then-not-is_lacking-clause-knows c kind added knows =
    let target = repo_view c.args.target.now in
    let piece = c.args.piece.now in
    let id : c.id_of-id.result ≡ content_id target.keys piece =
    c.id_of-id.ensures.id ∙ ap (λ (keys : Keys). content_id keys piece) c.keys.ensures.keys in
    knows_live target.keys target.log c.args.known.now kind piece added
    (λ lacks. (let is : c.is_lacking.result ≡ true = c.is_lacking.ensures.lacks.1 (subst (Lacks target.log) (sym id) lacks) in
    let never : ⊥ = cc in never)) knows

pub returns-clause-knows : goal.returns-clause-knows
returns-clause-knows c kind added knows =
    let target = repo_view c.args.target.now in
    let piece = c.args.piece.now in
    let known = c.args.known.now in
    let known_now = c.insert.new.self in
    let new = c.in_ok-new.new in
    let id : c.id_of-id.result ≡ content_id target.keys piece =
    c.id_of-id.ensures.id ∙ ap (λ (keys : Keys). content_id keys piece) c.keys.ensures.keys in
    let lacks = c.is_lacking.ensures.lacks.0 (let is : c.is_lacking.result ≡ true = cc in is) in
    knows_noted target.keys target.log known known_now kind piece new added (subst (Lacks target.log) id lacks)
    (subst (λ (key : List ℕ). new ≡ not (contains key_cmp known key)) id c.in_ok-new.ensures.added)
    (subst (λ (key : List ℕ). Updates key_cmp known known_now key true) id c.in_ok-new.ensures.updates) knows
