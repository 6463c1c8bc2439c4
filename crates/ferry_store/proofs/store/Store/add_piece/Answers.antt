use Rattle.std.proofs.Common.{false, arith, [], ◌∷◌}
use Rattle.ferry_stops.proofs.TellLemmas.{told_none}
use Rattle.ferry_store.proofs.AddLemmas.{same_added}
use Rattle.ferry_store.proofs.PutLemmas.{keeps_here}
use Rattle.ferry_store.proofs.StepLemmas.{did_none}
use Rattle.ferry_store.proofs.store.Store.add_piece.Goals as goal
use Rattle.ferry_store.specs.Adding.{Adds, entry_of}
use Rattle.ferry_repo.specs.Opening.{repo_view}
use Rattle.ferry_store.specs.Piece.{content_in}
use Rattle.ferry_store.specs.State.{KeepsSound}
use Rattle.ferry_store.specs.declared.content.Added.{Added}
use Rattle.ferry_store.proofs.FewLemmas.{few_more, few_none}
use Rattle.ferry_store.proofs.WritingLemmas.{none_writes}
use Rattle.ferry_store.specs.Writing.{CanPut}

pub returns-then-is_known-clause-did : goal.returns-then-is_known-clause-did
returns-then-is_known-clause-did g c =
    let store = c.args.self.now in
    let id = c.args.id in
    let content = content_in (repo_view store.repo).keys c.args.is_blob c.args.buffer.now in
    let added : Added = record { id = id; new = false } in
    did_none (KeepsSound store.session store.counter) (Adds store content store) (g.D.Shelf.told c.args.depot.now)
    (g.D.Shelf.faults c.args.depot.now) added (keeps_here store.session store.counter) (λ h. same_added store content id h)

pub returns-clause-did : goal.returns-clause-did
returns-clause-did g c = c.add_old.ensures.did (content_in (repo_view c.args.self.now.repo).keys c.args.is_blob c.args.buffer.now)

pub returns-then-is_known-clause-untold : goal.returns-then-is_known-clause-untold
returns-then-is_known-clause-untold g c = told_none (g.D.Shelf.told c.args.depot.now)

pub returns-then-is_known-clause-few : goal.returns-then-is_known-clause-few
returns-then-is_known-clause-few g c = few_none 1 c.args.self.now.session.last _ (λ e. let no : ⊥ = cc in no)

pub returns-clause-few : goal.returns-clause-few
returns-clause-few g c = few_more 0 1 c.args.self.now.session.last c.add_old.new.self.session.last _ _ (omega arith) (λ e. e) c.add_old.ensures.few

pub returns-then-is_known-clause-writes : goal.returns-then-is_known-clause-writes
returns-then-is_known-clause-writes g c =
    let store = c.args.self.now in
    let content = content_in (repo_view store.repo).keys c.args.is_blob c.args.buffer.now in
    none_writes (CanPut store content) (entry_of store content ∷ []) store.session store.counter (g.D.Shelf.told c.args.depot.now)
