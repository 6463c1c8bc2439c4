use Rattle.std.proofs.Common.{false, ℕ, List, drop, ap, ◌∙◌, subst, arith, [], ◌∷◌}
use Rattle.ferry_stops.proofs.TellLemmas.{told_none}
use Rattle.ferry_store.proofs.AddLemmas.{same_added}
use Rattle.ferry_store.proofs.PutLemmas.{keeps_here}
use Rattle.ferry_store.proofs.StepLemmas.{did_none, did_nothing}
use Rattle.ferry_store.proofs.store.Store.add.Goals as goal
use Rattle.ferry_store.specs.Adding.{Adds, entry_of}
use Rattle.ferry_store.specs.Fault.{depot_failed}
use Rattle.ferry_store.specs.State.{Did, KeepsSound}
use Rattle.ferry_store.specs.declared.content.Added.{Added}
use Rattle.ferry_store.proofs.FewLemmas.{few_memory, few_more, few_none}
use Rattle.ferry_store.specs.declared.store.Store.{Store}
use Rattle.ferry_store.proofs.WritingLemmas.{none_writes}
use Rattle.ferry_store.specs.Writing.{CanPut, WritesContent}
use Rattle.ferry_disk.specs.Moments.{Between}

pub returns-then-is_known-clause-did : goal.returns-then-is_known-clause-did
returns-then-is_known-clause-did g c =
    let store = c.args.self.now in
    let id = c.id_of-id.result in
    let added : Added = record { id = id; new = false } in
    did_none (KeepsSound store.session store.counter) (Adds store c.args.content.now store) (g.D.Shelf.told c.args.depot.now)
    (g.D.Shelf.faults c.args.depot.now) added (keeps_here store.session store.counter) (λ h. same_added store c.args.content.now id h)

pub returns-in-Ok-clause-did : goal.returns-in-Ok-clause-did
returns-in-Ok-clause-did g c =
    let store = c.args.self.now in
    let now = c.add_new.new.self in
    let a = g.D.Shelf.told c.args.depot.now in
    let b = g.D.Shelf.told c.add_new.new.depot in
    let n = g.D.Shelf.faults c.args.depot.now in
    let m = g.D.Shelf.faults c.add_new.new.depot in
    subst (λ (content : List ℕ). Did {T = Added} (KeepsSound store.session store.counter) (Adds store content now) a b n m c.add_new.result)
    (ap (drop 43) c.deref_mut.ensures.value ∙ c.in-Ok.ensures.buffer.0) c.add_new.ensures.did

pub returns-in-Err-clause-did : goal.returns-in-Err-clause-did
returns-in-Err-clause-did g c =
    let store = c.args.self.now in
    did_nothing {T = Added} (KeepsSound store.session store.counter) (Adds store c.args.content.now c.spend.new.self) (g.D.Shelf.told c.args.depot.now)
    (g.D.Shelf.faults c.args.depot.now) c.spend.result (ap depot_failed (c.spend.ensures.same ∙ c.in-Err.ensures.refused))
    (keeps_here store.session store.counter)

pub returns-in-Err-clause-untold : goal.returns-in-Err-clause-untold
returns-in-Err-clause-untold g c = told_none (g.D.Shelf.told c.args.depot.now)

pub returns-clause-did : goal.returns-clause-did
returns-clause-did g c = c.add_old.ensures.did c.args.content.now

pub returns-then-is_known-clause-untold : goal.returns-then-is_known-clause-untold
returns-then-is_known-clause-untold g c = told_none (g.D.Shelf.told c.args.depot.now)

pub returns-in-Err-clause-few : goal.returns-in-Err-clause-few
returns-in-Err-clause-few g c =
    few_memory {T = Added} 1 c.args.self.now.session.last c.spend.new.self.session.last c.spend.result
    (c.spend.ensures.same ∙ c.in-Err.ensures.refused) (ap (λ (s : Store). s.session.last) c.spend.ensures.spent)

pub returns-then-is_known-clause-few : goal.returns-then-is_known-clause-few
returns-then-is_known-clause-few g c = few_none 1 c.args.self.now.session.last _ (λ e. let no : ⊥ = cc in no)

pub returns-clause-few : goal.returns-clause-few
returns-clause-few g c = few_more 0 1 c.args.self.now.session.last c.add_old.new.self.session.last _ _ (omega arith) (λ e. e) c.add_old.ensures.few

pub returns-in-Err-clause-writes : goal.returns-in-Err-clause-writes
returns-in-Err-clause-writes g c =
    let store = c.args.self.now in
    let content = c.args.content.now in
    none_writes (CanPut store content) (entry_of store content ∷ []) store.session store.counter (g.D.Shelf.told c.args.depot.now)

pub returns-then-is_known-clause-writes : goal.returns-then-is_known-clause-writes
returns-then-is_known-clause-writes g c =
    let store = c.args.self.now in
    let content = c.args.content.now in
    none_writes (CanPut store content) (entry_of store content ∷ []) store.session store.counter (g.D.Shelf.told c.args.depot.now)

pub returns-in-Ok-clause-writes : goal.returns-in-Ok-clause-writes
returns-in-Ok-clause-writes g c =
    subst (λ (content : List ℕ). Between (g.D.Shelf.told c.args.depot.now) (g.D.Shelf.told c.add_new.new.depot) (WritesContent c.args.self.now content))
    (ap (drop 43) c.deref_mut.ensures.value ∙ c.in-Ok.ensures.buffer.0) c.add_new.ensures.writes

pub returns-clause-writes : goal.returns-clause-writes
returns-clause-writes g c = c.add_old.ensures.writes c.args.content.now
