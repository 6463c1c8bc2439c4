use Rattle.std.proofs.Common.{refl, arith}
use Rattle.ferry_log.proofs.LiveLemmas.{taken_put, taken_delete, taken_commit}
use Rattle.ferry_log.proofs.live.take_entry.Goals as goal

pub returns-in_ok-insert-in-0 : goal.returns-in_ok-insert-in-0
returns-in_ok-insert-in-0 c = record {
  taken = λ entry fits is.
      taken_put c.args.segment c.args.at c.args.head.now _ c.args.live.now.entries c.insert.new.self.entries entry fits is c.in-0.is refl
      c.in_ok-insert-in-0.ensures.updates.0 c.in_ok-insert-in-0.ensures.entries;
}

pub returns-in-1 : goal.returns-in-1
returns-in-1 c = record {
  taken =
      λ entry fits is. taken_delete c.args.segment c.args.at c.args.head.now c.args.live.now.entries c.remove.new.self.entries entry is c.in-1.is
      c.remove.ensures.updates.0 c.remove.ensures.entries;
}

pub returns-in_default : goal.returns-in_default
returns-in_default c =
    record { taken = λ entry fits is. taken_commit c.args.segment c.args.at c.args.head.now c.args.live.now.entries entry is (omega arith) (omega arith) }
