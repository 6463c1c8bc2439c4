use Rattle.std.proofs.Common.{◌≤◌, arith}
use Rattle.ferry_store.proofs.CommitLemmas.{committed_unspent, did_less, target_refused}
use Rattle.ferry_store.proofs.PutLemmas.{always}
use Rattle.ferry_store.proofs.init.commit_first.Goals as goal
use Rattle.ferry_store.specs.State.{CommitsSound, TakesCommit}
use Rattle.ferry_write.specs.Room.{behind}
use Rattle.ferry_write.specs.Session.{OnlyAppends}

pub returns : goal.returns
returns g c = record {
  did = λ counter.
      did_less (CommitsSound c.args.session.now counter)
      (λ _ h k. TakesCommit c.args.session.now counter c.commit.new.session h k × OnlyAppends c.args.session.now h k)
      (λ _. TakesCommit c.args.session.now counter c.commit.new.session) (g.D.Shelf.told c.args.depot.now) (g.D.Shelf.told c.commit.new.depot)
      (g.D.Shelf.faults c.args.depot.now) (g.D.Shelf.faults c.commit.new.depot) c.commit.result (λ x h k e. e.0) (c.commit.ensures.did counter);
  untold = c.commit.ensures.untold;
  unspent = committed_unspent c.args.session.now c.commit.new.session c.commit.result c.requires.session c.commit.ensures.session;
  few = always (behind c.commit.new.session.last ≤ 2) c.commit.result
      (let most = c.commit.ensures.few.few in let one = c.requires.few in omega (arith, most, one));
  limit = c.commit.ensures.limit;
  refused = target_refused c.args.session.now c.commit.result c.requires.few c.commit.ensures.refused;
}
