use Rattle.std.proofs.Common.{◌∙◌}
use Rattle.ferry_gen.proofs.PutLemmas.{archive_puts}
use Rattle.ferry_gen.proofs.put.put_archive.Goals as goal
use Rattle.ferry_repo.specs.Opening.{repo_view}

pub returns-clause-puts : goal.returns-clause-puts
returns-clause-puts g c =
    let store = c.args.store.now in
    let middle = c.put_items.new.store in
    archive_puts c.put_stream.result c.args.archive (repo_view store.repo).keys (repo_view middle.repo).keys c.deref.result.now store middle
    c.put_stream.new.store (g.D.Shelf.told c.args.depot.now) (g.D.Shelf.told c.put_items.new.depot) (g.D.Shelf.told c.put_stream.new.depot)
    c.in_ok-stream.ensures.rest c.put_stream.ensures.rest c.in_ok-stream.ensures.rest.keys (c.deref.ensures.value ∙ c.in_ok-stream.ensures.spelled)
    c.in_ok-stream.ensures.read c.in_ok-stream.ensures.puts c.put_stream.ensures.puts
