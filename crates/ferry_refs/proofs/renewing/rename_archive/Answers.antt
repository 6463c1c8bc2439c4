use Rattle.std.proofs.Common.{rules, ◌≡◌}
use Rattle.ferry_refs.proofs.RenamedLemmas.{unnamed_then}
use Rattle.ferry_refs.proofs.renewing.rename_archive.Goals as goal
use Rattle.ferry_store.specs.Commit.{accepted_in}

pub name_archive-requires-clause-unnamed : goal.name_archive-requires-clause-unnamed
name_archive-requires-clause-unnamed c =
    let same : c.as_slice.result.now ≡ c.args.named.now.name = search rules in
    unnamed_then (accepted_in c.args.store.now) (accepted_in c.drop_name.new.self) c.args.named.now c.in_ok-entry.entry c.as_slice.result.now c.args.id
    c.in_ok-entry.ensures.entry same c.drop_name.ensures.dropped
