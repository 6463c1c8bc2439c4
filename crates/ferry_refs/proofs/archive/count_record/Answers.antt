use Rattle.std.proofs.Common.{[], ◌∷◌, List, ℕ, subst}
use Rattle.std.proofs.lemmas.Result.{on_ok_weaker}
use Rattle.ferry_manifest.specs.Record.Text.{archive_view}
use Rattle.ferry_refs.specs.Refs.{count_in}
use Rattle.ferry_refs.specs.Steps.{Adds}
use Rattle.ferry_refs.proofs.CountLemmas.{adds_then}
use Rattle.ferry_refs.proofs.archive.count_record.Goals as goal

pub returns-clause-added : goal.returns-clause-added
returns-clause-added c =
    let old = count_in c.args.counts.now in
    let one = count_in c.add.new.self in
    let next = count_in c.add_all.new.self in
    let pieces = (archive_view c.args.archive.now).items in
    on_ok_weaker c.add_all.result
    (λ adds. adds_then old one next (c.args.id.now ∷ []) pieces c.in_ok-add.ensures.added
    (subst (λ (is : List (List ℕ)). Adds is one next) c.as_slice.ensures.ids adds))
    c.add_all.ensures.added
