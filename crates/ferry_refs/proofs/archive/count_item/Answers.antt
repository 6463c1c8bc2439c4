use Rattle.std.proofs.Common.{[], ◌≡◌, List, subst, sym, Option, unwrap_or, None}
use Rattle.ferry_check.specs.Report.{ids_in}
use Rattle.ferry_item.specs.declared.item.ChunkRef.{ChunkRef}
use Rattle.ferry_refs.specs.Refs.{count_in}
use Rattle.ferry_refs.specs.Steps.{Adds}
use Rattle.ferry_refs.proofs.CountLemmas.{adds_none}
use Rattle.ferry_refs.proofs.archive.count_item.Goals as goal

pub returns-in-None-clause-added : goal.returns-in-None-clause-added
returns-in-None-clause-added c =
    let tally = count_in c.args.counts.now in
    let none : c.args.item.now.chunks ≡ None = c.in-None.is in
    subst (λ (chunks : Option (List ChunkRef)). Adds (ids_in (unwrap_or chunks [])) tally tally) (sym none) (adds_none tally)
