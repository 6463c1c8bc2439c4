use Rattle.std.proofs.Common.{Bool, IfSome, subst}
use Rattle.ferry_disk.specs.Device.{told_files}
use Rattle.ferry_repo.specs.Opening.{repo_view}
use Rattle.ferry_compare.specs.Steps.{Passes, cursor_view}
use Rattle.ferry_compare.proofs.PassLemmas.{still_strays}
use Rattle.ferry_compare.proofs.contents.passes.Goals as goal

pub returns-else-same-clause-passes : goal.returns-else-same-clause-passes
returns-else-same-clause-passes g c = λ done passes.
    let told = g.T.Shelf.told c.args.other.now in
    let repo = repo_view c.args.target.now in
    let others = c.args.others.now in
    still_strays told repo others done c.args.bytes.now
    (subst (λ (b : Bool). IfSome told (λ t. Passes b (told_files t) repo others (cursor_view c.args.cursor.now) done)) c.if-same.false passes)
