use Rattle.std.proofs.Common.{sym, ◌∙◌, ap, ◌-◌, ◌&&◌, not, length, take}
use Rattle.ferry_disk.specs.Acts.{step_of, acts_of}
use Rattle.ferry_disk.specs.Memory.{files_of}
use Rattle.ferry_disk.specs.Sizes.{size_stepped, sizes_after}
use Rattle.ferry_disk.proofs.FilesLemmas.{same_number}
use Rattle.ferry_disk.proofs.SizesLemmas.{empty_moment, at_moment_is, not_empty}
use Rattle.ferry_disk.proofs.sizes.at_moment.Goals as goal

pub returns-then-is_empty : goal.returns-then-is_empty
returns-then-is_empty c =
    c.at_rest.ensures
    ∙ empty_moment (files_of c.args.start.now) c.args.acts.now c.args.cut c.args.segment c.size_of-size.result
    (same_number (length c.args.acts.now) 0 (sym c.if-is_empty.ensures)) c.size_of-size.ensures.size

pub returns : goal.returns
returns c =
    let acts = c.args.acts.now in
    let n = length acts - 1 in
    let last = c.index-acts-n.result in
    let segment = c.args.segment in
    c.stepped.ensures.sizes
    ∙ (ap (λ d. size_stepped segment (step_of last.kind) d c.after_acts-before.result) c.is_done_still-done.ensures
    ∙ (ap (size_stepped segment (step_of last.kind) (last.done && not c.args.cut))
    (c.after_acts-before.ensures.sizes ∙ ap (λ o. sizes_after o (acts_of (take n acts)) segment) c.size_of-size.ensures.size)
    ∙ at_moment_is (files_of c.args.start.now) acts n last c.args.cut segment (not_empty (length acts) c.if-is_empty.ensures) c.index-acts-n.is))
