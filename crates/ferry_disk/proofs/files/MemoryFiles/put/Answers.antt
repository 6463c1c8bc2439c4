use Rattle.std.proofs.Common.{sym, ◌∙◌, ap}
use Rattle.ferry_disk.specs.Files.{with_file}
use Rattle.ferry_disk.specs.Memory.{files_of}
use Rattle.ferry_disk.proofs.FilesLemmas.{insert-seen}
use Rattle.ferry_disk.proofs.files.MemoryFiles.put.Goals as goal

pub returns-in_ok-insert-in-Segment-clause-ok : goal.returns-in_ok-insert-in-Segment-clause-ok
returns-in_ok-insert-in-Segment-clause-ok c =
    let old = c.args.self.now in
    let files = files_of old in
    ap (λ s. record files { segments = s })
    (insert-seen (λ v. v.items) old.segments.entries c.insert.new.self.entries c.in-Segment.number c.args.bytes c.in_ok-insert-in-Segment.ensures.updates.0)
    ∙ ap (λ n. with_file files n c.args.bytes.items) (sym c.in-Segment.is)
