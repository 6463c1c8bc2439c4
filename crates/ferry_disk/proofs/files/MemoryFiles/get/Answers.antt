use Rattle.std.proofs.Common.{sym, ◌∙◌, ap, option_map}
use Rattle.ferry_disk.specs.Files.{file_at}
use Rattle.ferry_disk.specs.Memory.{files_of}
use Rattle.ferry_disk.proofs.FilesLemmas.{get-seen, copied_map}
use Rattle.ferry_disk.proofs.files.MemoryFiles.get.Goals as goal

pub returns-in-Segment : goal.returns-in-Segment
returns-in-Segment c =
    copied_map (λ v. v.items) c.get.result
    ∙ (ap (option_map (λ v. v.items)) c.get.ensures.value
    ∙ (sym (get-seen (λ v. v.items) c.args.self.now.segments.entries c.in-Segment.number) ∙ ap (file_at (files_of c.args.self.now)) (sym c.in-Segment.is)))
