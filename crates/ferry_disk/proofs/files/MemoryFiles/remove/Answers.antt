use Rattle.std.proofs.Common.{ap}
use Rattle.ferry_disk.specs.Memory.{files_of}
use Rattle.ferry_disk.proofs.FilesLemmas.{remove-seen}
use Rattle.ferry_disk.proofs.files.MemoryFiles.remove.Goals as goal

pub returns : goal.returns
returns c =
    let old = c.args.self.now in
    let files = files_of old in
    ap (λ s. record files { segments = s })
    (remove-seen (λ v. v.items) old.segments.entries c.remove.new.self.entries c.args.segment c.remove.ensures.updates.0)
