use Rattle.std.specs.FinMap.{from_entries}
use Rattle.ferry_disk.proofs.FilesLemmas.{clone-seen, zip_same}
use Rattle.ferry_disk.proofs.files.MemoryFiles.copy.Goals as goal

pub returns : goal.returns
returns c =
    let segments = clone-seen (λ v. v.items) _ _ (λ a b e. e) (λ v w e. zip_same v.items w.items e.0)
    c.args.self.now.segments.entries c.in_ok-segments.segments.entries c.in_ok-segments.ensures.cases in
    λ i. record {
      config = c.in_ok-config.ensures i;
      nonce = c.in_ok-nonce.ensures i;
      readme = c.in_ok-readme.ensures i;
      segments = from_entries (segments i);
    }
