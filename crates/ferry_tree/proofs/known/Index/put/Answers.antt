use Rattle.std.proofs.Common.{Some, if◌then◌else◌, ap, ◌∙◌}
use Rattle.std.specs.Str.{bytes_eq}
use Rattle.ferry_tree.specs.Index.{known_in}
use Rattle.ferry_tree.proofs.IndexLemmas.{found_after}
use Rattle.ferry_tree.proofs.known.Index.put.Goals as goal

pub returns : goal.returns
returns c = record {
  put = λ path.
      found_after (λ k. k.items) c.args.self.now.marks c.insert.new.self c.in_ok-path.path (Some c.args.mark) c.in_ok-insert.ensures.updates path
      ∙ ap (λ key. if bytes_eq key path then Some c.args.mark else known_in c.args.self.now path) c.in_ok-path.ensures.items;
}
