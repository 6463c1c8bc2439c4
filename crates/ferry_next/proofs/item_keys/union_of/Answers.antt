use Rattle.std.proofs.Common.{◌≡◌, [], ap, ◌∙◌, rules}
use Rattle.ferry_manifest.proofs.Manifests.ReadLemmas.{names_view}
use Rattle.ferry_next.proofs.UnionLemmas.{both}
use Rattle.ferry_next.proofs.item_keys.union_of.Goals as goal

pub returns : goal.returns
returns c =
    let names = c.args.names.now in
    let more = names_view c.args.more.now in
    let none : c.new-set.result.keys ≡ [] = search rules in
    let all : c.in_ok-collect.field-0.items ≡ c.insert_names-2.new.set.keys = search rules in
    record {
      names =
          c.new.ensures.names ∙ (ap names_view all ∙ (c.in_ok-insert_names-2.ensures.names
          ∙ (rw (c.in_ok-insert_names.ensures.names, none, c.as_slice.ensures.names) (both names more))));
    }
