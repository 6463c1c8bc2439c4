use Rattle.std.proofs.Common.{◌≡◌, take, fold, nat_cmp}
use Rattle.std.specs.BTreeSet.{insert_key}
use Rattle.std.specs.Cmp.Lexicographic.{slice_cmp}
use Rattle.ferry_manifest.proofs.Manifests.ReadLemmas.{names_view}
use Rattle.ferry_next.proofs.item_keys.insert_names.Given as goal

abbrev pub invariant-loop-name : goal.invariant-loop-name
invariant-loop-name l = names_view l.set.keys ≡ fold (insert_key (slice_cmp nat_cmp)) (names_view l.fn.set.keys) (names_view (take l.name-index l.names))
