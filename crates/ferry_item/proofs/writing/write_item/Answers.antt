use Rattle.std.proofs.Common.{sym, subst}
use Rattle.ferry_msgpack.specs.Writable.{IsWritable}
use Rattle.ferry_item.specs.Item.{item_view}
use Rattle.ferry_item.proofs.AgainLemmas.{item_writable, written_again, of_any_result}
use Rattle.ferry_item.proofs.writing.write_item.Goals as goal

pub write-requires : goal.write-requires
write-requires c =
    subst IsWritable (sym c.in_ok-value.ensures.value) (item_writable (item_view c.args.item.now) c.requires.packable c.in_ok-value.ensures.range)

pub returns-clause-again : goal.returns-clause-again
returns-clause-again c =
    of_any_result c.write.result _ (λ whole rest. written_again (item_view c.args.item.now) rest c.requires.packable c.in_ok-value.ensures.range whole)
