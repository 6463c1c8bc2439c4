use Rattle.std.proofs.Common.{◌≡◌, false, Some, subst}
use Rattle.ferry_carry.specs.Copied.{IsRead}
use Rattle.ferry_gen.proofs.FieldLemmas.{item_packable, item_sound}
use Rattle.ferry_gen.proofs.put.spell_item.Goals as goal
use Rattle.ferry_item.specs.Item.{is_healed}
use Rattle.ferry_item.specs.Writing.{field_pairs}
use Rattle.ferry_msgpack.specs.Tree.{Tree}
use Rattle.ferry_msgpack.specs.View.{value_view}

pub write_item-requires : goal.write_item-requires
write_item-requires c = record {
  packable = item_packable c.args.file c.args.chunks (value_view c.args.fields) c.requires.fields c.requires.sizes c.requires.few;
}

pub returns-clause-read : goal.returns-clause-read
returns-clause-read c =
    subst (λ (f : Tree). is_healed (field_pairs (record { fields = f; chunks = Some c.args.chunks })) ≡ false
    → IsRead (record { fields = f; chunks = Some c.args.chunks })) c.requires.fields c.in_ok-write_item.ensures.again (item_sound c.args.file c.args.chunks)
