use Rattle.std.proofs.Common.{◌∙◌}
use Rattle.ferry_gen.proofs.FieldLemmas.{new_packable}
use Rattle.ferry_gen.proofs.fields.new_record.Goals as goal
use Rattle.ferry_msgpack.specs.View.{value_view}

pub returns-clause-packable : goal.returns-clause-packable
returns-clause-packable c =
    new_packable c.args.archive c.new-name.result c.new-2.result (value_view c.in_ok-fields.fields) (c.new-name.ensures ∙ c.in_ok-archive_name.ensures.name)
    c.in_ok-fields.ensures.fields
