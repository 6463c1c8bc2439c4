use Rattle.std.proofs.Common.{sym, ◌∙◌}
use Rattle.ferry_msgpack.specs.View.{value_view}
use Rattle.ferry_msgpack.proofs.WritableTestLemmas.{writable_says, writable_passes}
use Rattle.ferry_msgpack.proofs.writable.is_writable.Goals as goal

pub returns : goal.returns
returns c = (
  λ passed. writable_says (value_view c.args.value.now) (sym c.value_fits.ensures ∙ passed),
  λ fits. c.value_fits.ensures ∙ writable_passes (value_view c.args.value.now) fits,
)
