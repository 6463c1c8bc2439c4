use Rattle.std.proofs.Common.{ℕ, List, sym, ap, ◌∙◌}
use Rattle.ferry_msgpack.specs.FirstView.{count_view}
use Rattle.ferry_msgpack.proofs.ApartLemmas.{none_kept, other_value, array_value_apart}
use Rattle.ferry_msgpack.proofs.apart.contents_of.Goals as goal

pub returns-in-Some : goal.returns-in-Some
returns-in-Some c =
    rw (array_value_apart c.args.bytes.now (count_view c.in-Some.count) c.in-Some.after.now (sym c.in-Some.ensures)) c.array_apart.ensures

pub returns-in_ok-_value-in-None : goal.returns-in_ok-_value-in-None
returns-in_ok-_value-in-None c =
    other_value c.args.bytes.now (sym c.in-None.ensures) ∙ ap (none_kept (List (List ℕ))) c.in_ok-_value-in-None.ensures
