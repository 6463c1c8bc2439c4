use Rattle.std.proofs.Common.{ap, sym, ◌∙◌}
use Rattle.std.proofs.lemmas.Result.{err_from_is_err_and}
use Rattle.ferry_msgpack.specs.FirstView.{count_view}
use Rattle.ferry_msgpack.specs.Apart.{Parts}
use Rattle.ferry_msgpack.proofs.ApartLemmas.{none_kept, some_parts, other_parts, map_parts, parts_fail}
use Rattle.ferry_msgpack.proofs.apart.read_map_apart.Goals as goal

pub returns-in_err-apart-in-Some : goal.returns-in_err-apart-in-Some
returns-in_err-apart-in-Some c =
    let p = err_from_is_err_and c.from_residual.result c.from_residual.ensures.1 in
    let failed = parts_fail c.in_err-apart-in-Some.field-0.0 c.args.name.now c.args.bytes.now (count_view c.in-Some.count) c.in-Some.after.now
    (sym c.in-Some.ensures) c.in_err-apart-in-Some.ensures in
    rw (p.1, p.2) (record { parts = failed })

pub returns-in_ok-apart-in-Some : goal.returns-in_ok-apart-in-Some
returns-in_ok-apart-in-Some c =
    record {
      parts = map_parts c.args.name.now c.args.bytes.now (count_view c.in-Some.count) c.in-Some.after.now (sym c.in-Some.ensures)
          ∙ ap some_parts c.in_ok-apart-in-Some.ensures;
    }

pub returns-in_ok-_value-in-None : goal.returns-in_ok-_value-in-None
returns-in_ok-_value-in-None c =
    record {
      parts = other_parts c.args.name.now c.args.bytes.now (sym c.in-None.ensures) ∙ ap (none_kept Parts) c.in_ok-_value-in-None.ensures;
    }
