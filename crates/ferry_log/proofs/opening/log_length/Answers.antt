use Rattle.ferry_log.specs.Opening.{EndsAt, HasNoEnd}
use Rattle.ferry_log.proofs.OpeningLemmas.{err_matches, no_end}
use Rattle.ferry_log.proofs.opening.log_length.Goals as goal

pub returns-in_err-is_committed-clause-end : goal.returns-in_err-is_committed-clause-end
returns-in_err-is_committed-clause-end g c files tells =
    err_matches c.from_residual.result c.in_err-is_committed.field-0.0 (EndsAt files c.args.numbers.now)
    (HasNoEnd files c.args.numbers.now) c.from_residual.ensures.1
    (no_end files c.args.numbers.now c.in_err-is_committed.field-0.0 c.in_err-is_committed.ensures.outside)
