use Rattle.std.proofs.Common.{sym, subst}
use Rattle.std.specs.FinMap.{entries}
use Rattle.ferry_status.specs.Devices.{written}
use Rattle.ferry_top.specs.Keys.{key_lines, IsListing}
use Rattle.ferry_status.specs.Output.{Prints}
use Rattle.ferry_top.specs.Keys.{RefusesKeys}
use Rattle.ferry_status.specs.declared.status.Status.{Status}
use Rattle.ferry_top.proofs.KeysLemmas.{listing_of}
use Rattle.ferry_status.proofs.StatusLemmas.{cut_text}
use Rattle.ferry_top.proofs.keys.keys.Goals as goal

pub returns-in-Ok-write_keys-clause-out : goal.returns-in-Ok-write_keys-clause-out
returns-in-Ok-write_keys-clause-out g c = (
  key_lines (entries c.in-Ok.log.opened),
  listing_of (g.S.Shelf.told c.args.source.now) c.in-Ok.log c.in-Ok.ensures.log,
  c.in-Ok-write_keys.ensures.ok,
  c.in-Ok-write_keys.ensures.cause,
)

pub returns-clause-out : goal.returns-clause-out
returns-clause-out g c =
    let source = g.S.Shelf.told c.args.source.now in
    let before = written (g.K.Sink.written c.args.out.now) (g.K.Sink.faults c.args.out.now) in
    let after = written (g.K.Sink.written c.write_keys.new.out) (g.K.Sink.faults c.write_keys.new.out) in
    let fault = c.in-Err-write_keys.fault in
    subst (λ (s : Status). Prints IsListing RefusesKeys source before s after) (sym c.of_output.ensures)
    (cut_text IsListing RefusesKeys source before after (key_lines (entries c.in-Ok.log.opened)) fault (listing_of source c.in-Ok.log c.in-Ok.ensures.log)
    c.in-Err-write_keys.ensures.err c.in-Err-write_keys.ensures.cause)
