use Rattle.std.proofs.Common.{List, ℕ, Ok, refl, sym, subst}
use Rattle.ferry_carry.specs.declared.options.Options.{Options}
use Rattle.ferry_status.specs.Devices.{Devices, devices, store, drawn, written}
use Rattle.ferry_run_tag.specs.Tag.{TagsArchives}
use Rattle.ferry_run_transfer.specs.Transfer.{asked}
use Rattle.ferry_run_transfer.specs.Transferring.{Transfers}
use Rattle.ferry_top.proofs.top.carry_out.Goals as goal
use Rattle.ferry_top.specs.Run.{DoesCommand}
use Rattle.ferry_words.specs.declared.command.Command.{Command}

pub returns-in-Transfer-clause-does : goal.returns-in-Transfer-clause-does
returns-in-Transfer-clause-does g c =
    let told = g.S.Shelf.told c.args.source.now in
    let secrets = c.args.secrets.now in
    let status = c.transfer.result in
    let output = written (g.K.Sink.written c.args.out.now) (g.K.Sink.faults c.args.out.now) in
    let before : Devices = devices (store told (g.S.Shelf.faults c.args.source.now))
    (store (g.D.Shelf.told c.args.target.now) (g.D.Shelf.faults c.args.target.now))
    (drawn (g.E.Entropy.drawn c.args.entropy.now) (g.E.Entropy.faults c.args.entropy.now)) output in
    let after : Devices = devices (store (g.S.Shelf.told c.transfer.new.source) (g.S.Shelf.faults c.transfer.new.source))
    (store (g.D.Shelf.told c.transfer.new.target) (g.D.Shelf.faults c.transfer.new.target))
    (drawn (g.E.Entropy.drawn c.transfer.new.entropy) (g.E.Entropy.faults c.transfer.new.entropy)) output in
    let options : Options = record { block = c.in-Transfer.block; checkpoint = c.in-Transfer.checkpoint; timestamp = c.in-Transfer.timestamp } in
    let e = c.transfer.ensures in
    let made : Transfers (asked secrets options c.as_slice-chosen.result.now told) before status after = record {
      output = refl;
      completes = e.completes;
      refused = e.refused;
      ended = e.ended;
      untouched = e.untouched;
      left = e.left;
      shut = e.shut;
      number = e.number;
      only_told = e.only_told;
      puts = e.puts;
      put = e.put;
      each = e.each;
    } in
    subst (λ (command : Command). DoesCommand (Ok command) secrets before status after) (sym c.in-Transfer.is)
    (subst (λ (names : List (List ℕ)). Transfers (asked secrets options names told) before status after) c.as_slice-chosen.ensures.names made)

pub returns-in-TagArchives-clause-does : goal.returns-in-TagArchives-clause-does
returns-in-TagArchives-clause-does g c =
    let told = g.S.Shelf.told c.args.source.now in
    let secrets = c.args.secrets.now in
    let status = c.tag_archives.result in
    let output = written (g.K.Sink.written c.args.out.now) (g.K.Sink.faults c.args.out.now) in
    let source = store told (g.S.Shelf.faults c.args.source.now) in
    let before : Devices = devices source (store (g.D.Shelf.told c.args.target.now) (g.D.Shelf.faults c.args.target.now))
    (drawn (g.E.Entropy.drawn c.args.entropy.now) (g.E.Entropy.faults c.args.entropy.now)) output in
    let after : Devices = devices source (store (g.D.Shelf.told c.tag_archives.new.target) (g.D.Shelf.faults c.tag_archives.new.target))
    (drawn (g.E.Entropy.drawn c.tag_archives.new.entropy) (g.E.Entropy.faults c.tag_archives.new.entropy)) output in
    let e = c.tag_archives.ensures in
    let made : TagsArchives secrets.target c.in-TagArchives.timestamp before status after = record {
      changes = record {
        source = refl;
        output = refl;
        refused = e.refused;
        ended = e.ended;
        left = e.left;
        kept = e.kept;
        shut = e.shut;
        number = e.number;
        each = e.each;
      };
      unwritten = e.unwritten;
      completes = e.completes;
    } in
    subst (λ (command : Command). DoesCommand (Ok command) secrets before status after) (sym c.in-TagArchives.is) made
