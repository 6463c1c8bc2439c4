use Rattle.ferry_status.proofs.OpenedLemmas.{done_number, refused_number}
use Rattle.ferry_status.proofs.UnreadLemmas.{unread_reading}
use Rattle.ferry_status.specs.Status.{is_unread}
use Rattle.std.proofs.Common.{inl, inr, sym, ap, ◌∙◌, ◌⊎◌}
use Rattle.ferry_run_tag.specs.Tag.{LeavesArchives}
use Rattle.ferry_disk.proofs.MomentLemmas.{between_map}
use Rattle.ferry_run_tag.proofs.CauseLemmas.{refused_unwritten, tags_done}
use Rattle.ferry_run_tag.proofs.EndLemmas.{tagged_ended}
use Rattle.ferry_run_tag.proofs.ShowLemmas.{TagEach, some_left, tagging}
use Rattle.ferry_run_tag.proofs.command.tag_archives.Goals as goal
use Rattle.ferry_status.specs.Opened.{ChangesLeave}

pub returns-in-Ok-clause-ended : goal.returns-in-Ok-clause-ended
returns-in-Ok-clause-ended g c done =
    tagged_ended (tagging c.args.secret.now c.args.timestamp (g.E.Entropy.drawn c.args.entropy.now) (g.E.Entropy.drawn c.tag_and_tell.new.entropy))
    (g.D.Shelf.told c.args.target.now) (g.D.Shelf.told c.tag_and_tell.new.target)
    (g.D.Shelf.faults c.args.target.now) (g.D.Shelf.faults c.tag_and_tell.new.target) c.in-Ok.ensures.works

pub returns-in-Ok-clause-left : goal.returns-in-Ok-clause-left
returns-in-Ok-clause-left g c =
    let asked = tagging c.args.secret.now c.args.timestamp (g.E.Entropy.drawn c.args.entropy.now) (g.E.Entropy.drawn c.tag_and_tell.new.entropy) in
    between_map (g.D.Shelf.told c.args.target.now) (g.D.Shelf.told c.tag_and_tell.new.target) (TagEach asked)
    (ChangesLeave asked.secret (LeavesArchives asked.secret asked.timestamp)) (some_left asked)
    c.in-Ok.ensures.works.each

pub returns-clause-left : goal.returns-clause-left
returns-clause-left g c =
    let asked = tagging c.args.secret.now c.args.timestamp (g.E.Entropy.drawn c.args.entropy.now) (g.E.Entropy.drawn c.tag_and_tell.new.entropy) in
    between_map (g.D.Shelf.told c.args.target.now) (g.D.Shelf.told c.tag_and_tell.new.target) (TagEach asked)
    (ChangesLeave asked.secret (LeavesArchives asked.secret asked.timestamp)) (some_left asked)
    c.in-Err.ensures.works.each

pub returns-clause-completes : goal.returns-clause-completes
returns-clause-completes g c =
    tags_done (tagging c.args.secret.now c.args.timestamp (g.E.Entropy.drawn c.args.entropy.now) (g.E.Entropy.drawn c.tag_and_tell.new.entropy))
    (g.D.Shelf.told c.args.target.now) (g.D.Shelf.told c.tag_and_tell.new.target) _
    (inr (record { fault = c.in-Err.fault; status_is = c.of_carry.ensures; refuses = c.in-Err.ensures.refused }))

pub returns-in-Ok-clause-number : goal.returns-in-Ok-clause-number
returns-in-Ok-clause-number g c =
    done_number {T = Unit {0}} (λ fault. ⊥) c.args.secret.now (g.D.Shelf.told c.args.target.now) tt c.in-Ok.ensures.number

pub returns-clause-number : goal.returns-clause-number
returns-clause-number g c =
    refused_number (Unit {0}) (λ fault. ⊥) c.args.secret.now (g.D.Shelf.told c.args.target.now) c.in-Err.fault _ c.of_carry.ensures
    c.in-Err.ensures.number

pub returns-clause-unwritten : goal.returns-clause-unwritten
returns-clause-unwritten g c unread =
    refused_unwritten (tagging c.args.secret.now c.args.timestamp (g.E.Entropy.drawn c.args.entropy.now) (g.E.Entropy.drawn c.tag_and_tell.new.entropy))
    (g.D.Shelf.told c.args.target.now) (g.D.Shelf.told c.tag_and_tell.new.target) c.in-Err.fault _ c.of_carry.ensures
    (c.in-Err.ensures.unwritten (unread_reading c.in-Err.fault (sym (ap is_unread c.of_carry.ensures) ∙ unread)))
