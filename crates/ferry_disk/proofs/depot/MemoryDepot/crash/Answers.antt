use Rattle.std.proofs.Common.{◌≡◌, ◌++◌, ◌∙◌, ap, subst}
use Rattle.std.proofs.lemmas.List.{map-append}
use Rattle.ferry_disk.specs.Act.{History}
use Rattle.ferry_disk.specs.Acts.{act_of, acts_of}
use Rattle.ferry_disk.specs.Choice.{moment_of, Chooses}
use Rattle.ferry_disk.specs.Disk.{Disk}
use Rattle.ferry_disk.specs.Memory.{files_of}
use Rattle.ferry_disk.proofs.ChoiceLemmas.{chooses_one}
use Rattle.ferry_disk.proofs.depot.MemoryDepot.crash.Goals as goal

pub returns : goal.returns
returns c =
    let choice = c.args.choice in
    let history = c.args.self.history in
    let inside = c.self.inside in
    let run : History = record { start = files_of inside.start; past = acts_of inside.past.items; acts = acts_of inside.acts.items } in
    let same : run ≡ history = ap (λ (d : Disk). d.history) c.self.view_is in
    let moment = c.moment_acts-moment.result.items in
    let kept : acts_of moment ≡ moment_of choice run.acts = c.moment_acts-moment.ensures in
    let image = files_of c.in_ok-image.image in
    let chosen : Chooses choice run.start (acts_of moment) image =
    subst (λ acts. Chooses choice run.start (acts_of acts) image) c.deref.ensures.value c.in_ok-image.ensures in
    let left : image ≡ c.requires.0 =
    chooses_one choice history.start (moment_of choice history.acts) image c.requires.0
    (subst (λ h. Chooses choice h.start (moment_of choice h.acts) image) same (subst (λ m. Chooses choice run.start m image) kept chosen))
    c.requires.1.chosen in
    let past : acts_of c.append.new.self.items ≡ history.past ++ moment_of choice history.acts =
    ap acts_of c.in_ok-append.ensures.items
    ∙ (map-append act_of inside.past.items moment
    ∙ (ap (λ m. run.past ++ m) kept ∙ ap (λ h. h.past ++ moment_of choice h.acts) same)) in
    record {
      crashed = (
        c.requires.0,
        c.requires.1,
        (λ i. record {
          history = record { start = left i; past = past i; acts = acts_of (c.new.ensures.items i) };
          failing = (c.over.ensures.failing ∙ c.new-2.ensures.items) i;
          calls = c.over.ensures.unused.0 i;
          faults = c.over.ensures.unused.1 i;
          failed = c.over.ensures.unused.2 i;
        }),
      );
    }
