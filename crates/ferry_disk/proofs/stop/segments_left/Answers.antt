use Rattle.std.proofs.Common.{rules, ◌≡◌, ◌+◌, ◌++◌, ◌∷◌, [], nat_eq, if◌then◌else◌, None, map, sym, ◌∙◌, ap, take}
use Rattle.std.proofs.lemmas.List.{take_more, take_all}
use Rattle.std.specs.FinMap.{get}
use Rattle.std.specs.List.{list_any}
use Rattle.ferry_disk.specs.Acts.{acts_of}
use Rattle.ferry_disk.specs.Files.{segment_numbers}
use Rattle.ferry_disk.specs.Memory.{files_of}
use Rattle.ferry_disk.proofs.ChoiceLemmas.{left_at}
use Rattle.ferry_disk.proofs.StopLemmas.{none_yet, left_more, all_left}
use Rattle.ferry_disk.proofs.stop.segments_left.Goals as goal

pub loop-i-init : goal.loop-i-init
loop-i-init c = none_yet (files_of c.new-left.result).segments (ap (λ f. f.segments) c.new-left.ensures)

pub loop-i-preserved : goal.loop-i-preserved
loop-i-preserved c = λ q.
    let left = left_at c.args.choice.now (files_of c.args.start.now) (acts_of c.args.moment.now) in
    let numbers = c.in_ok-numbers.numbers.items in
    let i = c.loop-i.i in
    let number = c.index-number.result.now in
    let more : take (i + 1) numbers ≡ take i numbers ++ number ∷ [] =
    take_more numbers i number (search rules) ∙ ap (λ n. take i numbers ++ n ∷ []) (search rules) in
    ap (λ f. get f.segments q) c.in_ok-put_left.ensures
    ∙ (left_more left (take i numbers) number (files_of c.loop-i.left) _ c.in_ok-one.ensures c.loop-i.invariant q
    ∙ ap (λ l. if list_any (nat_eq q) l then left q else None) (sym more))

pub returns : goal.returns
returns c =
    let start = files_of c.args.start.now in
    let acts = acts_of c.args.moment.now in
    let tails = c.args.choice.now.tails in
    let numbers = c.in_ok-numbers.numbers.items in
    let these : numbers ≡ segment_numbers (files_of c.args.read.now) ++ map (λ t. t.0) tails.items =
    c.in_ok-numbers.ensures ∙ ap (λ l. segment_numbers (files_of c.args.read.now) ++ map (λ t. t.0) l) c.deref.ensures.value in
    let taken : take c.loop-i.i numbers ≡ numbers = take_all c.loop-i.i numbers (search rules) in
    all_left c.args.choice.now start acts (take c.loop-i.i numbers) (files_of c.loop-i.left).segments
    (taken ∙ (these ∙ ap (λ f. segment_numbers f ++ map (λ t. t.0) tails.items) c.requires)) c.loop-i.invariant
