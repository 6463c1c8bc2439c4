use Rattle.std.proofs.Common.{◌≡◌, ℕ, List, sym, ◌∙◌, ap, nat_eq, Option, option_map}
use Rattle.std.specs.FinMap.{get}
use Rattle.std.specs.Map.{lookup}
use Rattle.std.proofs.lemmas.Result.{IfOk-weaker}
use Rattle.ferry_disk.specs.Act.{applied}
use Rattle.ferry_disk.specs.Acts.{acts_of}
use Rattle.ferry_disk.specs.Choice.{tail_of, segment_left}
use Rattle.ferry_disk.specs.Image.{fate_of}
use Rattle.ferry_disk.specs.Memory.{files_of}
use Rattle.ferry_disk.specs.Sizes.{sizes_of, sizes_after}
use Rattle.ferry_disk.specs.Stop.{front_of, fate_by}
use Rattle.ferry_disk.proofs.FilesLemmas.{copied_map}
use Rattle.ferry_disk.proofs.StopLemmas.{left_by, stable_is}
use Rattle.ferry_disk.proofs.SizesLemmas.{sizes_fold}
use Rattle.ferry_disk.proofs.stop.one_left.Goals as goal

pub returns : goal.returns
returns c =
    let choice = c.args.choice.now in
    let start = files_of c.args.start.now in
    let acts = acts_of c.args.moment.now in
    let q = c.args.segment in
    let fate = fate_of start acts q in
    let counted = c.after_acts-sizes.result in
    let sizes : counted ≡ sizes_of fate =
    c.after_acts-sizes.ensures.sizes ∙ (ap (λ o. sizes_after o acts q) c.size_of.ensures.size ∙ sym (sizes_fold start acts q)) in
    let stable : option_map (λ v. v.items) c.in_ok-stable.stable ≡ fate.stable =
    c.in_ok-stable.ensures
    ∙ (ap (λ o. front_of o counted.stable) (c.get.ensures ∙ ap (λ f. get f.segments q) c.requires)
    ∙ (ap (λ z. front_of (get (applied start acts).segments q) z.stable) sizes ∙ stable_is start acts q)) in
    let listed : option_map (λ t. option_map (λ v. v.items) t.now) c.tail_listed-listed.result ≡ tail_of choice q =
    copied_map (λ t. option_map (λ v. v.items) t) c.tail_listed-listed.result
    ∙ ap (option_map (λ t. option_map (λ v. v.items) t))
    (c.tail_listed-listed.ensures ∙ ap (λ l. lookup (nat_eq q) l) c.deref.ensures.value) in
    let given : Option (Option (List ℕ)) = option_map (λ t. option_map (λ v. v.items) t.now) c.tail_listed-listed.result in
    IfOk-weaker c.with_tail.result _ _
    (λ left e. e ∙ (ap (λ o. segment_left choice.took (fate_by o counted.lost) given) stable
    ∙ (ap (λ z. segment_left choice.took (fate_by fate.stable z.lost) given) sizes
    ∙ (left_by choice.took fate given ∙ ap (segment_left choice.took fate) listed))))
    c.with_tail.ensures
