use Rattle.std.proofs.Common.{◌≡◌, ◌-◌, length, take, ap, ◌∙◌, rules}
use Rattle.std.specs.List.{copy_within}
use Rattle.ferry_repo.proofs.ObjectLemmas.{moved_front}
use Rattle.ferry_repo.proofs.object.without_head.Goals as goal

pub returns : goal.returns
returns c =
    let blob = c.args.blob.items in
    let size : c.len-size.result ≡ length blob = search rules in
    let held : c.args.blob.len ≡ length blob = search rules in
    let shifted : c.copy_within.new.self.items ≡ copy_within blob 43 (length blob) 0 =
    c.copy_within.ensures.items ∙ ap (λ n. copy_within blob 43 n 0) held in
    c.truncate.ensures.items ∙ ap (λ n. take (n - 43) c.copy_within.new.self.items) size
    ∙ ap (take (length blob - 43)) shifted ∙ moved_front blob 43 c.requires
