use Rattle.std.proofs.Common.{◌≡◌, ◌<◌, ◌∙◌, ◌∷◌, [], Ok, drop, length, ap, subst, sym, rules, arith}
use Rattle.std.proofs.lemmas.List.{get_or_default}
use Rattle.std.specs.List.{AllByRecursion}
use Rattle.ferry_base.specs.Limits.{zero_id}
use Rattle.ferry_blob.specs.Batch.{bytes_at}
use Rattle.ferry_repo.specs.Cached.{Opened}
use Rattle.ferry_repo.specs.Objects.{HoldsChunk}
use Rattle.ferry_repo.proofs.BatchLemmas.{popped, opened_at, kept_opened}
use Rattle.ferry_repo.proofs.batch.keep_opened.Goals as goal

pub returns-in_err-keep_new : goal.returns-in_err-keep_new
returns-in_err-keep_new c = record {
  holds = λ files log keys opens held.
      subst (λ (cs : Opened). AllByRecursion (λ c. HoldsChunk files log keys c.0 c.1) cs) (sym c.in_err-keep_new.ensures.err)
      (c.loop-blob.invariant.holds files log keys opens held);
}

pub loop-blob-preserved-then-is_none : goal.loop-blob-preserved-then-is_none
loop-blob-preserved-then-is_none c =
    let all = c.args.blobs.items in
    let ids = c.args.ids.now in
    let answers = c.args.answers.now in
    let rest = c.pop.new.self.items in
    let blob = c.in-Some.blob in
    let place = c.len-place.result in
    let behind = c.loop-blob.invariant.left in
    let took = popped all c.loop-blob.left.items rest behind.0 blob behind.1 c.in-Some.ensures.items in
    let at : place ≡ length rest = search rules in
    let low : place < length all = omega (arith, took.1, at) in
    let ok = opened_at answers place (Ok tt) c.is_ok.result (omega arith) c.is_ok.ensures.value c.if-is_ok.true in
    let named = get_or_default ids place [] zero_id (omega (arith, low, c.requires.batch.each)) in
    let opened = c.without_head.ensures ∙ ap (drop 43) (sym took.2 ∙ ap (bytes_at all) (sym at)) in
    record {
      left = (blob ∷ behind.0, took.0);
      holds = λ files log keys opens held.
          kept_opened files log keys answers ids all place _ c.without_head.result.items c.loop-blob.cache c.keep_new.new.self opens low ok named opened
          c.in_ok-keep_new.ensures.ok (c.loop-blob.invariant.holds files log keys opens held);
    }
