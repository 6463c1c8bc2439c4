use Rattle.std.proofs.Common.{Some, None, sym, subst}
use Rattle.ferry_log.specs.State.{IsLeastAbove}
use Rattle.ferry_check.proofs.ChunkLemmas.{Lists, lists_none, lists_next, lists_all}
use Rattle.ferry_check.proofs.chunks.chunk_ids.Goals as goal

pub loop-init : goal.loop-init
loop-init c = record { lists = subst (λ ids. Lists c.args.log.now None ids) (sym c.new-ids.ensures.items) (lists_none c.args.log.now) }

pub loop-preserved : goal.loop-preserved
loop-preserved c =
    let log = c.args.log.now in
    let last = c.loop.last in
    let found = c.in-Some.found in
    let least = subst (λ k. IsLeastAbove log k (Some found)) c.as_ref.ensures.value c.in-Some.ensures in
    record {
      lists = lists_next log last found c.loop.ids.items c.push_chunk.new.ids.items least c.loop.invariant.lists c.in_ok-push_chunk-in-Some.ensures.chunk
          c.in_ok-push_chunk-in-Some.ensures.zero;
    }

pub returns-in-None-clause-chunks : goal.returns-in-None-clause-chunks
returns-in-None-clause-chunks c =
    let log = c.args.log.now in
    lists_all log c.loop.last c.loop.ids.items (subst (λ k. IsLeastAbove log k None) c.as_ref.ensures.value c.in-None.ensures) c.loop.invariant.lists
