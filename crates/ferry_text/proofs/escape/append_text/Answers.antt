use Rattle.ferry_text.proofs.AppendLemmas.{appends_run, appends_first, appends_all, first_other}
use Rattle.ferry_text.proofs.escape.append_text.Goals as goal

pub returns-in-empty-clause-ok : goal.returns-in-empty-clause-ok
returns-in-empty-clause-ok c =
    let run = appends_run _ _ _ _ _ _ _ _ c.loop-byte.invariant c.plain_front.ensures.plain c.split_at.ensures.front c.split_at.ensures.back
    c.in_ok-extend_from_slice.ensures.items in
    appends_all _ _ _ _ run c.in-empty.len_below

pub loop-byte-preserved : goal.loop-byte-preserved
loop-byte-preserved c =
    let run = appends_run _ _ _ _ _ _ _ _ c.loop-byte.invariant c.plain_front.ensures.plain c.split_at.ensures.front c.split_at.ensures.back
    c.in_ok-extend_from_slice.ensures.items in
    let other = first_other _ _ _ c.split_at.ensures.back c.plain_front.ensures.end c.in-len1-up.len_at_least in
    appends_first _ _ _ _ _ run c.in-len1-up.len_at_least other c.in_ok-push_escape-in-len1-up.ensures.ok
