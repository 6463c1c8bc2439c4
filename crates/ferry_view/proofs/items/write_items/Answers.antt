use Rattle.std.proofs.Common.{◌≡◌, Ok, ◌++◌, ◌∷◌, [], IfErr, IfSome, option_map, refl, ◌∙◌, ap, subst}
use Rattle.ferry_disk.specs.Device.{told_files, WritesSome}
use Rattle.ferry_item.specs.Item.{item_view}
use Rattle.ferry_repo.specs.Opening.{repo_view}
use Rattle.ferry_repo.specs.Walk.{LeadsOn, walk_view}
use Rattle.ferry_view.specs.Lines.{item_line}
use Rattle.ferry_view.specs.Output.{IsOfArchive}
use Rattle.ferry_view.proofs.OutputLemmas.{on_ok, on_err, err_holds}
use Rattle.ferry_view.proofs.SoFarLemmas.{ends_answer, ends_at, lists_all, lists_begin, lists_cut, lists_ended, lists_next, lists_sent, lists_some}
use Rattle.ferry_view.proofs.ShownLemmas.{log_fits}
use Rattle.ferry_view.proofs.items.write_items.Goals as goal

pub loop-init : goal.loop-init
loop-init g c = record {
  lists = lists_begin (g.S.Shelf.told c.args.shelf.now) (repo_view c.args.repo.now) (walk_view c.args.walk.now) (g.K.Sink.written c.args.out.now)
      c.new-text.result.items c.new-text.ensures.items c.requires.walk_fits;
  fits = c.requires.fits;
  repo = refl;
  same = refl;
  faults = refl;
  out = refl;
}

pub returns-in-Err-clause-err : goal.returns-in-Err-clause-err
returns-in-Err-clause-err g c =
    let out = g.K.Sink.written c.loop.out in
    let after = g.K.Sink.written c.end_lines.new.out in
    err_holds _ _ (lists_cut (g.S.Shelf.told c.args.shelf.now) (repo_view c.args.repo.now) (walk_view c.args.walk.now) (walk_view c.loop.walk)
    (g.K.Sink.written c.args.out.now) out after c.loop.text.items (log_fits _ _ _ c.requires.fits) c.loop.invariant.lists
    (subst (λ s. WritesSome out s after) c.deref-in-Err.ensures.value c.end_lines.ensures.err))

pub returns-in-Err-clause-all : goal.returns-in-Err-clause-all
returns-in-Err-clause-all g c =
    let out = g.K.Sink.written c.loop.out in
    let after = g.K.Sink.written c.end_lines.new.out in
    lists_ended (g.S.Shelf.told c.args.shelf.now) (g.S.Shelf.told c.loop.shelf) (repo_view c.args.repo.now) (repo_view c.loop.repo)
    (walk_view c.args.walk.now) (walk_view c.loop.walk) (g.K.Sink.written c.args.out.now) out after c.loop.text.items c.in-Err.fault c.end_lines.result
    c.loop.invariant.same c.loop.invariant.repo c.loop.invariant.lists c.in-Err.ensures.refused c.end_lines.ensures.fault
    (subst (λ s. IfErr c.end_lines.result (λ answer. IsOfArchive answer → after ≡ option_map (λ w. w ++ s) out)) c.deref-in-Err.ensures.value
    c.end_lines.ensures.all)

pub returns-in-Err-clause-refused : goal.returns-in-Err-clause-refused
returns-in-Err-clause-refused g c =
    let told = g.S.Shelf.told c.args.shelf.now in
    let repo = repo_view c.args.repo.now in
    let from = walk_view c.args.walk.now in
    let lists = c.loop.invariant.lists in
    ends_answer told repo from c.in-Err.fault c.end_lines.result c.end_lines.ensures.fault
    (ends_at told (g.S.Shelf.told c.loop.shelf) repo (repo_view c.loop.repo) from (walk_view c.loop.walk) lists.done c.in-Err.fault
    c.loop.invariant.same c.loop.invariant.repo lists.answers c.in-Err.ensures.refused)

pub returns-in_err-added-in-Ok-Some-clause-err : goal.returns-in_err-added-in-Ok-Some-clause-err
returns-in_err-added-in-Ok-Some-clause-err g c =
    let told = g.S.Shelf.told c.args.shelf.now in
    let later = g.S.Shelf.told c.loop.shelf in
    let repo = repo_view c.args.repo.now in
    let now_repo = repo_view c.loop.repo in
    let from = walk_view c.args.walk.now in
    let now = walk_view c.loop.walk in
    let after = walk_view c.step.new.self in
    let old = g.K.Sink.written c.args.out.now in
    let out = g.K.Sink.written c.loop.out in
    let item = item_view c.in-Ok-Some.item in
    let leads = subst (λ o. IfSome o (λ i. IfSome later (λ t. LeadsOn (told_files t) now_repo.log now_repo.keys now (item_view i ∷ []) after)))
    c.in-Ok-Some.field-0-is c.in-Ok-Some.ensures.item in
    let next = lists_next told later repo now_repo from now after old out c.loop.text.items item c.loop.invariant.same c.loop.invariant.repo
    c.loop.invariant.lists leads c.in-Ok-Some.ensures.walk_fits in
    err_holds _ _ (lists_cut told repo from after old out (g.K.Sink.written c.add_item-added.new.out) (c.loop.text.items ++ item_line item)
    (log_fits _ _ _ c.requires.fits) next c.in_err-added-in-Ok-Some.ensures.err)

pub returns-in-Ok-None-clause-ok : goal.returns-in-Ok-None-clause-ok
returns-in-Ok-None-clause-ok g c =
    let out = g.K.Sink.written c.loop.out in
    on_ok c.send.result _ _ (λ went.
    lists_all (g.S.Shelf.told c.args.shelf.now) (g.S.Shelf.told c.loop.shelf) (repo_view c.args.repo.now) (repo_view c.loop.repo)
    (walk_view c.args.walk.now) (walk_view c.loop.walk) (g.K.Sink.written c.args.out.now) out (g.K.Sink.written c.send.new.out) c.loop.text.items
    c.loop.invariant.same c.loop.invariant.repo c.loop.invariant.lists (c.in-Ok-None.ensures.none (ap Ok c.in-Ok-None.field-0-is))
    (went ∙ ap (λ s. option_map (λ w. w ++ s) out) c.deref.ensures.value)) c.send.ensures.ok

pub returns-in-Ok-None-clause-err : goal.returns-in-Ok-None-clause-err
returns-in-Ok-None-clause-err g c =
    let out = g.K.Sink.written c.loop.out in
    let after = g.K.Sink.written c.send.new.out in
    on_err c.send.result _ _ (λ front.
    lists_cut (g.S.Shelf.told c.args.shelf.now) (repo_view c.args.repo.now) (walk_view c.args.walk.now) (walk_view c.loop.walk)
    (g.K.Sink.written c.args.out.now) out after c.loop.text.items (log_fits _ _ _ c.requires.fits) c.loop.invariant.lists
    (subst (λ s. WritesSome out s after) c.deref.ensures.value front)) c.send.ensures.err

pub loop-preserved : goal.loop-preserved
loop-preserved g c =
    let told = g.S.Shelf.told c.args.shelf.now in
    let later = g.S.Shelf.told c.loop.shelf in
    let repo = repo_view c.args.repo.now in
    let now_repo = repo_view c.loop.repo in
    let from = walk_view c.args.walk.now in
    let now = walk_view c.loop.walk in
    let after = walk_view c.step.new.self in
    let old = g.K.Sink.written c.args.out.now in
    let out = g.K.Sink.written c.loop.out in
    let item = item_view c.in-Ok-Some.item in
    let leads = subst (λ o. IfSome o (λ i. IfSome later (λ t. LeadsOn (told_files t) now_repo.log now_repo.keys now (item_view i ∷ []) after)))
    c.in-Ok-Some.field-0-is c.in-Ok-Some.ensures.item in
    let next = lists_next told later repo now_repo from now after old out c.loop.text.items item c.loop.invariant.same c.loop.invariant.repo
    c.loop.invariant.lists leads c.in-Ok-Some.ensures.walk_fits in
    record {
      lists = lists_sent told repo from after old out (g.K.Sink.written c.add_item-added.new.out) (c.loop.text.items ++ item_line item)
          c.add_item-added.new.text.items next c.in_ok-added-in-Ok-Some.ensures.ok;
      fits = c.in-Ok-Some.ensures.fits;
      repo = c.in-Ok-Some.ensures.kept ∙ c.loop.invariant.repo;
      same = c.in-Ok-Some.ensures.same ∙ c.loop.invariant.same;
      faults = c.in-Ok-Some.ensures.cause ∙ c.loop.invariant.faults;
      out = c.in_ok-added-in-Ok-Some.ensures.cause ∙ c.loop.invariant.out;
    }

pub returns-clause-err : goal.returns-clause-err
returns-clause-err g c =
    lists_some (g.S.Shelf.told c.args.shelf.now) (repo_view c.args.repo.now) (walk_view c.args.walk.now) (walk_view c.loop.walk)
    (g.K.Sink.written c.args.out.now) (g.K.Sink.written c.loop.out) c.loop.text.items (log_fits _ _ _ c.requires.fits) c.loop.invariant.lists
