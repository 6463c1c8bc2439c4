use Rattle.std.proofs.Common.{◌+◌, ℕ, List, [], ◌∷◌, ◌++◌, refl, sym, ◌∙◌, ap, subst}
use Rattle.std.specs.List.{AllByRecursion}
use Rattle.ferry_carry.specs.Copied.{IsRead, contents_of, copied_item, copied_stream}
use Rattle.ferry_gen.proofs.ListLemmas.{contents_more, items_more, items_none, stream_more}
use Rattle.ferry_gen.proofs.PutLemmas.{puts_as, puts_here, puts_then}
use Rattle.ferry_gen.proofs.put.put_items.Goals as goal
use Rattle.ferry_gen.specs.Archives.{drill_item, items_front}
use Rattle.ferry_gen.specs.Content.{file_content}
use Rattle.ferry_gen.specs.Source.{source_block}
use Rattle.ferry_item.specs.Writing.{item_text}
use Rattle.ferry_piece.proofs.GatherLemmas.{rest_here, rest_then}
use Rattle.ferry_rechunk.specs.Cut.{cut}
use Rattle.ferry_repo.specs.Opening.{repo_view}
use Rattle.ferry_repo.specs.Whole.{WholeItem}
use Rattle.ferry_write.proofs.StandLemmas.{all-append}

pub loop-file-init : goal.loop-file-init
loop-file-init g c =
    let keys = (repo_view c.args.store.now.repo).keys in
    let none = items_none c.args.archive in
    record {
      puts = puts_as [] (contents_of source_block (items_front c.args.archive 0)) c.args.store.now c.args.store.now (g.D.Shelf.told c.args.depot.now)
          (g.D.Shelf.told c.args.depot.now) (ap (contents_of source_block) (sym none)) (puts_here c.args.store.now (g.D.Shelf.told c.args.depot.now));
      spelled = c.new-stream.ensures.items ∙ ap (copied_stream keys source_block) (sym none);
      read = subst (AllByRecursion (λ whole. IsRead (copied_item keys source_block whole))) (sym none) tt;
      pending = c.requires.pending;
      rest = rest_here c.args.store.now;
      fits = c.requires.fits;
      unspent = c.requires.unspent;
      faults = refl;
    }

pub loop-file-preserved : goal.loop-file-preserved
loop-file-preserved g c =
    let store = c.args.store.now in
    let keys = (repo_view store.repo).keys in
    let before = c.loop-file.invariant in
    let middle = c.loop-file.store in
    let now = c.put_item.new.store in
    let archive = c.args.archive in
    let file = c.loop-file.file in
    let front = items_front archive file in
    let one = drill_item archive file in
    let pieces = cut source_block (file_content archive file) in
    let next = items_more archive file (file + 1) refl in
    let same = before.rest.keys in
    let added = c.in_ok-put_item.ensures in
    record {
      puts = puts_as (contents_of source_block front ++ pieces) (contents_of source_block (items_front archive (file + 1))) store now
          (g.D.Shelf.told c.args.depot.now) (g.D.Shelf.told c.put_item.new.depot)
          (sym (contents_more source_block front one) ∙ ap (contents_of source_block) (sym next))
          (puts_then (contents_of source_block front) pieces store middle now (g.D.Shelf.told c.args.depot.now) (g.D.Shelf.told c.loop-file.depot)
          (g.D.Shelf.told c.put_item.new.depot) before.rest added.rest before.puts added.puts);
      spelled = added.spelled
          ∙ (ap (λ (l : List ℕ). l ++ item_text (copied_item (repo_view middle.repo).keys source_block one)) before.spelled
          ∙ (ap (λ k. copied_stream keys source_block front ++ item_text (copied_item k source_block one)) same
          ∙ (sym (stream_more keys source_block front one) ∙ ap (copied_stream keys source_block) (sym next))));
      read = subst (AllByRecursion (λ (whole : WholeItem). IsRead (copied_item keys source_block whole))) (sym next)
          (all-append (λ (whole : WholeItem). IsRead (copied_item keys source_block whole)) front (one ∷ []) before.read
          (subst (λ k. IsRead (copied_item k source_block one)) same added.read, tt));
      pending = added.pending;
      rest = rest_then store middle now before.rest added.rest;
      fits = added.fits;
      unspent = added.unspent;
      faults = added.cause ∙ before.faults;
    }
