use Rattle.std.proofs.Common.{◌≡◌, ◌≤◌, List, length, refl, sym, ◌∙◌, ap, subst, arith}
use Rattle.std.specs.List.{AllByRecursion}
use Rattle.ferry_item.specs.declared.item.ChunkRef.{ChunkRef}
use Rattle.ferry_mac.specs.declared.keys.Keys.{Keys}
use Rattle.ferry_rechunk.specs.Cut.{cut}
use Rattle.ferry_repo.proofs.NotedLemmas.{told_noted}
use Rattle.ferry_repo.specs.Opening.{cached_in, repo_view}
use Rattle.ferry_store.specs.Adding.{IsAnswered}
use Rattle.ferry_piece.specs.Gather.{chunks_of}
use Rattle.ferry_carry.proofs.KnownLemmas.{ids_hold, pieces_named}
use Rattle.ferry_carry.proofs.copy.known_content.Goals as goal

pub returns-in-Ok : goal.returns-in-Ok
returns-in-Ok c = record {
  known = λ told fits.
      let store = c.args.store.now in
      let block = c.args.block in
      let keys = (repo_view store.repo).keys in
      let source = c.args.source.now in
      let pieces = c.in_ok-pieces.pieces.now in
      let found = told_noted told (repo_view source) (cached_in source)
      (record { key = c.keys.result.now.id_key; block = block; chunks = c.args.chunks.now; pieces = pieces })
      c.in_ok-pieces.ensures.cut c.in_ok-pieces.ensures.noted fits in
      let content = found.0 in
      let are : pieces ≡ chunks_of keys (cut block content) =
      found.1.0 ∙ (pieces_named c.keys.result.now (cut block content) ∙ ap (λ (k : Keys). chunks_of k (cut block content)) c.keys.ensures.keys) in
      let copied : c.new.result ≡ pieces = c.new.ensures.chunks ∙ c.in-Ok.ensures.items in
      record {
        content = content;
        copied_are = copied ∙ are;
        few = subst (λ (chunks : List ChunkRef). length chunks ≤ 4294967295) (sym copied) (omega arith);
        holds = found.1.1;
        answered = ids_hold (IsAnswered store) keys (cut block content)
            (subst (λ (chunks : List ChunkRef). AllByRecursion (λ (chunk : ChunkRef). IsAnswered store chunk.id) chunks) are
            (c.if-not-are_known.ensures.known refl));
      };
}
