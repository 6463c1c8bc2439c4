use Rattle.std.proofs.Common.{◌≡◌, ◌≤◌, ◌++◌, List, Some, OnOk, sym, subst}
use Rattle.std.specs.List.{AllByRecursion}
use Rattle.ferry_base.specs.Limits.{content_limit}
use Rattle.ferry_carry.specs.Copied.{IsRead}
use Rattle.ferry_gen.proofs.PutLemmas.{on_any, source_sizes}
use Rattle.ferry_gen.proofs.put.put_item.Goals as goal
use Rattle.ferry_gen.specs.Content.{file_content}
use Rattle.ferry_gen.specs.Fields.{item_fields}
use Rattle.ferry_item.specs.Writing.{item_text}
use Rattle.ferry_item.specs.declared.item.ChunkRef.{ChunkRef}
use Rattle.ferry_repo.specs.Opening.{repo_view}

pub spell_item-requires-clause-sizes : goal.spell_item-requires-clause-sizes
spell_item-requires-clause-sizes g c =
    subst (AllByRecursion (λ (chunk : ChunkRef). chunk.size ≤ content_limit)) (sym c.in-Ok.ensures.chunks)
    (source_sizes (repo_view c.args.store.now.repo).keys (file_content c.args.archive c.args.file))

pub returns-in-Ok-clause-puts : goal.returns-in-Ok-clause-puts
returns-in-Ok-clause-puts g c = on_any {T = Unit {0}} c.spell_item.result c.in-Ok.ensures.puts

pub returns-in-Ok-clause-spelled : goal.returns-in-Ok-clause-spelled
returns-in-Ok-clause-spelled g c =
    subst (λ (cs : List ChunkRef). OnOk c.spell_item.result (c.spell_item.new.stream.items ≡ c.args.stream.now.items
    ++ item_text (record { fields = item_fields c.args.file; chunks = Some cs }))) c.in-Ok.ensures.chunks c.spell_item.ensures.spelled

pub returns-in-Ok-clause-read : goal.returns-in-Ok-clause-read
returns-in-Ok-clause-read g c =
    subst (λ (cs : List ChunkRef). OnOk c.spell_item.result (IsRead (record { fields = item_fields c.args.file; chunks = Some cs }))) c.in-Ok.ensures.chunks
    c.spell_item.ensures.read
