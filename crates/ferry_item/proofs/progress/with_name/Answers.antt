use Rattle.std.proofs.Common.{◌≡◌, false, sym, ap, ◌∙◌}
use Rattle.ferry_msgpack.specs.Tree.{has_key, put}
use Rattle.ferry_msgpack.specs.View.{pairs_view}
use Rattle.ferry_msgpack.specs.declared.value.Value.{Nil}
use Rattle.ferry_msgpack.proofs.ViewLemmas.{pairs_view-insert_entry, has_key-lookup, view_nil}
use Rattle.ferry_item.proofs.progress.with_name.Goals as goal

pub returns : goal.returns
returns c =
    let before = pairs_view c.args.names.entries in
    let key = c.as_slice.result.now in
    let new : has_key key before ≡ false = sym (has_key-lookup key c.args.names.entries) ∙ sym c.contains_key.ensures ∙ c.if-contains_key.false in (
      ap (λ k. has_key k before) (sym c.as_slice.ensures.value) ∙ new,
      ap pairs_view c.in_ok-insert.ensures.entries ∙ pairs_view-insert_entry c.args.names.entries c.args.name Nil
          ∙ ap (λ t. put c.args.name.items t before) view_nil,
    )
