use Rattle.std.proofs.Common.{ℕ, ◌∙◌, true, false, sym, rules}
use Rattle.std.proofs.lemmas.List.{take_rest}
use Rattle.ferry_blob.proofs.BatchLemmas.{fault_under, named_fault, opened_whole, room_of}
use Rattle.ferry_blob.proofs.opening.open_blob.Goals as goal

pub returns-in_err-open_by_mac-clause-fault : goal.returns-in_err-open_by_mac-clause-fault
returns-in_err-open_by_mac-clause-fault c =
    let same = fault_under c.args.keys.now c.args.id.now c.args.blob.now c.in_err-open_by_mac.field-0.0 c.in_err-open_by_mac.ensures.opened.fault in
    search (rules, same)

pub returns-then-not-is_named-clause-fault : goal.returns-then-not-is_named-clause-fault
returns-then-not-is_named-clause-fault c =
    let h = c.in_ok-open_by_mac.ensures.opened in
    named_fault c.args.keys.now c.args.id.now c.args.blob.now c.open_by_mac.new.blob false h.ok h.decrypted
    (sym c.if-not-is_named.true ∙ rw (take_rest {X = ℕ} c.open_by_mac.new.blob 43) at c.is_named.ensures.named)

pub returns-clause-ok : goal.returns-clause-ok
returns-clause-ok c =
    let h = c.in_ok-open_by_mac.ensures.opened in
    named_fault c.args.keys.now c.args.id.now c.args.blob.now c.open_by_mac.new.blob true h.ok h.decrypted
    (sym c.if-not-is_named.false ∙ rw (take_rest {X = ℕ} c.open_by_mac.new.blob 43) at c.is_named.ensures.named)

pub returns-clause-opened : goal.returns-clause-opened
returns-clause-opened c = (opened_whole c.args.keys.now c.args.id.now c.args.blob.now c.open_by_mac.new.blob
    (room_of c.args.keys.now c.args.id.now c.args.blob.now (returns-clause-ok c)) c.in_ok-open_by_mac.ensures.opened.decrypted (returns-clause-ok c)).opened
