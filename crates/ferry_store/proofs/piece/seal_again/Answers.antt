use Rattle.std.proofs.Common.{rules, ◌≡◌, ◌⊎◌, ℕ, None, Some, List, ◌∙◌, inl, refl, drop, sym, subst}
use Rattle.ferry_base.specs.Limits.{zero_id}
use Rattle.ferry_blob.proofs.BlobLemmas.{opens_no_fault}
use Rattle.ferry_blob.specs.Blob.{OpensTo, content_id, nonce_of}
use Rattle.ferry_store.proofs.PieceLemmas.{blob_kept, opened_blob, opened_plain}
use Rattle.ferry_store.proofs.piece.seal_again.Goals as goal
use Rattle.ferry_store.proofs.piece.seal_again.Goals.{then-is_blob+else-nonce_in-first+in-Ok, else-is_blob}
use Rattle.ferry_store.specs.Piece.{content_in}

pub returns-then-nonce_in-first-clause-opens : goal.returns-then-nonce_in-first-clause-opens
returns-then-nonce_in-first-clause-opens c =
    (blob_kept c.args.keys.now c.args.mode c.args.first c.args.is_blob c.args.buffer.now c.if-is_blob.true
    (sym c.nonce_in.ensures.nonce ∙ c.if-nonce_in-first.true) c.requires.ready).opens

pub unreachable-requires : goal.unreachable-requires
unreachable-requires c =
    let keys = c.args.keys.now in
    let buffer = c.args.buffer.now in
    let content = content_in keys c.args.is_blob buffer in
    let opens : OpensTo keys zero_id buffer content =
    (blob_kept keys c.args.mode (nonce_of buffer) c.args.is_blob buffer c.if-is_blob.true refl c.requires.ready).opens zero_id (inl refl) in
    let no : None ≡ Some c.in_default.field-0 = sym (opens_no_fault keys zero_id buffer content opens) ∙ c.in_default.ensures.fault in
    absurd cc

pub returns-clause-opens : goal.returns-clause-opens
returns-clause-opens c =
    let keys = c.args.keys.now in
    let content = content_in keys c.args.is_blob c.args.buffer.now in
    let inside : drop 43 c.if-is_blob.buffer ≡ content =
    elim c.if-is_blob.branch [
      | then-is_blob+else-nonce_in-first+in-Ok w ↦
          opened_blob keys c.args.is_blob c.args.buffer.now c.if-is_blob.buffer w.if-is_blob.true (search rules)
      | else-is_blob w ↦ opened_plain keys c.args.is_blob c.args.buffer.now c.if-is_blob.buffer w.if-is_blob.false (search rules)
    ] in
    subst (λ (text : List ℕ). (id : List ℕ) → (id ≡ zero_id) ⊎ (id ≡ content_id keys text) → OpensTo keys id c.seal.new.buffer text) inside
    c.seal.ensures.opens
