use Rattle.std.proofs.Common.{ℕ, ◌∙◌, drop, length, ap, sym, arith}
use Rattle.std.proofs.lemmas.List.{drop_all, take_rest}
use Rattle.ferry_blob.specs.Batch.{bytes_at}
use Rattle.ferry_blob.proofs.BatchLemmas.{unopened}
use Rattle.ferry_blob.proofs.many_opening.content_at.Goals as goal
use Rattle.ferry_blob.proofs.many_opening.content_at.Goals.{then-is_err-via-then-is_err, then-is_err-via-else-is_err+then-blob-lt43}

pub returns-then-is_err : goal.returns-then-is_err
returns-then-is_err c =
    elim c.then-is_err.branch [
      | then-is_err-via-then-is_err w ↦ record {
        content = λ ok. absurd (unopened c.args.answers.now c.args.place c.is_err.result (omega arith) c.is_err.ensures.value w.if-is_err.true ok);
      }
      | then-is_err-via-else-is_err+then-blob-lt43 w ↦ record {
        content = λ ok. sym (drop_all 43 (bytes_at c.args.blobs.now c.args.place) (omega (arith, ap length c.bytes_at-blob.ensures.bytes)));
      }
    ]

pub returns : goal.returns
returns c = record { content = λ ok. take_rest {X = ℕ} c.bytes_at-blob.result.now 43 ∙ ap (drop 43) c.bytes_at-blob.ensures.bytes }
