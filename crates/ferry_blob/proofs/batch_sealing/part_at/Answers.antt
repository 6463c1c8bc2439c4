use Rattle.std.proofs.Common.{ℕ, ◌∙◌, drop, length, ap, sym, arith}
use Rattle.std.proofs.lemmas.List.{drop_all, take_rest}
use Rattle.ferry_blob.specs.Batch.{bytes_at}
use Rattle.ferry_blob.proofs.batch_sealing.part_at.Goals as goal

pub returns-then-buffer-lt33 : goal.returns-then-buffer-lt33
returns-then-buffer-lt33 c = record {
  part = sym (drop_all 33 (bytes_at c.args.buffers.now c.args.place) (omega (arith, ap length c.bytes_at-buffer.ensures.bytes)));
}

pub returns : goal.returns
returns c = record { part = take_rest {X = ℕ} c.bytes_at-buffer.result.now 33 ∙ ap (drop 33) c.bytes_at-buffer.ensures.bytes }
