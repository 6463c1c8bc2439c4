use Rattle.std.proofs.Common.{ℕ, drop, take, ap, ◌∙◌, arith}
use Rattle.std.proofs.lemmas.List.{drop-drop, drop_at, length-take-le, take_rest}
use Rattle.ferry_blob.specs.Blob.{authenticated}
use Rattle.ferry_blob.proofs.BlobLemmas.{put_rest}
use Rattle.ferry_blob.proofs.sealing.encrypt.Goals as goal

pub returns : goal.returns
returns c =
    let buffer = c.args.buffer.now in
    let part = c.encrypt_part.new.part in
    let is = rw (take_rest {X = ℕ} buffer 33) at c.encrypt_part.ensures.part in
    record {
      part =
          ap (drop 33) (put_rest 33 buffer part (omega arith)) ∙ drop_at (take 33 buffer) part 33 (length-take-le 33 buffer (omega arith)) ∙ is
          ∙ ap (authenticated c.args.key.now c.args.nonce) (drop-drop 10 33 buffer);
    }
