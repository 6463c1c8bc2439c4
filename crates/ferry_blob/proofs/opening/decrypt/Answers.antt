use Rattle.std.proofs.Common.{ℕ, ◌++◌, take, ap, ◌∙◌, arith}
use Rattle.std.proofs.lemmas.List.{take_rest}
use Rattle.ferry_blob.specs.Blob.{decrypted, plaintext}
use Rattle.ferry_blob.proofs.BlobLemmas.{put_rest}
use Rattle.ferry_blob.proofs.opening.decrypt.Goals as goal

pub returns : goal.returns
unfolding decrypted plaintext
returns c =
    let blob = c.args.blob.now in
    let text = rw (c.nonce_in-nonce.ensures.nonce, take_rest {X = ℕ} blob 41) at c.add_key_stream.ensures.text in
    record { decrypted = put_rest 41 blob c.add_key_stream.new.text (omega arith) ∙ ap (λ rest. take 41 blob ++ rest) text }
