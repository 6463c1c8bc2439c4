use Rattle.std.proofs.Common.{ℕ}
use Rattle.std.proofs.lemmas.List.{take_rest}
use Rattle.ferry_blob.proofs.SealLemmas.{sealed_whole}
use Rattle.ferry_blob.proofs.sealing.seal.Goals as goal

pub returns : goal.returns
returns c =
    let h =
    sealed_whole c.args.keys.now c.args.mode c.args.nonce c.args.buffer.now c.encrypt.new.buffer c.put_head.new.buffer c.ranges.nonce.fits
    c.encrypt.ensures.part (rw (c.hmac256-mac.ensures.mac, take_rest {X = ℕ} c.encrypt.new.buffer 33) at c.put_head.ensures.blob) in
    record { blob = h.blob; opens = h.opens; kind = h.kind; nonce = h.nonce }
