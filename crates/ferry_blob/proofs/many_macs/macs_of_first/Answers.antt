use Rattle.std.proofs.Common.{arith}
use Rattle.ferry_mac.specs.Hmac.{hmac256}
use Rattle.ferry_blob.proofs.ManyLemmas.{first_made}
use Rattle.ferry_blob.proofs.many_macs.macs_of_first.Goals as goal

pub returns : goal.returns
returns c = record {
  macs = λ k low. rw (c.hmac256_many.ensures.macs) (first_made (hmac256 c.args.key.now) c.args.texts.now _ c.args.count k (omega arith) low);
}
