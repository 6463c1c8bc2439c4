use Rattle.std.proofs.Common.{◌≡◌, ◌++◌}
use Rattle.sha2.specs.Hashers.{Holds256}
use Rattle.sha2.specs.Sha256.{sha256}
use Rattle.ferry_mac.specs.Hmac.{block_key, hmac256, inner_pad, outer_pad, xored_with}
use Rattle.ferry_mac.proofs.mac256.Keyed256.mac.Goals as goal

pub returns : goal.returns
unfolding hmac256
returns c = record {
  mac = λ key keyed.
      let block = block_key sha256 64 key in
      let text = xored_with inner_pad block ++ c.args.bytes.now in
      let taken : Holds256 c.chain_update.result text = c.chain_update.ensures _ keyed.inner in
      let digest : c.finalize-digest.result ≡ sha256 text = c.finalize-digest.ensures text taken in
      let whole : Holds256 c.chain_update-2.result (xored_with outer_pad block ++ sha256 text) =
      rw digest at (c.chain_update-2.ensures _ keyed.outer) in
      c.finalize.ensures _ whole;
}
