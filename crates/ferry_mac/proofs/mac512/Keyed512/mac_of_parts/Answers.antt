use Rattle.std.proofs.Common.{◌≡◌, ◌++◌, append_assoc}
use Rattle.sha2.specs.Hashers.{Holds512}
use Rattle.sha2.specs.Sha512.{sha512}
use Rattle.ferry_mac.specs.Hmac.{block_key, hmac512, inner_pad, outer_pad, xored_with}
use Rattle.ferry_mac.proofs.mac512.Keyed512.mac_of_parts.Goals as goal

pub returns : goal.returns
unfolding hmac512
returns c = record {
  mac = λ key keyed.
      let block = block_key sha512 128 key in
      let text = xored_with inner_pad block ++ (c.args.first.now ++ c.args.second.now) in
      let begun : Holds512 c.chain_update-begun.result (xored_with inner_pad block ++ c.args.first.now) = c.chain_update-begun.ensures _ keyed.inner in
      let taken : Holds512 c.chain_update.result text = rw append_assoc at (c.chain_update.ensures _ begun) in
      let digest : c.finalize-digest.result ≡ sha512 text = c.finalize-digest.ensures text taken in
      let whole : Holds512 c.chain_update-2.result (xored_with outer_pad block ++ sha512 text) =
      rw digest at (c.chain_update-2.ensures _ keyed.outer) in
      c.finalize.ensures _ whole;
}
