use Rattle.std.proofs.Common.{◌≡◌}
use Rattle.ferry_aes.specs.Circuit.{circuit}
use Rattle.ferry_aes.specs.Planes.{wires}
use Rattle.ferry_aes.proofs.ByteLemmas.{byte_at-circuit}
use Rattle.ferry_aes.proofs.wide_circuit.substituted_planes.Goals as goal

pub returns : goal.returns
unfolding circuit
returns c j i lane bit =
    let y = c.first_sums-firsts.ensures j i lane bit in
    let t = c.to_invert.ensures j i lane bit in
    let v = c.inverse_bits-inverted.ensures j i lane bit in
    let z = c.products.ensures j i lane bit in
    let s = c.last_sums.ensures j i lane bit in
    let whole : wires 8 c.last_sums.result j i ≡ circuit (wires 8 c.args.planes.now j i) = cc in
    byte_at-circuit c.args.planes.now c.last_sums.result j i whole
