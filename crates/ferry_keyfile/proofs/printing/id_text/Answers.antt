use Rattle.std.proofs.Common.{arith}
use Rattle.hex.proofs.HexLemmas.{decode_sized-encode_lower}
use Rattle.ferry_keyfile.proofs.printing.id_text.Goals as goal

pub returns-clause-read_again : goal.returns-clause-read_again
returns-clause-read_again c = decode_sized-encode_lower c.args.id.now 32 c.requires (λ i. omega (arith, c.type_inv.id i))
