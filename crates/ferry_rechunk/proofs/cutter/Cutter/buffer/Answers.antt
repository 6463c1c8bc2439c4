use Rattle.std.proofs.Common.{◌≡◌, ◌≤◌, ◌+◌, length, drop, vec_len, ap, ◌∙◌, refl, arith}
use Rattle.ferry_rechunk.proofs.CutterLemmas.{piece_fits, piece_seen, memory_length, seen_after_loan}
use Rattle.ferry_rechunk.proofs.cutter.Cutter.buffer.Goals as goal

pub returns : goal.returns
returns c =
    let block = c.self.inside.block in
    let bytes = c.self.inside.bytes in
    let lent : c.as_mut_slice.result.now ≡ bytes.items = c.as_mut_slice.ensures.value in
    let long = memory_length block bytes.items c.args.self.now c.self.view_is c.self.invariant.2 in
    let fits : length bytes.items ≤ 43 + block = c.self.invariant.3 in (
      (refl, λ w. seen_after_loan block (vec_len bytes) bytes.items c.as_mut_slice.result.now w c.args.self.now c.self.view_is lent bytes.ok.0),
      record {
        written = tt;
        piece = ap (drop 43) lent ∙ piece_seen block bytes.items c.args.self.now c.self.view_is;
        length = ap length lent ∙ long;
        fits = piece_fits block bytes.items c.args.self.now c.self.view_is fits;
        limit = rw lent (omega (arith, c.self.invariant.1));
      },
    )
