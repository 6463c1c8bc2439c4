use Rattle.std.proofs.Common.{◌∙◌, arith, subst, ◌<◌}
use Rattle.ferry_segment.proofs.HeadLemmas.{fault_short, fault_small, fault_large, fault_cut, front_size, front_crc, front_byte, front_key}
use Rattle.ferry_segment.proofs.head.read_head.Goals.{then-size-via-then-size, then-size-via-else-size+then-size-2, then-size-3, else-size-3}
use Rattle.ferry_segment.proofs.head.read_head.Goals as goal

pub returns-then-left-clause-stated : goal.returns-then-left-clause-stated
returns-then-left-clause-stated c bytes sized front = fault_short bytes (omega arith)

pub returns-then-size-clause-stated : goal.returns-then-size-clause-stated
returns-then-size-clause-stated c bytes sized front =
    let size = front_size c.args.front.now bytes c.word_at-size.result front (omega arith) c.word_at-size.ensures in
    elim c.then-size.branch [
      | then-size-via-then-size w ↦ fault_small bytes (omega arith) (omega arith)
      | then-size-via-else-size+then-size-2 w ↦ fault_large bytes (omega arith) (omega arith)
    ]

pub returns-then-left-from-clause-stated : goal.returns-then-left-from-clause-stated
returns-then-left-from-clause-stated c bytes sized front =
    let size = front_size c.args.front.now bytes c.word_at-size.result front (omega arith) c.word_at-size.ensures in
    fault_cut bytes (omega arith) (omega arith) (omega arith) (omega arith)

pub returns-clause-stated : goal.returns-clause-stated
returns-clause-stated c bytes sized front =
    let size = front_size c.args.front.now bytes c.word_at-size.result front (omega arith) c.word_at-size.ensures in
    record {
      crc = front_crc c.args.front.now bytes c.word_at.result front (omega arith) c.word_at.ensures;
      size = size;
      least = omega arith;
      most = omega arith;
      within = omega arith;
      tag = front_byte c.args.front.now bytes 8 front (omega arith);
      key = λ h. elim c.if-size-3.branch [
        | then-size-3 w ↦ absurd (omega arith)
        | else-size-3 w ↦ w.key-is ∙ (w.key_of-key.ensures ∙ front_key c.args.front.now bytes front (omega arith))
      ];
      no_key = λ h. elim c.if-size-3.branch [
        | then-size-3 w ↦ w.key-is
        | else-size-3 w ↦ absurd (omega arith)
      ];
      small = λ i l. subst (λ b. b < 256) (front_byte c.args.front.now bytes i front (omega arith)) (omega (arith, c.type_inv.front i));
    }
