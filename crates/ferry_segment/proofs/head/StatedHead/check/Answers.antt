use Rattle.std.proofs.Common.{◌∙◌, arith, drop}
use Rattle.ferry_segment.proofs.HeadLemmas.{fault_crc, stated_fault, fault_tag, fault_put, fault_delete, fault_commit, put_found, delete_found}
use Rattle.ferry_segment.proofs.HeadLemmas.{commit_found}
use Rattle.ferry_segment.proofs.head.StatedHead.check.Goals as goal

pub returns-then-checksum-self-clause-decided : goal.returns-then-checksum-self-clause-decided
returns-then-checksum-self-clause-decided c bytes at within s e = fault_crc (drop at bytes) c.args.self.now c.args.checksum s e c.if-checksum-self.true

pub returns-in-0-clause-decided : goal.returns-in-0-clause-decided
returns-in-0-clause-decided c bytes at within s e =
    put_found bytes at c.args.self.now c.args.checksum within s e (omega arith) c.in-0.is c.if-size-ge-PUT_HEAD.true

pub returns-in-1-clause-decided : goal.returns-in-1-clause-decided
returns-in-1-clause-decided c bytes at within s e =
    delete_found bytes at c.args.self.now c.args.checksum within s e (omega arith) c.in-1.is c.if-size-eq-PUT_HEAD.true

pub returns-in-2-clause-decided : goal.returns-in-2-clause-decided
returns-in-2-clause-decided c bytes at within s e =
    commit_found bytes at c.args.self.now c.args.checksum within s e (omega arith) c.in-2.is c.if-size-eq-COMMIT_SIZE.true

pub returns-in_default-clause-decided : goal.returns-in_default-clause-decided
returns-in_default-clause-decided c bytes at within s e =
    stated_fault (drop at bytes) c.args.self.now c.args.checksum s e (omega arith)
    ∙ fault_tag c.args.self.now.head.tag c.args.self.now.head.size (omega arith) (omega arith) (omega arith)

pub returns-in-0-2-clause-decided : goal.returns-in-0-2-clause-decided
returns-in-0-2-clause-decided c bytes at within s e =
    stated_fault (drop at bytes) c.args.self.now c.args.checksum s e (omega arith) ∙ fault_put _ c.args.self.now.head.size c.in-0.is (omega arith)

pub returns-in-0-2-2-clause-decided : goal.returns-in-0-2-2-clause-decided
returns-in-0-2-2-clause-decided c bytes at within s e =
    stated_fault (drop at bytes) c.args.self.now c.args.checksum s e (omega arith)
    ∙ fault_delete _ c.args.self.now.head.size c.in-1.is c.if-size-eq-PUT_HEAD.false

pub returns-in-0-2-3-clause-decided : goal.returns-in-0-2-3-clause-decided
returns-in-0-2-3-clause-decided c bytes at within s e =
    stated_fault (drop at bytes) c.args.self.now c.args.checksum s e (omega arith)
    ∙ fault_commit _ c.args.self.now.head.size c.in-2.is c.if-size-eq-COMMIT_SIZE.false
