use Rattle.std.proofs.Common.{◌≡◌, ◌-◌}
use Rattle.ferry_mac.specs.Pbkdf2.{iterate, iterates, xor_of_all}
use Rattle.ferry_mac.proofs.pbkdf.pbkdf2.Given as goal

abbrev pub invariant-loop-done : goal.invariant-loop-done
invariant-loop-done l = record {
  last : l.last ≡ iterate l.fn.passphrase l.fn.salt (l.done - 1);
  sum : l.sum ≡ xor_of_all (iterates l.fn.passphrase l.fn.salt l.done);
}
