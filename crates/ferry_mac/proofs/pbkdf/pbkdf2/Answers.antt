use Rattle.std.proofs.Common.{◌≡◌, ◌+◌, ◌-◌, ap, sym, ◌∙◌, arith, refl}
use Rattle.ferry_mac.specs.Hmac.{hmac256}
use Rattle.ferry_mac.specs.Keyed.{IsKeyed256}
use Rattle.ferry_mac.specs.Pbkdf2.{iterate, pbkdf2}
use Rattle.ferry_mac.proofs.PbkdfLemmas.{iterate-first, iterate-next, xor_of_all-one, iterates-first, iterates-next}
use Rattle.ferry_mac.proofs.pbkdf.pbkdf2.Goals as goal

pub loop-done-init : goal.loop-done-init
loop-done-init c =
    let passphrase = c.args.passphrase.now in
    let salt = c.args.salt.now in
    let keyed : IsKeyed256 c.copy.result passphrase = rw c.copy.ensures.copy c.new-keyed.ensures.keyed in
    let first : c.mac_of_parts-last.result ≡ iterate passphrase salt 0 =
    c.mac_of_parts-last.ensures.mac passphrase keyed ∙ sym (iterate-first passphrase salt) in
    record {
      last = first;
      sum = rw (iterates-first passphrase salt, ← first) (sym (xor_of_all-one c.mac_of_parts-last.result (omega arith)));
    }

pub loop-done-preserved : goal.loop-done-preserved
loop-done-preserved c =
    let passphrase = c.args.passphrase.now in
    let salt = c.args.salt.now in
    let done = c.loop-done.done in
    let keyed : IsKeyed256 c.copy-in-loop-done.result passphrase = rw c.copy-in-loop-done.ensures.copy c.new-keyed.ensures.keyed in
    let mac : c.mac-last.result ≡ hmac256 passphrase (iterate passphrase salt (done - 1)) =
    c.mac-last.ensures.mac passphrase keyed ∙ ap (hmac256 passphrase) c.loop-done.invariant.last in
    let last : c.mac-last.result ≡ iterate passphrase salt done = mac ∙ sym (iterate-next passphrase salt done (omega arith)) in
    let place : done + 1 - 1 ≡ done = omega arith in
    record {
      last = rw place last;
      sum = rw (c.xor_into.ensures.xored, c.loop-done.invariant.sum, iterates-next passphrase salt done, last) refl;
    }

pub returns : goal.returns
unfolding pbkdf2
returns c =
    let all : c.loop-done.done ≡ c.args.iterations = omega arith in
    record { derived = rw (← all) c.loop-done.invariant.sum }
