-- Lemmas on the iterates of PBKDF2, for its loop.
use Rattle.std.proofs.Common.{◌≡◌, ℕ, zero, suc, ◌+◌, ◌-◌, ◌≤◌, List, [], ◌∷◌, ◌++◌, length, replicate, refl, add-one, arith, subst}
use Rattle.std.proofs.lemmas.List.Sums.{fold-append}
use Rattle.ferry_mac.proofs.XorLemmas.{zip2-bit_xor-zeros}
use Rattle.ferry_mac.specs.Hmac.{hmac256}
use Rattle.ferry_mac.specs.Pbkdf2.{iterate, iterates, xor_of, xor_of_all}

-- U_1 is the MAC of the salt and the number 1
pub iterate-first : (passphrase salt : List ℕ) → iterate passphrase salt 0 ≡ hmac256 passphrase (salt ++ 0 ∷ 0 ∷ 0 ∷ 1 ∷ [])
unfolding iterate
iterate-first passphrase salt = refl

-- the next iterate is the MAC of the one before
pub iterate-next : (passphrase salt : List ℕ) (n : ℕ) → 1 ≤ n → iterate passphrase salt n ≡ hmac256 passphrase (iterate passphrase salt (n - 1))
unfolding iterate
iterate-next passphrase salt zero le = absurd (omega arith)
iterate-next passphrase salt (suc n) le =
    let before : suc n - 1 ≡ n = omega arith in
    rw before refl

-- the xor of one string of 32 octets is that string
pub xor_of_all-one : (string : List ℕ) → length string ≡ 32 → xor_of_all (string ∷ []) ≡ string
unfolding xor_of_all
xor_of_all-one string long = subst (λ n. xor_of (replicate n 0) string ≡ string) long (zip2-bit_xor-zeros string)

-- there is one iterate at first
pub iterates-first : (passphrase salt : List ℕ) → iterates passphrase salt 1 ≡ iterate passphrase salt 0 ∷ []
unfolding iterates
iterates-first passphrase salt = refl

-- one more iterate
pub iterates-next : (passphrase salt : List ℕ) (n : ℕ) →
    xor_of_all (iterates passphrase salt (n + 1)) ≡ xor_of (xor_of_all (iterates passphrase salt n)) (iterate passphrase salt n)
unfolding iterates xor_of_all
iterates-next passphrase salt n =
    rw (add-one n) (fold-append xor_of (replicate 32 0) (iterates passphrase salt n) (iterate passphrase salt n ∷ []))
