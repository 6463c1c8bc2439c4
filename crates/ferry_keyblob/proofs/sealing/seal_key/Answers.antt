use Rattle.std.proofs.Common.{◌≡◌, List, ℕ, length, ap, sym, ◌∙◌, rules}
use Rattle.ferry_mac.specs.Hmac.{hmac256}
use Rattle.ferry_mac.specs.Pbkdf2.{pbkdf2}
use Rattle.ferry_keyblob.specs.Opening.{key_of, key_view}
use Rattle.ferry_keyblob.specs.Sealing.{envelope_text, packed}
use Rattle.ferry_keyblob.proofs.OpensLemmas.{key_text-parts, key_text-opens}
use Rattle.ferry_keyblob.proofs.sealing.seal_key.Goals as goal

pub returns-clause-text : goal.returns-clause-text
returns-clause-text c =
    let salt = c.args.salt.now in
    let count = c.args.iterations in
    let key = key_view c.args.key.now in
    let kek : c.pbkdf2-kek.result ≡ pbkdf2 c.args.passphrase.now salt count = c.pbkdf2-kek.ensures.derived in
    let text : c.as_slice.result.now ≡ packed key = c.as_slice.ensures.value ∙ c.in_ok-packed.ensures.packed in
    c.in_ok-envelope_text.ensures.text ∙ ap (λ (k : List ℕ). envelope_text k salt count c.as_slice.result.now) kek
    ∙ ap (λ (t : List ℕ). envelope_text (pbkdf2 c.args.passphrase.now salt count) salt count t) text ∙ key_text-parts key c.args.passphrase.now salt count

pub returns-clause-opens : goal.returns-clause-opens
returns-clause-opens c =
    let pass = c.args.passphrase.now in
    let salt = c.args.salt.now in
    let count = c.args.iterations in
    let key = key_view c.args.key.now in
    let kek : c.pbkdf2-kek.result ≡ pbkdf2 pass salt count = c.pbkdf2-kek.ensures.derived in
    let text : c.as_slice.result.now ≡ packed key = c.as_slice.ensures.value ∙ c.in_ok-packed.ensures.packed in
    let hashed : length (hmac256 (pbkdf2 pass salt count) (packed key)) ≡ 32 =
    sym (ap (λ (k : List ℕ). length (hmac256 k c.as_slice.result.now)) kek ∙ ap (λ (t : List ℕ). length (hmac256 (pbkdf2 pass salt count) t)) text)
    ∙ c.in_ok-envelope_text.ensures.hash in
    let salted : length salt ≡ 32 = search rules in
    let whole = c.in_ok-envelope_text.ensures.text ∙ ap (λ (k : List ℕ). envelope_text k salt count c.as_slice.result.now) kek
    ∙ ap (λ (t : List ℕ). envelope_text (pbkdf2 pass salt count) salt count t) text ∙ key_text-parts key pass salt count in
    ap (key_of pass) whole
    ∙ key_text-opens key pass salt count c.in_ok-packed.ensures.lengths c.requires.key salted hashed c.requires.iterations.0 c.requires.iterations.1
