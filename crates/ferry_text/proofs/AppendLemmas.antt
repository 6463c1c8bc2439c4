-- Lemmas on the loop that appends a text, run by run.
use Rattle.std.proofs.Common.{◌≡◌, ℕ, ◌+◌, ◌-◌, ◌<◌, ◌≤◌, false, List, [], ◌∷◌, ◌++◌, length, take, drop, get_or, sym, ap, subst, ◌∙◌, arith}
use Rattle.std.specs.List.{AllPass}
use Rattle.std.proofs.lemmas.List.{append_assoc, append-nil, length-drop, length-take, get_or-drop, take-append-le, take-append-drop}
use Rattle.std.proofs.Math.Seq.{take-length}
use Rattle.ferry_text.specs.Text.{is_plain, escape, escaped}
use Rattle.ferry_text.proofs.TextLemmas.{escaped-nil, escaped-escape_cons, escaped-plain_front}

-- What was there is in front of what is there, which the text of what is left completes.
pub record Appends (old now rest bytes : List ℕ) : Type 0 where
  pub front : take (length old) now ≡ old
  pub text : now ++ escaped rest ≡ old ++ escaped bytes

keeps_front : (old now more : List ℕ) → take (length old) now ≡ old → take (length old) (now ++ more) ≡ old
keeps_front old now more front =
    let long : length old ≤ length now = omega (arith, length-take (length old) now, ap length front) in
    take-append-le (length old) now more long ∙ front

-- plain bytes are appended as they are
pub appends_plain : (old now plain behind bytes : List ℕ) → Appends old now (plain ++ behind) bytes → AllPass is_plain plain
    → Appends old (now ++ plain) behind bytes
appends_plain old now plain behind bytes h all = record {
  front = keeps_front old now plain h.front;
  text = append_assoc now plain (escaped behind) ∙ ap (λ k. now ++ k) (sym (escaped-plain_front plain behind all)) ∙ h.text;
}

-- any other byte is appended as its escape
pub appends_escape : (old now : List ℕ) (byte : ℕ) (left bytes : List ℕ) → Appends old now (byte ∷ left) bytes → is_plain byte ≡ false
    → Appends old (now ++ escape byte) left bytes
appends_escape old now byte left bytes h other = record {
  front = keeps_front old now (escape byte) h.front;
  text = append_assoc now (escape byte) (escaped left) ∙ ap (λ k. now ++ k) (sym (escaped-escape_cons byte left other)) ∙ h.text;
}

-- the longest plain front is appended
pub appends_run : (old now rest bytes plain behind out : List ℕ) (n : ℕ) → Appends old now rest bytes → AllPass is_plain (take n rest)
    → plain ≡ take n rest → behind ≡ drop n rest → out ≡ now ++ plain → Appends old out behind bytes
appends_run old now rest bytes plain behind out n h all is_plain_front is_behind is_out =
    rw (is_out, is_plain_front, is_behind)
    (appends_plain old now (take n rest) (drop n rest) bytes (subst (λ k. Appends old now k bytes) (sym (take-append-drop n rest)) h) all)

-- the byte behind it is appended
pub appends_first : (old now behind bytes out : List ℕ) → Appends old now behind bytes → 1 ≤ length behind → is_plain (get_or behind 0 0) ≡ false
    → out ≡ now ++ escape (get_or behind 0 0) → Appends old out (take (length behind - 1) (drop 1 behind)) bytes
appends_first old now [] bytes out h long other is = absurd (omega arith)
appends_first old now (byte ∷ left) bytes out h long other is =
    let whole : length left ≡ length (byte ∷ left) - 1 = omega arith in
    rw is (subst (λ k. Appends old (now ++ escape byte) k bytes) (sym (take-length left) ∙ ap (λ n. take n left) whole)
    (appends_escape old now byte left bytes h other))

-- the byte behind the longest plain front isn't plain
pub first_other : (rest behind : List ℕ) (n : ℕ) → behind ≡ drop n rest → (n < length rest → is_plain (get_or rest n 0) ≡ false) → 1 ≤ length behind
    → is_plain (get_or behind 0 0) ≡ false
first_other rest behind n is end long =
    let inside : n < length rest = omega (arith, ap length is, length-drop n rest) in
    let here : n + 0 ≡ n = omega arith in
    ap (λ k. is_plain (get_or k 0 0)) is ∙ ap is_plain (get_or-drop n rest 0 0 ∙ ap (λ i. get_or rest i 0) here) ∙ end inside

pub appends_all : (old now behind bytes : List ℕ) → Appends old now behind bytes → length behind < 1 → now ≡ old ++ escaped bytes
appends_all old now [] bytes h none = sym (append-nil now) ∙ ap (λ k. now ++ k) (sym escaped-nil) ∙ h.text
appends_all old now (byte ∷ left) bytes h none = absurd (omega arith)
