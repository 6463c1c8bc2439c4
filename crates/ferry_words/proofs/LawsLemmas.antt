-- Lemmas on the first wrong word.
use Rattle.std.proofs.Common.{◌≡◌, ℕ, zero, suc, ◌+◌, ◌-◌, ◌<◌, ◌≤◌, true, List, [], ◌∷◌, ◌++◌, length, take, drop, Contains, ◌⊎◌, inl, inr, Option, Some, None}
use Rattle.std.proofs.Common.{Result, Ok, Err, refl, ap, ◌∙◌, subst, arith, sym, append_assoc, codes}
use Rattle.std.proofs.lemmas.Bool.{cases_lt}
use Rattle.std.proofs.lemmas.List.{append-nil, length-append, length-drop, take-append-drop}
use Rattle.std.proofs.Math.Seq.{take-add}
use Rattle.std.specs.List.{AllByRecursion}
use Rattle.std.specs.Str.{IsUtf8}
use Rattle.ferry_words.specs.Words.{Parts, Row, command_of, is_new, first_unfit, made, made_of, meaning_by, options_end, parts, parts_of, row_of, rows}
use Rattle.ferry_words.specs.Laws.{AreOperands, AreOptions, CanGoOn, CannotGoOn, IsAhead, IsCommand, IsFirstWrong, IsMissing, IsPlainAhead, IsWrong}
use Rattle.ferry_words.specs.declared.command.Command.{Command}
use Rattle.ferry_words.specs.declared.command.Command.TheVariants.{Keys}
use Rattle.ferry_words.proofs.TableLemmas.{IsFound, known_formed, known_value, listed_found, row_named}
use Rattle.ferry_words.proofs.PartsLemmas.{IsFault, IsLast, IsOld, IsUntaken, given_more, new_known, parts_old, parts_read, parts_untaken, stop_read}
use Rattle.ferry_words.proofs.OperandLemmas.{AreFew, IsNone, IsUnfit, made_wrong, operands_append, operands_drop, unfit_made, unfit_some}
use Rattle.ferry_words.proofs.WordsLemmas.{ahead_meant, given_meant, meant_spelled, spelled_meant}

-- ---- IsAhead

-- what stands ahead of operands may stand ahead of these, where these have the form of an option in front only if those do
ahead_of : (ahead operands others : List (List ℕ)) → (IsPlainAhead operands → IsPlainAhead others) → IsAhead ahead operands → IsAhead ahead others
ahead_of ahead operands others plain (inl e) = inl e
ahead_of ahead operands others plain (inr h) = inr (h.0, plain h.1)

plain_filled : (operands few : List (List ℕ)) → IsPlainAhead few → IsPlainAhead operands → IsPlainAhead (operands ++ drop (length operands) few)
plain_filled [] few first h = first
plain_filled (word ∷ operands) few first h = h

plain_front : (front more : List (List ℕ)) → IsPlainAhead (front ++ more) → IsPlainAhead front
plain_front [] more h = tt
plain_front (word ∷ front) more h = h

plain_other : (front : List (List ℕ)) (word : List ℕ) (rest more : List (List ℕ)) → IsPlainAhead (front ++ (word ∷ rest))
    → IsPlainAhead (front ++ (word ∷ more))
plain_other [] word rest more h = h
plain_other (first ∷ front) word rest more h = h

-- ---- texts

utf8_end : IsUtf8 options_end
unfolding lib.Utf8.encode
utf8_end = (codes "--", (refl, refl))

utf8_keys : IsUtf8 (codes "keys")
unfolding lib.Utf8.encode
utf8_keys = (codes "keys", (refl, refl))

utf8_drop : (n : ℕ) (words : List (List ℕ)) → AllByRecursion IsUtf8 words → AllByRecursion IsUtf8 (drop n words)
utf8_drop zero words h = h
utf8_drop (suc n) [] h = tt
utf8_drop (suc n) (word ∷ rest) h = utf8_drop n rest h.1

-- ---- CannotGoOn

-- words that mean no command, whatever stands behind them, stop
stops_by : (front : List (List ℕ)) (number : ℕ) → ((more : List (List ℕ)) → command_of (front ++ more) ≡ Err number) → CannotGoOn front
stops_by front number wrong more command h =
    let meant : command_of (front ++ more) ≡ Ok command = spelled_meant (front ++ more) command h in
    let told : command_of (front ++ more) ≡ Err number = wrong more in
    cc

-- ---- IsWrong

pub take_front : (front : List (List ℕ)) (word : List ℕ) (rest : List (List ℕ)) → take (length front) (front ++ (word ∷ rest)) ≡ front
take_front [] word rest = refl
take_front (first ∷ front) word rest = ap (λ (front : List (List ℕ)). first ∷ front) (take_front front word rest)

pub take_next : (front : List (List ℕ)) (word : List ℕ) (rest : List (List ℕ))
    → take (suc (length front)) (front ++ (word ∷ rest)) ≡ front ++ (word ∷ [])
take_next [] word rest = refl
take_next (first ∷ front) word rest = ap (λ (front : List (List ℕ)). first ∷ front) (take_next front word rest)

-- a word that stops what could go on is the first wrong one
wrong_at : (words front : List (List ℕ)) (word : List ℕ) (rest : List (List ℕ)) (number : ℕ) → words ≡ front ++ (word ∷ rest)
    → number ≡ suc (length front) → CanGoOn front → CannotGoOn (front ++ (word ∷ [])) → IsWrong words number
wrong_at words front word rest number spelled numbered goes stops =
    let back : length front ≡ suc (length front) - 1 = omega arith in
    let at_front : IsWrong (front ++ (word ∷ rest)) (suc (length front)) = record {
      numbered = omega arith;
      there = omega (arith, length-append front (word ∷ rest));
      before = subst (λ (n : ℕ). CanGoOn (take n (front ++ (word ∷ rest)))) back (subst CanGoOn (sym (take_front front word rest)) goes);
      stops = subst CannotGoOn (sym (take_next front word rest)) stops;
    } in
    subst (λ (number : ℕ). IsWrong words number) (sym numbered)
    (subst (λ (words : List (List ℕ)). IsWrong words (suc (length front))) (sym spelled) at_front)

-- ---- the word of a command

nothing_goes_on : CanGoOn []
unfolding command_of row_of parts_of made first_unfit
nothing_goes_on = (codes "keys" ∷ [], Keys, (utf8_keys, tt), meant_spelled (codes "keys" ∷ []) Keys refl)

no_words : IsMissing [] 1
unfolding command_of
no_words = record {
  numbered = refl;
  before = nothing_goes_on;
  unfinished = λ command h. let meant = spelled_meant [] command h in cc;
}

unknown_stops : (word : List ℕ) → row_of word ≡ None → CannotGoOn (word ∷ [])
unfolding command_of
unknown_stops word unknown = stops_by (word ∷ []) 1 (λ more. ap (λ (found : Option Row). meaning_by found more) unknown)

unknown_word : (word : List ℕ) (behind : List (List ℕ)) → row_of word ≡ None → IsWrong (word ∷ behind) 1
unknown_word word behind unknown = wrong_at (word ∷ behind) [] word behind 1 refl refl nothing_goes_on (unknown_stops word unknown)

-- ---- what goes on

-- a row of the table, and some of its options
record IsBegun (row : Row) (given : List (List ℕ)) : Type 0 where
  found : IsFound row
  listed : Contains rows row
  known : AreOptions row.form.options [] given

-- operands that a row takes go on, with what they lack
operands_go_on : (row : Row) (given ahead operands : List (List ℕ)) → IsBegun row given → IsAhead ahead operands
    → AreOperands row.form.operand 0 operands → CanGoOn (row.word ∷ (given ++ (ahead ++ operands)))
operands_go_on row given ahead operands begun free fitting =
    let filled = begun.found.filled in
    let more = drop (length operands) filled.few in
    let this : IsCommand ((row.word ∷ (given ++ (ahead ++ operands))) ++ more) (row.form.make given (operands ++ more)) = record {
      row = row;
      given = given;
      ahead = ahead;
      operands = operands ++ more;
      listed = begun.listed;
      spelled = ap (λ (rest : List (List ℕ)). row.word ∷ rest)
          (append_assoc given (ahead ++ operands) more ∙ ap (λ (rest : List (List ℕ)). given ++ rest) (append_assoc ahead operands more));
      known = begun.known;
      free = ahead_of ahead operands (operands ++ more) (plain_filled operands filled.few filled.plain) free;
      enough = omega (arith, length-append operands more, length-drop (length operands) filled.few, filled.as_few);
      fitting =
          operands_append row.form.operand 0 operands more fitting
          (operands_drop row.form.operand 0 (length operands) filled.few filled.fitting);
      made = refl;
    } in
    (more, row.form.make given (operands ++ more), utf8_drop (length operands) filled.few filled.utf8, this)

-- so do options
options_go_on : (row : Row) (given : List (List ℕ)) → IsBegun row given → CanGoOn (row.word ∷ given)
options_go_on row given begun =
    subst (λ (given : List (List ℕ)). CanGoOn (row.word ∷ given)) (append-nil given) (operands_go_on row given [] [] begun (inr (refl, tt)) tt)

-- and an option's name, with a value
name_goes_on : (row : Row) (given : List (List ℕ)) (name : List ℕ) → IsBegun row given → is_new row.form.options given name ≡ true
    → CanGoOn (row.word ∷ (given ++ (name ∷ [])))
name_goes_on row given name begun new =
    let has = known_value row.form.options name begun.found.usable (new_known row.form.options given name new) in
    let longer : IsBegun row (given ++ (name ∷ (has.value ∷ []))) = record {
      found = begun.found;
      listed = begun.listed;
      known = given_more row.form.options [] given name has.value begun.known new has.taken;
    } in
    let goes = options_go_on row (given ++ (name ∷ (has.value ∷ []))) longer in
    let same : (given ++ (name ∷ (has.value ∷ []))) ++ goes.0 ≡ (given ++ (name ∷ [])) ++ (has.value ∷ goes.0) =
    append_assoc given (name ∷ (has.value ∷ [])) goes.0 ∙ sym (append_assoc given (name ∷ []) (has.value ∷ goes.0)) in
    (has.value ∷ goes.0, goes.1, (has.utf8, goes.2), subst (λ (rest : List (List ℕ)). IsCommand (row.word ∷ rest) goes.1) same goes.3)

-- ---- the place of an option

-- a word that is no new option's name
old_wrong : (row : Row) (given rest : List (List ℕ)) (number : ℕ) → IsBegun row given → IsOld row.form.options given rest number
    → IsWrong (row.word ∷ (given ++ rest)) number
old_wrong row given rest number begun h =
    wrong_at (row.word ∷ (given ++ rest)) (row.word ∷ given) h.word h.more number
    (ap (λ (rest : List (List ℕ)). row.word ∷ (given ++ rest)) h.spelled)
    (omega (arith, h.numbered))
    (options_go_on row given begun)
    (stops_by (row.word ∷ (given ++ (h.word ∷ []))) (length given + 2) (λ more.
    ap (λ (rest : List (List ℕ)). command_of (row.word ∷ rest)) (append_assoc given (h.word ∷ []) more)
    ∙ given_meant row given (h.word ∷ more) (Err (length given + 2)) begun.found begun.known
    (parts_old row.form.options given h.word more h.other h.option h.old)))

-- a value that isn't taken
untaken_wrong : (row : Row) (given rest : List (List ℕ)) (number : ℕ) → IsBegun row given → IsUntaken row.form.options given rest number
    → IsWrong (row.word ∷ (given ++ rest)) number
untaken_wrong row given rest number begun h =
    let formed = known_formed row.form.options h.word begun.found.usable (new_known row.form.options given h.word h.new) in
    wrong_at (row.word ∷ (given ++ rest)) (row.word ∷ (given ++ (h.word ∷ []))) h.value h.more number
    (ap (λ (rest : List (List ℕ)). row.word ∷ rest)
    (ap (λ (rest : List (List ℕ)). given ++ rest) h.spelled ∙ sym (append_assoc given (h.word ∷ []) (h.value ∷ h.more))))
    (omega (arith, h.numbered, length-append given (h.word ∷ [])))
    (name_goes_on row given h.word begun h.new)
    (stops_by (row.word ∷ ((given ++ (h.word ∷ [])) ++ (h.value ∷ []))) (length given + 3) (λ more.
    ap (λ (rest : List (List ℕ)). command_of (row.word ∷ rest))
    (append_assoc (given ++ (h.word ∷ [])) (h.value ∷ []) more ∙ append_assoc given (h.word ∷ []) (h.value ∷ more))
    ∙ given_meant row given (h.word ∷ (h.value ∷ more)) (Err (length given + 3)) begun.found begun.known
    (parts_untaken row.form.options given h.word h.value more formed.other formed.option h.new h.untaken)))

-- a value that is missing
last_missing : (row : Row) (given rest : List (List ℕ)) (number : ℕ) → IsBegun row given → IsLast row.form.options given rest number
    → ((command : Command) → IsCommand (row.word ∷ (given ++ rest)) command → ⊥) → IsMissing (row.word ∷ (given ++ rest)) number
last_missing row given rest number begun h unfinished = record {
  numbered = omega (arith, h.numbered, length-append given rest, ap (λ (rest : List (List ℕ)). length rest) h.spelled);
  before = subst (λ (rest : List (List ℕ)). CanGoOn (row.word ∷ (given ++ rest))) (sym h.spelled) (name_goes_on row given h.word begun h.new);
  unfinished = unfinished;
}

fault_wrong : (row : Row) (given rest : List (List ℕ)) (number : ℕ) → IsBegun row given → IsFault row.form.options given rest number
    → ((command : Command) → IsCommand (row.word ∷ (given ++ rest)) command → ⊥) → IsFirstWrong (row.word ∷ (given ++ rest)) number
fault_wrong row given rest number begun (inl old) unfinished = inl (old_wrong row given rest number begun old)
fault_wrong row given rest number begun (inr (inl last)) unfinished = inr (last_missing row given rest number begun last unfinished)
fault_wrong row given rest number begun (inr (inr untaken)) unfinished = inl (untaken_wrong row given rest number begun untaken)

-- ---- operands

-- an operand that doesn't fit
unfit_wrong : (row : Row) (given ahead operands : List (List ℕ)) (place number : ℕ) → IsBegun row given → IsAhead ahead operands
    → IsUnfit row.form.operand 0 operands place → number ≡ (length given + (length ahead + 2)) + place
    → IsWrong (row.word ∷ (given ++ (ahead ++ operands))) number
unfit_wrong row given ahead operands place number begun free h numbered =
    let front = given ++ (ahead ++ h.front) in
    let free_here : IsAhead ahead (h.front ++ (h.word ∷ h.rest)) = subst (IsAhead ahead) h.spelled free in
    let grouped : (more : List (List ℕ)) → front ++ (h.word ∷ more) ≡ given ++ (ahead ++ (h.front ++ (h.word ∷ more))) =
    λ more. append_assoc given (ahead ++ h.front) (h.word ∷ more)
    ∙ ap (λ (rest : List (List ℕ)). given ++ rest) (append_assoc ahead h.front (h.word ∷ more)) in
    wrong_at (row.word ∷ (given ++ (ahead ++ operands))) (row.word ∷ front) h.word h.rest number
    (ap (λ (rest : List (List ℕ)). row.word ∷ rest)
    (ap (λ (operands : List (List ℕ)). given ++ (ahead ++ operands)) h.spelled ∙ sym (grouped h.rest)))
    (omega (arith, numbered, h.placed, length-append given (ahead ++ h.front), length-append ahead h.front))
    (operands_go_on row given ahead h.front begun
    (ahead_of ahead (h.front ++ (h.word ∷ h.rest)) h.front (plain_front h.front (h.word ∷ h.rest)) free_here) h.fitting)
    (stops_by (row.word ∷ (front ++ (h.word ∷ []))) ((length given + (length ahead + 2)) + (0 + length h.front)) (λ more.
    ap (λ (rest : List (List ℕ)). command_of (row.word ∷ rest)) (append_assoc front (h.word ∷ []) more ∙ grouped more)
    ∙ ahead_meant row given ahead (h.front ++ (h.word ∷ more)) begun.found begun.known
    (ahead_of ahead (h.front ++ (h.word ∷ h.rest)) (h.front ++ (h.word ∷ more)) (plain_other h.front h.word h.rest more) free_here)
    ∙ unfit_made row.form (parts given (length ahead + 2) (h.front ++ (h.word ∷ more))) (0 + length h.front)
    (unfit_some row.form.operand 0 h.front h.word more h.fitting h.none)))

-- operands that are too few
few_missing : (row : Row) (given ahead operands : List (List ℕ)) (number : ℕ) → IsBegun row given → IsAhead ahead operands
    → AreOperands row.form.operand 0 operands → number ≡ (length given + (length ahead + 2)) + length operands
    → ((command : Command) → IsCommand (row.word ∷ (given ++ (ahead ++ operands))) command → ⊥)
    → IsMissing (row.word ∷ (given ++ (ahead ++ operands))) number
few_missing row given ahead operands number begun free fitting numbered unfinished = record {
  numbered = omega (arith, numbered, length-append given (ahead ++ operands), length-append ahead operands);
  before = operands_go_on row given ahead operands begun free fitting;
  unfinished = unfinished;
}

-- ---- IsFirstWrong

-- where a number is told, there is no command
unfinished_by : (words : List (List ℕ)) (number : ℕ) → command_of words ≡ Err number → (command : Command) → IsCommand words command → ⊥
unfinished_by words number told command h =
    let meant : command_of words ≡ Ok command = spelled_meant words command h in
    cc

-- what parts of these words are wrong
made_first : (row : Row) (given ahead : List (List ℕ)) (parts : Parts) (number : ℕ) → IsBegun row given → IsAhead ahead parts.operands
    → parts.first ≡ length given + (length ahead + 2) → IsNone row.form parts number ⊎ AreFew row.form parts number
    → ((command : Command) → IsCommand (row.word ∷ (given ++ (ahead ++ parts.operands))) command → ⊥)
    → IsFirstWrong (row.word ∷ (given ++ (ahead ++ parts.operands))) number
made_first row given ahead parts number begun free first (inl h) unfinished =
    inl (unfit_wrong row given ahead parts.operands h.place number begun free h.unfit (omega (arith, h.numbered, first)))
made_first row given ahead parts number begun free first (inr h) unfinished =
    inr (few_missing row given ahead parts.operands number begun free h.fitting (omega (arith, h.numbered, first)) unfinished)

-- the answer by a row whose parts are read
read_wrong : (row : Row) (behind : List (List ℕ)) (number : ℕ) → IsFound row → Contains rows row → command_of (row.word ∷ behind) ≡ Err number
    → (read : Result Parts ℕ) → parts_of row.form.options [] behind ≡ read → made_of row.form read ≡ Err number
    → IsFirstWrong (row.word ∷ behind) number
read_wrong row behind number found listed told (Err wrong) r e =
    let same : wrong ≡ number = cc in
    let h = stop_read row.form.options behind wrong r in
    let unfinished = subst (λ (behind : List (List ℕ)). (command : Command) → IsCommand (row.word ∷ behind) command → ⊥) h.spelled
    (unfinished_by (row.word ∷ behind) number told) in
    subst (λ (behind : List (List ℕ)). IsFirstWrong (row.word ∷ behind) number) (sym h.spelled)
    (fault_wrong row h.given h.rest number record { found = found; listed = listed; known = h.known }
    (subst (IsFault row.form.options h.given h.rest) same h.fault) unfinished)
read_wrong row behind number found listed told (Ok parts) r e =
    let h = parts_read row.form.options behind parts r in
    let kept : length parts.given ≡ length h.given = ap (λ (given : List (List ℕ)). length given) h.kept in
    let unfinished = subst (λ (behind : List (List ℕ)). (command : Command) → IsCommand (row.word ∷ behind) command → ⊥) h.spelled
    (unfinished_by (row.word ∷ behind) number told) in
    subst (λ (behind : List (List ℕ)). IsFirstWrong (row.word ∷ behind) number) (sym h.spelled)
    (made_first row h.given h.ahead parts number record { found = found; listed = listed; known = h.known } h.free
    (omega (arith, h.numbered, kept)) (made_wrong row.form parts number e) unfinished)

-- the answer by a word that has a row, or none
meant_wrong : (word : List ℕ) (behind : List (List ℕ)) (number : ℕ) → command_of (word ∷ behind) ≡ Err number
    → (found : Option Row) → row_of word ≡ found → meaning_by found behind ≡ Err number → IsFirstWrong (word ∷ behind) number
meant_wrong word behind number told None f e =
    let one : 1 ≡ number = cc in
    inl (subst (IsWrong (word ∷ behind)) one (unknown_word word behind f))
meant_wrong word behind number told (Some row) f e =
    let named = row_named word row f in
    let same = named.same in
    subst (λ (word : List ℕ). IsFirstWrong (word ∷ behind) number) same
    (read_wrong row behind number (listed_found row named.listed) named.listed (ap (λ (word : List ℕ). command_of (word ∷ behind)) same ∙ told)
    (parts_of row.form.options [] behind) refl e)

pub told_wrong : (words : List (List ℕ)) (number : ℕ) → command_of words ≡ Err number → IsFirstWrong words number
unfolding command_of
told_wrong [] number told =
    let one : 1 ≡ number = cc in
    inr (subst (IsMissing []) one no_words)
told_wrong (word ∷ behind) number told = meant_wrong word behind number told (row_of word) refl told

-- ---- one first wrong word

-- words that go on to a command don't stop at any of them
no_stop_before : (words : List (List ℕ)) (m n : ℕ) → m ≤ n → CanGoOn (take n words) → CannotGoOn (take m words) → ⊥
no_stop_before words m n within goes stops =
    let behind = take (n - m) (drop m words) in
    let parted : take n words ≡ take m words ++ behind =
    ap (λ (n : ℕ). take n words) (omega arith) ∙ take-add m (n - m) words in
    let more = goes.0 in
    stops (behind ++ more) goes.1
    (subst (λ (front : List (List ℕ)). IsCommand front goes.1) (append_assoc (take m words) behind more)
    (subst (λ (front : List (List ℕ)). IsCommand (front ++ more) goes.1) parted goes.3))

no_stop_in : (words : List (List ℕ)) (m : ℕ) → CanGoOn words → CannotGoOn (take m words) → ⊥
no_stop_in words m goes stops =
    stops (drop m words ++ goes.0) goes.1
    (subst (λ (front : List (List ℕ)). IsCommand front goes.1) (append_assoc (take m words) (drop m words) goes.0)
    (subst (λ (front : List (List ℕ)). IsCommand (front ++ goes.0) goes.1) (sym (take-append-drop m words)) goes.3))

not_earlier : (words : List (List ℕ)) (m n : ℕ) → IsWrong words m → IsWrong words n → m < n → ⊥
not_earlier words m n a b earlier = no_stop_before words m (n - 1) (omega arith) b.before a.stops

one_wrong : (words : List (List ℕ)) (m n : ℕ) → IsFirstWrong words m → IsFirstWrong words n → m ≡ n
one_wrong words m n (inl a) (inl b) =
    elim (cases_lt m n) [
      | inl earlier ↦ absurd (not_earlier words m n a b earlier)
      | inr reaches ↦ elim (cases_lt n m) [
        | inl earlier ↦ absurd (not_earlier words n m b a earlier)
        | inr within ↦ omega arith
      ]
    ]
one_wrong words m n (inl a) (inr b) = absurd (no_stop_in words m b.before a.stops)
one_wrong words m n (inr a) (inl b) = absurd (no_stop_in words n a.before b.stops)
one_wrong words m n (inr a) (inr b) = omega (arith, a.numbered, b.numbered)

no_command : (words : List (List ℕ)) (number : ℕ) (command : Command) → IsFirstWrong words number → IsCommand words command → ⊥
no_command words number command (inl h) is =
    h.stops (drop number words) command (subst (λ (words : List (List ℕ)). IsCommand words command) (sym (take-append-drop number words)) is)
no_command words number command (inr h) is = h.unfinished command is

wrong_by : (words : List (List ℕ)) (number : ℕ) → IsFirstWrong words number → (meaning : Result Command ℕ) → command_of words ≡ meaning
    → meaning ≡ Err number
wrong_by words number h (Ok command) e = absurd (no_command words number command h (meant_spelled words command e))
wrong_by words number h (Err other) e = ap Err (one_wrong words other number (told_wrong words other e) h)

pub wrong_told : (words : List (List ℕ)) (number : ℕ) → IsFirstWrong words number → command_of words ≡ Err number
wrong_told words number h = wrong_by words number h (command_of words) refl
