-- Lemmas on the operands of a form.
use Rattle.std.proofs.Common.{◌≡◌, ℕ, zero, suc, ◌+◌, ◌<◌, ◌≤◌, nat_lt, Bool, true, false, cond, List, [], ◌∷◌, ◌++◌, length, drop, ◌⊎◌, inl, inr}
use Rattle.std.proofs.Common.{Option, Some, None, Result, Ok, Err, refl, ap, ◌∙◌, subst, sym, arith}
use Rattle.std.proofs.lemmas.Bool.{cases_lt, ltb-true, ltb-false, lt-ltb, le-ltb}
use Rattle.ferry_words.specs.Words.{Form, Parts, any, block_of, checkpoint_of, first_unfit, made, made_by, made_of, meaning_of, parts_of, timestamp_of}
use Rattle.ferry_words.specs.Words.{plan_form, transfer_form, up_to}
use Rattle.ferry_words.specs.Laws.{AreOperands}
use Rattle.ferry_words.specs.declared.command.Command.{Command}
use Rattle.ferry_words.specs.declared.command.Command.TheVariants.{Plan, Transfer}

-- ---- AreOperands

pub operands_append : (operand : ℕ → List ℕ → Bool) (place : ℕ) (front more : List (List ℕ)) → AreOperands operand place front
    → AreOperands operand (place + length front) more → AreOperands operand place (front ++ more)
operands_append operand place [] more h k = subst (λ (place : ℕ). AreOperands operand place more) (omega arith) k
operands_append operand place (word ∷ front) more h k =
    (h.0, operands_append operand (place + 1) front more h.1 (subst (λ (place : ℕ). AreOperands operand place more) (omega arith) k))

pub operands_drop : (operand : ℕ → List ℕ → Bool) (place n : ℕ) (words : List (List ℕ)) → AreOperands operand place words
    → AreOperands operand (place + n) (drop n words)
operands_drop operand place zero words h = subst (λ (place : ℕ). AreOperands operand place words) (omega arith) h
operands_drop operand place (suc n) [] h = tt
operands_drop operand place (suc n) (word ∷ rest) h =
    subst (λ (place : ℕ). AreOperands operand place (drop n rest)) (omega arith) (operands_drop operand (place + 1) n rest h.1)

-- ---- first_unfit

-- the word behind these operands may be none there
pub record IsUnfit (operand : ℕ → List ℕ → Bool) (place : ℕ) (words : List (List ℕ)) (unfit : ℕ) : Type 0 where
  pub front : List (List ℕ)
  pub word : List ℕ
  pub rest : List (List ℕ)
  pub spelled : words ≡ front ++ (word ∷ rest)
  pub fitting : AreOperands operand place front
  pub none : operand (place + length front) word ≡ false
  pub placed : unfit ≡ place + length front

abbrev IsFound : (ℕ → List ℕ → Bool) → ℕ → List (List ℕ) → Option ℕ → Type 0
IsFound operand place words None = AreOperands operand place words
IsFound operand place words (Some unfit) = IsUnfit operand place words unfit

found_behind : (operand : ℕ → List ℕ → Bool) (place : ℕ) (word : List ℕ) (rest : List (List ℕ)) (found : Option ℕ) → operand place word ≡ true
    → IsFound operand (place + 1) rest found → IsFound operand place (word ∷ rest) found
found_behind operand place word rest None fits h = (fits, h)
found_behind operand place word rest (Some unfit) fits h = record {
  front = word ∷ h.front;
  word = h.word;
  rest = h.rest;
  spelled = ap (λ (rest : List (List ℕ)). word ∷ rest) h.spelled;
  fitting = (fits, h.fitting);
  none = subst (λ (place : ℕ). operand place h.word ≡ false) (omega arith) h.none;
  placed = omega (arith, h.placed);
}

found_by : (operand : ℕ → List ℕ → Bool) (place : ℕ) (word : List ℕ) (rest : List (List ℕ)) (test : Bool) → operand place word ≡ test
    → IsFound operand (place + 1) rest (first_unfit operand (place + 1) rest)
    → IsFound operand place (word ∷ rest) (cond test (first_unfit operand (place + 1) rest) (Some place))
found_by operand place word rest true fits h = found_behind operand place word rest (first_unfit operand (place + 1) rest) fits h
found_by operand place word rest false none h = record {
  front = [];
  word = word;
  rest = rest;
  spelled = refl;
  fitting = tt;
  none = subst (λ (place : ℕ). operand place word ≡ false) (omega arith) none;
  placed = omega arith;
}

pub unfit_found : (operand : ℕ → List ℕ → Bool) (place : ℕ) (words : List (List ℕ)) → IsFound operand place words (first_unfit operand place words)
unfolding first_unfit
unfit_found operand place [] = tt
unfit_found operand place (word ∷ rest) = found_by operand place word rest (operand place word) refl (unfit_found operand (place + 1) rest)

pub fit_none : (operand : ℕ → List ℕ → Bool) (place : ℕ) (words : List (List ℕ)) → AreOperands operand place words
    → first_unfit operand place words ≡ None
unfolding first_unfit
fit_none operand place [] h = refl
fit_none operand place (word ∷ rest) h =
    let fits = h.0 in
    let none = fit_none operand (place + 1) rest h.1 in
    rw (fits, none) refl

pub unfit_some : (operand : ℕ → List ℕ → Bool) (place : ℕ) (front : List (List ℕ)) (word : List ℕ) (rest : List (List ℕ))
    → AreOperands operand place front → operand (place + length front) word ≡ false
    → first_unfit operand place (front ++ (word ∷ rest)) ≡ Some (place + length front)
unfolding first_unfit
unfit_some operand place [] word rest h none =
    let here : place + 0 ≡ place = omega arith in
    let unfit : operand place word ≡ false = subst (λ (place : ℕ). operand place word ≡ false) here none in
    rw unfit (ap Some (sym here))
unfit_some operand place (first ∷ front) word rest h none =
    let fits = h.0 in
    let next : place + suc (length front) ≡ (place + 1) + length front = omega arith in
    let later = unfit_some operand (place + 1) front word rest h.1 (subst (λ (place : ℕ). operand place word ≡ false) next none) in
    rw fits (later ∙ ap Some (sym next))

-- ---- up_to

-- operands that aren't too many
pub up_to_fits : (count place : ℕ) (words : List (List ℕ)) → place + length words ≤ count → AreOperands (up_to count) place words
up_to_fits count place [] h = tt
up_to_fits count place (word ∷ rest) h = (lt-ltb place count (omega (arith, h)), up_to_fits count (place + 1) rest (omega (arith, h)))

up_to_over : (count place : ℕ) (words : List (List ℕ)) → place ≤ count → count < place + length words → first_unfit (up_to count) place words ≡ Some count
unfolding first_unfit
up_to_over count place [] within over = absurd (omega arith)
up_to_over count place (word ∷ rest) within over = elim (cases place count within) [
  | inl less ↦ (let fits = lt-ltb place count less in rw fits (up_to_over count (place + 1) rest (omega arith) (omega arith)))
  | inr same ↦ (let none = le-ltb place count (omega (arith, same)) in rw none (ap Some same))
]
  where
    cases : (place count : ℕ) → place ≤ count → (place < count) ⊎ (place ≡ count)
    cases place count h = elim (cases_lt place count) [ inl less ↦ inl less | inr reaches ↦ inr (omega arith) ]

-- ---- any

any_fits : (place : ℕ) (words : List (List ℕ)) → AreOperands any place words
any_fits place [] = tt
any_fits place (word ∷ rest) = (refl, any_fits (place + 1) rest)

-- ---- made

-- the operands fit a form, are enough, and make this command of it
pub record Make (form : Form) (parts : Parts) (command : Command) : Type 0 where
  pub enough : form.least ≤ length parts.operands
  pub fitting : AreOperands form.operand 0 parts.operands
  pub made : command ≡ form.make parts.given parts.operands

-- an operand doesn't fit, and its number is told
pub record IsNone (form : Form) (parts : Parts) (number : ℕ) : Type 0 where
  pub place : ℕ
  pub unfit : IsUnfit form.operand 0 parts.operands place
  pub numbered : number ≡ parts.first + place

-- the operands fit, and are too few
pub record AreFew (form : Form) (parts : Parts) (number : ℕ) : Type 0 where
  pub fitting : AreOperands form.operand 0 parts.operands
  pub under : length parts.operands < form.least
  pub numbered : number ≡ parts.first + length parts.operands

abbrev IsMaking : Form → Parts → Result Command ℕ → Type 0
IsMaking form parts (Ok command) = Make form parts command
IsMaking form parts (Err number) = IsNone form parts number ⊎ AreFew form parts number

making_by : (form : Form) (parts : Parts) (under : Bool) → nat_lt (length parts.operands) form.least ≡ under → AreOperands form.operand 0 parts.operands
    → IsMaking form parts (cond under (Err (parts.first + length parts.operands)) (Ok (form.make parts.given parts.operands)))
making_by form parts true u fitting = inr record { fitting = fitting; under = ltb-true _ _ u; numbered = refl }
making_by form parts false u fitting = record { enough = ltb-false _ _ u; fitting = fitting; made = refl }

making_found : (form : Form) (parts : Parts) (found : Option ℕ) → IsFound form.operand 0 parts.operands found
    → IsMaking form parts (made_by form parts found)
making_found form parts (Some place) h = inl record { place = place; unfit = h; numbered = refl }
making_found form parts None h = making_by form parts (nat_lt (length parts.operands) form.least) refl h

making : (form : Form) (parts : Parts) → IsMaking form parts (made form parts)
unfolding made
making form parts = making_found form parts (first_unfit form.operand 0 parts.operands) (unfit_found form.operand 0 parts.operands)

pub made_make : (form : Form) (parts : Parts) (command : Command) → made form parts ≡ Ok command → Make form parts command
made_make form parts command e = subst (IsMaking form parts) e (making form parts)

pub made_wrong : (form : Form) (parts : Parts) (number : ℕ) → made form parts ≡ Err number → IsNone form parts number ⊎ AreFew form parts number
made_wrong form parts number e = subst (IsMaking form parts) e (making form parts)

pub make_made : (form : Form) (parts : Parts) (command : Command) → Make form parts command → made form parts ≡ Ok command
unfolding made
make_made form parts command h =
    let none = fit_none form.operand 0 parts.operands h.fitting in
    let reaches = le-ltb _ _ h.enough in
    rw (none, reaches) (ap Ok (sym h.made))

pub unfit_made : (form : Form) (parts : Parts) (place : ℕ) → first_unfit form.operand 0 parts.operands ≡ Some place
    → made form parts ≡ Err (parts.first + place)
unfolding made
unfit_made form parts place h = rw h refl

few_made : (form : Form) (parts : Parts) → AreOperands form.operand 0 parts.operands → length parts.operands < form.least
    → made form parts ≡ Err (parts.first + length parts.operands)
unfolding made
few_made form parts fitting under =
    let none = fit_none form.operand 0 parts.operands fitting in
    let less = lt-ltb _ _ under in
    rw (none, less) refl

-- ---- meaning_of, where operands are any texts

-- more operands than the form takes
pub many_meant : (form : Form) (count : ℕ) (behind : List (List ℕ)) (parts : Parts) (number : ℕ) → form.operand ≡ up_to count
    → parts_of form.options [] behind ≡ Ok parts → count < length parts.operands → number ≡ parts.first + count → meaning_of form behind ≡ Err number
many_meant form count behind parts number takes read over numbered =
    ap (λ (read : Result Parts ℕ). made_of form read) read
    ∙ unfit_made form parts count
    (ap (λ (operand : ℕ → List ℕ → Bool). first_unfit operand 0 parts.operands) takes ∙ up_to_over count 0 parts.operands (omega arith) (omega (arith, over)))
    ∙ ap Err (sym numbered)

-- fewer operands than the form has to have
pub few_meant : (form : Form) (count : ℕ) (behind : List (List ℕ)) (parts : Parts) (number : ℕ) → form.operand ≡ up_to count
    → parts_of form.options [] behind ≡ Ok parts → length parts.operands ≤ count → length parts.operands < form.least
    → number ≡ parts.first + length parts.operands → meaning_of form behind ≡ Err number
few_meant form count behind parts number takes read within under numbered =
    ap (λ (read : Result Parts ℕ). made_of form read) read
    ∙ few_made form parts
    (subst (λ (operand : ℕ → List ℕ → Bool). AreOperands operand 0 parts.operands) (sym takes) (up_to_fits count 0 parts.operands (omega (arith, within))))
    under
    ∙ ap Err (sym numbered)

-- a form that takes any number of operands
pub any_meant : (form : Form) (behind : List (List ℕ)) (parts : Parts) → form.operand ≡ any → form.least ≡ 0
    → parts_of form.options [] behind ≡ Ok parts → meaning_of form behind ≡ Ok (form.make parts.given parts.operands)
any_meant form behind parts takes least read =
    ap (λ (read : Result Parts ℕ). made_of form read) read
    ∙ make_made form parts (form.make parts.given parts.operands) record {
      enough = omega (arith, least);
      fitting = subst (λ (operand : ℕ → List ℕ → Bool). AreOperands operand 0 parts.operands) (sym takes) (any_fits 0 parts.operands);
      made = refl;
    }

-- what `transfer` makes of its options and names
pub transfer_meant : (behind : List (List ℕ)) (parts : Parts) (size count : ℕ) (text : Option (List ℕ)) (names : List (List ℕ))
    → parts_of transfer_form.options [] behind ≡ Ok parts → size ≡ block_of parts.given → count ≡ checkpoint_of parts.given
    → text ≡ timestamp_of parts.given → names ≡ parts.operands → meaning_of transfer_form behind ≡ Ok (Transfer size count text names)
transfer_meant behind parts size count text names read is_size is_count is_text is_names =
    any_meant transfer_form behind parts refl refl read ∙ sym (rw (is_size, is_count, is_text, is_names) refl)

-- what `plan` makes of its option and names
pub plan_meant : (behind : List (List ℕ)) (parts : Parts) (size : ℕ) (names : List (List ℕ)) → parts_of plan_form.options [] behind ≡ Ok parts
    → size ≡ block_of parts.given → names ≡ parts.operands → meaning_of plan_form behind ≡ Ok (Plan size names)
plan_meant behind parts size names read is_size is_names = any_meant plan_form behind parts refl refl read ∙ sym (rw (is_size, is_names) refl)
