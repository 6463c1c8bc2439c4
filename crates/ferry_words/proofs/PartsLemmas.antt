-- Lemmas on the options and operands among words.
use Rattle.std.proofs.Common.{◌≡◌, ℕ, ◌+◌, not, Bool, true, false, cond, ◌&&◌, List, [], ◌∷◌, ◌++◌, length, ◌⊎◌, inl, inr}
use Rattle.std.proofs.Common.{Result, Ok, Err, refl, ap, ◌∙◌, subst, sym, is_some, append_assoc}
use Rattle.std.proofs.lemmas.Bool.{cases_Bool}
use Rattle.std.proofs.lemmas.List.{append-nil}
use Rattle.std.proofs.lemmas.Slice.Eq.{bytes_eq-Decides}
use Rattle.std.specs.List.{AllByRecursion}
use Rattle.std.specs.Str.{bytes_eq}
use Rattle.ferry_words.specs.Words.{OptionForm, Parts, is_known, is_new, is_option, is_taken, options_end, parts, parts_of, value_of}
use Rattle.ferry_words.specs.Laws.{AreOptions, IsAhead, IsPlainAhead}
use Rattle.ferry_words.proofs.TableLemmas.{IsUsable, known_formed}

-- ---- is_new

known_by : (known given : Bool) → (known && not given) ≡ true → known ≡ true
known_by true given h = refl
known_by false given h = h

-- a new option is one of the options
pub new_known : (options : List OptionForm) (given : List (List ℕ)) (name : List ℕ) → is_new options given name ≡ true → is_known options name ≡ true
new_known options given name new = known_by (is_known options name) (is_some (value_of given name)) new

-- ---- parts_of, by the word in the place of an option's name

pub parts_ended : (options : List OptionForm) (given : List (List ℕ)) (word : List ℕ) (rest : List (List ℕ)) → bytes_eq word options_end ≡ true
    → parts_of options given (word ∷ rest) ≡ Ok (parts given 3 rest)
unfolding parts_of
parts_ended options given word [] end = rw end refl
parts_ended options given word (value ∷ rest) end = rw end refl

pub parts_plain : (options : List OptionForm) (given : List (List ℕ)) (word : List ℕ) (rest : List (List ℕ))
    → bytes_eq word options_end ≡ false → is_option word ≡ false → parts_of options given (word ∷ rest) ≡ Ok (parts given 2 (word ∷ rest))
unfolding parts_of
parts_plain options given word [] other plain = rw (other, plain) refl
parts_plain options given word (value ∷ rest) other plain = rw (other, plain) refl

pub parts_old : (options : List OptionForm) (given : List (List ℕ)) (word : List ℕ) (rest : List (List ℕ))
    → bytes_eq word options_end ≡ false → is_option word ≡ true → is_new options given word ≡ false
    → parts_of options given (word ∷ rest) ≡ Err (length given + 2)
unfolding parts_of
parts_old options given word [] other option old = rw (other, option, old) refl
parts_old options given word (value ∷ rest) other option old = rw (other, option, old) refl

pub parts_last : (options : List OptionForm) (given : List (List ℕ)) (word : List ℕ)
    → bytes_eq word options_end ≡ false → is_option word ≡ true → is_new options given word ≡ true
    → parts_of options given (word ∷ []) ≡ Err (length given + 3)
unfolding parts_of
parts_last options given word other option new = rw (other, option, new) refl

pub parts_untaken : (options : List OptionForm) (given : List (List ℕ)) (word value : List ℕ) (rest : List (List ℕ))
    → bytes_eq word options_end ≡ false → is_option word ≡ true → is_new options given word ≡ true → is_taken options word value ≡ false
    → parts_of options given (word ∷ (value ∷ rest)) ≡ Err (length given + 3)
unfolding parts_of
parts_untaken options given word value rest other option new untaken = rw (other, option, new, untaken) refl

pub parts_taken : (options : List OptionForm) (given : List (List ℕ)) (word value : List ℕ) (rest : List (List ℕ))
    → bytes_eq word options_end ≡ false → is_option word ≡ true → is_new options given word ≡ true → is_taken options word value ≡ true
    → parts_of options given (word ∷ (value ∷ rest)) ≡ parts_of options (given ++ (word ∷ (value ∷ []))) rest
unfolding parts_of
parts_taken options given word value rest other option new taken = rw (other, option, new, taken) refl

-- ---- what is given is read

-- given options are passed over
pub given_read : (options : List OptionForm) (before given rest : List (List ℕ)) → AllByRecursion IsUsable options → AreOptions options before given
    → parts_of options before (given ++ rest) ≡ parts_of options (before ++ given) rest
unfolding AreOptions
given_read options before [] rest usable known = ap (λ (before : List (List ℕ)). parts_of options before rest) (sym (append-nil before))
given_read options before (name ∷ []) rest usable known = absurd known
given_read options before (name ∷ value ∷ given) rest usable known =
    let formed = known_formed options name usable (new_known options before name known.0) in
    parts_taken options before name value (given ++ rest) formed.other formed.option known.0 known.1
    ∙ given_read options (before ++ (name ∷ (value ∷ []))) given rest usable known.2
    ∙ ap (λ (before : List (List ℕ)). parts_of options before rest) (append_assoc before (name ∷ (value ∷ [])) given)

-- one more option is given
pub given_more : (options : List OptionForm) (before given : List (List ℕ)) (name value : List ℕ) → AreOptions options before given
    → is_new options (before ++ given) name ≡ true → is_taken options name value ≡ true → AreOptions options before (given ++ (name ∷ (value ∷ [])))
unfolding AreOptions
given_more options before [] name value known new taken =
    (subst (λ (before : List (List ℕ)). is_new options before name ≡ true) (append-nil before) new, taken, tt)
given_more options before (first ∷ []) name value known new taken = absurd known
given_more options before (first ∷ second ∷ given) name value known new taken = (
  known.0,
  known.1,
  given_more options (before ++ (first ∷ (second ∷ []))) given name value known.2
      (subst (λ (before : List (List ℕ)). is_new options before name ≡ true) (sym (append_assoc before (first ∷ (second ∷ [])) given)) new) taken,
)

no_end : (word : List ℕ) → is_option word ≡ false → bytes_eq word options_end ≡ false
no_end word plain = elim (cases_Bool (bytes_eq word options_end)) [
  | inl same ↦ (let e : word ≡ options_end = (bytes_eq-Decides word options_end).0 same in
      let option : is_option word ≡ true = subst (λ (w : List ℕ). is_option w ≡ true) (sym e) refl in cc)
  | inr other ↦ other
]

plain_read : (options : List OptionForm) (given operands : List (List ℕ)) → IsPlainAhead operands
    → parts_of options given operands ≡ Ok (parts given 2 operands)
unfolding parts_of
plain_read options given [] h = refl
plain_read options given (word ∷ rest) h = parts_plain options given word rest (no_end word h) h

-- what stands ahead of operands is passed over
pub ahead_read : (options : List OptionForm) (given ahead operands : List (List ℕ)) → IsAhead ahead operands
    → parts_of options given (ahead ++ operands) ≡ Ok (parts given (length ahead + 2) operands)
ahead_read options given ahead operands (inl e) =
    subst (λ (ahead : List (List ℕ)). parts_of options given (ahead ++ operands) ≡ Ok (parts given (length ahead + 2) operands)) (sym e)
    (parts_ended options given options_end operands refl)
ahead_read options given ahead operands (inr h) =
    subst (λ (ahead : List (List ℕ)). parts_of options given (ahead ++ operands) ≡ Ok (parts given (length ahead + 2) operands)) (sym h.0)
    (plain_read options given operands h.1)

-- ---- what is read is given

-- the parts are read from these words, behind options that were given before
pub record AreRead (options : List OptionForm) (before behind : List (List ℕ)) (read : Parts) : Type 0 where
  pub given : List (List ℕ)
  pub ahead : List (List ℕ)
  pub spelled : behind ≡ given ++ (ahead ++ read.operands)
  pub known : AreOptions options before given
  pub free : IsAhead ahead read.operands
  pub kept : read.given ≡ before ++ given
  pub numbered : read.first ≡ length read.given + (length ahead + 2)

-- a word has the form of an option's name, and isn't one that may stand behind these options
pub record IsOld (options : List OptionForm) (given rest : List (List ℕ)) (number : ℕ) : Type 0 where
  pub word : List ℕ
  pub more : List (List ℕ)
  pub spelled : rest ≡ word ∷ more
  pub other : bytes_eq word options_end ≡ false
  pub option : is_option word ≡ true
  pub old : is_new options given word ≡ false
  pub numbered : number ≡ length given + 2

-- an option's name has no value behind it
pub record IsLast (options : List OptionForm) (given rest : List (List ℕ)) (number : ℕ) : Type 0 where
  pub word : List ℕ
  pub spelled : rest ≡ word ∷ []
  pub new : is_new options given word ≡ true
  pub numbered : number ≡ length given + 3

-- an option doesn't take the value behind its name
pub record IsUntaken (options : List OptionForm) (given rest : List (List ℕ)) (number : ℕ) : Type 0 where
  pub word : List ℕ
  pub value : List ℕ
  pub more : List (List ℕ)
  pub spelled : rest ≡ word ∷ (value ∷ more)
  pub new : is_new options given word ≡ true
  pub untaken : is_taken options word value ≡ false
  pub numbered : number ≡ length given + 3

-- what is wrong behind given options
abbrev pub IsFault : List OptionForm → List (List ℕ) → List (List ℕ) → ℕ → Type 0
IsFault options given rest number = IsOld options given rest number ⊎ (IsLast options given rest number ⊎ IsUntaken options given rest number)

-- behind some options a word is wrong, or missing
pub record IsStopped (options : List OptionForm) (before behind : List (List ℕ)) (number : ℕ) : Type 0 where
  pub given : List (List ℕ)
  pub rest : List (List ℕ)
  pub spelled : behind ≡ given ++ rest
  pub known : AreOptions options before given
  pub fault : IsFault options (before ++ given) rest number

abbrev IsReading : List OptionForm → List (List ℕ) → List (List ℕ) → Result Parts ℕ → Type 0
IsReading options before behind (Ok read) = AreRead options before behind read
IsReading options before behind (Err number) = IsStopped options before behind number

nothing_given : (options : List OptionForm) (before ahead operands : List (List ℕ)) → IsAhead ahead operands
    → AreRead options before (ahead ++ operands) (parts before (length ahead + 2) operands)
unfolding AreOptions
nothing_given options before ahead operands free = record {
  given = [];
  ahead = ahead;
  spelled = refl;
  known = tt;
  free = free;
  kept = sym (append-nil before);
  numbered = refl;
}

stopped_at : (options : List OptionForm) (before rest : List (List ℕ)) (number : ℕ) → IsFault options before rest number
    → IsStopped options before rest number
unfolding AreOptions
stopped_at options before rest number fault = record {
  given = [];
  rest = rest;
  spelled = refl;
  known = tt;
  fault = subst (λ (before : List (List ℕ)). IsFault options before rest number) (sym (append-nil before)) fault;
}

ended_first : (options : List OptionForm) (before : List (List ℕ)) (word : List ℕ) (rest : List (List ℕ)) → bytes_eq word options_end ≡ true
    → AreRead options before (word ∷ rest) (parts before 3 rest)
ended_first options before word rest same =
    let e : word ≡ options_end = (bytes_eq-Decides word options_end).0 same in
    subst (λ (word : List ℕ). AreRead options before (word ∷ rest) (parts before 3 rest)) (sym e)
    (nothing_given options before (options_end ∷ []) rest (inl refl))

reading_last : (options : List OptionForm) (before : List (List ℕ)) (word : List ℕ) (end option new : Bool)
    → bytes_eq word options_end ≡ end → is_option word ≡ option → is_new options before word ≡ new
    → IsReading options before (word ∷ [])
    (cond end (Ok (parts before 3 [])) (cond (not option) (Ok (parts before 2 (word ∷ [])))
    (cond new (Err (length before + 3)) (Err (length before + 2)))))
reading_last options before word true option new e o n = ended_first options before word [] e
reading_last options before word false false new e o n = nothing_given options before [] (word ∷ []) (inr (refl, o))
reading_last options before word false true true e o n =
    stopped_at options before (word ∷ []) (length before + 3) (inr (inl record { word = word; spelled = refl; new = n; numbered = refl }))
reading_last options before word false true false e o n =
    stopped_at options before (word ∷ []) (length before + 2)
    (inl record { word = word; more = []; spelled = refl; other = e; option = o; old = n; numbered = refl })

-- an option in front of what is read
read_more : (options : List OptionForm) (before : List (List ℕ)) (word value : List ℕ) (rest : List (List ℕ)) (result : Result Parts ℕ)
    → is_new options before word ≡ true → is_taken options word value ≡ true → IsReading options (before ++ (word ∷ (value ∷ []))) rest result
    → IsReading options before (word ∷ (value ∷ rest)) result
unfolding AreOptions
read_more options before word value rest (Ok read) new taken h = record {
  given = word ∷ (value ∷ h.given);
  ahead = h.ahead;
  spelled = ap (λ (rest : List (List ℕ)). word ∷ (value ∷ rest)) h.spelled;
  known = (new, taken, h.known);
  free = h.free;
  kept = h.kept ∙ append_assoc before (word ∷ (value ∷ [])) h.given;
  numbered = h.numbered;
}
read_more options before word value rest (Err number) new taken h = record {
  given = word ∷ (value ∷ h.given);
  rest = h.rest;
  spelled = ap (λ (rest : List (List ℕ)). word ∷ (value ∷ rest)) h.spelled;
  known = (new, taken, h.known);
  fault = subst (λ (given : List (List ℕ)). IsFault options given h.rest number) (append_assoc before (word ∷ (value ∷ [])) h.given) h.fault;
}

reading_pair : (options : List OptionForm) (before : List (List ℕ)) (word value : List ℕ) (rest : List (List ℕ)) (result : Result Parts ℕ)
    → (end option new taken : Bool)
    → bytes_eq word options_end ≡ end → is_option word ≡ option → is_new options before word ≡ new → is_taken options word value ≡ taken
    → IsReading options (before ++ (word ∷ (value ∷ []))) rest result
    → IsReading options before (word ∷ (value ∷ rest))
    (cond end (Ok (parts before 3 (value ∷ rest))) (cond (not option) (Ok (parts before 2 (word ∷ (value ∷ rest))))
    (cond new (cond taken result (Err (length before + 3))) (Err (length before + 2)))))
reading_pair options before word value rest result true option new taken e o n t h = ended_first options before word (value ∷ rest) e
reading_pair options before word value rest result false false new taken e o n t h =
    nothing_given options before [] (word ∷ (value ∷ rest)) (inr (refl, o))
reading_pair options before word value rest result false true true true e o n t h = read_more options before word value rest result n t h
reading_pair options before word value rest result false true true false e o n t h =
    stopped_at options before (word ∷ (value ∷ rest)) (length before + 3)
    (inr (inr record { word = word; value = value; more = rest; spelled = refl; new = n; untaken = t; numbered = refl }))
reading_pair options before word value rest result false true false taken e o n t h =
    stopped_at options before (word ∷ (value ∷ rest)) (length before + 2)
    (inl record { word = word; more = value ∷ rest; spelled = refl; other = e; option = o; old = n; numbered = refl })

reading : (options : List OptionForm) (before behind : List (List ℕ)) → IsReading options before behind (parts_of options before behind)
unfolding parts_of
reading options before [] = nothing_given options before [] [] (inr (refl, tt))
reading options before (word ∷ []) =
    reading_last options before word (bytes_eq word options_end) (is_option word) (is_new options before word) refl refl refl
reading options before (word ∷ value ∷ rest) =
    reading_pair options before word value rest (parts_of options (before ++ (word ∷ (value ∷ []))) rest)
    (bytes_eq word options_end) (is_option word) (is_new options before word) (is_taken options word value) refl refl refl refl
    (reading options (before ++ (word ∷ (value ∷ []))) rest)

pub parts_read : (options : List OptionForm) (behind : List (List ℕ)) (read : Parts) → parts_of options [] behind ≡ Ok read → AreRead options [] behind read
parts_read options behind read e = subst (IsReading options [] behind) e (reading options [] behind)

pub stop_read : (options : List OptionForm) (behind : List (List ℕ)) (number : ℕ) → parts_of options [] behind ≡ Err number
    → IsStopped options [] behind number
stop_read options behind number e = subst (IsReading options [] behind) e (reading options [] behind)
