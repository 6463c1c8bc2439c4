-- Lemmas on the section `repository`, for the loops over its lines.
use Rattle.std.proofs.Common.{◌≡◌, ℕ, suc, ◌+◌, ◌<◌, Bool, true, false, not, List, [], ◌∷◌, ◌++◌, length, map, drop, take, get_or, codes, Bor, refl, ap}
use Rattle.std.proofs.Common.{arith, add-one, drop-cons, append_assoc}
use Rattle.std.proofs.lemmas.List.{map_more}
use Rattle.std.specs.List.{before_first, flat_map, prefix_len}
use Rattle.std.specs.Str.{bytes_eq}
use Rattle.ferry_config.specs.Line as spec
use Rattle.ferry_config.specs.Section.{assignments, continuation, is_assigned, is_header, piece_of, repository_sections, sections, values_to}
use Rattle.ferry_config.specs.View.{line_view}
use Rattle.ferry_config.specs.declared.line.Line.{Line}
use Rattle.ferry_config.specs.declared.line.Line.TheVariants.{Passed, Header, Continued, Assigned, Formless}

-- ---- the lines from place i on

pub line_view-drop : (lines : List Line) (i : ℕ) → i < length lines
    → map line_view (drop i lines) ≡ line_view (get_or lines i Passed) ∷ map line_view (drop (i + 1) lines)
line_view-drop lines i within = rw (add-one i) (ap (map line_view) (drop-cons lines i Passed within))

pub is_header-line_view : (line : Line) → ((name : Bor (List ℕ)) → line ≡ Header name → ⊥) → is_header (line_view line) ≡ false
is_header-line_view Passed other = refl
is_header-line_view (Header name) other = absurd (other name refl)
is_header-line_view (Continued piece) other = refl
is_header-line_view (Assigned name value) other = refl
is_header-line_view Formless other = refl

pub is_assigned-line_view : (line : Line) → ((name value : Bor (List ℕ)) → line ≡ Assigned name value → ⊥) → is_assigned (line_view line) ≡ false
is_assigned-line_view Passed other = refl
is_assigned-line_view (Header name) other = refl
is_assigned-line_view (Continued piece) other = refl
is_assigned-line_view (Assigned name value) other = absurd (other name value refl)
is_assigned-line_view Formless other = refl

pub piece_of-line_view : (line : Line) → ((piece : Bor (List ℕ)) → line ≡ Continued piece → ⊥) → piece_of (line_view line) ≡ []
piece_of-line_view Passed other = refl
piece_of-line_view (Header name) other = refl
piece_of-line_view (Continued piece) other = absurd (other piece refl)
piece_of-line_view (Assigned name value) other = refl
piece_of-line_view Formless other = refl

-- ---- before_first

pub before_first-passes : {X : Type 0} (p : X → Bool) (x : X) (xs : List X) → p x ≡ true → before_first p (x ∷ xs) ≡ []
before_first-passes p x xs passes = rw passes refl

pub before_first-fails : {X : Type 0} (p : X → Bool) (x : X) (xs : List X) → p x ≡ false → before_first p (x ∷ xs) ≡ x ∷ before_first p xs
before_first-fails p x xs fails =
    let one_more : 1 + prefix_len (λ y. not (p y)) xs ≡ suc (prefix_len (λ y. not (p y)) xs) = omega arith in
    rw (fails, one_more) refl

-- one more line that doesn't pass
pub before_first-drop : (p : spec.Line → Bool) (lines : List Line) (i : ℕ) → i < length lines → p (line_view (get_or lines i Passed)) ≡ false
    → map line_view (take i lines) ++ before_first p (map line_view (drop i lines))
    ≡ map line_view (take (i + 1) lines) ++ before_first p (map line_view (drop (i + 1) lines))
before_first-drop p lines i within fails =
    let line = get_or lines i Passed in
    let rest = map line_view (drop (i + 1) lines) in
    rw (
      line_view-drop lines i within,
      before_first-fails p (line_view line) rest fails,
      map_more line_view lines i Passed within,
      append_assoc
          (map line_view (take i lines)) (line_view line ∷ []) (before_first p rest),
    ) refl

-- ---- repository_sections

pub repository_sections-other : (line : spec.Line) (rest : List spec.Line) → is_header line ≡ false
    → repository_sections (line ∷ rest) ≡ repository_sections rest
unfolding repository_sections sections
repository_sections-other spec.passed rest other = refl
repository_sections-other (spec.header name) rest other = cc
repository_sections-other (spec.continued piece) rest other = refl
repository_sections-other (spec.assigned name value) rest other = refl
repository_sections-other spec.formless rest other = refl

pub repository_sections-named : (name : List ℕ) (rest : List spec.Line) → bytes_eq name (codes "repository") ≡ true
    → repository_sections (spec.header name ∷ rest) ≡ before_first is_header rest ∷ repository_sections rest
unfolding repository_sections sections
repository_sections-named name rest same = rw same refl

pub repository_sections-unnamed : (name : List ℕ) (rest : List spec.Line) → bytes_eq name (codes "repository") ≡ false
    → repository_sections (spec.header name ∷ rest) ≡ repository_sections rest
unfolding repository_sections sections
repository_sections-unnamed name rest other = rw other refl

-- ---- values_to

pub assignments-other : (line : spec.Line) (rest : List spec.Line) → is_assigned line ≡ false → assignments (line ∷ rest) ≡ assignments rest
unfolding assignments
assignments-other spec.passed rest other = refl
assignments-other (spec.header name) rest other = refl
assignments-other (spec.continued piece) rest other = refl
assignments-other (spec.assigned name value) rest other = cc
assignments-other spec.formless rest other = refl

pub values_to-named : (name found value : List ℕ) (rest : List spec.Line) → bytes_eq found name ≡ true
    → values_to name (assignments (spec.assigned found value ∷ rest)) ≡ (value ++ continuation rest) ∷ values_to name (assignments rest)
unfolding assignments values_to
values_to-named name found value rest same = rw same refl

pub values_to-unnamed : (name found value : List ℕ) (rest : List spec.Line) → bytes_eq found name ≡ false
    → values_to name (assignments (spec.assigned found value ∷ rest)) ≡ values_to name (assignments rest)
unfolding assignments values_to
values_to-unnamed name found value rest other = rw other refl

-- ---- continuation

pub continuation-assigned : (name value : List ℕ) (rest : List spec.Line) → continuation (spec.assigned name value ∷ rest) ≡ []
unfolding continuation
continuation-assigned name value rest = refl

pub continuation-other : (line : spec.Line) (rest : List spec.Line) → is_assigned line ≡ false
    → continuation (line ∷ rest) ≡ piece_of line ++ continuation rest
unfolding continuation
continuation-other line rest other = ap (flat_map piece_of) (before_first-fails is_assigned line rest other)

-- ---- no lines

pub repository_sections-nil : repository_sections [] ≡ []
unfolding repository_sections sections
repository_sections-nil = refl

pub values_to-nil : (name : List ℕ) → values_to name (assignments []) ≡ []
unfolding assignments values_to
values_to-nil name = refl

pub continuation-nil : continuation [] ≡ []
unfolding continuation
continuation-nil = refl
