-- Lemmas on the table of the commands.
use Rattle.std.proofs.Common.{◌≡◌, ℕ, zero, suc, ◌<◌, Bool, true, false, cond, ◌||◌, List, [], ◌∷◌, length, get_or, find, Contains, Some, refl, ap, ◌∙◌}
use Rattle.std.proofs.Common.{subst, arith, sym, codes}
use Rattle.std.proofs.lemmas.Slice.Eq.{bytes_eq-Decides}
use Rattle.std.specs.List.{AllByRecursion}
use Rattle.std.specs.Str.{IsUtf8, bytes_eq}
use Rattle.ferry_words.specs.Words.{Form, IsInRange, OptionForm, Row, is_known, is_option, is_taken, iterations, listed, number_of, options_end, rows, row_of}
use Rattle.ferry_words.specs.Words.{block, checkpoint, drill_form, threshold, timestamp, transferred}
use Rattle.ferry_words.specs.Laws.{AreOperands, IsPlainAhead}
use Rattle.ferry_words.proofs.NumberLemmas.{block_in_range, checkpoint_in_range, count_in_range, iterations_in_range, threshold_in_range}

-- ---- options

-- an option takes some text, and its name has the form of one
pub record IsUsable (option : OptionForm) : Type 0 where
  pub value : List ℕ
  pub utf8 : IsUtf8 value
  pub taken : option.takes value ≡ true
  pub formed : is_option option.name ≡ true
  pub other : bytes_eq option.name options_end ≡ false

utf8_one : IsUtf8 (codes "1")
unfolding lib.Utf8.encode
utf8_one = (codes "1", (refl, refl))

usable_iterations : IsUsable iterations
unfolding number_of
usable_iterations = record { value = codes "1"; utf8 = utf8_one; taken = refl; formed = refl; other = refl }

utf8_block : IsUtf8 (codes "64")
unfolding lib.Utf8.encode
utf8_block = (codes "64", (refl, refl))

usable_block : IsUsable block
unfolding number_of
usable_block = record { value = codes "64"; utf8 = utf8_block; taken = refl; formed = refl; other = refl }

usable_checkpoint : IsUsable checkpoint
unfolding number_of
usable_checkpoint = record { value = codes "1"; utf8 = utf8_one; taken = refl; formed = refl; other = refl }

usable_threshold : IsUsable threshold
unfolding number_of
usable_threshold = record { value = codes "1"; utf8 = utf8_one; taken = refl; formed = refl; other = refl }

usable_timestamp : IsUsable timestamp
usable_timestamp = record { value = codes "1"; utf8 = utf8_one; taken = refl; formed = refl; other = refl }

-- the name of an option has the form of one, and ends no options
pub record IsFormed (name : List ℕ) : Type 0 where
  pub option : is_option name ≡ true
  pub other : bytes_eq name options_end ≡ false

formed_by : (first : OptionForm) (options : List OptionForm) (name : List ℕ) (test : Bool) → IsUsable first → bytes_eq name first.name ≡ test
    → (is_known options name ≡ true → IsFormed name) → (test || is_known options name) ≡ true → IsFormed name
formed_by first options name true usable same later known =
    let e : name ≡ first.name = (bytes_eq-Decides name first.name).0 same in
    subst IsFormed (sym e) record { option = usable.formed; other = usable.other }
formed_by first options name false usable other later known = later known

pub known_formed : (options : List OptionForm) (name : List ℕ) → AllByRecursion IsUsable options → is_known options name ≡ true → IsFormed name
known_formed [] name usable known = let no : ⊥ = cc in absurd no
known_formed (first ∷ options) name usable known =
    formed_by first options name (bytes_eq name first.name) usable.0 refl (known_formed options name usable.1) known

-- the option of a name takes some text
pub record HasValue (options : List OptionForm) (name : List ℕ) : Type 0 where
  pub value : List ℕ
  pub utf8 : IsUtf8 value
  pub taken : is_taken options name value ≡ true

value_by : (first : OptionForm) (options : List OptionForm) (name : List ℕ) (test : Bool) → IsUsable first → bytes_eq name first.name ≡ test
    → (is_known options name ≡ true → HasValue options name) → (test || is_known options name) ≡ true → HasValue (first ∷ options) name
value_by first options name true usable same later known =
    let taken = usable.taken in
    record { value = usable.value; utf8 = usable.utf8; taken = rw (same, taken) refl }
value_by first options name false usable other later known =
    let has = later known in
    let taken = has.taken in
    record { value = has.value; utf8 = has.utf8; taken = rw (other, taken) refl }

pub known_value : (options : List OptionForm) (name : List ℕ) → AllByRecursion IsUsable options → is_known options name ≡ true → HasValue options name
known_value [] name usable known = let no : ⊥ = cc in absurd no
known_value (first ∷ options) name usable known =
    value_by first options name (bytes_eq name first.name) usable.0 refl (known_value options name usable.1) known

-- ---- rows

-- operands that a form takes, no more of them than it has to have
pub record HasOperands (form : Form) : Type 0 where
  pub few : List (List ℕ)
  pub utf8 : AllByRecursion IsUtf8 few
  pub plain : IsPlainAhead few
  pub fitting : AreOperands form.operand 0 few
  pub as_few : length few ≡ form.least

listed_in_range : (given operands : List (List ℕ)) → IsInRange (listed given operands)
listed_in_range given [] = tt
listed_in_range given (name ∷ rest) = tt

transferred_in_range : (given operands : List (List ℕ)) → IsInRange (transferred given operands)
transferred_in_range given operands =
    let size = block_in_range given in
    let count = checkpoint_in_range given in
    (size.0, size.1, count.0, count.1)

-- the table finds the row by its word; its options can be given, and so can its operands; its numbers are in range
pub record IsFound (row : Row) : Type 0 where
  pub found : row_of row.word ≡ Some row
  pub usable : AllByRecursion IsUsable row.form.options
  pub filled : HasOperands row.form
  pub in_range : (given operands : List (List ℕ)) → IsInRange (row.form.make given operands)

-- no operands, where a form can do without
none : (form : Form) → form.least ≡ 0 → HasOperands form
none form least = record { few = []; utf8 = tt; plain = tt; fitting = tt; as_few = sym least }

utf8_empty : IsUtf8 []
utf8_empty = ([], (refl, refl))

-- one number, where a form counts
one_counted : HasOperands drill_form
unfolding number_of
one_counted = record { few = codes "1" ∷ []; utf8 = (utf8_one, tt); plain = refl; fitting = (refl, tt); as_few = refl }

found_at : (k : ℕ) (row : Row) → k < length rows → get_or rows k row ≡ row → IsFound row
unfolding row_of
found_at zero row within e = subst IsFound e record { found = refl; usable = tt; filled = none _ refl; in_range = λ given operands. tt }
found_at (suc zero) row within e = subst IsFound e record { found = refl; usable = tt; filled = none _ refl; in_range = λ given operands. tt }
found_at (suc (suc zero)) row within e = subst IsFound e record { found = refl; usable = tt; filled = none _ refl; in_range = listed_in_range }
found_at (suc (suc (suc zero))) row within e = subst IsFound e record {
  found = refl;
  usable = tt;
  filled = record { few = [] ∷ [] ∷ []; utf8 = (utf8_empty, (utf8_empty, tt)); plain = refl; fitting = (refl, (refl, tt)); as_few = refl };
  in_range = λ given operands. tt;
}
found_at (suc (suc (suc (suc zero)))) row within e = subst IsFound e record { found = refl; usable = tt; filled = none _ refl; in_range = λ given operands. tt }
found_at (suc (suc (suc (suc (suc zero))))) row within e =
    subst IsFound e record {
      found = refl;
      usable = (usable_iterations, (usable_timestamp, tt));
      filled = none _ refl;
      in_range = λ given operands. iterations_in_range given;
    }
found_at (suc (suc (suc (suc (suc (suc zero)))))) row within e =
    subst IsFound e record {
      found = refl;
      usable = (usable_iterations, tt);
      filled = none _ refl;
      in_range = λ given operands. iterations_in_range given;
    }
found_at (suc (suc (suc (suc (suc (suc (suc zero))))))) row within e =
    subst IsFound e record {
      found = refl;
      usable = (usable_block, (usable_checkpoint, (usable_timestamp, tt)));
      filled = none _ refl;
      in_range = transferred_in_range;
    }
found_at (suc (suc (suc (suc (suc (suc (suc (suc zero)))))))) row within e =
    subst IsFound e record {
      found = refl;
      usable = (usable_block, tt);
      filled = none _ refl;
      in_range = λ given operands. block_in_range given;
    }
found_at (suc (suc (suc (suc (suc (suc (suc (suc (suc zero))))))))) row within e =
    subst IsFound e record {
      found = refl;
      usable = (usable_timestamp, tt);
      filled = record { few = [] ∷ []; utf8 = (utf8_empty, tt); plain = refl; fitting = (refl, tt); as_few = refl };
      in_range = λ given operands. tt;
    }
found_at (suc (suc (suc (suc (suc (suc (suc (suc (suc (suc zero)))))))))) row within e =
    subst IsFound e record {
      found = refl;
      usable = (usable_threshold, tt);
      filled = none _ refl;
      in_range = λ given operands. threshold_in_range given;
    }
found_at (suc (suc (suc (suc (suc (suc (suc (suc (suc (suc (suc zero))))))))))) row within e =
    subst IsFound e record {
      found = refl;
      usable = (usable_timestamp, tt);
      filled = none _ refl;
      in_range = λ given operands. tt;
    }
found_at (suc (suc (suc (suc (suc (suc (suc (suc (suc (suc (suc (suc zero)))))))))))) row within e =
    subst IsFound e record {
      found = refl;
      usable = tt;
      filled = one_counted;
      in_range = λ given operands. count_in_range operands;
    }
found_at (suc (suc (suc (suc (suc (suc (suc (suc (suc (suc (suc (suc (suc k))))))))))))) row within e = absurd (omega arith)

pub listed_found : (row : Row) → Contains rows row → IsFound row
listed_found row h = found_at h.0 row h.1 h.2

-- ---- row_of

-- the row is one of these, and has this word
pub record IsNamed (all : List Row) (word : List ℕ) (row : Row) : Type 0 where
  pub listed : Contains all row
  pub same : row.word ≡ word

named_behind : (word : List ℕ) (first : Row) (rest : List Row) (row : Row) → IsNamed rest word row → IsNamed (first ∷ rest) word row
named_behind word first rest row h = record { listed = (suc h.listed.0, omega (arith, h.listed.1), h.listed.2); same = h.same }

named_by : (word : List ℕ) (first : Row) (rest : List Row) (row : Row) (test : Bool) → bytes_eq word first.word ≡ test
    → (find (λ (row : Row). bytes_eq word row.word) rest ≡ Some row → IsNamed rest word row)
    → cond test (Some first) (find (λ (row : Row). bytes_eq word row.word) rest) ≡ Some row → IsNamed (first ∷ rest) word row
named_by word first rest row true same later e =
    let this : first ≡ row = cc in
    record { listed = (0, omega arith, this); same = ap (λ (row : Row). row.word) (sym this) ∙ sym ((bytes_eq-Decides word first.word).0 same) }
named_by word first rest row false other later e = named_behind word first rest row (later e)

named_in : (word : List ℕ) (all : List Row) (row : Row) → find (λ (row : Row). bytes_eq word row.word) all ≡ Some row → IsNamed all word row
named_in word [] row e = cc
named_in word (first ∷ rest) row e = named_by word first rest row (bytes_eq word first.word) refl (named_in word rest row) e

pub row_named : (word : List ℕ) (row : Row) → row_of word ≡ Some row → IsNamed rows word row
unfolding row_of
row_named word row e = named_in word rows row e
