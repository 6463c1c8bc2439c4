-- The map that bytes spell with nothing behind it, with the value of one name apart.
use Rattle.std.proofs.Common.{◌≡◌, ◌≢◌, ℕ, ◌<◌, Bool, true, false, cond, List, [], ◌∷◌, length, Option, Some, None, option_map, Result, Ok, Err, refl, sym}
use Rattle.std.proofs.Common.{ap, ◌∙◌, arith}
use Rattle.std.specs.Str.{bytes_eq}
use Rattle.std.proofs.lemmas.Slice.Eq.{bytes_eq-Decides}
use Rattle.ferry_msgpack.specs.declared.fault.PackFault.{PackFault}
use Rattle.ferry_msgpack.specs.declared.fault.PackFault.TheVariants.{Short, Kind, Key, Repeat, Deep, Memory}
use Rattle.ferry_msgpack.specs.Tree.{Tree, nil, flag, number, raw, array, table, Pairs, no_pairs, pair}
use Rattle.ferry_msgpack.specs.Reading.{Fails, value_at}
use Rattle.ferry_msgpack.specs.Apart.{Parts, blanked, parted, parts_of, parts_at}
use Rattle.ferry_msgpack.proofs.ApartLemmas.{kept}
use Rattle.ferry_fields.specs.Fields.{map_of, only_map, pairs_in, value_of}
use Rattle.ferry_fields.specs.Others.{is_among, without}
use Rattle.ferry_fields.proofs.FieldLemmas.{value_of-here, value_of-other}
use Rattle.ferry_fields.proofs.OtherLemmas.{without-among, without-other}

-- ---- what is read

abbrev Front : Type 0
Front = Option Parts × List ℕ

abbrev front_as : Front → Result Front PackFault
front_as x = Ok x

same_front : (x y : Front) → front_as x ≡ front_as y → x ≡ y
same_front x y e = cc

only_parts : (name : List ℕ) (t : Tree) → option_map (parted name) (pairs_in t) ≡ parts_of name t
only_parts name nil = refl
only_parts name (flag b) = refl
only_parts name (number z) = refl
only_parts name (raw content) = refl
only_parts name (array items) = refl
only_parts name (table pairs) = refl

no_parts : (name : List ℕ) (o : Option Pairs) → option_map (parted name) o ≡ None → o ≡ None
no_parts name None e = refl
no_parts name (Some pairs) e = cc

whole : (name : List ℕ) (parts : Parts) (r : Result (Tree × List ℕ) PackFault) → kept (parts_of name) r ≡ Ok (Some parts, [])
    → option_map (parted name) (only_map r) ≡ Some parts
whole name parts (Err f) e = cc
whole name parts (Ok (t, [])) e = only_parts name t ∙ ap (λ (x : Front). x.0) (same_front (parts_of name t, []) (Some parts, []) e)
whole name parts (Ok (t, b ∷ rest)) e =
    let lengths : length (b ∷ rest) ≡ 0 = ap (λ (x : Front). length x.1) (same_front (parts_of name t, b ∷ rest) (Some parts, []) e) in
    absurd (omega arith)

-- the map, with nothing behind it
pub apart_whole : (name bytes : List ℕ) (parts : Parts) (rest : List ℕ) → parts_at name bytes ≡ Ok (Some parts, rest) → length rest ≡ 0
    → option_map (parted name) (map_of bytes) ≡ Some parts
unfolding map_of parts_at
apart_whole name bytes parts [] e none = whole name parts (value_at 64 bytes) e
apart_whole name bytes parts (b ∷ rest) e none = absurd (omega arith)

other : (name rest : List ℕ) (r : Result (Tree × List ℕ) PackFault) → kept (parts_of name) r ≡ Ok (None, rest) → only_map r ≡ None
other name rest (Err f) e = refl
other name rest (Ok (t, [])) e =
    no_parts name (pairs_in t) (only_parts name t ∙ ap (λ (x : Front). x.0) (same_front (parts_of name t, []) (None, rest) e))
other name rest (Ok (t, b ∷ more)) e = refl

-- another value
pub apart_other : (name bytes rest : List ℕ) → parts_at name bytes ≡ Ok (None, rest) → map_of bytes ≡ None
unfolding map_of parts_at
apart_other name bytes rest e = other name rest (value_at 64 bytes) e

behind : (name : List ℕ) (o : Option Parts) (rest : List ℕ) (r : Result (Tree × List ℕ) PackFault) → kept (parts_of name) r ≡ Ok (o, rest) → 0 < length rest
    → only_map r ≡ None
behind name o rest (Err f) e lt = refl
behind name o rest (Ok (t, [])) e lt =
    let lengths : 0 ≡ length rest = ap (λ (x : Front). length x.1) (same_front (parts_of name t, []) (o, rest) e) in
    absurd (omega arith)
behind name o rest (Ok (t, b ∷ more)) e lt = refl

-- bytes behind it
pub apart_behind : (name bytes : List ℕ) (o : Option Parts) (rest : List ℕ) → parts_at name bytes ≡ Ok (o, rest) → 0 < length rest → map_of bytes ≡ None
unfolding map_of parts_at
apart_behind name bytes o rest e lt = behind name o rest (value_at 64 bytes) e lt

failed_as : (e : PackFault) (r : Result Front PackFault) → Fails e r → e ≢ Memory → r ≡ Err e
failed_as Memory r failed other = absurd (other refl)
failed_as Short r failed other = failed
failed_as Kind r failed other = failed
failed_as Key r failed other = failed
failed_as Repeat r failed other = failed
failed_as Deep r failed other = failed

broken : (name : List ℕ) (e : PackFault) (r : Result (Tree × List ℕ) PackFault) → kept (parts_of name) r ≡ Err e → only_map r ≡ None
broken name e (Err f) is = refl
broken name e (Ok x) is = cc

-- no value
pub apart_broken : (name bytes : List ℕ) (e : PackFault) → Fails e (parts_at name bytes) → e ≢ Memory → map_of bytes ≡ None
unfolding map_of parts_at
apart_broken name bytes e failed other = broken name e (value_at 64 bytes) (failed_as e (parts_at name bytes) failed other)

-- ---- the fields of the other names

other_name : (name k l : List ℕ) → bytes_eq k name ≡ false → bytes_eq l k ≡ true → bytes_eq l name ≡ false
other_name name k l apart is = let same : l ≡ k = (bytes_eq-Decides l k).0 is in ap (λ (m : List ℕ). bytes_eq m name) same ∙ apart

value_at_name : (name k l : List ℕ) (t : Tree) (ps : Pairs) (b : Bool) → bytes_eq l k ≡ b → bytes_eq k name ≡ false
    → value_of k (blanked name ps) ≡ value_of k ps
    → value_of k (pair l (cond (bytes_eq l name) nil t) (blanked name ps)) ≡ value_of k (pair l t ps)
value_at_name name k l t ps true is apart rest =
    let kept_is : cond (bytes_eq l name) nil t ≡ t = ap (λ (c : Bool). cond c nil t) (other_name name k l apart is) in
    value_of-here k l (cond (bytes_eq l name) nil t) (blanked name ps) is ∙ ap (λ (u : Tree). Some u) kept_is ∙ sym (value_of-here k l t ps is)
value_at_name name k l t ps false is apart rest =
    value_of-other k l (cond (bytes_eq l name) nil t) (blanked name ps) is ∙ rest ∙ sym (value_of-other k l t ps is)

-- another name has its value
pub value_of-blanked : (name k : List ℕ) (ps : Pairs) → bytes_eq k name ≡ false → value_of k (blanked name ps) ≡ value_of k ps
unfolding blanked
value_of-blanked name k no_pairs apart = refl
value_of-blanked name k (pair l t ps) apart = value_at_name name k l t ps (bytes_eq l k) refl apart (value_of-blanked name k ps apart)

not_among : (names : List (List ℕ)) (name l : List ℕ) (b : Bool) → bytes_eq l name ≡ b → is_among names name ≡ true → is_among names l ≡ false → b ≡ false
not_among names name l false is among out = refl
not_among names name l true is among out =
    let same : is_among names l ≡ is_among names name = ap (is_among names) ((bytes_eq-Decides l name).0 is) in
    cc

without_at : (names : List (List ℕ)) (name l : List ℕ) (t : Tree) (ps : Pairs) (b : Bool) → is_among names l ≡ b → is_among names name ≡ true
    → without names (blanked name ps) ≡ without names ps
    → without names (pair l (cond (bytes_eq l name) nil t) (blanked name ps)) ≡ without names (pair l t ps)
without_at names name l t ps true is among rest =
    without-among names l (cond (bytes_eq l name) nil t) (blanked name ps) is ∙ rest ∙ sym (without-among names l t ps is)
without_at names name l t ps false is among rest =
    let kept_is : cond (bytes_eq l name) nil t ≡ t = ap (λ (c : Bool). cond c nil t) (not_among names name l (bytes_eq l name) refl among is) in
    without-other names l (cond (bytes_eq l name) nil t) (blanked name ps) is ∙ ap (λ (u : Tree). pair l u (without names (blanked name ps))) kept_is
    ∙ ap (pair l t) rest ∙ sym (without-other names l t ps is)

-- where the name is left out, its value makes no difference
pub without-blanked : (names : List (List ℕ)) (name : List ℕ) (ps : Pairs) → is_among names name ≡ true
    → without names (blanked name ps) ≡ without names ps
unfolding blanked
without-blanked names name no_pairs among = refl
without-blanked names name (pair l t ps) among = without_at names name l t ps (is_among names l) refl among (without-blanked names name ps among)
