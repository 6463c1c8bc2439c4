-- The lines that a transfer tells.
use Rattle.std.specs.Prelude.{ℕ, Bool, true, false, List, [], ◌∷◌, ◌++◌, codes, decimal}
use Rattle.ferry_carry.specs.declared.options.Carried.{Carried}
use Rattle.ferry_text.specs.Text.{escaped}

-- the line of a name: what was done with it, and the name as printed text
abbrev pub name_line : List ℕ → List ℕ → List ℕ
name_line what name = what ++ (escaped name ++ 10 ∷ [])

-- what is told of an archive that was copied, and of one that was there
abbrev pub told_of : Bool → List ℕ
told_of true = codes "transferred "
told_of false = codes "present "

-- a number between spaces, and what it counts
abbrev pub count_text : ℕ → List ℕ → List ℕ
count_text number word = 32 ∷ (decimal number ++ (32 ∷ word))

-- the line of the whole
abbrev pub total_line : Carried → List ℕ
total_line carried =
    codes "total"
    ++ (count_text carried.transferred (codes "transferred")
    ++ (count_text carried.present (codes "present")
    ++ (count_text carried.chunks (codes "chunks")
    ++ (count_text carried.bytes (codes "bytes") ++ (count_text carried.meta (codes "meta") ++ 10 ∷ [])))))
