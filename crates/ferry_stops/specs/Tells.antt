-- Which lines a run told, and that it told none.
use Rattle.std.specs.Prelude.{◌≡◌, ℕ, List, [], ◌∷◌, ◌++◌}
use Rattle.ferry_disk.specs.Act.{Step, TellOf, Act, History}

-- the line that a step tells
abbrev pub line_of : Step → List (List ℕ)
line_of (TellOf line) = line ∷ []
line_of step = []

-- the lines that acts told, done or not, in order
unfoldable pub lines_of : List Act → List (List ℕ)
lines_of [] = []
lines_of (act ∷ acts) = line_of act.step ++ lines_of acts

-- A step tells no line.
abbrev pub TellsNoLine : Step → Type 0
TellsNoLine (TellOf line) = ⊥
TellsNoLine step = Unit {0}

-- No line was told between.
abbrev pub TellsNothing : History → History → Type 0
TellsNothing before now = lines_of now.acts ≡ lines_of before.acts
