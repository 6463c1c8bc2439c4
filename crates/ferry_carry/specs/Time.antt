-- The time that the manifest of a commit has.
use Rattle.std.specs.Prelude.{ℕ, if◌then◌else◌, List, [], Option, Some, None}
use Rattle.std.specs.Cmp.Lexicographic.{slice_cmp}
use Rattle.std.specs.Ordering.{is_lt, nat_cmp}

-- a time, empty where it is absent
abbrev pub text_of : Option (List ℕ) → List ℕ
text_of None = []
text_of (Some time) = time

-- the later in byte order
abbrev pub later : List ℕ → List ℕ → List ℕ
later one other = if is_lt (slice_cmp nat_cmp one other) then other else one

-- the time that is given, and else the later of the two manifests' times
abbrev pub time_for : Option (List ℕ) → Option (List ℕ) → Option (List ℕ) → List ℕ
time_for (Some time) source target = time
time_for None source target = later (text_of source) (text_of target)
