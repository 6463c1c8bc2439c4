-- Where segments lie below `data`, and which of two files of one number counts.
use Rattle.std.specs.Prelude.{◌≡◌, ℕ, ◌/◌, ◌<◌, Option, Some, None}
use Rattle.ferry_layout.specs.declared.names.Location.{Location}
use Rattle.ferry_layout.specs.declared.names.Location.TheVariants.{Own, Folder, Data}

-- the folder of `data` that segment `number` lies in, none where it lies right below `data`, where a folder holds so many segments
abbrev pub folder_of : Location → ℕ → ℕ → Option ℕ
folder_of Own number per_folder = Some (number / per_folder)
folder_of (Folder folder) number per_folder = Some folder
folder_of Data number per_folder = None

-- A file at its own place comes before all others, then come those in folders, the lowest first, and last one right
-- below `data`.
abbrev pub ComesBefore : Location → Location → Type 0
ComesBefore Own Own = ⊥
ComesBefore Own (Folder b) = Unit {0}
ComesBefore Own Data = Unit {0}
ComesBefore (Folder a) Own = ⊥
ComesBefore (Folder a) (Folder b) = a < b
ComesBefore (Folder a) Data = Unit {0}
ComesBefore Data b = ⊥

-- What counts after a file was found, and what doesn't: it counts, where none was known or it comes before that; else what was known.
abbrev pub Counts : Option Location → Location → Option Location → Option Location → Type 0
Counts None location after spare = (after ≡ Some location) × (spare ≡ None)
Counts (Some known) location after spare = (ComesBefore location known → (after ≡ Some location) × (spare ≡ Some known))
    × (¬ (ComesBefore location known) → (after ≡ Some known) × (spare ≡ Some location))
