-- How a restoring ends: its statuses, their numbers and their lines.
use Rattle.std.specs.Prelude.{ℕ, List, [], ◌∷◌, ◌++◌, codes, decimal, Bool, true, false}
use Rattle.ferry_repo.specs.declared.fault.RepoFault.{RepoFault}
use Rattle.ferry_repo.specs.declared.fault.RepoFault.TheVariants as Faults
use Rattle.ferry_status.specs.Status.{missing_line, source_line, usage_line}
use Rattle.ferry_status.specs.declared.status.Refusal.TheVariants.{Repo}
use Rattle.ferry_text.specs.Text.{escaped}
use Rattle.ferry_tree.specs.declared.placing.Counts.{Counts}
use Rattle.ferry_tree.specs.declared.planning.PlaceFault.{PlaceFault}
use Rattle.ferry_tree.specs.declared.planning.PlaceFault.TheVariants as Places
use Rattle.ferry_run_restore.specs.declared.restored.Restored.{Restored}
use Rattle.ferry_run_restore.specs.declared.restored.Restored.TheVariants as Ends

-- the number that the program ends with
abbrev pub restored_number : Restored → ℕ
restored_number Ends.Done = 0
restored_number (Ends.Usage word) = 2
restored_number Ends.Memory = 3
restored_number Ends.SourceDevice = 4
restored_number Ends.OutputDevice = 7
restored_number (Ends.Source fault) = 8
restored_number (Ends.Place path fault) = 8
restored_number (Ends.NotFound name) = 11
restored_number Ends.TreeDevice = 13
restored_number Ends.NotEmpty = 14

-- the status of a source that doesn't read
abbrev pub source_status : RepoFault → Restored
source_status Faults.Device = Ends.SourceDevice
source_status Faults.Memory = Ends.Memory
source_status fault = Ends.Source fault

-- whether a status is that of a failed device of the source
abbrev pub source_failed : Restored → Bool
source_failed Ends.SourceDevice = true
source_failed ended = false

-- whether a status is that of a failed tree
abbrev pub tree_failed : Restored → Bool
tree_failed Ends.TreeDevice = true
tree_failed ended = false

-- whether a status is that of a failed output
abbrev pub output_failed : Restored → Bool
output_failed Ends.OutputDevice = true
output_failed ended = false

-- the number of a place fault
abbrev pub place_number : PlaceFault → ℕ
place_number Places.Path = 1
place_number Places.Mode = 2
place_number Places.Source = 3
place_number Places.Parent = 4

-- the line of an item without a place
abbrev pub place_line : List ℕ → PlaceFault → List ℕ
place_line path fault = codes "source refused: place " ++ (decimal (place_number fault) ++ (32 ∷ (escaped path ++ (10 ∷ []))))

-- the fault line, nothing where a status has none
abbrev pub line_of : Restored → List ℕ
line_of Ends.Done = []
line_of (Ends.Usage word) = usage_line word
line_of Ends.Memory = codes "memory\n"
line_of Ends.SourceDevice = codes "source device failed\n"
line_of Ends.OutputDevice = []
line_of (Ends.Source fault) = source_line (Repo fault)
line_of (Ends.Place path fault) = place_line path fault
line_of (Ends.NotFound name) = missing_line name
line_of Ends.TreeDevice = codes "tree failed\n"
line_of Ends.NotEmpty = codes "not empty\n"

-- the line of what was restored
abbrev pub counts_line : Counts → List ℕ
counts_line counts = codes "restored " ++ (decimal counts.files ++ (codes " files " ++ (decimal counts.folders ++ (codes " folders "
    ++ (decimal counts.links ++ (codes " links " ++ (decimal counts.skipped ++ codes " skipped\n")))))))
