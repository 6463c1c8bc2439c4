-- The files that the program keeps in memory, as the files of the contracts.
use Rattle.std.specs.Prelude.{ℕ, List, map, fold, option_map}
use Rattle.std.specs.FinMap.{from_entries}
use Rattle.ferry_disk.specs.Files.{Files, no_files, with_file}
use Rattle.ferry_disk.specs.declared.name.Name.{Name}
use Rattle.ferry_disk.specs.declared.files.MemoryFiles.{MemoryFiles}

-- the files that a list of them gives: of two with one name the later counts
abbrev pub files_given : List (Name × List ℕ) → Files
files_given entries = fold (λ files entry. with_file files entry.0 entry.1) no_files entries

-- the files in memory
abbrev pub files_of : MemoryFiles → Files
files_of m = record {
  config = option_map (λ v. v.items) m.config;
  nonce = option_map (λ v. v.items) m.nonce;
  readme = option_map (λ v. v.items) m.readme;
  segments = from_entries (map (λ e. (e.0, e.1.items)) m.segments.entries);
}
