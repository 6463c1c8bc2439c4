-- What the program counts of a segment, to tell what a stop leaves of it.
use Rattle.std.specs.Prelude.{ℕ, Bool, List, [], take, Option, unwrap_or, option_map}
use Rattle.std.specs.Prelude.{Some, None}
use Rattle.ferry_disk.specs.Files.{Files, with_file}
use Rattle.ferry_disk.specs.Image.{Fate}
use Rattle.ferry_disk.specs.declared.name.Name.TheVariants.{Segment}

-- so many bytes of a file, from its front; an absent file has none
abbrev pub front_of : Option (List ℕ) → Option ℕ → Option (List ℕ)
front_of file size = option_map (λ n. take n (unwrap_or file [])) size

-- a segment of which its stable bytes are known, and whether a Remove that isn't done may have happened
abbrev pub fate_by : Option (List ℕ) → Bool → Fate
fate_by stable lost = record { read = stable; stable = stable; all = stable; lost = lost }

-- the files with what is left of a segment that they didn't have
abbrev pub with_left : Files → ℕ → Option (List ℕ) → Files
with_left files segment None = files
with_left files segment (Some bytes) = with_file files (Segment segment) bytes
