-- The premise of chance: a stop of the machine may leave any bytes behind the stable ones of a segment, and by no chance are they an entry
-- that wasn't appended there.
use Rattle.std.specs.Prelude.{◌≡◌, ℕ, ◌+◌, ◌<◌, List, [], ◌++◌, length, take, drop, Option, Some, None, unwrap_or}
use Rattle.std.specs.FinMap.{get}
use Rattle.std.specs.List.{AllByRecursion}
use Rattle.ferry_disk.specs.Act.{Act, History}
use Rattle.ferry_disk.specs.Files.{Files}
use Rattle.ferry_disk.specs.Image.{Fate, fate_of, ImageOf}
use Rattle.ferry_segment.specs.Entry.{LogEntry, Fits, spelling, size_of}
use Rattle.ferry_segment.specs.Segment.{spellings}

-- where an entry begins that stands behind these, the first of which begins at byte 8
abbrev pub place_behind : List LogEntry → ℕ
place_behind before = 8 + length (spellings before)

-- In these bytes these entries read one after another from byte 8 on, and then this one.
pub record ReadsThen (bytes : List ℕ) (before : List LogEntry) (entry : LogEntry) : Type 0 where
  pub rest : List ℕ
  pub before_fit : AllByRecursion Fits before
  pub fits : Fits entry
  pub spelled : drop 8 bytes ≡ spellings before ++ (spelling entry ++ rest)

-- what a stop is sure to leave of a segment, and what it had and was appended to it
abbrev pub stable_bytes : Fate → List ℕ
stable_bytes fate = unwrap_or fate.stable []

abbrev pub all_bytes : Fate → List ℕ
all_bytes fate = unwrap_or fate.all []

-- Each entry that reads in these bytes and isn't wholly among the stable ones is, byte for byte, what was appended at its place.
abbrev pub IsByNoChance : Fate → List ℕ → Type 0
IsByNoChance fate bytes = (before : List LogEntry) (entry : LogEntry) → ReadsThen bytes before entry
    → length (stable_bytes fate) < place_behind before + size_of entry
    → take (size_of entry) (drop (place_behind before) (all_bytes fate)) ≡ spelling entry

-- the same of a file that is there
abbrev pub FileByNoChance : Fate → Option (List ℕ) → Type 0
FileByNoChance fate None = Unit {0}
FileByNoChance fate (Some bytes) = IsByNoChance fate bytes

-- An image has no entry by chance, in any segment.
abbrev pub ByNoChance : Files → List Act → Files → Type 0
ByNoChance start acts image = (segment : ℕ) → FileByNoChance (fate_of start acts segment) (get image.segments segment)

-- What a stop now leaves, by no chance.
pub record IsLeft (history : History) (image : Files) : Type 0 where
  pub image_is : ImageOf history image
  pub by_no_chance : ByNoChance history.start history.acts image

-- P holds of all that a stop now may leave by no chance.
abbrev pub EachStop : (Files → Type 0) → History → Type 0
EachStop P history = (image : Files) → IsLeft history image → P image
