-- How the images of one more act come from those before it, one for each kind of act.
use Rattle.std.specs.Prelude.{◌≡◌, ℕ, ◌≤◌, true, ◌⊎◌, List, [], ◌++◌, length, Option, Some, None, unwrap_or}
use Rattle.std.specs.FinMap.{get}
use Rattle.ferry_disk.specs.Act.{Act, replaced, applied}
use Rattle.ferry_disk.specs.Files.{Files, file_at, segment_bytes, with_file, without_segment}
use Rattle.ferry_disk.specs.Image.{Fate, fate_of, IsImage}
use Rattle.ferry_disk.specs.declared.name.Name.{Name}
use Rattle.ferry_disk.specs.declared.name.Name.TheVariants.{Segment}

-- The files with at most so many bytes more at a segment's end, which may be any. A segment that has stable bytes isn't made anew
-- of them alone.
pub record IsLonger (fate : Fate) (old : Files) (n most : ℕ) (image : Files) : Type 0 where
  pub tail : List ℕ
  pub at_most : length tail ≤ most
  pub made : get old.segments n ≡ None → fate.stable ≡ None
  pub image_is : image ≡ with_file old (Segment n) (segment_bytes old n ++ tail)

-- An Append, done or not: an image from before, or one with a longer segment.
pub record Appends (start : Files) (acts : List Act) (n : ℕ) (bytes : List ℕ) (image : Files) : Type 0 where
  pub old : Files
  pub is_image : IsImage start acts old
  pub then_longer : (image ≡ old) ⊎ IsLonger (fate_of start acts n) old n (length bytes) image

-- what a segment has after a Sync that is done: at least what a read gives
abbrev pub HasRead : Fate → Option (List ℕ) → Type 0
HasRead fate None = (fate.read ≡ None) ⊎ (fate.lost ≡ true)
HasRead fate (Some bytes) = (tail : List ℕ) × (bytes ≡ unwrap_or fate.read [] ++ tail)

-- A Sync that is done: an image from before that has at least what a read gives of the segment.
pub record Syncs (start : Files) (acts : List Act) (n : ℕ) (image : Files) : Type 0 where
  pub is_image : IsImage start acts image
  pub read : HasRead (fate_of start acts n) (get image.segments n)

-- A Remove that is done: an image from before without the segment.
pub record Removes (start : Files) (acts : List Act) (n : ℕ) (image : Files) : Type 0 where
  pub old : Files
  pub is_image : IsImage start acts old
  pub image_is : image ≡ without_segment old n

-- A Replace that is done: an image from before with the file replaced.
pub record Replaces (start : Files) (acts : List Act) (name : Name) (bytes : List ℕ) (image : Files) : Type 0 where
  pub old : Files
  pub is_image : IsImage start acts old
  pub image_is : image ≡ replaced old name bytes

-- A Replace that isn't done: as one that is, or an image from before that has what a read gives of the file.
pub record Stands (start : Files) (acts : List Act) (name : Name) (image : Files) : Type 0 where
  pub is_image : IsImage start acts image
  pub read : file_at image name ≡ file_at (applied start acts) name
