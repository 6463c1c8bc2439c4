-- Counter blocks over all runs: no two blobs share one, and the number in the file `nonce` is above all that were taken, whatever a stop
-- leaves (BorgBackup 1.2, Internals, "Data structures and file formats", Encryption).
use Rattle.std.specs.Prelude.{◌≡◌, ℕ, ◌<◌, ◌≤◌, ◌⊎◌, List, [], ◌∷◌, ◌++◌, length, Option, Some, None, Ok}
use Rattle.std.specs.Int.{w64, from_be_bytes}
use Rattle.hex.specs.Hex.{decode_of}
use Rattle.ferry_blob.specs.Blob.{IsBlockOf}
use Rattle.ferry_disk.specs.Act.{History}
use Rattle.ferry_disk.specs.Files.{Files}
use Rattle.ferry_disk.specs.Image.{plain_in, ImageOf}
use Rattle.ferry_disk.specs.declared.name.Name.TheVariants.{Nonce}
use Rattle.ferry_stops.specs.Blobs.{BlobOf}
use Rattle.ferry_stops.specs.Chance.{EachStop}
use Rattle.ferry_stops.specs.Entries.{ShowsSomething}

-- the text of a number: 16 hex digits, and at most one line feed behind
pub record SpellsNumber (text : List ℕ) (value : ℕ) : Type 0 where
  pub digits : List ℕ
  pub text_is : (text ≡ digits) ⊎ (text ≡ digits ++ (10 ∷ []))
  pub sixteen : length digits ≡ 16
  pub bytes : List ℕ
  pub decoded : decode_of digits ≡ Ok bytes
  pub value_is : value ≡ from_be_bytes w64 bytes

-- the number of a file `nonce`, 0 where the file isn't there
abbrev pub IsNonce : Option (List ℕ) → ℕ → Type 0
IsNonce None value = value ≡ 0
IsNonce (Some text) value = SpellsNumber text value

-- Two of these blobs are equal, or have no counter block in common.
abbrev pub AreApart : (List ℕ → Type 0) → Type 0
AreApart Is = (a b : List ℕ) → Is a → Is b → (a ≡ b) ⊎ ((number : ℕ) → IsBlockOf a number → IsBlockOf b number → ⊥)

-- Each counter block of each of these blobs is below a number.
abbrev pub AreBelow : (List ℕ → Type 0) → ℕ → Type 0
AreBelow Is value = (blob : List ℕ) (number : ℕ) → Is blob → IsBlockOf blob number → number < value

-- The file `nonce` has a number, above each block that was taken.
pub record IsAbove (history : History) (image : Files) : Type 0 where
  pub value : ℕ
  pub nonce : IsNonce image.nonce value
  pub above : AreBelow (BlobOf history) value

-- Blobs share no block, and whatever a stop leaves, chance or none, is above them.
pub record IsFresh (history : History) : Type 0 where
  pub apart : AreApart (BlobOf history)
  pub above : (image : Files) → ImageOf history image → IsAbove history image

-- The same, and whatever a stop leaves by no chance has no commit, or reads up to it.
pub record IsKept (history : History) : Type 0 where
  pub fresh : IsFresh history
  pub shows : EachStop ShowsSomething history

-- ---- a counter

-- The next free number of a counter and its file: nothing but what a read gives may be left of the file, whose number isn't below it.
pub record Counts (free : ℕ) (history : History) : Type 0 where
  pub file : Option (List ℕ)
  pub at_rest : plain_in history Nonce ≡ record { read = file; perhaps = None }
  pub value : ℕ
  pub nonce : IsNonce file value
  pub within : free ≤ value

-- Each block that was taken is below the next free number.
abbrev pub TakenBelow : ℕ → History → Type 0
TakenBelow free history = AreBelow (BlobOf history) free
