-- The names and the contents of the drill's archives, byte by byte.
use Rattle.std.specs.Prelude.{ℕ, zero, suc, ◌+◌, ◌-◌, ◌*◌, ◌/◌, ◌%◌, ◌^◌, nat_lt, if◌then◌else◌, List, [], ◌∷◌, ◌++◌, codes}

-- ---- names

-- a decimal digit of a number: the last one, as it is printed
abbrev pub digit : ℕ → ℕ
digit number = 48 + number % 10

-- the name of an archive: `a`, and its number in four digits
abbrev pub archive_name : ℕ → List ℕ
archive_name archive = 97 ∷ digit (archive / 1000) ∷ digit (archive / 100) ∷ digit (archive / 10) ∷ digit archive ∷ []

-- the time of each archive
abbrev pub archive_time : List ℕ
archive_time = codes "2020-01-01T00:00:00.000000"

-- the path of a file: `f`, and its number in one digit
abbrev pub file_path : ℕ → List ℕ
file_path file = 102 ∷ digit file ∷ []

-- ---- contents

-- how many bytes a file has
abbrev pub file_size : ℕ → ℕ
file_size file = 4096 * (file + 1)

-- the number that a block of 512 bytes begins with: what it is of which file of which archive. The first file is the same in all archives.
abbrev pub block_number : ℕ → ℕ → ℕ → ℕ
block_number archive zero block = block
block_number archive (suc file) block = archive * 2 ^ 40 + (suc file * 2 ^ 32 + block)

-- a byte of a number of eight bytes, the highest first
abbrev pub number_byte : ℕ → ℕ → ℕ
number_byte number place = number / 2 ^ (8 * (7 - place)) % 256

-- the byte of a file at a place: the first eight of each block are its number, and the others count modulo 251
abbrev pub file_byte : ℕ → ℕ → ℕ → ℕ
file_byte archive file place =
    if nat_lt (place % 512) 8 then number_byte (block_number archive file (place / 512)) (place % 512) else place % 251

-- the first bytes of a file
unfoldable pub file_front : ℕ → ℕ → ℕ → List ℕ
file_front archive file zero = []
file_front archive file (suc count) = file_front archive file count ++ file_byte archive file count ∷ []

-- the content of a file
abbrev pub file_content : ℕ → ℕ → List ℕ
file_content archive file = file_front archive file (file_size file)
