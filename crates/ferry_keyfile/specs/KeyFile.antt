-- What a key file says: a first line with the id of its repository, and behind it the key text in base64.
use Rattle.std.specs.Prelude.{◌≡◌, ◌≢◌, ◌⊎◌, ℕ, ◌==◌, ◌&&◌, ◌||◌, not, nat_eq, Bool, if◌then◌else◌, List, [], ◌∷◌, ◌++◌, codes, drop, filter}
use Rattle.std.specs.Prelude.{slice_index, slice_range, Option, Some, None, Result, Ok, Err}
use Rattle.std.specs.List.{starts_with}
use Rattle.std.specs.Option.{option_and_then}
use Rattle.std.specs.Result.{result_ok}
use Rattle.hex.specs.Hex.{decode_sized}
use Rattle.base64.specs.Engines.{standard}
use Rattle.base64.specs.GeneralPurpose.{decode_of}
use Rattle.ferry_keyfile.specs.declared.file.KeyFile.{KeyFile}
use Rattle.ferry_keyfile.specs.declared.fault.KeyFileFault.{KeyFileFault}
use Rattle.ferry_keyfile.specs.declared.fault.KeyFileFault.TheVariants.{Header, Body}

-- what the first line begins with, in front of the digits of the id
abbrev pub mark : List ℕ
mark = codes "BORG_KEY "

-- the place behind the first line, where it is the mark, 64 bytes, and LF or CR LF
unfoldable pub body_start : List ℕ → Option ℕ
body_start bytes =
    if not (starts_with nat_eq bytes mark) then None
    else if slice_index bytes 73 == 10 then Some 74
    else if (slice_index bytes 73 == 13) && (slice_index bytes 74 == 10) then Some 75
    else None

-- the id that the 64 bytes say, hex digits in either case
unfoldable pub id_in : List ℕ → Option (List ℕ)
id_in bytes = result_ok (decode_sized (slice_range bytes 9 73) 32)

-- a space, a tab, or a byte of a line's end, which are passed over behind the first line
abbrev pub is_blank : ℕ → Bool
is_blank byte = (byte == 32) || ((byte == 9) || ((byte == 13) || (byte == 10)))

-- the bytes of a text that are no blanks
unfoldable pub solid : List ℕ → List ℕ
solid text = filter (λ byte. not (is_blank byte)) text

-- the bytes, where there are any
abbrev pub some_bytes : List ℕ → Option (List ℕ)
some_bytes [] = None
some_bytes (byte ∷ rest) = Some (byte ∷ rest)

-- what a body says: its bytes under the standard alphabet with padding (RFC 4648, section 4), one or more, blanks left out
unfoldable pub key_in : List ℕ → Option (List ℕ)
key_in body = option_and_then some_bytes (result_ok (decode_of standard (solid body)))

-- the file of an id and a body that says this
abbrev pub file_of : List ℕ → Option (List ℕ) → Result KeyFile KeyFileFault
file_of id None = Err Body
file_of id (Some key) = Ok record { id = id; key = key }

-- what a text means, by the place behind its first line and its id
abbrev pub file_among : List ℕ → Option ℕ → Option (List ℕ) → Result KeyFile KeyFileFault
file_among bytes None id = Err Header
file_among bytes (Some start) None = Err Header
file_among bytes (Some start) (Some id) = file_of id (key_in (drop start bytes))

-- what a text means: its first fault, or what its line and its body say
unfoldable pub key_file_of : List ℕ → Result KeyFile KeyFileFault
key_file_of bytes = file_among bytes (body_start bytes) (id_in bytes)

-- The text is a first line with an id and its end, and a body.
pub record HasParts (bytes id body : List ℕ) : Type 0 where
  pub digits : List ℕ
  pub end : List ℕ
  pub parts : bytes ≡ mark ++ (digits ++ (end ++ body))
  pub says : decode_sized digits 32 ≡ Ok id
  pub ends : (end ≡ 10 ∷ []) ⊎ (end ≡ 13 ∷ 10 ∷ [])

-- The text is a key file that says this.
pub record SaysKeyFile (bytes : List ℕ) (file : KeyFile) : Type 0 where
  pub body : List ℕ
  pub parts : HasParts bytes file.id body
  pub decodes : decode_of standard (solid body) ≡ Ok file.key
  pub some : file.key ≢ []
