-- What a key text says around the sealed key. BorgBackup 1.2 Internals, "Data structures and file
-- formats", Key files: a map with the names `version`, `algorithm`, `iterations`, `salt`, `hash`
-- and `data`; other names are ignored.
use Rattle.std.specs.Prelude.{ℕ, nat_le, ◌&&◌, ◌||◌, not, Bool, if◌then◌else◌, List, [], codes, ℤ, pos, negsuc, Option, Some, None, is_none, unwrap_or}
use Rattle.std.specs.Prelude.{option_and_then, Result, Ok, Err}
use Rattle.std.specs.Str.{bytes_eq}
use Rattle.ferry_msgpack.specs.Tree.{Pairs}
use Rattle.ferry_fields.specs.Fields.{map_of, number_in, raw_in, raw32_in, has_version_1}
use Rattle.ferry_keyblob.specs.declared.envelope.Envelope.{Envelope}
use Rattle.ferry_keyblob.specs.declared.fault.KeyFault.{KeyFault}
use Rattle.ferry_keyblob.specs.declared.fault.KeyFault.TheVariants.{Pack, Field, Algorithm, Iterations}

-- the iterations that a number tells: 1 to 10000000
abbrev pub iterations_from : ℤ → Option ℕ
iterations_from (pos n) = if nat_le 1 n && nat_le n 10000000 then Some n else None
iterations_from (negsuc n) = None

-- whether a field is missing or has another kind or length, or the version isn't 1
abbrev pub lacks_field : Pairs → Bool
lacks_field pairs =
    not (has_version_1 pairs)
    || is_none (raw_in (codes "algorithm") pairs)
    || is_none (number_in (codes "iterations") pairs)
    || is_none (raw32_in (codes "salt") pairs)
    || is_none (raw32_in (codes "hash") pairs)
    || is_none (raw_in (codes "data") pairs)

-- whether `algorithm` is `sha256`
abbrev pub has_sha256 : Pairs → Bool
has_sha256 pairs = bytes_eq (unwrap_or (raw_in (codes "algorithm") pairs) []) (codes "sha256")

-- the iterations, where they are in their range
abbrev pub iterations_in : Pairs → Option ℕ
iterations_in pairs = option_and_then iterations_from (number_in (codes "iterations") pairs)

-- the first fault of an envelope's fields
abbrev pub envelope_fault : Pairs → Option KeyFault
envelope_fault pairs =
    if lacks_field pairs then Some Field
    else if not (has_sha256 pairs) then Some Algorithm
    else if is_none (iterations_in pairs) then Some Iterations
    else None

-- what the fields say
abbrev pub envelope_in : Pairs → Envelope
envelope_in pairs = record {
  iterations = unwrap_or (iterations_in pairs) 0;
  salt = unwrap_or (raw32_in (codes "salt") pairs) [];
  hash = unwrap_or (raw32_in (codes "hash") pairs) [];
  sealed = unwrap_or (raw_in (codes "data") pairs) [];
}

-- the fault, or else what is said
abbrev pub fault_or : {A : Type 0} → Option KeyFault → A → Result A KeyFault
fault_or None said = Ok said
fault_or (Some fault) said = Err fault

-- the envelope of a map, where the bytes spell one
abbrev pub envelope_from : Option Pairs → Result Envelope KeyFault
envelope_from None = Err Pack
envelope_from (Some pairs) = fault_or (envelope_fault pairs) (envelope_in pairs)

-- what the bytes of a key text mean: the first fault, or the envelope
unfoldable pub envelope_of : List ℕ → Result Envelope KeyFault
envelope_of bytes = envelope_from (map_of bytes)
