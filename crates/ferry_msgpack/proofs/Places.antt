-- A call of `read`: what stands at a place, and which fault.
use Rattle.std.proofs.Common.{◌≡◌, ◌≢◌, ℕ, ◌+◌, ◌-◌, ◌≤◌, List, ◌++◌, length, take, drop, ◌⊎◌, inl, inr, Result, Ok, Err, refl, sym, ap, subst, ◌∙◌, arith}
use Rattle.std.proofs.lemmas.List.{take_at, take_all, length-append, length-drop}
use Rattle.ferry_msgpack.specs.declared.fault.PackFault.{PackFault}
use Rattle.ferry_msgpack.specs.declared.fault.PackFault.TheVariants.{Short, Kind, Key, Repeat, Deep, Memory}
use Rattle.ferry_msgpack.specs.Tree.{Tree}
use Rattle.ferry_msgpack.specs.Spelling.{SpellsWithin, Spells}
use Rattle.ferry_msgpack.specs.Faults.{BreaksWithin, Breaks}
use Rattle.ferry_msgpack.specs.Reading.{Fails, value_at}
use Rattle.ferry_msgpack.specs.Writable.{IsWritable}
use Rattle.ferry_msgpack.specs.Calls.Read.{StandsAt}
use Rattle.ferry_msgpack.proofs.WritableLemmas.{AreBytes, AreBytes-left, spelled_writable}
use Rattle.ferry_msgpack.proofs.SpellingLemmas.{Tells, value_tells, value_again, value_breaks}

-- the bytes from a place on, as a slice of them gives them
pub from_place : (bytes : List ℕ) (start : ℕ) → take (length bytes - start) (drop start bytes) ≡ drop start bytes
from_place bytes start = take_all (length bytes - start) (drop start bytes) (omega (arith, length-drop start bytes))

abbrev pub read_as : Tree × List ℕ → Result (Tree × List ℕ) PackFault
read_as x = Ok x

pub same_reading : (x y : Tree × List ℕ) → read_as x ≡ read_as y → x ≡ y
same_reading x y e = cc

pub no_reading : (x : Tree × List ℕ) (f : PackFault) → read_as x ≡ Err f → ⊥
no_reading x f e = cc

abbrev pub refused_as : PackFault → Result (Tree × List ℕ) PackFault
refused_as f = Err f

pub same_fault : (f g : PackFault) → refused_as f ≡ refused_as g → f ≡ g
same_fault f g e = cc

-- a call that failed ran out of memory, or has the fault of reading
pub fault_or_memory : (e : PackFault) (r : Result (Tree × List ℕ) PackFault) → Fails e r → (e ≡ Memory) ⊎ (r ≡ Err e)
fault_or_memory Memory r failed = inl refl
fault_or_memory Short r failed = inr failed
fault_or_memory Kind r failed = inr failed
fault_or_memory Key r failed = inr failed
fault_or_memory Repeat r failed = inr failed
fault_or_memory Deep r failed = inr failed

-- what was read stands in front
pub reading_tells : (d : ℕ) (bytes : List ℕ) (t : Tree) (rest : List ℕ) → value_at d bytes ≡ Ok (t, rest)
    → (front : List ℕ) × (bytes ≡ front ++ rest) × SpellsWithin d t front
reading_tells d bytes t rest e = subst (Tells d bytes) e (value_tells d bytes)

pub fault_tells : (d : ℕ) (bytes : List ℕ) (f : PackFault) → value_at d bytes ≡ Err f → BreaksWithin d bytes f
fault_tells d bytes f e = subst (Tells d bytes) e (value_tells d bytes)

pub rest_within : (bytes : List ℕ) (start : ℕ) (t : Tree) (rest : List ℕ) → value_at 64 (drop start bytes) ≡ Ok (t, rest) → length rest ≤ length bytes
rest_within bytes start t rest e =
    let told = reading_tells 64 (drop start bytes) t rest e in
    omega (arith, ap length told.1, length-append told.0 rest, length-drop start bytes)

pub stands : (bytes : List ℕ) (start : ℕ) (t : Tree) (rest : List ℕ) → start ≤ length bytes → value_at 64 (drop start bytes) ≡ Ok (t, rest)
    → StandsAt bytes start t (length bytes - length rest)
stands bytes start t rest le e =
    let told = reading_tells 64 (drop start bytes) t rest e in
    let lengths : length bytes - start ≡ length told.0 + length rest = omega (arith, ap length told.1, length-append told.0 rest, length-drop start bytes) in
    let size : length told.0 ≡ length bytes - length rest - start = omega arith in
    let text : take (length bytes - length rest - start) (drop start bytes) ≡ told.0 =
    ap (take (length bytes - length rest - start)) told.1 ∙ take_at told.0 rest _ size in
    record { order = omega arith; within = omega arith; spelled = subst (SpellsWithin 64 t) (sym text) told.2 }

pub read_only : (bytes : List ℕ) (start : ℕ) (v : Tree) (after : List ℕ) → start ≤ length bytes → value_at 64 (drop start bytes) ≡ Ok (v, after)
    → (t : Tree) (front rest : List ℕ) → Spells t front → drop start bytes ≡ front ++ rest → (v ≡ t) × (length bytes - length after ≡ start + length front)
read_only bytes start v after le e t front rest spelled parts =
    let again : value_at 64 (drop start bytes) ≡ Ok (t, rest) = ap (value_at 64) parts ∙ value_again 64 t front rest spelled in
    let same = same_reading (v, after) (t, rest) (sym e ∙ again) in
    let after-is : length after ≡ length rest = ap (λ (x : Tree × List ℕ). length x.1) same in
    (ap (λ (x : Tree × List ℕ). x.0) same, omega (arith, after-is, ap length parts, length-append front rest, length-drop start bytes))

pub failed_only : (bytes : List ℕ) (e : PackFault) → Fails e (value_at 64 bytes) → (t : Tree) (front rest : List ℕ) → Spells t front → bytes ≡ front ++ rest
    → e ≡ Memory
failed_only bytes e failed t front rest spelled parts =
    elim (fault_or_memory e (value_at 64 bytes) failed) [
      | inl memory ↦ memory
      | inr fault ↦ absurd (no_reading (t, rest) e (sym (ap (value_at 64) parts ∙ value_again 64 t front rest spelled) ∙ fault))
    ]

pub failed_breaks : (bytes : List ℕ) (e : PackFault) → Fails e (value_at 64 bytes) → e ≢ Memory → Breaks bytes e
failed_breaks bytes e failed other =
    elim (fault_or_memory e (value_at 64 bytes) failed) [ inl memory ↦ absurd (other memory) | inr fault ↦ fault_tells 64 bytes e fault ]

pub breaks_failed : (bytes : List ℕ) (e : PackFault) → Fails e (value_at 64 bytes) → (fault : PackFault) → Breaks bytes fault → (e ≡ fault) ⊎ (e ≡ Memory)
breaks_failed bytes e failed fault broken =
    elim (fault_or_memory e (value_at 64 bytes) failed) [
      | inl memory ↦ inr memory
      | inr found ↦ inl (same_fault e fault (sym found ∙ value_breaks 64 bytes fault broken))
    ]

pub read_unbroken : (bytes : List ℕ) (t : Tree) (rest : List ℕ) → value_at 64 bytes ≡ Ok (t, rest) → (fault : PackFault) → Breaks bytes fault → ⊥
read_unbroken bytes t rest e fault broken = no_reading (t, rest) fault (sym e ∙ value_breaks 64 bytes fault broken)

-- what was read of bytes can be written
pub read_writable : (bytes : List ℕ) (t : Tree) (rest : List ℕ) → AreBytes bytes → value_at 64 bytes ≡ Ok (t, rest) → IsWritable t
read_writable bytes t rest h e =
    let told = reading_tells 64 bytes t rest e in
    spelled_writable t told.0 told.2 (AreBytes-left told.0 rest (subst AreBytes told.1 h))
