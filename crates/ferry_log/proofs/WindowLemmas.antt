-- Lemmas on specs/Window.antt: what a device tells, and what is read through a window.
use Rattle.std.proofs.Common.{◌≡◌, ℕ, ◌+◌, ◌-◌, ◌≤◌, Bool, true, false, List, ◌++◌, length, take, drop, Option, Some, None, IfSome, IsTrue, ◌↔◌}
use Rattle.std.proofs.Common.{nat_eq}
use Rattle.std.proofs.Common.{option_map, refl, sym, ◌∙◌, ap, subst, inl, inr, arith, take-add}
use Rattle.std.proofs.lemmas.Bool.{cases_lt}
use Rattle.std.proofs.lemmas.List.{length-take-le, length-drop, drop-drop, drop-take, take-take, take_all}
use Rattle.std.specs.Cmp.Lexicographic.{pointwise}
use Rattle.ferry_segment.specs.Crc.{crc, register_after}
use Rattle.ferry_segment.specs.Segment.{HasMagic, magic}
use Rattle.ferry_segment.proofs.SegmentLemmas.{magic_found, magic_missed}
use Rattle.ferry_disk.specs.Files.{Files, segment_bytes}
use Rattle.ferry_disk.specs.Act.{files_now}
use Rattle.ferry_disk.specs.Device.{Told, Heard, told_files, heard}
use Rattle.ferry_log.specs.declared.window.Window.{Window}
use Rattle.ferry_log.specs.Window.{Tells, IsWindowOf, OnSame, sum_between}

-- ---- Tells

heard_files : (told : Option Told) → option_map (λ (h : Heard). files_now h.history) (heard told) ≡ option_map told_files told
heard_files None = refl
heard_files (Some told) = refl

-- a device that tells the same tells the same files
pub tells_on : (a b : Option Told) (files : Files) → heard b ≡ heard a → Tells a files → Tells b files
tells_on a b files same tells = sym (heard_files b) ∙ (ap (option_map (λ (h : Heard). files_now h.history)) same ∙ (heard_files a ∙ tells))

told_one : (files other : Files) → Some files ≡ Some other → files ≡ other
told_one files other e = cc

-- what holds of the files that are told
pub of_told : (a : Option Told) (P : Files → Type 0) (files : Files) → Tells a files → IfSome a (λ t. P (told_files t)) → P files
of_told None P files tells p = absurd (let none : ⊥ = cc in none)
of_told (Some a) P files tells p = subst P (told_one (told_files a) files tells) p

-- what holds of any files that are told
pub to_told : (a : Option Told) (P : Files → Type 0) → ((files : Files) → Tells a files → P files) → IfSome a (λ t. P (told_files t))
to_told None P p = tt
to_told (Some a) P p = p (told_files a) refl

-- ---- IsWindowOf

-- a window on the same segment as another
pub window_on : (files : Files) (old mid new : Window) → OnSame old mid → IsWindowOf (segment_bytes files old.segment) new
    → IsWindowOf (segment_bytes files mid.segment) new
window_on files old mid new same is = subst (λ n. IsWindowOf (segment_bytes files n) new) (sym same.0) is

pub window_back : (files : Files) (old mid new : Window) → OnSame old mid → IsWindowOf (segment_bytes files mid.segment) new
    → IsWindowOf (segment_bytes files old.segment) new
window_back files old mid new same is = subst (λ n. IsWindowOf (segment_bytes files n) new) same.0 is

-- ---- fronts

-- the front of a front
front_take : (n : ℕ) (part xs : List ℕ) → part ≡ take (length part) xs → take n part ≡ take (length (take n part)) xs
front_take n part xs is =
    elim (cases_lt n (length part)) [
      | inl below ↦
          ap (take n) is ∙ (take-take n (length part) xs (omega arith) ∙ ap (λ k. take k xs) (sym (length-take-le n part (omega arith))))
      | inr past ↦ let all : take n part ≡ part = take_all n part past in all ∙ (is ∙ ap (λ k. take (length k) xs) (sym all))
    ]

-- the rest of a front
front_drop : (n at : ℕ) (part bytes : List ℕ) → n ≤ length part → part ≡ take (length part) (drop at bytes)
    → drop n part ≡ take (length (drop n part)) (drop (at + n) bytes)
front_drop n at part bytes within is =
    let sum : length part ≡ n + (length part - n) = omega arith in
    ap (drop n) (is ∙ ap (λ k. take k (drop at bytes)) sum)
    ∙ (drop-take n (length part - n) (drop at bytes)
    ∙ (ap (take (length part - n)) (drop-drop n at bytes) ∙ ap (λ k. take k (drop (at + n) bytes)) (sym (length-drop n part))))

-- what a window gives from a place on is the segment's
pub part_is : (bytes : List ℕ) (w : Window) (at to : ℕ) (part : List ℕ) → IsWindowOf bytes w → w.at ≤ at → at ≤ w.at + length w.bytes.items
    → part ≡ take (to - at) (drop (at - w.at) w.bytes.items) → part ≡ take (length part) (drop at bytes)
part_is bytes w at to part is from within e =
    let place : w.at + (at - w.at) ≡ at = omega arith in
    let rest = front_drop (at - w.at) w.at w.bytes.items bytes (omega arith) is.part in
    let here = rest ∙ ap (λ k. take (length (drop (at - w.at) w.bytes.items)) (drop k bytes)) place in
    e ∙ (front_take (to - at) (drop (at - w.at) w.bytes.items) (drop at bytes) here ∙ ap (λ p. take (length p) (drop at bytes)) (sym e))

-- ---- sum_between

pub sum_none : (bytes : List ℕ) (at : ℕ) → 0 ≡ sum_between bytes at at
unfolding crc register_after
sum_none bytes at = let none : at - at ≡ 0 = omega arith in sym (ap (λ n. crc (take n (drop at bytes))) none)

-- the sum of an entry behind its own checksum
pub sum_entry : (bytes : List ℕ) (at size sum : ℕ) → 4 ≤ size → Some sum ≡ Some (sum_between bytes (at + 4) (at + size))
    → sum ≡ crc (take (size - 4) (drop 4 (drop at bytes)))
sum_entry bytes at size sum least e =
    let count : at + size - (at + 4) ≡ size - 4 = omega arith in
    let own : sum ≡ sum_between bytes (at + 4) (at + size) = cc in
    own ∙ (ap (λ n. crc (take n (drop (at + 4) bytes))) count ∙ ap (λ xs. crc (take (size - 4) xs)) (sym (drop-drop 4 at bytes)))

-- a sum goes on with the next part
pub sum_more : (bytes part : List ℕ) (from at : ℕ) → from ≤ at → part ≡ take (length part) (drop at bytes)
    → crc (take (at - from) (drop from bytes) ++ part) ≡ sum_between bytes from (at + length part)
sum_more bytes part from at forward is =
    let place : from + (at - from) ≡ at = omega arith in
    let count : at - from + length part ≡ at + length part - from = omega arith in
    ap crc
    (ap (λ p. take (at - from) (drop from bytes) ++ p) (is
    ∙ ap (take (length part)) (ap (λ k. drop k bytes) (sym place) ∙ sym (drop-drop (at - from) from bytes)))
    ∙ (sym (take-add (at - from) (length part) (drop from bytes)) ∙ ap (λ k. take k (drop from bytes)) count))

-- ---- HasMagic

-- the first eight bytes tell whether there is a magic
pub magic_told : (bytes part : List ℕ) (has : Bool) → part ≡ take 8 bytes → has ≡ pointwise nat_eq magic (take 8 part) → IsTrue has ↔ HasMagic bytes
magic_told bytes part has is e =
    let own : take 8 part ≡ take 8 bytes = ap (take 8) is ∙ take-take 8 8 bytes (omega arith) in
    answered has (e ∙ ap (pointwise nat_eq magic) own)
  where
    answered : (b : Bool) → b ≡ pointwise nat_eq magic (take 8 bytes) → IsTrue b ↔ HasMagic bytes
    answered true same = (λ _. magic_found bytes (sym same), λ _. refl)
    answered false same = (λ h. absurd (let none : ⊥ = cc in none), λ h. absurd (magic_missed bytes (sym same) h))
