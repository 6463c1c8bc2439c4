-- Lemmas on specs/Whole.antt: one read after another.
use Rattle.std.proofs.Common.{◌≡◌, ℕ, ◌+◌, ◌-◌, ◌<◌, ◌≤◌, List, ◌++◌, length, take, drop, Option, IfSome, sym, ◌∙◌, ap, arith}
use Rattle.std.proofs.lemmas.List.{length-drop, drop-drop, take_at, length-take-le}
use Rattle.std.proofs.Common.{take-add}
use Rattle.std.proofs.lemmas.List.{append_assoc}
use Rattle.std.proofs.Math.Seq.{take-append-add}
use borrow.Rule.Slice.PartMut.{put_mid, post_of}
use Rattle.ferry_disk.specs.declared.name.Name.{Name}
use Rattle.ferry_disk.specs.Files.{Files, contents_at}
use Rattle.ferry_disk.specs.Device.{Told, ReadsAt, heard, told_files}
use Rattle.ferry_disk.proofs.DeviceLemmas.{told_with}
use Rattle.ferry_disk.specs.Whole.{Fills}

-- so far no more was filled than there is
pub record FilledTo (contents : List ℕ) (at : ℕ) (buffer : List ℕ) (filled : ℕ) : Type 0 where
  pub least : filled ≤ length contents - at
  pub front : take filled buffer ≡ take filled (drop at contents)

-- a read of `count` more
pub filled_more : (files : Files) (name : Name) (at filled count : ℕ) (buffer part new : List ℕ) → filled ≤ length buffer
    → length part ≡ length buffer - filled → FilledTo (contents_at files name) at buffer filled
    → ReadsAt files name (at + filled) part new count
    → FilledTo (contents_at files name) at (put_mid filled (length buffer - filled) buffer new) (filled + count)
filled_more files name at filled count buffer part new within sized f r =
    let contents = contents_at files name in
    let some : length (take count (drop (at + filled) contents)) ≡ count = length-take-le count _
    (omega (arith, r.count_is, length-drop (at + filled) contents)) in
    let rest = post_of filled (length buffer - filled) buffer in
    let read : take count (new ++ rest) ≡ take count (drop (at + filled) contents) =
    ap (λ k. take count (k ++ rest)) r.bytes
    ∙ (ap (take count) (append_assoc (take count (drop (at + filled) contents)) (drop count part) rest) ∙ take_at _ _ count some) in
    let own : length (take filled buffer) ≡ filled = length-take-le filled buffer within in
    record {
      least = omega (arith, r.count_is, f.least);
      front =
          ap (λ k. take (k + count) (put_mid filled (length buffer - filled) buffer new)) (sym own)
          ∙ (take-append-add (take filled buffer) (new ++ rest) count
          ∙ (ap (λ k. k ++ take count (new ++ rest)) f.front
          ∙ (ap (λ k. take filled (drop at contents) ++ k) (read ∙ ap (take count) (sym (drop-drop filled at contents)))
          ∙ sym (take-add filled count (drop at contents)))));
    }

-- the end of the file, or of the buffer
pub filled_at_end : (files : Files) (name : Name) (at filled : ℕ) (buffer part new : List ℕ) → filled < length buffer
    → length part ≡ length buffer - filled → FilledTo (contents_at files name) at buffer filled
    → ReadsAt files name (at + filled) part new 0 → (after : List ℕ) → length after ≡ length buffer → take filled after ≡ take filled buffer
    → Fills (contents_at files name) at after filled
filled_at_end files name at filled buffer part new within sized f r after same_length same = record {
  count = omega (arith, r.count_is, f.least);
  front = same ∙ f.front;
}

pub filled_whole : (contents : List ℕ) (at filled : ℕ) (buffer : List ℕ) → length buffer ≤ filled → filled ≤ length buffer
    → FilledTo contents at buffer filled → Fills contents at buffer filled
filled_whole contents at filled buffer all within f = record { count = omega (arith, f.least); front = f.front }

-- ---- over what a shelf tells

pub told_more : (a b : Option Told) (name : Name) (at filled count : ℕ) (buffer part new : List ℕ) → heard b ≡ heard a → filled ≤ length buffer
    → length part ≡ length buffer - filled
    → IfSome a (λ t. FilledTo (contents_at (told_files t) name) at buffer filled) → IfSome b (λ t. ReadsAt (told_files t) name (at + filled) part new count)
    → IfSome a (λ t. FilledTo (contents_at (told_files t) name) at (put_mid filled (length buffer - filled) buffer new) (filled + count))
told_more a b name at filled count buffer part new same within sized f r =
    told_with a b (λ files. FilledTo (contents_at files name) at buffer filled) (λ files. ReadsAt files name (at + filled) part new count)
    (λ files. FilledTo (contents_at files name) at (put_mid filled (length buffer - filled) buffer new) (filled + count)) same
    (λ files p q. filled_more files name at filled count buffer part new within sized p q) f r
