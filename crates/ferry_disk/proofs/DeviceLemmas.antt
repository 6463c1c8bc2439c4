-- Lemmas on specs/Device.antt, for the callers of devices: what holds of the files that one told is carried to the next.
use Rattle.std.proofs.Common.{◌≡◌, Option, Some, None, IfSome, sym, ap, subst}
use Rattle.ferry_disk.specs.Files.{Files}
use Rattle.ferry_disk.specs.Act.{files_now}
use Rattle.ferry_disk.specs.Device.{Told, Heard, told_files, heard, heard_of}

same_files : (a b : Told) → heard (Some a) ≡ heard (Some b) → told_files a ≡ told_files b
same_files a b e = let same : heard_of a ≡ heard_of b = cc in ap (λ (h : Heard). files_now h.history) same

-- what holds of the files that `a` tells holds of those that `b` tells, where they are the same
pub told_same : (a b : Option Told) (P : Files → Type 0) → heard b ≡ heard a → IfSome a (λ t. P (told_files t)) → IfSome b (λ t. P (told_files t))
told_same None None P e p = p
told_same None (Some b) P e p = absurd (let none : ⊥ = cc in none)
told_same (Some a) None P e p = tt
told_same (Some a) (Some b) P e p = subst P (sym (same_files b a e)) p

-- what follows from a fact of the files that was known, and from one that a later call has told
pub told_with : (a b : Option Told) (P Q R : Files → Type 0) → heard b ≡ heard a → ((f : Files) → P f → Q f → R f)
    → IfSome a (λ t. P (told_files t)) → IfSome b (λ t. Q (told_files t)) → IfSome a (λ t. R (told_files t))
told_with None b P Q R e step p q = tt
told_with (Some a) None P Q R e step p q = absurd (let none : ⊥ = cc in none)
told_with (Some a) (Some b) P Q R e step p q = step (told_files a) p (subst Q (same_files b a e) q)

-- what follows from what is known of the files
pub told_then : (a : Option Told) (P Q : Files → Type 0) → ((f : Files) → P f → Q f) → IfSome a (λ t. P (told_files t)) → IfSome a (λ t. Q (told_files t))
told_then None P Q step p = tt
told_then (Some a) P Q step p = step (told_files a) p

-- what holds of any files
pub told_any : (a : Option Told) (P : Files → Type 0) → ((f : Files) → P f) → IfSome a (λ t. P (told_files t))
told_any None P p = tt
told_any (Some a) P p = p (told_files a)
