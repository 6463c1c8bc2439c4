-- Lemmas on specs/Archives.antt: the archive of a name among those from a place on.
use Rattle.std.proofs.Common.{◌≡◌, ℕ, zero, suc, ◌+◌, ◌<◌, true, false, List, [], ◌∷◌, length, drop, get_or, Some, None, refl, arith, add-one, drop-cons}
use Rattle.std.specs.Str.{bytes_eq}
use Rattle.ferry_manifest.specs.declared.manifest.ArchiveRef.{ArchiveRef}
use Rattle.ferry_repo.specs.Archives.{archive_named}

pub archive_named-here : (name : List ℕ) (archive : ArchiveRef) (archives : List ArchiveRef) → bytes_eq archive.name name ≡ true
    → archive_named name (archive ∷ archives) ≡ Some archive
unfolding archive_named
archive_named-here name archive archives e = rw e refl

pub archive_named-other : (name : List ℕ) (archive : ArchiveRef) (archives : List ArchiveRef) → bytes_eq archive.name name ≡ false
    → archive_named name (archive ∷ archives) ≡ archive_named name archives
unfolding archive_named
archive_named-other name archive archives e = rw e refl

pub archive_named-none : (name : List ℕ) → archive_named name [] ≡ None
unfolding archive_named
archive_named-none name = refl

pub archives-drop : (archives : List ArchiveRef) (place : ℕ) (a : ArchiveRef) → place < length archives
    → drop place archives ≡ get_or archives place a ∷ drop (place + 1) archives
archives-drop archives place a lt = rw (add-one place) (drop-cons archives place a lt)

-- the archive at a place is one, whatever stands for an archive that isn't there
pub same_get : (archives : List ArchiveRef) (place : ℕ) (d e : ArchiveRef) → place < length archives → get_or archives place d ≡ get_or archives place e
same_get [] place d e lt = absurd (omega arith)
same_get (f ∷ fs) zero d e lt = refl
same_get (f ∷ fs) (suc place) d e lt = same_get fs place d e (omega arith)
