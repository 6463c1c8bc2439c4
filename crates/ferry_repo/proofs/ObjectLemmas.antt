-- Lemmas on specs/Objects.antt: the place of a live id, its blob, and what is read there.
use Rattle.std.proofs.Common.{◌≡◌, ℕ, ◌-◌, ◌≤◌, List, length, take, drop, Some, sym, ◌∙◌, ap, arith, zero-add}
use Rattle.std.specs.List.{copy_within}
use Rattle.std.proofs.lemmas.List.{length-drop, take_all}
use Rattle.std.proofs.lemmas.List.Edits.{take-paste}
use Rattle.ferry_disk.specs.Files.{Files, segment_bytes}
use Rattle.ferry_log.specs.State.{LogState, FitsFiles, place_in}
use Rattle.ferry_log.specs.declared.place.Place.{Place}
use Rattle.ferry_log.proofs.FitsLemmas.{place_holds}
use Rattle.ferry_mac.specs.declared.keys.Keys.{Keys}
use Rattle.ferry_repo.specs.declared.fault.RepoFault.{RepoFault}
use Rattle.ferry_repo.specs.declared.fault.RepoFault.TheVariants.{NoCommit, Damaged, Config, Key, Missing, Blob, Manifest, Archive}
use Rattle.ferry_repo.specs.declared.fault.RepoFault.TheVariants.{Item, Size, KeyFile, Other, NoKey, Device, Memory}
use Rattle.ferry_repo.specs.Objects.{HasBlob, RefusesObject, LosesBlob, BreaksBlob}

-- the bytes behind a place, moved to the front
pub moved_front : (bytes : List ℕ) (n : ℕ) → n ≤ length bytes → take (length bytes - n) (copy_within bytes n (length bytes) 0) ≡ drop n bytes
moved_front bytes n within =
    let count = length bytes - n in
    ap (λ k. take k (copy_within bytes n (length bytes) 0)) (sym (zero-add count))
    ∙ take-paste bytes 0 (drop n bytes) count (omega arith) (omega (arith, length-drop n bytes))
    ∙ take_all count (drop n bytes) (omega (arith, length-drop n bytes))

-- what is read at the place of a key is its blob
pub has_blob : (files : Files) (log : LogState) (id blob : List ℕ) (place : Place) → FitsFiles files log → place_in log id ≡ Some place
    → blob ≡ take place.size (drop place.at (segment_bytes files place.segment)) → HasBlob files log id blob
has_blob files log id blob place fits found at =
    record { place = place; placed = found; lies = record { holds = sym at; within = (place_holds files log id place fits found).1.within } }

-- a blob that is live isn't lost from its place
pub not_lost : (files : Files) (log : LogState) (id : List ℕ) (place : Place) (keys : Keys) (fault : RepoFault) → FitsFiles files log
    → place_in log id ≡ Some place
    → LosesBlob (segment_bytes files place.segment) place fault → RefusesObject files log keys id fault
not_lost files log id place keys (Damaged segment at) fits found lost =
    let within = (place_holds files log id place fits found).1.within in
    omega (arith, within, lost)
not_lost files log id place keys Device fits found lost = tt
not_lost files log id place keys Memory fits found lost = tt
not_lost files log id place keys NoCommit fits found lost = lost
not_lost files log id place keys (Config fault) fits found lost = lost
not_lost files log id place keys (Key fault) fits found lost = lost
not_lost files log id place keys (Missing named) fits found lost = absurd lost
not_lost files log id place keys (Blob named fault) fits found lost = absurd lost
not_lost files log id place keys (Manifest fault) fits found lost = lost
not_lost files log id place keys (Archive named fault) fits found lost = lost
not_lost files log id place keys (Item named fault) fits found lost = lost
not_lost files log id place keys (Size named) fits found lost = lost
not_lost files log id place keys (KeyFile fault) fits found lost = lost
not_lost files log id place keys (Other a b) fits found lost = lost
not_lost files log id place keys NoKey fits found lost = lost

-- what a blob's refusal says of the object
pub breaks_object : (files : Files) (log : LogState) (keys : Keys) (id blob : List ℕ) (fault : RepoFault) → HasBlob files log id blob
    → BreaksBlob keys id blob fault
    → RefusesObject files log keys id fault
breaks_object files log keys id blob (Blob named fault) has broken = (broken.0, record { blob = blob; has = has; breaks = broken.1 })
breaks_object files log keys id blob NoCommit has broken = broken
breaks_object files log keys id blob (Damaged segment at) has broken = broken
breaks_object files log keys id blob (Config fault) has broken = broken
breaks_object files log keys id blob (Key fault) has broken = broken
breaks_object files log keys id blob (Missing named) has broken = absurd broken
breaks_object files log keys id blob (Manifest fault) has broken = broken
breaks_object files log keys id blob (Archive named fault) has broken = broken
breaks_object files log keys id blob (Item named fault) has broken = broken
breaks_object files log keys id blob (Size named) has broken = broken
breaks_object files log keys id blob (KeyFile fault) has broken = broken
breaks_object files log keys id blob (Other a b) has broken = broken
breaks_object files log keys id blob NoKey has broken = broken
breaks_object files log keys id blob Device has broken = tt
breaks_object files log keys id blob Memory has broken = tt
