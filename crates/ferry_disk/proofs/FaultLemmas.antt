-- Lemmas on specs/Faults.antt: a call that writes, and a body that only reads, make no call after one that failed.
use Rattle.std.proofs.Common.{◌≡◌, Bool, true, false, Option, Some, None, Result, Ok, Err, option_map, refl, sym, ◌∙◌, ap, subst}
use Rattle.ferry_disk.specs.Act.{Step}
use Rattle.ferry_disk.specs.Device.{Told, Heard, heard, heard_of, called, acted, Acts, KeepsTold, KeptWhere, store_failed}
use Rattle.ferry_disk.specs.Faults.{failed_told, FailedWhere, EndsAtFault}
use Rattle.ferry_disk.specs.declared.shelf.StoreFault.{StoreFault}
use Rattle.ferry_disk.specs.declared.shelf.StoreFault.TheVariants as Store

done_keeps : (step : Step) (before : Option Told) → failed_told (option_map (acted step true) before) ≡ failed_told before
done_keeps step None = refl
done_keeps step (Some told) = refl

called_keeps : (before : Option Told) → failed_told (option_map called before) ≡ failed_told before
called_keeps None = refl
called_keeps (Some told) = refl

undone_ends : (step : Step) (before : Option Told) → FailedWhere true before (option_map (acted step false) before)
undone_ends step None = refl
undone_ends step (Some told) = refl

pub acts_end : {T : Type 0} (step : Step) (before now : Option Told) (result : Result T StoreFault) → Acts step before now result
    → EndsAtFault store_failed before now result
acts_end step before now (Ok x) e = ap failed_told e ∙ done_keeps step before
acts_end step before now (Err Store.Failed) e = subst (FailedWhere true before) (sym e) (undone_ends step before)
acts_end step before now (Err Store.Memory) e = ap failed_told e ∙ called_keeps before

heard_failed : (now before : Option Told) → heard now ≡ heard before → failed_told now ≡ failed_told before
heard_failed None None e = refl
heard_failed None (Some b) e = absurd (let no : ⊥ = cc in no)
heard_failed (Some a) None e = absurd (let no : ⊥ = cc in no)
heard_failed (Some a) (Some b) e =
    let same : heard_of a ≡ heard_of b = cc in ap (λ (h : Heard). Some h.failed) same

kept_failed : (is_device : Bool) (before now : Option Told) → KeptWhere is_device (heard before) now → FailedWhere is_device before now
kept_failed false before now k = heard_failed now before k
kept_failed true None None k = refl
kept_failed true (Some b) None k = absurd (let no : ⊥ = cc in no)
kept_failed true None (Some n) k = absurd (let no : ⊥ = cc in no)
kept_failed true (Some b) (Some n) k = ap (option_map (λ (h : Heard). h.failed)) k

pub keeps_end : {T F : Type 0} (is_device : F → Bool) (before now : Option Told) (result : Result T F) → KeepsTold is_device before now result
    → EndsAtFault is_device before now result
keeps_end is_device before now (Ok x) k = heard_failed now before k
keeps_end is_device before now (Err fault) k = kept_failed (is_device fault) before now k
