-- Lemmas on specs/Complete.antt: where a drill is done.
use Rattle.std.proofs.Common.{◌≡◌, ◌≤◌, inr, ℕ, Option, Some, None, IfSome, refl, subst, sym, ◌⊎◌, true}
use Rattle.ferry_carry.specs.declared.options.Carried.{Carried}
use Rattle.ferry_disk.specs.Act.{History}
use Rattle.ferry_disk.specs.Device.{Told, told_files}
use Rattle.ferry_disk.specs.Files.{Files}
use Rattle.ferry_disk.specs.Moments.{Between}
use Rattle.ferry_gen.specs.Source.{HasPlain, IsSource}
use Rattle.ferry_piece.specs.declared.fault.CarryFault.{CarryFault}
use Rattle.ferry_status.specs.Status.{carry_status, output_failed}
use Rattle.ferry_status.specs.declared.status.Status.{Status}
use Rattle.ferry_status.specs.declared.status.Status.TheVariants as Statuses
use Rattle.ferry_status.specs.Opened.{IsDoneUnless}
use Rattle.ferry_run_drill.specs.Complete.{AreApartIn, EndsChecked, EndsDone, EndsFrom, IsFinished, MeetsLimit, WhereFree}
use Rattle.ferry_run_drill.specs.Drill.{HasCopied}

where_then : (before now : Option Told) (P Q : Files → Files → Type 0)
    → ((start image : Files) → P start image → Q start image) → WhereFree before now P → WhereFree before now Q
where_then None now P Q step where_p = tt
where_then (Some b) None P Q step where_p = tt
where_then (Some b) (Some t) P Q step where_p = λ begun free. step (told_files b) (told_files t) (where_p begun free)

-- a copy that was refused
pub refused_completes : (count : ℕ) (source : Files) (a d : Option Told) (fault : CarryFault) → count ≤ 64 → IsSource count source → HasPlain source
    → EndsFrom source a d fault → (carry_status fault ≡ Statuses.Memory) ⊎ EndsDone count a d (carry_status fault)
refused_completes count source a d fault most is plain ends =
    inr (record {
      source = source;
      source_is = is;
      ends = λ apart.
          where_then a d (λ start image. IsDoneUnless (MeetsLimit start image) (λ other. output_failed other ≡ true) (carry_status fault))
          (λ start image. AreApartIn count image → IsDoneUnless (MeetsLimit start image) (λ other. output_failed other ≡ true) (carry_status fault))
          (λ start image done target. done)
          (ends count most is plain apart);
    })

finished_done : (start image : Files) (status : Status) → IsFinished status → IsDoneUnless (MeetsLimit start image) (λ other. output_failed other ≡ true) status
finished_done start image Statuses.Done finished = tt
finished_done start image Statuses.No finished = absurd finished
finished_done start image (Statuses.Usage word) finished = absurd finished
finished_done start image Statuses.Memory finished = tt
finished_done start image Statuses.SourceDevice finished = absurd finished
finished_done start image Statuses.TargetDevice finished = tt
finished_done start image Statuses.EntropyDevice finished = absurd finished
finished_done start image Statuses.OutputDevice finished = refl
finished_done start image (Statuses.SourceRefused refusal) finished = absurd finished
finished_done start image (Statuses.TargetRefused refusal) finished = absurd finished
finished_done start image (Statuses.Taken name) finished = absurd finished
finished_done start image (Statuses.NotFound what) finished = absurd finished
finished_done start image (Statuses.Limit limit) finished = absurd finished

-- one that came, behind which the target was checked
pub finished_completes : (count : ℕ) (carried : Carried) (source : Files) (a b d : Option Told) (E : History → History → Type 0) (status : Status)
    → IsSource count source → Between a b E → IfSome b (λ t. HasCopied count carried t.history) → Between b d (λ h g. g ≡ h)
    → EndsChecked count carried d status → (status ≡ Statuses.Memory) ⊎ EndsDone count a d status
finished_completes count carried source None b d E status is each copied same ends = inr (record { source = source; source_is = is; ends = λ apart. tt })
finished_completes count carried source (Some s) None d E status is each copied same ends =
    absurd (let e : None ≡ Some each.0 = each.1 in let no : ⊥ = cc in no)
finished_completes count carried source (Some s) (Some u) None E status is each copied same ends =
    absurd (let e : None ≡ Some same.0 = same.1 in let no : ⊥ = cc in no)
finished_completes count carried source (Some s) (Some u) (Some t) E status is each copied same ends =
    let told : Some t ≡ Some same.0 = same.1 in
    let one : same.0 ≡ t = cc in
    let history : u.history ≡ t.history = subst (λ (x : Told). u.history ≡ x.history) one (sym same.2) in
    let now : HasCopied count carried t.history = subst (HasCopied count carried) history copied in
    inr (record {
      source = now.source;
      source_is = now.source_is;
      ends = λ apart begun free target.
          finished_done (told_files s) (told_files t) status (ends now apart target);
    })
