-- Lemmas on specs/Delete.antt: a run that memory refused before it began.
use Rattle.std.proofs.Common.{inr, inl, Option, Some, None, refl}
use Rattle.ferry_disk.specs.Device.{Told}
use Rattle.ferry_piece.specs.declared.fault.CarryFault.TheVariants as Carry
use Rattle.ferry_status.proofs.OpenedLemmas.{memory_number, shut_here}
use Rattle.ferry_run_delete.proofs.CauseLemmas.{deletes_done}
use Rattle.ferry_run_delete.proofs.ShowLemmas.{DeleteEach, Deletion, each_opened, some_left}
use Rattle.ferry_run_delete.specs.Delete.{DeletesArchive, LeavesOthers, RefusesDeletion}
use Rattle.ferry_status.specs.Devices.{Devices, IsRefusedBy}
use Rattle.ferry_status.specs.declared.status.Status.TheVariants as Statuses
use Rattle.ferry_status.specs.Opened.{ChangesLeave, RefusesChange}
use Rattle.ferry_status.specs.Status.{carry_status}
use Rattle.ferry_store.proofs.OpenLemmas.{each_here}
use Rattle.ferry_store.proofs.StepLemmas.{here_each}
use Rattle.ferry_store.specs.declared.fault.StoreRefusal.TheVariants as Stores

memory_refused : (asked : Deletion) (before now : Option Told) → RefusesChange asked.secret (RefusesDeletion asked.name asked.timestamp now) before Carry.Memory
memory_refused asked None now = tt
memory_refused asked (Some t) now = λ begun. inl (Stores.Memory, (refl, tt))

memory_is : (asked : Deletion) (before now : Option Told)
    → IsRefusedBy carry_status (RefusesChange asked.secret (RefusesDeletion asked.name asked.timestamp now) before) Statuses.Memory
memory_is asked before now = record { fault = Carry.Memory; status_is = refl; refuses = memory_refused asked before now }

pub deletes_nothing : (asked : Deletion) (all : Devices) → DeletesArchive asked.secret asked.name asked.timestamp all Statuses.Memory all
deletes_nothing asked all =
    let told = all.target.told in
    record {
      unwritten = λ unread. absurd (let no : ⊥ = cc in no);
      completes = deletes_done asked told told Statuses.Memory (inr (memory_is asked told told));
      changes = record {
        source = refl;
        output = refl;
        refused = inr (memory_is asked told told);
        ended = λ done. absurd (let no : ⊥ = cc in no);
        left = here_each (ChangesLeave asked.secret (LeavesOthers asked.secret asked.name asked.timestamp)) told
            (λ h. some_left asked h h (each_opened asked h h (each_here h)).0);
        kept = λ work. absurd (let no : ⊥ = cc in no);
        shut = shut_here asked.secret told;
        number = memory_number (λ fault. ⊥) asked.secret told;
        each = here_each (DeleteEach asked) told (λ h. (each_opened asked h h (each_here h)).0);
      };
    }
