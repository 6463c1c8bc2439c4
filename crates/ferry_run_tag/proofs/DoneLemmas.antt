-- Lemmas on specs/Tag.antt: a run that memory refused before it began.
use Rattle.std.proofs.Common.{inr, inl, ℕ, List, Option, Some, None, refl}
use Rattle.ferry_disk.specs.Device.{Told}
use Rattle.ferry_piece.specs.declared.fault.CarryFault.TheVariants as Carry
use Rattle.ferry_status.proofs.OpenedLemmas.{memory_number, shut_here}
use Rattle.ferry_run_tag.proofs.CauseLemmas.{tags_done}
use Rattle.ferry_run_tag.proofs.ShowLemmas.{TagEach, Tagging, each_opened, some_left, tagging}
use Rattle.ferry_repo.specs.declared.secret.Secret.{Secret}
use Rattle.ferry_run_tag.specs.Tag.{LeavesArchives, RefusesTags, TagsArchives}
use Rattle.ferry_status.specs.Devices.{Devices, IsRefusedBy}
use Rattle.ferry_status.specs.declared.status.Status.TheVariants as Statuses
use Rattle.ferry_status.specs.Opened.{ChangesLeave, RefusesChange}
use Rattle.ferry_status.specs.Status.{carry_status}
use Rattle.ferry_store.proofs.OpenLemmas.{each_here}
use Rattle.ferry_store.proofs.StepLemmas.{here_each}
use Rattle.ferry_store.specs.declared.fault.StoreRefusal.TheVariants as Stores

memory_refused : (asked : Tagging) (before now : Option Told) → RefusesChange asked.secret
    (RefusesTags asked.timestamp asked.drawn asked.drawn_now now) before Carry.Memory
memory_refused asked None now = tt
memory_refused asked (Some t) now = λ begun. inl (Stores.Memory, (refl, tt))

memory_is : (asked : Tagging) (before now : Option Told)
    → IsRefusedBy carry_status (RefusesChange asked.secret (RefusesTags asked.timestamp asked.drawn asked.drawn_now now) before) Statuses.Memory
memory_is asked before now = record { fault = Carry.Memory; status_is = refl; refuses = memory_refused asked before now }

pub tags_nothing : (secret : Secret) (timestamp : Option (List ℕ)) (all : Devices) → TagsArchives secret timestamp all Statuses.Memory all
tags_nothing secret timestamp all =
    let asked = tagging secret timestamp all.entropy.bytes all.entropy.bytes in
    let told = all.target.told in
    record {
      unwritten = λ unread. absurd (let no : ⊥ = cc in no);
      completes = tags_done asked told told Statuses.Memory (inr (memory_is asked told told));
      changes = record {
        source = refl;
        output = refl;
        refused = inr (memory_is asked told told);
        ended = λ done. absurd (let no : ⊥ = cc in no);
        left = here_each (ChangesLeave asked.secret (LeavesArchives asked.secret asked.timestamp)) told
            (λ h. some_left asked h h (each_opened asked h h (each_here h)).0);
        kept = λ work. absurd (let no : ⊥ = cc in no);
        shut = shut_here asked.secret told;
        number = memory_number (λ fault. ⊥) asked.secret told;
        each = here_each (TagEach asked) told (λ h. (each_opened asked h h (each_here h)).0);
      };
    }
