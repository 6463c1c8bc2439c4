-- What a drill prints with each status.
use Rattle.std.proofs.Common.{◌≡◌, inl, inr, ◌⊎◌, ℕ, List, Option, Some, None, IfSome, MatchOption, refl, subst, sym}
use Rattle.ferry_carry.specs.declared.options.Carried.{Carried}
use Rattle.ferry_check.specs.Verify.{FilesVerify}
use Rattle.ferry_disk.specs.Device.{Told, told_files}
use Rattle.ferry_nonce.specs.declared.fault.NonceFault.TheVariants as Nonces
use Rattle.ferry_piece.specs.declared.fault.CarryFault.{CarryFault}
use Rattle.ferry_piece.specs.declared.fault.CarryFault.TheVariants as Carry
use Rattle.ferry_repo.specs.declared.fault.RepoFault.{RepoFault}
use Rattle.ferry_repo.specs.declared.fault.RepoFault.TheVariants as Repos
use Rattle.ferry_status.specs.Devices.{Written}
use Rattle.ferry_status.specs.Output.{HasBegun}
use Rattle.ferry_status.specs.Status.{bad_line, carry_status, repo_status, store_status, target_status}
use Rattle.ferry_status.specs.declared.status.Status.{Status}
use Rattle.ferry_status.specs.declared.status.Status.TheVariants as Statuses
use Rattle.ferry_store.specs.declared.fault.StoreRefusal.{StoreRefusal}
use Rattle.ferry_store.specs.declared.fault.StoreRefusal.TheVariants as Stores
use Rattle.ferry_write.specs.declared.fault.WriteFault.TheVariants as Writes
use Rattle.ferry_run_drill.specs.Drill.{HasBad, HasCopied, PrintsDrill, SaysBad, SaysDone, done_line, target_secret}
use Rattle.ferry_run_drill.specs.Steps.{PrintsLine, SendsLine}

-- ---- where nothing is printed

of_source : (count : ℕ) (now : Option Told) (out : Written) (fault : RepoFault) → PrintsDrill count now out (repo_status fault) out
of_source count now out Repos.NoCommit = refl
of_source count now out (Repos.Damaged segment at) = refl
of_source count now out (Repos.Config cause) = refl
of_source count now out (Repos.Key cause) = refl
of_source count now out (Repos.Missing id) = refl
of_source count now out (Repos.Blob id cause) = refl
of_source count now out (Repos.Manifest cause) = refl
of_source count now out (Repos.Archive id cause) = refl
of_source count now out (Repos.Item id cause) = refl
of_source count now out (Repos.Size id) = refl
of_source count now out (Repos.KeyFile cause) = refl
of_source count now out (Repos.Other file config) = refl
of_source count now out Repos.NoKey = refl
of_source count now out Repos.Device = refl
of_source count now out Repos.Memory = inl refl

of_target : (count : ℕ) (now : Option Told) (out : Written) (fault : RepoFault) → PrintsDrill count now out (target_status fault) out
of_target count now out Repos.NoCommit = refl
of_target count now out (Repos.Damaged segment at) = refl
of_target count now out (Repos.Config cause) = refl
of_target count now out (Repos.Key cause) = refl
of_target count now out (Repos.Missing id) = refl
of_target count now out (Repos.Blob id cause) = refl
of_target count now out (Repos.Manifest cause) = refl
of_target count now out (Repos.Archive id cause) = refl
of_target count now out (Repos.Item id cause) = refl
of_target count now out (Repos.Size id) = refl
of_target count now out (Repos.KeyFile cause) = refl
of_target count now out (Repos.Other file config) = refl
of_target count now out Repos.NoKey = refl
of_target count now out Repos.Device = refl
of_target count now out Repos.Memory = inl refl

pub of_refusal : (count : ℕ) (now : Option Told) (out : Written) (refusal : StoreRefusal) → PrintsDrill count now out (store_status refusal) out
of_refusal count now out (Stores.Repo fault) = of_target count now out fault
of_refusal count now out (Stores.Write Writes.Device) = refl
of_refusal count now out (Stores.Write Writes.Memory) = inl refl
of_refusal count now out (Stores.Write Writes.Numbers) = refl
of_refusal count now out (Stores.Nonce Nonces.Missing) = refl
of_refusal count now out (Stores.Nonce Nonces.Text) = refl
of_refusal count now out (Stores.Nonce Nonces.Exhausted) = refl
of_refusal count now out (Stores.Nonce Nonces.Device) = refl
of_refusal count now out (Stores.Nonce Nonces.Memory) = inl refl
of_refusal count now out Stores.Committed = refl
of_refusal count now out Stores.TooLarge = refl
of_refusal count now out Stores.Entropy = refl
of_refusal count now out Stores.Memory = inl refl

pub of_fault : (count : ℕ) (now : Option Told) (out : Written) (fault : CarryFault) → PrintsDrill count now out (carry_status fault) out
of_fault count now out (Carry.Source fault) = of_source count now out fault
of_fault count now out (Carry.Target refusal) = of_refusal count now out refusal
of_fault count now out (Carry.Taken name) = refl
of_fault count now out (Carry.NotFound name) = refl
of_fault count now out Carry.Pieces = refl
of_fault count now out Carry.Memory = inl refl
of_fault count now out Carry.Record = refl

-- ---- where a line is printed

-- a front of a line
front_of : (text : List ℕ) (P : List ℕ → Type 0) (before after : Written) → P text → HasBegun (λ sent. sent ≡ text) before after → HasBegun P before after
front_of text P before after says (inl same) = inl same
front_of text P before after says (inr begun) = inr (begun.0, subst P (sym begun.1) says, begun.2, begun.3)

says_done : (count : ℕ) (now : Option Told) (carried : Carried) → IfSome now (λ t. HasCopied count carried t.history)
    → IfSome now (λ t. FilesVerify (told_files t) target_secret) → SaysDone count now (done_line count carried)
says_done count None carried copied verifies = (carried, (tt, refl))
says_done count (Some t) carried copied verifies = (carried, ((copied, verifies), refl))

says_bad : (now : Option Told) (fault : RepoFault) → IfSome now (λ t. HasBad (told_files t) fault) → SaysBad now (bad_line fault)
says_bad None fault bad = (fault, (tt, refl))
says_bad (Some t) fault bad = (fault, (bad, refl))

done_sent : (count : ℕ) (carried : Carried) (now : Option Told) (before : Written) (status : Status) (after : Written)
    → SaysDone count now (done_line count carried) → SendsLine (done_line count carried) Statuses.Done before status after
    → PrintsDrill count now before status after
done_sent count carried now before status after says (inl sent) =
    subst (λ (s : Status). PrintsDrill count now before s after) (sym sent.0) (done_line count carried, says, sent.1.0, sent.1.1)
done_sent count carried now before status after says (inr (inl failed)) =
    subst (λ (s : Status). PrintsDrill count now before s after) (sym failed.0) (done_line count carried, (inl says, failed.1))
done_sent count carried now before status after says (inr (inr memory)) =
    subst (λ (s : Status). PrintsDrill count now before s after) (sym memory.0)
    (front_of (done_line count carried) (λ text. SaysDone count now text ⊎ SaysBad now text) before after (inl says) memory.1)

bad_sent : (count : ℕ) (fault : RepoFault) (now : Option Told) (before : Written) (status : Status) (after : Written)
    → SaysBad now (bad_line fault) → SendsLine (bad_line fault) Statuses.No before status after → PrintsDrill count now before status after
bad_sent count fault now before status after says (inl sent) =
    subst (λ (s : Status). PrintsDrill count now before s after) (sym sent.0) (bad_line fault, says, sent.1.0, sent.1.1)
bad_sent count fault now before status after says (inr (inl failed)) =
    subst (λ (s : Status). PrintsDrill count now before s after) (sym failed.0) (bad_line fault, (inr says, failed.1))
bad_sent count fault now before status after says (inr (inr memory)) =
    subst (λ (s : Status). PrintsDrill count now before s after) (sym memory.0)
    (front_of (bad_line fault) (λ text. SaysDone count now text ⊎ SaysBad now text) before after (inr says) memory.1)

-- the line of a target that was checked
pub printed : (count : ℕ) (carried : Carried) (bad : Option RepoFault) (now : Option Told) (before : Written) (status : Status) (after : Written)
    → IfSome now (λ t. HasCopied count carried t.history)
    → IfSome now (λ t. MatchOption bad (FilesVerify (told_files t) target_secret) (HasBad (told_files t)))
    → PrintsLine count carried bad before status after → PrintsDrill count now before status after
printed count carried None now before status after copied checked sends =
    done_sent count carried now before status after (says_done count now carried copied checked) sends
printed count carried (Some fault) now before status after copied checked sends =
    bad_sent count fault now before status after (says_bad now fault checked) sends
