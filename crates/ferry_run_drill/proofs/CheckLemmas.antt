-- Lemmas on specs/Complete.antt: where archives of the drill are whole and all chunks open, the check finds no fault.
use Rattle.std.proofs.Common.{◌≡◌, ◌<◌, ◌+◌, inl, inr, ℕ, zero, suc, Bool, true, false, List, [], ◌∷◌, length, Option, Some, None}
use Rattle.std.proofs.Common.{IfSome, IsSome, MatchOption, refl, sym, ◌∙◌, ap, subst, arith}
use Rattle.std.proofs.lemmas.Slice.Eq.{bytes_eq-Decides}
use Rattle.std.specs.Str.{bytes_eq}
use Rattle.ferry_carry.specs.declared.options.Carried.{Carried}
use Rattle.ferry_check.proofs.LawLemmas.{verifies_apart}
use Rattle.ferry_check.specs.Verify.{AllOpen, FilesVerify, FirstBad, Verifies}
use Rattle.ferry_disk.proofs.DeviceLemmas.{told_same}
use Rattle.ferry_disk.specs.Act.{files_now}
use Rattle.ferry_disk.specs.Device.{Heard, KeptWhere, Told, failed_at, heard, heard_of, told_files}
use Rattle.ferry_disk.specs.Files.{Files}
use Rattle.ferry_gen.specs.Archives.{HasArchives, contents_from, drill_archive, entries_from}
use Rattle.ferry_gen.specs.Content.{archive_name}
use Rattle.ferry_mac.specs.declared.keys.Keys.{Keys}
use Rattle.ferry_manifest.specs.declared.manifest.ArchiveRef.{ArchiveRef}
use Rattle.ferry_piece.specs.Gather.{NoCollision}
use Rattle.ferry_repo.proofs.LawLemmas.{one_repo, repo_apart}
use Rattle.ferry_repo.specs.Archives.{archive_named}
use Rattle.ferry_repo.specs.Fault.{IsOfFiles}
use Rattle.ferry_repo.specs.Opening.{OpensFilesTo, RefusesRepo, RepoState}
use Rattle.ferry_repo.specs.Whole.{IsWhole}
use Rattle.ferry_repo.specs.declared.fault.RepoFault.{RepoFault}
use Rattle.ferry_repo.specs.declared.fault.RepoFault.TheVariants as Repos
use Rattle.ferry_repo.specs.declared.secret.Secret.{Secret}
use Rattle.ferry_status.specs.Devices.{Written}
use Rattle.ferry_status.specs.Status.{store_status}
use Rattle.ferry_status.specs.declared.status.Status.{Status}
use Rattle.ferry_status.specs.declared.status.Status.TheVariants as Statuses
use Rattle.ferry_store.specs.Fault.{repo_refusal}
use Rattle.ferry_run_drill.specs.Complete.{AreApartIn, EndsChecked, IsFinished}
use Rattle.ferry_run_drill.specs.Drill.{HasBad, HasCopied, NoneCollide, OpensAll, done_line, target_block, target_secret}
use Rattle.ferry_run_drill.specs.Steps.{PrintsLine, SendsLine}

-- ---- what verifies

-- a name among the entries is that of an archive
named_at : (keys : Keys) (first : ℕ) (texts : List (List ℕ)) (name : List ℕ) → IsSome (archive_named name (entries_from keys first texts))
    → (place : ℕ) × ((place < length texts) × (name ≡ archive_name (first + place)))
unfolding entries_from archive_named
named_at keys first [] name there = absurd (let no : ⊥ = cc in no)
named_at keys first (t ∷ ts) name there =
    by (bytes_eq (archive_name first) name) refl (λ later. named_at keys (suc first) ts name later) where
      by : (b : Bool) → bytes_eq (archive_name first) name ≡ b
          → (IsSome (archive_named name (entries_from keys (suc first) ts)) → (place : ℕ) × ((place < length ts) × (name ≡ archive_name (suc first + place))))
          → (place : ℕ) × ((place < length (t ∷ ts)) × (name ≡ archive_name (first + place)))
      by true is others =
          let e : first ≡ first + 0 = omega arith in
          (0, (omega arith, sym ((bytes_eq-Decides (archive_name first) name).0 is) ∙ ap archive_name e))
      by false is others =
          let later = others (rw is at there) in
          let e : suc first + later.0 ≡ first + suc later.0 = omega arith in
          (suc later.0, (omega (arith, later.1.0), later.1.1 ∙ ap archive_name e))

-- archives of the drill verify where their contents don't collide and all chunks open
pub all_verify : (count : ℕ) (files : Files) (has : HasArchives target_secret target_block count files)
    → NoCollision has.repo.keys (contents_from has.repo.keys target_block zero has.texts) → AllOpen files has.repo → Verifies files has.repo
all_verify count files has apart all = record {
  chunks = all;
  archives = λ name there.
      let repo = has.repo in
      let at = named_at repo.keys 0 has.texts name (subst (λ (l : List ArchiveRef). IsSome (archive_named name l)) has.archives there) in
      let low : at.0 < count = omega (arith, at.1.0, has.texts_size) in
      let e : 0 + at.0 ≡ at.0 = omega arith in
      let is : name ≡ archive_name at.0 = at.1.1 ∙ ap archive_name e in (
        drill_archive at.0,
        subst (λ (n : List ℕ). IsWhole files repo.log repo.keys repo.manifest.archives n (drill_archive at.0)) (sym is) (has.wholes apart at.0 low),
      );
}

-- so that none is bad
pub none_bad : (count : ℕ) (files : Files) (has : HasArchives target_secret target_block count files)
    → NoCollision has.repo.keys (contents_from has.repo.keys target_block zero has.texts) → (there : RepoState)
    → OpensFilesTo files target_secret there → AllOpen files there → (fault : RepoFault) → HasBad files fault → ⊥
none_bad count files has apart there opens all fault bad =
    let same : there ≡ has.repo = one_repo files target_secret there has.repo opens has.opens in
    let other : bad.0 ≡ has.repo = one_repo files target_secret bad.0 has.repo bad.1.0 has.opens in
    verifies_apart files has.repo fault (all_verify count files has apart (subst (AllOpen files) same all))
    (subst (λ (r : RepoState). FirstBad files r fault) other bad.1.1)

-- ---- how a drill ends behind a copy

-- files that open are refused by a device alone, or for want of memory
pub open_finished : (files : Files) (secret : Secret) (repo : RepoState) (fault : RepoFault) → OpensFilesTo files secret repo
    → (IsOfFiles fault → RefusesRepo files secret fault) → IsFinished (store_status (repo_refusal fault))
open_finished files secret repo Repos.Device opens refused = tt
open_finished files secret repo Repos.Memory opens refused = tt
open_finished files secret repo Repos.NoCommit opens refused = absurd (repo_apart files secret repo Repos.NoCommit opens tt (refused tt))
open_finished files secret repo (Repos.Damaged segment at) opens refused =
    absurd (repo_apart files secret repo (Repos.Damaged segment at) opens tt (refused tt))
open_finished files secret repo (Repos.Config cause) opens refused = absurd (repo_apart files secret repo (Repos.Config cause) opens tt (refused tt))
open_finished files secret repo (Repos.Key cause) opens refused = absurd (repo_apart files secret repo (Repos.Key cause) opens tt (refused tt))
open_finished files secret repo (Repos.Missing id) opens refused = absurd (repo_apart files secret repo (Repos.Missing id) opens tt (refused tt))
open_finished files secret repo (Repos.Blob id cause) opens refused = absurd (repo_apart files secret repo (Repos.Blob id cause) opens tt (refused tt))
open_finished files secret repo (Repos.Manifest cause) opens refused = absurd (repo_apart files secret repo (Repos.Manifest cause) opens tt (refused tt))
open_finished files secret repo (Repos.Archive id cause) opens refused = absurd (repo_apart files secret repo (Repos.Archive id cause) opens tt (refused tt))
open_finished files secret repo (Repos.Item id cause) opens refused = absurd (repo_apart files secret repo (Repos.Item id cause) opens tt (refused tt))
open_finished files secret repo (Repos.Size id) opens refused = absurd (repo_apart files secret repo (Repos.Size id) opens tt (refused tt))
open_finished files secret repo (Repos.KeyFile cause) opens refused = absurd (repo_apart files secret repo (Repos.KeyFile cause) opens tt (refused tt))
open_finished files secret repo (Repos.Other file config) opens refused = absurd (repo_apart files secret repo (Repos.Other file config) opens tt (refused tt))
open_finished files secret repo Repos.NoKey opens refused = absurd (repo_apart files secret repo Repos.NoKey opens tt (refused tt))

-- a check is refused by a device alone, or for want of memory
pub check_finished : (fault : RepoFault) → (IsOfFiles fault → ⊥) → IsFinished (store_status (repo_refusal fault))
check_finished Repos.Device never = tt
check_finished Repos.Memory never = tt
check_finished Repos.NoCommit never = absurd (never tt)
check_finished (Repos.Damaged segment at) never = absurd (never tt)
check_finished (Repos.Config cause) never = absurd (never tt)
check_finished (Repos.Key cause) never = absurd (never tt)
check_finished (Repos.Missing id) never = absurd (never tt)
check_finished (Repos.Blob id cause) never = absurd (never tt)
check_finished (Repos.Manifest cause) never = absurd (never tt)
check_finished (Repos.Archive id cause) never = absurd (never tt)
check_finished (Repos.Item id cause) never = absurd (never tt)
check_finished (Repos.Size id) never = absurd (never tt)
check_finished (Repos.KeyFile cause) never = absurd (never tt)
check_finished (Repos.Other file config) never = absurd (never tt)
check_finished Repos.NoKey never = absurd (never tt)

-- a line of a drill that is done
done_finished : (text : List ℕ) (before after : Written) (status : Status) → SendsLine text Statuses.Done before status after → IsFinished status
done_finished text before after status (inl sent) = subst IsFinished (sym sent.0) tt
done_finished text before after status (inr (inl failed)) = subst IsFinished (sym failed.0) tt
done_finished text before after status (inr (inr memory)) = subst IsFinished (sym memory.0) tt

-- the line of a target that was checked
pub line_finished : (count : ℕ) (carried : Carried) (t : Told) (bad : Option RepoFault) (before after : Written) (status : Status)
    → MatchOption bad (FilesVerify (told_files t) target_secret) (HasBad (told_files t)) → PrintsLine count carried bad before status after
    → (copied : HasCopied count carried t.history) → NoneCollide copied.source_is → AreApartIn count (told_files t) → IsFinished status
line_finished count carried t None before after status checked sends copied apart target = done_finished (done_line count carried) before after status sends
line_finished count carried t (Some fault) before after status checked sends copied apart target =
    let has = copied.archives apart in
    absurd (none_bad count (told_files t) has (target has) copied.opened.0 copied.opened.1.0 copied.opened.1.1 fault checked)

-- ---- over what the target tells

-- a target that isn't opened again
pub opened_finished : (a : Option Told) (secret : Secret) (fault : RepoFault) → secret ≡ target_secret
    → IfSome a (λ t. RefusesRepo (told_files t) secret fault) → IfSome a (λ t. OpensAll (told_files t) → IsFinished (store_status (repo_refusal fault)))
opened_finished None secret fault is refused = tt
opened_finished (Some t) secret fault is refused = λ all.
    open_finished (told_files t) target_secret all.0 fault all.1.0 (λ of_files. subst (λ (k : Secret). RefusesRepo (told_files t) k fault) is refused)

-- or of which no part is read
pub anyway_finished : (a : Option Told) (status : Status) → IsFinished status → IfSome a (λ t. OpensAll (told_files t) → IsFinished status)
anyway_finished None status finished = tt
anyway_finished (Some t) status finished = λ all. finished

-- its files are those that were
kept_files : (failed : Bool) (a d : Option Told) (P : Files → Type 0) → KeptWhere failed (heard a) d → IfSome a (λ t. P (told_files t))
    → IfSome d (λ t. P (told_files t))
kept_files false a d P kept known = told_same a d P kept known
kept_files true None None P kept known = tt
kept_files true None (Some t) P kept known = absurd (let no : ⊥ = cc in no)
kept_files true (Some s) None P kept known = tt
kept_files true (Some s) (Some t) P kept known =
    let same : heard_of t ≡ failed_at t.calls (heard_of s) = cc in
    let files : told_files s ≡ told_files t = ap (λ (h : Heard). files_now h.history) (sym same) in
    subst P files known

-- a target that wasn't checked
pub unread_ends : (count : ℕ) (carried : Carried) (a d : Option Told) (failed : Bool) (status : Status) → KeptWhere failed (heard a) d
    → IfSome a (λ t. OpensAll (told_files t) → IsFinished status) → EndsChecked count carried d status
unread_ends count carried a d failed status kept known = by d (kept_files failed a d (λ files. OpensAll files → IsFinished status) kept known) where
  by : (d : Option Told) → IfSome d (λ t. OpensAll (told_files t) → IsFinished status) → EndsChecked count carried d status
  by None finished = tt
  by (Some t) finished = λ copied apart target. finished copied.opened

-- and one that was, and whose line was printed
pub printed_ends : (count : ℕ) (carried : Carried) (a d : Option Told) (bad : Option RepoFault) (before after : Written) (status : Status)
    → heard d ≡ heard a → IfSome a (λ t. MatchOption bad (FilesVerify (told_files t) target_secret) (HasBad (told_files t)))
    → PrintsLine count carried bad before status after → EndsChecked count carried d status
printed_ends count carried a d bad before after status same checked sends =
    by d (told_same a d (λ f. MatchOption bad (FilesVerify f target_secret) (HasBad f)) same checked) where
      by : (d : Option Told) → IfSome d (λ t. MatchOption bad (FilesVerify (told_files t) target_secret) (HasBad (told_files t)))
          → EndsChecked count carried d status
      by None checked = tt
      by (Some t) checked = λ copied apart target. line_finished count carried t bad before after status checked sends copied apart target
