-- What was put is committed.
use Rattle.std.proofs.Common.{◌≡◌, ◌≤◌, ℕ, suc, false, OnOk, Option, Result, Ok, Err, IfErr, refl, ◌∙◌, ap, arith}
use Rattle.ferry_disk.proofs.MomentLemmas.{between_both, between_map}
use Rattle.ferry_disk.specs.Act.{History, files_now}
use Rattle.ferry_disk.specs.Device.{Told}
use Rattle.ferry_disk.specs.Moments.{Between}
use Rattle.ferry_repo.specs.Opening.{cached_in, repo_view}
use Rattle.ferry_store.proofs.AddLemmas.{blobs_stay, repo_stays, there_kept}
use Rattle.ferry_store.proofs.LearntLemmas.{learnt_nil}
use Rattle.ferry_store.proofs.LiveLemmas.{keeps_nil}
use Rattle.ferry_store.proofs.StandingLemmas.{holds_later, live_committed, manifest_later}
use Rattle.ferry_store.specs.Adding.{Checkpoints}
use Rattle.ferry_store.specs.Standing.{entries_committed, entries_of}
use Rattle.ferry_store.specs.State.{Did, IsTarget, RefusesCommit, TakesCommit, all_committed}
use Rattle.ferry_store.specs.declared.fault.StoreRefusal.{StoreRefusal}
use Rattle.ferry_store.specs.declared.fault.StoreRefusal.TheVariants.{Repo, Write, Nonce, Committed, TooLarge, Entropy, Memory}
use Rattle.ferry_store.specs.declared.store.Store.{Store}
use Rattle.ferry_write.specs.Room.{after_commit, behind}
use Rattle.ferry_write.specs.Script.{AllDone}
use Rattle.ferry_write.specs.Session.{OnlyAppends}
use Rattle.ferry_write.specs.declared.fault.WriteFault.TheVariants as Writes
use Rattle.ferry_write.specs.declared.session.Session.{Session}

-- ---- steps

-- what holds beside the end of a step that was `Ok`
pub did_beside : {T : Type 0} (E : History → History → Type 0) (Q : T → History → History → Type 0) (F : History → History → Type 0) (a b : Option Told)
    (n m : ℕ) (x : T) → Between a b F → Did E Q a b n m (Ok x) → Did E (λ y h g. Q y h g × F h g) a b n m (Ok x)
did_beside E Q F a b n m x also p = record {
  each = p.each;
  end = between_map a b (λ h g. (AllDone h g × Q x h g) × F h g) (λ h g. AllDone h g × (Q x h g × F h g)) (λ h g e. (e.0.0, (e.0.1, e.1)))
      (between_both a b (λ h g. AllDone h g × Q x h g) F p.end also);
  ends = p.ends;
  cause = p.cause;
}

-- less of the end
pub did_less : {T : Type 0} (E : History → History → Type 0) (Q R : T → History → History → Type 0) (a b : Option Told) (n m : ℕ)
    (r : Result T StoreRefusal) → ((x : T) (h g : History) → Q x h g → R x h g) → Did E Q a b n m r → Did E R a b n m r
did_less E Q R a b n m (Ok x) step p = record {
  each = p.each;
  end = between_map a b (λ h g. AllDone h g × Q x h g) (λ h g. AllDone h g × R x h g) (λ h g e. (e.0, step x h g e.1)) p.end;
  ends = p.ends;
  cause = p.cause;
}
did_less E Q R a b n m (Err f) step p = record { each = p.each; end = tt; ends = p.ends; cause = p.cause }

-- ---- refusals

-- in one of the first segments no numbers are used up
is_target : (session : Session) (refusal : StoreRefusal) → behind session.last ≤ 1 → RefusesCommit session refusal → IsTarget refusal
is_target session (Write Writes.Device) few is = tt
is_target session (Write Writes.Numbers) few is = let no : ⊥ = omega (arith, few, is) in absurd no
is_target session (Write Writes.Memory) few is = absurd is
is_target session Memory few is = tt
is_target session (Repo fault) few is = absurd is
is_target session (Nonce fault) few is = absurd is
is_target session Committed few is = absurd is
is_target session TooLarge few is = absurd is
is_target session Entropy few is = absurd is

pub target_refused : (session : Session) (r : Result (Unit {0}) StoreRefusal) → behind session.last ≤ 1 → IfErr r (RefusesCommit session) → IfErr r IsTarget
target_refused session (Ok x) few is = tt
target_refused session (Err f) few is = is_target session f few is

pub committed_unspent : (session now : Session) (r : Result (Unit {0}) StoreRefusal) → session.spent ≡ false → OnOk r (now ≡ after_commit session)
    → OnOk r (now.spent ≡ false)
committed_unspent session now (Ok x) unspent is = ap (λ (s : Session). s.spent) is ∙ unspent
committed_unspent session now (Err f) unspent is = tt

-- ---- a checkpoint

-- a store with all committed that was put
abbrev pub with_checkpoint : Store → Session → Store
with_checkpoint store session = record store { session = session; pending = 0 }

pub checkpointed : (store : Store) (session : Session) (h g : History) → session ≡ after_commit store.session
    → TakesCommit store.session store.counter session h g → OnlyAppends store.session h g → Checkpoints store (with_checkpoint store session) h g
checkpointed store session h g is takes stays counts fits =
    let u = fits.under_way in
    let kept = stays fits.written.committed fits.written.pending u.fits in
    let after = store.session.after in
    let repo = repo_view store.repo in
    let behind_last : behind session.after ≡ suc (behind store.session.last) = ap (λ (s : Session). behind s.after) is in (
      record {
        written = all_committed fits.written;
        under_way = takes counts fits.written u;
        settings = fits.settings;
        repo = repo_stays after repo (cached_in store.repo) h g fits.below kept fits.repo;
        below = let order = u.fits.order in omega (arith, fits.below, order, behind_last);
        there = λ id apart known. there_kept (files_now h) (files_now g) repo repo id refl (blobs_stay after repo.log h g kept) (fits.there id apart known);
        holds = holds_later (files_now h) (files_now g) repo.log (entries_of fits.written) (entries_of (all_committed fits.written)) fits.repo.log
            (blobs_stay after repo.log h g kept) (λ id apart. live_committed fits.written id) fits.holds;
        manifest = manifest_later repo fits.written fits.keeps fits.manifest;
        keeps = keeps_nil (entries_committed fits.written);
        pending = refl;
        chunks = tt;
        learnt = learnt_nil (all_committed fits.written) repo.log refl;
      },
      refl,
    )
