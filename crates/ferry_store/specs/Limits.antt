-- When a limit refuses what is to be put or committed: exactly where no counter blocks are left for it, or else a segment can't begin for it; a
-- manifest also where it is too large, before both.
use Rattle.std.specs.Prelude.{◌≡◌, ◌⊎◌, ◌+◌, ◌<◌, ◌≤◌, ℕ, false, Option, Result, IsErrOf, IsTrue, MatchResult}
use Rattle.ferry_base.specs.Limits.{content_limit}
use Rattle.ferry_blob.specs.Blob.{blocks}
use Rattle.ferry_disk.specs.Device.{Told}
use Rattle.ferry_disk.specs.Moments.{Between}
use Rattle.ferry_nonce.specs.Counter.{IsExhausted}
use Rattle.ferry_nonce.specs.declared.counter.Counter.{Counter}
use Rattle.ferry_nonce.specs.declared.fault.NonceFault.TheVariants as Nonces
use Rattle.ferry_repo.specs.declared.fault.RepoFault.TheVariants as Repos
use Rattle.ferry_store.specs.Fault.{spends}
use Rattle.ferry_store.specs.declared.fault.StoreRefusal.{StoreRefusal}
use Rattle.ferry_store.specs.declared.fault.StoreRefusal.TheVariants.{Repo, Write, Nonce, TooLarge, Entropy, Memory}
use Rattle.ferry_write.specs.Room.{AreUsedUp, after_entry, behind, must_begin}
use Rattle.ferry_write.specs.declared.fault.WriteFault.TheVariants as Writes
use Rattle.ferry_write.specs.declared.session.Session.{Session}

-- A device failed, or memory was refused.
abbrev pub IsFailure : StoreRefusal → Type 0
IsFailure (Repo Repos.Device) = Unit {0}
IsFailure (Write Writes.Device) = Unit {0}
IsFailure (Nonce Nonces.Device) = Unit {0}
IsFailure Entropy = Unit {0}
IsFailure Memory = Unit {0}
IsFailure refusal = ⊥

-- A refusal comes only where this holds, and always where it holds, unless a device failed or memory was refused.
pub record ComesWhere {T : Type 0} (result : Result T StoreRefusal) (refusal : StoreRefusal) (P : Type 0) : Type 0 where
  pub only : IsErrOf result refusal → P
  pub always : P → MatchResult result (λ _. ⊥) (λ r. (r ≡ refusal) ⊎ IsFailure r)

-- A segment is to begin for an entry of this size, and no number is left for it.
abbrev pub LacksSegment : Session → ℕ → Type 0
LacksSegment session more = IsTrue (must_begin session.last session.size session.limit more) × AreUsedUp session.last

-- The limits of an entry of this size that is put with so many counter blocks. The blocks are looked for before the segment.
pub record LimitsPut {T : Type 0} (result : Result T StoreRefusal) (session : Session) (counter : Counter) (more count : ℕ) : Type 0 where
  pub exhausted : ComesWhere result (Nonce Nonces.Exhausted) (IsExhausted counter count)
  pub numbers : ComesWhere result (Write Writes.Numbers) ((IsExhausted counter count → ⊥) × LacksSegment session more)

-- Those of a manifest of this size that is put and committed: the commit takes the segment behind the manifest's.
pub record LimitsManifest {T : Type 0} (result : Result T StoreRefusal) (session : Session) (counter : Counter) (size : ℕ) : Type 0 where
  pub large : ComesWhere result TooLarge (content_limit < size)
  pub exhausted : ComesWhere result (Nonce Nonces.Exhausted) ((size ≤ content_limit) × IsExhausted counter (blocks size))
  pub numbers : ComesWhere result (Write Writes.Numbers)
      ((size ≤ content_limit) × ((IsExhausted counter (blocks size) → ⊥) × AreUsedUp (after_entry session (84 + size)).last))

-- So many segments were begun at most behind the last one; and where the numbers of segments are used up, the last one now has the greatest.
pub record BeginsFew (count : ℕ) (last last_now : Option ℕ) (UsedUp : Type 0) : Type 0 where
  pub few : behind last_now ≤ behind last + count
  pub used : UsedUp → AreUsedUp last_now

-- A refusal that doesn't spend a store left the session and the counter as they were, and made no act.
abbrev pub LeavesBoth : Session → Counter → Session → Counter → Option Told → Option Told → StoreRefusal → Type 0
LeavesBoth session counter session_now counter_now before now refusal = spends refusal ≡ false
    → (session_now ≡ session) × ((counter_now ≡ counter) × Between before now (λ h g. g ≡ h))
