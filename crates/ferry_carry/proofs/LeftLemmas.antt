-- Lemmas on `IsLeft` and `UsableAt` of specs/Refusals.antt: what a refusal leaves that isn't the target's.
use Rattle.std.proofs.Common.{◌≡◌, ◌≤◌, ℕ, true, false, Option, Result, Ok, Err, IfErr, IfSome, ◌∙◌, ap, subst, sym}
use Rattle.ferry_disk.specs.Device.{Told}
use Rattle.ferry_manifest.specs.Manifest.Writing.{IsPackable}
use Rattle.ferry_piece.proofs.AddingLemmas.{read_unspent}
use Rattle.ferry_piece.proofs.GatherLemmas.{rest_here, rest_then}
use Rattle.ferry_piece.specs.Gather.{KeepsRest}
use Rattle.ferry_piece.specs.Stops.{is_target}
use Rattle.ferry_piece.specs.declared.fault.CarryFault.{CarryFault}
use Rattle.ferry_store.specs.Commit.{accepted_in, ReadsStore}
use Rattle.ferry_store.specs.Store.{IsUnspent, StoreFits}
use Rattle.ferry_store.specs.declared.store.Store.{Store}
use Rattle.ferry_carry.proofs.FlightLemmas.{read_rest, rest_accepts, rest_packable}
use Rattle.ferry_carry.proofs.GrowsLemmas.{most_from, most_then}
use Rattle.ferry_carry.specs.Grow.{AcceptsMore, KeepsMost}
use Rattle.ferry_carry.specs.Refusals.{IsLeft, Leaves, UsableAt}

-- ---- what is left

-- where nothing was done
pub left_here : (most : ℕ) (store : Store) (now : Option Told) → IfSome now (λ t. StoreFits false store t.history) → IsUnspent store → store.pending ≤ most
    → IsLeft most store now store
left_here most store now fits unspent pending = record { fits = fits; unspent = unspent; pending = pending; rest = rest_here store }

-- where the store was only read
pub left_read : (most : ℕ) (store : Store) (now : Option Told) (store_now : Store) → ReadsStore store store_now
    → IfSome now (λ t. StoreFits false store_now t.history) → IsUnspent store → store.pending ≤ most → IsLeft most store now store_now
left_read most store now store_now read fits unspent pending = record {
  fits = fits;
  unspent = read_unspent store store_now read unspent;
  pending = subst (λ (n : ℕ). n ≤ most) (sym (ap (λ (s : Store). s.pending) read.rest)) pending;
  rest = read_rest store store_now read;
}

-- behind what kept the rest of a store, by the same number
pub left_then : (most limit : ℕ) (store middle : Store) (now : Option Told) (store_now : Store) (fault : CarryFault) → limit ≡ most → KeepsRest store middle
    → Leaves limit middle now store_now fault → Leaves most store now store_now fault
left_then most limit store middle now store_now fault same rest leaves not_target = let left = leaves not_target in record {
  fits = left.fits;
  unspent = left.unspent;
  pending = subst (λ (n : ℕ). store_now.pending ≤ n) same left.pending;
  rest = rest_then store middle store_now rest left.rest;
}

-- the same of a body
pub lefts_then : {T : Type 0} (most limit : ℕ) (store middle : Store) (now : Option Told) (store_now : Store) (result : Result T CarryFault) → limit ≡ most
    → KeepsRest store middle → IfErr result (Leaves limit middle now store_now) → IfErr result (Leaves most store now store_now)
lefts_then {T} most limit store middle now store_now (Ok x) same rest leaves = tt
lefts_then {T} most limit store middle now store_now (Err fault) same rest leaves =
    left_then most limit store middle now store_now fault same rest leaves

-- a refusal of the target leaves none
pub target_leaves : (most : ℕ) (store : Store) (now : Option Told) (store_now : Store) (fault : CarryFault) → is_target fault ≡ true
    → Leaves most store now store_now fault
target_leaves most store now store_now fault target not_target = absurd (let no : true ≡ false = sym target ∙ not_target in let never : ⊥ = cc in never)

-- the same of a body
pub targets_leave : {T : Type 0} (most : ℕ) (store : Store) (now : Option Told) (store_now : Store) (result : Result T CarryFault)
    → IfErr result (λ fault. is_target fault ≡ true) → IfErr result (Leaves most store now store_now)
targets_leave {T} most store now store_now (Ok x) target = tt
targets_leave {T} most store now store_now (Err fault) target = target_leaves most store now store_now fault target

-- ---- what can be used on

-- it is so by what was accepted before
pub left_usable : (most : ℕ) (store : Store) (now : Option Told) (store_now : Store) → IsLeft most store now store_now → IsPackable (accepted_in store)
    → AcceptsMore store → UsableAt most store now store_now
left_usable most store now store_now left packable accepts = record {
  fits = left.fits;
  most_kept = most_from store store_now left.rest;
  unspent = left.unspent;
  pending = left.pending;
  packable = rest_packable store store_now left.rest packable;
  accepts = rest_accepts store store_now left.rest accepts;
}

-- and by a store before that keeps each archive
pub usable_before : (most : ℕ) (store middle : Store) (now : Option Told) (store_now : Store) → KeepsMost store middle → UsableAt most middle now store_now
    → UsableAt most store now store_now
usable_before most store middle now store_now kept at = record {
  fits = at.fits;
  most_kept = most_then store middle store_now kept at.most_kept;
  unspent = at.unspent;
  pending = at.pending;
  packable = at.packable;
  accepts = at.accepts;
}
