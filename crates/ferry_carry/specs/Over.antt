-- What goes on of a flight over what others do to its source and its target meanwhile.
use Rattle.std.specs.Prelude.{◌≡◌, ℕ, false, List, Option, None}
use Rattle.ferry_disk.specs.Act.{History}
use Rattle.ferry_disk.specs.Device.{Told}
use Rattle.ferry_disk.specs.Moments.{Between}
use Rattle.ferry_repo.specs.Opening.{repo_view}
use Rattle.ferry_store.specs.Commit.{accepted_in}
use Rattle.ferry_store.specs.Standing.{entries_of}
use Rattle.ferry_store.specs.Store.{StoreFits}
use Rattle.ferry_store.specs.declared.store.Store.{Store}
use Rattle.ferry_piece.specs.Puts.{Addition, AddsAll, Border}
use Rattle.ferry_carry.specs.Grow.{IsNamedBy, KeepsMost}

-- A store fits in which these were added behind what another had written.
pub record AddsOver (added : List Addition) (store store_now : Store) (before now : History) (fits : StoreFits false store before) : Type 0 where
  pub fits_now : StoreFits false store_now now
  pub at : Border
  pub most : ℕ
  pub adds : AddsAll at (repo_view store.repo).keys most (entries_of fits.written) added (entries_of fits_now.written)

-- The same where the first fits, of a target that tells its acts; one that tells none tells none then.
pub record AddsBetween (added : List Addition) (store store_now : Store) (before now : Option Told) : Type 0 where
  pub none : before ≡ None → now ≡ None
  pub adds : Between before now (λ h g. (fits : StoreFits false store h) → AddsOver added store store_now h g fits)

-- What others did to a target: these were added; each archive is kept, with the secrets and the settings, and of archives that are accepted only those were
-- not before that have these names.
pub record OthersDid (names : List (List ℕ)) (added : List Addition) (store store_now : Store) (before now : Option Told) : Type 0 where
  pub adds : AddsBetween added store store_now before now
  pub kept : KeepsMost store store_now
  pub only : IsNamedBy (accepted_in store) names (accepted_in store_now)
