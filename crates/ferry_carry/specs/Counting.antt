-- The numbers of a transfer: how many archives were copied and how many were there, and what was put for them, each up to the greatest number of its type.
use Rattle.std.specs.Prelude.{◌≡◌, ◌+◌, ◌-◌, ◌^◌, ◌++◌, ℕ, suc, Bool, true, false, if◌then◌else◌, List, [], ◌∷◌, min}
use Rattle.ferry_manifest.specs.Manifest.Text.{ManifestText}
use Rattle.ferry_carry.specs.Listing.{IsThere}
use Rattle.ferry_piece.specs.Puts.{Addition, Content, Stream, put_bytes, put_count}
use Rattle.ferry_carry.specs.declared.options.Carried.{Carried}

abbrev pub nothing_carried : Carried
nothing_carried = record { transferred = 0; present = 0; chunks = 0; bytes = 0; meta = 0 }

-- The numbers of what was put have grown by those of these.
pub record CountsFrom (carried : Carried) (added : List Addition) (carried_now : Carried) : Type 0 where
  pub chunks : carried_now.chunks ≡ min (carried.chunks + put_count Content added) (2 ^ 64 - 1)
  pub bytes : carried_now.bytes ≡ min (carried.bytes + put_bytes Content added) (2 ^ 128 - 1)
  pub meta : carried_now.meta ≡ min (carried.meta + put_count Stream added) (2 ^ 64 - 1)

-- They are those of these.
abbrev pub CountsOf : List Addition → Carried → Type 0
CountsOf added carried = CountsFrom nothing_carried added carried

-- What is told of a name behind these: that its archive was copied where neither the accepted manifest nor these have it, and else that it was there.
abbrev pub TellsNew : ManifestText → List (List ℕ) → List ℕ → Bool → Type 0
TellsNew accepted before name true = IsThere accepted before name → ⊥
TellsNew accepted before name false = IsThere accepted before name

-- Behind others so many of these names are new, and so many are there.
abbrev pub CountsNames : ManifestText → List (List ℕ) → List (List ℕ) → ℕ → ℕ → Type 0
CountsNames accepted before [] copied present = (copied ≡ 0) × (present ≡ 0)
CountsNames accepted before (name ∷ names) copied present = (new : Bool) × (TellsNew accepted before name new × ((more : ℕ) × ((others : ℕ)
    × (CountsNames accepted (before ++ name ∷ []) names more others
    × ((copied ≡ (if new then suc more else more)) × (present ≡ (if new then others else suc others)))))))

-- The numbers have grown by those of these names, and of what was put for them.
pub record CountsMore (accepted : ManifestText) (listed : List (List ℕ)) (added : List Addition) (carried carried_now : Carried) : Type 0 where
  pub copied : ℕ
  pub present : ℕ
  pub names : CountsNames accepted [] listed copied present
  pub transferred_is : carried_now.transferred ≡ min (carried.transferred + copied) (2 ^ 64 - 1)
  pub present_is : carried_now.present ≡ min (carried.present + present) (2 ^ 64 - 1)
  pub put : CountsFrom carried added carried_now

-- They are those of all these names.
abbrev pub IsTotalOf : ManifestText → List (List ℕ) → List Addition → Carried → Type 0
IsTotalOf accepted names added carried = CountsMore accepted names added nothing_carried carried
