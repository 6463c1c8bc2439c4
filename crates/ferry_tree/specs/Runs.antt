-- Blocks of a content that follow each other and are of one kind, zeros alone or not.
use Rattle.std.specs.Prelude.{◌≡◌, ◌⊎◌, ℕ, ◌-◌, ◌*◌, ◌<◌, ◌≤◌, Bool, true, false, List, All, length, take, drop}
use Rattle.ferry_tree.specs.Growth.{zero_bytes}

-- Each block of these bytes has zeros alone, or none of them has.
abbrev pub IsKind : Bool → List ℕ → Type 0
IsKind true bytes = All (λ byte. byte ≡ 0) bytes × (zero_bytes bytes ≡ length bytes)
IsKind false bytes = zero_bytes bytes ≡ 0

-- From one place of a content to another there are whole blocks of one kind, of which the last one of the content may be shorter.
pub record IsRun (is_hole : Bool) (content : List ℕ) (from end : ℕ) : Type 0 where
  pub some : from < end
  pub within : end ≤ length content
  pub blocks : ℕ
  pub size : (end - from ≡ blocks * 4096) ⊎ (end ≡ length content)
  pub kind : IsKind is_hole (take (end - from) (drop from content))
