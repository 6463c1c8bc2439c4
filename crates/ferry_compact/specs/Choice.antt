-- Which segments are compacted: those of which at least a part of so many hundredths is not in use.
use Rattle.std.specs.Prelude.{ℕ, ◌-◌, ◌*◌, nat_eq, nat_le, Bool, true, false, List, [], ◌∷◌, map, refl, ◌≡◌}
use Rattle.std.specs.List.{filter}
use Rattle.ferry_log.specs.declared.place.Extent.{Extent}

-- whether so many hundredths of a segment's bytes, or more, belong to no live PUT
abbrev pub is_chosen : ℕ → Extent → Bool
is_chosen threshold extent = nat_le (threshold * extent.size) ((extent.size - extent.live) * 100)

-- the numbers of the segments that are chosen, increasing as they are listed
abbrev pub chosen_in : ℕ → List Extent → List ℕ
chosen_in threshold extents = map (λ extent. extent.segment) (filter (is_chosen threshold) extents)

-- whether there is nothing to be gained: no segment is chosen, or that of the last commit alone
abbrev pub is_idle : ℕ → List ℕ → Bool
is_idle transaction [] = true
is_idle transaction (n ∷ []) = nat_eq n transaction
is_idle transaction (n ∷ (other ∷ more)) = false

-- Examples: of 100 bytes 89 are live, 90 are live, none is; at ten hundredths the first and the last are chosen, at none each is.
pub ten_hundredths : chosen_in 10 (record { segment = 0; size = 100; live = 89 } ∷ (record { segment = 2; size = 100; live = 91 }
    ∷ (record { segment = 5; size = 17; live = 0 } ∷ []))) ≡ 0 ∷ (5 ∷ [])
ten_hundredths = refl

pub none_spared : chosen_in 0 (record { segment = 0; size = 100; live = 92 } ∷ []) ≡ 0 ∷ []
none_spared = refl
