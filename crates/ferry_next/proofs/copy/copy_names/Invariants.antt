use Rattle.std.proofs.Common.{◌≡◌, ℕ, take, map, Vec, Global}
use Rattle.ferry_next.proofs.copy.copy_names.Given as goal

abbrev pub invariant-loop-name : goal.invariant-loop-name
invariant-loop-name l = map (λ (name : Vec ℕ Global). name.items) l.copies.items ≡ map (λ (name : Vec ℕ Global). name.items) (take l.name-index l.listed)
