-- Functions of lists of bytes.
use Rattle.std.specs.Prelude.{ℕ, List, ◌==◌, length, map, take_while, bit_xor}
use Rattle.std.specs.List.{zip}

-- the xor of two lists of bytes, place by place
abbrev pub xor_lists : List ℕ → List ℕ → List ℕ
xor_lists xs ys = map (λ p. bit_xor p.0 p.1) (zip xs ys)

-- how many zero bytes a list begins with
abbrev pub leading_zeros : List ℕ → ℕ
leading_zeros xs = length (take_while (λ byte. byte == 0) xs)
