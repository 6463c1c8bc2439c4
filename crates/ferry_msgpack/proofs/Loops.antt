-- Reading values and pairs one after the other, as a loop does.
use Rattle.std.proofs.Common.{◌≡◌, ℕ, suc, ◌-◌, ◌+◌, ◌≤◌, ◌<◌, true, false, List, Result, Ok, Err, refl, sym, ap, ◌∙◌, arith}
use Rattle.ferry_msgpack.specs.declared.fault.PackFault.{PackFault}
use Rattle.ferry_msgpack.specs.declared.fault.PackFault.TheVariants.{Short, Kind, Key, Repeat, Deep, Memory}
use Rattle.ferry_msgpack.specs.Tree.{Tree, Items, no_items, item, Pairs, has_key, put}
use Rattle.ferry_msgpack.specs.Reading.{◌>>=◌, Fails, Reader, key_at, items_at, pairs_at}

-- a fault of one reading that is a fault of another
pub Fails-through : {A B : Type 0} (e : PackFault) (r : Result A PackFault) (s : Result B PackFault) → ((f : PackFault) → r ≡ Err f → s ≡ Err f) → Fails e r
    → Fails e s
Fails-through Memory r s through failed = tt
Fails-through Short r s through failed = through Short failed
Fails-through Kind r s through failed = through Kind failed
Fails-through Key r s through failed = through Key failed
Fails-through Repeat r s through failed = through Repeat failed
Fails-through Deep r s through failed = through Deep failed

-- ---- values

-- the values of both
abbrev pub append_items : Items → Items → Items
append_items no_items us = us
append_items (item t ts) us = item t (append_items ts us)

append_items-none : (ts : Items) → append_items ts no_items ≡ ts
append_items-none no_items = refl
append_items-none (item t ts) = ap (item t) (append_items-none ts)

append_items-assoc : (ts : Items) (u : Tree) (us : Items) → append_items ts (item u us) ≡ append_items (append_items ts (item u no_items)) us
append_items-assoc no_items u us = refl
append_items-assoc (item t ts) u us = ap (item t) (append_items-assoc ts u us)

-- what was read before, and what is still read
abbrev pub with_front : Items → Result (Items × List ℕ) PackFault → Result (Items × List ℕ) PackFault
with_front front read = read >>= λ x. Ok (append_items front x.0, x.1)

regroup : (front : Items) (t : Tree) (read : Result (Items × List ℕ) PackFault)
    → with_front front (read >>= λ x. Ok (item t x.0, x.1)) ≡ with_front (append_items front (item t no_items)) read
regroup front t (Ok x) = ap (λ (ts : Items). Ok (ts, x.1)) (append_items-assoc front t x.0)
regroup front t (Err f) = refl

module _ (read : Reader) (front : Items) (count i : ℕ) (bytes : List ℕ) (total : Result (Items × List ℕ) PackFault)
    (so_far : with_front front (items_at read (count - i) bytes) ≡ total) where
  pub items_go_on : (t : Tree) (after : List ℕ) → i < count → read bytes ≡ Ok (t, after)
      → with_front (append_items front (item t no_items)) (items_at read (count - (i + 1)) after) ≡ total
  unfolding items_at
  items_go_on t after lt h =
      let k : count - i ≡ suc (count - (i + 1)) = omega arith in
      let one : with_front front (items_at read (count - i) bytes)
      ≡ with_front (append_items front (item t no_items)) (items_at read (count - (i + 1)) after) = rw (k, h)
      (regroup front t (items_at read (count - (i + 1)) after)) in
      sym one ∙ so_far

  pub items_fail : (e : PackFault) → i < count → Fails e (read bytes) → Fails e total
  unfolding items_at
  items_fail e lt = Fails-through e (read bytes) total (λ f h.
      let k : count - i ≡ suc (count - (i + 1)) = omega arith in
      let one : with_front front (items_at read (count - i) bytes) ≡ Err f = rw (k, h) refl in
      sym so_far ∙ one)

  pub items_done : count ≤ i → total ≡ Ok (front, bytes)
  unfolding items_at
  items_done le =
      let k : count - i ≡ 0 = omega arith in
      let one : with_front front (items_at read (count - i) bytes) ≡ Ok (front, bytes) = rw k (ap (λ (ts : Items). Ok (ts, bytes)) (append_items-none front)) in
      sym so_far ∙ one

-- ---- pairs

module _ (read : Reader) (before : Pairs) (count i : ℕ) (bytes : List ℕ) (total : Result (Pairs × List ℕ) PackFault)
    (so_far : pairs_at read (count - i) before bytes ≡ total) where
  pub pairs_go_on : (key after : List ℕ) (t : Tree) (rest : List ℕ) → i < count → key_at bytes ≡ Ok (key, after) → has_key key before ≡ false
      → read after ≡ Ok (t, rest)
      → pairs_at read (count - (i + 1)) (put key t before) rest ≡ total
  unfolding pairs_at
  pairs_go_on key after t rest lt named new h =
      let k : count - i ≡ suc (count - (i + 1)) = omega arith in
      let one : pairs_at read (count - i) before bytes ≡ pairs_at read (count - (i + 1)) (put key t before) rest = rw (k, named, new, h) refl in
      sym one ∙ so_far

  pub pairs_repeat : (key after : List ℕ) → i < count → key_at bytes ≡ Ok (key, after) → has_key key before ≡ true → total ≡ Err Repeat
  unfolding pairs_at
  pairs_repeat key after lt named again =
      let k : count - i ≡ suc (count - (i + 1)) = omega arith in
      let one : pairs_at read (count - i) before bytes ≡ Err Repeat = rw (k, named, again) refl in
      sym so_far ∙ one

  pub key_fails : (e : PackFault) → i < count → Fails e (key_at bytes) → Fails e total
  unfolding pairs_at
  key_fails e lt = Fails-through e (key_at bytes) total (λ f h.
      let k : count - i ≡ suc (count - (i + 1)) = omega arith in
      let one : pairs_at read (count - i) before bytes ≡ Err f = rw (k, h) refl in
      sym so_far ∙ one)

  pub pair_fails : (e : PackFault) (key after : List ℕ) → i < count → key_at bytes ≡ Ok (key, after) → has_key key before ≡ false → Fails e (read after)
      → Fails e total
  unfolding pairs_at
  pair_fails e key after lt named new = Fails-through e (read after) total (λ f h.
      let k : count - i ≡ suc (count - (i + 1)) = omega arith in
      let one : pairs_at read (count - i) before bytes ≡ Err f = rw (k, named, new, h) refl in
      sym so_far ∙ one)

  pub pairs_done : count ≤ i → total ≡ Ok (before, bytes)
  unfolding pairs_at
  pairs_done le =
      let k : count - i ≡ 0 = omega arith in
      let one : pairs_at read (count - i) before bytes ≡ Ok (before, bytes) = rw k refl in
      sym so_far ∙ one
