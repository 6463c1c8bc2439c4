-- Lemmas on specs/Files.antt and specs/Memory.antt: a map of the program and the finite map of the contracts.
use Rattle.std.proofs.Common.{◌≡◌, ℕ, nat_eq, Bool, true, false, cond, List, [], ◌∷◌, ◌++◌, map, refl, sym, ◌∙◌, ap, subst}
use Rattle.std.proofs.Common.{Option, Some, None, option_map, unwrap_or, is_some, Result, Ok, Err, is_ok, OnOk, OnErr, Bor}
use Rattle.std.specs.Ordering.{nat_cmp, eq_by_cmp, is_eq}
use Rattle.std.specs.declared.cmp.Ordering.{Ordering}
use Rattle.std.specs.declared.cmp.Ordering.TheVariants.{Less, Equal, Greater}
use Rattle.std.specs.Cmp.{nat_cmp_total, eq_by_cmp_equiv, unsigned_ties}
use Rattle.std.specs.FinMap.{FinMap, entries, from_entries, insert, remove, get, get-from_entries, get-insert, get-remove, entries-insert}
use Rattle.std.specs.FinMap.{same_map, len-entries, len-empty}
use Rattle.std.specs.FinMap.{empty, nat_cmp-IsAntisymmetric}
use Rattle.std.specs.FinMap.Entries.{find, put, by_order}
use Rattle.std.proofs.lemmas.List.{nil_from_length}
use Rattle.std.specs.List.Sorted.{IsStrictlySortedBy}
use Rattle.std.specs.List.{AllByRecursion, AllZip}
use Rattle.std.specs.Map.{lookup}
use Rattle.std.specs.Option.{option_copied}
use Rattle.std.specs.BTreeMap.{BTreeMap, is_at, get_by, WritesThrough}
use Rattle.std.proofs.lemmas.Map.Keys.{sorted_head, sorted_tail}

-- ---- from_entries

put_first : {X : Type 0} (k : ℕ) (v : X) (es : List (ℕ × X)) → AllByRecursion (λ y. nat_cmp k y ≡ Less) (map (λ e. e.0) es) → put nat_cmp k v es ≡ (k, v) ∷ es
put_first k v [] p = refl
put_first k v (e ∷ es) p = ap (λ o. by_order o ((k, v) ∷ e ∷ es) ((e.0, v) ∷ es) (e ∷ put nat_cmp k v es)) p.0

-- entries in order are the entries of their map
pub entries-from_entries : {X : Type 0} (es : List (ℕ × X)) → IsStrictlySortedBy nat_cmp (map (λ e. e.0) es) → entries (from_entries {R = nat_cmp} es) ≡ es
entries-from_entries {X} [] s = nil_from_length _ (sym (len-entries (empty {X = X} {R = nat_cmp})) ∙ len-empty nat_cmp X)
entries-from_entries (e ∷ es) s =
    entries-insert nat_cmp_total (from_entries es) e.0 e.1
    ∙ (ap (put nat_cmp e.0 e.1) (entries-from_entries es (sorted_tail nat_cmp e.0 (map (λ e. e.0) es) s))
    ∙ put_first e.0 e.1 es (sorted_head nat_cmp e.0 (map (λ e. e.0) es) s))

-- ---- get

module _ {V X : Type 0} (f : V → X) where
  abbrev pub seen : List (ℕ × V) → List (ℕ × X)
  seen es = map (λ e. (e.0, f e.1)) es

  mapped : (b : Bool) (v : V) (o : Option V) → cond b (Some (f v)) (option_map f o) ≡ option_map f (cond b (Some v) o)
  mapped true v o = refl
  mapped false v o = refl

  find-seen : (es : List (ℕ × V)) (q : ℕ) → find nat_cmp q (seen es) ≡ option_map f (lookup (is_at (nat_cmp q)) es)
  find-seen [] q = refl
  find-seen (e ∷ es) q = ap (cond (is_at (nat_cmp q) e.0) (Some (f e.1))) (find-seen es q) ∙ mapped (is_at (nat_cmp q) e.0) e.1 (lookup (is_at (nat_cmp q)) es)

  -- what the finite map has at a key
  pub get-seen : (es : List (ℕ × V)) (q : ℕ) → get (from_entries {R = nat_cmp} (seen es)) q ≡ option_map f (lookup (is_at (nat_cmp q)) es)
  get-seen es q = get-from_entries nat_cmp_total (seen es) q ∙ find-seen es q

  -- entries that differ at one key make finite maps that differ there
  pub insert-seen : (es fs : List (ℕ × V)) (k : ℕ) (v : V)
      → ((q : ℕ) → lookup (is_at (nat_cmp q)) fs ≡ cond (is_at (nat_cmp k) q) (Some v) (lookup (is_at (nat_cmp q)) es))
      → from_entries {R = nat_cmp} (seen fs) ≡ insert (from_entries (seen es)) k (f v)
  insert-seen es fs k v h = same_map nat_cmp_total nat_cmp-IsAntisymmetric _ _ (λ q.
      get-seen fs q ∙ (ap (option_map f) (h q) ∙ (sym (mapped (is_at (nat_cmp k) q) v (lookup (is_at (nat_cmp q)) es))
      ∙ (ap (λ b. cond b (Some (f v)) (option_map f (lookup (is_at (nat_cmp q)) es))) ((eq_by_cmp_equiv nat_cmp_total).symm k q)
      ∙ sym (get-insert nat_cmp_total (from_entries (seen es)) k (f v) q ∙ ap (cond (is_at (nat_cmp q) k) (Some (f v))) (get-seen es q))))))

  keys-seen : (es : List (ℕ × V)) → map (λ e. e.0) (seen es) ≡ map (λ e. e.0) es
  keys-seen [] = refl
  keys-seen (e ∷ es) = ap (λ k. e.0 ∷ k) (keys-seen es)

  -- the keys of the finite map are those of entries in order
  pub numbers-seen : (es : List (ℕ × V)) → IsStrictlySortedBy nat_cmp (map (λ e. e.0) es)
      → map (λ e. e.0) (entries (from_entries {R = nat_cmp} (seen es))) ≡ map (λ e. e.0) es
  numbers-seen es s = ap (map (λ e. e.0)) (entries-from_entries (seen es) (subst (IsStrictlySortedBy nat_cmp) (sym (keys-seen es)) s)) ∙ keys-seen es

  -- entries of which one was taken out make a finite map without it
  mapped_none : (b : Bool) (o : Option V) → cond b None (option_map f o) ≡ option_map f (cond b None o)
  mapped_none true o = refl
  mapped_none false o = refl

  pub remove-seen : (es fs : List (ℕ × V)) (k : ℕ) → ((q : ℕ) → lookup (is_at (nat_cmp q)) fs ≡ cond (is_at (nat_cmp k) q) None (lookup (is_at (nat_cmp q)) es))
      → from_entries {R = nat_cmp} (seen fs) ≡ remove (from_entries (seen es)) k
  remove-seen es fs k h = same_map nat_cmp_total nat_cmp-IsAntisymmetric _ _ (λ q.
      get-seen fs q ∙ (ap (option_map f) (h q) ∙ (sym (mapped_none (is_at (nat_cmp k) q) (lookup (is_at (nat_cmp q)) es))
      ∙ (ap (λ b. cond b None (option_map f (lookup (is_at (nat_cmp q)) es))) ((eq_by_cmp_equiv nat_cmp_total).symm k q)
      ∙ sym (get-remove nat_cmp_total (from_entries (seen es)) k q ∙ ap (cond (is_at (nat_cmp q) k) None) (get-seen es q))))))

  -- clones of entries are seen as the entries are
  pub clone-seen : (C : ℕ → ℕ → Type 0) (D : V → V → Type 0) → ((a b : ℕ) → C a b → b ≡ a) → ((v w : V) → D v w → f w ≡ f v)
      → (es fs : List (ℕ × V)) → AllZip (λ p q. C p.0 q.0 × D p.1 q.1) es fs → seen fs ≡ seen es
  clone-seen C D c d [] [] z = refl
  clone-seen C D c d [] (e ∷ fs) z = absurd z
  clone-seen C D c d (e ∷ es) [] z = absurd z
  clone-seen C D c d (e ∷ es) (g ∷ fs) z =
      let key : g.0 ≡ e.0 = c e.0 g.0 z.0.0 in
      let value : f g.1 ≡ f e.1 = d e.1 g.1 z.0.1 in
      let rest : seen fs ≡ seen es = clone-seen C D c d es fs z.1 in cc

-- lists of numbers whose clones are equal
pub zip_same : (xs ys : List ℕ) → AllZip (λ x y. y ≡ x) xs ys → ys ≡ xs
zip_same [] [] z = refl
zip_same [] (y ∷ ys) z = absurd z
zip_same (x ∷ xs) [] z = absurd z
zip_same (x ∷ xs) (y ∷ ys) z = let head : y ≡ x = z.0 in let rest : ys ≡ xs = zip_same xs ys z.1 in cc

-- a value put where it is changes nothing
is_equal : (o : Ordering) → is_eq o ≡ true → o ≡ Equal
is_equal Less e = absurd (let no : ⊥ = cc in no)
is_equal Equal e = refl
is_equal Greater e = absurd (let no : ⊥ = cc in no)

pub same_number : (n k : ℕ) → nat_eq n k ≡ true → n ≡ k
same_number n k e = nat_cmp-IsAntisymmetric n k (is_equal (nat_cmp n k) (sym (unsigned_ties n k) ∙ e))

same_key : (b : Bool) (k q : ℕ) → eq_by_cmp nat_cmp q k ≡ b → cond b k q ≡ q
same_key true k q e = sym (nat_cmp-IsAntisymmetric q k (is_equal (nat_cmp q k) e))
same_key false k q e = refl

put_same : {X : Type 0} (m : FinMap nat_cmp X) (k q : ℕ) (v : X) (b : Bool) → eq_by_cmp nat_cmp q k ≡ b → get m k ≡ Some v
    → cond b (Some v) (get m q) ≡ get m q
put_same m k q v true e h = sym h ∙ ap (get m) (same_key true k q e)
put_same m k q v false e h = refl

pub insert_same : {X : Type 0} (m : FinMap nat_cmp X) (k : ℕ) (v : X) → get m k ≡ Some v → insert m k v ≡ m
insert_same m k v h = same_map nat_cmp_total nat_cmp-IsAntisymmetric _ _ (λ q. get-insert nat_cmp_total m k v q ∙ put_same m k q v _ refl h)

-- ---- what is written through a loan of a value

module _ {V : Type 0} (f : V → List ℕ) (m n : BTreeMap ℕ V) (k : ℕ) (v w : V) (there : Some v ≡ get_by (nat_cmp k) m)
    (writes : WritesThrough nat_cmp (nat_cmp k) m w n) where
  abbrev old_map : FinMap nat_cmp (List ℕ)
  old_map = from_entries (seen f m.entries)

  loaned : from_entries {R = nat_cmp} (seen f n.entries) ≡ insert old_map k (f w)
  loaned = insert-seen f m.entries n.entries k w (writes.3 (sym (ap is_some there))).0

  found : get old_map k ≡ Some (f v)
  found = get-seen f m.entries k ∙ ap (option_map f) (sym there)

  -- bytes behind those that stood there
  pub extended-seen : (bytes : List ℕ) → f w ≡ f v ++ bytes
      → from_entries {R = nat_cmp} (seen f n.entries) ≡ insert old_map k (unwrap_or (get old_map k) [] ++ bytes)
  extended-seen bytes e = loaned ∙ ap (insert old_map k) (e ∙ ap (λ o. unwrap_or o [] ++ bytes) (sym found))

  -- the bytes that stood there
  pub unchanged-seen : f w ≡ f v → from_entries {R = nat_cmp} (seen f n.entries) ≡ old_map
  unchanged-seen e = loaned ∙ insert_same old_map k (f w) (found ∙ ap Some (sym e))

-- what holds where a call answered `Ok`, and where it answered an error
pub on_ok : {T E : Type 0} (r : Result T E) (P : Type 0) → (is_ok r ≡ true → P) → OnOk r P
on_ok (Ok x) P h = h refl
on_ok (Err e) P h = tt

pub on_err : {T E : Type 0} (r : Result T E) (P : Type 0) → (is_ok r ≡ false → P) → OnErr r P
on_err (Ok x) P h = tt
on_err (Err e) P h = h refl

-- what is pointed to, mapped
pub copied_map : {V X : Type 0} (f : V → X) (o : Option (Bor V)) → option_map (λ v. f v.now) o ≡ option_map f (option_copied o)
copied_map f None = refl
copied_map f (Some v) = refl
