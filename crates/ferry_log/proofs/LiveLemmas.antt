-- How the places of the live keys in a map of the program go on with the entries of a log.
use Rattle.std.proofs.Common.{◌≡◌, ℕ, ◌+◌, ◌-◌, ◌≤◌, Bool, true, false, cond, List, [], ◌∷◌, ◌++◌, length, Option, Some, None}
use Rattle.std.proofs.Common.{eqb, refl, sym, ◌∙◌, ap, arith}
use Rattle.std.proofs.lemmas.List.{append_assoc, append-nil, length-append}
use Rattle.std.proofs.lemmas.List.Sums.{sum_by-append, sum_by-cons}
use Rattle.std.specs.Ordering.{eq_by_cmp, match_ordering}
use Rattle.std.specs.declared.cmp.Ordering.{Ordering}
use Rattle.std.specs.declared.cmp.Ordering.TheVariants.{Less, Equal, Greater}
use Rattle.std.specs.BTreeMap.{is_at, insert_entry}
use Rattle.std.specs.Cmp.{eq_by_cmp_equiv}
use Rattle.std.specs.Cmp.Lexicographic.{nat_list_cmp_total}
use Rattle.std.specs.FinMap.{from_entries, insert, same_map, get-from_entries, get-insert, nat_cmp-IsAntisymmetric, slice_cmp-IsAntisymmetric}
use Rattle.std.specs.FinMap.Entries.{find}
use Rattle.std.specs.Map.{lookup, remove_entry}
use Rattle.ferry_segment.specs.Entry.{LogEntry, PutEntry, DeleteEntry, CommitEntry, size_of, Fits}
use Rattle.ferry_segment.specs.Head.{head_of}
use Rattle.ferry_segment.specs.declared.head.Head.{Head}
use Rattle.ferry_log.specs.declared.place.Place.{Place}
use Rattle.ferry_log.specs.Log.{Located}
use Rattle.ferry_log.specs.Live.{key_cmp, live_place}
use Rattle.ferry_log.specs.State.{size_in}
use Rattle.ferry_log.proofs.PlacesLemmas.{live_place_more}
use Rattle.ferry_log.specs.Opening.{Pairs, sum_in, entries_in, entry_at, TakesEntries}

-- ---- Pairs

-- the first pair with a key, by the words of maps in memory
pub find-lookup : (key : List ℕ) (es : Pairs) → find key_cmp key es ≡ lookup (is_at (key_cmp key)) es
find-lookup key [] = refl
find-lookup key (e ∷ es) = ap (cond (eq_by_cmp key_cmp key e.0) (Some e.1)) (find-lookup key es)

keys_turned : (a b : List ℕ) → eq_by_cmp key_cmp a b ≡ eq_by_cmp key_cmp b a
keys_turned a b = (eq_by_cmp_equiv nat_list_cmp_total).symm a b

-- what a map has after a change at one key
changed_at : (old new : Pairs) (key : List ℕ) (place : Option Place)
    → ((q : List ℕ) → lookup (is_at (key_cmp q)) new ≡ cond (is_at (key_cmp key) q) place (lookup (is_at (key_cmp q)) old))
    → (q : List ℕ) → find key_cmp q new ≡ cond (eq_by_cmp key_cmp q key) place (find key_cmp q old)
changed_at old new key place h q =
    find-lookup q new
    ∙ (h q
    ∙ (ap (λ b. cond b place (lookup (is_at (key_cmp q)) old)) (keys_turned key q) ∙ ap (cond (eq_by_cmp key_cmp q key) place) (sym (find-lookup q old))))

-- the finite map of a map's entries after a key was inserted
pub inserted_map : (old new : Pairs) (key : List ℕ) (place : Place)
    → ((q : List ℕ) → lookup (is_at (key_cmp q)) new ≡ cond (is_at (key_cmp key) q) (Some place) (lookup (is_at (key_cmp q)) old))
    → from_entries {R = key_cmp} new ≡ insert (from_entries {R = key_cmp} old) key place
inserted_map old new key place h =
    same_map nat_list_cmp_total (slice_cmp-IsAntisymmetric nat_cmp-IsAntisymmetric) (from_entries new) (insert (from_entries old) key place)
    (λ q. get-from_entries nat_list_cmp_total new q
    ∙ (changed_at old new key (Some place) h q
    ∙ (ap (cond (eq_by_cmp key_cmp q key) (Some place)) (sym (get-from_entries nat_list_cmp_total old q))
    ∙ sym (get-insert nat_list_cmp_total (from_entries old) key place q))))

module _ (s : ℕ) where
  abbrev size_of_pair : List ℕ × Place → ℕ
  size_of_pair p = size_in s p.1

  inserted_on : (o : Ordering) (key : List ℕ) (place : Place) (e : List ℕ × Place) (es rest : Pairs) → sum_in s rest ≤ sum_in s es + size_in s place
      → sum_in s (match_ordering o ((key, place) ∷ e ∷ es) ((e.0, place) ∷ es) (e ∷ rest)) ≤ sum_in s (e ∷ es) + size_in s place
  inserted_on Less key place e es rest h = omega (arith, sum_by-cons size_of_pair (key, place) (e ∷ es))
  inserted_on Equal key place e es rest h = omega (arith, sum_by-cons size_of_pair (e.0, place) es, sum_by-cons size_of_pair e es)
  inserted_on Greater key place e es rest h = omega (arith, sum_by-cons size_of_pair e rest, sum_by-cons size_of_pair e es, h)

  sum-inserted : (key : List ℕ) (place : Place) (es : Pairs) → sum_in s (insert_entry key_cmp es key place) ≤ sum_in s es + size_in s place
  sum-inserted key place [] = omega (arith, sum_by-cons size_of_pair (key, place) [])
  sum-inserted key place (e ∷ es) = inserted_on (key_cmp key e.0) key place e es (insert_entry key_cmp es key place) (sum-inserted key place es)

  removed_on : (b : Bool) (e : List ℕ × Place) (es rest : Pairs) → sum_in s rest ≤ sum_in s es → sum_in s (cond b es (e ∷ rest)) ≤ sum_in s (e ∷ es)
  removed_on true e es rest h = omega (arith, sum_by-cons size_of_pair e es)
  removed_on false e es rest h = omega (arith, sum_by-cons size_of_pair e rest, sum_by-cons size_of_pair e es, h)

  sum-removed : (test : List ℕ → Bool) (es : Pairs) → sum_in s (remove_entry test es) ≤ sum_in s es
  sum-removed test [] = omega arith
  sum-removed test (e ∷ es) = removed_on (test e.0) e es (remove_entry test es) (sum-removed test es)

-- ---- TakesEntries

counted_put : (segment s at : ℕ) (key blob : List ℕ) → length key ≡ 32
    → size_in segment (record { segment = s; at = at + 41; size = length blob }) ≤ entries_in segment (entry_at s at (PutEntry key blob) ∷ [])
counted_put segment s at key blob sized =
    elim (eqb s segment) as (λ b. cond b (length blob + 41) 0 ≤ 0 + cond b (size_of (PutEntry key blob)) 0) [
      | true ↦ omega (arith, length-append key blob, sized)
      | false ↦ omega arith
    ]

takes_put : (segment at : ℕ) (key blob : List ℕ) (place : Place)
    (old new : Pairs) → length key ≡ 32 → place ≡ record { segment = segment; at = at + 41; size = length blob }
    → ((q : List ℕ) → lookup (is_at (key_cmp q)) new ≡ cond (is_at (key_cmp key) q) (Some place) (lookup (is_at (key_cmp q)) old))
    → new ≡ insert_entry key_cmp old key place
    → TakesEntries (entry_at segment at (PutEntry key blob) ∷ []) old new
takes_put segment at key blob place old new sized is changes inserted = record {
  places = λ log has q. changed_at old new key (Some place) changes q
      ∙ (ap (cond (eq_by_cmp key_cmp q key) (Some place)) (has q)
      ∙ (ap (λ p. cond (eq_by_cmp key_cmp q key) (Some p) (live_place q log)) is ∙ sym (live_place_more q log (entry_at segment at (PutEntry key blob)))));
  bound = λ s.
      let most = sum-inserted s key place old in
      let own = counted_put s segment at key blob sized in
      let same = ap (size_in s) is in
      let whole = ap (sum_in s) inserted in
      omega arith;
}

takes_delete : (segment at : ℕ) (key : List ℕ) (old new : Pairs)
    → ((q : List ℕ) → lookup (is_at (key_cmp q)) new ≡ cond (is_at (key_cmp key) q) None (lookup (is_at (key_cmp q)) old))
    → new ≡ remove_entry (is_at (key_cmp key)) old
    → TakesEntries (entry_at segment at (DeleteEntry key) ∷ []) old new
takes_delete segment at key old new changes removed = record {
  places = λ log has q. changed_at old new key None changes q
      ∙ (ap (cond (eq_by_cmp key_cmp q key) None) (has q) ∙ sym (live_place_more q log (entry_at segment at (DeleteEntry key))));
  bound = λ s.
      let most = sum-removed s (is_at (key_cmp key)) old in
      let whole = ap (sum_in s) removed in
      omega arith;
}

takes_commit : (segment at : ℕ) (pairs : Pairs) → TakesEntries (entry_at segment at CommitEntry ∷ []) pairs pairs
takes_commit segment at pairs = record {
  places = λ log has q. has q ∙ sym (live_place_more q log (entry_at segment at CommitEntry));
  bound = λ s. omega arith;
}

-- the entry with this head is taken, by its tag
pub taken_put : (segment at : ℕ) (head : Head) (place : Place) (old new : Pairs) (entry : LogEntry) → Fits entry → head ≡ head_of entry → head.tag ≡ 0
    → place ≡ record { segment = segment; at = at + 41; size = head.size - 41 }
    → ((q : List ℕ) → lookup (is_at (key_cmp q)) new ≡ cond (is_at (key_cmp head.key) q) (Some place) (lookup (is_at (key_cmp q)) old))
    → new ≡ insert_entry key_cmp old head.key place
    → TakesEntries (entry_at segment at entry ∷ []) old new
taken_put segment at head place old new (PutEntry key blob) fits is tag p changes inserted =
    let own : head.key ≡ key = ap (λ h. h.key) is in
    let size : head.size - 41 ≡ length blob = omega (arith, ap (λ h. h.size) is, length-append key blob, fits.0) in
    takes_put segment at key blob place old new fits.0 (p ∙ ap (λ n. record { segment = segment; at = at + 41; size = n }) size)
    (λ q. changes q ∙ ap (λ k. cond (is_at (key_cmp k) q) (Some place) (lookup (is_at (key_cmp q)) old)) own) (inserted
    ∙ ap (λ k. insert_entry key_cmp old k place) own)
taken_put segment at head place old new (DeleteEntry key) fits is tag p changes inserted = absurd (omega (arith, ap (λ h. h.tag) is))
taken_put segment at head place old new CommitEntry fits is tag p changes inserted = absurd (omega (arith, ap (λ h. h.tag) is))

pub taken_delete : (segment at : ℕ) (head : Head) (old new : Pairs) (entry : LogEntry) → head ≡ head_of entry → head.tag ≡ 1
    → ((q : List ℕ) → lookup (is_at (key_cmp q)) new ≡ cond (is_at (key_cmp head.key) q) None (lookup (is_at (key_cmp q)) old))
    → new ≡ remove_entry (is_at (key_cmp head.key)) old
    → TakesEntries (entry_at segment at entry ∷ []) old new
taken_delete segment at head old new (PutEntry key blob) is tag changes removed = absurd (omega (arith, ap (λ h. h.tag) is))
taken_delete segment at head old new (DeleteEntry key) is tag changes removed =
    let own : head.key ≡ key = ap (λ h. h.key) is in
    takes_delete segment at key old new (λ q. changes q
    ∙ ap (λ k. cond (is_at (key_cmp k) q) None (lookup (is_at (key_cmp q)) old)) own) (removed ∙ ap (λ k. remove_entry (is_at (key_cmp k)) old) own)
taken_delete segment at head old new CommitEntry is tag changes removed = absurd (omega (arith, ap (λ h. h.tag) is))

pub taken_commit : (segment at : ℕ) (head : Head) (pairs : Pairs) (entry : LogEntry) → head ≡ head_of entry → (head.tag ≡ 0 → ⊥) → (head.tag ≡ 1 → ⊥)
    → TakesEntries (entry_at segment at entry ∷ []) pairs pairs
taken_commit segment at head pairs (PutEntry key blob) is a b = absurd (a (ap (λ h. h.tag) is))
taken_commit segment at head pairs (DeleteEntry key) is a b = absurd (b (ap (λ h. h.tag) is))
taken_commit segment at head pairs CommitEntry is a b = takes_commit segment at pairs

pub takes_none : (pairs : Pairs) → TakesEntries [] pairs pairs
takes_none pairs = record {
  places = λ log has q. has q ∙ ap (live_place q) (sym (append-nil log));
  bound = λ s. omega arith;
}

pub takes_more : (xs ys : List Located) (a b c : Pairs) → TakesEntries xs a b → TakesEntries ys b c → TakesEntries (xs ++ ys) a c
takes_more xs ys a b c p q = record {
  places = λ log has k. q.places (log ++ xs) (p.places log has) k ∙ ap (live_place k) (append_assoc log xs ys);
  bound = λ s. let f : Located → ℕ = λ e. cond (eqb e.segment s) (size_of e.entry) 0 in omega (arith, p.bound s, q.bound s, sum_by-append f xs ys);
}
