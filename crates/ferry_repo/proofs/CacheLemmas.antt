-- Lemmas on specs/Cached.antt: what a map of the contents that were used last holds after a use.
use Rattle.std.proofs.Common.{◌≡◌, ◌≤◌, ◌+◌, ℕ, zero, suc, Bool, true, false, List, [], ◌∷◌, take, length, Option, Some, None, IfSome, is_some, Result, Ok}
use Rattle.std.proofs.Common.{Err, OnErr, refl, sym, ◌∙◌, ap, subst, arith}
use Rattle.std.proofs.lemmas.List.{take_all}
use Rattle.std.proofs.lemmas.Slice.Eq.{bytes_eq-Decides}
use Rattle.std.specs.List.{AllByRecursion, IsDistinct}
use Rattle.std.specs.Map.{keys_of, lookup_entry, remove_entry}
use Rattle.std.specs.Str.{bytes_eq}
use Rattle.ferry_disk.specs.Device.{Told, told_files, heard}
use Rattle.ferry_disk.specs.Files.{Files}
use Rattle.ferry_disk.proofs.DeviceLemmas.{told_same, told_with}
use Rattle.ferry_log.specs.State.{LogState}
use Rattle.ferry_mac.specs.declared.keys.Keys.{Keys}
use Rattle.lru.specs.LruCache.{LruCache, IsValid, lru_cache, promoted, put_entries}
use Rattle.ferry_repo.specs.Cached.{Contents, Opened, content_in, without, used}
use Rattle.ferry_repo.specs.Objects.{HoldsChunk}
use Rattle.ferry_repo.specs.Opening.{RepoState, FitsRepo}

-- ---- without

without_none : (id : List ℕ) (cs : Opened) → AllByRecursion (λ k. bytes_eq id k ≡ false) (keys_of cs) → without id cs ≡ cs
unfolding without
without_none id [] none = refl
without_none id (c ∷ cs) none = rw none.0 (ap (λ (l : Opened). c ∷ l) (without_none id cs none.1))

-- of distinct ids at most one goes
without_entry : (id : List ℕ) (cs : Opened) → IsDistinct bytes_eq (keys_of cs) → without id cs ≡ remove_entry (bytes_eq id) cs
unfolding without IsDistinct
without_entry id [] distinct = refl
without_entry id (c ∷ cs) distinct = (elim (bytes_eq id c.0) as (λ y. bytes_eq id c.0 ≡ y → without id (c ∷ cs) ≡ remove_entry (bytes_eq id) (c ∷ cs)) [
  | true ↦ λ t. rw t (without_none id cs
      (subst (λ (k : List ℕ). AllByRecursion (λ j. bytes_eq k j ≡ false) (keys_of cs)) (sym ((bytes_eq-Decides id c.0).0 t)) distinct.0))
  | false ↦ λ t. rw t (ap (λ (l : Opened). c ∷ l) (without_entry id cs distinct.1))
]) refl

without_absent : (id : List ℕ) (cs : Opened) → content_in id cs ≡ None → without id cs ≡ cs
unfolding without
without_absent id [] none = refl
without_absent id (c ∷ cs) none = (elim (bytes_eq id c.0) as (λ y. bytes_eq id c.0 ≡ y → without id (c ∷ cs) ≡ c ∷ cs) [
  | true ↦ λ t. let some : Some c.1 ≡ None = rw t at none in absurd (let bad : ⊥ = cc in bad)
  | false ↦ λ t. rw t (ap (λ (l : Opened). c ∷ l) (without_absent id cs (rw t at none)))
]) refl

-- ---- the map of the contents

entry_none : (id : List ℕ) (cs : Opened) → content_in id cs ≡ None → lookup_entry (bytes_eq id) cs ≡ None
entry_none id [] none = refl
entry_none id (c ∷ cs) none = (elim (bytes_eq id c.0) as (λ y. bytes_eq id c.0 ≡ y → lookup_entry (bytes_eq id) (c ∷ cs) ≡ None) [
  | true ↦ λ t. let some : Some c.1 ≡ None = rw t at none in absurd (let bad : ⊥ = cc in bad)
  | false ↦ λ t. rw t (entry_none id cs (rw t at none))
]) refl

-- the entry of an id, and how many there are without it
entry_some : (id content : List ℕ) (cs : Opened) → content_in id cs ≡ Some content
    → (lookup_entry (bytes_eq id) cs ≡ Some (id, content)) × (length (remove_entry (bytes_eq id) cs) + 1 ≡ length cs)
entry_some id content [] some = absurd (let bad : ⊥ = cc in bad)
entry_some id content (c ∷ cs) some = (elim (bytes_eq id c.0) as (λ y. bytes_eq id c.0 ≡ y
    → (lookup_entry (bytes_eq id) (c ∷ cs) ≡ Some (id, content)) × (length (remove_entry (bytes_eq id) (c ∷ cs)) + 1 ≡ length (c ∷ cs))) [
      | true ↦ λ t.
          let found : Some c.1 ≡ Some content = rw t at some in
          let value : c.1 ≡ content = cc in
          let key : id ≡ c.0 = (bytes_eq-Decides id c.0).0 t in
          rw t (ap (λ (k : List ℕ). Some (k, c.1)) (sym key) ∙ ap (λ (v : List ℕ). Some (id, v)) value, omega arith)
      | false ↦ λ t.
          let later = entry_some id content cs (rw t at some) in
          rw t (later.0, omega (arith, later.1))
    ]) refl

-- what was used stands in front
pub promoted_used : (id content : List ℕ) (cs : Opened) → IsDistinct bytes_eq (keys_of cs) → length cs ≤ 28 → content_in id cs ≡ Some content
    → promoted (bytes_eq id) cs ≡ used id content cs
unfolding used
promoted_used id content cs distinct few some =
    let entry = entry_some id content cs some in
    let rest = remove_entry (bytes_eq id) cs in
    rw (entry.0, without_entry id cs distinct) (sym (take_all 28 ((id, content) ∷ rest) (omega (arith, entry.1, few))))

-- where it isn't there nothing changes
pub promoted_none : (id : List ℕ) (cs : Opened) → content_in id cs ≡ None → promoted (bytes_eq id) cs ≡ cs
promoted_none id cs none = rw (entry_none id cs none) refl

-- a content that wasn't there pushes the last out of twenty-eight
pub put_used : (id content : List ℕ) (cs : Opened) → content_in id cs ≡ None → put_entries bytes_eq (lru_cache cs 28) id content ≡ used id content cs
unfolding used
put_used id content cs none = rw (entry_none id cs none, without_absent id cs none) refl

-- ---- the calls of the map

found_is : (o : Option (List ℕ)) (content : List ℕ) → is_some o ≡ true → IfSome o (λ kept. kept ≡ content) → o ≡ Some content
found_is None content some same = absurd (let bad : ⊥ = cc in bad)
found_is (Some kept) content some same = ap Some same

found_none : (o : Option (List ℕ)) → is_some o ≡ false → o ≡ None
found_none None none = refl
found_none (Some kept) none = absurd (let bad : ⊥ = cc in bad)

pub promote_used : (id content : List ℕ) (cache after : LruCache (List ℕ) (List ℕ)) (found : Bool) → IsValid bytes_eq cache → cache.cap ≡ 28
    → IfSome (content_in id cache.entries) (λ kept. kept ≡ content) → found ≡ is_some (content_in id cache.entries) → found ≡ true
    → after ≡ lru_cache (promoted (bytes_eq id) cache.entries) cache.cap → after.entries ≡ used id content cache.entries
promote_used id content cache after found valid cap same is t made =
    ap (λ (x : LruCache (List ℕ) (List ℕ)). x.entries) made
    ∙ promoted_used id content cache.entries valid.0 (subst (λ (n : ℕ). length cache.entries ≤ n) cap valid.1)
    (found_is (content_in id cache.entries) content (sym is ∙ t) same)

pub promote_still : (id : List ℕ) (cache after : LruCache (List ℕ) (List ℕ)) (found : Bool) → found ≡ is_some (content_in id cache.entries) → found ≡ false
    → after ≡ lru_cache (promoted (bytes_eq id) cache.entries) cache.cap → after.entries ≡ cache.entries
promote_still id cache after found is t made =
    ap (λ (x : LruCache (List ℕ) (List ℕ)). x.entries) made ∙ promoted_none id cache.entries (found_none (content_in id cache.entries) (sym is ∙ t))

pub put_all : (id content value : List ℕ) (cache mid after : LruCache (List ℕ) (List ℕ)) (found : Bool) → cache.cap ≡ 28
    → found ≡ is_some (content_in id cache.entries) → found ≡ false → mid ≡ lru_cache (promoted (bytes_eq id) cache.entries) cache.cap
    → value ≡ content → after ≡ lru_cache (put_entries bytes_eq mid id value) mid.cap → after.entries ≡ used id content cache.entries
put_all id content value cache mid after found cap is t made same put =
    let none = found_none (content_in id cache.entries) (sym is ∙ t) in
    let mid_is : mid ≡ lru_cache cache.entries 28 = made ∙ (ap (λ (es : Opened). lru_cache es cache.cap) (promoted_none id cache.entries none)
    ∙ ap (λ (n : ℕ). lru_cache cache.entries n) cap) in
    ap (λ (x : LruCache (List ℕ) (List ℕ)). x.entries) put
    ∙ (ap (λ (x : LruCache (List ℕ) (List ℕ)). put_entries bytes_eq x id value) mid_is
    ∙ (put_used id value cache.entries none ∙ ap (λ (v : List ℕ). used id v cache.entries) same))

-- a content that isn't there is put
pub put_new : (id content value : List ℕ) (cache after : LruCache (List ℕ) (List ℕ)) → cache.cap ≡ 28 → content_in id cache.entries ≡ None
    → value ≡ content → after ≡ lru_cache (put_entries bytes_eq cache id value) cache.cap → after.entries ≡ used id content cache.entries
put_new id content value cache after cap none same put =
    let cache_is : cache ≡ lru_cache cache.entries 28 = ap (λ (n : ℕ). lru_cache cache.entries n) cap in
    ap (λ (x : LruCache (List ℕ) (List ℕ)). x.entries) put
    ∙ (ap (λ (x : LruCache (List ℕ) (List ℕ)). put_entries bytes_eq x id value) cache_is
    ∙ (put_used id value cache.entries none ∙ ap (λ (v : List ℕ). used id v cache.entries) same))

-- ---- what fits

-- the contents without one of them hold
without_hold : (files : Files) (log : LogState) (keys : Keys) (id : List ℕ) (cs : Opened)
    → AllByRecursion (λ c. HoldsChunk files log keys c.0 c.1) cs → AllByRecursion (λ c. HoldsChunk files log keys c.0 c.1) (without id cs)
unfolding without
without_hold files log keys id [] all = tt
without_hold files log keys id (c ∷ cs) all = (elim (bytes_eq id c.0) as (λ y. bytes_eq id c.0 ≡ y
    → AllByRecursion (λ c. HoldsChunk files log keys c.0 c.1) (without id (c ∷ cs))) [
      | true ↦ λ t. rw t (without_hold files log keys id cs all.1)
      | false ↦ λ t. rw t (all.0, without_hold files log keys id cs all.1)
    ]) refl

take_hold : (files : Files) (log : LogState) (keys : Keys) (n : ℕ) (cs : Opened)
    → AllByRecursion (λ c. HoldsChunk files log keys c.0 c.1) cs → AllByRecursion (λ c. HoldsChunk files log keys c.0 c.1) (take n cs)
take_hold files log keys zero cs all = tt
take_hold files log keys (suc n) [] all = tt
take_hold files log keys (suc n) (c ∷ cs) all = (all.0, take_hold files log keys n cs all.1)

-- the contents after one was used hold
pub used_hold : (files : Files) (log : LogState) (keys : Keys) (id content : List ℕ) (cs : Opened) → HoldsChunk files log keys id content
    → AllByRecursion (λ c. HoldsChunk files log keys c.0 c.1) cs → AllByRecursion (λ c. HoldsChunk files log keys c.0 c.1) (used id content cs)
unfolding used
used_hold files log keys id content cs holds all =
    take_hold files log keys 28 ((id, content) ∷ without id cs) (holds, without_hold files log keys id cs all)

-- a repository fits once one more content was used
pub used_fits : (files : Files) (repo : RepoState) (id content : List ℕ) (kept : Contents) → HoldsChunk files repo.log repo.keys id content
    → FitsRepo files repo kept → FitsRepo files repo (record kept { opened = used id content kept.opened })
used_fits files repo id content kept holds fits = record {
  log = fits.log;
  cached = used_hold files repo.log repo.keys id content kept.opened holds fits.cached;
  noted = fits.noted;
}

-- it fits what a later call is told
pub kept_fits : (told later : Option Told) (repo : RepoState) (kept : Contents) (after : Opened) (id content shown : List ℕ) → heard later ≡ heard told
    → shown ≡ content → after ≡ used id shown kept.opened → IfSome told (λ t. FitsRepo (told_files t) repo kept)
    → IfSome told (λ t. HoldsChunk (told_files t) repo.log repo.keys id content)
    → IfSome later (λ t. FitsRepo (told_files t) repo (record kept { opened = after }))
kept_fits told later repo kept after id content shown same is made fits holds =
    told_same told later (λ f. FitsRepo f repo (record kept { opened = after })) same
    (told_with told told (λ f. FitsRepo f repo kept) (λ f. HoldsChunk f repo.log repo.keys id content)
    (λ f. FitsRepo f repo (record kept { opened = after })) refl
    (λ f fit hold. subst (λ (cs : Opened). FitsRepo f repo (record kept { opened = cs })) (sym (made ∙ ap (λ (s : List ℕ). used id s kept.opened) is))
    (used_fits f repo id content kept hold fit)) fits holds)

-- what is kept of an id is its content
pub kept_holds : (files : Files) (log : LogState) (keys : Keys) (id content : List ℕ) (cs : Opened)
    → AllByRecursion (λ c. HoldsChunk files log keys c.0 c.1) cs → content_in id cs ≡ Some content → HoldsChunk files log keys id content
kept_holds files log keys id content [] all some = absurd (let bad : ⊥ = cc in bad)
kept_holds files log keys id content (c ∷ cs) all some = (elim (bytes_eq id c.0) as (λ y. bytes_eq id c.0 ≡ y → HoldsChunk files log keys id content) [
  | true ↦ λ t.
      let found : Some c.1 ≡ Some content = rw t at some in
      let value : c.1 ≡ content = cc in
      subst (λ (v : List ℕ). HoldsChunk files log keys id v) value
      (subst (λ (k : List ℕ). HoldsChunk files log keys k c.1) (sym ((bytes_eq-Decides id c.0).0 t)) all.0)
  | false ↦ λ t. kept_holds files log keys id content cs all.1 (rw t at some)
]) refl

-- what holds at any answer
pub err_holds : {A E : Type 0} (r : Result A E) (P : Type 0) → P → OnErr r P
err_holds (Ok v) P p = tt
err_holds (Err e) P p = p
