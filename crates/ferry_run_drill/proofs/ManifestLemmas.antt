-- No manifest of a drill is larger than the content of an object may be.
use Rattle.std.proofs.Common.{◌≡◌, ◌≤◌, ◌+◌, ◌*◌, ◌⊎◌, inl, inr, ℕ, suc, Bool, true, false, List, [], ◌∷◌, codes, cond, filter, length, replicate}
use Rattle.std.proofs.Common.{IsSome, Option, Some, None, Ordering, Less, Equal, Greater, nat_cmp, refl, sym, ◌∙◌, ap, subst, arith, length-append}
use Rattle.std.proofs.lemmas.Cmp.{nat_list_cmp_total}
use Rattle.std.specs.Cmp.Lexicographic.{slice_cmp}
use Rattle.std.specs.List.{AllByRecursion}
use Rattle.std.specs.Ordering.{is_lt, ordering_reverse}
use Rattle.std.specs.Str.{bytes_eq}
use Rattle.ferry_blob.proofs.CallerLemmas.{length-content_id}
use Rattle.ferry_blob.specs.Blob.{content_id}
use Rattle.ferry_carry.specs.Accepting.{AreNextOf, HasIdSize, IsNextOf, LimitsNames, next_named}
use Rattle.ferry_carry.specs.Naming.{entry_for}
use Rattle.ferry_carry.specs.Time.{time_for}
use Rattle.ferry_gen.specs.Archives.{entries_from}
use Rattle.ferry_gen.specs.Source.{IsPlain, item_names}
use Rattle.ferry_mac.specs.declared.keys.Keys.{Keys}
use Rattle.ferry_manifest.specs.Manifest.Text.{ManifestText, in_order}
use Rattle.ferry_manifest.specs.Manifest.Writing.{archive_fields, archive_pairs, manifest_text}
use Rattle.ferry_manifest.specs.Values.{pairs_of_table, raws}
use Rattle.ferry_manifest.specs.declared.manifest.ArchiveRef.{ArchiveRef}
use Rattle.ferry_msgpack.specs.Shortest.{shortest, shortest_items, shortest_pairs}
use Rattle.ferry_msgpack.specs.Tree.{Tree, no_pairs, put, raw, table}
use Rattle.ferry_next.specs.Next.{is_below, union, with_archive}
use Rattle.ferry_piece.proofs.AmongLemmas.{all_front}
use Rattle.ferry_repo.specs.Archives.{archive_named}
use Rattle.ferry_store.specs.New.{first_manifest}
use Rattle.ferry_write.proofs.StandLemmas.{all-append}
use Rattle.ferry_run_drill.proofs.NameLemmas.{none_named}
use Rattle.ferry_run_drill.proofs.LengthLemmas.{manifest_most, pair_most, put_most, raw_most, table_most}
use Rattle.ferry_run_drill.specs.Drill.{drill_time}

-- ---- archives

-- The name, the id and the time of an archive are as long as the drill's.
abbrev pub IsShort : ArchiveRef → Type 0
IsShort archive = (length archive.name ≤ 5) × ((length archive.id ≡ 32) × (length archive.time ≤ 26))

-- those of the drill are
pub entries_short : (keys : Keys) (first : ℕ) (texts : List (List ℕ)) → AllByRecursion IsShort (entries_from keys first texts)
unfolding entries_from
entries_short keys first [] = tt
entries_short keys first (t ∷ ts) = ((omega arith, (length-content_id keys t, omega arith)), entries_short keys (suc first) ts)

-- and so is one of a name
named_short : (name : List ℕ) (archives : List ArchiveRef) (named : ArchiveRef) → AllByRecursion IsShort archives
    → archive_named name archives ≡ Some named → IsShort named
unfolding archive_named
named_short name [] named all is = absurd (let no : ⊥ = cc in no)
named_short name (a ∷ others) named all is = choose (bytes_eq a.name name) is (named_short name others named all.1) where
  choose : (b : Bool) → cond b (Some a) (archive_named name others) ≡ Some named → (archive_named name others ≡ Some named → IsShort named) → IsShort named
  choose true e later = let same : a ≡ named = cc in subst IsShort same all.0
  choose false e later = later e

archives_most : (archives : List ArchiveRef) → AllByRecursion IsShort archives → length (shortest_pairs (archive_pairs archives)) ≤ 200 * length archives
unfolding archive_pairs archive_fields
archives_most [] all = omega arith
archives_most (archive ∷ archives) all =
    let time = put (codes "time") (raw archive.time) no_pairs in
    let fields = put (codes "id") (raw archive.id) time in
    omega (
      arith,
      pair_most archive.name (table fields) (archive_pairs archives),
      table_most fields,
      put_most (codes "id") (raw archive.id) time,
      put_most (codes "time") (raw archive.time) no_pairs,
      raw_most archive.id,
      raw_most archive.time,
      all.0.0,
      all.0.1.0,
      all.0.1.1,
      archives_most archives all.1,
    )

-- ---- one archive more

-- What passes one of two tests that exclude each other is no more than all.
parted_most : (f g : ArchiveRef → Bool) → ((x : ArchiveRef) → f x ≡ true → g x ≡ false) → (xs : List ArchiveRef)
    → length (filter f xs) + length (filter g xs) ≤ length xs
parted_most f g apart [] = omega arith
parted_most f g apart (x ∷ xs) = by_first (f x) refl (parted_most f g apart xs) where
  by_second : (c : Bool) → g x ≡ c → f x ≡ false → length (filter f xs) + length (filter g xs) ≤ length xs
      → length (filter f (x ∷ xs)) + length (filter g (x ∷ xs)) ≤ suc (length xs)
  by_second true other is most = rw (is, other) (omega (arith, most))
  by_second false other is most = rw (is, other) (omega (arith, most))

  by_first : (b : Bool) → f x ≡ b → length (filter f xs) + length (filter g xs) ≤ length xs
      → length (filter f (x ∷ xs)) + length (filter g (x ∷ xs)) ≤ suc (length xs)
  by_first true is most = let other : g x ≡ false = apart x is in rw (is, other) (omega (arith, most))
  by_first false is most = by_second (g x) refl is most

not_both : (n name : List ℕ) (o : Ordering) → slice_cmp nat_cmp n name ≡ o → is_below n name ≡ true → is_below name n ≡ false
not_both n name Less is below = ap is_lt (nat_list_cmp_total.antisymm name n ∙ ap ordering_reverse is)
not_both n name Equal is below = let no : false ≡ true = sym (ap is_lt is) ∙ below in absurd (let l : ⊥ = cc in l)
not_both n name Greater is below = let no : false ≡ true = sym (ap is_lt is) ∙ below in absurd (let l : ⊥ = cc in l)

filter_short : (f : ArchiveRef → Bool) (xs : List ArchiveRef) → AllByRecursion IsShort xs → AllByRecursion IsShort (filter f xs)
filter_short f [] all = tt
filter_short f (x ∷ xs) all = by_first (f x) refl (filter_short f xs all.1) where
  by_first : (b : Bool) → f x ≡ b → AllByRecursion IsShort (filter f xs) → AllByRecursion IsShort (filter f (x ∷ xs))
  by_first true is others = rw is (all.0, others)
  by_first false is others = rw is others

with_short : (archives : List ArchiveRef) (entry : ArchiveRef) → AllByRecursion IsShort archives → IsShort entry
    → AllByRecursion IsShort (with_archive archives entry)
unfolding with_archive
with_short archives entry all one =
    let below = λ (a : ArchiveRef). is_below a.name entry.name in
    let above = λ (a : ArchiveRef). is_below entry.name a.name in
    all-append IsShort (filter below archives) (entry ∷ filter above archives) (filter_short below archives all) (one, filter_short above archives all)

with_most : (archives : List ArchiveRef) (entry : ArchiveRef) → length (with_archive archives entry) ≤ suc (length archives)
unfolding with_archive
with_most archives entry =
    let below = λ (a : ArchiveRef). is_below a.name entry.name in
    let above = λ (a : ArchiveRef). is_below entry.name a.name in
    omega (
      arith,
      length-append (filter below archives) (entry ∷ filter above archives),
      parted_most below above (λ a is. not_both a.name entry.name (slice_cmp nat_cmp a.name entry.name) refl is) archives,
    )

-- ---- manifests

-- the names of the fields of items
abbrev AreFew : List (List ℕ) → Type 0
AreFew names = (names ≡ []) ⊎ (names ≡ item_names)

union_named : (names more : List (List ℕ)) → AreFew names → more ≡ item_names → union names more ≡ item_names
unfolding in_order
union_named names more (inl a) b = ap (λ (l : List (List ℕ)). union l more) a ∙ ap (λ (l : List (List ℕ)). union [] l) b
union_named names more (inr a) b = ap (λ (l : List (List ℕ)). union l more) a ∙ ap (λ (l : List (List ℕ)). union item_names l) b

-- behind archives of a source that has them a manifest keeps those of the drill
names_stay : (source manifest : ManifestText) (names ids : List (List ℕ)) (now : ManifestText) → IsPlain item_names source
    → manifest.item_keys ≡ item_names → AreNextOf None source manifest names ids now → now.item_keys ≡ item_names
names_stay source manifest [] ids now plain are behind = ap (λ (m : ManifestText). m.item_keys) behind.1 ∙ are
names_stay source manifest (name ∷ names) ids now plain are behind =
    names_stay source behind.1.1.1.0 names behind.1.0 now plain (by behind.1.1.1.1.0) behind.1.1.1.1.1
  where
    by : IsNextOf None source manifest name behind.0 behind.1.1.1.0 → behind.1.1.1.0.item_keys ≡ item_names
    by (inl kept) = ap (λ (m : ManifestText). m.item_keys) kept.1.1 ∙ are
    by (inr new) =
        ap (λ (m : ManifestText). m.item_keys) new.1.1.1 ∙ union_named manifest.item_keys source.item_keys (inr are) plain.1

-- and the first archive brings them
pub names_come : (source manifest : ManifestText) (names ids : List (List ℕ)) (now : ManifestText) → IsPlain item_names source → manifest.archives ≡ []
    → manifest.item_keys ≡ [] → 1 ≤ length names → AreNextOf None source manifest names ids now → now.item_keys ≡ item_names
names_come source manifest [] ids now plain none empty some behind = absurd (let no : ⊥ = omega (arith, some) in no)
names_come source manifest (name ∷ names) ids now plain none empty some behind =
    names_stay source behind.1.1.1.0 names behind.1.0 now plain (by behind.1.1.1.1.0) behind.1.1.1.1.1
  where
    by : IsNextOf None source manifest name behind.0 behind.1.1.1.0 → behind.1.1.1.0.item_keys ≡ item_names
    by (inl kept) =
        let is : false ≡ true = subst IsSome (none_named manifest.archives name none) kept.0 in
        absurd (let no : ⊥ = cc in no)
    by (inr new) =
        ap (λ (m : ManifestText). m.item_keys) new.1.1.1 ∙ union_named manifest.item_keys source.item_keys (inl empty) plain.1

few_most : (names : List (List ℕ)) → AreFew names → length (shortest_items (raws names)) ≤ 50
unfolding raws
few_most names (inl none) = subst (λ (l : List (List ℕ)). length (shortest_items (raws l)) ≤ 50) (sym none) (omega arith)
few_most names (inr are) =
    let path = codes "path" ∷ [] in
    let mode = codes "mode" ∷ path in
    subst (λ (l : List (List ℕ)). length (shortest_items (raws l)) ≤ 50) (sym are)
    (omega (
      arith,
      length-append (shortest (raw (codes "chunks"))) (shortest_items (raws mode)),
      length-append (shortest (raw (codes "mode"))) (shortest_items (raws path)),
      length-append (shortest (raw (codes "path"))) (shortest_items (raws [])),
      raw_most (codes "chunks"),
      raw_most (codes "mode"),
      raw_most (codes "path"),
    ))

-- A manifest of the drill has no more than so many archives, all of them short, and nothing else but the names of their items' fields.
record IsSmall (most : ℕ) (manifest : ManifestText) : Type 0 where
  timestamp : manifest.timestamp ≡ Some drill_time
  short : AllByRecursion IsShort manifest.archives
  count : length manifest.archives ≤ most
  item_keys : AreFew manifest.item_keys
  config : manifest.config ≡ table no_pairs
  more : manifest.more ≡ table no_pairs

small_fits : (keys : Keys) (salt : List ℕ) (manifest : ManifestText) (most : ℕ) → length salt ≡ 64 → IsSmall most manifest
    → length (manifest_text keys salt manifest) ≤ 1000 + 200 * most
small_fits keys salt manifest most size small =
    let config : length (shortest manifest.config) ≤ 5 =
    subst (λ (t : Tree). length (shortest t) ≤ 5) (sym small.config) (omega (arith, table_most no_pairs)) in
    let more : length (shortest_pairs (pairs_of_table manifest.more)) ≤ 0 =
    subst (λ (t : Tree). length (shortest_pairs (pairs_of_table t)) ≤ 0) (sym small.more) (omega arith) in
    omega (
      arith,
      manifest_most keys salt manifest drill_time size small.timestamp,
      config,
      more,
      few_most manifest.item_keys small.item_keys,
      archives_most manifest.archives small.short,
      small.count,
    )

same_time : (one other : Option (List ℕ)) → one ≡ Some drill_time → other ≡ Some drill_time → time_for None one other ≡ drill_time
same_time one other p q =
    ap (λ (o : Option (List ℕ)). time_for None o other) p ∙ ap (λ (o : Option (List ℕ)). time_for None (Some drill_time) o) q

small_next : (most : ℕ) (source manifest : ManifestText) (named : ArchiveRef) (id : List ℕ) → IsPlain item_names source → IsShort named → length id ≡ 32
    → IsSmall most manifest → IsSmall (suc most) (next_named None source manifest named id)
small_next most source manifest named id plain short size small = record {
  timestamp = ap Some (same_time source.timestamp manifest.timestamp plain.0 small.timestamp);
  short = with_short manifest.archives (entry_for named id) small.short (short.0, (size, short.1.1));
  count = omega (arith, with_most manifest.archives (entry_for named id), small.count);
  item_keys = inr (union_named manifest.item_keys source.item_keys small.item_keys plain.1);
  config = small.config;
  more = small.more;
}

module _ (source : ManifestText) (plain : IsPlain item_names source) (short : AllByRecursion IsShort source.archives) where
  small_one : (most : ℕ) (manifest : ManifestText) (name : List ℕ) (ids : List (List ℕ)) (now : ManifestText) → AllByRecursion HasIdSize ids
      → IsNextOf None source manifest name ids now → IsSmall most manifest → IsSmall (suc most) now
  small_one most manifest name ids now sizes (inl kept) small =
      subst (IsSmall (suc most)) (sym kept.1.1) (record {
        timestamp = small.timestamp;
        short = small.short;
        count = omega (arith, small.count);
        item_keys = small.item_keys;
        config = small.config;
        more = small.more;
      })
  small_one most manifest name ids now sizes (inr new) small =
      let id = new.1.0 in
      let size : length id ≡ 32 = (subst (AllByRecursion HasIdSize) new.1.1.0 sizes).0 in
      subst (IsSmall (suc most)) (sym new.1.1.1)
      (small_next most source manifest new.0.named id plain (named_short name source.archives new.0.named short new.0.named_is) size small)

  small_behind : (most : ℕ) (manifest : ManifestText) (names ids : List (List ℕ)) (now : ManifestText) → AllByRecursion HasIdSize ids
      → AreNextOf None source manifest names ids now → IsSmall most manifest → IsSmall (most + length names) now
  small_behind most manifest [] ids now sizes behind small =
      let e : most ≡ most + 0 = omega arith in
      subst (λ (n : ℕ). IsSmall n now) e (subst (IsSmall most) (sym behind.1) small)
  small_behind most manifest (name ∷ names) ids now sizes behind small =
      let own = behind.0 in
      let others = behind.1.0 in
      let middle = behind.1.1.1.0 in
      let parts = all_front HasIdSize own others (subst (AllByRecursion HasIdSize) behind.1.1.0 sizes) in
      let one = small_one most manifest name own middle parts.0 behind.1.1.1.1.0 small in
      let e : suc most + length names ≡ most + suc (length names) = omega arith in
      subst (λ (n : ℕ). IsSmall n now) e (small_behind (suc most) middle names others now parts.1 behind.1.1.1.1.1 one)

  -- behind the first manifest of a new repository, and so many archives of the drill, none is too large
  pub never_limited : (keys : Keys) (names : List (List ℕ)) (Told : List (List ℕ) → Type 0) → length names ≤ 64
      → LimitsNames None source keys (first_manifest drill_time) names Told → ⊥
  never_limited keys names Told most limited =
      let first : IsSmall 0 (first_manifest drill_time) =
      record { timestamp = refl; short = tt; count = omega arith; item_keys = inl refl; config = refl; more = refl } in
      let middle = small_behind 0 (first_manifest drill_time) limited.done limited.ids limited.middle limited.sizes limited.behind first in
      let named = limited.large.new.named in
      let salt : List ℕ = replicate 64 0 in
      let size : length salt ≡ 64 = refl in
      let id = content_id keys [] in
      let next = small_next (0 + length limited.done) source limited.middle named id plain
      (named_short limited.name source.archives named short limited.large.new.named_is) (length-content_id keys []) middle in
      let count : length names ≡ length limited.done + suc (length limited.rest) =
      ap (λ (l : List (List ℕ)). length l) limited.split ∙ length-append limited.done (limited.name ∷ limited.rest) in
      omega (
        arith,
        small_fits keys salt (next_named None source limited.middle named id) (suc (0 + length limited.done)) size next,
        limited.large.large [] salt size,
        count,
        most,
      )
