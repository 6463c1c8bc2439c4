-- Lemmas on how long a record and a manifest are: the salt of the tag doesn't matter, nor do the ids in a manifest, as all salts and all ids are equally long.
use Rattle.std.proofs.Common.{◌≡◌, ℕ, ◌+◌, Bool, true, false, cond, List, [], ◌∷◌, ◌++◌, codes, filter, length, pos, Option, Some, IsSome}
use Rattle.std.proofs.Common.{if◌then◌else◌, refl, sym, ◌∙◌, ap, arith, subst}
use Rattle.std.proofs.lemmas.List.{length-append}
use Rattle.std.specs.Ordering.{nat_cmp, match_ordering}
use Rattle.std.specs.Cmp.Lexicographic.{slice_cmp}
use Rattle.std.specs.Str.{bytes_eq}
use Rattle.std.specs.declared.cmp.Ordering.{Ordering}
use Rattle.std.specs.declared.cmp.Ordering.TheVariants.{Less, Equal, Greater}
use Rattle.ferry_mac.proofs.CallerLemmas.{length-hmac512}
use Rattle.ferry_mac.specs.declared.keys.Keys.{Keys}
use Rattle.ferry_manifest.specs.Manifest.Text.{ManifestText}
use Rattle.ferry_manifest.specs.Manifest.Writing.{archive_fields, archive_pairs, manifest_text, untagged_pairs, with_timestamp}
use Rattle.ferry_manifest.specs.Record.Text.{ArchiveText}
use Rattle.ferry_manifest.specs.Record.Writing.{archive_text, record_pairs}
use Rattle.ferry_manifest.specs.Tag.{archive_info, manifest_info}
use Rattle.ferry_manifest.specs.Tagged.{packed, packed_tag, tag_pairs, tagged_pairs, tagged_text}
use Rattle.ferry_manifest.specs.Values.{pairs_of_table, raws}
use Rattle.ferry_manifest.specs.declared.manifest.ArchiveRef.{ArchiveRef}
use Rattle.ferry_msgpack.specs.Shortest.{map_head, raw_head, shortest, shortest_pairs, shortest_raw}
use Rattle.ferry_msgpack.specs.Tree.{Tree, Pairs, array, no_pairs, number, pair, pairs_count, put, raw, table}
use Rattle.ferry_next.specs.Next.{is_below, next_manifest, with_archive, written_at}
use Rattle.ferry_repo.specs.Archives.{archive_named}
use Rattle.ferry_carry.specs.Accepting.{next_named}
use Rattle.ferry_carry.specs.Naming.{entry_for}

-- ---- pairs

-- The same keys stand in both, each with a value that is spelled equally long.
abbrev Alike : Pairs → Pairs → Type 0
Alike no_pairs no_pairs = Unit {0}
Alike no_pairs (pair l u qs) = ⊥
Alike (pair k t ps) no_pairs = ⊥
Alike (pair k t ps) (pair l u qs) = (k ≡ l) × ((length (shortest t) ≡ length (shortest u)) × Alike ps qs)

alike_same : (ps : Pairs) → Alike ps ps
alike_same no_pairs = tt
alike_same (pair k t ps) = (refl, (refl, alike_same ps))

-- by how the key stands to the first
put_by : (k l m : List ℕ) (t u a b : Tree) (ps qs : Pairs) (o : Ordering) → length (shortest t) ≡ length (shortest u)
    → Alike (pair l a ps) (pair m b qs) → Alike (put k t ps) (put k u qs)
    → Alike (match_ordering o (pair k t (pair l a ps)) (pair l t ps) (pair l a (put k t ps)))
    (match_ordering o (pair k u (pair m b qs)) (pair m u qs) (pair m b (put k u qs)))
put_by k l m t u a b ps qs Less e p rest = (refl, (e, p))
put_by k l m t u a b ps qs Equal e p rest = (p.0, (e, p.1.1))
put_by k l m t u a b ps qs Greater e p rest = (p.0, (p.1.0, rest))

alike_put : (k : List ℕ) (t u : Tree) (ps qs : Pairs) → length (shortest t) ≡ length (shortest u) → Alike ps qs → Alike (put k t ps) (put k u qs)
alike_put k t u no_pairs no_pairs e p = (refl, (e, tt))
alike_put k t u no_pairs (pair m b qs) e p = absurd p
alike_put k t u (pair l a ps) no_pairs e p = absurd p
alike_put k t u (pair l a ps) (pair m b qs) e p =
    subst (λ (x : List ℕ). Alike (match_ordering (slice_cmp nat_cmp k l) (pair k t (pair l a ps)) (pair l t ps) (pair l a (put k t ps)))
    (match_ordering (slice_cmp nat_cmp k x) (pair k u (pair m b qs)) (pair m u qs) (pair m b (put k u qs)))) p.0
    (put_by k l m t u a b ps qs (slice_cmp nat_cmp k l) e p (alike_put k t u ps qs e p.1.1))

alike_count : (ps qs : Pairs) → Alike ps qs → pairs_count ps ≡ pairs_count qs
alike_count no_pairs no_pairs p = refl
alike_count no_pairs (pair l u qs) p = absurd p
alike_count (pair k t ps) no_pairs p = absurd p
alike_count (pair k t ps) (pair l u qs) p = ap (λ (n : ℕ). n + 1) (alike_count ps qs p.1.1)

alike_length : (ps qs : Pairs) → Alike ps qs → length (shortest_pairs ps) ≡ length (shortest_pairs qs)
alike_length no_pairs no_pairs p = refl
alike_length no_pairs (pair l u qs) p = absurd p
alike_length (pair k t ps) no_pairs p = absurd p
alike_length (pair k t ps) (pair l u qs) p =
    let key : length (shortest_raw k) ≡ length (shortest_raw l) = ap (λ (x : List ℕ). length (shortest_raw x)) p.0 in
    let rest = alike_length ps qs p.1.1 in
    let one = length-append (shortest_raw k) (shortest t ++ shortest_pairs ps) in
    let two = length-append (shortest t) (shortest_pairs ps) in
    let three = length-append (shortest_raw l) (shortest u ++ shortest_pairs qs) in
    let four = length-append (shortest u) (shortest_pairs qs) in
    omega (arith, key, rest, one, two, three, four, p.1.0)

alike_table : (ps qs : Pairs) → Alike ps qs → length (shortest (table ps)) ≡ length (shortest (table qs))
alike_table ps qs p =
    let head : length (map_head (pairs_count ps)) ≡ length (map_head (pairs_count qs)) = ap (λ (n : ℕ). length (map_head n)) (alike_count ps qs p) in
    let one = length-append (map_head (pairs_count ps)) (shortest_pairs ps) in
    let two = length-append (map_head (pairs_count qs)) (shortest_pairs qs) in
    omega (arith, head, one, two, alike_length ps qs p)

raw_alike : (a b : List ℕ) → length a ≡ length b → length (shortest (raw a)) ≡ length (shortest (raw b))
raw_alike a b e =
    let head : length (raw_head (length a)) ≡ length (raw_head (length b)) = ap (λ (n : ℕ). length (raw_head n)) e in
    let one = length-append (raw_head (length a)) a in
    let two = length-append (raw_head (length b)) b in
    omega (arith, head, one, two, e)

-- ---- texts with a tag

packed_alike : (ps qs : Pairs) (mac other salt salts : List ℕ) → Alike ps qs → length mac ≡ length other → length salt ≡ length salts
    → length (packed ps mac salt) ≡ length (packed qs other salts)
unfolding packed tagged_pairs tag_pairs
packed_alike ps qs mac other salt salts p macs sizes =
    let last = put (codes "type") (raw (codes "HKDF_HMAC_SHA512")) no_pairs in
    let tags = alike_put (codes "hmac") (raw mac) (raw other) (put (codes "salt") (raw salt) last) (put (codes "salt") (raw salts) last)
    (raw_alike mac other macs) (alike_put (codes "salt") (raw salt) (raw salts) last last (raw_alike salt salts sizes) (alike_same last)) in
    alike_table (tagged_pairs ps mac salt) (tagged_pairs qs other salts)
    (alike_put (codes "tam") (table (tag_pairs mac salt)) (table (tag_pairs other salts)) ps qs (alike_table (tag_pairs mac salt) (tag_pairs other salts) tags)
    p)

tagged_alike : (info : List ℕ) (keys : Keys) (ps qs : Pairs) (salt salts : List ℕ) → Alike ps qs → length salt ≡ length salts
    → length (tagged_text info keys salt ps) ≡ length (tagged_text info keys salts qs)
unfolding tagged_text packed_tag
tagged_alike info keys ps qs salt salts p sizes =
    packed_alike ps qs (packed_tag info keys salt ps) (packed_tag info keys salts qs) salt salts p (length-hmac512 _ _ ∙ sym (length-hmac512 _ _)) sizes

-- ---- a record

-- under each salt it is equally long
pub record_length : (keys : Keys) (salt other : List ℕ) (archive : ArchiveText) → length salt ≡ length other
    → length (archive_text keys salt archive) ≡ length (archive_text keys other archive)
unfolding archive_text
record_length keys salt other archive sizes =
    tagged_alike archive_info keys (record_pairs archive) (record_pairs archive) salt other (alike_same (record_pairs archive)) sizes

-- ---- a manifest

-- with an entry whose id is another
entries_alike : (front rest : List ArchiveRef) (named : ArchiveRef) (id other : List ℕ) → length id ≡ length other
    → Alike (archive_pairs (front ++ entry_for named id ∷ rest)) (archive_pairs (front ++ entry_for named other ∷ rest))
unfolding archive_pairs archive_fields
entries_alike [] rest named id other e =
    let time = put (codes "time") (raw named.time) no_pairs in
    let fields = alike_put (codes "id") (raw id) (raw other) time time (raw_alike id other e) (alike_same time) in
    (refl, (alike_table (put (codes "id") (raw id) time) (put (codes "id") (raw other) time) fields, alike_same (archive_pairs rest)))
entries_alike (one ∷ front) rest named id other e = (refl, (refl, entries_alike front rest named id other e))

archives_alike : (archives : List ArchiveRef) (named : ArchiveRef) (id other : List ℕ) → length id ≡ length other
    → Alike (archive_pairs (with_archive archives (entry_for named id))) (archive_pairs (with_archive archives (entry_for named other)))
unfolding with_archive
archives_alike archives named id other e =
    entries_alike (filter (λ (archive : ArchiveRef). is_below archive.name named.name) archives)
    (filter (λ (archive : ArchiveRef). is_below named.name archive.name) archives) named id other e

-- under each salt, and with each id of the archive that comes into it, it is equally long
pub manifest_length : (keys : Keys) (salt salts : List ℕ) (manifest : ManifestText) (named : ArchiveRef) (item_keys : List (List ℕ)) (time id other : List ℕ)
    → length salt ≡ length salts → length id ≡ length other
    → length (manifest_text keys salt (written_at (next_manifest manifest (entry_for named id) item_keys) time))
    ≡ length (manifest_text keys salts (written_at (next_manifest manifest (entry_for named other) item_keys) time))
unfolding manifest_text untagged_pairs
manifest_length keys salt salts manifest named item_keys time id other sizes ids =
    let one = written_at (next_manifest manifest (entry_for named id) item_keys) time in
    let two = written_at (next_manifest manifest (entry_for named other) item_keys) time in
    let behind = put (codes "item_keys") (array (raws one.item_keys)) (put (codes "config") one.config (with_timestamp one.timestamp
    (pairs_of_table one.more))) in
    tagged_alike manifest_info keys (untagged_pairs one) (untagged_pairs two) salt salts
    (alike_put (codes "version") (number (pos 1)) (number (pos 1)) (put (codes "archives") (table (archive_pairs one.archives)) behind)
    (put (codes "archives") (table (archive_pairs two.archives)) behind) refl
    (alike_put (codes "archives") (table (archive_pairs one.archives)) (table (archive_pairs two.archives)) behind behind
    (alike_table (archive_pairs one.archives) (archive_pairs two.archives) (archives_alike manifest.archives named id other ids)) (alike_same behind))) sizes

-- ---- manifests whose ids are others

-- These archives have the same names and times, and ids that are equally long.
abbrev AreAlike : List ArchiveRef → List ArchiveRef → Type 0
AreAlike [] [] = Unit {0}
AreAlike [] (b ∷ ys) = ⊥
AreAlike (a ∷ xs) [] = ⊥
AreAlike (a ∷ xs) (b ∷ ys) = (a.name ≡ b.name) × ((a.time ≡ b.time) × ((length a.id ≡ length b.id) × AreAlike xs ys))

-- Two manifests differ in the ids of their archives alone, which are equally long.
pub record IsAlike (one two : ManifestText) : Type 0 where
  pub archives : AreAlike one.archives two.archives
  pub rest : two ≡ record one { archives = two.archives }

are_same : (archives : List ArchiveRef) → AreAlike archives archives
are_same [] = tt
are_same (a ∷ xs) = (refl, (refl, (refl, are_same xs)))

pub alike_here : (manifest : ManifestText) → IsAlike manifest manifest
alike_here manifest = record { archives = are_same manifest.archives; rest = refl }

-- they are equally long
archives_spelled : (xs ys : List ArchiveRef) → AreAlike xs ys → Alike (archive_pairs xs) (archive_pairs ys)
unfolding archive_pairs archive_fields
archives_spelled [] [] p = tt
archives_spelled [] (b ∷ ys) p = absurd p
archives_spelled (a ∷ xs) [] p = absurd p
archives_spelled (a ∷ xs) (b ∷ ys) p =
    let time = put (codes "time") (raw a.time) no_pairs in
    let other = put (codes "time") (raw b.time) no_pairs in
    let times = alike_put (codes "time") (raw a.time) (raw b.time) no_pairs no_pairs (ap (λ (t : List ℕ). length (shortest (raw t))) p.1.0) tt in
    let fields = alike_put (codes "id") (raw a.id) (raw b.id) time other (raw_alike a.id b.id p.1.1.0) times in
    (p.0, (alike_table (put (codes "id") (raw a.id) time) (put (codes "id") (raw b.id) other) fields, archives_spelled xs ys p.1.1.1))

others_length : (keys : Keys) (salt : List ℕ) (manifest : ManifestText) (others : List ArchiveRef) → AreAlike manifest.archives others
    → length (manifest_text keys salt manifest) ≡ length (manifest_text keys salt (record manifest { archives = others }))
unfolding manifest_text untagged_pairs
others_length keys salt manifest others p =
    let two : ManifestText = record manifest { archives = others } in
    let behind = put (codes "item_keys") (array (raws manifest.item_keys)) (put (codes "config") manifest.config (with_timestamp manifest.timestamp
    (pairs_of_table manifest.more))) in
    tagged_alike manifest_info keys (untagged_pairs manifest) (untagged_pairs two) salt salt
    (alike_put (codes "version") (number (pos 1)) (number (pos 1)) (put (codes "archives") (table (archive_pairs manifest.archives)) behind)
    (put (codes "archives") (table (archive_pairs others)) behind) refl
    (alike_put (codes "archives") (table (archive_pairs manifest.archives)) (table (archive_pairs others)) behind behind
    (alike_table (archive_pairs manifest.archives) (archive_pairs others) (archives_spelled manifest.archives others p)) (alike_same behind))) refl

pub alike_text : (keys : Keys) (salt : List ℕ) (one two : ManifestText) → IsAlike one two
    → length (manifest_text keys salt one) ≡ length (manifest_text keys salt two)
alike_text keys salt one two p =
    others_length keys salt one two.archives p.archives ∙ ap (λ (m : ManifestText). length (manifest_text keys salt m)) (sym p.rest)

-- with an archive more, by ids that are equally long
kept_alike : (keep : Bool) (a b : ArchiveRef) (xs ys : List ArchiveRef) → AreAlike (a ∷ xs) (b ∷ ys) → AreAlike (cond keep (a ∷ xs) xs) (cond keep (b ∷ ys) ys)
kept_alike true a b xs ys p = p
kept_alike false a b xs ys p = p.1.1.1

filter_alike : (keep : List ℕ → Bool) (xs ys : List ArchiveRef) → AreAlike xs ys
    → AreAlike (filter (λ (a : ArchiveRef). keep a.name) xs) (filter (λ (a : ArchiveRef). keep a.name) ys)
filter_alike keep [] [] p = tt
filter_alike keep [] (b ∷ ys) p = absurd p
filter_alike keep (a ∷ xs) [] p = absurd p
filter_alike keep (a ∷ xs) (b ∷ ys) p =
    let left = filter (λ (x : ArchiveRef). keep x.name) xs in
    let right = filter (λ (x : ArchiveRef). keep x.name) ys in
    subst (λ (name : List ℕ). AreAlike (cond (keep a.name) (a ∷ left) left) (cond (keep name) (b ∷ right) right)) p.0
    (kept_alike (keep a.name) a b left right (p.0, (p.1.0, (p.1.1.0, filter_alike keep xs ys p.1.1.1))))

append_alike : (xs ys cs ds : List ArchiveRef) → AreAlike xs ys → AreAlike cs ds → AreAlike (xs ++ cs) (ys ++ ds)
append_alike [] [] cs ds p q = q
append_alike [] (b ∷ ys) cs ds p q = absurd p
append_alike (a ∷ xs) [] cs ds p q = absurd p
append_alike (a ∷ xs) (b ∷ ys) cs ds p q = (p.0, (p.1.0, (p.1.1.0, append_alike xs ys cs ds p.1.1.1 q)))

with_alike : (xs ys : List ArchiveRef) (named : ArchiveRef) (id other : List ℕ) → AreAlike xs ys → length id ≡ length other
    → AreAlike (with_archive xs (entry_for named id)) (with_archive ys (entry_for named other))
unfolding with_archive
with_alike xs ys named id other p sizes =
    let front = filter_alike (λ (name : List ℕ). is_below name named.name) xs ys p in
    let behind = filter_alike (λ (name : List ℕ). is_below named.name name) xs ys p in
    append_alike (filter (λ (archive : ArchiveRef). is_below archive.name named.name) xs)
    (filter (λ (archive : ArchiveRef). is_below archive.name named.name) ys)
    (entry_for named id ∷ filter (λ (archive : ArchiveRef). is_below named.name archive.name) xs)
    (entry_for named other ∷ filter (λ (archive : ArchiveRef). is_below named.name archive.name) ys) front (refl, (refl, (sizes, behind)))

pub next_alike : (given : Option (List ℕ)) (source one two : ManifestText) (named : ArchiveRef) (id other : List ℕ) → IsAlike one two
    → length id ≡ length other → IsAlike (next_named given source one named id) (next_named given source two named other)
next_alike given source one two named id other p sizes = record {
  archives = with_alike one.archives two.archives named id other p.archives sizes;
  rest = ap (λ (m : ManifestText). next_named given source m named other) p.rest;
}

-- they have the same names
found_by : (is : Bool) (a b : ArchiveRef) (x y : Option ArchiveRef) → (IsSome x → IsSome y) → IsSome (if is then Some a else x)
    → IsSome (if is then Some b else y)
found_by true a b x y later found = refl
found_by false a b x y later found = later found

found_alike : (name : List ℕ) (xs ys : List ArchiveRef) → AreAlike xs ys → IsSome (archive_named name xs) → IsSome (archive_named name ys)
unfolding archive_named
found_alike name [] [] p found = found
found_alike name [] (b ∷ ys) p found = absurd p
found_alike name (a ∷ xs) [] p found = absurd p
found_alike name (a ∷ xs) (b ∷ ys) p found =
    subst (λ (n : List ℕ). IsSome (if bytes_eq n name then Some b else archive_named name ys)) p.0
    (found_by (bytes_eq a.name name) a b (archive_named name xs) (archive_named name ys) (found_alike name xs ys p.1.1.1) found)

turned : (xs ys : List ArchiveRef) → AreAlike xs ys → AreAlike ys xs
turned [] [] p = tt
turned [] (b ∷ ys) p = absurd p
turned (a ∷ xs) [] p = absurd p
turned (a ∷ xs) (b ∷ ys) p = (sym p.0, (sym p.1.0, (sym p.1.1.0, turned xs ys p.1.1.1)))

pub found_in : (name : List ℕ) (one two : ManifestText) → IsAlike one two → IsSome (archive_named name one.archives)
    → IsSome (archive_named name two.archives)
found_in name one two p = found_alike name one.archives two.archives p.archives

pub found_back : (name : List ℕ) (one two : ManifestText) → IsAlike one two → IsSome (archive_named name two.archives)
    → IsSome (archive_named name one.archives)
found_back name one two p = found_alike name two.archives one.archives (turned one.archives two.archives p.archives)
