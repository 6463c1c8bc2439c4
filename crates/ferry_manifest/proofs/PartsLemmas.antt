-- The bytes of a map that is packed with a tag, in front of the tag and behind it, are the same for each tag.
use Rattle.std.proofs.Common.{◌≡◌, ◌≢◌, ℕ, suc, ◌+◌, ◌^◌, ◌≤◌, ◌<◌, cond, ltb, List, [], ◌∷◌, ◌++◌, length, codes, Ordering, Less, Equal, Greater, nat_cmp}
use Rattle.std.proofs.Common.{is_eq, inl, inr, refl, sym, ap, subst, ◌∙◌, append_assoc, arith}
use Rattle.std.specs.Int.{w16, w32, to_be_bytes}
use Rattle.std.specs.Cmp.Lexicographic.{slice_cmp}
use Rattle.std.specs.Ordering.{match_ordering}
use Rattle.std.proofs.lemmas.Bool.{cases_lt, le-ltb, lt-ltb}
use Rattle.std.proofs.lemmas.Cmp.{tied_itself, nat_list_cmp_total}
use Rattle.std.proofs.lemmas.List.{length-append}
use Rattle.std.proofs.lemmas.Map.Text.{is_eq-slice_cmp}
use Rattle.std.proofs.lemmas.Slice.Eq.{bytes_eq-Decides}
use Rattle.std.proofs.lemmas.Nat.{from_be_bytes-to_be_bytes_2, from_be_bytes-to_be_bytes_4}
use Rattle.ferry_msgpack.specs.Tree.{Tree, raw, table, Pairs, no_pairs, pair, pairs_count, put}
use Rattle.ferry_msgpack.specs.First.{Count, given, behind, map_value, Row, fixmap, map16, map32, str16}
use Rattle.ferry_msgpack.specs.Spelling.{Counts, SpellsRaw, spells_bytes, Spells}
use Rattle.ferry_msgpack.specs.Shortest.{shortest_count, raw_head, map_head, shortest_raw, shortest, shortest_pairs}
use Rattle.ferry_msgpack.specs.Writable.{depth, pairs_depth, Fits, PairsFit, IsWritable}
use Rattle.ferry_msgpack.proofs.ShortestLemmas.{shortest_spelled}
use Rattle.ferry_manifest.specs.Place.{Passes, passes_none, passes_pair, LeadsTo, leads_to, Heads64, heads_64, TagStands}
use Rattle.ferry_manifest.specs.Tagged.{packed, tag_pairs, tagged_pairs}
use Rattle.ferry_manifest.proofs.TagLemmas.{five_parts}

-- ---- heads

record IsMapHead (n : ℕ) (text : List ℕ) : Type 0 where
  first : ℕ
  kind : Count
  count : List ℕ
  row : Row first (map_value kind)
  counts : Counts kind n count
  parts : text ≡ first ∷ count

below_or_not : (P : List ℕ → Type 0) (a b : ℕ) (x y : List ℕ) → (a < b → P x) → (b ≤ a → P y) → P (cond (ltb a b) x y)
below_or_not P a b x y below above =
    elim (cases_lt a b) [
      | inl lt ↦ rw (lt-ltb a b lt) (below lt)
      | inr le ↦ rw (le-ltb a b le) (above le)
    ]

map_head_is : (n : ℕ) → n < 2 ^ 32 → IsMapHead n (map_head n)
unfolding shortest_count
map_head_is n fits =
    below_or_not (IsMapHead n) n 0x10 _ _ (λ lt. record {
      first = 0x80 + n;
      kind = given n;
      count = [];
      row = fixmap n lt;
      counts = (refl, refl);
      parts =
          refl;
    })
    (λ le. below_or_not (IsMapHead n) n (2 ^ 16) _ _ (λ lt. record
    { first = 0xde; kind = behind w16; count = to_be_bytes w16 n; row = map16; counts = (sym (from_be_bytes-to_be_bytes_2 n lt), refl); parts = refl })
    (λ more. record {
      first = 0xdf;
      kind = behind w32;
      count = to_be_bytes w32 n;
      row = map32;
      counts = (sym (from_be_bytes-to_be_bytes_4 n fits), refl);
      parts = refl;
    }))

raw_head_64 : Heads64 (raw_head 64)
unfolding shortest_count
raw_head_64 = heads_64 0xda (behind w16) (0 ∷ 64 ∷ []) str16 (refl, refl)

raw_inside : (key bytes : List ℕ) → Spells (raw key) bytes → SpellsRaw key bytes
raw_inside key bytes (spells_bytes _ _ _ spelled) = spelled

key_spelled : (key : List ℕ) → length key < 2 ^ 32 → SpellsRaw key (shortest_raw key)
key_spelled key fits = raw_inside key (shortest_raw key) (shortest_spelled (raw key) (record { depth_fits = omega arith; fits = fits }))

-- ---- a value that is put among others

-- the bytes of pairs in front of a value that is put, and behind it
record PutParts (k : List ℕ) (ps : Pairs) : Type 0 where
  i : ℕ
  n : ℕ
  before : List ℕ
  after : List ℕ
  less : i < n
  count : (t : Tree) → pairs_count (put k t ps) ≡ n
  parts : (t : Tree) → shortest_pairs (put k t ps) ≡ before ++ (shortest_raw k ++ (shortest t ++ after))
  passes : Passes k i before

self_equal : (k : List ℕ) → slice_cmp nat_cmp k k ≡ Equal
self_equal k = tied_itself nat_list_cmp_total k

different : (k l : List ℕ) → slice_cmp nat_cmp k l ≡ Greater → l ≢ k
different k l is same = let e : Greater ≡ Equal = sym is ∙ ap (slice_cmp nat_cmp k) same ∙ self_equal k in cc

same_text : (k l : List ℕ) → slice_cmp nat_cmp k l ≡ Equal → k ≡ l
same_text k l e = (bytes_eq-Decides k l).0 (sym (is_eq-slice_cmp k l) ∙ ap is_eq e)

put_parts_at : (k l : List ℕ) (t u : Tree) (ps : Pairs) (o : Ordering) → slice_cmp nat_cmp k l ≡ o
    → pairs_depth (match_ordering o (pair k t (pair l u ps)) (pair l t ps) (pair l u (put k t ps))) ≤ 64
    → PairsFit (match_ordering o (pair k t (pair l u ps)) (pair l t ps) (pair l u (put k t ps)))
    → (pairs_depth (put k t ps) ≤ 64 → PairsFit (put k t ps) → PutParts k ps) → PutParts k (pair l u ps)
put_parts_at k l t u ps Less is deep fits rest = record {
  i = 0;
  n = pairs_count (pair l u ps) + 1;
  before = [];
  after = shortest_pairs (pair l u ps);
  less = omega arith;
  count = λ v. rw is refl;
  parts = λ v. rw is refl;
  passes = passes_none;
}
put_parts_at k l t u ps Equal is deep fits rest = record {
  i = 0;
  n = pairs_count ps + 1;
  before = [];
  after = shortest_pairs ps;
  less = omega arith;
  count = λ v. rw is refl;
  parts = λ v. rw is (ap (λ (m : List ℕ). shortest_raw m ++ (shortest v ++ shortest_pairs ps)) (sym (same_text k l is)));
  passes = passes_none;
}
put_parts_at k l t u ps Greater is deep fits rest =
    let others = rest (omega arith) fits.2 in
    let less = others.less in
    let value : Spells u (shortest u) = shortest_spelled u (record { depth_fits = omega arith; fits = fits.1 }) in
    record {
      i = suc others.i;
      n = others.n + 1;
      before = shortest_raw l ++ (shortest u ++ others.before);
      after = others.after;
      less = omega arith;
      count = λ v. rw (is, others.count v) refl;
      parts = λ v. rw (is, others.parts v)
          (sym (append_assoc (shortest_raw l) (shortest u ++ others.before) _
          ∙ ap (λ (s : List ℕ). shortest_raw l ++ s) (append_assoc (shortest u) others.before _)));
      passes = passes_pair others.i l u (shortest_raw l) (shortest u) others.before (key_spelled l fits.0) (different k l is) value others.passes;
    }

put_parts : (k : List ℕ) (t : Tree) (ps : Pairs) → pairs_depth (put k t ps) ≤ 64 → PairsFit (put k t ps) → PutParts k ps
put_parts k t no_pairs deep fits =
    record { i = 0; n = 1; before = []; after = []; less = omega arith; count = λ v. refl; parts = λ v. refl; passes = passes_none }
put_parts k t (pair l u ps) deep fits = put_parts_at k l t u ps (slice_cmp nat_cmp k l) refl deep fits (put_parts k t ps)

-- ---- the value of a name in a map

record TableParts (k : List ℕ) (ps : Pairs) : Type 0 where
  lead : List ℕ
  after : List ℕ
  leads : LeadsTo k lead
  parts : (t : Tree) → shortest (table (put k t ps)) ≡ lead ++ (shortest t ++ after)

table_parts : (k : List ℕ) (t : Tree) (ps : Pairs) → length k < 2 ^ 32 → depth (table (put k t ps)) ≤ 64 → Fits (table (put k t ps)) → TableParts k ps
table_parts k t ps short deep fits =
    let inside = put_parts k t ps (omega arith) fits.2 in
    let few : inside.n < 2 ^ 32 = subst (λ (n : ℕ). n < 2 ^ 32) (inside.count t) fits.0 in
    let head = map_head_is inside.n few in
    record {
      lead = head.first ∷ (head.count ++ (inside.before ++ shortest_raw k));
      after = inside.after;
      leads =
          leads_to head.first head.kind inside.n inside.i head.count inside.before (shortest_raw k) head.row head.counts inside.passes inside.less
          (key_spelled k short);
      parts = λ v. ap (λ (n : ℕ). map_head n ++ shortest_pairs (put k v ps)) (inside.count v)
          ∙ ap (λ (s : List ℕ). s ++ shortest_pairs (put k v ps)) head.parts
          ∙ ap (λ (s : List ℕ). (head.first ∷ head.count) ++ s) (inside.parts v)
          ∙ ap (λ (s : List ℕ). head.first ∷ s) (ap (λ (s : List ℕ). head.count ++ s) (sym (append_assoc inside.before (shortest_raw k) _))
          ∙ sym (append_assoc head.count (inside.before ++ shortest_raw k) _));
    }

-- ---- the tag

-- the bytes of a packed map in front of its tag and behind it
pub record PackedParts (pairs : Pairs) (salt : List ℕ) : Type 0 where
  pub front : List ℕ
  pub back : List ℕ
  pub parts : (hmac : List ℕ) → length hmac ≡ 64 → packed pairs hmac salt ≡ front ++ (hmac ++ back)
  pub stands : (hmac : List ℕ) → length hmac ≡ 64 → TagStands (packed pairs hmac salt) front hmac back

inside_fits_at : (k : List ℕ) (t : Tree) (l : List ℕ) (u : Tree) (ps : Pairs) (o : Ordering)
    → PairsFit (match_ordering o (pair k t (pair l u ps)) (pair l t ps) (pair l u (put k t ps))) → (PairsFit (put k t ps) → Fits t) → Fits t
inside_fits_at k t l u ps Less fits rest = fits.1
inside_fits_at k t l u ps Equal fits rest = fits.1
inside_fits_at k t l u ps Greater fits rest = rest fits.2

inside_fits : (k : List ℕ) (t : Tree) (ps : Pairs) → PairsFit (put k t ps) → Fits t
inside_fits k t no_pairs fits = fits.1
inside_fits k t (pair l u ps) fits = inside_fits_at k t l u ps (slice_cmp nat_cmp k l) fits (inside_fits k t ps)

raw_64 : (hmac : List ℕ) → length hmac ≡ 64 → shortest (raw hmac) ≡ raw_head 64 ++ hmac
raw_64 hmac size = ap (λ (n : ℕ). raw_head n ++ hmac) size

pub packed_parts : (pairs : Pairs) (first salt : List ℕ) → IsWritable (table (tagged_pairs pairs first salt)) → PackedParts pairs salt
unfolding packed tagged_pairs tag_pairs
packed_parts pairs first salt writable =
    let known = put (codes "salt") (raw salt) (put (codes "type") (raw (codes "HKDF_HMAC_SHA512")) no_pairs) in
    let outside =
    table_parts (codes "tam") (table (put (codes "hmac") (raw first) known)) pairs (omega arith) writable.depth_fits
    writable.fits in
    let fits : Fits (table (put (codes "hmac") (raw first) known)) =
    inside_fits (codes "tam") (table (put (codes "hmac") (raw first) known)) pairs writable.fits.2 in
    let inside = table_parts (codes "hmac") (raw first) known (omega arith) (omega arith) fits in
    let text : (hmac : List ℕ) → length hmac ≡ 64 → shortest (table
    (put (codes "tam") (table (put (codes "hmac") (raw hmac) known)) pairs))
    ≡ (outside.lead ++ (inside.lead ++ raw_head 64)) ++ (hmac ++ (inside.after ++ outside.after)) =
    λ hmac size. outside.parts (table (put (codes "hmac") (raw hmac) known))
    ∙ ap (λ (s : List ℕ). outside.lead ++ (s ++ outside.after))
    (inside.parts (raw hmac) ∙ ap (λ (s : List ℕ). inside.lead ++ (s ++ inside.after)) (raw_64 hmac size))
    ∙ five_parts outside.lead inside.lead (raw_head 64) hmac inside.after outside.after in
    record {
      front = outside.lead ++ (inside.lead ++ raw_head 64);
      back = inside.after ++ outside.after;
      parts = text;
      stands = λ hmac size. record {
        outer = outside.lead;
        inner = inside.lead;
        head = raw_head 64;
        tam = outside.leads;
        hmac = inside.leads;
        raw = raw_head_64;
        front_is = refl;
        size = size;
        parts = text hmac size;
      };
    }

-- ---- as many bytes for each tag

count_put_at : (k l : List ℕ) (t v u : Tree) (ps : Pairs) (o : Ordering) → pairs_count (put k t ps) ≡ pairs_count (put k v ps)
    → pairs_count (match_ordering o (pair k t (pair l u ps)) (pair l t ps) (pair l u (put k t ps)))
    ≡ pairs_count (match_ordering o (pair k v (pair l u ps)) (pair l v ps) (pair l u (put k v ps)))
count_put_at k l t v u ps Less rest = refl
count_put_at k l t v u ps Equal rest = refl
count_put_at k l t v u ps Greater rest = ap (λ n. n + 1) rest

count_put : (k : List ℕ) (t v : Tree) (ps : Pairs) → pairs_count (put k t ps) ≡ pairs_count (put k v ps)
count_put k t v no_pairs = refl
count_put k t v (pair l u ps) = count_put_at k l t v u ps (slice_cmp nat_cmp k l) (count_put k t v ps)

same_second : (a x y b : List ℕ) → length x ≡ length y → length (a ++ (x ++ b)) ≡ length (a ++ (y ++ b))
same_second a x y b same = omega (arith, length-append a (x ++ b), length-append a (y ++ b), length-append x b, length-append y b)

size_put_at : (k l : List ℕ) (t v u : Tree) (ps : Pairs) (o : Ordering) → length (shortest t) ≡ length (shortest v)
    → length (shortest_pairs (put k t ps)) ≡ length (shortest_pairs (put k v ps))
    → length (shortest_pairs (match_ordering o (pair k t (pair l u ps)) (pair l t ps) (pair l u (put k t ps))))
    ≡ length (shortest_pairs (match_ordering o (pair k v (pair l u ps)) (pair l v ps) (pair l u (put k v ps))))
size_put_at k l t v u ps Less same rest = same_second (shortest_raw k) (shortest t) (shortest v) (shortest_pairs (pair l u ps)) same
size_put_at k l t v u ps Equal same rest = same_second (shortest_raw l) (shortest t) (shortest v) (shortest_pairs ps) same
size_put_at k l t v u ps Greater same rest =
    omega (
      arith,
      rest,
      length-append (shortest_raw l) (shortest u ++ shortest_pairs (put k t ps)),
      length-append (shortest_raw l) (shortest u ++ shortest_pairs (put k v ps)),
      length-append (shortest u) (shortest_pairs (put k t ps)),
      length-append (shortest u) (shortest_pairs (put k v ps)),
    )

size_put : (k : List ℕ) (t v : Tree) (ps : Pairs) → length (shortest t) ≡ length (shortest v)
    → length (shortest_pairs (put k t ps)) ≡ length (shortest_pairs (put k v ps))
size_put k t v no_pairs same = same_second (shortest_raw k) (shortest t) (shortest v) [] same
size_put k t v (pair l u ps) same = size_put_at k l t v u ps (slice_cmp nat_cmp k l) same (size_put k t v ps same)

table_size : (k : List ℕ) (t v : Tree) (ps : Pairs) → length (shortest t) ≡ length (shortest v)
    → length (shortest (table (put k t ps))) ≡ length (shortest (table (put k v ps)))
table_size k t v ps same =
    let all = size_put k t v ps same in
    let heads : length (map_head (pairs_count (put k t ps))) ≡ length (map_head (pairs_count (put k v ps))) =
    ap (λ n. length (map_head n)) (count_put k t v ps) in
    omega (
      arith,
      length-append (map_head (pairs_count (put k t ps))) (shortest_pairs (put k t ps)),
      length-append (map_head (pairs_count (put k v ps)))
          (shortest_pairs (put k v ps)),
    )

raw_size : (x y : List ℕ) → length x ≡ length y → length (shortest (raw x)) ≡ length (shortest (raw y))
raw_size x y same =
    let heads : length (raw_head (length x)) ≡ length (raw_head (length y)) = ap (λ n. length (raw_head n)) same in
    omega (arith, length-append (raw_head (length x)) x, length-append (raw_head (length y)) y)

pub packed_size : (pairs : Pairs) (x y salt : List ℕ) → length x ≡ length y → length (packed pairs x salt) ≡ length (packed pairs y salt)
unfolding packed tagged_pairs tag_pairs
packed_size pairs x y salt same =
    table_size (codes "tam") _ _ pairs (table_size (codes "hmac") (raw x) (raw y)
    (put (codes "salt") (raw salt) (put (codes "type") (raw (codes "HKDF_HMAC_SHA512")) no_pairs)) (raw_size x y same))
