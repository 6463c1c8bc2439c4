-- A map that is spelled has the tag in its place, and with other bytes there it is spelled too.
use Rattle.std.proofs.Common.{◌≡◌, ◌≢◌, ℕ, suc, ◌≤◌, ◌<◌, Bool, true, false, ◌||◌, List, [], ◌∷◌, ◌++◌, length, codes, Option, Some, None, is_some, Ordering}
use Rattle.std.proofs.Common.{Less, Equal, Greater, nat_cmp, is_eq, refl, sym, ap, subst, ◌∙◌, append_assoc, arith}
use Rattle.std.specs.Cmp.Lexicographic.{slice_cmp}
use Rattle.std.specs.Str.{bytes_eq}
use Rattle.std.proofs.lemmas.Bool.{false≢true}
use Rattle.std.proofs.lemmas.Cmp.{nat_list_cmp_total, tied_itself}
use Rattle.std.proofs.lemmas.Map.Text.{is_eq-slice_cmp}
use Rattle.std.proofs.lemmas.Slice.Eq.{bytes_eq-Decides}
use Rattle.ferry_msgpack.specs.Tree.{Tree, raw, table, Pairs, no_pairs, pair, has_key, put}
use Rattle.ferry_msgpack.specs.Spelling.{Counts, SpellsRaw, spells_raw, SpellsWithin, spells_bytes, spells_map, SpellsPairs, spells_no_pairs, spells_pair}
use Rattle.ferry_msgpack.specs.Spelling.{Spells}
use Rattle.ferry_msgpack.proofs.TreeLemmas.{put-swap}
use Rattle.ferry_fields.specs.Fields.{value_of}
use Rattle.ferry_fields.proofs.FieldLemmas.{value_of-here, value_of-other, value_of-none}
use Rattle.ferry_fields.proofs.PutLemmas.{value_of-put, value_of-put_other}
use Rattle.ferry_manifest.specs.Place.{Passes, passes_none, passes_pair, LeadsTo, leads_to, Heads64, heads_64, TagStands}
use Rattle.ferry_manifest.proofs.PlaceLemmas.{deeper, bytes_differ, one_place}

-- ---- pairs put twice

put_again_at : (k : List ℕ) (t u : Tree) (l : List ℕ) (w : Tree) (ps : Pairs) (o : Ordering) → slice_cmp nat_cmp k l ≡ o → put k u (put k t ps) ≡ put k u ps
    → put k u (put k t (pair l w ps)) ≡ put k u (pair l w ps)
put_again_at k t u l w ps Less is rest = rw (is, tied_itself nat_list_cmp_total k) refl
put_again_at k t u l w ps Equal is rest = rw (is, is) refl
put_again_at k t u l w ps Greater is rest = rw (is, is) (ap (pair l w) rest)

pub put-again : (k : List ℕ) (t u : Tree) (ps : Pairs) → put k u (put k t ps) ≡ put k u ps
put-again k t u no_pairs = rw (tied_itself nat_list_cmp_total k) refl
put-again k t u (pair l w ps) = put_again_at k t u l w ps (slice_cmp nat_cmp k l) refl (put-again k t u ps)

-- ---- names that are there

is_eq-same : (k : List ℕ) → is_eq (slice_cmp nat_cmp k k) ≡ true
is_eq-same k = rw (tied_itself nat_list_cmp_total k) refl

is_eq-differ : (k l : List ℕ) → k ≢ l → is_eq (slice_cmp nat_cmp k l) ≡ false
is_eq-differ k l other = is_eq-slice_cmp k l ∙ bytes_differ k l other

has_value_at : (k l : List ℕ) (t : Tree) (ps : Pairs) (b : Bool) → bytes_eq l k ≡ b → has_key k ps ≡ is_some (value_of k ps)
    → has_key k (pair l t ps) ≡ is_some (value_of k (pair l t ps))
has_value_at k l t ps true is rest =
    let same : l ≡ k = (bytes_eq-Decides l k).0 is in
    rw (value_of-here k l t ps is) (ap (λ (m : List ℕ). is_eq (slice_cmp nat_cmp k m) || has_key k ps) same
    ∙ ap (λ (b : Bool). b || has_key k ps) (is_eq-same k))
has_value_at k l t ps false is rest =
    let other : k ≢ l = λ same. false≢true (sym is ∙ (bytes_eq-Decides l k).1 (sym same)) in
    ap (λ (b : Bool). b || has_key k ps) (is_eq-differ k l other) ∙ rest ∙ ap is_some (sym (value_of-other k l t ps is))

-- a name is there where it has a value
pub has_value : (k : List ℕ) (ps : Pairs) → has_key k ps ≡ is_some (value_of k ps)
has_value k no_pairs = rw (value_of-none k) refl
has_value k (pair l t ps) = has_value_at k l t ps (bytes_eq l k) refl (has_value k ps)

-- a name that is not there is another one than one that is
other_name : (l k : List ℕ) (t : Tree) (ps : Pairs) → has_key l ps ≡ false → value_of k ps ≡ Some t → l ≢ k
other_name l k t ps new found same = false≢true (sym new ∙ ap (λ (m : List ℕ). has_key m ps) same ∙ has_value k ps ∙ ap is_some found)

has_key-put_other : (l k : List ℕ) (u : Tree) (ps : Pairs) → l ≢ k → has_key l (put k u ps) ≡ has_key l ps
has_key-put_other l k u ps other =
    has_value l (put k u ps) ∙ ap is_some (value_of-put_other l k u ps (bytes_differ k l (λ same. other (sym same)))) ∙ sym (has_value l ps)

-- ---- pairs that are spelled behind others

-- a value that stands before stays
value_kept : (d m : ℕ) (before pairs : Pairs) (bytes : List ℕ) (k : List ℕ) (t : Tree) → SpellsPairs d m before pairs bytes → value_of k before ≡ Some t
    → value_of k pairs ≡ Some t
value_kept d m before pairs bytes k t (spells_no_pairs _ _) found = found
value_kept d m before pairs bytes k t (spells_pair _ n _ _ l u front middle rest named new spelled others) found =
    value_kept d n (put l u before) pairs rest k t others (value_of-put_other k l u before (bytes_differ l k (other_name l k t before new found)) ∙ found)

-- with another value for a name that stands before, the same bytes spell the same pairs but that value
other_value : (d m : ℕ) (before pairs : Pairs) (bytes : List ℕ) (k : List ℕ) (t u : Tree) → SpellsPairs d m before pairs bytes → value_of k before ≡ Some t
    → SpellsPairs d m (put k u before) (put k u pairs) bytes
other_value d m before pairs bytes k t u (spells_no_pairs _ _) found = spells_no_pairs d (put k u before)
other_value d m before pairs bytes k t u (spells_pair _ n _ _ l w front middle rest named new spelled others) found =
    let other = other_name l k t before new found in
    let still : value_of k (put l w before) ≡ Some t = value_of-put_other k l w before (bytes_differ l k other) ∙ found in
    let moved : SpellsPairs d n (put k u (put l w before)) (put k u pairs) rest = other_value d n (put l w before) pairs rest k t u others still in
    let swapped = put-swap k l u w before (λ same. other (sym same)) in
    spells_pair d n (put k u before) (put k u pairs) l w front middle rest named (has_key-put_other l k u before other ∙ new) spelled
    (subst (λ (ps : Pairs). SpellsPairs d n ps (put k u pairs) rest) swapped moved)

-- where the value of a name stands among pairs, and that another may stand there
record PairStands (d : ℕ) (name : List ℕ) (n : ℕ) (before pairs : Pairs) (bytes : List ℕ) (t : Tree) : Type 0 where
  i : ℕ
  passed : List ℕ
  named : List ℕ
  middle : List ℕ
  after : List ℕ
  parts : bytes ≡ passed ++ (named ++ (middle ++ after))
  passes : Passes name i passed
  less : i < n
  key : SpellsRaw name named
  spelled : SpellsWithin d t middle
  again : (u : Tree) (new : List ℕ) → SpellsWithin d u new → SpellsPairs d n before (put name u pairs) (passed ++ (named ++ (new ++ after)))

same_tree : (t u : Tree) → Some t ≡ Some u → t ≡ u
same_tree t u e = cc

pair_here : (d n : ℕ) (before pairs : Pairs) (name : List ℕ) (t u : Tree) (front middle rest : List ℕ) → SpellsRaw name front → has_key name before ≡ false
    → SpellsWithin d u middle → SpellsPairs d n (put name u before) pairs rest → value_of name pairs ≡ Some t
    → PairStands d name (suc n) before pairs (front ++ (middle ++ rest)) t
pair_here d n before pairs name t u front middle rest named new spelled others found =
    let same : u ≡ t = same_tree u t (sym (value_kept d n (put name u before) pairs rest name u others (value_of-put name u before)) ∙ found) in
    record {
      i = 0;
      passed = [];
      named = front;
      middle = middle;
      after = rest;
      parts = refl;
      passes = passes_none;
      less = omega arith;
      key = named;
      spelled = subst (λ (v : Tree). SpellsWithin d v middle) same spelled;
      again = λ v new_bytes new_spelled. spells_pair d n before (put name v pairs) name v front new_bytes rest named new new_spelled
          (subst (λ (ps : Pairs). SpellsPairs d n ps (put name v pairs) rest) (put-again name u v before)
          (other_value d n (put name u before) pairs rest name u v others (value_of-put name u before)));
    }

pair_later : (d n : ℕ) (before pairs : Pairs) (name key : List ℕ) (t u : Tree) (front middle rest : List ℕ) → d ≤ 64 → key ≢ name → SpellsRaw key front
    → has_key key before ≡ false → SpellsWithin d u middle
    → PairStands d name n (put key u before) pairs rest t → PairStands d name (suc n) before pairs (front ++ (middle ++ rest)) t
pair_later d n before pairs name key t u front middle rest deep other named new spelled stands =
    let less = stands.less in
    let more : (new_bytes : List ℕ) → front ++ (middle ++ (stands.passed ++ (stands.named ++ (new_bytes ++ stands.after))))
    ≡ (front ++ (middle ++ stands.passed)) ++ (stands.named ++ (new_bytes ++ stands.after)) =
    λ new_bytes. sym (append_assoc front (middle ++ stands.passed) _ ∙ ap (λ (s : List ℕ). front ++ s) (append_assoc middle stands.passed _)) in
    record {
      i = suc stands.i;
      passed = front ++ (middle ++ stands.passed);
      named = stands.named;
      middle = stands.middle;
      after = stands.after;
      parts = ap (λ (s : List ℕ). front ++ (middle ++ s)) stands.parts ∙ more stands.middle;
      passes = passes_pair stands.i key u front middle stands.passed named other (deeper d 64 u middle deep spelled) stands.passes;
      less = omega arith;
      key = stands.key;
      spelled = stands.spelled;
      again = λ v new_bytes new_spelled. subst (SpellsPairs d (suc n) before (put name v pairs)) (more new_bytes)
          (spells_pair d n before (put name v pairs) key u front middle (stands.passed ++ (stands.named ++ (new_bytes ++ stands.after))) named new spelled
          (stands.again v new_bytes new_spelled));
    }

no_value : (t : Tree) (o : Option Tree) → o ≡ None → o ≡ Some t → ⊥
no_value t o none some = cc

pair_cases : (d n : ℕ) (before pairs : Pairs) (name key : List ℕ) (t u : Tree) (front middle rest : List ℕ) → d ≤ 64 → SpellsRaw key front
    → has_key key before ≡ false → SpellsWithin d u middle → SpellsPairs d n (put key u before) pairs rest
    → value_of name before ≡ None → value_of name pairs ≡ Some t
    → (value_of name (put key u before) ≡ None → PairStands d name n (put key u before) pairs rest t)
    → (b : Bool) → bytes_eq key name ≡ b → PairStands d name (suc n) before pairs (front ++ (middle ++ rest)) t
pair_cases d n before pairs name key t u front middle rest deep named new spelled others none found next true is =
    let same : key ≡ name = (bytes_eq-Decides key name).0 is in
    pair_here d n before pairs name t u front middle rest (subst (λ (k : List ℕ). SpellsRaw k front) same named)
    (subst (λ (k : List ℕ). has_key k before ≡ false) same new) spelled
    (subst (λ (k : List ℕ). SpellsPairs d n (put k u before) pairs rest) same others) found
pair_cases d n before pairs name key t u front middle rest deep named new spelled others none found next false is =
    let other : key ≢ name = λ same. false≢true (sym is ∙ (bytes_eq-Decides key name).1 same) in
    pair_later d n before pairs name key t u front middle rest deep other named new spelled (next (value_of-put_other name key u before is ∙ none))

pair_stands : (d n : ℕ) (before pairs : Pairs) (bytes name : List ℕ) (t : Tree) → d ≤ 64 → SpellsPairs d n before pairs bytes → value_of name before ≡ None
    → value_of name pairs ≡ Some t → PairStands d name n before pairs bytes t
pair_stands d n before pairs bytes name t deep (spells_no_pairs _ _) none found = absurd (no_value t (value_of name before) none found)
pair_stands d n before pairs bytes name t deep (spells_pair _ m _ _ key u front middle rest named new spelled others) none found =
    pair_cases d m before pairs name key t u front middle rest deep named new spelled others none found
    (λ none_next. pair_stands d m (put key u before) pairs rest name t deep others none_next found) (bytes_eq key name) refl

-- ---- the value of a name in a map

record ValueStands (d : ℕ) (name : List ℕ) (pairs : Pairs) (bytes : List ℕ) (t : Tree) : Type 0 where
  lead : List ℕ
  middle : List ℕ
  after : List ℕ
  parts : bytes ≡ lead ++ (middle ++ after)
  leads : LeadsTo name lead
  spelled : SpellsWithin d t middle
  again : (u : Tree) (new : List ℕ) → SpellsWithin d u new → SpellsWithin (suc d) (table (put name u pairs)) (lead ++ (new ++ after))

value_stands : (d : ℕ) (name : List ℕ) (pairs : Pairs) (bytes : List ℕ) (t : Tree) → d ≤ 64 → SpellsWithin (suc d) (table pairs) bytes
    → value_of name pairs ≡ Some t → ValueStands d name pairs bytes t
value_stands d name pairs bytes t deep (spells_map _ b c n _ count body row counts spelled) found =
    let stands = pair_stands d n no_pairs pairs body name t deep spelled (value_of-none name) found in
    let more : (new : List ℕ) → b ∷ (count ++ (stands.passed ++ (stands.named ++ (new ++ stands.after))))
    ≡ (b ∷ (count ++ (stands.passed ++ stands.named))) ++ (new ++ stands.after) =
    λ new. ap (λ (s : List ℕ). b ∷ s) (sym (append_assoc count (stands.passed ++ stands.named) _
    ∙ ap (λ (s : List ℕ). count ++ s) (append_assoc stands.passed stands.named _))) in
    record {
      lead = b ∷ (count ++ (stands.passed ++ stands.named));
      middle = stands.middle;
      after = stands.after;
      parts = ap (λ (s : List ℕ). b ∷ (count ++ s)) stands.parts ∙ more stands.middle;
      leads = leads_to b c n stands.i count stands.passed stands.named row counts stands.passes stands.less stands.key;
      spelled = stands.spelled;
      again = λ u new new_spelled. subst (SpellsWithin (suc d) (table (put name u pairs))) (more new)
          (spells_map d b c n (put name u pairs) count (stands.passed ++ (stands.named ++ (new ++ stands.after))) row counts (stands.again u new new_spelled));
    }

-- ---- a raw of 64 bytes

record RawStands (d : ℕ) (tag bytes : List ℕ) : Type 0 where
  head : List ℕ
  parts : bytes ≡ head ++ tag
  heads : Heads64 head
  again : (other : List ℕ) → length other ≡ 64 → SpellsWithin d (raw other) (head ++ other)

raw_parts : (d : ℕ) (tag bytes : List ℕ) → SpellsRaw tag bytes → length tag ≡ 64 → RawStands d tag bytes
raw_parts d tag bytes (spells_raw b c count _ row counts) size = record {
  head = b ∷ count;
  parts = refl;
  heads = heads_64 b c count row (subst (λ (n : ℕ). Counts c n count) size counts);
  again =
      λ other same. spells_bytes d other (b ∷ (count ++ other))
      (spells_raw b c count other row (subst (λ (n : ℕ). Counts c n count) (size ∙ sym same) counts));
}

raw_stands : (d : ℕ) (tag bytes : List ℕ) → SpellsWithin d (raw tag) bytes → length tag ≡ 64 → RawStands d tag bytes
raw_stands d tag bytes (spells_bytes _ _ _ spelled) size = raw_parts d tag bytes spelled size

-- ---- the tag

record HasTag (bytes tag : List ℕ) (pairs inner : Pairs) : Type 0 where
  front : List ℕ
  back : List ℕ
  stands : TagStands bytes front tag back
  again : (other : List ℕ) → length other ≡ 64 → Spells (table (put (codes "tam") (table (put (codes "hmac") (raw other) inner)) pairs)) (front
      ++ (other ++ back))

-- the parts of a map inside a map, joined
pub five_parts : (a b c x d e : List ℕ) → a ++ ((b ++ ((c ++ x) ++ d)) ++ e) ≡ (a ++ (b ++ c)) ++ (x ++ (d ++ e))
five_parts a b c x d e = simp append_assoc

has_tag : (bytes tag : List ℕ) (pairs inner : Pairs) → Spells (table pairs) bytes → value_of (codes "tam") pairs ≡ Some (table inner)
    → value_of (codes "hmac") inner ≡ Some (raw tag) → length tag ≡ 64 → HasTag bytes tag pairs inner
has_tag bytes tag pairs inner spelled tam hmac size =
    let outside = value_stands 63 (codes "tam") pairs bytes (table inner) (omega arith) spelled tam in
    let inside = value_stands 62 (codes "hmac") inner outside.middle (raw tag) (omega arith) outside.spelled hmac in
    let bottom = raw_stands 62 tag inside.middle inside.spelled size in
    let text : bytes ≡ outside.lead ++ ((inside.lead ++ ((bottom.head ++ tag) ++ inside.after)) ++ outside.after) =
    outside.parts ∙ ap (λ (s : List ℕ). outside.lead ++ (s ++ outside.after))
    (inside.parts ∙ ap (λ (s : List ℕ). inside.lead ++ (s ++ inside.after)) bottom.parts) in
    record {
      front = outside.lead ++ (inside.lead ++ bottom.head);
      back = inside.after ++ outside.after;
      stands = record {
        outer = outside.lead;
        inner = inside.lead;
        head = bottom.head;
        tam = outside.leads;
        hmac = inside.leads;
        raw = bottom.heads;
        front_is = refl;
        size = size;
        parts = text ∙ five_parts outside.lead inside.lead bottom.head tag inside.after outside.after;
      };
      again =
          λ other same. subst (Spells (table (put (codes "tam") (table (put (codes "hmac") (raw other) inner)) pairs)))
          (five_parts outside.lead inside.lead bottom.head other inside.after outside.after)
          (outside.again (table (put (codes "hmac") (raw other) inner)) (inside.lead ++ ((bottom.head ++ other) ++ inside.after))
          (inside.again (raw other) (bottom.head ++ other) (bottom.again other same)));
    }

-- a map with a tag has it in a place
pub tag_stands : (bytes tag : List ℕ) (pairs inner : Pairs) → Spells (table pairs) bytes → value_of (codes "tam") pairs ≡ Some (table inner)
    → value_of (codes "hmac") inner ≡ Some (raw tag) → length tag ≡ 64
    → (front : List ℕ) × ((back : List ℕ) × TagStands bytes front tag back)
tag_stands bytes tag pairs inner spelled tam hmac size =
    let has = has_tag bytes tag pairs inner spelled tam hmac size in
    (has.front, (has.back, has.stands))

-- with other bytes in that place it is the same map but for the tag
pub tag_replaced : (bytes tag : List ℕ) (pairs inner : Pairs) (front back other : List ℕ) → Spells (table pairs) bytes
    → value_of (codes "tam") pairs ≡ Some (table inner) → value_of (codes "hmac") inner ≡ Some (raw tag)
    → TagStands bytes front tag back → length other ≡ 64 → Spells (table (put (codes "tam") (table (put (codes "hmac") (raw other) inner)) pairs)) (front
    ++ (other ++ back))
tag_replaced bytes tag pairs inner front back other spelled tam hmac stands size =
    let has = has_tag bytes tag pairs inner spelled tam hmac stands.size in
    let same = one_place bytes has.front tag has.back front tag back has.stands stands in
    let t = table (put (codes "tam") (table (put (codes "hmac") (raw other) inner)) pairs) in
    subst (λ (s : List ℕ). Spells t (s ++ (other ++ back))) same.0 (subst (λ (s : List ℕ). Spells t (has.front ++ (other ++ s))) same.2 (has.again other size))
