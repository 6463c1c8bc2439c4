-- The place of the authentication tag: what the walk finds is where the tag stands, and nowhere else does it stand.
use Rattle.std.proofs.Common.{◌≡◌, ◌≢◌, ℕ, zero, suc, ◌-◌, ◌≤◌, ◌<◌, Bool, true, false, ltb, List, [], ◌∷◌, ◌++◌, length, take, drop, replicate, codes, Option}
use Rattle.std.proofs.Common.{Some, refl, sym, ap, subst, ◌∙◌, append_assoc, arith}
use Rattle.std.specs.Int.{Width, w16, w32, byte_len, from_be_bytes}
use Rattle.std.specs.Str.{bytes_eq}
use Rattle.std.proofs.lemmas.Bool.{le-ltb}
use Rattle.std.proofs.lemmas.Bool.Decides.{nat_tests}
use Rattle.std.proofs.lemmas.List.{take-append-drop, take_at, drop_at, length-append}
use Rattle.std.proofs.lemmas.Slice.Eq.{bytes_eq-Decides}
use Rattle.ferry_msgpack.specs.Tree.{Tree, raw, Items, Pairs}
use Rattle.ferry_msgpack.specs.First.{Count, map_value, Row, fixmap, map16, map32}
use Rattle.ferry_msgpack.specs.Spelling.{Counts, SpellsRaw, spells_raw, SpellsWithin, spells_nil, spells_flag, spells_small, spells_unsigned, spells_signed}
use Rattle.ferry_msgpack.specs.Spelling.{spells_bytes, spells_array, spells_map, SpellsItems, spells_no_items, spells_item, SpellsPairs, spells_no_pairs}
use Rattle.ferry_msgpack.specs.Spelling.{spells_pair}
use Rattle.ferry_manifest.specs.Place.{first_place, Passes, passes_none, passes_pair, LeadsTo, leads_to, Heads64, heads_64, TagStands}
use Rattle.ferry_manifest.specs.Walk.{count_front, map_front, value_front, behind_name, behind_name_in_map, behind_raw64, behind_tag, zeroed}
use Rattle.ferry_manifest.proofs.WalkLemmas.{value_front-spelled}

-- ---- a spelling where more arrays and maps may stand inside each other

mutual
  pub deeper : (d e : ℕ) (t : Tree) (bytes : List ℕ) → d ≤ e → SpellsWithin d t bytes → SpellsWithin e t bytes
  deeper d e t bytes le (spells_nil _ b row) = spells_nil e b row
  deeper d e t bytes le (spells_flag _ b f row) = spells_flag e b f row
  deeper d e t bytes le (spells_small _ b z row) = spells_small e b z row
  deeper d e t bytes le (spells_unsigned _ b w content row len) = spells_unsigned e b w content row len
  deeper d e t bytes le (spells_signed _ b w content row len) = spells_signed e b w content row len
  deeper d e t bytes le (spells_bytes _ content _ spelled) = spells_bytes e content bytes spelled
  deeper d zero t bytes le (spells_array inner b c items count body row counts spelled) = absurd (omega arith)
  deeper d (suc e) t bytes le (spells_array inner b c items count body row counts spelled) =
      spells_array e b c items count body row counts (items_deeper inner e items body (omega arith) spelled)
  deeper d zero t bytes le (spells_map inner b c n pairs count body row counts spelled) = absurd (omega arith)
  deeper d (suc e) t bytes le (spells_map inner b c n pairs count body row counts spelled) =
      spells_map e b c n pairs count body row counts (pairs_deeper inner e n _ pairs body (omega arith) spelled)

  items_deeper : (d e : ℕ) (items : Items) (bytes : List ℕ) → d ≤ e → SpellsItems d items bytes → SpellsItems e items bytes
  items_deeper d e items bytes le (spells_no_items _) = spells_no_items e
  items_deeper d e items bytes le (spells_item _ t ts front rest spelled others) =
      spells_item e t ts front rest (deeper d e t front le spelled) (items_deeper d e ts rest le others)

  pairs_deeper : (d e n : ℕ) (before pairs : Pairs) (bytes : List ℕ) → d ≤ e → SpellsPairs d n before pairs bytes → SpellsPairs e n before pairs bytes
  pairs_deeper d e n before pairs bytes le (spells_no_pairs _ _) = spells_no_pairs e before
  pairs_deeper d e n before pairs bytes le (spells_pair _ m _ _ key t front middle rest named new spelled others) =
      spells_pair e m before pairs key t front middle rest named new (deeper d e t middle le spelled) (pairs_deeper d e m _ pairs rest le others)

-- ---- what the walk finds

count_front-is : (w : Width) (count rest : List ℕ) → length count ≡ byte_len w → count_front w (count ++ rest) ≡ Some (from_be_bytes w count, rest)
unfolding count_front
count_front-is w count rest len =
    let long : ltb (length (count ++ rest)) (byte_len w) ≡ false = le-ltb _ _ (omega (arith, length-append count rest)) in
    rw (long, take_at count rest (byte_len w) len, drop_at count rest (byte_len w) len) refl

map_front-is : (b : ℕ) (c : Count) (n : ℕ) (count rest : List ℕ) → Row b (map_value c) → Counts c n count → map_front (b ∷ (count ++ rest)) ≡ Some (n, rest)
unfolding map_front
map_front-is b c n count rest (fixmap m lt) counts = rw (counts.0, counts.1) (grind (arith, nat_tests))
map_front-is b c n count rest map16 counts = rw counts.0 (count_front-is w16 count rest counts.1)
map_front-is b c n count rest map32 counts = rw counts.0 (count_front-is w32 count rest counts.1)

not_same : (k l : List ℕ) (b : Bool) → bytes_eq k l ≡ b → k ≢ l → bytes_eq k l ≡ false
not_same k l true is other = absurd (other ((bytes_eq-Decides k l).0 is))
not_same k l false is other = is

pub bytes_differ : (k l : List ℕ) → k ≢ l → bytes_eq k l ≡ false
bytes_differ k l other = not_same k l (bytes_eq k l) refl other

key_front : (key front rest : List ℕ) → SpellsRaw key front → value_front (front ++ rest) ≡ Some (raw key, rest)
key_front key front rest named = value_front-spelled (raw key) front rest (spells_bytes 64 key front named)

behind_passed : (name : List ℕ) (i n : ℕ) (pairs named rest : List ℕ) → Passes name i pairs → i < n → SpellsRaw name named
    → behind_name name n (pairs ++ (named ++ rest)) ≡ Some rest
unfolding behind_name
behind_passed name i zero pairs named rest passed lt spelled = absurd (omega arith)
behind_passed name i (suc n) pairs named rest passes_none lt spelled =
    let same : bytes_eq name name ≡ true = (bytes_eq-Decides name name).1 refl in
    rw (key_front name named rest spelled, same) refl
behind_passed name i (suc n) pairs named rest (passes_pair m key t front middle others key_spelled other value_spelled passed) lt spelled =
    let differs : bytes_eq key name ≡ false = bytes_differ key name other in
    let parts : (front ++ (middle ++ others)) ++ (named ++ rest) ≡ front ++ (middle ++ (others ++ (named ++ rest))) =
    append_assoc front (middle ++ others) (named ++ rest) ∙ ap (λ (s : List ℕ). front ++ s) (append_assoc middle others (named ++ rest)) in
    ap (behind_name name (suc n)) parts
    ∙ rw (
      key_front key front (middle ++ (others ++ (named ++ rest))) key_spelled,
      differs,
      value_front-spelled t middle (others ++ (named ++ rest))
          value_spelled,
    ) (behind_passed name m n others named rest passed (omega arith) spelled)

behind_lead : (name lead rest : List ℕ) → LeadsTo name lead → behind_name_in_map name (lead ++ rest) ≡ Some rest
unfolding behind_name_in_map
behind_lead name lead rest (leads_to b c n i count pairs named row counts passed less spelled) =
    let parts : (count ++ (pairs ++ named)) ++ rest ≡ count ++ (pairs ++ (named ++ rest)) =
    append_assoc count (pairs ++ named) rest ∙ ap (λ (s : List ℕ). count ++ s) (append_assoc pairs named rest) in
    rw (parts, map_front-is b c n count (pairs ++ (named ++ rest)) row counts) (behind_passed name i n pairs named rest passed less spelled)

behind_head : (head tag back : List ℕ) → Heads64 head → length tag ≡ 64 → behind_raw64 (head ++ (tag ++ back)) ≡ Some back
unfolding behind_raw64
behind_head head tag back (heads_64 b c count row counts) size =
    let spelled : SpellsRaw tag (b ∷ (count ++ tag)) = spells_raw b c count tag row (subst (λ (n : ℕ). Counts c n count) (sym size) counts) in
    rw (← append_assoc count tag back, key_front tag (b ∷ (count ++ tag)) back spelled, size) refl

pub behind_tag-is : (bytes front tag back : List ℕ) → TagStands bytes front tag back → behind_tag bytes ≡ Some back
unfolding behind_tag
behind_tag-is bytes front tag back stands =
    let inside = stands.inner ++ (stands.head ++ (tag ++ back)) in
    let parts : bytes ≡ stands.outer ++ inside =
    stands.parts ∙ ap (λ (s : List ℕ). s ++ (tag ++ back)) stands.front_is ∙ append_assoc stands.outer (stands.inner ++ stands.head) (tag ++ back)
    ∙ ap (λ (s : List ℕ). stands.outer ++ s) (append_assoc stands.inner stands.head (tag ++ back)) in
    rw (parts, behind_lead (codes "tam") stands.outer inside stands.tam, behind_lead (codes "hmac") stands.inner (stands.head ++ (tag ++ back)) stands.hmac)
    (behind_head stands.head tag back stands.raw stands.size)

-- ---- one place

front_size : (bytes front tag back : List ℕ) → TagStands bytes front tag back → length front ≡ length bytes - length back - 64
front_size bytes front tag back stands =
    let size = stands.size in
    omega (arith, ap length stands.parts, length-append front (tag ++ back), length-append tag back, size)

pub zeroed-is : (bytes front tag back : List ℕ) → TagStands bytes front tag back → zeroed bytes ≡ front ++ (replicate 64 0 ++ back)
unfolding zeroed
zeroed-is bytes front tag back stands =
    let text : take (length bytes - length back - 64) bytes ≡ front =
    ap (take (length bytes - length back - 64)) stands.parts ∙ take_at front (tag ++ back) _ (front_size bytes front tag back stands) in
    rw (behind_tag-is bytes front tag back stands, text) refl

abbrev some_bytes : List ℕ → Option (List ℕ)
some_bytes bytes = Some bytes

-- the tag has one place
pub one_place : (bytes front tag back front2 tag2 back2 : List ℕ) → TagStands bytes front tag back → TagStands bytes front2 tag2 back2
    → (front ≡ front2) × (tag ≡ tag2) × (back ≡ back2)
one_place bytes front tag back front2 tag2 back2 first second =
    let same : some_bytes back ≡ some_bytes back2 = sym (behind_tag-is bytes front tag back first) ∙ behind_tag-is bytes front2 tag2 back2 second in
    let backs : back ≡ back2 = cc in
    let place : length front ≡ length front2 =
    omega (arith, front_size bytes front tag back first, front_size bytes front2 tag2 back2 second, ap length backs) in
    let joined : front ++ (tag ++ back) ≡ front2 ++ (tag2 ++ back2) = sym first.parts ∙ second.parts in
    let fronts : front ≡ front2 =
    sym (take_at front (tag ++ back) (length front) refl) ∙ ap (take (length front)) joined
    ∙ take_at front2 (tag2 ++ back2) (length front) (sym place) in
    let behind : tag ++ back ≡ tag2 ++ back2 =
    sym (drop_at front (tag ++ back) (length front) refl) ∙ ap (drop (length front)) joined
    ∙ drop_at front2 (tag2 ++ back2) (length front) (sym place) in
    let tags : tag ≡ tag2 = sym (take_at tag back 64 first.size) ∙ ap (take 64) behind ∙ take_at tag2 back2 64 second.size in
    (fronts, tags, backs)

-- ---- the first occurrence

begun : (text rest : List ℕ) → bytes_eq (take (length text) (text ++ rest)) text ≡ true
begun text rest = rw (take_at text rest (length text) refl) ((bytes_eq-Decides text text).1 refl)

begins_not : (text bytes : List ℕ) (b : Bool) → bytes_eq (take (length text) bytes) text ≡ b → ((after : List ℕ) → bytes ≢ text ++ after)
    → bytes_eq (take (length text) bytes) text ≡ false
begins_not text bytes false is nowhere = is
begins_not text bytes true is nowhere =
    let same = (bytes_eq-Decides (take (length text) bytes) text).0 is in
    absurd (nowhere (drop (length text) bytes) (sym (take-append-drop (length text) bytes) ∙ ap (λ (s : List ℕ). s ++ drop (length text) bytes) same))

pub first_place-is : (front tag back : List ℕ) → 1 ≤ length tag
    → ((before after : List ℕ) → front ++ (tag ++ back) ≡ before ++ (tag ++ after) → length front ≤ length before)
    → first_place tag (front ++ (tag ++ back)) ≡ Some (length front)
unfolding first_place
first_place-is [] [] back some earliest = absurd (omega arith)
first_place-is [] (b ∷ tag) back some earliest = rw (begun (b ∷ tag) back) refl
first_place-is (f ∷ front) tag back some earliest =
    let here = (f ∷ front) ++ (tag ++ back) in
    let none : bytes_eq (take (length tag) here) tag ≡ false =
    begins_not tag here (bytes_eq (take (length tag) here) tag) refl (λ after is. let h = earliest [] after is in absurd (omega arith)) in
    let later : first_place tag (front ++ (tag ++ back)) ≡ Some (length front) =
    first_place-is front tag back some (λ before after is. let h = earliest (f ∷ before) after (ap (λ (s : List ℕ). f ∷ s) is) in omega arith) in
    rw (none, later) refl

-- where the tag's bytes don't stand earlier, its place is where they first stand
pub tag_first : (bytes front tag back : List ℕ) → TagStands bytes front tag back
    → ((before after : List ℕ) → bytes ≡ before ++ (tag ++ after) → length front ≤ length before) → first_place tag bytes ≡ Some (length front)
tag_first bytes front tag back stands earliest =
    let size = stands.size in
    ap (first_place tag) stands.parts ∙ first_place-is front tag back (omega arith) (λ before after is. earliest before after (stands.parts ∙ is))
