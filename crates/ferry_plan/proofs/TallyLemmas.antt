-- Lemmas on specs/Tally.antt: one piece more is noted and counted, and pieces behind pieces.
use Rattle.std.proofs.Common.{◌≡◌, ◌≢◌, ◌⊎◌, ◌↔◌, inl, inr, ◌+◌, ◌-◌, ◌^◌, ◌<◌, ℕ, Bool, true, false, not, cond, if◌then◌else◌, IsTrue, List, [], ◌∷◌, ◌++◌}
use Rattle.std.proofs.Common.{BTreeSet, length, map, min, refl, sym, ◌∙◌, ap, subst, arith}
use Rattle.std.proofs.lemmas.List.{append-nil, append_assoc, map-append}
use Rattle.std.specs.BTreeSet.{Updates, contains}
use Rattle.std.specs.FinMap.{nat_cmp-IsAntisymmetric, slice_cmp-IsAntisymmetric}
use Rattle.std.specs.Ordering.{is_eq}
use Rattle.std.specs.declared.cmp.Ordering.{Ordering}
use Rattle.std.specs.declared.cmp.Ordering.TheVariants.{Less, Equal, Greater}
use Rattle.ferry_base.specs.Limits.{zero_id}
use Rattle.ferry_blob.specs.Blob.{content_id}
use Rattle.ferry_carry.proofs.CutLemmas.{among_either, among_none, among_one}
use Rattle.ferry_carry.proofs.ListingLemmas.{bytes_apart, count_apart}
use Rattle.ferry_piece.proofs.PutsLemmas.{bytes_append, contents_append, count_append, of_append}
use Rattle.ferry_piece.proofs.AmongLemmas.{among_front, among_next}
use Rattle.ferry_carry.specs.Copied.{stream_block}
use Rattle.ferry_piece.specs.Gather.{IsAmong}
use Rattle.ferry_piece.specs.Puts.{Addition, Content, Kind, Record, Stream, addition, contents_in, put_bytes, put_count}
use Rattle.ferry_log.specs.Live.{key_cmp}
use Rattle.ferry_log.specs.State.{LogState}
use Rattle.ferry_mac.specs.declared.keys.Keys.{Keys}
use Rattle.ferry_plan.specs.Plan.{IsFresh, PutsFresh, ids_of}
use Rattle.ferry_plan.specs.Tally.{Counts, IsReady, Knows, Lacks, Takes, Tallied, TalliesOn}
use Rattle.ferry_plan.specs.declared.pieces.Pieces.{Pieces}
use Rattle.ferry_plan.specs.declared.tally.Tally.{Tally}
use Rattle.ferry_repo.specs.Objects.{IsMissing}

-- ---- ids

ids_append : (keys : Keys) (some more : List Addition) → ids_of keys (some ++ more) ≡ ids_of keys some ++ ids_of keys more
ids_append keys some more =
    ap (λ (contents : List (List ℕ)). map (content_id keys) contents) (contents_append some more)
    ∙ map-append (content_id keys) (contents_in some) (contents_in more)

pub among_more : (keys : Keys) (added : List Addition) (one : Addition) (id : List ℕ) → IsAmong (ids_of keys added) id
    → IsAmong (ids_of keys (added ++ one ∷ [])) id
among_more keys added one id among =
    subst (λ (ids : List (List ℕ)). IsAmong ids id) (sym (ids_append keys added (one ∷ [])))
    (among_front (ids_of keys added) (ids_of keys (one ∷ [])) id among)

pub among_last : (keys : Keys) (added : List Addition) (one : Addition) → IsAmong (ids_of keys (added ++ one ∷ [])) (content_id keys one.content)
among_last keys added one =
    among_next (ids_of keys (added ++ one ∷ [])) (ids_of keys added) [] (content_id keys one.content) (ids_append keys added (one ∷ []))

pub among_split : (keys : Keys) (added : List Addition) (one : Addition) (id : List ℕ) → IsAmong (ids_of keys (added ++ one ∷ [])) id
    → IsAmong (ids_of keys added) id ⊎ (content_id keys one.content ≡ id)
among_split keys added one id among =
    last (among_either (ids_of keys added) (ids_of keys (one ∷ [])) id
    (subst (λ (ids : List (List ℕ)). IsAmong ids id) (ids_append keys added (one ∷ [])) among)) where
      last : IsAmong (ids_of keys added) id ⊎ IsAmong (ids_of keys (one ∷ [])) id → IsAmong (ids_of keys added) id ⊎ (content_id keys one.content ≡ id)
      last (inl some) = inl some
      last (inr more) = inr (among_one (content_id keys one.content) id more)

-- ---- what is put

-- one more is put exactly where it would be
puts_then : (keys : Keys) (log : LogState) (before added : List Addition) (one : Addition) → PutsFresh keys log before added
    → IsTrue one.put ↔ IsFresh keys log (before ++ added) one.content → PutsFresh keys log before (added ++ one ∷ [])
puts_then keys log before [] one puts is =
    (subst (λ (front : List Addition). IsTrue one.put ↔ IsFresh keys log front one.content) (append-nil before) is, tt)
puts_then keys log before (first ∷ added) one puts is = (
  puts.0,
  puts_then keys log (before ++ first ∷ []) added one puts.1
      (subst (λ (front : List Addition). IsTrue one.put ↔ IsFresh keys log front one.content) (sym (append_assoc before (first ∷ []) added)) is),
)

-- a content that the target has isn't put
pub knows_live : (keys : Keys) (log : LogState) (known : BTreeSet (List ℕ)) (kind : Kind) (content : List ℕ) (added : List Addition)
    → (Lacks log (content_id keys content) → ⊥) → Knows keys log known added → Knows keys log known (added ++ addition kind content false ∷ [])
knows_live keys log known kind content added has k = record {
  fresh = puts_then keys log [] added one k.fresh
      (λ put. absurd (let never : ⊥ = cc in never), λ fresh. absurd (has (fresh.chunk, fresh.missing)));
  only = λ id is. among_more keys added one id (k.only id is);
  all = λ id among apart missing. by id apart missing (among_split keys added one id among);
} where
  one : Addition
  one = addition kind content false

  by : (id : List ℕ) → id ≢ zero_id → IsMissing log id → IsAmong (ids_of keys added) id ⊎ (content_id keys content ≡ id) → contains key_cmp known id ≡ true
  by id apart missing (inl among) = k.all id among apart missing
  by id apart missing (inr is) = absurd (has (subst (Lacks log) (sym is) (apart, missing)))

-- keys that tie are the same
same_key : (a b : List ℕ) (o : Ordering) → key_cmp a b ≡ o → is_eq o ≡ true → a ≡ b
same_key a b Equal e h = slice_cmp-IsAntisymmetric nat_cmp-IsAntisymmetric a b e
same_key a b Less e h = absurd (let never : ⊥ = cc in never)
same_key a b Greater e h = absurd (let never : ⊥ = cc in never)

noted_by : (had has : Bool) (id other : List ℕ) (b : Bool) → is_eq (key_cmp id other) ≡ b → has ≡ cond b true had → has ≡ true → (other ≡ id) ⊎ (had ≡ true)
noted_by had has id other true e found is = inl (sym (same_key id other (key_cmp id other) refl e))
noted_by had has id other false e found is = inr (sym found ∙ is)

still_noted : (had has b : Bool) → has ≡ cond b true had → had ≡ true → has ≡ true
still_noted had has true found is = found
still_noted had has false found is = found ∙ is

-- a content that is missing is put where its id wasn't known, and its id is known then
pub knows_noted : (keys : Keys) (log : LogState) (known known_now : BTreeSet (List ℕ)) (kind : Kind) (content : List ℕ) (new : Bool)
    (added : List Addition) → Lacks log (content_id keys content) → new ≡ not (contains key_cmp known (content_id keys content))
    → Updates key_cmp known known_now (content_id keys content) true → Knows keys log known added
    → Knows keys log known_now (added ++ addition kind content new ∷ [])
knows_noted keys log known known_now kind content new added lacks is updates k = record {
  fresh = puts_then keys log [] added one k.fresh (fresh_by (contains key_cmp known id) refl new is);
  only = λ other has.
      behind other (noted_by (contains key_cmp known other) (contains key_cmp known_now other) id other (is_eq (key_cmp id other)) refl (updates.0 other) has);
  all = λ other among apart_other missing_other. by other apart_other missing_other (among_split keys added one other among);
} where
  id : List ℕ
  id = content_id keys content

  one : Addition
  one = addition kind content new

  fresh_by : (had : Bool) → contains key_cmp known id ≡ had → (put : Bool) → put ≡ not had → IsTrue put ↔ IsFresh keys log added content
  fresh_by true had put is_put = (
    λ true_is. absurd (let never : ⊥ = cc in never),
    λ fresh. absurd (fresh.first (k.only id had)),
  )
  fresh_by false had put is_put = (
    λ true_is. record {
      chunk = lacks.0;
      missing = lacks.1;
      first = λ among. (let has : contains key_cmp known id ≡ true = k.all id among lacks.0 lacks.1 in let never : ⊥ = cc in never);
    },
    λ fresh. is_put,
  )

  behind : (other : List ℕ) → (other ≡ id) ⊎ (contains key_cmp known other ≡ true) → IsAmong (ids_of keys (added ++ one ∷ [])) other
  behind other (inl same) = subst (IsAmong (ids_of keys (added ++ one ∷ []))) (sym same) (among_last keys added one)
  behind other (inr had) = among_more keys added one other (k.only other had)

  by : (other : List ℕ) → other ≢ zero_id → IsMissing log other → IsAmong (ids_of keys added) other ⊎ (id ≡ other) → contains key_cmp known_now other ≡ true
  by other apart_other missing_other (inl among) =
      still_noted (contains key_cmp known other) (contains key_cmp known_now other) (is_eq (key_cmp id other)) (updates.0 other)
      (k.all other among apart_other missing_other)
  by other apart_other missing_other (inr same) = subst (λ (key : List ℕ). contains key_cmp known_now key ≡ true) same updates.1

-- a content whose id is known isn't put
pub knows_known : (keys : Keys) (log : LogState) (known : BTreeSet (List ℕ)) (kind : Kind) (content : List ℕ) (added : List Addition)
    → contains key_cmp known (content_id keys content) ≡ true → Knows keys log known added
    → Knows keys log known (added ++ addition kind content false ∷ [])
knows_known keys log known kind content added had k = record {
  fresh = puts_then keys log [] added one k.fresh
      (λ put. absurd (let never : ⊥ = cc in never), λ fresh. absurd (fresh.first (k.only (content_id keys content) had)));
  only = λ id is. among_more keys added one id (k.only id is);
  all = λ id among apart missing. by id apart missing (among_split keys added one id among);
} where
  one : Addition
  one = addition kind content false

  by : (id : List ℕ) → id ≢ zero_id → IsMissing log id → IsAmong (ids_of keys added) id ⊎ (content_id keys content ≡ id) → contains key_cmp known id ≡ true
  by id apart missing (inl among) = k.all id among apart missing
  by id apart missing (inr same) = subst (λ (key : List ℕ). contains key_cmp known key ≡ true) same had

-- of nothing nothing is known
pub knows_nothing : (keys : Keys) (log : LogState) (known : BTreeSet (List ℕ)) → known.keys ≡ [] → Knows keys log known []
knows_nothing keys log known none = record {
  fresh = tt;
  only = λ id has.
      (let empty : contains key_cmp known id ≡ false = ap (λ (ks : List (List ℕ)). contains key_cmp (record { keys = ks }) id) none in
      let never : ⊥ = cc in absurd never);
  all = λ id among apart missing. absurd (among_none id among);
}

-- ---- how much is put

count_one : (kind : Kind) (content : List ℕ) (put : Bool) → put_count kind (addition kind content put ∷ []) ≡ (if put then 1 else 0)
unfolding put_count
count_one kind content false = refl
count_one Content content true = refl
count_one Stream content true = refl
count_one Record content true = refl

bytes_one : (kind : Kind) (content : List ℕ) (put : Bool) → put_bytes kind (addition kind content put ∷ []) ≡ (if put then length content else 0)
unfolding put_bytes
bytes_one kind content false = refl
bytes_one Content content true = omega arith
bytes_one Stream content true = omega arith
bytes_one Record content true = omega arith

pub counts_nothing : (kind : Kind) (put bytes : ℕ) → put ≡ 0 → bytes ≡ 0 → Counts kind [] put bytes
unfolding put_count put_bytes
counts_nothing kind put bytes none no_bytes = record { put_is = omega (arith, none); bytes_are = omega (arith, no_bytes) }

-- numbers that grew by those of some more
pub counts_grown : (kind : Kind) (added more : List Addition) (put bytes put_now bytes_now count size : ℕ) → count ≡ put_count kind more
    → size ≡ put_bytes kind more → put_now ≡ min (put + count) (2 ^ 64 - 1) → bytes_now ≡ min (bytes + size) (2 ^ 128 - 1) → Counts kind added put bytes
    → Counts kind (added ++ more) put_now bytes_now
counts_grown kind added more put bytes put_now bytes_now count size count_is size_is put_grew bytes_grew c = record {
  put_is = omega (arith, put_grew, c.put_is, count_is, count_append kind added more);
  bytes_are = omega (arith, bytes_grew, c.bytes_are, size_is, bytes_append kind added more);
}

pub counts_more : (kind : Kind) (added : List Addition) (content : List ℕ) (new : Bool) (put bytes put_now bytes_now size : ℕ) → length content ≡ size
    → put_now ≡ min (put + (if new then 1 else 0)) (2 ^ 64 - 1) → bytes_now ≡ min (bytes + (if new then size else 0)) (2 ^ 128 - 1)
    → Counts kind added put bytes → Counts kind (added ++ addition kind content new ∷ []) put_now bytes_now
counts_more kind added content new put bytes put_now bytes_now size is put_grew bytes_grew c =
    counts_grown kind added (addition kind content new ∷ []) put bytes put_now bytes_now (if new then 1 else 0) (if new then size else 0)
    (sym (count_one kind content new))
    (ap (λ (n : ℕ). if new then n else 0) (sym is) ∙ sym (bytes_one kind content new)) put_grew bytes_grew c

-- ---- Takes

pub takes_none : (kind : Kind) (keys : Keys) (log : LogState) (known : BTreeSet (List ℕ)) (pieces now : Pieces) → now.put ≡ pieces.put
    → now.bytes ≡ pieces.bytes → Takes kind keys log known pieces [] known now
takes_none kind keys log known pieces now put bytes = record {
  of = tt;
  knows = λ added k. subst (Knows keys log known) (sym (append-nil added)) k;
  counts = λ added c.
      subst (λ (all : List Addition). Counts kind all now.put now.bytes) (sym (append-nil added))
      (record { put_is = put ∙ c.put_is; bytes_are = bytes ∙ c.bytes_are });
}

pub takes_then : (kind : Kind) (keys : Keys) (log : LogState) (known known_middle known_now : BTreeSet (List ℕ)) (pieces middle now : Pieces)
    (some more : List Addition) → Takes kind keys log known pieces some known_middle middle → Takes kind keys log known_middle middle more known_now now
    → Takes kind keys log known pieces (some ++ more) known_now now
takes_then kind keys log known known_middle known_now pieces middle now some more p q = record {
  of = of_append kind some more p.of q.of;
  knows = λ added k. subst (Knows keys log known_now) (append_assoc added some more) (q.knows (added ++ some) (p.knows added k));
  counts = λ added c.
      subst (λ (all : List Addition). Counts kind all now.put now.bytes) (append_assoc added some more) (q.counts (added ++ some) (p.counts added c));
}

-- by the numbers alone
pub takes_by : (kind : Kind) (keys : Keys) (log : LogState) (known known_now : BTreeSet (List ℕ)) (pieces other now last : Pieces) (more : List Addition)
    → other.put ≡ pieces.put → other.bytes ≡ pieces.bytes → last.put ≡ now.put → last.bytes ≡ now.bytes
    → Takes kind keys log known pieces more known_now now → Takes kind keys log known other more known_now last
takes_by kind keys log known known_now pieces other now last more put bytes put_now bytes_now t = record {
  of = t.of;
  knows = t.knows;
  counts = λ added c.
      (let counted = t.counts added (record { put_is = sym put ∙ c.put_is; bytes_are = sym bytes ∙ c.bytes_are }) in
      record { put_is = put_now ∙ counted.put_is; bytes_are = bytes_now ∙ counted.bytes_are });
}

-- ---- a tally

-- pieces of the stream alone
pub stream_tallied : (keys : Keys) (log : LogState) (tally : Tally) (known_now : BTreeSet (List ℕ)) (stream_now : Pieces) (more : List Addition)
    → Takes Stream keys log tally.known tally.stream more known_now stream_now
    → TalliesOn keys log tally more (record tally { known = known_now; stream = stream_now })
stream_tallied keys log tally known_now stream_now more t = λ added tallied. record {
  knows = t.knows added tallied.knows;
  contents = counts_grown Content added more tally.contents.put tally.contents.bytes tally.contents.put tally.contents.bytes 0 0
      (sym (count_apart Content Stream more refl t.of)) (sym (bytes_apart Content Stream more refl t.of))
      (omega (arith, tallied.contents.put_is)) (omega (arith, tallied.contents.bytes_are)) tallied.contents;
  stream = t.counts added tallied.stream;
}

-- pieces of contents alone
pub contents_tallied : (keys : Keys) (log : LogState) (tally : Tally) (known_now : BTreeSet (List ℕ)) (contents_now : Pieces) (more : List Addition)
    → Takes Content keys log tally.known tally.contents more known_now contents_now
    → TalliesOn keys log tally more (record tally { known = known_now; contents = contents_now })
contents_tallied keys log tally known_now contents_now more t = λ added tallied. record {
  knows = t.knows added tallied.knows;
  contents = t.counts added tallied.contents;
  stream = counts_grown Stream added more tally.stream.put tally.stream.bytes tally.stream.put tally.stream.bytes 0 0
      (sym (count_apart Stream Content more refl t.of)) (sym (bytes_apart Stream Content more refl t.of))
      (omega (arith, tallied.stream.put_is)) (omega (arith, tallied.stream.bytes_are)) tallied.stream;
}

pub tallies_none : (keys : Keys) (log : LogState) (tally : Tally) → TalliesOn keys log tally [] tally
tallies_none keys log tally = λ added tallied. subst (Tallied keys log tally) (sym (append-nil added)) tallied

pub tallies_then : (keys : Keys) (log : LogState) (tally middle now : Tally) (some more : List Addition) → TalliesOn keys log tally some middle
    → TalliesOn keys log middle more now → TalliesOn keys log tally (some ++ more) now
tallies_then keys log tally middle now some more p q =
    λ added tallied. subst (Tallied keys log now) (append_assoc added some more) (q (added ++ some) (p added tallied))

-- it is ready while the stream goes on
pub stream_ready : (tally : Tally) (known_now : BTreeSet (List ℕ)) (stream_now : Pieces) → stream_now.cutter.block ≡ stream_block
    → length stream_now.cutter.piece < stream_now.cutter.block → IsReady tally → IsReady (record tally { known = known_now; stream = stream_now })
stream_ready tally known_now stream_now block room ready = record {
  least = ready.least;
  most = ready.most;
  contents_block = ready.contents_block;
  contents_piece = ready.contents_piece;
  contents_chunks = ready.contents_chunks;
  stream_block_is = block;
  stream_room = room;
}

-- and where a content was cut to its end
pub contents_ready : (tally : Tally) (known_now : BTreeSet (List ℕ)) (contents_now : Pieces) → contents_now.cutter.block ≡ tally.block
    → contents_now.cutter.piece ≡ [] → contents_now.chunks.items ≡ [] → IsReady tally
    → IsReady (record tally { known = known_now; contents = contents_now })
contents_ready tally known_now contents_now block piece chunks ready = record {
  least = ready.least;
  most = ready.most;
  contents_block = block;
  contents_piece = piece;
  contents_chunks = chunks;
  stream_block_is = ready.stream_block_is;
  stream_room = ready.stream_room;
}
