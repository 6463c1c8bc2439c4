-- Reading a stream, whole or in pieces.
use Rattle.std.proofs.Common.{◌≡◌, ◌↔◌, ℕ, zero, suc, ◌+◌, ◌≤◌, ◌<◌, List, [], ◌∷◌, ◌++◌, length, drop, Ok, refl, sym, ap, subst, ◌∙◌, append_assoc, append-nil}
use Rattle.std.proofs.Common.{arith}
use Rattle.std.proofs.lemmas.List.{length-append, length-drop}
use Rattle.ferry_msgpack.specs.Tree.{Tree, table}
use Rattle.ferry_msgpack.specs.Spelling.{SpellsRaw, spells_raw, SpellsWithin, spells_nil, spells_flag, spells_small, spells_unsigned, spells_signed}
use Rattle.ferry_msgpack.specs.Spelling.{spells_bytes, spells_array, spells_map}
use Rattle.ferry_msgpack.specs.Faults.{value_missing}
use Rattle.ferry_item.specs.Item.{ItemText}
use Rattle.ferry_item.specs.Stream.{Front, an_item, nothing_yet, a_fault, StandsInFront, item_stands, item_is_faulty, no_map_stands, rule_is_broken, value_ends}
use Rattle.ferry_item.specs.Stream.{front_item, ItemsOf, no_more_items, one_more_item, End, bytes_left, fault_found, Reads, reads_item, feeds_piece, ends}
use Rattle.ferry_item.specs.Stream.{fails, joined}
use Rattle.ferry_item.specs.declared.fault.ItemFault.{ItemFault}
use Rattle.ferry_item.proofs.FrontLemmas.{front_both, stands_is, item_more, fault_more}

-- bytes are left behind a place that is below their end
pub some_left : (at : ℕ) (bytes rest : List ℕ) → drop at bytes ≡ rest → at < length bytes → rest ≡ [] → ⊥
some_left at bytes rest is below none = absurd (omega (arith, length-drop at bytes, ap length is, ap length none, below))

-- ---- the items of a whole stream

raw_byte : (content front : List ℕ) → SpellsRaw content front → 1 ≤ length front
raw_byte content front (spells_raw b c count _ row counts) = omega arith

-- a spelling has a byte at least
spelling_byte : (d : ℕ) (t : Tree) (front : List ℕ) → SpellsWithin d t front → 1 ≤ length front
spelling_byte d t front (spells_nil _ b row) = omega arith
spelling_byte d t front (spells_flag _ b f row) = omega arith
spelling_byte d t front (spells_small _ b z row) = omega arith
spelling_byte d t front (spells_unsigned _ b w bytes row len) = omega arith
spelling_byte d t front (spells_signed _ b w bytes row len) = omega arith
spelling_byte d t front (spells_bytes _ content bytes spelled) = raw_byte content bytes spelled
spelling_byte d t front (spells_array inner b c items count body row counts spelled) = omega arith
spelling_byte d t front (spells_map inner b c n ps count body row counts spelled) = omega arith

-- an item takes a byte at least
item_shorter_at : (bytes : List ℕ) (front : Front) (text : ItemText) (rest : List ℕ) → StandsInFront bytes front → front ≡ an_item text rest
    → length rest + 1 ≤ length bytes
item_shorter_at bytes front text rest (item_stands pairs found spelling after spelled is) e =
    let same : after ≡ rest = cc in
    omega (arith, ap length same, length-append spelling after, spelling_byte 64 (table pairs) spelling spelled)
item_shorter_at bytes front text rest (item_is_faulty pairs found spelling after spelled is) e = absurd cc
item_shorter_at bytes front text rest (no_map_stands t spelling after spelled is) e = absurd cc
item_shorter_at bytes front text rest (rule_is_broken _ broken is short) e = absurd cc
item_shorter_at bytes front text rest (value_ends _ is) e = absurd cc

item_shorter : (bytes : List ℕ) (text : ItemText) (rest : List ℕ) → front_item bytes ≡ an_item text rest → length rest + 1 ≤ length bytes
item_shorter bytes text rest is = item_shorter_at bytes (an_item text rest) text rest ((front_both bytes (an_item text rest)).1 is) refl

first_item_at : (bytes : List ℕ) (front : Front) (text : ItemText) (rest : List ℕ) (items : List ItemText) → StandsInFront bytes front
    → front ≡ an_item text rest → ItemsOf rest items → ItemsOf bytes (text ∷ items)
first_item_at bytes front text rest items (item_stands pairs found spelling after spelled is) e others =
    let same : after ≡ rest = cc in
    let same_text : found ≡ text = cc in
    one_more_item pairs text spelling after items spelled (is ∙ ap (λ (t : ItemText). Ok t) same_text)
    (subst (λ (s : List ℕ). ItemsOf s items) (sym same) others)
first_item_at bytes front text rest items (item_is_faulty pairs found spelling after spelled is) e others = absurd cc
first_item_at bytes front text rest items (no_map_stands t spelling after spelled is) e others = absurd cc
first_item_at bytes front text rest items (rule_is_broken _ broken is short) e others = absurd cc
first_item_at bytes front text rest items (value_ends _ is) e others = absurd cc

-- an item in front of a stream
pub first_item : (bytes rest : List ℕ) (text : ItemText) (items : List ItemText) → front_item bytes ≡ an_item text rest → ItemsOf rest items
    → ItemsOf bytes (text ∷ items)
first_item bytes rest text items is others = first_item_at bytes (an_item text rest) text rest items ((front_both bytes (an_item text rest)).1 is) refl others

-- streams joined
pub streams_joined : (bytes more : List ℕ) (items others : List ItemText) → ItemsOf bytes items → ItemsOf more others
    → ItemsOf (bytes ++ more) (items ++ others)
streams_joined bytes more items others no_more_items rest = rest
streams_joined bytes more items others (one_more_item pairs text front after later spelled is behind) rest =
    subst (λ (s : List ℕ). ItemsOf s (text ∷ (later ++ others))) (sym (append_assoc front after more))
    (one_more_item pairs text front (after ++ more) (later ++ others) spelled is (streams_joined after more later others behind rest))

-- ---- reading gives items and an end

-- what reading these bytes and pieces gives
record IsRead (bytes : List ℕ) (pieces : List (List ℕ)) : Type 0 where
  items : List ItemText
  end : End
  reads : Reads bytes pieces items end

by_front : (bytes : List ℕ) (pieces : List (List ℕ)) (front : Front) → front_item bytes ≡ front
    → ((text : ItemText) (rest : List ℕ) → front_item bytes ≡ an_item text rest → IsRead rest pieces)
    → ((front_item bytes ≡ nothing_yet) → IsRead bytes pieces) → IsRead bytes pieces
by_front bytes pieces (an_item text rest) is item nothing =
    let others = item text rest is in
    record { items = text ∷ others.items; end = others.end; reads = reads_item bytes rest pieces text others.items others.end is others.reads }
by_front bytes pieces nothing_yet is item nothing = nothing is
by_front bytes pieces (a_fault fault) is item nothing = record { items = []; end = fault_found fault; reads = fails bytes pieces fault is }

read_until : (n : ℕ) (pieces : List (List ℕ)) → ((bytes : List ℕ) → (front_item bytes ≡ nothing_yet) → IsRead bytes pieces) → (bytes : List ℕ)
    → length bytes < n → IsRead bytes pieces
read_until zero pieces nothing bytes lt = absurd (omega arith)
read_until (suc n) pieces nothing bytes lt =
    by_front bytes pieces (front_item bytes) refl (λ text rest is. read_until n pieces nothing rest (omega (arith, lt, item_shorter bytes text rest is)))
    (nothing bytes)

all_read : (pieces : List (List ℕ)) (bytes : List ℕ) → IsRead bytes pieces
all_read [] bytes = read_until (length bytes + 1) [] (λ left is. record { items = []; end = bytes_left left; reads = ends left is }) bytes (omega arith)
all_read (piece ∷ pieces) bytes =
    read_until (length bytes + 1) (piece ∷ pieces)
    (λ left is. let more = all_read pieces (left ++ piece) in record
    { items = more.items; end = more.end; reads = feeds_piece left piece pieces more.items more.end is more.reads })
    bytes (omega arith)

pub some_reading : (bytes : List ℕ) (pieces : List (List ℕ)) → (items : List ItemText) × ((end : End) × Reads bytes pieces items end)
some_reading bytes pieces = let read = all_read pieces bytes in (read.items, (read.end, read.reads))

-- ---- and no others

same_item : (text other : ItemText) (rest after : List ℕ) → an_item text rest ≡ an_item other after → (text ≡ other) × (rest ≡ after)
same_item text other rest after e = (cc, cc)

same_fault : (f g : ItemFault) → a_fault f ≡ a_fault g → f ≡ g
same_fault f g e = cc

item_not_nothing : (text : ItemText) (rest : List ℕ) → an_item text rest ≡ nothing_yet → ⊥
item_not_nothing text rest e = cc

item_not_fault : (text : ItemText) (rest : List ℕ) (fault : ItemFault) → an_item text rest ≡ a_fault fault → ⊥
item_not_fault text rest fault e = cc

nothing_not_fault : (fault : ItemFault) → nothing_yet ≡ a_fault fault → ⊥
nothing_not_fault fault e = cc

pub one_reading : (bytes : List ℕ) (pieces : List (List ℕ)) (items others : List ItemText) (end other : End) → Reads bytes pieces items end
    → Reads bytes pieces others other → (items ≡ others) × (end ≡ other)
one_reading bytes pieces items others end other (reads_item _ rest _ text later _ is behind) (reads_item _ after _ found rests _ is2 behind2) =
    let same = same_item text found rest after (sym is ∙ is2) in
    let rest_is = one_reading rest pieces later rests end other behind (subst (λ (s : List ℕ). Reads s pieces rests other) (sym same.1) behind2) in
    (ap (λ (t : ItemText). t ∷ later) same.0 ∙ ap (λ (ts : List ItemText). found ∷ ts) rest_is.0, rest_is.1)
one_reading bytes pieces items others end other (reads_item _ rest _ text later _ is behind) (feeds_piece _ piece rests _ _ is2 behind2) =
    absurd (item_not_nothing text rest (sym is ∙ is2))
one_reading bytes pieces items others end other (reads_item _ rest _ text later _ is behind) (ends _ is2) = absurd (item_not_nothing text rest (sym is ∙ is2))
one_reading bytes pieces items others end other (reads_item _ rest _ text later _ is behind) (fails _ _ fault is2) =
    absurd (item_not_fault text rest fault (sym is ∙ is2))
one_reading bytes pieces items others end other (feeds_piece _ piece rests _ _ is behind) (reads_item _ after _ found later _ is2 behind2) =
    absurd (item_not_nothing found after (sym is2 ∙ is))
one_reading bytes pieces items others end other (feeds_piece _ piece rests _ _ is behind) (feeds_piece _ _ _ _ _ is2 behind2) =
    one_reading (bytes ++ piece) rests items others end other behind behind2
one_reading bytes pieces items others end other (feeds_piece _ piece rests _ _ is behind) (fails _ _ fault is2) =
    absurd (nothing_not_fault fault (sym is ∙ is2))
one_reading bytes pieces items others end other (ends _ is) (reads_item _ after _ found later _ is2 behind2) =
    absurd (item_not_nothing found after (sym is2 ∙ is))
one_reading bytes pieces items others end other (ends _ is) (ends _ is2) = (refl, refl)
one_reading bytes pieces items others end other (ends _ is) (fails _ _ fault is2) = absurd (nothing_not_fault fault (sym is ∙ is2))
one_reading bytes pieces items others end other (fails _ _ fault is) (reads_item _ after _ found later _ is2 behind2) =
    absurd (item_not_fault found after fault (sym is2 ∙ is))
one_reading bytes pieces items others end other (fails _ _ fault is) (feeds_piece _ piece rests _ _ is2 behind2) =
    absurd (nothing_not_fault fault (sym is2 ∙ is))
one_reading bytes pieces items others end other (fails _ _ fault is) (ends _ is2) = absurd (nothing_not_fault fault (sym is2 ∙ is))
one_reading bytes pieces items others end other (fails _ _ fault is) (fails _ _ found is2) =
    (refl, ap (λ (f : ItemFault). fault_found f) (same_fault fault found (sym is ∙ is2)))

-- ---- however the stream is cut

-- the pieces are read as one
in_one : (bytes : List ℕ) (pieces : List (List ℕ)) (items : List ItemText) (end : End) → Reads bytes pieces items end
    → Reads (bytes ++ joined pieces) [] items end
in_one bytes pieces items end (reads_item _ rest _ text later _ is behind) =
    reads_item (bytes ++ joined pieces) (rest ++ joined pieces) [] text later end (item_more bytes rest (joined pieces) text is)
    (in_one rest pieces later end behind)
in_one bytes pieces items end (feeds_piece _ piece rests _ _ is behind) =
    subst (λ (s : List ℕ). Reads s [] items end) (append_assoc bytes piece (joined rests)) (in_one (bytes ++ piece) rests items end behind)
in_one bytes pieces items end (ends _ is) = subst (λ (s : List ℕ). Reads s [] [] (bytes_left bytes)) (sym (append-nil bytes)) (ends bytes is)
in_one bytes pieces items end (fails _ _ fault is) = fails (bytes ++ joined pieces) [] fault (fault_more bytes (joined pieces) fault is)

-- a stream that is read whole is read in pieces
in_pieces : (pieces : List (List ℕ)) (items : List ItemText) (end : End) → Reads (joined pieces) [] items end → Reads [] pieces items end
in_pieces pieces items end whole =
    let read = all_read pieces [] in
    let same = one_reading (joined pieces) [] read.items items read.end end (in_one [] pieces read.items read.end read.reads) whole in
    subst (λ (e : End). Reads [] pieces items e) same.1 (subst (λ (ts : List ItemText). Reads [] pieces ts read.end) same.0 read.reads)

pub any_cut : (pieces others : List (List ℕ)) (items : List ItemText) (end : End) → joined pieces ≡ joined others → Reads [] pieces items end
    → Reads [] others items end
any_cut pieces others items end same read = in_pieces others items end (subst (λ (s : List ℕ). Reads s [] items end) same (in_one [] pieces items end read))

-- ---- a whole stream

pub nothing_stands : front_item [] ≡ nothing_yet
nothing_stands = stands_is [] nothing_yet (value_ends [] (value_missing 64))

stream_read : (bytes : List ℕ) (items : List ItemText) → ItemsOf bytes items → Reads bytes [] items (bytes_left [])
stream_read bytes items no_more_items = ends [] nothing_stands
stream_read bytes items (one_more_item pairs text front rest later spelled is behind) =
    reads_item (front ++ rest) rest [] text later (bytes_left [])
    (stands_is (front ++ rest) (an_item text rest) (item_stands pairs text front rest spelled is)) (stream_read rest later behind)

no_bytes : (bytes : List ℕ) → bytes_left bytes ≡ bytes_left [] → bytes ≡ []
no_bytes bytes e = cc

fault_not_left : (fault : ItemFault) (bytes : List ℕ) → fault_found fault ≡ bytes_left bytes → ⊥
fault_not_left fault bytes e = cc

read_stream : (bytes : List ℕ) (pieces : List (List ℕ)) (items : List ItemText) (end : End) → Reads bytes pieces items end → pieces ≡ []
    → end ≡ bytes_left [] → ItemsOf bytes items
read_stream bytes pieces items end (reads_item _ rest _ text later _ is behind) one whole =
    first_item bytes rest text later is (read_stream rest pieces later end behind one whole)
read_stream bytes pieces items end (feeds_piece _ piece rests _ _ is behind) one whole = absurd cc
read_stream bytes pieces items end (ends _ is) one whole = subst (λ (s : List ℕ). ItemsOf s []) (sym (no_bytes bytes whole)) no_more_items
read_stream bytes pieces items end (fails _ _ fault is) one whole = absurd (fault_not_left fault [] whole)

pub whole_stream : (pieces : List (List ℕ)) (items : List ItemText) → ItemsOf (joined pieces) items ↔ Reads [] pieces items (bytes_left [])
whole_stream pieces items = (
  λ stream. in_pieces pieces items (bytes_left []) (stream_read (joined pieces) items stream),
  λ read. read_stream (joined pieces) [] items
      (bytes_left []) (in_one [] pieces items (bytes_left []) read) refl refl,
)
