-- What stands in front of bytes.
use Rattle.std.proofs.Common.{◌≡◌, ◌≢◌, ◌↔◌, ℕ, ◌+◌, ◌-◌, Bool, true, false, if◌then◌else◌, List, ◌++◌, take, drop, Option, Some, None, is_none, Result, Ok}
use Rattle.std.proofs.Common.{Err, refl, sym, ap, subst, ◌∙◌, append_assoc, arith}
use Rattle.std.proofs.lemmas.List.{take-append-drop, drop-drop}
use Rattle.ferry_msgpack.specs.declared.fault.PackFault.{PackFault}
use Rattle.ferry_msgpack.specs.declared.fault.PackFault.TheVariants.{Short, Kind, Key, Repeat, Deep, Memory}
use Rattle.ferry_msgpack.specs.Tree.{Tree, nil, flag, number, raw, array, table, Pairs}
use Rattle.ferry_msgpack.specs.Spelling.{Spells}
use Rattle.ferry_msgpack.specs.Faults.{Breaks}
use Rattle.ferry_msgpack.specs.Reading.{value_at}
use Rattle.ferry_msgpack.specs.Calls.Read.{StandsAt}
use Rattle.ferry_msgpack.proofs.CallerLemmas.{broken_rule}
use Rattle.ferry_msgpack.proofs.SpellingLemmas.{Tells, value_tells, value_again, value_breaks}
use Rattle.ferry_fields.specs.Fields.{pairs_in}
use Rattle.ferry_fields.specs.Others.{without}
use Rattle.ferry_item.specs.Item.{ItemText, chunks_in, chunks_names, is_healed, item_from, item_of, item_of_value, lacks_path, text_in}
use Rattle.ferry_item.specs.Stream.{Front, an_item, nothing_yet, a_fault, StandsInFront, item_stands, item_is_faulty, no_map_stands, rule_is_broken, value_ends}
use Rattle.ferry_item.specs.Stream.{front_item, front_of, front_of_fault, front_read, fault_of_rule}
use Rattle.ferry_item.specs.declared.fault.ItemFault.{ItemFault}
use Rattle.ferry_item.specs.declared.fault.ItemFault.TheVariants as item_fault
use Rattle.ferry_item.specs.declared.fault.ItemFault.TheVariants.{Pack}
use Rattle.ferry_item.specs.declared.item.ChunkRef.{ChunkRef}
use Rattle.ferry_item.proofs.BreaksLemmas.{broken_more}

-- ---- the item of a map

pub item_is : (all : Pairs) (chunks : Option (List ChunkRef)) → lacks_path all ≡ false → chunks_in all ≡ Some chunks → is_healed all ≡ false
    → item_of all ≡ Ok (record { fields = table (without chunks_names all); chunks = chunks })
unfolding item_of
item_is all chunks path said healed = rw (path, said, healed) refl

-- ---- a call of `read`

-- what stands at a place stands in front of the bytes from there on
pub read_is : (bytes : List ℕ) (at : ℕ) (t : Tree) (stop : ℕ) → StandsAt bytes at t stop → value_at 64 (drop at bytes) ≡ Ok (t, drop stop bytes)
read_is bytes at t stop stands =
    let from = drop at bytes in
    let order = stands.order in
    let sum : at + (stop - at) ≡ stop = omega arith in
    let rest : drop (stop - at) from ≡ drop stop bytes = drop-drop (stop - at) at bytes ∙ ap (λ (n : ℕ). drop n bytes) sum in
    ap (value_at 64) (sym (take-append-drop (stop - at) from)) ∙ value_again 64 t (take (stop - at) from) (drop (stop - at) from) stands.spelled
    ∙ ap (λ (s : List ℕ). Ok (t, s)) rest

-- the item of the value there
pub front_at : (bytes : List ℕ) (at : ℕ) (t : Tree) (stop : ℕ) → StandsAt bytes at t stop
    → front_item (drop at bytes) ≡ front_of (item_of_value t) (drop stop bytes)
unfolding front_item
front_at bytes at t stop stands = ap front_read (read_is bytes at t stop stands)

pub item_at : (bytes : List ℕ) (at : ℕ) (t : Tree) (stop : ℕ) (text : ItemText) → StandsAt bytes at t stop → item_of_value t ≡ Ok text
    → front_item (drop at bytes) ≡ an_item text (drop stop bytes)
item_at bytes at t stop text stands is = front_at bytes at t stop stands ∙ ap (λ (r : Result ItemText ItemFault). front_of r (drop stop bytes)) is

pub fault_at : (bytes : List ℕ) (at : ℕ) (t : Tree) (stop : ℕ) (fault : ItemFault) → StandsAt bytes at t stop → item_of_value t ≡ Err fault
    → front_item (drop at bytes) ≡ a_fault fault
fault_at bytes at t stop fault stands is = front_at bytes at t stop stands ∙ ap (λ (r : Result ItemText ItemFault). front_of r (drop stop bytes)) is

other_rule : (broken : PackFault) → broken ≢ Short → broken ≢ Memory → front_of_fault (fault_of_rule broken) ≡ a_fault Pack
other_rule Short short memory = absurd (short refl)
other_rule Kind short memory = refl
other_rule Key short memory = refl
other_rule Repeat short memory = refl
other_rule Deep short memory = refl
other_rule Memory short memory = absurd (memory refl)

-- the fault of the rule that is broken there, or nothing
pub rule_front : (bytes : List ℕ) (broken : PackFault) → Breaks bytes broken → front_item bytes ≡ front_of_fault (fault_of_rule broken)
unfolding front_item
rule_front bytes broken is = ap front_read (value_breaks 64 bytes broken is)

-- the bytes end before a value does
pub short_front : (bytes : List ℕ) → value_at 64 bytes ≡ Err Short → front_item bytes ≡ nothing_yet
unfolding front_item
short_front bytes is = ap front_read is

no_fault : (broken : PackFault) → fault_of_rule broken ≡ None → broken ≢ Memory
no_fault Short e = λ same. absurd cc
no_fault Kind e = absurd cc
no_fault Key e = absurd cc
no_fault Repeat e = absurd cc
no_fault Deep e = absurd cc
no_fault Memory e = absurd cc

other_fault : (broken : PackFault) (fault : ItemFault) → fault_of_rule broken ≡ Some fault → fault ≢ item_fault.Memory → broken ≢ Memory
other_fault Short fault e other = λ same. absurd cc
other_fault Kind fault e other = λ same. absurd cc
other_fault Key fault e other = λ same. absurd cc
other_fault Repeat fault e other = λ same. absurd cc
other_fault Deep fault e other = λ same. absurd cc
other_fault Memory fault e other = absurd (other cc)

-- a call that found nothing
pub nothing_front : (bytes : List ℕ) (broken : PackFault) → (broken ≢ Memory → Breaks bytes broken) → fault_of_rule broken ≡ None
    → front_item bytes ≡ nothing_yet
nothing_front bytes broken is e = rule_front bytes broken (is (no_fault broken e)) ∙ ap front_of_fault e

-- a call that found a broken rule
pub fault_front : (bytes : List ℕ) (broken : PackFault) (fault : ItemFault) → (broken ≢ Memory → Breaks bytes broken) → fault_of_rule broken ≡ Some fault
    → fault ≢ item_fault.Memory → front_item bytes ≡ a_fault fault
fault_front bytes broken fault is e other = rule_front bytes broken (is (other_fault broken fault e other)) ∙ ap front_of_fault e

-- ---- one front stands, and one alone

item_of_map : (t : Tree) (pairs : Pairs) → pairs_in t ≡ Some pairs → t ≡ table pairs
item_of_map nil pairs e = absurd cc
item_of_map (flag b) pairs e = absurd cc
item_of_map (number z) pairs e = absurd cc
item_of_map (raw content) pairs e = absurd cc
item_of_map (array items) pairs e = absurd cc
item_of_map (table ps) pairs e = cc

-- the front where a value is spelled
spelled_front : (t : Tree) (front rest : List ℕ) → Spells t front → front_item (front ++ rest) ≡ front_of (item_of_value t) rest
unfolding front_item
spelled_front t front rest spelled = ap front_read (value_again 64 t front rest spelled)

pub stands_is : (bytes : List ℕ) (front : Front) → StandsInFront bytes front → front_item bytes ≡ front
stands_is bytes front (item_stands pairs text spelling rest spelled is) =
    spelled_front (table pairs) spelling rest spelled ∙ ap (λ (r : Result ItemText ItemFault). front_of r rest) is
stands_is bytes front (item_is_faulty pairs fault spelling rest spelled is) =
    spelled_front (table pairs) spelling rest spelled ∙ ap (λ (r : Result ItemText ItemFault). front_of r rest) is
stands_is bytes front (no_map_stands t spelling rest spelled is) =
    spelled_front t spelling rest spelled ∙ ap (λ (o : Option Pairs). front_of (item_from o) rest) is
stands_is bytes front (rule_is_broken _ broken is other) = rule_front bytes broken is ∙ other_rule broken other (broken_rule bytes broken is)
stands_is bytes front (value_ends _ is) = rule_front bytes Short is

of_item : (pairs : Pairs) (front rest : List ℕ) (r : Result ItemText ItemFault) → Spells (table pairs) front → item_of pairs ≡ r
    → StandsInFront (front ++ rest) (front_of r rest)
of_item pairs front rest (Ok text) spelled is = item_stands pairs text front rest spelled is
of_item pairs front rest (Err fault) spelled is = item_is_faulty pairs fault front rest spelled is

of_value : (t : Tree) (front rest : List ℕ) (o : Option Pairs) → Spells t front → pairs_in t ≡ o → StandsInFront (front ++ rest) (front_of (item_from o) rest)
of_value t front rest None spelled is = no_map_stands t front rest spelled is
of_value t front rest (Some pairs) spelled is =
    of_item pairs front rest (item_of pairs) (subst (λ (u : Tree). Spells u front) (item_of_map t pairs is) spelled) refl

of_rule : (bytes : List ℕ) (broken : PackFault) → Breaks bytes broken → StandsInFront bytes (front_of_fault (fault_of_rule broken))
of_rule bytes Short is = value_ends bytes is
of_rule bytes Kind is = rule_is_broken bytes Kind is (λ same. absurd cc)
of_rule bytes Key is = rule_is_broken bytes Key is (λ same. absurd cc)
of_rule bytes Repeat is = rule_is_broken bytes Repeat is (λ same. absurd cc)
of_rule bytes Deep is = rule_is_broken bytes Deep is (λ same. absurd cc)
of_rule bytes Memory is = absurd (broken_rule bytes Memory is refl)

of_reading : (bytes : List ℕ) (r : Result (Tree × List ℕ) PackFault) → Tells 64 bytes r → StandsInFront bytes (front_read r)
of_reading bytes (Ok x) told = subst (λ (s : List ℕ). StandsInFront s (front_read (Ok x))) (sym told.1) (of_value x.0 told.0 x.1 (pairs_in x.0) told.2 refl)
of_reading bytes (Err broken) told = of_rule bytes broken told

front_stands : (bytes : List ℕ) → StandsInFront bytes (front_item bytes)
unfolding front_item
front_stands bytes = of_reading bytes (value_at 64 bytes) (value_tells 64 bytes)

-- the relation is the function
pub front_both : (bytes : List ℕ) (front : Front) → StandsInFront bytes front ↔ (front_item bytes ≡ front)
front_both bytes front = (stands_is bytes front, λ is. subst (StandsInFront bytes) is (front_stands bytes))

-- ---- with more bytes behind

-- the same front with these bytes behind
abbrev with_more : List ℕ → Front → Front
with_more more (an_item text rest) = an_item text (rest ++ more)
with_more more nothing_yet = nothing_yet
with_more more (a_fault fault) = a_fault fault

stands_more : (bytes more : List ℕ) (front : Front) → StandsInFront bytes front → front ≢ nothing_yet → StandsInFront (bytes ++ more) (with_more more front)
stands_more bytes more front (item_stands pairs text spelling rest spelled is) other =
    subst (λ (s : List ℕ). StandsInFront s (an_item text (rest ++ more))) (sym (append_assoc spelling rest more))
    (item_stands pairs text spelling (rest ++ more) spelled is)
stands_more bytes more front (item_is_faulty pairs fault spelling rest spelled is) other =
    subst (λ (s : List ℕ). StandsInFront s (a_fault fault)) (sym (append_assoc spelling rest more))
    (item_is_faulty pairs fault spelling (rest ++ more) spelled is)
stands_more bytes more front (no_map_stands t spelling rest spelled is) other =
    subst (λ (s : List ℕ). StandsInFront s (a_fault Pack)) (sym (append_assoc spelling rest more)) (no_map_stands t spelling (rest ++ more) spelled is)
stands_more bytes more front (rule_is_broken _ broken is short) other = rule_is_broken (bytes ++ more) broken (broken_more bytes more broken is short) short
stands_more bytes more front (value_ends _ is) other = absurd (other refl)

pub item_more : (bytes rest more : List ℕ) (text : ItemText) → front_item bytes ≡ an_item text rest → front_item (bytes ++ more) ≡ an_item text (rest ++ more)
item_more bytes rest more text is =
    stands_is (bytes ++ more) (an_item text (rest ++ more)) (stands_more bytes more (an_item text rest) ((front_both bytes (an_item text rest)).1 is)
    (λ same. absurd cc))

pub fault_more : (bytes more : List ℕ) (fault : ItemFault) → front_item bytes ≡ a_fault fault → front_item (bytes ++ more) ≡ a_fault fault
fault_more bytes more fault is =
    stands_is (bytes ++ more) (a_fault fault) (stands_more bytes more (a_fault fault) ((front_both bytes (a_fault fault)).1 is) (λ same. absurd cc))

-- ---- which faults

fault_of_item : (path chunks healed : Bool) (text : ItemText) (fault : ItemFault)
    → (if path then Err item_fault.Path else if chunks then Err item_fault.Chunks else if healed then Err item_fault.Healed else Ok text) ≡ Err fault
    → (fault ≢ item_fault.Rest) × (fault ≢ item_fault.Memory)
fault_of_item true chunks healed text fault e = (λ same. absurd cc, λ same. absurd cc)
fault_of_item false true healed text fault e = (λ same. absurd cc, λ same. absurd cc)
fault_of_item false false true text fault e = (λ same. absurd cc, λ same. absurd cc)
fault_of_item false false false text fault e = absurd cc

fault_of_pairs : (pairs : Pairs) (fault : ItemFault) → item_of pairs ≡ Err fault → (fault ≢ item_fault.Rest) × (fault ≢ item_fault.Memory)
unfolding item_of
fault_of_pairs pairs fault e = fault_of_item (lacks_path pairs) (is_none (chunks_in pairs)) (is_healed pairs) (text_in pairs) fault e

fault_kind : (bytes : List ℕ) (front : Front) (fault : ItemFault) → StandsInFront bytes front → front ≡ a_fault fault
    → (fault ≢ item_fault.Rest) × (fault ≢ item_fault.Memory)
fault_kind bytes front fault (item_stands pairs text spelling rest spelled is) e = absurd cc
fault_kind bytes front fault (item_is_faulty pairs found spelling rest spelled is) e =
    let same : found ≡ fault = cc in fault_of_pairs pairs fault (is ∙ ap (λ (f : ItemFault). Err f) same)
fault_kind bytes front fault (no_map_stands t spelling rest spelled is) e = (λ same. absurd cc, λ same. absurd cc)
fault_kind bytes front fault (rule_is_broken _ broken is short) e = (λ same. absurd cc, λ same. absurd cc)
fault_kind bytes front fault (value_ends _ is) e = absurd cc

-- a malformed item is no end of the stream, and no want of memory
pub front_kind : (bytes : List ℕ) (fault : ItemFault) → front_item bytes ≡ a_fault fault → (fault ≢ item_fault.Rest) × (fault ≢ item_fault.Memory)
front_kind bytes fault is = fault_kind bytes (a_fault fault) fault ((front_both bytes (a_fault fault)).1 is) refl
