-- Lemmas on specs/Growth.antt: a content that is appended block by block.
use Rattle.std.proofs.Common.{◌≡◌, ◌⊎◌, inl, inr, ◌≤◌, ◌<◌, ◌+◌, ◌-◌, ◌*◌, ℕ, zero, suc, Bool, true, false, List}
use Rattle.std.proofs.Common.{[], ◌∷◌, ◌++◌, All, length, take, drop, sum_by, ◌==◌}
use Rattle.std.proofs.Common.{Option, Some, None, IfSome, option_map, if◌then◌else◌, refl, sym, ◌∙◌, ap, subst, arith, lit≤}
use mathlib.Core.Bool.{beq, not}
use Rattle.std.proofs.lemmas.Bool.{cases_Bool}
use Rattle.std.proofs.Math.Seq.{take-add}
use Rattle.std.proofs.lemmas.List.{append-nil, append_assoc, length-append, take_all, drop_all, drop-drop, take-append-drop, length-drop, length-take-le}
use Rattle.std.proofs.lemmas.Bool.{eq-eqb, eqb-true}
use Rattle.std.proofs.lemmas.List.Elements.{All-head, All-tail, All-append}
use Rattle.std.proofs.lemmas.List.Sums.{sum_by-cons}
use Rattle.ferry_lanes.specs.Bytes.{leading_zeros}
use Rattle.ferry_rechunk.specs.Cut.{cut}
use Rattle.ferry_rechunk.proofs.CutLemmas.{cut_nothing, cut_short, cut_whole}
use Rattle.ferry_tree.specs.Growth.{hole_bytes, zero_bytes, with_content, WritesFront}
use Rattle.ferry_tree.specs.Nodes.{NodeText, folder_node, file_node, link_node, same_node, Placed, Planted, HasCurrent, longer, write_last, with_bytes}
use Rattle.ferry_tree.specs.Nodes.{with_hole, zeros_of, Appends, LeavesHole}
use Rattle.ferry_tree.specs.Runs.{IsKind, IsRun}
use Rattle.ferry_tree.proofs.NodeLemmas.{write_last-none}

-- ---- write_last

longer_more : (a b : List ℕ) (node : NodeText) → longer (a ++ b) node ≡ longer b (longer a node)
longer_more a b folder_node = refl
longer_more a b (file_node content) = ap file_node (sym (append_assoc content a b))
longer_more a b (link_node target) = refl
longer_more a b (same_node first) = refl

pub write_last-more : (a b : List ℕ) (ps : List Placed) → write_last (a ++ b) ps ≡ write_last b (write_last a ps)
unfolding write_last
write_last-more a b [] = refl
write_last-more a b (p ∷ []) = ap (λ n. record { path = p.path; node = n } ∷ []) (longer_more a b p.node)
write_last-more a b (p ∷ q ∷ []) = ap (λ rest. p ∷ rest) (write_last-more a b (q ∷ []))
write_last-more a b (p ∷ q ∷ r ∷ ps) = ap (λ rest. p ∷ rest) (write_last-more a b (q ∷ r ∷ ps))

-- the current file is the last node
pub write_current : (bytes : List ℕ) (before : List Placed) (path content : List ℕ)
    → write_last bytes (before ++ (record { path = path; node = file_node content } ∷ []))
    ≡ before ++ (record { path = path; node = file_node (content ++ bytes) } ∷ [])
unfolding write_last
write_current bytes [] path content = refl
write_current bytes (p ∷ []) path content = refl
write_current bytes (p ∷ q ∷ ps) path content = ap (λ rest. p ∷ rest) (write_current bytes (q ∷ ps) path content)

pub current_stays : (bytes : List ℕ) (ps : List Placed) → HasCurrent ps → HasCurrent (write_last bytes ps)
current_stays bytes ps current = record {
  before = current.before;
  path = current.path;
  content = current.content ++ bytes;
  nodes_are = ap (write_last bytes) current.nodes_are ∙ write_current bytes current.before current.path current.content;
}

-- ---- zero_bytes

plus_none : (n : ℕ) → n + 0 ≡ n
plus_none n = omega arith

none_plus : (n : ℕ) → n ≡ 0 + n
none_plus n = omega arith

add_both : (a b c : ℕ) → a + (b + c) ≡ a + b + c
add_both a b c = omega arith

pub zeros_nothing : zero_bytes [] ≡ 0
zeros_nothing = ap (sum_by hole_bytes) (cut_nothing 4096 (lit≤ tt))

zeros_short : (block : List ℕ) → 1 ≤ length block → length block ≤ 4096 → zero_bytes block ≡ hole_bytes block
zeros_short block some fits = ap (sum_by hole_bytes) (cut_short 4096 block some fits) ∙ sum_by-cons hole_bytes block [] ∙ plus_none (hole_bytes block)

zeros_whole : (block rest : List ℕ) → length block ≡ 4096 → zero_bytes (block ++ rest) ≡ zero_bytes block + zero_bytes rest
zeros_whole block rest whole =
    ap (sum_by hole_bytes) (cut_whole 4096 block rest (lit≤ tt) whole) ∙ sum_by-cons hole_bytes block (cut 4096 rest)
    ∙ ap (λ n. n + zero_bytes rest) (sym (zeros_short block (omega arith) (omega arith)))

-- so many whole blocks have their zeros apart from what follows
zeros_blocks : (n : ℕ) (run rest : List ℕ) → length run ≡ n * 4096 → zero_bytes (run ++ rest) ≡ zero_bytes run + zero_bytes rest
zeros_blocks zero [] rest size = none_plus (zero_bytes rest) ∙ sym (ap (λ n. n + zero_bytes rest) zeros_nothing)
zeros_blocks zero (b ∷ bs) rest size = absurd (let never : ⊥ = omega (arith, size) in never)
zeros_blocks (suc n) run rest size =
    let block = take 4096 run in
    let more = drop 4096 run in
    let whole : length block ≡ 4096 = length-take-le 4096 run (omega (arith, size)) in
    let left : length more ≡ n * 4096 = length-drop 4096 run ∙ omega (arith, size) in
    let split : block ++ more ≡ run = take-append-drop 4096 run in
    ap (λ bs. zero_bytes (bs ++ rest)) (sym split) ∙ ap zero_bytes (append_assoc block more rest)
    ∙ zeros_whole block (more ++ rest) whole ∙ ap (λ n. zero_bytes block + n) (zeros_blocks n more rest left)
    ∙ add_both (zero_bytes block) (zero_bytes more) (zero_bytes rest)
    ∙ ap (λ n. n + zero_bytes rest) (sym (zeros_whole block more whole) ∙ ap zero_bytes split)

-- ---- with_content

pub content_none : (tree : Planted) → with_content [] tree ≡ tree
content_none tree =
    ap (λ ps. record { nodes = ps; holes = tree.holes + zero_bytes [] }) (write_last-none tree.nodes)
    ∙ ap (λ h. record { nodes = tree.nodes; holes = h }) (ap (λ n. tree.holes + n) zeros_nothing ∙ plus_none tree.holes)

more_holes : (n : ℕ) (block rest : List ℕ) (h : ℕ) → (length block ≡ n * 4096) ⊎ (rest ≡ [])
    → h + zero_bytes (block ++ rest) ≡ h + zero_bytes block + zero_bytes rest
more_holes n block rest h (inl whole) =
    let e = zeros_blocks n block rest whole in
    ap (λ n. h + n) e ∙ add_both h (zero_bytes block) (zero_bytes rest)
more_holes n block rest h (inr none) =
    ap (λ r. h + zero_bytes (block ++ r)) none ∙ ap (λ b. h + zero_bytes b) (append-nil block)
    ∙ sym (ap (λ r. h + zero_bytes block + zero_bytes r) none ∙ ap (λ n. h + zero_bytes block + n) zeros_nothing ∙ plus_none (h + zero_bytes block))

pub content_more : (n : ℕ) (block rest : List ℕ) (tree : Planted) → (length block ≡ n * 4096) ⊎ (rest ≡ [])
    → with_content (block ++ rest) tree ≡ with_content rest (with_content block tree)
content_more n block rest tree ends =
    ap (λ ps. record { nodes = ps; holes = tree.holes + zero_bytes (block ++ rest) }) (write_last-more block rest tree.nodes)
    ∙ ap (λ h. record { nodes = write_last rest (write_last block tree.nodes); holes = h }) (more_holes n block rest tree.holes ends)

-- ---- blocks of one kind

all_zero : (block : List ℕ) → All (λ byte. byte ≡ 0) block → zeros_of (length block) ≡ block
all_zero [] zeros = refl
all_zero (b ∷ bs) zeros =
    ap (λ rest. 0 ∷ rest) (all_zero bs (All-tail (λ byte. byte ≡ 0) b bs zeros))
    ∙ ap (λ x. x ∷ bs) (sym (All-head (λ byte. byte ≡ 0) b bs zeros))

pub hole_run : (run : List ℕ) (tree : Planted) → IsKind true run → with_hole (length run) tree ≡ with_content run tree
hole_run run tree kind =
    ap (λ bs. record { nodes = write_last bs tree.nodes; holes = tree.holes + length run }) (all_zero run kind.0)
    ∙ ap (λ n. record { nodes = write_last run tree.nodes; holes = tree.holes + n }) (sym kind.1)

pub plain_run : (run : List ℕ) (tree : Planted) → IsKind false run → with_bytes run tree ≡ with_content run tree
plain_run run tree none =
    ap (λ n. record { nodes = write_last run tree.nodes; holes = n }) (sym (ap (λ n. tree.holes + n) none ∙ plus_none tree.holes))

-- ---- options

pub map_same : {A B : Type 0} (f g : A → B) → ((x : A) → f x ≡ g x) → (o : Option A) → option_map f o ≡ option_map g o
map_same f g same None = refl
map_same f g same (Some x) = ap Some (same x)

pub map_twice : {A B C : Type 0} (f : A → B) (g : B → C) (o : Option A) → option_map g (option_map f o) ≡ option_map (λ x. g (f x)) o
map_twice f g None = refl
map_twice f g (Some x) = refl

pub map_none : (f : Planted → Planted) → ((t : Planted) → f t ≡ t) → (o : Option Planted) → option_map f o ≡ o
map_none f same None = refl
map_none f same (Some t) = ap Some (same t)

pub after_map : (f : Planted → Planted) (o now : Option Planted) (P Q : Planted → Type 0) → now ≡ option_map f o → ((t : Planted) → P t → Q (f t)) → IfSome o P
    → IfSome now Q
after_map f None now P Q e step p = subst (λ (n : Option Planted). IfSome n Q) (sym e) tt
after_map f (Some t) now P Q e step p = subst (λ (n : Option Planted). IfSome n Q) (sym e) (step t p)

-- ---- one block is written

zero_front : (count : ℕ) (block : List ℕ) → count ≤ length block → All (λ byte. byte ≡ 0) block → zeros_of count ≡ take count block
zero_front zero block within zeros = refl
zero_front (suc n) [] within zeros = absurd (let never : ⊥ = omega arith in never)
zero_front (suc n) (b ∷ bs) within zeros =
    ap (λ rest. 0 ∷ rest) (zero_front n bs (omega arith) (All-tail (λ byte. byte ≡ 0) b bs zeros))
    ∙ ap (λ x. x ∷ take n bs) (sym (All-head (λ byte. byte ≡ 0) b bs zeros))

all_of : (block : List ℕ) (count : ℕ) → count ≡ length block → All (λ byte. byte ≡ 0) (take count block) → All (λ byte. byte ≡ 0) block
all_of block count is zeros = subst (λ (bs : List ℕ). All (λ byte. byte ≡ 0) bs) (take_all count block (omega (arith, is))) zeros

no_hole : (block : List ℕ) (count : ℕ) → count ≡ leading_zeros block → (count ≡ length block → ⊥)
    → ((leading_zeros block == length block) ≡ true) ⊎ ((leading_zeros block == length block) ≡ false) → (leading_zeros block == length block) ≡ false
no_hole block count leads other (inl is) = absurd (other (leads ∙ eqb-true (leading_zeros block) (length block) is))
no_hole block count leads other (inr is) = is

-- the kind of a block that begins with so many zeros
pub block_kind : (block : List ℕ) (count : ℕ) (is_hole : Bool) → 1 ≤ length block → length block ≤ 4096 → count ≡ leading_zeros block
    → All (λ byte. byte ≡ 0) (take count block) → is_hole ≡ (count == length block) → IsKind is_hole block
block_kind block count true some fits leads zeros is =
    let all : count ≡ length block = eqb-true count (length block) (sym is) in (
      all_of block count all zeros,
      zeros_short block some fits
          ∙ ap (λ (b : Bool). if b then length block else 0) (eq-eqb (leading_zeros block) (length block) (sym leads ∙ all)),
    )
block_kind block count false some fits leads zeros is =
    zeros_short block some fits ∙ ap (λ (b : Bool). if b then length block else 0)
    (no_hole block count leads (λ all. let no : true ≡ false = sym (eq-eqb count (length block) all) ∙ sym is in cc)
    (cases_Bool (leading_zeros block == length block)))

-- kinds that don't differ are one
pub same_kind : (a b : Bool) → not (beq a b) ≡ false → a ≡ b
same_kind true true e = refl
same_kind false false e = refl
same_kind true false e = absurd cc
same_kind false true e = absurd cc

-- what follows whole blocks of a kind and is of that kind, is of that kind with them
kind_more : (n : ℕ) (is_hole : Bool) (run block : List ℕ) → length run ≡ n * 4096 → IsKind is_hole run → IsKind is_hole block → IsKind is_hole (run ++ block)
kind_more n true run block size first second = (
  All-append (λ byte. byte ≡ 0) run block first.0 second.0,
  zeros_blocks n run block size ∙ ap (λ k. k + zero_bytes block) first.1 ∙ ap (λ k. length run + k) second.1 ∙ sym (length-append run block),
)
kind_more n false run block size first second =
    zeros_blocks n run block size ∙ ap (λ k. k + zero_bytes block) first ∙ sym (none_plus (zero_bytes block)) ∙ second

run_size : (n : ℕ) (content : List ℕ) (from end : ℕ) → end < length content → (end - from ≡ n * 4096) ⊎ (end ≡ length content) → end - from ≡ n * 4096
run_size n content from end more (inl size) = size
run_size n content from end more (inr all) = absurd (let never : ⊥ = omega (arith, more, all) in never)

longer_size : (n : ℕ) (content : List ℕ) (from end next : ℕ) → from < end → end < next → end - from ≡ n * 4096
    → (next - end ≡ 4096) ⊎ (next ≡ length content) → (next - from ≡ suc n * 4096) ⊎ (next ≡ length content)
longer_size n content from end next some more size (inl whole) = inl (omega (arith, some, more, size, whole))
longer_size n content from end next some more size (inr all) = inr all

-- a run of one block
pub run_begin : (is_hole : Bool) (content : List ℕ) (from end : ℕ) → from < end → end ≤ length content
    → (end - from ≡ 4096) ⊎ (end ≡ length content) → IsKind is_hole (take (end - from) (drop from content)) → IsRun is_hole content from end
run_begin is_hole content from end some within (inl whole) kind =
    record { some = some; within = within; blocks = 1; size = inl whole; kind = kind }
run_begin is_hole content from end some within (inr all) kind =
    record { some = some; within = within; blocks = 1; size = inr all; kind = kind }

-- a run with one block more
pub run_next : (is_hole : Bool) (content : List ℕ) (from end next : ℕ) → IsRun is_hole content from end → end < length content → end < next
    → next ≤ length content → (next - end ≡ 4096) ⊎ (next ≡ length content) → IsKind is_hole (take (next - end) (drop end content))
    → IsRun is_hole content from next
run_next is_hole content from end next run more some within size kind =
    let n = run.blocks in
    let whole : end - from ≡ n * 4096 = run_size n content from end more run.size in
    let front = take (end - from) (drop from content) in
    let block = take (next - end) (drop end content) in
    let le : end - from ≤ length (drop from content) = omega (arith, length-drop from content, run.some, run.within) in
    let front_size : length front ≡ n * 4096 = length-take-le (end - from) (drop from content) le ∙ whole in
    let both : (end - from) + (next - end) ≡ next - from = omega (arith, run.some, some) in
    let there : from + (end - from) ≡ end = omega (arith, run.some) in
    let split : front ++ block ≡ take (next - from) (drop from content) =
    ap (λ bs. front ++ take (next - end) bs) (sym (drop-drop (end - from) from content ∙ ap (λ k. drop k content) there))
    ∙ sym (take-add (end - from) (next - end) (drop from content)) ∙ ap (λ k. take k (drop from content)) both
    in
    record {
      some = omega (arith, run.some, some);
      within = within;
      blocks = suc n;
      size = longer_size n content from end next run.some some whole size;
      kind = subst (λ (bs : List ℕ). IsKind is_hole bs) split (kind_more n is_hole front block front_size run.kind kind);
    }

-- ---- blocks are written

pub run_hole : (run : List ℕ) (before after : Option Planted) → IsKind true run → after ≡ option_map (λ t. with_hole (length run) t) before
    → after ≡ option_map (λ t. with_content run t) before
run_hole run before after kind e =
    e ∙ map_same (λ t. with_hole (length run) t) (λ t. with_content run t) (λ t. hole_run run t kind) before

pub run_plain : (run : List ℕ) (before after : Option Planted) → IsKind false run → after ≡ option_map (λ t. with_bytes run t) before
    → after ≡ option_map (λ t. with_content run t) before
run_plain run before after kind e =
    e ∙ map_same (λ t. with_bytes run t) (λ t. with_content run t) (λ t. plain_run run t kind) before

pub hole_failed : (run : List ℕ) (before after : Option Planted) → IsKind true run → LeavesHole (length run) before after → WritesFront run before after
hole_failed run before after kind leaves = record {
  front = take leaves.count run;
  rest = drop leaves.count run;
  split = take-append-drop leaves.count run;
  nodes = ap (option_map (λ t. t.nodes)) leaves.after_is ∙ map_twice (λ t. with_hole leaves.count t) (λ t. t.nodes) before
      ∙ map_same (λ t. write_last (zeros_of leaves.count) t.nodes) (λ t. write_last (take leaves.count run) t.nodes)
      (λ t. ap (λ bs. write_last bs t.nodes) (zero_front leaves.count run leaves.within kind.0)) before;
}

pub write_failed : (block : List ℕ) (before after : Option Planted) → Appends block before after → WritesFront block before after
write_failed block before after appends = record {
  front = take appends.front block;
  rest = drop appends.front block;
  split = take-append-drop appends.front block;
  nodes = ap (option_map (λ t. t.nodes)) appends.after_is ∙ map_twice (λ t. with_bytes (take appends.front block) t) (λ t. t.nodes) before;
}

-- ---- all blocks

-- So much of a content was appended to the current file.
pub record Writing (content : List ℕ) (from : ℕ) (before now : Option Planted) : Type 0 where
  pub all : option_map (λ t. with_content (drop from content) t) now ≡ option_map (λ t. with_content content t) before
  pub front : option_map (λ t. t.nodes) now ≡ option_map (λ t. write_last (take from content) t.nodes) before
  pub current : IfSome now (λ t. HasCurrent t.nodes)
  pub within : from ≤ length content

pub writing_begin : (content : List ℕ) (before : Option Planted) → IfSome before (λ t. HasCurrent t.nodes) → Writing content 0 before before
writing_begin content before current = record {
  all = refl;
  front = map_same (λ t. t.nodes) (λ t. write_last [] t.nodes) (λ t. sym (write_last-none t.nodes)) before;
  current = current;
  within = omega arith;
}

pub writing_end : (content : List ℕ) (from : ℕ) (before now : Option Planted) → Writing content from before now → length content ≤ from
    → now ≡ option_map (λ t. with_content content t) before
writing_end content from before now writing end =
    sym (ap (λ bs. option_map (λ t. with_content bs t) now) (drop_all from content end)
    ∙ map_none (λ t. with_content [] t) content_none now) ∙ writing.all

-- the block from one place to another, and what stands behind it
rest_at : (content : List ℕ) (from end : ℕ) → from ≤ end → drop from content ≡ take (end - from) (drop from content) ++ drop end content
rest_at content from end le =
    let e : from + (end - from) ≡ end = omega arith in
    sym (ap (λ r. take (end - from) (drop from content) ++ r) (sym (drop-drop (end - from) from content ∙ ap (λ n. drop n content) e))
    ∙ take-append-drop (end - from) (drop from content))

front_at : (content : List ℕ) (from end : ℕ) → from ≤ end → end ≤ length content → take end content ≡ take from content ++ take (end - from) (drop from content)
front_at content from end le within =
    let e : from + (end - from) ≡ end = omega arith in
    ap (λ n. take n content) (sym e) ∙ take-add from (end - from) content

block_size : (n : ℕ) (content : List ℕ) (from end : ℕ) → from ≤ end → end ≤ length content → (end - from ≡ n * 4096) ⊎ (end ≡ length content)
    → (length (take (end - from) (drop from content)) ≡ n * 4096) ⊎ (drop end content ≡ [])
block_size n content from end le within (inl size) =
    inl (length-take-le (end - from) (drop from content) (omega (arith, length-drop from content)) ∙ size)
block_size n content from end le within (inr all) = inr (drop_all end content (omega (arith, all)))

pub writing_next : (is_hole : Bool) (content : List ℕ) (from end : ℕ) (before now after : Option Planted) → Writing content from before now
    → IsRun is_hole content from end → after ≡ option_map (λ t. with_content (take (end - from) (drop from content)) t) now → Writing content end before after
writing_next is_hole content from end before now after writing run after_is =
    let n = run.blocks in
    let le : from ≤ end = omega (arith, run.some) in
    let within = run.within in
    let block = take (end - from) (drop from content) in
    let rest = drop end content in
    let ends : (length block ≡ n * 4096) ⊎ (rest ≡ []) = block_size n content from end le within run.size in
    record {
      all = ap (option_map (λ t. with_content rest t)) after_is ∙ map_twice (λ t. with_content block t) (λ t. with_content rest t) now
          ∙ sym (map_same (λ t. with_content (drop from content) t) (λ t. with_content rest (with_content block t))
          (λ t. ap (λ bs. with_content bs t) (rest_at content from end le) ∙ content_more n block rest t ends) now)
          ∙ writing.all;
      front = ap (option_map (λ t. t.nodes)) after_is ∙ map_twice (λ t. with_content block t) (λ t. t.nodes) now
          ∙ sym (map_twice (λ (t : Planted). t.nodes) (λ ps. write_last block ps) now) ∙ ap (option_map (λ ps. write_last block ps)) writing.front
          ∙ map_twice (λ (t : Planted). write_last (take from content) t.nodes) (λ ps. write_last block ps) before
          ∙ map_same (λ (t : Planted). write_last block (write_last (take from content) t.nodes)) (λ t. write_last (take end content) t.nodes)
          (λ t. sym (write_last-more (take from content) block t.nodes) ∙ ap (λ bs. write_last bs t.nodes) (sym (front_at content from end le within))) before;
      current = after_map (λ t. with_content block t) now after (λ t. HasCurrent t.nodes) (λ t. HasCurrent t.nodes) after_is
          (λ t current. current_stays block t.nodes current) writing.current;
      within = within;
    }

pub writing_failed : (content : List ℕ) (from end : ℕ) (before now after : Option Planted) → Writing content from before now → from ≤ end
    → WritesFront (take (end - from) (drop from content)) now after → WritesFront content before after
writing_failed content from end before now after writing le failed = record {
  front = take from content ++ failed.front;
  rest = failed.rest ++ drop end content;
  split = append_assoc (take from content) failed.front (failed.rest ++ drop end content)
      ∙ ap (λ bs. take from content ++ bs) (sym (append_assoc failed.front failed.rest (drop end content))
      ∙ ap (λ bs. bs ++ drop end content) failed.split ∙ sym (rest_at content from end le))
      ∙ take-append-drop from content;
  nodes = failed.nodes ∙ sym (map_twice (λ (t : Planted). t.nodes) (λ ps. write_last failed.front ps) now)
      ∙ ap (option_map (λ ps. write_last failed.front ps)) writing.front
      ∙ map_twice (λ (t : Planted). write_last (take from content) t.nodes) (λ ps. write_last failed.front ps) before
      ∙ map_same (λ (t : Planted). write_last failed.front (write_last (take from content) t.nodes))
      (λ t. write_last (take from content ++ failed.front) t.nodes)
      (λ t. sym (write_last-more (take from content) failed.front t.nodes)) before;
}
