-- Lemmas on specs/Growth.antt: folders above a path, and what can be made there.
use Rattle.std.proofs.Common.{◌≡◌, ◌⊎◌, inl, inr, ◌<◌, ◌≤◌, ◌+◌, ℕ, zero, suc, Bool, ◌||◌, true, false, List, [], ◌∷◌, ◌++◌, length, take, get_or, Option}
use Rattle.std.proofs.Common.{Some, None, IfSome, option_map, is_none, is_some}
use Rattle.std.proofs.Common.{if◌then◌else◌, refl, sym, ◌∙◌, ap, subst, arith, add-one}
use Rattle.std.proofs.Math.Seq.{get_or-append_seam, take-append_seam}
use Rattle.std.proofs.lemmas.Bool.{cases_Bool, cases_lt}
use Rattle.std.proofs.lemmas.List.{take-take, take_all, get_or-take, length-append, length-take-le}
use Rattle.std.proofs.lemmas.Slice.Eq.{bytes_eq-Decides}
use Rattle.std.specs.Str.{bytes_eq}
use Rattle.ferry_tree.specs.Growth.{with_folder, with_parents, Holds}
use Rattle.ferry_tree.specs.Index.{known_in}
use Rattle.ferry_tree.specs.Making.{HasRoom}
use Rattle.ferry_tree.specs.Nodes.{NodeText, folder_node, file_node, link_node, same_node, Placed, Planted, later_node, node_at, HasParent, CanMake, slash}
use Rattle.ferry_tree.specs.Nodes.{with_node}
use Rattle.ferry_tree.specs.Planning.{Known, known, mark_of, ends_at_slash, is_in_the_way, has_bad_front}
use Rattle.ferry_tree.specs.declared.known.Index.{Index}
use Rattle.ferry_tree.specs.declared.known.Mark.{Mark}
use Rattle.ferry_tree.proofs.NodeLemmas.{node_at-last}
use Rattle.ferry_tree.proofs.PathLemmas.{slash_is, front_suc}

-- ---- one node more

same_bytes : (path : List ℕ) → bytes_eq path path ≡ true
same_bytes path = (bytes_eq-Decides path path).1 refl

-- a node that is made is at its path
pub node_here : (nodes : List Placed) (path : List ℕ) (node : NodeText)
    → node_at path (nodes ++ (record { path = path; node = node } ∷ [])) ≡ Some node
node_here nodes path node =
    node_at-last path nodes (record { path = path; node = node })
    ∙ ap (λ (b : Bool). later_node (node_at path nodes) (if b then Some node else None)) (same_bytes path)

-- at another path all is as it was
pub node_apart : (nodes : List Placed) (path other : List ℕ) (node : NodeText) → bytes_eq path other ≡ false
    → node_at other (nodes ++ (record { path = path; node = node } ∷ [])) ≡ node_at other nodes
node_apart nodes path other node apart =
    node_at-last other nodes (record { path = path; node = node })
    ∙ ap (λ (b : Bool). later_node (node_at other nodes) (if b then Some node else None)) apart

-- ---- fronts

-- At each front of less than so many bytes is a folder.
abbrev pub AreFolders : List Placed → List ℕ → ℕ → Type 0
AreFolders nodes path n = (k : ℕ) → k < n → ends_at_slash path k ≡ true → node_at (take k path) nodes ≡ Some folder_node

-- At each front of less than so many bytes is a folder or nothing.
abbrev pub IsClear : List Placed → List ℕ → ℕ → Type 0
IsClear nodes path n = (k : ℕ) → k < n → ends_at_slash path k ≡ true → is_in_the_way (known nodes (take k path)) ≡ false

or_first : (a b : Bool) → (a || b) ≡ false → a ≡ false
or_first true b e = e
or_first false b e = refl

or_second : (a b : Bool) → (a || b) ≡ false → b ≡ false
or_second true b e = absurd (let no : ⊥ = cc in no)
or_second false b e = e

clear_last : (at : Known) (path : List ℕ) (n k : ℕ) → ((k : ℕ) → k < n → ends_at_slash path k ≡ true → is_in_the_way (at (take k path)) ≡ false)
    → (if ends_at_slash path n then is_in_the_way (at (take n path)) else false) ≡ false → (k < n) ⊎ (n ≤ k) → k < suc n
    → ends_at_slash path k ≡ true → is_in_the_way (at (take k path)) ≡ false
clear_last at path n k before last (inl lt) within is = before k lt is
clear_last at path n k before last (inr le) within is =
    let e : n ≡ k = omega arith in
    let here : ends_at_slash path n ≡ true = subst (λ (m : ℕ). ends_at_slash path m ≡ true) (sym e) is in
    subst (λ (m : ℕ). is_in_the_way (at (take m path)) ≡ false) e
    (sym (ap (λ (b : Bool). if b then is_in_the_way (at (take n path)) else false) here) ∙ last)

clear_at : (at : Known) (path : List ℕ) (n : ℕ) → has_bad_front at path n ≡ false → (k : ℕ) → k < n → ends_at_slash path k ≡ true
    → is_in_the_way (at (take k path)) ≡ false
clear_at at path zero good k lt is = absurd (let no : ⊥ = omega arith in no)
clear_at at path (suc n) good k lt is =
    let both = sym (front_suc at path n) ∙ good in
    clear_last at path n k (clear_at at path n (or_first _ _ both)) (or_second _ _ both) (cases_lt k n) lt is

pub clear_from : (at : Known) (nodes : List Placed) (path : List ℕ) (n : ℕ) → ((q : List ℕ) → at q ≡ known nodes q)
    → has_bad_front at path n ≡ false → IsClear nodes path n
clear_from at nodes path n knows good k lt is =
    ap is_in_the_way (sym (knows (take k path))) ∙ clear_at at path n good k lt is

-- ---- with_parents

parents_none : (path : List ℕ) (tree : Planted) → with_parents path 0 tree ≡ tree
unfolding with_parents
parents_none path tree = refl

parents_suc : (path : List ℕ) (n : ℕ) (tree : Planted) → with_parents path (suc n) tree
    ≡ (if ends_at_slash path n then with_folder (take n path) (with_parents path n tree) else with_parents path n tree)
unfolding with_parents
parents_suc path n tree = refl

pub parents_at : (path : List ℕ) (n : ℕ) (tree : Planted) → ends_at_slash path n ≡ true
    → with_parents path (n + 1) tree ≡ with_folder (take n path) (with_parents path n tree)
parents_at path n tree is =
    ap (λ m. with_parents path m tree) (add-one n) ∙ parents_suc path n tree
    ∙ ap (λ (b : Bool). if b then with_folder (take n path) (with_parents path n tree) else with_parents path n tree) is

pub parents_past : (path : List ℕ) (n : ℕ) (tree : Planted) → ends_at_slash path n ≡ false
    → with_parents path (n + 1) tree ≡ with_parents path n tree
parents_past path n tree is =
    ap (λ m. with_parents path m tree) (add-one n) ∙ parents_suc path n tree
    ∙ ap (λ (b : Bool). if b then with_folder (take n path) (with_parents path n tree) else with_parents path n tree) is

-- ---- one folder more

apart_paths : (tree : Planted) (path other : List ℕ) → node_at path tree.nodes ≡ None → (node : NodeText) → node_at other tree.nodes ≡ Some node
    → (bytes_eq path other ≡ true) ⊎ (bytes_eq path other ≡ false) → bytes_eq path other ≡ false
apart_paths tree path other new node is (inr n) = n
apart_paths tree path other new node is (inl y) =
    let e : path ≡ other = (bytes_eq-Decides path other).0 y in
    let no : None ≡ Some node = sym new ∙ ap (λ p. node_at p tree.nodes) e ∙ is in
    absurd (let f : ⊥ = cc in f)

folder_kept : (tree : Planted) (path other : List ℕ) (a : Option NodeText) → node_at path tree.nodes ≡ a → (node : NodeText)
    → node_at other tree.nodes ≡ Some node → node_at other (if is_none a then with_node path folder_node tree else tree).nodes ≡ Some node
folder_kept tree path other (Some x) there node is = is
folder_kept tree path other None new node is =
    node_apart tree.nodes path other folder_node (apart_paths tree path other new node is (cases_Bool (bytes_eq path other))) ∙ is

-- what is there stays, where a folder is made
pub kept_by_folder : (tree : Planted) (path other : List ℕ) (node : NodeText) → node_at other tree.nodes ≡ Some node
    → node_at other (with_folder path tree).nodes ≡ Some node
kept_by_folder tree path other node is = folder_kept tree path other (node_at path tree.nodes) refl node is

folder_at : (tree : Planted) (path : List ℕ) (a : Option NodeText) → node_at path tree.nodes ≡ a → is_in_the_way (option_map mark_of a) ≡ false
    → node_at path (if is_none a then with_node path folder_node tree else tree).nodes ≡ Some folder_node
folder_at tree path None new clear = node_here tree.nodes path folder_node
folder_at tree path (Some folder_node) there clear = there
folder_at tree path (Some (file_node c)) there clear = absurd (let no : ⊥ = cc in no)
folder_at tree path (Some (link_node t)) there clear = absurd (let no : ⊥ = cc in no)
folder_at tree path (Some (same_node f)) there clear = absurd (let no : ⊥ = cc in no)

-- a folder is there, where nothing was in the way
pub folder_there : (tree : Planted) (path : List ℕ) → is_in_the_way (known tree.nodes path) ≡ false
    → node_at path (with_folder path tree).nodes ≡ Some folder_node
folder_there tree path clear = folder_at tree path (node_at path tree.nodes) refl clear

clear_node : (a : Option NodeText) (b : Bool) → is_in_the_way (option_map mark_of a) ≡ false
    → is_in_the_way (option_map mark_of (later_node a (if b then Some folder_node else None))) ≡ false
clear_node a true clear = refl
clear_node a false clear = clear

folder_clear : (tree : Planted) (path other : List ℕ) (a : Option NodeText) → is_in_the_way (known tree.nodes other) ≡ false
    → is_in_the_way (known (if is_none a then with_node path folder_node tree else tree).nodes other) ≡ false
folder_clear tree path other (Some x) clear = clear
folder_clear tree path other None clear =
    ap (λ (n : Option NodeText). is_in_the_way (option_map mark_of n)) (node_at-last other tree.nodes (record { path = path; node = folder_node }))
    ∙ clear_node (node_at other tree.nodes) (bytes_eq path other) clear

-- a folder is in the way of nothing
pub clear_by_folder : (tree : Planted) (path other : List ℕ) → is_in_the_way (known tree.nodes other) ≡ false
    → is_in_the_way (known (with_folder path tree).nodes other) ≡ false
clear_by_folder tree path other clear = folder_clear tree path other (node_at path tree.nodes) clear

folder_apart : (tree : Planted) (path other : List ℕ) (a : Option NodeText) → bytes_eq path other ≡ false
    → node_at other (if is_none a then with_node path folder_node tree else tree).nodes ≡ node_at other tree.nodes
folder_apart tree path other (Some x) apart = refl
folder_apart tree path other None apart = node_apart tree.nodes path other folder_node apart

-- ---- the folders above a path

-- Above a path are folders up to here, and nothing is in the way further on.
pub record IsMade (nodes : List Placed) (path : List ℕ) (n m : ℕ) : Type 0 where
  pub folders : AreFolders nodes path n
  pub clear : IsClear nodes path m

made_here : (prev : Planted) (path : List ℕ) (n m k : ℕ) → IsMade prev.nodes path n m → suc n ≤ m → (k < n) ⊎ (n ≤ k) → k < suc n
    → ends_at_slash path k ≡ true → node_at (take k path) (with_folder (take n path) prev).nodes ≡ Some folder_node
made_here prev path n m k made le (inl lt) within is = kept_by_folder prev (take n path) (take k path) folder_node (made.folders k lt is)
made_here prev path n m k made le (inr ge) within is =
    let e : n ≡ k = omega arith in
    subst (λ (j : ℕ). node_at (take j path) (with_folder (take n path) prev).nodes ≡ Some folder_node) e
    (folder_there prev (take n path) (made.clear n (omega arith) (subst (λ (j : ℕ). ends_at_slash path j ≡ true) (sym e) is)))

passed_here : (prev : Planted) (path : List ℕ) (n m k : ℕ) → IsMade prev.nodes path n m → ends_at_slash path n ≡ false → (k < n) ⊎ (n ≤ k) → k < suc n
    → ends_at_slash path k ≡ true → node_at (take k path) prev.nodes ≡ Some folder_node
passed_here prev path n m k made plain (inl lt) within is = made.folders k lt is
passed_here prev path n m k made plain (inr ge) within is =
    let e : n ≡ k = omega arith in
    let no : false ≡ true = sym plain ∙ ap (ends_at_slash path) e ∙ is in
    absurd (let f : ⊥ = cc in f)

made_next : (prev : Planted) (path : List ℕ) (n m : ℕ) → IsMade prev.nodes path n m → suc n ≤ m
    → (ends_at_slash path n ≡ true) ⊎ (ends_at_slash path n ≡ false)
    → IsMade (if ends_at_slash path n then with_folder (take n path) prev else prev).nodes path (suc n) m
made_next prev path n m made le (inl is) =
    subst (λ (b : Bool). IsMade (if b then with_folder (take n path) prev else prev).nodes path (suc n) m) (sym is) (record {
      folders = λ k lt slash_k. made_here prev path n m k made le (cases_lt k n) lt slash_k;
      clear = λ k lt slash_k. clear_by_folder prev (take n path) (take k path) (made.clear k lt slash_k);
    })
made_next prev path n m made le (inr plain) =
    subst (λ (b : Bool). IsMade (if b then with_folder (take n path) prev else prev).nodes path (suc n) m) (sym plain) (record {
      folders = λ k lt slash_k. passed_here prev path n m k made plain (cases_lt k n) lt slash_k;
      clear = made.clear;
    })

pub fronts_made : (tree : Planted) (path : List ℕ) (m : ℕ) → IsClear tree.nodes path m → (n : ℕ) → n ≤ m
    → IsMade (with_parents path n tree).nodes path n m
fronts_made tree path m clear zero le =
    subst (λ (t : Planted). IsMade t.nodes path 0 m) (sym (parents_none path tree)) (record {
      folders = λ k lt is. absurd (let no : ⊥ = omega arith in no);
      clear = clear;
    })
fronts_made tree path m clear (suc n) le =
    subst (λ (t : Planted). IsMade t.nodes path (suc n) m) (sym (parents_suc path n tree))
    (made_next (with_parents path n tree) path n m (fronts_made tree path m clear n (omega arith)) le (cases_Bool (ends_at_slash path n)))

-- where the fronts are folders the parent is one
pub parent_of : (nodes : List Placed) (path xs : List ℕ) (n : ℕ) → xs ≡ take n path → n ≤ length path → AreFolders nodes path n → HasParent nodes xs
parent_of nodes path xs n xs_is le folders parent name is none =
    let k = length parent in
    let front : take n path ≡ parent ++ (slash ∷ name) = sym xs_is ∙ is in
    let whole : length (take n path) ≡ n = length-take-le n path le in
    let parts : length (take n path) ≡ length parent + length (slash ∷ name) = ap length front ∙ length-append parent (slash ∷ name) in
    let more : length (slash ∷ name) ≡ suc (length name) = refl in
    let lt : k < n = omega (arith, whole, parts, more) in
    let same : take k path ≡ parent =
    sym (take-take k n path (omega (arith, lt))) ∙ ap (take k) front ∙ take-append_seam parent (slash ∷ name)
    in
    let at : get_or path k 0 ≡ slash =
    sym (get_or-take n path k 0 lt) ∙ ap (λ ys. get_or ys k 0) front ∙ get_or-append_seam parent slash name 0
    in
    subst (λ (p : List ℕ). node_at p nodes ≡ Some folder_node) same (folders k lt (slash_is (get_or path k 0) at))

-- ---- the path itself

shorter : (path : List ℕ) (n : ℕ) → n < length path → (bytes_eq (take n path) path ≡ true) ⊎ (bytes_eq (take n path) path ≡ false)
    → bytes_eq (take n path) path ≡ false
shorter path n lt (inr other) = other
shorter path n lt (inl same) =
    let e : length (take n path) ≡ length path = ap length ((bytes_eq-Decides (take n path) path).0 same) in
    let short : length (take n path) ≡ n = length-take-le n path (omega (arith, lt)) in
    absurd (let no : ⊥ = omega (arith, e, short, lt) in no)

step_new : (prev : Planted) (path : List ℕ) (n : ℕ) → n < length path → (b : Bool)
    → node_at path (if b then with_folder (take n path) prev else prev).nodes ≡ node_at path prev.nodes
step_new prev path n lt true =
    folder_apart prev (take n path) path (node_at (take n path) prev.nodes) (shorter path n lt (cases_Bool (bytes_eq (take n path) path)))
step_new prev path n lt false = refl

-- the folders above a path leave it as it was
pub path_new : (tree : Planted) (path : List ℕ) (n : ℕ) → n ≤ length path → node_at path (with_parents path n tree).nodes ≡ node_at path tree.nodes
path_new tree path zero le = ap (λ (t : Planted). node_at path t.nodes) (parents_none path tree)
path_new tree path (suc n) le =
    ap (λ (t : Planted). node_at path t.nodes) (parents_suc path n tree)
    ∙ step_new (with_parents path n tree) path n (omega arith) (ends_at_slash path n) ∙ path_new tree path n (omega arith)

-- a node can be made at a new path behind the folders above it
pub can_make : (tree : Planted) (path : List ℕ) → node_at path tree.nodes ≡ None → IsClear tree.nodes path (length path)
    → CanMake (with_parents path (length path) tree).nodes path
can_make tree path new clear = record {
  new = path_new tree path (length path) (omega arith) ∙ new;
  parent = parent_of (with_parents path (length path) tree).nodes path path (length path) (sym (take_all (length path) path (omega arith)))
      (omega arith) (fronts_made tree path (length path) clear (length path) (omega arith)).folders;
}

step_kept : (prev : Planted) (path : List ℕ) (n : ℕ) (b : Bool) (other : List ℕ) (node : NodeText) → node_at other prev.nodes ≡ Some node
    → node_at other (if b then with_folder (take n path) prev else prev).nodes ≡ Some node
step_kept prev path n true other node is = kept_by_folder prev (take n path) other node is
step_kept prev path n false other node is = is

-- what is there stays, where folders above a path are made
pub with_parents-kept : (path : List ℕ) (n : ℕ) (tree : Planted) (other : List ℕ) (node : NodeText) → node_at other tree.nodes ≡ Some node
    → node_at other (with_parents path n tree).nodes ≡ Some node
with_parents-kept path zero tree other node is = ap (λ (t : Planted). node_at other t.nodes) (parents_none path tree) ∙ is
with_parents-kept path (suc n) tree other node is =
    ap (λ (t : Planted). node_at other t.nodes) (parents_suc path n tree)
    ∙ step_kept (with_parents path n tree) path n (ends_at_slash path n) other node (with_parents-kept path n tree other node is)

-- ---- what is known

pub holds_begin : (told : Option Planted) (index : Index) (tree after : Planted) → after ≡ tree → Holds told index tree → Holds told index after
holds_begin told index tree after same holds = subst (λ (t : Planted). Holds told index t) (sym same) holds

mark_more : (a : Option NodeText) (b : Bool) (node : NodeText)
    → (if b then Some (mark_of node) else option_map mark_of a) ≡ option_map mark_of (later_node a (if b then Some node else None))
mark_more a true node = refl
mark_more a false node = refl

-- where a node's mark is put, what is known is what stands behind it
pub knows_more : (before after : Index) (tree : Planted) (path : List ℕ) (node : NodeText) (mark : Mark)
    → ((q : List ℕ) → known_in before q ≡ known tree.nodes q) → mark ≡ mark_of node
    → ((q : List ℕ) → known_in after q ≡ (if bytes_eq path q then Some mark else known_in before q))
    → (q : List ℕ) → known_in after q ≡ known (with_node path node tree).nodes q
knows_more before after tree path node mark knows mark_is put q =
    put q ∙ ap (λ (m : Mark). if bytes_eq path q then Some m else known_in before q) mark_is
    ∙ ap (λ (k : Option Mark). if bytes_eq path q then Some (mark_of node) else k) (knows q)
    ∙ mark_more (node_at q tree.nodes) (bytes_eq path q) node
    ∙ ap (option_map mark_of) (sym (node_at-last q tree.nodes (record { path = path; node = node })))

some_known : (tree : Planted) (path : List ℕ) (a : Option NodeText) → is_some (option_map mark_of a) ≡ true
    → (if is_none a then with_node path folder_node tree else tree) ≡ tree
some_known tree path None there = absurd (let no : ⊥ = cc in no)
some_known tree path (Some n) there = refl

-- where something is known no folder is made
pub folder_known : (index : Index) (tree : Planted) (path : List ℕ) → ((q : List ℕ) → known_in index q ≡ known tree.nodes q)
    → is_some (known_in index path) ≡ true → with_folder path tree ≡ tree
folder_known index tree path knows there =
    some_known tree path (node_at path tree.nodes) (ap is_some (sym (knows path)) ∙ there)

none_known : (tree : Planted) (path : List ℕ) (a : Option NodeText) → is_some (option_map mark_of a) ≡ false
    → (if is_none a then with_node path folder_node tree else tree) ≡ with_node path folder_node tree
none_known tree path None new = refl
none_known tree path (Some n) new = absurd (let no : ⊥ = cc in no)

no_node : (a : Option NodeText) → is_some (option_map mark_of a) ≡ false → a ≡ None
no_node None new = refl
no_node (Some n) new = absurd (let no : ⊥ = cc in no)

pub node_unknown : (index : Index) (tree : Planted) (path : List ℕ) → ((q : List ℕ) → known_in index q ≡ known tree.nodes q)
    → is_some (known_in index path) ≡ false → node_at path tree.nodes ≡ None
node_unknown index tree path knows new = no_node (node_at path tree.nodes) (ap is_some (sym (knows path)) ∙ new)

-- where nothing is known a folder is made
pub folder_new : (index : Index) (tree : Planted) (path : List ℕ) → ((q : List ℕ) → known_in index q ≡ known tree.nodes q)
    → is_some (known_in index path) ≡ false → with_folder path tree ≡ with_node path folder_node tree
folder_new index tree path knows new =
    none_known tree path (node_at path tree.nodes) (ap is_some (sym (knows path)) ∙ new)

-- ---- what is told and known behind one node

tells_then : (told now : Option Planted) (f : Planted → Planted) (before : Planted) → now ≡ option_map f told → IfSome told (λ t. t ≡ before)
    → IfSome now (λ t. t ≡ f before)
tells_then None now f before e tells = subst (λ (o : Option Planted). IfSome o (λ t. t ≡ f before)) (sym e) tt
tells_then (Some t) now f before e tells = subst (λ (o : Option Planted). IfSome o (λ u. u ≡ f before)) (sym e) (ap f tells)

pub holds_more : (told now : Option Planted) (old new : Index) (before : Planted) (path : List ℕ) (node : NodeText) (mark : Mark)
    → Holds told old before → mark ≡ mark_of node
    → ((q : List ℕ) → known_in new q ≡ (if bytes_eq path q then Some mark else known_in old q))
    → now ≡ option_map (λ t. with_node path node t) told → Holds now new (with_node path node before)
holds_more told now old new before path node mark holds mark_is put e = record {
  tells = tells_then told now (λ t. with_node path node t) before e holds.tells;
  knows = knows_more old new before path node mark holds.knows mark_is put;
}

is_some_map : {A B : Type 0} (f : A → B) (o : Option A) (b : Bool) → is_some o ≡ b → is_some (option_map f o) ≡ b
is_some_map f None b e = e
is_some_map f (Some x) b e = e

-- whether something is known, by what was read of it
pub known_is : {A : Type 0} (f : A → Mark) (o : Option A) (k : Option Mark) (b : Bool) → option_map f o ≡ k → is_some o ≡ b → is_some k ≡ b
known_is f o k b e is = ap is_some (sym e) ∙ is_some_map f o b is

pub same_tells : (told now : Option Planted) (before : Planted) → now ≡ told → IfSome told (λ t. t ≡ before) → IfSome now (λ t. t ≡ before)
same_tells told now before e tells = subst (λ (o : Option Planted). IfSome o (λ t. t ≡ before)) (sym e) tells

pub can_folder : (told : Option Planted) (before : Planted) (path : List ℕ) → IfSome told (λ t. t ≡ before) → node_at path before.nodes ≡ None
    → HasRoom before path → IfSome told (λ t. CanMake t.nodes path)
can_folder None before path tells new room = tt
can_folder (Some t) before path tells new room =
    subst (λ (u : Planted). CanMake u.nodes path) (sym tells) (record { new = new; parent = room new })

pub room_at : (at : Known) (tree : Planted) (path : List ℕ) (n : ℕ) → ((q : List ℕ) → at q ≡ known tree.nodes q)
    → has_bad_front at path (length path) ≡ false → n ≤ length path → HasRoom (with_parents path n tree) (take n path)
room_at at tree path n knows good le new =
    parent_of (with_parents path n tree).nodes path (take n path) n refl le
    (fronts_made tree path (length path) (clear_from at tree.nodes path (length path) knows good) n le).folders

pub holds_none : (told : Option Planted) (index : Index) (path : List ℕ) (before : Planted) → Holds told index before
    → Holds told index (with_parents path 0 before)
holds_none told index path before holds = holds_begin told index before (with_parents path 0 before) (parents_none path before) holds

-- the same where the tree and what is known are others that are equal
pub holds_by : (told now : Option Planted) (old new : Index) (tree : Planted) → now ≡ told → new ≡ old → Holds told old tree → Holds now new tree
holds_by told now old new tree same same_index holds =
    subst (λ (o : Option Planted). Holds o new tree) (sym same) (subst (λ (i : Index). Holds told i tree) (sym same_index) holds)
