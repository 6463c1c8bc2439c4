-- Lemmas on specs/Planning.antt and specs/Placing.antt: what comes of an item where a node is made, and what can be made then.
use Rattle.std.proofs.Common.{◌≡◌, ℕ, ◌/◌, ◌==◌, Bool, ◌||◌, ◌&&◌, true, false, not, List, [], ◌∷◌, length, Option, Some, None, IfSome, option_map}
use Rattle.std.proofs.Common.{if◌then◌else◌, refl, sym, ◌∙◌, ap, subst, arith}
use Rattle.std.proofs.Math.Path.{fun_ext}
use Rattle.std.specs.Str.{bytes_eq}
use Rattle.ferry_tree.specs.Growth.{Holds, with_parents}
use Rattle.ferry_tree.specs.Index.{known_in}
use Rattle.ferry_tree.specs.Making.{Refers, CanBeMade}
use Rattle.ferry_tree.specs.Nodes.{NodeText, folder_node, file_node, link_node, same_node, Planted, node_at, HasCurrent, with_node}
use Rattle.ferry_tree.specs.Planning.{Known, known, mark_of, has_bad_part, has_bad_front, Outcome, stays, passed, makes, refused, original_outcome}
use Rattle.ferry_tree.specs.Planning.{same_outcome, bare_outcome, link_outcome, new_outcome, path_outcome, kind_outcome, mode_outcome, outcome_of}
use Rattle.ferry_tree.specs.declared.known.Index.{Index}
use Rattle.ferry_tree.specs.declared.known.Mark.{Mark}
use Rattle.ferry_tree.specs.declared.known.Mark.TheVariants as Marks
use Rattle.ferry_tree.specs.declared.planning.Origin.{Origin}
use Rattle.ferry_tree.specs.declared.planning.Origin.TheVariants as Origins
use Rattle.ferry_tree.specs.declared.planning.PlaceFault.{PlaceFault}
use Rattle.ferry_tree.specs.declared.planning.PlaceFault.TheVariants.{Path, Parent}
use Rattle.ferry_tree.specs.declared.planning.Shape.{Shape}
use Rattle.ferry_tree.proofs.GrowthLemmas.{clear_from, can_make, with_parents-kept}

-- ---- what is made

-- What a node refers to is known.
abbrev pub RefersKnown : Known → NodeText → Type 0
RefersKnown at folder_node = Unit {0}
RefersKnown at (file_node content) = content ≡ []
RefersKnown at (link_node target) = Unit {0}
RefersKnown at (same_node first) = at first ≡ Some Marks.File

-- Nothing is known at the path, no front of it is in the way, and what the node refers to is known.
pub record MakesThere (at : Known) (path : List ℕ) (node : NodeText) : Type 0 where
  pub new : at path ≡ None
  pub room : has_bad_front at path (length path) ≡ false
  pub refers : RefersKnown at node

abbrev code : Outcome → ℕ
code stays = 0
code passed = 1
code (makes node) = 2
code (refused fault) = 3

not_stays : (node : NodeText) → stays ≡ makes node → ⊥
not_stays node e = let no : 0 ≡ 2 = ap code e in omega (arith, no)

not_passed : (node : NodeText) → passed ≡ makes node → ⊥
not_passed node e = let no : 1 ≡ 2 = ap code e in omega (arith, no)

not_refused : (fault : PlaceFault) (node : NodeText) → refused fault ≡ makes node → ⊥
not_refused fault node e = let no : 3 ≡ 2 = ap code e in omega (arith, no)

abbrev node_in : NodeText → Outcome → NodeText
node_in d stays = d
node_in d passed = d
node_in d (makes node) = node
node_in d (refused fault) = d

refers_by : (at : Known) (made node : NodeText) → makes made ≡ makes node → RefersKnown at made → RefersKnown at node
refers_by at made node e refers = subst (λ (n : NodeText). RefersKnown at n) (ap (node_in made) e) refers

original_makes : (at : Known) (original : List ℕ) (mark : Option Mark) (node : NodeText) → at original ≡ mark
    → original_outcome original mark ≡ makes node → RefersKnown at node
original_makes at original None node is e = absurd (not_refused _ node e)
original_makes at original (Some Marks.Folder) node is e = absurd (not_refused _ node e)
original_makes at original (Some Marks.File) node is e = refers_by at (same_node original) node e is
original_makes at original (Some Marks.Link) node is e = absurd (not_refused _ node e)
original_makes at original (Some (Marks.Same first)) node is e = absurd (not_refused _ node e)

same_makes : (at : Known) (first : List ℕ) (mark : Option Mark) (node : NodeText) → at first ≡ mark
    → same_outcome at first mark ≡ makes node → RefersKnown at node
same_makes at first None node is e = absurd (not_refused _ node e)
same_makes at first (Some Marks.Folder) node is e = absurd (not_refused _ node e)
same_makes at first (Some Marks.File) node is e = refers_by at (same_node first) node e is
same_makes at first (Some Marks.Link) node is e = absurd (not_refused _ node e)
same_makes at first (Some (Marks.Same original)) node is e = original_makes at original (at original) node refl e

bare_makes : (at : Known) (origin : Origin) (node : NodeText) → bare_outcome at origin ≡ makes node → RefersKnown at node
bare_makes at Origins.Absent node e = refers_by at (file_node []) node e refl
bare_makes at Origins.Other node e = absurd (not_refused _ node e)
bare_makes at (Origins.Raw first) node e = same_makes at first (at first) node refl e

link_makes : (at : Known) (origin : Origin) (node : NodeText) → link_outcome origin ≡ makes node → RefersKnown at node
link_makes at Origins.Absent node e = absurd (not_refused _ node e)
link_makes at Origins.Other node e = absurd (not_refused _ node e)
link_makes at (Origins.Raw target) node e = refers_by at (link_node target) node e tt

file_makes : (at : Known) (origin : Origin) (b : Bool) (node : NodeText)
    → (if b then makes (file_node []) else bare_outcome at origin) ≡ makes node → RefersKnown at node
file_makes at origin true node e = refers_by at (file_node []) node e refl
file_makes at origin false node e = bare_makes at origin node e

new_makes : (at : Known) (shape : Shape) (a b : Bool) (node : NodeText)
    → (if a then makes folder_node else if b then (if shape.has_content then makes (file_node []) else bare_outcome at shape.origin)
    else link_outcome shape.origin) ≡ makes node → RefersKnown at node
new_makes at shape true b node e = refers_by at folder_node node e tt
new_makes at shape false true node e = file_makes at shape.origin shape.has_content node e
new_makes at shape false false node e = link_makes at shape.origin node e

front_makes : (at : Known) (shape : Shape) (kind : ℕ) (b : Bool) (node : NodeText) → has_bad_front at shape.path (length shape.path) ≡ b
    → at shape.path ≡ None → (if b then refused Parent else new_outcome at shape kind) ≡ makes node → MakesThere at shape.path node
front_makes at shape kind true node is new e = absurd (not_refused _ node e)
front_makes at shape kind false node is new e = record { new = new; room = is; refers = new_makes at shape (kind == 4) (kind == 8) node e }

there_makes : (at : Known) (shape : Shape) (b : Bool) (node : NodeText) → (if b then stays else passed) ≡ makes node → MakesThere at shape.path node
there_makes at shape true node e = absurd (not_stays node e)
there_makes at shape false node e = absurd (not_passed node e)

path_makes : (at : Known) (shape : Shape) (kind : ℕ) (mark : Option Mark) (node : NodeText) → at shape.path ≡ mark
    → path_outcome at shape kind mark ≡ makes node → MakesThere at shape.path node
path_makes at shape kind None node is e = front_makes at shape kind (has_bad_front at shape.path (length shape.path)) node refl is e
path_makes at shape kind (Some Marks.Folder) node is e = there_makes at shape (kind == 4) node e
path_makes at shape kind (Some Marks.File) node is e = absurd (not_passed node e)
path_makes at shape kind (Some Marks.Link) node is e = absurd (not_passed node e)
path_makes at shape kind (Some (Marks.Same first)) node is e = absurd (not_passed node e)

kind_makes : (at : Known) (shape : Shape) (kind : ℕ) (b : Bool) (node : NodeText)
    → (if b then path_outcome at shape kind (at shape.path) else passed) ≡ makes node → MakesThere at shape.path node
kind_makes at shape kind true node e = path_makes at shape kind (at shape.path) node refl e
kind_makes at shape kind false node e = absurd (not_passed node e)

root_makes : (at : Known) (shape : Shape) (kind : ℕ) (b : Bool) (node : NodeText) → (if b then stays else kind_outcome at shape kind) ≡ makes node
    → MakesThere at shape.path node
root_makes at shape kind true node e = absurd (not_stays node e)
root_makes at shape kind false node e = kind_makes at shape kind (kind == 4 || (kind == 8 || kind == 10)) node e

mode_makes : (at : Known) (shape : Shape) (mode : Option ℕ) (node : NodeText) → mode_outcome at shape mode ≡ makes node → MakesThere at shape.path node
mode_makes at shape None node e = absurd (not_refused _ node e)
mode_makes at shape (Some mode) node e = root_makes at shape (mode / 4096) (bytes_eq shape.path (46 ∷ [])) node e

part_makes : (at : Known) (shape : Shape) (b : Bool) (node : NodeText) → (if b then refused Path else mode_outcome at shape shape.mode) ≡ makes node
    → MakesThere at shape.path node
part_makes at shape true node e = absurd (not_refused _ node e)
part_makes at shape false node e = mode_makes at shape shape.mode node e

-- where a node is made it can be
pub makes_there : (at : Known) (shape : Shape) (node : NodeText) → outcome_of at shape ≡ makes node → MakesThere at shape.path node
unfolding outcome_of
makes_there at shape node e = part_makes at shape (not (bytes_eq shape.path (46 ∷ [])) && has_bad_part shape.path) node e

-- ---- behind the folders above it

file_mark : (a : Option NodeText) → option_map mark_of a ≡ Some Marks.File → (content : List ℕ) × (a ≡ Some (file_node content))
file_mark None e = absurd (let no : ⊥ = cc in no)
file_mark (Some folder_node) e = absurd (let no : ⊥ = cc in no)
file_mark (Some (file_node content)) e = (content, refl)
file_mark (Some (link_node target)) e = absurd (let no : ⊥ = cc in no)
file_mark (Some (same_node first)) e = absurd (let no : ⊥ = cc in no)

no_mark : (a : Option NodeText) → option_map mark_of a ≡ None → a ≡ None
no_mark None e = refl
no_mark (Some n) e = absurd (let no : ⊥ = cc in no)

refers_behind : (tree : Planted) (path : List ℕ) (n : ℕ) (node : NodeText) → RefersKnown (known tree.nodes) node → Refers (with_parents path n tree) node
refers_behind tree path n folder_node refers = tt
refers_behind tree path n (file_node content) refers = refers
refers_behind tree path n (link_node target) refers = tt
refers_behind tree path n (same_node first) refers =
    let file = file_mark (node_at first tree.nodes) refers in
    record { content = file.0; is = with_parents-kept path n tree first (file_node file.0) file.1 }

-- a node that comes of an item can be made behind the folders above its path
pub can_be_made : (index : Index) (told : Option Planted) (tree : Planted) (shape : Shape) (node : NodeText) → Holds told index tree
    → outcome_of (known_in index) shape ≡ makes node → CanBeMade (with_parents shape.path (length shape.path) tree) shape.path node
can_be_made index told tree shape node holds is =
    let at : known_in index ≡ known tree.nodes = fun_ext holds.knows in
    let there = makes_there (known tree.nodes) shape node (ap (λ (k : Known). outcome_of k shape) (sym at) ∙ is) in
    record {
      place = can_make tree shape.path (no_mark (node_at shape.path tree.nodes) there.new)
          (clear_from (known tree.nodes) tree.nodes shape.path (length shape.path) (λ q. refl) there.room);
      refers = refers_behind tree shape.path (length shape.path) node there.refers;
    }

pub room_there : (index : Index) (shape : Shape) (node : NodeText) → outcome_of (known_in index) shape ≡ makes node
    → has_bad_front (known_in index) shape.path (length shape.path) ≡ false
room_there index shape node is = (makes_there (known_in index) shape node is).room

-- what comes of an item beside what is known comes of it beside the tree
pub same_outcome_in : (index : Index) (told : Option Planted) (tree : Planted) (shape : Shape) → Holds told index tree
    → outcome_of (known_in index) shape ≡ outcome_of (known tree.nodes) shape
same_outcome_in index told tree shape holds =
    let at : known_in index ≡ known tree.nodes = fun_ext holds.knows in
    ap (λ (k : Known). outcome_of k shape) at

-- a file that was made is the current one
pub file_current : (told : Option Planted) (path : List ℕ) (before : Planted) → IfSome told (λ t. t ≡ with_node path (file_node []) before)
    → IfSome told (λ t. HasCurrent t.nodes)
file_current None path before tells = tt
file_current (Some t) path before tells = subst (λ (u : Planted). HasCurrent u.nodes) (sym tells) (record {
  before = before.nodes;
  path = path;
  content = [];
  nodes_are = refl;
})
