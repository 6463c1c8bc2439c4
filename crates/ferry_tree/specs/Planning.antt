-- What is made of an item in a tree. A path has its parts between slashes; the first of several items at one path counts, and nothing is made below
-- what isn't a folder. The kinds of items are those of `mode` in POSIX, <sys/stat.h>, divided by 4096 (BorgBackup 1.2, Internals, "Data structures and file
-- formats", Archives).
use Rattle.std.specs.Prelude.{ℕ, zero, suc, ◌/◌, ◌==◌, Bool, true, false, ◌||◌, ◌&&◌, not, if◌then◌else◌, List, [], ◌∷◌, length, take, slice_index_or}
use Rattle.std.specs.Prelude.{Option, Some, None, option_map}
use Rattle.std.specs.List.{list_any, slice_split}
use Rattle.std.specs.Str.{bytes_eq}
use Rattle.ferry_tree.specs.Nodes.{NodeText, folder_node, file_node, link_node, same_node, Placed, node_at, slash}
use Rattle.ferry_tree.specs.declared.known.Mark.{Mark}
use Rattle.ferry_tree.specs.declared.known.Mark.TheVariants as Marks
use Rattle.ferry_tree.specs.declared.planning.PlaceFault.{PlaceFault}
use Rattle.ferry_tree.specs.declared.planning.PlaceFault.TheVariants.{Path, Mode, Source, Parent}
use Rattle.ferry_tree.specs.declared.planning.Shape.{Shape}
use Rattle.ferry_tree.specs.declared.planning.Origin.{Origin}
use Rattle.ferry_tree.specs.declared.planning.Origin.TheVariants as Origins

-- ---- what is there

-- what is known of a node: its kind, and for a hard link the path of its file
abbrev pub mark_of : NodeText → Mark
mark_of folder_node = Marks.Folder
mark_of (file_node content) = Marks.File
mark_of (link_node target) = Marks.Link
mark_of (same_node first) = Marks.Same first

-- what is known of each path
abbrev pub Known : Type 0
Known = List ℕ → Option Mark

-- what is known of nodes
abbrev pub known : List Placed → Known
known nodes = λ path. option_map mark_of (node_at path nodes)

-- ---- paths

-- whether a byte is a slash
abbrev pub is_slash : ℕ → Bool
is_slash byte = byte == slash

-- whether a part of a path is one dot or two
abbrev pub are_dots : List ℕ → Bool
are_dots part = bytes_eq part (46 ∷ []) || bytes_eq part (46 ∷ 46 ∷ [])

-- whether a part of a path has a zero byte
abbrev pub has_zero : List ℕ → Bool
has_zero part = list_any (λ byte. byte == 0) part

-- whether a part of a path names nothing that can be made: it is empty, `.` or `..`, or has a zero byte
abbrev pub is_bad_part : List ℕ → Bool
is_bad_part part = length part == 0 || (are_dots part || has_zero part)

-- whether a part of a path names nothing that can be made
abbrev pub has_bad_part : List ℕ → Bool
has_bad_part path = list_any is_bad_part (slice_split is_slash path)

-- whether a front of so many bytes ends in front of a slash
abbrev pub ends_at_slash : List ℕ → ℕ → Bool
ends_at_slash path n = is_slash (slice_index_or path n 0)

-- whether something other than a folder is known
abbrev pub is_in_the_way : Option Mark → Bool
is_in_the_way None = false
is_in_the_way (Some Marks.Folder) = false
is_in_the_way (Some Marks.File) = true
is_in_the_way (Some Marks.Link) = true
is_in_the_way (Some (Marks.Same first)) = true

-- whether something other than a folder is at a proper front of a path: a front of less than so many bytes, behind which a slash is
unfoldable pub has_bad_front : Known → List ℕ → ℕ → Bool
has_bad_front at path zero = false
has_bad_front at path (suc n) = has_bad_front at path n || (if ends_at_slash path n then is_in_the_way (at (take n path)) else false)

-- ---- an item

-- what comes of an item: it counts as a folder and adds nothing; it is passed over; a node is made, a file without bytes yet; or it can't be placed
pub data Outcome : Type 0 where
  stays : Outcome
  passed : Outcome
  makes : NodeText → Outcome
  refused : PlaceFault → Outcome

-- a hard link to the file of a hard link, which is there
abbrev pub original_outcome : List ℕ → Option Mark → Outcome
original_outcome original None = refused Source
original_outcome original (Some Marks.Folder) = refused Source
original_outcome original (Some Marks.File) = makes (same_node original)
original_outcome original (Some Marks.Link) = refused Source
original_outcome original (Some (Marks.Same first)) = refused Source

-- a hard link to what is known at its first path: the file there, or the file of the hard link there
abbrev pub same_outcome : Known → List ℕ → Option Mark → Outcome
same_outcome at first None = refused Source
same_outcome at first (Some Marks.Folder) = refused Source
same_outcome at first (Some Marks.File) = makes (same_node first)
same_outcome at first (Some Marks.Link) = refused Source
same_outcome at first (Some (Marks.Same original)) = original_outcome original (at original)

-- a file without content: a hard link where it has a source
abbrev pub bare_outcome : Known → Origin → Outcome
bare_outcome at Origins.Absent = makes (file_node [])
bare_outcome at Origins.Other = refused Source
bare_outcome at (Origins.Raw first) = same_outcome at first (at first)

-- a symbolic link, which needs a target
abbrev pub link_outcome : Origin → Outcome
link_outcome Origins.Absent = refused Source
link_outcome Origins.Other = refused Source
link_outcome (Origins.Raw target) = makes (link_node target)

-- the node of an item at a new path, whose proper fronts are folders or can be: 4 is a folder, 8 a file, and 10 a symbolic link
abbrev pub new_outcome : Known → Shape → ℕ → Outcome
new_outcome at shape kind =
    if kind == 4 then makes folder_node
    else if kind == 8 then (if shape.has_content then makes (file_node []) else bare_outcome at shape.origin)
    else link_outcome shape.origin

-- an item at a path where this is known
abbrev pub path_outcome : Known → Shape → ℕ → Option Mark → Outcome
path_outcome at shape kind None =
    if has_bad_front at shape.path (length shape.path) then refused Parent else new_outcome at shape kind
path_outcome at shape kind (Some Marks.Folder) = if kind == 4 then stays else passed
path_outcome at shape kind (Some Marks.File) = passed
path_outcome at shape kind (Some Marks.Link) = passed
path_outcome at shape kind (Some (Marks.Same first)) = passed

-- an item of this kind: folders, files and symbolic links are made, and all others passed over
abbrev pub kind_outcome : Known → Shape → ℕ → Outcome
kind_outcome at shape kind =
    if (kind == 4 || (kind == 8 || kind == 10)) then path_outcome at shape kind (at shape.path) else passed

-- an item with this mode
abbrev pub mode_outcome : Known → Shape → Option ℕ → Outcome
mode_outcome at shape None = refused Mode
mode_outcome at shape (Some mode) = if bytes_eq shape.path (46 ∷ []) then stays else kind_outcome at shape (mode / 4096)

-- what comes of an item: `.` is the root, and no part of any other path may be bad
unfoldable pub outcome_of : Known → Shape → Outcome
outcome_of at shape =
    if (not (bytes_eq shape.path (46 ∷ [])) && has_bad_part shape.path) then refused Path else mode_outcome at shape shape.mode
