-- The items that a tree is made of, as those of a whole archive.
use Rattle.std.specs.Prelude.{◌≡◌, ℕ, List, [], ◌∷◌, None, MatchOption, option_map}
use Rattle.ferry_disk.specs.Files.{Files}
use Rattle.ferry_item.specs.Item.{ItemText}
use Rattle.ferry_item.specs.Stream.{joined}
use Rattle.ferry_repo.specs.Opening.{RepoState}
use Rattle.ferry_repo.specs.Walk.{IsToCome, WalkState}
use Rattle.ferry_repo.specs.Whole.{WholeArchive, WholeItem}
use Rattle.ferry_tree.specs.Growth.{ReadItem}
use Rattle.ferry_tree.specs.Restoring.{AreRead}
use Rattle.ferry_tree.specs.Shapes.{shape_of}
use Rattle.ferry_view.specs.Steps.{Begins}

-- An item with its content is this one as a tree sees it: it has its place, and its content is that of the chunks, joined.
pub record IsOf (whole : WholeItem) (read : ReadItem) : Type 0 where
  pub shape : read.shape ≡ shape_of (record { fields = whole.fields; chunks = option_map (λ _. []) whole.content })
  pub content : MatchOption whole.content (read.contents ≡ []) (λ text. text ≡ joined read.contents)

-- The items of a whole archive are these as a tree sees them.
abbrev pub AreOf : List WholeItem → List ReadItem → Type 0
AreOf [] [] = Unit {0}
AreOf [] (read ∷ reads) = ⊥
AreOf (whole ∷ wholes) [] = ⊥
AreOf (whole ∷ wholes) (read ∷ reads) = IsOf whole read × AreOf wholes reads

-- Of a whole archive these items come up to the end of the stream, with all contents, and as a tree sees them they are these.
pub record ReadsWhole (files : Files) (repo : RepoState) (name : List ℕ) (whole : WholeArchive) : Type 0 where
  pub walk : WalkState
  pub items : List ItemText
  pub reads : List ReadItem
  pub begins : Begins files repo name walk
  pub come : IsToCome files repo.log repo.keys walk items None
  pub are : AreRead files repo items reads
  pub are_of : AreOf whole.items reads
