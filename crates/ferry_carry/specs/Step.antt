-- A step of an archive on its way: it copies one further item, or meets the end of the items.
use Rattle.std.specs.Prelude.{◌≡◌, ◌⊎◌, ◌++◌, Bool, true, false, List, [], Option, None, IfSome}
use Rattle.ferry_disk.specs.Device.{Told, told_files}
use Rattle.ferry_item.specs.Item.{ItemText, is_healed}
use Rattle.ferry_item.specs.Writing.{field_pairs, item_text}
use Rattle.ferry_mac.specs.declared.keys.Keys.{Keys}
use Rattle.ferry_repo.specs.Opening.{RepoState}
use Rattle.ferry_repo.specs.Walk.{IsToCome, WalkState, walk_view}
use Rattle.ferry_carry.specs.Copied.{IsRead}
use Rattle.ferry_carry.specs.Copying.{BeginsContent, CopiesContent, TakesItem, WritesItem}
use Rattle.ferry_piece.specs.Piece.{BeginsOn, CountsOn}
use Rattle.ferry_piece.specs.Puts.{Addition, AreOf, Content, Stream, contents_in}
use Rattle.ferry_carry.specs.declared.copy.Copy.{Copy}

-- A further item was taken, the pieces of its content were added, and with the target's chunks it was written into the stream, of which the
-- last of these pieces became whole. What is written is read as the item.
pub record CopiesItem (told : Option Told) (source : RepoState) (keys : Keys) (copy : Copy) (more : List Addition) (copy_now : Copy) : Type 0 where
  pub item : ItemText
  pub copied : ItemText
  pub contents : List Addition
  pub spelled : List Addition
  pub pieces : more ≡ contents ++ spelled
  pub of_content : AreOf Content contents
  pub of_stream : AreOf Stream spelled
  pub taken : IfSome told (λ t. TakesItem (told_files t) source (walk_view copy.walk) item (walk_view copy_now.walk))
  pub fields : copied.fields ≡ item.fields
  pub content : CopiesContent told source copy.block keys item.chunks (contents_in contents) copied.chunks
  pub written : WritesItem keys copy.stream.cutter copy.stream.chunks.items copied (contents_in spelled) copy_now.stream.cutter copy_now.stream.chunks.items
  pub again : is_healed (field_pairs copied) ≡ false → IsRead copied

-- The numbers of what was put have grown by those of these.
pub record CountsStep (copy : Copy) (more : List Addition) (copy_now : Copy) : Type 0 where
  pub contents : CountsOn Content copy.contents more copy_now.contents
  pub stream : CountsOn Stream copy.stream more copy_now.stream

-- No further item is to come, and nothing was added or counted.
pub record EndsItems (told : Option Told) (source : RepoState) (copy : Copy) (more : List Addition) (copy_now : Copy) : Type 0 where
  pub none : more ≡ []
  pub end : IfSome told (λ t. IsToCome (told_files t) source.log source.keys (walk_view copy.walk) [] None)
  pub contents : copy_now.contents ≡ copy.contents
  pub stream : copy_now.stream ≡ copy.stream

-- what a step did, by whether there was a further item
abbrev pub StepsOn : Option Told → RepoState → Keys → Copy → List Addition → Copy → Bool → Type 0
StepsOn told source keys copy more copy_now true = CopiesItem told source keys copy more copy_now × CountsStep copy more copy_now
StepsOn told source keys copy more copy_now false = EndsItems told source copy more copy_now

-- ---- as far as it came

-- Of an item these are pieces of the content; or all of them, and behind them first pieces of the stream with the item, all of a whole block.
pub record SpellsOn (told : Option Told) (source : RepoState) (keys : Keys) (copy : Copy) (item : ItemText) (more : List Addition) : Type 0 where
  pub copied : ItemText
  pub contents : List Addition
  pub spelled : List Addition
  pub pieces : more ≡ contents ++ spelled
  pub of_content : AreOf Content contents
  pub of_stream : AreOf Stream spelled
  pub fields : copied.fields ≡ item.fields
  pub content : CopiesContent told source copy.block keys item.chunks (contents_in contents) copied.chunks
  pub full : BeginsOn copy.stream.cutter (item_text copied) (contents_in spelled)

-- What a step added of an item, as far as it came.
pub record BeginsStep (told : Option Told) (source : RepoState) (keys : Keys) (copy : Copy) (more : List Addition) : Type 0 where
  pub item : ItemText
  pub after : WalkState
  pub taken : IfSome told (λ t. TakesItem (told_files t) source (walk_view copy.walk) item after)
  pub begun : (AreOf Content more × BeginsContent told source copy.block item.chunks (contents_in more)) ⊎ SpellsOn told source keys copy item more

-- What a refused step added: nothing, or that.
abbrev pub BeginsMore : Option Told → RepoState → Keys → Copy → List Addition → Type 0
BeginsMore told source keys copy more = (more ≡ []) ⊎ BeginsStep told source keys copy more
