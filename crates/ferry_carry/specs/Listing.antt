-- What is added of archives, in the order in which it is: the pieces of each item's content, behind them those of the stream that the item completes, at the
-- end what is left of the stream, and the record; and how far that came.
use Rattle.std.specs.Prelude.{◌≡◌, ◌⊎◌, ◌<◌, ◌++◌, ℕ, Bool, List, [], ◌∷◌, length, Option, Some, None, IfSome, IsSome}
use Rattle.std.specs.List.{concat}
use Rattle.ferry_disk.specs.Files.{Files}
use Rattle.ferry_item.specs.Item.{ItemText}
use Rattle.ferry_item.specs.Writing.{item_text}
use Rattle.ferry_item.specs.declared.item.ChunkRef.{ChunkRef}
use Rattle.ferry_mac.specs.declared.keys.Keys.{Keys}
use Rattle.ferry_manifest.specs.Manifest.Text.{ManifestText}
use Rattle.ferry_manifest.specs.Record.Text.{ArchiveText}
use Rattle.ferry_manifest.specs.declared.manifest.ArchiveRef.{ArchiveRef}
use Rattle.ferry_rechunk.specs.Cut.{cut}
use Rattle.ferry_rechunk.specs.Cutting.{IsFed}
use Rattle.ferry_repo.specs.Archives.{HoldsRecord, archive_named, ContentsCome}
use Rattle.ferry_repo.specs.Opening.{RepoState}
use Rattle.ferry_repo.specs.Walk.{Comes}
use Rattle.ferry_repo.specs.Whole.{HoldsItem, WholeArchive, WholeItem, WholesCome}
use Rattle.ferry_repo.specs.declared.fault.RepoFault.{RepoFault}
use Rattle.ferry_carry.specs.Carrying.{Origin, SaysIn}
use Rattle.ferry_carry.specs.Copied.{IsCopyOf, copied_item, pieces_of, stream_block}
use Rattle.ferry_carry.specs.Naming.{TaggedRecord}
use Rattle.ferry_piece.specs.Gather.{IsAmong}
use Rattle.ferry_piece.specs.Piece.{AreFullOf}
use Rattle.ferry_piece.specs.Puts.{Addition, AreOf, ArePieces, Content, Record, Stream, addition, contents_in}

-- ---- names

-- An accepted manifest, or these names, have a name.
abbrev pub IsThere : ManifestText → List (List ℕ) → List ℕ → Type 0
IsThere accepted before name = IsSome (archive_named name accepted.archives) ⊎ IsAmong before name

-- ---- items

-- A text is written behind what is in hand of a stream: these pieces become whole, and that is in hand then.
pub record FillsOn (piece text : List ℕ) (full : List Addition) (piece_now : List ℕ) : Type 0 where
  pub fed : IsFed stream_block (piece ++ text) (contents_in full) piece_now
  pub of_stream : AreOf Stream full
  pub rest : length piece_now < stream_block

-- What is added of these items, where this is in hand of the stream, and what is in hand behind them.
abbrev pub ListsItems : Keys → ℕ → List ℕ → List WholeItem → List Addition → List ℕ → Type 0
ListsItems keys block piece [] listed piece_now = (listed ≡ []) × (piece_now ≡ piece)
ListsItems keys block piece (whole ∷ wholes) listed piece_now = (own : List Addition) × ((full : List Addition) × ((middle : List ℕ)
    × ((rest : List Addition) × (ArePieces Content (pieces_of block whole.content) own
    × (FillsOn piece (item_text (copied_item keys block whole)) full middle
    × ((listed ≡ own ++ (full ++ rest)) × ListsItems keys block middle wholes rest piece_now))))))

-- ---- archives

-- All that is added of the archive of a name in front of its record.
pub record ListsContents (there : Files) (from : Origin) (keys : Keys) (name : List ℕ) (added : List Addition) : Type 0 where
  pub whole : WholeArchive
  pub source : SaysIn there from.repo name whole
  pub listed : List Addition
  pub piece : List ℕ
  pub lists : ListsItems keys from.block [] whole.items listed piece
  pub last : List Addition
  pub last_is : ArePieces Stream (cut stream_block piece) last
  pub added_is : added ≡ listed ++ last

-- All that is added of the archive of a name, whose record is this.
pub record ListsArchive (there : Files) (from : Origin) (keys : Keys) (name : List ℕ) (one : TaggedRecord) (added : List Addition) : Type 0 where
  pub contents : List Addition
  pub lists : ListsContents there from keys name contents
  pub copy : IsCopyOf keys from.block lists.whole.items lists.whole.fields one.salt one.text
  pub put : Bool
  pub added_is : added ≡ contents ++ addition Record one.text put ∷ []

-- The same of a source that tells its files.
abbrev pub ListsOne : Origin → Keys → List ℕ → TaggedRecord → List Addition → Type 0
ListsOne from keys name one added = IfSome from.files (λ there. ListsArchive there from keys name one added)

-- All that is added for a name behind others, and its record: nothing where its archive is there, and else all that is added of it.
abbrev pub ListsName : Origin → Keys → ManifestText → List (List ℕ) → List ℕ → List TaggedRecord → List Addition → Type 0
ListsName from keys accepted before name records added = (IsThere accepted before name × ((records ≡ []) × (added ≡ [])))
    ⊎ ((IsThere accepted before name → ⊥) × ((one : TaggedRecord) × ((records ≡ one ∷ []) × ListsOne from keys name one added)))

-- All that is added for these names behind others, and their records.
abbrev pub ListsNames : Origin → Keys → ManifestText → List (List ℕ) → List (List ℕ) → List TaggedRecord → List Addition → Type 0
ListsNames from keys accepted before [] records added = (records ≡ []) × (added ≡ [])
ListsNames from keys accepted before (name ∷ names) records added = (own : List TaggedRecord) × ((others : List TaggedRecord) × ((records ≡ own ++ others)
    × ((one : List Addition) × ((rest : List Addition) × ((added ≡ one ++ rest)
    × (ListsName from keys accepted before name own one × ListsNames from keys accepted (before ++ name ∷ []) names others rest))))))

-- All that is added for a name behind others.
abbrev pub AddsName : Origin → Keys → ManifestText → List (List ℕ) → List ℕ → List Addition → Type 0
AddsName from keys accepted before name added = (records : List TaggedRecord) × ListsName from keys accepted before name records added

-- ---- as far as it came

-- Of the first of these items these are first pieces of the content, all of a whole block, as far as the contents of its chunks come.
pub record BeginsItem (there : Files) (source : RepoState) (block : ℕ) (more : List ItemText) (begun : List Addition) : Type 0 where
  pub item : ItemText
  pub others : List ItemText
  pub first : more ≡ item ∷ others
  pub refs : List ChunkRef
  pub rest : List ChunkRef
  pub chunks : item.chunks ≡ Some (refs ++ rest)
  pub contents : List (List ℕ)
  pub come : ContentsCome there source.log source.keys refs contents None
  pub full : AreFullOf block (concat contents) (contents_in begun)
  pub of_content : AreOf Content begun

-- Of the first of these items these are all pieces of the content, and first pieces of the stream with it, all of a whole block.
pub record BeginsSpelling (there : Files) (source : RepoState) (keys : Keys) (block : ℕ) (more : List ItemText) (piece : List ℕ) (begun : List Addition)
    : Type 0 where
  pub item : ItemText
  pub others : List ItemText
  pub first : more ≡ item ∷ others
  pub whole : WholeItem
  pub holds : HoldsItem there source.log source.keys item whole
  pub own : List Addition
  pub own_is : ArePieces Content (pieces_of block whole.content) own
  pub full : List Addition
  pub full_is : AreFullOf stream_block (piece ++ item_text (copied_item keys block whole)) (contents_in full)
  pub of_stream : AreOf Stream full
  pub begun_is : begun ≡ own ++ full

-- What is added of the first of these items, where it isn't written: nothing, or that.
abbrev pub BeginsNext : Files → RepoState → Keys → ℕ → List ItemText → List ℕ → List Addition → Type 0
BeginsNext there source keys block more piece next =
    (next ≡ []) ⊎ (BeginsItem there source block more next ⊎ BeginsSpelling there source keys block more piece next)

-- The first items of an archive's stream in the source are there with their contents; others are to come behind them, and then the stream ends so. All that is
-- added of the first ones is listed, and behind them a piece of the stream is in hand.
pub record TakesItems (there : Files) (from : Origin) (keys : Keys) (named : ArchiveRef) : Type 0 where
  pub archive : ArchiveText
  pub record_is : HoldsRecord there from.repo.log from.repo.keys named.id archive
  pub items : List ItemText
  pub more : List ItemText
  pub ends : Option RepoFault
  pub stream : Comes there from.repo.log from.repo.keys named.id [] archive.items (items ++ more) ends
  pub wholes : List WholeItem
  pub come : WholesCome there from.repo.log from.repo.keys items None wholes None
  pub listed : List Addition
  pub piece : List ℕ
  pub lists : ListsItems keys from.block [] wholes listed piece

-- What is added of the archive of a name, as far as items of its stream in the source came: of the first of them all, and a part of the next.
pub record BeginsArchive (there : Files) (from : Origin) (keys : Keys) (name : List ℕ) (begun : List Addition) : Type 0 where
  pub named : ArchiveRef
  pub named_is : archive_named name from.repo.manifest.archives ≡ Some named
  pub taken : TakesItems there from keys named
  pub open taken use *
  pub next : List Addition
  pub next_is : BeginsNext there from.repo keys from.block more piece next
  pub begun_is : begun ≡ listed ++ next

-- What is added of an archive, as far as it came: nothing, a part, all but its record, or all. The source may not tell its files.
abbrev pub BeginsOne : Origin → Keys → List ℕ → List Addition → Type 0
BeginsOne from keys name begun = (begun ≡ []) ⊎ IfSome from.files (λ there.
    BeginsArchive there from keys name begun ⊎ (ListsContents there from keys name begun
    ⊎ ((one : TaggedRecord) × ListsArchive there from keys name one begun)))

-- What is added for a name behind others, as far as it came: nothing where its archive is there.
abbrev pub BeginsName : Origin → Keys → ManifestText → List (List ℕ) → List ℕ → List Addition → Type 0
BeginsName from keys accepted before name begun =
    (IsThere accepted before name × (begun ≡ [])) ⊎ ((IsThere accepted before name → ⊥) × BeginsOne from keys name begun)

-- What is added for these names behind others, as far as it came: all that is added for the first of them, and a part of what is for the next.
abbrev pub BeginsNames : Origin → Keys → ManifestText → List (List ℕ) → List (List ℕ) → List Addition → Type 0
BeginsNames from keys accepted before [] begun = begun ≡ []
BeginsNames from keys accepted before (name ∷ names) begun = BeginsName from keys accepted before name begun
    ⊎ ((one : List Addition) × ((rest : List Addition) × ((begun ≡ one ++ rest)
    × (AddsName from keys accepted before name one × BeginsNames from keys accepted (before ++ name ∷ []) names rest))))
