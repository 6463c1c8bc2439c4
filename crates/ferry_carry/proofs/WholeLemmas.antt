-- Lemmas on specs/Copied.antt and on what is among contents: an archive that was copied is whole in its target, and stays so.
use Rattle.std.proofs.Common.{◌≡◌, ◌≤◌, ℕ, List, [], ◌∷◌, ◌++◌, map, Option, Some, None, option_map}
use Rattle.std.proofs.Common.{refl, sym, ◌∙◌, ap, subst, arith}
use Rattle.std.specs.List.{AllByRecursion, concat}
use Rattle.ferry_blob.specs.Blob.{content_id}
use Rattle.ferry_disk.specs.Files.{Files}
use Rattle.ferry_item.specs.Item.{ItemText}
use Rattle.ferry_item.specs.Stream.{ItemsOf, no_more_items, joined}
use Rattle.ferry_item.specs.declared.item.ChunkRef.{ChunkRef}
use Rattle.ferry_item.proofs.StreamLemmas.{first_item}
use Rattle.ferry_log.specs.State.{LogState}
use Rattle.ferry_mac.specs.declared.keys.Keys.{Keys}
use Rattle.ferry_manifest.specs.declared.manifest.ArchiveRef.{ArchiveRef}
use Rattle.ferry_msgpack.specs.Tree.{Tree}
use Rattle.ferry_rechunk.specs.Cut.{cut}
use Rattle.ferry_rechunk.proofs.CutLemmas.{cut_joined}
use Rattle.ferry_repo.specs.Archives.{archive_named, ContentsCome, HoldsJoined}
use Rattle.ferry_repo.specs.Objects.{HoldsChunk}
use Rattle.ferry_repo.specs.Walk.{HoldChunks, IsStream}
use Rattle.ferry_repo.specs.Whole.{WholesCome, WholeItem, WholeArchive, IsWhole}
use Rattle.ferry_carry.specs.Copied.{IsCopyOf, IsRead, adds_of, contents_of, copied_item, pieces_of, stream_block, stream_of, stream_pieces}
use Rattle.ferry_piece.specs.Gather.{chunks_of}
use Rattle.ferry_piece.proofs.AmongLemmas.{all_front}

-- ---- an archive in a target

-- A content is that of a chunk, under its id.
abbrev pub HoldsPiece : Files → LogState → Keys → List ℕ → Type 0
HoldsPiece files log keys piece = HoldsChunk files log keys (content_id keys piece) piece

-- All is there of an archive whose items are these: the pieces of their contents, those of the stream, and the record, whose text is this and
-- which a manifest names.
pub record HoldsCopy (files : Files) (log : LogState) (keys : Keys) (block : ℕ) (wholes : List WholeItem) (fields : Tree) (salt text : List ℕ)
    (archives : List ArchiveRef) (named : ArchiveRef) : Type 0 where
  pub entry : ArchiveRef
  pub entry_is : archive_named named.name archives ≡ Some entry
  pub time : entry.time ≡ named.time
  pub id : entry.id ≡ content_id keys text
  pub copy : IsCopyOf keys block wholes fields salt text
  pub there : AllByRecursion (HoldsPiece files log keys) (adds_of keys block wholes text)

-- ---- the pieces of a content

-- both words for pieces one behind the other mean the same
pub joined_concat : (pieces : List (List ℕ)) → joined pieces ≡ concat pieces
joined_concat [] = refl
joined_concat (p ∷ ps) = ap (λ (bytes : List ℕ). p ++ bytes) (joined_concat ps)

-- the pieces of a cut, joined, are the content
pub joined_cut : (block : ℕ) (content : List ℕ) → 1 ≤ block → joined (cut block content) ≡ content
joined_cut block content some = joined_concat (cut block content) ∙ cut_joined block content some

module _ (files : Files) (log : LogState) (keys : Keys) where
  -- the chunks of pieces that are there have them as contents
  pub pieces_come : (pieces : List (List ℕ)) → AllByRecursion (HoldsPiece files log keys) pieces
      → ContentsCome files log keys (chunks_of keys pieces) pieces None
  pieces_come [] all = tt
  pieces_come (p ∷ ps) all = (record { holds = all.0; size = refl }, pieces_come ps all.1)

  -- and so have their ids
  pub pieces_hold : (pieces : List (List ℕ)) → AllByRecursion (HoldsPiece files log keys) pieces
      → HoldChunks files log keys (map (content_id keys) pieces) pieces
  pieces_hold [] all = tt
  pieces_hold (p ∷ ps) all = (all.0, pieces_hold ps all.1)

  -- ---- an archive that was copied

  -- the content of an item is that of its chunks
  content_copied : (block : ℕ) → 1 ≤ block → (content : Option (List ℕ)) → AllByRecursion (HoldsPiece files log keys) (pieces_of block content)
      → HoldsJoined files log keys (option_map (λ (bytes : List ℕ). chunks_of keys (cut block bytes)) content) content
  content_copied block some None all = tt
  content_copied block some (Some content) all =
      (cut block content, pieces_come (cut block content) all, sym (joined_cut block content some))

  -- the items have their contents
  pub wholes_copied : (block : ℕ) → 1 ≤ block → (wholes : List WholeItem)
      → AllByRecursion (λ (whole : WholeItem). AllByRecursion (HoldsPiece files log keys) (pieces_of block whole.content)) wholes
      → WholesCome files log keys (map (copied_item keys block) wholes) None wholes None
  wholes_copied block some [] all = refl
  wholes_copied block some (w ∷ ws) all =
      (record { fields = refl; content = content_copied block some w.content all.0 }, wholes_copied block some ws all.1)

  -- their spellings are their stream
  pub spelled_stream : (block : ℕ) (wholes : List WholeItem) → AllByRecursion (λ (whole : WholeItem). IsRead (copied_item keys block whole)) wholes
      → ItemsOf (stream_of (map (copied_item keys block) wholes)) (map (copied_item keys block) wholes)
  spelled_stream block [] all = no_more_items
  spelled_stream block (w ∷ ws) all =
      let later = stream_of (map (copied_item keys block) ws) in
      first_item (stream_of (map (copied_item keys block) (w ∷ ws))) later (copied_item keys block w) (map (copied_item keys block) ws) (all.0 later)
      (spelled_stream block ws all.1)

  -- the stream is that of the ids of its pieces
  stream_copied : (block : ℕ) (wholes : List WholeItem)
      → AllByRecursion (λ (whole : WholeItem). IsRead (copied_item keys block whole)) wholes
      → AllByRecursion (HoldsPiece files log keys) (cut stream_block (stream_of (map (copied_item keys block) wholes)))
      → IsStream files log keys (map (content_id keys) (cut stream_block (stream_of (map (copied_item keys block) wholes))))
      (map (copied_item keys block) wholes)
  stream_copied block wholes spelled there =
      let items = map (copied_item keys block) wholes in
      let pieces = cut stream_block (stream_of items) in
      record {
        contents = pieces;
        hold = pieces_hold pieces there;
        spelled = subst (λ (bytes : List ℕ). ItemsOf bytes items) (sym (joined_cut stream_block (stream_of items) (omega arith)))
            (spelled_stream block wholes spelled);
      }

  -- of each of the contents of items, what holds of all
  each_content : (P : List ℕ → Type 0) (block : ℕ) (wholes : List WholeItem) → AllByRecursion P (contents_of block wholes)
      → AllByRecursion (λ (whole : WholeItem). AllByRecursion P (pieces_of block whole.content)) wholes
  each_content P block [] all = tt
  each_content P block (w ∷ ws) all =
      let parts = all_front P (pieces_of block w.content) (contents_of block ws) all in (parts.0, each_content P block ws parts.1)

  -- an archive of which all is there is whole
  pub copied_whole : (block : ℕ) (whole : WholeArchive) (salt text : List ℕ) (archives : List ArchiveRef) (named : ArchiveRef) → whole.time ≡ named.time
      → HoldsCopy files log keys block whole.items whole.fields salt text archives named → IsWhole files log keys archives named.name whole
  copied_whole block whole salt text archives named time holds =
      let wholes = whole.items in
      let items : List ItemText = map (copied_item keys block) wholes in
      let copy = holds.copy in
      let parts = all_front (HoldsPiece files log keys) (contents_of block wholes) (stream_pieces keys block wholes ++ text ∷ []) holds.there in
      let last = all_front (HoldsPiece files log keys) (stream_pieces keys block wholes) (text ∷ []) parts.1 in
      record {
        named = holds.entry;
        named_is = holds.entry_is;
        archive = copy.copied;
        record_is = record {
          content = text;
          chunk = subst (λ (id : List ℕ). HoldsChunk files log keys id text) (sym holds.id) last.1.0;
          record_is = copy.reads;
        };
        items = items;
        stream = subst (λ (ids : List (List ℕ)). IsStream files log keys ids items) (sym copy.items)
            (stream_copied block wholes copy.spelled last.0);
        contents = wholes_copied block copy.some wholes (each_content (HoldsPiece files log keys) block wholes parts.0);
        time = time ∙ sym holds.time;
        fields = sym copy.same;
      }

-- ---- an archive that stays whole

-- each chunk that is there in these files, by this log, is there in those by that
abbrev pub KeepsChunks : Files → LogState → Keys → Files → LogState → Type 0
KeepsChunks files log keys others after = (id content : List ℕ) → HoldsChunk files log keys id content → HoldsChunk others after keys id content

module _ (files : Files) (log : LogState) (keys : Keys) (others : Files) (after : LogState) (keeps : KeepsChunks files log keys others after) where
  pub chunks_kept : (ids contents : List (List ℕ)) → HoldChunks files log keys ids contents → HoldChunks others after keys ids contents
  chunks_kept [] [] hold = tt
  chunks_kept [] (c ∷ cs) hold = absurd hold
  chunks_kept (i ∷ is) [] hold = absurd hold
  chunks_kept (i ∷ is) (c ∷ cs) hold = (keeps i c hold.0, chunks_kept is cs hold.1)

  contents_kept : (chunks : List ChunkRef) (contents : List (List ℕ)) → ContentsCome files log keys chunks contents None
      → ContentsCome others after keys chunks contents None
  contents_kept [] [] come = tt
  contents_kept [] (c ∷ cs) come = absurd come
  contents_kept (k ∷ ks) [] come = absurd come
  contents_kept (k ∷ ks) (c ∷ cs) come = (record { holds = keeps k.id c come.0.holds; size = come.0.size }, contents_kept ks cs come.1)

  pub joined_kept : (chunks : Option (List ChunkRef)) (content : Option (List ℕ)) → HoldsJoined files log keys chunks content
      → HoldsJoined others after keys chunks content
  joined_kept None None holds = tt
  joined_kept None (Some content) holds = absurd holds
  joined_kept (Some chunks) None holds = absurd holds
  joined_kept (Some chunks) (Some content) holds = (holds.0, contents_kept chunks holds.0 holds.1, holds.2)

  pub wholes_kept : (items : List ItemText) (wholes : List WholeItem) → WholesCome files log keys items None wholes None
      → WholesCome others after keys items None wholes None
  wholes_kept [] [] come = refl
  wholes_kept [] (w ∷ ws) come = absurd come
  wholes_kept (i ∷ is) [] come = absurd come
  wholes_kept (i ∷ is) (w ∷ ws) come =
      (record { fields = come.0.fields; content = joined_kept i.chunks w.content come.0.content }, wholes_kept is ws come.1)

  is_kept : (archives more : List ArchiveRef) (name : List ℕ) (whole : WholeArchive) → IsWhole files log keys archives name whole
      → archive_named name more ≡ archive_named name archives → IsWhole others after keys more name whole
  is_kept archives more name whole is same = record {
    named = is.named;
    named_is = same ∙ is.named_is;
    archive = is.archive;
    record_is = record {
      content = is.record_is.content;
      chunk = keeps is.named.id is.record_is.content is.record_is.chunk;
      record_is = is.record_is.record_is;
    };
    items = is.items;
    stream = record {
      contents = is.stream.contents;
      hold = chunks_kept is.archive.items is.stream.contents is.stream.hold;
      spelled = is.stream.spelled;
    };
    contents = wholes_kept is.items whole.items is.contents;
    time = is.time;
    fields = is.fields;
  }

-- a whole archive stays so where each chunk is there still, and the name has the archive that it had
pub whole_kept : (files : Files) (log : LogState) (keys : Keys) (others : Files) (after : LogState) (archives more : List ArchiveRef) (name : List ℕ)
    (whole : WholeArchive) → IsWhole files log keys archives name whole
    → KeepsChunks files log keys others after → archive_named name more ≡ archive_named name archives → IsWhole others after keys more name whole
whole_kept files log keys others after archives more name whole is keeps same = is_kept files log keys others after keeps archives more name whole is same
