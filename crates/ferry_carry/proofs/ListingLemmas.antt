-- Lemmas on specs/Listing.antt: what is added of an archive, item by item, and how far that came.
use Rattle.std.proofs.Common.{◌≡◌, ◌≤◌, ◌<◌, ◌+◌, ℕ, inl, inr, Bool, false, true, List, [], ◌∷◌, ◌++◌, length, min, Option, Some, None, IfSome}
use Rattle.std.proofs.Common.{if◌then◌else◌, ◌&&◌, refl, sym, ◌∙◌, ap, subst, arith}
use Rattle.std.proofs.lemmas.List.{append-nil, append_assoc, length-map}
use Rattle.std.proofs.lemmas.List.Elements.{All-nil}
use Rattle.std.proofs.lemmas.Option.{IfSome_then}
use Rattle.ferry_disk.proofs.DeviceLemmas.{told_any}
use Rattle.ferry_disk.specs.Device.{Told, told_files}
use Rattle.ferry_disk.specs.Files.{Files}
use Rattle.ferry_item.specs.Item.{ItemText}
use Rattle.ferry_item.specs.Writing.{item_text}
use Rattle.ferry_item.specs.declared.item.ChunkRef.{ChunkRef}
use Rattle.ferry_log.specs.State.{FitsFiles}
use Rattle.ferry_mac.specs.declared.keys.Keys.{Keys}
use Rattle.ferry_manifest.specs.Record.Text.{archive_view}
use Rattle.ferry_manifest.specs.declared.manifest.ArchiveRef.{ArchiveRef}
use Rattle.ferry_msgpack.specs.Tree.{Tree}
use Rattle.ferry_rechunk.specs.Cut.{cut}
use Rattle.ferry_rechunk.specs.Cutting.{Cutting, IsFed}
use Rattle.ferry_repo.specs.Archives.{archive_named, HoldsJoined}
use Rattle.ferry_repo.specs.Cached.{Contents}
use Rattle.ferry_repo.specs.Opening.{FitsRepo, RepoState, repo_view}
use Rattle.ferry_repo.specs.Walk.{IsToCome, walk_view}
use Rattle.ferry_repo.specs.Whole.{HoldsItem, WholeItem}
use Rattle.ferry_repo.specs.declared.fault.RepoFault.{RepoFault}
use Rattle.ferry_repo.proofs.WalkLawLemmas.{some_to_come}
use Rattle.ferry_store.specs.declared.store.Store.{Store}
use Rattle.ferry_carry.proofs.SourceLemmas.{leads_come}
use Rattle.ferry_carry.specs.Carrying.{Origin, origin}
use Rattle.ferry_carry.specs.Copied.{HasFewPieces, copied_item, pieces_of, stream_block}
use Rattle.ferry_carry.specs.Copying.{BeginsContent, CopiesContent, IsReady}
use Rattle.ferry_carry.specs.Listing.{BeginsArchive, BeginsNext, BeginsOne, FillsOn, ListsContents, ListsItems, TakesItems}
use Rattle.ferry_piece.specs.Gather.{chunk_of}
use Rattle.ferry_piece.specs.Piece.{AreFullOf, WritesOn}
use Rattle.ferry_carry.specs.Progress.{CopiesAll, CopiesSoFar, IsCopiedSoFar}
use Rattle.ferry_piece.specs.Puts.{Addition, AreOf, ArePieces, Content, Kind, Stream, contents_in, put_bytes, put_count, same_kind}
use Rattle.ferry_carry.specs.Step.{BeginsMore, SpellsOn, StepsOn}
use Rattle.ferry_carry.specs.declared.copy.Copy.{Copy}

-- ---- what is added

-- what has no contents is nothing
pub contents_none : (added : List Addition) → contents_in added ≡ [] → added ≡ []
contents_none [] none = refl
contents_none (one ∷ added) none = absurd (let never : ⊥ = cc in never)

-- of one kind none of another is put
none_counted : (kind : Kind) (one : Addition) (other : Kind) (amount : ℕ) → one.kind ≡ other → same_kind kind other ≡ false
    → (if one.put && same_kind kind one.kind then amount else 0) ≡ 0
none_counted kind one other amount is apart =
    let apart_so : same_kind kind one.kind ≡ false = ap (same_kind kind) is ∙ apart in
    subst (λ (same : Bool). (if one.put && same then amount else 0) ≡ 0) (sym apart_so) (never_put one.put amount) where
      never_put : (put : Bool) (amount : ℕ) → (if put && false then amount else 0) ≡ 0
      never_put true amount = refl
      never_put false amount = refl

pub count_apart : (kind other : Kind) (added : List Addition) → same_kind kind other ≡ false → AreOf other added → put_count kind added ≡ 0
unfolding put_count
count_apart kind other [] apart of = refl
count_apart kind other (one ∷ added) apart of =
    omega (arith, none_counted kind one other 1 of.0 apart, count_apart kind other added apart of.1)

pub bytes_apart : (kind other : Kind) (added : List Addition) → same_kind kind other ≡ false → AreOf other added → put_bytes kind added ≡ 0
unfolding put_bytes
bytes_apart kind other [] apart of = refl
bytes_apart kind other (one ∷ added) apart of =
    omega (arith, none_counted kind one other (length one.content) of.0 apart, bytes_apart kind other added apart of.1)

-- a number that has grown twice up to a limit
pub counts_then : (limit before put now more all : ℕ) → before ≡ min put limit → now ≡ min (before + more) limit → all ≡ put + more → now ≡ min all limit
counts_then limit before put now more all was is sum = omega (arith, was, is, sum)

-- ---- an item that is taken

-- An item of a source has this content, whose pieces these are, and is this in a target.
pub record IsTaken (there : Files) (source : RepoState) (block : ℕ) (keys : Keys) (item : ItemText) (contents : List (List ℕ)) (copied : ItemText)
    (whole : WholeItem) : Type 0 where
  pub holds : HoldsItem there source.log source.keys item whole
  pub pieces : contents ≡ pieces_of block whole.content
  pub few : HasFewPieces block whole
  pub text : copied ≡ copied_item keys block whole

-- items with the same fields and the same chunks are the same
same_text : (a b : ItemText) → a.fields ≡ b.fields → a.chunks ≡ b.chunks → a ≡ b
same_text a b fields chunks =
    ap (λ (f : Tree). record { fields = f; chunks = a.chunks }) fields ∙ ap (λ (c : Option (List ChunkRef)). record { fields = b.fields; chunks = c }) chunks

-- the content of an item that was copied, and the item that is written for it
pub item_taken : (t : Told) (source : RepoState) (block : ℕ) (keys : Keys) (item : ItemText) (fields : Tree) (chunks copied : Option (List ChunkRef))
    (contents : List (List ℕ)) → item.chunks ≡ chunks → fields ≡ item.fields → CopiesContent (Some t) source block keys chunks contents copied
    → (whole : WholeItem) × IsTaken (told_files t) source block keys item contents (record { fields = fields; chunks = copied }) whole
item_taken t source block keys item fields None None contents is same copies =
    let whole : WholeItem = record { fields = item.fields; content = None } in
    let copied : ItemText = record { fields = fields; chunks = None } in (
      whole,
      record {
        holds = record {
          fields = refl;
          content = subst (λ (c : Option (List ChunkRef)). HoldsJoined (told_files t) source.log source.keys c None) (sym is) tt;
        };
        pieces = copies;
        few = omega arith;
        text = same_text copied (copied_item keys block whole) same refl;
      },
    )
item_taken t source block keys item fields None (Some copied) contents is same copies = absurd copies
item_taken t source block keys item fields (Some chunks) None contents is same copies = absurd copies
item_taken t source block keys item fields (Some chunks) (Some copied) contents is same copies =
    let whole : WholeItem = record { fields = item.fields; content = Some copies.0 } in
    let text : ItemText = record { fields = fields; chunks = Some copied } in (
      whole,
      record {
        holds = record {
          fields = refl;
          content = subst (λ (c : Option (List ChunkRef)). HoldsJoined (told_files t) source.log source.keys c (Some copies.0)) (sym is) copies.1.1.1.1;
        };
        pieces = copies.1.0;
        few = subst (λ (n : ℕ). n ≤ 4294967295)
            (ap (λ (c : List ChunkRef). length c) copies.1.1.0 ∙ length-map (cut block copies.0) (chunk_of keys)) copies.1.1.1.0;
        text = same_text text (copied_item keys block whole) same (ap (λ (c : List ChunkRef). Some c) copies.1.1.0);
      },
    )

-- ---- items

-- an item more is listed behind those that were
pub lists_then : (keys : Keys) (block : ℕ) (piece : List ℕ) (wholes : List WholeItem) (whole : WholeItem) (listed own full : List Addition)
    (middle piece_now : List ℕ) → ListsItems keys block piece wholes listed middle → ArePieces Content (pieces_of block whole.content) own
    → FillsOn middle (item_text (copied_item keys block whole)) full piece_now
    → ListsItems keys block piece (wholes ++ whole ∷ []) (listed ++ (own ++ full)) piece_now
lists_then keys block piece [] whole listed own full middle piece_now lists own_is fills =
    let text = item_text (copied_item keys block whole) in
    let same : listed ++ (own ++ full) ≡ own ++ (full ++ []) =
    ap (λ (front : List Addition). front ++ (own ++ full)) lists.0 ∙ ap (λ (last : List Addition). own ++ last) (sym (append-nil full)) in (
      own,
      (full, (piece_now, ([], (own_is, (subst (λ (held : List ℕ). FillsOn held text full piece_now) lists.1 fills, (same, (refl, refl))))))),
    )
lists_then keys block piece (one ∷ wholes) whole listed own full middle piece_now lists own_is fills =
    let front = lists.0 in
    let spelled = lists.1.0 in
    let rest = lists.1.1.1.0 in
    let said = lists.1.1.1.1 in
    let last = own ++ full in
    let later = lists_then keys block lists.1.1.0 wholes whole rest own full middle piece_now said.1.1.1 own_is fills in
    let same : listed ++ last ≡ front ++ (spelled ++ (rest ++ last)) =
    ap (λ (l : List Addition). l ++ last) said.1.1.0
    ∙ (append_assoc front (spelled ++ rest) last ∙ ap (λ (l : List Addition). front ++ l) (append_assoc spelled rest last)) in
    (front, (spelled, (lists.1.1.0, (rest ++ last, (said.0, (said.1.0, (same, later)))))))

-- what is written into a stream fills it on
pub fills_on : (keys : Keys) (cutter cutter_now : Cutting) (chunks chunks_now : List ChunkRef) (text : List ℕ) (full : List Addition)
    → cutter.block ≡ stream_block → length cutter.piece ≤ cutter.block → AreOf Stream full
    → WritesOn keys cutter chunks text (contents_in full) cutter_now chunks_now → FillsOn cutter.piece text full cutter_now.piece
fills_on keys cutter cutter_now chunks chunks_now text full large within of wrote = record {
  fed = subst (λ (block : ℕ). IsFed block (cutter.piece ++ text) (contents_in full) cutter_now.piece) large
      (wrote.fed cutter.piece [] (record { joined = refl; whole = All-nil (λ one. length one ≡ cutter.block); fits = within }));
  of_stream = of;
  rest = subst (λ (block : ℕ). length cutter_now.piece < block) (wrote.block ∙ large) wrote.room;
}

-- what became whole of bytes that were written is of whole blocks
full_written : (keys : Keys) (cutter cutter_now : Cutting) (chunks chunks_now : List ChunkRef) (bytes : List ℕ) (more : List (List ℕ))
    → length cutter.piece ≤ cutter.block → WritesOn keys cutter chunks bytes more cutter_now chunks_now
    → AreFullOf cutter.block (cutter.piece ++ bytes) more
full_written keys cutter cutter_now chunks chunks_now bytes more within wrote =
    let fed = wrote.fed cutter.piece [] (record { joined = refl; whole = All-nil (λ one. length one ≡ cutter.block); fits = within }) in
    record { rest = cutter_now.piece; joined = fed.joined; whole = fed.whole }

-- ---- as far as it came

-- of the content of the first of items that are to come these were added
content_next : (t : Told) (source : RepoState) (keys : Keys) (block : ℕ) (piece : List ℕ) (item : ItemText) (others : List ItemText)
    (chunks : Option (List ChunkRef)) (more : List Addition) → item.chunks ≡ chunks → AreOf Content more
    → BeginsContent (Some t) source block chunks (contents_in more) → BeginsNext (told_files t) source keys block (item ∷ others) piece more
content_next t source keys block piece item others None more is of begun = inl (contents_none more begun)
content_next t source keys block piece item others (Some refs) more is of (inl begun) =
    inr (inl (record {
      item = item;
      others = others;
      first = refl;
      refs = begun.first;
      rest = begun.rest;
      chunks = is ∙ ap (λ (c : List ChunkRef). Some c) begun.split;
      contents = begun.contents;
      come = begun.come;
      full = begun.full;
      of_content = of;
    }))
content_next t source keys block piece item others (Some refs) more is of (inr all) =
    let whole : WholeItem = record { fields = item.fields; content = Some all.0 } in
    inr (inr (record {
      item = item;
      others = others;
      first = refl;
      whole = whole;
      holds = record {
        fields = refl;
        content = subst (λ (c : Option (List ChunkRef)). HoldsJoined (told_files t) source.log source.keys c (Some all.0)) (sym is) all.1.1;
      };
      own = more;
      own_is = (all.1.0, of);
      full = [];
      full_is = record {
        rest = piece ++ item_text (copied_item keys block whole);
        joined = refl;
        whole = All-nil (λ one. length one ≡ stream_block);
      };
      of_stream = tt;
      begun_is = sym (append-nil more);
    }))

-- of the first of them these were added, up to the stream with it
spelling_next : (t : Told) (source : RepoState) (keys : Keys) (copy : Copy) (item : ItemText) (others : List ItemText) (more : List Addition)
    → copy.stream.cutter.block ≡ stream_block → SpellsOn (Some t) source keys copy item more
    → BeginsNext (told_files t) source keys copy.block (item ∷ others) copy.stream.cutter.piece more
spelling_next t source keys copy item others more large spells =
    let found = item_taken t source copy.block keys item spells.copied.fields item.chunks spells.copied.chunks (contents_in spells.contents) refl
    spells.fields spells.content in
    let piece = copy.stream.cutter.piece in
    let full = contents_in spells.spelled in
    inr (inr (record {
      item = item;
      others = others;
      first = refl;
      whole = found.0;
      holds = found.1.holds;
      own = spells.contents;
      own_is = (found.1.pieces, spells.of_content);
      full = spells.spelled;
      full_is = subst (λ (block : ℕ). AreFullOf block (piece ++ item_text (copied_item keys copy.block found.0)) full) large
          (subst (λ (i : ItemText). AreFullOf copy.stream.cutter.block (piece ++ item_text i) full) found.1.text spells.full);
      of_stream = spells.of_stream;
      begun_is = spells.pieces;
    }))

-- What is to come of an archive on its way, and what was added of the first item of it.
record BeginsCopy (there : Files) (source : RepoState) (keys : Keys) (copy : Copy) (next : List Addition) : Type 0 where
  more : List ItemText
  ends : Option RepoFault
  come : IsToCome there source.log source.keys (walk_view copy.walk) more ends
  begun : BeginsNext there source keys copy.block more copy.stream.cutter.piece next

next_begun : (t : Told) (source : RepoState) (keys : Keys) (copy : Copy) (more : List Addition) → FitsFiles (told_files t) source.log
    → copy.stream.cutter.block ≡ stream_block → BeginsMore (Some t) source keys copy more → BeginsCopy (told_files t) source keys copy more
next_begun t source keys copy more fits large (inl none) =
    let some = some_to_come (told_files t) source.log source.keys (walk_view copy.walk) fits in
    record { more = some.0; ends = some.1.0; come = some.1.1; begun = inl none }
next_begun t source keys copy more fits large (inr begun) =
    let some = some_to_come (told_files t) source.log source.keys begun.after fits in
    record {
      more = begun.item ∷ some.0;
      ends = some.1.0;
      come = begun.taken some.0 some.1.0 some.1.1;
      begun = elim begun.begun [
        | inl content ↦
            content_next t source keys copy.block copy.stream.cutter.piece begun.item some.0 begun.item.chunks more refl content.0 content.1
        | inr spells ↦ spelling_next t source keys copy begun.item some.0 more large spells
      ];
    }

-- what a step did that wasn't refused is what was begun
pub step_begun : (told : Option Told) (source : RepoState) (keys : Keys) (copy : Copy) (more : List Addition) (copy_now : Copy) (further : Bool)
    → length copy.stream.cutter.piece ≤ copy.stream.cutter.block → StepsOn told source keys copy more copy_now further
    → BeginsMore told source keys copy more
step_begun told source keys copy more copy_now false within ends = inl ends.none
step_begun told source keys copy more copy_now true within steps =
    let step = steps.0 in
    inr (record {
      item = step.item;
      after = walk_view copy_now.walk;
      taken = step.taken;
      begun = inr (record {
        copied = step.copied;
        contents = step.contents;
        spelled = step.spelled;
        pieces = step.pieces;
        of_content = step.of_content;
        of_stream = step.of_stream;
        fields = step.fields;
        content = step.content;
        full = full_written keys copy.stream.cutter copy_now.stream.cutter copy.stream.chunks.items copy_now.stream.chunks.items (item_text step.copied)
            (contents_in step.spelled) within step.written.writes;
      });
    })

-- items were taken and written, and these are to come behind them
abbrev pub items_taken : (there : Files) (from : Origin) (named : ArchiveRef) (files : Files) (repo : RepoState) (copy : Copy) (added : List Addition)
    (more : List ItemText) (ends : Option RepoFault) → from.block ≡ copy.block → CopiesSoFar there from.repo named files repo copy added
    → IsToCome there from.repo.log from.repo.keys (walk_view copy.walk) more ends → TakesItems there from repo.keys named
items_taken there from named files repo copy added more ends same so come = record {
  archive = archive_view copy.archive;
  record_is = so.record_is;
  items = so.items;
  more = more;
  ends = ends;
  stream = leads_come there from.repo.log from.repo.keys named.id (archive_view copy.archive).items so.items more (walk_view copy.walk) ends so.leads come;
  wholes = so.wholes;
  come = so.come;
  listed = added;
  piece = copy.stream.cutter.piece;
  lists = subst (λ (b : ℕ). ListsItems repo.keys b [] so.wholes added copy.stream.cutter.piece) (sym same) so.writes.lists;
}

-- behind them a part of the next was added
archive_begun : (there : Files) (from : Origin) (named : ArchiveRef) (files : Files) (repo : RepoState) (copy : Copy) (added next : List Addition)
    → archive_named named.name from.repo.manifest.archives ≡ Some named → from.block ≡ copy.block
    → CopiesSoFar there from.repo named files repo copy added → BeginsCopy there from.repo repo.keys copy next
    → BeginsArchive there from repo.keys named.name (added ++ next)
archive_begun there from named files repo copy added next named_is same so begun = record {
  named = named;
  named_is = named_is;
  taken = items_taken there from named files repo copy added begun.more begun.ends same so begun.come;
  next = next;
  next_is = subst (λ (b : ℕ). BeginsNext there from.repo repo.keys b begun.more copy.stream.cutter.piece next) (sym same) begun.begun;
  begun_is = refl;
}

-- the same over what the devices tell
pub copied_begun : (told a : Option Told) (source : RepoState) (cached : Contents) (block most : ℕ) (time : Option (List ℕ)) (named : ArchiveRef) (store :
    Store) (copy : Copy)
    (added more : List Addition) → IsReady copy → IfSome told (λ t. FitsRepo (told_files t) source cached)
    → archive_named named.name source.manifest.archives ≡ Some named
    → BeginsMore told source (repo_view store.repo).keys copy more → IsCopiedSoFar (origin told source block most time) named a store copy added
    → IfSome a (λ _. BeginsOne (origin told source block most time) (repo_view store.repo).keys named.name (added ++ more))
copied_begun None a source cached block most time named store copy added more ready fits named_is begun so =
    told_any a (λ _. BeginsOne (origin None source block most time) (repo_view store.repo).keys named.name (added ++ more)) (λ f. inr tt)
copied_begun (Some t) a source cached block most time named store copy added more ready fits named_is begun so =
    IfSome_then a so.1 (λ d c. inr (inl (archive_begun (told_files t) (origin (Some t) source block most time) named (told_files d) (repo_view store.repo) copy
    added more named_is so.0.block c (next_begun t source (repo_view store.repo).keys copy more fits.log ready.stream_block_is begun))))

-- ---- the end of the items

-- behind the pieces of all items what is left of the stream was added
abbrev pub items_ended : (there : Files) (from : Origin) (named : ArchiveRef) (files : Files) (repo : RepoState) (copy : Copy) (added last : List Addition)
    → from.block ≡ copy.block → IsReady copy → ArePieces Stream (cut copy.stream.cutter.block copy.stream.cutter.piece) last
    → CopiesAll there from.repo named files repo copy added → ListsContents there from repo.keys named.name (added ++ last)
items_ended there from named files repo copy added last same ready last_is all =
    let piece = copy.stream.cutter.piece in
    record {
      whole = record { time = named.time; fields = (archive_view copy.archive).fields; items = all.wholes };
      source = all.source_whole;
      listed = added;
      piece = piece;
      lists = subst (λ (b : ℕ). ListsItems repo.keys b [] all.wholes added piece) (sym same) all.writes.lists;
      last = last;
      last_is = subst (λ (b : ℕ). ArePieces Stream (cut b piece) last) ready.stream_block_is last_is;
      added_is = refl;
    }
