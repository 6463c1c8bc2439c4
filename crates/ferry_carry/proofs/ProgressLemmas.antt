-- Lemmas on specs/Progress.antt: how far an archive on its way is, from step to step, and what can be named of it at its end.
use Rattle.std.proofs.Common.{◌≡◌, ◌-◌, ◌^◌, ℕ, Bool, true, false, List, [], ◌∷◌, ◌++◌, map, Option, Some, None}
use Rattle.std.proofs.Common.{Result, Ok, Err, IfSome, IsErrAnd, refl, sym, ◌∙◌, ap, subst, arith}
use Rattle.std.proofs.lemmas.List.{append-nil, append_assoc, map-append}
use Rattle.std.specs.List.{AllByRecursion}
use Rattle.ferry_blob.specs.Blob.{content_id}
use Rattle.ferry_disk.specs.Act.{History, files_now}
use Rattle.ferry_disk.specs.Device.{Told, told_files}
use Rattle.ferry_item.specs.Item.{ItemText, is_healed}
use Rattle.ferry_item.specs.Writing.{field_pairs, item_text}
use Rattle.ferry_item.specs.declared.item.ChunkRef.{ChunkRef}
use Rattle.ferry_log.specs.State.{FitsFiles}
use Rattle.ferry_mac.specs.declared.keys.Keys.{Keys}
use Rattle.ferry_manifest.specs.Record.Text.{archive_view}
use Rattle.ferry_manifest.specs.declared.manifest.ArchiveRef.{ArchiveRef}
use Rattle.ferry_manifest.specs.declared.record.Archive.{Archive}
use Rattle.ferry_msgpack.specs.Tree.{Tree}
use Rattle.ferry_rechunk.specs.Cutting.{IsFed}
use Rattle.ferry_repo.specs.Archives.{HoldsRecord, archive_named}
use Rattle.ferry_repo.specs.Cached.{Contents}
use Rattle.ferry_repo.specs.Objects.{HoldsChunk}
use Rattle.ferry_repo.specs.Opening.{FitsRepo, RepoState, repo_view}
use Rattle.ferry_repo.specs.Walk.{LeadsOn, begin_walk, walk_view}
use Rattle.ferry_repo.specs.Whole.{WholeItem}
use Rattle.ferry_store.specs.Standing.{Keeps, entries_of}
use Rattle.ferry_store.specs.Store.{StoreFits}
use Rattle.ferry_store.specs.declared.store.Store.{Store}
use Rattle.ferry_write.proofs.StandLemmas.{all-append}
use Rattle.ferry_piece.proofs.GatherLemmas.{chunk_on}
use Rattle.ferry_carry.proofs.HealedLemmas.{taken_whole}
use Rattle.ferry_carry.proofs.ListingLemmas.{counts_then, fills_on, item_taken, lists_then}
use Rattle.ferry_piece.proofs.PutsLemmas.{bytes_append, contents_append, count_append}
use Rattle.ferry_carry.proofs.SourceLemmas.{leads_end, leads_then, source_whole, wholes_more}
use Rattle.ferry_piece.proofs.AmongLemmas.{all_both, all_front, each_to}
use Rattle.ferry_piece.proofs.WorkLemmas.{works_known}
use Rattle.ferry_carry.specs.Carrying.{HoldsApart, Origin, SaysIn, origin}
use Rattle.ferry_carry.specs.Copied.{HasFewPieces, IsRead, contents_of, copied_item, copied_stream, pieces_of, stream_block}
use Rattle.ferry_carry.specs.Copying.{IsReady}
use Rattle.ferry_piece.specs.Gather.{Gathered, Gathers, HoldsContents, HoldsWithin, IsAmong, KeepsRest, KeepsStanding, NoCollision, chunk_of, chunks_of}
use Rattle.ferry_carry.specs.Listing.{ListsItems}
use Rattle.ferry_piece.specs.Piece.{WritesOn}
use Rattle.ferry_carry.specs.Progress.{CopiesAll, CopiesSoFar, IsAllCopied, IsCopiedSoFar, IsCopyFrom, WritesItems}
use Rattle.ferry_piece.specs.Puts.{Addition, AreOf, ArePieces, Content, Stream, Within, contents_in, put_bytes, put_count}
use Rattle.ferry_carry.specs.Step.{CopiesItem, CountsStep, EndsItems}
use Rattle.ferry_piece.specs.Work.{Works}
use Rattle.ferry_carry.specs.declared.copy.Copy.{Copy}
use Rattle.ferry_piece.specs.declared.fault.CarryFault.{CarryFault}
use Rattle.ferry_piece.specs.declared.piece.PieceWriter.{PieceWriter}

-- ---- the stream and the contents of one item more

-- the stream of one item more
stream_more : (keys : Keys) (block : ℕ) (wholes : List WholeItem) (whole : WholeItem)
    → copied_stream keys block (wholes ++ whole ∷ []) ≡ copied_stream keys block wholes ++ item_text (copied_item keys block whole)
stream_more keys block [] whole = append-nil (item_text (copied_item keys block whole))
stream_more keys block (w ∷ ws) whole =
    ap (λ (bytes : List ℕ). item_text (copied_item keys block w) ++ bytes) (stream_more keys block ws whole)
    ∙ sym (append_assoc (item_text (copied_item keys block w)) (copied_stream keys block ws) (item_text (copied_item keys block whole)))

-- and the contents
contents_more : (block : ℕ) (wholes : List WholeItem) (whole : WholeItem)
    → contents_of block (wholes ++ whole ∷ []) ≡ contents_of block wholes ++ pieces_of block whole.content
contents_more block [] whole = append-nil (pieces_of block whole.content)
contents_more block (w ∷ ws) whole =
    ap (λ (contents : List (List ℕ)). pieces_of block w.content ++ contents) (contents_more block ws whole)
    ∙ sym (append_assoc (pieces_of block w.content) (contents_of block ws) (pieces_of block whole.content))

-- the chunks of pieces have their ids
pub ids_of : (keys : Keys) (pieces : List (List ℕ)) → map (λ (chunk : ChunkRef). chunk.id) (chunks_of keys pieces) ≡ map (content_id keys) pieces
ids_of keys [] = refl
ids_of keys (p ∷ ps) = ap (λ (ids : List (List ℕ)). content_id keys p ∷ ids) (ids_of keys ps)

-- ---- contents that are there

-- contents that are there stay
contents_on : (counts : Bool) (store now : Store) (h g : History) (fits : StoreFits counts store h) (fits_now : StoreFits counts now g)
    → Keeps (entries_of fits.written) (entries_of fits_now.written) → KeepsRest store now → (contents : List (List ℕ))
    → HoldsContents (files_now h) (repo_view store.repo) contents → HoldsContents (files_now g) (repo_view now.repo) contents
contents_on counts store now h g fits fits_now keeps rest contents all =
    each_to _ _ contents (λ content chunk.
    subst (λ (k : Keys). HoldsChunk (files_now g) (repo_view now.repo).log (repo_view now.repo).keys (content_id k content) content) (sym rest.keys)
    (chunk_on counts store now h g fits fits_now keeps rest.keys (content_id (repo_view store.repo).keys content) content chunk)) all

-- what is live now was among the same before
within_before : (counts : Bool) (store now : Store) (h g : History) (fits : StoreFits counts store h) (fits_now : StoreFits counts now g)
    → Keeps (entries_of fits.written) (entries_of fits_now.written) → KeepsRest store now → (scope : List (List ℕ))
    → HoldsWithin scope (files_now g) (repo_view now.repo) → HoldsWithin scope (files_now h) (repo_view store.repo)
within_before counts store now h g fits fits_now keeps rest scope within id content chunk =
    within id content (chunk_on counts store now h g fits fits_now keeps rest.keys id content chunk)

-- contents that are there where none collide are so later
held_on : (most : ℕ) (counts : Bool) (store now : Store) (before added : List Addition) (contents : List (List ℕ)) (h g : History)
    (fits : StoreFits counts store h) → Gathered Within most counts store added now h g fits → KeepsRest store now
    → HoldsApart (files_now h) (repo_view store.repo) before contents
    → HoldsApart (files_now g) (repo_view now.repo) before contents
held_on most counts store now before added contents h g fits end rest held scope apart all within =
    contents_on counts store now h g fits end.fits_now end.moved.entries rest contents
    (held scope (subst (λ (k : Keys). NoCollision k scope) rest.keys apart) all
    (within_before counts store now h g fits end.fits_now end.moved.entries rest scope within))

-- contents that were there, and behind a part of them those that were added
pub held_more : (most : ℕ) (counts : Bool) (store now : Store) (before added : List Addition) (first last some more : List (List ℕ)) (h g : History)
    (fits : StoreFits counts store h) → contents_in added ≡ some ++ more → Gathered Within most counts store added now h g fits → KeepsRest store now
    → HoldsApart (files_now h) (repo_view store.repo) before (first ++ last)
    → HoldsApart (files_now g) (repo_view now.repo) (before ++ added) ((first ++ some) ++ (last ++ more))
held_more most counts store now before added first last some more h g fits adds end rest held scope apart all within =
    let P : List ℕ → Type 0 = λ content.
    HoldsChunk (files_now g) (repo_view now.repo).log (repo_view now.repo).keys (content_id (repo_view now.repo).keys content) content in
    let halves = all_front (IsAmong scope) (contents_in before) (contents_in added)
    (subst (AllByRecursion (IsAmong scope)) (contents_append before added) all) in
    let old = held_on most counts store now before added (first ++ last) h g fits end rest held scope apart halves.0 within in
    let new = (end.brings scope (subst (λ (k : Keys). NoCollision k scope) rest.keys apart) halves.1
    (within_before counts store now h g fits end.fits_now end.moved.entries rest scope within)).1 in
    let olds = all_front P first last old in
    let news = all_front P some more (subst (HoldsContents (files_now g) (repo_view now.repo)) adds new) in
    all_both P (first ++ some) (last ++ more) (all_both P first some olds.0 news.0) (all_both P last more olds.1 news.1)

-- ---- WritesItems

-- one item more
writes_more : (most : ℕ) (counts : Bool) (store now : Store) (h g : History) (fits : StoreFits counts store h) (copy copy_now : Copy)
    (wholes : List WholeItem) (whole : WholeItem) (added own spelled : List Addition)
    → Gathered Within most counts store (own ++ spelled) now h g fits → KeepsRest store now → IsReady copy
    → copy_now.block ≡ copy.block → ArePieces Content (pieces_of copy.block whole.content) own → AreOf Stream spelled
    → WritesOn (repo_view store.repo).keys copy.stream.cutter copy.stream.chunks.items (item_text (copied_item (repo_view store.repo).keys copy.block whole))
    (contents_in spelled) copy_now.stream.cutter copy_now.stream.chunks.items → IsRead (copied_item (repo_view store.repo).keys copy.block whole)
    → HasFewPieces copy.block whole → WritesItems (files_now h) (repo_view store.repo) copy wholes added
    → WritesItems (files_now g) (repo_view now.repo) copy_now (wholes ++ whole ∷ []) (added ++ (own ++ spelled))
writes_more most counts store now h g fits copy copy_now wholes whole added own spelled end rest ready same own_is of wrote read few writes =
    let large = ready.stream_block_is in
    let keys = (repo_view store.repo).keys in
    let block = copy.block in
    let piece = copy_now.stream.cutter.piece in
    let chunks = copy_now.stream.chunks.items in
    let all = wholes ++ whole ∷ [] in
    let full = contents_in spelled in
    let taken = writes.taken ++ full in
    let more = own ++ spelled in
    let IsSo : Keys → ℕ → Type 0 = λ k b.
    IsFed stream_block (copied_stream k b all) taken piece
    × ((chunks ≡ chunks_of k taken) × (AllByRecursion (λ (w : WholeItem). IsRead (copied_item k b w)) all × ListsItems k b [] all (added ++ more) piece)) in
    let before : IsFed copy.stream.cutter.block (copied_stream keys block wholes) writes.taken copy.stream.cutter.piece =
    subst (λ (n : ℕ). IsFed n (copied_stream keys block wholes) writes.taken copy.stream.cutter.piece) (sym large) writes.fed in
    let after = wrote.fed (copied_stream keys block wholes) writes.taken before in
    let fed : IsFed stream_block (copied_stream keys block all) taken piece =
    subst (λ (bytes : List ℕ). IsFed stream_block bytes taken piece) (sym (stream_more keys block wholes whole))
    (subst (λ (n : ℕ). IsFed n (copied_stream keys block wholes ++ item_text (copied_item keys block whole)) taken piece) large after) in
    let chunks_are : chunks ≡ chunks_of keys taken =
    wrote.chunks_are ∙ (ap (λ (cs : List ChunkRef). cs ++ chunks_of keys full) writes.chunks ∙ sym (map-append (chunk_of keys) writes.taken full)) in
    let reads : AllByRecursion (λ (w : WholeItem). IsRead (copied_item keys block w)) all =
    all-append (λ (w : WholeItem). IsRead (copied_item keys block w)) wholes (whole ∷ []) writes.spelled (read, tt) in
    let fills = fills_on keys copy.stream.cutter copy_now.stream.cutter copy.stream.chunks.items chunks (item_text (copied_item keys block whole)) spelled large
    (omega (arith, ready.stream_room)) of wrote in
    let lists = lists_then keys block [] wholes whole added own spelled copy.stream.cutter.piece piece writes.lists own_is fills in
    let so : IsSo (repo_view now.repo).keys copy_now.block =
    subst (λ (k : Keys). IsSo k copy_now.block) (sym rest.keys) (subst (IsSo keys) (sym same) (fed, (chunks_are, (reads, lists)))) in
    let contents : contents_in more ≡ pieces_of block whole.content ++ full =
    contents_append own spelled ∙ ap (λ (cs : List (List ℕ)). cs ++ full) own_is.0 in
    let held : HoldsApart (files_now g) (repo_view now.repo) (added ++ more) (contents_of block all ++ taken) =
    subst (λ (cs : List (List ℕ)). HoldsApart (files_now g) (repo_view now.repo) (added ++ more) (cs ++ taken)) (sym (contents_more block wholes whole))
    (held_more most counts store now added more (contents_of block wholes) writes.taken (pieces_of block whole.content) full h g fits contents end rest
    writes.held) in
    record {
      taken = taken;
      fed = so.0;
      chunks = so.1.0;
      spelled = so.1.1.0;
      few = subst (λ (b : ℕ). AllByRecursion (HasFewPieces b) all) (sym same)
          (all-append (HasFewPieces block) wholes (whole ∷ []) writes.few (few, tt));
      held = subst (λ (b : ℕ). HoldsApart (files_now g) (repo_view now.repo) (added ++ more) (contents_of b all ++ taken)) (sym same) held;
      lists = so.1.1.1;
    }

-- the same items, where nothing of the stream has changed
writes_on : (most : ℕ) (counts : Bool) (store now : Store) (more : List Addition) (h g : History) (fits : StoreFits counts store h) (copy copy_now : Copy)
    (wholes : List WholeItem) (added : List Addition) → Gathered Within most counts store more now h g fits → KeepsRest store now
    → copy_now.stream ≡ copy.stream → copy_now.block ≡ copy.block → WritesItems (files_now h) (repo_view store.repo) copy wholes added
    → WritesItems (files_now g) (repo_view now.repo) copy_now wholes added
writes_on most counts store now more h g fits copy copy_now wholes added end rest stream same writes =
    let taken = writes.taken in
    let IsSo : Keys → ℕ → PieceWriter → Type 0 = λ k b s.
    IsFed stream_block (copied_stream k b wholes) taken s.cutter.piece
    × ((s.chunks.items ≡ chunks_of k taken)
    × (AllByRecursion (λ (w : WholeItem). IsRead (copied_item k b w)) wholes × ListsItems k b [] wholes added s.cutter.piece)) in
    let so : IsSo (repo_view now.repo).keys copy_now.block copy_now.stream =
    subst (IsSo (repo_view now.repo).keys copy_now.block) (sym stream)
    (subst (λ (k : Keys). IsSo k copy_now.block copy.stream) (sym rest.keys)
    (subst (λ (b : ℕ). IsSo (repo_view store.repo).keys b copy.stream) (sym same) (writes.fed, (writes.chunks, (writes.spelled, writes.lists))))) in
    record {
      taken = taken;
      fed = so.0;
      chunks = so.1.0;
      spelled = so.1.1.0;
      few = subst (λ (b : ℕ). AllByRecursion (HasFewPieces b) wholes) (sym same) writes.few;
      held = subst (λ (b : ℕ). HoldsApart (files_now g) (repo_view now.repo) added (contents_of b wholes ++ taken)) (sym same)
          (held_on most counts store now added more (contents_of copy.block wholes ++ taken) h g fits end rest writes.held);
      lists = so.1.1.1;
    }

-- ---- a step

-- one item more was taken and written
pub step_copied : (most : ℕ) (counts : Bool) (t : Told) (source : RepoState) (named : ArchiveRef) (store now : Store) (copy copy_now : Copy)
    (added more : List Addition) (h g : History) (fits : StoreFits counts store h) → FitsFiles (told_files t) source.log
    → Gathered Within most counts store more now h g fits
    → KeepsRest store now → IsReady copy → copy_now.archive ≡ copy.archive → copy_now.block ≡ copy.block
    → CopiesItem (Some t) source (repo_view store.repo).keys copy more copy_now
    → CopiesSoFar (told_files t) source named (files_now h) (repo_view store.repo) copy added
    → CopiesSoFar (told_files t) source named (files_now g) (repo_view now.repo) copy_now (added ++ more)
step_copied most counts t source named store now copy copy_now added more h g fits log_fits end rest ready archive same step so =
    let there = told_files t in
    let keys = (repo_view store.repo).keys in
    let items = so.items ++ step.item ∷ [] in
    let own = step.contents in
    let spelled = step.spelled in
    let found = item_taken t source copy.block keys step.item step.copied.fields step.item.chunks step.copied.chunks (contents_in own) refl step.fields
    step.content in
    let whole = found.0 in
    let is = found.1 in
    let healed : is_healed (field_pairs step.copied) ≡ false =
    ap (λ (f : Tree). is_healed (field_pairs (record { fields = f; chunks = None }))) step.fields
    ∙ taken_whole there source.log source.keys (walk_view copy.walk) (walk_view copy_now.walk) step.item log_fits step.taken in
    let read : IsRead (copied_item keys copy.block whole) = subst IsRead is.text (step.again healed) in
    let wrote = subst (λ (i : ItemText). WritesOn keys copy.stream.cutter copy.stream.chunks.items (item_text i) (contents_in spelled) copy_now.stream.cutter
    copy_now.stream.chunks.items) is.text step.written.writes in
    record {
      items = items;
      wholes = so.wholes ++ whole ∷ [];
      record_is = subst (λ (a : Archive). HoldsRecord there source.log source.keys named.id (archive_view a)) (sym archive) so.record_is;
      leads = subst (λ (a : Archive). LeadsOn there source.log source.keys (begin_walk named.id (archive_view a).items) items (walk_view copy_now.walk))
          (sym archive)
          (leads_then there source.log source.keys (begin_walk named.id (archive_view copy.archive).items) (walk_view copy.walk) (walk_view copy_now.walk)
          so.items (step.item ∷ []) so.leads step.taken);
      come = wholes_more there source.log source.keys so.items so.wholes step.item whole so.come is.holds;
      writes = subst (λ (l : List Addition). WritesItems (files_now g) (repo_view now.repo) copy_now (so.wholes ++ whole ∷ []) (added ++ l)) (sym step.pieces)
          (writes_more most counts store now h g fits copy copy_now so.wholes whole added own spelled
          (subst (λ (l : List Addition). Gathered Within most counts store l now h g fits) step.pieces end) rest ready same (is.pieces, step.of_content)
          step.of_stream wrote read is.few so.writes);
    }

-- no item more is to come: all were written
pub step_ended : (most : ℕ) (counts : Bool) (t : Told) (source : RepoState) (named : ArchiveRef) (store now : Store) (copy copy_now : Copy)
    (added more : List Addition) (h g : History) (fits : StoreFits counts store h) → archive_named named.name source.manifest.archives ≡ Some named
    → Gathered Within most counts store more now h g fits → KeepsRest store now → copy_now.archive ≡ copy.archive → copy_now.block ≡ copy.block
    → EndsItems (Some t) source copy more copy_now → CopiesSoFar (told_files t) source named (files_now h) (repo_view store.repo) copy added
    → CopiesAll (told_files t) source named (files_now g) (repo_view now.repo) copy_now added
step_ended most counts t source named store now copy copy_now added more h g fits named_is end rest archive same step so =
    let there = told_files t in
    let record_is = archive_view copy.archive in
    let comes = leads_end there source.log source.keys named.id record_is.items so.items (walk_view copy.walk) None so.leads step.end in
    record {
      wholes = so.wholes;
      source_whole = subst (λ (a : Archive). SaysIn there source named.name
          (record { time = named.time; fields = (archive_view a).fields; items = so.wholes })) (sym archive)
          (source_whole there source.log source.keys source.manifest.archives named.name named record_is so.items so.wholes named_is so.record_is comes
          so.come);
      writes = writes_on most counts store now more h g fits copy copy_now so.wholes added end rest step.stream same so.writes;
    }

-- ---- what is known of a step by what the devices tell

-- what was handed on is no value
pub err_not : {T : Type 0} (r : Result T CarryFault) (fault : CarryFault) (x : T) → IsErrAnd r (λ y. y ≡ fault) → r ≡ Ok x → ⊥
err_not (Ok y) fault x e is = absurd e
err_not (Err f) fault x e is = cc

-- what holds of anything
pub any_told : {T : Type 0} (o : Option T) (P : T → Type 0) → ((x : T) → P x) → IfSome o P
any_told None P p = tt
any_told (Some x) P p = p x

-- two facts of something that may be there
pub both_known : {T : Type 0} (o : Option T) (P Q : T → Type 0) → IfSome o P → IfSome o Q → IfSome o (λ x. P x × Q x)
both_known None P Q p q = tt
both_known (Some x) P Q p q = (p, q)

-- an archive is copied from the same origin, and has counted what was put of these too
copy_from : (from : Origin) (copy copy_now : Copy) (added more : List Addition) → copy_now.block ≡ copy.block
    → copy_now.contents.checkpoint ≡ copy.contents.checkpoint → CountsStep copy more copy_now → IsCopyFrom from copy added
    → IsCopyFrom from copy_now (added ++ more)
copy_from from copy copy_now added more same same_most counts is = record {
  block = is.block ∙ sym same;
  most = is.most ∙ sym same_most;
  chunks = counts_then (2 ^ 64 - 1) copy.contents.put (put_count Content added) copy_now.contents.put (put_count Content more)
      (put_count Content (added ++ more)) is.chunks (counts.contents.put (omega (arith, is.chunks))) (count_append Content added more);
  bytes = counts_then (2 ^ 128 - 1) copy.contents.bytes (put_bytes Content added) copy_now.contents.bytes (put_bytes Content more)
      (put_bytes Content (added ++ more)) is.bytes (counts.contents.bytes (omega (arith, is.bytes))) (bytes_append Content added more);
  meta = counts_then (2 ^ 64 - 1) copy.stream.put (put_count Stream added) copy_now.stream.put (put_count Stream more)
      (put_count Stream (added ++ more)) is.meta (counts.stream.put (omega (arith, is.meta))) (count_append Stream added more);
}

-- the same where nothing was counted
copy_as : (from : Origin) (copy copy_now : Copy) (added : List Addition) → copy_now.block ≡ copy.block → copy_now.contents ≡ copy.contents
    → copy_now.stream ≡ copy.stream → IsCopyFrom from copy added → IsCopyFrom from copy_now added
copy_as from copy copy_now added same contents stream is = record {
  block = is.block ∙ sym same;
  most = is.most ∙ ap (λ (w : PieceWriter). w.checkpoint) (sym contents);
  chunks = ap (λ (w : PieceWriter). w.put) contents ∙ is.chunks;
  bytes = ap (λ (w : PieceWriter). w.bytes) contents ∙ is.bytes;
  meta = ap (λ (w : PieceWriter). w.put) stream ∙ is.meta;
}

-- the same over what the shelf and the depot tell
pub steps_copied : (most : ℕ) (time : Option (List ℕ)) (told a b : Option Told) (source : RepoState) (cached : Contents) (named : ArchiveRef) (store now :
    Store)
    (copy copy_now : Copy) (added more : List Addition) (n m : ℕ) → IfSome told (λ t. FitsRepo (told_files t) source cached)
    → IfSome a (λ d. StoreFits false store d.history)
    → Works {T = Bool} (KeepsStanding most store more) (λ _. Gathers most store more now) a b n m (Ok true) → KeepsRest store now → IsReady copy
    → copy_now.archive ≡ copy.archive → copy_now.block ≡ copy.block → copy_now.contents.checkpoint ≡ copy.contents.checkpoint
    → CopiesItem told source (repo_view store.repo).keys copy more copy_now → CountsStep copy more copy_now
    → IsCopiedSoFar (origin told source copy.block most time) named a store copy added
    → IsCopiedSoFar (origin told source copy.block most time) named b now copy_now (added ++ more)
steps_copied most time None a b source cached named store now copy copy_now added more n m log_fits fits works rest ready archive same same_most step counts so
    =
    (copy_from (origin None source copy.block most time) copy copy_now added more same same_most counts so.0, any_told b (λ d. Unit {0}) (λ d. tt))
steps_copied most time (Some t) a b source cached named store now copy copy_now added more n m log_fits fits works rest ready archive same same_most step counts
    so =
    let P : History → Type 0 = λ h. CopiesSoFar (told_files t) source named (files_now h) (repo_view store.repo) copy added in
    let R : History → Type 0 = λ h. CopiesSoFar (told_files t) source named (files_now h) (repo_view now.repo) copy_now (added ++ more) in (
      copy_from (origin (Some t) source copy.block most time) copy copy_now added more same same_most counts so.0,
      works_known {T = Bool} (λ h. StoreFits false store h × P h) R (KeepsStanding most store more) (λ _. Gathers most store more now) a b n m true
          (λ h g known gathers.
          step_copied most false t source named store now copy copy_now added more h g known.0 log_fits.log (gathers false known.0) rest ready archive same
          step known.1)
          (both_known a (λ d. StoreFits false store d.history) (λ d. P d.history) fits so.1) works,
    )

-- and of the end
pub steps_ended : (most : ℕ) (time : Option (List ℕ)) (told a b : Option Told) (source : RepoState) (named : ArchiveRef) (store now : Store) (copy copy_now :
    Copy)
    (added more : List Addition) (n m : ℕ) → archive_named named.name source.manifest.archives ≡ Some named
    → IfSome a (λ d. StoreFits false store d.history)
    → Works {T = Bool} (KeepsStanding most store more) (λ _. Gathers most store more now) a b n m (Ok false) → KeepsRest store now
    → copy_now.archive ≡ copy.archive → copy_now.block ≡ copy.block
    → EndsItems told source copy more copy_now → IsCopiedSoFar (origin told source copy.block most time) named a store copy added
    → IsAllCopied (origin told source copy.block most time) named b now copy_now added
steps_ended most time None a b source named store now copy copy_now added more n m named_is fits works rest archive same step so =
    (copy_as (origin None source copy.block most time) copy copy_now added same step.contents step.stream so.0, any_told b (λ d. Unit {0}) (λ d. tt))
steps_ended most time (Some t) a b source named store now copy copy_now added more n m named_is fits works rest archive same step so =
    let P : History → Type 0 = λ h. CopiesSoFar (told_files t) source named (files_now h) (repo_view store.repo) copy added in
    let R : History → Type 0 = λ h. CopiesAll (told_files t) source named (files_now h) (repo_view now.repo) copy_now added in (
      copy_as (origin (Some t) source copy.block most time) copy copy_now added same step.contents step.stream so.0,
      works_known {T = Bool} (λ h. StoreFits false store h × P h) R (KeepsStanding most store more) (λ _. Gathers most store more now) a b n m false
          (λ h g known gathers.
          step_ended most false t source named store now copy copy_now added more h g known.0 named_is (gathers false known.0) rest archive same step known.1)
          (both_known a (λ d. StoreFits false store d.history) (λ d. P d.history) fits so.1) works,
    )
