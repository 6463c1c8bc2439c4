-- How many pieces of streams are put of all archives of the drill: one of each, since no two archives have the same stream.
use Rattle.std.proofs.Common.{◌≡◌, ◌⊎◌, inl, inr, ◌≤◌, ◌<◌, ◌+◌, ◌*◌, ◌&&◌, ℕ, zero, suc, Bool, true, false, if◌then◌else◌, List, [], ◌∷◌, ◌++◌}
use Rattle.std.proofs.Common.{length, get_or, map, Some, refl, sym, ◌∙◌, ap, subst, arith}
use Rattle.std.proofs.lemmas.List.{append-nil, append_assoc, length-append}
use Rattle.std.specs.List.{AllByRecursion}
use Rattle.ferry_blob.proofs.CallerLemmas.{length-content_id}
use Rattle.ferry_blob.specs.Blob.{content_id}
use Rattle.ferry_carry.specs.Carrying.{SaysIn}
use Rattle.ferry_carry.specs.Copied.{IsCopyOf, IsRead, copied_item, stream_block}
use Rattle.ferry_carry.specs.Counting.{CountsOf}
use Rattle.ferry_carry.specs.Listing.{ListsArchive, ListsItems, ListsNames}
use Rattle.ferry_carry.specs.Naming.{TaggedRecord}
use Rattle.ferry_carry.specs.declared.options.Carried.{Carried}
use Rattle.ferry_disk.specs.Files.{Files}
use Rattle.ferry_gen.specs.Archives.{drill_archive, drill_item, drill_items}
use Rattle.ferry_gen.specs.Content.{archive_name, file_content}
use Rattle.ferry_item.specs.Item.{ItemText}
use Rattle.ferry_item.specs.Stream.{an_item, front_item}
use Rattle.ferry_item.specs.declared.item.ChunkRef.{ChunkRef}
use Rattle.ferry_mac.specs.declared.keys.Keys.{Keys}
use Rattle.ferry_manifest.specs.Manifest.Text.{ManifestText}
use Rattle.ferry_piece.proofs.AmongLemmas.{all_both, all_front, among_all, each_to}
use Rattle.ferry_piece.proofs.PutsLemmas.{contents_append, count_append, of_append}
use Rattle.ferry_piece.specs.Gather.{IsAmong, NoCollision, chunk_of, chunks_of}
use Rattle.ferry_piece.specs.Puts.{Addition, AreOf, ArePieces, Content, Kind, Record, Stream, addition, contents_in, put_count, same_kind}
use Rattle.ferry_rechunk.proofs.CutLemmas.{cut_short}
use Rattle.ferry_rechunk.specs.Cut.{cut}
use Rattle.ferry_repo.proofs.WholeLemmas.{one_whole}
use Rattle.ferry_repo.specs.Opening.{RepoState}
use Rattle.ferry_repo.specs.Whole.{WholeArchive, WholeItem}
use Rattle.ferry_run_drill.proofs.ApartLemmas.{block_count, blocks_long, blocks_size}
use Rattle.ferry_run_drill.proofs.BlockLemmas.{block, block_lead, blocks_from, file_cut, lead}
use Rattle.ferry_run_drill.proofs.HeadLemmas.{chunks_long, item_long}
use Rattle.ferry_run_drill.proofs.NameLemmas.{AreBelow, SaysAll, below_next, below_none, names_from}
use Rattle.ferry_run_drill.proofs.NewLemmas.{PutsNew, and_false, is_put, puts_split}
use Rattle.ferry_run_drill.proofs.PieceLemmas.{items_are, items_from, lists_file, some_bytes, stream_from, stream_high, stream_short, text_of, text_short}
use Rattle.ferry_run_drill.proofs.SmallLemmas.{record_short}
use Rattle.ferry_run_drill.proofs.TotalLemmas.{lists_more}
use Rattle.ferry_run_drill.specs.Steps.{drill_origin}

-- ---- how long a stream is

text_long : (keys : Keys) (archive file : ℕ) → 256 ≤ length (text_of keys archive file)
text_long keys archive file =
    let pieces = cut 512 (file_content archive file) in
    let size : length pieces ≡ 8 * (file + 1) = ap length (file_cut archive file) ∙ blocks_size archive file 0 (8 * (file + 1)) in
    omega (
      arith,
      item_long file (map (chunk_of keys) pieces),
      chunks_long (chunk_of keys) (λ piece. length-content_id keys piece) pieces,
      size,
    )

stream_long : (keys : Keys) (archive file count : ℕ) → 256 * count ≤ length (stream_from keys archive file count)
unfolding items_from
stream_long keys archive file zero = omega arith
stream_long keys archive file (suc count) =
    omega (
      arith,
      length-append (text_of keys archive file) (stream_from keys archive (suc file) count),
      text_long keys archive file,
      stream_long keys archive (suc file) count,
    )

-- ---- streams of other archives

-- The first two items of an archive's stream read as they are spelled, and the first block of its second file is among these contents.
record Reads (keys : Keys) (scope : List (List ℕ)) (archive : ℕ) : Type 0 where
  first : IsRead (copied_item keys 512 (drill_item archive 0))
  second : IsRead (copied_item keys 512 (drill_item archive 1))
  there : IsAmong scope (block archive 1 0)
  low : archive < 64

-- the stream behind its first item, and behind its second
two_items : (keys : Keys) (archive : ℕ)
    → stream_from keys archive 0 8 ≡ text_of keys archive 0 ++ (text_of keys archive 1 ++ stream_from keys archive 2 6)
unfolding items_from
two_items keys archive = refl

-- items in front of equal bytes are equal
one_item : (a b : ItemText) (text more rest others : List ℕ) → front_item (text ++ rest) ≡ an_item a rest → front_item (more ++ others) ≡ an_item b others
    → text ++ rest ≡ more ++ others → (a ≡ b) × (rest ≡ others)
one_item a b text more rest others first second same =
    let both : an_item a rest ≡ an_item b others = sym first ∙ (ap front_item same ∙ second) in
    (cc, cc)

first_block : (keys : Keys) (archive : ℕ) (chunks : List ChunkRef) → chunks ≡ chunks_of keys (cut 512 (file_content archive 1))
    → (rest : List ChunkRef) × (chunks ≡ chunk_of keys (block archive 1 0) ∷ rest)
unfolding blocks_from
first_block keys archive chunks are =
    (map (chunk_of keys) (blocks_from archive 1 1 15), are ∙ ap (map (chunk_of keys)) (file_cut archive 1))

streams_apart : (keys : Keys) (scope : List (List ℕ)) (a b : ℕ) → NoCollision keys scope → Reads keys scope a → Reads keys scope b
    → stream_from keys a 0 8 ≡ stream_from keys b 0 8 → a ≡ b
streams_apart keys scope a b apart p q same =
    let text = copied_item keys 512 (drill_item a 1) in
    let other = copied_item keys 512 (drill_item b 1) in
    let behind_a = text_of keys a 1 ++ stream_from keys a 2 6 in
    let behind_b = text_of keys b 1 ++ stream_from keys b 2 6 in
    let all : text_of keys a 0 ++ behind_a ≡ text_of keys b 0 ++ behind_b = sym (two_items keys a) ∙ (same ∙ two_items keys b) in
    let later = (one_item (copied_item keys 512 (drill_item a 0)) (copied_item keys 512 (drill_item b 0)) (text_of keys a 0) (text_of keys b 0) behind_a
    behind_b (p.first behind_a) (q.first behind_b) all).1 in
    let items : text ≡ other =
    (one_item text other (text_of keys a 1) (text_of keys b 1) (stream_from keys a 2 6) (stream_from keys b 2 6) (p.second (stream_from keys a 2 6))
    (q.second (stream_from keys b 2 6)) later).0 in
    let some : Some (chunks_of keys (cut 512 (file_content a 1))) ≡ Some (chunks_of keys (cut 512 (file_content b 1))) =
    ap (λ (i : ItemText). i.chunks) items in
    let chunks : chunks_of keys (cut 512 (file_content a 1)) ≡ chunks_of keys (cut 512 (file_content b 1)) = cc in
    let one = first_block keys a (chunks_of keys (cut 512 (file_content a 1))) refl in
    let two = first_block keys b (chunks_of keys (cut 512 (file_content a 1))) chunks in
    let heads : chunk_of keys (block a 1 0) ∷ one.0 ≡ chunk_of keys (block b 1 0) ∷ two.0 = sym one.1 ∙ two.1 in
    let head : chunk_of keys (block a 1 0) ≡ chunk_of keys (block b 1 0) = cc in
    let content = apart.one (block a 1 0) (block b 1 0) p.there q.there (ap (λ (chunk : ChunkRef). chunk.id) head) in
    let led = ap lead content in
    omega (arith, led, block_lead a 1 0 (omega (arith, p.low)), block_lead b 1 0 (omega (arith, q.low)), p.low, q.low)

-- A content is no stream of an archive, or that of one in front of this one.
abbrev IsEarlier : Keys → List (List ℕ) → ℕ → List ℕ → Type 0
IsEarlier keys scope bound content = (length content ≤ 2000)
    ⊎ ((archive : ℕ) × ((archive < bound) × (Reads keys scope archive × (content ≡ stream_from keys archive 0 8))))

not_earlier : (keys : Keys) (scope : List (List ℕ)) (archive : ℕ) (content : List ℕ) → NoCollision keys scope → Reads keys scope archive
    → IsEarlier keys scope archive content → content ≡ stream_from keys archive 0 8 → ⊥
not_earlier keys scope archive content apart reads (inl short) same =
    omega (arith, short, ap (λ (l : List ℕ). length l) same, stream_long keys archive 0 8)
not_earlier keys scope archive content apart reads (inr one) same =
    let e = streams_apart keys scope one.0 archive apart one.1.1.0 reads (sym one.1.1.1 ∙ same) in
    omega (arith, e, one.1.0)

earlier_on : (keys : Keys) (scope : List (List ℕ)) (archive : ℕ) (content : List ℕ) → IsEarlier keys scope archive content
    → IsEarlier keys scope (suc archive) content
earlier_on keys scope archive content (inl short) = inl short
earlier_on keys scope archive content (inr one) = inr (one.0, (omega (arith, one.1.0), one.1.1))

-- ---- the items of an archive

-- What is listed of so many items are pieces of contents, of 512 bytes each, and their spellings come behind what is in hand.
record ListsShort (keys : Keys) (archive file count : ℕ) (piece : List ℕ) (listed : List Addition) (piece_now : List ℕ) : Type 0 where
  are : AreOf Content listed
  sizes : AllByRecursion (λ (content : List ℕ). length content ≡ 512) (contents_in listed)
  piece_is : piece_now ≡ piece ++ stream_from keys archive file count

lists_short : (keys : Keys) (archive file count : ℕ) (piece : List ℕ) (listed : List Addition) (piece_now : List ℕ) → file + count ≤ 8
    → length piece + 4000 * count < stream_block → ListsItems keys 512 piece (items_from archive file count) listed piece_now
    → ListsShort keys archive file count piece listed piece_now
unfolding items_from
lists_short keys archive file zero piece listed piece_now most low lists = record {
  are = subst (AreOf Content) (sym lists.0) tt;
  sizes = subst (λ (l : List Addition). AllByRecursion (λ (content : List ℕ). length content ≡ 512) (contents_in l)) (sym lists.0) tt;
  piece_is = lists.1 ∙ sym (append-nil piece);
}
lists_short keys archive file (suc count) piece listed piece_now most low lists =
    let short = text_short keys archive file (omega (arith, most)) in
    let one = lists_file keys archive file piece (items_from archive (suc file) count) listed piece_now (omega (arith, short, low)) lists in
    let size = length-append piece (text_of keys archive file) in
    let later = lists_short keys archive (suc file) count (piece ++ text_of keys archive file) one.rest piece_now (omega (arith, most))
    (omega (arith, low, short, size)) one.later in
    let Sized : List ℕ → Type 0 = λ content. length content ≡ 512 in
    record {
      are = subst (AreOf Content) (sym one.listed_is) (of_append Content one.own one.rest one.are later.are);
      sizes = subst (λ (l : List Addition). AllByRecursion Sized (contents_in l)) (sym one.listed_is)
          (subst (AllByRecursion Sized) (sym (contents_append one.own one.rest))
          (all_both Sized (contents_in one.own) (contents_in one.rest)
          (subst (AllByRecursion Sized) (sym one.own_is) (blocks_long archive file 0 (block_count file))) later.sizes));
      piece_is = later.piece_is ∙ append_assoc piece (text_of keys archive file) (stream_from keys archive (suc file) count);
    }

-- the first block of the second file is among what is listed
block_there : (keys : Keys) (scope : List (List ℕ)) (archive : ℕ) (listed : List Addition) (piece : List ℕ)
    → AllByRecursion (IsAmong scope) (contents_in listed) → ListsItems keys 512 [] (items_from archive 0 8) listed piece → IsAmong scope (block archive 1 0)
unfolding items_from blocks_from
block_there keys scope archive listed piece within lists =
    let short = text_short keys archive 0 (omega arith) in
    let more = text_short keys archive 1 (omega arith) in
    let one = lists_file keys archive 0 [] (items_from archive 1 7) listed piece (omega (arith, short)) lists in
    let two = lists_file keys archive 1 (text_of keys archive 0) (items_from archive 2 6) one.rest piece (omega (arith, short, more)) one.later in
    let first = all_front (IsAmong scope) (contents_in one.own) (contents_in one.rest)
    (subst (AllByRecursion (IsAmong scope)) (ap contents_in one.listed_is ∙ contents_append one.own one.rest) within) in
    let second = all_front (IsAmong scope) (contents_in two.own) (contents_in two.rest)
    (subst (AllByRecursion (IsAmong scope)) (ap contents_in two.listed_is ∙ contents_append two.own two.rest) first.1) in
    let blocks : AllByRecursion (IsAmong scope) (blocks_from archive 1 0 16) = subst (AllByRecursion (IsAmong scope)) two.own_is second.0 in
    blocks.0

-- ---- how many are put

-- a piece of a stream counts where it is put
counted : (put : Bool) (other : Kind) (n : ℕ) → other ≡ Stream → put ≡ true → (if put && same_kind Stream other then n else 0) ≡ n
counted put other n same is =
    ap (λ (b : Bool). if b && same_kind Stream other then n else 0) is ∙ ap (λ (k : Kind). if same_kind Stream k then n else 0) same

uncounted : (put : Bool) (kind other : Kind) (n : ℕ) → other ≡ kind → same_kind Stream kind ≡ false
    → (if put && same_kind Stream other then n else 0) ≡ 0
uncounted put kind other n same apart =
    ap (λ (b : Bool). if put && b then n else 0) (ap (same_kind Stream) same ∙ apart) ∙ ap (λ (b : Bool). if b then n else 0) (and_false put)

none_counted : (added : List Addition) → AreOf Content added → put_count Stream added ≡ 0
unfolding put_count
none_counted [] are = refl
none_counted (one ∷ rest) are = omega (arith, uncounted one.put Content one.kind 1 are.0 refl, none_counted rest are.1)

record_counted : (text : List ℕ) (put : Bool) → put_count Stream (addition Record text put ∷ []) ≡ 0
unfolding put_count
record_counted text put = omega (arith, uncounted put Record Record 1 refl refl)

one_counted : (before : List (List ℕ)) (piece : List ℕ) (last : List Addition) → AreOf Stream last → contents_in last ≡ piece ∷ [] → PutsNew before last
    → (IsAmong before piece → ⊥) → put_count Stream last ≡ 1
unfolding put_count
one_counted before piece [] are is puts none = absurd (let no : ⊥ = cc in no)
one_counted before piece (one ∷ []) are is puts none =
    let same : one.content ≡ piece = cc in
    let put = is_put before one puts.0 (λ among. none (subst (IsAmong before) same among)) in
    omega (arith, counted one.put one.kind 1 are.0 put)
one_counted before piece (one ∷ (two ∷ rest)) are is puts none =
    absurd (let size = ap (λ (l : List (List ℕ)). length l) is in let no : ⊥ = omega (arith, size) in no)

-- ---- an archive

-- One piece of a stream is put of an archive, and behind it no content is the stream of one that follows.
record PutsStream (keys : Keys) (scope : List (List ℕ)) (archive : ℕ) (before : List (List ℕ)) (added : List Addition) : Type 0 where
  count : put_count Stream added ≡ 1
  earlier : AllByRecursion (IsEarlier keys scope (suc archive)) (before ++ contents_in added)

puts_stream : (keys : Keys) (scope : List (List ℕ)) (archive : ℕ) (before : List (List ℕ)) (listed last added : List Addition) (piece text : List ℕ)
    (put : Bool) → NoCollision keys scope → Reads keys scope archive → AllByRecursion (IsEarlier keys scope archive) before
    → ListsItems keys 512 [] (items_from archive 0 8) listed piece → ArePieces Stream (cut stream_block piece) last → length text ≤ 2000
    → added ≡ (listed ++ last) ++ addition Record text put ∷ [] → PutsNew before added → PutsStream keys scope archive before added
puts_stream keys scope archive before listed last added piece text put apart reads earlier lists last_is text_short_is added_is puts =
    let end : List Addition = addition Record text put ∷ [] in
    let split = puts_split before (listed ++ last) end (subst (PutsNew before) added_is puts) in
    let parts = puts_split before listed last split.0 in
    let items = lists_short keys archive 0 8 [] listed piece (omega arith) (omega arith) lists in
    let piece_is : piece ≡ stream_from keys archive 0 8 = items.piece_is in
    let short : length piece ≤ 32000 = (let e = ap length piece_is in omega (arith, e, stream_short keys archive 0 8 (omega arith))) in
    let high : 128 ≤ get_or piece 0 0 = subst (λ (l : List ℕ). 128 ≤ get_or l 0 0) (sym piece_is) (stream_high keys archive 7) in
    let one : contents_in last ≡ piece ∷ [] = last_is.0 ∙ cut_short stream_block piece (some_bytes piece high) (omega (arith, short)) in
    let Early : ℕ → List ℕ → Type 0 = λ bound. IsEarlier keys scope bound in
    let blocks : AllByRecursion (Early archive) (contents_in listed) =
    each_to (λ (content : List ℕ). length content ≡ 512) (Early archive) (contents_in listed) (λ content size. inl (omega (arith, size))) items.sizes in
    let front : AllByRecursion (Early archive) (before ++ contents_in listed) = all_both (Early archive) before (contents_in listed) earlier blocks in
    let new : IsAmong (before ++ contents_in listed) piece → ⊥ =
    λ among. not_earlier keys scope archive piece apart reads (among_all (Early archive) (before ++ contents_in listed) piece front among) piece_is in
    let own : IsEarlier keys scope (suc archive) piece = inr (archive, (omega arith, (reads, piece_is))) in
    let all : before ++ contents_in added ≡ ((before ++ contents_in listed) ++ piece ∷ []) ++ text ∷ [] =
    ap (λ (l : List (List ℕ)). before ++ l) (ap contents_in added_is ∙ (contents_append (listed ++ last) end
    ∙ ap (λ (l : List (List ℕ)). l ++ text ∷ []) (contents_append listed last ∙ ap (λ (l : List (List ℕ)). contents_in listed ++ l) one)))
    ∙ (sym (append_assoc before (contents_in listed ++ piece ∷ []) (text ∷ []))
    ∙ ap (λ (l : List (List ℕ)). l ++ text ∷ []) (sym (append_assoc before (contents_in listed) (piece ∷ [])))) in
    record {
      count = subst (λ (l : List Addition). put_count Stream l ≡ 1) (sym added_is)
          (omega (
            arith,
            count_append Stream (listed ++ last) end,
            count_append Stream listed last,
            none_counted listed items.are,
            one_counted (before ++ contents_in listed) piece last last_is.1 one parts.1 new,
            record_counted text put,
          ));
      earlier = subst (AllByRecursion (Early (suc archive))) (sym all)
          (all_both (Early (suc archive)) ((before ++ contents_in listed) ++ piece ∷ []) (text ∷ [])
          (all_both (Early (suc archive)) (before ++ contents_in listed) (piece ∷ [])
          (each_to (Early archive) (Early (suc archive)) (before ++ contents_in listed) (λ content. earlier_on keys scope archive content) front) (own, tt))
          (inl text_short_is, tt));
    }

-- the same of what is listed of it
archive_puts : (source : Files) (repo : RepoState) (keys : Keys) (scope : List (List ℕ)) (archive : ℕ) (before : List (List ℕ)) (one : TaggedRecord)
    (added : List Addition) → SaysIn source repo (archive_name archive) (drill_archive archive) → archive < 64 → NoCollision keys scope
    → AllByRecursion (IsAmong scope) (contents_in added) → AllByRecursion (IsEarlier keys scope archive) before
    → ListsArchive source (drill_origin source repo) keys (archive_name archive) one added → PutsNew before added
    → PutsStream keys scope archive before added
unfolding items_from
archive_puts source repo keys scope archive before one added says less apart within earlier lists puts =
    let contents = lists.lists in
    let same : contents.whole ≡ drill_archive archive =
    one_whole source repo.log repo.keys repo.manifest.archives (archive_name archive) contents.whole (drill_archive archive) contents.source says in
    let items : ListsItems keys 512 [] (items_from archive 0 8) contents.listed contents.piece =
    subst (λ (l : List WholeItem). ListsItems keys 512 [] l contents.listed contents.piece) (items_are archive)
    (subst (λ (w : WholeArchive). ListsItems keys 512 [] w.items contents.listed contents.piece) same contents.lists) in
    let copy : IsCopyOf keys 512 (drill_items archive) (drill_archive archive).fields one.salt one.text =
    subst (λ (w : WholeArchive). IsCopyOf keys 512 w.items w.fields one.salt one.text) same lists.copy in
    let spelled : AllByRecursion (λ (whole : WholeItem). IsRead (copied_item keys 512 whole)) (items_from archive 0 8) =
    subst (AllByRecursion (λ (whole : WholeItem). IsRead (copied_item keys 512 whole))) (items_are archive) copy.spelled in
    let end : List Addition = addition Record one.text lists.put ∷ [] in
    let added_is : added ≡ (contents.listed ++ contents.last) ++ end =
    lists.added_is ∙ ap (λ (l : List Addition). l ++ end) contents.added_is in
    let front = all_front (IsAmong scope) (contents_in (contents.listed ++ contents.last)) (contents_in end)
    (subst (AllByRecursion (IsAmong scope)) (ap contents_in added_is ∙ contents_append (contents.listed ++ contents.last) end) within) in
    let listed = all_front (IsAmong scope) (contents_in contents.listed) (contents_in contents.last)
    (subst (AllByRecursion (IsAmong scope)) (contents_append contents.listed contents.last) front.0) in
    let reads : Reads keys scope archive =
    record {
      first = spelled.0;
      second = spelled.1.0;
      there = block_there keys scope archive contents.listed contents.piece listed.0 items;
      low = less;
    } in
    puts_stream keys scope archive before contents.listed contents.last added contents.piece one.text lists.put apart reads earlier items contents.last_is
    (record_short keys archive one.salt one.text copy) added_is puts

-- ---- all of them

streams_from : (source : Files) (repo : RepoState) (keys : Keys) (accepted : ManifestText) (scope before contents : List (List ℕ)) (first count : ℕ)
    (records : List TaggedRecord) (added : List Addition) → accepted.archives ≡ [] → AreBelow before first → first + count ≤ 64
    → SaysAll source repo (first + count) → NoCollision keys scope → AllByRecursion (IsAmong scope) (contents_in added)
    → AllByRecursion (IsEarlier keys scope first) contents → PutsNew contents added
    → ListsNames (drill_origin source repo) keys accepted before (names_from first count) records added → put_count Stream added ≡ count
unfolding names_from put_count
streams_from source repo keys accepted scope before contents first zero records added none below most says apart within earlier puts lists =
    ap (put_count Stream) lists.1
streams_from source repo keys accepted scope before contents first (suc count) records added none below most says apart within earlier puts lists =
    let more = lists_more source repo keys accepted before first count records added none below (omega (arith, most)) lists in
    let split = puts_split contents more.one more.rest (subst (PutsNew contents) more.added_is puts) in
    let parts = all_front (IsAmong scope) (contents_in more.one) (contents_in more.rest)
    (subst (AllByRecursion (IsAmong scope)) (ap contents_in more.added_is ∙ contents_append more.one more.rest) within) in
    let one = archive_puts source repo keys scope first contents more.tagged more.one (says first (omega arith)) (omega (arith, most)) apart parts.0 earlier
    more.lists split.0 in
    let later = streams_from source repo keys accepted scope (before ++ archive_name first ∷ []) (contents ++ contents_in more.one) (suc first) count
    more.others more.rest none (below_next before first below) (omega (arith, most)) (λ n low. says n (omega (arith, low))) apart parts.1 one.earlier split.1
    more.later in
    subst (λ (l : List Addition). put_count Stream l ≡ suc count) (sym more.added_is)
    (omega (arith, count_append Stream more.one more.rest, one.count, later))

pub streams_all : (source : Files) (repo : RepoState) (keys : Keys) (accepted : ManifestText) (scope : List (List ℕ)) (count : ℕ)
    (records : List TaggedRecord) (added : List Addition) → accepted.archives ≡ [] → count ≤ 64 → SaysAll source repo count → NoCollision keys scope
    → AllByRecursion (IsAmong scope) (contents_in added) → PutsNew [] added
    → ListsNames (drill_origin source repo) keys accepted [] (names_from 0 count) records added → put_count Stream added ≡ count
streams_all source repo keys accepted scope count records added none most says apart within puts lists =
    streams_from source repo keys accepted scope [] [] 0 count records added none (below_none 0) (omega (arith, most)) (λ n low. says n (omega (arith, low)))
    apart within tt puts lists

-- the number of a transfer that put so many
pub meta_is : (count : ℕ) (added : List Addition) (carried : Carried) → count ≤ 64 → CountsOf added carried → put_count Stream added ≡ count
    → carried.meta ≡ count
meta_is count added carried most totals counts = omega (arith, most, totals.meta, counts)
