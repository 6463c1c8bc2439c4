-- How many pieces of contents are put of an archive of the drill.
use Rattle.std.proofs.Common.{◌≡◌, ◌≤◌, ◌<◌, ◌+◌, ◌*◌, ℕ, zero, suc, Bool, List, [], ◌∷◌, ◌++◌, length, get_or, map, refl, sym, ◌∙◌, ap, subst, arith}
use Rattle.std.proofs.lemmas.List.{append-nil, append_assoc, length-append}
use Rattle.std.proofs.lemmas.List.Elements.{All-head}
use Rattle.std.specs.List.{concat}
use Rattle.ferry_blob.proofs.CallerLemmas.{length-content_id}
use Rattle.ferry_carry.specs.Copied.{copied_item, copied_stream, stream_block}
use Rattle.ferry_carry.specs.Listing.{FillsOn, ListsItems}
use Rattle.ferry_gen.specs.Archives.{drill_item, drill_items, items_front}
use Rattle.ferry_gen.specs.Content.{file_content}
use Rattle.ferry_item.specs.Writing.{item_text}
use Rattle.ferry_mac.specs.declared.keys.Keys.{Keys}
use Rattle.ferry_manifest.specs.Record.Text.{ArchiveText}
use Rattle.ferry_manifest.specs.Record.Writing.{archive_text}
use Rattle.ferry_piece.proofs.AmongLemmas.{among_front, each_to}
use Rattle.ferry_piece.proofs.PutsLemmas.{contents_append}
use Rattle.ferry_piece.specs.Gather.{IsAmong, chunk_of}
use Rattle.ferry_piece.specs.Puts.{Addition, AreOf, ArePieces, Content, Record, Stream, addition, contents_in}
use Rattle.ferry_rechunk.proofs.CutLemmas.{cut_short}
use Rattle.ferry_rechunk.specs.Cut.{cut}
use Rattle.ferry_repo.specs.Whole.{WholeItem}
use Rattle.ferry_run_drill.proofs.ApartLemmas.{AreApart, CountsFile, HasFirst, apart_more, apart_wider, block_count, blocks_size, bound_at, counts_file}
use Rattle.ferry_run_drill.proofs.BlockLemmas.{blocks_from, file_cut, lead_high}
use Rattle.ferry_run_drill.proofs.HeadLemmas.{chunks_short, high_front, item_high, item_short, record_high}
use Rattle.ferry_run_drill.proofs.NewLemmas.{Counts, PutsNew, counts_none, counts_other, counts_then, puts_split}

-- ---- items

-- so many items of an archive, from a file on
unfoldable pub items_from : ℕ → ℕ → ℕ → List WholeItem
items_from archive file zero = []
items_from archive file (suc count) = drill_item archive file ∷ items_from archive (suc file) count

pub items_are : (archive : ℕ) → drill_items archive ≡ items_from archive 0 8
unfolding items_front items_from
items_are archive = refl

-- how many blocks so many files have, from one on
unfoldable pub blocks_in : ℕ → ℕ → ℕ
blocks_in file zero = 0
blocks_in file (suc count) = block_count file + blocks_in (suc file) count

later_blocks : blocks_in 1 7 ≡ 280
unfolding blocks_in
later_blocks = refl

-- the text of an item in the target
abbrev pub text_of : Keys → ℕ → ℕ → List ℕ
text_of keys archive file = item_text (copied_item keys 512 (drill_item archive file))

-- the stream of so many items there, from a file on
abbrev pub stream_from : Keys → ℕ → ℕ → ℕ → List ℕ
stream_from keys archive file count = copied_stream keys 512 (items_from archive file count)

pub text_short : (keys : Keys) (archive file : ℕ) → file < 8 → length (text_of keys archive file) ≤ 4000
text_short keys archive file low =
    let pieces = cut 512 (file_content archive file) in
    let size : length pieces ≡ 8 * (file + 1) = ap length (file_cut archive file) ∙ blocks_size archive file 0 (8 * (file + 1)) in
    omega (
      arith,
      item_short file (map (chunk_of keys) pieces),
      chunks_short (chunk_of keys) (λ piece. length-content_id keys piece) pieces,
      size,
      low,
    )

pub stream_short : (keys : Keys) (archive file count : ℕ) → file + count ≤ 8 → length (stream_from keys archive file count) ≤ 4000 * count
unfolding items_from
stream_short keys archive file zero most = omega arith
stream_short keys archive file (suc count) most =
    omega (
      arith,
      length-append (text_of keys archive file) (stream_from keys archive (suc file) count),
      text_short keys archive file (omega (arith, most)),
      stream_short keys archive (suc file) count (omega (arith, most)),
    )

pub stream_high : (keys : Keys) (archive count : ℕ) → 128 ≤ get_or (stream_from keys archive 0 (suc count)) 0 0
unfolding items_from
stream_high keys archive count =
    high_front (text_of keys archive 0) (stream_from keys archive 1 count) (item_high (copied_item keys 512 (drill_item archive 0)))

-- ---- what is listed of an item

-- so short a stream has no full piece
fills_none : (piece text : List ℕ) (full : List Addition) (piece_now : List ℕ) → length piece + length text < stream_block → FillsOn piece text full piece_now
    → (full ≡ []) × (piece_now ≡ piece ++ text)
fills_none piece text [] piece_now low fills = (refl, fills.fed.joined)
fills_none piece text (one ∷ rest) piece_now low fills =
    let long = All-head (λ (l : List ℕ). length l ≡ stream_block) one.content (contents_in rest) fills.fed.whole in
    let first = length-append (one.content ++ concat (contents_in rest)) piece_now in
    let second = length-append one.content (concat (contents_in rest)) in
    let both = ap length fills.fed.joined in
    let all = length-append piece text in
    absurd (let no : ⊥ = omega (arith, long, first, second, both, all, low) in no)

-- What is listed of a file and of those behind it.
pub record ListsFile (keys : Keys) (archive file : ℕ) (piece : List ℕ) (wholes : List WholeItem) (listed : List Addition) (piece_now : List ℕ) : Type 0 where
  pub own : List Addition
  pub are : AreOf Content own
  pub own_is : contents_in own ≡ blocks_from archive file 0 (block_count file)
  pub rest : List Addition
  pub listed_is : listed ≡ own ++ rest
  pub later : ListsItems keys 512 (piece ++ text_of keys archive file) wholes rest piece_now

pub lists_file : (keys : Keys) (archive file : ℕ) (piece : List ℕ) (wholes : List WholeItem) (listed : List Addition) (piece_now : List ℕ)
    → length piece + length (text_of keys archive file) < stream_block → ListsItems keys 512 piece (drill_item archive file ∷ wholes) listed piece_now
    → ListsFile keys archive file piece wholes listed piece_now
lists_file keys archive file piece wholes listed piece_now low lists =
    let own = lists.0 in
    let rest = lists.1.1.1.0 in
    let own_is = lists.1.1.1.1.0 in
    let none = fills_none piece (text_of keys archive file) lists.1.0 lists.1.1.0 low lists.1.1.1.1.1.0 in
    record {
      own = own;
      are = own_is.1;
      own_is = own_is.0 ∙ file_cut archive file;
      rest = rest;
      listed_is = lists.1.1.1.1.1.1.0 ∙ ap (λ (l : List Addition). own ++ (l ++ rest)) none.0;
      later = subst (λ (l : List ℕ). ListsItems keys 512 l wholes rest piece_now) none.1 lists.1.1.1.1.1.1.1;
    }

-- ---- so many items

-- So many pieces are put of so many items from a file on, which are listed behind these contents.
record WalksItems (keys : Keys) (archive file count pieces : ℕ) (before : List (List ℕ)) (piece : List ℕ) (listed : List Addition) (piece_now : List ℕ)
    : Type 0 where
  counts : Counts pieces listed
  apart : AreApart (bound_at archive (file + count)) (before ++ contents_in listed)
  piece_is : piece_now ≡ piece ++ stream_from keys archive file count

-- a file and those behind it
walks_then : (keys : Keys) (archive file count first more : ℕ) (before : List (List ℕ)) (piece : List ℕ) (own rest listed : List Addition) (piece_now : List ℕ)
    → listed ≡ own ++ rest → CountsFile archive file first before own
    → WalksItems keys archive (suc file) count more (before ++ contents_in own) (piece ++ text_of keys archive file) rest piece_now
    → WalksItems keys archive file (suc count) (first + more) before piece listed piece_now
unfolding items_from
walks_then keys archive file count first more before piece own rest listed piece_now listed_is one later =
    let contents : (before ++ contents_in own) ++ contents_in rest ≡ before ++ contents_in listed =
    append_assoc before (contents_in own) (contents_in rest)
    ∙ ap (λ (l : List (List ℕ)). before ++ l) (sym (contents_append own rest) ∙ ap contents_in (sym listed_is)) in
    let e : suc file + count ≡ file + suc count = omega arith in
    record {
      counts = subst (Counts (first + more)) (sym listed_is) (counts_then own rest first more (first + more) one.counts later.counts refl);
      apart = subst (λ (n : ℕ). AreApart (bound_at archive n) (before ++ contents_in listed)) e
          (subst (AreApart (bound_at archive (suc file + count))) contents later.apart);
      piece_is = later.piece_is ∙ append_assoc piece (text_of keys archive file) (stream_from keys archive (suc file) count);
    }

-- files behind the first
walks_items : (keys : Keys) (archive file count : ℕ) (before : List (List ℕ)) (piece : List ℕ) (listed : List Addition) (piece_now : List ℕ)
    → archive < 64 → 1 ≤ file → file + count ≤ 8 → length piece + 4000 * count < stream_block → AreApart (bound_at archive file) before → PutsNew before listed
    → ListsItems keys 512 piece (items_from archive file count) listed piece_now
    → WalksItems keys archive file count (blocks_in file count) before piece listed piece_now
unfolding items_from blocks_in
walks_items keys archive file zero before piece listed piece_now less some most low apart puts lists =
    let same : bound_at archive file ≡ bound_at archive (file + 0) = omega arith in
    record {
      counts = subst (Counts 0) (sym lists.0) counts_none;
      apart = subst (λ (l : List Addition). AreApart (bound_at archive (file + 0)) (before ++ contents_in l)) (sym lists.0)
          (subst (AreApart (bound_at archive (file + 0))) (sym (append-nil before)) (subst (λ (n : ℕ). AreApart n before) same apart));
      piece_is = lists.1 ∙ sym (append-nil piece);
    }
walks_items keys archive file (suc count) before piece listed piece_now less some most low apart puts lists =
    let short = text_short keys archive file (omega (arith, most)) in
    let one = lists_file keys archive file piece (items_from archive (suc file) count) listed piece_now (omega (arith, short, low)) lists in
    let split = puts_split before one.own one.rest (subst (PutsNew before) one.listed_is puts) in
    let file_counts = counts_file archive file before one.own some (omega (arith, most)) less one.are one.own_is apart split.0 in
    let size = length-append piece (text_of keys archive file) in
    let e : bound_at archive (file + 1) ≡ bound_at archive (suc file) = omega arith in
    let later = walks_items keys archive (suc file) count (before ++ contents_in one.own) (piece ++ text_of keys archive file) one.rest piece_now less
    (omega arith) (omega (arith, most)) (omega (arith, low, short, size))
    (subst (λ (n : ℕ). AreApart n (before ++ contents_in one.own)) e file_counts.apart) split.1 one.later in
    walks_then keys archive file count (block_count file) (blocks_in (suc file) count) before piece one.own one.rest listed piece_now one.listed_is file_counts
    later

-- ---- an archive

-- So many pieces of the first file of an archive are put behind these contents, and then its blocks are there.
abbrev pub CountsFirst : ℕ → ℕ → List (List ℕ) → Type 0
CountsFirst archive count before = (own : List Addition) → AreOf Content own → contents_in own ≡ blocks_from archive 0 0 8 → PutsNew before own
    → CountsFile archive 0 count before own × HasFirst (before ++ contents_in own)

pub has_wider : (before more : List (List ℕ)) → HasFirst before → HasFirst (before ++ more)
has_wider before more has = each_to (IsAmong before) (IsAmong (before ++ more)) (blocks_from 0 0 0 8) (λ content is. among_front before more content is) has

-- So many pieces are put of an archive, which is added behind these contents.
pub record CountsArchive (archive count : ℕ) (before : List (List ℕ)) (added : List Addition) : Type 0 where
  pub counts : Counts count added
  pub apart : AreApart (bound_at (suc archive) 0) (before ++ contents_in added)
  pub first : HasFirst (before ++ contents_in added)

walks_archive : (keys : Keys) (archive count : ℕ) (before : List (List ℕ)) (listed : List Addition) (piece : List ℕ) → archive < 64
    → CountsFirst archive count before → PutsNew before listed → ListsItems keys 512 [] (drill_items archive) listed piece
    → WalksItems keys archive 0 8 (count + 280) before [] listed piece × HasFirst (before ++ contents_in listed)
unfolding items_from
walks_archive keys archive count before listed piece less first puts lists =
    let items : ListsItems keys 512 [] (items_from archive 0 8) listed piece =
    subst (λ (l : List WholeItem). ListsItems keys 512 [] l listed piece) (items_are archive) lists in
    let short = text_short keys archive 0 (omega arith) in
    let one = lists_file keys archive 0 [] (items_from archive 1 7) listed piece (omega (arith, short)) items in
    let split = puts_split before one.own one.rest (subst (PutsNew before) one.listed_is puts) in
    let begun = first one.own one.are one.own_is split.0 in
    let later = walks_items keys archive 1 7 (before ++ contents_in one.own) (text_of keys archive 0) one.rest piece less (omega arith) (omega arith)
    (omega (arith, short)) begun.0.apart split.1 one.later in
    let contents : (before ++ contents_in one.own) ++ contents_in one.rest ≡ before ++ contents_in listed =
    append_assoc before (contents_in one.own) (contents_in one.rest)
    ∙ ap (λ (l : List (List ℕ)). before ++ l) (sym (contents_append one.own one.rest) ∙ ap contents_in (sym one.listed_is)) in (
      subst (λ (n : ℕ). WalksItems keys archive 0 8 (count + n) before [] listed piece) later_blocks
          (walks_then keys archive 0 7 count (blocks_in 1 7) before [] one.own one.rest listed piece one.listed_is begun.0 later),
      subst HasFirst contents (has_wider (before ++ contents_in one.own) (contents_in one.rest) begun.1),
    )

pub some_bytes : (l : List ℕ) → 128 ≤ get_or l 0 0 → 1 ≤ length l
some_bytes [] high = absurd (let no : ⊥ = omega (arith, high) in no)
some_bytes (x ∷ xs) high = omega arith

-- behind the pieces of all files come the stream, which is one piece, and the record
pub counts_archive : (keys : Keys) (archive count : ℕ) (before : List (List ℕ)) (listed last added : List Addition) (piece salt text : List ℕ) (put : Bool)
    (copied : ArchiveText) → archive < 64 → CountsFirst archive count before → ListsItems keys 512 [] (drill_items archive) listed piece
    → ArePieces Stream (cut stream_block piece) last → text ≡ archive_text keys salt copied → added ≡ (listed ++ last) ++ addition Record text put ∷ []
    → PutsNew before added → CountsArchive archive (count + 280) before added
counts_archive keys archive count before listed last added piece salt text put copied less first lists last_is text_is added_is puts =
    let end : List Addition = addition Record text put ∷ [] in
    let split = puts_split before (listed ++ last) end (subst (PutsNew before) added_is puts) in
    let walked = walks_archive keys archive count before listed piece less first (puts_split before listed last split.0).0 lists in
    let piece_is : piece ≡ stream_from keys archive 0 8 = walked.0.piece_is in
    let short : length piece ≤ 32000 = (let e = ap length piece_is in omega (arith, e, stream_short keys archive 0 8 (omega arith))) in
    let high : 128 ≤ get_or piece 0 0 = subst (λ (l : List ℕ). 128 ≤ get_or l 0 0) (sym piece_is) (stream_high keys archive 7) in
    let one : contents_in last ≡ piece ∷ [] = last_is.0 ∙ cut_short stream_block piece (some_bytes piece high) (omega (arith, short)) in
    let record_is : 128 ≤ get_or text 0 0 = subst (λ (l : List ℕ). 128 ≤ get_or l 0 0) (sym text_is) (record_high keys salt copied) in
    let bound = bound_at archive 8 in
    let all : before ++ contents_in added ≡ ((before ++ contents_in listed) ++ piece ∷ []) ++ text ∷ [] =
    ap (λ (l : List (List ℕ)). before ++ l) (ap contents_in added_is ∙ (contents_append (listed ++ last) end
    ∙ ap (λ (l : List (List ℕ)). l ++ text ∷ []) (contents_append listed last ∙ ap (λ (l : List (List ℕ)). contents_in listed ++ l) one)))
    ∙ (sym (append_assoc before (contents_in listed ++ piece ∷ []) (text ∷ []))
    ∙ ap (λ (l : List (List ℕ)). l ++ text ∷ []) (sym (append_assoc before (contents_in listed) (piece ∷ [])))) in
    record {
      counts = subst (Counts (count + 280)) (sym added_is)
          (counts_then (listed ++ last) end (count + 280) 0 (count + 280)
          (counts_then listed last (count + 280) 0 (count + 280) walked.0.counts (counts_other Stream last refl last_is.1) (omega arith))
          (counts_other Record end refl (refl, tt)) (omega arith));
      apart = subst (AreApart (bound_at (suc archive) 0)) (sym all)
          (apart_more (bound_at (suc archive) 0) ((before ++ contents_in listed) ++ piece ∷ []) (text ∷ [])
          (apart_more (bound_at (suc archive) 0) (before ++ contents_in listed) (piece ∷ [])
          (apart_wider bound (bound_at (suc archive) 0) (before ++ contents_in listed) (omega arith) walked.0.apart) (lead_high piece high, tt))
          (lead_high text record_is, tt));
      first = subst HasFirst (sym all)
          (has_wider ((before ++ contents_in listed) ++ piece ∷ []) (text ∷ []) (has_wider (before ++ contents_in listed) (piece ∷ []) walked.1));
    }
