-- Lemmas on specs/Archives.antt: lists that grow at their end, names in their order, and the entries of archives.
use Rattle.std.proofs.Common.{◌≡◌, ◌≤◌, ◌<◌, ◌+◌, ◌-◌, ◌*◌, ◌/◌, inl, inr, ℕ, zero, suc, Bool, true, false, T, not, ◌&&◌, List, [], ◌∷◌, ◌++◌, length, map}
use Rattle.std.proofs.Common.{Some, None, slice_get, refl, sym, ◌∙◌, ap, subst, arith, eq-zero-or-pos}
use Rattle.std.proofs.lemmas.List.{append-nil, append_assoc, length-append}
use Rattle.std.proofs.lemmas.Option.{slice_get_within}
use Rattle.std.proofs.lemmas.Slice.Eq.{bytes_eq-Decides}
use Rattle.std.specs.List.{AllByRecursion, filter}
use Rattle.std.specs.Str.{bytes_eq}
use lib.Ieee.Fits.{and_l, and_r}
use Rattle.ferry_blob.specs.Blob.{content_id}
use Rattle.ferry_carry.specs.Copied.{HasFewPieces, adds_of, contents_of, copied_item, copied_stream, pieces_of}
use Rattle.ferry_item.specs.Writing.{item_text}
use Rattle.ferry_item.specs.declared.item.ChunkRef.{ChunkRef}
use Rattle.ferry_mac.specs.declared.keys.Keys.{Keys}
use Rattle.ferry_manifest.specs.declared.manifest.ArchiveRef.{ArchiveRef}
use Rattle.ferry_next.proofs.OrderLemmas.{apart, less}
use Rattle.ferry_next.specs.Next.{is_below, with_archive}
use Rattle.ferry_piece.specs.Gather.{chunks_of}
use Rattle.ferry_rechunk.proofs.CutLemmas.{cut_count}
use Rattle.ferry_rechunk.specs.Cut.{cut}
use Rattle.ferry_repo.specs.Archives.{archive_named}
use Rattle.ferry_repo.specs.Whole.{WholeItem}
use Rattle.ferry_gen.specs.Archives.{AreRecordsOf, IsRecordOf, contents_from, drill_item, drill_items, entries_from, entry_of, items_front}
use Rattle.ferry_gen.specs.Content.{archive_name, file_byte, file_content, file_front, file_size}
use Rattle.ferry_gen.specs.Source.{source_block}
use Rattle.ferry_write.proofs.StandLemmas.{all-append}

-- ---- items

-- the stream of one item more
pub stream_more : (keys : Keys) (block : ℕ) (wholes : List WholeItem) (whole : WholeItem)
    → copied_stream keys block (wholes ++ whole ∷ []) ≡ copied_stream keys block wholes ++ item_text (copied_item keys block whole)
stream_more keys block [] whole = append-nil (item_text (copied_item keys block whole))
stream_more keys block (w ∷ ws) whole =
    ap (λ (bytes : List ℕ). item_text (copied_item keys block w) ++ bytes) (stream_more keys block ws whole)
    ∙ sym (append_assoc (item_text (copied_item keys block w)) (copied_stream keys block ws) (item_text (copied_item keys block whole)))

-- and the contents
pub contents_more : (block : ℕ) (wholes : List WholeItem) (whole : WholeItem)
    → contents_of block (wholes ++ whole ∷ []) ≡ contents_of block wholes ++ pieces_of block whole.content
contents_more block [] whole = append-nil (pieces_of block whole.content)
contents_more block (w ∷ ws) whole =
    ap (λ (contents : List (List ℕ)). pieces_of block w.content ++ contents) (contents_more block ws whole)
    ∙ sym (append_assoc (pieces_of block w.content) (contents_of block ws) (pieces_of block whole.content))

-- the chunks of pieces have their ids
pub ids_of : (keys : Keys) (pieces : List (List ℕ)) → map (λ (chunk : ChunkRef). chunk.id) (chunks_of keys pieces) ≡ map (content_id keys) pieces
ids_of keys [] = refl
ids_of keys (p ∷ ps) = ap (λ (ids : List (List ℕ)). content_id keys p ∷ ids) (ids_of keys ps)

-- the first files, and one more
pub items_none : (archive : ℕ) → items_front archive 0 ≡ []
unfolding items_front
items_none archive = refl

pub items_more : (archive count next : ℕ) → next ≡ count + 1 → items_front archive next ≡ items_front archive count ++ drill_item archive count ∷ []
unfolding items_front
items_more archive count zero is = absurd (let no : ⊥ = omega (arith, is) in no)
items_more archive count (suc n) is =
    let same : n ≡ count = omega (arith, is) in
    ap (λ (m : ℕ). items_front archive m ++ drill_item archive m ∷ []) same

-- as many bytes as told
front_size : (archive file count : ℕ) → length (file_front archive file count) ≡ count
unfolding file_front
front_size archive file zero = refl
front_size archive file (suc count) =
    omega (arith, length-append (file_front archive file count) (file_byte archive file count ∷ []), front_size archive file count)

-- a file is cut into few pieces
file_few : (archive file : ℕ) → file < 8 → HasFewPieces source_block (drill_item archive file)
file_few archive file most =
    let content = file_content archive file in
    let size : length content ≡ 4096 * (file + 1) = front_size archive file (file_size file) in
    let few : (length content + 1023) / 1024 ≤ 33 = omega (arith, size, most) in
    let count : length (cut source_block content) ≡ (length content + 1023) / 1024 = cut_count source_block content in
    omega (arith, few, count)

front_few : (archive count : ℕ) → count ≤ 8 → AllByRecursion (HasFewPieces source_block) (items_front archive count)
unfolding items_front
front_few archive zero most = tt
front_few archive (suc count) most =
    all-append (HasFewPieces source_block) (items_front archive count) (drill_item archive count ∷ []) (front_few archive count (omega (arith, most)))
    (file_few archive count (omega (arith, most)), tt)

-- and so is each of an archive
pub drill_few : (archive : ℕ) → AllByRecursion (HasFewPieces source_block) (drill_items archive)
drill_few archive = front_few archive 8 (omega arith)

-- ---- archives

-- the contents of none
pub contents_none : (keys : Keys) (block : ℕ) → contents_from keys block 0 [] ≡ []
unfolding contents_from
contents_none keys block = refl

-- the contents of one archive more
pub contents_then : (keys : Keys) (block archive : ℕ) (texts : List (List ℕ)) (text : List ℕ)
    → contents_from keys block archive (texts ++ text ∷ [])
    ≡ contents_from keys block archive texts ++ adds_of keys block (drill_items (archive + length texts)) text
unfolding contents_from
contents_then keys block archive [] text =
    append-nil (adds_of keys block (drill_items archive) text)
    ∙ ap (λ (n : ℕ). adds_of keys block (drill_items n) text) (let e : archive ≡ archive + 0 = omega arith in e)
contents_then keys block archive (t ∷ ts) text =
    let first = adds_of keys block (drill_items archive) t in
    let e : suc archive + length ts ≡ archive + suc (length ts) = omega arith in
    ap (λ (contents : List (List ℕ)). first ++ contents) (contents_then keys block (suc archive) ts text)
    ∙ (sym (append_assoc first (contents_from keys block (suc archive) ts) (adds_of keys block (drill_items (suc archive + length ts)) text))
    ∙ ap (λ (n : ℕ). (first ++ contents_from keys block (suc archive) ts) ++ adds_of keys block (drill_items n) text) e)

-- and its record
pub records_then : (keys : Keys) (block archive : ℕ) (texts : List (List ℕ)) (text : List ℕ) → AreRecordsOf keys block archive texts
    → IsRecordOf keys block (archive + length texts) text → AreRecordsOf keys block archive (texts ++ text ∷ [])
records_then keys block archive [] text records one =
    let e : archive + 0 ≡ archive = omega arith in (subst (λ (n : ℕ). IsRecordOf keys block n text) e one, tt)
records_then keys block archive (t ∷ ts) text records one =
    let e : archive + suc (length ts) ≡ suc archive + length ts = omega arith in
    (records.0, records_then keys block (suc archive) ts text records.1 (subst (λ (n : ℕ). IsRecordOf keys block n text) e one))

-- and its entry
pub entries_then : (keys : Keys) (archive : ℕ) (texts : List (List ℕ)) (text : List ℕ)
    → entries_from keys archive (texts ++ text ∷ []) ≡ entries_from keys archive texts ++ entry_of keys (archive + length texts) text ∷ []
unfolding entries_from
entries_then keys archive [] text =
    ap (λ (n : ℕ). entry_of keys n text ∷ []) (let e : archive ≡ archive + 0 = omega arith in e)
entries_then keys archive (t ∷ ts) text =
    let e : suc archive + length ts ≡ archive + suc (length ts) = omega arith in
    ap (λ (entries : List ArchiveRef). entry_of keys archive t ∷ entries) (entries_then keys (suc archive) ts text)
    ∙ ap (λ (n : ℕ). entry_of keys archive t ∷ (entries_from keys (suc archive) ts ++ entry_of keys n text ∷ [])) e

-- ---- names

-- whether all numbers below one pass a test
abbrev all_below : (ℕ → Bool) → ℕ → Bool
all_below test zero = true
all_below test (suc n) = test n && all_below test n

every_below : (test : ℕ → Bool) (n : ℕ) → T (all_below test n) → (i : ℕ) → i < n → T (test i)
every_below test zero all i low = absurd (omega arith)
every_below test (suc n) all i low =
    elim (eq-zero-or-pos (n - i)) [
      | inl z ↦ let e : n ≡ i = omega arith in subst (λ x. T (test x)) e (and_l _ _ all)
      | inr g ↦ every_below test n (and_r (test n) _ all) i (omega arith)
    ]

-- whether a name comes before another, and not behind it
abbrev comes_before : ℕ → ℕ → Bool
comes_before high low = is_below (archive_name low) (archive_name high) && not (is_below (archive_name high) (archive_name low))

all_in_order : T (all_below (λ high. all_below (comes_before high) high) 64)
all_in_order = tt

-- a lower archive has a lower name
names_order : (low high : ℕ) → low < high → high < 64 → T (comes_before high low)
names_order low high less_than most =
    every_below (comes_before high) high (every_below (λ h. all_below (comes_before h) h) 64 all_in_order high most) low less_than

is_so : (b : Bool) → T b → b ≡ true
is_so true t = refl
is_so false t = absurd t

is_not_so : (b : Bool) → T (not b) → b ≡ false
is_not_so true t = absurd t
is_not_so false t = refl

pub name_below : (low high : ℕ) → low < high → high < 64 → is_below (archive_name low) (archive_name high) ≡ true
name_below low high less_than most = is_so (is_below (archive_name low) (archive_name high)) (and_l _ _ (names_order low high less_than most))

pub name_above : (low high : ℕ) → low < high → high < 64 → is_below (archive_name high) (archive_name low) ≡ false
name_above low high less_than most =
    is_not_so (is_below (archive_name high) (archive_name low)) (and_r (is_below (archive_name low) (archive_name high)) _ (names_order low high less_than
    most))

-- and another one
pub name_apart : (low high : ℕ) → low < high → high < 64 → bytes_eq (archive_name low) (archive_name high) ≡ false
name_apart low high less_than most =
    apart (archive_name low) (archive_name high) (less (archive_name low) (archive_name high) (name_below low high less_than most))

-- ---- entries

-- none of none
pub entries_none : (keys : Keys) → entries_from keys 0 [] ≡ []
unfolding entries_from
entries_none keys = refl

-- all archives from one on are below a later one
pub entries_below : (keys : Keys) (first last : ℕ) (texts : List (List ℕ)) → first + length texts ≤ last → last < 64
    → filter (λ (a : ArchiveRef). is_below a.name (archive_name last)) (entries_from keys first texts) ≡ entries_from keys first texts
unfolding entries_from
entries_below keys first last [] fits most = refl
entries_below keys first last (t ∷ ts) fits most =
    let here : is_below (archive_name first) (archive_name last) ≡ true = name_below first last (omega (arith, fits)) most in
    rw here (ap (λ (l : List ArchiveRef). entry_of keys first t ∷ l) (entries_below keys (suc first) last ts (omega (arith, fits)) most))

-- and none is above it
pub entries_above : (keys : Keys) (first last : ℕ) (texts : List (List ℕ)) → first + length texts ≤ last → last < 64
    → filter (λ (a : ArchiveRef). is_below (archive_name last) a.name) (entries_from keys first texts) ≡ []
unfolding entries_from
entries_above keys first last [] fits most = refl
entries_above keys first last (t ∷ ts) fits most =
    let here : is_below (archive_name last) (archive_name first) ≡ false = name_above first last (omega (arith, fits)) most in
    rw here (entries_above keys (suc first) last ts (omega (arith, fits)) most)

-- with the next archive they are those of one more
pub entries_with : (keys : Keys) (archive : ℕ) (texts : List (List ℕ)) (text : List ℕ) → length texts ≡ archive → archive < 64
    → with_archive (entries_from keys 0 texts) (entry_of keys archive text) ≡ entries_from keys 0 (texts ++ text ∷ [])
unfolding with_archive
entries_with keys archive texts text size most =
    let one = entry_of keys archive text in
    let fits : 0 + length texts ≤ archive = omega (arith, size) in
    ap (λ (l : List ArchiveRef). l ++ (one ∷ filter (λ (a : ArchiveRef). is_below (archive_name archive) a.name) (entries_from keys 0 texts)))
    (entries_below keys 0 archive texts fits most)
    ∙ (ap (λ (l : List ArchiveRef). entries_from keys 0 texts ++ (one ∷ l)) (entries_above keys 0 archive texts fits most)
    ∙ (ap (λ (n : ℕ). entries_from keys 0 texts ++ entry_of keys n text ∷ []) (let e : archive ≡ 0 + length texts = omega (arith, size) in e)
    ∙ sym (entries_then keys 0 texts text)))

-- a later archive isn't among them
pub entry_none : (keys : Keys) (first last : ℕ) (texts : List (List ℕ)) → first + length texts ≤ last → last < 64
    → archive_named (archive_name last) (entries_from keys first texts) ≡ None
unfolding entries_from archive_named
entry_none keys first last [] fits most = refl
entry_none keys first last (t ∷ ts) fits most =
    let here : bytes_eq (archive_name first) (archive_name last) ≡ false = name_apart first last (omega (arith, fits)) most in
    rw here (entry_none keys (suc first) last ts (omega (arith, fits)) most)

-- each of them is named
pub entry_at : (keys : Keys) (first place : ℕ) (texts : List (List ℕ)) (text : List ℕ) → first + length texts ≤ 64 → slice_get texts place ≡ Some text
    → archive_named (archive_name (first + place)) (entries_from keys first texts) ≡ Some (entry_of keys (first + place) text)
unfolding entries_from archive_named
entry_at keys first place [] text most at = absurd (let no : ⊥ = cc in no)
entry_at keys first zero (t ∷ ts) text most at =
    let e : first + 0 ≡ first = omega arith in
    let same : t ≡ text = cc in
    let here : bytes_eq (archive_name first) (archive_name (first + 0)) ≡ true = (bytes_eq-Decides (archive_name first) (archive_name (first + 0))).1 (ap
    archive_name (sym e)) in
    rw here (ap (λ (t0 : List ℕ). Some (entry_of keys first t0)) same ∙ ap (λ (n : ℕ). Some (entry_of keys n text)) (sym e))
entry_at keys first (suc place) (t ∷ ts) text most at =
    let size = slice_get_within ts place text at in
    let e : suc first + place ≡ first + suc place = omega arith in
    let here : bytes_eq (archive_name first) (archive_name (first + suc place)) ≡ false =
    name_apart first (first + suc place) (omega arith) (omega (arith, most, size)) in
    rw here (subst (λ (n : ℕ). archive_named (archive_name n) (entries_from keys (suc first) ts) ≡ Some (entry_of keys n text)) e
    (entry_at keys (suc first) place ts text (omega (arith, most)) at))

-- ---- places

-- the element at a place of a list
pub slice_at : (texts : List (List ℕ)) (place : ℕ) → place < length texts → (text : List ℕ) × (slice_get texts place ≡ Some text)
slice_at [] place low = absurd (omega (arith, low))
slice_at (t ∷ ts) zero low = (t, refl)
slice_at (t ∷ ts) (suc place) low = slice_at ts place (omega (arith, low))
