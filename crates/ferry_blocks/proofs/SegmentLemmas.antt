-- Lemmas on the blobs of files: over the segments one after another, what a device tells, and what reads.
use Rattle.std.proofs.Common.{◌≡◌, ℕ, suc, ◌+◌, ◌-◌, ◌<◌, ◌≤◌, max, Bool, true, false, ◌||◌, ◌⊎◌, inl, inr, List, [], ◌∷◌, ◌++◌, length, take, drop}
use Rattle.std.proofs.Common.{min, get_or, nat_eq, Result, Ok, Err, IfOk, Option, Some, None, IfSome, option_map, unwrap_or, refl, sym, ◌∙◌, ap, subst, arith}
use Rattle.std.proofs.lemmas.Bool.{cases_lt, cases_eq, ne_eqb}
use Rattle.std.proofs.lemmas.List.{append_assoc, drop_at, take_at, get_or-drop, length-append, length-take, length-drop, drop-drop, take_min}
use Rattle.std.specs.FinMap.{get}
use Rattle.std.specs.List.{list_any, AllByRecursion}
use Rattle.ferry_blob.specs.Blob.{IsBlockOf}
use Rattle.ferry_disk.specs.Act.{files_now, untouched}
use Rattle.ferry_disk.specs.Device.{Told, Heard, told_files, heard}
use Rattle.ferry_disk.specs.declared.shelf.StoreFault.{StoreFault}
use Rattle.ferry_disk.specs.Files.{Files, segment_bytes, segment_numbers}
use Rattle.ferry_disk.proofs.ChoiceLemmas.{not_there}
use Rattle.ferry_log.specs.Window.{Tells}
use Rattle.ferry_segment.specs.Entry.{LogEntry, PutEntry, Fits, spelling, size_of, stated_size}
use Rattle.ferry_segment.specs.Segment.{spellings}
use Rattle.ferry_segment.proofs.EntryLemmas.{length-spelling, size_of-least, size_of-most, spelling-size, spelling-tagged}
use Rattle.ferry_stops.specs.Blobs.{HasBlob, FileHasBlob, IsRow, BlobOf}
use Rattle.ferry_stops.proofs.BlobLemmas.{none_has}
use Rattle.ferry_stops.specs.Counters.{AreBelow}
use Rattle.ferry_blocks.specs.Blocks.{StatesSize, IsReached, StatesPut, IsStatedFrom, TakesBlocks, IsCountedIn, IsCountedBlob, IsEndOf, IsEndOfBlocks}
use Rattle.ferry_blocks.specs.Passes.{IsCountedBelow}
use Rattle.ferry_blocks.proofs.PassLemmas.{behind_wider, behind_greater, end_none}

-- ---- what a device tells

heard_files : (told : Option Told) → option_map (λ (h : Heard). files_now h.history) (heard told) ≡ option_map told_files told
heard_files None = refl
heard_files (Some told) = refl

-- a device that tells the same tells the same files
pub tells_on : (a b : Option Told) (files : Files) → heard b ≡ heard a → Tells a files → Tells b files
tells_on a b files same tells = sym (heard_files b) ∙ (ap (option_map (λ (h : Heard). files_now h.history)) same ∙ (heard_files a ∙ tells))

told_one : (files other : Files) → Some files ≡ Some other → files ≡ other
told_one files other e = cc

-- what holds of the files that are told
pub of_told : (a : Option Told) (P : Files → Type 0) (files : Files) → Tells a files → IfSome a (λ t. P (told_files t)) → P files
of_told None P files tells p = absurd (let none : ⊥ = cc in none)
of_told (Some a) P files tells p = subst P (told_one (told_files a) files tells) p

-- what holds of any files that are told
to_told : (a : Option Told) (P : Files → Type 0) → ((files : Files) → Tells a files → P files) → IfSome a (λ t. P (told_files t))
to_told None P p = tt
to_told (Some a) P p = p (told_files a) refl

-- what was read of a segment
pub part_read : (a : Option Told) (files : Files) (segment at count : ℕ) (items part : List ℕ) → Tells a files
    → IfSome a (λ t. items ≡ take count (drop at (segment_bytes (told_files t) segment))) → part ≡ items
    → part ≡ take count (drop at (segment_bytes files segment))
part_read a files segment at count items part tells read e =
    e ∙ of_told a (λ files. items ≡ take count (drop at (segment_bytes files segment))) files tells read

pub part_self : (count : ℕ) (part bytes : List ℕ) → part ≡ take count bytes → part ≡ take (length part) bytes
part_self count part bytes e =
    let sized : length part ≡ min count (length bytes) = ap length e ∙ length-take count bytes in
    e ∙ (sym (take_min count bytes) ∙ ap (λ n. take n bytes) (sym sized))

-- an end that holds of the files that are told
pub ended_told : (a : Option Told) (result : Result ℕ StoreFault) → ((files : Files) → Tells a files → IfOk result (λ end. IsEndOfBlocks files end))
    → IfOk result (λ end. IfSome a (λ t. IsEndOfBlocks (told_files t) end))
ended_told a (Ok end) ended = to_told a (λ files. IsEndOfBlocks files end) ended
ended_told a (Err fault) ended = tt

-- ---- the segments one after another

pub below_none : (files : Files) (numbers : List ℕ) → IsEndOf (IsCountedBelow files numbers 0) 0
below_none files numbers = end_none (IsCountedBelow files numbers 0) (λ blob is. let less : is.0 < 0 = is.1 in absurd (omega arith))

pub below_more : (files : Files) (numbers : List ℕ) (count a b : ℕ) → IsEndOf (IsCountedBelow files numbers count) a
    → IsEndOf (IsCountedIn files (get_or numbers count 0)) b → IsEndOf (IsCountedBelow files numbers (count + 1)) (max a b)
below_more files numbers count a b p q = record {
  above = λ blob number is block. by_place blob number is.0 is.1 is.2 block;
  reached = behind_greater (IsCountedBelow files numbers (count + 1)) a b
      (behind_wider (IsCountedBelow files numbers count) (IsCountedBelow files numbers (count + 1)) a
      (λ blob is. (is.0, (let less : is.0 < count = is.1 in omega arith), is.2)) p.reached)
      (behind_wider (IsCountedIn files (get_or numbers count 0)) (IsCountedBelow files numbers (count + 1)) b
      (λ blob is. (count, omega arith, is)) q.reached);
}
  where
    by_place : (blob : List ℕ) (number i : ℕ) → i < count + 1 → IsCountedIn files (get_or numbers i 0) blob → IsBlockOf blob number → number < max a b
    by_place blob number i less is block =
        elim (cases_lt i count) [
          | inl below ↦ omega (arith, p.above blob number (i, below, is) block)
          | inr past ↦
              let same : i ≡ count = omega arith in
              omega (arith, q.above blob number (subst (λ n. IsCountedIn files (get_or numbers n 0) blob) same is) block)
        ]

-- a number that is among others has a place there
place_of : (number : ℕ) (numbers : List ℕ) → list_any (nat_eq number) numbers ≡ true → (i : ℕ) × (i < length numbers) × (get_or numbers i 0 ≡ number)
place_of number [] e = absurd (let none : ⊥ = cc in none)
place_of number (first ∷ numbers) e =
    elim (cases_eq number first) [
      | inl same ↦ (0, omega arith, sym same)
      | inr differs ↦
          let rest = place_of number numbers (sym (ap (λ b. b || list_any (nat_eq number) numbers) (ne_eqb number first differs)) ∙ e) in
          let less : rest.0 < length numbers = rest.1 in
          (suc rest.0, omega arith, rest.2)
    ]

-- no blob is stated in a segment that isn't there
none_stated : (files : Files) (segment : ℕ) (blob : List ℕ) → get files.segments segment ≡ None → IsStatedFrom (segment_bytes files segment) 8 blob → ⊥
none_stated files segment blob absent stated =
    let put = stated.put.stated in
    let none : segment_bytes files segment ≡ [] = ap (λ o. unwrap_or o []) absent in
    omega (arith, put.least, put.within, length-drop stated.at (segment_bytes files segment), ap length none)

below_all : (files : Files) (numbers : List ℕ) (end : ℕ) → numbers ≡ segment_numbers files → IsEndOf (IsCountedBelow files numbers (length numbers)) end
    → IsEndOfBlocks files end
below_all files numbers end same p = record {
  above = λ blob number is block. p.above blob number (placed blob is (list_any (nat_eq is.0) numbers) refl) block;
  reached = behind_wider (IsCountedBelow files numbers (length numbers)) (IsCountedBlob files) end (λ blob is. (get_or numbers is.0 0, is.2)) p.reached;
}
  where
    placed : (blob : List ℕ) (is : IsCountedBlob files blob) (there : Bool) → list_any (nat_eq is.0) numbers ≡ there
        → IsCountedBelow files numbers (length numbers) blob
    placed blob is true e =
        let place = place_of is.0 numbers e in
        (place.0, place.1, subst (λ n. IsCountedIn files n blob) (sym place.2) is.1)
    placed blob is false e =
        absurd (none_stated files is.0 blob (not_there files is.0 (ap (list_any (nat_eq is.0)) (sym same) ∙ e)) is.1.0)

pub ended_all : (files : Files) (numbers : List ℕ) (result : Result ℕ StoreFault) → numbers ≡ segment_numbers files
    → IfOk result (IsEndOf (IsCountedBelow files numbers (length numbers))) → IfOk result (λ end. IsEndOfBlocks files end)
ended_all files numbers (Ok end) same p = below_all files numbers end same p
ended_all files numbers (Err fault) same p = tt

-- ---- what reads is stated

-- an entry that reads states its size
spelled_size : (bytes rest : List ℕ) (e : LogEntry) → Fits e → bytes ≡ spelling e ++ rest → StatesSize bytes (size_of e)
spelled_size bytes rest e fits is = record {
  stated = sym (spelling-size e rest fits) ∙ ap stated_size (sym is);
  least = size_of-least e;
  most = size_of-most e fits;
  within = omega (arith, ap length is, length-append (spelling e) rest, length-spelling e);
}

-- a PUT that reads states its blob
spelled_put : (bytes key blob rest : List ℕ) → Fits (PutEntry key blob) → bytes ≡ spelling (PutEntry key blob) ++ rest → StatesPut bytes blob
spelled_put bytes key blob rest fits is =
    let e = PutEntry key blob in
    let sized : size_of e ≡ 41 + length blob = omega (arith, length-append key blob, fits.0) in
    let behind : drop 8 bytes ≡ (0 ∷ key ++ blob) ++ rest = ap (drop 8) is ∙ spelling-tagged e rest in
    let parts : drop 8 bytes ≡ (0 ∷ key) ++ (blob ++ rest) = behind ∙ append_assoc (0 ∷ key) blob rest in
    let keyed : length (0 ∷ key) ≡ 33 = omega (arith, fits.0) in
    record {
      size = size_of e;
      stated = spelled_size bytes rest e fits is;
      put = sym (get_or-drop 8 bytes 0 0) ∙ ap (λ xs. get_or xs 0 0) parts;
      room = omega arith;
      blob_is =
          sym (ap (take (size_of e - 41)) (sym (drop-drop 33 8 bytes) ∙ (ap (drop 33) parts ∙ drop_at (0 ∷ key) (blob ++ rest) 33 keyed))
          ∙ take_at blob rest (size_of e - 41) (omega arith));
    }

-- entries that read one behind the other lead to the place behind them
spelled_lead : (bytes : List ℕ) (at : ℕ) (before : List LogEntry) (rest : List ℕ) → AllByRecursion Fits before → drop at bytes ≡ spellings before ++ rest
    → (place : ℕ) × IsReached bytes at place × (drop place bytes ≡ rest)
spelled_lead bytes at [] rest fit is = (at, ([], refl), is)
spelled_lead bytes at (e ∷ before) rest fit is =
    let first : drop at bytes ≡ spelling e ++ (spellings before ++ rest) = is ∙ append_assoc (spelling e) (spellings before) rest in
    let behind : drop (at + size_of e) bytes ≡ spellings before ++ rest =
    sym (drop-drop (size_of e) at bytes)
    ∙ (ap (drop (size_of e)) first ∙ drop_at (spelling e) (spellings before ++ rest) (size_of e) (length-spelling e)) in
    let lead = spelled_lead bytes (at + size_of e) before rest fit.1 behind in
    let size = spelled_size (drop at bytes) (spellings before ++ rest) e fit.0 first in
    (lead.0, (size_of e ∷ lead.1.0, (size, lead.1.1)), lead.2)

pub stated_of : (bytes blob : List ℕ) → HasBlob bytes blob → IsStatedFrom bytes 8 blob
stated_of bytes blob has =
    let entry = PutEntry has.key blob in
    let lead = spelled_lead bytes 8 has.before (spelling entry ++ has.reads.rest) has.reads.before_fit has.reads.spelled in
    record { at = lead.0; reached = lead.1; put = spelled_put (drop lead.0 bytes) has.key blob has.reads.rest has.reads.fits lead.2 }

file_has : (file : Option (List ℕ)) (blob : List ℕ) → FileHasBlob file blob → HasBlob (unwrap_or file []) blob
file_has None blob has = absurd has
file_has (Some bytes) blob has = has

-- the blobs of a file that is there
pub stated_in : (files : Files) (segment : ℕ) (blob : List ℕ) → FileHasBlob (get files.segments segment) blob → TakesBlocks blob → IsCountedBlob files blob
stated_in files segment blob has takes =
    (segment, (stated_of (segment_bytes files segment) blob (file_has (get files.segments segment) blob has), takes))

-- the blocks of these blobs are below each number that the end isn't above
pub read_below : (files : Files) (end value segment : ℕ) → IsEndOfBlocks files end → end ≤ value
    → AreBelow (λ blob. FileHasBlob (get files.segments segment) blob × TakesBlocks blob) value
read_below files end value segment is within blob number has block =
    omega (arith, is.above blob number (stated_in files segment blob has.0 has.1) block)

-- the same of what was put before a run that begins with these files
pub taken_below : (files : Files) (end value : ℕ) → IsEndOfBlocks files end → end ≤ value
    → AreBelow (λ blob. BlobOf (untouched files) blob × TakesBlocks blob) value
taken_below files end value is within blob number taken block = by_place taken.0.1
  where
    by_place : FileHasBlob (get files.segments taken.0.0) blob ⊎ ((row : List ℕ) × IsRow taken.0.0 [] [] row × HasBlob row blob) → number < value
    by_place (inl has) = read_below files end value taken.0.0 is within blob number (has, taken.1) block
    by_place (inr r) = absurd (none_has blob (subst (λ (row : List ℕ). HasBlob row blob) r.1 r.2))
