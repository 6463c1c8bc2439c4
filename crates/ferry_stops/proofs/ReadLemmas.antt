-- Lemmas on specs/Chance.antt: each entry that reads in what a stop leaves by no chance stands at its place in all that the segment had.
use Rattle.std.proofs.Common.{◌≡◌, ◌⊎◌, inl, inr, ℕ, ◌+◌, ◌<◌, ◌≤◌, List, [], ◌∷◌, ◌++◌, length, take, drop, refl, sym, ◌∙◌, ap, subst}
use Rattle.std.proofs.Common.{arith}
use Rattle.std.specs.List.{AllByRecursion}
use Rattle.std.proofs.lemmas.Bool.{cases_lt}
use Rattle.std.proofs.lemmas.List.{append-nil, append_assoc, length-drop, drop-drop, take-append-le, drop-append-le, take-append-drop}
use Rattle.std.proofs.Math.Seq.{take-append_seam, drop-append_seam}
use Rattle.ferry_disk.specs.Image.{Fate, Continues}
use Rattle.ferry_segment.specs.Entry.{LogEntry, Fits, spelling, size_of}
use Rattle.ferry_segment.specs.Segment.{spellings}
use Rattle.ferry_segment.proofs.EntryLemmas.{length-spelling}
use Rattle.ferry_segment.proofs.SegmentLemmas.{spellings_more}
use Rattle.ferry_stops.specs.Chance.{place_behind, ReadsThen, stable_bytes, all_bytes, IsByNoChance}

-- ---- lists

-- what lies within a front is the same whatever follows
within_front : (n m : ℕ) (front rest : List ℕ) → m + n ≤ length front → take n (drop m (front ++ rest)) ≡ take n (drop m front)
within_front n m front rest h =
    ap (take n) (drop-append-le m front rest (omega (arith, h)))
    ∙ take-append-le n (drop m front) rest (omega (arith, h, length-drop m front))

-- ---- the place of an entry

behind_is : (bytes : List ℕ) (done : List LogEntry) (rest : List ℕ) → drop 8 bytes ≡ spellings done ++ rest → drop (place_behind done) bytes ≡ rest
behind_is bytes done rest e =
    sym (drop-drop (length (spellings done)) 8 bytes) ∙ (ap (drop (length (spellings done))) e ∙ drop-append_seam (spellings done) rest)

entry_taken : (entry : LogEntry) (rest : List ℕ) → take (size_of entry) (spelling entry ++ rest) ≡ spelling entry
entry_taken entry rest = subst (λ (n : ℕ). take n (spelling entry ++ rest) ≡ spelling entry) (length-spelling entry) (take-append_seam (spelling entry) rest)

-- the bytes at the place of an entry that reads are its spelling
pub taken_there : (bytes : List ℕ) (done : List LogEntry) (entry : LogEntry) → ReadsThen bytes done entry
    → take (size_of entry) (drop (place_behind done) bytes) ≡ spelling entry
taken_there bytes done entry reads =
    ap (take (size_of entry)) (behind_is bytes done (spelling entry ++ reads.rest) reads.spelled) ∙ entry_taken entry reads.rest

-- It stands there in all that the segment had, too: among the stable bytes, or by no chance.
appended_by : (fate : Fate) (bytes rest : List ℕ) → all_bytes fate ≡ stable_bytes fate ++ rest → Continues fate bytes → IsByNoChance fate bytes
    → (done : List LogEntry) (entry : LogEntry) → ReadsThen bytes done entry
    → (length (stable_bytes fate) < place_behind done + size_of entry) ⊎ (place_behind done + size_of entry ≤ length (stable_bytes fate))
    → take (size_of entry) (drop (place_behind done) (all_bytes fate)) ≡ spelling entry
appended_by fate bytes rest begins continues chance done entry reads (inl outside) = chance done entry reads outside
appended_by fate bytes rest begins continues chance done entry reads (inr inside) =
    let n = size_of entry in
    let m = place_behind done in
    let stable = stable_bytes fate in
    ap (λ (l : List ℕ). take n (drop m l)) begins
    ∙ (within_front n m stable rest inside
    ∙ (sym (within_front n m stable continues.tail inside)
    ∙ (sym (ap (λ (l : List ℕ). take n (drop m l)) continues.stable_first) ∙ taken_there bytes done entry reads)))

pub appended_there : (fate : Fate) (bytes rest : List ℕ) → all_bytes fate ≡ stable_bytes fate ++ rest → Continues fate bytes → IsByNoChance fate bytes
    → (done : List LogEntry) (entry : LogEntry) → ReadsThen bytes done entry
    → take (size_of entry) (drop (place_behind done) (all_bytes fate)) ≡ spelling entry
appended_there fate bytes rest begins continues chance done entry reads =
    appended_by fate bytes rest begins continues chance done entry reads (cases_lt (length (stable_bytes fate)) (place_behind done + size_of entry))

-- ---- entries one after another

-- of entries that read, the one behind the first ones reads behind them
reads_front : (bytes : List ℕ) (done : List LogEntry) (next : LogEntry) (todo : List LogEntry) (entry : LogEntry)
    → AllByRecursion Fits done → ReadsThen bytes (done ++ (next ∷ todo)) entry → ReadsThen bytes done next
reads_front bytes done next todo entry fit reads = record {
  rest = spellings todo ++ (spelling entry ++ reads.rest);
  before_fit = fit;
  fits = fits_there done next todo reads.before_fit;
  spelled = reads.spelled ∙ (ap (λ (l : List ℕ). l ++ (spelling entry ++ reads.rest)) (spellings_split done next todo)
      ∙ (append_assoc (spellings done) (spelling next ++ spellings todo) (spelling entry ++ reads.rest)
      ∙ ap (λ (l : List ℕ). spellings done ++ l) (append_assoc (spelling next) (spellings todo) (spelling entry ++ reads.rest))));
} where
  fits_there : (done : List LogEntry) (next : LogEntry) (todo : List LogEntry) → AllByRecursion Fits (done ++ (next ∷ todo)) → Fits next
  fits_there [] next todo fit = fit.0
  fits_there (d ∷ done) next todo fit = fits_there done next todo fit.1

  spellings_split : (done : List LogEntry) (next : LogEntry) (todo : List LogEntry)
      → spellings (done ++ (next ∷ todo)) ≡ spellings done ++ (spelling next ++ spellings todo)
  spellings_split [] next todo = refl
  spellings_split (d ∷ done) next todo =
      ap (λ (l : List ℕ). spelling d ++ l) (spellings_split done next todo) ∙ sym (append_assoc (spelling d) (spellings done) (spelling next ++ spellings todo))

-- the entries so far read in all that the segment had, and so do those to come
stands_on : (fate : Fate) (bytes rest : List ℕ) → all_bytes fate ≡ stable_bytes fate ++ rest → Continues fate bytes → IsByNoChance fate bytes
    → (done todo : List LogEntry) (entry : LogEntry) → AllByRecursion Fits done → ReadsThen bytes (done ++ todo) entry → (left : List ℕ)
    → drop 8 (all_bytes fate) ≡ spellings done ++ left → (more : List ℕ) × (drop 8 (all_bytes fate) ≡ spellings (done ++ todo) ++ (spelling entry ++ more))
stands_on fate bytes rest begins continues chance done [] entry fit reads left stands =
    let here = subst (λ (es : List LogEntry). ReadsThen bytes es entry) (append-nil done) reads in
    let taken : take (size_of entry) left ≡ spelling entry =
    sym (ap (take (size_of entry)) (behind_is (all_bytes fate) done left stands)) ∙ appended_there fate bytes rest begins continues chance done entry here in (
      drop (size_of entry) left,
      stands ∙ (ap (λ (l : List ℕ). spellings done ++ l)
          (sym (take-append-drop (size_of entry) left) ∙ ap (λ (l : List ℕ). l ++ drop (size_of entry) left) taken)
          ∙ ap (λ (es : List LogEntry). spellings es ++ (spelling entry ++ drop (size_of entry) left)) (sym (append-nil done))),
    )
stands_on fate bytes rest begins continues chance done (next ∷ todo) entry fit reads left stands =
    let here = reads_front bytes done next todo entry fit reads in
    let taken : take (size_of next) left ≡ spelling next =
    sym (ap (take (size_of next)) (behind_is (all_bytes fate) done left stands)) ∙ appended_there fate bytes rest begins continues chance done next here in
    let left_is : left ≡ spelling next ++ drop (size_of next) left =
    sym (take-append-drop (size_of next) left) ∙ ap (λ (l : List ℕ). l ++ drop (size_of next) left) taken in
    let goes_on : drop 8 (all_bytes fate) ≡ spellings (done ++ (next ∷ [])) ++ drop (size_of next) left =
    stands ∙ (ap (λ (l : List ℕ). spellings done ++ l) left_is ∙ (sym (append_assoc (spellings done) (spelling next) (drop (size_of next) left))
    ∙ ap (λ (l : List ℕ). l ++ drop (size_of next) left) (sym (spellings_more done next)))) in
    let more = stands_on fate bytes rest begins continues chance (done ++ (next ∷ [])) todo entry (all_more done next fit here.fits)
    (subst (λ (es : List LogEntry). ReadsThen bytes es entry) (sym (append_assoc done (next ∷ []) todo)) reads) (drop (size_of next) left) goes_on in
    (more.0, more.1 ∙ ap (λ (es : List LogEntry). spellings es ++ (spelling entry ++ more.0)) (append_assoc done (next ∷ []) todo))
  where
    all_more : (done : List LogEntry) (next : LogEntry) → AllByRecursion Fits done → Fits next → AllByRecursion Fits (done ++ (next ∷ []))
    all_more [] next fit fits = (fits, tt)
    all_more (d ∷ done) next fit fits = (fit.0, all_more done next fit.1 fits)

-- what reads in what a stop leaves by no chance reads in all that the segment had
pub reads_in_all : (fate : Fate) (bytes rest : List ℕ) → all_bytes fate ≡ stable_bytes fate ++ rest → Continues fate bytes → IsByNoChance fate bytes
    → (before : List LogEntry) (entry : LogEntry) → ReadsThen bytes before entry → ReadsThen (all_bytes fate) before entry
reads_in_all fate bytes rest begins continues chance before entry reads =
    let more = stands_on fate bytes rest begins continues chance [] before entry tt reads (drop 8 (all_bytes fate)) refl in
    record { rest = more.0; before_fit = reads.before_fit; fits = reads.fits; spelled = more.1 }
