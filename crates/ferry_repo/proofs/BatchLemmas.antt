-- Lemmas on specs/Batch.antt: a batch that grows by one blob, and what is kept of one that was opened.
use Rattle.std.proofs.Common.{◌≡◌, ◌≢◌, ℕ, ◌+◌, ◌<◌, ◌≤◌, List, [], ◌∷◌, ◌++◌, length, take, drop, get_or, Result, Ok, Err, IsOk, is_ok, IfSome, Vec, Global}
use Rattle.std.proofs.Common.{Option, Some, Bool, true, false, refl, sym, ap, ◌∙◌, arith, below_more, length-append, append_assoc}
use Rattle.std.proofs.Math.ListN.{get_or-append}
use Rattle.std.proofs.lemmas.List.{get_or_at, get_or_push}
use Rattle.std.proofs.lemmas.Slice.Eq.{bytes_eq-Decides}
use Rattle.std.specs.List.{AllByRecursion}
use Rattle.std.specs.Str.{bytes_eq}
use Rattle.ferry_base.specs.Limits.{zero_id}
use Rattle.ferry_blob.specs.Batch.{IsOpened, answer_at, bytes_at, id_at}
use Rattle.ferry_blob.specs.declared.fault.BlobFault.{BlobFault}
use Rattle.ferry_blob.proofs.BatchLemmas.{bytes_at-read, answer_at-read}
use Rattle.ferry_blob.proofs.CallerLemmas.{length-left}
use Rattle.ferry_disk.specs.Device.{Told, told_files, heard}
use Rattle.ferry_disk.specs.Files.{Files, segment_bytes}
use Rattle.ferry_disk.proofs.DeviceLemmas.{told_same, told_then, told_with}
use Rattle.ferry_log.specs.State.{LogState, FitsFiles, place_in}
use Rattle.ferry_log.specs.declared.place.Place.{Place}
use Rattle.ferry_mac.specs.declared.keys.Keys.{Keys}
use Rattle.ferry_repo.specs.Batch.{IsBatch, HasBlobs, HasChunkBlob}
use Rattle.ferry_repo.specs.Cached.{Contents, Opened, used}
use Rattle.ferry_repo.specs.Objects.{HoldsChunk, HasBlob}
use Rattle.ferry_repo.specs.Opening.{RepoState, FitsRepo}
use Rattle.ferry_repo.proofs.CacheLemmas.{used_hold}
use Rattle.ferry_repo.proofs.ObjectLemmas.{has_blob}

-- ---- the bytes in a place

-- a blob stands in its place, whatever follows it
bytes_at-here : (front : List (Vec ℕ Global)) (blob : Vec ℕ Global) (behind : List (Vec ℕ Global))
    → bytes_at (front ++ blob ∷ behind) (length front) ≡ blob.items
bytes_at-here front blob behind =
    sym (bytes_at-read (front ++ blob ∷ behind) (length front) blob (omega (arith, length-append front (blob ∷ behind))))
    ∙ ap (λ (v : Vec ℕ Global). v.items) (get_or_at front blob behind blob (length front) refl)

-- those in front of it stand as they did
bytes_at-before : (front behind : List (Vec ℕ Global)) (k : ℕ) (d : Vec ℕ Global) → k < length front → bytes_at (front ++ behind) k ≡ bytes_at front k
bytes_at-before front behind k d low =
    sym (bytes_at-read (front ++ behind) k d (omega (arith, length-append front behind)))
    ∙ ap (λ (v : Vec ℕ Global). v.items) (get_or-append front behind d k low) ∙ bytes_at-read front k d low

-- ---- reading

-- ids that compare as different are different
pub unlike : (a b : List ℕ) (alike : Bool) → alike ≡ bytes_eq a b → alike ≡ false → a ≢ b
unlike a b alike is apart same =
    let yes : true ≡ false = sym ((bytes_eq-Decides a b).1 same) ∙ (sym is ∙ apart) in
    cc

-- a batch with one more blob
pub more_blobs : (files : Files) (log : LogState) (ids more : List (List ℕ)) (blobs after : List (Vec ℕ Global)) (id : List ℕ) (blob : Vec ℕ Global)
    → IsBatch ids blobs → more ≡ ids ++ id ∷ [] → after ≡ blobs ++ blob ∷ [] → HasBlobs files log ids blobs → HasChunkBlob files log id blob.items
    → HasBlobs files log more after
more_blobs files log ids more blobs after id blob batch ids_are blobs_are below here =
    rw (ids_are, blobs_are) (λ k low.
    below_more (λ j. HasChunkBlob files log (id_at (ids ++ id ∷ []) j) (bytes_at (blobs ++ blob ∷ []) j)) (length blobs)
    (λ j h. rw (get_or-append ids (id ∷ []) zero_id j (omega (arith, batch.each, h)), bytes_at-before blobs (blob ∷ []) j blob h) (below j h))
    (rw (get_or_push ids id zero_id (length blobs) batch.each, bytes_at-here blobs blob []) here)
    k (omega (arith, low, length-append blobs (blob ∷ []))))

pub batch_more : (ids more : List (List ℕ)) (blobs after : List (Vec ℕ Global)) (id : List ℕ) (blob : Vec ℕ Global) → IsBatch ids blobs
    → more ≡ ids ++ id ∷ [] → after ≡ blobs ++ blob ∷ [] → length blobs < 64 → IsBatch more after
batch_more ids more blobs after id blob batch ids_are blobs_are low = record {
  each = rw (ids_are, blobs_are) (omega (arith, length-append ids (id ∷ []), length-append blobs (blob ∷ []), batch.each));
  few = rw blobs_are (omega (arith, length-append blobs (blob ∷ []), low));
}

pub put_count : (blobs after : List (Vec ℕ Global)) (blob : Vec ℕ Global) (n : ℕ) → after ≡ blobs ++ blob ∷ [] → length blobs ≡ n → length after ≡ n + 1
put_count blobs after blob n are count = rw are (omega (arith, length-append blobs (blob ∷ []), count))

-- the same of the files that a device tells
pub front_more : (told later : Option Told) (log : LogState) (ids more : List (List ℕ)) (blobs after : List (Vec ℕ Global)) (id : List ℕ)
    (blob : Vec ℕ Global) → IsBatch ids blobs → heard later ≡ heard told → more ≡ ids ++ id ∷ [] → after ≡ blobs ++ blob ∷ []
    → IfSome told (λ t. HasBlobs (told_files t) log ids blobs) → IfSome told (λ t. HasChunkBlob (told_files t) log id blob.items)
    → IfSome later (λ t. HasBlobs (told_files t) log more after)
front_more told later log ids more blobs after id blob batch same ids_are blobs_are has here =
    told_same told later (λ f. HasBlobs f log more after) same
    (told_with told told (λ f. HasBlobs f log ids blobs) (λ f. HasChunkBlob f log id blob.items) (λ f. HasBlobs f log more after) refl
    (λ f below at. more_blobs f log ids more blobs after id blob batch ids_are blobs_are below at) has here)

-- the same of the files that a device tells, where the blob was read at the place of the id
pub read_more : (told : Option Told) (log : LogState) (ids more : List (List ℕ)) (blobs after : List (Vec ℕ Global)) (id : List ℕ) (blob : Vec ℕ Global)
    (place : Place) → IsBatch ids blobs → more ≡ ids ++ id ∷ [] → after ≡ blobs ++ blob ∷ [] → id ≢ zero_id → place_in log id ≡ Some place
    → IfSome told (λ t. FitsFiles (told_files t) log) → IfSome told (λ t. HasBlobs (told_files t) log ids blobs)
    → IfSome told (λ t. blob.items ≡ take place.size (drop place.at (segment_bytes (told_files t) place.segment)))
    → IfSome told (λ t. HasBlobs (told_files t) log more after)
read_more told log ids more blobs after id blob place batch ids_are blobs_are chunk found fits has read =
    told_with told told (λ f. HasBlobs f log ids blobs) (λ f. HasBlob f log id blob.items) (λ f. HasBlobs f log more after) refl
    (λ f below here. more_blobs f log ids more blobs after id blob batch ids_are blobs_are below (record { chunk = chunk; has = here })) has
    (told_with told told (λ f. FitsFiles f log) (λ f. blob.items ≡ take place.size (drop place.at (segment_bytes f place.segment)))
    (λ f. HasBlob f log id blob.items) refl (λ f fit at. has_blob f log id blob.items place fit found at) fits read)

-- ---- keeping

-- the blob that is taken from behind the others
pub popped : (all left rest behind : List (Vec ℕ Global)) (blob : Vec ℕ Global) → left ++ behind ≡ all → left ≡ rest ++ blob ∷ []
    → (rest ++ (blob ∷ behind) ≡ all) × (length rest < length all) × (bytes_at all (length rest) ≡ blob.items)
popped all left rest behind blob whole last =
    let is : rest ++ (blob ∷ behind) ≡ all = sym (append_assoc rest (blob ∷ []) behind) ∙ (ap (λ (l : List (Vec ℕ Global)). l ++ behind) (sym last) ∙ whole) in
    (is, rw (sym is) (omega (arith, length-append rest (blob ∷ behind))), rw (sym is) (bytes_at-here rest blob behind))

-- a place whose answer is `Ok`
pub opened_at : (answers : List (Result (Unit {0}) BlobFault)) (k : ℕ) (d : Result (Unit {0}) BlobFault) (ok : Bool) → k < length answers
    → ok ≡ is_ok (get_or answers k d) → ok ≡ true → IsOk (answer_at answers k)
opened_at answers k d ok low is true_is = ap is_ok (sym (answer_at-read answers k d low)) ∙ (sym is ∙ true_is)

-- what is kept holds once the content of one more opened blob was used
pub kept_opened : (files : Files) (log : LogState) (keys : Keys) (answers : List (Result (Unit {0}) BlobFault)) (ids : List (List ℕ))
    (all : List (Vec ℕ Global)) (place : ℕ) (id content : List ℕ) (before after : Opened)
    → ((k : ℕ) → k < length all → IsOk (answer_at answers k) → HoldsChunk files log keys (id_at ids k) (drop 43 (bytes_at all k)))
    → place < length all → IsOk (answer_at answers place) → id ≡ id_at ids place → content ≡ drop 43 (bytes_at all place) → after ≡ used id content before
    → AllByRecursion (λ c. HoldsChunk files log keys c.0 c.1) before → AllByRecursion (λ c. HoldsChunk files log keys c.0 c.1) after
kept_opened files log keys answers ids all place id content before after opens low ok id_is content_is made held =
    rw (made, id_is, content_is) (used_hold files log keys (id_at ids place) (drop 43 (bytes_at all place)) before (opens place low ok) held)

-- what was opened has room for each field
opened_head : (keys : Keys) (id before after : List ℕ) (answer : Result (Unit {0}) BlobFault) → IsOpened keys id before answer after → IsOk answer
    → 43 ≤ length after
opened_head keys id before after (Ok done) h ok = omega (arith, h.opened.size, length-left keys id before after (Ok done) h)
opened_head keys id before after (Err fault) h ok = absurd (let bad : ⊥ = cc in bad)

-- what was opened of a chunk's blob is the chunk's content
opened_holds : (files : Files) (log : LogState) (keys : Keys) (id before after : List ℕ) (answer : Result (Unit {0}) BlobFault)
    → IsOpened keys id before answer after → IsOk answer → HasChunkBlob files log id before → HoldsChunk files log keys id (drop 43 after)
opened_holds files log keys id before after (Ok done) h ok here =
    record { chunk = here.chunk; object = record { blob = before; has = here.has; opens = h.opened } }
opened_holds files log keys id before after (Err fault) h ok here = absurd (let bad : ⊥ = cc in bad)

-- Each blob is opened in its place.
abbrev pub AreOpened : Keys → List (List ℕ) → List (Vec ℕ Global) → List (Result (Unit {0}) BlobFault) → List (Vec ℕ Global) → Type 0
AreOpened keys ids before answers after =
    (k : ℕ) → k < length before → IsOpened keys (id_at ids k) (bytes_at before k) (answer_at answers k) (bytes_at after k)

-- each place of a batch whose answer is `Ok` has room for each field
pub heads : (keys : Keys) (ids : List (List ℕ)) (before after : List (Vec ℕ Global)) (answers : List (Result (Unit {0}) BlobFault))
    → AreOpened keys ids before answers after → length after ≡ length before
    → (k : ℕ) → k < length after → IsOk (answer_at answers k) → 43 ≤ length (bytes_at after k)
heads keys ids before after answers opened size k low ok =
    opened_head keys (id_at ids k) (bytes_at before k) (bytes_at after k) (answer_at answers k) (opened k (omega (arith, low, size))) ok

-- what stands in such a place is the content of the chunk of its id
pub contents_hold : (files : Files) (log : LogState) (keys : Keys) (ids : List (List ℕ)) (before after : List (Vec ℕ Global))
    (answers : List (Result (Unit {0}) BlobFault)) → AreOpened keys ids before answers after → length after ≡ length before
    → HasBlobs files log ids before
    → (k : ℕ) → k < length after → IsOk (answer_at answers k) → HoldsChunk files log keys (id_at ids k) (drop 43 (bytes_at after k))
contents_hold files log keys ids before after answers opened size has k low ok =
    opened_holds files log keys (id_at ids k) (bytes_at before k) (bytes_at after k) (answer_at answers k) (opened k (omega (arith, low, size))) ok
    (has k (omega (arith, low, size)))

-- ---- what fits

-- a repository fits what a later call is told, where what is kept holds whenever the blobs that were read are there
pub ahead_fits : (told later : Option Told) (repo : RepoState) (ids : List (List ℕ)) (blobs : List (Vec ℕ Global)) (before : Contents) (after : Opened)
    → heard later ≡ heard told
    → ((files : Files) (log : LogState) → HasBlobs files log ids blobs → AllByRecursion (λ c. HoldsChunk files log repo.keys c.0 c.1) before.opened
    → AllByRecursion (λ c. HoldsChunk files log repo.keys c.0 c.1) after)
    → IfSome told (λ t. FitsRepo (told_files t) repo before) → IfSome told (λ t. HasBlobs (told_files t) repo.log ids blobs)
    → IfSome later (λ t. FitsRepo (told_files t) repo (record before { opened = after }))
ahead_fits told later repo ids blobs before after same holds fits has =
    told_same told later (λ f. FitsRepo f repo (record before { opened = after })) same
    (told_with told told (λ f. FitsRepo f repo before) (λ f. HasBlobs f repo.log ids blobs) (λ f. FitsRepo f repo (record before { opened = after })) refl
    (λ f fit here. record { log = fit.log; cached = holds f repo.log here fit.cached; noted = fit.noted }) fits has)

-- it fits where some of what was kept is let go
pub room_fits : (told : Option Told) (repo : RepoState) (before : Contents) (after : Opened)
    → ((files : Files) (log : LogState) (keys : Keys) → AllByRecursion (λ c. HoldsChunk files log keys c.0 c.1) before.opened
    → AllByRecursion (λ c. HoldsChunk files log keys c.0 c.1) after)
    → IfSome told (λ t. FitsRepo (told_files t) repo before) → IfSome told (λ t. FitsRepo (told_files t) repo (record before { opened = after }))
room_fits told repo before after holds fits =
    told_then told (λ f. FitsRepo f repo before) (λ f. FitsRepo f repo (record before { opened = after }))
    (λ f fit. record { log = fit.log; cached = holds f repo.log repo.keys fit.cached; noted = fit.noted }) fits
