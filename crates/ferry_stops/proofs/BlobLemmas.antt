-- Lemmas on specs/Blobs.antt: what a stop leaves by no chance, and the world that follows it, have no other blobs.
use Rattle.std.proofs.Common.{◌≡◌, ◌⊎◌, inl, inr, ℕ, Bool, true, false, List, [], ◌++◌, length, Option, Some, None, unwrap_or, refl, sym}
use Rattle.std.proofs.Common.{ap, subst, arith}
use Rattle.std.specs.FinMap.{get}
use Rattle.std.proofs.lemmas.List.{append-nil, length-append}
use Rattle.ferry_disk.specs.Act.{Act, History, after_stop}
use Rattle.ferry_disk.specs.Files.{Files}
use Rattle.ferry_disk.specs.Image.{Fate, MayLeave, Continues, fate_of, fate_in, settled}
use Rattle.ferry_segment.specs.Entry.{PutEntry, spelling}
use Rattle.ferry_segment.specs.Segment.{spellings}
use Rattle.ferry_segment.proofs.EntryLemmas.{length-spelling, size_of-least}
use Rattle.ferry_stops.specs.Blobs.{HasBlob, FileHasBlob, IsRow, BlobOf, IsTraced, AllTraced}
use Rattle.ferry_stops.specs.Chance.{IsLeft, IsByNoChance, FileByNoChance, stable_bytes, all_bytes}
use Rattle.ferry_stops.proofs.ReadLemmas.{reads_in_all}

-- ---- the start of a run

pub none_has : (blob : List ℕ) → HasBlob [] blob → ⊥
none_has blob has =
    let entry = PutEntry has.key blob in
    omega (
      arith,
      ap length has.reads.spelled,
      length-append (spellings has.before) (spelling entry ++ has.reads.rest),
      length-append (spelling entry) has.reads.rest,
      length-spelling entry,
      size_of-least entry,
    )

file_has : (file : Option (List ℕ)) (blob : List ℕ) → HasBlob (unwrap_or file []) blob → FileHasBlob file blob
file_has None blob has = none_has blob has
file_has (Some bytes) blob has = has

pub begin_traced : (start : Files) (past : List Act) → AllTraced (record { start = start; past = past; acts = [] })
unfolding fate_of
begin_traced start past segment = record {
  rest = [];
  begins = sym (append-nil (unwrap_or (get start.segments segment) []));
  known = λ blob has. (segment, inl (file_has (get start.segments segment) blob has));
}

-- ---- what a stop leaves

in_all : (fate : Fate) (bytes rest blob : List ℕ) → all_bytes fate ≡ stable_bytes fate ++ rest → Continues fate bytes → IsByNoChance fate bytes
    → HasBlob bytes blob → HasBlob (all_bytes fate) blob
in_all fate bytes rest blob begins continues chance has = record {
  before = has.before;
  key = has.key;
  reads = reads_in_all fate bytes rest begins continues chance has.before (PutEntry has.key blob) has.reads;
}

left_by : (history : History) (segment : ℕ) (left : Option (List ℕ)) (blob : List ℕ) → IsTraced history segment
    → MayLeave (fate_in history segment) left → FileByNoChance (fate_in history segment) left → FileHasBlob left blob → BlobOf history blob
left_by history segment None blob traced may chance has = absurd has
left_by history segment (Some bytes) blob traced may chance has =
    traced.known blob (in_all (fate_in history segment) bytes traced.rest blob traced.begins may chance has)

image_by : (history : History) (image : Files) (segment : ℕ) (blob : List ℕ) (b : Bool) → settled history.acts ≡ b → AllTraced history → IsLeft history image
    → FileHasBlob (get image.segments segment) blob → BlobOf history blob
image_by history image segment blob false e traced left has =
    (segment, inl (subst (λ (f : Files). FileHasBlob (get f.segments segment) blob) (left.image_is.before e) has))
image_by history image segment blob true e traced left has =
    left_by history segment (get image.segments segment) blob (traced segment) ((left.image_is.after e).segments segment) (left.by_no_chance segment) has

pub image_blob : (history : History) (image : Files) (segment : ℕ) (blob : List ℕ) → AllTraced history → IsLeft history image
    → FileHasBlob (get image.segments segment) blob → BlobOf history blob
image_blob history image segment blob traced left has = image_by history image segment blob (settled history.acts) refl traced left has

-- ---- the world that follows

stop_by : (history : History) (image : Files) (blob : List ℕ) (segment : ℕ) → AllTraced history → IsLeft history image
    → FileHasBlob (get image.segments segment) blob
    ⊎ ((row : List ℕ) × IsRow segment [] ((history.past ++ history.acts) ++ []) row × HasBlob row blob)
    → BlobOf history blob
stop_by history image blob segment traced left (inl has) = image_blob history image segment blob traced left has
stop_by history image blob segment traced left (inr r) =
    (segment, inr (r.0, subst (λ (acts : List Act). IsRow segment [] acts r.0) (append-nil (history.past ++ history.acts)) r.1, r.2))

pub stop_blob : (history : History) (image : Files) (blob : List ℕ) → AllTraced history → IsLeft history image
    → BlobOf (after_stop image history.acts history) blob → BlobOf history blob
stop_blob history image blob traced left is = stop_by history image blob is.0 traced left is.1
