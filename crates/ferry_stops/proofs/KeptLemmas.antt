-- Lemmas on specs/Counters.antt: a counter's file, whatever a stop leaves of it, and what is kept over runs.
use Rattle.std.proofs.Common.{◌≡◌, ◌⊎◌, inl, inr, ℕ, ◌<◌, nat_eq, true, List, [], Option, Some, None, refl, sym, ap, subst, arith}
use Rattle.std.specs.FinMap.{get}
use Rattle.std.specs.List.{list_any}
use Rattle.ferry_disk.specs.Act.{History, untouched, after_stop}
use Rattle.ferry_disk.specs.Files.{Files, segment_numbers}
use Rattle.ferry_disk.specs.Image.{PlainFate, MayStand, settled, ImageOf}
use Rattle.ferry_stops.specs.Blobs.{HasBlob, FileHasBlob, IsRow, BlobOf, AllTraced}
use Rattle.ferry_stops.specs.Chance.{IsLeft}
use Rattle.ferry_stops.specs.Counters.{IsNonce, IsAbove, IsKept, Counts, TakenBelow}
use Rattle.ferry_stops.specs.Entries.{IsOpen, ShowsSomething}
use Rattle.ferry_stops.proofs.BlobLemmas.{none_has, stop_blob}
use Rattle.ferry_disk.proofs.ChoiceLemmas.{not_there}

-- ---- a counter's file

file_left : (file left : Option (List ℕ)) → MayStand (record { read = file; perhaps = None }) left → left ≡ file
file_left file left (inl same) = same
file_left file left (inr h) = absurd (let e : ◌≡◌ {A = Option (List ℕ)} None (Some h.0) = h.1 in let no : ⊥ = cc in no)

pub counted_above : (free : ℕ) (history : History) (image : Files) → settled history.acts ≡ true → Counts free history → TakenBelow free history
    → ImageOf history image → IsAbove history image
counted_above free history image e counts taken left =
    let same : image.nonce ≡ counts.file =
    file_left counts.file image.nonce (subst (λ (f : PlainFate). MayStand f image.nonce) counts.at_rest (left.after e).nonce) in
    record {
      value = counts.value;
      nonce = subst (λ (o : Option (List ℕ)). IsNonce o counts.value) (sym same) counts.nonce;
      above = λ blob number is block. let below : number < free = taken blob number is block in omega (arith, below, counts.within);
    }

-- ---- over runs

pub stop_kept : (history : History) (image : Files) → IsKept history → AllTraced history → IsLeft history image
    → IsKept (after_stop image history.acts history)
stop_kept history image kept traced left =
    let old = kept.fresh.above image left.image_is in
    let after = after_stop image history.acts history in
    let now : IsAbove after image = record {
      value = old.value;
      nonce = old.nonce;
      above = λ blob number is block. old.above blob number (stop_blob history image blob traced left is) block;
    } in
    record {
      fresh = record {
        apart = λ a b p q. kept.fresh.apart a b (stop_blob history image a traced left p) (stop_blob history image b traced left q);
        above = λ other is. subst (λ (f : Files). IsAbove after f) (sym (is.before refl)) now;
      };
      shows = λ other is. subst (λ (f : Files). ShowsSomething f) (sym (is.image_is.before refl)) (kept.shows image left);
    }

-- ---- no segment

absent : (files : Files) (n : ℕ) → segment_numbers files ≡ [] → get files.segments n ≡ None
absent files n e = not_there files n (ap (list_any (nat_eq n)) e)

no_blob : (files : Files) (blob : List ℕ) → segment_numbers files ≡ [] → BlobOf (untouched files) blob → ⊥
no_blob files blob e b = by_place b.1 where
  by_place : FileHasBlob (get files.segments b.0) blob ⊎ ((row : List ℕ) × IsRow b.0 [] [] row × HasBlob row blob) → ⊥
  by_place (inl h) = subst (λ (o : Option (List ℕ)). FileHasBlob o blob) (absent files b.0 e) h
  by_place (inr r) = none_has blob (subst (λ (row : List ℕ). HasBlob row blob) r.1 r.2)

pub empty_kept : (files : Files) (value : ℕ) → segment_numbers files ≡ [] → IsNonce files.nonce value → IsKept (untouched files)
empty_kept files value e nonce = record {
  fresh = record {
    apart = λ a b p q. absurd (no_blob files a e p);
    above = λ image is. record {
      value = value;
      nonce = subst (λ (f : Files). IsNonce f.nonce value) (sym (is.before refl)) nonce;
      above = λ blob number p block. absurd (no_blob files blob e p);
    };
  };
  shows = λ image is. subst (λ (f : Files). ShowsSomething f) (sym (is.image_is.before refl)) (
    None,
    (
      0,
      record {
        below = refl;
        open_above = λ n h. subst (λ (o : Option (List ℕ)). IsOpen o) (sym (absent files n e)) tt;
      },
    ),
  );
}
