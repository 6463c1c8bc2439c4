-- Lemmas on specs/Lengths.antt, and on what a chunk is refused for before its blob is opened.
use Rattle.std.proofs.Common.{◌≡◌, ℕ, ◌<◌, List, length, take, drop, slice_index_or, get_or-take, Result, Ok, Err, IfOk, IfErr, Vec, Global, Some}
use Rattle.std.proofs.Common.{refl, sym, ap, subst, ◌∙◌, arith}
use Rattle.std.proofs.lemmas.List.{length-drop, length-take}
use Rattle.ferry_base.specs.Limits.{zero_id}
use Rattle.ferry_blob.specs.Batch.{bytes_at, id_at}
use Rattle.ferry_blob.specs.Blob.{blob_fault}
use Rattle.ferry_blob.specs.declared.fault.BlobFault.{BlobFault}
use Rattle.ferry_disk.specs.Files.{Files, segment_bytes}
use Rattle.ferry_log.specs.State.{LogState, FitsFiles, place_in}
use Rattle.ferry_log.specs.declared.place.Place.{Place}
use Rattle.ferry_log.proofs.FitsLemmas.{place_holds}
use Rattle.ferry_mac.specs.declared.keys.Keys.{Keys}
use Rattle.ferry_repo.specs.Batch.{HasBlobs}
use Rattle.ferry_repo.specs.Lengths.{AreLengths, BreaksPlace, HasLength, HaveLengths, RefusesOne}
use Rattle.ferry_repo.specs.Objects.{HoldsChunk, RefusesChunk, LosesBlob}
use Rattle.ferry_repo.proofs.BatchLemmas.{AreOpened, contents_hold}
use Rattle.ferry_repo.specs.declared.fault.RepoFault.{RepoFault}
use Rattle.ferry_repo.specs.declared.fault.RepoFault.TheVariants.{NoCommit, Damaged, Config, Key, Missing, Blob, Manifest, Archive}
use Rattle.ferry_repo.specs.declared.fault.RepoFault.TheVariants.{Item, Size, KeyFile, Other, NoKey, Device, Memory}

-- ---- refusals

-- a blob that is live isn't lost from its place
pub chunk_lost : (files : Files) (log : LogState) (keys : Keys) (id : List ℕ) (place : Place) (fault : RepoFault) → FitsFiles files log
    → place_in log id ≡ Some place → LosesBlob (segment_bytes files place.segment) place fault → RefusesChunk files log keys id fault
chunk_lost files log keys id place (Damaged segment at) fits found lost =
    let within = (place_holds files log id place fits found).1.within in
    omega (arith, within, lost)
chunk_lost files log keys id place Device fits found lost = tt
chunk_lost files log keys id place Memory fits found lost = tt
chunk_lost files log keys id place NoCommit fits found lost = lost
chunk_lost files log keys id place (Config fault) fits found lost = lost
chunk_lost files log keys id place (Key fault) fits found lost = lost
chunk_lost files log keys id place (Missing named) fits found lost = absurd lost
chunk_lost files log keys id place (Blob named fault) fits found lost = absurd lost
chunk_lost files log keys id place (Manifest fault) fits found lost = lost
chunk_lost files log keys id place (Archive named fault) fits found lost = lost
chunk_lost files log keys id place (Item named fault) fits found lost = lost
chunk_lost files log keys id place (Size named) fits found lost = lost
chunk_lost files log keys id place (KeyFile fault) fits found lost = lost
chunk_lost files log keys id place (Other a b) fits found lost = lost
chunk_lost files log keys id place NoKey fits found lost = lost

-- ---- lengths

-- what follows from two facts of an answer
pub both_ok : {T E : Type 0} (r : Result T E) (P Q R : T → Type 0) → ((x : T) → P x → Q x → R x) → IfOk r P → IfOk r Q → IfOk r R
both_ok (Ok x) P Q R f p q = f x p q
both_ok (Err e) P Q R f p q = tt

module _ (files : Files) (log : LogState) (keys : Keys) (ids : List (List ℕ)) (before after : List (Vec ℕ Global))
    (answers : List (Result (Unit {0}) BlobFault)) (opened : AreOpened keys ids before answers after) (size : length after ≡ length before)
    (has : HasBlobs files log ids before) where
  -- the lengths of what was opened are those of the contents of the chunks
  pub lengths_hold : (sizes : List ℕ) → length sizes ≡ length after → AreLengths answers after sizes → HaveLengths files log keys ids sizes
  lengths_hold sizes count are = λ k low.
      let at = are k low in
      record {
        content = drop 43 (bytes_at after k);
        holds = contents_hold files log keys ids before after answers opened size has k (omega (arith, low, count)) at.0;
        size_is = at.1 ∙ sym (length-drop 43 (bytes_at after k));
      }

  -- the first blob that isn't opened is that of the first chunk that is refused
  pub breaks_one : (fault : RepoFault) → length ids ≡ length before → BreaksPlace ids answers (length after) fault
      → RefusesOne files log keys ids fault
  breaks_one fault each b =
      let k = b.place in
      let here : k < length before = omega (arith, b.low, size) in
      let at = has k here in
      let breaks = subst (λ (r : Result (Unit {0}) BlobFault). IfErr r (λ f. blob_fault keys (id_at ids k) (bytes_at before k) ≡ Some f)) b.answer
      (opened k here).fault in
      record {
        place = k;
        low = omega (arith, here, each);
        before = λ j low. (
          drop 43 (bytes_at after j),
          contents_hold files log keys ids before after answers opened size has j (omega (arith, low, b.low)) (b.before j low),
        );
        refused = subst (λ (f : RepoFault). RefusesChunk files log keys (id_at ids k) f) (sym b.fault_is)
            (at.chunk, refl, record { blob = bytes_at before k; has = at.has; breaks = breaks });
      }

-- ---- the front of some ids

-- lengths of the first chunks are those of the chunks in these places
pub front_lengths : (files : Files) (log : LogState) (keys : Keys) (ids front : List (List ℕ)) (n : ℕ) (sizes : List ℕ) → front ≡ take n ids
    → length sizes ≡ n → HaveLengths files log keys front sizes → HaveLengths files log keys ids sizes
front_lengths files log keys ids front n sizes is count have = λ k low.
    let same : slice_index_or front k zero_id ≡ slice_index_or ids k zero_id =
    ap (λ (l : List (List ℕ)). slice_index_or l k zero_id) is ∙ get_or-take n ids k zero_id (omega (arith, low, count)) in
    subst (λ (id : List ℕ). HasLength files log keys id (slice_index_or sizes k 0)) same (have k low)

-- the first of the first chunks that is refused is the first of all
pub front_refused : (files : Files) (log : LogState) (keys : Keys) (ids front : List (List ℕ)) (n : ℕ) (fault : RepoFault) → front ≡ take n ids
    → RefusesOne files log keys front fault → RefusesOne files log keys ids fault
front_refused files log keys ids front n fault is refuses =
    let r = subst (λ (l : List (List ℕ)). RefusesOne files log keys l fault) is refuses in
    let within : r.place < n = omega (arith, r.low, length-take n ids) in
    record {
      place = r.place;
      low = omega (arith, r.low, length-take n ids);
      before = λ k low.
          subst (λ (id : List ℕ). (content : List ℕ) × HoldsChunk files log keys id content)
          (get_or-take n ids k zero_id (omega (arith, low, within))) (r.before k low);
      refused = subst (λ (id : List ℕ). RefusesChunk files log keys id fault) (get_or-take n ids r.place zero_id within) r.refused;
    }

-- the first chunk is refused
pub first_refused : (files : Files) (log : LogState) (keys : Keys) (ids : List (List ℕ)) (fault : RepoFault) → 0 < length ids
    → RefusesChunk files log keys (id_at ids 0) fault → RefusesOne files log keys ids fault
first_refused files log keys ids fault some refused =
    record { place = 0; low = some; before = λ k low. absurd (let none : ⊥ = omega (arith, low) in none); refused = refused }
