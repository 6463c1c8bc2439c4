-- Texts in lanes, which take others where they have ended.
use Rattle.std.proofs.Common.{◌≡◌, ◌≢◌, ℕ, zero, suc, ◌<◌, ◌+◌, ◌-◌, ◌*◌, ◌/◌, ◌^◌, ◌⊎◌, List, [], ◌∷◌, ◌++◌, length, take, drop, slice_set}
use Rattle.std.proofs.Common.{map, min, cond, get_or, eqb, ltb, slice_index, slice_index_or, refl, sym, ap, ◌∙◌, subst, arith, inl, inr}
use Rattle.std.proofs.Common.{get_or-set_same, get_or-set_other}
use Rattle.std.proofs.Common.{length-append, length-drop}
use Rattle.std.proofs.lemmas.List.{ext_get_or, length-map, length-take-le, map-append, take_min}
use Rattle.std.proofs.lemmas.Slice.{take-put_mid}
use Rattle.std.proofs.Math.Seq.{take-add}
use borrow.Rule.Slice.PartMut.{put_mid}
use Rattle.std.specs.Borrow.{Bor}
use Rattle.std.proofs.lemmas.Bool.{cases_lt, lt-ltb, le-ltb}
use Rattle.std.proofs.lemmas.Bool.Decides.{eqb_tells}
use Rattle.sha2.specs.Sha256.{compress, digest_bytes, hash_after}
use Rattle.sha2.proofs.Absorbing256.{hash_after_next}
use Rattle.ferry_mac.specs.Hmac.{hmac256}
use Rattle.ferry_mac.specs.Lanes.{IsEnding, behind_key, hashed_behind, lane, nth_text}
use Rattle.ferry_mac.specs.Many.{HasMac, IsCovered, IsHashed, IsInLane, digest_behind}
use Rattle.ferry_mac.specs.declared.many.End.{End}
use Rattle.ferry_mac.specs.declared.many.Lanes.{Lanes}

-- ---- a block more

-- a block of a text, by what equals the text
pub read_block : (text wanted block : List ℕ) (n : ℕ) → text ≡ wanted
    → (n < length (behind_key text) / 64 → block ≡ take 64 (drop (n * 64) (behind_key text)))
    → n < length (behind_key wanted) / 64 → block ≡ take 64 (drop (n * 64) (behind_key wanted))
read_block text wanted block n is read = subst (λ t. n < length (behind_key t) / 64 → block ≡ take 64 (drop (n * 64) (behind_key t))) is read

pub hashed_next : (start text state next block : List ℕ) (b n : ℕ) → state ≡ hash_after start (behind_key text) (b + n)
    → next ≡ compress state block → block ≡ take 64 (drop ((b + n) * 64) (behind_key text))
    → next ≡ hash_after start (behind_key text) (b + (n + 1))
hashed_next start text state next block b n before compressed read =
    let on : b + (n + 1) ≡ b + n + 1 = omega arith in
    compressed ∙ rw (before, read, on) (sym (hash_after_next start (behind_key text) (b + n)))

-- a lane that has blocks left takes the next one, and any other stays
pub hashed_on : (start text state next chosen : List ℕ) (b n left going : ℕ) → state ≡ hash_after start (behind_key text) (b + min n left)
    → (n < left → next ≡ compress state (take 64 (drop ((b + n) * 64) (behind_key text))))
    → going ≡ cond (ltb n left) 1 0 → chosen ≡ cond (eqb going 1) next state
    → chosen ≡ hash_after start (behind_key text) (b + min (n + 1) left)
hashed_on start text state next chosen b n left going before compressed test choice = elim (cases_lt n left) [
  | inl lt ↦
      let one : going ≡ 1 = test ∙ rw (lt-ltb n left lt) refl in
      let here : min n left ≡ n = omega arith in
      let on : min (n + 1) left ≡ n + 1 = omega arith in
      choice ∙ rw (one, on) (hashed_next start text state next (take 64 (drop ((b + n) * 64) (behind_key text))) b n (rw here at before) (compressed lt) refl)
  | inr ge ↦
      let none : going ≡ 0 = test ∙ rw (le-ltb n left ge) refl in
      let stays : min (n + 1) left ≡ min n left = omega arith in
      choice ∙ rw (none, stays) before
]

-- ---- IsInLane

-- so many blocks more are hashed
pub lane_on : {m : ℕ} (texts : List (Bor (List ℕ))) (lanes after : Lanes m) (count l : ℕ) → IsInLane texts lanes l
    → after.places ≡ lanes.places → after.ends ≡ lanes.ends
    → slice_index after.done l ≡ slice_index lanes.done l + count → slice_index after.lefts l + count ≡ slice_index lanes.lefts l
    → IsInLane texts after l
lane_on texts lanes after count l held places ends more fewer = record {
  ending = rw (places, ends) held.ending;
  count = rw places (omega (arith, held.count));
  fits = omega (arith, held.fits);
}

-- a text is begun in a lane
abbrev pub begun : {m : ℕ} → Lanes m → ℕ → ℕ → ℕ → List ℕ → Lanes m
begun lanes l place count end = record {
  places = slice_set lanes.places l place;
  done = slice_set lanes.done l 0;
  lefts = slice_set lanes.lefts l count;
  ends = slice_set lanes.ends l (record { bytes = end });
}

pub begun_lane : {m : ℕ} (texts : List (Bor (List ℕ))) (lanes : Lanes m) (l place count : ℕ) (end : List ℕ) → l < length lanes.places
    → l < length lanes.done → l < length lanes.lefts → l < length lanes.ends → IsEnding end (nth_text texts place)
    → count ≡ length (behind_key (nth_text texts place)) / 64 → count < 2 ^ 60
    → IsInLane texts (begun lanes l place count end) l
begun_lane texts lanes l place count end ep eb el ee ending counted few =
    let places : slice_index (slice_set lanes.places l place) l ≡ place = get_or-set_same lanes.places l place 0 ep in
    let blocks : slice_index (slice_set lanes.done l 0) l ≡ 0 = get_or-set_same lanes.done l 0 0 eb in
    let lefts : slice_index (slice_set lanes.lefts l count) l ≡ count = get_or-set_same lanes.lefts l count 0 el in
    let row : (get_or (slice_set lanes.ends l (record { bytes = end })) l (record { bytes = [] })).bytes ≡ end =
    ap (λ (e : End). e.bytes) (get_or-set_same lanes.ends l (record { bytes = end }) (record { bytes = [] }) ee) in
    record {
      ending = rw (row, places) ending;
      count = rw (blocks, lefts, places) (omega (arith, counted));
      fits = rw (blocks, lefts) (omega arith);
    }

pub begun_other : {m : ℕ} (texts : List (Bor (List ℕ))) (lanes : Lanes m) (l place count : ℕ) (end : List ℕ) (j : ℕ) → j ≢ l
    → IsInLane texts lanes j → IsInLane texts (begun lanes l place count end) j
begun_other texts lanes l place count end j ne held =
    let places : slice_index (slice_set lanes.places l place) j ≡ slice_index lanes.places j = get_or-set_other lanes.places l j place 0 ne in
    let blocks : slice_index (slice_set lanes.done l 0) j ≡ slice_index lanes.done j = get_or-set_other lanes.done l j 0 0 ne in
    let lefts : slice_index (slice_set lanes.lefts l count) j ≡ slice_index lanes.lefts j = get_or-set_other lanes.lefts l j count 0 ne in
    let row : (get_or (slice_set lanes.ends l (record { bytes = end })) j (record { bytes = [] })).bytes
    ≡ (get_or lanes.ends j (record { bytes = [] })).bytes =
    ap (λ (e : End). e.bytes) (get_or-set_other lanes.ends l j (record { bytes = end }) (record { bytes = [] }) ne) in
    record {
      ending = rw (row, places) held.ending;
      count = rw (blocks, lefts, places) held.count;
      fits = rw (blocks, lefts) held.fits;
    }

-- ---- IsHashed

-- a lane in which a text is begun has the first hash value, and the others stay
pub begun_hash : {m : ℕ} (h : List ℕ) (texts : List (Bor (List ℕ))) (lanes after : Lanes m) (start state next : List (List ℕ)) (l mark j : ℕ)
    → slice_index after.done l ≡ 0 → (j ≢ l → slice_index after.done j ≡ slice_index lanes.done j)
    → (j ≢ l → slice_index after.places j ≡ slice_index lanes.places j)
    → mark ≡ cond (eqb j l) 1 0 → lane next j ≡ cond (eqb mark 1) (lane start j) (lane state j)
    → lane start j ≡ h → IsHashed h texts lanes state j → IsHashed h texts after next j
unfolding hash_after
begun_hash h texts lanes after start state next l mark j none done places marked chosen first held = elim (eqb_tells j l) [
  | inl same ↦
      let is : l ≡ j = sym same.1 in
      let one : mark ≡ 1 = marked ∙ rw (same.0) refl in
      let blocks : slice_index after.done j ≡ 0 = subst (λ j. slice_index after.done j ≡ 0) is none in
      let taken : lane next j ≡ lane start j = chosen ∙ rw one refl in
      taken ∙ first ∙ rw blocks refl
  | inr other ↦
      let zero_mark : mark ≡ 0 = marked ∙ rw (other.0) refl in
      let left : lane next j ≡ lane state j = chosen ∙ rw zero_mark refl in
      left ∙ rw (places (other.1), done (other.1)) held
]

-- ---- IsCovered

-- the digest of a lane is put in the place of its text, and another text is begun in it
pub covered_on : (n : ℕ) (h : List ℕ) (texts : List (Bor (List ℕ))) (places after : List ℕ) (before put : List (List ℕ)) (l : ℕ) → length before ≡ length texts
    → (slice_index places l < length before → slice_index_or put (slice_index places l) [] ≡ digest_behind h (nth_text texts (slice_index places l)))
    → ((k : ℕ) → k ≢ slice_index places l → slice_index_or put k [] ≡ slice_index_or before k [])
    → ((j : ℕ) → j < n → j ≢ l → slice_index after j ≡ slice_index places j)
    → (k : ℕ) → k < length texts → IsCovered n h texts places before k → IsCovered n h texts after put k
covered_on n h texts places after before put l size right others moved k low covered = elim (eqb_tells k (slice_index places l)) [
  | inl same ↦ inl (rw (same.1) (right (omega (arith, same.1))))
  | inr other ↦ elim covered [
    | inl digest ↦ inl (others k (other.1) ∙ digest)
    | inr held ↦ elim (eqb_tells (held.0) l) [
      | inl same ↦ absurd (let e : k ≡ slice_index places l = sym (held.2) ∙ ap (slice_index places) (same.1) in other.1 e)
      | inr apart ↦ inr (held.0, held.1, moved (held.0) (held.1) (apart.1) ∙ held.2)
    ]
  ]
]

-- one lane more has its digest in the place of its text
pub put_more : (n : ℕ) (h : List ℕ) (texts : List (Bor (List ℕ))) (places : List ℕ) (first before put state : List (List ℕ)) (l k : ℕ) → l < n
    → k < length first → length before ≡ length first
    → ((j : ℕ) → j < n → lane state j ≡ hashed_behind h (nth_text texts (slice_index places j)))
    → (slice_index places l < length before → slice_index_or put (slice_index places l) [] ≡ digest_bytes (lane state l) 8)
    → ((k : ℕ) → k ≢ slice_index places l → slice_index_or put k [] ≡ slice_index_or before k [])
    → ((slice_index_or first k [] ≡ digest_behind h (nth_text texts k)) ⊎ ((j : ℕ) × (j < l) × (slice_index places j ≡ k))
    → slice_index_or before k [] ≡ digest_behind h (nth_text texts k))
    → (slice_index_or first k [] ≡ digest_behind h (nth_text texts k)) ⊎ ((j : ℕ) × (j < l + 1) × (slice_index places j ≡ k))
    → slice_index_or put k [] ≡ digest_behind h (nth_text texts k)
put_more n h texts places first before put state l k inside low size hashed here others so_far covered = elim (eqb_tells k (slice_index places l)) [
  | inl same ↦
      rw (same.1) (here (omega (arith, same.1)) ∙ ap (λ s. digest_bytes s 8) (hashed l inside))
  | inr other ↦ others k (other.1) ∙ so_far (elim covered [
    | inl digest ↦ inl digest
    | inr held ↦ elim (eqb_tells (held.0) l) [
      | inl same ↦ absurd (let e : k ≡ slice_index places l = sym (held.2) ∙ ap (slice_index places) (same.1) in other.1 e)
      | inr apart ↦ inr (held.0, omega (arith, held.1, apart.1), held.2)
    ]
  ])
]

-- ---- HasMac

-- an element of a list of what is made of each text
at_map : (f : List ℕ → List ℕ) (texts : List (Bor (List ℕ))) (k : ℕ) → k < length texts
    → get_or (map (λ text. f text.now) texts) k [] ≡ f (nth_text texts k)
at_map f [] k low = absurd (omega arith)
at_map f (text ∷ texts) zero low = refl
at_map f (text ∷ texts) (suc k) low = at_map f texts k (omega arith)

pub macs_by_each : (key : List ℕ) (texts : List (Bor (List ℕ))) (macs : List (List ℕ)) → length macs ≡ length texts
    → ((k : ℕ) → k < length texts → HasMac key texts macs k) → macs ≡ map (λ text. hmac256 key text.now) texts
macs_by_each key texts macs size each =
    ext_get_or [] macs (map (λ text. hmac256 key text.now) texts) (size ∙ sym (length-map texts (λ text. hmac256 key text.now)))
    (λ k low. let inside : k < length texts = omega (arith, size) in each k inside ∙ sym (at_map (hmac256 key) texts k inside))

-- ---- windows

-- one window more has its MACs
pub window_more : (f : Bor (List ℕ) → List ℕ) (texts : List (Bor (List ℕ))) (before piece : List (List ℕ)) (window count : ℕ)
    → 64 * window < length texts → 64 * window + count ≡ min (64 * window + 64) (length texts) → length before ≡ length texts
    → take (64 * window) before ≡ map f (take (64 * window) texts) → piece ≡ map f (take count (drop (64 * window) texts))
    → (length (put_mid (64 * window) count before piece) ≡ length texts)
    × (take (64 * (window + 1)) (put_mid (64 * window) count before piece) ≡ map f (take (64 * (window + 1)) texts))
window_more f texts before piece window count low cut size so_far is =
    let at = 64 * window in
    let next : 64 * (window + 1) ≡ at + 64 = omega arith in
    let room : length (drop at texts) ≡ length texts - at = length-drop at texts in
    let few : length (take count (drop at texts)) ≡ count = length-take-le count (drop at texts) (omega arith) in
    let long : length piece ≡ count = ap length is ∙ length-map (take count (drop at texts)) f ∙ few in
    let now = put_mid at count before piece in
    let rest = drop count (drop at before) in
    let same : length now ≡ length texts =
    omega (
      arith,
      length-append (take at before) (piece ++ rest),
      length-append piece rest,
      length-take-le at before (omega arith),
      long,
      size,
      length-drop count (drop at before),
      length-drop at before,
    ) in
    let joined : take (at + count) now ≡ take at before ++ piece = take-put_mid at count before piece (at + count) (omega (arith, long)) (omega arith) in
    let left : take (at + 64) now ≡ take (at + count) now =
    sym (take_min (at + 64) now) ∙ ap (λ n. take n now) (let e : min (at + 64) (length now) ≡ at + count = omega (arith, cut, same) in e) in
    let right : take (at + count) texts ≡ take (at + 64) texts = ap (λ n. take n texts) cut ∙ take_min (at + 64) texts in
    let both : map f (take at texts) ++ map f (take count (drop at texts)) ≡ map f (take (at + count) texts) =
    sym (map-append f (take at texts) (take count (drop at texts))) ∙ ap (map f) (sym (take-add at count texts)) in
    (same, rw next (left ∙ joined ∙ rw (so_far, is) both ∙ ap (map f) right))
