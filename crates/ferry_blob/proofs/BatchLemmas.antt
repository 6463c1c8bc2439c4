-- Lemmas on specs/Batch.antt.
use Rattle.std.proofs.Common.{◌≡◌, ◌≢◌, ℕ, ◌+◌, ◌<◌, ◌≤◌, Bool, true, false, List, [], length, map, set, get_or, drop, Some, None}
use Rattle.std.proofs.Common.{Result, Ok, Err, IsOk, is_err, ◌↔◌, take, Vec, Global, refl, sym, ap, subst, ◌∙◌, inl, inr, arith}
use Rattle.std.proofs.Common.{below_more, get_or-set_same, get_or-set_other}
use Rattle.std.proofs.lemmas.Bool.{cases_Bool, ltb-false}
use Rattle.std.proofs.lemmas.List.{map-set, length-map, get_or-map, get_or_past, get_or_default, with_items_is}
use Rattle.std.specs.Vec.{with_items}
use Rattle.std.specs.Str.{bytes_eq}
use Rattle.ferry_mac.specs.Hmac.{hmac256}
use Rattle.ferry_mac.specs.declared.keys.Keys.{Keys}
use Rattle.ferry_base.specs.Limits.{zero_id}
use Rattle.ferry_blob.specs.Batch.{IsOpened, answer_at, answer_under, bytes_at, id_at, is_id}
use Rattle.ferry_blob.specs.Blob.{blob_fault, content_id, decrypted, has_mac, is_decrypted, is_named}
use Rattle.std.specs.Prelude.{if◌then◌else◌}
use Rattle.ferry_blob.specs.declared.fault.BlobFault.{BlobFault}
use Rattle.ferry_blob.specs.declared.fault.BlobFault.TheVariants.{Kind, Short, Mac, Compressed, Id}
use Rattle.ferry_blob.proofs.BlobLemmas.{content-decrypted, fault_by_name, fault_compressed, fault_kind, fault_mac, fault_short, name_read, opened_at}
use Rattle.ferry_blob.proofs.BlobLemmas.{tested, told_by}
use Rattle.ferry_blob.proofs.LawLemmas.{short_is, zero_unrefused}

-- ---- bytes_at

pub bytes_at-here : (buffers : List (Vec ℕ Global)) (k : ℕ) (v : Vec ℕ Global) → k < length buffers → bytes_at (set buffers k v) k ≡ v.items
bytes_at-here buffers k v low =
    let items = λ (x : Vec ℕ Global). x.items in
    ap (λ (xs : List (List ℕ)). get_or xs k []) (map-set items buffers k v)
    ∙ get_or-set_same (map items buffers) k v.items [] (omega (arith, length-map buffers items))

pub bytes_at-other : (buffers : List (Vec ℕ Global)) (k j : ℕ) (v : Vec ℕ Global) → j ≢ k → bytes_at (set buffers k v) j ≡ bytes_at buffers j
bytes_at-other buffers k j v other =
    let items = λ (x : Vec ℕ Global). x.items in
    ap (λ (xs : List (List ℕ)). get_or xs j []) (map-set items buffers k v) ∙ get_or-set_other (map items buffers) k j v.items [] other

pub bytes_at-past : (buffers : List (Vec ℕ Global)) (k : ℕ) → length buffers ≤ k → bytes_at buffers k ≡ []
bytes_at-past buffers k past =
    let items = λ (x : Vec ℕ Global). x.items in
    get_or_past (map items buffers) k [] (omega (arith, length-map buffers items))

pub bytes_at-read : (buffers : List (Vec ℕ Global)) (k : ℕ) (d : Vec ℕ Global) → k < length buffers → (get_or buffers k d).items ≡ bytes_at buffers k
bytes_at-read buffers k d low =
    let items = λ (x : Vec ℕ Global). x.items in
    sym (get_or-map items buffers k d [] low)

-- what holds of the bytes in each place before one, and of as many bytes that are written there
pub written_more : (buffers : List (Vec ℕ Global)) (place : ℕ) (d : Vec ℕ Global) (bytes : List ℕ) (P : ℕ → List ℕ → Type 0) → place < length buffers
    → length bytes ≡ length (bytes_at buffers place)
    → ((k : ℕ) → k < place → P k (bytes_at buffers k)) → P place bytes
    → (k : ℕ) → k < place + 1 → P k (bytes_at (set buffers place (with_items (get_or buffers place d) bytes)) k)
written_more buffers place d bytes P low same below here =
    let buffer = get_or buffers place d in
    let is = with_items_is buffer bytes (omega (arith, buffer.ok.0, ap length (bytes_at-read buffers place d low))) in
    below_more (λ k. P k (bytes_at (set buffers place (with_items buffer bytes)) k)) place
    (λ k h. subst (P k) (sym (bytes_at-other buffers place k (with_items buffer bytes) (omega arith))) (below k h))
    (subst (P place) (sym (bytes_at-here buffers place (with_items buffer bytes) low ∙ is)) here)

-- ---- has_mac

-- what `same` tells of the bytes that stand in the place of the MAC
pub mac_read : (keys : Keys) (blob mac : List ℕ) (r : Bool) → mac ≡ hmac256 keys.enc_hmac_key (drop 33 blob)
    → (r ≡ true) ↔ (take 32 (drop 1 blob) ≡ mac)
    → has_mac keys blob ≡ r
unfolding has_mac
mac_read keys blob mac r is told =
    ap (bytes_eq (take 32 (drop 1 blob))) (sym is) ∙ sym (tested (take 32 (drop 1 blob)) mac r told)

-- ---- IsOpened

-- a refusal before the decryption
pub opened_kept : (keys : Keys) (id blob : List ℕ) (fault : BlobFault) → is_decrypted fault ≡ false → blob_fault keys id blob ≡ Some fault
    → IsOpened keys id blob (Err fault) blob
opened_kept keys id blob fault early is = record {
  opened = tt;
  fault = is;
  ok = tt;
  kept = λ _. refl;
  refused = λ late. absurd (let e : false ≡ true = sym early ∙ late in cc);
  decrypted = tt;
}

-- a refusal behind the decryption
pub opened_refused : (keys : Keys) (id blob after : List ℕ) (fault : BlobFault) → is_decrypted fault ≡ true → after ≡ decrypted keys blob
    → blob_fault keys id blob ≡ Some fault
    → IsOpened keys id blob (Err fault) after
opened_refused keys id blob after fault late plain is = record {
  opened = tt;
  fault = is;
  ok = tt;
  kept = λ early. absurd (let e : false ≡ true = sym early ∙ late in cc);
  refused = λ _. plain;
  decrypted = tt;
}

-- where no rule is broken
pub opened_whole : (keys : Keys) (id blob after : List ℕ) → 43 ≤ length blob → after ≡ decrypted keys blob → blob_fault keys id blob ≡ None
    → IsOpened keys id blob (Ok tt) after
opened_whole keys id blob after room plain none = record {
  opened = opened_at keys id blob (drop 43 after) none (ap (drop 43) plain ∙ content-decrypted keys blob (omega arith));
  fault = tt;
  ok = none;
  kept = tt;
  refused = tt;
  decrypted = plain;
}

same_some : {f g : BlobFault} → Some f ≡ Some g → f ≡ g
same_some e = cc

-- one fault alone comes, and leaves one thing
one_refusal : (keys : Keys) (before x y : List ℕ) (f g : BlobFault) → f ≡ g → (is_decrypted f ≡ false → x ≡ before)
    → (is_decrypted f ≡ true → x ≡ decrypted keys before)
    → (is_decrypted g ≡ false → y ≡ before)
    → (is_decrypted g ≡ true → y ≡ decrypted keys before)
    → x ≡ y
one_refusal keys before x y f g same kept refused kept2 refused2 =
    elim (cases_Bool (is_decrypted f)) [
      | inl late ↦ refused late ∙ sym (refused2 (ap is_decrypted (sym same) ∙ late))
      | inr early ↦ kept early ∙ sym (kept2 (ap is_decrypted (sym same) ∙ early))
    ]

-- what opening answers and leaves is one thing alone
pub one_answer : (keys : Keys) (id before x y : List ℕ) (a b : Result (Unit {0}) BlobFault) → IsOpened keys id before a x → IsOpened keys id before b y
    → (a ≡ b) × (x ≡ y)
one_answer keys id before x y (Ok m) (Ok n) h k = (refl, h.decrypted ∙ sym k.decrypted)
one_answer keys id before x y (Ok m) (Err g) h k = absurd (let e : None ≡ Some g = sym h.ok ∙ k.fault in cc)
one_answer keys id before x y (Err f) (Ok n) h k = absurd (let e : None ≡ Some f = sym k.ok ∙ h.fault in cc)
one_answer keys id before x y (Err f) (Err g) h k =
    let same = same_some (sym h.fault ∙ k.fault) in
    (ap (λ (fault : BlobFault). Err fault) same, one_refusal keys before x y f g same h.kept h.refused k.kept k.refused)

-- an empty place
pub opened_empty : (keys : Keys) (id : List ℕ) → IsOpened keys id [] (Err Short) []
opened_empty keys id = opened_kept keys id [] Short refl (fault_short keys id [] (omega arith))

-- ---- from the zero id to another

-- a fault under the zero id is that under each
pub fault_under : (keys : Keys) (id blob : List ℕ) (fault : BlobFault) → blob_fault keys zero_id blob ≡ Some fault → blob_fault keys id blob ≡ Some fault
fault_under keys id blob Short is = fault_short keys id blob (short_is keys zero_id blob is)
fault_under keys id blob Kind is =
    let told = told_by keys zero_id blob (Some Kind) is in
    fault_kind keys id blob (ltb-false (length blob) 43 told.0) told.1
fault_under keys id blob Mac is =
    let told = told_by keys zero_id blob (Some Mac) is in
    fault_mac keys id blob (ltb-false (length blob) 43 told.0) told.1 told.2
fault_under keys id blob Compressed is =
    let told = told_by keys zero_id blob (Some Compressed) is in
    fault_compressed keys id blob (ltb-false (length blob) 43 told.0) told.1 told.2 told.3
fault_under keys id blob Id is = absurd (zero_unrefused keys blob is)

pub room_of : (keys : Keys) (id blob : List ℕ) → blob_fault keys id blob ≡ None → 43 ≤ length blob
room_of keys id blob none = ltb-false (length blob) 43 (told_by keys id blob None none).0

-- what opens under the zero id, under an id
pub named_fault : (keys : Keys) (id blob after : List ℕ) (named : Bool) → blob_fault keys zero_id blob ≡ None → after ≡ decrypted keys blob
    → named ≡ is_named keys id (drop 43 after)
    → blob_fault keys id blob ≡ (if named then None else Some Id)
named_fault keys id blob after named none plain told =
    let tests = told_by keys zero_id blob None none in
    let room = room_of keys zero_id blob none in
    fault_by_name keys id blob named room tests.1 tests.2 tests.3 (name_read keys id blob after named room plain told)

pub opened_under : (keys : Keys) (id before : List ℕ) (answer : Result (Unit {0}) BlobFault) (after : List ℕ) (named : Bool)
    → IsOpened keys zero_id before answer after
    → (IsOk answer → named ≡ is_named keys id (drop 43 after))
    → IsOpened keys id before (answer_under named answer) after
opened_under keys id before (Err fault) after named h told = record {
  opened = tt;
  fault = fault_under keys id before fault h.fault;
  ok = tt;
  kept = h.kept;
  refused = h.refused;
  decrypted = tt;
}
opened_under keys id before (Ok done) after true h told =
    opened_whole keys id before after (room_of keys zero_id before h.ok) h.decrypted (named_fault keys id before after true h.ok h.decrypted (told refl))
opened_under keys id before (Ok done) after false h told =
    opened_refused keys id before after Id refl h.decrypted (named_fault keys id before after false h.ok h.decrypted (told refl))

-- the id of what was opened under the zero id, compared
pub opened_named : (keys : Keys) (id before after name : List ℕ) (answer under : Result (Unit {0}) BlobFault)
    → IsOpened keys zero_id before answer after
    → (IsOk answer → name ≡ content_id keys (drop 43 after))
    → under ≡ answer_under (is_id id name) answer
    → IsOpened keys id before under after
unfolding is_named
opened_named keys id before after name answer under h own told =
    subst (λ (given : Result (Unit {0}) BlobFault). IsOpened keys id before given after) (sym told)
    (opened_under keys id before answer after (is_id id name) h (λ ok. ap (is_id id) (own ok)))

-- ---- a place more

pub opened_more : (keys : Keys) (before now : List (Vec ℕ Global)) (answers : List (Result (Unit {0}) BlobFault)) (place : ℕ) (d : Vec ℕ Global)
    (bytes : List ℕ) (r : Result (Unit {0}) BlobFault)
    → place < length now → place < length answers → length bytes ≡ length (bytes_at now place)
    → ((k : ℕ) → k < place → IsOpened keys zero_id (bytes_at before k) (answer_at answers k) (bytes_at now k))
    → IsOpened keys zero_id (bytes_at before place) r bytes
    → (k : ℕ) → k < place + 1
    → IsOpened keys zero_id (bytes_at before k) (answer_at (set answers place r) k) (bytes_at (set now place (with_items (get_or now place d) bytes)) k)
opened_more keys before now answers place d bytes r low few same below here =
    written_more now place d bytes (λ k there. IsOpened keys zero_id (bytes_at before k) (answer_at (set answers place r) k) there) low same
    (λ k h.
    subst (λ (answer : Result (Unit {0}) BlobFault). IsOpened keys zero_id (bytes_at before k) answer (bytes_at now k))
    (sym (get_or-set_other answers place k r (Err Short) (omega arith))) (below k h))
    (subst (λ (answer : Result (Unit {0}) BlobFault). IsOpened keys zero_id (bytes_at before place) answer bytes)
    (sym (get_or-set_same answers place r (Err Short) few)) here)

-- a place behind the last blob
pub opened_past : (keys : Keys) (id before now : List ℕ) (answer : Result (Unit {0}) BlobFault) → answer ≡ Err Short → before ≡ [] → now ≡ before
    → IsOpened keys id before answer now
opened_past keys id before now answer unanswered none same = rw (unanswered, same, none) (opened_empty keys id)

-- ---- answers

err_or_ok : (r : Result (Unit {0}) BlobFault) → is_err r ≡ true → IsOk r → ⊥
err_or_ok (Ok done) e ok = absurd (cc)
err_or_ok (Err fault) e ok = absurd (cc)

pub answer_at-read : (answers : List (Result (Unit {0}) BlobFault)) (k : ℕ) (d : Result (Unit {0}) BlobFault) → k < length answers
    → get_or answers k d ≡ answer_at answers k
answer_at-read answers k d low = get_or_default answers k d (Err Short) low

-- a place with a fault isn't opened
pub unopened : (answers : List (Result (Unit {0}) BlobFault)) (k : ℕ) (r : Bool) → k < length answers → r ≡ is_err (get_or answers k (Ok tt)) → r ≡ true
    → IsOk (answer_at answers k) → ⊥
unopened answers k r low told is ok =
    err_or_ok (answer_at answers k) (ap is_err (sym (answer_at-read answers k (Ok tt) low)) ∙ sym told ∙ is) ok

under_true : (answer : Result (Unit {0}) BlobFault) → answer_under true answer ≡ answer
under_true (Ok done) = refl
under_true (Err fault) = refl

-- a place that has no id
pub answer_unnamed : (ids : List (List ℕ)) (k : ℕ) (name : List ℕ) (answer : Result (Unit {0}) BlobFault) → length ids ≤ k
    → answer_under (is_id (id_at ids k) name) answer ≡ answer
answer_unnamed ids k name answer past =
    ap (λ (id : List ℕ). answer_under (is_id id name) answer) (get_or_past ids k zero_id past) ∙ under_true answer

-- the answer for one place, from the values that are read there
pub answer_named : (ids : List (List ℕ)) (name : List ℕ) (now before : List (Result (Unit {0}) BlobFault)) (place : ℕ) (r : Result (Unit {0}) BlobFault)
    → place < length ids → place < length now
    → r ≡ answer_under (is_id (get_or ids place []) name) (get_or now place (Ok tt))
    → answer_at now place ≡ answer_at before place
    → r ≡ answer_under (is_id (id_at ids place) name) (answer_at before place)
answer_named ids name now before place r low few told left =
    told ∙ ap (λ (id : List ℕ). answer_under (is_id id name) (get_or now place (Ok tt))) (get_or_default ids place [] zero_id low)
    ∙ ap (answer_under (is_id (id_at ids place) name)) (get_or_default now place (Ok tt) (Err Short) few ∙ left)
