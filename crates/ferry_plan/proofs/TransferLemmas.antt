-- Lemmas on specs/Transfer.antt: what a transfer puts of the pieces of a plan is what was planned.
use Rattle.std.proofs.Common.{◌≡◌, ◌≢◌, ◌⊎◌, ◌↔◌, inl, inr, ℕ, Bool, true, false, cond, if◌then◌else◌, ◌&&◌, IsTrue, List, [], ◌∷◌, ◌++◌, length}
use Rattle.std.proofs.Common.{Option, Some, None, IsSome, suc, refl, sym, ◌∙◌, ap, subst, arith, append_assoc}
use Rattle.std.specs.List.{AllByRecursion}
use Rattle.ferry_base.specs.Limits.{zero_id}
use Rattle.ferry_blob.specs.Blob.{content_id}
use Rattle.ferry_carry.proofs.CutLemmas.{among_none}
use Rattle.ferry_mac.specs.declared.keys.Keys.{Keys}
use Rattle.ferry_log.specs.State.{LogState}
use Rattle.ferry_piece.specs.Gather.{IsAmong}
use Rattle.ferry_piece.specs.Puts.{Addition, AddsAll, AtBegin, AtEnd, Border, ComesBefore, Content, IsAddedBehind, IsLiveIn, Kind, MayCome, Record, Stream}
use Rattle.ferry_piece.specs.Puts.{Within, border_of, contents_in, counts_as, is_piece, manifests_committed, put_bytes, put_count, same_kind}
use Rattle.ferry_plan.proofs.AlikeLemmas.{Alike, alike_none, alike_piece, alike_record}
use Rattle.ferry_plan.proofs.TallyLemmas.{among_last, among_more, among_split}
use Rattle.ferry_plan.specs.Plan.{IsFresh, PutsFresh, ids_of}
use Rattle.ferry_plan.specs.Transfer.{HaveOtherIds, pieces_in, records_in}
use Rattle.ferry_repo.specs.Objects.{IsMissing}
use Rattle.ferry_segment.specs.Entry.{LogEntry, PutEntry, CommitEntry}
use Rattle.ferry_store.proofs.LiveLemmas.{live_commit, live_nil, live_other, live_put, same_or}
use Rattle.ferry_store.specs.Standing.{live_in}

-- ---- what is live stays

-- Each id but the manifest's is live by the second entries as by the first.
abbrev pub IsSameLive : List LogEntry → List LogEntry → Type 0
IsSameLive before after = (id : List ℕ) → id ≢ zero_id → live_in id after ≡ live_in id before

same_manifests : (entries : List LogEntry) (blobs : List (List ℕ)) → IsSameLive entries (entries ++ manifests_committed blobs)
same_manifests entries [] id apart = live_nil id entries
same_manifests entries (blob ∷ blobs) id apart =
    let first = entries ++ PutEntry zero_id blob ∷ [] in
    let rest = manifests_committed blobs in
    let split : (first ++ CommitEntry ∷ []) ++ rest ≡ entries ++ (PutEntry zero_id blob ∷ (CommitEntry ∷ rest)) =
    append_assoc first (CommitEntry ∷ []) rest ∙ append_assoc entries (PutEntry zero_id blob ∷ []) (CommitEntry ∷ rest) in
    ap (live_in id) (sym split)
    ∙ (same_manifests (first ++ CommitEntry ∷ []) blobs id apart ∙ (live_commit id first ∙ live_other zero_id blob id entries apart))

-- whatever may come at a border
same_may : (at : Border) (before others : List LogEntry) → MayCome at before others → IsSameLive before (before ++ others)
same_may Within before others none id apart = ap (λ (l : List LogEntry). live_in id (before ++ l)) none ∙ live_nil id before
same_may AtEnd before others may id apart =
    ap (λ (l : List LogEntry). live_in id (before ++ l)) may.1 ∙ same_manifests before may.0 id apart
same_may AtBegin before others (inl none) id apart = ap (λ (l : List LogEntry). live_in id (before ++ l)) none ∙ live_nil id before
same_may AtBegin before others (inr some) id apart = ap (λ (l : List LogEntry). live_in id (before ++ l)) some.1 ∙ live_commit id before

-- and before a content
same_comes : (keys : Keys) (most : ℕ) (before : List LogEntry) (one : Addition) (front : List LogEntry) → ComesBefore keys most before one front
    → IsSameLive before front
same_comes keys most before one front (inl same) id apart = ap (live_in id) same
same_comes keys most before one front (inr full) id apart = ap (live_in id) full.1 ∙ live_commit id before

-- an id that isn't said to be live isn't
unlive : {X : Type 0} (o : Option X) → (IsSome o → ⊥) → o ≡ None
unlive None never = refl
unlive (Some x) never = absurd (never refl)

not_both : {X Y : Type 0} (o : Option Y) → o ≡ None → IsSome o → X
not_both None none some = absurd (let never : ⊥ = cc in never)
not_both (Some y) none some = absurd (let never : ⊥ = cc in never)

isnt_true : (b : Bool) → (b ≡ true → ⊥) → b ≡ false
isnt_true true never = absurd (never refl)
isnt_true false never = refl

-- ---- pieces that are put

module _ (keys : Keys) (log : LogState) (IsRecord : List ℕ → Type 0) where
  -- The log has no place for an id, and it isn't that of one of these.
  abbrev pub IsUnlisted : List Addition → List ℕ → Type 0
  IsUnlisted before id = IsMissing log id × (IsAmong (ids_of keys before) id → ⊥)

  -- Behind these an id isn't live by the entries exactly where it is so, but for the manifest's and those of records.
  abbrev pub Stands : List Addition → List LogEntry → Type 0
  Stands before entries = (id : List ℕ) → id ≢ zero_id → (IsRecord id → ⊥) → (live_in id entries ≡ None) ↔ IsUnlisted before id

  -- A piece has the id of no record, and a record that of one.
  abbrev pub IsSorted : Addition → Type 0
  IsSorted one = (is_piece one.kind ≡ true → IsRecord (content_id keys one.content) → ⊥) × (one.kind ≡ Record → IsRecord (content_id keys one.content))

  stands_same : (before : List Addition) (entries after : List LogEntry) → IsSameLive entries after → Stands before entries → Stands before after
  stands_same before entries after same stands id apart other =
      let is = same id apart in
      let was = stands id apart other in (λ none. was.0 (sym is ∙ none), λ unlisted. is ∙ was.1 unlisted)

  unlisted_first : (before : List Addition) (one : Addition) (id : List ℕ) → IsUnlisted (before ++ one ∷ []) id → IsUnlisted before id
  unlisted_first before one id unlisted = (unlisted.0, λ among. unlisted.1 (among_more keys before one id among))

  unlisted_next : (before : List Addition) (one : Addition) (id : List ℕ) → (content_id keys one.content ≡ id → ⊥) → IsUnlisted before id
      → IsUnlisted (before ++ one ∷ []) id
  unlisted_next before one id apart unlisted = (unlisted.0, λ among. by (among_split keys before one id among)) where
    by : IsAmong (ids_of keys before) id ⊎ (content_id keys one.content ≡ id) → ⊥
    by (inl some) = unlisted.1 some
    by (inr is) = apart is

  listed_last : {X : Type 0} (before : List Addition) (one : Addition) (id : List ℕ) → content_id keys one.content ≡ id → IsUnlisted (before ++ one ∷ []) id
      → X
  listed_last before one id is unlisted =
      absurd (unlisted.1 (subst (IsAmong (ids_of keys (before ++ one ∷ []))) is (among_last keys before one)))

  -- what stands behind a piece that is put by both or by neither
  module _ (most : ℕ) (before : List Addition) (front after : List LogEntry) (one other : Addition) (content : one.content ≡ other.content) where
    named : content_id keys one.content ≡ content_id keys other.content
    named = ap (content_id keys) content

    live_apart : (id : List ℕ) → id ≢ zero_id → IsLiveIn front (content_id keys other.content) → content_id keys one.content ≡ id
        → live_in id front ≡ None → ⊥
    live_apart id apart (inl zero_is) is none = apart (sym is ∙ (named ∙ zero_is))
    live_apart id apart (inr live) is none =
        not_both (live_in (content_id keys other.content) front) (ap (λ (i : List ℕ). live_in i front) (sym named ∙ is) ∙ none) live

    stands_there : IsLiveIn front (content_id keys other.content) → Stands before front → Stands (before ++ one ∷ []) front
    stands_there live stands id apart no_record = (
      λ none. unlisted_next before one id (λ is. live_apart id apart live is none) ((stands id apart no_record).0 none),
      λ unlisted. (stands id apart no_record).1 (unlisted_first before one id unlisted),
    )

    stands_put : (blob : List ℕ) → Stands before front → Stands (before ++ one ∷ []) (front ++ PutEntry (content_id keys other.content) blob ∷ [])
    stands_put blob stands id apart no_record = by (same_or (content_id keys other.content) id) where
      here : List ℕ
      here = content_id keys other.content

      by : (id ≡ here) ⊎ (id ≢ here) → (live_in id (front ++ PutEntry here blob ∷ []) ≡ None) ↔ IsUnlisted (before ++ one ∷ []) id
      by (inl is) = (
        λ none.
            let both : Some blob ≡ None =
            sym (live_put here blob front) ∙ (ap (λ (i : List ℕ). live_in i (front ++ PutEntry here blob ∷ [])) (sym is) ∙ none) in
            absurd (let never : ⊥ = cc in never),
        λ unlisted. listed_last before one id (named ∙ sym is) unlisted,
      )
      by (inr differ) =
          let same = live_other here blob id front differ in (
            λ none. unlisted_next before one id (λ is. differ (sym is ∙ named)) ((stands id apart no_record).0 (sym same ∙ none)),
            λ unlisted. same ∙ (stands id apart no_record).1 (unlisted_first before one id unlisted),
          )

    -- a piece is put where it would be, and that stands behind it
    piece_put : (IsRecord (content_id keys other.content) → ⊥) → IsTrue one.put ↔ IsFresh keys log before one.content
        → IsAddedBehind keys most front other after → Stands before front → (one.put ≡ other.put) × Stands (before ++ one ∷ []) after
    piece_put no_record puts (inl there) stands = (
      isnt_true one.put (λ put. unfresh (puts.0 put)) ∙ sym there.0,
      subst (Stands (before ++ one ∷ [])) (sym there.1.1) (stands_there there.1.0 stands),
    ) where
      unfresh : IsFresh keys log before one.content → ⊥
      unfresh fresh =
          live_apart (content_id keys one.content) fresh.chunk there.1.0 refl
          ((stands (content_id keys one.content) fresh.chunk (λ r. no_record (subst IsRecord named r))).1 (fresh.missing, fresh.first))
    piece_put no_record puts (inr new) stands = (
      puts.1 fresh ∙ sym new.0,
      subst (Stands (before ++ one ∷ [])) (sym new.1.1.1) (stands_put new.1.0 stands),
    ) where
      id : List ℕ
      id = content_id keys one.content

      isnt_live : IsLiveIn front id → ⊥
      isnt_live live = new.1.1.0.new (subst (IsLiveIn front) named live)

      chunk : id ≢ zero_id
      chunk zero_is = isnt_live (inl zero_is)

      unlisted : IsUnlisted before id
      unlisted = (stands id chunk (λ r. no_record (subst IsRecord named r))).0 (unlive (live_in id front) (λ live. isnt_live (inr live)))

      fresh : IsFresh keys log before one.content
      fresh = record { chunk = chunk; missing = unlisted.0; first = unlisted.1 }

  -- and behind a record
  record_stands : (most : ℕ) (before : List Addition) (front after : List LogEntry) (other : Addition) → IsRecord (content_id keys other.content)
      → IsAddedBehind keys most front other after → Stands before front → Stands before after
  record_stands most before front after other is (inl there) stands = subst (Stands before) (sym there.1.1) stands
  record_stands most before front after other is (inr new) stands = subst (Stands before) (sym new.1.1.1) behind where
    here : List ℕ
    here = content_id keys other.content

    behind : Stands before (front ++ PutEntry here new.1.0 ∷ [])
    behind id apart no_record =
        let same = live_other here new.1.0 id front (λ same. no_record (subst IsRecord (sym same) is)) in
        let was = stands id apart no_record in (λ none. was.0 (sym same ∙ none), λ unlisted. same ∙ was.1 unlisted)

  -- ---- as many are put

  -- what isn't of a kind isn't counted as one
  record_uncounted : (kind : Kind) (other : Addition) (amount : ℕ) → is_piece kind ≡ true → other.kind ≡ Record
      → (if counts_as kind other then amount else 0) ≡ 0
  record_uncounted kind other amount piece is =
      ap (λ (k : Kind). if other.put && same_kind kind k then amount else 0) is ∙ by kind other.put piece where
        by : (k : Kind) (put : Bool) → is_piece k ≡ true → (if put && same_kind k Record then amount else 0) ≡ 0
        by Content true is = refl
        by Content false is = refl
        by Stream true is = refl
        by Stream false is = refl
        by Record put is = absurd (let never : ⊥ = cc in never)

  same_counted : (kind : Kind) (one other : Addition) → one.kind ≡ other.kind → one.put ≡ other.put → counts_as kind one ≡ counts_as kind other
  same_counted kind one other kind_is put_is =
      ap (λ (put : Bool). put && same_kind kind one.kind) put_is ∙ ap (λ (k : Kind). other.put && same_kind kind k) kind_is

  abbrev amount_if : ℕ → Bool → ℕ
  amount_if amount counts = if counts then amount else 0

  -- Of both as many of a kind are put, with as many bytes.
  abbrev pub PutsAlike : Kind → List Addition → List Addition → Type 0
  PutsAlike kind pieces added = (put_count kind pieces ≡ put_count kind added) × (put_bytes kind pieces ≡ put_bytes kind added)

  alike_none_put : (kind : Kind) → PutsAlike kind [] []
  alike_none_put kind = (refl, refl)

  alike_piece_put : (kind : Kind) (one other : Addition) (pieces added : List Addition) → one.kind ≡ other.kind → one.content ≡ other.content
      → one.put ≡ other.put → PutsAlike kind pieces added → PutsAlike kind (one ∷ pieces) (other ∷ added)
  unfolding put_count put_bytes
  alike_piece_put kind one other pieces added kind_is content put rest =
      let same = same_counted kind one other kind_is put in
      let first = ap (amount_if 1) same in
      let size = ap (amount_if (length one.content)) same ∙ ap (λ (c : List ℕ). amount_if (length c) (counts_as kind other)) content in
      (omega (arith, first, rest.0), omega (arith, size, rest.1))

  alike_record_put : (kind : Kind) (other : Addition) (pieces added : List Addition) → is_piece kind ≡ true → other.kind ≡ Record
      → PutsAlike kind pieces added → PutsAlike kind pieces (other ∷ added)
  unfolding put_count put_bytes
  alike_record_put kind other pieces added piece is rest = (
    omega (arith, record_uncounted kind other 1 piece is, rest.0),
    omega (arith, record_uncounted kind other (length other.content) piece is, rest.1),
  )

  -- a transfer puts what was planned
  pub puts_alike : (at : Border) (most : ℕ) (entries : List LogEntry) (before pieces added : List Addition) (after : List LogEntry) → Alike pieces added
      → AddsAll at keys most entries added after → AllByRecursion IsSorted added → PutsFresh keys log before pieces → Stands before entries → (kind : Kind)
      → is_piece kind ≡ true → PutsAlike kind pieces added
  puts_alike at most entries before pieces added after alike_none adds sorted fresh stands kind piece = alike_none_put kind
  puts_alike at most entries before pieces added after (alike_piece one other ps xs is kind_is content more) adds sorted fresh stands kind piece =
      let front = adds.1.1.0 in
      let middle = adds.1.1.1.1.0 in
      let here = stands_same before (entries ++ adds.0) front (same_comes keys most (entries ++ adds.0) other front adds.1.1.1.0)
      (stands_same before entries (entries ++ adds.0) (same_may at entries adds.0 adds.1.0) stands) in
      let put = piece_put most before front middle one other content (sorted.0.0 is) fresh.0 adds.1.1.1.1.1.0 here in
      alike_piece_put kind one other ps xs kind_is content put.0
      (puts_alike (border_of other.kind) most middle (before ++ one ∷ []) ps xs after more adds.1.1.1.1.1.1 sorted.1 fresh.1 put.1 kind piece)
  puts_alike at most entries before pieces added after (alike_record other ps xs is more) adds sorted fresh stands kind piece =
      let front = adds.1.1.0 in
      let middle = adds.1.1.1.1.0 in
      let here = stands_same before (entries ++ adds.0) front (same_comes keys most (entries ++ adds.0) other front adds.1.1.1.0)
      (stands_same before entries (entries ++ adds.0) (same_may at entries adds.0 adds.1.0) stands) in
      let behind = record_stands most before front middle other (sorted.0.1 is) adds.1.1.1.1.1.0 here in
      alike_record_put kind other pieces xs piece is
      (puts_alike (border_of other.kind) most middle before pieces xs after more adds.1.1.1.1.1.1 sorted.1 fresh behind kind piece)

-- ---- records

-- An id is that of a record of these.
abbrev pub IsOfRecord : Keys → List Addition → List ℕ → Type 0
IsOfRecord keys added id = (text : List ℕ) × (IsAmong (contents_in (records_in added)) text × (content_id keys text ≡ id))

kept_more : (b : Bool) (one : Addition) (rest : List Addition) (content : List ℕ) → IsAmong (contents_in rest) content
    → IsAmong (contents_in (cond b (one ∷ rest) rest)) content
kept_more true one rest content among = (suc among.0, among.1)
kept_more false one rest content among = among

kept_first : (b : Bool) (one : Addition) (rest : List Addition) → b ≡ true → IsAmong (contents_in (cond b (one ∷ rest) rest)) one.content
kept_first true one rest is = (0, refl)
kept_first false one rest is = absurd (let never : ⊥ = cc in never)

sorted_by : (keys : Keys) (log : LogState) (IsRecord : List ℕ → Type 0) (added : List Addition)
    → ((content : List ℕ) → IsAmong (contents_in (pieces_in added)) content → IsRecord (content_id keys content) → ⊥)
    → ((content : List ℕ) → IsAmong (contents_in (records_in added)) content → IsRecord (content_id keys content))
    → AllByRecursion (IsSorted keys log IsRecord) added
sorted_by keys log IsRecord [] apart are = tt
sorted_by keys log IsRecord (one ∷ added) apart are = (
  (
    λ piece. apart one.content (kept_first (is_piece one.kind) one (pieces_in added) piece),
    λ is. are one.content (kept_first (same_kind Record one.kind) one (records_in added) (ap (same_kind Record) is)),
  ),
  sorted_by keys log IsRecord added (λ content among. apart content (kept_more (is_piece one.kind) one (pieces_in added) content among))
      (λ content among. are content (kept_more (same_kind Record one.kind) one (records_in added) content among)),
)

pub all_sorted : (keys : Keys) (log : LogState) (added : List Addition) → HaveOtherIds keys added
    → AllByRecursion (IsSorted keys log (IsOfRecord keys added)) added
all_sorted keys log added others =
    sorted_by keys log (IsOfRecord keys added) added (λ content among r. others content r.0 among r.1.0 (sym r.1.1))
    (λ content among. (content, (among, refl)))

-- what stands before all
pub stands_first : (keys : Keys) (log : LogState) (IsRecord : List ℕ → Type 0) (entries : List LogEntry)
    → ((id : List ℕ) → id ≢ zero_id → IsMissing log id ↔ (live_in id entries ≡ None)) → Stands keys log IsRecord [] entries
stands_first keys log IsRecord entries live id apart no_record =
    (λ none. ((live id apart).1 none, λ among. among_none id among), λ unlisted. (live id apart).0 unlisted.0)
