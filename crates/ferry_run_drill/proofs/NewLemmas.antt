-- What is put in a new target: each content that wasn't added before, where no contents collide.
use Rattle.std.proofs.Common.{◌≡◌, ◌≢◌, ◌⊎◌, inl, inr, ◌+◌, ◌*◌, ◌&&◌, ℕ, Bool, true, false, if◌then◌else◌, List, [], ◌∷◌, ◌++◌, length}
use Rattle.std.proofs.Common.{Option, Some, None, IsSome, refl, sym, ◌∙◌, ap, subst, arith}
use Rattle.std.proofs.lemmas.List.{append-nil, append_assoc}
use Rattle.std.specs.List.{AllByRecursion}
use Rattle.ferry_base.specs.Limits.{zero_id}
use Rattle.ferry_blob.specs.Blob.{content_id}
use Rattle.ferry_carry.proofs.CutLemmas.{among_either, among_none, among_one}
use Rattle.ferry_mac.specs.declared.keys.Keys.{Keys}
use Rattle.ferry_piece.proofs.AmongLemmas.{among_behind, among_front}
use Rattle.ferry_piece.proofs.PutsLemmas.{bytes_append, count_append}
use Rattle.ferry_piece.specs.Gather.{IsAmong, NoCollision}
use Rattle.ferry_piece.specs.Puts.{Addition, AddsAll, AreOf, AtBegin, AtEnd, Border, ComesBefore, Content, IsAddedBehind, Kind, MayCome, Within, border_of}
use Rattle.ferry_piece.specs.Puts.{contents_in, manifests_committed, put_bytes, put_count, same_kind}
use Rattle.ferry_segment.specs.Entry.{LogEntry, PutEntry, CommitEntry}
use Rattle.ferry_store.proofs.LiveLemmas.{live_commit, live_nil, live_other, live_put, same_or}
use Rattle.ferry_store.specs.Standing.{live_in}

-- ---- what is new

-- A content that is added behind these is put where it isn't among them, and else it isn't put.
abbrev pub IsNew : List (List ℕ) → Addition → Type 0
IsNew before one = ((one.put ≡ true) × (IsAmong before one.content → ⊥)) ⊎ ((one.put ≡ false) × IsAmong before one.content)

-- Each of these, one behind another.
abbrev pub PutsNew : List (List ℕ) → List Addition → Type 0
PutsNew before [] = Unit {0}
PutsNew before (one ∷ rest) = IsNew before one × PutsNew (before ++ one.content ∷ []) rest

pub puts_split : (before : List (List ℕ)) (some more : List Addition) → PutsNew before (some ++ more)
    → PutsNew before some × PutsNew (before ++ contents_in some) more
puts_split before [] more new = (tt, subst (λ (l : List (List ℕ)). PutsNew l more) (sym (append-nil before)) new)
puts_split before (one ∷ some) more new =
    let rest = puts_split (before ++ one.content ∷ []) some more new.1 in (
      (new.0, rest.0),
      subst (λ (l : List (List ℕ)). PutsNew l more) (append_assoc before (one.content ∷ []) (contents_in some)) rest.1,
    )

-- ---- what is live by entries

manifests_live : (id : List ℕ) (before : List LogEntry) (blobs : List (List ℕ)) → id ≢ zero_id
    → live_in id (before ++ manifests_committed blobs) ≡ live_in id before
manifests_live id before [] chunk = live_nil id before
manifests_live id before (blob ∷ rest) chunk =
    let one = before ++ PutEntry zero_id blob ∷ [] in
    let two = one ++ CommitEntry ∷ [] in
    let later = manifests_committed rest in
    let parts : before ++ (PutEntry zero_id blob ∷ (CommitEntry ∷ later)) ≡ two ++ later =
    sym (append_assoc before (PutEntry zero_id blob ∷ []) (CommitEntry ∷ later)) ∙ sym (append_assoc one (CommitEntry ∷ []) later) in
    ap (live_in id) parts ∙ (manifests_live id two rest chunk ∙ (live_commit id one ∙ live_other zero_id blob id before chunk))

may_live : (at : Border) (before others : List LogEntry) → MayCome at before others → (id : List ℕ) → id ≢ zero_id
    → live_in id (before ++ others) ≡ live_in id before
may_live Within before others may id chunk = ap (λ (l : List LogEntry). live_in id (before ++ l)) may ∙ live_nil id before
may_live AtEnd before others may id chunk = ap (λ (l : List LogEntry). live_in id (before ++ l)) may.1 ∙ manifests_live id before may.0 chunk
may_live AtBegin before others (inl none) id chunk = ap (λ (l : List LogEntry). live_in id (before ++ l)) none ∙ live_nil id before
may_live AtBegin before others (inr some) id chunk = ap (λ (l : List LogEntry). live_in id (before ++ l)) some.1 ∙ live_commit id before

comes_live : (keys : Keys) (most : ℕ) (front : List LogEntry) (one : Addition) (after : List LogEntry) → ComesBefore keys most front one after
    → (id : List ℕ) → live_in id after ≡ live_in id front
comes_live keys most front one after (inl same) id = ap (live_in id) same
comes_live keys most front one after (inr full) id = ap (live_in id) full.1 ∙ live_commit id front

-- ---- the walk

-- Of the contents in scope those are live by these entries that were added before.
record Knows (keys : Keys) (scope before : List (List ℕ)) (entries : List LogEntry) : Type 0 where
  within : (content : List ℕ) → IsAmong before content → IsAmong scope content
  live : (content : List ℕ) → IsAmong scope content → IsSome (live_in (content_id keys content) entries) → IsAmong before content
  known : (content : List ℕ) → IsAmong before content → IsSome (live_in (content_id keys content) entries)

knows_as : (keys : Keys) (scope before : List (List ℕ)) (entries later : List LogEntry) → NoCollision keys scope
    → ((id : List ℕ) → id ≢ zero_id → live_in id later ≡ live_in id entries) → Knows keys scope before entries → Knows keys scope before later
knows_as keys scope before entries later apart same knows = record {
  within = knows.within;
  live = λ content in_scope is.
      knows.live content in_scope (subst IsSome (same (content_id keys content) (apart.chunk content in_scope)) is);
  known = λ content among.
      subst IsSome (sym (same (content_id keys content) (apart.chunk content (knows.within content among)))) (knows.known content among);
}

within_more : (scope before : List (List ℕ)) (one : List ℕ) → ((content : List ℕ) → IsAmong before content → IsAmong scope content) → IsAmong scope one
    → (content : List ℕ) → IsAmong (before ++ one ∷ []) content → IsAmong scope content
within_more scope before one within in_scope content among = elim (among_either before (one ∷ []) content among) [
  | inl old ↦ within content old
  | inr new ↦ subst (IsAmong scope) (among_one one content new) in_scope
]

-- a content whose id is live
knows_old : (keys : Keys) (scope before : List (List ℕ)) (entries : List LogEntry) (one : List ℕ) → IsAmong scope one
    → IsSome (live_in (content_id keys one) entries) → Knows keys scope before entries → Knows keys scope (before ++ one ∷ []) entries
knows_old keys scope before entries one in_scope live knows = record {
  within = within_more scope before one knows.within in_scope;
  live = λ content inside is. among_front before (one ∷ []) content (knows.live content inside is);
  known = λ content among. elim (among_either before (one ∷ []) content among) [
    | inl old ↦ knows.known content old
    | inr new ↦ subst (λ (c : List ℕ). IsSome (live_in (content_id keys c) entries)) (among_one one content new) live
  ];
}

-- a content that is put
knows_new : (keys : Keys) (scope before : List (List ℕ)) (entries : List LogEntry) (one blob : List ℕ) → NoCollision keys scope → IsAmong scope one
    → Knows keys scope before entries → Knows keys scope (before ++ one ∷ []) (entries ++ PutEntry (content_id keys one) blob ∷ [])
knows_new keys scope before entries one blob apart in_scope knows = record {
  within = within_more scope before one knows.within in_scope;
  live = λ content inside is. elim (same_or id (content_id keys content)) [
    | inl same ↦ among_behind before (one ∷ []) content (0, ap (λ (c : List ℕ). Some c) (apart.one one content in_scope inside (sym same)))
    | inr other ↦
        among_front before (one ∷ []) content
        (knows.live content inside (subst IsSome (live_other id blob (content_id keys content) entries other) is))
  ];
  known = λ content among. elim (among_either before (one ∷ []) content among) [
    | inl old ↦ still content (knows.known content old) (same_or id (content_id keys content))
    | inr new ↦ here content (ap (content_id keys) (sym (among_one one content new)))
  ];
}
  where
    id : List ℕ
    id = content_id keys one

    now : List LogEntry
    now = entries ++ PutEntry (content_id keys one) blob ∷ []

    here : (content : List ℕ) → content_id keys content ≡ id → IsSome (live_in (content_id keys content) now)
    here content same =
        let is : live_in (content_id keys content) now ≡ Some blob = ap (λ (i : List ℕ). live_in i now) same ∙ live_put id blob entries in
        subst IsSome (sym is) refl

    still : (content : List ℕ) → IsSome (live_in (content_id keys content) entries) → (content_id keys content ≡ id) ⊎ (content_id keys content ≢ id)
        → IsSome (live_in (content_id keys content) now)
    still content live (inl same) = here content same
    still content live (inr other) = subst IsSome (sym (live_other id blob (content_id keys content) entries other)) live

one_walks : (keys : Keys) (most : ℕ) (scope before : List (List ℕ)) (front : List LogEntry) (one : Addition) (after : List LogEntry) → NoCollision keys scope
    → IsAmong scope one.content → Knows keys scope before front → IsAddedBehind keys most front one after
    → IsNew before one × Knows keys scope (before ++ one.content ∷ []) after
one_walks keys most scope before front one after apart in_scope knows (inl (is, (inl zero, same))) = absurd (apart.chunk one.content in_scope zero)
one_walks keys most scope before front one after apart in_scope knows (inl (is, (inr live, same))) = (
  inr (is, knows.live one.content in_scope live),
  subst (Knows keys scope (before ++ one.content ∷ [])) (sym same) (knows_old keys scope before front one.content in_scope live knows),
)
one_walks keys most scope before front one after apart in_scope knows (inr new) = (
  inl (new.0, λ among. new.1.1.0.new (inr (knows.known one.content among))),
  subst (Knows keys scope (before ++ one.content ∷ [])) (sym new.1.1.1) (knows_new keys scope before front one.content new.1.0 apart in_scope knows),
)

walks : (at : Border) (keys : Keys) (most : ℕ) (scope before : List (List ℕ)) (entries : List LogEntry) (added : List Addition) (after : List LogEntry)
    → NoCollision keys scope → AllByRecursion (IsAmong scope) (contents_in added) → Knows keys scope before entries
    → AddsAll at keys most entries added after → PutsNew before added
walks at keys most scope before entries [] after apart within knows adds = tt
walks at keys most scope before entries (one ∷ rest) after apart within knows adds =
    let front = adds.1.1.0 in
    let same : (id : List ℕ) → id ≢ zero_id → live_in id front ≡ live_in id entries =
    λ id chunk. comes_live keys most (entries ++ adds.0) one front adds.1.1.1.0 id ∙ may_live at entries adds.0 adds.1.0 id chunk in
    let here = one_walks keys most scope before front one adds.1.1.1.1.0 apart within.0 (knows_as keys scope before entries front apart same knows)
    adds.1.1.1.1.1.0 in (
      here.0,
      walks (border_of one.kind) keys most scope (before ++ one.content ∷ []) adds.1.1.1.1.0 rest after apart within.1 here.1 adds.1.1.1.1.1.1,
    )

none_some : (o : Option (List ℕ)) → ((blob : List ℕ) → o ≡ Some blob → ⊥) → IsSome o → ⊥
none_some None none some = let no : ⊥ = cc in no
none_some (Some blob) none some = none blob refl

-- behind entries by which no chunk is live
pub puts_new : (at : Border) (keys : Keys) (most : ℕ) (scope : List (List ℕ)) (entries : List LogEntry) (added : List Addition) (after : List LogEntry)
    → NoCollision keys scope → AllByRecursion (IsAmong scope) (contents_in added)
    → ((id blob : List ℕ) → id ≢ zero_id → live_in id entries ≡ Some blob → ⊥) → AddsAll at keys most entries added after → PutsNew [] added
puts_new at keys most scope entries added after apart within none adds =
    let knows : Knows keys scope [] entries =
    record {
      within = λ content among. absurd (among_none content among);
      live = λ content inside is.
          absurd (none_some (live_in (content_id keys content) entries) (λ blob. none (content_id keys content) blob (apart.chunk content inside)) is);
      known = λ content among. absurd (among_none content among);
    } in
    walks at keys most scope [] entries added after apart within knows adds

-- ---- how many are put

-- So many pieces of 512 bytes of contents are put of these.
pub record Counts (count : ℕ) (added : List Addition) : Type 0 where
  pub chunks : put_count Content added ≡ count
  pub bytes : put_bytes Content added ≡ 512 * count

pub counts_none : Counts 0 []
unfolding put_count put_bytes
counts_none = record { chunks = refl; bytes = refl }

pub counts_then : (some more : List Addition) (a b c : ℕ) → Counts a some → Counts b more → a + b ≡ c → Counts c (some ++ more)
counts_then some more a b c first second sum = record {
  chunks = omega (arith, count_append Content some more, first.chunks, second.chunks, sum);
  bytes = omega (arith, bytes_append Content some more, first.bytes, second.bytes, sum);
}

pub counts_as : (added other : List Addition) (count : ℕ) → added ≡ other → Counts count other → Counts count added
counts_as added other count same counts = subst (Counts count) (sym same) counts

pub and_false : (b : Bool) → b && false ≡ false
and_false true = refl
and_false false = refl

not_counted : (put : Bool) (kind other : Kind) (n : ℕ) → other ≡ kind → same_kind Content kind ≡ false → (if put && same_kind Content other then n else 0) ≡ 0
not_counted put kind other n same apart =
    ap (λ (b : Bool). if put && b then n else 0) (ap (same_kind Content) same ∙ apart) ∙ ap (λ (b : Bool). if b then n else 0) (and_false put)

-- none of another kind
pub counts_other : (kind : Kind) (added : List Addition) → same_kind Content kind ≡ false → AreOf kind added → Counts 0 added
unfolding put_count put_bytes
counts_other kind [] apart are = record { chunks = refl; bytes = refl }
counts_other kind (one ∷ rest) apart are =
    let later = counts_other kind rest apart are.1 in
    record {
      chunks = omega (arith, not_counted one.put kind one.kind 1 are.0 apart, later.chunks);
      bytes = omega (arith, not_counted one.put kind one.kind (length one.content) are.0 apart, later.bytes);
    }

-- None of these contents is among those in front of it.
abbrev pub AreNew : List (List ℕ) → List (List ℕ) → Type 0
AreNew before [] = Unit {0}
AreNew before (content ∷ rest) = (IsAmong before content → ⊥) × AreNew (before ++ content ∷ []) rest

-- a piece of a content counts where it is put
counted : (put : Bool) (other : Kind) (n : ℕ) → other ≡ Content → put ≡ true → (if put && same_kind Content other then n else 0) ≡ n
counted put other n same is =
    ap (λ (b : Bool). if b && same_kind Content other then n else 0) is ∙ ap (λ (k : Kind). if same_kind Content k then n else 0) same

uncounted : (put : Bool) (other : Kind) (n : ℕ) → put ≡ false → (if put && same_kind Content other then n else 0) ≡ 0
uncounted put other n is = ap (λ (b : Bool). if b && same_kind Content other then n else 0) is

pub is_put : (before : List (List ℕ)) (one : Addition) → IsNew before one → (IsAmong before one.content → ⊥) → one.put ≡ true
is_put before one (inl new) none = new.0
is_put before one (inr old) none = absurd (none old.1)

isnt_put : (before : List (List ℕ)) (one : Addition) → IsNew before one → IsAmong before one.content → one.put ≡ false
isnt_put before one (inl new) among = absurd (new.1 among)
isnt_put before one (inr old) among = old.0

-- all of these that are new
pub counts_new : (before : List (List ℕ)) (added : List Addition) → AreOf Content added
    → AllByRecursion (λ (content : List ℕ). length content ≡ 512) (contents_in added) → AreNew before (contents_in added) → PutsNew before added
    → Counts (length (contents_in added)) added
unfolding put_count put_bytes
counts_new before [] are sizes new puts = record { chunks = refl; bytes = refl }
counts_new before (one ∷ rest) are sizes new puts =
    let later = counts_new (before ++ one.content ∷ []) rest are.1 sizes.1 new.1 puts.1 in
    let put = is_put before one puts.0 new.0 in
    record {
      chunks = omega (arith, counted one.put one.kind 1 are.0 put, later.chunks);
      bytes = omega (arith, counted one.put one.kind (length one.content) are.0 put, sizes.0, later.bytes);
    }

-- none of these that aren't
pub counts_old : (before : List (List ℕ)) (added : List Addition) → AreOf Content added → AllByRecursion (IsAmong before) (contents_in added)
    → PutsNew before added → Counts 0 added
unfolding put_count put_bytes
counts_old before [] are old puts = record { chunks = refl; bytes = refl }
counts_old before (one ∷ rest) are old puts =
    let still = wider before (one.content ∷ []) (contents_in rest) old.1 in
    let later = counts_old (before ++ one.content ∷ []) rest are.1 still puts.1 in
    let put = isnt_put before one puts.0 old.0 in
    record {
      chunks = omega (arith, uncounted one.put one.kind 1 put, later.chunks);
      bytes = omega (arith, uncounted one.put one.kind (length one.content) put, later.bytes);
    }
  where
    wider : (before more contents : List (List ℕ)) → AllByRecursion (IsAmong before) contents → AllByRecursion (IsAmong (before ++ more)) contents
    wider before more [] all = tt
    wider before more (c ∷ cs) all = (among_front before more c all.0, wider before more cs all.1)
