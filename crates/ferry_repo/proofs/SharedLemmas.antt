-- Lemmas on pieces that a content shares with one that was cut.
use Rattle.std.proofs.Common.{◌≡◌, ◌≤◌, ◌+◌, ◌-◌, ◌*◌, ◌++◌, ℕ, List, [], ◌∷◌, All, length, map, take, drop, get_or, replicate, Option, Some, None, IfSome}
use Rattle.std.proofs.Common.{refl, sym, ◌∙◌, ap, subst, arith, take-add}
use Rattle.std.proofs.Math.Seq.{drop-append-add}
use Rattle.std.proofs.lemmas.List.{append_assoc, drop-append-le, drop_at, length-append, length-drop, length-map, length-replicate, length-take}
use Rattle.std.proofs.lemmas.List.{length-take-le, take-append-drop, take-append-le, take-take, take_all, take_at}
use Rattle.std.proofs.lemmas.List.Elements.{All-cons, All-head, All-nil, All-tail, All-take}
use Rattle.std.proofs.lemmas.List.Folds.{concat-append}
use Rattle.std.proofs.lemmas.List.Sums.{sum_by-append, sum_by-cons}
use Rattle.std.specs.List.{AllByRecursion, concat, drop-map, take-map}
use Rattle.ferry_disk.specs.Device.{Told, told_files}
use Rattle.ferry_disk.specs.Files.{Files}
use Rattle.ferry_item.specs.Stream.{joined}
use Rattle.ferry_item.specs.declared.item.ChunkRef.{ChunkRef}
use Rattle.ferry_log.specs.State.{LogState}
use Rattle.ferry_mac.specs.declared.keys.Keys.{Keys}
use Rattle.ferry_rechunk.proofs.CutLemmas.{cut_is}
use Rattle.ferry_rechunk.specs.Cut.{cut}
use Rattle.ferry_repo.specs.Archives.{ContentsCome, HoldsJoined}
use Rattle.ferry_repo.specs.Cached.{Contents}
use Rattle.ferry_repo.specs.Noted.{IsCut, IsNoted, piece_under}
use Rattle.ferry_repo.specs.Opening.{FitsRepo, RepoState}
use Rattle.ferry_repo.specs.Shared.{IsShared, SharesPieces, chunks_from, total_size}
use Rattle.ferry_repo.specs.declared.notes.Note.{Note}
use Rattle.ferry_repo.specs.declared.shared.SharedPieces.{SharedPieces}
use Rattle.ferry_repo.proofs.NotedLemmas.{told_noted}

-- what holds of the first of some chunks and of all behind it holds of all
pub all_behind : (P : ChunkRef → Type 0) (chunks : List ChunkRef) (d : ChunkRef) → 1 ≤ length chunks → P (get_or chunks 0 d)
    → AllByRecursion P (take (length chunks - 1) (drop 1 chunks)) → AllByRecursion P chunks
all_behind P [] d some first rest = tt
all_behind P (chunk ∷ chunks) d some first rest = (first, subst (AllByRecursion P) (take_all (length (chunk ∷ chunks) - 1) chunks (omega arith)) rest)

-- ---- sizes

pub size_append : (chunks others : List ChunkRef) → total_size (chunks ++ others) ≡ total_size chunks + total_size others
size_append chunks others = sum_by-append (λ (chunk : ChunkRef). chunk.size) chunks others

pub size_to : (at count : ℕ) (chunks : List ChunkRef)
    → total_size (take (at + count) chunks) ≡ total_size (take at chunks) + total_size (take count (drop at chunks))
size_to at count chunks = ap total_size (take-add at count chunks) ∙ size_append (take at chunks) (take count (drop at chunks))

-- ---- contents of chunks

-- contents that come of chunks behind others
pub record ComesApart (files : Files) (log : LogState) (keys : Keys) (chunks others : List ChunkRef) (contents : List (List ℕ)) : Type 0 where
  pub first : List (List ℕ)
  pub then : List (List ℕ)
  pub split : contents ≡ first ++ then
  pub come_first : ContentsCome files log keys chunks first None
  pub come_then : ContentsCome files log keys others then None

pub come_apart : (files : Files) (log : LogState) (keys : Keys) (chunks others : List ChunkRef) (contents : List (List ℕ))
    → ContentsCome files log keys (chunks ++ others) contents None → ComesApart files log keys chunks others contents
come_apart files log keys [] others contents come = record { first = []; then = contents; split = refl; come_first = tt; come_then = come }
come_apart files log keys (chunk ∷ chunks) others [] come = absurd come
come_apart files log keys (chunk ∷ chunks) others (content ∷ contents) come =
    let behind = come_apart files log keys chunks others contents come.1 in
    record {
      first = content ∷ behind.first;
      then = behind.then;
      split = ap (λ (rest : List (List ℕ)). content ∷ rest) behind.split;
      come_first = (come.0, behind.come_first);
      come_then = behind.come_then;
    }

pub come_length : (files : Files) (log : LogState) (keys : Keys) (chunks : List ChunkRef) (contents : List (List ℕ))
    → ContentsCome files log keys chunks contents None → length (joined contents) ≡ total_size chunks
come_length files log keys [] [] come = refl
come_length files log keys [] (content ∷ contents) come = absurd come
come_length files log keys (chunk ∷ chunks) [] come = absurd come
come_length files log keys (chunk ∷ chunks) (content ∷ contents) come =
    length-append content (joined contents) ∙ omega (
      arith,
      come.0.size,
      come_length files log keys chunks contents come.1,
      sum_by-cons (λ (c : ChunkRef). c.size) chunk chunks,
    )

pub joined_append : (some more : List (List ℕ)) → joined (some ++ more) ≡ joined some ++ joined more
joined_append [] more = refl
joined_append (one ∷ some) more = ap (λ (rest : List ℕ). one ++ rest) (joined_append some more) ∙ sym (append_assoc one (joined some) (joined more))

-- ---- pieces

pub concat_length : (block : ℕ) (pieces : List (List ℕ)) → All (λ (one : List ℕ). length one ≡ block) pieces
    → length (concat pieces) ≡ length pieces * block
concat_length block [] full = omega arith
concat_length block (one ∷ pieces) full =
    let size = All-head (λ (p : List ℕ). length p ≡ block) one pieces full in
    let behind = concat_length block pieces (All-tail (λ (p : List ℕ). length p ≡ block) one pieces full) in
    length-append one (concat pieces) ∙ omega (arith, size, behind)

-- pieces whose chunks state a block have one
pub full_of : (key : List ℕ) (block : ℕ) (pieces : List (List ℕ))
    → AllByRecursion (λ (piece : ChunkRef). piece.size ≡ block) (map (piece_under key) pieces) → All (λ (one : List ℕ). length one ≡ block) pieces
full_of key block [] all = All-nil (λ (one : List ℕ). length one ≡ block)
full_of key block (piece ∷ pieces) all =
    All-cons (λ (one : List ℕ). length one ≡ block) piece pieces all.0 (full_of key block pieces all.1)

-- of two splits of one content, the second part of which begins at the same byte, that part of one is the front of the other's
split_at : (a x ca y : List ℕ) (skip : ℕ) → a ++ x ≡ ca ++ y → length a ≡ length ca + skip → x ≡ drop skip y
split_at a x ca y skip same long =
    let dropped : drop (length a) (a ++ x) ≡ drop (length a) (ca ++ y) = ap (drop (length a)) same in
    let far : drop (length a) (ca ++ y) ≡ drop skip y =
    ap (λ (n : ℕ). drop n (ca ++ y)) long ∙ drop-append-add ca y skip in
    sym (drop_at a x (length a) refl) ∙ dropped ∙ far

-- whole pieces and what follows them are what two parts are, where the first of these is as long: they are in it
pub record StandIn (mid part : List ℕ) (skip left : ℕ) : Type 0 where
  pub front : List ℕ
  pub rest : List ℕ
  pub split : part ≡ front ++ (mid ++ rest)
  pub front_is : length front ≡ skip
  pub rest_is : length rest ≡ left

stand_in : (mid behind part later : List ℕ) (skip left : ℕ) → mid ++ behind ≡ drop skip (part ++ later)
    → skip + length mid + left ≡ length part → StandIn mid part skip left
stand_in mid behind part later skip left same covers =
    let inside : drop skip (part ++ later) ≡ drop skip part ++ later = drop-append-le skip part later (omega arith) in
    let long : length (drop skip part) ≡ length part - skip = length-drop skip part in
    let is : take (length mid) (mid ++ behind) ≡ take (length mid) (drop skip part ++ later) = ap (take (length mid)) (same ∙ inside) in
    let mid_is : mid ≡ take (length mid) (drop skip part) =
    sym (take_at mid behind (length mid) refl) ∙ (is ∙ take-append-le (length mid) (drop skip part) later (omega arith)) in
    record {
      front = take skip part;
      rest = drop (length mid) (drop skip part);
      split = sym (ap (λ (m : List ℕ). take skip part ++ (m ++ drop (length mid) (drop skip part))) mid_is
          ∙ (ap (λ (b : List ℕ). take skip part ++ b) (take-append-drop (length mid) (drop skip part)) ∙ take-append-drop skip part));
      front_is = length-take-le skip part (omega arith);
      rest_is = length-drop (length mid) (drop skip part) ∙ omega arith;
    }

-- the pieces from one on, as far as they are whole, and what stands in front of them and behind them
pub record CutParts (block first count : ℕ) (content : List ℕ) : Type 0 where
  pub ahead : List ℕ
  pub behind : List ℕ
  pub split : ahead ++ (concat (take count (drop first (cut block content))) ++ behind) ≡ content
  pub ahead_is : length ahead ≡ first * block

cut_parts : (block first count : ℕ) (content : List ℕ) → 1 ≤ block → 1 ≤ length (take count (drop first (cut block content)))
    → CutParts block first count content
cut_parts block first count content least many =
    let all = cut block content in
    let is = cut_is block content least in
    let inside : first + 1 ≤ length all = omega (arith, length-take count (drop first all), length-drop first all, many) in
    let near : take first (take (length all - 1) all) ≡ take first all = take-take first (length all - 1) all (omega arith) in
    record {
      ahead = concat (take first all);
      behind = concat (drop count (drop first all));
      split = ap (λ (b : List ℕ). concat (take first all) ++ b) (sym (concat-append (take count (drop first all)) (drop count (drop first all)))
          ∙ ap (λ (ps : List (List ℕ)). concat ps) (take-append-drop count (drop first all)))
          ∙ (sym (concat-append (take first all) (drop first all)) ∙ (ap (λ (ps : List (List ℕ)). concat ps) (take-append-drop first all) ∙ is.joined));
      ahead_is = concat_length block (take first all) (subst (All (λ (one : List ℕ). length one ≡ block)) near
          (All-take (λ (one : List ℕ). length one ≡ block) first (take (length all - 1) all) is.whole))
          ∙ ap (λ (n : ℕ). n * block) (length-take-le first all (omega arith));
    }

-- the same of a content that chunks are: what stands whole in some of them
chunks_hold : (files : Files) (log : LogState) (keys : Keys) (key : List ℕ) (block at count first many : ℕ) (chunks : List ChunkRef) (skip left : ℕ)
    (content : List ℕ) → 1 ≤ block → 1 ≤ length (take many (drop first (cut block content)))
    → All (λ (one : List ℕ). length one ≡ block) (take many (drop first (cut block content)))
    → total_size (take at chunks) + skip ≡ first * block
    → skip + length (take many (drop first (cut block content))) * block + left ≡ total_size (take count (drop at chunks))
    → HoldsJoined files log keys (Some chunks) (Some content)
    → (part : List ℕ) × (StandIn (concat (take many (drop first (cut block content)))) part skip left
    × HoldsJoined files log keys (Some (take count (drop at chunks))) (Some part))
chunks_hold files log keys key block at count first many chunks skip left content least some full begins covers holds =
    let wholes = take many (drop first (cut block content)) in
    let cuts = cut_parts block first many content least some in
    let split : take at chunks ++ drop at chunks ≡ chunks = take-append-drop at chunks in
    let inner : take count (drop at chunks) ++ drop count (drop at chunks) ≡ drop at chunks = take-append-drop count (drop at chunks) in
    let outer = come_apart files log keys (take at chunks) (drop at chunks) holds.0
    (subst (λ (cs : List ChunkRef). ContentsCome files log keys cs holds.0 None) (sym split) holds.1) in
    let inside = come_apart files log keys (take count (drop at chunks)) (drop count (drop at chunks)) outer.then
    (subst (λ (cs : List ChunkRef). ContentsCome files log keys cs outer.then None) (sym inner) outer.come_then) in
    let front = joined outer.first in
    let part = joined inside.first in
    let later = joined inside.then in
    let bytes : content ≡ front ++ (part ++ later) =
    holds.2 ∙ (ap joined outer.split ∙ (joined_append outer.first outer.then
    ∙ ap (λ (b : List ℕ). front ++ b) (ap joined inside.split ∙ joined_append inside.first inside.then))) in
    let front_long = come_length files log keys (take at chunks) outer.first outer.come_first in
    let part_long = come_length files log keys (take count (drop at chunks)) inside.first inside.come_first in
    let same = split_at cuts.ahead (concat wholes ++ cuts.behind) front (part ++ later) skip (cuts.split ∙ bytes) (omega (
      arith,
      cuts.ahead_is,
      begins,
      front_long,
    )) in
    let wide = concat_length block wholes full in (
      part,
      (
        stand_in (concat wholes) cuts.behind part later skip left same (omega (arith, wide, covers, part_long)),
        (inside.first, inside.come_first, refl),
      ),
    )

-- what a note says of a content that shares pieces with it
shared_holds : (told : Option Told) (repo : RepoState) (note : Note) (chunks : List ChunkRef) (shared : SharedPieces) (content : List ℕ)
    → note.pieces ≡ map (piece_under note.key) (cut note.block content)
    → IfSome told (λ t. HoldsJoined (told_files t) repo.log repo.keys (Some note.chunks) (Some content))
    → IsShared note chunks shared → SharesPieces told repo note.key note.block chunks shared
shared_holds told repo note chunks shared content cuts holds is = by told holds where
  wholes : List (List ℕ)
  wholes = take (length shared.pieces) (drop is.first (cut note.block content))

  pieces_are : shared.pieces ≡ map (piece_under note.key) wholes
  pieces_are = is.pieces ∙ (ap (λ (ps : List ChunkRef). take (length shared.pieces) (drop is.first ps)) cuts
      ∙ (ap (take (length shared.pieces)) (drop-map (piece_under note.key) is.first (cut note.block content))
      ∙ take-map (piece_under note.key) (length shared.pieces) (drop is.first (cut note.block content))))

  many : length wholes ≡ length shared.pieces
  many = sym (ap length pieces_are ∙ length-map wholes (piece_under note.key))

  full : All (λ (one : List ℕ). length one ≡ note.block) wholes
  full = full_of note.key note.block wholes (subst (AllByRecursion (λ (piece : ChunkRef). piece.size ≡ note.block)) pieces_are is.whole)

  made : (told : Option Told) (part : List ℕ) → StandIn (concat wholes) part shared.skip shared.left
      → IfSome told (λ t. HoldsJoined (told_files t) repo.log repo.keys (Some (chunks_from chunks shared.place shared.end)) (Some part))
      → SharesPieces told repo note.key note.block chunks shared
  made told part stands there = record {
    some = is.some;
    within = is.within;
    front = is.front;
    behind = is.behind;
    content = part;
    has = record {
      front = stands.front;
      wholes = wholes;
      behind = stands.rest;
      split = stands.split;
      front_is = stands.front_is;
      behind_is = stands.rest_is;
      full = full;
      pieces_are = pieces_are;
    };
    holds = there;
  }

  by : (told : Option Told) → IfSome told (λ t. HoldsJoined (told_files t) repo.log repo.keys (Some note.chunks) (Some content))
      → SharesPieces told repo note.key note.block chunks shared
  by None none = made None (replicate shared.skip 0 ++ (concat wholes ++ replicate shared.left 0)) (record {
    front = replicate shared.skip 0;
    rest = replicate shared.left 0;
    split = refl;
    front_is = length-replicate shared.skip 0;
    rest_is = length-replicate shared.left 0;
  }) tt
  by (Some t) there =
      let so = chunks_hold (told_files t) repo.log repo.keys note.key note.block is.at (shared.end - shared.place) is.first (length shared.pieces) note.chunks
      shared.skip shared.left content is.least (subst (λ (n : ℕ). 1 ≤ n) (sym many) is.many) full is.begins
      (subst (λ (n : ℕ). shared.skip + n * note.block + shared.left ≡ total_size (take (shared.end - shared.place) (drop is.at note.chunks))) (sym many)
      (is.covers ∙ ap total_size is.same)) there in
      made (Some t) so.0 so.1.0 (subst (λ (cs : List ChunkRef). HoldsJoined (told_files t) repo.log repo.keys (Some cs) (Some so.0)) (sym is.same) so.1.1)

-- the same of all that were found
pub all_shared : (repo : RepoState) (kept : Contents) (note : Note) (chunks : List ChunkRef) (key : List ℕ) (block : ℕ) (all : List SharedPieces)
    → note.key ≡ key → note.block ≡ block → IsCut note → ((files : Files) → FitsRepo files repo kept → IsNoted files repo.log repo.keys note)
    → AllByRecursion (IsShared note chunks) all
    → AllByRecursion (λ (shared : SharedPieces). (told : Option Told) → IfSome told (λ t. FitsRepo (told_files t) repo kept)
    → SharesPieces told repo key block chunks shared) all
all_shared repo kept note chunks key block [] same_key same_block is noted found = tt
all_shared repo kept note chunks key block (shared ∷ all) same_key same_block is noted found = (
  λ told fits.
      let so = told_noted told repo kept note is noted fits in
      subst (λ (k : List ℕ). SharesPieces told repo k block chunks shared) same_key
      (subst (λ (b : ℕ). SharesPieces told repo note.key b chunks shared) same_block (shared_holds told repo note chunks shared so.0 so.1.0 so.1.1 found.0)),
  all_shared repo kept note chunks key block all same_key same_block is noted found.1,
)
