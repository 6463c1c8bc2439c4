-- Lemmas on specs/Piece.antt: a writer of pieces from round to round, and what its last piece is.
use Rattle.std.proofs.Common.{◌≡◌, ◌≤◌, ◌<◌, ◌+◌, ◌-◌, ◌^◌, ℕ, inl, inr, Bool, true, false, if◌then◌else◌, List, [], ◌∷◌, ◌++◌}
use Rattle.std.proofs.Common.{Option, Some, None, IsSome, is_some, Result, Ok, Err, OnOk, IsErrAnd}
use Rattle.std.proofs.Common.{length, min, take, drop, refl, sym, ◌∙◌, ap, subst, arith}
use Rattle.std.proofs.lemmas.Bool.{cases_lt}
use Rattle.std.proofs.lemmas.List.{append-nil, append_assoc, drop_all, length-append, length-take, map-append}
use Rattle.std.proofs.lemmas.List.Elements.{All-nil}
use Rattle.std.specs.List.{concat}
use Rattle.ferry_item.specs.declared.item.ChunkRef.{ChunkRef}
use Rattle.ferry_mac.specs.declared.keys.Keys.{Keys}
use Rattle.ferry_rechunk.proofs.CutLemmas.{cut_nothing}
use Rattle.ferry_rechunk.proofs.FeedLemmas.{FedSoFar, next_round, none_yet, one_more}
use Rattle.ferry_rechunk.specs.Cut.{cut}
use Rattle.ferry_rechunk.specs.Cutting.{Cutting, IsFed}
use Rattle.ferry_piece.proofs.AddingLemmas.{held_spent, spent_unbroken, stops_then, stops_unbroken, unspent_then}
use Rattle.ferry_piece.proofs.FewLemmas.{begun_same, begun_then}
use Rattle.ferry_piece.proofs.CheckpointLemmas.{each_room, room_makes, room_stands, room_then}
use Rattle.ferry_piece.proofs.GoesLemmas.{adds_room, first_room}
use Rattle.ferry_piece.proofs.PutsLemmas.{bytes_append, count_append}
use Rattle.ferry_piece.proofs.WorkLemmas.{gathered_then, works_as, works_front, works_then}
use Rattle.ferry_piece.specs.Adding.{AddsOn, HoldsRefused, HoldsUntil, SparesStore, BeginsSegments}
use Rattle.ferry_piece.specs.Front.{CommitsPieces}
use Rattle.ferry_piece.specs.Gather.{Gathers, KeepsRest, KeepsStanding, MakesRoom, chunk_of, chunks_of}
use Rattle.ferry_piece.specs.Piece.{BeginsOn, CountsOn, IsPutBy, WritesOn}
use Rattle.ferry_piece.specs.Puts.{Addition, AddsAll, AddsFirst, Content, IsCheckpoint, Kind, Record, Stream, Within, addition, is_piece, put_bytes, put_count}
use Rattle.ferry_piece.specs.Stops.{is_target}
use Rattle.ferry_piece.specs.Work.{Works}
use Rattle.ferry_piece.specs.declared.fault.CarryFault.{CarryFault}
use Rattle.ferry_piece.specs.declared.piece.PieceWriter.{PieceWriter}
use Rattle.ferry_disk.proofs.MomentLemmas.{between_then}
use Rattle.ferry_disk.specs.Act.{History}
use Rattle.ferry_disk.specs.Device.{Told}
use Rattle.ferry_disk.specs.Moments.{Between}
use Rattle.ferry_repo.specs.Opening.{repo_view}
use Rattle.ferry_store.specs.Adding.{Checkpoints, id_under}
use Rattle.ferry_store.specs.Content.{IsNew}
use Rattle.ferry_store.specs.Standing.{entries_of}
use Rattle.ferry_store.specs.Store.{IsUnspent}
use Rattle.ferry_store.specs.declared.content.Added.{Added}
use Rattle.ferry_store.specs.declared.store.Store.{Store}
use Rattle.ferry_write.specs.Script.{AllDone}

-- ---- the last piece

pub none_there : {T : Type 0} (o : Option T) → is_some o ≡ false → IsSome o → ⊥
none_there None none some = let no : ⊥ = cc in no
none_there (Some x) none some = let no : ⊥ = cc in no

no_bytes : (piece : List ℕ) → (1 ≤ length piece → ⊥) → piece ≡ []
no_bytes [] none = refl
no_bytes (byte ∷ bytes) none = absurd (none (omega arith))

-- the cut of a piece that is empty
pub cut_none : (block : ℕ) (piece : List ℕ) → 1 ≤ block → (1 ≤ length piece → ⊥) → cut block piece ≡ []
cut_none block piece some none = ap (cut block) (no_bytes piece none) ∙ cut_nothing block some

-- the chunks of no piece more
pub none_more : (keys : Keys) (chunks : List ChunkRef) (pieces : List (List ℕ)) → pieces ≡ [] → chunks ≡ chunks ++ chunks_of keys pieces
none_more keys chunks pieces none = sym (append-nil chunks) ∙ ap (λ (ps : List (List ℕ)). chunks ++ chunks_of keys ps) (sym none)

-- the chunks of some pieces more, and of more behind them
pub chunks_more : (keys : Keys) (chunks : List ChunkRef) (some more : List (List ℕ))
    → (chunks ++ chunks_of keys some) ++ chunks_of keys more ≡ chunks ++ chunks_of keys (some ++ more)
chunks_more keys chunks some more =
    append_assoc chunks (chunks_of keys some) (chunks_of keys more)
    ∙ ap (λ (cs : List ChunkRef). chunks ++ cs) (sym (map-append (chunk_of keys) some more))

-- ---- rounds

-- A front of the bytes was written: these pieces became whole.
pub record WritesSoFar (keys : Keys) (cutter : Cutting) (chunks : List ChunkRef) (bytes rest : List ℕ) (more : List (List ℕ)) (cutter_now : Cutting)
    (chunks_now : List ChunkRef) : Type 0 where
  pub fed : (taken : List (List ℕ)) → FedSoFar cutter.block bytes rest taken cutter.piece (taken ++ more) cutter_now.piece
  pub chunks_are : chunks_now ≡ chunks ++ chunks_of keys more

pub none_written : (keys : Keys) (cutter : Cutting) (chunks : List ChunkRef) (bytes : List ℕ) → WritesSoFar keys cutter chunks bytes bytes [] cutter chunks
none_written keys cutter chunks bytes = record {
  fed = λ taken. subst (λ (ps : List (List ℕ)). FedSoFar cutter.block bytes bytes taken cutter.piece ps cutter.piece) (sym (append-nil taken))
      (none_yet cutter.block bytes taken cutter.piece);
  chunks_are = sym (append-nil chunks);
}

-- a round in which a piece becomes whole and is added
pub one_written : (keys keys_now : Keys) (cutter : Cutting) (chunks : List ChunkRef) (bytes rest behind : List ℕ) (more : List (List ℕ))
    (middle grown cleared : Cutting) (chunks_middle chunks_now : List ChunkRef) (taken : ℕ)
    → WritesSoFar keys cutter chunks bytes rest more middle chunks_middle → keys_now ≡ keys → middle.block ≡ cutter.block → grown.block ≡ middle.block
    → grown.piece ≡ middle.piece ++ take taken rest → length grown.piece ≡ grown.block → behind ≡ drop taken rest
    → chunks_now ≡ chunks_middle ++ chunk_of keys_now grown.piece ∷ [] → cleared.piece ≡ []
    → WritesSoFar keys cutter chunks bytes behind (more ++ grown.piece ∷ []) cleared chunks_now
one_written keys keys_now cutter chunks bytes rest behind more middle grown cleared chunks_middle chunks_now taken so same block kept grows whole goes put
    cleared_is = record {
      fed = λ before.
          next_round cutter.block bytes rest before cutter.piece (before ++ more) middle.piece taken grown.piece behind (before ++ (more ++ grown.piece ∷ []))
          cleared.piece (so.fed before) grows (whole ∙ (kept ∙ block)) goes (sym (append_assoc before more (grown.piece ∷ []))) cleared_is;
      chunks_are = put ∙ (ap (λ (k : Keys). chunks_middle ++ chunk_of k grown.piece ∷ []) same
          ∙ (ap (λ (cs : List ChunkRef). cs ++ chunk_of keys grown.piece ∷ []) so.chunks_are ∙ chunks_more keys chunks more (grown.piece ∷ [])));
    }

-- the round in which none becomes whole is the last
all_taken : (rest : List ℕ) (piece : List ℕ) (block taken : ℕ) → length piece < block → taken ≡ min (length rest) (block - length piece)
    → (length (piece ++ take taken rest) ≡ block → ⊥) → length rest ≤ taken
all_taken rest piece block taken room is part = elim (cases_lt taken (length rest)) [
  | inl fewer ↦
      let all : taken ≡ block - length piece = omega (arith, is, fewer) in
      absurd (part (omega (arith, length-append piece (take taken rest), length-take taken rest)))
  | inr fits ↦ fits
]

pub all_written : (keys : Keys) (cutter : Cutting) (chunks : List ChunkRef) (bytes rest : List ℕ) (more : List (List ℕ)) (middle grown : Cutting)
    (chunks_now : List ChunkRef) (taken : ℕ) → WritesSoFar keys cutter chunks bytes rest more middle chunks_now → middle.block ≡ cutter.block
    → length middle.piece < middle.block → taken ≡ min (length rest) (middle.block - length middle.piece)
    → grown.piece ≡ middle.piece ++ take taken rest → grown.block ≡ middle.block → length grown.piece ≤ grown.block
    → (length grown.piece ≡ grown.block → ⊥) → WritesOn keys cutter chunks bytes more grown chunks_now
all_written keys cutter chunks bytes rest more middle grown chunks_now taken so block room is grows kept fits part = record {
  fed = λ fed before was.
      let whole : length rest ≤ taken =
      all_taken rest middle.piece middle.block taken room is (λ e. part (ap length grows ∙ (e ∙ sym kept))) in
      let within : length (middle.piece ++ take taken rest) ≤ cutter.block =
      subst (λ (n : ℕ). length (middle.piece ++ take taken rest) ≤ n) (kept ∙ block) (subst (λ (p : List ℕ). length p ≤ grown.block) grows fits) in
      let last = one_more cutter.block bytes rest before cutter.piece (before ++ more) middle.piece taken within (so.fed before) in
      let front : last.front ≡ bytes =
      sym (append-nil last.front) ∙ (ap (λ (r : List ℕ). last.front ++ r) (sym (drop_all taken rest whole)) ∙ last.split) in
      let P : List ℕ → Type 0 = λ piece. IsFed cutter.block (fed ++ bytes) (before ++ more) piece in
      let Q : List ℕ → Type 0 = λ f. IsFed cutter.block (fed ++ f) (before ++ more) (middle.piece ++ take taken rest) in
      subst P (sym grows) (subst Q front (last.fed fed was));
  chunks_are = so.chunks_are;
  room = omega (arith, fits, part);
  block = kept ∙ block;
}

-- ---- where a result is `Ok`

pub ok_to : {T : Type 0} (P Q : Type 0) (r : Result T CarryFault) → (P → Q) → OnOk r P → OnOk r Q
ok_to P Q (Ok x) step p = step p
ok_to P Q (Err fault) step p = tt

-- ---- as far as it came

-- what is in hand is all that was fed
pub hand_fed : (cutter : Cutting) → length cutter.piece ≤ cutter.block → IsFed cutter.block cutter.piece [] cutter.piece
hand_fed cutter fits = record { joined = refl; whole = All-nil (λ (one : List ℕ). length one ≡ cutter.block); fits = fits }

-- the pieces that became whole so far are the first ones
pub begins_so_far : (keys : Keys) (cutter : Cutting) (chunks : List ChunkRef) (bytes rest : List ℕ) (more : List (List ℕ)) (now : Cutting)
    (chunks_now : List ChunkRef) → length cutter.piece < cutter.block → WritesSoFar keys cutter chunks bytes rest more now chunks_now
    → BeginsOn cutter bytes more
begins_so_far keys cutter chunks bytes rest more now chunks_now room so =
    let far = so.fed [] in
    let is = far.fed cutter.piece (hand_fed cutter (omega (arith, room))) in
    record {
      rest = now.piece ++ rest;
      joined = sym (append_assoc (concat more) now.piece rest) ∙ (ap (λ (b : List ℕ). b ++ rest) is.joined
          ∙ (append_assoc cutter.piece far.front rest ∙ ap (λ (b : List ℕ). cutter.piece ++ b) far.split));
      whole = is.whole;
    }

-- those that became whole of all bytes are the first ones too
pub begins_written : (keys : Keys) (cutter : Cutting) (chunks : List ChunkRef) (bytes : List ℕ) (more : List (List ℕ)) (now : Cutting)
    (chunks_now : List ChunkRef) → length cutter.piece < cutter.block → WritesOn keys cutter chunks bytes more now chunks_now → BeginsOn cutter bytes more
begins_written keys cutter chunks bytes more now chunks_now room writes =
    let is = writes.fed cutter.piece [] (hand_fed cutter (omega (arith, room))) in
    record { rest = now.piece; joined = is.joined; whole = is.whole }

pub begins_nothing : (cutter : Cutting) (bytes : List ℕ) → BeginsOn cutter bytes []
begins_nothing cutter bytes =
    record { rest = cutter.piece ++ bytes; joined = refl; whole = All-nil (λ (one : List ℕ). length one ≡ cutter.block) }

-- ---- how much was put

pub counts_none : (kind : Kind) (writer : PieceWriter) → CountsOn kind writer [] writer
unfolding put_count put_bytes
counts_none kind writer = record { put = λ range. omega (arith, range); bytes = λ range. omega (arith, range) }

pub counts_then : (kind : Kind) (writer middle now : PieceWriter) (some more : List Addition) → CountsOn kind writer some middle
    → CountsOn kind middle more now → CountsOn kind writer (some ++ more) now
counts_then kind writer middle now some more p q = record {
  put = λ range.
      let so : middle.put ≡ min (writer.put + put_count kind some) (2 ^ 64 - 1) = p.put range in
      omega (arith, so, q.put (omega (arith, so)), count_append kind some more);
  bytes = λ range.
      let so : middle.bytes ≡ min (writer.bytes + put_bytes kind some) (2 ^ 128 - 1) = p.bytes range in
      omega (arith, so, q.bytes (omega (arith, so)), bytes_append kind some more);
}

-- one that is put counts as one
count_one : (kind : Kind) (content : List ℕ) (put : Bool) → put_count kind (addition kind content put ∷ []) ≡ (if put then 1 else 0)
unfolding put_count
count_one kind content false = refl
count_one Content content true = refl
count_one Stream content true = refl
count_one Record content true = refl

bytes_one : (kind : Kind) (content : List ℕ) (put : Bool) → put_bytes kind (addition kind content put ∷ []) ≡ (if put then length content else 0)
unfolding put_bytes
bytes_one kind content false = refl
bytes_one Content content true = omega arith
bytes_one Stream content true = omega arith
bytes_one Record content true = omega arith

pub counts_one : (kind : Kind) (writer now : PieceWriter) (content : List ℕ) (put : Bool) (size : ℕ) → length content ≡ size
    → now.put ≡ min (writer.put + (if put then 1 else 0)) (2 ^ 64 - 1) → now.bytes ≡ min (writer.bytes + (if put then size else 0)) (2 ^ 128 - 1)
    → CountsOn kind writer (addition kind content put ∷ []) now
counts_one kind writer now content put size is counted counted_bytes = record {
  put = λ range. counted ∙ ap (λ (n : ℕ). min (writer.put + n) (2 ^ 64 - 1)) (sym (count_one kind content put));
  bytes = λ range. counted_bytes ∙ (ap (λ (n : ℕ). min (writer.bytes + (if put then n else 0)) (2 ^ 128 - 1)) (sym is)
      ∙ ap (λ (n : ℕ). min (writer.bytes + n) (2 ^ 128 - 1)) (sym (bytes_one kind content put)));
}

-- by the numbers alone
pub counts_by : (kind : Kind) (writer other now last : PieceWriter) (more : List Addition) → other.put ≡ writer.put → other.bytes ≡ writer.bytes
    → last.put ≡ now.put → last.bytes ≡ now.bytes → CountsOn kind writer more now → CountsOn kind other more last
counts_by kind writer other now last more put bytes put_now bytes_now p = record {
  put = λ range. put_now ∙ (p.put (subst (λ (n : ℕ). n < 2 ^ 64) put range)
      ∙ ap (λ (n : ℕ). min (n + put_count kind more) (2 ^ 64 - 1)) (sym put));
  bytes = λ range. bytes_now ∙ (p.bytes (subst (λ (n : ℕ). n < 2 ^ 128) bytes range)
      ∙ ap (λ (n : ℕ). min (n + put_bytes kind more) (2 ^ 128 - 1)) (sym bytes));
}

-- ---- whether a content was put

-- one that was refused counts as put
pub refused_put : (put : Bool) (result : Result Added CarryFault) (fault : CarryFault) → IsErrAnd result (λ y. y ≡ fault) → IsPutBy put result → put ≡ true
refused_put put (Ok added) fault err is = absurd err
refused_put put (Err other) fault err is = is

-- ---- a checkpoint before a piece

-- as many are pending as may be, and the piece is to be put: the checkpoint comes before it
pub room_works : {T : Type 0} (most : ℕ) (store now : Store) (one : Addition) (a b : Option Told) (n m : ℕ) (result : Result T CarryFault)
    → IsCheckpoint most → is_piece one.kind ≡ true → store.pending ≡ most → IsNew (repo_view store.repo) (id_under store one.content)
    → OnOk result (now.repo ≡ store.repo)
    → Works (CommitsPieces store) (λ (_ : T). Checkpoints store now) a b n m result
    → Works (KeepsStanding most store (one ∷ [])) (λ (_ : T). MakesRoom most store one now) a b n m result
room_works {T} most store now one a b n m (Ok x) checkpoint piece full new repo p =
    works_as (CommitsPieces store) (λ (_ : T). Checkpoints store now)
    (KeepsStanding most store (one ∷ [])) (λ (_ : T). MakesRoom most store one now) a b n m x x
    (λ h g e. room_stands most store one h g checkpoint piece full new e)
    (λ h g e. room_makes most store now one h g checkpoint repo piece full new e) p
room_works {T} most store now one a b n m (Err fault) checkpoint piece full new repo p =
    works_front (CommitsPieces store) (λ (_ : T). Checkpoints store now)
    (KeepsStanding most store (one ∷ [])) (λ (_ : T). MakesRoom most store one now) a b n m fault
    (λ h g e. room_stands most store one h g checkpoint piece full new e) p

-- how far a piece was added behind what came before it
until_room : (target : Bool) (most : ℕ) (store middle now : Store) (one : Addition) (h g i : History) → IsCheckpoint most
    → (repo_view middle.repo).keys ≡ (repo_view store.repo).keys → MakesRoom most store one middle h g
    → HoldsUntil target Within most middle (one ∷ []) now g i → HoldsUntil target Within most store (one ∷ []) now h i
until_room true most store middle now one h g i checkpoint same p q = λ counts fits.
    let first = p counts fits in
    let second = q counts first.fits_now in
    let from = entries_of first.fits_now.written in
    let end = entries_of second.0 in (
      second.0,
      (
        second.1.0,
        first_room (repo_view store.repo).keys most (entries_of fits.written) from one end checkpoint first.comes
            (subst (λ (k : Keys). AddsFirst Within k most from (one ∷ []) end) same second.1.1),
      ),
    )
until_room false most store middle now one h g i checkpoint same p q = λ counts fits.
    let first = p counts fits in
    let second = q counts first.fits_now in
    let from = entries_of first.fits_now.written in
    let end = entries_of second.0.written in (
      second.0,
      adds_room (repo_view store.repo).keys most (entries_of fits.written) from one [] end checkpoint first.comes
          (subst (λ (k : Keys). AddsAll Within k most from (one ∷ []) end) same second.1),
    )

held_room : {U : Type 0} (most : ℕ) (store middle now : Store) (one : Addition) (a b c : Option Told) (result : Result U CarryFault) → IsCheckpoint most
    → (repo_view middle.repo).keys ≡ (repo_view store.repo).keys → (IsUnspent store → IsUnspent middle)
    → Between a b (λ h g. AllDone h g × MakesRoom most store one middle h g)
    → HoldsRefused Within most middle (one ∷ []) now b c result → HoldsRefused Within most store (one ∷ []) now a c result
held_room {U} most store middle now one a b c (Ok x) checkpoint same unspent makes held = tt
held_room {U} most store middle now one a b c (Err fault) checkpoint same unspent makes held = λ spares.
    let target = is_target fault in
    let left = held spares in (
      λ was. left.0 (unspent was),
      between_then a b c (λ h g. AllDone h g × MakesRoom most store one middle h g) (HoldsUntil target Within most middle (one ∷ []) now)
          (HoldsUntil target Within most store (one ∷ []) now)
          (λ h g i e f. until_room target most store middle now one h g i checkpoint same e.1 f) makes left.1,
    )

-- a piece that was added behind what came before it
pub room_added : {T U : Type 0} (most : ℕ) (store middle now : Store) (one : Addition) (a b c : Option Told) (n m k : ℕ) (x : T)
    (result : Result U CarryFault) → IsCheckpoint most → KeepsRest store middle → IsUnspent middle → BeginsSegments {T = T} 1 store middle (Ok x)
    → Works (KeepsStanding most store (one ∷ [])) (λ (_ : T). MakesRoom most store one middle) a b n m (Ok x)
    → BeginsSegments {T = U} 1 middle now result → AddsOn most middle (one ∷ []) now b c m k result → AddsOn most store (one ∷ []) now a c n k result
room_added {T} {U} most store middle now one a b c n m k x result checkpoint rest unspent room p few q = record {
  works = works_then (KeepsStanding most store (one ∷ [])) (λ (_ : T). MakesRoom most store one middle) (KeepsStanding most middle (one ∷ []))
      (λ (_ : U). Gathers most middle (one ∷ []) now) (KeepsStanding most store (one ∷ [])) (λ (_ : U). Gathers most store (one ∷ []) now) a b c n m k x
      result (λ h g i e d f r. each_room most store middle one h g i checkpoint rest.keys e d f r)
      (λ _ h g i e f. room_then most store middle now one h g i checkpoint rest e f) p q.works;
  last = stops_then {T = U} a b (repo_view store.repo).keys (repo_view middle.repo).keys [] (one ∷ []) result p.ends rest.keys q.last;
  unspent = unspent_then {T = U} store middle now result (λ _. unspent) q.unspent;
  held = held_room {U = U} most store middle now one a b c result checkpoint rest.keys (λ _. unspent) p.end q.held;
  few = begun_then {T = T} {U = U} 1 1 2 store middle now (Ok x) result (omega arith) room few;
}

-- where there was no room for it
pub room_refused : {T U : Type 0} (most : ℕ) (store middle now : Store) (one : Addition) (a b : Option Told) (n m : ℕ) (fault : CarryFault)
    → (SparesStore fault → ⊥) → BeginsSegments {T = T} 1 store now (Err fault)
    → Works (KeepsStanding most store (one ∷ [])) (λ (_ : T). MakesRoom most store one middle) a b n m (Err fault)
    → AddsOn {T = U} most store (one ∷ []) now a b n m (Err fault)
room_refused {T} {U} most store middle now one a b n m fault spent room p = record {
  works = works_front (KeepsStanding most store (one ∷ [])) (λ (_ : T). MakesRoom most store one middle) (KeepsStanding most store (one ∷ []))
      (λ (_ : U). Gathers most store (one ∷ []) now) a b n m fault (λ h g e. e) p;
  last = stops_unbroken a (repo_view store.repo).keys (one ∷ []) fault (spent_unbroken fault spent);
  unspent = tt;
  held = held_spent {T = U} Within most store now (one ∷ []) a b (Err fault) spent;
  few = begun_same {T = T} {U = U} 1 2 store now fault (omega arith) room;
}

-- ---- pieces that were added

-- the same under another word for the checkpoint
pub pieces_at : {T : Type 0} (most count : ℕ) (store now : Store) (more : List Addition) (a b : Option Told) (n m : ℕ) (result : Result T CarryFault)
    → count ≡ most → AddsOn count store more now a b n m result → AddsOn most store more now a b n m result
pieces_at {T} most count store now more a b n m result same p = subst (λ (held : ℕ). AddsOn held store more now a b n m result) same p

-- pieces behind pieces
pub pieces_then : {T U : Type 0} (most first second : ℕ) (store middle now : Store) (some more : List Addition) (a b c : Option Told) (n m k : ℕ) (x : T)
    (result : Result U CarryFault) → first ≡ most → second ≡ most → KeepsRest store middle → OnOk result (KeepsRest middle now)
    → AddsOn first store some middle a b n m (Ok x) → AddsOn second middle more now b c m k result
    → AddsOn most store (some ++ more) now a c n k result
pieces_then {T} {U} most first second store middle now some more a b c n m k x result is is_now rest rest_now p q =
    gathered_then {T = T} {U = U} most store middle now some more a b c n m k x result rest rest_now
    (pieces_at {T = T} most first store middle some a b n m (Ok x) is p) (pieces_at {T = U} most second middle now more b c m k result is_now q)
