-- Lemmas on specs/Parts.antt: bytes and the contents of chunks, written one behind another, and the pieces that aren't read.
use Rattle.std.proofs.Common.{◌≡◌, ◌≤◌, ◌<◌, ◌+◌, ◌-◌, ℕ, List, [], ◌∷◌, ◌++◌, Option, Some, None, Result, Ok, Err, All, IfErr, IfSome, OnOk}
use Rattle.std.proofs.Common.{IsErrAnd, length, min, take, drop, get_or, false, true, refl, sym, ◌∙◌, ap, subst, arith, take-add}
use Rattle.std.proofs.lemmas.List.{append-nil, append_assoc, drop-drop, drop-take, drop_all, drop_at, drop_more, length-append, length-drop, length-take-le}
use Rattle.std.proofs.lemmas.List.{take-append-drop, take-append-le, take_all, take_at}
use Rattle.std.proofs.lemmas.List.Elements.{All-append, All-from_recursion, All-get_or}
use Rattle.std.proofs.lemmas.List.Folds.{concat-append}
use Rattle.std.proofs.lemmas.List.Sums.{sum_by-cons}
use Rattle.std.proofs.Math.Seq.{drop-append-add}
use Rattle.std.specs.List.{AllByRecursion, concat}
use Rattle.ferry_compare.proofs.StepLemmas.{at_first}
use Rattle.ferry_disk.proofs.DeviceLemmas.{told_any, told_then, told_with}
use Rattle.ferry_disk.specs.Device.{Told, heard, told_files}
use Rattle.ferry_disk.specs.Files.{Files}
use Rattle.ferry_item.specs.Stream.{joined}
use Rattle.ferry_item.specs.declared.item.ChunkRef.{ChunkRef}
use Rattle.ferry_mac.specs.declared.keys.Keys.{Keys}
use Rattle.ferry_piece.proofs.AddingLemmas.{source_unbroken}
use Rattle.ferry_piece.proofs.FaultLemmas.{source_still}
use Rattle.ferry_piece.proofs.FewLemmas.{source_unused, used_up}
use Rattle.ferry_piece.proofs.WorkLemmas.{gathered_nothing}
use Rattle.ferry_piece.proofs.PieceLemmas.{begins_nothing, begins_written, counts_then, hand_fed, ok_to, pieces_then}
use Rattle.ferry_piece.proofs.PutsLemmas.{contents_append, of_append}
use Rattle.ferry_piece.specs.Adding.{IsNoChunk}
use Rattle.ferry_piece.specs.Fault.{source_fault, target_failed}
use Rattle.ferry_piece.specs.Gather.{KeepsRest, chunks_of}
use Rattle.ferry_piece.specs.Piece.{BeginsOn, CountsOn, WritesOn}
use Rattle.ferry_piece.specs.Puts.{Content, IsCheckpoint, contents_in}
use Rattle.ferry_piece.specs.Stops.{is_target}
use Rattle.ferry_piece.specs.declared.fault.CarryFault.{CarryFault}
use Rattle.ferry_piece.specs.declared.fault.CarryFault.TheVariants.{Source, Target, Taken, NotFound, Pieces, Memory, Record}
use Rattle.ferry_piece.specs.declared.piece.PieceWriter.{PieceWriter}
use Rattle.ferry_rechunk.specs.Cutting.{Cutting, IsFed}
use Rattle.ferry_repo.proofs.ContentLemmas.{contents_then, one_contents}
use Rattle.ferry_repo.proofs.LawLemmas.{one_chunk}
use Rattle.ferry_repo.proofs.SharedLemmas.{come_apart, joined_append}
use Rattle.ferry_repo.specs.Archives.{ContentsCome, HoldsContent, HoldsJoined, RefusesContent, RefusesJoined}
use Rattle.ferry_repo.specs.Fault.{IsOfFiles}
use Rattle.ferry_repo.specs.Opening.{RepoState, repo_view}
use Rattle.ferry_repo.specs.Shared.{HasPieces, SharesPieces, chunks_from, total_size}
use Rattle.ferry_repo.specs.declared.fault.RepoFault.{RepoFault}
use Rattle.ferry_repo.specs.declared.fault.RepoFault.TheVariants as Fault
use Rattle.ferry_repo.specs.declared.shared.SharedPieces.{SharedPieces}
use Rattle.ferry_store.specs.Adding.{IsAnswered, id_under}
use Rattle.ferry_carry.proofs.CopyLemmas.{begins_behind, contents_begun, writes_then}
use Rattle.ferry_carry.proofs.FillingLemmas.{where_target}
use Rattle.ferry_carry.proofs.KnownLemmas.{answered_adds, unput, unput_contents, unput_counts, unput_of}
use Rattle.ferry_carry.proofs.WholeLemmas.{joined_concat}
use Rattle.ferry_carry.specs.Copying.{WritesContents, writer_state}
use Rattle.ferry_carry.specs.Filling.{FillsChunks, WhereSource}
use Rattle.ferry_carry.specs.Refusals.{RefusesContents}
use Rattle.ferry_carry.specs.Parts.{HasShared, StandsBehind, WritesBytes, WritesChunks}
use Rattle.ferry_carry.specs.States.{TargetState}

-- ---- results

-- what holds of each refusal
pub err_map : {T : Type 0} (P Q : CarryFault → Type 0) (r : Result T CarryFault) → ((fault : CarryFault) → P fault → Q fault) → IfErr r P → IfErr r Q
err_map P Q (Ok x) leads is = tt
err_map P Q (Err fault) leads is = leads fault is

-- a fault of the source's files, over another word for what it tells
pub where_then : (told later : Option Told) (source after : RepoState) (fault : CarryFault) (P : RepoState → Files → RepoFault → Type 0)
    (Q : Files → RepoFault → Type 0) (Known : Files → Type 0) → heard later ≡ heard told → after ≡ source → IfSome told (λ t. Known (told_files t))
    → ((f : Files) (refusal : RepoFault) → Known f → P source f refusal → Q f refusal) → WhereSource later fault (P after) → WhereSource told fault Q
where_then told later source after (Source fault) P Q Known alike kept known leads says = λ of_files.
    told_with told told Known (λ f. P source f fault) (λ f. Q f fault) refl (λ f k p. leads f fault k p) known
    (at_first told later source after (λ r f. P r f fault) alike kept (says of_files))
where_then told later source after (Target refusal) P Q Known alike kept known leads says = tt
where_then told later source after (Taken name) P Q Known alike kept known leads says = tt
where_then told later source after (NotFound name) P Q Known alike kept known leads says = tt
where_then told later source after Pieces P Q Known alike kept known leads says = tt
where_then told later source after Memory P Q Known alike kept known leads says = tt
where_then told later source after Record P Q Known alike kept known leads says = tt

-- ---- bytes

-- bytes behind bytes
pub bytes_then : {T U : Type 0} (most first second : ℕ) (target middle now : TargetState) (bytes others : List ℕ) (writer written left : PieceWriter) (x : T)
    (r : Result U CarryFault) → first ≡ most → second ≡ most → KeepsRest target.store middle.store → OnOk r (KeepsRest middle.store now.store)
    → length writer.cutter.piece < writer.cutter.block → WritesBytes first target middle bytes writer written (Ok x)
    → WritesBytes second middle now others written left r → WritesBytes most target now (bytes ++ others) writer left r
bytes_then {T} {U} most first second target middle now bytes others writer written left x r is is_now rest rest_now room p q =
    let keys = (repo_view target.store.repo).keys in
    let keys_now = (repo_view middle.store.repo).keys in
    let all = contents_append p.0 q.0 in (
      p.0 ++ q.0,
      (
        pieces_then {T = T} {U = U} most first second target.store middle.store now.store p.0 q.0 target.told middle.told now.told target.faults middle.faults
            now.faults x r is is_now rest rest_now p.1.0 q.1.0,
        (
          of_append Content p.0 q.0 p.1.1.0 q.1.1.0,
          (
            subst (BeginsOn writer.cutter (bytes ++ others)) (sym all)
                (begins_behind keys writer.cutter written.cutter writer.chunks.items written.chunks.items bytes others (contents_in p.0) (contents_in q.0) room
                p.1.1.1.1.0 q.1.1.1.0),
            ok_to {T = U} (WritesOn keys_now written.cutter written.chunks.items others (contents_in q.0) left.cutter left.chunks.items
                × CountsOn Content written q.0 left)
                (WritesOn keys writer.cutter writer.chunks.items (bytes ++ others) (contents_in (p.0 ++ q.0)) left.cutter left.chunks.items
                × CountsOn Content writer (p.0 ++ q.0) left) r
                (λ wrote. (
                  subst (λ (ps : List (List ℕ)). WritesOn keys writer.cutter writer.chunks.items (bytes ++ others) ps left.cutter left.chunks.items) (sym all)
                      (writes_then keys keys_now writer.cutter written.cutter left.cutter writer.chunks.items written.chunks.items left.chunks.items bytes
                      others (contents_in p.0) (contents_in q.0) rest.keys p.1.1.1.1.0 wrote.0),
                  counts_then Content writer written left p.0 q.0 p.1.1.1.1.1 wrote.1,
                )) q.1.1.1.1,
          ),
        ),
      ),
    )

-- a front of bytes, as far as it came
pub bytes_wider : {T : Type 0} (most : ℕ) (target now : TargetState) (bytes others : List ℕ) (writer left : PieceWriter) (fault : CarryFault)
    → WritesBytes {T = T} most target now bytes writer left (Err fault) → WritesBytes {T = T} most target now (bytes ++ others) writer left (Err fault)
bytes_wider {T} most target now bytes others writer left fault p = (
  p.0,
  (
    p.1.0,
    (
      p.1.1.0,
      (
        record {
          rest = p.1.1.1.0.rest ++ others;
          joined = sym (append_assoc (concat (contents_in p.0)) p.1.1.1.0.rest others) ∙ (ap (λ (b : List ℕ). b ++ others) p.1.1.1.0.joined
              ∙ append_assoc writer.cutter.piece bytes others);
          whole = p.1.1.1.0.whole;
        },
        tt,
      ),
    ),
  ),
)

-- ---- chunks

-- bytes that are the contents of chunks
pub chunks_of_bytes : {T : Type 0} (most : ℕ) (told : Option Told) (source : RepoState) (target now : TargetState) (refs : List ChunkRef)
    (contents : List (List ℕ)) (bytes : List ℕ) (writer left : PieceWriter) (r : Result T CarryFault)
    → IfSome told (λ t. ContentsCome (told_files t) source.log source.keys refs contents None) → concat contents ≡ bytes
    → IfErr r (λ fault. is_target fault ≡ true) → WritesBytes most target now bytes writer left r
    → WritesChunks most told source target now refs writer left r
chunks_of_bytes {T} most told source target now refs contents bytes writer left r come is of_target p =
    let keys = (repo_view target.store.repo).keys in (
      p.0,
      (
        p.1.0,
        (
          p.1.1.0,
          (
            record {
              first = refs;
              rest = [];
              split = sym (append-nil refs);
              contents = contents;
              come = come;
              full = subst (λ (b : List ℕ). BeginsOn writer.cutter b (contents_in p.0)) (sym is) p.1.1.1.0;
            },
            (
              err_map {T = T} (λ fault. is_target fault ≡ true) (λ fault. WhereSource told fault
                  (λ there refusal. FillsChunks there source refs writer.cutter refusal (contents_in p.0))) r
                  (λ fault. where_target told fault (λ there refusal. FillsChunks there source refs writer.cutter refusal (contents_in p.0))) of_target,
              ok_to {T = T} (WritesOn keys writer.cutter writer.chunks.items bytes (contents_in p.0) left.cutter left.chunks.items
                  × CountsOn Content writer p.0 left)
                  (WritesContents told source keys refs (writer_state writer.cutter writer.chunks.items) (contents_in p.0) (writer_state left.cutter
                  left.chunks.items) × CountsOn Content writer p.0 left) r
                  (λ wrote. (
                    record {
                      contents = contents;
                      come = come;
                      writes = subst (λ (b : List ℕ). WritesOn keys writer.cutter writer.chunks.items b (contents_in p.0) left.cutter left.chunks.items)
                          (sym is) wrote.0;
                    },
                    wrote.1,
                  )) p.1.1.1.1,
            ),
          ),
        ),
      ),
    )

-- what was fed behind what was fed before
fed_behind : (cutter middle : Cutting) (bytes others left : List ℕ) (some more : List (List ℕ)) → middle.block ≡ cutter.block
    → IsFed cutter.block (cutter.piece ++ bytes) some middle.piece → IsFed middle.block (middle.piece ++ others) more left
    → IsFed cutter.block (cutter.piece ++ (bytes ++ others)) (some ++ more) left
fed_behind cutter middle bytes others left some more block first second = record {
  joined = ap (λ (b : List ℕ). b ++ left) (concat-append some more) ∙ (append_assoc (concat some) (concat more) left
      ∙ (ap (λ (b : List ℕ). concat some ++ b) second.joined ∙ (sym (append_assoc (concat some) middle.piece others)
      ∙ (ap (λ (b : List ℕ). b ++ others) first.joined ∙ append_assoc cutter.piece bytes others))));
  whole = All-append (λ (one : List ℕ). length one ≡ cutter.block) some more first.whole
      (subst (λ (n : ℕ). All (λ (one : List ℕ). length one ≡ n) more) block second.whole);
  fits = subst (λ (n : ℕ). length left ≤ n) block second.fits;
}

-- contents that come behind others
come_behind : (told later : Option Told) (source after : RepoState) (refs others : List ChunkRef) (contents more : List (List ℕ)) → heard later ≡ heard told
    → after ≡ source → IfSome told (λ t. ContentsCome (told_files t) source.log source.keys refs contents None)
    → IfSome later (λ t. ContentsCome (told_files t) after.log after.keys others more None)
    → IfSome told (λ t. ContentsCome (told_files t) source.log source.keys (refs ++ others) (contents ++ more) None)
come_behind told later source after refs others contents more alike kept come comes =
    told_with told told (λ f. ContentsCome f source.log source.keys refs contents None) (λ f. ContentsCome f source.log source.keys others more None)
    (λ f. ContentsCome f source.log source.keys (refs ++ others) (contents ++ more) None) refl
    (λ f first second. contents_then f source.log source.keys refs others contents more None first second) come
    (at_first told later source after (λ r f. ContentsCome f r.log r.keys others more None) alike kept comes)

-- what is refused behind chunks that were written
fills_behind : (there : Files) (source : RepoState) (refs others : List ChunkRef) (cutter middle : Cutting) (contents : List (List ℕ))
    (some more : List (List ℕ)) (refusal : RepoFault) → middle.block ≡ cutter.block → ContentsCome there source.log source.keys refs contents None
    → IsFed cutter.block (cutter.piece ++ concat contents) some middle.piece → FillsChunks there source others middle refusal more
    → FillsChunks there source (refs ++ others) cutter refusal (some ++ more)
fills_behind there source refs others cutter middle contents some more refusal block come fed fills = record {
  first = refs ++ fills.first;
  one = fills.one;
  rest = fills.rest;
  split = ap (λ (cs : List ChunkRef). refs ++ cs) fills.split ∙ sym (append_assoc refs fills.first (fills.one ∷ fills.rest));
  contents = contents ++ fills.contents;
  come = contents_then there source.log source.keys refs fills.first contents fills.contents None come fills.come;
  refused = fills.refused;
  left = fills.left;
  fed = subst (λ (b : List ℕ). IsFed cutter.block (cutter.piece ++ b) (some ++ more) fills.left) (sym (concat-append contents fills.contents))
      (fed_behind cutter middle (concat contents) (concat fills.contents) fills.left some more block fed fills.fed);
  less = subst (λ (n : ℕ). length fills.left < n) block fills.less;
}

-- chunks behind chunks
pub chunks_then : {U : Type 0} (most first second : ℕ) (told later : Option Told) (source after : RepoState) (target middle now : TargetState)
    (refs others : List ChunkRef) (writer written left : PieceWriter) (r : Result U CarryFault) → heard later ≡ heard told → after ≡ source → first ≡ most
    → second ≡ most → KeepsRest target.store middle.store → OnOk r (KeepsRest middle.store now.store) → length writer.cutter.piece < writer.cutter.block
    → WritesChunks {T = Unit {0}} first told source target middle refs writer written (Ok tt)
    → WritesChunks second later after middle now others written left r → WritesChunks most told source target now (refs ++ others) writer left r
chunks_then {U} most first second told later source after target middle now refs others writer written left r alike kept is is_now rest rest_now room p q =
    let keys = (repo_view target.store.repo).keys in
    let keys_now = (repo_view middle.store.repo).keys in
    let all = contents_append p.0 q.0 in
    let some = contents_in p.0 in
    let more = contents_in q.0 in
    let wrote = p.1.1.1.1.1.0 in
    let begun = q.1.1.1.0 in
    let fed : IsFed writer.cutter.block (writer.cutter.piece ++ concat wrote.contents) some written.cutter.piece =
    wrote.writes.fed writer.cutter.piece [] (hand_fed writer.cutter (omega (arith, room))) in (
      p.0 ++ q.0,
      (
        pieces_then {T = Unit {0}} {U = U} most first second target.store middle.store now.store p.0 q.0 target.told middle.told now.told target.faults
            middle.faults now.faults tt r is is_now rest rest_now p.1.0 q.1.0,
        (
          of_append Content p.0 q.0 p.1.1.0 q.1.1.0,
          (
            record {
              first = refs ++ begun.first;
              rest = begun.rest;
              split = ap (λ (cs : List ChunkRef). refs ++ cs) begun.split ∙ sym (append_assoc refs begun.first begun.rest);
              contents = wrote.contents ++ begun.contents;
              come = come_behind told later source after refs begun.first wrote.contents begun.contents alike kept wrote.come begun.come;
              full = subst (λ (b : List ℕ). BeginsOn writer.cutter b (contents_in (p.0 ++ q.0))) (sym (concat-append wrote.contents begun.contents))
                  (subst (BeginsOn writer.cutter (concat wrote.contents ++ concat begun.contents)) (sym all)
                  (begins_behind keys writer.cutter written.cutter writer.chunks.items written.chunks.items (concat wrote.contents) (concat begun.contents)
                  some more room wrote.writes begun.full));
            },
            (
              err_map {T = U} (λ fault. WhereSource later fault (λ there refusal. FillsChunks there after others written.cutter refusal more))
                  (λ fault. WhereSource told fault (λ there refusal. FillsChunks there source (refs ++ others) writer.cutter refusal (contents_in (p.0
                  ++ q.0)))) r
                  (λ fault says. where_then told later source after fault (λ r f refusal. FillsChunks f r others written.cutter refusal more)
                  (λ there refusal. FillsChunks there source (refs ++ others) writer.cutter refusal (contents_in (p.0 ++ q.0)))
                  (λ f. ContentsCome f source.log source.keys refs wrote.contents None) alike kept wrote.come
                  (λ f refusal come fills. subst (FillsChunks f source (refs ++ others) writer.cutter refusal) (sym all)
                  (fills_behind f source refs others writer.cutter written.cutter wrote.contents some more refusal wrote.writes.block come fed fills)) says)
                  q.1.1.1.1.0,
              ok_to {T = U} (WritesContents later after keys_now others (writer_state written.cutter written.chunks.items) more (writer_state left.cutter
                  left.chunks.items) × CountsOn Content written q.0 left)
                  (WritesContents told source keys (refs ++ others) (writer_state writer.cutter writer.chunks.items) (contents_in (p.0 ++ q.0)) (writer_state
                  left.cutter left.chunks.items) × CountsOn Content writer (p.0 ++ q.0) left) r
                  (λ so. (
                    record {
                      contents = wrote.contents ++ so.0.contents;
                      come = come_behind told later source after refs others wrote.contents so.0.contents alike kept wrote.come so.0.come;
                      writes = subst (λ (b : List ℕ). WritesOn keys writer.cutter writer.chunks.items b (contents_in (p.0 ++ q.0)) left.cutter
                          left.chunks.items) (sym (concat-append wrote.contents so.0.contents))
                          (subst (λ (ps : List (List ℕ)). WritesOn keys writer.cutter writer.chunks.items (concat wrote.contents ++ concat so.0.contents) ps
                          left.cutter left.chunks.items) (sym all)
                          (writes_then keys keys_now writer.cutter written.cutter left.cutter writer.chunks.items written.chunks.items left.chunks.items
                          (concat wrote.contents) (concat so.0.contents) some more rest.keys wrote.writes so.0.writes));
                    },
                    counts_then Content writer written left p.0 q.0 p.1.1.1.1.1.1 so.1,
                  )) q.1.1.1.1.1,
            ),
          ),
        ),
      ),
    )

-- chunks in front of others, as far as it came
pub chunks_wider : {T : Type 0} (most : ℕ) (told : Option Told) (source : RepoState) (target now : TargetState) (refs others : List ChunkRef)
    (writer left : PieceWriter) (fault : CarryFault) → WritesChunks {T = T} most told source target now refs writer left (Err fault)
    → WritesChunks {T = T} most told source target now (refs ++ others) writer left (Err fault)
chunks_wider {T} most told source target now refs others writer left fault p =
    let begun = p.1.1.1.0 in (
      p.0,
      (
        p.1.0,
        (
          p.1.1.0,
          (
            record {
              first = begun.first;
              rest = begun.rest ++ others;
              split = ap (λ (cs : List ChunkRef). cs ++ others) begun.split ∙ append_assoc begun.first begun.rest others;
              contents = begun.contents;
              come = begun.come;
              full = begun.full;
            },
            (
              where_then told told source source fault (λ r f refusal. FillsChunks f r refs writer.cutter refusal (contents_in p.0))
                  (λ there refusal. FillsChunks there source (refs ++ others) writer.cutter refusal (contents_in p.0)) (λ f. Unit {0}) refl refl
                  (told_any told (λ f. Unit {0}) (λ f. tt)) (λ f refusal known fills. record {
                    first = fills.first;
                    one = fills.one;
                    rest = fills.rest ++ others;
                    split = ap (λ (cs : List ChunkRef). cs ++ others) fills.split ∙ append_assoc fills.first (fills.one ∷ fills.rest) others;
                    contents = fills.contents;
                    come = fills.come;
                    refused = fills.refused;
                    left = fills.left;
                    fed = fills.fed;
                    less = fills.less;
                  }) p.1.1.1.1.0,
              tt,
            ),
          ),
        ),
      ),
    )

-- ---- pieces that stand in chunks

-- The contents of the chunks are the bytes that were read of the first, the pieces, and those that were read of the last.
pub record SharedBytes (told : Option Told) (source : RepoState) (refs : List ChunkRef) (skip : ℕ) (first : List ℕ) (wholes : List (List ℕ))
    (behind : List ℕ) : Type 0 where
  pub contents : List (List ℕ)
  pub come : IfSome told (λ t. ContentsCome (told_files t) source.log source.keys refs contents None)
  pub is : concat contents ≡ take (min skip (length first)) first ++ (concat wholes ++ behind)

-- the first content is as long as its chunk states, and has what stands in front of the pieces
front_is : (files : Files) (source : RepoState) (refs : List ChunkRef) (d : ChunkRef) (contents : List (List ℕ)) (skip : ℕ) (first front rest : List ℕ)
    → 1 ≤ length refs → ContentsCome files source.log source.keys refs contents None → HoldsContent files source.log source.keys (get_or refs 0 d) first
    → skip ≤ total_size (take 1 refs) → joined contents ≡ front ++ rest → length front ≡ skip → front ≡ take (min skip (length first)) first
front_is files source [] d contents skip first front rest some come holds within split long = let no : ⊥ = omega (arith, some) in absurd no
front_is files source (ref ∷ refs) d [] skip first front rest some come holds within split long = absurd come
front_is files source (ref ∷ refs) d (content ∷ contents) skip first front rest some come holds within split long =
    let one = one_chunk files source.log source.keys ref.id content first come.0.holds holds.holds in
    let fits : skip ≤ length content = omega (arith, come.0.size, within, sum_by-cons (λ (c : ChunkRef). c.size) ref []) in
    let whole : take skip (content ++ joined contents) ≡ take skip content = take-append-le skip content (joined contents) fits in
    let least : min skip (length first) ≡ skip = omega (arith, fits, ap length one) in
    sym (take_at front rest skip long) ∙ (ap (take skip) (sym split) ∙ (whole ∙ (ap (take skip) one ∙ ap (λ (n : ℕ). take n first) (sym least))))

-- what stands last in a content is the end of its last part
tail_of : (ahead last before tail content : List ℕ) → content ≡ ahead ++ last → content ≡ before ++ tail → length tail ≤ length last
    → tail ≡ drop (length last - length tail) last
tail_of ahead last before tail content first second fits =
    let long : length before ≡ length ahead + (length last - length tail) =
    omega (arith, fits, ap length first, ap length second, length-append ahead last, length-append before tail) in
    sym (drop_at before tail (length before) refl) ∙ (ap (drop (length before)) (sym second ∙ first)
    ∙ (ap (λ (n : ℕ). drop n (ahead ++ last)) long ∙ drop-append-add ahead last (length last - length tail)))

-- the last content has what stands behind the pieces
behind_is : (files : Files) (source : RepoState) (refs : List ChunkRef) (d : ChunkRef) (contents : List (List ℕ)) (left : ℕ) (before tail behind : List ℕ)
    → 1 ≤ length refs → ContentsCome files source.log source.keys refs contents None
    → left ≤ total_size (drop (length refs - 1) refs) → joined contents ≡ before ++ tail → length tail ≡ left
    → ((content : List ℕ) → HoldsContent files source.log source.keys (get_or refs (length refs - 1) d) content → behind ≡ drop (length content - left) content)
    → tail ≡ behind
behind_is files source refs d contents left before tail behind some come within split long stands =
    let place = length refs - 1 in
    let one = get_or refs place d in
    let last : drop place refs ≡ one ∷ [] =
    drop_more refs place d (omega (arith, some)) ∙ ap (λ (cs : List ChunkRef). one ∷ cs) (drop_all (place + 1) refs (omega (arith, some))) in
    let apart = come_apart files source.log source.keys (take place refs) (one ∷ []) contents
    (subst (λ (cs : List ChunkRef). ContentsCome files source.log source.keys cs contents None)
    (sym (ap (λ (cs : List ChunkRef). take place refs ++ cs) (sym last) ∙ take-append-drop place refs)) come) in
    let bytes : joined contents ≡ joined apart.first ++ joined apart.then = ap joined apart.split ∙ joined_append apart.first apart.then in
    by apart.then apart.come_then (joined apart.first) bytes (subst (λ (cs : List ChunkRef). left ≤ total_size cs) last within) where
      by : (then : List (List ℕ)) → ContentsCome files source.log source.keys (get_or refs (length refs - 1) d ∷ []) then None → (ahead : List ℕ)
          → joined contents ≡ ahead ++ joined then → left ≤ total_size (get_or refs (length refs - 1) d ∷ []) → tail ≡ behind
      by [] come ahead bytes fits = absurd come
      by (content ∷ more ∷ rest) come ahead bytes fits = absurd come.1
      by (content ∷ []) come ahead bytes fits =
          let whole : joined contents ≡ ahead ++ content = bytes ∙ ap (λ (b : List ℕ). ahead ++ b) (append-nil content) in
          let room : length tail ≤ length content =
          omega (arith, long, fits, come.0.size, sum_by-cons (λ (c : ChunkRef). c.size) (get_or refs (length refs - 1) d) []) in
          tail_of ahead content before tail (joined contents) whole split room
          ∙ (ap (λ (n : ℕ). drop (length content - n) content) long ∙ sym (stands content come.0))

pub shared_bytes : (told : Option Told) (source : RepoState) (key : List ℕ) (block : ℕ) (refs : List ChunkRef) (shared : SharedPieces) (d e : ChunkRef)
    (first behind : List ℕ) (has : HasShared told source key block refs shared)
    → IfSome told (λ t. HoldsContent (told_files t) source.log source.keys (get_or refs 0 d) first)
    → StandsBehind told source (get_or refs (length refs - 1) e) shared.left behind
    → SharedBytes told source refs shared.skip first has.has.wholes behind
shared_bytes None source key block refs shared d e first behind has holds stands =
    let bytes = take (min shared.skip (length first)) first ++ (concat has.has.wholes ++ behind) in
    record { contents = bytes ∷ []; come = tt; is = append-nil bytes }
shared_bytes (Some t) source key block refs shared d e first behind has holds stands =
    let files = told_files t in
    let whole = has.has in
    let contents = has.holds.0 in
    let split : joined contents ≡ whole.front ++ (concat whole.wholes ++ whole.behind) = sym has.holds.2 ∙ whole.split in
    let other : joined contents ≡ (whole.front ++ concat whole.wholes) ++ whole.behind =
    split ∙ sym (append_assoc whole.front (concat whole.wholes) whole.behind) in
    let front = front_is files source refs d contents shared.skip first whole.front (concat whole.wholes ++ whole.behind) has.some has.holds.1 holds has.front
    split whole.front_is in
    let end = behind_is files source refs e contents shared.left (whole.front ++ concat whole.wholes) whole.behind behind has.some has.holds.1 has.behind other
    whole.behind_is stands in
    record {
      contents = contents;
      come = has.holds.1;
      is = sym (joined_concat contents) ∙ (split
          ∙ (ap (λ (b : List ℕ). b ++ (concat whole.wholes ++ whole.behind)) front
          ∙ ap (λ (b : List ℕ). take (min shared.skip (length first)) first ++ (concat whole.wholes ++ b)) end));
    }

-- ---- pieces that are passed over

pub passed_on : (keys : Keys) (cutter : Cutting) (chunks pieces : List ChunkRef) (wholes : List (List ℕ)) → 1 ≤ cutter.block → cutter.piece ≡ []
    → All (λ (one : List ℕ). length one ≡ cutter.block) wholes → pieces ≡ chunks_of keys wholes
    → WritesOn keys cutter chunks (concat wholes) wholes cutter (chunks ++ pieces)
passed_on keys cutter chunks pieces wholes least empty full are = record {
  fed = λ fed taken is. record {
    joined = ap (λ (b : List ℕ). b ++ cutter.piece) (concat-append taken wholes)
        ∙ (append_assoc (concat taken) (concat wholes) cutter.piece
        ∙ (ap (λ (b : List ℕ). concat taken ++ b) (ap (λ (b : List ℕ). concat wholes ++ b) empty ∙ append-nil (concat wholes))
        ∙ ap (λ (b : List ℕ). b ++ concat wholes)
        (sym (append-nil (concat taken)) ∙ (ap (λ (b : List ℕ). concat taken ++ b) (sym empty) ∙ is.joined))));
    whole = All-append (λ (one : List ℕ). length one ≡ cutter.block) taken wholes is.whole full;
    fits = is.fits;
  };
  chunks_are = ap (λ (cs : List ChunkRef). chunks ++ cs) are;
  room = subst (λ (b : List ℕ). length b < cutter.block) (sym empty) (omega (arith, least));
  block = refl;
}

-- pieces that a store knows, behind those that were whole
pub known_passed : (most : ℕ) (target : TargetState) (writer passed : PieceWriter) (pieces : List ChunkRef) (wholes : List (List ℕ)) → IsCheckpoint most
    → length writer.cutter.piece < writer.cutter.block → writer.cutter.piece ≡ []
    → All (λ (one : List ℕ). length one ≡ writer.cutter.block) wholes → pieces ≡ chunks_of (repo_view target.store.repo).keys wholes
    → AllByRecursion (λ (one : List ℕ). IsAnswered target.store (id_under target.store one)) wholes → passed.cutter ≡ writer.cutter
    → passed.chunks.items ≡ writer.chunks.items ++ pieces → passed.put ≡ writer.put → passed.bytes ≡ writer.bytes
    → WritesBytes {T = Unit {0}} most target target (concat wholes) writer passed (Ok tt)
known_passed most target writer passed pieces wholes checkpoint room empty full are answered cutter chunks put bytes =
    let keys = (repo_view target.store.repo).keys in
    let on : WritesOn keys writer.cutter writer.chunks.items (concat wholes) wholes writer.cutter (writer.chunks.items ++ pieces) =
    passed_on keys writer.cutter writer.chunks.items pieces wholes (omega (arith, room)) empty full are in
    let wrote : WritesOn keys writer.cutter writer.chunks.items (concat wholes) (contents_in (unput wholes)) passed.cutter passed.chunks.items =
    rw (unput_contents wholes, cutter, chunks) on in
    let counted = unput_counts Content writer wholes in (
      unput wholes,
      (
        answered_adds {T = Unit {0}} most target.store wholes target.told target.faults tt checkpoint answered,
        (
          unput_of wholes,
          (
            begins_written keys writer.cutter writer.chunks.items (concat wholes) (contents_in (unput wholes)) passed.cutter passed.chunks.items room wrote,
            (wrote, record { put = λ range. put ∙ counted.put range; bytes = λ range. bytes ∙ counted.bytes range }),
          ),
        ),
      ),
    )

-- ---- parts

-- chunks behind chunks, by another word for both
pub parts_then : {U : Type 0} (most first second : ℕ) (told later : Option Told) (source after : RepoState) (target middle now : TargetState)
    (refs others all : List ChunkRef) (writer written left : PieceWriter) (r : Result U CarryFault) → refs ++ others ≡ all → heard later ≡ heard told
    → after ≡ source → first ≡ most → second ≡ most → KeepsRest target.store middle.store → OnOk r (KeepsRest middle.store now.store)
    → length writer.cutter.piece < writer.cutter.block → WritesChunks {T = Unit {0}} first told source target middle refs writer written (Ok tt)
    → WritesChunks second later after middle now others written left r → WritesChunks most told source target now all writer left r
parts_then {U} most first second told later source after target middle now refs others all writer written left r is alike kept one two rest rest_now room p q =
    subst (λ (cs : List ChunkRef). WritesChunks {T = U} most told source target now cs writer left r) is
    (chunks_then {U = U} most first second told later source after target middle now refs others writer written left r alike kept one two rest rest_now room
    p q)

pub parts_wider : {T : Type 0} (most : ℕ) (told : Option Told) (source : RepoState) (target now : TargetState) (refs others all : List ChunkRef)
    (writer left : PieceWriter) (fault : CarryFault) → refs ++ others ≡ all → WritesChunks {T = T} most told source target now refs writer left (Err fault)
    → WritesChunks {T = T} most told source target now all writer left (Err fault)
parts_wider {T} most told source target now refs others all writer left fault is p =
    subst (λ (cs : List ChunkRef). WritesChunks {T = T} most told source target now cs writer left (Err fault)) is
    (chunks_wider {T = T} most told source target now refs others writer left fault p)

-- what was written where the source refuses a chunk says why
pub parts_refused : (told later : Option Told) (source after : RepoState) (refs others : List ChunkRef) (cutter : Cutting) (more : List (List ℕ))
    (fault : CarryFault) → RefusesContents later after others fault
    → WhereSource told fault (λ there refusal. FillsChunks there source refs cutter refusal more) → RefusesContents told source refs fault
parts_refused told later source after refs others cutter more (Source fault) refused says = λ of_files.
    told_then told (λ f. FillsChunks f source refs cutter fault more) (λ f. RefusesJoined f source.log source.keys (Some refs) fault)
    (λ f fills. (
      fills.contents,
      subst (λ (cs : List ChunkRef). ContentsCome f source.log source.keys cs fills.contents (Some fault)) (sym fills.split)
          (subst (λ (ps : List (List ℕ)). ContentsCome f source.log source.keys (fills.first ++ fills.one ∷ fills.rest) ps (Some fault))
          (append-nil fills.contents)
          (contents_then f source.log source.keys fills.first (fills.one ∷ fills.rest) fills.contents [] (Some fault) fills.come (of_files, fills.refused))),
    )) (says of_files)
parts_refused told later source after refs others cutter more (Target refusal) refused says = tt
parts_refused told later source after refs others cutter more Memory refused says = tt
parts_refused told later source after refs others cutter more (Taken name) refused says = absurd refused
parts_refused told later source after refs others cutter more (NotFound name) refused says = absurd refused
parts_refused told later source after refs others cutter more Pieces refused says = absurd refused
parts_refused told later source after refs others cutter more Record refused says = absurd refused

-- the chunks in which pieces stand have them, over another word for what is told
pub has_shared : (told now : Option Told) (source after : RepoState) (key key_now : List ℕ) (block block_now : ℕ) (chunks : List ChunkRef)
    (shared : SharedPieces) → heard now ≡ heard told → after ≡ source → key_now ≡ key → block_now ≡ block
    → SharesPieces told source key block chunks shared
    → HasShared now after key_now block_now (chunks_from chunks shared.place shared.end) shared
has_shared told now source after key key_now block block_now chunks shared alike kept same is shares =
    let own = chunks_from chunks shared.place shared.end in
    let long : length own ≡ shared.end - shared.place =
    length-take-le (shared.end - shared.place) (drop shared.place chunks) (omega (arith, length-drop shared.place chunks, shares.within)) in
    record {
      some = omega (arith, long, shares.some);
      front = shares.front;
      behind = subst (λ (n : ℕ). shared.left ≤ total_size (drop (n - 1) own)) (sym long) shares.behind;
      content = shares.content;
      has = subst (λ (k : List ℕ). HasPieces k block_now shared.skip shared.left shared.pieces shares.content) (sym same)
          (subst (λ (b : ℕ). HasPieces key b shared.skip shared.left shared.pieces shares.content) (sym is) shares.has);
      holds = at_first now told after source (λ r f. HoldsJoined f r.log r.keys (Some own) (Some shares.content)) (sym alike) (sym kept) shares.holds;
    }

-- ---- what stops it

pub by_source : (P : CarryFault → Type 0) (fault : RepoFault) → P Memory → P (Source fault) → P (source_fault fault)
by_source P Fault.NoCommit memory source = source
by_source P (Fault.Damaged segment at) memory source = source
by_source P (Fault.Config f) memory source = source
by_source P (Fault.Key f) memory source = source
by_source P (Fault.Missing named) memory source = source
by_source P (Fault.Blob named f) memory source = source
by_source P (Fault.Manifest f) memory source = source
by_source P (Fault.Archive named f) memory source = source
by_source P (Fault.Item named f) memory source = source
by_source P (Fault.Size named) memory source = source
by_source P (Fault.KeyFile f) memory source = source
by_source P (Fault.Other a b) memory source = source
by_source P Fault.NoKey memory source = source
by_source P Fault.Device memory source = source
by_source P Fault.Memory memory source = memory

-- nothing was written
pub bytes_none : {T : Type 0} (most : ℕ) (target : TargetState) (bytes : List ℕ) (writer left : PieceWriter) (fault : CarryFault)
    → target_failed fault ≡ false → IsNoChunk fault → (fault ≡ used_up → ⊥) → WritesBytes {T = T} most target target bytes writer left (Err fault)
bytes_none {T} most target bytes writer left fault still unbroken unused = (
  [],
  (
    gathered_nothing {T = T} most target.store target.told target.faults fault still unbroken unused,
    (tt, (begins_nothing writer.cutter bytes, tt)),
  ),
)

-- the same of chunks, where the source refuses the first
pub chunks_none : {T : Type 0} (most : ℕ) (told : Option Told) (source : RepoState) (target : TargetState) (refs : List ChunkRef)
    (writer left : PieceWriter) (fault : RepoFault)
    → (IsOfFiles fault → IfSome told (λ t. FillsChunks (told_files t) source refs writer.cutter fault []))
    → WritesChunks {T = T} most told source target target refs writer left (Err (source_fault fault))
chunks_none {T} most told source target refs writer left fault fills = (
  [],
  (
    gathered_nothing {T = T} most target.store target.told target.faults (source_fault fault) (source_still fault) (source_unbroken fault)
        (source_unused fault),
    (
      tt,
      (
        contents_begun told source refs writer.cutter,
        (
          by_source (λ f. WhereSource told f (λ there refusal. FillsChunks there source refs writer.cutter refusal [])) fault tt fills,
          tt,
        ),
      ),
    ),
  ),
)

-- of chunks the first is refused
pub first_fills : (told : Option Told) (source : RepoState) (refs : List ChunkRef) (d : ChunkRef) (cutter : Cutting) (fault : RepoFault) → 1 ≤ length refs
    → length cutter.piece < cutter.block → (IsOfFiles fault → IfSome told (λ t. RefusesContent (told_files t) source.log source.keys (get_or refs 0 d) fault))
    → IsOfFiles fault → IfSome told (λ t. FillsChunks (told_files t) source refs cutter fault [])
first_fills told source [] d cutter fault some room refused of_files = let no : ⊥ = omega (arith, some) in absurd no
first_fills told source (ref ∷ refs) d cutter fault some room refused of_files =
    told_then told (λ f. RefusesContent f source.log source.keys ref fault) (λ f. FillsChunks f source (ref ∷ refs) cutter fault []) (λ f refuses. record {
      first = [];
      one = ref;
      rest = refs;
      split = refl;
      contents = [];
      come = tt;
      refused = refuses;
      left = cutter.piece;
      fed = subst (λ (b : List ℕ). IsFed cutter.block b [] cutter.piece) (sym (append-nil cutter.piece)) (hand_fed cutter (omega (arith, room)));
      less = room;
    }) (refused of_files)

-- the last of chunks in which pieces stand isn't refused
pub last_there : (told : Option Told) (source : RepoState) (key : List ℕ) (block : ℕ) (refs : List ChunkRef) (shared : SharedPieces) (d : ChunkRef)
    (fault : RepoFault) (Q : Files → Type 0) → HasShared told source key block refs shared
    → (IsOfFiles fault → IfSome told (λ t. RefusesContent (told_files t) source.log source.keys (get_or refs (length refs - 1) d) fault))
    → IsOfFiles fault → IfSome told (λ t. Q (told_files t))
last_there None source key block refs shared d fault Q has refused of_files = tt
last_there (Some t) source key block refs shared d fault Q has refused of_files =
    let files = told_files t in
    let place = length refs - 1 in
    let one = get_or refs place d in
    let last : drop place refs ≡ one ∷ [] =
    drop_more refs place d (omega (arith, has.some)) ∙ ap (λ (cs : List ChunkRef). one ∷ cs) (drop_all (place + 1) refs (omega (arith, has.some))) in
    let apart = come_apart files source.log source.keys (take place refs) (one ∷ []) has.holds.0
    (subst (λ (cs : List ChunkRef). ContentsCome files source.log source.keys cs has.holds.0 None)
    (sym (ap (λ (cs : List ChunkRef). take place refs ++ cs) (sym last) ∙ take-append-drop place refs)) has.holds.1) in
    let both = one_contents files source.log source.keys (one ∷ []) apart.then [] None (Some fault) apart.come_then (of_files, refused of_files) in
    absurd (let end : None ≡ Some fault = both.1 in let no : ⊥ = cc in no)

-- the first of chunks, and those behind it
pub first_and : (refs : List ChunkRef) (d : ChunkRef) → 1 ≤ length refs → (get_or refs 0 d ∷ []) ++ take (length refs - 1) (drop 1 refs) ≡ refs
first_and [] d some = let no : ⊥ = omega (arith, some) in absurd no
first_and (ref ∷ refs) d some = ap (λ (cs : List ChunkRef). ref ∷ cs) (take_all (length (ref ∷ refs) - 1) refs (omega arith))

pub err_both : {T : Type 0} (P Q R : CarryFault → Type 0) (r : Result T CarryFault) → ((fault : CarryFault) → P fault → Q fault → R fault) → IfErr r P
    → IfErr r Q → IfErr r R
err_both P Q R (Ok x) leads p q = tt
err_both P Q R (Err fault) leads p q = leads fault p q

-- the content of one chunk comes
pub one_comes : (told : Option Told) (source : RepoState) (ref : ChunkRef) (content : List ℕ)
    → IfSome told (λ t. HoldsContent (told_files t) source.log source.keys ref content)
    → IfSome told (λ t. ContentsCome (told_files t) source.log source.keys (ref ∷ []) (content ∷ []) None)
one_comes told source ref content holds =
    told_then told (λ f. HoldsContent f source.log source.keys ref content)
    (λ f. ContentsCome f source.log source.keys (ref ∷ []) (content ∷ []) None) (λ f h. (h, tt)) holds

-- its bytes are a front and the rest
pub one_split : (count : ℕ) (content : List ℕ) → concat (content ∷ []) ≡ take count content ++ drop count content
one_split count content = append-nil content ∙ sym (take-append-drop count content)

-- so many last bytes are those of the content, over another word for what is told
pub stands_at : (told later : Option Told) (source after : RepoState) (ref : ChunkRef) (left : ℕ) (bytes : List ℕ) → heard later ≡ heard told → after ≡ source
    → StandsBehind later after ref left bytes → StandsBehind told source ref left bytes
stands_at told later source after ref left bytes alike kept stands =
    at_first told later source after (λ r f. (content : List ℕ) → HoldsContent f r.log r.keys ref content → bytes ≡ drop (length content - left) content)
    alike kept stands

-- what follows a front, of another word for the content
pub rest_of : (count : ℕ) (content again : List ℕ) → again ≡ content → drop count content ≡ take (length again - count) (drop count again)
rest_of count content again same =
    ap (drop count) (sym same) ∙ sym (take_all (length again - count) (drop count again) (omega (arith, length-drop count again)))

-- of an item's chunks the first is refused
pub first_refused : (told : Option Told) (source : RepoState) (refs : List ChunkRef) (d : ChunkRef) (fault : RepoFault) → 1 ≤ length refs
    → (IsOfFiles fault → IfSome told (λ t. RefusesContent (told_files t) source.log source.keys (get_or refs 0 d) fault))
    → IsOfFiles fault → IfSome told (λ t. RefusesJoined (told_files t) source.log source.keys (Some refs) fault)
first_refused told source [] d fault some refused of_files = let no : ⊥ = omega (arith, some) in absurd no
first_refused told source (ref ∷ refs) d fault some refused of_files =
    told_then told (λ f. RefusesContent f source.log source.keys ref fault) (λ f. RefusesJoined f source.log source.keys (Some (ref ∷ refs)) fault)
    (λ f refuses. ([], (of_files, refuses))) (refused of_files)

-- what a refusal is
pub err_given : {T : Type 0} (r : Result T CarryFault) (fault : CarryFault) → IsErrAnd r (λ y. y ≡ fault) → IfErr r (λ y. y ≡ fault)
err_given (Ok x) fault e = absurd e
err_given (Err y) fault e = e

-- all that is behind
pub rest_all : (count : ℕ) (chunks : List ChunkRef) → take (length chunks - count) (drop count chunks) ≡ drop count chunks
rest_all count chunks = take_all (length chunks - count) (drop count chunks) (omega (arith, length-drop count chunks))

-- the same chunks, over another word for what is told, for the keys and for the length of pieces
pub has_again : (told now : Option Told) (source after : RepoState) (key key_now : List ℕ) (block block_now : ℕ) (chunks others : List ChunkRef)
    (shared : SharedPieces) → heard now ≡ heard told → after ≡ source → key_now ≡ key → block_now ≡ block → others ≡ chunks
    → HasShared told source key block chunks shared → HasShared now after key_now block_now others shared
has_again told now source after key key_now block block_now chunks others shared alike kept same is chunks_are has =
    subst (λ (cs : List ChunkRef). HasShared now after key_now block_now cs shared) (sym chunks_are) (record {
      some = has.some;
      front = has.front;
      behind = has.behind;
      content = has.content;
      has = subst (λ (k : List ℕ). HasPieces k block_now shared.skip shared.left shared.pieces has.content) (sym same)
          (subst (λ (b : ℕ). HasPieces key b shared.skip shared.left shared.pieces has.content) (sym is) has.has);
      holds = at_first now told after source (λ r f. HoldsJoined f r.log r.keys (Some chunks) (Some has.content)) (sym alike) (sym kept) has.holds;
    })

-- what holds of each of some parts holds of one of them
pub shares_at : (P : SharedPieces → Type 0) (parts : List SharedPieces) (number : ℕ) (shared : SharedPieces) → AllByRecursion P parts → number < length parts
    → shared ≡ get_or parts number shared → P shared
shares_at P parts number shared all lt is = subst P (sym is) (All-get_or P parts number shared lt (All-from_recursion P parts all))

-- of the chunks up to an end, the last, and those behind the ones in front
pub part_of : (done place end : ℕ) (chunks : List ChunkRef) → done ≤ place → place ≤ end → end ≤ length chunks
    → drop (length (take (end - done) (drop done chunks)) - (end - place)) (take (end - done) (drop done chunks)) ≡ take (end - place) (drop place chunks)
part_of done place end chunks one two three =
    let long : length (take (end - done) (drop done chunks)) ≡ end - done =
    length-take-le (end - done) (drop done chunks) (omega (arith, length-drop done chunks, three)) in
    let count : length (take (end - done) (drop done chunks)) - (end - place) ≡ place - done = omega (arith, long, one, two) in
    let sum : end - done ≡ (place - done) + (end - place) = omega (arith, one, two) in
    ap (λ (n : ℕ). drop n (take (end - done) (drop done chunks))) count
    ∙ (ap (λ (n : ℕ). drop (place - done) (take n (drop done chunks))) sum
    ∙ (drop-take (place - done) (end - place) (drop done chunks)
    ∙ ap (take (end - place)) (drop-drop (place - done) done chunks ∙ ap (λ (n : ℕ). drop n chunks) (omega (arith, one)))))

pub part_to : (done end : ℕ) (chunks : List ChunkRef) → done ≤ end → take done chunks ++ take (end - done) (drop done chunks) ≡ take end chunks
part_to done end chunks le = sym (take-add done (end - done) chunks) ∙ ap (λ (n : ℕ). take n chunks) (omega (arith, le))
