-- Lemmas on specs/Copying.antt: the contents of an item, written one behind another, and the item that is written for it.
use Rattle.std.proofs.Common.{◌≡◌, ◌≤◌, ◌<◌, ◌+◌, ℕ, inl, inr, List, [], ◌∷◌, ◌++◌, Option, Some, None, All, IfSome}
use Rattle.std.proofs.Common.{length, take, drop, get_or, refl, sym, ◌∙◌, ap, subst, arith}
use Rattle.std.proofs.lemmas.List.{append-nil, append_assoc, take_all, take_more, take-append-drop}
use Rattle.std.proofs.lemmas.List.Elements.{All-append, All-head, All-tail}
use Rattle.std.proofs.lemmas.List.Folds.{concat-append}
use Rattle.std.specs.List.{AllByRecursion, concat}
use Rattle.ferry_base.specs.Limits.{content_limit}
use Rattle.ferry_compare.proofs.StepLemmas.{at_first}
use Rattle.ferry_disk.proofs.DeviceLemmas.{told_any, told_then, told_with}
use Rattle.ferry_disk.specs.Device.{Told, told_files, heard}
use Rattle.ferry_item.specs.Item.{ItemText}
use Rattle.ferry_item.specs.Writing.{ChunksFit, IsPackable}
use Rattle.ferry_item.specs.declared.item.ChunkRef.{ChunkRef}
use Rattle.ferry_mac.specs.declared.keys.Keys.{Keys}
use Rattle.ferry_rechunk.proofs.CutLemmas.{cut_sizes}
use Rattle.ferry_rechunk.proofs.CuttingLemmas.{fed_cut, fed_nothing}
use Rattle.ferry_rechunk.specs.Cut.{cut}
use Rattle.ferry_rechunk.specs.Cutting.{Cutting, IsFed}
use Rattle.ferry_repo.proofs.ContentLemmas.{contents_then}
use Rattle.ferry_repo.specs.Archives.{HoldsContent, ContentsCome, HoldsJoined}
use Rattle.ferry_repo.specs.Opening.{RepoState}
use Rattle.ferry_piece.proofs.PieceLemmas.{begins_nothing, begins_written, chunks_more, hand_fed}
use Rattle.ferry_carry.proofs.WholeLemmas.{joined_concat}
use Rattle.ferry_carry.specs.Copying.{BeginsChunk, BeginsContent, BeginsContents, CopiesContent, WritesContent, WritesContents, writer_state}
use Rattle.ferry_piece.specs.Gather.{chunks_of}
use Rattle.ferry_piece.specs.Piece.{BeginsOn, WritesOn}

-- ---- WritesOn

pub writes_nothing : (keys : Keys) (cutter : Cutting) (chunks : List ChunkRef) → length cutter.piece < cutter.block
    → WritesOn keys cutter chunks [] [] cutter chunks
writes_nothing keys cutter chunks room = record {
  fed = λ fed taken is.
      subst (λ (bytes : List ℕ). IsFed cutter.block bytes (taken ++ []) cutter.piece) (sym (append-nil fed))
      (subst (λ (pieces : List (List ℕ)). IsFed cutter.block fed pieces cutter.piece) (sym (append-nil taken)) is);
  chunks_are = sym (append-nil chunks);
  room = room;
  block = refl;
}

-- bytes behind bytes
pub writes_then : (keys keys_now : Keys) (cutter middle now : Cutting) (chunks chunks_middle chunks_now : List ChunkRef) (bytes others : List ℕ)
    (some more : List (List ℕ)) → keys_now ≡ keys → WritesOn keys cutter chunks bytes some middle chunks_middle
    → WritesOn keys_now middle chunks_middle others more now chunks_now → WritesOn keys cutter chunks (bytes ++ others) (some ++ more) now chunks_now
writes_then keys keys_now cutter middle now chunks chunks_middle chunks_now bytes others some more same p q = record {
  fed = λ fed taken is.
      let first : IsFed middle.block (fed ++ bytes) (taken ++ some) middle.piece =
      subst (λ (block : ℕ). IsFed block (fed ++ bytes) (taken ++ some) middle.piece) (sym p.block) (p.fed fed taken is) in
      let second : IsFed middle.block ((fed ++ bytes) ++ others) ((taken ++ some) ++ more) now.piece = q.fed (fed ++ bytes) (taken ++ some) first in
      let third : IsFed middle.block (fed ++ (bytes ++ others)) ((taken ++ some) ++ more) now.piece =
      subst (λ (b : List ℕ). IsFed middle.block b ((taken ++ some) ++ more) now.piece) (append_assoc fed bytes others) second in
      let fourth : IsFed middle.block (fed ++ (bytes ++ others)) (taken ++ (some ++ more)) now.piece =
      subst (λ (ps : List (List ℕ)). IsFed middle.block (fed ++ (bytes ++ others)) ps now.piece) (append_assoc taken some more) third in
      subst (λ (block : ℕ). IsFed block (fed ++ (bytes ++ others)) (taken ++ (some ++ more)) now.piece) p.block fourth;
  chunks_are = q.chunks_are ∙ (ap (λ (k : Keys). chunks_middle ++ chunks_of k more) same
      ∙ (ap (λ (cs : List ChunkRef). cs ++ chunks_of keys more) p.chunks_are ∙ chunks_more keys chunks some more));
  room = q.room;
  block = q.block ∙ p.block;
}

-- ---- WritesContents

pub nothing_written : (told : Option Told) (source : RepoState) (keys : Keys) (cutter : Cutting) (chunks : List ChunkRef)
    → length cutter.piece < cutter.block → WritesContents told source keys [] (writer_state cutter chunks) [] (writer_state cutter chunks)
nothing_written told source keys cutter chunks room = record {
  contents = [];
  come = told_any told (λ f. ContentsCome f source.log source.keys [] [] None) (λ f. tt);
  writes = writes_nothing keys cutter chunks room;
}

concat_more : (contents : List (List ℕ)) (content : List ℕ) → concat contents ++ content ≡ concat (contents ++ content ∷ [])
concat_more contents content =
    sym (concat-append contents (content ∷ []) ∙ ap (λ (bytes : List ℕ). concat contents ++ bytes) (append-nil content))

-- one content more comes
come_more : (told later : Option Told) (source after : RepoState) (refs : List ChunkRef) (place : ℕ) (d : ChunkRef) (contents : List (List ℕ))
    (content : List ℕ) → heard later ≡ heard told → after ≡ source → place < length refs
    → IfSome told (λ t. ContentsCome (told_files t) source.log source.keys (take place refs) contents None)
    → IfSome later (λ t. HoldsContent (told_files t) after.log after.keys (get_or refs place d) content)
    → IfSome told (λ t. ContentsCome (told_files t) source.log source.keys (take (place + 1) refs) (contents ++ content ∷ []) None)
come_more told later source after refs place d contents content alike kept lt come comes =
    told_with told told (λ f. ContentsCome f source.log source.keys (take place refs) contents None)
    (λ f. HoldsContent f source.log source.keys (get_or refs place d) content)
    (λ f. ContentsCome f source.log source.keys (take (place + 1) refs) (contents ++ content ∷ []) None) refl
    (λ f first holds.
    subst (λ (cs : List ChunkRef). ContentsCome f source.log source.keys cs (contents ++ content ∷ []) None) (sym (take_more refs place d lt))
    (contents_then f source.log source.keys (take place refs) (get_or refs place d ∷ []) contents (content ∷ []) None first (holds, tt))) come
    (at_first told later source after (λ r f. HoldsContent f r.log r.keys (get_or refs place d) content) alike kept comes)

-- one content more
pub contents_written : (told later : Option Told) (source after : RepoState) (keys keys_now : Keys) (refs : List ChunkRef) (place : ℕ) (d : ChunkRef)
    (cutter middle now : Cutting) (chunks chunks_middle chunks_now : List ChunkRef) (some more : List (List ℕ)) → heard later ≡ heard told
    → after ≡ source → keys_now ≡ keys → place < length refs
    → WritesContents told source keys (take place refs) (writer_state cutter chunks) some (writer_state middle chunks_middle)
    → WritesContent later after keys_now (get_or refs place d) (writer_state middle chunks_middle) more (writer_state now chunks_now)
    → WritesContents told source keys (take (place + 1) refs) (writer_state cutter chunks) (some ++ more) (writer_state now chunks_now)
contents_written told later source after keys keys_now refs place d cutter middle now chunks chunks_middle chunks_now some more alike kept same lt p
    q = record {
      contents = p.contents ++ q.content ∷ [];
      come = come_more told later source after refs place d p.contents q.content alike kept lt p.come q.comes;
      writes = subst (λ (bytes : List ℕ). WritesOn keys cutter chunks bytes (some ++ more) now chunks_now) (concat_more p.contents q.content)
          (writes_then keys keys_now cutter middle now chunks chunks_middle chunks_now (concat p.contents) q.content some more same p.writes q.writes);
    }

pub contents_all : (told : Option Told) (source : RepoState) (keys : Keys) (refs : List ChunkRef) (place : ℕ) (cutter now : Cutting)
    (chunks chunks_now : List ChunkRef) (more : List (List ℕ)) → length refs ≤ place
    → WritesContents told source keys (take place refs) (writer_state cutter chunks) more (writer_state now chunks_now)
    → WritesContents told source keys refs (writer_state cutter chunks) more (writer_state now chunks_now)
contents_all told source keys refs place cutter now chunks chunks_now more le p =
    subst (λ (cs : List ChunkRef). WritesContents told source keys cs (writer_state cutter chunks) more (writer_state now chunks_now)) (take_all place refs
    le) p

-- ---- as far as it came

-- of the first contents all, and of a further one these
pub begins_behind : (keys : Keys) (cutter middle : Cutting) (chunks chunks_middle : List ChunkRef) (bytes others : List ℕ) (some more : List (List ℕ))
    → length cutter.piece < cutter.block → WritesOn keys cutter chunks bytes some middle chunks_middle → BeginsOn middle others more
    → BeginsOn cutter (bytes ++ others) (some ++ more)
begins_behind keys cutter middle chunks chunks_middle bytes others some more room writes begins =
    let first : IsFed cutter.block (cutter.piece ++ bytes) some middle.piece = writes.fed cutter.piece [] (hand_fed cutter (omega (arith, room))) in
    record {
      rest = begins.rest;
      joined = ap (λ (b : List ℕ). b ++ begins.rest) (concat-append some more) ∙ (append_assoc (concat some) (concat more) begins.rest
          ∙ (ap (λ (b : List ℕ). concat some ++ b) begins.joined ∙ (sym (append_assoc (concat some) middle.piece others)
          ∙ (ap (λ (b : List ℕ). b ++ others) first.joined ∙ append_assoc cutter.piece bytes others))));
      whole = All-append (λ (one : List ℕ). length one ≡ cutter.block) some more first.whole
          (subst (λ (block : ℕ). All (λ (one : List ℕ). length one ≡ block) more) writes.block begins.whole);
    }

pub contents_begun : (told : Option Told) (source : RepoState) (refs : List ChunkRef) (cutter : Cutting) → BeginsContents told source refs cutter []
contents_begun told source refs cutter = record {
  first = [];
  rest = refs;
  split = refl;
  contents = [];
  come = told_any told (λ f. ContentsCome f source.log source.keys [] [] None) (λ f. tt);
  full = begins_nothing cutter [];
}

-- all contents were written, as far as they are
pub contents_full : (told : Option Told) (source : RepoState) (keys : Keys) (refs : List ChunkRef) (cutter now : Cutting) (chunks chunks_now : List ChunkRef)
    (more : List (List ℕ)) → length cutter.piece < cutter.block
    → WritesContents told source keys refs (writer_state cutter chunks) more (writer_state now chunks_now)
    → BeginsContents told source refs cutter more
contents_full told source keys refs cutter now chunks chunks_now more room wrote = record {
  first = refs;
  rest = [];
  split = sym (append-nil refs);
  contents = wrote.contents;
  come = wrote.come;
  full = begins_written keys cutter chunks (concat wrote.contents) more now chunks_now room wrote.writes;
}

-- the first contents were written, and of the next one so much
pub contents_behind : (told later : Option Told) (source after : RepoState) (keys : Keys) (refs : List ChunkRef) (place : ℕ) (d : ChunkRef)
    (cutter middle : Cutting) (chunks chunks_middle : List ChunkRef) (some more : List (List ℕ)) → heard later ≡ heard told
    → after ≡ source → place < length refs → length cutter.piece < cutter.block
    → WritesContents told source keys (take place refs) (writer_state cutter chunks) some (writer_state middle chunks_middle)
    → BeginsChunk later after (get_or refs place d) middle more → BeginsContents told source refs cutter (some ++ more)
contents_behind told later source after keys refs place d cutter middle chunks chunks_middle some more alike kept lt room wrote (inl none) =
    subst (BeginsContents told source refs cutter) (sym (append-nil some) ∙ ap (λ (ps : List (List ℕ)). some ++ ps) (sym none)) (record {
      first = take place refs;
      rest = drop place refs;
      split = sym (take-append-drop place refs);
      contents = wrote.contents;
      come = wrote.come;
      full = begins_written keys cutter chunks (concat wrote.contents) some middle chunks_middle room wrote.writes;
    })
contents_behind told later source after keys refs place d cutter middle chunks chunks_middle some more alike kept lt room wrote (inr begun) = record {
  first = take (place + 1) refs;
  rest = drop (place + 1) refs;
  split = sym (take-append-drop (place + 1) refs);
  contents = wrote.contents ++ begun.0 ∷ [];
  come = come_more told later source after refs place d wrote.contents begun.0 alike kept lt wrote.come begun.1.0;
  full = subst (λ (bytes : List ℕ). BeginsOn cutter bytes (some ++ more)) (concat_more wrote.contents begun.0)
      (begins_behind keys cutter middle chunks chunks_middle (concat wrote.contents) begun.0 some more room wrote.writes begun.1.1);
}

-- the same of another word for what is in hand
pub contents_from : (told : Option Told) (source : RepoState) (refs : List ChunkRef) (block : ℕ) (cutter : Cutting) (more : List (List ℕ))
    → cutter.block ≡ block → cutter.piece ≡ [] → BeginsContents told source refs cutter more
    → BeginsContents told source refs (record { block = block; piece = [] }) more
contents_from told source refs block cutter more is empty begun =
    subst (λ (piece : List ℕ). BeginsContents told source refs (record { block = block; piece = piece }) more) empty
    (subst (λ (n : ℕ). BeginsContents told source refs (record { block = n; piece = cutter.piece }) more) is begun)

-- ---- CopiesContent

-- the pieces that became whole and those of what was left are the cut of all
content_cut : (keys : Keys) (cutter now : Cutting) (chunks chunks_now : List ChunkRef) (content : List ℕ) (some : List (List ℕ)) → 1 ≤ cutter.block
    → cutter.piece ≡ [] → WritesOn keys cutter chunks content some now chunks_now → cut cutter.block content ≡ some ++ cut now.block now.piece
content_cut keys cutter now chunks chunks_now content some least empty writes =
    let begun : IsFed cutter.block [] [] cutter.piece =
    subst (λ (piece : List ℕ). IsFed cutter.block [] [] piece) (sym empty) (fed_nothing cutter.block) in
    let ended : IsFed cutter.block content some now.piece = writes.fed [] [] begun in
    fed_cut cutter.block content now.piece some least ended ∙ ap (λ (block : ℕ). some ++ cut block now.piece) (sym writes.block)

-- the content that chunks are
joined_holds : (told : Option Told) (source : RepoState) (refs : List ChunkRef) (contents : List (List ℕ))
    → IfSome told (λ t. ContentsCome (told_files t) source.log source.keys refs contents None)
    → IfSome told (λ t. HoldsJoined (told_files t) source.log source.keys (Some refs) (Some (concat contents)))
joined_holds told source refs contents come =
    told_then told (λ f. ContentsCome f source.log source.keys refs contents None)
    (λ f. HoldsJoined f source.log source.keys (Some refs) (Some (concat contents))) (λ f c. (contents, c, sym (joined_concat contents))) come

-- the contents of chunks were written, and then what was left, as far as that came: these are pieces of the content that they are, and all
pub content_whole : (told : Option Told) (source : RepoState) (block : ℕ) (keys : Keys) (refs : List ChunkRef) (cutter now : Cutting)
    (chunks chunks_now : List ChunkRef) (some all : List (List ℕ)) → 1 ≤ block → cutter.block ≡ block → cutter.piece ≡ []
    → all ≡ some ++ cut now.block now.piece → WritesContents told source keys refs (writer_state cutter chunks) some (writer_state now chunks_now)
    → BeginsContent told source block (Some refs) all
content_whole told source block keys refs cutter now chunks chunks_now some all least is empty pieces wrote =
    let content = concat wrote.contents in
    let whole : some ++ cut now.block now.piece ≡ cut block content =
    sym (content_cut keys cutter now chunks chunks_now content some (subst (λ (n : ℕ). 1 ≤ n) (sym is) least) empty wrote.writes)
    ∙ ap (λ (n : ℕ). cut n content) is in
    inr (content, (pieces ∙ whole, joined_holds told source refs wrote.contents wrote.come))

-- the contents of chunks were written, and then what was left: that is the content that they are
pub content_copied : (told : Option Told) (source : RepoState) (block : ℕ) (keys keys_now : Keys) (refs : List ChunkRef) (cutter now : Cutting)
    (chunks chunks_now copied : List ChunkRef) (some : List (List ℕ)) → 1 ≤ block → cutter.block ≡ block → cutter.piece ≡ [] → chunks ≡ []
    → keys_now ≡ keys → WritesContents told source keys refs (writer_state cutter chunks) some (writer_state now chunks_now)
    → copied ≡ chunks_now ++ chunks_of keys_now (cut now.block now.piece) → length copied ≤ 4294967295
    → CopiesContent told source block keys (Some refs) (some ++ cut now.block now.piece) (Some copied)
content_copied told source block keys keys_now refs cutter now chunks chunks_now copied some least is empty none same wrote ends fits =
    let last = cut now.block now.piece in
    let content = concat wrote.contents in
    let pieces : some ++ last ≡ cut block content =
    sym (content_cut keys cutter now chunks chunks_now content some (subst (λ (n : ℕ). 1 ≤ n) (sym is) least) empty wrote.writes)
    ∙ ap (λ (n : ℕ). cut n content) is in
    let made : copied ≡ chunks_of keys (some ++ last) =
    ends ∙ (ap (λ (k : Keys). chunks_now ++ chunks_of k last) same
    ∙ (ap (λ (cs : List ChunkRef). cs ++ chunks_of keys last) wrote.writes.chunks_are
    ∙ (chunks_more keys chunks some last ∙ ap (λ (cs : List ChunkRef). cs ++ chunks_of keys (some ++ last)) none))) in
    let holds = joined_holds told source refs wrote.contents wrote.come in
    (content, (pieces, (made ∙ ap (chunks_of keys) pieces, (fits, holds))))

-- ---- the item that is written

sizes_fit : (keys : Keys) (block : ℕ) (pieces : List (List ℕ)) → block ≤ 8388608
    → All (λ piece. (1 ≤ length piece) × (length piece ≤ block)) pieces
    → AllByRecursion (λ (chunk : ChunkRef). chunk.size ≤ content_limit) (chunks_of keys pieces)
sizes_fit keys block [] most all = tt
sizes_fit keys block (piece ∷ pieces) most all =
    let size = All-head (λ (p : List ℕ). (1 ≤ length p) × (length p ≤ block)) piece pieces all in (
      omega (arith, size.1, most),
      sizes_fit keys block pieces most (All-tail (λ (p : List ℕ). (1 ≤ length p) × (length p ≤ block)) piece pieces all),
    )

copied_fit : (told : Option Told) (source : RepoState) (block : ℕ) (keys : Keys) (chunks copied : Option (List ChunkRef)) (more : List (List ℕ))
    (count : ℕ) → 1 ≤ block → block ≤ 8388608 → ChunksFit chunks count → CopiesContent told source block keys chunks more copied
    → ChunksFit copied count
copied_fit told source block keys None None more count least most fit copies = tt
copied_fit told source block keys None (Some copied) more count least most fit copies = absurd copies
copied_fit told source block keys (Some chunks) None more count least most fit copies = absurd copies
copied_fit told source block keys (Some chunks) (Some copied) more count least most fit copies =
    let content = copies.0 in
    let made : copied ≡ chunks_of keys (cut block content) = copies.1.1.0 in
    let few : length copied ≤ 4294967295 = copies.1.1.1.0 in (
      subst (AllByRecursion (λ (chunk : ChunkRef). chunk.size ≤ content_limit)) (sym made)
          (sizes_fit keys block (cut block content) most (cut_sizes block content least)),
      omega (arith, few),
      fit.2,
    )

-- the item with the target's chunks can be written, as the one that was taken
pub copied_packable : (told : Option Told) (source : RepoState) (block : ℕ) (keys : Keys) (item : ItemText) (copied : Option (List ChunkRef))
    (more : List (List ℕ)) → 1 ≤ block → block ≤ 8388608 → IsPackable item → CopiesContent told source block keys item.chunks more copied
    → IsPackable (record { fields = item.fields; chunks = copied })
copied_packable told source block keys item copied more least most packable copies = record {
  is_table = packable.is_table;
  writable = packable.writable;
  path = packable.path;
  apart = packable.apart;
  chunks = copied_fit told source block keys item.chunks copied more _ least most packable.chunks copies;
}
