-- Lemmas on specs/Steps.antt: contents that are added, one after another, up to the record of an archive.
use Rattle.std.proofs.Common.{◌≡◌, ◌≤◌, ℕ, List, [], ◌∷◌, ◌++◌, length, All, Option, Result, Ok, Err, IfOk, OnOk}
use Rattle.std.proofs.Common.{refl, sym, ◌∙◌, ap, subst, arith}
use Rattle.std.proofs.lemmas.List.{append_assoc, map-append}
use Rattle.std.proofs.lemmas.List.Elements.{All-head, All-tail}
use Rattle.std.specs.List.{AllByRecursion}
use Rattle.ferry_base.specs.Limits.{content_limit}
use Rattle.ferry_carry.specs.Copied.{IsRead, contents_of, copied_item, copied_stream, stream_block, stream_pieces}
use Rattle.ferry_carry.specs.Naming.{copied_in}
use Rattle.ferry_carry.specs.Naming.{PutsRecord as PutsUnder}
use Rattle.ferry_disk.proofs.MomentLemmas.{between_map, between_then}
use Rattle.ferry_disk.specs.Device.{Told}
use Rattle.ferry_disk.specs.Moments.{Between}
use Rattle.ferry_item.specs.declared.item.ChunkRef.{ChunkRef}
use Rattle.ferry_mac.specs.declared.keys.Keys.{Keys}
use Rattle.ferry_manifest.specs.Record.Text.{ArchiveText, as_tagged}
use Rattle.ferry_piece.proofs.GatherLemmas.{gathers_here, gathers_then}
use Rattle.ferry_piece.proofs.PieceLemmas.{chunks_more}
use Rattle.ferry_piece.proofs.PutsLemmas.{contents_append}
use Rattle.ferry_piece.specs.Adding.{AddsOn}
use Rattle.ferry_piece.specs.Gather.{Gathers, KeepsRest, chunk_of, chunks_of}
use Rattle.ferry_piece.specs.Piece.{CountsOn, WritesOn}
use Rattle.ferry_piece.specs.Puts.{Addition, Content, contents_in}
use Rattle.ferry_piece.specs.declared.piece.PieceWriter.{PieceWriter}
use Rattle.ferry_piece.specs.declared.fault.CarryFault.{CarryFault}
use Rattle.ferry_rechunk.proofs.CutLemmas.{cut_sizes}
use Rattle.ferry_rechunk.proofs.CuttingLemmas.{fed_cut, fed_nothing}
use Rattle.ferry_rechunk.specs.Cut.{cut}
use Rattle.ferry_rechunk.specs.Cutting.{Cutting, IsFed}
use Rattle.ferry_store.proofs.StepLemmas.{here_each}
use Rattle.ferry_store.specs.declared.store.Store.{Store}
use Rattle.ferry_write.specs.Script.{AllDone}
use Rattle.ferry_gen.proofs.ListLemmas.{drill_few, ids_of}
use Rattle.ferry_gen.specs.Archives.{drill_items}
use Rattle.ferry_gen.specs.Fields.{IsNewRecord}
use Rattle.ferry_gen.specs.Source.{source_block}
use Rattle.ferry_gen.specs.Steps.{IsWritten, Puts, PutsArchive, PutsRecord, most_pending}

-- ---- one after another

-- where nothing was added
pub puts_here : (store : Store) (a : Option Told) → Puts [] store store a a
puts_here store a = ([], (refl, here_each (Gathers most_pending store [] store) a (λ h. gathers_here most_pending store h)))

-- contents behind contents
pub puts_then : (some more : List (List ℕ)) (store middle now : Store) (a b c : Option Told) → KeepsRest store middle → KeepsRest middle now
    → Puts some store middle a b → Puts more middle now b c → Puts (some ++ more) store now a c
puts_then some more store middle now a b c rest rest_now p q = (
  p.0 ++ q.0,
  (
    contents_append p.0 q.0 ∙ (ap (λ (l : List (List ℕ)). l ++ contents_in q.0) p.1.0 ∙ ap (λ (l : List (List ℕ)). some ++ l) q.1.0),
    between_then a b c (Gathers most_pending store p.0 middle) (Gathers most_pending middle q.0 now) (Gathers most_pending store (p.0 ++ q.0) now)
        (λ h g i x y. gathers_then most_pending store middle now p.0 q.0 rest rest_now h g i x y) p.1.1 q.1.1,
  ),
)

-- other words for the same contents
pub puts_as : (some more : List (List ℕ)) (store now : Store) (a b : Option Told) → some ≡ more → Puts some store now a b → Puts more store now a b
puts_as some more store now a b same p = subst (λ (l : List (List ℕ)). Puts l store now a b) same p

-- what a body added that is `Ok`
pub puts_of : {T : Type 0} (most : ℕ) (more : List Addition) (contents : List (List ℕ)) (store now : Store) (a b : Option Told) (n m : ℕ) (x : T)
    → most ≡ most_pending → contents_in more ≡ contents → AddsOn {T = T} most store more now a b n m (Ok x) → Puts contents store now a b
puts_of {T} most more contents store now a b n m x same is adds = (
  more,
  (
    is,
    subst (λ (limit : ℕ). Between a b (Gathers limit store more now)) same
        (between_map a b (λ h g. AllDone h g × Gathers most store more now h g) (Gathers most store more now) (λ h g e. e.1) adds.works.end),
  ),
)

-- the same whatever it answers
pub puts_adds : {T : Type 0} (r : Result T CarryFault) (most : ℕ) (more : List Addition) (contents : List (List ℕ)) (store now : Store) (a b : Option Told)
    (n m : ℕ) → most ≡ most_pending → contents_in more ≡ contents → AddsOn {T = T} most store more now a b n m r → OnOk r (Puts contents store now a b)
puts_adds {T} (Ok x) most more contents store now a b n m same is adds = puts_of {T = T} most more contents store now a b n m x same is adds
puts_adds {T} (Err fault) most more contents store now a b n m same is adds = tt

-- ---- pieces

-- the pieces that became whole and those of what was left are the cut of all
pub whole_cut : (keys : Keys) (cutter now : Cutting) (chunks chunks_now : List ChunkRef) (content : List ℕ) (some : List (List ℕ)) (block : ℕ)
    → 1 ≤ block → cutter.block ≡ block → cutter.piece ≡ [] → WritesOn keys cutter chunks content some now chunks_now
    → some ++ cut now.block now.piece ≡ cut block content
whole_cut keys cutter now chunks chunks_now content some block least is empty writes =
    let begun : IsFed cutter.block [] [] cutter.piece =
    subst (λ (piece : List ℕ). IsFed cutter.block [] [] piece) (sym empty) (fed_nothing cutter.block) in
    let ended : IsFed cutter.block content some now.piece = writes.fed [] [] begun in
    let fed : IsFed block content some now.piece = subst (λ (n : ℕ). IsFed n content some now.piece) is ended in
    ap (λ (n : ℕ). some ++ cut n now.piece) (writes.block ∙ is) ∙ sym (fed_cut block content now.piece some least fed)

-- and so are their chunks
pub whole_chunks : (keys keys_now : Keys) (cutter now : Cutting) (chunks chunks_now : List ChunkRef) (content : List ℕ) (some : List (List ℕ)) (block : ℕ)
    → 1 ≤ block → cutter.block ≡ block → cutter.piece ≡ [] → chunks ≡ [] → keys_now ≡ keys → WritesOn keys cutter chunks content some now chunks_now
    → chunks_now ++ chunks_of keys_now (cut now.block now.piece) ≡ chunks_of keys (cut block content)
whole_chunks keys keys_now cutter now chunks chunks_now content some block least is empty none same writes =
    let last = cut now.block now.piece in
    ap (λ (k : Keys). chunks_now ++ chunks_of k last) same
    ∙ (ap (λ (cs : List ChunkRef). cs ++ chunks_of keys last) writes.chunks_are
    ∙ (chunks_more keys chunks some last
    ∙ (ap (λ (cs : List ChunkRef). cs ++ chunks_of keys (some ++ last)) none
    ∙ ap (chunks_of keys) (whole_cut keys cutter now chunks chunks_now content some block least is empty writes))))

-- a writer that took bytes
pub written_so : (r : Result (Unit {0}) CarryFault) (keys : Keys) (writer writer_now : PieceWriter) (bytes : List ℕ) (more : List Addition) (store now : Store)
    (a b : Option Told) (n m : ℕ) → 1 ≤ writer.cutter.block → writer.cutter.piece ≡ [] → writer.chunks.items ≡ [] → writer.checkpoint ≡ most_pending
    → AddsOn {T = Unit {0}} writer.checkpoint store more now a b n m r
    → OnOk r (WritesOn keys writer.cutter writer.chunks.items bytes (contents_in more) writer_now.cutter writer_now.chunks.items
    × CountsOn Content writer more writer_now)
    → OnOk r (IsWritten keys writer.cutter.block bytes store now a b writer_now)
written_so (Err fault) keys writer writer_now bytes more store now a b n m least empty none same adds wrote = tt
written_so (Ok x) keys writer writer_now bytes more store now a b n m least empty none same adds wrote =
    let writes = wrote.0 in
    record {
      full = contents_in more;
      puts = puts_of {T = Unit {0}} writer.checkpoint more (contents_in more) store now a b n m x same refl adds;
      whole = whole_cut keys writer.cutter writer_now.cutter writer.chunks.items writer_now.chunks.items bytes (contents_in more) writer.cutter.block least refl
          empty writes;
      chunks = writes.chunks_are ∙ ap (λ (cs : List ChunkRef). cs ++ chunks_of keys (contents_in more)) none;
      block_is = writes.block;
      within = omega (arith, writes.room);
    }

sizes_fit : (keys : Keys) (block : ℕ) (pieces : List (List ℕ)) → block ≤ content_limit
    → All (λ piece. (1 ≤ length piece) × (length piece ≤ block)) pieces
    → AllByRecursion (λ (chunk : ChunkRef). chunk.size ≤ content_limit) (chunks_of keys pieces)
sizes_fit keys block [] most all = tt
sizes_fit keys block (piece ∷ pieces) most all =
    let size = All-head (λ (p : List ℕ). (1 ≤ length p) × (length p ≤ block)) piece pieces all in (
      omega (arith, size.1, most),
      sizes_fit keys block pieces most (All-tail (λ (p : List ℕ). (1 ≤ length p) × (length p ≤ block)) piece pieces all),
    )

-- none of them is too large
pub source_sizes : (keys : Keys) (content : List ℕ) → AllByRecursion (λ (chunk : ChunkRef). chunk.size ≤ content_limit) (chunks_of keys (cut source_block
    content))
source_sizes keys content = sizes_fit keys source_block (cut source_block content) (omega arith) (cut_sizes source_block content (omega arith))

-- what holds behind a body holds where it is `Ok`
pub on_any : {T : Type 0} {P : Type 0} (r : Result T CarryFault) → P → OnOk r P
on_any (Ok x) p = p
on_any (Err fault) p = tt

-- the chunks of all pieces of bytes that were taken
pub written_chunks : (keys keys_now : Keys) (block : ℕ) (bytes : List ℕ) (store now : Store) (a b : Option Told) (writer : PieceWriter) → keys_now ≡ keys
    → (wrote : IsWritten keys block bytes store now a b writer)
    → writer.chunks.items ++ chunks_of keys_now (cut writer.cutter.block writer.cutter.piece) ≡ chunks_of keys (cut block bytes)
written_chunks keys keys_now block bytes store now a b writer same wrote =
    let last = cut writer.cutter.block writer.cutter.piece in
    ap (λ (k : Keys). writer.chunks.items ++ chunks_of k last) same
    ∙ (ap (λ (cs : List ChunkRef). cs ++ chunks_of keys last) wrote.chunks
    ∙ (sym (map-append (chunk_of keys) wrote.full last) ∙ ap (chunks_of keys) wrote.whole))

-- ---- the record

-- a record that was added
pub record_puts : (r : Result (List ℕ) CarryFault) (more : List Addition) (archive : ℕ) (keys : Keys) (text : ArchiveText) (chunks : List ChunkRef)
    (store now : Store) (a b : Option Told) (n m : ℕ) (before after : Option (List ℕ)) → IsNewRecord archive text
    → AddsOn {T = List ℕ} most_pending store more now a b n m r → PutsUnder keys (copied_in text source_block chunks) more before after r
    → IfOk r (PutsRecord archive keys chunks [] store now a b)
record_puts (Err fault) more archive keys text chunks store now a b n m before after is adds under = tt
record_puts (Ok id) more archive keys text chunks store now a b n m before after is adds under =
    let record_is = under.adds in record {
      text = record_is.text;
      salt = record_is.salt;
      salt_size = record_is.salt_size;
      copied = as_tagged (copied_in text source_block chunks);
      fields = is.1;
      tagged = refl;
      items = refl;
      params = refl;
      text_is = record_is.text_is;
      reads = record_is.reads;
      small = record_is.small;
      id_is = under.id_is;
      puts = puts_of {T = List ℕ} most_pending more (record_is.text ∷ []) store now a b n m id refl (ap contents_in record_is.more_is) adds;
    }

-- the same behind pieces of the stream that became whole
pub record_behind : (r : Result (List ℕ) CarryFault) (archive : ℕ) (keys other : Keys) (chunks all : List ChunkRef) (some last whole : List (List ℕ))
    (store middle now : Store) (a b c : Option Told) → KeepsRest store middle → OnOk r (KeepsRest middle now) → other ≡ keys → chunks ≡ all
    → some ++ last ≡ whole → Puts some store middle a b → IfOk r (PutsRecord archive other chunks last middle now b c)
    → IfOk r (PutsRecord archive keys all whole store now a c)
record_behind (Err fault) archive keys other chunks all some last whole store middle now a b c rest rest_now same is joined p q = tt
record_behind (Ok id) archive keys other chunks all some last whole store middle now a b c rest rest_now same is joined p q =
    let of_keys = subst (λ (k : Keys). PutsRecord archive k chunks last middle now b c id) same q in
    let one = subst (λ (cs : List ChunkRef). PutsRecord archive keys cs last middle now b c id) is of_keys in record {
      text = one.text;
      salt = one.salt;
      salt_size = one.salt_size;
      copied = one.copied;
      fields = one.fields;
      tagged = one.tagged;
      items = one.items;
      params = one.params;
      text_is = one.text_is;
      reads = one.reads;
      small = one.small;
      id_is = one.id_is;
      puts = puts_as (some ++ (last ++ one.text ∷ [])) (whole ++ one.text ∷ []) store now a c
          (sym (append_assoc some last (one.text ∷ [])) ∙ ap (λ (l : List (List ℕ)). l ++ one.text ∷ []) joined)
          (puts_then some (last ++ one.text ∷ []) store middle now a b c rest rest_now p one.puts);
    }

-- all contents of an archive
pub archive_puts : (r : Result (List ℕ) CarryFault) (archive : ℕ) (keys other : Keys) (stream : List ℕ) (store middle now : Store) (a b c : Option Told)
    → KeepsRest store middle → OnOk r (KeepsRest middle now) → other ≡ keys → stream ≡ copied_stream keys source_block (drill_items archive)
    → AllByRecursion (λ whole. IsRead (copied_item keys source_block whole)) (drill_items archive)
    → Puts (contents_of source_block (drill_items archive)) store middle a b
    → IfOk r (PutsRecord archive other (chunks_of other (cut stream_block stream)) (cut stream_block stream) middle now b c)
    → IfOk r (PutsArchive archive keys store now a c)
archive_puts (Err fault) archive keys other stream store middle now a b c rest rest_now same is read p q = tt
archive_puts (Ok id) archive keys other stream store middle now a b c rest rest_now same is read p q =
    let items = drill_items archive in
    let of_keys = subst (λ (k : Keys). PutsRecord archive k (chunks_of k (cut stream_block stream)) (cut stream_block stream) middle now b c id) same q in
    let one = subst (λ (s : List ℕ). PutsRecord archive keys (chunks_of keys (cut stream_block s)) (cut stream_block s) middle now b c id) is of_keys in
    record {
      text = one.text;
      is = (
        one.salt,
        record {
          some = omega arith;
          salt_size = one.salt_size;
          copied = one.copied;
          same = one.fields;
          items = one.items ∙ ids_of keys (stream_pieces keys source_block items);
          params = one.params;
          tagged = one.tagged;
          text_is = one.text_is;
          reads = one.reads;
          small = one.small;
          few = drill_few archive;
          spelled = read;
        },
      );
      id_is = one.id_is;
      puts = puts_then (contents_of source_block items) (stream_pieces keys source_block items ++ one.text ∷ []) store middle now a b c rest rest_now p
          one.puts;
    }
