-- What the drill makes is small: its first manifest, its items and its records.
use Rattle.std.proofs.Common.{◌≡◌, ◌≤◌, ◌<◌, ◌+◌, ◌*◌, ◌/◌, ℕ, zero, suc, List, [], ◌∷◌, ◌++◌, codes, length, map, pos, replicate, Option, Some, None}
use Rattle.std.proofs.Common.{refl, sym, ◌∙◌, ap, subst, arith, length-append}
use Rattle.std.proofs.lemmas.List.{length-map}
use Rattle.std.proofs.lemmas.List.Sums.{sum_by-cons}
use Rattle.std.specs.List.{AllByRecursion}
use Rattle.ferry_base.specs.Limits.{content_limit}
use Rattle.ferry_blob.proofs.CallerLemmas.{length-content_id}
use Rattle.ferry_blob.specs.Blob.{content_id}
use Rattle.ferry_carry.specs.Carrying.{SaysIn}
use Rattle.ferry_carry.specs.Copied.{IsCopyOf, copied_item, copied_stream, stream_block, stream_pieces}
use Rattle.ferry_carry.specs.Naming.{copied_archive, fixed_params}
use Rattle.ferry_carry.specs.Refusals.{HasLargeRecord, HasLongItem, IsTooLong, total_size}
use Rattle.ferry_disk.specs.Files.{Files}
use Rattle.ferry_gen.proofs.ListLemmas.{stream_more}
use Rattle.ferry_gen.specs.Archives.{drill_archive, drill_item, drill_items, items_front}
use Rattle.ferry_gen.specs.Content.{archive_name, archive_time, file_byte, file_content, file_front, file_path, file_size}
use Rattle.ferry_gen.specs.Fields.{archive_fields, item_fields}
use Rattle.ferry_item.specs.Item.{ItemText}
use Rattle.ferry_item.specs.Stream.{joined}
use Rattle.ferry_item.specs.Writing.{item_text}
use Rattle.ferry_item.specs.declared.item.ChunkRef.{ChunkRef}
use Rattle.ferry_log.specs.State.{LogState}
use Rattle.ferry_mac.specs.declared.keys.Keys.{Keys}
use Rattle.ferry_manifest.specs.Manifest.Writing.{archive_pairs}
use Rattle.ferry_manifest.specs.Record.Text.{ArchiveText}
use Rattle.ferry_manifest.specs.Record.Writing.{archive_text}
use Rattle.ferry_manifest.specs.Values.{pairs_of_table, raws}
use Rattle.ferry_manifest.specs.declared.manifest.ArchiveRef.{ArchiveRef}
use Rattle.ferry_msgpack.specs.Shortest.{shortest, shortest_items, shortest_pairs}
use Rattle.ferry_msgpack.specs.Tree.{Tree, item, no_items, no_pairs, number, pair, raw}
use Rattle.ferry_piece.specs.Gather.{chunk_of, chunks_of}
use Rattle.ferry_rechunk.proofs.CutLemmas.{cut_count}
use Rattle.ferry_rechunk.specs.Cut.{cut}
use Rattle.ferry_repo.proofs.ComesLemmas.{whole_comes}
use Rattle.ferry_repo.proofs.ContentLemmas.{one_record}
use Rattle.ferry_repo.proofs.WalkLawLemmas.{one_comes}
use Rattle.ferry_repo.proofs.WholeLemmas.{one_whole}
use Rattle.ferry_repo.specs.Archives.{HoldsRecord, ContentsCome, HoldsJoined}
use Rattle.ferry_repo.specs.Opening.{RepoState}
use Rattle.ferry_repo.specs.Walk.{Comes}
use Rattle.ferry_repo.specs.Whole.{HoldsItem, WholeArchive, WholeItem, WholesCome}
use Rattle.ferry_store.specs.Init.{IsTooLarge}
use Rattle.ferry_store.specs.New.{first_manifest}
use Rattle.ferry_write.proofs.StandLemmas.{all-append}
use Rattle.ferry_run_drill.proofs.LengthLemmas.{array_most, item_most, manifest_most, number_most, pair_most, raw_most, record_most, table_most}
use Rattle.ferry_run_drill.specs.Drill.{drill_time, target_block}
use Rattle.ferry_run_drill.specs.Steps.{drill_origin}

-- ---- the first manifest

pub first_small : IsTooLarge drill_time → ⊥
unfolding archive_pairs raws
first_small large =
    let most = manifest_most large.basis.keys large.salt (first_manifest drill_time) drill_time large.salt_size refl in
    omega (arith, most, large.long, table_most no_pairs)

-- ---- items

-- a file has as many bytes as told
front_size : (archive file count : ℕ) → length (file_front archive file count) ≡ count
unfolding file_front
front_size archive file zero = refl
front_size archive file (suc count) =
    omega (arith, length-append (file_front archive file count) (file_byte archive file count ∷ []), front_size archive file count)

pub content_size : (archive file : ℕ) → length (file_content archive file) ≡ 4096 * (file + 1)
content_size archive file = front_size archive file (file_size file)

-- the ids of chunks have 32 bytes
chunk_ids : (keys : Keys) (pieces : List (List ℕ)) → AllByRecursion (λ (chunk : ChunkRef). length chunk.id ≡ 32) (chunks_of keys pieces)
chunk_ids keys [] = tt
chunk_ids keys (p ∷ ps) = (length-content_id keys p, chunk_ids keys ps)

pub item_small : (keys : Keys) (archive file : ℕ) → file < 8 → length (item_text (copied_item keys target_block (drill_item archive file))) ≤ 4000
item_small keys archive file most =
    let content = file_content archive file in
    let pieces = cut target_block content in
    let size = content_size archive file in
    let few : (length content + 511) / 512 ≤ 64 = omega (arith, size, most) in
    let count : length pieces ≡ (length content + 511) / 512 = cut_count target_block content in
    let chunks = length-map pieces (chunk_of keys) in
    let path = pair (codes "path") (raw (file_path file)) no_pairs in
    let text = item_most (item_fields file) (chunks_of keys pieces) (chunk_ids keys pieces) in
    omega (
      arith,
      few,
      count,
      chunks,
      text,
      pair_most (codes "mode") (number (pos 33188)) path,
      number_most (pos 33188),
      pair_most (codes "path") (raw (file_path file)) no_pairs,
      raw_most (file_path file),
    )

stream_small : (keys : Keys) (archive count : ℕ) → count ≤ 8 → length (copied_stream keys target_block (items_front archive count)) ≤ 4000 * count
unfolding items_front
stream_small keys archive zero most = omega arith
stream_small keys archive (suc count) most =
    let front = items_front archive count in
    let whole = drill_item archive count in
    let is = ap (λ (l : List ℕ). length l) (stream_more keys target_block front whole) in
    omega (
      arith,
      is,
      length-append (copied_stream keys target_block front) (item_text (copied_item keys target_block whole)),
      stream_small keys archive count (omega (arith, most)),
      item_small keys archive count (omega (arith, most)),
    )

-- ---- records

content_ids : (keys : Keys) (pieces : List (List ℕ)) → AllByRecursion (λ (id : List ℕ). length id ≡ 32) (map (content_id keys) pieces)
content_ids keys [] = tt
content_ids keys (p ∷ ps) = (length-content_id keys p, content_ids keys ps)

fields_small : (archive : ℕ) → length (shortest_pairs (pairs_of_table (archive_fields archive))) ≤ 200
fields_small archive =
    let version = pair (codes "version") (number (pos 1)) no_pairs in
    let time = pair (codes "time") (raw archive_time) version in
    omega (
      arith,
      pair_most (codes "name") (raw (archive_name archive)) time,
      raw_most (archive_name archive),
      pair_most (codes "time") (raw archive_time) version,
      raw_most archive_time,
      pair_most (codes "version") (number (pos 1)) no_pairs,
      number_most (pos 1),
    )

params_small : length (shortest (fixed_params target_block)) ≤ 100
params_small =
    let last = item (number (pos 0)) no_items in
    let two = item (number (pos target_block)) last in
    let a = length-append (shortest (number (pos 0))) [] in
    let b = length-append (shortest (number (pos target_block))) (shortest_items last) in
    let c = length-append (shortest (raw (codes "fixed"))) (shortest_items two) in
    omega (
      arith,
      a,
      b,
      c,
      number_most (pos 0),
      number_most (pos target_block),
      raw_most (codes "fixed"),
      array_most (item (raw (codes "fixed")) two),
    )

record_small : (keys : Keys) (archive : ℕ) (salt : List ℕ) (text : ArchiveText) → length salt ≡ 64 → text.fields ≡ archive_fields archive
    → length (archive_text keys salt
    (copied_archive text target_block (map (content_id keys) (stream_pieces keys target_block (drill_items archive))))) ≤ content_limit
record_small keys archive salt text size fields =
    let pieces = stream_pieces keys target_block (drill_items archive) in
    let stream = copied_stream keys target_block (drill_items archive) in
    let short : length stream ≤ 32000 = omega (arith, stream_small keys archive 8 (omega arith)) in
    let count : length pieces ≡ (length stream + 131071) / 131072 = cut_count stream_block stream in
    let few : (length stream + 131071) / 131072 ≤ 1 = omega (arith, short) in
    let ids = map (content_id keys) pieces in
    let copied = copied_archive text target_block ids in
    let as_many = length-map pieces (content_id keys) in
    let same = ap (λ (t : Tree). length (shortest_pairs (pairs_of_table t))) fields in
    let all = record_most keys salt copied (fixed_params target_block) size refl (content_ids keys pieces) in
    omega (arith, count, few, as_many, same, all, fields_small archive, params_small)

-- the record of an archive in the target is short
pub record_short : (keys : Keys) (archive : ℕ) (salt text : List ℕ) → IsCopyOf keys target_block (drill_items archive) (archive_fields archive) salt text
    → length text ≤ 2000
record_short keys archive salt text copy =
    let pieces = stream_pieces keys target_block (drill_items archive) in
    let stream = copied_stream keys target_block (drill_items archive) in
    let short : length stream ≤ 32000 = omega (arith, stream_small keys archive 8 (omega arith)) in
    let count : length pieces ≡ (length stream + 131071) / 131072 = cut_count stream_block stream in
    let few : (length stream + 131071) / 131072 ≤ 1 = omega (arith, short) in
    let as_many = length-map pieces (content_id keys) in
    let items = ap (λ (ids : List (List ℕ)). length ids) copy.items in
    let same = ap (λ (t : Tree). length (shortest_pairs (pairs_of_table t))) copy.same in
    let ids = subst (AllByRecursion (λ (id : List ℕ). length id ≡ 32)) (sym copy.items) (content_ids keys pieces) in
    let all = record_most keys salt copy.copied (fixed_params target_block) copy.salt_size copy.params ids in
    let text_is = ap (λ (l : List ℕ). length l) copy.text_is in
    omega (arith, count, few, as_many, items, same, all, fields_small archive, params_small, text_is)

-- no record of the drill is too large
pub none_large : (source : Files) (repo : RepoState) (keys : Keys) (archive : ℕ) → SaysIn source repo (archive_name archive) (drill_archive archive)
    → HasLargeRecord source (drill_origin source repo) keys (archive_name archive) → ⊥
none_large source repo keys archive says large =
    let same = one_whole source repo.log repo.keys repo.manifest.archives (archive_name archive) large.whole (drill_archive archive) large.source says in
    let fields : large.archive.fields ≡ archive_fields archive = large.fields ∙ ap (λ (w : WholeArchive). w.fields) same in
    let salt : List ℕ = replicate 64 0 in
    let size : length salt ≡ 64 = refl in
    let long : content_limit < length (archive_text keys salt
    (copied_archive large.archive target_block (map (content_id keys) (stream_pieces keys target_block (drill_items archive))))) =
    subst (λ (w : WholeArchive). content_limit < length (archive_text keys salt
    (copied_archive large.archive target_block (map (content_id keys) (stream_pieces keys target_block w.items))))) same (large.large salt size) in
    omega (arith, record_small keys archive salt large.archive size fields, long)

-- ---- contents

-- A file has no more bytes than the largest.
abbrev IsShort : WholeItem → Type 0
IsShort whole = (content : List ℕ) × ((whole.content ≡ Some content) × (length content ≤ 32768))

front_short : (archive count : ℕ) → count ≤ 8 → AllByRecursion IsShort (items_front archive count)
unfolding items_front
front_short archive zero most = tt
front_short archive (suc count) most =
    all-append IsShort (items_front archive count) (drill_item archive count ∷ []) (front_short archive count (omega (arith, most)))
    ((file_content archive count, (refl, omega (arith, content_size archive count, most))), tt)

-- chunks that come state the length of what comes
sizes_of : (files : Files) (log : LogState) (keys : Keys) (chunks : List ChunkRef) (contents : List (List ℕ))
    → ContentsCome files log keys chunks contents None → total_size chunks ≡ length (joined contents)
sizes_of files log keys [] [] come = refl
sizes_of files log keys [] (c ∷ cs) come = absurd come
sizes_of files log keys (k ∷ ks) [] come = absurd come
sizes_of files log keys (k ∷ ks) (c ∷ cs) come =
    let first : total_size (k ∷ ks) ≡ k.size + total_size ks = sum_by-cons (λ (chunk : ChunkRef). chunk.size) k ks in
    omega (arith, first, come.0.size, sizes_of files log keys ks cs come.1, length-append c (joined cs))

not_long : (files : Files) (log : LogState) (keys : Keys) (chunks : Option (List ChunkRef)) (content : List ℕ)
    → HoldsJoined files log keys chunks (Some content) → length content ≤ 32768 → IsTooLong target_block chunks → ⊥
not_long files log keys None content holds short long = long
not_long files log keys (Some chunks) content holds short long =
    omega (arith, sizes_of files log keys chunks holds.0 holds.1, ap (λ (l : List ℕ). length l) holds.2, short, long)

-- what holds of each item that comes holds of one of them
item_of : (P : WholeItem → Type 0) (files : Files) (log : LogState) (keys : Keys) (items : List ItemText) (one : ItemText) (behind : List ItemText)
    (wholes : List WholeItem) → WholesCome files log keys (items ++ one ∷ behind) None wholes None → AllByRecursion P wholes
    → (whole : WholeItem) × (HoldsItem files log keys one whole × P whole)
item_of P files log keys [] one behind [] come all = absurd come
item_of P files log keys [] one behind (w ∷ ws) come all = (w, (come.0, all.0))
item_of P files log keys (i ∷ is) one behind [] come all = absurd come
item_of P files log keys (i ∷ is) one behind (w ∷ ws) come all = item_of P files log keys is one behind ws come.1 all.1

-- no item of the drill is too long
pub no_long : (source : Files) (repo : RepoState) (archive : ℕ) → SaysIn source repo (archive_name archive) (drill_archive archive)
    → HasLongItem source (drill_origin source repo) (archive_name archive) → ⊥
no_long source repo archive says has =
    let both : Some says.named ≡ Some has.named = sym says.named_is ∙ has.named_is in
    let named : has.named ≡ says.named = cc in
    let id : has.named.id ≡ says.named.id = ap (λ (n : ArchiveRef). n.id) named in
    let reads : HoldsRecord source repo.log repo.keys says.named.id has.archive =
    subst (λ (i : List ℕ). HoldsRecord source repo.log repo.keys i has.archive) id has.record_is in
    let same : has.archive ≡ says.archive = one_record source repo.log repo.keys says.named.id has.archive says.archive reads says.record_is in
    let comes : Comes source repo.log repo.keys says.named.id [] says.archive.items (has.items ++ has.item ∷ has.behind) has.end =
    subst (λ (a : ArchiveText). Comes source repo.log repo.keys says.named.id [] a.items (has.items ++ has.item ∷ has.behind) has.end) same
    (subst (λ (i : List ℕ). Comes source repo.log repo.keys i [] has.archive.items (has.items ++ has.item ∷ has.behind) has.end) id has.comes) in
    let stream = (whole_comes source repo.log repo.keys says.named.id says.archive.items says.items).1 says.stream in
    let one = one_comes source repo.log repo.keys says.named.id [] says.archive.items says.items (has.items ++ has.item ∷ has.behind) None has.end
    stream comes in
    let all : WholesCome source repo.log repo.keys (has.items ++ has.item ∷ has.behind) None (drill_items archive) None =
    subst (λ (l : List ItemText). WholesCome source repo.log repo.keys l None (drill_items archive) None) one.0 says.contents in
    let it = item_of IsShort source repo.log repo.keys has.items has.item has.behind (drill_items archive) all (front_short archive 8 (omega arith)) in
    let holds : HoldsJoined source repo.log repo.keys has.item.chunks (Some it.1.1.0) =
    subst (HoldsJoined source repo.log repo.keys has.item.chunks) it.1.1.1.0 it.1.0.content in
    not_long source repo.log repo.keys has.item.chunks it.1.1.0 holds it.1.1.1.1 has.long
