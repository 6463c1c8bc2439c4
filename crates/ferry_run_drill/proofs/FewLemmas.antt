-- What a drill adds is little, so that it begins few segments, and their numbers aren't used up.
use Rattle.std.proofs.Common.{◌≡◌, ◌≤◌, ◌<◌, ◌+◌, ◌*◌, ◌/◌, inl, inr, ℕ, zero, suc, List, [], ◌∷◌, ◌++◌, length, All, Option, Some, None, Err}
use Rattle.std.proofs.Common.{refl, sym, ◌∙◌, ap, subst, arith, length-append}
use Rattle.std.proofs.lemmas.List.{length-map}
use Rattle.std.proofs.lemmas.List.Elements.{All-head, All-tail}
use Rattle.std.proofs.lemmas.List.Sums.{sum_by-append, sum_by-cons}
use Rattle.std.specs.List.{AllByRecursion, concat}
use Rattle.ferry_carry.specs.Carrying.{Origin, SaysIn}
use Rattle.ferry_carry.specs.Copied.{copied_item, pieces_of, stream_block}
use Rattle.ferry_carry.specs.Listing.{AddsName, BeginsArchive, BeginsName, BeginsNames, BeginsNext, BeginsOne, FillsOn}
use Rattle.ferry_carry.specs.Listing.{ListsContents, ListsItems}
use Rattle.ferry_carry.specs.Refusals.{total_size}
use Rattle.ferry_disk.specs.Files.{Files}
use Rattle.ferry_gen.specs.Archives.{drill_archive, drill_item, drill_items, items_front}
use Rattle.ferry_gen.specs.Content.{archive_name, file_content}
use Rattle.ferry_item.specs.Item.{ItemText}
use Rattle.ferry_item.specs.Writing.{item_text}
use Rattle.ferry_item.specs.declared.item.ChunkRef.{ChunkRef}
use Rattle.ferry_log.specs.State.{LogState}
use Rattle.ferry_mac.specs.declared.keys.Keys.{Keys}
use Rattle.ferry_manifest.specs.Manifest.Text.{ManifestText}
use Rattle.ferry_manifest.specs.Record.Text.{ArchiveText}
use Rattle.ferry_manifest.specs.declared.manifest.ArchiveRef.{ArchiveRef}
use Rattle.ferry_piece.proofs.FewLemmas.{used_up}
use Rattle.ferry_piece.specs.Adding.{BeginsSegments}
use Rattle.ferry_piece.specs.Puts.{Addition, Content, Record, addition, ArePieces, contents_in}
use Rattle.ferry_rechunk.proofs.CutLemmas.{cut_count}
use Rattle.ferry_rechunk.specs.Cut.{cut}
use Rattle.ferry_repo.proofs.ComesLemmas.{whole_comes}
use Rattle.ferry_repo.proofs.ContentLemmas.{one_joined, one_record}
use Rattle.ferry_repo.proofs.WalkLawLemmas.{one_comes}
use Rattle.ferry_repo.proofs.WholeLemmas.{one_whole}
use Rattle.ferry_repo.specs.Archives.{HoldsRecord, ContentsCome, HoldsJoined}
use Rattle.ferry_repo.specs.Opening.{RepoState}
use Rattle.ferry_repo.specs.Walk.{Comes}
use Rattle.ferry_repo.specs.Whole.{HoldsItem, WholeArchive, WholeItem, WholesCome}
use Rattle.ferry_store.specs.declared.store.Store.{Store}
use Rattle.ferry_write.proofs.StandLemmas.{all-append}
use Rattle.ferry_write.specs.Room.{behind}
use Rattle.ferry_carry.specs.declared.options.Carried.{Carried}
use Rattle.ferry_run_drill.proofs.NameLemmas.{SaysAll, names_from, names_size}
use Rattle.ferry_run_drill.proofs.SmallLemmas.{content_size, item_small}
use Rattle.ferry_run_drill.specs.Drill.{target_block}
use Rattle.ferry_run_drill.specs.Steps.{drill_origin}

-- ---- items

-- pieces of one length have as many bytes as they are
full_size : (block : ℕ) (pieces : List (List ℕ)) → All (λ one. length one ≡ block) pieces → length (concat pieces) ≡ block * length pieces
full_size block [] whole = omega arith
full_size block (p ∷ ps) whole =
    let first : length p ≡ block = All-head (λ one. length one ≡ block) p ps whole in
    omega (arith, first, length-append p (concat ps), full_size block ps (All-tail (λ one. length one ≡ block) p ps whole))

-- A content has few pieces, and its item's spelling in the target is short.
abbrev IsLittle : Keys → WholeItem → Type 0
IsLittle keys whole = (content : List ℕ) × ((whole.content ≡ Some content) × ((length content ≤ 32768)
    × (length (item_text (copied_item keys target_block whole)) ≤ 4000)))

front_little : (keys : Keys) (archive count : ℕ) → count ≤ 8 → AllByRecursion (IsLittle keys) (items_front archive count)
unfolding items_front
front_little keys archive zero most = tt
front_little keys archive (suc count) most =
    all-append (IsLittle keys) (items_front archive count) (drill_item archive count ∷ []) (front_little keys archive count (omega (arith, most))) (
      (
        file_content archive count,
        (refl, (omega (arith, content_size archive count, most), item_small keys archive count (omega (arith, most)))),
      ),
      tt,
    )

front_count : (archive count : ℕ) → length (items_front archive count) ≡ count
unfolding items_front
front_count archive zero = refl
front_count archive (suc count) =
    omega (arith, length-append (items_front archive count) (drill_item archive count ∷ []), front_count archive count)

-- the pieces of such a content
pieces_few : (content : List ℕ) → length content ≤ 32768 → length (cut target_block content) ≤ 64
pieces_few content short =
    let count : length (cut target_block content) ≡ (length content + 511) / 512 = cut_count target_block content in
    let few : (length content + 511) / 512 ≤ 64 = omega (arith, short) in
    omega (arith, count, few)

own_few : (keys : Keys) (whole : WholeItem) (own : List Addition) → IsLittle keys whole → ArePieces Content (pieces_of target_block whole.content) own
    → length own ≤ 64
own_few keys whole own little is =
    let pieces : pieces_of target_block whole.content ≡ cut target_block little.0 = ap (pieces_of target_block) little.1.0 in
    let all = ap (λ (l : List (List ℕ)). length l) (is.0 ∙ pieces) in
    omega (arith, all, length-map own (λ (one : Addition). one.content), pieces_few little.0 little.1.1.0)

-- the pieces of the stream that become whole with it
fills_few : (keys : Keys) (whole : WholeItem) (piece piece_now : List ℕ) (full : List Addition) → IsLittle keys whole → length piece ≤ 131071
    → FillsOn piece (item_text (copied_item keys target_block whole)) full piece_now → (length full ≤ 1) × (length piece_now ≤ 131071)
fills_few keys whole piece piece_now full little short fills =
    let text = item_text (copied_item keys target_block whole) in
    let taken = contents_in full in
    let size = full_size stream_block taken fills.fed.whole in
    let joined = ap (λ (l : List ℕ). length l) fills.fed.joined in
    let one = length-append (concat taken) piece_now in
    let two = length-append piece text in
    let count = length-map full (λ (one : Addition). one.content) in
    let rest = fills.rest in
    (omega (arith, size, joined, one, two, count, short, little.1.1.1), omega (arith, rest))

-- what is added of items
lists_few : (keys : Keys) (piece : List ℕ) (wholes : List WholeItem) (listed : List Addition) (piece_now : List ℕ) → AllByRecursion (IsLittle keys) wholes
    → length piece ≤ 131071 → ListsItems keys target_block piece wholes listed piece_now → (length listed ≤ 65 * length wholes) × (length piece_now ≤ 131071)
lists_few keys piece [] listed piece_now little short lists =
    let none = ap (λ (l : List Addition). length l) lists.0 in
    let same = ap (λ (l : List ℕ). length l) lists.1 in
    (omega (arith, none), omega (arith, same, short))
lists_few keys piece (whole ∷ wholes) listed piece_now little short lists =
    let own = lists.0 in
    let full = lists.1.0 in
    let middle = lists.1.1.0 in
    let rest = lists.1.1.1.0 in
    let is = ap (λ (l : List Addition). length l) lists.1.1.1.1.1.1.0 in
    let fills = fills_few keys whole piece middle full little.0 short lists.1.1.1.1.1.0 in
    let later = lists_few keys middle wholes rest piece_now little.1 fills.1 lists.1.1.1.1.1.1.1 in
    let mine = own_few keys whole own little.0 lists.1.1.1.1.0 in
    (omega (arith, is, mine, fills.0, later.0, length-append own (full ++ rest), length-append full rest), later.1)

-- ---- the items of an archive

one_item : (files : Files) (log : LogState) (keys : Keys) (item : ItemText) (a b : WholeItem) → HoldsItem files log keys item a
    → HoldsItem files log keys item b → a ≡ b
one_item files log keys item a b first second =
    let fields = first.fields ∙ sym second.fields in
    let content = one_joined files log keys item.chunks a.content b.content first.content second.content in
    rw (fields, content) refl

-- those of the first items are the first ones
front_wholes : (files : Files) (log : LogState) (keys : Keys) (items more : List ItemText) (wholes all : List WholeItem)
    → WholesCome files log keys items None wholes None → WholesCome files log keys (items ++ more) None all None
    → (rest : List WholeItem) × (all ≡ wholes ++ rest)
front_wholes files log keys [] more [] all come full = (all, refl)
front_wholes files log keys [] more (w ∷ ws) all come full = absurd (let no : ⊥ = come in no)
front_wholes files log keys (i ∷ is) more [] all come full = absurd come
front_wholes files log keys (i ∷ is) more (w ∷ ws) [] come full = absurd full
front_wholes files log keys (i ∷ is) more (w ∷ ws) (v ∷ vs) come full =
    let later = front_wholes files log keys is more ws vs come.1 full.1 in
    let first = one_item files log keys i v w full.0 come.0 in
    (later.0, ap (λ (x : WholeItem). x ∷ vs) first ∙ ap (λ (l : List WholeItem). w ∷ l) later.1)

-- that of an item behind the first ones
next_whole : (files : Files) (log : LogState) (keys : Keys) (P : WholeItem → Type 0) (items : List ItemText) (one : ItemText) (others : List ItemText)
    (all : List WholeItem) → WholesCome files log keys (items ++ one ∷ others) None all None → AllByRecursion P all
    → (whole : WholeItem) × (HoldsItem files log keys one whole × P whole)
next_whole files log keys P [] one others [] come little = absurd come
next_whole files log keys P [] one others (w ∷ ws) come little = (w, (come.0, little.0))
next_whole files log keys P (i ∷ is) one others [] come little = absurd come
next_whole files log keys P (i ∷ is) one others (w ∷ ws) come little = next_whole files log keys P is one others ws come.1 little.1

all_front : (P : WholeItem → Type 0) (some rest : List WholeItem) → AllByRecursion P (some ++ rest) → AllByRecursion P some
all_front P [] rest all = tt
all_front P (w ∷ ws) rest all = (all.0, all_front P ws rest all.1)

-- chunks that come state the length of what comes
contents_size : (files : Files) (log : LogState) (keys : Keys) (chunks : List ChunkRef) (contents : List (List ℕ))
    → ContentsCome files log keys chunks contents None → total_size chunks ≡ length (concat contents)
contents_size files log keys [] [] come = refl
contents_size files log keys [] (c ∷ cs) come = absurd come
contents_size files log keys (k ∷ ks) [] come = absurd come
contents_size files log keys (k ∷ ks) (c ∷ cs) come =
    let first : total_size (k ∷ ks) ≡ k.size + total_size ks = sum_by-cons (λ (chunk : ChunkRef). chunk.size) k ks in
    omega (arith, first, come.0.size, contents_size files log keys ks cs come.1, length-append c (concat cs))

-- those of the first chunks of an item have no more bytes than its content
refs_size : (files : Files) (log : LogState) (keys : Keys) (refs rest : List ChunkRef) (chunks : Option (List ChunkRef)) (contents : List (List ℕ))
    (content : List ℕ) → chunks ≡ Some (refs ++ rest) → ContentsCome files log keys refs contents None → HoldsJoined files log keys chunks (Some content)
    → length (concat contents) ≤ length content
refs_size files log keys refs rest chunks contents content is come holds =
    let whole : HoldsJoined files log keys (Some (refs ++ rest)) (Some content) =
    subst (λ (c : Option (List ChunkRef)). HoldsJoined files log keys c (Some content)) is holds in
    let all = contents_size files log keys (refs ++ rest) whole.0 whole.1 in
    let some = contents_size files log keys refs contents come in
    let both = sum_by-append (λ (chunk : ChunkRef). chunk.size) refs rest in
    let joined = ap (λ (l : List ℕ). length l) whole.2 in
    omega (arith, all, some, both, joined)

-- ---- archives

module _ (source : Files) (repo : RepoState) (keys : Keys) (archive : ℕ) (says : SaysIn source repo (archive_name archive) (drill_archive archive)) where
  abbrev From : Origin
  From = drill_origin source repo

  little : AllByRecursion (IsLittle keys) (drill_items archive)
  little = front_little keys archive 8 (omega arith)

  -- all that is added in front of the record
  contents_few : (added : List Addition) → ListsContents source From keys (archive_name archive) added → length added ≤ 521
  contents_few added lists =
      let same = one_whole source repo.log repo.keys repo.manifest.archives (archive_name archive) lists.whole (drill_archive archive) lists.source says in
      let items = ap (λ (w : WholeArchive). w.items) same in
      let all = lists_few keys [] (drill_items archive) lists.listed lists.piece little (omega arith)
      (subst (λ (l : List WholeItem). ListsItems keys target_block [] l lists.listed lists.piece) items lists.lists) in
      let count = front_count archive 8 in
      let last = ap (λ (l : List (List ℕ)). length l) lists.last_is.0 in
      let pieces : length (cut stream_block lists.piece) ≡ (length lists.piece + 131071) / 131072 = cut_count stream_block lists.piece in
      let few : (length lists.piece + 131071) / 131072 ≤ 1 = let short = all.1 in omega (arith, short) in
      let is = ap (λ (l : List Addition). length l) lists.added_is in
      let listed = all.0 in
      omega (
        arith,
        listed,
        count,
        last,
        pieces,
        few,
        is,
        length-append lists.listed lists.last,
        length-map lists.last (λ (one : Addition). one.content),
      )

  -- a part of the next item
  item_few : (items more : List ItemText) (piece : List ℕ) (next : List Addition) → length piece ≤ 131071
      → WholesCome source repo.log repo.keys (items ++ more) None (drill_items archive) None → BeginsNext source repo keys target_block more piece next
      → length next ≤ 65
  item_few items more piece next short come (inl none) = let size = ap (λ (l : List Addition). length l) none in omega (arith, size)
  item_few items more piece next short come (inr (inl begins)) =
      let here = subst (λ (l : List ItemText). WholesCome source repo.log repo.keys (items ++ l) None (drill_items archive) None) begins.first come in
      let it = next_whole source repo.log repo.keys (IsLittle keys) items begins.item begins.others (drill_items archive) here little in
      let holds : HoldsJoined source repo.log repo.keys begins.item.chunks (Some it.1.1.0) =
      subst (HoldsJoined source repo.log repo.keys begins.item.chunks) it.1.1.1.0 it.1.0.content in
      let most = refs_size source repo.log repo.keys begins.refs begins.rest begins.item.chunks begins.contents it.1.1.0 begins.chunks begins.come holds in
      let full = full_size target_block (contents_in next) begins.full.whole in
      let joined = ap (λ (l : List ℕ). length l) begins.full.joined in
      omega (
        arith,
        most,
        full,
        joined,
        it.1.1.1.1.0,
        length-append (concat (contents_in next)) begins.full.rest,
        length-map next (λ (one : Addition). one.content),
      )
  item_few items more piece next short come (inr (inr begins)) =
      let here = subst (λ (l : List ItemText). WholesCome source repo.log repo.keys (items ++ l) None (drill_items archive) None) begins.first come in
      let it = next_whole source repo.log repo.keys (IsLittle keys) items begins.item begins.others (drill_items archive) here little in
      let same = one_item source repo.log repo.keys begins.item it.0 begins.whole it.1.0 begins.holds in
      let whole : IsLittle keys begins.whole = subst (IsLittle keys) same it.1.1 in
      let own = own_few keys begins.whole begins.own whole begins.own_is in
      let text = item_text (copied_item keys target_block begins.whole) in
      let full = full_size stream_block (contents_in begins.full) begins.full_is.whole in
      let joined = ap (λ (l : List ℕ). length l) begins.full_is.joined in
      let is = ap (λ (l : List Addition). length l) begins.begun_is in
      omega (
        arith,
        own,
        full,
        joined,
        is,
        short,
        whole.1.1.1,
        length-append piece text,
        length-append (concat (contents_in begins.full)) begins.full_is.rest,
        length-append begins.own begins.full,
        length-map begins.full (λ (one : Addition). one.content),
      )

  -- a part of the archive
  begins_few : (begun : List Addition) → BeginsArchive source From keys (archive_name archive) begun → length begun ≤ 600
  begins_few begun begins = by where
    both : Some says.named ≡ Some begins.named
    both = sym says.named_is ∙ begins.named_is

    named : begins.named ≡ says.named
    named = let e = both in cc

    id : begins.named.id ≡ says.named.id
    id = ap (λ (n : ArchiveRef). n.id) named

    reads : HoldsRecord source repo.log repo.keys says.named.id begins.archive
    reads = subst (λ (i : List ℕ). HoldsRecord source repo.log repo.keys i begins.archive) id begins.record_is

    same : begins.archive ≡ says.archive
    same = one_record source repo.log repo.keys says.named.id begins.archive says.archive reads says.record_is

    comes : Comes source repo.log repo.keys says.named.id [] says.archive.items (begins.items ++ begins.more) begins.ends
    comes = subst (λ (a : ArchiveText). Comes source repo.log repo.keys says.named.id [] a.items (begins.items ++ begins.more) begins.ends) same
        (subst (λ (i : List ℕ). Comes source repo.log repo.keys i [] begins.archive.items (begins.items ++ begins.more) begins.ends) id begins.stream)

    stream : Comes source repo.log repo.keys says.named.id [] says.archive.items says.items None
    stream = (whole_comes source repo.log repo.keys says.named.id says.archive.items says.items).1 says.stream

    all : WholesCome source repo.log repo.keys (begins.items ++ begins.more) None (drill_items archive) None
    all = subst (λ (l : List ItemText). WholesCome source repo.log repo.keys l None (drill_items archive) None)
        (one_comes source repo.log repo.keys says.named.id [] says.archive.items says.items (begins.items ++ begins.more) None begins.ends stream comes).0
        says.contents

    by : length begun ≤ 600
    by =
        let front = front_wholes source repo.log repo.keys begins.items begins.more begins.wholes (drill_items archive) begins.come all in
        let wholes : AllByRecursion (IsLittle keys) begins.wholes =
        all_front (IsLittle keys) begins.wholes front.0 (subst (AllByRecursion (IsLittle keys)) front.1 little) in
        let lists = lists_few keys [] begins.wholes begins.listed begins.piece wholes (omega arith) begins.lists in
        let next = item_few begins.items begins.more begins.piece begins.next lists.1 all begins.next_is in
        let sizes = ap (λ (l : List WholeItem). length l) front.1 in
        let is = ap (λ (l : List Addition). length l) begins.begun_is in
        let listed = lists.0 in
        omega (
          arith,
          listed,
          next,
          sizes,
          is,
          front_count archive 8,
          length-append begins.wholes front.0,
          length-append begins.listed begins.next,
        )

  one_few : (begun : List Addition) → BeginsOne From keys (archive_name archive) begun → length begun ≤ 600
  one_few begun (inl none) = let size = ap (λ (l : List Addition). length l) none in omega (arith, size)
  one_few begun (inr (inl begins)) = begins_few begun begins
  one_few begun (inr (inr (inl lists))) = let few = contents_few begun lists in omega (arith, few)
  one_few begun (inr (inr (inr (one, lists)))) =
      let few = contents_few lists.contents lists.lists in
      let is = ap (λ (l : List Addition). length l) lists.added_is in
      omega (arith, few, is, length-append lists.contents (addition Record one.text lists.put ∷ []))

-- ---- names

module _ (source : Files) (repo : RepoState) (keys : Keys) where
  -- What is added for a name is little.
  abbrev IsFew : List ℕ → Type 0
  IsFew name = (begun : List Addition) → BeginsOne (drill_origin source repo) keys name begun → length begun ≤ 600

  adds_few : (accepted : ManifestText) (before : List (List ℕ)) (name : List ℕ) (added : List Addition) → IsFew name
      → AddsName (drill_origin source repo) keys accepted before name added → length added ≤ 600
  adds_few accepted before name added few (records, inl there) =
      let size = ap (λ (l : List Addition). length l) there.1.1 in
      omega (arith, size)
  adds_few accepted before name added few (records, inr new) = few added (inr (inr (inr (new.1.0, new.1.1.1))))

  name_few : (accepted : ManifestText) (before : List (List ℕ)) (name : List ℕ) (begun : List Addition) → IsFew name
      → BeginsName (drill_origin source repo) keys accepted before name begun → length begun ≤ 600
  name_few accepted before name begun few (inl there) = let size = ap (λ (l : List Addition). length l) there.1 in omega (arith, size)
  name_few accepted before name begun few (inr new) = few begun new.1

  names_few : (accepted : ManifestText) (before names : List (List ℕ)) (begun : List Addition) → AllByRecursion IsFew names
      → BeginsNames (drill_origin source repo) keys accepted before names begun → length begun ≤ 600 * length names
  names_few accepted before [] begun few begins = let size = ap (λ (l : List Addition). length l) begins in omega (arith, size)
  names_few accepted before (name ∷ names) begun few (inl first) = let most = name_few accepted before name begun few.0 first in omega (arith, most)
  names_few accepted before (name ∷ names) begun few (inr (one, (rest, (split, (adds, later))))) =
      let first = adds_few accepted before name one few.0 adds in
      let others = names_few accepted (before ++ name ∷ []) names rest few.1 later in
      let is = ap (λ (l : List Addition). length l) split in
      omega (arith, first, others, is, length-append one rest)

  each_few : (first count most : ℕ) → first + count ≤ most → ((archive : ℕ) → archive < most → IsFew (archive_name archive))
      → AllByRecursion IsFew (names_from first count)
  unfolding names_from
  each_few first zero most within each = tt
  each_few first (suc count) most within each = (each first (omega (arith, within)), each_few (suc first) count most (omega (arith, within)) each)

-- the numbers of segments aren't used up by what a drill adds
pub never_used : (source : Files) (repo : RepoState) (store now : Store) (count : ℕ) (accepted : ManifestText) (added : List Addition) (keys : Keys)
    → count ≤ 64 → SaysAll source repo count → behind store.session.last ≤ 2
    → BeginsNames (drill_origin source repo) keys accepted [] (names_from 0 count) added
    → BeginsSegments {T = Carried} (2 * length added + 2 * length (names_from 0 count)) store now (Err used_up) → ⊥
never_used source repo store now count accepted added keys most says new begins few =
    let each = each_few source repo keys 0 count count (omega arith) (λ archive low. one_few source repo keys archive (says archive low)) in
    let all = names_few source repo keys accepted [] (names_from 0 count) added each begins in
    let size = names_size 0 count in
    let begun = few.few in
    let used = few.used refl in
    omega (arith, most, new, all, size, begun, used)
