-- Where archives came, none of their items was too long, and no manifest on the way too large.
use Rattle.std.proofs.Common.{◌≡◌, inl, inr, ◌≤◌, ◌<◌, ◌+◌, ◌-◌, ◌/◌, ◌*◌, ℕ, List, [], ◌∷◌, ◌++◌, div-lt_iff_lt-mul, fold, length}
use Rattle.std.proofs.Common.{Option, Some, None, refl, sym, ◌∙◌, ap, subst, arith}
use Rattle.std.proofs.lemmas.List.{length-append}
use Rattle.std.specs.List.{AllByRecursion}
use Rattle.ferry_base.specs.Limits.{content_limit}
use Rattle.ferry_blob.proofs.CallerLemmas.{length-content_id}
use Rattle.ferry_blob.specs.Blob.{content_id}
use Rattle.ferry_disk.specs.Files.{Files}
use Rattle.ferry_item.specs.Item.{ItemText}
use Rattle.ferry_item.specs.Stream.{joined}
use Rattle.ferry_item.specs.declared.item.ChunkRef.{ChunkRef}
use Rattle.ferry_log.specs.State.{LogState}
use Rattle.ferry_mac.specs.declared.keys.Keys.{Keys}
use Rattle.ferry_manifest.specs.Manifest.Text.{ManifestText}
use Rattle.ferry_manifest.specs.Manifest.Writing.{manifest_text}
use Rattle.ferry_manifest.specs.Record.Text.{ArchiveText}
use Rattle.ferry_manifest.specs.declared.manifest.ArchiveRef.{ArchiveRef}
use Rattle.ferry_rechunk.proofs.CutLemmas.{cut_count}
use Rattle.ferry_rechunk.specs.Cut.{cut}
use Rattle.ferry_repo.proofs.ComesLemmas.{whole_comes}
use Rattle.ferry_repo.proofs.ContentLemmas.{one_record}
use Rattle.ferry_repo.proofs.WalkLawLemmas.{one_comes}
use Rattle.ferry_repo.specs.Archives.{HoldsRecord, ContentsCome, HoldsJoined}
use Rattle.ferry_repo.specs.Walk.{Comes}
use Rattle.ferry_repo.specs.Whole.{WholeArchive, WholeItem, WholesCome}
use Rattle.ferry_carry.proofs.CauseLemmas.{not_there}
use Rattle.ferry_carry.proofs.LengthLemmas.{IsAlike, alike_text, found_back, found_in, next_alike}
use Rattle.ferry_carry.specs.Accepting.{AreNamedNext, AreNextOf, HasIdSize, HasLargeNext, IsNextOf, next_named}
use Rattle.ferry_carry.specs.Carrying.{Origin, SaysIn}
use Rattle.ferry_carry.specs.Copied.{HasFewPieces, pieces_of}
use Rattle.ferry_carry.specs.Naming.{HasSalts, TaggedRecord, record_ids}
use Rattle.ferry_carry.specs.Refusals.{HasLongItem, IsTooLong, total_size}

-- ---- items

-- the contents of chunks are as long as they state
sizes_from : (files : Files) (log : LogState) (keys : Keys) (count : ℕ) (chunks : List ChunkRef) (contents : List (List ℕ))
    → ContentsCome files log keys chunks contents None
    → fold (λ (all : ℕ) (chunk : ChunkRef). all + chunk.size) count chunks ≡ count + length (joined contents)
sizes_from files log keys count [] [] come = omega arith
sizes_from files log keys count [] (c ∷ cs) come = absurd come
sizes_from files log keys count (r ∷ rs) [] come = absurd come
sizes_from files log keys count (r ∷ rs) (c ∷ cs) come =
    let size : length c ≡ r.size = come.0.size in
    let more = sizes_from files log keys (count + r.size) rs cs come.1 in
    let all = length-append c (joined cs) in
    more ∙ omega (arith, size, all)

-- a content that is cut into few pieces has few bytes
few_bytes : (block : ℕ) (content : List ℕ) → 1 ≤ block → length (cut block content) ≤ 4294967295 → length content ≤ 4294967295 * block
few_bytes block content some few =
    let count : length (cut block content) ≡ (length content + (block - 1)) / block = cut_count block content in
    let less : (length content + (block - 1)) / block < 4294967296 = omega (arith, count, few) in
    let positive : 0 < block = omega (arith, some) in
    let all : length content + (block - 1) < 4294967296 * block = (div-lt_iff_lt-mul positive).0 less in
    omega (arith, all, some)

few_short : (files : Files) (log : LogState) (keys : Keys) (block : ℕ) (chunks : Option (List ChunkRef)) (content : Option (List ℕ)) → 1 ≤ block
    → HoldsJoined files log keys chunks content → length (pieces_of block content) ≤ 4294967295 → IsTooLong block chunks → ⊥
few_short files log keys block None content some holds few long = long
few_short files log keys block (Some chunks) None some holds few long = holds
few_short files log keys block (Some chunks) (Some content) some holds few long =
    let sizes : total_size chunks ≡ 0 + length (joined holds.0) = sizes_from files log keys 0 chunks holds.0 holds.1 in
    let same : length content ≡ length (joined holds.0) = ap (λ (bytes : List ℕ). length bytes) holds.2 in
    let bytes = few_bytes block content some few in
    let more : 4294967295 * block < total_size chunks = long in
    omega (arith, sizes, same, bytes, more)

-- none of these items is too long
none_long : (files : Files) (log : LogState) (keys : Keys) (block : ℕ) (front : List ItemText) (item : ItemText) (behind : List ItemText)
    (wholes : List WholeItem) → 1 ≤ block → WholesCome files log keys (front ++ (item ∷ behind)) None wholes None → AllByRecursion (HasFewPieces block) wholes
    → IsTooLong block item.chunks → ⊥
none_long files log keys block [] item behind [] some come few long = come
none_long files log keys block [] item behind (w ∷ ws) some come few long =
    few_short files log keys block item.chunks w.content some come.0.content few.0 long
none_long files log keys block (f ∷ front) item behind [] some come few long = come
none_long files log keys block (f ∷ front) item behind (w ∷ ws) some come few long =
    none_long files log keys block front item behind ws some come.1 few.1 long

-- an archive that is whole, and whose items have few pieces, has none
pub whole_short : (there : Files) (from : Origin) (name : List ℕ) (whole : WholeArchive) → 1 ≤ from.block → SaysIn there from.repo name whole
    → AllByRecursion (HasFewPieces from.block) whole.items → HasLongItem there from name → ⊥
whole_short there from name whole some is few long =
    let log = from.repo.log in
    let keys = from.repo.keys in
    let both : Some long.named ≡ Some is.named = sym long.named_is ∙ is.named_is in
    let named : long.named ≡ is.named = cc in
    let holds = subst (λ (n : ArchiveRef). HoldsRecord there log keys n.id long.archive) named long.record_is in
    let same = one_record there log keys is.named.id long.archive is.archive holds is.record_is in
    let all = long.items ++ (long.item ∷ long.behind) in
    let found : Comes there log keys is.named.id [] is.archive.items all long.end =
    subst (λ (a : List (List ℕ)). Comes there log keys is.named.id [] a all long.end) (ap (λ (a : ArchiveText). a.items) same)
    (subst (λ (n : ArchiveRef). Comes there log keys n.id [] long.archive.items all long.end) named long.comes) in
    let comes = (whole_comes there log keys is.named.id is.archive.items is.items).1 is.stream in
    let items : all ≡ is.items = (one_comes there log keys is.named.id [] is.archive.items all is.items long.end None found comes).0 in
    none_long there log keys from.block long.items long.item long.behind whole.items some
    (subst (λ (l : List ItemText). WholesCome there log keys l None whole.items None) (sym items) is.contents) few long.long

-- ---- manifests

-- the id of a content is so long as each id of an archive
pub ids_sized : (keys : Keys) (records : List TaggedRecord) → AllByRecursion HasIdSize (record_ids keys records)
ids_sized keys [] = tt
ids_sized keys (one ∷ records) = (length-content_id keys one.text, ids_sized keys records)

first_all : {X : Type 0} (P : X → Type 0) (xs ys : List X) → AllByRecursion P (xs ++ ys) → AllByRecursion P xs
first_all {X} P [] ys all = tt
first_all {X} P (x ∷ xs) ys all = (all.0, first_all P xs ys all.1)

last_all : {X : Type 0} (P : X → Type 0) (xs ys : List X) → AllByRecursion P (xs ++ ys) → AllByRecursion P ys
last_all {X} P [] ys all = all
last_all {X} P (x ∷ xs) ys all = last_all P xs ys all.1

-- behind one archive manifests differ in ids alone where they did in front of it
one_alike : (given : Option (List ℕ)) (source : ManifestText) (one two : ManifestText) (name : List ℕ) (ids others : List (List ℕ))
    (one_now two_now : ManifestText) → IsAlike one two → AllByRecursion HasIdSize ids → AllByRecursion HasIdSize others
    → IsNextOf given source one name ids one_now → IsNextOf given source two name others two_now → IsAlike one_now two_now
one_alike given source one two name ids others one_now two_now alike sizes more (inl p) (inl q) =
    subst (λ (m : ManifestText). IsAlike m two_now) (sym p.1.1) (subst (λ (m : ManifestText). IsAlike one m) (sym q.1.1) alike)
one_alike given source one two name ids others one_now two_now alike sizes more (inl p) (inr q) =
    absurd (not_there q.0.lacks (found_in name one two alike p.0))
one_alike given source one two name ids others one_now two_now alike sizes more (inr p) (inl q) =
    absurd (not_there p.0.lacks (found_back name one two alike q.0))
one_alike given source one two name ids others one_now two_now alike sizes more (inr p) (inr q) =
    let both : Some p.0.named ≡ Some q.0.named = sym p.0.named_is ∙ q.0.named_is in
    let named : p.0.named ≡ q.0.named = cc in
    let a : AllByRecursion HasIdSize (p.1.0 ∷ []) = subst (AllByRecursion HasIdSize) p.1.1.0 sizes in
    let b : AllByRecursion HasIdSize (q.1.0 ∷ []) = subst (AllByRecursion HasIdSize) q.1.1.0 more in
    let next : IsAlike (next_named given source one p.0.named p.1.0) (next_named given source two p.0.named q.1.0) =
    next_alike given source one two p.0.named p.1.0 q.1.0 alike (a.0 ∙ sym b.0) in
    subst (λ (m : ManifestText). IsAlike m two_now) (sym p.1.1.1)
    (subst (λ (m : ManifestText). IsAlike (next_named given source one p.0.named p.1.0) m) (sym q.1.1.1)
    (subst (λ (n : ArchiveRef). IsAlike (next_named given source one p.0.named p.1.0) (next_named given source two n q.1.0)) named next))

-- the next of them isn't too large where it came with other ids
next_small : (given : Option (List ℕ)) (source : ManifestText) (keys : Keys) (one two : ManifestText) (name : List ℕ) (records : List TaggedRecord)
    (now : ManifestText) → IsAlike one two → AllByRecursion HasSalts records → IsNextOf given source two name (record_ids keys records) now
    → AllByRecursion (λ (tagged : TaggedRecord). length (manifest_text keys tagged.manifest_salt now) ≤ content_limit) records
    → HasLargeNext given source keys one name → ⊥
next_small given source keys one two name records now alike salts (inl p) small large = not_there large.new.lacks (found_back name one two alike p.0)
next_small given source keys one two name [] now alike salts (inr p) small large =
    let none : [] ≡ p.1.0 ∷ [] = p.1.1.0 in let no : ⊥ = cc in no
next_small given source keys one two name (tagged ∷ records) now alike salts (inr p) small large =
    let salt = tagged.manifest_salt in
    let id = content_id keys tagged.text in
    let ids : id ∷ record_ids keys records ≡ p.1.0 ∷ [] = p.1.1.0 in
    let same : p.1.0 ≡ id = cc in
    let both : Some large.new.named ≡ Some p.0.named = sym large.new.named_is ∙ p.0.named_is in
    let named : p.0.named ≡ large.new.named = cc in
    let big = large.large tagged.text salt salts.0.1 in
    let came : now ≡ next_named given source two large.new.named id =
    p.1.1.1 ∙ (ap (λ (n : ArchiveRef). next_named given source two n p.1.0) named
    ∙ ap (next_named given source two large.new.named) same) in
    let size = alike_text keys salt (next_named given source one large.new.named id) (next_named given source two large.new.named id)
    (next_alike given source one two large.new.named id id alike refl) in
    let fits : length (manifest_text keys salt (next_named given source two large.new.named id)) ≤ content_limit =
    subst (λ (m : ManifestText). length (manifest_text keys salt m) ≤ content_limit) came small.0 in
    omega (arith, big, size, fits)

-- behind a front of names that came no manifest is too large with the next
pub front_small : (given : Option (List ℕ)) (source : ManifestText) (keys : Keys) (one two : ManifestText) (done : List (List ℕ)) (name : List ℕ)
    (rest ids : List (List ℕ)) (records : List TaggedRecord) (middle now : ManifestText) → IsAlike one two → AllByRecursion HasIdSize ids
    → AllByRecursion HasSalts records → AreNextOf given source one done ids middle
    → AreNamedNext given source keys two (done ++ name ∷ rest) records now → HasLargeNext given source keys middle name → ⊥
front_small given source keys one two [] name rest ids records middle now alike sizes salts p q large =
    let own = subst (AllByRecursion HasSalts) q.1.1.0 salts in
    next_small given source keys one two name q.0 q.1.1.1.0 alike (first_all HasSalts q.0 q.1.0 own) q.1.1.1.1.0.0 q.1.1.1.1.0.1
    (subst (λ (m : ManifestText). HasLargeNext given source keys m name) p.1 large)
front_small given source keys one two (first ∷ done) name rest ids records middle now alike sizes salts p q large =
    let own = subst (AllByRecursion HasSalts) q.1.1.0 salts in
    let few = subst (AllByRecursion HasIdSize) p.1.1.0 sizes in
    let next = one_alike given source one two first p.0 (record_ids keys q.0) p.1.1.1.0 q.1.1.1.0 alike (first_all HasIdSize p.0 p.1.0 few)
    (ids_sized keys q.0) p.1.1.1.1.0 q.1.1.1.1.0.0 in
    front_small given source keys p.1.1.1.0 q.1.1.1.0 done name rest p.1.0 q.1.0 middle now next (last_all HasIdSize p.0 p.1.0 few)
    (last_all HasSalts q.0 q.1.0 own) p.1.1.1.1.1 q.1.1.1.1.1 large
