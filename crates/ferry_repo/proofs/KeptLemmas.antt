-- Lemmas on KeepsBlobs: what fits stays so where each blob that was there is there still, as it is after what others do.
use Rattle.std.proofs.Common.{◌≡◌, ℕ, Bool, true, false, cond, List, [], ◌∷◌, ◌++◌, take, drop, Option, Some, None, unwrap_or}
use Rattle.std.proofs.Common.{refl, sym, ◌∙◌, ap, subst, arith}
use Rattle.std.proofs.lemmas.List.{drop-append-le, take-append-le, length-append, length-drop}
use Rattle.std.specs.FinMap.{get, get-insert, get-remove, nat_cmp-IsAntisymmetric}
use Rattle.std.specs.Cmp.{nat_cmp_total}
use Rattle.std.specs.List.{AllByRecursion}
use Rattle.std.specs.Ordering.{nat_cmp, eq_by_cmp, is_eq}
use Rattle.std.specs.declared.cmp.Ordering.{Ordering}
use Rattle.std.specs.declared.cmp.Ordering.TheVariants.{Less, Equal, Greater}
use Rattle.ferry_disk.specs.Act.{replaced}
use Rattle.ferry_disk.specs.Files.{Files, segment_bytes, with_file, without_segment}
use Rattle.ferry_disk.specs.declared.name.Name.{Name}
use Rattle.ferry_disk.specs.declared.name.Name.TheVariants.{Config, Nonce, Readme, Segment}
use Rattle.ferry_item.specs.declared.item.ChunkRef.{ChunkRef}
use Rattle.ferry_log.specs.State.{LogState, FitsFiles, IsBlobAt, place_in}
use Rattle.ferry_log.specs.declared.place.Place.{Place}
use Rattle.ferry_log.proofs.FitsLemmas.{place_holds}
use Rattle.ferry_mac.specs.declared.keys.Keys.{Keys}
use Rattle.ferry_repo.specs.Archives.{ContentsCome}
use Rattle.ferry_repo.specs.Cached.{Contents, Noted, Opened}
use Rattle.ferry_repo.specs.Noted.{IsNoted}
use Rattle.ferry_repo.specs.Objects.{HasBlob, HoldsChunk, KeepsBlobs}
use Rattle.ferry_repo.specs.Opening.{RepoState, FitsRepo}
use Rattle.ferry_repo.specs.Walk.{HoldChunks, WalkState, FitsWalk}

-- ---- what stays

pub chunk_kept : (f g : Files) (a b : LogState) (keys : Keys) (id content : List ℕ) → KeepsBlobs f a g b → HoldsChunk f a keys id content
    → HoldsChunk g b keys id content
chunk_kept f g a b keys id content keeps holds = record {
  chunk = holds.chunk;
  object = record { blob = holds.object.blob; has = keeps id holds.object.blob holds.object.has; opens = holds.object.opens };
}

chunks_kept : (f g : Files) (a b : LogState) (keys : Keys) (ids contents : List (List ℕ)) → KeepsBlobs f a g b → HoldChunks f a keys ids contents
    → HoldChunks g b keys ids contents
chunks_kept f g a b keys [] [] keeps hold = tt
chunks_kept f g a b keys [] (c ∷ cs) keeps hold = hold
chunks_kept f g a b keys (i ∷ is) [] keeps hold = hold
chunks_kept f g a b keys (i ∷ is) (c ∷ cs) keeps hold = (chunk_kept f g a b keys i c keeps hold.0, chunks_kept f g a b keys is cs keeps hold.1)

pub walk_kept : (f g : Files) (a b : LogState) (keys : Keys) (walk : WalkState) → KeepsBlobs f a g b → FitsWalk f a keys walk → FitsWalk g b keys walk
walk_kept f g a b keys walk keeps fits = record {
  contents = fits.contents;
  hold = chunks_kept f g a b keys (take walk.read walk.ids) fits.contents keeps fits.hold;
  items = fits.items;
  front = fits.front;
  answered = fits.answered;
  left = fits.left;
  split = fits.split;
  left_is = fits.left_is;
  met = fits.met;
}

cached_kept : (f g : Files) (a b : LogState) (keys : Keys) (cached : Opened) → KeepsBlobs f a g b
    → AllByRecursion (λ c. HoldsChunk f a keys c.0 c.1) cached → AllByRecursion (λ c. HoldsChunk g b keys c.0 c.1) cached
cached_kept f g a b keys [] keeps all = tt
cached_kept f g a b keys (c ∷ cs) keeps all = (chunk_kept f g a b keys c.0 c.1 keeps all.0, cached_kept f g a b keys cs keeps all.1)

come_kept : (f g : Files) (a b : LogState) (keys : Keys) (chunks : List ChunkRef) (contents : List (List ℕ)) → KeepsBlobs f a g b
    → ContentsCome f a keys chunks contents None → ContentsCome g b keys chunks contents None
come_kept f g a b keys [] [] keeps come = tt
come_kept f g a b keys [] (content ∷ contents) keeps come = absurd come
come_kept f g a b keys (chunk ∷ chunks) [] keeps come = absurd come
come_kept f g a b keys (chunk ∷ chunks) (content ∷ contents) keeps come = (
  record { holds = chunk_kept f g a b keys chunk.id content keeps come.0.holds; size = come.0.size },
  come_kept f g a b keys chunks contents keeps come.1,
)

noted_kept : (f g : Files) (a b : LogState) (keys : Keys) (noted : Noted) → KeepsBlobs f a g b
    → AllByRecursion (λ n. IsNoted f a keys n.1) noted → AllByRecursion (λ n. IsNoted g b keys n.1) noted
noted_kept f g a b keys [] keeps all = tt
noted_kept f g a b keys (n ∷ ns) keeps all = (
  (all.0.0, (all.0.1.0, (all.0.1.1.0, come_kept f g a b keys n.1.chunks all.0.1.1.0 keeps all.0.1.1.1, all.0.1.1.2))),
  noted_kept f g a b keys ns keeps all.1,
)

pub repo_kept : (f g : Files) (repo : RepoState) (kept : Contents) (log : LogState) → FitsFiles g log → KeepsBlobs f repo.log g log
    → FitsRepo f repo kept → FitsRepo g (record repo { log = log }) kept
repo_kept f g repo kept log log_fits keeps fits = record {
  log = log_fits;
  cached = cached_kept f g repo.log log repo.keys kept.opened keeps fits.cached;
  noted = noted_kept f g repo.log log repo.keys kept.noted keeps fits.noted;
}

-- ---- what keeps it

-- a log that has each place that it had, and more maybe
pub learnt_keeps : (files : Files) (log after : LogState)
    → ((id : List ℕ) (place : Place) → place_in log id ≡ Some place → place_in after id ≡ Some place) → KeepsBlobs files log files after
learnt_keeps files log after same id blob has = record { place = has.place; placed = same id has.place has.placed; lies = has.lies }

-- the segment with the blob has it still
at_kept : (f g : Files) (log : LogState) (id blob : List ℕ) (has : HasBlob f log id blob)
    → IsBlobAt (segment_bytes g has.place.segment) has.place.at has.place.size blob → HasBlob g log id blob
at_kept f g log id blob has lies = record { place = has.place; placed = has.placed; lies = lies }

pub replaced_keeps : (files : Files) (log : LogState) (name : Name) (bytes : List ℕ) → KeepsBlobs files log (replaced files name bytes) log
replaced_keeps files log Config bytes id blob has = at_kept files (replaced files Config bytes) log id blob has has.lies
replaced_keeps files log Nonce bytes id blob has = at_kept files (replaced files Nonce bytes) log id blob has has.lies
replaced_keeps files log Readme bytes id blob has = at_kept files (replaced files Readme bytes) log id blob has has.lies
replaced_keeps files log (Segment number) bytes id blob has = has

-- numbers that tie are the same
tied : (q n : ℕ) (o : Ordering) → nat_cmp q n ≡ o → is_eq o ≡ true → q ≡ n
tied q n Equal e h = nat_cmp-IsAntisymmetric q n e
tied q n Less e h = absurd (let no : ⊥ = cc in no)
tied q n Greater e h = absurd (let no : ⊥ = cc in no)

-- a blob lies in a segment with more behind it
pub lies_more : (bytes more : List ℕ) (at size : ℕ) (blob : List ℕ) → IsBlobAt bytes at size blob → IsBlobAt (bytes ++ more) at size blob
lies_more bytes more at size blob lies = record {
  holds = ap (take size) (drop-append-le at bytes more (omega (arith, lies.within)))
      ∙ (take-append-le size (drop at bytes) more (omega (arith, lies.within, length-drop at bytes)) ∙ lies.holds);
  within = omega (arith, lies.within, length-append bytes more);
}

lies_appended : (files : Files) (n : ℕ) (bytes : List ℕ) (q at size : ℕ) (blob : List ℕ) (b : Bool) → eq_by_cmp nat_cmp q n ≡ b
    → IsBlobAt (segment_bytes files q) at size blob
    → IsBlobAt (unwrap_or (cond b (Some (segment_bytes files n ++ bytes)) (get files.segments q)) []) at size blob
lies_appended files n bytes q at size blob true e lies =
    lies_more (segment_bytes files n) bytes at size blob
    (subst (λ (m : ℕ). IsBlobAt (segment_bytes files m) at size blob) (tied q n (nat_cmp q n) refl e) lies)
lies_appended files n bytes q at size blob false e lies = lies

pub appended_keeps : (files : Files) (log : LogState) (n : ℕ) (bytes : List ℕ)
    → KeepsBlobs files log (with_file files (Segment n) (segment_bytes files n ++ bytes)) log
appended_keeps files log n bytes id blob has =
    let q = has.place.segment in
    at_kept files (with_file files (Segment n) (segment_bytes files n ++ bytes)) log id blob has
    (subst (λ (o : Option (List ℕ)). IsBlobAt (unwrap_or o []) has.place.at has.place.size blob)
    (sym (get-insert nat_cmp_total files.segments n (segment_bytes files n ++ bytes) q))
    (lies_appended files n bytes q has.place.at has.place.size blob (eq_by_cmp nat_cmp q n) refl has.lies))

-- a blob that lies in a segment that is gone has no bytes, and lies anywhere
lies_removed : (files : Files) (n q at size : ℕ) (blob other : List ℕ) (b : Bool) → eq_by_cmp nat_cmp q n ≡ b
    → IsBlobAt (unwrap_or (cond b None (get files.segments q)) []) at size other → IsBlobAt (segment_bytes files q) at size blob
    → IsBlobAt (unwrap_or (cond b None (get files.segments q)) []) at size blob
lies_removed files n q at size blob other true e there lies =
    let none : size ≡ 0 = omega (arith, there.within) in
    record {
      holds = ap (λ (s : ℕ). take s (drop at [])) none ∙ (sym (ap (λ (s : ℕ). take s (drop at (segment_bytes files q))) none) ∙ lies.holds);
      within = there.within;
    }
lies_removed files n q at size blob other false e there lies = lies

-- where the log fits still without a segment, each blob is there still
pub removed_keeps : (files : Files) (log : LogState) (n : ℕ) → FitsFiles (without_segment files n) log → KeepsBlobs files log (without_segment files n) log
removed_keeps files log n fits id blob has =
    let q = has.place.segment in
    let found = get-remove nat_cmp_total files.segments n q in
    let there = place_holds (without_segment files n) log id has.place fits has.placed in
    let at = has.place.at in
    let size = has.place.size in
    at_kept files (without_segment files n) log id blob has
    (subst (λ (o : Option (List ℕ)). IsBlobAt (unwrap_or o []) at size blob) (sym found)
    (lies_removed files n q at size blob there.0 (eq_by_cmp nat_cmp q n) refl
    (subst (λ (o : Option (List ℕ)). IsBlobAt (unwrap_or o []) at size there.0) found there.1) has.lies))
