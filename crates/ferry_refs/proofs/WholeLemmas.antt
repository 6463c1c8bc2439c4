-- An archive that stays whole where the chunks that it uses stay.
use Rattle.std.proofs.Common.{◌≡◌, ◌≤◌, ◌<◌, ◌⊎◌, inl, inr, ℕ, Bool, true, false, List, [], ◌∷◌, ◌++◌, Option, Some, None, unwrap_or}
use Rattle.std.proofs.Common.{refl, sym, ◌∙◌, subst, arith, cond}
use Rattle.std.specs.List.{AllByRecursion, flat_map}
use Rattle.std.specs.Ordering.{eq_by_cmp}
use Rattle.std.specs.Str.{bytes_eq}
use Rattle.std.proofs.lemmas.Slice.Eq.{bytes_eq-Decides}
use Rattle.ferry_check.proofs.ChunkLemmas.{or_true, true_or}
use Rattle.ferry_check.proofs.MarkLemmas.{key_itself}
use Rattle.ferry_check.specs.Report.{ArchiveRead, AreRead, IsRead, ids_in, ids_of, ids_used, is_among}
use Rattle.ferry_disk.specs.Files.{Files}
use Rattle.ferry_item.specs.Item.{ItemText}
use Rattle.ferry_item.specs.declared.item.ChunkRef.{ChunkRef}
use Rattle.ferry_log.specs.Live.{key_cmp}
use Rattle.ferry_log.specs.State.{LogState}
use Rattle.ferry_mac.specs.declared.keys.Keys.{Keys}
use Rattle.ferry_manifest.specs.declared.manifest.ArchiveRef.{ArchiveRef}
use Rattle.ferry_repo.specs.Archives.{archive_named, ContentsCome, HoldsJoined}
use Rattle.ferry_repo.specs.Objects.{HoldsChunk}
use Rattle.ferry_repo.specs.Opening.{RepoState}
use Rattle.ferry_repo.specs.Walk.{HoldChunks}
use Rattle.ferry_repo.specs.Whole.{IsWhole, WholeArchive, WholeItem, WholesCome}
use Rattle.ferry_refs.specs.Refs.{occurrences}
use Rattle.ferry_refs.proofs.CountLemmas.{occurrences-append, same_tests}

-- ---- ids that are used

-- what holds of each of joined ids holds of each of both lists
pub all_parted : (P : List ℕ → Type 0) (xs ys : List (List ℕ)) → AllByRecursion P (xs ++ ys) → AllByRecursion P xs × AllByRecursion P ys
all_parted P [] ys all = (tt, all)
all_parted P (x ∷ xs) ys all = let rest = all_parted P xs ys all.1 in ((all.0, rest.0), rest.1)

-- what holds of each id that is among them holds of all
pub all_among : (P : List ℕ → Type 0) (ids : List (List ℕ)) → ((id : List ℕ) → is_among id ids ≡ true → P id) → AllByRecursion P ids
all_among P [] each = tt
all_among P (x ∷ ids) each = (
  each x (true_or (eq_by_cmp key_cmp x x) (is_among x ids) (inl (key_itself x))),
  all_among P ids (λ id e. each id (true_or (eq_by_cmp key_cmp x id) (is_among id ids) (inr e))),
)

-- an id that is among some stands there
occurs_by : (id x : List ℕ) (ids : List (List ℕ)) → (bytes_eq x id ≡ true) ⊎ (0 < occurrences id ids) → 0 < occurrences id (x ∷ ids)
unfolding occurrences
occurs_by id x ids (inl here) = rw here (omega arith)
occurs_by id x ids (inr later) = omega (arith, later)

pub among_occurs : (id : List ℕ) (ids : List (List ℕ)) → is_among id ids ≡ true → 0 < occurrences id ids
among_occurs id [] e = absurd (let no : ⊥ = cc in no)
among_occurs id (x ∷ ids) e = occurs_by id x ids (elim (or_true (eq_by_cmp key_cmp x id) (is_among id ids) e) [
  | inl here ↦ inl (sym (same_tests x id) ∙ here)
  | inr later ↦ inr (among_occurs id ids later)
])

-- ---- one of several archives

-- The archive of a name reads, and the id stands among what it uses, in whatever sense, no more often than among all.
pub record ReadsAmong (uses : ArchiveRead → List (List ℕ)) (files : Files) (repo : RepoState) (name id : List ℕ) (reads : List ArchiveRead) : Type 0 where
  pub read : ArchiveRead
  pub is : IsRead files repo name read
  pub fewer : occurrences id (uses read) ≤ occurrences id (flat_map uses reads)

among_by : (uses : ArchiveRead → List (List ℕ)) (files : Files) (repo : RepoState) (name id : List ℕ) (a named : ArchiveRef)
    (archives : List ArchiveRef) (r : ArchiveRead)
    (reads : List ArchiveRead) (b : Bool) → bytes_eq a.name name ≡ b → cond b (Some a) (archive_named name archives) ≡ Some named
    → IsRead files repo a.name r → (archive_named name archives ≡ Some named → ReadsAmong uses files repo name id reads)
    → ReadsAmong uses files repo name id (r ∷ reads)
among_by uses files repo name id a named archives r reads true e is read later = record {
  read = r;
  is = subst (λ (n : List ℕ). IsRead files repo n r) ((bytes_eq-Decides a.name name).0 e) read;
  fewer = omega (arith, occurrences-append id (uses r) (flat_map uses reads));
}
among_by uses files repo name id a named archives r reads false e is read later =
    let rest = later is in
    record {
      read = rest.read;
      is = rest.is;
      fewer = omega (arith, rest.fewer, occurrences-append id (uses r) (flat_map uses reads));
    }

pub reads_among : (uses : ArchiveRead → List (List ℕ)) (files : Files) (repo : RepoState) (name id : List ℕ)
    (named : ArchiveRef) (archives : List ArchiveRef) (reads : List ArchiveRead)
    → archive_named name archives ≡ Some named → AreRead files repo archives reads → ReadsAmong uses files repo name id reads
unfolding archive_named
reads_among uses files repo name id named [] reads is are = absurd (let no : ⊥ = cc in no)
reads_among uses files repo name id named (a ∷ archives) [] is are = absurd are
reads_among uses files repo name id named (a ∷ archives) (r ∷ reads) is are =
    among_by uses files repo name id a named archives r reads (bytes_eq a.name name) refl is are.0
    (λ e. reads_among uses files repo name id named archives reads e are.1)

-- ---- an archive that stays whole

-- what is read of a whole archive
abbrev pub read_of : (files : Files) (log : LogState) (keys : Keys) (archives : List ArchiveRef) (name : List ℕ) (whole : WholeArchive)
    → IsWhole files log keys archives name whole → ArchiveRead
read_of files log keys archives name whole is = record { id = is.named.id; archive = is.archive; items = is.items }

module _ (files : Files) (log : LogState) (keys : Keys) (others : Files) (after : LogState) (P : List ℕ → Type 0)
    (keeps : (id content : List ℕ) → P id → HoldsChunk files log keys id content → HoldsChunk others after keys id content) where
  pub chunks_left : (ids contents : List (List ℕ)) → AllByRecursion P ids → HoldChunks files log keys ids contents → HoldChunks others after keys ids contents
  chunks_left [] [] all hold = tt
  chunks_left [] (c ∷ cs) all hold = absurd hold
  chunks_left (i ∷ is) [] all hold = absurd hold
  chunks_left (i ∷ is) (c ∷ cs) all hold = (keeps i c all.0 hold.0, chunks_left is cs all.1 hold.1)

  contents_left : (chunks : List ChunkRef) (contents : List (List ℕ)) → AllByRecursion P (ids_in chunks)
      → ContentsCome files log keys chunks contents None → ContentsCome others after keys chunks contents None
  contents_left [] [] all come = tt
  contents_left [] (c ∷ cs) all come = absurd come
  contents_left (k ∷ ks) [] all come = absurd come
  contents_left (k ∷ ks) (c ∷ cs) all come =
      (record { holds = keeps k.id c all.0 come.0.holds; size = come.0.size }, contents_left ks cs all.1 come.1)

  joined_left : (chunks : Option (List ChunkRef)) (content : Option (List ℕ)) → AllByRecursion P (ids_in (unwrap_or chunks []))
      → HoldsJoined files log keys chunks content → HoldsJoined others after keys chunks content
  joined_left None None all holds = tt
  joined_left None (Some content) all holds = absurd holds
  joined_left (Some chunks) None all holds = absurd holds
  joined_left (Some chunks) (Some content) all holds = (holds.0, contents_left chunks holds.0 all holds.1, holds.2)

  pub wholes_left : (items : List ItemText) (wholes : List WholeItem) → AllByRecursion P (flat_map ids_of items)
      → WholesCome files log keys items None wholes None → WholesCome others after keys items None wholes None
  wholes_left [] [] all come = refl
  wholes_left [] (w ∷ ws) all come = absurd come
  wholes_left (i ∷ is) [] all come = absurd come
  wholes_left (i ∷ is) (w ∷ ws) all come =
      let both = all_parted P (ids_of i) (flat_map ids_of is) all in (
        record { fields = come.0.fields; content = joined_left i.chunks w.content both.0 come.0.content },
        wholes_left is ws both.1 come.1,
      )

  -- where the chunks that it uses stay, and its name has the archive that it had
  pub whole_left : (archives more : List ArchiveRef) (name : List ℕ) (whole : WholeArchive) (is : IsWhole files log keys archives name whole)
      → AllByRecursion P (ids_used (read_of files log keys archives name whole is)) → archive_named name more ≡ archive_named name archives
      → IsWhole others after keys more name whole
  whole_left archives more name whole is all same =
      let rest = all_parted P is.archive.items (flat_map ids_of is.items) all.1 in
      record {
        named = is.named;
        named_is = same ∙ is.named_is;
        archive = is.archive;
        record_is = record {
          content = is.record_is.content;
          chunk = keeps is.named.id is.record_is.content all.0 is.record_is.chunk;
          record_is = is.record_is.record_is;
        };
        items = is.items;
        stream = record {
          contents = is.stream.contents;
          hold = chunks_left is.archive.items is.stream.contents rest.0 is.stream.hold;
          spelled = is.stream.spelled;
        };
        contents = wholes_left is.items whole.items rest.1 is.contents;
        time = is.time;
        fields = is.fields;
      }
