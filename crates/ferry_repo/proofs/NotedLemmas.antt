-- Lemmas on notes of contents that were cut.
use Rattle.std.proofs.Common.{◌≡◌, ◌&&◌, ℕ, Bool, true, false, List, [], ◌∷◌, map, Option, Some, None, IfSome, refl, sym, subst}
use Rattle.std.proofs.lemmas.Bool.Decides.{Decides-eqb}
use Rattle.std.proofs.lemmas.Slice.Eq.{bytes_eq-Decides}
use Rattle.std.specs.BTreeMap.{insert_entry}
use Rattle.std.specs.Bool.{Decides}
use Rattle.std.specs.List.{AllByRecursion}
use Rattle.std.specs.Map.{lookup}
use Rattle.std.specs.Str.{bytes_eq}
use Rattle.std.specs.declared.cmp.Ordering.{Ordering}
use Rattle.std.specs.declared.cmp.Ordering.TheVariants.{Less, Equal, Greater}
use Rattle.ferry_disk.specs.Device.{Told, told_files}
use Rattle.ferry_disk.specs.Files.{Files}
use Rattle.ferry_item.specs.declared.item.ChunkRef.{ChunkRef}
use Rattle.ferry_rechunk.specs.Cut.{cut}
use Rattle.ferry_repo.specs.Archives.{HoldsJoined}
use Rattle.ferry_repo.specs.Cached.{Contents, Noted}
use Rattle.ferry_repo.specs.Noted.{IsCut, IsNoted, piece_under}
use Rattle.ferry_repo.specs.Opening.{FitsRepo, RepoState}
use Rattle.ferry_repo.specs.declared.notes.Note.{Note}
use lib.Dec.{eqb}

-- what holds of all notes and of one more holds of all behind it
pub all_inserted : (P : Note → Type 0) (cmp : List ℕ → List ℕ → Ordering) (notes : Noted) (id : List ℕ) (note : Note)
    → AllByRecursion (λ n. P n.1) notes → P note → AllByRecursion (λ n. P n.1) (insert_entry cmp notes id note)
all_inserted P cmp [] id note all is = (is, tt)
all_inserted P cmp (n ∷ notes) id note all is =
    (elim (cmp id n.0) as (λ o. cmp id n.0 ≡ o → AllByRecursion (λ n. P n.1) (insert_entry cmp (n ∷ notes) id note)) [
      | Less ↦ λ t. rw t (is, all)
      | Equal ↦ λ t. rw t (is, all.1)
      | Greater ↦ λ t. rw t (all.0, all_inserted P cmp notes id note all.1 is)
    ]) refl

-- it holds of a note that is found
pub all_found : (P : Note → Type 0) (is_at : List ℕ → Bool) (notes : Noted) (note : Note) → AllByRecursion (λ n. P n.1) notes
    → lookup is_at notes ≡ Some note → P note
all_found P is_at [] note all found = absurd (let never : ⊥ = cc in never)
all_found P is_at (n ∷ notes) note all found = (elim (is_at n.0) as (λ y. is_at n.0 ≡ y → P note) [
  | true ↦ λ t. let some : Some n.1 ≡ Some note = rw t at found in let is : n.1 ≡ note = cc in subst P is all.0
  | false ↦ λ t. all_found P is_at notes note all.1 (rw t at found)
]) refl

-- chunks whose parts tie are the same
pub same_chunk : (a b : ChunkRef) → Decides (bytes_eq a.id b.id && (eqb a.size b.size && eqb a.csize b.csize)) (a ≡ b)
same_chunk a b = (λ same. by_parts (bytes_eq a.id b.id) (eqb a.size b.size) (eqb a.csize b.csize) refl refl refl same, λ same. rw same ties) where
  by_parts : (id size csize : Bool) → bytes_eq a.id b.id ≡ id → eqb a.size b.size ≡ size → eqb a.csize b.csize ≡ csize
      → id && (size && csize) ≡ true → a ≡ b
  by_parts true true true i s c same =
      rw ((bytes_eq-Decides a.id b.id).0 i, (Decides-eqb a.size b.size).0 s, (Decides-eqb a.csize b.csize).0 c) refl
  by_parts false size csize i s c same = absurd (let never : ⊥ = cc in never)
  by_parts true false csize i s c same = absurd (let never : ⊥ = cc in never)
  by_parts true true false i s c same = absurd (let never : ⊥ = cc in never)

  ties : bytes_eq b.id b.id && (eqb b.size b.size && eqb b.csize b.csize) ≡ true
  ties = rw ((bytes_eq-Decides b.id b.id).1 refl, (Decides-eqb b.size b.size).1 refl, (Decides-eqb b.csize b.csize).1 refl) refl

-- the same of a note by its parts
pub noted_as : (P : Note → Type 0) (note : Note) (key : List ℕ) (block : ℕ) (chunks pieces : List ChunkRef)
    → (note.key ≡ key) × ((note.block ≡ block) × (note.chunks ≡ chunks)) → pieces ≡ note.pieces → P note
    → P (record { key = key; block = block; chunks = chunks; pieces = pieces })
noted_as P note key block chunks pieces same is holds = rw (sym same.0, sym same.1.0, sym same.1.1, is) holds

-- a content that is noted is there, where files are told
pub told_noted : (told : Option Told) (repo : RepoState) (kept : Contents) (note : Note) → IsCut note
    → ((files : Files) → FitsRepo files repo kept → IsNoted files repo.log repo.keys note) → IfSome told (λ t. FitsRepo (told_files t) repo kept)
    → (content : List ℕ) × ((note.pieces ≡ map (piece_under note.key) (cut note.block content))
    × IfSome told (λ t. HoldsJoined (told_files t) repo.log repo.keys (Some note.chunks) (Some content)))
told_noted None repo kept note is noted fits = (is.0, (is.1, tt))
told_noted (Some t) repo kept note is noted fits = noted (told_files t) fits
