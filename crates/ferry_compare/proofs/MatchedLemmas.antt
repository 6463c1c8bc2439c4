-- Lemmas on specs/Matched.antt.
use Rattle.std.proofs.Common.{◌≡◌, ℕ, Bool, true, false, List, [], ◌∷◌, Option, Some, None, IfSome, refl, subst}
use Rattle.std.specs.BTreeMap.{insert_entry}
use Rattle.std.specs.List.{AllByRecursion}
use Rattle.std.specs.Map.{lookup}
use Rattle.std.specs.declared.cmp.Ordering.{Ordering}
use Rattle.std.specs.declared.cmp.Ordering.TheVariants.{Less, Equal, Greater}
use Rattle.ferry_disk.specs.Device.{Told, told_files}
use Rattle.ferry_item.specs.declared.item.ChunkRef.{ChunkRef}
use Rattle.ferry_log.specs.State.{LogState}
use Rattle.ferry_manifest.specs.Manifest.Text.{ManifestText}
use Rattle.ferry_repo.specs.Archives.{HoldsJoined}
use Rattle.ferry_repo.specs.Objects.{KeepsBlobs}
use Rattle.ferry_repo.specs.Opening.{RepoState}
use Rattle.ferry_compare.specs.Compare.{ComparisonState, FitsTold, Seen}
use Rattle.ferry_compare.specs.Matched.{AreMatched, IsMatched, Matched}
use Rattle.ferry_compare.specs.Steps.{ComparesContents}
use Rattle.ferry_compare.specs.declared.matches.Pair.{Pair}
use Rattle.ferry_compare.proofs.KeptLemmas.{joined_kept, moved}

-- what holds of all pairs and of one more holds of all behind it
pub all_inserted : (P : Pair → Type 0) (cmp : List ℕ → List ℕ → Ordering) (pairs : Matched) (id : List ℕ) (pair : Pair)
    → AllByRecursion (λ m. P m.1) pairs → P pair → AllByRecursion (λ m. P m.1) (insert_entry cmp pairs id pair)
all_inserted P cmp [] id pair all is = (is, tt)
all_inserted P cmp (m ∷ pairs) id pair all is =
    (elim (cmp id m.0) as (λ o. cmp id m.0 ≡ o → AllByRecursion (λ m. P m.1) (insert_entry cmp (m ∷ pairs) id pair)) [
      | Less ↦ λ t. rw t (is, all)
      | Equal ↦ λ t. rw t (is, all.1)
      | Greater ↦ λ t. rw t (all.0, all_inserted P cmp pairs id pair all.1 is)
    ]) refl

-- it holds of a pair that is found
pub all_found : (P : Pair → Type 0) (is_at : List ℕ → Bool) (pairs : Matched) (pair : Pair) → AllByRecursion (λ m. P m.1) pairs
    → lookup is_at pairs ≡ Some pair → P pair
all_found P is_at [] pair all found = absurd (let never : ⊥ = cc in never)
all_found P is_at (m ∷ pairs) pair all found = (elim (is_at m.0) as (λ y. is_at m.0 ≡ y → P pair) [
  | true ↦ λ t. let some : Some m.1 ≡ Some pair = rw t at found in let is : m.1 ≡ pair = cc in subst P is all.0
  | false ↦ λ t. all_found P is_at pairs pair all.1 (rw t at found)
]) refl

-- what is known of contents is so behind other work on the target, where each blob that was there is there still
pub matched_kept : (told : Option Told) (source target : RepoState) (before after : Told) (log : LogState) (manifest : ManifestText)
    → KeepsBlobs (told_files before) target.log (told_files after) log → (matched : Matched)
    → AreMatched told source (Some before) target matched → AreMatched told source (Some after) (moved target log manifest) matched
matched_kept told source target before after log manifest keeps [] all = tt
matched_kept told source target before after log manifest keeps (m ∷ matched) all = (
  record {
    content = all.0.content;
    first = all.0.first;
    second = joined_kept (told_files before) (told_files after) target.log log target.keys keeps (Some m.1.others) (Some all.0.content) all.0.second;
  },
  matched_kept told source target before after log manifest keeps matched all.1,
)

-- contents that are compared as the same are
pub matched_of : (told : Option Told) (source : RepoState) (other : Option Told) (target : RepoState) (chunks others : List ChunkRef)
    → ComparesContents told source other target (Some chunks) (Some others) true
    → IsMatched told source other target (record { chunks = chunks; others = others })
matched_of told source other target chunks others compares = by_content told other compares.content compares.holds compares.beside where
  by_content : (a b : Option Told) (content : Option (List ℕ))
      → IfSome a (λ t. HoldsJoined (told_files t) source.log source.keys (Some chunks) content)
      → IfSome b (λ t. HoldsJoined (told_files t) target.log target.keys (Some others) content)
      → IsMatched a source b target (record { chunks = chunks; others = others })
  by_content a b (Some content) first second = record { content = content; first = first; second = second }
  by_content None None None first second = record { content = []; first = tt; second = tt }
  by_content (Some a) b None first second = absurd first
  by_content None (Some b) None first second = absurd second

-- and the other way round
pub compared_of : (told : Option Told) (source : RepoState) (other : Option Told) (target : RepoState) (chunks others : List ChunkRef)
    → IsMatched told source other target (record { chunks = chunks; others = others })
    → ComparesContents told source other target (Some chunks) (Some others) true
compared_of told source other target chunks others is = record { content = Some is.content; holds = is.first; beside = is.second }

-- a comparison goes on with what is known
pub resumed : (told : Option Told) (source : RepoState) (other : Option Told) (target : RepoState) (met : Seen) (state : ComparisonState) (matched : Matched)
    → FitsTold told source other target met state → AreMatched told source other target matched
    → FitsTold told source other target met (record state { matched = matched })
resumed told source other target met state matched fits all = record { front = fits.front; read = fits.read; beside = fits.beside; matched = all }
