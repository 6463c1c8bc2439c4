-- Lemmas on `EndsAt` and `StopsAtChunk` of specs/Refusals.antt: which content it was whose id a live chunk has that breaks a rule.
use Rattle.std.proofs.Common.{◌≡◌, ◌⊎◌, inl, inr, ℕ, List, [], ◌∷◌, ◌++◌, Option, Some, None, IfSome, subst}
use Rattle.std.proofs.lemmas.Option.{IfSome_then}
use Rattle.ferry_compare.specs.Compare.{seen}
use Rattle.ferry_disk.specs.Device.{Told}
use Rattle.ferry_disk.specs.Moments.{Between}
use Rattle.ferry_mac.specs.declared.keys.Keys.{Keys}
use Rattle.ferry_manifest.specs.Manifest.Text.{ManifestText}
use Rattle.ferry_piece.proofs.AddingLemmas.{told_before}
use Rattle.ferry_piece.specs.Adding.{IsNoChunk, IsOfLast}
use Rattle.ferry_piece.specs.Puts.{Addition}
use Rattle.ferry_piece.specs.declared.fault.CarryFault.{CarryFault}
use Rattle.ferry_repo.specs.Opening.{RepoState, repo_view}
use Rattle.ferry_store.specs.Commit.{accepted_in}
use Rattle.ferry_store.specs.declared.store.Store.{Store}
use Rattle.ferry_write.specs.Script.{AllDone}
use Rattle.ferry_carry.proofs.FlownLemmas.{TakesOn, takes_added}
use Rattle.ferry_carry.proofs.NamesLemmas.{name_behind}
use Rattle.ferry_carry.proofs.TagLemmas.{TagsOr, tags_behind, work_apart}
use Rattle.ferry_carry.proofs.ThereLemmas.{Extends}
use Rattle.ferry_carry.specs.Carrying.{Origin, origin}
use Rattle.ferry_carry.specs.Flight.{BeginsDone, flown_from}
use Rattle.ferry_carry.specs.Naming.{DrawsSalts, TaggedRecord, TagsDrawn, records_in}
use Rattle.ferry_carry.specs.Refusals.{EndsAt, IsChunk, StopsAtChunk, WhereTold}
use Rattle.ferry_carry.specs.Telling.{CarriesNames, TellsNames}
use Rattle.ferry_carry.specs.declared.flight.Flight.{Flight}

-- ---- one archive

-- all that was added of an archive is tagged from what was drawn, where what its last turn added is
pub flown_tags : (later : Option Told) (after : RepoState) (from : Origin) (name : List ℕ) (start more : List Addition) (store middle : Store)
    (flight : Flight) (a b : Option Told) (n m : ℕ) (x y z : Option (List ℕ)) (fault : CarryFault) → flown_from later after flight ≡ from
    → (repo_view middle.repo).keys ≡ (repo_view store.repo).keys → y ≡ x
    → (before : TakesOn later after from name start store middle flight a b n m) → TagsOr (repo_view middle.repo).keys more y z fault
    → IsNoChunk fault ⊎ WhereTold from a (λ _. TagsDrawn (repo_view store.repo).keys (start ++ (before.more ++ more)) x z)
flown_tags later after from name start more store middle flight a b n m x y z fault same keys undrawn before (inl none) = inl none
flown_tags later after from name start more store middle flight a b n m x y z fault same keys undrawn before (inr tags) =
    let added = before.fits.added in
    let at_end : IfSome b (λ _. IfSome from.files (λ _. records_in added ≡ [])) =
    subst (λ (f : Origin). IfSome b (λ _. IfSome f.files (λ _. records_in added ≡ []))) same
    (work_apart later after b middle (seen b (repo_view middle.repo)) flight.named flight.options added flight.work before.fits.work) in
    let none = told_before (IfSome from.files (λ _. records_in added ≡ [])) a b before.works.ends at_end in
    let own : TagsDrawn (repo_view store.repo).keys more x z =
    subst (λ (k : Keys). TagsDrawn k more x z) keys (subst (λ (o : Option (List ℕ)). TagsDrawn (repo_view middle.repo).keys more o z) undrawn tags) in
    inr (IfSome_then a none (λ _ known. IfSome_then from.files known (λ _ apart.
    subst (λ (l : List Addition). TagsDrawn (repo_view store.repo).keys l x z)
    (takes_added later after from name start more store middle flight a b n m before)
    (tags_behind (repo_view store.repo).keys added more x z apart own))))

-- what was added of it ends with the content
pub ends_at : (from : Origin) (keys : Keys) (accepted : ManifestText) (name : List ℕ) (more : List Addition) (heard : Option Told)
    (x z : Option (List ℕ)) (fault : CarryFault) (id : List ℕ) → BeginsDone heard from keys accepted name more
    → IfSome heard (λ _. IsOfLast keys more fault) → IsNoChunk fault ⊎ WhereTold from heard (λ _. TagsDrawn keys more x z) → IsChunk id fault
    → WhereTold from heard (λ _. EndsAt from keys accepted [] name x z id)
ends_at from keys accepted name more None x z fault id begins last tags is = tt
ends_at from keys accepted name more (Some d) x z fault id begins last (inl none) is =
    let never : ⊥ = subst IsNoChunk is.1 none in absurd never
ends_at from keys accepted name more (Some d) x z fault id begins last (inr tags) is =
    let end = subst (IsOfLast keys more) is.1 last in
    IfSome_then from.files tags (λ _ known. record {
      front = end.0;
      one = end.1.0;
      begins = subst (λ (l : List Addition). BeginsDone (Some d) from keys accepted name l) end.1.1.0 begins;
      tags = subst (λ (l : List Addition). TagsDrawn keys l x z) end.1.1.0 known;
      id_is = end.1.1.1;
    })

-- a fault that is none of a chunk
pub no_chunk : (X : Type 0) (fault : CarryFault) (id : List ℕ) → IsNoChunk fault → IsChunk id fault → X
no_chunk X fault id none is = let never : ⊥ = subst IsNoChunk is.1 none in absurd never

-- ---- names, one after another

-- behind names that came
ends_behind : (from : Origin) (keys : Keys) (accepted middle : ManifestText) (some : List (List ℕ)) (name id : List ℕ) (y z : Option (List ℕ))
    → Extends accepted some middle → EndsAt from keys middle [] name y z id → EndsAt from keys accepted some name y z id
ends_behind from keys accepted middle some name id y z extends p = record {
  front = p.front;
  one = p.one;
  begins = name_behind from keys accepted middle some name (p.front ++ p.one ∷ []) extends p.begins;
  tags = p.tags;
  id_is = p.id_is;
}

-- the content of the next name, behind those that were told
pub chunk_then : (told : Option Told) (source : RepoState) (block most : ℕ) (time : Option (List ℕ)) (other : Origin) (store middle : Store)
    (names some rest : List (List ℕ)) (name id : List ℕ) (records : List TaggedRecord) (added : List Addition) (a b d : Option Told)
    (x y z : Option (List ℕ)) → other ≡ origin told source block most time → (repo_view middle.repo).keys ≡ (repo_view store.repo).keys
    → names ≡ some ++ name ∷ rest → Extends (accepted_in store) some (accepted_in middle) → DrawsSalts records x y
    → Between a b (λ h g. AllDone h g × (CarriesNames (origin told source block most time) some records added store middle h g
    × TellsNames (accepted_in store) some h g))
    → IfSome a (λ u. IfSome d (λ v. TellsNames (accepted_in store) some u.history v.history))
    → WhereTold other b (λ _. EndsAt other (repo_view middle.repo).keys (accepted_in middle) [] name y z id)
    → IfSome a (λ u. IfSome d (λ v. IfSome (origin told source block most time).files (λ _.
    StopsAtChunk (origin told source block most time) (repo_view store.repo).keys (accepted_in store) names
    (λ done. TellsNames (accepted_in store) done u.history v.history) x z id)))
chunk_then told source block most time other store middle names some rest name id records added None b d x y z is keys split extends drew end lines ends = tt
chunk_then told source block most time other store middle names some rest name id records added (Some u) b None x y z is keys split extends drew end lines ends
    = tt
chunk_then None source block most time other store middle names some rest name id records added (Some u) b (Some v) x y z is keys split extends drew end lines
    ends = tt
chunk_then (Some t) source block most time other store middle names some rest name id records added (Some u) b (Some v) x y z is keys split extends drew end
    lines ends =
    let from = origin (Some t) source block most time in
    let at : WhereTold other (Some end.0) (λ _. EndsAt other (repo_view middle.repo).keys (accepted_in middle) [] name y z id) =
    subst (λ (o : Option Told). WhereTold other o (λ _. EndsAt other (repo_view middle.repo).keys (accepted_in middle) [] name y z id)) end.1 ends in
    let here : EndsAt from (repo_view middle.repo).keys (accepted_in middle) [] name y z id =
    subst (λ (o : Origin). WhereTold o (Some end.0) (λ _. EndsAt o (repo_view middle.repo).keys (accepted_in middle) [] name y z id)) is at in
    record {
      done = some;
      name = name;
      rest = rest;
      split = split;
      told = lines;
      records = records;
      added = added;
      lists = end.2.1.0.1;
      middle = y;
      drew = drew;
      ends = ends_behind from (repo_view store.repo).keys (accepted_in store) (accepted_in middle) some name id y z extends
          (subst (λ (k : Keys). EndsAt from k (accepted_in middle) [] name y z id) keys here);
    }
