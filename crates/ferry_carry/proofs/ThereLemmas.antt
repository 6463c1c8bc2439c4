-- Lemmas on which names a manifest has, or names behind it, and on what a later manifest has (specs/Listing.antt, specs/Counting.antt).
use Rattle.std.proofs.Common.{◌≡◌, ◌⊎◌, inl, inr, ℕ, zero, suc, Bool, true, false, cond, List, [], ◌∷◌, ◌++◌, Option, Some, None, refl, sym, ◌∙◌, ap, subst}
use Rattle.std.proofs.Common.{◌↔◌, IsSome}
use Rattle.std.proofs.lemmas.Slice.Eq.{bytes_eq-Decides}
use Rattle.std.specs.List.{AllByRecursion}
use Rattle.std.specs.Str.{bytes_eq}
use Rattle.ferry_manifest.specs.Manifest.Text.{ManifestText}
use Rattle.ferry_manifest.specs.declared.manifest.ArchiveRef.{ArchiveRef}
use Rattle.ferry_next.proofs.PlaceLemmas.{with_named}
use Rattle.ferry_repo.specs.Archives.{archive_named}
use Rattle.ferry_repo.specs.Opening.{repo_view}
use Rattle.ferry_store.specs.Commit.{accepted_in, IsSettled}
use Rattle.ferry_store.specs.declared.store.Store.{Store}
use Rattle.ferry_carry.proofs.CauseLemmas.{not_there}
use Rattle.ferry_carry.proofs.CutLemmas.{among_either, among_none, among_one}
use Rattle.ferry_carry.proofs.FlightLemmas.{named_so}
use Rattle.ferry_carry.proofs.GrowLemmas.{has_kept}
use Rattle.ferry_piece.proofs.AmongLemmas.{among_all, among_behind, among_front}
use Rattle.ferry_carry.specs.Accepting.{AreNextOf, IsNextOf}
use Rattle.ferry_carry.specs.Counting.{TellsNew}
use Rattle.ferry_piece.specs.Gather.{IsAmong}
use Rattle.ferry_carry.specs.Grow.{AcceptsMore, IsNamedBy, KeepsMost}
use Rattle.ferry_carry.specs.Listing.{IsThere}
use Rattle.ferry_carry.specs.Naming.{entry_for}

-- ---- what a later manifest has

-- A later manifest has the names that an accepted one has, and these.
abbrev pub Extends : ManifestText → List (List ℕ) → ManifestText → Type 0
Extends accepted some middle = (name : List ℕ) → IsSome (archive_named name middle.archives) ↔ IsThere accepted some name

-- what is accepted once archives came
pub extends_by : (store middle : Store) (some : List (List ℕ)) → IsSettled store → AcceptsMore middle → KeepsMost store middle
    → AllByRecursion (λ (name : List ℕ). IsSome (archive_named name (repo_view middle.repo).manifest.archives)) some
    → IsNamedBy (accepted_in store) some (accepted_in middle) → Extends (accepted_in store) some (accepted_in middle)
extends_by store middle some settled accepts most named only name = (by (archive_named name (accepted_in middle).archives) refl, back) where
  either : (entry : ArchiveRef) → (archive_named name (accepted_in store).archives ≡ Some entry) ⊎ IsAmong some name → IsThere (accepted_in store) some name
  either entry (inl e) = inl (subst IsSome (sym e) refl)
  either entry (inr among) = inr among

  by : (o : Option ArchiveRef) → archive_named name (accepted_in middle).archives ≡ o → IsSome (archive_named name (accepted_in middle).archives)
      → IsThere (accepted_in store) some name
  by None e has = absurd (not_there e has)
  by (Some entry) e has = either entry (only name entry e)

  accepted : IsSome (archive_named name (repo_view middle.repo).manifest.archives) → IsSome (archive_named name (accepted_in middle).archives)
  accepted has = has_kept (repo_view middle.repo).manifest (accepted_in middle) name accepts has

  back : IsThere (accepted_in store) some name → IsSome (archive_named name (accepted_in middle).archives)
  back (inl has) =
      accepted (has_kept (repo_view store.repo).manifest (repo_view middle.repo).manifest name most.names
      (subst (λ (m : ManifestText). IsSome (archive_named name m.archives)) settled has))
  back (inr among) = accepted (among_all (λ (n : List ℕ). IsSome (archive_named n (repo_view middle.repo).manifest.archives)) some name named among)

-- behind names that came
pub there_behind : (accepted middle : ManifestText) (some before : List (List ℕ)) (name : List ℕ) → Extends accepted some middle
    → IsThere middle before name ↔ IsThere accepted (some ++ before) name
there_behind accepted middle some before name extends = (to, back) where
  first : IsThere accepted some name → IsThere accepted (some ++ before) name
  first (inl has) = inl has
  first (inr among) = inr (among_front some before name among)

  to : IsThere middle before name → IsThere accepted (some ++ before) name
  to (inl has) = first ((extends name).0 has)
  to (inr among) = inr (among_behind some before name among)

  either : IsAmong some name ⊎ IsAmong before name → IsThere middle before name
  either (inl among) = inl ((extends name).1 (inr among))
  either (inr among) = inr among

  back : IsThere accepted (some ++ before) name → IsThere middle before name
  back (inl has) = inl ((extends name).1 (inl has))
  back (inr among) = either (among_either some before name among)

-- what a manifest has behind that of the archive of a name
extends_one : (given : Option (List ℕ)) (source manifest now : ManifestText) (name : List ℕ) (ids : List (List ℕ))
    → IsNextOf given source manifest name ids now → Extends manifest (name ∷ []) now
extends_one given source manifest now name ids (inl same) other = (to, back) where
  to : IsSome (archive_named other now.archives) → IsThere manifest (name ∷ []) other
  to has = inl (subst (λ (m : ManifestText). IsSome (archive_named other m.archives)) same.1.1 has)

  back : IsThere manifest (name ∷ []) other → IsSome (archive_named other now.archives)
  back (inl has) = subst (λ (m : ManifestText). IsSome (archive_named other m.archives)) (sym same.1.1) has
  back (inr among) =
      subst (λ (m : ManifestText). IsSome (archive_named other m.archives)) (sym same.1.1)
      (subst (λ (n : List ℕ). IsSome (archive_named n manifest.archives)) (among_one name other among) same.0)
extends_one given source manifest now name ids (inr next) other = (λ has. to (bytes_eq named.name other) refl has, back) where
  named : ArchiveRef
  named = next.0.named

  called : named.name ≡ name
  called = named_so name source.archives named next.0.named_is

  is : archive_named other now.archives ≡ cond (bytes_eq named.name other) (Some (entry_for named next.1.0))
      (archive_named other manifest.archives)
  is = ap (λ (m : ManifestText). archive_named other m.archives) next.1.1.1 ∙ with_named other manifest.archives (entry_for named next.1.0)

  at : (b : Bool) → bytes_eq named.name other ≡ b
      → archive_named other now.archives ≡ cond b (Some (entry_for named next.1.0)) (archive_named other manifest.archives)
  at b e = is ∙ ap (λ (c : Bool). cond c (Some (entry_for named next.1.0)) (archive_named other manifest.archives)) e

  to : (b : Bool) → bytes_eq named.name other ≡ b → IsSome (archive_named other now.archives) → IsThere manifest (name ∷ []) other
  to true e has = inr (zero, ap Some (sym called ∙ (bytes_eq-Decides named.name other).0 e))
  to false e has = inl (subst IsSome (at false e) has)

  kept : (b : Bool) → bytes_eq named.name other ≡ b → IsSome (archive_named other manifest.archives) → IsSome (archive_named other now.archives)
  kept true e has = subst IsSome (sym (at true e)) refl
  kept false e has = subst IsSome (sym (at false e)) has

  back : IsThere manifest (name ∷ []) other → IsSome (archive_named other now.archives)
  back (inl has) = kept (bytes_eq named.name other) refl has
  back (inr among) = subst IsSome (sym (at true ((bytes_eq-Decides named.name other).1 (called ∙ among_one name other among)))) refl

-- and behind those of names, one after another
pub extends_next : (given : Option (List ℕ)) (source manifest now : ManifestText) (names ids : List (List ℕ))
    → AreNextOf given source manifest names ids now → Extends manifest names now
extends_next given source manifest now [] ids same other = (to, back) where
  to : IsSome (archive_named other now.archives) → IsThere manifest [] other
  to has = inl (subst (λ (m : ManifestText). IsSome (archive_named other m.archives)) same.1 has)

  back : IsThere manifest [] other → IsSome (archive_named other now.archives)
  back (inl has) = subst (λ (m : ManifestText). IsSome (archive_named other m.archives)) (sym same.1) has
  back (inr among) = absurd (among_none other among)
extends_next given source manifest now (name ∷ names) ids next other =
    let then = next.1.1.1 in
    let one : Extends manifest (name ∷ []) then.0 = extends_one given source manifest then.0 name next.0 then.1.0 in
    let behind = there_behind manifest then.0 (name ∷ []) names other one in
    let rest = extends_next given source then.0 now names next.1.0 then.1.1 other in (λ has. behind.0 (rest.0 has), λ there. rest.1 (behind.1 there))

pub tells_behind : (accepted middle : ManifestText) (some before : List (List ℕ)) (name : List ℕ) (copied : Bool) → Extends accepted some middle
    → TellsNew middle before name copied → TellsNew accepted (some ++ before) name copied
tells_behind accepted middle some before name true extends new = λ has. new ((there_behind accepted middle some before name extends).1 has)
tells_behind accepted middle some before name false extends has = (there_behind accepted middle some before name extends).0 has

-- what is told of a name that no archive has, and of one that one has
pub tells_named : (accepted : ManifestText) (name : List ℕ) → archive_named name accepted.archives ≡ None → TellsNew accepted [] name true
tells_named accepted name none (inl has) = not_there none has
tells_named accepted name none (inr among) = among_none name among

pub tells_present : (accepted : ManifestText) (name : List ℕ) → IsSome (archive_named name accepted.archives) → TellsNew accepted [] name false
tells_present accepted name has = inl has

-- ---- a name is there, or isn't

among_or_not : (before : List (List ℕ)) (name : List ℕ) → IsAmong before name ⊎ (IsAmong before name → ⊥)
among_or_not [] name = inr (among_none name)
among_or_not (first ∷ before) name = by (bytes_eq first name) refl (among_or_not before name) where
  apart : bytes_eq first name ≡ false → (IsAmong before name → ⊥) → IsAmong (first ∷ before) name → ⊥
  apart e none (zero, is) =
      let same : Some first ≡ Some name = is in
      let one : first ≡ name = cc in
      let both : bytes_eq first name ≡ true = (bytes_eq-Decides first name).1 one in let never : ⊥ = cc in never
  apart e none (suc place, is) = none (place, is)

  by : (b : Bool) → bytes_eq first name ≡ b → IsAmong before name ⊎ (IsAmong before name → ⊥)
      → IsAmong (first ∷ before) name ⊎ (IsAmong (first ∷ before) name → ⊥)
  by true e rest = inl (zero, ap Some ((bytes_eq-Decides first name).0 e))
  by false e (inl among) = inl (suc among.0, among.1)
  by false e (inr none) = inr (apart e none)

pub there_or_not : (accepted : ManifestText) (before : List (List ℕ)) (name : List ℕ) → IsThere accepted before name ⊎ (IsThere accepted before name → ⊥)
there_or_not accepted before name = by (archive_named name accepted.archives) refl (among_or_not before name) where
  apart : archive_named name accepted.archives ≡ None → (IsAmong before name → ⊥) → IsThere accepted before name → ⊥
  apart e none (inl has) = not_there e has
  apart e none (inr among) = none among

  by : (o : Option ArchiveRef) → archive_named name accepted.archives ≡ o → IsAmong before name ⊎ (IsAmong before name → ⊥)
      → IsThere accepted before name ⊎ (IsThere accepted before name → ⊥)
  by (Some entry) e other = inl (inl (subst IsSome (sym e) refl))
  by None e (inl among) = inl (inr among)
  by None e (inr none) = inr (apart e none)
