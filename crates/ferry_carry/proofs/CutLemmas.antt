-- Lemmas on how archives are cut in a target.
use Rattle.std.proofs.Common.{◌≡◌, ◌⊎◌, inl, inr, ℕ, zero, suc, List, [], ◌∷◌, ◌++◌, Option, Some, None, IfSome, slice_get, refl, sym, ◌∙◌, subst}
use Rattle.std.proofs.lemmas.Option.{IfSome_then}
use Rattle.ferry_disk.specs.Files.{Files}
use Rattle.ferry_mac.specs.declared.keys.Keys.{Keys}
use Rattle.ferry_manifest.specs.Manifest.Text.{ManifestText}
use Rattle.ferry_manifest.specs.declared.manifest.ArchiveRef.{ArchiveRef}
use Rattle.ferry_repo.specs.Archives.{archive_named}
use Rattle.ferry_repo.specs.Opening.{RepoState}
use Rattle.ferry_repo.specs.Whole.{WholeArchive}
use Rattle.ferry_carry.proofs.CarryLemmas.{entry_kept, entry_named}
use Rattle.ferry_carry.specs.Carrying.{AreCut, IsCut, IsReadyToName, Origin, SaysIn}
use Rattle.ferry_piece.specs.Gather.{IsAmong}
use Rattle.ferry_carry.specs.Grow.{IsNamedBy, KeepsNames}
use Rattle.ferry_piece.specs.Puts.{Addition}

-- ---- IsAmong

pub among_none : (name : List ℕ) → IsAmong [] name → ⊥
among_none name among = let none : slice_get [] among.0 ≡ Some name = among.1 in let no : ⊥ = cc in no

pub among_one : (x name : List ℕ) → IsAmong (x ∷ []) name → x ≡ name
among_one x name (zero, is) = let same : Some x ≡ Some name = is in let e : x ≡ name = cc in e
among_one x name (suc place, is) = absurd (among_none name (place, is))

among_later : (x name : List ℕ) (some more : List (List ℕ)) → IsAmong some name ⊎ IsAmong more name → IsAmong (x ∷ some) name ⊎ IsAmong more name
among_later x name some more (inl among) = inl (suc among.0, among.1)
among_later x name some more (inr among) = inr among

-- what is among both is among one
pub among_either : (some more : List (List ℕ)) (name : List ℕ) → IsAmong (some ++ more) name → IsAmong some name ⊎ IsAmong more name
among_either [] more name among = inr among
among_either (x ∷ xs) more name (zero, is) = inl (zero, is)
among_either (x ∷ xs) more name (suc place, is) = among_later x name xs more (among_either xs more name (place, is))

-- ---- AreCut

pub cut_none : (accepted : ManifestText) (from : Origin) (keys : Keys) (archives : List ArchiveRef) → AreCut accepted from keys archives []
cut_none accepted from keys archives name among none = absurd (among_none name among)

cuts_on : (from : Origin) (keys : Keys) (before after : ManifestText) (name : List ℕ) → KeepsNames before after → IsCut from keys before.archives name
    → IsCut from keys after.archives name
cuts_on from keys before after name names cut =
    IfSome_then from.files cut (λ there c. record { over = entry_kept there from keys before after name names c.over; salt = c.salt; copy = c.copy })

-- of both
pub cut_then : (accepted middle : ManifestText) (from : Origin) (keys : Keys) (before after : ManifestText) (some more : List (List ℕ))
    → IsNamedBy accepted some middle → KeepsNames before after → AreCut accepted from keys before.archives some
    → AreCut middle from keys after.archives more → AreCut accepted from keys after.archives (some ++ more)
cut_then accepted middle from keys before after some more only names first second name among none = by (among_either some more name among) where
  lifted : IsAmong some name → IsCut from keys after.archives name
  lifted is = cuts_on from keys before after name names (first name is none)

  named : (entry : ArchiveRef) → (archive_named name accepted.archives ≡ Some entry) ⊎ IsAmong some name → IsCut from keys after.archives name
  named entry (inl e) = absurd (let both : None ≡ Some entry = sym none ∙ e in let no : ⊥ = cc in no)
  named entry (inr is) = lifted is

  at : (o : Option ArchiveRef) → archive_named name middle.archives ≡ o → IsAmong more name → IsCut from keys after.archives name
  at None e is = second name is e
  at (Some entry) e is = named entry (only name entry e)

  by : IsAmong some name ⊎ IsAmong more name → IsCut from keys after.archives name
  by (inl is) = lifted is
  by (inr is) = at (archive_named name middle.archives) refl is

-- an archive that can be named, once it is
pub cut_one : (accepted : ManifestText) (from : Origin) (added : List Addition) (files : Files) (repo : RepoState) (manifest : ManifestText)
    (entry : ArchiveRef) → archive_named entry.name manifest.archives ≡ Some entry → IsReadyToName from added files repo entry
    → AreCut accepted from repo.keys manifest.archives (entry.name ∷ [])
cut_one accepted from added files repo manifest entry is ready name among none =
    subst (IsCut from repo.keys manifest.archives) (among_one entry.name name among)
    (IfSome_then from.files ready (λ there c. record { over = entry_named there from added files repo manifest entry is c; salt = c.salt; copy = c.copy }))

-- one that was there isn't new
pub cut_same : (accepted : ManifestText) (from : Origin) (files : Files) (repo : RepoState) (keys : Keys) (archives : List ArchiveRef) (name : List ℕ)
    → KeepsNames repo.manifest accepted
    → IfSome from.files (λ there. (whole : WholeArchive) × (SaysIn there from.repo name whole × SaysIn files repo name whole))
    → AreCut accepted from keys archives (name ∷ [])
cut_same accepted from files repo keys archives name accepts same other among none =
    let is = among_one name other among in
    IfSome_then from.files same (λ there s.
    let there_is = accepts name s.1.1.named s.1.1.named_is in
    let both : None ≡ Some s.1.1.named =
    sym none ∙ subst (λ (n : List ℕ). archive_named n accepted.archives ≡ Some s.1.1.named) is there_is in
    absurd (let no : ⊥ = cc in no))
