-- Lemmas on specs/Verify.antt: where the names of a manifest increase, the archives in front of one are those with lesser names.
use Rattle.std.proofs.Common.{◌≡◌, ℕ, Bool, true, false, cond, List, [], ◌∷◌, ◌++◌, Some, IsSome, refl, subst}
use Rattle.std.specs.Cmp.Lexicographic.{nat_list_cmp_total}
use Rattle.std.specs.List.{AllByRecursion}
use Rattle.std.specs.Str.{bytes_eq}
use Rattle.std.specs.declared.cmp.Ordering.TheVariants.{Less}
use Rattle.std.proofs.lemmas.Slice.Eq.{bytes_eq-Decides}
use Rattle.ferry_disk.specs.Files.{Files}
use Rattle.ferry_log.specs.Live.{key_cmp}
use Rattle.ferry_manifest.specs.Manifest.Writing.{AreIncreasing, archive_names}
use Rattle.ferry_manifest.specs.declared.manifest.ArchiveRef.{ArchiveRef}
use Rattle.ferry_repo.specs.Archives.{archive_named}
use Rattle.ferry_repo.specs.Opening.{RepoState}
use Rattle.ferry_repo.specs.declared.fault.RepoFault.{RepoFault}
use Rattle.ferry_check.specs.Verify.{ReadsWhole, BadArchive, BadName}
use Rattle.ferry_check.proofs.ChunkLemmas.{not_itself, not_both}

below_next : (n name : List ℕ) (behind : List ArchiveRef) → key_cmp n name ≡ Less → AreIncreasing (name ∷ archive_names behind)
    → AreIncreasing (n ∷ archive_names behind)
below_next n name [] less inc = (tt, tt)
below_next n name (a ∷ behind) less inc = (nat_list_cmp_total.trans n name a.name less inc.0, inc.1)

-- a name that an archive behind has is above
above_by : (n other : List ℕ) (a : ArchiveRef) (behind : List ArchiveRef) (b : Bool) → bytes_eq a.name other ≡ b → key_cmp n a.name ≡ Less
    → (IsSome (archive_named other behind) → key_cmp n other ≡ Less) → IsSome (cond b (Some a) (archive_named other behind)) → key_cmp n other ≡ Less
above_by n other a behind true e less rest some = subst (λ (m : List ℕ). key_cmp n m ≡ Less) ((bytes_eq-Decides a.name other).0 e) less
above_by n other a behind false e less rest some = rest some

behind_above : (n other : List ℕ) (behind : List ArchiveRef) → AreIncreasing (n ∷ archive_names behind) → IsSome (archive_named other behind)
    → key_cmp n other ≡ Less
unfolding archive_named
behind_above n other [] inc some = absurd (let no : ⊥ = cc in no)
behind_above n other (a ∷ behind) inc some =
    above_by n other a behind (bytes_eq a.name other) refl inc.0 (behind_above n other behind (below_next n a.name behind inc.0 inc.1)) some

here_by : (files : Files) (repo : RepoState) (other : List ℕ) (named : ArchiveRef) (behind : List ArchiveRef) (b : Bool) → bytes_eq named.name other ≡ b
    → AreIncreasing (named.name ∷ archive_names behind) → IsSome (cond b (Some named) (archive_named other behind)) → key_cmp other named.name ≡ Less
    → ReadsWhole files repo other
here_by files repo other named behind true e inc some less =
    absurd (not_itself other (subst (λ (m : List ℕ). key_cmp other m ≡ Less) ((bytes_eq-Decides named.name other).0 e) less))
here_by files repo other named behind false e inc some less =
    absurd (not_both named.name other (behind_above named.name other behind inc some) less)

before_by : (files : Files) (repo : RepoState) (other : List ℕ) (x : ArchiveRef) (others : List ArchiveRef) (b : Bool) → bytes_eq x.name other ≡ b
    → ReadsWhole files repo x.name → (IsSome (archive_named other others) → ReadsWhole files repo other)
    → IsSome (cond b (Some x) (archive_named other others)) → ReadsWhole files repo other
before_by files repo other x others true e whole rest some = subst (λ (m : List ℕ). ReadsWhole files repo m) ((bytes_eq-Decides x.name other).0 e) whole
before_by files repo other x others false e whole rest some = rest some

lesser_whole : (files : Files) (repo : RepoState) (before : List ArchiveRef) (named : ArchiveRef) (behind : List ArchiveRef) (other : List ℕ)
    → AreIncreasing (archive_names (before ++ (named ∷ behind))) → AllByRecursion (λ (a : ArchiveRef). ReadsWhole files repo a.name) before
    → key_cmp other named.name ≡ Less → IsSome (archive_named other (before ++ (named ∷ behind))) → ReadsWhole files repo other
unfolding archive_named
lesser_whole files repo [] named behind other inc whole less some = here_by files repo other named behind (bytes_eq named.name other) refl inc some less
lesser_whole files repo (x ∷ xs) named behind other inc whole less some =
    before_by files repo other x (xs ++ (named ∷ behind)) (bytes_eq x.name other) refl whole.0
    (lesser_whole files repo xs named behind other inc.1 whole.1 less) some

pub first_name : (files : Files) (repo : RepoState) (fault : RepoFault) → AreIncreasing (archive_names repo.manifest.archives) → BadArchive files repo fault
    → BadName files repo fault
first_name files repo fault inc bad = record {
  name = bad.named.name;
  refused = bad.refused;
  before = λ other named less. lesser_whole files repo bad.before bad.named bad.behind other
      (subst (λ (l : List ArchiveRef). AreIncreasing (archive_names l)) bad.archives inc) bad.whole less
      (subst (λ (l : List ArchiveRef). IsSome (archive_named other l)) bad.archives named);
}
