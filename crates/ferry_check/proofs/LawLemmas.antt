-- Lemmas on specs/Verify.antt: what verifies has no first fault, and there is one at most.
use Rattle.std.proofs.Common.{◌≡◌, ◌≢◌, ◌⊎◌, inl, inr, ℕ, List, [], ◌∷◌, ◌++◌, IsSome, refl, sym, ◌∙◌, ap, subst}
use Rattle.std.specs.List.{AllByRecursion}
use Rattle.std.specs.Ordering.{ordering_reverse}
use Rattle.std.specs.Str.{bytes_eq}
use Rattle.std.specs.FinMap.{slice_cmp-IsAntisymmetric, nat_cmp-IsAntisymmetric}
use Rattle.std.specs.declared.cmp.Ordering.{Ordering}
use Rattle.std.specs.declared.cmp.Ordering.TheVariants.{Less, Equal, Greater}
use Rattle.ferry_base.specs.Limits.{zero_id}
use Rattle.ferry_disk.specs.Files.{Files}
use Rattle.ferry_log.specs.Live.{key_cmp}
use Rattle.ferry_log.specs.State.{place_in}
use Rattle.ferry_manifest.specs.declared.manifest.ArchiveRef.{ArchiveRef}
use Rattle.ferry_repo.specs.Fault.{IsOfFiles}
use Rattle.ferry_repo.specs.Objects.{HoldsObject, RefusesChunk}
use Rattle.ferry_repo.specs.Opening.{RepoState}
use Rattle.ferry_repo.specs.Whole.{RefusesWhole}
use Rattle.ferry_repo.specs.declared.fault.RepoFault.{RepoFault}
use Rattle.ferry_repo.proofs.LawLemmas.{chunk_apart, one_chunk_fault}
use Rattle.ferry_repo.proofs.WholeLemmas.{whole_apart, one_whole_fault}
use Rattle.ferry_repo.specs.declared.secret.Secret.{Secret}
use Rattle.ferry_check.specs.Verify.{Opens, ReadsWhole, Verifies, FilesVerify, BadChunk, BadArchive, FirstBad}
use Rattle.ferry_check.proofs.ArchiveLemmas.{zero_or}
use Rattle.ferry_check.proofs.ChunkLemmas.{turned}

-- ---- a fault and what opens

opens_apart : (files : Files) (repo : RepoState) (id : List ℕ) (fault : RepoFault) → IsOfFiles fault → Opens files repo id
    → RefusesChunk files repo.log repo.keys id fault → ⊥
opens_apart files repo id fault of_files opens refused = chunk_apart files repo.log repo.keys id opens.0 fault opens.1 of_files refused

reads_apart : (files : Files) (repo : RepoState) (name : List ℕ) (fault : RepoFault) → IsOfFiles fault → ReadsWhole files repo name
    → RefusesWhole files repo.log repo.keys repo.manifest.archives name fault → ⊥
reads_apart files repo name fault of_files whole refused =
    whole_apart files repo.log repo.keys repo.manifest.archives name whole.0 fault whole.1 of_files refused

pub verifies_apart : (files : Files) (repo : RepoState) (fault : RepoFault) → Verifies files repo → FirstBad files repo fault → ⊥
verifies_apart files repo fault v (of_files, inl b) = opens_apart files repo b.id fault of_files (v.chunks b.id b.live) b.refused
verifies_apart files repo fault v (of_files, inr b) =
    let bad = b.1 in
    reads_apart files repo bad.named.name fault of_files (v.archives bad.named.name (subst IsSome (sym bad.refused.named_is) refl)) bad.refused

-- ---- one fault

chunks_by : (files : Files) (repo : RepoState) (f g : RepoFault) → IsOfFiles f → IsOfFiles g → (a : BadChunk files repo f) (b : BadChunk files repo g)
    → (o : Ordering) → key_cmp a.id b.id ≡ o → f ≡ g
chunks_by files repo f g of_f of_g a b Less e = absurd (opens_apart files repo a.id f of_f (b.before a.id a.live e) a.refused)
chunks_by files repo f g of_f of_g a b Greater e =
    absurd (opens_apart files repo b.id g of_g (a.before b.id b.live (turned b.id a.id ∙ ap ordering_reverse e)) b.refused)
chunks_by files repo f g of_f of_g a b Equal e =
    let same : b.id ≡ a.id = sym (slice_cmp-IsAntisymmetric nat_cmp-IsAntisymmetric a.id b.id e) in
    one_chunk_fault files repo.log repo.keys a.id f g of_f of_g a.refused
    (subst (λ (i : List ℕ). RefusesChunk files repo.log repo.keys i g) same b.refused)

-- of two places of a list, both are the same, or one is in front of the other
place_or : (P : ArchiveRef → Type 0) (xs ys : List ArchiveRef) (x y : ArchiveRef) (rest more : List ArchiveRef) → xs ++ (x ∷ rest) ≡ ys ++ (y ∷ more)
    → AllByRecursion P xs → AllByRecursion P ys → (x ≡ y) ⊎ (P x ⊎ P y)
place_or P [] [] x y rest more e all others = let same : x ≡ y = cc in inl same
place_or P [] (z ∷ ys) x y rest more e all others = let same : z ≡ x = cc in inr (inl (subst P same others.0))
place_or P (z ∷ xs) [] x y rest more e all others = let same : z ≡ y = cc in inr (inr (subst P same all.0))
place_or P (z ∷ xs) (w ∷ ys) x y rest more e all others =
    let tails : xs ++ (x ∷ rest) ≡ ys ++ (y ∷ more) = cc in
    place_or P xs ys x y rest more tails all.1 others.1

archives_one : (files : Files) (repo : RepoState) (f g : RepoFault) → IsOfFiles f → IsOfFiles g → (a : BadArchive files repo f)
    (b : BadArchive files repo g) → f ≡ g
archives_one files repo f g of_f of_g a b =
    elim (place_or (λ (r : ArchiveRef). ReadsWhole files repo r.name) a.before b.before a.named b.named a.behind b.behind (sym a.archives ∙ b.archives)
    a.whole b.whole) [
      | inl same ↦
          one_whole_fault files repo.log repo.keys repo.manifest.archives a.named.name f g of_f of_g a.refused
          (subst (λ (r : ArchiveRef). RefusesWhole files repo.log repo.keys repo.manifest.archives r.name g) (sym same) b.refused)
      | inr (inl whole) ↦ absurd (reads_apart files repo a.named.name f of_f whole a.refused)
      | inr (inr whole) ↦ absurd (reads_apart files repo b.named.name g of_g whole b.refused)
    ]

pub one_first : (files : Files) (repo : RepoState) (f g : RepoFault) → FirstBad files repo f → FirstBad files repo g → f ≡ g
one_first files repo f g (of_f, inl a) (of_g, inl b) = chunks_by files repo f g of_f of_g a b (key_cmp a.id b.id) refl
one_first files repo f g (of_f, inl a) (of_g, inr b) = absurd (opens_apart files repo a.id f of_f (b.0 a.id a.live) a.refused)
one_first files repo f g (of_f, inr a) (of_g, inl b) = absurd (opens_apart files repo b.id g of_g (a.0 b.id b.live) b.refused)
one_first files repo f g (of_f, inr a) (of_g, inr b) = archives_one files repo f g of_f of_g a.1 b.1

-- ---- every live id

live_by : (files : Files) (secret : Secret) (verify : FilesVerify files secret) (id : List ℕ) → IsSome (place_in verify.repo.log id)
    → (id ≡ zero_id) ⊎ (id ≢ zero_id) → (content : List ℕ) × HoldsObject files verify.repo.log verify.repo.keys id content
live_by files secret verify id live (inl zero) =
    let opens = verify.opens.opens in
    (opens.content, subst (λ (i : List ℕ). HoldsObject files verify.repo.log verify.repo.keys i opens.content) (sym zero) opens.object)
live_by files secret verify id live (inr chunk) =
    let opens = verify.verifies.chunks id (record { chunk = chunk; live = live }) in
    (opens.0, opens.1.object)

pub live_opens : (files : Files) (secret : Secret) (verify : FilesVerify files secret) (id : List ℕ) → IsSome (place_in verify.repo.log id)
    → (content : List ℕ) × HoldsObject files verify.repo.log verify.repo.keys id content
live_opens files secret verify id live = live_by files secret verify id live (zero_or id (bytes_eq id zero_id) refl)
