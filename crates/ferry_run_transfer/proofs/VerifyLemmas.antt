-- What a stop of a transfer leaves verifies where its start did.
use Rattle.std.proofs.Common.{◌≡◌, ◌≢◌, ◌⊎◌, inl, inr, ℕ, List, Option, Some, None, refl, sym, ◌∙◌, ap, subst, take, drop, IfSome, IsSome}
use Rattle.std.specs.List.{AllByRecursion}
use Rattle.ferry_base.specs.Limits.{zero_id}
use Rattle.ferry_blob.specs.Blob.{OpensTo}
use Rattle.ferry_piece.proofs.AmongLemmas.{among_all}
use Rattle.ferry_piece.specs.Gather.{IsAmong}
use Rattle.ferry_check.specs.Verify.{AllOpen, FilesVerify, IsNamed, Opens, ReadsWhole, Verifies}
use Rattle.ferry_disk.specs.Files.{Files, segment_bytes}
use Rattle.ferry_log.proofs.FitsLemmas.{place_of_blob}
use Rattle.ferry_log.specs.State.{IsStateOf, LogState, place_in}
use Rattle.ferry_log.specs.declared.place.Place.{Place}
use Rattle.ferry_manifest.specs.declared.manifest.ArchiveRef.{ArchiveRef}
use Rattle.ferry_repo.proofs.LawLemmas.{one_repo}
use Rattle.ferry_repo.specs.Archives.{archive_named}
use Rattle.ferry_repo.specs.Objects.{HasBlob}
use Rattle.ferry_repo.specs.Opening.{RepoState, OpensFilesTo}
use Rattle.ferry_repo.specs.Whole.{HasWhole, IsWhole, WholeArchive}
use Rattle.ferry_store.proofs.StandingLemmas.{opened_unlocks}
use Rattle.ferry_store.specs.Standing.{UnlocksSettings}
use Rattle.ferry_run_transfer.proofs.RerunLemmas.{each_equal}
use Rattle.ferry_run_transfer.proofs.ReadyLemmas.{one_keys}
use Rattle.ferry_run_transfer.specs.Rerun.{IsEqualThere}
use Rattle.ferry_run_transfer.specs.Transfer.{Arrives, KeepsArchives, NoneCollide, Request}

-- ---- chunks

one_blob : (files : Files) (log : LogState) (id a b : List ℕ) → HasBlob files log id a → HasBlob files log id b → a ≡ b
one_blob files log id a b ha hb =
    let both : Some ha.place ≡ Some hb.place = sym ha.placed ∙ hb.placed in
    let place : ha.place ≡ hb.place = cc in
    sym ha.lies.holds ∙ (ap (λ (p : Place). take p.size (drop p.at (segment_bytes files p.segment))) place ∙ hb.lies.holds)

-- the blob of a live id
live_blob_of : (files : Files) (log : LogState) (id : List ℕ) (place : Option Place) → IsStateOf files log → place_in log id ≡ place → IsSome place
    → (blob : List ℕ) × HasBlob files log id blob
live_blob_of files log id None is placed some = absurd (let never : ⊥ = cc in never)
live_blob_of files log id (Some place) is placed some =
    let lies = place_of_blob files log is id place placed in (lies.0, record { place = place; placed = placed; lies = lies.2 })

-- each live chunk opens where each of another repository did, and each that this one lacks opens
chunks_again : (start image : Files) (before repo : RepoState) → AllOpen start before → IsStateOf image repo.log → before.keys ≡ repo.keys
    → ((id blob : List ℕ) → id ≢ zero_id → HasBlob image repo.log id blob
    → HasBlob start before.log id blob ⊎ ((content : List ℕ) × OpensTo before.keys id blob content)) → AllOpen image repo
chunks_again start image before repo all is keys brings id chunk = opens (brings id found.0 chunk.chunk found.1) where
  found : (blob : List ℕ) × HasBlob image repo.log id blob
  found = live_blob_of image repo.log id (place_in repo.log id) is refl chunk.live

  opened : (content : List ℕ) × OpensTo before.keys id found.0 content → Opens image repo id
  opened o = (
    o.0,
    record {
      chunk = chunk.chunk;
      object = record { blob = found.0; has = found.1; opens = subst (λ k. OpensTo k id found.0 o.0) keys o.1 };
    },
  )

  opens : HasBlob start before.log id found.0 ⊎ ((content : List ℕ) × OpensTo before.keys id found.0 content) → Opens image repo id
  opens (inr o) = opened o
  opens (inl has) =
      let there = all id (record { chunk = chunk.chunk; live = subst IsSome (sym has.placed) refl }) in
      let object = there.1.object in
      let same = one_blob start before.log id object.blob found.0 object.has has in
      opened (there.0, subst (λ (b : List ℕ). OpensTo before.keys id b there.0) same object.opens)

-- ---- archives

-- what is said of files under a secret is said of the repository that they open to
whole_here : (request : Request) (image : Files) (repo : RepoState) (name : List ℕ) (whole : WholeArchive)
    → OpensFilesTo image request.secrets.target repo → HasWhole image request.secrets.target name whole → ReadsWhole image repo name
whole_here request image repo name whole opens has = (
  whole,
  subst (λ (r : RepoState). IsWhole image r.log r.keys r.manifest.archives name whole)
      (one_repo image request.secrets.target has.repo repo has.opens opens) has.is,
)

-- an archive that is named is one that was there, and was whole, or one that arrived
archive_again : (request : Request) (source start image : Files) (before : RepoState) (lines : List (List ℕ))
    → OpensFilesTo start request.secrets.target before → (keeps : KeepsArchives request start before.manifest lines image)
    → ((name : List ℕ) → IsNamed before name → ReadsWhole start before name)
    → AllByRecursion (IsEqualThere request source image) keeps.done → (name : List ℕ) (entry : ArchiveRef)
    → archive_named name keeps.repo.manifest.archives ≡ Some entry → ReadsWhole image keeps.repo name
archive_again request source start image before lines opens keeps reads equal name entry is = by (keeps.only name entry is) where
  by : (archive_named name before.manifest.archives ≡ Some entry) ⊎ IsAmong keeps.done name → ReadsWhole image keeps.repo name
  by (inl had) =
      let was = reads name (subst IsSome (sym had) refl) in
      whole_here request image keeps.repo name was.0 keeps.opens
      (keeps.wholes name was.0 (record { repo = before; opens = opens; is = was.1 }))
  by (inr among) =
      let arrived = among_all (IsEqualThere request source image) keeps.done name equal among in
      whole_here request image keeps.repo name arrived.0 keeps.opens arrived.1.1

some_named : (name : List ℕ) (found : Option ArchiveRef) (archives : List ArchiveRef) → archive_named name archives ≡ found → IsSome found
    → (entry : ArchiveRef) × (archive_named name archives ≡ Some entry)
some_named name None archives is some = absurd (let never : ⊥ = cc in never)
some_named name (Some entry) archives is some = (entry, is)

-- ---- the whole

pub verifies_again : (request : Request) (source start image : Files) (before : RepoState) (lines : List (List ℕ)) → request.source ≡ Some source
    → OpensFilesTo start request.secrets.target before → FilesVerify start request.secrets.target
    → (keeps : KeepsArchives request start before.manifest lines image)
    → NoneCollide request start keeps.begun → FilesVerify image request.secrets.target
verifies_again request source start image before lines told opens verify keeps apart = record {
  repo = keeps.repo;
  opens = keeps.opens;
  verifies = record {
    chunks = chunks_again start image before keeps.repo verifies.chunks keeps.opens.opens.unlocks.reads keys (keeps.opening before opens);
    archives = λ name named.
        let entry = some_named name (archive_named name keeps.repo.manifest.archives) keeps.repo.manifest.archives refl named in
        archive_again request source start image before lines opens keeps verifies.archives equal name entry.0 entry.1;
  };
} where
  verifies : Verifies start before
  verifies = subst (Verifies start) (one_repo start request.secrets.target verify.repo before verify.opens opens) verify.verifies

  keys : before.keys ≡ keeps.repo.keys
  keys =
      one_keys request.secrets.target image.config before keeps.repo
      (subst (λ (c : Option (List ℕ)). UnlocksSettings request.secrets.target c before.config before.keys) (sym keeps.config)
      (opened_unlocks start request.secrets.target before opens)) (opened_unlocks image request.secrets.target keeps.repo keeps.opens)

  each : (at : Option Files) → IfSome at (λ files. AllByRecursion (Arrives request files start image keeps.begun keeps.repo) keeps.done)
      → at ≡ Some source → AllByRecursion (IsEqualThere request source image) keeps.done
  each None arrived is = absurd (let never : ⊥ = cc in never)
  each (Some files) arrived is =
      let same : files ≡ source = cc in
      subst (λ (f : Files). AllByRecursion (IsEqualThere request f image) keeps.done) same
      (each_equal request files start image keeps.begun keeps.repo keeps.done arrived apart)

  equal : AllByRecursion (IsEqualThere request source image) keeps.done
  equal = each request.source keeps.arrived told
