-- Lemmas on a log and a repository that have learnt a key, and on one with another manifest.
use Rattle.std.proofs.Common.{◌≡◌, ◌≢◌, ◌↔◌, ◌⊎◌, inl, inr, ℕ, List, Some, None, sym, ◌∙◌, ap, subst}
use Rattle.ferry_base.specs.Limits.{zero_id}
use Rattle.ferry_blob.specs.Blob.{OpensTo as OpensBlob}
use Rattle.ferry_blob.specs.declared.fault.BlobFault.{BlobFault}
use Rattle.ferry_disk.specs.Files.{Files, segment_bytes}
use Rattle.ferry_log.specs.State.{LogState, IsBlobAt, place_in, with_learnt}
use Rattle.ferry_log.specs.declared.place.Place.{Place}
use Rattle.ferry_log.proofs.FitsLemmas.{fits_learnt, place_learnt, place_other}
use Rattle.ferry_mac.specs.declared.keys.Keys.{Keys}
use Rattle.ferry_manifest.specs.Manifest.Text.{ManifestText}
use Rattle.ferry_repo.specs.Cached.{Contents}
use Rattle.ferry_repo.specs.Objects.{HasBlob, IsMissing, BreaksObject, HoldsChunk, RefusesChunk, KeepsBlobs}
use Rattle.ferry_repo.specs.Opening.{RepoState, FitsRepo}
use Rattle.ferry_repo.specs.Walk.{WalkState, FitsWalk}
use Rattle.ferry_repo.specs.declared.fault.RepoFault.{RepoFault}
use Rattle.ferry_repo.specs.declared.fault.RepoFault.TheVariants as Fault
use Rattle.ferry_repo.proofs.KeptLemmas.{repo_kept, walk_kept, learnt_keeps}

-- ---- the chunk that was learnt

pub blob_learnt : (files : Files) (log : LogState) (id blob : List ℕ) (place : Place)
    → HasBlob files (with_learnt log id place) id blob ↔ IsBlobAt (segment_bytes files place.segment) place.at place.size blob
blob_learnt files log id blob place = (
  λ has.
      let found : Some has.place ≡ Some place = sym has.placed ∙ place_learnt log id place in
      let same : has.place ≡ place = cc in
      subst (λ (p : Place). IsBlobAt (segment_bytes files p.segment) p.at p.size blob) same has.lies,
  λ lies. record { place = place; placed = place_learnt log id place; lies = lies },
)

pub chunk_learnt : (files : Files) (log : LogState) (keys : Keys) (id blob content : List ℕ) (place : Place) → id ≢ zero_id
    → IsBlobAt (segment_bytes files place.segment) place.at place.size blob → OpensBlob keys id blob content
    → HoldsChunk files (with_learnt log id place) keys id content
chunk_learnt files log keys id blob content place other lies opens = record {
  chunk = other;
  object = record { blob = blob; has = (blob_learnt files log id blob place).1 lies; opens = opens };
}

-- ---- the other chunks

-- a blob of an id that has the same place in another log
blob_same : (files : Files) (a b : LogState) (id blob : List ℕ) → place_in a id ≡ place_in b id → HasBlob files a id blob → HasBlob files b id blob
blob_same files a b id blob same has = record { place = has.place; placed = sym same ∙ has.placed; lies = has.lies }

chunk_same : (files : Files) (a b : LogState) (keys : Keys) (id content : List ℕ) → place_in a id ≡ place_in b id → HoldsChunk files a keys id content
    → HoldsChunk files b keys id content
chunk_same files a b keys id content same holds = record {
  chunk = holds.chunk;
  object = record {
    blob = holds.object.blob;
    has = blob_same files a b id holds.object.blob same holds.object.has;
    opens = holds.object.opens;
  };
}

missing_same : (a b : LogState) (id : List ℕ) → place_in a id ≡ place_in b id → (id ≡ zero_id) ⊎ IsMissing a id → (id ≡ zero_id) ⊎ IsMissing b id
missing_same a b id same (inl zero) = inl zero
missing_same a b id same (inr missing) = inr (sym same ∙ missing)

breaks_same : (files : Files) (a b : LogState) (keys : Keys) (id : List ℕ) (fault : BlobFault) → place_in a id ≡ place_in b id
    → BreaksObject files a keys id fault → BreaksObject files b keys id fault
breaks_same files a b keys id fault same breaks = record {
  blob = breaks.blob;
  has = blob_same files a b id breaks.blob same breaks.has;
  breaks = breaks.breaks;
}

refuses_same : (files : Files) (a b : LogState) (keys : Keys) (id : List ℕ) (fault : RepoFault) → place_in a id ≡ place_in b id
    → RefusesChunk files a keys id fault → RefusesChunk files b keys id fault
refuses_same files a b keys id (Fault.Missing named) same h = (h.0, missing_same a b id same h.1)
refuses_same files a b keys id (Fault.Blob named fault) same h = (h.0, h.1, breaks_same files a b keys id fault same h.2)
refuses_same files a b keys id Fault.NoCommit same h = h
refuses_same files a b keys id (Fault.Damaged segment at) same h = h
refuses_same files a b keys id (Fault.Config f) same h = h
refuses_same files a b keys id (Fault.Key f) same h = h
refuses_same files a b keys id (Fault.Manifest f) same h = h
refuses_same files a b keys id (Fault.Archive named f) same h = h
refuses_same files a b keys id (Fault.Item named f) same h = h
refuses_same files a b keys id (Fault.Size named) same h = h
refuses_same files a b keys id (Fault.KeyFile f) same h = h
refuses_same files a b keys id (Fault.Other file config) same h = h
refuses_same files a b keys id Fault.NoKey same h = h
refuses_same files a b keys id Fault.Device same h = h
refuses_same files a b keys id Fault.Memory same h = h

pub chunk_other : (files : Files) (log : LogState) (keys : Keys) (id other content : List ℕ) (place : Place) → other ≢ id
    → HoldsChunk files (with_learnt log id place) keys other content ↔ HoldsChunk files log keys other content
chunk_other files log keys id other content place differ =
    let same = place_other log id other place differ in (
      chunk_same files (with_learnt log id place) log keys other content same,
      chunk_same files log (with_learnt log id place) keys other content (sym same),
    )

pub refused_other : (files : Files) (log : LogState) (keys : Keys) (id other : List ℕ) (place : Place) (fault : RepoFault) → other ≢ id
    → RefusesChunk files (with_learnt log id place) keys other fault ↔ RefusesChunk files log keys other fault
refused_other files log keys id other place fault differ =
    let same = place_other log id other place differ in (
      refuses_same files (with_learnt log id place) log keys other fault same,
      refuses_same files log (with_learnt log id place) keys other fault (sym same),
    )

-- ---- what fits

-- an id that has a place isn't one that had none
apart : (log : LogState) (id other : List ℕ) (place : Place) → IsMissing log id → place_in log other ≡ Some place → other ≢ id
apart log id other place missing placed same =
    let none : Some place ≡ None = sym placed ∙ (ap (place_in log) same ∙ missing) in
    cc

pub learn_keeps : (files : Files) (log : LogState) (id : List ℕ) (place : Place) → IsMissing log id → KeepsBlobs files log files (with_learnt log id place)
learn_keeps files log id place missing =
    learnt_keeps files log (with_learnt log id place)
    (λ other p placed. place_other log id other place (apart log id other p missing placed) ∙ placed)

pub learn_fits : (files : Files) (repo : RepoState) (cached : Contents) (id blob : List ℕ) (place : Place) → IsMissing repo.log id
    → IsBlobAt (segment_bytes files place.segment) place.at place.size blob → FitsRepo files repo cached
    → FitsRepo files (record repo { log = with_learnt repo.log id place }) cached
learn_fits files repo cached id blob place missing lies fits =
    repo_kept files files repo cached (with_learnt repo.log id place) (fits_learnt files repo.log id place lies.within fits.log)
    (learn_keeps files repo.log id place missing) fits

pub learn_walk : (files : Files) (log : LogState) (keys : Keys) (id : List ℕ) (place : Place) (walk : WalkState) → IsMissing log id
    → FitsWalk files log keys walk → FitsWalk files (with_learnt log id place) keys walk
learn_walk files log keys id place walk missing fits =
    walk_kept files files log (with_learnt log id place) keys walk (learn_keeps files log id place missing) fits

pub renew_fits : (files : Files) (repo : RepoState) (cached : Contents) (manifest : ManifestText) → FitsRepo files repo cached
    → FitsRepo files (record repo { manifest = manifest }) cached
renew_fits files repo cached manifest fits = record { log = fits.log; cached = fits.cached; noted = fits.noted }

pub renew_walk : (files : Files) (repo : RepoState) (manifest : ManifestText) (walk : WalkState) → FitsWalk files repo.log repo.keys walk
    → FitsWalk files (record repo { manifest = manifest }).log (record repo { manifest = manifest }).keys walk
renew_walk files repo manifest walk fits = fits
