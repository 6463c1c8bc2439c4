-- Lemmas on specs/Opening.antt and specs/Objects.antt: one answer holds, and one alone.
use Rattle.std.proofs.Common.{◌≡◌, ◌≢◌, ℕ, ◌⊎◌, Bool, true, false, List, take, drop, Option, Some, None, Result, Ok, Err, refl, sym, ◌∙◌, ap}
use Rattle.std.proofs.Common.{subst, inl, inr}
use Rattle.std.proofs.lemmas.Slice.Eq.{bytes_eq-Decides}
use Rattle.std.specs.Str.{bytes_eq}
use Rattle.ferry_base.specs.Limits.{zero_id}
use Rattle.ferry_blob.specs.Blob.{blob_fault}
use Rattle.ferry_blob.specs.Blob.{OpensTo as OpensBlob}
use Rattle.ferry_blob.specs.declared.fault.BlobFault.{BlobFault}
use Rattle.ferry_blob.proofs.BlobLemmas.{opened_at, opens_no_fault}
use Rattle.ferry_blob.proofs.LawLemmas.{one_content}
use Rattle.ferry_config.specs.declared.config.Config.{Config}
use Rattle.ferry_disk.specs.Files.{Files, contents_at, segment_bytes}
use Rattle.ferry_disk.specs.declared.name.Name.TheVariants as Name
use Rattle.ferry_keyblob.specs.Opening.{Opened}
use Rattle.ferry_log.specs.Log.{IsUncommitted, IsDamaged}
use Rattle.ferry_log.specs.State.{LogState, IsStateOf, FitsFiles, place_in}
use Rattle.ferry_log.specs.declared.place.Place.{Place}
use Rattle.ferry_log.proofs.FitsLemmas.{opened_fits, place_holds, place_of_blob, no_place}
use Rattle.ferry_log.specs.Live.{live_blob}
use Rattle.ferry_log.proofs.LawLemmas.{one_place, uncommitted_apart, damaged_apart, one_state}
use Rattle.ferry_log.proofs.PlacesLemmas.{some_state}
use Rattle.ferry_mac.specs.declared.keys.Keys.{Keys}
use Rattle.ferry_manifest.specs.Manifest.Text.{ManifestText, manifest_of}
use Rattle.ferry_manifest.specs.declared.fault.MetaFault.{MetaFault}
use Rattle.ferry_segment.specs.Entry.{IsBytes}
use Rattle.ferry_repo.proofs.OpeningLemmas.{key_refused, kind_of_files, unlocked_kind}
use Rattle.ferry_repo.specs.declared.fault.RepoFault.{RepoFault}
use Rattle.ferry_repo.specs.declared.fault.RepoFault.TheVariants as Fault
use Rattle.ferry_repo.specs.Cached.{no_contents}
use Rattle.ferry_repo.specs.Fault.{IsOfFiles}
use Rattle.ferry_repo.specs.Objects.{HasBlob, IsMissing, HoldsObject, BreaksObject, HoldsChunk, RefusesChunk}
use Rattle.ferry_repo.specs.Opening.{RepoState, UnlockedText, unlocked, ReadsLog, UnlocksFiles, OpensRepo, OpensFilesTo, FitsRepo, RefusesRepo}
use Rattle.ferry_repo.specs.declared.secret.Secret.{Secret}

-- ---- objects

one_blob : (files : Files) (log : LogState) (id a b : List ℕ) → HasBlob files log id a → HasBlob files log id b → a ≡ b
one_blob files log id a b ha hb =
    let both : Some ha.place ≡ Some hb.place = sym ha.placed ∙ hb.placed in
    let place : ha.place ≡ hb.place = cc in
    sym ha.lies.holds ∙ (ap (λ (p : Place). take p.size (drop p.at (segment_bytes files p.segment))) place ∙ hb.lies.holds)

not_missing : (files : Files) (log : LogState) (id blob : List ℕ) → HasBlob files log id blob → IsMissing log id → ⊥
not_missing files log id blob has missing = let none : Some has.place ≡ None = sym has.placed ∙ missing in cc

one_object : (files : Files) (log : LogState) (keys : Keys) (id a b : List ℕ) → HoldsObject files log keys id a → HoldsObject files log keys id b → a ≡ b
one_object files log keys id a b ha hb =
    let same = one_blob files log id ha.blob hb.blob ha.has hb.has in
    one_content keys id hb.blob a b (subst (λ (k : List ℕ). OpensBlob keys id k a) same ha.opens) hb.opens

not_broken : (files : Files) (log : LogState) (keys : Keys) (id content : List ℕ) (fault : BlobFault) → HoldsObject files log keys id content
    → BreaksObject files log keys id fault → ⊥
not_broken files log keys id content fault holds breaks =
    let same = one_blob files log id holds.blob breaks.blob holds.has breaks.has in
    let none : None ≡ Some fault = sym (opens_no_fault keys id holds.blob content holds.opens) ∙ ap (blob_fault keys id) same ∙ breaks.breaks in
    cc

one_break : (files : Files) (log : LogState) (keys : Keys) (id : List ℕ) (f g : BlobFault) → BreaksObject files log keys id f
    → BreaksObject files log keys id g → f ≡ g
one_break files log keys id f g hf hg =
    let same = one_blob files log id hf.blob hg.blob hf.has hg.has in
    let both : Some f ≡ Some g = sym hf.breaks ∙ ap (blob_fault keys id) same ∙ hg.breaks in
    cc

-- what an object answers: it isn't live, it has a content, or it breaks a rule
abbrev SomeObject : Files → LogState → Keys → List ℕ → Type 0
SomeObject files log keys id = IsMissing log id
    ⊎ (((content : List ℕ) × HoldsObject files log keys id content) ⊎ ((fault : BlobFault) × BreaksObject files log keys id fault))

blob_answer : (files : Files) (log : LogState) (keys : Keys) (id blob : List ℕ) (fault : Option BlobFault) → HasBlob files log id blob
    → blob_fault keys id blob ≡ fault → SomeObject files log keys id
blob_answer files log keys id blob None has is = inr (inl (_, record { blob = blob; has = has; opens = opened_at keys id blob _ is refl }))
blob_answer files log keys id blob (Some fault) has is = inr (inr (fault, record { blob = blob; has = has; breaks = is }))

place_answer : (files : Files) (log : LogState) (keys : Keys) (id : List ℕ) (place : Option Place) → FitsFiles files log → place_in log id ≡ place
    → SomeObject files log keys id
place_answer files log keys id None fits is = inl is
place_answer files log keys id (Some place) fits is =
    let lies = place_holds files log id place fits is in
    blob_answer files log keys id lies.0 (blob_fault keys id lies.0) (record { place = place; placed = is; lies = lies.1 }) refl

-- an id isn't live, or its blob opens, or it breaks a rule
some_object : (files : Files) (log : LogState) (keys : Keys) (id : List ℕ) → FitsFiles files log → SomeObject files log keys id
some_object files log keys id fits = place_answer files log keys id (place_in log id) fits refl

-- ---- files as they were opened

-- the blob of a live id is that of the last entry of the log that names it
pub live_there : (files : Files) (log : LogState) (is : IsStateOf files log) (id blob : List ℕ) → HasBlob files log id blob → live_blob id is.log ≡ Some blob
live_there files log is id blob has =
    let live = place_of_blob files log is id has.place has.placed in
    live.1 ∙ ap Some (sym live.2.holds ∙ has.lies.holds)

blob_there : (files : Files) (log : LogState) (is : IsStateOf files log) (id blob : List ℕ) (place : Option Place) → place_in log id ≡ place
    → live_blob id is.log ≡ Some blob → HasBlob files log id blob
blob_there files log is id blob None none live = absurd (let no : None ≡ Some blob = sym (no_place files log is id none) ∙ live in cc)
blob_there files log is id blob (Some place) placed live =
    let lies = place_of_blob files log is id place placed in
    let both : Some lies.0 ≡ Some blob = sym lies.1 ∙ live in
    let same : lies.0 ≡ blob = cc in
    record { place = place; placed = placed; lies = record { holds = lies.2.holds ∙ same; within = lies.2.within } }

pub has_live : (files : Files) (log : LogState) (is : IsStateOf files log) (id blob : List ℕ) → live_blob id is.log ≡ Some blob → HasBlob files log id blob
has_live files log is id blob live = blob_there files log is id blob (place_in log id) refl live

-- ---- chunks

zero_or : (id : List ℕ) (b : Bool) → bytes_eq id zero_id ≡ b → (id ≡ zero_id) ⊎ (id ≢ zero_id)
zero_or id true is = inl ((bytes_eq-Decides id zero_id).0 is)
zero_or id false is = inr (λ e. let both : false ≡ true = sym is ∙ (bytes_eq-Decides id zero_id).1 e in cc)

other_answer : (files : Files) (log : LogState) (keys : Keys) (id : List ℕ) → id ≢ zero_id
    → SomeObject files log keys id
    → ((content : List ℕ) × HoldsChunk files log keys id content) ⊎ ((fault : RepoFault) × IsOfFiles fault × RefusesChunk files log keys id fault)
other_answer files log keys id other (inl missing) = inr (Fault.Missing id, tt, (refl, inr missing))
other_answer files log keys id other (inr (inl holds)) = inl (holds.0, record { chunk = other; object = holds.1 })
other_answer files log keys id other (inr (inr breaks)) = inr (Fault.Blob id breaks.0, tt, (other, refl, breaks.1))

chunk_answer : (files : Files) (log : LogState) (keys : Keys) (id : List ℕ) → FitsFiles files log → (id ≡ zero_id) ⊎ (id ≢ zero_id)
    → ((content : List ℕ) × HoldsChunk files log keys id content) ⊎ ((fault : RepoFault) × IsOfFiles fault × RefusesChunk files log keys id fault)
chunk_answer files log keys id read (inl zero) = inr (Fault.Missing id, tt, (refl, inl zero))
chunk_answer files log keys id read (inr other) = other_answer files log keys id other (some_object files log keys id read)

pub some_chunk : (files : Files) (log : LogState) (keys : Keys) (id : List ℕ) → FitsFiles files log
    → ((content : List ℕ) × HoldsChunk files log keys id content) ⊎ ((fault : RepoFault) × IsOfFiles fault × RefusesChunk files log keys id fault)
some_chunk files log keys id read = chunk_answer files log keys id read (zero_or id (bytes_eq id zero_id) refl)

pub one_chunk : (files : Files) (log : LogState) (keys : Keys) (id a b : List ℕ) → HoldsChunk files log keys id a → HoldsChunk files log keys id b → a ≡ b
one_chunk files log keys id a b ha hb = one_object files log keys id a b ha.object hb.object

chunk_there : (files : Files) (log : LogState) (keys : Keys) (id content : List ℕ) → HoldsChunk files log keys id content → (id ≡ zero_id)
    ⊎ IsMissing log id → ⊥
chunk_there files log keys id content holds (inl zero) = holds.chunk zero
chunk_there files log keys id content holds (inr missing) = not_missing files log id holds.object.blob holds.object.has missing

pub chunk_apart : (files : Files) (log : LogState) (keys : Keys) (id content : List ℕ) (fault : RepoFault) → HoldsChunk files log keys id content
    → IsOfFiles fault → RefusesChunk files log keys id fault → ⊥
chunk_apart files log keys id content (Fault.Missing named) holds of_files refuses = chunk_there files log keys id content holds refuses.1
chunk_apart files log keys id content (Fault.Blob named fault) holds of_files refuses = not_broken files log keys id content fault holds.object refuses.2
chunk_apart files log keys id content Fault.NoCommit holds of_files refuses = refuses
chunk_apart files log keys id content (Fault.Damaged segment at) holds of_files refuses = refuses
chunk_apart files log keys id content (Fault.Config fault) holds of_files refuses = refuses
chunk_apart files log keys id content (Fault.Key fault) holds of_files refuses = refuses
chunk_apart files log keys id content (Fault.Manifest fault) holds of_files refuses = refuses
chunk_apart files log keys id content (Fault.Archive named fault) holds of_files refuses = refuses
chunk_apart files log keys id content (Fault.Item named fault) holds of_files refuses = refuses
chunk_apart files log keys id content (Fault.Size named) holds of_files refuses = refuses
chunk_apart files log keys id content (Fault.KeyFile fault) holds of_files refuses = refuses
chunk_apart files log keys id content (Fault.Other a b) holds of_files refuses = refuses
chunk_apart files log keys id content Fault.NoKey holds of_files refuses = refuses
chunk_apart files log keys id content Fault.Device holds of_files refuses = of_files
chunk_apart files log keys id content Fault.Memory holds of_files refuses = of_files

missing_unbroken : (files : Files) (log : LogState) (keys : Keys) (id : List ℕ) (fault : BlobFault) → id ≢ zero_id → (id ≡ zero_id) ⊎ IsMissing log id
    → BreaksObject files log keys id fault → ⊥
missing_unbroken files log keys id fault other (inl zero) breaks = other zero
missing_unbroken files log keys id fault other (inr missing) breaks = not_missing files log id breaks.blob breaks.has missing

pub one_chunk_fault : (files : Files) (log : LogState) (keys : Keys) (id : List ℕ) (f g : RepoFault) → IsOfFiles f → IsOfFiles g
    → RefusesChunk files log keys id f → RefusesChunk files log keys id g → f ≡ g
one_chunk_fault files log keys id (Fault.Missing m) (Fault.Missing n) of_f of_g hf hg = ap Fault.Missing (hf.0 ∙ sym hg.0)
one_chunk_fault files log keys id (Fault.Missing m) (Fault.Blob n g) of_f of_g hf hg = absurd (missing_unbroken files log keys id g hg.0 hf.1 hg.2)
one_chunk_fault files log keys id (Fault.Blob m f) (Fault.Missing n) of_f of_g hf hg = absurd (missing_unbroken files log keys id f hf.0 hg.1 hf.2)
one_chunk_fault files log keys id (Fault.Blob m f) (Fault.Blob n g) of_f of_g hf hg =
    let named : m ≡ n = hf.1 ∙ sym hg.1 in
    let broken : f ≡ g = one_break files log keys id f g hf.2 hg.2 in
    rw (named, broken) refl
one_chunk_fault files log keys id Fault.NoCommit g of_f of_g hf hg = absurd hf
one_chunk_fault files log keys id (Fault.Damaged segment at) g of_f of_g hf hg = absurd hf
one_chunk_fault files log keys id (Fault.Config fault) g of_f of_g hf hg = absurd hf
one_chunk_fault files log keys id (Fault.Key fault) g of_f of_g hf hg = absurd hf
one_chunk_fault files log keys id (Fault.Manifest fault) g of_f of_g hf hg = absurd hf
one_chunk_fault files log keys id (Fault.Archive named fault) g of_f of_g hf hg = absurd hf
one_chunk_fault files log keys id (Fault.Item named fault) g of_f of_g hf hg = absurd hf
one_chunk_fault files log keys id (Fault.Size named) g of_f of_g hf hg = absurd hf
one_chunk_fault files log keys id (Fault.KeyFile fault) g of_f of_g hf hg = absurd hf
one_chunk_fault files log keys id (Fault.Other a b) g of_f of_g hf hg = absurd hf
one_chunk_fault files log keys id Fault.NoKey g of_f of_g hf hg = absurd hf
one_chunk_fault files log keys id Fault.Device g of_f of_g hf hg = absurd of_f
one_chunk_fault files log keys id Fault.Memory g of_f of_g hf hg = absurd of_f
one_chunk_fault files log keys id f Fault.NoCommit of_f of_g hf hg = absurd hg
one_chunk_fault files log keys id f (Fault.Damaged segment at) of_f of_g hf hg = absurd hg
one_chunk_fault files log keys id f (Fault.Config fault) of_f of_g hf hg = absurd hg
one_chunk_fault files log keys id f (Fault.Key fault) of_f of_g hf hg = absurd hg
one_chunk_fault files log keys id f (Fault.Manifest fault) of_f of_g hf hg = absurd hg
one_chunk_fault files log keys id f (Fault.Archive named fault) of_f of_g hf hg = absurd hg
one_chunk_fault files log keys id f (Fault.Item named fault) of_f of_g hf hg = absurd hg
one_chunk_fault files log keys id f (Fault.Size named) of_f of_g hf hg = absurd hg
one_chunk_fault files log keys id f (Fault.KeyFile fault) of_f of_g hf hg = absurd hg
one_chunk_fault files log keys id f (Fault.Other a b) of_f of_g hf hg = absurd hg
one_chunk_fault files log keys id f Fault.NoKey of_f of_g hf hg = absurd hg
one_chunk_fault files log keys id f Fault.Device of_f of_g hf hg = absurd of_g
one_chunk_fault files log keys id f Fault.Memory of_f of_g hf hg = absurd of_g

-- ---- repositories

reads_of : {files : Files} {secret : Secret} {log : LogState} {config : Config} {keys : Keys} → UnlocksFiles files secret log config keys → ReadsLog files
reads_of {log = log} unlocks = (log, unlocks.reads)

-- what a secret unlocks is one
one_unlocked : (bytes : List ℕ) (secret : Secret) (a b : UnlockedText) → unlocked bytes secret ≡ Ok a → unlocked bytes secret ≡ Ok b → a ≡ b
one_unlocked bytes secret a b ha hb = let both : Ok a ≡ Ok b = sym ha ∙ hb in cc

not_unlocked : (bytes : List ℕ) (secret : Secret) (a : UnlockedText) (fault : RepoFault) → unlocked bytes secret ≡ Ok a → unlocked bytes secret ≡ Err fault → ⊥
not_unlocked bytes secret a fault ok err = let both : Ok a ≡ Err fault = sym ok ∙ err in cc

one_unlock_fault : (bytes : List ℕ) (secret : Secret) (f g : RepoFault) → unlocked bytes secret ≡ Err f → unlocked bytes secret ≡ Err g → f ≡ g
one_unlock_fault bytes secret f g hf hg = let both : Err f ≡ Err g = sym hf ∙ hg in cc

one_key : (files : Files) (secret : Secret) (l m : LogState) (c d : Config) (k q : Keys) → UnlocksFiles files secret l c k
    → UnlocksFiles files secret m d q → (l ≡ m) × (c ≡ d) × (k ≡ q)
one_key files secret l m c d k q hc hd =
    let same = one_unlocked (contents_at files Name.Config) secret _ _ hc.unlocks hd.unlocks in
    let key : hc.key ≡ hd.key = ap (λ (u : UnlockedText). u.text.key) same in
    (one_state files l m hc.reads hd.reads, ap (λ (u : UnlockedText). u.config) same, hc.keys_are ∙ ap (λ (o : Opened). o.keys) key ∙ sym hd.keys_are)

-- what is unlocked opens the same object under the zero id
root_there : (files : Files) (secret : Secret) (l m : LogState) (c d : Config) (k q : Keys) (content : List ℕ) → UnlocksFiles files secret l c k
    → UnlocksFiles files secret m d q → HoldsObject files l k zero_id content → HoldsObject files m q zero_id content
root_there files secret l m c d k q content hc hd holds =
    let same = one_key files secret l m c d k q hc hd in
    subst (λ (o : LogState). HoldsObject files o q zero_id content) same.0 (subst (λ (o : Keys). HoldsObject files l o zero_id content) same.2 holds)

one_content_of_root : (files : Files) (secret : Secret) (l m : LogState) (c d : Config) (k q : Keys) (a b : List ℕ) → UnlocksFiles files secret l c k
    → UnlocksFiles files secret m d q → HoldsObject files l k zero_id a → HoldsObject files m q zero_id b → a ≡ b
one_content_of_root files secret l m c d k q a b hc hd ha hb = one_object files m q zero_id a b (root_there files secret l m c d k q a hc hd ha) hb

one_manifest : (files : Files) (secret : Secret) (l m : LogState) (c d : Config) (k q : Keys) (a b : ManifestText) → OpensRepo files secret l c k a
    → OpensRepo files secret m d q b → (l ≡ m) × (c ≡ d) × (k ≡ q) × (a ≡ b)
one_manifest files secret l m c d k q a b ha hb =
    let keys = one_key files secret l m c d k q ha.unlocks hb.unlocks in
    let content = one_content_of_root files secret l m c d k q ha.content hb.content ha.unlocks hb.unlocks ha.object hb.object in
    let both : Ok a ≡ Ok b = sym ha.manifest_is ∙ ap (λ (o : Keys). manifest_of o ha.content) keys.2 ∙ ap (manifest_of q) content ∙ hb.manifest_is in
    let same : a ≡ b = cc in
    (keys.0, keys.1, keys.2, same)

pub one_repo : (files : Files) (secret : Secret) (a b : RepoState) → OpensFilesTo files secret a → OpensFilesTo files secret b → a ≡ b
one_repo files secret a b ha hb =
    let parts = one_manifest files secret a.log b.log a.config b.config a.keys b.keys a.manifest b.manifest ha.opens hb.opens in
    rw (parts.0, parts.1, parts.2, parts.3) refl

-- files fit what they open to
pub opens_fits : (files : Files) (secret : Secret) (repo : RepoState) → OpensFilesTo files secret repo → FitsRepo files repo no_contents
opens_fits files secret repo opens = record {
  log = opened_fits files repo.log opens.opens.unlocks.reads;
  cached = tt;
  noted = tt;
}

-- the answers on a repository
abbrev SomeRepo : Files → Secret → Type 0
SomeRepo files secret = ((repo : RepoState) × OpensFilesTo files secret repo)
    ⊎ ((fault : RepoFault) × IsOfFiles fault × RefusesRepo files secret fault)

manifest_answer : (files : Files) (secret : Secret) (log : LogState) (config : Config) (keys : Keys) (content : List ℕ)
    (answer : Result ManifestText MetaFault)
    → UnlocksFiles files secret log config keys → HoldsObject files log keys zero_id content → manifest_of keys content ≡ answer → SomeRepo files secret
manifest_answer files secret log config keys content (Ok manifest) unlocks holds is =
    inl (
      record { log = log; config = config; keys = keys; manifest = manifest },
      record { opens = record { unlocks = unlocks; content = content; object = holds; manifest_is = is } },
    )
manifest_answer files secret log config keys content (Err fault) unlocks holds is =
    inr (Fault.Manifest fault, tt, record { log = log; config = config; keys = keys; content = content; unlocks = unlocks; object = holds; refused = is })

root_answer : (files : Files) (secret : Secret) (log : LogState) (config : Config) (keys : Keys) → UnlocksFiles files secret log config keys
    → SomeObject files log keys zero_id → SomeRepo files secret
root_answer files secret log config keys unlocks (inl missing) =
    inr (Fault.Missing zero_id, tt, record { log = log; config = config; keys = keys; unlocks = unlocks; object = (refl, missing) })
root_answer files secret log config keys unlocks (inr (inl holds)) = manifest_answer files secret log config keys holds.0
    (manifest_of keys holds.0) unlocks holds.1 refl
root_answer files secret log config keys unlocks (inr (inr breaks)) =
    inr (Fault.Blob zero_id breaks.0, tt, record { log = log; config = config; keys = keys; unlocks = unlocks; object = (refl, breaks.1) })

unlock_answer : (files : Files) (secret : Secret) (log : LogState) (answer : Result UnlockedText RepoFault) → IsStateOf files log
    → unlocked (contents_at files Name.Config) secret ≡ answer → SomeRepo files secret
unlock_answer files secret log (Ok u) read is =
    let keys = u.text.key.keys in
    let unlocks : UnlocksFiles files secret log u.config keys = record
    { reads = read; iterations = u.text.iterations; key = u.text.key; unlocks = is; keys_are = refl } in
    root_answer files secret log u.config keys unlocks (some_object files log keys zero_id (opened_fits files log read))
unlock_answer files secret log (Err fault) read is =
    inr (fault, kind_of_files fault (unlocked_kind (contents_at files Name.Config) secret fault is), key_refused files secret log fault read (λ of_files. is))

log_answer : (files : Files) (secret : Secret) → IsUncommitted files ⊎ (ReadsLog files ⊎ ((s : ℕ) × (at : ℕ) × IsDamaged files s at))
    → SomeRepo files secret
log_answer files secret (inl none) = inr (Fault.NoCommit, tt, none)
log_answer files secret (inr (inl read)) = unlock_answer files secret read.0 (unlocked (contents_at files Name.Config) secret) read.1 refl
log_answer files secret (inr (inr damaged)) = inr (Fault.Damaged damaged.0 damaged.1, tt, damaged.2)

pub some_repo : (files : Files) (secret : Secret) → ((n : ℕ) → IsBytes (segment_bytes files n)) → SomeRepo files secret
some_repo files secret bytes = log_answer files secret (some_state files bytes)

-- a log that reads is committed and isn't damaged
read_committed : (files : Files) → ReadsLog files → IsUncommitted files → ⊥
read_committed files read none = uncommitted_apart files read.0.transaction none read.1.is.is

read_whole : (files : Files) (segment at : ℕ) → ReadsLog files → IsDamaged files segment at → ⊥
read_whole files segment at read damaged = damaged_apart files segment at read.0.transaction read.1.log damaged read.1.is

-- ---- causes

-- why the log doesn't read
abbrev RefusesLog : Files → RepoFault → Type 0
RefusesLog files fault = ((fault ≡ Fault.NoCommit) × IsUncommitted files)
    ⊎ ((s : ℕ) × ((at : ℕ) × (fault ≡ Fault.Damaged s at) × IsDamaged files s at))

-- why the object under the zero id is no manifest
abbrev RefusesZero : Files → LogState → Keys → RepoFault → Type 0
RefusesZero files log keys fault = ((fault ≡ Fault.Missing zero_id) × IsMissing log zero_id)
    ⊎ (((f : BlobFault) × (fault ≡ Fault.Blob zero_id f) × BreaksObject files log keys zero_id f)
    ⊎ ((f : MetaFault) × (fault ≡ Fault.Manifest f) × ((content : List ℕ) × HoldsObject files log keys zero_id content
    × (manifest_of keys content ≡ Err f))))

-- the same, where the key opens
record RefusesBehind (files : Files) (secret : Secret) (fault : RepoFault) : Type 0 where
  log : LogState
  config : Config
  keys : Keys
  unlocks : UnlocksFiles files secret log config keys
  zero : RefusesZero files log keys fault

-- why files are refused, by what is looked at: the log, the key, or the object under the zero id
abbrev Cause : Files → Secret → RepoFault → Type 0
Cause files secret fault = RefusesLog files fault
    ⊎ ((ReadsLog files × (unlocked (contents_at files Name.Config) secret ≡ Err fault)) ⊎ RefusesBehind files secret fault)

cause : (files : Files) (secret : Secret) (fault : RepoFault) → IsOfFiles fault → RefusesRepo files secret fault → Cause files secret fault
cause files secret Fault.NoCommit of_files h = inl (inl (refl, h))
cause files secret (Fault.Damaged s at) of_files h = inl (inr (s, (at, refl, h)))
cause files secret (Fault.Config f) of_files h = inr (inl (h.0, h.1 tt))
cause files secret (Fault.Key f) of_files h = inr (inl (h.0, h.1 tt))
cause files secret (Fault.KeyFile f) of_files h = inr (inl (h.0, h.1 tt))
cause files secret (Fault.Other a b) of_files h = inr (inl (h.0, h.1 tt))
cause files secret Fault.NoKey of_files h = inr (inl (h.0, h.1 tt))
cause files secret (Fault.Missing id) of_files h = inr (inr record
    { log = h.log; config = h.config; keys = h.keys; unlocks = h.unlocks; zero = inl (ap Fault.Missing h.object.0, h.object.1) })
cause files secret (Fault.Blob id f) of_files h = inr (inr record
    { log = h.log; config = h.config; keys = h.keys; unlocks = h.unlocks; zero = inr (inl (f, ap (λ (n : List ℕ). Fault.Blob n f) h.object.0, h.object.1)) })
cause files secret (Fault.Manifest f) of_files h = inr (inr record
    { log = h.log; config = h.config; keys = h.keys; unlocks = h.unlocks; zero = inr (inr (f, refl, (h.content, h.object, h.refused))) })
cause files secret (Fault.Archive id f) of_files h = absurd h
cause files secret (Fault.Item id f) of_files h = absurd h
cause files secret (Fault.Size id) of_files h = absurd h
cause files secret Fault.Device of_files h = absurd of_files
cause files secret Fault.Memory of_files h = absurd of_files

-- a log that is refused doesn't read
log_apart : (files : Files) (fault : RepoFault) → RefusesLog files fault → ReadsLog files → ⊥
log_apart files fault (inl none) read = read_committed files read none.1
log_apart files fault (inr damaged) read = read_whole files damaged.0 damaged.1.0 read damaged.1.2

one_log_fault : (files : Files) (f g : RepoFault) → RefusesLog files f → RefusesLog files g → f ≡ g
one_log_fault files f g (inl a) (inl b) = a.0 ∙ sym b.0
one_log_fault files f g (inl a) (inr b) = absurd (uncommitted_apart files b.1.2.transaction a.1 b.1.2.is)
one_log_fault files f g (inr a) (inl b) = absurd (uncommitted_apart files a.1.2.transaction b.1 a.1.2.is)
one_log_fault files f g (inr a) (inr b) =
    let at = one_place files a.0 b.0 a.1.0 b.1.0 a.1.2 b.1.2 in
    let same : Fault.Damaged a.0 a.1.0 ≡ Fault.Damaged b.0 b.1.0 = rw (at.0, at.1) refl in
    a.1.1 ∙ same ∙ sym b.1.1

-- two contents under the zero id are one
one_read : (files : Files) (log : LogState) (keys : Keys) (a b : List ℕ) (answer other : Result ManifestText MetaFault) → HoldsObject files log keys zero_id a
    → HoldsObject files log keys zero_id b → manifest_of keys a ≡ answer → manifest_of keys b ≡ other → answer ≡ other
one_read files log keys a b answer other ha hb is his = sym is ∙ ap (manifest_of keys) (one_object files log keys zero_id a b ha hb) ∙ his

zero_apart : (files : Files) (log : LogState) (keys : Keys) (content : List ℕ) (manifest : ManifestText) (fault : RepoFault)
    → HoldsObject files log keys zero_id content → manifest_of keys content ≡ Ok manifest → RefusesZero files log keys fault → ⊥
zero_apart files log keys content manifest fault holds is (inl a) = not_missing files log zero_id holds.blob holds.has a.1
zero_apart files log keys content manifest fault holds is (inr (inl a)) = not_broken files log keys zero_id content a.0 holds a.2
zero_apart files log keys content manifest fault holds is (inr (inr a)) =
    let both : Ok manifest ≡ Err a.0 = one_read files log keys content a.2.0 (Ok manifest) (Err a.0) holds a.2.1 is a.2.2 in
    cc

one_zero_fault : (files : Files) (log : LogState) (keys : Keys) (f g : RepoFault) → RefusesZero files log keys f → RefusesZero files log keys g → f ≡ g
one_zero_fault files log keys f g (inl a) (inl b) = a.0 ∙ sym b.0
one_zero_fault files log keys f g (inl a) (inr (inl b)) = absurd (not_missing files log zero_id b.2.blob b.2.has a.1)
one_zero_fault files log keys f g (inl a) (inr (inr b)) = absurd (not_missing files log zero_id b.2.1.blob b.2.1.has a.1)
one_zero_fault files log keys f g (inr (inl a)) (inl b) = absurd (not_missing files log zero_id a.2.blob a.2.has b.1)
one_zero_fault files log keys f g (inr (inl a)) (inr (inl b)) =
    a.1 ∙ ap (Fault.Blob zero_id) (one_break files log keys zero_id a.0 b.0 a.2 b.2) ∙ sym b.1
one_zero_fault files log keys f g (inr (inl a)) (inr (inr b)) = absurd (not_broken files log keys zero_id b.2.0 a.0 b.2.1 a.2)
one_zero_fault files log keys f g (inr (inr a)) (inl b) = absurd (not_missing files log zero_id a.2.1.blob a.2.1.has b.1)
one_zero_fault files log keys f g (inr (inr a)) (inr (inl b)) = absurd (not_broken files log keys zero_id a.2.0 b.0 a.2.1 b.2)
one_zero_fault files log keys f g (inr (inr a)) (inr (inr b)) =
    let both : Err a.0 ≡ Err b.0 = one_read files log keys a.2.0 b.2.0 (Err a.0) (Err b.0) a.2.1 b.2.1 a.2.2 b.2.2 in
    let same : a.0 ≡ b.0 = cc in
    a.1 ∙ ap Fault.Manifest same ∙ sym b.1

-- what is refused behind the key is refused under each log and keys that the secret unlocks
behind_at : (files : Files) (secret : Secret) (log : LogState) (config : Config) (keys : Keys) (fault : RepoFault) → UnlocksFiles files secret log config keys
    → RefusesBehind files secret fault → RefusesZero files log keys fault
behind_at files secret log config keys fault unlocks h =
    let same = one_key files secret h.log log h.config config h.keys keys h.unlocks unlocks in
    subst (λ (o : LogState). RefusesZero files o keys fault) same.0 (subst (λ (o : Keys). RefusesZero files h.log o fault) same.2 h.zero)

apart_by : (files : Files) (secret : Secret) (repo : RepoState) (fault : RepoFault) → OpensFilesTo files secret repo → Cause files secret fault → ⊥
apart_by files secret repo fault opens (inl log) = log_apart files fault log (reads_of opens.opens.unlocks)
apart_by files secret repo fault opens (inr (inl key)) = not_unlocked (contents_at files Name.Config) secret _ fault opens.opens.unlocks.unlocks key.1
apart_by files secret repo fault opens (inr (inr behind)) =
    zero_apart files repo.log repo.keys opens.opens.content repo.manifest fault opens.opens.object opens.opens.manifest_is
    (behind_at files secret repo.log repo.config repo.keys fault opens.opens.unlocks behind)

pub repo_apart : (files : Files) (secret : Secret) (repo : RepoState) (fault : RepoFault) → OpensFilesTo files secret repo → IsOfFiles fault
    → RefusesRepo files secret fault → ⊥
repo_apart files secret repo fault opens of_files refuses = apart_by files secret repo fault opens (cause files secret fault of_files refuses)

one_cause : (files : Files) (secret : Secret) (f g : RepoFault) → Cause files secret f → Cause files secret g → f ≡ g
one_cause files secret f g (inl a) (inl b) = one_log_fault files f g a b
one_cause files secret f g (inl a) (inr (inl b)) = absurd (log_apart files f a b.0)
one_cause files secret f g (inl a) (inr (inr b)) = absurd (log_apart files f a (reads_of b.unlocks))
one_cause files secret f g (inr (inl a)) (inl b) = absurd (log_apart files g b a.0)
one_cause files secret f g (inr (inl a)) (inr (inl b)) = one_unlock_fault (contents_at files Name.Config) secret f g a.1 b.1
one_cause files secret f g (inr (inl a)) (inr (inr b)) = absurd (not_unlocked (contents_at files Name.Config) secret _ f b.unlocks.unlocks a.1)
one_cause files secret f g (inr (inr a)) (inl b) = absurd (log_apart files g b (reads_of a.unlocks))
one_cause files secret f g (inr (inr a)) (inr (inl b)) = absurd (not_unlocked (contents_at files Name.Config) secret _ g a.unlocks.unlocks b.1)
one_cause files secret f g (inr (inr a)) (inr (inr b)) =
    one_zero_fault files b.log b.keys f g (behind_at files secret b.log b.config b.keys f b.unlocks a) b.zero

-- files are refused for one cause
pub one_repo_fault : (files : Files) (secret : Secret) (f g : RepoFault) → IsOfFiles f → IsOfFiles g → RefusesRepo files secret f
    → RefusesRepo files secret g → f ≡ g
one_repo_fault files secret f g of_f of_g hf hg = one_cause files secret f g (cause files secret f of_f hf) (cause files secret g of_g hg)
