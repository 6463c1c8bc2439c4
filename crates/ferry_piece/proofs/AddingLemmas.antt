-- Lemmas on specs/Adding.antt: which of the contents that were added stopped a body, and of which faults none did.
use Rattle.std.proofs.Common.{◌≡◌, ◌⊎◌, inl, inr, ℕ, Bool, true, false, List, [], ◌∷◌, ◌++◌, Option, Some, None, Result, Ok, Err, IfErr, IfSome, OnOk}
use Rattle.std.proofs.Common.{refl, sym, ◌∙◌, ap, subst}
use Rattle.std.proofs.lemmas.List.{append_assoc}
use Rattle.std.proofs.lemmas.Option.{IfSome_then}
use Rattle.ferry_blob.specs.Blob.{content_id}
use Rattle.ferry_blob.specs.declared.fault.BlobFault.{BlobFault}
use Rattle.ferry_disk.proofs.MomentLemmas.{between_map, between_then}
use Rattle.ferry_disk.specs.Act.{History}
use Rattle.ferry_disk.specs.Device.{Told}
use Rattle.ferry_disk.specs.Faults.{failed_told}
use Rattle.ferry_disk.specs.Files.{Files}
use Rattle.ferry_disk.specs.Moments.{Between}
use Rattle.ferry_mac.specs.declared.keys.Keys.{Keys}
use Rattle.ferry_repo.specs.Opening.{repo_view}
use Rattle.ferry_repo.specs.declared.fault.RepoFault.{RepoFault}
use Rattle.ferry_repo.specs.declared.fault.RepoFault.TheVariants as Repos
use Rattle.ferry_store.proofs.StepLemmas.{here_each}
use Rattle.ferry_store.specs.Adding.{RefusesAdd}
use Rattle.ferry_store.specs.Commit.{IsUnspentBy, ReadsStore, RefusesManifestOf}
use Rattle.ferry_store.specs.Fault.{spends}
use Rattle.ferry_store.specs.Standing.{entries_of}
use Rattle.ferry_store.specs.State.{IsUnderWay, RefusesCommit}
use Rattle.ferry_store.specs.Store.{IsUnspent}
use Rattle.ferry_store.specs.declared.fault.StoreRefusal.{StoreRefusal}
use Rattle.ferry_store.specs.declared.fault.StoreRefusal.TheVariants as Stores
use Rattle.ferry_store.specs.declared.store.Store.{Store}
use Rattle.ferry_write.specs.Script.{AllDone}
use Rattle.ferry_write.specs.declared.session.Session.{Session}
use Rattle.ferry_piece.proofs.GatherLemmas.{gathers_here}
use Rattle.ferry_piece.proofs.FaultLemmas.{target_is}
use Rattle.ferry_piece.proofs.PutsLemmas.{adds_at, adds_then, allows_within, first_all, first_at, first_none, first_then}
use Rattle.ferry_piece.specs.Adding.{HoldsRefused, HoldsUntil, IsNoChunk, IsOfLast, SparesStore, StopsLast}
use Rattle.ferry_piece.specs.Fault.{IsOfSource, source_fault, target_fault}
use Rattle.ferry_piece.specs.Gather.{Gathers}
use Rattle.ferry_piece.specs.Puts.{Addition, AddsAll, AddsFirst, Border, Within, border_behind}
use Rattle.ferry_piece.specs.Stops.{is_target}
use Rattle.ferry_piece.specs.declared.fault.CarryFault.{CarryFault}
use Rattle.ferry_piece.specs.declared.fault.CarryFault.TheVariants as Carry

-- ---- faults

-- A fault is none of a chunk, and says nothing of what was added.
abbrev pub IsApart : CarryFault → Type 0
IsApart fault = IsNoChunk fault × ((keys : Keys) (added : List Addition) → IsOfLast keys added fault)

-- A fault is that of a chunk.
abbrev pub IsOfChunk : CarryFault → Type 0
IsOfChunk fault = (id : List ℕ) × ((f : BlobFault) × (fault ≡ Carry.Target (Stores.Repo (Repos.Blob id f))))

-- each fault is one of the two
pub chunk_or : (fault : CarryFault) → IsApart fault ⊎ IsOfChunk fault
chunk_or (Carry.Source fault) = inl (tt, λ keys added. tt)
chunk_or (Carry.Target (Stores.Repo Repos.NoCommit)) = inl (tt, λ keys added. tt)
chunk_or (Carry.Target (Stores.Repo (Repos.Damaged segment at))) = inl (tt, λ keys added. tt)
chunk_or (Carry.Target (Stores.Repo (Repos.Config f))) = inl (tt, λ keys added. tt)
chunk_or (Carry.Target (Stores.Repo (Repos.Key f))) = inl (tt, λ keys added. tt)
chunk_or (Carry.Target (Stores.Repo (Repos.Missing id))) = inl (tt, λ keys added. tt)
chunk_or (Carry.Target (Stores.Repo (Repos.Blob id f))) = inr (id, (f, refl))
chunk_or (Carry.Target (Stores.Repo (Repos.Manifest f))) = inl (tt, λ keys added. tt)
chunk_or (Carry.Target (Stores.Repo (Repos.Archive id f))) = inl (tt, λ keys added. tt)
chunk_or (Carry.Target (Stores.Repo (Repos.Item id f))) = inl (tt, λ keys added. tt)
chunk_or (Carry.Target (Stores.Repo (Repos.Size id))) = inl (tt, λ keys added. tt)
chunk_or (Carry.Target (Stores.Repo (Repos.KeyFile f))) = inl (tt, λ keys added. tt)
chunk_or (Carry.Target (Stores.Repo (Repos.Other file config))) = inl (tt, λ keys added. tt)
chunk_or (Carry.Target (Stores.Repo Repos.NoKey)) = inl (tt, λ keys added. tt)
chunk_or (Carry.Target (Stores.Repo Repos.Device)) = inl (tt, λ keys added. tt)
chunk_or (Carry.Target (Stores.Repo Repos.Memory)) = inl (tt, λ keys added. tt)
chunk_or (Carry.Target (Stores.Write fault)) = inl (tt, λ keys added. tt)
chunk_or (Carry.Target (Stores.Nonce fault)) = inl (tt, λ keys added. tt)
chunk_or (Carry.Target Stores.Committed) = inl (tt, λ keys added. tt)
chunk_or (Carry.Target Stores.TooLarge) = inl (tt, λ keys added. tt)
chunk_or (Carry.Target Stores.Entropy) = inl (tt, λ keys added. tt)
chunk_or (Carry.Target Stores.Memory) = inl (tt, λ keys added. tt)
chunk_or (Carry.Taken name) = inl (tt, λ keys added. tt)
chunk_or (Carry.NotFound name) = inl (tt, λ keys added. tt)
chunk_or Carry.Pieces = inl (tt, λ keys added. tt)
chunk_or Carry.Memory = inl (tt, λ keys added. tt)
chunk_or Carry.Record = inl (tt, λ keys added. tt)

-- a fault of no chunk says nothing of what was added
pub unbroken_last : (keys : Keys) (added : List Addition) (fault : CarryFault) → IsNoChunk fault → IsOfLast keys added fault
unbroken_last keys added fault none = elim (chunk_or fault) [
  | inl apart ↦ apart.1 keys added
  | inr broken ↦ let never : ⊥ = subst IsNoChunk broken.1.1 none in absurd never
]

-- the last of some is the last behind others
pub last_behind : (keys : Keys) (some more : List Addition) (fault : CarryFault) → IsOfLast keys more fault → IsOfLast keys (some ++ more) fault
last_behind keys some more fault last = elim (chunk_or fault) [
  | inl apart ↦ apart.1 keys (some ++ more)
  | inr broken ↦
      let named = subst (IsOfLast keys more) broken.1.1 last in
      subst (IsOfLast keys (some ++ more)) (sym broken.1.1) (
        some ++ named.0,
        (
          named.1.0,
          (
            ap (λ (l : List Addition). some ++ l) named.1.1.0 ∙ sym (append_assoc some named.0 (named.1.0 ∷ [])),
            named.1.1.1,
          ),
        ),
      )
]

-- a source that is refused is no chunk of the target
pub source_unbroken : (fault : RepoFault) → IsNoChunk (source_fault fault)
source_unbroken Repos.NoCommit = tt
source_unbroken (Repos.Damaged segment at) = tt
source_unbroken (Repos.Config f) = tt
source_unbroken (Repos.Key f) = tt
source_unbroken (Repos.Missing id) = tt
source_unbroken (Repos.Blob id f) = tt
source_unbroken (Repos.Manifest f) = tt
source_unbroken (Repos.Archive id f) = tt
source_unbroken (Repos.Item id f) = tt
source_unbroken (Repos.Size id) = tt
source_unbroken (Repos.KeyFile f) = tt
source_unbroken (Repos.Other file config) = tt
source_unbroken Repos.NoKey = tt
source_unbroken Repos.Device = tt
source_unbroken Repos.Memory = tt

-- a content that isn't added is the last
pub adds_last : (store : Store) (content : List ℕ) (one : Addition) (files : Files) (refusal : StoreRefusal) → one.content ≡ content
    → RefusesAdd store content files refusal → IsOfLast (repo_view store.repo).keys (one ∷ []) (target_fault refusal)
adds_last store content one files (Stores.Repo Repos.NoCommit) is refused = tt
adds_last store content one files (Stores.Repo (Repos.Damaged segment at)) is refused = tt
adds_last store content one files (Stores.Repo (Repos.Config f)) is refused = tt
adds_last store content one files (Stores.Repo (Repos.Key f)) is refused = tt
adds_last store content one files (Stores.Repo (Repos.Missing id)) is refused = tt
adds_last store content one files (Stores.Repo (Repos.Blob id f)) is refused =
    ([], (one, (refl, refused.1.0 ∙ ap (content_id (repo_view store.repo).keys) (sym is))))
adds_last store content one files (Stores.Repo (Repos.Manifest f)) is refused = tt
adds_last store content one files (Stores.Repo (Repos.Archive id f)) is refused = tt
adds_last store content one files (Stores.Repo (Repos.Item id f)) is refused = tt
adds_last store content one files (Stores.Repo (Repos.Size id)) is refused = tt
adds_last store content one files (Stores.Repo (Repos.KeyFile f)) is refused = tt
adds_last store content one files (Stores.Repo (Repos.Other file config)) is refused = tt
adds_last store content one files (Stores.Repo Repos.NoKey) is refused = tt
adds_last store content one files (Stores.Repo Repos.Device) is refused = tt
adds_last store content one files (Stores.Repo Repos.Memory) is refused = tt
adds_last store content one files (Stores.Write fault) is refused = tt
adds_last store content one files (Stores.Nonce fault) is refused = tt
adds_last store content one files Stores.Committed is refused = tt
adds_last store content one files Stores.TooLarge is refused = tt
adds_last store content one files Stores.Entropy is refused = tt
adds_last store content one files Stores.Memory is refused = tt

-- a manifest that isn't committed is no chunk
pub manifest_unbroken : (store : Store) (size : ℕ) (refusal : StoreRefusal) → RefusesManifestOf store.counter size refusal
    → IsNoChunk (target_fault refusal)
manifest_unbroken store size (Stores.Repo fault) refused = absurd refused
manifest_unbroken store size (Stores.Write fault) refused = tt
manifest_unbroken store size (Stores.Nonce fault) refused = tt
manifest_unbroken store size Stores.Committed refused = tt
manifest_unbroken store size Stores.TooLarge refused = tt
manifest_unbroken store size Stores.Entropy refused = tt
manifest_unbroken store size Stores.Memory refused = tt

-- ---- bodies

-- what is so where a device tells its acts behind a body that is `Ok` is so where it told them before
pub told_before : (X : Type 0) (a b : Option Told) → failed_told b ≡ failed_told a → IfSome b (λ _. X) → IfSome a (λ _. X)
told_before X None b ends known = tt
told_before X (Some told) None ends known = absurd (let never : ⊥ = cc in never)
told_before X (Some told) (Some now) ends known = known

-- of a fault of no chunk
pub stops_unbroken : (a : Option Told) (keys : Keys) (added : List Addition) (fault : CarryFault) → IsNoChunk fault
    → IfSome a (λ _. IsOfLast keys added fault)
stops_unbroken None keys added fault none = tt
stops_unbroken (Some told) keys added fault none = unbroken_last keys added fault none

-- behind contents that were added under the same keys
pub stops_then : {T : Type 0} (a b : Option Told) (keys other : Keys) (some more : List Addition) (result : Result T CarryFault)
    → failed_told b ≡ failed_told a → other ≡ keys → StopsLast b other more result → StopsLast a keys (some ++ more) result
stops_then {T} a b keys other some more (Ok x) ends same stops = tt
stops_then {T} a b keys other some more (Err fault) ends same stops =
    let last : IfSome b (λ _. IsOfLast keys more fault) = subst (λ (k : Keys). IfSome b (λ _. IsOfLast k more fault)) same stops in
    IfSome_then a (told_before (IsOfLast keys more fault) a b ends last) (λ _ is. last_behind keys some more fault is)

-- ---- where the source refused

-- a fault of the target is none of the source
pub target_apart : (fault : CarryFault) → is_target fault ≡ true → IsOfSource fault → ⊥
target_apart (Carry.Source fault) target of = let never : ⊥ = cc in never
target_apart (Carry.Target refusal) target of = of
target_apart (Carry.Taken name) target of = of
target_apart (Carry.NotFound name) target of = of
target_apart Carry.Pieces target of = of
target_apart Carry.Memory target of = of
target_apart Carry.Record target of = of

-- where each refusal is the target's, each statement on one of the source holds
pub none_refused : {T : Type 0} (X : Type 0) (result : Result T CarryFault) → IfErr result (λ fault. is_target fault ≡ true)
    → IfErr result (λ fault. IsOfSource fault → X)
none_refused {T} X (Ok x) target = tt
none_refused {T} X (Err fault) target = λ of. absurd (target_apart fault target of)

-- ---- what a refusal left

-- A store fits in which all of these were added.
abbrev pub HoldsAll : Border → ℕ → Store → List Addition → Store → History → History → Type 0
HoldsAll at most store added now h g = HoldsUntil false at most store added now h g

-- what was added, all of it, was added until a refusal
pub holds_until : (target : Bool) (at : Border) (most : ℕ) (store now : Store) (added : List Addition) (h g : History) → HoldsAll at most store added now h g
    → HoldsUntil target at most store added now h g
holds_until true at most store now added h g all = λ counts fits.
    let end = all counts fits in (
      end.0.written,
      (
        end.0.under_way,
        first_all at (repo_view store.repo).keys most (entries_of fits.written) added (entries_of end.0.written) end.1,
      ),
    )
holds_until false at most store now added h g all = all

pub held_until : (target : Bool) (at : Border) (most : ℕ) (store now : Store) (added : List Addition) (a b : Option Told)
    → Between a b (HoldsAll at most store added now) → Between a b (HoldsUntil target at most store added now)
held_until target at most store now added a b all =
    between_map a b (HoldsAll at most store added now) (HoldsUntil target at most store added now)
    (λ h g e. holds_until target at most store now added h g e) all

-- where each refusal spends the store nothing is said
pub held_spent : {T : Type 0} (at : Border) (most : ℕ) (store now : Store) (added : List Addition) (a b : Option Told) (result : Result T CarryFault)
    → IfErr result (λ fault. SparesStore fault → ⊥) → HoldsRefused at most store added now a b result
held_spent {T} at most store now added a b (Ok x) spent = tt
held_spent {T} at most store now added a b (Err fault) spent = λ spares. absurd (spent spares)

-- a refusal of the store that doesn't spend it
pub spares_unspent : (refusal : StoreRefusal) → SparesStore (target_fault refusal) → spends refusal ≡ false
spares_unspent (Stores.Repo fault) spares = refl
spares_unspent (Stores.Write fault) spares = spares
spares_unspent (Stores.Nonce fault) spares = spares
spares_unspent Stores.Committed spares = refl
spares_unspent Stores.TooLarge spares = refl
spares_unspent Stores.Entropy spares = refl
spares_unspent Stores.Memory spares = absurd spares

-- pieces that aren't committed spend it
pub commits_spent : (session : Session) (refusal : StoreRefusal) → RefusesCommit session refusal → SparesStore (target_fault refusal) → ⊥
commits_spent session (Stores.Repo fault) refused spares = absurd refused
commits_spent session (Stores.Write fault) refused spares = let never : ⊥ = cc in never
commits_spent session (Stores.Nonce fault) refused spares = absurd refused
commits_spent session Stores.Committed refused spares = absurd refused
commits_spent session Stores.TooLarge refused spares = absurd refused
commits_spent session Stores.Entropy refused spares = absurd refused
commits_spent session Stores.Memory refused spares = spares

-- and a fault that spends a store is none of a chunk
pub spent_unbroken : (fault : CarryFault) → (SparesStore fault → ⊥) → IsNoChunk fault
spent_unbroken fault spent = elim (chunk_or fault) [
  | inl apart ↦ apart.0
  | inr broken ↦ absurd (spent (subst SparesStore (sym broken.1.1) refl))
]

-- a store that was only read is under way as it was
pub reads_until : (at : Border) (most : ℕ) (store now : Store) (added : List Addition) (h g : History) → ReadsStore store now → g ≡ h
    → HoldsUntil true at most store added now h g
reads_until at most store now added h g reads same counts fits = (
  fits.written,
  (
    subst (λ (k : History). IsUnderWay counts now.session now.counter fits.written k) (sym same)
        (subst (λ (s : Store). IsUnderWay counts s.session s.counter fits.written h) (sym reads.rest) fits.under_way),
    first_none at (repo_view store.repo).keys most (entries_of fits.written) added,
  ),
)

-- and isn't spent where it wasn't
pub read_unspent : (store now : Store) → ReadsStore store now → IsUnspent store → IsUnspent now
read_unspent store now reads unspent = record {
  session = ap (λ (s : Store). s.session.spent) reads.rest ∙ unspent.session;
  counter = ap (λ (s : Store). s.counter.spent) reads.rest ∙ unspent.counter;
  itself = ap (λ (s : Store). s.spent) reads.rest ∙ unspent.itself;
}

-- of these nothing was added where the store refused the first of them
pub held_unspent : (T : Type 0) (at : Border) (most : ℕ) (store now : Store) (added : List Addition) (a b : Option Told) (refusal : StoreRefusal)
    → IsUnspentBy store now a b refusal → HoldsRefused {T = T} at most store added now a b (Err (target_fault refusal))
held_unspent T at most store now added a b refusal kept = λ spares.
    let left = kept (spares_unspent refusal spares) in (
      read_unspent store now left.0,
      subst (λ (target : Bool). Between a b (HoldsUntil target at most store added now)) (sym (target_is refusal))
          (between_map a b (λ h g. g ≡ h) (HoldsUntil true at most store added now) (λ h g e. reads_until at most store now added h g left.0 e) left.1),
    )

-- what was gathered was added
pub gathers_all : (most : ℕ) (store now : Store) (added : List Addition) (h g : History) → Gathers most store added now h g
    → HoldsAll Within most store added now h g
gathers_all most store now added h g gathers counts fits = let all = gathers counts fits in (all.fits_now, all.puts)

-- what was gathered before a fault
pub held_gathered : (most : ℕ) (store now : Store) (added : List Addition) (a b : Option Told)
    → Between a b (λ h g. AllDone h g × Gathers most store added now h g) → Between a b (HoldsAll Within most store added now)
held_gathered most store now added a b gathers =
    between_map a b (λ h g. AllDone h g × Gathers most store added now h g) (HoldsAll Within most store added now)
    (λ h g e. gathers_all most store now added h g e.1) gathers

-- where nothing was done
pub held_here : (most : ℕ) (store : Store) (a : Option Told) → Between a a (HoldsAll Within most store [] store)
held_here most store a = here_each (HoldsAll Within most store [] store) a (λ h. gathers_all most store store [] h h (gathers_here most store h))

-- contents behind contents
all_then : (most : ℕ) (store middle now : Store) (some more : List Addition) (h g i : History) → (repo_view middle.repo).keys ≡ (repo_view store.repo).keys
    → HoldsAll Within most store some middle h g → HoldsAll Within most middle more now g i → HoldsAll Within most store (some ++ more) now h i
all_then most store middle now some more h g i same p q counts fits =
    let keys = (repo_view store.repo).keys in
    let behind = border_behind Within some in
    let first = p counts fits in
    let second = q counts first.0 in
    let from = entries_of first.0.written in
    let end = entries_of second.0.written in (
      second.0,
      adds_then Within keys most (entries_of fits.written) from end some more first.1
          (adds_at Within behind keys most from more end (allows_within behind from) (subst (λ (k : Keys). AddsAll Within k most from more end) same second.1)),
    )

-- contents until a refusal, behind contents
until_then : (target : Bool) (most : ℕ) (store middle now : Store) (some more : List Addition) (h g i : History)
    → (repo_view middle.repo).keys ≡ (repo_view store.repo).keys → HoldsAll Within most store some middle h g
    → HoldsUntil target Within most middle more now g i → HoldsUntil target Within most store (some ++ more) now h i
until_then true most store middle now some more h g i same p q = λ counts fits.
    let keys = (repo_view store.repo).keys in
    let behind = border_behind Within some in
    let first = p counts fits in
    let second = q counts first.0 in
    let from = entries_of first.0.written in
    let end = entries_of second.0 in (
      second.0,
      (
        second.1.0,
        first_then Within keys most (entries_of fits.written) from end some more first.1
            (first_at Within behind keys most from more end (allows_within behind from)
            (subst (λ (k : Keys). AddsFirst Within k most from more end) same second.1.1)),
      ),
    )
until_then false most store middle now some more h g i same p q = all_then most store middle now some more h g i same p q

pub held_then : {T : Type 0} (most : ℕ) (store middle now : Store) (some more : List Addition) (a b c : Option Told) (result : Result T CarryFault)
    → (repo_view middle.repo).keys ≡ (repo_view store.repo).keys → (IsUnspent store → IsUnspent middle)
    → Between a b (λ h g. AllDone h g × Gathers most store some middle h g)
    → HoldsRefused Within most middle more now b c result → HoldsRefused Within most store (some ++ more) now a c result
held_then {T} most store middle now some more a b c (Ok x) same unspent gathers held = tt
held_then {T} most store middle now some more a b c (Err fault) same unspent gathers held = λ spares.
    let target = is_target fault in
    let left = held spares in (
      λ was. left.0 (unspent was),
      between_then a b c (HoldsAll Within most store some middle) (HoldsUntil target Within most middle more now)
          (HoldsUntil target Within most store (some ++ more) now)
          (λ h g i e f. until_then target most store middle now some more h g i same e f) (held_gathered most store middle some a b gathers) left.1,
    )

-- what isn't spent by a body isn't spent behind one that didn't spend it
pub unspent_then : {T : Type 0} (store middle now : Store) (result : Result T CarryFault) → (IsUnspent store → IsUnspent middle)
    → OnOk result (IsUnspent middle → IsUnspent now) → OnOk result (IsUnspent store → IsUnspent now)
unspent_then {T} store middle now (Ok x) first second = λ was. second (first was)
unspent_then {T} store middle now (Err fault) first second = tt
