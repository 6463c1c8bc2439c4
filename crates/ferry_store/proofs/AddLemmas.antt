-- A store fits with a content added.
use Rattle.std.proofs.Common.{◌≡◌, ◌≢◌, ◌⊎◌, inl, inr, ◌<◌, ◌-◌, ◌^◌, min, ℕ, Bool, true, false, cond, List, [], ◌∷◌, length, Option, Some, None}
use Rattle.std.proofs.Common.{Ok, IfSome, IsSome, refl, sym, ◌∙◌, ap, subst, arith}
use Rattle.std.proofs.lemmas.List.{length-append}
use Rattle.std.specs.BTreeSet.{contains, Updates}
use Rattle.std.specs.Cmp.Lexicographic.{nat_list_cmp_total}
use Rattle.std.specs.FinMap.{get, get-insert, nat_cmp-IsAntisymmetric, slice_cmp-IsAntisymmetric}
use Rattle.std.proofs.Common.{BTreeSet}
use Rattle.std.specs.Ordering.{eq_by_cmp, is_eq}
use Rattle.std.specs.declared.cmp.Ordering.{Ordering}
use Rattle.std.specs.declared.cmp.Ordering.TheVariants.{Less, Equal, Greater}
use Rattle.ferry_base.specs.Limits.{zero_id}
use Rattle.ferry_blob.specs.Blob.{OpensTo}
use Rattle.ferry_disk.specs.Act.{History, files_now}
use Rattle.ferry_disk.specs.Device.{Told, KeepsTold, told_files}
use Rattle.ferry_disk.specs.Files.{Files, segment_bytes}
use Rattle.ferry_disk.proofs.FaultLemmas.{keeps_end}
use Rattle.ferry_disk.proofs.MomentLemmas.{between_map}
use Rattle.ferry_disk.specs.Moments.{Between}
use Rattle.ferry_log.proofs.FitsLemmas.{fits_same}
use Rattle.ferry_log.specs.Live.{key_cmp}
use Rattle.ferry_log.specs.State.{LogState, FitsFiles, IsBlobAt, with_learnt}
use Rattle.ferry_log.specs.declared.place.Place.{Place}
use Rattle.ferry_nonce.specs.declared.counter.Counter.{Counter}
use Rattle.ferry_repo.proofs.KeptLemmas.{chunk_kept, lies_more, repo_kept}
use Rattle.ferry_repo.proofs.LearnLemmas.{chunk_learnt, learn_fits, learn_keeps}
use Rattle.ferry_repo.specs.Cached.{Contents}
use Rattle.ferry_repo.specs.Objects.{HoldsChunk, IsMissing, KeepsBlobs}
use Rattle.ferry_repo.specs.Opening.{FitsRepo, RepoState, cached_in, repo_view}
use Rattle.ferry_repo.specs.declared.repo.Repo.{Repo}
use Rattle.ferry_segment.specs.Entry.{LogEntry, PutEntry}
use Rattle.ferry_store.proofs.LearntLemmas.{AllLearnt, learnt_here, learnt_put}
use Rattle.ferry_store.proofs.PutLemmas.{keeps_here}
use Rattle.ferry_store.proofs.StandingLemmas.{entries_put, holds_put, keeps_more, manifest_learnt, missing_unlive}
use Rattle.ferry_store.proofs.StepLemmas.{Reads, did_as, known_then, same_told}
use Rattle.ferry_store.specs.Adding.{Adds, entry_of, id_under, pending_after}
use Rattle.ferry_store.specs.Content.{HasPut, IsNew, IsThere, Learns, blob_for, with_place}
use Rattle.ferry_store.specs.Fault.{depot_failed}
use Rattle.ferry_store.specs.Standing.{CommitsManifest, HoldsLive, entries_of}
use Rattle.ferry_store.specs.State.{Did, HasPlaced, KeepsSound, Written, with_entry}
use Rattle.ferry_store.specs.Store.{IsKnown, IsOfChunk, StoreFits}
use Rattle.ferry_store.specs.Types.{ReadsSettings}
use Rattle.ferry_store.specs.declared.content.Added.{Added}
use Rattle.ferry_store.specs.declared.fault.StoreRefusal.{StoreRefusal}
use Rattle.ferry_store.specs.declared.store.Store.{Store}
use Rattle.ferry_write.proofs.StandLemmas.{all-append}
use Rattle.ferry_write.specs.Script.{AllDone}
use Rattle.ferry_write.specs.Room.{behind}
use Rattle.ferry_write.specs.Session.{Stays}
use Rattle.ferry_write.specs.declared.session.Session.{Session}

-- ---- files in which segments grow

-- a blob lies where it lay
pub blobs_stay : (after : Option ℕ) (log : LogState) (h g : History) → Stays after h g → KeepsBlobs (files_now h) log (files_now g) log
blobs_stay after log h g stays id blob has =
    let rest = stays.longer has.place.segment in
    record {
      place = has.place;
      placed = has.placed;
      lies = subst (λ (bytes : List ℕ). IsBlobAt bytes has.place.at has.place.size blob) (sym rest.1)
          (lies_more (segment_bytes (files_now h) has.place.segment) rest.0 has.place.at has.place.size blob has.lies);
    }

-- a log that ends below the segments that grow fits still
pub log_stays : (after : Option ℕ) (log : LogState) (h g : History) → log.transaction < behind after → Stays after h g → FitsFiles (files_now h) log
    → FitsFiles (files_now g) log
log_stays after log h g below stays fits =
    fits_same (files_now h) (files_now g) log (λ n small. sym (stays.below n (omega (arith, below, small))))
    (λ key place at.
    let rest = stays.longer place.segment in
    let size = ap (λ (bytes : List ℕ). length bytes) rest.1 in
    omega (arith, size, length-append (segment_bytes (files_now h) place.segment) rest.0))
    fits

pub repo_stays : (after : Option ℕ) (repo : RepoState) (cached : Contents) (h g : History) → repo.log.transaction < behind after → Stays after h g
    → FitsRepo (files_now h) repo cached → FitsRepo (files_now g) repo cached
repo_stays after repo cached h g below stays fits =
    repo_kept (files_now h) (files_now g) repo cached repo.log (log_stays after repo.log h g below stays fits.log) (blobs_stay after repo.log h g stays) fits

pub there_kept : (f g : Files) (repo now : RepoState) (id : List ℕ) → now.keys ≡ repo.keys → KeepsBlobs f repo.log g now.log → IsThere f repo id
    → IsThere g now id
there_kept f g repo now id keys keeps there =
    (there.0, subst (λ k. HoldsChunk g now.log k id there.0) (sym keys) (chunk_kept f g repo.log now.log repo.keys id there.0 keeps there.1))

-- ---- nothing is done

pub same_added : (store : Store) (content id : List ℕ) (h : History) → Adds store content store (record { id = id; new = false }) h h
same_added store content id h counts fits = (fits, refl)

-- ---- a content was opened

-- keys that tie are the same
same_key : (a b : List ℕ) (o : Ordering) → key_cmp a b ≡ o → is_eq o ≡ true → a ≡ b
same_key a b Equal e h = slice_cmp-IsAntisymmetric nat_cmp-IsAntisymmetric a b e
same_key a b Less e h = absurd (let no : ⊥ = cc in no)
same_key a b Greater e h = absurd (let no : ⊥ = cc in no)

noted_by : (had has : Bool) (id other : List ℕ) (b : Bool) → is_eq (key_cmp id other) ≡ b → has ≡ cond b true had → has ≡ true → (other ≡ id) ⊎ (had ≡ true)
noted_by had has id other true e found is = inl (sym (same_key id other (key_cmp id other) refl e))
noted_by had has id other false e found is = inr (sym found ∙ is)

-- a store whose repository has kept another content, and which has opened these
abbrev pub with_opened : Store → Repo → BTreeSet (List ℕ) → Store
with_opened store repo opened = record store { repo = repo; opened = opened }

-- which ids are known once one more is noted
known_noted : (store : Store) (repo : Repo) (opened : BTreeSet (List ℕ)) (id other : List ℕ) → repo_view repo ≡ repo_view store.repo
    → Updates key_cmp store.opened opened id true → IsKnown (with_opened store repo opened) other → (other ≡ id) ⊎ IsKnown store other
known_noted store repo opened id other same noted (inl zero) = inr (inl zero)
known_noted store repo opened id other same noted (inr (inl put)) =
    inr (inr (inl (subst (λ (r : RepoState). IsSome (get r.log.learnt other)) same put)))
known_noted store repo opened id other same noted (inr (inr has)) =
    or_known (noted_by (contains key_cmp store.opened other) (contains key_cmp opened other) id other (is_eq (key_cmp id other)) refl (noted.0 other) has) where
      or_known : (other ≡ id) ⊎ (contains key_cmp store.opened other ≡ true) → (other ≡ id) ⊎ IsKnown store other
      or_known (inl is) = inl is
      or_known (inr had) = inr (inr (inr had))

there_noted : (store : Store) (files : Files) (id other : List ℕ) → IsThere files (repo_view store.repo) id
    → (IsKnown store other → IsThere files (repo_view store.repo) other) → (other ≡ id) ⊎ IsKnown store other → IsThere files (repo_view store.repo) other
there_noted store files id other there rest (inl is) = subst (IsThere files (repo_view store.repo)) (sym is) there
there_noted store files id other there rest (inr known) = rest known

pub opened_added : (store : Store) (repo : Repo) (opened : BTreeSet (List ℕ)) (content id : List ℕ) (h : History) → repo_view repo ≡ repo_view store.repo
    → Updates key_cmp store.opened opened id true → IsThere (files_now h) (repo_view store.repo) id → FitsRepo (files_now h) (repo_view repo) (cached_in repo)
    → Adds store content (with_opened store repo opened) (record { id = id; new = false }) h h
opened_added store repo opened content id h same noted there repo_fits counts fits = (
  record {
    written = fits.written;
    under_way = fits.under_way;
    settings = subst (λ (r : RepoState). ReadsSettings fits.written.config r.config) (sym same) fits.settings;
    repo = repo_fits;
    below = subst (λ (r : RepoState). r.log.transaction < behind store.session.after) (sym same) fits.below;
    there = λ other apart known.
        subst (λ (r : RepoState). IsThere (files_now h) r other) (sym same)
        (there_noted store (files_now h) id other there (fits.there other apart) (known_noted store repo opened id other same noted known));
    holds = subst (λ (r : RepoState). HoldsLive (files_now h) r.log (entries_of fits.written)) (sym same) fits.holds;
    manifest = subst (λ (r : RepoState). CommitsManifest r fits.written.committed) (sym same) fits.manifest;
    keeps = fits.keeps;
    pending = fits.pending;
    chunks = fits.chunks;
    learnt = subst (λ (r : RepoState). AllLearnt fits.written r.log) (sym same) fits.learnt;
  },
  refl,
)

-- ---- a content was put

-- a store whose repository, session and counter have gone on
abbrev pub with_put : Store → Repo → Session → Counter → ℕ → Store
with_put store repo session counter pending = record store { repo = repo; session = session; counter = counter; pending = pending }

put_keeps : (session : Session) (blob : List ℕ) (place : Place) (log : LogState) (id : List ℕ) (h g : History) → HasPlaced session blob place h g
    → IsMissing log id → KeepsBlobs (files_now h) log (files_now g) (with_learnt log id place)
put_keeps session blob place log id h g placed missing other one has =
    learn_keeps (files_now g) log id place missing other one (blobs_stay session.after log h g placed.stays other one has)

learnt_by : (log : LogState) (id other : List ℕ) (place : Place) (b : Bool) → eq_by_cmp key_cmp other id ≡ b
    → get (with_learnt log id place).learnt other ≡ cond b (Some place) (get log.learnt other) → IsSome (get (with_learnt log id place).learnt other)
    → (other ≡ id) ⊎ IsSome (get log.learnt other)
learnt_by log id other place true e found is = inl (same_key other id (key_cmp other id) refl e)
learnt_by log id other place false e found is = inr (subst IsSome found is)

there_put : (counts : Bool) (store : Store) (id content blob : List ℕ) (place : Place) (h g : History) → StoreFits counts store h → id ≢ zero_id
    → IsMissing (repo_view store.repo).log id → HasPlaced store.session blob place h g → OpensTo (repo_view store.repo).keys id blob content
    → (other : List ℕ) → other ≢ zero_id → (other ≡ id) ⊎ IsKnown store other → IsThere (files_now g) (with_place (repo_view store.repo) id place) other
there_put counts store id content blob place h g fits chunk missing placed opens other apart (inl is) =
    let repo = repo_view store.repo in
    subst (IsThere (files_now g) (with_place repo id place)) (sym is)
    (content, chunk_learnt (files_now g) repo.log repo.keys id blob content place chunk placed.lies opens)
there_put counts store id content blob place h g fits chunk missing placed opens other apart (inr known) =
    let repo = repo_view store.repo in
    there_kept (files_now h) (files_now g) repo (with_place repo id place) other refl (put_keeps store.session blob place repo.log id h g placed missing)
    (fits.there other apart known)

known_put : (store : Store) (repo : Repo) (session : Session) (counter : Counter) (pending : ℕ) (id other : List ℕ) (place : Place)
    → repo_view repo ≡ with_place (repo_view store.repo) id place → IsKnown (with_put store repo session counter pending) other
    → (other ≡ id) ⊎ IsKnown store other
known_put store repo session counter pending id other place learnt (inl zero) = inr (inl zero)
known_put store repo session counter pending id other place learnt (inr (inl put)) =
    or_known (learnt_by log id other place (eq_by_cmp key_cmp other id) refl (get-insert nat_list_cmp_total log.learnt id place other)
    (subst (λ (r : RepoState). IsSome (get r.log.learnt other)) learnt put)) where
      log : LogState
      log = (repo_view store.repo).log

      or_known : (other ≡ id) ⊎ IsSome (get log.learnt other) → (other ≡ id) ⊎ IsKnown store other
      or_known (inl is) = inl is
      or_known (inr had) = inr (inr (inl had))
known_put store repo session counter pending id other place learnt (inr (inr has)) = inr (inr (inr has))

-- the count of what was put since the last commit, with one more entry put
pending_more : (pending : ℕ) (written : Written) (entry : LogEntry) → pending ≡ min (length written.pending) (2 ^ 64 - 1)
    → pending_after pending true ≡ min (length (with_entry written entry).pending) (2 ^ 64 - 1)
pending_more pending written entry is = omega (arith, is, length-append written.pending (entry ∷ []))

pub put_added : (store : Store) (repo : Repo) (session : Session) (counter : Counter) (pending : ℕ) (content : List ℕ) (h g : History)
    → id_under store content ≢ zero_id → IsMissing (repo_view store.repo).log (id_under store content)
    → cached_in repo ≡ cached_in store.repo → session.after ≡ store.session.after → pending ≡ pending_after store.pending true
    → HasPut (repo_view store.repo) store.session store.counter (id_under store content) content (repo_view repo) session counter h g
    → Adds store content (with_put store repo session counter pending) (record { id = id_under store content; new = true }) h g
put_added store repo session counter pending content h g chunk missing cached after counted put counts fits =
    let before = repo_view store.repo in
    let id = id_under store content in
    let place = put.place in
    let blob = blob_for before store.counter content in
    let placed = put.placed counts fits.written fits.under_way in (
      record {
        written = with_entry fits.written (entry_of store content);
        under_way = put.takes counts fits.written fits.under_way;
        settings = subst (λ (r : RepoState). ReadsSettings fits.written.config r.config) (sym put.learnt) fits.settings;
        repo = subst (FitsRepo (files_now g) (repo_view repo)) (sym cached)
            (subst (λ (r : RepoState). FitsRepo (files_now g) r (cached_in store.repo)) (sym put.learnt)
            (learn_fits (files_now g) before (cached_in store.repo) id blob place missing placed.lies
            (repo_stays store.session.after before (cached_in store.repo) h g fits.below placed.stays fits.repo)));
        below = subst (λ (r : RepoState). r.log.transaction < behind session.after) (sym put.learnt)
            (subst (λ (a : Option ℕ). before.log.transaction < behind a) (sym after) fits.below);
        there = λ other apart known.
            subst (λ (r : RepoState). IsThere (files_now g) r other) (sym put.learnt)
            (there_put counts store id content blob place h g fits chunk missing placed put.opens other apart
            (known_put store repo session counter pending id other place put.learnt known));
        holds = subst (λ (r : RepoState). HoldsLive (files_now g) r.log (entries_of (with_entry fits.written (PutEntry id blob)))) (sym put.learnt)
            (subst (HoldsLive (files_now g) (with_learnt before.log id place)) (sym (entries_put fits.written (PutEntry id blob)))
            (holds_put (files_now h) (files_now g) before.log (entries_of fits.written) id blob place fits.repo.log missing
            (blobs_stay store.session.after before.log h g placed.stays) placed.lies fits.holds));
        manifest = subst (λ (r : RepoState). CommitsManifest r fits.written.committed) (sym put.learnt)
            (manifest_learnt before (with_place before id place) fits.written.committed refl refl fits.manifest);
        keeps = keeps_more fits.written id blob
            (missing_unlive (files_now h) before.log (entries_of fits.written) id chunk missing fits.holds) fits.keeps;
        pending = counted ∙ pending_more store.pending fits.written (entry_of store content) fits.pending;
        chunks = all-append IsOfChunk fits.written.pending (entry_of store content ∷ []) fits.chunks (chunk, tt);
        learnt = subst (λ (r : RepoState). AllLearnt (with_entry fits.written (PutEntry id blob)) r.log) (sym put.learnt)
            (learnt_put fits.written before.log id blob place fits.learnt);
      },
      refl,
    )

-- ---- the steps

-- what is known of what a device tells behind calls that read
pub read_known : (P : History → Type 0) (a b : Option Told) → Between a b Reads → IfSome b (λ t. P t.history) → Between a b (λ h g. P h × Reads h g)
read_known P None b same known = tt
read_known P (Some t) None same known = absurd (let e = same.1 in let no : ⊥ = cc in no)
read_known P (Some t) (Some u) same known =
    let told : u ≡ same.0 = (let f = same.1 in cc) in
    (same.0, same.1, (subst P (ap (λ (x : Told). x.history) told ∙ same.2) known, same.2))

-- ---- a content was opened, by calls that read

pub opened_did : (store : Store) (repo : Repo) (opened : BTreeSet (List ℕ)) (content id : List ℕ) (a b : Option Told) (n m : ℕ)
    → repo_view repo ≡ repo_view store.repo → Updates key_cmp store.opened opened id true
    → IfSome a (λ t. IsThere (told_files t) (repo_view store.repo) id) → IfSome b (λ t. FitsRepo (told_files t) (repo_view repo) (cached_in repo))
    → KeepsTold {T = Unit {0}} {F = StoreRefusal} depot_failed a b (Ok tt) → m ≡ n
    → Did {T = Added} (KeepsSound store.session store.counter) (Adds store content (with_opened store repo opened)) a b n m
    (Ok (record { id = id; new = false }))
opened_did store repo opened content id a b n m same noted there fits told caused =
    let read = same_told {T = Unit {0}} {F = StoreRefusal} depot_failed a b (Ok tt) told in
    record {
      each = between_map a b Reads (KeepsSound store.session store.counter)
          (λ h g e. subst (KeepsSound store.session store.counter h) (sym e) (keeps_here store.session store.counter h)) read;
      end = between_map a b
          (λ h g. IsThere (files_now h) (repo_view store.repo) id × (FitsRepo (files_now h) (repo_view repo) (cached_in repo) × Reads h g))
          (λ h g. AllDone h g × Adds store content (with_opened store repo opened) (record { id = id; new = false }) h g)
          (λ h g e. (
            ([], e.1.1),
            subst (λ (k : History). Adds store content (with_opened store repo opened) (record { id = id; new = false }) h k) (sym e.1.1)
                (opened_added store repo opened content id h same noted e.0 e.1.0),
          ))
          (known_then (λ h. IsThere (files_now h) (repo_view store.repo) id)
          (λ h g. FitsRepo (files_now h) (repo_view repo) (cached_in repo) × Reads h g) a b there
          (read_known (λ h. FitsRepo (files_now h) (repo_view repo) (cached_in repo)) a b read fits));
      ends = keeps_end {T = Unit {0}} {F = StoreRefusal} depot_failed a b (Ok tt) told;
      cause = caused;
    }

-- ---- a content was put

pub put_did : (store : Store) (repo : Repo) (session : Session) (counter : Counter) (pending : ℕ) (content id : List ℕ) (a b : Option Told) (n m : ℕ)
    (x : Unit {0}) → id ≡ id_under store content → IsNew (repo_view store.repo) id → cached_in repo ≡ cached_in store.repo
    → session.after ≡ store.session.after → pending ≡ pending_after store.pending true
    → Did {T = Unit {0}} (KeepsSound store.session store.counter)
    (λ _. HasPut (repo_view store.repo) store.session store.counter id content (repo_view repo) session counter) a b n m (Ok x)
    → Did {T = Added} (KeepsSound store.session store.counter) (Adds store content (with_put store repo session counter pending)) a b n m
    (Ok (record { id = id; new = true }))
put_did store repo session counter pending content id a b n m x named new cached after counted p =
    did_as (KeepsSound store.session store.counter)
    (λ _. HasPut (repo_view store.repo) store.session store.counter id content (repo_view repo) session counter)
    (KeepsSound store.session store.counter) (Adds store content (with_put store repo session counter pending)) a b n m x (record { id = id; new = true })
    (λ h g e. e)
    (λ h g put.
    put_added store repo session counter pending content h g (λ zero. new.0 (named ∙ zero))
    (subst (IsMissing (repo_view store.repo).log) named new.1) cached after counted
    (subst (λ (i : List ℕ). HasPut (repo_view store.repo) store.session store.counter i content (repo_view repo) session counter h g) named put))
    p

-- an id that was learnt is known
pub learnt_known : (repo now : RepoState) (id : List ℕ) → Learns repo id true now → IsSome (get now.log.learnt id)
learnt_known repo now id learns =
    subst (λ (r : RepoState). IsSome (get r.log.learnt id)) (sym learns.1) (learnt_here repo.log id learns.0)

-- an id that is known isn't new
known_old : (counts : Bool) (store : Store) (id : List ℕ) (h : History) → StoreFits counts store h → IsKnown store id → IsNew (repo_view store.repo) id → ⊥
known_old counts store id h fits known new =
    let there = fits.there id new.0 known in
    let placed = there.1.object.has.placed in
    let none : None ≡ Some there.1.object.has.place = sym new.1 ∙ placed in
    let no : ⊥ = cc in no

pub told_old : (store : Store) (id : List ℕ) (told : Option Told) (P : Type 0) → IfSome told (λ t. StoreFits false store t.history) → IsKnown store id
    → IsNew (repo_view store.repo) id → IfSome told (λ _. P)
told_old store id None P fits known new = tt
told_old store id (Some t) P fits known new = absurd (known_old false store id t.history fits known new)
