-- Lemmas on specs/Deleting.antt: what is left where an archive was deleted.
use Rattle.std.proofs.Common.{◌≡◌, ◌≢◌, ◌↔◌, inl, inr, ℕ, Bool, true, false, cond, ◌||◌, List, [], ◌∷◌, ◌++◌, map}
use Rattle.std.proofs.Common.{Some, None, refl, sym, ◌∙◌, ap, subst, arith}
use Rattle.std.specs.Cmp.Lexicographic.{nat_list_cmp_total}
use Rattle.std.specs.List.{AllByRecursion}
use Rattle.std.specs.List.Sorted.{IsStrictlySortedBy}
use Rattle.std.specs.Ordering.{eq_by_cmp}
use Rattle.std.specs.Str.{bytes_eq}
use Rattle.std.proofs.lemmas.List.{append_assoc}
use Rattle.std.proofs.lemmas.Map.Lookups.{btree_set_from_contains, exact_bytes}
use Rattle.ferry_base.specs.Limits.{zero_id}
use Rattle.ferry_check.proofs.ChunkLemmas.{or_true}
use Rattle.ferry_check.proofs.MarkLemmas.{either_way, key_itself, same_key}
use Rattle.ferry_check.specs.Report.{ArchiveRead, ids_used, is_among}
use Rattle.ferry_disk.specs.Files.{Files}
use Rattle.ferry_log.specs.Live.{key_cmp}
use Rattle.ferry_log.specs.State.{LogState}
use Rattle.ferry_mac.specs.declared.keys.Keys.{Keys}
use Rattle.ferry_next.proofs.PlaceLemmas.{without_named}
use Rattle.ferry_repo.proofs.LawLemmas.{one_repo}
use Rattle.ferry_repo.specs.Archives.{archive_named}
use Rattle.ferry_repo.specs.Objects.{HasBlob, HoldsChunk}
use Rattle.ferry_repo.specs.Opening.{OpensFilesTo, RepoState}
use Rattle.ferry_repo.specs.Whole.{HasWhole, IsWhole, WholeArchive}
use Rattle.ferry_repo.specs.declared.secret.Secret.{Secret}
use Rattle.ferry_segment.specs.Entry.{DeleteEntry, LogEntry}
use Rattle.ferry_stops.specs.Entries.{Shows}
use Rattle.ferry_store.proofs.LiveLemmas.{live_deleted, live_nil, live_spared}
use Rattle.ferry_store.proofs.StandingLemmas.{live_manifest, opened_manifest, opened_unlocks, stands_live, state_live}
use Rattle.ferry_store.specs.Standing.{committed_of, live_in, with_manifest}
use Rattle.ferry_store.specs.State.{ShowsStanding, found}
use Rattle.ferry_refs.specs.Deleting.{AreGoing, Goes, KeepsOthers, ShowsDeleted, ShowsEither, next_without, with_deleted, without_name}
use Rattle.ferry_refs.specs.Refs.{occurrences}
use Rattle.ferry_refs.proofs.GoingLemmas.{turned_among}
use Rattle.ferry_refs.proofs.LawLemmas.{one_read}
use Rattle.ferry_refs.proofs.WholeLemmas.{all_among, among_occurs, read_of, reads_among, whole_left}

-- ---- one list

same_truth : (a b : Bool) → (a ≡ true → b ≡ true) → (b ≡ true → a ≡ true) → a ≡ b
same_truth true b there back = sym (there refl)
same_truth false true there back = back refl
same_truth false false there back = refl

-- one list has, in byte order, the ids of which something holds
pub one_list : (P : List ℕ → Type 0) (ids others : List (List ℕ)) → IsStrictlySortedBy key_cmp ids → IsStrictlySortedBy key_cmp others
    → ((id : List ℕ) → (is_among id ids ≡ true) ↔ P id) → ((id : List ℕ) → (is_among id others ≡ true) ↔ P id) → ids ≡ others
one_list P ids others sorted other_sorted each other_each =
    btree_set_from_contains nat_list_cmp_total (record { keys = ids }) (record { keys = others }) sorted other_sorted
    (λ id. turned_among id ids
    ∙ (same_truth (is_among id ids) (is_among id others) (λ e. (other_each id).1 ((each id).0 e)) (λ e. (each id).1 ((other_each id).0 e))
    ∙ sym (turned_among id others)))
    exact_bytes

pub one_going : (files : Files) (repo : RepoState) (name : List ℕ) (ids others : List (List ℕ)) → AreGoing files repo name ids
    → AreGoing files repo name others → ids ≡ others
one_going files repo name ids others a b = one_list (Goes files repo name) ids others a.sorted b.sorted a.each b.each

-- ---- what is live behind DELETEs

not_first : (id x : List ℕ) (ids : List (List ℕ)) → is_among id (x ∷ ids) ≡ false → (x ≢ id) × (is_among id ids ≡ false)
not_first id x ids e = by (eq_by_cmp key_cmp x id) refl e where
  by : (b : Bool) → eq_by_cmp key_cmp x id ≡ b → (b || is_among id ids) ≡ false → (x ≢ id) × (is_among id ids ≡ false)
  by true is off = absurd (let no : ⊥ = cc in no)
  by false is off = (
    λ same. let no : false ≡ true = sym is ∙ (ap (λ (k : List ℕ). eq_by_cmp key_cmp k id) same ∙ key_itself id) in let l : ⊥ = cc in l,
    off,
  )

-- an id that isn't deleted is what it was
pub live_left : (id : List ℕ) (entries : List LogEntry) (ids : List (List ℕ)) → is_among id ids ≡ false
    → live_in id (entries ++ map DeleteEntry ids) ≡ live_in id entries
live_left id entries [] e = live_nil id entries
live_left id entries (x ∷ ids) e =
    let both = not_first id x ids e in
    ap (live_in id) (sym (append_assoc entries (DeleteEntry x ∷ []) (map DeleteEntry ids)))
    ∙ (live_left id (entries ++ DeleteEntry x ∷ []) ids both.1 ∙ live_spared x id entries (λ same. both.0 (sym same)))

pub live_gone : (id : List ℕ) (entries : List LogEntry) (ids : List (List ℕ)) → is_among id ids ≡ true → live_in id (entries ++ map DeleteEntry ids) ≡ None
live_gone id entries [] e = absurd (let no : ⊥ = cc in no)
live_gone id entries (x ∷ ids) e =
    let next = entries ++ DeleteEntry x ∷ [] in
    ap (live_in id) (sym (append_assoc entries (DeleteEntry x ∷ []) (map DeleteEntry ids)))
    ∙ elim (either_way (is_among id ids)) [
      | inl later ↦ live_gone id next ids later
      | inr last ↦
          live_left id next ids last
          ∙ subst (λ (k : List ℕ). live_in id (entries ++ DeleteEntry k ∷ []) ≡ None) (sym (first_of x id ids e last)) (live_deleted id entries)
    ]
  where
    first_of : (x id : List ℕ) (ids : List (List ℕ)) → is_among id (x ∷ ids) ≡ true → is_among id ids ≡ false → x ≡ id
    first_of x id ids e last = elim (or_true (eq_by_cmp key_cmp x id) (is_among id ids) e) [
      | inl here ↦ same_key x id here
      | inr later ↦ let no : true ≡ false = sym later ∙ last in absurd (let l : ⊥ = cc in l)
    ]

-- ---- an archive that isn't deleted

-- a chunk that goes is none of those that an archive of another name uses
module _ (start : Files) (repo : RepoState) (name other : List ℕ) (whole : WholeArchive)
    (is : IsWhole start repo.log repo.keys repo.manifest.archives other whole) (differs : bytes_eq name other ≡ false) where
  named_still : archive_named other (without_name repo name).manifest.archives ≡ archive_named other repo.manifest.archives
  named_still =
      without_named name other repo.manifest.archives ∙ ap (λ (b : Bool). cond b None (archive_named other repo.manifest.archives)) differs

  used_still : (id : List ℕ) → Goes start repo name id
      → is_among id (ids_used (read_of start repo.log repo.keys repo.manifest.archives other whole is)) ≡ true → ⊥
  used_still id goes used =
      let read = read_of start repo.log repo.keys repo.manifest.archives other whole is in
      let rest = without_name repo name in
      let unused = goes.falls.unused in
      let named = named_still ∙ is.named_is in
      let among = reads_among ids_used start rest other id is.named rest.manifest.archives unused.reads named unused.are_read in
      let same : among.read ≡ read = one_read start rest other among.read read among.is
      (record { named = is.named; named_is = named; id = refl; record_is = is.record_is; stream = is.stream }) in
      let count : occurrences id (ids_used among.read) ≡ occurrences id (ids_used read) = ap (λ (r : ArchiveRead). occurrences id (ids_used r)) same in
      let some = among_occurs id (ids_used read) used in
      let none = unused.count_is in
      absurd (omega (arith, among.fewer, count, some, none))

  spared : (ids : List (List ℕ)) → AreGoing start repo name ids
      → AllByRecursion (λ id. is_among id ids ≡ false) (ids_used (read_of start repo.log repo.keys repo.manifest.archives other whole is))
  spared ids going =
      all_among (λ id. is_among id ids ≡ false) (ids_used (read_of start repo.log repo.keys repo.manifest.archives other whole is))
      (λ id used. elim (either_way (is_among id ids)) [
        | inl there ↦ absurd (used_still id ((going.each id).0 there) used)
        | inr off ↦ off
      ])

-- ---- what is left

-- the blobs of a log over these files are those over the files of the start whose ids aren't among these
abbrev LeavesBlobs : Files → LogState → Files → LogState → List (List ℕ) → Type 0
LeavesBlobs image log start before ids =
    (id blob : List ℕ) → id ≢ zero_id → HasBlob image log id blob ↔ (HasBlob start before id blob × (is_among id ids ≡ false))

chunk_left : (start image : Files) (before log : LogState) (keys : Keys) (ids : List (List ℕ)) → LeavesBlobs image log start before ids
    → (id content : List ℕ) → is_among id ids ≡ false → HoldsChunk start before keys id content → HoldsChunk image log keys id content
chunk_left start image before log keys ids leaves id content off holds = record {
  chunk = holds.chunk;
  object = record {
    blob = holds.object.blob;
    has = (leaves id holds.object.blob holds.chunk).1 (holds.object.has, off);
    opens = holds.object.opens;
  };
}

module _ (secret : Secret) (start image : Files) (repo : RepoState) (name time : List ℕ) (committed : List LogEntry)
    (opens : OpensFilesTo start secret repo) (shown : Shows start (Some committed)) where
  pub live_start : (id blob : List ℕ) → HasBlob start repo.log id blob ↔ (live_in id committed ≡ Some blob)
  live_start id blob = state_live start repo.log committed opens.opens.unlocks.reads shown id blob

  -- what has a whole archive at the start has it in the repository that opens there
  pub whole_start : (other : List ℕ) (whole : WholeArchive) → HasWhole start secret other whole
      → IsWhole start repo.log repo.keys repo.manifest.archives other whole
  whole_start other whole has =
      subst (λ (r : RepoState). IsWhole start r.log r.keys r.manifest.archives other whole) (one_repo start secret has.repo repo has.opens opens) has.is

  -- behind the deletion
  live_deletion : (ids : List (List ℕ)) (blob id : List ℕ) → id ≢ zero_id
      → live_in id (committed_of (with_deleted (found (Some committed) start) ids blob)) ≡ live_in id (committed ++ map DeleteEntry ids)
  live_deletion ids blob id apart =
      live_manifest (record (found (Some committed) start) { pending = map DeleteEntry ids }) blob id apart

  left_by : (ids : List (List ℕ)) (blob : List ℕ) (log : LogState)
      → ((id other : List ℕ) → HasBlob image log id other
      ↔ (live_in id (committed_of (with_deleted (found (Some committed) start) ids blob)) ≡ Some other))
      → LeavesBlobs image log start repo.log ids
  left_by ids blob log live id other apart =
      let same = live_deletion ids blob id apart in
      elim (either_way (is_among id ids)) [
        | inl there ↦ (
          λ has.
              let no : None ≡ Some other = sym (live_gone id committed ids there) ∙ (sym same ∙ (live id other).0 has) in
              absurd (let l : ⊥ = cc in l),
          λ both. let no : true ≡ false = sym there ∙ both.1 in absurd (let l : ⊥ = cc in l),
        )
        | inr off ↦
            let left = same ∙ live_left id committed ids off in (
              λ has. ((live_start id other).1 (sym left ∙ (live id other).0 has), off),
              λ both. (live id other).1 (left ∙ (live_start id other).0 both.0),
            )
      ]

  pub deleted_keeps : ShowsDeleted start repo name time (found (Some committed) start) image → KeepsOthers secret start repo name time true image
  deleted_keeps shows =
      let ids = shows.ids in
      let next = with_manifest repo (next_without repo.manifest name time) in
      let live = stands_live secret image next (with_deleted (found (Some committed) start) ids shows.blob) shows.shows
      (opened_unlocks start secret repo opens) shows.manifest in
      let leaves = left_by ids shows.blob live.log live.blobs in
      record {
        repo = record next { log = live.log };
        opens = live.opens;
        config = shows.shows.1;
        manifest = refl;
        wholes = λ other whole differs has.
            let is = whole_start other whole has in
            let name_differs = differs refl in
            record {
              repo = record next { log = live.log };
              opens = live.opens;
              is = whole_left start repo.log repo.keys image live.log (λ id. is_among id ids ≡ false)
                  (chunk_left start image repo.log live.log repo.keys ids leaves) repo.manifest.archives next.manifest.archives other whole is
                  (spared start repo name other whole is name_differs ids shows.going) (named_still start repo name other whole is name_differs);
            };
        chunks = λ id blob apart. (
          λ has.
              let both = (leaves id blob apart).0 has in (
                both.0,
                λ _ goes.
                    let no : true ≡ false = sym ((shows.going.each id).1 goes) ∙ both.1 in
                    let l : ⊥ = cc in
                    l,
              ),
          λ both.
              (leaves id blob apart).1 (
                both.0,
                elim (either_way (is_among id ids)) [
                  | inl there ↦ absurd (both.1 refl ((shows.going.each id).0 there))
                  | inr off ↦ off
                ],
              ),
        );
      }

  -- where a stop came before it
  pub standing_keeps : ShowsStanding (found (Some committed) start) image → KeepsOthers secret start repo name time false image
  standing_keeps shows =
      let live = stands_live secret image repo (found (Some committed) start) shows (opened_unlocks start secret repo opens)
      (record { entries = committed; is = refl; holds = opened_manifest start secret repo committed opens shown }) in
      let now = record repo { log = live.log } in
      record {
        repo = now;
        opens = live.opens;
        config = shows.1;
        manifest = refl;
        wholes = λ other whole differs has.
            let is = whole_start other whole has in
            record {
              repo = now;
              opens = live.opens;
              is = whole_left start repo.log repo.keys image live.log (λ id. Unit {0})
                  (λ id content _ holds. record {
                    chunk = holds.chunk;
                    object = record {
                      blob = holds.object.blob;
                      has = (live.blobs id holds.object.blob).1 ((live_start id holds.object.blob).0 holds.object.has);
                      opens = holds.object.opens;
                    };
                  })
                  repo.manifest.archives repo.manifest.archives other whole is
                  (all_among (λ id. Unit {0}) (ids_used (read_of start repo.log repo.keys repo.manifest.archives other whole is)) (λ id e. tt)) refl;
            };
        chunks = λ id blob apart. (
          λ has. ((live_start id blob).1 ((live.blobs id blob).0 has), λ gone. absurd (let l : ⊥ = cc in l)),
          λ both. (live.blobs id blob).1 ((live_start id blob).0 both.0),
        );
      }

  pub either_keeps : ShowsEither start repo name time (found (Some committed) start) image
      → (gone : Bool) × KeepsOthers secret start repo name time gone image
  either_keeps (inl shows) = (false, standing_keeps shows)
  either_keeps (inr shows) = (true, deleted_keeps shows)
