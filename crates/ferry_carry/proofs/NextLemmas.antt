-- Lemmas on specs/Naming.antt, specs/Accepting.antt and specs/Grow.antt: the salts that were drawn, and the manifests behind archives, one after another.
use Rattle.std.proofs.Common.{◌≡◌, inl, inr, ℕ, List, [], ◌∷◌, ◌++◌, Option, Some, None}
use Rattle.std.proofs.Common.{option_map, IsSome, Result, Ok, Err, OnOk, refl, sym, ◌∙◌, ap}
use Rattle.std.proofs.Common.{subst}
use Rattle.std.proofs.lemmas.List.{append-nil, append_assoc, map-append}
use Rattle.std.specs.List.{AllByRecursion}
use Rattle.ferry_blob.specs.Blob.{content_id}
use Rattle.ferry_carry.specs.Accepting.{AreNamedNext, AreNextOf, IsNamedNext, IsNextOf, named_next, next_named}
use Rattle.ferry_carry.specs.Carrying.{Origin}
use Rattle.ferry_carry.specs.Flight.{IsFlown}
use Rattle.ferry_carry.specs.Grow.{IsBehind}
use Rattle.ferry_carry.specs.Naming.{Draws, DrawsSalts, HasSalts, TaggedRecord, entry_for, record_ids, salts_of}
use Rattle.ferry_carry.specs.Telling.{AcceptsNames}
use Rattle.ferry_carry.specs.Time.{time_for}
use Rattle.ferry_mac.specs.declared.keys.Keys.{Keys}
use Rattle.ferry_manifest.specs.Manifest.Text.{ManifestText}
use Rattle.ferry_manifest.specs.declared.manifest.ArchiveRef.{ArchiveRef}
use Rattle.ferry_next.specs.Next.{next_manifest, written_at}
use Rattle.ferry_piece.specs.declared.fault.CarryFault.{CarryFault}
use Rattle.ferry_repo.specs.Archives.{archive_named}
use Rattle.ferry_repo.specs.Opening.{RepoState, repo_view}
use Rattle.ferry_store.specs.Commit.{accepted_in}
use Rattle.ferry_store.specs.declared.store.Store.{Store}

-- ---- salts

salts_append : (one two : List TaggedRecord) → salts_of (one ++ two) ≡ salts_of one ++ salts_of two
salts_append [] two = refl
salts_append (first ∷ one) two =
    ap (λ (rest : List ℕ). first.salt ++ (first.manifest_salt ++ rest)) (salts_append one two)
    ∙ (ap (λ (bytes : List ℕ). first.salt ++ bytes) (sym (append_assoc first.manifest_salt (salts_of one) (salts_of two)))
    ∙ sym (append_assoc first.salt (first.manifest_salt ++ salts_of one) (salts_of two)))

salts_both : (one two : List TaggedRecord) → AllByRecursion HasSalts one → AllByRecursion HasSalts two → AllByRecursion HasSalts (one ++ two)
salts_both [] two p q = q
salts_both (first ∷ one) two p q = (p.0, salts_both one two p.1 q)

-- bytes that were drawn behind others
pub drawn_both : (before middle now : Option (List ℕ)) (some more : List ℕ) → middle ≡ option_map (λ (bytes : List ℕ). bytes ++ some) before
    → now ≡ option_map (λ (bytes : List ℕ). bytes ++ more) middle → now ≡ option_map (λ (bytes : List ℕ). bytes ++ (some ++ more)) before
drawn_both before middle now some more p q = q ∙ (ap (option_map (λ (bytes : List ℕ). bytes ++ more)) p ∙ by before) where
  by : (o : Option (List ℕ)) → option_map (λ (bytes : List ℕ). bytes ++ more) (option_map (λ (bytes : List ℕ). bytes ++ some) o)
      ≡ option_map (λ (bytes : List ℕ). bytes ++ (some ++ more)) o
  by None = refl
  by (Some bytes) = ap Some (append_assoc bytes some more)

pub drawn_none : (now : Option (List ℕ)) → now ≡ option_map (λ (bytes : List ℕ). bytes ++ []) now
drawn_none None = refl
drawn_none (Some bytes) = ap Some (sym (append-nil bytes))

-- nothing was drawn
pub draws_none : (before now : Option (List ℕ)) → now ≡ before → DrawsSalts [] before now
draws_none before now same = record { sizes = tt; drawn = same ∙ drawn_none before }

-- the salt of a record, and that of the manifest behind it
pub draws_one : (one : TaggedRecord) (before middle now : Option (List ℕ)) → Draws one.salt before middle → Draws one.manifest_salt middle now
    → DrawsSalts (one ∷ []) before now
draws_one one before middle now p q = record {
  sizes = ((p.0, q.0), tt);
  drawn = drawn_both before middle now one.salt (one.manifest_salt ++ []) p.1
      (subst (λ (more : List ℕ). now ≡ option_map (λ (bytes : List ℕ). bytes ++ more) middle) (sym (append-nil one.manifest_salt)) q.1);
}

-- of more records behind some
draws_then : (some more : List TaggedRecord) (before middle now : Option (List ℕ)) → DrawsSalts some before middle → DrawsSalts more middle now
    → DrawsSalts (some ++ more) before now
draws_then some more before middle now p q = record {
  sizes = salts_both some more p.sizes q.sizes;
  drawn = subst (λ (all : List ℕ). now ≡ option_map (λ (bytes : List ℕ). bytes ++ all) before) (sym (salts_append some more))
      (drawn_both before middle now (salts_of some) (salts_of more) p.drawn q.drawn);
}

-- ---- manifests, one behind another

pub next_one : (given : Option (List ℕ)) (source manifest : ManifestText) (name : List ℕ) (ids : List (List ℕ)) (now : ManifestText)
    → IsNextOf given source manifest name ids now → AreNextOf given source manifest (name ∷ []) ids now
next_one given source manifest name ids now next = (ids, ([], (sym (append-nil ids), (now, (next, (refl, refl))))))

pub are_then : (given : Option (List ℕ)) (source manifest middle now : ManifestText) (some more ids others : List (List ℕ))
    → AreNextOf given source manifest some ids middle → AreNextOf given source middle more others now
    → AreNextOf given source manifest (some ++ more) (ids ++ others) now
are_then given source manifest middle now [] more ids others p q =
    subst (λ (m : ManifestText). AreNextOf given source m more (ids ++ others) now) p.1
    (subst (λ (l : List (List ℕ)). AreNextOf given source middle more (l ++ others) now) (sym p.0) q)
are_then given source manifest middle now (name ∷ some) more ids others p q =
    let next = p.1.1.1 in
    let rest = are_then given source next.0 middle now some more p.1.0 others next.1.1 q in (
      p.0,
      (
        p.1.0 ++ others,
        (ap (λ (l : List (List ℕ)). l ++ others) p.1.1.0 ∙ append_assoc p.0 p.1.0 others, (next.0, (next.1.0, rest))),
      ),
    )

-- the same of those that are no larger than they may be
pub named_one : (given : Option (List ℕ)) (source : ManifestText) (keys : Keys) (manifest : ManifestText) (name : List ℕ) (records : List TaggedRecord)
    (now : ManifestText) → IsNamedNext given source keys manifest name records now → AreNamedNext given source keys manifest (name ∷ []) records now
named_one given source keys manifest name records now next = (records, ([], (sym (append-nil records), (now, (next, (refl, refl))))))

named_then : (given : Option (List ℕ)) (source : ManifestText) (keys : Keys) (manifest middle now : ManifestText) (some more : List (List ℕ))
    (records others : List TaggedRecord) → AreNamedNext given source keys manifest some records middle
    → AreNamedNext given source keys middle more others now → AreNamedNext given source keys manifest (some ++ more) (records ++ others) now
named_then given source keys manifest middle now [] more records others p q =
    subst (λ (m : ManifestText). AreNamedNext given source keys m more (records ++ others) now) p.1
    (subst (λ (l : List TaggedRecord). AreNamedNext given source keys middle more (l ++ others) now) (sym p.0) q)
named_then given source keys manifest middle now (name ∷ some) more records others p q =
    let next = p.1.1.1 in
    let rest = named_then given source keys next.0 middle now some more p.1.0 others next.1.1 q in (
      p.0,
      (
        p.1.0 ++ others,
        (ap (λ (l : List TaggedRecord). l ++ others) p.1.1.0 ∙ append_assoc p.0 p.1.0 others, (next.0, (next.1.0, rest))),
      ),
    )

-- they are those behind the archives, by the ids of the records
pub next_of : (given : Option (List ℕ)) (source : ManifestText) (keys : Keys) (manifest : ManifestText) (names : List (List ℕ))
    (records : List TaggedRecord) (now : ManifestText) → AreNamedNext given source keys manifest names records now
    → AreNextOf given source manifest names (record_ids keys records) now
next_of given source keys manifest [] records now p = (ap (record_ids keys) p.0, p.1)
next_of given source keys manifest (name ∷ names) records now p =
    let next = p.1.1.1 in (
      record_ids keys p.0,
      (
        record_ids keys p.1.0,
        (
          ap (record_ids keys) p.1.1.0 ∙ map-append (λ (one : TaggedRecord). content_id keys one.text) p.0 p.1.0,
          (next.0, (next.1.0.0, next_of given source keys next.0 names p.1.0 now next.1.1)),
        ),
      ),
    )

-- ---- what a store accepted

pub accepts_none : (from : Origin) (store : Store) (drawn : Option (List ℕ)) → AcceptsNames from [] [] store store drawn drawn
accepts_none from store drawn = ((refl, refl), draws_none drawn drawn refl)

-- more names behind some
pub accepts_then : (from : Origin) (some more : List (List ℕ)) (records others : List TaggedRecord) (store middle now : Store) (x y z : Option (List ℕ))
    → (repo_view middle.repo).keys ≡ (repo_view store.repo).keys → AcceptsNames from some records store middle x y
    → AcceptsNames from more others middle now y z → AcceptsNames from (some ++ more) (records ++ others) store now x z
accepts_then from some more records others store middle now x y z same p q =
    let keys = (repo_view store.repo).keys in
    let source = from.repo.manifest in
    let behind = subst (λ (k : Keys). AreNamedNext from.time source k (accepted_in middle) more others (accepted_in now)) same q.0 in (
      named_then from.time source keys (accepted_in store) (accepted_in middle) (accepted_in now) some more records others p.0 behind,
      draws_then records others x y z p.1 q.1,
    )

pub accepts_both : {T : Type 0} (from : Origin) (some more : List (List ℕ)) (records others : List TaggedRecord) (store middle now : Store)
    (x y z : Option (List ℕ)) (result : Result T CarryFault) → (repo_view middle.repo).keys ≡ (repo_view store.repo).keys
    → AcceptsNames from some records store middle x y → OnOk result (AcceptsNames from more others middle now y z)
    → OnOk result (AcceptsNames from (some ++ more) (records ++ others) store now x z)
accepts_both {T} from some more records others store middle now x y z (Ok value) same p q =
    accepts_then from some more records others store middle now x y z same p q
accepts_both {T} from some more records others store middle now x y z (Err fault) same p q = tt

-- ---- what is committed

-- nothing was named
pub behind_still : (from : Origin) (accepted committed manifest : ManifestText) → manifest ≡ committed → IsBehind from accepted committed [] manifest
behind_still from accepted committed manifest is settled = ([], (refl, is ∙ sym settled))

-- an archive was there
pub behind_present : (from : Origin) (accepted committed manifest : ManifestText) (name : List ℕ) → IsSome (archive_named name committed.archives)
    → manifest ≡ committed → IsBehind from accepted committed (name ∷ []) manifest
behind_present from accepted committed manifest name there is settled =
    let has = subst (λ (m : ManifestText). IsSome (archive_named name m.archives)) (sym settled) there in
    ([], next_one from.time from.repo.manifest accepted name [] manifest (inl (has, (refl, is ∙ sym settled))))

-- more names behind some
pub behind_then : (from : Origin) (accepted committed middle next manifest : ManifestText) (some more : List (List ℕ))
    → IsBehind from accepted committed some next → (accepted ≡ committed → middle ≡ next) → IsBehind from middle next more manifest
    → IsBehind from accepted committed (some ++ more) manifest
behind_then from accepted committed middle next manifest some more first settles second settled =
    let same = settles settled in
    let p = first settled in
    let q = second same in (
      p.0 ++ q.0,
      are_then from.time from.repo.manifest accepted next manifest some more p.0 q.0 p.1
          (subst (λ (m : ManifestText). AreNextOf from.time from.repo.manifest m more q.0 manifest) same q.1),
    )

-- an archive is named
pub behind_named : (from : Origin) (source : RepoState) (given : Option (List ℕ)) (store : Store) (named : ArchiveRef) (id : List ℕ)
    → IsFlown from source given named → archive_named named.name (accepted_in store).archives ≡ None
    → IsBehind from (accepted_in store) (repo_view store.repo).manifest (named.name ∷ []) (named_next given source store named id)
behind_named from source given store named id flown lacks settled =
    let With : Option (List ℕ) → ManifestText → ManifestText → ManifestText = λ time manifest written.
    written_at (next_manifest (accepted_in store) (entry_for named id) manifest.item_keys) (time_for time manifest.timestamp written.timestamp) in
    let is : named_next given source store named id ≡ next_named from.time from.repo.manifest (accepted_in store) named id =
    ap (λ (m : ManifestText). With given source.manifest m) (sym settled)
    ∙ (ap (λ (t : Option (List ℕ)). With t source.manifest (accepted_in store)) (sym flown.time)
    ∙ ap (λ (r : RepoState). With from.time r.manifest (accepted_in store)) (sym flown.repo)) in
    let named_is = subst (λ (r : RepoState). archive_named named.name r.manifest.archives ≡ Some named) (sym flown.repo) flown.named_is in (
      id ∷ [],
      next_one from.time from.repo.manifest (accepted_in store) named.name (id ∷ []) (named_next given source store named id)
          (inr (record { named = named; named_is = named_is; lacks = lacks }, (id, (refl, is)))),
    )
