-- Lemmas on specs/Accepting.antt: the manifest behind an archive, in the words of the target in front of it.
use Rattle.std.proofs.Common.{◌≡◌, ◌⊎◌, inl, inr, ◌<◌, ◌≤◌, ℕ, true, List, [], ◌∷◌, ◌++◌, length}
use Rattle.std.proofs.Common.{Option, Some, None, IfSome, IsSome, Result, Ok, Err, OnOk, refl, sym, ◌∙◌, ap, subst}
use Rattle.std.proofs.lemmas.Option.{IfSome_then}
use Rattle.std.specs.List.{AllByRecursion}
use Rattle.ferry_base.specs.Limits.{content_limit}
use Rattle.ferry_blob.specs.Blob.{content_id}
use Rattle.ferry_disk.specs.Device.{Told}
use Rattle.ferry_disk.specs.declared.shelf.StoreFault.{StoreFault}
use Rattle.ferry_disk.specs.declared.shelf.StoreFault.TheVariants as Shelf
use Rattle.ferry_mac.specs.declared.keys.Keys.{Keys}
use Rattle.ferry_manifest.specs.Manifest.Text.{ManifestText}
use Rattle.ferry_manifest.specs.Manifest.Writing.{manifest_text}
use Rattle.ferry_manifest.specs.declared.manifest.ArchiveRef.{ArchiveRef}
use Rattle.ferry_next.specs.Next.{next_manifest, written_at}
use Rattle.ferry_repo.specs.Archives.{archive_named}
use Rattle.ferry_repo.specs.Opening.{RepoState, repo_view}
use Rattle.ferry_store.specs.Commit.{accepted_in, IsSettled}
use Rattle.ferry_store.specs.Fault.{store_refusal}
use Rattle.ferry_store.specs.Standing.{with_manifest}
use Rattle.ferry_store.specs.declared.fault.StoreRefusal.TheVariants.{TooLarge}
use Rattle.ferry_store.specs.declared.store.Store.{Store}
use Rattle.ferry_carry.proofs.NextLemmas.{draws_none, draws_one, named_one}
use Rattle.ferry_carry.specs.Accepting.{AreNextOf, HasIdSize, HasLargeNext, IsNamedNext, IsNewIn, LimitsNames, NamesNew, named_next, next_named}
use Rattle.ferry_carry.specs.Carrying.{Origin}
use Rattle.ferry_carry.specs.Flight.{origin_of}
use Rattle.ferry_piece.specs.Fault.{target_fault}
use Rattle.ferry_piece.specs.Gather.{KeepsRest}
use Rattle.ferry_carry.specs.Naming.{Draws, DrawsSalts, TaggedRecord, entry_for}
use Rattle.ferry_carry.specs.Refusals.{IsLimited, is_of_telling}
use Rattle.ferry_carry.specs.Telling.{AcceptsNames, TellsNames}
use Rattle.ferry_carry.specs.Time.{time_for}
use Rattle.ferry_carry.specs.declared.options.Options.{Options}
use Rattle.ferry_piece.specs.declared.fault.CarryFault.{CarryFault}
use Rattle.ferry_piece.specs.declared.fault.CarryFault.TheVariants.{Target, NotFound, Memory}

-- ---- a line that isn't told

-- why a line isn't told
pub store_telling : (fault : StoreFault) → is_of_telling (target_fault (store_refusal fault)) ≡ true
store_telling Shelf.Failed = refl
store_telling Shelf.Memory = refl

-- and then no manifest is too large
pub telling_small : (X : Type 0) (fault : CarryFault) → is_of_telling fault ≡ true → fault ≡ Target TooLarge → X
telling_small X fault telling is =
    let at : is_of_telling (Target TooLarge) ≡ true = subst (λ (f : CarryFault). is_of_telling f ≡ true) is telling in absurd (let no : ⊥ = cc in no)

-- ---- behind pieces

-- the manifest with an archive, by what a target says of it
abbrev pub next_with : Option (List ℕ) → RepoState → ArchiveRef → ManifestText → ManifestText → List ℕ → ManifestText
next_with given source named accepted manifest id =
    written_at (next_manifest accepted (entry_for named id) source.manifest.item_keys) (time_for given source.manifest.timestamp manifest.timestamp)

-- the archive that is accepted behind a record that was put before, with pieces that keep what was accepted
pub record_named : (given : Option (List ℕ)) (source : RepoState) (store middle now : Store) (named : ArchiveRef) (id : List ℕ) (one : TaggedRecord)
    (before between after : Option (List ℕ)) → KeepsRest store middle → id ≡ content_id (repo_view store.repo).keys one.text
    → repo_view now.repo ≡ with_manifest (repo_view middle.repo) (named_next given source middle named id)
    → accepted_in now ≡ (repo_view now.repo).manifest → Draws one.salt before between → Draws one.manifest_salt between after
    → length (manifest_text (repo_view middle.repo).keys one.manifest_salt (accepted_in now)) ≤ content_limit
    → NamesNew given source store named (one ∷ []) now before after
record_named given source store middle now named id one before between after rest id_is is accepted salt manifest_salt small = record {
  one = one;
  records_are = refl;
  accepted = accepted
      ∙ (ap (λ (r : RepoState). r.manifest) is
      ∙ (ap (λ (m : ManifestText). next_with given source named m (repo_view middle.repo).manifest id) rest.accepted
      ∙ (ap (λ (m : ManifestText). next_with given source named (accepted_in store) m id) rest.manifest
      ∙ ap (next_with given source named (accepted_in store) (repo_view store.repo).manifest) id_is)));
  drew = draws_one one before between after salt manifest_salt;
  small = subst (λ (k : Keys). length (manifest_text k one.manifest_salt (accepted_in now)) ≤ content_limit) rest.keys small;
}

-- the same of an archive that is named behind pieces
pub next_rest : (given : Option (List ℕ)) (source after : RepoState) (store middle now : Store) (named : ArchiveRef) (records : List TaggedRecord)
    (x y : Option (List ℕ)) → KeepsRest store middle → after ≡ source → NamesNew given after middle named records now x y
    → NamesNew given source store named records now x y
next_rest given source after store middle now named records x y rest same next =
    let text = next.one.text in
    record {
      one = next.one;
      records_are = next.records_are;
      accepted = next.accepted
          ∙ (ap (λ (r : RepoState). named_next given r middle named (content_id (repo_view middle.repo).keys text)) same
          ∙ (ap (λ (m : ManifestText). next_with given source named m (repo_view middle.repo).manifest (content_id (repo_view middle.repo).keys text))
          rest.accepted
          ∙ (ap (λ (m : ManifestText). next_with given source named (accepted_in store) m (content_id (repo_view middle.repo).keys text)) rest.manifest
          ∙ ap (λ (k : Keys). next_with given source named (accepted_in store) (repo_view store.repo).manifest (content_id k text)) rest.keys)));
      drew = next.drew;
      small = subst (λ (k : Keys). length (manifest_text k next.one.manifest_salt (accepted_in now)) ≤ content_limit) rest.keys next.small;
    }

-- where an archive is there, nothing is accepted
pub still_rest : {T : Type 0} (store middle now : Store) (result : Result T CarryFault) (turn : T) → KeepsRest store middle
    → OnOk result (KeepsRest middle now) → result ≡ Ok turn → accepted_in now ≡ accepted_in store
still_rest {T} store middle now (Ok x) turn rest rest_now is = rest_now.accepted ∙ rest.accepted
still_rest {T} store middle now (Err fault) turn rest rest_now is = absurd (let no : ⊥ = cc in no)

-- ---- a flight

-- where all that was accepted is committed, the manifest behind an archive is that of what was accepted
settled_next : (given other : Option (List ℕ)) (source after : RepoState) (store middle : Store) (named was : ArchiveRef) (text : List ℕ)
    → IsSettled middle → other ≡ given → after ≡ source → was ≡ named → accepted_in middle ≡ accepted_in store
    → (repo_view middle.repo).keys ≡ (repo_view store.repo).keys
    → named_next other after middle was (content_id (repo_view middle.repo).keys text)
    ≡ next_named given source.manifest (accepted_in store) named (content_id (repo_view store.repo).keys text)
settled_next given other source after store middle named was text settled options repo called accepted keys =
    ap (λ (m : ManifestText). next_with other after was (accepted_in middle) m (content_id (repo_view middle.repo).keys text)) (sym settled)
    ∙ (ap (λ (o : Option (List ℕ)). next_named o after.manifest (accepted_in middle) was (content_id (repo_view middle.repo).keys text)) options
    ∙ (ap (λ (r : RepoState). next_named given r.manifest (accepted_in middle) was (content_id (repo_view middle.repo).keys text)) repo
    ∙ (ap (λ (e : ArchiveRef). next_named given source.manifest (accepted_in middle) e (content_id (repo_view middle.repo).keys text)) called
    ∙ (ap (λ (m : ManifestText). next_named given source.manifest m named (content_id (repo_view middle.repo).keys text)) accepted
    ∙ ap (λ (k : Keys). next_named given source.manifest (accepted_in store) named (content_id k text)) keys))))

-- a name that is lacked, in the words of the flight and of the store in front
lacked_before : (named was : ArchiveRef) (before after : ManifestText) → was ≡ named → after ≡ before
    → archive_named was.name after.archives ≡ None → archive_named named.name before.archives ≡ None
lacked_before named was before after called accepted lacks =
    subst (λ (m : ManifestText). archive_named named.name m.archives ≡ None) accepted
    (subst (λ (e : ArchiveRef). archive_named e.name after.archives ≡ None) called lacks)

-- the archive of a flight is named
pub flown_named : (told : Option Told) (options other : Options) (source after : RepoState) (store middle now : Store) (named was : ArchiveRef)
    (records : List TaggedRecord) (x y z : Option (List ℕ)) → IsSettled middle → other ≡ options → after ≡ source → was ≡ named
    → accepted_in middle ≡ accepted_in store → (repo_view middle.repo).keys ≡ (repo_view store.repo).keys
    → archive_named named.name source.manifest.archives ≡ Some named → archive_named was.name (accepted_in middle).archives ≡ None → y ≡ x
    → NamesNew other.timestamp after middle was records now y z
    → AcceptsNames (origin_of told source options) (named.name ∷ []) records store now x z
flown_named told options other source after store middle now named was records x y z settled asked repo called accepted keys named_is lacks undrawn next =
    let given = options.timestamp in
    let text = next.one.text in
    let given_is : other.timestamp ≡ given = ap (λ (o : Options). o.timestamp) asked in
    let new : IsNewIn source.manifest (accepted_in store) named.name =
    record { named = named; named_is = named_is; lacks = lacked_before named was (accepted_in store) (accepted_in middle) called accepted lacks } in
    let id = content_id (repo_view store.repo).keys text in
    let is = next.accepted ∙ settled_next given other.timestamp source after store middle named was text settled given_is repo called accepted keys in (
      named_one given source.manifest (repo_view store.repo).keys (accepted_in store) named.name records (accepted_in now)
          (subst (λ (l : List TaggedRecord). IsNamedNext given source.manifest (repo_view store.repo).keys (accepted_in store) named.name l (accepted_in now))
          (sym next.records_are) (
            inr (new, (id, (refl, is))),
            (subst (λ (k : Keys). length (manifest_text k next.one.manifest_salt (accepted_in now)) ≤ content_limit) keys next.small, tt),
          )),
      subst (λ (o : Option (List ℕ)). DrawsSalts records o z) undrawn next.drew,
    )

-- it was there
pub flown_present : (from : Origin) (name : List ℕ) (store now : Store) (records : List TaggedRecord) (x z : Option (List ℕ))
    → IsSome (archive_named name (accepted_in store).archives) → accepted_in now ≡ accepted_in store → z ≡ x → records ≡ []
    → AcceptsNames from (name ∷ []) records store now x z
flown_present from name store now records x z there same undrawn none =
    subst (λ (l : List TaggedRecord). AcceptsNames from (name ∷ []) l store now x z) (sym none) (
      named_one from.time from.repo.manifest (repo_view store.repo).keys (accepted_in store) name [] (accepted_in now) (inl (there, (refl, same)), tt),
      draws_none x z undrawn,
    )

-- or with it the manifest is too large
pub flown_large : (now : Option Told) (given other : Option (List ℕ)) (source after : RepoState) (store middle : Store) (named was : ArchiveRef)
    (fault : CarryFault) → IsSettled middle → other ≡ given → after ≡ source → was ≡ named → accepted_in middle ≡ accepted_in store
    → (repo_view middle.repo).keys ≡ (repo_view store.repo).keys → archive_named named.name source.manifest.archives ≡ Some named
    → IsLimited now other after middle was fault → fault ≡ Target TooLarge
    → IfSome now (λ _. HasLargeNext given source.manifest (repo_view store.repo).keys (accepted_in store) named.name)
flown_large now given other source after store middle named was fault settled options repo called accepted keys named_is limited is =
    IfSome_then now limited (λ t large.
    let l = large is in
    record {
      new = record { named = named; named_is = named_is; lacks = lacked_before named was (accepted_in store) (accepted_in middle) called accepted l.lacks };
      large = λ text salt size.
          subst (λ (m : ManifestText). content_limit < length (manifest_text (repo_view store.repo).keys salt m))
          (settled_next given other source after store middle named was text settled options repo called accepted keys)
          (subst (λ (k : Keys). content_limit < length (manifest_text k salt
          (named_next other after middle was (content_id (repo_view middle.repo).keys text)))) keys (l.large text salt size));
    })

-- where a flight isn't begun, no manifest is too large
pub begin_small : (X P : Type 0) (fault : CarryFault) (name : List ℕ) → (fault ≡ Memory) ⊎ ((fault ≡ NotFound name) × P) → fault ≡ Target TooLarge → X
begin_small X P fault name (inl e) is = absurd (let both : Memory ≡ Target TooLarge = sym e ∙ is in let no : ⊥ = cc in no)
begin_small X P fault name (inr e) is = absurd (let both : NotFound name ≡ Target TooLarge = sym e.0 ∙ is in let no : ⊥ = cc in no)

-- ---- names, one after another

-- behind a front of these names the manifest with the next is too large
pub one_large : (now : Option Told) (given : Option (List ℕ)) (source after : ManifestText) (keys other : Keys) (heard : Option Told)
    (names done : List (List ℕ)) (name : List ℕ) (rest ids : List (List ℕ)) (manifest middle : ManifestText) → after ≡ source → other ≡ keys
    → names ≡ done ++ name ∷ rest → AllByRecursion HasIdSize ids → AreNextOf given source manifest done ids middle
    → IfSome heard (λ b. IfSome now (λ t. TellsNames manifest done b.history t.history)) → IfSome now (λ _. HasLargeNext given after other middle name)
    → IfSome heard (λ b. IfSome now (λ t. LimitsNames given source keys manifest names (λ told. TellsNames manifest told b.history t.history)))
one_large now given source after keys other heard names done name rest ids manifest middle repo same split sizes are told large =
    IfSome_then heard told (λ b known. both now b known large) where
      both : (o : Option Told) (b : Told) → IfSome o (λ t. TellsNames manifest done b.history t.history)
          → IfSome o (λ _. HasLargeNext given after other middle name)
          → IfSome o (λ t. LimitsNames given source keys manifest names (λ told. TellsNames manifest told b.history t.history))
      both None b known big = tt
      both (Some t) b known big = record {
        done = done;
        name = name;
        rest = rest;
        split = split;
        told = known;
        middle = middle;
        ids = ids;
        sizes = sizes;
        behind = are;
        large = subst (λ (k : Keys). HasLargeNext given source k middle name) same
            (subst (λ (m : ManifestText). HasLargeNext given m other middle name) repo big);
      }
