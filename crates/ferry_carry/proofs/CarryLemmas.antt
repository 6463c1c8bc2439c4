-- Lemmas on specs/Carrying.antt: an archive that was carried stays so, and one that can be named is carried once its name is committed.
use Rattle.std.proofs.Common.{◌≡◌, ◌≢◌, ◌⊎◌, inl, inr, ℕ, Bool, List, [], ◌∷◌, ◌++◌, Some, refl, sym, ◌∙◌}
use Rattle.std.proofs.Common.{ap, subst}
use Rattle.std.proofs.lemmas.List.{append-nil, append_assoc}
use Rattle.std.proofs.lemmas.Option.{IfSome_then}
use Rattle.std.specs.List.{AllByRecursion}
use Rattle.ferry_base.specs.Limits.{zero_id}
use Rattle.ferry_blob.proofs.CallerLemmas.{opened_id}
use Rattle.ferry_blob.proofs.LawLemmas.{one_content}
use Rattle.ferry_blob.specs.Blob.{OpensTo, content_id}
use Rattle.ferry_disk.specs.Act.{History, files_now}
use Rattle.ferry_disk.specs.Files.{Files}
use Rattle.ferry_log.specs.State.{LogState}
use Rattle.ferry_mac.specs.declared.keys.Keys.{Keys}
use Rattle.ferry_manifest.specs.Manifest.Text.{ManifestText}
use Rattle.ferry_manifest.specs.declared.manifest.ArchiveRef.{ArchiveRef}
use Rattle.ferry_repo.specs.Archives.{archive_named}
use Rattle.ferry_repo.specs.Objects.{HasBlob, HoldsChunk}
use Rattle.ferry_repo.specs.Opening.{RepoState, repo_view}
use Rattle.ferry_repo.specs.Whole.{IsWhole, WholeArchive}
use Rattle.ferry_segment.specs.Entry.{LogEntry, CommitEntry, PutEntry}
use Rattle.ferry_store.proofs.LiveLemmas.{live_commit, live_other, live_put, same_or}
use Rattle.ferry_store.proofs.StandingLemmas.{live_manifest}
use Rattle.ferry_store.specs.Standing.{entries_committed, entries_of, live_in}
use Rattle.ferry_store.specs.State.{with_entry}
use Rattle.ferry_store.specs.Store.{StoreFits}
use Rattle.ferry_store.specs.declared.store.Store.{Store}
use Rattle.ferry_piece.proofs.PutsLemmas.{contents_append}
use Rattle.ferry_carry.proofs.WholeLemmas.{HoldsPiece, copied_whole, whole_kept}
use Rattle.ferry_piece.proofs.AmongLemmas.{all_front, each_to}
use Rattle.ferry_carry.specs.Carrying.{CanBeNamed, CarriesOver, EntersOver, HasLive, IsApart, IsCarried, IsReadyToName, IsWholeBy, LivesWithin, Origin, SaysIn}
use Rattle.ferry_carry.specs.Copied.{adds_of}
use Rattle.ferry_piece.specs.Gather.{HoldsContents, IsAmong}
use Rattle.ferry_carry.specs.Grow.{KeepsChunks, KeepsNames}
use Rattle.ferry_piece.specs.Puts.{Addition, AddsAll, AtBegin, AtEnd, Border, ComesBefore, IsAddedBehind, MayCome, Within, border_of, contents_in}
use Rattle.ferry_piece.specs.Puts.{manifests_committed}

-- ---- what is live behind what was added

module _ (scope : List (List ℕ)) (keys : Keys) where
  lives_commit : (entries : List LogEntry) → LivesWithin scope keys entries → LivesWithin scope keys (entries ++ CommitEntry ∷ [])
  lives_commit entries within id blob content apart live opens = within id blob content apart (sym (live_commit id entries) ∙ live) opens

  lives_manifest : (entries : List LogEntry) (blob : List ℕ) → LivesWithin scope keys entries → LivesWithin scope keys (entries ++ PutEntry zero_id blob ∷ [])
  lives_manifest entries blob within id other content apart live opens =
      within id other content apart (sym (live_other zero_id blob id entries apart) ∙ live) opens

  lives_manifests : (entries : List LogEntry) (blobs : List (List ℕ)) → LivesWithin scope keys entries
      → LivesWithin scope keys (entries ++ manifests_committed blobs)
  lives_manifests entries [] within = subst (LivesWithin scope keys) (sym (append-nil entries)) within
  lives_manifests entries (blob ∷ blobs) within =
      let first = entries ++ PutEntry zero_id blob ∷ [] in
      let rest = manifests_committed blobs in
      subst (LivesWithin scope keys)
      (append_assoc first (CommitEntry ∷ []) rest ∙ append_assoc entries (PutEntry zero_id blob ∷ []) (CommitEntry ∷ rest))
      (lives_manifests (first ++ CommitEntry ∷ []) blobs (lives_commit first (lives_manifest entries blob within)))

  -- a content that is put is live then, and no other is that wasn't
  lives_put : (entries : List LogEntry) (id blob content : List ℕ) → OpensTo keys id blob content → IsAmong scope content → LivesWithin scope keys entries
      → LivesWithin scope keys (entries ++ PutEntry id blob ∷ [])
  lives_put entries id blob content put among within other found text apart live opens = by_id (same_or id other) where
    by_id : (other ≡ id) ⊎ (other ≢ id) → IsAmong scope text
    by_id (inl is) =
        let both : Some blob ≡ Some found =
        sym (live_put id blob entries) ∙ (ap (λ (i : List ℕ). live_in i (entries ++ PutEntry id blob ∷ [])) (sym is) ∙ live) in
        let same : found ≡ blob = cc in
        let opened : OpensTo keys id blob text =
        subst (λ (b : List ℕ). OpensTo keys id b text) same (subst (λ (i : List ℕ). OpensTo keys i found text) is opens) in
        subst (IsAmong scope) (one_content keys id blob content text put opened) among
    by_id (inr differ) = within other found text apart (sym (live_other id blob other entries differ) ∙ live) opens

  lives_may : (at : Border) (before others : List LogEntry) → MayCome at before others → LivesWithin scope keys before
      → LivesWithin scope keys (before ++ others)
  lives_may Within before others none within =
      subst (λ (l : List LogEntry). LivesWithin scope keys (before ++ l)) (sym none) (subst (LivesWithin scope keys) (sym (append-nil before)) within)
  lives_may AtEnd before others may within =
      subst (λ (l : List LogEntry). LivesWithin scope keys (before ++ l)) (sym may.1) (lives_manifests before may.0 within)
  lives_may AtBegin before others (inl none) within =
      subst (λ (l : List LogEntry). LivesWithin scope keys (before ++ l)) (sym none) (subst (LivesWithin scope keys) (sym (append-nil before)) within)
  lives_may AtBegin before others (inr some) within =
      subst (λ (l : List LogEntry). LivesWithin scope keys (before ++ l)) (sym some.1) (lives_commit before within)

  lives_comes : (most : ℕ) (front : List LogEntry) (one : Addition) (after : List LogEntry) → ComesBefore keys most front one after
      → LivesWithin scope keys front → LivesWithin scope keys after
  lives_comes most front one after (inl same) within = subst (LivesWithin scope keys) (sym same) within
  lives_comes most front one after (inr full) within = subst (LivesWithin scope keys) (sym full.1) (lives_commit front within)

  lives_one : (most : ℕ) (front : List LogEntry) (one : Addition) (after : List LogEntry) → IsAddedBehind keys most front one after
      → IsAmong scope one.content → LivesWithin scope keys front → LivesWithin scope keys after
  lives_one most front one after (inl there) among within = subst (LivesWithin scope keys) (sym there.1.1) within
  lives_one most front one after (inr new) among within =
      subst (LivesWithin scope keys) (sym new.1.1.1)
      (lives_put front (content_id keys one.content) new.1.0 one.content new.1.1.0.opens among within)

  -- what is live behind what was added was live before, or is of what was added
  pub lives_added : (at : Border) (most : ℕ) (a : List LogEntry) (added : List Addition) (b : List LogEntry) → AddsAll at keys most a added b
      → AllByRecursion (IsAmong scope) (contents_in added) → LivesWithin scope keys a → LivesWithin scope keys b
  lives_added at most a [] b p all within = subst (LivesWithin scope keys) (sym p.1.1) (lives_may at a p.0 p.1.0 within)
  lives_added at most a (one ∷ rest) b p all within =
      let before = a ++ p.0 in
      let front = p.1.1.0 in
      let middle = p.1.1.1.1.0 in
      lives_added (border_of one.kind) most middle rest b p.1.1.1.1.1.1 all.1
      (lives_one most front one middle p.1.1.1.1.1.0 all.0
      (lives_comes most before one front p.1.1.1.0 (lives_may at a p.0 p.1.0 within)))

-- ---- what may collide

-- among the first of what was added no contents collide where none do among all, nor among the last
pub apart_parts : (scope : List (List ℕ)) (keys : Keys) (base : List LogEntry) (some more : List Addition) → IsApart scope keys base (some ++ more)
    → IsApart scope keys base some × IsApart scope keys base more
apart_parts scope keys base some more apart =
    let added = all_front (IsAmong scope) (contents_in some) (contents_in more)
    (subst (AllByRecursion (IsAmong scope)) (contents_append some more) apart.added) in
    (record { one = apart.one; added = added.0; live = apart.live }, record { one = apart.one; added = added.1; live = apart.live })

-- nor do they behind what was added before
pub apart_behind : (scope : List (List ℕ)) (keys : Keys) (at : Border) (most : ℕ) (a b : List LogEntry) (earlier added others : List Addition)
    → AddsAll at keys most a added b → IsApart scope keys a (earlier ++ (added ++ others)) → IsApart scope keys b ((earlier ++ added) ++ others)
apart_behind scope keys at most a b earlier added others adds apart =
    let contents : contents_in (earlier ++ (added ++ others)) ≡ contents_in earlier ++ (contents_in added ++ contents_in others) =
    contents_append earlier (added ++ others) ∙ ap (λ (cs : List (List ℕ)). contents_in earlier ++ cs) (contents_append added others) in
    let behind = (all_front (IsAmong scope) (contents_in earlier) (contents_in added ++ contents_in others)
    (subst (AllByRecursion (IsAmong scope)) contents apart.added)).1 in
    record {
      one = apart.one;
      added = subst (λ (l : List Addition). AllByRecursion (IsAmong scope) (contents_in l)) (sym (append_assoc earlier added others)) apart.added;
      live = lives_added scope keys at most a added b adds (all_front (IsAmong scope) (contents_in added) (contents_in others) behind).0 apart.live;
    }

-- Where no contents collide among those that were added later and those that were live then, none collide among these.
abbrev pub StaysApart : Keys → List LogEntry → List Addition → List LogEntry → List Addition → Type 0
StaysApart keys base added base_now added_now = (scope : List (List ℕ)) → IsApart scope keys base_now added_now → IsApart scope keys base added

-- ---- what stays

whole_by : (keys : Keys) (a b : List LogEntry) (before after : ManifestText) (name : List ℕ) (whole : WholeArchive) → KeepsChunks a b
    → KeepsNames before after → IsWholeBy a keys before.archives name whole → IsWholeBy b keys after.archives name whole
whole_by keys a b before after name whole keeps names by files log has =
    let is : IsWhole files log keys before.archives name whole = by files log (λ id blob apart live. has id blob apart (keeps id blob apart live)) in
    whole_kept files log keys files log before.archives after.archives name whole is (λ id content chunk. chunk)
    (names name is.named is.named_is ∙ sym is.named_is)

-- the entry of an archive stays where each name is kept
abbrev pub entry_kept : (there : Files) (from : Origin) (keys : Keys) (before after : ManifestText) (name : List ℕ) → KeepsNames before after
    → EntersOver there from keys before.archives name → EntersOver there from keys after.archives name
entry_kept there from keys before after name names c = record {
  whole = c.whole;
  source = c.source;
  entry = c.entry;
  entry_is = names name c.entry c.entry_is;
  text = c.text;
  id = c.id;
}

module _ (from : Origin) (keys : Keys) (added more : List Addition) (base base_now a b : List LogEntry) (before after : ManifestText) where
  carries_on : (there : Files) (name : List ℕ) → StaysApart keys base added base_now more → KeepsChunks a b → KeepsNames before after
      → CarriesOver there from added base keys a before.archives name → CarriesOver there from more base_now keys b after.archives name
  carries_on there name stays keeps names c = record {
    over = entry_kept there from keys before after name names c.over;
    record_is = c.record_is;
    target = λ scope apart. whole_by keys a b before after name c.whole keeps names (c.target scope (stays scope apart));
  }

  -- archives that were carried stay so where each chunk and each archive is kept
  pub all_carried : (names : List (List ℕ)) → StaysApart keys base added base_now more → KeepsChunks a b → KeepsNames before after
      → AllByRecursion (IsCarried from added base keys a before.archives) names
      → AllByRecursion (IsCarried from more base_now keys b after.archives) names
  all_carried names stays keeps kept all =
      each_to (IsCarried from added base keys a before.archives) (IsCarried from more base_now keys b after.archives) names
      (λ name carried. IfSome_then from.files carried (λ there c. carries_on there name stays keeps kept c)) all

-- ---- an archive that is named

-- by a log with all that is live by the entries with a manifest, chunks are there that were there before
chunk_by : (counts : Bool) (store : Store) (h : History) (fits : StoreFits counts store h) (blob : List ℕ) (files : Files) (log : LogState)
    → HasLive (entries_committed (with_entry fits.written (PutEntry zero_id blob))) files log → (id content : List ℕ)
    → HoldsChunk (files_now h) (repo_view store.repo).log (repo_view store.repo).keys id content
    → HoldsChunk files log (repo_view store.repo).keys id content
chunk_by counts store h fits blob files log has id content chunk =
    let object = chunk.object in
    let live = live_manifest fits.written blob id chunk.chunk ∙ (fits.holds id object.blob chunk.chunk).0 object.has in
    record {
      chunk = chunk.chunk;
      object = record { blob = object.blob; has = has id object.blob chunk.chunk live; opens = object.opens };
    }

-- the entry of an archive that can be named, once a manifest has it
abbrev pub entry_named : (there : Files) (from : Origin) (added : List Addition) (files : Files) (repo : RepoState) (manifest : ManifestText)
    (entry : ArchiveRef) → archive_named entry.name manifest.archives ≡ Some entry → CanBeNamed there from added files repo entry
    → EntersOver there from repo.keys manifest.archives entry.name
entry_named there from added files repo manifest entry named ready =
    record { whole = ready.whole; source = ready.source; entry = entry; entry_is = named; text = ready.text; id = ready.id }

named_over : (counts : Bool) (store : Store) (h : History) (fits : StoreFits counts store h) (blob : List ℕ) (there : Files) (from : Origin)
    (added : List Addition) (manifest : ManifestText) (entry : ArchiveRef) → archive_named entry.name manifest.archives ≡ Some entry
    → CanBeNamed there from added (files_now h) (repo_view store.repo) entry
    → CarriesOver there from added (entries_of fits.written) (repo_view store.repo).keys
    (entries_committed (with_entry fits.written (PutEntry zero_id blob))) manifest.archives entry.name
named_over counts store h fits blob there from added manifest entry named ready =
    let keys = (repo_view store.repo).keys in
    record {
      over = entry_named there from added (files_now h) (repo_view store.repo) manifest entry named ready;
      record_is = (ready.copy.copied, (ready.copy.reads, ready.copy.same));
      target = λ scope apart files log has.
          let held : HoldsContents (files_now h) (repo_view store.repo) (adds_of keys from.block ready.whole.items ready.text) =
          ready.held scope apart.one apart.added (λ id content chunk.
          let object = chunk.object in
          apart.live id object.blob content chunk.chunk ((fits.holds id object.blob chunk.chunk).0 object.has) object.opens) in
          copied_whole files log keys from.block ready.whole ready.salt ready.text manifest.archives entry ready.time (record {
            entry = entry;
            entry_is = named;
            time = refl;
            id = ready.id;
            copy = ready.copy;
            there = each_to (λ content. HoldsChunk (files_now h) (repo_view store.repo).log keys (content_id keys content) content)
                (HoldsPiece files log keys) (adds_of keys from.block ready.whole.items ready.text)
                (λ content chunk. chunk_by counts store h fits blob files log has (content_id keys content) content chunk) held;
          });
    }

-- an archive all of which is there is carried once it is named in a manifest that is put and committed
pub named_carried : (counts : Bool) (store : Store) (h : History) (fits : StoreFits counts store h) (blob : List ℕ) (from : Origin)
    (added : List Addition) (manifest : ManifestText) (entry : ArchiveRef) → archive_named entry.name manifest.archives ≡ Some entry
    → IsReadyToName from added (files_now h) (repo_view store.repo) entry
    → IsCarried from (added ++ []) (entries_of fits.written) (repo_view store.repo).keys
    (entries_committed (with_entry fits.written (PutEntry zero_id blob))) manifest.archives entry.name
named_carried counts store h fits blob from added manifest entry named ready =
    let keys = (repo_view store.repo).keys in
    let base = entries_of fits.written in
    let entries = entries_committed (with_entry fits.written (PutEntry zero_id blob)) in
    subst (λ (l : List Addition). IsCarried from l base keys entries manifest.archives entry.name) (sym (append-nil added))
    (IfSome_then from.files ready (λ there c. named_over counts store h fits blob there from added manifest entry named c))

-- ---- an archive that was there

-- an archive that is whole in both is carried, by entries that keep what is live
pub same_over : (there : Files) (from : Origin) (added : List Addition) (base : List LogEntry) (files : Files) (repo : RepoState) (name : List ℕ)
    (whole : WholeArchive) (entries : List LogEntry)
    → ((id blob : List ℕ) → id ≢ zero_id → HasBlob files repo.log id blob → live_in id entries ≡ Some blob) → SaysIn there from.repo name whole
    → SaysIn files repo name whole → CarriesOver there from added base repo.keys entries repo.manifest.archives name
same_over there from added base files repo name whole entries lives source is = record {
  over = record {
    whole = whole;
    source = source;
    entry = is.named;
    entry_is = is.named_is;
    text = is.record_is.content;
    id = let chunk = is.record_is.chunk in
        opened_id repo.keys is.named.id chunk.object.blob is.record_is.content chunk.object.opens chunk.chunk;
  };
  record_is = (is.archive, (is.record_is.record_is, sym is.fields));
  target = λ scope apart other log has.
      whole_kept files repo.log repo.keys other log repo.manifest.archives repo.manifest.archives name whole is (λ id content chunk.
      let object = chunk.object in
      record {
        chunk = chunk.chunk;
        object = record {
          blob = object.blob;
          has = has id object.blob chunk.chunk (lives id object.blob chunk.chunk object.has);
          opens = object.opens;
        };
      }) refl;
}
