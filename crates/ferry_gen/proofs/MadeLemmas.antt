-- Lemmas on specs/Steps.antt: the archives that are there, from a new repository on, and what the files say behind them.
use Rattle.std.proofs.Common.{◌≡◌, ◌≢◌, inl, ◌<◌, ◌+◌, ℕ, zero, suc, false, List, [], ◌∷◌, ◌++◌}
use Rattle.std.proofs.Common.{length, Option, Some, None}
use Rattle.std.proofs.Common.{IfSome, IsSome, refl, sym, ◌∙◌, ap, subst, arith, length-append}
use Rattle.ferry_base.specs.Limits.{zero_id}
use Rattle.ferry_blob.specs.Blob.{OpensTo, content_id}
use Rattle.ferry_carry.specs.Copied.{adds_of}
use Rattle.ferry_disk.proofs.ImageLemmas.{plain_read}
use Rattle.ferry_disk.specs.Act.{History, files_now}
use Rattle.ferry_disk.specs.Device.{Told}
use Rattle.ferry_disk.specs.Image.{PlainFate}
use Rattle.ferry_disk.specs.Moments.{Between}
use Rattle.ferry_disk.specs.declared.name.Name.TheVariants.{Config as ConfigFile}
use Rattle.ferry_mac.specs.declared.keys.Keys.{Keys}
use Rattle.ferry_manifest.specs.Manifest.Text.{ManifestText, in_order}
use Rattle.ferry_manifest.specs.declared.manifest.ArchiveRef.{ArchiveRef}
use Rattle.ferry_manifest.specs.declared.manifest.Manifest.{Manifest}
use Rattle.ferry_next.specs.Next.{next_manifest, union, with_archive, written_at}
use Rattle.ferry_piece.proofs.AmongLemmas.{all_both, all_front, each_to}
use Rattle.ferry_piece.specs.Gather.{Gathered, Gathers, HoldsContents, IsAmong, KeepsRest, NoCollision}
use Rattle.ferry_piece.specs.Puts.{Addition, Within, contents_in}
use Rattle.ferry_repo.specs.Archives.{archive_named}
use Rattle.ferry_repo.specs.Objects.{HoldsChunk}
use Rattle.ferry_repo.specs.Opening.{RepoState, repo_view}
use Rattle.ferry_segment.specs.Entry.{PutEntry}
use Rattle.ferry_store.proofs.StandingLemmas.{live_renewed}
use Rattle.ferry_store.specs.Commit.{Commits, IsSettled, accepted_in}
use Rattle.ferry_store.specs.Standing.{UnlocksSettings, entries_of, live_in, with_manifest}
use Rattle.ferry_store.specs.State.{Written, all_committed, with_entry}
use Rattle.ferry_store.specs.Store.{StoreFits}
use Rattle.ferry_store.specs.declared.store.Store.{Store}
use Rattle.ferry_write.specs.Script.{AllDone}
use Rattle.ferry_gen.proofs.ListLemmas.{contents_then, entries_with, entry_none, records_then}
use Rattle.ferry_gen.specs.Archives.{AreRecordsOf, IsRecordOf, contents_from, drill_items, entries_from, entry_of}
use Rattle.ferry_gen.specs.Content.{archive_name, archive_time}
use Rattle.ferry_gen.specs.Source.{IsPlain, item_names, new_time, source_block, source_secret}
use Rattle.ferry_gen.specs.Steps.{AreHeld, HasMade, PutsArchive, most_pending, names_behind}

-- ---- chunks

module _ (store now : Store) (h g : History) (fits : StoreFits false store h) (fits_then : StoreFits false now g)
    (keys : (repo_view now.repo).keys ≡ (repo_view store.repo).keys)
    (keeps : (id blob : List ℕ) → id ≢ zero_id → live_in id (entries_of fits.written) ≡ Some blob → live_in id (entries_of fits_then.written) ≡ Some blob) where
  -- a chunk is there as long as its id is live by what is written
  pub chunk_by : (id content : List ℕ) → HoldsChunk (files_now h) (repo_view store.repo).log (repo_view store.repo).keys id content
      → HoldsChunk (files_now g) (repo_view now.repo).log (repo_view now.repo).keys id content
  chunk_by id content chunk =
      let object = chunk.object in
      let live = keeps id object.blob chunk.chunk ((fits.holds id object.blob chunk.chunk).0 object.has) in
      record {
        chunk = chunk.chunk;
        object = record {
          blob = object.blob;
          has = (fits_then.holds id object.blob chunk.chunk).1 live;
          opens = subst (λ (k : Keys). OpensTo k id object.blob content) (sym keys) object.opens;
        };
      }

  -- and so are contents
  pub contents_by : (contents : List (List ℕ)) → HoldsContents (files_now h) (repo_view store.repo) contents
      → HoldsContents (files_now g) (repo_view now.repo) contents
  contents_by contents all =
      each_to _ _ contents (λ content chunk.
      subst (λ (k : Keys). HoldsChunk (files_now g) (repo_view now.repo).log (repo_view now.repo).keys (content_id k content) content) (sym keys)
      (chunk_by (content_id (repo_view store.repo).keys content) content chunk)) all

-- contents more
held_more : (store now : Store) (added : List Addition) (contents : List (List ℕ)) (h g : History) (fits : StoreFits false store h)
    → Gathered Within most_pending false store added now h g fits → KeepsRest store now → AreHeld (files_now h) (repo_view store.repo) contents
    → AreHeld (files_now g) (repo_view now.repo) (contents ++ contents_in added)
held_more store now added contents h g fits end rest held scope apart all =
    let parts = all_front (IsAmong scope) contents (contents_in added) all in
    let before = subst (λ (k : Keys). NoCollision k scope) rest.keys apart in
    let old = held scope before parts.0 in
    let new = end.brings scope before parts.1 old.0 in (
      new.0,
      all_both _ contents (contents_in added)
          (contents_by store now h g fits end.fits_now rest.keys (λ id blob chunk live. end.moved.entries id blob live) contents old.1) new.1,
    )

-- the same contents behind a commit
held_committed : (store now : Store) (blob : List ℕ) (contents : List (List ℕ)) (h g : History) (fits : StoreFits false store h)
    (fits_then : StoreFits false now g) → fits_then.written ≡ all_committed (with_entry fits.written (PutEntry zero_id blob))
    → (repo_view now.repo).keys ≡ (repo_view store.repo).keys → AreHeld (files_now h) (repo_view store.repo) contents
    → AreHeld (files_now g) (repo_view now.repo) contents
held_committed store now blob contents h g fits fits_then is keys held scope apart all =
    let same : (id : List ℕ) → id ≢ zero_id → live_in id (entries_of fits_then.written) ≡ live_in id (entries_of fits.written) =
    λ id chunk. ap (λ (w : Written). live_in id (entries_of w)) is ∙ live_renewed fits.written blob id chunk in
    let old = held scope (subst (λ (k : Keys). NoCollision k scope) keys apart) all in (
      λ id content chunk.
          old.0 id content (chunk_by now store g h fits_then fits (sym keys) (λ i b c live. sym (same i c) ∙ live) id content chunk),
      contents_by store now h g fits fits_then keys (λ i b c live. same i c ∙ live) contents old.1,
    )

-- ---- the settings

-- what is read of `config` is what was written
pub settings_read : (store : Store) (h : History) (fits : StoreFits false store h) → (files_now h).config ≡ fits.written.config
settings_read store h fits =
    plain_read h.start h.acts ConfigFile (λ k e. let no : ⊥ = cc in no) ∙ ap (λ (f : PlainFate). f.read) fits.under_way.config

-- ---- one archive more

-- the name of the next archive is free, over what the depot tells
pub free_told : (archive : ℕ) (store middle : Store) (entry : ArchiveRef) (id : List ℕ) (a : Option Told) → IsSome a → archive < 64
    → IfSome a (λ t. HasMade archive store t.history) → KeepsRest store middle
    → entry ≡ record { name = archive_name archive; id = id; time = archive_time } → archive_named entry.name (accepted_in middle).archives ≡ None
free_told archive store middle entry id None told low made rest is = absurd (let no : ⊥ = cc in no)
free_told archive store middle entry id (Some t) told low made rest is =
    let keys = (repo_view store.repo).keys in
    let archives = ap (λ (m : ManifestText). m.archives) rest.accepted ∙ made.archives in
    ap (λ (e : ArchiveRef). archive_named e.name (accepted_in middle).archives) is
    ∙ (ap (archive_named (archive_name archive)) archives ∙ entry_none keys 0 archive made.texts (omega (arith, made.texts_size)) low)

-- the names of the fields of items, behind those of the archives before
union_plain : (archive : ℕ) → union (names_behind archive) item_names ≡ item_names
unfolding in_order
union_plain zero = refl
union_plain (suc archive) = refl

plain_next : (archive : ℕ) (manifest : ManifestText) (entry : ArchiveRef) (time : List ℕ) → time ≡ new_time → IsPlain (names_behind archive) manifest
    → IsPlain item_names (written_at (next_manifest manifest entry item_names) time)
plain_next archive manifest entry time is plain =
    (ap Some is, ap (λ (l : List (List ℕ)). union l item_names) plain.1 ∙ union_plain archive)

-- an archive whose contents were added is named and committed
pub made_next : (archive : ℕ) (store middle now : Store) (accepted : Manifest) (entry : ArchiveRef) (time blob id : List ℕ) (a b d : Option Told)
    → time ≡ new_time → archive < 64 → IfSome a (λ t. StoreFits false store t.history) → IfSome a (λ t. HasMade archive store t.history) → IsSettled store
    → KeepsRest store middle → PutsArchive archive (repo_view store.repo).keys store middle a b id
    → entry ≡ record { name = archive_name archive; id = id; time = archive_time }
    → accepted_in (record middle { accepted = accepted }) ≡ next_manifest (accepted_in middle) entry item_names
    → Between b d (λ g k. AllDone g k × Commits (record middle { accepted = accepted }) (PutEntry zero_id blob) now g k)
    → repo_view now.repo ≡ with_manifest (repo_view middle.repo) (written_at (accepted_in (record middle { accepted = accepted })) time)
    → accepted_in now ≡ written_at (accepted_in (record middle { accepted = accepted })) time
    → Between a d (λ h k. HasMade (suc archive) now k × StoreFits false now k)
made_next archive store middle now accepted entry time blob id a b d time_is low fits_a made_a settled rest puts entry_is named_is committed repo_is
    accepted_is =
    joined a b d fits_a made_a puts.puts.1.1 committed
  where
    keys : Keys
    keys = (repo_view store.repo).keys

    named : Store
    named = record middle { accepted = accepted }

    keys_are : (repo_view now.repo).keys ≡ (repo_view middle.repo).keys
    keys_are = ap (λ (r : RepoState). r.keys) repo_is

    same_keys : (repo_view now.repo).keys ≡ keys
    same_keys = keys_are ∙ rest.keys

    archives_are : (accepted_in now).archives ≡ with_archive (accepted_in middle).archives entry
    archives_are =
        ap (λ (m : ManifestText). m.archives) accepted_is ∙ ap (λ (m : ManifestText). m.archives) named_is

    accepted_now : accepted_in now ≡ written_at (next_manifest (accepted_in store) entry item_names) time
    accepted_now =
        accepted_is
        ∙ ap (λ (m : ManifestText). written_at m time)
        (named_is ∙ ap (λ (m : ManifestText). next_manifest m entry item_names) rest.accepted)

    plain_now : IsPlain (names_behind archive) (accepted_in store) → IsPlain item_names (accepted_in now)
    plain_now plain = subst (IsPlain item_names) (sym accepted_now) (plain_next archive (accepted_in store) entry time time_is plain)

    next : (h g k : History) (fits : StoreFits false store h) → HasMade archive store h → Gathers most_pending store puts.puts.0 middle h g
        → Commits named (PutEntry zero_id blob) now g k → HasMade (suc archive) now k × StoreFits false now k
    next h g k fits made gathers commits =
        let texts = made.texts in
        let end = gathers false fits in
        let between = end.fits_now in
        let fits_named : StoreFits false named g =
        record {
          written = between.written;
          under_way = between.under_way;
          settings = between.settings;
          repo = between.repo;
          below = between.below;
          there = between.there;
          holds = between.holds;
          manifest = between.manifest;
          keeps = between.keeps;
          pending = between.pending;
          chunks = between.chunks;
          learnt = between.learnt;
        } in
        let last = commits false fits_named in
        let size : 0 + length texts ≡ archive = omega (arith, made.texts_size) in
        let one : entry ≡ entry_of keys archive puts.text =
        entry_is ∙ ap (λ (i : List ℕ). record { name = archive_name archive; id = i; time = archive_time }) puts.id_is in
        let all_entries : (accepted_in now).archives ≡ entries_from keys 0 (texts ++ puts.text ∷ []) =
        archives_are
        ∙ (ap (λ (l : List ArchiveRef). with_archive l entry) (ap (λ (m : ManifestText). m.archives) rest.accepted ∙ made.archives)
        ∙ (ap (with_archive (entries_from keys 0 texts)) one ∙ entries_with keys archive texts puts.text made.texts_size low)) in
        let all_records : AreRecordsOf keys source_block 0 (texts ++ puts.text ∷ []) =
        records_then keys source_block 0 texts puts.text made.records
        (subst (λ (n : ℕ). IsRecordOf keys source_block n puts.text) (sym size) puts.is) in
        let contents : contents_from keys source_block 0 texts ++ contents_in puts.puts.0 ≡ contents_from keys source_block 0 (texts ++ puts.text ∷ []) =
        ap (λ (l : List (List ℕ)). contents_from keys source_block 0 texts ++ l)
        (puts.puts.1.0 ∙ ap (λ (n : ℕ). adds_of keys source_block (drill_items n) puts.text) (sym size))
        ∙ sym (contents_then keys source_block 0 texts puts.text) in
        let held = held_committed named now blob (contents_from keys source_block 0 texts ++ contents_in puts.puts.0) g k fits_named last.0 last.1 keys_are
        (held_more store middle puts.puts.0 (contents_from keys source_block 0 texts) h g fits end rest made.held) in
        let config : (files_now k).config ≡ (files_now h).config =
        settings_read now k last.0 ∙ (ap (λ (w : Written). w.config) last.1 ∙ (end.moved.config ∙ sym (settings_read store h fits))) in
        let IsSo : Keys → Type 0 = λ k0.
        UnlocksSettings source_secret (files_now k).config made.config k0 × (((accepted_in now).archives ≡ entries_from k0 0 (texts ++ puts.text ∷ []))
        × (AreRecordsOf k0 source_block 0 (texts ++ puts.text ∷ [])
        × AreHeld (files_now k) (repo_view now.repo) (contents_from k0 source_block 0 (texts ++ puts.text ∷ [])))) in
        let so : IsSo (repo_view now.repo).keys =
        subst IsSo (sym same_keys) (
          subst (λ (c : Option (List ℕ)). UnlocksSettings source_secret c made.config keys) (sym config) made.unlocks,
          (all_entries, (all_records, subst (AreHeld (files_now k) (repo_view now.repo)) contents held)),
        ) in
        let grown = length-append texts (puts.text ∷ []) in (
          record {
            texts = texts ++ puts.text ∷ [];
            texts_size = grown ∙ (let e : length texts + 1 ≡ suc archive = omega (arith, made.texts_size) in e);
            config = made.config;
            unlocks = so.0;
            plain = plain_now made.plain;
            archives = so.1.0;
            records = so.1.1.0;
            held = so.1.1.1;
          },
          last.0,
        )

    joined : (a b d : Option Told) → IfSome a (λ t. StoreFits false store t.history) → IfSome a (λ t. HasMade archive store t.history)
        → Between a b (Gathers most_pending store puts.puts.0 middle) → Between b d (λ g k. AllDone g k × Commits named (PutEntry zero_id blob) now g k)
        → Between a d (λ h k. HasMade (suc archive) now k × StoreFits false now k)
    joined None b d fits made gathers commits = tt
    joined (Some s) None d fits made gathers commits = absurd (let e = gathers.1 in let no : ⊥ = cc in no)
    joined (Some s) (Some t) d fits made gathers commits =
        let same : gathers.0 ≡ t = (let e = gathers.1 in cc) in (
          commits.0,
          commits.1,
          next s.history t.history commits.0.history fits made
              (subst (λ (u : Told). Gathers most_pending store puts.puts.0 middle s.history u.history) same gathers.2) commits.2.1,
        )
