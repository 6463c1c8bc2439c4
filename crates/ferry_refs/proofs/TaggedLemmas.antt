-- Lemmas on specs/Tagging.antt: what is left where records have got their tags.
use Rattle.std.proofs.Common.{◌≡◌, ◌≢◌, ◌⊎◌, ◌↔◌, inl, inr, ℕ, Bool, true, false, List, [], ◌∷◌, ◌++◌, map, Option, Some, None, append_assoc}
use Rattle.std.proofs.Common.{option_map, Ok, refl, sym, ◌∙◌, ap, subst}
use Rattle.std.specs.List.{AllByRecursion, flat_map}
use Rattle.ferry_base.specs.Limits.{zero_id}
use Rattle.ferry_blob.proofs.CallerLemmas.{opened_id}
use Rattle.ferry_blob.proofs.LawLemmas.{one_content}
use Rattle.ferry_blob.specs.Blob.{OpensTo, content_id}
use Rattle.ferry_check.proofs.MarkLemmas.{either_way}
use Rattle.ferry_check.specs.Report.{ids_of, ids_used, is_among}
use Rattle.ferry_disk.specs.Files.{Files}
use Rattle.ferry_log.specs.State.{LogState}
use Rattle.ferry_mac.specs.declared.keys.Keys.{Keys}
use Rattle.ferry_manifest.specs.Manifest.Text.{ManifestText}
use Rattle.ferry_manifest.specs.Record.Text.{ArchiveText, archive_of, as_tagged}
use Rattle.ferry_manifest.specs.declared.manifest.ArchiveRef.{ArchiveRef}
use Rattle.ferry_piece.proofs.AmongLemmas.{among_all}
use Rattle.ferry_piece.specs.Gather.{HoldsWithin, IsAmong, NoCollision}
use Rattle.ferry_repo.specs.Archives.{HoldsRecord, archive_named}
use Rattle.ferry_repo.specs.Objects.{HasBlob, HoldsChunk}
use Rattle.ferry_repo.specs.Opening.{OpensFilesTo, RepoState}
use Rattle.ferry_repo.specs.Whole.{HasWhole, IsWhole, WholeArchive}
use Rattle.ferry_repo.specs.declared.secret.Secret.{Secret}
use Rattle.ferry_segment.specs.Entry.{DeleteEntry, LogEntry}
use Rattle.ferry_stops.specs.Entries.{Shows}
use Rattle.ferry_store.proofs.LiveLemmas.{live_nil}
use Rattle.ferry_store.proofs.StandingLemmas.{live_manifest, opened_manifest, opened_unlocks, stands_live}
use Rattle.ferry_store.specs.Standing.{committed_of, entries_of, live_in, with_manifest}
use Rattle.ferry_store.specs.State.{ShowsStanding, found}
use Rattle.ferry_refs.proofs.DeletedLemmas.{live_gone, live_left, live_start, whole_start}
use Rattle.ferry_refs.proofs.OldLemmas.{old_holds}
use Rattle.ferry_refs.proofs.RenamedLemmas.{names_kept, old_reads, tagged_name, untagged_name}
use Rattle.ferry_refs.proofs.SparedLemmas.{all_spared, rest_spared}
use Rattle.ferry_refs.proofs.WholeLemmas.{all_among, all_parted, chunks_left, read_of, whole_left, wholes_left}
use Rattle.ferry_refs.specs.Deleting.{with_deleted}
use Rattle.ferry_refs.specs.Tagging.{AreRenewals, IsFreed, IsOfText, IsLiveText, IsUntagged, KeepsArchives, OldRecord, ShowsRenewed, ShowsTagged, next_tagged}
use Rattle.ferry_refs.specs.Tagging.{renewed_entry, tagged_manifest, with_puts}

-- ---- what is left

-- where there are records without a tag, the manifest has new ones
some_tagged : (keys : Keys) (manifest : ManifestText) (olds : List OldRecord) (texts : List (List ℕ)) (time : List ℕ) → olds ≢ []
    → tagged_manifest keys manifest olds texts time ≡ next_tagged keys manifest olds texts time
some_tagged keys manifest [] texts time some = absurd (some refl)
some_tagged keys manifest (old ∷ olds) texts time some = refl

module _ (secret : Secret) (start image : Files) (repo : RepoState) (time : List ℕ) (committed : List LogEntry)
    (opens : OpensFilesTo start secret repo) (shown : Shows start (Some committed)) where
  start_live : (id blob : List ℕ) → HasBlob start repo.log id blob ↔ (live_in id committed ≡ Some blob)
  start_live id blob = live_start secret start image repo [] time committed opens shown id blob

  start_whole : (name : List ℕ) (whole : WholeArchive) → HasWhole start secret name whole
      → IsWhole start repo.log repo.keys repo.manifest.archives name whole
  start_whole name whole has = whole_start secret start image repo [] time committed opens shown name whole has

  -- where a stop came before it
  pub standing_left : ShowsStanding (found (Some committed) start) image → KeepsArchives secret start repo time false image
  standing_left shows =
      let live = stands_live secret image repo (found (Some committed) start) shows (opened_unlocks start secret repo opens)
      (record { entries = committed; is = refl; holds = opened_manifest start secret repo committed opens shown }) in
      let now = record repo { log = live.log } in
      let there : (id blob : List ℕ) → HasBlob start repo.log id blob → HasBlob image live.log id blob =
      λ id blob has. (live.blobs id blob).1 ((start_live id blob).0 has) in
      let back : (id blob : List ℕ) → HasBlob image live.log id blob → HasBlob start repo.log id blob =
      λ id blob has. (start_live id blob).1 ((live.blobs id blob).0 has) in
      record {
        repo = now;
        opens = live.opens;
        config = shows.1;
        names = λ name. refl;
        olds = [];
        are_tagged = refl;
        texts = [];
        renewals = tt;
        manifest = refl;
        wholes = λ scope apart all within name whole has.
            let is = start_whole name whole has in
            record {
              repo = now;
              opens = live.opens;
              is = whole_left start repo.log repo.keys image live.log (λ id. Unit {0})
                  (λ id content _ holds. chunk_over start repo.log image live.log repo.keys id content (there id) holds)
                  repo.manifest.archives repo.manifest.archives name whole is
                  (all_among (λ id. Unit {0}) (ids_used (read_of start repo.log repo.keys repo.manifest.archives name whole is)) (λ id e. tt)) refl;
            };
        untagged = λ scope apart all within name. (
          λ u. (untagged_over image live.log start repo.log now repo name (λ id. back id) refl u, refl),
          λ both. untagged_over start repo.log image live.log repo now name (λ id. there id) refl both.0,
        );
        kept = λ id blob chunk has still. there id blob has;
        gone = λ id blob chunk no. absurd (let l : ⊥ = cc in l);
        only = λ id blob chunk has. inl (back id blob has);
      }
    where
      chunk_over : (files : Files) (log : LogState) (others : Files) (after : LogState) (keys : Keys) (id content : List ℕ)
          → ((blob : List ℕ) → HasBlob files log id blob → HasBlob others after id blob) → HoldsChunk files log keys id content
          → HoldsChunk others after keys id content
      chunk_over files log others after keys id content over holds = record {
        chunk = holds.chunk;
        object = record {
          blob = holds.object.blob;
          has = over holds.object.blob holds.object.has;
          opens = holds.object.opens;
        };
      }

      untagged_over : (files : Files) (log : LogState) (others : Files) (after : LogState) (a b : RepoState) (name : List ℕ)
          → ((id blob : List ℕ) → HasBlob files log id blob → HasBlob others after id blob) → b ≡ record a { log = after }
          → IsUntagged files (record a { log = log }) name → IsUntagged others b name
      untagged_over files log others after a b name over same u =
          subst (λ (r : RepoState). IsUntagged others r name) (sym same) (record {
            named = u.named;
            named_is = u.named_is;
            archive = u.archive;
            record_is = record {
              content = u.record_is.content;
              chunk = chunk_over files log others after a.keys u.named.id u.record_is.content (over u.named.id) u.record_is.chunk;
              record_is = u.record_is.record_is;
            };
            untagged = u.untagged;
          })

  -- behind the tagging
  module _ (shows : ShowsTagged start repo time (found (Some committed) start) image) where
    abbrev next : RepoState
    next = with_manifest repo (next_tagged repo.keys repo.manifest shows.olds shows.texts time)

    -- what is live with the new records put
    abbrev put : List LogEntry
    put = entries_of (with_puts (found (Some committed) start) shows.puts)

    live_tagging : (id : List ℕ) → id ≢ zero_id
        → live_in id (committed_of (with_deleted (with_puts (found (Some committed) start) shows.puts) shows.ids shows.blob))
        ≡ live_in id (put ++ map DeleteEntry shows.ids)
    live_tagging id apart =
        live_manifest (record (found (Some committed) start) { pending = shows.puts ++ map DeleteEntry shows.ids }) shows.blob id apart
        ∙ ap (live_in id) (sym (append_assoc committed shows.puts (map DeleteEntry shows.ids)))

    module _ (log : LogState)
        (live : (id blob : List ℕ) → HasBlob image log id blob
        ↔ (live_in id (committed_of (with_deleted (with_puts (found (Some committed) start) shows.puts) shows.ids shows.blob)) ≡ Some blob)) where
      -- a blob that was put, or was there, lies there, where its id isn't deleted
      put_there : (id blob : List ℕ) → id ≢ zero_id → is_among id shows.ids ≡ false → live_in id put ≡ Some blob → HasBlob image log id blob
      put_there id blob apart off there = (live id blob).1 (live_tagging id apart ∙ (live_left id put shows.ids off ∙ there))

      start_put : (id blob : List ℕ) → HasBlob start repo.log id blob → live_in id put ≡ Some blob
      start_put id blob has = shows.brings.keeps id blob (live_nil id committed ∙ (start_live id blob).0 has)

      kept_there : (id blob : List ℕ) → id ≢ zero_id → is_among id shows.ids ≡ false → HasBlob start repo.log id blob → HasBlob image log id blob
      kept_there id blob apart off has = put_there id blob apart off (start_put id blob has)

      none_gone : (id blob : List ℕ) → id ≢ zero_id → is_among id shows.ids ≡ true → HasBlob image log id blob → ⊥
      none_gone id blob apart on has =
          let no : None ≡ Some blob = sym (live_gone id put shows.ids on) ∙ (sym (live_tagging id apart) ∙ (live id blob).0 has) in
          cc

      there_put : (id blob : List ℕ) → id ≢ zero_id → HasBlob image log id blob → live_in id put ≡ Some blob
      there_put id blob apart has =
          elim (either_way (is_among id shows.ids)) [
            | inl on ↦ absurd (none_gone id blob apart on has)
            | inr off ↦ sym (live_left id put shows.ids off) ∙ (sym (live_tagging id apart) ∙ (live id blob).0 has)
          ]

      put_from : (id blob : List ℕ) → live_in id put ≡ Some blob → HasBlob start repo.log id blob ⊎ IsOfText repo.keys shows.texts id blob
      put_from id blob there = elim (shows.brings.only id blob there) [
        | inl was ↦ inl ((start_live id blob).1 (sym (live_nil id committed) ∙ was))
        | inr of ↦ inr of
      ]

      -- ---- where no contents collide

      module _ (scope : List (List ℕ)) (apart : NoCollision repo.keys scope) (all : AllByRecursion (IsAmong scope) shows.texts)
          (within : HoldsWithin scope start repo) where
        -- what opens is among them
        put_within : (id blob content : List ℕ) → id ≢ zero_id → live_in id put ≡ Some blob → OpensTo repo.keys id blob content → IsAmong scope content
        put_within id blob content chunk there open_to = elim (put_from id blob there) [
          | inl has ↦ within id content (record { chunk = chunk; object = record { blob = blob; has = has; opens = open_to } })
          | inr of ↦
              let same : of.text ≡ content = one_content repo.keys id blob of.text content of.opens open_to in
              subst (IsAmong scope) same (among_all (IsAmong scope) shows.texts of.text all of.among)
        ]

        -- an id has one content
        one_under : (id blob content other : List ℕ) → id ≢ zero_id → live_in id put ≡ Some blob → OpensTo repo.keys id blob content
            → IsAmong scope other → id ≡ content_id repo.keys other → content ≡ other
        one_under id blob content other chunk there open_to among is =
            apart.one content other (put_within id blob content chunk there open_to) among
            (sym (opened_id repo.keys id blob content open_to chunk) ∙ is)

        text_among : (text : List ℕ) → IsAmong shows.texts text → IsAmong scope text
        text_among text among = among_all (IsAmong scope) shows.texts text all among

        -- an old record isn't a new one
        not_freed : (id blob text : List ℕ) (archive : ArchiveText) → id ≢ zero_id → live_in id put ≡ Some blob → OpensTo repo.keys id blob text
            → archive_of repo.keys text ≡ Ok archive → archive.tagged ≡ true → is_among id shows.ids ≡ false
        not_freed id blob text archive chunk there open_to reads tagged = elim (either_way (is_among id shows.ids)) [
          | inl on ↦ absurd (old_apart (old_record_of ((shows.freed.each id).0 on)))
          | inr off ↦ off
        ]
          where
            old_record_of : IsFreed start repo id → (old : ArchiveText) × (HoldsRecord start repo.log repo.keys id old × (old.tagged ≡ false))
            old_record_of freed = old_holds start repo id repo.manifest.archives freed.reads freed.are_read freed.old

            old_apart : (old : ArchiveText) × (HoldsRecord start repo.log repo.keys id old × (old.tagged ≡ false)) → ⊥
            old_apart old =
                let held = old.1.0.chunk.object in
                let both : Some held.blob ≡ Some blob = sym (start_put id held.blob held.has) ∙ there in
                let blobs : held.blob ≡ blob = cc in
                let same : old.1.0.content ≡ text =
                one_content repo.keys id blob old.1.0.content text
                (subst (λ (b : List ℕ). OpensTo repo.keys id b old.1.0.content) blobs held.opens) open_to in
                let read_as : Ok old.0 ≡ Ok archive = sym old.1.0.record_is ∙ (ap (archive_of repo.keys) same ∙ reads) in
                let archives : old.0 ≡ archive = cc in
                let no : false ≡ true = sym old.1.1 ∙ (ap (λ (a : ArchiveText). a.tagged) archives ∙ tagged) in
                cc

        -- a new record is there under its id
        text_there : (text : List ℕ) (archive : ArchiveText) → IsAmong shows.texts text → archive_of repo.keys text ≡ Ok archive → archive.tagged ≡ true
            → HoldsChunk image log repo.keys (content_id repo.keys text) text
        text_there text archive among reads tagged =
            let id = content_id repo.keys text in
            let chunk = apart.chunk text (text_among text among) in
            let lives = among_all (λ (t : List ℕ). content_id repo.keys t ≢ zero_id → IsLiveText repo.keys put t)
            shows.texts text shows.brings.each among chunk in
            let same : lives.content ≡ text = one_under id lives.blob lives.content text chunk lives.live lives.opens (text_among text among) refl in
            let open_to = subst (OpensTo repo.keys id lives.blob) same lives.opens in
            record {
              chunk = chunk;
              object = record {
                blob = lives.blob;
                has = put_there id lives.blob chunk (not_freed id lives.blob text archive chunk lives.live open_to reads tagged) lives.live;
                opens = open_to;
              };
            }

        -- a chunk that isn't deleted is there
        chunk_there : (id content : List ℕ) → is_among id shows.ids ≡ false → HoldsChunk start repo.log repo.keys id content
            → HoldsChunk image log repo.keys id content
        chunk_there id content off holds = record {
          chunk = holds.chunk;
          object = record {
            blob = holds.object.blob;
            has = kept_there id holds.object.blob holds.chunk off holds.object.has;
            opens = holds.object.opens;
          };
        }

        freed_of : (id : List ℕ) → is_among id shows.ids ≡ true → IsFreed start repo id
        freed_of id on = (shows.freed.each id).0 on

        -- an archive whose record had a tag
        tagged_whole : (name : List ℕ) (whole : WholeArchive) (is : IsWhole start repo.log repo.keys repo.manifest.archives name whole)
            → is.archive.tagged ≡ true → IsWhole image log repo.keys next.manifest.archives name whole
        tagged_whole name whole is tagged =
            whole_left start repo.log repo.keys image log (λ id. is_among id shows.ids ≡ false) chunk_there repo.manifest.archives next.manifest.archives
            name whole is (all_spared start repo name whole is shows.ids tagged freed_of)
            (tagged_name start repo name is.named is.archive is.named_is is.record_is shows.olds shows.texts time shows.are_old shows.renewals tagged
            ∙ sym is.named_is)

        -- one whose record had none
        untagged_whole : (name : List ℕ) (whole : WholeArchive) (is : IsWhole start repo.log repo.keys repo.manifest.archives name whole)
            → is.archive.tagged ≡ false → IsWhole image log repo.keys next.manifest.archives name whole
        untagged_whole name whole is off =
            let new = untagged_name start repo name is.named is.archive is.named_is is.record_is shows.olds shows.texts time shows.are_old shows.renewals off in
            let rest = all_parted (λ id. is_among id shows.ids ≡ false) is.archive.items (flat_map ids_of is.items)
            (rest_spared start repo name whole is shows.ids off freed_of) in
            record {
              named = renewed_entry is.named (content_id repo.keys new.text);
              named_is = new.named_now;
              archive = as_tagged is.archive;
              record_is = record {
                content = new.text;
                chunk = text_there new.text (as_tagged is.archive) new.among new.renewal.reads refl;
                record_is = new.renewal.reads;
              };
              items = is.items;
              stream = record {
                contents = is.stream.contents;
                hold = chunks_left start repo.log repo.keys image log (λ id. is_among id shows.ids ≡ false) chunk_there is.archive.items is.stream.contents
                    rest.0 is.stream.hold;
                spelled = is.stream.spelled;
              };
              contents = wholes_left start repo.log repo.keys image log (λ id. is_among id shows.ids ≡ false) chunk_there is.items whole.items rest.1
                  is.contents;
              time = is.time;
              fields = is.fields;
            }

        whole_by : (name : List ℕ) (whole : WholeArchive) (is : IsWhole start repo.log repo.keys repo.manifest.archives name whole) (b : Bool)
            → is.archive.tagged ≡ b → IsWhole image log repo.keys next.manifest.archives name whole
        whole_by name whole is true e = tagged_whole name whole is e
        whole_by name whole is false e = untagged_whole name whole is e

        -- ---- no record is without a tag

        none_by : (name : List ℕ) (named now : ArchiveRef) (archive other : ArchiveText) (b : Bool) → archive.tagged ≡ b
            → archive_named name repo.manifest.archives ≡ Some named → HoldsRecord start repo.log repo.keys named.id archive
            → archive_named name next.manifest.archives ≡ Some now → HoldsRecord image log repo.keys now.id other → other.tagged ≡ true
        none_by name named now archive other true e named_is holds now_is held =
            let found = tagged_name start repo name named archive named_is holds shows.olds shows.texts time shows.are_old shows.renewals e in
            let both : Some named ≡ Some now = sym found ∙ now_is in
            let same : named ≡ now = cc in
            let held_here = subst (λ (n : ArchiveRef). HoldsRecord image log repo.keys n.id other) (sym same) held in
            let object = held_here.chunk.object in
            let first = holds.chunk in
            let among = within named.id holds.content first in
            let id_is = opened_id repo.keys named.id first.object.blob holds.content first.object.opens first.chunk in
            let content = one_under named.id object.blob held_here.content holds.content first.chunk (there_put named.id object.blob first.chunk object.has)
            object.opens among id_is in
            let reads : Ok other ≡ Ok archive = sym held_here.record_is ∙ (ap (archive_of repo.keys) content ∙ holds.record_is) in
            let archives : other ≡ archive = cc in
            ap (λ (a : ArchiveText). a.tagged) archives ∙ e
        none_by name named now archive other false e named_is holds now_is held =
            let new = untagged_name start repo name named archive named_is holds shows.olds shows.texts time shows.are_old shows.renewals e in
            let both : Some (renewed_entry named (content_id repo.keys new.text)) ≡ Some now = sym new.named_now ∙ now_is in
            let same : renewed_entry named (content_id repo.keys new.text) ≡ now = cc in
            let held_here = subst (λ (n : ArchiveRef). HoldsRecord image log repo.keys n.id other) (sym same) held in
            let object = held_here.chunk.object in
            let id = content_id repo.keys new.text in
            let content = one_under id object.blob held_here.content new.text held_here.chunk.chunk (there_put id object.blob held_here.chunk.chunk object.has)
            object.opens (text_among new.text new.among) refl in
            let reads : Ok other ≡ Ok (as_tagged archive) = sym held_here.record_is ∙ (ap (archive_of repo.keys) content ∙ new.renewal.reads) in
            let archives : other ≡ as_tagged archive = cc in
            ap (λ (a : ArchiveText). a.tagged) archives

        none_untagged : (name : List ℕ) → IsUntagged image (record next { log = log }) name → ⊥
        none_untagged name u = by (archive_named name repo.manifest.archives) refl
          where
            by : (found_at : Option ArchiveRef) → archive_named name repo.manifest.archives ≡ found_at → ⊥
            by None is =
                let times = names_kept start repo shows.olds shows.texts time shows.are_old name in
                let no : Some u.named.time ≡ None =
                ap (λ (o : Option ArchiveRef). option_map (λ (a : ArchiveRef). a.time) o) (sym u.named_is)
                ∙ (times ∙ ap (λ (o : Option ArchiveRef). option_map (λ (a : ArchiveRef). a.time) o) is) in
                cc
            by (Some named) is =
                let reads = old_reads start repo repo.manifest.archives shows.olds name named shows.are_old is in
                let tagged = none_by name named u.named reads.0 u.archive reads.0.tagged refl is reads.1 u.named_is u.record_is in
                let no : false ≡ true = sym u.untagged ∙ tagged in
                cc

    -- the same, with what holds of the new records
    pub tagged_with : (Holds : (olds : List OldRecord) (texts : List (List ℕ)) → AreRenewals repo.keys olds texts → Type 0)
        → Holds shows.olds shows.texts shows.renewals
        → (left : KeepsArchives secret start repo time true image) × Holds left.olds left.texts left.renewals
    tagged_with Holds holds =
        let live = stands_live secret image next (with_deleted (with_puts (found (Some committed) start) shows.puts) shows.ids shows.blob) shows.shows
        (opened_unlocks start secret repo opens) shows.manifest in
        let now = record next { log = live.log } in (
          record {
            repo = now;
            opens = live.opens;
            config = shows.shows.1;
            names = names_kept start repo shows.olds shows.texts time shows.are_old;
            olds = shows.olds;
            are_tagged = shows.are_old;
            texts = shows.texts;
            renewals = shows.renewals;
            manifest = sym (some_tagged repo.keys repo.manifest shows.olds shows.texts time shows.some);
            wholes = λ scope apart all within name whole has.
                let is = start_whole name whole has in
                record {
                  repo = now;
                  opens = live.opens;
                  is = whole_by live.log live.blobs scope apart all within name whole is is.archive.tagged refl;
                };
            untagged = λ scope apart all within name. (
              λ u. absurd (none_untagged live.log live.blobs scope apart all within name u),
              λ both. absurd (let no : true ≡ false = both.1 in let l : ⊥ = cc in l),
            );
            kept = λ id blob chunk has still. kept_there live.log live.blobs id blob chunk
                (elim (either_way (is_among id shows.ids)) [
                  | inl on ↦ absurd (still refl ((shows.freed.each id).0 on))
                  | inr off ↦ off
                ]) has;
            gone = λ id blob chunk _ freed has. none_gone live.log live.blobs id blob chunk ((shows.freed.each id).1 freed) has;
            only = λ id blob chunk has. elim (put_from live.log live.blobs id blob (there_put live.log live.blobs id blob chunk has)) [
              | inl was ↦ inl was
              | inr of ↦ inr (refl, of)
            ];
          },
          holds,
        )

    pub tagged_left : KeepsArchives secret start repo time true image
    tagged_left = (tagged_with (λ olds texts renewals. Unit {0}) tt).0

  pub renewed_left : ShowsRenewed start repo time (found (Some committed) start) image
      → (tagged : Bool) × KeepsArchives secret start repo time tagged image
  renewed_left (inl shows) = (false, standing_left shows)
  renewed_left (inr shows) = (true, tagged_left shows)
