-- Lemmas on specs/Naming.antt: the record that was put for an archive, what the store lets a next body do, and the commit of a name.
use Rattle.std.proofs.Common.{◌≡◌, ◌⊎◌, inl, inr, Bool, ℕ, List, [], ◌∷◌, Option, None, Result, Ok, Err, IfOk, IfSome, OnOk, ◌+◌, ◌-◌, ◌^◌, min}
use Rattle.std.proofs.Common.{length, ◌≤◌, ◌++◌, refl, sym, ◌∙◌, ap, arith, subst, true}
use Rattle.std.proofs.lemmas.List.{append-nil, append_assoc}
use Rattle.std.proofs.lemmas.Option.{IfSome_then}
use Rattle.ferry_base.specs.Limits.{content_limit}
use Rattle.ferry_blob.specs.Blob.{content_id}
use Rattle.ferry_disk.specs.Device.{Told, told_files}
use Rattle.ferry_disk.specs.Files.{Files}
use Rattle.ferry_item.specs.declared.item.ChunkRef.{ChunkRef}
use Rattle.ferry_mac.specs.declared.keys.Keys.{Keys}
use Rattle.ferry_manifest.specs.Manifest.Text.{ManifestText}
use Rattle.ferry_manifest.specs.Record.Text.{ArchiveText, archive_of, archive_view, as_tagged}
use Rattle.ferry_manifest.specs.Record.Writing.{archive_text}
use Rattle.ferry_manifest.specs.declared.manifest.ArchiveRef.{ArchiveRef}
use Rattle.ferry_repo.specs.Archives.{archive_named}
use Rattle.ferry_rechunk.specs.Cut.{cut}
use Rattle.ferry_repo.specs.Opening.{RepoState, repo_view}
use Rattle.ferry_repo.specs.Whole.{WholeItem}
use Rattle.ferry_store.specs.Commit.{accepted_in}
use Rattle.ferry_store.specs.declared.store.Store.{Store}
use Rattle.ferry_carry.proofs.ListingLemmas.{bytes_apart, count_apart, counts_then, items_ended}
use Rattle.ferry_carry.proofs.ProgressEndLemmas.{stream_ids}
use Rattle.ferry_carry.proofs.TagLemmas.{tags_one}
use Rattle.ferry_piece.proofs.PutsLemmas.{border_record, bytes_append, count_append}
use Rattle.ferry_carry.specs.Carrying.{Origin}
use Rattle.ferry_carry.specs.Copied.{IsCopyOf}
use Rattle.ferry_carry.specs.Copying.{IsReady}
use Rattle.ferry_carry.specs.Flight.{ListsDone}
use Rattle.ferry_carry.specs.Counting.{CountsOf}
use Rattle.ferry_piece.specs.Gather.{KeepsRest, chunks_of}
use Rattle.ferry_carry.specs.Listing.{BeginsOne, ListsArchive, ListsContents}
use Rattle.ferry_carry.specs.Naming.{AddsRecord, BeginsRecord, Draws, PutsRecord, TaggedRecord, copied_in}
use Rattle.ferry_piece.specs.Piece.{CountsOn}
use Rattle.ferry_carry.specs.Progress.{CopiesAll, IsAllCopied, IsCopyFrom, WritesItems}
use Rattle.ferry_piece.specs.Puts.{Addition, AreOf, ArePieces, AtBegin, AtEnd, Border, Content, Kind, Record, Stream, addition, border_behind, put_bytes}
use Rattle.ferry_piece.specs.Puts.{put_count}
use Rattle.ferry_carry.specs.declared.copy.Copy.{Copy}
use Rattle.ferry_piece.specs.declared.fault.CarryFault.{CarryFault}
use Rattle.ferry_carry.specs.declared.options.Carried.{Carried}
use Rattle.ferry_piece.specs.declared.piece.PieceWriter.{PieceWriter}

-- ---- the record

-- What was added of a record, and whose id was answered.
abbrev pub RecordIs : Keys → ArchiveText → List Addition → Option (List ℕ) → Option (List ℕ) → Result (List ℕ) CarryFault → Type 0
RecordIs keys archive more before now r = BeginsRecord keys archive more × PutsRecord keys archive more before now r

-- a text that was tagged and read under the store's keys, and added
pub record_put : (r : Result (List ℕ) CarryFault) (keys other : Keys) (salt text given : List ℕ) (put : Bool) (archive : ArchiveText)
    (before now : Option (List ℕ)) → other ≡ keys → text ≡ given → Draws salt before now → given ≡ archive_text other salt archive
    → archive_of other given ≡ Ok (as_tagged archive) → length given ≤ content_limit → IfOk r (λ id. id ≡ content_id keys text)
    → RecordIs keys archive (addition Record text put ∷ []) before now r
record_put r keys other salt text given put archive before now same is drew text_is reads small id_is = (inr adds, by r id_is) where
  spelled : text ≡ archive_text keys salt archive
  spelled = is ∙ (text_is ∙ ap (λ (k : Keys). archive_text k salt archive) same)

  adds : AddsRecord keys archive (addition Record text put ∷ [])
  adds = record {
    salt = salt;
    salt_size = drew.0;
    text = text;
    text_is = spelled;
    put = put;
    more_is = refl;
    reads = ap (λ (t : List ℕ). archive_of keys t) is ∙ (ap (λ (k : Keys). archive_of k given) (sym same) ∙ reads);
    small = subst (λ (t : List ℕ). length t ≤ content_limit) (sym is) small;
  }

  by : (q : Result (List ℕ) CarryFault) → IfOk q (λ id. id ≡ content_id keys text) → PutsRecord keys archive (addition Record text put ∷ []) before now q
  by (Ok id) under = record { adds = adds; drew = drew; id_is = under }
  by (Err fault) under = inr (tags_one keys archive salt text put before now drew spelled)

-- the same under the same keys, with the same pieces
pub record_as : (r : Result (List ℕ) CarryFault) (keys other : Keys) (archive : ArchiveText) (block : ℕ) (pieces given : List ChunkRef)
    (more : List Addition) (before now : Option (List ℕ)) → other ≡ keys → given ≡ pieces
    → RecordIs other (copied_in archive block given) more before now r → RecordIs keys (copied_in archive block pieces) more before now r
record_as r keys other archive block pieces given more before now same is put =
    subst (λ (k : Keys). RecordIs k (copied_in archive block pieces) more before now r) same
    (subst (λ (p : List ChunkRef). RecordIs other (copied_in archive block p) more before now r) is put)

-- what holds behind a body holds where it is `Ok`
pub on_any : {T : Type 0} {P : Type 0} (r : Result T CarryFault) → P → OnOk r P
on_any (Ok x) p = p
on_any (Err fault) p = tt

-- ---- what was added of an archive

-- a record that was added is that of all items that were written
copied_so : (files : Files) (repo : RepoState) (copy : Copy) (wholes : List WholeItem) (added more : List Addition) → IsReady copy
    → WritesItems files repo copy wholes added
    → (adds : AddsRecord repo.keys (copied_in (archive_view copy.archive) copy.block (copy.stream.chunks.items
    ++ chunks_of repo.keys (cut copy.stream.cutter.block copy.stream.cutter.piece))) more)
    → IsCopyOf repo.keys copy.block wholes (archive_view copy.archive).fields adds.salt adds.text
copied_so files repo copy wholes added more ready writes adds =
    let given = copy.stream.chunks.items ++ chunks_of repo.keys (cut copy.stream.cutter.block copy.stream.cutter.piece) in
    record {
      some = omega (arith, ready.least);
      salt_size = adds.salt_size;
      copied = as_tagged (copied_in (archive_view copy.archive) copy.block given);
      same = refl;
      items = stream_ids files repo copy wholes added ready writes;
      params = refl;
      tagged = refl;
      text_is = adds.text_is;
      reads = adds.reads;
      small = adds.small;
      few = writes.few;
      spelled = writes.spelled;
    }

abbrev pub tagged_as : List ℕ → List ℕ → List ℕ → TaggedRecord
tagged_as text salt manifest_salt = record { text = text; salt = salt; manifest_salt = manifest_salt }

-- behind the pieces of all items what is left of the stream and the record were added: that is all of the archive
lists_end : (there : Files) (from : Origin) (named : ArchiveRef) (files : Files) (repo : RepoState) (copy : Copy) (added last more : List Addition)
    (manifest_salt : List ℕ) → from.block ≡ copy.block → IsReady copy → ArePieces Stream (cut copy.stream.cutter.block copy.stream.cutter.piece) last
    → (adds : AddsRecord repo.keys (copied_in (archive_view copy.archive) copy.block (copy.stream.chunks.items
    ++ chunks_of repo.keys (cut copy.stream.cutter.block copy.stream.cutter.piece))) more)
    → CopiesAll there from.repo named files repo copy added
    → ListsArchive there from repo.keys named.name (tagged_as adds.text adds.salt manifest_salt) (added ++ (last ++ more))
lists_end there from named files repo copy added last more manifest_salt same ready last_is adds all =
    let fields = (archive_view copy.archive).fields in
    record {
      contents = added ++ last;
      lists = items_ended there from named files repo copy added last same ready last_is all;
      copy = subst (λ (b : ℕ). IsCopyOf repo.keys b all.wholes fields adds.salt adds.text) (sym same)
          (copied_so files repo copy all.wholes added more ready all.writes adds);
      put = adds.put;
      added_is = sym (append_assoc added last more) ∙ ap (λ (l : List Addition). (added ++ last) ++ l) adds.more_is;
    }

-- as far as that came
begins_end : (there : Files) (from : Origin) (named : ArchiveRef) (files : Files) (repo : RepoState) (copy : Copy) (added last more : List Addition)
    → from.block ≡ copy.block → IsReady copy → ArePieces Stream (cut copy.stream.cutter.block copy.stream.cutter.piece) last
    → BeginsRecord repo.keys (copied_in (archive_view copy.archive) copy.block (copy.stream.chunks.items
    ++ chunks_of repo.keys (cut copy.stream.cutter.block copy.stream.cutter.piece))) more
    → CopiesAll there from.repo named files repo copy added
    → ListsContents there from repo.keys named.name (added ++ (last ++ more))
    ⊎ ((one : TaggedRecord) × ListsArchive there from repo.keys named.name one (added ++ (last ++ more)))
begins_end there from named files repo copy added last more same ready last_is (inl none) all =
    let is : last ≡ last ++ more = sym (append-nil last) ∙ ap (λ (l : List Addition). last ++ l) (sym none) in
    inl (subst (λ (l : List Addition). ListsContents there from repo.keys named.name (added ++ l)) is
    (items_ended there from named files repo copy added last same ready last_is all))
begins_end there from named files repo copy added last more same ready last_is (inr adds) all =
    inr (tagged_as adds.text adds.salt [], lists_end there from named files repo copy added last more [] same ready last_is adds all)

-- the same over what the devices tell
pub begins_done : (from : Origin) (named : ArchiveRef) (heard : Option Told) (store : Store) (copy : Copy) (added last more : List Addition)
    → IsReady copy → ArePieces Stream (cut copy.stream.cutter.block copy.stream.cutter.piece) last
    → BeginsRecord (repo_view store.repo).keys (copied_in (archive_view copy.archive) copy.block (copy.stream.chunks.items
    ++ chunks_of (repo_view store.repo).keys (cut copy.stream.cutter.block copy.stream.cutter.piece))) more
    → IsAllCopied from named heard store copy added
    → IfSome heard (λ _. BeginsOne from (repo_view store.repo).keys named.name (added ++ (last ++ more)))
begins_done from named heard store copy added last more ready last_is begun all =
    IfSome_then heard all.1 (λ d known. inr (IfSome_then from.files known
    (λ there c. inr (begins_end there from named (told_files d) (repo_view store.repo) copy added last more all.0.block ready last_is begun c))))

pub lists_done : (from : Origin) (named : ArchiveRef) (heard : Option Told) (store : Store) (copy : Copy) (added last more : List Addition)
    (manifest_salt : List ℕ) → IsReady copy → ArePieces Stream (cut copy.stream.cutter.block copy.stream.cutter.piece) last
    → (adds : AddsRecord (repo_view store.repo).keys (copied_in (archive_view copy.archive) copy.block (copy.stream.chunks.items
    ++ chunks_of (repo_view store.repo).keys (cut copy.stream.cutter.block copy.stream.cutter.piece))) more)
    → IsAllCopied from named heard store copy added
    → ListsDone heard from (repo_view store.repo).keys named.name (tagged_as adds.text adds.salt manifest_salt ∷ []) (added ++ (last ++ more)) true
lists_done from named heard store copy added last more manifest_salt ready last_is adds all = (
  tagged_as adds.text adds.salt manifest_salt,
  (
    refl,
    IfSome_then heard all.1 (λ d known. IfSome_then from.files known
        (λ there c. lists_end there from named (told_files d) (repo_view store.repo) copy added last more manifest_salt all.0.block ready last_is adds c)),
  ),
)

-- the numbers of an archive: those of its pieces, with what was left of the stream, and its record
pub counts_done : (from : Origin) (copy : Copy) (stream : PieceWriter) (added last more : List Addition) (keys : Keys) (archive : ArchiveText)
    (carried : Carried) → IsCopyFrom from copy added → AreOf Stream last → CountsOn Stream copy.stream last stream → AddsRecord keys archive more
    → carried.chunks ≡ copy.contents.put → carried.bytes ≡ copy.contents.bytes → carried.meta ≡ stream.put → CountsOf (added ++ (last ++ more)) carried
counts_done from copy stream added last more keys archive carried is of counts adds chunks_are bytes_are meta_are =
    let record_of : AreOf Record more = subst (AreOf Record) (sym adds.more_is) (refl, tt) in
    let all = added ++ (last ++ more) in
    let counted : (kind : Kind) → put_count kind all ≡ put_count kind added + (put_count kind last + put_count kind more) =
    λ kind. count_append kind added (last ++ more) ∙ ap (λ (count : ℕ). put_count kind added + count) (count_append kind last more) in
    let bytes : put_bytes Content all ≡ put_bytes Content added + (put_bytes Content last + put_bytes Content more) =
    bytes_append Content added (last ++ more) ∙ ap (λ (count : ℕ). put_bytes Content added + count) (bytes_append Content last more) in
    let chunks_all : put_count Content all ≡ put_count Content added =
    omega (arith, counted Content, count_apart Content Stream last refl of, count_apart Content Record more refl record_of) in
    let bytes_all : put_bytes Content all ≡ put_bytes Content added =
    omega (arith, bytes, bytes_apart Content Stream last refl of, bytes_apart Content Record more refl record_of) in
    let meta_all : put_count Stream all ≡ put_count Stream added + put_count Stream last =
    omega (arith, counted Stream, count_apart Stream Record more refl record_of) in
    let meta : stream.put ≡ min (put_count Stream all) (2 ^ 64 - 1) =
    counts_then (2 ^ 64 - 1) copy.stream.put (put_count Stream added) stream.put (put_count Stream last) (put_count Stream all) is.meta
    (counts.put (omega (arith, is.meta)))
    meta_all in
    record {
      chunks = omega (arith, chunks_are, is.chunks, chunks_all);
      bytes = omega (arith, bytes_are, is.bytes, bytes_all);
      meta = omega (arith, meta_are, meta);
    }

-- behind its record an archive is at its end
pub record_ends : (at : Border) (keys : Keys) (archive : ArchiveText) (last more : List Addition) → AddsRecord keys archive more
    → border_behind at (last ++ more) ≡ AtEnd
record_ends at keys archive last more adds =
    ap (λ (l : List Addition). border_behind at (last ++ l)) adds.more_is ∙ border_record at last adds.text adds.put

pub behind_record : (keys : Keys) (archive : ArchiveText) (added last more : List Addition) → AddsRecord keys archive more
    → border_behind AtBegin (added ++ (last ++ more)) ≡ AtEnd
behind_record keys archive added last more adds =
    let one = addition Record adds.text adds.put ∷ [] in
    ap (λ (l : List Addition). border_behind AtBegin (added ++ (last ++ l))) adds.more_is
    ∙ (ap (border_behind AtBegin) (sym (append_assoc added last one)) ∙ border_record AtBegin (added ++ last) adds.text adds.put)

-- ---- what contents that were added leave

pub unnamed_rest : (store now : Store) (name : List ℕ) → KeepsRest store now → archive_named name (accepted_in store).archives ≡ None
    → archive_named name (accepted_in now).archives ≡ None
unnamed_rest store now name rest unnamed =
    subst (λ (m : ManifestText). archive_named name m.archives ≡ None) (sym rest.accepted) unnamed
