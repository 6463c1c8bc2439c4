-- Lemmas on an archive whose copy begins, and on one all of whose items were copied.
use Rattle.std.proofs.Common.{◌≡◌, ◌-◌, ◌^◌, ℕ, Bool, false, List, [], ◌∷◌, ◌++◌, map, min, Option, Some, None, option_map}
use Rattle.std.proofs.Common.{Ok, IfSome, refl, sym, ◌∙◌, ap, subst, arith}
use Rattle.std.proofs.lemmas.List.{append-nil, append_assoc, map-append}
use Rattle.std.proofs.lemmas.Option.{IfSome_then}
use Rattle.ferry_blob.specs.Blob.{content_id}
use Rattle.ferry_compare.proofs.StepLemmas.{at_last}
use Rattle.ferry_disk.specs.Act.{History, files_now}
use Rattle.ferry_disk.specs.Device.{Told, heard, told_files}
use Rattle.ferry_disk.specs.Files.{Files}
use Rattle.ferry_item.specs.declared.item.ChunkRef.{ChunkRef}
use Rattle.ferry_mac.specs.declared.keys.Keys.{Keys}
use Rattle.ferry_manifest.specs.Record.Text.{archive_view, as_tagged}
use Rattle.ferry_manifest.specs.declared.manifest.ArchiveRef.{ArchiveRef}
use Rattle.ferry_rechunk.proofs.CuttingLemmas.{fed_cut, fed_nothing}
use Rattle.ferry_rechunk.specs.Cut.{cut}
use Rattle.ferry_rechunk.specs.Cutting.{IsFed}
use Rattle.ferry_repo.specs.Archives.{HoldsRecord}
use Rattle.ferry_repo.specs.Opening.{RepoState, repo_view}
use Rattle.ferry_repo.specs.Walk.{LeadsOn, WalkState, begin_walk, walk_view}
use Rattle.ferry_repo.specs.Whole.{WholeItem}
use Rattle.ferry_store.specs.Store.{StoreFits}
use Rattle.ferry_store.specs.declared.store.Store.{Store}
use Rattle.ferry_piece.proofs.PutsLemmas.{contents_append}
use Rattle.ferry_piece.proofs.WorkLemmas.{works_known}
use Rattle.ferry_carry.specs.Carrying.{CanBeNamed, HoldsApart, IsReadyToName, Origin, origin}
use Rattle.ferry_carry.specs.Copied.{IsCopyOf, adds_of, contents_of, copied_stream, stream_block, stream_pieces}
use Rattle.ferry_carry.specs.Copying.{IsReady}
use Rattle.ferry_piece.specs.Gather.{Gathered, Gathers, KeepsRest, KeepsStanding, chunk_of, chunks_of}
use Rattle.ferry_carry.specs.Naming.{AddsUnder, copied_in, entry_for}
use Rattle.ferry_carry.specs.Progress.{CopiesAll, CopiesSoFar, IsAllCopied, IsCopiedSoFar, WritesItems}
use Rattle.ferry_piece.specs.Puts.{Addition, ArePieces, Content, Kind, Stream, Within, contents_in, put_bytes, put_count}
use Rattle.ferry_piece.specs.Work.{Works}
use Rattle.ferry_carry.specs.declared.copy.Copy.{Copy}
use Rattle.ferry_carry.proofs.ProgressLemmas.{ids_of, held_more, any_told, both_known}

-- ---- the begin

-- no item was taken
nothing_taken : (there : Files) (source : RepoState) (named : ArchiveRef) (files : Files) (repo : RepoState) (copy : Copy)
    → HoldsRecord there source.log source.keys named.id (archive_view copy.archive)
    → walk_view copy.walk ≡ begin_walk named.id (archive_view copy.archive).items
    → (copy.stream.cutter.piece ≡ []) × (copy.stream.chunks.items ≡ []) → CopiesSoFar there source named files repo copy []
nothing_taken there source named files repo copy record_is walk stream =
    let begun = begin_walk named.id (archive_view copy.archive).items in
    record {
      items = [];
      wholes = [];
      record_is = record_is;
      leads = subst (λ (w : WalkState). LeadsOn there source.log source.keys begun [] w) (sym walk) (λ items end come. come);
      come = refl;
      writes = record {
        taken = [];
        fed = subst (λ (piece : List ℕ). IsFed stream_block [] [] piece) (sym stream.0) (fed_nothing stream_block);
        chunks = stream.1;
        spelled = tt;
        few = tt;
        held = λ scope apart all within. tt;
        lists = (refl, stream.0);
      };
    }

-- the same where a shelf tells the files of a source
begun_at : (told : Option Told) (source : RepoState) (named : ArchiveRef) (files : Files) (repo : RepoState) (copy : Copy)
    → IfSome told (λ t. HoldsRecord (told_files t) source.log source.keys named.id (archive_view copy.archive))
    → walk_view copy.walk ≡ begin_walk named.id (archive_view copy.archive).items
    → (copy.stream.cutter.piece ≡ []) × (copy.stream.chunks.items ≡ [])
    → IfSome (option_map (λ (t : Told). told_files t) told) (λ there. CopiesSoFar there source named files repo copy [])
begun_at None source named files repo copy record_is walk stream = tt
begun_at (Some t) source named files repo copy record_is walk stream = nothing_taken (told_files t) source named files repo copy record_is walk stream

-- of nothing nothing is put
none_put : (kind : Kind) → put_count kind [] ≡ 0
unfolding put_count
none_put kind = refl

no_bytes_put : (kind : Kind) → put_bytes kind [] ≡ 0
unfolding put_bytes
no_bytes_put kind = refl

counts_none : (limit count put : ℕ) → count ≡ 0 → put ≡ 0 → count ≡ min put limit
counts_none limit count put none nothing = omega (arith, none, nothing)

-- an archive of which nothing was taken is copied so far, in any store
pub begin_copied : (told later target : Option Told) (source after : RepoState) (block most : ℕ) (time : Option (List ℕ)) (named : ArchiveRef) (store : Store)
    (copy : Copy)
    → heard later ≡ heard told → after ≡ source → block ≡ copy.block → most ≡ copy.contents.checkpoint
    → IfSome told (λ t. HoldsRecord (told_files t) source.log source.keys named.id (archive_view copy.archive))
    → walk_view copy.walk ≡ begin_walk named.id (archive_view copy.archive).items
    → (copy.stream.cutter.piece ≡ []) × (copy.stream.chunks.items ≡ [])
    → (copy.contents.put ≡ 0) × ((copy.contents.bytes ≡ 0) × (copy.stream.put ≡ 0)) → IsCopiedSoFar (origin later after block most time) named target store
    copy []
begin_copied told later target source after block most time named store copy alike kept same same_most record_is walk stream counted =
    let known = at_last told later source after (λ r f. HoldsRecord f r.log r.keys named.id (archive_view copy.archive)) alike kept record_is in (
      record {
        block = same;
        most = same_most;
        chunks = counts_none (2 ^ 64 - 1) copy.contents.put (put_count Content []) counted.0 (none_put Content);
        bytes = counts_none (2 ^ 128 - 1) copy.contents.bytes (put_bytes Content []) counted.1.0 (no_bytes_put Content);
        meta = counts_none (2 ^ 64 - 1) copy.stream.put (put_count Stream []) counted.1.1 (none_put Stream);
      },
      any_told target (λ d. IfSome (option_map (λ (t : Told). told_files t) later)
          (λ there. CopiesSoFar there after named (told_files d) (repo_view store.repo) copy []))
          (λ d. begun_at later after named (told_files d) (repo_view store.repo) copy known walk stream),
    )

-- ---- the end

-- the pieces of a stream are those that became whole, and those of what is left
stream_taken : (files : Files) (repo : RepoState) (copy : Copy) (wholes : List WholeItem) (added : List Addition) → IsReady copy
    → (writes : WritesItems files repo copy wholes added)
    → stream_pieces repo.keys copy.block wholes ≡ writes.taken ++ cut copy.stream.cutter.block copy.stream.cutter.piece
stream_taken files repo copy wholes added ready writes =
    let piece = copy.stream.cutter.piece in
    fed_cut stream_block (copied_stream repo.keys copy.block wholes) piece writes.taken (omega arith) writes.fed
    ∙ ap (λ (n : ℕ). writes.taken ++ cut n piece) (sym ready.stream_block_is)

-- the ids that the record of an archive on its way has are theirs
pub stream_ids : (files : Files) (repo : RepoState) (copy : Copy) (wholes : List WholeItem) (added : List Addition) → IsReady copy
    → WritesItems files repo copy wholes added
    → map (λ (chunk : ChunkRef). chunk.id) (copy.stream.chunks.items ++ chunks_of repo.keys (cut copy.stream.cutter.block copy.stream.cutter.piece))
    ≡ map (content_id repo.keys) (stream_pieces repo.keys copy.block wholes)
stream_ids files repo copy wholes added ready writes =
    let keys = repo.keys in
    let left = cut copy.stream.cutter.block copy.stream.cutter.piece in
    let chunks : copy.stream.chunks.items ++ chunks_of keys left ≡ chunks_of keys (writes.taken ++ left) =
    ap (λ (cs : List ChunkRef). cs ++ chunks_of keys left) writes.chunks ∙ sym (map-append (chunk_of keys) writes.taken left) in
    ap (map (λ (chunk : ChunkRef). chunk.id)) chunks
    ∙ (ids_of keys (writes.taken ++ left) ∙ ap (map (content_id keys)) (sym (stream_taken files repo copy wholes added ready writes)))

-- all that an archive is in a target is there, once what was left of its stream and its record were added
pub ready_then : (most : ℕ) (counts : Bool) (there : Files) (from : Origin) (named : ArchiveRef) (store middle : Store) (copy : Copy)
    (added last more : List Addition) (before after : Option (List ℕ)) (id : List ℕ) (h g : History) (fits : StoreFits counts store h) → from.block ≡
    copy.block → IsReady copy
    → Gathered Within most counts store (last ++ more) middle h g fits → KeepsRest store middle
    → ArePieces Stream (cut copy.stream.cutter.block copy.stream.cutter.piece) last
    → AddsUnder (repo_view store.repo).keys (copied_in (archive_view copy.archive) copy.block (copy.stream.chunks.items
    ++ chunks_of (repo_view store.repo).keys (cut copy.stream.cutter.block copy.stream.cutter.piece))) more before after id
    → CopiesAll there from.repo named (files_now h) (repo_view store.repo) copy added
    → CanBeNamed there from (added ++ (last ++ more)) (files_now g) (repo_view middle.repo) (entry_for named id)
ready_then most counts there from named store middle copy added last more before after id h g fits same ready end rest last_is is all =
    let keys = (repo_view store.repo).keys in
    let block = copy.block in
    let wholes = all.wholes in
    let writes = all.writes in
    let piece = copy.stream.cutter.piece in
    let left = cut copy.stream.cutter.block piece in
    let archive = archive_view copy.archive in
    let given = copy.stream.chunks.items ++ chunks_of keys left in
    let text = is.adds.text in
    let parts : stream_pieces keys block wholes ≡ writes.taken ++ left =
    stream_taken (files_now h) (repo_view store.repo) copy wholes added ready writes in
    let ids : map (λ (chunk : ChunkRef). chunk.id) given ≡ map (content_id keys) (stream_pieces keys block wholes) =
    stream_ids (files_now h) (repo_view store.repo) copy wholes added ready writes in
    let salt = is.adds.salt in
    let copied : IsCopyOf keys block wholes archive.fields salt text =
    record {
      some = omega (arith, ready.least);
      salt_size = is.adds.salt_size;
      copied = as_tagged (copied_in archive block given);
      same = refl;
      items = ids;
      params = refl;
      tagged = refl;
      text_is = is.adds.text_is;
      reads = is.adds.reads;
      small = is.adds.small;
      few = writes.few;
      spelled = writes.spelled;
    } in
    let behind : stream_pieces keys block wholes ++ text ∷ [] ≡ writes.taken ++ (left ++ text ∷ []) =
    ap (λ (ps : List (List ℕ)). ps ++ text ∷ []) parts ∙ append_assoc writes.taken left (text ∷ []) in
    let adds : (contents_of block wholes ++ []) ++ (writes.taken ++ (left ++ text ∷ [])) ≡ adds_of keys block wholes text =
    ap (λ (cs : List (List ℕ)). cs ++ (writes.taken ++ (left ++ text ∷ []))) (append-nil (contents_of block wholes))
    ∙ ap (λ (cs : List (List ℕ)). contents_of block wholes ++ cs) (sym behind) in
    let contents : contents_in (last ++ more) ≡ left ++ text ∷ [] =
    contents_append last more ∙ (ap (λ (cs : List (List ℕ)). cs ++ contents_in more) last_is.0
    ∙ ap (λ (l : List Addition). left ++ contents_in l) is.adds.more_is) in
    let all_added = added ++ (last ++ more) in
    let held : HoldsApart (files_now g) (repo_view middle.repo) all_added (adds_of keys block wholes text) =
    subst (HoldsApart (files_now g) (repo_view middle.repo) all_added) adds
    (held_more most counts store middle added (last ++ more) (contents_of block wholes) writes.taken [] (left ++ text ∷ []) h g fits contents end rest
    writes.held) in
    let IsSo : Keys → ℕ → Type 0 = λ k b.
    IsCopyOf k b wholes archive.fields salt text × HoldsApart (files_now g) (repo_view middle.repo) all_added (adds_of k b wholes text) in
    let so : IsSo (repo_view middle.repo).keys from.block =
    subst (λ (k : Keys). IsSo k from.block) (sym rest.keys) (subst (IsSo keys) (sym same) (copied, held)) in
    record {
      whole = record { time = named.time; fields = archive.fields; items = wholes };
      source = all.source_whole;
      time = refl;
      text = text;
      id = is.id_is ∙ ap (λ (k : Keys). content_id k text) (sym rest.keys);
      salt = salt;
      copy = so.0;
      held = so.1;
    }

-- the same over what the depot tells
pub readies : {T : Type 0} (from : Origin) (a b : Option Told) (named : ArchiveRef) (store middle : Store) (copy : Copy) (added last more : List Addition)
    (before after : Option (List ℕ)) (id : List ℕ) (n m : ℕ) (x : T) → IfSome a (λ d. StoreFits false store d.history) → IsReady copy
    → Works (KeepsStanding from.most store (last ++ more)) (λ (_ : T). Gathers from.most store (last ++ more) middle) a b n m (Ok x)
    → KeepsRest store middle → ArePieces Stream (cut copy.stream.cutter.block copy.stream.cutter.piece) last
    → AddsUnder (repo_view store.repo).keys (copied_in (archive_view copy.archive) copy.block (copy.stream.chunks.items
    ++ chunks_of (repo_view store.repo).keys (cut copy.stream.cutter.block copy.stream.cutter.piece))) more before after id
    → IsAllCopied from named a store copy added
    → IfSome b (λ d. IsReadyToName from (added ++ (last ++ more)) (told_files d) (repo_view middle.repo) (entry_for named id))
readies {T} from a b named store middle copy added last more before after id n m x fits ready works rest last_is is all =
    let adds = last ++ more in
    let P : History → Type 0 = λ h. IfSome from.files (λ there. CopiesAll there from.repo named (files_now h) (repo_view store.repo) copy added) in
    let R : History → Type 0 = λ h. IsReadyToName from (added ++ adds) (files_now h) (repo_view middle.repo) (entry_for named id) in
    works_known {T = T} (λ h. StoreFits false store h × P h) R (KeepsStanding from.most store adds) (λ (_ : T). Gathers from.most store adds middle) a b n m x
    (λ h g known gathers.
    IfSome_then from.files known.1
    (λ there c.
    ready_then from.most false there from named store middle copy added last more before after id h g known.0 all.0.block ready (gathers false known.0) rest
    last_is is c))
    (both_known a (λ d. StoreFits false store d.history) (λ d. P d.history) fits all.1) works
