-- Lemmas on specs/Over.antt: what fits a flight stays so over what others add.
use Rattle.std.proofs.Common.{◌≡◌, ◌≢◌, ◌⊎◌, inl, inr, ℕ, false, List, [], ◌∷◌, ◌++◌, take, Option, Some, None, IsSome}
use Rattle.std.proofs.Common.{refl, sym, ◌∙◌, ap, append_assoc, subst}
use Rattle.std.proofs.lemmas.List.{append-nil}
use Rattle.std.specs.List.{AllByRecursion}
use Rattle.ferry_base.specs.Limits.{zero_id}
use Rattle.ferry_blob.specs.Blob.{content_id}
use Rattle.ferry_compare.specs.Compare.{ReadsSoFar, Seen, StandsBeside}
use Rattle.ferry_disk.specs.Act.{History, files_now}
use Rattle.ferry_disk.specs.Device.{Told, told_files}
use Rattle.ferry_disk.specs.Files.{Files}
use Rattle.ferry_mac.specs.declared.keys.Keys.{Keys}
use Rattle.ferry_manifest.specs.declared.manifest.ArchiveRef.{ArchiveRef}
use Rattle.ferry_piece.proofs.AmongLemmas.{each_to}
use Rattle.ferry_piece.specs.Gather.{NoCollision, chunks_of}
use Rattle.ferry_piece.specs.Puts.{Addition, AddsAll, AtBegin, AtEnd, Border, ComesBefore, IsAddedBehind, MayCome, Within, border_of}
use Rattle.ferry_piece.specs.Puts.{manifests_committed}
use Rattle.ferry_rechunk.specs.Cutting.{IsFed}
use Rattle.ferry_repo.specs.Objects.{HoldsChunk}
use Rattle.ferry_repo.specs.Opening.{RepoState, repo_view}
use Rattle.ferry_repo.specs.Walk.{FitsWalk, WalkState}
use Rattle.ferry_repo.specs.Whole.{WholeArchive, WholeItem}
use Rattle.ferry_segment.specs.Entry.{LogEntry, PutEntry, CommitEntry}
use Rattle.ferry_store.proofs.LiveLemmas.{live_commit, live_other, same_or}
use Rattle.ferry_store.specs.Standing.{entries_of, live_in}
use Rattle.ferry_store.specs.Store.{StoreFits}
use Rattle.ferry_store.specs.declared.store.Store.{Store}
use Rattle.ferry_carry.proofs.WholeLemmas.{KeepsChunks as KeepsHeld, chunks_kept, wholes_kept}
use Rattle.ferry_carry.specs.Carrying.{HoldsApart}
use Rattle.ferry_carry.specs.Copied.{IsRead, contents_of, copied_item, copied_stream, stream_block}
use Rattle.ferry_carry.specs.Grow.{KeepsChunks, KeepsNames}
use Rattle.ferry_carry.specs.Listing.{ListsItems}
use Rattle.ferry_carry.specs.Over.{AddsOver}
use Rattle.ferry_carry.specs.Progress.{CopiesSoFar, WritesItems}
use Rattle.ferry_carry.specs.declared.copy.Copy.{Copy}

-- ---- what is live

-- Each id but the manifest's that was live is so by the same blob, and where nothing was put none is that wasn't.
abbrev SameLive : List LogEntry → List LogEntry → Type 0
SameLive a b = (id : List ℕ) → id ≢ zero_id → live_in id b ≡ live_in id a

live_manifests : (entries : List LogEntry) (blobs : List (List ℕ)) → SameLive entries (entries ++ manifests_committed blobs)
live_manifests entries [] id apart = ap (live_in id) (append-nil entries)
live_manifests entries (blob ∷ blobs) id apart =
    let first = entries ++ PutEntry zero_id blob ∷ [] in
    let second = first ++ CommitEntry ∷ [] in
    let rest = manifests_committed blobs in
    ap (live_in id) (sym (append_assoc first (CommitEntry ∷ []) rest ∙ append_assoc entries (PutEntry zero_id blob ∷ []) (CommitEntry ∷ rest)))
    ∙ (live_manifests second blobs id apart ∙ (live_commit id first ∙ live_other zero_id blob id entries apart))

live_may : (at : Border) (before others : List LogEntry) → MayCome at before others → SameLive before (before ++ others)
live_may Within before others none id apart = ap (λ (l : List LogEntry). live_in id (before ++ l)) none ∙ ap (live_in id) (append-nil before)
live_may AtEnd before others may id apart =
    ap (λ (l : List LogEntry). live_in id (before ++ l)) may.1 ∙ live_manifests before may.0 id apart
live_may AtBegin before others (inl none) id apart =
    ap (λ (l : List LogEntry). live_in id (before ++ l)) none ∙ ap (live_in id) (append-nil before)
live_may AtBegin before others (inr some) id apart = ap (λ (l : List LogEntry). live_in id (before ++ l)) some.1 ∙ live_commit id before

live_comes : (keys : Keys) (most : ℕ) (front : List LogEntry) (one : Addition) (after : List LogEntry) → ComesBefore keys most front one after
    → SameLive front after
live_comes keys most front one after (inl same) id apart = ap (live_in id) same
live_comes keys most front one after (inr full) id apart = ap (live_in id) full.1 ∙ live_commit id front

live_one : (keys : Keys) (most : ℕ) (front : List LogEntry) (one : Addition) (after : List LogEntry) → IsAddedBehind keys most front one after
    → KeepsChunks front after
live_one keys most front one after (inl there) id blob apart live = ap (live_in id) there.1.1 ∙ live
live_one keys most front one after (inr new) id blob apart live = ap (live_in id) new.1.1.1 ∙ by_id (same_or (content_id keys one.content) id) where
  by_id : (id ≡ content_id keys one.content) ⊎ (id ≢ content_id keys one.content)
      → live_in id (front ++ PutEntry (content_id keys one.content) new.1.0 ∷ []) ≡ Some blob
  by_id (inl is) =
      let there : live_in (content_id keys one.content) front ≡ Some blob = subst (λ (i : List ℕ). live_in i front ≡ Some blob) is live in
      absurd (new.1.1.0.new (inr (subst IsSome (sym there) refl)))
  by_id (inr differ) = live_other (content_id keys one.content) new.1.0 id front differ ∙ live

-- what was live is so behind what was added
pub live_added : (at : Border) (keys : Keys) (most : ℕ) (a : List LogEntry) (added : List Addition) (b : List LogEntry) → AddsAll at keys most a added b
    → KeepsChunks a b
live_added at keys most a [] b p id blob apart live = ap (live_in id) p.1.1 ∙ (live_may at a p.0 p.1.0 id apart ∙ live)
live_added at keys most a (one ∷ rest) b p id blob apart live =
    let before = a ++ p.0 in
    let front = p.1.1.0 in
    let middle = p.1.1.1.1.0 in
    live_added (border_of one.kind) keys most middle rest b p.1.1.1.1.1.1 id blob apart
    (live_one keys most front one middle p.1.1.1.1.1.0 id blob apart
    (live_comes keys most before one front p.1.1.1.0 id apart ∙ (live_may at a p.0 p.1.0 id apart ∙ live)))

-- ---- chunks

-- a chunk that was there is there
pub over_held : (added : List Addition) (store now : Store) (h g : History) (fits : StoreFits false store h) (over : AddsOver added store now h g fits)
    → KeepsHeld (files_now h) (repo_view store.repo).log (repo_view store.repo).keys (files_now g) (repo_view now.repo).log
over_held added store now h g fits over id content chunk =
    let object = chunk.object in
    let keys = (repo_view store.repo).keys in
    let before = entries_of fits.written in
    let after = entries_of over.fits_now.written in
    let was = (fits.holds id object.blob chunk.chunk).0 object.has in
    let live = live_added over.at keys over.most before added after over.adds id object.blob chunk.chunk was in
    record {
      chunk = chunk.chunk;
      object = record { blob = object.blob; has = (over.fits_now.holds id object.blob chunk.chunk).1 live; opens = object.opens };
    }

-- ---- an archive that is copied

-- contents that are there apart from collisions are so where each chunk is kept
apart_over : (f g : Files) (repo now : RepoState) (added : List Addition) (contents : List (List ℕ)) → now.keys ≡ repo.keys
    → KeepsHeld f repo.log repo.keys g now.log → HoldsApart f repo added contents → HoldsApart g now added contents
apart_over f g repo now added contents keys keeps holds scope apart among within =
    let held = holds scope (subst (λ (k : Keys). NoCollision k scope) keys apart) among (λ id content chunk.
    within id content (subst (λ (k : Keys). HoldsChunk g now.log k id content) (sym keys) (keeps id content chunk))) in
    subst (λ (k : Keys). AllByRecursion (λ (content : List ℕ). HoldsChunk g now.log k (content_id k content) content) contents) (sym keys)
    (each_to (λ (content : List ℕ). HoldsChunk f repo.log repo.keys (content_id repo.keys content) content)
    (λ (content : List ℕ). HoldsChunk g now.log repo.keys (content_id repo.keys content) content) contents
    (λ content chunk. keeps (content_id repo.keys content) content chunk) held)

items_over : (f g : Files) (repo now : RepoState) (copy : Copy) (wholes : List WholeItem) (added : List Addition) → now.keys ≡ repo.keys
    → KeepsHeld f repo.log repo.keys g now.log → WritesItems f repo copy wholes added → WritesItems g now copy wholes added
items_over f g repo now copy wholes added keys keeps w =
    let back = sym keys in
    record {
      taken = w.taken;
      fed = subst (λ (k : Keys). IsFed stream_block (copied_stream k copy.block wholes) w.taken copy.stream.cutter.piece) back w.fed;
      chunks = subst (λ (k : Keys). copy.stream.chunks.items ≡ chunks_of k w.taken) back w.chunks;
      spelled = subst (λ (k : Keys). AllByRecursion (λ (whole : WholeItem). IsRead (copied_item k copy.block whole)) wholes) back w.spelled;
      few = w.few;
      held = apart_over f g repo now added (contents_of copy.block wholes ++ w.taken) keys keeps w.held;
      lists = subst (λ (k : Keys). ListsItems k copy.block [] wholes added copy.stream.cutter.piece) back w.lists;
    }

pub copies_over : (there f g : Files) (source : RepoState) (named : ArchiveRef) (repo now : RepoState) (copy : Copy) (added : List Addition)
    → now.keys ≡ repo.keys → KeepsHeld f repo.log repo.keys g now.log → CopiesSoFar there source named f repo copy added
    → CopiesSoFar there source named g now copy added
copies_over there f g source named repo now copy added keys keeps so = record {
  items = so.items;
  wholes = so.wholes;
  record_is = so.record_is;
  leads = so.leads;
  come = so.come;
  writes = items_over f g repo now copy so.wholes added keys keeps so.writes;
}

-- ---- an archive that is compared

reads_over : (f g : Files) (repo now : RepoState) (name : List ℕ) (walk : WalkState) (front : WholeArchive) → now.keys ≡ repo.keys
    → KeepsHeld f repo.log repo.keys g now.log → KeepsNames repo.manifest now.manifest → ReadsSoFar f repo name walk front → ReadsSoFar g now name walk front
reads_over f g repo now name walk front keys keeps names r =
    let back = sym keys in
    let fits : FitsWalk g now.log repo.keys walk = record {
      contents = r.fits.contents;
      hold = chunks_kept f repo.log repo.keys g now.log keeps (take walk.read walk.ids) r.fits.contents r.fits.hold;
      items = r.fits.items;
      front = r.fits.front;
      answered = r.fits.answered;
      left = r.fits.left;
      split = r.fits.split;
      left_is = r.fits.left_is;
      met = r.fits.met;
    } in
    let under : (k : Keys) → k ≡ repo.keys → ReadsSoFar g (record now { keys = k }) name walk front =
    λ k same. subst (λ (l : Keys). ReadsSoFar g (record now { keys = l }) name walk front) (sym same) (record {
      named = r.named;
      named_is = names name r.named r.named_is;
      archive = r.archive;
      record_is = record {
        content = r.record_is.content;
        chunk = keeps r.named.id r.record_is.content r.record_is.chunk;
        record_is = r.record_is.record_is;
      };
      time = r.time;
      fields = r.fields;
      id = r.id;
      ids = r.ids;
      fits = fits;
      contents = wholes_kept f repo.log repo.keys g now.log keeps r.fits.items front.items r.contents;
    }) in
    under now.keys keys

pub beside_over : (a b : Told) (repo now : RepoState) (met : Seen) (name : List ℕ) (walk : Option WalkState) (front : WholeArchive) → now.keys ≡ repo.keys
    → KeepsHeld (told_files a) repo.log repo.keys (told_files b) now.log → KeepsNames repo.manifest now.manifest
    → StandsBeside (Some a) repo met name walk front → StandsBeside (Some b) now met name walk front
beside_over a b repo now met name None front keys keeps names stands = stands
beside_over a b repo now met name (Some walk) front keys keeps names stands =
    reads_over (told_files a) (told_files b) repo now name walk front keys keeps names stands
