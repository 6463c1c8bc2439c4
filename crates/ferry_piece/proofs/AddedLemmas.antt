-- A content that is added to a store: what it is there, what it brings, and what stands meanwhile.
use Rattle.std.proofs.Common.{◌≡◌, ◌≢◌, ◌⊎◌, ◌↔◌, IsTrue, inl, inr, ℕ, Bool, true, false, List, [], ◌∷◌, ◌++◌, Some, None}
use Rattle.std.proofs.Common.{is_some, refl, sym, ◌∙◌, ap, subst}
use Rattle.ferry_base.specs.Limits.{zero_id}
use Rattle.ferry_blob.proofs.CallerLemmas.{opened_id}
use Rattle.ferry_blob.proofs.LawLemmas.{one_content}
use Rattle.ferry_blob.specs.Blob.{OpensTo, content_id}
use Rattle.ferry_disk.specs.Act.{History, files_now}
use Rattle.ferry_mac.specs.declared.keys.Keys.{Keys}
use Rattle.ferry_repo.specs.Objects.{HoldsChunk}
use Rattle.ferry_manifest.specs.Manifest.Text.{manifest_view}
use Rattle.ferry_manifest.specs.declared.manifest.Manifest.{Manifest}
use Rattle.ferry_repo.specs.Opening.{RepoState, repo_view}
use Rattle.ferry_segment.specs.Entry.{LogEntry}
use Rattle.ferry_stops.specs.Tells.{TellsNothing}
use Rattle.ferry_store.proofs.LiveLemmas.{keeps_put, keeps_same, live_other, live_put, same_or}
use Rattle.ferry_store.proofs.StandingLemmas.{entries_put, missing_unlive}
use Rattle.ferry_store.specs.Adding.{Adds, entry_of, id_under}
use Rattle.ferry_store.specs.Content.{IsNew, Learns, blob_for, with_added}
use Rattle.ferry_store.specs.Standing.{Keeps, committed_of, entries_of, live_in}
use Rattle.ferry_store.specs.State.{KeepsSound, Written}
use Rattle.ferry_store.specs.Store.{IsKnown, StoreFits}
use Rattle.ferry_store.specs.declared.content.Added.{Added}
use Rattle.ferry_store.specs.declared.store.Store.{Store}
use Rattle.ferry_piece.proofs.PutsLemmas.{adds_one}
use Rattle.ferry_piece.proofs.PendingLemmas.{room_of}
use Rattle.ferry_piece.proofs.PutsLemmas.{first_all}
use Rattle.ferry_piece.proofs.FrontLemmas.{each_way}
use Rattle.ferry_piece.proofs.FrontLemmas.{EachFront}
use Rattle.ferry_store.specs.Writing.{CanPut, WritesContent}
use Rattle.ferry_piece.specs.Gather.{Brings, BringsOpening, Gathers, HoldsWithin, IsAmong, KeepsRest, KeepsStanding}
use Rattle.ferry_piece.specs.Gather.{KeepsStandingAt, Moved}
use Rattle.ferry_piece.specs.Piece.{HasRoom}
use Rattle.ferry_piece.specs.Puts.{Addition, AddsFirst, Border, IsAddedBehind, IsLiveIn, Kind}
use Rattle.ferry_piece.specs.Puts.{Within, addition}
use Rattle.ferry_piece.proofs.GatherLemmas.{chunk_on, moved_here, opening_put, stood_with}

-- ---- a content is added

-- what a clause of `add` says of a content that was put, or that was live
pub record AddedSo (store : Store) (content : List ℕ) (store_now : Store) (added : Added) : Type 0 where
  pub id : added.id ≡ id_under store content
  pub new : IsTrue added.new ↔ IsNew (repo_view store.repo) (id_under store content)
  pub known : IsKnown store_now (id_under store content)
  pub repo : Learns (repo_view store.repo) added.id added.new (repo_view store_now.repo)
  pub opens : IsTrue added.new
      → OpensTo (repo_view store.repo).keys (id_under store content) (blob_for (repo_view store.repo) store.counter content) content
  pub accepted : store_now.accepted ≡ store.accepted

learns_keys : (repo : RepoState) (id : List ℕ) (new : Bool) (now : RepoState) → Learns repo id new now → now.keys ≡ repo.keys
learns_keys repo id false now same = ap (λ (r : RepoState). r.keys) same
learns_keys repo id true now learnt = ap (λ (r : RepoState). r.keys) learnt.1

learns_config : (repo : RepoState) (id : List ℕ) (new : Bool) (now : RepoState) → Learns repo id new now → now.config ≡ repo.config
learns_config repo id false now same = ap (λ (r : RepoState). r.config) same
learns_config repo id true now learnt = ap (λ (r : RepoState). r.config) learnt.1

learns_manifest : (repo : RepoState) (id : List ℕ) (new : Bool) (now : RepoState) → Learns repo id new now → now.manifest ≡ repo.manifest
learns_manifest repo id false now same = ap (λ (r : RepoState). r.manifest) same
learns_manifest repo id true now learnt = ap (λ (r : RepoState). r.manifest) learnt.1

pub rest_by : (store now : Store) → (repo_view now.repo).keys ≡ (repo_view store.repo).keys → (repo_view now.repo).config ≡ (repo_view store.repo).config
    → (repo_view now.repo).manifest ≡ (repo_view store.repo).manifest → now.accepted ≡ store.accepted → KeepsRest store now
rest_by store now keys config manifest accepted = record {
  keys = keys;
  config = config;
  manifest = manifest;
  accepted = ap (λ (m : Manifest). manifest_view m) accepted;
}

pub added_rest : (store now : Store) (content : List ℕ) (added : Added) → AddedSo store content now added → KeepsRest store now
added_rest store now content added so =
    rest_by store now (learns_keys (repo_view store.repo) added.id added.new (repo_view now.repo) so.repo)
    (learns_config (repo_view store.repo) added.id added.new (repo_view now.repo) so.repo)
    (learns_manifest (repo_view store.repo) added.id added.new (repo_view now.repo) so.repo) so.accepted

-- where a content was put, its chunk has it, and each other chunk is what it was
brings_new : (counts : Bool) (store now : Store) (content : List ℕ) (h g : History) (fits : StoreFits counts store h) (fits_now : StoreFits counts now g)
    → (repo_view now.repo).keys ≡ (repo_view store.repo).keys → id_under store content ≢ zero_id
    → OpensTo (repo_view store.repo).keys (id_under store content) (blob_for (repo_view store.repo) store.counter content) content
    → entries_of fits_now.written ≡ entries_of fits.written ++ entry_of store content ∷ []
    → Brings (repo_view store.repo) (content ∷ []) (repo_view now.repo) h g
brings_new counts store now content h g fits fits_now keys chunk opens entries scope apart all within = (
  λ other found holds. by_id other found holds (same_or id other),
  (subst (λ (k : Keys). HoldsChunk (files_now g) (repo_view now.repo).log (repo_view now.repo).keys (content_id k content) content) (sym keys) held, tt),
) where
  id : List ℕ
  id = id_under store content

  blob : List ℕ
  blob = blob_for (repo_view store.repo) store.counter content

  live : live_in id (entries_of fits_now.written) ≡ Some blob
  live = ap (live_in id) entries ∙ live_put id blob (entries_of fits.written)

  held : HoldsChunk (files_now g) (repo_view now.repo).log (repo_view now.repo).keys id content
  held = record {
    chunk = chunk;
    object = record {
      blob = blob;
      has = (fits_now.holds id blob chunk).1 live;
      opens = subst (λ (k : Keys). OpensTo k id blob content) (sym keys) opens;
    };
  }

  by_id : (other found : List ℕ) → HoldsChunk (files_now g) (repo_view now.repo).log (repo_view now.repo).keys other found
      → (other ≡ id) ⊎ (other ≢ id) → IsAmong scope found
  by_id other found holds (inl is) =
      let object = holds.object in
      let there = (fits_now.holds other object.blob holds.chunk).0 object.has in
      let same : Some object.blob ≡ Some blob = sym there ∙ (ap (λ (i : List ℕ). live_in i (entries_of fits_now.written)) is ∙ live) in
      let blobs : object.blob ≡ blob = cc in
      let one : OpensTo (repo_view store.repo).keys id blob found =
      subst (λ (b : List ℕ). OpensTo (repo_view store.repo).keys id b found) blobs
      (subst (λ (i : List ℕ). OpensTo (repo_view store.repo).keys i object.blob found) is
      (subst (λ (k : Keys). OpensTo k other object.blob found) keys object.opens)) in
      subst (IsAmong scope) (one_content (repo_view store.repo).keys id blob content found opens one) all.0
  by_id other found holds (inr differ) =
      let object = holds.object in
      let there = (fits_now.holds other object.blob holds.chunk).0 object.has in
      let before = sym (live_other id blob other (entries_of fits.written) differ) ∙ (ap (live_in other) (sym entries) ∙ there) in
      within other found (record {
        chunk = holds.chunk;
        object = record {
          blob = object.blob;
          has = (fits.holds other object.blob holds.chunk).1 before;
          opens = subst (λ (k : Keys). OpensTo k other object.blob found) keys object.opens;
        };
      })

-- where nothing was put, each chunk is what it was, and that of the content is there
brings_old : (counts : Bool) (store now : Store) (content : List ℕ) (h g : History) (fits : StoreFits counts store h) (fits_now : StoreFits counts now g)
    → (repo_view now.repo).keys ≡ (repo_view store.repo).keys → IsKnown now (id_under store content)
    → entries_of fits_now.written ≡ entries_of fits.written → Brings (repo_view store.repo) (content ∷ []) (repo_view now.repo) h g
brings_old counts store now content h g fits fits_now keys known entries scope apart all within = (
  within_now,
  (subst (λ (k : Keys). HoldsChunk (files_now g) (repo_view now.repo).log (repo_view now.repo).keys (content_id k content) content) (sym keys) held, tt),
) where
  id : List ℕ
  id = id_under store content

  back : Keeps (entries_of fits_now.written) (entries_of fits.written)
  back = subst (Keeps (entries_of fits_now.written)) entries (keeps_same (entries_of fits_now.written))

  within_now : HoldsWithin scope (files_now g) (repo_view now.repo)
  within_now other found holds = within other found (chunk_on counts now store g h fits_now fits back (sym keys) other found holds)

  chunk : id ≢ zero_id
  chunk = apart.chunk content all.0

  held : HoldsChunk (files_now g) (repo_view now.repo).log (repo_view now.repo).keys id content
  held =
      let there = fits_now.there id chunk known in
      let found = there.0 in
      let named : id ≡ content_id (repo_view store.repo).keys found =
      opened_id (repo_view now.repo).keys id there.1.object.blob found there.1.object.opens chunk ∙ ap (λ (k : Keys). content_id k found) keys in
      let same : found ≡ content = apart.one found content (within_now id found there.1) all.0 (sym named) in
      subst (HoldsChunk (files_now g) (repo_view now.repo).log (repo_view now.repo).keys id) same there.1

-- where nothing was put, the id of the content is live
live_old : (counts : Bool) (now : Store) (id : List ℕ) (g : History) (fits_now : StoreFits counts now g) → IsKnown now id
    → IsLiveIn (entries_of fits_now.written) id
live_old counts now id g fits_now known = by_id (same_or zero_id id) where
  by_id : (id ≡ zero_id) ⊎ (id ≢ zero_id) → IsLiveIn (entries_of fits_now.written) id
  by_id (inl zero_is) = inl zero_is
  by_id (inr chunk) =
      let object = (fits_now.there id chunk known).1.object in
      inr (ap is_some ((fits_now.holds id object.blob chunk).0 object.has))

-- an id whose content is new isn't live
pub unlive_new : (id : List ℕ) (entries : List LogEntry) → id ≢ zero_id → live_in id entries ≡ None → IsLiveIn entries id → ⊥
unlive_new id entries chunk unlive (inl zero_is) = chunk zero_is
unlive_new id entries chunk unlive (inr live) = let never : true ≡ false = sym live ∙ ap is_some unlive in cc

-- what a content that is added makes of what is written and of what is there
record AddedAs (most : ℕ) (counts : Bool) (store now : Store) (one : Addition) (h g : History) (written written_now : Written) : Type 0 where
  moved : Moved (repo_view store.repo).keys written written_now
  puts : IsAddedBehind (repo_view store.repo).keys most (entries_of written) one (entries_of written_now)
  committed : committed_of written_now ≡ committed_of written
  brings : Brings (repo_view store.repo) (one.content ∷ []) (repo_view now.repo) h g

added_by : (most : ℕ) (counts : Bool) (store now : Store) (one : Addition) (added : Added) (h g : History) (fits : StoreFits counts store h)
    (fits_now : StoreFits counts now g) (new : Bool) → new ≡ added.new → one.put ≡ added.new → HasRoom most one.kind one.content store
    → AddedSo store one.content now added → fits_now.written ≡ with_added new fits.written (entry_of store one.content)
    → AddedAs most counts store now one h g fits.written fits_now.written
added_by most counts store now one added h g fits fits_now true is put_is room so e =
    let content = one.content in
    let put : IsTrue added.new = sym is in
    let fresh = so.new.0 put in
    let entries : entries_of fits_now.written ≡ entries_of fits.written ++ entry_of store content ∷ [] =
    ap entries_of e ∙ entries_put fits.written (entry_of store content) in
    let unlive = missing_unlive (files_now h) (repo_view store.repo).log (entries_of fits.written) (id_under store content) fresh.0 fresh.1 fits.holds in
    let keys = (added_rest store now content added so).keys in
    let blob = blob_for (repo_view store.repo) store.counter content in
    record {
      moved = record {
        committed = subst (λ (w : Written). Keeps (committed_of fits.written) (committed_of w)) (sym e) (keeps_same (committed_of fits.written));
        entries = subst (Keeps (entries_of fits.written)) (sym entries)
            (keeps_put (id_under store content) blob (entries_of fits.written) unlive);
        opening = subst (BringsOpening (repo_view store.repo).keys (entries_of fits.written)) (sym entries)
            (opening_put (repo_view store.repo).keys (id_under store content) blob content (entries_of fits.written) (so.opens put));
        config = ap (λ (w : Written). w.config) e;
      };
      puts = inr (
        put_is ∙ sym is,
        (
          blob,
          (
            record {
              new = unlive_new (id_under store content) (entries_of fits.written) fresh.0 unlive;
              room = room_of counts store h fits most one.kind room.checkpoint (room.room fresh);
              opens = so.opens put;
            },
            entries,
          ),
        ),
      );
      committed = ap committed_of e;
      brings = brings_new counts store now content h g fits fits_now keys fresh.0 (so.opens put) entries;
    }
added_by most counts store now one added h g fits fits_now false is put_is room so e =
    let content = one.content in
    let live = live_old counts now (id_under store content) g fits_now so.known in
    record {
      moved = subst (Moved (repo_view store.repo).keys fits.written) (sym e) (moved_here (repo_view store.repo).keys fits.written);
      puts = inl (put_is ∙ sym is, (subst (λ (w : Written). IsLiveIn (entries_of w) (id_under store content)) e live, ap entries_of e));
      committed = ap committed_of e;
      brings = brings_old counts store now content h g fits fits_now (added_rest store now content added so).keys so.known (ap entries_of e);
    }

one_gathers : (most : ℕ) (store now : Store) (one : Addition) (added : Added) (h g : History) → one.put ≡ added.new → HasRoom most one.kind one.content store
    → AddedSo store one.content now added → Adds store one.content now added h g → Gathers most store (one ∷ []) now h g
one_gathers most store now one added h g put_is room so adds counts fits =
    let end = adds counts fits in
    let keys = (repo_view store.repo).keys in
    let all = added_by most counts store now one added h g fits end.0 added.new refl put_is room so end.1 in
    record {
      fits_now = end.0;
      moved = all.moved;
      puts = adds_one Within keys most (entries_of fits.written) one (entries_of end.0.written) all.puts;
      committed = inl all.committed;
      brings = all.brings;
    }

-- a content that was added is there
pub add_gathers : (most : ℕ) (store now : Store) (kind : Kind) (content : List ℕ) (put : Bool) (added : Added) (h g : History) → put ≡ added.new
    → HasRoom most kind content store → AddedSo store content now added → Adds store content now added h g
    → Gathers most store (addition kind content put ∷ []) now h g
add_gathers most store now kind content put added h g put_is room so adds =
    one_gathers most store now (addition kind content put) added h g put_is room so adds

-- what a content that is added is on the way to, where it is put
added_way : (most : ℕ) (store : Store) (one : Addition) (counts : Bool) (h : History) (fits : StoreFits counts store h) → one.put ≡ true
    → HasRoom most one.kind one.content store → CanPut store one.content
    → AddsFirst Within (repo_view store.repo).keys most (entries_of fits.written) (one ∷ []) (entries_of fits.written ++ entry_of store one.content ∷ [])
added_way most store one counts h fits put room can =
    let keys = (repo_view store.repo).keys in
    let before = entries_of fits.written in
    let id = id_under store one.content in
    let fresh = can.0 in
    let unlive = missing_unlive (files_now h) (repo_view store.repo).log before id fresh.0 fresh.1 fits.holds in
    let after = before ++ entry_of store one.content ∷ [] in
    first_all Within keys most before (one ∷ []) after (adds_one Within keys most before one after (inr (
      put,
      (
        blob_for (repo_view store.repo) store.counter one.content,
        (
          record {
            new = unlive_new id before fresh.0 unlive;
            room = room_of counts store h fits most one.kind room.checkpoint (room.room fresh);
            opens = can.1;
          },
          refl,
        ),
      ),
    )))

-- what stood stands at each moment, with what is read
pub stands_with : (at : Border) (most : ℕ) (store : Store) (within : List Addition) (h g : History) → TellsNothing h g
    → KeepsSound store.session store.counter h g → EachFront at most store within h g → KeepsStandingAt at most store within h g
stands_with at most store within h g untold keeps front = (
  untold,
  λ counts fits. stood_with at most within counts store h g fits (keeps counts fits.written fits.under_way) (front counts fits),
)

-- at each moment of a content that is added there stands what stood, and no other content is put
pub add_stands : (most : ℕ) (store : Store) (one : Addition) (h g : History) → (CanPut store one.content → one.put ≡ true)
    → HasRoom most one.kind one.content store → TellsNothing h g → KeepsSound store.session store.counter h g × WritesContent store one.content h g
    → KeepsStanding most store (one ∷ []) h g
add_stands most store one h g put room untold keeps =
    stands_with Within most store (one ∷ []) h g untold keeps.0
    (each_way (CanPut store one.content) (entry_of store one.content ∷ []) Within most store (one ∷ []) h g
    (λ counts fits can. added_way most store one counts h fits (put can) room can) keeps.1)
