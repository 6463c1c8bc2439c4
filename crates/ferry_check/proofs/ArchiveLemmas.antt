-- Lemmas on specs/Steps.antt: an archive whose items are checked is whole, or is refused for the fault that was met.
use Rattle.std.proofs.Common.{◌≡◌, ◌≢◌, ◌⊎◌, inl, inr, ℕ, ◌<◌, Bool, true, false, if◌then◌else◌, List, []}
use Rattle.std.proofs.Common.{◌∷◌, ◌++◌, length, get_or, zero, suc, arith}
use Rattle.std.proofs.Common.{Option, Some, None, MatchOption, IsSome, unwrap_or, refl, sym, ◌∙◌, subst}
use Rattle.std.specs.Str.{bytes_eq}
use Rattle.std.proofs.lemmas.Slice.Eq.{bytes_eq-Decides}
use Rattle.ferry_base.specs.Limits.{zero_id}
use Rattle.ferry_disk.specs.Files.{Files}
use Rattle.ferry_item.specs.Item.{ItemText}
use Rattle.ferry_item.specs.declared.item.ChunkRef.{ChunkRef}
use Rattle.ferry_log.specs.State.{place_in}
use Rattle.ferry_log.specs.declared.place.Place.{Place}
use Rattle.ferry_manifest.specs.Record.Text.{ArchiveText}
use Rattle.ferry_manifest.specs.declared.manifest.ArchiveRef.{ArchiveRef}
use Rattle.ferry_repo.specs.Archives.{archive_named, HoldsRecord, RefusesNamed, HoldsContent, RefusesContent, ContentsCome, HoldsJoined, RefusesJoined}
use Rattle.ferry_repo.specs.Fault.{IsOfFiles}
use Rattle.ferry_repo.specs.Objects.{IsMissing}
use Rattle.ferry_repo.specs.Opening.{RepoState}
use Rattle.ferry_repo.specs.Walk.{begin_walk, IsToCome, Comes}
use Rattle.ferry_repo.specs.Whole.{WholeItem, WholesCome, Reading, ReadsArchive, each_item, RefusesWhole}
use Rattle.ferry_repo.specs.declared.fault.RepoFault.{RepoFault}
use Rattle.ferry_repo.specs.declared.fault.RepoFault.TheVariants as Fault
use Rattle.ferry_repo.proofs.ComesLemmas.{whole_comes}
use Rattle.ferry_repo.proofs.ContentLemmas.{contents_then}
use Rattle.ferry_repo.proofs.WholeLemmas.{wholes_then, reads_whole}
use Rattle.ferry_item.specs.Stream.{joined}
use Rattle.ferry_check.specs.Steps.{Known, KnowsSizes, HasLength, IsRight, AreRight, RefusesUse, RefusesUses}
use Rattle.ferry_check.specs.Steps.{ItemsRight, StreamEnds, ItemEnds, Checked}
use Rattle.ferry_check.specs.Verify.{IsChunk}
use Rattle.ferry_check.specs.declared.chunks.Chunk.{Chunk}

-- ---- one chunk

pub zero_or : (id : List ℕ) (b : Bool) → bytes_eq id zero_id ≡ b → (id ≡ zero_id) ⊎ (id ≢ zero_id)
zero_or id true is = inl ((bytes_eq-Decides id zero_id).0 is)
zero_or id false is = inr (λ e. let both : false ≡ true = sym is ∙ (bytes_eq-Decides id zero_id).1 e in cc)

module _ (files : Files) (repo : RepoState) (known : Known) where
  length_at : (id : List ℕ) (o : Option Chunk) (found : Chunk) → MatchOption o (IsChunk repo.log id → ⊥) (λ chunk. HasLength files repo id chunk.size)
      → o ≡ Some found → HasLength files repo id found.size
  length_at id None found h e = absurd (let no : ⊥ = cc in no)
  length_at id (Some c) found h e = let same : c ≡ found = cc in subst (λ (k : Chunk). HasLength files repo id k.size) same h

  right_holds : KnowsSizes files repo known → (chunk : ChunkRef) → IsRight known chunk
      → (content : List ℕ) × HoldsContent files repo.log repo.keys chunk content
  right_holds sizes chunk r =
      let l = length_at chunk.id (known chunk.id) r.found (sizes chunk.id) r.is in
      (l.content, record { holds = l.holds; size = sym l.size_is ∙ r.size })

  missing_at : (id : List ℕ) (o : Option Chunk) → MatchOption o (IsChunk repo.log id → ⊥) (λ chunk. HasLength files repo id chunk.size) → o ≡ None
      → IsChunk repo.log id → ⊥
  missing_at id None h e live = h live
  missing_at id (Some c) h e live = let no : ⊥ = cc in no

  not_live : (id : List ℕ) → (IsChunk repo.log id → ⊥) → id ≢ zero_id → (o : Option Place) → place_in repo.log id ≡ o → IsMissing repo.log id
  not_live id off chunk None e = e
  not_live id off chunk (Some p) e = absurd (off (record { chunk = chunk; live = subst IsSome (sym e) refl }))

  zero_or_missing : (id : List ℕ) → (IsChunk repo.log id → ⊥) → (id ≡ zero_id) ⊎ (id ≢ zero_id) → (id ≡ zero_id) ⊎ IsMissing repo.log id
  zero_or_missing id off (inl same) = inl same
  zero_or_missing id off (inr chunk) = inr (not_live id off chunk (place_in repo.log id) refl)

  -- a chunk that isn't right is refused
  refused_content : KnowsSizes files repo known → (chunk : ChunkRef) (fault : RepoFault) → RefusesUse known chunk fault
      → IsOfFiles fault × RefusesContent files repo.log repo.keys chunk fault
  refused_content sizes chunk (Fault.Missing named) r = (
    tt,
    (
      r.0,
      zero_or_missing chunk.id (missing_at chunk.id (known chunk.id) (sizes chunk.id) r.1) (zero_or chunk.id (bytes_eq chunk.id zero_id) refl),
    ),
  )
  refused_content sizes chunk (Fault.Size named) r =
      let w = r.1 in
      let l = length_at chunk.id (known chunk.id) w.found (sizes chunk.id) w.is in
      (tt, (r.0, record { content = l.content; holds = l.holds; size = λ same. w.size (l.size_is ∙ same) }))
  refused_content sizes chunk Fault.NoCommit r = absurd r
  refused_content sizes chunk (Fault.Damaged segment at) r = absurd r
  refused_content sizes chunk (Fault.Config f) r = absurd r
  refused_content sizes chunk (Fault.Key f) r = absurd r
  refused_content sizes chunk (Fault.Blob id f) r = absurd r
  refused_content sizes chunk (Fault.Manifest f) r = absurd r
  refused_content sizes chunk (Fault.Archive id f) r = absurd r
  refused_content sizes chunk (Fault.Item id f) r = absurd r
  refused_content sizes chunk (Fault.KeyFile f) r = absurd r
  refused_content sizes chunk (Fault.Other file config) r = absurd r
  refused_content sizes chunk Fault.NoKey r = absurd r
  refused_content sizes chunk Fault.Device r = absurd r
  refused_content sizes chunk Fault.Memory r = absurd r

  -- ---- the chunks of an item

  contents_right : KnowsSizes files repo known → (chunks : List ChunkRef) → AreRight known chunks
      → (contents : List (List ℕ)) × ContentsCome files repo.log repo.keys chunks contents None
  contents_right sizes [] right = ([], tt)
  contents_right sizes (c ∷ cs) right =
      let one = right_holds sizes c right.0 in
      let more = contents_right sizes cs right.1 in
      (one.0 ∷ more.0, (one.1, more.1))

  joined_right : KnowsSizes files repo known → (chunks : Option (List ChunkRef)) → AreRight known (unwrap_or chunks [])
      → (content : Option (List ℕ)) × HoldsJoined files repo.log repo.keys chunks content
  joined_right sizes None right = (None, tt)
  joined_right sizes (Some chunks) right =
      let all = contents_right sizes chunks right in
      (Some (joined all.0), (all.0, all.1, refl))

  none_refused : (before : List ChunkRef) (chunk : ChunkRef) (behind : List ChunkRef) → [] ≡ before ++ (chunk ∷ behind) → ⊥
  none_refused [] chunk behind e = let no : ⊥ = cc in no
  none_refused (b ∷ bs) chunk behind e = let no : ⊥ = cc in no

  joined_refused : KnowsSizes files repo known → (chunks : Option (List ChunkRef)) (fault : RepoFault) → RefusesUses known (unwrap_or chunks []) fault
      → RefusesJoined files repo.log repo.keys chunks fault
  joined_refused sizes None fault r = none_refused r.before r.chunk r.behind r.chunks_are
  joined_refused sizes (Some chunks) fault r =
      let all = contents_right sizes r.before r.right in (
        all.0 ++ [],
        subst (λ (cs : List ChunkRef). ContentsCome files repo.log repo.keys cs (all.0 ++ []) (Some fault)) (sym r.chunks_are)
            (contents_then files repo.log repo.keys r.before (r.chunk ∷ r.behind) all.0 [] (Some fault) all.1 (refused_content sizes r.chunk fault r.refused)),
      )

  -- ---- items

  wholes_right : KnowsSizes files repo known → (items : List ItemText) (ends : Option RepoFault) → ItemsRight known items
      → (wholes : List WholeItem) × WholesCome files repo.log repo.keys items ends wholes ends
  wholes_right sizes [] ends right = ([], refl)
  wholes_right sizes (i ∷ is) ends right =
      let one = joined_right sizes i.chunks right.0 in
      let more = wholes_right sizes is ends right.1 in
      (record { fields = i.fields; content = one.0 } ∷ more.0, (record { fields = refl; content = one.1 }, more.1))

  front_comes : (id : List ℕ) (ids : List (List ℕ)) (items : List ItemText) (end : Option RepoFault)
      → IsToCome files repo.log repo.keys (begin_walk id ids) items end → Comes files repo.log repo.keys id [] ids items end
  unfolding IsToCome
  front_comes id ids items end h = h

  -- ---- archives

  module _ (name : List ℕ) (named : ArchiveRef) (named_is : archive_named name repo.manifest.archives ≡ Some named) (archive : ArchiveText)
      (record_is : HoldsRecord files repo.log repo.keys named.id archive) (sizes : KnowsSizes files repo known) where
    -- an archive of which all is right
    pub checked_whole : (items : List ItemText) → IsToCome files repo.log repo.keys (begin_walk named.id archive.items) items None
        → ItemsRight known items → Checked files repo name (record { id = named.id; archive = archive; items = items })
    checked_whole items come right =
        let comes = front_comes named.id archive.items items None come in
        let wholes = wholes_right sizes items None right in
        let reading : Reading = record { archive = archive; items = items; wholes = wholes.0; end = None } in
        let reads : ReadsArchive each_item files repo.log repo.keys named.id reading =
        record { record_is = record_is; ends = None; comes = comes; contents = wholes.1 } in (
          record {
            named = named;
            named_is = named_is;
            id = refl;
            record_is = record_is;
            stream = (whole_comes files repo.log repo.keys named.id archive.items items).0 comes;
          },
          (
            record { time = named.time; fields = archive.fields; items = wholes.0 },
            reads_whole files repo.log repo.keys repo.manifest.archives name named reading named_is reads refl,
          ),
        )

    stream_whole_refused : (fault : RepoFault) → StreamEnds files repo (begin_walk named.id archive.items) known fault
        → RefusesWhole files repo.log repo.keys repo.manifest.archives name fault
    stream_whole_refused fault e =
        let wholes = wholes_right sizes e.items (Some fault) e.right in
        record {
          named = named;
          named_is = named_is;
          refused = inr (
            record { archive = archive; items = e.items; wholes = wholes.0; end = Some fault },
            record {
              record_is = record_is;
              ends = Some fault;
              comes = front_comes named.id archive.items e.items (Some fault) e.come;
              contents = wholes.1;
            },
            refl,
          );
        }

    item_whole_refused : (fault : RepoFault) → ItemEnds files repo (begin_walk named.id archive.items) known fault
        → RefusesWhole files repo.log repo.keys repo.manifest.archives name fault
    item_whole_refused fault e =
        let wholes = wholes_right sizes e.before None e.right in
        let items : List ItemText = e.before ++ (e.item ∷ e.behind) in
        record {
          named = named;
          named_is = named_is;
          refused = inr (
            record { archive = archive; items = items; wholes = wholes.0 ++ []; end = Some fault },
            record {
              record_is = record_is;
              ends = e.end;
              comes = front_comes named.id archive.items items e.end e.come;
              contents = wholes_then files repo.log repo.keys e.before (e.item ∷ e.behind) e.end wholes.0 [] (Some fault) wholes.1
                  (joined_refused sizes e.item.chunks fault e.refused);
            },
            refl,
          );
        }

    -- an archive whose items end with a fault, or have a content that isn't right
    pub checked_refused : (fault : RepoFault)
        → StreamEnds files repo (begin_walk named.id archive.items) known fault ⊎ ItemEnds files repo (begin_walk named.id archive.items) known fault
        → RefusesWhole files repo.log repo.keys repo.manifest.archives name fault
    checked_refused fault (inl e) = stream_whole_refused fault e
    checked_refused fault (inr e) = item_whole_refused fault e

-- ---- the archive of a name

-- a record that is refused
pub named_refused : (files : Files) (repo : RepoState) (name : List ℕ) (fault : RepoFault) (found : Option ArchiveRef)
    → archive_named name repo.manifest.archives ≡ found → RefusesNamed files repo.log repo.keys found fault
    → IsOfFiles fault → RefusesWhole files repo.log repo.keys repo.manifest.archives name fault
named_refused files repo name fault None is r of_files = absurd r
named_refused files repo name fault (Some named) is r of_files = record { named = named; named_is = is; refused = inl r }

there_at : (a : ArchiveRef) (rest : Option ArchiveRef) (b : Bool) → IsSome rest ⊎ (b ≡ true) → IsSome (if b then Some a else rest)
there_at a rest true h = refl
there_at a rest false (inl h) = h
there_at a rest false (inr e) = absurd (let no : ⊥ = cc in no)

-- a name among the archives has one
pub named_there : (archives : List ArchiveRef) (place : ℕ) (d : ArchiveRef) → place < length archives
    → IsSome (archive_named (get_or archives place d).name archives)
unfolding archive_named
named_there [] place d lt = absurd (omega arith)
named_there (a ∷ others) zero d lt = there_at a (archive_named a.name others) (bytes_eq a.name a.name) (inr ((bytes_eq-Decides a.name a.name).1 refl))
named_there (a ∷ others) (suc place) d lt =
    let name = (get_or others place d).name in
    there_at a (archive_named name others) (bytes_eq a.name name) (inl (named_there others place d (omega arith)))
