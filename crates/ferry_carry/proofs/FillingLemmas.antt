-- Lemmas on specs/Filling.antt: what was added where the source refused, from call to call.
use Rattle.std.proofs.Common.{◌≡◌, ◌<◌, ◌+◌, ◌++◌, ℕ, inl, inr, true, List, [], ◌∷◌, Option, Some, None, IfSome, length, take, drop, get_or}
use Rattle.std.proofs.Common.{refl, sym, ◌∙◌, ap, subst, arith}
use Rattle.std.proofs.lemmas.List.{append-nil, drop_more, take-append-drop}
use Rattle.std.proofs.lemmas.Option.{IfSome_then}
use Rattle.ferry_compare.proofs.StepLemmas.{at_first}
use Rattle.ferry_disk.proofs.DeviceLemmas.{told_any, told_with}
use Rattle.ferry_disk.specs.Device.{Told, heard, told_files}
use Rattle.ferry_disk.specs.Files.{Files}
use Rattle.ferry_item.specs.Item.{ItemText}
use Rattle.ferry_item.specs.declared.item.ChunkRef.{ChunkRef}
use Rattle.ferry_mac.specs.declared.keys.Keys.{Keys}
use Rattle.ferry_manifest.specs.declared.manifest.ArchiveRef.{ArchiveRef}
use Rattle.ferry_rechunk.specs.Cutting.{Cutting}
use Rattle.ferry_repo.specs.Archives.{RefusesContent, archive_named, ContentsCome}
use Rattle.ferry_repo.specs.Cached.{Contents}
use Rattle.ferry_repo.specs.Opening.{FitsRepo, RepoState, repo_view}
use Rattle.ferry_repo.specs.Walk.{IsToCome, walk_view}
use Rattle.ferry_repo.specs.declared.fault.RepoFault.{RepoFault}
use Rattle.ferry_repo.proofs.WalkLawLemmas.{some_to_come}
use Rattle.ferry_store.specs.declared.store.Store.{Store}
use Rattle.ferry_carry.proofs.ListingLemmas.{items_taken}
use Rattle.ferry_piece.proofs.PieceLemmas.{hand_fed}
use Rattle.ferry_carry.proofs.RefusalLemmas.{IsAt, item_at}
use Rattle.ferry_carry.specs.Carrying.{Origin, origin}
use Rattle.ferry_carry.specs.Copying.{TakesItem, WritesContents, writer_state}
use Rattle.ferry_piece.specs.Fault.{IsOfSource}
use Rattle.ferry_carry.specs.Filling.{FillsArchive, FillsChunks, FillsContent, FillsCopy, FillsNext, FillsOne, FillsStep, WhereHeard}
use Rattle.ferry_carry.specs.Filling.{WhereSource}
use Rattle.ferry_carry.specs.Progress.{CopiesSoFar, IsCopiedSoFar}
use Rattle.ferry_piece.specs.Puts.{Addition, AreOf, Content, contents_in}
use Rattle.ferry_carry.specs.Refusals.{RefusesNext, RefusesWriting}
use Rattle.ferry_piece.specs.Stops.{is_target}
use Rattle.ferry_carry.specs.declared.copy.Copy.{Copy}
use Rattle.ferry_piece.specs.declared.fault.CarryFault.{CarryFault}
use Rattle.ferry_piece.specs.declared.fault.CarryFault.TheVariants.{Source, Target, Taken, NotFound, Pieces, Memory, Record}

-- ---- faults

-- a fault of the target says nothing of the source
pub where_target : (told : Option Told) (fault : CarryFault) (P : Files → RepoFault → Type 0) → is_target fault ≡ true → WhereSource told fault P
where_target told (Source fault) P target = let never : ⊥ = cc in absurd never
where_target told (Target refusal) P target = tt
where_target told (Taken name) P target = tt
where_target told (NotFound name) P target = tt
where_target told Pieces P target = tt
where_target told Memory P target = tt
where_target told Record P target = tt

-- ---- the content of an item

-- the contents of the first chunks were written, and that of the next one is refused: nothing was added of it
pub chunks_filled : (told later : Option Told) (source after : RepoState) (keys : Keys) (refs : List ChunkRef) (place : ℕ) (d : ChunkRef)
    (cutter middle : Cutting) (chunks chunks_middle : List ChunkRef) (some more : List (List ℕ)) (fault : CarryFault) → heard later ≡ heard told
    → after ≡ source → place < length refs → length cutter.piece < cutter.block
    → WritesContents told source keys (take place refs) (writer_state cutter chunks) some (writer_state middle chunks_middle) → (IsOfSource fault → more ≡ [])
    → RefusesWriting later after (get_or refs place d) fault
    → WhereSource told fault (λ there refusal. FillsChunks there source refs cutter refusal (some ++ more))
chunks_filled told later source after keys refs place d cutter middle chunks chunks_middle some more (Source fault) alike kept lt room wrote none refused =
    λ of_files.
    told_with told told (λ f. ContentsCome f source.log source.keys (take place refs) wrote.contents None)
    (λ f. RefusesContent f source.log source.keys (get_or refs place d) fault) (λ f. FillsChunks f source refs cutter fault (some ++ more)) refl
    (λ f come refuses.
    subst (FillsChunks f source refs cutter fault) (sym (append-nil some) ∙ ap (λ (ps : List (List ℕ)). some ++ ps) (sym (none tt))) (record {
      first = take place refs;
      one = get_or refs place d;
      rest = drop (place + 1) refs;
      split = sym (ap (λ (cs : List ChunkRef). take place refs ++ cs) (sym (drop_more refs place d lt)) ∙ take-append-drop place refs);
      contents = wrote.contents;
      come = come;
      refused = refuses;
      left = middle.piece;
      fed = wrote.writes.fed cutter.piece [] (hand_fed cutter (omega (arith, room)));
      less = subst (λ (block : ℕ). length middle.piece < block) wrote.writes.block wrote.writes.room;
    })) wrote.come (at_first told later source after (λ r f. RefusesContent f r.log r.keys (get_or refs place d) fault) alike kept (refused of_files))
chunks_filled told later source after keys refs place d cutter middle chunks chunks_middle some more (Target refusal) alike kept lt room wrote none
    refused = tt
chunks_filled told later source after keys refs place d cutter middle chunks chunks_middle some more (Taken name) alike kept lt room wrote none refused = tt
chunks_filled told later source after keys refs place d cutter middle chunks chunks_middle some more (NotFound name) alike kept lt room wrote none
    refused = tt
chunks_filled told later source after keys refs place d cutter middle chunks chunks_middle some more Pieces alike kept lt room wrote none refused = tt
chunks_filled told later source after keys refs place d cutter middle chunks chunks_middle some more Memory alike kept lt room wrote none refused = tt
chunks_filled told later source after keys refs place d cutter middle chunks chunks_middle some more Record alike kept lt room wrote none refused = tt

-- the same of another word for what is in hand
pub filled_from : (told : Option Told) (source : RepoState) (refs : List ChunkRef) (block : ℕ) (cutter : Cutting) (fault : CarryFault)
    (more : List (List ℕ)) → cutter.block ≡ block → cutter.piece ≡ []
    → WhereSource told fault (λ there refusal. FillsChunks there source refs cutter refusal more)
    → WhereSource told fault (λ there refusal. FillsContent there source block (Some refs) refusal more)
filled_from told source refs block cutter fault more is empty filled =
    subst (λ (piece : List ℕ). WhereSource told fault (λ there refusal. FillsChunks there source refs (record { block = block; piece = piece }) refusal more))
    empty
    (subst (λ (n : ℕ).
    WhereSource told fault (λ there refusal. FillsChunks there source refs (record { block = n; piece = cutter.piece }) refusal more)) is filled)

-- ---- a step

-- no further item is taken: the stream is refused there, and nothing was added
pub next_filled : (told : Option Told) (source : RepoState) (copy : Copy) (fault : CarryFault) → RefusesNext told source (walk_view copy.walk) fault
    → FillsStep told source copy fault []
next_filled told source copy (Source fault) refused = λ of_files. by told (refused of_files) where
  by : (told : Option Told) → IfSome told (λ t. IsToCome (told_files t) source.log source.keys (walk_view copy.walk) [] (Some fault))
      → IfSome told (λ t. FillsCopy (told_files t) source copy fault [])
  by told come = IfSome_then told come (λ t is. record { more = []; ends = Some fault; come = is; next_is = inl (refl, (refl, refl)) })
next_filled told source copy (Target refusal) refused = tt
next_filled told source copy (Taken name) refused = tt
next_filled told source copy (NotFound name) refused = tt
next_filled told source copy Pieces refused = tt
next_filled told source copy Memory refused = tt
next_filled told source copy Record refused = tt

-- a chunk of an item that was taken is refused
pub item_filled : (told later : Option Told) (source after : RepoState) (cached : Contents) (copy next : Copy) (item : ItemText) (more : List Addition)
    (fault : CarryFault) → heard later ≡ heard told → after ≡ source → next.block ≡ copy.block
    → IfSome told (λ t. FitsRepo (told_files t) source cached)
    → IfSome told (λ t. TakesItem (told_files t) source (walk_view copy.walk) item (walk_view next.walk)) → AreOf Content more
    → WhereSource later fault (λ there refusal. FillsContent there after next.block item.chunks refusal (contents_in more))
    → FillsStep told source copy fault more
item_filled told later source after cached copy next item more (Source fault) alike kept block fits taken of filled = λ of_files.
    told_with told told (λ f. IsAt f source (walk_view copy.walk) item (walk_view next.walk))
    (λ f. FillsContent f source next.block item.chunks fault (contents_in more)) (λ f. FillsCopy f source copy fault more) refl
    (λ f at fills.
    let some = some_to_come f source.log source.keys (walk_view next.walk) at.fits in
    record {
      more = item ∷ some.0;
      ends = some.1.0;
      come = at.taken some.0 some.1.0 some.1.1;
      next_is = inr (record {
        item = item;
        others = some.0;
        first = refl;
        fills = subst (λ (b : ℕ). FillsContent f source b item.chunks fault (contents_in more)) block fills;
        of_content = of;
      });
    }) (item_at told source cached (walk_view copy.walk) (walk_view next.walk) item fits taken)
    (at_first told later source after (λ r f. FillsContent f r next.block item.chunks fault (contents_in more)) alike kept (filled of_files))
item_filled told later source after cached copy next item more (Target refusal) alike kept block fits taken of filled = tt
item_filled told later source after cached copy next item more (Taken name) alike kept block fits taken of filled = tt
item_filled told later source after cached copy next item more (NotFound name) alike kept block fits taken of filled = tt
item_filled told later source after cached copy next item more Pieces alike kept block fits taken of filled = tt
item_filled told later source after cached copy next item more Memory alike kept block fits taken of filled = tt
item_filled told later source after cached copy next item more Record alike kept block fits taken of filled = tt

-- ---- an archive on its way

-- behind what was added of the items that were taken
archive_filled : (there : Files) (from : Origin) (named : ArchiveRef) (files : Files) (store : Store) (copy : Copy) (added more : List Addition)
    (fault : RepoFault) → archive_named named.name from.repo.manifest.archives ≡ Some named → from.block ≡ copy.block
    → CopiesSoFar there from.repo named files (repo_view store.repo) copy added
    → FillsCopy there from.repo copy fault more
    → FillsArchive there from (repo_view store.repo).keys named.name fault (added ++ more)
archive_filled there from named files store copy added more fault named_is block copied filled =
    record {
      named = named;
      named_is = named_is;
      fills = inr (record {
        taken = items_taken there from named files (repo_view store.repo) copy added filled.more filled.ends block copied filled.come;
        next = more;
        next_is = subst (λ (b : ℕ). FillsNext there from.repo b filled.more filled.ends fault more) (sym block) filled.next_is;
        begun_is = refl;
      });
    }

-- the same over what the devices tell
pub copied_filled : (told a : Option Told) (source : RepoState) (block most : ℕ) (time : Option (List ℕ)) (named : ArchiveRef) (store : Store) (copy : Copy)
    (added more : List Addition) (fault : CarryFault) → archive_named named.name source.manifest.archives ≡ Some named
    → FillsStep told source copy fault more → IsCopiedSoFar (origin told source block most time) named a store copy added
    → WhereHeard a fault (λ refusal. FillsOne (origin told source block most time) (repo_view store.repo).keys named.name refusal (added ++ more))
copied_filled None a source block most time named store copy added more (Source fault) named_is filled so = λ of_files.
    told_any a (λ _. FillsOne (origin None source block most time) (repo_view store.repo).keys named.name fault (added ++ more)) (λ f. tt)
copied_filled (Some t) a source block most time named store copy added more (Source fault) named_is filled so = λ of_files.
    IfSome_then a so.1 (λ d c.
    archive_filled (told_files t) (origin (Some t) source block most time) named (told_files d) store copy added more fault named_is so.0.block c
    (filled of_files))
copied_filled told a source block most time named store copy added more (Target refusal) named_is filled so = tt
copied_filled told a source block most time named store copy added more (Taken name) named_is filled so = tt
copied_filled told a source block most time named store copy added more (NotFound name) named_is filled so = tt
copied_filled told a source block most time named store copy added more Pieces named_is filled so = tt
copied_filled told a source block most time named store copy added more Memory named_is filled so = tt
copied_filled told a source block most time named store copy added more Record named_is filled so = tt
