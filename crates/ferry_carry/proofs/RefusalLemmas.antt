-- Lemmas on specs/Refusals.antt: what a refusal says, from call to call.
use Rattle.std.proofs.Common.{◌≡◌, ◌<◌, ◌+◌, ℕ, List, [], ◌∷◌, ◌++◌, Option, Some, None, IfSome, length, take, drop, get_or, refl, sym, ◌∙◌, ap, subst}
use Rattle.std.proofs.lemmas.List.{append_assoc, drop_more, take-append-drop}
use Rattle.std.proofs.lemmas.Option.{IfSome_then}
use Rattle.ferry_compare.proofs.StepLemmas.{at_first}
use Rattle.ferry_disk.proofs.DeviceLemmas.{told_with}
use Rattle.ferry_disk.specs.Device.{Told, heard, told_files}
use Rattle.ferry_disk.specs.Files.{Files}
use Rattle.ferry_item.specs.Item.{ItemText}
use Rattle.ferry_item.specs.declared.item.ChunkRef.{ChunkRef}
use Rattle.ferry_log.specs.State.{FitsFiles}
use Rattle.ferry_manifest.specs.Record.Text.{archive_view}
use Rattle.ferry_manifest.specs.declared.manifest.ArchiveRef.{ArchiveRef}
use Rattle.ferry_repo.proofs.ContentLemmas.{contents_then}
use Rattle.ferry_repo.proofs.WalkLawLemmas.{some_to_come}
use Rattle.ferry_repo.specs.Archives.{RefusesContent, archive_named, ContentsCome, RefusesJoined}
use Rattle.ferry_repo.specs.Cached.{Contents}
use Rattle.ferry_repo.specs.Opening.{FitsRepo, RepoState, repo_view}
use Rattle.ferry_repo.specs.Walk.{Comes, IsToCome, WalkState, begin_walk, walk_view}
use Rattle.ferry_repo.specs.Whole.{RefusesWhole}
use Rattle.ferry_store.specs.declared.store.Store.{Store}
use Rattle.ferry_carry.proofs.ProgressLemmas.{any_told}
use Rattle.ferry_carry.proofs.SourceLemmas.{leads_come, leads_then, refuses_content_here, refuses_copy}
use Rattle.ferry_piece.specs.Adding.{IsNoChunk}
use Rattle.ferry_carry.specs.Carrying.{Origin, origin}
use Rattle.ferry_carry.specs.Copying.{TakesItem}
use Rattle.ferry_carry.specs.Progress.{CopiesSoFar, IsCopiedSoFar}
use Rattle.ferry_piece.specs.Puts.{Addition}
use Rattle.ferry_carry.specs.Refusals.{HasLongItem, IsTooLong, RefusesContents, RefusesCopying, RefusesNext, RefusesStep, RefusesWriting, WhereTold}
use Rattle.ferry_carry.specs.declared.copy.Copy.{Copy}
use Rattle.ferry_piece.specs.declared.fault.CarryFault.{CarryFault}
use Rattle.ferry_piece.specs.declared.fault.CarryFault.TheVariants.{Source, Target, Taken, NotFound, Pieces, Memory, Record}
use Rattle.ferry_piece.proofs.FewLemmas.{used_up}

-- ---- the contents of an item

-- the chunk at a place is refused behind those in front of it, whose contents come
pub contents_refused : (told later : Option Told) (source after : RepoState) (refs : List ChunkRef) (place : ℕ) (d : ChunkRef)
    (contents : List (List ℕ)) (fault : CarryFault) → heard later ≡ heard told → after ≡ source → place < length refs
    → IfSome told (λ t. ContentsCome (told_files t) source.log source.keys (take place refs) contents None)
    → RefusesWriting later after (get_or refs place d) fault → RefusesContents told source refs fault
contents_refused told later source after refs place d contents (Source fault) alike kept lt come refuses = λ of_files.
    told_with told told (λ f. ContentsCome f source.log source.keys (take place refs) contents None)
    (λ f. RefusesContent f source.log source.keys (get_or refs place d) fault) (λ f. RefusesJoined f source.log source.keys (Some refs) fault) refl
    (λ f c r. (
      contents ++ [],
      subst (λ (cs : List ChunkRef). ContentsCome f source.log source.keys cs (contents ++ []) (Some fault)) (parts refs place d lt)
          (contents_then f source.log source.keys (take place refs) (get_or refs place d ∷ drop (place + 1) refs) contents [] (Some fault) c (of_files, r)),
    )) come (at_first told later source after (λ r f. RefusesContent f r.log r.keys (get_or refs place d) fault) alike kept (refuses of_files)) where
      parts : (refs : List ChunkRef) (place : ℕ) (d : ChunkRef) → place < length refs
          → take place refs ++ (get_or refs place d ∷ drop (place + 1) refs) ≡ refs
      parts refs place d lt = ap (λ (cs : List ChunkRef). take place refs ++ cs) (sym (drop_more refs place d lt)) ∙ take-append-drop place refs
contents_refused told later source after refs place d contents (Target refusal) alike kept lt come refuses = tt
contents_refused told later source after refs place d contents (Taken name) alike kept lt come refuses = absurd refuses
contents_refused told later source after refs place d contents (NotFound name) alike kept lt come refuses = absurd refuses
contents_refused told later source after refs place d contents Pieces alike kept lt come refuses = absurd refuses
contents_refused told later source after refs place d contents Memory alike kept lt come refuses = tt
contents_refused told later source after refs place d contents Record alike kept lt come refuses = absurd refuses

-- ---- an archive on its way

-- what holds of the files of a source by what holds of them, where the source tells its files and the target too
where_then : (told heard_of : Option Told) (source : RepoState) (block most : ℕ) (time : Option (List ℕ)) (P R : Files → Type 0) (Q : Told → Files → Type 0)
    → IfSome told (λ t. R (told_files t)) → IfSome heard_of (λ d. IfSome (origin told source block most time).files (Q d))
    → ((d : Told) (there : Files) → R there → Q d there → P there) → WhereTold (origin told source block most time) heard_of P
where_then None heard_of source block most time P R Q first known step = any_told heard_of (λ d. Unit {0}) (λ d. tt)
where_then (Some t) heard_of source block most time P R Q first known step = IfSome_then heard_of known (λ d q. step d (told_files t) first q)

-- no further item is taken: the stream is refused there
pub next_refused : (told heard_of : Option Told) (source : RepoState) (block most : ℕ) (time : Option (List ℕ)) (named : ArchiveRef) (store : Store) (copy :
    Copy)
    (added : List Addition) (fault : CarryFault)
    → archive_named named.name source.manifest.archives ≡ Some named → IsCopiedSoFar (origin told source block most time) named heard_of store copy added
    → RefusesNext told source (walk_view copy.walk) fault → RefusesStep (origin told source block most time) heard_of named.name fault
next_refused told heard_of source block most time named store copy added (Source fault) named_is so refuses = λ of_files.
    where_then told heard_of source block most time (λ there. RefusesWhole there source.log source.keys source.manifest.archives named.name fault)
    (λ there. IsToCome there source.log source.keys (walk_view copy.walk) [] (Some fault))
    (λ d there. CopiesSoFar there source named (told_files d) (repo_view store.repo) copy added) (refuses of_files) so.1
    (λ d there come c.
    refuses_copy there source.log source.keys source.manifest.archives named.name named (archive_view copy.archive) c.items c.wholes (walk_view copy.walk)
    fault named_is c.record_is c.leads come c.come)
next_refused told heard_of source block most time named store copy added (Target refusal) named_is so refuses = tt
next_refused told heard_of source block most time named store copy added (Taken name) named_is so refuses = absurd refuses
next_refused told heard_of source block most time named store copy added (NotFound name) named_is so refuses = absurd refuses
next_refused told heard_of source block most time named store copy added Pieces named_is so refuses = absurd refuses
next_refused told heard_of source block most time named store copy added Memory named_is so refuses = tt
next_refused told heard_of source block most time named store copy added Record named_is so refuses = absurd refuses

-- an item behind those that were taken, where something is to come from behind it
long_item : (there : Files) (source : RepoState) (from : Origin) (named : ArchiveRef) (files : Files) (repo : RepoState) (copy : Copy)
    (added : List Addition) (item : ItemText) (after : WalkState) → from.repo ≡ source → archive_named named.name source.manifest.archives ≡ Some named
    → FitsFiles there source.log
    → CopiesSoFar there source named files repo copy added → TakesItem there source (walk_view copy.walk) item after → IsTooLong from.block item.chunks
    → HasLongItem there from named.name
long_item there source from named files repo copy added item after same named_is fits so taken long =
    let ids = (archive_view copy.archive).items in
    let begun = begin_walk named.id ids in
    let some = some_to_come there source.log source.keys after fits in
    let leads = leads_then there source.log source.keys begun (walk_view copy.walk) after so.items (item ∷ []) so.leads taken in
    let comes = leads_come there source.log source.keys named.id ids (so.items ++ item ∷ []) some.0 after some.1.0 leads some.1.1 in
    let long_in : (repo : RepoState) → repo ≡ source
    → HasLongItem there (record { files = from.files; repo = repo; block = from.block; most = from.most; time = from.time }) named.name =
    λ repo is.
    subst (λ (r : RepoState). HasLongItem there (record { files = from.files; repo = r; block = from.block; most = from.most; time = from.time }) named.name)
    (sym is) (record {
      named = named;
      named_is = named_is;
      archive = archive_view copy.archive;
      record_is = so.record_is;
      items = so.items;
      item = item;
      behind = some.0;
      end = some.1.0;
      comes = subst (λ (is : List ItemText). Comes there source.log source.keys named.id [] ids is some.1.0)
          (append_assoc so.items (item ∷ []) some.0) comes;
      wholes = so.wholes;
      contents = so.come;
      long = long;
    }) in
    long_in from.repo same

-- what is known of an item that was taken
pub record IsAt (there : Files) (source : RepoState) (before : WalkState) (item : ItemText) (after : WalkState) : Type 0 where
  pub fits : FitsFiles there source.log
  pub taken : TakesItem there source before item after

pub item_at : (told : Option Told) (source : RepoState) (cached : Contents) (before after : WalkState) (item : ItemText)
    → IfSome told (λ t. FitsRepo (told_files t) source cached) → IfSome told (λ t. TakesItem (told_files t) source before item after)
    → IfSome told (λ t. IsAt (told_files t) source before item after)
item_at None source cached before after item fits taken = tt
item_at (Some t) source cached before after item fits taken = record { fits = fits.log; taken = taken }

-- the content of an item that was taken isn't copied
pub item_refused : (told later heard_of : Option Told) (source now : RepoState) (cached : Contents) (block block_now most : ℕ) (time : Option (List ℕ)) (named
    : ArchiveRef)
    (store : Store) (copy : Copy) (added : List Addition) (item : ItemText) (after : WalkState) (fault : CarryFault) → heard later ≡ heard told → now ≡ source
    → block_now ≡ block
    → IfSome told (λ t. FitsRepo (told_files t) source cached)
    → IfSome told (λ t. TakesItem (told_files t) source (walk_view copy.walk) item after)
    → archive_named named.name source.manifest.archives ≡ Some named → IsCopiedSoFar (origin told source block most time) named heard_of store copy added
    → RefusesCopying later now block_now item.chunks fault → RefusesStep (origin told source block most time) heard_of named.name fault
item_refused told later heard_of source now cached block block_now most time named store copy added item after (Source fault) alike kept same fits taken
    named_is so
    refuses = λ of_files.
    let refused = at_first told later source now (λ r f. RefusesJoined f r.log r.keys item.chunks fault) alike kept (refuses of_files) in
    where_then told heard_of source block most time (λ there. RefusesWhole there source.log source.keys source.manifest.archives named.name fault)
    (λ there. IsAt there source (walk_view copy.walk) item after × RefusesJoined there source.log source.keys item.chunks fault)
    (λ d there. CopiesSoFar there source named (told_files d) (repo_view store.repo) copy added)
    (told_with told told (λ f. IsAt f source (walk_view copy.walk) item after) (λ f. RefusesJoined f source.log source.keys item.chunks fault)
    (λ f. IsAt f source (walk_view copy.walk) item after × RefusesJoined f source.log source.keys item.chunks fault) refl (λ f at r. (at, r))
    (item_at told source cached (walk_view copy.walk) after item fits taken) refused) so.1
    (λ d there r c.
    let begun = begin_walk named.id (archive_view copy.archive).items in
    refuses_content_here there source.log source.keys source.manifest.archives named.name named (archive_view copy.archive) c.items item c.wholes after
    fault r.0.fits named_is c.record_is
    (leads_then there source.log source.keys begun (walk_view copy.walk) after c.items (item ∷ []) c.leads r.0.taken) c.come r.1)
item_refused told later heard_of source now cached block block_now most time named store copy added item after Pieces alike kept same fits taken named_is so
    refuses =
    let long : IsTooLong block item.chunks = subst (λ (b : ℕ). IsTooLong b item.chunks) same refuses in
    where_then told heard_of source block most time (λ there. HasLongItem there (origin told source block most time) named.name)
    (λ there. IsAt there source (walk_view copy.walk) item after)
    (λ d there. CopiesSoFar there source named (told_files d) (repo_view store.repo) copy added)
    (item_at told source cached (walk_view copy.walk) after item fits taken) so.1
    (λ d there r c.
    long_item there source (origin told source block most time) named (told_files d) (repo_view store.repo) copy added item after refl named_is r.fits c
    r.taken long)
item_refused told later heard_of source now cached block block_now most time named store copy added item after (Target refusal) alike kept same fits taken
    named_is so refuses = tt
item_refused told later heard_of source now cached block block_now most time named store copy added item after (Taken name) alike kept same fits taken named_is
    so
    refuses = absurd refuses
item_refused told later heard_of source now cached block block_now most time named store copy added item after (NotFound name) alike kept same fits taken
    named_is so
    refuses = absurd refuses
item_refused told later heard_of source now cached block block_now most time named store copy added item after Memory alike kept same fits taken named_is so
    refuses = tt
item_refused told later heard_of source now cached block block_now most time named store copy added item after Record alike kept same fits taken named_is so
    refuses = absurd refuses

-- a source whose next item doesn't come is no chunk of the target
pub next_unbroken : (told : Option Told) (source : RepoState) (walk : WalkState) (fault : CarryFault) → RefusesNext told source walk fault → IsNoChunk fault
next_unbroken told source walk (Source fault) refused = tt
next_unbroken told source walk (Target refusal) refused = absurd refused
next_unbroken told source walk (Taken name) refused = tt
next_unbroken told source walk (NotFound name) refused = tt
next_unbroken told source walk Pieces refused = tt
next_unbroken told source walk Memory refused = tt
next_unbroken told source walk Record refused = tt

pub next_unused : (told : Option Told) (source : RepoState) (walk : WalkState) (fault : CarryFault) → RefusesNext told source walk fault → fault ≡ used_up → ⊥
next_unused told source walk fault refused e = subst (RefusesNext told source walk) e refused
