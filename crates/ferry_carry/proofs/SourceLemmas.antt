-- Lemmas on what is read of an archive of a source on its way: its items so far, and what then comes of its stream.
use Rattle.std.proofs.Common.{◌≡◌, ℕ, inr, List, [], ◌∷◌, ◌++◌, Option, Some, None, refl, sym, subst}
use Rattle.std.proofs.lemmas.List.{append_assoc, append-nil}
use Rattle.ferry_disk.specs.Files.{Files}
use Rattle.ferry_item.specs.Item.{ItemText}
use Rattle.ferry_log.specs.State.{LogState, FitsFiles}
use Rattle.ferry_mac.specs.declared.keys.Keys.{Keys}
use Rattle.ferry_manifest.specs.Record.Text.{ArchiveText}
use Rattle.ferry_manifest.specs.declared.manifest.ArchiveRef.{ArchiveRef}
use Rattle.ferry_repo.specs.Archives.{archive_named, HoldsRecord, RefusesJoined}
use Rattle.ferry_repo.specs.Walk.{begin_walk, Comes, IsToCome, LeadsOn, WalkState}
use Rattle.ferry_repo.specs.Whole.{WholeItem, HoldsItem, WholesCome, Reading, ReadsArchive, each_item, IsWhole, RefusesWhole}
use Rattle.ferry_repo.specs.declared.fault.RepoFault.{RepoFault}
use Rattle.ferry_repo.proofs.WalkLawLemmas.{some_to_come}
use Rattle.ferry_repo.proofs.WholeLemmas.{wholes_then, reads_whole}

module _ (files : Files) (log : LogState) (keys : Keys) where
  -- ---- what comes of a stream

  front_comes : (id : List ℕ) (ids : List (List ℕ)) (items : List ItemText) (end : Option RepoFault)
      → IsToCome files log keys (begin_walk id ids) items end → Comes files log keys id [] ids items end
  unfolding IsToCome
  front_comes id ids items end come = come

  -- a walk that led on behind some items, and from there behind others, did so behind both
  pub leads_then : (from now after : WalkState) (items more : List ItemText) → LeadsOn files log keys from items now
      → LeadsOn files log keys now more after → LeadsOn files log keys from (items ++ more) after
  leads_then from now after items more first second = λ rest end come.
      subst (λ (is : List ItemText). IsToCome files log keys from is end) (sym (append_assoc items more rest)) (first (more ++ rest) end (second rest end come))

  -- behind the items that a walk answered come those that are to come from where it stands
  pub leads_come : (id : List ℕ) (ids : List (List ℕ)) (items more : List ItemText) (walk : WalkState) (end : Option RepoFault)
      → LeadsOn files log keys (begin_walk id ids) items walk → IsToCome files log keys walk more end
      → Comes files log keys id [] ids (items ++ more) end
  leads_come id ids items more walk end leads come = front_comes id ids (items ++ more) end (leads more end come)

  -- where nothing is to come, those are all
  pub leads_end : (id : List ℕ) (ids : List (List ℕ)) (items : List ItemText) (walk : WalkState) (end : Option RepoFault)
      → LeadsOn files log keys (begin_walk id ids) items walk → IsToCome files log keys walk [] end → Comes files log keys id [] ids items end
  leads_end id ids items walk end leads come =
      subst (λ (is : List ItemText). Comes files log keys id [] ids is end) (append-nil items) (leads_come id ids items [] walk end leads come)

  -- ---- what comes of items with their contents

  -- one item more is there with its content
  pub wholes_more : (items : List ItemText) (wholes : List WholeItem) (item : ItemText) (whole : WholeItem)
      → WholesCome files log keys items None wholes None → HoldsItem files log keys item whole
      → WholesCome files log keys (items ++ item ∷ []) None (wholes ++ whole ∷ []) None
  wholes_more items wholes item whole come holds = wholes_then files log keys items (item ∷ []) None wholes (whole ∷ []) None come (holds, refl)

  -- items whose contents are all there end as their stream does
  pub wholes_end : (items : List ItemText) (wholes : List WholeItem) (ends : Option RepoFault) → WholesCome files log keys items None wholes None
      → WholesCome files log keys items ends wholes ends
  wholes_end [] [] ends come = refl
  wholes_end [] (w ∷ ws) ends come = absurd come
  wholes_end (i ∷ is) [] ends come = absurd come
  wholes_end (i ∷ is) (w ∷ ws) ends come = (come.0, wholes_end is ws ends come.1)

  -- ---- archives

  -- an archive that reads to the end with the contents of its items is whole
  pub source_whole : (archives : List ArchiveRef) (name : List ℕ) (named : ArchiveRef) (archive : ArchiveText) (items : List ItemText)
      (wholes : List WholeItem) → archive_named name archives ≡ Some named → HoldsRecord files log keys named.id archive
      → Comes files log keys named.id [] archive.items items None → WholesCome files log keys items None wholes None
      → IsWhole files log keys archives name (record { time = named.time; fields = archive.fields; items = wholes })
  source_whole archives name named archive items wholes named_is record_is comes contents =
      let reading : Reading = record { archive = archive; items = items; wholes = wholes; end = None } in
      let reads : ReadsArchive each_item files log keys named.id reading =
      record { record_is = record_is; ends = None; comes = comes; contents = contents } in
      reads_whole files log keys archives name named reading named_is reads refl

  read_refused : (archives : List ArchiveRef) (name : List ℕ) (named : ArchiveRef) (archive : ArchiveText) (items : List ItemText)
      (wholes : List WholeItem) (ends : Option RepoFault) (fault : RepoFault) → archive_named name archives ≡ Some named
      → HoldsRecord files log keys named.id archive → Comes files log keys named.id [] archive.items items ends
      → WholesCome files log keys items ends wholes (Some fault) → RefusesWhole files log keys archives name fault
  read_refused archives name named archive items wholes ends fault named_is record_is comes contents = record {
    named = named;
    named_is = named_is;
    refused = inr (
      record { archive = archive; items = items; wholes = wholes; end = Some fault },
      record { record_is = record_is; ends = ends; comes = comes; contents = contents },
      refl,
    );
  }

  -- an archive whose stream ends with a fault behind items whose contents are there
  pub refuses_copy : (archives : List ArchiveRef) (name : List ℕ) (named : ArchiveRef) (archive : ArchiveText) (items : List ItemText)
      (wholes : List WholeItem) (walk : WalkState) (fault : RepoFault) → archive_named name archives ≡ Some named
      → HoldsRecord files log keys named.id archive → LeadsOn files log keys (begin_walk named.id archive.items) items walk
      → IsToCome files log keys walk [] (Some fault) → WholesCome files log keys items None wholes None
      → RefusesWhole files log keys archives name fault
  refuses_copy archives name named archive items wholes walk fault named_is record_is leads come contents =
      read_refused archives name named archive items wholes (Some fault) fault named_is record_is
      (leads_end named.id archive.items items walk (Some fault) leads come) (wholes_end items wholes (Some fault) contents)

  -- an archive of which the content of an item is refused, behind items whose contents are there
  pub refuses_content : (archives : List ArchiveRef) (name : List ℕ) (named : ArchiveRef) (archive : ArchiveText) (items : List ItemText)
      (item : ItemText) (wholes : List WholeItem) (walk : WalkState) (fault : RepoFault) → archive_named name archives ≡ Some named
      → HoldsRecord files log keys named.id archive → LeadsOn files log keys (begin_walk named.id archive.items) (items ++ item ∷ []) walk
      → ((more : List ItemText) × ((end : Option RepoFault) × IsToCome files log keys walk more end))
      → WholesCome files log keys items None wholes None → RefusesJoined files log keys item.chunks fault
      → RefusesWhole files log keys archives name fault
  refuses_content archives name named archive items item wholes walk fault named_is record_is leads some contents refused =
      let more = some.0 in
      let end = some.1.0 in
      read_refused archives name named archive (items ++ (item ∷ more)) (wholes ++ []) end fault named_is record_is
      (subst (λ (is : List ItemText). Comes files log keys named.id [] archive.items is end) (append_assoc items (item ∷ []) more)
      (leads_come named.id archive.items (items ++ item ∷ []) more walk end leads some.1.1))
      (wholes_then files log keys items (item ∷ more) end wholes [] (Some fault) contents refused)

  -- the same over files that fit the log, of which something comes from wherever a walk stands
  pub refuses_content_here : (archives : List ArchiveRef) (name : List ℕ) (named : ArchiveRef) (archive : ArchiveText) (items : List ItemText)
      (item : ItemText) (wholes : List WholeItem) (walk : WalkState) (fault : RepoFault) → FitsFiles files log → archive_named name archives ≡ Some named
      → HoldsRecord files log keys named.id archive → LeadsOn files log keys (begin_walk named.id archive.items) (items ++ item ∷ []) walk
      → WholesCome files log keys items None wholes None → RefusesJoined files log keys item.chunks fault
      → RefusesWhole files log keys archives name fault
  refuses_content_here archives name named archive items item wholes walk fault fits named_is record_is leads contents refused =
      refuses_content archives name named archive items item wholes walk fault named_is record_is leads (some_to_come files log keys walk fits) contents
      refused
