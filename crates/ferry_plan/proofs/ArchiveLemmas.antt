-- Lemmas on specs/Steps.antt: an archive that is taken to its end, and one that is refused, by where its walk began.
use Rattle.std.proofs.Common.{◌≡◌, ◌⊎◌, inl, inr, ℕ, List, [], ◌∷◌, ◌++◌, Option, Some, None, IfSome, option_map, refl, sym, ◌∙◌, ap, subst}
use Rattle.std.proofs.lemmas.List.{append_assoc}
use Rattle.std.specs.List.{AllByRecursion}
use Rattle.ferry_carry.proofs.SourceLemmas.{leads_come, leads_end, leads_then, refuses_content_here, refuses_copy, source_whole}
use Rattle.ferry_carry.specs.Copied.{stream_block}
use Rattle.ferry_carry.specs.Refusals.{HasLongItem}
use Rattle.ferry_disk.proofs.DeviceLemmas.{told_then, told_with}
use Rattle.ferry_disk.specs.Device.{Told, heard, told_files}
use Rattle.ferry_disk.specs.Files.{Files}
use Rattle.ferry_item.specs.Item.{ItemText}
use Rattle.ferry_log.specs.State.{FitsFiles}
use Rattle.ferry_mac.specs.declared.keys.Keys.{Keys}
use Rattle.ferry_manifest.specs.Record.Text.{ArchiveText}
use Rattle.ferry_manifest.specs.declared.manifest.ArchiveRef.{ArchiveRef}
use Rattle.ferry_piece.specs.Puts.{Addition, ArePieces, Stream}
use Rattle.ferry_plan.proofs.StepLemmas.{refused_then, source_refused}
use Rattle.ferry_plan.specs.Fault.{source_fault}
use Rattle.ferry_plan.specs.Plan.{HasNoLong, PlansArchive, source_of}
use Rattle.ferry_plan.specs.Steps.{IsShort, ReachesLong, RefusesBy, RefusesFirst, RefusesShort, StopsLong, StopsStream, TakesAll}
use Rattle.ferry_plan.specs.declared.fault.PlanFault.{PlanFault}
use Rattle.ferry_rechunk.specs.Cut.{cut}
use Rattle.ferry_repo.proofs.ContentLemmas.{joined_apart, one_record, record_apart}
use Rattle.ferry_repo.proofs.WalkLawLemmas.{one_comes, some_to_come}
use Rattle.ferry_repo.specs.Archives.{HoldsNamed, HoldsRecord, RefusesNamed, archive_named, RefusesJoined}
use Rattle.ferry_repo.specs.Cached.{Contents}
use Rattle.ferry_repo.specs.Fault.{IsOfFiles}
use Rattle.ferry_repo.specs.Opening.{FitsRepo, RepoState}
use Rattle.ferry_repo.specs.Walk.{Comes, IsToCome, LeadsOn, WalkState, begin_walk}
use Rattle.ferry_repo.specs.Whole.{RefusesWhole, WholeItem, WholesCome}
use Rattle.ferry_repo.specs.declared.fault.RepoFault.{RepoFault}

-- ---- an archive

-- what an archive is read by: the entry of its name, and where its walk begins
pub record BeginsAt (files : Files) (source : RepoState) (name : List ℕ) (archive : ArchiveText) (walk : WalkState) : Type 0 where
  pub named : ArchiveRef
  pub named_is : archive_named name source.manifest.archives ≡ Some named
  pub record_is : HoldsRecord files source.log source.keys named.id archive
  pub walk_is : walk ≡ begin_walk named.id archive.items

begins_by : (files : Files) (source : RepoState) (name : List ℕ) (found : Option ArchiveRef) (archive : ArchiveText) (id : List ℕ) (walk : WalkState)
    → archive_named name source.manifest.archives ≡ found → HoldsNamed files source.log source.keys found (Some archive)
    → Some id ≡ option_map (λ (a : ArchiveRef). a.id) found → walk ≡ begin_walk id archive.items → BeginsAt files source name archive walk
begins_by files source name None archive id walk is holds same begins = absurd holds
begins_by files source name (Some named) archive id walk is holds same begins =
    let ids : id ≡ named.id = cc in
    record { named = named; named_is = is; record_is = holds; walk_is = begins ∙ ap (λ (i : List ℕ). begin_walk i archive.items) ids }

pub archive_begins : (told : Option Told) (source : RepoState) (name : List ℕ) (archive : ArchiveText) (id : List ℕ) (walk : WalkState)
    → IfSome told (λ t. HoldsNamed (told_files t) source.log source.keys (archive_named name source.manifest.archives) (Some archive))
    → Some id ≡ option_map (λ (a : ArchiveRef). a.id) (archive_named name source.manifest.archives) → walk ≡ begin_walk id archive.items
    → IfSome told (λ t. BeginsAt (told_files t) source name archive walk)
archive_begins told source name archive id walk holds same begins =
    told_then told (λ f. HoldsNamed f source.log source.keys (archive_named name source.manifest.archives) (Some archive))
    (λ f. BeginsAt f source name archive walk)
    (λ f h. begins_by f source name (archive_named name source.manifest.archives) archive id walk refl h same begins) holds

-- ---- no item that is too long

all_middle : {X : Type 0} (P : X → Type 0) (all front rest : List X) (x : X) → front ++ (x ∷ rest) ≡ all → AllByRecursion P all → P x
all_middle P [] [] rest x same holds = absurd (let never : ⊥ = cc in never)
all_middle P [] (f ∷ front) rest x same holds = absurd (let never : ⊥ = cc in never)
all_middle P (a ∷ all) [] rest x same holds = let is : a ≡ x = cc in subst P is holds.0
all_middle P (a ∷ all) (f ∷ front) rest x same holds = let more : front ++ (x ∷ rest) ≡ all = cc in all_middle P all front rest x more holds.1

-- all items of an archive are those that come of its record's chunks
long_comes : (files : Files) (source : RepoState) (block : ℕ) (name : List ℕ) (archive : ArchiveText) (walk : WalkState) (items : List ItemText)
    (end : Option RepoFault) (begins : BeginsAt files source name archive walk)
    → Comes files source.log source.keys begins.named.id [] archive.items items end → (long : HasLongItem files (source_of files source block) name)
    → long.items ++ (long.item ∷ long.behind) ≡ items
long_comes files source block name archive walk items end begins comes long =
    let log = source.log in
    let keys = source.keys in
    let both : Some long.named ≡ Some begins.named = sym long.named_is ∙ begins.named_is in
    let named : long.named ≡ begins.named = cc in
    let holds = subst (λ (n : ArchiveRef). HoldsRecord files log keys n.id long.archive) named long.record_is in
    let same = one_record files log keys begins.named.id long.archive archive holds begins.record_is in
    let more = long.items ++ (long.item ∷ long.behind) in
    let found = subst (λ (a : ArchiveText). Comes files log keys begins.named.id [] a.items more long.end) same
    (subst (λ (n : ArchiveRef). Comes files log keys n.id [] long.archive.items more long.end) named long.comes) in
    (one_comes files log keys begins.named.id [] archive.items more items long.end end found comes).0

-- where none of them is too long none is reached
all_short : (files : Files) (source : RepoState) (block : ℕ) (name : List ℕ) (archive : ArchiveText) (walk : WalkState) (items : List ItemText)
    (end : Option RepoFault) (begins : BeginsAt files source name archive walk)
    → Comes files source.log source.keys begins.named.id [] archive.items items end → AllByRecursion (IsShort block) items
    → HasNoLong files source block name
all_short files source block name archive walk items end begins comes short long =
    all_middle (IsShort block) items long.items long.behind long.item (long_comes files source block name archive walk items end begins comes long) short
    long.long

-- an item that is too long doesn't stand behind one whose content is refused, so it stands before it
long_before : (files : Files) (source : RepoState) (block : ℕ) (front items : List ItemText) (long item : ItemText) (behind more : List ItemText)
    (wholes : List WholeItem) (fault : RepoFault) → front ++ (long ∷ behind) ≡ items ++ (item ∷ more)
    → WholesCome files source.log source.keys front None wholes None → AllByRecursion (IsShort block) items → RefusesShort files source block item fault
    → IsShort block long
long_before files source block [] [] long item behind more wholes fault same come short refused =
    let is : item ≡ long = cc in subst (IsShort block) is refused.1
long_before files source block [] (i ∷ items) long item behind more wholes fault same come short refused =
    let is : i ≡ long = cc in subst (IsShort block) is short.0
long_before files source block (f ∷ front) [] long item behind more [] fault same come short refused = absurd come
long_before files source block (f ∷ front) [] long item behind more (w ∷ wholes) fault same come short refused =
    let is : item ≡ f = cc in
    absurd (joined_apart files source.log source.keys f.chunks w.content fault come.0.content
    (subst (λ (i : ItemText). RefusesJoined files source.log source.keys i.chunks fault) is refused.0))
long_before files source block (f ∷ front) (i ∷ items) long item behind more [] fault same come short refused = absurd come
long_before files source block (f ∷ front) (i ∷ items) long item behind more (w ∷ wholes) fault same come short refused =
    let rest : front ++ (long ∷ behind) ≡ items ++ (item ∷ more) = cc in
    long_before files source block front items long item behind more wholes fault rest come.1 short.1 refused

-- nor is one reached where the stream is refused, or the content of an item that isn't too long
stops_short : (files : Files) (source : RepoState) (block : ℕ) (name : List ℕ) (archive : ArchiveText) (walk : WalkState) (fault : RepoFault)
    → FitsFiles files source.log → BeginsAt files source name archive walk → StopsStream files source block walk fault → HasNoLong files source block name
stops_short files source block name archive walk fault fits begins stops long = by stops.refused where
  id : List ℕ
  id = begins.named.id

  leads : LeadsOn files source.log source.keys (begin_walk id archive.items) stops.comes.items stops.now
  leads = subst (λ (w : WalkState). LeadsOn files source.log source.keys w stops.comes.items stops.now) begins.walk_is stops.comes.leads

  by : IsToCome files source.log source.keys stops.now [] (Some fault)
      ⊎ ((item : ItemText) × ((after : WalkState) × (LeadsOn files source.log source.keys stops.now (item ∷ []) after
      × RefusesShort files source block item fault)))
      → ⊥
  by (inl come) =
      all_short files source block name archive walk stops.comes.items (Some fault) begins
      (leads_end files source.log source.keys id archive.items stops.comes.items stops.now (Some fault) leads come) stops.comes.short long
  by (inr refused) =
      let item = refused.0 in
      let some = some_to_come files source.log source.keys refused.1.0 fits in
      let on = leads_then files source.log source.keys (begin_walk id archive.items) stops.now refused.1.0 stops.comes.items (item ∷ []) leads refused.1.1.0 in
      let comes = subst (λ (is : List ItemText). Comes files source.log source.keys id [] archive.items is some.1.0)
      (append_assoc stops.comes.items (item ∷ []) some.0)
      (leads_come files source.log source.keys id archive.items (stops.comes.items ++ item ∷ []) some.0 refused.1.0 some.1.0 on some.1.1) in
      long_before files source block long.items stops.comes.items long.item item long.behind some.0 long.wholes fault
      (long_comes files source block name archive walk (stops.comes.items ++ (item ∷ some.0)) some.1.0 begins comes long) long.contents stops.comes.short
      refused.1.1.1 long.long

lists_all : (files : Files) (source : RepoState) (keys : Keys) (block : ℕ) (name : List ℕ) (archive : ArchiveText) (walk : WalkState)
    (more last : List Addition) (piece_now : List ℕ) → BeginsAt files source name archive walk
    → TakesAll files source keys block walk [] more piece_now → ArePieces Stream (cut stream_block piece_now) last
    → PlansArchive files source block keys name (more ++ last)
lists_all files source keys block name archive walk more last piece_now begins takes ended =
    let goes = takes.goes.comes in
    let leads = subst (λ (w : WalkState). LeadsOn files source.log source.keys w goes.items takes.last) begins.walk_is goes.leads in
    let comes = leads_end files source.log source.keys begins.named.id archive.items goes.items takes.last None leads takes.end in (
      record {
        whole = record { time = begins.named.time; fields = archive.fields; items = goes.wholes };
        source = source_whole files source.log source.keys source.manifest.archives name begins.named archive goes.items goes.wholes begins.named_is
            begins.record_is comes goes.come;
        listed = more;
        piece = piece_now;
        lists = takes.goes.lists;
        last = last;
        last_is = ended;
        added_is = refl;
      },
      all_short files source block name archive walk goes.items None begins comes goes.short,
    )

-- all of an archive was taken
pub archive_listed : (told later : Option Told) (source after : RepoState) (keys : Keys) (block : ℕ) (name : List ℕ) (archive : ArchiveText)
    (walk : WalkState) (more last : List Addition) (piece piece_now : List ℕ) → heard later ≡ heard told → after ≡ source → piece ≡ []
    → IfSome told (λ t. BeginsAt (told_files t) source name archive walk)
    → IfSome later (λ t. TakesAll (told_files t) after keys block walk piece more piece_now) → ArePieces Stream (cut stream_block piece_now) last
    → IfSome told (λ t. PlansArchive (told_files t) source block keys name (more ++ last))
archive_listed told later source after keys block name archive walk more last piece piece_now alike kept empty begins takes ended =
    told_with told later (λ f. BeginsAt f source name archive walk) (λ f. TakesAll f source keys block walk [] more piece_now)
    (λ f. PlansArchive f source block keys name (more ++ last)) alike
    (λ f b t. lists_all f source keys block name archive walk more last piece_now b t ended) begins
    (subst (λ (p : List ℕ). IfSome later (λ t. TakesAll (told_files t) source keys block walk p more piece_now)) empty
    (subst (λ (r : RepoState). IfSome later (λ t. TakesAll (told_files t) r keys block walk piece more piece_now)) kept takes))

-- ---- an archive that is refused

stops_whole : (files : Files) (source : RepoState) (block : ℕ) (name : List ℕ) (archive : ArchiveText) (walk : WalkState) (fault : RepoFault)
    → FitsFiles files source.log → BeginsAt files source name archive walk → StopsStream files source block walk fault
    → RefusesWhole files source.log source.keys source.manifest.archives name fault
stops_whole files source block name archive walk fault fits begins stops = by stops.refused where
  leads : LeadsOn files source.log source.keys (begin_walk begins.named.id archive.items) stops.comes.items stops.now
  leads = subst (λ (w : WalkState). LeadsOn files source.log source.keys w stops.comes.items stops.now) begins.walk_is stops.comes.leads

  by : IsToCome files source.log source.keys stops.now [] (Some fault)
      ⊎ ((item : ItemText) × ((after : WalkState) × (LeadsOn files source.log source.keys stops.now (item ∷ []) after
      × RefusesShort files source block item fault)))
      → RefusesWhole files source.log source.keys source.manifest.archives name fault
  by (inl come) =
      refuses_copy files source.log source.keys source.manifest.archives name begins.named archive stops.comes.items stops.comes.wholes stops.now fault
      begins.named_is begins.record_is leads come stops.comes.come
  by (inr refused) =
      refuses_content_here files source.log source.keys source.manifest.archives name begins.named archive stops.comes.items refused.0 stops.comes.wholes
      refused.1.0 fault fits begins.named_is begins.record_is
      (leads_then files source.log source.keys (begin_walk begins.named.id archive.items) stops.now refused.1.0 stops.comes.items (refused.0 ∷ []) leads
      refused.1.1.0) stops.comes.come refused.1.1.1.0

stops_long : (files : Files) (source : RepoState) (block : ℕ) (name : List ℕ) (archive : ArchiveText) (walk : WalkState)
    → FitsFiles files source.log → BeginsAt files source name archive walk → StopsLong files source block walk
    → ReachesLong source block name files
stops_long files source block name archive walk fits begins stops =
    let begun = begin_walk begins.named.id archive.items in
    let some = some_to_come files source.log source.keys stops.after fits in
    let first = subst (λ (w : WalkState). LeadsOn files source.log source.keys w stops.comes.items stops.now) begins.walk_is stops.comes.leads in
    let leads = leads_then files source.log source.keys begun stops.now stops.after stops.comes.items (stops.item ∷ []) first stops.taken in
    let comes = leads_come files source.log source.keys begins.named.id archive.items (stops.comes.items ++ stops.item ∷ []) some.0 stops.after some.1.0
    leads some.1.1 in
    record {
      named = begins.named;
      named_is = begins.named_is;
      archive = archive;
      record_is = begins.record_is;
      items = stops.comes.items;
      item = stops.item;
      behind = some.0;
      end = some.1.0;
      comes = subst (λ (is : List ItemText). Comes files source.log source.keys begins.named.id [] archive.items is some.1.0)
          (append_assoc stops.comes.items (stops.item ∷ []) some.0) comes;
      wholes = stops.comes.wholes;
      contents = stops.comes.come;
      long = stops.long;
    }

log_fits : (told : Option Told) (source : RepoState) (cached : Contents) → IfSome told (λ t. FitsRepo (told_files t) source cached)
    → IfSome told (λ t. FitsFiles (told_files t) source.log)
log_fits told source cached fits = told_then told (λ f. FitsRepo f source cached) (λ f. FitsFiles f source.log) (λ f r. r.log) fits

-- the items of an archive aren't all taken
pub archive_stops : (told later : Option Told) (source after : RepoState) (cached : Contents) (block : ℕ) (name : List ℕ) (archive : ArchiveText)
    (walk : WalkState) (fault : PlanFault) → heard later ≡ heard told → after ≡ source → IfSome told (λ t. FitsRepo (told_files t) source cached)
    → IfSome told (λ t. BeginsAt (told_files t) source name archive walk)
    → RefusesBy later (λ there f. StopsStream there after block walk f) (λ there. StopsLong there after block walk) fault
    → RefusesBy told (RefusesFirst source block name) (ReachesLong source block name) fault
archive_stops told later source after cached block name archive walk fault alike kept fits begins refuses =
    refused_then told later fault (λ f. FitsFiles f source.log × BeginsAt f source name archive walk) (λ there f. StopsStream there source block walk f)
    (RefusesFirst source block name) (λ there. StopsLong there source block walk) (ReachesLong source block name) alike
    (told_with told told (λ f. FitsFiles f source.log) (λ f. BeginsAt f source name archive walk)
    (λ f. FitsFiles f source.log × BeginsAt f source name archive walk) refl (λ f l b. (l, b)) (log_fits told source cached fits) begins)
    (λ f r known stops. (
      stops_whole f source block name archive walk r known.0 known.1 stops,
      stops_short f source block name archive walk r known.0 known.1 stops,
    ))
    (λ f known stops. stops_long f source block name archive walk known.0 known.1 stops)
    (subst (λ (r : RepoState). RefusesBy later (λ there f. StopsStream there r block walk f) (λ there. StopsLong there r block walk) fault) kept refuses)

named_first : (files : Files) (source : RepoState) (block : ℕ) (name : List ℕ) (found : Option ArchiveRef) (fault : RepoFault)
    → archive_named name source.manifest.archives ≡ found → IsOfFiles fault → RefusesNamed files source.log source.keys found fault
    → RefusesFirst source block name files fault
named_first files source block name None fault is of_files refused = absurd refused
named_first files source block name (Some named) fault is of_files refused = (
  record { named = named; named_is = is; refused = inl refused },
  λ long.
      let both : Some long.named ≡ Some named = sym long.named_is ∙ is in
      let same : long.named ≡ named = cc in
      record_apart files source.log source.keys named.id long.archive fault
      (subst (λ (n : ArchiveRef). HoldsRecord files source.log source.keys n.id long.archive) same long.record_is) of_files refused,
)

-- its record isn't read
pub record_stops : (told : Option Told) (source : RepoState) (block : ℕ) (name : List ℕ) (fault : RepoFault)
    → IfSome told (λ t. RefusesNamed (told_files t) source.log source.keys (archive_named name source.manifest.archives) fault)
    → RefusesBy told (RefusesFirst source block name) (ReachesLong source block name) (source_fault fault)
record_stops told source block name fault refused =
    source_refused told (RefusesFirst source block name) (ReachesLong source block name) fault
    (λ of_files. told_then told (λ f. RefusesNamed f source.log source.keys (archive_named name source.manifest.archives) fault)
    (λ f. RefusesFirst source block name f fault)
    (λ f r. named_first f source block name (archive_named name source.manifest.archives) fault refl of_files r) refused)
