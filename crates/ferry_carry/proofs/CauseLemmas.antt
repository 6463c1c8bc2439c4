-- Lemmas on specs/Refusals.antt: why the archive of a name isn't carried, by what its parts were refused for.
use Rattle.std.proofs.Common.{◌≡◌, ◌⊎◌, inl, inr, ◌<◌, ◌++◌, ℕ, List, Option, Some, None, Result, Ok, Err, IfErr, IfSome, IsErrAnd, IsSome}
use Rattle.std.proofs.Common.{◌+◌, [], ◌∷◌, Bool, true, false, append_assoc, ap, drop, get_or, length, map, slice_get, take, refl, sym, ◌∙◌, subst}
use Rattle.std.proofs.lemmas.List.{take-append-drop, take_more}
use Rattle.std.proofs.lemmas.Option.{IfSome_then}
use Rattle.ferry_base.specs.Limits.{content_limit}
use Rattle.ferry_blob.specs.Blob.{content_id}
use Rattle.ferry_compare.specs.Compare.{Differ, Says, Seen, met_behind, seen}
use Rattle.ferry_compare.specs.Fault.{target_failed as other_failed}
use Rattle.ferry_compare.specs.declared.fault.CompareFault.{CompareFault}
use Rattle.ferry_disk.proofs.MomentLemmas.{between_then}
use Rattle.ferry_disk.specs.Act.{History, files_now}
use Rattle.ferry_disk.specs.Device.{KeepsTold, Told, told_files}
use Rattle.ferry_disk.specs.Files.{Files}
use Rattle.ferry_disk.specs.Moments.{Between}
use Rattle.ferry_item.specs.declared.item.ChunkRef.{ChunkRef}
use Rattle.ferry_mac.specs.declared.keys.Keys.{Keys}
use Rattle.ferry_manifest.specs.Manifest.Text.{ManifestText}
use Rattle.ferry_manifest.specs.Record.Text.{archive_view}
use Rattle.ferry_manifest.specs.Record.Writing.{archive_text}
use Rattle.ferry_manifest.specs.declared.manifest.ArchiveRef.{ArchiveRef}
use Rattle.ferry_rechunk.specs.Cut.{cut}
use Rattle.ferry_repo.specs.Archives.{archive_named}
use Rattle.ferry_repo.specs.Opening.{RepoState, repo_view}
use Rattle.ferry_repo.specs.Walk.{WalkState}
use Rattle.ferry_repo.specs.Whole.{RefusesWhole}
use Rattle.ferry_stops.specs.Tells.{TellsNothing}
use Rattle.ferry_store.specs.Commit.{accepted_in}
use Rattle.ferry_store.specs.declared.store.Store.{Store}
use Rattle.ferry_store.proofs.ReadLemmas.{known_read}
use Rattle.ferry_carry.proofs.LeftLemmas.{usable_before}
use Rattle.ferry_carry.proofs.ProgressLemmas.{any_told}
use Rattle.ferry_carry.proofs.ProgressEndLemmas.{stream_ids}
use Rattle.ferry_piece.proofs.AmongLemmas.{among_next}
use Rattle.ferry_carry.specs.Carrying.{Origin, SaysIn, origin}
use Rattle.ferry_carry.specs.Copied.{stream_pieces}
use Rattle.ferry_carry.specs.Copying.{IsReady}
use Rattle.ferry_piece.specs.Gather.{chunks_of}
use Rattle.ferry_carry.specs.Grow.{KeepsMost, KeepsNames}
use Rattle.ferry_carry.specs.Naming.{copied_archive}
use Rattle.ferry_carry.specs.Progress.{IsAllCopied}
use Rattle.ferry_piece.specs.Puts.{Addition}
use Rattle.ferry_carry.specs.Refusals.{DiffersThere, HasLargeRecord, LacksName, RefusesBegin, RefusesComparing, RefusesEnd, RefusesMet}
use Rattle.ferry_carry.specs.Refusals.{RefusesName, RefusesRecordText, RefusesNames, RefusesOne, RefusesStep, TakenAt, UsableAt, WhereTold, is_of_telling}
use Rattle.ferry_piece.specs.Stops.{StopsPieces, StopsTarget, is_target}
use Rattle.ferry_carry.specs.Telling.{TellsNames}
use Rattle.ferry_carry.specs.declared.copy.Copy.{Copy}
use Rattle.ferry_piece.specs.declared.fault.CarryFault.{CarryFault}
use Rattle.ferry_piece.specs.declared.fault.CarryFault.TheVariants.{Source, Target, Taken, NotFound, Pieces, Memory, Record}

-- ---- files that are told

-- what holds of the files of a source, by what its shelf tells
at_origin : (told : Option Told) (source : RepoState) (block most : ℕ) (time : Option (List ℕ)) (P : Files → Type 0) → IfSome told (λ t. P (told_files t))
    → IfSome (origin told source block most time).files P
at_origin None source block most time P known = tt
at_origin (Some t) source block most time P known = known

where_first : (told heard : Option Told) (source : RepoState) (block most : ℕ) (time : Option (List ℕ)) (P : Files → Type 0) → IfSome told (λ t. P (told_files
    t))
    → WhereTold (origin told source block most time) heard P
where_first told heard source block most time P known =
    any_told heard (λ d. IfSome (origin told source block most time).files P) (λ d. at_origin told source block most time P known)

-- what holds where a target tells its files later holds where it told them before
where_back : (from : Origin) (a b : Option Told) (E : History → History → Type 0) (P : Files → Type 0) → Between a b E → WhereTold from b P
    → WhereTold from a P
where_back from None b E P between known = tt
where_back from (Some t) b E P between known = subst (λ (o : Option Told). IfSome o (λ d. IfSome from.files P)) between.1 known

-- ---- names that a target lacks

-- a name that a later manifest lacks was lacked before
pub lacks_by : (before after : ManifestText) (name : List ℕ) → KeepsNames before after → archive_named name after.archives ≡ None
    → archive_named name before.archives ≡ None
lacks_by before after name keeps lacks = by (archive_named name before.archives) refl where
  by : (o : Option ArchiveRef) → archive_named name before.archives ≡ o → archive_named name before.archives ≡ None
  by None e = e
  by (Some entry) e = absurd (let both : None ≡ Some entry = sym lacks ∙ keeps name entry e in let no : ⊥ = cc in no)

-- ---- the archive of a name

-- its record isn't read
pub begin_refused : (told heard now : Option Told) (source : RepoState) (block most : ℕ) (time : Option (List ℕ)) (named : ArchiveRef) (store store_now :
    Store) (fault : CarryFault)
    → archive_named named.name source.manifest.archives ≡ Some named → UsableAt most store now store_now → RefusesBegin told source named.id fault
    → RefusesName (origin told source block most time) heard store now store_now named.name fault
begin_refused told heard now source block most time named store store_now (Source fault) named_is usable refuses = (
  λ of_files.
      where_first told heard source block most time (λ there. RefusesWhole there source.log source.keys source.manifest.archives named.name fault)
      (IfSome_then told (refuses of_files) (λ t r. record { named = named; named_is = named_is; refused = inl r })),
  usable,
)
begin_refused told heard now source block most time named store store_now (Target refusal) named_is usable refuses = absurd refuses
begin_refused told heard now source block most time named store store_now (Taken name) named_is usable refuses = absurd refuses
begin_refused told heard now source block most time named store store_now (NotFound name) named_is usable refuses = absurd refuses
begin_refused told heard now source block most time named store store_now Pieces named_is usable refuses = absurd refuses
begin_refused told heard now source block most time named store store_now Memory named_is usable refuses = tt
begin_refused told heard now source block most time named store store_now Record named_is usable refuses = absurd refuses

-- it isn't copied
pub step_refused : (from : Origin) (heard now : Option Told) (store store_now : Store) (name : List ℕ) (fault : CarryFault) → LacksName store name
    → StopsPieces now (repo_view store.repo).keys fault → (is_target fault ≡ false → UsableAt from.most store now store_now)
    → RefusesStep from heard name fault → RefusesName from heard store now store_now name fault
step_refused from heard now store store_now name (Source fault) lacks stops usable refuses = (refuses, usable refl)
step_refused from heard now store store_now name (Target refusal) lacks stops usable refuses = IfSome_then now stops (λ t s. s.1)
step_refused from heard now store store_now name (Taken taken) lacks stops usable refuses = absurd refuses
step_refused from heard now store store_now name (NotFound missing) lacks stops usable refuses = absurd refuses
step_refused from heard now store store_now name Pieces lacks stops usable refuses = (lacks, (refuses, usable refl))
step_refused from heard now store store_now name Memory lacks stops usable refuses = tt
step_refused from heard now store store_now name Record lacks stops usable refuses = absurd refuses

-- it isn't named
pub end_refused : (from : Origin) (a b now : Option Told) (E : History → History → Type 0) (store middle store_now : Store) (name : List ℕ)
    (fault : CarryFault) → Between a b E → (repo_view middle.repo).keys ≡ (repo_view store.repo).keys → LacksName store name
    → StopsTarget now (repo_view middle.repo).keys fault → (is_target fault ≡ false → UsableAt from.most store now store_now)
    → RefusesEnd from b (repo_view middle.repo).keys name fault → RefusesName from a store now store_now name fault
end_refused from a b now E store middle store_now name (Source fault) between same lacks stops usable refuses = absurd (let no : ⊥ = cc in no)
end_refused from a b now E store middle store_now name (Target refusal) between same lacks stops usable refuses =
    subst (λ (k : Keys). StopsTarget now k (Target refusal)) same stops
end_refused from a b now E store middle store_now name (Taken taken) between same lacks stops usable refuses = absurd (let no : ⊥ = cc in no)
end_refused from a b now E store middle store_now name (NotFound missing) between same lacks stops usable refuses = absurd (let no : ⊥ = cc in no)
end_refused from a b now E store middle store_now name Pieces between same lacks stops usable refuses = absurd (let no : ⊥ = cc in no)
end_refused from a b now E store middle store_now name Memory between same lacks stops usable refuses = tt
end_refused from a b now E store middle store_now name Record between same lacks stops usable refuses = (
  lacks,
  (
    where_back from a b E (λ there. HasLargeRecord there from (repo_view store.repo).keys name) between
        (subst (λ (k : Keys). WhereTold from b (λ there. HasLargeRecord there from k name)) same refuses),
    usable refl,
  ),
)

-- it isn't compared
pub comparing_refused : (told heard now : Option Told) (source : RepoState) (block most : ℕ) (time : Option (List ℕ)) (name : List ℕ) (store store_now : Store)
    (met : Seen) (fault : CarryFault)
    → StopsPieces now (repo_view store.repo).keys fault → UsableAt most store now store_now → RefusesComparing told source name fault
    → RefusesMet (origin told source block most time) heard store now store_now met name fault
comparing_refused told heard now source block most time name store store_now met (Source fault) stops usable refuses = (
  λ of_files.
      where_first told heard source block most time (λ there. RefusesWhole there source.log source.keys source.manifest.archives name fault)
      (refuses of_files),
  usable,
)
comparing_refused told heard now source block most time name store store_now met (Target refusal) stops usable refuses = IfSome_then now stops (λ t s. s.1)
comparing_refused told heard now source block most time name store store_now met (Taken taken) stops usable refuses = absurd refuses
comparing_refused told heard now source block most time name store store_now met (NotFound missing) stops usable refuses = absurd refuses
comparing_refused told heard now source block most time name store store_now met Pieces stops usable refuses = absurd refuses
comparing_refused told heard now source block most time name store store_now met Memory stops usable refuses = tt
comparing_refused told heard now source block most time name store store_now met Record stops usable refuses = absurd refuses

-- what pends isn't committed
pub pending_refused : {T : Type 0} (from : Origin) (heard now : Option Told) (store store_now : Store) (met : Seen) (keys : Keys) (name : List ℕ)
    (result : Result T CarryFault) → keys ≡ (repo_view store.repo).keys → IfErr result (λ fault. is_target fault ≡ true) → IfErr result (StopsPieces now keys)
    → IfErr result (RefusesMet from heard store now store_now met name)
pending_refused {T} from heard now store store_now met keys name (Ok x) same target stops = tt
pending_refused {T} from heard now store store_now met keys name (Err (Source fault)) same target stops = absurd (let no : ⊥ = cc in no)
pending_refused {T} from heard now store store_now met keys name (Err (Target refusal)) same target stops =
    subst (λ (k : Keys). StopsTarget now k (Target refusal)) same (IfSome_then now stops (λ t s. s.1))
pending_refused {T} from heard now store store_now met keys name (Err (Taken taken)) same target stops = absurd (let no : ⊥ = cc in no)
pending_refused {T} from heard now store store_now met keys name (Err (NotFound missing)) same target stops = absurd (let no : ⊥ = cc in no)
pending_refused {T} from heard now store store_now met keys name (Err Pieces) same target stops = absurd (let no : ⊥ = cc in no)
pending_refused {T} from heard now store store_now met keys name (Err Memory) same target stops = tt
pending_refused {T} from heard now store store_now met keys name (Err Record) same target stops = absurd (let no : ⊥ = cc in no)

-- archives that differ, where the target was only read
pub differs_there : {T : Type 0} (told a b : Option Told) (source : RepoState) (block most : ℕ) (time : Option (List ℕ)) (target now : RepoState) (met : Seen)
    (walk : Option WalkState) (name : List ℕ) (x : T) → now ≡ target → KeepsTold {F = CompareFault} other_failed a b (Ok x)
    → Differ told source (met_behind walk met (seen a target)).told (met_behind walk met (seen a target)).repo name
    → DiffersThere (origin told source block most time) (met_behind walk met (seen b now)).told (met_behind walk met (seen b now)).repo name
differs_there {T} told a b source block most time target now met None name x same kept differ = record {
  whole = differ.whole;
  source = at_origin told source block most time (λ there. SaysIn there source name differ.whole) differ.first;
  target_is = differ.second;
}
differs_there {T} told a b source block most time target now met (Some walk) name x same kept differ =
    subst (λ (r : RepoState). DiffersThere (origin told source block most time) b r name) (sym same) (record {
      whole = differ.whole;
      source = at_origin told source block most time (λ there. SaysIn there source name differ.whole) differ.first;
      target_is = known_read {T = T} (λ h. Says (files_now h) target name differ.whole → ⊥) other_failed a b (Ok x) kept differ.second;
    })

-- it isn't the target's archive of its name
pub taken_refused : (from : Origin) (heard now : Option Told) (store store_now : Store) (met : Seen) (name given : List ℕ) (fault : CarryFault)
    → (fault ≡ Taken given) ⊎ (fault ≡ Memory) → given ≡ name → DiffersThere from met.told met.repo name
    → TakenAt from.most store now store_now name
    → RefusesMet from heard store now store_now met name fault
taken_refused from heard now store store_now met name given fault (inl is) same differs at =
    subst (RefusesMet from heard store now store_now met name) (sym is) (same, (differs, at))
taken_refused from heard now store store_now met name given fault (inr is) same differs at =
    subst (RefusesMet from heard store now store_now met name) (sym is) tt

-- ---- from turn to turn

-- what is said of a name by a store is said by one before it that keeps each archive
pub refused_before : (from : Origin) (a b c : Option Told) (E : History → History → Type 0) (store middle now : Store) (name : List ℕ)
    (fault : CarryFault) → Between a b E → KeepsMost store middle → RefusesName from b middle c now name fault → RefusesName from a store c now name fault
refused_before from a b c E store middle now name (Source fault) between most refuses = (
  λ of_files.
      where_back from a b E (λ there. RefusesWhole there from.repo.log from.repo.keys from.repo.manifest.archives name fault) between
      (refuses.0 of_files),
  usable_before from.most store middle c now most refuses.1,
)
refused_before from a b c E store middle now name (Target refusal) between most refuses =
    subst (λ (k : Keys). StopsTarget c k (Target refusal)) most.keys refuses
refused_before from a b c E store middle now name (Taken taken) between most refuses =
    let at = refuses.1.1 in (
      refuses.0,
      (refuses.1.0, record { usable = usable_before from.most store middle c now most at.usable; there = at.there }),
    )
refused_before from a b c E store middle now name (NotFound missing) between most refuses = refuses
refused_before from a b c E store middle now name Pieces between most refuses = (
  lacks_by (repo_view store.repo).manifest (repo_view middle.repo).manifest name most.names refuses.0,
  (where_back from a b E _ between refuses.1.0, usable_before from.most store middle c now most refuses.1.1),
)
refused_before from a b c E store middle now name Memory between most refuses = tt
refused_before from a b c E store middle now name Record between most refuses = (
  lacks_by (repo_view store.repo).manifest (repo_view middle.repo).manifest name most.names refuses.0,
  (
    where_back from a b E (λ there. HasLargeRecord there from (repo_view store.repo).keys name) between
        (subst (λ (k : Keys). WhereTold from b (λ there. HasLargeRecord there from k name)) most.keys refuses.1.0),
    usable_before from.most store middle c now most refuses.1.1,
  ),
)

-- the same of a body that ended with a fault, in the words of the source, the name and the store in front
pub name_refused : {T : Type 0} (from other : Origin) (a b c : Option Told) (E : History → History → Type 0) (store middle now : Store)
    (name given : List ℕ) (result : Result T CarryFault) → other ≡ from → given ≡ name → Between a b E → KeepsMost store middle
    → IfErr result (RefusesName other b middle c now given) → IfErr result (RefusesName from a store c now name)
name_refused {T} from other a b c E store middle now name given (Ok x) same called between most refuses = tt
name_refused {T} from other a b c E store middle now name given (Err fault) same called between most refuses =
    refused_before from a b c E store middle now name fault between most
    (subst (λ (f : Origin). RefusesName f b middle c now name fault) same (subst (λ (n : List ℕ). RefusesName other b middle c now n fault) called refuses))

-- ---- the end of an archive

-- the record of an archive all of whose items were copied isn't put
pub record_refused : (from : Origin) (heard : Option Told) (named : ArchiveRef) (store : Store) (copy : Copy) (added : List Addition) (fault : CarryFault)
    → IsReady copy → IsAllCopied from named heard store copy added
    → RefusesRecordText (repo_view store.repo).keys (copied_archive (archive_view copy.archive) copy.block (map (λ (chunk : ChunkRef). chunk.id)
    (copy.stream.chunks.items ++ chunks_of (repo_view store.repo).keys (cut copy.stream.cutter.block copy.stream.cutter.piece)))) fault
    → RefusesEnd from heard (repo_view store.repo).keys named.name fault
record_refused from heard named store copy added (Source fault) ready all refuses = refuses
record_refused from heard named store copy added (Target refusal) ready all refuses = refuses
record_refused from heard named store copy added (Taken name) ready all refuses = refuses
record_refused from heard named store copy added (NotFound name) ready all refuses = refuses
record_refused from heard named store copy added Pieces ready all refuses = refuses
record_refused from heard named store copy added Memory ready all refuses = refuses
record_refused from heard named store copy added Record ready all refuses =
    let keys = (repo_view store.repo).keys in
    let archive = archive_view copy.archive in
    IfSome_then heard all.1 (λ d known. IfSome_then from.files known (λ there c.
    let IsLarge : List ℕ → ℕ → Type 0 = λ salt block. content_limit < length (archive_text keys salt
    (copied_archive archive block (map (content_id keys) (stream_pieces keys block c.wholes)))) in
    record {
      whole = record { time = named.time; fields = archive.fields; items = c.wholes };
      source = c.source_whole;
      archive = archive;
      fields = refl;
      large = λ salt size.
          subst (IsLarge salt) (sym all.0.block)
          (subst (λ (ids : List (List ℕ)). content_limit < length (archive_text keys salt (copied_archive archive copy.block ids)))
          (stream_ids (told_files d) (repo_view store.repo) copy c.wholes added ready c.writes) (refuses salt size));
    }))

-- ---- chosen names

-- the names in front of one, and those behind it
pub split_at : (names : List (List ℕ)) (place : ℕ) (name d : List ℕ) → place < length names → name ≡ get_or names place d
    → names ≡ take place names ++ name ∷ drop (place + 1) names
split_at names place name d lt named =
    sym (take-append-drop (place + 1) names)
    ∙ (ap (λ (l : List (List ℕ)). l ++ drop (place + 1) names)
    (take_more names place d lt ∙ ap (λ (n : List ℕ). take place names ++ n ∷ []) (sym named))
    ∙ append_assoc (take place names) (name ∷ []) (drop (place + 1) names))

-- names that were told, behind which nothing was
pub told_still : (accepted : ManifestText) (names : List (List ℕ)) (a b c : Option Told) → Between a b (TellsNames accepted names)
    → Between b c TellsNothing → IfSome a (λ x. IfSome c (λ y. TellsNames accepted names x.history y.history))
told_still accepted names a b c told untold =
    both_ends a (between_then a b c (TellsNames accepted names) TellsNothing (TellsNames accepted names)
    (λ h g i p q. (p.0, (q ∙ p.1.0, p.1.1))) told untold) where
      both_ends : (o : Option Told) → Between o c (TellsNames accepted names)
          → IfSome o (λ x. IfSome c (λ y. TellsNames accepted names x.history y.history))
      both_ends None p = tt
      both_ends (Some x) p = subst (λ (o : Option Told). IfSome o (λ y. TellsNames accepted names x.history y.history)) (sym p.1) p.2

-- what a refusal of the archive of a name says of the target's files
pub name_stops : (from : Origin) (heard now : Option Told) (store store_now : Store) (name : List ℕ) (fault : CarryFault)
    → RefusesName from heard store now store_now name fault → StopsTarget now (repo_view store.repo).keys fault
name_stops from heard now store store_now name (Source fault) refused = tt
name_stops from heard now store store_now name (Target refusal) refused = refused
name_stops from heard now store store_now name (Taken taken) refused = tt
name_stops from heard now store store_now name (NotFound missing) refused = tt
name_stops from heard now store store_now name Pieces refused = tt
name_stops from heard now store store_now name Memory refused = tt
name_stops from heard now store store_now name Record refused = tt

-- behind a front of these names the archive of the next isn't carried
pub one_refused : (from : Origin) (heard now : Option Told) (store store_now : Store) (names done : List (List ℕ)) (name : List ℕ)
    (rest : List (List ℕ)) (fault : CarryFault) → names ≡ done ++ name ∷ rest
    → (is_of_telling fault ≡ false → IfSome heard (λ b. IfSome now (λ t. TellsNames (accepted_in store) done b.history t.history)))
    → RefusesName from heard store now store_now name fault → RefusesOne from heard store now store_now names fault
one_refused from heard now store store_now names done name rest fault split told refused = by (is_of_telling fault) refl where
  by : (telling : Bool) → is_of_telling fault ≡ telling → RefusesOne from heard store now store_now names fault
  by true is = inr (is, name_stops from heard now store store_now name fault refused)
  by false is = inl (record { done = done; name = name; rest = rest; split = split; told = told is; refused = refused })

-- nor is one where a line isn't told
pub line_refused : {T : Type 0} (from : Origin) (heard now : Option Told) (store store_now : Store) (names : List (List ℕ)) (keys : Keys)
    (result : Result T CarryFault) (fault : CarryFault) → IsErrAnd result (λ y. y ≡ fault) → keys ≡ (repo_view store.repo).keys
    → is_of_telling fault ≡ true → StopsTarget now keys fault → IfErr result (RefusesNames from heard store now store_now names)
line_refused {T} from heard now store store_now names keys (Ok x) fault e same telling stops = tt
line_refused {T} from heard now store store_now names keys (Err y) fault e same telling stops =
    subst (RefusesNames from heard store now store_now names) (sym e) (by fault telling (subst (λ (k : Keys). StopsTarget now k fault) same stops)) where
      by : (f : CarryFault) → is_of_telling f ≡ true → StopsTarget now (repo_view store.repo).keys f → RefusesNames from heard store now store_now names f
      by (Source f) is s = absurd (let no : ⊥ = cc in no)
      by (Target refusal) is s = inr (is, s)
      by (Taken taken) is s = absurd (let no : ⊥ = cc in no)
      by (NotFound missing) is s = absurd (let no : ⊥ = cc in no)
      by Pieces is s = absurd (let no : ⊥ = cc in no)
      by Memory is s = inr (is, s)
      by Record is s = absurd (let no : ⊥ = cc in no)

-- what is there isn't lacked
pub not_there : {X : Type 0} {o : Option X} → o ≡ None → IsSome o → ⊥
not_there {X} {o} lacks is = let none : IsSome {T = X} None = subst IsSome lacks is in let no : ⊥ = cc in no

-- where the source has an archive of each name, none is missing
found_all : (from : Origin) (heard now : Option Told) (store store_now : Store) (names : List (List ℕ)) (missing : List ℕ)
    → ((place : ℕ) (name : List ℕ) → slice_get names place ≡ Some name → IsSome (archive_named name from.repo.manifest.archives))
    → RefusesOne from heard store now store_now names (NotFound missing) → ⊥
found_all from heard now store store_now names missing found (inl one) =
    let among = among_next names one.done one.rest one.name one.split in not_there one.refused.1 (found among.0 one.name among.1)
found_all from heard now store store_now names missing found (inr untold) = absurd (let is = untold.0 in let no : ⊥ = cc in no)

pub none_missing : {T : Type 0} (from : Origin) (heard now : Option Told) (store store_now : Store) (names : List (List ℕ)) (result : Result T CarryFault)
    (fault : CarryFault) (missing : List ℕ)
    → ((place : ℕ) (name : List ℕ) → slice_get names place ≡ Some name → IsSome (archive_named name from.repo.manifest.archives))
    → RefusesOne from heard store now store_now names fault → IsErrAnd result (λ y. y ≡ fault) → result ≡ Err (NotFound missing) → ⊥
none_missing {T} from heard now store store_now names (Ok x) fault missing found refuses e is = absurd e
none_missing {T} from heard now store store_now names (Err y) fault missing found refuses e is =
    let same : y ≡ NotFound missing = cc in
    found_all from heard now store store_now names missing found (subst (RefusesOne from heard store now store_now names) (sym e ∙ same) refuses)

-- and names are refused as one of them is
pub names_refused : (from : Origin) (heard now : Option Told) (store store_now : Store) (names : List (List ℕ)) (fault : CarryFault)
    → ((place : ℕ) (name : List ℕ) → slice_get names place ≡ Some name → IsSome (archive_named name from.repo.manifest.archives))
    → RefusesOne from heard store now store_now names fault → RefusesNames from heard store now store_now names fault
names_refused from heard now store store_now names (Source fault) found one = one
names_refused from heard now store store_now names (Target refusal) found one = one
names_refused from heard now store store_now names (Taken taken) found one = one
names_refused from heard now store store_now names (NotFound missing) found one = absurd (found_all from heard now store store_now names missing found one)
names_refused from heard now store store_now names Pieces found one = one
names_refused from heard now store store_now names Memory found one = one
names_refused from heard now store store_now names Record found one = one
