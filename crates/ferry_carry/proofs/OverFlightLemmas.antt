-- Lemmas on flights over what others do to their source and their target.
use Rattle.std.proofs.Common.{◌≡◌, ◌⊎◌, inl, inr, ℕ, zero, suc, Bool, true, false, cond, List, [], ◌∷◌, Option, Some, None, IfSome}
use Rattle.std.proofs.Common.{◌≢◌, Result, Ok, Err, IfOk, refl, sym, ◌∙◌, ap, subst}
use Rattle.std.proofs.lemmas.Option.{IfSome_then}
use Rattle.std.proofs.lemmas.Slice.Eq.{bytes_eq-Decides}
use Rattle.std.specs.Str.{bytes_eq}
use Rattle.ferry_blob.specs.Blob.{content_id}
use Rattle.ferry_compare.specs.Compare.{ComparisonState, FitsTold, ReadsSoFar, Seen, StandsBeside, comparison_view, seen}
use Rattle.ferry_compare.specs.Matched.{AreMatched, Matched}
use Rattle.ferry_compare.proofs.StepLemmas.{matched_later}
use Rattle.ferry_disk.proofs.DeviceLemmas.{told_same}
use Rattle.ferry_disk.proofs.MomentLemmas.{between_map}
use Rattle.ferry_disk.specs.Act.{TellOf, files_now}
use Rattle.ferry_disk.specs.Device.{Told, heard, told_files}
use Rattle.ferry_disk.specs.Files.{Files}
use Rattle.ferry_disk.specs.Faults.{EndsAtFault, FailedWhere, failed_told}
use Rattle.ferry_disk.specs.Moments.{Between}
use Rattle.ferry_mac.specs.declared.keys.Keys.{Keys}
use Rattle.ferry_manifest.specs.Manifest.Text.{ManifestText}
use Rattle.ferry_manifest.specs.declared.manifest.ArchiveRef.{ArchiveRef}
use Rattle.ferry_next.proofs.PlaceLemmas.{with_named}
use Rattle.ferry_piece.specs.Adding.{HoldsRefused, HoldsUntil, SparesStore}
use Rattle.ferry_piece.specs.Fault.{target_failed}
use Rattle.ferry_piece.specs.Gather.{IsAmong}
use Rattle.ferry_piece.specs.Puts.{Addition, AtBegin, Border, border_behind}
use Rattle.ferry_piece.specs.Stops.{is_target}
use Rattle.ferry_piece.specs.Work.{Works}
use Rattle.ferry_piece.specs.declared.fault.CarryFault.{CarryFault}
use Rattle.ferry_piece.specs.declared.fault.CarryFault.TheVariants.{Source, Target, Taken, NotFound, Pieces, Memory, Record}
use Rattle.ferry_repo.specs.Archives.{HoldsJoined, archive_named}
use Rattle.ferry_repo.specs.Opening.{RepoState, repo_view}
use Rattle.ferry_repo.specs.Walk.{FitsWalk, WalkState, walk_view}
use Rattle.ferry_repo.specs.Whole.{WholeArchive}
use Rattle.ferry_store.specs.Commit.{accepted_in}
use Rattle.ferry_store.specs.State.{IsStep}
use Rattle.ferry_store.specs.Store.{StoreFits}
use Rattle.ferry_store.specs.declared.store.Store.{Store}
use Rattle.ferry_write.specs.Script.{AllDone}
use Rattle.ferry_carry.proofs.BegunLemmas.{so_far_later}
use Rattle.ferry_carry.proofs.GrowLemmas.{has_kept}
use Rattle.ferry_carry.proofs.GrowsLemmas.{most_from}
use Rattle.ferry_carry.proofs.TellLemmas.{files_told}
use Rattle.ferry_carry.proofs.WholeLemmas.{joined_kept}
use Rattle.ferry_carry.specs.Accepting.{NamesNew}
use Rattle.ferry_carry.specs.Carrying.{Origin, origin}
use Rattle.ferry_carry.specs.Chosen.{TellsLine}
use Rattle.ferry_carry.specs.Flight.{FlightFits, FlightStands, Flies, IsCommitted, WaitsMatched, WorkFits, carried_by}
use Rattle.ferry_carry.specs.Grow.{Grows, IsNamedBy, KeepsMost}
use Rattle.ferry_carry.specs.Naming.{TaggedRecord, entry_for}
use Rattle.ferry_carry.specs.Over.{AddsBetween, AddsOver, OthersDid}
use Rattle.ferry_carry.specs.Progress.{IsCopiedSoFar}
use Rattle.ferry_carry.specs.Refusals.{IsLeft}
use Rattle.ferry_carry.specs.declared.copy.Copy.{Copy}
use Rattle.ferry_carry.specs.declared.flight.Flight.{Flight}
use Rattle.ferry_carry.specs.declared.flight.Turn.{Turn}
use Rattle.ferry_carry.specs.declared.flight.Turn.TheVariants.{More}
use Rattle.ferry_carry.specs.declared.flight.Work.{Work}
use Rattle.ferry_carry.specs.declared.flight.Work.TheVariants.{Waiting, Copying, Comparing}
use Rattle.ferry_carry.specs.declared.options.Options.{Options}
use Rattle.ferry_carry.specs.States.{target_state}
use Rattle.ferry_carry.proofs.OverLemmas.{over_held, copies_over, beside_over}

-- ---- a flight

-- a name that was lacked, and that came with none of these, is lacked
lacked_over : (store now : Store) (names : List (List ℕ)) (name : List ℕ) → IsNamedBy (accepted_in store) names (accepted_in now)
    → (IsAmong names name → ⊥) → archive_named name (accepted_in store).archives ≡ None → archive_named name (accepted_in now).archives ≡ None
lacked_over store now names name only other lacks = by (archive_named name (accepted_in now).archives) refl where
  never : (entry : ArchiveRef) → (archive_named name (accepted_in store).archives ≡ Some entry) ⊎ IsAmong names name → ⊥
  never entry (inl is) = let both : None ≡ Some entry = sym lacks ∙ is in let no : ⊥ = cc in no
  never entry (inr among) = other among

  by : (o : Option ArchiveRef) → archive_named name (accepted_in now).archives ≡ o → archive_named name (accepted_in now).archives ≡ None
  by None e = e
  by (Some entry) e = absurd (never entry (only name entry e))

-- where the target tells its files
copied_told : (from : Origin) (named : ArchiveRef) (a b : Told) (store now : Store) (copy : Copy) (others added : List Addition)
    (fits : StoreFits false store a.history) → (repo_view now.repo).keys ≡ (repo_view store.repo).keys → AddsOver others store now a.history b.history fits
    → IsCopiedSoFar from named (Some a) store copy added → IsCopiedSoFar from named (Some b) now copy added
copied_told from named a b store now copy others added fits keys over so = (
  so.0,
  IfSome_then from.files so.1 (λ there c.
      copies_over there (told_files a) (told_files b) from.repo named (repo_view store.repo) (repo_view now.repo) copy added keys
      (over_held others store now a.history b.history fits over) c),
)

-- what was found to be the same is so over what others add
matched_told : (told : Option Told) (source : RepoState) (a b : Told) (store now : Store) (others : List Addition) (fits : StoreFits false store a.history)
    → (repo_view now.repo).keys ≡ (repo_view store.repo).keys → AddsOver others store now a.history b.history fits → (matched : Matched)
    → AreMatched told source (Some a) (repo_view store.repo) matched → AreMatched told source (Some b) (repo_view now.repo) matched
matched_told told source a b store now others fits keys over [] all = tt
matched_told told source a b store now others fits keys over (m ∷ matched) all = (
  record {
    content = all.0.content;
    first = all.0.first;
    second = subst (λ (k : Keys). HoldsJoined (told_files b) (repo_view now.repo).log k (Some m.1.others) (Some all.0.content)) (sym keys)
        (joined_kept (told_files a) (repo_view store.repo).log (repo_view store.repo).keys (told_files b) (repo_view now.repo).log
        (over_held others store now a.history b.history fits over) (Some m.1.others) (Some all.0.content) all.0.second);
  },
  matched_told told source a b store now others fits keys over matched all.1,
)

matched_untold : (told : Option Told) (source target now : RepoState) (matched : Matched) → AreMatched told source None target matched
    → AreMatched told source None now matched
matched_untold told source target now [] all = tt
matched_untold told source target now (m ∷ matched) all =
    (record { content = all.0.content; first = all.0.first; second = tt }, matched_untold told source target now matched all.1)

matched_by : (told : Option Told) (source : RepoState) (a b : Option Told) (store now : Store) (others : List Addition) (matched : Matched)
    → (repo_view now.repo).keys ≡ (repo_view store.repo).keys → IfSome a (λ t. StoreFits false store t.history) → AddsBetween others store now a b
    → AreMatched told source a (repo_view store.repo) matched → AreMatched told source b (repo_view now.repo) matched
matched_by told source None b store now others matched keys fits over all =
    subst (λ (o : Option Told). AreMatched told source o (repo_view now.repo) matched) (sym (over.none refl))
    (matched_untold told source (repo_view store.repo) (repo_view now.repo) matched all)
matched_by told source (Some a) b store now others matched keys fits over all =
    let to = over.adds in
    subst (λ (o : Option Told). AreMatched told source o (repo_view now.repo) matched) (sym to.1)
    (matched_told told source a to.0 store now others fits keys (to.2 fits) matched all)

waits_over : (told : Option Told) (source : RepoState) (a b : Option Told) (store now : Store) (others : List Addition) (matched : Matched) (work : Work)
    → (repo_view now.repo).keys ≡ (repo_view store.repo).keys → IfSome a (λ t. StoreFits false store t.history) → AddsBetween others store now a b
    → WaitsMatched told source a (repo_view store.repo) matched work → WaitsMatched told source b (repo_view now.repo) matched work
waits_over told source a b store now others matched Waiting keys fits over all = matched_by told source a b store now others matched keys fits over all
waits_over told source a b store now others matched (Copying copy) keys fits over all = tt
waits_over told source a b store now others matched (Comparing comparison) keys fits over all = tt

compared_told : (told : Option Told) (source : RepoState) (met : Seen) (state : ComparisonState) (a b : Told) (store now : Store) (others : List Addition)
    (fits : StoreFits false store a.history) → KeepsMost store now → AddsOver others store now a.history b.history fits
    → FitsTold told source (Some a) (repo_view store.repo) met state → FitsTold told source (Some b) (repo_view now.repo) met state
compared_told told source met state a b store now others fits kept over p = record {
  front = p.front;
  read = p.read;
  beside = beside_over a b (repo_view store.repo) (repo_view now.repo) met state.name state.other p.front kept.keys
      (over_held others store now a.history b.history fits over) kept.names p.beside;
  matched = matched_told told source a b store now others fits kept.keys over state.matched p.matched;
}

-- of a target that tells nothing nothing was read
compared_untold : (target now : RepoState) (met : Seen) (name : List ℕ) (walk : Option WalkState) (front : WholeArchive)
    → StandsBeside None target met name walk front → StandsBeside None now met name walk front
compared_untold target now met name None front stands = stands
compared_untold target now met name (Some walk) front stands = tt

-- whether it tells or not
copied_by : (from : Origin) (named : ArchiveRef) (a b : Option Told) (store now : Store) (copy : Copy) (others added : List Addition)
    → (repo_view now.repo).keys ≡ (repo_view store.repo).keys → IfSome a (λ t. StoreFits false store t.history) → AddsBetween others store now a b
    → IsCopiedSoFar from named a store copy added → IsCopiedSoFar from named b now copy added
copied_by from named None b store now copy others added keys fits over so =
    subst (λ (o : Option Told). IsCopiedSoFar from named o now copy added) (sym (over.none refl)) so
copied_by from named (Some a) b store now copy others added keys fits over so =
    let to = over.adds in
    subst (λ (o : Option Told). IsCopiedSoFar from named o now copy added) (sym to.1)
    (copied_told from named a to.0 store now copy others added fits keys (to.2 fits) so)

compared_by : (told : Option Told) (source : RepoState) (met : Seen) (state : ComparisonState) (a b : Option Told) (store now : Store)
    (others : List Addition) → KeepsMost store now → IfSome a (λ t. StoreFits false store t.history) → AddsBetween others store now a b
    → FitsTold told source a (repo_view store.repo) met state → FitsTold told source b (repo_view now.repo) met state
compared_by told source met state None b store now others kept fits over p =
    subst (λ (o : Option Told). FitsTold told source o (repo_view now.repo) met state) (sym (over.none refl)) (record {
      front = p.front;
      read = p.read;
      beside = compared_untold (repo_view store.repo) (repo_view now.repo) met state.name state.other p.front p.beside;
      matched = matched_untold told source (repo_view store.repo) (repo_view now.repo) state.matched p.matched;
    })
compared_by told source met state (Some a) b store now others kept fits over p =
    let to = over.adds in
    subst (λ (o : Option Told). FitsTold told source o (repo_view now.repo) met state) (sym to.1)
    (compared_told told source met state a to.0 store now others fits kept (to.2 fits) p)

work_over : (told : Option Told) (source : RepoState) (a b : Option Told) (store now : Store) (met : Seen) (names : List (List ℕ)) (others : List Addition)
    (named : ArchiveRef) (options : Options) (added : List Addition) (work : Work) → IfSome a (λ t. StoreFits false store t.history)
    → OthersDid names others store now a b → (IsAmong names named.name → ⊥)
    → WorkFits (seen told source) a store met named options added work → WorkFits (seen told source) b now met named options added work
work_over told source a b store now met names others named options added Waiting fits did other is = is
work_over told source a b store now met names others named options added (Copying copy) fits did other is = record {
  fits = is.fits;
  unnamed = lacked_over store now names named.name did.only other is.unnamed;
  copied = copied_by (origin told source options.block options.checkpoint options.timestamp) named a b store now copy others added did.kept.keys fits did.adds
      is.copied;
}
work_over told source a b store now met names others named options added (Comparing comparison) fits did other is =
    let was = is.0 in (
      record {
        fits = record {
          comparison = compared_by told source met (comparison_view comparison) a b store now others did.kept fits did.adds was.comparison;
          same_name = was.same_name;
        };
        there = has_kept (repo_view store.repo).manifest (repo_view now.repo).manifest named.name did.kept.names was.there;
      },
      is.1,
    )

-- what fits a flight fits it over what others did
pub flight_over : (told : Option Told) (source : RepoState) (a b : Option Told) (store now : Store) (met : Seen) (flight : Flight) (names : List (List ℕ))
    (others : List Addition) → FlightFits told source a store met flight → IfSome a (λ t. StoreFits false store t.history)
    → OthersDid names others store now a b → (IsAmong names flight.named.name → ⊥) → FlightFits told source b now met flight
flight_over told source a b store now met flight names others p fits did other = record {
  stands = p.stands;
  added = p.added;
  work = work_over told source a b store now met names others flight.named flight.options p.added flight.work fits did other p.work;
  matched = waits_over told source a b store now others flight.matches flight.work did.kept.keys fits did.adds p.matched;
}

-- what was accepted of its name is committed still
pub committed_over : (store now : Store) (names : List (List ℕ)) (others : List Addition) (a b : Option Told) (name : List ℕ)
    → OthersDid names others store now a b → (IsAmong names name → ⊥) → IsCommitted store name → IsCommitted now name
committed_over store now names others a b name did other committed entry is = by (did.only name entry is) where
  by : (archive_named name (accepted_in store).archives ≡ Some entry) ⊎ IsAmong names name
      → archive_named name (repo_view now.repo).manifest.archives ≡ Some entry
  by (inl was) = did.kept.names name entry (committed entry was)
  by (inr among) = absurd (other among)

-- ---- what a turn of another does

none_told : (b : Option Told) → failed_told b ≡ None → b ≡ None
none_told None e = refl
none_told (Some t) e = absurd (let no : ⊥ = cc in no)

none_failed : (failed : Bool) (b : Option Told) → FailedWhere failed None b → b ≡ None
none_failed false b e = none_told b e
none_failed true None e = refl
none_failed true (Some t) e = absurd (let no : ⊥ = cc in no)

ends_none : {T : Type 0} (a b : Option Told) (result : Result T CarryFault) → EndsAtFault target_failed a b result → a ≡ None → b ≡ None
ends_none {T} None b (Ok x) ends none = none_told b ends
ends_none {T} None b (Err fault) ends none = none_failed (target_failed fault) b ends
ends_none {T} (Some t) b result ends none = absurd (let no : ⊥ = cc in no)

-- a line that is told changes no file
matched_files : (told : Option Told) (source : RepoState) (t u : Told) (target : RepoState) → told_files u ≡ told_files t → (matched : Matched)
    → AreMatched told source (Some t) target matched → AreMatched told source (Some u) target matched
matched_files told source t u target same [] all = tt
matched_files told source t u target same (m ∷ matched) all = (
  record {
    content = all.0.content;
    first = all.0.first;
    second = subst (λ (f : Files). HoldsJoined f target.log target.keys (Some m.1.others) (Some all.0.content)) (sym same) all.0.second;
  },
  matched_files told source t u target same matched all.1,
)

pub matched_behind : (told : Option Told) (source : RepoState) (a b : Option Told) (target : RepoState) (line : List ℕ) (n m : ℕ)
    → Works {T = Unit {0}} (IsStep (TellOf line)) (λ _. TellsLine line) a b n m (Ok tt) → (matched : Matched)
    → AreMatched told source a target matched → AreMatched told source b target matched
matched_behind told source None b target line n m works matched all =
    subst (λ (o : Option Told). AreMatched told source o target matched) (sym (ends_none {T = Unit {0}} None b (Ok tt) works.ends refl)) all
matched_behind told source (Some t) b target line n m works matched all =
    let end = works.end in
    let same : told_files end.0 ≡ told_files t = ap files_now end.2.1 ∙ files_told line t.history in
    subst (λ (o : Option Told). AreMatched told source o target matched) (sym end.1) (matched_files told source t end.0 target same matched all)

named_by : (name : List ℕ) (named : ArchiveRef) (id : List ℕ) (archives : List ArchiveRef) (entry : ArchiveRef) (same : Bool)
    → bytes_eq named.name name ≡ same → cond (bytes_eq named.name name) (Some (entry_for named id)) (archive_named name archives) ≡ Some entry
    → (archive_named name archives ≡ Some entry) ⊎ IsAmong (named.name ∷ []) name
named_by name named id archives entry true e found = inr (zero, ap Some ((bytes_eq-Decides named.name name).0 e))
named_by name named id archives entry false e found =
    inl (subst (λ (b : Bool). cond b (Some (entry_for named id)) (archive_named name archives) ≡ Some entry) e found)

-- what it accepted, as an archive is named
pub named_only : (given : Option (List ℕ)) (source : RepoState) (store : Store) (named : ArchiveRef) (records : List TaggedRecord) (now : Store)
    (x y : Option (List ℕ)) → NamesNew given source store named records now x y → IsNamedBy (accepted_in store) (named.name ∷ []) (accepted_in now)
named_only given source store named records now x y new name entry is =
    named_by name named (content_id (repo_view store.repo).keys new.one.text) (accepted_in store).archives entry (bytes_eq named.name name) refl
    (sym (with_named name (accepted_in store).archives (entry_for named (content_id (repo_view store.repo).keys new.one.text)))
    ∙ (ap (λ (m : ManifestText). archive_named name m.archives) (sym new.accepted) ∙ is))

-- a turn that was taken
pub turn_did : (earlier : List Addition) (from : Origin) (name : List ℕ) (added : List Addition) (store now : Store) (a b : Option Told) (n m : ℕ)
    (turn : Turn) → Flies earlier from name added (target_state a n store) (target_state b m now) (Ok turn) → KeepsMost store now
    → IsNamedBy (accepted_in store) (name ∷ []) (accepted_in now) → OthersDid (name ∷ []) added store now a b
turn_did earlier from name added store now a b n m turn flies kept only = record {
  adds = record {
    none = ends_none {T = Turn} a b (Ok turn) flies.ends;
    adds = between_map a b (λ h g. AllDone h g × Grows earlier from (carried_by turn name) added store now h g)
        (λ h g. (fits : StoreFits false store h) → AddsOver added store now h g fits)
        (λ h g e fits. let end = e.1 false fits in
        record { fits_now = end.fits_now; at = border_behind AtBegin earlier; most = from.most; adds = end.puts }) flies.end;
  };
  kept = kept;
  only = only;
}

-- a turn that was refused, but not by the target
spares_other : (fault : CarryFault) → is_target fault ≡ false → SparesStore fault
spares_other (Source fault) other = tt
spares_other (Target refusal) other = absurd (let no : ⊥ = cc in no)
spares_other (Taken name) other = tt
spares_other (NotFound name) other = tt
spares_other Pieces other = tt
spares_other Memory other = absurd (let no : ⊥ = cc in no)
spares_other Record other = tt

pub refusal_did : (earlier : List Addition) (from : Origin) (name : List ℕ) (at : Border) (limit most : ℕ) (added : List Addition) (store now : Store)
    (a b : Option Told) (n m : ℕ) (fault : CarryFault) → Flies earlier from name added (target_state a n store) (target_state b m now) (Err fault)
    → HoldsRefused {T = Turn} at limit store added now a b (Err fault) → is_target fault ≡ false → IsLeft most store b now
    → OthersDid [] added store now a b
refusal_did earlier from name at limit most added store now a b n m fault flies held other left = record {
  adds = record {
    none = ends_none {T = Turn} a b (Err fault) flies.ends;
    adds = between_map a b (HoldsUntil false at limit store added now) (λ h g. (fits : StoreFits false store h) → AddsOver added store now h g fits)
        (λ h g e fits. let end = e false fits in record { fits_now = end.0; at = at; most = limit; adds = end.1 })
        (subst (λ (target : Bool). Between a b (HoldsUntil target at limit store added now)) other (held (spares_other fault other)).1);
  };
  kept = most_from store now left.rest;
  only = λ called entry is. inl (ap (λ (m : ManifestText). archive_named called m.archives) (sym left.rest.accepted) ∙ is);
}

-- ---- the source

walk_later : (told later : Option Told) (source after : RepoState) (walk : WalkState) → heard later ≡ heard told → after ≡ source
    → IfSome told (λ t. FitsWalk (told_files t) source.log source.keys walk) → IfSome later (λ t. FitsWalk (told_files t) after.log after.keys walk)
walk_later told later source after walk alike same fits =
    subst (λ (r : RepoState). IfSome later (λ t. FitsWalk (told_files t) r.log r.keys walk)) (sym same)
    (told_same told later (λ f. FitsWalk f source.log source.keys walk) alike fits)

source_later : (told later : Option Told) (source after : RepoState) (a : Option Told) (target : RepoState) (matched : Matched) → heard later ≡ heard told
    → after ≡ source → AreMatched told source a target matched → AreMatched later after a target matched
source_later told later source after a target matched alike same all =
    matched_later told later source after a a target target alike same refl refl matched all

waits_later : (told later : Option Told) (source after : RepoState) (a : Option Told) (target : RepoState) (matched : Matched) (work : Work)
    → heard later ≡ heard told → after ≡ source → WaitsMatched told source a target matched work → WaitsMatched later after a target matched work
waits_later told later source after a target matched Waiting alike same all = source_later told later source after a target matched alike same all
waits_later told later source after a target matched (Copying copy) alike same all = tt
waits_later told later source after a target matched (Comparing comparison) alike same all = tt

work_later : (told later : Option Told) (source after : RepoState) (a : Option Told) (store : Store) (met : Seen) (named : ArchiveRef) (options : Options)
    (added : List Addition) (work : Work) → heard later ≡ heard told → after ≡ source → WorkFits (seen told source) a store met named options added work
    → WorkFits (seen later after) a store met named options added work
work_later told later source after a store met named options added Waiting alike same is = is
work_later told later source after a store met named options added (Copying copy) alike same is = record {
  fits = record { ready = is.ready; walk_fits = walk_later told later source after (walk_view copy.walk) alike same is.walk_fits };
  unnamed = is.unnamed;
  copied = so_far_later told later source after options.block options.checkpoint options.timestamp named a store copy added alike same is.copied;
}
work_later told later source after a store met named options added (Comparing comparison) alike same is =
    let state = comparison_view comparison in
    let was = is.0 in
    let so = was.comparison in (
      record {
        fits = record {
          comparison = record {
            front = so.front;
            read = subst (λ (r : RepoState). IfSome later (λ t. ReadsSoFar (told_files t) r state.name state.walk so.front)) (sym same)
                (told_same told later (λ f. ReadsSoFar f source state.name state.walk so.front) alike so.read);
            beside = so.beside;
            matched = source_later told later source after a (repo_view store.repo) state.matched alike same so.matched;
          };
          same_name = was.same_name;
        };
        there = was.there;
      },
      is.1,
    )

-- where the source's files were only read
pub flight_later : (told later : Option Told) (source after : RepoState) (a : Option Told) (store : Store) (met : Seen) (flight : Flight)
    → heard later ≡ heard told → after ≡ source → FlightFits told source a store met flight → FlightFits later after a store met flight
flight_later told later source after a store met flight alike same p = record {
  stands = subst (λ (r : RepoState). FlightStands r flight) (sym same) p.stands;
  added = p.added;
  work = work_later told later source after a store met flight.named flight.options p.added flight.work alike same p.work;
  matched = waits_later told later source after a (repo_view store.repo) flight.matches flight.work alike same p.matched;
}

-- ---- what earlier flights found to be the same

waits_of : (told : Option Told) (source : RepoState) (a : Option Told) (target : RepoState) (matched : Matched) (work : Work)
    → AreMatched told source a target matched → WaitsMatched told source a target matched work
waits_of told source a target matched Waiting all = all
waits_of told source a target matched (Copying copy) all = tt
waits_of told source a target matched (Comparing comparison) all = tt

-- a flight goes on with it
pub flight_resumed : (told : Option Told) (source : RepoState) (a : Option Told) (store : Store) (met : Seen) (flight : Flight) (matched : Matched)
    → AreMatched told source a (repo_view store.repo) matched → (fits : FlightFits told source a store met flight) × (fits.added ≡ [])
    → (fits : FlightFits told source a store met (record flight { matches = matched })) × (fits.added ≡ [])
flight_resumed told source a store met flight matched all was = (
  record {
    stands = record { options = was.0.stands.options; named = was.0.stands.named; uncounted = was.0.stands.uncounted };
    added = was.0.added;
    work = was.0.work;
    matched = waits_of told source a (repo_view store.repo) matched flight.work all;
  },
  was.1,
)

-- what a flight waits with is so where no step was taken
pub waits_with : (told : Option Told) (source : RepoState) (a : Option Told) (store : Store) (met : Seen) (flight : Flight) → flight.work ≡ Waiting
    → FlightFits told source a store met flight → AreMatched told source a (repo_view store.repo) flight.matches
waits_with told source a store met flight is fits = subst (WaitsMatched told source a (repo_view store.repo) flight.matches) is fits.matched

-- where a turn ends and nothing is known to be the same
pub ended_matched : (told : Option Told) (source : RepoState) (a : Option Told) (target : RepoState) (matched : Matched) (result : Result Turn CarryFault)
    → IfOk result (λ turn. turn ≢ More → matched ≡ []) → IfOk result (λ turn. turn ≢ More → AreMatched told source a target matched)
ended_matched told source a target matched (Ok turn) none = λ ended. subst (AreMatched told source a target) (sym (none ended)) tt
ended_matched told source a target matched (Err fault) none = tt

-- where an archive is there: what was found stays known, but behind what was pending
pub present_matched : (told : Option Told) (source : RepoState) (b d : Option Told) (target renewed : RepoState) (pending : ℕ) (was now : Matched)
    (result : Result Turn CarryFault) → AreMatched told source b target was → (pending ≡ 0 → now ≡ was) → (pending ≢ 0 → now ≡ [])
    → (pending ≡ 0 → (renewed ≡ target) × (d ≡ b)) → IfOk result (λ turn. turn ≢ More → AreMatched told source d renewed now)
present_matched told source b d target renewed pending was now (Err fault) all kept gone still = tt
present_matched told source b d target renewed zero was now (Ok turn) all kept gone still = λ ended.
    let same = still refl in
    subst (λ (m : Matched). AreMatched told source d renewed m) (sym (kept refl))
    (subst (λ (o : Option Told). AreMatched told source o renewed was) (sym same.1)
    (subst (λ (r : RepoState). AreMatched told source b r was) (sym same.0) all))
present_matched told source b d target renewed (suc n) was now (Ok turn) all kept gone still = λ ended.
    subst (AreMatched told source d renewed) (sym (gone (λ is. let no : ⊥ = cc in no))) tt
