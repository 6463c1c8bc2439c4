-- Lemmas on what the turns of a flight added: how far an archive is, and where its source refused.
use Rattle.std.proofs.Common.{◌≡◌, inl, inr, Bool, true, false, ℕ, List, [], ◌++◌}
use Rattle.std.proofs.Common.{Option, Some, None, Result, Ok, Err, IfErr, IfOk, IfSome, IsSome, MatchResult}
use Rattle.std.proofs.Common.{refl, sym, ◌∙◌, subst}
use Rattle.std.proofs.lemmas.List.{append-nil}
use Rattle.ferry_compare.specs.Compare.{Seen, seen}
use Rattle.ferry_disk.specs.Act.{History}
use Rattle.ferry_disk.specs.Device.{Told, heard, told_files}
use Rattle.ferry_disk.specs.Moments.{Between}
use Rattle.ferry_mac.specs.declared.keys.Keys.{Keys}
use Rattle.ferry_manifest.specs.Manifest.Text.{ManifestText}
use Rattle.ferry_manifest.specs.declared.manifest.ArchiveRef.{ArchiveRef}
use Rattle.ferry_repo.specs.Archives.{RefusesRecord, archive_named}
use Rattle.ferry_repo.specs.Fault.{IsOfFiles}
use Rattle.ferry_repo.specs.Cached.{Contents}
use Rattle.ferry_repo.specs.Opening.{FitsRepo, RepoState, repo_view}
use Rattle.ferry_repo.specs.declared.fault.RepoFault.{RepoFault}
use Rattle.ferry_store.specs.Commit.{accepted_in}
use Rattle.ferry_store.specs.declared.store.Store.{Store}
use Rattle.ferry_carry.proofs.CountingLemmas.{counts_nothing}
use Rattle.ferry_carry.proofs.ListingLemmas.{copied_begun}
use Rattle.ferry_carry.proofs.ThereLemmas.{tells_named}
use Rattle.ferry_carry.proofs.HeldLemmas.{heard_apart, heard_back, heard_each, heard_map}
use Rattle.ferry_carry.proofs.HeldLemmas.{known_back}
use Rattle.ferry_piece.specs.Adding.{AddsOn}
use Rattle.ferry_carry.specs.Naming.{TaggedRecord, records_in}
use Rattle.ferry_carry.specs.Carrying.{Origin, origin}
use Rattle.ferry_carry.specs.Counting.{CountsOf, nothing_carried}
use Rattle.ferry_carry.specs.Flight.{BeginsDone, FlightFits, ListsDone, TurnLists, WorkFits, archive_adds}
use Rattle.ferry_carry.specs.Flight.{flown_from}
use Rattle.ferry_carry.specs.Grow.{AcceptsMore}
use Rattle.ferry_piece.specs.Fault.{IsOfSource}
use Rattle.ferry_carry.specs.Filling.{FillsFlight, FillsName, FillsOne, WhereHeard}
use Rattle.ferry_carry.specs.Listing.{BeginsName, BeginsOne, ListsOne}
use Rattle.ferry_carry.specs.Progress.{CopiesOn, IsCopiedSoFar}
use Rattle.ferry_piece.specs.Puts.{Addition}
use Rattle.ferry_carry.specs.Refusals.{RefusesBegin}
use Rattle.ferry_carry.specs.declared.copy.Copy.{Copy}
use Rattle.ferry_piece.specs.declared.fault.CarryFault.TheVariants.{Source, Target, Taken, NotFound, Pieces, Memory, Record}
use Rattle.ferry_piece.specs.declared.fault.CarryFault.{CarryFault}
use Rattle.ferry_carry.specs.declared.flight.Flight.{Flight}
use Rattle.ferry_carry.specs.declared.flight.Turn.{Turn}
use Rattle.ferry_carry.specs.declared.flight.Turn.TheVariants.{More, Named, Present}
use Rattle.ferry_carry.specs.declared.flight.Work.{Work}
use Rattle.ferry_carry.specs.declared.flight.Work.TheVariants.{Waiting, Copying, Comparing}
use Rattle.ferry_carry.proofs.FlyLemmas.{origin_kept}

-- ---- how far an archive is

-- the same of a source by the length of the pieces that an archive on its way has, and by its checkpoint
pub so_far_as : (told : Option Told) (source : RepoState) (block most : ℕ) (time : Option (List ℕ)) (named : ArchiveRef) (heard : Option Told) (store : Store)
    (copy : Copy)
    (added : List Addition) → IsCopiedSoFar (origin told source block most time) named heard store copy added
    → IsCopiedSoFar (origin told source copy.block copy.contents.checkpoint time) named heard store copy added
so_far_as told source block most time named heard store copy added p =
    subst (λ (b : ℕ). IsCopiedSoFar (origin told source b copy.contents.checkpoint time) named heard store copy added) p.0.block
    (subst (λ (l : ℕ). IsCopiedSoFar (origin told source block l time) named heard store copy added) p.0.most p)

-- What a step did of an archive of an origin, which has a name.
abbrev pub StepsOf : Origin → Option Told → Option Told → Store → Store → ArchiveRef → Copy → List Addition → List Addition → ℕ → ℕ
    → Result Bool CarryFault → Type 0
StepsOf from a b store now named copy added more n m result =
    AddsOn from.most store more now a b n m result
    × ((archive_named named.name from.repo.manifest.archives ≡ Some named
    → IfSome a (λ _. BeginsOne from (repo_view store.repo).keys named.name (added ++ more)))
    × (IfErr result (λ fault. archive_named named.name from.repo.manifest.archives ≡ Some named
    → WhereHeard a fault (λ refusal. FillsOne from (repo_view store.repo).keys named.name refusal (added ++ more)))
    × MatchResult result (CopiesOn from named b now copy added more) (λ _. records_in more ≡ [])))

-- the same, in the words of such a source
pub stepped_as : (told : Option Told) (source : RepoState) (block most other others : ℕ) (time : Option (List ℕ)) (named : ArchiveRef) (a b : Option Told)
    (store now : Store)
    (copy : Copy) (added more : List Addition) (n m : ℕ) (result : Result Bool CarryFault) → other ≡ block → others ≡ most
    → StepsOf (origin told source other others time) a b store now named copy added more n m result
    → StepsOf (origin told source block most time) a b store now named copy added more n m result
stepped_as told source block most other others time named a b store now copy added more n m result same limit p =
    subst (λ (l : ℕ). StepsOf (origin told source block l time) a b store now named copy added more n m result) limit
    (subst (λ (d : ℕ). StepsOf (origin told source d others time) a b store now named copy added more n m result) same p)

-- of a source that tells what it told
pub so_far_later : (told later : Option Told) (source after : RepoState) (block most : ℕ) (time : Option (List ℕ)) (named : ArchiveRef) (heard_now : Option
    Told) (store : Store)
    (copy : Copy) (added : List Addition) → heard later ≡ heard told → after ≡ source
    → IsCopiedSoFar (origin told source block most time) named heard_now store copy added
    → IsCopiedSoFar (origin later after block most time) named heard_now store copy added
so_far_later told later source after block most time named heard_now store copy added alike kept p =
    subst (λ (f : Origin). IsCopiedSoFar f named heard_now store copy added)
    (sym (origin_kept told later source after block block most most time time alike kept refl refl refl)) p

-- ---- what turns added

-- what was added once an archive is done, in the words of a store and a source before
pub done_before : (from other : Origin) (keys others : Keys) (name : List ℕ) (records : List TaggedRecord) (added given : List Addition) (copied : Bool)
    (E : History → History → Type 0) (a b : Option Told) → Between a b E → other ≡ from → others ≡ keys → given ≡ added
    → ListsDone b other others name records given copied → ListsDone a from keys name records added copied
done_before from other keys others name records added given true E a b between is same all done =
    let one = done.0 in
    let there = known_back (ListsOne other others name one given) E a b between done.1.1 in (
      one,
      (
        done.1.0,
        subst (λ (l : List Addition). IfSome a (λ _. ListsOne from keys name one l)) all
            (subst (λ (k : Keys). IfSome a (λ _. ListsOne from k name one given)) same
            (subst (λ (f : Origin). IfSome a (λ _. ListsOne f others name one given)) is there)),
      ),
    )
done_before from other keys others name records added given false E a b between is same all done = (done.0, sym all ∙ done.1)

-- the same of a turn
turn_before : (told : Option Told) (source : RepoState) (target : Option Told) (store : Store) (met : Seen) (flight : Flight) (from other : Origin)
    (keys others : Keys) (added more : List Addition) (records : List TaggedRecord) (turn : Turn) (E : History → History → Type 0) (a b : Option Told)
    → Between a b E → other ≡ from → others ≡ keys → TurnLists (seen told source) target store met flight (ListsDone b other others flight.named.name)
    (archive_adds flight.named.name
    added more records) turn
    → TurnLists (seen told source) target store met flight (ListsDone a from keys flight.named.name) (archive_adds flight.named.name added more records) turn
turn_before told source target store met flight from other keys others added more records More E a b between is same lists = lists
turn_before told source target store met flight from other keys others added more records Named E a b between is same lists =
    (done_before from other keys others flight.named.name records (added ++ more) (added ++ more) true E a b between is same refl lists.0, lists.1)
turn_before told source target store met flight from other keys others added more records Present E a b between is same lists = lists

pub turns_before : (told : Option Told) (source : RepoState) (target : Option Told) (store : Store) (met : Seen) (flight : Flight) (from other : Origin)
    (keys others : Keys) (added more : List Addition) (records : List TaggedRecord) (result : Result Turn CarryFault) (E : History → History → Type 0)
    (a b : Option Told) → Between a b E → other ≡ from → others ≡ keys
    → IfOk result (TurnLists (seen told source) target store met flight (ListsDone b other others flight.named.name)
    (archive_adds flight.named.name added more records))
    → IfOk result (TurnLists (seen told source) target store met flight (ListsDone a from keys flight.named.name)
    (archive_adds flight.named.name added more records))
turns_before told source target store met flight from other keys others added more records (Ok turn) E a b between is same lists =
    turn_before told source target store met flight from other keys others added more records turn E a b between is same lists
turns_before told source target store met flight from other keys others added more records (Err fault) E a b between is same lists = tt

-- where an archive is there nothing was added
pub turn_present : (told : Option Told) (source : RepoState) (target : Option Told) (store : Store) (met : Seen) (flight : Flight) (before : Option Told)
    (from : Origin) (keys : Keys) (result : Result Turn CarryFault) → flight.put ≡ nothing_carried → IfOk result (λ turn. turn ≡ Present)
    → IfOk result (TurnLists (seen told source) target store met flight (ListsDone before from keys flight.named.name)
    (archive_adds flight.named.name [] [] []))
turn_present told source target store met flight before from keys (Ok turn) uncounted is =
    subst (TurnLists (seen told source) target store met flight (ListsDone before from keys flight.named.name) (archive_adds flight.named.name [] [] []))
    (sym is)
    ((refl, refl), subst (CountsOf []) (sym uncounted) counts_nothing)
turn_present told source target store met flight before from keys (Err fault) uncounted is = tt

-- ---- how far it came

always : (P : Type 0) (o : Option Told) → P → IfSome o (λ _. P)
always P None p = tt
always P (Some t) p = p

-- nothing is added for an archive that is there
pub begins_there : (before : Option Told) (from : Origin) (keys : Keys) (accepted : ManifestText) (name : List ℕ)
    → IsSome (archive_named name accepted.archives) → BeginsDone before from keys accepted name []
begins_there before from keys accepted name there = always (BeginsName from keys accepted [] name []) before (inl (inl there, refl))

-- and what is added of one that isn't
pub begins_new : (before : Option Told) (from : Origin) (keys : Keys) (accepted : ManifestText) (name : List ℕ) (begun : List Addition)
    → archive_named name accepted.archives ≡ None → IfSome before (λ _. BeginsOne from keys name begun) → BeginsDone before from keys accepted name begun
begins_new None from keys accepted name begun none known = tt
begins_new (Some t) from keys accepted name begun none known = inr (tells_named accepted name none, known)

-- none of it
pub begins_none : (before : Option Told) (from : Origin) (keys : Keys) (accepted : ManifestText) (name : List ℕ)
    → BeginsDone before from keys accepted name []
begins_none before from keys accepted name = by (archive_named name accepted.archives) refl where
  by : (o : Option ArchiveRef) → archive_named name accepted.archives ≡ o → BeginsDone before from keys accepted name []
  by None e = begins_new before from keys accepted name [] e (always (BeginsOne from keys name []) before (inl refl))
  by (Some entry) e = begins_there before from keys accepted name (subst IsSome (sym e) refl)

-- in the words of a store and a source before
pub begins_before : (from other : Origin) (keys others : Keys) (accepted manifest : ManifestText) (name called : List ℕ) (added given : List Addition)
    (E : History → History → Type 0) (a b : Option Told) → Between a b E → other ≡ from → others ≡ keys → manifest ≡ accepted → called ≡ name
    → given ≡ added → BeginsDone b other others manifest called given → BeginsDone a from keys accepted name added
begins_before from other keys others accepted manifest name called added given E a b between is same accepts names all begun =
    let there = known_back (BeginsName other others manifest [] called given) E a b between begun in
    subst (λ (l : List Addition). BeginsDone a from keys accepted name l) all
    (subst (λ (n : List ℕ). BeginsDone a from keys accepted n given) names
    (subst (λ (m : ManifestText). BeginsDone a from keys m called given) accepts
    (subst (λ (k : Keys). BeginsDone a from k manifest called given) same
    (subst (λ (f : Origin). BeginsDone a f others manifest called given) is there))))

-- ---- where the source refused

-- where an archive is there nothing was added
pub fills_there : (before : Option Told) (from : Origin) (keys : Keys) (accepted : ManifestText) (name : List ℕ) (fault : CarryFault)
    → IsSome (archive_named name accepted.archives) → FillsFlight before from keys accepted name fault []
fills_there before from keys accepted name fault there =
    heard_each before fault (λ refusal. FillsName from keys accepted [] name refusal []) (λ refusal. inl (inl there, refl))

-- and where it isn't all that is added of it up to its fault was
pub fills_new : (before : Option Told) (from : Origin) (keys : Keys) (accepted : ManifestText) (name : List ℕ) (begun : List Addition) (fault : CarryFault)
    → archive_named name accepted.archives ≡ None → WhereHeard before fault (λ refusal. FillsOne from keys name refusal begun)
    → FillsFlight before from keys accepted name fault begun
fills_new before from keys accepted name begun fault none known =
    heard_map before fault (λ refusal. FillsOne from keys name refusal begun) (λ refusal. FillsName from keys accepted [] name refusal begun)
    (λ refusal filled. inr (tells_named accepted name none, filled)) known

-- its record isn't read
record_refused : (told : Option Told) (source : RepoState) (block most : ℕ) (time : Option (List ℕ)) (keys : Keys) (named : ArchiveRef) (refusal : RepoFault)
    → archive_named named.name source.manifest.archives ≡ Some named
    → IfSome told (λ t. RefusesRecord (told_files t) source.log source.keys named.id refusal)
    → FillsOne (origin told source block most time) keys named.name refusal []
record_refused None source block most time keys named refusal named_is refused = tt
record_refused (Some t) source block most time keys named refusal named_is refused =
    record { named = named; named_is = named_is; fills = inl (refl, refused) }

pub fills_begin : (before told : Option Told) (source : RepoState) (block most : ℕ) (time : Option (List ℕ)) (keys : Keys) (accepted : ManifestText) (named :
    ArchiveRef)
    (fault : CarryFault) → archive_named named.name source.manifest.archives ≡ Some named → RefusesBegin told source named.id fault
    → FillsFlight before (origin told source block most time) keys accepted named.name fault []
fills_begin before told source block most time keys accepted named (Source f) named_is refused = λ of_files.
    always (FillsName (origin told source block most time) keys accepted [] named.name f []) before
    (by (archive_named named.name accepted.archives) refl of_files) where
      by : (o : Option ArchiveRef) → archive_named named.name accepted.archives ≡ o → IsOfFiles f
          → FillsName (origin told source block most time) keys accepted [] named.name f []
      by None e of_files = inr (tells_named accepted named.name e, record_refused told source block most time keys named f named_is (refused of_files))
      by (Some entry) e of_files = inl (inl (subst IsSome (sym e) refl), refl)
fills_begin before told source block most time keys accepted named (Target refusal) named_is refused = tt
fills_begin before told source block most time keys accepted named (Taken name) named_is refused = tt
fills_begin before told source block most time keys accepted named (NotFound name) named_is refused = tt
fills_begin before told source block most time keys accepted named Pieces named_is refused = tt
fills_begin before told source block most time keys accepted named Memory named_is refused = tt
fills_begin before told source block most time keys accepted named Record named_is refused = tt

-- in the words of a store and a source before
pub fills_before : (from other : Origin) (keys others : Keys) (accepted manifest : ManifestText) (name called : List ℕ) (added given : List Addition)
    (fault : CarryFault) (E : History → History → Type 0) (a b : Option Told) → Between a b E → other ≡ from → others ≡ keys → manifest ≡ accepted
    → called ≡ name → given ≡ added → FillsFlight b other others manifest called fault given → FillsFlight a from keys accepted name fault added
fills_before from other keys others accepted manifest name called added given fault E a b between is same accepts names all filled =
    let there = heard_back a b fault (λ refusal. FillsName other others manifest [] called refusal given) E between filled in
    subst (λ (l : List Addition). FillsFlight a from keys accepted name fault l) all
    (subst (λ (n : List ℕ). FillsFlight a from keys accepted n fault given) names
    (subst (λ (m : ManifestText). FillsFlight a from keys m called fault given) accepts
    (subst (λ (k : Keys). FillsFlight a from k manifest called fault given) same
    (subst (λ (f : Origin). FillsFlight a f others manifest called fault given) is there))))

-- the same of a body that was refused
pub filled_before : {T : Type 0} (from other : Origin) (keys others : Keys) (accepted manifest : ManifestText) (name called : List ℕ) (added given : List
    Addition)
    (result : Result T CarryFault) (E : History → History → Type 0) (a b : Option Told) → Between a b E → other ≡ from → others ≡ keys
    → manifest ≡ accepted → called ≡ name → given ≡ added → IfErr result (λ fault. FillsFlight b other others manifest called fault given)
    → IfErr result (λ fault. FillsFlight a from keys accepted name fault added)
filled_before {T} from other keys others accepted manifest name called added given (Ok x) E a b between is same accepts names all filled = tt
filled_before {T} from other keys others accepted manifest name called added given (Err fault) E a b between is same accepts names all filled =
    fills_before from other keys others accepted manifest name called added given fault E a b between is same accepts names all filled

-- and of one of which no fault is the source's
pub filled_apart : {T : Type 0} (before : Option Told) (from : Origin) (keys : Keys) (accepted : ManifestText) (name : List ℕ) (begun : List Addition)
    (result : Result T CarryFault) → IfErr result (λ fault. IsOfSource fault → ⊥)
    → IfErr result (λ fault. FillsFlight before from keys accepted name fault begun)
filled_apart {T} before from keys accepted name begun (Ok x) apart = tt
filled_apart {T} before from keys accepted name begun (Err fault) apart =
    heard_apart before fault (λ refusal. FillsName from keys accepted [] name refusal begun) apart

-- what a flight has added
pub fits_begins : (told : Option Told) (source : RepoState) (cached : Contents) (heard : Option Told) (store : Store) (met : Seen) (flight : Flight)
    (fits : FlightFits told source heard store met flight) → IfSome told (λ t. FitsRepo (told_files t) source cached) → AcceptsMore store
    → BeginsDone heard (flown_from told source flight) (repo_view store.repo).keys (accepted_in store) flight.named.name fits.added
fits_begins told source cached heard store met flight fits log_fits accepts = by flight.work fits.work where
  from : Origin
  from = flown_from told source flight

  none : fits.added ≡ [] → BeginsDone heard from (repo_view store.repo).keys (accepted_in store) flight.named.name fits.added
  none is = subst (BeginsDone heard from (repo_view store.repo).keys (accepted_in store) flight.named.name) (sym is)
      (begins_none heard from (repo_view store.repo).keys (accepted_in store) flight.named.name)

  by : (work : Work) → WorkFits (seen told source) heard store met flight.named flight.options fits.added work
      → BeginsDone heard from (repo_view store.repo).keys (accepted_in store) flight.named.name fits.added
  by Waiting is = none is
  by (Copying copy) p =
      begins_new heard from (repo_view store.repo).keys (accepted_in store) flight.named.name fits.added p.unnamed
      (subst (λ (l : List Addition). IfSome heard (λ _. BeginsOne from (repo_view store.repo).keys flight.named.name l)) (append-nil fits.added)
      (copied_begun told heard source cached flight.options.block flight.options.checkpoint flight.options.timestamp flight.named store copy fits.added []
      p.ready
      log_fits
      fits.stands.named (inl refl) p.copied))
  by (Comparing comparison) p = none p.1
