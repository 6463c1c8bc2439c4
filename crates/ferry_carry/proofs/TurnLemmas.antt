-- Lemmas on specs/Turns.antt: what is said of a turn, from its parts and back.
use Rattle.std.proofs.Common.{◌≡◌, ◌≤◌, ◌∙◌, ℕ, false, List, [], Option, Result, Ok, Err, IfErr, IfSome, OnOk, ap, arith, subst, sym}
use Rattle.std.proofs.lemmas.Result.{IfErr-weaker, on_ok_weaker}
use Rattle.ferry_compare.specs.Compare.{Seen}
use Rattle.ferry_carry.proofs.FlightLemmas.{rest_accepts, rest_packable}
use Rattle.ferry_carry.proofs.GrowsLemmas.{most_from, most_then}
use Rattle.ferry_carry.specs.Calls.{FitsDepot}
use Rattle.ferry_carry.specs.Carrying.{Origin}
use Rattle.ferry_carry.specs.Flight.{IsCommitted}
use Rattle.ferry_carry.specs.Grow.{AcceptsMore}
use Rattle.ferry_carry.specs.Refusals.{EndsAt, IsChunk, IsLimited, Leaves, RefusesMet, RefusesName, StopsAtChunk, WhereTold, is_of_telling}
use Rattle.ferry_carry.specs.Accepting.{HasLargeNext, LimitsNames}
use Rattle.ferry_carry.specs.Telling.{StopsBehind, StopsUnnamed, TellsNames}
use Rattle.ferry_piece.specs.Fault.{IsOfWork}
use Rattle.ferry_piece.specs.declared.fault.CarryFault.TheVariants.{Target}
use Rattle.ferry_disk.specs.Moments.{Between}
use Rattle.ferry_stops.specs.Tells.{TellsNothing}
use Rattle.ferry_store.specs.declared.fault.StoreRefusal.TheVariants.{TooLarge}
use Rattle.ferry_carry.specs.Turns.{FliesOn, StopsEnding, StopsFlight, StopsName, StopsNames, StopsTurn}
use Rattle.ferry_disk.specs.Device.{Told}
use Rattle.ferry_manifest.specs.Manifest.Text.{ManifestText}
use Rattle.ferry_manifest.specs.Manifest.Writing.{IsPackable}
use Rattle.ferry_manifest.specs.declared.manifest.ArchiveRef.{ArchiveRef}
use Rattle.ferry_piece.specs.Gather.{KeepsRest}
use Rattle.ferry_piece.specs.Stops.{StopsTarget}
use Rattle.ferry_piece.specs.declared.fault.CarryFault.{CarryFault}
use Rattle.ferry_repo.specs.Archives.{archive_named}
use Rattle.ferry_repo.specs.Opening.{RepoState, repo_view}
use Rattle.ferry_store.specs.Commit.{accepted_in}
use Rattle.ferry_store.specs.Store.{IsUnspent}
use Rattle.ferry_store.specs.declared.store.Store.{Store}

-- a refusal of a turn, from what it says
pub stops_turn : {T : Type 0} (from : Origin) (before : Option Told) (store : Store) (now : Option Told) (store_now : Store) (met : Seen) (named : ArchiveRef)
    (result : Result T CarryFault) → IfErr result (RefusesMet from before store now store_now met named.name)
    → IfErr result (IsLimited now from.time from.repo store named) → IfErr result (Leaves from.most store now store_now)
    → IfErr result (StopsTurn from before store now store_now met named)
stops_turn {T} from before store now store_now met named (Ok x) refused limit left = tt
stops_turn {T} from before store now store_now met named (Err fault) refused limit left = record { refused = refused; limit = limit; left = left }

-- and back
pub turn_refused : {T : Type 0} (from : Origin) (before : Option Told) (store : Store) (now : Option Told) (store_now : Store) (met : Seen) (named : ArchiveRef)
    (result : Result T CarryFault) → IfErr result (StopsTurn from before store now store_now met named)
    → IfErr result (RefusesMet from before store now store_now met named.name)
turn_refused {T} from before store now store_now met named result stops = IfErr-weaker result (StopsTurn from before store now store_now met named)
    (RefusesMet from before store now store_now met named.name) (λ fault s. s.refused) stops

pub turn_limit : {T : Type 0} (from : Origin) (before : Option Told) (store : Store) (now : Option Told) (store_now : Store) (met : Seen) (named : ArchiveRef)
    (result : Result T CarryFault) → IfErr result (StopsTurn from before store now store_now met named)
    → IfErr result (IsLimited now from.time from.repo store named)
turn_limit {T} from before store now store_now met named result stops = IfErr-weaker result (StopsTurn from before store now store_now met named)
    (IsLimited now from.time from.repo store named) (λ fault s. s.limit) stops

pub turn_left : {T : Type 0} (from : Origin) (before : Option Told) (store : Store) (now : Option Told) (store_now : Store) (met : Seen) (named : ArchiveRef)
    (result : Result T CarryFault) → IfErr result (StopsTurn from before store now store_now met named) → IfErr result (Leaves from.most store now store_now)
turn_left {T} from before store now store_now met named result stops = IfErr-weaker result (StopsTurn from before store now store_now met named)
    (Leaves from.most store now store_now) (λ fault s. s.left) stops

-- and the refusal of an archive's end
pub stops_ending : {T : Type 0} (most : ℕ) (source : RepoState) (given : Option (List ℕ)) (store : Store) (now : Option Told) (store_now : Store)
    (named : ArchiveRef) (result : Result T CarryFault) → IfErr result (StopsTarget now (repo_view store.repo).keys)
    → IfErr result (Leaves most store now store_now) → IfErr result (IsLimited now given source store named)
    → IfErr result (StopsEnding most source given store now store_now named)
stops_ending {T} most source given store now store_now named (Ok x) stops left limit = tt
stops_ending {T} most source given store now store_now named (Err fault) stops left limit = record { stops = stops; left = left; limit = limit }

-- and that of a flight
pub stops_flight : {T : Type 0} (from : Origin) (before : Option Told) (store : Store) (now : Option Told) (store_now : Store) (name : List ℕ)
    (result : Result T CarryFault) → IfErr result (RefusesName from before store now store_now name)
    → IfErr result (λ fault. fault ≡ Target TooLarge
    → IfSome now (λ _. HasLargeNext from.time from.repo.manifest (repo_view store.repo).keys (accepted_in store) name))
    → IfErr result (StopsFlight from before store now store_now name)
stops_flight {T} from before store now store_now name (Ok x) refused limit = tt
stops_flight {T} from before store now store_now name (Err fault) refused limit = record { refused = refused; limit = limit }

pub stops_name : {T : Type 0} (from : Origin) (name : List ℕ) (store : Store) (before now : Option Told) (drawn drawn_now : Option (List ℕ))
    (result : Result T CarryFault) → IfErr result (λ fault. is_of_telling fault ≡ false → Between before now TellsNothing)
    → IfErr result (λ fault. fault ≡ Target TooLarge
    → IfSome now (λ _. HasLargeNext from.time from.repo.manifest (repo_view store.repo).keys (accepted_in store) name))
    → IfErr result (λ fault. (id : List ℕ) → IsChunk id fault
    → WhereTold from before (λ _. EndsAt from (repo_view store.repo).keys (accepted_in store) [] name drawn drawn_now id))
    → IfErr result (λ fault. IsOfWork fault → StopsUnnamed from name store before now)
    → IfErr result (StopsName from name store before now drawn drawn_now)
stops_name {T} from name store before now drawn drawn_now (Ok x) untold limit chunk stands = tt
stops_name {T} from name store before now drawn drawn_now (Err fault) untold limit chunk stands =
    record { untold = untold; limit = limit; chunk = chunk; stands = stands }

pub stops_names : {T : Type 0} (from : Origin) (names : List (List ℕ)) (store : Store) (before now : Option Told) (drawn drawn_now : Option (List ℕ))
    (result : Result T CarryFault) → IfErr result (λ fault. fault ≡ Target TooLarge → IfSome before (λ b. IfSome now (λ t.
    LimitsNames from.time from.repo.manifest (repo_view store.repo).keys (accepted_in store) names
    (λ done. TellsNames (accepted_in store) done b.history t.history))))
    → IfErr result (λ fault. (id : List ℕ) → IsChunk id fault → IfSome before (λ b. IfSome now (λ t. IfSome from.files (λ _.
    StopsAtChunk from (repo_view store.repo).keys (accepted_in store) names (λ done. TellsNames (accepted_in store) done b.history t.history) drawn drawn_now
    id))))
    → IfErr result (λ fault. IsOfWork fault → StopsBehind from names store before now)
    → IfErr result (StopsNames from names store before now drawn drawn_now)
stops_names {T} from names store before now drawn drawn_now (Ok x) limit chunk stands = tt
stops_names {T} from names store before now drawn drawn_now (Err fault) limit chunk stands = record { limit = limit; chunk = chunk; stands = stands }

-- ---- what is left of the store

-- by a turn behind one that only read
pub flies_read : {T : Type 0} (most : ℕ) (name : List ℕ) (store middle : Store) (told : Option Told) (now : Store) (result : Result T CarryFault)
    → KeepsRest store middle → OnOk result (FliesOn most name middle told now) → OnOk result (FliesOn most name store told now)
flies_read {T} most name store middle told now result rest flies = on_ok_weaker {P = FliesOn most name middle told now} {Q = FliesOn most name store told now}
    result (λ f. record {
      pending = f.pending;
      unspent = f.unspent;
      fits = f.fits;
      packable = f.packable;
      accepts = f.accepts;
      committed = f.committed;
      most_kept = most_then store middle now (most_from store middle rest) f.most_kept;
      settled = λ same. f.settled (rest.accepted ∙ (same ∙ sym rest.manifest));
    }) flies

-- by a commit of what was pending
pub flies_present : {T : Type 0} (most : ℕ) (name : List ℕ) (store middle : Store) (told : Option Told) (now : Store) (result : Result T CarryFault)
    → KeepsRest store middle → IsPackable (accepted_in store) → AcceptsMore store → IsCommitted store name → OnOk result (KeepsRest middle now)
    → OnOk result (FitsDepot told now) → OnOk result (IsUnspent now) → OnOk result (now.pending ≡ 0) → OnOk result (FliesOn most name store told now)
flies_present {T} most name store middle told now (Err fault) first packable accepts committed rest fits unspent pending = tt
flies_present {T} most name store middle told now (Ok x) first packable accepts committed rest fits unspent pending =
    let accepted : accepted_in now ≡ accepted_in store = rest.accepted ∙ first.accepted in
    let manifest : (repo_view now.repo).manifest ≡ (repo_view store.repo).manifest = rest.manifest ∙ first.manifest in
    record {
      pending = subst (λ (n : ℕ). n ≤ most) (sym pending) (omega arith);
      unspent = unspent;
      fits = fits;
      packable = rest_packable middle now rest (rest_packable store middle first packable);
      accepts = rest_accepts middle now rest (rest_accepts store middle first accepts);
      committed = λ entry is.
          ap (λ (m : ManifestText). archive_named name m.archives) manifest
          ∙ committed entry (sym (ap (λ (m : ManifestText). archive_named name m.archives) accepted) ∙ is);
      most_kept = most_then store middle now (most_from store middle first) (most_from middle now rest);
      settled = λ same. accepted ∙ (same ∙ sym manifest);
    }
