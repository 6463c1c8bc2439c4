-- Where a body is refused: what it did names nothing, and of the archives of names those came that were told.
use Rattle.std.proofs.Common.{◌≡◌, ◌≢◌, ℕ, true, false, List, [], ◌∷◌, ◌++◌, Option, Ok, refl, sym, ◌∙◌, ap, subst}
use Rattle.std.proofs.lemmas.List.{append-nil, append_assoc}
use Rattle.ferry_disk.proofs.MomentLemmas.{between_both, between_map, between_then}
use Rattle.ferry_disk.specs.Device.{Told}
use Rattle.ferry_disk.specs.Moments.{Between}
use Rattle.ferry_repo.specs.Opening.{repo_view}
use Rattle.ferry_stops.specs.Tells.{TellsNothing}
use Rattle.ferry_store.proofs.StepLemmas.{here_each}
use Rattle.ferry_store.specs.Commit.{accepted_in, IsSettled}
use Rattle.ferry_store.specs.Fault.{depot_failed}
use Rattle.ferry_store.specs.State.{KeepsSound}
use Rattle.ferry_store.specs.declared.fault.StoreRefusal.{StoreRefusal}
use Rattle.ferry_store.specs.declared.fault.StoreRefusal.TheVariants as Stores
use Rattle.ferry_store.specs.declared.store.Store.{Store}
use Rattle.ferry_write.specs.Script.{AllDone}
use Rattle.ferry_write.specs.declared.fault.WriteFault.TheVariants as Writes
use Rattle.ferry_piece.proofs.FaultLemmas.{failed_target}
use Rattle.ferry_piece.proofs.FrontLemmas.{manifest_way}
use Rattle.ferry_piece.proofs.GatherLemmas.{each_behind, keeps_at}
use Rattle.ferry_piece.proofs.AddedLemmas.{stands_with}
use Rattle.ferry_store.specs.Writing.{WritesManifest}
use Rattle.ferry_carry.proofs.GrowsLemmas.{Follows, growing_here, growing_then}
use Rattle.ferry_carry.proofs.GrowLemmas.{growing_by}
use Rattle.ferry_carry.proofs.GrowNamedLemmas.{standing_accepted}
use Rattle.ferry_carry.proofs.MomentLemmas.{names_here, reported_growing, reported_here, reported_then}
use Rattle.ferry_carry.proofs.NamesLemmas.{all_nothing, all_then, all_wider}
use Rattle.ferry_carry.proofs.NextLemmas.{next_of}
use Rattle.ferry_carry.proofs.ThereLemmas.{extends_next}
use Rattle.ferry_carry.specs.Carrying.{Origin}
use Rattle.ferry_piece.specs.Fault.{IsOfWork, target_fault}
use Rattle.ferry_piece.specs.Gather.{Gathers, KeepsStanding, KeepsStandingAt}
use Rattle.ferry_carry.specs.Grow.{AcceptsMore, Grows, KeepsGrowing}
use Rattle.ferry_piece.specs.Puts.{Addition, AtBegin, AtEnd, Border, Within, border_behind}
use Rattle.ferry_carry.specs.Naming.{record_ids}
use Rattle.ferry_carry.specs.Refusals.{is_of_telling}
use Rattle.ferry_carry.specs.Telling.{BeginsAll, CarriesNames, KeepsReported, Reports, StopsBehind, StopsUnnamed, TellsNames}
use Rattle.ferry_piece.specs.Work.{Works}
use Rattle.ferry_piece.specs.declared.fault.CarryFault.{CarryFault}
use Rattle.ferry_piece.specs.declared.fault.CarryFault.TheVariants as Carry
use Rattle.ferry_carry.specs.declared.options.Carried.{Carried}
use Rattle.ferry_carry.specs.States.{target_state, drawn_from}

-- ---- refusals

-- Where a refusal is of what was asked for, or a limit, nothing is added and nothing is named, whatever may be pending.
abbrev pub StandsAll : Store → Option Told → Option Told → CarryFault → Type 0
StandsAll store before now fault = IsOfWork fault → (most : ℕ) → Between before now (KeepsStandingAt AtEnd most store [])

-- want of memory is no such refusal
pub memory_apart : {X : Type 0} → IsOfWork Carry.Memory → X
memory_apart {X} work = absurd (work.memory refl)

-- and neither is a line that isn't told
pub telling_apart : {X : Type 0} (fault : CarryFault) → is_of_telling fault ≡ true → IsOfWork fault → X
telling_apart {X} (Carry.Source fault) telling work = absurd (let never : ⊥ = cc in never)
telling_apart {X} (Carry.Target (Stores.Repo fault)) telling work = absurd (let never : ⊥ = cc in never)
telling_apart {X} (Carry.Target (Stores.Write Writes.Device)) telling work =
    let failed : true ≡ false = work.target in absurd (let never : ⊥ = cc in never)
telling_apart {X} (Carry.Target (Stores.Write Writes.Memory)) telling work = absurd (let never : ⊥ = cc in never)
telling_apart {X} (Carry.Target (Stores.Write Writes.Numbers)) telling work = absurd (let never : ⊥ = cc in never)
telling_apart {X} (Carry.Target (Stores.Nonce fault)) telling work = absurd (let never : ⊥ = cc in never)
telling_apart {X} (Carry.Target Stores.Committed) telling work = absurd (let never : ⊥ = cc in never)
telling_apart {X} (Carry.Target Stores.TooLarge) telling work = absurd (let never : ⊥ = cc in never)
telling_apart {X} (Carry.Target Stores.Entropy) telling work = absurd (let never : ⊥ = cc in never)
telling_apart {X} (Carry.Target Stores.Memory) telling work = absurd (let never : ⊥ = cc in never)
telling_apart {X} (Carry.Taken name) telling work = absurd (let never : ⊥ = cc in never)
telling_apart {X} (Carry.NotFound name) telling work = absurd (let never : ⊥ = cc in never)
telling_apart {X} Carry.Pieces telling work = absurd (let never : ⊥ = cc in never)
telling_apart {X} Carry.Memory telling work = memory_apart {X = X} work
telling_apart {X} Carry.Record telling work = absurd (let never : ⊥ = cc in never)

-- ---- a commit that is refused

pub commit_stands : (store : Store) (a b : Option Told) (refusal : StoreRefusal) → Between a b TellsNothing
    → (depot_failed refusal ≡ false → refusal ≢ Stores.Memory → Between a b (KeepsSound store.session store.counter))
    → (blob : List ℕ) → Between a b (WritesManifest blob store.session store.counter) → StandsAll store a b (target_fault refusal)
commit_stands store a b refusal untold keeps blob writes work most =
    let sound = keeps (sym (failed_target refusal) ∙ work.target) (λ is. work.memory (ap target_fault is)) in
    let Sound = KeepsSound store.session store.counter in
    let Written = WritesManifest blob store.session store.counter in
    between_map a b (λ h g. TellsNothing h g × (Sound h g × Written h g)) (KeepsStandingAt AtEnd most store [])
    (λ h g e. stands_with AtEnd most store [] h g e.0 e.1.0 (manifest_way AtEnd most store blob h g refl e.1.1))
    (between_both a b TellsNothing (λ h g. Sound h g × Written h g) untold (between_both a b Sound Written sound writes))

-- behind an archive that was accepted
pub accepted_stands : (at : Border) (most : ℕ) (store middle : Store) (within : List Addition) (a b : Option Told)
    → middle ≡ record store { accepted = middle.accepted } → Between a b (KeepsStandingAt at most middle within)
    → Between a b (KeepsStandingAt at most store within)
accepted_stands at most store middle within a b same standing =
    between_map a b (KeepsStandingAt at most middle within) (KeepsStandingAt at most store within)
    (λ h g e. standing_accepted at most store middle within h g same e) standing

-- ---- behind contents that were added

pub stands_behind_at : {T : Type 0} (most : ℕ) (store middle : Store) (added more : List Addition) (a b c : Option Told) (n m : ℕ) (x : T)
    → (repo_view middle.repo).keys ≡ (repo_view store.repo).keys
    → Works (KeepsStanding most store added) (λ (_ : T). Gathers most store added middle) a b n m (Ok x)
    → Between b c (KeepsStandingAt (border_behind Within added) most middle more) → Between a c (KeepsStanding most store (added ++ more))
stands_behind_at {T} most store middle added more a b c n m x keys p after =
    between_then a b c (λ h g. KeepsStanding most store added h g × (AllDone h g × Gathers most store added middle h g))
    (KeepsStandingAt (border_behind Within added) most middle more)
    (KeepsStanding most store (added ++ more)) (λ h g i e f. each_behind Within most store middle added more h g i keys e.0 e.1.0 e.1.1 f)
    (between_both a b (KeepsStanding most store added) (λ h g. AllDone h g × Gathers most store added middle h g) p.each p.end) after

-- the same within an archive
pub stands_behind : {T : Type 0} (most : ℕ) (store middle : Store) (added more : List Addition) (a b c : Option Told) (n m : ℕ) (x : T)
    → (repo_view middle.repo).keys ≡ (repo_view store.repo).keys
    → Works (KeepsStanding most store added) (λ (_ : T). Gathers most store added middle) a b n m (Ok x) → Between b c (KeepsStanding most middle more)
    → Between a c (KeepsStanding most store (added ++ more))
stands_behind {T} most store middle added more a b c n m x keys p after =
    let at = border_behind Within added in
    stands_behind_at {T = T} most store middle added more a b c n m x keys p
    (between_map b c (KeepsStanding most middle more) (KeepsStandingAt at most middle more) (λ h g e. keeps_at at most middle more h g e) after)

-- ---- behind turns of a flight

pub growing_behind : (earlier : List Addition) (from : Origin) (most : ℕ) (added more : List Addition) (store middle : Store) (a b c : Option Told)
    → most ≡ from.most → AcceptsMore middle → Between a b (KeepsGrowing earlier from [] store added)
    → Between a b (λ h g. AllDone h g × Grows earlier from [] added store middle h g)
    → Between b c (KeepsStandingAt (border_behind AtBegin (earlier ++ added)) most middle more)
    → Between a c (KeepsGrowing earlier from [] store (added ++ more))
growing_behind earlier from most added more store middle a b c same accepts before end after =
    let at = border_behind AtBegin (earlier ++ added) in
    between_then a b c (λ h g. KeepsGrowing earlier from [] store added h g × (AllDone h g × Grows earlier from [] added store middle h g))
    (KeepsStandingAt at from.most middle more) (KeepsGrowing earlier from [] store (added ++ more))
    (λ h g i e f.
    growing_then earlier from [] [] added more store middle h g i e.0 e.1.0 e.1.1
    (growing_by (earlier ++ added) from [] (accepted_in middle) middle more g i accepts f))
    (between_both a b (KeepsGrowing earlier from [] store added) (λ h g. AllDone h g × Grows earlier from [] added store middle h g) before end)
    (subst (λ (l : ℕ). Between b c (KeepsStandingAt at l middle more)) same after)

-- ---- behind archives that were told

pub stops_here : (from : Origin) (names : List (List ℕ)) (store : Store) (a : Option Told) → AcceptsMore store → StopsBehind from names store a a
stops_here from names store a accepts = record {
  done = [];
  rest = names;
  split = refl;
  added = [];
  begins = all_nothing a from store names;
  each = here_each (λ h g. KeepsReported from [] store [] h g × TellsNames (accepted_in store) [] h g) a
      (λ h. (reported_here from [] store [] h accepts, names_here (accepted_in store) h));
}

pub stops_behind : (from other : Origin) (names some : List (List ℕ)) (name : List ℕ) (rest : List (List ℕ))
    (store middle : Store) (carried between : Carried) (a b c : Option Told) (n m : ℕ) (x y : Option (List ℕ)) → other ≡ from
    → names ≡ some ++ name ∷ rest → IsSettled store → AcceptsMore middle → (repo_view middle.repo).keys ≡ (repo_view store.repo).keys
    → (p : Reports from some (target_state a n store) (target_state b m middle) carried between (drawn_from x y) (Ok tt)) → Follows p.added middle
    → StopsUnnamed other name middle b c
    → StopsBehind from names store a c
stops_behind from other names some name rest store middle carried between a b c n m x y is split settled accepts keys p follows q =
    let accepted = accepted_in store in
    let added = p.added in
    let stopped = subst (λ (o : Origin). StopsUnnamed o name middle b c) is q in
    let others = stopped.added in
    record {
      done = some;
      rest = name ∷ rest;
      split = split;
      added = added ++ others;
      begins = subst (λ (l : List (List ℕ)). BeginsAll a from store l (added ++ others)) (append_assoc some (name ∷ []) rest ∙ sym split)
          (all_wider a from store (some ++ name ∷ []) rest (added ++ others)
          (all_then from store middle some (name ∷ []) p.records added others a b
          (extends_next from.time from.repo.manifest accepted (accepted_in middle) some (record_ids (repo_view store.repo).keys p.records)
          (next_of from.time from.repo.manifest (repo_view store.repo).keys accepted some p.records (accepted_in middle) p.accepts.0)) keys
          p.works.end stopped.begins));
      each = between_then a b c
          (λ h g. KeepsReported from some store added h g
          × (AllDone h g × (CarriesNames from some p.records added store middle h g × TellsNames accepted some h g)))
          (KeepsGrowing [] from [] middle others) (λ h g. KeepsReported from some store (added ++ others) h g × TellsNames accepted some h g)
          (λ h g i e f.
          let told = e.1.1.1 in (
            subst (λ (l : List (List ℕ)). KeepsReported from l store (added ++ others) h i) (append-nil some)
                (reported_then from some [] added others store middle h g i settled accepts follows e.0 e.1.0 e.1.1.0.0 told
                (reported_growing from [] middle others g i f)),
            (told.0, (f.0 ∙ told.1.0, told.1.1)),
          ))
          (between_both a b (KeepsReported from some store added)
          (λ h g. AllDone h g × (CarriesNames from some p.records added store middle h g × TellsNames accepted some h g)) p.works.each p.works.end)
          stopped.each;
    }

-- where nothing was done of an archive
pub unnamed_here : (from : Origin) (name : List ℕ) (store : Store) (a : Option Told) → AcceptsMore store → StopsUnnamed from name store a a
unnamed_here from name store a accepts = record {
  added = [];
  begins = all_nothing a from store (name ∷ []);
  each = here_each (KeepsGrowing [] from [] store []) a (λ h. growing_here [] from [] store [] h accepts);
}
