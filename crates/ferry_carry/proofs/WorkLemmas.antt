-- Bodies that name archives, one after another: what holds at each moment of both, and at their end.
use Rattle.std.proofs.Common.{◌≡◌, ℕ, false, List, [], ◌++◌, Option, Result, Ok, Err}
use Rattle.ferry_disk.specs.Device.{Told}
use Rattle.ferry_piece.specs.Fault.{target_failed}
use Rattle.ferry_piece.proofs.GatherLemmas.{standing_wider}
use Rattle.ferry_carry.proofs.GrowsLemmas.{Follows, growing_follows, growing_here, growing_then}
use Rattle.ferry_carry.proofs.GrowLemmas.{growing_by, growing_longer, growing_wider, growing_within}
use Rattle.ferry_carry.proofs.GrowsLemmas.{grows_follows, grows_from, grows_here, grows_then, grows_within}
use Rattle.ferry_piece.specs.Adding.{AddsOn}
use Rattle.ferry_carry.specs.Carrying.{Origin}
use Rattle.ferry_carry.specs.Grow.{AcceptsMore, Grows, KeepsGrowing}
use Rattle.ferry_store.specs.Commit.{accepted_in}
use Rattle.ferry_piece.specs.Gather.{Gathers, GathersAt, KeepsRest, KeepsStanding, KeepsStandingAt}
use Rattle.ferry_piece.specs.Puts.{Addition, AtBegin, IsFront, border_behind}
use Rattle.ferry_piece.specs.Work.{Works}
use Rattle.ferry_store.specs.declared.store.Store.{Store}
use Rattle.ferry_piece.specs.declared.fault.CarryFault.{CarryFault}
use Rattle.ferry_piece.proofs.WorkLemmas.{works_then, works_as, works_front, works_nothing, works_none}

-- one body behind another, each of which carried archives
pub carried_by_then : {T U : Type 0} (earlier : List Addition) (from : Origin) (some each : List (List ℕ)) (more : U → List (List ℕ))
    (added others : List Addition) (store middle now : Store) (a b c : Option Told) (n m k : ℕ) (x : T) (result : Result U CarryFault)
    → Works (KeepsGrowing earlier from (some ++ each) store added) (λ (_ : T). Grows earlier from some added store middle) a b n m (Ok x)
    → Works (KeepsGrowing (earlier ++ added) from each middle others) (λ (y : U). Grows (earlier ++ added) from (more y) others middle now) b c m k
    result
    → Works (KeepsGrowing earlier from (some ++ each) store (added ++ others)) (λ (y : U). Grows earlier from (some ++ more y) (added ++ others) store now)
    a c n k result
carried_by_then {T} {U} earlier from some each more added others store middle now a b c n m k x result p q =
    works_then (KeepsGrowing earlier from (some ++ each) store added) (λ (_ : T). Grows earlier from some added store middle)
    (KeepsGrowing (earlier ++ added) from each middle others) (λ (y : U). Grows (earlier ++ added) from (more y) others middle now)
    (KeepsGrowing earlier from (some ++ each) store (added ++ others))
    (λ (y : U). Grows earlier from (some ++ more y) (added ++ others) store now) a b c n m k x result
    (λ h g i e d f r. growing_then earlier from some each added others store middle h g i e d f r)
    (λ y h g i e f. grows_then earlier from some (more y) added others store middle now h g i e f) p q

pub carried_then : {T U : Type 0} (earlier : List Addition) (from : Origin) (some more : List (List ℕ)) (added others : List Addition)
    (store middle now : Store) (a b c : Option Told) (n m k : ℕ) (x : T) (result : Result U CarryFault)
    → Works (KeepsGrowing earlier from (some ++ more) store added) (λ (_ : T). Grows earlier from some added store middle) a b n m (Ok x)
    → Works (KeepsGrowing (earlier ++ added) from more middle others) (λ (_ : U). Grows (earlier ++ added) from more others middle now) b c m k
    result
    → Works (KeepsGrowing earlier from (some ++ more) store (added ++ others)) (λ (_ : U). Grows earlier from (some ++ more) (added ++ others) store now)
    a c n k result
carried_then {T} {U} earlier from some more added others store middle now a b c n m k x result p q =
    carried_by_then {T = T} {U = U} earlier from some more (λ _. more) added others store middle now a b c n m k x result p q

pub carried_none : {T : Type 0} (earlier : List Addition) (from : Origin) (chosen : List (List ℕ)) (store : Store) (a : Option Told) (n : ℕ) (x : T)
    → AcceptsMore store → Works (KeepsGrowing earlier from chosen store []) (λ (_ : T). Grows earlier from [] [] store store) a a n n (Ok x)
carried_none {T} earlier from chosen store a n x accepts =
    works_none (KeepsGrowing earlier from chosen store []) (λ (_ : T). Grows earlier from [] [] store store) a n x
    (λ h. growing_here earlier from chosen store [] h accepts) (λ h. grows_here earlier from store h)

pub carried_nothing : {T : Type 0} (earlier : List Addition) (from : Origin) (chosen others : List (List ℕ)) (added : List Addition) (store now : Store)
    (a : Option Told) (n : ℕ) (fault : CarryFault) → AcceptsMore store → target_failed fault ≡ false
    → Works (KeepsGrowing earlier from chosen store added) (λ (_ : T). Grows earlier from others added store now) a a n n (Err fault)
carried_nothing {T} earlier from chosen others added store now a n fault accepts still =
    works_nothing (KeepsGrowing earlier from chosen store added) (λ (_ : T). Grows earlier from others added store now) a n fault still
    (λ h. growing_here earlier from chosen store added h accepts)

pub carried_as : {T U : Type 0} (earlier : List Addition) (from : Origin) (chosen each : List (List ℕ)) (added : List Addition) (store now : Store)
    (a b : Option Told) (n m : ℕ) (x : T) (y : U)
    → Works (KeepsGrowing earlier from each store added) (λ (_ : T). Grows earlier from chosen added store now) a b n m (Ok x)
    → Works (KeepsGrowing earlier from each store added) (λ (_ : U). Grows earlier from chosen added store now) a b n m (Ok y)
carried_as {T} {U} earlier from chosen each added store now a b n m x y p =
    works_as (KeepsGrowing earlier from each store added) (λ (_ : T). Grows earlier from chosen added store now) (KeepsGrowing earlier from each store added)
    (λ (_ : U). Grows earlier from chosen added store now) a b n m x y (λ h g e. e) (λ h g e. e) p

pub carried_err : {T U : Type 0} (earlier : List Addition) (from : Origin) (each some others : List (List ℕ)) (added more : List Addition)
    (store now other : Store) (a b : Option Told) (n m : ℕ) (fault : CarryFault)
    → IsFront added more → Works (KeepsGrowing earlier from each store added) (λ (_ : T). Grows earlier from some added store now) a b n m (Err fault)
    → Works (KeepsGrowing earlier from each store more) (λ (_ : U). Grows earlier from others more store other) a b n m (Err fault)
carried_err {T} {U} earlier from each some others added more store now other a b n m fault front p =
    works_front (KeepsGrowing earlier from each store added) (λ (_ : T). Grows earlier from some added store now) (KeepsGrowing earlier from each store more)
    (λ (_ : U). Grows earlier from others more store other) a b n m fault (λ h g e. growing_longer earlier from each store added more h g front e) p

-- of more chosen names
pub carried_wider : {T : Type 0} (earlier : List Addition) (from : Origin) (each more chosen : List (List ℕ)) (added : List Addition) (store now : Store)
    (a b : Option Told) (n m : ℕ) (result : Result T CarryFault)
    → Works (KeepsGrowing earlier from each store added) (λ (_ : T). Grows earlier from chosen added store now) a b n m result
    → Works (KeepsGrowing earlier from (each ++ more) store added) (λ (_ : T). Grows earlier from chosen added store now) a b n m result
carried_wider {T} earlier from each more chosen added store now a b n m (Ok x) p =
    works_as (KeepsGrowing earlier from each store added) (λ (_ : T). Grows earlier from chosen added store now)
    (KeepsGrowing earlier from (each ++ more) store added) (λ (_ : T). Grows earlier from chosen added store now) a b n m x x
    (λ h g e. growing_wider earlier from each more store added h g e) (λ h g e. e) p
carried_wider {T} earlier from each more chosen added store now a b n m (Err fault) p =
    works_front (KeepsGrowing earlier from each store added) (λ (_ : T). Grows earlier from chosen added store now)
    (KeepsGrowing earlier from (each ++ more) store added) (λ (_ : T). Grows earlier from chosen added store now) a b n m fault
    (λ h g e. growing_wider earlier from each more store added h g e) p

-- contents that were added
pub carried_from : {T U : Type 0} (earlier : List Addition) (from : Origin) (chosen : List (List ℕ)) (store now : Store) (added : List Addition)
    (a b : Option Told) (n m : ℕ) (x : T) (y : U) → AcceptsMore store → KeepsRest store now
    → AddsOn from.most store added now a b n m (Ok x)
    → Works (KeepsGrowing earlier from chosen store added) (λ (_ : U). Grows earlier from [] added store now) a b n m (Ok y)
carried_from {T} {U} earlier from chosen store now added a b n m x y accepts rest p =
    works_as (KeepsStanding from.most store added) (λ (_ : T). Gathers from.most store added now) (KeepsGrowing earlier from chosen store added)
    (λ (_ : U). Grows earlier from [] added store now) a b n m x y
    (λ h g e. growing_within earlier from chosen store added h g accepts e) (λ h g e. grows_within earlier from store now added h g rest e) p.works

pub carried_from_err : {T U : Type 0} (earlier : List Addition) (from : Origin) (chosen others : List (List ℕ)) (store now other : Store)
    (added more : List Addition) (a b : Option Told) (n m : ℕ) (fault : CarryFault) → AcceptsMore store → IsFront added more
    → AddsOn {T = T} from.most store added now a b n m (Err fault)
    → Works (KeepsGrowing earlier from chosen store more) (λ (_ : U). Grows earlier from others more store other) a b n m (Err fault)
carried_from_err {T} {U} earlier from chosen others store now other added more a b n m fault accepts front p =
    works_front (KeepsStanding from.most store added) (λ (_ : T). Gathers from.most store added now) (KeepsGrowing earlier from chosen store more)
    (λ (_ : U). Grows earlier from others more store other) a b n m fault
    (λ h g e. growing_within earlier from chosen store more h g accepts (standing_wider from.most store added more h g front e)) p.works

-- the same at a border
pub carried_gathered : {T U : Type 0} (earlier : List Addition) (from : Origin) (chosen : List (List ℕ)) (store now : Store) (added : List Addition)
    (a b : Option Told) (n m : ℕ) (x : T) (y : U) → AcceptsMore store → KeepsRest store now
    → Works (KeepsStandingAt (border_behind AtBegin earlier) from.most store added)
    (λ (_ : T). GathersAt (border_behind AtBegin earlier) from.most store added now) a b n m (Ok x)
    → Works (KeepsGrowing earlier from chosen store added) (λ (_ : U). Grows earlier from [] added store now) a b n m (Ok y)
carried_gathered {T} {U} earlier from chosen store now added a b n m x y accepts rest p =
    let at = border_behind AtBegin earlier in
    works_as (KeepsStandingAt at from.most store added) (λ (_ : T). GathersAt at from.most store added now) (KeepsGrowing earlier from chosen store added)
    (λ (_ : U). Grows earlier from [] added store now) a b n m x y
    (λ h g e. growing_by earlier from chosen (accepted_in store) store added h g accepts e) (λ h g e. grows_from earlier from store now added h g rest e) p

pub carried_gathered_err : {T U : Type 0} (earlier : List Addition) (from : Origin) (chosen others : List (List ℕ)) (store now other : Store)
    (added : List Addition) (a b : Option Told) (n m : ℕ) (fault : CarryFault) → AcceptsMore store
    → Works (KeepsStandingAt (border_behind AtBegin earlier) from.most store added)
    (λ (_ : T). GathersAt (border_behind AtBegin earlier) from.most store added now) a b n m (Err fault)
    → Works (KeepsGrowing earlier from chosen store added) (λ (_ : U). Grows earlier from others added store other) a b n m (Err fault)
carried_gathered_err {T} {U} earlier from chosen others store now other added a b n m fault accepts p =
    let at = border_behind AtBegin earlier in
    works_front (KeepsStandingAt at from.most store added) (λ (_ : T). GathersAt at from.most store added now) (KeepsGrowing earlier from chosen store added)
    (λ (_ : U). Grows earlier from others added store other) a b n m fault
    (λ h g e. growing_by earlier from chosen (accepted_in store) store added h g accepts e) p

-- behind what was added, where nothing is pending then
pub carried_follows : {T : Type 0} (earlier : List Addition) (from : Origin) (each : List (List ℕ)) (more : T → List (List ℕ)) (added : List Addition)
    (store now : Store) (a b : Option Told) (n m : ℕ) (result : Result T CarryFault) → Follows earlier store
    → Works (KeepsGrowing [] from each store added) (λ (x : T). Grows [] from (more x) added store now) a b n m result
    → Works (KeepsGrowing earlier from each store added) (λ (x : T). Grows earlier from (more x) added store now) a b n m result
carried_follows {T} earlier from each more added store now a b n m (Ok x) follows p =
    works_as (KeepsGrowing [] from each store added) (λ (y : T). Grows [] from (more y) added store now) (KeepsGrowing earlier from each store added)
    (λ (y : T). Grows earlier from (more y) added store now) a b n m x x (λ h g e. growing_follows earlier from each store added h g follows e)
    (λ h g e. grows_follows earlier from (more x) added store now h g follows e) p
carried_follows {T} earlier from each more added store now a b n m (Err fault) follows p =
    works_front (KeepsGrowing [] from each store added) (λ (y : T). Grows [] from (more y) added store now) (KeepsGrowing earlier from each store added)
    (λ (y : T). Grows earlier from (more y) added store now) a b n m fault (λ h g e. growing_follows earlier from each store added h g follows e) p
