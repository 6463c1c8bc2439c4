-- Turns of a flight, one after another.
use Rattle.std.proofs.Common.{◌≡◌, ◌⊎◌, inl, inr, false, ℕ, List, [], ◌∷◌, ◌++◌}
use Rattle.std.proofs.Common.{Option, Some, None, Result, Ok, Err, IfOk, IsSome, OnOk}
use Rattle.std.proofs.Common.{refl, sym, ◌∙◌, ap, subst}
use Rattle.ferry_disk.specs.Act.{files_now}
use Rattle.ferry_disk.specs.Device.{Heard, Told, heard, heard_of}
use Rattle.ferry_mac.specs.declared.keys.Keys.{Keys}
use Rattle.ferry_repo.specs.Archives.{archive_named}
use Rattle.ferry_repo.specs.Opening.{RepoState, repo_view}
use Rattle.ferry_store.specs.declared.store.Store.{Store}
use Rattle.ferry_carry.proofs.FlightLemmas.{same_carried}
use Rattle.ferry_carry.proofs.WorkLemmas.{carried_by_then, carried_from, carried_from_err, carried_gathered_err}
use Rattle.ferry_piece.proofs.WorkLemmas.{works_as, works_front}
use Rattle.ferry_piece.proofs.PutsLemmas.{front_all}
use Rattle.ferry_piece.specs.Adding.{AddsOn, IsNoChunk}
use Rattle.ferry_carry.specs.declared.options.Options.{Options}
use Rattle.ferry_carry.specs.Carrying.{Origin, origin}
use Rattle.ferry_carry.specs.Flight.{Flies, IsSame}
use Rattle.ferry_carry.specs.Flight.{carried_by, origin_of}
use Rattle.ferry_piece.specs.Gather.{GathersAt, KeepsRest, KeepsStandingAt}
use Rattle.ferry_carry.specs.Grow.{AcceptsMore, Grows, KeepsGrowing}
use Rattle.ferry_piece.specs.Fault.{IsOfSource, target_failed}
use Rattle.ferry_piece.specs.Puts.{Addition, AtBegin, border_behind}
use Rattle.ferry_carry.specs.Refusals.{RefusesBegin, RefusesEnd}
use Rattle.ferry_piece.specs.Work.{Works}
use Rattle.ferry_piece.specs.declared.fault.CarryFault.TheVariants.{Source, Target, Taken, NotFound, Pieces, Memory, Record}
use Rattle.ferry_piece.specs.declared.fault.CarryFault.{CarryFault}
use Rattle.ferry_carry.specs.declared.flight.Turn.{Turn}
use Rattle.ferry_carry.specs.declared.flight.Turn.TheVariants.{Present}
use Rattle.ferry_piece.proofs.FewLemmas.{used_up}
use Rattle.ferry_carry.specs.States.{target_state}

-- ---- a source

-- a source that tells the same files is the same
pub origin_kept : (told later : Option Told) (source after : RepoState) (block other most others : ℕ) (time given : Option (List ℕ))
    → heard later ≡ heard told → after ≡ source → other ≡ block → others ≡ most → given ≡ time
    → origin later after other others given ≡ origin told source block most time
origin_kept told later source after block other most others time given alike kept same limit timed =
    ap (λ (r : RepoState). origin later r other others given) kept
    ∙ (ap (λ (b : ℕ). origin later source b others given) same ∙ (ap (λ (l : ℕ). origin later source block l given) limit
    ∙ (ap (λ (t : Option (List ℕ)). origin later source block most t) timed ∙ by told later alike))) where
      by : (told later : Option Told) → heard later ≡ heard told → origin later source block most time ≡ origin told source block most time
      by None None alike = refl
      by None (Some now) alike = absurd (let no : ⊥ = cc in no)
      by (Some before) None alike = absurd (let no : ⊥ = cc in no)
      by (Some before) (Some now) alike =
          let e : heard_of now ≡ heard_of before = cc in
          ap (λ (h : Heard). record { files = Some (files_now h.history); repo = source; block = block; most = most; time = time }) e

-- the same of one of which archives are copied with the same options
pub origin_same : (told later : Option Told) (source after : RepoState) (options other : Options) → heard later ≡ heard told → after ≡ source
    → other ≡ options → origin_of later after other ≡ origin_of told source options
origin_same told later source after options other alike kept same =
    ap (origin_of later after) same
    ∙ origin_kept told later source after options.block options.block options.checkpoint options.checkpoint options.timestamp options.timestamp alike kept
    refl refl refl

-- ---- turns

-- a turn behind others
pub flown_then : (earlier : List Addition) (from other : Origin) (name given : List ℕ) (added more : List Addition) (store middle now : Store)
    (a b c : Option Told) (n m k : ℕ) (result : Result Turn CarryFault) → other ≡ from → given ≡ name
    → Works {T = Unit {0}} (KeepsGrowing earlier from (name ∷ []) store added) (λ _. Grows earlier from [] added store middle) a b n m (Ok tt)
    → Flies (earlier ++ added) other given more (target_state b m middle) (target_state c k now) result
    → Flies earlier from name (added ++ more) (target_state a n store) (target_state c k now) result
flown_then earlier from other name given added more store middle now a b c n m k result is called p q =
    let behind = earlier ++ added in
    carried_by_then {T = Unit {0}} {U = Turn} earlier from [] (name ∷ []) (λ turn. carried_by turn name) added more store middle now a b c n m k tt result p
    (subst (λ (f : Origin). Flies behind f name more (target_state b m middle) (target_state c k now) result) is
    (subst (λ (x : List ℕ). Flies behind other x more (target_state b m middle) (target_state c k now) result) called q))

-- what a turn did, in the words of what follows
pub flown_as : {U : Type 0} (earlier : List Addition) (from : Origin) (name : List ℕ) (some : List (List ℕ)) (added : List Addition) (store now : Store)
    (a b : Option Told) (n m : ℕ) (turn : Turn) (y : U) → carried_by turn name ≡ some
    → Flies earlier from name added (target_state a n store) (target_state b m now) (Ok turn)
    → Works (KeepsGrowing earlier from (name ∷ []) store added) (λ (_ : U). Grows earlier from some added store now) a b n m (Ok y)
flown_as {U} earlier from name some added store now a b n m turn y is p =
    works_as (KeepsGrowing earlier from (name ∷ []) store added) (λ (t : Turn). Grows earlier from (carried_by t name) added store now)
    (KeepsGrowing earlier from (name ∷ []) store added)
    (λ (_ : U). Grows earlier from some added store now) a b n m turn y (λ h g e. e)
    (λ h g e. subst (λ (l : List (List ℕ)). Grows earlier from l added store now h g) is e) p

pub flown_err : {U : Type 0} (earlier : List Addition) (from : Origin) (name : List ℕ) (some : List (List ℕ)) (added : List Addition)
    (store now other : Store) (a b : Option Told) (n m : ℕ) (fault : CarryFault)
    → Flies earlier from name added (target_state a n store) (target_state b m now) (Err fault)
    → Works (KeepsGrowing earlier from (name ∷ []) store added) (λ (_ : U). Grows earlier from some added store other) a b n m (Err fault)
flown_err {U} earlier from name some added store now other a b n m fault p =
    works_front (KeepsGrowing earlier from (name ∷ []) store added) (λ (t : Turn). Grows earlier from (carried_by t name) added store now)
    (KeepsGrowing earlier from (name ∷ []) store added) (λ (_ : U). Grows earlier from some added store other) a b n m fault (λ h g e. e) p

-- a body that carried the archive of a name, or none, as a turn
pub flies_as : {T : Type 0} (earlier : List Addition) (from : Origin) (name : List ℕ) (some : List (List ℕ)) (added : List Addition) (store now : Store)
    (a b : Option Told) (n m : ℕ) (x : T) (turn : Turn) → some ≡ carried_by turn name
    → Works (KeepsGrowing earlier from (name ∷ []) store added) (λ (_ : T). Grows earlier from some added store now) a b n m (Ok x)
    → Flies earlier from name added (target_state a n store) (target_state b m now) (Ok turn)
flies_as {T} earlier from name some added store now a b n m x turn is p =
    works_as (KeepsGrowing earlier from (name ∷ []) store added) (λ (_ : T). Grows earlier from some added store now)
    (KeepsGrowing earlier from (name ∷ []) store added)
    (λ (t : Turn). Grows earlier from (carried_by t name) added store now) a b n m x turn (λ h g e. e)
    (λ h g e. subst (λ (l : List (List ℕ)). Grows earlier from l added store now h g) is e) p

pub flies_err : {T : Type 0} (earlier : List Addition) (from : Origin) (name : List ℕ) (some : List (List ℕ)) (added : List Addition)
    (store now other : Store) (a b : Option Told) (n m : ℕ) (fault : CarryFault)
    → Works (KeepsGrowing earlier from (name ∷ []) store added) (λ (_ : T). Grows earlier from some added store now) a b n m (Err fault)
    → Flies earlier from name added (target_state a n store) (target_state b m other) (Err fault)
flies_err {T} earlier from name some added store now other a b n m fault p =
    works_front (KeepsGrowing earlier from (name ∷ []) store added) (λ (_ : T). Grows earlier from some added store now)
    (KeepsGrowing earlier from (name ∷ []) store added)
    (λ (t : Turn). Grows earlier from (carried_by t name) added store other) a b n m fault (λ h g e. e) p

-- an archive that was there, once nothing is pending
pub present_flies : {T : Type 0} (from : Origin) (name : List ℕ) (store middle now : Store) (a b c : Option Told) (n m k : ℕ) (x : T)
    (result : Result Turn CarryFault) → AcceptsMore store → AcceptsMore middle → KeepsRest store middle → OnOk result (KeepsRest middle now)
    → OnOk result (now.pending ≡ 0) → IfOk result (λ turn. turn ≡ Present)
    → IsSome (archive_named name (repo_view middle.repo).manifest.archives) → IsSame from b (repo_view middle.repo) name
    → AddsOn {T = T} from.most store [] middle a b n m (Ok x)
    → Works (KeepsStandingAt AtBegin from.most middle []) (λ (_ : Turn). GathersAt AtBegin from.most middle [] now) b c m k result
    → Flies [] from name [] (target_state a n store) (target_state c k now) result
unfolding border_behind
present_flies {T} from name store middle now a b c n m k x (Ok turn) accepts accepts_middle rest rest_now pending is there same p q =
    carried_by_then {T = T} {U = Turn} [] from [] (name ∷ []) (λ t. carried_by t name) [] [] store middle now a b c n m k x (Ok turn)
    (carried_from {T = T} {U = T} [] from (name ∷ []) store middle [] a b n m x x accepts rest p)
    (flies_as {T = Turn} [] from name (name ∷ []) [] middle now b c m k turn turn (sym (ap (λ (t : Turn). carried_by t name) is))
    (same_carried {T = Turn} [] from name middle now b c m k turn accepts_middle rest_now pending there same q))
present_flies {T} from name store middle now a b c n m k x (Err fault) accepts accepts_middle rest rest_now pending is there same p q =
    carried_by_then {T = T} {U = Turn} [] from [] (name ∷ []) (λ t. carried_by t name) [] [] store middle now a b c n m k x (Err fault)
    (carried_from {T = T} {U = T} [] from (name ∷ []) store middle [] a b n m x x accepts rest p)
    (flies_err {T = Turn} [] from name [] [] middle now now b c m k fault
    (carried_gathered_err {T = Turn} {U = Turn} [] from (name ∷ []) [] middle now now [] b c m k fault accepts_middle q))

-- a turn behind a body that added contents
pub flown_more : {T : Type 0} (earlier : List Addition) (told later : Option Told) (source after : RepoState) (block most : ℕ) (time : Option (List ℕ))
    (name :
    List ℕ)
    (store middle now : Store) (added more : List Addition) (a b c : Option Told) (n m k : ℕ) (x : T) (result : Result Turn CarryFault)
    → heard later ≡ heard told → after ≡ source → AcceptsMore store → KeepsRest store middle → AddsOn {T = T} most store added middle a b n m (Ok x)
    → Flies (earlier ++ added) (origin later after block most time) name more (target_state b m middle) (target_state c k now) result
    → Flies earlier (origin told source block most time) name (added ++ more) (target_state a n store) (target_state c k now) result
flown_more {T} earlier told later source after block most time name store middle now added more a b c n m k x result alike kept accepts rest p q =
    let from = origin told source block most time in
    flown_then earlier from (origin later after block most time) name name added more store middle now a b c n m k result
    (origin_kept told later source after block block most most time time alike kept refl refl refl) refl
    (carried_from {T = T} {U = Unit {0}} earlier from (name ∷ []) store middle added a b n m x tt accepts rest p) q

-- a body that added contents, and a fault behind it or in it
pub flies_fault : {T : Type 0} (earlier : List Addition) (from : Origin) (name : List ℕ) (store now : Store) (added : List Addition)
    (a b : Option Told) (n m : ℕ) (fault : CarryFault) → AcceptsMore store → AddsOn {T = T} from.most store added now a b n m (Err fault)
    → Flies earlier from name added (target_state a n store) (target_state b m now) (Err fault)
flies_fault {T} earlier from name store now added a b n m fault accepts p =
    flies_err {T = Turn} earlier from name [] added store now now a b n m fault
    (carried_from_err {T = T} {U = Turn} earlier from (name ∷ []) [] store now now added added a b n m fault accepts (front_all added) p)

-- that a name is taken is no fault of the target
pub taken_still : (fault : CarryFault) (name : List ℕ) → (fault ≡ Taken name) ⊎ (fault ≡ Memory) → target_failed fault ≡ false
taken_still fault name (inl e) = ap target_failed e
taken_still fault name (inr e) = ap target_failed e

-- and none of a chunk
pub taken_unbroken : (fault : CarryFault) (name : List ℕ) → (fault ≡ Taken name) ⊎ (fault ≡ Memory) → IsNoChunk fault
taken_unbroken fault name (inl e) = subst IsNoChunk (sym e) tt
taken_unbroken fault name (inr e) = subst IsNoChunk (sym e) tt

pub taken_unused : (fault : CarryFault) (name : List ℕ) → (fault ≡ Taken name) ⊎ (fault ≡ Memory) → fault ≡ used_up → ⊥
taken_unused fault name (inl e) used = let both = sym e ∙ used in let no : ⊥ = cc in no
taken_unused fault name (inr e) used = let both = sym e ∙ used in let no : ⊥ = cc in no

-- an archive that isn't named is none of the source
pub end_apart : (from : Origin) (heard : Option Told) (keys : Keys) (name : List ℕ) (fault : CarryFault) → RefusesEnd from heard keys name fault
    → IsOfSource fault → ⊥
end_apart from heard keys name (Source f) refused source = let never : ⊥ = cc in never
end_apart from heard keys name (Target refusal) refused source = source
end_apart from heard keys name (Taken taken) refused source = source
end_apart from heard keys name (NotFound missing) refused source = source
end_apart from heard keys name Pieces refused source = source
end_apart from heard keys name Memory refused source = source
end_apart from heard keys name Record refused source = source

-- a record that isn't read is no chunk of the target
pub record_unbroken : (told : Option Told) (source : RepoState) (id : List ℕ) (fault : CarryFault) → RefusesBegin told source id fault → IsNoChunk fault
record_unbroken told source id (Source f) refused = tt
record_unbroken told source id (Target refusal) refused = absurd refused
record_unbroken told source id (Taken name) refused = absurd refused
record_unbroken told source id (NotFound name) refused = absurd refused
record_unbroken told source id Pieces refused = absurd refused
record_unbroken told source id Memory refused = tt
record_unbroken told source id Record refused = absurd refused
