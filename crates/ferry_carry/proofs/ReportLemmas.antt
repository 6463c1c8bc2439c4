-- Lemmas on `Reports` and `ReportsWhole` of specs/Telling.antt: what bodies did that tell names, one after another.
use Rattle.std.proofs.Common.{◌≡◌, inl, ℕ, Bool, true, false, List, [], ◌∷◌, Option, Ok, Err, Result, refl, sym, subst, ◌+◌}
use Rattle.std.proofs.Common.{length, IfErr, OnOk, ◌*◌, arith}
use Rattle.ferry_disk.specs.Act.{TellOf, History}
use Rattle.ferry_disk.specs.Device.{Told}
use Rattle.ferry_mac.specs.declared.keys.Keys.{Keys}
use Rattle.ferry_repo.specs.Opening.{repo_view}
use Rattle.ferry_store.specs.Commit.{accepted_in, IsSettled}
use Rattle.ferry_store.specs.State.{IsStep}
use Rattle.ferry_store.specs.declared.fault.StoreRefusal.TheVariants as Stores
use Rattle.ferry_store.specs.declared.store.Store.{Store}
use Rattle.ferry_piece.proofs.AddingLemmas.{held_spent, spent_unbroken, stops_unbroken}
use Rattle.ferry_carry.proofs.GrowsLemmas.{Follows, grows_here}
use Rattle.ferry_carry.proofs.HeldLemmas.{heard_apart, held_nothing, spent_chunk}
use Rattle.ferry_piece.proofs.WorkLemmas.{works_as, works_both, works_from, works_front, works_none, works_nothing, works_then}
use Rattle.ferry_carry.proofs.NamesLemmas.{all_nothing, all_one, filled_apart, filled_one}
use Rattle.ferry_carry.proofs.NamesLemmas.{ListedAs, listed_as, lists_one}
use Rattle.ferry_carry.proofs.CountingLemmas.{counts_none}
use Rattle.ferry_carry.proofs.MomentLemmas.{reported_growing, reported_here, names_here, reported_name, told_name}
use Rattle.ferry_carry.proofs.MomentLemmas.{grows_told, carries_told, reported_whole, told_whole}
use Rattle.ferry_carry.proofs.NextLemmas.{accepts_none}
use Rattle.ferry_piece.specs.Adding.{IsNoChunk, SparesStore, StopsLast, BeginsSegments}
use Rattle.ferry_carry.specs.Carrying.{Origin}
use Rattle.ferry_carry.specs.Chosen.{TellsLine}
use Rattle.ferry_carry.specs.Counting.{CountsMore, TellsNew, nothing_carried}
use Rattle.ferry_piece.specs.Fault.{IsOfSource, target_failed}
use Rattle.ferry_carry.specs.Filling.{FillsNames}
use Rattle.ferry_carry.specs.Flight.{BeginsDone, Carries, ListsDone, TakesAll, archive_adds}
use Rattle.ferry_carry.specs.Grow.{AcceptsMore, Grows, KeepsGrowing}
use Rattle.ferry_carry.specs.Lines.{name_line, told_of, total_line}
use Rattle.ferry_piece.specs.Puts.{Addition, AtBegin, border_behind}
use Rattle.ferry_carry.specs.Naming.{TaggedRecord}
use Rattle.ferry_carry.specs.Refusals.{is_of_telling}
use Rattle.ferry_carry.specs.Telling.{AcceptsNames, CarriesNames, KeepsReported, Reports, ReportsWhole, TellsNames, TellsWhole}
use Rattle.ferry_piece.specs.Work.{Works}
use Rattle.ferry_piece.specs.declared.fault.CarryFault.{CarryFault}
use Rattle.ferry_piece.specs.declared.fault.CarryFault.TheVariants as Carry
use Rattle.ferry_carry.specs.declared.flight.Flight.{Flight}
use Rattle.ferry_carry.specs.declared.options.Carried.{Carried}
use Rattle.ferry_piece.proofs.FewLemmas.{begun_as, begun_fault, begun_none, begun_nothing, begun_same, memory_unused, used_up}
use Rattle.ferry_carry.specs.States.{target_state, drawn_from}

-- ---- what bodies did

-- What bodies that tell names say of the end.
abbrev pub EndsNames : {T : Type 0} → Origin → List (List ℕ) → List TaggedRecord → List Addition → Store → Store → T → History → History → Type 0
EndsNames from names records added store now _ h g = CarriesNames from names records added store now h g × TellsNames (accepted_in store) names h g

-- and of a body that tells the whole
abbrev EndsWhole : Origin → List (List ℕ) → List TaggedRecord → List Addition → Store → Store → Carried → History → History → Type 0
EndsWhole from names records added store now carried h g = CarriesNames from names records added store now h g × TellsWhole (accepted_in store) names added
    carried h g

-- a line that isn't told is no chunk
pub telling_unbroken : (fault : CarryFault) → is_of_telling fault ≡ true → IsNoChunk fault
telling_unbroken (Carry.Source f) telling = tt
telling_unbroken (Carry.Target (Stores.Repo f)) telling = absurd (let never : ⊥ = cc in never)
telling_unbroken (Carry.Target (Stores.Write f)) telling = tt
telling_unbroken (Carry.Target (Stores.Nonce f)) telling = tt
telling_unbroken (Carry.Target Stores.Committed) telling = tt
telling_unbroken (Carry.Target Stores.TooLarge) telling = tt
telling_unbroken (Carry.Target Stores.Entropy) telling = tt
telling_unbroken (Carry.Target Stores.Memory) telling = tt
telling_unbroken (Carry.Taken name) telling = tt
telling_unbroken (Carry.NotFound name) telling = tt
telling_unbroken Carry.Pieces telling = tt
telling_unbroken Carry.Memory telling = tt
telling_unbroken Carry.Record telling = tt

-- where no call of the target was made
reports_none : (from : Origin) (store : Store) (carried : Carried) (a : Option Told) (n : ℕ) (x : Option (List ℕ)) → AcceptsMore store
    → carried ≡ nothing_carried → Reports from [] (target_state a n store) (target_state a n store) carried carried (drawn_from x x) (Ok tt)
reports_none from store carried a n x accepts uncounted = record {
  added = [];
  records = [];
  begins = all_nothing a from store [];
  works = works_none (KeepsReported from [] store []) (EndsNames {T = Unit {0}} from [] [] [] store store) a n tt
      (λ h. reported_here from [] store [] h accepts) (λ h. ((grows_here [] from store h, (refl, refl)), names_here (accepted_in store) h));
  accepts = accepts_none from store x;
  counted = subst (λ (count : Carried). CountsMore (accepted_in store) [] [] count count) (sym uncounted) (counts_none (accepted_in store));
  last = tt;
  held = tt;
  fills = tt;
  few = begun_none {T = Unit {0}} 0 store tt;
}

-- and nothing was added
pub reports_begin : (from : Origin) (store : Store) (carried : Carried) (a : Option Told) (n : ℕ) (x : Option (List ℕ)) → AcceptsMore store
    → carried ≡ nothing_carried
    → (p : Reports from [] (target_state a n store) (target_state a n store) carried carried (drawn_from x x) (Ok tt)) × Follows p.added store
unfolding reports_none
reports_begin from store carried a n x accepts uncounted = (reports_none from store carried a n x accepts uncounted, inl refl)

pub reports_nothing : (from : Origin) (names : List (List ℕ)) (store : Store) (carried after : Carried) (a : Option Told) (n : ℕ) (x y : Option (List ℕ))
    (fault : CarryFault) → AcceptsMore store → target_failed fault ≡ false → IsNoChunk fault → (IsOfSource fault → ⊥) → (fault ≡ used_up → ⊥)
    → Reports from names (target_state a n store) (target_state a n store) carried after (drawn_from x y) (Err fault)
reports_nothing from names store carried after a n x y fault accepts still unbroken apart unused = record {
  added = [];
  records = [];
  begins = all_nothing a from store names;
  works = works_nothing (KeepsReported from names store []) (EndsNames {T = Unit {0}} from names [] [] store store) a n fault still
      (λ h. reported_here from names store [] h accepts);
  accepts = tt;
  counted = tt;
  last = stops_unbroken a (repo_view store.repo).keys [] fault unbroken;
  held = held_nothing AtBegin from.most store a fault;
  fills = heard_apart a fault (λ refusal. FillsNames from (repo_view store.repo).keys (accepted_in store) [] names refusal []) apart;
  few = begun_nothing {T = Unit {0}} (0 + 2 * length names) store fault unused;
}

pub whole_nothing : (from : Origin) (names : List (List ℕ)) (store : Store) (a : Option Told) (n : ℕ) (x y : Option (List ℕ)) (fault : CarryFault)
    → AcceptsMore store → target_failed fault ≡ false → IsNoChunk fault → (IsOfSource fault → ⊥) → (fault ≡ used_up → ⊥)
    → ReportsWhole from names (target_state a n store) (target_state a n store) (drawn_from x y) (Err fault)
whole_nothing from names store a n x y fault accepts still unbroken apart unused = record {
  added = [];
  records = [];
  begins = all_nothing a from store names;
  works = works_nothing (KeepsReported from names store []) (EndsWhole from names [] [] store store) a n fault still
      (λ h. reported_here from names store [] h accepts);
  accepts = tt;
  last = stops_unbroken a (repo_view store.repo).keys [] fault unbroken;
  held = held_nothing AtBegin from.most store a fault;
  fills = heard_apart a fault (λ refusal. FillsNames from (repo_view store.repo).keys (accepted_in store) [] names refusal []) apart;
  few = begun_nothing {T = Carried} (0 + 2 * length names) store fault unused;
}

-- a fault of a body that told nothing, and of one that told
pub reports_silent : (from : Origin) (name : List ℕ) (added : List Addition) (store now : Store) (flight : Flight) (carried after : Carried)
    (a b : Option Told) (n m : ℕ) (x y : Option (List ℕ)) (records : List TaggedRecord) (fault : CarryFault)
    → TakesAll from (archive_adds name [] added records) (target_state a n store) (target_state b m now) flight (Err fault)
    → Reports from (name ∷ []) (target_state a n store) (target_state b m now) carried after (drawn_from x y) (Err fault)
unfolding border_behind
reports_silent from name added store now flight carried after a b n m x y records fault p = record {
  added = added;
  records = [];
  begins = all_one a from store name added p.begins;
  works = works_front (KeepsGrowing [] from (name ∷ []) store added) (λ (_ : Bool). Grows [] from (name ∷ []) added store now)
      (KeepsReported from (name ∷ []) store added) (EndsNames {T = Unit {0}} from (name ∷ []) [] added store now) a b n m fault
      (λ h g e. reported_growing from (name ∷ []) store added h g e) p.carries;
  accepts = tt;
  counted = tt;
  last = p.last;
  held = p.held;
  fills = filled_one a from store name fault added p.fills;
  few = begun_same {T = Bool} {U = Unit {0}} (2 * length added + 2) (2 * length added + 2) store now fault (omega arith) p.few;
}

pub whole_err : (from : Origin) (names : List (List ℕ)) (store now : Store) (carried after : Carried) (a b : Option Told) (n m : ℕ)
    (x y : Option (List ℕ)) (fault : CarryFault) → Reports from names (target_state a n store) (target_state b m now) carried after (drawn_from x y) (Err
    fault)
    → ReportsWhole from names (target_state a n store) (target_state b m now) (drawn_from x y) (Err fault)
whole_err from names store now carried after a b n m x y fault p = record {
  added = p.added;
  records = p.records;
  begins = p.begins;
  works = works_front (KeepsReported from names store p.added) (EndsNames {T = Unit {0}} from names p.records p.added store now)
      (KeepsReported from names store p.added) (EndsWhole from names p.records p.added store now) a b n m fault (λ h g e. e) p.works;
  accepts = tt;
  last = p.last;
  held = p.held;
  fills = p.fills;
  few = begun_same {T = Unit {0}} {U = Carried} (2 * length p.added + 2 * length names) (2 * length p.added + 2 * length names) store now fault (omega arith)
      p.few;
}

-- where a line is told behind a body, no segment begins
telling_unused : (fault : CarryFault) → is_of_telling fault ≡ true → fault ≡ used_up → ⊥
telling_unused fault telling e = let told : false ≡ true = subst (λ (f : CarryFault). is_of_telling f ≡ true) e telling in let no : ⊥ = cc in no

told_few : {T U : Type 0} (n : ℕ) (store middle : Store) (x : T) (result : Result U CarryFault) → IfErr result (λ fault. is_of_telling fault ≡ true)
    → BeginsSegments {T = T} n store middle (Ok x) → BeginsSegments n store middle result
told_few {T} {U} n store middle x (Ok y) telling few = begun_as {T = T} {U = U} n n store middle x y (omega arith) few
told_few {T} {U} n store middle x (Err fault) telling few =
    begun_fault {T = T} {U = U} n n store middle x fault (omega arith) (telling_unused fault telling) few

-- a name that is told behind the body that carried its archive
named_works : {T U : Type 0} (from : Origin) (copied : Bool) (name given : List ℕ) (records : List TaggedRecord) (added : List Addition) (store middle :
    Store)
    (a b c : Option Told) (n m k : ℕ) (x : T) (result : Result U CarryFault) → given ≡ name → AcceptsMore middle
    → TellsNew (accepted_in store) [] name copied → ListsDone a from (repo_view store.repo).keys name records added copied
    → Carries {T = T} [] from (name ∷ []) added (target_state a n store) (target_state b m middle) (Ok x)
    → Works (IsStep (TellOf (name_line (told_of copied) given))) (λ (_ : U). TellsLine (name_line (told_of copied) given)) b c m k result
    → Works (KeepsReported from (name ∷ []) store added) (EndsNames {T = U} from (name ∷ []) records added store middle) a c n k result
named_works {T} {U} from copied name given records added store middle a b c n m k x result is accepts new done p q =
    let line = name_line (told_of copied) name in
    let keys = (repo_view store.repo).keys in
    let accepted = accepted_in store in
    works_then (KeepsGrowing [] from (name ∷ []) store added)
    (λ (_ : T) h g. ListedAs from keys name records added copied
    × (KeepsGrowing [] from (name ∷ []) store added h g × Grows [] from (name ∷ []) added store middle h g))
    (IsStep (TellOf line)) (λ (_ : U). TellsLine line) (KeepsReported from (name ∷ []) store added)
    (EndsNames {T = U} from (name ∷ []) records added store middle) a b c n m k x result
    (λ h g i e d f r. reported_name from copied name added store middle h g i e d f.1.1 accepts new r)
    (λ _ h g i f r. (
      (grows_told [] from (name ∷ []) added store middle line h g i f.1.1 r, lists_one from keys accepted name records added copied new f.0),
      told_name accepted copied name h g i new f.1.0.0 r,
    ))
    (works_from (λ _. ListedAs from keys name records added copied) (KeepsGrowing [] from (name ∷ []) store added)
    (λ (_ : T) h g. KeepsGrowing [] from (name ∷ []) store added h g × Grows [] from (name ∷ []) added store middle h g) a b n m x
    (listed_as a from keys name records added copied done)
    (works_both (KeepsGrowing [] from (name ∷ []) store added) (λ (_ : T). Grows [] from (name ∷ []) added store middle) a b n m (Ok x) p))
    (subst (λ (l : List ℕ). Works (IsStep (TellOf (name_line (told_of copied) l))) (λ (_ : U). TellsLine (name_line (told_of copied) l)) b c m k result)
    is q)

-- what no chunk refuses
pub told_unbroken : {T : Type 0} (a : Option Told) (keys : Keys) (added : List Addition) (result : Result T CarryFault) → IfErr result IsNoChunk
    → StopsLast a keys added result
told_unbroken {T} a keys added (Ok x) unbroken = tt
told_unbroken {T} a keys added (Err fault) unbroken = stops_unbroken a keys added fault unbroken

pub reports_name : {T : Type 0} (from : Origin) (copied : Bool) (name given : List ℕ) (records : List TaggedRecord) (added : List Addition) (store middle :
    Store)
    (carried after : Carried) (a b c : Option Told) (n m k : ℕ) (y z : Option (List ℕ)) (x : T) (result : Result (Unit {0}) CarryFault) → given ≡ name →
    AcceptsMore middle
    → TellsNew (accepted_in store) [] name copied → ListsDone a from (repo_view store.repo).keys name records added copied
    → BeginsDone a from (repo_view store.repo).keys (accepted_in store) name added
    → OnOk result (AcceptsNames from (name ∷ []) records store middle y z)
    → OnOk result (CountsMore (accepted_in store) (name ∷ []) added carried after) → IfErr result (λ fault. SparesStore fault → ⊥)
    → IfErr result (λ fault. IsOfSource fault → ⊥) → IfErr result (λ fault. is_of_telling fault ≡ true)
    → BeginsSegments {T = T} (2 * length added + 2) store middle (Ok x)
    → Carries {T = T} [] from (name ∷ []) added (target_state a n store) (target_state b m middle) (Ok x)
    → Works (IsStep (TellOf (name_line (told_of copied) given))) (λ (_ : Unit {0}). TellsLine (name_line (told_of copied) given)) b c m k result
    → Reports from (name ∷ []) (target_state a n store) (target_state c k middle) carried after (drawn_from y z) result
reports_name {T} from copied name given records added store middle carried after a b c n m k y z x result is accepts new done begins taken counted spent
    apart telling few p q = record {
      added = added;
      records = records;
      begins = all_one a from store name added begins;
      works = named_works {T = T} {U = Unit {0}} from copied name given records added store middle a b c n m k x result is accepts new done p q;
      accepts = taken;
      counted = counted;
      last = told_unbroken a (repo_view store.repo).keys added result (spent_chunk {T = Unit {0}} result spent);
      held = held_spent {T = Unit {0}} AtBegin from.most store middle added a c result spent;
      fills = filled_apart {T = Unit {0}} a from store (name ∷ []) added result apart;
      few = told_few {T = T} {U = Unit {0}} (2 * length added + 2) store middle x result telling few;
    }

-- the whole, behind all names
pub reports_whole : (from : Origin) (carried : Carried) (names : List (List ℕ)) (line : List ℕ) (store middle : Store)
    (a b c : Option Told) (n m k : ℕ) (x y : Option (List ℕ)) → line ≡ total_line carried → IsSettled store → AcceptsMore middle
    → Reports from names (target_state a n store) (target_state b m middle) nothing_carried carried (drawn_from x y) (Ok tt)
    → Works (IsStep (TellOf line)) (λ (_ : Unit {0}). TellsLine line) b c m k (Ok tt)
    → ReportsWhole from names (target_state a n store) (target_state c k middle) (drawn_from x y) (Ok carried)
reports_whole from carried names line store middle a b c n m k x y is settled accepts p q =
    let total = total_line carried in
    let added = p.added in
    let behind = subst (λ (l : List ℕ). Works (IsStep (TellOf l)) (λ (_ : Unit {0}). TellsLine l) b c m k (Ok tt)) is q in
    let Total : Carried → History → History → Type 0 = λ told h g. (told ≡ carried) × TellsLine total h g in
    record {
      added = added;
      records = p.records;
      begins = p.begins;
      works = works_then (KeepsReported from names store added) (EndsNames {T = Unit {0}} from names p.records added store middle) (IsStep (TellOf total))
          Total
          (KeepsReported from names store added) (EndsWhole from names p.records added store middle) a b c n m k tt (Ok carried)
          (λ h g i e d f r. reported_whole from carried names added store middle h g i settled accepts e d f.0.0 f.1 r)
          (λ told h g i f r. (
            carries_told from names p.records added store middle total h g i f.0 r.1,
            subst (λ (t : Carried). TellsWhole (accepted_in store) names added t h i) (sym r.0)
                (told_whole (accepted_in store) names added carried h g i p.counted f.1 r.1),
          )) p.works
          (works_as (IsStep (TellOf total)) (λ (_ : Unit {0}). TellsLine total) (IsStep (TellOf total)) Total b c m k tt carried (λ h g e. e)
          (λ h g e. (refl, e)) behind);
      accepts = p.accepts;
      last = tt;
      held = tt;
      fills = tt;
      few = begun_as {T = Unit {0}} {U = Carried} (2 * length added + 2 * length names) (2 * length added + 2 * length names) store middle tt carried
          (omega arith) p.few;
    }

pub whole_untold : (from : Origin) (before carried : Carried) (names : List (List ℕ)) (line : List ℕ) (store middle : Store)
    (a b c : Option Told) (n m k : ℕ) (x y z : Option (List ℕ)) (fault : CarryFault) → line ≡ total_line carried → IsSettled store → AcceptsMore middle
    → Reports from names (target_state a n store) (target_state b m middle) before carried (drawn_from x y) (Ok tt)
    → (SparesStore fault → ⊥) → (IsOfSource fault → ⊥) → is_of_telling fault ≡ true
    → Works (IsStep (TellOf line)) (λ (_ : Unit {0}). TellsLine line) b c m k (Err fault)
    → ReportsWhole from names (target_state a n store) (target_state c k middle) (drawn_from x z) (Err fault)
whole_untold from before carried names line store middle a b c n m k x y z fault is settled accepts p spent apart telling q =
    let total = total_line carried in
    let added = p.added in
    let behind = subst (λ (l : List ℕ). Works (IsStep (TellOf l)) (λ (_ : Unit {0}). TellsLine l) b c m k (Err fault)) is q in
    let first = works_then (KeepsReported from names store added) (EndsNames {T = Unit {0}} from names p.records added store middle) (IsStep (TellOf total))
    (λ (_ : Unit {0}). TellsLine total) (KeepsReported from names store added) (λ (_ : Unit {0}) (h : History) (g : History). Unit {0}) a b c n m k tt
    (Err fault) (λ h g i e d f r. reported_whole from carried names added store middle h g i settled accepts e d f.0.0 f.1 r) (λ _ h g i f r. tt) p.works
    behind in
    record {
      added = added;
      records = p.records;
      begins = p.begins;
      works = record { each = first.each; end = tt; ends = first.ends; cause = first.cause };
      accepts = tt;
      last = stops_unbroken a (repo_view store.repo).keys added fault (spent_unbroken fault spent);
      held = λ spares. absurd (spent spares);
      fills = heard_apart a fault (λ refusal. FillsNames from (repo_view store.repo).keys (accepted_in store) [] names refusal added) apart;
      few = told_few {T = Unit {0}} {U = Carried} (2 * length added + 2 * length names) store middle tt (Err fault) telling p.few;
    }

-- memory is refused for that line
pub whole_unwritten : (from : Origin) (before carried : Carried) (names : List (List ℕ)) (store middle : Store) (a b : Option Told) (n m : ℕ)
    (x y : Option (List ℕ)) → Reports from names (target_state a n store) (target_state b m middle) before carried (drawn_from x y) (Ok tt)
    → ReportsWhole from names (target_state a n store) (target_state b m middle) (drawn_from x y) (Err Carry.Memory)
whole_unwritten from before carried names store middle a b n m x y p = record {
  added = p.added;
  records = p.records;
  begins = p.begins;
  works = record { each = p.works.each; end = tt; ends = p.works.ends; cause = p.works.cause };
  accepts = tt;
  last = stops_unbroken a (repo_view store.repo).keys p.added Carry.Memory tt;
  held = λ spares. absurd spares;
  fills = heard_apart a Carry.Memory (λ refusal. FillsNames from (repo_view store.repo).keys (accepted_in store) [] names refusal p.added)
      (λ source. source);
  few = begun_fault {T = Unit {0}} {U = Carried} (2 * length p.added + 2 * length names) (2 * length p.added + 2 * length names) store middle tt Carry.Memory
      (omega arith) memory_unused p.few;
}
