-- Bodies one after another: what holds at each moment of both, and at their end.
use Rattle.std.proofs.Common.{◌≡◌, ◌*◌, ℕ, Bool, false, List, [], ◌++◌, length, Option, Some, None, Result, Ok, Err, IfSome, OnOk, IsErrAnd, refl, sym}
use Rattle.std.proofs.Common.{◌∙◌, arith, subst}
use Rattle.ferry_disk.proofs.MomentLemmas.{between_map, between_then, between_both}
use Rattle.ferry_disk.specs.Act.{History}
use Rattle.ferry_disk.specs.Device.{Told, RoseWhere}
use Rattle.ferry_disk.specs.Faults.{FailedWhere}
use Rattle.ferry_disk.specs.Moments.{Between}
use Rattle.ferry_store.proofs.StepLemmas.{done_here, done_then, failed_then, here_each, known_end, known_then, rose_then}
use Rattle.ferry_store.specs.State.{Did}
use Rattle.ferry_store.specs.declared.fault.StoreRefusal.{StoreRefusal}
use Rattle.ferry_repo.specs.Opening.{repo_view}
use Rattle.ferry_stops.specs.Tells.{TellsNothing}
use Rattle.ferry_write.specs.Script.{AllDone}
use Rattle.ferry_piece.proofs.AddingLemmas.{held_gathered, held_here, held_then, held_until, stops_then, stops_unbroken}
use Rattle.ferry_piece.proofs.FaultLemmas.{failed_target}
use Rattle.ferry_piece.proofs.FewLemmas.{begun_all, begun_as, begun_fault, begun_none, begun_nothing, begun_same, used_up}
use Rattle.ferry_piece.specs.Fault.{target_failed, target_fault}
use Rattle.ferry_piece.proofs.GatherLemmas.{each_then, gathers_here, gathers_then, stands_here}
use Rattle.ferry_piece.specs.Adding.{AddsOn, IsNoChunk}
use Rattle.ferry_piece.specs.Gather.{Gathers, KeepsRest, KeepsStanding}
use Rattle.ferry_piece.specs.Puts.{Addition, Within}
use Rattle.ferry_piece.specs.Stops.{is_target}
use Rattle.ferry_piece.specs.Work.{Works}
use Rattle.ferry_store.specs.Store.{StoreFits}
use Rattle.ferry_store.specs.declared.store.Store.{Store}
use Rattle.ferry_piece.specs.declared.fault.CarryFault.{CarryFault}

-- a refusal that was handed on
pub err_is : {T : Type 0} (r : Result T CarryFault) (fault : CarryFault) (P : Result T CarryFault → Type 0) → IsErrAnd r (λ y. y ≡ fault) → P (Err fault) → P r
err_is (Ok x) fault P e p = absurd e
err_is (Err y) fault P e p = subst (λ (f : CarryFault). P (Err f)) (sym e) p

-- a call of the store, which tells no line
pub works_ok : {T U : Type 0} (E1 : History → History → Type 0) (Q1 : T → History → History → Type 0) (E : History → History → Type 0)
    (Q : U → History → History → Type 0) (a b : Option Told) (n m : ℕ) (x : T) (y : U) → ((h g : History) → TellsNothing h g → E1 h g → E h g)
    → ((h g : History) → Q1 x h g → Q y h g) → Between a b TellsNothing → Did E1 Q1 a b n m (Ok x) → Works E Q a b n m (Ok y)
works_ok E1 Q1 E Q a b n m x y step last untold p = record {
  each = between_map a b (λ h g. TellsNothing h g × E1 h g) E (λ h g e. step h g e.0 e.1) (between_both a b TellsNothing E1 untold p.each);
  end = between_map a b (λ h g. AllDone h g × Q1 x h g) (λ h g. AllDone h g × Q y h g) (λ h g e. (e.0, last h g e.1)) p.end;
  ends = p.ends;
  cause = p.cause;
}

pub works_err : {T U : Type 0} (E1 : History → History → Type 0) (Q1 : T → History → History → Type 0) (E : History → History → Type 0)
    (Q : U → History → History → Type 0) (a b : Option Told) (n m : ℕ) (refusal : StoreRefusal)
    → ((h g : History) → TellsNothing h g → E1 h g → E h g) → Between a b TellsNothing → Did E1 Q1 a b n m (Err refusal)
    → Works E Q a b n m (Err (target_fault refusal))
works_err E1 Q1 E Q a b n m refusal step untold p = record {
  each = between_map a b (λ h g. TellsNothing h g × E1 h g) E (λ h g e. step h g e.0 e.1) (between_both a b TellsNothing E1 untold p.each);
  end = tt;
  ends = subst (λ (d : Bool). FailedWhere d a b) (sym (failed_target refusal)) p.ends;
  cause = subst (λ (d : Bool). RoseWhere d n m) (sym (failed_target refusal)) p.cause;
}

-- a call of the store of which more is known at each moment
pub did_both : {T : Type 0} (E F : History → History → Type 0) (Q : T → History → History → Type 0) (a b : Option Told) (n m : ℕ)
    (result : Result T StoreRefusal) → Between a b F → Did E Q a b n m result → Did (λ h g. E h g × F h g) Q a b n m result
did_both E F Q a b n m result known p = record { each = between_both a b E F p.each known; end = p.end; ends = p.ends; cause = p.cause }

-- one body behind another that was `Ok`
pub works_then : {T U : Type 0} (E1 : History → History → Type 0) (Q1 : T → History → History → Type 0) (E2 : History → History → Type 0)
    (Q2 : U → History → History → Type 0) (E : History → History → Type 0) (Q : U → History → History → Type 0) (a b c : Option Told) (n m k : ℕ) (x : T)
    (result : Result U CarryFault) → ((h g i : History) → E1 h g → AllDone h g → Q1 x h g → E2 g i → E h i)
    → ((y : U) (h g i : History) → Q1 x h g → Q2 y g i → Q y h i) → Works E1 Q1 a b n m (Ok x) → Works E2 Q2 b c m k result → Works E Q a c n k result
works_then E1 Q1 E2 Q2 E Q a b c n m k x (Ok y) step last p q = record {
  each = between_then a b c (λ h g. E1 h g × (AllDone h g × Q1 x h g)) E2 E (λ h g i e f. step h g i e.0 e.1.0 e.1.1 f)
      (between_both a b E1 (λ h g. AllDone h g × Q1 x h g) p.each p.end) q.each;
  end = between_then a b c (λ h g. AllDone h g × Q1 x h g) (λ h g. AllDone h g × Q2 y h g) (λ h g. AllDone h g × Q y h g)
      (λ h g i e f. (done_then h g i e.0 f.0, last y h g i e.1 f.1)) p.end q.end;
  ends = q.ends ∙ p.ends;
  cause = q.cause ∙ p.cause;
}
works_then E1 Q1 E2 Q2 E Q a b c n m k x (Err fault) step last p q = record {
  each = between_then a b c (λ h g. E1 h g × (AllDone h g × Q1 x h g)) E2 E (λ h g i e f. step h g i e.0 e.1.0 e.1.1 f)
      (between_both a b E1 (λ h g. AllDone h g × Q1 x h g) p.each p.end) q.each;
  end = tt;
  ends = failed_then (target_failed fault) a b c p.ends q.ends;
  cause = rose_then (target_failed fault) n m k p.cause q.cause;
}

-- a body under other words, and one that was refused
pub works_as : {T U : Type 0} (E1 : History → History → Type 0) (Q1 : T → History → History → Type 0) (E : History → History → Type 0)
    (Q : U → History → History → Type 0) (a b : Option Told) (n m : ℕ) (x : T) (y : U) → ((h g : History) → E1 h g → E h g)
    → ((h g : History) → Q1 x h g → Q y h g) → Works E1 Q1 a b n m (Ok x) → Works E Q a b n m (Ok y)
works_as E1 Q1 E Q a b n m x y step last p = record {
  each = between_map a b E1 E step p.each;
  end = between_map a b (λ h g. AllDone h g × Q1 x h g) (λ h g. AllDone h g × Q y h g) (λ h g e. (e.0, last h g e.1)) p.end;
  ends = p.ends;
  cause = p.cause;
}

pub works_front : {T U : Type 0} (E1 : History → History → Type 0) (Q1 : T → History → History → Type 0) (E : History → History → Type 0)
    (Q : U → History → History → Type 0) (a b : Option Told) (n m : ℕ) (fault : CarryFault) → ((h g : History) → E1 h g → E h g)
    → Works E1 Q1 a b n m (Err fault) → Works E Q a b n m (Err fault)
works_front E1 Q1 E Q a b n m fault step p = record { each = between_map a b E1 E step p.each; end = tt; ends = p.ends; cause = p.cause }

-- at the end of a body that is `Ok` what holds at each moment holds too
pub works_both : {T : Type 0} (E : History → History → Type 0) (Q : T → History → History → Type 0) (a b : Option Told) (n m : ℕ)
    (result : Result T CarryFault) → Works E Q a b n m result → Works E (λ x h g. E h g × Q x h g) a b n m result
works_both E Q a b n m (Ok x) p = record {
  each = p.each;
  end = between_map a b (λ h g. E h g × (AllDone h g × Q x h g)) (λ h g. AllDone h g × (E h g × Q x h g)) (λ h g e. (e.1.0, (e.0, e.1.1)))
      (between_both a b E (λ h g. AllDone h g × Q x h g) p.each p.end);
  ends = p.ends;
  cause = p.cause;
}
works_both E Q a b n m (Err fault) p = record { each = p.each; end = tt; ends = p.ends; cause = p.cause }

-- where no call of the target was made
pub works_nothing : {T : Type 0} (E : History → History → Type 0) (Q : T → History → History → Type 0) (a : Option Told) (n : ℕ) (fault : CarryFault)
    → target_failed fault ≡ false → ((h : History) → E h h) → Works E Q a a n n (Err fault)
works_nothing E Q a n fault still here = record {
  each = here_each E a here;
  end = tt;
  ends = subst (λ (d : Bool). FailedWhere d a a) (sym still) refl;
  cause = subst (λ (d : Bool). RoseWhere d n n) (sym still) refl;
}

pub works_none : {T : Type 0} (E : History → History → Type 0) (Q : T → History → History → Type 0) (a : Option Told) (n : ℕ) (x : T)
    → ((h : History) → E h h) → ((h : History) → Q x h h) → Works E Q a a n n (Ok x)
works_none E Q a n x here last = record {
  each = here_each E a here;
  end = here_each (λ h g. AllDone h g × Q x h g) a (λ h. (done_here h, last h));
  ends = refl;
  cause = refl;
}

-- what is known at the end
pub works_known : {T : Type 0} (P R : History → Type 0) (E : History → History → Type 0)
    (Q : T → History → History → Type 0) (a b : Option Told) (n m : ℕ) (x : T)
    → ((h g : History) → P h → Q x h g → R g) → IfSome a (λ t. P t.history) → Works E Q a b n m (Ok x) → IfSome b (λ t. R t.history)
works_known P R E Q a b n m x step known p =
    known_end R (λ h g. P h × (AllDone h g × Q x h g)) a b p.ends (λ h g e. step h g e.0 e.1.1)
    (known_then P (λ h g. AllDone h g × Q x h g) a b known p.end)

-- what is known at the begin of what was done
pub between_known : (P : History → Type 0) (E : History → History → Type 0) (a b : Option Told) → IfSome a (λ t. P t.history) → Between a b E
    → Between a b (λ h g. P h × E h g)
between_known P E None b known p = tt
between_known P E (Some told) b known p = (p.0, p.1, (known, p.2))

-- what was known at the begin is known at the end of a body that is `Ok`
pub works_from : {T : Type 0} (P : History → Type 0) (E : History → History → Type 0) (Q : T → History → History → Type 0) (a b : Option Told) (n m : ℕ)
    (x : T) → IfSome a (λ t. P t.history) → Works E Q a b n m (Ok x) → Works E (λ y h g. P h × Q y h g) a b n m (Ok x)
works_from P E Q a b n m x known p = record {
  each = p.each;
  end = between_map a b (λ h g. P h × (AllDone h g × Q x h g)) (λ h g. AllDone h g × (P h × Q x h g)) (λ h g e. (e.1.0, (e.0, e.1.1)))
      (between_known P (λ h g. AllDone h g × Q x h g) a b known p.end);
  ends = p.ends;
  cause = p.cause;
}

-- ---- contents added one after another

pub gathered_then : {T U : Type 0} (most : ℕ) (store middle now : Store) (some more : List Addition) (a b c : Option Told) (n m k : ℕ) (x : T)
    (result : Result U CarryFault)
    → KeepsRest store middle → OnOk result (KeepsRest middle now) → AddsOn most store some middle a b n m (Ok x)
    → AddsOn most middle more now b c m k result → AddsOn most store (some ++ more) now a c n k result
gathered_then {T} {U} most store middle now some more a b c n m k x (Ok y) rest rest_now p q = record {
  works = works_then (KeepsStanding most store some) (λ (_ : T). Gathers most store some middle) (KeepsStanding most middle more)
      (λ (_ : U). Gathers most middle more now) (KeepsStanding most store (some ++ more)) (λ (_ : U). Gathers most store (some ++ more) now) a b c n m k x
      (Ok y) (λ h g i e d f r. each_then most store middle some more h g i rest.keys e d f r)
      (λ _ h g i e f. gathers_then most store middle now some more rest rest_now h g i e f) p.works q.works;
  last = tt;
  unspent = λ was. q.unspent (p.unspent was);
  held = tt;
  few = begun_all {T = T} {U = U} store middle now some more (Ok x) (Ok y) p.few q.few;
}
gathered_then {T} {U} most store middle now some more a b c n m k x (Err fault) rest rest_now p q =
    let first = works_then (KeepsStanding most store some) (λ (_ : T). Gathers most store some middle) (KeepsStanding most middle more)
    (λ (_ : U). Gathers most middle more now) (KeepsStanding most store (some ++ more))
    (λ (_ : U) (h : History) (g : History). Unit {0}) a b c n m k x (Err fault)
    (λ h g i e d f r. each_then most store middle some more h g i rest.keys e d f r)
    (λ _ h g i e f. tt) p.works q.works in
    record {
      works = record { each = first.each; end = tt; ends = first.ends; cause = first.cause };
      last = stops_then {T = U} a b (repo_view store.repo).keys (repo_view middle.repo).keys some more (Err fault) p.works.ends rest.keys q.last;
      unspent = tt;
      held = held_then {T = U} most store middle now some more a b c (Err fault) rest.keys p.unspent p.works.end q.held;
      few = begun_all {T = T} {U = U} store middle now some more (Ok x) (Err fault) p.few q.few;
    }

pub gathered_none : {T : Type 0} (most : ℕ) (store : Store) (a : Option Told) (n : ℕ) (x : T) → AddsOn {T = T} most store [] store a a n n (Ok x)
gathered_none {T} most store a n x = record {
  works = works_none (KeepsStanding most store []) (λ (_ : T). Gathers most store [] store) a n x (λ h. stands_here most store [] h)
      (λ h. gathers_here most store h);
  last = tt;
  unspent = λ was. was;
  held = tt;
  few = begun_none {T = T} 0 store x;
}

pub gathered_nothing : {T : Type 0} (most : ℕ) (store : Store) (a : Option Told) (n : ℕ) (fault : CarryFault)
    → target_failed fault ≡ false → IsNoChunk fault → (fault ≡ used_up → ⊥) → AddsOn {T = T} most store [] store a a n n (Err fault)
gathered_nothing {T} most store a n fault still unbroken unused = record {
  works = works_nothing (KeepsStanding most store []) (λ (_ : T). Gathers most store [] store) a n fault still (λ h. stands_here most store [] h);
  last = stops_unbroken a (repo_view store.repo).keys [] fault unbroken;
  unspent = tt;
  held = λ spares. (λ was. was, held_until (is_target fault) Within most store store [] a a (held_here most store a));
  few = begun_nothing {T = T} 0 store fault unused;
}

-- the same of another value, and of a fault that is handed on
pub gathered_as : {T U : Type 0} (most : ℕ) (store now : Store) (added : List Addition) (a b : Option Told) (n m : ℕ) (x : T) (y : U)
    → AddsOn most store added now a b n m (Ok x) → AddsOn most store added now a b n m (Ok y)
gathered_as {T} {U} most store now added a b n m x y p = record {
  works = works_as (KeepsStanding most store added) (λ (_ : T). Gathers most store added now) (KeepsStanding most store added)
      (λ (_ : U). Gathers most store added now) a b n m x y (λ h g e. e) (λ h g e. e) p.works;
  last = tt;
  unspent = p.unspent;
  held = tt;
  few = begun_as {T = T} {U = U} (2 * length added) (2 * length added) store now x y (omega arith) p.few;
}

pub gathered_err : {T U : Type 0} (most : ℕ) (store now : Store) (added : List Addition) (a b : Option Told) (n m : ℕ) (fault : CarryFault)
    → AddsOn {T = T} most store added now a b n m (Err fault) → AddsOn {T = U} most store added now a b n m (Err fault)
gathered_err {T} {U} most store now added a b n m fault p = record {
  works = works_front (KeepsStanding most store added) (λ (_ : T). Gathers most store added now) (KeepsStanding most store added)
      (λ (_ : U). Gathers most store added now) a b n m fault (λ h g e. e) p.works;
  unspent = tt;
  last = p.last;
  held = p.held;
  few = begun_same {T = T} {U = U} (2 * length added) (2 * length added) store now fault (omega arith) p.few;
}

-- a fault of no chunk behind what was done
pub gathered_fault : {T U : Type 0} (most : ℕ) (store now : Store) (added : List Addition) (a b : Option Told) (n m : ℕ) (x : T) (fault : CarryFault)
    → target_failed fault ≡ false → IsNoChunk fault → (fault ≡ used_up → ⊥) → AddsOn {T = T} most store added now a b n m (Ok x)
    → AddsOn {T = U} most store added now a b n m (Err fault)
gathered_fault {T} {U} most store now added a b n m x fault still unbroken unused p = record {
  works = record {
    each = p.works.each;
    end = tt;
    ends = subst (λ (d : Bool). FailedWhere d a b) (sym still) p.works.ends;
    cause = subst (λ (d : Bool). RoseWhere d n m) (sym still) p.works.cause;
  };
  last = stops_unbroken a (repo_view store.repo).keys added fault unbroken;
  unspent = tt;
  held = λ spares. (p.unspent, held_until (is_target fault) Within most store now added a b (held_gathered most store now added a b p.works.end));
  few = begun_fault {T = T} {U = U} (2 * length added) (2 * length added) store now x fault (omega arith) unused p.few;
}

-- a store fits from body to body
pub gathered_fits : {T : Type 0} (most : ℕ) (store now : Store) (added : List Addition) (a b : Option Told) (n m : ℕ) (x : T)
    → IfSome a (λ t. StoreFits false store t.history) → AddsOn most store added now a b n m (Ok x) → IfSome b (λ t. StoreFits false now t.history)
gathered_fits {T} most store now added a b n m x fits p =
    works_known (λ h. StoreFits false store h) (λ h. StoreFits false now h) (KeepsStanding most store added) (λ (_ : T). Gathers most store added now) a b n m x
    (λ h g f e. (e false f).fits_now) fits p.works

-- ---- archives that come, one after another
