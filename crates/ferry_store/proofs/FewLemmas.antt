-- Lemmas on specs/Limits.antt: how many segments begin.
use Rattle.std.proofs.Common.{◌≡◌, ◌+◌, ◌≤◌, ℕ, suc, Bool, true, false, Option, Some, None, Result, Ok, Err, IsErrOf, refl, sym, ◌∙◌, ap, subst, arith}
use Rattle.ferry_nonce.specs.declared.fault.NonceFault.{NonceFault}
use Rattle.ferry_nonce.specs.declared.fault.NonceFault.TheVariants as Nonces
use Rattle.ferry_store.specs.Fault.{nonce_refusal, write_refusal}
use Rattle.ferry_store.specs.Limits.{BeginsFew}
use Rattle.ferry_store.specs.State.{RefusesManifest}
use Rattle.ferry_store.specs.declared.fault.StoreRefusal.{StoreRefusal}
use Rattle.ferry_store.specs.declared.fault.StoreRefusal.TheVariants.{Memory, Write}
use Rattle.ferry_write.specs.Room.{AreUsedUp, after_commit, after_entry, behind, must_begin, room_in}
use Rattle.ferry_write.specs.declared.fault.WriteFault.{WriteFault}
use Rattle.ferry_write.specs.declared.fault.WriteFault.TheVariants as Writes
use Rattle.ferry_write.specs.declared.session.Session.{Session}

-- ---- refusals

-- an answer is that the numbers are used up
abbrev pub IsUsedUp : {T : Type 0} → Result T StoreRefusal → Type 0
IsUsedUp r = IsErrOf r (Write Writes.Numbers)

ok_apart : {T : Type 0} (x : T) → IsUsedUp {T = T} (Ok x) → ⊥
ok_apart x e = let no : ⊥ = cc in no

err_of : {T : Type 0} (refusal : StoreRefusal) → IsUsedUp {T = T} (Err refusal) → refusal ≡ Write Writes.Numbers
err_of refusal e = let same : refusal ≡ Write Writes.Numbers = cc in same

undrawn : (fault : NonceFault) → nonce_refusal fault ≡ Write Writes.Numbers → ⊥
undrawn Nonces.Missing e = let no : ⊥ = cc in no
undrawn Nonces.Text e = let no : ⊥ = cc in no
undrawn Nonces.Exhausted e = let no : ⊥ = cc in no
undrawn Nonces.Device e = let no : ⊥ = cc in no
undrawn Nonces.Memory e = let no : ⊥ = cc in no

of_numbers : (fault : WriteFault) → write_refusal fault ≡ Write Writes.Numbers → fault ≡ Writes.Numbers
of_numbers Writes.Device e = absurd (let no : ⊥ = cc in no)
of_numbers Writes.Numbers e = refl
of_numbers Writes.Memory e = absurd (let no : ⊥ = cc in no)

-- ---- one call

-- none begins
pub few_none : (n : ℕ) (last : Option ℕ) (U : Type 0) → (U → ⊥) → BeginsFew n last last U
few_none n last U none = record { few = omega arith; used = λ u. absurd (none u) }

pub few_undrawn : {T : Type 0} (n : ℕ) (last : Option ℕ) (fault : NonceFault) → BeginsFew n last last (IsUsedUp {T = T} (Err (nonce_refusal fault)))
few_undrawn {T} n last fault = few_none n last _ (λ e. undrawn fault (err_of {T = T} (nonce_refusal fault) e))

pub few_unpacked : {T : Type 0} (n size : ℕ) (last : Option ℕ) (refusal : StoreRefusal) → RefusesManifest size refusal
    → BeginsFew n last last (IsUsedUp {T = T} (Err refusal))
few_unpacked {T} n size last refusal refused = few_none n last _ (λ e. subst (RefusesManifest size) (err_of {T = T} refusal e) refused)

pub few_memory : {T : Type 0} (n : ℕ) (last now : Option ℕ) (refusal : StoreRefusal) → refusal ≡ Memory → now ≡ last
    → BeginsFew n last now (IsUsedUp {T = T} (Err refusal))
few_memory {T} n last now refusal is same =
    subst (λ (l : Option ℕ). BeginsFew n last l (IsUsedUp {T = T} (Err refusal))) (sym same)
    (few_none n last _ (λ e. let both = sym is ∙ err_of {T = T} refusal e in let no : ⊥ = cc in no))

-- a session that is spent
pub few_spent : {T : Type 0} (session now : Session) (fault : WriteFault) → now ≡ record session { spent = true }
    → (fault ≡ Writes.Numbers → AreUsedUp session.last) → BeginsFew 1 session.last now.last (IsUsedUp {T = T} (Err (write_refusal fault)))
few_spent {T} session now fault is used =
    subst (λ (l : Option ℕ). BeginsFew 1 session.last l (IsUsedUp {T = T} (Err (write_refusal fault)))) (sym (ap (λ (s : Session). s.last) is))
    (record { few = omega arith; used = λ e. used (of_numbers fault (err_of {T = T} (write_refusal fault) e)) })

room_few : (last size : Option ℕ) (begins : Bool) → suc (room_in last size begins).segment ≤ behind last + 1
room_few None None true = omega arith
room_few None None false = omega arith
room_few None (Some s) true = omega arith
room_few None (Some s) false = omega arith
room_few (Some n) None true = omega arith
room_few (Some n) None false = omega arith
room_few (Some n) (Some s) true = omega arith
room_few (Some n) (Some s) false = omega arith

-- an entry was put
pub few_entry : {T : Type 0} (session now : Session) (more : ℕ) (x : T) → now ≡ after_entry session more
    → BeginsFew 1 session.last now.last (IsUsedUp {T = T} (Ok x))
few_entry {T} session now more x is =
    subst (λ (l : Option ℕ). BeginsFew 1 session.last l (IsUsedUp {T = T} (Ok x))) (sym (ap (λ (s : Session). s.last) is))
    (record {
      few = room_few session.last session.size (must_begin session.last session.size session.limit more);
      used = λ e. absurd (ok_apart {T = T} x e);
    })

-- all was committed
pub few_commit : {T : Type 0} (session now : Session) (x : T) → now ≡ after_commit session → BeginsFew 1 session.last now.last (IsUsedUp {T = T} (Ok x))
few_commit {T} session now x is =
    subst (λ (l : Option ℕ). BeginsFew 1 session.last l (IsUsedUp {T = T} (Ok x))) (sym (ap (λ (s : Session). s.last) is))
    (record { few = omega arith; used = λ e. absurd (ok_apart {T = T} x e) })

-- ---- from a call to the one above

pub few_more : (n m : ℕ) (last now : Option ℕ) (U V : Type 0) → n ≤ m → (V → U) → BeginsFew n last now U → BeginsFew m last now V
few_more n m last now U V most back few = record { few = let f = few.few in omega (arith, most, f); used = λ v. few.used (back v) }

-- one behind another
pub few_then : (n m : ℕ) (last middle now : Option ℕ) (U V : Type 0) → BeginsFew n last middle U → BeginsFew m middle now V → BeginsFew (n + m) last now V
few_then n m last middle now U V one two = record { few = let f = one.few in let g = two.few in omega (arith, f, g); used = two.used }

-- an answer
pub few_answered : {T U : Type 0} (n : ℕ) (last now : Option ℕ) (r : Result T StoreRefusal) (x : U) → BeginsFew n last now (IsUsedUp {T = T} r)
    → BeginsFew n last now (IsUsedUp {T = U} (Ok x))
few_answered {T} {U} n last now r x few = few_more n n last now _ _ (omega arith) (λ e. absurd (ok_apart {T = U} x e)) few

-- the same refusal
pub few_refused : {T U : Type 0} (n : ℕ) (last middle now : Option ℕ) (r : Result T StoreRefusal) (refusal told : StoreRefusal) → r ≡ Err refusal
    → told ≡ refusal → now ≡ middle → BeginsFew n last middle (IsUsedUp {T = T} r) → BeginsFew n last now (IsUsedUp {T = U} (Err told))
few_refused {T} {U} n last middle now r refusal told is same kept few =
    subst (λ (l : Option ℕ). BeginsFew n last l (IsUsedUp {T = U} (Err told))) (sym kept)
    (few_more n n last middle _ _ (omega arith)
    (λ e. is ∙ ap (λ (f : StoreRefusal). Err f) (sym same ∙ err_of {T = U} told e)) few)

-- the same refusal of a call above
pub few_same : {T U : Type 0} (n m : ℕ) (last now : Option ℕ) (refusal : StoreRefusal) → n ≤ m → BeginsFew n last now (IsUsedUp {T = T} (Err refusal))
    → BeginsFew m last now (IsUsedUp {T = U} (Err refusal))
few_same {T} {U} n m last now refusal most few =
    few_more n m last now _ _ most (λ e. ap (λ (f : StoreRefusal). Err f) (err_of {T = U} refusal e)) few

-- want of memory behind a call
pub few_later : {T : Type 0} (n : ℕ) (last now : Option ℕ) (U : Type 0) (refusal : StoreRefusal) → refusal ≡ Memory → BeginsFew n last now U
    → BeginsFew n last now (IsUsedUp {T = T} (Err refusal))
few_later {T} n last now U refusal is few =
    few_more n n last now _ _ (omega arith) (λ e. absurd (let both = sym is ∙ err_of {T = T} refusal e in let no : ⊥ = cc in no)) few

-- a call that writes nothing is refused
pub few_unwritten : {T U : Type 0} (n : ℕ) (last now : Option ℕ) (r : Result T StoreRefusal) (refusal told : StoreRefusal) → r ≡ Err refusal → told ≡ refusal
    → now ≡ last → (IsUsedUp {T = T} r → ⊥) → BeginsFew n last now (IsUsedUp {T = U} (Err told))
few_unwritten {T} {U} n last now r refusal told is same kept none =
    few_refused {T = T} {U = U} n last last now r refusal told is same kept (few_none n last _ none)
