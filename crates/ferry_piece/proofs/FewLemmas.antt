-- Lemmas on the segments that begin, from a call to the one above.
use Rattle.std.proofs.Common.{◌≡◌, ◌+◌, ◌*◌, ◌≤◌, ◌++◌, ℕ, List, Result, Ok, Err, length, length-append, sym, ap, subst, arith}
use Rattle.ferry_repo.specs.declared.fault.RepoFault.{RepoFault}
use Rattle.ferry_repo.specs.declared.fault.RepoFault.TheVariants as Repos
use Rattle.ferry_store.proofs.FewLemmas.{few_more, few_none, few_then, IsUsedUp as IsStoreUsed}
use Rattle.ferry_store.specs.Limits.{BeginsFew}
use Rattle.ferry_store.specs.declared.fault.StoreRefusal.{StoreRefusal}
use Rattle.ferry_store.specs.declared.fault.StoreRefusal.TheVariants as Stores
use Rattle.ferry_store.specs.declared.store.Store.{Store}
use Rattle.ferry_piece.specs.Adding.{IsUsedUp, BeginsSegments}
use Rattle.ferry_piece.specs.Fault.{source_fault, target_fault}
use Rattle.ferry_piece.specs.Puts.{Addition}
use Rattle.ferry_piece.specs.declared.fault.CarryFault.{CarryFault}
use Rattle.ferry_piece.specs.declared.fault.CarryFault.TheVariants as Carry
use Rattle.ferry_write.specs.declared.fault.WriteFault.TheVariants as Writes
use Rattle.ferry_write.specs.declared.session.Session.{Session}

-- ---- faults

-- the fault of used up numbers
abbrev pub used_up : CarryFault
used_up = Carry.Target (Stores.Write Writes.Numbers)

used_of : {T : Type 0} (fault : CarryFault) → IsUsedUp {T = T} (Err fault) → fault ≡ used_up
used_of fault e = let same : fault ≡ used_up = cc in same

target_of : (refusal : StoreRefusal) → target_fault refusal ≡ used_up → refusal ≡ Stores.Write Writes.Numbers
target_of (Stores.Repo fault) e = let same : Stores.Repo fault ≡ Stores.Write Writes.Numbers = cc in same
target_of (Stores.Write fault) e = let same : Stores.Write fault ≡ Stores.Write Writes.Numbers = cc in same
target_of (Stores.Nonce fault) e = let same : Stores.Nonce fault ≡ Stores.Write Writes.Numbers = cc in same
target_of Stores.Committed e = let same : Stores.Committed ≡ Stores.Write Writes.Numbers = cc in same
target_of Stores.TooLarge e = let same : Stores.TooLarge ≡ Stores.Write Writes.Numbers = cc in same
target_of Stores.Entropy e = let same : Stores.Entropy ≡ Stores.Write Writes.Numbers = cc in same
target_of Stores.Memory e = absurd (let no : ⊥ = cc in no)

-- a fault of a source isn't it
pub source_unused : (fault : RepoFault) → source_fault fault ≡ used_up → ⊥
source_unused Repos.NoCommit e = let no : ⊥ = cc in no
source_unused (Repos.Damaged segment at) e = let no : ⊥ = cc in no
source_unused (Repos.Config f) e = let no : ⊥ = cc in no
source_unused (Repos.Key f) e = let no : ⊥ = cc in no
source_unused (Repos.Missing id) e = let no : ⊥ = cc in no
source_unused (Repos.Blob id f) e = let no : ⊥ = cc in no
source_unused (Repos.Manifest f) e = let no : ⊥ = cc in no
source_unused (Repos.Archive id f) e = let no : ⊥ = cc in no
source_unused (Repos.Item id f) e = let no : ⊥ = cc in no
source_unused (Repos.Size id) e = let no : ⊥ = cc in no
source_unused (Repos.KeyFile f) e = let no : ⊥ = cc in no
source_unused (Repos.Other file config) e = let no : ⊥ = cc in no
source_unused Repos.NoKey e = let no : ⊥ = cc in no
source_unused Repos.Device e = let no : ⊥ = cc in no
source_unused Repos.Memory e = let no : ⊥ = cc in no

pub memory_unused : Carry.Memory ≡ used_up → ⊥
memory_unused e = let no : ⊥ = cc in no

-- ---- a call of the store

pub begun_ok : {T U : Type 0} (n m : ℕ) (store now : Store) (x : T) (y : U) → n ≤ m
    → BeginsFew n store.session.last now.session.last (IsStoreUsed {T = T} (Ok x)) → BeginsSegments {T = U} m store now (Ok y)
begun_ok {T} {U} n m store now x y most few =
    few_more n m store.session.last now.session.last _ _ most (λ e. absurd (let no : ⊥ = cc in no)) few

pub begun_err : {T U : Type 0} (n m : ℕ) (store now : Store) (refusal : StoreRefusal) → n ≤ m
    → BeginsFew n store.session.last now.session.last (IsStoreUsed {T = T} (Err refusal)) → BeginsSegments {T = U} m store now (Err (target_fault refusal))
begun_err {T} {U} n m store now refusal most few =
    few_more n m store.session.last now.session.last _ _ most
    (λ e. ap (λ (f : StoreRefusal). Err f) (target_of refusal (used_of {T = U} (target_fault refusal) e))) few

-- ---- bodies

-- none begins
pub begun_none : {T : Type 0} (n : ℕ) (store : Store) (x : T) → BeginsSegments {T = T} n store store (Ok x)
begun_none n store x = few_none n store.session.last _ (λ e. let no : ⊥ = cc in no)

pub begun_nothing : {T : Type 0} (n : ℕ) (store : Store) (fault : CarryFault) → (fault ≡ used_up → ⊥) → BeginsSegments {T = T} n store store (Err fault)
begun_nothing {T} n store fault unused = few_none n store.session.last _ (λ e. unused (used_of {T = T} fault e))

-- another value, the same fault, and one of another body
pub begun_as : {T U : Type 0} (n m : ℕ) (store now : Store) (x : T) (y : U) → n ≤ m → BeginsSegments {T = T} n store now (Ok x)
    → BeginsSegments {T = U} m store now (Ok y)
begun_as n m store now x y most few =
    few_more n m store.session.last now.session.last _ _ most (λ e. absurd (let no : ⊥ = cc in no)) few

pub begun_same : {T U : Type 0} (n m : ℕ) (store now : Store) (fault : CarryFault) → n ≤ m → BeginsSegments {T = T} n store now (Err fault)
    → BeginsSegments {T = U} m store now (Err fault)
begun_same {T} {U} n m store now fault most few =
    few_more n m store.session.last now.session.last _ _ most (λ e. ap (λ (f : CarryFault). Err f) (used_of {T = U} fault e)) few

pub begun_fault : {T U : Type 0} (n m : ℕ) (store now : Store) (x : T) (fault : CarryFault) → n ≤ m → (fault ≡ used_up → ⊥)
    → BeginsSegments {T = T} n store now (Ok x) → BeginsSegments {T = U} m store now (Err fault)
begun_fault {T} {U} n m store now x fault most unused few =
    few_more n m store.session.last now.session.last _ _ most (λ e. absurd (unused (used_of {T = U} fault e))) few

pub begun_more : {T : Type 0} (n m : ℕ) (store now : Store) (result : Result T CarryFault) → n ≤ m → BeginsSegments n store now result
    → BeginsSegments m store now result
begun_more n m store now result most few = few_more n m store.session.last now.session.last _ _ most (λ e. e) few

-- one behind another
pub begun_then : {T U : Type 0} (n m k : ℕ) (store middle now : Store) (first : Result T CarryFault) (result : Result U CarryFault) → n + m ≤ k
    → BeginsSegments n store middle first → BeginsSegments m middle now result → BeginsSegments k store now result
begun_then {T} {U} n m k store middle now first result most one two =
    begun_more {T = U} (n + m) k store now result most
    (few_then n m store.session.last middle.session.last now.session.last _ _ one two)

-- those of contents behind contents
pub begun_all : {T U : Type 0} (store middle now : Store) (some more : List Addition) (first : Result T CarryFault) (result : Result U CarryFault)
    → BeginsSegments (2 * length some) store middle first → BeginsSegments (2 * length more) middle now result
    → BeginsSegments (2 * length (some ++ more)) store now result
begun_all {T} {U} store middle now some more first result one two =
    begun_then {T = T} {U = U} (2 * length some) (2 * length more) _ store middle now first result
    (let size = length-append some more in omega (arith, size)) one two

-- where a call in front, or behind, left the session as it was
pub begun_kept : {T : Type 0} (store middle now : Store) (n : ℕ) (result : Result T CarryFault) → now.session ≡ middle.session
    → BeginsSegments n store middle result → BeginsSegments n store now result
begun_kept {T} store middle now n result same few =
    subst (λ (s : Session). BeginsFew n store.session.last s.last (IsUsedUp {T = T} result)) (sym same) few

pub begun_from : {T : Type 0} (store middle now : Store) (n : ℕ) (result : Result T CarryFault) → middle.session ≡ store.session
    → BeginsSegments n middle now result → BeginsSegments n store now result
begun_from {T} store middle now n result same few =
    subst (λ (s : Session). BeginsFew n s.last now.session.last (IsUsedUp {T = T} result)) same few
