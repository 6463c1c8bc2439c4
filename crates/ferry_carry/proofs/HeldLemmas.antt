-- Lemmas on specs/Adding.antt and specs/Filling.antt: what a refusal left of what was added, and what is known of that from body to body.
use Rattle.std.proofs.Common.{◌≡◌, ◌⊎◌, inl, inr, true, false, Bool, List, [], ◌++◌, ℕ, Option, Some, None, Result, Ok, Err, IfErr, IfSome, subst}
use Rattle.std.proofs.Common.{sym, ap, ◌∙◌}
use Rattle.ferry_disk.proofs.MomentLemmas.{between_map, between_then}
use Rattle.ferry_disk.specs.Act.{History}
use Rattle.ferry_disk.specs.Device.{Told}
use Rattle.ferry_disk.specs.Moments.{Between}
use Rattle.ferry_mac.specs.declared.keys.Keys.{Keys}
use Rattle.ferry_manifest.specs.Manifest.Text.{ManifestText}
use Rattle.ferry_repo.specs.Opening.{repo_view}
use Rattle.ferry_repo.specs.declared.fault.RepoFault.{RepoFault}
use Rattle.ferry_store.proofs.StepLemmas.{here_each}
use Rattle.ferry_store.specs.Standing.{entries_of}
use Rattle.ferry_store.specs.Store.{IsUnspent, StoreFits}
use Rattle.ferry_store.specs.declared.fault.StoreRefusal.TheVariants as Stores
use Rattle.ferry_store.specs.declared.store.Store.{Store}
use Rattle.ferry_piece.proofs.AddingLemmas.{HoldsAll, held_until, spent_unbroken, target_apart}
use Rattle.ferry_piece.proofs.PutsLemmas.{Allows, adds_at, adds_here, adds_then, allows_within, first_at, first_then}
use Rattle.ferry_piece.specs.Adding.{HoldsRefused, HoldsUntil, IsNoChunk, SparesStore}
use Rattle.ferry_carry.proofs.GrowNamedLemmas.{accepted_as}
use Rattle.ferry_carry.specs.Carrying.{Origin}
use Rattle.ferry_piece.specs.Fault.{IsOfSource}
use Rattle.ferry_carry.specs.Filling.{WhereHeard}
use Rattle.ferry_carry.specs.Grow.{GrowsBy, job}
use Rattle.ferry_carry.specs.Refusals.{is_of_telling}
use Rattle.ferry_piece.specs.Puts.{Addition, AddsAll, AddsFirst, AtBegin, Border, Within, border_behind}
use Rattle.ferry_piece.specs.Stops.{is_target}
use Rattle.ferry_piece.specs.declared.fault.CarryFault.{CarryFault}
use Rattle.ferry_piece.specs.declared.fault.CarryFault.TheVariants as Carry

-- ---- faults that are none of the source

-- a flight that isn't begun
pub begin_apart : (fault : CarryFault) (name : List ℕ) (P : Type 0) → (fault ≡ Carry.Memory) ⊎ ((fault ≡ Carry.NotFound name) × P) → IsOfSource fault → ⊥
begin_apart fault name P (inl e) source = subst IsOfSource e source
begin_apart fault name P (inr e) source = subst IsOfSource e.0 source

-- those of a body that are all of the target
pub targets_apart : {T : Type 0} (result : Result T CarryFault) → IfErr result (λ fault. is_target fault ≡ true)
    → IfErr result (λ fault. IsOfSource fault → ⊥)
targets_apart {T} (Ok x) target = tt
targets_apart {T} (Err fault) target = target_apart fault target

-- ---- what was added

-- contents of archives that came were all added
pub grows_all : (earlier : List Addition) (accepted : ManifestText) (from : Origin) (chosen : List (List ℕ)) (added : List Addition) (store now : Store)
    (h g : History) → GrowsBy (job earlier accepted from chosen) added store now h g → HoldsAll (border_behind AtBegin earlier) from.most store added now h g
grows_all earlier accepted from chosen added store now h g grows counts fits = let end = grows counts fits in (end.fits_now, end.puts)

-- of nothing, where no call was made
pub holds_here : (at : Border) (most : ℕ) (store : Store) (h : History) → HoldsAll at most store [] store h h
holds_here at most store h counts fits = (fits, adds_here at (repo_view store.repo).keys most (entries_of fits.written))

-- from border to border
until_at : (target : Bool) (at other : Border) (most : ℕ) (store now : Store) (added : List Addition) (h g : History)
    → ((counts : Bool) (fits : StoreFits counts store h) → Allows at other (entries_of fits.written)) → HoldsUntil target at most store added now h g
    → HoldsUntil target other most store added now h g
until_at true at other most store now added h g allows all = λ counts fits.
    let end = all counts fits in (
      end.0,
      (
        end.1.0,
        first_at at other (repo_view store.repo).keys most (entries_of fits.written) added (entries_of end.0) (allows counts fits) end.1.1,
      ),
    )
until_at false at other most store now added h g allows all = λ counts fits.
    let end = all counts fits in (
      end.0,
      adds_at at other (repo_view store.repo).keys most (entries_of fits.written) added (entries_of end.0.written) (allows counts fits) end.1,
    )

-- what was added within an archive was added at any border
pub holds_within : (at : Border) (most : ℕ) (store now : Store) (added : List Addition) (h g : History) → HoldsAll Within most store added now h g
    → HoldsAll at most store added now h g
holds_within at most store now added h g all =
    until_at false Within at most store now added h g (λ counts fits. allows_within at (entries_of fits.written)) all

-- some, and others behind them until a refusal
until_then : (target : Bool) (at : Border) (most : ℕ) (store middle now : Store) (some more : List Addition) (h g i : History)
    → (repo_view middle.repo).keys ≡ (repo_view store.repo).keys → HoldsAll at most store some middle h g
    → HoldsUntil target (border_behind at some) most middle more now g i → HoldsUntil target at most store (some ++ more) now h i
until_then true at most store middle now some more h g i same p q = λ counts fits.
    let first = p counts fits in
    let second = q counts first.0 in
    let keys = (repo_view store.repo).keys in
    let a = entries_of fits.written in
    let b = entries_of first.0.written in
    let c = entries_of second.0 in (
      second.0,
      (
        second.1.0,
        first_then at keys most a b c some more first.1
            (subst (λ (k : Keys). AddsFirst (border_behind at some) k most b more c) same second.1.1),
      ),
    )
until_then false at most store middle now some more h g i same p q = λ counts fits.
    let first = p counts fits in
    let second = q counts first.0 in
    let keys = (repo_view store.repo).keys in
    let a = entries_of fits.written in
    let b = entries_of first.0.written in
    let c = entries_of second.0.written in (
      second.0,
      adds_then at keys most a b c some more first.1 (subst (λ (k : Keys). AddsAll (border_behind at some) k most b more c) same second.1),
    )

-- ---- what a refusal left

-- from border to border
pub held_at : {T : Type 0} (at other : Border) (most : ℕ) (store now : Store) (added : List Addition) (a b : Option Told) (result : Result T CarryFault)
    → ((h : History) (counts : Bool) (fits : StoreFits counts store h) → Allows at other (entries_of fits.written))
    → HoldsRefused at most store added now a b result → HoldsRefused other most store added now a b result
held_at {T} at other most store now added a b (Ok x) allows held = tt
held_at {T} at other most store now added a b (Err fault) allows held = λ spares.
    let target = is_target fault in
    let left = held spares in (
      left.0,
      between_map a b (HoldsUntil target at most store added now) (HoldsUntil target other most store added now)
          (λ h g all. until_at target at other most store now added h g (allows h) all) left.1,
    )

pub held_within : {T : Type 0} (at : Border) (most : ℕ) (store now : Store) (added : List Addition) (a b : Option Told) (result : Result T CarryFault)
    → HoldsRefused Within most store added now a b result → HoldsRefused at most store added now a b result
held_within {T} at most store now added a b result held =
    held_at {T = T} Within at most store now added a b result (λ h counts fits. allows_within at (entries_of fits.written)) held

-- behind a body that added all of some
pub held_then : {T : Type 0} (at : Border) (most : ℕ) (store middle now : Store) (some more : List Addition) (a b c : Option Told)
    (result : Result T CarryFault) → (repo_view middle.repo).keys ≡ (repo_view store.repo).keys → (IsUnspent store → IsUnspent middle)
    → Between a b (HoldsAll at most store some middle)
    → HoldsRefused (border_behind at some) most middle more now b c result → HoldsRefused at most store (some ++ more) now a c result
held_then {T} at most store middle now some more a b c (Ok x) same unspent all held = tt
held_then {T} at most store middle now some more a b c (Err fault) same unspent all held = λ spares.
    let target = is_target fault in
    let left = held spares in (
      λ was. left.0 (unspent was),
      between_then a b c (HoldsAll at most store some middle) (HoldsUntil target (border_behind at some) most middle more now)
          (HoldsUntil target at most store (some ++ more) now)
          (λ h g i p q. until_then target at most store middle now some more h g i same p q) all left.1,
    )

-- where nothing was done
pub held_nothing : (at : Border) (most : ℕ) (store : Store) (a : Option Told) (fault : CarryFault)
    → HoldsRefused {T = Unit {0}} at most store [] store a a (Err fault)
held_nothing at most store a fault spares = (
  λ was. was,
  held_until (is_target fault) at most store store [] a a (here_each (HoldsAll at most store [] store) a (λ h. holds_here at most store h)),
)

-- of a store with an archive accepted, and of the store before
until_accepted : (target : Bool) (at : Border) (most : ℕ) (store middle now : Store) (added : List Addition) (h g : History)
    → middle ≡ record store { accepted = middle.accepted } → HoldsUntil target at most middle added now h g → HoldsUntil target at most store added now h g
until_accepted true at most store middle now added h g same all =
    (subst (λ (s : Store). HoldsUntil true at most s added now h g → HoldsUntil true at most store added now h g) (sym same)
    (λ after counts fits. after counts (accepted_as counts store middle.accepted h fits))) all
until_accepted false at most store middle now added h g same all =
    (subst (λ (s : Store). HoldsUntil false at most s added now h g → HoldsUntil false at most store added now h g) (sym same)
    (λ after counts fits. after counts (accepted_as counts store middle.accepted h fits))) all

accepted_unspent : (store middle : Store) → middle ≡ record store { accepted = middle.accepted } → IsUnspent store → IsUnspent middle
accepted_unspent store middle same unspent = record {
  session = ap (λ (s : Store). s.session.spent) same ∙ unspent.session;
  counter = ap (λ (s : Store). s.counter.spent) same ∙ unspent.counter;
  itself = ap (λ (s : Store). s.spent) same ∙ unspent.itself;
}

pub held_accepted : {T : Type 0} (at : Border) (most : ℕ) (store middle now : Store) (added : List Addition) (a b : Option Told) (result : Result T
    CarryFault)
    → middle ≡ record store { accepted = middle.accepted } → HoldsRefused at most middle added now a b result
    → HoldsRefused at most store added now a b result
held_accepted {T} at most store middle now added a b (Ok x) same held = tt
held_accepted {T} at most store middle now added a b (Err fault) same held = λ spares.
    let target = is_target fault in
    let left = held spares in (
      λ was. left.0 (accepted_unspent store middle same was),
      between_map a b (HoldsUntil target at most middle added now) (HoldsUntil target at most store added now)
          (λ h g all. until_accepted target at most store middle now added h g same all) left.1,
    )

-- ---- refusals that spend a store

-- a line that isn't told
pub telling_spent : (fault : CarryFault) → is_of_telling fault ≡ true → SparesStore fault → ⊥
telling_spent (Carry.Source f) telling spares = let never : ⊥ = cc in never
telling_spent (Carry.Target (Stores.Repo f)) telling spares = let never : ⊥ = cc in never
telling_spent (Carry.Target (Stores.Write f)) telling spares = let never : ⊥ = cc in never
telling_spent (Carry.Target (Stores.Nonce f)) telling spares = let never : ⊥ = cc in never
telling_spent (Carry.Target Stores.Committed) telling spares = let never : ⊥ = cc in never
telling_spent (Carry.Target Stores.TooLarge) telling spares = let never : ⊥ = cc in never
telling_spent (Carry.Target Stores.Entropy) telling spares = let never : ⊥ = cc in never
telling_spent (Carry.Target Stores.Memory) telling spares = let never : ⊥ = cc in never
telling_spent (Carry.Taken name) telling spares = let never : ⊥ = cc in never
telling_spent (Carry.NotFound name) telling spares = let never : ⊥ = cc in never
telling_spent Carry.Pieces telling spares = let never : ⊥ = cc in never
telling_spent Carry.Memory telling spares = spares
telling_spent Carry.Record telling spares = let never : ⊥ = cc in never

-- what spends a store is no chunk
pub spent_chunk : {T : Type 0} (result : Result T CarryFault) → IfErr result (λ fault. SparesStore fault → ⊥) → IfErr result IsNoChunk
spent_chunk {T} (Ok x) spent = tt
spent_chunk {T} (Err fault) spent = spent_unbroken fault spent

-- ---- what is known of a fault of the source

-- of one device from another
pub heard_to : (a b : Option Told) (fault : CarryFault) (P Q : RepoFault → Type 0)
    → ((refusal : RepoFault) → IfSome a (λ _. P refusal) → IfSome b (λ _. Q refusal)) → WhereHeard a fault P → WhereHeard b fault Q
heard_to a b (Carry.Source f) P Q step known = λ of_files. step f (known of_files)
heard_to a b (Carry.Target refusal) P Q step known = tt
heard_to a b (Carry.Taken name) P Q step known = tt
heard_to a b (Carry.NotFound name) P Q step known = tt
heard_to a b Carry.Pieces P Q step known = tt
heard_to a b Carry.Memory P Q step known = tt
heard_to a b Carry.Record P Q step known = tt

pub heard_map : (a : Option Told) (fault : CarryFault) (P Q : RepoFault → Type 0) → ((refusal : RepoFault) → P refusal → Q refusal)
    → WhereHeard a fault P → WhereHeard a fault Q
heard_map None fault P Q step known = heard_to None None fault P Q (λ _ _. tt) known
heard_map (Some t) fault P Q step known = heard_to (Some t) (Some t) fault P Q step known

-- of each
pub heard_each : (a : Option Told) (fault : CarryFault) (P : RepoFault → Type 0) → ((refusal : RepoFault) → P refusal) → WhereHeard a fault P
heard_each a (Carry.Source f) P known = λ _. by a where
  by : (o : Option Told) → IfSome o (λ _. P f)
  by None = tt
  by (Some t) = known f
heard_each a (Carry.Target refusal) P known = tt
heard_each a (Carry.Taken name) P known = tt
heard_each a (Carry.NotFound name) P known = tt
heard_each a Carry.Pieces P known = tt
heard_each a Carry.Memory P known = tt
heard_each a Carry.Record P known = tt

-- what is known where a target tells its files later is known where it told them before
pub known_back : (P : Type 0) (E : History → History → Type 0) (a b : Option Told) → Between a b E → IfSome b (λ _. P) → IfSome a (λ _. P)
known_back P E None b between known = tt
known_back P E (Some t) b between known = subst (λ (o : Option Told). IfSome o (λ _. P)) between.1 known

pub heard_back : (a b : Option Told) (fault : CarryFault) (P : RepoFault → Type 0) (E : History → History → Type 0) → Between a b E → WhereHeard b fault P
    → WhereHeard a fault P
heard_back a b fault P E between known = heard_to b a fault P P (λ refusal p. known_back (P refusal) E a b between p) known

-- where the fault is none of the source nothing is known
pub heard_apart : (a : Option Told) (fault : CarryFault) (P : RepoFault → Type 0) → (IsOfSource fault → ⊥) → WhereHeard a fault P
heard_apart a (Carry.Source f) P apart = absurd (apart tt)
heard_apart a (Carry.Target refusal) P apart = tt
heard_apart a (Carry.Taken name) P apart = tt
heard_apart a (Carry.NotFound name) P apart = tt
heard_apart a Carry.Pieces P apart = tt
heard_apart a Carry.Memory P apart = tt
heard_apart a Carry.Record P apart = tt
