-- Lemmas on specs/Limits.antt: from the limits of each call to those of the call above.
use Rattle.std.proofs.Common.{◌≡◌, ◌≢◌, ◌↔◌, inl, inr, ◌+◌, ◌-◌, ◌<◌, ◌≤◌, ℕ, Bool, true, false, Option, Some, None}
use Rattle.std.proofs.Common.{Result, Ok, Err, IfErr, IsErrOf, IsTrue, BTreeSet, List, ◌||◌, refl, sym, ◌∙◌, ap, subst, arith}
use Rattle.ferry_base.specs.Limits.{content_limit}
use Rattle.ferry_blob.specs.Blob.{blocks}
use Rattle.ferry_log.specs.declared.place.Place.{Place}
use Rattle.ferry_disk.specs.Device.{Told}
use Rattle.ferry_disk.specs.Moments.{Between}
use Rattle.ferry_nonce.specs.Counter.{IsExhausted, Reserves, spends as nonce_spends}
use Rattle.ferry_nonce.specs.declared.counter.Counter.{Counter}
use Rattle.ferry_nonce.specs.declared.fault.NonceFault.{NonceFault}
use Rattle.ferry_nonce.specs.declared.fault.NonceFault.TheVariants as Nonces
use Rattle.ferry_repo.specs.Opening.{repo_view}
use Rattle.ferry_repo.specs.declared.repo.Repo.{Repo as Repository}
use Rattle.ferry_store.proofs.StepLemmas.{here_each}
use Rattle.ferry_store.specs.Commit.{IsUnspentBy}
use Rattle.ferry_store.specs.Fault.{nonce_refusal, spends, write_refusal}
use Rattle.ferry_store.specs.Limits.{ComesWhere, IsFailure, LacksSegment, LeavesBoth, LimitsManifest, LimitsPut}
use Rattle.ferry_store.specs.State.{RefusesCommit, RefusesManifest, RefusesPut}
use Rattle.ferry_store.specs.declared.fault.StoreRefusal.{StoreRefusal}
use Rattle.ferry_store.specs.declared.fault.StoreRefusal.TheVariants.{Repo, Write, Nonce, Committed, TooLarge, Entropy, Memory}
use Rattle.ferry_store.specs.declared.store.Store.{Store}
use Rattle.ferry_write.specs.Room.{AreUsedUp, after_entry, must_begin, room_in}
use Rattle.ferry_write.specs.declared.fault.WriteFault.{WriteFault}
use Rattle.ferry_write.specs.declared.fault.WriteFault.TheVariants as Writes
use Rattle.ferry_write.specs.declared.session.Session.{Session}

-- ---- one refusal

module _ {T : Type 0} (refusal : StoreRefusal) (P : Type 0) where
  -- the call was done
  pub comes_done : (x : T) → (P → ⊥) → ComesWhere {T = T} (Ok x) refusal P
  comes_done x none = record { only = λ e. absurd (let no : ⊥ = cc in no); always = none }

  -- it is this one
  pub comes_here : P → ComesWhere {T = T} (Err refusal) refusal P
  comes_here p = record { only = λ e. p; always = λ q. inl refl }

  -- it is another one
  pub comes_other : (f : StoreRefusal) → (f ≡ refusal → ⊥) → (P → ⊥) → ComesWhere {T = T} (Err f) refusal P
  comes_other f other none = record { only = λ e. absurd (other (let same : f ≡ refusal = cc in same)); always = λ p. absurd (none p) }

  -- a device failed, or memory was refused
  pub comes_failed : (f : StoreRefusal) → (f ≡ refusal → ⊥) → IsFailure f → ComesWhere {T = T} (Err f) refusal P
  comes_failed f other failed = record { only = λ e. absurd (other (let same : f ≡ refusal = cc in same)); always = λ p. inr failed }

-- a refusal of a call below, under another condition
comes_by : {T U : Type 0} (f refusal : StoreRefusal) (P Q : Type 0) → (P → Q) → (Q → P) → ComesWhere {T = T} (Err f) refusal P
    → ComesWhere {T = U} (Err f) refusal Q
comes_by f refusal P Q to back comes = record {
  only = λ e. to (comes.only (let same : f ≡ refusal = cc in ap (λ (r : StoreRefusal). Err r) same));
  always = λ q. comes.always (back q);
}

failure_other : (f refusal : StoreRefusal) → IsFailure f → (IsFailure refusal → ⊥) → f ≡ refusal → ⊥
failure_other f refusal failed none same = none (subst IsFailure same failed)

-- ---- what is put

module _ {T : Type 0} (session : Session) (counter : Counter) (more count : ℕ) where
  -- a device failed, or memory was refused
  pub put_failed : (f : StoreRefusal) → IsFailure f → LimitsPut {T = T} (Err f) session counter more count
  put_failed f failed = record {
    exhausted = comes_failed _ _ f (failure_other f (Nonce Nonces.Exhausted) failed (λ x. x)) failed;
    numbers = comes_failed _ _ f (failure_other f (Write Writes.Numbers) failed (λ x. x)) failed;
  }

  pub put_memory : (f : StoreRefusal) → f ≡ Memory → LimitsPut {T = T} (Err f) session counter more count
  put_memory f is = put_failed f (subst IsFailure (sym is) tt)

  -- the counter refused
  pub put_undrawn : (f : NonceFault) → (f ≢ Nonces.Missing) → (f ≢ Nonces.Text) → (IsErrOf {T = ℕ} (Err f) Nonces.Exhausted ↔ IsExhausted counter count)
      → LimitsPut {T = T} (Err (nonce_refusal f)) session counter more count
  put_undrawn Nonces.Exhausted missing text is = record {
    exhausted = comes_here _ _ (is.0 refl);
    numbers = comes_other _ _ (Nonce Nonces.Exhausted) (λ e. let no : ⊥ = cc in no) (λ p. p.0 (is.0 refl));
  }
  put_undrawn Nonces.Device missing text is = put_failed (Nonce Nonces.Device) tt
  put_undrawn Nonces.Memory missing text is = put_failed Memory tt
  put_undrawn Nonces.Missing missing text is = absurd (missing refl)
  put_undrawn Nonces.Text missing text is = absurd (text refl)

  -- the session refused
  pub put_unwritten : (f : WriteFault) → (IsExhausted counter count → ⊥) → (IsErrOf {T = Place} (Err f) Writes.Numbers ↔ LacksSegment session more)
      → LimitsPut {T = T} (Err (write_refusal f)) session counter more count
  put_unwritten Writes.Device enough is = put_failed (Write Writes.Device) tt
  put_unwritten Writes.Memory enough is = put_failed Memory tt
  put_unwritten Writes.Numbers enough is = record {
    exhausted = comes_other _ _ (Write Writes.Numbers) (λ e. let no : ⊥ = cc in no) enough;
    numbers = comes_here _ _ (enough, is.0 refl);
  }

  -- it was put
  pub put_done : (x : T) → (IsExhausted counter count → ⊥) → (LacksSegment session more → ⊥) → LimitsPut {T = T} (Ok x) session counter more count
  put_done x enough begins = record { exhausted = comes_done _ _ x enough; numbers = comes_done _ _ x (λ p. begins p.1) }

-- the same answer of the call above
pub put_err_as : {T U : Type 0} (session : Session) (counter : Counter) (more count : ℕ) (f : StoreRefusal)
    → LimitsPut {T = T} (Err f) session counter more count → LimitsPut {T = U} (Err f) session counter more count
put_err_as session counter more count f limits = record {
  exhausted = comes_by f _ _ _ (λ p. p) (λ p. p) limits.exhausted;
  numbers = comes_by f _ _ _ (λ p. p) (λ p. p) limits.numbers;
}

pub put_ok_as : {T U : Type 0} (session : Session) (counter : Counter) (more count : ℕ) (x : T) (y : U)
    → LimitsPut (Ok x) session counter more count → LimitsPut (Ok y) session counter more count
put_ok_as session counter more count x y limits = record {
  exhausted = comes_done _ _ y limits.exhausted.always;
  numbers = comes_done _ _ y limits.numbers.always;
}

-- ---- a manifest

not_large : {A : Type 0} (size : ℕ) → size ≤ content_limit → content_limit < size → A
not_large size within above = absurd (let no : ⊥ = omega (arith, within, above) in no)

-- where no number is left for its segment, none is left for the commit's
begins_used : (b : Bool) (last before : Option ℕ) → IsTrue b → AreUsedUp last → AreUsedUp (Some (room_in last before b).segment)
begins_used true None before begins used = absurd (let no : ⊥ = omega (arith, used) in no)
begins_used true (Some n) None begins used = omega (arith, used)
begins_used true (Some n) (Some k) begins used = omega (arith, used)
begins_used false last before begins used = absurd (let no : ⊥ = cc in no)

lacks_used : (session : Session) (more : ℕ) → LacksSegment session more → AreUsedUp (after_entry session more).last
lacks_used session more lacks =
    begins_used (must_begin session.last session.size session.limit more) session.last session.size lacks.0 lacks.1

module _ {T : Type 0} (session : Session) (counter : Counter) (size : ℕ) where
  pub manifest_failed : (f : StoreRefusal) → IsFailure f → LimitsManifest {T = T} (Err f) session counter size
  manifest_failed f failed = record {
    large = comes_failed _ _ f (failure_other f TooLarge failed (λ x. x)) failed;
    exhausted = comes_failed _ _ f (failure_other f (Nonce Nonces.Exhausted) failed (λ x. x)) failed;
    numbers = comes_failed _ _ f (failure_other f (Write Writes.Numbers) failed (λ x. x)) failed;
  }

  pub manifest_memory : (f : StoreRefusal) → f ≡ Memory → LimitsManifest {T = T} (Err f) session counter size
  manifest_memory f is = manifest_failed f (subst IsFailure (sym is) tt)

  -- it has no bytes
  pub manifest_unpacked : (f : StoreRefusal) → RefusesManifest size f → LimitsManifest {T = T} (Err f) session counter size
  manifest_unpacked TooLarge above = record {
    large = comes_here _ _ above;
    exhausted = comes_other _ _ TooLarge (λ e. let no : ⊥ = cc in no) (λ p. let within = p.0 in let no : ⊥ = omega (arith, within, above) in no);
    numbers = comes_other _ _ TooLarge (λ e. let no : ⊥ = cc in no) (λ p. let within = p.0 in let no : ⊥ = omega (arith, within, above) in no);
  }
  manifest_unpacked Entropy is = manifest_failed Entropy tt
  manifest_unpacked Memory is = manifest_failed Memory tt
  manifest_unpacked (Repo fault) is = absurd is
  manifest_unpacked (Write fault) is = absurd is
  manifest_unpacked (Nonce fault) is = absurd is
  manifest_unpacked Committed is = absurd is

  -- it isn't put
  pub manifest_unput : (f : StoreRefusal) → size ≤ content_limit → RefusesPut session (84 + size) f
      → LimitsPut {T = Place} (Err f) session counter (84 + size) (blocks size) → LimitsManifest {T = T} (Err f) session counter size
  manifest_unput (Nonce Nonces.Device) within refused limits = manifest_failed (Nonce Nonces.Device) tt
  manifest_unput (Write Writes.Device) within refused limits = manifest_failed (Write Writes.Device) tt
  manifest_unput Memory within refused limits = manifest_failed Memory tt
  manifest_unput (Nonce Nonces.Exhausted) within refused limits = record {
    large = comes_other _ _ (Nonce Nonces.Exhausted) (λ e. let no : ⊥ = cc in no) (not_large size within);
    exhausted = comes_here _ _ (within, limits.exhausted.only refl);
    numbers = comes_other _ _ (Nonce Nonces.Exhausted) (λ e. let no : ⊥ = cc in no) (λ p. p.1.0 (limits.exhausted.only refl));
  }
  manifest_unput (Write Writes.Numbers) within refused limits =
      let lacks = limits.numbers.only refl in
      record {
        large = comes_other _ _ (Write Writes.Numbers) (λ e. let no : ⊥ = cc in no) (not_large size within);
        exhausted = comes_other _ _ (Write Writes.Numbers) (λ e. let no : ⊥ = cc in no) (λ p. lacks.0 p.1);
        numbers = comes_here _ _ (within, (lacks.0, lacks_used session (84 + size) lacks.1));
      }
  manifest_unput (Write Writes.Memory) within refused limits = absurd refused
  manifest_unput (Nonce Nonces.Missing) within refused limits = absurd refused
  manifest_unput (Nonce Nonces.Text) within refused limits = absurd refused
  manifest_unput (Nonce Nonces.Memory) within refused limits = absurd refused
  manifest_unput (Repo fault) within refused limits = absurd refused
  manifest_unput Committed within refused limits = absurd refused
  manifest_unput TooLarge within refused limits = absurd refused
  manifest_unput Entropy within refused limits = absurd refused

  -- it was put, and the commit is refused, or not
  pub manifest_uncommitted : (put : Session) (r : Result T StoreRefusal) → size ≤ content_limit → put.last ≡ (after_entry session (84 + size)).last
      → (IsExhausted counter (blocks size) → ⊥) → (IsErrOf r (Write Writes.Numbers) ↔ AreUsedUp put.last)
      → IfErr r (RefusesCommit put) → LimitsManifest r session counter size
  manifest_uncommitted put (Ok x) within last enough is refused = record {
    large = comes_done _ _ x (not_large size within);
    exhausted = comes_done _ _ x (λ p. enough p.1);
    numbers = comes_done _ _ x (λ p. let e = is.1 (subst AreUsedUp (sym last) p.1.1) in let no : ⊥ = cc in no);
  }
  manifest_uncommitted put (Err (Write Writes.Device)) within last enough is refused = manifest_failed (Write Writes.Device) tt
  manifest_uncommitted put (Err Memory) within last enough is refused = manifest_failed Memory tt
  manifest_uncommitted put (Err (Write Writes.Numbers)) within last enough is refused = record {
    large = comes_other _ _ (Write Writes.Numbers) (λ e. let no : ⊥ = cc in no) (not_large size within);
    exhausted = comes_other _ _ (Write Writes.Numbers) (λ e. let no : ⊥ = cc in no) (λ p. enough p.1);
    numbers = comes_here _ _ (within, (enough, subst AreUsedUp last refused));
  }
  manifest_uncommitted put (Err (Write Writes.Memory)) within last enough is refused = absurd refused
  manifest_uncommitted put (Err (Nonce fault)) within last enough is refused = absurd refused
  manifest_uncommitted put (Err (Repo fault)) within last enough is refused = absurd refused
  manifest_uncommitted put (Err Committed) within last enough is refused = absurd refused
  manifest_uncommitted put (Err TooLarge) within last enough is refused = absurd refused
  manifest_uncommitted put (Err Entropy) within last enough is refused = absurd refused

  -- the same by the length of its bytes behind a head
  pub manifest_unput_at : (f : StoreRefusal) (length_of : ℕ) → length_of ≡ 43 + size → size ≤ content_limit → RefusesPut session (41 + length_of) f
      → LimitsPut {T = Place} (Err f) session counter (41 + length_of) (blocks (length_of - 43)) → LimitsManifest {T = T} (Err f) session counter size
  manifest_unput_at f length_of is within refused limits =
      let entry : 41 + length_of ≡ 84 + size = omega (arith, is) in
      let inside : length_of - 43 ≡ size = omega (arith, is) in
      manifest_unput f within (subst (λ (k : ℕ). RefusesPut session k f) entry refused)
      (subst (λ (k : ℕ). LimitsPut {T = Place} (Err f) session counter k (blocks size)) entry
      (subst (λ (k : ℕ). LimitsPut {T = Place} (Err f) session counter (41 + length_of) (blocks k)) inside limits))

  pub manifest_uncommitted_at : (put : Session) (r : Result T StoreRefusal) (place : Place) (length_of : ℕ) → length_of ≡ 43 + size → size ≤ content_limit
      → put ≡ after_entry session (41 + length_of) → LimitsPut (Ok place) session counter (41 + length_of) (blocks (length_of - 43))
      → (IsErrOf r (Write Writes.Numbers) ↔ AreUsedUp put.last) → IfErr r (RefusesCommit put) → LimitsManifest r session counter size
  manifest_uncommitted_at put r place length_of is within put_is limits numbers refused =
      let entry : 41 + length_of ≡ 84 + size = omega (arith, is) in
      let inside : length_of - 43 ≡ size = omega (arith, is) in
      manifest_uncommitted put r within (ap (λ (s : Session). s.last) put_is ∙ ap (λ (k : ℕ). (after_entry session k).last) entry)
      (subst (λ (k : ℕ). IsExhausted counter (blocks k) → ⊥) inside limits.exhausted.always) numbers refused

-- the same answer of the call above
pub manifest_err_as : {T U : Type 0} (session : Session) (counter : Counter) (size : ℕ) (f : StoreRefusal)
    → LimitsManifest {T = T} (Err f) session counter size → LimitsManifest {T = U} (Err f) session counter size
manifest_err_as session counter size f limits = record {
  large = comes_by f _ _ _ (λ p. p) (λ p. p) limits.large;
  exhausted = comes_by f _ _ _ (λ p. p) (λ p. p) limits.exhausted;
  numbers = comes_by f _ _ _ (λ p. p) (λ p. p) limits.numbers;
}

pub manifest_ok_as : {T U : Type 0} (session : Session) (counter : Counter) (size : ℕ) (x : T) (y : U)
    → LimitsManifest (Ok x) session counter size → LimitsManifest (Ok y) session counter size
manifest_ok_as session counter size x y limits = record {
  large = comes_done _ _ y limits.large.always;
  exhausted = comes_done _ _ y limits.exhausted.always;
  numbers = comes_done _ _ y limits.numbers.always;
}

-- ---- what a refusal leaves that doesn't spend the store

pub nothing_done : (a : Option Told) → Between a a (λ h g. g ≡ h)
nothing_done a = here_each (λ h g. g ≡ h) a (λ h. refl)

-- no blocks were drawn
pub undrawn_leaves : (session : Session) (counter now : Counter) (number : ℕ) (f : NonceFault) (a b : Option Told) → counter.spent ≡ false
    → now ≡ record counter { spent = nonce_spends {T = ℕ} (Err f) } → Reserves {T = ℕ} number a b (Err f)
    → LeavesBoth session counter session now a b (nonce_refusal f)
undrawn_leaves session counter now number Nonces.Exhausted a b unspent is reserves = λ still. (
  refl,
  (
    is ∙ ap (λ (s : Bool). record counter { spent = s }) (sym unspent),
    subst (λ (x : Option Told). Between a x (λ h g. g ≡ h)) (sym reserves) (nothing_done a),
  ),
)
undrawn_leaves session counter now number Nonces.Device a b unspent is reserves = λ still. absurd (let no : ⊥ = cc in no)
undrawn_leaves session counter now number Nonces.Memory a b unspent is reserves = λ still. absurd (let no : ⊥ = cc in no)
undrawn_leaves session counter now number Nonces.Missing a b unspent is reserves = absurd reserves
undrawn_leaves session counter now number Nonces.Text a b unspent is reserves = absurd reserves

-- a content that is live didn't open
pub unopened_kept : (store now : Store) (repo : Repository) (opened : BTreeSet (List ℕ)) (refusal : StoreRefusal) (a b : Option Told) → store.spent ≡ false
    → repo_view repo ≡ repo_view store.repo → (spends refusal ≡ false → opened ≡ store.opened)
    → now ≡ record store { repo = repo; opened = opened; spent = spends refusal || store.spent } → Between a b (λ h g. g ≡ h)
    → IsUnspentBy store now a b refusal
unopened_kept store now repo opened refusal a b unspent view untouched is reads = λ still.
    let e : now ≡ record store { repo = repo } =
    is ∙ (ap (λ (o : BTreeSet (List ℕ)). record store { repo = repo; opened = o; spent = spends refusal || store.spent }) (untouched still)
    ∙ ap (λ (s : Bool). record store { repo = repo; spent = s || store.spent }) still) in
    let same : now.repo ≡ repo = ap (λ (s : Store). s.repo) e in
    (record { repo = ap repo_view same ∙ view; rest = e ∙ ap (λ (r : Repository). record store { repo = r }) (sym same) }, reads)
