-- The first manifest is put, or refused.
use Rattle.std.proofs.Common.{◌≡◌, ◌↔◌, ◌+◌, ◌-◌, ◌≤◌, ℕ, false, List, drop, length, Option, Result, Ok, Err, OnOk, IfErr, IsErrOf}
use Rattle.std.proofs.Common.{refl, ap, subst, arith}
use Rattle.ferry_base.specs.Limits.{content_limit, zero_id}
use Rattle.ferry_blob.specs.Blob.{blocks, sealed}
use Rattle.ferry_disk.specs.Act.{History}
use Rattle.ferry_disk.specs.Device.{Told}
use Rattle.ferry_manifest.specs.Manifest.Text.{manifest_of}
use Rattle.ferry_nonce.specs.Counter.{IsExhausted}
use Rattle.ferry_nonce.specs.declared.counter.Counter.{Counter}
use Rattle.ferry_nonce.specs.declared.fault.NonceFault.TheVariants as Nonces
use Rattle.ferry_repo.specs.Opening.{mode_of}
use Rattle.ferry_segment.specs.Entry.{PutEntry}
use Rattle.ferry_store.proofs.SoundLemmas.{stands_now}
use Rattle.ferry_store.proofs.StepLemmas.{did_nothing, moments_here}
use Rattle.ferry_store.specs.Fault.{depot_failed}
use Rattle.ferry_store.specs.New.{PutsManifest, RefusesFirst, first_manifest, manifest_blob, manifest_bytes}
use Rattle.ferry_store.specs.State.{Did, IsSound, KeepsSound, RefusesManifest, RefusesPut, ShowsStanding, TakesEntry}
use Rattle.ferry_store.specs.declared.fault.StoreRefusal.{StoreRefusal}
use Rattle.ferry_store.specs.declared.fault.StoreRefusal.TheVariants.{Repo, Write, Nonce, Committed, TooLarge, Entropy, Memory}
use Rattle.ferry_store.specs.declared.key.Basis.{Basis}
use Rattle.ferry_write.specs.Room.{after_entry}
use Rattle.ferry_write.specs.declared.session.Session.{Session}

-- ---- refused before it is put

manifest_first : (session : Session) (counter : Counter) (size : ℕ) (refusal : StoreRefusal) → RefusesManifest size refusal
    → RefusesFirst session counter size refusal
manifest_first session counter size TooLarge is = is
manifest_first session counter size Entropy is = tt
manifest_first session counter size Memory is = tt
manifest_first session counter size (Repo fault) is = absurd is
manifest_first session counter size (Write fault) is = absurd is
manifest_first session counter size (Nonce fault) is = absurd is
manifest_first session counter size Committed is = absurd is

manifest_still : (size : ℕ) (refusal : StoreRefusal) → RefusesManifest size refusal → depot_failed refusal ≡ false
manifest_still size TooLarge is = refl
manifest_still size Entropy is = refl
manifest_still size Memory is = refl
manifest_still size (Repo fault) is = absurd is
manifest_still size (Write fault) is = absurd is
manifest_still size (Nonce fault) is = absurd is
manifest_still size Committed is = absurd is

pub keeps_here : (session : Session) (counter : Counter) (h : History) → KeepsSound session counter h h
keeps_here session counter h counts written u =
    moments_here (IsSound (ShowsStanding written) counts) h (stands_now counts session counter written h u)

pub manifest_unput : (basis : Basis) (timestamp salt : List ℕ) (session : Session) (counter : Counter) (a : Option Told) (n : ℕ) (refusal : StoreRefusal)
    → RefusesManifest (length (manifest_bytes basis timestamp salt)) refusal
    → PutsManifest basis timestamp salt session counter session counter a a n n (Err refusal)
manifest_unput basis timestamp salt session counter a n refusal is = record {
  did = did_nothing {T = Unit {0}} (KeepsSound session counter)
      (λ _. TakesEntry session counter (PutEntry zero_id (manifest_blob basis timestamp salt counter.free)) session counter) a n refusal
      (manifest_still (length (manifest_bytes basis timestamp salt)) refusal is) (keeps_here session counter);
  reads = tt;
  session_is = tt;
  fits = tt;
  refused = manifest_first session counter (length (manifest_bytes basis timestamp salt)) refusal is;
}

-- ---- put

pub always : {T F : Type 0} (P : Type 0) (r : Result T F) → P → OnOk r P
always P (Ok x) p = p
always P (Err f) p = tt

unexhausted : (r : Result (Unit {0}) StoreRefusal) (P : Type 0) → (IsErrOf r (Nonce Nonces.Exhausted) ↔ P) → OnOk r (P → ⊥)
unexhausted (Ok x) P e = λ p. let bad = e.1 p in let no : ⊥ = cc in no
unexhausted (Err f) P e = tt

both_ok : (P Q : Type 0) (x : Result (Unit {0}) StoreRefusal) → OnOk x P → OnOk x Q → OnOk x (P × Q)
both_ok P Q (Ok y) p q = (p, q)
both_ok P Q (Err f) p q = tt

put_first : (session : Session) (counter : Counter) (size : ℕ) (refusal : StoreRefusal) → RefusesPut session (84 + size) refusal
    → (refusal ≡ Nonce Nonces.Exhausted → IsExhausted counter (blocks size)) → RefusesFirst session counter size refusal
put_first session counter size (Nonce Nonces.Exhausted) is exhausted = exhausted refl
put_first session counter size (Nonce Nonces.Device) is exhausted = tt
put_first session counter size (Nonce Nonces.Memory) is exhausted = absurd is
put_first session counter size (Nonce Nonces.Missing) is exhausted = absurd is
put_first session counter size (Nonce Nonces.Text) is exhausted = absurd is
put_first session counter size (Write fault) is exhausted = is
put_first session counter size Memory is exhausted = tt
put_first session counter size (Repo fault) is exhausted = absurd is
put_first session counter size Committed is exhausted = absurd is
put_first session counter size TooLarge is exhausted = absurd is
put_first session counter size Entropy is exhausted = absurd is

err_same : (f e : StoreRefusal) → f ≡ e → IsErrOf {T = Unit {0}} (Err f) e
err_same f e same = ap (λ (x : StoreRefusal). Err x) same

refused_first : (session : Session) (counter : Counter) (size more : ℕ) (r : Result (Unit {0}) StoreRefusal) → more ≡ 84 + size
    → IfErr r (RefusesPut session more) → (IsErrOf r (Nonce Nonces.Exhausted) ↔ IsExhausted counter (blocks size))
    → IfErr r (RefusesFirst session counter size)
refused_first session counter size more (Ok x) e is exhausted = tt
refused_first session counter size more (Err f) e is exhausted =
    put_first session counter size f (subst (λ (k : ℕ). RefusesPut session k f) e is)
    (λ same. exhausted.0 (err_same f (Nonce Nonces.Exhausted) same))

pub manifest_put : (basis : Basis) (timestamp salt buffer : List ℕ) (session now : Session) (counter drawn : Counter) (a b : Option Told) (n m : ℕ)
    (r : Result (Unit {0}) StoreRefusal) → drop 43 buffer ≡ manifest_bytes basis timestamp salt
    → length buffer ≡ 43 + length (manifest_bytes basis timestamp salt)
    → manifest_of basis.keys (manifest_bytes basis timestamp salt) ≡ Ok (first_manifest timestamp)
    → length (manifest_bytes basis timestamp salt) ≤ content_limit
    → Did (KeepsSound session counter)
    (λ _. TakesEntry session counter (PutEntry zero_id (sealed basis.keys (mode_of basis.config) counter.free (drop 43 buffer))) now drawn) a b n m r
    → OnOk r (now ≡ after_entry session (41 + length buffer)) → IfErr r (RefusesPut session (41 + length buffer))
    → (IsErrOf r (Nonce Nonces.Exhausted) ↔ IsExhausted counter (blocks (length buffer - 43)))
    → PutsManifest basis timestamp salt session counter now drawn a b n m r
manifest_put basis timestamp salt buffer session now counter drawn a b n m r is size reads small did ok refused exhausted =
    let bytes = manifest_bytes basis timestamp salt in
    let more : 41 + length buffer ≡ 84 + length bytes = omega (arith, size) in
    let inside : length buffer - 43 ≡ length bytes = omega (arith, size) in
    let spent : IsErrOf r (Nonce Nonces.Exhausted) ↔ IsExhausted counter (blocks (length bytes)) =
    subst (λ (k : ℕ). IsErrOf r (Nonce Nonces.Exhausted) ↔ IsExhausted counter (blocks k)) inside exhausted in
    record {
      did = subst (λ (x : List ℕ). Did (KeepsSound session counter)
          (λ _. TakesEntry session counter (PutEntry zero_id (sealed basis.keys (mode_of basis.config) counter.free x)) now drawn) a b n m r) is did;
      reads = always (manifest_of basis.keys bytes ≡ Ok (first_manifest timestamp)) r reads;
      session_is = subst (λ (k : ℕ). OnOk r (now ≡ after_entry session k)) more ok;
      fits = both_ok (length bytes ≤ content_limit) (IsExhausted counter (blocks (length bytes)) → ⊥) r (always (length bytes ≤ content_limit) r small)
          (unexhausted r (IsExhausted counter (blocks (length bytes))) spent);
      refused = refused_first session counter (length bytes) (41 + length buffer) r more refused spent;
    }

-- ---- an object's place is of no use

abbrev pub untold : {T : Type 0} → Result T StoreRefusal → Result (Unit {0}) StoreRefusal
untold (Ok x) = Ok tt
untold (Err f) = Err f

pub did_untold : {T : Type 0} (E Q : History → History → Type 0) (a b : Option Told) (n m : ℕ) (r : Result T StoreRefusal)
    → Did E (λ _. Q) a b n m r → Did E (λ _. Q) a b n m (untold r)
did_untold E Q a b n m (Ok x) p = record { each = p.each; end = p.end; ends = p.ends; cause = p.cause }
did_untold E Q a b n m (Err f) p = record { each = p.each; end = tt; ends = p.ends; cause = p.cause }

pub ok_untold : {T : Type 0} (P : Type 0) (r : Result T StoreRefusal) → OnOk r P → OnOk (untold r) P
ok_untold P (Ok x) p = p
ok_untold P (Err f) p = tt

pub err_untold : {T : Type 0} (P : StoreRefusal → Type 0) (r : Result T StoreRefusal) → IfErr r P → IfErr (untold r) P
err_untold P (Ok x) p = tt
err_untold P (Err f) p = p

same_err : {T : Type 0} (f e : StoreRefusal) → IsErrOf {T = T} (Err f) e → f ≡ e
same_err f e same = cc

abbrev pub err_of : {T : Type 0} → StoreRefusal → Result T StoreRefusal
err_of f = Err f

pub exactly_untold : {T : Type 0} (e : StoreRefusal) (P : Type 0) (r : Result T StoreRefusal) → (IsErrOf r e ↔ P) → (IsErrOf (untold r) e ↔ P)
exactly_untold e P (Ok x) is = (λ bad. let no : ⊥ = cc in absurd no, λ p. let bad = is.1 p in let no : ⊥ = cc in absurd no)
exactly_untold {T} e P (Err f) is =
    (λ same. is.0 (ap (err_of {T = T}) (same_err {T = Unit {0}} f e same)), λ p. ap (err_of {T = Unit {0}}) (same_err {T = T} f e (is.1 p)))
