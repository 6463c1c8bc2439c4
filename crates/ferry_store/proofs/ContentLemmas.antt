-- A content is put.
use Rattle.std.proofs.Common.{◌≡◌, ◌↔◌, ◌+◌, ◌-◌, ℕ, false, List, length, Option, Ok, Err}
use Rattle.std.proofs.Common.{IsErrOf, refl, ap, subst, arith}
use Rattle.ferry_blob.specs.Blob.{OpensTo, blocks}
use Rattle.ferry_disk.proofs.MomentLemmas.{between_both, between_map}
use Rattle.ferry_disk.specs.Act.{History}
use Rattle.ferry_disk.specs.Device.{Told}
use Rattle.ferry_disk.specs.Moments.{Between}
use Rattle.ferry_log.specs.declared.place.Place.{Place}
use Rattle.ferry_nonce.specs.Counter.{IsExhausted}
use Rattle.ferry_nonce.specs.declared.counter.Counter.{Counter}
use Rattle.ferry_nonce.specs.declared.fault.NonceFault.TheVariants as Nonces
use Rattle.ferry_repo.specs.Opening.{RepoState}
use Rattle.ferry_segment.specs.Entry.{PutEntry}
use Rattle.ferry_store.proofs.CallLemmas.{fail_where, rose_where}
use Rattle.ferry_store.proofs.PutLemmas.{err_of, keeps_here}
use Rattle.ferry_store.proofs.StepLemmas.{did_nothing}
use Rattle.ferry_store.specs.Content.{HasPut, RefusesNew, blob_for, with_place}
use Rattle.ferry_store.specs.Fault.{depot_failed}
use Rattle.ferry_store.specs.State.{Did, IsPlaced, KeepsSound, RefusesPut, TakesEntry}
use Rattle.ferry_store.specs.declared.fault.StoreRefusal.{StoreRefusal}
use Rattle.ferry_store.specs.declared.fault.StoreRefusal.TheVariants.{Repo, Write, Nonce, Committed, TooLarge, Entropy, Memory}
use Rattle.ferry_write.specs.Script.{AllDone}
use Rattle.ferry_write.specs.declared.session.Session.{Session}

-- ---- a content is put

-- refused before any call of the depot
pub unput : (session : Session) (counter : Counter) (Q : Unit {0} → History → History → Type 0) (a : Option Told) (n : ℕ) (refusal : StoreRefusal)
    → refusal ≡ Memory → Did {T = Unit {0}} (KeepsSound session counter) Q a a n n (Err refusal)
unput session counter Q a n refusal is =
    did_nothing {T = Unit {0}} (KeepsSound session counter) Q a n refusal (ap depot_failed is) (keeps_here session counter)

-- a step that was `Ok`, and a refusal behind it
pub did_refused : {T U : Type 0} (E : History → History → Type 0) (Q : T → History → History → Type 0) (R : U → History → History → Type 0)
    (a b : Option Told) (n m : ℕ) (x : T) (refusal : StoreRefusal) → depot_failed refusal ≡ false → Did E Q a b n m (Ok x)
    → Did {T = U} E R a b n m (Err refusal)
did_refused E Q R a b n m x refusal still p = record {
  each = p.each;
  end = tt;
  ends = fail_where (depot_failed refusal) false a b still p.ends;
  cause = rose_where (depot_failed refusal) false n m still p.cause;
}

pub content_put : (repo repo_now : RepoState) (session now : Session) (counter drawn : Counter) (id content blob : List ℕ) (place : Place)
    (a b : Option Told) (n m : ℕ) → blob ≡ blob_for repo counter content
    → OpensTo repo.keys id (blob_for repo counter content) content → repo_now ≡ with_place repo id place
    → Did {T = Place} (KeepsSound session counter) (λ _. TakesEntry session counter (PutEntry id blob) now drawn) a b n m (Ok place)
    → Between a b (IsPlaced session counter blob place)
    → Did {T = Unit {0}} (KeepsSound session counter) (λ _. HasPut repo session counter id content repo_now now drawn) a b n m (Ok tt)
content_put repo repo_now session now counter drawn id content blob place a b n m same opens learnt p placed = record {
  each = p.each;
  end = between_map a b
      (λ h g. (AllDone h g × TakesEntry session counter (PutEntry id blob) now drawn h g) × IsPlaced session counter blob place h g)
      (λ h g. AllDone h g × HasPut repo session counter id content repo_now now drawn h g)
      (λ h g e. (
        e.0.0,
        record {
          takes = subst (λ (x : List ℕ). TakesEntry session counter (PutEntry id x) now drawn h g) same e.0.1;
          opens = opens;
          place = place;
          learnt = learnt;
          placed = subst (λ (x : List ℕ). IsPlaced session counter x place h g) same e.1;
        },
      ))
      (between_both a b (λ h g. AllDone h g × TakesEntry session counter (PutEntry id blob) now drawn h g) (IsPlaced session counter blob place) p.end placed);
  ends = p.ends;
  cause = p.cause;
}

-- ---- why it isn't put

new_by : (session : Session) (counter : Counter) (content : List ℕ) (refusal : StoreRefusal) → RefusesPut session (84 + length content) refusal
    → (refusal ≡ Nonce Nonces.Exhausted → IsExhausted counter (blocks (length content))) → RefusesNew session counter content refusal
new_by session counter content (Nonce Nonces.Exhausted) is exhausted = exhausted refl
new_by session counter content (Nonce Nonces.Device) is exhausted = tt
new_by session counter content (Nonce Nonces.Memory) is exhausted = absurd is
new_by session counter content (Nonce Nonces.Missing) is exhausted = absurd is
new_by session counter content (Nonce Nonces.Text) is exhausted = absurd is
new_by session counter content (Write fault) is exhausted = is
new_by session counter content Memory is exhausted = tt
new_by session counter content (Repo fault) is exhausted = absurd is
new_by session counter content Committed is exhausted = absurd is
new_by session counter content TooLarge is exhausted = absurd is
new_by session counter content Entropy is exhausted = absurd is

pub new_refused : (session : Session) (counter : Counter) (content : List ℕ) (size : ℕ) (refusal : StoreRefusal) → size ≡ 43 + length content
    → RefusesPut session (41 + size) refusal
    → (IsErrOf {T = Place} (Err refusal) (Nonce Nonces.Exhausted) ↔ IsExhausted counter (blocks (size - 43))) → RefusesNew session counter content refusal
new_refused session counter content size refusal is put exhausted =
    let more : 41 + size ≡ 84 + length content = omega (arith, is) in
    let inside : size - 43 ≡ length content = omega (arith, is) in
    new_by session counter content refusal (subst (λ (k : ℕ). RefusesPut session k refusal) more put)
    (λ same. subst (λ (k : ℕ). IsExhausted counter (blocks k)) inside (exhausted.0 (ap (err_of {T = Place}) same)))
