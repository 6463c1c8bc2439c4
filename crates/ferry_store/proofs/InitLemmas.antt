-- The first commit, or why it isn't made.
use Rattle.std.proofs.Common.{◌≡◌, inl, ◌+◌, ◌-◌, ◌≤◌, ◌<◌, ◌^◌, ℕ, Bool, true, false, List, ◌++◌, length, ltb, ltb-true, ltb-false, Option, Some}
use Rattle.std.proofs.Common.{None, Result, Ok, Err, IfErr, IfSome, option_map}
use Rattle.std.proofs.Common.{refl, sym, ◌∙◌, ap, subst, arith, append_assoc}
use Rattle.ferry_base.specs.Limits.{content_limit, zero_id}
use Rattle.ferry_blob.proofs.CallerLemmas.{blocks_from}
use Rattle.ferry_blob.proofs.SealLemmas.{sealed-opens}
use Rattle.ferry_blob.specs.Blob.{OpensTo, blocks}
use Rattle.ferry_config.specs.Config.{config_of}
use Rattle.ferry_config.specs.Text.{config_text}
use Rattle.ferry_disk.specs.Act.{files_now}
use Rattle.ferry_disk.specs.Device.{Told, RoseWhere, told_files}
use Rattle.ferry_disk.specs.Files.{Files, file_at}
use Rattle.ferry_disk.specs.declared.name.Name.TheVariants.{Nonce as NonceFile}
use Rattle.ferry_mac.specs.declared.keys.Keys.{Keys}
use Rattle.ferry_manifest.specs.Manifest.Text.{manifest_of}
use Rattle.ferry_nonce.specs.Counter.{IsExhausted, reserved_for}
use Rattle.ferry_nonce.specs.declared.counter.Counter.{Counter}
use Rattle.ferry_nonce.specs.declared.fault.NonceFault.TheVariants as Nonces
use Rattle.ferry_repo.specs.Opening.{mode_of}
use Rattle.ferry_repo.specs.declared.secret.Secret.{Secret}
use Rattle.ferry_segment.specs.Entry.{PutEntry}
use Rattle.ferry_store.proofs.CallLemmas.{BeginsFirst, HasFirst, first_both, first_commit, first_front, makes_both}
use Rattle.ferry_store.proofs.PutLemmas.{always}
use Rattle.ferry_store.proofs.StepLemmas.{did_as, did_front, did_known}
use Rattle.ferry_store.specs.Init.{MakesFirst, MakesOf, RefusesMaking}
use Rattle.ferry_store.specs.Key.{BasisOpens, IsFree}
use Rattle.ferry_store.specs.New.{FirstSound, IsBasis, IsOpenable, Makes, MakesSound, PutsManifest, RefusesFirst, TakesFirst, first_manifest}
use Rattle.ferry_store.specs.New.{manifest_blob, manifest_bytes}
use Rattle.ferry_store.specs.State.{Begins, CommitsSound, Did, IsFirst, IsTarget, RefusesBegin, SettingsSound, TakesCommit, TakesSettings}
use Rattle.ferry_store.specs.Fault.{depot_failed, source_failed}
use Rattle.ferry_stops.specs.Counters.{IsNonce}
use Rattle.ferry_store.specs.declared.fault.StoreRefusal.{StoreRefusal}
use Rattle.ferry_store.specs.declared.fault.StoreRefusal.TheVariants.{Repo, Write, Nonce, Committed, TooLarge, Entropy, Memory}
use Rattle.ferry_store.specs.declared.key.Basis.{Basis}
use Rattle.ferry_write.specs.Room.{AreUsedUp}
use Rattle.ferry_write.specs.declared.fault.WriteFault.TheVariants as Writes
use Rattle.ferry_write.specs.declared.session.Session.{Session}

-- ---- refusals

target_first : (session : Session) (counter : Counter) (size : ℕ) (refusal : StoreRefusal) → IsTarget refusal → RefusesFirst session counter size refusal
target_first session counter size (Write Writes.Device) is = tt
target_first session counter size (Write Writes.Memory) is = absurd is
target_first session counter size (Write Writes.Numbers) is = absurd is
target_first session counter size Memory is = tt
target_first session counter size (Repo fault) is = absurd is
target_first session counter size (Nonce fault) is = absurd is
target_first session counter size Committed is = absurd is
target_first session counter size TooLarge is = absurd is
target_first session counter size Entropy is = absurd is

target_of : (session : Session) (counter : Counter) (size : ℕ) (r : Result (Unit {0}) StoreRefusal) → IfErr r IsTarget
    → IfErr r (RefusesFirst session counter size)
target_of session counter size (Ok x) is = tt
target_of session counter size (Err f) is = target_first session counter size f is

-- ---- what is put opens

-- a first counter has blocks left where it isn't exhausted
first_free : (counter : Counter) (n : ℕ) → counter.reserved ≡ counter.free → 1 ≤ n → (IsExhausted counter n → ⊥) → counter.free < 2 ^ 64
first_free counter n same some left = by_bool (ltb (2 ^ 64 - 1) (reserved_for counter n)) refl where
  by_bool : (b : Bool) → ltb (2 ^ 64 - 1) (reserved_for counter n) ≡ b → counter.free < 2 ^ 64
  by_bool true e =
      let above = ltb-true (2 ^ 64 - 1) (reserved_for counter n) e in
      absurd (left (omega (arith, same, some), above))
  by_bool false e = let within = ltb-false (2 ^ 64 - 1) (reserved_for counter n) e in omega (arith, within)

openable : (secret : Secret) (basis : Basis) (timestamp salt : List ℕ) (free : ℕ) → config_of (config_text basis.config) ≡ Ok basis.config
    → BasisOpens secret basis → manifest_of basis.keys (manifest_bytes basis timestamp salt) ≡ Ok (first_manifest timestamp) → free < 2 ^ 64
    → IsOpenable secret timestamp (config_text basis.config) (manifest_blob basis timestamp salt free)
openable secret basis timestamp salt free reads opens manifest fits = record {
  config = basis.config;
  reads = reads;
  iterations = opens.iterations;
  key = opens.key;
  key_opens = opens.key_opens;
  content = manifest_bytes basis timestamp salt;
  blob_opens = subst (λ (k : Keys). OpensTo k zero_id (manifest_blob basis timestamp salt free) (manifest_bytes basis timestamp salt)) (sym opens.keys_are)
      (sealed-opens basis.keys (mode_of basis.config) free zero_id (manifest_bytes basis timestamp salt) fits (inl refl));
  manifest_is = subst (λ (k : Keys). manifest_of k (manifest_bytes basis timestamp salt) ≡ Ok (first_manifest timestamp)) (sym opens.keys_are) manifest;
}

-- ---- the first commit

pub first_settings : (basis : Basis) (timestamp salt : List ℕ) (session : Session) (counter : Counter) (a b : Option Told) (n m : ℕ) (refusal : StoreRefusal)
    → IsTarget refusal → Did {T = Unit {0}} SettingsSound (λ _. TakesSettings basis.config) a b n m (Err refusal)
    → MakesFirst basis timestamp salt session counter session counter a b n m (Err refusal)
first_settings basis timestamp salt session counter a b n m refusal is p = record {
  did = λ secret opens. first_front secret session counter basis.config
      (λ _. TakesFirst basis.config (manifest_blob basis timestamp salt counter.free) session counter session counter) a b n m refusal p;
  reads = tt;
  openable = λ secret opens. tt;
  fits = tt;
  refused = target_first session counter (length (manifest_bytes basis timestamp salt)) refusal is;
}

pub first_unput : (basis : Basis) (timestamp salt : List ℕ) (session now : Session) (counter drawn : Counter) (a b c : Option Told) (n m k : ℕ)
    (refusal : StoreRefusal) → Did {T = Unit {0}} SettingsSound (λ _. TakesSettings basis.config) a b n m (Ok tt)
    → PutsManifest basis timestamp salt session counter now drawn b c m k (Err refusal)
    → MakesFirst basis timestamp salt session counter now drawn a c n k (Err refusal)
first_unput basis timestamp salt session now counter drawn a b c n m k refusal p puts = record {
  did = λ secret opens. did_front (FirstSound secret session counter)
      (λ _. HasFirst basis.config session counter (PutEntry zero_id (manifest_blob basis timestamp salt counter.free)) now drawn)
      (FirstSound secret session counter)
      (λ _. TakesFirst basis.config (manifest_blob basis timestamp salt counter.free) session counter now drawn) a c n k refusal (λ h g e. e)
      (first_both secret basis.config session now counter drawn (PutEntry zero_id (manifest_blob basis timestamp salt counter.free)) a b c n m k (Err refusal)
      p puts.did);
  reads = tt;
  openable = λ secret opens. tt;
  fits = tt;
  refused = puts.refused;
}

pub first_committed : (basis : Basis) (timestamp salt : List ℕ) (session now done : Session) (counter drawn : Counter) (a b c d : Option Told) (n m k j : ℕ)
    (r : Result (Unit {0}) StoreRefusal) → counter.reserved ≡ counter.free → config_of (config_text basis.config) ≡ Ok basis.config
    → Did {T = Unit {0}} SettingsSound (λ _. TakesSettings basis.config) a b n m (Ok tt)
    → PutsManifest basis timestamp salt session counter now drawn b c m k (Ok tt)
    → Did {T = Unit {0}} (CommitsSound now drawn) (λ _. TakesCommit now drawn done) c d k j r → IfErr r IsTarget
    → MakesFirst basis timestamp salt session counter done drawn a d n j r
first_committed basis timestamp salt session now done counter drawn a b c d n m k j r same reads p puts q is =
    let bytes = manifest_bytes basis timestamp salt in
    let blob = manifest_blob basis timestamp salt counter.free in
    let free = first_free counter (blocks (length bytes)) same (blocks_from (length bytes)) puts.fits.1 in
    record {
      did = λ secret opens. first_commit secret timestamp basis.config blob session now done counter drawn a c d n k j r
          (openable secret basis timestamp salt counter.free reads opens puts.reads free)
          (first_both secret basis.config session now counter drawn (PutEntry zero_id blob) a b c n m k (Ok tt) p puts.did) q;
      reads = always (config_of (config_text basis.config) ≡ Ok basis.config) r reads;
      openable = λ secret opens. always (IsOpenable secret timestamp (config_text basis.config) blob) r
          (openable secret basis timestamp salt counter.free reads opens puts.reads free);
      fits = always ((length bytes ≤ content_limit) × (IsExhausted counter (blocks (length bytes)) → ⊥)) r puts.fits;
      refused = target_of session counter (length bytes) r is;
    }

-- ---- all of it

pub free_still : (refusal : StoreRefusal) → IsFree refusal → depot_failed refusal ≡ false
free_still Entropy is = refl
free_still Memory is = refl
free_still (Repo fault) is = absurd is
free_still (Write fault) is = absurd is
free_still (Nonce fault) is = absurd is
free_still Committed is = absurd is
free_still TooLarge is = absurd is

begin_making : (timestamp : List ℕ) (files : Files) (refusal : StoreRefusal) → RefusesBegin false files refusal → RefusesMaking timestamp files refusal
begin_making timestamp files (Nonce Nonces.Text) is = is
begin_making timestamp files (Nonce Nonces.Device) is = tt
begin_making timestamp files (Nonce Nonces.Missing) is = absurd (let e = is.1 in let no : ⊥ = cc in no)
begin_making timestamp files (Nonce Nonces.Exhausted) is = absurd is
begin_making timestamp files (Nonce Nonces.Memory) is = absurd is
begin_making timestamp files (Write Writes.Device) is = tt
begin_making timestamp files (Write Writes.Memory) is = absurd is
begin_making timestamp files (Write Writes.Numbers) is = absurd is
begin_making timestamp files Memory is = tt
begin_making timestamp files (Repo fault) is = absurd is
begin_making timestamp files Committed is = absurd is
begin_making timestamp files TooLarge is = absurd is
begin_making timestamp files Entropy is = absurd is

free_making : (timestamp : List ℕ) (files : Files) (refusal : StoreRefusal) → IsFree refusal → RefusesMaking timestamp files refusal
free_making timestamp files Entropy is = tt
free_making timestamp files Memory is = tt
free_making timestamp files (Repo fault) is = absurd is
free_making timestamp files (Write fault) is = absurd is
free_making timestamp files (Nonce fault) is = absurd is
free_making timestamp files Committed is = absurd is
free_making timestamp files TooLarge is = absurd is

exhausted_as : (counter : Counter) (n : ℕ) → counter.reserved ≡ counter.free → IsExhausted counter n
    → IsExhausted (record { free = counter.free; reserved = counter.free; spent = false }) n
exhausted_as counter n same is = (subst (λ (k : ℕ). k < counter.free + n) same is.0, is.1)

no_numbers : (session : Session) → session.last ≡ None → AreUsedUp session.last → ⊥
no_numbers session none used = let bad = subst AreUsedUp none used in let no : ⊥ = omega (arith, bad) in no

first_making : (basis : Basis) (timestamp salt : List ℕ) (session : Session) (counter : Counter) (files : Files) (refusal : StoreRefusal)
    → length salt ≡ 64 → session.last ≡ None → counter.reserved ≡ counter.free → IsNonce (file_at files NonceFile) counter.free
    → RefusesFirst session counter (length (manifest_bytes basis timestamp salt)) refusal → RefusesMaking timestamp files refusal
first_making basis timestamp salt session counter files TooLarge size none same number is =
    record { basis = basis; salt = salt; salt_size = size; long = is }
first_making basis timestamp salt session counter files (Nonce Nonces.Exhausted) size none same number is = record {
  free = counter.free;
  number = number;
  basis = basis;
  salt = salt;
  salt_size = size;
  exhausted = exhausted_as counter (blocks (length (manifest_bytes basis timestamp salt))) same is;
}
first_making basis timestamp salt session counter files (Nonce Nonces.Device) size none same number is = tt
first_making basis timestamp salt session counter files (Nonce Nonces.Missing) size none same number is = absurd is
first_making basis timestamp salt session counter files (Nonce Nonces.Text) size none same number is = absurd is
first_making basis timestamp salt session counter files (Nonce Nonces.Memory) size none same number is = absurd is
first_making basis timestamp salt session counter files (Write Writes.Device) size none same number is = tt
first_making basis timestamp salt session counter files (Write Writes.Memory) size none same number is = absurd is
first_making basis timestamp salt session counter files (Write Writes.Numbers) size none same number is = absurd (no_numbers session none is.1)
first_making basis timestamp salt session counter files Entropy size none same number is = tt
first_making basis timestamp salt session counter files Memory size none same number is = tt
first_making basis timestamp salt session counter files (Repo fault) size none same number is = absurd is
first_making basis timestamp salt session counter files Committed size none same number is = absurd is

making_told : (told : Option Told) (P Q : Files → Type 0) → ((files : Files) → P files → Q files) → IfSome told (λ t. P (told_files t))
    → IfSome told (λ t. Q (told_files t))
making_told None P Q step p = tt
making_told (Some t) P Q step p = step (told_files t) p

pub begin_refused : (timestamp : List ℕ) (told : Option Told) (refusal : StoreRefusal) → IfSome told (λ t. RefusesBegin false (told_files t) refusal)
    → IfSome told (λ t. RefusesMaking timestamp (told_files t) refusal)
begin_refused timestamp told refusal is =
    making_told told (λ files. RefusesBegin false files refusal) (λ files. RefusesMaking timestamp files refusal)
    (λ files x. begin_making timestamp files refusal x) is

pub basis_refused : (timestamp : List ℕ) (told : Option Told) (refusal : StoreRefusal) → IsFree refusal
    → IfSome told (λ t. RefusesMaking timestamp (told_files t) refusal)
basis_refused timestamp None refusal is = tt
basis_refused timestamp (Some t) refusal is = free_making timestamp (told_files t) refusal is

pub first_refused : (basis : Basis) (timestamp salt : List ℕ) (session : Session) (counter : Counter) (told : Option Told) (refusal : StoreRefusal)
    → length salt ≡ 64 → IsFirst None 524288000 counter session → IfSome told (λ t. IsNonce (file_at (told_files t) NonceFile) counter.free)
    → RefusesFirst session counter (length (manifest_bytes basis timestamp salt)) refusal → IfSome told (λ t. RefusesMaking timestamp (told_files t) refusal)
first_refused basis timestamp salt session counter told refusal size first number is =
    making_told told (λ files. IsNonce (file_at files NonceFile) counter.free) (λ files. RefusesMaking timestamp files refusal)
    (λ files x. first_making basis timestamp salt session counter files refusal size (ap (λ (s : Session). s.last) first.session_is) first.reserved x is) number

-- bytes drawn one after another
pub drawn_both : (old mid now : Option (List ℕ)) (x y : List ℕ) → mid ≡ option_map (λ (d : List ℕ). d ++ x) old
    → now ≡ option_map (λ (d : List ℕ). d ++ y) mid → now ≡ option_map (λ (d : List ℕ). d ++ (x ++ y)) old
drawn_both None mid now x y e f = f ∙ ap (option_map (λ (d : List ℕ). d ++ y)) e
drawn_both (Some d) mid now x y e f = f ∙ (ap (option_map (λ (l : List ℕ). l ++ y)) e ∙ ap Some (append_assoc d x y))

pub still_cause : (refusal : StoreRefusal) (n : ℕ) → source_failed refusal ≡ false → RoseWhere (source_failed refusal) n n
still_cause refusal n e = subst (λ (d : Bool). RoseWhere d n n) (sym e) refl

-- a repository is made
pub makes_ok : (secret : Secret) (iterations : ℕ) (timestamp : List ℕ) (basis : Basis) (counter : Counter) (session : Session) (counter_now : Counter)
    (session_now : Session) (old mid now : Option (List ℕ)) (a b c : Option Told) (n m k : ℕ) → BasisOpens secret basis
    → session_now.limit ≡ basis.config.limit → (bytes : List ℕ) × IsBasis secret iterations bytes basis × (mid ≡ option_map (λ (d : List ℕ). d ++ bytes) old)
    → IfSome a (λ t. IsNonce (file_at (told_files t) NonceFile) counter.free)
    → Did {T = Counter × Session} BeginsFirst (λ x. Begins None x.0 x.1) a b n m (Ok (counter, session))
    → (salt : List ℕ) × (length salt ≡ 64 × (now ≡ option_map (λ (d : List ℕ). d ++ salt) mid)
    × MakesFirst basis timestamp salt session counter session_now counter_now b c m k (Ok tt))
    → (bytes : List ℕ) × ((now ≡ option_map (λ (d : List ℕ). d ++ bytes) old)
    × Did {T = Counter × Session} (MakesSound secret) (λ x. MakesOf secret iterations timestamp bytes x.0 x.1) a c n k (Ok (counter_now, session_now)))
makes_ok secret iterations timestamp basis counter session counter_now session_now old mid now a b c n m k opens limit drawn number p made =
    let bytes = drawn.0 ++ made.0 in
    let salt = made.0 in
    let blob = manifest_blob basis timestamp salt counter.free in
    let first = made.1.2 in (
      bytes,
      (
        drawn_both old mid now drawn.0 salt drawn.2 made.1.1,
        did_as (MakesSound secret)
            (λ _ h g. IsNonce (file_at (files_now h) NonceFile) counter.free × Makes basis.config blob counter_now session_now h g)
            (MakesSound secret) (λ x. MakesOf secret iterations timestamp bytes x.0 x.1) a c n k (counter_now, session_now) (counter_now, session_now)
            (λ h g e. e)
            (λ h g e. record {
              basis = basis;
              basis_bytes = drawn.0;
              basis_is = drawn.1;
              salt = salt;
              salt_size = made.1.0;
              bytes_are = refl;
              free = counter.free;
              number = e.0;
              openable = first.openable secret opens;
              makes = e.1;
              reads = first.reads;
              limit = limit;
            })
            (did_known (λ h. IsNonce (file_at (files_now h) NonceFile) counter.free) (MakesSound secret) (λ _. Makes basis.config blob counter_now session_now)
            a c n k (counter_now, session_now) number
            (makes_both {T = Counter × Session} secret basis.config blob counter session counter_now session_now (counter_now, session_now) a b c n m k p
            (first.did secret opens))),
      ),
    )
