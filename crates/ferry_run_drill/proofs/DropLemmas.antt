-- Lemmas on specs/Drill.antt: what is drawn before the target's settings, and what of.
use Rattle.std.proofs.Common.{◌≡◌, false, refl, List, [], ℕ, ◌++◌, length, Option, Some, None, Result, Ok, Err, IfSome, OnOk, option_map}
use Rattle.std.proofs.Common.{sym, ◌∙◌, ap, subst}
use Rattle.std.proofs.lemmas.List.{append-nil, append_assoc}
use Rattle.ferry_carry.specs.Naming.{salts_of}
use Rattle.ferry_carry.specs.States.{drawn_from, target_state}
use Rattle.ferry_carry.specs.Telling.{ReportsWhole}
use Rattle.ferry_carry.specs.declared.options.Carried.{Carried}
use Rattle.ferry_disk.specs.Act.{History, files_now}
use Rattle.ferry_disk.specs.Device.{Told, told_files}
use Rattle.ferry_disk.specs.Moments.{Between}
use Rattle.ferry_gen.proofs.MadeLemmas.{settings_read}
use Rattle.ferry_nonce.specs.declared.fault.NonceFault.TheVariants as Nonces
use Rattle.ferry_piece.specs.Work.{Works}
use Rattle.ferry_piece.specs.declared.fault.CarryFault.{CarryFault}
use Rattle.ferry_piece.specs.declared.fault.CarryFault.TheVariants as Carry
use Rattle.ferry_disk.specs.Files.{Files}
use Rattle.ferry_repo.specs.Opening.{RepoState}
use Rattle.ferry_repo.specs.declared.fault.RepoFault.{RepoFault}
use Rattle.ferry_repo.specs.declared.fault.RepoFault.TheVariants as Repos
use Rattle.ferry_repo.specs.declared.secret.Secret.{Secret}
use Rattle.ferry_status.specs.Status.{carry_status, repo_status, store_status, target_status}
use Rattle.ferry_status.specs.declared.status.Status.{Status}
use Rattle.ferry_status.specs.declared.status.Status.TheVariants as Statuses
use Rattle.ferry_store.specs.New.{IsMade}
use Rattle.ferry_store.specs.Store.{InitMakes, MakesFiles, StoreFits}
use Rattle.ferry_store.specs.declared.fault.StoreRefusal.{StoreRefusal}
use Rattle.ferry_store.specs.declared.fault.StoreRefusal.TheVariants as Stores
use Rattle.ferry_store.specs.declared.store.Store.{Store}
use Rattle.ferry_write.specs.Session.{SettlesFirst}
use Rattle.ferry_write.specs.declared.fault.WriteFault.TheVariants as Writes
use Rattle.ferry_run_drill.proofs.WorkLemmas.{made_fits}
use Rattle.ferry_run_drill.specs.Drill.{DropsFirst, DropsWhere, HasSettingsOf, drill_time, target_secret}
use Rattle.ferry_run_drill.specs.Steps.{IsMadeNew, drill_origin}

-- ---- bytes that are drawn

-- what is drawn after other bytes
drawn_both : (x y z : Option (List ℕ)) (one other : List ℕ) → y ≡ option_map (λ all. all ++ one) x → z ≡ option_map (λ all. all ++ other) y
    → z ≡ option_map (λ all. all ++ (one ++ other)) x
drawn_both None y z one other first next = next ∙ ap (option_map (λ all. all ++ other)) first
drawn_both (Some all) y z one other first next =
    next ∙ (ap (option_map (λ all. all ++ other)) first ∙ ap Some (append_assoc all one other))

-- ---- the target that is made

settings_made : (secret : Secret) (timestamp bytes : List ℕ) (a b : Option Told) → secret ≡ target_secret → timestamp ≡ drill_time
    → IfSome a (λ t. t.history.acts ≡ []) → Between a b (InitMakes secret 1 timestamp bytes)
    → IfSome a (λ _. IfSome b (λ t. HasSettingsOf bytes (told_files t)))
settings_made secret timestamp bytes None b is time begun makes = tt
settings_made secret timestamp bytes (Some s) None is time begun makes = tt
settings_made secret timestamp bytes (Some s) (Some t) is time begun makes =
    let one : makes.0 ≡ t = (let e = makes.1 in cc) in
    let files : MakesFiles secret 1 timestamp bytes s.history t.history =
    subst (λ (u : Told). MakesFiles secret 1 timestamp bytes s.history u.history) one (makes.2 begun) in
    record {
      first = told_files t;
      free = files.free;
      made = subst (λ (l : List ℕ). IsMade target_secret 1 l files.free bytes (told_files t)) time
          (subst (λ (k : Secret). IsMade k 1 timestamp files.free bytes (told_files t)) is files.made);
      config = refl;
    }

-- its settings are of the bytes that were drawn behind those that were dropped
pub made_drops : (secret : Secret) (timestamp dropped bytes : List ℕ) (a b : Option Told) (x y z : Option (List ℕ)) → secret ≡ target_secret
    → timestamp ≡ drill_time → length dropped ≡ 100 → IfSome a (λ t. t.history.acts ≡ []) → y ≡ option_map (λ all. all ++ dropped) x
    → z ≡ option_map (λ all. all ++ bytes) y
    → Between a b (InitMakes secret 1 timestamp bytes) → DropsFirst a b x z
made_drops secret timestamp dropped bytes a b x y z is time size begun first next makes = record {
  dropped = dropped;
  size = size;
  bytes = bytes;
  rest = [];
  drew = subst (λ (l : List ℕ). z ≡ option_map (λ all. all ++ (dropped ++ l)) x) (sym (append-nil bytes)) (drawn_both x y z dropped bytes first next);
  settings = settings_made secret timestamp bytes a b is time begun makes;
}

-- ---- archives that come into it

settings_kept : (source : Files) (repo : RepoState) (names : List (List ℕ)) (store now : Store) (a b d : Option Told) (n m k : ℕ) (x y : Option (List ℕ))
    (total : Carried) (bytes : List ℕ) → Works SettlesFirst IsMadeNew a b n m (Ok store)
    → ReportsWhole (drill_origin source repo) names (target_state b m store) (target_state d k now) (drawn_from x y) (Ok total)
    → IfSome a (λ _. IfSome b (λ t. HasSettingsOf bytes (told_files t))) → IfSome a (λ _. IfSome d (λ t. HasSettingsOf bytes (told_files t)))
settings_kept source repo names store now None b d n m k x y total bytes made reports settings = tt
settings_kept source repo names store now (Some s) b None n m k x y total bytes made reports settings = tt
settings_kept source repo names store now (Some s) None (Some t) n m k x y total bytes made reports settings =
    absurd (let e = made.end.1 in let no : ⊥ = cc in no)
settings_kept source repo names store now (Some s) (Some u) (Some t) n m k x y total bytes made reports settings =
    let fits : StoreFits false store u.history = made_fits store (Some s) (Some u) n m made in
    let end = reports.works.end in
    let grown = end.2.1.0.0 false fits in
    let one : end.0 ≡ t = (let e = end.1 in cc) in
    let kept : (files_now end.0.history).config ≡ (files_now u.history).config =
    settings_read now end.0.history grown.fits_now ∙ (grown.config ∙ sym (settings_read store u.history fits)) in
    let same : (told_files t).config ≡ (told_files u).config =
    subst (λ (v : Told). (told_files v).config ≡ (told_files u).config) one kept in
    record { first = settings.first; free = settings.free; made = settings.made; config = same ∙ settings.config }

pub carried_drops : (source : Files) (repo : RepoState) (names : List (List ℕ)) (store now : Store) (a b d : Option Told) (n m k : ℕ)
    (x y z : Option (List ℕ)) (r : Result Carried CarryFault) → Works SettlesFirst IsMadeNew a b n m (Ok store)
    → ReportsWhole (drill_origin source repo) names (target_state b m store) (target_state d k now) (drawn_from y z) r → DropsFirst a b x y
    → OnOk r (DropsFirst a d x z)
carried_drops source repo names store now a b d n m k x y z (Err fault) made reports drops = tt
carried_drops source repo names store now a b d n m k x y z (Ok total) made reports drops =
    let salts = salts_of reports.records in
    let all = drawn_both x y z (drops.dropped ++ (drops.bytes ++ drops.rest)) salts drops.drew reports.accepts.1.drawn in
    let grouped : (drops.dropped ++ (drops.bytes ++ drops.rest)) ++ salts ≡ drops.dropped ++ (drops.bytes ++ (drops.rest ++ salts)) =
    append_assoc drops.dropped (drops.bytes ++ drops.rest) salts
    ∙ ap (λ (l : List ℕ). drops.dropped ++ l) (append_assoc drops.bytes drops.rest salts) in
    record {
      dropped = drops.dropped;
      size = drops.size;
      bytes = drops.bytes;
      rest = drops.rest ++ salts;
      drew = subst (λ (l : List ℕ). z ≡ option_map (λ all. all ++ l) x) grouped all;
      settings = settings_kept source repo names store now a b d n m k y z total drops.bytes made reports drops.settings;
    }

-- ---- statuses

-- a target that is read keeps its settings
settings_stay : (a b d : Option Told) (bytes : List ℕ) (E : History → History → Type 0) → Between a b E → Between b d (λ h g. g ≡ h)
    → IfSome a (λ _. IfSome b (λ t. HasSettingsOf bytes (told_files t))) → IfSome a (λ _. IfSome d (λ t. HasSettingsOf bytes (told_files t)))
settings_stay None b d bytes E each same settings = tt
settings_stay (Some s) b None bytes E each same settings = tt
settings_stay (Some s) None (Some t) bytes E each same settings = absurd (let e = each.1 in let no : ⊥ = cc in no)
settings_stay (Some s) (Some u) (Some t) bytes E each same settings =
    let one : same.0 ≡ t = (let e = same.1 in cc) in
    let history : u.history ≡ t.history = subst (λ (v : Told). u.history ≡ v.history) one (sym same.2) in
    subst (λ (h : History). HasSettingsOf bytes (files_now h)) history settings

drops_stay : (a b d : Option Told) (x z : Option (List ℕ)) (E : History → History → Type 0) → Between a b E → Between b d (λ h g. g ≡ h)
    → DropsFirst a b x z → DropsFirst a d x z
drops_stay a b d x z E each same drops = record {
  dropped = drops.dropped;
  size = drops.size;
  bytes = drops.bytes;
  rest = drops.rest;
  drew = drops.drew;
  settings = settings_stay a b d drops.bytes E each same drops.settings;
}

anyway_drops : (a d : Option Told) (x z : Option (List ℕ)) (status : Status) → DropsFirst a d x z → DropsWhere a d x z status
anyway_drops a d x z Statuses.Done drops = drops
anyway_drops a d x z Statuses.No drops = drops
anyway_drops a d x z (Statuses.Usage word) drops = tt
anyway_drops a d x z Statuses.Memory drops = tt
anyway_drops a d x z Statuses.SourceDevice drops = tt
anyway_drops a d x z Statuses.TargetDevice drops = tt
anyway_drops a d x z Statuses.EntropyDevice drops = tt
anyway_drops a d x z Statuses.OutputDevice drops = drops
anyway_drops a d x z (Statuses.SourceRefused refusal) drops = tt
anyway_drops a d x z (Statuses.TargetRefused refusal) drops = tt
anyway_drops a d x z (Statuses.Taken name) drops = tt
anyway_drops a d x z (Statuses.NotFound what) drops = tt
anyway_drops a d x z (Statuses.Limit limit) drops = tt

-- where all was copied, and the target was checked
pub finished_drops : (a b d : Option Told) (x z : Option (List ℕ)) (E : History → History → Type 0) (status : Status) → Between a b E
    → Between b d (λ h g. g ≡ h) → DropsFirst a b x z → DropsWhere a d x z status
finished_drops a b d x z E status each same drops = anyway_drops a d x z status (drops_stay a b d x z E each same drops)

-- where not all was copied, nothing is said
module _ (a d : Option Told) (x z : Option (List ℕ)) where
  of_source : (fault : RepoFault) → DropsWhere a d x z (repo_status fault)
  of_source Repos.NoCommit = tt
  of_source (Repos.Damaged segment at) = tt
  of_source (Repos.Config cause) = tt
  of_source (Repos.Key cause) = tt
  of_source (Repos.Missing id) = tt
  of_source (Repos.Blob id cause) = tt
  of_source (Repos.Manifest cause) = tt
  of_source (Repos.Archive id cause) = tt
  of_source (Repos.Item id cause) = tt
  of_source (Repos.Size id) = tt
  of_source (Repos.KeyFile cause) = tt
  of_source (Repos.Other file config) = tt
  of_source Repos.NoKey = tt
  of_source Repos.Device = tt
  of_source Repos.Memory = tt

  of_target : (fault : RepoFault) → DropsWhere a d x z (target_status fault)
  of_target Repos.NoCommit = tt
  of_target (Repos.Damaged segment at) = tt
  of_target (Repos.Config cause) = tt
  of_target (Repos.Key cause) = tt
  of_target (Repos.Missing id) = tt
  of_target (Repos.Blob id cause) = tt
  of_target (Repos.Manifest cause) = tt
  of_target (Repos.Archive id cause) = tt
  of_target (Repos.Item id cause) = tt
  of_target (Repos.Size id) = tt
  of_target (Repos.KeyFile cause) = tt
  of_target (Repos.Other file config) = tt
  of_target Repos.NoKey = tt
  of_target Repos.Device = tt
  of_target Repos.Memory = tt

  of_refusal : (refusal : StoreRefusal) → DropsWhere a d x z (store_status refusal)
  of_refusal (Stores.Repo fault) = of_target fault
  of_refusal (Stores.Write Writes.Device) = tt
  of_refusal (Stores.Write Writes.Memory) = tt
  of_refusal (Stores.Write Writes.Numbers) = tt
  of_refusal (Stores.Nonce Nonces.Missing) = tt
  of_refusal (Stores.Nonce Nonces.Text) = tt
  of_refusal (Stores.Nonce Nonces.Exhausted) = tt
  of_refusal (Stores.Nonce Nonces.Device) = tt
  of_refusal (Stores.Nonce Nonces.Memory) = tt
  of_refusal Stores.Committed = tt
  of_refusal Stores.TooLarge = tt
  of_refusal Stores.Entropy = tt
  of_refusal Stores.Memory = tt

  pub refused_drops : (fault : CarryFault) → DropsWhere a d x z (carry_status fault)
  refused_drops (Carry.Source fault) = of_source fault
  refused_drops (Carry.Target refusal) = of_refusal refusal
  refused_drops (Carry.Taken name) = tt
  refused_drops (Carry.NotFound name) = tt
  refused_drops Carry.Pieces = tt
  refused_drops Carry.Memory = tt
  refused_drops Carry.Record = tt
