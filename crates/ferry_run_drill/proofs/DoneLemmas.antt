-- Lemmas on specs/Complete.antt: how a copy of the drill's source ends that is refused.
use Rattle.std.proofs.Common.{◌≡◌, ◌≤◌, ◌<◌, ◌+◌, inl, inr, ℕ, false, List, [], ◌∷◌, ◌++◌, Option, Some, None, Result, Ok, Err, IfErr, true}
use Rattle.std.proofs.Common.{IfSome, slice_get, refl, sym, ◌∙◌, ap, subst, arith, ◌*◌, length}
use Rattle.std.specs.List.{AllByRecursion}
use Rattle.ferry_carry.specs.Accepting.{LimitsNames}
use Rattle.ferry_carry.specs.Carrying.{Origin}
use Rattle.ferry_carry.specs.Refusals.{HasLargeRecord, HasLongItem, RefusesBehind, RefusesNames}
use Rattle.ferry_carry.specs.Telling.{KeepsReported, ReportsWhole, StopsBehind, TellsNames}
use Rattle.ferry_carry.specs.Turns.{StopsNames}
use Rattle.ferry_carry.specs.declared.options.Carried.{Carried}
use Rattle.ferry_disk.specs.Device.{Told, told_files}
use Rattle.ferry_disk.specs.Files.{Files}
use Rattle.ferry_gen.proofs.ListLemmas.{entry_at, slice_at}
use Rattle.ferry_gen.specs.Archives.{drill_archive, entries_from, entry_of}
use Rattle.ferry_gen.specs.Content.{archive_name}
use Rattle.ferry_gen.specs.Source.{HasPlain, IsSource, source_secret}
use Rattle.ferry_manifest.specs.Manifest.Text.{ManifestText}
use Rattle.ferry_nonce.specs.declared.fault.NonceFault.TheVariants as Nonces
use Rattle.ferry_piece.proofs.AmongLemmas.{among_next}
use Rattle.ferry_piece.specs.Fault.{IsOfWork, shelf_failed}
use Rattle.ferry_piece.specs.Gather.{IsAmong}
use Rattle.ferry_piece.specs.Puts.{Addition}
use Rattle.ferry_piece.specs.Stops.{StopsTarget}
use Rattle.ferry_piece.specs.Work.{Works}
use Rattle.ferry_piece.specs.declared.fault.CarryFault.{CarryFault}
use Rattle.ferry_piece.specs.declared.fault.CarryFault.TheVariants as Carry
use Rattle.ferry_repo.proofs.LawLemmas.{one_repo}
use Rattle.ferry_repo.proofs.WholeLemmas.{whole_apart}
use Rattle.ferry_repo.specs.Archives.{archive_named}
use Rattle.ferry_repo.specs.Fault.{IsOfFiles, repo_failed}
use Rattle.ferry_repo.specs.Opening.{OpensFilesTo, RepoState, repo_view}
use Rattle.ferry_repo.specs.Whole.{RefusesWhole}
use Rattle.ferry_repo.specs.declared.fault.RepoFault.{RepoFault}
use Rattle.ferry_repo.specs.declared.fault.RepoFault.TheVariants as Repos
use Rattle.ferry_repo.specs.declared.secret.Secret.{Secret}
use Rattle.ferry_run_transfer.specs.Transfer.{chosen_of}
use Rattle.ferry_status.specs.Status.{carry_status, output_failed}
use Rattle.ferry_status.specs.Opened.{IsDoneUnless}
use Rattle.ferry_store.specs.Causes.{StopsAt}
use Rattle.ferry_store.specs.Commit.{accepted_in}
use Rattle.ferry_store.specs.declared.fault.StoreRefusal.{StoreRefusal}
use Rattle.ferry_store.specs.declared.fault.StoreRefusal.TheVariants as Stores
use Rattle.ferry_store.specs.declared.store.Store.{Store}
use Rattle.ferry_write.specs.Script.{AllDone}
use Rattle.ferry_write.specs.Session.{SettlesFirst}
use Rattle.ferry_write.specs.declared.fault.WriteFault.TheVariants as Writes
use Rattle.ferry_run_drill.proofs.CopyLemmas.{chosen_names, source_says}
use Rattle.ferry_run_drill.proofs.NameLemmas.{SaysAll, below_none, names_from, names_size}
use Rattle.ferry_run_drill.proofs.ManifestLemmas.{IsShort, entries_short, never_limited}
use Rattle.ferry_run_drill.proofs.OpenLemmas.{accepts_first}
use Rattle.ferry_run_drill.proofs.RefusedLemmas.{among_named, apart_front, named_among, none_breaks, one_front, same_start, told_once}
use Rattle.ferry_run_drill.proofs.SmallLemmas.{no_long, none_large}
use Rattle.ferry_run_drill.specs.Complete.{EndsFrom, MeetsLimit}
use Rattle.ferry_run_drill.specs.Drill.{NoneCollide}
use Rattle.ferry_run_drill.specs.Steps.{IsMadeNew, drill_origin}
use Rattle.ferry_run_drill.proofs.FewLemmas.{never_used}
use Rattle.ferry_carry.specs.Listing.{BeginsNames}
use Rattle.ferry_piece.specs.Adding.{BeginsSegments}
use Rattle.ferry_carry.specs.States.{target_state, drawn_from}

-- names of the drill's archives, from a source that was made, into a target that was made
module _ (count : ℕ) (source : Files) (is : IsSource count source) (repo : RepoState) (opens : OpensFilesTo source source_secret repo) (most : count ≤ 64)
    (plain : HasPlain source) (apart : NoneCollide is) (store now : Store) (s u t : Told) (begun : s.history.acts ≡ [])
    (first : SettlesFirst s.history u.history) (done : AllDone s.history u.history) (made : IsMadeNew store s.history u.history) where
  abbrev From : Origin
  From = drill_origin source repo

  abbrev Names : List (List ℕ)
  Names = names_from 0 count

  abbrev Ends : CarryFault → Type 0
  Ends fault = IsDoneUnless (MeetsLimit (told_files s) (told_files t)) (λ other. output_failed other ≡ true) (carry_status fault)

  abbrev Refused : CarryFault → Type 0
  Refused fault = RefusesBehind From (Some u) store (Some t) now Names fault

  says : SaysAll source repo count
  says = source_says count source is repo opens most apart

  -- what holds of each archive's name holds of a refused one
  of_name : (P : List ℕ → Type 0) → ((archive : ℕ) → archive < count → P (archive_name archive)) → (before : List (List ℕ)) (name : List ℕ)
      (rest : List (List ℕ)) → Names ≡ before ++ name ∷ rest → P name
  of_name P each before name rest split =
      let at = among_named 0 count name (among_next Names before rest name split) in
      let e : 0 + at.0 ≡ at.0 = omega arith in
      subst P (sym (at.1.1 ∙ ap archive_name e)) (each at.0 at.1.0)

  -- no archive of the source is refused
  source_whole : (fault : RepoFault) → IsOfFiles fault → Refused (Carry.Source fault) → ⊥
  source_whole fault of_files one =
      of_name (λ name. RefusesWhole source repo.log repo.keys repo.manifest.archives name fault → ⊥)
      (λ archive low refused.
      whole_apart source repo.log repo.keys repo.manifest.archives (archive_name archive) (drill_archive archive) fault (says archive low) of_files refused)
      one.done one.name one.rest one.split (one.refused.0 of_files)

  source_ends : (fault : RepoFault) → repo_failed fault ≡ false → Refused (Carry.Source fault) → Ends (Carry.Source fault)
  source_ends Repos.NoCommit still one = absurd (source_whole Repos.NoCommit tt one)
  source_ends (Repos.Damaged segment at) still one = absurd (source_whole (Repos.Damaged segment at) tt one)
  source_ends (Repos.Config cause) still one = absurd (source_whole (Repos.Config cause) tt one)
  source_ends (Repos.Key cause) still one = absurd (source_whole (Repos.Key cause) tt one)
  source_ends (Repos.Missing id) still one = absurd (source_whole (Repos.Missing id) tt one)
  source_ends (Repos.Blob id cause) still one = absurd (source_whole (Repos.Blob id cause) tt one)
  source_ends (Repos.Manifest cause) still one = absurd (source_whole (Repos.Manifest cause) tt one)
  source_ends (Repos.Archive id cause) still one = absurd (source_whole (Repos.Archive id cause) tt one)
  source_ends (Repos.Item id cause) still one = absurd (source_whole (Repos.Item id cause) tt one)
  source_ends (Repos.Size id) still one = absurd (source_whole (Repos.Size id) tt one)
  source_ends (Repos.KeyFile cause) still one = absurd (source_whole (Repos.KeyFile cause) tt one)
  source_ends (Repos.Other file config) still one = absurd (source_whole (Repos.Other file config) tt one)
  source_ends Repos.NoKey still one = absurd (source_whole Repos.NoKey tt one)
  source_ends Repos.Device still one = absurd (let no : ⊥ = cc in no)
  source_ends Repos.Memory still one = tt

  -- no name is missing
  none_missing : (place : ℕ) (name : List ℕ) → slice_get Names place ≡ Some name → archive_named name repo.manifest.archives ≡ None → ⊥
  none_missing place name at missing =
      let one = among_named 0 count name (place, at) in
      let same = one_repo source source_secret is.repo repo is.opens opens in
      let archives : repo.manifest.archives ≡ entries_from repo.keys 0 is.texts =
      subst (λ (r : RepoState). r.manifest.archives ≡ entries_from r.keys 0 is.texts) same is.archives in
      let text = slice_at is.texts one.0 (omega (arith, one.1.0, is.texts_size)) in
      let found : archive_named (archive_name (0 + one.0)) repo.manifest.archives ≡ Some (entry_of repo.keys (0 + one.0) text.0) =
      ap (archive_named (archive_name (0 + one.0))) archives ∙ entry_at repo.keys 0 one.0 is.texts text.0 (omega (arith, is.texts_size, most)) text.1 in
      let e : None ≡ Some (entry_of repo.keys (0 + one.0) text.0) =
      sym missing ∙ (ap (λ (n : List ℕ). archive_named n repo.manifest.archives) one.1.1 ∙ found) in
      let no : ⊥ = cc in
      no

  -- the manifest is too large
  abbrev Limited : Type 0
  Limited = LimitsNames None repo.manifest (repo_view store.repo).keys (accepted_in store) Names
      (λ told. TellsNames (accepted_in store) told u.history t.history)

  never_large : Limited → ⊥
  never_large limited =
      let same = one_repo source source_secret is.repo repo is.opens opens in
      let archives : repo.manifest.archives ≡ entries_from repo.keys 0 is.texts =
      subst (λ (r : RepoState). r.manifest.archives ≡ entries_from r.keys 0 is.texts) same is.archives in
      never_limited repo.manifest (plain repo opens) (subst (AllByRecursion IsShort) (sym archives) (entries_short repo.keys 0 is.texts))
      (repo_view store.repo).keys Names (λ told. TellsNames (accepted_in store) told u.history t.history) (omega (arith, names_size 0 count, most))
      (subst (λ (m : ManifestText). LimitsNames None repo.manifest (repo_view store.repo).keys m Names
      (λ told. TellsNames (accepted_in store) told u.history t.history)) (accepts_first store s.history u.history made) limited)

  -- the target isn't written
  module _ (added : List Addition) (reported : KeepsReported From Names store added u.history t.history) where
    stopped_ends : (refusal : StoreRefusal) → (refusal ≡ Stores.TooLarge → Limited) → (refusal ≡ Stores.Write Writes.Numbers → ⊥)
        → StopsAt (told_files s) (told_files t) (repo_view store.repo).keys refusal → Ends (Carry.Target refusal)
    stopped_ends (Stores.Repo (Repos.Blob id fault)) limit unused stops =
        absurd (none_breaks From Names store added s.history u.history t.history begun first done made reported id fault stops)
    stopped_ends (Stores.Repo Repos.NoCommit) limit unused stops = absurd stops
    stopped_ends (Stores.Repo (Repos.Damaged segment at)) limit unused stops = absurd stops
    stopped_ends (Stores.Repo (Repos.Config cause)) limit unused stops = absurd stops
    stopped_ends (Stores.Repo (Repos.Key cause)) limit unused stops = absurd stops
    stopped_ends (Stores.Repo (Repos.Missing id)) limit unused stops = absurd stops
    stopped_ends (Stores.Repo (Repos.Manifest cause)) limit unused stops = absurd stops
    stopped_ends (Stores.Repo (Repos.Archive id cause)) limit unused stops = absurd stops
    stopped_ends (Stores.Repo (Repos.Item id cause)) limit unused stops = absurd stops
    stopped_ends (Stores.Repo (Repos.Size id)) limit unused stops = absurd stops
    stopped_ends (Stores.Repo (Repos.KeyFile cause)) limit unused stops = absurd stops
    stopped_ends (Stores.Repo (Repos.Other file config)) limit unused stops = absurd stops
    stopped_ends (Stores.Repo Repos.NoKey) limit unused stops = absurd stops
    stopped_ends (Stores.Repo Repos.Device) limit unused stops = tt
    stopped_ends (Stores.Repo Repos.Memory) limit unused stops = tt
    stopped_ends (Stores.Write Writes.Device) limit unused stops = tt
    stopped_ends (Stores.Write Writes.Memory) limit unused stops = tt
    stopped_ends (Stores.Write Writes.Numbers) limit unused stops = absurd (unused refl)
    stopped_ends (Stores.Nonce Nonces.Missing) limit unused stops = absurd stops
    stopped_ends (Stores.Nonce Nonces.Text) limit unused stops = absurd stops
    stopped_ends (Stores.Nonce Nonces.Exhausted) limit unused stops = inr stops
    stopped_ends (Stores.Nonce Nonces.Device) limit unused stops = tt
    stopped_ends (Stores.Nonce Nonces.Memory) limit unused stops = tt
    stopped_ends Stores.Committed limit unused stops = absurd stops
    stopped_ends Stores.TooLarge limit unused stops = absurd (never_large (limit refl))
    stopped_ends Stores.Entropy limit unused stops = tt
    stopped_ends Stores.Memory limit unused stops = tt

    target_ends : (refusal : StoreRefusal) → (Carry.Target refusal ≡ Carry.Target Stores.TooLarge → Limited)
        → (Carry.Target refusal ≡ Carry.Target (Stores.Write Writes.Numbers) → ⊥)
        → StopsTarget (Some t) (repo_view store.repo).keys (Carry.Target refusal) → Ends (Carry.Target refusal)
    target_ends refusal limit unused stops =
        stopped_ends refusal (λ e. limit (ap Carry.Target e)) (λ e. unused (ap Carry.Target e))
        (subst (λ (f : Files). StopsAt f (told_files t) (repo_view store.repo).keys refusal)
        (same_start From Names store added s.history u.history t.history begun first done made reported) stops)

  -- no name is taken
  taken_none : (taken : List ℕ) → StopsBehind From Names store (Some u) (Some t) → Refused (Carry.Taken taken) → ⊥
  taken_none taken stops one =
      let both : Some t ≡ Some stops.each.0 = stops.each.1 in
      let same : stops.each.0 ≡ t = cc in
      let each : KeepsReported From stops.done store stops.added u.history t.history × TellsNames (accepted_in store) stops.done u.history t.history =
      subst (λ (x : Told). KeepsReported From stops.done store stops.added u.history x.history
      × TellsNames (accepted_in store) stops.done u.history x.history)
      same stops.each.2 in
      let sizes = told_once (accepted_in store) u.history t.history stops.done one.done each.1 one.told in
      let fronts = one_front stops.done one.done stops.rest (one.name ∷ one.rest) (sym stops.split ∙ one.split) sizes in
      let at = one.refused.1.1 in
      let among = named_among From stops.done store stops.added s.history u.history t.history begun first done made each.0 now one.name at.fits
      at.most_kept.keys at.there in
      apart_front 0 count [] one.done one.name one.rest one.split (omega (arith, most)) (below_none 0)
      (subst (λ (l : List (List ℕ)). IsAmong l one.name) fronts among)

  pub refused_ends : (fault : CarryFault) (added : List Addition) → KeepsReported From Names store added u.history t.history → shelf_failed fault ≡ false
      → (fault ≡ Carry.Target Stores.TooLarge → Limited) → (fault ≡ Carry.Target (Stores.Write Writes.Numbers) → ⊥)
      → (IsOfWork fault → StopsBehind From Names store (Some u) (Some t))
      → RefusesNames From (Some u) store (Some t) now Names fault → Ends fault
  refused_ends (Carry.Source fault) added reported still limit unused stops (inl one) = source_ends fault still one
  refused_ends (Carry.Source fault) added reported still limit unused stops (inr telling) = absurd (let e = telling.0 in let no : ⊥ = cc in no)
  refused_ends (Carry.Target refusal) added reported still limit unused stops (inl one) = target_ends added reported refusal limit unused one.refused
  refused_ends (Carry.Target refusal) added reported still limit unused stops (inr telling) = target_ends added reported refusal limit unused telling.1
  refused_ends (Carry.Taken name) added reported still limit unused stops (inl one) =
      absurd (taken_none name (stops (record { shelf = refl; target = refl; random = refl; memory = λ e. let no : ⊥ = cc in no })) one)
  refused_ends (Carry.Taken name) added reported still limit unused stops (inr telling) = absurd (let e = telling.0 in let no : ⊥ = cc in no)
  refused_ends (Carry.NotFound name) added reported still limit unused stops missing =
      absurd (none_missing missing.0 missing.1.0.name missing.1.0.name_is missing.1.0.missing)
  refused_ends Carry.Pieces added reported still limit unused stops (inl one) =
      absurd (of_name (λ name. HasLongItem source From name → ⊥) (λ archive low. no_long source repo archive (says archive low)) one.done one.name one.rest
      one.split one.refused.1.0)
  refused_ends Carry.Pieces added reported still limit unused stops (inr telling) = absurd (let e = telling.0 in let no : ⊥ = cc in no)
  refused_ends Carry.Memory added reported still limit unused stops refused = tt
  refused_ends Carry.Record added reported still limit unused stops (inl one) =
      absurd (of_name (λ name. HasLargeRecord source From (repo_view store.repo).keys name → ⊥)
      (λ archive low. none_large source repo (repo_view store.repo).keys archive (says archive low)) one.done one.name one.rest one.split one.refused.1.0)
  refused_ends Carry.Record added reported still limit unused stops (inr telling) = absurd (let e = telling.0 in let no : ⊥ = cc in no)

-- the same, over what the target tells
pub uncopied_ends : (source : Files) (repo : RepoState) (names : List (List ℕ)) (store now : Store) (a b d : Option Told) (n m k : ℕ)
    (x y : Option (List ℕ)) (fault : CarryFault) → OpensFilesTo source source_secret repo → names ≡ chosen_of [] repo.manifest
    → Works SettlesFirst IsMadeNew a b n m (Ok store) → ReportsWhole (drill_origin source repo) names (target_state b m store) (target_state d k now)
    (drawn_from x y) (Err fault)
    → shelf_failed fault ≡ false
    → (fault ≡ Carry.Target Stores.TooLarge → IfSome b (λ u. IfSome d (λ t. LimitsNames None repo.manifest (repo_view store.repo).keys (accepted_in store)
    names
    (λ told. TellsNames (accepted_in store) told u.history t.history))))
    → (IsOfWork fault → StopsBehind (drill_origin source repo) names store b d) → RefusesNames (drill_origin source repo) b store d now names fault
    → EndsFrom source a d fault
uncopied_ends source repo names store now None b d n m k x y fault opens chosen made carried still limit stops refused = λ count most is plain apart. tt
uncopied_ends source repo names store now (Some s) b None n m k x y fault opens chosen made carried still limit stops refused = λ count most is plain
    apart. tt
uncopied_ends source repo names store now (Some s) None (Some t) n m k x y fault opens chosen made carried still limit stops refused =
    absurd (let e = made.end.1 in let no : ⊥ = cc in no)
uncopied_ends source repo names store now (Some s) (Some u) (Some t) n m k x y fault opens chosen made carried still limit stops refused =
    λ count most is plain apart begun free.
    let from = drill_origin source repo in
    let all : names ≡ names_from 0 count = chosen ∙ chosen_names count source is repo opens most in
    let ended : Some u ≡ Some made.end.0 = made.end.1 in
    let one : made.end.0 ≡ u = cc in
    let did = subst (λ (o : Told). AllDone s.history o.history × IsMadeNew store s.history o.history) one made.end.2 in
    let settled : Some u ≡ Some made.each.0 = made.each.1 in
    let two : made.each.0 ≡ u = cc in
    let first = subst (λ (o : Told). SettlesFirst s.history o.history) two made.each.2 in
    let told : Some t ≡ Some carried.works.each.0 = carried.works.each.1 in
    let three : carried.works.each.0 ≡ t = cc in
    let reported = subst (λ (o : Told). KeepsReported from names store carried.added u.history o.history) three carried.works.each.2 in
    refused_ends count source is repo opens most plain apart store now s u t begun first did.0 did.1 fault carried.added
    (subst (λ (l : List (List ℕ)). KeepsReported from l store carried.added u.history t.history) all reported) still
    (λ e. subst (λ (l : List (List ℕ)). LimitsNames None repo.manifest (repo_view store.repo).keys (accepted_in store) l
    (λ told. TellsNames (accepted_in store) told u.history t.history)) all (limit e))
    (λ e.
    never_used source repo store now count (accepted_in store) carried.added (repo_view store.repo).keys most
    (source_says count source is repo opens most apart) did.1.few
    (subst (λ (l : List (List ℕ)). BeginsNames from (repo_view store.repo).keys (accepted_in store) [] l carried.added) all carried.begins)
    (subst (λ (f : CarryFault). BeginsSegments {T = Carried} (2 * length carried.added + 2 * length (names_from 0 count)) store now (Err f)) e
    (subst (λ (l : List (List ℕ)). BeginsSegments {T = Carried} (2 * length carried.added + 2 * length l) store now (Err fault)) all carried.few)))
    (λ work. subst (λ (l : List (List ℕ)). StopsBehind from l store (Some u) (Some t)) all (stops work))
    (subst (λ (l : List (List ℕ)). RefusesNames from (Some u) store (Some t) now l fault) all refused)

-- whatever came of them
pub carried_ends : (source : Files) (repo : RepoState) (names : List (List ℕ)) (store now : Store) (a b d : Option Told) (n m k : ℕ)
    (x y : Option (List ℕ)) (r : Result Carried CarryFault) → Works SettlesFirst IsMadeNew a b n m (Ok store)
    → ReportsWhole (drill_origin source repo) names (target_state b m store) (target_state d k now) (drawn_from x y) r
    → IfErr r (λ fault. shelf_failed fault ≡ false)
    → IfErr r (StopsNames (drill_origin source repo) names store b d x y) → IfErr r (RefusesNames (drill_origin source repo) b store d now names)
    → IfErr r (λ fault. OpensFilesTo source source_secret repo → names ≡ chosen_of [] repo.manifest → EndsFrom source a d fault)
carried_ends source repo names store now a b d n m k x y (Ok total) made carried still stops refused = tt
carried_ends source repo names store now a b d n m k x y (Err fault) made carried still stops refused = λ opens chosen.
    uncopied_ends source repo names store now a b d n m k x y fault opens chosen made carried still stops.limit stops.stands refused

-- where the names are those of all archives
pub chosen_ends : (r : Result Carried CarryFault) (source : Files) (repo : RepoState) (names : List (List ℕ)) (a d : Option Told)
    → names ≡ chosen_of [] repo.manifest
    → IfErr r (λ fault. OpensFilesTo source source_secret repo → names ≡ chosen_of [] repo.manifest → EndsFrom source a d fault)
    → IfErr r (λ fault. OpensFilesTo source source_secret repo → EndsFrom source a d fault)
chosen_ends (Ok total) source repo names a d chosen ends = tt
chosen_ends (Err fault) source repo names a d chosen ends = λ opens. ends opens chosen

-- and where the source was opened
pub source_copied : (r : Result Carried CarryFault) (source later : Files) (secret : Secret) (repo : RepoState) (a d : Option Told) → later ≡ source
    → secret ≡ source_secret → OpensFilesTo source secret repo
    → IfErr r (λ fault. OpensFilesTo later source_secret repo → EndsFrom later a d fault) → IfErr r (EndsFrom source a d)
source_copied (Ok total) source later secret repo a d same is opens ends = tt
source_copied (Err fault) source later secret repo a d same is opens ends =
    let here : OpensFilesTo source source_secret repo = subst (λ (s : Secret). OpensFilesTo source s repo) is opens in
    subst (λ (f : Files). EndsFrom f a d fault) same (ends (subst (λ (f : Files). OpensFilesTo f source_secret repo) (sym same) here))
