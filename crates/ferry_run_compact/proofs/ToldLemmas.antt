-- Lemmas on the command that compacts a repository, over what its device tells: what it did, and the line behind it.
use Rattle.std.proofs.Common.{◌≡◌, inl, ℕ, Bool, true, List, [], Option, Some, None, Result, Ok, Err, IfSome}
use Rattle.std.proofs.Common.{refl, sym, ◌∙◌, subst}
use Rattle.ferry_compact.specs.Choice.{chosen_in}
use Rattle.ferry_compact.specs.Compact.{Compacts, KeepsBlocks, KeepsLive, NumbersStay, RemovesFront}
use Rattle.ferry_compact.specs.Fault.{compact_failed}
use Rattle.ferry_compact.specs.declared.fault.CompactFault.{CompactFault}
use Rattle.ferry_compact.specs.declared.fault.CompactFault.TheVariants as Faults
use Rattle.ferry_config.specs.Config.{config_of}
use Rattle.ferry_config.specs.declared.config.Config.{Config}
use Rattle.ferry_disk.proofs.MomentLemmas.{between_both, between_map, between_then}
use Rattle.ferry_disk.specs.Act.{History, TellOf, files_now, with_act}
use Rattle.ferry_disk.specs.Device.{RoseWhere, Told, told_files}
use Rattle.ferry_disk.specs.Faults.{FailedWhere, failed_told}
use Rattle.ferry_disk.specs.Files.{Files, contents_at}
use Rattle.ferry_disk.specs.Moments.{Between}
use Rattle.ferry_disk.specs.declared.name.Name.TheVariants.{Config as ConfigFile}
use Rattle.ferry_log.specs.State.{IsStateOf, LogState}
use Rattle.ferry_nonce.specs.Counter.{KeepsNumbers}
use Rattle.ferry_store.proofs.StepLemmas.{after_same, did_then, failed_then, known_then, rose_then}
use Rattle.ferry_store.specs.Fault.{depot_failed}
use Rattle.ferry_store.specs.State.{Did, IsStep}
use Rattle.ferry_store.specs.declared.fault.StoreRefusal.{StoreRefusal}
use Rattle.ferry_status.proofs.TellLemmas.{AreSome, fail_as, first_then, keeps_then, rose_as, stays_then, stops_then, tell_numbers}
use Rattle.ferry_run_compact.specs.Compact.{CompactRemoves, HasCompacted, ReadsTarget}
use Rattle.ferry_run_compact.specs.Compact.{CompactEach, KeepsObjects}
use Rattle.ferry_run_compact.specs.Compact.{compact_refusal, compacted_line}
use Rattle.ferry_write.specs.Script.{AllDone}
use Rattle.ferry_write.specs.Session.{KeepsPlain, SettlesFirst}
use Rattle.ferry_run_compact.proofs.CompactLemmas.{Went, here_each, here_removes, went_each, went_removes}
use Rattle.ferry_run_compact.proofs.DoneLemmas.{Knows, compacts_done}

-- ---- the line behind it

each_then : (line : List ℕ) (h g i : History) → CompactEach h g → AllDone h g → AreSome g.acts → IsStep (TellOf line) g i → CompactEach h i
each_then line h g i each done some is = (
  λ e transaction log log_is. stops_then (KeepsObjects log (files_now h)) line h g i (each.0 e transaction log log_is) done is,
  (
    keeps_then line h g i each.1.0 done is,
    (stays_then KeepsNumbers line h g i (λ d k. tell_numbers line d k) each.1.1.0 done is, first_then (TellOf line) h g i each.1.1.1 (λ e. some) is),
  ),
)

ends_then : (state : LogState) (threshold count : ℕ) (h g i : History) → Knows state threshold count h g
    → i ≡ with_act (TellOf (compacted_line count)) true g → (h.acts ≡ [] → HasCompacted threshold h i)
ends_then state threshold count h g i knows tells e = record {
  state = state;
  reads = knows.is;
  config = knows.config;
  settings = knows.settings;
  count = count;
  compacted = g;
  compacts = knows.compacts;
  tells = tells;
}

-- ---- over what a device tells

-- what is said of a compaction, behind a log that was read
pub went_all : (state : LogState) (chosen : List ℕ) (a b c : Option Told) → Between a b (λ h g. g ≡ h) → IfSome a (λ t. IsStateOf (told_files t) state)
    → Between b c (KeepsLive state.transaction) → Between b c KeepsBlocks → Between b c NumbersStay → Between b c SettlesFirst
    → Between b c (RemovesFront state.transaction chosen) → Between b c KeepsPlain → Between a c (Went state chosen)
went_all state chosen a b c same is live kept numbers first removes plain =
    let One : History → History → Type 0 = λ h g. KeepsLive state.transaction h g × (KeepsBlocks h g × NumbersStay h g) in
    let Two : History → History → Type 0 = λ h g. SettlesFirst h g × (RemovesFront state.transaction chosen h g × KeepsPlain h g) in
    between_map a c (λ h g. IsStateOf (files_now h) state × (One h g × Two h g)) (Went state chosen)
    (λ h g all. record {
      is = all.0;
      live = all.1.0.0;
      kept = all.1.0.1.0;
      numbers = all.1.0.1.1;
      first = all.1.1.0;
      removes = all.1.1.1.0;
      plain = all.1.1.1.1;
    })
    (known_then (λ h. IsStateOf (files_now h) state) (λ h g. One h g × Two h g) a c is
    (after_same (λ h g. One h g × Two h g) a b c same
    (between_both b c One Two
    (between_both b c (KeepsLive state.transaction) (λ h g. KeepsBlocks h g × NumbersStay h g) live (between_both b c KeepsBlocks NumbersStay kept numbers))
    (between_both b c SettlesFirst (λ h g. RemovesFront state.transaction chosen h g × KeepsPlain h g) first
    (between_both b c (RemovesFront state.transaction chosen) KeepsPlain removes plain)))))

settings_known : (limit : ℕ) (a : Option Told) (state : LogState) → IfSome a (λ t. IsStateOf (told_files t) state)
    → IfSome a (λ t. (config : Config) × (config_of (contents_at (told_files t) ConfigFile) ≡ Ok config) × (limit ≡ config.limit))
    → IfSome a (λ t. IsStateOf (told_files t) state
    × ((config : Config) × (config_of (contents_at (told_files t) ConfigFile) ≡ Ok config) × (limit ≡ config.limit)))
settings_known limit None state is config = tt
settings_known limit (Some told) state is config = (is, config)

-- the segments are compacted
did_all_of : (limit : ℕ) (state : LogState) (threshold count : ℕ) (a b c : Option Told) (n m k : ℕ) → Between a b (λ h g. g ≡ h)
    → IfSome a (λ t. IsStateOf (told_files t) state)
    → IfSome a (λ t. (config : Config) × (config_of (contents_at (told_files t) ConfigFile) ≡ Ok config) × (limit ≡ config.limit))
    → Between a c (Went state (chosen_in threshold state.extents)) → Between b c (Compacts limit state threshold count)
    → failed_told b ≡ failed_told a → failed_told c ≡ failed_told b → m ≡ n → k ≡ m
    → Did CompactEach (Knows state threshold) a c n k (Ok count)
did_all_of limit state threshold count a b c n m k same is config went compacts ended ends read caused =
    let chosen = chosen_in threshold state.extents in
    let Settings : Files → Type 0 = λ f. IsStateOf f state
    × ((config : Config) × (config_of (contents_at f ConfigFile) ≡ Ok config) × (limit ≡ config.limit)) in
    let All : History → History → Type 0 = λ h g. Settings (files_now h) × (Went state chosen h g × Compacts limit state threshold count h g) in
    record {
      each = between_map a c (Went state chosen) CompactEach (went_each state chosen) went;
      end = between_map a c All (λ h g. AllDone h g × Knows state threshold count h g)
          (λ h g all.
          let done = compacts_done limit state threshold count h g all.0.0 all.1.0.plain all.1.1 in (
            done.0,
            record {
              is = all.0.0;
              config = all.0.1.0;
              settings = all.0.1.1;
              compacts = subst (λ (m : ℕ). Compacts m state threshold count h g) all.0.1.2 all.1.1;
              some = done.1;
            },
          ))
          (known_then (λ h. Settings (files_now h)) (λ h g. Went state chosen h g × Compacts limit state threshold count h g) a c
          (settings_known limit a state is config)
          (between_both a c (Went state chosen) (Compacts limit state threshold count) went
          (after_same (Compacts limit state threshold count) a b c same compacts)));
      ends = ends ∙ ended;
      cause = caused ∙ read;
    }

-- and the line is told, or isn't
pub did_compact : (limit : ℕ) (state : LogState) (threshold count : ℕ) (a b c d : Option Told) (n m k l : ℕ) (result : Result (Unit {0}) StoreRefusal)
    → Between a b (λ h g. g ≡ h) → IfSome a (λ t. IsStateOf (told_files t) state)
    → IfSome a (λ t. (config : Config) × (config_of (contents_at (told_files t) ConfigFile) ≡ Ok config) × (limit ≡ config.limit))
    → Between a c (Went state (chosen_in threshold state.extents)) → Between b c (Compacts limit state threshold count)
    → failed_told b ≡ failed_told a → failed_told c ≡ failed_told b → m ≡ n → k ≡ m
    → Did (IsStep (TellOf (compacted_line count))) (λ _ h g. g ≡ with_act (TellOf (compacted_line count)) true h) c d k l result
    → Did CompactEach (λ _ h g. h.acts ≡ [] → HasCompacted threshold h g) a d n l result
did_compact limit state threshold count a b c d n m k l result same is config went compacts ended ends read caused tells =
    let line = compacted_line count in
    did_then CompactEach (Knows state threshold) (IsStep (TellOf line)) (λ _ h g. g ≡ with_act (TellOf line) true h) CompactEach
    (λ _ h g. h.acts ≡ [] → HasCompacted threshold h g) a c d n k l count result (λ h g i each done knows is. each_then line h g i each done knows.some is)
    (λ y h g i knows is. ends_then state threshold count h g i knows is)
    (did_all_of limit state threshold count a b c n m k same is config went compacts ended ends read caused) tells

fault_is : (fault : CompactFault) → depot_failed (compact_refusal fault) ≡ compact_failed fault
fault_is (Faults.Damaged segment at) = refl
fault_is Faults.Device = refl
fault_is Faults.Memory = refl
fault_is Faults.Numbers = refl

-- the segments aren't compacted
pub did_stop : (state : LogState) (chosen : List ℕ) (Q : Unit {0} → History → History → Type 0) (fault : CompactFault) (a b c : Option Told) (n m k : ℕ)
    → Between a c (Went state chosen) → failed_told b ≡ failed_told a → FailedWhere (compact_failed fault) b c → m ≡ n
    → RoseWhere (compact_failed fault) m k → Did CompactEach Q a c n k (Err (compact_refusal fault))
did_stop state chosen Q fault a b c n m k went ended ends read caused = record {
  each = between_map a c (Went state chosen) CompactEach (went_each state chosen) went;
  end = tt;
  ends = fail_as (depot_failed (compact_refusal fault)) (compact_failed fault) a c (fault_is fault) (failed_then (compact_failed fault) a b c ended ends);
  cause = rose_as (depot_failed (compact_refusal fault)) (compact_failed fault) n k (fault_is fault) (rose_then (compact_failed fault) n m k read caused);
}

-- neither the log nor the settings are read, or one of them isn't
pub did_read : (Q : Unit {0} → History → History → Type 0) (refusal : StoreRefusal) (d : Bool) (a b : Option Told) (n m : ℕ)
    → depot_failed refusal ≡ d → Between a b (λ h g. g ≡ h) → FailedWhere d a b → RoseWhere d n m → Did CompactEach Q a b n m (Err refusal)
did_read Q refusal d a b n m is same ends caused = record {
  each = between_map a b (λ h g. g ≡ h) CompactEach (λ h g e. subst (CompactEach h) (sym e) (here_each h)) same;
  end = tt;
  ends = fail_as (depot_failed refusal) d a b is ends;
  cause = rose_as (depot_failed refusal) d n m is caused;
}

-- ---- what was removed

pub told_removes : (threshold : ℕ) (told now : Option Told) → Between told now (λ h g. g ≡ h) → Between told now (CompactRemoves threshold)
told_removes threshold told now same =
    between_map told now (λ h g. g ≡ h) (CompactRemoves threshold) (λ h g e. subst (CompactRemoves threshold h) (sym e) (here_removes threshold h)) same

pub stop_removes : (state : LogState) (threshold : ℕ) (told now : Option Told) → Between told now (Went state (chosen_in threshold state.extents))
    → Between told now (CompactRemoves threshold)
stop_removes state threshold told now went =
    between_map told now (Went state (chosen_in threshold state.extents)) (CompactRemoves threshold)
    (λ h g went. went_removes state threshold [] h g g went (inl refl)) went

pub line_removes : (state : LogState) (threshold : ℕ) (line : List ℕ) (a c d : Option Told) → Between a c (Went state (chosen_in threshold state.extents))
    → Between c d (IsStep (TellOf line)) → Between a d (CompactRemoves threshold)
line_removes state threshold line a c d went tells =
    between_then a c d (Went state (chosen_in threshold state.extents)) (IsStep (TellOf line)) (CompactRemoves threshold)
    (λ h g i went tells. went_removes state threshold line h g i went tells) went tells

-- ---- where the log or the settings don't read

pub shut_same : (a b : Option Told) → Between a b (λ h g. g ≡ h) → Between a b (λ h g. (ReadsTarget (files_now h) → ⊥) → g ≡ h)
shut_same a b same = between_map a b (λ h g. g ≡ h) (λ h g. (ReadsTarget (files_now h) → ⊥) → g ≡ h) (λ h g e shut. e) same

pub shut_read : (limit : ℕ) (state : LogState) (a b d : Option Told) (E F : History → History → Type 0) → IfSome a (λ t. IsStateOf (told_files t) state)
    → IfSome a (λ t. (config : Config) × (config_of (contents_at (told_files t) ConfigFile) ≡ Ok config) × (limit ≡ config.limit)) → Between a b E
    → Between b d F
    → Between a d (λ h g. (ReadsTarget (files_now h) → ⊥) → g ≡ h)
shut_read limit state None b d E F reads settings p q = tt
shut_read limit state (Some s) b d E F reads settings p q =
    let each = between_then (Some s) b d E F (λ h g. Unit {0}) (λ h g i e f. tt) p q in
    (each.0, each.1, λ shut. absurd (shut ((state, reads), (settings.0, settings.1))))
