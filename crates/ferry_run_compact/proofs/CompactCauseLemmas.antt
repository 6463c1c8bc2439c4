-- Lemmas on what refuses to compact a repository.
use Rattle.std.proofs.Common.{◌≡◌, ◌≢◌, ℕ, List, Option, Ok, Err, IfSome}
use Rattle.std.proofs.Common.{sym, ◌∙◌, subst}
use Rattle.ferry_config.specs.Config.{config_of}
use Rattle.ferry_config.specs.declared.config.Config.{Config}
use Rattle.ferry_config.specs.declared.fault.ConfigFault.{ConfigFault}
use Rattle.ferry_config.specs.declared.fault.ConfigFault.TheVariants as Configs
use Rattle.ferry_disk.proofs.DeviceLemmas.{told_with}
use Rattle.ferry_disk.specs.Device.{Told, heard, told_files}
use Rattle.ferry_disk.specs.Files.{Files, contents_at}
use Rattle.ferry_disk.specs.declared.name.Name.TheVariants.{Config as ConfigFile}
use Rattle.ferry_log.proofs.LawLemmas.{damaged_apart, uncommitted_apart}
use Rattle.ferry_log.specs.State.{IsStateOf, LogState}
use Rattle.ferry_repo.specs.Fault.{IsOfFiles, config_fault}
use Rattle.ferry_repo.specs.declared.fault.RepoFault.{RepoFault}
use Rattle.ferry_repo.specs.declared.fault.RepoFault.TheVariants as Repos
use Rattle.ferry_status.specs.declared.status.Limit.TheVariants as Limits
use Rattle.ferry_status.specs.declared.status.Refusal.TheVariants as Refusals
use Rattle.ferry_status.specs.declared.status.Status.{Status}
use Rattle.ferry_status.specs.declared.status.Status.TheVariants as Statuses
use Rattle.ferry_run_compact.specs.Compact.{IsCompactedUnless, RefusesCompacting, RefusesSettings}

-- ---- the settings

-- settings that don't read are refused by files whose log does
settings_refused : (files : Files) (state : LogState) (fault : ConfigFault) → IsStateOf files state
    → (fault ≢ Configs.Memory → config_of (contents_at files ConfigFile) ≡ Err fault) → RefusesSettings files (config_fault fault)
settings_refused files state Configs.Section is reads = ((state, is), reads (λ e. cc))
settings_refused files state Configs.Version is reads = ((state, is), reads (λ e. cc))
settings_refused files state Configs.Id is reads = ((state, is), reads (λ e. cc))
settings_refused files state Configs.Key is reads = ((state, is), reads (λ e. cc))
settings_refused files state Configs.Number is reads = ((state, is), reads (λ e. cc))
settings_refused files state Configs.Repeat is reads = ((state, is), reads (λ e. cc))
settings_refused files state Configs.Memory is reads = tt

pub settings_unread : (told later : Option Told) (state : LogState) (bytes : List ℕ) (fault : ConfigFault) → heard later ≡ heard told
    → IfSome told (λ t. IsStateOf (told_files t) state) → IfSome later (λ t. bytes ≡ contents_at (told_files t) ConfigFile)
    → (fault ≢ Configs.Memory → config_of bytes ≡ Err fault) → IfSome told (λ t. RefusesSettings (told_files t) (config_fault fault))
settings_unread told later state bytes fault same is read reads =
    told_with told later (λ f. IsStateOf f state) (λ f. bytes ≡ contents_at f ConfigFile) (λ f. RefusesSettings f (config_fault fault)) same
    (λ f s b. settings_refused f state fault s (λ some. subst (λ (x : List ℕ). config_of x ≡ Err fault) b (reads some))) is read

-- ---- where nothing refuses

-- the settings that are there, or an error that isn't
settings_apart : (files : Files) (config : Config) (fault : ConfigFault) → config_of (contents_at files ConfigFile) ≡ Ok config
    → config_of (contents_at files ConfigFile) ≡ Err fault → ⊥
settings_apart files config fault there other = let both : Ok config ≡ Err fault = sym there ∙ other in let no : ⊥ = cc in no

unread_apart : (files : Files) (state : LogState) (config : Config) (fault : RepoFault) → IsStateOf files state
    → config_of (contents_at files ConfigFile) ≡ Ok config → IsOfFiles fault → RefusesSettings files fault → ⊥
unread_apart files state config Repos.NoCommit is settings of refuses = uncommitted_apart files state.transaction refuses is.is.is
unread_apart files state config (Repos.Damaged segment at) is settings of refuses = damaged_apart files segment at state.transaction is.log refuses is.is
unread_apart files state config (Repos.Config fault) is settings of refuses = settings_apart files config fault settings refuses.1
unread_apart files state config (Repos.Key fault) is settings of refuses = refuses
unread_apart files state config (Repos.Missing id) is settings of refuses = refuses
unread_apart files state config (Repos.Blob id fault) is settings of refuses = refuses
unread_apart files state config (Repos.Manifest fault) is settings of refuses = refuses
unread_apart files state config (Repos.Archive id fault) is settings of refuses = refuses
unread_apart files state config (Repos.Item id fault) is settings of refuses = refuses
unread_apart files state config (Repos.Size id) is settings of refuses = refuses
unread_apart files state config (Repos.KeyFile fault) is settings of refuses = refuses
unread_apart files state config (Repos.Other file other) is settings of refuses = refuses
unread_apart files state config Repos.NoKey is settings of refuses = refuses
unread_apart files state config Repos.Device is settings of refuses = of
unread_apart files state config Repos.Memory is settings of refuses = of

pub compact_completes : (start image : Files) (state : LogState) (config : Config) (status : Status) → IsStateOf start state
    → config_of (contents_at start ConfigFile) ≡ Ok config → RefusesCompacting start image status → IsCompactedUnless image status
compact_completes start image state config Statuses.Done is settings r = tt
compact_completes start image state config Statuses.No is settings r = r
compact_completes start image state config (Statuses.Usage word) is settings r = r
compact_completes start image state config Statuses.Memory is settings r = tt
compact_completes start image state config Statuses.SourceDevice is settings r = r
compact_completes start image state config Statuses.TargetDevice is settings r = tt
compact_completes start image state config Statuses.EntropyDevice is settings r = r
compact_completes start image state config Statuses.OutputDevice is settings r = r
compact_completes start image state config (Statuses.SourceRefused refusal) is settings r = r
compact_completes start image state config (Statuses.TargetRefused (Refusals.Repo fault)) is settings r =
    absurd (unread_apart start state config fault is settings r.0 r.1)
compact_completes start image state config (Statuses.TargetRefused (Refusals.Nonce fault)) is settings r = r
compact_completes start image state config (Statuses.TargetRefused Refusals.Committed) is settings r = r
compact_completes start image state config (Statuses.Taken name) is settings r = r
compact_completes start image state config (Statuses.NotFound name) is settings r = r
compact_completes start image state config (Statuses.Limit Limits.Nonce) is settings r = r
compact_completes start image state config (Statuses.Limit Limits.Manifest) is settings r = r
compact_completes start image state config (Statuses.Limit Limits.Archive) is settings r = r
compact_completes start image state config (Statuses.Limit Limits.Segment) is settings r = r
compact_completes start image state config (Statuses.Limit Limits.Item) is settings r = r
