-- What a run says of its devices: what its command does, and what its fault line does.
use Rattle.std.specs.Prelude.{◌≡◌, ℕ, Option, Result, Ok, Err}
use Rattle.ferry_disk.specs.Files.{contents_at}
use Rattle.ferry_disk.specs.declared.name.Name.TheVariants as Name
use Rattle.ferry_disk.specs.Device.{Told}
use Rattle.ferry_disk.specs.Moments.{Between}
use Rattle.ferry_repo.specs.declared.secret.Secret.{Secret}
use Rattle.ferry_repo.specs.Opening.{RefusesKey, RefusesRepo}
use Rattle.ferry_status.specs.Output.{Prints, PrintsAsRead, Reports}
use Rattle.ferry_status.specs.Devices.{Devices, Written, HasCauses}
use Rattle.ferry_top.specs.Check.{Checks}
use Rattle.ferry_run_compact.specs.Compact.{CompactsTarget}
use Rattle.ferry_run_delete.specs.Delete.{DeletesArchive}
use Rattle.ferry_top.specs.Init.{MakesRepository, time_or}
use Rattle.ferry_top.specs.Keys.{IsListing}
use Rattle.ferry_top.specs.Key.{IsIdLine}
use Rattle.ferry_top.specs.List.{IsArchiveListing, RefusesBy}
use Rattle.ferry_top.specs.MakeKey.{MakesKey}
use Rattle.ferry_run_drill.specs.Drilling.{DrillsTarget}
use Rattle.ferry_run_plan.specs.Planning.{PlansTransfer, planned_for}
use Rattle.ferry_view.specs.Items.{IsFile, IsFileText, IsItemListing, IsItemText, RefusesFile, RefusesItems}
use Rattle.ferry_top.specs.Items.{LacksArchive, LacksPath, RefusesShowing, ShowsAsRead, ShowsWhole}
use Rattle.ferry_top.specs.Keys.{RefusesKeys}
use Rattle.ferry_run_tag.specs.Tag.{TagsArchives}
use Rattle.ferry_run_transfer.specs.Transfer.{asked}
use Rattle.ferry_run_transfer.specs.Transferring.{Transfers}
use Rattle.ferry_words.specs.declared.command.Command.{Command}
use Rattle.ferry_words.specs.declared.command.Command.TheVariants.{Keys, Key, List as ListArchives, ListItems, Extract, Check}
use Rattle.ferry_words.specs.declared.command.Command.TheVariants.{Init, MakeKey, Transfer, Plan, Delete, Compact, TagArchives, Drill}
use Rattle.ferry_status.specs.declared.status.Secrets.{Secrets}
use Rattle.ferry_status.specs.declared.status.Status.{Status}
use Rattle.ferry_write.specs.Session.{SettlesFirst}

-- what each command of the source writes, under the source's secret: the live keys, the key, the archives, the items of one, the content of
-- a file of it, or the report of a check; the other commands are none of the source
abbrev pub Shows : Command → Secret → Option Told → Written → Status → Written → Type 0
Shows Keys secret source before status after = Prints IsListing RefusesKeys source before status after
Shows Key secret source before status after =
    Prints (λ files text. IsIdLine secret (contents_at files Name.Config) text)
    (λ files. RefusesBy (RefusesKey (contents_at files Name.Config) secret))
    source before status after
Shows ListArchives secret source before status after =
    Prints (IsArchiveListing secret) (λ files. RefusesBy (RefusesRepo files secret)) source before status after
Shows (ListItems name) secret source before status after =
    PrintsAsRead (ShowsWhole secret (λ files repo. IsItemListing files repo name)) (ShowsAsRead secret (λ files repo. IsItemText files repo name))
    (RefusesShowing secret (λ files repo. RefusesItems files repo name)) (LacksArchive secret name)
    source before status after
Shows (Extract name path) secret source before status after =
    PrintsAsRead (ShowsWhole secret (λ files repo. IsFile files repo name path)) (ShowsAsRead secret (λ files repo. IsFileText files repo name path))
    (RefusesShowing secret (λ files repo. RefusesFile files repo name path)) (LacksPath secret name path)
    source before status after
Shows Check secret source before status after = Checks secret source before status after
Shows command secret source before status after = ⊥

-- A command of the source shows what it shows. Target and source of random bytes are not used.
pub record ReadsSource (command : Command) (secret : Secret) (before : Devices) (status : Status) (after : Devices) : Type 0 where
  pub shows : Shows command secret before.source.told before.output status after.output
  pub target : after.target ≡ before.target
  pub entropy : after.entropy ≡ before.entropy

-- what each command does, before the fault line: it makes a repository in the target, makes a key for it, copies archives into it, plans that, deletes one
-- of it, compacts it, tags those of it, copies a source of its own into it, or reads the source; where the words are no command, no device is used
abbrev pub DoesCommand : Result Command ℕ → Secrets → Devices → Status → Devices → Type 0
DoesCommand (Ok (Init iterations timestamp)) secrets before status after =
    MakesRepository secrets.target iterations (time_or timestamp) before status after
DoesCommand (Ok (MakeKey iterations)) secrets before status after = MakesKey secrets.target iterations before status after
DoesCommand (Ok (Transfer block checkpoint timestamp names)) secrets before status after =
    Transfers (asked secrets (record { block = block; checkpoint = checkpoint; timestamp = timestamp }) names before.source.told) before status after
DoesCommand (Ok (Plan block names)) secrets before status after = PlansTransfer (planned_for secrets block names before.source.told) before status after
DoesCommand (Ok (Delete timestamp name)) secrets before status after =
    DeletesArchive secrets.target name timestamp before status after
DoesCommand (Ok (Compact threshold)) secrets before status after = CompactsTarget threshold before status after
DoesCommand (Ok (TagArchives timestamp)) secrets before status after = TagsArchives secrets.target timestamp before status after
DoesCommand (Ok (Drill count)) secrets before status after = DrillsTarget count before status after
DoesCommand (Ok command) secrets before status after = ReadsSource command secrets.source before status after
DoesCommand (Err word) secrets before status after = after ≡ before

-- what a run leaves: what its command does, then the fault line, and the causes of its status; the first act in the target, where there is one, is a Settle
pub record Runs (words : Result Command ℕ) (secrets : Secrets) (before : Devices) (status : Status) (after : Devices) : Type 0 where
  pub between : Written
  pub command : DoesCommand words secrets before status (record after { output = between })
  pub report : Reports status between after.output
  pub first : Between before.target.told after.target.told SettlesFirst
  pub causes : HasCauses status before after
