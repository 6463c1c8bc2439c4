-- What the command leaves that makes a source of its own, copies it into the target, and checks it.
use Rattle.std.specs.Prelude.{◌≡◌, ◌⊎◌, ◌+◌, ◌*◌, ◌++◌, ℕ, zero, suc, List, [], ◌∷◌, codes, decimal, length, true, Option, IfSome, option_map}
use Rattle.ferry_carry.specs.Lines.{name_line, told_of, total_line}
use Rattle.ferry_carry.specs.declared.options.Carried.{Carried}
use Rattle.ferry_check.specs.Verify.{AllOpen, FilesVerify, FirstBad}
use Rattle.ferry_disk.specs.Act.{History, files_now}
use Rattle.ferry_disk.specs.Device.{Rose, Told, WritesSome, told_files}
use Rattle.ferry_disk.specs.Files.{Files, file_at}
use Rattle.ferry_disk.specs.declared.name.Name.TheVariants.{Nonce as NonceFile}
use Rattle.ferry_gen.specs.Archives.{HasArchives, contents_from}
use Rattle.ferry_gen.specs.Content.{archive_name}
use Rattle.ferry_gen.specs.Source.{HasPlain, IsSource, item_names}
use Rattle.ferry_log.specs.Log.{IsUncommitted}
use Rattle.ferry_nonce.specs.Counter.{HasNoNumber}
use Rattle.ferry_nonce.specs.declared.fault.NonceFault.TheVariants as Nonces
use Rattle.ferry_piece.specs.Gather.{NoCollision}
use Rattle.ferry_repo.specs.Opening.{OpensFilesTo, RepoState}
use Rattle.ferry_repo.specs.declared.fault.RepoFault.{RepoFault}
use Rattle.ferry_repo.specs.declared.secret.Secret.{Secret}
use Rattle.ferry_status.specs.Devices.{Written}
use Rattle.ferry_status.specs.Output.{HasBegun, HasPrinted}
use Rattle.ferry_status.specs.declared.status.Refusal.TheVariants.{Committed, Nonce}
use Rattle.ferry_status.specs.declared.status.Status.{Status}
use Rattle.ferry_status.specs.declared.status.Status.TheVariants as Statuses
use Rattle.ferry_status.specs.Status.{bad_line}
use Rattle.ferry_stops.specs.Counters.{IsNonce}
use Rattle.ferry_stops.specs.Tells.{lines_of}
use Rattle.ferry_store.specs.New.{IsMade}

-- ---- the target

-- the length of the pieces into which the target's contents are cut
abbrev pub target_block : ℕ
target_block = 512

-- what opens the target
abbrev pub target_secret : Secret
target_secret = record { passphrase = codes "target"; key_file = [] }

-- the timestamp of the new repository
abbrev pub drill_time : List ℕ
drill_time = codes "1970-01-01T00:00:00.000000"

-- the lines of so many archives that came, from an archive on
unfoldable pub lines_from : ℕ → ℕ → List (List ℕ)
lines_from archive zero = []
lines_from archive (suc count) = name_line (told_of true) (archive_name archive) ∷ lines_from (suc archive) count

-- No contents of the archives that files have collide: among all of them equal ids mean equal contents, and none has the manifest's id.
abbrev pub NoneCollide : {secret : Secret} {block count : ℕ} {files : Files} → HasArchives secret block count files → Type 0
NoneCollide {block = block} has = NoCollision has.repo.keys (contents_from has.repo.keys block zero has.texts)

-- Files open under the target's secret, and each live chunk opens there.
abbrev pub OpensAll : Files → Type 0
OpensAll files = (repo : RepoState) × (OpensFilesTo files target_secret repo × AllOpen files repo)

-- The target opens, and each live chunk there, and its manifest has the names of the items' fields, as the source's has. Where no contents of the source that
-- was made collide, it has its archives and no others. Where none of the target's contents collide either, the pieces of contents that were put are 280 for
-- each archive, and the 8 of the file that is the same in all of them, of 512 bytes each, and those of streams are one for each archive. The lines are those
-- of a transfer: one for each archive, and that of the whole.
pub record HasCopied (count : ℕ) (carried : Carried) (now : History) : Type 0 where
  pub source : Files
  pub source_is : IsSource count source
  pub plain : HasPlain source
  pub opened : OpensAll (files_now now)
  pub names : (repo : RepoState) → OpensFilesTo (files_now now) target_secret repo → repo.manifest.item_keys ≡ item_names
  pub archives : NoneCollide source_is → HasArchives target_secret target_block count (files_now now)
  pub chunks : (apart : NoneCollide source_is) → NoneCollide (archives apart) → carried.chunks ≡ 280 * count + 8
  pub bytes : (apart : NoneCollide source_is) → NoneCollide (archives apart) → carried.bytes ≡ 512 * (280 * count + 8)
  pub meta : (apart : NoneCollide source_is) → NoneCollide (archives apart) → carried.meta ≡ count
  pub lines : lines_of now.acts ≡ lines_from zero count ++ total_line carried ∷ []
  pub transferred : carried.transferred ≡ count
  pub present : carried.present ≡ 0

-- The target doesn't verify: this is its first fault.
abbrev pub HasBad : Files → RepoFault → Type 0
HasBad files fault = (repo : RepoState) × (OpensFilesTo files target_secret repo × FirstBad files repo fault)

-- ---- the random bytes

-- Files have the settings of a new repository that is made of these bytes, with an id and a key of them.
pub record HasSettingsOf (bytes : List ℕ) (files : Files) : Type 0 where
  pub first : Files
  pub free : ℕ
  pub made : IsMade target_secret 1 drill_time free bytes first
  pub config : files.config ≡ first.config

-- A hundred bytes were drawn and dropped, and the target's settings are of those that were drawn next.
pub record DropsFirst (before now : Option Told) (drawn drawn_now : Option (List ℕ)) : Type 0 where
  pub dropped : List ℕ
  pub size : length dropped ≡ 100
  pub bytes : List ℕ
  pub rest : List ℕ
  pub drew : drawn_now ≡ option_map (λ all. all ++ (dropped ++ (bytes ++ rest))) drawn
  pub settings : IfSome before (λ _. IfSome now (λ t. HasSettingsOf bytes (told_files t)))

-- So it was where all was copied, whatever the check found, and whether or not the output failed.
abbrev pub DropsWhere : Option Told → Option Told → Option (List ℕ) → Option (List ℕ) → Status → Type 0
DropsWhere before now drawn drawn_now Statuses.Done = DropsFirst before now drawn drawn_now
DropsWhere before now drawn drawn_now Statuses.No = DropsFirst before now drawn drawn_now
DropsWhere before now drawn drawn_now Statuses.OutputDevice = DropsFirst before now drawn drawn_now
DropsWhere before now drawn drawn_now status = Unit {0}

-- ---- lines

-- the line of a drill of so many archives that is done
abbrev pub done_line : ℕ → Carried → List ℕ
done_line count carried =
    codes "drill " ++ (decimal count ++ (codes ": transferred " ++ (decimal carried.transferred ++ (codes " chunks " ++ (decimal carried.chunks
    ++ (codes " bytes " ++ (decimal carried.bytes ++ codes " check ok\n")))))))

-- The text is the line of a drill that is done, and the target verifies.
abbrev pub SaysDone : ℕ → Option Told → List ℕ → Type 0
SaysDone count now text = (carried : Carried)
    × (IfSome now (λ t. HasCopied count carried t.history × FilesVerify (told_files t) target_secret) × (text ≡ done_line count carried))

-- The text is the line of a target that doesn't verify.
abbrev pub SaysBad : Option Told → List ℕ → Type 0
SaysBad now text = (fault : RepoFault) × (IfSome now (λ t. HasBad (files_now t.history) fault) × (text ≡ bad_line fault))

-- What a drill has written when it ends with a status: its line, all of it, or so much as the output or memory allowed; and nothing where the copy or the check
-- is refused.
abbrev pub PrintsDrill : ℕ → Option Told → Written → Status → Written → Type 0
PrintsDrill count now before Statuses.Done after = HasPrinted (SaysDone count now) before after
PrintsDrill count now before Statuses.No after = HasPrinted (SaysBad now) before after
PrintsDrill count now before Statuses.OutputDevice after =
    (text : List ℕ) × ((SaysDone count now text ⊎ SaysBad now text) × (WritesSome before.bytes text after.bytes × Rose before.faults after.faults))
PrintsDrill count now before Statuses.Memory after = HasBegun (λ text. SaysDone count now text ⊎ SaysBad now text) before after
PrintsDrill count now before status after = after ≡ before

-- ---- the files that the target had

-- Nothing is committed in these files, and the file `nonce` is absent or has a number.
pub record IsFree (files : Files) : Type 0 where
  pub uncommitted : IsUncommitted files
  pub number : ℕ
  pub counted : IsNonce (file_at files NonceFile) number

-- What a status says of the files that the target had: that a segment was committed, where it is refused for that; where the text of its file `nonce` is
-- refused, that none was, and that this file is there and has no number; and else, but for want of memory, its device, and the source of random bytes, that
-- none was, and that the file is absent or has a number.
abbrev pub TellsStart : Files → Status → Type 0
TellsStart start (Statuses.TargetRefused Committed) = IsUncommitted start → ⊥
TellsStart start (Statuses.TargetRefused (Nonce Nonces.Text)) = IsUncommitted start × HasNoNumber (file_at start NonceFile)
TellsStart start (Statuses.TargetRefused (Nonce fault)) = ⊥
TellsStart start Statuses.Memory = Unit {0}
TellsStart start Statuses.TargetDevice = Unit {0}
TellsStart start Statuses.EntropyDevice = Unit {0}
TellsStart start status = IsFree start
