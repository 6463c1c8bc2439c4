-- The faults of a repository: those of its parts, and which are the device's.
use Rattle.std.specs.Prelude.{ℕ, List, Bool, true, false}
use Rattle.ferry_config.specs.declared.fault.ConfigFault.{ConfigFault}
use Rattle.ferry_config.specs.declared.fault.ConfigFault.TheVariants as Config
use Rattle.ferry_disk.specs.declared.shelf.StoreFault.{StoreFault}
use Rattle.ferry_disk.specs.declared.shelf.StoreFault.TheVariants as Store
use Rattle.ferry_item.specs.declared.fault.ItemFault.{ItemFault}
use Rattle.ferry_item.specs.declared.fault.ItemFault.TheVariants as Items
use Rattle.ferry_keyblob.specs.declared.fault.KeyFault.{KeyFault}
use Rattle.ferry_keyblob.specs.declared.fault.KeyFault.TheVariants as Key
use Rattle.ferry_keyfile.specs.declared.fault.KeyFileFault.{KeyFileFault}
use Rattle.ferry_keyfile.specs.declared.fault.KeyFileFault.TheVariants as KeyFileKinds
use Rattle.ferry_log.specs.declared.fault.LogFault.{LogFault}
use Rattle.ferry_log.specs.declared.fault.LogFault.TheVariants as Log
use Rattle.ferry_manifest.specs.declared.fault.MetaFault.{MetaFault}
use Rattle.ferry_manifest.specs.declared.fault.MetaFault.TheVariants as Meta
use Rattle.ferry_repo.specs.declared.fault.RepoFault.{RepoFault}
use Rattle.ferry_repo.specs.declared.fault.RepoFault.TheVariants.{NoCommit, Damaged, Config, Key, Manifest, Archive, Item, KeyFile, Device, Memory}

-- the fault of a repository whose log doesn't open
abbrev pub log_fault : LogFault → RepoFault
log_fault Log.NoCommit = NoCommit
log_fault (Log.Damaged segment at) = Damaged segment at
log_fault Log.Device = Device
log_fault Log.Memory = Memory

-- that of a shelf
abbrev pub store_fault : StoreFault → RepoFault
store_fault Store.Failed = Device
store_fault Store.Memory = Memory

-- that of a file `config`
abbrev pub config_fault : ConfigFault → RepoFault
config_fault Config.Memory = Memory
config_fault fault = Config fault

-- that of a repository key
abbrev pub key_fault : KeyFault → RepoFault
key_fault Key.Memory = Memory
key_fault fault = Key fault

-- that of a key file
abbrev pub key_file_fault : KeyFileFault → RepoFault
key_file_fault KeyFileKinds.Memory = Memory
key_file_fault fault = KeyFile fault

-- that of a manifest
abbrev pub manifest_fault : MetaFault → RepoFault
manifest_fault Meta.Memory = Memory
manifest_fault fault = Manifest fault

-- that of an archive's record, which has this id
abbrev pub archive_fault : List ℕ → MetaFault → RepoFault
archive_fault id Meta.Memory = Memory
archive_fault id fault = Archive id fault

-- that of the items of an archive, whose record has this id
abbrev pub item_fault : List ℕ → ItemFault → RepoFault
item_fault id Items.Memory = Memory
item_fault id fault = Item id fault

-- whether a repository's device failed
abbrev pub repo_failed : RepoFault → Bool
repo_failed Device = true
repo_failed fault = false

-- a fault that says something of the files: neither the device's nor want of memory
abbrev pub IsOfFiles : RepoFault → Type 0
IsOfFiles Device = ⊥
IsOfFiles Memory = ⊥
IsOfFiles fault = Unit {0}
