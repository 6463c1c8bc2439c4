-- The refusals of a store: those of its parts, and which are the target's or the source's of random bytes.
use Rattle.std.specs.Prelude.{ℕ, Bool, true, false}
use Rattle.ferry_disk.specs.declared.entropy.EntropyFault.{EntropyFault}
use Rattle.ferry_disk.specs.declared.shelf.StoreFault.{StoreFault}
use Rattle.ferry_disk.specs.declared.shelf.StoreFault.TheVariants as Store
use Rattle.ferry_keyblob.specs.declared.fault.KeyFault.{KeyFault}
use Rattle.ferry_keyblob.specs.declared.fault.KeyFault.TheVariants as KeyKinds
use Rattle.ferry_keyfile.specs.declared.fault.KeyFileFault.{KeyFileFault}
use Rattle.ferry_keyfile.specs.declared.fault.KeyFileFault.TheVariants as KeyFileKinds
use Rattle.ferry_nonce.specs.declared.fault.NonceFault.{NonceFault}
use Rattle.ferry_nonce.specs.declared.fault.NonceFault.TheVariants as Nonces
use Rattle.ferry_repo.specs.declared.fault.RepoFault.{RepoFault}
use Rattle.ferry_repo.specs.declared.fault.RepoFault.TheVariants as Repos
use Rattle.ferry_write.specs.declared.fault.WriteFault.{WriteFault}
use Rattle.ferry_write.specs.declared.fault.WriteFault.TheVariants as Writes
use Rattle.ferry_store.specs.declared.fault.StoreRefusal.{StoreRefusal}
use Rattle.ferry_store.specs.declared.fault.StoreRefusal.TheVariants.{Repo, Write, Nonce, Committed, TooLarge, Entropy, Memory}

-- the number of a refusal
abbrev pub number_of_refusal : StoreRefusal → ℕ
number_of_refusal (Repo fault) = 1
number_of_refusal (Write fault) = 2
number_of_refusal (Nonce fault) = 3
number_of_refusal Committed = 4
number_of_refusal TooLarge = 5
number_of_refusal Entropy = 6
number_of_refusal Memory = 7

-- that of a repository that doesn't open
abbrev pub repo_refusal : RepoFault → StoreRefusal
repo_refusal Repos.Memory = Memory
repo_refusal fault = Repo fault

-- that of a session
abbrev pub write_refusal : WriteFault → StoreRefusal
write_refusal Writes.Memory = Memory
write_refusal fault = Write fault

-- that of a counter
abbrev pub nonce_refusal : NonceFault → StoreRefusal
nonce_refusal Nonces.Memory = Memory
nonce_refusal fault = Nonce fault

-- that of a call of the depot beside them
abbrev pub store_refusal : StoreFault → StoreRefusal
store_refusal Store.Failed = Write Writes.Device
store_refusal Store.Memory = Memory

-- that of a key that was handed in
abbrev pub key_refusal : KeyFault → StoreRefusal
key_refusal KeyKinds.Memory = Memory
key_refusal fault = Repo (Repos.Key fault)

-- that of a key file that was handed in
abbrev pub key_file_refusal : KeyFileFault → StoreRefusal
key_file_refusal KeyFileKinds.Memory = Memory
key_file_refusal fault = Repo (Repos.KeyFile fault)

-- that of a source of random bytes
abbrev pub entropy_refusal : EntropyFault → StoreRefusal
entropy_refusal fault = Entropy

-- whether the depot failed
abbrev pub depot_failed : StoreRefusal → Bool
depot_failed (Repo Repos.Device) = true
depot_failed (Write Writes.Device) = true
depot_failed (Nonce Nonces.Device) = true
depot_failed refusal = false

-- whether the source of random bytes failed
abbrev pub source_failed : StoreRefusal → Bool
source_failed Entropy = true
source_failed refusal = false

-- whether a store that answers this is spent: the target failed, memory was refused, or the numbers of segments are used up
abbrev pub spends : StoreRefusal → Bool
spends (Write fault) = true
spends (Nonce Nonces.Device) = true
spends Memory = true
spends refusal = false
