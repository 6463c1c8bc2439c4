-- Lemmas on specs/Status.antt: a command that is refused for what it reads.
use Rattle.std.proofs.Common.{◌≡◌, true, false}
use Rattle.ferry_nonce.specs.declared.fault.NonceFault.TheVariants as Nonces
use Rattle.ferry_piece.specs.Fault.{IsOfReading, target_fault}
use Rattle.ferry_piece.specs.declared.fault.CarryFault.{CarryFault}
use Rattle.ferry_piece.specs.declared.fault.CarryFault.TheVariants as Carry
use Rattle.ferry_repo.specs.declared.fault.RepoFault.{RepoFault}
use Rattle.ferry_repo.specs.declared.fault.RepoFault.TheVariants as Repos
use Rattle.ferry_status.specs.Status.{carry_status, is_unread, repo_status}
use Rattle.ferry_status.specs.Telling.{RefusesTelling}
use Rattle.ferry_store.specs.declared.fault.StoreRefusal.{StoreRefusal}
use Rattle.ferry_store.specs.declared.fault.StoreRefusal.TheVariants as Stores
use Rattle.ferry_write.specs.declared.fault.WriteFault.TheVariants as Writes

no_unread : false ≡ true → ⊥
no_unread e = let no : ⊥ = cc in no

of_source : (fault : RepoFault) → is_unread (repo_status fault) ≡ true → ⊥
of_source Repos.NoCommit e = no_unread e
of_source (Repos.Damaged segment at) e = no_unread e
of_source (Repos.Config f) e = no_unread e
of_source (Repos.Key f) e = no_unread e
of_source (Repos.Missing id) e = no_unread e
of_source (Repos.Blob id f) e = no_unread e
of_source (Repos.Manifest f) e = no_unread e
of_source (Repos.Archive id f) e = no_unread e
of_source (Repos.Item id f) e = no_unread e
of_source (Repos.Size id) e = no_unread e
of_source (Repos.KeyFile f) e = no_unread e
of_source (Repos.Other file config) e = no_unread e
of_source Repos.NoKey e = no_unread e
of_source Repos.Device e = no_unread e
of_source Repos.Memory e = no_unread e

-- its fault is one of reading
pub unread_reading : (fault : CarryFault) → is_unread (carry_status fault) ≡ true → IsOfReading fault
unread_reading (Carry.Source fault) e = absurd (of_source fault e)
unread_reading (Carry.NotFound name) e = tt
unread_reading (Carry.Taken name) e = absurd (no_unread e)
unread_reading Carry.Pieces e = absurd (no_unread e)
unread_reading Carry.Memory e = absurd (no_unread e)
unread_reading Carry.Record e = absurd (no_unread e)
unread_reading (Carry.Target Stores.Committed) e = tt
unread_reading (Carry.Target (Stores.Nonce Nonces.Missing)) e = tt
unread_reading (Carry.Target (Stores.Nonce Nonces.Text)) e = tt
unread_reading (Carry.Target (Stores.Nonce Nonces.Exhausted)) e = absurd (no_unread e)
unread_reading (Carry.Target (Stores.Nonce Nonces.Device)) e = absurd (no_unread e)
unread_reading (Carry.Target (Stores.Nonce Nonces.Memory)) e = absurd (no_unread e)
unread_reading (Carry.Target (Stores.Write Writes.Device)) e = absurd (no_unread e)
unread_reading (Carry.Target (Stores.Write Writes.Memory)) e = absurd (no_unread e)
unread_reading (Carry.Target (Stores.Write Writes.Numbers)) e = absurd (no_unread e)
unread_reading (Carry.Target Stores.TooLarge) e = absurd (no_unread e)
unread_reading (Carry.Target Stores.Entropy) e = absurd (no_unread e)
unread_reading (Carry.Target Stores.Memory) e = absurd (no_unread e)
unread_reading (Carry.Target (Stores.Repo Repos.Device)) e = absurd (no_unread e)
unread_reading (Carry.Target (Stores.Repo Repos.Memory)) e = absurd (no_unread e)
unread_reading (Carry.Target (Stores.Repo Repos.NoCommit)) e = tt
unread_reading (Carry.Target (Stores.Repo (Repos.Damaged segment at))) e = tt
unread_reading (Carry.Target (Stores.Repo (Repos.Config f))) e = tt
unread_reading (Carry.Target (Stores.Repo (Repos.Key f))) e = tt
unread_reading (Carry.Target (Stores.Repo (Repos.Missing id))) e = tt
unread_reading (Carry.Target (Stores.Repo (Repos.Blob id f))) e = tt
unread_reading (Carry.Target (Stores.Repo (Repos.Manifest f))) e = tt
unread_reading (Carry.Target (Stores.Repo (Repos.Archive id f))) e = tt
unread_reading (Carry.Target (Stores.Repo (Repos.Item id f))) e = tt
unread_reading (Carry.Target (Stores.Repo (Repos.Size id))) e = tt
unread_reading (Carry.Target (Stores.Repo (Repos.KeyFile f))) e = tt
unread_reading (Carry.Target (Stores.Repo (Repos.Other file config))) e = tt
unread_reading (Carry.Target (Stores.Repo Repos.NoKey)) e = tt

-- a line that isn't told is none
pub telling_apart : (refusal : StoreRefusal) → RefusesTelling refusal → IsOfReading (target_fault refusal) → ⊥
telling_apart (Stores.Write Writes.Device) refused of = of
telling_apart (Stores.Write Writes.Memory) refused of = refused
telling_apart (Stores.Write Writes.Numbers) refused of = refused
telling_apart Stores.Memory refused of = of
telling_apart (Stores.Repo fault) refused of = refused
telling_apart (Stores.Nonce fault) refused of = refused
telling_apart Stores.Committed refused of = refused
telling_apart Stores.TooLarge refused of = refused
telling_apart Stores.Entropy refused of = refused
