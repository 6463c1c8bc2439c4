-- The texts of faults in printed lines.
use Rattle.std.specs.Prelude.{ℕ, List, [], ◌∷◌, ◌++◌, codes, decimal}
use Rattle.hex.specs.Hex.{encode_lower}
use Rattle.ferry_blob.specs.Fault.{number_of_fault as blob_number}
use Rattle.ferry_config.specs.Fault.{number_of_fault as config_number}
use Rattle.ferry_item.specs.Fault.{number_of_fault as item_number}
use Rattle.ferry_keyblob.specs.Fault.{number_of_fault as key_number}
use Rattle.ferry_keyfile.specs.Fault.{number_of_fault as key_file_number}
use Rattle.ferry_manifest.specs.Fault.{number_of_fault as manifest_number}
use Rattle.ferry_repo.specs.declared.fault.RepoFault.{RepoFault}
use Rattle.ferry_repo.specs.declared.fault.RepoFault.TheVariants.{NoCommit, Damaged, Config, Key, Missing, Blob, Manifest, Archive}
use Rattle.ferry_repo.specs.declared.fault.RepoFault.TheVariants.{Item, Size, KeyFile, Other, NoKey, Device, Memory}

-- why files are refused: what is wrong, with the number of its fault, its place or its id, and nothing where the files aren't
unfoldable pub reason : RepoFault → List ℕ
reason NoCommit = codes "no commit"
reason (Damaged segment at) = codes "damaged segment " ++ (decimal segment ++ (codes " at " ++ decimal at))
reason (Config fault) = codes "config " ++ decimal (config_number fault)
reason (Key fault) = codes "key " ++ decimal (key_number fault)
reason (Missing id) = codes "missing " ++ encode_lower id
reason (Blob id fault) = codes "blob " ++ (decimal (blob_number fault) ++ (32 ∷ encode_lower id))
reason (Manifest fault) = codes "manifest " ++ decimal (manifest_number fault)
reason (Archive id fault) = codes "record " ++ (decimal (manifest_number fault) ++ (32 ∷ encode_lower id))
reason (Item id fault) = codes "items " ++ (decimal (item_number fault) ++ (32 ∷ encode_lower id))
reason (Size id) = codes "size " ++ encode_lower id
reason (KeyFile fault) = codes "key file " ++ decimal (key_file_number fault)
reason (Other file config) = codes "key file of " ++ encode_lower file
reason NoKey = codes "no key"
reason Device = []
reason Memory = []
