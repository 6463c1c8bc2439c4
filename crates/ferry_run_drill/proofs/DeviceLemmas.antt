-- A depot in memory that was given no file has none.
use Rattle.std.proofs.Common.{◌≡◌, [], None, refl, subst, sym}
use Rattle.std.specs.FinMap.{get-empty}
use Rattle.std.specs.Ordering.{nat_cmp}
use Rattle.ferry_disk.specs.Act.{untouched}
use Rattle.ferry_disk.specs.Disk.{Disk, begun}
use Rattle.ferry_disk.specs.Files.{file_at, no_files}
use Rattle.ferry_disk.specs.declared.name.Name.{Name}
use Rattle.ferry_disk.specs.declared.name.Name.TheVariants.{Config, Nonce, Readme, Segment}
use Rattle.ferry_gen.specs.Source.{IsEmpty}

none_at : (name : Name) → file_at no_files name ≡ None
none_at Config = refl
none_at Nonce = refl
none_at Readme = refl
none_at (Segment n) = get-empty nat_cmp n

pub new_depot : (disk : Disk) → disk ≡ begun (untouched no_files) [] → IsEmpty disk.history
new_depot disk is = subst (λ (d : Disk). IsEmpty d.history) (sym is) (record { no_acts = refl; no_files = none_at })
