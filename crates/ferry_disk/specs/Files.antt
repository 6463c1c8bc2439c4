-- The files of a repository (BorgBackup 1.2, Internals, Repository): `config`, `nonce`, `README`, and the numbered
-- segments below `data`.
use Rattle.std.specs.Prelude.{ℕ, List, [], Option, Some, None, unwrap_or, refl}
use Rattle.std.specs.Ordering.{nat_cmp}
use Rattle.std.specs.FinMap.{FinMap, get, insert, remove, empty, keys, code}
use Rattle.std.specs.Coded.{Coded, code_by, coded×, coded_ℕ, coded_list, coded_option}
use Rattle.ferry_disk.specs.declared.name.Name.{Name}
use Rattle.ferry_disk.specs.declared.name.Name.TheVariants.{Config, Nonce, Readme, Segment}

-- the bytes of each file that is there
pub record Files : Type 0 where
  pub config : Option (List ℕ)
  pub nonce : Option (List ℕ)
  pub readme : Option (List ℕ)
  pub segments : FinMap nat_cmp (List ℕ)

-- no file
abbrev pub no_files : Files
no_files = record { config = None; nonce = None; readme = None; segments = empty }

-- the bytes of a file, where it is there
abbrev pub file_at : Files → Name → Option (List ℕ)
file_at files Config = files.config
file_at files Nonce = files.nonce
file_at files Readme = files.readme
file_at files (Segment number) = get files.segments number

-- the bytes of a file, none where it is absent
abbrev pub contents_at : Files → Name → List ℕ
contents_at files name = unwrap_or (file_at files name) []

-- the numbers of the segments that are there, increasing
abbrev pub segment_numbers : Files → List ℕ
segment_numbers files = keys files.segments

-- the bytes of a segment, none where it is absent
abbrev pub segment_bytes : Files → ℕ → List ℕ
segment_bytes files number = contents_at files (Segment number)

-- the files with this one in the place of what had its name
abbrev pub with_file : Files → Name → List ℕ → Files
with_file files Config bytes = record files { config = Some bytes }
with_file files Nonce bytes = record files { nonce = Some bytes }
with_file files Readme bytes = record files { readme = Some bytes }
with_file files (Segment number) bytes = record files { segments = insert files.segments number bytes }

-- the files without this segment
abbrev pub without_segment : Files → ℕ → Files
without_segment files number = record files { segments = remove files.segments number }

-- files are stored as the tuple of their parts
abbrev pub coded_file : Coded (Option (List ℕ))
coded_file = coded_option (coded_list coded_ℕ)

abbrev pub coded_files : Coded Files
coded_files = code_by (Option (List ℕ) × (Option (List ℕ) × (Option (List ℕ) × FinMap nat_cmp (List ℕ))))
    (coded× coded_file (coded× coded_file (coded× coded_file (code coded_ℕ (coded_list coded_ℕ)))))
    (λ f. (f.config, (f.nonce, (f.readme, f.segments))))
    (λ p. record { config = p.0; nonce = p.1.0; readme = p.1.1.0; segments = p.1.1.1 })
    (λ _. refl)
